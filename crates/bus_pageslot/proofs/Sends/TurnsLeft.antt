-- A turn of a tenure that is begun takes one of the turns that are left of it, and goes on in it or
-- ends it: here those of its pin and of its election, and that it takes the page.
use Rattle.std.proofs.Common.{◌≡◌, ℕ, ◌+◌, ◌-◌, ◌<◌, ◌≤◌, inr, Bool, true, false, cond, Option}
use Rattle.std.proofs.Common.{Some, None, IsSome, IsSomeAnd, nat_lt, ◌==◌, arith, refl, sym, ◌∙◌}
use Rattle.std.proofs.Common.{ap, is_some}
use Rattle.std.proofs.lemmas.Bool.{true≢false}
use Rattle.std.proofs.lemmas.Grind.{common_steps}
use Rattle.bus_register.specs.declared.registers.SenderNo.{SenderNo}
use Rattle.bus_presence.specs.declared.pins.Pin.TheVariants.{Away, Announcing, Validating, Pinned}
use Rattle.bus_presence.specs.declared.pins.Pin.TheVariants.{Unpinning, Invalidated}
use Rattle.bus_tenure.specs.Core.{Core, Election}
use Rattle.bus_tenure.specs.Classes.{is_last}
use Rattle.bus_tenure.specs.Seen.{tenure_of}
use Rattle.bus_tenure.specs.Situations.{core_begun, core_elected}
use Rattle.bus_tenure.specs.declared.pages.Page.{Page}
use Rattle.bus_tenure.specs.declared.phases.Phase.{Phase}
use Rattle.bus_tenure.specs.declared.phases.Phase.TheVariants.{Resting, Electing, Taken, Holding}
use Rattle.bus_tenure.specs.declared.phases.Phase.TheVariants.{Giving}
use Rattle.bus_tenure.specs.declared.turns.Turn.{Turn}
use Rattle.bus_tenure.specs.declared.turns.Turn.TheVariants as turn
use Rattle.bus_core.specs.Keeping.{sender}
use Rattle.bus_core.specs.Reusing.Keeping.{held_of}
use Rattle.bus_core.specs.Reusing.Turns.{answer_of_loss, tenure_begun_by}
use Rattle.bus_core.specs.Seen.{tenure_begun, begun_by}
use Rattle.bus_core.specs.Senders.{Sender, participant_of}
use Rattle.bus_core.specs.Table.{reuse_elected, answer_elected, reuse_taken, reuse_pinning, lost_of}
use Rattle.bus_core.specs.Telling.{HasBegunNone}
use Rattle.bus_core.specs.declared.reuses.Reuse.{Reuse}
use Rattle.bus_core.specs.Causes.{LeavesTenure, AsLoser, AsHolder, AsLate}
use Rattle.bus_core.specs.Places.{StandsIn}
use Rattle.bus_pageslot.specs.Finishing.{turns_to_clear, turns_in, turns_to_finish, is_behind}
use Rattle.bus_pageslot.specs.Finishing.{ends_tenure, StaysOrEnds}

-- who has begun none has begun no tenure
pub none_begun : {E : Type 0} (v : Sender E) → HasBegunNone v → tenure_begun v ≡ None
none_begun {E} v h = grind (arith, common_steps)

-- who stands in a tenure has begun one, whatever its pin
pub stands : {E : Type 0} (c : Core E) (r : Option Reuse) → IsSome (tenure_of c.phase)
    → IsSome (begun_by c r)
stands {E} c None some = some
stands {E} c (Some r) some = grind (arith, common_steps)

-- ---- one turn
module _ {E : Type 0} (X : Election E) where
  -- from one sender to another, with this answer
  pub record IsTurn (v : Sender E) (a : Turn) (w : Sender E) : Type 0 where
    pub falls : is_behind a ≡ false → turns_to_finish X w < turns_to_finish X v
    pub some : 0 < turns_to_finish X v
    pub outcome : StaysOrEnds v a w

  pub falls_some : (v w : Sender E) (a : Turn) → turns_to_finish X w < turns_to_finish X v
      → StaysOrEnds v a w → IsTurn v a w
  falls_some v w a less outcome = grind (arith, common_steps)

  -- it goes on in the same tenure
  abbrev IsSame : (v w : Sender E) → Type 0
  IsSame v w = tenure_begun w ≡ tenure_begun v

  -- ---- steps of its pin
  pub announces : (c : Core E) (r : Option Reuse) (t : ℕ) → IsSomeAnd r (λ y. y.pin ≡ Announcing t)
      → IsTurn (sender c r) turn.Going (sender c (reuse_pinning r (Validating t)))
  announces c None t p = absurd p
  announces c (Some r) t p = grind (arith, common_steps, falls_some)

  pub validates : (here : Bool) (c : Core E) (r : Option Reuse) (t : ℕ)
      → IsSomeAnd r (λ y. y.pin ≡ Validating t) → c.phase ≡ Resting
      → IsTurn (sender c r) turn.Going
      (sender (cond here (core_begun X c t) c)
      (reuse_pinning r (cond here (Pinned t) (Invalidated t))))
  validates here c None t p rests = absurd p
  validates true c (Some r) t p rests = grind (arith, common_steps, falls_some)
  validates false c (Some r) t p rests = grind (arith, common_steps, falls_some)

  -- once its presence is cleared it holds a page, or its tenure has ended
  parts : (c : Core E) (r : Reuse) (a : Turn) (ph : Phase E) → c.phase ≡ ph
      → is_last a ≡ false → is_behind a ≡ false → (ph ≡ Resting → ends_tenure a ≡ true)
      → ((u : ℕ) → tenure_of ph ≡ Some u → IsSame (sender c (Some r))
      (sender c (Some record r { pin = Away; lost = None })))
      → StaysOrEnds (sender c (Some r)) a (sender c (Some record r { pin = Away; lost = None }))
  parts c r a Resting e last other ends same =
      inr record { none = ap tenure_of e; ends = ends refl }
  parts c r a (Electing t f) e last other ends same =
      grind (arith, common_steps, is_some, true≢false)
  parts c r a (Taken t) e last other ends same = grind (arith, common_steps, is_some, true≢false)
  parts c r a (Holding t page stored published) e last other ends same =
      grind (arith, common_steps, is_some, true≢false)
  parts c r a (Giving t reason) e last other ends same =
      grind (arith, common_steps, is_some, true≢false)

  -- what it remembers of a loss is no last answer, and of no loss it holds a page
  lost_last : (t : ℕ) (o : Option SenderNo) → is_last (answer_of_loss t o) ≡ false
  lost_last t None = refl
  lost_last t (Some o) = refl

  lost_other : (t : ℕ) (o : Option SenderNo) → is_behind (answer_of_loss t o) ≡ false
  lost_other t None = refl
  lost_other t (Some o) = refl

  lost_ends : (t : ℕ) (o : Option SenderNo) → (answer_of_loss t o ≡ turn.Going → ⊥)
      → ends_tenure (answer_of_loss t o) ≡ true
  lost_ends t None going = absurd (going refl)
  lost_ends t (Some o) going = refl

  -- who has taken a page stands in its tenure
  held_stands : (t : ℕ) (ph : Phase E) → held_of ph ≡ Some t → tenure_of ph ≡ Some t
  held_stands t Resting e = absurd cc
  held_stands t (Electing u f) e = absurd cc
  held_stands t (Taken u) e = e
  held_stands t (Holding u page stored published) e = e
  held_stands t (Giving u reason) e = e

  -- who parts from a tenure and does not rest has taken the page of that one
  parts_same : (c : Core E) (r : Reuse) (t u : ℕ) → r.pin ≡ Unpinning t
      → LeavesTenure (participant_of c r) → tenure_of c.phase ≡ Some u
      → tenure_of c.phase ≡ tenure_begun_by c r.pin
  parts_same c r t u p (AsLoser s o pin lost rests) e =
      let bad : None ≡ Some u = sym (ap tenure_of rests) ∙ e in absurd cc
  parts_same c r t u p (AsHolder s pin held) e =
      held_stands s c.phase held ∙ sym (ap (tenure_begun_by c) pin)
  parts_same c r t u p (AsLate s pin rests) e =
      let bad : Unpinning t ≡ Invalidated s = sym p ∙ pin in absurd cc

  pub unpins : (c : Core E) (r : Option Reuse) (t : ℕ) → IsSomeAnd r (λ y. y.pin ≡ Unpinning t)
      → (answer_of_loss t (lost_of r) ≡ turn.Going → held_of c.phase ≡ Some t)
      → IsSomeAnd r (λ y. LeavesTenure (participant_of c y))
      → IsTurn (sender c r) (answer_of_loss t (lost_of r)) (sender c (reuse_pinning r Away))
  unpins c None t p held leaves = absurd p
  unpins c (Some r) t p held leaves =
      grind (arith, common_steps, falls_some, parts, lost_last, lost_other, lost_ends, parts_same)

  -- who came too late for a tenure rests
  late_rests : (c : Core E) (r : Reuse) (t : ℕ) → r.pin ≡ Invalidated t
      → LeavesTenure (participant_of c r) → c.phase ≡ Resting
  late_rests c r t p (AsLoser s o pin lost rests) = rests
  late_rests c r t p (AsHolder s pin held) =
      let bad : Invalidated t ≡ Unpinning s = sym p ∙ pin in absurd cc
  late_rests c r t p (AsLate s pin rests) = rests

  pub withdraws : (c : Core E) (r : Option Reuse) (t : ℕ) → IsSomeAnd r (λ y. y.pin ≡ Invalidated t)
      → IsSomeAnd r (λ y. LeavesTenure (participant_of c y))
      → IsTurn (sender c r) turn.Waiting (sender c (reuse_pinning r Away))
  withdraws c None t p leaves = absurd p
  withdraws c (Some r) t p leaves = grind (arith, common_steps, late_rests, falls_some)

  -- ---- its election
  module _ (c : Core E) (t : ℕ) (e f : E) (at : c.phase ≡ Electing t e)
      (left : 1 ≤ X.turns_left e) (less : X.turns_left f ≡ X.turns_left e - 1) where
    in_election : (r : Option Reuse)
        → turns_in X c r c.phase ≡ turns_in X c r (Electing t e)
    in_election r = ap (turns_in X c r) at

    -- the tenure that it has begun
    in_tenure : (r : Option Reuse) → StandsIn r t → Some t ≡ begun_by c r
    in_tenure None inside = sym (ap tenure_of at)
    in_tenure (Some r) inside = sym (ap (tenure_begun_by c) inside)

    -- it goes on, or has chosen this sender
    elects_on : (r : Option Reuse) (lost : Option SenderNo) (w : Sender E) → StandsIn r t
        → w ≡ sender (record c { phase = Electing t f })
        (elim r as (λ y. Option Reuse) [
          | None ↦ None
          | Some y ↦ Some record y { pin = Pinned t; lost = lost }
        ])
        → IsTurn (sender c r) turn.Going w
    elects_on None lost w inside is =
        grind (arith, common_steps, in_election, falls_some, in_tenure)
    elects_on (Some r) lost w inside is =
        grind (arith, common_steps, in_election, falls_some, in_tenure)

    -- or another
    loses : (r : Option Reuse) (o : ℕ) (itself : Bool) → StandsIn r t
        → IsTurn (sender c r)
        (elim r as (λ y. Turn) [
          | None ↦ cond itself turn.Going (turn.Lost t record { 0 = o })
          | Some y ↦ turn.Going
        ])
        (sender
        (cond itself (record c { phase = Electing t f }) (record c {
          queue = record c.queue { busy = false };
          least = t + 1;
          phase = Resting;
        }))
        (elim r as (λ y. Option Reuse) [
          | None ↦ None
          | Some y ↦ Some record y {
            pin = cond itself (Pinned t) (Unpinning t);
            lost = cond itself y.lost (Some record { 0 = o });
          }
        ]))
    loses None o true inside = elects_on None None _ inside refl
    loses (Some r) o true inside = elects_on (Some r) r.lost _ inside refl
    loses None o false inside = grind (arith, common_steps, in_election, falls_some)
    loses (Some r) o false inside = grind (arith, common_steps, in_election, falls_some, in_tenure)

    pub elects : (r : Option Reuse) (own : Option ℕ) → StandsIn r t
        → IsTurn (sender c r) (answer_elected c r t own)
        (sender (core_elected c t f own) (reuse_elected c r t own))
    elects None None inside = elects_on None None _ inside refl
    elects (Some r) None inside = elects_on (Some r) r.lost _ inside refl
    elects None (Some o) inside = loses None o (o == c.me) inside
    elects (Some r) (Some o) inside = loses (Some r) o (o == c.me) inside

    -- ---- the page
    -- what is left of a row that is to be made ready, if it is
    row_left : (fresh : Bool) (past presences row : ℕ)
        → turns_to_clear (cond fresh None (Some record {
          past = past;
          senders = c.layout.senders;
          presences = presences;
          row = row;
          width = c.layout.width;
          scanned = 0;
          cleared = 0;
        })) ≤ c.layout.senders + c.layout.width
    row_left true past presences row = omega arith
    row_left false past presences row = omega arith

    pub takes : (r : Option Reuse) (page : Page) → StandsIn r t
        → IsTurn (sender c r) (turn.Own t)
        (sender (record c { phase = Holding t page 0 false }) (reuse_taken c.layout r t))
    takes None page inside = grind (arith, common_steps, in_election, falls_some, in_tenure)
    takes (Some r) page inside =
        grind (arith, common_steps, in_election, row_left, nat_lt, falls_some, in_tenure)

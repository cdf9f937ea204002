-- Who remembers an owner has seen an election end with it, and withdraws next.
use Rattle.std.specs.Prelude.{◌⊎◌}
use Rattle.std.proofs.Common.{◌≡◌, inl, inr, ℕ, ◌/◌, ◌==◌, Bool, true, false, cond, Option, Some}
use Rattle.std.proofs.Common.{None, [], slice_get, slice_set, refl, sym, ◌∙◌, ap, subst, arith}
use Rattle.std.proofs.lemmas.Bool.{cases_eq, true≢false}
use Rattle.std.proofs.lemmas.Bool.Decides.{eqb_tells}
use Rattle.std.proofs.lemmas.Option.{same_Some, slice_get_within}
use Rattle.std.proofs.lemmas.Grind.{common_steps}
use Rattle.bus_core.specs.Keeping.{new_reuse}
use Rattle.bus_core.specs.Senders.{Sender, Situation, Does, Announces, Validates, Unpins}
use Rattle.bus_core.specs.Senders.{Withdraws, Scans, Clears, ReadsPassed, pinning}
use Rattle.bus_core.specs.Senders.{situation_by, situation}
use Rattle.bus_core.specs.Reusing.Passing.{passing_left}
use Rattle.bus_core.specs.declared.reuses.Passing.{Passing}
use Rattle.bus_core.specs.Table.{line, line_now, lost_of, seen, reuse_elected, reuse_taken}
use Rattle.bus_core.specs.Table.{reuse_given, reuse_pinning, reuse_reclaiming, reuse_passed}
use Rattle.bus_core.specs.declared.reuses.Reuse.{Reuse}
use Rattle.bus_presence.specs.Reclaimers.{Reclaiming}
use Rattle.bus_presence.specs.declared.pins.Pin.{Pin}
use Rattle.bus_presence.specs.declared.pins.Pin.TheVariants.{Away, Validating, Pinned, Unpinning}
use Rattle.bus_presence.specs.declared.pins.Pin.TheVariants.{Invalidated}
use Rattle.bus_register.specs.Protocol.{Protocol}
use Rattle.bus_register.specs.Private.TableLaws.{get_set_same, get_set_other}
use Rattle.bus_register.specs.declared.registers.SenderNo.{SenderNo}
use Rattle.bus_tenure.specs.Core.{Core, Election, Layout}
use Rattle.bus_tenure.specs.Situations.{Situation as Own, IsClosed, IsIdle, IsSpent, LooksAtStage}
use Rattle.bus_tenure.specs.Situations.{Elects, TakesPage, AwaitsPage, StoresWord, StoresLength}
use Rattle.bus_tenure.specs.Situations.{GivesBack, HasHanded, situation_of}
use Rattle.bus_world.specs.Turning.{after_step}
use Rattle.bus_world.specs.World.{Event, Put, Ask, Turn, Recv, Stop, Gone}
use Rattle.bus_world.specs.declared.events.Answer.{Answer}
use Rattle.bus_machine.proofs.Frames.Ending.{elected_more}
use Rattle.bus_machine.proofs.Frames.Framed.{framed}
use Rattle.bus_machine.proofs.Frames.Knowing.{its_part}
use Rattle.bus_machine.proofs.Bases.Leading.{Sits, sits_before, sits_unforked}
use Rattle.bus_machine.proofs.Memory.Remembering.{all_recall, saw}
use Rattle.bus_machine.proofs.Frames.Staying.{grown_longer}
use Rattle.bus_machine.specs.Machine.{Machine, Trails, Reached, New as Start, Then as Next}
use Rattle.bus_machine.specs.Machine.{Joins}
use Rattle.bus_machine.specs.Machine.{Happens, IsNew, TakesTurn, found, has_stopped, mark_in}
use Rattle.bus_machine.specs.Machine.{moved, put_in, stage_of, trails_grown}
use Rattle.bus_machine.specs.Promise.{pin_of}
use Rattle.bus_machine.specs.Telling.{HasSeenLoss, LossesAreSeen}
use Rattle.bus_world.proofs.Stopping.{shown_there}

-- ---- what is remembered after a step was remembered before
looked_lost : {E : Type 0} (X : Election E) (c : Core E) (q : Option Reuse) (got : ℕ) (o : SenderNo)
    → lost_of (seen X c q got).reuse ≡ Some o → lost_of q ≡ Some o
looked_lost X c None got o lost = lost
looked_lost X c (Some q) got o lost = lost

-- with the page
taken_lost : (x : Layout) (q : Option Reuse) (t : ℕ) (o : SenderNo)
    → lost_of (reuse_taken x q t) ≡ Some o → lost_of q ≡ Some o
taken_lost x None t o lost = lost
taken_lost x (Some q) t o lost = lost

-- without it
given_lost : (q : Option Reuse) (o : SenderNo) → lost_of (reuse_given q) ≡ Some o
    → lost_of q ≡ Some o
given_lost None o lost = lost
given_lost (Some q) o lost = lost

-- with a row that is cleared
reclaiming_lost : (q : Option Reuse) (r : Reclaiming) (o : SenderNo)
    → lost_of (reuse_reclaiming q r) ≡ Some o → lost_of q ≡ Some o
reclaiming_lost None r o lost = lost
reclaiming_lost (Some q) r o lost = lost

-- with a passed place
passed_lost : (q : Option Reuse) (p : Passing) (o : SenderNo)
    → lost_of (reuse_passed q p) ≡ Some o → lost_of q ≡ Some o
passed_lost None p o lost = lost
passed_lost (Some q) p o lost = lost

-- after a step of its pin it remembers none
pinning_lost : (q : Option Reuse) (pin : Pin) (o : SenderNo)
    → lost_of (reuse_pinning q pin) ≡ Some o → ⊥
pinning_lost None pin o lost = let bad : ◌≡◌ {A = Option SenderNo} None (Some o) = lost in cc
pinning_lost (Some q) pin o lost = let bad : ◌≡◌ {A = Option SenderNo} None (Some o) = lost in cc

-- nor does it at its start
new_lost : (q : Option ℕ) (o : SenderNo) → lost_of (new_reuse q) ≡ Some o → ⊥
new_lost None o lost = let bad : ◌≡◌ {A = Option SenderNo} None (Some o) = lost in cc
new_lost (Some rows) o lost = let bad : ◌≡◌ {A = Option SenderNo} None (Some o) = lost in cc

-- who parts from a tenure withdraws next
unpins : {E : Type 0} (n : ℕ) (q : Option Reuse) (z : Own E) (t : ℕ) → pin_of q ≡ Unpinning t
    → situation_by n q z ≡ Unpins t
unpins n None z t e = absurd cc
unpins n (Some q) z t e = ap (λ u. pinning u (passing_left n q.passed) q.reclaimer z) e

-- ---- one event
module _ {E : Type 0} (X : Election E) (m m' : Machine E) (T : Trails) (e : Event) (a : Answer)
    (l : LossesAreSeen m T.actions) where
  abbrev T' : Trails
  T' = trails_grown X m e a T

  -- a loss that was seen is seen
  still : (pin : Pin) (s : ℕ) (o : SenderNo) → HasSeenLoss pin s o (T.actions s)
      → HasSeenLoss pin s o (T'.actions s)
  still pin s o h = record {
    tenure = h.tenure;
    parts = h.parts;
    elected = elected_more (T.actions s) (T'.actions s) h.tenure o.0
        ((grown_longer X m T e a).actions s) h.elected;
    other = h.other;
  }

  -- one sender is another
  one_other : (s : ℕ) (v v' : Sender E) → slice_get m.senders s ≡ Some v
      → m'.senders ≡ slice_set m.senders s v'
      → ((o : SenderNo) → lost_of v'.reuse ≡ Some o
      → HasSeenLoss (pin_of v'.reuse) s o (T'.actions s)) → LossesAreSeen m' T'.actions
  one_other s v v' at senders now q w o here lost = elim (cases_eq q s) [
    | inl same ↦
        grind (arith, common_steps, slice_set, same_Some, get_set_same, slice_get_within, slice_get)
    | inr other ↦ grind (arith, common_steps, still, get_set_other, slice_get)
  ]

  -- all are as before
  none_other : m'.senders ≡ m.senders → LossesAreSeen m' T'.actions
  none_other senders q w o here lost =
      still (pin_of w.reuse) q o (l q w o (ap (λ y. slice_get y q) (sym senders) ∙ here) lost)

-- a turn
module _ {E : Type 0} (X : Election E) (P : Protocol E (Unit {0}) ℕ) (m m' : Machine E) (T : Trails)
    (s word : ℕ) (a : Answer) (sits : Sits X P m)
    (r : Reached X m T) (h : TakesTurn X m s word a m') (l : LossesAreSeen m T.actions) where
  abbrev v : Sender E
  v = h.sender

  abbrev U : Trails
  U = trails_grown X m (Turn s word) a T

  -- the sender is there
  at : slice_get m.senders s ≡ Some v
  at = shown_there (has_stopped m s) (slice_get m.senders s) v h.goes

  abbrev got : Situation E → ℕ
  got z = found m (line X v z) word

  abbrev Seen : Option Reuse → Type 0
  Seen q = (o : SenderNo) → lost_of q ≡ Some o → HasSeenLoss (pin_of q) s o (U.actions s)

  -- who remembers an owner withdraws next
  withdraws : (o : SenderNo) → lost_of v.reuse ≡ Some o → (t : ℕ) × (situation X v ≡ Unpins t)
  withdraws o lost =
      let w = l s v o at lost in (
        w.tenure,
        unpins v.core.layout.passers v.reuse (situation_of X v.core) w.tenure
            w.parts,
      )

  -- whose turn is another remembers none
  kept : (z : Situation E) → situation X v ≡ z → ((t : ℕ) → Unpins t ≡ z → ⊥) → (q : Option Reuse)
      → ((o : SenderNo) → lost_of q ≡ Some o → lost_of v.reuse ≡ Some o) → Seen q
  kept z i other q same o lost =
      let u = withdraws o (same o lost) in absurd (other u.0 (sym u.1 ∙ i))

  -- a step of its election
  elects : (t : ℕ) (e : E) → situation X v ≡ Does (Elects t e) → (own : Option ℕ)
      → X.owner (X.fed e (got (Does (Elects t e))) word) ≡ own
      → (q : Option Reuse) → v.reuse ≡ q → Seen (reuse_elected v.core q t own)
  elects t e i own owned None again o lost =
      absurd (let bad : ◌≡◌ {A = Option SenderNo} None (Some o) = lost in cc)
  elects t e i None owned (Some q) again o lost =
      let u = withdraws o (ap lost_of again ∙ lost) in absurd (let bad = sym u.1 ∙ i in cc)
  elects t e i (Some n) owned (Some q) again o lost =
      by (n == v.core.me) (eqb_tells n v.core.me) lost
    where
      by : (c : Bool) → ((c ≡ true) × (n ≡ v.core.me)) ⊎ ((c ≡ false) × (n ≡ v.core.me → ⊥))
          → cond c q.lost (Some record { 0 = n }) ≡ Some o
          → HasSeenLoss (cond c (Pinned t) (Unpinning t)) s o (U.actions s)
      by true how lost =
          let u = withdraws o (ap lost_of again ∙ lost) in absurd (let bad = sym u.1 ∙ i in cc)
      by false (inl how) lost = absurd (true≢false (sym how.0))
      by false (inr how) lost =
          subst (λ w. HasSeenLoss (Unpinning t) s w (U.actions s)) (same_Some _ _ lost) record {
            tenure = t;
            parts = refl;
            elected = saw X P m m' T s word a sits r h (all_recall X P m T sits r) t e i n owned;
            other = λ same. how.1 (same ∙ sym (its_part X P m T (framed X P m T sits r) s v at).me);
          }

  -- whatever the turn is
  by_turn : (z : Situation E) → situation X v ≡ z → Seen ((line X v z).fed (got z) word).reuse
  by_turn (Does IsClosed) i = kept (Does IsClosed) i (λ t e. cc) v.reuse (λ o lost. lost)
  by_turn (Does IsIdle) i = kept (Does IsIdle) i (λ t e. cc) v.reuse (λ o lost. lost)
  by_turn (Does IsSpent) i = kept (Does IsSpent) i (λ t e. cc) v.reuse (λ o lost. lost)
  by_turn (Does LooksAtStage) i = kept (Does LooksAtStage) i (λ t e. cc)
      (seen X v.core v.reuse (stage_of m)).reuse (looked_lost X v.core v.reuse (stage_of m))
  by_turn (Does (Elects t e)) i =
      elects t e i (X.owner (X.fed e (got (Does (Elects t e))) word)) refl v.reuse refl
  by_turn (Does (TakesPage t)) i = kept (Does (TakesPage t)) i (λ u e. cc)
      (reuse_taken v.core.layout v.reuse t) (taken_lost v.core.layout v.reuse t)
  by_turn (Does (AwaitsPage t)) i =
      kept (Does (AwaitsPage t)) i (λ u e. cc) v.reuse (λ o lost. lost)
  by_turn (Does (StoresWord t page stored)) i =
      kept (Does (StoresWord t page stored)) i (λ u e. cc) v.reuse (λ o lost. lost)
  by_turn (Does (StoresLength t page stored)) i =
      kept (Does (StoresLength t page stored)) i (λ u e. cc) v.reuse (λ o lost. lost)
  by_turn (Does (GivesBack t page reason)) i =
      kept (Does (GivesBack t page reason)) i (λ u e. cc) (reuse_given v.reuse) (given_lost v.reuse)
  by_turn (Does (HasHanded t reason)) i =
      kept (Does (HasHanded t reason)) i (λ u e. cc) (reuse_given v.reuse) (given_lost v.reuse)
  by_turn (Announces t) i = λ o lost. absurd (pinning_lost v.reuse (Validating t) o lost)
  by_turn (Validates t) i = λ o lost. absurd
      (pinning_lost v.reuse (cond (got (Validates t) / 2 == t) (Pinned t) (Invalidated t)) o lost)
  by_turn (Unpins t) i = λ o lost. absurd (pinning_lost v.reuse Away o lost)
  by_turn (Withdraws t) i = λ o lost. absurd (pinning_lost v.reuse Away o lost)
  by_turn (Scans q) i = grind (arith, common_steps, kept, reclaiming_lost)
  by_turn (Clears q) i = grind (arith, common_steps, kept, reclaiming_lost)
  by_turn (ReadsPassed t p) i = grind (arith, common_steps, kept, passed_lost)

  -- after it
  turn_losses : LossesAreSeen m' U.actions
  turn_losses =
      let y = line_now X v in
      one_other X m m' T (Turn s word) a l s v
      (moved (after_step y.move) m.home (y.fed (found m y word) word)) at
      (ap (λ (y : Machine E). y.senders) h.after) (by_turn (situation X v) refl)

-- ---- whatever leads to a machine
module _ {E : Type 0} (X : Election E) (P : Protocol E (Unit {0}) ℕ) where
  event_losses : (m m' : Machine E) (T : Trails) (e : Event) (a : Answer) → Sits X P m
      → Reached X m T → Happens X m e a m'
      → LossesAreSeen m T.actions → LossesAreSeen m' (trails_grown X m e a T).actions
  event_losses m m' T (Put s bytes) a sits r h l =
      let at = shown_there (has_stopped m s) (slice_get m.senders s) h.sender h.goes in
      one_other X m m' T (Put s bytes) a l s h.sender (put_in h.sender bytes) at
      (ap (λ (y : Machine E). y.senders) h.after)
      (λ o lost.
      still X m m' T (Put s bytes) a l (pin_of h.sender.reuse) s o (l s h.sender o at lost))
  event_losses m m' T (Ask s asked) a sits r h l =
      let at = shown_there (has_stopped m s) (slice_get m.senders s) h.sender h.goes in
      one_other X m m' T (Ask s asked) a l s h.sender (mark_in h.sender asked) at
      (ap (λ (y : Machine E). y.senders) h.after)
      (λ o lost.
      still X m m' T (Ask s asked) a l (pin_of h.sender.reuse) s o (l s h.sender o at lost))
  event_losses m m' T (Turn s word) a sits r h l = turn_losses X P m m' T s word a sits r h l
  event_losses m m' T (Recv q) a sits r h l =
      none_other X m m' T (Recv q) a l (ap (λ (y : Machine E). y.senders) h.after)
  event_losses m m' T (Stop s) a sits r h l =
      none_other X m m' T (Stop s) a l (ap (λ (y : Machine E). y.senders) h.after)
  event_losses m m' T (Gone q) a sits r h l =
      none_other X m m' T (Gone q) a l (ap (λ (y : Machine E). y.senders) h.after)

  -- nobody has lost a tenure at the start
  new_losses : (m : Machine E) → IsNew m → LossesAreSeen m (λ q. [])
  new_losses m new s w o at lost = grind (arith, common_steps, new_lost)

  -- whatever leads to a machine
  pub losses : (m : Machine E) (T : Trails) → Sits X P m → Reached X m T → LossesAreSeen m T.actions
  losses m T sits (Start n new) = new_losses n new
  losses m T sits (Next n m' B e a before h) =
      let t = sits_before X P n m' e a h sits in
      event_losses n m' B e a t before h (losses n B t before)
  losses m T sits (Joins w v U i j n before h nobody silent) =
      let l = losses w U (sits_unforked X P w v i j h sits) before in
      λ q y o here lost. l q y o
      (ap (λ s. slice_get s q) (sym (ap (λ (z : Machine E). z.senders) h.after)) ∙ here) lost

-- What the answer of a step tells of the sender out of whose hands the page has gone, it tells of
-- the sender before that.
use Rattle.std.proofs.Common.{◌≡◌, ℕ, ◌+◌, ◌*◌, Option, Some, None, List, inl, inr, slice_index}
use Rattle.std.proofs.Common.{refl, sym, ◌∙◌, ap, subst, arith}
use Rattle.std.specs.Prelude.{IsSomeAnd}
use Rattle.std.proofs.lemmas.Grind.{common_steps}
use Rattle.bus_core.specs.Keeping.{core_without}
use Rattle.bus_core.specs.Senders.{Sender, Situation, Does, Announces, Validates, Unpins, Withdraws}
use Rattle.bus_core.specs.Senders.{Scans, Clears, ReadsPassed, situation, situation_by}
use Rattle.bus_core.specs.Table.{line, line_now}
use Rattle.bus_core.specs.Telling.{FeedTells, LosesBy, GivesReady, IsBehind}
use Rattle.bus_core.specs.declared.reuses.Reuse.{Reuse}
use Rattle.bus_core.proofs.Reusing.Tells.{Shows, gives_shows}
use Rattle.bus_core.specs.Reusing.Keeping.{held_of}
use Rattle.bus_core.specs.Reusing.Telling.{Returns, HasPublished, LacksRoom, FindsEnd}
use Rattle.bus_core.specs.Reusing.Telling.HasPublished.{Published, HandsOnSent}
use Rattle.bus_core.specs.Reusing.Telling.LacksRoom.{FindsNoRoom, HandsOnFull}
use Rattle.bus_core.specs.Reusing.Telling.FindsEnd.{Ended, HandsOnEnd}
use Rattle.bus_core.specs.Reusing.Telling.Returns.{Gives, Says}
use Rattle.bus_presence.specs.declared.pins.Pin.TheVariants.{Validating}
use Rattle.bus_register.specs.declared.registers.Op.{Op}
use Rattle.bus_register.specs.declared.registers.Op.TheVariants.{Store}
use Rattle.bus_register.specs.declared.registers.SenderNo.{SenderNo}
use Rattle.bus_tenure.proofs.Situated.{tells}
use Rattle.bus_tenure.specs.Core.{Core, Election, stage_at}
use Rattle.bus_tenure.specs.Situations.{Situation as Own, IsClosed, IsIdle, IsSpent, LooksAtStage}
use Rattle.bus_tenure.specs.Situations.{Elects, TakesPage, AwaitsPage, StoresWord, StoresLength}
use Rattle.bus_tenure.specs.Situations.{GivesBack, HasHanded, situation_of, PageMove}
use Rattle.bus_tenure.specs.Seen.{AwaitsItsPage}
use Rattle.bus_tenure.specs.declared.pages.Page.{Page}
use Rattle.bus_tenure.specs.declared.phases.Phase.{Phase}
use Rattle.bus_tenure.specs.declared.phases.Phase.TheVariants as phase
use Rattle.bus_tenure.specs.declared.phases.Reason.{Reason}
use Rattle.bus_tenure.specs.declared.phases.Reason.TheVariants.{Sent, FoundEnd, NoRoom}
use Rattle.bus_tenure.specs.declared.turns.Turn.{Turn as Answered}
use Rattle.bus_tenure.specs.declared.turns.Turn.TheVariants as turn
use Rattle.bus_machine.proofs.Tenures.Own.{own_of}
use Rattle.bus_machine.proofs.Calls.TurnLaws.{handed_by}
use Rattle.bus_machine.specs.Telling.{StepTells}

-- ---- whose page is handed on gave it back for this reason
sent_on : {E : Type 0} (u t : ℕ) (reason : Reason) (p : Phase E) → HasPublished u p
    → p ≡ phase.Giving t reason → (t ≡ u) × (reason ≡ Sent)
sent_on u t reason p (Published page stored) e = absurd cc
sent_on u t reason p HandsOnSent e = (cc, cc)

full_on : {E : Type 0} (c : Core E) (u t : ℕ) (reason : Reason) (p : Phase E) → LacksRoom c u p
    → p ≡ phase.Giving t reason → (t ≡ u) × (reason ≡ NoRoom)
full_on c u t reason p (FindsNoRoom page stored more) e = absurd cc
full_on c u t reason p HandsOnFull e = (cc, cc)

ended_on : {E : Type 0} (u t : ℕ) (reason : Reason) (p : Phase E) → FindsEnd u p
    → p ≡ phase.Giving t reason → (t ≡ u) × (reason ≡ FoundEnd)
ended_on u t reason p (Ended page stored end) e = absurd cc
ended_on u t reason p HandsOnEnd e = (cc, cc)

back_handed : {E : Type 0} (u t : ℕ) (reason : Reason) (z : Own E) → Returns u z
    → z ≡ HasHanded t reason → u ≡ t
back_handed u t reason z (Gives page r) e = absurd cc
back_handed u t reason z (Says r) e = cc

back_given : {E : Type 0} (u t : ℕ) (page : Page) (reason : Reason) (z : Own E) → Returns u z
    → z ≡ GivesBack t page reason → u ≡ t
back_given u t page reason z (Gives p r) e = cc
back_given u t page reason z (Says r) e = absurd cc

module _ {E : Type 0} (X : Election E) (v : Sender E) (word n t : ℕ) (page : Page) (reason : Reason)
    (here : situation X v ≡ Does (GivesBack t page reason)) where
  abbrev g : Sender E
  g = record v { core = record v.core { phase = phase.Giving t reason } }

  own : situation_of X v.core ≡ GivesBack t page reason
  own = own_of v.core.layout.passers v.reuse (situation_of X v.core) (GivesBack t page reason) here

  now : situation X g ≡ Does (HasHanded t reason)
  now = handed_by v.core.layout.passers v.reuse (situation_of X v.core) (GivesBack t page reason) t
      reason here

  abbrev storing : Op
  storing = Store record { 0 = stage_at } (2 * t + 2)

  stores : (line_now X v).op word ≡ Some storing
  stores = ap (λ z. (line X v z).op word) here

  stores_now : (line_now X g).op word ≡ Some storing
  stores_now = ap (λ z. (line X g z).op word) now

  held : held_of v.core.phase ≡ Some t
  held = ap held_of (tells X v.core (GivesBack t page reason) own).2

  readies : (u : ℕ) → GivesReady X g u → GivesReady X v u
  readies u w = record {
    does = here ∙ ap Does (sym own);
    returns = subst (Returns u) (sym own) (subst (λ k. Returns {E = E} u (GivesBack k page reason))
        (back_handed u t reason _ w.returns refl) (Gives page reason));
    ready = w.ready;
  }

  handed_ready : (u : ℕ) → GivesReady X v u → GivesReady X g t
  handed_ready u w = record {
    does = now;
    returns = Says reason;
    ready = grind (arith, common_steps, back_given, own);
  }

  shows : (u : ℕ) (r : Reason) → (t ≡ u) × (reason ≡ r) → Shows v.core u v.core.phase r
  shows u r w = subst (λ k. Shows v.core k v.core.phase r) w.0
      (subst (Shows v.core t v.core.phase) w.1 (gives_shows X v.core t page reason own))

  loses_now : (u : ℕ) (o : SenderNo) (r : Option Reuse) → LosesBy X v n word u o r
      → LosesBy X g n word u o r
  loses_now u o None w = absurd (let bad = sym here ∙ w.elects in cc)
  loses_now u o (Some r) w = w

  loses_then : (u : ℕ) (o : SenderNo) (r : Option Reuse) → LosesBy X g n word u o r
      → LosesBy X v n word u o r
  loses_then u o None w = absurd (let bad = sym now ∙ w.elects in cc)
  loses_then u o (Some r) w = w

  never_behind : (u p : ℕ) (r : Option Reuse) → IsSomeAnd r (λ q. IsBehind X v n word u p q) → ⊥
  never_behind u p None w = w
  never_behind u p (Some r) w = let bad = sym stores ∙ w.loads in cc

  not_behind : (u p : ℕ) (r : Option Reuse) → IsSomeAnd r (λ q. IsBehind X g n word u p q) → ⊥
  not_behind u p None w = w
  not_behind u p (Some r) w = let bad = sym stores_now ∙ w.loads in cc

  looks_twice : (u : ℕ) (r : Option Reuse) (z : Own E) → IsSomeAnd r (λ q. q.pin ≡ Validating u)
      → situation_by v.core.layout.passers r z ≡ Does (GivesBack t page reason) → ⊥
  looks_twice u None z w e = w
  looks_twice u (Some r) z w e = cc

  gives_too : (a : Answered) → FeedTells X g n word a → FeedTells X v n word a
  gives_too turn.Idle w = w
  gives_too turn.Waiting (inl w) =
      absurd (let bad : phase.Giving t reason ≡ phase.Resting = w.looks.looks.rests in cc)
  gives_too turn.Waiting (inr w) = inr w
  gives_too turn.Going w =
      grind (arith, loses_now, held, tells, own, handed_ready, looks_twice, never_behind)
  gives_too (turn.Lost u o) w = loses_then u o v.reuse w
  gives_too (turn.Own u) w =
      absurd (let bad : phase.Giving t reason ≡ phase.Electing u w.election = w.elects in cc)
  gives_too (turn.Delivered u first last) w = record {
    gives = readies u w.gives;
    published = shows u Sent (sent_on u t reason _ w.published refl);
    sends = w.sends;
    first_is = w.first_is;
    last_is = w.last_is;
  }
  gives_too (turn.Left u) w = record {
    gives = readies u w.gives;
    published = shows u Sent (sent_on u t reason _ w.published refl);
    leaves = w.leaves;
  }
  gives_too turn.Full w = record {
    tenure = w.tenure;
    gives = readies w.tenure w.gives;
    lacks = shows w.tenure NoRoom (full_on g.core w.tenure t reason _ w.lacks refl);
  }
  gives_too turn.Closed w = record {
    tenure = w.tenure;
    gives = readies w.tenure w.gives;
    why = elim w.why [
      | inl a ↦ inl (a.0, shows w.tenure Sent (sent_on w.tenure t reason _ a.1 refl))
      | inr a ↦ inr (shows w.tenure FoundEnd (ended_on w.tenure t reason _ a refl))
    ];
  }
  gives_too turn.Spent w =
      absurd (let bad : phase.Giving t reason ≡ phase.Resting = w.looks.looks.rests in cc)
  gives_too (turn.Behind u p) w = absurd (not_behind u p.0 v.reuse w)

-- whatever its situation, and whatever these words
module _ {E : Type 0} (X : Election E) (v : Sender E) (word : ℕ) (cells : List ℕ)
    (a : Answered) where
  abbrev given : PageMove → Sender E
  given m = record v { core = core_without m v.core }

  pub tells_before : (z : Situation E) → situation X v ≡ z
      → StepTells X cells (given (line X v z).move) ((line_now X (given (line X v z).move)).op word)
      word a → StepTells X cells v ((line_now X v).op word) word a
  tells_before (Does (GivesBack t page reason)) i w =
      grind (arith, common_steps, stores, gives_too, slice_index, stores_now)
  tells_before (Does IsClosed) i w = w
  tells_before (Does IsIdle) i w = w
  tells_before (Does IsSpent) i w = w
  tells_before (Does LooksAtStage) i w = w
  tells_before (Does (Elects t e)) i w = w
  tells_before (Does (TakesPage t)) i w = w
  tells_before (Does (AwaitsPage t)) i w = w
  tells_before (Does (StoresWord t page stored)) i w = w
  tells_before (Does (StoresLength t page stored)) i w = w
  tells_before (Does (HasHanded t reason)) i w = w
  tells_before (Announces t) i w = w
  tells_before (Validates t) i w = w
  tells_before (Unpins t) i w = w
  tells_before (Withdraws t) i w = w
  tells_before (Scans s) i w = w
  tells_before (Clears s) i w = w
  tells_before (ReadsPassed t p) i w = w

  pub tells_so : (handed : Sender E) → handed ≡ given (line_now X v).move
      → StepTells X cells handed ((line_now X handed).op word) word a
      → StepTells X cells v ((line_now X v).op word) word a
  tells_so handed is w = tells_before (situation X v) refl
      (subst (λ h. StepTells X cells h ((line_now X h).op word) word a) is w)

  -- out of whose hands the page has gone, or not, awaits none
  pub still_laid : (AwaitsItsPage v.core.phase → ⊥) → (handed : Sender E)
      → handed ≡ given (line_now X v).move → AwaitsItsPage handed.core.phase → ⊥
  still_laid laid handed is waits = grind (arith, common_steps)

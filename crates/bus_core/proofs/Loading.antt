-- A holder loads all passed places before it gives its page back for want of room.
use Rattle.std.proofs.Common.{◌≡◌, ◌≢◌, ℕ, ◌≤◌, Bool, true, false, cond, Option, Some, None, IfSome}
use Rattle.std.proofs.Common.{nat_lt, ◌/◌, ◌==◌, refl, sym, ◌∙◌, ap, subst}
use Rattle.bus_presence.specs.Reclaimers.{Reclaiming, reclaim_fed}
use Rattle.bus_presence.specs.declared.pins.Pin.{Pin}
use Rattle.bus_presence.specs.declared.pins.Pin.TheVariants.{Away, Validating, Pinned, Invalidated}
use Rattle.std.proofs.lemmas.Bool.{ltb-false}
use Rattle.bus_tenure.specs.Core.{Election}
use Rattle.bus_tenure.specs.Situations.{Situation as Own, IsClosed, IsIdle, IsSpent, LooksAtStage}
use Rattle.bus_tenure.specs.Situations.{Elects, TakesPage, AwaitsPage, StoresWord, StoresLength}
use Rattle.bus_tenure.specs.Situations.{GivesBack, HasHanded}
use Rattle.bus_tenure.specs.Situations.{situation_of, answer_of_return, answer_sent}
use Rattle.bus_tenure.specs.declared.pages.Page.{Page}
use Rattle.bus_tenure.specs.declared.phases.Phase.TheVariants.{Giving}
use Rattle.bus_tenure.specs.declared.phases.Reason.{Reason}
use Rattle.bus_tenure.specs.declared.phases.Reason.TheVariants.{Sent, FoundEnd, NoRoom}
use Rattle.bus_tenure.specs.declared.turns.Turn.TheVariants as turn
use Rattle.bus_tenure.proofs.Situated.{tells}
use Rattle.bus_batch.specs.Batches.{Pending}
use Rattle.bus_batch.specs.declared.batches.Phase.{Phase as BatchPhase}
use Rattle.bus_batch.specs.declared.batches.Phase.TheVariants.{Open, Marking, Closed}
use Rattle.bus_batch.specs.declared.messages.Mark.TheVariants as mark
use Rattle.bus_core.specs.Keeping.{ReuseKeeps}
use Rattle.bus_core.specs.Reusing.Keeping.{LoadedKeeps}
use Rattle.bus_core.specs.Reusing.Telling.{Returns, Gives, Says}
use Rattle.bus_core.specs.Telling.{IsFull}
use Rattle.bus_core.specs.Loading.{HasLoadedAll, LoadsAllFirst, passed_in}
use Rattle.bus_core.specs.Reusing.Passing.{passing_begun, passing_left, passing_fed, core_passed}
use Rattle.bus_core.specs.Senders.{Sender, Situation, Does, Scans, Clears, ReadsPassed}
use Rattle.bus_core.specs.Senders.{Announces, Validates, Unpins, Withdraws}
use Rattle.bus_core.specs.Senders.{situation, situation_by, reclaiming, passing}
use Rattle.bus_core.specs.Table.{line, line_now, seen, reuse_elected, reuse_pinning}
use Rattle.bus_core.specs.Table.{reuse_reclaiming, reuse_given, reuse_passed}
use Rattle.bus_core.specs.declared.reuses.Passing.{Passing}
use Rattle.bus_core.specs.declared.reuses.Reuse.{Reuse}
use Rattle.bus_core.proofs.Situated.{IsCalm, SituationTells, situation_tells, calm_home}

module _ {E : Type 0} (n t : ℕ) (page : Page) (y : Situation E)
    (other : (u : ℕ) (p : Passing) → ReadsPassed u p ≡ y → ⊥) where
  -- who does anything else with its page than to load a passed place has loaded all
  all_loaded : (r : Reuse) → IsCalm r.pin
      → situation_by n (Some r) (GivesBack t page NoRoom) ≡ y → n ≤ r.passed.loaded
  all_loaded r calm i = by (nat_lt r.passed.loaded n) refl where
    by : (b : Bool) → nat_lt r.passed.loaded n ≡ b → n ≤ r.passed.loaded
    by true e = absurd (other t r.passed
        (sym (ap (λ b. passing {E = E} (cond b (Some r.passed) None) t NoRoom
        (reclaiming r.reclaimer (GivesBack t page NoRoom))) e)
        ∙ sym (calm_home r (passing_left n r.passed) (GivesBack t page NoRoom) calm) ∙ i))
    by false e = ltb-false _ _ e

  of_its : (z : Own E) → z ≡ GivesBack t page NoRoom
      → ((r : Reuse) → SituationTells n y (Some r) z → IsCalm r.pin)
      → (o : Option Reuse) → situation_by n o z ≡ y → SituationTells n y o z
      → IfSome o (λ r. n ≤ r.passed.loaded)
  of_its z at calm None i told = tt
  of_its z at calm (Some r) i told =
      all_loaded r (calm r told) (ap (situation_by n (Some r)) (sym at) ∙ i)

-- ---- what is loaded changes with a load alone, and with the page that is taken
module _ {E : Type 0} (X : Election E) (v : Sender E) (got word : ℕ) where
  seen_keeps : (o : Option Reuse) → passed_in (seen X v.core o got).reuse ≡ passed_in o
  seen_keeps None = refl
  seen_keeps (Some r) = refl

  elected_keeps : (t : ℕ) (own : Option ℕ) (o : Option Reuse)
      → passed_in (reuse_elected v.core o t own) ≡ passed_in o
  elected_keeps t own None = refl
  elected_keeps t own (Some r) = refl

  pinning_keeps : (pin : Pin) (o : Option Reuse) → passed_in (reuse_pinning o pin) ≡ passed_in o
  pinning_keeps pin None = refl
  pinning_keeps pin (Some r) = refl

  reclaiming_keeps : (s : Reclaiming) (o : Option Reuse)
      → passed_in (reuse_reclaiming o s) ≡ passed_in o
  reclaiming_keeps s None = refl
  reclaiming_keeps s (Some r) = refl

  given_keeps : (o : Option Reuse) → passed_in (reuse_given o) ≡ passed_in o
  given_keeps None = refl
  given_keeps (Some r) = refl

  line_keeps : (z : Situation E) → ((t : ℕ) (p : Passing) → z ≢ ReadsPassed t p)
      → ((t : ℕ) → z ≢ Does (TakesPage t))
      → passed_in ((line X v z).fed got word).reuse ≡ passed_in v.reuse
  line_keeps (Does IsClosed) a b = refl
  line_keeps (Does IsIdle) a b = refl
  line_keeps (Does IsSpent) a b = refl
  line_keeps (Does LooksAtStage) a b = seen_keeps v.reuse
  line_keeps (Does (Elects t e)) a b = elected_keeps t (X.owner (X.fed e got word)) v.reuse
  line_keeps (Does (TakesPage t)) a b = absurd (b t refl)
  line_keeps (Does (AwaitsPage t)) a b = refl
  line_keeps (Does (StoresWord t page stored)) a b = refl
  line_keeps (Does (StoresLength t page stored)) a b = refl
  line_keeps (Does (GivesBack t page reason)) a b = given_keeps v.reuse
  line_keeps (Does (HasHanded t reason)) a b = given_keeps v.reuse
  line_keeps (Announces t) a b = pinning_keeps (Validating t) v.reuse
  line_keeps (Validates t) a b =
      pinning_keeps (cond (got / 2 == t) (Pinned t) (Invalidated t)) v.reuse
  line_keeps (Unpins t) a b = pinning_keeps Away v.reuse
  line_keeps (Withdraws t) a b = pinning_keeps Away v.reuse
  line_keeps (Scans s) a b = reclaiming_keeps (reclaim_fed s got) v.reuse
  line_keeps (Clears s) a b = reclaiming_keeps (reclaim_fed s got) v.reuse
  line_keeps (ReadsPassed t p) a b = absurd (a t p refl)

  -- a load goes on from what was loaded
  reads_on : (t : ℕ) (p : Passing) → situation X v ≡ ReadsPassed t p → (o : Option Reuse)
      → SituationTells v.core.layout.passers (ReadsPassed t p) o (situation_of X v.core)
      → (passed_in o ≡ Some p) × (passed_in (reuse_passed o (passing_fed p got))
      ≡ Some (passing_fed p got))
  reads_on t p i None w = absurd w
  reads_on t p i (Some r) w = (ap Some w.is, refl)

  loads_on : (t : ℕ) (p : Passing) → situation X v ≡ ReadsPassed t p
      → (passed_in v.reuse ≡ Some p)
      × (passed_in ((line_now X v).fed got word).reuse ≡ Some (passing_fed p got))
      × (((line_now X v).fed got word).core ≡ core_passed v.core (passing_fed p got))
  loads_on t p i =
      let w = reads_on t p i v.reuse (situation_tells X v (ReadsPassed t p) i) in (
        w.0,
        ap (λ z. passed_in ((line X v z).fed got word).reuse) i ∙ w.1,
        ap (λ z. ((line X v z).fed got word).core) i,
      )

pub loads_all_first : {E : Type 0} (X : Election E) (v : Sender E) → LoadsAllFirst X v
loads_all_first {E} X v = record {
  taken = λ t got word i. subst
      (λ z. IfSome ((line X v z).fed got word).reuse (λ r. r.passed ≡ passing_begun)) (sym i)
      (begun t got word v.reuse refl);
  read = λ t got word p i. loads_on X v got word t p i;
  kept = λ got word a b. line_keeps X v got word (situation X v) a b;
  given = λ t page i. of_its v.core.layout.passers t page (Does (GivesBack t page NoRoom))
      (λ u p e. absurd cc) (situation_of X v.core)
      (situation_tells X v (Does (GivesBack t page NoRoom)) i).0 (λ r w. w.1.calm) v.reuse i
      (situation_tells X v (Does (GivesBack t page NoRoom)) i);
  scanned = λ t page s at i. of_its v.core.layout.passers t page (Scans s) (λ u p e. absurd cc)
      (situation_of X v.core) at (λ r w. w.0.calm) v.reuse i (situation_tells X v (Scans s) i);
  cleared = λ t page s at i. of_its v.core.layout.passers t page (Clears s) (λ u p e. absurd cc)
      (situation_of X v.core) at (λ r w. w.0.calm) v.reuse i (situation_tells X v (Clears s) i);
} where
  begun : (t got word : ℕ) (o : Option Reuse) → v.reuse ≡ o
      → IfSome ((line X v (Does (TakesPage t))).fed got word).reuse (λ r. r.passed ≡ passing_begun)
  begun t got word None e = subst (λ o. IfSome
      ((line X (record v { reuse = o }) (Does (TakesPage t))).fed got word).reuse
      (λ r. r.passed ≡ passing_begun)) (sym e) tt
  begun t got word (Some r) e = subst (λ o. IfSome
      ((line X (record v { reuse = o }) (Does (TakesPage t))).fed got word).reuse
      (λ r. r.passed ≡ passing_begun)) (sym e) refl

-- ---- and so before it answers Full
-- only a page that is given back for want of room is answered so
is_no_room : (q : Pending) (t : ℕ) (reason : Reason) → answer_of_return q t reason ≡ turn.Full
    → reason ≡ NoRoom
is_no_room q t Sent e = absurd (by q.phase e) where
  by : (p : BatchPhase) → answer_sent q t p ≢ turn.Full
  by Open = λ w. cc
  by (Marking mark.End) = λ w. cc
  by (Marking mark.Leave) = λ w. cc
  by Closed = λ w. cc
is_no_room q t FoundEnd e = absurd cc
is_no_room q t NoRoom e = refl

pub full_loads : {E : Type 0} (X : Election E) (v : Sender E) (width : ℕ)
    (Belongs : ℕ → E → Type 0) (got word : ℕ) → ReuseKeeps width Belongs v.core v.reuse
    → IsFull X v → (line_now X v).answer got word ≡ turn.Full → HasLoadedAll v
full_loads {E} X v width Belongs got word k f full =
    by (situation_of X v.core) refl f.gives.returns
  where
    t : ℕ
    t = f.tenure

    -- what it does is answered Full
    answered : (z : Own E) → situation_of X v.core ≡ z
        → (line X v (Does z)).answer got word ≡ turn.Full
    answered z at =
        sym (ap (λ y. (line X v y).answer got word) (f.gives.does ∙ ap Does at)) ∙ full

    handed : (o : Option Reuse) → ReuseKeeps width Belongs v.core o → v.core.phase ≡ Giving t NoRoom
        → IfSome o (λ r. v.core.layout.passers ≤ r.passed.loaded)
    handed None h at = tt
    handed (Some r) h at =
        subst (λ ph. LoadedKeeps v.core.layout.passers ph r.passed) at h.loaded

    by : (z : Own E) → situation_of X v.core ≡ z → Returns t z → HasLoadedAll v
    by z at (Gives page reason) =
        let no = is_no_room v.core.queue t reason (answered (GivesBack t page reason) at) in
        (loads_all_first X v).given t page
        (f.gives.does ∙ ap Does at ∙ ap (λ why. Does (GivesBack t page why)) no)
    by z at (Says reason) =
        let no = is_no_room v.core.queue t reason (answered (HasHanded t reason) at) in
        handed v.reuse k (tells X v.core (HasHanded t reason) at ∙ ap (Giving t) no)

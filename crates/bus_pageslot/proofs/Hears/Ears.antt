-- The seat of a receiver goes elsewhere: its number is that of another seat then, and all other
-- views stay true.
use Rattle.std.proofs.Common.{◌≡◌, ◌≢◌, ◌⊎◌, inl, inr, ℕ, ◌<◌, true, false, arith, sym, ◌∙◌, ap}
use Rattle.std.proofs.lemmas.Bool.{cases_eq, cases_Bool, true≢false}
use Rattle.std.proofs.lemmas.Grind.{common_steps}
use Rattle.bus_register.specs.Tables.{put}
use Rattle.bus_register.specs.Private.TableLaws.{put_here, put_beside}
use Rattle.bus_automaton.specs.Processes.{TableLayout, Process, Automaton}
use Rattle.bus_pageslot.specs.ReceiverViews.{ReceiverView}
use Rattle.bus_pageslot.specs.Rule.{Ear, Unmade, Made, AreTwo, IsListening, IsUnheard, KnowsLog}
use Rattle.bus_pageslot.specs.Rule.{IsTrueOf}
use Rattle.bus_pageslot.specs.declared.rule.View.{View}
use Rattle.bus_pageslot.specs.declared.rule.View.TheVariants.{Maker, Sender, Tap, Meeting, Telling}
use Rattle.bus_pageslot.specs.declared.rule.View.TheVariants.{Spent}
use Rattle.bus_pageslot.proofs.Hears.Loads.{Listens}

-- at which seat a number is
abbrev pub seat_of : Ear → ℕ
seat_of (Unmade j) = j
seat_of (Made j) = j

-- a receiver of another seat
pub listening : {C : Type 0} (A : Automaton C) (z : A.State) (ear ear' : ℕ → Ear) (j : ℕ)
    (x : TableLayout) (e : ReceiverView)
    → KnowsLog A z ear j x e → (Listens A z ear j e → Listens A z ear' j e)
    → KnowsLog A z ear' j x e
listening A z ear ear' j x e h on = grind (arith, common_steps)

-- it is that of this seat now
pub listening_at : {C : Type 0} (A : Automaton C) (z : A.State) (ear ear' : ℕ → Ear) (i j : ℕ)
    (x : TableLayout) (e : ReceiverView)
    → KnowsLog A z ear i x e → (Listens A z ear i e → Listens A z ear' j e)
    → KnowsLog A z ear' j x e
listening_at A z ear ear' i j x e h on = grind (arith, common_steps)

module _ {C : Type 0} (P : Process C) (A : Automaton C) (z : A.State) (seat : ℕ → ℕ) (ear : ℕ → Ear)
    (me to : ℕ) where
  abbrev ear_now : ℕ → Ear
  ear_now = put me (Made to) ear

  -- for whose number a seat was made, for that one was
  made_still : (q : ℕ) → ((i : ℕ) → ear q ≢ Unmade i) → (i : ℕ) → ear_now q ≢ Unmade i
  made_still q had i none = grind (arith, common_steps, cases_eq, put_here, put_beside)

  -- of a seat at which no receiver has the number that has not left, nor is to be made one
  module _ (j : ℕ)
      (stays : (e : ReceiverView) → IsListening A z ear j e → e.gone ≡ false → e.me ≢ me)
      (unmade : (r : ℕ) → IsUnheard A z ear j r → r ≢ me) where
    listens_still : (e : ReceiverView) → Listens A z ear j e → Listens A z ear_now j e
    listens_still e (inl flat) = inl flat
    listens_still e (inr l) = inr record {
      here = λ here. put_beside me (Made to) ear e.me (stays e l here) ∙ l.here here;
      made = made_still e.me l.made;
      below = l.below;
      shown = l.shown;
      past = l.past;
    }

    knows_still : (x : TableLayout) (e : ReceiverView) → KnowsLog A z ear j x e
        → KnowsLog A z ear_now j x e
    knows_still x e h = listening A z ear ear_now j x e h (listens_still e)

    pub views_still : (v : View C) → IsTrueOf P A z seat ear j v
        → IsTrueOf P A z seat ear_now j v
    views_still (Maker x made) h = grind (arith, common_steps, put_beside)
    views_still (Sender c t notes) h = h
    views_still (Tap x e) h = knows_still x e h
    views_still (Meeting x e y f) h = (knows_still x e h.0, knows_still y f h.1, h.2)
    views_still (Telling c t notes x e) h = (h.0, knows_still x e h.1)
    views_still Spent h = tt

  -- so it is of each seat but the one where the number was
  pub views_beside : (from : ℕ) → seat_of (ear me) ≡ from → (j : ℕ) → j ≢ from → (v : View C)
      → IsTrueOf P A z seat ear j v → IsTrueOf P A z seat ear_now j v
  views_beside from mine j other = grind (arith, common_steps, views_still)

-- two that have not left have two numbers
numbers_apart : {C : Type 0} (A : Automaton C) (e f : ReceiverView) → AreTwo A e f
    → e.me < A.table_layout.passers → e.gone ≡ false → f.gone ≡ false → e.me ≢ f.me
numbers_apart A e f (inl flat) low b c same = omega arith
numbers_apart A e f (inr (inl ne)) low b c same = ne same
numbers_apart A e f (inr (inr (inl gone))) low b c same = absurd (true≢false (sym gone ∙ b))
numbers_apart A e f (inr (inr (inr gone))) low b c same = absurd (true≢false (sym gone ∙ c))

-- a receiver's seat goes to another: with it its number, where it has one of its own
pub record GoesTo {C : Type 0} (P : Process C) (A : Automaton C) (z : A.State)
    (seat : ℕ → ℕ) (ear : ℕ → Ear) (from to : ℕ) (x : TableLayout) (e : ReceiverView) : Type 0 where
  pub ear' : ℕ → Ear
  pub here : KnowsLog A z ear' to x e
  pub others : (j : ℕ) → j ≢ from → (v : View C) → IsTrueOf P A z seat ear j v
      → IsTrueOf P A z seat ear' j v
  -- and a receiver of another number keeps its seat
  pub beside : (y : TableLayout) (f : ReceiverView) → KnowsLog A z ear from y f
      → AreTwo A f e → KnowsLog A z ear' from y f

pub goes_to : {C : Type 0} (P : Process C) (A : Automaton C) (z : A.State) (seat : ℕ → ℕ)
    (ear : ℕ → Ear)
    (from to : ℕ) (x : TableLayout) (e : ReceiverView) → KnowsLog A z ear from x e
    → GoesTo P A z seat ear from to x e
goes_to {C} P A z seat ear from to x e h = by h.listens (cases_Bool e.gone)
  where
    stays_there : Listens A z ear to e → GoesTo P A z seat ear from to x e
    stays_there l = grind (arith, common_steps, listening_at)

    by : Listens A z ear from e → (e.gone ≡ true) ⊎ (e.gone ≡ false)
        → GoesTo P A z seat ear from to x e
    by (inl flat) b = stays_there (inl flat)
    by (inr l) (inl gone) = grind (arith, common_steps, stays_there, true≢false)
    by (inr l) (inr stays) = record {
      ear' = put e.me (Made to) ear;
      here = grind (arith, common_steps, listening_at, put_here, made_still);
      others = views_beside P A z seat ear e.me to from (ap seat_of (l.here stays));
      beside = λ y f k two. listening A z ear (put e.me (Made to) ear) from y f k (λ i. elim i [
        | inl flat ↦ inl flat
        | inr other ↦ inr record {
          here = λ here. grind (arith, common_steps, put_beside, numbers_apart);
          made = made_still P A z seat ear e.me to f.me other.made;
          below = other.below;
          shown = other.shown;
          past = other.past;
        }
      ]);
    }

-- receivers of two seats have two numbers, or one of them has left
pub two_of : {C : Type 0} (A : Automaton C) (z : A.State) (ear : ℕ → Ear) (i j : ℕ) → i ≢ j
    → (x : TableLayout) (e : ReceiverView) (y : TableLayout) (f : ReceiverView)
    → KnowsLog A z ear i x e → KnowsLog A z ear j y f → AreTwo A e f
two_of A z ear i j ne x e y f h k = grind (arith, common_steps, cases_Bool)

-- What a fork does, and what it keeps, by what a machine holds.
use Rattle.std.proofs.Common.{◌≡◌, ◌⊎◌, inl, ℕ, ◌<◌, ◌≤◌, ◌==◌, Bool, true, false, cond, Option}
use Rattle.std.proofs.Common.{Some, None, List, eq-eqb, length, slice_get, get_or, slice_index}
use Rattle.std.proofs.Common.{slice_set, arith, refl, sym, ◌∙◌, ap, subst}
use Rattle.std.specs.Prelude.{IfSome, Result, Ok, IfOk}
use Rattle.std.proofs.lemmas.Bool.{cases_Bool}
use Rattle.std.proofs.lemmas.Bool.Decides.{eqb_tells}
use Rattle.std.proofs.lemmas.List.{set-get_or}
use Rattle.std.proofs.lemmas.Grind.{common_steps}
use Rattle.bus_batch.proofs.FrameLaws.{spells_one}
use Rattle.bus_batch.specs.Frames.{Order, Spells}
use Rattle.bus_deliverylog.specs.Receiving.{Receiving, leaving_by, joining_by, joining_op}
use Rattle.bus_deliverylog.specs.Receiving.{forked_at}
use Rattle.bus_presence.proofs.ReclamationKept.{lt_tells}
use Rattle.bus_register.specs.Protocol.{Protocol}
use Rattle.bus_register.specs.Words.{register}
use Rattle.bus_register.specs.declared.limits.TheConstants.{MOST_RECEIVERS}
use Rattle.bus_register.specs.declared.limits.TheConstants.{MOST_SENDERS}
use Rattle.bus_register.specs.declared.limits.TheConstants.{PASSED_ALL}
use Rattle.bus_register.specs.declared.registers.Op.{Op}
use Rattle.bus_register.specs.declared.registers.Op.TheVariants.{Cas}
use Rattle.bus_register.specs.declared.registers.SenderNo.{SenderNo}
use Rattle.bus_tenure.specs.Core.{Election, Layout}
use Rattle.bus_world.proofs.Bounds.{words_low}
use Rattle.bus_world.proofs.LogLaws.{length-logged}
use Rattle.bus_world.proofs.PlayingLaws.{there}
use Rattle.bus_world.proofs.Serving.{Serves}
use Rattle.bus_world.specs.Turning.{words_after}
use Rattle.bus_world.specs.declared.events.StepFault.{StepFault}
use Rattle.bus_machine.proofs.Bases.AtNone.{flat_at_none, forks_reuse, passed_first, passes_by}
use Rattle.bus_machine.proofs.Bases.CyclicTurns.{protocol_kept}
use Rattle.bus_machine.proofs.Bases.Leading.{sits_forked, two_rows, led_some}
use Rattle.bus_machine.proofs.Calls.Holding.{leaves_within, sits}
use Rattle.bus_machine.proofs.Frames.Framed.{IsFramed, framed}
use Rattle.bus_machine.proofs.Promised.{promised}
use Rattle.bus_machine.proofs.Tenures.Nobody.{some_nobody}
use Rattle.bus_machine.specs.Forking.{KeepsForked}
use Rattle.bus_machine.specs.Machine.{Machine, Trails, Reached, Joins, Forks, IsOnWord, fork_in}
use Rattle.bus_machine.specs.Machine.{passed_by, trails_joined}
use Rattle.bus_machine.specs.Playing.{AreRows, IsHeld, IsBatch}
use Rattle.bus_machine.specs.Promise.{IsPromised, IsPromisedBy}

-- its step is on the word that a leave stores to
joins_within : (many passed : ℕ) (o : Option ℕ) → IfSome (leaving_by o) (λ q. register q < many)
    → IfSome (joining_by o passed) (λ q. register q < many)
joins_within many passed None low = tt
joins_within many passed (Some place) low = low

within : {E : Type 0} (m : Machine E) (o : Option Op) → IfSome o (λ q. register q < length m.words)
    → IsOnWord m o
within m None low = tt
within m (Some o) low = low

module _ {E : Type 0} (X : Election E) (P : Protocol E (Unit {0}) ℕ) (m : Machine E)
    (s : Serves X P m.layout) (h : IsHeld X m) (now : Machine E) (is : m ≡ now) (i j : ℕ)
    (v w : Receiving) (up : i < j) (low : j < length now.receivers)
    (v_is : v ≡ get_or m.receivers i v)
    (w_is : w ≡ get_or m.receivers j w) where
  f : IsFramed P m h.trails
  f = framed X P m h.trails (sits X P m s h) h.reached

  -- a receiver and another one
  low_here : j < length m.receivers
  low_here = subst (λ (y : Machine E). j < length y.receivers) (sym is) low

  at : slice_get m.receivers i ≡ Some v
  at = there m.receivers i v (let under = low_here in omega arith) v_is

  was : slice_get m.receivers j ≡ Some w
  was = there m.receivers j w low_here w_is

  w_passes : w.passed_at ≡ passed_by m.layout m.reuse j
  w_passes = passes_by X m h.trails h.reached j w was

  -- hear the same log
  pub same_log : (w.log_at ≡ v.log_at) × (w.length_at ≡ v.length_at) × (w.log_words ≡ v.log_words)
  same_log =
      let a = f.reads i v at in
      let b = f.reads j w was in (
        b.0 ∙ sym a.0,
        b.1.len_at ∙ sym a.1.len_at,
        b.1.log_words ∙ sym a.1.log_words,
      )

  own_place : (m.layout.passers ≡ 0) ⊎ (j < m.layout.passers)
  own_place = by m.reuse refl where
    by : (o : Option ℕ) → m.reuse ≡ o → (m.layout.passers ≡ 0) ⊎ (j < m.layout.passers)
    by None fresh = inl (flat_at_none X m h.trails h.reached fresh)
    by (Some rows) used =
        let t = sits X P m s h in
        ((protocol_kept X P rows m h.trails t.serves t.ok (two_rows X P m t rows used)
        (led_some X P m h.trails t h.reached rows used)).kept.floors.each j w was).many

  -- where one has no passed place none has
  pub none_passes : w.passed_at ≡ None → v.passed_at ≡ None
  none_passes none =
      grind (arith, common_steps, own_place, passes_by, at, passed_first, lt_tells, w_passes)

  -- ---- one is made that has the passed place of the other
  module _ (made : Receiving) (made_is : made ≡ forked_at w.passed_at v) where
    pub join_within : IfSome (joining_op made) (λ o. register o < length m.words)
    join_within = subst
        (λ (u : Receiving). IfSome (joining_op u) (λ o. register o < length m.words)) (sym made_is)
        (joins_within (length m.words) v.passed w.passed_at (leaves_within X P m s h j w was))

    -- and joins with its step, which tells whether it has
    module _ (free : (u : Receiving) → slice_get now.receivers i ≡ Some u → u.gone ≡ false)
        (words : List ℕ) (words_are : words ≡ words_after m.words (joining_op made))
        (told did : Bool)
        (found : (o : Op) → joining_op made ≡ Some o
        → told ≡ (slice_index m.words (register o) == PASSED_ALL))
        (alone : joining_op made ≡ None → told ≡ w.gone) (same : told ≡ did) where
      forked_is : made ≡ fork_in m j v
      forked_is = made_is ∙ ap (λ o. forked_at o v) w_passes

      step_is : (o : Option ℕ) → passed_by m.layout m.reuse j ≡ o
          → joining_op made ≡ joining_by o v.passed
      step_is o e = ap joining_op forked_is ∙ ap (λ k. joining_by k v.passed) e

      finds : (place : ℕ) → passed_by m.layout m.reuse j ≡ Some place
          → did ≡ (slice_index m.words place == PASSED_ALL)
      finds place e =
          sym same ∙ found (Cas record { 0 = place } PASSED_ALL v.passed) (step_is (Some place) e)

      -- one that has not left shows a place of the log
      stands_low : (place : ℕ) → passed_by m.layout m.reuse j ≡ Some place → w.gone ≡ false
          → slice_index m.words place ≡ PASSED_ALL → ⊥
      stands_low place e goes all =
          let shown = (f.heard j w place was e goes).0 in
          let own = (f.reads j w was).1.receives in
          grind (arith, common_steps, length-logged, f, words_low)

      shows : (place : ℕ) → passed_by m.layout m.reuse j ≡ Some place
          → (slice_index m.words place == PASSED_ALL) ≡ w.gone
      shows place e = grind (arith, cases_Bool, eq-eqb, slice_index, f, was, eqb_tells, stands_low)

      is_free : did ≡ w.gone
      is_free = by (passed_by m.layout m.reuse j) refl where
        by : (o : Option ℕ) → passed_by m.layout m.reuse j ≡ o → did ≡ w.gone
        by None none = sym same ∙ alone (step_is None none)
        by (Some place) e = finds place e ∙ shows place e

      abbrev forked : Machine E
      forked = record m {
        words = words;
        receivers = cond did (slice_set m.receivers j made) m.receivers;
      }

      pub does : Forks m i j did forked
      does = record {
        maker = v;
        there = at;
        stays = free v (subst (λ (y : Machine E). slice_get y.receivers i ≡ Some v) is at);
        up = up;
        last = w;
        was = was;
        free = is_free;
        within = subst (λ (u : Receiving). IsOnWord m (joining_op u)) forked_is
            (within m (joining_op made) join_within);
        finds = finds;
        after = grind (arith, common_steps, slice_set, forked_is);
      }

      pub does_now : Forks now i j did forked
      does_now = subst (λ y. Forks y i j did forked) is does

-- ---- what a fork leaves
module _ {E : Type 0} (X : Election E) (m m' : Machine E) (i j : ℕ) where
  -- where it is done that is held
  pub forked_held : IsHeld X m → Forks m i j true m' → IsHeld X m'
  forked_held h d =
      let same = forks_reuse X m m' i j d in
      let n = some_nobody X m h.trails h.reached in
      record {
        senders_few = subst (λ x. x.senders ≤ MOST_SENDERS) (sym same.0) h.senders_few;
        rows = subst (λ x. AreRows x m'.reuse) (sym same.0)
            (subst (AreRows m.layout) (sym same.1) h.rows);
        capacity_some = subst (λ x. 0 < x.capacity) (sym same.0) h.capacity_some;
        capacity_few = subst (λ x. x.capacity ≤ 65536) (sym same.0) h.capacity_few;
        passers_few = subst (λ x. x.passers ≤ MOST_RECEIVERS) (sym same.0) h.passers_few;
        batch = subst (λ (x : Layout). IsBatch x.passers x.batch) (sym same.0) h.batch;
        senders = cc;
        trails = trails_joined i j n.0 h.trails;
        reached = Joins m m' h.trails i j n.0 h.reached d n.1 n.2;
      }

  -- and else nothing has changed
  pub unforked : Forks m i j false m' → m' ≡ m
  unforked d = grind (arith, common_steps, slice_set, slice_index, set-get_or)

-- ---- the promise
-- it holds by whatever order and owners the log spells
by_spelled : {E : Type 0} (X : Election E) (m : Machine E) (T : Trails) (order : Order)
    (owners : List (ℕ × SenderNo)) → IsPromised X m T → Spells m.layout.senders T.log order owners
    → IsPromisedBy X m T order owners
by_spelled X m T order owners k spelled =
    let one =
    spells_one m.layout.senders T.log k.order order k.owners owners k.by.spelled spelled in
    subst (λ o. IsPromisedBy X m T o owners) one.0
    (subst (λ os. IsPromisedBy X m T k.order os) one.1 k.by)

-- ---- what is so of a call that answers this
module _ {E : Type 0} (X : Election E) (P : Protocol E (Unit {0}) ℕ) (m : Machine E)
    (now m' : Machine E) (i j : ℕ) (is : m ≡ now) (r : Result Bool StepFault)
    (forked : IfOk r (λ did. Forks now i j did m')) where
  tells : (b : Bool) → r ≡ Ok b → Forks now i j b m'
  tells b e = subst (λ q. IfOk q (λ did. Forks now i j did m')) e forked

  pub nothing_forked : r ≡ Ok false → m' ≡ now
  nothing_forked e = unforked X now m' i j (tells false e)

  -- whatever trails led to the machine, it keeps what is said of it
  pub kept_forked : Serves X P m.layout → IsHeld X m → r ≡ Ok true → (T : Trails) → Reached X now T
      → KeepsForked X now T i j m'
  kept_forked s h e T = subst (λ y. Forks y i j true m' → Reached X y T → KeepsForked X y T i j m')
      is kept (tells true e) where
        kept : Forks m i j true m' → Reached X m T → KeepsForked X m T i j m'
        kept d led = record {
          reached = λ n nobody silent. Joins m m' T i j n led d nobody silent;
          promised = λ n order owners nobody silent was.
              by_spelled X m' (trails_joined i j n T) order owners
              (promised X P m' (trails_joined i j n T)
              (sits_forked X P m m' i j d (sits X P m s h))
              (Joins m m' T i j n led d nobody silent))
              (subst (λ x. Spells x.senders T.log order owners) (sym (forks_reuse X m m' i j d).0)
              was.spelled);
          nobody = some_nobody X m T led;
        }

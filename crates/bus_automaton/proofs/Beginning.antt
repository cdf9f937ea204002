-- The one automaton begins as it should.
use Rattle.std.proofs.Common.{◌≤◌, ◌≡◌, ℕ, zero, suc, ◌+◌, ◌<◌, Option, Some, None, List, [], ◌∷◌}
use Rattle.std.proofs.Common.{◌++◌}
use Rattle.std.proofs.Common.{
  false,
  length,
  sym,
  slice_get,
  slice_index,
  replicate,
  inl,
  inr,
  arith,
  refl,
  ◌∙◌,
  ap,
}
use Rattle.std.proofs.Common.{subst}
use Rattle.bus_core.specs.Keeping.{new_sender}
use Rattle.bus_core.specs.Senders.{Sender}
use Rattle.bus_machine.proofs.Bases.NewSenders.{no_senders, one_more_sender}
use Rattle.bus_machine.specs.Machine.{Machine, New, log_place, no_machine_trails}
use Rattle.bus_machine.specs.Promise.{HasRows}
use Rattle.bus_machine.specs.Turning.{AreNewSenders}
use Rattle.bus_automaton.specs.Lawful.{Opens}
use Rattle.bus_automaton.specs.Processes.{IsCounted}
use Rattle.bus_register.specs.declared.limits.TheConstants.{MOST_MESSAGES}
use Rattle.bus_register.specs.Private.TableLaws.{some_or_none, here_not}
use Rattle.bus_tenure.specs.Core.{Election, Layout}
use Rattle.std.proofs.lemmas.Bool.{cases_lt}
use Rattle.std.proofs.lemmas.List.{length-append}
use Rattle.std.proofs.lemmas.Option.{same_Some, slice_get_within}
use Rattle.bus_batch.proofs.Feeding.{reads_none}
use Rattle.bus_batch.proofs.Taking.{reading}
use Rattle.bus_batch.specs.declared.readers.Place.TheVariants.{Between}
use Rattle.bus_deliverylog.specs.Receiving.{Receiving}
use Rattle.bus_world.specs.Log.{first_numbers, ring_numbers}
use Rattle.bus_world.specs.Starting.{IsNewReceiver}
use Rattle.bus_world.specs.World.{IsLayout, AreBases, first_page, no_stops}
use Rattle.bus_machine.specs.Machine.{passed_by}
use Rattle.bus_automaton.specs.OneAutomaton.{IsResting, bus_of, passed_of}
use Rattle.bus_automaton.specs.OneProcess.{process_of}

-- the first k senders, at their starts
crowd : {E : Type 0} → Layout → Option ℕ → List ℕ → ℕ → List (Sender E)
crowd x reuse bases zero = []
crowd x reuse bases (suc k) =
    crowd x reuse bases k ++ new_sender x k reuse (slice_index bases k) ∷ []

-- each of them is new
crowd_new : {E : Type 0} (x : Layout) (reuse : Option ℕ) (bases : List ℕ) (k : ℕ)
    → AreNewSenders x reuse bases k (crowd {E = E} x reuse bases k)
unfolding crowd
crowd_new x reuse bases zero = no_senders x reuse bases [] refl
crowd_new {E = E} x reuse bases (suc k) = subst (λ z. AreNewSenders x reuse bases z
    (crowd {E = E} x reuse bases k ++ new_sender x k reuse (slice_index bases k) ∷ []))
    (let e : k + 1 ≡ suc k = omega arith in e)
    (one_more_sender x reuse bases k (crowd x reuse bases k)
    (new_sender x k reuse (slice_index bases k)) (crowd_new x reuse bases k) refl)

-- and there
crowd_has : {E : Type 0} (x : Layout) (reuse : Option ℕ) (bases : List ℕ) (k p : ℕ) → p < k
    → slice_get (crowd {E = E} x reuse bases k) p
    ≡ Some (new_sender x p reuse (slice_index bases p))
crowd_has {E = E} x reuse bases k p l =
    let h = crowd_new {E = E} x reuse bases k in
    elim (some_or_none (slice_get (crowd {E = E} x reuse bases k) p)) [
      | inr c ↦ c.1 ∙ ap Some (h.each p c.0 c.1).1
      | inl nobody ↦ absurd
          (here_not (crowd {E = E} x reuse bases k) p (let z = h.many_are in omega arith) nobody)
    ]

-- nobody else is
none_here : {A : Type 0} {B : Type 0} (v : A) → None ≡ Some v → B
none_here v e = absurd (let wrong : ⊥ = cc in wrong)

-- ---- receivers, one for each passed place
get_left : {A : Type 0} (xs ys : List A) (i : ℕ) → i < length xs
    → slice_get (xs ++ ys) i ≡ slice_get xs i
get_left [] ys i low = absurd (omega arith)
get_left (x ∷ xs) ys zero low = refl
get_left (x ∷ xs) ys (suc i) low = get_left xs ys i (omega arith)

get_at : {A : Type 0} (xs : List A) (y : A) (ys : List A)
    → slice_get (xs ++ y ∷ ys) (length xs) ≡ Some y
get_at [] y ys = refl
get_at (x ∷ xs) y ys = get_at xs y ys

listener : Layout → Option ℕ → ℕ → Receiving
listener x reuse r = record {
  log_at = log_place x reuse;
  length_at = 0;
  log_words = x.capacity;
  passed_at = passed_by x reuse r;
  passed = 0;
  gone = false;
  known = 0;
  place = 0;
  frames = reading MOST_MESSAGES x.senders 0 (replicate 256 false) Between [];
  ended = false;
}

audience : Layout → Option ℕ → ℕ → List Receiving
audience x reuse zero = []
audience x reuse (suc k) = audience x reuse k ++ listener x reuse k ∷ []

audience_many : (x : Layout) (reuse : Option ℕ) (k : ℕ) → length (audience x reuse k) ≡ k
unfolding audience
audience_many x reuse zero = refl
audience_many x reuse (suc k) =
    length-append (audience x reuse k) (listener x reuse k ∷ [])
    ∙ (let before = audience_many x reuse k in omega arith)

audience_has : (x : Layout) (reuse : Option ℕ) (k r : ℕ) → r < k
    → slice_get (audience x reuse k) r ≡ Some (listener x reuse r)
unfolding audience
audience_has x reuse zero r low = absurd (omega arith)
audience_has x reuse (suc k) r low = elim (cases_lt r k) [
  | inl before ↦
      get_left (audience x reuse k) (listener x reuse k ∷ []) r
      (let many = audience_many x reuse k in omega arith)
      ∙ audience_has x reuse k r before
  | inr last ↦
      let same : r ≡ k = omega arith in
      let many = audience_many x reuse k in
      subst (λ i. slice_get (audience x reuse k ++ listener x reuse k ∷ []) i
      ≡ Some (listener x reuse r)) (many ∙ sym same)
      (get_at (audience x reuse k) (listener x reuse k) []
      ∙ ap (λ i. Some (listener x reuse i)) (sym same))
]

-- each is new
listens : (x : Layout) (reuse : Option ℕ) (k r : ℕ) (v : Receiving)
    → slice_get (audience x reuse k) r ≡ Some v → (v ≡ listener x reuse r) × (r < k)
listens x reuse k r v at =
    let within = slice_get_within (audience x reuse k) r v at in
    let low : r < k = let many = audience_many x reuse k in omega arith in
    (same_Some v (listener x reuse r) (sym at ∙ audience_has x reuse k r low), low)

is_new : (x : Layout) (reuse : Option ℕ) (r : ℕ)
    → IsNewReceiver x.senders (log_place x reuse) x.capacity (passed_by x reuse r)
    (listener x reuse r)
unfolding listener
is_new x reuse r = record {
  senders_are = refl;
  log_is = refl;
  length_is = refl;
  words_are = refl;
  known = refl;
  place = refl;
  going = refl;
  read = reads_none MOST_MESSAGES x.senders (replicate 256 false) [] refl refl;
  passed_is = refl;
  unpassed = refl;
  stays = refl;
}

is_resting : (x : Layout) (reuse : Option ℕ) (r : ℕ) → IsResting (listener x reuse r)
unfolding listener
is_resting x reuse r = record { going = refl; passed = refl; between = refl; nothing = refl }

passed_none : (x : Layout) (reuse : Option ℕ) (r : ℕ)
    → passed_of (Some (listener x reuse r)) ≡ Some 0
unfolding listener
passed_none x reuse r = refl

-- the numbers of messages begin far below their range
counted : {E : Type 0} (X : Election E) (x : Layout) (reuse : Option ℕ) (bases : List ℕ)
    → x.batch ≤ MOST_MESSAGES → AreBases bases → (p : ℕ)
    → IsCounted (process_of X) (new_sender x p reuse (slice_index bases p))
counted X x None bases few are p = record {
  first = (let low = are.low p in omega arith);
  few = omega arith;
  limit = refl;
}
counted X x (Some rows) bases few are p = record {
  first = (let low = are.low p in omega arith);
  few = omega arith;
  limit = refl;
}

low_in_rings : (passers batch : ℕ) (bases : List ℕ)
    → ((s : ℕ) → slice_index bases s < first_numbers passers batch) → 0 < passers → (s : ℕ)
    → slice_index bases s < ring_numbers batch
low_in_rings zero batch bases low some s = absurd (omega arith)
low_in_rings (suc passers) batch bases low some s = low s

-- it begins with all at their starts
pub opens : {E : Type 0} (X : Election E) (x : Layout) (reuse : Option ℕ) (bases : List ℕ)
    → IsLayout x → (reuse ≡ None → x.passers ≡ 0) → HasRows reuse → AreBases bases
    → ((s : ℕ) → slice_index bases s < first_numbers x.passers x.batch)
    → Opens (process_of X) (bus_of X x reuse bases)
opens {E} X x reuse bases ok apart has are low =
    let m : Machine E = record {
      layout = x;
      reuse = reuse;
      bases = bases;
      words = replicate (log_place x reuse + x.capacity) 0;
      home = Some (first_page bases);
      senders = crowd x reuse bases x.senders;
      receivers = audience x reuse x.passers;
      stopped = no_stops;
      owners = [];
    } in
    record {
      state = record { machine = m; trails = no_machine_trails };
      reached = record {
        served = ok;
        has_rows = has;
        layout = refl;
        rows_are = refl;
        bases_are = refl;
        reached = New m (record {
          bases_are = are;
          words = refl;
          home = refl;
          senders = λ p v e. (crowd_new {E = E} x reuse bases x.senders).each p v e;
          receivers = λ r v e. subst (IsNewReceiver x.senders (log_place x reuse) x.capacity
              (passed_by x reuse r)) (sym (listens x reuse x.passers r v e).0)
              (is_new x reuse r);
          apart = apart;
          many = λ r v e. inr (listens x reuse x.passers r v e).1;
          ring_bases = low_in_rings x.passers x.batch bases low;
          stopped = refl;
          owners = refl;
        });
        many = audience_many x reuse x.passers;
        rest = λ r v e stays.
            subst IsResting (sym (listens x reuse x.passers r v e).0) (is_resting x reuse r);
        running = refl;
      };
      words = refl;
      home = refl;
      senders = λ p below. crowd_has {E = E} x reuse bases x.senders p below;
      sender_trail = λ p. refl;
      passed = λ r below.
          ap passed_of (audience_has x reuse x.passers r below) ∙ passed_none x reuse r;
      counted = counted X x reuse bases ok.batch.1 are;
    }

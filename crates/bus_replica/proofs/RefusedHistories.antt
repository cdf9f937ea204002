-- Wrong histories of a counter are not linearizable, and a right one is.
use Rattle.std.proofs.Common.{◌≡◌, ℕ, zero, suc, ◌+◌, ◌*◌, ◌<◌, ◌≤◌, true, false, Option, Some}
use Rattle.std.proofs.Common.{None, List, [], ◌∷◌, ◌++◌, length, slice_get, refl, sym, ◌∙◌, ap}
use Rattle.std.proofs.Common.{subst, arith}
use Rattle.std.proofs.lemmas.List.{length-append, length-map}
use Rattle.std.proofs.lemmas.Option.{same_Some}
use Rattle.std.proofs.lemmas.Grind.{common_steps}
use Rattle.bus_world.proofs.Growing.{nothing_more}
use Rattle.bus_world.specs.Headline.{IsPrefix}
use Rattle.bus_batch.specs.declared.messages.Item.{Item}
use Rattle.bus_replica.specs.Histories.{Did, Executed, Read, Call, is_execution, Runs}
use Rattle.bus_replica.specs.Histories.{ExecutesAt, HistoriesAccept, operations_of, two_calls}
use Rattle.bus_replica.specs.Histories.{ReadsAt, TakesEffectAt, IsBefore, Counts}
use Rattle.bus_replica.specs.Histories.{IsCounted, ExecutedAs, ReadAs, HistoriesRefuse}
use Rattle.bus_replica.proofs.HistoryLaws.{stands_there}
use Rattle.bus_replica.proofs.OwnLaws.{at_place}
use Rattle.bus_replica.proofs.TimeLaws.{prefix_long}

-- ---- counting
counted : (old : ℕ) (history : List (Item × ℕ)) (new : ℕ) → Runs Counts old history new
    → new ≡ old + length history
counted old [] new same = omega (arith, same)
counted old (h ∷ history) new run =
    let next : run.0 ≡ old + 1 = run.1.1 in
    let rest = counted run.0 history new run.2 in
    omega (arith, next, rest)

answered : (old : ℕ) (before : List (Item × ℕ)) (item : Item) (answer : ℕ)
    (after : List (Item × ℕ)) (new : ℕ) → Runs Counts old (before ++ (item, answer) ∷ after) new
    → answer ≡ old + length before + 1
answered old [] item answer after new run =
    let now : answer ≡ old + 1 = run.1.0 in omega (arith, now)
answered old (h ∷ before) item answer after new run =
    let next : run.0 ≡ old + 1 = run.1.1 in
    let rest = answered run.0 before item answer after new run.2 in
    omega (arith, next, rest)

-- ---- of a history that is linearizable
module _ (operations : List Item) (calls : List (Call ℕ ℕ)) (h : IsCounted operations calls) where
  -- an execution that was answered n is at the point 2 n - 1
  point_executed : (i : ℕ) (c : Call ℕ ℕ) (answer : ℕ) → ExecutedAs calls i c answer
      → h.point i + 1 ≡ 2 * answer
  point_executed i c answer e =
      let effect : ExecutesAt h.history c.worker e.number e.bytes answer (h.point i) =
      subst (λ z. TakesEffectAt Counts h.first h.history c.worker z (h.point i)) e.did
      (h.effect i c e.at) in
      let run = subst (λ z. Runs Counts h.first z h.last) effect.stands h.legal in
      let count =
      answered h.first effect.before effect.item answer effect.after h.last run in
      grind (arith, common_steps)

  -- a read that showed n is at the point 2 n
  record ShowsAt (i shown : ℕ) : Type 0 where
    point_is : h.point i ≡ 2 * shown
    within : shown ≤ length h.history

  point_read : (i : ℕ) (c : Call ℕ ℕ) (shown : ℕ) → ReadAs calls i c shown → ShowsAt i shown
  point_read i c shown e =
      let effect : ReadsAt Counts h.first h.history shown (h.point i) =
      subst (λ z. TakesEffectAt Counts h.first h.history c.worker z (h.point i)) e.did
      (h.effect i c e.at) in
      let count = counted h.first effect.before shown effect.leads in
      let none : h.first ≡ 0 = h.begins in
      let point = effect.point_is in
      let all = ap length effect.stands in
      let parts = length-append effect.before effect.after in
      grind (arith, common_steps)

  -- calls keep their order
  timely : (i j : ℕ) (c d : Call ℕ ℕ) (did did' : Did ℕ ℕ) → slice_get calls i ≡ Some c
      → slice_get calls j ≡ Some d → c.did ≡ did → d.did ≡ did' → c.returned ≤ d.began
      → IsBefore did did' (h.point i) (h.point j)
  timely i j c d did did' at at' is is' before = grind (arith, common_steps)

-- so many operations at most are in a history
as_many : (operations : List Item) (history : List (Item × ℕ))
    → IsPrefix (operations_of history) operations → length history ≤ length operations
as_many operations history taken = grind (arith, common_steps, prefix_long, length-map)

pub refused : (operations : List Item) (calls : List (Call ℕ ℕ)) → HistoriesRefuse operations calls
refused operations calls = record {
  stale_read = λ i j c d answer shown e r before less h.
      let first = point_executed operations calls h i c answer e in
      let second = (point_read operations calls h j d shown r).point_is in
      let order : h.point i < h.point j =
      timely operations calls h i j c d (Executed e.number e.bytes answer) (Read shown) e.at r.at
      e.did r.did before in
      omega (arith, first, second, order, less);
  early_read = λ i j c d answer shown e r before less h.
      let first = point_executed operations calls h i c answer e in
      let second = (point_read operations calls h j d shown r).point_is in
      let order : h.point j < h.point i =
      timely operations calls h j i d c (Read shown) (Executed e.number e.bytes answer) r.at e.at
      r.did e.did before in
      omega (arith, first, second, order, less);
  read_back = λ i j c d shown later e r before less h.
      let first = (point_read operations calls h i c shown e).point_is in
      let second = (point_read operations calls h j d later r).point_is in
      let order : h.point i ≤ h.point j =
      timely operations calls h i j c d (Read shown) (Read later) e.at r.at e.did r.did before in
      omega (arith, first, second, order, less);
  lost_operation = λ i j c d answer differ e r h.
      let first = point_executed operations calls h i c answer e in
      let second = point_executed operations calls h j d answer r in
      differ (h.alone i j c d e.at r.at (ap is_execution e.did) (ap is_execution r.did)
      (omega (arith, first, second)));
  other_place = λ i j c d answer later e r before less h.
      let first = point_executed operations calls h i c answer e in
      let second = point_executed operations calls h j d later r in
      let order : h.point i < h.point j =
      timely operations calls h i j c d (Executed e.number e.bytes answer)
      (Executed r.number r.bytes later) e.at r.at e.did r.did before in
      omega (arith, first, second, order, less);
  foreign_operation = λ i c answer e none h.
      let effect : ExecutesAt h.history c.worker e.number e.bytes answer (h.point i) =
      subst (λ z. TakesEffectAt Counts h.first h.history c.worker z (h.point i)) e.did
      (h.effect i c e.at) in
      let at = ap (λ z. slice_get z (length effect.before)) effect.stands
      ∙ at_place effect.before effect.after (effect.item, answer) in
      none (length effect.before) effect.item
      (ap (λ z. slice_get z (length effect.before)) (sym h.taken.together)
      ∙ stands_there h.history h.taken.rest (length effect.before) effect.item answer at)
      effect.worker_is effect.number_is;
  from_nowhere = λ i c shown r none some h.
      let all = (point_read operations calls h i c shown r).within in
      let most = as_many operations h.history h.taken in
      let few = ap length none in
      omega (arith, all, most, few, some);
  applied_twice = λ i c shown item r is more h.
      let all = (point_read operations calls h i c shown r).within in
      let most = as_many operations h.history h.taken in
      let few = ap length is in
      omega (arith, all, most, few, more);
}

-- ---- histories that are linearizable
-- an execution that returns by this moment, and a read that begins at that one
module _ (item : Item) (reader returned began : ℕ) (some : 0 < returned) where
  abbrev first_call : Call ℕ ℕ
  first_call = record {
    worker = item.sender.0;
    began = 0;
    returned = returned;
    did = Executed item.number item.message 1;
  }

  abbrev second_call : ℕ → Call ℕ ℕ
  second_call shown =
      record { worker = reader; began = began; returned = began + 1; did = Read shown }

  abbrev right_history : List (Item × ℕ)
  right_history = (item, 1) ∷ []

  -- the points of the two calls
  abbrev point_at : ℕ → ℕ → ℕ
  point_at shown zero = 1
  point_at shown (suc i) = 2 * shown

  -- what holds of both calls, each at its place, holds of each call
  of_both : (shown : ℕ) (Q : ℕ → Call ℕ ℕ → Type 0) → Q 0 first_call → Q 1 (second_call shown)
      → (i : ℕ) (c : Call ℕ ℕ) → slice_get (two_calls item reader returned began shown) i ≡ Some c
      → Q i c
  of_both shown Q one two zero c at = subst (Q 0) (same_Some first_call c at) one
  of_both shown Q one two (suc zero) c at = subst (Q 1) (same_Some (second_call shown) c at) two
  of_both shown Q one two (suc (suc i)) c at =
      absurd (let no : ◌≡◌ {A = Option (Call ℕ ℕ)} None (Some c) = at in cc)

  abbrev TakesEffect : ℕ → ℕ → Call ℕ ℕ → Type 0
  TakesEffect shown i c = TakesEffectAt Counts 0 right_history c.worker c.did (point_at shown i)

  -- executions are at the first place
  abbrev IsFirstCall : ℕ → Call ℕ ℕ → Type 0
  IsFirstCall i c = is_execution c.did ≡ true → i ≡ 0

  -- they keep their order in time
  abbrev ComesBefore : ℕ → ℕ → Call ℕ ℕ → ℕ → Call ℕ ℕ → Type 0
  ComesBefore shown i c j d =
      c.returned ≤ d.began → IsBefore c.did d.did (point_at shown i) (point_at shown j)

  read_there : (shown : ℕ) → shown ≤ 1 → ReadsAt Counts 0 right_history shown (2 * shown)
  read_there zero low = grind (arith, common_steps)
  read_there (suc zero) low =
      record {
        before = right_history;
        after = [];
        stands = refl;
        leads = (1, (refl, refl), refl);
        point_is = refl;
      }
  read_there (suc (suc shown)) low = absurd (omega (arith, low))

  two_accepted : (shown : ℕ) → shown ≤ 1 → (returned ≤ began → shown ≡ 1)
      → IsCounted (item ∷ []) (two_calls item reader returned began shown)
  two_accepted shown low in_order =
      let all = of_both shown IsFirstCall (λ is. refl)
      (λ is. absurd (let no : false ≡ true = is in cc)) in
      record {
        first = 0;
        begins = refl;
        history = right_history;
        last = 1;
        legal = (1, (refl, refl), refl);
        taken = nothing_more (item ∷ []);
        point = point_at shown;
        effect = of_both shown (TakesEffect shown)
            (record {
              before = [];
              item = item;
              after = [];
              stands = refl;
              worker_is = refl;
              number_is = refl;
              bytes_are = refl;
              point_is = refl;
            })
            (read_there shown low);
        alone = λ i j c d at at' is is' same.
            let one = all i c at is in let other = all j d at' is' in omega (arith, one, other);
        in_time = λ i j c d at at'. grind (arith, common_steps, of_both);
      }

pub accepted : (item : Item) (reader : ℕ) → HistoriesAccept item reader
accepted item reader = record {
  behind = two_accepted item reader 1 1 (omega arith) 1 (omega arith) (λ le. refl);
  beside = λ shown low. two_accepted item reader 2 1 (omega arith) shown low
      (λ le. absurd (omega (arith, le)));
}

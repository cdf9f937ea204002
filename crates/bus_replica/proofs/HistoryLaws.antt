-- Calls between moments of one order make a linearizable history.
use Rattle.std.proofs.Common.{◌≡◌, ℕ, zero, suc, ◌+◌, ◌*◌, ◌≤◌, inl, inr, true, false, Option, Some}
use Rattle.std.proofs.Common.{None, List, [], ◌∷◌, ◌++◌, length, slice_get, refl, sym, ◌∙◌, ap}
use Rattle.std.proofs.Common.{subst, append_assoc, arith}
use Rattle.std.proofs.lemmas.Bool.{cases_lt, cases_eq}
use Rattle.std.proofs.lemmas.List.{length-append, length-map, map-append}
use Rattle.std.proofs.lemmas.Option.{same_Some}
use Rattle.std.proofs.lemmas.Grind.{common_steps}
use Rattle.bus_batch.specs.declared.messages.Item.{Item}
use Rattle.bus_batch.specs.Frames.{Order, items_in}
use Rattle.bus_world.proofs.Growing.{nothing_more, prefix_after}
use Rattle.bus_world.specs.Headline.{IsPrefix}
use Rattle.bus_replica.specs.Replicas.{Operations, Folds, Begins, Then}
use Rattle.bus_replica.specs.OneOrder.{AreFunctions}
use Rattle.bus_replica.specs.Histories.{Did, Executed, Read, Call, is_execution, Runs}
use Rattle.bus_replica.specs.Histories.{operations_of, TakesEffectAt, IsBefore}
use Rattle.bus_replica.specs.Histories.{IsLinearizable, AreMoments, IsDoneBetween, AreDoneBy}
use Rattle.bus_replica.specs.Histories.{AreInTurn}
use Rattle.bus_replica.proofs.LinearLaws.{begins_front}
use Rattle.bus_replica.proofs.OwnLaws.{at_place}
use Rattle.bus_replica.proofs.TimeLaws.{prefix_long}

-- ---- lists that begin others
pub one_more : {A : Type 0} (x y : A) (xs ys : List A) → x ≡ y → IsPrefix xs ys
    → IsPrefix (x ∷ xs) (y ∷ ys)
one_more x y xs ys same h = grind (arith, common_steps)

-- of two beginnings of one list the shorter one begins the other
shorter : {A : Type 0} (xs ys whole : List A) → IsPrefix xs whole → IsPrefix ys whole
    → length xs ≤ length ys → IsPrefix xs ys
shorter xs ys whole h k few = begins_front xs h.rest ys k.rest (h.together ∙ sym k.together) few

-- ---- histories
same_pair : {A : Type 0} (h k : Item × A) → h.0 ≡ k.0 → h.1 ≡ k.1 → h ≡ k
same_pair {A} h k item answer = grind (arith, common_steps)

-- an operation that stands in a history stands at the same place in any list that it begins
pub stands_there : {A : Type 0} (history : List (Item × A)) (rest : List Item) (place : ℕ)
    (item : Item)
    (answer : A) → slice_get history place ≡ Some (item, answer)
    → slice_get (operations_of history ++ rest) place ≡ Some item
stands_there {A} [] rest place item answer at =
    absurd (let no : ◌≡◌ {A = Option (Item × A)} None (Some (item, answer)) = at in cc)
stands_there {A} (h ∷ history) rest zero item answer at =
    ap (λ (z : Item × A). Some z.0) (same_Some h (item, answer) at)
stands_there (h ∷ history) rest (suc place) item answer at =
    stands_there history rest place item answer at

-- ---- points
abbrev weight : {S A : Type 0} → Did S A → ℕ
weight (Executed number bytes answer) = 1
weight (Read shown) = 0

before_by : {S A : Type 0} (c d : Did S A) (point other : ℕ)
    → point + weight c + weight d ≤ other → IsBefore c d point other
before_by (Executed number bytes answer) d point other far = omega (arith, far)
before_by (Read shown) (Executed number bytes answer) point other far = omega (arith, far)
before_by (Read shown) (Read shown') point other far = omega (arith, far)

heavy : {S A : Type 0} (d : Did S A) → is_execution d ≡ true → weight d ≡ 1
heavy (Executed number bytes answer) is = refl
heavy (Read shown) is = absurd (let no : false ≡ true = is in cc)

-- what is chosen for each element of a list is chosen for each place
choose : {C : Type 0} (Q : C → ℕ → Type 0) (o : Option C)
    → ((c : C) → o ≡ Some c → (point : ℕ) × Q c point)
    → (point : ℕ) × ((c : C) → o ≡ Some c → Q c point)
choose {C} Q None has =
    (0, λ c at. absurd (let no : ◌≡◌ {A = Option C} None (Some c) = at in cc))
choose Q (Some d) has =
    let one = has d refl in
    (one.0, λ c at. subst (λ z. Q z one.0) (same_Some d c at) one.1)

-- ---- runs
module _ {S A : Type 0} (IsFirst : S → Type 0) (Applies : Operations S A) where
  -- one operation more
  runs_more : (old : S) (history : List (Item × A)) (at : S) (item : Item) (answer : A) (new : S)
      → Runs Applies old history at → Applies at item.sender.0 item.message answer new
      → Runs Applies old (history ++ (item, answer) ∷ []) new
  runs_more old [] at item answer new same applied =
      (new, subst (λ z. Applies z item.sender.0 item.message answer new) (sym same) applied, refl)
  runs_more old (h ∷ history) at item answer new run applied =
      (run.0, run.1, runs_more run.0 history at item answer new run.2 applied)

  -- the operations of items, each with its answer
  record HasRun (first : S) (items : List Item) (state : S) : Type 0 where
    run : List (Item × A)
    leads : Runs Applies first run state
    are : operations_of run ≡ items

  ran : (first : S) (items : List Item) (state : S) → Folds Applies first items state
      → HasRun first items state
  ran first _ _ Begins = record { run = []; leads = refl; are = refl }
  ran first _ _ (Then items old item answer new before applied) =
      let r = ran first items old before in
      record {
        run = r.run ++ (item, answer) ∷ [];
        leads = runs_more first r.run old item answer new r.leads applied;
        are = grind (arith, common_steps, map-append);
      }

  -- where an operation has one outcome, of two runs the operations of one of which begin those of
  -- the other the one begins the other
  same_run : AreFunctions IsFirst Applies → (history other : List (Item × A)) (rest : List Item)
      (old old' new new' : S) → old ≡ old' → operations_of history ++ rest ≡ operations_of other
      → Runs Applies old history new → Runs Applies old' other new' → IsPrefix history other
  same_run F [] other rest old old' new new' same e run run' =
      record { rest = other; together = refl }
  same_run F (h ∷ history) [] rest old old' new new' same e run run' = absurd (cc)
  same_run F (h ∷ history) (k ∷ other) rest old old' new new' same e run run' =
      let item : h.0 ≡ k.0 = cc in
      let later : operations_of history ++ rest ≡ operations_of other = cc in
      let moved : Applies old' k.0.sender.0 k.0.message h.1 run.0 =
      subst (λ (i : Item). Applies old' i.sender.0 i.message h.1 run.0) item
      (subst (λ o. Applies o h.0.sender.0 h.0.message h.1 run.0) same run.1) in
      let one = F.one_next old' k.0.sender.0 k.0.message h.1 k.1 run.0 run'.0 moved run'.1 in
      one_more h k history other (same_pair h k item one.0)
      (same_run F history other rest run.0 run'.0 new new' one.1 later run.2 run'.2)

  -- ---- parts
  -- What a call tells of the sequential history: its operations up to the point of the call, with
  -- their answers. They begin these operations, and lie between so many and so many of them.
  record ExecutesLast (least worker number : ℕ) (bytes : List ℕ) (answer : A)
      (run : List (Item × A)) : Type 0 where
    before : List (Item × A)
    item : Item
    run_is : run ≡ before ++ (item, answer) ∷ []
    worker_is : item.sender.0 ≡ worker
    number_is : item.number ≡ number
    bytes_are : item.message ≡ bytes
    behind : least ≤ length before

  record ReadsLast (least : ℕ) (run : List (Item × A)) (state shown : S) : Type 0 where
    shown_is : state ≡ shown
    behind : least ≤ length run

  abbrev TellsOf : ℕ → ℕ → List (Item × A) → S → Did S A → Type 0
  TellsOf least worker run state (Executed number bytes answer) =
      ExecutesLast least worker number bytes answer run
  TellsOf least worker run state (Read shown) = ReadsLast least run state shown

  record Part (first : S) (operations : List Item) (least most worker : ℕ) (did : Did S A) :
      Type 0 where
    run : List (Item × A)
    state : S
    leads : Runs Applies first run state
    of_order : IsPrefix (operations_of run) operations
    until : length run ≤ most
    tells : TellsOf least worker run state did

  -- the operations of a run are as many as its steps
  as_many : (run : List (Item × A)) (items : List Item) → operations_of run ≡ items
      → length run ≡ length items
  as_many run items same =
      sym (length-map run (λ (h : Item × A). h.0)) ∙ ap length same

  part : AreFunctions IsFirst Applies → (first : S) → IsFirst first → (operations : List Item)
      (earlier later : Order) → IsPrefix (items_in later.entries) operations
      → (worker : ℕ) (did : Did S A) → IsDoneBetween IsFirst Applies earlier later worker did
      → Part first operations (length (items_in earlier.entries)) (length (items_in later.entries))
      worker did
  part F first is operations earlier later all worker (Executed number bytes answer) done =
      let l = done.1 in
      let r = ran first l.before l.at
      (subst (λ z. Folds Applies z l.before l.at) (F.one_first l.first first l.begins is)
      l.folds) in
      let run = r.run ++ (l.item, answer) ∷ [] in
      let are : operations_of run ≡ l.before ++ l.item ∷ [] =
      map-append (λ (h : Item × A). h.0) r.run ((l.item, answer) ∷ [])
      ∙ ap (λ z. z ++ l.item ∷ []) r.are in
      let front : IsPrefix (operations_of run) (items_in later.entries) = record {
        rest = l.after;
        together = grind (arith, common_steps, append_assoc);
      } in
      let some = as_many r.run l.before r.are in
      let few = prefix_long (items_in earlier.entries) l.before l.behind in
      let size = prefix_long (operations_of run) (items_in later.entries) front in
      grind (arith, common_steps, length-map, runs_more, prefix_after)
  part F first is operations earlier later all worker (Read shown) l =
      let r = ran first l.items shown
      (subst (λ z. Folds Applies z l.items shown) (F.one_first l.first first l.begins is) l.folds)
      in
      grind (arith, common_steps, as_many, prefix_long, length-map, prefix_after)

  -- ---- the longest of them
  module _ (F : AreFunctions IsFirst Applies) (first : S) (operations : List Item)
      (size : ℕ → ℕ) where
    abbrev PartOf : Call S A → Type 0
    PartOf c = Part first operations (size c.began) (size c.returned) c.worker c.did

    -- a history goes on from it
    abbrev Goes : List (Item × A) → Call S A → Type 0
    Goes history c = (p : PartOf c) × IsPrefix p.run history

    record Longest (calls : List (Call S A)) : Type 0 where
      history : List (Item × A)
      last : S
      leads : Runs Applies first history last
      of_order : IsPrefix (operations_of history) operations
      each : (i : ℕ) (c : Call S A) → slice_get calls i ≡ Some c → Goes history c

    goes_each : (history : List (Item × A)) (c : Call S A) (calls : List (Call S A))
        → Goes history c → ((i : ℕ) (d : Call S A) → slice_get calls i ≡ Some d → Goes history d)
        → (i : ℕ) (d : Call S A) → slice_get (c ∷ calls) i ≡ Some d → Goes history d
    goes_each history c calls own rest zero d at = subst (Goes history) (same_Some c d at) own
    goes_each history c calls own rest (suc i) d at = rest i d at

    longest : (calls : List (Call S A))
        → ((i : ℕ) (c : Call S A) → slice_get calls i ≡ Some c → PartOf c) → Longest calls
    longest [] parts = grind (arith, common_steps)
    longest (c ∷ calls) parts =
        let rest = longest calls (λ i d at. parts (suc i) d at) in
        let own = parts zero c refl in
        let many = length-map rest.history (λ (h : Item × A). h.0) in
        let much = length-map own.run (λ (h : Item × A). h.0) in
        elim (cases_lt (length rest.history) (length own.run)) [
          | inl less ↦
              let begun = shorter (operations_of rest.history) (operations_of own.run) operations
              rest.of_order own.of_order (omega (arith, many, much, less)) in
              let on = same_run F rest.history own.run begun.rest first first rest.last own.state
              refl begun.together rest.leads own.leads in
              record {
                history = own.run;
                last = own.state;
                leads = own.leads;
                of_order = own.of_order;
                each = goes_each own.run c calls (own, nothing_more own.run)
                    (λ i d at.
                    let r = rest.each i d at in
                    (r.0, prefix_after r.0.run rest.history own.run r.1 on));
              }
          | inr more ↦
              let begun = shorter (operations_of own.run) (operations_of rest.history) operations
              own.of_order rest.of_order (omega (arith, many, much, more)) in
              let on = same_run F own.run rest.history begun.rest first first own.state rest.last
              refl begun.together own.leads rest.leads in
              record {
                history = rest.history;
                last = rest.last;
                leads = rest.leads;
                of_order = rest.of_order;
                each = goes_each rest.history c calls (own, on) rest.each;
              }
        ]

    -- ---- the point of a call
    record PlacedBy (history : List (Item × A)) (least most worker : ℕ) (did : Did S A)
        (point : ℕ) : Type 0 where
      effect : TakesEffectAt Applies first history worker did point
      low : 2 * least + weight did ≤ point
      high : point + weight did ≤ 2 * most

    placed : (history : List (Item × A)) (least most worker : ℕ) (did : Did S A)
        (p : Part first operations least most worker did) → IsPrefix p.run history
        → (point : ℕ) × PlacedBy history least most worker did point
    placed history least most worker (Executed number bytes answer) p on =
        let t = p.tells in
        let far = t.behind in
        let near = p.until in
        let one = ap length t.run_is in
        let all = length-append t.before ((t.item, answer) ∷ []) in (
          2 * length t.before + 1,
          record {
            effect = grind (arith, common_steps, append_assoc);
            low = omega (arith, far);
            high = omega (arith, near, one, all);
          },
        )
    placed history least most worker (Read shown) p on =
        let t = p.tells in
        let far = t.behind in
        let near = p.until in (
          2 * length p.run,
          record {
            effect = grind (arith, common_steps);
            low = omega (arith, far);
            high = omega (arith, near);
          },
        )

    -- an execution's operation is at its point
    record IsThere (history : List (Item × A)) (worker point : ℕ) : Type 0 where
      place : ℕ
      item : Item
      answer : A
      at : slice_get history place ≡ Some (item, answer)
      own : item.sender.0 ≡ worker
      is : point ≡ 2 * place + 1

    is_there : (history : List (Item × A)) (worker : ℕ) (did : Did S A) (point : ℕ)
        → is_execution did ≡ true → TakesEffectAt Applies first history worker did point
        → IsThere history worker point
    is_there history worker (Executed number bytes answer) point is e = record {
      place = length e.before;
      item = e.item;
      answer = answer;
      at = grind (arith, common_steps, slice_get, length, at_place);
      own = e.worker_is;
      is = e.point_is;
    }
    is_there history worker (Read shown) point is e =
        absurd (let no : false ≡ true = is in cc)

    -- two at one point are of one worker
    one_worker : (history : List (Item × A)) (worker other point : ℕ)
        → IsThere history worker point → IsThere history other point → worker ≡ other
    one_worker history worker other point h k = grind (arith, common_steps, same_Some, slice_get)

    -- ---- all calls
    abbrev PlacedIn : List (Item × A) → Call S A → ℕ → Type 0
    PlacedIn history c point =
        PlacedBy history (size c.began) (size c.returned) c.worker c.did point

    placed_all : (calls : List (Call S A)) (all : Longest calls) (i : ℕ)
        → (point : ℕ)
        × ((c : Call S A) → slice_get calls i ≡ Some c → PlacedIn all.history c point)
    placed_all calls all i =
        choose (PlacedIn all.history) (slice_get calls i)
        (λ c at.
        let g = all.each i c at in
        placed all.history (size c.began) (size c.returned) c.worker c.did g.0 g.1)

    far_before : ((m n : ℕ) → m ≤ n → size m ≤ size n) → (history : List (Item × A))
        (c d : Call S A) (point other : ℕ) → PlacedIn history c point → PlacedIn history d other
        → c.returned ≤ d.began → point + weight c.did + weight d.did ≤ other
    far_before grows history c d point other h k before = grind (arith, common_steps)

    -- of two executions at one point neither is before the other
    apart : ((m n : ℕ) → m ≤ n → size m ≤ size n) → (history : List (Item × A))
        (c d : Call S A) (point other : ℕ) → PlacedIn history c point → PlacedIn history d other
        → is_execution c.did ≡ true → point ≡ other → c.returned ≤ d.began → ⊥
    apart grows history c d point other h k is same before =
        grind (arith, common_steps, far_before, heavy)

    all_linearizable : IsFirst first → ((m n : ℕ) → m ≤ n → size m ≤ size n)
        → (calls : List (Call S A))
        → ((i : ℕ) (c : Call S A) → slice_get calls i ≡ Some c → PartOf c) → AreInTurn calls
        → IsLinearizable IsFirst Applies operations calls
    all_linearizable is grows calls parts turns =
        let all = longest calls parts in
        let history = all.history in
        let point : ℕ → ℕ = λ i. (placed_all calls all i).0 in
        let at_point : (i : ℕ) (c : Call S A) → slice_get calls i ≡ Some c
        → PlacedIn history c (point i) = λ i c at. (placed_all calls all i).1 c at in
        record {
          first = first;
          begins = is;
          history = history;
          last = all.last;
          legal = all.leads;
          taken = all.of_order;
          point = point;
          effect = λ i c at. (at_point i c at).effect;
          alone = λ i j c d at at' has has' same.
              grind (arith, common_steps, is_there, one_worker, apart, cases_eq);
          in_time = λ i j c d at at' before. grind (arith, common_steps, before_by, far_before);
        }

-- ---- calls between moments
pub linearizable : {S A : Type 0} (IsFirst : S → Type 0) (Applies : Operations S A) (first : S)
    (orders : ℕ → Order) (last : ℕ) (calls : List (Call S A)) → AreFunctions IsFirst Applies
    → IsFirst first → AreMoments orders → AreDoneBy IsFirst Applies orders last calls
    → AreInTurn calls → IsLinearizable IsFirst Applies (items_in (orders last).entries) calls
linearizable IsFirst Applies first orders last calls F is moments by turns =
    let items : ℕ → List Item = λ n. items_in (orders n).entries in
    all_linearizable IsFirst Applies F first (items last) (λ n. length (items n)) is
    (λ m n up. prefix_long (items m) (items n) (moments m n up)) calls
    (λ i c at. part IsFirst Applies F first is (items last) (orders c.began)
    (orders c.returned) (moments c.returned last (by.returned i c at)) c.worker c.did
    (by.done i c at))
    turns

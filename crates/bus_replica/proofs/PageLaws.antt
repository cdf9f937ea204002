-- The next numbers behind a journal, item by item.
use Rattle.std.proofs.Common.{◌≡◌, ℕ, zero, suc, ◌-◌, ◌<◌, ◌≤◌, ◌^◌, Bool, true, false, List, []}
use Rattle.std.proofs.Common.{◌∷◌, ◌++◌, refl, replicate, slice_get, slice_index, Some, get_or, max}
use Rattle.std.proofs.Common.{take, arith, ◌==◌, if◌then◌else◌}
use Rattle.std.proofs.lemmas.Bool.Decides.{Decides-eqb}
use Rattle.std.proofs.Math.Nat.{le-max_left, le-max_right, le-min, le_refl}
use Rattle.std.proofs.lemmas.Option.{same_Some, slice_get_within}
use Rattle.std.proofs.lemmas.Grind.{common_steps}
use Rattle.bus_batch.specs.declared.messages.Item.{Item}
use Rattle.bus_replica.specs.Pages.{next_behind, next_behind_one, number_behind}

-- one item more
pub next_more : (sender : ℕ) (items : List Item) (item : Item) (next : ℕ)
    → next_behind sender (items ++ item ∷ []) next
    ≡ next_behind_one sender item (next_behind sender items next)
next_more sender [] item next = refl
next_more sender (i ∷ items) item next =
    next_more sender items item (next_behind_one sender i next)

-- as many zeros
pub zeros_at : (n k : ℕ) → slice_index (replicate n 0) k ≡ 0
zeros_at zero k = refl
zeros_at (suc n) zero = refl
zeros_at (suc n) (suc k) = zeros_at n k

-- ---- no number that was told is given again
eqb_true : (n : ℕ) → (n == n) ≡ true
eqb_true n = (Decides-eqb n n).1 refl

grown : (b : Bool) (next other : ℕ) → next ≤ (if b then max next other else next)
grown true next other = le-max_left next other
grown false next other = le_refl next

pub behind_all : (sender : ℕ) (items : List Item) (next : ℕ) → next ≤ next_behind sender items next
behind_all sender [] next = le_refl next
behind_all sender (i ∷ items) next =
    let one = grown (i.sender.0 == sender) next (number_behind i.number) in
    let more = behind_all sender items (next_behind_one sender i next) in
    omega (arith, one, more)

-- the next number behind an item of this sender is a greater one
behind_it : (item : Item) (next : ℕ) → item.number < 2 ^ 64 - 1
    → item.number < next_behind_one item.sender.0 item next
behind_it item next low = grind (arith, common_steps, le-min, le_refl, le-max_right, max, eqb_true)

pub told_behind : (items : List Item) (next k : ℕ) (item : Item) → slice_get items k ≡ Some item
    → item.number < 2 ^ 64 - 1 → item.number < next_behind item.sender.0 items next
told_behind [] next k item at low =
    let within = slice_get_within [] k item at in absurd (omega (arith, within))
told_behind (i ∷ items) next zero item at low =
    grind (arith, common_steps, same_Some, behind_it, behind_all)
told_behind (i ∷ items) next (suc k) item at low =
    told_behind items (next_behind_one item.sender.0 i next) k item at low

-- ---- of a sender that a front of the numbers has, the number there; of another, the one given
pub get_front : (n : ℕ) (numbers : List ℕ) (k : ℕ)
    → get_or (take n numbers) k (slice_index numbers k) ≡ slice_index numbers k
get_front zero numbers k = refl
get_front (suc n) [] k = refl
get_front (suc n) (x ∷ numbers) zero = refl
get_front (suc n) (x ∷ numbers) (suc k) = get_front n numbers k

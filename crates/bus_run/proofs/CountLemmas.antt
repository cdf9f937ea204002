-- What a note has counted of each sender is, in all, what the order has.
use Rattle.std.proofs.Common.{◌≡◌, ℕ, zero, suc, ◌+◌, ◌<◌, ◌≤◌, Bool, true, false, cond, ◌==◌, inl}
use Rattle.std.proofs.Common.{inr, List, [], ◌∷◌, ◌++◌, length, map, take, get_or, slice_index}
use Rattle.std.proofs.Common.{All, arith, refl, sym, ap, subst, ◌∙◌}
use Rattle.std.specs.Prelude.{filter, flat_map, sum}
use Rattle.std.proofs.lemmas.Bool.{cases_lt}
use Rattle.std.proofs.lemmas.Bool.Decides.{eqb_tells}
use Rattle.std.proofs.lemmas.List.{take_all}
use Rattle.std.proofs.lemmas.List.Concat.{flat_map-append}
use Rattle.std.proofs.lemmas.List.Sums.{sum_by_more}
use Rattle.bus_register.specs.declared.limits.TheConstants.{MOST_SENDERS}
use Rattle.bus_register.specs.declared.registers.SenderNo.{SenderNo}
use Rattle.bus_batch.specs.declared.messages.Item.{Item}
use Rattle.bus_batch.specs.Messages.{Numbered}
use Rattle.bus_batch.specs.declared.messages.Mark.TheVariants as mark
use Rattle.bus_batch.specs.Frames.{Body, Frame, Order, Messages, Marked, AreFramesFrom, Spells}
use Rattle.bus_batch.specs.Frames.{Says, item_in, items_in, item_of, body_entries, entries_of}
use Rattle.bus_receiver.specs.Hearing.{Hearing}
use Rattle.bus_run.specs.Audit.{IsFair, IsSummed, CountsAll}

-- ---- the sum of a number for each place below many
abbrev total : ℕ → (ℕ → ℕ) → ℕ
total zero f = 0
total (suc n) f = total n f + f n

total_same : (n : ℕ) (f g : ℕ → ℕ) → ((s : ℕ) → s < n → f s ≡ g s) → total n f ≡ total n g
total_same zero f g e = refl
total_same (suc n) f g e =
    let rest = total_same n f g (λ s l. e s (omega arith)) in
    let here = e n (omega arith) in omega arith

total_zero : (n : ℕ) → total n (λ s. 0) ≡ 0
total_zero zero = refl
total_zero (suc n) = let rest = total_zero n in omega arith

total_plus : (n : ℕ) (f g : ℕ → ℕ) → total n (λ s. f s + g s) ≡ total n f + total n g
total_plus zero f g = refl
total_plus (suc n) f g = let rest = total_plus n f g in omega arith

-- one at a single place
abbrev one_at : ℕ → ℕ → ℕ
one_at k s = cond (k == s) 1 0

none_below : (n k : ℕ) → n ≤ k → total n (one_at k) ≡ 0
none_below zero k l = refl
none_below (suc n) k l = elim (eqb_tells k n) [
  | inl at ↦ (let is = at.1 in absurd (omega arith))
  | inr other ↦
      let rest = none_below n k (omega arith) in
      let here : one_at k n ≡ 0 = ap (λ b. cond b 1 0) other.0 in
      omega arith
]

one_below : (n k : ℕ) → k < n → total n (one_at k) ≡ 1
one_below zero k l = absurd (omega arith)
one_below (suc n) k l = elim (eqb_tells k n) [
  | inl at ↦
      let is = at.1 in
      let rest = none_below n k (omega arith) in
      let here : one_at k n ≡ 1 = ap (λ b. cond b 1 0) at.0 in
      omega arith
  | inr other ↦
      let below : k < n = elim (cases_lt k n) [
        | inl less ↦ less
        | inr more ↦ absurd (other.1 (omega arith))
      ] in
      let rest = one_below n k below in
      let here : one_at k n ≡ 0 = ap (λ b. cond b 1 0) other.0 in
      omega arith
]

-- ---- items, sender by sender
abbrev pub Below : ℕ → List Item → Type 0
Below n [] = Unit {0}
Below n (i ∷ items) = (i.sender.0 < n) × Below n items

abbrev has_of : List Item → ℕ → ℕ
has_of items s = length (filter (λ (i : Item). i.sender.0 == s) items)

one_longer : (b : Bool) (i : Item) (items : List Item)
    → length (cond b (i ∷ items) items) ≡ cond b 1 0 + length items
one_longer true i items = omega arith
one_longer false i items = omega arith

all_of : (n : ℕ) (items : List Item) → Below n items → total n (has_of items) ≡ length items
all_of n [] below = total_zero n
all_of n (i ∷ items) below =
    let rest = all_of n items below.1 in
    let one = one_below n i.sender.0 below.0 in
    let each = total_same n (has_of (i ∷ items)) (λ s. one_at i.sender.0 s + has_of items s)
    (λ s l. one_longer (i.sender.0 == s) i (filter (λ (i : Item). i.sender.0 == s) items)) in
    let both = total_plus n (one_at i.sender.0) (has_of items) in
    let next : total n (one_at i.sender.0) + total n (has_of items) ≡ suc (length items) =
    omega arith in
    each ∙ both ∙ next

below_both : (n : ℕ) (xs ys : List Item) → Below n xs → Below n ys → Below n (xs ++ ys)
below_both n [] ys a b = b
below_both n (x ∷ xs) ys a b = (a.0, below_both n xs ys a.1 b)

below_messages : (n : ℕ) (owner : SenderNo) (messages : List Numbered) → owner.0 < n
    → Below n (items_in (map (λ (m : Numbered). Says (item_of owner m)) messages))
below_messages n owner [] l = tt
below_messages n owner (m ∷ messages) l = (l, below_messages n owner messages l)

below_body : (n : ℕ) (owner : SenderNo) (body : Body) → owner.0 < n
    → Below n (items_in (body_entries owner body))
below_body n owner (Messages messages) l = below_messages n owner messages l
below_body n owner (Marked mark.End) l = tt
below_body n owner (Marked mark.Leave) l = tt

pub below_frames : (senders n least : ℕ) (fs : List Frame) → senders ≤ n
    → AreFramesFrom senders least fs → Below n (items_in (flat_map entries_of fs))
below_frames senders n least [] l h = tt
below_frames senders n least (f ∷ fs) l h =
    subst (Below n) (sym (flat_map-append item_in (entries_of f) (flat_map entries_of fs)))
    (below_both n (items_in (entries_of f)) (items_in (flat_map entries_of fs))
    (below_body n f.owner f.body (let owner = h.0.owner in omega arith))
    (below_frames senders n (f.tenure + 1) fs l h.3))

-- ---- counts
sum_to : (counts : List ℕ) (k : ℕ) → k ≤ length counts
    → sum (take k counts) ≡ total k (slice_index counts)
sum_to counts zero l = refl
sum_to counts (suc k) l =
    let next : suc k ≡ k + 1 = omega arith in
    let more = sum_by_more (λ x. x) counts k 0 (omega arith) in
    let rest = sum_to counts k (omega arith) in
    ap (λ n. sum (take n counts)) next ∙ more ∙ ap (λ n. n + slice_index counts k) rest

sum_all : (counts : List ℕ) (many : ℕ) → length counts ≡ many
    → sum counts ≡ total many (slice_index counts)
sum_all counts many is =
    ap sum (sym (take_all many counts (omega arith))) ∙ sum_to counts many (omega arith)

-- a note that counted, of each sender of a bus, what the order has, and whose total is the sum of
-- these, has counted all items
counts_all :
    (senders : ℕ) (words : List ℕ) (order : Order) (owners : List (ℕ × SenderNo)) (h : Hearing)
    → senders ≤ MOST_SENDERS → Spells senders words order owners → IsSummed h → IsFair order h
    → CountsAll order h
counts_all senders words order owners h few spells summed fair =
    let items : List Item = items_in order.entries in
    let below : Below MOST_SENDERS items = subst
    (λ (o : Order). Below MOST_SENDERS (items_in o.entries)) spells.order_is
    (below_frames senders MOST_SENDERS 0 spells.frames few spells.lawful) in
    sym summed.1 ∙ sum_all h.counts MOST_SENDERS summed.0
    ∙ total_same MOST_SENDERS (slice_index h.counts) (has_of items) (λ s l. fair.0 s l)
    ∙ all_of MOST_SENDERS items below

pub all_counted : (senders : ℕ) (words : List ℕ) (order : Order) (owners : List (ℕ × SenderNo))
    (heards : List Hearing) → senders ≤ MOST_SENDERS → Spells senders words order owners
    → All IsSummed heards → All (IsFair order) heards → All (CountsAll order) heards
all_counted senders words order owners heards few spells summed fair k d l =
    counts_all senders words order owners (get_or heards k d) few spells (summed k d l) (fair k d l)

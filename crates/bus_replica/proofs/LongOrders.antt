-- What is linearizable over the pieces of long operations is so over these.
use Rattle.std.proofs.Common.{◌≡◌, ℕ, ◌+◌, ◌<◌, ◌≤◌, Bool, ◌==◌, List, [], ◌∷◌, ◌++◌, Option, Some}
use Rattle.std.proofs.Common.{All, length, map, filter, flat_map, slice_get, refl, sym, ap, subst}
use Rattle.std.proofs.Common.{◌∙◌, arith, append_assoc}
use Rattle.std.proofs.lemmas.List.{length-map, map-append}
use Rattle.std.proofs.lemmas.Grind.{common_steps}
use Rattle.bus_register.specs.declared.limits.TheConstants.{MOST_SENDERS}
use Rattle.bus_batch.specs.declared.messages.Item.{Item}
use Rattle.bus_batch.specs.Frames.{Order, Says, items_in}
use Rattle.bus_deliverylog.specs.Orders.{of_sender}
use Rattle.bus_world.specs.Headline.{IsPrefix}
use Rattle.bus_long.specs.Joined.{long_order, longs, longs_behind, sent_by, whole_behind}
use Rattle.bus_long.specs.Joined.{whole_item}
use Rattle.bus_long.specs.Pieces.{begun, nothing, pieces, whole_by}
use Rattle.bus_long.specs.declared.pieces.TheConstants.{MOST_LONG_BYTES}
use Rattle.bus_replica.specs.Linearized.{IsLinearized, IsRead}
use Rattle.bus_replica.specs.Longs.{AppliesLong, AppliesWhole, ArePiecesOf, IsFirstLong, LongState}
use Rattle.bus_replica.specs.Longs.{begun_of}
use Rattle.bus_replica.specs.Replicas.{Operations}
use Rattle.bus_replica.proofs.LongLaws.{PieceLaws, AreBelow, HasFolded, below_before, folds_long}
use Rattle.bus_replica.proofs.OwnLaws.{at_place, own_items}

-- ---- orders of long messages
items_said : (items : List Item) → items_in (map Says items) ≡ items
items_said [] = refl
items_said (item ∷ items) = ap (λ z. item ∷ z) (items_said items)

pub long_items : (order : Order)
    → items_in (long_order order).entries ≡ longs (items_in order.entries)
long_items order = items_said (longs (items_in order.entries))

longs_grow : PieceLaws → (items more : List Item) → IsPrefix items more
    → IsPrefix (longs items) (longs more)
longs_grow laws items more on = grind (arith, common_steps)

pub long_on : PieceLaws → (earlier later : Order)
    → IsPrefix (items_in earlier.entries) (items_in later.entries)
    → IsPrefix (items_in (long_order earlier).entries) (items_in (long_order later).entries)
long_on laws earlier later on = grind (arith, long_items, longs_grow)

-- of a worker that has put the pieces of long operations the first of these stand in it
pub long_whole : PieceLaws → (order : Order) (worker : ℕ) (operations messages : List (List ℕ))
    → ArePiecesOf operations messages
    → IsPrefix (map (λ (i : Item). i.message) (of_sender worker order)) messages
    → IsPrefix (sent_by worker (items_in (long_order order).entries)) operations
long_whole laws order worker operations messages are begins =
    let whole = laws.whole worker (items_in order.entries) operations begins.rest are.short
    (begins.together ∙ are.all) in
    grind (arith, common_steps, long_items)

-- ---- the messages of a worker before one of its own
pub same_front : {A : Type 0} (xs ys us vs : List A) → length xs ≡ length us
    → xs ++ ys ≡ us ++ vs → xs ≡ us
same_front [] ys [] vs l e = refl
same_front [] ys (u ∷ us) vs l e = absurd (omega (arith, l))
same_front (x ∷ xs) ys [] vs l e = absurd (omega (arith, l))
same_front (x ∷ xs) ys (u ∷ us) vs l e =
    let same : x ≡ u = cc in
    ap (λ z. z ∷ xs) same ∙ ap (λ z. u ∷ z) (same_front xs ys us vs (omega (arith, l)) (cc))

-- Where its items are numbered from the first, and their messages are the first that it put, before
-- the item of a number stand just those that it had put before that.
pub own_front : (first : ℕ) (order : Order) (all : List (List ℕ)) (worker : ℕ)
    → ((k : ℕ) (i : Item) → slice_get (of_sender worker order) k ≡ Some i → i.number ≡ first + k)
    → IsPrefix (map (λ (i : Item). i.message) (of_sender worker order)) all
    → (before after : List Item) (item : Item)
    → items_in order.entries ≡ before ++ item ∷ after → item.sender.0 ≡ worker
    → (pre post : List (List ℕ)) → all ≡ pre ++ post → item.number ≡ first + length pre
    → sent_by worker before ≡ pre
own_front first order all worker numbers messages before after item stands own pre post puts_are
    number =
    let p : Item → Bool = λ i. i.sender.0 == worker in
    let m : Item → List ℕ = λ i. i.message in
    let mine = own_items worker order before after item stands own in
    let F = filter p before in
    let L = filter p after in
    let at : slice_get (of_sender worker order) (length F) ≡ Some item =
    ap (λ z. slice_get z (length F)) mine ∙ at_place F L item in
    grind (arith, common_steps, length, same_front, map, length-map, append_assoc, map-append)

-- ---- over long operations
module _ {S A : Type 0} (IsFirst : S → Type 0) (Applies : Operations S A) (laws : PieceLaws) where
  some_whole : (old new : S) (from : ℕ) (whole : Option (List ℕ)) (bytes : List ℕ)
      (answer : Option A) → whole ≡ Some bytes → AppliesWhole Applies old from whole answer new
      → (own : A) × (answer ≡ Some own) × Applies old from bytes own new
  some_whole old new from whole bytes answer is applied =
      subst (λ z. AppliesWhole Applies old from z answer new) is applied

  -- an execution whose worker had put the pieces of long operations, and then those of this one
  pub long_linearized : (earlier later : Order) (worker number : ℕ) (last : List ℕ)
      (answer : Option A) (state : LongState S)
      → (l : IsLinearized (IsFirstLong IsFirst) (AppliesLong Applies) earlier later worker number
      last answer state) → AreBelow MOST_SENDERS (items_in later.entries)
      → (operations front : List (List ℕ)) (bytes : List ℕ)
      → All (λ op. length op ≤ MOST_LONG_BYTES) operations → length bytes ≤ MOST_LONG_BYTES
      → pieces bytes ≡ front ++ last ∷ []
      → sent_by worker l.before ≡ flat_map pieces operations ++ front
      → (own : A) × (answer ≡ Some own)
      × IsLinearized IsFirst Applies (long_order earlier) (long_order later) worker number bytes own
      state.state
  long_linearized earlier later worker number last answer state l below operations front bytes
      short few cut_is sent =
      let first = l.first in
      let begins = l.begins in
      let all = subst (AreBelow MOST_SENDERS) l.stands below in
      let h : HasFolded IsFirst Applies laws first l.before l.at =
      folds_long IsFirst Applies laws first begins l.before l.at l.folds
      (below_before MOST_SENDERS l.before (l.item ∷ l.after) all) in
      let own_below : worker < MOST_SENDERS =
      subst (λ w. w < MOST_SENDERS) l.worker_is (all l.before l.after l.item refl) in
      let whole_is : whole_by (begun nothing (sent_by worker l.before)) last ≡ Some bytes =
      ap (λ z. whole_by (begun nothing z) last) sent
      ∙ laws.last operations front bytes last short few cut_is in
      let applied = some_whole l.at.state state.state worker
      (whole_by (begun_of l.at worker) last) bytes answer
      (ap (λ b. whole_by b last) (h.begun_is worker own_below) ∙ whole_is) l.applied.whole in
      let mine : Item = record l.item { message = bytes } in
      let becomes : whole_behind l.before l.item ≡ mine ∷ [] =
      ap (λ w. whole_item l.item (whole_by (begun nothing (sent_by w l.before)) l.item.message))
      l.worker_is
      ∙ ap (λ z. whole_item l.item (whole_by (begun nothing (sent_by worker l.before)) z))
      l.bytes_are
      ∙ ap (whole_item l.item) whole_is in (
        applied.0,
        applied.1,
        record {
          before = longs l.before;
          item = mine;
          after = longs_behind (l.before ++ l.item ∷ []) l.after;
          stands = grind (arith, common_steps, long_items, append_assoc);
          worker_is = l.worker_is;
          number_is = l.number_is;
          bytes_are = refl;
          behind = subst (λ z. IsPrefix z (longs l.before)) (sym (long_items earlier))
              (longs_grow laws (items_in earlier.entries) l.before l.behind);
          first = first.state;
          begins = begins.0;
          at = l.at.state;
          folds = h.folds;
          applied = applied.2;
        },
      )

  -- a read
  pub long_read : (earlier later : Order) (state : LongState S)
      → IsRead (IsFirstLong IsFirst) (AppliesLong Applies) earlier later state
      → AreBelow MOST_SENDERS (items_in later.entries)
      → IsRead IsFirst Applies (long_order earlier) (long_order later) state.state
  long_read earlier later state r below =
      let h : HasFolded IsFirst Applies laws r.first r.items state =
      folds_long IsFirst Applies laws r.first r.begins r.items state r.folds
      (below_before MOST_SENDERS r.items r.of_order.rest
      (subst (AreBelow MOST_SENDERS) (sym r.of_order.together) below)) in
      grind (arith, common_steps, long_items, longs_grow)

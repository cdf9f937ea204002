-- Each of the wrong behaviours is refused.
use Rattle.std.proofs.Common.{take, length, ◌+◌, ◌≡◌, ◌≢◌, ℕ, suc, ◌<◌, Bool, Some, List, [], ◌∷◌}
use Rattle.std.proofs.Common.{◌++◌, ◌==◌, map, filter, option_map, slice_get, cond, append-nil}
use Rattle.std.proofs.Common.{arith, refl, sym, ◌∙◌, ap}
use Rattle.std.proofs.lemmas.Bool.{ne_eqb}
use Rattle.std.proofs.lemmas.Grind.{flat_map-append, common_steps}
use Rattle.std.proofs.lemmas.List.{length-map}
use Rattle.std.proofs.lemmas.List.Elements.{filter-append}
use Rattle.std.proofs.lemmas.Option.{same_Some, slice_get-map, slice_get_within}
use Rattle.std.proofs.lemmas.Option.{get_or_from_slice_get}
use Rattle.std.specs.Prelude.{All}
use Rattle.bus_register.specs.declared.registers.SenderNo.{SenderNo}
use Rattle.bus_batch.specs.declared.messages.Item.{Item}
use Rattle.bus_batch.specs.Frames.{Order, Entry, Says, Leaves, items_in, sender_of}
use Rattle.bus_deliverylog.specs.Orders.{of_sender}
use Rattle.bus_deliverylog.specs.declared.receiving.RecvTurn.{RecvTurn}
use Rattle.bus_world.specs.Headline.{puts, Action, order_given, heads, Promises, AreFramed}
use Rattle.bus_world.specs.Headline.{Nothing, TheEnd, Batch, LastOf}
use Rattle.bus_world.specs.Refusals.{FromZero, ItemsAlone, PromiseRefuses}
use Rattle.bus_world.proofs.Places.{got_before, got_after}
use Rattle.bus_world.proofs.Framing.{says_apart}

first_of : (x y : Entry) (xs ys : List Entry) → x ∷ xs ≡ y ∷ ys → x ≡ y
first_of x y xs ys e = cc

same_item : (i j : Item) → Says i ≡ Says j → i ≡ j
same_item i j e = cc

-- where numbers count from 0
counted_items : (order : Order)
    → ((s k : ℕ) (i : Item) → slice_get (of_sender s order) k ≡ Some i → i.number ≡ 0 + k)
    → (s k : ℕ) (i : Item) → slice_get (of_sender s order) k ≡ Some i → i.number ≡ k
counted_items order numbered s k i at =
    numbered s k i at ∙ (let same : 0 + k ≡ k = omega arith in same)

-- the items of one sender among entries
abbrev of_in : ℕ → List Entry → List Item
of_in s entries = filter (λ (i : Item). i.sender.0 == s) (items_in entries)

abbrev sender_as : ℕ → SenderNo
sender_as n = record { 0 = n }

-- of a sender of whom nothing follows there are no items
none_behind : (s : SenderNo) (entries : List Entry)
    → ((k : ℕ) (e : Entry) → slice_get entries k ≡ Some e → sender_of e ≢ s)
    → of_in s.0 entries ≡ []
none_behind s [] others = refl
none_behind s (Says i ∷ entries) others =
    ap (λ b. cond b (i ∷ of_in s.0 entries) (of_in s.0 entries))
    (ne_eqb i.sender.0 s.0 (λ e. others 0 (Says i) refl (ap sender_as e)))
    ∙ none_behind s entries (λ k e at. others (suc k) e at)
none_behind s (Leaves o ∷ entries) others = none_behind s entries (λ k e at. others (suc k) e at)

-- ---- frames
same_owner : (t u : ℕ) (o p : SenderNo) (xs ys : List (ℕ × SenderNo)) → (t, o) ∷ xs ≡ (u, p) ∷ ys
    → o ≡ p
same_owner t u o p xs ys e =
    let same : ◌≡◌ {A = ℕ × SenderNo} (t, o) (u, p) = cc in ap (λ (z : ℕ × SenderNo). z.1) same

same_tail : (x y : ℕ × SenderNo) (xs ys : List (ℕ × SenderNo)) → x ∷ xs ≡ y ∷ ys → xs ≡ ys
same_tail x y xs ys e = cc

same_leave : (s o : SenderNo) → Leaves s ≡ Leaves o → s ≡ o
same_leave s o e = cc

not_one : {A : Type 0} (x : A) (xs : List A) → [] ≡ x ∷ xs → ⊥
not_one x xs e = cc

-- an item of the first frame is its owner's
own_item : (owners : List (ℕ × SenderNo)) (entries : List Entry) (ended : Bool)
    → AreFramed owners entries ended → (t : ℕ) (o : SenderNo) (rest : List (ℕ × SenderNo))
    (i : Item) (later : List Entry) → owners ≡ (t, o) ∷ rest → entries ≡ Says i ∷ later
    → i.sender ≡ o
own_item owners entries ended Nothing t o rest i later e f = absurd (not_one (t, o) rest e)
own_item owners entries ended (TheEnd u q) t o rest i later e f = absurd (not_one (Says i) later f)
own_item owners entries ended (Batch u q [] others more over some all framed) t o rest i later e f =
    absurd (let none : 0 < 0 = some in omega arith)
own_item owners entries ended (Batch u q (j ∷ own) others more over some all framed) t o rest i
    later e f =
    let first : j ≡ i = same_item j i (first_of (Says j) (Says i) (map Says own ++ more) later f) in
    ap (λ (z : Item). z.sender) (sym first) ∙ all 0 j some ∙ same_owner u t q o others rest e
own_item owners entries ended (LastOf u q others more over none framed) t o rest i later e f =
    absurd (says_apart i q (sym (first_of (Leaves q) (Says i) more later f)))

-- and a leave mark in it too, behind which its owner has none
own_mark : (owners : List (ℕ × SenderNo)) (entries : List Entry) (ended : Bool)
    → AreFramed owners entries ended → (t : ℕ) (o : SenderNo) (rest : List (ℕ × SenderNo))
    (s : SenderNo) (later : List Entry) → owners ≡ (t, o) ∷ rest → entries ≡ Leaves s ∷ later
    → (s ≡ o) × All (λ (p : ℕ × SenderNo). p.1 ≢ o) rest
own_mark owners entries ended Nothing t o rest s later e f = absurd (not_one (t, o) rest e)
own_mark owners entries ended (TheEnd u q) t o rest s later e f =
    absurd (not_one (Leaves s) later f)
own_mark owners entries ended (Batch u q [] others more over some all framed) t o rest s later e f =
    absurd (let none : 0 < 0 = some in omega arith)
own_mark owners entries ended (Batch u q (j ∷ own) others more over some all framed) t o rest s
    later e f =
    absurd (says_apart j s (first_of (Says j) (Leaves s) (map Says own ++ more) later f))
own_mark owners entries ended (LastOf u q others more over none framed) t o rest s later e f =
    grind (arith, common_steps, same_owner, same_leave, first_of, same_tail)

pub from_zero : FromZero
from_zero = record {
  items = λ actions heard order owners p. counted_items order p.faithful.numbered;
  puts_are = λ actions heard order owners p s place number bytes at.
      grind (arith, common_steps, length, take);
}

-- entries with no leave mark among them
no_leave_mark : (entries : List Entry)
    → ((s : SenderNo) (k : ℕ) → slice_get entries k ≡ Some (Leaves s) → ⊥)
    → entries ≡ map Says (items_in entries)
no_leave_mark [] none = refl
no_leave_mark (Says i ∷ entries) none =
    ap (λ z. Says i ∷ z) (no_leave_mark entries (λ s k e. none s (suc k) e))
no_leave_mark (Leaves s ∷ entries) none = absurd (none s 0 refl)

pub items_alone : ItemsAlone
items_alone = record {
  entries = λ base actions heard order owners p nobody.
      no_leave_mark order.entries (λ s k at. nobody s.0 (p.asked s k at));
}

-- ---- what receivers were given
module _ (base : ℕ → ℕ) (actions : ℕ → List Action) (heard : ℕ → List RecvTurn) (order : Order)
    (owners : List (ℕ × SenderNo)) (p : Promises base actions heard order owners) where
  -- stands there in the order
  entry_at : (r k : ℕ) (e : Entry) → slice_get (order_given (heard r)).entries k ≡ Some e
      → slice_get order.entries k ≡ Some e
  entry_at r k e at = grind (arith, common_steps, slice_get, got_before)

  head_at : (r k : ℕ) (h : ℕ × SenderNo) → slice_get (heads (heard r)) k ≡ Some h
      → slice_get owners k ≡ Some h
  head_at r k h at = grind (arith, common_steps, slice_get, got_before)

  -- a sender's items begin with those that were given
  of_more : (r s : ℕ)
      → of_sender s order ≡ of_sender s (order_given (heard r)) ++ of_in s (p.delivered r).later
  of_more r s = grind (arith, common_steps, filter, flat_map-append, filter-append)

  item_at : (r s k : ℕ) (i : Item) → slice_get (of_sender s (order_given (heard r))) k ≡ Some i
      → slice_get (of_sender s order) k ≡ Some i
  item_at r s k i at = grind (arith, common_steps, slice_get, of_more, got_before)

  number_at : (r s k : ℕ) (i : Item) → slice_get (of_sender s (order_given (heard r))) k ≡ Some i
      → i.number ≡ base s + k
  number_at r s k i at = p.faithful.numbered s k i (item_at r s k i at)

  -- and has the message that its sender put there
  message_at : (r s k : ℕ) (i : Item) → slice_get (of_sender s (order_given (heard r))) k ≡ Some i
      → slice_get (puts (actions s)) k ≡ Some i.message
  message_at r s k i at =
      let m = p.faithful.messages s in
      let message = λ (z : Item). z.message in
      let here : slice_get (map message (of_sender s order)) k ≡ Some i.message =
      slice_get-map message (of_sender s order) k ∙ ap (option_map message) (item_at r s k i at) in
      ap (λ z. slice_get z k) (sym m.together)
      ∙ got_before (map message (of_sender s order)) m.rest k i.message here

  -- of who has left there is nothing behind what was given with its mark
  nothing_later : (r k : ℕ) (s : SenderNo)
      → slice_get (order_given (heard r)).entries k ≡ Some (Leaves s)
      → of_in s.0 (p.delivered r).later ≡ []
  nothing_later r k s at =
      let d = p.delivered r in
      let given = (order_given (heard r)).entries in
      let low = slice_get_within given k (Leaves s) at in
      none_behind s d.later (λ j e here.
      p.gone s k (length given + j) e (entry_at r k (Leaves s) at) (omega arith)
      (ap (λ z. slice_get z (length given + j)) d.entries
      ∙ got_after given d.later j e here (length given + j) refl))

  all_given : (r k : ℕ) (s : SenderNo)
      → slice_get (order_given (heard r)).entries k ≡ Some (Leaves s)
      → length (of_sender s.0 (order_given (heard r))) ≡ length (puts (actions s.0))
  all_given r k s at =
      let message = λ (z : Item). z.message in
      let all : of_sender s.0 order ≡ of_sender s.0 (order_given (heard r)) =
      of_more r s.0 ∙ ap (λ z. of_sender s.0 (order_given (heard r)) ++ z) (nothing_later r k s at)
      ∙ append-nil (of_sender s.0 (order_given (heard r))) in
      ap length (sym all) ∙ sym (length-map (of_sender s.0 order) message)
      ∙ ap length (p.whole s k (entry_at r k (Leaves s) at))

pub refuses : (base : ℕ → ℕ) (actions : ℕ → List Action) (heard : ℕ → List RecvTurn) (order : Order)
    (owners : List (ℕ × SenderNo))
    → PromiseRefuses base actions heard order owners
refuses base actions heard order owners = record {
  two_owners = λ t s s' o o' e e' other p. other (p.one_owner t s s' o o' e e');
  unannounced = λ t s o e never p. never (p.announced t s o e);
  unelected = λ t s place took never p. never (p.took_own t s place took);
  taken_twice =
      λ t s s' place place' took took' twice p. twice (p.took_once t s s' place place' took took');
  tenure_not_rising =
      λ j k t u o q at at' low back p. let l = p.rising j k t u o q at at' low in omega arith;
  wrong_number = λ s place number bytes at other p. other (p.numbered s place number bytes at);
  two_orders = λ r r' k e e' at at' other p.
      other (same_Some e e' (sym (entry_at base actions heard order owners p r k e at)
      ∙ entry_at base actions heard order owners p r' k e' at'));
  two_heads = λ r r' k h h' at at' other p.
      other (same_Some h h' (sym (head_at base actions heard order owners p r k h at)
      ∙ head_at base actions heard order owners p r' k h' at'));
  repeated = λ r s j k i i' at at' low same p.
      let a = number_at base actions heard order owners p r s j i at in
      let b = number_at base actions heard order owners p r s k i' at' in omega arith;
  reversed = λ r s j k i i' at at' low less p.
      let a = number_at base actions heard order owners p r s j i at in
      let b = number_at base actions heard order owners p r s k i' at' in omega arith;
  skipped = λ r s k i at more p.
      let a = number_at base actions heard order owners p r s k i at in omega arith;
  starts_anew = λ r s k i at less p.
      let a = number_at base actions heard order owners p r s k i at in omega arith;
  invented = λ r s k i at few p. grind (arith, common_steps, slice_get_within);
  altered = λ r s k i message at put other p.
      other (same_Some i.message message
      (sym (message_at base actions heard order owners p r s k i at) ∙ put));
  after_the_end = λ r j k answer at low at' other p. other (p.silent r j k answer at low at');
  short_of_the_end = λ r r' k e ended at few p.
      grind (arith, common_steps, slice_get, slice_get_within);
  unclosed = λ r ended nobody p.
      let whole = (p.delivered r).ended ended in
      let c = p.closed (ap (λ (z : Order). z.ended) (sym whole) ∙ ended) in
      nobody c.owner.0 c.closed;
  after_leaving = λ r j k s i at low at' own p.
      p.gone s j k (Says i) (entry_at base actions heard order owners p r j (Leaves s) at) low
      (entry_at base actions heard order owners p r k (Says i) at') own;
  leaves_twice = λ r j k s at low at' p.
      p.gone s j k (Leaves s) (entry_at base actions heard order owners p r j (Leaves s) at) low
      (entry_at base actions heard order owners p r k (Leaves s) at') refl;
  unasked_leave = λ r k s at never p.
      never (p.asked s k (entry_at base actions heard order owners p r k (Leaves s) at));
  left_behind = λ r k s at more p.
      let all = all_given base actions heard order owners p r k s at in omega arith;
  foreign_item = λ t o rest i later has begins other p.
      other (own_item _ _ _ p.framed t o rest i later has begins);
  foreign_leave = λ t o s rest later has begins other p.
      other (own_mark _ _ _ p.framed t o rest s later has begins).0;
  goes_on_after_leaving = λ t u k o s rest later has begins at p.
      (own_mark _ _ _ p.framed t o rest s later has begins).1 k (u, o)
      (slice_get_within rest k (u, o) at)
      (ap (λ (z : ℕ × SenderNo). z.1) (get_or_from_slice_get rest k (u, o) (u, o) at));
}

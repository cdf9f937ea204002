-- What two pages of promises, and machines that play events, tell of executions and reads.
use Rattle.std.proofs.Common.{◌≡◌, ℕ, zero, suc, ◌+◌, ◌-◌, ◌≤◌, Bool, Option, Some, None, List, []}
use Rattle.std.proofs.Common.{◌∷◌, ◌++◌, length, take}
use Rattle.std.proofs.Common.{flat_map, slice_get, refl, sym, ◌∙◌, ap, subst, arith}
use Rattle.std.proofs.Math.Seq.{take-append-add}
use Rattle.std.proofs.lemmas.Grind.{flat_map-append, common_steps}
use Rattle.std.proofs.lemmas.List.{append-nil, length-append}
use Rattle.std.proofs.lemmas.Option.{same_Some}
use Rattle.bus_register.specs.Protocol.{Protocol}
use Rattle.bus_register.specs.declared.registers.SenderNo.{SenderNo}
use Rattle.bus_adoptcommit.specs.declared.verdicts.Verdict.{Verdict}
use Rattle.bus_batch.specs.Frames.{AreFrames, Frame, Order, Spells, items_in, frame_pieces}
use Rattle.bus_batch.specs.Frames.{log_pieces, log_words, order_in, order_of, piece_entries}
use Rattle.bus_batch.proofs.PieceLaws.{order_in-log}
use Rattle.bus_deliverylog.specs.Orders.{of_sender}
use Rattle.bus_deliverylog.specs.declared.receiving.RecvTurn.{RecvTurn}
use Rattle.bus_tenure.specs.Core.{Election}
use Rattle.bus_tenure.specs.Elections.{Elector}
use Rattle.bus_world.proofs.Growing.{prefix_after}
use Rattle.bus_world.proofs.ReceivingLaws.{length-log_pieces}
use Rattle.bus_world.specs.Headline.{Action, HasPut, IsPrefix, Promises, order_given, put_of, puts}
use Rattle.bus_world.specs.World.{Event}
use Rattle.bus_machine.proofs.Bases.AtNone.{event_reuse}
use Rattle.bus_machine.proofs.Frames.Joining.{joins}
use Rattle.bus_machine.proofs.Frames.Staying.{grown_longer}
use Rattle.bus_machine.specs.Machine.{Machine, Trails, base_of, trails_grown}
use Rattle.bus_machine.specs.Playing.{AllAnswered, Played, trails_after}
use Rattle.bus_replica.specs.Replicas.{LeadTo, Operations}
use Rattle.bus_replica.specs.Linearized.{IsLinearized, IsRead}
use Rattle.bus_replica.specs.OneOrder.{AreFunctions}
use Rattle.bus_replica.specs.Histories.{AreInTurn, Call, Did, Executed, IsDoneBetween}
use Rattle.bus_replica.specs.Histories.{IsLinearizable, Read}
use Rattle.bus_replica.specs.Moments.{AreDoneOnMachines, EndsWith, HasExecutedOn, HasReadOn}
use Rattle.bus_replica.specs.Moments.{IsDoneOnMachine, IsLaterMachine, MachineMoment}
use Rattle.bus_replica.specs.Moments.{PublishesMore, PutsSince, operations_in}
use Rattle.bus_replica.proofs.HistoryLaws.{linearizable, one_more}
use Rattle.bus_replica.proofs.LaterLaws.{orders_on, puts_cover}
use Rattle.bus_replica.proofs.LinearLaws.{begins_front, performed}
use Rattle.bus_replica.proofs.OrderLaws.{items_begin, items_given}
use Rattle.bus_replica.proofs.TimeLaws.{front_frames}

-- a list apart at an element
parted : {A : Type 0} (xs : List A) (place : ℕ) (x : A) → slice_get xs place ≡ Some x
    → (later : List A) × (xs ≡ take place xs ++ x ∷ later)
parted {A} [] place x at =
    absurd (let no : ◌≡◌ {A = Option A} None (Some x) = at in cc)
parted (z ∷ xs) zero x at = (xs, ap (λ w. w ∷ xs) (same_Some z x at))
parted (z ∷ xs) (suc place) x at =
    let rest = parted xs place x at in (rest.0, ap (λ w. z ∷ w) rest.1)

-- what begins a list, begins what is taken of that up to a place behind it
front_taken : {A : Type 0} (xs ys : List A) (place : ℕ) → IsPrefix xs ys → length xs ≤ place
    → IsPrefix xs (take place ys)
front_taken [] ys place h low = record { rest = take place ys; together = refl }
front_taken (x ∷ xs) ys zero h low = absurd (omega (arith, low))
front_taken {A} (x ∷ xs) [] (suc place) h low =
    absurd (let no : ◌≡◌ {A = List A} (x ∷ (xs ++ h.rest)) [] = h.together in cc)
front_taken (x ∷ xs) (y ∷ ys) (suc place) h low =
    let e = h.together in
    let later : xs ++ h.rest ≡ ys = cc in
    let same : x ≡ y = cc in
    one_more x y xs (take place ys) same
    (front_taken xs ys place (record { rest = h.rest; together = later }) (omega (arith, low)))

-- ---- pages of promises
pub executed : {S A : Type 0} (IsFirst : S → Type 0) (Applies : Operations S A)
    (base base' : ℕ → ℕ) (actions actions' : ℕ → List Action) (heard heard' : ℕ → List RecvTurn)
    (order order' : Order) (owners owners' : List (ℕ × SenderNo))
    → Promises base actions heard order owners
    → Promises base' actions' heard' order' owners'
    → IsPrefix (items_in order.entries) (items_in order'.entries)
    → (worker receiver number : ℕ) (bytes : List ℕ) (state : S) (answer : A)
    → PutsSince (actions worker) (actions' worker) number bytes
    → EndsWith IsFirst Applies (operations_in (heard' receiver)) state worker number answer
    → IsLinearized IsFirst Applies order order' worker number bytes answer state
executed IsFirst Applies base base' actions actions' heard heard' order order' owners owners' h k on
    worker receiver number bytes state answer put last =
    let old = actions worker in
    let new = actions' worker in
    let a = parted new put.place (HasPut number bytes) put.put in
    let pre = puts (take put.place new) in
    let few = puts_cover (of_sender worker order) (puts old) (h.faithful.messages worker) in
    let begun = front_taken old new put.place put.goes_on put.since in
    let more = ap (λ z. length (puts z)) (sym begun.together)
    ∙ ap length (flat_map-append put_of old begun.rest)
    ∙ length-append (puts old) (puts begun.rest) in
    performed IsFirst Applies order order' on worker (base' worker) (k.faithful.numbered worker)
    (puts new) pre (puts a.0) number bytes (k.faithful.messages worker)
    (ap puts a.1 ∙ flat_map-append put_of (take put.place new) (HasPut number bytes ∷ a.0))
    (k.numbered worker put.place number bytes put.put) (omega (arith, few, more))
    (operations_in (heard' receiver)) state answer
    (items_begin (heard' receiver) [] order' (k.delivered receiver)) last

pub read : {S A : Type 0} (IsFirst : S → Type 0) (Applies : Operations S A) (base : ℕ → ℕ)
    (actions : ℕ → List Action) (heard : ℕ → List RecvTurn) (order order' : Order)
    (owners : List (ℕ × SenderNo)) → Promises base actions heard order' owners
    → IsPrefix (items_in order.entries) (items_in order'.entries) → (receiver : ℕ) (state : S)
    → length (items_in order.entries) ≤ length (operations_in (heard receiver))
    → LeadTo IsFirst Applies (operations_in (heard receiver)) state
    → IsRead IsFirst Applies order order' state
read IsFirst Applies base actions heard order order' owners k on receiver state far led =
    let front = items_begin (heard receiver) [] order' (k.delivered receiver) in
    grind (arith, common_steps, begins_front)

-- ---- machines
-- a reader that has come past the words of the first frames was given all their items
given_all : (fs more : List Frame) (place : ℕ) (trail : List RecvTurn)
    → order_given trail ≡ order_in (take place (log_pieces (fs ++ more)))
    → length (log_words fs) ≤ place
    → length (items_in (order_of fs).entries) ≤ length (operations_in trail)
given_all fs more place trail given far =
    let front = log_pieces fs in
    let behind = log_pieces more in
    let size = length-log_pieces fs in
    let n : ℕ = place - length front in
    let placed : place ≡ length front + (place - length front) = omega (arith, size, far) in
    let pieces : take place (log_pieces (fs ++ more)) ≡ front ++ take n behind =
    ap (take place) (flat_map-append frame_pieces fs more)
    ∙ ap (λ k. take k (front ++ behind)) placed ∙ take-append-add front behind n in
    let later = flat_map piece_entries (take n behind) in
    let entries : (order_given trail).entries ≡ (order_of fs).entries ++ later =
    ap (λ (o : Order). o.entries) given
    ∙ ap (flat_map piece_entries) pieces ∙ flat_map-append piece_entries front (take n behind)
    ∙ ap (λ (o : Order). o.entries ++ later) (order_in-log fs) in
    grind (arith, common_steps, length, items_given, flat_map-append, length-append)

module _ {E : Type 0} (X : Election E) where
  pub orders_go_on : (s t : MachineMoment X) → IsLaterMachine s t
      → IsPrefix (items_in s.page.order.entries) (items_in t.page.order.entries)
  orders_go_on s t on =
      let h = s.page in
      let k = t.page in
      orders_on s.machine.layout.senders s.trails.log t.trails.log h.order k.order h.owners k.owners
      h.by.spelled
      (subst (λ n. Spells n t.trails.log k.order k.owners) on.senders k.by.spelled) on.log

  module _ {S A : Type 0} (IsFirst : S → Type 0) (Applies : Operations S A) where
    pub machine_executed : (s t : MachineMoment X) → IsLaterMachine s t
        → (worker receiver number : ℕ)
        (bytes : List ℕ) (answer : A) (state : S)
        → HasExecutedOn IsFirst Applies s t worker receiver number bytes answer state
        → IsLinearized IsFirst Applies s.page.order t.page.order worker number bytes answer state
    machine_executed s t on worker receiver number bytes answer state did =
        executed IsFirst Applies (base_of s.machine) (base_of t.machine) s.trails.actions
        t.trails.actions s.trails.heard t.trails.heard s.page.order t.page.order s.page.owners
        t.page.owners s.page.by.promises t.page.by.promises (orders_go_on s t on) worker receiver
        number bytes state answer did.puts did.ends

    pub machine_read : (s t : MachineMoment X) → IsLaterMachine s t → (receiver : ℕ) (shown : S)
        → HasReadOn IsFirst Applies s t receiver shown
        → IsRead IsFirst Applies s.page.order t.page.order shown
    machine_read s t on receiver shown did =
        let a = s.page.by.spelled in
        let long = s.page.by.stands.0 in
        let words = ap length a.words_are in
        let far = did.far in
        let given = did.given in
        let split = front_frames s.machine.layout.senders 0 0 a.frames given.frames on.log.rest
        a.lawful (subst (λ n. AreFrames n given.frames) on.senders given.lawful)
        (ap (λ z. z ++ on.log.rest) a.words_are ∙ on.log.together ∙ sym given.words_are) in
        let all = given_all a.frames split.0 given.receiver.place (t.trails.heard receiver)
        (given.given
        ∙ ap (λ fs. order_in (take given.receiver.place (log_pieces fs))) split.1)
        (omega (arith, words, long, far)) in
        grind (arith, common_steps, length, read, orders_go_on)

    done_on : (s t : MachineMoment X) → IsLaterMachine s t → (worker : ℕ) (did : Did S A)
        → IsDoneOnMachine IsFirst Applies s t worker did
        → IsDoneBetween IsFirst Applies s.page.order t.page.order worker did
    done_on s t on worker (Executed number bytes answer) h =
        (h.1, machine_executed s t on worker h.0 number bytes answer h.1 h.2)
    done_on s t on worker (Read shown) h = machine_read s t on h.0 shown h.1

    -- all calls
    pub machine_histories : (first : S) (moments : ℕ → MachineMoment X) (last : ℕ)
        (calls : List (Call S A)) → AreFunctions IsFirst Applies → IsFirst first
        → AreDoneOnMachines IsFirst Applies moments last calls → AreInTurn calls
        → IsLinearizable IsFirst Applies (items_in (moments last).page.order.entries) calls
    machine_histories first moments last calls F is by turns =
        linearizable IsFirst Applies first (λ n. (moments n).page.order) last calls F is
        (λ m n up. orders_go_on (moments m) (moments n) (by.later m n up))
        (record {
          done = λ i c at. grind (arith, common_steps, done_on);
          returned = by.returned;
        })
        turns

-- ---- events that are played
module _ {S : Type 0} (X : Election (Elector S)) (P : Protocol S Bool Verdict) where
  publishes_on : (events : List Event) (old new : Machine (Elector S))
      (run : AllAnswered X P old events new) (T : Trails)
      → PublishesMore old T new (trails_after X P old events new run T)
  publishes_on [] old new run T = grind (arith, common_steps, append-nil)
  publishes_on (e ∷ events) old new run T =
      let one = event_reuse X old run.0 e run.1 run.2.happens in
      let mid = trails_grown X old e run.1 T in
      let rest = publishes_on events run.0 new run.3 mid in
      grind (arith, common_steps, prefix_after, joins)

  acts_on : (events : List Event) (old new : Machine (Elector S))
      (run : AllAnswered X P old events new) (T : Trails) (s : ℕ)
      → IsPrefix (T.actions s) ((trails_after X P old events new run T).actions s)
  acts_on [] old new run T s = record { rest = []; together = append-nil (T.actions s) }
  acts_on (e ∷ events) old new run T s =
      let mid = trails_grown X old e run.1 T in
      prefix_after (T.actions s) (mid.actions s)
      ((trails_after X P run.0 events new run.3 mid).actions s)
      ((grown_longer X old T e run.1).actions s) (acts_on events run.0 new run.3 mid s)

  pub goes_on : (old new : Machine (Elector S)) (T : Trails) (events : List Event)
      (run : Played X P old events new)
      → PublishesMore old T new (trails_after X P old events new run.answered T)
      × ((s : ℕ) → IsPrefix (T.actions s)
      ((trails_after X P old events new run.answered T).actions s))
  goes_on old new T events run = (
    publishes_on events old new run.answered T,
    acts_on events old new run.answered T,
  )

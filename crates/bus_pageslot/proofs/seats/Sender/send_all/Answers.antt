use Rattle.std.proofs.Common.{◌≡◌, ◌+◌, List, [], ◌∷◌, ◌++◌, length, take, Some, None, slice_get}
use Rattle.std.proofs.Common.{refl, sym, subst, ap, ◌∙◌, inl, inr, arith}
use Rattle.std.proofs.lemmas.List.{take_all, take_more}
use Rattle.std.proofs.lemmas.Option.{slice_get_read}
use Rattle.bus_automaton.specs.Buses.{process_with}
use Rattle.bus_pageslot.specs.Turns.{tells_with}
use Rattle.bus_pageslot.specs.Sendings.{FillsBatches, SentBefore, StopsAt}
use Rattle.bus_pageslot.proofs.Sends.Batching.{has_sent, has_sent_part, stops_last}
use Rattle.bus_pageslot.proofs.seats.Sender.send_all.Goals as goal

take_length : {A : Type 0} (xs : List A) → take (length xs) xs ≡ xs
take_length [] = refl
take_length (x ∷ xs) = ap (λ l. x ∷ l) (take_length xs)

none_at_length : {A : Type 0} (xs : List A) → slice_get xs (length xs) ≡ None
none_at_length [] = refl
none_at_length (x ∷ xs) = none_at_length xs

pub returns-in-Err-clause-part : goal.returns-in-Err-clause-part
returns-in-Err-clause-part g c =
    let P = process_with g.Q.Machine.kind_of g.Q.Machine.op g.Q.Machine.fed g.Q.Ratifier.protocol in
    let T = tells_with g.Q.Machine.kind_of g.Q.Machine.op g.Q.Machine.fed g.Q.Ratifier.protocol in
    has_sent_part P T c.threads_may_go_by.ensures.process c.args.self.now c.args.messages.now
    c.send_off-before.new.self c.unsent.result 0 c.in-Err.fault c.unsent.ensures.put
    c.unsent.ensures.sent (omega arith) (inl (refl, c.in-Err.ensures.keeps))

pub loop-put-init : goal.loop-put-init
loop-put-init g c = (
  SentBefore c.send_off-before.new.self c.in_default.ensures.sends,
  c.send_off-before.ensures.table,
)

pub returns-in-Err-put_or_send-clause-part : goal.returns-in-Err-put_or_send-clause-part
returns-in-Err-put_or_send-clause-part g c =
    let P = process_with g.Q.Machine.kind_of g.Q.Machine.op g.Q.Machine.fed g.Q.Ratifier.protocol in
    let T = tells_with g.Q.Machine.kind_of g.Q.Machine.op g.Q.Machine.fed g.Q.Ratifier.protocol in
    let first = c.args.self.now in
    let all = c.args.messages.now in
    let i = c.loop-put.put in
    let last = c.put_or_send.new.self in
    let next : slice_get all i ≡ Some c.index-messages-put.result =
    slice_get_read all (length all) i c.index-messages-put.result refl c.loop-put-test.true
    c.index-messages-put.is in
    has_sent_part P T c.threads_may_go_by.ensures.process first all last
    c.unsent-in-Err-put_or_send.result i c.in-Err-put_or_send.fault
    c.unsent-in-Err-put_or_send.ensures.put c.unsent-in-Err-put_or_send.ensures.sent
    (let below = c.loop-put-test.true in omega arith)
    (inr (subst (λ o. StopsAt P T first (take i all) o c.in-Err-put_or_send.fault last) (sym next)
    (c.in-Err-put_or_send.ensures.stops first (take i all) c.loop-put.invariant.0)))

pub loop-put-preserved : goal.loop-put-preserved
loop-put-preserved g c =
    let P = process_with g.Q.Machine.kind_of g.Q.Machine.op g.Q.Machine.fed g.Q.Ratifier.protocol in
    let T = tells_with g.Q.Machine.kind_of g.Q.Machine.op g.Q.Machine.fed g.Q.Ratifier.protocol in
    let all = c.args.messages.now in
    let i = c.loop-put.put in
    let y = c.index-messages-put.result in
    let more : take (i + 1) all ≡ take i all ++ y ∷ [] =
    take_more all i y c.loop-put-test.true
    ∙ ap (λ z. take i all ++ z ∷ []) (sym c.index-messages-put.is) in (
      subst (λ ms. FillsBatches P T c.args.self.now ms c.put_or_send.new.self) (sym more)
          (c.in_default-put_or_send.ensures.taken c.args.self.now (take i all)
          c.loop-put.invariant.0),
      c.put_or_send.ensures.table ∙ c.loop-put.invariant.1,
    )

pub returns-in-Err-rest-clause-part : goal.returns-in-Err-rest-clause-part
returns-in-Err-rest-clause-part g c =
    let P = process_with g.Q.Machine.kind_of g.Q.Machine.op g.Q.Machine.fed g.Q.Ratifier.protocol in
    let T = tells_with g.Q.Machine.kind_of g.Q.Machine.op g.Q.Machine.fed g.Q.Ratifier.protocol in
    let first = c.args.self.now in
    let all = c.args.messages.now in
    let old = c.loop-put.self in
    let last = c.send_off-rest.new.self in
    let why = c.in-Err-rest.fault in
    let same : take c.loop-put.put all ≡ take (length all) all =
    take_all c.loop-put.put all c.loop-put-test.false ∙ sym (take_length all) in
    let fills : FillsBatches P T first (take (length all) all) old =
    subst (λ ms. FillsBatches P T first ms old) same c.loop-put.invariant.0 in
    has_sent_part P T c.threads_may_go_by.ensures.process first all last c.unsent-in-Err-rest.result
    (length all) why c.unsent-in-Err-rest.ensures.put c.unsent-in-Err-rest.ensures.sent
    (omega arith)
    (inr (subst (λ o. StopsAt P T first (take (length all) all) o why last)
    (sym (none_at_length all)) (stops_last P T c.threads_may_go_by.ensures.process first
    (take (length all) all) why old last fills c.in-Err-rest.ensures.keeps)))

pub returns-clause-all : goal.returns-clause-all
returns-clause-all g c =
    let P = process_with g.Q.Machine.kind_of g.Q.Machine.op g.Q.Machine.fed g.Q.Ratifier.protocol in
    let T = tells_with g.Q.Machine.kind_of g.Q.Machine.op g.Q.Machine.fed g.Q.Ratifier.protocol in
    let first = c.args.self.now in
    let all = c.args.messages.now in
    let fills : FillsBatches P T first all c.loop-put.self = subst
    (λ ms. FillsBatches P T first ms c.loop-put.self)
    (take_all c.loop-put.put all c.loop-put-test.false) c.loop-put.invariant.0 in
    has_sent P T c.threads_may_go_by.ensures.process first all c.loop-put.self
    c.send_off-rest.new.self fills c.in_default-rest.ensures.sends

use Rattle.std.proofs.Common.{◌++◌, ◌∙◌, ap, map, string_bytes}
use Rattle.bus_deliverylog.specs.Orders.{order_held}
use Rattle.bus_tenure.specs.Elections.{election_with}
use Rattle.bus_replay.specs.Text.{order_text, counts_text}
use Rattle.bus_replay.proofs.PlayLemmas.{closes, whole_log}
use Rattle.bus_replay.proofs.closing.push_closing.Goals as goal

pub order_of-requires : goal.order_of-requires
order_of-requires g c =
    let X =
    election_with g.Q.Machine.kind_of g.Q.Machine.op g.Q.Machine.fed g.Q.Ratifier.protocol in
    let held = c.requires in
    whole_log X g.Q.Ratifier.protocol c.args.bus.now c.args.history.now held.0 held.1
    c.senders.result held.2 (c.promises.ensures.promised held.0 held.2.reached)
    c.senders.ensures.count

pub returns : goal.returns
returns g c =
    let X =
    election_with g.Q.Machine.kind_of g.Q.Machine.op g.Q.Machine.fed g.Q.Ratifier.protocol in
    let read = c.in_ok-order.ensures in
    let order = order_held c.in_ok-order.order in
    λ trails taken held. closes X g.Q.Ratifier.protocol c.args.bus.now c.args.history.now trails
    taken c.senders.result (string_bytes c.args.text.now) (string_bytes c.push_order.new.text)
    (string_bytes c.push_all_given.new.text) (map (λ s. s.0) c.owners.result.now) order read.0 held
    (c.promises.ensures.promised trails held.reached) c.senders.ensures.count read.1
    c.owners.ensures.state
    (c.in_ok-push_order.ensures
    ∙ ap (λ l. l ++ order_text order) c.in_ok-push_owners.ensures)
    (c.in_ok-push_all_given.ensures
    ∙ ap (λ l. string_bytes c.push_order.new.text ++ counts_text l) c.given.ensures)

use Rattle.std.proofs.Common.{arith, refl, inl, []}
use Rattle.bus_register.specs.declared.limits.TheConstants.{MOST_SENDERS}
use Rattle.bus_batch.specs.Frames.{items_in}
use Rattle.bus_automaton.specs.Processes.{base_in}
use Rattle.bus_automaton.specs.ThreeWordBuses.{automaton, process}
use Rattle.bus_world.specs.Headline.{puts}
use Rattle.bus_pageslot.specs.Lasting.{published}
use Rattle.bus_replica.specs.Causes.{tells}
use Rattle.bus_replica.specs.Longs.{AppliesLong, IsFirstLong}
use Rattle.bus_replica.proofs.LinearLaws.{items_on}
use Rattle.bus_replica.proofs.LongLaws.{AreBelow, functions_long}
use Rattle.bus_replica.proofs.LongOrders.{long_on, long_read, long_whole}
use Rattle.bus_replica.proofs.LongTables.{all_below, executed_long, senders_are}
use Rattle.bus_replica.proofs.ReadLaws.{read}
use Rattle.bus_replica.proofs.RecordedLaws.{fold_first, stands_first}
use Rattle.bus_replica.proofs.long_laws.long_operations_are_linearizable.Goals as goal

pub returns-clause-executes : goal.returns-clause-executes
returns-clause-executes g c =
    λ plan s t h k few on old new before number bytes answer j sits sits' at are short put last.
    executed_long g.S.State.is_first g.S.State.applies process tells (automaton plan)
    c.threads_may_go_by.ensures.process (c.threads_may_go_by.ensures.automaton plan)
    (record {
      one = c.long_messages_are_whole.ensures.one;
      grow = c.long_messages_are_whole.ensures.grow;
      last = c.pieces_are_joined.ensures.last;
      whole = c.long_messages_are_whole.ensures.whole;
    })
    s t h k
    (let same = senders_are plan in omega (arith, few, same))
    on old new before number bytes answer j sits sits' at are short put
    (stands_first (IsFirstLong g.S.State.is_first) (AppliesLong g.S.State.applies) new.me.0
    new.state (process.me old.sender.core) number answer last)

pub returns-clause-orders : goal.returns-clause-orders
returns-clause-orders g c = λ plan s t h k on.
    let x = (automaton plan).table_layout in
    long_on
    (record {
      one = c.long_messages_are_whole.ensures.one;
      grow = c.long_messages_are_whole.ensures.grow;
      last = c.pieces_are_joined.ensures.last;
      whole = c.long_messages_are_whole.ensures.whole;
    })
    h.order k.order
    (items_on process x (base_in (automaton plan)) (published s) (published t) s.table t.table h k
    on)

pub returns-clause-reads : goal.returns-clause-reads
returns-clause-reads g c = λ plan s m t h k few on on' old new j at caught loaded fold.
    let same = senders_are plan in
    let below : AreBelow MOST_SENDERS (items_in k.order.entries) =
    λ f b item e. omega (
      arith,
      few,
      same,
      all_below process (automaton plan).table_layout
          (base_in (automaton plan)) (published t) t.table k f b item e,
    ) in
    long_read g.S.State.is_first g.S.State.applies
    (record {
      one = c.long_messages_are_whole.ensures.one;
      grow = c.long_messages_are_whole.ensures.grow;
      last = c.pieces_are_joined.ensures.last;
      whole = c.long_messages_are_whole.ensures.whole;
    })
    h.order k.order new.state
    (read (IsFirstLong g.S.State.is_first) (AppliesLong g.S.State.applies) process (automaton plan)
    s m t (c.seats_keep_promises.ensures plan m.table m.rule) h k on on' old new j at caught loaded
    (fold_first (IsFirstLong g.S.State.is_first) (AppliesLong g.S.State.applies) new.me.0 new.state
    fold))
    below

pub returns-clause-whole : goal.returns-clause-whole
returns-clause-whole g c = λ plan t k worker operations are.
    let page = k.promises (λ r. []) (λ r. inl refl) in
    long_whole
    (record {
      one = c.long_messages_are_whole.ensures.one;
      grow = c.long_messages_are_whole.ensures.grow;
      last = c.pieces_are_joined.ensures.last;
      whole = c.long_messages_are_whole.ensures.whole;
    })
    k.order worker operations (puts (k.actions worker)) are (page.faithful.messages worker)

pub returns-clause-functions : goal.returns-clause-functions
returns-clause-functions g c = functions_long g.S.State.is_first g.S.State.applies

use Rattle.std.proofs.Common.{[]}
use Rattle.bus_automaton.specs.ThreeWordBuses.{automaton, process}
use Rattle.bus_replica.specs.Causes.{tells}
use Rattle.bus_automaton.specs.Processes.{base_in}
use Rattle.bus_pageslot.specs.Lasting.{published}
use Rattle.bus_replica.specs.Replicas.{LeadTo}
use Rattle.bus_replica.proofs.LinearLaws.{executed, items_on}
use Rattle.bus_replica.proofs.ReadLaws.{read}
use Rattle.bus_replica.proofs.laws.replicas_are_linearizable.Goals as goal

pub returns-clause-executes : goal.returns-clause-executes
returns-clause-executes g c = λ plan s t h k on old new number bytes answer j replayed.
    executed (LeadTo g.S.State.is_first g.S.State.applies replayed) g.S.State.applies process tells
    (automaton plan) c.threads_may_go_by.ensures.process
    (c.threads_may_go_by.ensures.automaton plan) s t h k on old new number [] bytes answer j

pub returns-clause-orders : goal.returns-clause-orders
returns-clause-orders g c = λ plan s t h k on.
    let x = (automaton plan).table_layout in
    items_on process x (base_in (automaton plan)) (published s) (published t) s.table t.table h k
    on

pub returns-clause-reads : goal.returns-clause-reads
returns-clause-reads g c = λ plan s m t h k on on' old new j replayed.
    read (LeadTo g.S.State.is_first g.S.State.applies replayed) g.S.State.applies process
    (automaton plan) s m t (c.seats_keep_promises.ensures plan m.table m.rule) h k on on' old new
    j

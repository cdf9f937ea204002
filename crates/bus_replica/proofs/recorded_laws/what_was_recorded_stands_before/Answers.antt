use Rattle.std.proofs.Common.{◌++◌}
use Rattle.bus_batch.specs.Frames.{items_in, order_of}
use Rattle.bus_replica.proofs.RecordedLaws.{one_executed, one_read, recorded_executed}
use Rattle.bus_replica.proofs.RecordedLaws.{recorded_items, recorded_read}
use Rattle.bus_replica.proofs.recorded_laws.what_was_recorded_stands_before.Goals as goal

pub returns-clause-told : goal.returns-clause-told
returns-clause-told g c = λ h frames tail bytes told a heading lawful few are reads.
    recorded_items (order_of frames) a.order
    (c.written_journals_are_read.ensures.told h frames tail bytes told a heading lawful few are
    reads).1

pub returns-clause-executes : goal.returns-clause-executes
returns-clause-executes g c =
    λ before h frames tail bytes told a heading lawful few are reads earlier later worker number op
    answer
    state
    l. (
      recorded_executed g.S.State.is_first g.S.State.applies before (order_of frames) a.order
          earlier later worker number op answer state
          (c.written_journals_are_read.ensures.told h frames tail bytes told a heading lawful few
          are reads).1
          l,
      one_executed g.S.State.is_first g.S.State.applies (before ++ items_in a.order.entries)
          earlier later worker number op answer state l,
    )

pub returns-clause-reads : goal.returns-clause-reads
returns-clause-reads g c =
    λ before h frames tail bytes told a heading lawful few are reads earlier later state l. (
      recorded_read g.S.State.is_first g.S.State.applies before (order_of frames) a.order earlier
          later state
          (c.written_journals_are_read.ensures.told h frames tail bytes told a heading lawful few
          are reads).1
          l,
      one_read g.S.State.is_first g.S.State.applies (before ++ items_in a.order.entries) earlier
          later state l,
    )

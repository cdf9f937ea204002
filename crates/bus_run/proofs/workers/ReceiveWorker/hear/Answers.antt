use Rattle.std.proofs.Common.{◌∙◌}
use Rattle.bus_run.proofs.NoteLemmas.{note_summed}
use Rattle.bus_run.proofs.workers.ReceiveWorker.hear.Goals as goal

pub invariant_of-self : goal.invariant_of-self
invariant_of-self g c = record {
  of_bus = c.turn-turn.ensures.table ∙ c.args.self.now.of_bus;
  summed = note_summed c.args.self.now.heard c.note.new.self c.turn-turn.result c.note.result
      c.args.self.now.summed c.note.ensures.takes c.note.ensures.taken c.note.ensures.refused;
}

use Rattle.std.proofs.Common.{◌∙◌, sym}
use Rattle.bus_replica.proofs.LeavingLaws.{left_more}
use Rattle.bus_replica.proofs.hearers.Hearer.missing.Goals as goal

pub loop-worker-preserved : goal.loop-worker-preserved
loop-worker-preserved g c =
    left_more c.args.self.now.me.0 c.loop-worker.worker c.loop-worker.invariant
    (sym c.has_left.ensures ∙ c.if-not-has_left.false)

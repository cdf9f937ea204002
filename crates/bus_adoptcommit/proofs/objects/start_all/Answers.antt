use Rattle.std.proofs.Common.{arith, length, ◌<◌}
use Rattle.std.proofs.lemmas.Option.{slice_get-get_or}
use Rattle.bus_adoptcommit.proofs.Starts.{starts_one}
use Rattle.bus_adoptcommit.proofs.objects.start_all.Goals as goal

pub loop-i-preserved : goal.loop-i-preserved
loop-i-preserved g c =
    let inputs = c.args.inputs.now in
    let i = c.loop-i.i in
    let lt : i < length inputs = omega arith in
    starts_one _ _ _ g.met.Q.Ratifier.laws (length inputs) i inputs c.loop-i.processes.items
    c.push.new.self.items _ c.start-process.result c.loop-i.invariant
    (slice_get-get_or inputs i _ lt) lt c.requires.few c.start-process.ensures
    c.in_ok-push.ensures.items

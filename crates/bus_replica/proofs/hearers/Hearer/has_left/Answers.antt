use Rattle.std.proofs.Common.{rules, ◌<◌, ◌∙◌, ap, false, slice_index_or, arith}
use Rattle.bus_replica.proofs.hearers.Hearer.has_left.Goals as goal

pub returns : goal.returns
returns g c =
    let small : c.args.worker.0 < 256 = search rules in
    let long = c.self.invariant.long in
    rw (← c.self.view_is)
    (ap (λ n. slice_index_or c.self.inside.left n false) c.from.ensures
    ∙ c.self.invariant.gone c.args.worker.0 (omega (arith, small, long)))

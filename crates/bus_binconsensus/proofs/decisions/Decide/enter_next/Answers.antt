use Rattle.std.proofs.Common.{◌≢◌, ◌-◌, arith, ap, sym, ◌∙◌}
use Rattle.bus_coinconc.specs.ConciliatorProtocol.{conciliator_protocol}
use Rattle.bus_binconsensus.proofs.ChainSteps.{span_own, span_next, span_within}
use Rattle.bus_binconsensus.specs.Objects.{objects_of}
use Rattle.bus_binconsensus.proofs.decisions.Decide.enter_next.Goals as goal

pub overflow_add-self : goal.overflow_add-self
overflow_add-self g c =
    let objects = objects_of g.Q.Ratifier.protocol conciliator_protocol in
    let n = c.self.inside.n in
    let k = c.self.inside.after in
    let more : k ≢ 0 = λ z. c.requires (ap (λ d. d.after) (sym c.self.view_is) ∙ z) in
    let s = span_next objects n k more in
    let t = span_within objects n 0 (k - 1) (omega arith) in
    let i = c.self.invariant.2 in
    let w = c.width.ensures in
    omega arith

pub start-requires-clause-room : goal.start-requires-clause-room
start-requires-clause-room g c =
    let objects = objects_of g.Q.Ratifier.protocol conciliator_protocol in
    let n = c.self.inside.n in
    let k = c.self.inside.after in
    let more : k ≢ 0 = λ z. c.requires (ap (λ d. d.after) (sym c.self.view_is) ∙ z) in
    let s = span_next objects n k more in
    let t = span_own objects n (k - 1) in
    let i = c.self.invariant.2 in
    let w = c.width.ensures in
    omega arith

use Rattle.std.proofs.Common.{refl, sym, ap, subst}
use Rattle.bus_world.proofs.PlayingLaws.{passed_up}
use Rattle.bus_automaton.specs.ThreeWordBuses.{Held, process}
use Rattle.bus_replica.specs.Causes.{tells, IsEndCause, SaysStop}
use Rattle.bus_replica.specs.Replicas.{GoesOn, IsFold, LeadTo, PutsStayLeaving, Replicated}
use Rattle.bus_replica.specs.Replicas.{Sitting}
use Rattle.bus_replica.proofs.LeavingLaws.{heard_all}
use Rattle.bus_replica.proofs.replicas.Replica.finish_while.Goals as goal

pub returns-clause-heard : goal.returns-clause-heard
returns-clause-heard g c =
    heard_all (LeadTo g.S.State.is_first g.S.State.applies c.args.self.bus.replayed)
    g.S.State.applies c.args.self.bus.plan.shape.senders
    c.leave_while.new.self.bus.plan.shape.senders c.args.self.me c.leave_while.new.self.me
    c.leave_while.new.self.me c.into_state.result c.leave_while.ensures.on refl
    (subst (λ (b : Sitting). IsFold (LeadTo g.S.State.is_first g.S.State.applies b.replayed)
    g.S.State.applies c.leave_while.new.self.me.0 c.into_state.result) c.leave_while.ensures.bus
    (subst (λ s. IsFold (LeadTo g.S.State.is_first g.S.State.applies
    c.leave_while.new.self.bus.replayed) g.S.State.applies c.leave_while.new.self.me.0 s)
    (sym c.into_state.ensures.state) c.into_state.ensures.fold))
    c.in_ok-leave_while.ensures.left
    (ap (λ (b : Sitting). b.plan.shape.senders) c.leave_while.ensures.bus)

pub returns-in_err-leave_while-clause-cause : goal.returns-in_err-leave_while-clause-cause
returns-in_err-leave_while-clause-cause g c =
    passed_up _ _ (λ w. (last : Replicated Held g.row.S.Denot) × GoesOn c.args.self.me last.me
    × PutsStayLeaving process tells c.args.self.sender last.sender × IsEndCause process tells
    (SaysStop (goal.F-step g) c.args.go_on) c.args.self.bus.plan.shape.senders c.args.self last w)
    c.from_residual.ensures (
      c.leave_while.new.self,
      c.leave_while.ensures.on,
      c.leave_while.ensures.puts,
      c.in_err-leave_while.ensures.cause,
    )

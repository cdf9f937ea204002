use Rattle.std.proofs.Common.{false, inr, refl, sym, subst, ◌∙◌}
use Rattle.bus_batch.specs.Batches.{IsCloseFault}
use Rattle.bus_world.proofs.PlayingLaws.{passed_up}
use Rattle.bus_automaton.specs.ThreeWordBuses.{process}
use Rattle.bus_replica.specs.Causes.{tells, IsEndCause, SaysStop, Unasked}
use Rattle.bus_replica.specs.Replicas.{Here, Rests, WorksOn, PutsStay}
use Rattle.bus_replica.proofs.CauseLaws.{end_within, sending_ends, says_trans, stop_after}
use Rattle.bus_replica.proofs.GoingLaws.{goes_trans, goes_same}
use Rattle.bus_replica.proofs.SendingLaws.{stay, stay_on, leaving, leaving_trans}
use Rattle.bus_replica.proofs.workers.Worker.begin_leave.Goals as goal

pub returns-then-self-clause-says : goal.returns-then-self-clause-says
returns-then-self-clause-says g c = Unasked

pub returns-then-self-clause-on : goal.returns-then-self-clause-on
returns-then-self-clause-on g c = Here

pub returns-then-self-clause-puts : goal.returns-then-self-clause-puts
returns-then-self-clause-puts g c =
    leaving process tells c.args.self.now.sender c.args.self.now.sender
    (stay process tells c.args.self.now.sender)

pub loop-init : goal.loop-init
loop-init g c = (
  c.requires.callable,
  refl,
  Here,
  stay process tells c.args.self.now.sender,
  Unasked,
)

pub returns-in_err-send_all-clause-on : goal.returns-in_err-send_all-clause-on
returns-in_err-send_all-clause-on g c =
    goes_trans c.args.self.now.me c.loop.self.me c.send_all.new.self.me c.loop.invariant.2
    c.send_all.ensures.on

pub returns-in_err-send_all-clause-puts : goal.returns-in_err-send_all-clause-puts
returns-in_err-send_all-clause-puts g c =
    leaving process tells c.args.self.now.sender c.send_all.new.self.sender
    (stay_on process tells c.args.self.now.sender c.loop.self.sender c.send_all.new.self.sender
    c.loop.invariant.3 c.send_all.ensures.puts)

pub returns-in_err-send_all-clause-cause : goal.returns-in_err-send_all-clause-cause
returns-in_err-send_all-clause-cause g c =
    passed_up _ _ (λ w. IsEndCause process tells (SaysStop (goal.F-step g) c.args.go_on.now)
    c.args.self.now.bus.plan.shape.senders c.args.self.now c.send_all.new.self w)
    c.from_residual.ensures
    (end_within process tells c.args.self.now c.loop.self c.send_all.new.self c.send_all.new.self
    c.loop.invariant.2 refl c.loop.invariant.3.works Rests (SaysStop (goal.F-step g) c.loop.go_on)
    (SaysStop (goal.F-step g) c.args.go_on.now)
    (stop_after (goal.F-step g) c.args.go_on.now c.loop.go_on c.loop.invariant.4)
    c.args.self.now.bus.plan.shape.senders c.in_err-send_all.field-0.0
    (sending_ends process tells c.loop.self c.send_all.new.self
    (SaysStop (goal.F-step g) c.loop.go_on) c.args.self.now.bus.plan.shape.senders
    c.in_err-send_all.field-0.0 c.in_err-send_all.ensures.cause))

pub returns-in-Err-Closed-clause-on : goal.returns-in-Err-Closed-clause-on
returns-in-Err-Closed-clause-on g c =
    goes_same c.args.self.now.me c.send_all.new.self.me c.take_leave.new.self.me
    (goes_trans c.args.self.now.me c.loop.self.me c.send_all.new.self.me c.loop.invariant.2
    c.send_all.ensures.on)
    c.take_leave.ensures.me.0

pub returns-in-Err-Closed-clause-puts : goal.returns-in-Err-Closed-clause-puts
returns-in-Err-Closed-clause-puts g c =
    leaving process tells c.args.self.now.sender c.take_leave.new.self.sender
    (subst (λ s. PutsStay process tells c.args.self.now.sender s)
    (sym c.in-Err-Closed.ensures.refused)
    (stay_on process tells c.args.self.now.sender c.loop.self.sender c.send_all.new.self.sender
    c.loop.invariant.3 c.send_all.ensures.puts))

pub returns-in-Err-Closed-clause-cause : goal.returns-in-Err-Closed-clause-cause
returns-in-Err-Closed-clause-cause g c =
    inr (inr (inr record {
      at = c.send_all.new.self.sender;
      before = (stay_on process tells c.args.self.now.sender c.loop.self.sender
          c.send_all.new.self.sender c.loop.invariant.3 c.send_all.ensures.puts).works;
      shut = subst (λ w. IsCloseFault (process.queue c.send_all.new.self.sender.core) w)
          c.in-Err-Closed.field-0-is c.in-Err-Closed.ensures.fault;
      behind = subst (λ s. WorksOn process tells false c.send_all.new.self.sender s)
          (sym c.in-Err-Closed.ensures.refused) Rests;
    }))

pub returns-in-Ok-clause-says : goal.returns-in-Ok-clause-says
returns-in-Ok-clause-says g c =
    says_trans (goal.F-step g) c.args.go_on.now c.loop.go_on c.send_all.new.go_on
    c.loop.invariant.4 c.in_ok-send_all.ensures.says

pub returns-in-Ok-clause-on : goal.returns-in-Ok-clause-on
returns-in-Ok-clause-on g c =
    goes_same c.args.self.now.me c.send_all.new.self.me c.take_leave.new.self.me
    (goes_trans c.args.self.now.me c.loop.self.me c.send_all.new.self.me c.loop.invariant.2
    c.send_all.ensures.on)
    c.take_leave.ensures.me.0

pub returns-in-Ok-clause-puts : goal.returns-in-Ok-clause-puts
returns-in-Ok-clause-puts g c =
    leaving_trans process tells c.args.self.now.sender c.send_all.new.self.sender
    c.take_leave.new.self.sender
    (leaving process tells c.args.self.now.sender c.send_all.new.self.sender
    (stay_on process tells c.args.self.now.sender c.loop.self.sender c.send_all.new.self.sender
    c.loop.invariant.3 c.send_all.ensures.puts))
    c.in-Ok.ensures.taken

pub loop-preserved : goal.loop-preserved
loop-preserved g c = (
  c.send_all.ensures.callable,
  c.take_leave.ensures.bus ∙ c.send_all.ensures.bus ∙ c.loop.invariant.1,
  goes_same c.args.self.now.me c.send_all.new.self.me c.take_leave.new.self.me
      (goes_trans c.args.self.now.me c.loop.self.me c.send_all.new.self.me c.loop.invariant.2
      c.send_all.ensures.on)
      c.take_leave.ensures.me.0,
  subst (λ s. PutsStay process tells c.args.self.now.sender s)
      (sym c.in-Err-Busy.ensures.refused)
      (stay_on process tells c.args.self.now.sender c.loop.self.sender c.send_all.new.self.sender
      c.loop.invariant.3 c.send_all.ensures.puts),
  says_trans (goal.F-step g) c.args.go_on.now c.loop.go_on c.send_all.new.go_on
      c.loop.invariant.4 c.in_ok-send_all.ensures.says,
)

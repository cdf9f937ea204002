use Rattle.std.proofs.Common.{of_calls, inl, true, sym, ◌∙◌, subst}
use Rattle.bus_automaton.specs.ThreeWordBuses.{process}
use Rattle.bus_replica.specs.Causes.{tells, IsCause, SaidYes}
use Rattle.bus_replica.specs.Replicas.{HearsOut, PutsStayLeaving, Rests}
use Rattle.bus_replica.proofs.CauseLaws.{answered_within, answered_also}
use Rattle.bus_replica.proofs.GoingLaws.{goes_trans, goes_same, out_goes, out_ends}
use Rattle.bus_replica.proofs.SendingLaws.{leaving_on}
use Rattle.bus_replica.proofs.workers.Worker.leave.Goals as goal

pub loop-init : goal.loop-init
loop-init g c = (
  c.begin_leave.ensures.callable,
  c.begin_leave.ensures.bus,
  c.begin_leave.ensures.on,
  c.begin_leave.ensures.puts,
  c.in_ok-begin_leave.ensures.says,
)

pub returns-in-Err-Spent-clause-cause : goal.returns-in-Err-Spent-clause-cause
returns-in-Err-Spent-clause-cause g c =
    answered_within process tells true c.args.self.now.sender c.loop.self.sender
    c.send.new.self.sender c.send.new.self.sender c.loop.invariant.3.works Rests _
    (answered_also process tells c.loop.self.sender c.send.new.self.sender _
    (subst (λ w. IsCause process tells ⊥ ⊥ c.loop.self c.send.new.self w)
    c.in-Err-Spent.field-0-is c.in-Err-Spent.ensures.cause))

pub returns-then-hear-clause-cause : goal.returns-then-hear-clause-cause
returns-then-hear-clause-cause g c =
    inl (out_ends c.args.self.now.me c.send.new.self.me c.hear.new.self.me
    (goes_same c.args.self.now.me c.loop.self.me c.send.new.self.me c.loop.invariant.2
    c.send.ensures.me.0)
    (subst (λ b. HearsOut c.send.new.self.me b c.hear.new.self.me) c.if-hear.true
    c.hear.ensures.out))

pub returns-then-hear-clause-on : goal.returns-then-hear-clause-on
returns-then-hear-clause-on g c =
    goes_trans c.args.self.now.me c.send.new.self.me c.hear.new.self.me
    (goes_same c.args.self.now.me c.loop.self.me c.send.new.self.me c.loop.invariant.2
    c.send.ensures.me.0)
    (out_goes c.send.new.self.me c.hear.result c.hear.new.self.me c.hear.ensures.out)

pub returns-in_default-missing-clause-on : goal.returns-in_default-missing-clause-on
returns-in_default-missing-clause-on g c =
    goes_trans c.args.self.now.me c.send.new.self.me c.hear.new.self.me
    (goes_same c.args.self.now.me c.loop.self.me c.send.new.self.me c.loop.invariant.2
    c.send.ensures.me.0)
    (out_goes c.send.new.self.me c.hear.result c.hear.new.self.me c.hear.ensures.out)

pub returns-then-not-go_on-clause-on : goal.returns-then-not-go_on-clause-on
returns-then-not-go_on-clause-on g c =
    goes_trans c.args.self.now.me c.send.new.self.me c.hear.new.self.me
    (goes_same c.args.self.now.me c.loop.self.me c.send.new.self.me c.loop.invariant.2
    c.send.ensures.me.0)
    (out_goes c.send.new.self.me c.hear.result c.hear.new.self.me c.hear.ensures.out)

pub returns-in-Err-Spent-clause-puts : goal.returns-in-Err-Spent-clause-puts
returns-in-Err-Spent-clause-puts g c =
    leaving_on process tells c.args.self.now.sender c.loop.self.sender c.send.new.self.sender
    c.loop.invariant.3 c.send.ensures.puts

pub returns-then-hear-clause-puts : goal.returns-then-hear-clause-puts
returns-then-hear-clause-puts g c =
    subst (λ s. PutsStayLeaving process tells c.args.self.now.sender s) (sym c.hear.ensures.sender)
    (leaving_on process tells c.args.self.now.sender c.loop.self.sender c.send.new.self.sender
    c.loop.invariant.3 c.send.ensures.puts)

pub returns-in_default-missing-clause-puts : goal.returns-in_default-missing-clause-puts
returns-in_default-missing-clause-puts g c =
    subst (λ s. PutsStayLeaving process tells c.args.self.now.sender s) (sym c.hear.ensures.sender)
    (leaving_on process tells c.args.self.now.sender c.loop.self.sender c.send.new.self.sender
    c.loop.invariant.3 c.send.ensures.puts)

pub returns-then-not-go_on-clause-puts : goal.returns-then-not-go_on-clause-puts
returns-then-not-go_on-clause-puts g c =
    subst (λ s. PutsStayLeaving process tells c.args.self.now.sender s) (sym c.hear.ensures.sender)
    (leaving_on process tells c.args.self.now.sender c.loop.self.sender c.send.new.self.sender
    c.loop.invariant.3 c.send.ensures.puts)

pub loop-preserved : goal.loop-preserved
loop-preserved g c = (
  search of_calls,
  c.hear.ensures.bus ∙ c.send.ensures.bus ∙ c.loop.invariant.1,
  goes_trans c.args.self.now.me c.send.new.self.me c.hear.new.self.me
      (goes_same c.args.self.now.me c.loop.self.me c.send.new.self.me c.loop.invariant.2
      c.send.ensures.me.0)
      (out_goes c.send.new.self.me c.hear.result c.hear.new.self.me c.hear.ensures.out),
  subst (λ s. PutsStayLeaving process tells c.args.self.now.sender s) (sym c.hear.ensures.sender)
      (leaving_on process tells c.args.self.now.sender c.loop.self.sender c.send.new.self.sender
      c.loop.invariant.3 c.send.ensures.puts),
  SaidYes c.loop.go_on c.go_on.new.self c.loop.invariant.4 c.if-not-go_on.ensures,
)

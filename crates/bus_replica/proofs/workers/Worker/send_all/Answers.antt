use Rattle.std.proofs.Common.{◌∙◌, refl}
use Rattle.bus_world.proofs.PlayingLaws.{passed_up}
use Rattle.bus_automaton.specs.ThreeWordBuses.{process}
use Rattle.bus_replica.specs.Causes.{tells, IsCause, SaysStop, Unasked}
use Rattle.bus_replica.specs.Replicas.{Here, Rests}
use Rattle.bus_replica.proofs.CauseLaws.{cause_within, says_trans}
use Rattle.bus_replica.proofs.GoingLaws.{goes_trans}
use Rattle.bus_replica.proofs.SendingLaws.{stay, stay_on}
use Rattle.bus_replica.proofs.workers.Worker.send_all.Goals as goal

pub loop-init : goal.loop-init
loop-init g c = (
  c.requires.callable,
  refl,
  Here,
  stay process tells c.args.self.now.sender,
  Unasked,
)

pub returns-in_err-round-clause-on : goal.returns-in_err-round-clause-on
returns-in_err-round-clause-on g c =
    goes_trans c.args.self.now.me c.loop.self.me c.round.new.self.me c.loop.invariant.2
    c.round.ensures.on

pub returns-in_err-round-clause-puts : goal.returns-in_err-round-clause-puts
returns-in_err-round-clause-puts g c =
    stay_on process tells c.args.self.now.sender c.loop.self.sender c.round.new.self.sender
    c.loop.invariant.3 c.round.ensures.puts

pub returns-in_err-round-clause-cause : goal.returns-in_err-round-clause-cause
returns-in_err-round-clause-cause g c =
    passed_up _ _ (λ w. IsCause process tells ⊥ (SaysStop (goal.F-step g) c.args.go_on.now)
    c.args.self.now c.round.new.self w)
    c.from_residual.ensures
    (cause_within process tells c.args.self.now c.loop.self c.round.new.self c.round.new.self
    c.loop.invariant.2 refl c.loop.invariant.3.works Rests ⊥ ⊥ ⊥
    (SaysStop (goal.F-step g) c.args.go_on.now) (λ long. long) (λ stops. absurd stops)
    c.in_err-round.field-0.0 c.in_err-round.ensures.cause)

pub returns-then-not-may_go_on-clause-on : goal.returns-then-not-may_go_on-clause-on
returns-then-not-may_go_on-clause-on g c =
    goes_trans c.args.self.now.me c.loop.self.me c.round.new.self.me c.loop.invariant.2
    c.round.ensures.on

pub returns-then-not-may_go_on-clause-puts : goal.returns-then-not-may_go_on-clause-puts
returns-then-not-may_go_on-clause-puts g c =
    stay_on process tells c.args.self.now.sender c.loop.self.sender c.round.new.self.sender
    c.loop.invariant.3 c.round.ensures.puts

pub loop-preserved : goal.loop-preserved
loop-preserved g c = (
  c.may_go_on.ensures.callable,
  c.round.ensures.bus ∙ c.loop.invariant.1,
  goes_trans c.args.self.now.me c.loop.self.me c.round.new.self.me c.loop.invariant.2
      c.round.ensures.on,
  stay_on process tells c.args.self.now.sender c.loop.self.sender c.round.new.self.sender
      c.loop.invariant.3 c.round.ensures.puts,
  says_trans (goal.F-step g) c.args.go_on.now c.loop.go_on c.may_go_on.new.go_on
      c.loop.invariant.4 (c.may_go_on.ensures.yes c.if-not-may_go_on.false),
)

use Rattle.std.proofs.Common.{[], ◌∷◌, ◌++◌, ◌∙◌, refl}
use Rattle.bus_world.proofs.PlayingLaws.{passed_up}
use Rattle.bus_automaton.specs.ThreeWordBuses.{process}
use Rattle.bus_replica.specs.Causes.{tells, IsCause, SaysStop, Unasked}
use Rattle.bus_replica.specs.Replicas.{Here, Rests, PutsStay}
use Rattle.bus_replica.proofs.CauseLaws.{cause_within, says_trans}
use Rattle.bus_replica.proofs.GoingLaws.{goes_trans, goes_same}
use Rattle.bus_replica.proofs.SendingLaws.{now_all, stay, stay_on, stays_more}
use Rattle.bus_replica.proofs.workers.Worker.put.Goals as goal

pub loop-init : goal.loop-init
loop-init g c = (
  c.requires.callable,
  refl,
  Here,
  stay process tells c.args.self.now.sender,
  Unasked,
)

pub returns-in-Ok-clause-put : goal.returns-in-Ok-clause-put
returns-in-Ok-clause-put g c =
    stays_more process tells c.args.self.now.sender c.loop.self.sender c.try_put.new.self.sender
    c.in-Ok.number (c.args.before.now ++ c.args.op.now ∷ []) c.loop.invariant.3
    (now_all process tells c.loop.self.sender c.try_put.new.self.sender c.in-Ok.number
    (c.args.before.now ++ c.args.op.now ∷ []) c.in-Ok.ensures.put)

pub returns-in_err-round-in-Err-Busy-clause-on : goal.returns-in_err-round-in-Err-Busy-clause-on
returns-in_err-round-in-Err-Busy-clause-on g c =
    goes_trans c.args.self.now.me c.try_put.new.self.me c.round.new.self.me
    (goes_same c.args.self.now.me c.loop.self.me c.try_put.new.self.me c.loop.invariant.2
    c.try_put.ensures.me.0)
    c.round.ensures.on

pub returns-in_err-round-in-Err-Busy-clause-cause :
    goal.returns-in_err-round-in-Err-Busy-clause-cause
returns-in_err-round-in-Err-Busy-clause-cause g c =
    passed_up _ _ (λ w. IsCause process tells ⊥ (SaysStop (goal.F-step g) c.args.go_on.now)
    c.args.self.now c.round.new.self w)
    c.from_residual.ensures
    (cause_within process tells c.args.self.now c.try_put.new.self c.round.new.self c.round.new.self
    (goes_same c.args.self.now.me c.loop.self.me c.try_put.new.self.me c.loop.invariant.2
    c.try_put.ensures.me.0)
    refl
    (stay_on process tells c.args.self.now.sender c.loop.self.sender c.try_put.new.self.sender
    c.loop.invariant.3 c.in-Err-Busy.ensures.refused).works
    Rests ⊥ ⊥ ⊥ (SaysStop (goal.F-step g) c.args.go_on.now) (λ long. long)
    (λ stops. absurd stops) c.in_err-round-in-Err-Busy.field-0.0
    c.in_err-round-in-Err-Busy.ensures.cause)

pub returns-then-not-may_go_on-clause-on : goal.returns-then-not-may_go_on-clause-on
returns-then-not-may_go_on-clause-on g c =
    goes_trans c.args.self.now.me c.try_put.new.self.me c.round.new.self.me
    (goes_same c.args.self.now.me c.loop.self.me c.try_put.new.self.me c.loop.invariant.2
    c.try_put.ensures.me.0)
    c.round.ensures.on

pub returns-in-Err-Closed-clause-refused : goal.returns-in-Err-Closed-clause-refused
returns-in-Err-Closed-clause-refused g c =
    stay_on process tells c.args.self.now.sender c.loop.self.sender c.try_put.new.self.sender
    c.loop.invariant.3 c.in-Err-Closed.ensures.refused

pub returns-in_err-round-in-Err-Busy-clause-refused :
    goal.returns-in_err-round-in-Err-Busy-clause-refused
returns-in_err-round-in-Err-Busy-clause-refused g c =
    passed_up _ _ (λ w. PutsStay process tells c.args.self.now.sender c.round.new.self.sender)
    c.from_residual.ensures
    (stay_on process tells c.args.self.now.sender c.try_put.new.self.sender c.round.new.self.sender
    (stay_on process tells c.args.self.now.sender c.loop.self.sender c.try_put.new.self.sender
    c.loop.invariant.3 c.in-Err-Busy.ensures.refused)
    c.round.ensures.puts)

pub returns-then-not-may_go_on-clause-refused : goal.returns-then-not-may_go_on-clause-refused
returns-then-not-may_go_on-clause-refused g c =
    stay_on process tells c.args.self.now.sender c.try_put.new.self.sender c.round.new.self.sender
    (stay_on process tells c.args.self.now.sender c.loop.self.sender c.try_put.new.self.sender
    c.loop.invariant.3 c.in-Err-Busy.ensures.refused)
    c.round.ensures.puts

pub loop-preserved : goal.loop-preserved
loop-preserved g c = (
  c.may_go_on.ensures.callable,
  c.round.ensures.bus ∙ c.try_put.ensures.bus ∙ c.loop.invariant.1,
  goes_trans c.args.self.now.me c.try_put.new.self.me c.round.new.self.me
      (goes_same c.args.self.now.me c.loop.self.me c.try_put.new.self.me c.loop.invariant.2
      c.try_put.ensures.me.0)
      c.round.ensures.on,
  stay_on process tells c.args.self.now.sender c.try_put.new.self.sender c.round.new.self.sender
      (stay_on process tells c.args.self.now.sender c.loop.self.sender c.try_put.new.self.sender
      c.loop.invariant.3 c.in-Err-Busy.ensures.refused)
      c.round.ensures.puts,
  says_trans (goal.F-step g) c.args.go_on.now c.loop.go_on c.may_go_on.new.go_on
      c.loop.invariant.4 (c.may_go_on.ensures.yes c.if-not-may_go_on.false),
)

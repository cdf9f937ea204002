use Rattle.std.proofs.Common.{[], ◌∷◌, ◌++◌, of_calls, rules, inl, inr, refl, ◌∙◌, sym, subst}
use Rattle.bus_world.proofs.PlayingLaws.{passed_up}
use Rattle.bus_automaton.specs.ThreeWordBuses.{process}
use Rattle.bus_replica.specs.Causes.{tells, IsCause, SaysStop, SaidYes}
use Rattle.bus_replica.specs.Replicas.{PutsAll, PutsStay, PutsAllOrNone, Rests}
use Rattle.bus_replica.proofs.CauseLaws.{cause_within}
use Rattle.bus_replica.proofs.GoingLaws.{goes_trans, goes_same, ends_behind}
use Rattle.bus_replica.proofs.SendingLaws.{more_stays, works_of}
use Rattle.bus_replica.proofs.workers.Worker.execute.Goals as goal

pub returns-in_err-found-clause-on : goal.returns-in_err-found-clause-on
returns-in_err-found-clause-on g c =
    goes_trans c.args.self.now.me c.send.new.self.me c.hear_own.new.self.me
    (goes_same c.args.self.now.me c.loop.self.me c.send.new.self.me c.loop.invariant.2
    c.send.ensures.me.0)
    c.hear_own.ensures.on

pub returns-in-Some-found-clause-on : goal.returns-in-Some-found-clause-on
returns-in-Some-found-clause-on g c =
    goes_trans c.args.self.now.me c.send.new.self.me c.hear_own.new.self.me
    (goes_same c.args.self.now.me c.loop.self.me c.send.new.self.me c.loop.invariant.2
    c.send.ensures.me.0)
    c.hear_own.ensures.on

pub returns-then-not-go_on-clause-on : goal.returns-then-not-go_on-clause-on
returns-then-not-go_on-clause-on g c =
    goes_trans c.args.self.now.me c.send.new.self.me c.hear_own.new.self.me
    (goes_same c.args.self.now.me c.loop.self.me c.send.new.self.me c.loop.invariant.2
    c.send.ensures.me.0)
    c.hear_own.ensures.on

pub returns-in_err-send-clause-cause : goal.returns-in_err-send-clause-cause
returns-in_err-send-clause-cause g c =
    passed_up _ _ (λ w. IsCause process tells ⊥ (SaysStop (goal.F-step g) c.args.go_on.now)
    c.args.self.now c.send.new.self w)
    c.from_residual-in_err-send.ensures
    (cause_within process tells c.args.self.now c.loop.self c.send.new.self c.send.new.self
    c.loop.invariant.2 refl
    (works_of process tells c.args.self.now.sender c.loop.self.sender c.in_ok-number.number
    (c.args.before.now ++ c.args.op.now ∷ []) c.loop.invariant.3)
    Rests ⊥ ⊥ ⊥
    (SaysStop (goal.F-step g) c.args.go_on.now) (λ long. long) (λ stops. absurd stops)
    c.in_err-send.field-0.0 c.in_err-send.ensures.cause)

pub returns-in_err-found-clause-cause : goal.returns-in_err-found-clause-cause
returns-in_err-found-clause-cause g c =
    passed_up _ _ (λ w. IsCause process tells ⊥ (SaysStop (goal.F-step g) c.args.go_on.now)
    c.args.self.now c.hear_own.new.self w)
    c.from_residual-in_err-found.ensures
    (subst (λ w. IsCause process tells ⊥ (SaysStop (goal.F-step g) c.args.go_on.now)
    c.args.self.now c.hear_own.new.self w) (sym c.in_err-found.ensures.ended.0)
    (inl (ends_behind c.args.self.now.me c.send.new.self.me c.hear_own.new.self.me
    (goes_same c.args.self.now.me c.loop.self.me c.send.new.self.me c.loop.invariant.2
    c.send.ensures.me.0)
    c.in_err-found.ensures.ended.1)))

pub returns-in_err-number-clause-refused : goal.returns-in_err-number-clause-refused
returns-in_err-number-clause-refused g c =
    passed_up _ _ (λ w. PutsAllOrNone process tells c.args.self.now.sender c.put.new.self.sender
    (c.args.before.now ++ c.args.op.now ∷ []))
    c.from_residual.ensures (inl c.in_err-number.ensures.refused)

pub returns-in_err-send-clause-refused : goal.returns-in_err-send-clause-refused
returns-in_err-send-clause-refused g c =
    passed_up _ _ (λ w. PutsAllOrNone process tells c.args.self.now.sender c.send.new.self.sender
    (c.args.before.now ++ c.args.op.now ∷ []))
    c.from_residual-in_err-send.ensures
    (inr (
      c.in_ok-number.number,
      more_stays process tells c.args.self.now.sender c.loop.self.sender c.send.new.self.sender
          c.in_ok-number.number (c.args.before.now ++ c.args.op.now ∷ []) c.loop.invariant.3
          c.send.ensures.puts,
    ))

pub returns-in_err-found-clause-refused : goal.returns-in_err-found-clause-refused
returns-in_err-found-clause-refused g c =
    passed_up _ _
    (λ w. PutsAllOrNone process tells c.args.self.now.sender c.hear_own.new.self.sender
    (c.args.before.now ++ c.args.op.now ∷ []))
    c.from_residual-in_err-found.ensures
    (inr (
      c.in_ok-number.number,
      more_stays process tells c.args.self.now.sender c.loop.self.sender
          c.hear_own.new.self.sender c.in_ok-number.number (c.args.before.now ++ c.args.op.now ∷ [])
          c.loop.invariant.3
          (subst (λ s. PutsStay process tells c.loop.self.sender s) (sym c.hear_own.ensures.sender)
          c.send.ensures.puts),
    ))

pub returns-then-not-go_on-clause-refused : goal.returns-then-not-go_on-clause-refused
returns-then-not-go_on-clause-refused g c =
    inr (
      c.in_ok-number.number,
      more_stays process tells c.args.self.now.sender c.loop.self.sender c.hear_own.new.self.sender
          c.in_ok-number.number (c.args.before.now ++ c.args.op.now ∷ []) c.loop.invariant.3
          (subst (λ s. PutsStay process tells c.loop.self.sender s) (sym c.hear_own.ensures.sender)
          c.send.ensures.puts),
    )

pub returns-in-Some-found-clause-executed : goal.returns-in-Some-found-clause-executed
returns-in-Some-found-clause-executed g c =
    let more : PutsAll process tells c.args.self.now.sender c.hear_own.new.self.sender
    c.in_ok-number.number (c.args.before.now ++ c.args.op.now ∷ []) =
    more_stays process tells c.args.self.now.sender c.loop.self.sender c.hear_own.new.self.sender
    c.in_ok-number.number (c.args.before.now ++ c.args.op.now ∷ []) c.loop.invariant.3
    (subst (λ s. PutsStay process tells c.loop.self.sender s) (sym c.hear_own.ensures.sender)
    c.send.ensures.puts) in
    search rules

pub loop-preserved : goal.loop-preserved
loop-preserved g c = (
  search of_calls,
  c.hear_own.ensures.bus ∙ c.send.ensures.bus ∙ c.loop.invariant.1,
  goes_trans c.args.self.now.me c.send.new.self.me c.hear_own.new.self.me
      (goes_same c.args.self.now.me c.loop.self.me c.send.new.self.me c.loop.invariant.2
      c.send.ensures.me.0)
      c.hear_own.ensures.on,
  more_stays process tells c.args.self.now.sender c.loop.self.sender c.hear_own.new.self.sender
      c.in_ok-number.number (c.args.before.now ++ c.args.op.now ∷ []) c.loop.invariant.3
      (subst (λ s. PutsStay process tells c.loop.self.sender s) (sym c.hear_own.ensures.sender)
      c.send.ensures.puts),
  SaidYes c.loop.go_on c.go_on.new.self c.loop.invariant.4 c.if-not-go_on.ensures,
)

use Rattle.std.proofs.Common.{arith, sym, ◌∙◌, ap, subst}
use Rattle.bus_deliverylog.specs.Receiving.{LogReading, Receiving, TakesNext, reading_of}
use Rattle.bus_deliverylog.proofs.ReceiveLaws.{due_at}
use Rattle.bus_deliverylog.proofs.receiving.Reader.feed.Goals as goal

pub invariant_of-self : goal.invariant_of-self
invariant_of-self c = (
  c.self.invariant.0,
  c.self.invariant.1,
  let is = c.place-self-inside.ensures.place in omega arith,
  let is = c.place-self-inside.ensures.place in
      let passed = c.self.invariant.2 in let known = c.self.invariant.3 in omega arith,
  λ none. absurd
      (let due = due_at c.args.self.now c.in-Some.field-0
      (sym c.passing.ensures ∙ c.in-Some.is) in
      let at = sym none ∙ ap (λ (v : Receiving). v.passed_at) c.self.view_is ∙ due in
      cc),
  c.self.invariant.5,
)

pub returns-clause-word : goal.returns-clause-word
returns-clause-word c _ _ = subst
    (λ (z : LogReading). TakesNext z c.args.got c.take_word.result c.take_word.new.self)
    (ap reading_of c.self.view_is) c.take_word.ensures.word

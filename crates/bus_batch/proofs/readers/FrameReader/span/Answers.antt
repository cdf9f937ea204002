use Rattle.std.proofs.Common.{◌≤◌, [], arith, refl, sym, subst, ap, ◌∙◌, None}
use Rattle.bus_batch.specs.declared.readers.Span.{Span}
use Rattle.bus_batch.specs.Frames.{data_len}
use Rattle.bus_batch.specs.Reading.{Reading, IsSound}
use Rattle.bus_batch.specs.Steps.{Takes}
use Rattle.bus_batch.specs.Spans.{midway}
use Rattle.bus_batch.proofs.Bodies.{takes_begun}
use Rattle.bus_batch.proofs.Spans.{leads_on, goes_on_within}
use Rattle.bus_batch.proofs.Taking.{reading}
use Rattle.bus_batch.proofs.readers.FrameReader.span.Goals as goal

pub returns-clause-span : goal.returns-clause-span
returns-clause-span c =
    let sound = subst (λ p. IsSound c.self.inside.most p c.self.inside.bytes) c.in-Body.is
    c.self.invariant.0 in
    let not_empty = c.if-length-eq0.false in
    record {
      at = ap (λ (r : Reading). r.place) (sym c.self.view_is) ∙ c.in-Body.is;
      bytes = ap (λ (r : Reading). r.bytes) (sym c.self.view_is) ∙ sound.0;
      words = refl;
      some = omega (arith, not_empty);
      most = c.in-Some.ensures.some.len;
      room = (
        let l = sound.1 in let f = sound.2 in omega arith,
        subst (λ n. c.in-Body.room ≤ n) (ap (λ (r : Reading). r.most) c.self.view_is) sound.3,
      );
      enough = c.can_hold.ensures.enough c.if-not-can_hold.false;
      fillable = c.can_hold.ensures.fillable c.if-not-can_hold.false;
    }

pub returns-clause-begins : goal.returns-clause-begins
returns-clause-begins c =
    let span = returns-clause-span c in
    let sound = subst (λ p. IsSound c.self.inside.most p c.self.inside.bytes) c.in-Body.is
    c.self.invariant.0 in
    let enough = span.enough in
    let fillable = span.fillable in
    let room = span.room in
    let some = span.some in
    let most = span.most in
    let taken : Span = record {
      words = data_len c.in-Some.length.len;
      owner = c.in-Body.owner;
      left = c.in-Body.left;
      room = c.in-Body.room;
      number = c.in-Some.length.number;
      len = c.in-Some.length.len;
    } in
    leads_on c.args.self.now (midway c.args.self.now taken []) c.args.told None
    (subst (λ r. Takes r c.args.told None (midway r taken []))
    (ap (λ z. reading c.self.inside.most c.self.inside.senders c.self.inside.least
    c.self.inside.left z
    c.self.inside.bytes) (sym c.in-Body.is) ∙ c.self.view_is)
    (takes_begun c.self.inside.most c.self.inside.senders c.self.inside.least c.args.told
    c.self.inside.left
    c.in-Body.owner c.in-Body.left c.in-Body.room c.self.inside.bytes c.in-Some.length
    c.in-Some.ensures.some sound.1 enough (omega arith) sound.3 fillable some))
    (λ _. (some, most, omega arith, omega arith, omega arith, refl))

pub returns-clause-within : goal.returns-clause-within
returns-clause-within c = goes_on_within c.args.self.now _ (returns-clause-span c)

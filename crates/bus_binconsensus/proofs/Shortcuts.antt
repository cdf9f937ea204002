-- No process goes past an object without what it gave.
use Rattle.std.proofs.Common.{arith, sym, ◌∙◌, ap, ◌≡◌, Bool, Some}
use Rattle.std.proofs.lemmas.Option.{same_Some}
use Rattle.bus_register.specs.Protocol.{Protocol}
use Rattle.bus_adoptcommit.specs.declared.verdicts.Verdict.{Verdict}
use Rattle.bus_adoptcommit.specs.declared.verdicts.Verdict.TheVariants.{Commit, Adopt}
use Rattle.bus_binconsensus.specs.Objects.{object_output, object_input}
use Rattle.bus_binconsensus.specs.DecideRefuses.{RefusesShortcuts}

module _ {S T : Type 0} (P : Protocol S Bool Verdict) (C : Protocol T Bool Bool) where
  pub refuses_shortcuts : RefusesShortcuts P C
  refuses_shortcuts = record {
    past_an_object = λ rounds n at p k visits d past within unadopted w.
        let a = w.passed k past within in unadopted a.before _ a.before_is a.handed;
    early_fallback = λ n at p visits d last none w.
        let a = w.passed 1 (omega arith) (omega arith) in
        let e = sym none ∙ a.before_is in absurd cc;
    no_conciliator = λ n at p visits d here none w.
        let a = w.passed 2 (omega arith) (omega arith) in
        let e = sym none ∙ a.before_is in absurd cc;
    past_a_commit = λ n at p visits d x v here was committed w.
        let a = w.passed 3 (omega arith) (omega arith) in
        let same : a.before ≡ x = same_Some _ _ (sym a.before_is ∙ was) in
        let e = sym a.handed ∙ ap (object_output P C) same ∙ committed in
        absurd cc;
    other_value = λ n at p visits d x v here was adopted other w.
        let a = w.passed 3 (omega arith) (omega arith) in
        let same : a.before ≡ x = same_Some _ _ (sym a.before_is ∙ was) in
        let next : a.next ≡ d.object =
        same_Some _ _ (sym a.next_is ∙ ap (λ z. visits z p) (sym here) ∙ w.here) in
        let e : Some (Adopt (object_input P C a.next)) ≡ Some (Adopt v) =
        sym a.handed ∙ ap (object_output P C) same ∙ adopted in
        other (ap (object_input P C) (sym next) ∙ (let f : object_input P C a.next ≡ v = cc in f));
    other_input = λ n at p visits d here other w.
        other (w.first d.object (ap (λ z. visits z p) (sym here) ∙ w.here));
  }

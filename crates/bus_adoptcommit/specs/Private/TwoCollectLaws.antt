-- Two collects are an adopt-commit object, with coherence.
use Rattle.std.proofs.Common.{◌≡◌, ◌≢◌, ℕ, ◌+◌, ◌<◌, ◌≤◌, Bool, true, false, cond, nat_lt, Some}
use Rattle.std.proofs.Common.{is_some, inl, inr, arith, refl, sym, ◌∙◌, subst}
use Rattle.bus_register.specs.declared.limits.TheConstants.{MOST_PROCESSES}
use mathlib.Core.Path.{fun_ext}
use Rattle.std.proofs.lemmas.Option.{same_Some}
use Rattle.bus_register.specs.declared.kinds.Kind.{Kind}
use Rattle.bus_register.specs.declared.kinds.Kind.TheVariants as kind
use Rattle.std.proofs.lemmas.Bool.{true≢false}
use Rattle.std.proofs.lemmas.Bool.Decides.{nat_tests}
use Rattle.bus_register.specs.declared.registers.Op.{Op}
use Rattle.bus_register.specs.Words.{SumFits}
use Rattle.bus_register.specs.Protocol.{Laws, IsStore}
use Rattle.bus_adoptcommit.specs.declared.phases.Phase.{Phase}
use Rattle.bus_adoptcommit.specs.declared.phases.Phase.TheVariants.{WriteFirst, ReadFirst}
use Rattle.bus_adoptcommit.specs.declared.phases.Phase.TheVariants.{WriteSecond, ReadSecond, Ended}
use Rattle.bus_adoptcommit.specs.Agreement.{Legal}
use Rattle.bus_adoptcommit.specs.Kinds.{IsOfRatifier, IsNamedFor, ComesAfter}
use Rattle.bus_adoptcommit.specs.Plays.{IsExact}
use Rattle.bus_adoptcommit.specs.TwoCollect.{Local, kind_at, op_at, op_of, fed_at, fed_of, taken_at}
use Rattle.bus_adoptcommit.specs.TwoCollectKeeps.{Keeps, two_collect}
use Rattle.bus_adoptcommit.specs.Private.KindLaws.{not_storing, not_reading, to_read_first}
use Rattle.bus_adoptcommit.specs.Private.KindLaws.{to_write_second, to_read_second}
use Rattle.bus_adoptcommit.specs.Private.TwoCollectStepLaws.{goes_of, falls_of, ends_at, unended_at}
use Rattle.bus_adoptcommit.specs.Private.TwoCollectStepLaws.{none_left_at}
use Rattle.bus_adoptcommit.specs.Private.TwoCollectMoveLaws.{moves_keep}
use Rattle.bus_adoptcommit.specs.Private.TwoCollectStartLaws.{fresh_keep, enters_keep}
use Rattle.bus_adoptcommit.specs.Private.TwoCollectOutcomeLaws.{keeps_legal}

-- a kind is named exactly where there is a step
pub named_at : (ph : Phase) (s : Local) → is_some (kind_at ph) ≡ is_some (op_at ph s)
named_at WriteFirst s = refl
named_at (ReadFirst of) s = refl
named_at WriteSecond s = refl
named_at (ReadSecond of) s = refl
named_at Ended s = refl

-- the kinds are those of a ratifier
own_kinds_at : (ph : Phase) (k : Kind) → kind_at ph ≡ Some k → IsOfRatifier k
own_kinds_at WriteFirst k e = inl (sym (same_Some _ _ e))
own_kinds_at (ReadFirst of) k e = inr (inl (sym (same_Some _ _ e)))
own_kinds_at WriteSecond k e = inr (inr (inl (sym (same_Some _ _ e))))
own_kinds_at (ReadSecond of) k e = inr (inr (inr (sym (same_Some _ _ e))))
own_kinds_at Ended k e = absurd cc

pub own_kinds : (s : Local) (k : Kind) → kind_at s.phase ≡ Some k → IsOfRatifier k
own_kinds s k e = own_kinds_at s.phase k e

-- a step is named for what it does
begun_one : (m : ℕ) → 0 < m → nat_lt 0 m ≡ true
begun_one m l = grind (arith, nat_tests)

true_apart : {A : Type 0} (b : Bool) → b ≡ true → b ≡ false → A
true_apart b e f = absurd (true≢false (sym e ∙ f))

pub named_for_at : (ph : Phase) (n : ℕ) (s : Local) (k : Kind) (o : Op) → kind_at ph ≡ Some k
    → op_at ph s ≡ Some o → IsNamedFor k o (nat_lt 0 (taken_at n ph))
named_for_at WriteFirst n s k o e q =
    let is = same_Some _ _ e in
    record {
      stores = λ w. inl (sym is);
      storing = λ w. (_, _, sym (same_Some _ _ q));
      reading = λ w. absurd (not_reading k (inl (sym is)) w);
      proposes = λ w. refl;
      first = λ w. sym is;
    }
named_for_at (ReadFirst of) n s k o e q =
    let is = same_Some _ _ e in let begun = begun_one (taken_at n (ReadFirst of)) (omega arith) in
    record {
      stores = λ w. absurd (let z = same_Some _ _ q ∙ w.2 in cc);
      storing = λ w. absurd (not_storing k (inl (sym is)) w);
      reading = λ w. (_, sym (same_Some _ _ q));
      proposes = λ w. absurd (let z = is ∙ w in cc);
      first = true_apart _ begun;
    }
named_for_at WriteSecond n s k o e q =
    let is = same_Some _ _ e in let begun = begun_one (taken_at n WriteSecond) (omega arith) in
    record {
      stores = λ w. inr (sym is);
      storing = λ w. (_, _, sym (same_Some _ _ q));
      reading = λ w. absurd (not_reading k (inr (sym is)) w);
      proposes = λ w. absurd (let z = is ∙ w in cc);
      first = true_apart _ begun;
    }
named_for_at (ReadSecond of) n s k o e q =
    let is = same_Some _ _ e in let begun = begun_one (taken_at n (ReadSecond of)) (omega arith) in
    record {
      stores = λ w. absurd (let z = same_Some _ _ q ∙ w.2 in cc);
      storing = λ w. absurd (not_storing k (inr (sym is)) w);
      reading = λ w. (_, sym (same_Some _ _ q));
      proposes = λ w. absurd (let z = is ∙ w in cc);
      first = true_apart _ begun;
    }
named_for_at Ended n s k o e q = absurd cc

-- its kinds come in their order
after_read : (more : Bool) (of : ℕ) (k next : Kind) → k ≡ kind.ReadFirst
    → kind_at (cond more (ReadFirst (of + 1)) WriteSecond) ≡ Some next → ComesAfter k next
after_read true of k next is e = to_read_first k next (inr is) (same_Some _ _ e)
after_read false of k next is e = to_write_second k next is (same_Some _ _ e)

after_last : (more : Bool) (of : ℕ) (k next : Kind) → k ≢ kind.WriteFirst
    → kind_at (cond more (ReadSecond (of + 1)) Ended) ≡ Some next → ComesAfter k next
after_last true of k next ne e = to_read_second k next ne (same_Some _ _ e)
after_last false of k next ne e = absurd cc

pub in_order_at : (ph : Phase) (s : Local) (got : ℕ) (k next : Kind) → kind_at ph ≡ Some k
    → kind_at (fed_at ph s got).phase ≡ Some next → ComesAfter k next
in_order_at WriteFirst s got k next e f =
    to_read_first k next (inl (sym (same_Some _ _ e))) (same_Some _ _ f)
in_order_at (ReadFirst of) s got k next e f =
    after_read (nat_lt (of + 1) s.n) of k next (sym (same_Some _ _ e)) f
in_order_at WriteSecond s got k next e f =
    to_read_second k next (λ w. let z = same_Some _ _ e ∙ w in cc) (same_Some _ _ f)
in_order_at (ReadSecond of) s got k next e f =
    after_last (nat_lt (of + 1) s.n) of k next (λ w. let z = same_Some _ _ e ∙ w in cc) f
in_order_at Ended s got k next e f = absurd cc

-- it asks for no random word
pub wordless : (s : Local) → two_collect.wants_word s ≡ false
wordless s = refl

-- a store does not tell what it found
blind_at : (ph : Phase) (s : Local) (got got' : ℕ) (o : Op) → op_at ph s ≡ Some o → IsStore o
    → fed_at ph s got ≡ fed_at ph s got'
blind_at WriteFirst s got got' o e w = refl
blind_at (ReadFirst of) s got got' o e w = absurd (let z = same_Some _ _ e ∙ w.2 in cc)
blind_at WriteSecond s got got' o e w = refl
blind_at (ReadSecond of) s got got' o e w = absurd (let z = same_Some _ _ e ∙ w.2 in cc)
blind_at Ended s got got' o e w = refl

-- no step is an addition
fits_at : (ph : Phase) (s : Local) (o : Op) (found : ℕ) → op_at ph s ≡ Some o → SumFits o found
fits_at WriteFirst s o found e = subst (λ z. SumFits z found) (same_Some _ _ e) tt
fits_at (ReadFirst of) s o found e = subst (λ z. SumFits z found) (same_Some _ _ e) tt
fits_at WriteSecond s o found e = subst (λ z. SumFits z found) (same_Some _ _ e) tt
fits_at (ReadSecond of) s o found e = subst (λ z. SumFits z found) (same_Some _ _ e) tt
fits_at Ended s o found e = absurd cc

-- Gafni 1998: valid, convergent and coherent, over any order of the steps
pub two_collect_legal : Laws (λ s word. op_of s) (λ s got word. fed_of s got) two_collect Legal
two_collect_legal = record {
  starts = λ n me at v below few. record {
    belongs = record { n_is = refl; me_is = refl; at_is = refl; below = below; fits = tt };
    input = refl;
    fresh = refl;
    bounded = omega arith;
  };
  goes = λ n me at s got word o b e. goes_of n me at s b got o e;
  ends = λ s word e. ends_at s.phase s e;
  unended = λ s word o e. unended_at s.phase s o e;
  unmoved = λ s got word word' e. (refl, refl);
  blind = λ s got got' word o e w. blind_at s.phase s got got' o e w;
  fresh = fresh_keep;
  enters = λ n at words old new p v k below few none start beside.
      enters_keep n at words old new p v k below none start beside;
  moves = λ n at words words' old new p s word o k here next goes beside step.
      moves_keep n at words words' old new p s o k here next goes beside step;
  fits = λ n at words locals p s word o k here next. fits_at s.phase s o _ next;
  frame = λ n at words words' old new k agree same.
      subst (λ z. Keeps n at words' z) (sym (fun_ext same)) record {
        inside = k.inside;
        proposal_words = λ p l. agree (at + p) (omega arith) (omega arith) ∙ k.proposal_words p l;
        verdict_words = λ p l. agree (at + n + p) (omega arith) (omega arith) ∙ k.verdict_words p l;
        holds = k.holds;
      };
  known = λ n at words locals p s k e. k.inside p s e;
  outcome = keeps_legal;
}

-- a process takes exactly 2n + 2 steps
pub two_collect_exact : IsExact (λ s word. op_of s) (λ s got word. fed_of s got) two_collect
two_collect_exact = record {
  starts = λ n me at v below few. omega arith;
  falls = λ n me at s got word o b e. falls_of n me at s b got o e;
  ends = λ s d e. none_left_at s.phase s d e;
}

-- bounds on its steps and its words
pub quick : (n : ℕ) → n ≤ MOST_PROCESSES → two_collect.steps n ≤ 1024
quick n few = omega arith

pub narrow : (n : ℕ) → n ≤ MOST_PROCESSES → two_collect.width n ≤ 1024
narrow n few = omega arith

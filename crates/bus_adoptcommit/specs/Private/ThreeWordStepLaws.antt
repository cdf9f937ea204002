-- Each single step of three words.
use Rattle.std.proofs.Common.{◌≡◌, ℕ, ◌+◌, ◌<◌, ◌≤◌, Bool, true, false, not, cond, Some, None}
use Rattle.std.proofs.Common.{is_some, nat_lt, ◌==◌, inl, inr, arith, refl, sym, ◌∙◌, ap, subst}
use Rattle.std.proofs.Common.{IsSome}
use Rattle.std.proofs.lemmas.Bool.{lt-ltb, true≢false}
use Rattle.std.proofs.lemmas.Option.{same_Some}
use Rattle.bus_register.specs.declared.kinds.Kind.{Kind}
use Rattle.bus_register.specs.declared.kinds.Kind.TheVariants as kind
use Rattle.bus_register.specs.declared.registers.Op.{Op}
use Rattle.bus_register.specs.Words.{register, SumFits}
use Rattle.bus_register.specs.Protocol.{Goes, IsStore}
use Rattle.bus_register.proofs.DigitLaws.{digit_le}
use Rattle.bus_adoptcommit.specs.declared.progress.Progress.{Progress}
use Rattle.bus_adoptcommit.specs.declared.progress.Progress.TheVariants.{Bring, ReadFirst, Propose}
use Rattle.bus_adoptcommit.specs.declared.progress.Progress.TheVariants.{ReadOther, Ended}
use Rattle.bus_adoptcommit.specs.Kinds.{IsOfRatifier, IsNamedFor, ComesAfter}
use Rattle.bus_adoptcommit.specs.ThreeWord.{Local, kind_at, op_at, op_of, fed_at, fed_of, behind}
use Rattle.bus_adoptcommit.specs.ThreeWord.{output_at}
use Rattle.bus_adoptcommit.specs.ThreeWordKeeps.{Belongs, three_word}
use Rattle.bus_adoptcommit.specs.Private.KindLaws.{not_storing, not_reading, to_read_first}
use Rattle.bus_adoptcommit.specs.Private.KindLaws.{to_write_second, to_read_second}

-- the step from s at this point to t
pub record Advances (pr : Progress) (s t : Local) : Type 0 where
  pub at_is : t.at ≡ s.at
  pub input_is : t.input ≡ s.input
  pub own : behind t.progress ≤ 2 → t.preference ≡ t.input
  pub more : behind pr < behind t.progress
  pub few : behind t.progress ≤ 4

-- a process that found a proposal, or none
looked_if : (s : Local) (found v : Bool) → s.preference ≡ s.input
    → Advances ReadFirst s (cond found (record s { progress = Propose })
    (record s { preference = v; progress = ReadOther }))
looked_if s true v e = record {
  at_is = refl;
  input_is = refl;
  own = λ _. e;
  more = omega arith;
  few = omega arith;
}
looked_if s false v e = record {
  at_is = refl;
  input_is = refl;
  own = λ l. absurd (omega arith);
  more = omega arith;
  few = omega arith;
}

-- each step is one such
pub advances_at : (pr : Progress) (s : Local) (got : ℕ) (o : Op)
    → (behind pr ≤ 2 → s.preference ≡ s.input) → op_at pr s ≡ Some o
    → Advances pr s (fed_at pr s got)
advances_at Bring s got o own e = record {
  at_is = refl;
  input_is = refl;
  own = λ _. own (omega arith);
  more = omega arith;
  few = omega arith;
}
advances_at ReadFirst s got o own e = looked_if s (got == 0) (got == 2) (own (omega arith))
advances_at Propose s got o own e = record {
  at_is = refl;
  input_is = refl;
  own = λ l. absurd (omega arith);
  more = omega arith;
  few = omega arith;
}
advances_at ReadOther s got o own e = record {
  at_is = refl;
  input_is = refl;
  own = λ l. absurd (omega arith);
  more = omega arith;
  few = omega arith;
}
advances_at Ended s got o own e = absurd cc

-- the step's word is one of the object's
inside_at : (pr : Progress) (s : Local) (o : Op) → op_at pr s ≡ Some o
    → (s.at ≤ register o) × (register o < s.at + 3)
inside_at Bring s o e =
    let r = ap register (same_Some _ _ e) in let d = digit_le s.input in (omega arith, omega arith)
inside_at ReadFirst s o e = let r = ap register (same_Some _ _ e) in (omega arith, omega arith)
inside_at Propose s o e = let r = ap register (same_Some _ _ e) in (omega arith, omega arith)
inside_at ReadOther s o e =
    let r = ap register (same_Some _ _ e) in
    let d = digit_le (not s.preference) in (omega arith, omega arith)
inside_at Ended s o e = absurd cc

-- what a step is, whatever it found
pub goes_of : (n me at : ℕ) (s : Local) (got : ℕ) (o : Op) → Belongs n me at s → op_of s ≡ Some o
    → Goes three_word n me at o s (fed_of s got)
goes_of n me at s got o b e =
    let a = advances_at s.progress s got o b.own e in
    let i = inside_at s.progress s o e in
    let same = b.at_is in let more = a.more in let few = a.few in
    record {
      above = omega (arith, i.0);
      below = omega (arith, i.1);
      belongs = record { at_is = a.at_is ∙ b.at_is; own = a.own };
      input = a.input_is;
      begun = lt-ltb _ _ (omega arith);
      falls = omega arith;
    }

-- where no step is left, an output stands
pub ends_at : (pr : Progress) (s : Local) → op_at pr s ≡ None
    → IsSome (output_at pr s) × (nat_lt 0 (behind pr) ≡ true)
ends_at Bring s e = absurd cc
ends_at ReadFirst s e = absurd cc
ends_at Propose s e = absurd cc
ends_at ReadOther s e = absurd cc
ends_at Ended s e = (refl, refl)

-- where a step is left, none stands
pub unended_at : (pr : Progress) (s : Local) (o : Op) → op_at pr s ≡ Some o → output_at pr s ≡ None
unended_at Bring s o e = refl
unended_at ReadFirst s o e = refl
unended_at Propose s o e = refl
unended_at ReadOther s o e = refl
unended_at Ended s o e = cc

-- a kind is named exactly where there is a step
pub named_at : (pr : Progress) (s : Local) → is_some (kind_at pr) ≡ is_some (op_at pr s)
named_at Bring s = refl
named_at ReadFirst s = refl
named_at Propose s = refl
named_at ReadOther s = refl
named_at Ended s = refl

-- the kinds are those of a ratifier
own_kinds_at : (pr : Progress) (k : Kind) → kind_at pr ≡ Some k → IsOfRatifier k
own_kinds_at Bring k e = inl (sym (same_Some _ _ e))
own_kinds_at ReadFirst k e = inr (inl (sym (same_Some _ _ e)))
own_kinds_at Propose k e = inr (inr (inl (sym (same_Some _ _ e))))
own_kinds_at ReadOther k e = inr (inr (inr (sym (same_Some _ _ e))))
own_kinds_at Ended k e = absurd cc

pub own_kinds : (s : Local) (k : Kind) → kind_at s.progress ≡ Some k → IsOfRatifier k
own_kinds s k e = own_kinds_at s.progress k e

-- a step is named for what it does
pub named_for_at : (pr : Progress) (s : Local) (k : Kind) (o : Op) → kind_at pr ≡ Some k
    → op_at pr s ≡ Some o → IsNamedFor k o (nat_lt 0 (behind pr))
named_for_at Bring s k o e q =
    let is = same_Some _ _ e in
    record {
      stores = λ w. inl (sym is);
      storing = λ w. (_, _, sym (same_Some _ _ q));
      reading = λ w. absurd (not_reading k (inl (sym is)) w);
      proposes = λ w. refl;
      first = λ w. sym is;
    }
named_for_at ReadFirst s k o e q =
    let is = same_Some _ _ e in
    record {
      stores = λ w. absurd (let z = same_Some _ _ q ∙ w.2 in cc);
      storing = λ w. absurd (not_storing k (inl (sym is)) w);
      reading = λ w. (_, sym (same_Some _ _ q));
      proposes = λ w. absurd (let z = is ∙ w in cc);
      first = λ w. absurd (true≢false w);
    }
named_for_at Propose s k o e q =
    let is = same_Some _ _ e in
    record {
      stores = λ w. inr (sym is);
      storing = λ w. (_, _, sym (same_Some _ _ q));
      reading = λ w. absurd (not_reading k (inr (sym is)) w);
      proposes = λ w. absurd (let z = is ∙ w in cc);
      first = λ w. absurd (true≢false w);
    }
named_for_at ReadOther s k o e q =
    let is = same_Some _ _ e in
    record {
      stores = λ w. absurd (let z = same_Some _ _ q ∙ w.2 in cc);
      storing = λ w. absurd (not_storing k (inr (sym is)) w);
      reading = λ w. (_, sym (same_Some _ _ q));
      proposes = λ w. absurd (let z = is ∙ w in cc);
      first = λ w. absurd (true≢false w);
    }
named_for_at Ended s k o e q = absurd cc

-- its kinds come in their order
in_order_found : (none : Bool) (s : Local) (v : Bool) (k next : Kind) → k ≡ kind.ReadFirst
    → kind_at (cond none (record s { progress = Propose })
    (record s { preference = v; progress = ReadOther })).progress ≡ Some next → ComesAfter k next
in_order_found true s v k next is e = to_write_second k next is (same_Some _ _ e)
in_order_found false s v k next is e =
    to_read_second k next (λ w. let z = sym is ∙ w in cc) (same_Some _ _ e)

pub in_order_at : (pr : Progress) (s : Local) (got : ℕ) (k next : Kind) → kind_at pr ≡ Some k
    → kind_at (fed_at pr s got).progress ≡ Some next → ComesAfter k next
in_order_at Bring s got k next e f =
    to_read_first k next (inl (sym (same_Some _ _ e))) (same_Some _ _ f)
in_order_at ReadFirst s got k next e f =
    in_order_found (got == 0) s (got == 2) k next (sym (same_Some _ _ e)) f
in_order_at Propose s got k next e f =
    to_read_second k next (λ w. let z = same_Some _ _ e ∙ w in cc) (same_Some _ _ f)
in_order_at ReadOther s got k next e f = absurd cc
in_order_at Ended s got k next e f = absurd cc

-- a store does not tell what it found
pub blind_at : (pr : Progress) (s : Local) (got got' : ℕ) (o : Op) → op_at pr s ≡ Some o → IsStore o
    → fed_at pr s got ≡ fed_at pr s got'
blind_at Bring s got got' o e w = refl
blind_at ReadFirst s got got' o e w = absurd (let z = same_Some _ _ e ∙ w.2 in cc)
blind_at Propose s got got' o e w = refl
blind_at ReadOther s got got' o e w = absurd (let z = same_Some _ _ e ∙ w.2 in cc)
blind_at Ended s got got' o e w = refl

-- no step is an addition
pub fits_at : (pr : Progress) (s : Local) (o : Op) (found : ℕ) → op_at pr s ≡ Some o
    → SumFits o found
fits_at Bring s o found e = subst (λ z. SumFits z found) (same_Some _ _ e) tt
fits_at ReadFirst s o found e = subst (λ z. SumFits z found) (same_Some _ _ e) tt
fits_at Propose s o found e = subst (λ z. SumFits z found) (same_Some _ _ e) tt
fits_at ReadOther s o found e = subst (λ z. SumFits z found) (same_Some _ _ e) tt
fits_at Ended s o found e = absurd cc

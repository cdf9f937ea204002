-- Each single step of two collects.
use Rattle.std.proofs.Common.{◌≡◌, ℕ, ◌+◌, ◌*◌, ◌-◌, ◌<◌, ◌≤◌, Bool, true, false, cond, Some, None}
use Rattle.std.proofs.Common.{nat_lt, arith, refl, sym, ◌∙◌, ap, subst, IsSome}
use Rattle.std.proofs.lemmas.Bool.{ltb-true, ltb-false, lt-ltb}
use Rattle.std.proofs.lemmas.Option.{same_Some}
use Rattle.bus_register.specs.declared.registers.Op.{Op}
use Rattle.bus_register.specs.Words.{register}
use Rattle.bus_register.specs.Protocol.{Goes}
use Rattle.bus_adoptcommit.specs.declared.phases.Phase.{Phase}
use Rattle.bus_adoptcommit.specs.declared.phases.Phase.TheVariants.{WriteFirst, ReadFirst}
use Rattle.bus_adoptcommit.specs.declared.phases.Phase.TheVariants.{WriteSecond, ReadSecond, Ended}
use Rattle.bus_adoptcommit.specs.declared.verdicts.Verdict.{Verdict}
use Rattle.bus_adoptcommit.specs.TwoCollect.{Local, PhaseFits, op_at, op_of, fed_at, fed_of}
use Rattle.bus_adoptcommit.specs.TwoCollect.{taken_at, output_at}
use Rattle.bus_adoptcommit.specs.TwoCollectKeeps.{Belongs, two_collect}

-- the phase after a read comes next
proposal_if : (n of : ℕ) (b : Bool) → nat_lt (of + 1) n ≡ b → of < n
    → PhaseFits n (cond b (ReadFirst (of + 1)) WriteSecond)
    × (taken_at n (cond b (ReadFirst (of + 1)) WriteSecond) ≡ 2 + of)
proposal_if n of true e h = (ltb-true (of + 1) n e, omega arith)
proposal_if n of false e h = (tt, let g = ltb-false (of + 1) n e in omega arith)

-- the same, among the verdicts
verdict_if : (n of : ℕ) (b : Bool) → nat_lt (of + 1) n ≡ b → of < n
    → PhaseFits n (cond b (ReadSecond (of + 1)) Ended)
    × (taken_at n (cond b (ReadSecond (of + 1)) Ended) ≡ 3 + n + of)
verdict_if n of true e h = (ltb-true (of + 1) n e, omega arith)
verdict_if n of false e h = (tt, let g = ltb-false (of + 1) n e in omega arith)

-- the step from s, of which so many steps were taken, to t
pub record Advances (s t : Local) (taken : ℕ) : Type 0 where
  pub n_is : t.n ≡ s.n
  pub me_is : t.me ≡ s.me
  pub at_is : t.at ≡ s.at
  pub input_is : t.input ≡ s.input
  pub fits : PhaseFits s.n t.phase
  pub more : taken_at s.n t.phase ≡ 1 + taken
  pub room : taken < 2 + s.n + s.n

-- each step is one such
pub advances_at : (ph : Phase) (s : Local) (got : ℕ) (o : Op) → s.me < s.n → PhaseFits s.n ph
    → op_at ph s ≡ Some o → Advances s (fed_at ph s got) (taken_at s.n ph)
advances_at WriteFirst s got o b f e = record {
  n_is = refl;
  me_is = refl;
  at_is = refl;
  input_is = refl;
  fits = omega arith;
  more = refl;
  room = omega arith;
}
advances_at (ReadFirst of) s got o b f e =
    let next = proposal_if s.n of (nat_lt (of + 1) s.n) refl f in
    record {
      n_is = refl;
      me_is = refl;
      at_is = refl;
      input_is = refl;
      fits = next.0;
      more = next.1 ∙ omega arith;
      room = omega arith;
    }
advances_at WriteSecond s got o b f e = record {
  n_is = refl;
  me_is = refl;
  at_is = refl;
  input_is = refl;
  fits = omega arith;
  more = omega arith;
  room = omega arith;
}
advances_at (ReadSecond of) s got o b f e =
    let next = verdict_if s.n of (nat_lt (of + 1) s.n) refl f in
    record {
      n_is = refl;
      me_is = refl;
      at_is = refl;
      input_is = refl;
      fits = next.0;
      more = next.1 ∙ omega arith;
      room = omega arith;
    }
advances_at Ended s got o b f e = absurd cc

-- the step's word is one of the object's
inside_at : (ph : Phase) (s : Local) (o : Op) → s.me < s.n → PhaseFits s.n ph → op_at ph s ≡ Some o
    → (s.at ≤ register o) × (register o < s.at + 2 * s.n)
inside_at WriteFirst s o b f e = let r = ap register (same_Some _ _ e) in (omega arith, omega arith)
inside_at (ReadFirst of) s o b f e =
    let r = ap register (same_Some _ _ e) in (omega arith, omega arith)
inside_at WriteSecond s o b f e =
    let r = ap register (same_Some _ _ e) in (omega arith, omega arith)
inside_at (ReadSecond of) s o b f e =
    let r = ap register (same_Some _ _ e) in (omega arith, omega arith)
inside_at Ended s o b f e = absurd cc

module _ (n me at : ℕ) (s : Local) (b : Belongs n me at s) where
  -- the numbers, as the state itself has them
  own_below : s.me < s.n
  own_below = let x = b.n_is in let y = b.me_is in let z = b.below in omega arith

  own_fits : PhaseFits s.n s.phase
  own_fits = subst (λ z. PhaseFits z s.phase) (sym b.n_is) b.fits

  -- the step of a process of the object
  pub advances : (got : ℕ) (o : Op) → op_of s ≡ Some o
      → Advances s (fed_of s got) (taken_at s.n s.phase)
  advances got o e = advances_at s.phase s got o own_below own_fits e

  -- the count of the steps, at the new state's own number of processes
  taken_after : (got : ℕ) (o : Op) → op_of s ≡ Some o
      → taken_at (fed_of s got).n (fed_of s got).phase ≡ 1 + taken_at s.n s.phase
  taken_after got o e =
      let a = advances got o e in ap (λ z. taken_at z (fed_of s got).phase) a.n_is ∙ a.more

  -- what a step is, whatever it found
  pub goes_of : (got : ℕ) (o : Op) → op_of s ≡ Some o → Goes two_collect n me at o s (fed_of s got)
  goes_of got o e =
      let a = advances got o e in
      let i = inside_at s.phase s o own_below own_fits e in
      let more = taken_after got o e in
      let x = b.n_is in let y = b.at_is in let u = a.n_is in let v = a.room in
      record {
        above = omega (arith, i.0);
        below = omega (arith, i.1);
        belongs = record {
          n_is = a.n_is ∙ b.n_is;
          me_is = a.me_is ∙ b.me_is;
          at_is = a.at_is ∙ b.at_is;
          below = b.below;
          fits = subst (λ z. PhaseFits z (fed_of s got).phase) b.n_is a.fits;
        };
        input = a.input_is;
        begun = lt-ltb _ _ (omega arith);
        falls = omega arith;
      }

  -- a step takes one of those that are left
  pub falls_of : (got : ℕ) (o : Op) → op_of s ≡ Some o
      → two_collect.left s ≡ two_collect.left (fed_of s got) + 1
  falls_of got o e =
      let a = advances got o e in
      let more = taken_after got o e in let u = a.n_is in let v = a.room in
      omega arith

-- where no step is left, an output stands
pub ends_at : (ph : Phase) (s : Local) → op_at ph s ≡ None
    → IsSome (output_at ph s) × (nat_lt 0 (taken_at s.n ph) ≡ true)
ends_at WriteFirst s e = absurd cc
ends_at (ReadFirst of) s e = absurd cc
ends_at WriteSecond s e = absurd cc
ends_at (ReadSecond of) s e = absurd cc
ends_at Ended s e = (refl, lt-ltb _ _ (omega arith))

-- where a step is left, none stands
pub unended_at : (ph : Phase) (s : Local) (o : Op) → op_at ph s ≡ Some o → output_at ph s ≡ None
unended_at WriteFirst s o e = refl
unended_at (ReadFirst of) s o e = refl
unended_at WriteSecond s o e = refl
unended_at (ReadSecond of) s o e = refl
unended_at Ended s o e = cc

-- where an output stands, all steps were taken
pub none_left_at : (ph : Phase) (s : Local) (d : Verdict) → output_at ph s ≡ Some d
    → (2 + s.n + s.n) - taken_at s.n ph ≡ 0
none_left_at WriteFirst s d e = absurd cc
none_left_at (ReadFirst of) s d e = absurd cc
none_left_at WriteSecond s d e = absurd cc
none_left_at (ReadSecond of) s d e = absurd cc
none_left_at Ended s d e = omega arith

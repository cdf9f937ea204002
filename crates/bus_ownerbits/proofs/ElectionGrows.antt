-- What was seen, announced and proposed stays so.
use Rattle.std.proofs.Common.{◌≡◌, ℕ, zero, suc, ◌+◌, ◌-◌, ◌<◌, ◌≤◌, Bool, Option, Some, None}
use Rattle.std.proofs.Common.{arith, refl, sym, ◌∙◌, ap}
use Rattle.bus_register.specs.Tables.{of_some}
use Rattle.bus_register.specs.Protocol.{Protocol, outputs}
use Rattle.bus_register.specs.Digits.{digit}
use Rattle.bus_ownerbits.specs.declared.stages.Stage.{Stage}
use Rattle.bus_ownerbits.specs.declared.stages.Stage.TheVariants.{Announce, Propose, Search, Alone}
use Rattle.bus_ownerbits.specs.Sizes.{bits_of}
use Rattle.bus_ownerbits.specs.Election.{Decisions, Electing}
use Rattle.bus_ownerbits.specs.ElectionKeeps.{Fitting, Proposed, Saw, Spelled, Standing}
use Rattle.bus_ownerbits.specs.ElectionKeeps.{StageStands, bit_seen, spelled_of}

-- later visits and words: what was seen is seen, and what was announced is announced
pub record Grows {S : Type 0} (P : Protocol S Bool Bool) (n at : ℕ) (words words' : ℕ → ℕ)
    (visits visits' : ℕ → ℕ → Option S) : Type 0 where
  pub same : (q j : ℕ) → Saw P visits q j → visits' j q ≡ visits j q
  pub loud : (c : ℕ) → c < n → words (at + c) ≡ 1 → words' (at + c) ≡ 1

pub grows_on :
    {S : Type 0} (P : Protocol S Bool Bool) (n at : ℕ) (a b c : ℕ → ℕ) (x y z : ℕ → ℕ → Option S)
    → Grows P n at a b x y → Grows P n at b c y z → Grows P n at a c x z
grows_on P n at a b c x y z g h = record {
  same = λ q j s.
      let e = g.same q j s in
      h.same q j record { local = s.local; bit = s.bit; here = e ∙ s.here; is = s.is } ∙ e;
  loud = λ i below one. h.loud i below (g.loud i below one);
}

pub seen_is : {S : Type 0} (P : Protocol S Bool Bool) (o : Option S) (x : S) (bit : Bool)
    → o ≡ Some x → P.output x ≡ Some bit → bit_seen P o ≡ digit bit
seen_is P o x bit e f =
    let g : of_some P.output o ≡ Some bit = ap (of_some P.output) e ∙ f in
    ap (λ z. elim z as (λ y. ℕ) [ None ↦ 0 | Some b ↦ digit b ]) g

-- the number depends on what was seen of the bits alone
pub spelled_same : {S : Type 0} (P : Protocol S Bool Bool) (visits visits' : ℕ → ℕ → Option S)
    (bits q : ℕ) (m k : ℕ) → k + m ≡ bits → ((j : ℕ) → k ≤ j → j < bits → visits' j q ≡ visits j q)
    → spelled_of P visits' q m k ≡ spelled_of P visits q m k
spelled_same P visits visits' bits q zero k e same = refl
spelled_same P visits visits' bits q (suc m) k e same =
    let a = spelled_same P visits visits' bits q m (suc k) (omega arith)
    (λ j h h'. same j (omega arith) h') in
    let b = ap (bit_seen P) (same k (omega arith) (omega arith)) in
    omega arith

-- two processes that have seen all these bits have seen the same number
pub spelled_agree :
    {S : Type 0} (P : Protocol S Bool Bool) (visits : ℕ → ℕ → Option S) (bits p q : ℕ)
    → ((j x y : ℕ) (v w : Bool) → j < bits → outputs P (visits j) x ≡ Some v
    → outputs P (visits j) y ≡ Some w → v ≡ w)
    → (m k : ℕ) → k + m ≡ bits → ((j : ℕ) → k ≤ j → j < bits → Saw P visits p j)
    → ((j : ℕ) → k ≤ j → j < bits → Saw P visits q j)
    → spelled_of P visits p m k ≡ spelled_of P visits q m k
spelled_agree P visits bits p q agree zero k e a b = refl
spelled_agree P visits bits p q agree (suc m) k e a b =
    let x = a k (omega arith) (omega arith) in
    let y = b k (omega arith) (omega arith) in
    let i = spelled_agree P visits bits p q agree m (suc k) (omega arith)
    (λ j h h'. a j (omega arith) h') (λ j h h'. b j (omega arith) h') in
    let same : x.bit ≡ y.bit = agree k p q x.bit y.bit (omega arith)
    (ap (of_some P.output) x.here ∙ x.is) (ap (of_some P.output) y.here ∙ y.is) in
    let u = seen_is P (visits k p) x.local x.bit x.here x.is in
    let v = seen_is P (visits k q) y.local y.bit y.here y.is in
    let w = ap digit same in
    omega arith

module _ {S : Type 0} (P : Protocol S Bool Bool) (n at : ℕ) (words words' : ℕ → ℕ)
    (visits visits' : ℕ → ℕ → Option S) (g : Grows P n at words words' visits visits') where
  pub saw_stays : (q j : ℕ) → Saw P visits q j → Saw P visits' q j
  saw_stays q j s = record { local = s.local; bit = s.bit; here = g.same q j s ∙ s.here; is = s.is }

  pub spelled_stays : (bits q k number : ℕ) → Spelled P visits bits q k number
      → Spelled P visits' bits q k number
  spelled_stays bits q k number s = record {
    saw = λ j h h'. saw_stays q j (s.saw j h h');
    is = λ m e.
        s.is m e
        ∙ sym (spelled_same P visits visits' bits q m k e (λ j h h'. g.same q j (s.saw j h h')));
  }

  pub fitting_stays : (k number c : ℕ) → Fitting n at words k number c
      → Fitting n at words' k number c
  fitting_stays k number c f = record {
    below = f.below;
    announced = g.loud c f.below f.announced;
    fits = f.fits;
  }

  pub proposed_stays : (q k : ℕ) (x : S) → Proposed P visits n at words q k x
      → Proposed P visits' n at words' q k x
  proposed_stays q k x a = record {
    candidate = a.candidate;
    number = a.number;
    spelled = spelled_stays (bits_of n) q (suc k) a.number a.spelled;
    fitting = fitting_stays (suc k) a.number a.candidate a.fitting;
    input = a.input;
  }

  pub stage_stays : (q : ℕ) (s : Electing S) → ((k : ℕ) → visits' k q ≡ visits k q)
      → (stage : Stage S) → StageStands P visits n at words q stage s
      → StageStands P visits' n at words' q stage s
  stage_stays q s same Announce (a, b, c) = (a, b, λ k. same k ∙ c k)
  stage_stays q s same (Propose d) (a, b, c, f) = (
    same (s.left - 1) ∙ a,
    (λ k h. same k ∙ b k h),
    c,
    fitting_stays s.left s.spelled s.candidate f,
  )
  stage_stays q s same (Search i) ((c, h, f), b, e, a) = (
    (c, h, fitting_stays s.left s.spelled c f),
    b,
    e,
    λ k l. same k ∙ a k l,
  )
  stage_stays q s same Alone a = a

-- another process stands where it stood
pub standing_stays : {S : Type 0} (D : Decisions S) (cost : ℕ → ℕ → ℕ) (rounds n at : ℕ)
    (words words' : ℕ → ℕ) (visits visits' : ℕ → ℕ → Option S)
    (g : Grows (D rounds) n at words words' visits visits')
    (q : ℕ) (s : Electing S) → ((k : ℕ) → visits' k q ≡ visits k q)
    → Standing D cost rounds n at words visits q s → Standing D cost rounds n at words' visits' q s
standing_stays D cost rounds n at words words' visits visits' g q s same a = record {
  belongs = a.belongs;
  spelled = spelled_stays (D rounds) n at words words' visits visits' g (bits_of n) q s.left
      s.spelled a.spelled;
  stage = stage_stays (D rounds) n at words words' visits visits' g q s same s.stage a.stage;
}

-- A fallback word keeps the law of a binary decision.
use Rattle.std.proofs.Common.{◌≡◌, ◌≢◌, ℕ, ◌+◌, ◌<◌, Bool, true, false, cond, Option, Some, None}
use Rattle.std.proofs.Common.{is_some, IsSome, ◌==◌, inl, inr, ◌⊎◌, arith, refl, sym, ◌∙◌, ap}
use Rattle.std.proofs.Common.{subst}
use Rattle.std.proofs.lemmas.Bool.{cases_eq}
use Rattle.std.proofs.lemmas.Option.{same_Some}
use Rattle.bus_register.specs.declared.registers.Op.{Op}
use Rattle.bus_register.specs.declared.registers.Op.TheVariants.{Cas}
use Rattle.bus_register.specs.Words.{register, after, SumFits}
use Rattle.bus_register.specs.Tables.{Beside, Stepped, of_some}
use Rattle.bus_register.specs.Private.TableLaws.{some_of}
use Rattle.bus_register.specs.Protocol.{Laws, Goes, inputs, outputs}
use Rattle.bus_register.specs.Digits.{digit}
use Rattle.bus_register.proofs.DigitLaws.{digit_same}
use Rattle.bus_binconsensus.specs.declared.fallbacks.Fallback.{Fallback}
use Rattle.bus_binconsensus.specs.Deciding.{Decides}
use Rattle.bus_binconsensus.specs.Fallback.{won_value, op_from, op_of, fed_of, Belongs, Filled}
use Rattle.bus_binconsensus.specs.Fallback.{Keeps, fallback_protocol, left_from}

won_is : (u v : Bool) → won_value (1 + digit u) v ≡ u
won_is true v = refl
won_is false v = refl

nonzero : (u v : Bool) → cond ((1 + digit u) == 0) (1 + digit v) (1 + digit u) ≡ 1 + digit u
nonzero true v = refl
nonzero false v = refl

-- the step, where there is one
step_is : (s : Fallback) (o : Op) (d : Option Bool) → s.decided ≡ d → op_from d s ≡ Some o
    → (s.decided ≡ None) × (o ≡ Cas s.at 0 (1 + digit s.value))
step_is s o None e q = (e, sym (same_Some _ _ q))
step_is s o (Some v) e q = absurd cc

stepped : (s : Fallback) (o : Op) → op_of s ≡ Some o
    → (s.decided ≡ None) × (o ≡ Cas s.at 0 (1 + digit s.value))
stepped s o q = step_is s o s.decided refl q

ends_from : (d : Option Bool) (s : Fallback) → op_from d s ≡ None → IsSome d × (is_some d ≡ true)
ends_from None s e = absurd cc
ends_from (Some v) s e = (refl, refl)

left_is : (d : Option Bool) → d ≡ None → left_from d ≡ 1
left_is None e = refl
left_is (Some v) e = absurd cc

goes_of : (n me at : ℕ) (s : Fallback) (got : ℕ) (o : Op) → Belongs n me at s → op_of s ≡ Some o
    → Goes fallback_protocol n me at o s (fed_of s got)
goes_of n me at s got o b q =
    let a = stepped s o q in
    let place : register o ≡ at = ap register a.1 ∙ ap (λ z. z.0) b.at_is in
    record {
      above = omega arith;
      below = omega arith;
      belongs = record { below = b.below; at_is = b.at_is };
      input = refl;
      begun = refl;
      falls = let e = left_is s.decided a.0 in omega arith;
    }

module _ (n at : ℕ) (words words' : ℕ → ℕ) (old new : ℕ → Option Fallback) (p : ℕ) (s : Fallback)
    (o : Op)
    (k : Keeps n at words old) (here : old p ≡ Some s) (next : op_of s ≡ Some o)
    (goes : new p ≡ Some (fed_of s (words (register o)))) (beside : Beside p old new)
    (step : Stepped at 1 o words words') where
  own : Belongs n p at s
  own = k.inside p s here

  undecided : s.decided ≡ None
  undecided = (stepped s o next).0

  place : register o ≡ at
  place = ap register (stepped s o next).1 ∙ ap (λ z. z.0) own.at_is

  word_after : words' at ≡ cond (words at == 0) (1 + digit s.value) (words at)
  word_after =
      ap words' (sym place) ∙ step.here
      ∙ ap (λ z. after z (words (register o))) (stepped s o next).1
      ∙ ap (λ z. cond (words z == 0) (1 + digit s.value) (words z)) place

  mine : new p ≡ Some (fed_of s (words at))
  mine = goes ∙ ap (λ z. Some (fed_of s (words z))) place

  -- what stands now, and what stood stays
  stood : (Filled (words' at) new) × (words' at ≡ 1 + digit (won_value (words at) s.value))
      × ((words at ≡ 0) ⊎ (words' at ≡ words at))
  stood = elim k.stands [
    | inl z ↦
        let now : words' at ≡ 1 + digit s.value =
        word_after ∙ ap (λ x. cond (x == 0) (1 + digit s.value) x) z in (
          record { by = p; local = fed_of s (words at); here = mine; took = refl; is = now },
          now ∙ ap (λ x. 1 + digit (won_value x s.value)) (sym z),
          inl z,
        )
    | inr f ↦
        let same : words' at ≡ words at =
        word_after ∙ ap (λ x. cond (x == 0) (1 + digit s.value) x) f.is
        ∙ nonzero f.local.value s.value ∙ sym f.is in
        let apart : f.by ≢ p = λ i.
        let e : s ≡ f.local = same_Some _ _ (sym here ∙ ap old (sym i) ∙ f.here) in
        let g : is_some s.decided ≡ true = ap (λ z. is_some z.decided) e ∙ f.took in
        let h : is_some s.decided ≡ false = ap is_some undecided in cc in (
          record {
            by = f.by;
            local = f.local;
            here = beside f.by apart ∙ f.here;
            took = f.took;
            is = same ∙ f.is;
          },
          same ∙ f.is ∙ ap (λ x. 1 + digit x) (sym (won_is f.local.value s.value))
              ∙ ap (λ x. 1 + digit (won_value x s.value)) (sym f.is),
          inr same,
        )
  ]

  is_mine : (q : ℕ) (t : Fallback) → new q ≡ Some t → q ≡ p → t ≡ fed_of s (words at)
  is_mine q t e i = same_Some _ _ (sym e ∙ ap new i ∙ mine)

  moves_keep : Keeps n at words' new
  moves_keep = record {
    inside = λ q t e. elim (cases_eq q p) [
      | inl i ↦ subst (λ z. Belongs n q at z) (sym (is_mine q t e i)) record {
        below = subst (λ z. z < n) (sym i) own.below;
        at_is = own.at_is;
      }
      | inr ne ↦ k.inside q t (sym (beside q ne) ∙ e)
    ];
    stands = inr stood.0;
    decided = λ q t v e d. elim (cases_eq q p) [
      | inl i ↦
          stood.1
          ∙ ap (λ z. 1 + digit z) (same_Some _ _ (ap (λ z. z.decided) (sym (is_mine q t e i)) ∙ d))
      | inr ne ↦
          let before = k.decided q t v (sym (beside q ne) ∙ e) d in
          elim stood.2 [ inl z ↦ absurd (omega arith) | inr same ↦ same ∙ before ]
    ];
  }

enters_keep : (n at : ℕ) (words : ℕ → ℕ) (old new : ℕ → Option Fallback) (p : ℕ) (v : Bool)
    → Keeps n at words old → p < n → old p ≡ None
    → new p ≡ Some (fallback_protocol.started n p v at) → Beside p old new → Keeps n at words new
enters_keep n at words old new p v k below none goes beside = record {
  inside = λ q t e. elim (cases_eq q p) [
    | inl i ↦ subst (λ z. Belongs n q at z) (same_Some _ _ (sym goes ∙ ap new (sym i) ∙ e))
        record { below = subst (λ z. z < n) (sym i) below; at_is = refl }
    | inr ne ↦ k.inside q t (sym (beside q ne) ∙ e)
  ];
  stands = elim k.stands [
    | inl z ↦ inl z
    | inr f ↦ inr record {
      by = f.by;
      local = f.local;
      took = f.took;
      is = f.is;
      here = beside f.by (λ i. let e = sym none ∙ ap old (sym i) ∙ f.here in cc) ∙ f.here;
    }
  ];
  decided = λ q t w e d. elim (cases_eq q p) [
    | inl i ↦ absurd (let x = same_Some _ _ (sym goes ∙ ap new (sym i) ∙ e) in
        let y = ap (λ z. z.decided) x ∙ d in cc)
    | inr ne ↦ k.decided q t w (sym (beside q ne) ∙ e) d
  ];
}

decides : (n at : ℕ) (words : ℕ → ℕ) (locals : ℕ → Option Fallback) → Keeps n at words locals
    → Decides (inputs fallback_protocol locals) (outputs fallback_protocol locals)
decides n at words locals k = record {
  agrees = λ p q v w e f.
      let a = some_of (λ s. s.decided) (locals p) v e in
      let b = some_of (λ s. s.decided) (locals q) w f in
      digit_same v w
      (let x = k.decided p a.0 v a.1 a.2 in let y = k.decided q b.0 w b.1 b.2 in omega arith);
  chosen = λ p v e.
      let a = some_of (λ s. s.decided) (locals p) v e in
      let x = k.decided p a.0 v a.1 a.2 in
      elim k.stands [
        | inl z ↦ absurd (omega arith)
        | inr f ↦ (
          f.by,
          ap (of_some (λ s. cond (is_some s.decided) (Some s.value) None)) f.here
              ∙ ap (λ z. cond z (Some f.local.value) None) f.took
              ∙ ap Some (digit_same f.local.value v (let i = f.is in omega arith)),
        )
      ];
}

pub fallback_laws : Laws (λ s word. op_of s) (λ s got word. fed_of s got) fallback_protocol Decides
fallback_laws = record {
  starts = λ n me at v below few. record {
    belongs = record { below = below; at_is = refl };
    input = refl;
    fresh = refl;
    bounded = omega arith;
  };
  goes = λ n me at s got word o b q. goes_of n me at s got o b q;
  ends = λ s word e. ends_from s.decided s e;
  unended = λ s word o q. (stepped s o q).0;
  unmoved = λ s got word word' e. (refl, refl);
  blind = λ s got got' word o q (r, x, e). let h = sym (stepped s o q).1 ∙ e in absurd cc;
  fresh = λ n at words agree. record {
    inside = λ p s e. absurd cc;
    stands = inl (agree at (omega arith) (omega arith));
    decided = λ p s v e d. absurd cc;
  };
  enters = λ n at words old new p v k below few none goes beside.
      enters_keep n at words old new p v k below none goes beside;
  moves = λ n at words words' old new p s word o k here next goes beside step.
      moves_keep n at words words' old new p s o k here next goes beside step;
  fits = λ n at words locals p s word o k here q.
      subst (λ z. SumFits z (words (register o))) (sym (stepped s o q).1) tt;
  frame = λ n at words words' old new k agree same.
      let w : words' at ≡ words at = agree at (omega arith) (omega arith) in record {
        inside = λ p s e. k.inside p s (sym (same p) ∙ e);
        stands = elim k.stands [
          | inl z ↦ inl (w ∙ z)
          | inr f ↦ inr record {
            by = f.by;
            local = f.local;
            here = same f.by ∙ f.here;
            took = f.took;
            is = w ∙ f.is;
          }
        ];
        decided = λ p s v e d. w ∙ k.decided p s v (sym (same p) ∙ e) d;
      };
  known = λ n at words locals p s k e. let b = k.inside p s e in (b.below, b);
  outcome = decides;
}

-- Words of zero, and a process that comes to its start.
use Rattle.std.proofs.Common.{◌≡◌, ◌≢◌, ℕ, ◌+◌, ◌*◌, ◌<◌, ◌≤◌, Bool, Option, Some, None, inl, inr}
use Rattle.std.proofs.Common.{arith, refl, sym, ◌∙◌, ap, subst}
use Rattle.std.proofs.lemmas.Bool.{cases_eq}
use Rattle.std.proofs.lemmas.Option.{same_Some}
use Rattle.bus_register.specs.Tables.{Beside, Agree}
use Rattle.bus_register.proofs.DigitLaws.{digit_le}
use Rattle.bus_adoptcommit.specs.TwoCollect.{Local, start_of}
use Rattle.bus_adoptcommit.specs.TwoCollectKeeps.{Belongs, Mark, mark, proposal_word, verdict_word}
use Rattle.bus_adoptcommit.specs.TwoCollectKeeps.{Split, Committed, AgreeAlike, MeetsCommit}
use Rattle.bus_adoptcommit.specs.TwoCollectKeeps.{SeesOwn, Holds, Keeps}
use Rattle.bus_adoptcommit.specs.Private.TwoCollectMarkLaws.{proposal_none, verdict_none}
use Rattle.bus_adoptcommit.specs.Private.TwoCollectMarkLaws.{at_each_of, each_of, pairs_of}

-- nobody has taken a step
blank_holds : (n : ℕ) → Holds n (λ _. mark None)
blank_holds n = record {
  bounded = λ p. omega arith;
  value_bit = λ p. omega arith;
  agreed_bit = λ p. omega arith;
  only_bit = λ p. omega arith;
  alike = λ p q a b x y u v. absurd (omega arith);
  meets = λ p q a b x y u v. absurd (omega arith);
  own = λ p a x. absurd (omega arith);
  seen = λ p v e. absurd (omega arith);
  differs = λ p e. absurd (omega arith);
  differed = λ p e. absurd (omega arith);
}

-- words of zero, and nobody
pub fresh_keep : (n at : ℕ) (words : ℕ → ℕ) → Agree at (2 * n) (λ _. 0) words
    → Keeps n at words (λ _. None)
fresh_keep n at words zero = record {
  inside = λ p s e. absurd cc;
  proposal_words =
      λ p l. zero (at + p) (omega arith) (omega arith) ∙ sym (proposal_none (mark None) refl);
  verdict_words = λ p l.
      zero (at + n + p) (omega arith) (omega arith)
      ∙ sym (verdict_none n (mark None) (omega arith));
  holds = blank_holds n;
}

-- a process at its start
pub record Starting (m : Mark) : Type 0 where
  pub taken : m.taken ≡ 0
  pub value : m.value ≤ 1
  pub agreed : m.agreed ≡ 1
  pub commit : m.commit ≡ 0
  pub only : m.only ≡ 1

module _ (n p : ℕ) (m m' : ℕ → Mark) (others : (q : ℕ) → q ≢ p → m' q ≡ m q)
    (before : Starting (m p)) (now : Starting (m' p)) (h : Holds n m) where
  -- no word changes
  proposal_same : (q : ℕ) → proposal_word (m' q) ≡ proposal_word (m q)
  proposal_same = at_each_of p m m' others (λ q. proposal_word (m' q) ≡ proposal_word (m q))
      (proposal_none _ now.taken ∙ sym (proposal_none _ before.taken))
      (λ q ne. ap proposal_word (others q ne))

  verdict_same : (q : ℕ) → verdict_word n (m' q) ≡ verdict_word n (m q)
  verdict_same = at_each_of p m m' others (λ q. verdict_word n (m' q) ≡ verdict_word n (m q))
      (verdict_none n _ (let z = now.taken in omega arith)
      ∙ sym (verdict_none n _ (let z = before.taken in omega arith)))
      (λ q ne. ap (verdict_word n) (others q ne))

  -- so what is said of stored words stays
  split_same : Split n m → Split n m'
  split_same s = record {
    low = s.low;
    high = s.high;
    low_below = s.low_below;
    high_below = s.high_below;
    low_is = proposal_same s.low ∙ s.low_is;
    high_is = proposal_same s.high ∙ s.high_is;
  }

  committed_same : (v : ℕ) → Committed n m v → Committed n m' v
  committed_same v s = record { by = s.by; below = s.below; is = verdict_same s.by ∙ s.is }

  each : (R : ℕ → Mark → Type 0) → ((q : ℕ) → R q (m q)) → R p (m' p) → (q : ℕ) → R q (m' q)
  each = each_of p m m' others

  -- what holds of the marks holds with one process more at its start
  pub enter_holds : Holds n m'
  enter_holds =
      let t = now.taken in let a = now.agreed in let c = now.commit in let o = now.only in
      record {
        bounded = each (λ q x. x.taken ≤ 2 + n + n) h.bounded (omega arith);
        value_bit = each (λ q x. x.value ≤ 1) h.value_bit now.value;
        agreed_bit = each (λ q x. x.agreed ≤ 1) h.agreed_bit (omega arith);
        only_bit = each (λ q x. x.only ≤ 1) h.only_bit (omega arith);
        alike = pairs_of p m m' others (AgreeAlike n) h.alike (λ a b x y u v. refl)
            (λ q a b x y u v. absurd (omega arith)) (λ q a b x y u v. absurd (omega arith));
        meets = pairs_of p m m' others (MeetsCommit n) h.meets (λ a b x y u v. inr u)
            (λ q a b x y u v. absurd (omega arith)) (λ q a b x y u v. absurd (omega arith));
        own = each (SeesOwn n) h.own (λ a x. absurd (omega arith));
        seen = each (λ q x. (v : ℕ) → x.commit ≡ 1 + v → Committed n m' v)
            (λ q v e. committed_same v (h.seen q v e)) (λ v e. absurd (omega arith));
        differs = each (λ q x. x.agreed ≡ 0 → Split n m') (λ q e. split_same (h.differs q e))
            (λ e. absurd (omega arith));
        differed = each (λ q x. x.only ≡ 0 → Split n m') (λ q e. split_same (h.differed q e))
            (λ e. absurd (omega arith));
      }

-- one process more at its start
pub enters_keep : (n at : ℕ) (words : ℕ → ℕ) (old new : ℕ → Option Local) (p : ℕ) (v : Bool)
    → Keeps n at words old → p < n → old p ≡ None → new p ≡ Some (start_of n p v at)
    → Beside p old new → Keeps n at words new
enters_keep n at words old new p v k below none start beside =
    let M : ℕ → Mark = λ q. mark (old q) in
    let M' : ℕ → Mark = λ q. mark (new q) in
    let others : (q : ℕ) → q ≢ p → M' q ≡ M q = λ q ne. ap mark (beside q ne) in
    let blank : Starting (mark None) = record {
      taken = refl;
      value = omega arith;
      agreed = refl;
      commit = refl;
      only = refl;
    } in
    let started : Starting (mark (Some (start_of n p v at))) = record {
      taken = refl;
      value = digit_le v;
      agreed = refl;
      commit = refl;
      only = refl;
    } in
    let before : Starting (M p) = subst (λ z. Starting (mark z)) (sym none) blank in
    let now : Starting (M' p) = subst (λ z. Starting (mark z)) (sym start) started in
    record {
      inside = λ q u e. elim (cases_eq q p) [
        | inl i ↦ subst (λ z. (z < n) × Belongs n z at u) (sym i) (
          below,
          subst (Belongs n p at) (same_Some _ _ (sym start ∙ ap new (sym i) ∙ e)) record {
            n_is = refl;
            me_is = refl;
            at_is = refl;
            below = below;
            fits = tt;
          },
        )
        | inr ne ↦ k.inside q u (sym (beside q ne) ∙ e)
      ];
      proposal_words =
          λ q l. k.proposal_words q l ∙ sym (proposal_same n p M M' others before now k.holds q);
      verdict_words =
          λ q l. k.verdict_words q l ∙ sym (verdict_same n p M M' others before now k.holds q);
      holds = enter_holds n p M M' others before now k.holds;
    }

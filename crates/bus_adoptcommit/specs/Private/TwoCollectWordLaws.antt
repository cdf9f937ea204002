-- What a process makes of one word.
use Rattle.std.proofs.Common.{◌≡◌, ◌≢◌, ℕ, ◌+◌, ◌<◌, ◌≤◌, Bool, true, false, Option, Some, None}
use Rattle.std.proofs.Common.{◌⊎◌, inl, inr, arith, ap, refl}
use Rattle.std.proofs.lemmas.Bool.Decides.{eqb_tells}
use Rattle.bus_register.specs.Digits.{digit}
use Rattle.bus_register.proofs.DigitLaws.{digit_le}
use Rattle.bus_adoptcommit.specs.declared.verdicts.Verdict.{Verdict}
use Rattle.bus_adoptcommit.specs.declared.verdicts.Verdict.TheVariants.{Commit, Adopt}
use Rattle.bus_adoptcommit.specs.TwoCollect.{verdict_code, verdict_in, agreed_after, only_with}
use Rattle.bus_adoptcommit.specs.TwoCollect.{commit_with}
use Rattle.bus_adoptcommit.specs.TwoCollectKeeps.{commit_number}

-- one word of the proposals: nothing or the own one, or another
agreed_cases : (input : Bool) (got : ℕ) (agreed : Bool)
    → (((got ≡ 0) ⊎ (got ≡ 1 + digit input)) × (agreed_after input got agreed ≡ agreed))
    ⊎ ((0 < got) × (got ≢ 1 + digit input) × (agreed_after input got agreed ≡ false))
agreed_cases input got agreed = elim (eqb_tells got 0) [
  | inl h ↦ inl (inl h.1, rw h.0)
  | inr h ↦ elim (eqb_tells got (1 + digit input)) [
    | inl k ↦ inl (inr k.1, rw (h.0, k.0))
    | inr k ↦ inr (let z = h.1 in omega arith, k.1, rw (h.0, k.0))
  ]
]

-- so much follows for the bit that says whether it still agrees
pub agreed_less : (input : Bool) (got : ℕ) (agreed : Bool)
    → digit (agreed_after input got agreed) ≤ digit agreed
agreed_less input got agreed = elim (agreed_cases input got agreed) [
  | inl h ↦ rw h.1 (omega arith)
  | inr h ↦ rw h.2 (omega arith)
]

pub agreed_saw : (input : Bool) (got : ℕ) (agreed : Bool)
    → digit (agreed_after input got agreed) ≡ 1 → (got ≡ 0) ⊎ (got ≡ 1 + digit input)
agreed_saw input got agreed e = elim (agreed_cases input got agreed) [
  | inl h ↦ h.0
  | inr h ↦ absurd (let z = ap digit h.2 in omega arith)
]

pub agreed_missed : (input : Bool) (got : ℕ) (agreed : Bool) → digit agreed ≡ 1
    → digit (agreed_after input got agreed) ≡ 0 → (0 < got) × (got ≢ 1 + digit input)
agreed_missed input got agreed u e = elim (agreed_cases input got agreed) [
  | inl h ↦ absurd (let z = ap digit h.1 in omega arith)
  | inr h ↦ (h.0, h.1)
]

-- one word of the verdicts: nothing, or a verdict
verdict_cases : (got : ℕ) → got ≤ 4
    → ((got ≡ 0) × (verdict_in got ≡ None))
    ⊎ ((d : Verdict) × (got ≡ verdict_code d) × (verdict_in got ≡ Some d))
verdict_cases got h = elim (eqb_tells got 1) [
  | inl a ↦ inr (Adopt false, a.1, rw a.0)
  | inr a ↦ elim (eqb_tells got 2) [
    | inl b ↦ inr (Adopt true, b.1, rw (a.0, b.0))
    | inr b ↦ elim (eqb_tells got 3) [
      | inl c ↦ inr (Commit false, c.1, rw (a.0, b.0, c.0))
      | inr c ↦ elim (eqb_tells got 4) [
        | inl d ↦ inr (Commit true, d.1, rw (a.0, b.0, c.0, d.0))
        | inr d ↦ inl (
          let x = a.1 in let y = b.1 in let z = c.1 in let w = d.1 in omega arith,
          rw (a.0, b.0, c.0, d.0),
        )
      ]
    ]
  ]
]

-- what one word of the verdicts is, and what it makes of the commit seen and of the commits alone
pub record Reads (got commit commit' only only' : ℕ) : Type 0 where
  pub less : only' ≤ only
  pub saw : only' ≡ 1 → (got ≡ 0) ⊎ (3 ≤ got)
  pub missed : only ≡ 1 → only' ≡ 0 → (0 < got) × (got < 3)
  pub stays : 0 < commit → 0 < commit'
  pub new : ((3 ≤ got) × (commit' + 2 ≡ got)) ⊎ ((got < 3) × (commit' ≡ commit))

-- a verdict
reads_verdict : (d : Verdict) (c : Option Bool) (only : Bool)
    → Reads (verdict_code d) (commit_number c) (commit_number (commit_with (Some d) c)) (digit only)
    (digit (only_with (Some d) only))
reads_verdict (Adopt v) c only = let l = digit_le v in record {
  less = omega arith;
  saw = λ e. absurd (omega arith);
  missed = λ u e. (omega arith, omega arith);
  stays = λ z. z;
  new = inr (omega arith, refl);
}
reads_verdict (Commit v) c only = record {
  less = omega arith;
  saw = λ e. inr (omega arith);
  missed = λ u e. absurd (omega arith);
  stays = λ z. omega arith;
  new = inl (omega arith, omega arith);
}

-- any word that processes store
pub reads : (got : ℕ) (c : Option Bool) (only : Bool) → got ≤ 4
    → Reads got (commit_number c) (commit_number (commit_with (verdict_in got) c)) (digit only)
    (digit (only_with (verdict_in got) only))
reads got c only h = elim (verdict_cases got h) [
  | inl z ↦ rw z.1 record {
    less = omega arith;
    saw = λ e. inl z.0;
    missed = λ u e. absurd (omega arith);
    stays = λ x. x;
    new = inr (let e = z.0 in omega arith, refl);
  }
  | inr z ↦ rw (z.2, z.1) (reads_verdict z.0 c only)
]

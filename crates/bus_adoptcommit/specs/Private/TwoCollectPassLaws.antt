-- A step of the code is a step of the marks.
use Rattle.std.proofs.Common.{◌≡◌, ◌≢◌, ℕ, ◌+◌, ◌<◌, ◌≤◌, Some, ◌⊎◌, inl, inr, arith, refl, sym}
use Rattle.std.proofs.Common.{◌∙◌, ap, subst}
use Rattle.std.proofs.lemmas.Bool.{cases_lt}
use Rattle.std.proofs.lemmas.Option.{same_Some}
use Rattle.bus_register.specs.declared.registers.Op.{Op}
use Rattle.bus_register.specs.Words.{register}
use Rattle.bus_register.specs.Digits.{digit}
use Rattle.bus_register.proofs.DigitLaws.{digit_le}
use Rattle.bus_adoptcommit.specs.declared.phases.Phase.{Phase}
use Rattle.bus_adoptcommit.specs.declared.phases.Phase.TheVariants.{WriteFirst, ReadFirst}
use Rattle.bus_adoptcommit.specs.declared.phases.Phase.TheVariants.{WriteSecond, ReadSecond, Ended}
use Rattle.bus_adoptcommit.specs.TwoCollect.{Local, PhaseFits, op_at, fed_at, taken_at}
use Rattle.bus_adoptcommit.specs.TwoCollectKeeps.{Mark, mark_of, commit_number, proposal_word}
use Rattle.bus_adoptcommit.specs.TwoCollectKeeps.{verdict_word, Holds}
use Rattle.bus_adoptcommit.specs.Private.TwoCollectMarkLaws.{Pass, verdict_none, verdict_some}
use Rattle.bus_adoptcommit.specs.Private.TwoCollectWordLaws.{agreed_less, agreed_saw, agreed_missed}
use Rattle.bus_adoptcommit.specs.Private.TwoCollectWordLaws.{reads}
use Rattle.bus_adoptcommit.specs.Private.TwoCollectStepLaws.{advances_at}

-- the mark of s, were it at this phase
abbrev pub mark_at : Phase → Local → Mark
mark_at ph s = record {
  taken = taken_at s.n ph;
  value = digit s.input;
  agreed = digit s.agreed;
  commit = commit_number s.commit;
  only = digit s.only_commits;
}

-- no word of a verdict is above 4
verdict_small : (n : ℕ) (m : ℕ → Mark) → Holds n m → (q : ℕ) → verdict_word n (m q) ≤ 4
verdict_small n m h q = elim (cases_lt (1 + n) (m q).taken) [
  | inl l ↦
      (let z = verdict_some n (m q) l in
      let a = h.agreed_bit q in let b = h.value_bit q in omega arith)
  | inr g ↦ (let z = verdict_none n (m q) g in omega arith)
]

-- a step that tells nothing of another process
quiet : (n : ℕ) (m : ℕ → Mark) (x : Mark) → (x.taken ≡ 0) ⊎ (x.taken ≡ 1 + n) → x.value ≤ 1
    → Pass n m x record x { taken = 1 + x.taken }
quiet n m x now small = record {
  more = refl;
  room = omega arith;
  value = refl;
  value_bit = small;
  agreed_less = omega arith;
  agreed_kept = λ _. refl;
  agreed_saw = λ q l k u. absurd (omega arith);
  agreed_missed = λ q l k u v. absurd (omega arith);
  only_less = omega arith;
  only_kept = λ _. refl;
  only_saw = λ q l k u. absurd (omega arith);
  only_missed = λ q l k u v. absurd (omega arith);
  commit_kept = λ _. refl;
  commit_stays = λ z. z;
  commit_new = λ q l k. absurd (omega arith);
}

-- the step at each phase
pub pass_at : (ph : Phase) (m : ℕ → Mark) (s : Local) (o : Op) (got : ℕ) → Holds s.n m → s.me < s.n
    → PhaseFits s.n ph → op_at ph s ≡ Some o
    → ((q : ℕ) → q < s.n → register o ≡ s.at + q → got ≡ proposal_word (m q))
    → ((q : ℕ) → q < s.n → register o ≡ s.at + s.n + q → got ≡ verdict_word s.n (m q))
    → Pass s.n m (mark_at ph s) (mark_of (fed_at ph s got))
pass_at WriteFirst m s o got h below f e a b =
    quiet s.n m (mark_at WriteFirst s) (inl refl) (digit_le s.input)
pass_at (ReadFirst of) m s o got h below f e a b =
    let place : register o ≡ s.at + of = ap register (sym (same_Some _ _ e)) in
    let read = a of f place in
    let step = advances_at (ReadFirst of) s got o below f e in
    let saw = agreed_saw s.input got s.agreed in
    let missed = agreed_missed s.input got s.agreed in
    record {
      more = step.more;
      room = omega arith;
      value = refl;
      value_bit = digit_le s.input;
      agreed_less = agreed_less s.input got s.agreed;
      agreed_kept = λ c. absurd (omega arith);
      agreed_saw = λ q l k u.
          let same : of ≡ q = omega arith in
          subst (λ z. (z ≡ 0) ⊎ (z ≡ 1 + digit s.input)) (read ∙ ap (λ z. proposal_word (m z)) same)
          (saw u);
      agreed_missed = λ q l k u v.
          let same : of ≡ q = omega arith in
          subst (λ z. (0 < z) × (z ≢ 1 + digit s.input)) (read ∙ ap (λ z. proposal_word (m z)) same)
          (missed u v);
      only_less = omega arith;
      only_kept = λ _. refl;
      only_saw = λ q l k u. absurd (omega arith);
      only_missed = λ q l k u v. absurd (omega arith);
      commit_kept = λ _. refl;
      commit_stays = λ z. z;
      commit_new = λ q l k. absurd (omega arith);
    }
pass_at WriteSecond m s o got h below f e a b = subst
    (λ z. Pass s.n m (mark_at WriteSecond s) record (mark_at WriteSecond s) { taken = z })
    (omega arith) (quiet s.n m (mark_at WriteSecond s) (inr refl) (digit_le s.input))
pass_at (ReadSecond of) m s o got h below f e a b =
    let place : register o ≡ s.at + s.n + of = ap register (sym (same_Some _ _ e)) in
    let read = b of f place in
    let small : got ≤ 4 = let z = verdict_small s.n m h of in omega arith in
    let step = advances_at (ReadSecond of) s got o below f e in
    let r = reads got s.commit s.only_commits small in
    let commit = commit_number (fed_at (ReadSecond of) s got).commit in
    record {
      more = step.more;
      room = omega arith;
      value = refl;
      value_bit = digit_le s.input;
      agreed_less = omega arith;
      agreed_kept = λ _. refl;
      agreed_saw = λ q l k u. absurd (omega arith);
      agreed_missed = λ q l k u v. absurd (omega arith);
      only_less = r.less;
      only_kept = λ k. absurd (omega arith);
      only_saw = λ q l k u.
          let same : of ≡ q = omega arith in
          subst (λ z. (z ≡ 0) ⊎ (3 ≤ z)) (read ∙ ap (λ z. verdict_word s.n (m z)) same) (r.saw u);
      only_missed = λ q l k u v.
          let same : of ≡ q = omega arith in
          subst (λ z. (0 < z) × (z < 3)) (read ∙ ap (λ z. verdict_word s.n (m z)) same)
          (r.missed u v);
      commit_kept = λ k. absurd (omega arith);
      commit_stays = r.stays;
      commit_new = λ q l k. let same : of ≡ q = omega arith in
          subst (λ z. ((3 ≤ z) × (commit + 2 ≡ z)) ⊎ ((z < 3) × (commit ≡ commit_number s.commit)))
          (read ∙ ap (λ z. verdict_word s.n (m z)) same) r.new;
    }
pass_at Ended m s o got h below f e a b = absurd cc

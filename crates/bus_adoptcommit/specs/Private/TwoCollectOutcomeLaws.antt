-- What two collects keep makes their outputs legal.
use Rattle.std.proofs.Common.{◌≡◌, ℕ, ◌+◌, ◌<◌, Bool, true, false, cond, Option, Some, None, inl}
use Rattle.std.proofs.Common.{inr, arith, refl, sym, ◌∙◌, ap, subst}
use Rattle.std.proofs.lemmas.Bool.{cases_lt, true≢false, lt-ltb}
use Rattle.std.proofs.lemmas.Option.{same_Some}
use Rattle.bus_register.specs.Digits.{digit}
use Rattle.bus_register.proofs.DigitLaws.{digit_same}
use Rattle.bus_adoptcommit.specs.declared.phases.Phase.{Phase}
use Rattle.bus_adoptcommit.specs.declared.phases.Phase.TheVariants.{WriteFirst, ReadFirst}
use Rattle.bus_adoptcommit.specs.declared.phases.Phase.TheVariants.{WriteSecond, ReadSecond, Ended}
use Rattle.bus_adoptcommit.specs.declared.verdicts.Verdict.{Verdict}
use Rattle.bus_adoptcommit.specs.declared.verdicts.Verdict.TheVariants.{Commit}
use Rattle.bus_adoptcommit.specs.Agreement.{value_of, IsValid, IsConvergent, IsCoherent, Legal}
use Rattle.bus_register.specs.Protocol.{counted_input, inputs, outputs}
use Rattle.bus_register.specs.Private.TableLaws.{some_of}
use Rattle.bus_register.specs.Tables.{of_some}
use Rattle.bus_adoptcommit.specs.TwoCollect.{Local, taken_at, output_at, output_of, verdict_from}
use Rattle.bus_adoptcommit.specs.TwoCollectKeeps.{Mark, mark, commit_number, proposal_word, Split}
use Rattle.bus_adoptcommit.specs.TwoCollectKeeps.{Committed, Holds, Keeps, two_collect}
use Rattle.bus_adoptcommit.specs.Private.TwoCollectMarkLaws.{proposal_none, proposal_some}
use Rattle.bus_adoptcommit.specs.Private.TwoCollectMarkLaws.{verdict_none, verdict_some}

-- ── processes that have ended ──
module _ (n : ℕ) (m : ℕ → Mark) (h : Holds n m) where
  -- who proposes a commit
  record Committer (r v : ℕ) : Type 0 where
    below : r < n
    stored : 1 + n < (m r).taken
    agreed : (m r).agreed ≡ 1
    value : (m r).value ≡ v

  -- who stored a commit agreed on its value
  committer : (v : ℕ) → (c : Committed n m v) → Committer c.by v
  committer v c =
      let e = c.is in let a = h.agreed_bit c.by in let b = h.value_bit c.by in
      elim (cases_lt (1 + n) (m c.by).taken) [
        | inl l ↦
            let z = verdict_some n (m c.by) l in
            record { below = c.below; stored = l; agreed = omega arith; value = omega arith }
        | inr g ↦ absurd (let z = verdict_none n (m c.by) g in omega arith)
      ]

  -- a commit that anyone has seen has the value of each that proposes one
  commit_is : (q u p v : ℕ) → (m q).commit ≡ 1 + u → Committer p v → u ≡ v
  commit_is q u p v e a =
      let c = h.seen q u e in let b = committer u c in
      let la = a.below in let lb = b.below in let sa = a.stored in let sb = b.stored in
      sym b.value ∙ h.alike c.by p b.below a.below (omega arith) (omega arith) b.agreed a.agreed
      ∙ a.value

  module _ (p : ℕ) (below : p < n) (ended : (m p).taken ≡ 2 + n + n) where
    -- a process that ended and saw only commits stored one
    committing : (m p).only ≡ 1 → Committer p (m p).value
    committing o = record {
      below = below;
      stored = omega arith;
      value = refl;
      agreed =
          elim (cases_lt 0 (m p).agreed) [
            | inl l ↦ (let z = h.agreed_bit p in omega arith)
            | inr g ↦ absurd (let z = (h.own p below (omega arith)).1 (omega arith) in omega arith)
          ];
    }

    -- a process that ended and stored a commit has seen one
    commits : Committer p (m p).value → 0 < (m p).commit
    commits a = (h.own p below (omega arith)).0 a.agreed

    -- whoever ended after a commit has seen one
    met : (q : ℕ) → q < n → (m q).taken ≡ 2 + n + n → (m p).only ≡ 1 → 0 < (m q).commit
    met q l e o = elim (h.meets p q below l (omega arith) (omega arith) (committing o).agreed o) [
      | inl z ↦ z
      | inr z ↦ (h.own q l (omega arith)).0 z
    ]

-- ── the local states ──
output_ended : (ph : Phase) (s : Local) (d : Verdict) → output_at ph s ≡ Some d
    → (ph ≡ Ended) × (verdict_from s.commit s.only_commits s.input ≡ d)
output_ended WriteFirst s d e = absurd cc
output_ended (ReadFirst of) s d e = absurd cc
output_ended WriteSecond s d e = absurd cc
output_ended (ReadSecond of) s d e = absurd cc
output_ended Ended s d e = (refl, same_Some _ _ e)

-- a process that has taken a step counts with its input
counts : (o : Option Local) (w : Bool) → 0 < (mark o).taken → (mark o).value ≡ digit w
    → of_some (counted_input two_collect) o ≡ Some w
counts None w l e = absurd (omega arith)
counts (Some s) w l e =
    ap (λ b. cond b (Some s.input) None) (lt-ltb 0 (taken_at s.n s.phase) l)
    ∙ ap Some (digit_same s.input w e)

-- a number above 0 is that of a commit
commit_some : (c : Option Bool) → 0 < commit_number c → (w : Bool) × (c ≡ Some w)
commit_some None l = absurd (omega arith)
commit_some (Some w) l = (w, refl)

-- 1 is that of true
only_true : (b : Bool) → digit b ≡ 1 → b ≡ true
only_true true e = refl
only_true false e = absurd (omega arith)

-- a commit comes of a commit that was seen, and of nothing else
commit_from : (c : Option Bool) (only input v : Bool) → verdict_from c only input ≡ Commit v
    → (c ≡ Some v) × (only ≡ true)
commit_from None only input v e = absurd cc
commit_from (Some w) true input v e = (let z : w ≡ v = cc in ap Some z, refl)
commit_from (Some w) false input v e = absurd cc

-- the verdict of a process that saw a commit has its value
value_from : (w only input : Bool) → value_of (verdict_from (Some w) only input) ≡ w
value_from w true input = refl
value_from w false input = refl

module _ (n at : ℕ) (words : ℕ → ℕ) (locals : ℕ → Option Local) (k : Keeps n at words locals) where
  -- the marks
  abbrev M : ℕ → Mark
  M q = mark (locals q)

  -- a process with an output
  record Done (p : ℕ) (d : Verdict) : Type 0 where
    s : Local
    here : locals p ≡ Some s
    below : p < n
    taken : (mark (locals p)).taken ≡ 2 + n + n
    is : verdict_from s.commit s.only_commits s.input ≡ d

  -- an output is that of a process that has ended
  done : (p : ℕ) (d : Verdict) → outputs two_collect locals p ≡ Some d → Done p d
  done p d e =
      let a = some_of output_of (locals p) d e in
      let b = output_ended a.0.phase a.0 d a.2 in
      let i = k.inside p a.0 a.1 in
      record {
        s = a.0;
        here = a.1;
        below = i.0;
        taken =
            ap (λ z. (mark z).taken) a.1 ∙ ap (taken_at a.0.n) b.0 ∙ ap (λ z. 2 + z + z) i.1.n_is;
        is = b.1;
      }

  -- the input of a process that has taken a step
  counts_at : (p : ℕ) (w : Bool) → 0 < (mark (locals p)).taken → (mark (locals p)).value ≡ digit w
      → inputs two_collect locals p ≡ Some w
  counts_at p w l e = counts (locals p) w l e

  -- the verdict's value is an input
  valid_from : (p : ℕ) (s : Local) → locals p ≡ Some s → (mark (locals p)).taken ≡ 2 + n + n
      → (c : Option Bool) → s.commit ≡ c
      → (q : ℕ)
      × (inputs two_collect locals q ≡ Some (value_of (verdict_from c s.only_commits s.input)))
  valid_from p s here taken None e = (
    p,
    counts_at p s.input (omega arith) (ap (λ z. (mark z).value) here),
  )
  valid_from p s here taken (Some w) e =
      let c = k.holds.seen p (digit w) (ap (λ z. (mark z).commit) here ∙ ap commit_number e) in
      let a = committer n M k.holds (digit w) c in (
        c.by,
        counts_at c.by w (let z = a.stored in omega arith) a.value
            ∙ ap Some (sym (value_from w s.only_commits s.input)),
      )

  valid : IsValid (inputs two_collect locals) (outputs two_collect locals)
  valid p d e =
      let o = done p d e in
      let v = valid_from p o.s o.here o.taken o.s.commit refl in
      (v.0, v.1 ∙ ap (λ z. Some (value_of z)) o.is)

  coherent : IsCoherent (outputs two_collect locals)
  coherent p q v d e f =
      let o = done p (Commit v) e in let u = done q d f in
      let c = commit_from o.s.commit o.s.only_commits o.s.input v o.is in
      let only : (mark (locals p)).only ≡ 1 = ap (λ z. (mark z).only) o.here ∙ ap digit c.1 in
      let a = committing n M k.holds p o.below o.taken only in
      let mine = commit_is n M k.holds p (digit v) p (mark (locals p)).value
      (ap (λ z. (mark z).commit) o.here ∙ ap commit_number c.0) a in
      let some = met n M k.holds p o.below o.taken q u.below u.taken only in
      let w = commit_some u.s.commit (subst (λ z. 0 < (mark z).commit) u.here some) in
      let theirs = commit_is n M k.holds q (digit w.0) p (mark (locals p)).value
      (ap (λ z. (mark z).commit) u.here ∙ ap commit_number w.1) a in
      ap value_of (sym u.is) ∙ ap (λ z. value_of (verdict_from z u.s.only_commits u.s.input)) w.1
      ∙ value_from w.0 u.s.only_commits u.s.input ∙ digit_same w.0 v (theirs ∙ sym mine)

  -- who stored a proposal
  stored : (q v : ℕ) → proposal_word (mark (locals q)) ≡ 1 + v
      → (0 < (mark (locals q)).taken) × ((mark (locals q)).value ≡ v)
  stored q v e = elim (cases_lt 0 (mark (locals q)).taken) [
    | inl l ↦ (l, let z = proposal_some (mark (locals q)) l in omega arith)
    | inr g ↦ absurd (let z = proposal_none (mark (locals q)) (omega arith) in omega arith)
  ]

  -- where all inputs are v, no two proposals differ
  unsplit : (v : Bool) → ((q : ℕ) (w : Bool) → inputs two_collect locals q ≡ Some w → w ≡ v)
      → Split n M → ⊥
  unsplit v all s =
      let low = stored s.low 0 s.low_is in let high = stored s.high 1 s.high_is in
      true≢false (all s.high true (counts_at s.high true high.0 high.1)
      ∙ sym (all s.low false (counts_at s.low false low.0 low.1)))

  convergent : IsConvergent (inputs two_collect locals) (outputs two_collect locals)
  convergent v all p d e =
      let o = done p d e in
      let t = o.taken in
      let bits = k.holds.only_bit p in
      let only : (mark (locals p)).only ≡ 1 = elim (cases_lt 0 (mark (locals p)).only) [
        | inl l ↦ omega arith
        | inr g ↦ absurd (unsplit v all (k.holds.differed p (omega arith)))
      ] in
      let a = committing n M k.holds p o.below o.taken only in
      let some = commits n M k.holds p o.below o.taken a in
      let w = commit_some o.s.commit (subst (λ z. 0 < (mark z).commit) o.here some) in
      let mine = commit_is n M k.holds p (digit w.0) p (mark (locals p)).value
      (ap (λ z. (mark z).commit) o.here ∙ ap commit_number w.1) a in
      let input : o.s.input ≡ v =
      all p o.s.input (counts_at p o.s.input (omega arith) (ap (λ z. (mark z).value) o.here)) in
      let own : w.0 ≡ o.s.input =
      digit_same w.0 o.s.input (mine ∙ ap (λ z. (mark z).value) o.here) in
      sym o.is ∙ ap (λ z. verdict_from z o.s.only_commits o.s.input) w.1
      ∙ ap (λ z. verdict_from (Some w.0) z o.s.input)
      (only_true o.s.only_commits (sym (ap (λ z. (mark z).only) o.here) ∙ only))
      ∙ ap Commit (own ∙ input)

  -- Gafni 1998
  pub keeps_legal : Legal (inputs two_collect locals) (outputs two_collect locals)
  keeps_legal = record { valid = valid; convergent = convergent; coherent = coherent }

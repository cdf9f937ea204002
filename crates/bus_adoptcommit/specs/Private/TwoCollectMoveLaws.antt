-- A step over the words keeps what two collects keep.
use Rattle.std.proofs.Common.{◌≡◌, ◌≢◌, ℕ, ◌+◌, ◌*◌, ◌<◌, ◌≤◌, Bool, true, false, Option, Some}
use Rattle.std.proofs.Common.{◌⊎◌, inl, inr, arith, refl, sym, ◌∙◌, ap, subst}
use Rattle.std.proofs.lemmas.Bool.{cases_eq}
use Rattle.std.proofs.lemmas.Option.{same_Some}
use Rattle.bus_register.specs.declared.registers.Op.{Op}
use Rattle.bus_register.specs.Words.{register, after}
use Rattle.bus_register.specs.Digits.{digit}
use Rattle.bus_adoptcommit.specs.declared.phases.Phase.{Phase}
use Rattle.bus_adoptcommit.specs.declared.phases.Phase.TheVariants.{WriteFirst, ReadFirst}
use Rattle.bus_adoptcommit.specs.declared.phases.Phase.TheVariants.{WriteSecond, ReadSecond, Ended}
use Rattle.bus_register.specs.Tables.{Beside, Stepped}
use Rattle.bus_adoptcommit.specs.TwoCollect.{Local, PhaseFits, verdict_code, first_verdict, op_at}
use Rattle.bus_adoptcommit.specs.TwoCollect.{op_of, fed_of, taken_at}
use Rattle.bus_adoptcommit.specs.TwoCollectKeeps.{Belongs, Mark, mark, mark_of, proposal_word}
use Rattle.bus_adoptcommit.specs.TwoCollectKeeps.{verdict_word, Holds, Keeps}
use Rattle.bus_adoptcommit.specs.Private.TwoCollectMarkLaws.{Pass, Went, holds_after, proposal_some}
use Rattle.bus_adoptcommit.specs.Private.TwoCollectMarkLaws.{verdict_some, proposal_now}
use Rattle.bus_adoptcommit.specs.Private.TwoCollectMarkLaws.{verdict_now}
use Rattle.bus_adoptcommit.specs.Private.TwoCollectPassLaws.{pass_at}
use Rattle.bus_adoptcommit.specs.Private.TwoCollectStepLaws.{goes_of}

-- a step that leaves its word, after k steps: no first step, and not the one that stores a verdict
record ReadsOnly (k n : ℕ) (o : Op) : Type 0 where
  same : (x : ℕ) → after o x ≡ x
  begun : 0 < k
  other : k ≢ 1 + n

-- a step that writes this value there
record WritesHere (place value : ℕ) (o : Op) : Type 0 where
  at : register o ≡ place
  is : (x : ℕ) → after o x ≡ value

-- the word of the verdict that is stored, in numbers
verdict_stored : (agreed input : Bool)
    → verdict_code (first_verdict agreed input) ≡ 1 + 2 * digit agreed + digit input
verdict_stored true input = omega arith
verdict_stored false input = omega arith

-- each step reads only, or stores the proposal, or the verdict
writes_of : (ph : Phase) (s : Local) (o : Op) → PhaseFits s.n ph → op_at ph s ≡ Some o
    → ReadsOnly (taken_at s.n ph) s.n o
    ⊎ (((taken_at s.n ph ≡ 0) × WritesHere (s.at + s.me) (1 + digit s.input) o)
    ⊎ ((taken_at s.n ph ≡ 1 + s.n)
    × WritesHere (s.at + s.n + s.me) (1 + 2 * digit s.agreed + digit s.input) o))
writes_of WriteFirst s o f e = inr (inl (
  refl,
  record {
    at = ap register (sym (same_Some _ _ e));
    is = λ x. ap (λ z. after z x) (sym (same_Some _ _ e));
  },
))
writes_of (ReadFirst of) s o f e = inl record {
  same = λ x. ap (λ z. after z x) (sym (same_Some _ _ e));
  begun = omega arith;
  other = omega arith;
}
writes_of WriteSecond s o f e = inr (inr (
  refl,
  record {
    at = ap register (sym (same_Some _ _ e));
    is = λ x. ap (λ z. after z x) (sym (same_Some _ _ e)) ∙ verdict_stored s.agreed s.input;
  },
))
writes_of (ReadSecond of) s o f e = inl record {
  same = λ y. ap (λ z. after z y) (sym (same_Some _ _ e));
  begun = omega arith;
  other = omega arith;
}
writes_of Ended s o f e = absurd cc

module _ (n at : ℕ) (words words' : ℕ → ℕ) (old new : ℕ → Option Local) (p : ℕ) (s : Local) (o : Op)
    (k : Keeps n at words old) (here : old p ≡ Some s) (next : op_of s ≡ Some o)
    (goes : new p ≡ Some (fed_of s (words (register o)))) (beside : Beside p old new)
    (step : Stepped at (2 * n) o words words') where
  -- p is that process
  own : Belongs n p at s
  own = (k.inside p s here).1

  -- the step, in marks
  went : Went n p (λ q. mark (old q)) (λ q. mark (new q))
  went = record {
    below = own.below;
    others = λ q ne. ap mark (beside q ne);
    pass =
        let M : ℕ → Mark = λ q. mark (old q) in
        let t = fed_of s (words (register o)) in
        let fits = subst (λ z. PhaseFits z s.phase) (sym own.n_is) own.fits in
        let holds = subst (λ z. Holds z M) (sym own.n_is) k.holds in
        let below : s.me < s.n =
        let x = own.n_is in let y = own.me_is in let z = own.below in omega arith in
        let a = pass_at s.phase M s o (words (register o)) holds below fits next
        (λ q l e.
        ap words (e ∙ ap (λ z. z + q) own.at_is)
        ∙ k.proposal_words q (subst (λ z. q < z) own.n_is l))
        (λ q l e.
        ap words (e ∙ ap (λ z. z + s.n + q) own.at_is ∙ ap (λ z. at + z + q) own.n_is)
        ∙ k.verdict_words q (subst (λ z. q < z) own.n_is l)
        ∙ ap (λ z. verdict_word z (M q)) (sym own.n_is)) in
        let b = subst (λ z. Pass z M (mark_of s) (mark_of t)) own.n_is a in
        subst (λ z. Pass n M z (mark (new p))) (sym (ap mark here))
        (subst (λ z. Pass n M (mark_of s) z) (sym (ap mark goes)) b);
  }

  -- local states belong
  inside : (q : ℕ) (u : Local) → new q ≡ Some u → (q < n) × Belongs n q at u
  inside q u e = elim (cases_eq q p) [
    | inl i ↦ subst (λ z. (z < n) × Belongs n z at u) (sym i) (
      own.below,
      subst (Belongs n p at) (same_Some _ _ (sym goes ∙ ap new (sym i) ∙ e))
          (goes_of n p at s own (words (register o)) o next).belongs,
    )
    | inr ne ↦ k.inside q u (sym (beside q ne) ∙ e)
  ]

  -- the marks of p before the step
  taken_is : (mark (old p)).taken ≡ taken_at s.n s.phase
  taken_is = ap (λ z. (mark z).taken) here

  -- its input
  value_is : (mark (new p)).value ≡ digit s.input
  value_is = went.pass.value ∙ ap (λ z. (mark z).value) here

  -- the words that it stores
  proposal_written : taken_at s.n s.phase ≡ 0 → proposal_word (mark (new p)) ≡ 1 + digit s.input
  proposal_written e =
      proposal_some (mark (new p)) (let g = went.pass.more in omega arith)
      ∙ ap (λ z. 1 + z) value_is

  verdict_written : taken_at s.n s.phase ≡ 1 + s.n
      → verdict_word n (mark (new p)) ≡ 1 + 2 * digit s.agreed + digit s.input
  verdict_written e =
      let t = taken_is in let x = own.n_is in let g = went.pass.more in let v = value_is in
      let a = went.pass.agreed_kept (inr (omega arith)) ∙ ap (λ z. (mark z).agreed) here in
      let i = verdict_some n (mark (new p)) (omega arith) in
      omega arith

  -- a word that is not written stays
  stays : (r : ℕ) → at ≤ r → r < at + 2 * n → (r ≢ register o) ⊎ (after o (words r) ≡ words r)
      → words' r ≡ words r
  stays r a b c = elim c [
    | inl ne ↦ step.elsewhere r a b ne
    | inr same ↦ elim (cases_eq r (register o)) [
      | inl e ↦ ap words' e ∙ step.here ∙ ap (λ z. after o (words z)) (sym e) ∙ same
      | inr ne ↦ step.elsewhere r a b ne
    ]
  ]

  -- each word is that of its process
  proposal_words : (q : ℕ) → q < n → words' (at + q) ≡ proposal_word (mark (new q))
  proposal_words q l =
      let x = own.n_is in let y = own.me_is in let z = own.at_is in let b = own.below in
      elim (writes_of s.phase s o (subst (λ z. PhaseFits z s.phase) (sym own.n_is) own.fits) next) [
        | inl r ↦
            stays (at + q) (omega arith) (omega arith) (inr (r.same _)) ∙ k.proposal_words q l
            ∙ sym
            (proposal_now n p _ _ went q (inr (let i = taken_is in let j = r.begun in omega arith)))
        | inr w ↦ elim w [
          | inl v ↦ elim (cases_eq q p) [
            | inl e ↦
                ap words' (let h = v.1.at in omega arith) ∙ step.here ∙ v.1.is _
                ∙ sym (proposal_written v.0) ∙ ap (λ z. proposal_word (mark (new z))) (sym e)
            | inr ne ↦
                stays (at + q) (omega arith) (omega arith) (inl (let h = v.1.at in omega arith))
                ∙ k.proposal_words q l ∙ sym (proposal_now n p _ _ went q (inl ne))
          ]
          | inr v ↦
              stays (at + q) (omega arith) (omega arith) (inl (let h = v.1.at in omega arith))
              ∙ k.proposal_words q l
              ∙ sym
              (proposal_now n p _ _ went q (inr (let i = taken_is in let j = v.0 in omega arith)))
        ]
      ]

  verdict_words : (q : ℕ) → q < n → words' (at + n + q) ≡ verdict_word n (mark (new q))
  verdict_words q l =
      let x = own.n_is in let y = own.me_is in let z = own.at_is in let b = own.below in
      elim (writes_of s.phase s o (subst (λ z. PhaseFits z s.phase) (sym own.n_is) own.fits) next) [
        | inl r ↦
            stays (at + n + q) (omega arith) (omega arith) (inr (r.same _)) ∙ k.verdict_words q l
            ∙ sym
            (verdict_now n p _ _ went q (inr (let i = taken_is in let j = r.other in omega arith)))
        | inr w ↦ elim w [
          | inl v ↦
              stays (at + n + q) (omega arith) (omega arith) (inl (let h = v.1.at in omega arith))
              ∙ k.verdict_words q l
              ∙ sym
              (verdict_now n p _ _ went q (inr (let i = taken_is in let j = v.0 in omega arith)))
          | inr v ↦ elim (cases_eq q p) [
            | inl e ↦
                ap words' (let h = v.1.at in omega arith) ∙ step.here ∙ v.1.is _
                ∙ sym (verdict_written v.0) ∙ ap (λ z. verdict_word n (mark (new z))) (sym e)
            | inr ne ↦
                stays (at + n + q) (omega arith) (omega arith) (inl (let h = v.1.at in omega arith))
                ∙ k.verdict_words q l ∙ sym (verdict_now n p _ _ went q (inl ne))
          ]
        ]
      ]

  -- all together
  pub moves_keep : Keeps n at words' new
  moves_keep = record {
    inside = inside;
    proposal_words = proposal_words;
    verdict_words = verdict_words;
    holds = holds_after n p _ _ went k.holds;
  }

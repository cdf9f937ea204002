-- What holds of the marks holds after one step of one process.
use Rattle.std.proofs.Common.{◌≡◌, ◌≢◌, ℕ, ◌+◌, ◌*◌, ◌-◌, ◌<◌, ◌≤◌, ◌⊎◌, inl, inr, arith, refl}
use Rattle.std.proofs.Common.{sym, ◌∙◌, ap, subst}
use Rattle.std.proofs.lemmas.Bool.{cases_lt, cases_eq}
use Rattle.std.proofs.lemmas.Bool.Decides.{nat_tests}
use Rattle.bus_adoptcommit.specs.TwoCollectKeeps.{Mark, proposal_word, verdict_word, Split}
use Rattle.bus_adoptcommit.specs.TwoCollectKeeps.{Committed, AgreeAlike, MeetsCommit, SeesOwn}
use Rattle.bus_adoptcommit.specs.TwoCollectKeeps.{Holds}

-- the word of a proposal: 0 before the first step, and what was stored after it
pub proposal_none : (m : Mark) → m.taken ≡ 0 → proposal_word m ≡ 0
unfolding proposal_word
proposal_none m h = grind (arith, nat_tests)

pub proposal_some : (m : Mark) → 0 < m.taken → proposal_word m ≡ 1 + m.value
unfolding proposal_word
proposal_some m h = grind (arith, nat_tests)

-- the word of a verdict: 0 up to the step that stores it, and what was stored after it
pub verdict_none : (n : ℕ) (m : Mark) → m.taken ≤ 1 + n → verdict_word n m ≡ 0
unfolding verdict_word
verdict_none n m h = grind (arith, nat_tests)

pub verdict_some : (n : ℕ) (m : Mark) → 1 + n < m.taken
    → verdict_word n m ≡ 1 + 2 * m.agreed + m.value
unfolding verdict_word
verdict_some n m h = grind (arith, nat_tests)

-- what one step makes of the mark x of a process, which becomes y, while the others have the marks
-- m
pub record Pass (n : ℕ) (m : ℕ → Mark) (x y : Mark) : Type 0 where
  -- one more step was taken, of 2n + 2, and the input stays
  pub more : y.taken ≡ 1 + x.taken
  pub room : x.taken < 2 + n + n
  pub value : y.value ≡ x.value
  pub value_bit : y.value ≤ 1
  -- a process that agrees still may cease to, but only by a proposal that is read and is another
  pub agreed_less : y.agreed ≤ x.agreed
  pub agreed_kept : (x.taken ≡ 0) ⊎ (n < x.taken) → y.agreed ≡ x.agreed
  pub agreed_saw : (q : ℕ) → q < n → x.taken ≡ 1 + q → y.agreed ≡ 1
      → (proposal_word (m q) ≡ 0) ⊎ (proposal_word (m q) ≡ 1 + x.value)
  pub agreed_missed : (q : ℕ) → q < n → x.taken ≡ 1 + q → x.agreed ≡ 1 → y.agreed ≡ 0
      → (0 < proposal_word (m q)) × (proposal_word (m q) ≢ 1 + x.value)
  -- a process that saw only commits may see another verdict, but only where it reads one
  pub only_less : y.only ≤ x.only
  pub only_kept : x.taken ≤ 1 + n → y.only ≡ x.only
  pub only_saw : (q : ℕ) → q < n → x.taken ≡ 2 + n + q → y.only ≡ 1
      → (verdict_word n (m q) ≡ 0) ⊎ (3 ≤ verdict_word n (m q))
  pub only_missed : (q : ℕ) → q < n → x.taken ≡ 2 + n + q → x.only ≡ 1 → y.only ≡ 0
      → (0 < verdict_word n (m q)) × (verdict_word n (m q) < 3)
  -- a commit that was seen stays seen, and one that is new is the verdict that is read
  pub commit_kept : x.taken ≤ 1 + n → y.commit ≡ x.commit
  pub commit_stays : 0 < x.commit → 0 < y.commit
  pub commit_new : (q : ℕ) → q < n → x.taken ≡ 2 + n + q
      → ((3 ≤ verdict_word n (m q)) × (y.commit + 2 ≡ verdict_word n (m q)))
      ⊎ ((verdict_word n (m q) < 3) × (y.commit ≡ x.commit))

-- process p takes a step
pub record Went (n p : ℕ) (m m' : ℕ → Mark) : Type 0 where
  pub below : p < n
  pub others : (q : ℕ) → q ≢ p → m' q ≡ m q
  pub pass : Pass n m (m p) (m' p)

module _ (p : ℕ) (m m' : ℕ → Mark) (others : (q : ℕ) → q ≢ p → m' q ≡ m q) where
  -- by cases: p, and any other process
  pub at_each_of : (P : ℕ → Type 0) → P p → ((q : ℕ) → q ≢ p → P q) → (q : ℕ) → P q
  at_each_of P a b q = elim (cases_eq q p) [ inl e ↦ subst P (sym e) a | inr ne ↦ b q ne ]

  -- of each process
  pub each_of : (R : ℕ → Mark → Type 0) → ((q : ℕ) → R q (m q)) → R p (m' p) → (q : ℕ) → R q (m' q)
  each_of R old here =
      at_each_of (λ q. R q (m' q)) here (λ q ne. subst (R q) (sym (others q ne)) (old q))

  -- of each two
  pub pairs_of : (R : ℕ → ℕ → Mark → Mark → Type 0) → ((a b : ℕ) → R a b (m a) (m b))
      → R p p (m' p) (m' p) → ((q : ℕ) → R p q (m' p) (m q)) → ((q : ℕ) → R q p (m q) (m' p))
      → (a b : ℕ) → R a b (m' a) (m' b)
  pairs_of R old self from to a =
      elim (cases_eq a p) as (λ _. (b : ℕ) → R a b (m' a) (m' b)) [
        | inl e ↦ subst (λ z. (b : ℕ) → R z b (m' z) (m' b)) (sym e)
            (at_each_of (λ b. R p b (m' p) (m' b)) self
            (λ q ne. subst (R p q (m' p)) (sym (others q ne)) (from q)))
        | inr ne ↦ subst (λ z. (b : ℕ) → R a b z (m' b)) (sym (others a ne))
            (at_each_of (λ b. R a b (m a) (m' b)) (to a)
            (λ q nq. subst (R a q (m a)) (sym (others q nq)) (old a q)))
      ]

module _ (n p : ℕ) (m m' : ℕ → Mark) (w : Went n p m m') where
  -- by cases: p, and any other process
  at_each : (P : ℕ → Type 0) → P p → ((q : ℕ) → q ≢ p → P q) → (q : ℕ) → P q
  at_each = at_each_of p m m' w.others

  each : (R : ℕ → Mark → Type 0) → ((q : ℕ) → R q (m q)) → R p (m' p) → (q : ℕ) → R q (m' q)
  each = each_of p m m' w.others

  pairs : (R : ℕ → ℕ → Mark → Mark → Type 0) → ((a b : ℕ) → R a b (m a) (m b)) → R p p (m' p) (m' p)
      → ((q : ℕ) → R p q (m' p) (m q)) → ((q : ℕ) → R q p (m q) (m' p)) → (a b : ℕ)
      → R a b (m' a) (m' b)
  pairs = pairs_of p m m' w.others

  -- a word whose time has not come, or is past, stays as it is
  pub proposal_now : (q : ℕ) → (q ≢ p) ⊎ (0 < (m p).taken)
      → proposal_word (m' q) ≡ proposal_word (m q)
  proposal_now =
      at_each (λ q. (q ≢ p) ⊎ (0 < (m p).taken) → proposal_word (m' q) ≡ proposal_word (m q))
      (λ c. elim c [
        | inl z ↦ absurd (z refl)
        | inr l ↦
            proposal_some (m' p) (omega (arith, w.pass.more)) ∙ ap (λ z. 1 + z) w.pass.value
            ∙ sym (proposal_some (m p) l)
      ])
      (λ q ne h. ap proposal_word (w.others q ne))

  pub verdict_now : (q : ℕ) → (q ≢ p) ⊎ ((m p).taken ≢ 1 + n)
      → verdict_word n (m' q) ≡ verdict_word n (m q)
  verdict_now =
      at_each (λ q. (q ≢ p) ⊎ ((m p).taken ≢ 1 + n) → verdict_word n (m' q) ≡ verdict_word n (m q))
      (λ c. let more = w.pass.more in elim c [
        | inl z ↦ absurd (z refl)
        | inr l ↦ elim (cases_lt (1 + n) (m p).taken) [
          | inl k ↦
              let a = verdict_some n (m' p) (omega arith) in
              let b = verdict_some n (m p) k in
              let c = w.pass.agreed_kept (inr (omega arith)) in let v = w.pass.value in omega arith
          | inr k ↦ verdict_none n (m' p) (omega arith) ∙ sym (verdict_none n (m p) k)
        ]
      ])
      (λ q ne h. ap (verdict_word n) (w.others q ne))

  -- a word that was stored stays
  proposal_stays : (q : ℕ) → 0 < proposal_word (m q) → proposal_word (m' q) ≡ proposal_word (m q)
  proposal_stays q h = elim (cases_lt 0 (m q).taken) [
    | inr g ↦ absurd (let e = proposal_none (m q) (omega arith) in omega arith)
    | inl l ↦ proposal_now q
        (elim (cases_eq q p) [ inl e ↦ inr (subst (λ z. 0 < (m z).taken) e l) | inr ne ↦ inl ne ])
  ]

  verdict_stays : (q : ℕ) → 0 < verdict_word n (m q) → verdict_word n (m' q) ≡ verdict_word n (m q)
  verdict_stays q h = elim (cases_lt (1 + n) (m q).taken) [
    | inr g ↦ absurd (let e = verdict_none n (m q) g in omega arith)
    | inl l ↦ verdict_now q (elim (cases_eq q p) [
      | inl e ↦ inr (let k = subst (λ z. 1 + n < (m z).taken) e l in omega arith)
      | inr ne ↦ inl ne
    ])
  ]

  -- so what was said of stored words stays
  split_stays : Split n m → Split n m'
  split_stays s = record {
    low = s.low;
    high = s.high;
    low_below = s.low_below;
    high_below = s.high_below;
    low_is = proposal_stays s.low (let e = s.low_is in omega arith) ∙ s.low_is;
    high_is = proposal_stays s.high (let e = s.high_is in omega arith) ∙ s.high_is;
  }

  committed_stays : (v : ℕ) → Committed n m v → Committed n m' v
  committed_stays v s = record {
    by = s.by;
    below = s.below;
    is = verdict_stays s.by (let e = s.is in omega arith) ∙ s.is;
  }

  module _ (h : Holds n m) where
    -- p reads the proposal of q, or has
    alike_from : (q : ℕ) → AgreeAlike n p q (m' p) (m q)
    alike_from q a b x y u v =
        let bits = h.agreed_bit p in
        let less = w.pass.agreed_less in let more = w.pass.more in let val = w.pass.value in
        elim (cases_lt (1 + q) (m p).taken) [
          | inl l ↦ val ∙ h.alike p q a b l y (omega arith) v
          | inr g ↦ elim (w.pass.agreed_saw q b (omega arith) u) [
            | inl z ↦ absurd (let s = proposal_some (m q) (omega arith) in omega arith)
            | inr z ↦ let s = proposal_some (m q) (omega arith) in omega arith
          ]
        ]

    -- p reads the verdict of q, or has
    meets_from : (q : ℕ) → MeetsCommit n p q (m' p) (m q)
    meets_from q a b x y u v =
        let more = w.pass.more in
        let same = w.pass.agreed_kept (inr (omega arith)) in
        let less = w.pass.only_less in let bits = h.only_bit p in
        elim (cases_lt (2 + n + q) (m p).taken) [
          | inl l ↦ h.meets p q a b l y (omega arith) (omega arith)
          | inr g ↦ elim (w.pass.only_saw q b (omega arith) v) [
            | inl z ↦ absurd (let s = verdict_some n (m q) (omega arith) in omega arith)
            | inr z ↦ inr (let s = verdict_some n (m q) (omega arith) in
                let c = h.agreed_bit q in let d = h.value_bit q in omega arith)
          ]
        ]

    -- p reads a commit
    commit_after_commit : (q : ℕ) → q < n → (m p).taken ≡ 2 + n + q
        → verdict_word n (m q) ≡ 1 + 2 * (m q).agreed + (m q).value → (m q).agreed ≡ 1
        → 0 < (m' p).commit
    commit_after_commit q a k s u = elim (w.pass.commit_new q a k) [
      | inl z ↦ (let x = z.0 in let y = z.1 in omega arith)
      | inr z ↦ absurd (let x = z.0 in omega arith)
    ]

    -- q, which may have committed, is read by p, or was
    meets_to : (q : ℕ) → MeetsCommit n q p (m q) (m' p)
    meets_to q a b x y u v =
        let more = w.pass.more in let same = w.pass.agreed_kept (inr (omega arith)) in
        elim (cases_lt (2 + n + q) (m p).taken) [
          | inl l ↦ elim (h.meets q p a b x l u v) [
            | inl z ↦ inl (w.pass.commit_stays z)
            | inr z ↦ inr (same ∙ z)
          ]
          | inr g ↦
              inl (commit_after_commit q a (omega arith) (verdict_some n (m q) (omega arith)) u)
        ]

    -- p, which reads its own verdict, or has
    own_here : SeesOwn n p (m' p)
    own_here a x =
        let more = w.pass.more in
        let same = w.pass.agreed_kept (inr (omega arith)) in
        let less = w.pass.only_less in let bits = h.only_bit p in let value = h.value_bit p in
        elim (cases_lt (2 + n + p) (m p).taken) [
          | inl l ↦ (
            (λ u. w.pass.commit_stays ((h.own p a l).0 (sym same ∙ u))),
            (λ u. let z = (h.own p a l).1 (sym same ∙ u) in omega arith),
          )
          | inr g ↦
              let k : (m p).taken ≡ 2 + n + p = omega arith in
              let s = verdict_some n (m p) (omega arith) in (
                (λ u. commit_after_commit p a k s (sym same ∙ u)),
                (λ u. elim (cases_lt 0 (m' p).only) [
                  | inl l ↦ elim (w.pass.only_saw p a k (omega arith)) [
                    | inl z ↦ absurd (omega arith)
                    | inr z ↦ absurd (omega arith)
                  ]
                  | inr z ↦ omega arith
                ]),
              )
        ]

    -- a commit that p sees was stored
    seen_here : (v : ℕ) → (m' p).commit ≡ 1 + v → Committed n m v
    seen_here v e =
        elim (cases_lt (1 + n) (m p).taken) [
          | inr g ↦ h.seen p v (sym (w.pass.commit_kept g) ∙ e)
          | inl l ↦
              let q = (m p).taken - (2 + n) in
              let room = w.pass.room in
              let below : q < n = omega arith in
              elim (w.pass.commit_new q below (omega arith)) [
                | inl z ↦ record { by = q; below = below; is = (let y = z.1 in omega arith) }
                | inr z ↦ h.seen p v (sym z.1 ∙ e)
              ]
        ]

    -- p has stored another input than q
    differ : (q : ℕ) → q < n → 0 < (m p).taken → 0 < proposal_word (m q)
        → proposal_word (m q) ≢ 1 + (m p).value → Split n m
    differ q below l some other =
        let here = proposal_some (m p) l in
        let there = elim (cases_lt 0 (m q).taken) as (λ _. proposal_word (m q) ≡ 1 + (m q).value) [
          | inl k ↦ proposal_some (m q) k
          | inr k ↦ absurd (let z = proposal_none (m q) (omega arith) in omega arith)
        ] in
        let a = h.value_bit p in let b = h.value_bit q in let c = w.below in
        elim (cases_lt 0 (m p).value) [
          | inl k ↦ record {
            low = q;
            high = p;
            low_below = below;
            high_below = c;
            low_is = omega arith;
            high_is = omega arith;
          }
          | inr k ↦ record {
            low = p;
            high = q;
            low_below = c;
            high_below = below;
            low_is = omega arith;
            high_is = omega arith;
          }
        ]

    -- p sees another proposal
    differs_now : (m' p).agreed ≡ 0 → (m p).agreed ≡ 1 → Split n m
    differs_now e u =
        elim (cases_lt 0 (m p).taken) [
          | inr g ↦ absurd (let z = w.pass.agreed_kept (inl (omega arith)) in omega arith)
          | inl l ↦ elim (cases_lt n (m p).taken) [
            | inl k ↦ absurd (let z = w.pass.agreed_kept (inr k) in omega arith)
            | inr k ↦
                let q = (m p).taken - 1 in
                let below : q < n = omega arith in
                let d = w.pass.agreed_missed q below (omega arith) u e in
                differ q below l d.0 d.1
          ]
        ]

    -- p does not agree
    differs_here : (m' p).agreed ≡ 0 → Split n m
    differs_here e =
        let bits = h.agreed_bit p in
        elim (cases_lt 0 (m p).agreed) [
          | inr g ↦ h.differs p (omega arith)
          | inl l ↦ differs_now e (omega arith)
        ]

    -- a verdict that is stored and no commit
    adopted : (q : ℕ) → 0 < verdict_word n (m q) → verdict_word n (m q) < 3 → Split n m
    adopted q a b =
        elim (cases_lt (1 + n) (m q).taken) [
          | inr k ↦ absurd (let z = verdict_none n (m q) k in omega arith)
          | inl k ↦ h.differs q (let z = verdict_some n (m q) k in omega arith)
        ]

    -- p sees a verdict that is no commit, or has
    differed_here : (m' p).only ≡ 0 → Split n m
    differed_here e =
        let bits = h.only_bit p in
        elim (cases_lt 0 (m p).only) [
          | inr g ↦ h.differed p (omega arith)
          | inl l ↦ elim (cases_lt (1 + n) (m p).taken) [
            | inr g ↦ absurd (let z = w.pass.only_kept g in omega arith)
            | inl k ↦
                let q = (m p).taken - (2 + n) in
                let room = w.pass.room in
                let below : q < n = omega arith in
                let d = w.pass.only_missed q below (omega arith) (omega arith) e in
                adopted q d.0 d.1
          ]
        ]

    pub holds_after : Holds n m'
    holds_after = record {
      bounded =
          each (λ q x. x.taken ≤ 2 + n + n) h.bounded (omega (arith, w.pass.more, w.pass.room));
      value_bit =
          each (λ q x. x.value ≤ 1) h.value_bit (omega (arith, w.pass.value, h.value_bit p));
      agreed_bit = each (λ q x. x.agreed ≤ 1) h.agreed_bit
          (omega (arith, w.pass.agreed_less, h.agreed_bit p));
      only_bit =
          each (λ q x. x.only ≤ 1) h.only_bit (omega (arith, w.pass.only_less, h.only_bit p));
      alike = pairs (AgreeAlike n) h.alike (λ a b x y u v. refl) alike_from
          (λ q a b x y u v. sym (alike_from q b a y x v u));
      meets = pairs (MeetsCommit n) h.meets (λ a b x y u v. inr u) meets_from meets_to;
      own = each (SeesOwn n) h.own own_here;
      seen = each (λ q x. (v : ℕ) → x.commit ≡ 1 + v → Committed n m' v)
          (λ q v e. committed_stays v (h.seen q v e)) (λ v e. committed_stays v (seen_here v e));
      differs = each (λ q x. x.agreed ≡ 0 → Split n m') (λ q e. split_stays (h.differs q e))
          (λ e. split_stays (differs_here e));
      differed = each (λ q x. x.only ≡ 0 → Split n m') (λ q e. split_stays (h.differed q e))
          (λ e. split_stays (differed_here e));
    }

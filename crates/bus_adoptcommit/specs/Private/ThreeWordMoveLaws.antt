-- A step over the words keeps what three words keep.
use Rattle.std.proofs.Common.{◌≡◌, ◌≢◌, ℕ, ◌+◌, ◌<◌, ◌≤◌, Bool, true, false, not, cond, Option}
use Rattle.std.proofs.Common.{Some, ◌==◌, ◌⊎◌, inl, inr, arith, refl, sym, ◌∙◌, ap, subst}
use Rattle.std.proofs.lemmas.Bool.{cases_eq, cases_lt, true≢false}
use Rattle.std.proofs.lemmas.Bool.Decides.{eqb_tells}
use Rattle.std.proofs.lemmas.Option.{same_Some}
use Rattle.bus_register.specs.declared.registers.Op.{Op}
use Rattle.bus_register.specs.declared.registers.Op.TheVariants.{Load, Store}
use Rattle.bus_register.specs.Words.{register, after}
use Rattle.bus_register.specs.Tables.{Beside, Stepped}
use Rattle.bus_register.specs.Digits.{digit}
use Rattle.bus_register.proofs.DigitLaws.{digit_le}
use Rattle.bus_adoptcommit.specs.declared.progress.Progress.{Progress}
use Rattle.bus_adoptcommit.specs.declared.progress.Progress.TheVariants.{Bring, ReadFirst, Propose}
use Rattle.bus_adoptcommit.specs.declared.progress.Progress.TheVariants.{ReadOther, Ended}
use Rattle.bus_adoptcommit.specs.ThreeWord.{Local, op_at, op_of, fed_at, fed_of, behind}
use Rattle.bus_adoptcommit.specs.ThreeWordKeeps.{Belongs, HasBegun, HasLooked, HasProposed}
use Rattle.bus_adoptcommit.specs.ThreeWordKeeps.{HasEnded, HasCommitted, IsBrought, IsProposal}
use Rattle.bus_adoptcommit.specs.ThreeWordKeeps.{Keeps}
use Rattle.bus_adoptcommit.specs.Private.ThreeWordStepLaws.{Advances, advances_at, goes_of}

-- a number is another than 0
filled_not : (x : ℕ) → (x == 0) ≡ false → 0 < x
filled_not x e = elim (eqb_tells x 0) [
  | inl h ↦ absurd (true≢false (sym h.0 ∙ e))
  | inr h ↦ (let z = h.1 in omega arith)
]

empty_is : (x : ℕ) → (x == 0) ≡ true → x ≡ 0
empty_is x e = elim (eqb_tells x 0) [ inl h ↦ h.1 | inr h ↦ absurd (true≢false (sym e ∙ h.0)) ]

-- the value of a proposal
value_is : (x : ℕ) (v : Bool) → x ≡ 1 + digit v → (x == 2) ≡ v
value_is x true e = ap (λ z. z == 2) e
value_is x false e = ap (λ z. z == 2) e

-- one of two values, or the other
this_or_other : (v w : Bool) → (w ≡ v) ⊎ (w ≡ not v)
this_or_other true true = inl refl
this_or_other true false = inr refl
this_or_other false true = inr refl
this_or_other false false = inl refl

-- What a step makes of the words and of the local state s of its process, at this point, which
-- becomes t.
pub record Moved (at : ℕ) (words words' : ℕ → ℕ) (pr : Progress) (s t : Local) : Type 0 where
  -- the words of the values: the first step sets that of its input, and none is emptied
  pub sets : behind pr ≡ 0 → 0 < words' (at + digit s.input)
  pub stays : (v : Bool) → 0 < words (at + digit v) → 0 < words' (at + digit v)
  pub brings : (v : Bool) → 0 < words' (at + digit v) → (0 < words (at + digit v)) ⊎ (v ≡ s.input)
  -- the proposal stays, or becomes that of its process
  pub proposal : ((words' (at + 2) ≡ words (at + 2)) × (behind pr ≢ 2))
      ⊎ ((behind pr ≡ 2) × (words' (at + 2) ≡ 1 + digit s.preference))
  -- the preference stays, or becomes what is proposed
  pub first : behind pr ≡ 0 → behind t.progress ≡ 1
  pub prefers : (t.preference ≡ s.preference)
      ⊎ ((behind pr ≡ 1) × (0 < words (at + 2)) × (t.preference ≡ (words (at + 2) == 2)))
  pub looks : behind pr ≡ 1
      → ((words (at + 2) ≡ 0) × (behind t.progress ≡ 2))
      ⊎ ((0 < words (at + 2)) × (t.preference ≡ (words (at + 2) == 2)))
  -- the last step looks for the other value
  pub ends : HasEnded t
      → (behind pr ≡ 3) × (t.preference ≡ s.preference)
      × (t.unopposed ≡ (words (at + digit (not s.preference)) == 0))

digit_other : (v : Bool) → digit (not v) ≢ digit v
digit_other true = omega arith
digit_other false = omega arith

module _ (s : Local) (words words' : ℕ → ℕ) (o : Op) (step : Stepped s.at 3 o words words') where
  -- a load leaves all words
  loads : (r : ℕ) → o ≡ Load record { 0 = r } → (q : ℕ) → s.at ≤ q → q < s.at + 3
      → words' q ≡ words q
  loads r e q a b = elim (cases_eq q r) [
    | inl i ↦
        ap words' i ∙ subst (λ z. words' (register z) ≡ after z (words (register z))) e step.here
        ∙ sym (ap words i)
    | inr ne ↦ step.elsewhere q a b (λ h. ne (h ∙ ap register e))
  ]

  -- a store leaves all words but its own
  writes : (r x : ℕ) → o ≡ Store record { 0 = r } x → words' r ≡ x
  writes r x e = subst (λ z. words' (register z) ≡ after z (words (register z))) e step.here

  leaves : (r x : ℕ) → o ≡ Store record { 0 = r } x → (q : ℕ) → s.at ≤ q → q < s.at + 3 → q ≢ r
      → words' q ≡ words q
  leaves r x e q a b ne = step.elsewhere q a b (λ h. ne (h ∙ ap register e))

  -- the first step sets the word of the input
  moved_bring : (got : ℕ) → o ≡ Store record { 0 = s.at + digit s.input } 1
      → Moved s.at words words' Bring s (fed_at Bring s got)
  moved_bring got e =
      let written = writes _ _ e in
      let left = leaves _ _ e in
      let small = digit_le s.input in
      let other : (v : Bool) → v ≡ not s.input → words' (s.at + digit v) ≡ words (s.at + digit v) =
      λ v i.
      let d = digit_other s.input in
      let l = digit_le v in
      let same = ap digit i in left (s.at + digit v) (omega arith) (omega arith) (omega arith) in
      record {
        sets = λ _. omega arith;
        stays = λ v h. elim (this_or_other s.input v) [
          | inl i ↦ subst (λ z. 0 < words' (s.at + digit z)) (sym i) (omega arith)
          | inr i ↦ (let z = other v i in omega arith)
        ];
        brings = λ v h. elim (this_or_other s.input v) [
          | inl i ↦ inr i
          | inr i ↦ inl (let z = other v i in omega arith)
        ];
        proposal = inl (left (s.at + 2) (omega arith) (omega arith) (omega arith), omega arith);
        first = λ _. refl;
        prefers = inl refl;
        looks = λ h. absurd (omega arith);
        ends = λ h. absurd (omega arith);
      }

  module _ (same : (q : ℕ) → s.at ≤ q → q < s.at + 3 → words' q ≡ words q) where
    values_stay : (v : Bool) → words' (s.at + digit v) ≡ words (s.at + digit v)
    values_stay v = let l = digit_le v in same (s.at + digit v) (omega arith) (omega arith)

    -- it finds a proposal, or none
    moved_read : (got : ℕ) → got ≡ words (s.at + 2) → (b : Bool) → (got == 0) ≡ b
        → Moved s.at words words' ReadFirst s (cond b (record s { progress = Propose })
        (record s { preference = got == 2; progress = ReadOther }))
    moved_read got found true e = record {
      sets = λ h. absurd (omega arith);
      stays = λ v h. let z = values_stay v in omega arith;
      brings = λ v h. inl (let z = values_stay v in omega arith);
      proposal = inl (same (s.at + 2) (omega arith) (omega arith), omega arith);
      first = λ h. absurd (omega arith);
      prefers = inl refl;
      looks = λ h. inl (sym found ∙ empty_is got e, refl);
      ends = λ h. absurd (omega arith);
    }
    moved_read got found false e =
        let filled = filled_not got e in
        record {
          sets = λ h. absurd (omega arith);
          stays = λ v h. let z = values_stay v in omega arith;
          brings = λ v h. inl (let z = values_stay v in omega arith);
          proposal = inl (same (s.at + 2) (omega arith) (omega arith), omega arith);
          first = λ h. absurd (omega arith);
          prefers = inr (refl, omega arith, ap (λ z. z == 2) found);
          looks = λ h. inr (omega arith, ap (λ z. z == 2) found);
          ends = λ h. absurd (omega arith);
        }

    -- it looks for the other value
    moved_other : (got : ℕ) → got ≡ words (s.at + digit (not s.preference))
        → Moved s.at words words' ReadOther s (fed_at ReadOther s got)
    moved_other got found = record {
      sets = λ h. absurd (omega arith);
      stays = λ v h. let z = values_stay v in omega arith;
      brings = λ v h. inl (let z = values_stay v in omega arith);
      proposal = inl (same (s.at + 2) (omega arith) (omega arith), omega arith);
      first = λ h. absurd (omega arith);
      prefers = inl refl;
      looks = λ h. absurd (omega arith);
      ends = λ h. (refl, refl, ap (λ z. z == 0) found);
    }

  -- it proposes
  moved_propose : (got : ℕ) → o ≡ Store record { 0 = s.at + 2 } (1 + digit s.preference)
      → Moved s.at words words' Propose s (fed_at Propose s got)
  moved_propose got e =
      let written = writes _ _ e in
      let left = leaves _ _ e in
      let other : (v : Bool) → words' (s.at + digit v) ≡ words (s.at + digit v) =
      λ v. let l = digit_le v in left (s.at + digit v) (omega arith) (omega arith) (omega arith) in
      record {
        sets = λ h. absurd (omega arith);
        stays = λ v h. let z = other v in omega arith;
        brings = λ v h. inl (let z = other v in omega arith);
        proposal = inr (refl, written);
        first = λ h. absurd (omega arith);
        prefers = inl refl;
        looks = λ h. absurd (omega arith);
        ends = λ h. absurd (omega arith);
      }

  -- the step at each point
  pub moved_at : (pr : Progress) (got : ℕ) → got ≡ words (register o) → op_at pr s ≡ Some o
      → Moved s.at words words' pr s (fed_at pr s got)
  moved_at Bring got found e = moved_bring got (sym (same_Some _ _ e))
  moved_at ReadFirst got found e =
      let i = sym (same_Some _ _ e) in
      moved_read (loads _ i) got (found ∙ ap (λ z. words (register z)) i) (got == 0) refl
  moved_at Propose got found e = moved_propose got (sym (same_Some _ _ e))
  moved_at ReadOther got found e =
      let i = sym (same_Some _ _ e) in
      moved_other (loads _ i) got (found ∙ ap (λ z. words (register z)) i)
  moved_at Ended got found e = absurd cc

module _ (n at : ℕ) (words words' : ℕ → ℕ) (old new : ℕ → Option Local) (p : ℕ) (s : Local) (o : Op)
    (k : Keeps n at words old) (here : old p ≡ Some s) (next : op_of s ≡ Some o)
    (goes : new p ≡ Some (fed_of s (words (register o)))) (beside : Beside p old new)
    (step : Stepped at 3 o words words') where
  -- p is that process, which then has t
  own : Belongs n p at s
  own = (k.inside p s here).1

  abbrev t : Local
  t = fed_of s (words (register o))

  advances : Advances s.progress s t
  advances = advances_at s.progress s (words (register o)) o own.own next

  moved : Moved at words words' s.progress s t
  moved = subst (λ z. Moved z words words' s.progress s t) own.at_is
      (moved_at s words words' o (subst (λ z. Stepped z 3 o words words') (sym own.at_is) step)
      s.progress (words (register o)) refl next)

  begun : HasBegun t
  begun = let a = advances.more in omega arith

  -- whoever has a local state now: p has t, and any other what it had
  each : (P : ℕ → Local → Type 0) → P p t → ((q : ℕ) (u : Local) → q ≢ p → old q ≡ Some u → P q u)
      → (q : ℕ) (u : Local) → new q ≡ Some u → P q u
  each P a b q u e = elim (cases_eq q p) [
    | inl i ↦
        subst (λ z. P z u) (sym i) (subst (P p) (same_Some _ _ (sym goes ∙ ap new (sym i) ∙ e)) a)
    | inr ne ↦ b q u ne (sym (beside q ne) ∙ e)
  ]

  -- what was brought stays brought, and p has brought its input
  brought_stays : (v : Bool) → IsBrought old v → IsBrought new v
  brought_stays v b = elim (cases_eq b.by p) [
    | inl i ↦ record {
      by = p;
      local = t;
      here = goes;
      begun = begun;
      input =
          advances.input_is ∙ ap (λ z. z.input) (same_Some _ _ (sym here ∙ ap old (sym i) ∙ b.here))
          ∙ b.input;
    }
    | inr ne ↦ record {
      by = b.by;
      local = b.local;
      here = beside b.by ne ∙ b.here;
      begun = b.begun;
      input = b.input;
    }
  ]

  own_brought : IsBrought new s.input
  own_brought = record { by = p; local = t; here = goes; begun = begun; input = advances.input_is }

  -- the value that p preferred before the step
  own_preferred : IsBrought new s.preference
  own_preferred = elim (cases_lt 0 (behind s.progress)) [
    | inl l ↦ brought_stays s.preference (k.preferred p s here l)
    | inr z ↦ subst (IsBrought new) (sym (own.own (omega arith))) own_brought
  ]

  -- a proposal that stands goes on to stand, or p proposes
  filled_stays : 0 < words (at + 2) → 0 < words' (at + 2)
  filled_stays l = elim moved.proposal [
    | inl h ↦ (let e = h.0 in omega arith)
    | inr h ↦ (let e = h.1 in omega arith)
  ]

  -- what stands as a proposal was brought
  proposal_brought : 0 < words (at + 2)
      → (v : Bool) × (words (at + 2) ≡ 1 + digit v) × IsBrought old v
  proposal_brought l = elim k.proposal [
    | inl z ↦ absurd (omega arith)
    | inr h ↦ (h.value, h.is, h.brought)
  ]

  -- where p commits, nobody had brought the other value
  alone_value : HasCommitted t → (v : Bool) → IsBrought old v → v ≡ t.preference
  alone_value c v b =
      let e = moved.ends c.0 in
      let empty : words (at + digit (not s.preference)) ≡ 0 = empty_is _ (sym e.2 ∙ c.1) in
      elim (this_or_other s.preference v) [
        | inl i ↦ i ∙ sym e.1
        | inr i ↦ absurd (let l = k.set b.by b.local b.here b.begun in
            let same = ap digit (b.input ∙ i) in
            let w = ap (λ z. words (at + z)) same in omega arith)
      ]

  inside : (q : ℕ) (u : Local) → new q ≡ Some u → (q < n) × Belongs n q at u
  inside = each (λ q u. (q < n) × Belongs n q at u) (
    (k.inside p s here).0,
    (goes_of n p at s (words (register o)) o own next).belongs,
  ) (λ q u ne e. k.inside q u e)

  set : (q : ℕ) (u : Local) → new q ≡ Some u → HasBegun u → 0 < words' (at + digit u.input)
  set = each (λ q u. HasBegun u → 0 < words' (at + digit u.input))
      (λ _. subst (λ z. 0 < words' (at + digit z)) (sym advances.input_is)
      (elim (cases_lt 0 (behind s.progress)) [
        | inl l ↦ moved.stays s.input (k.set p s here l)
        | inr z ↦ moved.sets (omega arith)
      ]))
      (λ q u ne e b. moved.stays u.input (k.set q u e b))

  brought : (v : Bool) → 0 < words' (at + digit v) → IsBrought new v
  brought v h = elim (moved.brings v h) [
    | inl l ↦ brought_stays v (k.brought v l)
    | inr i ↦ subst (IsBrought new) (sym i) own_brought
  ]

  proposal : (words' (at + 2) ≡ 0) ⊎ IsProposal (words' (at + 2)) new
  proposal = elim moved.proposal [
    | inl h ↦ elim k.proposal [
      | inl z ↦ inl (h.0 ∙ z)
      | inr r ↦ inr record {
        value = r.value;
        is = h.0 ∙ r.is;
        brought = brought_stays r.value r.brought;
      }
    ]
    | inr h ↦ inr record { value = s.preference; is = h.1; brought = own_preferred }
  ]

  -- past the step that proposes, or past a load that found a proposal
  proposed_here : HasProposed t → 0 < words' (at + 2)
  proposed_here l = elim (cases_lt 2 (behind s.progress)) [
    | inl m ↦ filled_stays (k.proposed p s here m)
    | inr m ↦ elim moved.proposal [
      | inr h ↦ (let e = h.1 in omega arith)
      | inl h ↦ elim (cases_lt 0 (behind s.progress)) [
        | inr z ↦ absurd (let f = moved.first (omega arith) in omega arith)
        | inl z ↦ elim (moved.looks (let d = h.1 in omega arith)) [
          | inl f ↦ absurd (let g = f.1 in omega arith)
          | inr f ↦ filled_stays f.0
        ]
      ]
    ]
  ]

  proposed : (q : ℕ) (u : Local) → new q ≡ Some u → HasProposed u → 0 < words' (at + 2)
  proposed = each (λ q u. HasProposed u → 0 < words' (at + 2)) proposed_here
      (λ q u ne e l. filled_stays (k.proposed q u e l))

  -- what p prefers after the step
  preferred_here : IsBrought new t.preference
  preferred_here = elim moved.prefers [
    | inl e ↦ subst (IsBrought new) (sym e) own_preferred
    | inr h ↦
        let b = proposal_brought h.1 in
        subst (IsBrought new) (sym (h.2 ∙ value_is _ b.0 b.1)) (brought_stays b.0 b.2)
  ]

  preferred : (q : ℕ) (u : Local) → new q ≡ Some u → HasBegun u → IsBrought new u.preference
  preferred = each (λ q u. HasBegun u → IsBrought new u.preference) (λ _. preferred_here)
      (λ q u ne e b. brought_stays u.preference (k.preferred q u e b))

  -- p adopts
  opposed_here : HasEnded t → t.unopposed ≡ false → (v : Bool) → IsBrought new v
  opposed_here l f v =
      let e = moved.ends l in
      let filled = filled_not _ (sym e.2 ∙ f) in
      elim (this_or_other s.preference v) [
        | inl i ↦ subst (IsBrought new) (sym i) own_preferred
        | inr i ↦ subst (IsBrought new) (sym i)
            (brought_stays (not s.preference) (k.brought (not s.preference) filled))
      ]

  opposed : (q : ℕ) (u : Local) → new q ≡ Some u → HasEnded u → u.unopposed ≡ false → (v : Bool)
      → IsBrought new v
  opposed = each (λ q u. HasEnded u → u.unopposed ≡ false → (v : Bool) → IsBrought new v)
      opposed_here (λ q u ne e l f v. brought_stays v (k.opposed q u e l f v))

  -- p commits: only its value stands as a proposal
  alone_here : HasCommitted t → words' (at + 2) ≡ 1 + digit t.preference
  alone_here c =
      let e = moved.ends c.0 in let at_end = e.0 in
      let b = proposal_brought (k.proposed p s here (omega arith)) in
      elim moved.proposal [
        | inl h ↦ h.0 ∙ b.1 ∙ ap (λ z. 1 + digit z) (alone_value c b.0 b.2)
        | inr h ↦ absurd (let z = h.0 in omega arith)
      ]

  -- another has committed: p proposes its value
  alone_there : (q : ℕ) (u : Local) → old q ≡ Some u → HasCommitted u
      → words' (at + 2) ≡ 1 + digit u.preference
  alone_there q u e c = elim moved.proposal [
    | inl h ↦ h.0 ∙ k.alone q u e c
    | inr h ↦ h.1 ∙ ap (λ z. 1 + digit z) (k.together q p u s e here c (let z = h.0 in omega arith))
  ]

  alone : (q : ℕ) (u : Local) → new q ≡ Some u → HasCommitted u
      → words' (at + 2) ≡ 1 + digit u.preference
  alone = each (λ q u. HasCommitted u → words' (at + 2) ≡ 1 + digit u.preference) alone_here
      (λ q u ne e c. alone_there q u e c)

  -- another has committed: p prefers its value
  together_there : (q : ℕ) (u : Local) → old q ≡ Some u → HasCommitted u → HasLooked t
      → t.preference ≡ u.preference
  together_there q u e c l =
      let stands = k.alone q u e c in
      elim (cases_lt 1 (behind s.progress)) [
        | inl m ↦ elim moved.prefers [
          | inl f ↦ f ∙ k.together q p u s e here c m
          | inr h ↦ absurd (let z = h.0 in omega arith)
        ]
        | inr m ↦ elim (cases_lt 0 (behind s.progress)) [
          | inr z ↦ absurd (let f = moved.first (omega arith) in omega arith)
          | inl z ↦ elim (moved.looks (omega arith)) [
            | inl f ↦ absurd (let g = f.0 in omega arith)
            | inr f ↦ f.1 ∙ value_is _ u.preference stands
          ]
        ]
      ]

  together : (q r : ℕ) (u w : Local) → new q ≡ Some u → new r ≡ Some w → HasCommitted u
      → HasLooked w → w.preference ≡ u.preference
  together q r u w e f =
      each (λ q u. HasCommitted u → HasLooked w → w.preference ≡ u.preference)
      (each (λ r w. HasCommitted t → HasLooked w → w.preference ≡ t.preference) (λ c l. refl)
      (λ r w ne f c l. alone_value c w.preference (k.preferred r w f (omega arith))) r w f)
      (λ q u ne e. each (λ r w. HasCommitted u → HasLooked w → w.preference ≡ u.preference)
      (λ c l. together_there q u e c l) (λ r w nf f c l. k.together q r u w e f c l) r w f)
      q u e

  -- all together
  pub moves_keep : Keeps n at words' new
  moves_keep = record {
    inside = inside;
    set = set;
    brought = brought;
    proposal = proposal;
    proposed = proposed;
    preferred = preferred;
    opposed = opposed;
    alone = alone;
    together = together;
  }

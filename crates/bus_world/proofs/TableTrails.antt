-- What a step does to trails, and to the tables that are as the trails tell.
use Rattle.std.proofs.Common.{◌≡◌, ◌≢◌, ℕ, ◌+◌, ◌*◌, ◌<◌, ◌≤◌, Option, Some, None, ◌⊎◌, inl, inr}
use Rattle.std.proofs.Common.{List, [], ◌∷◌, ◌++◌, length, slice_get, arith, refl, sym, ◌∙◌, ap}
use Rattle.std.proofs.Common.{subst}
use Rattle.std.proofs.lemmas.Bool.{cases_eq}
use Rattle.std.proofs.lemmas.Option.{none-some, same_Some, slice_get_within}
use Rattle.std.proofs.lemmas.Grind.{common_steps}
use Rattle.bus_register.specs.declared.kinds.Kind.{Kind}
use Rattle.bus_register.specs.declared.kinds.Kind.TheVariants as kind
use Rattle.bus_register.specs.Tables.{of_some, Beside, put, Agree}
use Rattle.bus_register.specs.Private.TableLaws.{put_here, put_beside, push_here, push_beside}
use Rattle.bus_register.specs.Protocol.{Protocol, Laws, counted_input}
use Rattle.bus_batch.specs.declared.messages.Mark.{Mark}
use Rattle.bus_tenure.specs.Core.{Core, Election, Layout}
use Rattle.bus_tenure.specs.declared.phases.Phase.TheVariants as phase
use Rattle.bus_tenure.specs.declared.turns.Turn.{Turn as Answered}
use Rattle.bus_ownerbits.specs.OneOwner.{OneOwner}
use Rattle.bus_ownerbits.proofs.ElectionSteps.{row_within}
use Rattle.bus_world.proofs.Places.{none_in, only_one, got_before, got_after, got_split}
use Rattle.bus_world.specs.Headline.{Action, HasPut, HasMarked, Stepped, Announced, Elected, Took}
use Rattle.bus_world.proofs.Tying.{next_tenure, Tables, PageTies}

-- ---- trails
pub Announced-before : (xs ys : List Action) (t : ℕ) → Announced xs t → Announced (xs ++ ys) t
Announced-before xs ys t a = grind (arith, common_steps, got_before)

pub Elected-before : (xs ys : List Action) (t o : ℕ) → Elected xs t o → Elected (xs ++ ys) t o
Elected-before xs ys t o a = grind (arith, common_steps, got_before)

pub Took-before : (xs ys : List Action) (t i : ℕ) → Took xs t i → Took (xs ++ ys) t i
Took-before xs ys t i a = grind (arith, common_steps, got_before)

pub Elected-split : (xs ys : List Action) (t o : ℕ) → Elected (xs ++ ys) t o
    → Elected xs t o ⊎ Elected ys t o
Elected-split xs ys t o a = grind (arith, common_steps, got_split)

pub Took-split : (xs ys : List Action) (t i : ℕ) → Took (xs ++ ys) t i
    → Took xs t i ⊎ ((j : ℕ) × (i ≡ length xs + j) × Took ys t j)
Took-split xs ys t i a = grind (arith, common_steps, got_split)

-- actions that end no election, and that take no page
pub record IsPlain (ds : List Action) : Type 0 where
  pub none_elected : (t o : ℕ) → Elected ds t o → ⊥
  pub none_took : (t i : ℕ) → Took ds t i → ⊥

pub plain_none : IsPlain []
plain_none = grind (arith, common_steps, none_in)

pub plain_put : (n : ℕ) (bytes : List ℕ) → IsPlain (HasPut n bytes ∷ [])
plain_put n bytes = grind (arith, common_steps, only_one)

pub plain_mark : (m : Mark) → IsPlain (HasMarked m ∷ [])
plain_mark m = grind (arith, common_steps, only_one)

same_step : (tn tn' : Option ℕ) (k k' : Kind) (f f' : ℕ) (ch ch' : Option ℕ) (a a' : Answered)
    → Stepped tn k f ch a ≡ Stepped tn' k' f' ch' a' → (tn ≡ tn') × (k ≡ k') × (ch ≡ ch') × (a ≡ a')
same_step tn tn' k k' f f' ch ch' a a' e = (cc, cc, cc, cc)

pub one_elected : (tn : Option ℕ) (k : Kind) (f : ℕ) (ch : Option ℕ) (a : Answered) (t o : ℕ)
    → Elected (Stepped tn k f ch a ∷ []) t o → (tn ≡ Some t) × (ch ≡ Some o)
one_elected tn k f ch a t o el = grind (arith, common_steps, same_step, only_one)

pub one_took : (tn : Option ℕ) (k : Kind) (f : ℕ) (ch : Option ℕ) (a : Answered) (t i : ℕ)
    → Took (Stepped tn k f ch a ∷ []) t i → (i ≡ 0) × (tn ≡ Some t) × (k ≡ kind.TakePage)
one_took tn k f ch a t i el = grind (arith, common_steps, only_one, same_step)

pub plain_step : (tn : Option ℕ) (k : Kind) (f : ℕ) (a : Answered) → (k ≡ kind.TakePage → ⊥)
    → IsPlain (Stepped tn k f None a ∷ [])
plain_step tn k f a other = grind (arith, common_steps, none-some, one_elected, one_took)

-- ---- the trails of all, of which that of one has more
pub record Longer (p : ℕ) (ds : List Action) (old new : ℕ → List Action) : Type 0 where
  pub own : new p ≡ old p ++ ds
  pub others : Beside p old new

module _ (p : ℕ) (ds : List Action) (old new : ℕ → List Action) (g : Longer p ds old new) where
  pub announced_still : (q t : ℕ) → Announced (old q) t → Announced (new q) t
  announced_still q t a = grind (arith, common_steps, cases_eq, Announced-before)

  pub elected_still : (q t o : ℕ) → Elected (old q) t o → Elected (new q) t o
  elected_still q t o a = grind (arith, common_steps, cases_eq, Elected-before)

  pub took_still : (q t i : ℕ) → Took (old q) t i → Took (new q) t i
  took_still q t i a = grind (arith, common_steps, cases_eq, Took-before)

  pub elected_from : (q t o : ℕ) → Elected (new q) t o
      → Elected (old q) t o ⊎ ((q ≡ p) × Elected ds t o)
  elected_from q t o a = grind (arith, common_steps, cases_eq, Elected-split)

  pub took_from : (q t i : ℕ) → Took (new q) t i
      → Took (old q) t i ⊎ ((q ≡ p) × ((j : ℕ) × (i ≡ length (old p) + j) × Took ds t j))
  took_from q t i a = elim (cases_eq q p) [
    | inl e ↦
        elim (Took-split (old p) ds t i
        (subst (λ z. Took z t i) g.own (subst (λ z. Took (new z) t i) e a))) [
          | inl l ↦ inl (subst (λ z. Took (old z) t i) (sym e) l)
          | inr r ↦ inr (e, r)
        ]
    | inr ne ↦ inl (subst (λ z. Took z t i) (g.others q ne) a)
  ]

  -- ---- who took the pages
  -- nobody takes one
  pub takers_stay : (owners : List ℕ) → ((t i : ℕ) → Took ds t i → ⊥) → PageTies owners old
      → PageTies owners new
  takers_stay owners plain h = record {
    took = λ t s e. let k = h.took t s e in (k.0, took_still s t k.0 k.1);
    elected = λ t s e. elected_still s t s (h.elected t s e);
    only = λ t s i a. h.only t s i (back s t i a);
    once = λ t s i j a b. h.once t s i j (back s t i a) (back s t j b);
  } where
    back : (s t i : ℕ) → Took (new s) t i → Took (old s) t i
    back s t i a = elim (took_from s t i a) [ inl l ↦ l | inr r ↦ absurd (plain t r.1.0 r.1.2) ]

  -- the sender takes the next one, in which it was elected
  pub takers_more : (owners : List ℕ) (t : ℕ) (f : ℕ) (ch : Option ℕ) (answer : Answered)
      → ds ≡ Stepped (Some t) kind.TakePage f ch answer ∷ [] → length owners ≡ t
      → Elected (old p) t p → PageTies owners old → PageTies (owners ++ p ∷ []) new
  takers_more owners t f ch answer ds_are many own h = record {
    took = λ u s e. elim (at_end u s e) [
      | inl l ↦ (let k = h.took u s l in (k.0, took_still s u k.0 k.1))
      | inr r ↦ grind (arith, common_steps, length, taken)
    ];
    elected = λ u s e. elim (at_end u s e) [
      | inl l ↦ elected_still s u s (h.elected u s l)
      | inr r ↦ subst (λ z. Elected (new z) u z) (sym r.1)
          (subst (λ z. Elected (new p) z p) (sym r.0) (elected_still p t p own))
    ];
    only = λ u s i a. elim (took_from s u i a) [
      | inl l ↦
          (let e = h.only u s i l in
          push_beside owners p u (let w = slice_get_within owners u s e in omega arith) ∙ e)
      | inr r ↦ grind (arith, common_steps, from_ds, push_here)
    ];
    once = λ u s i j a b. elim (took_from s u i a) [
      | inl l ↦ elim (took_from s u j b) [
        | inl m ↦ h.once u s i j l m
        | inr r ↦ absurd (earlier u s i l r.1.0 r.1.2)
      ]
      | inr q ↦ elim (took_from s u j b) [
        | inl m ↦ absurd (earlier u s j m q.1.0 q.1.2)
        | inr r ↦ grind (arith, common_steps, from_ds)
      ]
    ];
  } where
    taken : Took (new p) t (length (old p) + 0)
    taken = record {
      found = f;
      chose = ch;
      answer = answer;
      at =
          ap (λ z. slice_get z (length (old p) + 0)) (g.own ∙ ap (λ z. old p ++ z) ds_are)
          ∙ got_after (old p) (Stepped (Some t) kind.TakePage f ch answer ∷ []) 0 _ refl
          (length (old p) + 0) refl;
    }

    from_ds : (u i : ℕ) → Took ds u i → (t ≡ u) × (i ≡ 0)
    from_ds u i a = grind (arith, one_took, same_Some)

    earlier : (u s i : ℕ) → Took (old s) u i → (j : ℕ) → Took ds u j → ⊥
    earlier u s i l j a =
        let b = (from_ds u j a).0 in
        let w = slice_get_within owners u s (h.only u s i l) in omega arith

    at_end : (u s : ℕ) → slice_get (owners ++ p ∷ []) u ≡ Some s
        → (slice_get owners u ≡ Some s) ⊎ ((u ≡ t) × (s ≡ p))
    at_end u s e = grind (arith, got_split, only_one)

-- ---- the tables
-- a sender that has c' in place of c, in no election that it was not in before
pub record GoesOn {E : Type 0} (p : ℕ) (c c' : Core E) (old new : ℕ → Option (Core E)) :
    Type 0 where
  pub before : old p ≡ Some c
  pub now : new p ≡ Some c'
  pub others : Beside p old new
  pub rises : next_tenure c ≤ next_tenure c'

module _ {E : Type 0} (X : Election E) (P : Protocol E (Unit {0}) ℕ)
    (laws : Laws X.op X.fed P OneOwner) (x : Layout) (words words' : ℕ → ℕ)
    (old new : ℕ → List Action) (p : ℕ) (ds : List Action) (g : Longer p ds old new)
    (senders senders' : ℕ → Option (Core E)) (c c' : Core E) (f : GoesOn p c c' senders senders')
    (h : Tables P x words senders old) where
  ahead_still : (q : ℕ) (d : Core E) (t : ℕ) → senders' q ≡ Some d → next_tenure d ≤ t
      → h.elections t q ≡ None
  ahead_still q d t e l = grind (arith, common_steps, cases_eq, same_Some, next_tenure)

  -- no election is stepped in, and none ends
  pub tables_stay : Agree 2 (x.rows * P.width x.senders) words words'
      → ((t : ℕ) (e : E) → c'.phase ≡ phase.Electing t e → c.phase ≡ phase.Electing t e)
      → ((t o : ℕ) → Elected ds t o → ⊥) → Tables P x words' senders' new
  tables_stay agree same plain = record {
    elections = h.elections;
    kept = λ t l. grind (arith, common_steps, row_within);
    ahead = ahead_still;
    electing = λ q d t e i a. elim (cases_eq q p) [
      | inl j ↦
          (let is : c' ≡ d = same_Some _ _ (sym f.now ∙ ap senders' (sym j) ∙ i) in
          ap (h.elections t) j
          ∙ h.electing p c t e f.before (same t e (ap (λ (z : Core E). z.phase) is ∙ a)))
      | inr ne ↦ h.electing q d t e (sym (f.others q ne) ∙ i) a
    ];
    announced = λ t s e. announced_still p ds old new g s t (h.announced t s e);
    elected = λ t s o e. elected_still p ds old new g s t o (h.elected t s o e);
    only_elected = λ t s o a. elim (elected_from p ds old new g s t o a) [
      | inl l ↦ h.only_elected t s o l
      | inr r ↦ absurd (plain t o r.1)
    ];
  }

  -- its local state in tenure t is another
  module _ (t : ℕ) (room : t < x.rows) (later : E)
      (kept_now : P.Keeps x.senders (2 + t * P.width x.senders) words'
      (put p (Some later) (h.elections t)))
      (agree : (u : ℕ) → u < x.rows → u ≢ t
      → Agree (2 + u * P.width x.senders) (P.width x.senders) words words')
      (past : t < next_tenure c')
      (phase_is : (u : ℕ) (e : E) → c'.phase ≡ phase.Electing u e → (t ≡ u) × (later ≡ e))
      (unended : (o : ℕ) → of_some P.output (h.elections t p) ≡ Some o → ⊥)
      (announces : counted_input P later ≡ Some tt → Announced (new p) t)
      (elects : (o : ℕ) → P.output later ≡ Some o → Elected (new p) t o)
      (elected_so : (u o : ℕ) → Elected ds u o → (t ≡ u) × (P.output later ≡ Some o)) where
    abbrev row : ℕ → Option E
    row = put p (Some later) (h.elections t)

    abbrev rows_now : ℕ → ℕ → Option E
    rows_now = put t row h.elections

    here : rows_now t p ≡ Some later
    here = ap (λ z. z p) (put_here t row h.elections) ∙ put_here p (Some later) (h.elections t)

    cell : (u q : ℕ) → ((u ≡ t) × (q ≡ p)) ⊎ (rows_now u q ≡ h.elections u q)
    cell u q = elim (cases_eq u t) [
      | inr ne ↦ inr (ap (λ z. z q) (put_beside t row h.elections u ne))
      | inl i ↦ elim (cases_eq q p) [
        | inl j ↦ inl (i, j)
        | inr ne ↦ inr (ap (λ z. rows_now z q) i ∙ ap (λ z. z q) (put_here t row h.elections)
            ∙ put_beside p (Some later) (h.elections t) q ne ∙ ap (λ z. h.elections z q) (sym i))
      ]
    ]

    here_is : (u q : ℕ) → u ≡ t → q ≡ p → rows_now u q ≡ Some later
    here_is u q i j = ap (λ z. rows_now z q) i ∙ ap (rows_now t) j ∙ here

    pub tables_step : Tables P x words' senders' new
    tables_step = record {
      elections = rows_now;
      kept = λ u l. grind (arith, common_steps, cases_eq, put_here, put_beside);
      ahead = λ q d u e l. grind (arith, common_steps, cell, same_Some, next_tenure, ahead_still);
      electing = λ q d u e i a. elim (cases_eq q p) [
        | inl j ↦ grind (arith, common_steps, same_Some, here_is)
        | inr ne ↦ elim (cell u q) [
          | inl i ↦ absurd (ne i.1)
          | inr o ↦ o ∙ h.electing q d u e (sym (f.others q ne) ∙ i) a
        ]
      ];
      announced = λ u s e. grind (arith, common_steps, cell, here_is, announced_still);
      elected = λ u s o e. grind (arith, common_steps, cell, here_is, elected_still);
      only_elected = λ u s o a. elim (elected_from p ds old new g s u o a) [
        | inl l ↦ (let b = h.only_elected u s o l in elim (cell u s) [
          | inl i ↦ absurd (unended o (ap (λ z. of_some P.output (h.elections z p)) (sym i.0)
              ∙ ap (λ z. of_some P.output (h.elections u z)) (sym i.1) ∙ b.1))
          | inr d ↦ (b.0, ap (of_some P.output) d ∙ b.1)
        ])
        | inr r ↦
            (let b = elected_so u o r.1 in (
              subst (λ z. z < x.rows) b.0 room,
              ap (of_some P.output) (here_is u s (sym b.0) r.0) ∙ b.1,
            ))
      ];
    }

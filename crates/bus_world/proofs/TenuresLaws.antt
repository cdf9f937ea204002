-- The passage of the lock is kept by each thing that a sender does.
use Rattle.std.proofs.Common.{◌≡◌, ◌≢◌, ℕ, ◌+◌, ◌*◌, ◌<◌, ◌≤◌, Bool, true, false, Option, Some}
use Rattle.std.proofs.Common.{None, ◌⊎◌, inl, inr, List, [], ◌∷◌, ◌++◌, length, slice_get, arith}
use Rattle.std.proofs.Common.{refl, sym, ◌∙◌, ap, subst}
use mathlib.Core.Path.{fun_ext}
use Rattle.std.proofs.lemmas.Bool.{cases_eq, cases_lt}
use Rattle.std.proofs.lemmas.List.{length_push}
use Rattle.std.proofs.lemmas.Option.{same_Some, slice_get_past}
use Rattle.std.proofs.lemmas.Grind.{common_steps}
use Rattle.bus_register.specs.declared.registers.Op.{Op}
use Rattle.bus_register.specs.Words.{register}
use Rattle.bus_register.specs.Tables.{of_some, Beside, put, Agree, Stepped}
use Rattle.bus_register.specs.Private.TableLaws.{put_here, put_beside, some_or_none, here_not}
use Rattle.bus_register.specs.Private.TableLaws.{push_here, push_beside}
use Rattle.bus_register.specs.Protocol.{Protocol, Laws, inputs, outputs}
use Rattle.bus_ownerbits.specs.OneOwner.{OneOwner}
use Rattle.bus_ownerbits.proofs.ElectionSteps.{row_within}
use Rattle.bus_world.specs.Private.Tenures.{Standing, Tenures}
use Rattle.bus_world.specs.Private.Tenures.Standing.{Rests, Runs, Holds}
use Rattle.bus_world.specs.Private.Tenures.Stage.{Open, Held}

same_Electing : {E : Type 0} (t u : ℕ) (e f : E) → Runs t e ≡ Runs u f → (t ≡ u) × (e ≡ f)
same_Electing t u e f h = (cc, cc)

pub same_Holding : {E : Type 0} (t u : ℕ) → ◌≡◌ {A = Standing E} (Holds t) (Holds u) → t ≡ u
same_Holding t u h = cc

electing_no_holding : {E : Type 0} (t u : ℕ) (e : E) → Runs t e ≡ Holds u → ⊥
electing_no_holding t u e h = cc

resting_no_electing : {E : Type 0} (t : ℕ) (e : E) → Rests ≡ Runs t e → ⊥
resting_no_electing t e h = cc

resting_no_holding : {E : Type 0} (t : ℕ) → ◌≡◌ {A = Standing E} Rests (Holds t) → ⊥
resting_no_holding t h = cc

module _ {E : Type 0} (op : E → ℕ → Option Op) (fed : E → ℕ → ℕ → E) (P : Protocol E (Unit {0}) ℕ)
    (laws : Laws op fed P OneOwner) (n rows at : ℕ) where
  -- ── what holds at any moment ──
  pub one_owner : (words : ℕ → ℕ) (stage : ℕ) (home : Bool) (standing : ℕ → Option (Standing E))
      (least : ℕ → ℕ) (owners : List ℕ)
      (h : Tenures P n rows at words stage home standing least owners)
      → (t : ℕ) → t < rows → OneOwner (inputs P (h.elections t)) (outputs P (h.elections t))
  one_owner words stage home standing least owners h t below =
      laws.outcome n (at + t * P.width n) words (h.elections t) (h.kept t below)

  module _ (words : ℕ → ℕ) (stage : ℕ) (home : Bool) (standing : ℕ → Option (Standing E))
      (least : ℕ → ℕ) (owners : List ℕ)
      (h : Tenures P n rows at words stage home standing least owners) where
    -- the same in other words
    pub same : (words' : ℕ → ℕ) (stage' : ℕ) (home' : Bool) (standing' : ℕ → Option (Standing E))
        (least' : ℕ → ℕ) (owners' : List ℕ) → Agree at (rows * P.width n) words words'
        → stage' ≡ stage → home' ≡ home
        → ((q : ℕ) → standing' q ≡ standing q) → ((q : ℕ) → least' q ≡ least q) → owners' ≡ owners
        → Tenures P n rows at words' stage' home' standing' least' owners'
    same words' stage' home' standing' least' owners' agree a b c d e =
        subst (λ z. Tenures P n rows at words' z home' standing' least' owners') (sym a)
        (subst (λ z. Tenures P n rows at words' stage z standing' least' owners') (sym b)
        (subst (λ z. Tenures P n rows at words' stage home z least' owners') (sym (fun_ext c))
        (subst (λ z. Tenures P n rows at words' stage home standing z owners') (sym (fun_ext d))
        (subst (λ z. Tenures P n rows at words' stage home standing least z) (sym e) record {
          elections = h.elections;
          kept = λ t l. grind (arith, common_steps, row_within);
          ended = h.ended;
          stage_is = h.stage_is;
          begun = h.begun;
          electing = h.electing;
          holding = h.holding;
          owned = h.owned;
        }))))

    -- where a sender stands, if not p, after p has done something
    module _ (p : ℕ) (standing' : ℕ → Option (Standing E)) (beside : Beside p standing standing')
        (least' : ℕ → ℕ) (less : Beside p least least') where
      past_stays : (t q : ℕ) (e : E) → q ≢ p
          → (t < least q) ⊎ ((standing q ≡ Some (Runs t e)) ⊎ (standing q ≡ Some (Holds t)))
          → (t < least' q) ⊎ ((standing' q ≡ Some (Runs t e)) ⊎ (standing' q ≡ Some (Holds t)))
      past_stays t q e ne c = grind (arith, common_steps)

      served_stays : (t q : ℕ) → q ≢ p → (t < least q) ⊎ (standing q ≡ Some (Holds t))
          → (t < least' q) ⊎ (standing' q ≡ Some (Holds t))
      served_stays t q ne c = grind (arith, common_steps)

    -- a sender that rests may be past more tenures
    pub raises : (p : ℕ) (least' : ℕ → ℕ) → standing p ≡ Some Rests → Beside p least least'
        → least p ≤ least' p → Tenures P n rows at words stage home standing least' owners
    raises p least' rests beside more =
        let mono : (q : ℕ) → least q ≤ least' q = λ q. elim (cases_eq q p) [
          | inl i ↦ subst (λ z. least z ≤ least' z) (sym i) more
          | inr ne ↦ (let z = beside q ne in omega arith)
        ] in
        record {
          elections = h.elections;
          kept = h.kept;
          ended = h.ended;
          stage_is = h.stage_is;
          begun = λ t q e f. grind (arith, common_steps);
          electing = λ q t e f.
              grind (arith, common_steps, cases_eq, resting_no_electing, same_Some);
          holding = λ q t f. let b = h.holding q t f in (
            b.0,
            b.1,
            b.2,
            elim (cases_eq q p) [
              | inl i ↦ absurd
                  (resting_no_holding t (same_Some _ _ (sym rests ∙ ap standing (sym i) ∙ f)))
              | inr ne ↦ (let z = beside q ne in let y = b.3 in omega arith)
            ],
          );
          owned = λ t o f.
              let b = h.owned t o f in
              (b.0, b.1, elim b.2 [ inl l ↦ inl (let z = mono o in omega arith) | inr d ↦ inr d ]);
        }

    -- a sender that rests begins a tenure that was opened
    module _ (p t : ℕ) (below : p < n) (few : n ≤ 64) (rests : standing p ≡ Some Rests)
        (reached : 2 * t ≤ stage) (enters : least p ≤ t) (room : t < rows)
        (standing' : ℕ → Option (Standing E))
        (now : standing' p ≡ Some (Runs t (P.started n p tt (at + t * P.width n))))
        (beside : Beside p standing standing') where
      abbrev start : E
      start = P.started n p tt (at + t * P.width n)

      abbrev row : ℕ → Option E
      row = put p (Some start) (h.elections t)

      abbrev rows_now : ℕ → ℕ → Option E
      rows_now = put t row h.elections

      opened : t ≤ h.ended
      opened = elim h.stage_is [ Open a b c ↦ omega arith | Held q a b c d ↦ omega arith ]

      stayed : (u : ℕ) (e : E)
          → (u < least p) ⊎ ((standing p ≡ Some (Runs u e)) ⊎ (standing p ≡ Some (Holds u)))
          → u < least p
      stayed u e c = grind (arith, common_steps, resting_no_electing, same_Some, resting_no_holding)

      absent : h.elections t p ≡ None
      absent = grind (arith, common_steps, some_or_none, stayed)

      begun_row : (q : ℕ) (e : E) → row q ≡ Some e
          → (t ≤ h.ended)
          × ((t < least q) ⊎ ((standing' q ≡ Some (Runs t e)) ⊎ (standing' q ≡ Some (Holds t))))
      begun_row q e f =
          grind (arith, common_steps, cases_eq, opened, same_Some, put_here, put_beside, past_stays)

      begun_other : (u q : ℕ) (e : E) → h.elections u q ≡ Some e
          → (u ≤ h.ended)
          × ((u < least q) ⊎ ((standing' q ≡ Some (Runs u e)) ⊎ (standing' q ≡ Some (Holds u))))
      begun_other u q e f = grind (arith, common_steps, cases_eq, stayed, past_stays)

      pub begins : Tenures P n rows at words stage home standing' least owners
      begins = record {
        elections = rows_now;
        kept = λ u l. elim (cases_eq u t) [
          | inl i ↦ subst (λ z. P.Keeps n (at + z * P.width n) words (rows_now z)) (sym i)
              (subst (λ z. P.Keeps n (at + t * P.width n) words z)
              (sym (put_here t row h.elections))
              (laws.enters n (at + t * P.width n) words (h.elections t) row p tt (h.kept t room)
              below few absent (put_here p (Some start) (h.elections t))
              (put_beside p (Some start) (h.elections t))))
          | inr ne ↦ subst (λ z. P.Keeps n (at + u * P.width n) words z)
              (sym (put_beside t row h.elections u ne)) (h.kept u l)
        ];
        ended = h.ended;
        stage_is = elim h.stage_is [
          | Open a b c ↦ Open a b c
          | Held q a b c d ↦ Held q a b c (elim (cases_eq q p) [
            | inl i ↦ absurd
                (resting_no_holding h.ended (same_Some _ _ (sym rests ∙ ap standing (sym i) ∙ d)))
            | inr ne ↦ beside q ne ∙ d
          ])
        ];
        begun = λ u q e f. elim (cases_eq u t) [
          | inl i ↦ subst (λ z.
              (z ≤ h.ended)
              × ((z < least q)
              ⊎ ((standing' q ≡ Some (Runs z e)) ⊎ (standing' q ≡ Some (Holds z))))) (sym i)
              (begun_row q e (ap (λ z. z q) (sym (put_here t row h.elections))
              ∙ ap (λ z. rows_now z q) (sym i) ∙ f))
          | inr ne ↦ begun_other u q e (ap (λ z. z q) (sym (put_beside t row h.elections u ne)) ∙ f)
        ];
        electing = λ q u e f. elim (cases_eq q p) [
          | inl i ↦
              let s =
              same_Electing t u start e (same_Some _ _ (sym now ∙ ap standing' (sym i) ∙ f)) in (
                omega (arith, room, s.0),
                subst (λ z. least z ≤ u) (sym i) (let z = s.0 in omega arith),
                ap (λ z. rows_now z q) (sym s.0) ∙ ap (λ z. z q) (put_here t row h.elections)
                    ∙ ap row i ∙ put_here p (Some start) (h.elections t) ∙ ap Some s.1,
              )
          | inr ne ↦ let b = h.electing q u e (sym (beside q ne) ∙ f) in (
            b.0,
            b.1,
            elim (cases_eq u t) [
              | inl j ↦
                  ap (λ z. rows_now z q) j ∙ ap (λ z. z q) (put_here t row h.elections)
                  ∙ put_beside p (Some start) (h.elections t) q ne
                  ∙ ap (λ z. h.elections z q) (sym j) ∙ b.2
              | inr d ↦ ap (λ z. z q) (put_beside t row h.elections u d) ∙ b.2
            ],
          )
        ];
        holding = λ q u f. elim (cases_eq q p) [
          | inl i ↦ absurd
              (electing_no_holding t u start (same_Some _ _ (sym now ∙ ap standing' (sym i) ∙ f)))
          | inr ne ↦ h.holding q u (sym (beside q ne) ∙ f)
        ];
        owned = λ u o f. let b = h.owned u o f in (
          b.0,
          (
            b.1.0,
            elim (cases_eq u t) [
              | inr d ↦ ap (λ z. z o) (put_beside t row h.elections u d) ∙ b.1.1
              | inl j ↦ elim (cases_eq o p) [
                | inl i ↦ grind (arith, common_steps, absent)
                | inr ne ↦
                    ap (λ z. rows_now z o) j ∙ ap (λ z. z o) (put_here t row h.elections)
                    ∙ put_beside p (Some start) (h.elections t) o ne
                    ∙ ap (λ z. h.elections z o) (sym j) ∙ b.1.1
              ]
            ],
            b.1.2,
          ),
          elim (cases_eq o p) [
            | inl i ↦ grind (arith, common_steps, resting_no_holding, same_Some)
            | inr ne ↦ served_stays p standing' beside least (λ z d. refl) u o ne b.2
          ],
        );
      }

    -- a step of an election is on a word of the row of its tenure
    pub within_its_row : (p t : ℕ) (e : E) (word : ℕ) (o : Op) → standing p ≡ Some (Runs t e)
        → op e word ≡ Some o
        → (t < rows) × (at + t * P.width n ≤ register o)
        × (register o < at + t * P.width n + P.width n)
    within_its_row p t e word o stands next =
        let b = h.electing p t e stands in
        let k = laws.known n (at + t * P.width n) words (h.elections t) p e (h.kept t b.0) b.2 in
        let g = laws.goes n p (at + t * P.width n) e 0 word o k.1 next in
        (b.0, g.above, g.below)

    -- a sender takes a step of its election
    module _ (p t : ℕ) (e : E) (word : ℕ) (o : Op) (stands : standing p ≡ Some (Runs t e))
        (next : op e word ≡ Some o)
        (words' : ℕ → ℕ) (step : Stepped at (rows * P.width n) o words words')
        (standing' : ℕ → Option (Standing E))
        (now : standing' p ≡ Some (Runs t (fed e (words (register o)) word)))
        (beside : Beside p standing standing') where
      abbrev later : E
      later = fed e (words (register o)) word

      abbrev stepped_row : ℕ → Option E
      stepped_row = put p (Some later) (h.elections t)

      abbrev stepped_rows : ℕ → ℕ → Option E
      stepped_rows = put t stepped_row h.elections

      within_row : (t < rows) × (at + t * P.width n ≤ register o)
          × (register o < at + t * P.width n + P.width n)
      within_row = within_its_row p t e word o stands next

      stepped_begun_row : (q : ℕ) (f : E) → stepped_row q ≡ Some f
          → (t ≤ h.ended)
          × ((t < least q) ⊎ ((standing' q ≡ Some (Runs t f)) ⊎ (standing' q ≡ Some (Holds t))))
      stepped_begun_row q f g =
          grind (arith, common_steps, cases_eq, same_Some, put_here, put_beside, past_stays)

      stepped_begun_other : (u q : ℕ) (f : E) → u ≢ t → h.elections u q ≡ Some f
          → (u ≤ h.ended)
          × ((u < least q) ⊎ ((standing' q ≡ Some (Runs u f)) ⊎ (standing' q ≡ Some (Holds u))))
      stepped_begun_other u q f d g =
          grind (arith, cases_eq, same_Electing, same_Some, electing_no_holding, past_stays)

      pub elects : Tenures P n rows at words' stage home standing' least owners
      elects = record {
        elections = stepped_rows;
        kept = λ u l. elim (cases_eq u t) [
          | inl i ↦ subst (λ z. P.Keeps n (at + z * P.width n) words' (stepped_rows z)) (sym i)
              (subst (λ z. P.Keeps n (at + t * P.width n) words' z)
              (sym (put_here t stepped_row h.elections))
              (laws.moves n (at + t * P.width n) words words' (h.elections t) stepped_row p e word o
              (h.kept t within_row.0) (h.electing p t e stands).2 next
              (put_here p (Some later) (h.elections t)) (put_beside p (Some later) (h.elections t))
              record {
                here = step.here;
                elsewhere = λ r a b ne. grind (arith, common_steps, row_within, within_row);
              }))
          | inr ne ↦ subst (λ z. P.Keeps n (at + u * P.width n) words' z)
              (sym (put_beside t stepped_row h.elections u ne))
              (laws.frame n (at + u * P.width n) words words' (h.elections u) (h.elections u)
              (h.kept u l)
              (λ r a b.
              let apart = row_within u rows (P.width n) l in
              step.elsewhere r (omega arith) (omega arith) (elim (cases_lt u t) [
                | inl x ↦
                    (let z = row_within u t (P.width n) x in let y = within_row.1 in omega arith)
                | inr x ↦ grind (arith, common_steps, row_within, within_row)
              ])) (λ q. refl))
        ];
        ended = h.ended;
        stage_is = elim h.stage_is [
          | Open a b c ↦ Open a b c
          | Held q a b c d ↦ Held q a b c (elim (cases_eq q p) [
            | inl i ↦ absurd (electing_no_holding t h.ended e
                (same_Some _ _ (sym stands ∙ ap standing (sym i) ∙ d)))
            | inr ne ↦ beside q ne ∙ d
          ])
        ];
        begun = λ u q f g. elim (cases_eq u t) [
          | inl i ↦ subst (λ z.
              (z ≤ h.ended)
              × ((z < least q)
              ⊎ ((standing' q ≡ Some (Runs z f)) ⊎ (standing' q ≡ Some (Holds z))))) (sym i)
              (stepped_begun_row q f (ap (λ z. z q) (sym (put_here t stepped_row h.elections))
              ∙ ap (λ z. stepped_rows z q) (sym i) ∙ g))
          | inr ne ↦ stepped_begun_other u q f ne
              (ap (λ z. z q) (sym (put_beside t stepped_row h.elections u ne)) ∙ g)
        ];
        electing = λ q u f g. elim (cases_eq q p) [
          | inl i ↦
              let s =
              same_Electing t u later f (same_Some _ _ (sym now ∙ ap standing' (sym i) ∙ g)) in
              let b = h.electing p t e stands in (
                omega (arith, b.0, s.0),
                subst (λ z. least z ≤ u) (sym i) (let z = s.0 in let y = b.1 in omega arith),
                ap (λ z. stepped_rows z q) (sym s.0)
                    ∙ ap (λ z. z q) (put_here t stepped_row h.elections) ∙ ap stepped_row i
                    ∙ put_here p (Some later) (h.elections t) ∙ ap Some s.1,
              )
          | inr ne ↦ let b = h.electing q u f (sym (beside q ne) ∙ g) in (
            b.0,
            b.1,
            elim (cases_eq u t) [
              | inl j ↦
                  ap (λ z. stepped_rows z q) j ∙ ap (λ z. z q) (put_here t stepped_row h.elections)
                  ∙ put_beside p (Some later) (h.elections t) q ne
                  ∙ ap (λ z. h.elections z q) (sym j) ∙ b.2
              | inr d ↦ ap (λ z. z q) (put_beside t stepped_row h.elections u d) ∙ b.2
            ],
          )
        ];
        holding = λ q u f. elim (cases_eq q p) [
          | inl i ↦ absurd
              (electing_no_holding t u later (same_Some _ _ (sym now ∙ ap standing' (sym i) ∙ f)))
          | inr ne ↦ h.holding q u (sym (beside q ne) ∙ f)
        ];
        owned = λ u v f. let b = h.owned u v f in
            elim (cases_eq u t) [
              | inr d ↦ grind (arith, common_steps, put_beside, owned_stays)
              | inl j ↦ elim (cases_eq v p) [
                | inl i ↦ absurd (unserved u v j i b.1.0 b.1.1 b.1.2)
                | inr ne ↦ (
                  b.0,
                  (
                    b.1.0,
                    ap (λ z. stepped_rows z v) j
                        ∙ ap (λ z. z v) (put_here t stepped_row h.elections)
                        ∙ put_beside p (Some later) (h.elections t) v ne
                        ∙ ap (λ z. h.elections z v) (sym j) ∙ b.1.1,
                    b.1.2,
                  ),
                  served_stays p standing' beside least (λ z y. refl) u v ne b.2,
                )
              ]
            ];
      } where
        owned_stays : (u v : ℕ) → u ≢ t → (u < least v) ⊎ (standing v ≡ Some (Holds u))
            → (u < least v) ⊎ (standing' v ≡ Some (Holds u))
        owned_stays u v d c = grind (arith, cases_eq, electing_no_holding, same_Some, served_stays)

        -- who takes a step has no output yet
        unserved : (u v : ℕ) → u ≡ t → v ≡ p → (f : E) → h.elections u v ≡ Some f
            → P.output f ≡ Some v → ⊥
        unserved u v j i f g out = grind (arith, same_Some)

    -- a sender that was elected finds the tenure open and the page at home
    pub finds_home : (p t : ℕ) (e : E) → standing p ≡ Some (Runs t e) → P.output e ≡ Some p
        → (stage ≡ 2 * t) × (home ≡ true) × (length owners ≡ t) × (h.ended ≡ t)
    finds_home p t e stands out =
        let b = h.electing p t e stands in
        let reached = (h.begun t p e b.2).0 in
        -- were the page of t taken, then by this sender, which would be past it
        let unserved : length owners ≤ t = elim (cases_lt t (length owners)) [
          | inr g ↦ g
          | inl l ↦ absurd (
              let o = owner_at owners t l in
              let w = h.owned t o.0 o.1 in
              let only = one_owner words stage home standing least owners h t b.0 in
              let same : o.0 ≡ p = only.equal o.0 p o.0 p (elected_at t o.0 w.1.0 o.0 w.1.1 w.1.2)
              (elected_at t p e p b.2 out) in
              elim w.2 [
                | inl x ↦ grind (arith, common_steps)
                | inr x ↦ electing_no_holding t t e
                    (same_Some _ _ (sym stands ∙ ap standing (sym same) ∙ x))
              ])
        ] in
        elim h.stage_is [
          | Open a c d ↦ (let z : h.ended ≡ t = omega arith in (omega arith, c, omega arith, z))
          | Held q a c d g ↦ absurd (omega arith)
        ] where
          owner_at : (xs : List ℕ) (u : ℕ) → u < length xs → (o : ℕ) × (slice_get xs u ≡ Some o)
          owner_at xs u l = elim (some_or_none (slice_get xs u)) [
            | inr x ↦ x
            | inl none ↦ absurd (here_not xs u l none)
          ]

          elected_at : (u q : ℕ) (f : E) (o : ℕ) → h.elections u q ≡ Some f → P.output f ≡ Some o
              → outputs P (h.elections u) q ≡ Some o
          elected_at u q f o a c = ap (of_some P.output) a ∙ c

    -- a sender whose election chose another is past the tenure
    module _ (p t u : ℕ) (e : E) (stands : standing p ≡ Some (Runs t e)) (out : P.output e ≡ Some u)
        (other : u ≢ p)
        (standing' : ℕ → Option (Standing E)) (now : standing' p ≡ Some Rests)
        (beside : Beside p standing standing') (least' : ℕ → ℕ) (more : least' p ≡ t + 1)
        (less : Beside p least least') where
      past_it : (v : ℕ) (f : E)
          → (v < least p) ⊎ ((standing p ≡ Some (Runs v f)) ⊎ (standing p ≡ Some (Holds v)))
          → v < least' p
      past_it v f c = grind (arith, common_steps, same_Electing, same_Some, electing_no_holding)

      pub loses : Tenures P n rows at words stage home standing' least' owners
      loses = record {
        elections = h.elections;
        kept = h.kept;
        ended = h.ended;
        stage_is = elim h.stage_is [
          | Open a b c ↦ Open a b c
          | Held q a b c d ↦ Held q a b c (elim (cases_eq q p) [
            | inl i ↦ absurd (electing_no_holding t h.ended e
                (same_Some _ _ (sym stands ∙ ap standing (sym i) ∙ d)))
            | inr ne ↦ beside q ne ∙ d
          ])
        ];
        begun = λ v q f g. grind (arith, common_steps, cases_eq, past_it, past_stays);
        electing = λ q v f g. grind (arith, common_steps, cases_eq, resting_no_electing, same_Some);
        holding = λ q v f. elim (cases_eq q p) [
          | inl i ↦
              absurd (resting_no_holding v (same_Some _ _ (sym now ∙ ap standing' (sym i) ∙ f)))
          | inr ne ↦
              let b = h.holding q v (sym (beside q ne) ∙ f) in
              (b.0, b.1, b.2, (let z = less q ne in let y = b.3 in omega arith))
        ];
        owned = λ v q f. let b = h.owned v q f in (
          b.0,
          b.1,
          elim (cases_eq q p) [
            | inl i ↦ grind (arith, common_steps, electing_no_holding, same_Some)
            | inr ne ↦ served_stays p standing' beside least' less v q ne b.2
          ],
        );
      }

    -- an elected sender takes the page
    module _ (p t : ℕ) (e : E) (stands : standing p ≡ Some (Runs t e)) (out : P.output e ≡ Some p)
        (standing' : ℕ → Option (Standing E)) (now : standing' p ≡ Some (Holds t))
        (beside : Beside p standing standing') where
      found : (stage ≡ 2 * t) × (home ≡ true) × (length owners ≡ t) × (h.ended ≡ t)
      found = finds_home p t e stands out

      taken_past : (v q : ℕ) (f : E) → h.elections v q ≡ Some f
          → (v < least q) ⊎ ((standing q ≡ Some (Runs v f)) ⊎ (standing q ≡ Some (Holds v)))
          → (v < least q) ⊎ ((standing' q ≡ Some (Runs v f)) ⊎ (standing' q ≡ Some (Holds v)))
      taken_past v q f g c =
          grind (arith, cases_eq, past_stays, same_Electing, same_Some, electing_no_holding)

      nobody_held : (q v : ℕ) → standing q ≡ Some (Holds v) → ⊥
      nobody_held q v f = let b = h.holding q v f in let z = found.0 in omega (arith, b.1)

      pub takes : Tenures P n rows at words (2 * t + 1) false standing' least (owners ++ p ∷ [])
      takes = record {
        elections = h.elections;
        kept = h.kept;
        ended = h.ended;
        stage_is = Held p (let z = found.3 in omega arith) refl
            (length_push owners p ∙ (let z = found.2 in let y = found.3 in omega arith))
            (now ∙ ap (λ z. Some (Holds z)) (sym found.3));
        begun = λ v q f g. let b = h.begun v q f g in (b.0, taken_past v q f g b.1);
        electing = λ q v f g. grind (arith, common_steps, cases_eq, electing_no_holding, same_Some);
        holding = λ q v f. elim (cases_eq q p) [
          | inl i ↦
              let s = same_Holding t v (same_Some _ _ (sym now ∙ ap standing' (sym i) ∙ f)) in (
                sym s ∙ sym found.3,
                omega (arith, s),
                ap (slice_get (owners ++ p ∷ [])) (sym s ∙ sym found.2)
                    ∙ push_here owners p (length owners) refl ∙ ap Some (sym i),
                subst (λ z. least z ≤ v) (sym i)
                    (let z = (h.electing p t e stands).1 in omega (arith, s)),
              )
          | inr ne ↦ absurd (nobody_held q v (sym (beside q ne) ∙ f))
        ];
        owned = λ v o f. elim (cases_lt v (length owners)) [
          | inl l ↦ let b = h.owned v o (sym (push_beside owners p v (omega arith)) ∙ f) in (
            b.0,
            b.1,
            elim (cases_eq o p) [
              | inr ne ↦ served_stays p standing' beside least (λ z y. refl) v o ne b.2
              | inl i ↦ inl (elim b.2 [ inl x ↦ x | inr x ↦ absurd (nobody_held o v x) ])
            ],
          )
          | inr g ↦ elim (cases_lt (length owners) v) [
            | inl past ↦ grind (arith, common_steps, push_beside, slice_get_past)
            | inr last ↦ grind (arith, common_steps, length, found, same_Some, push_here, slice_get)
          ]
        ];
      }

    -- the holder of the page gives it back
    module _ (p t : ℕ) (stands : standing p ≡ Some (Holds t)) (standing' : ℕ → Option (Standing E))
        (now : standing' p ≡ Some Rests) (beside : Beside p standing standing') (least' : ℕ → ℕ)
        (more : least' p ≡ t + 1) (less : Beside p least least') where
      held : (t ≡ h.ended) × (stage ≡ 2 * t + 1) × (slice_get owners t ≡ Some p) × (least p ≤ t)
      held = h.holding p t stands

      only_holder : (q v : ℕ) → standing q ≡ Some (Holds v) → q ≡ p
      only_holder q v f =
          let b = h.holding q v f in
          same_Some _ _ (sym b.2 ∙ ap (slice_get owners) (b.0 ∙ sym held.0) ∙ held.2)

      given_past : (v q : ℕ) (f : E)
          → (v < least q) ⊎ ((standing q ≡ Some (Runs v f)) ⊎ (standing q ≡ Some (Holds v)))
          → (v < least' q) ⊎ ((standing' q ≡ Some (Runs v f)) ⊎ (standing' q ≡ Some (Holds v)))
      given_past v q f c =
          grind (arith, cases_eq, past_stays, held, electing_no_holding, same_Some, same_Holding)

      pub gives : Tenures P n rows at words (2 * t + 2) true standing' least' owners
      gives = record {
        elections = h.elections;
        kept = h.kept;
        ended = h.ended + 1;
        stage_is = grind (arith, common_steps, held);
        begun = λ v q f g.
            let b = h.begun v q f g in ((let z = b.0 in omega arith), given_past v q f b.1);
        electing = λ q v f g. grind (arith, common_steps, cases_eq, resting_no_electing, same_Some);
        holding = λ q v f.
            grind (arith, common_steps, cases_eq, resting_no_holding, same_Some, only_holder);
        owned = λ v o f. let b = h.owned v o f in (
          b.0,
          b.1,
          elim (cases_eq o p) [
            | inr ne ↦ served_stays p standing' beside least' less v o ne b.2
            | inl i ↦ grind (arith, common_steps, held, same_Holding, same_Some)
          ],
        );
      }

  -- words of zero, and no tenure begun
  pub fresh : (words : ℕ → ℕ) (standing : ℕ → Option (Standing E))
      → Agree at (rows * P.width n) (λ _. 0) words
      → ((p : ℕ) (s : Standing E) → standing p ≡ Some s → s ≡ Rests)
      → Tenures P n rows at words 0 true standing (λ _. 0) []
  fresh words standing zero rest = record {
    elections = λ t p. None;
    kept = λ t l. grind (arith, common_steps, row_within);
    ended = 0;
    stage_is = Open refl refl refl;
    begun = λ t p e f. absurd cc;
    electing = λ p t e f. absurd (resting_no_electing t e (sym (rest p (Runs t e) f)));
    holding = λ p t f. absurd (resting_no_holding t (sym (rest p (Holds t) f)));
    owned = λ t o f. let bad : None ≡ Some o = f in absurd cc;
  }

-- A schedule, played over one object.
use mathlib.Core.Path.{fun_ext}
use Rattle.std.specs.Option.{option_map}
use Rattle.std.proofs.Common.{replicate, slice_index, drop, ◌≡◌, ◌≢◌, ℕ, ◌+◌, ◌<◌, ◌≤◌, Bool, true}
use Rattle.std.proofs.Common.{false, cond, List, ◌++◌, length, get_or, slice_get, take, map}
use Rattle.std.proofs.Common.{nat_lt, Option, Some, None, IsSome, is_some, ◌⊎◌, inl, inr, ◌==◌}
use Rattle.std.proofs.Common.{arith, refl, sym, ◌∙◌, ap, subst}
use Rattle.std.proofs.lemmas.Bool.{cases_eq, cases_lt, true≢false, lt-ltb, le-ltb}
use Rattle.std.proofs.lemmas.Bool.Decides.{eqb_tells}
use Rattle.std.proofs.lemmas.Grind.{common_steps}
use Rattle.std.proofs.lemmas.List.{get_or-replicate, length-map, length-replicate, take_all}
use Rattle.std.proofs.lemmas.List.Sums.{count_by_more_yes, count_by_more_no}
use Rattle.std.proofs.lemmas.Option.{same_Some, slice_get_past, slice_get_within, slice_get-map}
use Rattle.bus_register.specs.declared.registers.Op.{Op}
use Rattle.bus_register.specs.Protocol.{Protocol, Laws, counted_input, inputs, outputs}
use Rattle.bus_register.specs.Tables.{of_some}
use Rattle.bus_register.specs.Private.TableLaws.{some_or_none, here_not}
use Rattle.bus_adoptcommit.specs.declared.verdicts.Verdict.{Verdict}
use Rattle.bus_adoptcommit.specs.Agreement.{Legal}
use Rattle.bus_adoptcommit.proofs.AgreementLaws.{Legal-fewer}
use Rattle.bus_adoptcommit.specs.Plays.{AtStarts, IsExact, IsPlay, Verdicts}
use Rattle.bus_adoptcommit.proofs.Moves.{Turn}
use Rattle.bus_adoptcommit.specs.Schedule.{table_of, entries, entered_input, finished_output}
use Rattle.bus_adoptcommit.specs.Schedule.{LegalThroughout}

-- ── lists ──
-- a vector that was lent whole
pub whole : {A : Type 0} (xs ys : List A) (k : ℕ) → k ≡ length xs → length ys ≡ length xs
    → take k (xs ++ drop (length xs) ys) ≡ xs
whole xs ys k e f = grind (arith, common_steps)

-- words of zero
pub length-zeros : (cells : List ℕ) (k : ℕ) → cells ≡ replicate k 0 → length cells ≡ k
length-zeros cells k e = ap length e ∙ length-replicate k 0

-- ── the entries of a schedule ──
entry_here : (schedule : List ℕ) (i p : ℕ) → i < length schedule → get_or schedule i 0 ≡ p
    → entries (take (i + 1) schedule) p ≡ entries (take i schedule) p + 1
entry_here schedule i p l e = count_by_more_yes (λ q. q == p) schedule i 0 l
    (elim (eqb_tells (get_or schedule i 0) p) [ inl h ↦ h.0 | inr h ↦ absurd (h.1 e) ])

entry_other : (schedule : List ℕ) (i p q : ℕ) → i < length schedule → get_or schedule i 0 ≡ p
    → q ≢ p → entries (take (i + 1) schedule) q ≡ entries (take i schedule) q
entry_other schedule i p q l e ne = count_by_more_no (λ r. r == q) schedule i 0 l
    (elim (eqb_tells (get_or schedule i 0) q) [ inl h ↦ absurd (ne (sym h.1 ∙ e)) | inr h ↦ h.0 ])

-- ── inputs that count, and outputs that stand ──
same_arms : (b : Bool) → cond {A = Option Bool} b None None ≡ None
same_arms true = refl
same_arms false = refl

-- who has no input has none that counts
pub entered-none : (given : List Bool) (sch : List ℕ) (p : ℕ) → slice_get given p ≡ None
    → entered_input given sch p ≡ None
entered-none given sch p e =
    ap (λ z. cond (nat_lt 0 (entries sch p)) z None) e ∙ same_arms (nat_lt 0 (entries sch p))

-- the outputs in a list, and in a table
pub mapped : {A B : Type 0} (f : A → Option B) (o : Option A)
    → of_some (λ x. x) (option_map f o) ≡ of_some f o
mapped f None = refl
mapped f (Some x) = refl

-- an output that stands is that of a process with all its entries
finished_is : (steps : ℕ) (v : ℕ → Option Verdict) (sch : List ℕ) (p : ℕ) (d : Verdict)
    → finished_output steps v sch p ≡ Some d → (steps ≤ entries sch p) × (v p ≡ Some d)
finished_is steps v sch p d e = elim (cases_lt (entries sch p) steps) [
  | inl l ↦
      absurd (let a : None ≡ Some d = ap (λ b. cond b None (v p)) (sym (lt-ltb _ _ l)) ∙ e in cc)
  | inr g ↦ (g, ap (λ b. cond b None (v p)) (sym (le-ltb _ _ g)) ∙ e)
]

finished_so : (steps : ℕ) (v : ℕ → Option Verdict) (sch : List ℕ) (p : ℕ) (d : Verdict)
    → steps ≤ entries sch p → v p ≡ Some d → finished_output steps v sch p ≡ Some d
finished_so steps v sch p d g e = ap (λ b. cond b None (v p)) (le-ltb _ _ g) ∙ e

module _ {S : Type 0} (op : S → ℕ → Option Op) (fed : S → ℕ → ℕ → S)
    (P : Protocol S Bool Verdict) where
  -- a local state of a process with this input, after this many entries
  pub record Follows (steps count : ℕ) (v : Bool) (s : S) : Type 0 where
    pub input : P.input s ≡ v
    -- an input counts from the first entry on
    pub begun : P.has_begun s ≡ nat_lt 0 count
    -- each entry takes one of the steps that are left, until an output stands
    pub ends : (P.left s + count ≤ steps) ⊎ IsSome (P.output s)
    pub exact : IsExact op fed P → (P.left s + count ≡ steps) ⊎ (steps ≤ count)

  -- each process follows its entries
  abbrev pub AllFollow : ℕ → List Bool → List ℕ → List S → Type 0
  AllFollow n given sch processes =
      (p : ℕ) (s : S) → slice_get processes p ≡ Some s
      → (v : Bool) × (slice_get given p ≡ Some v) × Follows (P.steps n) (entries sch p) v s

  -- after the first i entries of a schedule
  pub record Playing (n : ℕ) (given : List Bool) (schedule : List ℕ) (i : ℕ) (processes : List S) :
      Type 0 where
    pub size : length processes ≡ length given
    pub follows : AllFollow n given (take i schedule) processes
    -- who has all its entries in a prefix has them now
    pub past : (k p : ℕ) → k ≤ i → P.steps n ≤ entries (take k schedule) p
        → P.steps n ≤ entries (take i schedule) p
    pub legal : (k : ℕ) → k ≤ i
        → Legal (entered_input given (take k schedule))
        (finished_output (P.steps n) (outputs P (slice_get processes)) (take k schedule))

module _ {S : Type 0} (op : S → ℕ → Option Op) (fed : S → ℕ → ℕ → S) (P : Protocol S Bool Verdict)
    (laws : Laws op fed P Legal) where
  -- where a step is left, no output stands
  unended : (s : S) (o : Op) → op s 0 ≡ Some o → IsSome (P.output s) → ⊥
  unended s o e h = true≢false (sym h ∙ ap is_some (laws.unended s 0 o e))

  -- a process with all its entries takes no further step
  ended : (n count p : ℕ) (v : Bool) (s : S) → Follows op fed P (P.steps n) count v s
      → P.Belongs n p 0 s → P.steps n ≤ count → op s 0 ≡ None
  ended n count p v s f b l = elim (some_or_none (op s 0)) [
    | inl e ↦ e
    | inr o ↦ elim f.ends [
      | inl h ↦ absurd (let x = (laws.goes n p 0 s 0 0 o.0 b o.1).falls in omega arith)
      | inr h ↦ absurd (unended s o.0 o.1 h)
    ]
  ]

  -- one entry more, where no step is left
  follows_ended : (steps count : ℕ) (v : Bool) (s : S) → Follows op fed P steps count v s
      → op s 0 ≡ None → Follows op fed P steps (count + 1) v s
  follows_ended steps count v s f e =
      let some = (laws.ends s 0 e).0 in
      record {
        input = f.input;
        begun = (laws.ends s 0 e).1 ∙ sym (lt-ltb 0 (count + 1) (omega arith));
        ends = inr some;
        exact = λ x. elim (some_or_none (P.output s)) [
          | inl none ↦ absurd (true≢false (sym some ∙ ap is_some none))
          | inr d ↦ inr (let z = x.ends s d.0 d.1 in
              elim (f.exact x) [ inl y ↦ omega arith | inr y ↦ omega arith ])
        ];
      }

  -- one entry more, and a step
  follows_step : (n count p : ℕ) (v : Bool) (s : S) (o : Op) (got : ℕ)
      → Follows op fed P (P.steps n) count v s → P.Belongs n p 0 s → op s 0 ≡ Some o
      → Follows op fed P (P.steps n) (count + 1) v (fed s got 0)
  follows_step n count p v s o got f b e =
      let goes = laws.goes n p 0 s got 0 o b e in
      record {
        input = goes.input ∙ f.input;
        begun = goes.begun ∙ sym (lt-ltb 0 (count + 1) (omega arith));
        ends = elim f.ends [
          | inl l ↦ inl (let x = goes.falls in omega arith)
          | inr h ↦ absurd (unended s o e h)
        ];
        exact = λ x. elim (f.exact x) [
          | inl y ↦ inl (let z = x.falls n p 0 s got 0 o b e in omega arith)
          | inr y ↦ inr (omega arith)
        ];
      }

  -- the inputs that count are those of the processes with entries
  entered_is : (n : ℕ) (given : List Bool) (sch : List ℕ) (processes : List S)
      → length processes ≡ length given → AllFollow op fed P n given sch processes
      → entered_input given sch ≡ inputs P (slice_get processes)
  entered_is n given sch processes size f =
      fun_ext (λ p. elim (some_or_none (slice_get processes p)) [
        | inl e ↦
            entered-none given sch p (slice_get_past given p (elim (cases_lt p (length processes)) [
              | inl l ↦ absurd (here_not processes p l e)
              | inr g ↦ omega arith
            ])) ∙ sym (ap (of_some (counted_input P)) e)
        | inr s ↦ let a = f p s.0 s.1 in
            ap (λ z. cond (nat_lt 0 (entries sch p)) z None) (a.1 ∙ ap Some (sym a.2.input))
            ∙ ap (λ z. cond z (Some (P.input s.0)) None) (sym a.2.begun)
            ∙ sym (ap (of_some (counted_input P)) s.1)
      ])

  -- what stands now is legal
  legal_now : (n : ℕ) (given : List Bool) (sch : List ℕ) (processes : List S) (ws : ℕ → ℕ)
      → length processes ≡ length given → AllFollow op fed P n given sch processes
      → P.Keeps n 0 ws (slice_get processes)
      → Legal (entered_input given sch) (outputs P (slice_get processes))
  legal_now n given sch processes ws size f k = subst
      (λ z. Legal z (outputs P (slice_get processes)))
      (sym (entered_is n given sch processes size f)) (laws.outcome n 0 ws (slice_get processes) k)

  -- and so is a part of it
  legal_part : (n : ℕ) (given : List Bool) (sch : List ℕ) (processes : List S) (ws : ℕ → ℕ)
      → length processes ≡ length given → AllFollow op fed P n given sch processes
      → P.Keeps n 0 ws (slice_get processes)
      → Legal (entered_input given sch)
      (finished_output (P.steps n) (outputs P (slice_get processes)) sch)
  legal_part n given sch processes ws size f k = Legal-fewer _ _ _
      (λ q d e. (finished_is (P.steps n) (outputs P (slice_get processes)) sch q d e).1)
      (legal_now n given sch processes ws size f k)

  module _ (n : ℕ) (given : List Bool) (schedule : List ℕ) (i p : ℕ) (processes processes' : List S)
      (ws : ℕ → ℕ) (h : Playing op fed P n given schedule i processes)
      (k' : P.Keeps n 0 ws (slice_get processes'))
      (b : (q : ℕ) (s : S) → slice_get processes q ≡ Some s → P.Belongs n q 0 s)
      (l : i < length schedule) (e : get_or schedule i 0 ≡ p)
      (size : length processes' ≡ length processes)
      (turn : Turn op fed p (slice_get processes) (slice_get processes')) where
    -- the local state of p before
    before : (s : S) → slice_get processes' p ≡ Some s
        → (s0 : S) × (slice_get processes p ≡ Some s0)
    before s f = elim (some_or_none (slice_get processes p)) [
      | inl none ↦ absurd
          (here_not processes p (let x = slice_get_within processes' p s f in omega arith) none)
      | inr some ↦ some
    ]

    -- p follows its entries, with one more
    follows_here : (s : S) → slice_get processes' p ≡ Some s
        → (v : Bool) × (slice_get given p ≡ Some v)
        × Follows op fed P (P.steps n) (entries (take (i + 1) schedule) p) v s
    follows_here s f =
        let o = before s f in
        let a = h.follows p o.0 o.1 in
        let count = entries (take i schedule) p in
        let next =
        elim (turn.own o.0 o.1) as (λ _. Follows op fed P (P.steps n) (count + 1) a.0 s) [
          | inl x ↦ subst (Follows op fed P (P.steps n) (count + 1) a.0)
              (same_Some _ _ (sym x.1 ∙ f)) (follows_ended (P.steps n) count a.0 o.0 a.2 x.0)
          | inr x ↦ subst (Follows op fed P (P.steps n) (count + 1) a.0)
              (same_Some _ _ (sym x.3 ∙ f))
              (follows_step n count p a.0 o.0 x.0 x.1 a.2 (b p o.0 o.1) x.2)
        ] in (
          a.0,
          a.1,
          subst (λ z. Follows op fed P (P.steps n) z a.0 s) (sym (entry_here schedule i p l e))
              next,
        )

    -- each process does
    now_follows : AllFollow op fed P n given (take (i + 1) schedule) processes'
    now_follows q s f = elim (cases_eq q p) [
      | inl j ↦ subst (λ z.
          (v : Bool) × (slice_get given z ≡ Some v)
          × Follows op fed P (P.steps n) (entries (take (i + 1) schedule) z) v s) (sym j)
          (follows_here s (ap (slice_get processes') (sym j) ∙ f))
      | inr ne ↦
          let a = h.follows q s (sym (turn.others q ne) ∙ f) in (
            a.0,
            a.1,
            subst (λ z. Follows op fed P (P.steps n) z a.0 s)
                (sym (entry_other schedule i p q l e ne)) a.2,
          )
    ]

    -- no process has fewer
    grows : (q : ℕ) → entries (take i schedule) q ≤ entries (take (i + 1) schedule) q
    grows q = elim (cases_eq q p) [
      | inl j ↦ subst (λ z. entries (take i schedule) z ≤ entries (take (i + 1) schedule) z) (sym j)
          (let x = entry_here schedule i p l e in omega arith)
      | inr ne ↦ (let x = entry_other schedule i p q l e ne in omega arith)
    ]

    -- who had all its entries has them
    now_past : (k q : ℕ) → k ≤ i + 1 → P.steps n ≤ entries (take k schedule) q
        → P.steps n ≤ entries (take (i + 1) schedule) q
    now_past k q c z = elim (cases_lt i k) [
      | inl m ↦ subst (λ x. P.steps n ≤ entries (take x schedule) q) (omega arith) z
      | inr m ↦ (let x = h.past k q m z in let y = grows q in omega arith)
    ]

    -- p has all its entries, so its verdict stood before
    stood_here : (k : ℕ) → k ≤ i → (d : Verdict) → P.steps n ≤ entries (take k schedule) p
        → outputs P (slice_get processes') p ≡ Some d → outputs P (slice_get processes) p ≡ Some d
    stood_here k m d z f = elim (some_or_none (slice_get processes' p)) [
      | inl none ↦ absurd (let x : None ≡ Some d = sym (ap (of_some P.output) none) ∙ f in cc)
      | inr s ↦
          let o = before s.0 s.1 in
          let a = h.follows p o.0 o.1 in
          let stop =
          ended n (entries (take i schedule) p) p a.0 o.0 a.2 (b p o.0 o.1) (h.past k p m z) in
          elim (turn.own o.0 o.1) [
            | inl x ↦ ap (of_some P.output) (o.1 ∙ sym x.1) ∙ f
            | inr x ↦ absurd (let y : None ≡ Some x.0 = sym stop ∙ x.2 in cc)
          ]
    ]

    -- a verdict of a process with all its entries stood before
    stood : (k : ℕ) → k ≤ i → (q : ℕ) (d : Verdict) → P.steps n ≤ entries (take k schedule) q
        → outputs P (slice_get processes') q ≡ Some d → outputs P (slice_get processes) q ≡ Some d
    stood k m q d z f = elim (cases_eq q p) [
      | inr ne ↦ ap (of_some P.output) (sym (turn.others q ne)) ∙ f
      | inl j ↦ subst (λ x. outputs P (slice_get processes) x ≡ Some d) (sym j)
          (stood_here k m d (subst (λ x. P.steps n ≤ entries (take k schedule) x) j z)
          (ap (outputs P (slice_get processes')) (sym j) ∙ f))
    ]

    -- legal after each prefix, with one entry more
    now_legal : (k : ℕ) → k ≤ i + 1
        → Legal (entered_input given (take k schedule))
        (finished_output (P.steps n) (outputs P (slice_get processes')) (take k schedule))
    now_legal k m = elim (cases_lt i k) [
      | inr c ↦ Legal-fewer _ _ _ (λ q d f.
          let x =
          finished_is (P.steps n) (outputs P (slice_get processes')) (take k schedule) q d f in
          finished_so (P.steps n) (outputs P (slice_get processes)) (take k schedule) q d x.0
          (stood k c q d x.0 x.1)) (h.legal k c)
      | inl c ↦ subst (λ z. Legal (entered_input given (take z schedule))
          (finished_output (P.steps n) (outputs P (slice_get processes')) (take z schedule)))
          (omega arith)
          (legal_part n given (take (i + 1) schedule) processes' ws (size ∙ h.size) now_follows k')
    ]

    -- one entry more
    pub play_one : Playing op fed P n given schedule (i + 1) processes'
    play_one = record {
      size = size ∙ h.size;
      follows = now_follows;
      past = now_past;
      legal = now_legal;
    }

  -- no entry yet
  pub play_none : (n : ℕ) (given : List Bool) (schedule : List ℕ) (processes : List S)
      → n ≡ length given → n ≤ 64 → AtStarts P n n given processes
      → Playing op fed P n given schedule 0 processes
  play_none n given schedule processes e few h =
      let size : length processes ≡ length given = h.size ∙ e in
      let follows : AllFollow op fed P n given (take 0 schedule) processes
      =
      λ p s f.
      let a = h.starts p s f in
      let l = slice_get_within processes p s f in
      let size = h.size in
      let below : p < n = omega arith in let st = laws.starts n p 0 a.0 below few in (
        a.0,
        a.1,
        subst (Follows op fed P (P.steps n) (entries (take 0 schedule) p) a.0) (sym a.2) record {
          input = st.input;
          begun = st.fresh;
          ends = inl (let x = st.bounded in omega arith);
          exact = λ x. inl (let y = x.starts n p 0 a.0 below few in omega arith);
        },
      ) in
      record {
        size = size;
        follows = follows;
        past = λ k p c z.
            let e0 : k ≡ 0 = omega arith in
            subst (λ x. P.steps n ≤ entries (take x schedule) p) e0 z;
        legal = λ k c.
            let e0 : 0 ≡ k = omega arith in
            subst (λ x. Legal (entered_input given (take x schedule))
            (finished_output (P.steps n) (outputs P (slice_get processes)) (take x schedule))) e0
            (legal_part n given (take 0 schedule) processes (λ _. 0) size follows h.kept);
      }

  -- words of zero, as a list
  pub zero_words : (n : ℕ) (given : List Bool) (processes : List S) (cells : List ℕ)
      → AtStarts P n n given processes → cells ≡ replicate (P.width n) 0
      → P.Keeps n 0 (slice_index cells) (slice_get processes)
  zero_words n given processes cells h e = laws.frame n 0 (λ _. 0) (slice_index cells)
      (slice_get processes) (slice_get processes) h.kept
      (λ r a b. ap (λ z. get_or z r 0) e ∙ get_or-replicate (P.width n) r 0 0 (omega arith))
      (λ q. refl)

  -- ── the verdicts at the end ──
  module _ (given : List Bool) (schedule : List ℕ) (processes : List S)
      (outs : List (Option Verdict)) (i : ℕ) (ws : ℕ → ℕ) (l : length schedule ≤ i)
      (h : Playing op fed P (length given) given schedule i processes)
      (k : P.Keeps (length given) 0 ws (slice_get processes)) (e : outs ≡ map P.output processes)
      (play : IsPlay op fed P given schedule outs) where
    -- the list of outputs is the table of outputs
    verdicts_are : table_of outs ≡ outputs P (slice_get processes)
    verdicts_are =
        ap table_of e
        ∙ fun_ext (λ p.
        ap (of_some (λ o. o)) (slice_get-map P.output processes p)
        ∙ mapped P.output (slice_get processes p))

    -- the whole schedule was played
    all_follow : AllFollow op fed P (length given) given schedule processes
    all_follow = subst (λ z. AllFollow op fed P (length given) given z processes)
        (take_all i schedule l) h.follows

    legal_after : (j : ℕ)
        → Legal (entered_input given (take j schedule))
        (finished_output (P.steps (length given)) (outputs P (slice_get processes))
        (take j schedule))
    legal_after j = elim (cases_lt i j) [
      | inr c ↦ h.legal j c
      | inl c ↦ subst (λ z. Legal (entered_input given z)
          (finished_output (P.steps (length given)) (outputs P (slice_get processes)) z))
          (take_all i schedule l ∙ sym (take_all j schedule (omega arith)))
          (h.legal i (omega arith))
    ]

    -- the verdict of a process with all its entries
    stands : (p : ℕ) (s : S) → slice_get processes p ≡ Some s
        → P.steps (length given) ≤ entries schedule p → IsSome (outputs P (slice_get processes) p)
    stands p s f c =
        let a = all_follow p s f in
        let belongs = (laws.known (length given) 0 ws (slice_get processes) p s k f).1 in
        ap (λ z. is_some (of_some P.output z)) f
        ∙ (laws.ends s 0 (ended (length given) (entries schedule p) p a.0 s a.2 belongs c)).0

    -- a process with fewer has none
    open_at : IsExact op fed P → (p : ℕ) → entries schedule p < P.steps (length given)
        → (o : Option S) → slice_get processes p ≡ o → of_some P.output o ≡ None
    open_at x p c None f = refl
    open_at x p c (Some s) f = elim (some_or_none (P.output s)) [
      | inl none ↦ none
      | inr d ↦ absurd (let z = x.ends s d.0 d.1 in
          elim ((all_follow p s f).2.exact x) [ inl y ↦ omega arith | inr y ↦ omega arith ])
    ]

    -- all that is promised
    pub verdicts_after : Verdicts op fed P given schedule outs
    verdicts_after = record {
      play = play;
      one_each = ap length e ∙ length-map processes P.output ∙ h.size;
      throughout = subst (LegalThroughout (P.steps (length given)) given schedule)
          (sym verdicts_are) legal_after;
      at_end = subst (Legal (entered_input given schedule)) (sym verdicts_are)
          (legal_now (length given) given schedule processes ws h.size all_follow k);
      stands = λ p below c. subst (λ z. IsSome (z p)) (sym verdicts_are)
          (elim (some_or_none (slice_get processes p)) [
            | inl none ↦ absurd (here_not processes p (let z = h.size in omega arith) none)
            | inr s ↦ stands p s.0 s.1 c
          ]);
      stays_open = λ x p c. ap (λ z. z p) verdicts_are ∙ open_at x p c (slice_get processes p) refl;
    }

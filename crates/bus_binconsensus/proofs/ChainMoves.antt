-- A step of one process keeps what a chain keeps, and so does a start.
use Rattle.std.proofs.Common.{◌≡◌, ◌≢◌, ℕ, ◌+◌, ◌-◌, ◌<◌, ◌≤◌, Bool, cond, Option, Some, None, inl}
use Rattle.std.proofs.Common.{inr, ◌⊎◌, arith, refl, sym, ◌∙◌, ap, subst}
use Rattle.std.proofs.lemmas.Bool.{cases_eq, cases_lt}
use Rattle.std.proofs.lemmas.Bool.Decides.{eqb_tells}
use Rattle.std.proofs.lemmas.Option.{same_Some}
use Rattle.bus_register.specs.declared.registers.Op.{Op}
use Rattle.bus_register.specs.Words.{register}
use Rattle.bus_register.specs.Tables.{Beside, Stepped, put}
use Rattle.bus_register.specs.Private.TableLaws.{put_here, put_beside}
use Rattle.bus_register.specs.Protocol.{Laws, Goes}
use Rattle.bus_adoptcommit.specs.declared.verdicts.Verdict.{Verdict}
use Rattle.bus_adoptcommit.specs.declared.verdicts.Verdict.TheVariants.{Commit, Adopt}
use Rattle.bus_binconsensus.specs.Chain.{Objects, Link, span, link_entered, handed_by, chain_fed}
use Rattle.bus_binconsensus.specs.Chain.{chain_started, Passed, Walk, Rests, ChainKeeps}
use Rattle.bus_binconsensus.proofs.ChainSteps.{HandsOn, span_own, span_next, span_below}
use Rattle.bus_binconsensus.proofs.ChainSteps.{span_within}

-- a table of tables with another value at one place
abbrev pub put_at : {A : Type 0} → ℕ → ℕ → A → (ℕ → ℕ → A) → ℕ → ℕ → A
put_at k p x table = put k (put p x (table k)) table

pub put_at_here : {A : Type 0} (k p : ℕ) (x : A) (table : ℕ → ℕ → A) → put_at k p x table k p ≡ x
put_at_here k p x table =
    ap (λ f. f p) (put_here k (put p x (table k)) table) ∙ put_here p x (table k)

-- the other objects
pub put_at_object : {A : Type 0} (k p : ℕ) (x : A) (table : ℕ → ℕ → A) (j q : ℕ) → j ≢ k
    → put_at k p x table j q ≡ table j q
put_at_object k p x table j q ne = ap (λ f. f q) (put_beside k (put p x (table k)) table j ne)

-- the other processes
pub put_at_process : {A : Type 0} (k p : ℕ) (x : A) (table : ℕ → ℕ → A) (j q : ℕ) → q ≢ p
    → put_at k p x table j q ≡ table j q
put_at_process k p x table j q ne = elim (cases_eq j k) [
  | inl i ↦ subst (λ z. put_at k p x table z q ≡ table z q) (sym i)
      (ap (λ f. f q) (put_here k (put p x (table k)) table) ∙ put_beside p x (table k) q ne)
  | inr other ↦ put_at_object k p x table j q other
]

module _ {X : Type 0} (op : X → ℕ → Option Op) (fed : X → ℕ → ℕ → X) (objects : Objects X)
    (laws : (k : ℕ) → Laws op fed (objects k) HandsOn) (top n at : ℕ) where
  -- each object keeps what it keeps
  abbrev AllKept : (ℕ → ℕ) → (ℕ → ℕ → Option X) → Type 0
  AllKept words visits =
      (k r : ℕ) → k ≤ top → r + span objects n k ≡ at + span objects n top
      → (objects k).Keeps n r words (visits k)

  -- a fresh process has no output
  fresh_open : (k me r : ℕ) (v : Bool) → me < n → n ≤ 64
      → (objects k).output ((objects k).started n me v r) ≡ None
  fresh_open k me r v below few =
      let s : X = (objects k).started n me v r in
      let f = ((laws k).starts n me r v below few).fresh in
      let by : (x : Option Op) → op s 0 ≡ x → (objects k).output s ≡ None =
      λ x. elim x as (λ z. op s 0 ≡ z → (objects k).output s ≡ None) [
        | None ↦ λ e. absurd (let g = ((laws k).ends s 0 e).1 in cc)
        | Some o ↦ λ e. (laws k).unended s 0 o e
      ] in
      by (op s 0) refl

  -- a walk is the same where its visits are
  walk_same : (old new : ℕ → ℕ → Option X) (p : ℕ) (d : Link X) → ((k : ℕ) → new k p ≡ old k p)
      → Walk objects top n at old p d → Walk objects top n at new p d
  walk_same old new p d same w = record {
    belongs = w.belongs;
    here = same d.after ∙ w.here;
    ahead = λ k h. same k ∙ w.ahead k h;
    first = λ x e. w.first x (sym (same top) ∙ e);
    passed = λ k h h'.
        let a = w.passed k h h' in
        record {
          before = a.before;
          next = a.next;
          before_is = same k ∙ a.before_is;
          next_is = same (k - 1) ∙ a.next_is;
          handed = a.handed;
        };
  }

  -- process p enters object k, where it was not yet
  module _ (words : ℕ → ℕ) (visits : ℕ → ℕ → Option X) (kept : AllKept words visits) (p k r : ℕ)
      (v : Bool)
      (within : k ≤ top) (place : r + span objects n k ≡ at + span objects n top) (below : p < n)
      (few : n ≤ 64) (none : visits k p ≡ None) where
    abbrev entered_visits : ℕ → ℕ → Option X
    entered_visits = put_at k p (Some ((objects k).started n p v r)) visits

    entered_kept : AllKept words entered_visits
    entered_kept j s h e = elim (cases_eq j k) [
      | inl i ↦
          let same : s ≡ r =
          let x : span objects n j ≡ span objects n k = ap (span objects n) i in omega arith in
          subst (λ z. (objects z).Keeps n s words (entered_visits z)) (sym i)
          (subst (λ z. (objects k).Keeps n z words (entered_visits k)) (sym same)
          ((laws k).enters n r words (visits k) (entered_visits k) p v (kept k r within place) below
          few none (put_at_here k p _ visits) (λ q ne. put_at_process k p _ visits k q ne)))
      | inr ne ↦ (laws j).frame n s words words (visits j) (entered_visits j) (kept j s h e)
          (λ q a b. refl) (λ q. put_at_object k p _ visits j q ne)
    ]

  -- process p steps in the object where it stands
  module _ (words words' : ℕ → ℕ) (visits : ℕ → ℕ → Option X) (kept : AllKept words visits) (p : ℕ)
      (d : Link X) (walk : Walk objects top n at visits p d)
      (word : ℕ) (o : Op) (next : op d.object word ≡ Some o)
      (step : Stepped at (span objects n top) o words words') where
    abbrev stepped_object : X
    stepped_object = fed d.object (words (register o)) word

    abbrev stepped_visits : ℕ → ℕ → Option X
    stepped_visits = put_at d.after p (Some stepped_object) visits

    own_goes : Goes (objects d.after) n p d.at o d.object stepped_object
    own_goes =
        (laws d.after).goes n p d.at d.object (words (register o)) word o walk.belongs.object next

    stepped_kept : AllKept words' stepped_visits
    stepped_kept k r h e =
        let above = own_goes.above in
        let below = own_goes.below in
        let place = walk.belongs.place in
        let wide = span_within objects n k top h in
        let mine = span_own objects n k in
        elim (cases_eq k d.after) [
          | inl i ↦
              let same : r ≡ d.at =
              let x : span objects n k ≡ span objects n d.after = ap (span objects n) i in
              omega arith in
              let room = span_own objects n d.after in
              let deep = span_within objects n d.after top walk.belongs.within in
              subst (λ z. (objects z).Keeps n r words' (stepped_visits z)) (sym i)
              (subst (λ z. (objects d.after).Keeps n z words' (stepped_visits d.after)) (sym same)
              ((laws d.after).moves n d.at words words' (visits d.after) (stepped_visits d.after) p
              d.object word o (kept d.after d.at walk.belongs.within place) walk.here next
              (put_at_here d.after p _ visits)
              (λ q ne. put_at_process d.after p _ visits d.after q ne)
              record {
                here = step.here;
                elsewhere = λ q a b ne. step.elsewhere q (omega arith) (omega arith) ne;
              }))
          | inr ne ↦
              let apart : (register o < r) ⊎ (r + (objects k).width n ≤ register o) =
              elim (cases_lt k d.after) [
                | inl lt ↦ let s = span_below objects n k d.after lt in inl (omega arith)
                | inr ge ↦ let s = span_below objects n d.after k (omega arith) in inr (omega arith)
              ] in
              (laws k).frame n r words words' (visits k) (stepped_visits k) (kept k r h e)
              (λ q a b. step.elsewhere q (omega arith) (omega arith)
              (λ i. elim apart [ inl x ↦ omega arith | inr x ↦ omega arith ]))
              (λ q. put_at_object d.after p _ visits k q ne)
        ]

    -- the way so far, with the new local state
    stepped_walk : Walk objects top n at stepped_visits p (record d { object = stepped_object })
    stepped_walk = record {
      belongs =
          let b = walk.belongs in
          record {
            n_is = b.n_is;
            me_is = b.me_is;
            below = b.below;
            few = b.few;
            within = b.within;
            place = b.place;
            object = own_goes.belongs;
          };
      here = put_at_here d.after p _ visits;
      ahead = λ k h. put_at_object d.after p _ visits k p (omega arith) ∙ walk.ahead k h;
      first = λ x e. elim (cases_eq top d.after) [
        | inl i ↦
            let same : x ≡ stepped_object = same_Some _ _
            (sym e ∙ ap (λ z. stepped_visits z p) i ∙ put_at_here d.after p _ visits) in
            ap (objects top).input same ∙ ap (λ z. (objects z).input stepped_object) i
            ∙ own_goes.input ∙ ap (λ z. (objects z).input d.object) (sym i)
            ∙ walk.first d.object (ap (λ z. visits z p) i ∙ walk.here)
        | inr ne ↦ walk.first x (sym (put_at_object d.after p _ visits top p ne) ∙ e)
      ];
      passed = λ k h h'.
          let a = walk.passed k h h' in
          let before_is : stepped_visits k p ≡ Some a.before =
          put_at_object d.after p _ visits k p (omega arith) ∙ a.before_is in
          elim (cases_eq (k - 1) d.after) [
            | inl i ↦
                let same : a.next ≡ d.object =
                same_Some _ _ (sym a.next_is ∙ ap (λ z. visits z p) i ∙ walk.here) in
                let stays : (objects (k - 1)).input a.next
                ≡ (objects (k - 1)).input stepped_object =
                ap (objects (k - 1)).input same ∙ ap (λ z. (objects z).input d.object) i
                ∙ sym own_goes.input ∙ ap (λ z. (objects z).input stepped_object) (sym i) in
                record {
                  before = a.before;
                  next = stepped_object;
                  before_is = before_is;
                  next_is = ap (λ z. stepped_visits z p) i ∙ put_at_here d.after p _ visits;
                  handed = a.handed ∙ ap (λ z. Some (Adopt z)) stays;
                }
            | inr ne ↦ record {
              before = a.before;
              next = a.next;
              before_is = before_is;
              next_is = put_at_object d.after p _ visits (k - 1) p ne ∙ a.next_is;
              handed = a.handed;
            }
          ];
    }

  -- process p, which stands in an object that adopted v, enters the next one
  module _ (visits : ℕ → ℕ → Option X) (p : ℕ) (d : Link X)
      (walk : Walk objects top n at visits p d) (v : Bool) (more : d.after ≢ 0)
      (adopted : (objects d.after).output d.object ≡ Some (Adopt v)) where
    abbrev next_visits : ℕ → ℕ → Option X
    next_visits = put_at (d.after - 1) p
        (Some ((objects (d.after - 1)).started n p v (d.at + (objects d.after).width n))) visits

    next_place : (d.at + (objects d.after).width n) + span objects n (d.after - 1)
        ≡ at + span objects n top
    next_place =
        let s = span_next objects n d.after more in let b = walk.belongs.place in omega arith

    -- what the machine holds is what stands in the table
    object_is : (link_entered objects d v).object
        ≡ (objects (d.after - 1)).started n p v (d.at + (objects d.after).width n)
    object_is =
        ap (λ z. (objects (d.after - 1)).started d.n d.me v (d.at + (objects d.after).width z))
        walk.belongs.n_is
        ∙ ap (λ z. (objects (d.after - 1)).started z d.me v (d.at + (objects d.after).width n))
        walk.belongs.n_is
        ∙ ap (λ z. (objects (d.after - 1)).started n z v (d.at + (objects d.after).width n))
        walk.belongs.me_is

    next_walk : Walk objects top n at next_visits p (link_entered objects d v)
    next_walk = record {
      belongs = let b = walk.belongs in record {
        n_is = b.n_is;
        me_is = b.me_is;
        below = b.below;
        few = b.few;
        within = let w = b.within in omega arith;
        place =
            let w : (objects d.after).width d.n ≡ (objects d.after).width n =
            ap (objects d.after).width b.n_is in
            let s = next_place in omega arith;
        object = subst (λ z. (objects (d.after - 1)).Belongs n p (d.at + (objects d.after).width z)
            (link_entered objects d v).object) (sym b.n_is)
            (subst (λ z. (objects (d.after - 1)).Belongs n p (d.at + (objects d.after).width n) z)
            (sym object_is) ((laws (d.after - 1)).starts n p _ v b.below b.few).belongs);
      };
      here = put_at_here (d.after - 1) p _ visits ∙ ap Some (sym object_is);
      ahead = λ k h.
          put_at_object (d.after - 1) p _ visits k p (omega arith) ∙ walk.ahead k (omega arith);
      first = λ x e. walk.first x
          (sym (put_at_object (d.after - 1) p _ visits top p
          (let w = walk.belongs.within in omega arith)) ∙ e);
      passed = λ k h h'. elim (cases_eq k d.after) [
        | inl i ↦ subst (Passed objects next_visits p) (sym i) record {
          before = d.object;
          next = (objects (d.after - 1)).started n p v (d.at + (objects d.after).width n);
          before_is = put_at_object (d.after - 1) p _ visits d.after p (omega arith) ∙ walk.here;
          next_is = put_at_here (d.after - 1) p _ visits;
          handed =
              adopted
              ∙ ap (λ z. Some (Adopt z))
              (sym ((laws (d.after - 1)).starts n p _ v walk.belongs.below walk.belongs.few).input);
        }
        | inr ne ↦
            let a = walk.passed k (omega arith) h' in
            record {
              before = a.before;
              next = a.next;
              before_is = put_at_object (d.after - 1) p _ visits k p (omega arith) ∙ a.before_is;
              next_is = put_at_object (d.after - 1) p _ visits (k - 1) p (omega arith) ∙ a.next_is;
              handed = a.handed;
            }
      ];
    }

    next_rests : Rests objects (link_entered objects d v)
    next_rests w e = absurd (let f = fresh_open (d.after - 1) p (d.at + (objects d.after).width n) v
        walk.belongs.below walk.belongs.few in
        let g = sym (ap (objects (d.after - 1)).output object_is ∙ f) ∙ e in cc g)

  -- the whole step
  module _ (words words' : ℕ → ℕ) (old new : ℕ → Option (Link X)) (p : ℕ) (d : Link X) (word : ℕ)
      (o : Op)
      (k : ChainKeeps objects top n at words old) (here : old p ≡ Some d)
      (next : op d.object word ≡ Some o)
      (goes : new p ≡ Some (chain_fed objects fed d (words (register o)) word))
      (beside : Beside p old new) (step : Stepped at (span objects n top) o words words') where
    walk : Walk objects top n at k.visits p d
    walk = k.walks p d here

    abbrev stayed : Link X
    stayed = record d { object = fed d.object (words (register o)) word }

    abbrev visits1 : ℕ → ℕ → Option X
    visits1 = put_at d.after p (Some (fed d.object (words (register o)) word)) k.visits

    kept1 : AllKept words' visits1
    kept1 = stepped_kept words words' k.visits k.kept p d walk word o next step

    walk1 : Walk objects top n at visits1 p stayed
    walk1 = stepped_walk words words' k.visits k.kept p d walk word o next step

    -- with these visits, where p stands thus
    keeps_with : (visits : ℕ → ℕ → Option X) (e : Link X) → AllKept words' visits
        → ((j q : ℕ) → q ≢ p → visits j q ≡ k.visits j q) → new p ≡ Some e
        → Walk objects top n at visits p e → Rests objects e
        → ChainKeeps objects top n at words' new
    keeps_with visits e kept same now w rests = record {
      visits = visits;
      kept = kept;
      walks = λ q d' f. elim (cases_eq q p) [
        | inl i ↦ subst (λ z. Walk objects top n at visits z d') (sym i)
            (subst (Walk objects top n at visits p) (same_Some _ _ (sym now ∙ ap new (sym i) ∙ f))
            w)
        | inr ne ↦
            walk_same k.visits visits q d' (λ j. same j q ne) (k.walks q d' (sym (beside q ne) ∙ f))
      ];
      rests = λ q d' f. elim (cases_eq q p) [
        | inl i ↦ subst (Rests objects) (same_Some _ _ (sym now ∙ ap new (sym i) ∙ f)) rests
        | inr ne ↦ k.rests q d' (sym (beside q ne) ∙ f)
      ];
      absent = λ q j f. elim (cases_eq q p) [
        | inl i ↦ absurd (let x = sym now ∙ ap new (sym i) ∙ f in cc)
        | inr ne ↦ same j q ne ∙ k.absent q j (sym (beside q ne) ∙ f)
      ];
    }

    stays : new p ≡ Some stayed → Rests objects stayed → ChainKeeps objects top n at words' new
    stays now rests = keeps_with visits1 stayed kept1
        (λ j q ne. put_at_process d.after p _ k.visits j q ne) now walk1 rests

    enters : (v : Bool) → d.after ≢ 0 → (objects d.after).output stayed.object ≡ Some (Adopt v)
        → new p ≡ Some (link_entered objects stayed v) → ChainKeeps objects top n at words' new
    enters v more adopted now =
        let r : ℕ = d.at + (objects d.after).width n in
        let b = walk1.belongs in
        keeps_with (next_visits visits1 p stayed walk1 v more adopted)
        (link_entered objects stayed v)
        (entered_kept words' visits1 kept1 p (d.after - 1) r v (let w = b.within in omega arith)
        (next_place visits1 p stayed walk1 v more adopted) b.below b.few
        (walk1.ahead (d.after - 1) (omega arith)))
        (λ j q ne.
        put_at_process (d.after - 1) p _ visits1 j q ne
        ∙ put_at_process d.after p _ k.visits j q ne)
        now (next_walk visits1 p stayed walk1 v more adopted)
        (next_rests visits1 p stayed walk1 v more adopted)

    by_verdict : (x : Option Verdict) → (objects d.after).output stayed.object ≡ x
        → new p ≡ Some (handed_by objects x stayed) → ChainKeeps objects top n at words' new
    by_verdict None e now = stays now (λ v f. absurd (let g = sym e ∙ f in cc g))
    by_verdict (Some (Commit u)) e now = stays now (λ v f. absurd (let g = sym e ∙ f in cc g))
    by_verdict (Some (Adopt u)) e now = elim (eqb_tells d.after 0) [
      | inl h ↦ stays (now ∙ ap (λ z. Some (cond z stayed (link_entered objects stayed u))) h.0)
          (λ v f. h.1)
      | inr h ↦
          enters u h.1 e (now ∙ ap (λ z. Some (cond z stayed (link_entered objects stayed u))) h.0)
    ]

    pub chain_moves : ChainKeeps objects top n at words' new
    chain_moves = by_verdict ((objects d.after).output stayed.object) refl goes

  module _ (words : ℕ → ℕ) (old new : ℕ → Option (Link X)) (p : ℕ) (v : Bool)
      (k : ChainKeeps objects top n at words old) (below : p < n) (few : n ≤ 64)
      (none : old p ≡ None)
      (goes : new p ≡ Some (chain_started objects top n p v at)) (beside : Beside p old new) where
    abbrev start_visits : ℕ → ℕ → Option X
    start_visits = put_at top p (Some ((objects top).started n p v at)) k.visits

    start_walk : Walk objects top n at start_visits p (chain_started objects top n p v at)
    start_walk =
        let a = (laws top).starts n p at v below few in
        record {
          belongs = record {
            n_is = refl;
            me_is = refl;
            below = below;
            few = few;
            within = omega arith;
            place = refl;
            object = a.belongs;
          };
          here = put_at_here top p _ k.visits;
          ahead = λ j h. put_at_object top p _ k.visits j p (omega arith) ∙ k.absent p j none;
          first = λ x e.
              ap (objects top).input (same_Some _ _ (sym e ∙ put_at_here top p _ k.visits))
              ∙ a.input;
          passed = λ j h h'. absurd (omega arith);
        }

    pub chain_enters : ChainKeeps objects top n at words new
    chain_enters = record {
      visits = start_visits;
      kept = entered_kept words k.visits k.kept p top at v (omega arith) refl below few
          (k.absent p top none);
      walks = λ q d' f. elim (cases_eq q p) [
        | inl i ↦ subst (λ z. Walk objects top n at start_visits z d') (sym i)
            (subst (Walk objects top n at start_visits p)
            (same_Some _ _ (sym goes ∙ ap new (sym i) ∙ f)) start_walk)
        | inr ne ↦ walk_same k.visits start_visits q d'
            (λ j. put_at_process top p _ k.visits j q ne) (k.walks q d' (sym (beside q ne) ∙ f))
      ];
      rests = λ q d' f. elim (cases_eq q p) [
        | inl i ↦ subst (Rests objects) (same_Some _ _ (sym goes ∙ ap new (sym i) ∙ f))
            (λ w e. absurd (let z = fresh_open top p at v below few in cc))
        | inr ne ↦ k.rests q d' (sym (beside q ne) ∙ f)
      ];
      absent = λ q j f. elim (cases_eq q p) [
        | inl i ↦ absurd (let x = sym goes ∙ ap new (sym i) ∙ f in cc)
        | inr ne ↦ put_at_process top p _ k.visits j q ne ∙ k.absent q j (sym (beside q ne) ∙ f)
      ];
    }

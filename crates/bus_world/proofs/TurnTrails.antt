-- A turn of a sender keeps what ties the trails to the senders' side.
use Rattle.std.proofs.Common.{◌≡◌, ◌≢◌, ℕ, ◌+◌, ◌*◌, ◌/◌, ◌<◌, ◌≤◌, Bool, true, false, cond, ◌==◌}
use Rattle.std.proofs.Common.{nat_lt, nat_le, Option, Some, None, is_some, ◌⊎◌, inl, inr, List, []}
use Rattle.std.proofs.Common.{◌∷◌, ◌++◌, length, slice_get, slice_index, slice_set, arith, refl}
use Rattle.std.proofs.Common.{sym, ◌∙◌, ap, subst}
use Rattle.std.proofs.lemmas.Bool.{cases_lt, leb-false, true≢false}
use Rattle.std.proofs.lemmas.Bool.Decides.{eqb_tells}
use Rattle.std.proofs.lemmas.List.{append-nil}
use Rattle.std.proofs.lemmas.Option.{same_Some, slice_get_within, none-some}
use Rattle.std.proofs.lemmas.Grind.{common_steps}
use Rattle.bus_register.specs.declared.kinds.Kind.{Kind}
use Rattle.bus_register.specs.declared.kinds.Kind.TheVariants as kind
use Rattle.bus_register.specs.declared.registers.Op.{Op}
use Rattle.bus_register.specs.declared.registers.Op.TheVariants.{Load, Store}
use Rattle.bus_register.specs.Words.{register}
use Rattle.bus_register.specs.Tables.{of_some, put, Agree, Beside}
use Rattle.bus_register.specs.Private.TableLaws.{put_here, put_beside, some_or_none, get_set_same}
use Rattle.bus_register.specs.Private.TableLaws.{get_set_other}
use Rattle.bus_register.specs.Protocol.{Protocol, Laws, Starts, counted_input}
use Rattle.bus_tenure.specs.Core.{Core, Election, Layout, log_at, row_at, frame_len, has_room}
use Rattle.bus_tenure.specs.Core.{cell_of}
use Rattle.bus_tenure.specs.Situations.{Situation, LooksAtStage, Elects, TakesPage, StoresWord}
use Rattle.bus_tenure.specs.Situations.{StoresLength, GivesBack, situation_at, situation_of}
use Rattle.bus_tenure.specs.Situations.{resting, electing, holding, core_begun, waits, core_elected}
use Rattle.bus_tenure.specs.Situations.{core_at_rest, answer_at, op_at, kind_at}
use Rattle.bus_tenure.specs.Private.LineParts.{tenure_at, chosen_at}
use Rattle.bus_tenure.specs.declared.pages.Page.{Page}
use Rattle.bus_tenure.specs.declared.phases.Reason.{Reason}
use Rattle.bus_tenure.specs.declared.phases.Reason.TheVariants.{Sent, FoundEnd, NoRoom}
use Rattle.bus_tenure.specs.declared.phases.Phase.{Phase}
use Rattle.bus_tenure.specs.declared.phases.Phase.TheVariants as phase
use Rattle.bus_tenure.specs.declared.turns.Turn.{Turn as Answered}
use Rattle.bus_batch.specs.Batches.{frame_of}
use Rattle.bus_batch.specs.Frames.{Frame, frame_words}
use Rattle.bus_ownerbits.specs.OneOwner.{OneOwner}
use Rattle.bus_ownerbits.proofs.ElectionSteps.{row_within}
use Rattle.bus_world.specs.Private.Tenures.Standing.{Runs}
use Rattle.bus_world.proofs.TenuresLaws as tenures
use Rattle.bus_world.specs.World.{IsLayout}
use Rattle.bus_world.specs.Private.Sending.{least_of, Part, Fits, Sending, stands_at}
use Rattle.bus_world.specs.Private.Machines.{Side, core_after, owners_after, side_after}
use Rattle.bus_world.specs.Turning.{words_after, number_found, core_with_page}
use Rattle.bus_world.proofs.BusLaws as bus
use Rattle.bus_world.proofs.TurningLaws.{IsSide, Steps, stepped-steps, turn_within, open_stage}
use Rattle.bus_world.specs.declared.events.Answer.TheVariants as answer
use Rattle.bus_world.specs.Headline.{Action, Stepped, Announced, Elected}
use Rattle.bus_world.specs.Trails.{step_action}
use Rattle.bus_world.specs.Private.Trails.{turn_actions}
use Rattle.bus_world.proofs.Tying.{next_at, next_tenure, Tables, PageTies}
use Rattle.bus_world.proofs.Places.{got_after}
use Rattle.bus_world.proofs.TableTrails.{IsPlain, plain_none, plain_step, one_elected, one_took}
use Rattle.bus_world.proofs.TableTrails.{Longer, announced_still, takers_stay, takers_more, GoesOn}
use Rattle.bus_world.proofs.TableTrails.{tables_stay, tables_step}

-- what words, senders and owners keep with trails
pub record TiesOf {E : Type 0} (P : Protocol E (Unit {0}) ℕ) (x : Layout) (words : ℕ → ℕ)
    (senders : ℕ → Option (Core E)) (owners : List ℕ) (actions : ℕ → List Action) : Type 0 where
  pub tables : Tables P x words senders actions
  pub takers : PageTies owners actions

-- what the senders' side of a machine keeps with them
abbrev pub Ties : {E : Type 0} → Protocol E (Unit {0}) ℕ → Layout → Side E → (ℕ → List Action)
    → Type 0
Ties P x side actions =
    TiesOf P x (slice_index side.words) (slice_get side.senders) side.owners actions

pub longer_by : (p : ℕ) (ds : List Action) (D : ℕ → List Action)
    → Longer p ds D (λ q. D q ++ cond (q == p) ds [])
longer_by p ds D = grind (arith, common_steps, eqb_tells, append-nil)

taken_apart : {E : Type 0} (t u : ℕ) (f : E) → phase.Taken t ≡ phase.Electing u f → ⊥
taken_apart t u f i = cc

module _ {E : Type 0} (c : Core E) (t : ℕ) (later : E) where
  elected_next : (owner : Option ℕ) → next_tenure (core_elected c t later owner) ≡ t + 1
  elected_next None = refl
  elected_next (Some o) = grind (arith, common_steps, next_tenure)

  elected_phase : (owner : Option ℕ) (u : ℕ) (f : E)
      → (core_elected c t later owner).phase ≡ phase.Electing u f → (t ≡ u) × (later ≡ f)
  elected_phase None u f i = bus.same_electing t u later f i
  elected_phase (Some o) u f i = grind (arith, common_steps, bus.same_electing, bus.resting_apart)

module _ {base : ℕ → ℕ} {E : Type 0} (X : Election E) (P : Protocol E (Unit {0}) ℕ)
    (laws : Laws X.op X.fed P OneOwner) (x : Layout) (ok : IsLayout x)
    (width : x.width ≡ P.width x.senders)
    (starts : (n me at : ℕ) → X.started n me x.rounds at ≡ P.started n me tt at)
    (owner_is : (e : E) → X.owner e ≡ P.output e)
    (named : (e : E) (word : ℕ) → is_some (X.kind_of e) ≡ is_some (X.op e word))
    (announces : (e : E) → P.has_begun e ≡ false → X.kind_of e ≡ Some kind.Announce)
    (apart : (e : E) → X.kind_of e ≡ Some kind.TakePage → ⊥)
    (words : ℕ → ℕ) (home : Option Page) (senders : ℕ → Option (Core E)) (owners : List ℕ)
    (frames : List Frame) (h : Sending base P x words home senders owners frames)
    (p : ℕ) (c : Core E) (old : senders p ≡ Some c) (D : ℕ → List Action)
    (T : TiesOf P x words senders owners D)
    (words' : ℕ → ℕ) (senders' : ℕ → Option (Core E)) (beside : Beside p senders senders') where
  part : Part base x words frames p c
  part = h.parts p c old

  abbrev with_actions : List Action → ℕ → List Action
  with_actions ds q = D q ++ cond (q == p) ds []

  follows : (c' : Core E) → senders' p ≡ Some c' → next_tenure c ≤ next_tenure c'
      → GoesOn p c c' senders senders'
  follows c' new l = record { before = old; now = new; others = beside; rises = l }

  -- nothing is elected and no page taken
  pub calm : (c' : Core E) → senders' p ≡ Some c' → (ds : List Action)
      → Agree 2 (x.rows * P.width x.senders) words words' → next_tenure c ≤ next_tenure c'
      → ((t : ℕ) (e : E) → c'.phase ≡ phase.Electing t e → c.phase ≡ phase.Electing t e)
      → IsPlain ds
      → TiesOf P x words' senders' owners (with_actions ds)
  calm c' new ds agree rises same plain = record {
    tables = tables_stay X P laws x words words' D (with_actions ds) p ds (longer_by p ds D) senders
        senders' c c' (follows c' new rises) T.tables agree same plain.none_elected;
    takers =
        takers_stay p ds D (with_actions ds) (longer_by p ds D) owners plain.none_took T.takers;
  }

  -- a step on a word outside of all rows
  outside : (o : Op) → bus.Changes o words words'
      → (register o < 2) ⊎ (2 + x.rows * P.width x.senders ≤ register o)
      → Agree 2 (x.rows * P.width x.senders) words words'
  outside o step apart q a b =
      step.elsewhere q (elim apart [ inl l ↦ omega arith | inr l ↦ omega arith ])

  -- ---- it begins a tenure that it may enter
  module _ (t : ℕ) (rests : c.phase ≡ phase.Resting) (least : c.least ≤ t) (room : t < x.rows) where
    next_was_least : next_tenure c ≡ c.least
    next_was_least = ap (next_at c) rests

    abbrev start : E
    start = P.started x.senders p tt (2 + t * P.width x.senders)

    start_is : start ≡ X.started c.layout.senders c.me c.layout.rounds (row_at c.layout t)
    start_is = grind (arith, common_steps, part)

    few : x.senders ≤ 64
    few = let z = ok.senders in omega arith

    fresh : Starts P x.senders p (2 + t * P.width x.senders) tt
    fresh = laws.starts x.senders p (2 + t * P.width x.senders) tt part.below few

    unstarted : P.output start ≡ None
    unstarted = elim (some_or_none (X.op start 0)) [
      | inr o ↦ laws.unended start 0 o.0 o.1
      | inl none ↦ absurd (true≢false (sym (laws.ends start 0 none).1 ∙ fresh.fresh))
    ]

    not_begun : (b : Bool) → b ≡ false → cond b (Some (P.input start)) None ≡ Some tt → ⊥
    not_begun true i j = true≢false i
    not_begun false i j = none-some tt j

    absent : T.tables.elections t p ≡ None
    absent = T.tables.ahead p c t old (let a = next_was_least in omega arith)

    pub begins : Agree 2 (x.rows * P.width x.senders) words words'
        → senders' p ≡ Some (core_begun X c t) → (ds : List Action) → IsPlain ds
        → TiesOf P x words' senders' owners (with_actions ds)
    begins agree new ds plain =
        let in_row : (u : ℕ) → u < x.rows
        → Agree (2 + u * P.width x.senders) (P.width x.senders) words words' = λ u l r a b.
        let z = row_within u x.rows (P.width x.senders) l in agree r (omega arith) (omega arith) in
        let row_now : ℕ → Option E = put p (Some start) (T.tables.elections t) in
        let kept_now : P.Keeps x.senders (2 + t * P.width x.senders) words' row_now =
        laws.frame x.senders (2 + t * P.width x.senders) words words' row_now row_now
        (laws.enters x.senders (2 + t * P.width x.senders) words (T.tables.elections t) row_now p tt
        (T.tables.kept t room) part.below few absent
        (put_here p (Some start) (T.tables.elections t))
        (put_beside p (Some start) (T.tables.elections t)))
        (in_row t room) (λ q. refl) in
        record {
          tables = tables_step X P laws x words words' D (with_actions ds) p ds (longer_by p ds D)
              senders senders' c (core_begun X c t)
              (follows (core_begun X c t) new (let a = next_was_least in omega arith)) T.tables
              t room start kept_now (λ u l ne. in_row u l) (omega arith)
              (λ u f i.
              let s = bus.same_electing t u
              (X.started c.layout.senders c.me c.layout.rounds (row_at c.layout t)) f i in
              (s.0, start_is ∙ s.1))
              (λ o i. none-some o (ap (of_some P.output) (sym absent) ∙ i))
              (λ i. absurd (not_begun (P.has_begun start) fresh.fresh i))
              (λ o i. absurd (none-some o (sym unstarted ∙ i)))
              (λ u o a. absurd (plain.none_elected u o a));
          takers = takers_stay p ds D (with_actions ds) (longer_by p ds D) owners plain.none_took
              T.takers;
        }

  -- ---- a turn in a situation, with this random word, whatever it answers
  module _ (word : ℕ) (answer : Answered) where
    abbrev found_by : Option Op → ℕ
    found_by o = number_found words o

    abbrev its_actions : Situation E → List Action
    its_actions z = step_action (kind_at X c z) (tenure_at X c z) (found_by (op_at X c z word))
        (chosen_at X c z (found_by (op_at X c z word)) word) answer

    abbrev pub KeptTies : Situation E → Type 0
    KeptTies z =
        Steps (op_at X c z word) words words'
        → senders' p ≡ Some (core_after X c z home (found_by (op_at X c z word)) word)
        → TiesOf P x words' senders' (owners_after X c z p owners) (with_actions (its_actions z))

    -- no step
    idle : Steps None words words' → senders' p ≡ Some c
        → TiesOf P x words' senders' owners (with_actions [])
    idle same new = calm c new [] (λ q a b. same q) (omega arith) (λ t e i. i) plain_none

    choose : (b : Bool) (s u : Situation E) → KeptTies s → KeptTies u → KeptTies (cond b s u)
    choose true s u e f = e
    choose false s u e f = f

    -- ---- a load of the stage
    abbrev got : ℕ
    got = words 1

    abbrev looked : List Action
    looked = Stepped None kind.LoadStage got None answer ∷ []

    looked_plain : IsPlain looked
    looked_plain = plain_step None kind.LoadStage got answer (λ e. cc)

    module _ (rests : c.phase ≡ phase.Resting) where
      next_is : next_tenure c ≡ c.least
      next_is = ap (next_at c) rests

      looks : KeptTies LooksAtStage
      looks step = by_waits (waits c got) refl
        where
          agrees : Agree 2 (x.rows * P.width x.senders) words words'
          agrees = outside (Load record { 0 = 1 }) step (inl (omega arith))

          by_room : (b : Bool) → nat_le c.layout.rows (got / 2) ≡ b → waits c got ≡ false
              → senders' p ≡ Some (cond b (record c { least = got / 2 }) (core_begun X c (got / 2)))
              → TiesOf P x words' senders' owners (with_actions looked)
          by_room true d e new = calm (record c { least = got / 2 }) new looked agrees
              (let a = next_is in
              let b : next_tenure (record c { least = got / 2 }) ≡ got / 2 =
              ap (next_at (record c { least = got / 2 })) rests in
              let g = (open_stage c got e).1 in omega arith) (λ t f i. i) looked_plain
          by_room false d e new = begins (got / 2) rests (open_stage c got e).1
              (let a = leb-false c.layout.rows (got / 2) d in
              let b = ap (λ (z : Layout). z.rows) part.layout in omega arith) agrees new looked
              looked_plain

          by_waits : (b : Bool) → waits c got ≡ b
              → senders' p
              ≡ Some (cond b c (cond (nat_le c.layout.rows (got / 2)) (record c { least = got / 2 })
              (core_begun X c (got / 2)))) → TiesOf P x words' senders' owners (with_actions looked)
          by_waits true e new = calm c new looked agrees (omega arith) (λ t f i. i) looked_plain
          by_waits false e new = by_room (nat_le c.layout.rows (got / 2)) refl e new

      rest_kept : KeptTies (resting c)
      rest_kept = grind (arith, choose, idle, nat_le, looks)

    -- ---- an election
    module _ (t : ℕ) (e : E) (elects : c.phase ≡ phase.Electing t e) where
      next_was : next_tenure c ≡ t + 1
      next_was = ap (next_at c) elects

      local : T.tables.elections t p ≡ Some e
      local = T.tables.electing p c t e old elects

      runs : of_some (λ d. Some (stands_at d.phase)) (senders p) ≡ Some (Runs t e)
      runs = ap (of_some (λ d. Some (stands_at d.phase))) old ∙ ap (λ z. Some (stands_at z)) elects

      abbrev taking : List Action
      taking = Stepped (Some t) kind.TakePage got None answer ∷ []

      -- it takes the page
      take_kept : (o : ℕ) → X.owner e ≡ Some o → KeptTies (TakesPage t)
      take_kept o own step new = record {
        tables = tables_stay X P laws x words words' D (with_actions taking) p taking
            (longer_by p taking D) senders senders' c (core_with_page c t home)
            (follows (core_with_page c t home) (new ∙ ap Some (with_page home))
            (let a = next_was in let b = laid_next home in omega arith)) T.tables
            (outside (Store record { 0 = 1 } (2 * t + 1)) step (inl (omega arith)))
            (λ u f i. absurd (laid_apart home u f i))
            (λ u v a. none-some v (one_elected (Some t) kind.TakePage got None answer u v a).1);
        takers = takers_more p taking D (with_actions taking) (longer_by p taking D) owners t got
            None answer refl many
            (T.tables.elected t p p (ap (of_some P.output) local ∙ out ∙ ap Some mine)) T.takers;
      } where
        out : P.output e ≡ Some o
        out = sym (owner_is e) ∙ own

        mine : o ≡ p
        mine = h.chosen p c t e o old elects out

        many : length owners ≡ t
        many =
            (tenures.finds_home X.op X.fed P laws x.senders x.rows 2 words (words 1) (is_some home)
            (λ q. of_some (λ d. Some (stands_at d.phase)) (senders q)) (λ q. least_of (senders q))
            owners h.tenures p t e runs (out ∙ ap Some mine)).2

        with_page : (z : Option Page)
            → core_with_page (record c { phase = phase.Taken t }) t z ≡ core_with_page c t z
        with_page None = refl
        with_page (Some page) = refl

        laid_next : (z : Option Page) → next_tenure (core_with_page c t z) ≡ t + 1
        laid_next None = refl
        laid_next (Some page) = refl

        laid_apart : (z : Option Page) (u : ℕ) (f : E)
            → (core_with_page c t z).phase ≡ phase.Electing u f → ⊥
        laid_apart None u f i = taken_apart t u f i
        laid_apart (Some page) u f i = bus.holding_apart t page 0 false u f i

      -- it takes a step of its election
      module _ (o : Op) (next : X.op e word ≡ Some o) (k : Kind) (kind_is : X.kind_of e ≡ Some k)
          (step : bus.Changes o words words') where
        abbrev found_now : ℕ
        found_now = words (register o)

        abbrev later : E
        later = X.fed e found_now word

        abbrev action : Action
        action = Stepped (Some t) k found_now (X.owner later) answer

        abbrev ds : List Action
        ds = action ∷ []

        row : (t < x.rows) × (2 + t * P.width x.senders ≤ register o)
            × (register o < 2 + t * P.width x.senders + P.width x.senders)
        row = tenures.within_its_row X.op X.fed P laws x.senders x.rows 2 words (words 1)
            (is_some home) (λ q. of_some (λ d. Some (stands_at d.phase)) (senders q))
            (λ q. least_of (senders q)) owners h.tenures p t e word o runs next

        kept_then : P.Keeps x.senders (2 + t * P.width x.senders) words'
            (put p (Some later) (T.tables.elections t))
        kept_then = laws.moves x.senders (2 + t * P.width x.senders) words words'
            (T.tables.elections t) (put p (Some later) (T.tables.elections t)) p e word o
            (T.tables.kept t row.0) local next (put_here p (Some later) (T.tables.elections t))
            (put_beside p (Some later) (T.tables.elections t))
            record { here = step.here; elsewhere = λ r a b ne. step.elsewhere r ne }

        other_row : (u : ℕ) → u < x.rows → u ≢ t
            → Agree (2 + u * P.width x.senders) (P.width x.senders) words words'
        other_row u l ne r a b = grind (arith, cases_lt, row_within, row)

        action_at : slice_get (with_actions ds p) (length (D p) + 0) ≡ Some action
        action_at =
            ap (λ z. slice_get z (length (D p) + 0)) (longer_by p ds D).own
            ∙ got_after (D p) ds 0 action refl (length (D p) + 0) refl

        announced_now : counted_input P later ≡ Some tt → Announced (with_actions ds p) t
        announced_now i = by_begun (P.has_begun e) refl
          where
            by_begun : (b : Bool) → P.has_begun e ≡ b → Announced (with_actions ds p) t
            by_begun true j = announced_still p ds D (with_actions ds) (longer_by p ds D) p t
                (T.tables.announced t p
                (ap (of_some (counted_input P)) local ∙ ap (λ b. cond b (Some (P.input e)) None) j))
            by_begun false j = grind (arith, common_steps, same_Some, length, action_at)

        elected_now : (v : ℕ) → P.output later ≡ Some v → Elected (with_actions ds p) t v
        elected_now v i = grind (arith, common_steps, length, action_at)

        abbrev c' : Core E
        c' = core_elected c t later (X.owner later)

        step_kept : senders' p ≡ Some c' → TiesOf P x words' senders' owners (with_actions ds)
        step_kept new = record {
          tables = tables_step X P laws x words words' D (with_actions ds) p ds (longer_by p ds D)
              senders senders' c c' (follows c' new
              (let a = next_was in let b = elected_next c t later (X.owner later) in omega arith))
              T.tables
              t row.0 later kept_then other_row
              (let b = elected_next c t later (X.owner later) in omega arith)
              (elected_phase c t later (X.owner later))
              (λ v i. none-some v
              (sym (laws.unended e word o next) ∙ ap (of_some P.output) (sym local) ∙ i))
              announced_now elected_now (λ u v a.
              let one = one_elected (Some t) k found_now (X.owner later) answer u v a in
              (same_Some _ _ one.0, sym (owner_is later) ∙ one.1));
          takers = takers_stay p ds D (with_actions ds) (longer_by p ds D) owners
              (λ u i a. apart e
              (kind_is ∙ ap Some (one_took (Some t) k found_now (X.owner later) answer u i a).2))
              T.takers;
        }

      elect_kept : KeptTies (electing X t e)
      elect_kept = by_output (X.owner e) refl
        where
          by_output : (owner : Option ℕ) → X.owner e ≡ owner
              → KeptTies (cond (is_some owner) (TakesPage t) (Elects t e))
          by_output (Some o) i = take_kept o i
          by_output None i = by_step (has_step).0 (has_step).1
            where
              has_step : (o : Op) × (X.op e word ≡ Some o)
              has_step = elim (some_or_none (X.op e word)) [
                | inr o ↦ o
                | inl stop ↦ absurd (let a = (laws.ends e word stop).0 in
                    true≢false (sym a ∙ ap is_some (sym (owner_is e) ∙ i)))
              ]

              has_kind : (o : Op) → X.op e word ≡ Some o → (k : Kind) × (X.kind_of e ≡ Some k)
              has_kind o next = grind (arith, common_steps, some_or_none, true≢false, is_some)

              by_step : (o : Op) → X.op e word ≡ Some o → KeptTies (Elects t e)
              by_step o next =
                  let k = has_kind o next in
                  subst (λ z.
                  Steps z words words'
                  → senders' p
                  ≡ Some (core_elected c t (X.fed e (number_found words z) word)
                  (X.owner (X.fed e (number_found words z) word)))
                  → TiesOf P x words' senders' owners
                  (with_actions (step_action (X.kind_of e) (Some t) (number_found words z)
                  (X.owner (X.fed e (number_found words z) word)) answer))) (sym next)
                  (subst (λ z.
                  bus.Changes o words words'
                  → senders' p
                  ≡ Some (core_elected c t (X.fed e (words (register o)) word)
                  (X.owner (X.fed e (words (register o)) word)))
                  → TiesOf P x words' senders' owners
                  (with_actions (step_action z (Some t) (words (register o))
                  (X.owner (X.fed e (words (register o)) word)) answer))) (sym k.1)
                  (step_kept o next k.0 k.1))

    -- ---- a holder of the page
    module _ (t : ℕ) (page : Page) (stored : ℕ) (published : Bool)
        (holds : c.phase ≡ phase.Holding t page stored published) where
      next_held : next_tenure c ≡ t + 1
      next_held = ap (next_at c) holds

      gives : (reason : Reason) → KeptTies (GivesBack t page reason)
      gives reason step new = calm (core_at_rest c reason t) new _
          (outside (Store record { 0 = 1 } (2 * t + 2)) step (inl (omega arith)))
          (let a = next_held in omega arith) (λ u f i. absurd (bus.resting_apart u f i))
          (plain_step _ _ _ _ (λ e. cc))

      stores : KeptTies (StoresWord t page stored)
      stores step new = calm (record c { phase = phase.Holding t page (stored + 1) false }) new _
          (outside (Store record { 0 = log_at c.layout + cell_of c.layout (page.words + stored) }
          (slice_index (frame_words (frame_of c.queue t)) stored)) step
          (inr
          (let l = ap log_at part.layout in let w = ap (λ z. x.rows * z) width in omega arith)))
          (let a = next_held in omega arith)
          (λ u f i. absurd (bus.holding_apart t page (stored + 1) false u f i))
          (plain_step _ _ _ _ (λ e. cc))

      publishes : KeptTies (StoresLength t page stored)
      publishes step new = calm (record c { phase = phase.Holding t page stored true }) new _
          (outside (Store record { 0 = 0 } (page.words + frame_len c)) step (inl (omega arith)))
          (let a = next_held in omega arith)
          (λ u f i. absurd (bus.holding_apart t page stored true u f i))
          (plain_step _ _ _ _ (λ e. cc))

      hold_kept : KeptTies (holding c t page stored published)
      hold_kept = choose published (GivesBack t page Sent) _ (gives Sent)
          (choose page.ended (GivesBack t page FoundEnd) _ (gives FoundEnd)
          (choose (has_room c page) (cond (nat_lt stored (frame_len c)) (StoresWord t page stored)
          (StoresLength t page stored)) (GivesBack t page NoRoom)
          (choose (nat_lt stored (frame_len c)) (StoresWord t page stored)
          (StoresLength t page stored) stores publishes) (gives NoRoom)))

    -- ---- any turn
    turn_at : (ph : Phase E) → c.phase ≡ ph → KeptTies (situation_at X c ph)
    turn_at phase.Resting e = rest_kept e
    turn_at (phase.Electing t u) e = elect_kept t u e
    turn_at (phase.Taken t) e = absurd (subst (Fits base words frames c) e part.fits)
    turn_at (phase.Holding t page stored published) e = hold_kept t page stored published e
    turn_at (phase.Giving t reason) e = absurd (subst (Fits base words frames c) e part.fits)

    pub turn_tied : KeptTies (situation_of X c)
    turn_tied = turn_at c.phase refl

  -- a put or a close: the sender rests on, and the batch alone is another
  pub batch_tied : (c' : Core E) → senders' p ≡ Some c' → (ds : List Action) → c'.phase ≡ c.phase
      → c'.least ≡ c.least → IsPlain ds → ((q : ℕ) → words' q ≡ words q)
      → TiesOf P x words' senders' owners (with_actions ds)
  batch_tied c' new ds same least plain words_same = calm c' new ds (λ q a b. words_same q)
      (let a = by_phase c.phase in let b = ap (next_at c') same in omega arith)
      (λ t e i. sym same ∙ i) plain
    where
      by_phase : (ph : Phase E) → next_at c' ph ≡ next_at c ph
      by_phase phase.Resting = least
      by_phase (phase.Electing t e) = refl
      by_phase (phase.Taken t) = refl
      by_phase (phase.Holding t page stored published) = refl
      by_phase (phase.Giving t reason) = refl

-- ---- on lists
module _ {base : ℕ → ℕ} {E : Type 0} (X : Election E) (P : Protocol E (Unit {0}) ℕ)
    (laws : Laws X.op X.fed P OneOwner) (x : Layout) (ok : IsLayout x)
    (width : x.width ≡ P.width x.senders)
    (starts : (n me at : ℕ) → X.started n me x.rounds at ≡ P.started n me tt at)
    (owner_is : (e : E) → X.owner e ≡ P.output e)
    (named : (e : E) (word : ℕ) → is_some (X.kind_of e) ≡ is_some (X.op e word))
    (announces : (e : E) → P.has_begun e ≡ false → X.kind_of e ≡ Some kind.Announce)
    (apart : (e : E) → X.kind_of e ≡ Some kind.TakePage → ⊥) (flat : x.passers ≡ 0)
    (side : Side E) (frames : List Frame) (h : IsSide base P x side frames) (p : ℕ) (c : Core E)
    (old : slice_get side.senders p ≡ Some c) (word : ℕ) (D : ℕ → List Action)
    (T : Ties P x side D) where
  abbrev W : ℕ → ℕ
  W = slice_index side.words

  abbrev taken_step : Option Op
  taken_step = op_at X c (situation_of X c) word

  abbrev core_now : Core E
  core_now = core_after X c (situation_of X c) side.home (number_found W taken_step) word

  pub turn_ties : Ties P x (side_after X side p c (situation_of X c) word)
      (λ q.
      D q
      ++ cond (q == p) (turn_actions X c (situation_of X c)
      (number_found (slice_index side.words) (op_at X c (situation_of X c) word)) word
      (answer.Turn (answer_at X c (situation_of X c)
      (number_found (slice_index side.words) (op_at X c (situation_of X c) word)) word))) [])
  turn_ties =
      let senders' = slice_get (slice_set side.senders p core_now) in
      let within = turn_within X P laws x ok width starts owner_is W side.home
      (slice_get side.senders) side.owners frames h.sending p c old word
      (slice_index (words_after side.words taken_step)) senders'
      (get_set_other side.senders p core_now) flat in
      turn_tied X P laws x ok width starts owner_is named announces apart W side.home
      (slice_get side.senders) side.owners frames h.sending p c old D T
      (slice_index (words_after side.words taken_step)) senders'
      (get_set_other side.senders p core_now)
      word (answer_at X c (situation_of X c) (number_found W taken_step) word)
      (stepped-steps side.words taken_step
      (λ o due. let a = within o due in let b = h.words in omega arith))
      (get_set_same side.senders p core_now (slice_get_within side.senders p c old))

  -- a put or a close
  pub batch_ties : (c' : Core E) (ds : List Action) → c'.phase ≡ c.phase → c'.least ≡ c.least
      → IsPlain ds
      → Ties P x record {
        words = side.words;
        home = side.home;
        senders = slice_set side.senders p c';
        owners = side.owners;
      } (λ q. D q ++ cond (q == p) ds [])
  batch_ties c' ds same least plain =
      batch_tied X P laws x ok width starts owner_is named announces apart W side.home
      (slice_get side.senders) side.owners frames h.sending p c old D T W
      (slice_get (slice_set side.senders p c')) (get_set_other side.senders p c')
      c' (get_set_same side.senders p c' (slice_get_within side.senders p c old)) ds same least
      plain (λ q. refl)

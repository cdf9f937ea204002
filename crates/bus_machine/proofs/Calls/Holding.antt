-- What a machine that a program holds goes by: room, sums that fit, numbers that fit, no page under
-- way between turns, and its log.
use Rattle.std.proofs.Common.{◌≡◌, ℕ, zero, suc, ◌+◌, ◌-◌, ◌*◌, ◌%◌, ◌<◌, ◌≤◌, ◌^◌, Bool, nat_lt}
use Rattle.std.proofs.Common.{true, false, cond, ◌==◌, is_some, Option, Some, None, List, length}
use Rattle.std.proofs.Common.{drop, slice_get, slice_index, arith, refl, sym, ◌∙◌, ap, subst}
use Rattle.std.specs.Prelude.{IfSome}
use Rattle.std.proofs.Math.ListN.{length-set}
use Rattle.std.proofs.lemmas.Grind.{flat_map-append, common_steps}
use Rattle.std.proofs.lemmas.List.{length-append, length-drop}
use Rattle.std.proofs.lemmas.Nat.{mod_below}
use Rattle.std.proofs.lemmas.Option.{same_Some}
use Rattle.bus_register.specs.declared.limits.TheConstants.{MOST_MESSAGES, MOST_RECEIVERS}
use Rattle.bus_register.specs.declared.limits.TheConstants.{MOST_SENDERS}
use Rattle.bus_register.specs.Tables.{of_some}
use Rattle.bus_batch.specs.Batches.{next_of}
use Rattle.bus_batch.specs.Frames.{Frame, Order, AreFrames, log_words}
use Rattle.bus_core.proofs.Situated.{own_is}
use Rattle.bus_core.specs.Senders.{Sender, Situation, Does, situation, words_all}
use Rattle.bus_core.specs.Table.{line, line_now, in_row}
use Rattle.bus_core.specs.declared.reuses.Reuse.{Reuse}
use Rattle.bus_core.specs.declared.limits.TheConstants.{PASSED_APART}
use Rattle.bus_deliverylog.specs.Receiving.{Receiving, receiving_op, op_by, leaving_op, passing_due}
use Rattle.bus_register.specs.Protocol.{Protocol}
use Rattle.bus_register.specs.Words.{register, SumFits}
use Rattle.bus_register.specs.declared.registers.Op.{Op}
use Rattle.bus_register.specs.declared.registers.Op.TheVariants.{Load, Store, Add, Cas}
use Rattle.bus_tenure.proofs.Situated.{tells}
use Rattle.bus_tenure.specs.Core.{Election, Layout}
use Rattle.bus_tenure.specs.Seen.{AwaitsItsPage}
use Rattle.bus_tenure.specs.Situations.{IsClosed, IsIdle, IsSpent, Elects, TakesPage, AwaitsPage}
use Rattle.bus_tenure.specs.declared.phases.Phase.TheVariants as phase
use Rattle.bus_tenure.specs.declared.turns.Turn.TheVariants as turn
use Rattle.bus_world.proofs.Accepting.{numbers_fit}
use Rattle.bus_world.proofs.CyclicProtocolHears.{placed}
use Rattle.bus_world.proofs.LogLaws.{length-logged}
use Rattle.bus_world.proofs.PlayingLaws.{one_there}
use Rattle.bus_world.proofs.Serving.{Serves}
use Rattle.bus_world.proofs.TenuresLaws.{within_its_row}
use Rattle.bus_world.specs.Log.{floor_shown, least_passed, words_in_ring}
use Rattle.bus_world.proofs.Stopping.{shown_there}
use Rattle.bus_world.specs.World.{IsLayout, Event, Put, Ask, Turn, Recv, Stop, Gone}
use Rattle.bus_world.specs.Private.Sending.{Part, Fits, standing_of, stands_at, least_of}
use Rattle.bus_world.proofs.HearTrails.{order_so}
use Rattle.bus_world.specs.Headline.{order_given}
use Rattle.bus_world.specs.Private.Tenures.Standing.{Runs}
use Rattle.bus_world.specs.Private.Receiving.{IsReceiver}
use Rattle.bus_world.specs.declared.events.Answer.{Answer}
use Rattle.bus_world.specs.Private.Invariants.{given_at}
use Rattle.bus_machine.proofs.Bases.AtNone.{event_reuse, flat_at_none}
use Rattle.bus_machine.proofs.Bases.NewSenders.{batch_within}
use Rattle.bus_machine.proofs.Frames.Cells.{length-ring}
use Rattle.bus_machine.proofs.Bases.Leading.{Sits}
use Rattle.bus_machine.proofs.Frames.Framed.{IsFramed, floor_first, framed}
use Rattle.bus_machine.proofs.Onward.StageRises.{log_behind}
use Rattle.bus_machine.proofs.Frames.Paging.{takes_it}
use Rattle.bus_machine.proofs.Tenures.Takes.{owns_page}
use Rattle.bus_machine.proofs.Tenures.PagesTaken.{takers_told, counted}
use Rattle.bus_machine.specs.Machine.{base_of, Machine, Trails, Reached, Then, Happens, found}
use Rattle.bus_machine.specs.Machine.{has_stopped, trails_grown, log_place, log_of, owners_told}
use Rattle.bus_machine.specs.Machine.{floor_of, passers_place, turn_answer, going}
use Rattle.bus_world.specs.Playing.{Within}
use Rattle.bus_machine.specs.Playing.{IsHeld, AreRows, IsBatch}
use Rattle.bus_machine.specs.Promise.{HasRows}

-- ---- whatever happens
module _ {E : Type 0} (X : Election E) where
  many_after : (m m' : Machine E) (e : Event) (a : Answer) → Happens X m e a m'
      → length m'.senders ≡ length m.senders
  many_after m m' (Put s bytes) a h =
      ap (λ (y : Machine E). length y.senders) h.after ∙ length-set m.senders s _
  many_after m m' (Ask s asked) a h =
      ap (λ (y : Machine E). length y.senders) h.after ∙ length-set m.senders s _
  many_after m m' (Turn s word) a h =
      ap (λ (y : Machine E). length y.senders) h.after ∙ length-set m.senders s _
  many_after m m' (Recv r) a h = ap (λ (y : Machine E). length y.senders) h.after
  many_after m m' (Stop s) a h = ap (λ (y : Machine E). length y.senders) h.after
  many_after m m' (Gone r) a h = ap (λ (y : Machine E). length y.senders) h.after

  pub held_after : (m m' : Machine E) (e : Event) (a : Answer) → IsHeld X m → Happens X m e a m'
      → IsHeld X m'
  held_after m m' e a h d =
      let i = event_reuse X m m' e a d in
      record {
        senders_few = subst (λ x. x.senders ≤ MOST_SENDERS) (sym i.0) h.senders_few;
        rows =
            subst (λ x. AreRows x m'.reuse) (sym i.0) (subst (AreRows m.layout) (sym i.1) h.rows);
        capacity_some = subst (λ x. 0 < x.capacity) (sym i.0) h.capacity_some;
        capacity_few = subst (λ x. x.capacity ≤ 65536) (sym i.0) h.capacity_few;
        passers_few = subst (λ x. x.passers ≤ MOST_RECEIVERS) (sym i.0) h.passers_few;
        batch = subst (λ (x : Layout). IsBatch x.passers x.batch) (sym i.0) h.batch;
        senders = many_after m m' e a d ∙ h.senders ∙ sym (ap (λ x. x.senders) i.0);
        trails = trails_grown X m e a h.trails;
        reached = Then m m' h.trails e a h.reached d;
      }

-- ---- the log
-- the least of some passed places is the floor
shown_some : (words : ℕ → ℕ) (at many len : ℕ) → (many ≡ 0 → ⊥)
    → least_passed words at many len ≡ floor_shown words at many len
shown_some words at zero len some = absurd (some refl)
shown_some words at (suc k) len some = refl

-- ---- what a step adds to
-- A step of an election stands where its row does, and adds as much there.
step_there : (x : Layout) (r : Option Reuse) (t : ℕ) (d : Option Op) (q : Op)
    → in_row x r t d ≡ Some q → (o : Op) × (d ≡ Some o) × ((n : ℕ) → SumFits o n → SumFits q n)
step_there x None t d q e = (q, e, λ n h. h)
step_there x (Some r) t None q e = absurd cc
step_there x (Some r) t (Some (Load at)) q e = (
  Load at,
  refl,
  λ n h. subst (λ w. SumFits w n) (same_Some _ _ e) h,
)
step_there x (Some r) t (Some (Store at m)) q e = (
  Store at m,
  refl,
  λ n h. subst (λ w. SumFits w n) (same_Some _ _ e) h,
)
step_there x (Some r) t (Some (Add at m)) q e = (
  Add at m,
  refl,
  λ n h. subst (λ w. SumFits w n) (same_Some _ _ e) h,
)
step_there x (Some r) t (Some (Cas at m k)) q e = (
  Cas at m k,
  refl,
  λ n h. subst (λ w. SumFits w n) (same_Some _ _ e) h,
)

module _ {E : Type 0} (X : Election E) (P : Protocol E (Unit {0}) ℕ) (m : Machine E) (T : Trails)
    (s : Serves X P m.layout) (f : IsFramed P m T)
    (p : ℕ) (v : Sender E) (at : slice_get m.senders p ≡ Some v) (word : ℕ) (q : Op) where
  abbrev FitsHere : Op → Type 0
  FitsHere o = SumFits o (slice_index m.words (register o))

  part : Part (base_of m) m.layout f.V f.frames p v.core
  part = f.sending.parts p v.core (f.core_of p v at)

  election_fits : (t : ℕ) (e : E) → v.core.phase ≡ phase.Electing t e
      → in_row v.core.layout v.reuse t (X.op e word) ≡ Some q → FitsHere q
  election_fits t e runs due =
      let step = step_there v.core.layout v.reuse t (X.op e word) q due in
      let tenures = f.sending.tenures in
      let stands : of_some standing_of (f.cores p) ≡ Some (Runs t e) =
      ap (of_some standing_of) (f.core_of p v at) ∙ ap (λ w. Some (stands_at w)) runs in
      let has = tenures.electing p t e stands in
      let row = within_its_row X.op X.fed P s.laws m.layout.senders m.layout.rows 2 f.V (f.V 1)
      (is_some m.home) (λ o. of_some standing_of (f.cores o)) (λ o. least_of (f.cores o)) f.owners
      tenures p t e word step.0 stands step.1 in
      let from = row.1 in
      let to = row.2 in
      let width = s.width in
      let wide = ap (λ n. t * n) width in
      let here : in_row m.layout v.reuse t (Some step.0) ≡ Some q =
      sym (ap (λ x. in_row x v.reuse t (Some step.0)) part.layout)
      ∙ sym (ap (in_row v.core.layout v.reuse t) step.1) ∙ due in
      let found = f.found p t v e step.0 q at runs row.0 (omega arith) (omega arith) here in
      subst (SumFits q) (sym found) (step.2 (f.V (register step.0))
      (s.laws.fits m.layout.senders (2 + t * P.width m.layout.senders) f.V (tenures.elections t) p e
      word step.0 (tenures.kept t has.0) has.2 step.1))

  sums_by : (z : Situation E) → situation X v ≡ z → (line X v z).op word ≡ Some q → FitsHere q
  sums_by (Does (Elects t e)) i due =
      election_fits t e (tells X v.core (Elects t e) (own_is X v (Elects t e) i)).0 due
  sums_by (Does IsClosed) i due = absurd cc
  sums_by (Does IsIdle) i due = absurd cc
  sums_by (Does IsSpent) i due = absurd cc
  sums_by (Does (AwaitsPage t)) i due = absurd cc
  sums_by (Does z) i due = subst FitsHere (same_Some _ _ due) tt
  sums_by z i due = subst FitsHere (same_Some _ _ due) tt

  -- only a step of an election adds to a word, and its sum stays in range
  pub sums_fit : (line_now X v).op word ≡ Some q → FitsHere q
  sums_fit due = sums_by (situation X v) refl due

module _ {E : Type 0} (X : Election E) (P : Protocol E (Unit {0}) ℕ) where
  -- ---- its sizes are served
  layout_ok : (x : Layout) (o : Option ℕ) → x.senders ≤ MOST_SENDERS → x.capacity ≤ 65536
      → x.passers ≤ MOST_RECEIVERS → Within 1 MOST_MESSAGES x.batch → AreRows x o → IsLayout x
  layout_ok x None few small passed batch r = grind (arith, common_steps)
  layout_ok x (Some rows) few small passed batch r = grind (arith, common_steps)

  has_rows : (x : Layout) (o : Option ℕ) → AreRows x o → HasRows o
  has_rows x None r = tt
  has_rows x (Some rows) r = r.0.0

  pub sits : (m : Machine E) → Serves X P m.layout → IsHeld X m → Sits X P m
  sits m s h = grind (arith, common_steps, layout_ok, has_rows, batch_within)

  module _ (m : Machine E) (s : Serves X P m.layout) (h : IsHeld X m) where
    -- by the frames of its log
    its_frames : IsFramed P m h.trails
    its_frames = framed X P m h.trails (sits m s h) h.reached

    -- its floor is no further than the length
    pub floor_below : floor_of m ≤ slice_index m.words 0
    floor_below = grind (arith, its_frames, length, flat_map-append, length-append, length-logged)

    -- there is a first word, and the log is among the words
    pub word_there : (words : List ℕ) → words ≡ m.words → (capacity : ℕ)
        → capacity ≡ m.layout.capacity → (1 ≤ length words) × (capacity ≤ length words)
    word_there words words_are capacity capacity_is =
        grind (arith, common_steps, length, its_frames, log_behind)

    -- the log stands behind all other words
    pub log_there : (words : List ℕ) → words ≡ m.words → (capacity : ℕ)
        → capacity ≡ m.layout.capacity
        → length words - capacity ≡ log_place m.layout m.reuse
    log_there words words_are capacity capacity_is = grind (arith, common_steps, length, its_frames)

    -- and the passed places right before it, if there are any
    passers_behind : (o : Option ℕ) → m.reuse ≡ o → (m.layout.passers ≡ 0 → ⊥)
        → passers_place m.layout o + PASSED_APART * m.layout.passers ≡ log_place m.layout o
    passers_behind None fresh some = absurd (some (flat_at_none X m h.trails h.reached fresh))
    passers_behind (Some rows) used some = refl

    pub passers_there : (passers : ℕ) → m.layout.passers ≡ passers → (passers ≡ 0 → ⊥)
        → (words : List ℕ) → words ≡ m.words → (capacity : ℕ) → capacity ≡ m.layout.capacity
        → (PASSED_APART * passers ≤ length words - capacity)
        × (length words - capacity - PASSED_APART * passers ≡ passers_place m.layout m.reuse)
    passers_there passers is some words words_are capacity capacity_is =
        let at = log_there words words_are capacity capacity_is in
        let behind = ap (λ n. passers_place m.layout m.reuse + PASSED_APART * n) (sym is)
        ∙ passers_behind m.reuse refl (λ none. some (sym is ∙ none)) in
        (omega arith, omega arith)

    -- so the least of them is its floor
    pub floor_is : (passers : ℕ) → m.layout.passers ≡ passers → (passers ≡ 0 → ⊥)
        → (words : List ℕ) → words ≡ m.words → (capacity : ℕ) → capacity ≡ m.layout.capacity
        → least_passed (slice_index words) (length words - capacity - PASSED_APART * passers)
        passers (slice_index words 0) ≡ floor_of m
    floor_is passers is some words words_are capacity capacity_is =
        grind (arith, common_steps, slice_index, passers_there, shown_some)

    pub floor_within : (words : List ℕ) → words ≡ m.words → (now : Machine E) → m ≡ now
        → (floor : ℕ) → floor ≡ floor_of now → floor ≤ slice_index words 0
    floor_within words words_are now is floor floor_are =
        grind (arith, common_steps, slice_index, floor_below)

    -- what is copied from there on is the log that stands
    pub log_shown : (words : List ℕ) → words ≡ m.words → (capacity : ℕ)
        → capacity ≡ m.layout.capacity → (now : Machine E) → m ≡ now → (floor : ℕ)
        → floor ≡ floor_of now
        → words_in_ring (slice_index words) (length words - capacity) capacity floor
        (slice_index words 0 - floor) ≡ log_of now
    log_shown words words_are capacity capacity_is now is floor =
        grind (arith, common_steps, slice_index, length, log_there)

    -- at most so many owners are told
    pub owners_few : (rows : ℕ) → m.reuse ≡ Some rows → length m.owners ≤ rows
    owners_few rows used =
        let k = takers_told X P m h.trails (sits m s h) h.reached in
        grind (arith, common_steps, length, length-drop)

    pub rows_within : (rows : ℕ) → m.reuse ≡ Some rows → (2 ≤ rows) × (rows ≤ 8)
    rows_within rows used = (subst (AreRows m.layout) used h.rows).0

    -- ---- a sender that there is
    module _ (p : ℕ) (v : Sender E) (at : slice_get m.senders p ≡ Some v) where
      its_part : Part (base_of m) m.layout its_frames.V its_frames.frames p v.core
      its_part = its_frames.sending.parts p v.core (its_frames.core_of p v at)

      pub room : length m.words ≡ words_all v
      room = grind (arith, common_steps, its_frames, its_part)

      pub sums : (word : ℕ) (o : Op) → (line_now X v).op word ≡ Some o
          → SumFits o (slice_index m.words (register o))
      sums word o next = sums_fit X P m h.trails s its_frames p v at word o next

      pub laid : AwaitsItsPage v.core.phase → ⊥
      laid waits =
          subst (Fits (base_of m) its_frames.V its_frames.frames v.core) waits.is its_part.fits

      pub numbers : next_of v.core.queue < 2 ^ 48
      numbers = numbers_fit X P s.laws m.layout (sits m s h).ok s.width its_frames.V m.home
          its_frames.owners its_frames.frames p its_frames.cores its_frames.sending v.core
          (its_frames.core_of p v at)

    -- who takes a page takes that of the tenure behind all whose pages were taken
    taken_before : (p : ℕ) (v : Sender E) → slice_get m.senders p ≡ Some v → (t : ℕ)
        → situation X v ≡ Does (TakesPage t) → m.reuse ≡ None
        → (length m.owners ≡ t) × (t < m.layout.rows)
    taken_before p v at t takes fresh =
        let f = its_frames in
        let k = takers_told X P m h.trails (sits m s h) h.reached in
        let all : m.owners ≡ k.all = k.told ∙ ap (λ o. owners_told o k.all) fresh in
        let many : t ≡ length k.all = counted m h.trails f k.all k.takers t
        (takes_it X P m h.trails (sits m s h) f p v t at takes).stage in
        let e = tells X v.core (TakesPage t) (own_is X v (TakesPage t) takes) in
        let stands : of_some standing_of (f.cores p) ≡ Some (Runs t e.0) =
        ap (of_some standing_of) (f.core_of p v at) ∙ ap (λ w. Some (stands_at w)) e.1 in
        (ap length all ∙ sym many, (f.sending.tenures.electing p t e.0 stands).0)

    -- there is room for one owner more
    pub owner_fits : (p : ℕ) (v : Sender E) → going m p ≡ Some v → (word t : ℕ)
        → turn_answer m (line_now X v) word ≡ turn.Own t → length m.owners < 256
    owner_fits p v goes word t told = by m.reuse refl where
      by : (r : Option ℕ) → m.reuse ≡ r → length m.owners < 256
      by None fresh =
          let at = shown_there (has_stopped m p) (slice_get m.senders p) v goes in
          let all = taken_before p v at t
          (owns_page X v t (situation X v) (found m (line_now X v) word) word told) fresh in
          let many = all.0 in
          let below = all.1 in
          let few = subst (AreRows m.layout) fresh h.rows in
          omega arith
      by (Some rows) used =
          let a = owners_few rows used in let b = (rows_within rows used).1 in omega arith

    -- ---- a receiver that there is
    module _ (r : ℕ) (v : Receiving) (at : slice_get m.receivers r ≡ Some v) where
      its_reads : (v.log_at ≡ log_place m.layout m.reuse)
          × IsReceiver m.layout its_frames.frames (its_frames.V 0) (placed m.layout v)
          × ((place : ℕ) → v.passed_at ≡ Some place → place < log_place m.layout m.reuse)
          × (v.gone ≡ false → floor_of m ≤ v.place)
      its_reads = its_frames.reads r v at

      passed_there : (place : ℕ) → v.passed_at ≡ Some place → place < length m.words
      passed_there place is = grind (arith, common_steps, its_reads, its_frames)

      pub leaves_within : IfSome (leaving_op v) (λ o. register o < length m.words)
      leaves_within = grind (arith, common_steps, register, length, passed_there)

      due_there : (place : ℕ) → passing_due v ≡ Some place → v.passed_at ≡ Some place
      due_there place = grind (arith, common_steps, nat_lt)

      pub loads_within : IfSome (receiving_op v) (λ o. register o < length m.words)
      loads_within = by v.ended (passing_due v) refl where
        load : (b : Bool)
            → register (cond b (Load record { 0 = v.length_at })
            (Load record { 0 = v.log_at + v.place % v.log_words })) < length m.words
        load true =
            let first = its_reads.1.len_at in
            let some = (word_there m.words refl m.layout.capacity refl).0 in omega arith
        load false =
            let from = its_reads.0 in
            let many = its_reads.1.log_words in
            let some = h.capacity_some in
            let size = its_frames.room in
            let cell = mod_below v.place v.log_words (omega arith) in omega arith

        by : (e : Bool) (d : Option ℕ) → passing_due v ≡ d
            → IfSome (cond {A = Option Op} e None (Some (op_by d v)))
            (λ o. register o < length m.words)
        by true d due = tt
        by false None due = load (v.place == v.known)
        by false (Some place) due = passed_there place (due_there place due)

      -- what it has read of what stands
      pub place_within : v.place - floor_of m ≤ length (log_of m)
      place_within = grind (arith, common_steps, its_reads, its_frames, length-ring, slice_index)

      pub until_within : (now : Machine E) → m ≡ now → (place floor until : ℕ) (log : List ℕ)
          → place ≡ v.place → floor ≡ floor_of now → until ≡ place - floor → log ≡ log_of now
          → until ≤ length log
      until_within now is place floor until log place_is floor_are until_is log_is =
          grind (arith, common_steps, length, place_within)

    -- where no word of the log is used again, what stands below the place of a receiver is what it
    -- was given
    pub heard : (r : ℕ) → r < length m.receivers → (order : Order)
        → ((frames : List Frame) (v : Receiving) → AreFrames m.layout.senders frames
        → log_of m ≡ log_words frames → slice_get m.receivers r ≡ Some v
        → (order.entries ≡ (given_at frames v).entries) × (order.ended ≡ v.ended))
        → m.layout.passers ≡ 0 → (T : Trails) → Reached X m T → order ≡ order_given (T.heard r)
    heard r l order stands flat T reached =
        let f = framed X P m T (sits m s h) reached in
        let there = one_there m.receivers r l in
        let first = floor_first m flat in
        let its = stands f.frames there.0 f.sending.log.lawful
        (f.stands.1 ∙ ap (λ n. drop n T.log) first ∙ sym f.log_is) there.1 in
        grind (arith, common_steps, order_so)

-- Each turn of a sender keeps what senders, words, page and owners keep, whatever the random word:
-- said of words and senders by number, and then of the lists of a machine.
use Rattle.std.proofs.Common.{◌≡◌, ◌≢◌, ℕ, ◌+◌, ◌*◌, ◌/◌, ◌<◌, ◌≤◌, Bool, true, false, cond, ◌&&◌}
use Rattle.std.proofs.Common.{nat_lt, nat_le, Option, Some, None, ◌⊎◌, inl, inr, List, [], ◌∷◌}
use Rattle.std.proofs.Common.{◌++◌, length, is_some, slice_get, slice_index, slice_set, arith, refl}
use Rattle.std.proofs.Common.{sym, ◌∙◌, ap, subst}
use mathlib.Core.Path.{fun_ext}
use Rattle.std.proofs.lemmas.Bool.{cases_eq, leb-false, leb-true, ltb-false, ltb-true, true≢false}
use Rattle.std.proofs.lemmas.Bool.Decides.{eqb_tells}
use Rattle.std.proofs.lemmas.List.{get_or-set_same, get_or-set_other}
use Rattle.std.proofs.lemmas.Option.{same_Some, slice_get_within}
use Rattle.std.proofs.Math.ListN.{length-set}
use Rattle.std.proofs.lemmas.Grind.{common_steps}
use Rattle.bus_register.specs.declared.registers.Op.{Op}
use Rattle.bus_register.specs.declared.registers.Op.TheVariants.{Load, Store}
use Rattle.bus_register.specs.Words.{register, after}
use Rattle.bus_register.specs.Tables.{of_some, Beside}
use Rattle.bus_register.specs.Private.TableLaws.{some_or_none, get_set_same, get_set_other}
use Rattle.bus_register.specs.Protocol.{Protocol, Laws}
use Rattle.bus_batch.specs.Frames.{Frame, frame_words}
use Rattle.bus_batch.specs.Batches.{HasSomething, frame_of}
use Rattle.bus_batch.specs.declared.batches.Phase.{Phase as BatchPhase}
use Rattle.bus_batch.specs.declared.batches.Phase.TheVariants.{Open, Marking, Closed}
use Rattle.bus_batch.specs.declared.messages.Mark.{Mark}
use Rattle.bus_tenure.specs.Core.{Core, Election, Layout, log_at, row_at, words_of, frame_len}
use Rattle.bus_tenure.specs.Core.{cell_of, has_room, is_empty, is_marking, is_closed, page_after}
use Rattle.bus_tenure.proofs.Fitting.{cell_straight}
use Rattle.bus_tenure.specs.Situations.{Situation, IsClosed, IsIdle, IsSpent, LooksAtStage, Elects}
use Rattle.bus_tenure.specs.Situations.{TakesPage, StoresWord, StoresLength, GivesBack}
use Rattle.bus_tenure.specs.Situations.{situation_at, situation_of, resting, electing, holding}
use Rattle.bus_tenure.specs.Situations.{core_begun, waits, core_elected, core_at_rest, op_at}
use Rattle.bus_tenure.specs.declared.pages.Page.{Page}
use Rattle.bus_tenure.specs.declared.phases.Reason.{Reason}
use Rattle.bus_tenure.specs.declared.phases.Reason.TheVariants.{Sent, FoundEnd, NoRoom}
use Rattle.bus_tenure.specs.declared.phases.Phase.{Phase}
use Rattle.bus_tenure.specs.declared.phases.Phase.TheVariants as phase
use Rattle.bus_ownerbits.specs.OneOwner.{OneOwner}
use Rattle.bus_ownerbits.proofs.ElectionSteps.{row_within}
use Rattle.bus_world.specs.Private.Tenures.Standing.{Runs}
use Rattle.bus_world.proofs.TenuresLaws as tenures
use Rattle.bus_world.specs.World.{IsLayout}
use Rattle.bus_world.specs.Private.Sending.{least_of, standing_of, Part, Fits, GoesOn, HasBegun}
use Rattle.bus_world.specs.Private.Sending.{Sending, stands_at}
use Rattle.bus_world.proofs.BusLaws as bus
use Rattle.bus_world.proofs.HolderLaws as holders
use Rattle.bus_world.proofs.SenderParts.{IsUnsent}
use Rattle.bus_world.specs.Private.Machines.{Side, home_after, core_after, owners_after, side_after}
use Rattle.bus_world.specs.Private.Machines.{Bus}
use Rattle.bus_world.specs.Turning.{words_after, number_found, core_with_page}
use Rattle.bus_world.specs.Private.Invariants.{LawfulBus}
use Rattle.bus_world.proofs.Waiting.{frames_after}

pub open_apart : Open ≡ Closed → ⊥
open_apart h = cc

marking_apart : (m : Mark) → Marking m ≡ Closed → ⊥
marking_apart m h = cc

-- who looks at the stage is not closed and has something to send
looks_has : {E : Type 0} (ph : BatchPhase) (messages : List (List ℕ)) (spent : Bool)
    → (let z : Situation E = cond (is_closed ph) IsClosed
    (cond (is_empty messages && cond (is_marking ph) false true) IsIdle
    (cond spent IsSpent LooksAtStage)) in
    z ≡ LooksAtStage)
    → (ph ≡ Closed → ⊥) × ((1 ≤ length messages) ⊎ ((m : Mark) × (ph ≡ Marking m)))
looks_has Open [] spent h = absurd cc
looks_has Open (m ∷ messages) spent h = (open_apart, inl (omega arith))
looks_has (Marking m) messages spent h = (marking_apart m, inr (m, refl))
looks_has Closed messages spent h = absurd cc

-- the stage shows a tenure that is open and may be entered
pub open_stage : {E : Type 0} (c : Core E) (got : ℕ) → waits c got ≡ false
    → (got ≡ 2 * (got / 2)) × (c.least ≤ got / 2)
open_stage c got e = grind (arith, common_steps, eqb_tells, ltb-false, nat_lt, true≢false)

-- ---- the step that is due
-- on words of a log without an end, where each of its words lies at its own place
abbrev pub op_laid : {E : Type 0} → Election E → Core E → Situation E → ℕ → Option Op
op_laid X c (StoresWord t page stored) word =
    Some (Store record { 0 = log_at c.layout + page.words + stored }
    (slice_index (frame_words (frame_of c.queue t)) stored))
op_laid X c z word = op_at X c z word

-- the words after a step, or none
abbrev pub Steps : Option Op → (ℕ → ℕ) → (ℕ → ℕ) → Type 0
Steps None words words' = (r : ℕ) → words' r ≡ words r
Steps (Some o) words words' = bus.Changes o words words'

-- a load changes no word
loaded : (r : ℕ) (words words' : ℕ → ℕ) → bus.Changes (Load record { 0 = r }) words words' → (q : ℕ)
    → words' q ≡ words q
loaded r words words' step q = grind (arith, common_steps, cases_eq)

module _ {base : ℕ → ℕ} {E : Type 0} (X : Election E) (P : Protocol E (Unit {0}) ℕ)
    (laws : Laws X.op X.fed P OneOwner) (x : Layout) (ok : IsLayout x)
    (width : x.width ≡ P.width x.senders)
    (starts : (n me at : ℕ) → X.started n me x.rounds at ≡ P.started n me tt at)
    (owner_is : (e : E) → X.owner e ≡ P.output e)
    (words : ℕ → ℕ) (home : Option Page) (senders : ℕ → Option (Core E)) (owners : List ℕ)
    (frames : List Frame) (h : Sending base P x words home senders owners frames)
    (p : ℕ) (c : Core E) (old : senders p ≡ Some c) (word : ℕ) where
  part : Part base x words frames p c
  part = h.parts p c old

  -- an elected sender finds the page at home
  module _ (t : ℕ) (e : E) (elects : c.phase ≡ phase.Electing t e) where
    runs : of_some standing_of (senders p) ≡ Some (Runs t e)
    runs = ap (of_some standing_of) old ∙ ap (λ z. Some (stands_at z)) elects

    own_output : (o : ℕ) → X.owner e ≡ Some o → P.output e ≡ Some p
    own_output o own = grind (arith, common_steps)

    pub at_home : (o : ℕ) → X.owner e ≡ Some o → (page : Page) × (home ≡ Some page)
    at_home o own = by_home home refl
      where
        by_home : (z : Option Page) → home ≡ z → (page : Page) × (home ≡ Some page)
        by_home None i = absurd (
            let f = tenures.finds_home X.op X.fed P laws x.senders x.rows 2 words (words 1)
            (is_some home) (λ q. of_some standing_of (senders q)) (λ q. least_of (senders q)) owners
            h.tenures p t e runs (own_output o own) in
            true≢false (sym f.1 ∙ ap is_some i))
        by_home (Some page) i = (page, i)

    -- a step of an election is in its row
    row : (o : Op) → X.op e word ≡ Some o
        → (t < x.rows) × (2 + t * P.width x.senders ≤ register o)
        × (register o < 2 + t * P.width x.senders + P.width x.senders)
    row o next = tenures.within_its_row X.op X.fed P laws x.senders x.rows 2 words (words 1)
        (is_some home) (λ q. of_some standing_of (senders q)) (λ q. least_of (senders q)) owners
        h.tenures p t e word o runs next

    in_row : (o : Op) → X.op e word ≡ Some o → register o < words_of x
    in_row o next = grind (arith, common_steps, row, row_within)

    -- and there is one where no owner is
    has_step : X.owner e ≡ None → (o : Op) × (X.op e word ≡ Some o)
    has_step none = elim (some_or_none (X.op e word)) [
      | inr o ↦ o
      | inl stop ↦ absurd (let a = (laws.ends e word stop).0 in
          true≢false (sym a ∙ ap is_some (sym (owner_is e) ∙ none)))
    ]

  -- ---- after the turn
  module _ (words' : ℕ → ℕ) (senders' : ℕ → Option (Core E))
      (beside : Beside p senders senders') where
    -- where no word of the log is used again, the turn's step is on the word of its own place, and
    -- there is such a word; and once it is taken, on a log without an end, and the sender is as it
    -- is after it, all is kept
    abbrev pub Kept : Situation E → Type 0
    Kept z = (x.passers ≡ 0 → (op_laid X c z word ≡ op_at X c z word)
        × ((o : Op) → op_at X c z word ≡ Some o → register o < words_of x))
        × (Steps (op_laid X c z word) words words'
        → senders' p ≡ Some (core_after X c z home (number_found words (op_laid X c z word)) word)
        → Sending base P x words' (home_after X c z home) senders' (owners_after X c z p owners)
        (frames_after X c z frames))

    choose : (b : Bool) (s u : Situation E) → Kept s → Kept u → Kept (cond b s u)
    choose true s u e f = e
    choose false s u e f = f

    only : (o : Op) → register o < words_of x → x.passers ≡ 0
        → (Some o ≡ Some o) × ((o' : Op) → Some o ≡ Some o' → register o' < words_of x)
    only o below flat =
        (refl, λ o' same. subst (λ z. register z < words_of x) (same_Some _ _ same) below)

    -- nothing happens
    unchanged : senders' p ≡ Some c → Sending base P x words home senders' owners frames
    unchanged new = subst (λ z. Sending base P x words home z owners frames)
        (sym (bus.same_senders p c senders senders' old new beside)) h

    idle : (x.passers ≡ 0 → (◌≡◌ {A = Option Op} None None)
        × ((o : Op) → None ≡ Some o → register o < words_of x))
        × (Steps None words words' → senders' p ≡ Some c
        → Sending base P x words' home senders' owners frames)
    idle = (
      λ flat. (refl, λ o bad. absurd cc),
      λ same new. subst (λ w. Sending base P x w home senders' owners frames) (sym (fun_ext same))
          (unchanged new),
    )

    -- ---- a load of the stage
    module _ (rests : c.phase ≡ phase.Resting) where
      resting_fits : (c.queue.busy ≡ false) × GoesOn base frames c
      resting_fits = subst (Fits base words frames c) rests part.fits

      part_least : (k : ℕ) → Part base x words frames p (record c { least = k })
      part_least k = grind (arith, common_steps, part, resting_fits)

      part_begun : (t : ℕ) → (c.queue.phase ≡ Closed → ⊥) → HasSomething c.queue
          → Part base x words frames p (core_begun X c t)
      part_begun t is_open something = grind (arith, common_steps, part, resting_fits)

      rows_is : c.layout.rows ≡ x.rows
      rows_is = ap (λ (z : Layout). z.rows) part.layout

      abbrev got : ℕ
      got = words 1

      start_is : (t : ℕ)
          → P.started x.senders p tt (2 + t * P.width x.senders)
          ≡ X.started c.layout.senders c.me c.layout.rounds (row_at c.layout t)
      start_is t = grind (arith, common_steps, part)

      -- it may begin any tenure that was opened
      pub begins_opened : (t : ℕ) → resting c ≡ LooksAtStage → 2 * t ≤ words 1 → c.least ≤ t
          → t < x.rows → senders' p ≡ Some (core_begun X c t)
          → Sending base P x words home senders' owners frames
      begins_opened t looks reached enters room new =
          let has = looks_has c.queue.phase c.queue.messages (nat_le c.layout.rows c.least) looks in
          bus.begins X P laws x ok width words home senders owners frames h p c (core_begun X c t)
          senders' old new beside
          t rests reached enters room part.below (ap (phase.Electing t) (sym (start_is t))) refl
          (part_begun t has.0 has.1)

      module _ (is_open : c.queue.phase ≡ Closed → ⊥) (something : HasSomething c.queue) where
        by_room : (b : Bool) → nat_le c.layout.rows (got / 2) ≡ b → waits c got ≡ false
            → senders' p ≡ Some (cond b (record c { least = got / 2 }) (core_begun X c (got / 2)))
            → Sending base P x words home senders' owners frames
        by_room true d e new =
            let stage = open_stage c got e in
            bus.spends X P laws x ok width words home senders owners frames h p c
            (record c { least = got / 2 }) senders' old new beside rests rests stage.1
            (part_least (got / 2))
        by_room false d e new =
            let stage = open_stage c got e in
            bus.begins X P laws x ok width words home senders owners frames h p c
            (core_begun X c (got / 2)) senders' old new beside
            (got / 2) rests (omega (arith, stage.0)) stage.1
            (let a = leb-false c.layout.rows (got / 2) d in let b = rows_is in omega arith)
            part.below (ap (phase.Electing (got / 2)) (sym (start_is (got / 2)))) refl
            (part_begun (got / 2) is_open something)

        by_waits : (b : Bool) → waits c got ≡ b
            → senders' p
            ≡ Some (cond b c (cond (nat_le c.layout.rows (got / 2)) (record c { least = got / 2 })
            (core_begun X c (got / 2)))) → Sending base P x words home senders' owners frames
        by_waits true e new = unchanged new
        by_waits false e new = by_room (nat_le c.layout.rows (got / 2)) refl e new

        looks : Kept LooksAtStage
        looks = (
          only (Load record { 0 = 1 }) (omega arith),
          λ step new. subst (λ z. Sending base P x z home senders' owners frames)
              (sym (fun_ext (loaded 1 words words' step))) (by_waits (waits c got) refl new),
        )

      rest_kept : Kept (resting c)
      rest_kept = by_closed c.queue.phase refl
        where
          by_empty : (b : Bool) → (c.queue.phase ≡ Closed → ⊥)
              → (is_empty c.queue.messages && cond (is_marking c.queue.phase) false true) ≡ b
              → Kept (cond b IsIdle (cond (nat_le c.layout.rows c.least) IsSpent LooksAtStage))
          by_empty true a e = idle
          by_empty false a e = choose (nat_le c.layout.rows c.least) IsSpent LooksAtStage idle
              (looks a (something_from c.queue.phase c.queue.messages refl refl e))
            where
              some_message : (messages : List (List ℕ)) → c.queue.messages ≡ messages
                  → (is_empty messages && true) ≡ false → HasSomething c.queue
              some_message [] j f = absurd (true≢false f)
              some_message (m ∷ messages) j f = inl (let z = ap length j in omega arith)

              something_from : (ph : BatchPhase) (messages : List (List ℕ)) → c.queue.phase ≡ ph
                  → c.queue.messages ≡ messages
                  → (is_empty messages && cond (is_marking ph) false true) ≡ false
                  → HasSomething c.queue
              something_from Open messages i j f = some_message messages j f
              something_from (Marking m) messages i j f = inr (m, i)
              something_from Closed messages i j f = some_message messages j f

          by_closed : (ph : BatchPhase) → c.queue.phase ≡ ph
              → Kept (cond (is_closed ph) IsClosed
              (cond (is_empty c.queue.messages && cond (is_marking c.queue.phase) false true) IsIdle
              (cond (nat_le c.layout.rows c.least) IsSpent LooksAtStage)))
          by_closed Open e = grind (arith, common_steps, by_empty, open_apart)
          by_closed (Marking m) e = grind (arith, common_steps, by_empty, marking_apart)
          by_closed Closed e = idle

    -- ---- an election
    module _ (t : ℕ) (e : E) (elects : c.phase ≡ phase.Electing t e) where
      electing_fits : HasBegun c.queue × GoesOn base frames c
      electing_fits = subst (Fits base words frames c) elects part.fits

      -- it takes the page
      take_kept : (o : ℕ) → X.owner e ≡ Some o → Kept (TakesPage t)
      take_kept o own = (
        only (Store record { 0 = 1 } (2 * t + 1)) (omega arith),
        λ step new. taken step new (at_home t e elects o own).0 (at_home t e elects o own).1,
      )
        where
          taken : bus.Changes (Store record { 0 = 1 } (2 * t + 1)) words words'
              → senders' p ≡ Some (core_with_page c t home) → (page : Page) → home ≡ Some page
              → Sending base P x words' None senders' (owners ++ p ∷ []) frames
          taken step new page i = bus.takes X P laws x ok width words home senders owners frames h p
              c (record c { phase = phase.Holding t page 0 false }) senders' old
              (new ∙ ap (λ z. Some (core_with_page c t z)) i) beside
              t e page words' elects (own_output t e elects o own) i step.here
              (λ r ne. step.elsewhere r ne) refl

      -- it takes a step of its election
      module _ (o : Op) (next : X.op e word ≡ Some o) (step : bus.Changes o words words') where
        abbrev later : E
        later = X.fed e (words (register o)) word

        going : (owner : Option ℕ) → X.owner later ≡ owner → ((u : ℕ) → owner ≡ Some u → u ≡ p)
            → senders' p ≡ Some (record c { phase = phase.Electing t later })
            → Sending base P x words' home senders' owners frames
        going owner i mine now = bus.elects_on X P laws x ok width words home senders owners frames
            h p c (record c { phase = phase.Electing t later }) senders' old now beside t e word o
            words' elects next step refl refl
            (λ u out. mine u (sym i ∙ owner_is later ∙ out))
            record {
              layout = part.layout;
              me = part.me;
              below = part.below;
              sender = part.sender;
              limit = part.limit;
              queue = part.queue;
              fits = electing_fits;
            }

        losing : (u : ℕ) → X.owner later ≡ Some u → u ≢ p
            → senders' p
            ≡ Some (record c {
              queue = record c.queue { busy = false };
              least = t + 1;
              phase = phase.Resting;
            }) → Sending base P x words' home senders' owners frames
        losing u i other now = bus.loses X P laws x ok width words home senders owners frames h p c
            (record c {
              queue = record c.queue { busy = false };
              least = t + 1;
              phase = phase.Resting;
            }) senders' old now beside t e word o words' elects next step
            u (sym (owner_is later) ∙ i) other refl refl
            record {
              layout = part.layout;
              me = part.me;
              below = part.below;
              sender = part.sender;
              limit = part.limit;
              queue = grind (arith, common_steps, part);
              fits = (refl, electing_fits.1);
            }

        by_owner : (owner : Option ℕ) → X.owner later ≡ owner
            → senders' p ≡ Some (core_elected c t later owner)
            → Sending base P x words' home senders' owners frames
        by_owner None i now = going None i (λ u b. absurd cc) now
        by_owner (Some u) i now = elim (eqb_tells u c.me) [
          | inl y ↦ going (Some u) i (λ v b. sym (same_Some _ _ b) ∙ y.1 ∙ part.me)
              (now
              ∙ ap (λ b. Some (cond b (record c { phase = phase.Electing t later }) (record c {
                queue = record c.queue { busy = false };
                least = t + 1;
                phase = phase.Resting;
              }))) y.0)
          | inr y ↦ grind (arith, common_steps, losing, part)
        ]

      -- whatever its step is
      abbrev KeptBy : Option Op → Type 0
      KeptBy z =
          Steps z words words'
          → senders' p
          ≡ Some (core_elected c t (X.fed e (number_found words z) word)
          (X.owner (X.fed e (number_found words z) word)))
          → Sending base P x words' home senders' owners frames

      elect_kept : (o : Op) → X.op e word ≡ Some o → Kept (Elects t e)
      elect_kept o next = (
        λ flat. (refl, in_row t e elects),
        subst KeptBy (sym next) (λ step now.
            by_owner o next step (X.owner (X.fed e (words (register o)) word)) refl now),
      )

      election_kept : Kept (electing X t e)
      election_kept = by_output (X.owner e) refl
        where
          by_output : (owner : Option ℕ) → X.owner e ≡ owner
              → Kept (cond (is_some owner) (TakesPage t) (Elects t e))
          by_output (Some o) i = take_kept o i
          by_output None i = elect_kept (has_step t e elects i).0 (has_step t e elects i).1

    -- ---- a holder of the page
    module _ (t : ℕ) (page : Page) (stored : ℕ) (published : Bool)
        (holds : c.phase ≡ phase.Holding t page stored published) where
      capacity_is : c.layout.capacity ≡ x.capacity
      capacity_is = ap (λ (z : Layout). z.capacity) part.layout

      log_is : log_at c.layout ≡ log_at x
      log_is = ap log_at part.layout

      gives : (reason : Reason)
          → (bus.Changes (Store record { 0 = 1 } (2 * t + 2)) words words'
          → senders' p ≡ Some (core_at_rest c reason t)
          → Sending base P x words' (Some (page_after c t page reason)) senders' owners frames)
          → Kept (GivesBack t page reason)
      gives reason kept = (only (Store record { 0 = 1 } (2 * t + 2)) (omega arith), kept)

      unsent_kept : (reason : Reason) → IsUnsent reason → published ≡ false
          → Kept (GivesBack t page reason)
      unsent_kept reason unsent none_yet = gives reason (λ step new.
          holders.gives_unsent X P laws x ok width words home senders owners frames h p c
          (core_at_rest c reason t) senders' old new beside t page stored published holds words'
          step.here (λ r ne. step.elsewhere r ne) reason unsent none_yet refl)

      sent_kept : published ≡ true → Kept (GivesBack t page Sent)
      sent_kept out = gives Sent (λ step new.
          holders.gives_sent X P laws x ok width words home senders owners frames h p c
          (core_at_rest c Sent t) senders' old new beside t page stored published holds words'
          step.here (λ r ne. step.elsewhere r ne) out refl)

      module _ (none_yet : published ≡ false) (is_open : page.ended ≡ false)
          (room : page.words + frame_len c ≤ c.layout.capacity + page.floor) where
        abbrev number : ℕ
        number = slice_index (frame_words (frame_of c.queue t)) stored

        -- where no word of the log is used again
        straight : stored < frame_len c → x.passers ≡ 0
            → (log_at c.layout + cell_of c.layout (page.words + stored)
            ≡ log_at c.layout + page.words + stored)
            × (log_at c.layout + page.words + stored < words_of x)
        straight more flat =
            let floor = holders.floor_flat X P laws x ok width words home senders owners frames h p
            c c senders old old (λ q ne. refl) t page stored published holds flat in
            let cell = cell_straight c.layout (page.words + stored) (omega arith) in
            let b = capacity_is in let d = log_is in (omega arith, omega arith)

        store_kept : stored < frame_len c → Kept (StoresWord t page stored)
        store_kept more = (
          λ flat.
              let place = straight more flat in (
                ap (λ r. Some (Store record { 0 = r } number)) (sym place.0),
                λ o same. subst (λ z. register z < words_of x) (same_Some _ _ same)
                    (subst (λ r. r < words_of x) (sym place.0) place.1),
              ),
          λ step new.
              holders.writes X P laws x ok width words home senders owners frames h p c
              (record c { phase = phase.Holding t page (stored + 1) false }) senders' old new beside
              t page stored published holds words' none_yet is_open room more step.here
              (λ r ne. step.elsewhere r ne) refl,
        )

        publish_kept : frame_len c ≤ stored → Kept (StoresLength t page stored)
        publish_kept all = (
          only (Store record { 0 = 0 } (page.words + frame_len c)) (omega arith),
          λ step new.
              holders.publishes X P laws x ok width words home senders owners frames h p c
              (record c { phase = phase.Holding t page stored true }) senders' old new beside t page
              stored published holds words' none_yet is_open room all step.here
              (λ r ne. step.elsewhere r ne) refl,
        )

        stores_by : (b : Bool) → nat_lt stored (frame_len c) ≡ b
            → Kept (cond b (StoresWord t page stored) (StoresLength t page stored))
        stores_by true e = store_kept (ltb-true stored (frame_len c) e)
        stores_by false e = publish_kept (ltb-false stored (frame_len c) e)

      hold_kept : Kept (holding c t page stored published)
      hold_kept = by_published published refl
        where
          by_room : (b : Bool) → published ≡ false → page.ended ≡ false → has_room c page ≡ b
              → Kept (cond b (cond (nat_lt stored (frame_len c)) (StoresWord t page stored)
              (StoresLength t page stored)) (GivesBack t page NoRoom))
          by_room true a d e = stores_by a d
              (leb-true (page.words + frame_len c) (c.layout.capacity + page.floor) e)
              (nat_lt stored (frame_len c)) refl
          by_room false a d e = unsent_kept NoRoom tt a

          by_ended : (b : Bool) → published ≡ false → page.ended ≡ b
              → Kept (cond b (GivesBack t page FoundEnd)
              (cond (has_room c page) (cond (nat_lt stored (frame_len c)) (StoresWord t page stored)
              (StoresLength t page stored)) (GivesBack t page NoRoom)))
          by_ended true a d = unsent_kept FoundEnd tt a
          by_ended false a d = by_room (has_room c page) a d refl

          by_published : (b : Bool) → published ≡ b
              → Kept (cond b (GivesBack t page Sent)
              (cond page.ended (GivesBack t page FoundEnd)
              (cond (has_room c page) (cond (nat_lt stored (frame_len c)) (StoresWord t page stored)
              (StoresLength t page stored)) (GivesBack t page NoRoom))))
          by_published true e = sent_kept e
          by_published false e = by_ended page.ended e refl

    -- ---- any turn
    turn_at : (ph : Phase E) → c.phase ≡ ph → Kept (situation_at X c ph)
    turn_at phase.Resting e = rest_kept e
    turn_at (phase.Electing t u) e = election_kept t u e
    turn_at (phase.Taken t) e = absurd (subst (Fits base words frames c) e part.fits)
    turn_at (phase.Holding t page stored published) e = hold_kept t page stored published e
    turn_at (phase.Giving t reason) e = absurd (subst (Fits base words frames c) e part.fits)

    -- a turn of a sender keeps what senders, words, page and owners keep, with this step
    abbrev KeptWith : Option Op → Type 0
    KeptWith due =
        Steps due words words'
        → senders' p ≡ Some (core_after X c (situation_of X c) home (number_found words due) word)
        → Sending base P x words' (home_after X c (situation_of X c) home) senders'
        (owners_after X c (situation_of X c) p owners) (frames_after X c (situation_of X c) frames)

    -- with that on words of a log without an end
    pub turn_keeps : KeptWith (op_laid X c (situation_of X c) word)
    turn_keeps = (turn_at c.phase refl).1

    -- and with its own, where no word of the log is used again, on a word that there is
    module _ (flat : x.passers ≡ 0) where
      pub turn_within : (o : Op) → op_at X c (situation_of X c) word ≡ Some o
          → register o < words_of x
      turn_within = ((turn_at c.phase refl).0 flat).1

      pub turn_straight : KeptWith (op_at X c (situation_of X c) word)
      turn_straight = subst KeptWith ((turn_at c.phase refl).0 flat).0 turn_keeps

-- ---- lists
-- what the senders of a machine keep, with these frames in the log
pub record IsSide {E : Type 0} (base : ℕ → ℕ) (P : Protocol E (Unit {0}) ℕ) (x : Layout)
    (side : Side E) (frames : List Frame) : Type 0 where
  pub words : length side.words ≡ words_of x
  pub sending : Sending base P x (slice_index side.words) side.home (slice_get side.senders)
      side.owners frames

pub side_of : {base : ℕ → ℕ} {E : Type 0} {P : Protocol E (Unit {0}) ℕ} {x : Layout} {b : Bus E}
    {frames : List Frame} → LawfulBus base P x b frames → IsSide base P x b.side frames
side_of h = record { words = h.words; sending = h.keeps.sending }

module _ (words : List ℕ) where
  length-stepped : (o : Option Op) → length (words_after words o) ≡ length words
  length-stepped None = refl
  length-stepped (Some o) = length-set words (register o) (after o (slice_index words (register o)))

  pub stepped-steps : (o : Option Op) → ((u : Op) → o ≡ Some u → register u < length words)
      → Steps o (slice_index words) (slice_index (words_after words o))
  stepped-steps None within = λ r. refl
  stepped-steps (Some o) within =
      grind (arith, common_steps, get_or-set_same, register, after, slice_index, get_or-set_other)

-- ---- a turn on lists
module _ {base : ℕ → ℕ} {E : Type 0} (X : Election E) (P : Protocol E (Unit {0}) ℕ)
    (laws : Laws X.op X.fed P OneOwner) (x : Layout) (ok : IsLayout x)
    (width : x.width ≡ P.width x.senders)
    (starts : (n me at : ℕ) → X.started n me x.rounds at ≡ P.started n me tt at)
    (owner_is : (e : E) → X.owner e ≡ P.output e)
    (flat : x.passers ≡ 0)
    (side : Side E) (frames : List Frame) (h : IsSide base P x side frames) (p : ℕ) (c : Core E)
    (old : slice_get side.senders p ≡ Some c) (word : ℕ) where
  pub turn_lawful : IsSide base P x (side_after X side p c (situation_of X c) word)
      (frames_after X c (situation_of X c) frames)
  turn_lawful =
      let W = slice_index side.words in
      let op = op_at X c (situation_of X c) word in
      let c' = core_after X c (situation_of X c) side.home (number_found W op) word in
      let words' = slice_index (words_after side.words op) in
      let senders' = slice_get (slice_set side.senders p c') in
      let others = get_set_other side.senders p c' in
      let within = turn_within X P laws x ok width starts owner_is W side.home
      (slice_get side.senders) side.owners frames h.sending p c old word words' senders' others
      flat in
      record {
        words = length-stepped side.words op ∙ h.words;
        sending = turn_straight X P laws x ok width starts owner_is W side.home
            (slice_get side.senders) side.owners frames h.sending p c old word words' senders'
            others flat
            (stepped-steps side.words op
            (λ o due. let a = within o due in let b = h.words in omega arith))
            (get_set_same side.senders p c' (slice_get_within side.senders p c old));
      }

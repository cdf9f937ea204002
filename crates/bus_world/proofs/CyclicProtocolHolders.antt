-- A holder of the page keeps what is always kept: it stores words of its frame and the length,
-- makes the next row ready and gives the page back.
use Rattle.std.proofs.Common.{◌≡◌, ◌⊎◌, inl, inr, ℕ, ◌+◌, ◌-◌, ◌*◌, ◌%◌, ◌<◌, ◌≤◌, Bool, true}
use Rattle.std.proofs.Common.{false, cond, nat_lt, nat_le, Option, Some, None, List, [], ◌∷◌, ◌++◌}
use Rattle.std.proofs.Common.{is_some, slice_get, slice_index, arith, refl, sym, ◌∙◌, ap, subst}
use Rattle.std.proofs.lemmas.Bool.{cases_eq, cases_lt, ltb-false, true≢false, and_from, le-leb}
use Rattle.std.proofs.lemmas.Option.{same_Some}
use Rattle.std.proofs.lemmas.Grind.{common_steps}
use Rattle.bus_register.specs.declared.kinds.Kind.TheVariants as kind
use Rattle.bus_register.specs.declared.registers.Op.{Op}
use Rattle.bus_register.specs.declared.registers.Op.TheVariants.{Store}
use Rattle.bus_register.specs.Tables.{Agree, put, of_some}
use Rattle.bus_register.specs.Private.TableLaws.{put_here, put_beside}
use Rattle.bus_register.specs.Protocol.{Protocol, Laws}
use Rattle.bus_batch.specs.Batches.{frame_of}
use Rattle.bus_batch.specs.Frames.{Frame, frame_words}
use Rattle.bus_deliverylog.specs.declared.receiving.RecvTurn.{RecvTurn}
use Rattle.bus_ownerbits.specs.OneOwner.{OneOwner}
use Rattle.bus_presence.specs.declared.pins.Pin.{Pin}
use Rattle.bus_presence.specs.Pins.{step_at}
use Rattle.bus_presence.specs.Reclaimers.{Reclaiming, reclaim_op, reclaim_fed, is_reclaimed}
use Rattle.bus_presence.specs.Reclamation.{ReclamationSizes, Reclamation, Trails, presence_at}
use Rattle.bus_presence.specs.Reclamation.{number_of_step, words_after, IsReady}
use Rattle.bus_presence.specs.Reclamation.{Reclaims as Reclaimed, GivesBack as GaveBack, Stores}
use Rattle.bus_presence.specs.Reclamation.{Reached, Then}
use Rattle.bus_presence.proofs.ReclamationKept.{lt_tells}
use Rattle.bus_presence.proofs.ReclamationLaws.{safe}
use Rattle.bus_tenure.specs.Core.{Core, Election, Layout, log_at, cell_of, frame_len, has_room}
use Rattle.bus_tenure.proofs.Caused.{word_room}
use Rattle.bus_tenure.specs.Situations.{Situation, StoresWord, StoresLength, GivesBack}
use Rattle.bus_tenure.specs.Situations.{situation_of, situation_at, core_at_rest}
use Rattle.bus_tenure.specs.declared.pages.Page.{Page}
use Rattle.bus_tenure.specs.declared.phases.Reason.{Reason}
use Rattle.bus_tenure.specs.declared.phases.Reason.TheVariants.{Sent, FoundEnd, NoRoom}
use Rattle.bus_tenure.specs.declared.phases.Phase.TheVariants as phase
use Rattle.bus_tenure.specs.declared.turns.Turn.{Turn as Answered}
use Rattle.bus_world.specs.World.{IsLayout}
use Rattle.bus_world.specs.Private.Tenures.Stage.{Open, Held}
use Rattle.bus_world.specs.Private.Sending.{Fits, IsWriting, standing_of, stands_at}
use Rattle.bus_core.specs.Reusing.Participants.{sizes_with, log_from}
use Rattle.bus_world.specs.Private.CyclicProtocols.{CyclicProtocol, going_actions}
use Rattle.bus_world.specs.Private.CyclicProtocols.{protocol_reclaimed, protocol_after_going}
use Rattle.bus_world.specs.Trails.{actions_with}
use Rattle.bus_world.proofs.BusLaws as bus
use Rattle.bus_world.proofs.LogLaws.{log_words-append}
use Rattle.bus_world.proofs.Waiting.{frames_after, waiting_at, waiting_of}
use Rattle.bus_world.specs.Headline.{Action, Stepped, Asked}
use Rattle.bus_world.proofs.Tying.{next_at, next_tenure}
use Rattle.bus_world.proofs.TableTrails.{plain_none, plain_step}
use Rattle.bus_world.proofs.Asking.{turn_waiting, turn_frames, frames_later, own_asked}
use Rattle.bus_world.proofs.PutLaws.{publish_puts}
use Rattle.bus_world.proofs.CyclicProtocolHears.{all_after}
use Rattle.bus_world.proofs.CyclicProtocolNotes.{noted_turn, steps_put_nothing, nothing_put}
use Rattle.bus_world.proofs.CyclicProtocolWords.{put_is, quiet_reclaimer}
use Rattle.bus_world.proofs.RingWords.{Laid, laid_quiet, laid_logged, laid_told, laid_given}
use Rattle.bus_world.proofs.CyclicProtocolKept as kept
use Rattle.bus_world.proofs.CyclicProtocolKept.{stored_is, held_page_is, resting_no_holding}
use Rattle.bus_world.proofs.FloorLaws.{floors_over, floors_later}
use Rattle.bus_world.proofs.SenderParts.{floor_after}
use Rattle.bus_world.specs.Floors.{passed_place}

-- ---- what a holder's situation tells of its phase
module _ {E : Type 0} (t : ℕ) (page : Page) (stored : ℕ) where
  abbrev held_as : Bool → Bool → Bool → Situation E
  held_as ended room more = cond ended (GivesBack t page FoundEnd)
      (cond room (cond more (StoresWord t page stored) (StoresLength t page stored))
      (GivesBack t page NoRoom))

  pub stores_unpublished : (published ended room more : Bool)
      → cond published (GivesBack t page Sent) (held_as ended room more) ≡ StoresWord t page stored
      → published ≡ false
  stores_unpublished true ended room more h = absurd cc
  stores_unpublished false ended room more h = refl

  pub tells_unpublished : (published ended room more : Bool)
      → cond published (GivesBack t page Sent) (held_as ended room more)
      ≡ StoresLength t page stored → published ≡ false
  tells_unpublished true ended room more h = absurd cc
  tells_unpublished false ended room more h = refl

  -- who stores the length has no word left to store, and who gives the page back is not on its way
  tells_all : (published ended room more : Bool)
      → cond published (GivesBack t page Sent) (held_as ended room more)
      ≡ StoresLength t page stored → more ≡ false
  tells_all true ended room more h = absurd cc
  tells_all false true room more h = absurd cc
  tells_all false false true true h = absurd cc
  tells_all false false true false h = refl
  tells_all false false false more h = absurd cc

  gives_none : (reason : Reason) (ended room more : Bool) → ended ≡ false → room ≡ true
      → held_as ended room more ≡ GivesBack t page reason → ⊥
  gives_none reason true room more opened has h = true≢false opened
  gives_none reason false false more opened has h = true≢false (sym has)
  gives_none reason false true true opened has h = cc
  gives_none reason false true false opened has h = cc

  never_sent : (ended room more : Bool) → held_as ended room more ≡ GivesBack t page Sent → ⊥
  never_sent true room more h = cc
  never_sent false true true h = cc
  never_sent false true false h = cc
  never_sent false false more h = cc

  sent_is : (reason : Reason)
      → ◌≡◌ {A = Situation E} (GivesBack t page Sent) (GivesBack t page reason) → Sent ≡ reason
  sent_is reason h = cc

  -- who gives it back for want of room has published nothing
  pub lacks_unpublished : (published ended room more : Bool)
      → cond published (GivesBack t page Sent) (held_as ended room more)
      ≡ GivesBack t page NoRoom → published ≡ false
  lacks_unpublished true ended room more h =
      absurd (let bad : Sent ≡ NoRoom = sent_is NoRoom h in cc)
  lacks_unpublished false ended room more h = refl

  -- who gives the page back keeps what waits
  gives_waits : (c : Core E) (published ended room more : Bool)
      → c.phase ≡ phase.Holding t page stored published → (reason : Reason)
      → cond published (GivesBack t page Sent) (held_as ended room more) ≡ GivesBack t page reason
      → waiting_of (Some (core_at_rest c reason t)) ≡ waiting_of (Some c)
  gives_waits c true ended room more holds reason h = cc
  gives_waits c false ended room more holds Sent h = absurd (never_sent ended room more h)
  gives_waits c false ended room more holds FoundEnd h = sym (ap (waiting_at c) holds)
  gives_waits c false ended room more holds NoRoom h = sym (ap (waiting_at c) holds)

-- a reclaimed row is ready
reclaimed_is : (s : Reclaiming) → reclaim_op s ≡ None → is_reclaimed s ≡ true
reclaimed_is s = grind (arith, common_steps, lt_tells, nat_lt, and_from, nat_le, le-leb)

module _ {E : Type 0} (X : Election E) (P : Protocol E (Unit {0}) ℕ)
    (laws : Laws X.op X.fed P OneOwner) (x : Layout) (ok : IsLayout x)
    (width : x.width ≡ P.width x.senders)
    (starts : (n me at : ℕ) → X.started n me x.rounds at ≡ P.started n me tt at)
    (owner_is : (e : E) → X.owner e ≡ P.output e)
    (named : (e : E) (word : ℕ) → is_some (X.kind_of e) ≡ is_some (X.op e word))
    (announces : (e : E) → P.has_begun e ≡ false → X.kind_of e ≡ Some kind.Announce)
    (apart : (e : E) → X.kind_of e ≡ Some kind.TakePage → ⊥)
    (rows : ℕ) (two : 2 ≤ rows) where
  abbrev z : ReclamationSizes
  z = sizes_with x rows

  abbrev IsParticipant : Pin → Core E → Type 0
  IsParticipant =
      kept.IsParticipant X P laws x ok width starts owner_is named announces apart rows two

  abbrev AreStored : Option Page → (ℕ → Option (Core E)) → (ℕ → ℕ) → ℕ → ℕ → Type 0
  AreStored = kept.AreStored X P laws x ok width starts owner_is named announces apart rows two

  abbrev Kept : (ℕ → List RecvTurn) → CyclicProtocol E → Trails → (ℕ → List Action) → List ℕ
      → (ℕ → ℕ) → List Frame → Type 0
  Kept = kept.Kept X P laws x ok width starts owner_is named announces apart rows two

  abbrev HasKept : (ℕ → List RecvTurn) → CyclicProtocol E → Trails → (ℕ → List Action)
      → List ℕ → Type 0
  HasKept = kept.HasKept X P laws x ok width starts owner_is named announces apart rows two

  module _ (H : ℕ → List RecvTurn) (y : CyclicProtocol E) (T : Trails) (D : ℕ → List Action)
      (L : List ℕ) (V : ℕ → ℕ) (frames : List Frame) (k : Kept H y T D L V frames) (p : ℕ)
      (c : Core E) (old : y.senders p ≡ Some c) where
    open kept.turn_facts X P laws x ok width starts owner_is named announces apart rows two H y T D
        L
        V frames k p c old use {
          part,
          participant,
          reclamation_keeps,
          floors_same,
          participants_on,
          tied,
          tied_put,
          noted,
          noted_as,
          changes_put,
        }

    abbrev same_actions : ℕ → List Action
    same_actions = actions_with p [] D

    -- ---- a step of a reclamation
    pub reclaimer_kept : (s : Reclaiming) (o : Op) → y.reclamation.reclaimer ≡ Some s
        → reclaim_op s ≡ Some o → HasKept H (protocol_reclaimed y s o) T same_actions L
    reclaimer_kept s o is due =
        let reclamation' : Reclamation = record y.reclamation {
          words = words_after y.reclamation o;
          reclaimer = Some (reclaim_fed s (number_of_step y.reclamation o));
        } in
        let quiet = quiet_reclaimer x rows two y.reclamation T reclamation_keeps s is o due in
        record {
          V = V;
          frames = frames;
          kept = record {
            hears = k.hears;
            reached = Then y.reclamation reclamation' T T k.reached
                (Reclaimed y.reclamation T s o is due);
            sending = k.sending;
            log_is = k.log_is;
            W = k.W;
            floor = k.floor;
            floors = floors_same reclamation'.words V refl quiet.passed;
            stored = k.stored;
            laid = laid_quiet x rows y.reclamation reclamation' V k.W quiet k.laid;
            ties = tied V c y.senders (λ q ne. refl) old [] (λ q a b. refl) (omega arith)
                (λ t e i. i) plain_none;
            notes = noted c y.senders (λ q ne. refl) old [] nothing_put refl (λ m i. i);
            participants = k.participants;
            ready = λ t held none. absurd cc;
          };
        }

    -- a holder is in no election and enters none
    held_participant : (t : ℕ) (page : Page) (stored : ℕ) (published : Bool)
        → c.phase ≡ phase.Holding t page stored published → (c' : Core E)
        → ((u : ℕ) (e : E) → c'.phase ≡ phase.Electing u e → ⊥)
        → IsParticipant (y.reclamation.pins p) c'
    held_participant t page stored published holds c' out = record {
      pinned = λ u i. absurd (let e = participant.pinned u i in
          bus.holding_apart t page stored published u e.0 (sym holds ∙ e.1));
      electing = λ u e i. absurd (out u e i);
      announcing = λ u i. absurd (resting_no_holding t page stored published
          (sym (participant.announcing u i).rests ∙ holds));
    }

    module _ (word : ℕ) (answer : Answered)
        (free : step_at (y.reclamation.pins p) (presence_at z p) 1 ≡ None) where
      open kept.step_facts X P laws x ok width starts owner_is named announces apart rows two H y T
          D L V frames k p c old word answer free use {turn_on}

      -- ---- a holder of the page
      module _ (t : ℕ) (page : Page) (stored : ℕ) (published : Bool)
          (holds : c.phase ≡ phase.Holding t page stored published) where
        abbrev pins_on : ℕ → Pin
        pins_on = put p (y.reclamation.pins p) y.reclamation.pins

        held_next : next_tenure c ≡ t + 1
        held_next = ap (next_at c) holds

        -- a word outside of all rows
        beside_rows : (r n : ℕ) → (r < 2) ⊎ (log_at x ≤ r)
            → Agree 2 (x.rows * P.width x.senders) V (put r n V)
        beside_rows r n out q a b = grind (arith, common_steps, put_beside)

        pins_same : pins_on ≡ y.reclamation.pins
        pins_same = put_is p (y.reclamation.pins p) y.reclamation.pins refl

        stage_held : y.reclamation.words 1 ≡ 2 * t + 1
        stage_held =
            k.laid.stage
            ∙ (k.sending.tenures.holding p t
            (ap (of_some standing_of) old ∙ ap (λ w. Some (stands_at w)) holds)).1

        -- nobody else holds a page, which is not at home
        alone : (q u : ℕ) (pg : Page) (st : ℕ) (b : Bool) (d : Core E) → y.senders q ≡ Some d
            → d.phase ≡ phase.Holding u pg st b → q ≡ p
        alone q u pg st b d at is =
            let mine = k.sending.tenures.holding p t
            (ap (of_some standing_of) old ∙ ap (λ w. Some (stands_at w)) holds) in
            let its = k.sending.tenures.holding q u
            (ap (of_some standing_of) at ∙ ap (λ w. Some (stands_at w)) is) in
            same_Some _ _ (sym its.2 ∙ ap (slice_get y.owners) (its.0 ∙ sym mine.0) ∙ mine.2)

        not_home : is_some y.home ≡ true → ⊥
        not_home there = elim k.sending.tenures.stage_is [
          | Open stage here many ↦
              (let mine = k.sending.tenures.holding p t
              (ap (of_some standing_of) old ∙ ap (λ w. Some (stands_at w)) holds) in
              let a = mine.1 in omega arith)
          | Held holder stage away many hs ↦ true≢false (sym there ∙ away)
        ]

        -- what it writes, where it has not published
        writing_now : published ≡ false → IsWriting (slice_index y.bases) V frames c t page stored
        writing_now unpublished =
            (subst (Fits (slice_index y.bases) V frames c)
            (holds ∙ ap (phase.Holding t page stored) unpublished) part.fits).1

        stored_now : published ≡ false → k.W ≡ V 0 + stored
        stored_now unpublished = k.stored.writing p t page stored c old
            (holds ∙ ap (phase.Holding t page stored) unpublished)

        -- what of this the file of its loads opens
        pub record HolderFacts : Type 0 where
          pub held_next : next_tenure c ≡ t + 1
          pub pins_same : pins_on ≡ y.reclamation.pins
          pub alone : (q u : ℕ) (pg : Page) (st : ℕ) (b : Bool) (d : Core E) → y.senders q ≡ Some d
              → d.phase ≡ phase.Holding u pg st b → q ≡ p
          pub not_home : is_some y.home ≡ true → ⊥
          pub writing_now : published ≡ false
              → IsWriting (slice_index y.bases) V frames c t page stored
          pub holds_on : (c' : Core E) → ((u : ℕ) (e : E) → c'.phase ≡ phase.Electing u e → ⊥)
              → IsParticipant (y.reclamation.pins p) c'

        pub holder_facts : HolderFacts
        holder_facts = record {
          held_next = held_next;
          pins_same = pins_same;
          alone = alone;
          not_home = not_home;
          writing_now = writing_now;
          holds_on = held_participant t page stored published holds;
        }

        -- its page has the floor that it had
        held_on : (c' : Core E) (k' : ℕ) (b' : Bool) → c'.phase ≡ phase.Holding t page k' b'
            → (q v : ℕ) (pg : Page) (st : ℕ) (b : Bool) (d : Core E)
            → put p (Some c') y.senders q ≡ Some d → d.phase ≡ phase.Holding v pg st b
            → pg.floor ≡ k.floor
        held_on c' k' b' now q v pg st b d at is =
            grind (arith, common_steps, cases_eq, same_Some, put_here, held_page_is, put_beside)

        -- it stores a word of its frame
        module _ (unpublished : published ≡ false)
            (at : situation_of X c ≡ StoresWord t page stored) where
          -- in a cell of the log, counted from its first
          abbrev spot : ℕ
          spot = log_at c.layout + cell_of c.layout (page.words + stored) - log_at x

          abbrev number : ℕ
          number = slice_index (frame_words (frame_of c.queue t)) stored

          abbrev writer : Core E
          writer = record c { phase = phase.Holding t page (stored + 1) false }

          log_is : log_at c.layout ≡ log_at x
          log_is = ap log_at part.layout

          behind : (a b n : ℕ) → a ≡ b → n ≡ a + n - b
          behind a b n e = omega arith

          -- the next word is stored
          next_is : k.W ≡ page.words + stored
          next_is = grind (arith, common_steps, stored_now, writing_now)

          cell_is : k.W % x.capacity ≡ spot
          cell_is =
              ap (λ n. n % x.capacity) next_is
              ∙ ap (λ (l : Layout). cell_of l (page.words + stored)) (sym part.layout)
              ∙ behind (log_at c.layout) (log_at x) (cell_of c.layout (page.words + stored)) log_is

          -- and there is room for it
          few_now : k.W < x.capacity + k.floor
          few_now =
              let floor = k.stored.floor_held p t page stored published c old holds in
              let room = word_room c t page stored published holds
              (sym (ap (situation_at X c) holds) ∙ at) in
              let fits = room.0 in let left = room.1 in
              let a = next_is in
              let b = ap (λ (l : Layout). l.capacity) part.layout in
              omega arith

          place_is : log_at c.layout + page.words + stored ≡ log_at x + k.W
          place_is = let a = log_is in let b = next_is in omega arith

          same_first : put (log_at x + k.W) number V 0 ≡ V 0
          same_first = put_beside (log_at x + k.W) number V 0 (λ i. omega arith)

          stored_one : AreStored y.home (put p (Some writer) y.senders)
              (put (log_at x + k.W) number V) (k.W + 1) k.floor
          stored_one = record {
            few = (let a = few_now in omega arith);
            low = (let a = k.stored.low in let b = same_first in omega arith);
            home = λ there. absurd (not_home there);
            writing = λ q v pg st d at is. elim (cases_eq q p) [
              | inl i ↦
                  let own_phase : phase.Holding t page (stored + 1) false
                  ≡ phase.Holding v pg st false =
                  ap (λ (w : Core E). w.phase) (same_Some _ _
                  (sym (put_here p (Some writer) y.senders)
                  ∙ ap (put p (Some writer) y.senders) (sym i) ∙ at)) ∙ is in
                  let one = (stored_is t page (stored + 1) false v pg st false own_phase).0 in
                  let a = stored_now unpublished in let b = same_first in omega arith
              | inr ne ↦ absurd
                  (ne (alone q v pg st false d
                  (sym (put_beside p (Some writer) y.senders q ne) ∙ at) is))
            ];
            written = λ q v pg st d at is. elim (cases_eq q p) [
              | inl i ↦ grind (arith, common_steps, same_Some, put_here, true≢false, stored_is)
              | inr ne ↦ absurd
                  (ne (alone q v pg st true d (sym (put_beside p (Some writer) y.senders q ne) ∙ at)
                  is))
            ];
            floor_home = k.stored.floor_home;
            floor_held = held_on writer (stored + 1) false refl;
          }

          pub stores_kept : HasKept H
              (protocol_after_going X x rows y p c (StoresWord t page stored) word) T
              (actions_with p (going_actions X x rows y c (StoresWord t page stored) word answer) D)
              L
          stores_kept = record {
            V = put (log_at x + k.W) number V;
            frames = frames;
            kept = record {
              hears = k.hears;
              reached = subst (λ v. Reached z (record {
                words = put (log_from x rows + spot) number y.reclamation.words;
                pins = v;
                reclaimer = y.reclamation.reclaimer;
              }) T) (sym pins_same)
                  (Then y.reclamation (record y.reclamation {
                    words = put (log_from x rows + spot) number y.reclamation.words;
                  }) T T k.reached
                  (Stores y.reclamation T (log_from x rows + spot) number (inr (omega arith))));
              sending = turn_on (StoresWord t page stored) at (put (log_at x + k.W) number V)
                  writer
                  (changes_put (Store record { 0 = log_at c.layout + page.words + stored } number)
                  (log_at x + k.W) number place_is refl) refl;
              ties = tied_put (put (log_at x + k.W) number V) writer
                  (Stepped (Some t) kind.StoreLogWord (y.reclamation.words (log_from x rows + spot))
                  None answer ∷ []) (beside_rows (log_at x + k.W) number (inr (omega arith)))
                  (let a = held_next in omega arith)
                  (λ u e i. absurd (bus.holding_apart t page (stored + 1) false u e i))
                  (plain_step _ _ _ _ (λ i. cc));
              notes = noted_as writer (Stepped (Some t) kind.StoreLogWord
                  (y.reclamation.words (log_from x rows + spot)) None answer ∷ [])
                  (steps_put_nothing (Some kind.StoreLogWord) (Some t)
                  (y.reclamation.words (log_from x rows + spot)) None answer)
                  (sym (ap (waiting_at c) (holds ∙ ap (phase.Holding t page stored) unpublished)))
                  (λ m i. i);
              log_is = k.log_is;
              W = k.W + 1;
              floor = k.floor;
              floors = grind (arith, common_steps, same_first, put_beside);
              stored = stored_one;
              laid = subst (λ n. Laid x rows (record {
                words = put (log_from x rows + n) number y.reclamation.words;
                pins = pins_on;
                reclaimer = y.reclamation.reclaimer;
              }) (put (log_at x + k.W) number V) (k.W + 1)) cell_is
                  (laid_logged x rows y.reclamation pins_on V k.W k.laid number two);
              participants = participants_on (y.reclamation.pins p) writer
                  (held_participant t page stored published holds writer
                  (λ u e. bus.holding_apart t page (stored + 1) false u e));
              ready = λ u held none. k.ready u
                  (sym (put_beside (log_from x rows + spot) number y.reclamation.words 1
                  (λ i. omega arith)) ∙ held) none;
            };
          }

        -- it stores the length
        pub tells_kept : published ≡ false → situation_of X c ≡ StoresLength t page stored
            → HasKept H (protocol_after_going X x rows y p c (StoresLength t page stored) word) T
            (actions_with p (going_actions X x rows y c (StoresLength t page stored) word answer) D)
            (L ++ frame_words (frame_of c.queue t))
        tells_kept unpublished at =
            let n = page.words + frame_len c in
            let c' : Core E = record c { phase = phase.Holding t page stored true } in
            let w = writing_now unpublished in
            let past = ltb-false stored (frame_len c)
            (tells_all t page stored published page.ended (has_room c page)
            (nat_lt stored (frame_len c)) (sym (ap (situation_at X c) holds) ∙ at)) in
            let all_told : k.W ≡ n =
            (let a = stored_now unpublished in
            let b = w.page_knows.words in let d = w.stored_below in omega arith) in
            record {
              V = put 0 n V;
              frames = frames_after X c (StoresLength t page stored) frames;
              kept = record {
                hears = all_after x rows y.receivers frames (frame_of c.queue t) H k.hears;
                reached = subst (λ v. Reached z (record {
                  words = put 0 n y.reclamation.words;
                  pins = v;
                  reclaimer = y.reclamation.reclaimer;
                }) T) (sym pins_same)
                    (Then y.reclamation
                    (record y.reclamation { words = put 0 n y.reclamation.words }) T T k.reached
                    (Stores y.reclamation T 0 n (inl (omega arith))));
                sending = turn_on (StoresLength t page stored) at (put 0 n V) c'
                    (changes_put (Store record { 0 = 0 } n) 0 n refl refl) refl;
                ties = tied_put (put 0 n V) c'
                    (Stepped (Some t) kind.StoreLength (y.reclamation.words 0) None answer ∷ [])
                    (beside_rows 0 n (inl (omega arith))) (let a = held_next in omega arith)
                    (λ u e i. absurd (bus.holding_apart t page stored true u e i))
                    (plain_step _ _ _ _ (λ i. cc));
                notes = noted_turn y.senders frames D k.notes p c old (put p (Some c') y.senders)
                    (put_beside p (Some c') y.senders) c' (put_here p (Some c') y.senders)
                    (frames_after X c (StoresLength t page stored) frames)
                    (Stepped (Some t) kind.StoreLength (y.reclamation.words 0) None answer ∷ [])
                    (steps_put_nothing (Some kind.StoreLength) (Some t) (y.reclamation.words 0) None
                    answer)
                    (publish_puts X y.senders (put p (Some c') y.senders) frames p
                    (put_beside p (Some c') y.senders) c old part.queue part.sender t page stored
                    (holds ∙ ap (phase.Holding t page stored) unpublished)
                    (put_here p (Some c') y.senders))
                    (λ m i. i)
                    (turn_frames X c (StoresLength t page stored) frames
                    (λ m f. Asked m (actions_with p
                    (Stepped (Some t) kind.StoreLength (y.reclamation.words 0) None answer ∷ []) D
                    f.owner.0))
                    (frames_later y.senders frames D k.notes.askings p c old
                    (Stepped (Some t) kind.StoreLength (y.reclamation.words 0) None answer ∷ []))
                    (λ u m i. subst (λ q. Asked m (actions_with p
                    (Stepped (Some t) kind.StoreLength (y.reclamation.words 0) None answer ∷ []) D
                    q)) (sym part.sender) (own_asked y.senders frames D k.notes.askings p c old
                    (Stepped (Some t) kind.StoreLength (y.reclamation.words 0) None answer ∷ []) m
                    i)));
                log_is = log_words-append frames (frame_of c.queue t)
                    ∙ ap (λ l. l ++ frame_words (frame_of c.queue t)) k.log_is;
                W = k.W;
                floor = k.floor;
                floors = floors_over x rows y.reclamation.words y.passing y.receivers
                    (frames ++ frame_of c.queue t ∷ []) n k.floor
                    (floors_later x rows y.reclamation.words y.passing y.receivers frames (V 0)
                    k.floor k.floors (frame_of c.queue t ∷ []) n
                    (let a = k.stored.low in let b = all_told in omega arith))
                    (put 0 n y.reclamation.words) (put 0 n V 0) (put_here 0 n V)
                    (λ r l. put_beside 0 n y.reclamation.words (passed_place x rows r)
                    (λ i. omega arith));
                stored = record {
                  few = k.stored.few;
                  low = (let a = all_told in let b = put_here 0 n V in omega arith);
                  home = λ there. absurd (not_home there);
                  writing = λ q v pg st d here is. elim (cases_eq q p) [
                    | inl i ↦
                        grind (arith, common_steps, same_Some, put_here, true≢false, stored_is)
                    | inr ne ↦ absurd
                        (ne (alone q v pg st false d
                        (sym (put_beside p (Some c') y.senders q ne) ∙ here) is))
                  ];
                  written = λ q v pg st d here is. all_told ∙ sym (put_here 0 n V);
                  floor_home = k.stored.floor_home;
                  floor_held = held_on c' stored true refl;
                };
                laid = laid_told x rows y.reclamation pins_on V k.W k.laid n;
                participants = participants_on (y.reclamation.pins p) c'
                    (held_participant t page stored published holds c'
                    (λ u e. bus.holding_apart t page stored true u e));
                ready = λ u held none. k.ready u
                    (sym (put_beside 0 n y.reclamation.words 1 (λ i. omega arith)) ∙ held) none;
              };
            }

        -- it gives the page back, where the row of the next tenure is ready
        pub gives_kept : (reason : Reason) → situation_of X c ≡ GivesBack t page reason
            → ((s : Reclaiming) → y.reclamation.reclaimer ≡ Some s → reclaim_op s ≡ None)
            → HasKept H (protocol_after_going X x rows y p c (GivesBack t page reason) word) T
            (actions_with p (going_actions X x rows y c (GivesBack t page reason) word answer) D) L
        gives_kept reason at protocol_reclaimed =
            let c' : Core E = core_at_rest c reason t in
            let same_first : put 1 (2 * t + 2) V 0 ≡ V 0 =
            put_beside 1 (2 * t + 2) V 0 (λ i. omega arith) in
            let is_ready : IsReady z t y.reclamation.reclaimer =
            by_reclaimer y.reclamation.reclaimer refl in
            record {
              V = put 1 (2 * t + 2) V;
              frames = frames;
              kept = record {
                hears = k.hears;
                reached = subst (λ v. Reached z (record {
                  words = put 1 (2 * t + 2) y.reclamation.words;
                  pins = v;
                  reclaimer = None;
                }) T) (sym pins_same)
                    (Then y.reclamation (record y.reclamation {
                      words = put 1 (2 * t + 2) y.reclamation.words;
                      reclaimer = None;
                    }) T T k.reached (GaveBack y.reclamation T t stage_held is_ready));
                sending = turn_on (GivesBack t page reason) at (put 1 (2 * t + 2) V) c'
                    (changes_put (Store record { 0 = 1 } (2 * t + 2)) 1 (2 * t + 2) refl refl) refl;
                ties = tied_put (put 1 (2 * t + 2) V) c'
                    (Stepped (Some t) kind.GivePageBack (y.reclamation.words 1) None answer ∷ [])
                    (beside_rows 1 (2 * t + 2) (inl (omega arith)))
                    (let a = held_next in omega arith) (λ u e i. absurd (bus.resting_apart u e i))
                    (plain_step _ _ _ _ (λ i. cc));
                notes = noted_as c'
                    (Stepped (Some t) kind.GivePageBack (y.reclamation.words 1) None answer ∷ [])
                    (steps_put_nothing (Some kind.GivePageBack) (Some t) (y.reclamation.words 1)
                    None answer) (gives_waits t page stored c published page.ended (has_room c page)
                    (nat_lt stored (frame_len c)) holds reason
                    (sym (ap (situation_at X c) holds) ∙ at))
                    (λ m. turn_waiting X c m (GivesBack t page reason) y.home
                    (y.reclamation.words 1) word);
                log_is = k.log_is;
                W = k.W;
                floor = k.floor;
                floors = grind (arith, common_steps, put_beside);
                stored = record {
                  few = k.stored.few;
                  low = subst (λ n. n ≤ k.W) (sym same_first) k.stored.low;
                  home = λ there. none_ahead published refl ∙ sym same_first;
                  writing = λ q v pg st d here is. elim (cases_eq q p) [
                    | inl i ↦ grind (arith, common_steps, resting_no_holding, same_Some, put_here)
                    | inr ne ↦ absurd
                        (ne (alone q v pg st false d
                        (sym (put_beside p (Some c') y.senders q ne) ∙ here) is))
                  ];
                  written = λ q v pg st d here is. elim (cases_eq q p) [
                    | inl i ↦ grind (arith, common_steps, resting_no_holding, same_Some, put_here)
                    | inr ne ↦ absurd
                        (ne (alone q v pg st true d
                        (sym (put_beside p (Some c') y.senders q ne) ∙ here) is))
                  ];
                  floor_home = λ pg there.
                      ap (λ (w : Page). w.floor) (sym (same_Some _ _ there))
                      ∙ floor_after c t page reason
                      ∙ k.stored.floor_held p t page stored published c old holds;
                  floor_held = λ q v pg st b d here is. elim (cases_eq q p) [
                    | inl i ↦ grind (arith, common_steps, resting_no_holding, same_Some, put_here)
                    | inr ne ↦ absurd
                        (ne (alone q v pg st b d
                        (sym (put_beside p (Some c') y.senders q ne) ∙ here) is))
                  ];
                };
                laid = laid_given x rows y.reclamation T reclamation_keeps pins_on V k.W k.laid t
                    stage_held (λ j low.
                    (safe z two y.reclamation T reclamation_keeps).clean t j stage_held is_ready
                    low);
                participants = participants_on (y.reclamation.pins p) c'
                    (held_participant t page stored published holds c'
                    (λ u e. bus.resting_apart u e));
                ready = λ u held none.
                    absurd (let now = put_here 1 (2 * t + 2) y.reclamation.words in omega arith);
              };
            }
          where
            -- nothing is stored past the length
            none_ahead : (b : Bool) → published ≡ b → k.W ≡ V 0
            none_ahead true is =
                k.stored.written p t page stored c old (holds ∙ ap (phase.Holding t page stored) is)
            none_ahead false is =
                grind (arith, cases_lt, writing_now, le-leb, gives_none, nat_lt, stored_now)

            by_reclaimer : (s : Option Reclaiming) → y.reclamation.reclaimer ≡ s → IsReady z t s
            by_reclaimer None e = k.ready t stage_held e
            by_reclaimer (Some s) e = reclaimed_is s (protocol_reclaimed s e)

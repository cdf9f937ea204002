-- What is always kept of a bus whose rows are used again, beside one that has a row for each
-- tenure; and what a turn of one sender leaves of it.
use Rattle.std.proofs.Common.{◌≡◌, ◌⊎◌, inl, inr, ℕ, ◌+◌, ◌*◌, ◌^◌, ◌<◌, ◌≤◌, Bool, true, false}
use Rattle.std.proofs.Common.{Option, Some, None, List, is_some, slice_index, arith, refl, sym}
use Rattle.std.proofs.Common.{◌∙◌, ap, subst}
use Rattle.std.proofs.lemmas.Bool.{cases_eq}
use Rattle.std.proofs.lemmas.Option.{same_Some}
use Rattle.std.proofs.lemmas.Grind.{common_steps}
use Rattle.bus_register.specs.declared.kinds.Kind.TheVariants as kind
use Rattle.bus_register.specs.declared.registers.Op.{Op}
use Rattle.bus_register.specs.Words.{register, after}
use Rattle.bus_register.specs.Tables.{Beside, Agree, put}
use Rattle.bus_register.specs.Private.TableLaws.{put_here, put_beside}
use Rattle.bus_register.specs.Protocol.{Protocol, Laws}
use Rattle.bus_batch.specs.declared.batches.Phase.TheVariants.{Marking}
use Rattle.bus_batch.specs.declared.messages.Mark.{Mark}
use Rattle.bus_batch.specs.Frames.{Frame, log_words}
use Rattle.bus_deliverylog.specs.declared.receiving.RecvTurn.{RecvTurn}
use Rattle.bus_ownerbits.specs.OneOwner.{OneOwner}
use Rattle.bus_presence.specs.declared.pins.Pin.{Pin}
use Rattle.bus_presence.specs.declared.pins.Pin.TheVariants.{Announcing, Validating, Pinned}
use Rattle.bus_presence.specs.Pins.{step_at}
use Rattle.bus_presence.specs.Reclamation.{ReclamationSizes, Reclamation, Trails, presence_at}
use Rattle.bus_presence.specs.Reclamation.{Reached}
use Rattle.bus_presence.proofs.ReclamationKept.{Keeps}
use Rattle.bus_presence.proofs.ReclaimerLaws.{keeps}
use Rattle.bus_tenure.specs.Core.{Core, Election, Layout}
use Rattle.bus_tenure.specs.Situations.{Situation, LooksAtStage, situation_of, resting, op_at}
use Rattle.bus_tenure.specs.Situations.{kind_at}
use Rattle.bus_tenure.specs.Private.LineParts.{tenure_at, chosen_at}
use Rattle.bus_tenure.specs.declared.pages.Page.{Page}
use Rattle.bus_tenure.specs.declared.phases.Phase.{Phase}
use Rattle.bus_tenure.specs.declared.phases.Phase.TheVariants as phase
use Rattle.bus_tenure.specs.declared.turns.Turn.{Turn as Answered}
use Rattle.bus_world.specs.World.{IsLayout}
use Rattle.bus_world.specs.Private.Sending.{Part, Sending}
use Rattle.bus_core.specs.Reusing.Participants.{sizes_with}
use Rattle.bus_world.specs.Floors.{passed_place, AreFloors}
use Rattle.bus_world.proofs.Bounds.{words_low}
use Rattle.bus_world.proofs.FloorLaws.{floors_over}
use Rattle.bus_world.proofs.LogLaws.{length-logged}
use Rattle.bus_world.specs.Turning.{number_found}
use Rattle.bus_world.specs.Private.Machines.{core_after, home_after, owners_after}
use Rattle.bus_world.specs.Private.CyclicProtocols.{CyclicProtocol, word_found}
use Rattle.bus_world.specs.Trails.{actions_with, step_action}
use Rattle.bus_world.proofs.BusLaws as bus
use Rattle.bus_world.proofs.TurningLaws.{Steps, op_laid, turn_keeps}
use Rattle.bus_world.proofs.Waiting.{frames_after, waiting_of}
use Rattle.bus_world.specs.Headline.{Action}
use Rattle.bus_world.proofs.Tying.{next_tenure}
use Rattle.bus_world.proofs.TableTrails.{IsPlain}
use Rattle.bus_world.proofs.TurnTrails.{TiesOf, calm, turn_tied}
use Rattle.bus_world.proofs.CyclicProtocolHears.{AllHear}
use Rattle.bus_world.proofs.CyclicProtocolNotes.{IsNoted, PutsNothing, noted_over}
use Rattle.bus_world.proofs.RingWords.{Laid}

-- ---- what is no other
pub stored_is : {E : Type 0} (t : ℕ) (page : Page) (k : ℕ) (b : Bool) (u : ℕ) (page' : Page)
    (k' : ℕ) (b' : Bool)
    → ◌≡◌ {A = Phase E} (phase.Holding t page k b) (phase.Holding u page' k' b')
    → (k ≡ k') × (b ≡ b')
stored_is t page k b u page' k' b' h = (cc, cc)

pub held_page_is : {E : Type 0} (t : ℕ) (page : Page) (k : ℕ) (b : Bool) (u : ℕ) (page' : Page)
    (k' : ℕ) (b' : Bool)
    → ◌≡◌ {A = Phase E} (phase.Holding t page k b) (phase.Holding u page' k' b')
    → page ≡ page'
held_page_is t page k b u page' k' b' h = cc

pub resting_no_holding : {E : Type 0} (t : ℕ) (page : Page) (k : ℕ) (b : Bool)
    → ◌≡◌ {A = Phase E} phase.Resting (phase.Holding t page k b) → ⊥
resting_no_holding t page k b h = cc

pub pinned_is : (t u : ℕ) → Pinned t ≡ Pinned u → t ≡ u
pinned_is t u h = cc

module _ {E : Type 0} (X : Election E) (P : Protocol E (Unit {0}) ℕ)
    (laws : Laws X.op X.fed P OneOwner) (x : Layout) (ok : IsLayout x)
    (width : x.width ≡ P.width x.senders)
    (starts : (n me at : ℕ) → X.started n me x.rounds at ≡ P.started n me tt at)
    (owner_is : (e : E) → X.owner e ≡ P.output e)
    (named : (e : E) (word : ℕ) → is_some (X.kind_of e) ≡ is_some (X.op e word))
    (announces : (e : E) → P.has_begun e ≡ false → X.kind_of e ≡ Some kind.Announce)
    (apart : (e : E) → X.kind_of e ≡ Some kind.TakePage → ⊥)
    (rows : ℕ) (two : 2 ≤ rows) where
  abbrev z : ReclamationSizes
  z = sizes_with x rows

  -- it enters a tenure that was open when it looked, and has begun none
  pub record IsAnnouncing (c : Core E) (t : ℕ) : Type 0 where
    pub rests : c.phase ≡ phase.Resting
    pub looks : resting c ≡ LooksAtStage
    pub least : c.least ≤ t
    pub room : t < x.rows

  -- a pin and a sender's part fit: it stands in a tenure just while its election runs
  pub record IsParticipant (v : Pin) (c : Core E) : Type 0 where
    pub pinned : (t : ℕ) → v ≡ Pinned t → (e : E) × (c.phase ≡ phase.Electing t e)
    pub electing : (t : ℕ) (e : E) → c.phase ≡ phase.Electing t e → v ≡ Pinned t
    pub announcing : (t : ℕ) → (v ≡ Announcing t) ⊎ (v ≡ Validating t) → IsAnnouncing c t

  -- how many words of the log are stored so far: those below the length, and those that a holder
  -- has stored past it
  pub record AreStored (page_home : Option Page) (senders : ℕ → Option (Core E)) (V : ℕ → ℕ)
      (W floor : ℕ) : Type 0 where
    pub few : W ≤ x.capacity + floor
    pub low : V 0 ≤ W
    pub home : is_some page_home ≡ true → W ≡ V 0
    pub writing : (q t : ℕ) (page : Page) (stored : ℕ) (d : Core E) → senders q ≡ Some d
        → d.phase ≡ phase.Holding t page stored false → W ≡ V 0 + stored
    pub written : (q t : ℕ) (page : Page) (stored : ℕ) (d : Core E) → senders q ≡ Some d
        → d.phase ≡ phase.Holding t page stored true → W ≡ V 0
    -- a page has that floor, at home and out
    pub floor_home : (page : Page) → page_home ≡ Some page → page.floor ≡ floor
    pub floor_held : (q t : ℕ) (page : Page) (stored : ℕ) (b : Bool) (d : Core E)
        → senders q ≡ Some d → d.phase ≡ phase.Holding t page stored b → page.floor ≡ floor

  -- what is always kept, of words with a row for each tenure; and its frames are all that was
  -- published
  pub record Kept (H : ℕ → List RecvTurn) (y : CyclicProtocol E) (T : Trails) (D : ℕ → List Action)
      (L : List ℕ) (V : ℕ → ℕ) (frames : List Frame) : Type 0 where
    pub hears : AllHear x rows y.receivers frames H
    pub reached : Reached z y.reclamation T
    pub sending : Sending (slice_index y.bases) P x V y.home y.senders y.owners frames
    pub log_is : log_words frames ≡ L
    pub W : ℕ
    pub floor : ℕ
    pub stored : AreStored y.home y.senders V W floor
    pub floors : AreFloors x rows y.reclamation.words y.passing y.receivers frames (V 0) floor
    pub laid : Laid x rows y.reclamation V W
    pub ties : TiesOf P x V y.senders y.owners D
    pub notes : IsNoted (slice_index y.bases) y.senders frames D
    pub participants : (p : ℕ) (c : Core E) → y.senders p ≡ Some c
        → IsParticipant (y.reclamation.pins p) c
    pub ready : (t : ℕ) → y.reclamation.words 1 ≡ 2 * t + 1 → y.reclamation.reclaimer ≡ None
        → t + 1 < rows

  pub record HasKept (H : ℕ → List RecvTurn) (y : CyclicProtocol E) (T : Trails)
      (D : ℕ → List Action) (L : List ℕ) : Type 0 where
    pub V : ℕ → ℕ
    pub frames : List Frame
    pub kept : Kept H y T D L V frames

  -- a turn of sender p
  module _ (H : ℕ → List RecvTurn) (y : CyclicProtocol E) (T : Trails) (D : ℕ → List Action)
      (L : List ℕ) (V : ℕ → ℕ) (frames : List Frame) (k : Kept H y T D L V frames) (p : ℕ)
      (c : Core E) (old : y.senders p ≡ Some c) where
    h : Reclamation
    h = y.reclamation

    part : Part (slice_index y.bases) x V frames p c
    part = k.sending.parts p c old

    participant : IsParticipant (y.reclamation.pins p) c
    participant = k.participants p c old

    reclamation_keeps : Keeps z y.reclamation T
    reclamation_keeps = keeps z two y.reclamation T k.reached

    -- who holds a page as it did
    abbrev HoldsAs : Core E → Type 0
    HoldsAs c' =
        (t : ℕ) (page : Page) (stored : ℕ) (b : Bool) → c'.phase ≡ phase.Holding t page stored b
        → c.phase ≡ phase.Holding t page stored b

    -- as many words are stored, where the length is the same
    stored_over : (V' : ℕ → ℕ) → V' 0 ≡ V 0 → (senders' : ℕ → Option (Core E))
        → Beside p y.senders senders' → (c' : Core E) → senders' p ≡ Some c' → HoldsAs c'
        → AreStored y.home senders' V' k.W k.floor
    stored_over V' same senders' beside c' new holds = grind (arith, cases_eq, same_Some)

    stored_put : (V' : ℕ → ℕ) → V' 0 ≡ V 0 → (c' : Core E) → HoldsAs c'
        → AreStored y.home (put p (Some c') y.senders) V' k.W k.floor
    stored_put V' same c' holds = stored_over V' same (put p (Some c') y.senders)
        (put_beside p (Some c') y.senders) c' (put_here p (Some c') y.senders) holds

    -- the floor is the same, where no passed place has changed
    floors_same : (words' V' : ℕ → ℕ) → V' 0 ≡ V 0
        → ((r : ℕ) → r < x.passers
        → words' (passed_place x rows r) ≡ y.reclamation.words (passed_place x rows r))
        → AreFloors x rows words' y.passing y.receivers frames (V' 0) k.floor
    floors_same words' V' long same = floors_over x rows y.reclamation.words y.passing y.receivers
        frames (V 0) k.floor k.floors words' (V' 0) long same

    -- a length is below 2^50
    length_low : V 0 < 2 ^ 50
    length_low =
        let size = length-logged k.sending.log in
        let low = words_low x.senders frames k.sending.log.lawful in omega arith

    -- the others stay participants
    participants_on : (v : Pin) (c' : Core E) → IsParticipant v c' → (q : ℕ) (d : Core E)
        → put p (Some c') y.senders q ≡ Some d → IsParticipant (put p v y.reclamation.pins q) d
    participants_on v c' own q d e = elim (cases_eq q p) [
      | inl i ↦ grind (arith, common_steps, put_here, same_Some)
      | inr ne ↦ subst (λ w. IsParticipant w d) (sym (put_beside p v y.reclamation.pins q ne))
          (k.participants q d (sym (put_beside p (Some c') y.senders q ne) ∙ e))
    ]

    -- nothing is elected and no page taken
    tied : (V' : ℕ → ℕ) (c' : Core E) (senders' : ℕ → Option (Core E)) → Beside p y.senders senders'
        → senders' p ≡ Some c' → (ds : List Action) → Agree 2 (x.rows * P.width x.senders) V V'
        → next_tenure c ≤ next_tenure c'
        → ((t : ℕ) (e : E) → c'.phase ≡ phase.Electing t e → c.phase ≡ phase.Electing t e)
        → IsPlain ds → TiesOf P x V' senders' y.owners (actions_with p ds D)
    tied V' c' senders' beside new ds = calm X P laws x ok width starts owner_is named announces
        apart V y.home y.senders y.owners frames k.sending p c old D k.ties V' senders' beside c'
        new ds

    -- of a sender in its place
    tied_put : (V' : ℕ → ℕ) (c' : Core E) (ds : List Action)
        → Agree 2 (x.rows * P.width x.senders) V V' → next_tenure c ≤ next_tenure c'
        → ((t : ℕ) (e : E) → c'.phase ≡ phase.Electing t e → c.phase ≡ phase.Electing t e)
        → IsPlain ds
        → TiesOf P x V' (put p (Some c') y.senders) y.owners (actions_with p ds D)
    tied_put V' c' ds = tied V' c' (put p (Some c') y.senders) (put_beside p (Some c') y.senders)
        (put_here p (Some c') y.senders) ds

    -- its messages wait on, and the frames are the same
    noted : (c' : Core E) (senders' : ℕ → Option (Core E)) → Beside p y.senders senders'
        → senders' p ≡ Some c' → (ds : List Action) → PutsNothing ds
        → waiting_of (Some c') ≡ waiting_of (Some c)
        → ((m : Mark) → c'.queue.phase ≡ Marking m → c.queue.phase ≡ Marking m)
        → IsNoted (slice_index y.bases) senders' frames (actions_with p ds D)
    noted c' senders' beside new ds =
        noted_over y.senders frames D k.notes p c old senders' beside c' new ds

    noted_as : (c' : Core E) (ds : List Action) → PutsNothing ds
        → waiting_of (Some c') ≡ waiting_of (Some c)
        → ((m : Mark) → c'.queue.phase ≡ Marking m → c.queue.phase ≡ Marking m)
        → IsNoted (slice_index y.bases) (put p (Some c') y.senders) frames (actions_with p ds D)
    noted_as c' ds = noted c' (put p (Some c') y.senders) (put_beside p (Some c') y.senders)
        (put_here p (Some c') y.senders) ds

    -- a step on the words with a row for each tenure
    changes_put : (o : Op) (r n : ℕ) → register o ≡ r → n ≡ after o (V (register o))
        → bus.Changes o V (put r n V)
    changes_put o r n e same = grind (arith, common_steps, put_here, put_beside)

    -- what of this the files of its steps open
    pub record TurnFacts : Type 0 where
      pub part : Part (slice_index y.bases) x V frames p c
      pub participant : IsParticipant (y.reclamation.pins p) c
      pub reclamation_keeps : Keeps z y.reclamation T
      pub stored_put : (V' : ℕ → ℕ) → V' 0 ≡ V 0 → (c' : Core E) → HoldsAs c'
          → AreStored y.home (put p (Some c') y.senders) V' k.W k.floor
      pub floors_same : (words' V' : ℕ → ℕ) → V' 0 ≡ V 0
          → ((r : ℕ) → r < x.passers
          → words' (passed_place x rows r) ≡ y.reclamation.words (passed_place x rows r))
          → AreFloors x rows words' y.passing y.receivers frames (V' 0) k.floor
      pub length_low : V 0 < 2 ^ 50
      pub participants_on : (v : Pin) (c' : Core E) → IsParticipant v c' → (q : ℕ) (d : Core E)
          → put p (Some c') y.senders q ≡ Some d → IsParticipant (put p v y.reclamation.pins q) d
      pub tied : (V' : ℕ → ℕ) (c' : Core E) (senders' : ℕ → Option (Core E))
          → Beside p y.senders senders'
          → senders' p ≡ Some c' → (ds : List Action) → Agree 2 (x.rows * P.width x.senders) V V'
          → next_tenure c ≤ next_tenure c'
          → ((t : ℕ) (e : E) → c'.phase ≡ phase.Electing t e → c.phase ≡ phase.Electing t e)
          → IsPlain ds → TiesOf P x V' senders' y.owners (actions_with p ds D)
      pub tied_put : (V' : ℕ → ℕ) (c' : Core E) (ds : List Action)
          → Agree 2 (x.rows * P.width x.senders) V V' → next_tenure c ≤ next_tenure c'
          → ((t : ℕ) (e : E) → c'.phase ≡ phase.Electing t e → c.phase ≡ phase.Electing t e)
          → IsPlain ds
          → TiesOf P x V' (put p (Some c') y.senders) y.owners (actions_with p ds D)
      pub noted : (c' : Core E) (senders' : ℕ → Option (Core E)) → Beside p y.senders senders'
          → senders' p ≡ Some c' → (ds : List Action) → PutsNothing ds
          → waiting_of (Some c') ≡ waiting_of (Some c)
          → ((m : Mark) → c'.queue.phase ≡ Marking m → c.queue.phase ≡ Marking m)
          → IsNoted (slice_index y.bases) senders' frames (actions_with p ds D)
      pub noted_as : (c' : Core E) (ds : List Action) → PutsNothing ds
          → waiting_of (Some c') ≡ waiting_of (Some c)
          → ((m : Mark) → c'.queue.phase ≡ Marking m → c.queue.phase ≡ Marking m)
          → IsNoted (slice_index y.bases) (put p (Some c') y.senders) frames (actions_with p ds D)
      pub changes_put : (o : Op) (r n : ℕ) → register o ≡ r → n ≡ after o (V (register o))
          → bus.Changes o V (put r n V)

    pub turn_facts : TurnFacts
    turn_facts = record {
      part = part;
      participant = participant;
      reclamation_keeps = reclamation_keeps;
      stored_put = stored_put;
      floors_same = floors_same;
      length_low = length_low;
      participants_on = participants_on;
      tied = tied;
      tied_put = tied_put;
      noted = noted;
      noted_as = noted_as;
      changes_put = changes_put;
    }

    module _ (word : ℕ) (answer : Answered)
        (free : step_at (y.reclamation.pins p) (presence_at z p) 1 ≡ None) where
      -- ---- the turn, in words with a row for each tenure
      turn_on : (zz : Situation E) → situation_of X c ≡ zz → (V' : ℕ → ℕ) (c' : Core E)
          → Steps (op_laid X c zz word) V V'
          → c' ≡ core_after X c zz y.home (word_found (λ r. r) V (op_laid X c zz word)) word
          → Sending (slice_index y.bases) P x V' (home_after X c zz y.home)
          (put p (Some c') y.senders) (owners_after X c zz p y.owners) (frames_after X c zz frames)
      turn_on zz at V' c' = subst (λ s.
          Steps (op_laid X c s word) V V'
          → c' ≡ core_after X c s y.home (word_found (λ r. r) V (op_laid X c s word)) word
          → Sending (slice_index y.bases) P x V' (home_after X c s y.home)
          (put p (Some c') y.senders) (owners_after X c s p y.owners) (frames_after X c s frames))
          at
          (λ steps same. turn_keeps X P laws x ok width starts owner_is V y.home y.senders y.owners
          frames k.sending p c old word V' (put p (Some c') y.senders)
          (put_beside p (Some c') y.senders) steps
          (put_here p (Some c') y.senders ∙ ap Some same
          ∙ found_same (op_laid X c (situation_of X c) word)))
        where
          found_same : (d : Option Op)
              → Some (core_after X c (situation_of X c) y.home (word_found (λ r. r) V d) word)
              ≡ Some (core_after X c (situation_of X c) y.home (number_found V d) word)
          found_same None = refl
          found_same (Some o) = refl

      -- and its actions
      ties_on : (zz : Situation E) → situation_of X c ≡ zz → (V' : ℕ → ℕ) (c' : Core E)
          → Steps (op_at X c zz word) V V'
          → c' ≡ core_after X c zz y.home (number_found V (op_at X c zz word)) word
          → TiesOf P x V' (put p (Some c') y.senders) (owners_after X c zz p y.owners)
          (actions_with p (step_action (kind_at X c zz) (tenure_at X c zz)
          (number_found V (op_at X c zz word))
          (chosen_at X c zz (number_found V (op_at X c zz word)) word) answer) D)
      ties_on zz at V' c' = subst (λ s.
          Steps (op_at X c s word) V V'
          → c' ≡ core_after X c s y.home (number_found V (op_at X c s word)) word
          → TiesOf P x V' (put p (Some c') y.senders) (owners_after X c s p y.owners)
          (actions_with p (step_action (kind_at X c s) (tenure_at X c s)
          (number_found V (op_at X c s word))
          (chosen_at X c s (number_found V (op_at X c s word)) word) answer) D)) at
          (λ steps same. turn_tied X P laws x ok width starts owner_is named announces apart V
          y.home y.senders y.owners frames k.sending p c old D k.ties V' (put p (Some c') y.senders)
          (put_beside p (Some c') y.senders) word answer steps
          (put_here p (Some c') y.senders ∙ ap Some same))

      -- as above
      pub record StepFacts : Type 0 where
        pub turn_on : (zz : Situation E) → situation_of X c ≡ zz → (V' : ℕ → ℕ) (c' : Core E)
            → Steps (op_laid X c zz word) V V'
            → c' ≡ core_after X c zz y.home (word_found (λ r. r) V (op_laid X c zz word)) word
            → Sending (slice_index y.bases) P x V' (home_after X c zz y.home)
            (put p (Some c') y.senders) (owners_after X c zz p y.owners)
            (frames_after X c zz frames)
        pub ties_on : (zz : Situation E) → situation_of X c ≡ zz → (V' : ℕ → ℕ) (c' : Core E)
            → Steps (op_at X c zz word) V V'
            → c' ≡ core_after X c zz y.home (number_found V (op_at X c zz word)) word
            → TiesOf P x V' (put p (Some c') y.senders) (owners_after X c zz p y.owners)
            (actions_with p (step_action (kind_at X c zz) (tenure_at X c zz)
            (number_found V (op_at X c zz word))
            (chosen_at X c zz (number_found V (op_at X c zz word)) word) answer) D)

      pub step_facts : StepFacts
      step_facts = record { turn_on = turn_on; ties_on = ties_on }

-- What the page knows, who has it while it is out, and where a word of the log is stored, by the
-- frames of the log.
use Rattle.std.proofs.Common.{◌≡◌, ℕ, ◌+◌, ◌*◌, Bool, true, false, is_some, Option, Some, None}
use Rattle.std.proofs.Common.{List, length, map, slice_get, slice_index, refl, sym, ◌∙◌, ap, subst}
use Rattle.std.proofs.Common.{arith, cond, [], ◌++◌}
use Rattle.std.proofs.lemmas.Bool.{true≢false}
use Rattle.std.proofs.lemmas.List.{append-nil, length-append}
use Rattle.std.proofs.lemmas.Option.{same_Some}
use Rattle.std.proofs.lemmas.Grind.{common_steps}
use Rattle.bus_batch.proofs.FrameLaws.{spells_one}
use Rattle.bus_batch.specs.Batches.{frame_of}
use Rattle.bus_batch.specs.Frames.{Order, Spells, AreFrames, order_of, log_words, tenure_and_owner}
use Rattle.bus_batch.specs.Frames.{frame_words, has_gone}
use Rattle.bus_core.proofs.Situated.{own_is, situation_tells}
use Rattle.bus_core.specs.Reusing.Keeping.{held_of}
use Rattle.bus_core.specs.Senders.{Sender, Does, ReadsPassed, log_start, situation}
use Rattle.bus_core.specs.declared.reuses.Passing.{Passing}
use Rattle.bus_core.specs.Table.{line_now}
use Rattle.bus_machine.proofs.Tenures.PagesTaken.{takers_one}
use Rattle.bus_deliverylog.specs.Orders.{of_sender}
use Rattle.bus_register.specs.Protocol.{Protocol}
use Rattle.bus_register.specs.Tables.{of_some}
use Rattle.bus_register.specs.Words.{register}
use Rattle.bus_register.specs.declared.registers.Op.{Op}
use Rattle.bus_register.specs.declared.registers.SenderNo.{SenderNo}
use Rattle.bus_tenure.proofs.Caused.{word_room}
use Rattle.bus_tenure.proofs.Situated.{tells}
use Rattle.bus_tenure.specs.Core.{Core, Election, Layout, log_at, frame_len}
use Rattle.bus_tenure.specs.Situations.{StoresWord, situation_at, situation_of}
use Rattle.bus_tenure.specs.declared.pages.Page.{Page}
use Rattle.bus_tenure.specs.declared.phases.Phase.{Phase}
use Rattle.bus_tenure.specs.declared.phases.Phase.TheVariants as phase
use Rattle.bus_world.proofs.Framing.{front_lawful}
use Rattle.bus_world.proofs.LogLaws.{length-read, log_words-append}
use Rattle.bus_world.proofs.TenuresLaws.{same_Holding}
use Rattle.bus_world.specs.Private.Sending.{Part, Fits, IsWriting, standing_of, stands_at}
use Rattle.bus_world.specs.Private.Tenures.Stage.{Open, Held}
use Rattle.bus_world.specs.Private.Tenures.{Standing}
use Rattle.bus_world.specs.Private.Tenures.Standing.{Holds}
use Rattle.bus_machine.proofs.Frames.Framed.{IsFramed}
use Rattle.bus_machine.proofs.Frames.AtHome.{held_stands}
use Rattle.bus_machine.specs.Machine.{base_of, Machine, Trails, log_place}
use Rattle.bus_machine.specs.Promise.{TakersTold, KnowsOrder, KnowsFront, IsWithOwner}
use Rattle.bus_machine.specs.Promise.{IsPastLength}

-- ---- a phase
-- a sender holds the page of this tenure
pub record HasPage {E : Type 0} (t : ℕ) (ph : Phase E) : Type 0 where
  pub page : Page
  pub stored : ℕ
  pub published : Bool
  pub has : ph ≡ phase.Holding t page stored published

module _ (base : ℕ → ℕ) {E : Type 0} (words : ℕ → ℕ)
    (frames : List Rattle.bus_batch.specs.Frames.Frame) (c : Core E) where
  -- between turns the page that is held is in the phase
  page_held : (t : ℕ) (ph : Phase E) → Fits base words frames c ph → stands_at ph ≡ Holds t
      → HasPage t ph
  page_held t phase.Resting fits e = absurd cc
  page_held t (phase.Electing u f) fits e = absurd cc
  page_held t (phase.Taken u) fits e = absurd fits
  page_held t (phase.Holding u page stored published) fits e =
      grind (arith, common_steps, same_Holding)
  page_held t (phase.Giving u reason) fits e = absurd fits

-- who loads a passed place holds the page that it would give back
pub passes_held : {E : Type 0} (X : Election E) (v : Sender E) (t : ℕ) (q : Passing)
    → situation X v ≡ ReadsPassed t q → HasPage t v.core.phase
passes_held {E} X v t q i = grind (arith, common_steps, situation_tells, tells)

-- a sender that there is
core_found : {E : Type 0} (o : Option (Core E)) (s : Standing E) → of_some standing_of o ≡ Some s
    → (c : Core E) × (o ≡ Some c)
core_found None s e = absurd cc
core_found (Some c) s e = (c, refl)

module _ {E : Type 0} (P : Protocol E (Unit {0}) ℕ) (m : Machine E) (T : Trails)
    (f : IsFramed P m T) where
  -- the order that all that was published spells is that of the frames
  pub order_same : (order : Order) (owners : List (ℕ × SenderNo))
      → Spells m.layout.senders T.log order owners
      → order_of f.frames ≡ order
  order_same order owners s =
      let here : Spells m.layout.senders T.log (order_of f.frames)
      (map tenure_and_owner f.frames) = record {
        frames = f.frames;
        lawful = f.sending.log.lawful;
        words_are = f.log_is;
        order_is = refl;
        owners_are = refl;
      } in
      (spells_one m.layout.senders T.log (order_of f.frames) order
      (map tenure_and_owner f.frames) owners here s).0

module _ {E : Type 0} (X : Election E) (P : Protocol E (Unit {0}) ℕ) (m : Machine E) (T : Trails)
    (f : IsFramed P m T) where
  -- a page at home knows the order
  pub knows : (order : Order) (owners : List (ℕ × SenderNo))
      → Spells m.layout.senders T.log order owners → (page : Page)
      → m.home ≡ Some page → KnowsOrder (base_of m) m.layout.passers page order
  knows order owners s page at = elim f.sending.tenures.stage_is [
    | Open stage here many ↦
        let k = (f.sending.page_knows page f.sending.tenures.ended at stage).0 in
        record {
          entries = k.entries;
          next = λ q low. k.next q low
              ∙ ap (λ (o : Order). base_of m q + length (of_sender q o))
              (order_same P m T f order owners s);
          left = λ q low.
              k.left q low
              ∙ ap (λ (o : Order). Some (has_gone q o)) (order_same P m T f order owners s);
          floor = grind (arith, common_steps);
        }
    | Held holder stage away many holds ↦ absurd (true≢false (sym (ap is_some at) ∙ away))
  ]

  -- ---- who has the page
  module _ (t holder : ℕ) (holds : of_some standing_of (f.cores holder) ≡ Some (Holds t)) where
    core : (c : Core E) × (f.cores holder ≡ Some c)
    core = core_found (f.cores holder) (Holds t) holds

    abbrev part : Part (base_of m) m.layout f.V f.frames holder core.0
    part = f.sending.parts holder core.0 core.1

    stands : stands_at core.0.phase ≡ Holds t
    stands = same_Some _ _ (sym (ap (of_some standing_of) core.1) ∙ holds)

    has_page : HasPage t core.0.phase
    has_page = page_held (base_of m) f.V f.frames core.0 t core.0.phase part.fits stands

    -- what the page knows, and what stands behind it
    record IsFront (page : Page) (published : Bool) : Type 0 where
      front : List ℕ
      known : KnowsFront (base_of m) m.layout t page front
      behind : T.log ≡ front ++ cond published (frame_words (frame_of core.0.queue t)) []

    -- the frames have as many words as the length says
    many_words : length (log_words f.frames) ≡ f.V 0
    many_words = sym (ap length f.sending.log.words_are) ∙ length-read f.V (log_at m.layout) (f.V 0)

    fits_in : (stored : ℕ) (page : Page) (published : Bool)
        → core.0.phase ≡ phase.Holding t page stored published
        → Fits (base_of m) f.V f.frames core.0 (phase.Holding t page stored published)
    fits_in stored page published ph = subst (Fits (base_of m) f.V f.frames core.0) ph part.fits

    front_of : (page : Page) (stored : ℕ) (published : Bool)
        → core.0.phase ≡ phase.Holding t page stored published → IsFront page published
    front_of page stored false ph =
        let w = (fits_in stored page false ph).1 in
        let knows = w.page_knows in
        record {
          front = log_words f.frames;
          known = record {
            order = order_of f.frames;
            owners = map tenure_and_owner f.frames;
            spelled = grind (arith, common_steps);
            words = knows.words ∙ sym many_words;
            knows = record {
              entries = knows.entries;
              next = knows.next;
              left = knows.left;
              floor = record {
                low = knows.floor;
                flat = λ flat. w.flat (ap (λ (x : Layout). x.passers) part.layout ∙ flat);
              };
            };
            ended = knows.ended;
            tenures = knows.tenures;
          };
          behind = sym f.log_is ∙ sym (append-nil (log_words f.frames));
        }
    front_of page stored true ph =
        let w = (fits_in stored page true ph).1 in
        let knows = w.page_knows in
        let own = frame_of core.0.queue t in
        let same : frame_len core.0 ≡ length (frame_words own) = refl in
        let all = ap log_words w.frames_are ∙ log_words-append w.front own in
        let lengths = ap length all ∙ length-append (log_words w.front) (frame_words own) in
        let now = w.len_is in
        let many = many_words in
        let both = subst (AreFrames m.layout.senders) w.frames_are f.sending.log.lawful in
        let lawful = (front_lawful m.layout.senders 0 w.front own both).0 in
        record {
          front = log_words w.front;
          known = record {
            order = order_of w.front;
            owners = map tenure_and_owner w.front;
            spelled = grind (arith, common_steps);
            words = omega arith;
            knows = grind arith;
            ended = knows.ended;
            tenures = knows.tenures;
          };
          behind = sym f.log_is ∙ all;
        }

    -- the owner has the page
    with_owner : (all : List ℕ) → f.owners ≡ all → f.V 1 ≡ 2 * t + 1
        → length f.owners ≡ t + 1 → IsWithOwner m T all
    with_owner all same stage many =
        let v = f.sender_of holder core.0 core.1 in
        let owns = (f.sending.tenures.holding holder t holds).2 in
        let w = f.takers.took t holder owns in
        let k = front_of has_page.page has_page.stored has_page.published has_page.has in
        grind (arith, common_steps, slice_get, length, has_page)

  -- a page that is out is with the owner of the open tenure
  pub out : (k : TakersTold m.reuse m.owners T.actions) → m.home ≡ None → IsWithOwner m T k.all
  out k away = grind (arith, common_steps, true≢false, is_some, with_owner, takers_one)

  -- who holds a page took it
  pub owns : (k : TakersTold m.reuse m.owners T.actions) (p : ℕ) (v : Sender E) (t : ℕ)
      → slice_get m.senders p ≡ Some v
      → held_of v.core.phase ≡ Some t → slice_get k.all t ≡ Some p
  owns k p v t at held =
      let holds =
      ap (of_some standing_of) (f.core_of p v at) ∙ ap Some (held_stands v.core.phase t held) in
      subst (λ l. slice_get l t ≡ Some p) (takers_one f.owners k.all T.actions f.takers k.takers)
      (f.sending.tenures.holding p t holds).2

  -- a page at home counts the pages that were taken
  pub counts : (k : TakersTold m.reuse m.owners T.actions) (page : Page) → m.home ≡ Some page
      → page.tenures ≡ length k.all
  counts k page at = elim f.sending.tenures.stage_is [
    | Open stage here many ↦
        (f.sending.page_knows page f.sending.tenures.ended at stage).0.tenures ∙ sym many
        ∙ ap length (takers_one f.owners k.all T.actions f.takers k.takers)
    | Held holder stage away many holds ↦ absurd (true≢false (sym (ap is_some at) ∙ away))
  ]

  -- ---- a word of the log
  module _ (p : ℕ) (v : Sender E) (at : slice_get m.senders p ≡ Some v) where
    pub its_part : Part (base_of m) m.layout f.V f.frames p v.core
    its_part = f.sending.parts p v.core (f.core_of p v at)

    -- its log begins where that of the machine does
    pub its_start : log_start v.core.layout v.reuse ≡ log_place m.layout m.reuse
    its_start = ap (λ x. log_start x v.reuse) its_part.layout ∙ f.starts p v at

    -- who stores a word has not published
    word_unpublished : (t : ℕ) (page : Page) (stored : ℕ) (published : Bool)
        → v.core.phase ≡ phase.Holding t page stored published
        → situation_of X v.core ≡ StoresWord t page stored → published ≡ false
    word_unpublished t page stored false ph i = refl
    word_unpublished t page stored true ph i =
        absurd (let bad = sym (ap (situation_at X v.core) ph) ∙ i in cc)

    -- the page of who has not published knows the length
    pub writes : (t : ℕ) (page : Page) (stored : ℕ)
        → v.core.phase ≡ phase.Holding t page stored false
        → IsWriting (base_of m) f.V f.frames v.core t page stored
    writes t page stored ph =
        let fits = subst (Fits (base_of m) f.V f.frames v.core) ph its_part.fits in fits.1

    -- it is stored past the length, in a cell that no word has which stands
    pub past : (t : ℕ) (page : Page) (stored word : ℕ) (o : Op)
        → situation X v ≡ Does (StoresWord t page stored)
        → (line_now X v).op word ≡ Some o
        → IsPastLength m stored o
    past t page stored word o i next =
        let own = own_is X v (StoresWord t page stored) i in
        let ph = tells X v.core (StoresWord t page stored) own in
        let fresh = word_unpublished t page stored ph.0 ph.1 own in
        grind (arith, writes, slice_index, word_room, register, same_Some, its_start, its_part)

-- A holder of the page whose frame does not fit loads the passed places, one after another, and
-- with the last one its page gets a floor that all of them are past.
use Rattle.std.proofs.Common.{◌≡◌, inl, inr, ℕ, ◌+◌, ◌<◌, ◌≤◌, Bool, true}
use Rattle.std.proofs.Common.{false, cond, Option, Some, None, List, [], ◌∷◌}
use Rattle.std.proofs.Common.{is_some, slice_index, arith, refl, sym, ◌∙◌, ap, subst}
use Rattle.std.proofs.lemmas.Bool.{cases_eq, true≢false}
use Rattle.std.proofs.lemmas.Option.{same_Some}
use Rattle.bus_register.specs.declared.kinds.Kind.TheVariants as kind
use Rattle.bus_register.specs.Tables.{put}
use Rattle.bus_register.specs.Private.TableLaws.{put_here, put_beside}
use Rattle.bus_register.specs.Protocol.{Protocol, Laws}
use Rattle.bus_batch.specs.Frames.{Frame}
use Rattle.bus_deliverylog.specs.declared.receiving.RecvTurn.{RecvTurn}
use Rattle.bus_ownerbits.specs.OneOwner.{OneOwner}
use Rattle.bus_presence.specs.declared.pins.Pin.{Pin}
use Rattle.bus_presence.specs.Pins.{step_at}
use Rattle.bus_presence.specs.Reclamation.{ReclamationSizes, Trails, presence_at}
use Rattle.bus_tenure.specs.Core.{Core, Election, Layout}
use Rattle.bus_tenure.specs.declared.pages.Page.{Page}
use Rattle.bus_tenure.specs.declared.phases.Phase.TheVariants as phase
use Rattle.bus_tenure.specs.declared.turns.Turn.{Turn as Answered}
use Rattle.bus_world.specs.World.{IsLayout}
use Rattle.bus_core.specs.Reusing.Participants.{sizes_with}
use Rattle.bus_world.specs.Private.CyclicProtocols.{CyclicProtocol}
use Rattle.bus_world.specs.Trails.{actions_with}
use Rattle.bus_core.specs.Reusing.Passing.{passing_fed, core_passed}
use Rattle.bus_core.specs.declared.reuses.Passing.{Passing}
use Rattle.bus_register.specs.declared.limits.TheConstants.{PLACES}
use Rattle.std.proofs.lemmas.Bool.Decides.{eqb_tells}
use Rattle.std.proofs.lemmas.Grind.{common_steps}
use Rattle.bus_tenure.specs.Situations.{lesser, core_floored, phase_floored}
use Rattle.bus_world.specs.Private.Sending.{Sending}
use Rattle.bus_world.proofs.BusLaws as bus
use Rattle.bus_world.proofs.HolderLaws as holders
use Rattle.bus_world.proofs.LogLaws.{length-logged}
use Rattle.bus_world.proofs.Waiting.{waiting_at, waiting_of}
use Rattle.bus_world.specs.Headline.{Action, Stepped}
use Rattle.bus_world.proofs.TableTrails.{plain_step}
use Rattle.bus_world.proofs.CyclicProtocolNotes.{steps_put_nothing}
use Rattle.bus_world.proofs.CyclicProtocolWords.{put_is}
use Rattle.bus_world.proofs.CyclicProtocolKept as kept
use Rattle.bus_world.proofs.CyclicProtocolHolders as holds_page
use Rattle.bus_world.proofs.CyclicProtocolKept.{stored_is, held_page_is, resting_no_holding}
use Rattle.bus_world.proofs.FloorLaws.{floors_read, floors_risen}
use Rattle.bus_world.specs.Floors.{passed_place, AreFloors}

module _ {E : Type 0} (X : Election E) (P : Protocol E (Unit {0}) ℕ)
    (laws : Laws X.op X.fed P OneOwner) (x : Layout) (ok : IsLayout x)
    (width : x.width ≡ P.width x.senders)
    (starts : (n me at : ℕ) → X.started n me x.rounds at ≡ P.started n me tt at)
    (owner_is : (e : E) → X.owner e ≡ P.output e)
    (named : (e : E) (word : ℕ) → is_some (X.kind_of e) ≡ is_some (X.op e word))
    (announces : (e : E) → P.has_begun e ≡ false → X.kind_of e ≡ Some kind.Announce)
    (apart : (e : E) → X.kind_of e ≡ Some kind.TakePage → ⊥)
    (rows : ℕ) (two : 2 ≤ rows) where
  abbrev z : ReclamationSizes
  z = sizes_with x rows

  abbrev IsParticipant : Pin → Core E → Type 0
  IsParticipant =
      kept.IsParticipant X P laws x ok width starts owner_is named announces apart rows two

  abbrev AreStored : Option Page → (ℕ → Option (Core E)) → (ℕ → ℕ) → ℕ → ℕ → Type 0
  AreStored = kept.AreStored X P laws x ok width starts owner_is named announces apart rows two

  abbrev Kept : (ℕ → List RecvTurn) → CyclicProtocol E → Trails → (ℕ → List Action) → List ℕ
      → (ℕ → ℕ) → List Frame → Type 0
  Kept = kept.Kept X P laws x ok width starts owner_is named announces apart rows two

  abbrev HasKept : (ℕ → List RecvTurn) → CyclicProtocol E → Trails → (ℕ → List Action)
      → List ℕ → Type 0
  HasKept = kept.HasKept X P laws x ok width starts owner_is named announces apart rows two

  module _ (H : ℕ → List RecvTurn) (y : CyclicProtocol E) (T : Trails) (D : ℕ → List Action)
      (L : List ℕ) (V : ℕ → ℕ) (frames : List Frame) (k : Kept H y T D L V frames) (p : ℕ)
      (c : Core E) (old : y.senders p ≡ Some c) where
    open kept.turn_facts X P laws x ok width starts owner_is named announces apart rows two H y T D
        L
        V frames k p c old use {part, participants_on, length_low, tied_put, noted_as}

    module _ (word : ℕ) (answer : Answered)
        (free : step_at (y.reclamation.pins p) (presence_at z p) 1 ≡ None)
        (t : ℕ) (page : Page) (stored : ℕ) (published : Bool)
        (holds : c.phase ≡ phase.Holding t page stored published) where
      open holds_page.holder_facts X P laws x ok width starts owner_is named announces apart rows
          two H y T D L V frames k p c old word answer free t page stored published holds use {
            held_next,
            pins_same,
            alone,
            not_home,
            writing_now,
            holds_on,
          }

      -- it loads a passed place
      module _ (unpublished : published ≡ false) (left : y.passing.loaded < x.passers) where
        abbrev passing' : Passing
        passing' = passing_fed y.passing
            (y.reclamation.words (passed_place x rows y.passing.loaded))

        abbrev read_step : List Action
        read_step = Stepped (Some t) kind.ReadPassed
            (y.reclamation.words (passed_place x rows y.passing.loaded)) None answer ∷ []

        -- with the sender that it is then
        abbrev loaded_now : Core E → CyclicProtocol E
        loaded_now d = record y { passing = passing'; senders = put p (Some d) y.senders }

        read_floors : AreFloors x rows y.reclamation.words passing' y.receivers frames (V 0)
            k.floor
        read_floors = floors_read x rows y.reclamation.words y.passing y.receivers frames (V 0)
            k.floor k.floors left

        -- whatever its page is then, with a floor that all kept
        module _ (page' : Page) (floor' : ℕ)
            (floor_is : page'.floor ≡ floor') (higher : k.floor ≤ floor')
            (floors' : AreFloors x rows y.reclamation.words passing' y.receivers frames (V 0)
            floor')
            (sending' : Sending (slice_index y.bases) P x V y.home
            (put p (Some (record c { phase = phase.Holding t page' stored published })) y.senders)
            y.owners frames) where
          abbrev reader : Core E
          reader = record c { phase = phase.Holding t page' stored published }

          stored_read : AreStored y.home (put p (Some reader) y.senders) V k.W floor'
          stored_read = record {
            few = (let a = k.stored.few in omega arith);
            low = k.stored.low;
            home = k.stored.home;
            writing = λ q v pg st d at is. elim (cases_eq q p) [
              | inl i ↦
                  let one = stored_is t page' stored published v pg st false
                  (ap (λ (w : Core E). w.phase) (own_is q d i at) ∙ is)
                  in k.stored.writing p t page stored c old
                  (holds ∙ ap (phase.Holding t page stored) one.1) ∙ ap (λ n. V 0 + n) one.0
              | inr ne ↦ absurd (ne (alone q v pg st false d (other_then q d ne at) is))
            ];
            written = λ q v pg st d at is. elim (cases_eq q p) [
              | inl i ↦ grind (arith, common_steps, stored_is, own_is)
              | inr ne ↦ absurd (ne (alone q v pg st true d (other_then q d ne at) is))
            ];
            floor_home = λ pg there. absurd (not_home (ap is_some there));
            floor_held = λ q v pg st b d at is. elim (cases_eq q p) [
              | inl i ↦ grind (arith, common_steps, held_page_is, own_is)
              | inr ne ↦ absurd (ne (alone q v pg st b d (other_then q d ne at) is))
            ];
          } where
            own_is : (q : ℕ) (d : Core E) → q ≡ p → put p (Some reader) y.senders q ≡ Some d
                → reader ≡ d
            own_is q d i at = grind (arith, same_Some, put_here)

            other_then : (q : ℕ) (d : Core E) → (q ≡ p → ⊥)
                → put p (Some reader) y.senders q ≡ Some d → y.senders q ≡ Some d
            other_then q d ne at = sym (put_beside p (Some reader) y.senders q ne) ∙ at

          read_on : HasKept H (loaded_now reader) T (actions_with p read_step D) L
          read_on = record {
            V = V;
            frames = frames;
            kept = record {
              hears = k.hears;
              reached = k.reached;
              sending = sending';
              log_is = k.log_is;
              W = k.W;
              floor = floor';
              floors = floors';
              stored = stored_read;
              laid = k.laid;
              ties = tied_put V reader read_step (λ q a b. refl)
                  (let a = held_next in omega arith)
                  (λ u e i. absurd (bus.holding_apart t page' stored published u e i))
                  (plain_step _ _ _ _ (λ i. cc));
              notes = noted_as reader read_step
                  (steps_put_nothing (Some kind.ReadPassed) (Some t)
                  (y.reclamation.words (passed_place x rows y.passing.loaded)) None answer)
                  (waits_read published unpublished) (λ m i. i);
              participants = λ q d e. subst (λ w. IsParticipant w d)
                  (sym (ap (λ w. w q) (sym pins_same)))
                  (participants_on (y.reclamation.pins p) reader
                  (holds_on reader (λ u f. bus.holding_apart t page' stored published u f)) q d e);
              ready = k.ready;
            };
          } where
            waits_read : (b : Bool) → b ≡ false
                → waiting_at reader (phase.Holding t page' stored b) ≡ waiting_of (Some c)
            waits_read true e = absurd (true≢false e)
            waits_read false e = sym (ap (waiting_at c)
                (holds ∙ ap (phase.Holding t page stored) unpublished))

        -- and with the last one its page gets the floor
        abbrev floor_read : ℕ
        floor_read = lesser (lesser passing'.least page.words) PLACES

        read_one : HasKept H (loaded_now c) T (actions_with p read_step D) L
        read_one = subst (λ w. HasKept H (loaded_now w) T (actions_with p read_step D) L) (sym same)
            (read_on page k.floor (k.stored.floor_held p t page stored published c old holds)
            (omega arith) read_floors
            (subst (λ s. Sending (slice_index y.bases) P x V y.home s y.owners frames)
            (sym (put_is p (Some (record c { phase = phase.Holding t page stored published }))
            y.senders (old ∙ ap Some same))) k.sending))
          where
            same : c ≡ record c { phase = phase.Holding t page stored published }
            same = ap (λ w. record c { phase = w }) holds

        read_last : passing'.loaded ≡ x.passers
            → HasKept H (loaded_now (core_floored c passing'.least)) T (actions_with p read_step D)
            L
        read_last all =
            let knows = (writing_now unpublished).page_knows.words in
            let held = k.stored.floor_held p t page stored published c old holds in
            let size = length-logged k.sending.log in
            let risen = floors_risen x rows y.reclamation.words passing' y.receivers frames (V 0)
            k.floor read_floors (omega arith) (omega arith) size length_low in
            let is : floor_read ≡ lesser (lesser passing'.least (V 0)) PLACES =
            ap (λ n. lesser (lesser passing'.least n) PLACES) knows in
            let goes : core_floored c passing'.least
            ≡ record c {
              phase = phase.Holding t (record page { floor = floor_read }) stored published;
            } = ap (λ w. record c { phase = phase_floored passing'.least w }) holds in
            let higher = risen.0 in let low = risen.1.low in
            subst (λ w. HasKept H (loaded_now w) T (actions_with p read_step D) L) (sym goes)
            (read_on (record page { floor = floor_read })
            (lesser (lesser passing'.least (V 0)) PLACES)
            is higher risen.1
            (holders.raises X P laws x ok width V y.home y.senders y.owners frames k.sending p c
            (record c {
              phase = phase.Holding t (record page { floor = floor_read }) stored published;
            })
            (put p (Some (record c {
              phase = phase.Holding t (record page { floor = floor_read }) stored published;
            })) y.senders) old
            (put_here p (Some (record c {
              phase = phase.Holding t (record page { floor = floor_read }) stored published;
            })) y.senders)
            (put_beside p (Some (record c {
              phase = phase.Holding t (record page { floor = floor_read }) stored published;
            })) y.senders) t page stored published holds floor_read (omega arith) (omega arith)
            (λ flat. omega arith) refl))

        pub reads_kept : HasKept H (loaded_now (core_passed c passing')) T
            (actions_with p read_step D) L
        reads_kept = elim (eqb_tells passing'.loaded c.layout.passers) [
          | inl last ↦ subst (λ b. HasKept H
              (loaded_now (cond b (core_floored c passing'.least) c)) T
              (actions_with p read_step D) L) (sym last.0)
              (read_last (last.1 ∙ ap (λ (l : Layout). l.passers) part.layout))
          | inr more ↦ grind (arith, common_steps, read_one)
        ]

-- A step of an election keeps what is always kept, and so does a sender that takes the page.
use Rattle.std.proofs.Common.{◌≡◌, inl, inr, ℕ, ◌+◌, ◌-◌, ◌*◌, ◌<◌, ◌≤◌, Bool, false, Option, Some}
use Rattle.std.proofs.Common.{None, List, [], ◌∷◌, ◌++◌, is_some, slice_index, arith, refl, sym}
use Rattle.std.proofs.Common.{◌∙◌, ap, subst}
use Rattle.std.proofs.lemmas.Bool.{cases_eq, true≢false}
use Rattle.std.proofs.lemmas.Bool.Decides.{eqb_tells}
use Rattle.std.proofs.lemmas.Option.{same_Some}
use Rattle.std.proofs.lemmas.Grind.{common_steps}
use Rattle.bus_register.specs.declared.kinds.Kind.TheVariants as kind
use Rattle.bus_register.specs.declared.registers.Op.{Op}
use Rattle.bus_register.specs.declared.registers.Op.TheVariants.{Store}
use Rattle.bus_register.specs.Words.{register, after}
use Rattle.bus_register.specs.Tables.{put, of_some}
use Rattle.bus_register.specs.Private.TableLaws.{put_here, put_beside, some_or_none}
use Rattle.bus_register.specs.Protocol.{Protocol, Laws}
use Rattle.bus_batch.specs.Frames.{Frame}
use Rattle.bus_deliverylog.specs.declared.receiving.RecvTurn.{RecvTurn}
use Rattle.bus_ownerbits.specs.OneOwner.{OneOwner}
use Rattle.bus_presence.specs.declared.pins.Pin.{Pin}
use Rattle.bus_presence.specs.declared.pins.Pin.TheVariants.{Pinned, Unpinning}
use Rattle.bus_presence.specs.Pins.{step_at}
use Rattle.bus_presence.specs.Reclamation.{ReclamationSizes, Reclamation, Trails, presence_at}
use Rattle.bus_presence.specs.Reclamation.{row_of, reclaimer_after, Parts, Takes, Reached, Then}
use Rattle.bus_presence.specs.Reclamation.{Works}
use Rattle.bus_presence.proofs.ReclamationKept.{lt_tells}
use Rattle.bus_presence.proofs.RowLaws.{IsLive, alive_pinned}
use Rattle.bus_tenure.specs.Core.{Core, Election, Layout, row_at}
use Rattle.bus_tenure.specs.Situations.{Elects, TakesPage, situation_of, core_elected}
use Rattle.bus_tenure.specs.declared.pages.Page.{Page}
use Rattle.bus_tenure.specs.declared.phases.Phase.TheVariants as phase
use Rattle.bus_tenure.specs.declared.turns.Turn.{Turn as Answered}
use Rattle.bus_world.specs.World.{IsLayout}
use Rattle.bus_world.specs.Private.Sending.{Sending, standing_of, least_of, stands_at}
use Rattle.bus_core.specs.Reusing.Participants.{sizes_with, pin_elected}
use Rattle.bus_core.specs.Private.ParticipantTable.{place_for}
use Rattle.bus_world.specs.Turning.{number_found, core_with_page}
use Rattle.bus_world.specs.Private.CyclicProtocols.{CyclicProtocol, going_actions, words_stepped}
use Rattle.bus_world.specs.Private.CyclicProtocols.{word_found, protocol_after_going}
use Rattle.bus_world.specs.Trails.{actions_with, step_action}
use Rattle.bus_world.proofs.BusLaws as bus
use Rattle.bus_world.proofs.TenuresLaws as tenures
use Rattle.bus_world.proofs.TurningLaws.{Steps, at_home}
use Rattle.bus_world.specs.Headline.{Action, Stepped}
use Rattle.bus_world.proofs.TurnTrails.{TiesOf}
use Rattle.bus_world.proofs.Waiting.{waiting_at}
use Rattle.bus_world.proofs.Asking.{turn_waiting}
use Rattle.bus_world.proofs.PutLaws.{elected_waits, laid_waits}
use Rattle.bus_world.proofs.CyclicProtocolNotes.{steps_put_nothing}
use Rattle.bus_world.proofs.CyclicProtocolWords.{put_is, behind_rows}
use Rattle.bus_world.proofs.RingWords.{laid_worked, laid_taken}
use Rattle.bus_world.specs.Floors.{passed_place}
use Rattle.bus_world.proofs.FloorLaws.{floors_begun}
use Rattle.bus_world.proofs.CyclicProtocolKept as kept
use Rattle.bus_world.proofs.CyclicProtocolKept.{stored_is, held_page_is, resting_no_holding}
use Rattle.bus_world.proofs.CyclicProtocolKept.{pinned_is}

electing_no_holding : {E : Type 0} (t : ℕ) (e : E) (u : ℕ) (page : Page) (k : ℕ) (b : Bool)
    → phase.Electing t e ≡ phase.Holding u page k b → ⊥
electing_no_holding t e u page k b h = cc

-- an election leaves nobody with a page
elected_holds : {E : Type 0} (c : Core E) (t : ℕ) (e : E) (own : Option ℕ) (u : ℕ) (page : Page)
    (k : ℕ) (b : Bool) → (core_elected c t e own).phase ≡ phase.Holding u page k b → ⊥
elected_holds c t e None u page k b i = electing_no_holding t e u page k b i
elected_holds c t e (Some o) u page k b i =
    grind (arith, common_steps, electing_no_holding, resting_no_holding)

-- a tenure whose next row was not used needs no reclamation
no_reclaimer : (x : ReclamationSizes) (t : ℕ) → reclaimer_after x t ≡ None → t + 1 < x.rows
no_reclaimer x t = grind (arith, common_steps, lt_tells)

module _ {E : Type 0} (X : Election E) (P : Protocol E (Unit {0}) ℕ)
    (laws : Laws X.op X.fed P OneOwner) (x : Layout) (ok : IsLayout x)
    (width : x.width ≡ P.width x.senders)
    (starts : (n me at : ℕ) → X.started n me x.rounds at ≡ P.started n me tt at)
    (owner_is : (e : E) → X.owner e ≡ P.output e)
    (named : (e : E) (word : ℕ) → is_some (X.kind_of e) ≡ is_some (X.op e word))
    (announces : (e : E) → P.has_begun e ≡ false → X.kind_of e ≡ Some kind.Announce)
    (apart : (e : E) → X.kind_of e ≡ Some kind.TakePage → ⊥)
    (rows : ℕ) (two : 2 ≤ rows) where
  abbrev z : ReclamationSizes
  z = sizes_with x rows

  abbrev IsParticipant : Pin → Core E → Type 0
  IsParticipant =
      kept.IsParticipant X P laws x ok width starts owner_is named announces apart rows two

  abbrev Kept : (ℕ → List RecvTurn) → CyclicProtocol E → Trails → (ℕ → List Action) → List ℕ
      → (ℕ → ℕ) → List Frame → Type 0
  Kept = kept.Kept X P laws x ok width starts owner_is named announces apart rows two

  abbrev HasKept : (ℕ → List RecvTurn) → CyclicProtocol E → Trails → (ℕ → List Action)
      → List ℕ → Type 0
  HasKept = kept.HasKept X P laws x ok width starts owner_is named announces apart rows two

  module _ (H : ℕ → List RecvTurn) (y : CyclicProtocol E) (T : Trails) (D : ℕ → List Action)
      (L : List ℕ) (V : ℕ → ℕ) (frames : List Frame) (k : Kept H y T D L V frames) (p : ℕ)
      (c : Core E) (old : y.senders p ≡ Some c) where
    open kept.turn_facts X P laws x ok width starts owner_is named announces apart rows two H y T D
        L
        V frames k p c old use {
          participant,
          reclamation_keeps,
          stored_put,
          floors_same,
          length_low,
          participants_on,
          noted_as,
          changes_put,
        }

    module _ (word : ℕ) (answer : Answered)
        (free : step_at (y.reclamation.pins p) (presence_at z p) 1 ≡ None) where
      open kept.step_facts X P laws x ok width starts owner_is named announces apart rows two H y T
          D L V frames k p c old word answer free use {turn_on, ties_on}

      -- ---- an election
      module _ (t : ℕ) (e : E) (at : situation_of X c ≡ Elects t e)
          (elects : c.phase ≡ phase.Electing t e) where
        stands : y.reclamation.pins p ≡ Pinned t
        stands = participant.electing t e elects

        live : IsLive z y.reclamation t
        live = alive_pinned z two y.reclamation T reclamation_keeps p t stands

        module _ (o : Op) (next : X.op e word ≡ Some o) where
          bounds : (t < x.rows) × (2 + t * P.width x.senders ≤ register o)
              × (register o < 2 + t * P.width x.senders + P.width x.senders)
          bounds = tenures.within_its_row X.op X.fed P laws x.senders x.rows 2 V (V 1)
              (is_some y.home) (λ q. of_some standing_of (y.senders q))
              (λ q. least_of (y.senders q)) y.owners k.sending.tenures p t e word o
              (ap (of_some standing_of) old ∙ ap (λ w. Some (stands_at w)) elects) next

          abbrev far : ℕ
          far = register o - row_at x t

          above : row_at x t + far ≡ register o
          above = let b = bounds.1 in let w = ap (λ n. t * n) width in omega arith

          low : far < x.width
          low = let b = bounds.2 in let w = ap (λ n. t * n) width in let a = above in omega arith

          abbrev met : ℕ
          met = y.reclamation.words (row_of z t + far)

          met_is : met ≡ V (register o)
          met_is = k.laid.row t far bounds.0 low live ∙ ap V above

          abbrev n : ℕ
          n = after o met

          abbrev V' : ℕ → ℕ
          V' = put (row_at x t + far) n V

          abbrev later : E
          later = X.fed e met word

          abbrev c' : Core E
          c' = core_elected c t later (X.owner later)

          abbrev reclamation_with : (ℕ → Pin) → Reclamation
          reclamation_with pins = record {
            words = put (row_of z t + far) n y.reclamation.words;
            pins = pins;
            reclaimer = y.reclamation.reclaimer;
          }

          abbrev done : Pin → CyclicProtocol E
          done v = record y {
            reclamation = reclamation_with (put p v y.reclamation.pins);
            senders = put p (Some c') y.senders;
          }

          worked : Reached z (reclamation_with y.reclamation.pins) T
          worked = Works y.reclamation T p t far n k.reached stands low

          sending' : Sending (slice_index y.bases) P x V' y.home (put p (Some c') y.senders)
              y.owners frames
          sending' = turn_on (Elects t e) at V' c'
              (subst (λ d. Steps d V V') (sym next)
              (changes_put o (row_at x t + far) n (sym above) (ap (after o) met_is)))
              (ap (λ g. core_elected c t (X.fed e g word) (X.owner (X.fed e g word))) met_is
              ∙ sym
              (ap (λ d. core_elected c t (X.fed e (word_found (λ r. r) V d) word)
              (X.owner (X.fed e (word_found (λ r. r) V d) word))) next))

          abbrev done_actions : ℕ → List Action
          done_actions =
              actions_with p (step_action (X.kind_of e) (Some t) met (X.owner later) answer) D

          done_ties : TiesOf P x V' (put p (Some c') y.senders) y.owners done_actions
          done_ties = subst (λ g. TiesOf P x V' (put p (Some c') y.senders) y.owners
              (actions_with p
              (step_action (X.kind_of e) (Some t) g (X.owner (X.fed e g word)) answer) D))
              (sym met_is)
              (subst (λ d.
              Steps d V V'
              → c'
              ≡ core_elected c t (X.fed e (number_found V d) word)
              (X.owner (X.fed e (number_found V d) word))
              → TiesOf P x V' (put p (Some c') y.senders) y.owners
              (actions_with p (step_action (X.kind_of e) (Some t) (number_found V d)
              (X.owner (X.fed e (number_found V d) word)) answer) D)) next
              (ties_on (Elects t e) at V' c')
              (changes_put o (row_at x t + far) n (sym above) (ap (after o) met_is))
              (ap (λ g. core_elected c t (X.fed e g word) (X.owner (X.fed e g word))) met_is))

          done_kept : (v : Pin) → Reached z (reclamation_with (put p v y.reclamation.pins)) T
              → IsParticipant v c' → HasKept H (done v) T done_actions L
          done_kept v reached is =
              let laid' = laid_worked x rows y.reclamation (put p v y.reclamation.pins) V k.W k.laid
              t far n bounds.0 low live two in
              record {
                V = V';
                frames = frames;
                kept = record {
                  hears = k.hears;
                  reached = reached;
                  sending = sending';
                  log_is = k.log_is;
                  W = k.W;
                  floor = k.floor;
                  floors = floors_same (put (row_of z t + far) n y.reclamation.words) V'
                      (put_beside (row_at x t + far) n V 0 (λ i. omega arith))
                      (λ r l. put_beside (row_of z t + far) n y.reclamation.words
                      (passed_place x rows r) (behind_rows x rows two t far r low));
                  stored = stored_put V' (put_beside (row_at x t + far) n V 0 (λ i. omega arith)) c'
                      (λ u page stored b i.
                      absurd (elected_holds c t later (X.owner later) u page stored b i));
                  laid = laid';
                  ties = done_ties;
                  notes = noted_as c'
                      (step_action (X.kind_of e) (Some t) met (X.owner later) answer)
                      (steps_put_nothing (X.kind_of e) (Some t) met (X.owner later) answer)
                      (elected_waits c t later (X.owner later) ∙ sym (ap (waiting_at c) elects))
                      (λ m. turn_waiting X c m (Elects t e) y.home met word);
                  participants = participants_on v c' is;
                  ready = λ u held none. k.ready u
                      (sym
                      (put_beside (row_of z t + far) n y.reclamation.words 1 (λ i. omega arith))
                      ∙ held) none;
                };
              }

          -- it stays in the election
          stays : pin_elected c t (X.owner later) ≡ Pinned t
              → c' ≡ record c { phase = phase.Electing t later }
              → HasKept H (done (pin_elected c t (X.owner later))) T done_actions L
          stays v_is c_is = subst (λ v. HasKept H (done v) T done_actions L) (sym v_is)
              (done_kept (Pinned t) (subst (λ v. Reached z (reclamation_with v) T)
              (sym (put_is p (Pinned t) y.reclamation.pins stands)) worked)
              (subst (IsParticipant (Pinned t)) (sym c_is) record {
                pinned = λ u i. (later, ap (λ w. phase.Electing w later) (pinned_is t u i));
                electing = λ u f i. ap Pinned (bus.same_electing t u later f i).0;
                announcing = λ u i. absurd (elim i [ inl a ↦ cc | inr a ↦ cc ]);
              }))

          -- it lost it
          parts : pin_elected c t (X.owner later) ≡ Unpinning t → c'.phase ≡ phase.Resting
              → HasKept H (done (pin_elected c t (X.owner later))) T done_actions L
          parts v_is rests = subst (λ v. HasKept H (done v) T done_actions L) (sym v_is)
              (done_kept (Unpinning t) (Then (reclamation_with y.reclamation.pins)
              (reclamation_with (put p (Unpinning t) y.reclamation.pins)) T T worked
              (Parts (reclamation_with y.reclamation.pins) T p t stands)) record {
                pinned = λ u i. absurd cc;
                electing = λ u f i. absurd (bus.resting_apart u f (sym rests ∙ i));
                announcing = λ u i. absurd (elim i [ inl a ↦ cc | inr a ↦ cc ]);
              })

          by_owner : (owner : Option ℕ) → X.owner later ≡ owner
              → HasKept H (done (pin_elected c t (X.owner later))) T done_actions L
          by_owner None i = stays (ap (pin_elected c t) i) (ap (core_elected c t later) i)
          by_owner (Some u) i = grind (arith, common_steps, eqb_tells, stays, parts)

        abbrev elected : Option Op → CyclicProtocol E
        elected d =
            let g = word_found (place_for x rows (Elects t e)) y.reclamation.words d in
            record y {
              reclamation = record {
                words = words_stepped (place_for x rows (Elects t e)) y.reclamation.words d;
                pins = put p (pin_elected c t (X.owner (X.fed e g word))) y.reclamation.pins;
                reclaimer = y.reclamation.reclaimer;
              };
              senders = put p (Some (core_elected c t (X.fed e g word) (X.owner (X.fed e g word))))
                  y.senders;
            }

        abbrev elected_actions : Option Op → ℕ → List Action
        elected_actions d =
            let g = word_found (place_for x rows (Elects t e)) y.reclamation.words d in
            actions_with p (step_action (X.kind_of e) (Some t) g (X.owner (X.fed e g word)) answer)
            D

        pub elects_kept : is_some (X.owner e) ≡ false
            → HasKept H (protocol_after_going X x rows y p c (Elects t e) word) T
            (actions_with p (going_actions X x rows y c (Elects t e) word answer) D) L
        elects_kept unowned = elim (some_or_none (X.op e word)) [
          | inr o ↦ subst (λ d. HasKept H (elected d) T (elected_actions d) L) (sym o.1)
              (by_owner o.0 o.1
              (X.owner
              (X.fed e (y.reclamation.words (row_of z t + (register o.0 - row_at x t))) word)) refl)
          | inl stop ↦ absurd
              (true≢false (sym (laws.ends e word stop).0 ∙ sym (ap is_some (owner_is e)) ∙ unowned))
        ]

      -- ---- it takes the page
      module _ (t : ℕ) (e : E) (at : situation_of X c ≡ TakesPage t)
          (elects : c.phase ≡ phase.Electing t e) where
        abbrev taker : Core E
        taker = core_with_page (record c { phase = phase.Taken t }) t y.home

        abbrev reclamation_taken : (ℕ → Pin) → Reclamation
        reclamation_taken pins = record {
          words = put 1 (2 * t + 1) y.reclamation.words;
          pins = pins;
          reclaimer = reclaimer_after z t;
        }

        pub takes_kept : (u : ℕ) → X.owner e ≡ Some u
            → HasKept H (protocol_after_going X x rows y p c (TakesPage t) word) T
            (actions_with p (going_actions X x rows y c (TakesPage t) word answer) D) L
        takes_kept u own =
            let out : P.output e ≡ Some u = sym (owner_is e) ∙ own in
            let mine : P.output e ≡ Some p =
            out ∙ ap Some (k.sending.chosen p c t e u old elects out) in
            let runs = ap (of_some standing_of) old ∙ ap (λ w. Some (stands_at w)) elects in
            let finds = tenures.finds_home X.op X.fed P laws x.senders x.rows 2 V (V 1)
            (is_some y.home) (λ q. of_some standing_of (y.senders q)) (λ q. least_of (y.senders q))
            y.owners k.sending.tenures p t e runs mine in
            let open_now : y.reclamation.words 1 ≡ 2 * t = k.laid.stage ∙ finds.0 in
            let stands : y.reclamation.pins p ≡ Pinned t = participant.electing t e elects in
            let page = at_home X P laws x ok width starts owner_is V y.home y.senders y.owners
            frames k.sending p c old word t e elects u own in
            let held : taker ≡ record c { phase = phase.Holding t page.0 0 false } =
            ap (core_with_page (record c { phase = phase.Taken t }) t) page.1 in
            let same_first : put 1 (2 * t + 1) V 0 ≡ V 0 =
            put_beside 1 (2 * t + 1) V 0 (λ i. omega arith) in
            record {
              V = put 1 (2 * t + 1) V;
              frames = frames;
              kept = record {
                hears = k.hears;
                reached = Then (reclamation_taken y.reclamation.pins)
                    (reclamation_taken (put p (Unpinning t) y.reclamation.pins)) T T
                    (Then y.reclamation (reclamation_taken y.reclamation.pins) T T k.reached
                    (Takes y.reclamation T p t stands open_now))
                    (Parts (reclamation_taken y.reclamation.pins) T p t stands);
                sending = turn_on (TakesPage t) at (put 1 (2 * t + 1) V) taker
                    (changes_put (Store record { 0 = 1 } (2 * t + 1)) 1 (2 * t + 1) refl refl) refl;
                ties = subst (λ g. TiesOf P x (put 1 (2 * t + 1) V) (put p (Some taker) y.senders)
                    (y.owners ++ p ∷ [])
                    (actions_with p (Stepped (Some t) kind.TakePage g None answer ∷ []) D))
                    (sym k.laid.stage)
                    (ties_on (TakesPage t) at (put 1 (2 * t + 1) V) taker
                    (changes_put (Store record { 0 = 1 } (2 * t + 1)) 1 (2 * t + 1) refl refl)
                    refl);
                notes = noted_as taker
                    (Stepped (Some t) kind.TakePage (y.reclamation.words 1) None answer ∷ [])
                    (steps_put_nothing (Some kind.TakePage) (Some t) (y.reclamation.words 1) None
                    answer) (laid_waits (record c { phase = phase.Taken t }) t y.home
                    ∙ sym (ap (waiting_at c) elects))
                    (λ m. turn_waiting X c m (TakesPage t) y.home (y.reclamation.words 1) word);
                log_is = k.log_is;
                W = k.W;
                floor = k.floor;
                floors = floors_begun x rows (put 1 (2 * t + 1) y.reclamation.words) y.passing
                    y.receivers frames (put 1 (2 * t + 1) V 0) k.floor
                    (floors_same (put 1 (2 * t + 1) y.reclamation.words) (put 1 (2 * t + 1) V)
                    same_first (λ r l. put_beside 1 (2 * t + 1) y.reclamation.words
                    (passed_place x rows r) (λ i. omega arith)))
                    (let a = length_low in let b = same_first in omega arith);
                stored = record {
                  few = k.stored.few;
                  low = subst (λ n. n ≤ k.W) (sym (put_beside 1 (2 * t + 1) V 0 (λ i. omega arith)))
                      k.stored.low;
                  home = λ there. absurd (true≢false (sym there));
                  writing = λ q v pg st d at is. elim (cases_eq q p) [
                    | inl i ↦
                        let own_phase : phase.Holding t page.0 0 false
                        ≡ phase.Holding v pg st false =
                        sym (ap (λ (w : Core E). w.phase) held)
                        ∙ ap (λ (w : Core E). w.phase)
                        (same_Some _ _ (sym (put_here p (Some taker) y.senders)
                        ∙ ap (put p (Some taker) y.senders) (sym i) ∙ at)) ∙ is in
                        let none = (stored_is t page.0 0 false v pg st false own_phase).0 in
                        let now = k.stored.home (ap is_some page.1) in
                        let same = put_beside 1 (2 * t + 1) V 0 (λ j. omega arith) in omega arith
                    | inr ne ↦
                        k.stored.writing q v pg st d
                        (sym (put_beside p (Some taker) y.senders q ne) ∙ at) is
                        ∙ ap (λ n. n + st) (sym (put_beside 1 (2 * t + 1) V 0 (λ i. omega arith)))
                  ];
                  written = λ q v pg st d at is. elim (cases_eq q p) [
                    | inl i ↦
                        grind (arith, common_steps, same_Some, put_here, true≢false, stored_is)
                    | inr ne ↦ grind (arith, common_steps, put_beside)
                  ];
                  floor_home = λ pg there. absurd cc;
                  floor_held = λ q v pg st b d at is. elim (cases_eq q p) [
                    | inl i ↦ grind (arith, common_steps, same_Some, put_here, held_page_is)
                    | inr ne ↦ k.stored.floor_held q v pg st b d
                        (sym (put_beside p (Some taker) y.senders q ne) ∙ at) is
                  ];
                };
                laid = laid_taken x rows y.reclamation T reclamation_keeps
                    (put p (Unpinning t) y.reclamation.pins) V k.W k.laid t open_now;
                participants = participants_on (Unpinning t) taker record {
                  pinned = λ v i. absurd cc;
                  electing = λ v f i. absurd (bus.holding_apart t page.0 0 false v f
                      (sym (ap (λ (d : Core E). d.phase) held) ∙ i));
                  announcing = λ v i. absurd (elim i [ inl a ↦ cc | inr a ↦ cc ]);
                };
                ready = λ v is none. grind (arith, common_steps, no_reclaimer, put_here);
              };
            }

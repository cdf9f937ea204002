-- How a sender enters tenures and leaves them keeps what is always kept: a first look at the stage,
-- and each step of its pin; and so does a turn in which nothing happens.
use Rattle.std.proofs.Common.{◌≡◌, ◌⊎◌, inl, inr, ℕ, ◌+◌, ◌*◌, ◌/◌, ◌<◌, ◌≤◌, Bool, true, false}
use Rattle.std.proofs.Common.{cond, nat_le, ◌==◌, Some, None, List, [], ◌∷◌, is_some, slice_index}
use Rattle.std.proofs.Common.{arith, refl, sym, ◌∙◌, ap, subst}
use Rattle.std.proofs.lemmas.Bool.{leb-false}
use Rattle.std.proofs.lemmas.Bool.Decides.{eqb_tells}
use Rattle.std.proofs.lemmas.Option.{same_Some}
use Rattle.std.proofs.lemmas.Grind.{common_steps}
use Rattle.bus_register.specs.declared.kinds.Kind.TheVariants as kind
use Rattle.bus_register.specs.declared.registers.Op.{Op}
use Rattle.bus_register.specs.declared.registers.Op.TheVariants.{Load}
use Rattle.bus_register.specs.Tables.{put}
use Rattle.bus_register.specs.Private.TableLaws.{put_here, put_beside}
use Rattle.bus_register.specs.Protocol.{Protocol, Laws}
use Rattle.bus_batch.specs.Frames.{Frame}
use Rattle.bus_deliverylog.specs.declared.receiving.RecvTurn.{RecvTurn}
use Rattle.bus_ownerbits.specs.OneOwner.{OneOwner}
use Rattle.bus_presence.specs.declared.pins.Pin.{Pin}
use Rattle.bus_presence.specs.declared.pins.Pin.TheVariants.{Away, Announcing, Validating, Pinned}
use Rattle.bus_presence.specs.declared.pins.Pin.TheVariants.{Unpinning, Invalidated}
use Rattle.bus_presence.specs.Pins.{step_at, pin_fed}
use Rattle.bus_presence.specs.Reclamation.{ReclamationSizes, Reclamation, Trails, presence_at}
use Rattle.bus_presence.specs.Reclamation.{number_of_step, words_after, trails_with_entry, Begins}
use Rattle.bus_presence.specs.Reclamation.{Pins as PinStep, Reached, Then}
use Rattle.bus_presence.proofs.ReclamationKept.{put_same}
use Rattle.bus_tenure.specs.Core.{Core, Election, Layout, row_at}
use Rattle.bus_tenure.specs.Situations.{LooksAtStage, resting, waits, core_begun}
use Rattle.bus_tenure.specs.declared.phases.Phase.TheVariants as phase
use Rattle.bus_tenure.specs.declared.turns.Turn.{Turn as Answered}
use Rattle.bus_world.specs.World.{IsLayout}
use Rattle.bus_world.specs.Private.Sending.{Fits, Sending}
use Rattle.bus_core.specs.Reusing.Participants.{sizes_with}
use Rattle.bus_core.specs.Private.ParticipantTable.{core_looked}
use Rattle.bus_world.specs.Private.CyclicProtocols.{CyclicProtocol, protocol_pin_stepped}
use Rattle.bus_world.specs.Private.CyclicProtocols.{protocol_after_going}
use Rattle.bus_world.specs.Trails.{actions_with}
use Rattle.bus_world.proofs.BusLaws as bus
use Rattle.bus_world.proofs.TurningLaws.{open_stage, begins_opened}
use Rattle.bus_world.specs.Headline.{Action, Stepped}
use Rattle.bus_world.proofs.Tying.{next_at}
use Rattle.bus_world.proofs.TableTrails.{IsPlain, plain_none, plain_step}
use Rattle.bus_world.proofs.TurnTrails.{calm, begins}
use Rattle.bus_world.proofs.Waiting.{waiting_at}
use Rattle.bus_world.proofs.CyclicProtocolNotes.{PutsNothing, steps_put_nothing, nothing_put}
use Rattle.bus_world.proofs.CyclicProtocolWords.{put_is, IsQuiet, quiet_same, quiet_pin}
use Rattle.bus_world.specs.Floors.{AreFloors}
use Rattle.bus_world.proofs.RingWords.{Laid, laid_quiet}
use Rattle.bus_world.proofs.CyclicProtocolKept as kept
use Rattle.bus_world.proofs.CyclicProtocolKept.{resting_no_holding, pinned_is}

announcing_is : (t u : ℕ) → Announcing t ≡ Announcing u → t ≡ u
announcing_is t u h = cc

validating_is : (t u : ℕ) → Validating t ≡ Validating u → t ≡ u
validating_is t u h = cc

module _ {E : Type 0} (X : Election E) (P : Protocol E (Unit {0}) ℕ)
    (laws : Laws X.op X.fed P OneOwner) (x : Layout) (ok : IsLayout x)
    (width : x.width ≡ P.width x.senders)
    (starts : (n me at : ℕ) → X.started n me x.rounds at ≡ P.started n me tt at)
    (owner_is : (e : E) → X.owner e ≡ P.output e)
    (named : (e : E) (word : ℕ) → is_some (X.kind_of e) ≡ is_some (X.op e word))
    (announces : (e : E) → P.has_begun e ≡ false → X.kind_of e ≡ Some kind.Announce)
    (apart : (e : E) → X.kind_of e ≡ Some kind.TakePage → ⊥)
    (rows : ℕ) (two : 2 ≤ rows) where
  abbrev z : ReclamationSizes
  z = sizes_with x rows

  abbrev IsAnnouncing : Core E → ℕ → Type 0
  IsAnnouncing =
      kept.IsAnnouncing X P laws x ok width starts owner_is named announces apart rows two

  abbrev IsParticipant : Pin → Core E → Type 0
  IsParticipant =
      kept.IsParticipant X P laws x ok width starts owner_is named announces apart rows two

  abbrev Kept : (ℕ → List RecvTurn) → CyclicProtocol E → Trails → (ℕ → List Action) → List ℕ
      → (ℕ → ℕ) → List Frame → Type 0
  Kept = kept.Kept X P laws x ok width starts owner_is named announces apart rows two

  abbrev HasKept : (ℕ → List RecvTurn) → CyclicProtocol E → Trails → (ℕ → List Action)
      → List ℕ → Type 0
  HasKept = kept.HasKept X P laws x ok width starts owner_is named announces apart rows two

  module _ (H : ℕ → List RecvTurn) (y : CyclicProtocol E) (T : Trails) (D : ℕ → List Action)
      (L : List ℕ) (V : ℕ → ℕ) (frames : List Frame) (k : Kept H y T D L V frames) (p : ℕ)
      (c : Core E) (old : y.senders p ≡ Some c) where
    open kept.turn_facts X P laws x ok width starts owner_is named announces apart rows two H y T D
        L
        V frames k p c old use {
          part,
          participant,
          stored_put,
          floors_same,
          participants_on,
          tied,
          tied_put,
          noted,
          noted_as,
        }

    abbrev same_actions : ℕ → List Action
    same_actions = actions_with p [] D

    -- ---- a step of its pin
    module _ (o : Op) (due : step_at (y.reclamation.pins p) (presence_at z p) 1 ≡ Some o) where
      abbrev got : ℕ
      got = number_of_step y.reclamation o

      abbrev reclamation' : Reclamation
      reclamation' = record y.reclamation {
        words = words_after y.reclamation o;
        pins = put p (pin_fed (y.reclamation.pins p) got) y.reclamation.pins;
      }

      abbrev trail' : Trails
      trail' = trails_with_entry T p record { op = o; got = got }

      reached' : Reached z reclamation' trail'
      reached' =
          Then y.reclamation reclamation' T trail' k.reached (PinStep y.reclamation T p o due)

      quiet : IsQuiet x rows y.reclamation reclamation'
      quiet = quiet_pin x rows y.reclamation
          (put p (pin_fed (y.reclamation.pins p) got) y.reclamation.pins) p (y.reclamation.pins p) o
          part.below due

      laid' : Laid x rows reclamation' V k.W
      laid' = laid_quiet x rows y.reclamation reclamation' V k.W quiet k.laid

      floors' : AreFloors x rows reclamation'.words y.passing y.receivers frames (V 0) k.floor
      floors' = floors_same reclamation'.words V refl quiet.passed

      ready' : (t : ℕ) → reclamation'.words 1 ≡ 2 * t + 1 → y.reclamation.reclaimer ≡ None
          → t + 1 < rows
      ready' t held none = k.ready t (k.laid.stage ∙ sym laid'.stage ∙ held) none

      -- the sender's part is as it was
      pin_over : (v : Pin) → y.reclamation.pins p ≡ v → core_looked X c v got ≡ c
          → IsParticipant (pin_fed v got) c
          → HasKept H (protocol_pin_stepped X y p c o) trail' same_actions L
      pin_over v at same is = record {
        V = V;
        frames = frames;
        kept = record {
          hears = k.hears;
          reached = reached';
          sending = grind (arith, common_steps, slice_index, put_is);
          log_is = k.log_is;
          W = k.W;
          floor = k.floor;
          floors = floors';
          stored = stored_put V refl (core_looked X c (y.reclamation.pins p) got)
              (λ t page stored b e.
              ap (λ (w : Core E). w.phase) (sym (ap (λ w. core_looked X c w got) at ∙ same)) ∙ e);
          laid = laid';
          ties = tied V c (put p (Some (core_looked X c (y.reclamation.pins p) got)) y.senders)
              (put_beside p (Some (core_looked X c (y.reclamation.pins p) got)) y.senders)
              (put_here p (Some (core_looked X c (y.reclamation.pins p) got)) y.senders
              ∙ ap Some (ap (λ w. core_looked X c w got) at ∙ same)) [] (λ q a b. refl)
              (omega arith) (λ t e i. i) plain_none;
          notes = noted c (put p (Some (core_looked X c (y.reclamation.pins p) got)) y.senders)
              (put_beside p (Some (core_looked X c (y.reclamation.pins p) got)) y.senders)
              (put_here p (Some (core_looked X c (y.reclamation.pins p) got)) y.senders
              ∙ ap Some (ap (λ w. core_looked X c w got) at ∙ same)) [] nothing_put refl (λ m i. i);
          participants = participants_on (pin_fed (y.reclamation.pins p) got)
              (core_looked X c (y.reclamation.pins p) got)
              (subst (λ w. IsParticipant (pin_fed w got) (core_looked X c w got)) (sym at)
              (subst (IsParticipant (pin_fed v got)) (sym same) is));
          ready = ready';
        };
      }

      -- it begins the tenure
      pin_begins : (t : ℕ) → y.reclamation.pins p ≡ Validating t → (got / 2 == t) ≡ true
          → got / 2 ≡ t → HasKept H (protocol_pin_stepped X y p c o) trail' same_actions L
      pin_begins t at told same =
          let v_now : pin_fed (y.reclamation.pins p) got ≡ Pinned t =
          ap (λ w. pin_fed w got) at ∙ ap (λ b. cond b (Pinned t) (Invalidated t)) told in
          let c_now : core_looked X c (y.reclamation.pins p) got ≡ core_begun X c t =
          ap (λ w. core_looked X c w got) at ∙ ap (λ b. cond b (core_begun X c t) c) told in
          let e = participant.announcing t (inr at) in
          let loads : Load record { 0 = 1 } ≡ o =
          same_Some _ _ (sym (ap (λ w. step_at w (presence_at z p) 1) at) ∙ due) in
          let got_is : got ≡ V 1 = sym (ap (number_of_step y.reclamation) loads) ∙ k.laid.stage in
          record {
            V = V;
            frames = frames;
            kept = record {
              hears = k.hears;
              reached = reached';
              sending = begins_opened X P laws x ok width starts owner_is V y.home y.senders
                  y.owners frames k.sending p c old 0 V
                  (put p (Some (core_looked X c (y.reclamation.pins p) got)) y.senders)
                  (put_beside p (Some (core_looked X c (y.reclamation.pins p) got)) y.senders)
                  e.rests t e.looks (omega arith) e.least e.room
                  (put_here p (Some (core_looked X c (y.reclamation.pins p) got)) y.senders
                  ∙ ap Some c_now);
              log_is = k.log_is;
              W = k.W;
              floor = k.floor;
              floors = floors';
              stored = stored_put V refl (core_looked X c (y.reclamation.pins p) got)
                  (λ u page stored b e. absurd (bus.holding_apart u page stored b t
                  (X.started c.layout.senders c.me c.layout.rounds (row_at c.layout t))
                  (sym e ∙ ap (λ (w : Core E). w.phase) c_now)));
              laid = laid';
              ties = begins X P laws x ok width starts owner_is named announces apart V y.home
                  y.senders y.owners frames k.sending p c old D k.ties V
                  (put p (Some (core_looked X c (y.reclamation.pins p) got)) y.senders)
                  (put_beside p (Some (core_looked X c (y.reclamation.pins p) got)) y.senders)
                  t e.rests e.least e.room (λ q a b. refl)
                  (put_here p (Some (core_looked X c (y.reclamation.pins p) got)) y.senders
                  ∙ ap Some c_now) [] plain_none;
              notes = noted (core_begun X c t)
                  (put p (Some (core_looked X c (y.reclamation.pins p) got)) y.senders)
                  (put_beside p (Some (core_looked X c (y.reclamation.pins p) got)) y.senders)
                  (put_here p (Some (core_looked X c (y.reclamation.pins p) got)) y.senders
                  ∙ ap Some c_now) [] nothing_put (sym (ap (waiting_at c) e.rests)) (λ m i. i);
              participants = participants_on (pin_fed (y.reclamation.pins p) got)
                  (core_looked X c (y.reclamation.pins p) got)
                  (subst (λ w. IsParticipant w (core_looked X c (y.reclamation.pins p) got))
                  (sym v_now) (subst (IsParticipant (Pinned t)) (sym c_now) record {
                    pinned = λ u i. grind (arith, common_steps, pinned_is);
                    electing = λ u f i. grind (arith, common_steps, bus.same_electing);
                    announcing = λ u i. absurd (elim i [ inl a ↦ cc | inr a ↦ cc ]);
                  }));
              ready = ready';
            };
          }

      -- a sender that was in no election is in none
      unelected : (v : Pin) → y.reclamation.pins p ≡ v → ((t : ℕ) → v ≡ Pinned t → ⊥)
          → (t : ℕ) (e : E) → c.phase ≡ phase.Electing t e → ⊥
      unelected v at out t e i = out t (sym at ∙ participant.electing t e i)

      pub pin_kept : (v : Pin) → y.reclamation.pins p ≡ v
          → HasKept H (protocol_pin_stepped X y p c o) trail' same_actions L
      pin_kept Away at =
          absurd (let bad = sym (ap (λ w. step_at w (presence_at z p) 1) at) ∙ due in cc)
      pin_kept (Announcing t) at = pin_over (Announcing t) at refl record {
        pinned = λ u i. absurd cc;
        electing = λ u e i. absurd (unelected (Announcing t) at (λ w j. cc) u e i);
        announcing = λ u i. elim i [
          | inl a ↦ absurd cc
          | inr a ↦ participant.announcing u (inl (at ∙ ap Announcing (validating_is t u a)))
        ];
      }
      pin_kept (Validating t) at = elim (eqb_tells (got / 2) t) [
        | inl same ↦ pin_begins t at same.0 same.1
        | inr other ↦ pin_over (Validating t) at (ap (λ b. cond b (core_begun X c t) c) other.0)
            (subst (λ b. IsParticipant (cond b (Pinned t) (Invalidated t)) c) (sym other.0) record {
              pinned = λ u i. absurd cc;
              electing = λ u e i. absurd (unelected (Validating t) at (λ w j. cc) u e i);
              announcing = λ u i. absurd (elim i [ inl a ↦ cc | inr a ↦ cc ]);
            })
      ]
      pin_kept (Pinned t) at =
          absurd (let bad = sym (ap (λ w. step_at w (presence_at z p) 1) at) ∙ due in cc)
      pin_kept (Unpinning t) at = pin_over (Unpinning t) at refl record {
        pinned = λ u i. absurd cc;
        electing = λ u e i. absurd (unelected (Unpinning t) at (λ w j. cc) u e i);
        announcing = λ u i. absurd (elim i [ inl a ↦ cc | inr a ↦ cc ]);
      }
      pin_kept (Invalidated t) at = pin_over (Invalidated t) at refl record {
        pinned = λ u i. absurd cc;
        electing = λ u e i. absurd (unelected (Invalidated t) at (λ w j. cc) u e i);
        announcing = λ u i. absurd (elim i [ inl a ↦ cc | inr a ↦ cc ]);
      }

    -- a sender in no pin's step is away, or stands in a tenure
    away_or_pinned : (v : Pin) → step_at v (presence_at z p) 1 ≡ None
        → (v ≡ Away) ⊎ ((t : ℕ) × (v ≡ Pinned t))
    away_or_pinned Away e = inl refl
    away_or_pinned (Announcing t) e = absurd (let bad = sym e in cc)
    away_or_pinned (Validating t) e = absurd (let bad = sym e in cc)
    away_or_pinned (Pinned t) e = inr (t, refl)
    away_or_pinned (Unpinning t) e = absurd (let bad = sym e in cc)
    away_or_pinned (Invalidated t) e = absurd (let bad = sym e in cc)

    module _ (word : ℕ) (answer : Answered)
        (free : step_at (y.reclamation.pins p) (presence_at z p) 1 ≡ None) where
      -- nothing happens
      abbrev beside_protocol : (ℕ → ℕ) → Pin → Core E → CyclicProtocol E
      beside_protocol words v c' = record y {
        reclamation = record {
          words = words;
          pins = put p v y.reclamation.pins;
          reclaimer = y.reclamation.reclaimer;
        };
        senders = put p (Some c') y.senders;
      }

      pub idle_kept : (ds : List Action) → IsPlain ds → PutsNothing ds
          → HasKept H (beside_protocol y.reclamation.words (y.reclamation.pins p) c) T
          (actions_with p ds D) L
      idle_kept ds plain nothing = record {
        V = V;
        frames = frames;
        kept = record {
          hears = k.hears;
          reached = subst (λ v. Reached z (record {
            words = y.reclamation.words;
            pins = v;
            reclaimer = y.reclamation.reclaimer;
          }) T) (sym (put_is p (y.reclamation.pins p) y.reclamation.pins refl)) k.reached;
          sending = subst (λ s. Sending (slice_index y.bases) P x V y.home s y.owners frames)
              (sym (put_is p (Some c) y.senders old)) k.sending;
          log_is = k.log_is;
          W = k.W;
          floor = k.floor;
          floors = k.floors;
          stored = stored_put V refl c (λ t page stored b e. e);
          laid = laid_quiet x rows y.reclamation (record {
            words = y.reclamation.words;
            pins = put p (y.reclamation.pins p) y.reclamation.pins;
            reclaimer = y.reclamation.reclaimer;
          }) V k.W (quiet_same x rows y.reclamation (record {
            words = y.reclamation.words;
            pins = put p (y.reclamation.pins p) y.reclamation.pins;
            reclaimer = y.reclamation.reclaimer;
          }) refl refl) k.laid;
          ties = tied_put V c ds (λ q a b. refl) (omega arith) (λ t e i. i) plain;
          notes = noted_as c ds nothing refl (λ m i. i);
          participants = participants_on (y.reclamation.pins p) c participant;
          ready = k.ready;
        };
      }

      -- ---- a first look at the stage
      module _ (rests : c.phase ≡ phase.Resting) (looks : resting c ≡ LooksAtStage) where
        away : y.reclamation.pins p ≡ Away
        away = elim (away_or_pinned (y.reclamation.pins p) free) [
          | inl e ↦ e
          | inr i ↦ absurd
              (let e = participant.pinned i.0 i.1 in bus.resting_apart i.0 e.0 (sym rests ∙ e.1))
        ]

        abbrev stage : ℕ
        stage = y.reclamation.words 1

        abbrev looked : List Action
        looked = Stepped None kind.LoadStage stage None answer ∷ []

        looked_plain : IsPlain looked
        looked_plain = plain_step None kind.LoadStage stage answer (λ e. cc)

        looked_nothing : PutsNothing looked
        looked_nothing = steps_put_nothing (Some kind.LoadStage) None stage None answer

        abbrev looked_actions : ℕ → List Action
        looked_actions = actions_with p looked D

        rested_participant : (v : Pin) (c' : Core E) → c'.phase ≡ phase.Resting
            → ((t : ℕ) → v ≡ Pinned t → ⊥)
            → ((t : ℕ) → (v ≡ Announcing t) ⊎ (v ≡ Validating t) → IsAnnouncing c' t)
            → IsParticipant v c'
        rested_participant v c' calm out enters = record {
          pinned = λ t i. absurd (out t i);
          electing = λ t e i. absurd (bus.resting_apart t e (sym calm ∙ i));
          announcing = enters;
        }

        waiting_kept : HasKept H (beside_protocol y.reclamation.words Away c) T looked_actions L
        waiting_kept = grind (arith, common_steps, away, idle_kept, looked_plain, looked_nothing)

        spent_kept : c.least ≤ stage / 2
            → HasKept H (beside_protocol y.reclamation.words Away (record c { least = stage / 2 }))
            T looked_actions L
        spent_kept more =
            let c' : Core E = record c { least = stage / 2 } in
            let pins_same = put_is p Away y.reclamation.pins away in
            let fits = subst (Fits (slice_index y.bases) V frames c) rests part.fits in
            record {
              V = V;
              frames = frames;
              kept = record {
                hears = k.hears;
                reached = subst (λ v. Reached z (record {
                  words = y.reclamation.words;
                  pins = v;
                  reclaimer = y.reclamation.reclaimer;
                }) T) (sym pins_same) k.reached;
                sending = bus.spends X P laws x ok width V y.home y.senders y.owners frames
                    k.sending p c c' (put p (Some c') y.senders) old
                    (put_here p (Some c') y.senders) (put_beside p (Some c') y.senders) rests rests
                    more
                    record {
                      layout = part.layout;
                      me = part.me;
                      below = part.below;
                      sender = part.sender;
                      limit = part.limit;
                      queue = part.queue;
                      fits = subst (Fits (slice_index y.bases) V frames c') (sym rests) fits;
                    };
                log_is = k.log_is;
                W = k.W;
                floor = k.floor;
                floors = k.floors;
                stored = stored_put V refl c' (λ t page stored b e.
                    absurd (resting_no_holding t page stored b (sym rests ∙ e)));
                laid = laid_quiet x rows y.reclamation (record {
                  words = y.reclamation.words;
                  pins = put p Away y.reclamation.pins;
                  reclaimer = y.reclamation.reclaimer;
                }) V k.W (quiet_same x rows y.reclamation (record {
                  words = y.reclamation.words;
                  pins = put p Away y.reclamation.pins;
                  reclaimer = y.reclamation.reclaimer;
                }) refl refl) k.laid;
                ties = tied_put V c' looked (λ q a b. refl)
                    (let a = ap (next_at c) rests in let b = ap (next_at c') rests in omega arith)
                    (λ t e i. i) looked_plain;
                notes = noted_as c' looked looked_nothing
                    (ap (waiting_at c') rests ∙ sym (ap (waiting_at c) rests)) (λ m i. i);
                participants = participants_on Away c'
                    (rested_participant Away c' rests (λ t i. cc)
                    (λ t i. absurd (elim i [ inl a ↦ cc | inr a ↦ cc ])));
                ready = k.ready;
              };
            }

        enters_kept : c.least ≤ stage / 2 → stage / 2 < x.rows
            → HasKept H (beside_protocol y.reclamation.words (Announcing (stage / 2)) c) T
            looked_actions L
        enters_kept more room =
            let t : ℕ = stage / 2 in
            let reclamation' : Reclamation = record {
              words = y.reclamation.words;
              pins = put p (Announcing t) y.reclamation.pins;
              reclaimer = y.reclamation.reclaimer;
            } in
            record {
              V = V;
              frames = frames;
              kept = record {
                hears = k.hears;
                reached = Then y.reclamation reclamation' T T k.reached
                    (Begins y.reclamation T p t part.below away);
                sending = subst (λ s. Sending (slice_index y.bases) P x V y.home s y.owners frames)
                    (sym (put_is p (Some c) y.senders old)) k.sending;
                log_is = k.log_is;
                W = k.W;
                floor = k.floor;
                floors = k.floors;
                stored = stored_put V refl c (λ t page stored b e. e);
                laid = laid_quiet x rows y.reclamation reclamation' V k.W
                    (quiet_same x rows y.reclamation reclamation' refl refl) k.laid;
                ties = tied_put V c looked (λ q a b. refl) (omega arith) (λ u e i. i) looked_plain;
                notes = noted_as c looked looked_nothing refl (λ m i. i);
                participants = participants_on (Announcing t) c
                    (rested_participant (Announcing t) c rests (λ u i. cc) (λ u i. elim i [
                      | inl a ↦ grind (arith, common_steps, announcing_is)
                      | inr a ↦ absurd cc
                    ]));
                ready = k.ready;
              };
            }

        pub looks_kept : HasKept H (protocol_after_going X x rows y p c LooksAtStage word) T
            looked_actions L
        looks_kept = grind (arith, common_steps, put_same, by_waits)
          where
            by_room : (b : Bool) → nat_le c.layout.rows (stage / 2) ≡ b → waits c stage ≡ false
                → HasKept H (beside_protocol y.reclamation.words
                (cond b Away (Announcing (stage / 2))) (cond b (record c { least = stage / 2 }) c))
                T looked_actions L
            by_room true e w = spent_kept (open_stage c stage w).1
            by_room false e w = enters_kept (open_stage c stage w).1
                (let a = leb-false c.layout.rows (stage / 2) e in
                let b = ap (λ (l : Layout). l.rows) part.layout in omega arith)

            by_waits : (b : Bool) → waits c stage ≡ b
                → HasKept H (beside_protocol y.reclamation.words
                (cond b Away
                (cond (nat_le c.layout.rows (stage / 2)) Away (Announcing (stage / 2))))
                (cond b c
                (cond (nat_le c.layout.rows (stage / 2)) (record c { least = stage / 2 }) c))) T
                looked_actions L
            by_waits true e = waiting_kept
            by_waits false e = by_room (nat_le c.layout.rows (stage / 2)) refl e

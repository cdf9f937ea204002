-- Whatever senders do whose rows are used again, it is as if each tenure had a row for itself.
use Rattle.std.proofs.Common.{◌≡◌, inl, inr, ℕ, zero, suc, ◌+◌, ◌-◌, ◌*◌, ◌%◌, ◌<◌, ◌≤◌, Bool}
use Rattle.std.proofs.Common.{true, false, cond, nat_lt, Option, Some, None, List, [], ◌∷◌, ◌++◌}
use Rattle.std.proofs.Common.{is_some, length, map, slice_index, arith, refl, sym, ◌∙◌, ap, subst}
use Rattle.std.proofs.lemmas.Bool.{cases_eq, ltb-true, true≢false}
use Rattle.std.proofs.lemmas.Option.{same_Some}
use Rattle.bus_register.specs.declared.kinds.Kind.TheVariants as kind
use Rattle.bus_register.specs.declared.registers.Op.{Op}
use Rattle.bus_register.specs.declared.registers.SenderNo.{SenderNo}
use Rattle.bus_register.specs.Words.{register}
use Rattle.bus_register.specs.Tables.{put, of_some}
use Rattle.bus_register.specs.Private.TableLaws.{put_here, put_beside}
use Rattle.bus_register.specs.Protocol.{Protocol, Laws, inputs, outputs}
use Rattle.bus_batch.specs.Batches.{Pending, next_of}
use Rattle.bus_batch.specs.declared.batches.Phase.TheVariants.{Marking}
use Rattle.bus_batch.specs.declared.messages.Mark.TheVariants as mark
use Rattle.bus_batch.specs.Frames.{Frame, Leaves, order_of, tenure_and_owner}
use Rattle.bus_deliverylog.specs.Orders.{of_sender}
use Rattle.bus_deliverylog.specs.Receiving.{Receiving, with_leave, receiving_op, leaving_op}
use Rattle.bus_deliverylog.specs.declared.receiving.RecvTurn.{RecvTurn}
use Rattle.bus_ownerbits.specs.OneOwner.{OneOwner}
use Rattle.bus_presence.specs.declared.pins.Pin.{Pin}
use Rattle.bus_presence.specs.declared.pins.Pin.TheVariants.{Away, Pinned}
use Rattle.bus_presence.specs.Pins.{step_at}
use Rattle.bus_presence.specs.Reclaimers.{Reclaiming, reclaim_op}
use Rattle.bus_presence.specs.Reclamation.{ReclamationSizes, Trails, no_trails, presence_at, row_of}
use Rattle.bus_presence.specs.Reclamation.{Reached, New}
use Rattle.bus_presence.proofs.ReclaimerLaws.{keeps}
use Rattle.bus_presence.proofs.ReclamationLaws.{safe}
use Rattle.bus_tenure.specs.Core.{Core, Election, Layout, row_at, log_at, frame_len, has_room}
use Rattle.bus_tenure.specs.Situations.{Situation, IsClosed, IsIdle, IsSpent, LooksAtStage, Elects}
use Rattle.bus_tenure.specs.Situations.{TakesPage, AwaitsPage, StoresWord, StoresLength, GivesBack}
use Rattle.bus_tenure.specs.Situations.{HasHanded, situation_of, situation_at, line_of}
use Rattle.bus_tenure.specs.declared.pages.Page.{Page}
use Rattle.bus_tenure.specs.declared.phases.Reason.{Reason}
use Rattle.bus_tenure.specs.declared.phases.Reason.TheVariants.{NoRoom}
use Rattle.bus_tenure.specs.declared.phases.Phase.TheVariants as phase
use Rattle.bus_tenure.specs.declared.turns.Turn.{Turn as Answered}
use Rattle.bus_tenure.proofs.Situated.{tells}
use Rattle.bus_world.specs.World.{IsLayout, first_page, RecvDoes}
use Rattle.bus_world.specs.Private.Sending.{Fits, Sending, standing_of, least_of, stands_at}
use Rattle.bus_core.specs.Private.Bridge.{publishes_of}
use Rattle.bus_core.specs.Reusing.Participants.{sizes_with, log_from}
use Rattle.bus_core.specs.Private.ParticipantTable.{Due, Reads, reclaim_due, passed_due}
use Rattle.bus_core.specs.Private.ParticipantTable.{due_reclaimed}
use Rattle.bus_core.specs.Private.ParticipantTable.{due_home, due_passed, due_beside}
use Rattle.bus_core.specs.Reusing.Passing.{passing_left}
use Rattle.bus_core.specs.declared.reuses.Passing.{Passing}
use Rattle.bus_world.specs.Private.Machines.{can_put, can_close}
use Rattle.bus_world.specs.Private.CyclicProtocols.{CyclicProtocol, IsNewProtocol, Led, NewProtocol}
use Rattle.bus_world.specs.Private.CyclicProtocols.{Turned, PutIn, MarkedIn, Heard, LeftFor}
use Rattle.bus_world.specs.Private.CyclicProtocols.{Forked, Copied}
use Rattle.bus_world.specs.Private.CyclicProtocols.{going_actions, due_actions, due_in}
use Rattle.bus_world.specs.Private.CyclicProtocols.{protocol_reclaimed}
use Rattle.bus_world.specs.Private.CyclicProtocols.{protocol_after_going, protocol_after}
use Rattle.bus_world.specs.Private.CyclicProtocols.{protocol_heard}
use Rattle.bus_world.specs.Private.CyclicProtocols.{trails_with}
use Rattle.bus_world.specs.Trails.{no_answers, answers_with, actions_with, no_actions}
use Rattle.bus_world.proofs.Accepting.{Accepted, Puts, Asks, AreAccepted, accept, grows}
use Rattle.bus_world.proofs.Beginning.{new_sending, bases_low}
use Rattle.bus_world.proofs.BusLaws as bus
use Rattle.bus_world.proofs.TenuresLaws as tenures
use Rattle.bus_world.specs.Headline.{Action, HasPut, HasMarked, Took, IsPrefix, Asked}
use Rattle.bus_world.specs.Log.{words_read_from}
use Rattle.bus_world.proofs.WorldLaws.{counted_at}
use Rattle.bus_core.specs.Reusing.Passing.{passing_begun}
use Rattle.bus_world.proofs.FloorLaws.{floors_new}
use Rattle.bus_world.specs.Floors.{AreFloors}
use Rattle.bus_world.proofs.FrameOwners.{owner_took, rise}
use Rattle.bus_world.proofs.Framing.{framed, entry_of, has_left, gone_for_good, last_frame}
use Rattle.std.proofs.lemmas.List.{append-nil, map-append}
use Rattle.std.proofs.lemmas.Grind.{common_steps}
use Rattle.bus_world.proofs.Tying.{Tables}
use Rattle.bus_world.proofs.TableTrails.{IsPlain, plain_none, plain_put, plain_mark}
use Rattle.bus_world.proofs.TurnTrails.{TiesOf, batch_tied}
use Rattle.bus_world.specs.Private.KeptProtocols.{IsKeptProtocol}
use Rattle.bus_world.proofs.Waiting.{log_with, log_more, waiting_of}
use Rattle.bus_world.proofs.Asking.{open_no_marking}
use Rattle.bus_world.proofs.PutLaws.{nothing_left}
use Rattle.bus_world.proofs.HearTrails.{delivered_to, heads_to, silent_to}
use Rattle.bus_world.proofs.CyclicProtocolHears.{all_new, turn_hears, one_hears, one_leaves}
use Rattle.bus_world.proofs.CyclicProtocolHears.{told_in}
use Rattle.bus_world.proofs.CyclicProtocolNotes.{sent_by, IsNoted, noted_put, noted_mark}
use Rattle.bus_world.proofs.CyclicProtocolNotes.{nothing_put}
use Rattle.bus_world.proofs.RingWords.{found_there, found_straight}
use Rattle.bus_world.proofs.LogLaws.{length-logged, index-read}
use Rattle.bus_world.proofs.ReceiverSteps.{found_length, found_word}
use Rattle.bus_world.proofs.Places.{none_in}
use Rattle.bus_world.proofs.PlacedSteps.{passes}
use Rattle.bus_world.proofs.CyclicProtocolKept as kept
use Rattle.bus_world.proofs.CyclicProtocolKept.{resting_no_holding}
use Rattle.bus_world.proofs.CyclicProtocolPins.{pin_kept, idle_kept, looks_kept}
use Rattle.bus_world.proofs.CyclicProtocolElections.{elects_kept, takes_kept}
use Rattle.bus_world.proofs.CyclicProtocolHolders.{stores_unpublished, tells_unpublished}
use Rattle.bus_world.proofs.CyclicProtocolHolders.{lacks_unpublished}
use Rattle.bus_world.proofs.CyclicProtocolHolders.{reclaimer_kept, stores_kept, tells_kept}
use Rattle.bus_world.proofs.CyclicProtocolHolders.{gives_kept}
use Rattle.bus_world.proofs.CyclicProtocolReads.{reads_kept}
use Rattle.bus_world.proofs.CyclicProtocolJoins as joins
use Rattle.bus_world.proofs.CyclicProtocolPasses as receivers

owner_of : (o : Option ℕ) → is_some o ≡ true → (u : ℕ) × (o ≡ Some u)
owner_of None i = absurd (true≢false (sym i))
owner_of (Some u) i = (u, refl)

module _ {E : Type 0} (X : Election E) (P : Protocol E (Unit {0}) ℕ)
    (laws : Laws X.op X.fed P OneOwner) (x : Layout) (ok : IsLayout x)
    (width : x.width ≡ P.width x.senders)
    (starts : (n me at : ℕ) → X.started n me x.rounds at ≡ P.started n me tt at)
    (owner_is : (e : E) → X.owner e ≡ P.output e)
    (named : (e : E) (word : ℕ) → is_some (X.kind_of e) ≡ is_some (X.op e word))
    (announces : (e : E) → P.has_begun e ≡ false → X.kind_of e ≡ Some kind.Announce)
    (apart : (e : E) → X.kind_of e ≡ Some kind.TakePage → ⊥)
    (rows : ℕ) (two : 2 ≤ rows) where
  abbrev z : ReclamationSizes
  z = sizes_with x rows

  abbrev IsParticipant : Pin → Core E → Type 0
  IsParticipant =
      kept.IsParticipant X P laws x ok width starts owner_is named announces apart rows two

  abbrev Kept : (ℕ → List RecvTurn) → CyclicProtocol E → Trails → (ℕ → List Action) → List ℕ
      → (ℕ → ℕ) → List Frame → Type 0
  Kept = kept.Kept X P laws x ok width starts owner_is named announces apart rows two

  abbrev HasKept : (ℕ → List RecvTurn) → CyclicProtocol E → Trails → (ℕ → List Action)
      → List ℕ → Type 0
  HasKept = kept.HasKept X P laws x ok width starts owner_is named announces apart rows two

  module _ (H : ℕ → List RecvTurn) (y : CyclicProtocol E) (T : Trails) (D : ℕ → List Action)
      (L : List ℕ) (V : ℕ → ℕ) (frames : List Frame) (k : Kept H y T D L V frames) (p : ℕ)
      (c : Core E) (old : y.senders p ≡ Some c) where
    open kept.turn_facts X P laws x ok width starts owner_is named announces apart rows two H y T D
        L
        V frames k p c old use {part, participant, stored_put, noted_as}

    module _ (word : ℕ) (answer : Answered)
        (free : step_at (y.reclamation.pins p) (presence_at z p) 1 ≡ None) where
      -- ---- any situation
      goes_kept : (zz : Situation E) → situation_of X c ≡ zz
          → ((t : ℕ) (page : Page) (reason : Reason) → zz ≡ GivesBack t page reason
          → (s : Reclaiming) → y.reclamation.reclaimer ≡ Some s → reclaim_op s ≡ None)
          → HasKept H (protocol_after_going X x rows y p c zz word) T
          (actions_with p (going_actions X x rows y c zz word answer) D)
          (log_with (line_of X c zz).publishes L)
      goes_kept IsClosed at protocol_reclaimed = idle_kept X P laws x ok width starts owner_is named
          announces apart rows two H y T D L V frames k p c old word answer free [] plain_none
          nothing_put
      goes_kept IsIdle at protocol_reclaimed = idle_kept X P laws x ok width starts owner_is named
          announces apart rows two H y T D L V frames k p c old word answer free [] plain_none
          nothing_put
      goes_kept IsSpent at protocol_reclaimed = idle_kept X P laws x ok width starts owner_is named
          announces apart rows two H y T D L V frames k p c old word answer free [] plain_none
          nothing_put
      goes_kept LooksAtStage at protocol_reclaimed =
          let rests = tells X c LooksAtStage at in
          looks_kept X P laws x ok width starts owner_is named announces apart rows two H y T D L V
          frames k p c old word answer free rests (sym (ap (situation_at X c) rests) ∙ at)
      goes_kept (Elects t e) at protocol_reclaimed =
          let f = tells X c (Elects t e) at in
          elects_kept X P laws x ok width starts owner_is named announces apart rows two H y T D L V
          frames k p c old word answer free t e at f.0 f.1
      goes_kept (TakesPage t) at protocol_reclaimed =
          let f = tells X c (TakesPage t) at in
          let o = owner_of (X.owner f.0) f.2 in
          takes_kept X P laws x ok width starts owner_is named announces apart rows two H y T D L V
          frames k p c old word answer free t f.0 at f.1 o.0 o.1
      goes_kept (AwaitsPage t) at protocol_reclaimed = absurd
          (subst (Fits (slice_index y.bases) V frames c) (tells X c (AwaitsPage t) at) part.fits)
      goes_kept (StoresWord t page stored) at protocol_reclaimed =
          let f = tells X c (StoresWord t page stored) at in
          stores_kept X P laws x ok width starts owner_is named announces apart rows two H y T D L V
          frames k p c old word answer free t page stored f.0 f.1
          (stores_unpublished t page stored f.0 page.ended
          (has_room c page) (nat_lt stored (frame_len c)) (sym (ap (situation_at X c) f.1) ∙ at)) at
      goes_kept (StoresLength t page stored) at protocol_reclaimed =
          let f = tells X c (StoresLength t page stored) at in
          tells_kept X P laws x ok width starts owner_is named announces apart rows two H y T D L V
          frames k p c old word answer free t page stored f.0 f.1
          (tells_unpublished t page stored f.0 page.ended
          (has_room c page) (nat_lt stored (frame_len c)) (sym (ap (situation_at X c) f.1) ∙ at)) at
      goes_kept (GivesBack t page reason) at protocol_reclaimed =
          let f = tells X c (GivesBack t page reason) at in
          gives_kept X P laws x ok width starts owner_is named announces apart rows two H y T D L V
          frames k p c old word answer free t page f.0 f.1 f.2 reason at
          (protocol_reclaimed t page reason refl)
      goes_kept (HasHanded t reason) at protocol_reclaimed = grind (arith, slice_index, tells)

    -- ---- any turn
    abbrev KeptDue : ℕ → Answered → Due E → Type 0
    KeptDue word answer d = HasKept H (protocol_after X x rows y p c d word) (trails_with y p d T)
        (actions_with p (due_actions X x rows y c d word answer) D)
        (log_with (publishes_of X c d) L)

    turn_kept : (word : ℕ) (answer : Answered) → KeptDue word answer (due_in X x rows y p c)
    turn_kept word answer = by_pin (step_at (y.reclamation.pins p) (presence_at z p) 1) refl
      where
        same_reclaimer : (zz : Situation E) (s : Reclaiming)
            → reclaim_due zz y.reclamation.reclaimer ≡ Some s → y.reclamation.reclaimer ≡ Some s
        same_reclaimer IsClosed s e = absurd cc
        same_reclaimer IsIdle s e = absurd cc
        same_reclaimer IsSpent s e = absurd cc
        same_reclaimer LooksAtStage s e = absurd cc
        same_reclaimer (Elects t u) s e = absurd cc
        same_reclaimer (TakesPage t) s e = absurd cc
        same_reclaimer (AwaitsPage t) s e = absurd cc
        same_reclaimer (StoresWord t page stored) s e = absurd cc
        same_reclaimer (StoresLength t page stored) s e = absurd cc
        same_reclaimer (GivesBack t page reason) s e = e
        same_reclaimer (HasHanded t reason) s e = absurd cc

        by_step : (s : Reclaiming) → reclaim_due (situation_of X c) y.reclamation.reclaimer ≡ Some s
            → step_at (y.reclamation.pins p) (presence_at z p) 1 ≡ None → (o : Option Op)
            → reclaim_op s ≡ o
            → KeptDue word answer (due_reclaimed s o (situation_of X c))
        by_step s is free (Some o) due =
            reclaimer_kept X P laws x ok width starts owner_is named announces apart rows two H y T
            D L V frames k p c old s o (same_reclaimer (situation_of X c) s is) due
        by_step s is free None due =
            goes_kept word answer free (situation_of X c) refl (λ t page reason e u same.
            let one = same_Some _ _ (sym (same_reclaimer (situation_of X c) s is) ∙ same) in
            ap reclaim_op (sym one) ∙ due)

        by_reclaimer : (s : Option Reclaiming)
            → reclaim_due (situation_of X c) y.reclamation.reclaimer ≡ s
            → step_at (y.reclamation.pins p) (presence_at z p) 1 ≡ None
            → KeptDue word answer (due_home s (situation_of X c))
        by_reclaimer None none free =
            goes_kept word answer free (situation_of X c) refl (λ t page reason e s is.
            absurd (let bad : None ≡ Some s =
            sym none ∙ ap (λ w. reclaim_due w y.reclamation.reclaimer) e ∙ is in
            cc))
        by_reclaimer (Some s) is free = by_step s is free (reclaim_op s) refl

        -- the passed places that are left to load are those that its holder has still to load
        left_is : (b : Bool) → nat_lt y.passing.loaded x.passers ≡ b → (q : Passing)
            → cond b (Some y.passing) None ≡ Some q
            → (y.passing ≡ q) × (y.passing.loaded < x.passers)
        left_is true low q e = (same_Some _ _ e, ltb-true y.passing.loaded x.passers low)
        left_is false past q e = absurd cc

        by_read : (t : ℕ) (q : Passing)
            → passed_due (situation_of X c) (passing_left x.passers y.passing) ≡ Some (t, q)
            → step_at (y.reclamation.pins p) (presence_at z p) 1 ≡ None
            → KeptDue word answer (Reads t q)
        by_read t q due free =
            let lacks = passes (situation_of X c) (passing_left x.passers y.passing) t q due in
            let left = left_is (nat_lt y.passing.loaded x.passers) refl q lacks.same in
            let f = tells X c (GivesBack t lacks.page NoRoom) lacks.is in
            subst (λ l. KeptDue word answer (Reads t l)) left.0
            (reads_kept X P laws x ok width starts owner_is named announces apart rows two H y T D L
            V frames k p c old word answer free t lacks.page f.0 f.1 f.2
            (lacks_unpublished t lacks.page f.0 f.1 lacks.page.ended (has_room c lacks.page)
            (nat_lt f.0 (frame_len c)) (sym (ap (situation_at X c) f.2) ∙ lacks.is)) left.1)

        by_passed : (d : Option (ℕ × Passing))
            → passed_due (situation_of X c) (passing_left x.passers y.passing) ≡ d
            → step_at (y.reclamation.pins p) (presence_at z p) 1 ≡ None
            → KeptDue word answer (due_passed d
            (due_home (reclaim_due (situation_of X c) y.reclamation.reclaimer) (situation_of X c)))
        by_passed None none free =
            by_reclaimer (reclaim_due (situation_of X c) y.reclamation.reclaimer) refl free
        by_passed (Some d) some free = by_read d.0 d.1 some free

        by_pin : (o : Option Op) → step_at (y.reclamation.pins p) (presence_at z p) 1 ≡ o
            → KeptDue word answer (due_beside o (passing_left x.passers y.passing)
            y.reclamation.reclaimer (situation_of X c))
        by_pin (Some o) due = pin_kept X P laws x ok width starts owner_is named announces apart
            rows two H y T D L V frames k p c old o due (y.reclamation.pins p) refl
        by_pin None free = by_passed
            (passed_due (situation_of X c) (passing_left x.passers y.passing)) refl free

    -- ---- what a sender accepts that pins no tenure
    abbrev accepted_actions : Accepted → List Action
    accepted_actions (Puts bytes) =
        cond (can_put c.queue (length bytes)) (HasPut (next_of c.queue) bytes ∷ []) []
    accepted_actions (Asks m) = cond (can_close c.queue) (HasMarked m ∷ []) []

    accept_kept : (a : Accepted) → AreAccepted (a ∷ []) → y.reclamation.pins p ≡ Away
        → HasKept H (record y { senders = put p (Some (accept c a)) y.senders }) T
        (actions_with p (accepted_actions a) D) L
    accept_kept a good away = record {
      V = V;
      frames = frames;
      kept = record {
        hears = k.hears;
        reached = k.reached;
        sending = grows X P laws x ok width V y.home y.owners frames p (a ∷ []) good y.senders
            k.sending c old (put p (Some (accept c a)) y.senders)
            (put_beside p (Some (accept c a)) y.senders) (put_here p (Some (accept c a)) y.senders);
        log_is = k.log_is;
        W = k.W;
        floor = k.floor;
        floors = k.floors;
        stored = stored_put V refl (accept c a) (λ t page stored b e. sym (same_phase a) ∙ e);
        laid = k.laid;
        ties = accepted_ties a;
        notes = accepted_notes a;
        participants = λ q d e. elim (cases_eq q p) [
          | inl i ↦ subst (λ v. IsParticipant v d) (sym (ap y.reclamation.pins i ∙ away)) record {
            pinned = λ t j. absurd cc;
            electing = λ t u j. absurd (
                let phase_is : c.phase ≡ phase.Electing t u =
                sym (same_phase a)
                ∙ ap (λ (w : Core E). w.phase) (same_Some _ _
                (sym (ap (put p (Some (accept c a)) y.senders) i
                ∙ put_here p (Some (accept c a)) y.senders) ∙ e)) ∙ j in
                let stands = participant.electing t u phase_is in
                let bad : Away ≡ Pinned t = sym away ∙ stands in cc);
            announcing = λ t j. absurd (elim j [ inl b ↦ cc | inr b ↦ cc ]);
          }
          | inr ne ↦ k.participants q d (sym (put_beside p (Some (accept c a)) y.senders q ne) ∙ e)
        ];
        ready = k.ready;
      };
    } where
      by_test : (b : Bool) (q : Pending) → (cond b (record c { queue = q }) c).phase ≡ c.phase
      by_test true q = refl
      by_test false q = refl

      same_phase : (a : Accepted) → (accept c a).phase ≡ c.phase
      same_phase (Puts bytes) = by_test (can_put c.queue (length bytes))
          (record c.queue { messages = c.queue.messages ++ bytes ∷ [] })
      same_phase (Asks m) = by_test (can_close c.queue) (record c.queue { phase = Marking m })

      batch_now : (q : Pending) (ds : List Action) → IsPlain ds
          → TiesOf P x V (put p (Some (record c { queue = q })) y.senders) y.owners
          (actions_with p ds D)
      batch_now q ds plain = batch_tied X P laws x ok width starts owner_is named announces apart V
          y.home y.senders y.owners frames k.sending p c old D k.ties V
          (put p (Some (record c { queue = q })) y.senders)
          (put_beside p (Some (record c { queue = q })) y.senders)
          (record c { queue = q }) (put_here p (Some (record c { queue = q })) y.senders) ds refl
          refl plain (λ r. refl)

      by_can : (b : Bool) (q : Pending) (d : Action) → IsPlain (d ∷ [])
          → TiesOf P x V (put p (Some (cond b (record c { queue = q }) c)) y.senders) y.owners
          (actions_with p (cond b (d ∷ []) []) D)
      by_can true q d plain = batch_now q (d ∷ []) plain
      by_can false q d plain = batch_now c.queue [] plain_none

      accepted_notes : (a : Accepted)
          → IsNoted (slice_index y.bases) (put p (Some (accept c a)) y.senders) frames
          (actions_with p (accepted_actions a) D)
      accepted_notes (Puts bytes) = by_put (can_put c.queue (length bytes)) refl
        where
          by_put : (b : Bool) → can_put c.queue (length bytes) ≡ b
              → IsNoted (slice_index y.bases) (put p
              (Some (cond b
              (record c { queue = record c.queue { messages = c.queue.messages ++ bytes ∷ [] } })
              c)) y.senders) frames
              (actions_with p (cond b (HasPut (next_of c.queue) bytes ∷ []) []) D)
          by_put true e = noted_put y.senders frames D k.notes p c old V part.fits part.me bytes e
          by_put false e = noted_as c [] nothing_put refl (λ m i. i)
      accepted_notes (Asks m) = by_mark (can_close c.queue) refl
        where
          by_mark : (b : Bool) → can_close c.queue ≡ b
              → IsNoted (slice_index y.bases) (put p
              (Some (cond b (record c { queue = record c.queue { phase = Marking m } }) c))
              y.senders) frames (actions_with p (cond b (HasMarked m ∷ []) []) D)
          by_mark true e = noted_mark y.senders frames D k.notes p c old V part.fits part.me m e
          by_mark false e = noted_as c [] nothing_put refl (λ k i. i)

      accepted_ties : (a : Accepted)
          → TiesOf P x V (put p (Some (accept c a)) y.senders) y.owners
          (actions_with p (accepted_actions a) D)
      accepted_ties (Puts bytes) = by_can (can_put c.queue (length bytes))
          (record c.queue { messages = c.queue.messages ++ bytes ∷ [] })
          (HasPut (next_of c.queue) bytes) (plain_put (next_of c.queue) bytes)
      accepted_ties (Asks m) = by_can (can_close c.queue) (record c.queue { phase = Marking m })
          (HasMarked m) (plain_mark m)

  -- ---- a new protocol
  nothing_waits : (o : Option (Core E)) → ((c : Core E) → o ≡ Some c → waiting_of (Some c) ≡ [])
      → [] ≡ waiting_of o
  nothing_waits None none = refl
  nothing_waits (Some c) none = sym (none c refl)

  start_tables : (y : CyclicProtocol E) → IsNewProtocol x rows y
      → Tables P x (λ r. 0) y.senders no_actions
  start_tables y new = record {
    elections = λ t p. None;
    kept = λ t l. laws.fresh x.senders (2 + t * P.width x.senders) (λ r. 0) (λ r u v. refl);
    ahead = λ p c t e l. refl;
    electing = λ p c t e i a. absurd
        (bus.resting_apart t e (sym (ap (λ (d : Core E). d.phase) (new.senders p c i).1) ∙ a));
    announced = λ t s e. absurd cc;
    elected = λ t s o e. absurd cc;
    only_elected = λ t s o a. absurd (none_in a.place _ a.at);
  }

  start_kept : (y : CyclicProtocol E) → IsNewProtocol x rows y
      → HasKept no_answers y no_trails no_actions []
  start_kept y new = record {
    V = λ r. 0;
    frames = [];
    kept = record {
      hears = all_new x rows y.receivers new.receivers;
      reached = subst (λ w. Reached z w no_trails) (sym new.reclamation) New;
      sending = subst (λ w. Sending (slice_index y.bases) P x (λ r. 0) w y.senders y.owners [])
          (sym new.home)
          (subst (λ w.
          Sending (slice_index y.bases) P x (λ r. 0) (Some (first_page y.bases)) y.senders w [])
          (sym new.owners)
          (new_sending X P laws x ok y.bases new.bases_are
          (bases_low x y.bases new.bases_are new.ring_bases) (λ r. 0) (λ r. refl) y.senders
          new.senders));
      log_is = refl;
      W = 0;
      floor = 0;
      floors = subst (λ q. AreFloors x rows y.reclamation.words q y.receivers [] 0 0)
          (sym new.passing)
          (subst (λ w. AreFloors x rows w.words passing_begun y.receivers [] 0 0)
          (sym new.reclamation)
          (floors_new x rows (λ r. 0) (λ r. refl) y.receivers (λ r v e.
          let n = new.receivers r v e in (n.passed_is, new.many r v e, n.unpassed, n.stays))));
      stored = grind (arith, common_steps, resting_no_holding, same_Some);
      laid = grind (arith, common_steps, length);
      ties = grind (arith, common_steps, start_tables, none_in);
      notes = grind (arith, common_steps, nothing_waits, waiting_of, none_in, open_no_marking);
      participants = λ p c e. grind (arith, common_steps, bus.resting_apart);
      ready = λ t held none. grind (arith, common_steps);
    };
  }

  -- ---- a turn of a receiver
  heard_kept : (H : ℕ → List RecvTurn) (y : CyclicProtocol E) (T : Trails) (D : ℕ → List Action)
      (L : List ℕ) → HasKept H y T D L → (r : ℕ) (v next : Receiving) (answer : RecvTurn)
      → y.receivers r ≡ Some v → v.gone ≡ false → RecvDoes y.reclamation.words v answer next
      → HasKept (answers_with r answer H) (protocol_heard y r (receiving_op v) next) T D L
  heard_kept H y T D L has r v next answer at stays does =
      let k = has.kept in
      let its = k.floors.each r v at in
      receivers.turn_kept X P laws x ok width starts owner_is named announces apart rows two H
      (answers_with r answer H) y T D L has.V has.frames k r v at stays answer next
      (one_hears x rows has.frames y.receivers H k.hears r v next answer at
      (λ h. turn_hears x rows has.frames y.reclamation.words has.V k.sending.log
      k.laid.length v (λ low. found_there x rows y.reclamation has.V k.W k.floor v.place
      k.laid k.stored.few (let a = its.behind stays in let b = its.past in omega arith)
      (let a = k.stored.low in omega arith)) (H r) h answer next does)) does

  -- ---- a receiver leaves for good
  left_kept : (H : ℕ → List RecvTurn) (y : CyclicProtocol E) (T : Trails) (D : ℕ → List Action)
      (L : List ℕ) → HasKept H y T D L → (r : ℕ) (v : Receiving) → y.receivers r ≡ Some v
      → HasKept H (protocol_heard y r (leaving_op v) (with_leave v)) T D L
  left_kept H y T D L has r v at =
      receivers.leave_kept X P laws x ok width starts owner_is named announces apart rows two H
      H y T D L has.V has.frames has.kept r v at
      (one_leaves x rows has.frames y.receivers H has.kept.hears r v at)

  -- ---- whatever happens
  pub led_kept : (H : ℕ → List RecvTurn) (y : CyclicProtocol E) (T : Trails) (D : ℕ → List Action)
      (L : List ℕ) → Led X x rows y T D H L → HasKept H y T D L
  led_kept H y T D L (NewProtocol w new) = start_kept w new
  led_kept H y T D L (Turned w U F J M p c word answer before old told) =
      let k = led_kept J w U F M before in
      let d = due_in X x rows w p c in
      subst (HasKept J (protocol_after X x rows w p c d word) (trails_with w p d U)
      (actions_with p (due_actions X x rows w c d word answer) F)) (log_more (publishes_of X c d) M)
      (turn_kept J w U F M k.V k.frames k.kept p c old word answer)
  led_kept H y T D L (PutIn w U F J M p c bytes before old away small) =
      let k = led_kept J w U F M before in
      accept_kept J w U F M k.V k.frames k.kept p c old (Puts bytes) (small, tt) away
  led_kept H y T D L (MarkedIn w U F J M p c m before old away) =
      let k = led_kept J w U F M before in
      accept_kept J w U F M k.V k.frames k.kept p c old (Asks m) tt away
  led_kept H y T D L (Heard w U F J M r v next answer before at stays does) =
      heard_kept J w U F M (led_kept J w U F M before) r v next answer at stays does
  led_kept H y T D L (LeftFor w U F J M r v before at stays) =
      left_kept J w U F M (led_kept J w U F M before) r v at
  led_kept H y T D L (Forked w U F J M i j n v u before at stays was gone up room nobody silent) =
      let k = led_kept J w U F M before in
      joins.fork_kept X P laws x ok width starts owner_is named announces apart rows two J w U F M
      k.V k.frames k.kept j n u was nobody i v at stays up room
  led_kept H y T D L (Copied w U F J M i j n v u before flat at stays was nobody silent) =
      let k = led_kept J w U F M before in
      joins.copy_kept X P laws x ok width starts owner_is named announces apart rows two J w U F M
      k.V k.frames k.kept j n u was nobody flat i v at

  -- ---- what is promised
  above_it : (a k w : ℕ) → k < w → (a ≤ a + k) × (a + k < a + w)
  above_it a k w l = ((omega arith), (omega arith))

  pub words_read : (n : ℕ) (w v : ℕ → ℕ) (a b : ℕ) → ((j : ℕ) → j < n → w (a + j) ≡ v (b + j))
      → words_read_from w a n ≡ words_read_from v b n
  words_read zero w v a b same = refl
  words_read (suc n) w v a b same =
      ap (λ r. r ++ w (a + n) ∷ []) (words_read n w v a b (λ j l. same j (omega arith)))
      ∙ ap (λ r. words_read_from v b n ++ r ∷ []) (same n (omega arith))

  pub protocol_promised :
      (y : CyclicProtocol E) (T : Trails) (D : ℕ → List Action) (H : ℕ → List RecvTurn)
      (L : List ℕ) → Led X x rows y T D H L → IsKeptProtocol X x rows y T D H L
  protocol_promised y T D H L led =
      let k = led_kept H y T D L led in
      let h = k.kept in
      let lawful = h.sending.log.lawful in
      let tables = h.ties.tables in
      let takers = h.ties.takers in
      let told = told_in x rows y.receivers k.frames H h.hears in
      let long : length L ≡ k.V 0 = sym (ap length h.log_is) ∙ length-logged h.sending.log in
      let one : (t : ℕ) → t < x.rows
      → OneOwner (inputs P (tables.elections t)) (outputs P (tables.elections t)) = λ t l.
      laws.outcome x.senders (2 + t * P.width x.senders) k.V (tables.elections t)
      (tables.kept t l) in
      let stands : (place : ℕ) → h.floor ≤ place → place < length L
      → y.reclamation.words (log_from x rows + place % x.capacity) ≡ slice_index L place =
      λ place past below. (let w = h.stored.low in
      found_there x rows y.reclamation k.V h.W h.floor place h.laid h.stored.few past
      (let a = long in omega arith)
      ∙ sym (index-read k.V (log_at x) (k.V 0) place (let a = long in omega arith))
      ∙ ap (λ ws. slice_index ws place) (h.sending.log.words_are ∙ h.log_is)) in
      record {
        order = order_of k.frames;
        owners = map tenure_and_owner k.frames;
        floor = h.floor;
        by = record {
          reached = h.reached;
          safe = safe z two y.reclamation T (keeps z two y.reclamation T h.reached);
          ready = h.ready;
          stands = λ p c t e old elects.
              (safe z two y.reclamation T (keeps z two y.reclamation T h.reached)).stands p t
              ((h.participants p c old).electing t e elects);
          within = λ p c t e word o old elects next.
              let part = h.sending.parts p c old in
              let b = tenures.within_its_row X.op X.fed P laws x.senders x.rows 2 k.V (k.V 1)
              (is_some y.home) (λ q. of_some standing_of (y.senders q))
              (λ q. least_of (y.senders q)) y.owners h.sending.tenures p t e word o
              (ap (of_some standing_of) old ∙ ap (λ w. Some (stands_at w)) elects) next in
              let w = ap (λ n. t * n) width in
              above_it (row_of z t) (register o - row_at x t) x.width
              (let l = b.1 in let m = b.2 in omega arith);
          takers = record { took = takers.took; only = takers.only };
          spelled = record {
            frames = k.frames;
            lawful = lawful;
            words_are = h.log_is;
            order_is = refl;
            owners_are = refl;
          };
          few = h.sending.log.few;
          ring = grind (arith, common_steps, length-logged, length);
          floor_home = h.stored.floor_home;
          floor_held = h.stored.floor_held;
          waits = λ r v at stays. grind (arith, common_steps);
          finds = λ r v at stays.
              let its = h.floors.each r v at in
              let hears = h.hears.each r v at in (
                λ here.
                    found_length y.reclamation.words v here
                    ∙ ap y.reclamation.words hears.own.len_at
                    ∙ h.laid.length ∙ sym long,
                λ apart.
                    let low : v.place < length L =
                    (let a = hears.own.receives.place_below in
                    let b = hears.own.receives.known_below in
                    let c = ap length h.log_is in omega arith) in (
                      low,
                      found_word y.reclamation.words v apart
                          ∙ ap (λ n. y.reclamation.words (n + v.place % v.log_words)) hears.log
                          ∙ ap (λ n. y.reclamation.words (log_from x rows + v.place % n))
                          hears.own.log_words
                          ∙ stands v.place
                          (let a = its.behind stays in let b = its.past in omega arith)
                          low,
                    ),
              );
          believes = λ r v at stays.
              let most = h.stored.low in
              let room = h.stored.few in
              let behind = (h.floors.each r v at).behind stays in
              let words = (h.hears.each r v at).own.log_words in
              let first = h.laid.length in omega arith;
          comes = λ r v at stays low. grind (arith, common_steps);
          shows = λ flat.
              ap (words_read_from y.reclamation.words (log_from x rows)) h.laid.length
              ∙ words_read (k.V 0) y.reclamation.words k.V (log_from x rows) (log_at x)
              (λ j l. found_straight x rows y.reclamation k.V h.W j h.laid
              (let a = h.stored.few in let b = h.floors.none flat in omega arith)
              (let a = h.stored.low in omega arith)) ∙ h.sending.log.words_are ∙ h.log_is;
          promises = record {
            one_owner = λ t s s' o o' e f.
                let a = tables.only_elected t s o e in
                let d = tables.only_elected t s' o' f in (one t a.0).equal s s' o o' a.1 d.1;
            announced = λ t s o e.
                let a = tables.only_elected t s o e in
                tables.announced t o ((one t a.0).announcer s o a.1);
            took_own = λ t s i a. takers.elected t s (takers.only t s i a);
            took_once = λ t s s' i i' a d.
                let same : s ≡ s' =
                same_Some _ _ (sym (takers.only t s i a) ∙ takers.only t s' i' d) in
                (same, takers.once t s i i' a (subst (λ w. Took (D w) t i') (sym same) d));
            owned =
                λ j t o e. takers.took t o.0 (owner_took y.owners k.frames h.sending.owned j t o e);
            rising = λ i j t u o p e g l. rise x.senders 0 k.frames lawful i j t u o p e g l;
            framed = framed x.senders 0 k.frames lawful;
            delivered = λ r. delivered_to x.senders k.frames lawful (told r).0 (H r) (told r).1;
            told = λ r. heads_to k.frames (told r).0 (H r) (told r).1;
            faithful = record {
              numbered = λ s q i e. counted_at (slice_index y.bases s)
                  (of_sender s (order_of k.frames)) q i (h.sending.log.counted s) e;
              messages = λ s. subst (IsPrefix (sent_by k.frames s)) (sym (h.notes.put s))
                  (record { rest = waiting_of (y.senders s); together = refl });
            };
            numbered = h.notes.counted;
            silent = λ r. silent_to k.frames (told r).0 (H r) (told r).1;
            closed = λ e.
                let l = last_frame x.senders 0 k.frames lawful e in
                record {
                  front = map tenure_and_owner l.front;
                  tenure = l.frame.tenure;
                  owner = l.frame.owner;
                  last = grind (arith, common_steps, map, map-append);
                  closed = h.notes.askings.logged l.place l.frame mark.End l.at l.ends;
                };
            gone = gone_for_good x.senders 0 k.frames lawful;
            asked = λ s q at.
                let r = entry_of k.frames q (Leaves s) at in
                subst (λ (w : SenderNo). Asked mark.Leave (D w.0)) (sym r.own)
                (h.notes.askings.logged r.place r.frame mark.Leave r.at (r.left s refl));
            whole = λ s q at.
                let waits = nothing_left x k.V k.frames y.senders h.sending.parts s.0
                (has_left k.frames q s at) in
                sym (h.notes.put s.0 ∙ ap (λ w. sent_by k.frames s.0 ++ w) waits
                ∙ append-nil (sent_by k.frames s.0));
          };
        };
      }

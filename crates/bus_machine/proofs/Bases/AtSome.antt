-- With rows that are used again what happens to the machine happens to its protocol, and what leads
-- to it leads to that.
use Rattle.std.proofs.Common.{◌≡◌, ℕ, ◌+◌, ◌<◌, ◌≤◌, List, [], ◌∷◌, ◌++◌, Option, Some, None, Bool}
use Rattle.std.proofs.Common.{true, false, cond, slice_get, slice_set, slice_index, nat_lt, refl}
use Rattle.std.proofs.Common.{sym, ◌∙◌, ap, subst, arith, ◌⊎◌, inl, inr}
use Rattle.std.specs.Prelude.{replicate, length}
use Rattle.std.proofs.lemmas.List.{length-replicate}
use Rattle.std.proofs.lemmas.Option.{same_Some, slice_get_within}
use Rattle.std.proofs.lemmas.Grind.{common_steps}
use Rattle.bus_register.specs.Protocol.{Protocol}
use Rattle.bus_register.specs.Tables.{put}
use Rattle.bus_register.specs.Words.{register}
use Rattle.bus_register.specs.declared.registers.Op.{Op}
use Rattle.bus_register.specs.declared.registers.Op.TheVariants.{Load, Store}
use Rattle.bus_batch.specs.Batches.{next_of, CanPut, CanClose}
use Rattle.bus_batch.specs.declared.batches.Phase.TheVariants.{Marking}
use Rattle.bus_batch.specs.declared.messages.Mark.{Mark}
use Rattle.bus_deliverylog.specs.Receiving.{Receiving, with_leave, receiving_op, leaving_op}
use Rattle.bus_deliverylog.specs.Receiving.{joining_by, forked_at}
use Rattle.bus_core.proofs.Bridged.{at_some}
use Rattle.bus_core.specs.Reusing.Passing.{passing_begun}
use Rattle.bus_core.specs.declared.reuses.Passing.{Passing}
use Rattle.bus_core.specs.Keeping.{new_sender, queue_of}
use Rattle.bus_core.specs.Private.Bridge.{move_of, with_rows_again}
use Rattle.bus_core.specs.Senders.{Sender, Situation, Does, Scans, Clears, ReadsPassed, situation}
use Rattle.bus_core.specs.Senders.{at_home, pinning, passing as first_passed, reclaiming}
use Rattle.bus_core.specs.Table.{line, line_now}
use Rattle.bus_core.specs.Reusing.Participants.{log_from}
use Rattle.bus_core.specs.Private.ParticipantTable.{Due, Goes, Reads, place_for, passed_op}
use Rattle.bus_core.specs.Private.ParticipantTable.{due_beside, due_passed, due_home, due_reclaimed}
use Rattle.bus_core.specs.Private.ParticipantTable.{passed_due, lacking, reclaim_due}
use Rattle.bus_core.specs.Reusing.Turns.{Participant, sizes_of, queue_seen}
use Rattle.bus_core.specs.Private.ParticipantTurns.{due, op_due, participant_due, answer_due}
use Rattle.bus_presence.proofs.ReclamationKept.{lt_tells}
use Rattle.bus_presence.specs.Reclamation.{presence_at}
use Rattle.bus_presence.specs.Reclaimers.{Reclaiming}
use Rattle.bus_presence.specs.Pins.{step_at}
use Rattle.bus_presence.specs.declared.pins.Pin.{Pin}
use Rattle.bus_presence.specs.declared.pins.Pin.TheVariants.{Away, Announcing, Validating, Pinned}
use Rattle.bus_presence.specs.declared.pins.Pin.TheVariants.{Unpinning, Invalidated}
use Rattle.bus_tenure.specs.Core.{Core, Election, stage_at}
use Rattle.bus_tenure.specs.Situations.{Situation as Own, IsClosed, IsIdle, IsSpent, LooksAtStage}
use Rattle.bus_tenure.specs.Situations.{Elects, TakesPage, AwaitsPage, StoresWord, StoresLength}
use Rattle.bus_tenure.specs.Situations.{GivesBack, HasHanded, kind_at}
use Rattle.bus_tenure.specs.Private.LineParts.{tenure_at, chosen_at}
use Rattle.bus_tenure.specs.declared.pages.Page.{Page}
use Rattle.bus_tenure.specs.declared.phases.Reason.{Reason}
use Rattle.bus_tenure.specs.declared.phases.Reason.TheVariants.{Sent, FoundEnd, NoRoom}
use Rattle.bus_tenure.specs.declared.turns.Turn.{Turn as Answered}
use Rattle.bus_world.proofs.Beginning.{zeros}
use Rattle.bus_world.proofs.EventTrails.{put_taken, mark_adds}
use Rattle.bus_world.proofs.PlacedSteps.{placed_found}
use Rattle.bus_world.proofs.Serving.{Serves}
use Rattle.bus_world.proofs.Stopping.{shown_there}
use Rattle.bus_world.specs.Starting.{IsNewReceiver}
use Rattle.bus_world.specs.World.{IsLayout, Event, Put, Ask, Turn, Recv, Stop, Gone}
use Rattle.bus_world.specs.Headline.{HasPut, HasMarked}
use Rattle.bus_world.specs.Log.{words_of_frame}
use Rattle.bus_world.specs.Trails.{step_action, actions_with}
use Rattle.bus_world.specs.Turning.{owners_by, words_after, number_found, home_moved, after_step}
use Rattle.bus_world.specs.Private.Machines.{new_core}
use Rattle.bus_world.specs.Private.CyclicProtocols.{CyclicProtocol, Led, NewProtocol, PutIn}
use Rattle.bus_world.specs.Floors.{passed_place, passed_of}
use Rattle.bus_world.specs.Trails.{answers_joined}
use Rattle.bus_world.specs.Private.CyclicProtocols.{MarkedIn, Heard, LeftFor, Forked, Copied}
use Rattle.bus_world.specs.Private.CyclicProtocols.{word_found}
use Rattle.bus_world.specs.Private.CyclicProtocols.{due_actions, trails_with, protocol_heard}
use Rattle.bus_world.specs.Private.CyclicProtocols.{words_stepped}
use Rattle.bus_world.specs.declared.events.Answer.{Answer}
use Rattle.bus_world.specs.declared.events.Answer.TheVariants as answer
use Rattle.bus_machine.proofs.Bases.AtNone.{close_taken, passed_first}
use Rattle.bus_machine.proofs.Bases.CyclicTurns.{protocol_kept, participant_moved, turn_led}
use Rattle.bus_machine.proofs.Bases.CyclicTurns.{batch_led}
use Rattle.bus_machine.proofs.Bases.CyclicTurns.{words_many}
use Rattle.bus_machine.proofs.Bases.ProtocolParts.{list_put, away_puts, away_closes, stepped_words}
use Rattle.bus_machine.proofs.Frames.Joining.{turn_log}
use Rattle.bus_machine.specs.Private.Bridge.{core_in, passing_in, protocol_of, IsLed}
use Rattle.bus_machine.specs.Machine.{Forks, trails_joined, base_of, Machine, Trails, Happens}
use Rattle.bus_machine.specs.Machine.{TakesTurn, TakesPut, TakesMark, StopsNow, Hears}
use Rattle.bus_machine.specs.Machine.{LeavesForGood, IsNew, IsOnWord, no_machine_trails, log_place}
use Rattle.bus_machine.specs.Machine.{owners_told, passed_by, going, with_sender, machine_after}
use Rattle.bus_machine.specs.Machine.{found, turn_answer, turn_trails, trails_grown}
use Rattle.bus_machine.specs.Promise.{pin_in}

module _ {E : Type 0} (X : Election E) where
  action_own : (v : Participant E) (z : Own E) (got word : ℕ) (a : Answered)
      → step_action (line X (with_rows_again v) (Does z)).kind
      (line X (with_rows_again v) (Does z)).tenure got
      ((line X (with_rows_again v) (Does z)).chosen got word) a
      ≡ step_action (kind_at X v.core z) (tenure_at X v.core z) got (chosen_at X v.core z got word)
      a
  action_own v IsClosed got word a = refl
  action_own v IsIdle got word a = refl
  action_own v IsSpent got word a = refl
  action_own v LooksAtStage got word a = refl
  action_own v (Elects t e) got word a = refl
  action_own v (TakesPage t) got word a = refl
  action_own v (AwaitsPage t) got word a = refl
  action_own v (StoresWord t page stored) got word a = refl
  action_own v (StoresLength t page stored) got word a = refl
  action_own v (GivesBack t page reason) got word a = refl
  action_own v (HasHanded t reason) got word a = refl

  -- ---- the trails of a turn
  module _ (m : Machine E) (rows : ℕ) (reclaimer : Option Reclaiming) (passing : Passing)
      (owners : List ℕ) (s word : ℕ) (T : Trails) (a : Answered) where
    abbrev y : CyclicProtocol E
    y = protocol_of m reclaimer passing owners

    -- by the line of this situation, after a step that found this
    abbrev grown_by : Participant E → Situation E → ℕ → Trails
    grown_by v z got = turn_trails z (line X (with_rows_again v) z) s got word a T

    -- what is found at the step that is due
    abbrev got_due : Participant E → Due E → ℕ
    got_due v d = number_found (slice_index m.words) (op_due X v d word)

    -- they grow by what is due
    pub record GrowsBy (v : Participant E) (z : Situation E) (got : ℕ) (d : Due E) : Type 0 where
      pub pins : (grown_by v z got).pins ≡ trails_with y s d T.pins
      pub actions : (grown_by v z got).actions
          ≡ actions_with s (due_actions X m.layout rows y v.core d word a) T.actions
      pub heard : (grown_by v z got).heard ≡ T.heard

    abbrev IsGrown : Participant E → Situation E → Due E → Type 0
    IsGrown v z d = GrowsBy v z (got_due v d) d

    grown_own : (v : Participant E) (z : Own E) → v.core.layout ≡ m.layout → v.rows ≡ rows
        → IsGrown v (Does z) (Goes z)
    grown_own v z i j =
        grind (arith, slice_index, word_found, place_for, placed_found, with_rows_again, action_own)

    grown_reclaimed : (v : Participant E) (r : Reclaiming) (z : Own E) (p q : Bool)
        → v.core.layout ≡ m.layout → v.rows ≡ rows
        → IsGrown v (cond p (Scans r) (cond q (Clears r) (Does z)))
        (due_reclaimed r (cond p (Some (Load record { 0 = r.presences + r.scanned }))
        (cond q (Some (Store record { 0 = r.row + r.cleared } 0)) None)) z)
    grown_reclaimed v r z true q i j = record { pins = refl; actions = refl; heard = refl }
    grown_reclaimed v r z false true i j = record { pins = refl; actions = refl; heard = refl }
    grown_reclaimed v r z false false i j = grown_own v z i j

    grown_reclaiming : (v : Participant E) (r : Option Reclaiming) (z : Own E)
        → v.core.layout ≡ m.layout → v.rows ≡ rows → IsGrown v (reclaiming r z) (due_home r z)
    grown_reclaiming v None z i j = grown_own v z i j
    grown_reclaiming v (Some r) z i j =
        grown_reclaimed v r z (nat_lt r.scanned r.senders) (nat_lt r.cleared r.width) i j

    grown_reads : (v : Participant E) (t : ℕ) (p : Passing) → v.core.layout ≡ m.layout
        → v.rows ≡ rows → IsGrown v (ReadsPassed t p) (Reads t p)
    grown_reads v t p i j = grind (arith, common_steps, slice_index, register, passed_op)

    grown_back : (v : Participant E) (l : Option Passing) (r : Option Reclaiming) (t : ℕ)
        (page : Page) (reason : Reason) → v.core.layout ≡ m.layout → v.rows ≡ rows
        → IsGrown v (first_passed l t reason (reclaiming r (GivesBack t page reason)))
        (due_passed (lacking reason t l) (due_home r (GivesBack t page reason)))
    grown_back v l r t page Sent i j = grown_reclaiming v r (GivesBack t page Sent) i j
    grown_back v l r t page FoundEnd i j = grown_reclaiming v r (GivesBack t page FoundEnd) i j
    grown_back v None r t page NoRoom i j = grown_reclaiming v r (GivesBack t page NoRoom) i j
    grown_back v (Some p) r t page NoRoom i j = grown_reads v t p i j

    grown_home : (v : Participant E) (l : Option Passing) (r : Option Reclaiming) (z : Own E)
        → v.core.layout ≡ m.layout → v.rows ≡ rows
        → IsGrown v (at_home l r z) (due_passed (passed_due z l) (due_home (reclaim_due z r) z))
    grown_home v l r (GivesBack t page reason) i j = grown_back v l r t page reason i j
    grown_home v l r IsClosed i j = grown_own v IsClosed i j
    grown_home v l r IsIdle i j = grown_own v IsIdle i j
    grown_home v l r IsSpent i j = grown_own v IsSpent i j
    grown_home v l r LooksAtStage i j = grown_own v LooksAtStage i j
    grown_home v l r (Elects t e) i j = grown_own v (Elects t e) i j
    grown_home v l r (TakesPage t) i j = grown_own v (TakesPage t) i j
    grown_home v l r (AwaitsPage t) i j = grown_own v (AwaitsPage t) i j
    grown_home v l r (StoresWord t page stored) i j = grown_own v (StoresWord t page stored) i j
    grown_home v l r (StoresLength t page stored) i j = grown_own v (StoresLength t page stored) i j
    grown_home v l r (HasHanded t reason) i j = grown_own v (HasHanded t reason) i j

    grown_pinning : (v : Participant E) (u : Pin) (l : Option Passing) (z : Own E)
        → v.core.layout ≡ m.layout → v.rows ≡ rows
        → IsGrown v (pinning u l v.reclaimer z)
        (due_beside (step_at u (presence_at (sizes_of v) v.core.me) stage_at) l v.reclaimer z)
    grown_pinning v Away l z i j = grown_home v l v.reclaimer z i j
    grown_pinning v (Announcing t) l z i j = record { pins = refl; actions = refl; heard = refl }
    grown_pinning v (Validating t) l z i j = record { pins = refl; actions = refl; heard = refl }
    grown_pinning v (Pinned t) l z i j = grown_home v l v.reclaimer z i j
    grown_pinning v (Unpinning t) l z i j = record { pins = refl; actions = refl; heard = refl }
    grown_pinning v (Invalidated t) l z i j = record { pins = refl; actions = refl; heard = refl }

    pub grown_is : (v : Participant E) → v.core.layout ≡ m.layout → v.rows ≡ rows
        → GrowsBy v (situation X (with_rows_again v))
        (found m (line_now X (with_rows_again v)) word) (due X v)
    grown_is v i j =
        grind (arith, common_steps, with_rows_again, due, slice_index, at_some, grown_pinning)

-- ---- one event
module _ {E : Type 0} (X : Election E) (P : Protocol E (Unit {0}) ℕ) (rows : ℕ) (m : Machine E)
    (T : Trails) (q : Serves X P m.layout) (ok : IsLayout m.layout) (two : 2 ≤ rows)
    (l : IsLed X rows m T) where
  abbrev its_protocol : CyclicProtocol E
  its_protocol = protocol_of m l.reclaimer l.passing l.owners

  abbrev got_by : Participant E → ℕ → ℕ
  got_by v word = number_found (slice_index m.words) (op_due X v (due X v) word)

  abbrev told_after : Participant E → ℕ → ℕ → List ℕ
  told_after v s word = owners_told m.reuse
      (owners_by (turn_answer m (line_now X (with_rows_again v)) word) s m.owners)

  abbrev turned_by : Participant E → ℕ → ℕ → Machine E
  turned_by v s word = record m {
    words = words_after m.words (op_due X v (due X v) word);
    home = home_moved (move_of X v.core (due X v)) m.home;
    senders = slice_set m.senders s
        (with_rows_again (participant_moved (after_step (move_of X v.core (due X v))) m.home
        (participant_due X v (due X v) (got_by v word) word)));
    owners = told_after v s word;
  }

  turn_is : (v : Participant E) (s word : ℕ)
      → machine_after m s (line_now X (with_rows_again v)) word ≡ turned_by v s word
  turn_is v s word =
      grind (arith, with_rows_again, at_some, due, slice_index, op_due, move_of, slice_set)

  answer_is : (v : Participant E) (word : ℕ)
      → turn_answer m (line_now X (with_rows_again v)) word
      ≡ answer_due X v (due X v) (got_by v word) word
  answer_is v word = grind (arith, common_steps, with_rows_again, at_some, slice_index)

  -- a sender that goes on
  record Opened (s : ℕ) (w : Sender E) : Type 0 where
    v : Participant E
    is : w ≡ with_rows_again v
    same_rows : v.rows ≡ rows
    at : slice_get m.senders s ≡ Some (with_rows_again v)

  opened : (s : ℕ) (w : Sender E) → going m s ≡ Some w → Opened s w
  opened s w goes = grind (arith, common_steps, shown_there, slice_get)

  turns : (s word : ℕ) (a : Answer) (m' : Machine E) → TakesTurn X m s word a m'
      → IsLed X rows m' (trails_grown X m (Turn s word) a T)
  turns s word a m' h =
      let o = opened s h.sender h.goes in
      let v = o.v in
      let part =
      (protocol_kept X P rows m T q ok two l).kept.sending.parts s v.core (ap core_in o.at) in
      let i = at_some X v in
      let t = answer_due X v (due X v) (got_by v word) word in
      let told : a ≡ answer.Turn t =
      h.answered ∙ ap (λ w. answer.Turn (turn_answer m (line_now X w) word)) o.is
      ∙ ap answer.Turn (answer_is v word) in
      let g =
      grown_is X m rows l.reclaimer l.passing l.owners s word T t v part.layout o.same_rows in
      let low = subst (IsOnWord m) (i.op word)
      (subst (λ w. IsOnWord m ((line_now X w).op word)) o.is h.within) in
      let U = turn_trails (situation X (with_rows_again v)) (line_now X (with_rows_again v)) s
      (found m (line_now X (with_rows_again v)) word) word t T in
      let led : IsLed X rows (turned_by v s word) U = turn_led X P rows m T q ok two l s v o.at
      o.same_rows word t (told_after v s word) U low refl g.pins g.actions g.heard
      (turn_log (situation X (with_rows_again v)) (line_now X (with_rows_again v)) s
      (found m (line_now X (with_rows_again v)) word) word t T
      ∙ ap (λ f. T.log ++ words_of_frame f) i.publishes) in
      let is : m' ≡ turned_by v s word =
      h.after ∙ ap (λ w. machine_after m s (line_now X w) word) o.is
      ∙ turn_is v s word in
      grind (arith, common_steps)

  puts : (s : ℕ) (bytes : List ℕ) (a : Answer) (m' : Machine E) → TakesPut m s bytes a m'
      → IsLed X rows m' (trails_grown X m (Put s bytes) a T)
  puts s bytes a m' h =
      let o = opened s h.sender h.goes in
      let v = o.v in
      let can =
      subst (λ (w : Sender E). CanPut (queue_of w.core.queue w.reuse) (length bytes)) o.is h.can in
      let may = away_puts v.core.queue v.pin (length bytes)
      (put_taken (queue_seen v.core.queue v.pin) (length bytes) can) in
      let batch = record v.core.queue { messages = v.core.queue.messages ++ bytes ∷ [] } in
      let new =
      with_sender m s (with_rows_again (record v { core = record v.core { queue = batch } })) in
      let told : a ≡ answer.Number (next_of v.core.queue) =
      h.answered ∙ ap (λ (w : Sender E). answer.Number (next_of w.core.queue)) o.is in
      let led = batch_led X P rows m T q ok two l s v o.at o.same_rows batch
      (HasPut (next_of v.core.queue) bytes ∷ [])
      (subst (λ t. Led X m.layout rows (record its_protocol {
        senders =
            put s (Some (cond t (record v.core { queue = batch }) v.core)) its_protocol.senders;
      }) T.pins (actions_with s (cond t (HasPut (next_of v.core.queue) bytes ∷ []) []) T.actions)
      T.heard T.log) may.1
      (PutIn its_protocol T.pins T.actions T.heard T.log s v.core bytes l.led (ap core_in o.at)
      (ap pin_in o.at ∙ may.0) h.are_bytes)) in
      grind (arith, common_steps)

  marks : (s : ℕ) (asked : Mark) (a : Answer) (m' : Machine E) → TakesMark m s asked a m'
      → IsLed X rows m' (trails_grown X m (Ask s asked) a T)
  marks s asked a m' h =
      let o = opened s h.sender h.goes in
      let v = o.v in
      let can = subst (λ (w : Sender E). CanClose (queue_of w.core.queue w.reuse)) o.is h.can in
      let may = away_closes v.core.queue v.pin (close_taken (queue_seen v.core.queue v.pin) can) in
      let batch = record v.core.queue { phase = Marking asked } in
      let new =
      with_sender m s (with_rows_again (record v { core = record v.core { queue = batch } })) in
      let led = batch_led X P rows m T q ok two l s v o.at o.same_rows batch (HasMarked asked ∷ [])
      (subst (λ t. Led X m.layout rows (record its_protocol {
        senders =
            put s (Some (cond t (record v.core { queue = batch }) v.core)) its_protocol.senders;
      }) T.pins (actions_with s (cond t (HasMarked asked ∷ []) []) T.actions) T.heard T.log) may.1
      (MarkedIn its_protocol T.pins T.actions T.heard T.log s v.core asked l.led (ap core_in o.at)
      (ap pin_in o.at ∙ may.0))) in
      grind (arith, common_steps, mark_adds)

  stops : (s : ℕ) (a : Answer) (m' : Machine E) → StopsNow m s a m' → IsLed X rows m' T
  stops s a m' h = grind (arith, common_steps)

  -- a step of receiver r, or none, which leaves this
  abbrev heard_by : ℕ → Option Op → Receiving → Machine E
  heard_by r o next = record m {
    words = words_after m.words o;
    receivers = slice_set m.receivers r next;
  }

  -- as it is of the protocol
  heard_led : (r : ℕ) (v next : Receiving) (o : Option Op) (T' : Trails)
      → slice_get m.receivers r ≡ Some v → IsOnWord m o
      → Led X m.layout rows (protocol_heard its_protocol r o next) T'.pins T'.actions T'.heard
      T'.log
      → IsLed X rows (heard_by r o next) T'
  heard_led r v next o T' there within led = record {
    reuse = l.reuse;
    words = words_many m.words o ∙ l.words;
    participants = l.participants;
    owners = l.owners;
    reclaimer = l.reclaimer;
    holder = l.holder;
    passing = l.passing;
    passed = l.passed;
    led = subst (λ ws. Led X m.layout rows (record its_protocol {
      reclamation = record its_protocol.reclamation { words = ws };
      receivers = slice_get (slice_set m.receivers r next);
    }) T'.pins T'.actions T'.heard T'.log)
        (sym (stepped_words m.words o (λ d e. subst (IsOnWord m) e within)))
        (subst (λ rs. Led X m.layout rows (record its_protocol {
          reclamation = record its_protocol.reclamation {
            words = words_stepped (λ q. q) its_protocol.reclamation.words o;
          };
          receivers = rs;
        }) T'.pins T'.actions T'.heard T'.log)
        (sym (list_put (λ w. w) m.receivers r next (slice_get_within m.receivers r v there)))
        led);
  }

  hears : (r : ℕ) (a : Answer) (m' : Machine E) → Hears m r a m'
      → IsLed X rows m' (trails_grown X m (Recv r) a T)
  hears r a m' h =
      let new = heard_by r (receiving_op h.receiver) h.next in
      subst (λ n. IsLed X rows n (trails_grown X m (Recv r) a T)) (sym h.after)
      (subst (λ w. IsLed X rows new (trails_grown X m (Recv r) w T)) (sym h.answered)
      (heard_led r h.receiver h.next (receiving_op h.receiver)
      (trails_grown X m (Recv r) (answer.Recv h.heard) T) h.there h.within
      (Heard its_protocol T.pins T.actions T.heard T.log r h.receiver h.next h.heard l.led
      h.there h.stays h.does)))

  leaves : (r : ℕ) (a : Answer) (m' : Machine E) → LeavesForGood m r a m' → IsLed X rows m' T
  leaves r a m' h = subst (λ n. IsLed X rows n T) (sym h.after)
      (heard_led r h.receiver (with_leave h.receiver) (leaving_op h.receiver) T h.there h.within
      (LeftFor its_protocol T.pins T.actions T.heard T.log r h.receiver l.led h.there h.stays))

  -- a receiver joins
  pub forks : (m' : Machine E) (i j n : ℕ) → Forks m i j true m' → slice_get m.receivers n ≡ None
      → T.heard n ≡ [] → IsLed X rows m' (trails_joined i j n T)
  forks m' i j n h nobody silent = grind (arith, common_steps, heard_led, By, led)
    where
      -- with this passed place of its number
      By : Option ℕ → Type 0
      By o = Led X m.layout rows
          (protocol_heard its_protocol j (joining_by o h.maker.passed) (forked_at o h.maker)) T.pins
          T.actions (answers_joined (T.heard i) j n T.heard) T.log

      place : ℕ
      place = passed_place m.layout rows j

      -- where its step stores or not
      Now : Bool → Option ℕ → Type 0
      Now b o = Led X m.layout rows (record its_protocol {
        reclamation = record its_protocol.reclamation {
          words = put place (cond b h.maker.passed (slice_index m.words place))
              its_protocol.reclamation.words;
        };
        receivers = put j (Some (forked_at o h.maker)) its_protocol.receivers;
      }) T.pins T.actions (answers_joined (T.heard i) j n T.heard) T.log

      many : (m.layout.passers ≡ 0) ⊎ (j < m.layout.passers)
      many = ((protocol_kept X P rows m T q ok two l).kept.floors.each j h.last h.was).many

      stored : j < m.layout.passers → By (passed_of m.layout rows j)
      stored low = elim (lt_tells j m.layout.passers) [
        | inl is ↦
            let at : passed_of m.layout rows j ≡ Some place =
            ap (λ b. cond {A = Option ℕ} b (Some place) None) is.0 in
            subst By (sym at) (subst (λ b. Now b (Some place))
            (h.finds place (ap (λ r. passed_by m.layout r j) l.reuse ∙ at))
            (subst (Now true) at
            (Forked its_protocol T.pins T.actions T.heard T.log i j n h.maker h.last l.led h.there
            h.stays h.was (sym h.free) h.up low nobody silent)))
        | inr past ↦ absurd (let over = past.1 in omega arith)
      ]

      copied : m.layout.passers ≡ 0 → By (passed_of m.layout rows j)
      copied flat =
          let none = passed_first m.layout (Some rows) j flat in
          subst By (sym none) (subst (λ o. Led X m.layout rows (record its_protocol {
            receivers = put j (Some (forked_at o h.maker)) its_protocol.receivers;
          }) T.pins T.actions (answers_joined (T.heard i) j n T.heard) T.log) none
          (Copied its_protocol T.pins T.actions T.heard T.log i j n h.maker h.last l.led flat
          h.there h.stays h.was nobody silent))

      led : By (passed_of m.layout rows j)
      led = elim many [ inl flat ↦ copied flat | inr low ↦ stored low ]

  pub event_led : (m' : Machine E) (e : Event) (a : Answer) → Happens X m e a m'
      → IsLed X rows m' (trails_grown X m e a T)
  event_led m' (Put s bytes) a h = puts s bytes a m' h
  event_led m' (Ask s asked) a h = marks s asked a m' h
  event_led m' (Turn s word) a h = turns s word a m' h
  event_led m' (Recv r) a h = hears r a m' h
  event_led m' (Stop s) a h = stops s a m' h
  event_led m' (Gone r) a h = leaves r a m' h

-- ---- at the start
module _ {E : Type 0} (X : Election E) (rows : ℕ) (m : Machine E) (new : IsNew m)
    (used : m.reuse ≡ Some rows) where
  abbrev starter : ℕ → Participant E
  starter p = record {
    core = new_core m.layout (base_of m p) p;
    pin = Away;
    reclaimer = None;
    passed = passing_begun;
    lost = None;
    rows = rows;
  }

  made : (p : ℕ) (v : Sender E) → slice_get m.senders p ≡ Some v → v ≡ with_rows_again (starter p)
  made p v at = (new.senders p v at).1 ∙ ap (λ r. new_sender m.layout p r (base_of m p)) used

  new_pin : (p : ℕ) (o : Option (Sender E)) → slice_get m.senders p ≡ o → pin_in o ≡ Away
  new_pin p None i = refl
  new_pin p (Some v) i = ap (λ (u : Sender E). pin_in (Some u)) (made p v i)

  new_core_is : (p : ℕ) (c : Core E) (o : Option (Sender E)) → slice_get m.senders p ≡ o
      → core_in o ≡ Some c → (p < m.layout.senders) × (c ≡ new_core m.layout (base_of m p) p)
  new_core_is p c None i j = absurd (let bad : None ≡ Some c = j in cc)
  new_core_is p c (Some v) i j = grind (arith, common_steps, same_Some, made)

  words_are : m.words ≡ replicate (log_from m.layout rows + m.layout.capacity) 0
  words_are = new.words ∙ ap (λ r. replicate (log_place m.layout r + m.layout.capacity) 0) used

  pub new_led : IsLed X rows m no_machine_trails
  new_led = record {
    reuse = used;
    words = ap length words_are ∙ length-replicate (log_from m.layout rows + m.layout.capacity) 0;
    participants = λ p v at. (starter p, made p v at, refl);
    owners = [];
    reclaimer = None;
    holder = λ p v t at held. grind (arith, common_steps, made);
    passing = passing_begun;
    passed = λ p v t at held. ap (λ (u : Sender E). passing_in u.reuse) (made p v at);
    led = NewProtocol (protocol_of m None passing_begun []) record {
      bases_are = new.bases_are;
      passing = refl;
      reclamation = grind (arith, common_steps, slice_get, slice_index, words_are, zeros, new_pin);
      home = new.home;
      senders = λ p c at. new_core_is p c (slice_get m.senders p) refl at;
      receivers = λ r v at. subst
          (λ o. IsNewReceiver m.layout.senders (log_place m.layout o) m.layout.capacity
          (passed_by m.layout o r) v) used (new.receivers r v at);
      many = new.many;
      ring_bases = new.ring_bases;
      owners = refl;
    };
  }

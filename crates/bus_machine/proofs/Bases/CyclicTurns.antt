-- A turn of a machine whose rows are used again, as a turn of its protocol.
use Rattle.std.proofs.Common.{◌≡◌, ◌≢◌, inl, inr, ℕ, ◌<◌, ◌≤◌, nat_le, Option, Some, None, List}
use Rattle.std.proofs.Common.{◌++◌, length, slice_get, slice_index, slice_set, arith, refl, sym}
use Rattle.std.proofs.Common.{◌∙◌, ap, subst}
use Rattle.std.proofs.lemmas.Bool.{cases_eq}
use Rattle.std.proofs.Math.ListN.{length-set}
use Rattle.std.proofs.lemmas.Option.{same_Some, slice_get_within}
use Rattle.std.proofs.lemmas.Grind.{common_steps}
use Rattle.bus_register.specs.declared.registers.Op.{Op}
use Rattle.bus_register.specs.Words.{register, after}
use Rattle.bus_register.specs.Tables.{put, of_some}
use Rattle.bus_register.specs.Private.TableLaws.{get_set_same, get_set_other}
use Rattle.bus_register.specs.Protocol.{Protocol}
use Rattle.bus_batch.specs.Batches.{Pending}
use Rattle.bus_presence.specs.Reclamation.{reclaimer_after}
use Rattle.bus_presence.specs.Reclaimers.{Reclaiming, reclaim_fed}
use Rattle.bus_presence.specs.Pins.{pin_fed}
use Rattle.bus_presence.specs.declared.pins.Pin.{Pin}
use Rattle.bus_presence.specs.declared.pins.Pin.TheVariants.{Away, Announcing, Validating, Pinned}
use Rattle.bus_presence.specs.declared.pins.Pin.TheVariants.{Unpinning, Invalidated}
use Rattle.bus_core.specs.Keeping.{reclaimer_in}
use Rattle.bus_core.specs.Private.Bridge.{move_of, publishes_of, with_rows_again}
use Rattle.bus_core.specs.Reusing.Participants.{sizes_with, core_seen}
use Rattle.bus_core.specs.Private.ParticipantTable.{Due, Pins, Reads, Reclaims, Goes, due_of}
use Rattle.bus_core.specs.Private.ParticipantTable.{due_beside, due_passed, due_home}
use Rattle.bus_core.specs.Private.ParticipantTable.{passed_due, passed_op, lacking, reclaim_due}
use Rattle.bus_core.specs.Private.ParticipantTable.{place_for, core_looked, core_going, pin_going}
use Rattle.bus_core.specs.Private.ParticipantTable.{reclaimer_going, passed_going, answer_going}
use Rattle.bus_core.specs.Reusing.Passing.{passing_begun, passing_left, passing_fed, core_passed}
use Rattle.bus_core.specs.declared.reuses.Passing.{Passing}
use Rattle.bus_core.specs.Reusing.Keeping.{held_of}
use Rattle.bus_core.specs.Reusing.Turns.{Participant, op_placed}
use Rattle.bus_core.specs.Private.ParticipantTurns.{due, op_due, participant_due, answer_due}
use Rattle.bus_core.specs.Senders.{Sender}
use Rattle.bus_tenure.specs.Core.{Election}
use Rattle.bus_tenure.specs.Situations.{Situation, IsClosed, IsIdle, IsSpent, LooksAtStage, Elects}
use Rattle.bus_tenure.specs.Situations.{TakesPage, AwaitsPage, StoresWord, StoresLength, GivesBack}
use Rattle.bus_tenure.specs.Situations.{HasHanded, PageMove, situation_of, line_of, op_at}
use Rattle.bus_tenure.specs.Situations.{core_elected}
use Rattle.bus_tenure.specs.declared.pages.Page.{Page}
use Rattle.bus_tenure.specs.declared.phases.Reason.{Reason}
use Rattle.bus_tenure.specs.declared.phases.Reason.TheVariants.{NoRoom}
use Rattle.bus_tenure.specs.declared.turns.Turn.{Turn as Answered}
use Rattle.bus_tenure.specs.declared.turns.Turn.TheVariants as turn
use Rattle.bus_tenure.proofs.Situated.{tells}
use Rattle.bus_world.specs.World.{IsLayout}
use Rattle.bus_world.specs.Private.Sending.{Part, standing_of}
use Rattle.bus_world.specs.Headline.{Action}
use Rattle.bus_world.specs.Log.{words_of_frame}
use Rattle.bus_world.specs.Private.Tenures.Standing.{Holds}
use Rattle.bus_world.specs.Turning.{words_after, number_found, home_moved, core_moved, after_step}
use Rattle.bus_world.specs.Private.Machines.{home_after}
use Rattle.bus_world.specs.Private.CyclicProtocols.{CyclicProtocol, Led, Turned, AnswersDue, due_in}
use Rattle.bus_world.specs.Private.CyclicProtocols.{due_actions, trails_with, protocol_after}
use Rattle.bus_world.specs.Private.CyclicProtocols.{word_found}
use Rattle.bus_world.specs.Trails.{actions_with}
use Rattle.bus_world.proofs.Serving.{Serves}
use Rattle.bus_world.proofs.PlacedSteps.{placed_found, due_goes, due_reads}
use Rattle.bus_world.proofs.CyclicProtocolKept.{HasKept}
use Rattle.bus_world.proofs.CyclicProtocolLaws.{led_kept}
use Rattle.bus_world.proofs.CyclicProtocolWords.{put_is}
use Rattle.bus_machine.proofs.Frames.AtHome.{held_stands, finds_page, holds_page}
use Rattle.bus_machine.proofs.Bases.ProtocolParts.{list_put, index_put, placed_words}
use Rattle.bus_machine.proofs.Bases.ProtocolParts.{protocols_same}
use Rattle.bus_machine.proofs.Bases.ProtocolParts.{due_reclaims}
use Rattle.bus_machine.specs.Private.Bridge.{core_in, passing_in, protocol_of, IsLed}
use Rattle.bus_machine.specs.Machine.{Machine, Trails, IsOnWord, with_sender}
use Rattle.bus_machine.specs.Promise.{pin_in}

-- ---- senders in their places
abbrev pub participant_moved : {E : Type 0} → PageMove → Option Page → Participant E → Participant E
participant_moved move home v = record v { core = core_moved move home v.core }

pub words_many : (xs : List ℕ) (d : Option Op) → length (words_after xs d) ≡ length xs
words_many xs None = refl
words_many xs (Some o) = length-set xs (register o) (after o (slice_index xs (register o)))

participants_after : {E : Type 0} (rows : ℕ) (xs : List (Sender E))
    → ((p : ℕ) (v : Sender E) → slice_get xs p ≡ Some v
    → (u : Participant E) × (v ≡ with_rows_again u) × (u.rows ≡ rows))
    → (s : ℕ) (v' : Participant E) → s < length xs → v'.rows ≡ rows → (p : ℕ) (v : Sender E)
    → slice_get (slice_set xs s (with_rows_again v')) p ≡ Some v
    → (u : Participant E) × (v ≡ with_rows_again u) × (u.rows ≡ rows)
participants_after rows xs all s v' within same p v here = elim (cases_eq p s) [
  | inl i ↦
      grind (arith, common_steps, same_Some, slice_get, slice_set, with_rows_again, get_set_same)
  | inr ne ↦ all p v (sym (get_set_other xs s (with_rows_again v') p ne) ∙ here)
]

-- ---- a machine that some trails lead to
module _ {E : Type 0} (X : Election E) (P : Protocol E (Unit {0}) ℕ) (rows : ℕ) (m : Machine E)
    (T : Trails) (q : Serves X P m.layout) (ok : IsLayout m.layout) (two : 2 ≤ rows)
    (l : IsLed X rows m T) where
  abbrev y : CyclicProtocol E
  y = protocol_of m l.reclaimer l.passing l.owners

  pub protocol_kept : HasKept X P q.laws m.layout ok q.width q.starts q.owner_is q.named q.announces
      q.apart rows two T.heard y T.pins T.actions T.log
  protocol_kept = led_kept X P q.laws m.layout ok q.width q.starts q.owner_is q.named q.announces
      q.apart rows two T.heard y T.pins T.actions T.log l.led

  -- ---- who holds the page
  holds : (p : ℕ) (w : Sender E) (t : ℕ) → slice_get m.senders p ≡ Some w
      → held_of w.core.phase ≡ Some t → of_some standing_of (y.senders p) ≡ Some (Holds t)
  holds p w t at e =
      ap (λ o. of_some standing_of (core_in o)) at ∙ ap Some (held_stands w.core.phase t e)

  -- one alone
  alone : (p q : ℕ) (w u : Sender E) (t r : ℕ) → slice_get m.senders p ≡ Some w
      → held_of w.core.phase ≡ Some t → slice_get m.senders q ≡ Some u
      → held_of u.core.phase ≡ Some r → p ≡ q
  alone p q w u t r at e here f =
      let one = protocol_kept.kept.sending.tenures.holding p t (holds p w t at e) in
      let other = protocol_kept.kept.sending.tenures.holding q r (holds q u r here f) in
      same_Some _ _ (sym one.2 ∙ ap (slice_get l.owners) (one.0 ∙ sym other.0) ∙ other.2)

  module _ (s : ℕ) (v : Participant E) (at : slice_get m.senders s ≡ Some (with_rows_again v))
      (same_rows : v.rows ≡ rows) where
    old : y.senders s ≡ Some v.core
    old = ap core_in at

    within : s < length m.senders
    within = slice_get_within m.senders s (with_rows_again v) at

    part : Part (slice_index m.bases) m.layout protocol_kept.V protocol_kept.frames s v.core
    part = protocol_kept.kept.sending.parts s v.core old

    pin_is : y.reclamation.pins s ≡ v.pin
    pin_is = ap pin_in at

    gives_held : (t : ℕ) (page : Page) (reason : Reason)
        → situation_of X v.core ≡ GivesBack t page reason → held_of v.core.phase ≡ Some t
    gives_held t page reason e =
        let f = tells X v.core (GivesBack t page reason) e in ap held_of f.2

    -- ---- what is due in its protocol
    reclaims_same : (z : Situation E) → situation_of X v.core ≡ z
        → reclaim_due z v.reclaimer ≡ reclaim_due z l.reclaimer
    reclaims_same IsClosed e = refl
    reclaims_same IsIdle e = refl
    reclaims_same IsSpent e = refl
    reclaims_same LooksAtStage e = refl
    reclaims_same (Elects t f) e = refl
    reclaims_same (TakesPage t) e = refl
    reclaims_same (AwaitsPage t) e = refl
    reclaims_same (StoresWord t page stored) e = refl
    reclaims_same (StoresLength t page stored) e = refl
    reclaims_same (GivesBack t page reason) e =
        l.holder s (with_rows_again v) t at (gives_held t page reason e)
    reclaims_same (HasHanded t reason) e = refl

    passes_same : (z : Situation E) → situation_of X v.core ≡ z
        → passed_due z (passing_left m.layout.passers v.passed)
        ≡ passed_due z (passing_left m.layout.passers l.passing)
    passes_same IsClosed e = refl
    passes_same IsIdle e = refl
    passes_same IsSpent e = refl
    passes_same LooksAtStage e = refl
    passes_same (Elects t f) e = refl
    passes_same (TakesPage t) e = refl
    passes_same (AwaitsPage t) e = refl
    passes_same (StoresWord t page stored) e = refl
    passes_same (StoresLength t page stored) e = refl
    passes_same (GivesBack t page reason) e =
        ap (λ p. lacking reason t (passing_left m.layout.passers p))
        (l.passed s (with_rows_again v) t at (gives_held t page reason e))
    passes_same (HasHanded t reason) e = refl

    beside_same : (o : Option Op)
        → due_beside o (passing_left m.layout.passers v.passed) v.reclaimer (situation_of X v.core)
        ≡ due_beside o (passing_left m.layout.passers l.passing) l.reclaimer (situation_of X v.core)
    beside_same None =
        grind (arith, due_passed, passed_due, due_home, reclaims_same, reclaim_due, passes_same)
    beside_same (Some o) = refl

    due_same : due X v ≡ due_in X m.layout rows y s v.core
    due_same = grind (arith, common_steps, due_of, part, pin_is, beside_same)

    -- ---- who holds the page afterwards
    -- what is read off each that holds it, before and now
    held_after : {A : Type 0} (of : Sender E → A) (before now : A)
        → ((p : ℕ) (w : Sender E) (t : ℕ) → slice_get m.senders p ≡ Some w
        → held_of w.core.phase ≡ Some t → of w ≡ before)
        → (v' : Participant E)
        → ((t : ℕ) → held_of v'.core.phase ≡ Some t → of (with_rows_again v') ≡ now)
        → ((p : ℕ) (w : Sender E) (t : ℕ) → p ≢ s → slice_get m.senders p ≡ Some w
        → held_of w.core.phase ≡ Some t → before ≡ now)
        → (p : ℕ) (w : Sender E) (t : ℕ)
        → slice_get (slice_set m.senders s (with_rows_again v')) p ≡ Some w
        → held_of w.core.phase ≡ Some t → of w ≡ now
    held_after of before now was v' own others p w t here e = elim (cases_eq p s) [
      | inl i ↦
          grind (arith, with_rows_again, same_Some, get_set_same, within, slice_get, slice_set)
      | inr ne ↦ grind (arith, common_steps, get_set_other, with_rows_again)
    ]

    holder_after : (v' : Participant E) (reclaimer : Option Reclaiming)
        → ((t : ℕ) → held_of v'.core.phase ≡ Some t → v'.reclaimer ≡ reclaimer)
        → ((p : ℕ) (w : Sender E) (t : ℕ) → p ≢ s → slice_get m.senders p ≡ Some w
        → held_of w.core.phase ≡ Some t → l.reclaimer ≡ reclaimer)
        → (p : ℕ) (w : Sender E) (t : ℕ)
        → slice_get (slice_set m.senders s (with_rows_again v')) p ≡ Some w
        → held_of w.core.phase ≡ Some t → reclaimer_in w.reuse ≡ reclaimer
    holder_after v' reclaimer own others =
        held_after (λ (w : Sender E). reclaimer_in w.reuse) l.reclaimer reclaimer l.holder v' own
        others

    passed_after : (v' : Participant E) (passing : Passing)
        → ((t : ℕ) → held_of v'.core.phase ≡ Some t → v'.passed ≡ passing)
        → ((p : ℕ) (w : Sender E) (t : ℕ) → p ≢ s → slice_get m.senders p ≡ Some w
        → held_of w.core.phase ≡ Some t → l.passing ≡ passing)
        → (p : ℕ) (w : Sender E) (t : ℕ)
        → slice_get (slice_set m.senders s (with_rows_again v')) p ≡ Some w
        → held_of w.core.phase ≡ Some t → passing_in w.reuse ≡ passing
    passed_after v' passing own others =
        held_after (λ (w : Sender E). passing_in w.reuse) l.passing passing l.passed v' own others

    -- nobody else holds it where this sender does
    nobody_else : {A : Type 0} (before now : A) (t : ℕ) → held_of v.core.phase ≡ Some t
        → (p : ℕ) (w : Sender E) (r : ℕ) → p ≢ s
        → slice_get m.senders p ≡ Some w → held_of w.core.phase ≡ Some r → before ≡ now
    nobody_else before now t e p w r ne here f =
        absurd (ne (alone p s w (with_rows_again v) r t here f at e))

    -- ---- a step of its pin
    looked_held : (u : Pin) (got t : ℕ) → held_of (core_looked X v.core u got).phase ≡ Some t
        → held_of v.core.phase ≡ Some t
    looked_held Away got t e = e
    looked_held (Announcing r) got t e = e
    looked_held (Validating r) got t e = grind (arith, common_steps)
    looked_held (Pinned r) got t e = e
    looked_held (Unpinning r) got t e = e
    looked_held (Invalidated r) got t e = e

    -- ---- as a sender that has a row for each tenure
    place_same : (z : Situation E) → place_for v.core.layout v.rows z ≡ place_for m.layout rows z
    place_same z =
        ap (λ x. place_for x v.rows z) part.layout ∙ ap (λ r. place_for m.layout r z) same_rows

    -- who held the page before, and holds it still
    kept_reclaimer : (t : ℕ) → held_of v.core.phase ≡ Some t → v.reclaimer ≡ l.reclaimer
    kept_reclaimer t e = l.holder s (with_rows_again v) t at e

    kept_passed : (t : ℕ) → held_of v.core.phase ≡ Some t → v.passed ≡ l.passing
    kept_passed t e = l.passed s (with_rows_again v) t at e

    seen_held : (got t : ℕ) → held_of (core_seen v.core got).phase ≡ Some t
        → held_of v.core.phase ≡ Some t
    seen_held got t = grind (arith, common_steps, nat_le)

    elected_held : (t : ℕ) (f : E) (o : Option ℕ) (r : ℕ)
        → held_of (core_elected v.core t f o).phase ≡ Some r → ⊥
    elected_held t f None r e = cc
    elected_held t f (Some o) r e = grind (arith, common_steps)

    -- nobody holds the page while a sender takes it
    at_home : {A : Type 0} (before now : A) (t : ℕ) → situation_of X v.core ≡ TakesPage t
        → (p : ℕ) (w : Sender E) (r : ℕ) → p ≢ s
        → slice_get m.senders p ≡ Some w → held_of w.core.phase ≡ Some r → before ≡ now
    at_home before now t here p w r ne there f =
        let sending = protocol_kept.kept.sending in
        let found = finds_page X P q.laws m.layout ok q.width q.starts q.owner_is protocol_kept.V
        m.home y.senders l.owners protocol_kept.frames sending s v.core old t here in
        let held = holds_page X P q.laws m.layout ok q.width q.starts q.owner_is protocol_kept.V
        m.home y.senders l.owners protocol_kept.frames sending p w.core (ap core_in there) r f in
        absurd (let a = found.2 in omega arith)

    due_rows : (d : Due E) (move : PageMove) (got word : ℕ)
        → (participant_moved move m.home (participant_due X v d got word)).rows ≡ v.rows
    due_rows (Pins o) move got word = refl
    due_rows (Reads t p) move got word = refl
    due_rows (Reclaims r o) move got word = refl
    due_rows (Goes z) move got word = refl

    on_word : (o : Option Op) → IsOnWord m o → (p : Op) → o ≡ Some p → register p < length m.words
    on_word None low p i = absurd (let bad : None ≡ Some p = i in cc)
    on_word (Some o) low p i = subst (λ w. register w < length m.words) (same_Some _ _ i) low

    -- a batch in its place, as the protocol has it
    pub batch_led : (b : Pending) (ds : List Action)
        → Led X m.layout rows
        (record y { senders = put s (Some (record v.core { queue = b })) y.senders }) T.pins
        (actions_with s ds T.actions) T.heard T.log
        → IsLed X rows
        (with_sender m s (with_rows_again (record v { core = record v.core { queue = b } })))
        (record T { actions = actions_with s ds T.actions })
    batch_led b ds led =
        let v' : Participant E = record v { core = record v.core { queue = b } } in
        record {
          reuse = l.reuse;
          words = l.words;
          participants = participants_after rows m.senders l.participants s v' within same_rows;
          owners = l.owners;
          reclaimer = l.reclaimer;
          holder = holder_after v' l.reclaimer (λ t e. l.holder s (with_rows_again v) t at e)
              (λ p w t ne here e. refl);
          passing = l.passing;
          passed = passed_after v' l.passing (λ t e. l.passed s (with_rows_again v) t at e)
              (λ p w t ne here e. refl);
          led = subst
              (λ yy. Led X m.layout rows yy T.pins (actions_with s ds T.actions) T.heard T.log)
              (protocols_same m.bases _ _ _ _ _ _ l.reclaimer l.passing m.home y.receivers l.owners
              refl
              (sym (put_is s v.pin y.reclamation.pins (ap pin_in at))
              ∙ sym (list_put pin_in m.senders s (with_rows_again v') within))
              (sym (list_put core_in m.senders s (with_rows_again v') within)))
              led;
        }

    -- ---- its turn, with this random word, which answers this; these owners are told then
    module _ (word : ℕ) (answer : Answered) (told : List ℕ) where
      -- the machine afterwards, of which these owners are told
      abbrev turned : Due E → Machine E
      turned d =
          let got = number_found (slice_index m.words) (op_due X v d word) in
          record m {
            words = words_after m.words (op_due X v d word);
            home = home_moved (move_of X v.core d) m.home;
            senders = slice_set m.senders s
                (with_rows_again (participant_moved (after_step (move_of X v.core d)) m.home
                (participant_due X v d got word)));
            owners = told;
          }

      -- all that was published, with what the turn adds
      abbrev log_due : Due E → List ℕ
      log_due d = T.log ++ words_of_frame (publishes_of X v.core d)

      -- what leads to it with what the turn adds
      record HasLed (n : Machine E) (d : Due E) : Type 0 where
        owners : List ℕ
        reclaimer : Option Reclaiming
        holder : (p : ℕ) (w : Sender E) (t : ℕ) → slice_get n.senders p ≡ Some w
            → held_of w.core.phase ≡ Some t → reclaimer_in w.reuse ≡ reclaimer
        passing : Passing
        passed : (p : ℕ) (w : Sender E) (t : ℕ) → slice_get n.senders p ≡ Some w
            → held_of w.core.phase ≡ Some t → passing_in w.reuse ≡ passing
        led : Led X n.layout rows (protocol_of n reclaimer passing owners)
            (trails_with y s d T.pins)
            (actions_with s (due_actions X m.layout rows y v.core d word answer) T.actions) T.heard
            (log_due d)

      led_as : (d : Due E) → due X v ≡ d → AnswersDue X m.layout rows y v.core d word answer
          → Led X m.layout rows (protocol_after X m.layout rows y s v.core d word)
          (trails_with y s d T.pins)
          (actions_with s (due_actions X m.layout rows y v.core d word answer) T.actions) T.heard
          (log_due d)
      led_as d e = subst (λ w.
          AnswersDue X m.layout rows y v.core w word answer
          → Led X m.layout rows (protocol_after X m.layout rows y s v.core w word)
          (trails_with y s w T.pins)
          (actions_with s (due_actions X m.layout rows y v.core w word answer) T.actions) T.heard
          (log_due w)) (sym due_same ∙ e)
          (λ due. Turned y T.pins T.actions T.heard T.log s v.core word answer l.led old due)

      pins_lead : (o : Op) → due X v ≡ Pins o → register o < length m.words
          → HasLed (turned (Pins o)) (Pins o)
      pins_lead o e low =
          let got = slice_index m.words (register o) in
          let v' = participant_due X v (Pins o) got word in
          record {
            owners = l.owners;
            reclaimer = l.reclaimer;
            holder = holder_after v' l.reclaimer
                (λ t f. l.holder s (with_rows_again v) t at (looked_held v.pin got t f))
                (λ p w t ne here f. refl);
            passing = l.passing;
            passed = passed_after v' l.passing
                (λ t f. l.passed s (with_rows_again v) t at (looked_held v.pin got t f))
                (λ p w t ne here f. refl);
            led = subst (λ yy. Led X m.layout rows yy (trails_with y s (Pins o) T.pins)
                (actions_with s (due_actions X m.layout rows y v.core (Pins o) word answer)
                T.actions) T.heard (log_due (Pins o)))
                (protocols_same m.bases _ _ _ _ _ _ l.reclaimer l.passing m.home y.receivers
                l.owners
                (sym (index_put m.words (register o) (after o got) low))
                (ap (λ u. put s (pin_fed u got) y.reclamation.pins) pin_is
                ∙ sym (list_put pin_in m.senders s (with_rows_again v') within))
                (ap (λ u. put s (Some (core_looked X v.core u got)) y.senders) pin_is
                ∙ sym (list_put core_in m.senders s (with_rows_again v') within)))
                (led_as (Pins o) e tt);
          }

      -- ---- a passed place that it loads
      reads_lead : (t : ℕ) (p : Passing) → due X v ≡ Reads t p
          → register (passed_op v.core.layout v.rows p) < length m.words → answer ≡ turn.Going
          → HasLed (turned (Reads t p)) (Reads t p)
      reads_lead t p e low given =
          let o = passed_op v.core.layout v.rows p in
          let o' = passed_op m.layout rows p in
          let got = slice_index m.words (register o) in
          let got' = slice_index m.words (register o') in
          let got_is : got ≡ got' =
          ap (λ x. slice_index m.words (register (passed_op x v.rows p))) part.layout
          ∙ ap (λ r. slice_index m.words (register (passed_op m.layout r p))) same_rows in
          let v' = participant_due X v (Reads t p) got word in
          let by = due_reads _ _ v.reclaimer (situation_of X v.core) t p e in
          let held = gives_held t by.page NoRoom by.is in
          record {
            owners = l.owners;
            reclaimer = l.reclaimer;
            holder = holder_after v' l.reclaimer (λ r f. kept_reclaimer t held)
                (λ q w r ne here f. refl);
            passing = passing_fed p got';
            passed = passed_after v' (passing_fed p got') (λ r f. ap (passing_fed p) got_is)
                (nobody_else l.passing (passing_fed p got') t held);
            led = subst (λ yy. Led X m.layout rows yy (trails_with y s (Reads t p) T.pins)
                (actions_with s (due_actions X m.layout rows y v.core (Reads t p) word answer)
                T.actions) T.heard (log_due (Reads t p)))
                (protocols_same m.bases _ _ _ _ _ _ l.reclaimer (passing_fed p got') m.home
                y.receivers l.owners
                (sym (put_is (register o) got (slice_index m.words) refl)
                ∙ sym (index_put m.words (register o) got low))
                (sym (put_is s v.pin y.reclamation.pins pin_is)
                ∙ sym (list_put pin_in m.senders s (with_rows_again v') within))
                (ap (λ g. put s (Some (core_passed v.core (passing_fed p g))) y.senders)
                (sym got_is)
                ∙ sym (list_put core_in m.senders s (with_rows_again v') within)))
                (led_as (Reads t p) e given);
          }

      -- ---- a step of its reclamation
      reclaims_lead : (r : Reclaiming) (o : Op) → due X v ≡ Reclaims r o
          → register o < length m.words → HasLed (turned (Reclaims r o)) (Reclaims r o)
      reclaims_lead r o e low =
          let got = slice_index m.words (register o) in
          let v' = participant_due X v (Reclaims r o) got word in
          let by = due_reclaims _ _ v.reclaimer (situation_of X v.core) r o e in
          let held = gives_held by.tenure by.page by.reason by.is in
          record {
            owners = l.owners;
            reclaimer = Some (reclaim_fed r got);
            holder = holder_after v' (Some (reclaim_fed r got)) (λ t f. refl)
                (nobody_else l.reclaimer (Some (reclaim_fed r got)) by.tenure held);
            passing = l.passing;
            passed = passed_after v' l.passing (λ t f. l.passed s (with_rows_again v) t at f)
                (λ p w t ne here f. refl);
            led = subst (λ yy. Led X m.layout rows yy (trails_with y s (Reclaims r o) T.pins)
                (actions_with s (due_actions X m.layout rows y v.core (Reclaims r o) word answer)
                T.actions) T.heard (log_due (Reclaims r o)))
                (protocols_same m.bases _ _ _ _ _ _ (Some (reclaim_fed r got)) l.passing m.home
                y.receivers l.owners
                (sym (index_put m.words (register o) (after o got) low))
                (sym (put_is s v.pin y.reclamation.pins pin_is)
                ∙ sym (list_put pin_in m.senders s (with_rows_again v') within))
                (sym (put_is s (Some v.core) y.senders old)
                ∙ sym (list_put core_in m.senders s (with_rows_again v') within)))
                (led_as (Reclaims r o) e tt);
          }

      module _ (z : Situation E) (here : situation_of X v.core ≡ z) (e : due X v ≡ Goes z) where
        abbrev step : Option Op
        step = op_at X v.core z word

        abbrev got : ℕ
        got = number_found (slice_index m.words) (op_due X v (Goes z) word)

        abbrev v' : Participant E
        v' = participant_moved (after_step (line_of X v.core z).move) m.home
            (participant_due X v (Goes z) got word)

        abbrev reclaimer' : Option Reclaiming
        reclaimer' = reclaimer_going m.layout rows l.reclaimer z

        abbrev passing' : Passing
        passing' = passed_going l.passing z

        got_is : got ≡ word_found (place_for m.layout rows z) y.reclamation.words step
        got_is =
            ap (λ f. number_found (slice_index m.words) (op_placed f step)) (place_same z)
            ∙ placed_found (place_for m.layout rows z) (slice_index m.words) step

        goes_as : ((t : ℕ) → held_of v'.core.phase ≡ Some t → v'.reclaimer ≡ reclaimer')
            → ((p : ℕ) (w : Sender E) (t : ℕ) → p ≢ s → slice_get m.senders p ≡ Some w
            → held_of w.core.phase ≡ Some t → l.reclaimer ≡ reclaimer')
            → ((t : ℕ) → held_of v'.core.phase ≡ Some t → v'.passed ≡ passing')
            → ((p : ℕ) (w : Sender E) (t : ℕ) → p ≢ s → slice_get m.senders p ≡ Some w
            → held_of w.core.phase ≡ Some t → l.passing ≡ passing')
            → ((o : Op) → op_due X v (Goes z) word ≡ Some o → register o < length m.words)
            → answer ≡ answer_going X v.core z got word → HasLed (turned (Goes z)) (Goes z)
        goes_as own others own_passed others_passed low given = record {
          owners = (protocol_after X m.layout rows y s v.core (Goes z) word).owners;
          reclaimer = reclaimer';
          holder = holder_after v' reclaimer' own others;
          passing = passing';
          passed = passed_after v' passing' own_passed others_passed;
          led = subst (λ yy. Led X m.layout rows yy (trails_with y s (Goes z) T.pins)
              (actions_with s (due_actions X m.layout rows y v.core (Goes z) word answer) T.actions)
              T.heard (log_due (Goes z)))
              (protocols_same m.bases _ _ _ _ _ _ reclaimer' passing'
              (home_after X v.core z m.home) y.receivers
              (protocol_after X m.layout rows y s v.core (Goes z) word).owners
              (sym (ap (λ f. slice_index (words_after m.words (op_placed f step))) (place_same z)
              ∙ placed_words (place_for m.layout rows z) m.words step
              (λ o i. low o (ap (λ f. op_placed f step) (place_same z) ∙ i))))
              (ap (λ u. put s (pin_going X v.core u z
              (word_found (place_for m.layout rows z) y.reclamation.words step) word)
              y.reclamation.pins) pin_is
              ∙ ap (λ g. put s (pin_going X v.core v.pin z g word) y.reclamation.pins) (sym got_is)
              ∙ sym (list_put pin_in m.senders s (with_rows_again v') within))
              (ap (λ g. put s
              (Some (core_moved (after_step (line_of X v.core z).move) m.home
              (core_going X v.core z g word))) y.senders) (sym got_is)
              ∙ sym (list_put core_in m.senders s (with_rows_again v') within)))
              (led_as (Goes z) e (given ∙ ap (λ g. answer_going X v.core z g word) got_is));
        }

      goes_lead : (z : Situation E) → situation_of X v.core ≡ z → due X v ≡ Goes z
          → ((o : Op) → op_due X v (Goes z) word ≡ Some o → register o < length m.words)
          → answer
          ≡ answer_going X v.core z (number_found (slice_index m.words) (op_due X v (Goes z) word))
          word
          → HasLed (turned (Goes z)) (Goes z)
      goes_lead IsClosed here e =
          goes_as IsClosed here e (λ t f. kept_reclaimer t f) (λ p w t ne there f. refl)
          (λ t f. kept_passed t f) (λ p w t ne there f. refl)
      goes_lead IsIdle here e =
          goes_as IsIdle here e (λ t f. kept_reclaimer t f) (λ p w t ne there f. refl)
          (λ t f. kept_passed t f) (λ p w t ne there f. refl)
      goes_lead IsSpent here e =
          goes_as IsSpent here e (λ t f. kept_reclaimer t f) (λ p w t ne there f. refl)
          (λ t f. kept_passed t f) (λ p w t ne there f. refl)
      goes_lead LooksAtStage here e = goes_as LooksAtStage here e
          (λ t f. kept_reclaimer t (seen_held (slice_index m.words 1) t f))
          (λ p w t ne there f. refl)
          (λ t f. kept_passed t (seen_held (slice_index m.words 1) t f))
          (λ p w t ne there f. refl)
      goes_lead (Elects t g) here e = goes_as (Elects t g) here e
          (λ r f. absurd (elected_held t (X.fed g (got (Elects t g) here e) word)
          (X.owner (X.fed g (got (Elects t g) here e) word)) r f)) (λ p w r ne there f. refl)
          (λ r f. absurd (elected_held t (X.fed g (got (Elects t g) here e) word)
          (X.owner (X.fed g (got (Elects t g) here e) word)) r f)) (λ p w r ne there f. refl)
      goes_lead (TakesPage t) here e = goes_as (TakesPage t) here e
          (λ r f.
          ap (λ x. reclaimer_after (sizes_with x v.rows) t) part.layout
          ∙ ap (λ n. reclaimer_after (sizes_with m.layout n) t) same_rows)
          (at_home l.reclaimer (reclaimer_after (sizes_with m.layout rows) t) t here)
          (λ r f. refl) (at_home l.passing passing_begun t here)
      goes_lead (AwaitsPage t) here e = grind (arith, slice_index, protocol_kept, tells, part)
      goes_lead (StoresWord t page stored) here e =
          let f = tells X v.core (StoresWord t page stored) here in
          goes_as (StoresWord t page stored) here e (λ r g. kept_reclaimer t (ap held_of f.1))
          (λ p w r ne there g. refl) (λ r g. kept_passed t (ap held_of f.1))
          (λ p w r ne there g. refl)
      goes_lead (StoresLength t page stored) here e =
          let f = tells X v.core (StoresLength t page stored) here in
          goes_as (StoresLength t page stored) here e (λ r g. kept_reclaimer t (ap held_of f.1))
          (λ p w r ne there g. refl) (λ r g. kept_passed t (ap held_of f.1))
          (λ p w r ne there g. refl)
      goes_lead (GivesBack t page reason) here e = goes_as (GivesBack t page reason) here e
          (λ r f. refl) (nobody_else l.reclaimer None t (gives_held t page reason here))
          (λ r f. kept_passed t (gives_held t page reason here)) (λ p w r ne there f. refl)
      goes_lead (HasHanded t reason) here e = grind (arith, slice_index, protocol_kept, tells, part)

      by_due : (d : Due E) → due X v ≡ d → IsOnWord m (op_due X v d word)
          → answer ≡ answer_due X v d (number_found (slice_index m.words) (op_due X v d word)) word
          → HasLed (turned d) d
      by_due (Pins o) e low given = pins_lead o e low
      by_due (Reads t p) e low given = reads_lead t p e low given
      by_due (Reclaims r o) e low given = reclaims_lead r o e low
      by_due (Goes z) e low given =
          goes_lead z (due_goes _ _ v.reclaimer (situation_of X v.core) z e)
          e (on_word (op_due X v (Goes z) word) low) given

      -- whoever holds these trails
      pub turn_led : (U : Trails) → IsOnWord m (op_due X v (due X v) word)
          → answer
          ≡ answer_due X v (due X v)
          (number_found (slice_index m.words) (op_due X v (due X v) word)) word
          → U.pins ≡ trails_with y s (due X v) T.pins
          → U.actions
          ≡ actions_with s (due_actions X m.layout rows y v.core (due X v) word answer) T.actions
          → U.heard ≡ T.heard
          → U.log ≡ log_due (due X v)
          → IsLed X rows (turned (due X v)) U
      turn_led U low given pins actions heard log =
          let d = due X v in
          let has = by_due d refl low given in
          let got = number_found (slice_index m.words) (op_due X v d word) in
          let v' = participant_moved (after_step (move_of X v.core d)) m.home
          (participant_due X v d got word) in
          record {
            reuse = l.reuse;
            words = words_many m.words (op_due X v d word) ∙ l.words;
            participants = participants_after rows m.senders l.participants s v' within
                (due_rows d (after_step (move_of X v.core d)) got word ∙ same_rows);
            owners = has.owners;
            reclaimer = has.reclaimer;
            holder = has.holder;
            passing = has.passing;
            passed = has.passed;
            led = grind (arith, common_steps, protocol_of, trails_with, due_actions);
          }

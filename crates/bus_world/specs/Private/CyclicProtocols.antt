-- Senders and receivers of a bus whose rows are used again, in any order: the reclamation, with its
-- pins and the holder's reclaimer, whose words are those of the bus, with the passed places that
-- the holder has loaded, the page, the senders, the receivers and who took the pages. Tenure t uses
-- row t mod rows.
use Rattle.std.specs.Prelude.{◌≡◌, ◌⊎◌, ℕ, ◌<◌, Option, Some, None, List, [], ◌∷◌, ◌++◌, All}
use Rattle.std.specs.Prelude.{true, false, length, slice_index, if◌then◌else◌}
use Rattle.bus_register.specs.declared.kinds.Kind.TheVariants as kind
use Rattle.bus_register.specs.declared.registers.Op.{Op}
use Rattle.bus_register.specs.Words.{register, after}
use Rattle.bus_register.specs.Tables.{put}
use Rattle.bus_batch.specs.Batches.{next_of}
use Rattle.bus_batch.specs.declared.messages.Mark.{Mark}
use Rattle.bus_deliverylog.specs.Receiving.{Receiving, with_leave, receiving_op, leaving_op}
use Rattle.bus_deliverylog.specs.declared.receiving.RecvTurn.{RecvTurn}
use Rattle.bus_presence.specs.Pins.{pin_fed}
use Rattle.bus_presence.specs.Reclaimers.{Reclaiming, reclaim_fed}
use Rattle.bus_presence.specs.Reclamation.{Reclamation, Trails, no_trails, new_reclamation}
use Rattle.bus_presence.specs.Reclamation.{trails_with_entry, number_of_step}
use Rattle.bus_presence.specs.Reclamation.{words_after as reclamation_words}
use Rattle.bus_presence.specs.declared.pins.Pin.TheVariants.{Away}
use Rattle.bus_tenure.specs.Core.{Core, Election, Layout}
use Rattle.bus_tenure.specs.Situations.{Situation, line_of, op_at, kind_at}
use Rattle.bus_tenure.specs.Private.LineParts.{tenure_at, chosen_at}
use Rattle.bus_tenure.specs.declared.pages.Page.{Page}
use Rattle.bus_tenure.specs.declared.turns.Turn.{Turn as Answered}
use Rattle.bus_tenure.specs.declared.turns.Turn.TheVariants as turn
use Rattle.bus_core.specs.Private.Bridge.{publishes_of}
use Rattle.bus_core.specs.Reusing.Participants.{log_from}
use Rattle.bus_core.specs.Private.ParticipantTable.{Due, Pins, Reads, Reclaims, Goes, due_of}
use Rattle.bus_core.specs.Private.ParticipantTable.{place_for, passed_op, core_looked, core_going}
use Rattle.bus_core.specs.Private.ParticipantTable.{pin_going, reclaimer_going, passed_going}
use Rattle.bus_core.specs.Private.ParticipantTable.{answer_going}
use Rattle.bus_core.specs.Reusing.Passing.{passing_begun, passing_fed, core_passed}
use Rattle.bus_core.specs.declared.reuses.Passing.{Passing}
use Rattle.bus_world.specs.Turning.{core_moved, after_step}
use Rattle.bus_world.specs.Private.Machines.{home_after, owners_after, new_core, can_put, can_close}
use Rattle.bus_world.specs.Private.Machines.{put_in, mark_in}
use Rattle.bus_world.specs.Headline.{Action, HasPut, HasMarked}
use Rattle.bus_world.specs.Log.{ring_numbers, words_of_frame}
use Rattle.bus_world.specs.Trails.{step_action, no_actions, no_answers, actions_with, answers_with}
use Rattle.bus_world.specs.Trails.{answers_joined}
use Rattle.bus_world.specs.Starting.{IsNewReceiver}
use Rattle.bus_world.specs.World.{AreBases, first_page, RecvDoes}
use Rattle.bus_world.specs.Floors.{passed_of, passed_place}

pub record CyclicProtocol (E : Type 0) : Type 0 where
  -- the number of each sender's first message
  pub bases : List ℕ
  pub reclamation : Reclamation
  -- what the holder has loaded of the passed places
  pub passing : Passing
  pub home : Option Page
  pub senders : ℕ → Option (Core E)
  pub receivers : ℕ → Option Receiving
  -- who took the page, by tenure
  pub owners : List ℕ

-- ---- a step on the word that lies at another place
abbrev pub words_stepped : (ℕ → ℕ) → (ℕ → ℕ) → Option Op → ℕ → ℕ
words_stepped place words None = words
words_stepped place words (Some o) =
    put (place (register o)) (after o (words (place (register o)))) words

abbrev pub word_found : (ℕ → ℕ) → (ℕ → ℕ) → Option Op → ℕ
word_found place words None = 0
word_found place words (Some o) = words (place (register o))

-- ---- a turn of sender p, which held this, with this random word
abbrev pub protocol_pin_stepped : {E : Type 0} → Election E → CyclicProtocol E → ℕ → Core E → Op
    → CyclicProtocol E
protocol_pin_stepped X y p c o = record y {
  reclamation = record y.reclamation {
    words = reclamation_words y.reclamation o;
    pins =
        put p (pin_fed (y.reclamation.pins p) (number_of_step y.reclamation o)) y.reclamation.pins;
  };
  senders = put p (Some (core_looked X c (y.reclamation.pins p) (number_of_step y.reclamation o)))
      y.senders;
}

abbrev pub protocol_reclaimed : {E : Type 0} → CyclicProtocol E → Reclaiming → Op → CyclicProtocol E
protocol_reclaimed y s o = record y {
  reclamation = record y.reclamation {
    words = reclamation_words y.reclamation o;
    reclaimer = Some (reclaim_fed s (number_of_step y.reclamation o));
  };
}

-- with a passed place, of which these are loaded before it
abbrev pub protocol_passed : {E : Type 0} → CyclicProtocol E → ℕ → Core E → Passing → Op
    → CyclicProtocol E
protocol_passed y p c l o = record y {
  passing = passing_fed l (number_of_step y.reclamation o);
  senders =
      put p (Some (core_passed c (passing_fed l (number_of_step y.reclamation o)))) y.senders;
}

-- as a sender that has a row for each tenure, in this situation
abbrev pub protocol_after_going : {E : Type 0} → Election E → Layout → ℕ → CyclicProtocol E → ℕ
    → Core E → Situation E → ℕ → CyclicProtocol E
protocol_after_going X x rows y p c z word = record y {
  reclamation = record {
    words = words_stepped (place_for x rows z) y.reclamation.words (op_at X c z word);
    pins = put p (pin_going X c (y.reclamation.pins p) z
        (word_found (place_for x rows z) y.reclamation.words (op_at X c z word)) word)
        y.reclamation.pins;
    reclaimer = reclaimer_going x rows y.reclamation.reclaimer z;
  };
  passing = passed_going y.passing z;
  home = home_after X c z y.home;
  senders = put p
      (Some (core_moved (after_step (line_of X c z).move) y.home
      (core_going X c z (word_found (place_for x rows z) y.reclamation.words (op_at X c z word))
      word))) y.senders;
  owners = owners_after X c z p y.owners;
}

abbrev pub protocol_after : {E : Type 0} → Election E → Layout → ℕ → CyclicProtocol E → ℕ → Core E
    → Due E → ℕ → CyclicProtocol E
protocol_after X x rows y p c (Pins o) word = protocol_pin_stepped X y p c o
protocol_after X x rows y p c (Reads t l) word = protocol_passed y p c l (passed_op x rows l)
protocol_after X x rows y p c (Reclaims s o) word = protocol_reclaimed y s o
protocol_after X x rows y p c (Goes z) word = protocol_after_going X x rows y p c z word

-- ---- a step of receiver r, or none, which leaves this
abbrev pub protocol_heard : {E : Type 0} → CyclicProtocol E → ℕ → Option Op → Receiving
    → CyclicProtocol E
protocol_heard y r o next = record y {
  reclamation = record y.reclamation { words = words_stepped (λ q. q) y.reclamation.words o };
  receivers = put r (Some next) y.receivers;
}

-- ---- a receiver joins
-- with the number j, whose passed place shows from then on what it has passed
abbrev pub protocol_joined : {E : Type 0} → Layout → ℕ → CyclicProtocol E → ℕ → Receiving
    → CyclicProtocol E
protocol_joined x rows y j next = record y {
  reclamation = record y.reclamation {
    words = put (passed_place x rows j) next.passed y.reclamation.words;
  };
  receivers = put j (Some next) y.receivers;
}

-- by a fork it is what this receiver is, but for where its passed place stands
abbrev pub fork_of : Layout → ℕ → ℕ → Receiving → Receiving
fork_of x rows j v = record v { passed_at = passed_of x rows j }

-- the step of a pin joins the trail of its sender
abbrev pub trails_with : {E : Type 0} → CyclicProtocol E → ℕ → Due E → Trails → Trails
trails_with y p (Pins o) T =
    trails_with_entry T p record { op = o; got = number_of_step y.reclamation o }
trails_with y p (Reads t l) T = T
trails_with y p (Reclaims s o) T = T
trails_with y p (Goes z) T = T

-- ---- what a sender does
-- Its actions, but for the steps of pins and of reclaimers, of which a pin's stand in the trail of
-- the reclamation.
abbrev pub going_actions : {E : Type 0} → Election E → Layout → ℕ → CyclicProtocol E → Core E
    → Situation E → ℕ → Answered → List Action
going_actions X x rows y c z word answer =
    let got = word_found (place_for x rows z) y.reclamation.words (op_at X c z word) in
    step_action (kind_at X c z) (tenure_at X c z) got (chosen_at X c z got word) answer

abbrev pub due_actions : {E : Type 0} → Election E → Layout → ℕ → CyclicProtocol E → Core E → Due E
    → ℕ → Answered → List Action
due_actions X x rows y c (Pins o) word answer = []
due_actions X x rows y c (Reads t l) word answer = step_action (Some kind.ReadPassed) (Some t)
    (number_of_step y.reclamation (passed_op x rows l)) None answer
due_actions X x rows y c (Reclaims s o) word answer = []
due_actions X x rows y c (Goes z) word answer = going_actions X x rows y c z word answer

-- What a turn answers that adds an action: what is due of what its step found. Of a turn that adds
-- none nothing is said here.
abbrev pub AnswersDue : {E : Type 0} → Election E → Layout → ℕ → CyclicProtocol E → Core E → Due E
    → ℕ → Answered → Type 0
AnswersDue X x rows y c (Pins o) word answer = Unit {0}
AnswersDue X x rows y c (Reads t l) word answer = answer ≡ turn.Going
AnswersDue X x rows y c (Reclaims s o) word answer = Unit {0}
AnswersDue X x rows y c (Goes z) word answer =
    answer
    ≡ answer_going X c z (word_found (place_for x rows z) y.reclamation.words (op_at X c z word))
    word

-- ---- what leads to such a protocol
-- nothing has happened: words of zero, the page at home, senders and receivers at their starts
pub record IsNewProtocol {E : Type 0} (x : Layout) (rows : ℕ) (y : CyclicProtocol E) : Type 0 where
  pub bases_are : AreBases y.bases
  pub reclamation : y.reclamation ≡ new_reclamation
  pub passing : y.passing ≡ passing_begun
  pub home : y.home ≡ Some (first_page y.bases)
  pub senders : (p : ℕ) (c : Core E) → y.senders p ≡ Some c
      → (p < x.senders) × (c ≡ new_core x (slice_index y.bases p) p)
  pub receivers : (r : ℕ) (v : Receiving) → y.receivers r ≡ Some v
      → IsNewReceiver x.senders (log_from x rows) x.capacity (passed_of x rows r) v
  -- where words of the log are used again each receiver has a passed place, and numbers begin low
  -- enough for all tenures
  pub many : (r : ℕ) (v : Receiving) → y.receivers r ≡ Some v
      → (x.passers ≡ 0) ⊎ (r < x.passers)
  pub ring_bases : 0 < x.passers → (s : ℕ) → slice_index y.bases s < ring_numbers x.batch
  pub owners : y.owners ≡ []

-- the turn that sender p takes next, which holds this
abbrev pub due_in : {E : Type 0} → Election E → Layout → ℕ → CyclicProtocol E → ℕ → Core E → Due E
due_in X x rows y p c =
    due_of X x rows p c (y.reclamation.pins p) y.passing y.reclamation.reclaimer

-- These trails, actions, answers and published words lead to a protocol: from a new one, by one
-- thing after another, of anybody and in any order. A sender takes a turn with any random word; or
-- one that pins no tenure puts a message, closes or leaves; or a receiver takes a turn, or leaves
-- for good, each with the step that it takes if any, and takes none after it has left. Or a
-- receiver joins, with a number whose receiver has left: one that has not left forks, and gives its
-- place to a higher number. Where there are no passed places that takes no step.
pub data Led {E : Type 0} (X : Election E) (x : Layout) (rows : ℕ) : CyclicProtocol E → Trails
    → (ℕ → List Action) → (ℕ → List RecvTurn) → List ℕ → Type 0 where
  NewProtocol : (y : CyclicProtocol E) → IsNewProtocol x rows y
      → Led X x rows y no_trails no_actions no_answers []
  Turned : (y : CyclicProtocol E) (T : Trails) (D : ℕ → List Action) (H : ℕ → List RecvTurn)
      (L : List ℕ) (p : ℕ) (c : Core E) (word : ℕ) (answer : Answered) → Led X x rows y T D H L
      → y.senders p ≡ Some c → AnswersDue X x rows y c (due_in X x rows y p c) word answer
      → Led X x rows (protocol_after X x rows y p c (due_in X x rows y p c) word)
      (trails_with y p (due_in X x rows y p c) T)
      (actions_with p (due_actions X x rows y c (due_in X x rows y p c) word answer) D) H
      (L ++ words_of_frame (publishes_of X c (due_in X x rows y p c)))
  PutIn : (y : CyclicProtocol E) (T : Trails) (D : ℕ → List Action) (H : ℕ → List RecvTurn)
      (L : List ℕ) (p : ℕ) (c : Core E) (bytes : List ℕ) → Led X x rows y T D H L
      → y.senders p ≡ Some c → y.reclamation.pins p ≡ Away → All (λ byte. byte < 256) bytes
      → Led X x rows (record y { senders = put p (Some (put_in c bytes)) y.senders }) T
      (actions_with p
      (if can_put c.queue (length bytes) then HasPut (next_of c.queue) bytes ∷ [] else []) D) H L
  MarkedIn : (y : CyclicProtocol E) (T : Trails) (D : ℕ → List Action) (H : ℕ → List RecvTurn)
      (L : List ℕ) (p : ℕ) (c : Core E) (mark : Mark) → Led X x rows y T D H L
      → y.senders p ≡ Some c → y.reclamation.pins p ≡ Away
      → Led X x rows (record y { senders = put p (Some (mark_in c mark)) y.senders }) T
      (actions_with p (if can_close c.queue then HasMarked mark ∷ [] else []) D) H L
  Heard : (y : CyclicProtocol E) (T : Trails) (D : ℕ → List Action) (H : ℕ → List RecvTurn)
      (L : List ℕ) (r : ℕ) (v next : Receiving) (answer : RecvTurn) → Led X x rows y T D H L
      → y.receivers r ≡ Some v → v.gone ≡ false → RecvDoes y.reclamation.words v answer next
      → Led X x rows (protocol_heard y r (receiving_op v) next) T D (answers_with r answer H) L
  LeftFor : (y : CyclicProtocol E) (T : Trails) (D : ℕ → List Action) (H : ℕ → List RecvTurn)
      (L : List ℕ) (r : ℕ) (v : Receiving) → Led X x rows y T D H L
      → y.receivers r ≡ Some v → v.gone ≡ false
      → Led X x rows (protocol_heard y r (leaving_op v) (with_leave v)) T D H L
  Forked : (y : CyclicProtocol E) (T : Trails) (D : ℕ → List Action) (H : ℕ → List RecvTurn)
      (L : List ℕ) (i j n : ℕ) (v w : Receiving) → Led X x rows y T D H L
      → y.receivers i ≡ Some v → v.gone ≡ false → y.receivers j ≡ Some w → w.gone ≡ true
      → i < j → j < x.passers → y.receivers n ≡ None → H n ≡ []
      → Led X x rows (protocol_joined x rows y j (fork_of x rows j v)) T D
      (answers_joined (H i) j n H) L
  Copied : (y : CyclicProtocol E) (T : Trails) (D : ℕ → List Action) (H : ℕ → List RecvTurn)
      (L : List ℕ) (i j n : ℕ) (v w : Receiving) → Led X x rows y T D H L → x.passers ≡ 0
      → y.receivers i ≡ Some v → v.gone ≡ false → y.receivers j ≡ Some w
      → y.receivers n ≡ None → H n ≡ []
      → Led X x rows (record y { receivers = put j (Some (fork_of x rows j v)) y.receivers }) T D
      (answers_joined (H i) j n H) L

-- How events extend the trails, which trails lead to a bus with a row for each tenure, and what is
-- promised of it then.
use Rattle.std.specs.Prelude.{◌≡◌, ◌≤◌, ℕ, Option, Some, None, List, [], ◌∷◌, ◌++◌, slice_index}
use Rattle.std.specs.Prelude.{if◌then◌else◌, ◌==◌, slice_get, slice_set, length, All}
use Rattle.bus_register.specs.declared.registers.SenderNo.{SenderNo}
use Rattle.bus_batch.specs.Frames.{Order, Spells, items_of}
use Rattle.bus_deliverylog.specs.Receiving.{Receiving}
use Rattle.bus_deliverylog.specs.declared.receiving.RecvTurn.{RecvTurn}
use Rattle.bus_tenure.specs.Core.{Core, Election, Layout, log_at}
use Rattle.bus_tenure.specs.Situations.{Situation, situation_of, line_of, kind_at, op_at}
use Rattle.bus_tenure.specs.Private.LineParts.{tenure_at, chosen_at}
use Rattle.bus_world.specs.Headline.{Action, Promises}
use Rattle.bus_world.specs.Log.{words_read_from, words_of_frame}
use Rattle.bus_world.specs.Turning.{number_found}
use Rattle.bus_world.specs.Private.Machines.{Bus, going, IsEvent, Happens, IsNew}
use Rattle.bus_world.specs.World.{Event, Put, Ask, Turn, Recv, Stop, Gone}
use Rattle.bus_world.specs.Private.Answers.{Answers}
use Rattle.bus_world.specs.declared.events.Answer.{Answer}
use Rattle.bus_world.specs.declared.events.Answer.TheVariants as answer
use Rattle.bus_world.specs.Trails.{step_action, put_actions, mark_actions, Takers}
use Rattle.bus_world.specs.Trails.{answers_joined}

-- what a turn of a sender in this situation adds to its trail, where its step found this number and
-- this is its answer
abbrev pub turn_actions : {E : Type 0} → Election E → Core E → Situation E → ℕ → ℕ → Answer
    → List Action
turn_actions X c z got word (answer.Number n) = []
turn_actions X c z got word answer.Closing = []
turn_actions X c z got word answer.Leaving = []
turn_actions X c z got word (answer.Turn t) =
    step_action (kind_at X c z) (tenure_at X c z) got (chosen_at X c z got word) t
turn_actions X c z got word (answer.Recv t) = []
turn_actions X c z got word answer.Stopped = []
turn_actions X c z got word answer.Gone = []

-- of the sender that there is
abbrev pub turning_actions : {E : Type 0} → Election E → List ℕ → Option (Core E) → ℕ → Answer
    → List Action
turning_actions X words None word a = []
turning_actions X words (Some c) word a = turn_actions X c (situation_of X c)
    (number_found (slice_index words) (op_at X c (situation_of X c) word)) word a

-- what an event with this answer adds to the trail of sender q: a stop is no action, and a receiver
-- that leaves no sender's
abbrev pub actions_of : {E : Type 0} → Election E → Bus E → Event → Answer → ℕ → List Action
actions_of X b (Put s bytes) a q = if q == s then put_actions bytes a else []
actions_of X b (Ask s asked) a q = if q == s then mark_actions a else []
actions_of X b (Turn s word) a q =
    if q == s then turning_actions X b.side.words (going b s) word a else []
actions_of X b (Recv r) a q = []
actions_of X b (Stop s) a q = []
actions_of X b (Gone r) a q = []

abbrev pub answer_heard : Answer → List RecvTurn
answer_heard (answer.Number n) = []
answer_heard answer.Closing = []
answer_heard answer.Leaving = []
answer_heard (answer.Turn t) = []
answer_heard (answer.Recv t) = t ∷ []
answer_heard answer.Stopped = []
answer_heard answer.Gone = []

-- what an event and its answer add to the trail of a receiver
abbrev pub heard_of : Event → Answer → ℕ → List RecvTurn
heard_of (Put s bytes) a q = []
heard_of (Ask s asked) a q = []
heard_of (Turn s word) a q = []
heard_of (Recv r) a q = if q == r then answer_heard a else []
heard_of (Stop s) a q = []
heard_of (Gone r) a q = []

-- all that was published, with the frame of this sender where its next turn stores a length
abbrev pub log_by : {E : Type 0} → Election E → Option (Core E) → List ℕ → List ℕ
log_by X None log = log
log_by X (Some c) log = log ++ words_of_frame (line_of X c (situation_of X c)).publishes

-- with an event: no other than a turn publishes anything
abbrev pub event_log : {E : Type 0} → Election E → Bus E → Event → List ℕ → List ℕ
event_log X b (Put s bytes) log = log
event_log X b (Ask s asked) log = log
event_log X b (Turn s word) log = log_by X (going b s) log
event_log X b (Recv r) log = log
event_log X b (Stop s) log = log
event_log X b (Gone r) log = log

-- ---- the trails of all
pub record Trails : Type 0 where
  pub actions : ℕ → List Action
  pub heard : ℕ → List RecvTurn
  -- all words that were ever published
  pub log : List ℕ

abbrev pub no_trails : Trails
no_trails = record { actions = λ s. []; heard = λ r. []; log = [] }

abbrev pub trails_grown : {E : Type 0} → Election E → Bus E → Event → Answer → Trails → Trails
trails_grown X b e a T = record {
  actions = λ s. T.actions s ++ actions_of X b e a s;
  heard = λ r. T.heard r ++ heard_of e a r;
  log = event_log X b e T.log;
}

-- These trails lead to this bus: from a new one, of which nothing has happened, by one event after
-- another, and by receivers that join: one is copied to another number, and counts as given to it
-- what was given to its maker. That takes no step.
pub data Reached {E : Type 0} (X : Election E) (bases : List ℕ) (x : Layout) : Bus E → Trails
    → Type 0 where
  New : (b : Bus E) → IsNew bases x b → Reached X bases x b no_trails
  Then : (b b' : Bus E) (T : Trails) (e : Event) (a : Answer) → Reached X bases x b T → IsEvent e
      → Happens X b e b' → Answers X b e a b' → Reached X bases x b' (trails_grown X b e a T)
  Copied : (b : Bus E) (T : Trails) (i j n : ℕ) (v w : Receiving) → Reached X bases x b T
      → slice_get b.receivers i ≡ Some v → slice_get b.receivers j ≡ Some w
      → slice_get b.receivers n ≡ None → T.heard n ≡ []
      → Reached X bases x (record b { receivers = slice_set b.receivers j v })
      (record T { heard = answers_joined (T.heard i) j n T.heard })

-- ---- what is promised of a bus
-- the promise holds of these trails, with the order and the owners that all that was published
-- spells, which stands in the words below the length
pub record IsPromisedBy {E : Type 0} (bases : List ℕ) (x : Layout) (b : Bus E) (T : Trails)
    (order : Order) (owners : List (ℕ × SenderNo)) : Type 0 where
  pub spelled : Spells x.senders T.log order owners
  -- none of whose frames has more messages than a batch may have
  pub few : All (λ f. length (items_of f) ≤ x.batch) spelled.frames
  pub shows : words_read_from (slice_index b.side.words) (log_at x) (slice_index b.side.words 0)
      ≡ T.log
  pub takers : Takers b.side.owners T.actions
  pub promises : Promises (slice_index bases) T.actions T.heard order owners

-- The bus as a machine that plays events, with a row of words for each tenure or with rows that are
-- used again; and which trails lead to it.
use Rattle.std.specs.Prelude.{◌≡◌, ◌⊎◌, ℕ, ◌+◌, ◌-◌, ◌*◌, ◌<◌, Bool, true, false, Option}
use Rattle.std.specs.Prelude.{Some}
use Rattle.std.specs.Prelude.{None, List, nat_lt}
use Rattle.std.specs.Prelude.{[], ◌∷◌, ◌++◌, All, drop, length, slice_get, slice_index, slice_set}
use Rattle.std.specs.Prelude.{replicate, if◌then◌else◌, ◌==◌}
use Rattle.bus_register.specs.declared.limits.TheConstants.{PASSED_ALL}
use Rattle.bus_register.specs.declared.registers.Op.{Op}
use Rattle.bus_register.specs.Words.{register}
use Rattle.bus_batch.specs.Batches.{next_of, CanPut, CanClose}
use Rattle.bus_batch.specs.declared.batches.Phase.TheVariants.{Marking}
use Rattle.bus_batch.specs.declared.messages.Mark.{Mark}
use Rattle.bus_deliverylog.specs.Receiving.{Receiving, with_leave, receiving_op, leaving_op}
use Rattle.bus_deliverylog.specs.Receiving.{joining_op, forked_at}
use Rattle.bus_deliverylog.specs.declared.receiving.RecvTurn.{RecvTurn}
use Rattle.bus_presence.specs.Reclamation.{Trails as Entries, no_trails, trails_with_entry}
use Rattle.bus_tenure.specs.Core.{Election, Layout, log_at, stage_at}
use Rattle.bus_tenure.specs.Situations.{PageMove}
use Rattle.bus_tenure.specs.declared.pages.Page.{Page}
use Rattle.bus_tenure.specs.declared.turns.Turn.{Turn as Answered}
use Rattle.bus_core.specs.declared.limits.TheConstants.{PASSED_APART}
use Rattle.bus_core.specs.Keeping.{queue_of, new_sender}
use Rattle.bus_core.specs.Senders.{Sender, Situation, Does, Announces, Validates, Unpins}
use Rattle.bus_core.specs.Senders.{Withdraws, Scans, Clears, ReadsPassed, situation}
use Rattle.bus_core.specs.Table.{Line, line_now}
use Rattle.bus_core.specs.Reusing.Participants.{log_from, passed_from}
use Rattle.bus_world.specs.Headline.{Action}
use Rattle.bus_world.specs.Log.{words_read_from, words_in_ring, floor_shown, ring_numbers}
pub use Rattle.bus_world.specs.Log.{words_of_frame}
use Rattle.bus_world.specs.Playing.{asked_answer}
use Rattle.bus_world.specs.Trails.{step_action, put_actions, mark_actions, no_actions, no_answers}
use Rattle.bus_world.specs.Trails.{actions_with, answers_with, answers_joined}
use Rattle.bus_world.specs.Turning.{words_after, number_found, home_moved, core_moved, after_step}
use Rattle.bus_world.specs.Turning.{owners_by}
use Rattle.bus_world.specs.Starting.{IsNewReceiver}
use Rattle.bus_world.specs.World.{Event, Put, Ask, Turn, Recv, Stop, Gone, is_set, no_stops}
use Rattle.bus_world.specs.World.{AreBases, first_page, RecvDoes, FindsIn, recv_found}
use Rattle.bus_world.specs.declared.events.Answer.{Answer}
use Rattle.bus_world.specs.declared.events.Answer.TheVariants as answer

pub record Machine (E : Type 0) : Type 0 where
  pub layout : Layout
  -- how many rows are used again: None where each tenure has a row
  pub reuse : Option ℕ
  -- the numbers that the sitting began with, by sender
  pub bases : List ℕ
  pub words : List ℕ
  pub home : Option Page
  pub senders : List (Sender E)
  pub receivers : List Receiving
  -- of each sender whether it has stopped
  pub stopped : List Bool
  -- who took the pages, by tenure: all of them, or the last, of which there are at most as many as
  -- rows that are used again
  pub owners : List ℕ

-- the number of a sender's first message
abbrev pub base_of : {E : Type 0} → Machine E → ℕ → ℕ
base_of m = slice_index m.bases

-- where the log begins
abbrev pub log_place : Layout → Option ℕ → ℕ
log_place x None = log_at x
log_place x (Some rows) = log_from x rows

-- where the passed places begin; where each tenure has a row there are none
abbrev pub passers_place : Layout → Option ℕ → ℕ
passers_place x None = log_at x
passers_place x (Some rows) = passed_from x rows

-- the place of the passed place of receiver r, if it has one
abbrev pub passed_by : Layout → Option ℕ → ℕ → Option ℕ
passed_by x o r =
    if nat_lt r x.passers then Some (passers_place x o + PASSED_APART * r) else None

-- From this place on all words of the log stand: the least that a receiver has passed, and the
-- length where all have left. Where no word of the log is used again it is the first.
abbrev pub floor_of : {E : Type 0} → Machine E → ℕ
floor_of b =
    floor_shown (slice_index b.words) (passers_place b.layout b.reuse) b.layout.passers
    (slice_index b.words 0)

-- the words of the log from its floor up to the length, each in its cell
abbrev pub log_of : {E : Type 0} → Machine E → List ℕ
log_of b =
    words_in_ring (slice_index b.words) (log_place b.layout b.reuse) b.layout.capacity (floor_of b)
    (slice_index b.words 0 - floor_of b)

-- the length and the cells show this as all that was ever published: so many words, of which those
-- from the floor on stand
abbrev pub ShowsLog : {E : Type 0} → Machine E → List ℕ → Type 0
ShowsLog b log = (slice_index b.words 0 ≡ length log) × (log_of b ≡ drop (floor_of b) log)

-- The length counts all that is published now. What was published since stands in its cells, the
-- first word behind the last one of what was published before.
abbrev pub ShowsPublished : {E : Type 0} → Machine E → List ℕ → List ℕ → Type 0
ShowsPublished b before after =
    (slice_index b.words 0 ≡ length after)
    × (after
    ≡ before ++ words_in_ring (slice_index b.words) (log_place b.layout b.reuse) b.layout.capacity
    (length before) (slice_index b.words 0 - length before))

-- the words of the log below the length, where no word of the log is used again
abbrev pub words_below : {E : Type 0} → Machine E → List ℕ
words_below b =
    words_read_from (slice_index b.words) (log_place b.layout b.reuse) (slice_index b.words 0)

-- where no word of the log is used again all that was ever published stands in them, in its order
abbrev pub StandsBelow : {E : Type 0} → Machine E → List ℕ → Type 0
StandsBelow b log = b.layout.passers ≡ 0 → words_below b ≡ log

-- a receiver that has not left finds with its load the word that was published at its place, or how
-- many were
abbrev pub FindsWords : {E : Type 0} → Machine E → List ℕ → Type 0
FindsWords b log =
    (r : ℕ) (v : Receiving) → slice_get b.receivers r ≡ Some v → v.gone ≡ false
    → FindsIn log v (recv_found (slice_index b.words) v)

-- a receiver stores in the passed place that the layout has for it, if it has one, and that shows
-- the place that it has passed, and 2^64 - 1 once it has left
abbrev pub ShowsPassed : {E : Type 0} → Machine E → Type 0
ShowsPassed b =
    (r : ℕ) (v : Receiving) → slice_get b.receivers r ≡ Some v
    → (v.passed_at ≡ passed_by b.layout b.reuse r)
    × ((place : ℕ) → passed_by b.layout b.reuse r ≡ Some place
    → slice_index b.words place ≡ (if v.gone then PASSED_ALL else v.passed))

-- twice the tenure that is open, and one more while its page is out
abbrev pub stage_of : {E : Type 0} → Machine E → ℕ
stage_of b = slice_index b.words stage_at

-- the last of a list, at most so many
abbrev pub last_of : ℕ → List ℕ → List ℕ
last_of many owners = drop (length owners - many) owners

-- those who took the pages that a machine still tells, of all by tenure
abbrev pub owners_told : Option ℕ → List ℕ → List ℕ
owners_told None owners = owners
owners_told (Some rows) owners = last_of rows owners

-- the sender s has stopped
abbrev pub has_stopped : {E : Type 0} → Machine E → ℕ → Bool
has_stopped b s = is_set (slice_get b.stopped s)

-- the sender s, if there is one and it has not stopped
abbrev pub going : {E : Type 0} → Machine E → ℕ → Option (Sender E)
going b s = if has_stopped b s then None else slice_get b.senders s

abbrev pub with_sender : {E : Type 0} → Machine E → ℕ → Sender E → Machine E
with_sender b s v = record b { senders = slice_set b.senders s v }

abbrev pub put_in : {E : Type 0} → Sender E → List ℕ → Sender E
put_in v bytes = record v {
  core = record v.core {
    queue = record v.core.queue { messages = v.core.queue.messages ++ bytes ∷ [] };
  };
}

abbrev pub mark_in : {E : Type 0} → Sender E → Mark → Sender E
mark_in v mark =
    record v { core = record v.core { queue = record v.core.queue { phase = Marking mark } } }

-- a sender, with the page laid before it where it has taken it
abbrev pub moved : {E : Type 0} → PageMove → Option Page → Sender E → Sender E
moved move home v = record v { core = core_moved move home v.core }

-- ---- a turn of sender s by this line, with this random word
-- what its step finds
abbrev pub found : {E : Type 0} → Machine E → Line E → ℕ → ℕ
found b l word = number_found (slice_index b.words) (l.op word)

abbrev pub turn_answer : {E : Type 0} → Machine E → Line E → ℕ → Answered
turn_answer b l word = l.answer (found b l word) word

abbrev pub machine_after : {E : Type 0} → Machine E → ℕ → Line E → ℕ → Machine E
machine_after b s l word =
    record b {
      words = words_after b.words (l.op word);
      home = home_moved l.move b.home;
      senders =
          slice_set b.senders s (moved (after_step l.move) b.home (l.fed (found b l word) word));
      owners = owners_told b.reuse (owners_by (turn_answer b l word) s b.owners);
    }

-- ---- what happens with an event that is answered
-- a step, if one is due, is on a word of the bus
abbrev pub IsOnWord : {E : Type 0} → Machine E → Option Op → Type 0
IsOnWord b None = Unit {0}
IsOnWord b (Some o) = register o < length b.words

-- a sender that goes on takes a turn
pub record TakesTurn {E : Type 0} (X : Election E) (old : Machine E) (s word : ℕ) (a : Answer)
    (new : Machine E) : Type 0 where
  pub sender : Sender E
  pub goes : going old s ≡ Some sender
  pub within : IsOnWord old ((line_now X sender).op word)
  pub answered : a ≡ answer.Turn (turn_answer old (line_now X sender) word)
  pub after : new ≡ machine_after old s (line_now X sender) word

-- it takes a message into its batch, and answers the number of the message
pub record TakesPut {E : Type 0} (old : Machine E) (s : ℕ) (bytes : List ℕ) (a : Answer)
    (new : Machine E) : Type 0 where
  pub sender : Sender E
  pub goes : going old s ≡ Some sender
  pub are_bytes : All (λ byte. byte < 256) bytes
  pub can : CanPut (queue_of sender.core.queue sender.reuse) (length bytes)
  pub answered : a ≡ answer.Number (next_of sender.core.queue)
  pub after : new ≡ with_sender old s (put_in sender bytes)

-- it lets this mark wait, and answers that it does
pub record TakesMark {E : Type 0} (old : Machine E) (s : ℕ) (mark : Mark) (a : Answer)
    (new : Machine E) : Type 0 where
  pub sender : Sender E
  pub goes : going old s ≡ Some sender
  pub can : CanClose (queue_of sender.core.queue sender.reuse)
  pub answered : a ≡ asked_answer mark
  pub after : new ≡ with_sender old s (mark_in sender mark)

-- it stops, which changes nothing else
pub record StopsNow {E : Type 0} (old : Machine E) (s : ℕ) (a : Answer) (new : Machine E) :
    Type 0 where
  pub sender : Sender E
  pub goes : going old s ≡ Some sender
  pub answered : a ≡ answer.Stopped
  pub after : new ≡ record old { stopped = slice_set old.stopped s true }

-- a receiver that has not left takes a turn
pub record Hears {E : Type 0} (old : Machine E) (r : ℕ) (a : Answer) (new : Machine E) :
    Type 0 where
  pub receiver : Receiving
  pub next : Receiving
  pub heard : RecvTurn
  pub there : slice_get old.receivers r ≡ Some receiver
  pub stays : receiver.gone ≡ false
  pub within : IsOnWord old (receiving_op receiver)
  pub does : RecvDoes (slice_index old.words) receiver heard next
  pub answered : a ≡ answer.Recv heard
  pub after : new ≡ record old {
    words = words_after old.words (receiving_op receiver);
    receivers = slice_set old.receivers r next;
  }

-- it leaves for good, with a store of 2^64 - 1 in its passed place, if it has one; without one this
-- is no step
pub record LeavesForGood {E : Type 0} (old : Machine E) (r : ℕ) (a : Answer) (new : Machine E) :
    Type 0 where
  pub receiver : Receiving
  pub there : slice_get old.receivers r ≡ Some receiver
  pub stays : receiver.gone ≡ false
  pub within : IsOnWord old (leaving_op receiver)
  pub answered : a ≡ answer.Gone
  pub after : new ≡ record old {
    words = words_after old.words (leaving_op receiver);
    receivers = slice_set old.receivers r (with_leave receiver);
  }

-- ---- a receiver joins
-- what receiver j is from then on that a receiver has made which is v
abbrev pub fork_in : {E : Type 0} → Machine E → ℕ → Receiving → Receiving
fork_in b j v = forked_at (passed_by b.layout b.reuse j) v

-- Receiver i, which has not left, forks to a higher number j, and `did` says whether that is done.
-- It is exactly where the last receiver of that number has left. The one step is a compare_exchange
-- on the passed place of j, from 2^64 - 1 to what i has passed, and says the same; where there are
-- no passed places it is none. The new one is just what its maker is, but for its passed place, and
-- nothing else has changed.
pub record Forks {E : Type 0} (old : Machine E) (i j : ℕ) (did : Bool) (new : Machine E) :
    Type 0 where
  pub maker : Receiving
  pub there : slice_get old.receivers i ≡ Some maker
  pub stays : maker.gone ≡ false
  pub up : i < j
  pub last : Receiving
  pub was : slice_get old.receivers j ≡ Some last
  pub free : did ≡ last.gone
  pub within : IsOnWord old (joining_op (fork_in old j maker))
  pub finds : (place : ℕ) → passed_by old.layout old.reuse j ≡ Some place
      → did ≡ (slice_index old.words place == PASSED_ALL)
  pub after : new ≡ record old {
    words = words_after old.words (joining_op (fork_in old j maker));
    receivers =
        if did then slice_set old.receivers j (fork_in old j maker) else old.receivers;
  }

-- Event e happens, a is its answer, and new is what is left. Nothing is assumed of who is
-- scheduled, of the random words, or of who stops or leaves.
abbrev pub Happens : {E : Type 0} → Election E → Machine E → Event → Answer → Machine E → Type 0
Happens X old (Put s bytes) a new = TakesPut old s bytes a new
Happens X old (Ask s mark) a new = TakesMark old s mark a new
Happens X old (Turn s word) a new = TakesTurn X old s word a new
Happens X old (Recv r) a new = Hears old r a new
Happens X old (Stop s) a new = StopsNow old s a new
Happens X old (Gone r) a new = LeavesForGood old r a new

-- ---- what happened: the steps of pins and of reclamations, the actions of senders, the answers of
-- receivers
pub record Trails : Type 0 where
  pub pins : Entries
  pub reclaims : Entries
  pub actions : ℕ → List Action
  pub heard : ℕ → List RecvTurn
  -- all words that were ever published
  pub log : List ℕ

abbrev pub no_machine_trails : Trails
no_machine_trails = record {
  pins = no_trails;
  reclaims = no_trails;
  actions = no_actions;
  heard = no_answers;
  log = [];
}

abbrev pub entered : Entries → ℕ → Option Op → ℕ → Entries
entered T s None got = T
entered T s (Some o) got = trails_with_entry T s record { op = o; got = got }

-- what is published, with a step by this line
abbrev pub log_grown : {E : Type 0} → Line E → List ℕ → List ℕ
log_grown l log = log ++ words_of_frame l.publishes

-- what a turn adds, in this situation, by this line
abbrev pub turn_trails : {E : Type 0} → Situation E → Line E → ℕ → ℕ → ℕ → Answered → Trails
    → Trails
turn_trails (Does z) l s got word told T = record T {
  actions = actions_with s (step_action l.kind l.tenure got (l.chosen got word) told) T.actions;
  log = log_grown l T.log;
}
turn_trails (Announces t) l s got word told T = record T {
  pins = entered T.pins s (l.op word) got;
  actions = actions_with s [] T.actions;
  log = log_grown l T.log;
}
turn_trails (Validates t) l s got word told T = record T {
  pins = entered T.pins s (l.op word) got;
  actions = actions_with s [] T.actions;
  log = log_grown l T.log;
}
turn_trails (Unpins t) l s got word told T = record T {
  pins = entered T.pins s (l.op word) got;
  actions = actions_with s [] T.actions;
  log = log_grown l T.log;
}
turn_trails (Withdraws t) l s got word told T = record T {
  pins = entered T.pins s (l.op word) got;
  actions = actions_with s [] T.actions;
  log = log_grown l T.log;
}
turn_trails (Scans r) l s got word told T = record T {
  reclaims = entered T.reclaims s (l.op word) got;
  actions = actions_with s [] T.actions;
  log = log_grown l T.log;
}
turn_trails (Clears r) l s got word told T = record T {
  reclaims = entered T.reclaims s (l.op word) got;
  actions = actions_with s [] T.actions;
  log = log_grown l T.log;
}
turn_trails (ReadsPassed t p) l s got word told T = record T {
  actions = actions_with s (step_action l.kind l.tenure got (l.chosen got word) told) T.actions;
  log = log_grown l T.log;
}

-- of the sender that goes on, by its answer
abbrev pub turn_grown : {E : Type 0} → Election E → Machine E → ℕ → Option (Sender E) → ℕ → Answer
    → Trails → Trails
turn_grown X b s None word a T = T
turn_grown X b s (Some v) word (answer.Number n) T = T
turn_grown X b s (Some v) word answer.Closing T = T
turn_grown X b s (Some v) word answer.Leaving T = T
turn_grown X b s (Some v) word (answer.Turn t) T =
    turn_trails (situation X v) (line_now X v) s (found b (line_now X v) word) word t T
turn_grown X b s (Some v) word (answer.Recv t) T = T
turn_grown X b s (Some v) word answer.Stopped T = T
turn_grown X b s (Some v) word answer.Gone T = T

abbrev pub heard_grown : ℕ → Answer → (ℕ → List RecvTurn) → ℕ → List RecvTurn
heard_grown r (answer.Number n) H = H
heard_grown r answer.Closing H = H
heard_grown r answer.Leaving H = H
heard_grown r (answer.Turn t) H = H
heard_grown r (answer.Recv t) H = answers_with r t H
heard_grown r answer.Stopped H = H
heard_grown r answer.Gone H = H

-- what an event with this answer adds: a stop and a receiver that leaves are no actions
abbrev pub trails_grown : {E : Type 0} → Election E → Machine E → Event → Answer → Trails → Trails
trails_grown X b (Put s bytes) a T =
    record T { actions = actions_with s (put_actions bytes a) T.actions }
trails_grown X b (Ask s mark) a T = record T { actions = actions_with s (mark_actions a) T.actions }
trails_grown X b (Turn s word) a T = turn_grown X b s (going b s) word a T
trails_grown X b (Recv r) a T = record T { heard = heard_grown r a T.heard }
trails_grown X b (Stop s) a T = T
trails_grown X b (Gone r) a T = T

-- ---- what is reached
-- nothing has happened: words of zero, the page at home, senders and receivers at their starts,
-- none of which has stopped
pub record IsNew {E : Type 0} (b : Machine E) : Type 0 where
  pub bases_are : AreBases b.bases
  pub words : b.words ≡ replicate (log_place b.layout b.reuse + b.layout.capacity) 0
  pub home : b.home ≡ Some (first_page b.bases)
  pub senders : (p : ℕ) (v : Sender E) → slice_get b.senders p ≡ Some v
      → (p < b.layout.senders) × (v ≡ new_sender b.layout p b.reuse (base_of b p))
  pub receivers : (r : ℕ) (v : Receiving) → slice_get b.receivers r ≡ Some v
      → IsNewReceiver b.layout.senders (log_place b.layout b.reuse) b.layout.capacity
      (passed_by b.layout b.reuse r) v
  -- Where words of the log are used again, rows are too, each receiver has a passed place, and
  -- numbers begin low enough for all tenures.
  pub apart : b.reuse ≡ None → b.layout.passers ≡ 0
  pub many : (r : ℕ) (v : Receiving) → slice_get b.receivers r ≡ Some v
      → (b.layout.passers ≡ 0) ⊎ (r < b.layout.passers)
  pub ring_bases : 0 < b.layout.passers → (s : ℕ) → base_of b s < ring_numbers b.layout.batch
  pub stopped : b.stopped ≡ no_stops
  pub owners : b.owners ≡ []

-- What a receiver that joins adds, as i forks to j and n is a number of nobody: what was given to
-- its maker counts as given to it, and what the last one of its number was given stands with n.
abbrev pub trails_joined : (i j n : ℕ) → Trails → Trails
trails_joined i j n T = record T { heard = answers_joined (T.heard i) j n T.heard }

-- These trails lead to this machine, from a new one, by one event after another, and by receivers
-- that join.
pub data Reached {E : Type 0} (X : Election E) : Machine E → Trails → Type 0 where
  New : (b : Machine E) → IsNew b → Reached X b no_machine_trails
  Then : (b b' : Machine E) (T : Trails) (e : Event) (a : Answer) → Reached X b T
      → Happens X b e a b' → Reached X b' (trails_grown X b e a T)
  Joins : (b b' : Machine E) (T : Trails) (i j n : ℕ) → Reached X b T → Forks b i j true b'
      → slice_get b.receivers n ≡ None → T.heard n ≡ []
      → Reached X b' (trails_joined i j n T)

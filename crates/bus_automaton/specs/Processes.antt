-- What threads go by. A sender is a process, which says by itself what its next turn is; and a bus
-- is an automaton, of which executions lead to some states. They are one for both kinds of rows, of
-- which what is said here knows nothing.
use Rattle.std.specs.Prelude.{◌≡◌, ℕ, ◌+◌, ◌*◌, ◌%◌, ◌≤◌, ◌<◌, Bool, true, false, Option, Some}
use Rattle.std.specs.Prelude.{List, length, slice_index}
use Rattle.bus_register.specs.declared.kinds.Kind.{Kind}
use Rattle.bus_register.specs.declared.limits.TheConstants.{NUMBERS}
use Rattle.bus_register.specs.declared.registers.Op.{Op}
use Rattle.bus_batch.specs.Batches.{Pending}
use Rattle.bus_batch.specs.declared.messages.Mark.{Mark}
use Rattle.bus_core.specs.declared.limits.TheConstants.{PASSED_APART}
use Rattle.bus_tenure.specs.Situations.{PageMove, Stays, Comes, Returns}
use Rattle.bus_tenure.specs.declared.pages.Page.{Page}
use Rattle.bus_tenure.specs.declared.turns.Turn.{Turn}
use Rattle.bus_world.specs.Headline.{Action}
use Rattle.bus_world.specs.Log.{words_read_from}
use Rattle.bus_automaton.specs.SenderTrails.{SenderTrail}

-- how large a bus is: its senders, all its words, where the first word of its log stands, and how
-- many words the log has
pub record TableLayout : Type 0 where
  pub senders : ℕ
  pub words : ℕ
  pub log : ℕ
  pub capacity : ℕ
  -- where passed places begin, and how many there are: none where no word of the log is used again
  pub passed : ℕ
  pub passers : ℕ
  -- how many messages a batch has at most
  pub batch : ℕ

abbrev pub no_table_layout : TableLayout
no_table_layout = record {
  senders = 0;
  words = 0;
  log = 0;
  capacity = 0;
  passed = 0;
  passers = 0;
  batch = 0;
}

-- which word is the passed place of receiver r
abbrev pub passed_word : TableLayout → ℕ → ℕ
passed_word x r = x.passed + PASSED_APART * r

-- and which is the cell of this word of the log
abbrev pub log_cell : TableLayout → ℕ → ℕ
log_cell x place = x.log + place % x.capacity

-- ---- a sender that holds C
pub record Process (C : Type 0) : Type 0 where
  -- its number, and how large its bus is
  pub me : C → ℕ
  pub table_layout : C → TableLayout
  -- its batch, as a put and a close find it; and it with this message more, or with this mark that
  -- waits
  pub queue : C → Pending
  pub with_message : C → (bytes : List ℕ) → C
  pub with_mark : C → Mark → C
  -- the messages that it has accepted and that are in no frame of the log
  pub waiting : C → List (List ℕ)
  -- ---- its next turn
  -- the step, with this random word, and what it is for; none where none is due
  pub op : C → (word : ℕ) → Option Op
  pub kind : C → Option Kind
  pub wants_word : C → Bool
  -- how many turns its election takes at most, with the one that takes the page
  pub turns_left : C → ℕ
  -- the answer where no step is due
  pub rest : C → Turn
  -- what becomes of the page
  pub move : C → PageMove
  -- what it holds after a step that found this number, with that random word, where this page was
  -- at home
  pub after : C → (home : Option Page) → (got word : ℕ) → C
  pub answer : C → (got word : ℕ) → Turn
  -- what such a step adds to its trail
  pub adds : C → (got word : ℕ) → SenderTrail
  -- ---- the same turn, part by part
  -- it holds the page between two turns
  pub holds : C → Bool
  -- with the page out of its hands that it gives back; then fed the number that its step found; and
  -- then with this page laid before it
  pub handed : C → C
  pub fed : C → (got word : ℕ) → C
  pub awaits : C → Bool
  pub laid : C → Page → C

-- the numbers of a sender's messages stay within their range, also that of a message more where its
-- batch is full
pub record IsCounted {C : Type 0} (P : Process C) (c : C) : Type 0 where
  pub first : (P.queue c).first + (P.queue c).limit < NUMBERS
  pub few : length (P.queue c).messages ≤ (P.queue c).limit
  -- which is the bus's
  pub limit : (P.queue c).limit ≡ (P.table_layout c).batch

-- ---- a turn, part by part
-- The parts of a turn are the whole turn: c has taken its step, is s once it was told what that
-- found, and s' is what it holds after the turn.
abbrev pub EndsBy : {C : Type 0} → Process C → C → C → C → Option Page → PageMove → Type 0
EndsBy P c s s' home Stays = (s' ≡ s) × (P.awaits s ≡ false) × (P.holds s' ≡ P.holds c)
EndsBy P c s s' home (Comes t) =
    (P.awaits s ≡ true) × (P.holds c ≡ false)
    × ((page : Page) → home ≡ Some page → (s' ≡ P.laid s page) × (P.holds s' ≡ true))
EndsBy P c s s' home (Returns t reason page) =
    (s' ≡ s) × (P.awaits s ≡ false) × (P.holds c ≡ true) × (P.holds s' ≡ false)

-- ---- a bus whose senders hold C
pub record Automaton (C : Type 0) : Type 1 where
  pub table_layout : TableLayout
  -- the number of each sender's first message
  pub bases : List ℕ
  -- a sender at its start
  pub started : ℕ → C
  pub State : Type 0
  -- Executions lead to this state, whatever its senders did and in whichever order: of what a
  -- receiver does it has what that stores in its passed place alone, and no sender has stopped by
  -- an event of its own. One that is dropped just takes no step any more.
  pub IsReached : State → Type 0
  pub words : State → List ℕ
  -- the page, where it is at home
  pub home : State → Option Page
  pub sender : State → ℕ → Option C
  -- all that a sender did
  pub sender_trail : State → ℕ → SenderTrail
  -- all words that were ever published
  pub log : State → List ℕ
  -- The place that receiver r has stored in its passed place, before which it asks for no word any
  -- more. None once it has left for good, and where there is no such passed place.
  pub passed : State → ℕ → Option ℕ

abbrev pub base_in : {C : Type 0} → Automaton C → ℕ → ℕ
base_in A = slice_index A.bases

-- the actions of a sender, in a state
abbrev pub actions_at : {C : Type 0} → (A : Automaton C) → A.State → ℕ → List Action
actions_at A z p = (A.sender_trail z p).actions

-- the words below the length
abbrev pub log_below : TableLayout → List ℕ → List ℕ
log_below x words = words_read_from (slice_index words) x.log (slice_index words 0)

-- all that was ever published, in a state
abbrev pub log_in : {C : Type 0} → (A : Automaton C) → A.State → List ℕ
log_in A z = A.log z

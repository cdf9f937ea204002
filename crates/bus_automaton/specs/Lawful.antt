-- What processes and automata owe, so that threads may go by them.
use Rattle.std.specs.Prelude.{◌≡◌, ◌≢◌, ◌⊎◌, ℕ, ◌+◌, ◌*◌, ◌%◌, ◌<◌, ◌≤◌, true, false, Option, Some}
use Rattle.std.specs.Prelude.{None, is_some, List, [], ◌∷◌, ◌++◌, ◌-◌, All, drop, length, map}
use Rattle.std.specs.Prelude.{replicate, slice_index, slice_set, take}
use Rattle.bus_register.specs.declared.limits.TheConstants.{PASSED_ALL}
use Rattle.bus_register.specs.declared.kinds.Kind.{Kind}
use Rattle.bus_register.specs.declared.registers.Op.{Op}
use Rattle.bus_register.specs.declared.registers.Op.TheVariants.{Store}
use Rattle.bus_register.specs.declared.registers.SenderNo.{SenderNo}
use Rattle.bus_register.specs.Words.{register, SumFits}
use Rattle.bus_batch.specs.Batches.{next_of, CanPut, CanClose}
use Rattle.bus_batch.specs.declared.batches.Phase.TheVariants.{Marking}
use Rattle.bus_batch.specs.declared.messages.Item.{Item}
use Rattle.bus_batch.specs.declared.messages.Mark.{Mark}
use Rattle.bus_batch.specs.Frames.{Frame, AreFrames, Order, Spells, log_words, log_pieces}
use Rattle.bus_batch.specs.Frames.{order_of, order_in, items_of}
use Rattle.bus_deliverylog.specs.Orders.{of_sender}
use Rattle.bus_tenure.specs.Situations.{Comes}
use Rattle.bus_tenure.specs.declared.pages.Page.{Page}
use Rattle.bus_tenure.specs.declared.turns.Turn.{Turn}
use Rattle.bus_core.specs.Keeping.{page_out}
use Rattle.bus_world.specs.Headline.{Action, HasPut, HasMarked, Stepped, puts, Promises}
use Rattle.bus_world.specs.Log.{KeepsFloor, Knows, floor_shown, words_in_ring}
use Rattle.bus_world.specs.Floors.{IsBoundary}
use Rattle.bus_world.specs.Trails.{no_answers}
use Rattle.bus_world.specs.Turning.{words_after, home_moved}
use Rattle.bus_world.specs.World.{first_page}
use Rattle.bus_automaton.specs.Processes.{TableLayout, Process, Automaton, IsCounted, base_in}
use Rattle.bus_automaton.specs.Processes.{actions_at, log_below, log_cell, log_in, passed_word}
use Rattle.bus_automaton.specs.Processes.{EndsBy}
use Rattle.bus_tenure.specs.Classes.{is_refusal, is_last}
use Rattle.bus_automaton.specs.SenderTrails.{SenderTrail, new_sender_trail, with_actions}
use Rattle.bus_automaton.specs.SenderTrails.{with_sender_trail}

-- ---- a process
-- what it accepts between its steps leaves the rest as it is
pub record Keeps {C : Type 0} (P : Process C) (c d : C) : Type 0 where
  pub me : P.me d ≡ P.me c
  pub table_layout : P.table_layout d ≡ P.table_layout c
  pub holds : P.holds d ≡ P.holds c
  pub awaits : P.awaits d ≡ P.awaits c

-- these actions are one step, for this, that found this number and was answered so
pub record IsOneStep (due : Option Kind) (got : ℕ) (answer : Turn) (actions : List Action) :
    Type 0 where
  pub tenure : Option ℕ
  pub kind : Kind
  pub chose : Option ℕ
  pub is_for : due ≡ Some kind
  pub is : actions ≡ Stepped tenure kind got chose answer ∷ []

pub record ProcessLaws {C : Type 0} (P : Process C) : Type 0 where
  -- a bus has a word for its length, and one for its stage; and a step changes no bus's size
  pub some_words : (c : C) → 2 ≤ (P.table_layout c).words
  pub same_table_layout : (c : C) (home : Option Page) (got word : ℕ)
      → P.table_layout (P.after c home got word) ≡ P.table_layout c
  -- a kind is named exactly where a step is due, whatever the random word
  pub named : (c : C) (word : ℕ) → is_some (P.kind c) ≡ is_some (P.op c word)
  -- a store does not look at what it found
  pub blind : (c : C) (word r v : ℕ) → P.op c word ≡ Some (Store record { 0 = r } v)
      → (got got' : ℕ) (home : Option Page) → P.after c home got word ≡ P.after c home got' word
  pub mute : (c : C) (word r v : ℕ) → P.op c word ≡ Some (Store record { 0 = r } v) → (got got' : ℕ)
      → P.answer c got word ≡ P.answer c got' word
  -- its messages wait as before, or none does any more; and a last answer after which some wait is
  -- a refusal
  pub leaves : (c : C) (home : Option Page) (got word : ℕ)
      → ((P.queue (P.after c home got word)).messages ≡ (P.queue c).messages)
      ⊎ ((P.queue (P.after c home got word)).messages ≡ [])
  pub refuses : (c : C) (word : ℕ) (o : Op) → P.op c word ≡ Some o → (home : Option Page) (got : ℕ)
      → is_last (P.answer c got word) ≡ true
      → 0 < length (P.queue (P.after c home got word)).messages
      → is_refusal (P.answer c got word) ≡ true
  pub refuses_at_rest : (c : C) → is_last (P.rest c) ≡ true → 0 < length (P.queue c).messages
      → is_refusal (P.rest c) ≡ true
  -- of a sender with nothing in its batch nothing waits
  pub none_hidden : (c : C) → (P.queue c).messages ≡ [] → P.waiting c ≡ []
  -- a step is one action at most: what it was for, what it found and what it answered
  pub one_action : (c : C) (got word : ℕ)
      → ((P.adds c got word).actions ≡ [])
      ⊎ IsOneStep (P.kind c) got (P.answer c got word) (P.adds c got word).actions
  -- what it accepts joins its batch
  pub message : (c : C) (bytes : List ℕ) → Keeps P c (P.with_message c bytes)
  pub message_waits : (c : C) (bytes : List ℕ)
      → P.queue (P.with_message c bytes)
      ≡ record (P.queue c) { messages = (P.queue c).messages ++ bytes ∷ [] }
  pub marked : (c : C) (mark : Mark) → Keeps P c (P.with_mark c mark)
  pub mark_waits : (c : C) (mark : Mark)
      → P.queue (P.with_mark c mark) ≡ record (P.queue c) { phase = Marking mark }
  -- with the page out of its hands its turn is the same ..
  pub handed_op : (c : C) (word : ℕ) → P.op (P.handed c) word ≡ P.op c word
  pub handed_answer : (c : C) (got word : ℕ) → P.answer (P.handed c) got word ≡ P.answer c got word
  pub handed_fed : (c : C) (got word : ℕ) → P.fed (P.handed c) got word ≡ P.fed c got word
  -- .. and a page that it gives back is out with it
  pub gives_held : (c : C) (page : Page) → page_out (P.move c) ≡ Some page → P.holds c ≡ true

-- ---- an automaton
-- a sender of it
pub record IsSender {C : Type 0} (P : Process C) (A : Automaton C) (p : ℕ) (c : C) : Type 0 where
  pub me : P.me c ≡ p
  pub below : p < A.table_layout.senders
  pub table_layout : P.table_layout c ≡ A.table_layout
  pub counted : IsCounted P c
  -- no page is under way to it between its turns
  pub laid : P.awaits c ≡ false

-- from one state to another sender p alone has changed, and has done all this by then
pub record ChangesTo {C : Type 0} (A : Automaton C) (z : A.State) (p : ℕ) (d : C)
    (all : SenderTrail) (z' : A.State) : Type 0 where
  pub reached : A.IsReached z'
  pub here : A.sender z' p ≡ Some d
  pub others : (q : ℕ) → q ≢ p → A.sender z' q ≡ A.sender z q
  pub sender_trail : A.sender_trail z' p ≡ all
  pub passed : (r : ℕ) → A.passed z' r ≡ A.passed z r
  pub nothing_else : (q : ℕ) → q ≢ p → A.sender_trail z' q ≡ A.sender_trail z q

-- it has accepted something: no word has changed, and nothing was published
pub record AcceptsIn {C : Type 0} (A : Automaton C) (z : A.State) (p : ℕ) (d : C)
    (more : List Action) : Type 0 where
  pub state : A.State
  pub changes : ChangesTo A z p d (with_actions (A.sender_trail z p) more) state
  pub words : A.words state ≡ A.words z
  pub home : A.home state ≡ A.home z
  pub log : A.log state ≡ A.log z

-- the frames of the log, and those that it has become
pub record LogGrows {C : Type 0} (A : Automaton C) (z z' : A.State) : Type 0 where
  pub frames : List Frame
  pub more : List Frame
  pub lawful : AreFrames A.table_layout.senders frames
  pub lawful_now : AreFrames A.table_layout.senders (frames ++ more)
  pub words_are : log_words frames ≡ log_in A z
  pub words_now : log_words (frames ++ more) ≡ log_in A z'
  -- the length says how many words were published
  pub long : length (log_in A z) ≡ slice_index (A.words z) 0
  pub long_now : length (log_in A z') ≡ slice_index (A.words z') 0

-- it has taken a step: its word has changed, and the page may have moved
pub record StepsIn {C : Type 0} (P : Process C) (A : Automaton C) (z : A.State) (p : ℕ) (d : C)
    (word : ℕ) (o : Op) : Type 0 where
  pub state : A.State
  pub changes : ChangesTo A z p (P.after d (A.home z) (slice_index (A.words z) (register o)) word)
      (with_sender_trail (A.sender_trail z p)
      (P.adds d (slice_index (A.words z) (register o)) word)) state
  pub words : A.words state ≡ words_after (A.words z) (Some o)
  pub home : A.home state ≡ home_moved (P.move d) (A.home z)
  pub grows : LogGrows A z state

-- the place from which on all words stand: the least that a receiver has passed, and the length
-- where all have left; the first one, where no word of the log is used again
abbrev pub floor_in : TableLayout → List ℕ → ℕ
floor_in x words =
    floor_shown (slice_index words) x.passed x.passers (slice_index words 0)

-- the words from there up to the length, each from its cell
abbrev pub log_from_floor : TableLayout → List ℕ → List ℕ
log_from_floor x words =
    words_in_ring (slice_index words) x.log x.capacity (floor_in x words)
    (slice_index words 0 - floor_in x words)

-- All that was published: some frames, as many words as the length says. From the floor on, where a
-- frame begins, the cells show them; and where no word of the log is used again, the words below
-- the length do.
pub record HasLog {C : Type 0} (A : Automaton C) (z : A.State) : Type 0 where
  pub frames : List Frame
  pub lawful : AreFrames A.table_layout.senders frames
  pub words_are : log_words frames ≡ log_in A z
  pub long : length (log_in A z) ≡ slice_index (A.words z) 0
  pub shows : log_from_floor A.table_layout (A.words z)
      ≡ drop (floor_in A.table_layout (A.words z)) (log_in A z)
  pub edge : IsBoundary frames (floor_in A.table_layout (A.words z))
  -- they fit: no more than a whole log lies behind the floor
  pub room : length (log_in A z)
      ≤ A.table_layout.capacity + floor_in A.table_layout (A.words z)
  pub fits : A.table_layout.passers ≡ 0 → slice_index (A.words z) 0 ≤ A.table_layout.capacity
  pub stands : A.table_layout.passers ≡ 0 → log_below A.table_layout (A.words z) ≡ log_in A z

-- ---- receivers
-- A receiver does not ask for this word of the log in vain: it has not left, and its passed place
-- is no further. Where no word of the log is used again each may be asked for.
abbrev pub MayAsk : {C : Type 0} → (A : Automaton C) → A.State → (r place : ℕ) → Type 0
MayAsk A z r place =
    (A.table_layout.passers ≡ 0) ⊎ ((p : ℕ) × (A.passed z r ≡ Some p) × (p ≤ place))

-- Where a frame begins, before any end mark: what a receiver may store in its passed place.
pub record MayPass {C : Type 0} (A : Automaton C) (z : A.State) (place : ℕ) : Type 0 where
  pub frames : List Frame
  pub lawful : AreFrames A.table_layout.senders frames
  pub words_are : log_words frames ≡ log_in A z
  pub begins : IsBoundary frames place
  pub no_end : (order_in (take place (log_pieces frames))).ended ≡ false

-- Receiver r has stored this number in its passed place: it has passed this, or it has left for
-- good. Nothing else has changed.
pub record PassesIn {C : Type 0} (A : Automaton C) (z : A.State) (r number : ℕ)
    (passed : Option ℕ) : Type 0 where
  pub state : A.State
  pub reached : A.IsReached state
  pub words : A.words state ≡ slice_set (A.words z) (passed_word A.table_layout r) number
  pub home : A.home state ≡ A.home z
  pub senders : (p : ℕ) → A.sender state p ≡ A.sender z p
  pub trails : (p : ℕ) → A.sender_trail state p ≡ A.sender_trail z p
  pub log : A.log state ≡ A.log z
  pub here : A.passed state r ≡ passed
  pub others : (q : ℕ) → q ≢ r → A.passed state q ≡ A.passed z q

-- the headline's page holds of what its senders did, of receivers that were answered nothing
pub record IsPromisedOf {C : Type 0} (A : Automaton C) (z : A.State) : Type 0 where
  pub order : Order
  pub owners : List (ℕ × SenderNo)
  pub spelled : Spells A.table_layout.senders (log_in A z) order owners
  -- none of whose frames has more messages than a batch may have
  pub few : All (λ f. length (items_of f) ≤ A.table_layout.batch) spelled.frames
  pub promises : Promises (base_in A) (actions_at A z) no_answers order owners

pub record AutomatonLaws {C : Type 0} (P : Process C) (A : Automaton C) : Type 0 where
  pub room : A.table_layout.log + A.table_layout.capacity ≤ A.table_layout.words
  pub behind : 2 ≤ A.table_layout.log
  -- passed places stand between the stage and the log
  pub passed_behind : 2 ≤ A.table_layout.passed
  pub passed_room : (r : ℕ) → r < A.table_layout.passers
      → passed_word A.table_layout r < A.table_layout.log
  -- a sender at its start
  pub started_me : (p : ℕ) → P.me (A.started p) ≡ p
  pub started_table_layout : (p : ℕ) → P.table_layout (A.started p) ≡ A.table_layout
  pub started_away : (p : ℕ) → P.holds (A.started p) ≡ false
  pub started_laid : (p : ℕ) → P.awaits (A.started p) ≡ false
  pub wide : (z : A.State) → A.IsReached z → length (A.words z) ≡ A.table_layout.words
  pub senders : (z : A.State) (p : ℕ) (c : C) → A.IsReached z → A.sender z p ≡ Some c
      → IsSender P A p c
  pub nobody : (z : A.State) (q : ℕ) → A.IsReached z → A.table_layout.senders ≤ q
      → actions_at A z q ≡ []
  -- what may happen leads on
  pub message : (z : A.State) (p : ℕ) (c : C) (bytes : List ℕ) → A.IsReached z
      → A.sender z p ≡ Some c → CanPut (P.queue c) (length bytes) → All (λ byte. byte < 256) bytes
      → AcceptsIn A z p (P.with_message c bytes) (HasPut (next_of (P.queue c)) bytes ∷ [])
  pub marked : (z : A.State) (p : ℕ) (c : C) (mark : Mark) → A.IsReached z → A.sender z p ≡ Some c
      → CanClose (P.queue c)
      → AcceptsIn A z p (P.with_mark c mark) (HasMarked mark ∷ [])
  pub step : (z : A.State) (p : ℕ) (c : C) (word : ℕ) (o : Op) → A.IsReached z
      → A.sender z p ≡ Some c → P.op c word ≡ Some o → register o < A.table_layout.words
      → StepsIn P A z p c word o
  -- the parts of a turn are the whole turn
  pub ends : (z : A.State) (p : ℕ) (c : C) (word : ℕ) (o : Op) → A.IsReached z
      → A.sender z p ≡ Some c → P.op c word ≡ Some o → (home : Option Page) (got : ℕ)
      → EndsBy P c (P.fed c got word) (P.after c home got word) home (P.move c)
  -- what a step adds to stays in range
  pub fits : (z : A.State) (p : ℕ) (c : C) (word : ℕ) (o : Op) → A.IsReached z
      → A.sender z p ≡ Some c → P.op c word ≡ Some o
      → SumFits o (slice_index (A.words z) (register o))
  -- the page is at home where it is taken; the stage is even just where it is at home; and there it
  -- knows the log
  pub finds_home : (z : A.State) (p : ℕ) (c : C) (word : ℕ) (o : Op) (t : ℕ) → A.IsReached z
      → A.sender z p ≡ Some c → P.op c word ≡ Some o → P.move c ≡ Comes t
      → is_some (A.home z) ≡ true
  pub even_at_home : (z : A.State) → A.IsReached z → slice_index (A.words z) 1 % 2 ≢ 1
      → is_some (A.home z) ≡ true
  pub odd_away : (z : A.State) → A.IsReached z → slice_index (A.words z) 1 % 2 ≡ 1
      → is_some (A.home z) ≡ false
  pub page_knows : (z : A.State) (page : Page) (frames : List Frame) → A.IsReached z
      → A.home z ≡ Some page → AreFrames A.table_layout.senders frames
      → log_words frames ≡ log_in A z
      → (past : ℕ) × (slice_index (A.words z) 1 ≡ 2 * past)
      × Knows (base_in A) page frames past (slice_index (A.words z) 0)
      × (A.table_layout.passers ≡ 0 → KeepsFloor page)
  -- its floor is not past that of the words, and no more than a whole log lies behind it
  pub page_fits : (z : A.State) (page : Page) → A.IsReached z → A.home z ≡ Some page
      → (page.floor ≤ floor_in A.table_layout (A.words z))
      × (length (log_in A z) ≤ A.table_layout.capacity + page.floor)
  pub log : (z : A.State) → A.IsReached z → HasLog A z
  -- a receiver finds at each place that it may ask for the word that was published there, however
  -- often the cell was used before
  pub finds : (z : A.State) (r place : ℕ) → A.IsReached z → MayAsk A z r place
      → place < length (log_in A z)
      → slice_index (A.words z) (log_cell A.table_layout place) ≡ slice_index (log_in A z) place
  -- its passed place shows what it has passed: a place where a frame begins, before any end
  pub shows : (z : A.State) (r p : ℕ) → A.IsReached z → A.passed z r ≡ Some p
      → (r < A.table_layout.passers) × (p ≤ length (log_in A z))
      × (slice_index (A.words z) (passed_word A.table_layout r) ≡ p)
  pub passed_whole : (z : A.State) (r p : ℕ) → A.IsReached z → A.passed z r ≡ Some p
      → MayPass A z p
  -- and 2^64 - 1 once it has left for good
  pub left : (z : A.State) (r : ℕ) → A.IsReached z → r < A.table_layout.passers
      → A.passed z r ≡ None
      → slice_index (A.words z) (passed_word A.table_layout r) ≡ PASSED_ALL
  -- it may pass more, or leave
  pub passes : (z : A.State) (r p place : ℕ) → A.IsReached z → A.passed z r ≡ Some p → p ≤ place
      → MayPass A z place → PassesIn A z r place (Some place)
  pub leaves : (z : A.State) (r p : ℕ) → A.IsReached z → A.passed z r ≡ Some p
      → PassesIn A z r PASSED_ALL None
  -- or give its place to a higher number, whose receiver has left: what stood there is 2^64 - 1
  pub forks : (z : A.State) (r p q : ℕ) → A.IsReached z → A.passed z r ≡ Some p → r < q
      → q < A.table_layout.passers
      → slice_index (A.words z) (passed_word A.table_layout q) ≡ PASSED_ALL
      → PassesIn A z q p (Some p)
  -- of each sender it has what that put, but for what waits
  pub sent : (z : A.State) (p : ℕ) (c : C) (frames : List Frame) → A.IsReached z
      → A.sender z p ≡ Some c → AreFrames A.table_layout.senders frames
      → log_words frames ≡ log_in A z
      → map (λ (i : Item). i.message) (of_sender p (order_of frames)) ++ P.waiting c
      ≡ puts (actions_at A z p)
  pub promised : (z : A.State) → A.IsReached z → IsPromisedOf A z
  -- what each sender did says where its numbers begin
  pub first : (z : A.State) (p : ℕ) → A.IsReached z → (A.sender_trail z p).first ≡ base_in A p

-- how it begins: with words of zero, its page at home and its senders at their starts, of which
-- none has done anything
pub record Opens {C : Type 0} (P : Process C) (A : Automaton C) : Type 0 where
  pub state : A.State
  pub reached : A.IsReached state
  pub words : A.words state ≡ replicate A.table_layout.words 0
  pub home : A.home state ≡ Some (first_page A.bases)
  pub senders : (p : ℕ) → p < A.table_layout.senders → A.sender state p ≡ Some (A.started p)
  pub sender_trail : (p : ℕ) → A.sender_trail state p ≡ new_sender_trail (base_in A p)
  pub passed : (r : ℕ) → r < A.table_layout.passers → A.passed state r ≡ Some 0
  pub counted : (p : ℕ) → IsCounted P (A.started p)

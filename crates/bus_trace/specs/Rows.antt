-- The lines of a trace: who took which step, what it found, what stands after it, and what was
-- answered.
use Rattle.std.specs.Prelude.{ℕ, Bool, Option, Some, None, List, [], ◌∷◌, ◌++◌, codes, decimal}
use Rattle.std.specs.Prelude.{slice_get, slice_index}
use Rattle.bus_register.specs.declared.kinds.Kind.{Kind}
use Rattle.bus_register.specs.declared.kinds.Kind.TheVariants.{StorePassed}
use Rattle.bus_register.specs.declared.registers.Op.{Op}
use Rattle.bus_register.specs.Names.{kind_name}
use Rattle.bus_register.specs.Words.{register, after}
use Rattle.bus_batch.specs.declared.messages.Mark.TheVariants as mark
use Rattle.bus_core.specs.Senders.{Sender}
use Rattle.bus_core.specs.Table.{Line, line_now}
use Rattle.bus_deliverylog.specs.Receiving.{Receiving, due_kind, due_op, leaving_op, joining_op}
use Rattle.bus_machine.specs.Machine.{Machine, going, fork_in}
use Rattle.bus_tenure.specs.Core.{Election}
use Rattle.bus_world.specs.Headline.{Action, HasPut, HasMarked, Stepped}
use Rattle.bus_world.specs.Trails.{put_actions, mark_actions}
use Rattle.bus_world.specs.World.{Event, Put, Ask, Turn, Recv, Stop, Gone}
use Rattle.bus_world.specs.declared.events.Answer.{Answer}
use Rattle.bus_replay.specs.Text.{behind, answer_text, fork_text}
use Rattle.bus_trace.specs.Words.{TraceSizes, word_name}

-- a text between two tabs
abbrev pub column : List ℕ → List ℕ
column text = text ++ 9 ∷ []

-- the names of the columns
abbrev pub header : List ℕ
header =
    column (codes "number") ++ column (codes "line") ++ column (codes "who")
    ++ column (codes "tenure") ++ column (codes "kind") ++ column (codes "word")
    ++ column (codes "found") ++ column (codes "after") ++ codes "answer" ++ 10 ∷ []

abbrev pub tenure_text : Option ℕ → List ℕ
tenure_text None = codes "-"
tenure_text (Some t) = decimal t

-- tenure, kind, word, found and after, where there is no step on a word: the kind is this text
abbrev pub no_step : List ℕ → List ℕ
no_step kind =
    column (codes "-") ++ column kind ++ column (codes "-") ++ column (codes "-")
    ++ column (codes "-")

-- the same columns of a step that found this number
abbrev pub step_text : TraceSizes → Option ℕ → Kind → ℕ → Option Op → List ℕ
step_text p tenure k found None = no_step (codes "-")
step_text p tenure k found (Some o) =
    column (tenure_text tenure) ++ column (kind_name k) ++ column (word_name p (register o))
    ++ column (decimal found) ++ column (decimal (after o found))

-- of an action of a sender; a step of it was this one
abbrev pub action_text : TraceSizes → Option Op → Action → List ℕ
action_text p o (HasPut number bytes) = no_step (codes "put")
action_text p o (HasMarked mark.End) = no_step (codes "close")
action_text p o (HasMarked mark.Leave) = no_step (codes "leave")
action_text p o (Stepped tenure k found chose answer) = step_text p tenure k found o

-- of what an event added to the trail of its sender: an action, or nothing
abbrev pub actions_text : TraceSizes → Option Op → List Action → List ℕ
actions_text p o [] = no_step (codes "-")
actions_text p o (action ∷ actions) = action_text p o action

-- a step of this tenure, of this kind, where there is one
abbrev pub due_text : TraceSizes → (ℕ → ℕ) → Option ℕ → Option Kind → Option Op → List ℕ
due_text p words tenure None o = no_step (codes "-")
due_text p words tenure (Some k) None = no_step (codes "-")
due_text p words tenure (Some k) (Some o) = step_text p tenure k (words (register o)) (Some o)

-- of a receiver, its load, or the store of its place
abbrev pub receiving_text : TraceSizes → (ℕ → ℕ) → Option Receiving → List ℕ
receiving_text p words None = no_step (codes "-")
receiving_text p words (Some v) = due_text p words None (due_kind v) (due_op v)

-- the store with which a receiver leaves for good; without a passed place that is no step, but a
-- call
abbrev pub gone_text : TraceSizes → (ℕ → ℕ) → Option Op → List ℕ
gone_text p words None = no_step (codes "gone")
gone_text p words (Some o) = step_text p None StorePassed (words (register o)) (Some o)

abbrev pub leaving_text : TraceSizes → (ℕ → ℕ) → Option Receiving → List ℕ
leaving_text p words None = no_step (codes "gone")
leaving_text p words (Some v) = gone_text p words (leaving_op v)

-- who is asked
abbrev pub who_text : Event → List ℕ
who_text (Put s bytes) = column (codes "sender" ++ behind s)
who_text (Ask s mark) = column (codes "sender" ++ behind s)
who_text (Turn s word) = column (codes "sender" ++ behind s)
who_text (Recv r) = column (codes "receiver" ++ behind r)
who_text (Stop s) = column (codes "sender" ++ behind s)
who_text (Gone r) = column (codes "receiver" ++ behind r)

-- Of a turn of a sender that goes on, the step that is due of it by its line in the table of turns:
-- as a sender, of its pin of a tenure, or of its reclamation. Its tenure is the one that it has
-- begun, or whose page it has: while it clears the row of the next tenure, its own.
abbrev pub line_text : {E : Type 0} → TraceSizes → (ℕ → ℕ) → Line E → ℕ → List ℕ
line_text p words l word = due_text p words l.tenure l.kind (l.op word)

abbrev pub sender_text : {E : Type 0} → TraceSizes → Election E → (ℕ → ℕ) → Option (Sender E) → ℕ
    → List ℕ
sender_text p X words None word = no_step (codes "-")
sender_text p X words (Some v) word = line_text p words (line_now X v) word

-- of a put and of a mark that is asked for the action that it added, of a sender's turn the step
-- that is due of it, and of a receiver the step that it takes, also where it leaves for good
abbrev pub columns : {E : Type 0} → TraceSizes → Election E → Machine E → Event → Answer → List ℕ
columns p X m (Put s bytes) a = actions_text p None (put_actions bytes a)
columns p X m (Ask s mark) a = actions_text p None (mark_actions a)
columns p X m (Turn s word) a = sender_text p X (slice_index m.words) (going m s) word
columns p X m (Recv r) a = receiving_text p (slice_index m.words) (slice_get m.receivers r)
columns p X m (Stop s) a = no_step (codes "stop")
columns p X m (Gone r) a = leaving_text p (slice_index m.words) (slice_get m.receivers r)

-- the line of an event that a line of a script asks for, without its number
abbrev pub row_text : {E : Type 0} → TraceSizes → Election E → ℕ → Machine E → Event → Answer
    → List ℕ
row_text p X line m e a = column (decimal line) ++ who_text e ++ columns p X m e a ++ answer_text a

-- ---- forks
-- the step with which this receiver forks to number j, if it takes one: a compare_exchange in the
-- passed place of that number
abbrev pub fork_op : {E : Type 0} → Machine E → ℕ → Option Receiving → Option Op
fork_op m j None = None
fork_op m j (Some v) = joining_op (fork_in m j v)

-- tenure, kind, word, found and after of a fork by this step; without one it is no step, but a call
abbrev pub joining_text : TraceSizes → (ℕ → ℕ) → Option Op → List ℕ
joining_text p words None = no_step (codes "fork")
joining_text p words (Some o) =
    column (codes "-") ++ column (codes "Fork") ++ column (word_name p (register o))
    ++ column (decimal (words (register o))) ++ column (decimal (after o (words (register o))))

-- where receiver i forks to number j
abbrev pub fork_columns : {E : Type 0} → TraceSizes → Machine E → (i j : ℕ) → List ℕ
fork_columns p m i j =
    joining_text p (slice_index m.words) (fork_op m j (slice_get m.receivers i))

-- the line of a fork that a line of a script asks for, which was done or not, without its number
abbrev pub fork_row : {E : Type 0} → TraceSizes → ℕ → Machine E → (i j : ℕ) → Bool → List ℕ
fork_row p line m i j did =
    column (decimal line) ++ column (codes "receiver" ++ behind i) ++ fork_columns p m i j
    ++ fork_text did

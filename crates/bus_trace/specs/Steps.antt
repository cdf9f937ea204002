-- Which step an event is to take on a word, and what is seen of it.
use Rattle.std.specs.Prelude.{ℕ, Option, Some, None, slice_get}
use Rattle.bus_register.specs.Words.{register, after}
use Rattle.bus_register.specs.declared.kinds.Kind.{Kind}
use Rattle.bus_register.specs.declared.kinds.Kind.TheVariants as kind
use Rattle.bus_register.specs.declared.registers.Op.{Op}
use Rattle.bus_core.specs.Senders.{Sender}
use Rattle.bus_core.specs.Table.{Line, line_now}
use Rattle.bus_deliverylog.specs.Receiving.{Receiving, due_kind, due_op, leaving_op}
use Rattle.bus_machine.specs.Machine.{Machine}
use Rattle.bus_tenure.specs.Core.{Election}
use Rattle.bus_world.specs.World.{Event, Put, Ask, Turn, Recv, Stop, Gone}
use Rattle.bus_trace.specs.declared.seen.Seen.{Seen}
use Rattle.bus_trace.specs.declared.seen.SeenWord.{SeenWord}
use Rattle.bus_trace.specs.declared.seen.Step.{Step}

abbrev pub step_of : Option ℕ → Option Kind → Option Op → Option Step
step_of tenure None o = None
step_of tenure (Some k) None = None
step_of tenure (Some k) (Some o) = Some (record { tenure = tenure; kind = k; op = o })

-- of a sender, by its line in the table of turns
abbrev pub line_due : {E : Type 0} → Line E → ℕ → Option Step
line_due l word = step_of l.tenure l.kind (l.op word)

abbrev pub sender_due : {E : Type 0} → Election E → Option (Sender E) → ℕ → Option Step
sender_due X None word = None
sender_due X (Some v) word = line_due (line_now X v) word

-- of a receiver, its load, or the store of its place
abbrev pub receiver_due : Option Receiving → Option Step
receiver_due None = None
receiver_due (Some v) = step_of None (due_kind v) (due_op v)

-- of a receiver that leaves for good, its store, if it makes one
abbrev pub leaver_due : Option Receiving → Option Step
leaver_due None = None
leaver_due (Some v) = step_of None (Some kind.StorePassed) (leaving_op v)

-- the step that an event is to take on a word, if it takes one
abbrev pub due_by : {E : Type 0} → Election E → Machine E → Event → Option Step
due_by X m (Put s bytes) = None
due_by X m (Ask s mark) = None
due_by X m (Turn s word) = sender_due X (slice_get m.senders s) word
due_by X m (Recv r) = receiver_due (slice_get m.receivers r)
due_by X m (Stop s) = None
due_by X m (Gone r) = leaver_due (slice_get m.receivers r)

-- with the number that it finds in these words, and the one that it leaves
abbrev pub seen_in : (ℕ → ℕ) → Option Step → Option Seen
seen_in words None = None
seen_in words (Some step) = Some (record {
  step = step;
  found = words (register step.op);
  left = after step.op (words (register step.op));
})

-- the word of a step, with the same two numbers
abbrev pub word_in : (ℕ → ℕ) → Option Op → Option SeenWord
word_in words None = None
word_in words (Some o) = Some (record {
  at = record { 0 = register o };
  found = words (register o);
  left = after o (words (register o));
})

-- A sender of either kind of rows as threads go by it: one process, by the one table of its turns.
use Rattle.std.specs.Prelude.{ℕ, ◌+◌, Bool, true, false, Option, Some, None, List, [], ◌∷◌}
use Rattle.bus_register.specs.declared.registers.Op.{Op}
use Rattle.bus_presence.specs.Reclamation.{Entry}
use Rattle.bus_tenure.specs.Core.{Election, Layout}
use Rattle.bus_tenure.specs.Seen.{turns_of, is_holding}
use Rattle.bus_tenure.specs.declared.phases.Phase.{Phase}
use Rattle.bus_tenure.specs.declared.phases.Phase.TheVariants as phase
use Rattle.bus_core.specs.Keeping.{queue_of}
use Rattle.bus_core.specs.Senders.{Sender, Situation, Does, Announces, Validates, Unpins}
use Rattle.bus_core.specs.Senders.{Withdraws, Scans, Clears, ReadsPassed, situation}
use Rattle.bus_core.specs.Table.{Line, line_now, rest_at}
use Rattle.bus_world.specs.Trails.{step_action}
use Rattle.bus_world.specs.Turning.{before_step, after_step, laying}
use Rattle.bus_world.specs.Waiting.{waiting_at}
use Rattle.bus_machine.specs.Machine.{log_place, passers_place, moved, put_in, mark_in}
use Rattle.bus_machine.specs.Remembering.{rows_in}
use Rattle.bus_automaton.specs.Processes.{TableLayout, Process}
use Rattle.bus_automaton.specs.SenderTrails.{SenderTrail, sender_trail_of_actions}

-- how large a bus is: with a row for each tenure, or with so many rows that are used again and a
-- presence for each sender before them
abbrev pub table_layout_by : Layout → Option ℕ → TableLayout
table_layout_by x reuse = record {
  senders = x.senders;
  words = log_place x reuse + x.capacity;
  log = log_place x reuse;
  capacity = x.capacity;
  passed = passers_place x reuse;
  passers = x.passers;
  batch = x.batch;
}

-- ---- where it stands
-- it has taken the page, which does not stand before it yet
abbrev pub is_taken : {E : Type 0} → Phase E → Bool
is_taken phase.Resting = false
is_taken (phase.Electing t e) = false
is_taken (phase.Taken t) = true
is_taken (phase.Holding t page stored published) = false
is_taken (phase.Giving t reason) = false

-- ---- what a step adds to the trail
abbrev pub entries : Option Op → ℕ → List Entry
entries None got = []
entries (Some o) got = record { op = o; got = got } ∷ []

abbrev pub adds_pin : Option Op → ℕ → SenderTrail
adds_pin o got = record { first = 0; actions = []; pins = entries o got; reclaims = [] }

abbrev pub adds_reclaim : Option Op → ℕ → SenderTrail
adds_reclaim o got = record { first = 0; actions = []; pins = []; reclaims = entries o got }

-- in this situation, by this line: steps of pins and of reclamations are no actions
abbrev pub adds_by : {E : Type 0} → Situation E → Line E → ℕ → ℕ → SenderTrail
adds_by (Does z) l got word = sender_trail_of_actions 0
    (step_action l.kind l.tenure got (l.chosen got word) (l.answer got word))
adds_by (Announces t) l got word = adds_pin (l.op word) got
adds_by (Validates t) l got word = adds_pin (l.op word) got
adds_by (Unpins t) l got word = adds_pin (l.op word) got
adds_by (Withdraws t) l got word = adds_pin (l.op word) got
adds_by (Scans s) l got word = adds_reclaim (l.op word) got
adds_by (Clears s) l got word = adds_reclaim (l.op word) got
adds_by (ReadsPassed t p) l got word = sender_trail_of_actions 0
    (step_action l.kind l.tenure got (l.chosen got word) (l.answer got word))

abbrev pub process_of : {E : Type 0} → Election E → Process (Sender E)
process_of X = record {
  me = λ v. v.core.me;
  table_layout = λ v. table_layout_by v.core.layout (rows_in v.reuse);
  queue = λ v. queue_of v.core.queue v.reuse;
  with_message = λ v bytes. put_in v bytes;
  with_mark = λ v mark. mark_in v mark;
  waiting = λ v. waiting_at v.core v.core.phase;
  op = λ v word. (line_now X v).op word;
  kind = λ v. (line_now X v).kind;
  wants_word = λ v. (line_now X v).wants_word;
  turns_left = λ v. turns_of X v.core.phase;
  rest = λ v. rest_at (line_now X v);
  move = λ v. (line_now X v).move;
  after =
      λ v home got word. moved (after_step (line_now X v).move) home ((line_now X v).fed got word);
  answer = λ v got word. (line_now X v).answer got word;
  adds = λ v got word. adds_by (situation X v) (line_now X v) got word;
  holds = λ v. is_holding v.core.phase;
  handed = λ v. moved (before_step (line_now X v).move) None v;
  fed = λ v got word. (line_now X v).fed got word;
  awaits = λ v. is_taken v.core.phase;
  laid = λ v page. moved (laying v.core.phase) (Some page) v;
}

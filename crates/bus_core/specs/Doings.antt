-- What code sees of a situation, in its tenure or beside it.
use Rattle.std.specs.Prelude.{ℕ, Bool, false, Option, Some, None, nat_lt}
use Rattle.bus_tenure.specs.Doings.{doing_of}
use Rattle.bus_tenure.specs.declared.doings.Doing.{Doing}
use Rattle.bus_tenure.specs.declared.doings.Doing.TheVariants as doing
use Rattle.bus_tenure.specs.declared.turns.Turn.{Turn}
use Rattle.bus_tenure.specs.declared.turns.Turn.TheVariants as turn
use Rattle.bus_tenure.specs.declared.phases.Reason.TheVariants.{Sent, FoundEnd, NoRoom}
use Rattle.bus_core.specs.declared.reuses.Passing.{Passing}
use Rattle.bus_core.specs.declared.steps.Step.{Step}
use Rattle.bus_core.specs.declared.steps.Ending.{Ending}
use Rattle.bus_core.specs.declared.steps.Step.TheVariants as step
use Rattle.bus_core.specs.Senders.{Situation, Does, Announces, Validates, Unpins, Withdraws, Scans}
use Rattle.bus_core.specs.Senders.{Clears, ReadsPassed}

-- a step shows what it is, and what code does it with
abbrev pub step_of : {E : Type 0} → Situation E → Step
step_of (Does z) = step.Does (doing_of z)
step_of (Announces t) = step.Announces t
step_of (Validates t) = step.Validates t
step_of (Unpins t) = step.Unpins t
step_of (Withdraws t) = step.Withdraws t
step_of (Scans s) = step.Scans
step_of (Clears s) = step.Clears
step_of (ReadsPassed t p) = step.ReadsPassed

-- the answer without a step of who does this, and Going where one is due
abbrev pub rest_of : Doing → Turn
rest_of (doing.Rests a) = a
rest_of doing.Looks = turn.Going
rest_of (doing.Elects t) = turn.Going
rest_of (doing.Takes t) = turn.Going
rest_of (doing.Awaits t) = turn.Going
rest_of (doing.Word t words stored) = turn.Going
rest_of (doing.Length t words) = turn.Going
rest_of (doing.Back t reason) = turn.Going
rest_of (doing.Handed t reason) = turn.Going

-- where so many passed places are, and this is loaded of them, one is loaded before what is done
-- next
abbrev pub asks_first : ℕ → Passing → Doing → Bool
asks_first passers p (doing.Back t NoRoom) = nat_lt p.loaded passers
asks_first passers p (doing.Back t Sent) = false
asks_first passers p (doing.Back t FoundEnd) = false
asks_first passers p (doing.Rests a) = false
asks_first passers p doing.Looks = false
asks_first passers p (doing.Elects t) = false
asks_first passers p (doing.Takes t) = false
asks_first passers p (doing.Awaits t) = false
asks_first passers p (doing.Word t words stored) = false
asks_first passers p (doing.Length t words) = false
asks_first passers p (doing.Handed t reason) = false

-- how what gives the page back ends its tenure
abbrev pub ending_by : Doing → Option Ending
ending_by (doing.Back t reason) = Some record { tenure = t; reason = reason }
ending_by (doing.Rests a) = None
ending_by doing.Looks = None
ending_by (doing.Elects t) = None
ending_by (doing.Takes t) = None
ending_by (doing.Awaits t) = None
ending_by (doing.Word t words stored) = None
ending_by (doing.Length t words) = None
ending_by (doing.Handed t reason) = None

-- the same of a step
abbrev pub ending_of : Step → Option Ending
ending_of (step.Does d) = ending_by d
ending_of (step.Announces t) = None
ending_of (step.Validates t) = None
ending_of (step.Unpins t) = None
ending_of (step.Withdraws t) = None
ending_of step.Scans = None
ending_of step.Clears = None
ending_of step.ReadsPassed = None

-- The events that a program tells, and ranges of sizes.
use Rattle.std.specs.Prelude.{◌≡◌, ℕ, ◌<◌, ◌≤◌, ◌⊎◌, true, Option, Some, None}
use Rattle.bus_batch.specs.declared.messages.Mark.{Mark}
use Rattle.bus_batch.specs.declared.messages.Mark.TheVariants.{End, Leave}
use Rattle.bus_deliverylog.specs.Receiving.{Receiving}
use Rattle.bus_world.specs.World.{Event, Put, Ask, Turn, Recv, Stop, Gone}
use Rattle.bus_world.specs.declared.events.Event.{Event as Told}
use Rattle.bus_world.specs.declared.events.Event.TheVariants as told
use Rattle.bus_world.specs.declared.events.Answer.{Answer}
use Rattle.bus_world.specs.declared.events.Answer.TheVariants as answer
use Rattle.bus_world.specs.declared.events.StepFault.{StepFault}
use Rattle.bus_world.specs.declared.events.StepFault.TheVariants as fault

abbrev pub Within : ℕ → ℕ → ℕ → Type 0
Within low high n = (low ≤ n) × (n ≤ high)

abbrev pub Beyond : ℕ → ℕ → ℕ → Type 0
Beyond low high n = (n < low) ⊎ (high < n)

-- the event that a program tells
abbrev pub event_told : Told → Event
event_told (told.Put s bytes) = Put s bytes.items
event_told (told.Close s) = Ask s End
event_told (told.Leave s) = Ask s Leave
event_told (told.Turn s word) = Turn s word
event_told (told.Recv r) = Recv r
event_told (told.Stop s) = Stop s
event_told (told.Gone r) = Gone r

-- what a close or a leave that is taken is answered
abbrev pub asked_answer : Mark → Answer
asked_answer End = answer.Closing
asked_answer Leave = answer.Leaving

-- a receiver that is not there, or has left for good
abbrev pub RecvRefused : Option Receiving → StepFault → Type 0
RecvRefused None why = why ≡ fault.NoSuchReceiver
RecvRefused (Some v) why = (v.gone ≡ true) × (why ≡ fault.Gone)

-- Why a receiver does not fork to this number, of which these are the receivers: either is not
-- there; the number is not above; or the one that was to fork has left.
abbrev pub ForkRefused : Option Receiving → Option Receiving → (i j : ℕ) → StepFault → Type 0
ForkRefused None other i j why = why ≡ fault.NoSuchReceiver
ForkRefused (Some v) None i j why = why ≡ fault.NoSuchReceiver
ForkRefused (Some v) (Some w) i j why =
    ((j ≤ i) × (why ≡ fault.NotAbove)) ⊎ ((i < j) × (v.gone ≡ true) × (why ≡ fault.Gone))

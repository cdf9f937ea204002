-- What the bus with a row for each tenure answers to each event.
use Rattle.std.specs.Prelude.{◌≡◌, ℕ, Option, Some, None, List, length, slice_get, slice_index}
use Rattle.std.specs.Prelude.{slice_set}
use Rattle.bus_batch.specs.Batches.{next_of, CanPut, CanClose}
use Rattle.bus_deliverylog.specs.Receiving.{Receiving}
use Rattle.bus_deliverylog.specs.declared.receiving.RecvTurn.{RecvTurn}
use Rattle.bus_tenure.specs.Core.{Core, Election}
use Rattle.bus_tenure.specs.Situations.{situation_of, op_at, answer_at}
use Rattle.bus_world.specs.Turning.{number_found}
use Rattle.bus_world.specs.Private.Machines.{Bus, going}
use Rattle.bus_world.specs.World.{Event, Put, Ask, Turn, Recv, Stop, Gone, RecvDoes}
use Rattle.bus_world.specs.declared.events.Answer.{Answer}
use Rattle.bus_world.specs.declared.events.Answer.TheVariants as answer
use Rattle.bus_world.specs.Playing.{asked_answer}

-- a message of so many bytes gets the number that was told before
abbrev pub PutGives : {E : Type 0} → Option (Core E) → ℕ → ℕ → Type 0
PutGives None len number = ⊥
PutGives (Some c) len number = CanPut c.queue len × (number ≡ next_of c.queue)

-- a close or a leave is taken
abbrev pub CloseGives : {E : Type 0} → Option (Core E) → Type 0
CloseGives None = ⊥
CloseGives (Some c) = CanClose c.queue

-- a turn of a sender gives the answer of its situation and of what its step found
abbrev pub TurnAnswers : {E : Type 0} → Election E → List ℕ → Option (Core E) → ℕ → Answer → Type 0
TurnAnswers X words None word a = ⊥
TurnAnswers X words (Some c) word a =
    a
    ≡ answer.Turn (answer_at X c (situation_of X c)
    (number_found (slice_index words) (op_at X c (situation_of X c) word)) word)

-- a turn of a receiver gives the answer of the step that it took
abbrev pub RecvAnswers : List ℕ → List Receiving → ℕ → Option Receiving → Answer → List Receiving
    → Type 0
RecvAnswers words old r None a new = ⊥
RecvAnswers words old r (Some v) a new =
    (next : Receiving) × (turn : RecvTurn) × RecvDoes (slice_index words) v turn next
    × (new ≡ slice_set old r next) × (a ≡ answer.Recv turn)

-- a stop is taken of each sender that goes on, whatever waits at it
abbrev pub StopGives : {E : Type 0} → Option (Core E) → Type 0
StopGives None = ⊥
StopGives (Some c) = Unit {0}

-- a receiver that there is leaves
abbrev pub LeaveGives : Option Receiving → Type 0
LeaveGives None = ⊥
LeaveGives (Some v) = Unit {0}

-- no event of a sender that has stopped is answered
abbrev pub Answers : {E : Type 0} → Election E → Bus E → Event → Answer → Bus E → Type 0
Answers X old (Put s bytes) a new =
    (number : ℕ) × PutGives (going old s) (length bytes) number × (a ≡ answer.Number number)
Answers X old (Ask s mark) a new = CloseGives (going old s) × (a ≡ asked_answer mark)
Answers X old (Turn s word) a new = TurnAnswers X old.side.words (going old s) word a
Answers X old (Recv r) a new =
    RecvAnswers old.side.words old.receivers r (slice_get old.receivers r) a new.receivers
Answers X old (Stop s) a new = StopGives (going old s) × (a ≡ answer.Stopped)
Answers X old (Gone r) a new = LeaveGives (slice_get old.receivers r) × (a ≡ answer.Gone)

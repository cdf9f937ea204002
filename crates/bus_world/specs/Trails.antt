-- What a step, a put, a mark and an answer add to the trails, and who took the pages by them.
use Rattle.std.specs.Prelude.{◌≡◌, ℕ, Option, Some, None, List, [], ◌∷◌, ◌++◌, slice_get}
use Rattle.std.specs.Prelude.{if◌then◌else◌, ◌==◌}
use Rattle.bus_register.specs.declared.kinds.Kind.{Kind}
use Rattle.bus_batch.specs.declared.messages.Mark.TheVariants as mark
use Rattle.bus_deliverylog.specs.declared.receiving.RecvTurn.{RecvTurn}
use Rattle.bus_tenure.specs.declared.turns.Turn.{Turn as Answered}
use Rattle.bus_world.specs.Headline.{Action, HasPut, HasMarked, Stepped, Took}
use Rattle.bus_world.specs.declared.events.Answer.{Answer}
use Rattle.bus_world.specs.declared.events.Answer.TheVariants as answer

-- a turn without a step adds nothing
abbrev pub step_action : Option Kind → Option ℕ → ℕ → Option ℕ → Answered → List Action
step_action None tenure got chose turn = []
step_action (Some k) tenure got chose turn = Stepped tenure k got chose turn ∷ []

-- what a put of these bytes adds, by its answer
abbrev pub put_actions : List ℕ → Answer → List Action
put_actions bytes (answer.Number n) = HasPut n bytes ∷ []
put_actions bytes answer.Closing = []
put_actions bytes answer.Leaving = []
put_actions bytes (answer.Turn t) = []
put_actions bytes (answer.Recv t) = []
put_actions bytes answer.Stopped = []
put_actions bytes answer.Gone = []

-- what a close or a leave adds, by its answer
abbrev pub mark_actions : Answer → List Action
mark_actions (answer.Number n) = []
mark_actions answer.Closing = HasMarked mark.End ∷ []
mark_actions answer.Leaving = HasMarked mark.Leave ∷ []
mark_actions (answer.Turn t) = []
mark_actions (answer.Recv t) = []
mark_actions answer.Stopped = []
mark_actions answer.Gone = []

-- ---- the trails of all
-- these actions join the trail of sender p
abbrev pub actions_with : ℕ → List Action → (ℕ → List Action) → ℕ → List Action
actions_with p ds D q = D q ++ (if q == p then ds else [])

-- this answer joins the trail of receiver r
abbrev pub answers_with : ℕ → RecvTurn → (ℕ → List RecvTurn) → ℕ → List RecvTurn
answers_with r answer H q = H q ++ (if q == r then answer ∷ [] else [])

-- A receiver joins with the number j. What was published before its place counts as given to it, by
-- these answers, and it goes on from there. What was answered to the one that had the number j
-- before stands with a number n of nobody.
abbrev pub answers_joined : List RecvTurn → (j n : ℕ) → (ℕ → List RecvTurn) → ℕ → List RecvTurn
answers_joined before j n H q = if q == j then before else (if q == n then H j else H q)

-- nothing has happened
abbrev pub no_actions : ℕ → List Action
no_actions q = []

abbrev pub no_answers : ℕ → List RecvTurn
no_answers r = []

-- who took the pages, by tenure
pub record Takers (owners : List ℕ) (actions : ℕ → List Action) : Type 0 where
  pub took : (t s : ℕ) → slice_get owners t ≡ Some s → (place : ℕ) × Took (actions s) t place
  pub only : (t s place : ℕ) → Took (actions s) t place → slice_get owners t ≡ Some s

-- What a sender is answered that goes through what is left of its tenure, as numbers.
use Rattle.std.specs.Prelude.{◌≡◌, ℕ, false, Option, Some, None, IfSome, IfNone}
use Rattle.bus_tenure.specs.declared.turns.Turn.{Turn}
use Rattle.bus_world.specs.Headline.{puts}
use Rattle.bus_automaton.specs.ThreeWordBuses.{Held, process, election}
use Rattle.bus_pageslot.specs.Finishing.{Finishes, HasFinished, is_sent}
use Rattle.bus_pageslot.specs.Seats.{SenderSeat, table_of, actions_of}
use Rattle.bus_pageslot.specs.Sendings.{KeptAfter}
use Rattle.bus_embed.specs.declared.codes.TheConstants as code
use Rattle.bus_embed.specs.declared.answers.TurnAnswer.{TurnAnswer}
use Rattle.bus_embed.specs.Answers.{turn_code, turn_answer}
use Rattle.bus_embed.specs.Calls.{tells}

-- what the call of its handle promises, in one: it had begun no tenure, or took turns of the one
-- that it had begun, of which the last was answered so
pub record LetsGo (old : SenderSeat Held) (given : Option Turn) (new : SenderSeat Held) : Type 0
  where
    pub table : table_of new ≡ table_of old
    pub none : IfNone given ((new ≡ old) × HasFinished process old)
    pub finishes : IfSome given (λ turn. Finishes election process tells old turn new)
    pub keeps : IfSome given (λ turn. is_sent turn ≡ false → KeptAfter process old turn new)
    pub puts_are : puts (actions_of process new) ≡ puts (actions_of process old)

-- that as a code, and what it says; before is what the place had that it is written to
abbrev pub finish_code : Option Turn → ℕ
finish_code None = code.OK
finish_code (Some turn) = turn_code turn

abbrev pub finish_told : TurnAnswer → Option Turn → TurnAnswer
finish_told before None = before
finish_told before (Some turn) = turn_answer turn

pub record FinishAnswered (old : SenderSeat Held) (answer : ℕ) (before after : TurnAnswer)
    (new : SenderSeat Held) : Type 0 where
  pub given : Option Turn
  pub lets_go : LetsGo old given new
  pub code : answer ≡ finish_code given
  pub says : after ≡ finish_told before given

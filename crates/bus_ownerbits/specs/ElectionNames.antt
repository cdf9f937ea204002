-- How an election is seen from outside: its owner as a sender, and when it asks for a random word.
use Rattle.std.specs.Prelude.{ℕ, Bool, false, Option, Some, None}
use Rattle.bus_register.specs.declared.registers.SenderNo.{SenderNo}
use Rattle.bus_register.specs.Protocol.{Protocol}
use Rattle.bus_binconsensus.specs.Objects.{Decider, object_calls}
use Rattle.bus_ownerbits.specs.declared.stages.Stage.{Stage}
use Rattle.bus_ownerbits.specs.declared.stages.Stage.TheVariants.{Announce, Propose, Search, Alone}
use Rattle.bus_ownerbits.specs.Election.{Electing}

-- an owner as a sender's number
abbrev pub sender : Option ℕ → Option SenderNo
sender None = None
sender (Some number) = Some record { 0 = number }

abbrev pub calls_at : {S T : Type 0} → Protocol T Bool Bool → Stage (Decider S T) → Bool
calls_at C Announce = false
calls_at C (Propose d) = object_calls C d.object
calls_at C (Search i) = false
calls_at C Alone = false

-- the next step asks for a random word, where ratifiers do not
abbrev pub calls_of : {S T : Type 0} → Protocol T Bool Bool → Electing (Decider S T) → Bool
calls_of C s = calls_at C s.stage

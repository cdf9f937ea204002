-- Behind which answers an event is repeated.
use Rattle.std.specs.Prelude.{Bool, false}
use Rattle.bus_deliverylog.specs.Receiving.{recv_goes_on}
use Rattle.bus_tenure.specs.Classes.{still_goes}
use Rattle.bus_world.specs.declared.events.Answer.{Answer}
use Rattle.bus_world.specs.declared.events.Answer.TheVariants as answer

-- a sender's turns go on while it is going, a receiver's until it finds nothing or the end
abbrev pub goes_on : Answer → Bool
goes_on (answer.Number n) = false
goes_on answer.Closing = false
goes_on answer.Leaving = false
goes_on (answer.Turn t) = still_goes t
goes_on (answer.Recv t) = recv_goes_on t
goes_on answer.Stopped = false
goes_on answer.Gone = false

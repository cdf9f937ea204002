use Rattle.std.proofs.Common.{arith}
use Rattle.bus_machine.proofs.Calls.Events.{stop_late, stop_unknown}
use Rattle.bus_machine.proofs.worlds.World.goes_on.Goals as goal

pub returns-then-sender-len-clause-fault : goal.returns-then-sender-len-clause-fault
returns-then-sender-len-clause-fault g c =
    stop_unknown _ c.args.self.now c.self.view_is c.args.sender (omega arith)

pub returns-then-self-sender-clause-fault : goal.returns-then-self-sender-clause-fault
returns-then-self-sender-clause-fault g c =
    stop_late _ c.args.self.now c.self.view_is c.args.sender (omega arith) c.if-self-sender.true

use Rattle.std.specs.Arc.{arc_value}
use Rattle.bus_handles.proofs.HandleLaws.{same_seat}
use Rattle.bus_handles.proofs.receivers.ReceiverHandle.new.Goals as goal

pub returns-clause-seat : goal.returns-clause-seat
returns-clause-seat g c = same_seat c.args.receiver (arc_value c.args.bus) c.requires

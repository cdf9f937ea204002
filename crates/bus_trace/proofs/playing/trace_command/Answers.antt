use Rattle.std.proofs.Common.{ap}
use Rattle.bus_replay.specs.Told.{command_told}
use Rattle.bus_trace.proofs.playing.trace_command.Goals as goal

pub trace_event-requires-clause-some : goal.trace_event-requires-clause-some
trace_event-requires-clause-some g c =
    c.requires.some _ c.in-Play.times (ap command_told c.in-Play.is)

pub returns-in-Play-clause-done : goal.returns-in-Play-clause-done
returns-in-Play-clause-done g c =
    rw (ap command_told c.in-Play.is) c.trace_event.ensures.repeated

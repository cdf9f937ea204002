use Rattle.std.proofs.Common.{◌++◌, take}
use Rattle.std.proofs.KnownBytes.{Appends-trans}
use Rattle.bus_commands.proofs.StreamLemmas.{front_done}
use Rattle.bus_commands.proofs.streams.write_whole.Goals as goal

pub loop-rest-preserved : goal.loop-rest-preserved
loop-rest-preserved g c =
    let h = c.loop-rest.invariant in
    record {
      done = h.done ++ take c.in-Ok.count c.loop-rest.rest.now;
      parts = front_done c.args.text.now h.done c.loop-rest.rest.now c.in-Ok.count h.parts;
      written = Appends-trans _ _ _ _ _ h.written c.in-Ok.ensures.bytes;
    }

use Rattle.std.proofs.Common.{◌++◌, ◌+◌, ◌-◌, ◌≤◌, vec_len, take, length, arith}
use Rattle.std.proofs.lemmas.List.{length-append, length-take}
use Rattle.std.proofs.KnownBytes.{Consumes-trans}
use Rattle.bus_commands.proofs.streams.read_whole.Goals as goal

pub returns-in_err-extend_from_slice-clause-taken :
    goal.returns-in_err-extend_from_slice-clause-taken
returns-in_err-extend_from_slice-clause-taken g c =
    let read = take c.in-Ok.count c.read.new.buf in
    let room : length c.read.new.buf ≤ c.args.limit + 1 - vec_len c.loop-chunk.input = omega (
      arith,
      c.read.auto.buf,
      length-take c.min-room.result c.loop-chunk.chunk,
      c.min-room.ensures,
      c.len-in-loop-chunk.ensures,
    ) in
    let short : length (c.loop-chunk.input.items ++ read) ≤ c.args.limit + 1 = omega (
      arith,
      length-append c.loop-chunk.input.items read,
      length-take c.in-Ok.count c.read.new.buf,
      c.loop-chunk.input.ok.0,
      c.loop-chunk.invariant.room,
    ) in (
      c.loop-chunk.input.items ++ read,
      short,
      Consumes-trans _ _ _ _ _ c.loop-chunk.invariant.taken c.in-Ok.ensures.bytes.0,
    )

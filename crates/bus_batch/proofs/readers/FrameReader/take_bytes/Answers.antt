use Rattle.bus_batch.proofs.Taking.{refused}
use Rattle.bus_batch.proofs.readers.FrameReader.take_bytes.Goals as goal

pub returns-else-take_last-clause-steps : goal.returns-else-take_last-clause-steps
returns-else-take_last-clause-steps c =
    let bad = c.take_last.ensures.bad c.if-take_last.false in
    refused c.args.self.now c.take_last.new.self c.args.word (bad.0, bad.1)

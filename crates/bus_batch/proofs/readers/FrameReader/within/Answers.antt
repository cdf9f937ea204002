use Rattle.bus_batch.proofs.Feeding.{reads_none}
use Rattle.bus_batch.proofs.readers.FrameReader.within.Goals as goal

pub returns-clause-read : goal.returns-clause-read
returns-clause-read c = reads_none c.args.most c.args.senders c.nobody.result c.new.result
    c.nobody.ensures
    c.new.ensures

use Rattle.std.proofs.Common.{Ok, None}
use Rattle.bus_batch.proofs.Feeding.{gives_of, read_of}
use Rattle.bus_batch.proofs.readers.FrameReader.take_plain.Goals as goal

pub returns-then-length-gt0-clause-gives : goal.returns-then-length-gt0-clause-gives
returns-then-length-gt0-clause-gives c most words pieces had did = gives_of most
    c.args.self.now.senders words
    pieces c.args.word c.args.self.now c.begin_message.new.self had (Ok None)
    (c.begin_message.ensures.good did)

pub returns-then-length-gt0-clause-read : goal.returns-then-length-gt0-clause-read
returns-then-length-gt0-clause-read c most words pieces had did = read_of most
    c.args.self.now.senders words
    pieces c.args.word c.args.self.now c.begin_message.new.self had (Ok None)
    c.begin_message.ensures.sound
    (c.begin_message.ensures.good did)

pub returns-else-len-le8-clause-gives : goal.returns-else-len-le8-clause-gives
returns-else-len-le8-clause-gives c most words pieces had did = gives_of most
    c.args.self.now.senders words
    pieces c.args.word c.args.self.now c.take_part.new.self had (Ok None) c.take_part.ensures.steps

pub returns-else-len-le8-clause-read : goal.returns-else-len-le8-clause-read
returns-else-len-le8-clause-read c most words pieces had did = read_of most c.args.self.now.senders
    words
    pieces c.args.word c.args.self.now c.take_part.new.self had (Ok None)
    c.take_part.ensures.sound c.take_part.ensures.steps

use Rattle.bus_batch.proofs.Feeding.{bad_of, gives_of, read_of}
use Rattle.bus_batch.proofs.readers.FrameReader.try_feed.Goals as goal

pub returns-in-Between-clause-bad : goal.returns-in-Between-clause-bad
returns-in-Between-clause-bad c most words pieces had = bad_of most c.args.self.now.senders words
    pieces
    c.args.word c.args.self.now c.take_head.new.self had c.take_head.result
    c.take_head.ensures.steps

pub returns-in-Between-clause-gives : goal.returns-in-Between-clause-gives
returns-in-Between-clause-gives c most words pieces had = gives_of most c.args.self.now.senders
    words pieces
    c.args.word c.args.self.now c.take_head.new.self had c.take_head.result
    c.take_head.ensures.steps

pub returns-in-Between-clause-read : goal.returns-in-Between-clause-read
returns-in-Between-clause-read c most words pieces had = read_of most c.args.self.now.senders words
    pieces
    c.args.word c.args.self.now c.take_head.new.self had c.take_head.result
    c.take_head.ensures.sound c.take_head.ensures.steps

pub returns-in-Body-clause-bad : goal.returns-in-Body-clause-bad
returns-in-Body-clause-bad c most words pieces had = bad_of most c.args.self.now.senders words
    pieces
    c.args.word c.args.self.now c.take_message.new.self had c.take_message.result
    c.take_message.ensures.steps

pub returns-in-Body-clause-gives : goal.returns-in-Body-clause-gives
returns-in-Body-clause-gives c most words pieces had = gives_of most c.args.self.now.senders words
    pieces
    c.args.word c.args.self.now c.take_message.new.self had c.take_message.result
    c.take_message.ensures.steps

pub returns-in-Body-clause-read : goal.returns-in-Body-clause-read
returns-in-Body-clause-read c most words pieces had = read_of most c.args.self.now.senders words
    pieces
    c.args.word c.args.self.now c.take_message.new.self had c.take_message.result
    c.take_message.ensures.sound c.take_message.ensures.steps

pub returns-in-Data-clause-bad : goal.returns-in-Data-clause-bad
returns-in-Data-clause-bad c most words pieces had = bad_of most c.args.self.now.senders words
    pieces
    c.args.word c.args.self.now c.take_bytes.new.self had c.take_bytes.result
    c.take_bytes.ensures.steps

pub returns-in-Data-clause-gives : goal.returns-in-Data-clause-gives
returns-in-Data-clause-gives c most words pieces had = gives_of most c.args.self.now.senders words
    pieces
    c.args.word c.args.self.now c.take_bytes.new.self had c.take_bytes.result
    c.take_bytes.ensures.steps

pub returns-in-Data-clause-read : goal.returns-in-Data-clause-read
returns-in-Data-clause-read c most words pieces had = read_of most c.args.self.now.senders words
    pieces
    c.args.word c.args.self.now c.take_bytes.new.self had c.take_bytes.result
    c.take_bytes.ensures.sound c.take_bytes.ensures.steps

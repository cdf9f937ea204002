use Rattle.std.proofs.Common.{Ok, Some}
use Rattle.bus_batch.specs.declared.messages.Piece.TheVariants as piece
use Rattle.bus_batch.proofs.Feeding.{gives_of, read_of}
use Rattle.bus_batch.proofs.readers.FrameReader.take_item.Goals as goal

pub returns-else-len-gt8-clause-gives : goal.returns-else-len-gt8-clause-gives
returns-else-len-gt8-clause-gives c most words pieces had did = gives_of most
    c.args.self.now.senders words
    pieces c.args.word c.args.self.now c.take_last.new.self had
    (Ok (Some (piece.Item c.take_last.new.item))) (c.take_last.ensures.good did)

pub returns-else-len-gt8-clause-read : goal.returns-else-len-gt8-clause-read
returns-else-len-gt8-clause-read c most words pieces had did = read_of most c.args.self.now.senders
    words
    pieces c.args.word c.args.self.now c.take_last.new.self had
    (Ok (Some (piece.Item c.take_last.new.item))) c.take_last.ensures.sound
    (c.take_last.ensures.good did)

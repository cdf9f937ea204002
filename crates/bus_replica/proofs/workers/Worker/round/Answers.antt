use Rattle.std.proofs.Common.{inl, subst}
use Rattle.bus_replica.specs.Replicas.{Here, HearsOut}
use Rattle.bus_replica.proofs.GoingLaws.{goes_same, goes_trans, out_goes, out_ends}
use Rattle.bus_replica.proofs.workers.Worker.round.Goals as goal

pub returns-in_err-send-clause-on : goal.returns-in_err-send-clause-on
returns-in_err-send-clause-on g c =
    goes_same c.args.self.now.me c.args.self.now.me c.send.new.self.me Here c.send.ensures.me.0

pub returns-then-hear-clause-on : goal.returns-then-hear-clause-on
returns-then-hear-clause-on g c =
    goes_trans c.args.self.now.me c.send.new.self.me c.hear.new.self.me
    (goes_same c.args.self.now.me c.args.self.now.me c.send.new.self.me Here c.send.ensures.me.0)
    (out_goes c.send.new.self.me c.hear.result c.hear.new.self.me c.hear.ensures.out)

pub returns-then-hear-clause-cause : goal.returns-then-hear-clause-cause
returns-then-hear-clause-cause g c =
    inl (out_ends c.args.self.now.me c.send.new.self.me c.hear.new.self.me
    (goes_same c.args.self.now.me c.args.self.now.me c.send.new.self.me Here c.send.ensures.me.0)
    (subst (λ b. HearsOut c.send.new.self.me b c.hear.new.self.me) c.if-hear.true
    c.hear.ensures.out))

pub returns-clause-on : goal.returns-clause-on
returns-clause-on g c =
    goes_trans c.args.self.now.me c.send.new.self.me c.hear.new.self.me
    (goes_same c.args.self.now.me c.args.self.now.me c.send.new.self.me Here c.send.ensures.me.0)
    (out_goes c.send.new.self.me c.hear.result c.hear.new.self.me c.hear.ensures.out)

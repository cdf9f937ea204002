use Rattle.std.proofs.Common.{arith, subst}
use Rattle.bus_register.specs.declared.limits.TheConstants.{MOST_MESSAGES}
use Rattle.bus_batch.specs.Batches.{IsKept}
use Rattle.bus_batch.proofs.BatchLaws.{is_frame}
use Rattle.bus_batch.proofs.Batching.{body_least}
use Rattle.bus_batch.proofs.batches.Batch.frame_len.Goals as goal

pub returns-clause-least : goal.returns-clause-least
returns-clause-least c =
    let some =
    body_least c.args.self.now.phase c.args.self.now.first c.args.self.now.messages c.requires in
    let e = c.body_len.ensures.len in omega arith

pub returns-clause-lawful : goal.returns-clause-lawful
returns-clause-lawful c senders tenure owner below =
    let kept = subst IsKept c.self.view_is c.self.invariant.0 in
    is_frame MOST_MESSAGES c.args.self.now senders tenure kept.limit_few c.requires kept owner below

pub returns-clause-limited : goal.returns-clause-limited
returns-clause-limited c senders tenure owner below =
    is_frame c.args.self.now.limit c.args.self.now senders tenure (omega arith) c.requires
    (subst IsKept c.self.view_is c.self.invariant.0) owner below

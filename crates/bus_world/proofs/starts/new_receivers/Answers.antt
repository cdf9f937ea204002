use Rattle.std.proofs.Common.{◌+◌, ◌∙◌, [], arith, subst, sym}
use Rattle.bus_batch.specs.Reading.{HasRead}
use Rattle.bus_world.specs.Starting.{AreNewReceivers}
use Rattle.bus_world.proofs.StartingLaws.{one_more_receiver}
use Rattle.bus_world.proofs.starts.new_receivers.Goals as goal

pub loop-r-preserved : goal.loop-r-preserved
loop-r-preserved c = (
  omega arith,
  subst (AreNewReceivers c.args.shape.senders c.args.log.0 c.args.shape.log_words
      c.args.first_passed (c.loop-r.r + 1)) (sym c.in_ok-push.ensures.items)
      (one_more_receiver c.args.shape.senders c.args.log.0 c.args.shape.log_words
      c.args.first_passed c.loop-r.r c.loop-r.receivers.items c.new.result c.loop-r.invariant.1
      record {
        senders_are = c.new.ensures.senders;
        log_is = c.new.ensures.at.0;
        length_is = c.new.ensures.at.1;
        words_are = c.new.ensures.at.2;
        known = c.new.ensures.start.0;
        place = c.new.ensures.start.1;
        going = c.new.ensures.start.3;
        read = subst (λ z. HasRead z [] [] c.new.result.frames) c.new.ensures.senders
            c.new.ensures.received.read;
        passed_is = c.new.ensures.at.3 ∙ c.passed_place-passed.ensures;
        unpassed = c.new.ensures.start.2;
        stays = c.new.ensures.start.4;
      }),
)

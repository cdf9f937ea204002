use Rattle.std.proofs.Common.{◌∷◌, [], length, length-append, subst, sym}
use Rattle.bus_run.specs.Left.{HasLearnt, number_of, senders_of}
use Rattle.std.proofs.lemmas.List.Elements.{All-nil, All-push, All-weaker}
use Rattle.bus_pageslot.specs.Rule.{known_in}
use Rattle.bus_run.specs.Told.{HasTold}
use Rattle.bus_run.proofs.LeftLemmas.{grown, more_learnt, none_learnt}
use Rattle.bus_run.proofs.ToldLemmas.{still_told}
use Rattle.bus_run.proofs.closing.tell_all.Goals as goal

pub loop-send_worker-init : goal.loop-send_worker-init
loop-send_worker-init g c = record {
  table = c.requires.table;
  learnt = none_learnt c.args.first.me.0;
  told = All-nil (λ send_worker. HasTold (senders_of send_worker.sender)
      (number_of send_worker.sender) c.args.messages (known_in c.args.first.me.0));
}

pub loop-send_worker-preserved : goal.loop-send_worker-preserved
loop-send_worker-preserved g c =
    let before = known_in c.loop-send_worker.first.me.0 in
    let after = known_in c.tell.new.receiver.me.0 in
    record {
      table = c.tell.ensures.table;
      learnt =
          subst (λ n. HasLearnt n c.args.first.me.0 c.tell.new.receiver.me.0)
          (sym (length-append c.loop-send_worker.yielded (c.in-Some.send_worker ∷ [])))
          (more_learnt (length c.loop-send_worker.yielded) c.args.first.me.0
          c.loop-send_worker.first.me.0 c.tell.new.receiver.me.0 c.loop-send_worker.invariant.learnt
          c.tell.ensures.learnt);
      told =
          All-push (λ send_worker. HasTold (senders_of send_worker.sender)
          (number_of send_worker.sender) c.args.messages after) c.loop-send_worker.yielded
          c.in-Some.send_worker
          (All-weaker (λ send_worker. HasTold (senders_of send_worker.sender)
          (number_of send_worker.sender) c.args.messages before)
          (λ send_worker. HasTold (senders_of send_worker.sender) (number_of send_worker.sender)
          c.args.messages after) (λ send_worker told. still_told (senders_of send_worker.sender)
          (number_of send_worker.sender) c.args.messages before after told
          (grown 1 c.loop-send_worker.first.me.0 c.tell.new.receiver.me.0 c.tell.ensures.learnt))
          c.loop-send_worker.yielded c.loop-send_worker.invariant.told)
          c.tell.ensures.told;
    }

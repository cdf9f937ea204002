use Rattle.std.proofs.Common.{◌≡◌, ◌+◌, get_or, take, [], ◌∷◌, ◌++◌, refl, sym, subst, arith}
use Rattle.std.proofs.lemmas.List.{take_all, take_more}
use Rattle.bus_register.specs.declared.limits.TheConstants.{MOST_MESSAGES}
use Rattle.bus_batch.specs.Frames.{BeginsLog, IsBadWord}
use Rattle.bus_deliverylog.specs.Orders.{order_held}
use Rattle.bus_deliverylog.specs.Logs.{Reads, IsFirstBad}
use Rattle.bus_deliverylog.proofs.ReadLaws.{reads_more, begins, front_begins}
use Rattle.bus_deliverylog.proofs.reading.read_words.Goals as goal

pub loop-place-preserved : goal.loop-place-preserved
loop-place-preserved c = record {
  reads = reads_more c.args.senders (get_or c.args.words.now c.loop-place.place 0)
      (take c.loop-place.place c.args.words.now) (take (c.loop-place.place + 1) c.args.words.now)
      c.loop-place.reader c.feed.new.self (order_held c.loop-place.read.order)
      (order_held c.note.new.read.order) c.loop-place.read.owners.items c.note.new.read.owners.items
      c.in-Ok.found
      c.loop-place.invariant.reads c.in-Ok.ensures.senders
      (take_more c.args.words.now c.loop-place.place 0 c.loop-place-test.true)
      (c.in-Ok.ensures.read _ (take c.loop-place.place c.args.words.now)
      c.loop-place.invariant.reads.pieces c.loop-place.invariant.reads.had)
      c.in_ok-note-in-Ok.ensures.entries c.in_ok-note-in-Ok.ensures.ended
      c.in_ok-note-in-Ok.ensures.owners;
  places = c.in_ok-note-in-Ok.ensures.places;
}

pub returns-in-Err-clause-begins : goal.returns-in-Err-clause-begins
returns-in-Err-clause-begins c log =
    absurd
    ((subst (λ z. IsBadWord z (take c.loop-place.place c.args.words.now)
    (get_or c.args.words.now c.loop-place.place 0)) c.loop-place.invariant.reads.senders_are
    ((c.in-Err.ensures.bad _ (take c.loop-place.place c.args.words.now)
    c.loop-place.invariant.reads.pieces c.loop-place.invariant.reads.had).0 refl))
    (front_begins MOST_MESSAGES c.args.senders c.loop-place.place c.args.words.now
    c.loop-place-test.true log))

pub returns-in-Err-clause-bad : goal.returns-in-Err-clause-bad
returns-in-Err-clause-bad c place e =
    let same : c.loop-place.place ≡ place = cc in
    subst (λ z. IsFirstBad c.args.senders c.args.words.now z) same (record {
      below = c.loop-place-test.true;
      good = subst (λ z. BeginsLog z (take c.loop-place.place c.args.words.now))
          c.loop-place.invariant.reads.senders_are
          (begins MOST_MESSAGES c.loop-place.reader.senders
          (take c.loop-place.place c.args.words.now) c.loop-place.invariant.reads.pieces
          c.loop-place.reader c.loop-place.invariant.reads.had);
      bad =
          (subst (λ z. IsBadWord z (take c.loop-place.place c.args.words.now)
          (get_or c.args.words.now c.loop-place.place 0)) c.loop-place.invariant.reads.senders_are
          ((c.in-Err.ensures.bad _ (take c.loop-place.place c.args.words.now)
          c.loop-place.invariant.reads.pieces c.loop-place.invariant.reads.had).0 refl));
    })

pub returns-in_err-note-in-Ok-clause-no_memory : goal.returns-in_err-note-in-Ok-clause-no_memory
returns-in_err-note-in-Ok-clause-no_memory c _ = record {
  place = c.loop-place.place;
  below = c.loop-place-test.true;
  good = subst (λ z. BeginsLog c.args.senders z)
      (sym (take_more c.args.words.now c.loop-place.place 0 c.loop-place-test.true))
      (subst (λ z. BeginsLog z (take c.loop-place.place c.args.words.now
      ++ get_or c.args.words.now c.loop-place.place 0 ∷ []))
      c.loop-place.invariant.reads.senders_are
      (begins MOST_MESSAGES c.loop-place.reader.senders (take c.loop-place.place c.args.words.now
      ++ get_or c.args.words.now c.loop-place.place 0 ∷ [])
      (c.loop-place.invariant.reads.pieces ++ c.in-Ok.found ∷ []) c.feed.new.self
      (c.in-Ok.ensures.read _ (take c.loop-place.place c.args.words.now)
      c.loop-place.invariant.reads.pieces c.loop-place.invariant.reads.had)));
}

pub returns-clause-read : goal.returns-clause-read
returns-clause-read c =
    let all : take c.loop-place.place c.args.words.now ≡ c.args.words.now =
    take_all c.loop-place.place c.args.words.now (omega arith) in
    subst (λ z. Reads c.args.senders z c.loop-place.reader (order_held c.loop-place.read.order)
    c.loop-place.read.owners.items) all c.loop-place.invariant.reads

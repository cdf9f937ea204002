use Rattle.std.proofs.Common.{◌≡◌, ◌+◌, ◌++◌, get_or, take, string_bytes, rules, refl, subst, arith}
use Rattle.std.proofs.lemmas.List.{take_all, take_more}
use Rattle.bus_batch.specs.Frames.{BeginsLogOf, IsBadWordOf}
use Rattle.bus_deliverylog.specs.Logs.{IsFirstBadOf, IsTornOf}
use Rattle.bus_deliverylog.proofs.ReadLaws.{begins}
use Rattle.bus_logtext.specs.Text.{piece_line}
use Rattle.bus_logtext.proofs.TextLemmas.{Tells, tells_more, tells_all}
use Rattle.bus_logtext.proofs.text.log_text.Goals as goal

pub loop-place-preserved : goal.loop-place-preserved
loop-place-preserved c =
    let more : string_bytes c.push_piece.new.text
    ≡ string_bytes c.loop-place.text ++ piece_line c.in-Ok.found = search rules in
    tells_more c.args.most c.args.senders (get_or c.args.words.now c.loop-place.place 0)
    (take c.loop-place.place c.args.words.now) (take (c.loop-place.place + 1) c.args.words.now)
    c.loop-place.reader c.feed.new.self (string_bytes c.loop-place.text)
    (string_bytes c.push_piece.new.text) c.in-Ok.found
    c.loop-place.invariant c.in-Ok.ensures.senders
    (take_more c.args.words.now c.loop-place.place 0 c.loop-place-test.true)
    (c.in-Ok.ensures.read _ (take c.loop-place.place c.args.words.now) c.loop-place.invariant.pieces
    c.loop-place.invariant.had) more

pub returns-in-Err-clause-bad : goal.returns-in-Err-clause-bad
returns-in-Err-clause-bad c place e =
    let same : c.loop-place.place ≡ place = cc in
    subst (λ z. IsFirstBadOf c.args.most c.args.senders c.args.words.now z) same (record {
      below = c.loop-place-test.true;
      good = subst (λ z. BeginsLogOf c.args.most z (take c.loop-place.place c.args.words.now))
          c.loop-place.invariant.senders_are (begins c.args.most c.loop-place.reader.senders
          (take c.loop-place.place c.args.words.now) c.loop-place.invariant.pieces
          c.loop-place.reader c.loop-place.invariant.had);
      bad =
          (subst (λ z. IsBadWordOf c.args.most z (take c.loop-place.place c.args.words.now)
          (get_or c.args.words.now c.loop-place.place 0)) c.loop-place.invariant.senders_are
          ((c.in-Err.ensures.bad _ (take c.loop-place.place c.args.words.now)
          c.loop-place.invariant.pieces c.loop-place.invariant.had).0 refl));
    })

pub returns-then-inside-clause-torn : goal.returns-then-inside-clause-torn
returns-then-inside-clause-torn c _ =
    let all : take c.loop-place.place c.args.words.now ≡ c.args.words.now =
    take_all c.loop-place.place c.args.words.now (omega arith) in
    let t = c.loop-place.invariant in
    subst (λ z. IsTornOf c.args.most c.args.senders z) all
    (subst (λ z. IsTornOf c.args.most z (take c.loop-place.place c.args.words.now)) t.senders_are
    (record {
      good = begins c.args.most c.loop-place.reader.senders
          (take c.loop-place.place c.args.words.now) t.pieces c.loop-place.reader t.had;
      unfinished =
          c.if-inside.ensures.torn _ (take c.loop-place.place c.args.words.now) t.pieces t.had refl;
    }))

pub returns-clause-told : goal.returns-clause-told
returns-clause-told c =
    let all : take c.loop-place.place c.args.words.now ≡ c.args.words.now =
    take_all c.loop-place.place c.args.words.now (omega arith) in
    let t : Tells c.args.most c.args.senders c.args.words.now c.loop-place.reader
    (string_bytes c.loop-place.text) = subst
    (λ z. Tells c.args.most c.args.senders z c.loop-place.reader (string_bytes c.loop-place.text))
    all c.loop-place.invariant in
    tells_all c.args.most c.args.senders c.args.words.now c.loop-place.reader
    (string_bytes c.loop-place.text) t
    (c.inside.ensures.whole _ c.args.words.now t.pieces t.had c.if-inside.false)

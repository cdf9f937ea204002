use Rattle.std.proofs.Common.{◌≡◌, ◌<◌, ◌+◌, ◌++◌, true, refl, length, get_or, take, min, ap, sym}
use Rattle.std.proofs.Common.{subst, ◌∙◌, arith, inl, inr, eqb-true}
use Rattle.std.specs.Prelude.{eqb}
use Rattle.std.proofs.lemmas.Bool.{cases_lt}
use Rattle.std.proofs.lemmas.List.{length-take, length-drop, take-append-le, nil_from_length}
use Rattle.bus_journal.specs.Format.{record_bytes}
use Rattle.bus_journal.specs.Records.{count_of}
use Rattle.bus_journal.proofs.Pushing.{Pushed, pushed_more, pushed_all}
use Rattle.bus_journal.proofs.records.append_frames.Goals as goal

pub loop-rest-preserved : goal.loop-rest-preserved
loop-rest-preserved c =
    let inv = c.loop-rest.invariant in
    let rest = c.loop-rest.rest.now in
    let old = c.args.out.now.items in
    let out = c.loop-rest.out.items in
    let at = c.loop-rest.at in
    let count = c.min-count.result in
    let head = get_or rest 0 0 in
    let count_is : count ≡ min (count_of head + 1) (length rest) =
    c.min-count.ensures ∙ ap (λ z. min z (length rest)) c.frame_len.ensures in
    let new_is : c.push_record.new.out.items ≡ out ++ record_bytes at (take count rest) =
    c.in_ok-push_record.ensures.ok
    ∙ ap (λ z. out ++ record_bytes at z) c.split_at.ensures.front in
    let back = c.split_at.ensures.back in
    let there = inv.there in
    let left = ap length back in
    let dropped = length-drop count rest in
    let kept = inv.kept in
    let same = ap length kept in
    let taken = length-take (length old) out in
    let some : 0 < length rest = elim (cases_lt 0 (length rest)) [
      | inl some ↦ some
      | inr none ↦
          let zero : length rest ≡ 0 = omega (arith, none) in
          let empty : eqb (length rest) 0 ≡ true = ap (λ z. eqb z 0) zero in
          let e = c.is_empty.ensures in
          let t = c.loop-rest-test.true in absurd cc
    ] in
    record {
      kept = ap (λ z. take (length old) z) new_is
          ∙ take-append-le (length old) out (record_bytes at (take count rest))
          (omega (arith, same, taken))
          ∙ kept;
      there = omega (arith, there, left, dropped, count_is);
      pushed = λ senders frames lawful e.
          subst (λ z. Pushed c.args.place z old c.push_record.new.out.items (at + count) frames)
          (sym back)
          (pushed_more senders c.args.place at count head rest old out
          c.push_record.new.out.items frames lawful (inv.pushed senders frames lawful e) some
          refl count_is new_is);
    }

pub returns-clause-ok : goal.returns-clause-ok
returns-clause-ok c senders frames lawful e =
    let rest = c.loop-rest.rest.now in
    let is = c.is_empty.ensures in
    let t = c.loop-rest-test.false in
    let empty : eqb (length rest) 0 ≡ true = cc in
    pushed_all c.args.place c.loop-rest.at rest c.args.out.now.items c.loop-rest.out.items frames
    (c.loop-rest.invariant.pushed senders frames lawful e)
    (nil_from_length rest (eqb-true (length rest) 0 empty))

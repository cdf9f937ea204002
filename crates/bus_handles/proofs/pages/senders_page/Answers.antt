use Rattle.std.proofs.Common.{◌≡◌, ◌<◌, true, false, inl, inr, length, refl, sym, ◌∙◌, arith}
use Rattle.std.proofs.Common.{rules}
use Rattle.bus_register.specs.declared.limits.TheConstants.{MOST_SENDERS}
use Rattle.std.proofs.lemmas.List.{length-set}
use Rattle.std.proofs.lemmas.Option.{slice_get_read}
use Rattle.bus_automaton.specs.Buses.{process_with}
use Rattle.bus_handles.proofs.PageLaws.{differ, equal, none_noted, one_noted, all_noted}
use Rattle.bus_handles.proofs.PageLaws.{some_there}
use Rattle.bus_handles.proofs.pages.senders_page.Goals.{then-ne-via-then-ne}
use Rattle.bus_handles.proofs.pages.senders_page.Goals.{then-ne-via-else-ne+then-not-is_closed}
use Rattle.bus_handles.proofs.pages.senders_page.Goals as goal

pub loop-place-init : goal.loop-place-init
loop-place-init g c =
    let P = process_with g.Q.Machine.kind_of g.Q.Machine.op g.Q.Machine.fed g.Q.Ratifier.protocol in
    let long : length c.bases-next.result ≡ MOST_SENDERS = search rules in
    (long, none_noted P c.args.senders.now c.bases-next.result)

pub returns-then-ne-clause-fault : goal.returns-then-ne-clause-fault
returns-then-ne-clause-fault g c =
    let s = c.index-senders-place.result in
    let inside : c.loop-place.place < length c.args.senders.now =
    (let test = c.loop-place-test.true in let many = c.min-many.ensures in omega arith) in
    let there =
    slice_get_read c.args.senders.now (length c.args.senders.now) c.loop-place.place s refl inside
    c.index-senders-place.is in (
      c.loop-place.invariant.1.parted,
      inr (
        s,
        there,
        elim c.then-ne.branch [
          | then-ne-via-then-ne w ↦
              λ parted.
              differ c.number.result.0 c.loop-place.place c.ne.result c.ne.ensures w.if-ne.true
              (c.number.ensures ∙ parted.number_is)
          | then-ne-via-else-ne+then-not-is_closed w ↦
              λ parted. let shown : w.is_closed.result ≡ false = w.if-not-is_closed.true in
              let shut : w.is_closed.result ≡ true = w.is_closed.ensures ∙ parted.closed in
              let bad : false ≡ true = sym shown ∙ shut in cc
        ],
      ),
    )

pub loop-place-preserved : goal.loop-place-preserved
loop-place-preserved g c =
    let P = process_with g.Q.Machine.kind_of g.Q.Machine.op g.Q.Machine.fed g.Q.Ratifier.protocol in
    let s = c.index-senders-place.result in
    let long = c.loop-place.invariant.0 in
    let test = c.loop-place-test.true in let many = c.min-many.ensures in
    let inside : c.loop-place.place < length c.args.senders.now = omega (arith, test, many) in
    let there =
    slice_get_read c.args.senders.now (length c.args.senders.now) c.loop-place.place s refl inside
    c.index-senders-place.is in (
      length-set c.loop-place.next c.loop-place.place c.goes_on_from.result ∙ long,
      one_noted P c.args.senders.now c.loop-place.place c.goes_on_from.result c.loop-place.next s
          c.loop-place.invariant.1 (omega (arith, test, many, long)) there
          (record {
            number_is =
                sym c.number.ensures
                ∙ equal c.number.result.0 c.loop-place.place c.ne.result c.ne.ensures c.if-ne.false;
            closed = sym c.is_closed.ensures ∙ c.if-not-is_closed.false;
          }) c.goes_on_from.ensures,
    )

pub returns-then-many-due-clause-fault : goal.returns-then-many-due-clause-fault
returns-then-many-due-clause-fault g c =
    let over = c.loop-place-test.false in let many = c.min-many.ensures in
    let due = c.min-due.ensures in let few = c.if-many-due.true in
    let count = c.senders.ensures in
    let inside = some_there _ _ c.is_empty.ensures c.if-is_empty.false in (
      (
          λ place s below at.
          c.loop-place.invariant.1.parted place s (omega (arith, over, many, below)) at
          ),
      inl (record {
        ends = omega (arith, many, due, few);
        first = c.index-senders-0.result;
        begins = slice_get_read c.args.senders.now (length c.args.senders.now) 0
            c.index-senders-0.result refl inside c.index-senders-0.is;
        counted = omega (arith, many, due, few, count);
      }),
    )

pub returns-then-not-one_has_closed-clause-fault :
    goal.returns-then-not-one_has_closed-clause-fault
returns-then-not-one_has_closed-clause-fault g c =
    let P = process_with g.Q.Machine.kind_of g.Q.Machine.op g.Q.Machine.fed g.Q.Ratifier.protocol in
    let over = c.loop-place-test.false in let many = c.min-many.ensures in
    (all_noted P c.args.senders.now c.loop-place.place 64 c.loop-place.next
    c.loop-place.invariant.1 (λ k below inside. omega (arith, over, many, below, inside))).parted

pub returns-clause-page : goal.returns-clause-page
returns-clause-page g c =
    let P = process_with g.Q.Machine.kind_of g.Q.Machine.op g.Q.Machine.fed g.Q.Ratifier.protocol in
    let over = c.loop-place-test.false in let many = c.min-many.ensures in
    let due = c.min-due.ensures in let few = c.if-many-due.false in
    let count = c.senders.ensures in
    let inside = some_there _ _ c.is_empty.ensures c.if-is_empty.false in record {
      all = record {
        first = c.index-senders-0.result;
        begins = slice_get_read c.args.senders.now (length c.args.senders.now) 0
            c.index-senders-0.result refl inside c.index-senders-0.is;
        all = omega (arith, many, due, few, count);
      };
      noted = all_noted P c.args.senders.now c.loop-place.place 64 c.loop-place.next
          c.loop-place.invariant.1 (λ k below inside. omega (arith, over, many, below, inside));
      ended = refl;
    }

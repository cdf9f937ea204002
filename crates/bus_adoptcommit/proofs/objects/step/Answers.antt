use Rattle.std.proofs.Common.{arith, sym, refl, ◌∙◌, ap}
use Rattle.std.proofs.lemmas.Option.{slice_get_read, get_or_from_slice_get}
use Rattle.bus_adoptcommit.proofs.Steps.{step_keeps, step_moves, step_rests}
use Rattle.bus_adoptcommit.proofs.objects.step.Goals as goal

pub apply-got-requires-clause-in_range : goal.apply-got-requires-clause-in_range
apply-got-requires-clause-in_range g c =
    let l = g.met.Q.Ratifier.laws in
    let here = slice_get_read c.args.processes.now _ c.args.p c.index-processes-p.result refl
    c.requires.known c.index-processes-p.is in
    let next =
    ap (λ z. g.Q.Machine.op z 0) c.index-processes-p.is ∙ sym c.next.ensures ∙ c.in-Some.is in
    let goes = l.goes _ _ _ c.index-processes-p.result 0 0 c.in-Some.op
    (l.known _ _ _ _ _ _ c.requires.keeps here).1 next in
    omega (arith, goes.below, c.requires.room)

pub apply-got-requires-clause-sum_fits : goal.apply-got-requires-clause-sum_fits
apply-got-requires-clause-sum_fits g c =
    let l = g.met.Q.Ratifier.laws in
    let here = slice_get_read c.args.processes.now _ c.args.p c.index-processes-p.result refl
    c.requires.known c.index-processes-p.is in
    let next =
    ap (λ z. g.Q.Machine.op z 0) c.index-processes-p.is ∙ sym c.next.ensures ∙ c.in-Some.is in
    l.fits _ _ _ _ _ _ _ _ c.requires.keeps here next

pub returns-in-Some-clause-keeps : goal.returns-in-Some-clause-keeps
returns-in-Some-clause-keeps g c =
    let here = slice_get_read c.args.processes.now _ c.args.p c.index-processes-p.result refl
    c.requires.known c.index-processes-p.is in
    let next =
    ap (λ z. g.Q.Machine.op z 0) c.index-processes-p.is ∙ sym c.next.ensures ∙ c.in-Some.is in
    let goes = g.met.Q.Ratifier.laws.goes _ _ _ c.index-processes-p.result 0 0 c.in-Some.op
    (g.met.Q.Ratifier.laws.known _ _ _ _ _ _ c.requires.keeps here).1 next in
    let t =
    c.feed.ensures
    ∙ ap (λ z. g.Q.Machine.fed z c.apply-got.result 0)
    (get_or_from_slice_get c.args.processes.now c.args.p c.index-processes-p.result
    c.index-processes-p-in-Some.result here) in
    step_keeps _ _ _ g.met.Q.Ratifier.laws 0 c.args.cells.now c.apply-got.new.self
    c.args.processes.now c.args.p c.index-processes-p.result c.feed.new.self c.apply-got.result 0
    c.in-Some.op
    c.requires.keeps here next (omega (arith, goes.below, c.requires.room))
    c.apply-got.ensures.found c.apply-got.ensures.words t

pub returns-in-Some-clause-moves : goal.returns-in-Some-clause-moves
returns-in-Some-clause-moves g c =
    let here = slice_get_read c.args.processes.now _ c.args.p c.index-processes-p.result refl
    c.requires.known c.index-processes-p.is in
    let next =
    ap (λ z. g.Q.Machine.op z 0) c.index-processes-p.is ∙ sym c.next.ensures ∙ c.in-Some.is in
    let goes = g.met.Q.Ratifier.laws.goes _ _ _ c.index-processes-p.result 0 0 c.in-Some.op
    (g.met.Q.Ratifier.laws.known _ _ _ _ _ _ c.requires.keeps here).1 next in
    let t =
    c.feed.ensures
    ∙ ap (λ z. g.Q.Machine.fed z c.apply-got.result 0)
    (get_or_from_slice_get c.args.processes.now c.args.p c.index-processes-p.result
    c.index-processes-p-in-Some.result here) in
    step_moves g.Q.Machine.op g.Q.Machine.fed c.args.cells.now c.apply-got.new.self
    c.args.processes.now c.args.p c.index-processes-p.result c.feed.new.self c.apply-got.result
    c.in-Some.op
    here next (omega (arith, goes.below, c.requires.room)) c.apply-got.ensures.found
    c.apply-got.ensures.words t

pub returns-in_default-clause-moves : goal.returns-in_default-clause-moves
returns-in_default-clause-moves g c =
    let here = slice_get_read c.args.processes.now _ c.args.p c.index-processes-p.result refl
    c.requires.known c.index-processes-p.is in
    let next =
    ap (λ z. g.Q.Machine.op z 0) c.index-processes-p.is ∙ sym c.next.ensures ∙ c.in_default.is in
    step_rests g.Q.Machine.op g.Q.Machine.fed c.args.cells.now c.args.processes.now c.args.p
    c.index-processes-p.result here next

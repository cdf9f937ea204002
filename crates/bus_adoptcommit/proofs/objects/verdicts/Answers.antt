use Rattle.std.proofs.Common.{◌≡◌, ◌+◌, ◌∷◌, [], ◌++◌, length, slice_get, slice_index, sym, refl}
use Rattle.std.proofs.Common.{◌∙◌, ap, subst, replicate, map, take}
use Rattle.std.proofs.lemmas.List.{take_all, take_more}
use Rattle.std.proofs.lemmas.Result.{IfOk-weaker}
use Rattle.bus_adoptcommit.specs.Plays.{IsMove, Plays, at_starts, moment}
use Rattle.bus_adoptcommit.proofs.Moves.{turn_of, plays_one, moment_is, play_of}
use Rattle.bus_adoptcommit.proofs.Schedules.{Playing, play_none, play_one, zero_words}
use Rattle.bus_adoptcommit.proofs.Schedules.{length-zeros, verdicts_after, whole}
use Rattle.bus_adoptcommit.proofs.objects.verdicts.Goals as goal

pub loop-p-init : goal.loop-p-init
loop-p-init g c =
    let P = g.Q.Ratifier.protocol in
    let laws = g.met.Q.Ratifier.laws in
    let inputs = c.args.inputs.now in
    let n = length inputs in
    let zeros = c.in_ok-cells.ensures ∙ ap (λ z. replicate z 0) c.width.ensures in
    let starts = c.in_ok-processes.ensures in (
      length-zeros c.in_ok-cells.cells (P.width n) zeros,
      zero_words _ _ P laws n inputs c.in_ok-processes.processes.items c.in_ok-cells.cells starts
          zeros,
      play_none _ _ P laws n inputs c.args.schedule.now c.in_ok-processes.processes.items refl
          c.requires.few starts,
      moment_is g.Q.Machine.op g.Q.Machine.fed P n (P.width n) inputs c.in_ok-cells.cells
          c.in_ok-processes.processes.items starts refl zeros,
    )

pub loop-p-preserved : goal.loop-p-preserved
loop-p-preserved g c =
    let P = g.Q.Ratifier.protocol in
    let op = g.Q.Machine.op in
    let fed = g.Q.Machine.fed in
    let laws = g.met.Q.Ratifier.laws in
    let inputs = c.args.inputs.now in
    let schedule = c.args.schedule.now in
    let i = c.loop-p.p-index in
    let n = length inputs in
    let items = c.loop-p.processes.items in
    let cells = c.loop-p.cells in
    let cells' = c.step.new.cells in
    let new = c.step.new.processes in
    let size : length new ≡ length items =
    c.step.auto.processes ∙ ap length c.deref_mut.ensures.value in
    let w =
    whole new items c.loop-p.processes.len (c.loop-p.processes.ok.0 ∙ sym size) (sym size) in
    let move = subst (λ z. IsMove op fed c.from.result (moment cells z) (moment cells' new))
    c.deref_mut.ensures.value c.step.ensures.moves in
    let playing = c.loop-p.invariant.2 in
    let keeps = subst (λ z. P.Keeps z 0 (slice_index cells') (slice_get new)) (size ∙ playing.size)
    c.step.ensures.keeps in
    let next = ap (λ z. take i schedule ++ z ∷ []) (sym c.from.ensures) in
    let plays = subst (λ z. Plays op fed (at_starts P inputs) z (moment cells' new))
    (sym (take_more schedule i 0 c.loop-p-test.true ∙ next))
    (plays_one op fed (at_starts P inputs) (moment cells items) (moment cells' new)
    (take i schedule) c.from.result c.loop-p.invariant.3 move) in
    subst (λ z.
    (length cells' ≡ P.width n) × P.Keeps n 0 (slice_index cells') (slice_get z)
    × Playing op fed P n inputs schedule (i + 1) z
    × Plays op fed (at_starts P inputs) (take (i + 1) schedule) (moment cells' z)) (sym w) (
      c.step.ensures.cells ∙ c.loop-p.invariant.0,
      keeps,
      play_one op fed P laws n inputs schedule i c.from.result items new (slice_index cells')
          playing keeps
          (λ q s f.
          (laws.known n 0 (slice_index cells) (slice_get items) q s c.loop-p.invariant.1 f).1)
          c.loop-p-test.true (sym c.from.ensures) size
          (turn_of op fed c.from.result (moment cells items) (moment cells' new) move),
      plays,
    )

pub returns : goal.returns
returns g c =
    let P = g.Q.Ratifier.protocol in
    let op = g.Q.Machine.op in
    let fed = g.Q.Machine.fed in
    let given = c.args.inputs.now in
    let schedule = c.args.schedule.now in
    let items = c.loop-p.processes.items in
    let plays = subst (λ z. Plays op fed (at_starts P given) z (moment c.loop-p.cells items))
    (take_all c.loop-p.p-index schedule c.loop-p-test.false) c.loop-p.invariant.3 in
    IfOk-weaker c.outputs_of.result _ _
    (λ outs e.
    let are = e ∙ ap (λ z. map P.output z) c.deref.ensures.value in
    verdicts_after op fed P g.met.Q.Ratifier.laws given schedule items outs.items c.loop-p.p-index
    (slice_index c.loop-p.cells) c.loop-p-test.false c.loop-p.invariant.2 c.loop-p.invariant.1 are
    (play_of op fed P given schedule c.loop-p.cells items outs.items plays are))
    c.outputs_of.ensures

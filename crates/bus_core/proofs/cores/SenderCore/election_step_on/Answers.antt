use Rattle.std.proofs.Common.{◌<◌, ◌≤◌, ◌∙◌, sym, ap, subst, arith}
use Rattle.bus_register.specs.Words.{register}
use Rattle.bus_core.specs.Senders.{words_all}
use Rattle.bus_core.proofs.ElectionRows.{told_below, told_behind, placed_at}
use Rattle.bus_core.proofs.cores.SenderCore.election_step_on.Goals as goal

pub on_row-requires-clause-room : goal.on_row-requires-clause-room
on_row-requires-clause-room g c =
    let low = told_below _ _ _ _ c.self.view_is c.self.invariant c.args.tenure c.args.row
    c.requires.row (register c.in_ok-op.op) c.in_ok-op.ensures.tenure c.in_ok-op.ensures.above
    c.in_ok-op.ensures.below in
    let small = c.is_small.ensures in
    omega arith

pub returns-clause-below : goal.returns-clause-below
returns-clause-below g c =
    subst (λ n. n < words_all c.args.self.now)
    (sym (ap register c.on_row.ensures ∙ placed_at _ c.in_ok-op.op))
    (told_below _ _ _ _ c.self.view_is c.self.invariant c.args.tenure c.args.row c.requires.row
    (register c.in_ok-op.op) c.in_ok-op.ensures.tenure c.in_ok-op.ensures.above
    c.in_ok-op.ensures.below)

pub returns-clause-behind : goal.returns-clause-behind
returns-clause-behind g c =
    subst (λ n. 2 ≤ n) (sym (ap register c.on_row.ensures ∙ placed_at _ c.in_ok-op.op))
    (told_behind c.args.self.now.core.layout c.args.self.now.reuse c.args.tenure c.args.row
    c.requires.row (register c.in_ok-op.op))

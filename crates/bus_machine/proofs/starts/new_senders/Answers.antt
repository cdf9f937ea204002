use Rattle.std.proofs.Common.{◌≡◌, ◌+◌, arith, subst, sym}
use Rattle.bus_machine.proofs.Bases.NewSenders.{no_senders, one_more_sender}
use Rattle.bus_machine.specs.Playing.{layout_passed}
use Rattle.bus_machine.specs.Turning.{AreNewSenders}
use Rattle.bus_machine.proofs.starts.new_senders.Goals as goal

pub loop-me-init : goal.loop-me-init
loop-me-init g c = (
  omega arith,
  no_senders (layout_passed g.Q.Ratifier.protocol c.args.shape c.args.reuse c.args.passers)
      c.args.reuse
      c.args.bases.now c.new-senders.result.items c.new-senders.ensures.items,
)

pub loop-me-preserved : goal.loop-me-preserved
loop-me-preserved g c =
    let x = layout_passed g.Q.Ratifier.protocol c.args.shape c.args.reuse c.args.passers in (
      omega arith,
      subst (AreNewSenders x c.args.reuse c.args.bases.now (c.loop-me.me + 1))
          (sym c.in_ok-push.ensures.items) (one_more_sender x c.args.reuse c.args.bases.now
          c.loop-me.me c.loop-me.senders.items c.new_sender.result c.loop-me.invariant.1
          c.new_sender.ensures),
    )

pub returns : goal.returns
returns g c =
    let x = layout_passed g.Q.Ratifier.protocol c.args.shape c.args.reuse c.args.passers in
    let all : c.loop-me.me ≡ c.args.shape.senders = omega arith in
    subst (λ n. AreNewSenders x c.args.reuse c.args.bases.now n c.loop-me.senders.items) all
    c.loop-me.invariant.1

use Rattle.std.proofs.Common.{refl}
use Rattle.std.proofs.Output.{has_written_append}
use Rattle.std.proofs.Math.Facts.{Fits-lt-pow}
use Rattle.bus_deliverylog.proofs.TextLemmas.{pair_written}
use Rattle.bus_deliverylog.proofs.texts.write_hex.Goals as goal

pub loop-byte-preserved : goal.loop-byte-preserved
loop-byte-preserved g c = λ plain.
    let so_far = c.loop-byte.invariant plain in
    let written = rw (c.laid_out.ensures, c.in_radix.ensures) at c.in_ok-write.ensures.writes in
    let small = Fits-lt-pow (c.type_inv.bytes c.loop-byte.byte-index) in (
      _,
      has_written_append _ _ _ _ _ _ so_far.1 (written so_far.1.plain refl),
      pair_written so_far.0 c.args.bytes.now c.loop-byte.byte-index _ c.loop-byte-test.true small
          so_far.2,
    )

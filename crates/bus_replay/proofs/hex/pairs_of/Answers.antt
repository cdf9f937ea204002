use Rattle.std.proofs.Common.{◌-◌, List, ℕ, length, take, drop, refl, sym, ap, ◌∙◌}
use Rattle.bus_replay.specs.Lines.{pairs_of}
use Rattle.bus_script.proofs.EachLaws.{behind}
use Rattle.bus_replay.proofs.HexLemmas.{pair_read}
use Rattle.bus_replay.proofs.hex.pairs_of.Goals as goal

pub loop-rest-preserved : goal.loop-rest-preserved
loop-rest-preserved c =
    let rest = c.loop-rest.rest.now in
    let more = take (length rest - 2) (drop 2 rest) in
    ap (λ (l : List ℕ). behind l (pairs_of more)) c.in_ok-push.ensures.items
    ∙ pair_read c.loop-rest.bytes.items rest more c.in-Some.byte (pairs_of c.args.digits.now)
    c.in-len2-up.len_at_least refl (sym c.byte_of.ensures ∙ c.in-Some.is) c.loop-rest.invariant

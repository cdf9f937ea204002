use Rattle.std.proofs.Common.{◌≡◌, ◌-◌, ◌/◌, [], ◌∷◌, ◌++◌, length, take, drop, ap, sym}
use Rattle.std.proofs.Common.{◌∙◌, append_assoc, arith}
use Rattle.std.proofs.lemmas.List.{length-drop, length-append}
use Rattle.bus_long.specs.declared.pieces.TheConstants.{PIECE_BYTES}
use Rattle.bus_long.specs.Pieces.{pieces}
use Rattle.bus_long.proofs.Cutting.{pieces_more, length-pieces}
use Rattle.bus_long.proofs.pieces.cut.Goals as goal

pub loop-rest-preserved : goal.loop-rest-preserved
loop-rest-preserved c =
    let before = c.loop-rest.before.items in
    let rest = c.loop-rest.rest.now in
    let piece = c.piece.result in
    let behind = c.split_at.result.1.now in
    let inv = c.loop-rest.invariant in
    let size = length-append before (piece ∷ []) in
    let all = ap length c.push.ensures.items in
    let left = ap length c.split_at.ensures.back in
    let less = length-drop PIECE_BYTES rest in
    let room = inv.fits in
    let piece_is : piece ≡ (length rest - 1) / PIECE_BYTES ∷ take PIECE_BYTES rest =
    c.piece.ensures
    ∙ ap (λ z. (length rest - 1) / PIECE_BYTES ∷ z) c.split_at.ensures.front in
    record {
      parts = ap (λ z. z ++ pieces behind) c.push.ensures.items
          ∙ append_assoc before (piece ∷ []) (pieces behind)
          ∙ ap (λ z. before ++ z) (ap (λ z. piece ∷ pieces z) c.split_at.ensures.back
          ∙ ap (λ z. z ∷ pieces (drop PIECE_BYTES rest)) piece_is
          ∙ sym (pieces_more rest c.loop-rest-test.true))
          ∙ inv.parts;
      fits = omega arith;
    }

pub returns-clause-few : goal.returns-clause-few
returns-clause-few c =
    let inv = c.loop-rest.invariant in
    let all = ap length inv.parts in
    let split = length-append c.loop-rest.before.items (pieces c.loop-rest.rest.now) in
    let whole = length-pieces c.args.bytes.now in
    let left = length-pieces c.loop-rest.rest.now in
    omega arith

use Rattle.std.proofs.Common.{◌++◌, [], ◌∷◌, List, nat_lt, false, ℕ, sym, ap, ◌∙◌, arith}
use Rattle.std.proofs.lemmas.List.FromFn.{map-range_with_len_more}
use Rattle.bus_replay.specs.declared.histories.Given.{Given}
use Rattle.bus_replay.proofs.histories.History.new.Goals as goal

pub loop-seat-preserved : goal.loop-seat-preserved
loop-seat-preserved c =
    let seat = c.loop-seat.seat in
    let f : ℕ → Given =
    λ place. record { taken = nat_lt place c.args.receivers; items = 0; ended = false } in
    c.in_ok-push.ensures.items
    ∙ ap (λ (l : List Given). l ++ f seat ∷ []) c.loop-seat.invariant
    ∙ sym (map-range_with_len_more f 0 seat seat (omega arith))

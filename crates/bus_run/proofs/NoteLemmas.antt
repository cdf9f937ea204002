-- What a listener has noted stays summed, whatever it is told.
use Rattle.std.proofs.Common.{◌≡◌, ℕ, ◌+◌, ◌<◌, Bool, true, false, ◌&&◌, ◌==◌, nat_lt, arith, refl}
use Rattle.std.proofs.Common.{sym, ◌∙◌, subst, slice_index}
use Rattle.std.proofs.lemmas.Bool.{and_parts}
use Rattle.std.proofs.lemmas.Bool.Decides.{nat_tests}
use Rattle.std.proofs.lemmas.List.Sums.{sum_by-set}
use Rattle.std.proofs.Math.ListN.{length-set}
use Rattle.bus_register.specs.declared.limits.TheConstants.{MOST_SENDERS}
use Rattle.bus_deliverylog.specs.declared.receiving.RecvTurn.{RecvTurn}
use Rattle.bus_deliverylog.specs.declared.receiving.RecvTurn.TheVariants as turn
use Rattle.bus_receiver.specs.Hearing.{Hearing, goes_on, has_room, is_there, expected, takes}
use Rattle.bus_receiver.specs.Hearing.{hearing_after}
use Rattle.bus_run.specs.Audit.{IsSummed}

taken_summed : (h : Hearing) (t : RecvTurn) → IsSummed h → takes h t ≡ true
    → IsSummed (hearing_after h t)
taken_summed h turn.Going s e = s
taken_summed h turn.Empty s e = s
taken_summed h (turn.Head tenure owner) s e = s
taken_summed h (turn.Item item) s e =
    let fits =
    (and_parts (goes_on h && has_room h)
    (is_there h item.sender.0 && (item.number == expected h item.sender.0)) e).1 in
    let there =
    (and_parts (is_there h item.sender.0) (item.number == expected h item.sender.0) fits).0 in
    let test = (and_parts (nat_lt item.sender.0 MOST_SENDERS) _ there).0 in
    let below : item.sender.0 < MOST_SENDERS = grind (arith, nat_tests, test) in
    let now : ℕ = slice_index h.counts item.sender.0 + 1 in
    let size = s.0 in
    let total = s.1 in
    let moved = sum_by-set (λ x. x) h.counts item.sender.0 now 0 (omega arith) in
    (length-set h.counts item.sender.0 now ∙ size, omega arith)
taken_summed h (turn.Leave sender) s e = s
taken_summed h turn.End s e = s

pub note_summed : (old new : Hearing) (t : RecvTurn) (b : Bool) → IsSummed old → b ≡ takes old t
    → (b ≡ true → new ≡ hearing_after old t) → (b ≡ false → new ≡ old) → IsSummed new
note_summed old new t true s is taken refused =
    subst IsSummed (sym (taken refl)) (taken_summed old t s (sym is))
note_summed old new t false s is taken refused = subst IsSummed (sym (refused refl)) s

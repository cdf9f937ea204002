-- The lines of what receivers were given, seat by seat.
use Rattle.std.proofs.Common.{◌≡◌, ℕ, suc, ◌+◌, ◌<◌, Bool, Some, List, [], ◌∷◌, ◌++◌, length}
use Rattle.std.proofs.Common.{slice_get, if◌then◌else◌, refl, ap, ◌∙◌, arith}
use Rattle.std.specs.Prelude.{flat_map}
use Rattle.std.specs.List.{enumerate_from, range_with_len}
use Rattle.std.proofs.lemmas.Option.{same_Some}
use Rattle.bus_deliverylog.specs.declared.receiving.RecvTurn.{RecvTurn}
use Rattle.bus_world.specs.Headline.{order_given}
use Rattle.bus_replay.specs.Histories.{given_of}
use Rattle.bus_replay.specs.Text.{seat_line, given_line, given_text}
use Rattle.bus_replay.specs.declared.histories.Given.{Given}

-- the lines of these counts, from this seat on
abbrev pub counts_from : ℕ → List Given → List ℕ
counts_from k given = flat_map (λ g. seat_line g.0 g.1) (enumerate_from k given)

-- the line of a seat by what its last receiver was answered
abbrev seat_told : (ℕ → Bool) → (ℕ → List RecvTurn) → ℕ → List ℕ
seat_told taken heard r = if taken r then given_line r (order_given (heard r)) else []

-- counts of answers are told as the orders that these give
told_from : (taken : ℕ → Bool) (heard : ℕ → List RecvTurn) (given : List Given) (k : ℕ)
    → ((r : ℕ) → r < length given
    → slice_get given r ≡ Some (given_of (taken (k + r)) (heard (k + r))))
    → counts_from k given ≡ flat_map (seat_told taken heard) (range_with_len k (length given))
told_from taken heard [] k each = refl
told_from taken heard (g ∷ given) k each =
    let place : k + 0 ≡ k = omega arith in
    let here : 0 < length (g ∷ given) = omega arith in
    let first : g ≡ given_of (taken k) (heard k) =
    same_Some _ _ (each 0 here) ∙ ap (λ (r : ℕ). given_of (taken r) (heard r)) place in
    let later = told_from taken heard given (k + 1) (λ r lt.
    let next : k + suc r ≡ k + 1 + r = omega arith in
    let within : suc r < length (g ∷ given) = omega arith in
    each (suc r) within ∙ ap (λ (q : ℕ). Some (given_of (taken q) (heard q))) next) in
    ap (λ (y : Given). seat_line k y ++ counts_from (k + 1) given) first
    ∙ ap (λ (l : List ℕ). seat_line k (given_of (taken k) (heard k)) ++ l) later

pub counts_told : (taken : ℕ → Bool) (heard : ℕ → List RecvTurn) (given : List Given)
    (receivers : ℕ) → length given ≡ receivers
    → ((r : ℕ) → r < receivers → slice_get given r ≡ Some (given_of (taken r) (heard r)))
    → counts_from 0 given ≡ given_text taken (λ r. order_given (heard r)) receivers
counts_told taken heard given receivers many each =
    told_from taken heard given 0 (λ r lt.
    let same : r ≡ 0 + r = omega arith in
    each r (omega arith) ∙ ap (λ (q : ℕ). Some (given_of (taken q) (heard q))) same)
    ∙ ap (λ (n : ℕ). flat_map (seat_told taken heard) (range_with_len 0 n)) many

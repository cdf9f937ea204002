-- A text that is written piece by piece.
use Rattle.std.proofs.Common.{◌≡◌, ℕ, ◌-◌, List, ◌++◌, length, take, drop, sym, ap, ◌∙◌}
use Rattle.std.proofs.Common.{append_assoc, take-append-drop}
use Rattle.std.proofs.lemmas.List.{take_rest}

-- the front of what is left goes over to what is done
pub front_done : (text done left : List ℕ) (n : ℕ) → text ≡ done ++ left
    → text ≡ (done ++ take n left) ++ take (length left - n) (drop n left)
front_done text done left n e =
    e ∙ ap (λ l. done ++ l) (sym (take-append-drop n left))
    ∙ sym (append_assoc done (take n left) (drop n left))
    ∙ ap (λ l. (done ++ take n left) ++ l) (sym (take_rest left n))

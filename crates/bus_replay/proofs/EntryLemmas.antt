-- The lines of an order, its items and its leave marks walked together.
use Rattle.std.proofs.Common.{◌≡◌, ℕ, ◌-◌, List, ◌∷◌, ◌++◌, length, map, take, drop, min, sym, ap}
use Rattle.std.proofs.Common.{◌∙◌, append_assoc}
use Rattle.std.specs.Prelude.{flat_map}
use Rattle.std.proofs.lemmas.List.{take_min, drop_min}
use Rattle.std.proofs.lemmas.List.Concat.{flat_map-append}
use Rattle.bus_register.specs.declared.registers.SenderNo.{SenderNo}
use Rattle.bus_batch.specs.declared.messages.Item.{Item}
use Rattle.bus_batch.specs.Frames.{Entry, Says, Leaves}
use Rattle.bus_deliverylog.specs.Orders.{merged_from}
use Rattle.bus_replay.specs.Text.{entry_line}

-- the items before a leave mark were put, and then its line
pub mark_put : (old mid new all : List ℕ) (before : ℕ) (rest front back : List Item)
    (mark : SenderNo × ℕ) (marks : List (SenderNo × ℕ))
    → front ≡ take (min (mark.1 - before) (length rest)) rest
    → back ≡ drop (min (mark.1 - before) (length rest)) rest
    → mid ≡ old ++ flat_map entry_line (map Says front) → new ≡ mid ++ entry_line (Leaves mark.0)
    → old ++ flat_map entry_line (merged_from before rest (mark ∷ marks)) ≡ all
    → new ++ flat_map entry_line (merged_from mark.1 back marks) ≡ all
mark_put old mid new all before rest front back mark marks front_is back_is mid_is new_is so_far =
    let says : List ℕ = flat_map entry_line (map Says front) in
    let line : List ℕ = entry_line (Leaves mark.0) in
    let more : List Entry = merged_from mark.1 back marks in
    let front_so : front ≡ take (mark.1 - before) rest =
    front_is ∙ take_min (mark.1 - before) rest in
    let back_so : back ≡ drop (mark.1 - before) rest = back_is ∙ drop_min (mark.1 - before) rest in
    ap (λ (l : List ℕ). l ++ flat_map entry_line more)
    (new_is ∙ ap (λ (l : List ℕ). l ++ line) mid_is)
    ∙ append_assoc (old ++ says) line (flat_map entry_line more)
    ∙ append_assoc old says (line ++ flat_map entry_line more)
    ∙ ap (λ (l : List ℕ). old ++ l)
    (sym (flat_map-append entry_line (map Says front) (Leaves mark.0 ∷ more)))
    ∙ ap (λ xs. old ++ flat_map entry_line (map Says xs ++ Leaves mark.0 ∷ more)) front_so
    ∙ ap (λ xs.
    old
    ++ flat_map entry_line
    (map Says (take (mark.1 - before) rest) ++ Leaves mark.0 ∷ merged_from mark.1 xs marks)) back_so
    ∙ so_far

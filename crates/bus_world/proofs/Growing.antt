-- Events one after another: who took the pages only grows, and each event is answered.
use Rattle.std.proofs.Common.{◌≡◌, ℕ, ◌+◌, ◌<◌, ◌≤◌, Some, List, [], ◌∷◌, ◌++◌, length, map, take}
use Rattle.std.proofs.Common.{get_or, slice_get, arith, sym, ap, subst, append_assoc}
use Rattle.std.proofs.lemmas.Grind.{common_steps}
use Rattle.std.proofs.lemmas.List.{take_all, map_more}
use Rattle.std.proofs.lemmas.Option.{slice_get-get_or, slice_get-map}
use Rattle.bus_world.specs.Headline.{IsPrefix}
use Rattle.bus_world.specs.declared.events.Event.{Event as Told}
use Rattle.bus_world.specs.Playing.{event_told}

-- ---- owners
pub nothing_more : {A : Type 0} (xs : List A) → IsPrefix xs xs
nothing_more xs = grind (arith, common_steps)

pub same_prefix : {A : Type 0} (xs ys : List A) → ys ≡ xs → IsPrefix xs ys
same_prefix xs ys e = subst (IsPrefix xs) (sym e) (nothing_more xs)

pub prefix_after : {A : Type 0} (xs ys zs : List A) → IsPrefix xs ys → IsPrefix ys zs
    → IsPrefix xs zs
prefix_after xs ys zs h k = grind (arith, common_steps, append_assoc)

-- ---- the events that a program tells
pub told_more : (events : List Told) (k : ℕ) (e : Told) → k < length events → e ≡ get_or events k e
    → map event_told (take k events) ++ event_told e ∷ [] ≡ map event_told (take (k + 1) events)
told_more events k e l is = grind (arith, common_steps, map, take, map_more)

pub told_at : (events : List Told) (k : ℕ) (e : Told) → k < length events → e ≡ get_or events k e
    → slice_get (map event_told events) k ≡ Some (event_told e)
told_at events k e l is = grind (arith, common_steps, slice_get-map, slice_get-get_or)

pub all_told : (events : List Told) (k : ℕ) → length events ≤ k
    → map event_told (take k events) ≡ map event_told events
all_told events k l = ap (map event_told) (take_all k events l)

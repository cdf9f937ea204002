-- Turns between which a function is asked are turns.
use Rattle.std.proofs.Common.{◌≡◌, Bool, refl, true, false, sym, ◌∙◌, ap, subst}
use Rattle.bus_batch.specs.declared.messages.Item.{Item}
use Rattle.bus_deliverylog.specs.declared.receiving.RecvTurn.{RecvTurn}
use Rattle.bus_deliverylog.specs.declared.receiving.RecvTurn.TheVariants as turn
use Rattle.bus_pageslot.specs.declared.listening.ItemTurn.{ItemTurn}
use Rattle.bus_pageslot.specs.declared.listening.ItemTurn.TheVariants as item_turn
use Rattle.bus_pageslot.specs.Listening.{GoesOnTo, At, Onward, Writes}
use Rattle.bus_pageslot.specs.Rule.{Sat}
use Rattle.bus_receiver.specs.declared.receivers.Next.{Next}
use Rattle.bus_receiver.specs.declared.receivers.Next.TheVariants as next
use Rattle.bus_receiver.specs.Listening.{is_given, PassesOn, Stays, Passes, PassesTo, AsksOn}
use Rattle.bus_receiver.specs.Listening.{Begins, Goes, Asks, PassesWhile, last_of, next_of}
use Rattle.bus_receiver.specs.Listening.{written_or_end}
use Rattle.bus_receiver.specs.declared.receivers.Found.{Found}
use Rattle.bus_receiver.specs.declared.receivers.Found.TheVariants as found

goes_on :
    {C F : Type 0} (Tells : F → Bool → F → Type 0) (first : Sat C) (given : F) (new : Sat C) (f : F)
    → AsksOn Tells first given new f → PassesOn first new
goes_on Tells first given _ _ Begins = Stays
goes_on Tells first given _ _ (Goes old f answer new before hears passes other) =
    Passes old answer new (goes_on Tells first given old f before) hears passes
goes_on Tells first given _ _ (Asks old f new f' before hears told) =
    Passes old turn.Empty new (goes_on Tells first given old f before) hears refl

pub passes_to : {C F : Type 0} (Tells : F → Bool → F → Type 0) (first : Sat C) (given : F)
    (found : Next) (new : Sat C) → PassesWhile Tells first given found new
    → is_given (last_of found) ≡ true → PassesTo first (last_of found) new
passes_to Tells first given found new h is = record {
  old = h.old;
  before = goes_on Tells first given h.old h.asked h.before;
  hears = h.hears;
  given = is;
}

-- ---- turns of which an item is written in its place
pub asks_on_to : {C F : Type 0} (Tells : F → Bool → F → Type 0) (first : Sat C) (given : F)
    (old : Sat C) (f : F) (new : Sat C)
    → AsksOn Tells first given old f → GoesOnTo old new → AsksOn Tells first given new f
asks_on_to Tells first given old f _ before At = before
asks_on_to Tells first given old f _ before (Onward middle new going not_due below hears) =
    Goes middle f turn.Going new (asks_on_to Tells first given old f middle before going) hears refl
    (λ empty. absurd (let no : turn.Going ≡ turn.Empty = empty in cc))

pub only_empty : (answer : RecvTurn) (before after : Item) (told : ItemTurn)
    → Writes answer before told after → told ≡ item_turn.Empty
    → answer ≡ turn.Empty
only_empty turn.Going before after told w is =
    absurd (let no : item_turn.Going ≡ item_turn.Empty = sym w.told_is ∙ is in cc)
only_empty turn.Empty before after told w is = refl
only_empty (turn.Head t o) before after told w is =
    absurd (let no : item_turn.Going ≡ item_turn.Empty = sym w.told_is ∙ is in cc)
only_empty (turn.Item i) before after told w is =
    absurd (let no : item_turn.Item ≡ item_turn.Empty = sym w.told_is ∙ is in cc)
only_empty (turn.Leave s) before after told w is =
    absurd (let no : item_turn.Going ≡ item_turn.Empty = sym w.told_is ∙ is in cc)
only_empty turn.End before after told w is =
    absurd (let no : item_turn.End ≡ item_turn.Empty = sym w.told_is ∙ is in cc)

pub only_going : (answer : RecvTurn) (before after : Item) (told : ItemTurn)
    → Writes answer before told after → told ≡ item_turn.Going
    → (is_given answer ≡ false) × (answer ≡ turn.Empty → ⊥)
only_going turn.Going before after told w is = (
  refl,
  λ empty. absurd (let no : turn.Going ≡ turn.Empty = empty in cc),
)
only_going turn.Empty before after told w is =
    absurd (let no : item_turn.Empty ≡ item_turn.Going = sym w.told_is ∙ is in cc)
only_going (turn.Head t o) before after told w is = (
  refl,
  λ empty. absurd (let no : turn.Head t o ≡ turn.Empty = empty in cc),
)
only_going (turn.Item i) before after told w is =
    absurd (let no : item_turn.Item ≡ item_turn.Going = sym w.told_is ∙ is in cc)
only_going (turn.Leave s) before after told w is = (
  refl,
  λ empty. absurd (let no : turn.Leave s ≡ turn.Empty = empty in cc),
)
only_going turn.End before after told w is =
    absurd (let no : item_turn.End ≡ item_turn.Going = sym w.told_is ∙ is in cc)

pub only_item : (answer : RecvTurn) (before after : Item) (told : ItemTurn)
    → Writes answer before told after → told ≡ item_turn.Item → answer ≡ turn.Item after
only_item turn.Going before after told w is =
    absurd (let no : item_turn.Going ≡ item_turn.Item = sym w.told_is ∙ is in cc)
only_item turn.Empty before after told w is =
    absurd (let no : item_turn.Empty ≡ item_turn.Item = sym w.told_is ∙ is in cc)
only_item (turn.Head t o) before after told w is =
    absurd (let no : item_turn.Going ≡ item_turn.Item = sym w.told_is ∙ is in cc)
only_item (turn.Item i) before after told w is = ap turn.Item (sym w.after_is)
only_item (turn.Leave s) before after told w is =
    absurd (let no : item_turn.Going ≡ item_turn.Item = sym w.told_is ∙ is in cc)
only_item turn.End before after told w is =
    absurd (let no : item_turn.End ≡ item_turn.Item = sym w.told_is ∙ is in cc)

pub only_end : (answer : RecvTurn) (before after : Item) (told : ItemTurn)
    → Writes answer before told after → told ≡ item_turn.End → answer ≡ turn.End
only_end turn.Going before after told w is =
    absurd (let no : item_turn.Going ≡ item_turn.End = sym w.told_is ∙ is in cc)
only_end turn.Empty before after told w is =
    absurd (let no : item_turn.Empty ≡ item_turn.End = sym w.told_is ∙ is in cc)
only_end (turn.Head t o) before after told w is =
    absurd (let no : item_turn.Going ≡ item_turn.End = sym w.told_is ∙ is in cc)
only_end (turn.Item i) before after told w is =
    absurd (let no : item_turn.Item ≡ item_turn.End = sym w.told_is ∙ is in cc)
only_end (turn.Leave s) before after told w is =
    absurd (let no : item_turn.Going ≡ item_turn.End = sym w.told_is ∙ is in cc)
only_end turn.End before after told w is = refl

-- ---- where no item is written the place is as it was
pub left_at_end : (answer : RecvTurn) (before after : Item) (told : ItemTurn)
    → Writes answer before told after → told ≡ item_turn.End → after ≡ before
left_at_end (turn.Item i) before after told w is =
    absurd (let no : item_turn.Item ≡ item_turn.End = sym w.told_is ∙ is in cc)
left_at_end turn.Going before after told w is = w.after_is
left_at_end turn.Empty before after told w is = w.after_is
left_at_end (turn.Head t o) before after told w is = w.after_is
left_at_end (turn.Leave s) before after told w is = w.after_is
left_at_end turn.End before after told w is = w.after_is

pub left_at_empty : (answer : RecvTurn) (before after : Item) (told : ItemTurn)
    → Writes answer before told after → told ≡ item_turn.Empty → after ≡ before
left_at_empty (turn.Item i) before after told w is =
    absurd (let no : item_turn.Item ≡ item_turn.Empty = sym w.told_is ∙ is in cc)
left_at_empty turn.Going before after told w is = w.after_is
left_at_empty turn.Empty before after told w is = w.after_is
left_at_empty (turn.Head t o) before after told w is = w.after_is
left_at_empty (turn.Leave s) before after told w is = w.after_is
left_at_empty turn.End before after told w is = w.after_is

pub left_at_going : (answer : RecvTurn) (before after : Item) (told : ItemTurn)
    → Writes answer before told after → told ≡ item_turn.Going → after ≡ before
left_at_going (turn.Item i) before after told w is =
    absurd (let no : item_turn.Item ≡ item_turn.Going = sym w.told_is ∙ is in cc)
left_at_going turn.Going before after told w is = w.after_is
left_at_going turn.Empty before after told w is = w.after_is
left_at_going (turn.Head t o) before after told w is = w.after_is
left_at_going (turn.Leave s) before after told w is = w.after_is
left_at_going turn.End before after told w is = w.after_is

pub written_in_place : {C F : Type 0} (Tells : F → Bool → F → Type 0) (first : Sat C) (given : F)
    (new : Sat C) (told : Found) → told ≡ found.Item → (after : Item)
    → PassesWhile Tells first given (next_of told after) new
    → PassesTo first (turn.Item after) new
written_in_place Tells first given new told is after h = passes_to Tells first given
    (next.Item after) new
    (subst (λ t. PassesWhile Tells first given (next_of t after) new) is h) refl

pub ended_in_place : {C F : Type 0} (Tells : F → Bool → F → Type 0) (first : Sat C) (given : F)
    (new : Sat C) (told : Found) → told ≡ found.End → (after : Item)
    → PassesWhile Tells first given (next_of told after) new → PassesTo first turn.End new
ended_in_place Tells first given new told is after h = passes_to Tells first given next.End new
    (subst (λ t. PassesWhile Tells first given (next_of t after) new) is h) refl

pub told_to_stop : {C F : Type 0} (Tells : F → Bool → F → Type 0) (first : Sat C) (given : F)
    (new : Sat C) (told : Found) → told ≡ found.Stopped → (after : Item)
    → PassesWhile Tells first given (next_of told after) new
    → (asked : F) × (left : F) × Tells asked false left
told_to_stop Tells first given new told is after h =
    let stopped = h.told (ap (λ t. next_of t after) is) in
    (h.asked, stopped.0, stopped.1)

pub as_told : {C F : Type 0} (Tells : F → Bool → F → Type 0) (first : Sat C) (given : F)
    (new : Sat C) (told told' : Found) → told ≡ told' → (after : Item)
    → PassesWhile Tells first given (next_of told after) new
    → PassesWhile Tells first given (next_of told' after) new
as_told Tells first given new told told' is after h =
    subst (λ t. PassesWhile Tells first given (next_of t after) new) is h

pub as_written : {C : Type 0} (first new : Sat C) (written written' : Bool) → written ≡ written'
    → (after : Item) → PassesTo first (written_or_end written after) new
    → PassesTo first (written_or_end written' after) new
as_written first new written written' is after h =
    subst (λ b. PassesTo first (written_or_end b after) new) is h

-- Items that are heard one by one, and written one behind another.
use Rattle.std.proofs.Common.{◌≡◌, ℕ, suc, ◌+◌, ◌<◌, ◌≤◌, inl, inr, true, false, List, [], ◌∷◌}
use Rattle.std.proofs.Common.{◌++◌, length, map, drop, slice_set, refl, sym, ap, ◌∙◌, append-nil}
use Rattle.std.proofs.Common.{arith}
use Rattle.std.proofs.lemmas.List.{map-append, length-append, length-map}
use Rattle.bus_batch.specs.declared.messages.Item.{Item}
use Rattle.bus_deliverylog.specs.declared.receiving.RecvTurn.{RecvTurn}
use Rattle.bus_deliverylog.specs.declared.receiving.RecvTurn.TheVariants as heard
use Rattle.bus_pageslot.specs.declared.listening.ItemTurn.{ItemTurn}
use Rattle.bus_pageslot.specs.declared.listening.ItemTurn.TheVariants as look
use Rattle.bus_pageslot.specs.Listening.{Hears, HearsAfter, GoesOnTo, item_turn_of, item_after}
use Rattle.bus_pageslot.specs.Rule.{Sat}
use Rattle.bus_receiver.specs.HearingRuns.{item_in}
use Rattle.bus_embed.specs.declared.codes.TheConstants.{GOING, EMPTY, END}
use Rattle.bus_embed.specs.declared.answers.HeardItem.{HeardItem}
use Rattle.bus_embed.specs.Answers.{heard_code, item_told}
use Rattle.bus_automaton.specs.ThreeWordBuses.{Held}
use Rattle.bus_deliverylog.specs.Receiving.{recv_goes_on}
use Rattle.bus_embed.specs.Calls.{HearsOn, Here, More, Fills, Stops, HearsInto}
use Rattle.bus_embed.proofs.OverLaws.{one_more, put_next}

-- so many looks gave items, which are written over the first places of a list
pub record Goes (first : Sat Held) (before : List HeardItem) (n many : ℕ) (now : List HeardItem)
    (at : Sat Held) : Type 0 where
  pub items : List Item
  pub on : HearsOn first (length before) n items at
  pub many_are : many ≡ length items
  pub written : now ≡ map item_told items ++ drop many before

pub starts : (first : Sat Held) (before : List HeardItem) → Goes first before 0 0 before first
starts first before = record { items = []; on = Here; many_are = refl; written = refl }

-- a look that gave no item
nothing : {first : Sat Held} {before now : List HeardItem} {n many : ℕ} {old at new : Sat Held}
    (answer : RecvTurn) (none : item_in answer ≡ []) → Goes first before n many now old
    → GoesOnTo old at → Hears at answer new → recv_goes_on answer ≡ true → many < length before
    → Goes first before (n + 1) many now new
nothing {before = before} {n = n} {many = many} {old = old} {at = at} {new = new} answer none g to h
    on room =
    let items_are : g.items ++ item_in answer ≡ g.items =
    ap (λ l. g.items ++ l) none ∙ append-nil g.items in
    record {
      items = g.items ++ item_in answer;
      on = More n g.items old at answer new g.on (rw (sym g.many_are) room) to h on;
      many_are = g.many_are ∙ ap length (sym items_are);
      written = g.written ∙ ap (λ l. map item_told l ++ drop many before) (sym items_are);
    }

-- a look after which more may be there, and which wrote no item
goes_by : {first : Sat Held} {before now : List HeardItem} {n many : ℕ} {old at new : Sat Held}
    (answer : RecvTurn) → look.Going ≡ item_turn_of answer → Goes first before n many now old
    → GoesOnTo old at → Hears at answer new → many < length before
    → Goes first before (n + 1) many now new
goes_by heard.Going is g to h room = nothing heard.Going refl g to h refl room
goes_by heard.Empty is g to h room = absurd (let bad : look.Going ≡ look.Empty = is in cc)
goes_by (heard.Head tenure owner) is g to h room =
    nothing (heard.Head tenure owner) refl g to h refl room
goes_by (heard.Item item) is g to h room =
    absurd (let bad : look.Going ≡ look.Item = is in cc)
goes_by (heard.Leave sender) is g to h room = nothing (heard.Leave sender) refl g to h refl room
goes_by heard.End is g to h room = absurd (let bad : look.Going ≡ look.End = is in cc)

pub goes : {first : Sat Held} {before now now' : List HeardItem} {n many many' : ℕ}
    {old new : Sat Held} {was left : Item} {told : ItemTurn} → told ≡ look.Going
    → Goes first before n many now old → HearsAfter old was told left new → many < length before
    → many' ≡ many → now' ≡ now → Goes first before (n + 1) many' now' new
goes is g h room same kept =
    rw same (rw kept (goes_by h.answer (sym is ∙ h.writes.told_is) g h.going h.hears room))

-- a look that wrote an item
gives_by : {first : Sat Held} {before now : List HeardItem} {n many : ℕ} {old at new : Sat Held}
    {left : Item} (was : Item) (answer : RecvTurn) → look.Item ≡ item_turn_of answer
    → left ≡ item_after answer was → Goes first before n many now old → GoesOnTo old at
    → Hears at answer new → many < length before
    → Goes first before (n + 1) (many + 1) (slice_set now many (item_told left)) new
gives_by was heard.Going is told g to h room = absurd (let bad : look.Item ≡ look.Going = is in cc)
gives_by was heard.Empty is told g to h room = absurd (let bad : look.Item ≡ look.Empty = is in cc)
gives_by was (heard.Head tenure owner) is told g to h room =
    absurd (let bad : look.Item ≡ look.Going = is in cc)
gives_by {before = before} {now = now} {n = n} {many = many} {old = old} {at = at} {new = new} was
    (heard.Item item) is told g to h room =
    let many_are = g.many_are in
    let longer = length-append g.items (item ∷ []) in record {
      items = g.items ++ item ∷ [];
      on = More n g.items old at (heard.Item item) new g.on (rw (sym g.many_are) room) to h refl;
      many_are = omega (arith, many_are, longer);
      written = ap (λ i. slice_set now many (item_told i)) told
          ∙ ap (λ l. slice_set l many (item_told item)) g.written
          ∙ put_next (map item_told g.items) before (item_told item) many
          (many_are ∙ sym (length-map g.items item_told)) room
          ∙ ap (λ l. l ++ drop (suc many) before) (sym (map-append item_told g.items (item ∷ [])))
          ∙ ap (λ k. map item_told (g.items ++ item ∷ []) ++ drop k before) (one_more many);
    }
gives_by was (heard.Leave sender) is told g to h room =
    absurd (let bad : look.Item ≡ look.Going = is in cc)
gives_by was heard.End is told g to h room = absurd (let bad : look.Item ≡ look.End = is in cc)

pub gives : {first : Sat Held} {before now now' : List HeardItem} {n many many' : ℕ}
    {old new : Sat Held} {was left : Item} {told : ItemTurn} → told ≡ look.Item
    → Goes first before n many now old → HearsAfter old was told left new → many < length before
    → many' ≡ many + 1 → now' ≡ slice_set now many (item_told left)
    → Goes first before (n + 1) many' now' new
gives {was = was} is g h room more put =
    rw more (rw put (gives_by was h.answer (sym is ∙ h.writes.told_is) h.writes.after_is g h.going
    h.hears room))

-- a look that ended it
stops_by : {first : Sat Held} {before now : List HeardItem} {n many looks : ℕ}
    {old at new : Sat Held} (answer : RecvTurn) → recv_goes_on answer ≡ false
    → Goes first before n many now old → many < length before → n < looks → GoesOnTo old at
    → Hears at answer new → HearsInto first before looks many (heard_code answer) now new
stops_by {n = n} {old = old} {at = at} {new = new} answer off g room left to h = record {
  items = g.items;
  hears = Stops n g.items old at answer new g.on (rw (sym g.many_are) room) left to h off;
  many_are = g.many_are;
  written = g.written;
}

empty_by : {first : Sat Held} {before now : List HeardItem} {n many looks : ℕ}
    {old at new : Sat Held} (answer : RecvTurn) → look.Empty ≡ item_turn_of answer
    → Goes first before n many now old → many < length before → n < looks → GoesOnTo old at
    → Hears at answer new → HearsInto first before looks many EMPTY now new
empty_by heard.Going is g room left to h = absurd (let bad : look.Empty ≡ look.Going = is in cc)
empty_by heard.Empty is g room left to h = stops_by heard.Empty refl g room left to h
empty_by (heard.Head tenure owner) is g room left to h =
    absurd (let bad : look.Empty ≡ look.Going = is in cc)
empty_by (heard.Item item) is g room left to h =
    absurd (let bad : look.Empty ≡ look.Item = is in cc)
empty_by (heard.Leave sender) is g room left to h =
    absurd (let bad : look.Empty ≡ look.Going = is in cc)
empty_by heard.End is g room left to h = absurd (let bad : look.Empty ≡ look.End = is in cc)

pub finds_none : {first : Sat Held} {before now : List HeardItem} {n many looks : ℕ}
    {old new : Sat Held} {was after : Item} → Goes first before n many now old
    → many < length before → n < looks → HearsAfter old was look.Empty after new
    → HearsInto first before looks many EMPTY now new
finds_none g room left h = empty_by h.answer h.writes.told_is g room left h.going h.hears

end_by : {first : Sat Held} {before now : List HeardItem} {n many looks : ℕ}
    {old at new : Sat Held} (answer : RecvTurn) → look.End ≡ item_turn_of answer
    → Goes first before n many now old → many < length before → n < looks → GoesOnTo old at
    → Hears at answer new → HearsInto first before looks many END now new
end_by heard.Going is g room left to h = absurd (let bad : look.End ≡ look.Going = is in cc)
end_by heard.Empty is g room left to h = absurd (let bad : look.End ≡ look.Empty = is in cc)
end_by (heard.Head tenure owner) is g room left to h =
    absurd (let bad : look.End ≡ look.Going = is in cc)
end_by (heard.Item item) is g room left to h = absurd (let bad : look.End ≡ look.Item = is in cc)
end_by (heard.Leave sender) is g room left to h =
    absurd (let bad : look.End ≡ look.Going = is in cc)
end_by heard.End is g room left to h = stops_by heard.End refl g room left to h

pub finds_end : {first : Sat Held} {before now : List HeardItem} {n many looks : ℕ}
    {old new : Sat Held} {was after : Item} → Goes first before n many now old
    → many < length before → n < looks → HearsAfter old was look.End after new
    → HearsInto first before looks many END now new
finds_end g room left h = end_by h.answer h.writes.told_is g room left h.going h.hears

-- there is no more room
pub full : {first : Sat Held} {before now : List HeardItem} {n many looks : ℕ} {at : Sat Held}
    → Goes first before n many now at → n ≤ looks → many ≡ length before
    → HearsInto first before looks many GOING now at
full {first} {before} {now} {n} {many} {looks} {at} g few is = record {
  items = g.items;
  hears = Fills n g.items at g.on few (inl (sym g.many_are ∙ is));
  many_are = g.many_are;
  written = g.written;
}

-- all looks are taken
pub tired : {first : Sat Held} {before now : List HeardItem} {n many looks : ℕ} {at : Sat Held}
    → Goes first before n many now at → n ≡ looks → HearsInto first before looks many GOING now at
tired {first} {before} {now} {n} {many} {looks} {at} g is = record {
  items = g.items;
  hears = Fills n g.items at g.on (omega (arith, is)) (inr is);
  many_are = g.many_are;
  written = g.written;
}

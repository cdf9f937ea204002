-- A receiver reads the words of one message together.
use Rattle.std.proofs.Common.{◌≡◌, ◌≢◌, ℕ, ◌+◌, ◌%◌, ◌<◌, ◌≤◌, ◌^◌, false, List, []}
use Rattle.std.proofs.Common.{◌∷◌, ◌++◌, length, inr, arith, refl, sym, ◌∙◌, ap}
use Rattle.std.proofs.Common.{append-nil}
use Rattle.std.specs.Int.{w64, to_be_bytes}
use Rattle.std.specs.List.{flat_map}
use Rattle.std.proofs.lemmas.Grind.{flat_map-append}
use Rattle.std.proofs.lemmas.List.{length-append}
use Rattle.bus_automaton.specs.Processes.{TableLayout, log_cell}
use Rattle.bus_batch.specs.declared.readers.Place.{Place}
use Rattle.bus_batch.specs.declared.readers.Place.TheVariants as place
use Rattle.bus_batch.specs.declared.readers.Span.{Span}
use Rattle.bus_batch.specs.Reading.{words_left, is_between}
use Rattle.bus_batch.specs.Spans.{IsSpan, HasBytes}
use Rattle.bus_batch.specs.declared.messages.Item.{Item}
use Rattle.bus_deliverylog.specs.declared.receiving.RecvTurn.{RecvTurn}
use Rattle.bus_deliverylog.specs.declared.receiving.RecvTurn.TheVariants as turn
use Rattle.bus_deliverylog.specs.Receiving.{LogReading, TakesNext, TakesWithin, midway_in}
use Rattle.bus_pageslot.specs.declared.listeners.Listener.{Listener}
use Rattle.bus_pageslot.specs.declared.rule.View.TheVariants.{Tap}
use Rattle.bus_pageslot.specs.Listening.{FindsWord, GoesOnTo, At, Onward, Hears, HearsSigned}
use Rattle.bus_pageslot.specs.Listening.{PassesNext}
use Rattle.bus_pageslot.specs.declared.listening.ItemTurn.TheVariants as item_turn
use Rattle.bus_pageslot.specs.ReceiverViews.{ReceiverView}
use Rattle.bus_pageslot.specs.Rounds.{GoesRound, HasSpan}
use Rattle.bus_pageslot.specs.Rule.{MayRead, Sat}
use Rattle.bus_pageslot.specs.Seats.{IsReceiverView}
use Rattle.bus_pageslot.proofs.Hears.PassTurns.{cell_below, cell_here, hears_word}
use Rattle.bus_pageslot.proofs.Hears.PassTurns.{pass_is_not_due}
use Rattle.bus_pageslot.proofs.Hears.ReaderLaws.{word_receiver_view, word_heard, word_read}
use Rattle.bus_pageslot.proofs.Hears.ReaderLaws.{unread}
use Rattle.bus_pageslot.proofs.Hears.Rounds.{not_known, cell_of}
use Rattle.bus_pageslot.proofs.SeatSteps.Silent.{not_due_after}

-- ---- where the words of a span lie
pub span_within : (l : Listener) (span : Span) → HasSpan l → IsSpan l.reader.frames span
    → l.reader.place + (1 + span.words) ≤ l.limit
span_within l span has is =
    let left : words_left l.reader.frames.place ≡ span.left = ap words_left is.at in
    let enough = is.enough in let low = has.span in omega arith

pub span_begun : (l : Listener) → HasSpan l → l.reader.place ≢ l.limit
span_begun l has same = let some = has.some in let low = has.span in omega arith

begun_torn : (p : Place) → 0 < words_left p → is_between p ≡ false
begun_torn place.Between some = absurd (omega arith)
begun_torn (place.Body owner left room) some = refl
begun_torn (place.Data owner left room number len) some = refl
begun_torn place.Ended some = refl
begun_torn place.Bad some = refl

-- in such a frame its passed place is not due
pub span_not_due : {C : Type 0} {m : Sat C} {words : ℕ} {l : Listener} → IsReceiverView m words l
    → HasSpan l → l.reader.ended ≡ false → PassesNext m.0 → ⊥
span_not_due {l = l} h has open_yet =
    pass_is_not_due h open_yet (inr (inr (begun_torn l.reader.frames.place has.some)))

pub some_words : (r : LogReading) (span : Span) → IsSpan r.frames span → 1 ≤ span.words
some_words r span is = let some = is.some in let many = is.words in omega arith

pub few_words : (r : LogReading) (span : Span) → IsSpan r.frames span → span.words ≤ 7
few_words r span is = let most = is.most in let many = is.words in omega arith

cell_on : (l : Listener) → GoesRound l → (i : ℕ) → l.reader.place + i < l.limit
    → l.cells.log + l.reader.place % l.cells.log_words + i
    ≡ l.cells.log + (l.reader.place + i) % l.cells.log_words
cell_on l h i low =
    let within = h.within in
    let behind = h.behind in
    let here = cell_of h.begin l.reader.place l.cells.log_words h.first h.behind (omega arith) in
    let there = cell_of h.begin (l.reader.place + i) l.cells.log_words h.first (omega arith)
    (omega arith) in
    omega arith

-- ---- a turn that takes a word
module _ {C : Type 0} {m m' : Sat C} {words words' got : ℕ} {l : Listener} {r' : LogReading}
    (h : IsReceiverView m words l) (f : FindsWord m got m') (same : words' ≡ words)
    (open_yet : l.reader.ended ≡ false) (inside : l.reader.place ≢ l.limit)
    (not_due : PassesNext m.0 → ⊥) (senders : r'.frames.senders ≡ l.reader.frames.senders) where
  pub hears_one : {answer : RecvTurn} → TakesNext l.reader got answer r' → Hears m answer m'
  hears_one takes = hears_word h open_yet not_due (not_known l h.round inside)
      (word_heard h f same open_yet inside refl senders takes)

  -- and says nothing by itself
  module _ (takes : TakesNext l.reader got turn.Going r') where
    pub goes_on_to : {first : Sat C} → GoesOnTo first m → GoesOnTo first m'
    goes_on_to {first} going =
        Onward m m' going not_due (unread h (not_known l h.round inside)) (hears_one takes)

    pub none_due : PassesNext m'.0 → ⊥
    none_due = not_due_after h (not_known l h.round inside)
        (word_heard h f same open_yet inside refl senders takes)

-- ---- within a message
-- a receiver that has read the own word of a message, and so many words in all, of whose bytes it
-- has these
pub
    record Midway {C : Type 0} (first m : Sat C) (words : ℕ) (l : Listener) (span : Span)
    (bytes : List ℕ) (i : ℕ) : Type 0 where
  pub taken : List ℕ
  pub many : length taken + 1 ≡ i
  pub bytes_are : bytes ≡ flat_map (to_be_bytes w64) taken
  pub view : IsReceiverView m words (record l { reader = midway_in l.reader span taken })
  pub going : GoesOnTo first m
  pub not_due : PassesNext m.0 → ⊥

module _ {C : Type 0} {first m : Sat C} {words : ℕ} {l : Listener} {span : Span} {bytes : List ℕ}
    {i : ℕ} (w : Midway first m words l span bytes i) (has : HasSpan l)
    (is : IsSpan l.reader.frames span) (few : i ≤ span.words) where
  abbrev now : Listener
  now = record l { reader = midway_in l.reader span w.taken }

  -- the next word lies in the span
  pub inside_span : l.reader.place + (1 + length w.taken) ≢ l.limit
  inside_span same =
      let low = span_within l span has is in let many = w.many in omega arith

  pub span_cell : GoesRound l → (at : ℕ) → at ≡ l.cells.log + l.reader.place % l.cells.log_words
      → at + i ≡ log_cell w.view.table_layout w.view.receiver_view.place
  span_cell round at at_is =
      let low = span_within l span has is in
      let many = w.many in
      let on = cell_on l round i (omega arith) in
      ap (λ n. n + i) at_is ∙ on
      ∙ ap (λ n. l.cells.log + (l.reader.place + n) % l.cells.log_words)
      (let e : i ≡ 1 + length w.taken = omega arith in e)
      ∙ cell_here w.view

  pub span_below : GoesRound l → (at : ℕ) → at ≡ l.cells.log + l.reader.place % l.cells.log_words
      → at + i < words
  span_below round at at_is =
      let low = cell_below w.view in
      let wide = w.view.wide in
      let here = span_cell round at at_is in
      let same = cell_here w.view in
      omega arith

  pub span_tap : GoesRound l → (at : ℕ) → at ≡ l.cells.log + l.reader.place % l.cells.log_words
      → (x : TableLayout) × (e : ReceiverView) × (m ≡ (Tap x e, [])) × (e.ended ≡ false)
      × MayRead x e e.place × (e.place < length e.known) × (at + i ≡ log_cell x e.place)
  span_tap round at at_is =
      let h = w.view in
      let other = not_known (record l { reader = midway_in l.reader span w.taken }) h.round
      inside_span in
      let within = h.fit.within in
      let known = h.fit.known in
      let here = h.fit.place in (
        h.table_layout,
        h.receiver_view,
        h.me,
        sym h.fit.ended,
        inr (h.stays, h.past),
        omega (arith, other),
        span_cell round at at_is,
      )

  -- a word that is not the last
  pub midway_on : {m' : Sat C} {words' got : ℕ} → i < span.words → FindsWord m got m'
      → words' ≡ words → got < 2 ^ 64 → TakesWithin l.reader span
      → Midway first m' words' l span (bytes ++ to_be_bytes w64 got) (i + 1)
  midway_on {m'} {words'} {got} more f same fits within =
      let many = w.many in
      let takes = within w.taken got fits (omega arith) in
      record {
        taken = w.taken ++ got ∷ [];
        many = let e = length-append w.taken (got ∷ []) in omega arith;
        bytes_are =
            ap (λ z. z ++ to_be_bytes w64 got) w.bytes_are
            ∙ ap (λ z. flat_map (to_be_bytes w64) w.taken ++ z)
            (sym (append-nil (to_be_bytes w64 got)))
            ∙ sym (flat_map-append (to_be_bytes w64) w.taken (got ∷ []));
        view = word_receiver_view w.view f same refl inside_span refl refl takes;
        going = goes_on_to w.view f same refl inside_span w.not_due refl takes w.going;
        not_due = none_due w.view f same refl inside_span w.not_due refl takes;
      }

  -- the last word of bytes
  module _ {m' : Sat C} {words' : ℕ} (last : ℕ) (f : FindsWord m last m') (same : words' ≡ words)
      (all : span.words ≤ i) (item : Item) (bytes' : List ℕ)
      (bytes_are : bytes' ≡ bytes ++ to_be_bytes w64 last) where
    has_all : HasBytes span w.taken last (record item { message = bytes' })
    has_all = record {
      all = let many = w.many in omega arith;
      are = bytes_are ∙ ap (λ z. z ++ to_be_bytes w64 last) w.bytes_are;
    }

    module _ (r' : LogReading) (new : Item) (senders : r'.frames.senders ≡ l.reader.frames.senders)
        (takes : (taken : List ℕ) → HasBytes span taken last (record item { message = bytes' })
        → TakesNext (midway_in l.reader span taken) last (turn.Item new) r') where
      pub span_view : IsReceiverView m' words' (record l { reader = r' })
      span_view = word_receiver_view w.view f same refl inside_span refl senders
          (takes w.taken has_all)

      pub span_heard : (before : Item) (sign : RecvTurn)
          → HearsSigned first before sign item_turn.Item new sign m'
      span_heard before sign = record {
        heard = record {
          old = m;
          going = w.going;
          answer = turn.Item new;
          hears = hears_one w.view f same refl inside_span w.not_due senders
              (takes w.taken has_all);
          writes = record { told_is = refl; after_is = refl };
        };
        signs = refl;
      }

    -- is never bad
    pub never_bad : ((taken : List ℕ) → HasBytes span taken last (record item { message = bytes' })
        → TakesNext (midway_in l.reader span taken) last turn.Going (midway_in l.reader span taken))
        → ⊥
    never_bad stays =
        let on = word_read w.view f same refl inside_span refl refl
        (stays w.taken has_all) in omega arith

-- the own word of a message
pub midway_first : {C : Type 0} {m m' : Sat C} {words words' got : ℕ} {l : Listener} {span : Span}
    → IsReceiverView m words l → HasSpan l → FindsWord m got m' → words' ≡ words
    → l.reader.ended ≡ false → (PassesNext m.0 → ⊥)
    → TakesNext l.reader got turn.Going (midway_in l.reader span [])
    → Midway m m' words' l span [] 1
midway_first {m = m} {l = l} {span = span} h has f same open_yet not_due takes = record {
  taken = [];
  many = refl;
  bytes_are = refl;
  view = word_receiver_view h f same open_yet (span_begun l has) refl refl takes;
  going = goes_on_to h f same open_yet (span_begun l has) not_due refl takes At;
  not_due = none_due h f same open_yet (span_begun l has) not_due refl takes;
}

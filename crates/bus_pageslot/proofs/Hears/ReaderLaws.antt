-- What a receiver's reader keeps beside its seat, and what each load makes of it.
use Rattle.std.proofs.Common.{◌≡◌, ◌≢◌, ℕ, ◌+◌, ◌<◌, ◌≤◌, Bool, false, List, [], ◌∷◌, ◌||◌}
use Rattle.std.proofs.lemmas.List.Folds.{list_any-append}
use Rattle.std.proofs.Math.Bool.{or-false}
use Rattle.std.proofs.Common.{◌++◌, length, take, drop, slice_index, inl, inr, arith, refl, sym}
use Rattle.std.proofs.Common.{◌∙◌, ap, subst, append_assoc}
use Rattle.std.specs.Prelude.{Option, Some, None}
use Rattle.std.proofs.lemmas.Bool.{cases_lt}
use Rattle.std.proofs.lemmas.Bool.Decides.{eqb_tells}
use Rattle.std.proofs.lemmas.List.{append_cancel_left, length-append, take-append-drop}
use Rattle.std.proofs.lemmas.List.{take-append-le, take_more}
use Rattle.std.proofs.lemmas.Grind.{common_steps}
use Rattle.bus_batch.specs.declared.messages.Piece.{Piece}
use Rattle.bus_batch.specs.declared.messages.Piece.TheVariants as piece
use Rattle.bus_batch.specs.declared.messages.Item.{Item}
use Rattle.bus_batch.specs.Frames.{AreFrames, GivesPiece, log_words, is_end}
use Rattle.bus_deliverylog.specs.declared.receiving.RecvTurn.{RecvTurn}
use Rattle.bus_deliverylog.specs.declared.receiving.RecvTurn.TheVariants as turn
use Rattle.bus_deliverylog.specs.Receiving.{LogReading, TakesWord, TakesNext, TakesGood, turn_of}
use Rattle.bus_tenure.specs.Core.{length_at}
use Rattle.bus_world.specs.Headline.{IsPrefix}
use Rattle.bus_pageslot.specs.ReceiverViews.{ReceiverView, receiver_view_after_load, heard_word}
use Rattle.bus_pageslot.specs.ReceiverViews.{length_turn}
use Rattle.bus_pageslot.specs.declared.rule.View.TheVariants.{Tap}
use Rattle.bus_automaton.specs.Processes.{TableLayout, log_cell}
use Rattle.bus_pageslot.specs.Rule.{Sat, receiver_view_in, known_in, table_layout_in, FitsLog}
use Rattle.bus_pageslot.specs.Rounds.{GoesRound}
use Rattle.bus_pageslot.proofs.Hears.Rounds.{not_known, round_on}
use Rattle.bus_pageslot.specs.Seats.{IsFit, IsReceiverView}
use Rattle.bus_pageslot.specs.Steps.{Learns}
use Rattle.bus_pageslot.specs.declared.listening.ItemTurn.{ItemTurn}
use Rattle.bus_pageslot.specs.declared.listening.ItemTurn.TheVariants as item_turn
use Rattle.bus_pageslot.specs.declared.listeners.Listener.{Listener}
use Rattle.bus_pageslot.specs.Listening.{FindsLength, FindsWord, HearsWord, Hears, Writes}
use Rattle.bus_pageslot.specs.Listening.{PassIsDue, HearingRefuses}
use Rattle.bus_pageslot.specs.Listening.{item_turn_of, item_after, sign_after}
use Rattle.bus_pageslot.proofs.Ruled.Ties.{no_shorter}

-- ---- a load of the length
front_of : (known more : List ℕ) (p : ℕ) → IsPrefix known more → p ≤ length known
    → take p more ≡ take p known
front_of known more p h l = ap (take p) (sym h.together) ∙ take-append-le p known h.rest l

fits_learnt : (senders got : ℕ) (e e' : ReceiverView) (r : LogReading) → IsFit senders e r
    → e'.place ≡ e.place → e'.ended ≡ e.ended → IsPrefix e.known e'.known → length e'.known ≡ got
    → IsFit senders e' (record r { known = got })
fits_learnt senders got e e' r h place ended grows size =
    grind (arith, common_steps, no_shorter, length, take, front_of)

-- what the answer is, where all that was known was read
pub is_empty : (place got : ℕ) → got ≡ place → turn.Empty ≡ length_turn place got
is_empty place got same = grind (arith, common_steps, eqb_tells)

pub is_longer : (place got : ℕ) → got ≢ place → turn.Going ≡ length_turn place got
is_longer place got other = grind (arith, common_steps, eqb_tells)

-- its seat knows a length that is no less
pub no_less : {C : Type 0} {m : Sat C} {words : ℕ} {l : Listener} (h : IsReceiverView m words l)
    (known : List ℕ) (got : ℕ) → IsPrefix (known_in m.0) known → length known ≡ got
    → l.reader.known ≤ got
no_less {C} {m} h known got grows size = grind (arith, common_steps, no_shorter, length)

-- the length was learnt
module _ {C : Type 0} {m m' : Sat C} {words words' got : ℕ} {l l' : Listener}
    (h : IsReceiverView m words l) (same_words : words' ≡ words) (round : GoesRound l')
    (reader : l'.reader ≡ record l.reader { known = got })
    (keeps : (l'.cells ≡ l.cells) × (l'.passed ≡ l.passed)) where
  -- the same of any view that knows more
  knowing : (known : List ℕ) (answers : List RecvTurn) (loads : List ℕ)
      → m' ≡ (
        Tap h.table_layout (record h.receiver_view {
          known = known;
          answers = answers;
          loads = loads;
        }),
        [],
      )
      → IsPrefix (known_in m.0) known → length known ≡ got → FitsLog (table_layout_in m.0) known
      → IsReceiverView m' words' l'
  knowing known answers loads now grows size within = grind (arith, common_steps, fits_learnt)

  -- by a turn
  pub length_found : FindsLength m got m' → IsReceiverView m' words' l'
  length_found f = grind (arith, common_steps, knowing)

  -- out of turn
  pub learned : Learns m got m' → IsReceiverView m' words' l'
  learned k = grind (arith, common_steps, knowing)

-- ---- a load of the word at its place, by a turn
ended_with : (before last : Bool) → before ≡ false → last ≡ (before || (last || false))
ended_with before last none = sym (or-false last) ∙ ap (λ b. b || (last || false)) (sym none)

module _ {C : Type 0} (x : TableLayout) (e : ReceiverView) (r r' : LogReading) (got : ℕ)
    (answer : RecvTurn) (m' : Sat C) (fit : IsFit x.senders e r) (going : r.ended ≡ false)
    (unread : r.place ≢ r.known)
    (senders : r'.frames.senders ≡ r.frames.senders)
    (takes : TakesWord (take r.place e.known) fit.pieces r got answer r')
    (f : FindsWord (Tap x e, []) got m') where
  below : r.place < length e.known
  below = let a = fit.within in let b = fit.known in omega arith

  -- the words that it has read, this one, and the others
  parts : log_words f.frames ≡ take r.place e.known ++ got ∷ (drop (r.place + 1) e.known ++ f.rest)
  parts =
      let place : e.place ≡ r.place = sym fit.place in
      let word : slice_index e.known r.place ≡ got =
      ap (slice_index e.known) fit.place ∙ sym f.got_is in
      grind (arith, common_steps, take, take_more, below, take-append-drop, append_assoc, drop)

  lawful : AreFrames r.frames.senders f.frames
  lawful = subst (λ n. AreFrames n f.frames) (sym fit.senders_are) f.lawful

  pub good : TakesGood (take r.place e.known) fit.pieces r got answer r'
  good = elim takes [
    | inl bad ↦ absurd (bad.0 (
      drop (r.place + 1) e.known ++ f.rest,
      record {
        frames = f.frames;
        lawful = lawful;
        words_are = grind (arith, common_steps, parts, append_assoc, take, drop);
      },
    ))
    | inr g ↦ g
  ]

  same : f.found ≡ good.found
  same =
      let a = good.gives f.frames (drop (r.place + 1) e.known ++ f.rest) lawful parts in
      cc

  pub word_now : m' ≡ (Tap x (heard_word e (log_cell x e.place) good.found answer), [])
  word_now = grind (arith, common_steps, same, good)

  pub word_fits : IsFit x.senders (heard_word e (log_cell x e.place) good.found answer) r'
  word_fits = grind (arith, good, take, take_more, below, slice_index, ended_with, list_any-append)

  pub word_is_heard : HearsWord (Tap x e, []) answer m'
  word_is_heard = record {
    got = got;
    finds = f;
    gives = subst (λ (y : ℕ × ℕ × Option Piece). GivesPiece y.0 (take y.1 e.known) got y.2)
        (λ i. (fit.senders_are i, fit.place i, sym same i)) good.gives;
    answer_is = good.answer_is ∙ ap turn_of (sym same);
  }

-- the same of a seat, whose reader had declined the word before
module _ {C : Type 0} {m m' : Sat C} {words words' got : ℕ} {l : Listener} {s r' : LogReading}
    {answer : RecvTurn} (h : IsReceiverView m words l) (f : FindsWord m got m')
    (same_words : words' ≡ words) (going : l.reader.ended ≡ false)
    (inside : l.reader.place ≢ l.limit) (same : s ≡ l.reader)
    (senders : r'.frames.senders ≡ s.frames.senders) (takes : TakesNext s got answer r') where
  unread_word : l.reader.place ≢ l.reader.known
  unread_word = not_known l h.round inside

  there : FindsWord (Tap h.table_layout h.receiver_view, []) got m'
  there = subst (λ (y : Sat C). FindsWord y got m') h.me f

  takes_it : TakesWord (take l.reader.place h.receiver_view.known) h.fit.pieces l.reader got answer
      r'
  takes_it = subst (λ (z : LogReading). TakesNext z got answer r') same takes
      (take l.reader.place h.receiver_view.known) h.fit.pieces h.fit.received

  still : r'.frames.senders ≡ l.reader.frames.senders
  still = senders ∙ ap (λ (z : LogReading). z.frames.senders) same

  -- the word is never bad, so its reader goes on
  pub word_read : r'.place ≡ l.reader.place + 1
  word_read = ap (λ (z : LogReading). z.place) (good h.table_layout h.receiver_view l.reader r' got
      answer m' h.fit going unread_word still takes_it there).new_is

  pub word_receiver_view : IsReceiverView m' words' (record l { reader = r' })
  word_receiver_view =
      let taken = good h.table_layout h.receiver_view l.reader r' got answer m' h.fit going
      unread_word still takes_it there in
      grind (arith, word_now, unread_word, still, takes_it, there, round_on, word_fits)

  pub word_heard : HearsWord m answer m'
  word_heard = subst (λ (y : Sat C). HearsWord y answer m') (sym h.me)
      (word_is_heard h.table_layout h.receiver_view l.reader r' got answer m' h.fit going
      unread_word still takes_it there)

-- a word that says nothing by itself is not the end
no_end : (found : Option Piece) → turn.Going ≡ turn_of found → is_end found ≡ false
no_end None e = refl
no_end (Some (piece.Head t o)) e = refl
no_end (Some (piece.Item i)) e = refl
no_end (Some (piece.Leave o)) e = refl
no_end (Some piece.End) e = absurd (let no : turn.Going ≡ turn.End = e in cc)

pub goes_on_after : {C : Type 0} {m : Sat C} {words got : ℕ} {l : Listener} {r' : LogReading}
    → IsReceiverView m words l → l.reader.ended ≡ false → TakesNext l.reader got turn.Going r'
    → r'.ended ≡ false
goes_on_after h going takes = elim (takes _ _ h.fit.received) [
  | inl bad ↦ ap (λ (z : LogReading). z.ended) bad.2 ∙ going
  | inr good ↦ ap (λ (z : LogReading). z.ended) good.new_is ∙ no_end good.found good.answer_is
]

-- ---- a turn

-- a list with one more is another
pub noted : (words : List ℕ) (word : ℕ) → words ≡ words ++ word ∷ [] → ⊥
noted words word same = let more = ap length same ∙ length-append words (word ∷ []) in omega arith

-- a turn that takes no step is none, but after the end
pub no_still_turn : {C : Type 0} (x : TableLayout) (e : ReceiverView) (answer : RecvTurn)
    → e.ended ≡ false → e.place ≤ length e.known → Hears {C = C} (Tap x e, []) answer (Tap x e, [])
    → ⊥
no_still_turn {C} x e answer going within h = grind (arith, common_steps, noted, cases_lt, length)

-- ---- what a turn refuses
-- a view whose passed place is not what it has stored there is another
module _ {C : Type 0} (x : TableLayout) (e : ReceiverView) (going : e.ended ≡ false) where
  -- a turn that is due stores its place
  stores : PassIsDue x e → (answer : RecvTurn) (f : ReceiverView)
      → Hears {C = C} (Tap x e, []) answer (Tap x f, []) → f.passed ≡ e.place
  stores due answer f h =
      ap (λ (y : Sat C). (receiver_view_in y.0).passed) (h.at_pass going due).1

  -- and one that is not leaves what it has passed as it was
  leaves_passed : (PassIsDue x e → ⊥) → e.place ≤ length e.known → (answer : RecvTurn)
      (f : ReceiverView) → Hears {C = C} (Tap x e, []) answer (Tap x f, []) → f.passed ≡ e.passed
  leaves_passed not_due within answer f h = grind (arith, common_steps, cases_lt, length)

  pub turns_refuse : HearingRefuses C x e
  turns_refuse = grind (arith, common_steps, stores, length, leaves_passed, noted)

-- nor is a receiver told a length without one
pub no_still_telling : {C : Type 0} (x : TableLayout) (e : ReceiverView) (got : ℕ)
    → Learns {C = C} (Tap x e, []) got (Tap x e, []) → ⊥
no_still_telling {C} x e got h =
    noted e.loads _ (ap (λ (y : Sat C). (receiver_view_in y.0).loads) h.now)

-- nor by a load of another word
pub no_other_telling : {C : Type 0} (x : TableLayout) (e : ReceiverView) (got word : ℕ)
    → word ≢ length_at
    → Learns {C = C} (Tap x e, []) got (Tap x (receiver_view_after_load e word), []) → ⊥
no_other_telling {C} x e got word other h = grind (arith, common_steps, append_cancel_left)

-- the word at its place is known where it has not read all that it knows
pub unread : {C : Type 0} {m : Sat C} {words : ℕ} {l : Listener}
    → IsReceiverView m words l → l.reader.place ≢ l.reader.known
    → (receiver_view_in m.0).place < length (known_in m.0)
unread {C} h other = grind (arith, common_steps, length)

-- what stood is what another has left, and that takes the word
pub still_to_take : {r r₀ r' : LogReading} {i i₀ i' : Item} {told : ItemTurn}
    {sign sign' : RecvTurn} {word : ℕ} → (r ≡ r₀) × (i ≡ i₀)
    → (answer : RecvTurn) × Writes answer i told i' × (sign' ≡ sign_after answer sign)
    × TakesNext r word answer r'
    → (answer : RecvTurn) × Writes answer i₀ told i' × (sign' ≡ sign_after answer sign)
    × TakesNext r₀ word answer r'
still_to_take {r' = r'} {i' = i'} {told = told} {word = word} same h = grind (arith, common_steps)

-- the answer of which this was told, with its item and its sign
abbrev pub back : ItemTurn → Item → RecvTurn → RecvTurn
back item_turn.Going item sign = sign
back item_turn.Empty item sign = turn.Empty
back item_turn.Item item sign = turn.Item item
back item_turn.End item sign = turn.End

-- is the one that was written
back_is : (answer : RecvTurn) (before : Item)
    → back (item_turn_of answer) (item_after answer before) (sign_after answer turn.Going) ≡ answer
back_is turn.Going before = refl
back_is turn.Empty before = refl
back_is (turn.Head tenure owner) before = refl
back_is (turn.Item item) before = refl
back_is (turn.Leave sender) before = refl
back_is turn.End before = refl

pub told_back : {answer : RecvTurn} {before item : Item} {told : ItemTurn} {sign : RecvTurn}
    → Writes answer before told item → sign ≡ sign_after answer turn.Going
    → back told item sign ≡ answer
told_back {answer} {before} w is =
    (λ i. back (w.told_is i) (w.after_is i) (is i)) ∙ back_is answer before

-- When a receiver's passed place is due, and the cell of its place.
use Rattle.std.proofs.Common.{◌≡◌, ◌≢◌, ◌⊎◌, inl, inr, ℕ, ◌+◌, ◌%◌, ◌<◌, ◌≤◌, Bool, true, false}
use Rattle.std.proofs.Common.{Option, Some, None, [], length, take, arith, refl, sym, ◌∙◌, ap}
use Rattle.std.proofs.Common.{subst}
use Rattle.std.proofs.lemmas.Nat.{mod_below}
use Rattle.std.proofs.lemmas.Bool.{true≢false, cases_lt}
use Rattle.std.specs.List.{list_any}
use Rattle.std.proofs.lemmas.Grind.{common_steps}
use Rattle.bus_batch.specs.Frames.{IsLog, is_end}
use Rattle.bus_batch.specs.Reading.{is_between}
use Rattle.bus_batch.proofs.Standing.{stands_between}
use Rattle.bus_deliverylog.specs.Receiving.{LogReading, HasReceived}
use Rattle.bus_automaton.specs.Buses.{passers_in, plan_passers}
use Rattle.bus_automaton.specs.declared.plans.Plan.{Plan}
use Rattle.bus_automaton.specs.Processes.{TableLayout, log_cell, passed_word}
use Rattle.bus_pageslot.specs.declared.listeners.Listener.{Listener}
use Rattle.bus_pageslot.specs.declared.listeners.LogCells.{LogCells}
use Rattle.bus_pageslot.specs.Rounds.{GoesRound, HasRoom}
use Rattle.bus_deliverylog.specs.declared.receiving.RecvTurn.{RecvTurn}
use Rattle.bus_deliverylog.specs.declared.receiving.RecvTurn.TheVariants as turn
use Rattle.bus_batch.specs.declared.messages.Item.{Item}
use Rattle.bus_pageslot.specs.Listening.{PassIsDue, PassesNext, Hears, HearsLength, HearsWord}
use Rattle.bus_pageslot.specs.Listening.{item_after, sign_after}
use Rattle.bus_pageslot.specs.ReceiverViews.{ReceiverView, length_turn}
use Rattle.bus_pageslot.specs.Rule.{Sat, receiver_view_in, table_layout_in}
use Rattle.bus_pageslot.specs.Seats.{IsFit, IsPassedAt, HasCells, IsReceiverView, IsFresh, IsTap}
use Rattle.bus_pageslot.specs.Seats.{ReceiverSeat}
use Rattle.bus_pageslot.specs.Steps.{HasPassed, HasLeft, HasLeftBy}

-- ---- a cell
-- a cell of the log lies in the table, and is that of its place
module _ (x : TableLayout) (me : ℕ) (cells : LogCells) (h : HasCells x me cells) (place at : ℕ)
    (is : at ≡ place % cells.log_words) where
  pub cell_within : cells.log + at < x.words
  cell_within = grind (arith, common_steps, mod_below)

  pub cell_is : cells.log + at ≡ log_cell x place
  cell_is = (λ i. h.log_is i + (is ∙ ap (λ n. place % n) h.capacity_is) i)

-- ---- where a reader stands
-- between frames the words that it has read are a log
pub reads_log : (senders : ℕ) (e : ReceiverView) (r : LogReading) → IsFit senders e r
    → is_between r.frames.place ≡ true → IsLog senders (take e.place e.known)
reads_log senders e r h between = grind (arith, common_steps, take, stands_between)

-- and else they are none, but at the end
pub reads_none : (senders : ℕ) (e : ReceiverView) (r : LogReading) → IsFit senders e r
    → r.ended ≡ false → is_between r.frames.place ≡ false
    → IsLog senders (take e.place e.known) → ⊥
reads_none senders e r h going within log =
    let here : IsLog r.frames.senders (take r.place e.known) =
    subst (λ (y : ℕ × ℕ). IsLog y.0 (take y.1 e.known))
    (λ i. (sym h.senders_are i, sym h.place i)) log in
    let open_yet : list_any is_end h.pieces ≡ false = sym h.seen ∙ going in
    let between : is_between r.frames.place ≡ true =
    (stands_between r.frames.senders (take r.place e.known) h.pieces r.frames h.received.read).1
    (here, open_yet) in
    true≢false (sym between ∙ within)

-- ---- its passed place
-- it has one only where some are there
pub has_passers : (x : TableLayout) (me at : ℕ) (o : Option ℕ) → IsPassedAt x me o → o ≡ Some at
    → (me < x.passers) × (at ≡ passed_word x me) × (at < x.words)
has_passers x me at o h is = subst (IsPassedAt x me) is h

pub has_none : (x : TableLayout) (me : ℕ) (o : Option ℕ) → IsPassedAt x me o → o ≡ None
    → x.passers ≡ 0
has_none x me o h is = subst (IsPassedAt x me) is h

module _ {C : Type 0} {m : Sat C} {words : ℕ} {l : Listener} (h : IsReceiverView m words l) where
  -- the cell of its place
  pub cell_below : l.cells.log + l.reader.place % l.cells.log_words < h.table_layout.words
  cell_below = cell_within h.table_layout h.receiver_view.me l.cells h.cells h.receiver_view.place
      (l.reader.place % l.cells.log_words) (ap (λ p. p % l.cells.log_words) h.fit.place)

  pub cell_here : l.cells.log + l.reader.place % l.cells.log_words
      ≡ log_cell h.table_layout h.receiver_view.place
  cell_here = cell_is h.table_layout h.receiver_view.me l.cells h.cells h.receiver_view.place
      (l.reader.place % l.cells.log_words) (ap (λ p. p % l.cells.log_words) h.fit.place)

  -- the view of its seat, told of the one that the seat has
  pub of_its_own : PassIsDue h.table_layout h.receiver_view → PassesNext m.0
  of_its_own d =
      subst (λ (y : Sat C). PassIsDue (table_layout_in y.0) (receiver_view_in y.0)) (sym h.me) d

  pub its_own : PassesNext m.0 → PassIsDue h.table_layout h.receiver_view
  its_own d = subst (λ (y : Sat C). PassIsDue (table_layout_in y.0) (receiver_view_in y.0)) h.me d

  -- what it finds due is due
  pub pass_is_due : (at : ℕ) → l.cells.passed_at ≡ Some at → l.passed < l.reader.place
      → is_between l.reader.frames.place ≡ true → PassesNext m.0
  pass_is_due at has past between =
      let own = has_passers h.table_layout h.receiver_view.me at l.cells.passed_at
      h.cells.passed_is has in
      of_its_own (
        (let some = own.0 in omega arith),
        (let a = h.passed in let b = h.fit.place in omega arith),
        reads_log h.table_layout.senders h.receiver_view l.reader h.fit between,
      )

  -- and what it does not find due is not
  pub pass_is_not_due : l.reader.ended ≡ false
      → (l.cells.passed_at ≡ None) ⊎ (l.reader.place ≤ l.passed)
      ⊎ (is_between l.reader.frames.place ≡ false) → PassesNext m.0 → ⊥
  pass_is_not_due going why due =
      let d = its_own due in
      elim why [
        | inl none ↦ grind (arith, common_steps, has_none)
        | inr other ↦ elim other [
          | inl all ↦
              let past = d.1 in let a = h.passed in let b = h.fit.place in omega arith
          | inr within ↦
              reads_none h.table_layout.senders h.receiver_view l.reader h.fit going within d.2
        ]
      ]

  -- it has passed
  pub has_passed : {m' : Sat C} {words' : ℕ} → words' ≡ words → PassesNext m.0 → HasPassed m m'
      → IsReceiverView m' words' (record l { passed = l.reader.place })
  has_passed same due passed = grind (arith, common_steps, its_own)

  -- ---- which turn it is
  not_ended : l.reader.ended ≡ false → (receiver_view_in m.0).ended ≡ true → ⊥
  not_ended going over = cc

  pub hears_passed : {m' : Sat C} → l.reader.ended ≡ false → PassesNext m.0 → HasPassed m m'
      → Hears m turn.Going m'
  hears_passed going due passed = grind (arith, common_steps, not_ended)

  pub hears_length : {m' : Sat C} {answer : RecvTurn} → l.reader.ended ≡ false
      → (PassesNext m.0 → ⊥) → l.reader.place ≡ l.reader.known → HearsLength m answer m'
      → Hears m answer m'
  hears_length going not_due all heard = grind (arith, common_steps, not_ended, length)

  pub hears_word : {m' : Sat C} {answer : RecvTurn} → l.reader.ended ≡ false
      → (PassesNext m.0 → ⊥) → l.reader.place ≢ l.reader.known → HearsWord m answer m'
      → Hears m answer m'
  hears_word going not_due other heard = grind (arith, common_steps, not_ended, length)

  -- ---- it leaves
  pub left_flat : l.cells.passed_at ≡ None → HasLeftBy m m
  left_flat none = grind (arith, common_steps, has_none)

  pub left_ring : {m' : Sat C} (at : ℕ) → l.cells.passed_at ≡ Some at → HasLeft m m'
      → HasLeftBy m m'
  left_ring at has left = grind (arith, common_steps, has_passers)

-- the cells of a log leave room for the numbers that tell them
pub has_room : (x : TableLayout) (me : ℕ) (cells : LogCells) → HasCells x me cells → HasRoom cells
has_room x me cells h = grind (arith, common_steps)

-- what a load of the length answers writes nothing
pub quiet_item : (place got : ℕ) (before : Item)
    → before ≡ item_after (length_turn place got) before
quiet_item place got before = grind (arith, common_steps)

pub quiet_sign : (place got : ℕ) (before : RecvTurn)
    → before ≡ sign_after (length_turn place got) before
quiet_sign place got before = grind (arith, common_steps)

-- ---- a receiver at its start
pub fresh_tap : {C : Type 0} (s : ReceiverSeat C) (cells : LogCells) (senders : ℕ) (l : Listener)
    → IsFresh s cells senders → GoesRound l → l.cells ≡ cells → l.passed ≡ 0
    → l.reader.known ≡ 0 → l.reader.place ≡ 0 → l.reader.ended ≡ false
    → l.reader.frames.senders ≡ senders → HasReceived [] [] l.reader → IsTap s l
fresh_tap s cells senders l h round its_cells passed known place ended its received =
    grind (arith, common_steps, take)

-- ---- how many passed places a plan has
passers_all : (reuse : Option ℕ) (ring : Bool) (receivers : ℕ)
    → passers_in reuse ring receivers < receivers → passers_in reuse ring receivers ≡ 0
passers_all None ring receivers few = refl
passers_all (Some rows) false receivers few = refl
passers_all (Some rows) true receivers few = absurd (omega arith)

-- none, where one receiver has none
pub none_at_all : (plan : Plan) (index : ℕ) → index < plan.shape.receivers
    → plan_passers plan ≤ index → plan_passers plan ≡ 0
none_at_all plan index below none =
    passers_all plan.reuse plan.ring plan.shape.receivers (omega arith)

pub none_or_all : (plan : Plan) (index : ℕ) → index < plan.shape.receivers
    → (plan_passers plan ≡ 0) ⊎ (index < plan_passers plan)
none_or_all plan index below = grind (arith, common_steps, cases_lt, none_at_all)

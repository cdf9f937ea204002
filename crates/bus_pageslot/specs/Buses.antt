-- A new bus: its table and its senders.
use Rattle.std.specs.Prelude.{◌≡◌, ℕ, ◌≤◌, ◌^◌, Option, Some, List, [], length, slice_get}
use Rattle.atomic_table.specs.declared.shared.Seat.{Seat}
use Rattle.atomic_table.specs.Seated.{TableId}
use Rattle.bus_tenure.specs.declared.pages.Page.{Page}
use Rattle.bus_pageslot.specs.declared.rule.View.{View}
use Rattle.bus_pageslot.specs.declared.rule.View.TheVariants.{Maker, Tap}
use Rattle.bus_pageslot.specs.Notes.{no_notes}
use Rattle.bus_pageslot.specs.Seats.{SenderSeat, ReceiverSeat, table_of, sender_trail_of, notes_of}
use Rattle.bus_pageslot.specs.ReceiverViews.{new_receiver_view}
use Rattle.bus_automaton.specs.Processes.{TableLayout, Process, Automaton, base_in}
use Rattle.bus_automaton.specs.declared.plans.Plan.{Plan}
use Rattle.bus_pageslot.specs.Rule.{receiver_view_in, table_layout_in}
use Rattle.bus_automaton.specs.SenderTrails.{new_sender_trail}

-- a bus: its table, and what it was made by
pub record BusId : Type 0 where
  pub table : TableId
  pub plan : Plan

-- a table of these sizes, and the seat of its maker
pub record IsBusTable {C : Type 0} (A : Automaton C) (table : TableId)
    (maker : Seat (Option Page) (View C)) : Type 0 where
  pub table_is : maker.table_id ≡ table
  pub room : A.table_layout.words ≤ 2 ^ 63
  pub words : table.words ≡ A.table_layout.words
  pub slots : table.slots ≡ 1
  pub me : maker.me ≡ (Maker A.table_layout 0, [])

-- a sender of this table before its first turn
pub record IsNewSeat {C : Type 0} (P : Process C) (A : Automaton C) (table : TableId) (p : ℕ)
    (s : SenderSeat C) : Type 0 where
  pub core : s.core ≡ A.started p
  pub table_is : table_of s ≡ table
  pub sender_trail : sender_trail_of P s ≡ new_sender_trail (base_in A p)
  pub notes : notes_of s ≡ no_notes

-- so many of them, in order
pub record AreNewSeats {C : Type 0} (P : Process C) (A : Automaton C) (table : TableId) (many : ℕ)
    (senders : List (SenderSeat C)) : Type 0 where
  pub many_are : length senders ≡ many
  pub each : (p : ℕ) (s : SenderSeat C) → slice_get senders p ≡ Some s → IsNewSeat P A table p s

-- the receiver r of this table before its first turn
pub record IsNewTap {C : Type 0} (x : TableLayout) (table : TableId) (r : ℕ)
    (t : ReceiverSeat C) : Type 0 where
  pub table_is : t.table_id ≡ table
  -- it shows itself alone, and carries nothing
  pub me : t.me ≡ (Tap x (new_receiver_view r), [])
  pub receiver_view : receiver_view_in t.me.0 ≡ new_receiver_view r
  pub table_layout : table_layout_in t.me.0 ≡ x

-- so many of them, in order
pub record AreNewTaps {C : Type 0} (x : TableLayout) (table : TableId) (many : ℕ)
    (taps : List (ReceiverSeat C)) : Type 0 where
  pub many_are : length taps ≡ many
  pub each : (r : ℕ) (t : ReceiverSeat C) → slice_get taps r ≡ Some t → IsNewTap x table r t

-- The page of a sitting whose order has ended, by its senders.
use Rattle.std.specs.Prelude.{◌≡◌, ℕ, ◌<◌, ◌≤◌, ◌⊎◌, true, Some, List, length, slice_get}
use Rattle.std.specs.Prelude.{slice_index, min}
use Rattle.bus_register.specs.declared.limits.TheConstants.{MOST_SENDERS}
use Rattle.bus_tenure.specs.Core.{is_closed}
use Rattle.bus_tenure.specs.declared.pages.Page.{Page}
use Rattle.bus_automaton.specs.Processes.{Process}
use Rattle.bus_pageslot.specs.Seats.{SenderSeat}
use Rattle.bus_handles.specs.declared.pages.NoPage.{NoPage}
use Rattle.bus_handles.specs.declared.pages.NoPage.TheVariants as why

-- the sender of this number, which sends nothing more: it was answered that the order has ended, or
-- that it has left
pub record HasParted {C : Type 0} (P : Process C) (number : ℕ) (s : SenderSeat C) : Type 0 where
  pub number_is : P.me s.core ≡ number
  pub closed : is_closed (P.queue s.core).phase ≡ true

-- So many of these senders, from the first on, are at their places and send nothing more. Of each
-- these numbers have that of the first message which waits with it, or else of the next one.
pub record AreNoted {C : Type 0} (P : Process C) (senders : List (SenderSeat C)) (many : ℕ)
    (numbers : List ℕ) : Type 0 where
  pub parted : (place : ℕ) (s : SenderSeat C) → place < many → slice_get senders place ≡ Some s
      → HasParted P place s
  pub number : (place : ℕ) (s : SenderSeat C) → place < many → slice_get senders place ≡ Some s
      → slice_index numbers place ≡ (P.queue s.core).first

-- There is a first one, and they are at least as many as the bus has senders by its count, or as a
-- page has numbers.
pub record AreAll {C : Type 0} (P : Process C) (senders : List (SenderSeat C)) : Type 0 where
  pub first : SenderSeat C
  pub begins : slice_get senders 0 ≡ Some first
  pub all : min (P.table_layout first.core).senders MOST_SENDERS ≤ length senders

-- The page has these numbers of all these senders, and that the order has ended. None of its bus is
-- left out.
pub record IsPageOf {C : Type 0} (P : Process C) (senders : List (SenderSeat C)) (page : Page) :
    Type 0 where
  pub all : AreAll P senders
  pub noted : AreNoted P senders MOST_SENDERS page.next
  pub ended : page.ended ≡ true

-- each of so many first senders is at its place, and sends nothing more
abbrev pub HavePartedBelow : {C : Type 0} → Process C → List (SenderSeat C) → (many : ℕ) → Type 0
HavePartedBelow {C} P senders many =
    (place : ℕ) (s : SenderSeat C) → place < many → slice_get senders place ≡ Some s
    → HasParted P place s

-- the list ends before this number, and the bus has a sender of it by the count of the first one
pub record IsLeftOut {C : Type 0} (P : Process C) (senders : List (SenderSeat C)) (number : ℕ) :
    Type 0 where
  pub ends : number ≡ length senders
  pub first : SenderSeat C
  pub begins : slice_get senders 0 ≡ Some first
  pub counted : number < (P.table_layout first.core).senders

-- none was made: all of them send nothing more; or this one is the first that is not there, since
-- the list ends before it, or that is not at its place, or that may send still
abbrev pub NoPageOf : {C : Type 0} → Process C → List (SenderSeat C) → NoPage → Type 0
NoPageOf P senders why.NotEnded = HavePartedBelow P senders MOST_SENDERS
NoPageOf {C} P senders (why.Unanswered number) =
    HavePartedBelow P senders number.0
    × (IsLeftOut P senders number.0
    ⊎ ((s : SenderSeat C) × (slice_get senders number.0 ≡ Some s) × (HasParted P number.0 s → ⊥)))

-- A sender that waits for room: it takes turns on after Full, and looks for room before these.
use Rattle.std.specs.Prelude.{◌≡◌, ◌≢◌, ◌⊎◌, ℕ, ◌+◌, ◌<◌, ◌≤◌, Bool, true, false}
use Rattle.bus_tenure.specs.declared.turns.Turn.{Turn}
use Rattle.bus_tenure.specs.declared.turns.Turn.TheVariants as turn
use Rattle.bus_tenure.specs.Classes.{is_last, is_waiting}
use Rattle.rand_core.specs.Stream.{Stream}
use Rattle.bus_automaton.specs.Processes.{Process, Automaton}
use Rattle.bus_pageslot.specs.Looks.{LooksForRoom, batch_len}
use Rattle.bus_pageslot.specs.Seats.{SenderSeat}
use Rattle.bus_pageslot.specs.Sendings.{waiting_of}
use Rattle.bus_pageslot.specs.Turns.{Tellings, Turned, DrawsOn}

-- the frame of its batch is no longer than the log, by the layout that it has of its bus
abbrev pub Fits : {C : Type 0} → Process C → C → Type 0
Fits P c = batch_len P c ≤ (P.table_layout c).capacity

-- what comes next: a turn; or, once one has answered Full, a look whether there is room, so many of
-- which have found none since
pub data Coming : Type 0 where
  Turning : Coming
  Looking : (looks : ℕ) → Coming

-- after so many looks that found no room it takes a turn all the same
abbrev pub most_looks : ℕ
most_looks = 64

-- Turns and looks led from one sender to another, between which a function is asked whether to go
-- on; Tells f told f' where a call of f may tell that, and leaves f'. For each turn that answered
-- Waiting or Behind, and for each look, there is a call that told to go on, and no other call; each
-- found the function as the call before had left it. When it was made is not said. After Full a
-- look comes next. Behind one that found no room another one comes, up to so many. Behind one that
-- found room, or the last of so many, a turn comes. None of the turns answered as a last one but
-- Full.
pub data GoesForRoom {C F : Type 0} (P : Process C) (A : Automaton C) (T : Tellings C)
    (Tells : F → Bool → F → Type 0) (first : SenderSeat C) (given : F) : Coming → SenderSeat C → F
    → Type 0 where
  Begins : GoesForRoom P A T Tells first given Turning first given
  Goes : (old : SenderSeat C) (f : F) (word : ℕ) (answer : Turn) (new : SenderSeat C)
      → GoesForRoom P A T Tells first given Turning old f → Turned P T old word answer new
      → is_last answer ≡ false → is_waiting answer ≡ false
      → GoesForRoom P A T Tells first given Turning new f
  Asks : (old : SenderSeat C) (f : F) (word : ℕ) (answer : Turn) (new : SenderSeat C) (f' : F)
      → GoesForRoom P A T Tells first given Turning old f → Turned P T old word answer new
      → is_waiting answer ≡ true → Tells f true f'
      → GoesForRoom P A T Tells first given Turning new f'
  Fills : (old : SenderSeat C) (f : F) (word : ℕ) (new : SenderSeat C)
      → GoesForRoom P A T Tells first given Turning old f → Turned P T old word turn.Full new
      → GoesForRoom P A T Tells first given (Looking 0) new f
  -- told to go on, it looked
  FindsNone : (looks : ℕ) (old : SenderSeat C) (f f' : F) (new : SenderSeat C)
      → GoesForRoom P A T Tells first given (Looking looks) old f → looks < most_looks
      → Tells f true f' → LooksForRoom P A old false new
      → GoesForRoom P A T Tells first given (Looking (looks + 1)) new f'
  FindsRoom : (looks : ℕ) (old : SenderSeat C) (f f' : F) (new : SenderSeat C)
      → GoesForRoom P A T Tells first given (Looking looks) old f → looks < most_looks
      → Tells f true f' → LooksForRoom P A old true new
      → GoesForRoom P A T Tells first given Turning new f'
  -- so many found none
  Tries : (old : SenderSeat C) (f : F)
      → GoesForRoom P A T Tells first given (Looking most_looks) old f
      → GoesForRoom P A T Tells first given Turning old f

-- such turns and looks, and then a turn with a last answer, which is not Full
pub record SendsForRoom {C F : Type 0} (P : Process C) (A : Automaton C) (T : Tellings C)
    (Tells : F → Bool → F → Type 0) (first : SenderSeat C) (given : F) (answer : Turn)
    (new : SenderSeat C) : Type 0 where
  pub old : SenderSeat C
  pub asked : F
  pub word : ℕ
  pub before : GoesForRoom P A T Tells first given Turning old asked
  pub turned : Turned P T old word answer new
  pub last : is_last answer ≡ true
  pub room : answer ≢ turn.Full

-- such turns and looks, and then a turn that answered Waiting or Behind; the function was asked
-- behind it and told to stop
pub record StopsTurning {C F : Type 0} (P : Process C) (A : Automaton C) (T : Tellings C)
    (Tells : F → Bool → F → Type 0) (first : SenderSeat C) (given : F) (new : SenderSeat C) :
    Type 0 where
  pub old : SenderSeat C
  pub asked : F
  pub word : ℕ
  pub answer : Turn
  pub before : GoesForRoom P A T Tells first given Turning old asked
  pub turned : Turned P T old word answer new
  pub waits : is_waiting answer ≡ true
  pub left : F
  pub told : Tells asked false left

-- such turns and looks, behind which another look was to come; the function was asked before that
-- and told to stop
pub record StopsLooking {C F : Type 0} (P : Process C) (A : Automaton C) (T : Tellings C)
    (Tells : F → Bool → F → Type 0) (first : SenderSeat C) (given : F) (new : SenderSeat C) :
    Type 0 where
  pub asked : F
  pub looks : ℕ
  pub before : GoesForRoom P A T Tells first given (Looking looks) new asked
  pub few : looks < most_looks
  pub left : F
  pub told : Tells asked false left

abbrev pub StopsForRoom : {C F : Type 0} → Process C → Automaton C → Tellings C
    → (F → Bool → F → Type 0) → SenderSeat C → F → SenderSeat C → Type 0
StopsForRoom P A T Tells first given new =
    StopsTurning P A T Tells first given new ⊎ StopsLooking P A T Tells first given new

-- The random words of such turns, from what a generator was to answer to what it is left with: each
-- turn that asks for a word takes the next one. A look draws none.
pub data DrawsForRoom {C : Type 0} (P : Process C) (A : Automaton C) (T : Tellings C)
    (first : SenderSeat C) (given : Stream) : SenderSeat C → Stream → Type 0 where
  Undrawn : DrawsForRoom P A T first given first given
  Drawn : (old : SenderSeat C) (words : Stream) (new : SenderSeat C) (left : Stream)
      → DrawsForRoom P A T first given old words → DrawsOn P T old words new left
      → DrawsForRoom P A T first given new left
  Looked : (old : SenderSeat C) (words : Stream) (fits : Bool) (new : SenderSeat C)
      → DrawsForRoom P A T first given old words → LooksForRoom P A old fits new
      → DrawsForRoom P A T first given new words

-- ---- what these refuse
-- a function that counts its calls: so many of them tell to go on, and each further one tells to
-- stop
abbrev pub GoesOnTimes : ℕ → ℕ → Bool → ℕ → Type 0
GoesOnTimes times count go_on count' = (count' ≡ count + 1) × (go_on ≡ true → count < times)

pub record RoomRefuses {C F : Type 0} (P : Process C) (A : Automaton C) (T : Tellings C)
    (Tells : F → Bool → F → Type 0) (first new : SenderSeat C) (given f : F) : Type 0 where
  -- it ends with Full
  pub full : ¬ SendsForRoom P A T Tells first given turn.Full new
  -- it goes on after a call that told to stop
  pub told : (times count : ℕ) (next : Coming) → times < count
      → ¬ GoesForRoom P A T (GoesOnTimes times) first 0 next new count
  -- another batch waits than at first: while it looks and takes turns, or once it has stopped
  pub batch : (next : Coming) → waiting_of P new ≢ waiting_of P first
      → ¬ GoesForRoom P A T Tells first given next new f
  pub stopped : waiting_of P new ≢ waiting_of P first
      → ¬ StopsForRoom P A T Tells first given new

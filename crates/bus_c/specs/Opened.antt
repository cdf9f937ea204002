-- What handles hold once a bus is opened.
use Rattle.std.specs.Prelude.{◌≡◌, ℕ, List, map, length, replicate, Option, Some}
use Rattle.std.specs.Prelude.{Result, Ok, Err, Box}
use Rattle.std.specs.Global.{Global}
use Rattle.bus_machine.specs.Playing.{IsServedWith, MayGoOn}
use Rattle.bus_handles.specs.declared.answers.RingFault.{RingFault}
use Rattle.bus_pageslot.specs.Seats.{SenderSeat}
use Rattle.bus_handles.specs.Handles.{SeatOfBus, IsOpened, HoldsFrames, OpenRefused}
use Rattle.bus_embed.specs.declared.buses.Sizes.{Sizes}
use Rattle.bus_embed.specs.declared.buses.Left.{Left}
use Rattle.bus_embed.specs.declared.codes.TheConstants.{OK}
use Rattle.bus_embed.specs.Answers.{open_code as fault_code}
use Rattle.bus_automaton.specs.Buses.{plan_passers}
use Rattle.bus_automaton.specs.ThreeWordBuses.{Held, process, automaton}
use Rattle.bus_embed.specs.Buses.{pages, plan_of}
use Rattle.bus_c.specs.declared.seats.SenderSeat.{SenderSeat as Sending}
use Rattle.bus_c.specs.declared.seats.ReceiverSeat.{ReceiverSeat as Receiving}
use Rattle.bus_c.specs.declared.sender.CSender.{CSender}
use Rattle.bus_c.specs.declared.receiver.CReceiver.{CReceiver}

-- ---- what a handle holds, what a box does, and what is to be held
abbrev pub held_by : CSender → Option Sending
held_by s = s.held

abbrev pub boxed : Box Sending Global → Option Sending
boxed b = Some b.value

abbrev pub holds : SenderSeat Held → Option Sending
holds s = Some (record { handle = s; room = replicate 8 0 })

-- the same of receivers
abbrev pub heard_by : CReceiver → Option Receiving
heard_by r = r.held

abbrev pub boxed_receiver : Box Receiving Global → Option Receiving
boxed_receiver b = Some b.value

abbrev pub hears : SeatOfBus Held → Option Receiving
hears r = Some (record { handle = r; room = replicate 8 0 })

-- ---- an opening
-- The handles hold the senders and the receivers of a new bus of these sizes, in order, which have
-- taken no step. It is a first bus, or goes on with the next numbers of one that left this. Or none
-- was made, for the first cause that holds, and the handles are as they were.
abbrev pub Opens : Sizes → Option Left → List CSender → List CReceiver
    → Result (List (SenderSeat Held) × List (SeatOfBus Held)) RingFault → List CSender
    → List CReceiver → Type 0
Opens sizes before senders receivers (Ok made) senders' receivers' =
    let plan = plan_of sizes (length senders) (length receivers) before in
    IsOpened process (automaton plan) plan made.0 made.1
    × IsServedWith (plan_passers plan) plan.shape plan.reuse × HoldsFrames plan
    × MayGoOn (plan_passers plan) plan.shape.batch (pages before)
    × (map held_by senders' ≡ map holds made.0) × (map heard_by receivers' ≡ map hears made.1)
Opens sizes before senders receivers (Err fault) senders' receivers' =
    let plan = plan_of sizes (length senders) (length receivers) before in
    OpenRefused plan (pages before) fault × (senders' ≡ senders) × (receivers' ≡ receivers)

abbrev pub open_code : {A : Type 0} → Result A RingFault → ℕ
open_code (Ok made) = OK
open_code (Err fault) = fault_code fault

pub record OpenAnswered (sizes : Sizes) (before : Option Left) (senders : List CSender)
    (receivers : List CReceiver) (answer : ℕ) (senders' : List CSender)
    (receivers' : List CReceiver) : Type 0 where
  pub given : Result (List (SenderSeat Held) × List (SeatOfBus Held)) RingFault
  pub opens : Opens sizes before senders receivers given senders' receivers'
  pub code : answer ≡ open_code given

-- What a run that ended well leaves behind.
use Rattle.std.specs.Prelude.{◌≡◌, ℕ, List, All, length}
use Rattle.bus_batch.specs.Frames.{Order}
use Rattle.bus_world.specs.declared.shapes.Shape.{Shape}
use Rattle.bus_pageslot.specs.Outcomes.{Outcome}
use Rattle.bus_receiver.specs.Hearing.{Hearing}
use Rattle.bus_run.specs.Audit.{OfOrder, IsSpelled, IsFair, CountsAll, SendsEach, CarriesNumbers}
use Rattle.bus_run.specs.Audit.{IsClosed, AllStay}
use Rattle.bus_run.specs.Left.{run_plan, IsLeftBehind}

-- The order has so many items of each of so many senders, which carry the numbers from 0 on; it has
-- ended, and no sender has left; and each note has counted all of it and the end, with the total of
-- all its items.
pub record IsHeardWhole (senders messages : ℕ) (heards : List Hearing) (order : Order) :
    Type 0 where
  pub sends : SendsEach senders messages order
  pub carried : CarriesNumbers senders order
  pub closed : IsClosed order
  pub stay : AllStay order
  pub fair : All (IsFair order) heards
  pub all : All (CountsAll order) heards

-- Of a bus of this shape: log and page are those of a table of which the rule holds, the page knows
-- how many words the log has, and they spell an order, which is heard whole; and there is a note of
-- each receiver.
pub record IsRunReport (shape : Shape) (messages : ℕ) (left : Outcome) (heards : List Hearing) :
    Type 0 where
  pub senders_are : left.senders ≡ shape.senders
  pub left_behind : IsLeftBehind (run_plan shape) left
  pub words : left.page.words ≡ length left.log
  pub spelled : IsSpelled left
  pub heard : OfOrder left (IsHeardWhole shape.senders messages heards)
  pub each : length heards ≡ shape.receivers

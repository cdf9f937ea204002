-- What a worker's sender does where it sends, and where it closes.
use Rattle.bus_tenure.specs.declared.turns.Turn.{Turn}
use Rattle.bus_pageslot.specs.Seats.{SenderSeat}
use Rattle.bus_pageslot.specs.Sendings.{ClosesAndSends}
use Rattle.bus_pageslot.specs.Turns.{Sends}
use Rattle.bus_automaton.specs.ThreeWordBuses.{Held, process}
use Rattle.bus_run.specs.Left.{run_tells}

-- its turns, up to the first last one, which answered so
abbrev pub SendsOn : SenderSeat Held → Turn → SenderSeat Held → Type 0
SendsOn first answer new = Sends process run_tells first answer new

-- it let an end mark wait, where it could, with no step; and its turns then answered so
abbrev pub ClosesOn : SenderSeat Held → Turn → SenderSeat Held → Type 0
ClosesOn first answer new = ClosesAndSends process run_tells first answer new

use Rattle.bus_automaton.specs.Buses.{process_with}
use Rattle.bus_tenure.specs.Elections.{election_with}
use Rattle.bus_pageslot.specs.Turns.{tells_with}
use Rattle.bus_pageslot.proofs.Sends.Staying.{asking_same, draws_same, finishes_same, leaves_number}
use Rattle.bus_pageslot.proofs.Sends.Staying.{looked_same}
use Rattle.bus_pageslot.proofs.Sends.Staying.{marked_same, put_same, sends_for_room_same}
use Rattle.bus_pageslot.proofs.Sends.Staying.{sends_same}
use Rattle.bus_pageslot.proofs.Sends.Staying.{stops_for_room_same, stops_same, takes_up_to_same}
use Rattle.bus_pageslot.proofs.Sends.Staying.{through_same, turned_same}
use Rattle.bus_pageslot.proofs.sending_laws.senders_stay_who_they_are.Goals as goal

pub returns-clause-turn : goal.returns-clause-turn
unfolding tells_with
returns-clause-turn g c old new word answer h =
    let P = process_with g.Q.Machine.kind_of g.Q.Machine.op g.Q.Machine.fed g.Q.Ratifier.protocol in
    let T = tells_with g.Q.Machine.kind_of g.Q.Machine.op g.Q.Machine.fed g.Q.Ratifier.protocol in
    let L = leaves_number g.Q.Machine.kind_of g.Q.Machine.op g.Q.Machine.fed
    g.Q.Ratifier.protocol in
    turned_same P T L old word answer new h

pub returns-clause-sends : goal.returns-clause-sends
unfolding tells_with
returns-clause-sends g c old new answer h =
    let P = process_with g.Q.Machine.kind_of g.Q.Machine.op g.Q.Machine.fed g.Q.Ratifier.protocol in
    let T = tells_with g.Q.Machine.kind_of g.Q.Machine.op g.Q.Machine.fed g.Q.Ratifier.protocol in
    let L = leaves_number g.Q.Machine.kind_of g.Q.Machine.op g.Q.Machine.fed
    g.Q.Ratifier.protocol in
    sends_same P T L old answer new h

pub returns-clause-takes : goal.returns-clause-takes
unfolding tells_with
returns-clause-takes g c old new word more answer h =
    let P = process_with g.Q.Machine.kind_of g.Q.Machine.op g.Q.Machine.fed g.Q.Ratifier.protocol in
    let T = tells_with g.Q.Machine.kind_of g.Q.Machine.op g.Q.Machine.fed g.Q.Ratifier.protocol in
    let L = leaves_number g.Q.Machine.kind_of g.Q.Machine.op g.Q.Machine.fed
    g.Q.Ratifier.protocol in
    takes_up_to_same P T L old word more answer new h

pub returns-clause-draws : goal.returns-clause-draws
unfolding tells_with
returns-clause-draws g c old new words left h =
    let P = process_with g.Q.Machine.kind_of g.Q.Machine.op g.Q.Machine.fed g.Q.Ratifier.protocol in
    let T = tells_with g.Q.Machine.kind_of g.Q.Machine.op g.Q.Machine.fed g.Q.Ratifier.protocol in
    let L = leaves_number g.Q.Machine.kind_of g.Q.Machine.op g.Q.Machine.fed
    g.Q.Ratifier.protocol in
    draws_same P T L old words new left h

pub returns-clause-asks : goal.returns-clause-asks
unfolding tells_with
returns-clause-asks g c old new given answer h =
    let P = process_with g.Q.Machine.kind_of g.Q.Machine.op g.Q.Machine.fed g.Q.Ratifier.protocol in
    let T = tells_with g.Q.Machine.kind_of g.Q.Machine.op g.Q.Machine.fed g.Q.Ratifier.protocol in
    let L = leaves_number g.Q.Machine.kind_of g.Q.Machine.op g.Q.Machine.fed
    g.Q.Ratifier.protocol in
    asking_same P T L (goal.F-step g) old given answer new h

pub returns-clause-stops : goal.returns-clause-stops
unfolding tells_with
returns-clause-stops g c old new given h =
    let P = process_with g.Q.Machine.kind_of g.Q.Machine.op g.Q.Machine.fed g.Q.Ratifier.protocol in
    let T = tells_with g.Q.Machine.kind_of g.Q.Machine.op g.Q.Machine.fed g.Q.Ratifier.protocol in
    let L = leaves_number g.Q.Machine.kind_of g.Q.Machine.op g.Q.Machine.fed
    g.Q.Ratifier.protocol in
    stops_same P T L (goal.F-step g) old given new h

pub returns-clause-room : goal.returns-clause-room
unfolding tells_with
returns-clause-room g c plan old new given answer h =
    let P = process_with g.Q.Machine.kind_of g.Q.Machine.op g.Q.Machine.fed g.Q.Ratifier.protocol in
    let T = tells_with g.Q.Machine.kind_of g.Q.Machine.op g.Q.Machine.fed g.Q.Ratifier.protocol in
    let L = leaves_number g.Q.Machine.kind_of g.Q.Machine.op g.Q.Machine.fed
    g.Q.Ratifier.protocol in
    sends_for_room_same P T L (goal.F-step g) old given answer new h

pub returns-clause-stops_for_room : goal.returns-clause-stops_for_room
unfolding tells_with
returns-clause-stops_for_room g c plan old new given h =
    let P = process_with g.Q.Machine.kind_of g.Q.Machine.op g.Q.Machine.fed g.Q.Ratifier.protocol in
    let T = tells_with g.Q.Machine.kind_of g.Q.Machine.op g.Q.Machine.fed g.Q.Ratifier.protocol in
    let L = leaves_number g.Q.Machine.kind_of g.Q.Machine.op g.Q.Machine.fed
    g.Q.Ratifier.protocol in
    stops_for_room_same P T L (goal.F-step g) old given new h

pub returns-clause-looks : goal.returns-clause-looks
returns-clause-looks g c plan old new fits h = looked_same _ old fits new h

pub returns-clause-through : goal.returns-clause-through
unfolding tells_with
returns-clause-through g c old new tenure count h =
    let P = process_with g.Q.Machine.kind_of g.Q.Machine.op g.Q.Machine.fed g.Q.Ratifier.protocol in
    let T = tells_with g.Q.Machine.kind_of g.Q.Machine.op g.Q.Machine.fed g.Q.Ratifier.protocol in
    let L = leaves_number g.Q.Machine.kind_of g.Q.Machine.op g.Q.Machine.fed
    g.Q.Ratifier.protocol in
    through_same P T L tenure old count new h

pub returns-clause-finishes : goal.returns-clause-finishes
unfolding tells_with
returns-clause-finishes g c old new answer h =
    let P = process_with g.Q.Machine.kind_of g.Q.Machine.op g.Q.Machine.fed g.Q.Ratifier.protocol in
    let T = tells_with g.Q.Machine.kind_of g.Q.Machine.op g.Q.Machine.fed g.Q.Ratifier.protocol in
    let L = leaves_number g.Q.Machine.kind_of g.Q.Machine.op g.Q.Machine.fed
    g.Q.Ratifier.protocol in
    finishes_same P T L (election_with g.Q.Machine.kind_of g.Q.Machine.op g.Q.Machine.fed
    g.Q.Ratifier.protocol) old answer new h

pub returns-clause-puts : goal.returns-clause-puts
returns-clause-puts g c old new bytes is seat =
    let P = process_with g.Q.Machine.kind_of g.Q.Machine.op g.Q.Machine.fed g.Q.Ratifier.protocol in
    put_same P c.threads_may_go_by.ensures.process old new seat bytes is

pub returns-clause-marks : goal.returns-clause-marks
returns-clause-marks g c old new mark is seat =
    let P = process_with g.Q.Machine.kind_of g.Q.Machine.op g.Q.Machine.fed g.Q.Ratifier.protocol in
    marked_same P c.threads_may_go_by.ensures.process old new seat mark is

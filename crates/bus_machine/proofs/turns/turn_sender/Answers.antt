use Rattle.bus_tenure.specs.Elections.{election_with}
use Rattle.bus_machine.proofs.Calls.TurnLaws.{sums_so, turned_as}
use Rattle.bus_machine.proofs.Memory.HandTells.{tells_so, still_laid}
use Rattle.bus_machine.proofs.turns.turn_sender.Goals as goal

pub take_step-turn-requires-clause-sums : goal.take_step-turn-requires-clause-sums
take_step-turn-requires-clause-sums g c =
    let X =
    election_with g.Q.Machine.kind_of g.Q.Machine.op g.Q.Machine.fed g.Q.Ratifier.protocol in
    sums_so X c.args.core.now c.requires.laid c.args.cells.now c.args.home.now c.args.word
    c.hand_home.new.core c.hand_home.ensures.core c.requires.sums

pub take_step-turn-requires-clause-laid : goal.take_step-turn-requires-clause-laid
take_step-turn-requires-clause-laid g c =
    let X =
    election_with g.Q.Machine.kind_of g.Q.Machine.op g.Q.Machine.fed g.Q.Ratifier.protocol in
    still_laid X c.args.core.now c.args.word c.args.cells.now
    Rattle.bus_tenure.specs.declared.turns.Turn.TheVariants.Going c.requires.laid
    c.hand_home.new.core c.hand_home.ensures.core

pub returns-clause-tells : goal.returns-clause-tells
returns-clause-tells g c =
    let X =
    election_with g.Q.Machine.kind_of g.Q.Machine.op g.Q.Machine.fed g.Q.Ratifier.protocol in
    tells_so X c.args.core.now c.args.word c.args.cells.now c.take_step-turn.result
    c.hand_home.new.core c.hand_home.ensures.core c.take_step-turn.ensures.tells

pub returns-clause-turned : goal.returns-clause-turned
returns-clause-turned g c =
    let X =
    election_with g.Q.Machine.kind_of g.Q.Machine.op g.Q.Machine.fed g.Q.Ratifier.protocol in
    turned_as X c.args.core.now c.requires.laid c.args.cells.now c.args.home.now c.args.word
    c.hand_home.new.core c.hand_home.ensures.core c.take_step-turn.result c.take_step-turn.new.cells
    c.hand_home.new.home c.take_step-turn.new.core c.hand_home.ensures.home
    c.take_step-turn.ensures.stepped _ _ c.lay_page.ensures.home c.lay_page.ensures.core

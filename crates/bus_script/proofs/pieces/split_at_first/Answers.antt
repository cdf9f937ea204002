use Rattle.std.proofs.Common.{sym, ◌∙◌}
use Rattle.bus_script.proofs.PieceLemmas.{front_at, rest_at, front_nowhere, found_nowhere}
use Rattle.bus_script.proofs.pieces.split_at_first.Goals as goal

pub returns-in-Some-clause-front : goal.returns-in-Some-clause-front
returns-in-Some-clause-front c =
    front_at _ c.args.bytes.now c.in-Some.at (sym c.first_at.ensures ∙ c.in-Some.is)

pub returns-in-Some-clause-rest : goal.returns-in-Some-clause-rest
returns-in-Some-clause-rest c =
    rest_at _ c.args.bytes.now c.in-Some.at (sym c.first_at.ensures ∙ c.in-Some.is)

pub returns-in-None-clause-front : goal.returns-in-None-clause-front
returns-in-None-clause-front c =
    front_nowhere _ c.args.bytes.now (sym c.first_at.ensures ∙ c.in-None.is)

pub returns-in-None-clause-rest : goal.returns-in-None-clause-rest
returns-in-None-clause-rest c =
    found_nowhere _ c.args.bytes.now (sym c.first_at.ensures ∙ c.in-None.is)

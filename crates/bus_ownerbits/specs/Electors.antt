-- An election out of ratifiers: one process of it, and its protocol.
use Rattle.std.specs.Prelude.{ℕ, Bool}
use Rattle.bus_register.specs.Protocol.{Protocol}
use Rattle.bus_adoptcommit.specs.declared.verdicts.Verdict.{Verdict}
use Rattle.bus_coinconc.specs.Conciliator.{ConciliatorState}
use Rattle.bus_binconsensus.specs.Decisions.{decisions}
use Rattle.bus_binconsensus.specs.Objects.{Decider}
use Rattle.bus_ownerbits.specs.Election.{Electing}
use Rattle.bus_ownerbits.specs.ElectionKeeps.{election_protocol}
use Rattle.bus_ownerbits.specs.Sizes.{decision_cost}

-- one process in an election over ratifiers with local states of type S
abbrev pub Elector : Type 0 → Type 0
Elector S = Electing (Decider S ConciliatorState)

-- the protocol of such an election, of so many rounds for each bit
abbrev pub elections : {S : Type 0} → Protocol S Bool Verdict → ℕ
    → Protocol (Elector S) (Unit {0}) ℕ
elections P rounds = election_protocol (decisions P) (decision_cost P.steps) rounds

-- Where an election asks for a random word: in a conciliator alone.
use Rattle.std.specs.Prelude.{◌≡◌, ℕ, Bool}
use Rattle.bus_register.specs.Protocol.{Protocol}
use Rattle.bus_adoptcommit.specs.declared.verdicts.Verdict.{Verdict}
use Rattle.bus_binconsensus.specs.Objects.{Decider, decide_protocol}
use Rattle.bus_ownerbits.specs.Sizes.{decision_cost}
use Rattle.bus_ownerbits.specs.Election.{Electing}
use Rattle.bus_ownerbits.specs.ElectionKeeps.{election_protocol}
use Rattle.bus_ownerbits.specs.ElectionNames.{calls_of}

-- an election asks where its machine says so
abbrev pub AsksAsTold : {S T : Type 0} → Protocol S Bool Verdict → Protocol T Bool Bool → Type 0
AsksAsTold {S = S} {T = T} P C =
    (rounds : ℕ) (s : Electing (Decider S T))
    → (election_protocol (decide_protocol P C) (decision_cost P.steps) rounds).wants_word s
    ≡ calls_of C s

-- A binary decision out of ratifiers, the conciliator and the fallback word, as one protocol.
use Rattle.std.specs.Prelude.{ℕ, Bool}
use Rattle.bus_register.specs.Protocol.{Protocol}
use Rattle.bus_adoptcommit.specs.declared.verdicts.Verdict.{Verdict}
use Rattle.bus_coinconc.specs.Conciliator.{ConciliatorState}
use Rattle.bus_coinconc.specs.ConciliatorProtocol.{conciliator_protocol}
use Rattle.bus_binconsensus.specs.Objects.{Decider, decide_protocol}

-- of so many rounds
abbrev pub decisions : {S : Type 0} → Protocol S Bool Verdict → ℕ
    → Protocol (Decider S ConciliatorState) Bool Bool
decisions P = decide_protocol P conciliator_protocol

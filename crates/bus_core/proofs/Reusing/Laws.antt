-- The law of the elections that a participant takes part in, over any ratifier.
use Rattle.std.proofs.Common.{◌≡◌, ℕ, ◌≤◌, Bool, false, Option, refl, arith}
use Rattle.bus_register.specs.declared.kinds.Kind.{Kind}
use Rattle.bus_register.specs.declared.registers.Op.{Op}
use Rattle.bus_register.specs.Protocol.{Protocol, Laws}
use Rattle.bus_adoptcommit.specs.Agreement.{Legal}
use Rattle.bus_adoptcommit.specs.declared.verdicts.Verdict.{Verdict}
use Rattle.bus_binconsensus.specs.DecideLaw.{DecideLaw}
use Rattle.bus_binconsensus.proofs.DecideIsLawful.{decide_law}
use Rattle.bus_binconsensus.specs.Objects.{decide_op, decide_fed, decide_protocol}
use Rattle.bus_coinconc.specs.Conciliation.{Conciles}
use Rattle.bus_coinconc.specs.Conciliator.{conciliator_op, conciliator_fed}
use Rattle.bus_coinconc.proofs.ConciliatorLaws.{conciliator_laws}
use Rattle.bus_coinconc.specs.ConciliatorProtocol.{conciliator_protocol}
use Rattle.bus_ownerbits.specs.Election.{election_op, election_fed}
use Rattle.bus_ownerbits.specs.OneOwner.{OneOwner}
use Rattle.bus_ownerbits.proofs.ElectionIsLawful.{election_laws}
use Rattle.bus_ownerbits.specs.Sizes.{decision_cost}
use Rattle.bus_tenure.specs.Elections.{elections, election_with}
use Rattle.bus_core.proofs.Reusing.Keeps.{ElectionsKeep}

module _ {S : Type 0} (kind : S → Option Kind) (op : S → ℕ → Option Op) (fed : S → ℕ → ℕ → S)
    (P : Protocol S Bool Verdict) (laws : Laws op fed P Legal)
    (wordless : (s : S) → P.wants_word s ≡ false) where
  law : DecideLaw op fed P conciliator_op conciliator_fed conciliator_protocol
  law = decide_law op fed P laws wordless conciliator_op conciliator_fed conciliator_protocol
      Conciles conciliator_laws (λ ins outs o. o.valid) (λ n. refl)

  -- a decision takes no more steps than it costs
  cheap : (rounds n : ℕ)
      → (decide_protocol P conciliator_protocol rounds).steps n ≤ decision_cost P.steps rounds n
  cheap rounds n = let e = law.steps rounds n in omega arith

  elections_law : (rounds : ℕ)
      → Laws (election_op (decide_op op conciliator_op))
      (election_fed (decide_protocol P conciliator_protocol)
      (decide_fed P conciliator_protocol fed conciliator_fed)) (elections P rounds) OneOwner
  elections_law rounds = election_laws (decide_op op conciliator_op)
      (decide_fed P conciliator_protocol fed conciliator_fed)
      (decide_protocol P conciliator_protocol) (decision_cost P.steps) law.laws cheap rounds

  pub elections_keep : ElectionsKeep (election_with kind op fed P)
      (λ x. (elections P x.rounds).width x.senders)
      (λ x me. (elections P x.rounds).Belongs x.senders me)
  elections_keep = record {
    starts =
        λ x me at below few. ((elections_law x.rounds).starts x.senders me at tt below few).belongs;
    above = λ x me at e word o b i.
        ((elections_law x.rounds).goes x.senders me at e 0 word o b i).above;
    below = λ x me at e word o b i.
        ((elections_law x.rounds).goes x.senders me at e 0 word o b i).below;
    goes = λ x me at e got word o b i.
        ((elections_law x.rounds).goes x.senders me at e got word o b i).belongs;
  }

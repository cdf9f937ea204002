-- The law of the elections that a sender takes part in, over any ratifier.
use Rattle.std.proofs.Common.{◌≡◌, ℕ, ◌-◌, ◌≤◌, Bool, true, false, Option, Some, None, IsSome}
use Rattle.std.proofs.Common.{refl, sym, ◌∙◌, arith}
use Rattle.bus_register.specs.declared.registers.Op.{Op}
use Rattle.bus_register.specs.Protocol.{Protocol, Laws}
use Rattle.bus_adoptcommit.specs.Agreement.{Legal}
use Rattle.bus_adoptcommit.specs.declared.verdicts.Verdict.{Verdict}
use Rattle.bus_binconsensus.specs.DecideLaw.{DecideLaw}
use Rattle.bus_binconsensus.proofs.DecideIsLawful.{decide_law}
use Rattle.bus_binconsensus.specs.Objects.{decide_op, decide_fed, decide_protocol}
use Rattle.bus_coinconc.specs.Conciliation.{Conciles}
use Rattle.bus_coinconc.specs.Conciliator.{conciliator_op, conciliator_fed}
use Rattle.bus_coinconc.proofs.ConciliatorLaws.{conciliator_laws}
use Rattle.bus_coinconc.specs.ConciliatorProtocol.{conciliator_protocol}
use Rattle.bus_ownerbits.specs.Election.{election_op, election_fed}
use Rattle.bus_ownerbits.specs.OneOwner.{OneOwner}
use Rattle.bus_ownerbits.proofs.ElectionIsLawful.{election_laws}
use Rattle.bus_ownerbits.proofs.ElectionSteps.{turns_after}
use Rattle.bus_ownerbits.specs.Sizes.{decision_cost}
use Rattle.bus_tenure.specs.Elections.{Elector, ElectorKeeps, elections}

some_of : (x : Option Op) → IsSome x → (o : Op) × (x ≡ Some o)
some_of None h = absurd (let q : false ≡ true = h in cc)
some_of (Some o) h = (o, refl)

module _ {S : Type 0} (op : S → ℕ → Option Op) (fed : S → ℕ → ℕ → S) (P : Protocol S Bool Verdict)
    (laws : Laws op fed P Legal) (wordless : (s : S) → P.wants_word s ≡ false) where
  law : DecideLaw op fed P conciliator_op conciliator_fed conciliator_protocol
  law = decide_law op fed P laws wordless conciliator_op conciliator_fed conciliator_protocol
      Conciles conciliator_laws (λ ins outs o. o.valid) (λ n. refl)

  -- a decision takes no more steps than it costs
  cheap : (rounds n : ℕ)
      → (decide_protocol P conciliator_protocol rounds).steps n ≤ decision_cost P.steps rounds n
  cheap rounds n = let e = law.steps rounds n in omega arith

  pub elections_law : (rounds : ℕ)
      → Laws (election_op (decide_op op conciliator_op))
      (election_fed (decide_protocol P conciliator_protocol)
      (decide_fed P conciliator_protocol fed conciliator_fed)) (elections P rounds) OneOwner
  elections_law rounds = election_laws (decide_op op conciliator_op)
      (decide_fed P conciliator_protocol fed conciliator_fed)
      (decide_protocol P conciliator_protocol) (decision_cost P.steps) law.laws cheap rounds

  -- a step stays in the row, and after it the election has begun
  pub keeps_after : (rounds n me at : ℕ) (e : Elector S) (got word : ℕ)
      → ElectorKeeps P rounds n me at e → IsSome (election_op (decide_op op conciliator_op) e word)
      → ((o : ℕ)
      → (elections P rounds).output (election_fed (decide_protocol P conciliator_protocol)
      (decide_fed P conciliator_protocol fed conciliator_fed) e got word) ≡ Some o → o ≡ me)
      → ElectorKeeps P rounds n me at (election_fed (decide_protocol P conciliator_protocol)
      (decide_fed P conciliator_protocol fed conciliator_fed) e got word)
  keeps_after rounds n me at e got word b h unlost =
      let o = some_of (election_op (decide_op op conciliator_op) e word) h in
      let goes = (elections_law rounds).goes n me at e got word o.0 b.belongs o.1 in
      record {
        belongs = goes.belongs;
        unbegun = λ f. absurd (let g = sym goes.begun ∙ f in cc g);
        unlost = unlost;
      }

  -- a step takes one turn
  pub turns_fall : (e : Elector S) (got word : ℕ)
      → (election_fed (decide_protocol P conciliator_protocol)
      (decide_fed P conciliator_protocol fed conciliator_fed) e got word).turns ≡ e.turns - 1
  turns_fall e got word = turns_after (decide_op op conciliator_op)
      (decide_fed P conciliator_protocol fed conciliator_fed)
      (decide_protocol P conciliator_protocol) (decision_cost P.steps) law.laws cheap 1 e got word

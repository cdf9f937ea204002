use Rattle.std.proofs.Common.{ℕ, ◌≤◌, subst, arith, refl}
use Rattle.bus_binconsensus.specs.DecideLaw.{DecideLaw}
use Rattle.bus_binconsensus.proofs.DecideIsLawful.{decide_law}
use Rattle.bus_binconsensus.specs.Objects.{decide_op, decide_fed, decide_protocol}
use Rattle.bus_coinconc.specs.Conciliation.{Conciles}
use Rattle.bus_coinconc.specs.Conciliator.{conciliator_op, conciliator_fed}
use Rattle.bus_coinconc.proofs.ConciliatorLaws.{conciliator_laws}
use Rattle.bus_coinconc.specs.ConciliatorProtocol.{conciliator_protocol}
use Rattle.bus_ownerbits.specs.ElectionKeeps.{StageStands}
use Rattle.bus_ownerbits.proofs.ElectionIsLawful.{election_laws, owner_below, searches, last_bit}
use Rattle.bus_ownerbits.proofs.ElectionSteps.{turns_after, busy}
use Rattle.bus_ownerbits.proofs.ElectionAsking.{asks_as_told}
use Rattle.bus_ownerbits.specs.Sizes.{decision_cost}
use Rattle.bus_ownerbits.proofs.laws.election_is_lawful.Goals as goal

pub returns-clause-lawful : goal.returns-clause-lawful
returns-clause-lawful g c =
    let P = g.Q.Ratifier.protocol in
    let law : DecideLaw g.Q.Machine.op g.Q.Machine.fed P conciliator_op conciliator_fed
    conciliator_protocol =
    decide_law g.Q.Machine.op g.Q.Machine.fed P g.met.Q.Ratifier.laws g.met.Q.Ratifier.wordless
    conciliator_op conciliator_fed conciliator_protocol Conciles conciliator_laws
    (λ ins outs o. o.valid) (λ n. refl) in
    let op = decide_op g.Q.Machine.op conciliator_op in
    let fed = decide_fed P conciliator_protocol g.Q.Machine.fed conciliator_fed in
    let D = decide_protocol P conciliator_protocol in
    let cost = decision_cost P.steps in
    let cheap : (r n : ℕ) → (D r).steps n ≤ cost r n =
    λ r n. let e = law.steps r n in omega arith in
    record {
      laws = election_laws op fed D cost law.laws cheap;
      below = owner_below op fed D cost law.laws cheap;
      found = λ rounds n at words locals k p i s here e.
          (subst (λ z. StageStands (D rounds) k.visits n at words p z s) e
          (k.stands p s here).stage).0;
      fits = λ rounds n at words locals k p d s here e.
          (subst (λ z. StageStands (D rounds) k.visits n at words p z s) e
          (k.stands p s here).stage).3;
      searches = searches D cost;
      last_bit = last_bit D cost;
      turns_start = λ rounds n me at. refl;
      turns_fall = λ s got word. turns_after op fed D cost law.laws cheap 1 s got word;
      turns_last = λ rounds n me at s b. let e = b.enough in omega arith;
      turns_enough = λ rounds n me at s word o b q.
          busy op fed D cost law.laws cheap rounds n me at s b s.stage word o refl q;
    }

pub returns-clause-asks : goal.returns-clause-asks
returns-clause-asks g c =
    asks_as_told g.Q.Ratifier.protocol conciliator_protocol g.met.Q.Ratifier.wordless

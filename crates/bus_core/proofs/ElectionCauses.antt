-- Each step of an election has its cause.
use Rattle.std.proofs.Common.{◌≡◌, ℕ, inl, inr, Bool, true, Option, Some, None, IfSome, refl, sym}
use Rattle.std.proofs.Common.{◌∙◌, ap, subst}
use Rattle.bus_register.specs.declared.kinds.Kind.{Kind}
use Rattle.bus_register.specs.Protocol.{Protocol}
use Rattle.bus_adoptcommit.specs.declared.verdicts.Verdict.{Verdict}
use Rattle.bus_binconsensus.specs.declared.objects.Object.{Object}
use Rattle.bus_binconsensus.specs.declared.objects.Object.TheVariants.{Ratify, Concile, Fall}
use Rattle.bus_binconsensus.specs.Fallback.{kind_from}
use Rattle.bus_binconsensus.proofs.ObjectPlaces.{falls_last}
use Rattle.bus_binconsensus.specs.Objects.{Decider, object_kind, decide_protocol}
use Rattle.bus_walkcoin.specs.declared.coins.Phase.{Phase}
use Rattle.bus_walkcoin.specs.declared.coins.Phase.TheVariants.{Vote, ReadVotes, Answered}
use Rattle.bus_walkcoin.specs.Coin.{CoinState, kind_at as coin_kind_at}
use Rattle.bus_coinconc.specs.declared.conciliators.Stage.{Stage as ConciliatorStage}
use Rattle.bus_coinconc.specs.declared.conciliators.Stage.TheVariants.{SetMark, ReadOtherMark}
use Rattle.bus_coinconc.specs.declared.conciliators.Stage.TheVariants.{AskCoin}
use Rattle.bus_coinconc.specs.declared.conciliators.Stage.TheVariants as conciliator_stage
use Rattle.bus_coinconc.specs.Conciliator.{ConciliatorState, conciliator_kind}
use Rattle.bus_coinconc.specs.Conciliator.{kind_at as conciliator_kind_at}
use Rattle.bus_coinconc.specs.ConciliatorProtocol.{conciliator_protocol}
use Rattle.bus_ownerbits.specs.declared.stages.Stage.{Stage}
use Rattle.bus_ownerbits.specs.declared.stages.Stage.TheVariants.{Announce, Propose, Search, Alone}
use Rattle.bus_ownerbits.specs.Election.{election_kind, kind_at as election_kind_at}
use Rattle.bus_ownerbits.specs.ElectionKeeps.{StageBelongs, begun_at}
use Rattle.bus_ownerbits.proofs.ElectionIsLawful.{searches}
use Rattle.bus_ownerbits.specs.Sizes.{decision_cost}
use Rattle.bus_tenure.specs.declared.phases.Phase.TheVariants.{Electing}
use Rattle.bus_tenure.specs.Core.{Core, row_at}
use Rattle.bus_tenure.specs.Causes.{IsDeciding, IsInRatifier, IsInConciliator, IsAtFallback}
use Rattle.bus_tenure.specs.Elections.{Elector, ElectorKeeps, elections}
use Rattle.bus_tenure.specs.Keeping.{SenderInvariant, PhaseKeeps, IsElecting}
use Rattle.bus_tenure.proofs.Caused.{IsTimely}
use Rattle.bus_core.specs.Causes.{HasCause, StandsInside}
use Rattle.bus_core.specs.Senders.{Sender}

module _ {S : Type 0} (P : Protocol S Bool Verdict) (v : Sender (Elector S)) (t : ℕ) (e : Elector S)
    (at : v.core.phase ≡ Electing t e)
    (unended : (elections P v.core.layout.rounds).output e ≡ None)
    (k : SenderInvariant ((elections P v.core.layout.rounds).width v.core.layout.senders)
    (ElectorKeeps P v.core.layout.rounds v.core.layout.senders v.core.me) v.core)
    (inside : StandsInside v) where
  -- what it holds
  abbrev c : Core (Elector S)
  c = v.core

  keeps : ElectorKeeps P c.layout.rounds c.layout.senders c.me (row_at c.layout t) e
  keeps =
      let h : IsElecting (ElectorKeeps P c.layout.rounds c.layout.senders c.me) c t e =
      subst (PhaseKeeps (ElectorKeeps P c.layout.rounds c.layout.senders c.me) c) at k.phase in
      h.belongs

  stage_is : (stage : Stage (Decider S ConciliatorState)) → e.stage ≡ stage
      → StageBelongs (decide_protocol P conciliator_protocol) c.layout.rounds c.layout.senders c.me
      (row_at c.layout t) stage e
  stage_is stage q = subst (λ z. StageBelongs (decide_protocol P conciliator_protocol)
      c.layout.rounds c.layout.senders c.me (row_at c.layout t) z e) q keeps.belongs.stage

  module _ (d : Decider S ConciliatorState) (proposes : e.stage ≡ Propose d) where
    deciding : IsDeciding P c d
    deciding = record {
      tenure = t;
      election = e;
      elects = at;
      proposes = proposes;
      unended = unended;
    }

    ratifier_cause : (q : S) → d.object ≡ Ratify q → (k : Kind) → IsTimely P q k → HasCause P v k
    ratifier_cause q here k (inl x) = subst (HasCause P v) (sym x.0) (
      inside,
      record { decision = d; deciding = deciding; ratifier = q; here = here; stands = x.1 },
    )
    ratifier_cause q here k (inr x) =
        let is : IsInRatifier P c true = record {
          decision = d;
          deciding = deciding;
          ratifier = q;
          here = here;
          stands = x.1;
        } in
        elim x.0 [
          | inl y ↦ subst (HasCause P v) (sym y) (inside, is)
          | inr y ↦ elim y [
            | inl z ↦ subst (HasCause P v) (sym z) (inside, is)
            | inr z ↦ subst (HasCause P v) (sym z) (inside, is)
          ]
        ]

    by_named : (q : S) → d.object ≡ Ratify q → (x : Option Kind)
        → ((k : Kind) → x ≡ Some k → IsTimely P q k) → IfSome x (HasCause P v)
    by_named q here None timely = tt
    by_named q here (Some k) timely = ratifier_cause q here k (timely k refl)

    by_coin : (coin : CoinState) → IsInConciliator P c (AskCoin coin) → (phase : Phase)
        → coin.phase ≡ phase → IfSome (coin_kind_at phase) (HasCause P v)
    by_coin coin asks Vote stands = (inside, record { coin = coin; asks = asks; stands = stands })
    by_coin coin asks ReadVotes stands = (
      inside,
      record { coin = coin; asks = asks; stands = stands },
    )
    by_coin coin asks (Answered answer) stands = tt

    by_mark : (s : ConciliatorState) → d.object ≡ Concile s → (at_stage : ConciliatorStage)
        → s.stage ≡ at_stage → IfSome (conciliator_kind_at at_stage) (HasCause P v)
    by_mark s here SetMark stands = (
      inside,
      record { decision = d; deciding = deciding; conciliator = s; here = here; stands = stands },
    )
    by_mark s here ReadOtherMark stands = (
      inside,
      record { decision = d; deciding = deciding; conciliator = s; here = here; stands = stands },
    )
    by_mark s here conciliator_stage.Alone stands = tt
    by_mark s here (AskCoin coin) stands = by_coin coin record {
      decision = d;
      deciding = deciding;
      conciliator = s;
      here = here;
      stands = stands;
    } coin.phase refl

    by_fallback : IsAtFallback P c → (x : Option Bool) → IfSome (kind_from x) (HasCause P v)
    by_fallback is None = (inside, is)
    by_fallback is (Some decided) = tt

    by_object : (kind : S → Option Kind) → ((s : S) (k : Kind) → kind s ≡ Some k → IsTimely P s k)
        → (x : Object S ConciliatorState) → d.object ≡ x
        → IfSome (object_kind kind conciliator_kind x) (HasCause P v)
    by_object kind timely (Ratify q) here = by_named q here (kind q) (timely q)
    by_object kind timely (Concile s) here = by_mark s here s.stage refl
    by_object kind timely (Fall f) here = by_fallback
        record {
          decision = d;
          deciding = deciding;
          fallback = f;
          here = here;
          last = falls_last P conciliator_protocol c.layout.rounds c.layout.senders c.me _ d f
              (stage_is (Propose d) proposes).1 here;
        }
        f.decided

  by_stage : (kind : S → Option Kind) → ((s : S) (k : Kind) → kind s ≡ Some k → IsTimely P s k)
      → (stage : Stage (Decider S ConciliatorState)) → e.stage ≡ stage
      → IfSome (election_kind_at (λ d. object_kind kind conciliator_kind d.object) stage)
      (HasCause P v)
  by_stage kind timely Announce q = (
    inside,
    record { tenure = t; starts = at ∙ ap (Electing t) (keeps.unbegun (ap begun_at q)) },
  )
  by_stage kind timely (Propose d) q = by_object d q kind timely d.object refl
  by_stage kind timely (Search i) q =
      let w = searches (decide_protocol P conciliator_protocol) (decision_cost P.steps)
      c.layout.rounds c.layout.senders c.me (row_at c.layout t) i e keeps.belongs q in (
        inside,
        record {
          tenure = t;
          election = e;
          number = i;
          elects = at;
          searches = q;
          below = (stage_is (Search i) q).0;
          some_decided = w.2;
          some_left = w.1;
          unfit = w.0;
        },
      )
  by_stage kind timely Alone q = tt

  pub election_cause : (kind : S → Option Kind)
      → ((s : S) (k : Kind) → kind s ≡ Some k → IsTimely P s k) → (x : Option Kind)
      → x ≡ election_kind (λ d. object_kind kind conciliator_kind d.object) e
      → IfSome x (HasCause P v)
  election_cause kind timely x is =
      subst (λ z. IfSome z (HasCause P v)) (sym is) (by_stage kind timely e.stage refl)

-- What the election of any ratifier has, so that a bus goes by it.
use Rattle.std.proofs.Common.{◌≡◌, ℕ, Bool, false, Option, Some, None, is_some, inl, inr, refl}
use Rattle.std.proofs.Common.{arith}
use Rattle.std.proofs.lemmas.Grind.{common_steps}
use Rattle.bus_register.specs.declared.kinds.Kind.{Kind}
use Rattle.bus_register.specs.declared.kinds.Kind.TheVariants as kind
use Rattle.bus_register.specs.declared.registers.Op.{Op}
use Rattle.bus_register.specs.Protocol.{Protocol, Laws}
use Rattle.bus_adoptcommit.specs.Kinds.{IsOfRatifier}
use Rattle.bus_adoptcommit.specs.declared.verdicts.Verdict.{Verdict}
use Rattle.bus_walkcoin.specs.declared.coins.Phase.{Phase as CoinPhase}
use Rattle.bus_walkcoin.specs.declared.coins.Phase.TheVariants as coin
use Rattle.bus_walkcoin.specs.Coin.{kind_at as coin_kind_at}
use Rattle.bus_coinconc.specs.Conciliator.{ConciliatorState, conciliator_kind}
use Rattle.bus_coinconc.specs.Conciliator.{kind_at as concile_kind_at}
use Rattle.bus_coinconc.specs.declared.conciliators.Stage.{Stage as ConcileStage}
use Rattle.bus_coinconc.specs.declared.conciliators.Stage.TheVariants as concile
use Rattle.bus_coinconc.specs.Private.ConciliatorSteps.{conciliator_names_each_step}
use Rattle.bus_binconsensus.specs.declared.objects.Object.{Object}
use Rattle.bus_binconsensus.specs.declared.objects.Object.TheVariants.{Ratify, Concile, Fall}
use Rattle.bus_binconsensus.specs.Fallback as fallback
use Rattle.bus_binconsensus.specs.Private.ObjectNames.{objects_named}
use Rattle.bus_binconsensus.specs.Objects.{Decider, object_kind}
use Rattle.bus_ownerbits.specs.Election.{kind_at as election_kind_at}
use Rattle.bus_ownerbits.specs.OneOwner.{OneOwner}
use Rattle.bus_ownerbits.specs.Private.ElectionNamed.{election_named}
use Rattle.bus_ownerbits.specs.declared.stages.Stage.{Stage}
use Rattle.bus_ownerbits.specs.declared.stages.Stage.TheVariants as stage
use Rattle.bus_tenure.specs.Core.{Election, Layout}
use Rattle.bus_tenure.specs.Elections.{election_with, elections, layout_with}
use Rattle.bus_world.proofs.EventTrails.{announce_first}

pub record Serves {E : Type 0} (X : Election E) (P : Protocol E (Unit {0}) ℕ) (x : Layout) :
    Type 0 where
  pub laws : Laws X.op X.fed P OneOwner
  pub width : x.width ≡ P.width x.senders
  pub starts : (n me at : ℕ) → X.started n me x.rounds at ≡ P.started n me tt at
  pub owner_is : (e : E) → X.owner e ≡ P.output e
  pub named : (e : E) (word : ℕ) → is_some (X.kind_of e) ≡ is_some (X.op e word)
  pub announces : (e : E) → P.has_begun e ≡ false → X.kind_of e ≡ Some kind.Announce
  pub apart : (e : E) → X.kind_of e ≡ Some kind.TakePage → ⊥

-- ---- no step of an election takes the page
takes_coin : (ph : CoinPhase) → coin_kind_at ph ≡ Some kind.TakePage → ⊥
takes_coin coin.Vote e = cc
takes_coin coin.ReadVotes e = cc
takes_coin (coin.Answered answer) e = cc

takes_conciliator : (s : ConcileStage) → concile_kind_at s ≡ Some kind.TakePage → ⊥
takes_conciliator concile.SetMark e = cc
takes_conciliator concile.ReadOtherMark e = cc
takes_conciliator concile.Alone e = cc
takes_conciliator (concile.AskCoin s) e = takes_coin s.phase e

takes_fallback : (decided : Option Bool) → fallback.kind_from decided ≡ Some kind.TakePage → ⊥
takes_fallback None e = cc
takes_fallback (Some v) e = cc

takes_ratifier : IsOfRatifier kind.TakePage → ⊥
takes_ratifier (inl e) = cc
takes_ratifier (inr (inl e)) = cc
takes_ratifier (inr (inr (inl e))) = cc
takes_ratifier (inr (inr (inr e))) = cc

module _ {S : Type 0} (kind_of : S → Option Kind)
    (own_kinds : (s : S) (k : Kind) → kind_of s ≡ Some k → IsOfRatifier k) where
  takes_object : (o : Object S ConciliatorState)
      → object_kind kind_of conciliator_kind o ≡ Some kind.TakePage → ⊥
  takes_object (Ratify q) e = takes_ratifier (own_kinds q kind.TakePage e)
  takes_object (Concile s) e = takes_conciliator s.stage e
  takes_object (Fall f) e = takes_fallback f.decided e

  takes_stage : (s : Stage (Decider S ConciliatorState))
      → election_kind_at (λ d. object_kind kind_of conciliator_kind d.object) s ≡ Some kind.TakePage
      → ⊥
  takes_stage stage.Announce e = cc
  takes_stage (stage.Propose d) e = takes_object d.object e
  takes_stage (stage.Search i) e = cc
  takes_stage stage.Alone e = cc

-- the election of any ratifier, of any sizes
module _ {S : Type 0} (kind_of : S → Option Kind) (op : S → ℕ → Option Op) (fed : S → ℕ → ℕ → S)
    (P : Protocol S Bool Verdict)
    (named : (s : S) (word : ℕ) → is_some (kind_of s) ≡ is_some (op s word))
    (own_kinds : (s : S) (k : Kind) → kind_of s ≡ Some k → IsOfRatifier k)
    (senders rounds rows capacity passers batch : ℕ)
    (laws : Laws (election_with kind_of op fed P).op (election_with kind_of op fed P).fed
    (elections P rounds) OneOwner) where
  pub serves : Serves (election_with kind_of op fed P) (elections P rounds)
      (layout_with P senders rounds rows capacity passers batch)
  serves = record {
    laws = laws;
    width = refl;
    starts = λ n me at. refl;
    owner_is = λ e. refl;
    named = grind (arith, common_steps, election_named, objects_named, conciliator_names_each_step);
    announces = λ e begun.
        announce_first (λ d. object_kind kind_of conciliator_kind d.object) e.stage begun;
    apart = λ e takes. takes_stage kind_of own_kinds e.stage takes;
  }

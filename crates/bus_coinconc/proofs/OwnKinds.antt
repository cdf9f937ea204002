-- A conciliator's steps are of its four kinds.
use Rattle.std.specs.Prelude.{◌≡◌, Some}
use Rattle.std.proofs.Common.{inl, inr, sym}
use Rattle.std.proofs.lemmas.Option.{same_Some}
use Rattle.bus_register.specs.declared.kinds.Kind.{Kind}
use Rattle.bus_walkcoin.specs.declared.coins.Phase.{Phase}
use Rattle.bus_walkcoin.specs.declared.coins.Phase.TheVariants.{Vote, ReadVotes, Answered}
use Rattle.bus_walkcoin.specs.Coin as coin
use Rattle.bus_coinconc.specs.declared.conciliators.Stage.{Stage}
use Rattle.bus_coinconc.specs.declared.conciliators.Stage.TheVariants.{SetMark, ReadOtherMark}
use Rattle.bus_coinconc.specs.declared.conciliators.Stage.TheVariants.{Alone, AskCoin}
use Rattle.bus_coinconc.specs.Conciliator.{ConciliatorState, kind_at, conciliator_kind}
use Rattle.bus_coinconc.specs.ConciliatorKinds.{IsOfConciliator}

coin_named : (ph : Phase) (k : Kind) → coin.kind_at ph ≡ Some k → IsOfConciliator k
coin_named Vote k e = inr (inr (inl (sym (same_Some _ _ e))))
coin_named ReadVotes k e = inr (inr (inr (sym (same_Some _ _ e))))
coin_named (Answered answer) k e = absurd cc

named_at : (stage : Stage) (k : Kind) → kind_at stage ≡ Some k → IsOfConciliator k
named_at SetMark k e = inl (sym (same_Some _ _ e))
named_at ReadOtherMark k e = inr (inl (sym (same_Some _ _ e)))
named_at Alone k e = absurd cc
named_at (AskCoin c) k e = coin_named c.phase k e

-- its steps are of these kinds
pub conciliator_own_kinds : (s : ConciliatorState) (k : Kind) → conciliator_kind s ≡ Some k
    → IsOfConciliator k
conciliator_own_kinds s k e = named_at s.stage k e

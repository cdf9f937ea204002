-- Each single step of a conciliator.
use Rattle.std.proofs.Common.{◌≡◌, ℕ, is_some, refl}
use Rattle.bus_walkcoin.specs.Private.CoinLaws.{coin_names_each_step}
use Rattle.bus_coinconc.specs.declared.conciliators.Stage.{Stage}
use Rattle.bus_coinconc.specs.declared.conciliators.Stage.TheVariants.{SetMark, ReadOtherMark}
use Rattle.bus_coinconc.specs.declared.conciliators.Stage.TheVariants.{Alone, AskCoin}
use Rattle.bus_coinconc.specs.Conciliator.{ConciliatorState, kind_at, op_at, conciliator_kind}
use Rattle.bus_coinconc.specs.Conciliator.{conciliator_op}

names_at : (st : Stage) (s : ConciliatorState) (word : ℕ)
    → is_some (kind_at st) ≡ is_some (op_at st s word)
names_at SetMark s word = refl
names_at ReadOtherMark s word = refl
names_at Alone s word = refl
names_at (AskCoin c) s word = coin_names_each_step c word

pub conciliator_names_each_step : (s : ConciliatorState) (word : ℕ)
    → is_some (conciliator_kind s) ≡ is_some (conciliator_op s word)
conciliator_names_each_step s word = names_at s.stage s word

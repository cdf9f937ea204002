use Rattle.std.proofs.Common.{refl}
use Rattle.bus_replica.proofs.FunctionLaws.{folds_same}
use Rattle.bus_replica.proofs.RecordedLaws.{led_functions}
use Rattle.bus_replica.proofs.laws.equal_operations_give_equal_states.Goals as goal

pub returns : goal.returns
returns g c = λ replayed items first other state state' F is is' leads leads'.
    folds_same g.S.State.is_first g.S.State.applies F first other
    ((led_functions g.S.State.is_first g.S.State.applies replayed F).one_first first other is is')
    items items state state' refl leads leads'

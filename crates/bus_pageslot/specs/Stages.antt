-- Who leaves the stage of an open tenure.
use Rattle.std.specs.Prelude.{◌≡◌, ℕ, ◌+◌, ◌*◌, Some}
use Rattle.bus_core.specs.Senders.{Sender}
use Rattle.bus_core.specs.Table.{line_now}
use Rattle.bus_register.specs.declared.kinds.Kind.TheVariants.{TakePage}
use Rattle.bus_register.specs.declared.registers.Op.{Op}
use Rattle.bus_register.specs.declared.registers.Op.TheVariants.{Store}
use Rattle.bus_tenure.specs.Core.{Election, stage_at}
use Rattle.bus_tenure.specs.declared.phases.Phase.TheVariants.{Electing}

-- the step takes the page of the tenure, for a sender that the tenure's election chose: it stores
-- the odd stage
pub record TakesPageOf {E : Type 0} (X : Election E) (d : Sender E) (t : ℕ) (o : Op) : Type 0 where
  pub election : E
  pub elects : d.core.phase ≡ Electing t election
  pub chosen : X.owner election ≡ Some d.core.me
  pub kind : (line_now X d).kind ≡ Some TakePage
  pub step : o ≡ Store record { 0 = stage_at } (2 * t + 1)

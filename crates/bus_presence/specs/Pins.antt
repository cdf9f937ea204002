-- A sender's pin of a tenure, one step at a time: it stores its presence, then loads the stage, and
-- stands in the tenure where the stage is still that tenure's; at the end it clears its presence.
use Rattle.std.specs.Prelude.{ℕ, ◌+◌, ◌/◌, ◌<◌, Option, Some, None, ◌==◌, if◌then◌else◌}
use Rattle.bus_register.specs.declared.limits.TheConstants.{TENURES}
use Rattle.bus_register.specs.declared.registers.Op.{Op}
use Rattle.bus_register.specs.declared.registers.Op.TheVariants.{Load, Store}
use Rattle.bus_presence.specs.declared.pins.Pin.{Pin}
use Rattle.bus_presence.specs.declared.pins.Pin.TheVariants.{Away, Announcing, Validating, Pinned}
use Rattle.bus_presence.specs.declared.pins.Pin.TheVariants.{Unpinning, Invalidated}

-- the places of its presence and of the stage, and how far its pin has come
pub record Pinning : Type 0 where
  pub word : ℕ
  pub stage : ℕ
  pub pin : Pin

-- the number that its presence is
abbrev pub number_shown : Pin → ℕ
number_shown Away = 0
number_shown (Announcing t) = 0
number_shown (Validating t) = 1 + t
number_shown (Pinned t) = 1 + t
number_shown (Unpinning t) = 1 + t
number_shown (Invalidated t) = 1 + t

-- the tenure has a number that a presence can show
abbrev pub CanShow : Pin → Type 0
CanShow Away = Unit {0}
CanShow (Announcing t) = t < TENURES
CanShow (Validating t) = t < TENURES
CanShow (Pinned t) = t < TENURES
CanShow (Unpinning t) = t < TENURES
CanShow (Invalidated t) = t < TENURES

abbrev pub step_at : Pin → ℕ → ℕ → Option Op
step_at Away word stage = None
step_at (Announcing t) word stage = Some (Store record { 0 = word } (1 + t))
step_at (Validating t) word stage = Some (Load record { 0 = stage })
step_at (Pinned t) word stage = None
step_at (Unpinning t) word stage = Some (Store record { 0 = word } 0)
step_at (Invalidated t) word stage = Some (Store record { 0 = word } 0)

-- the next step
abbrev pub pin_op : Pinning → Option Op
pin_op v = step_at v.pin v.word v.stage

-- the pin after a step that found this number; the stage of a tenure is twice the tenure, and one
-- more while its page is out
abbrev pub pin_fed : Pin → ℕ → Pin
pin_fed Away got = Away
pin_fed (Announcing t) got = Validating t
pin_fed (Validating t) got = if got / 2 == t then Pinned t else Invalidated t
pin_fed (Pinned t) got = Pinned t
pin_fed (Unpinning t) got = Away
pin_fed (Invalidated t) got = Away

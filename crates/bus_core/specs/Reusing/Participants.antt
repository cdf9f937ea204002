-- Of a sender of a bus whose rows are used again: the words of its bus, and what its own step
-- leaves that depends on what it found. It stores its presence before it enters a tenure, and parts
-- from a tenure that it lost.
use Rattle.std.specs.Prelude.{ℕ, ◌+◌, ◌*◌, ◌/◌, Option, Some, None, nat_le, ◌==◌, if◌then◌else◌}
use Rattle.bus_register.specs.declared.registers.SenderNo.{SenderNo}
use Rattle.bus_presence.specs.Reclamation.{ReclamationSizes}
use Rattle.bus_presence.specs.declared.pins.Pin.{Pin}
use Rattle.bus_presence.specs.declared.pins.Pin.TheVariants.{Away, Announcing, Pinned, Unpinning}
use Rattle.bus_core.specs.declared.limits.TheConstants.{PASSED_APART}
use Rattle.bus_tenure.specs.Core.{Core, Layout, stage_at}
use Rattle.bus_tenure.specs.Situations.{waits}

-- ---- the words
-- Those of a layout, which has a row for each tenure, with so many rows in place of them: the
-- length, the stage, a presence for each sender, the rows, the passed places and the log.
abbrev pub sizes_with : Layout → ℕ → ReclamationSizes
sizes_with x rows = record { at = stage_at; senders = x.senders; rows = rows; width = x.width }

-- where the passed places begin, no two of which share a line of memory
abbrev pub passed_from : Layout → ℕ → ℕ
passed_from x rows = 2 + x.senders + rows * x.width

abbrev pub log_from : Layout → ℕ → ℕ
log_from x rows = 2 + x.senders + rows * x.width + PASSED_APART * x.passers

-- ---- what its own step leaves that depends on what it found
-- a sender that has looked at the stage for the first time finds no tenure left, or enters the one
-- that is open
abbrev pub core_seen : {E : Type 0} → Core E → ℕ → Core E
core_seen c got =
    if waits c got then c
    else (if nat_le c.layout.rows (got / 2) then record c { least = got / 2 } else c)

abbrev pub pin_seen : {E : Type 0} → Core E → ℕ → Pin
pin_seen c got =
    if waits c got then Away
    else (if nat_le c.layout.rows (got / 2) then Away else Announcing (got / 2))

-- who lost the tenure parts from it
abbrev pub pin_elected : {E : Type 0} → Core E → ℕ → Option ℕ → Pin
pin_elected c t None = Pinned t
pin_elected c t (Some o) = if o == c.me then Pinned t else Unpinning t

-- who lost the tenure remembers to whom, until its presence is cleared
abbrev pub lost_elected : {E : Type 0} → Core E → Option SenderNo → Option ℕ → Option SenderNo
lost_elected c l None = l
lost_elected c l (Some o) = if o == c.me then l else Some record { 0 = o }

-- What is seen of a sender from outside, beside its steps and answers.
use Rattle.std.specs.Prelude.{ℕ, Option, Some, None}
use Rattle.bus_presence.specs.declared.pins.Pin.{Pin}
use Rattle.bus_tenure.specs.Core.{Core}
use Rattle.bus_tenure.specs.Seen.{tenure_of}
use Rattle.bus_core.specs.Reusing.Turns.{tenure_begun_by}
use Rattle.bus_core.specs.declared.reuses.Reuse.{Reuse}
use Rattle.bus_core.specs.Senders.{Sender}

-- how far its pin of a tenure has come
abbrev pub pin_of : Option Reuse → Option Pin
pin_of None = None
pin_of (Some r) = Some r.pin

-- the tenure that it has begun: where rows are used again, from the load of the stage that was a
-- tenure's which it may enter
abbrev pub begun_by : {E : Type 0} → Core E → Option Reuse → Option ℕ
begun_by c None = tenure_of c.phase
begun_by c (Some r) = tenure_begun_by c r.pin

abbrev pub tenure_begun : {E : Type 0} → Sender E → Option ℕ
tenure_begun v = begun_by v.core v.reuse

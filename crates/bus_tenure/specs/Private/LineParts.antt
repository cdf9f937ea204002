-- A line of the table of a sender in its tenures, read by its parts: those that no contract cites.
use Rattle.std.specs.Prelude.{ℕ, Option, unwrap_or}
use Rattle.bus_tenure.specs.Core.{Core, Election}
use Rattle.bus_tenure.specs.Situations.{Situation, line_of}
use Rattle.bus_tenure.specs.declared.turns.Turn.{Turn}
use Rattle.bus_tenure.specs.declared.turns.Turn.TheVariants as turn

-- the tenure that is begun
abbrev pub tenure_at : {E : Type 0} → Election E → Core E → Situation E → Option ℕ
tenure_at X c z = (line_of X c z).tenure

-- the owner with which a step ended its election
abbrev pub chosen_at : {E : Type 0} → Election E → Core E → Situation E → ℕ → ℕ → Option ℕ
chosen_at X c z got word = (line_of X c z).chosen got word

-- the answer where no step is due, and Going where one is
abbrev pub rest_at : {E : Type 0} → Election E → Core E → Situation E → Turn
rest_at X c z = unwrap_or (line_of X c z).rest turn.Going

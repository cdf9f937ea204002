-- How many steps on the table's words a seat shows.
use Rattle.std.specs.Prelude.{ℕ, ◌+◌, List, [], ◌∷◌, length}
use Rattle.bus_world.specs.Headline.{Action, HasPut, HasMarked, Stepped}
use Rattle.bus_automaton.specs.SenderTrails.{SenderTrail}
use Rattle.bus_pageslot.specs.declared.rule.View.{View}
use Rattle.bus_pageslot.specs.declared.rule.View.TheVariants.{Maker, Sender, Tap, Meeting, Telling}
use Rattle.bus_pageslot.specs.declared.rule.View.TheVariants.{Spent}

-- among these actions, of which a put and a mark are none
abbrev pub steps_among : List Action → ℕ
steps_among [] = 0
steps_among (HasPut number bytes ∷ more) = steps_among more
steps_among (HasMarked mark ∷ more) = steps_among more
steps_among (Stepped tenure k found chose answer ∷ more) = steps_among more + 1

-- a sender's: of its elections and its page, of its pins, and of its reclamations
abbrev pub steps_in : SenderTrail → ℕ
steps_in t = steps_among t.actions + length t.pins + length t.reclaims

-- those of a view: of a sender its steps, but for its looks, and of a receiver its loads and its
-- stores; a seat that makes others has none
abbrev pub steps_shown : {C : Type 0} → View C → ℕ
steps_shown (Maker x made) = 0
steps_shown (Sender c sender_trail notes) = steps_in sender_trail
steps_shown (Tap x e) = length e.loads
steps_shown (Meeting x e y f) = length e.loads + length f.loads
steps_shown (Telling c sender_trail notes x e) = steps_in sender_trail + length e.loads
steps_shown Spent = 0

-- One turn of one sender: the words, the page, and who took it.
use Rattle.std.specs.Prelude.{ℕ, false, Option, Some, None, List, [], ◌∷◌, ◌++◌, slice_index}
use Rattle.std.specs.Prelude.{slice_set}
use Rattle.bus_register.specs.declared.registers.Op.{Op}
use Rattle.bus_register.specs.Words.{register, after}
use Rattle.bus_tenure.specs.Core.{Core}
use Rattle.bus_tenure.specs.Situations.{PageMove, Stays, Comes, Returns}
use Rattle.bus_tenure.specs.declared.pages.Page.{Page}
use Rattle.bus_tenure.specs.declared.phases.Phase.{Phase}
use Rattle.bus_tenure.specs.declared.phases.Phase.TheVariants as phase
use Rattle.bus_tenure.specs.declared.turns.Turn.{Turn as Answered}
use Rattle.bus_tenure.specs.declared.turns.Turn.TheVariants as turn

-- the words after a step
abbrev pub words_after : List ℕ → Option Op → List ℕ
words_after words None = words
words_after words (Some o) = slice_set words (register o) (after o (slice_index words (register o)))

-- what a step finds
abbrev pub number_found : (ℕ → ℕ) → Option Op → ℕ
number_found words None = 0
number_found words (Some o) = words (register o)

-- ---- the page
-- where it is at home, after it has moved so
abbrev pub home_moved : PageMove → Option Page → Option Page
home_moved Stays home = home
home_moved (Comes t) home = None
home_moved (Returns t reason page) home = Some page

abbrev pub core_with_page : {E : Type 0} → Core E → ℕ → Option Page → Core E
core_with_page c t None = record c { phase = phase.Taken t }
core_with_page c t (Some page) = record c { phase = phase.Holding t page 0 false }

-- the sender, after the page has moved so, which was at home or not
abbrev pub core_moved : {E : Type 0} → PageMove → Option Page → Core E → Core E
core_moved Stays home c = c
core_moved (Comes t) home c = core_with_page c t home
core_moved (Returns t reason page) home c = record c { phase = phase.Giving t reason }

-- of a turn's move the part before its step: a page that is given back goes home, out of the hands
-- of the sender
abbrev pub before_step : PageMove → PageMove
before_step Stays = Stays
before_step (Comes t) = Stays
before_step (Returns t reason page) = Returns t reason page

-- and the part after it: a page that was taken is laid before the sender
abbrev pub after_step : PageMove → PageMove
after_step Stays = Stays
after_step (Comes t) = Comes t
after_step (Returns t reason page) = Stays

-- that part, as the phase shows it that the step has left
abbrev pub laying : {E : Type 0} → Phase E → PageMove
laying phase.Resting = Stays
laying (phase.Electing t e) = Stays
laying (phase.Taken t) = Comes t
laying (phase.Holding t page stored published) = Stays
laying (phase.Giving t reason) = Stays

-- who took the pages, as the answer of a turn tells it
abbrev pub owners_by : Answered → ℕ → List ℕ → List ℕ
owners_by turn.Idle p owners = owners
owners_by turn.Waiting p owners = owners
owners_by turn.Going p owners = owners
owners_by (turn.Lost t o) p owners = owners
owners_by (turn.Own t) p owners = owners ++ p ∷ []
owners_by (turn.Delivered t first last) p owners = owners
owners_by (turn.Left t) p owners = owners
owners_by turn.Full p owners = owners
owners_by turn.Closed p owners = owners
owners_by turn.Spent p owners = owners
owners_by (turn.Behind t s) p owners = owners

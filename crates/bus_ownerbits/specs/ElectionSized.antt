-- When the numbers of an election fit, so that each word has a place and the owner is a sender's
-- number.
use Rattle.std.specs.Prelude.{ℕ, ◌+◌, ◌*◌, ◌<◌, ◌≤◌, ◌^◌}
use Rattle.bus_register.specs.declared.limits.TheConstants.{MOST_PROCESSES, MOST_ROUNDS}
use Rattle.bus_ownerbits.specs.declared.stages.Stage.{Stage}
use Rattle.bus_ownerbits.specs.declared.stages.Stage.TheVariants.{Announce, Propose, Search, Alone}
use Rattle.bus_ownerbits.specs.Election.{Decisions}

abbrev pub StageFits : {S : Type 0} → ℕ → Stage S → Type 0
StageFits n Announce = Unit {0}
StageFits n (Propose d) = Unit {0}
StageFits n (Search i) = i < n
StageFits n Alone = Unit {0}

pub record Sized {S : Type 0} (D : Decisions S) (n me rounds at left spelled : ℕ)
    (stage : Stage S) : Type 0 where
  pub below : me < n
  pub few : n ≤ MOST_PROCESSES
  pub rounds_some : 1 ≤ rounds
  pub rounds_few : rounds ≤ MOST_ROUNDS
  pub bits_few : left ≤ 6
  pub spells : (spelled + 1) * 2 ^ left ≤ MOST_PROCESSES
  pub room : at + n + left * (D rounds).width n ≤ 2 ^ 64
  pub searches : StageFits n stage

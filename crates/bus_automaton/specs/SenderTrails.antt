-- All that a sender did, as its seat shows it.
use Rattle.std.specs.Prelude.{ℕ, List, [], ◌++◌}
use Rattle.bus_presence.specs.Reclamation.{Entry}
use Rattle.bus_world.specs.Headline.{Action}

-- The number of its first message. Its actions, as the page of promises lists them; and, where rows
-- of words are used again, the steps of its pins and of its reclamations, which are no actions,
-- each with the number that it found.
pub record SenderTrail : Type 0 where
  pub first : ℕ
  pub actions : List Action
  pub pins : List Entry
  pub reclaims : List Entry

-- before it has done anything, where its first message has this number
abbrev pub new_sender_trail : ℕ → SenderTrail
new_sender_trail first = record { first = first; actions = []; pins = []; reclaims = [] }

abbrev pub no_sender_trail : SenderTrail
no_sender_trail = new_sender_trail 0

-- with actions alone
abbrev pub sender_trail_of_actions : ℕ → List Action → SenderTrail
sender_trail_of_actions first actions = record {
  first = first;
  actions = actions;
  pins = [];
  reclaims = [];
}

-- with these actions more
abbrev pub with_actions : SenderTrail → List Action → SenderTrail
with_actions t actions = record t { actions = t.actions ++ actions }

-- with all of this more, which says nothing of the first number
abbrev pub with_sender_trail : SenderTrail → SenderTrail → SenderTrail
with_sender_trail t more = record {
  first = t.first;
  actions = t.actions ++ more.actions;
  pins = t.pins ++ more.pins;
  reclaims = t.reclaims ++ more.reclaims;
}

-- What one turn of a receiver adds to what its seat shows.
use Rattle.std.specs.Prelude.{◌≡◌, ◌≤◌, [], ◌∷◌, ◌++◌, length}
use Rattle.bus_deliverylog.specs.declared.receiving.RecvTurn.{RecvTurn}
use Rattle.bus_world.specs.Headline.{IsPrefix, end_heard}
use Rattle.bus_pageslot.specs.ReceiverViews.{ReceiverView}

-- From the one receiver to the other a turn has added this answer, and no other. It knows what it
-- knew and maybe more, and has read what it had read and maybe more, of what it knows. It has ended
-- exactly where it was answered the end.
pub record AddsAnswer (old : ReceiverView) (answer : RecvTurn) (new : ReceiverView) :
    Type 0 where
  pub answers : new.answers ≡ old.answers ++ answer ∷ []
  pub known : IsPrefix old.known new.known
  pub place : old.place ≤ new.place
  pub within : new.place ≤ length new.known
  pub ended : new.ended ≡ end_heard answer
  pub me : new.me ≡ old.me
  pub gone : new.gone ≡ old.gone

-- Turns of a receiver between which a function is asked of which less is said.
use Rattle.std.proofs.Common.{◌≡◌, Bool, true, false}
use Rattle.bus_pageslot.specs.Rule.{Sat}
use Rattle.bus_receiver.specs.Listening.{AsksOn, PassesWhile}
use Rattle.bus_receiver.specs.Listening as hearing
use Rattle.bus_receiver.specs.declared.receivers.Next.{Next}

module _ {C F : Type 0} (Tells : F → Bool → F → Type 0)
    (Says : Unit {0} → Bool → Unit {0} → Type 0)
    (says : (f : F) (told : Bool) (f' : F) → Tells f told f' → Says tt told tt)
    (first : Sat C) (given : F) where
  asks_as : (s : Sat C) (f : F) → AsksOn Tells first given s f → AsksOn Says first tt s tt
  asks_as _ _ hearing.Begins = hearing.Begins
  asks_as _ _ (hearing.Goes old f answer new before hears given_none empty) =
      hearing.Goes old tt answer new (asks_as old f before) hears given_none empty
  asks_as _ _ (hearing.Asks old f new f' before hears told) =
      hearing.Asks old tt new tt (asks_as old f before) hears (says f true f' told)

  pub passes_as : (found : Next) (new : Sat C) → PassesWhile Tells first given found new
      → PassesWhile Says first tt found new
  passes_as found new h = record {
    old = h.old;
    asked = tt;
    before = asks_as h.old h.asked h.before;
    hears = h.hears;
    told = λ stopped. (tt, says h.asked false (h.told stopped).0 (h.told stopped).1);
  }

use Rattle.bus_pageslot.proofs.Sends.Noes.{no_stays, no_was_right, yes_stays}
use Rattle.bus_pageslot.proofs.laws.a_no_was_right.Goals as goal

pub returns-clause-ring : goal.returns-clause-ring
returns-clause-ring c x found now many me longer short below least stood full =
    no_was_right x found now many longer me short below least stood full

pub returns-clause-flat : goal.returns-clause-flat
returns-clause-flat c x found now many longer none full =
    no_stays x found now many longer none full

pub returns-clause-yes : goal.returns-clause-yes
returns-clause-yes c x found now many same risen fits =
    yes_stays x found now many same risen fits

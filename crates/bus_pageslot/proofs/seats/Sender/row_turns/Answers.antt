use Rattle.std.proofs.Common.{sym, subst}
use Rattle.bus_core.specs.Plain.{StoresPlain}
use Rattle.bus_tenure.specs.Elections.{election_with}
use Rattle.bus_pageslot.specs.Turns.{NoneYet}
use Rattle.bus_pageslot.proofs.seats.Sender.row_turns.Goals as goal

pub words_left-words-requires : goal.words_left-words-requires
words_left-words-requires g c =
    let X =
    election_with g.Q.Machine.kind_of g.Q.Machine.op g.Q.Machine.fed g.Q.Ratifier.protocol in (
      c.requires.stores.0,
      subst (λ s. StoresPlain X s.core c.args.at c.requires.stores.0) (sym c.self.view_is)
          c.requires.stores.1,
    )

pub returns-then-many-eq0-clause-goes : goal.returns-then-many-eq0-clause-goes
returns-then-many-eq0-clause-goes g c = NoneYet

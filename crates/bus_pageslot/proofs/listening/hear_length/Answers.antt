use Rattle.std.proofs.Common.{◌<◌, arith, subst, sym, ◌∙◌}
use Rattle.atomic_table.specs.Seated.{TableId}
use Rattle.bus_pageslot.proofs.Hears.PassTurns.{of_its_own}
use Rattle.bus_pageslot.proofs.listening.hear_length.Goals as goal

pub load_length_in_turn-length-requires-clause-table :
    goal.load_length_in_turn-length-requires-clause-table
load_length_in_turn-length-requires-clause-table g c =
    let h = c.requires.receiver_view in (
      c.requires.table,
      subst (λ (z : TableId). 0 < z.words) c.requires.table
          (let w = h.wide in let room = h.cells.room in let behind = h.cells.behind in omega arith),
    )

pub load_length_in_turn-length-requires-clause-tap :
    goal.load_length_in_turn-length-requires-clause-tap
load_length_in_turn-length-requires-clause-tap g c =
    let h = c.requires.receiver_view in (
      h.table_layout,
      h.receiver_view,
      h.me,
      sym h.fit.ended ∙ c.requires.going,
      h.stays,
      λ due. c.requires.not_due (of_its_own h due),
    )

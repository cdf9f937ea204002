use Rattle.std.proofs.Common.{◌<◌, sym, ◌∙◌, ap, subst}
use Rattle.atomic_table.specs.Seated.{TableId}
use Rattle.atomic_table.specs.Table.{Joins}
use Rattle.bus_core.specs.Senders.{Sender}
use Rattle.bus_tenure.specs.Elections.{Elector}
use Rattle.bus_automaton.specs.Buses.{process_with, automaton_with}
use Rattle.bus_pageslot.specs.declared.rule.View.{View}
use Rattle.bus_pageslot.specs.declared.rule.View.TheVariants.{Spent}
use Rattle.bus_pageslot.specs.Buses.{BusId}
use Rattle.bus_pageslot.specs.Rule.{TableInvariant, views_joined}
use Rattle.bus_pageslot.proofs.Hears.Joining.{IsPair, joins_allowed, parts_allowed, meets_allowed}
use Rattle.bus_pageslot.proofs.Hears.Joining.{pairs}
use Rattle.bus_pageslot.proofs.Hears.Joining.{still_pair}
use Rattle.bus_pageslot.proofs.words.Words.meet.Goals as goal

pub join_seat-requires : goal.join_seat-requires
join_seat-requires g c =
    let P = process_with g.Q.Machine.kind_of g.Q.Machine.op g.Q.Machine.fed g.Q.Ratifier.protocol in
    let A = automaton_with g.Q.Machine.kind_of g.Q.Machine.op g.Q.Machine.fed g.Q.Ratifier.protocol
    c.self.inside.table.shared.key in
    let L = c.threads_may_go_by.ensures.automaton c.self.inside.table.shared.key in
    let table = sym (ap (λ (b : BusId). b.table) c.self.view_is) in
    let V : Type 0 = View (Sender (Elector g.row.Q.Denot)) in
    let n = c.requires.second in
    let v : V = c.args.seat.now.me.0 in (
      c.requires.table.0 ∙ table,
      c.requires.table.1 ∙ table,
      ap (λ m. m.1) n.2,
      subst (λ (z : TableId). 0 < z.words) table c.requires.table.2,
      subst (λ (w : V). Joins (TableInvariant P A) c.args.seat.now.id v c.args.other.id w
          (views_joined v w) Spent) (sym (ap (λ m. m.0) n.2))
          (joins_allowed P A v c.requires.first n.0 n.1 c.args.seat.now.id c.args.other.id),
    )

pub load-length-requires : goal.load-length-requires
load-length-requires g c =
    let P = process_with g.Q.Machine.kind_of g.Q.Machine.op g.Q.Machine.fed g.Q.Ratifier.protocol in
    let A = automaton_with g.Q.Machine.kind_of g.Q.Machine.op g.Q.Machine.fed g.Q.Ratifier.protocol
    c.self.inside.table.shared.key in
    let L = c.threads_may_go_by.ensures.automaton c.self.inside.table.shared.key in
    let table = sym (ap (λ (b : BusId). b.table) c.self.view_is) in
    let V : Type 0 = View (Sender (Elector g.row.Q.Denot)) in
    let n = c.requires.second in
    let v : V = c.args.seat.now.me.0 in
    let m = c.join_seat.new.seat.me in
    let pair : IsPair m.0 = subst (λ (w : V). IsPair w) (sym (ap (λ m. m.0) c.join_seat.ensures.2))
    (subst (λ (w : V). IsPair (views_joined v w)) (sym (ap (λ m. m.0) n.2))
    (pairs P A v c.requires.first n.0 n.1)) in (
      c.join_seat.ensures.0 ∙ c.requires.table.0 ∙ table,
      subst (λ (z : TableId). 0 < z.words) table c.requires.table.2,
      meets_allowed P A L m.0 m.1 pair _ _,
    )

pub split_seat-part-requires : goal.split_seat-part-requires
split_seat-part-requires g c =
    let P = process_with g.Q.Machine.kind_of g.Q.Machine.op g.Q.Machine.fed g.Q.Ratifier.protocol in
    let A = automaton_with g.Q.Machine.kind_of g.Q.Machine.op g.Q.Machine.fed g.Q.Ratifier.protocol
    c.self.inside.table.shared.key in
    let L = c.threads_may_go_by.ensures.automaton c.self.inside.table.shared.key in
    let table = sym (ap (λ (b : BusId). b.table) c.self.view_is) in
    let V : Type 0 = View (Sender (Elector g.row.Q.Denot)) in
    let n = c.requires.second in
    let v : V = c.args.seat.now.me.0 in
    let m = c.join_seat.new.seat.me in
    let pair : IsPair m.0 = subst (λ (w : V). IsPair w) (sym (ap (λ m. m.0) c.join_seat.ensures.2))
    (subst (λ (w : V). IsPair (views_joined v w)) (sym (ap (λ m. m.0) n.2))
    (pairs P A v c.requires.first n.0 n.1)) in
    let l = c.load-length.ensures.2.1 in (
      c.load-length.ensures.0 ∙ c.join_seat.ensures.0 ∙ c.requires.table.0 ∙ table,
      subst (λ (z : TableId). 0 < z.words) table c.requires.table.2,
      parts_allowed P A c.load-length.new.seat.me.0
          (subst (λ (w : V). IsPair w) (sym (ap (λ m. m.0) l.now))
          (still_pair P A m.0 l.known pair)) _,
    )

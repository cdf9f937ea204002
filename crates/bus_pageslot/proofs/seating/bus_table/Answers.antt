use Rattle.std.proofs.Common.{rules, ◌≡◌, ◌+◌, Option, Some, List, [], ◌∷◌, replicate, sym, ◌∙◌}
use Rattle.std.proofs.Common.{subst, arith, ap}
use Rattle.std.proofs.lemmas.Grind.{common_steps}
use Rattle.atomic_table.specs.Table.{opening}
use Rattle.bus_tenure.specs.declared.pages.Page.{Page}
use Rattle.bus_world.specs.World.{first_page}
use Rattle.bus_automaton.specs.Buses.{process_with, automaton_with}
use Rattle.bus_pageslot.specs.declared.rule.View.TheVariants.{Maker}
use Rattle.bus_pageslot.specs.Rule.{TableInvariant}
use Rattle.bus_pageslot.proofs.Ruled.Openings.{opens}
use Rattle.bus_pageslot.proofs.seating.bus_table.Goals as goal

pub new-requires : goal.new-requires
unfolding automaton_with
new-requires g c =
    let P = process_with g.Q.Machine.kind_of g.Q.Machine.op g.Q.Machine.fed g.Q.Ratifier.protocol in
    let A = automaton_with g.Q.Machine.kind_of g.Q.Machine.op g.Q.Machine.fed g.Q.Ratifier.protocol
    c.args.plan in
    let L = c.threads_may_go_by.ensures.automaton c.args.plan in
    let many = c.log_at.result + c.args.plan.shape.log_words in
    let zeros : c.as_slice.result.now ≡ replicate many 0 =
    (first_of (search rules, grind (arith, common_steps))) in
    let one : c.push.new.self.items ≡ Some (first_page c.args.plan.bases) ∷ [] =
    (first_of (search rules, grind (arith, common_steps))) in
    subst (λ (xs : List (Option Page)).
    TableInvariant P A (opening c.as_slice.result.now xs (Maker A.table_layout 0))) (sym one)
    (opens P A L (c.threads_may_go_by.ensures.opens c.args.plan c.requires) c.as_slice.result.now
    (zeros ∙ ap (λ n. replicate n 0) c.log_at.ensures.words))

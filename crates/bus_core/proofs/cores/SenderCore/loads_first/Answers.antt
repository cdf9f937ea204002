use Rattle.std.proofs.Common.{◌≡◌, subst}
use Rattle.bus_tenure.specs.Elections.{Elector, election_with}
use Rattle.bus_tenure.specs.declared.turns.Turn.TheVariants as turn
use Rattle.bus_core.specs.Loading.{HasLoadedAll}
use Rattle.bus_core.specs.Senders.{Sender}
use Rattle.bus_core.specs.Table.{line_now}
use Rattle.bus_core.specs.Telling.{FeedTells}
use Rattle.bus_core.proofs.Loading.{full_loads}
use Rattle.bus_core.proofs.cores.SenderCore.loads_first.Goals as goal

pub returns : goal.returns
returns g c =
    let P = g.Q.Ratifier.protocol in
    let X = election_with g.Q.Machine.kind_of g.Q.Machine.op g.Q.Machine.fed P in
    let i = c.self.inside in
    let v : Sender (Elector g.row.Q.Denot) = record { core = i.turns; reuse = i.reuse } in
    subst (λ y. FeedTells X y c.args.got c.args.word ((line_now X y).answer c.args.got c.args.word)
    → (line_now X y).answer c.args.got c.args.word ≡ turn.Full → HasLoadedAll y) c.self.view_is
    (λ told full. full_loads X v _ _ c.args.got c.args.word c.self.invariant
    (subst (FeedTells X v c.args.got c.args.word) full told) full) c.tells.ensures

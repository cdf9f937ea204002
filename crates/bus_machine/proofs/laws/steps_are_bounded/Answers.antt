use Rattle.std.proofs.Common.{◌≡◌, ◌+◌, arith, refl, sym, ◌∙◌, ap, subst}
use Rattle.bus_ownerbits.specs.Sizes.{election_bound}
use Rattle.bus_tenure.specs.Core.{Layout}
use Rattle.bus_tenure.specs.Elections.{elections, election_with}
use Rattle.bus_world.proofs.Serving.{Serves, serves}
use Rattle.bus_world.specs.World.{IsLayout}
use Rattle.bus_machine.proofs.Tenures.ElectionBounds.{bounded}
use Rattle.bus_machine.proofs.Bases.Leading.{Sits}
use Rattle.bus_machine.proofs.Tenures.PinBounds.{pins_bounded}
use Rattle.bus_machine.proofs.laws.steps_are_bounded.Goals as goal

pub returns : goal.returns
returns g c senders rounds rows capacity passers batch ok machine trails same has reached =
    let P = g.Q.Ratifier.protocol in
    let X = election_with g.Q.Machine.kind_of g.Q.Machine.op g.Q.Machine.fed P in
    let R = elections P rounds in
    let s = serves g.Q.Machine.kind_of g.Q.Machine.op g.Q.Machine.fed P
    g.met.Q.Machine.names_each_step g.met.Q.Ratifier.own_kinds senders
    rounds rows capacity passers batch (c.election_is_lawful.ensures.lawful.laws rounds) in
    let t : Sits X R machine = record {
      serves = subst (Serves X R) (sym same) s;
      ok = subst IsLayout (sym same) ok;
      rows = has;
    } in
    let many : R.steps machine.layout.senders + 1 ≡ election_bound P.steps senders rounds =
    ap (λ (x : Layout). R.steps x.senders + 1) same
    ∙ omega arith in (
      bounded X R machine trails t reached (election_bound P.steps senders rounds) many (λ e. refl)
          (λ p at e belongs. c.election_is_lawful.ensures.lawful.turns_last rounds
          machine.layout.senders p at e belongs),
      pins_bounded X R
          machine trails t reached,
    )

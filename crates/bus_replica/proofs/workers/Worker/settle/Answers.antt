use Rattle.std.proofs.Common.{◌≡◌, true, false, not, None, refl, sym, ◌∙◌, ap}
use Rattle.std.specs.Prelude.{is_some}
use Rattle.bus_automaton.specs.ThreeWordBuses.{Held, process}
use Rattle.bus_core.specs.Seen.{tenure_begun}
use Rattle.bus_pageslot.specs.Seats.{SenderSeat}
use Rattle.bus_replica.specs.Causes.{tells}
use Rattle.bus_replica.specs.Replicas.{Replicated}
use Rattle.bus_replica.proofs.SendingLaws.{stay, stay_on}
use Rattle.bus_replica.proofs.workers.Worker.settle.Goals as goal

pub loop-init : goal.loop-init
loop-init g c = (refl, refl, refl, stay process tells c.args.self.now.sender, λ free. refl)

pub loop-preserved : goal.loop-preserved
loop-preserved g c = (
  c.end_tenure.ensures.bus ∙ c.loop.invariant.0,
  c.end_tenure.ensures.me.0 ∙ c.loop.invariant.1,
  c.end_tenure.ensures.me.1 ∙ c.loop.invariant.2,
  stay_on process tells c.args.self.now.sender c.loop.self.sender c.end_tenure.new.self.sender
      c.loop.invariant.3 c.end_tenure.ensures.puts,
  λ free. absurd (
      let is : c.tenure.result ≡ None =
      c.tenure.ensures
      ∙ ap (λ (z : Replicated Held g.row.S.Denot). tenure_begun z.sender.core) c.self.view_is
      ∙ ap (λ (s : SenderSeat Held). tenure_begun s.core) (c.loop.invariant.4 free) ∙ free in
      let bad : true ≡ false =
      sym (ap not c.if-is_none.false) ∙ sym c.is_none.ensures ∙ ap is_some is in cc),
)

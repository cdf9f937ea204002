-- What a sender accepts between its steps leads on.
use Rattle.std.proofs.Common.{◌≡◌, Some, List, [], ◌∷◌, ◌++◌, append_assoc, arith}
use Rattle.std.proofs.lemmas.List.{append-nil}
use Rattle.std.proofs.lemmas.Grind.{common_steps}
use Rattle.bus_batch.specs.Batches.{next_of}
use Rattle.bus_world.specs.Headline.{Action, HasPut, HasMarked}
use Rattle.bus_automaton.specs.Processes.{Process, Automaton}
use Rattle.bus_automaton.specs.Lawful.{AutomatonLaws, AcceptsIn}
use Rattle.bus_pageslot.specs.Steps.{Accepts}
use Rattle.bus_pageslot.specs.Steps.Accepts.{Nothing, Message, Marks}

module _ {C : Type 0} (P : Process C) (A : Automaton C) (L : AutomatonLaws P A) (z : A.State)
    (reached : A.IsReached z) (c : C) (here : A.sender z (P.me c) ≡ Some c) where
  stays_in : AcceptsIn A z (P.me c) c []
  stays_in = grind (arith, common_steps, append-nil)

  one_more : (d e : C) (actions more : List Action) (m : AcceptsIn A z (P.me c) d actions)
      → AcceptsIn A m.state (P.me c) e more → AcceptsIn A z (P.me c) e (actions ++ more)
  one_more d e actions more m n = grind (arith, common_steps, append_assoc)

  pub accepted : (d : C) (actions : List Action) → Accepts P c d actions
      → AcceptsIn A z (P.me c) d actions
  accepted d actions Nothing = stays_in
  accepted e all (Message d actions bytes more can small) =
      let m = accepted d actions more in
      one_more d (P.with_message d bytes) actions (HasPut (next_of (P.queue d)) bytes ∷ []) m
      (L.message m.state (P.me c) d bytes m.changes.reached m.changes.here can small)
  accepted e all (Marks d actions mark more can) =
      let m = accepted d actions more in
      one_more d (P.with_mark d mark) actions (HasMarked mark ∷ []) m
      (L.marked m.state (P.me c) d mark m.changes.reached m.changes.here can)

-- Turns of a sender whose election runs, one after another.
use Rattle.std.proofs.Common.{◌≡◌, ℕ, ◌≤◌, Bool, Option, Some, None, IsSome, refl, sym, ap}
use Rattle.bus_register.specs.Protocol.{Protocol}
use Rattle.bus_register.specs.Words.{register}
use Rattle.bus_register.specs.declared.kinds.Kind.{Kind}
use Rattle.bus_register.specs.declared.registers.Op.{Op}
use Rattle.bus_register.specs.declared.registers.Op.TheVariants.{Load, Store, Add, Cas}
use Rattle.bus_adoptcommit.specs.declared.verdicts.Verdict.{Verdict}
use Rattle.bus_core.proofs.ElectionRows.{electing_now}
use Rattle.bus_core.specs.Senders.{Sender}
use Rattle.bus_core.specs.Table.{line, rest_at}
use Rattle.bus_core.specs.Telling.{FeedTells}
use Rattle.bus_tenure.specs.Core.{Election}
use Rattle.bus_tenure.specs.Elections.{Elector, election_with}
use Rattle.bus_tenure.specs.Situations.{Stays}
use Rattle.bus_tenure.specs.declared.turns.Turn.{Turn}
use Rattle.bus_tenure.specs.declared.turns.Turn.TheVariants as turn
use Rattle.bus_world.specs.Turning.{before_step}
use Rattle.bus_machine.specs.Machine.{moved}
use Rattle.bus_automaton.specs.Buses.{process_with}
use Rattle.bus_automaton.specs.Processes.{Process}
use Rattle.bus_pageslot.specs.Seats.{SenderSeat, TookAndTold}
use Rattle.bus_pageslot.specs.Steps.{stored_by}
use Rattle.bus_pageslot.specs.Turns.{Tellings, Turned, ElectsIn, tells_with}
use Rattle.bus_pageslot.proofs.SeatSteps.Plain.{due_some, stored_behind}

-- a step behind the length leaves the length that was stored last
pub length_stays : (o : Op) (before : ℕ) → 2 ≤ register o → stored_by (Some o) before ≡ before
length_stays (Load at) before behind = refl
length_stays (Store at value) before behind = stored_behind at.0 value before behind
length_stays (Add at value) before behind = refl
length_stays (Cas at expected value) before behind = refl

module _ {S : Type 0} (kind_of : S → Option Kind) (op : S → ℕ → Option Op) (fed : S → ℕ → ℕ → S)
    (Q : Protocol S Bool Verdict) where
  abbrev X : Election (Elector S)
  X = election_with kind_of op fed Q

  abbrev P : Process (Sender (Elector S))
  P = process_with kind_of op fed Q

  abbrev T : Tellings (Sender (Elector S))
  T = tells_with kind_of op fed Q

  module _ (v : Sender (Elector S)) (t : ℕ) (elects : ElectsIn X v t) where
    -- the page stays where it is
    pub elects_moves : P.move v ≡ Stays
    unfolding process_with
    elects_moves = ap (λ z. (line X v z).move) (electing_now X v t elects).1

    pub elects_handed : v ≡ P.handed v
    unfolding process_with
    elects_handed = ap (λ m. moved (before_step m) None v) (sym elects_moves)

    -- it does not rest
    pub elects_rest : P.rest v ≡ turn.Going
    unfolding process_with
    elects_rest = ap (λ z. rest_at (line X v z)) (electing_now X v t elects).1

  -- a turn of it is a turn
  pub turned_electing : (old new : SenderSeat (Sender (Elector S))) (word : ℕ) (answer : Turn)
      → IsSome (P.op old.core word) → TookAndTold P (FeedTells X) old word answer new
      → Turned P T old word answer new
  unfolding tells_with
  turned_electing old new word answer due took = record {
    rests = λ none. absurd (due_some (P.op old.core word) due none);
    steps = λ o is. took;
  }

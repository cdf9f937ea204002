-- Plain stores in a row, of which the sender takes in none before the last.
use Rattle.std.proofs.Common.{◌≡◌, ℕ, suc, ◌+◌, ◌≤◌, arith, Bool, Option, ◌∙◌}
use Rattle.std.proofs.Common.{ap, subst}
use Rattle.std.proofs.lemmas.Grind.{common_steps}
use Rattle.bus_register.specs.Protocol.{Protocol}
use Rattle.bus_register.specs.declared.kinds.Kind.{Kind}
use Rattle.bus_register.specs.declared.registers.Op.{Op}
use Rattle.bus_adoptcommit.specs.declared.verdicts.Verdict.{Verdict}
use Rattle.bus_core.proofs.Plain.{plain_same}
use Rattle.bus_core.specs.Plain.{IsPlain, StoresPlain, StoresRow, stored_on}
use Rattle.bus_core.specs.Senders.{Sender}
use Rattle.bus_core.specs.Telling.{FeedTells}
use Rattle.bus_tenure.specs.Core.{Election}
use Rattle.bus_tenure.specs.Elections.{Elector, election_with}
use Rattle.bus_tenure.specs.declared.turns.Turn.TheVariants.{Going}
use Rattle.bus_automaton.specs.Buses.{process_with}
use Rattle.bus_automaton.specs.Processes.{Process}
use Rattle.bus_pageslot.specs.Seats.{SenderSeat, TookAndTold, stored_of}
use Rattle.bus_pageslot.specs.Steps.{stored_by}
use Rattle.bus_pageslot.specs.Turns.{Tellings, TurnsPlainly, GoesPlainly, NoneYet, Next}
use Rattle.bus_pageslot.specs.Turns.{tells_with}
use Rattle.bus_pageslot.proofs.SeatSteps.Plain.{due_some, stored_behind}
use Rattle.bus_pageslot.proofs.Ruled.Processes.{plain_op, plain_draws_none}

-- fewer of a row are one
pub row_fewer : {E : Type 0} (X : Election E) (v : Sender E) (at : ℕ) (values : ℕ → ℕ)
    (many few : ℕ) → few ≤ many → StoresRow X v at values many → StoresRow X v at values few
row_fewer X v at values many few below row = record {
  stores = λ n lt. row.stores n (omega (arith, lt, below));
  tells = λ n got word lt. row.tells n got word (omega (arith, lt, below));
}

module _ {S : Type 0} (kind_of : S → Option Kind) (op : S → ℕ → Option Op) (fed : S → ℕ → ℕ → S)
    (Q : Protocol S Bool Verdict) where
  abbrev X : Election (Elector S)
  X = election_with kind_of op fed Q

  abbrev P : Process (Sender (Elector S))
  P = process_with kind_of op fed Q

  abbrev T : Tellings (Sender (Elector S))
  T = tells_with kind_of op fed Q

  -- what a sender is behind one more
  pub fed_behind : (v : Sender (Elector S)) (n : ℕ) → IsPlain X (stored_on X v n)
      → (got word : ℕ) → stored_on X v (n + 1) ≡ P.fed (stored_on X v n) got word
  unfolding process_with
  fed_behind v n plain got word =
      let more : n + 1 ≡ suc n = omega arith in
      ap (stored_on X v) more ∙ plain_same X (stored_on X v n) plain got word

  -- a turn whose step is one
  pub turned_plainly : (old new : SenderSeat (Sender (Elector S))) → IsPlain X old.core
      → TookAndTold P (FeedTells X) old 0 Going new → TurnsPlainly P T (IsPlain X) old new
  unfolding tells_with
  turned_plainly old new plain took = record {
    plain = plain;
    wordless = plain_draws_none kind_of op fed Q old.core plain;
    turned = record {
      rests = λ none.
          absurd (due_some (P.op old.core 0) (plain_op kind_of op fed Q old.core plain 0) none);
      steps = λ o due. took;
    };
  }

  -- it stores no length
  pub length_stays : (old new : SenderSeat (Sender (Elector S))) (at value : ℕ)
      → StoresPlain X old.core at value → TookAndTold P (FeedTells X) old 0 Going new
      → stored_of new ≡ stored_of old
  unfolding process_with
  length_stays old new at value stores took =
      ap (λ n. n.stored) took.took.notes ∙ ap (λ o. stored_by o (stored_of old)) (stores.step 0)
      ∙ stored_behind at value (stored_of old) stores.behind

-- some of them and then more are all these
pub goes_on : {C : Type 0} {L : C → Type 0} (P : Process C) (T : Tellings C)
    (first : SenderSeat C) (some : ℕ) (mid : SenderSeat C) (more : ℕ) (new : SenderSeat C)
    → GoesPlainly P T L first some mid → GoesPlainly P T L mid more new
    → GoesPlainly P T L first (some + more) new
goes_on {L = L} P T first some mid _ _ before NoneYet = grind (arith, common_steps)
goes_on {L = L} P T first some mid _ _ before (Next n old new goes one) =
    let same : some + n + 1 ≡ some + (n + 1) = omega arith in
    subst (λ m. GoesPlainly P T L first m new) same
    (Next (some + n) old new (goes_on P T first some mid n old before goes) one)

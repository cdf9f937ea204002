-- What a sender accepts between its steps: its actions as its batch shows them.
use Rattle.std.proofs.Common.{◌≡◌, ℕ, ◌+◌, ◌≤◌, false, List, [], ◌∷◌, ◌++◌, length, drop, arith}
use Rattle.std.proofs.Common.{refl, ◌∙◌, ap}
use Rattle.std.proofs.lemmas.List.{append-nil, length-append, length-drop, drop_all, drop-append-le}
use Rattle.std.proofs.lemmas.Grind.{common_steps}
use Rattle.bus_batch.specs.Batches.{Pending, next_of, CanPut, CanClose}
use Rattle.bus_batch.specs.declared.batches.Phase.{Phase}
use Rattle.bus_batch.specs.declared.batches.Phase.TheVariants.{Open, Marking, Closed}
use Rattle.bus_batch.specs.declared.messages.Mark.{Mark}
use Rattle.bus_tenure.specs.Core.{is_marking}
use Rattle.bus_world.specs.Headline.{Action, HasPut, HasMarked}
use Rattle.bus_automaton.specs.Processes.{Process}
use Rattle.bus_automaton.specs.Lawful.{ProcessLaws}
use Rattle.bus_pageslot.specs.Steps.{Accepts, puts_from, marks_since, accepted_since}
use Rattle.bus_pageslot.specs.Steps.Accepts.{Nothing, Message, Marks}

module _ {C : Type 0} (P : Process C) (L : ProcessLaws P) (c : C) where
  -- the rest of it stays
  pub record Stays (d : C) : Type 0 where
    pub me : P.me d ≡ P.me c
    pub table_layout : P.table_layout d ≡ P.table_layout c
    pub first : (P.queue d).first ≡ (P.queue c).first
    pub longer : length (P.queue c).messages ≤ length (P.queue d).messages

  pub stays : (d : C) (actions : List Action) → Accepts P c d actions → Stays d
  stays d actions Nothing = grind (arith, common_steps)
  stays e all (Message d actions bytes more can small) =
      let h = stays d actions more in
      grind (arith, common_steps, length-append, length)
  stays e all (Marks d actions mark more can) =
      let h = stays d actions more in
      grind (arith, common_steps, length)

pub puts_from-snoc : (n : ℕ) (xs : List (List ℕ)) (bytes : List ℕ) (k : ℕ) → k ≡ n + length xs
    → puts_from n (xs ++ bytes ∷ []) ≡ puts_from n xs ++ HasPut k bytes ∷ []
puts_from-snoc n [] bytes k e = ap (λ z. HasPut z bytes ∷ []) (let z : n ≡ k = omega arith in z)
puts_from-snoc n (x ∷ xs) bytes k e =
    ap (λ z. HasPut n x ∷ z) (puts_from-snoc (n + 1) xs bytes k (omega arith))

open_is : (ph : Phase) → ph ≡ Open → is_marking ph ≡ false
open_is ph e = ap is_marking e

-- a mark before, and none
marked_once : (ph : Phase) → marks_since ph ph ≡ []
marked_once Open = refl
marked_once (Marking mark) = refl
marked_once Closed = refl

-- a sender that accepts something has no mark, and had none before
none_marked : (before now : Phase) → now ≡ Open → marks_since before now ≡ []
none_marked before now e = ap (marks_since before) e

-- with one message more in its batch
since_message : (before now : Pending) (bytes : List ℕ) → now.first ≡ before.first
    → length before.messages ≤ length now.messages → CanPut now (length bytes)
    → accepted_since before (record now { messages = now.messages ++ bytes ∷ [] })
    ≡ accepted_since before now ++ HasPut (next_of now) bytes ∷ []
since_message before now bytes first longer can =
    let k = length before.messages in
    grind (arith, none_marked, drop, drop-append-le, length-drop, append-nil, puts_from-snoc)

-- with a mark that waits
since_mark : (before now : Pending) (mark : Mark) → CanClose now → (is_marking before.phase ≡ false)
    → accepted_since before (record now { phase = Marking mark })
    ≡ accepted_since before now ++ HasMarked mark ∷ []
since_mark before now mark can was =
    grind (arith, common_steps, length, none_marked, drop, append-nil)

module _ {C : Type 0} (P : Process C) (L : ProcessLaws P) (c : C) where
  -- a sender that accepts something had no mark before
  pub was_open : (d : C) (actions : List Action) → Accepts P c d actions → (P.queue d).phase ≡ Open
      → is_marking (P.queue c).phase ≡ false
  was_open d actions Nothing e = open_is (P.queue c).phase e
  was_open f all (Message d actions bytes more can small) e = was_open d actions more can.is_open
  was_open f all (Marks d actions mark more can) e = was_open d actions more can.is_open

  pub since_is : (d : C) (actions : List Action) → Accepts P c d actions
      → accepted_since (P.queue c) (P.queue d) ≡ actions
  since_is d actions Nothing = grind (arith, common_steps, drop_all, length, marked_once)
  since_is f all (Message d actions bytes more can small) =
      let h = stays P L c d actions more in
      ap (accepted_since (P.queue c)) (L.message_waits d bytes)
      ∙ since_message (P.queue c) (P.queue d) bytes h.first h.longer can
      ∙ ap (λ z. z ++ HasPut (next_of (P.queue d)) bytes ∷ []) (since_is d actions more)
  since_is f all (Marks d actions mark more can) =
      ap (accepted_since (P.queue c)) (L.mark_waits d mark)
      ∙ since_mark (P.queue c) (P.queue d) mark can (was_open d actions more can.is_open)
      ∙ ap (λ z. z ++ HasMarked mark ∷ []) (since_is d actions more)

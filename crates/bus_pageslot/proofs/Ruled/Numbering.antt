-- A sender numbers the messages that it accepts by how many it has put, from its first number on,
-- since the page of promises holds of what it does.
use Rattle.std.proofs.Common.{◌≡◌, ℕ, ◌+◌, ◌<◌, Some, [], ◌∷◌, ◌++◌, length, take, slice_get}
use Rattle.std.proofs.Common.{arith, refl, sym, ◌∙◌, ap, subst}
use Rattle.std.proofs.Math.Seq.{take-append_seam}
use Rattle.std.proofs.lemmas.List.Elements.{All-nil}
use Rattle.bus_batch.specs.Batches.{next_of, CanPut}
use Rattle.bus_register.specs.Private.TableLaws.{push_here}
use Rattle.bus_world.specs.Headline.{HasPut, puts}
use Rattle.bus_automaton.specs.Lawful.{AutomatonLaws, AcceptsIn}
use Rattle.bus_automaton.specs.Processes.{Process, Automaton, base_in, actions_at}
use Rattle.bus_automaton.specs.SenderTrails.{SenderTrail}
use Rattle.bus_pageslot.specs.Steps.{Numbers}
use Rattle.bus_pageslot.proofs.Ruled.Reaching.{accepted}

module _ {C : Type 0} (P : Process C) (A : Automaton C) (L : AutomatonLaws P A) where
  numbers_at : (z : A.State) → A.IsReached z → (c : C) → A.sender z (P.me c) ≡ Some c
      → Numbers P c (A.sender_trail z (P.me c))
  numbers_at z reached c here d actions more size can =
      let did = actions_at A z (P.me c) ++ actions in
      let m : AcceptsIn A z (P.me c) d actions = accepted P A L z reached c here d actions more in
      let put = HasPut (next_of (P.queue d)) [] in
      let empty : CanPut (P.queue d) 0 = record {
        is_open = can.is_open;
        idle = can.idle;
        short = omega arith;
        room = can.room;
      } in
      let n = L.message m.state (P.me c) d [] m.changes.reached m.changes.here empty
      (All-nil (λ byte. byte < 256)) in
      let all : actions_at A n.state (P.me c) ≡ did ++ put ∷ [] =
      ap (λ (t : SenderTrail). t.actions) n.changes.sender_trail
      ∙ ap (λ (t : SenderTrail). t.actions ++ put ∷ []) m.changes.sender_trail in
      (L.promised n.state n.changes.reached).promises.numbered (P.me c) (length did)
      (next_of (P.queue d)) []
      (ap (λ l. slice_get l (length did)) all ∙ push_here did put (length did) refl)
      ∙ ap (λ l. base_in A (P.me c) + length (puts (take (length did) l))) all
      ∙ ap (λ l. base_in A (P.me c) + length (puts l)) (take-append_seam did (put ∷ []))
      ∙ ap (λ n. n + length (puts did)) (sym (L.first z (P.me c) reached))

  pub numbers_next : (z : A.State) → A.IsReached z → (p : ℕ) (c : C) → P.me c ≡ p
      → A.sender z p ≡ Some c → (did : SenderTrail) → A.sender_trail z p ≡ did → Numbers P c did
  numbers_next z reached p c me here did is = subst (Numbers P c) (ap (A.sender_trail z) me ∙ is)
      (numbers_at z reached c (ap (A.sender z) me ∙ here))

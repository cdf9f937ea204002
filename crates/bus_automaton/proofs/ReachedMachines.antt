-- Who is none of a machine's senders has done nothing.
use Rattle.std.proofs.Common.{◌≡◌, ℕ, ◌<◌, ◌≤◌, Some, [], slice_get}
use Rattle.std.proofs.Common.{arith, refl, ◌∙◌, ap, subst}
use Rattle.bus_core.specs.Senders.{Sender, situation}
use Rattle.bus_core.specs.Table.{line_now}
use Rattle.bus_machine.proofs.Bases.AtNone.{event_reuse, forks_reuse}
use Rattle.bus_machine.proofs.Memory.EachSender.{added, added_is, actions_of_other}
use Rattle.bus_machine.proofs.Frames.Framed.{framed}
use Rattle.bus_machine.proofs.Frames.Knowing.{its_part}
use Rattle.bus_machine.proofs.Bases.Leading.{Sits, sits_before, sits_unforked}
use Rattle.bus_machine.specs.Machine.{Machine, Trails, Reached, New, Then, Joins}
use Rattle.bus_machine.specs.Machine.{Happens, going}
use Rattle.bus_machine.specs.Machine.{has_stopped, found, turn_answer, trails_grown, turn_grown}
use Rattle.bus_register.specs.Protocol.{Protocol}
use Rattle.bus_tenure.specs.Core.{Election, Layout}
use Rattle.bus_world.specs.Trails.{put_actions, mark_actions}
use Rattle.bus_world.specs.World.{Event, Put, Ask, Turn, Recv, Stop, Gone}
use Rattle.bus_world.specs.declared.events.Answer.{Answer}
use Rattle.bus_world.specs.declared.events.Answer.TheVariants as answer
use Rattle.bus_world.proofs.Stopping.{shown_there}

module _ {E : Type 0} (X : Election E) (P : Protocol E (Unit {0}) ℕ) (m : Machine E) (T : Trails)
    (s : Sits X P m) (r : Reached X m T) where
  -- who goes on is one of its senders
  sender_below : (p : ℕ) (v : Sender E) → going m p ≡ Some v → p < m.layout.senders
  sender_below p v goes =
      (its_part X P m T (framed X P m T s r) p v
      (shown_there (has_stopped m p) (slice_get m.senders p) v goes)).below

  -- an event adds nothing to what somebody else did
  adds_none : (q : ℕ) → m.layout.senders ≤ q → (e : Event) (a : Answer) (m' : Machine E)
      → Happens X m e a m'
      → (trails_grown X m e a T).actions q ≡ T.actions q
  adds_none q past (Put p bytes) a m' h =
      actions_of_other p (put_actions bytes a) T.actions q
      (λ e. let low = sender_below p h.sender h.goes in omega arith)
  adds_none q past (Ask p mark) a m' h =
      actions_of_other p (mark_actions a) T.actions q
      (λ e. let low = sender_below p h.sender h.goes in omega arith)
  adds_none q past (Turn p word) a m' h =
      let v = h.sender in
      let l = line_now X v in
      let told = turn_answer m l word in
      ap (λ d. (trails_grown X m (Turn p word) d T).actions q) h.answered
      ∙ ap (λ o. (turn_grown X m p o word (answer.Turn told) T).actions q) h.goes
      ∙ ap (λ D. D q) (added_is (situation X v) l p (found m l word) word told T)
      ∙ actions_of_other p (added (situation X v) l (found m l word) word told) T.actions q
      (λ e. let low = sender_below p v h.goes in omega arith)
  adds_none q past (Recv p) a m' h = refl
  adds_none q past (Stop p) a m' h = refl
  adds_none q past (Gone p) a m' h = refl

-- who is none of its senders has done nothing
pub nobody_did :
    {E : Type 0} (X : Election E) (P : Protocol E (Unit {0}) ℕ) (m : Machine E) (T : Trails)
    → Sits X P m → Reached X m T
    → (q : ℕ) → m.layout.senders ≤ q → T.actions q ≡ []
nobody_did X P m T s (New w new) q past = refl
nobody_did X P m T s (Then w v U e a r h) q past =
    let before = sits_before X P w v e a h s in
    let many = subst (λ (x : Layout). x.senders ≤ q) (event_reuse X w v e a h).0 past in
    adds_none X P w U before r q many e a v h ∙ nobody_did X P w U before r q many
nobody_did X P m T s (Joins w v U i j n r h nobody silent) q past =
    nobody_did X P w U (sits_unforked X P w v i j h s) r q
    (subst (λ (x : Layout). x.senders ≤ q) (forks_reuse X w v i j h).0 past)

-- What waits with a sender while the page is at home was answered the numbers from that on which
-- the page says.
use Rattle.std.proofs.Common.{◌≡◌, ℕ, zero, suc, ◌+◌, ◌*◌, ◌<◌, Option, Some, None, inl, inr, List}
use Rattle.std.proofs.Common.{[], ◌∷◌, ◌++◌, length, map, take, slice_get, slice_index, arith}
use Rattle.std.proofs.Common.{refl, sym, ◌∙◌, ap, subst, append_assoc}
use mathlib.Core.Option.{some-injective}
use mathlib.Core.Option as maybe
use lib.ListN.{get_elem?}
use Rattle.std.proofs.lemmas.List.{append-nil, length-append, length-map}
use Rattle.std.proofs.lemmas.Option.{same_Some, slice_get_within}
use Rattle.std.proofs.lemmas.Grind.{common_steps}
use Rattle.atomic_table.specs.Table.{State}
use Rattle.bus_register.specs.declared.limits.TheConstants.{MOST_SENDERS}
use Rattle.bus_batch.specs.Batches.{Pending, next_of}
use Rattle.bus_batch.specs.declared.messages.Item.{Item}
use Rattle.bus_deliverylog.specs.Orders.{of_sender}
use Rattle.bus_core.specs.Keeping.{new_sender}
use Rattle.bus_core.specs.Senders.{Sender}
use Rattle.bus_core.specs.Reusing.Keeping.{held_of}
use Rattle.bus_machine.specs.Machine.{Machine, Trails, stage_of}
use Rattle.bus_tenure.specs.Core.{Core, Election, Layout}
use Rattle.bus_tenure.specs.declared.pages.Page.{Page}
use Rattle.bus_tenure.specs.declared.phases.Phase.{Phase}
use Rattle.bus_tenure.specs.declared.phases.Phase.TheVariants as phase
use Rattle.bus_world.proofs.Places.{got_before, got_after, got_split}
use Rattle.bus_world.specs.Headline.{Action, HasPut, HasMarked, Stepped, puts}
use Rattle.bus_world.specs.Waiting.{waiting_at}
use Rattle.bus_automaton.specs.Processes.{Process}
use Rattle.bus_automaton.specs.Lawful.{ProcessLaws, AutomatonLaws}
use Rattle.bus_automaton.specs.OneAutomaton.{bus_of}
use Rattle.bus_automaton.specs.OneProcess.{process_of}
use Rattle.bus_automaton.specs.SenderTrails.{SenderTrail}
use Rattle.bus_pageslot.specs.Carried.{WereAnswered}
use Rattle.bus_pageslot.specs.Histories.{Shown, HasHistory}
use Rattle.bus_pageslot.specs.Rule.{slot_of}
use Rattle.bus_pageslot.specs.Steps.{Accepts}
use Rattle.bus_pageslot.specs.Steps.Accepts.{Nothing, Message, Marks}
use Rattle.bus_pageslot.specs.declared.rule.View.{View}
use Rattle.bus_pageslot.proofs.SeatSteps.Accepting.{stays}
use Rattle.bus_pageslot.proofs.Said.Endings.{slot_is}
use Rattle.bus_pageslot.proofs.Ruled.Processes.{queue_same}

-- ---- where a message was put
-- an action at which this was put, with any number, behind so many puts
pub record WasPut (actions : List Action) (i : ℕ) (bytes : List ℕ) : Type 0 where
  pub place : ℕ
  pub number : ℕ
  pub at : slice_get actions place ≡ Some (HasPut number bytes)
  pub before : length (puts (take place actions)) ≡ i

behind_other : (a : Action) (rest : List Action) (i : ℕ) (bytes : List ℕ)
    → ((more : List Action) → puts (a ∷ more) ≡ puts more) → WasPut rest i bytes
    → WasPut (a ∷ rest) i bytes
behind_other a rest i bytes none h = record {
  place = suc h.place;
  number = h.number;
  at = h.at;
  before = ap length (none (take h.place rest)) ∙ h.before;
}

was_put : (actions : List Action) (i : ℕ) (bytes : List ℕ) → slice_get (puts actions) i ≡ Some bytes
    → WasPut actions i bytes
was_put [] i bytes e = absurd (let bad : None ≡ Some bytes = e in let wrong : ⊥ = cc in wrong)
was_put (HasPut n m ∷ rest) zero bytes e =
    record {
      place = 0;
      number = n;
      at = ap (λ b. Some (HasPut n b)) (same_Some _ _ e);
      before = refl;
    }
was_put (HasPut n m ∷ rest) (suc i) bytes e =
    let h = was_put rest i bytes e in
    record { place = suc h.place; number = h.number; at = h.at; before = ap suc h.before }
was_put (HasMarked mark ∷ rest) i bytes e =
    behind_other (HasMarked mark) rest i bytes (λ more. refl) (was_put rest i bytes e)
was_put (Stepped t k found chose a ∷ rest) i bytes e =
    behind_other (Stepped t k found chose a) rest i bytes (λ more. refl) (was_put rest i bytes e)

-- ---- what is accepted behind it
module _ {C : Type 0} (P : Process C) (K : ProcessLaws P) (c : C) where
  pub more_answered : (did : List Action) → WereAnswered did (P.queue c).first (P.queue c).messages
      → (d : C) (actions : List Action)
      → Accepts P c d actions → WereAnswered (did ++ actions) (P.queue c).first (P.queue d).messages
  more_answered did h d _ Nothing k message at =
      let w = h k message at in (w.0, ap (λ l. slice_get l w.0) (append-nil did) ∙ w.1)
  more_answered did h e _ (Message d actions bytes more can small) k message at =
      let before = (P.queue d).messages in
      let all : slice_get (before ++ bytes ∷ []) k ≡ Some message =
      ap (λ (q : Pending). slice_get q.messages k) (sym (K.message_waits d bytes)) ∙ at in
      let here = HasPut (next_of (P.queue d)) bytes in
      let same : (did ++ actions) ++ here ∷ [] ≡ did ++ (actions ++ here ∷ []) =
      append_assoc did actions (here ∷ []) in
      elim (got_split before (bytes ∷ []) k message all) [
        | inl old ↦
            let w = more_answered did h d actions more k message old in (
              w.0,
              ap (λ l. slice_get l w.0) (sym same)
                  ∙ got_before (did ++ actions) (here ∷ []) w.0 _ w.1,
            )
        | inr last ↦
            let j : last.0 ≡ 0 =
            (let l = slice_get_within (bytes ∷ []) last.0 message last.2 in omega arith) in
            let is : bytes ≡ message =
            same_Some _ _ (ap (slice_get (bytes ∷ [])) (sym j) ∙ last.2) in
            let first = (stays P K c d actions more).first in
            let number : next_of (P.queue d) ≡ (P.queue c).first + k =
            (let p = last.1 in omega arith) in (
              length (did ++ actions),
              ap (λ l. slice_get l (length (did ++ actions))) (sym same)
                  ∙ got_after (did ++ actions) (here ∷ []) 0 here refl (length (did ++ actions))
                  (omega arith)
                  ∙ ap (λ (z : ℕ × List ℕ). Some (HasPut z.0 z.1)) (λ i. (number i, is i)),
            )
      ]
  more_answered did h e _ (Marks d actions mark more can) k message at =
      grind (arith, common_steps, slice_get, append_assoc, got_before)

-- ---- while the page is at home
-- who holds no page has all that waits in its batch
all_wait : {E : Type 0} (c : Core E) (ph : Phase E) → ((t : ℕ) → held_of ph ≡ Some t → ⊥)
    → waiting_at c ph ≡ c.queue.messages
all_wait c phase.Resting not = refl
all_wait c (phase.Electing t e) not = refl
all_wait c (phase.Taken t) not = absurd (not t refl)
all_wait c (phase.Holding t page stored published) not = absurd (not t refl)
all_wait c (phase.Giving t reason) not = absurd (not t refl)

module _ {E : Type 0} (X : Election E) (x : Layout) (reuse : Option ℕ) (bases : List ℕ)
    (most : ℕ → ℕ → ℕ)
    (L : AutomatonLaws (process_of X) (bus_of X x reuse bases))
    (s : State (Option Page) (View (Sender E)))
    (h : HasHistory X x reuse bases most s) (page : Page)
    (home : s.homes ≡ slot_of (Some page) ∷ [])
    (j : ℕ) (v : Sender E) (sender_trail : SenderTrail) (shown : Shown s j v sender_trail) where
  abbrev m : Machine E
  m = h.history.machine

  abbrev T : Trails
  T = h.history.trails

  abbrev me : ℕ
  me = v.core.me

  at_home : m.home ≡ Some page
  at_home = slot_is m.home page (some-injective _ _
      (ap (λ (hs : List (maybe.Option (Option Page))). get_elem? hs 0) (sym h.homes ∙ home)))

  there : slice_get m.senders me ≡ Some v
  there = h.senders j v sender_trail shown

  trail_is : T.actions me ≡ sender_trail.actions
  trail_is = ap (λ (t : SenderTrail). t.actions) (h.trails j v sender_trail shown)

  below : me < MOST_SENDERS
  below =
      let few = h.reached.served.senders in
      let one = (L.senders h.history me v h.reached there).below in omega arith

  stage : stage_of m ≡ 2 * page.tenures
  stage = grind (arith, common_steps, slice_index, at_home)

  waits : waiting_at v.core v.core.phase ≡ v.core.queue.messages
  waits = all_wait v.core v.core.phase
      (λ t held. let odd = h.promised.by.holds me v t there held in let even = stage in omega arith)

  sent : puts (T.actions me)
      ≡ map (λ (i : Item). i.message) (of_sender me h.promised.order) ++ v.core.queue.messages
  sent = grind (arith, common_steps, there, map, waits)

  pub first_is : slice_index page.next me ≡ v.core.queue.first
  first_is =
      let knows = (h.promised.by.knows page at_home).next me below in
      let numbers = (h.promised.by.remembers me v there).numbers in
      grind (arith, common_steps, length, sent, length-append, map, length-map)

  pub were_answered : WereAnswered sender_trail.actions v.core.queue.first v.core.queue.messages
  were_answered k bytes at =
      let front = map (λ (i : Item). i.message) (of_sender me h.promised.order) in
      let found = ap (λ l. slice_get l (length front + k)) sent
      ∙ got_after front v.core.queue.messages k bytes at (length front + k) refl in
      let w = was_put (T.actions me) (length front + k) bytes found in
      let number = h.promised.by.promises.numbered me w.place w.number bytes w.at in
      grind (arith, common_steps, at_home, below, first_is, length-map, slice_get, trail_is)

  module _ (K : ProcessLaws (process_of X)) where
    abbrev P : Process (Sender E)
    P = process_of X

    first_same : (P.queue v).first ≡ v.core.queue.first
    first_same = queue_same (λ q. q.first) (λ q. refl) v.core.queue v.reuse

    messages_same : (P.queue v).messages ≡ v.core.queue.messages
    messages_same = queue_same (λ q. q.messages) (λ q. refl) v.core.queue v.reuse

    -- of what its seat shows
    shown_answered : WereAnswered sender_trail.actions (P.queue v).first (P.queue v).messages
    shown_answered = subst (λ (z : ℕ × List (List ℕ)). WereAnswered sender_trail.actions z.0 z.1)
        (λ i. (sym first_same i, sym messages_same i)) were_answered

    -- and of what it has accepted since
    pub go_on : (d : Sender E) (actions : List Action) → Accepts P v d actions
        → (slice_index page.next (P.me d) ≡ (P.queue d).first)
        × WereAnswered (sender_trail.actions ++ actions) (P.queue d).first (P.queue d).messages
    go_on d actions more =
        let k = stays P K v d actions more in (
          ap (slice_index page.next) k.me ∙ first_is ∙ sym (k.first ∙ first_same),
          subst (λ n. WereAnswered (sender_trail.actions ++ actions) n (P.queue d).messages)
              (sym k.first)
              (more_answered P K v sender_trail.actions shown_answered d actions more),
        )

-- the next number of a sender at its start is its first
pub next_new : {E : Type 0} (X : Election E) (x : Layout) (p : ℕ) (reuse : Option ℕ) (first : ℕ)
    → next_of ((process_of X).queue (new_sender x p reuse first)) ≡ first
next_new {E} X x p reuse first = grind (arith, common_steps, queue_same)

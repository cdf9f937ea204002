-- What the calls of a program say of each event, by what it holds.
use Rattle.std.proofs.Common.{◌≡◌, ℕ, ◌<◌, ◌≤◌, Bool, true, false, cond, Option, Some, None, List}
use Rattle.std.proofs.Common.{get_or, length, slice_get, slice_index, slice_set, refl, sym, ◌∙◌, ap}
use Rattle.std.proofs.Common.{subst, arith}
use Rattle.std.specs.Prelude.{All, IfSome, Result, Ok, Err, IfOk, IfErr, OnOk, OnErr}
use Rattle.std.proofs.lemmas.Option.{slice_get_past}
use Rattle.std.proofs.lemmas.Grind.{common_steps}
use Rattle.bus_core.specs.Senders.{Sender}
use Rattle.bus_core.specs.Table.{Line, line_now}
use Rattle.bus_deliverylog.specs.Receiving.{Receiving, with_leave, receiving_op, leaving_op}
use Rattle.bus_deliverylog.specs.declared.receiving.RecvTurn.{RecvTurn}
use Rattle.bus_register.specs.Words.{register}
use Rattle.bus_register.specs.declared.registers.Op.{Op}
use Rattle.bus_adoptcommit.specs.declared.verdicts.Verdict.{Verdict}
use Rattle.bus_core.specs.Causes.{IsCaused}
use Rattle.bus_register.specs.Protocol.{Protocol}
use Rattle.bus_tenure.specs.Core.{Election}
use Rattle.bus_tenure.specs.Elections.{Elector}
use Rattle.bus_tenure.specs.declared.pages.Page.{Page}
use Rattle.bus_tenure.specs.declared.turns.Turn.{Turn as Answered}
use Rattle.bus_world.proofs.PlayingLaws.{set_same, one_there}
use Rattle.bus_world.proofs.Stopping.{set_there}
use Rattle.bus_batch.specs.declared.messages.Mark.{Mark}
use Rattle.bus_world.specs.Playing.{asked_answer}
use Rattle.bus_world.specs.Turning.{words_after, owners_by}
use Rattle.bus_world.specs.World.{Put, Ask, Turn, Recv, Stop, Gone, RecvDoes}
use Rattle.bus_world.specs.declared.events.Answer.TheVariants as answer
use Rattle.bus_world.specs.declared.events.StepFault.{StepFault}
use Rattle.bus_world.specs.declared.events.StepFault.TheVariants as fault
use Rattle.bus_machine.proofs.Calls.Holding.{held_after}
use Rattle.bus_machine.specs.Machine.{Machine, Happens, IsOnWord, going, has_stopped, with_sender}
use Rattle.bus_machine.specs.Machine.{machine_after, owners_told, turn_answer}
use Rattle.bus_machine.specs.Playing.{IsHeld, Refused, Refuses, SenderRefused, PutRefused}
use Rattle.bus_machine.specs.Playing.{CloseRefused}
use Rattle.bus_machine.specs.Telling.{StepTells, SenderSays, Says, SenderCauses, Causes}
use Rattle.bus_machine.specs.Turning.{HasTaken, HasShut, HasTurned}

-- ---- results
pub by_result : {A F : Type 0} (r : Result A F) (P : A → Type 0) (Q : F → Type 0) (C : Type 0)
    → IfOk r P → IfErr r Q → ((a : A) → P a → C) → ((e : F) → Q e → C) → C
by_result (Ok a) P Q C p q f g = f a p
by_result (Err e) P Q C p q f g = g e q

pub unit_result : {F : Type 0} (r : Result (Unit {0}) F) (P : Type 0) (Q : F → Type 0) (C : Type 0)
    → OnOk r P → IfErr r Q → (P → C) → ((e : F) → Q e → C) → C
unit_result (Ok a) P Q C p q f g = f p
unit_result (Err e) P Q C p q f g = g e q

pub ok_more : {A F : Type 0} (r : Result A F) (P Q : A → Type 0) → IfOk r P → ((a : A) → P a → Q a)
    → IfOk r Q
ok_more (Ok a) P Q p f = f a p
ok_more (Err e) P Q p f = tt

pub unit_more : {F : Type 0} (r : Result (Unit {0}) F) (P Q : Type 0) → OnOk r P → (P → Q)
    → OnOk r Q
unit_more (Ok a) P Q p f = f p
unit_more (Err e) P Q p f = tt

-- two facts of a fault
pub err_more : {A F : Type 0} (r : Result A F) (P : F → Type 0) (N : Type 0) (Q : F → Type 0)
    → IfErr r P → OnErr r N → ((e : F) → P e → N → Q e) → IfErr r Q
err_more (Ok a) P N Q p n f = tt
err_more (Err e) P N Q p n f = f e p n

pub err_both : {A F : Type 0} (r : Result A F) (P : F → Type 0) (N : Type 0) → IfErr r P → OnErr r N
    → IfErr r (λ e. P e × N)
err_both (Ok a) P N p n = tt
err_both (Err e) P N p n = (p, n)

-- ---- who is refused
module _ {E : Type 0} where
  own_cause :
      (o : Option (Sender E)) (t : Bool) (why : StepFault) (own : Sender E → Type 0) (v : Sender E)
      → o ≡ Some v → t ≡ false → own v → SenderRefused o t why own
  own_cause None t why own v e f h = absurd (let bad : None ≡ Some v = e in cc)
  own_cause (Some u) true why own v e f h = absurd (let bad : true ≡ false = f in cc)
  own_cause (Some u) false why own v e f h =
      let same : v ≡ u = let i : Some u ≡ Some v = e in cc in subst own same h

  other_cause : (o : Option (Sender E)) (t : Bool) (why : StepFault) (own : Sender E → Type 0)
      → SenderRefused o t why (λ v. ⊥) → SenderRefused o t why own
  other_cause None t why own w = w
  other_cause (Some v) true why own w = w
  other_cause (Some v) false why own w = absurd w

  as_stopped : (o : Option (Sender E)) (t : Bool) (own : Sender E → Type 0) (v : Sender E)
      → o ≡ Some v → t ≡ true → SenderRefused o t fault.Stopped own
  as_stopped None t own v e f = absurd (let bad : None ≡ Some v = e in cc)
  as_stopped (Some u) true own v e f = refl
  as_stopped (Some u) false own v e f = absurd (let bad : false ≡ true = f in cc)

  as_unknown : (o : Option (Sender E)) (t : Bool) (own : Sender E → Type 0) → o ≡ None
      → SenderRefused o t fault.NoSuchSender own
  as_unknown None t own e = refl
  as_unknown (Some v) t own e = absurd (let bad : Some v ≡ None = e in cc)

  -- who is there and has stopped is refused as such, and who is not there as that
  pub stop_late : (m now : Machine E) → m ≡ now → (p : ℕ) → p < length m.senders
      → get_or m.stopped p false ≡ true → Refused now (Stop p) fault.Stopped
  stop_late m now is p l e = let there = one_there m.senders p l in
      grind (arith, common_steps, as_stopped, slice_get, set_there)

  pub stop_unknown : (m now : Machine E) → m ≡ now → (p : ℕ) → length m.senders ≤ p
      → Refused now (Stop p) fault.NoSuchSender
  stop_unknown m now is p l = subst (λ y. Refused y (Stop p) fault.NoSuchSender) is
      (as_unknown (slice_get m.senders p) (has_stopped m p) (λ v. ⊥) (slice_get_past m.senders p l))

  module _ (now : Machine E) (p : ℕ) (why : StepFault) (w : Refused now (Stop p) why) where
    pub put_unknown : (bytes : List ℕ) → Refuses now (Put p bytes) why now
    put_unknown bytes = grind (arith, common_steps, other_cause, slice_get, length)

    pub mark_unknown : (asked : Mark) → Refuses now (Ask p asked) why now
    mark_unknown asked = grind (arith, common_steps, other_cause, slice_get)

    pub turn_unknown : (word : ℕ) → Refuses now (Turn p word) why now
    turn_unknown word = record { refused = w; nothing = refl }

    pub stop_refused : Refuses now (Stop p) why now
    stop_refused = record { refused = w; nothing = refl }

-- ---- what happens
module _ {E : Type 0} (X : Election E) (m : Machine E) (h : IsHeld X m) (now : Machine E)
    (is : m ≡ now) where
  pub senders_many : (p : ℕ) → p < length now.senders → p < length m.senders
  senders_many p l = subst (λ (y : Machine E). p < length y.senders) (sym is) l

  pub receivers_many : (r : ℕ) → r < length now.receivers → r < length m.receivers
  receivers_many r l = subst (λ (y : Machine E). r < length y.receivers) (sym is) l

  -- ---- a sender that goes on
  module _ (p : ℕ) (v : Sender E) (at : slice_get m.senders p ≡ Some v)
      (free : has_stopped now p ≡ false) where
    free_here : has_stopped m p ≡ false
    free_here = subst (λ y. has_stopped y p ≡ false) (sym is) free

    pub goes : going m p ≡ Some v
    goes = ap (λ t. cond t None (slice_get m.senders p)) free_here ∙ at

    same_sender : (v' : Sender E) → v' ≡ v → with_sender m p v' ≡ now
    same_sender v' e =
        ap (with_sender m p) e ∙ ap (λ l. record m { senders = l }) (set_same m.senders p v at) ∙ is

    -- ---- a put
    module _ (bytes : List ℕ) (small : All (λ byte. byte < 256) bytes) (v' : Sender E) where
      put_does : (number : ℕ) → HasTaken v bytes number v'
          → Happens X m (Put p bytes) (answer.Number number) (with_sender m p v')
      put_does number t = grind (arith, common_steps, goes)

      pub put_happens : (r : Result ℕ StepFault) → IfOk r (λ number. HasTaken v bytes number v')
          → IfOk r
          (λ number. Happens X now (Put p bytes) (answer.Number number) (with_sender m p v'))
      put_happens r t = grind (arith, common_steps, ok_more, put_does)

      pub put_refuses : (r : Result ℕ StepFault) → IfErr r (λ why. PutRefused (length bytes) why v)
          → OnErr r (v' ≡ v) → IfErr r (λ why. Refuses now (Put p bytes) why (with_sender m p v'))
      put_refuses r w same =
          grind (arith, err_more, own_cause, slice_get, length, free_here, same_sender)

      pub put_sits : (r : Result ℕ StepFault) → IfOk r (λ number. HasTaken v bytes number v')
          → IfErr r (λ why. PutRefused (length bytes) why v) → OnErr r (v' ≡ v)
          → IsHeld X (with_sender m p v')
      put_sits r t w same = by_result r _ _ (IsHeld X (with_sender m p v')) t
          (err_both r _ _ w same)
          (λ number k. held_after X m _ (Put p bytes) _ h (put_does number k))
          (λ why k. subst (IsHeld X) (sym (same_sender v' k.1 ∙ sym is)) h)

    -- ---- a close or a leave
    module _ (asked : Mark) (v' : Sender E) where
      mark_does : HasShut v asked v'
          → Happens X m (Ask p asked) (asked_answer asked) (with_sender m p v')
      mark_does t = grind (arith, common_steps, goes)

      pub mark_happens : (r : Result (Unit {0}) StepFault) → OnOk r (HasShut v asked v')
          → OnOk r (Happens X now (Ask p asked) (asked_answer asked) (with_sender m p v'))
      mark_happens r t = grind (arith, common_steps, unit_more, mark_does)

      pub mark_refuses : (r : Result (Unit {0}) StepFault) → IfErr r (λ why. CloseRefused why v)
          → OnErr r (v' ≡ v) → IfErr r (λ why. Refuses now (Ask p asked) why (with_sender m p v'))
      mark_refuses r w same =
          grind (arith, common_steps, err_more, own_cause, slice_get, free_here, same_sender)

      pub mark_sits : (r : Result (Unit {0}) StepFault) → OnOk r (HasShut v asked v')
          → IfErr r (λ why. CloseRefused why v) → OnErr r (v' ≡ v) → IsHeld X (with_sender m p v')
      mark_sits r t w same = unit_result r _ _ (IsHeld X (with_sender m p v')) t
          (err_both r _ _ w same) (λ k. held_after X m _ (Ask p asked) _ h (mark_does k))
          (λ why k. subst (IsHeld X) (sym (same_sender v' k.1 ∙ sym is)) h)

    -- ---- a stop
    abbrev with_stop : Machine E
    with_stop = record m { stopped = slice_set m.stopped p true }

    stop_does : Happens X m (Stop p) answer.Stopped with_stop
    stop_does = record { sender = v; goes = goes; answered = refl; after = refl }

    pub stop_happens : Happens X now (Stop p) answer.Stopped with_stop
    stop_happens = subst (λ y. Happens X y (Stop p) answer.Stopped with_stop) is stop_does

    pub stop_sits : IsHeld X with_stop
    stop_sits = held_after X m with_stop (Stop p) answer.Stopped h stop_does

    -- ---- a turn
    module _ (word : ℕ) (words' : List ℕ) (home' : Option Page) (v' : Sender E) (owners' : List ℕ)
        (t : Answered) (turned : HasTurned (line_now X v) m.words m.home word t words' home' v')
        (owners : owners' ≡ owners_told m.reuse (owners_by t p m.owners)) where
      abbrev with_turn : Machine E
      with_turn = record m {
        words = words';
        home = home';
        senders = slice_set m.senders p v';
        owners = owners';
      }

      abbrev l : Line E
      l = line_now X v

      within : (o : Option Op) → IfSome o (λ q. register q < length m.words) → IsOnWord m o
      within None k = tt
      within (Some o) k = k

      owners_are : owners' ≡ owners_told m.reuse (owners_by (turn_answer m l word) p m.owners)
      owners_are = owners ∙ ap (λ a. owners_told m.reuse (owners_by a p m.owners)) turned.answer_is

      turn_is : with_turn ≡ machine_after m p l word
      turn_is = cc

      turn_does : Happens X m (Turn p word) (answer.Turn t) with_turn
      turn_does = grind (arith, common_steps, goes, within, turn_is)

      pub turn_happens : Happens X now (Turn p word) (answer.Turn t) with_turn
      turn_happens = subst (λ y. Happens X y (Turn p word) (answer.Turn t) with_turn) is turn_does

      pub turn_says : StepTells X m.words v (l.op word) word t
          → Says X now (Turn p word) (answer.Turn t)
      turn_says w = subst (λ y. Says X y (Turn p word) (answer.Turn t)) is
          (subst (λ o. SenderSays X m.words o word (answer.Turn t)) (sym goes) w)

      pub turn_sits : IsHeld X with_turn
      turn_sits = held_after X m with_turn (Turn p word) (answer.Turn t) h turn_does

  -- ---- a receiver that has not left
  module _ (r : ℕ) (v : Receiving) (at : slice_get m.receivers r ≡ Some v)
      (free : (w : Receiving) → slice_get now.receivers r ≡ Some w → w.gone ≡ false) where
    stays : v.gone ≡ false
    stays = free v (subst (λ (y : Machine E). slice_get y.receivers r ≡ Some v) is at)

    on_word : (o : Option Op) → IfSome o (λ q. register q < length m.words) → IsOnWord m o
    on_word None k = tt
    on_word (Some o) k = k

    -- ---- a turn
    module _ (next : Receiving) (t : RecvTurn) (words' : List ℕ)
        (low : IfSome (receiving_op v) (λ q. register q < length m.words))
        (does : RecvDoes (slice_index m.words) v t next)
        (same : words' ≡ words_after m.words (receiving_op v)) where
      abbrev with_reader : Machine E
      with_reader = record m { words = words'; receivers = slice_set m.receivers r next }

      recv_does : Happens X m (Recv r) (answer.Recv t) with_reader
      recv_does = grind (arith, common_steps, stays, on_word, slice_set)

      pub recv_happens : Happens X now (Recv r) (answer.Recv t) with_reader
      recv_happens = subst (λ y. Happens X y (Recv r) (answer.Recv t) with_reader) is recv_does

      pub recv_sits : IsHeld X with_reader
      recv_sits = held_after X m with_reader (Recv r) (answer.Recv t) h recv_does

    -- ---- its leave
    module _ (left : Receiving) (words' : List ℕ)
        (low : IfSome (leaving_op v) (λ q. register q < length m.words))
        (left_is : left ≡ with_leave v)
        (same : words' ≡ words_after m.words (leaving_op v)) where
      abbrev without : Machine E
      without = record m { words = words'; receivers = slice_set m.receivers r left }

      gone_does : Happens X m (Gone r) answer.Gone without
      gone_does = grind (arith, common_steps, stays, on_word, slice_set)

      pub gone_happens : Happens X now (Gone r) answer.Gone without
      gone_happens = subst (λ y. Happens X y (Gone r) answer.Gone without) is gone_does

      pub gone_sits : IsHeld X without
      gone_sits = held_after X m without (Gone r) answer.Gone h gone_does

-- ---- why it takes its step
module _ {S : Type 0} (X : Election (Elector S)) (Q : Protocol S Bool Verdict)
    (m : Machine (Elector S)) (h : IsHeld X m) (now : Machine (Elector S)) (is : m ≡ now) (p : ℕ)
    (v : Sender (Elector S)) (at : slice_get m.senders p ≡ Some v)
    (free : has_stopped now p ≡ false) where
  pub turn_causes : (word : ℕ) → IsCaused X Q v → Causes X Q now (Turn p word)
  turn_causes word w = subst (λ y. Causes X Q y (Turn p word)) is
      (subst (SenderCauses X Q) (sym (goes X m h now is p v at free)) w)

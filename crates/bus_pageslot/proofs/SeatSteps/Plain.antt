-- The turn of a sender with which no page moves: its step alone.
use Rattle.std.proofs.Common.{◌≡◌, ℕ, ◌+◌, ◌<◌, ◌≤◌, ne_eqb, arith, Bool, true, false, cond}
use Rattle.std.proofs.Common.{Option, Some, None, IsSome, [], refl, sym, ◌∙◌, ap, subst}
use Rattle.std.proofs.lemmas.Bool.{true≢false}
use Rattle.std.proofs.lemmas.Grind.{common_steps}
use Rattle.atomic_table.specs.declared.shared.Seat.{Seat}
use Rattle.bus_register.specs.declared.registers.Op.{Op}
use Rattle.bus_register.specs.declared.registers.Op.TheVariants.{Store}
use Rattle.bus_register.specs.Words.{register}
use Rattle.bus_tenure.specs.Situations.{Stays}
use Rattle.bus_tenure.specs.declared.pages.Page.{Page}
use Rattle.bus_tenure.specs.declared.turns.Turn.{Turn}
use Rattle.bus_tenure.specs.declared.turns.Turn.TheVariants as turn
use Rattle.bus_tenure.specs.declared.turns.Turn.TheVariants.{Going}
use Rattle.bus_tenure.specs.Classes.{still_goes}
use Rattle.bus_world.specs.Headline.{puts}
use Rattle.rand_core.specs.Stream.{Stream}
use Rattle.bus_automaton.specs.Lawful.{ProcessLaws}
use Rattle.bus_automaton.specs.Processes.{Process}
use Rattle.atomic_table.specs.Seated.{TableId}
use Rattle.bus_pageslot.specs.Seats.{SenderSeat, Shows, TookAndTold, actions_of}
use Rattle.bus_pageslot.specs.Steps.{stored_by, Gone, IsDue, carried_of, out_with, laid_at}
use Rattle.bus_pageslot.specs.Steps.{slot_in, slots_emptied}
use Rattle.bus_pageslot.specs.Steps.Accepts.{Nothing}
use Rattle.bus_pageslot.specs.declared.rule.View.{View}
use Rattle.bus_pageslot.specs.Turns.{Tellings, TurnsPlainly, GoesPlainly, NoneYet, Next, AsksOn}
use Rattle.bus_pageslot.specs.Turns.{Goes, DrawsOn, word_drawn, TakesOn, Again}
use Rattle.bus_pageslot.proofs.Sends.Sending.{turned_puts, drawn_on}
use Rattle.bus_pageslot.proofs.SeatSteps.Walks.{core_is, notes_now, laid_now, numbered_now, me_now}
use Rattle.bus_pageslot.proofs.SeatSteps.Walks.{all_now}
use Rattle.bus_pageslot.proofs.SeatSteps.Walks.{counted_now, wide_now}

module _ {C : Type 0} (P : Process C) (d : C) (stays : P.move d ≡ Stays) where
  -- its step is due
  pub due_staying : (s : Seat (Option Page) (View C)) (word : ℕ) (o : Op) → Shows P d s
      → P.op d word ≡ Some o → register o < (P.table_layout d).words
      → IsDue P d word s.me s.table_id.words o
  due_staying s word o shows due below = grind (arith, common_steps)

  module _ (K : ProcessLaws P) (s s' : Seat (Option Page) (View C)) (word got : ℕ)
      (shows : Shows P d s) (handed : d ≡ P.handed d)
      (gone : Gone P d word s.me got s'.me) (d' : C) (fed : d' ≡ P.fed d got word)
      (same : s'.table_id ≡ s.table_id) where
    carried : s.me.1 ≡ carried_of (P.holds d)
    carried = ap (λ x. x.1) shows.me

    out : s.me ≡ (s.me.0, out_with (P.move d) s.me.1)
    out = λ i. (s.me.0, out_with (sym stays i) s.me.1)

    waits_not : P.awaits d' ≡ false
    waits_not = grind (arith, common_steps)

    laid : d' ≡ laid_at P d' (P.awaits d') (slot_in s'.me.1)
    laid = λ i. laid_at P d' (sym waits_not i) (slot_in s'.me.1)

    emptied : s'.me ≡ (s'.me.0, slots_emptied (P.awaits d') s'.me.1)
    emptied = λ i. (s'.me.0, slots_emptied (sym waits_not i) s'.me.1)

    -- the seat shows the sender
    pub shows_staying : Shows P d' s'
    shows_staying = record {
      shown = d';
      actions = [];
      accepts = Nothing;
      counted = counted_now P K d s.me s.me s'.me word got carried d d' handed out gone fed s'.me d'
          laid emptied;
      me = me_now P K d s.me s.me s'.me word got carried d d' handed out gone fed s'.me d' laid
          emptied;
      laid = laid_now P K d s.me s.me s'.me word got carried d d' handed out gone fed s'.me d' laid
          emptied;
      numbered = numbered_now P K d s.me s.me s'.me word got carried d d' handed out gone fed s'.me
          d' laid emptied;
      words = wide_now P K d s.me s.me s'.me word got carried d d' handed out gone fed s'.me d' laid
          emptied s'.table_id.words (ap (λ (z : TableId). z.words) same ∙ shows.words);
      slots = ap (λ (z : TableId). z.slots) same ∙ shows.slots;
    }

    -- it took its turn, of which this is told
    pub told_staying : (Tells : C → ℕ → ℕ → Turn → Type 0) (turn : Turn)
        → turn ≡ P.answer d got word → Tells d got word turn
        → TookAndTold P Tells (record { core = d; seat = s }) word turn
        (record { core = d'; seat = s' })
    told_staying Tells turn answer tells = record {
      took = record {
        got = got;
        found = gone.found;
        told = gone.told;
        home = gone.home;
        taken = gone.taken;
        same_core = gone.core;
        same_answer = gone.answer;
        core = core_is P K d s.me s.me s'.me word got carried d d' handed out gone fed s'.me d' laid
            emptied;
        answer = answer;
        sender_trail = all_now P K d s.me s.me s'.me word got carried d d' handed out gone fed s'.me
            d' laid emptied;
        notes = notes_now P K d s.me s.me s'.me word got carried d d' handed out gone fed s'.me d'
            laid emptied;
      };
      tells = tells;
    }

-- where a step is due there is one
pub due_some : (o : Option Op) → IsSome o → o ≡ None → ⊥
due_some None some none = absurd (true≢false (sym some))
due_some (Some o) some none = cc

-- a store behind the length leaves the length that was stored last
pub stored_behind : (at value before : ℕ) → 2 ≤ at
    → stored_by (Some (Store record { 0 = at } value)) before ≡ before
stored_behind at value before behind =
    ap (λ b. cond b value before) (ne_eqb at 0 (λ e. absurd (omega arith)))

-- ---- turns that answer Going and draw no word, one after another
-- nobody asks behind one
plain_asking : {C F : Type 0} {L : C → Type 0} (P : Process C) (T : Tellings C)
    (Tells : F → Bool → F → Type 0) (first : SenderSeat C) (given f : F) (old new : SenderSeat C)
    → AsksOn P T Tells first given old f → TurnsPlainly P T L old new
    → AsksOn P T Tells first given new f
plain_asking P T Tells first given f old new before one =
    Goes old f 0 Going new before one.turned refl refl

-- nor behind more
pub goes_asking : {C F : Type 0} {L : C → Type 0} (P : Process C) (T : Tellings C)
    (Tells : F → Bool → F → Type 0) (first : SenderSeat C) (given f : F) (old : SenderSeat C)
    (count : ℕ) (new : SenderSeat C) → AsksOn P T Tells first given old f
    → GoesPlainly P T L old count new → AsksOn P T Tells first given new f
goes_asking P T Tells first given f old _ _ before NoneYet = before
goes_asking P T Tells first given f old _ _ before (Next n mid new goes one) =
    plain_asking P T Tells first given f mid new
    (goes_asking P T Tells first given f old n mid before goes) one

-- one draws no word
plain_drawing : {C : Type 0} {L : C → Type 0} (P : Process C) (T : Tellings C)
    (first : SenderSeat C) (given words : Stream) (old new : SenderSeat C)
    → DrawsOn P T first given old words → TurnsPlainly P T L old new
    → DrawsOn P T first given new words
plain_drawing P T first given words old new before one =
    drawn_on P T first given old words 0 Going new words
    (ap (λ b. word_drawn b words) (sym one.wordless)) before one.turned

-- nor do more
pub goes_drawing : {C : Type 0} {L : C → Type 0} (P : Process C) (T : Tellings C)
    (first : SenderSeat C) (given words : Stream) (old : SenderSeat C) (count : ℕ)
    (new : SenderSeat C) → DrawsOn P T first given old words → GoesPlainly P T L old count new
    → DrawsOn P T first given new words
goes_drawing P T first given words old _ _ before NoneYet = before
goes_drawing P T first given words old _ _ before (Next n mid new goes one) =
    plain_drawing P T first given words mid new
    (goes_drawing P T first given words old n mid before goes) one

-- none puts a message
pub goes_putting : {C : Type 0} {L : C → Type 0} (P : Process C) (T : Tellings C) → ProcessLaws P
    → (old : SenderSeat C) (count : ℕ) (new : SenderSeat C) → GoesPlainly P T L old count new
    → puts (actions_of P new) ≡ puts (actions_of P old)
goes_putting P T K old _ _ NoneYet = refl
goes_putting P T K old _ _ (Next n mid new goes one) =
    turned_puts P T K mid 0 Going new one.turned ∙ goes_putting P T K old n mid goes

-- where none was taken nothing changed
pub goes_nowhere : {C : Type 0} {L : C → Type 0} (P : Process C) (T : Tellings C)
    (old : SenderSeat C) (count : ℕ) (new : SenderSeat C) → GoesPlainly P T L old count new
    → count ≡ 0 → new ≡ old
goes_nowhere P T old _ _ NoneYet none = refl
goes_nowhere P T old _ _ (Next n mid new goes one) none = absurd (omega (arith, none))

-- ---- turns of a caller that gives the first of them a word
-- an answer after which they go on
going_is : (a : Turn) → still_goes a ≡ true → a ≡ Going
going_is turn.Idle e = absurd (true≢false (sym e))
going_is turn.Waiting e = absurd (true≢false (sym e))
going_is turn.Going e = refl
going_is (turn.Lost tenure owner) e = absurd (true≢false (sym e))
going_is (turn.Own tenure) e = absurd (true≢false (sym e))
going_is (turn.Delivered tenure first last) e = absurd (true≢false (sym e))
going_is (turn.Left tenure) e = absurd (true≢false (sym e))
going_is turn.Full e = absurd (true≢false (sym e))
going_is turn.Closed e = absurd (true≢false (sym e))
going_is turn.Spent e = absurd (true≢false (sym e))
going_is (turn.Behind tenure sender) e = absurd (true≢false (sym e))

-- so many more behind such an answer, all plain
pub takes_plainly : {C : Type 0} {P : Process C} {T : Tellings C} {L : C → Type 0}
    {first old : SenderSeat C} {word n : ℕ} (answer : Turn) (count : ℕ) (new : SenderSeat C)
    → TakesOn P T first word n answer old → still_goes answer ≡ true
    → GoesPlainly P T L old count new → TakesOn P T first word (n + count) answer new
takes_plainly {P = P} {T = T} {first = first} {old = old} {word = word} {n = n} answer _ _ on goes
    NoneYet = grind (arith, common_steps)
takes_plainly {P = P} {T = T} {first = first} {word = word} {n = n} answer _ _ on goes
    (Next k mid new row one) =
    let same : n + k + 1 ≡ n + (k + 1) = omega arith in
    subst (λ m. TakesOn P T first word m answer new) same
    (subst (λ a. TakesOn P T first word (n + k + 1) a new) (sym (going_is answer goes))
    (Again (n + k) answer mid 0 Going new (takes_plainly answer k mid on goes row) goes one.wordless
    one.turned))

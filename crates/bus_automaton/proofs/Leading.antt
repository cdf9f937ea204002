-- What a sender of the one machine may do leads on, with a row for each tenure and with rows that
-- are used again.
use Rattle.std.proofs.Common.{◌≡◌, ◌≢◌, ℕ, zero, suc, ◌<◌, cond, eq-eqb, false, Option, Some, None}
use Rattle.std.proofs.Common.{List, [], ◌∷◌, ◌++◌, length, slice_get, slice_index, replicate, refl}
use Rattle.std.proofs.Common.{sym, ◌∙◌, ap, subst}
use Rattle.std.specs.Prelude.{All}
use Rattle.std.proofs.lemmas.List.{append-nil}
use Rattle.std.proofs.lemmas.Option.{slice_get_within}
use Rattle.bus_register.specs.declared.limits.TheConstants.{MOST_SENDERS}
use Rattle.bus_batch.specs.Batches.{Pending, next_of, CanPut, CanClose}
use Rattle.bus_batch.specs.declared.messages.Mark.{Mark}
use Rattle.bus_batch.specs.declared.messages.Mark.TheVariants.{End, Leave}
use Rattle.bus_core.specs.Keeping.{queue_of}
use Rattle.bus_core.specs.Senders.{Sender, Situation, Does, Announces, Validates, Unpins}
use Rattle.bus_core.specs.Senders.{Withdraws, Scans, Clears, ReadsPassed, situation}
use Rattle.bus_core.specs.Table.{Line, line_now}
use Rattle.bus_core.specs.declared.reuses.Reuse.{Reuse}
use Rattle.bus_machine.proofs.Memory.EachSender.{actions_of_it, actions_of_other, entered_beside}
use Rattle.bus_presence.specs.Reclamation.{Entry, Trails as Entries}
use Rattle.bus_register.specs.Private.TableLaws.{get_set_same, get_set_other}
use Rattle.bus_register.specs.Words.{register}
use Rattle.bus_register.specs.declared.registers.Op.{Op}
use Rattle.bus_tenure.specs.Core.{Election, Layout}
use Rattle.bus_tenure.specs.declared.turns.Turn.{Turn as Answered}
use Rattle.bus_world.specs.Headline.{Action, HasPut, HasMarked}
use Rattle.bus_world.specs.Trails.{step_action, actions_with}
use Rattle.bus_world.specs.Turning.{words_after, number_found}
use Rattle.bus_world.specs.World.{Put, Ask, Turn, is_set, no_stops}
use Rattle.bus_world.specs.declared.events.Answer.TheVariants as answer
use Rattle.bus_machine.specs.Machine.{Machine, Trails, Reached, Then, Happens, IsOnWord, going}
use Rattle.bus_machine.specs.Machine.{with_sender, put_in, mark_in, machine_after, found}
use Rattle.bus_machine.specs.Machine.{turn_answer, trails_grown, turn_trails, turn_grown, entered}
use Rattle.bus_machine.specs.Machine.{words_of_frame}
use Rattle.bus_automaton.specs.Lawful.{AcceptsIn, StepsIn, LogGrows}
use Rattle.bus_automaton.specs.SenderTrails.{with_sender_trail}
use Rattle.bus_automaton.specs.OneAutomaton.{MachineHistory, IsMachineHistory, trail_of, bus_of}
use Rattle.bus_automaton.proofs.Turns.{queue_is}
use Rattle.bus_automaton.specs.OneProcess.{entries, adds_by, process_of}

-- ---- who goes on
-- nobody has stopped among those of whom none has
pub none_set : (n s : ℕ) → is_set (slice_get (replicate n false) s) ≡ false
none_set zero s = refl
none_set (suc n) zero = refl
none_set (suc n) (suc s) = none_set n s

-- so each sender that there is goes on
pub all_go : {E : Type 0} (m : Machine E) → m.stopped ≡ no_stops → (s : ℕ)
    → going m s ≡ slice_get m.senders s
all_go m none s = ap (λ t. cond t None (slice_get m.senders s))
    (ap (λ l. is_set (slice_get l s)) none ∙ none_set MOST_SENDERS s)

-- the next number of its batch, also while that is on its way
next_is : (q : Pending) (r : Option Reuse) → next_of (queue_of q r) ≡ next_of q
next_is q r = ap next_of (queue_is q r)

-- ---- trails
-- a step joins the trail of who took it
own_entered : (T : Entries) (p : ℕ) (o : Option Op) (got : ℕ)
    → entered T p o got p ≡ T p ++ entries o got
own_entered T p None got = sym (append-nil (T p))
own_entered T p (Some o) got =
    ap (λ b. cond b (T p ++ record { op = o; got = got } ∷ []) (T p)) (eq-eqb p p refl)

module _ (bases : List ℕ) (T T' : Trails) (q : ℕ) where
  -- of who did this
  own_trail : (ds : List Action) (es rs : List Entry) → T'.actions q ≡ T.actions q ++ ds
      → T'.pins q ≡ T.pins q ++ es
      → T'.reclaims q ≡ T.reclaims q ++ rs
      → trail_of bases T' q
      ≡ with_sender_trail (trail_of bases T q)
      (record { first = 0; actions = ds; pins = es; reclaims = rs })
  own_trail ds es rs a b c =
      λ n. record { first = slice_index bases q; actions = a n; pins = b n; reclaims = c n }

  -- and of who did nothing
  other_trail : T'.actions q ≡ T.actions q → T'.pins q ≡ T.pins q → T'.reclaims q ≡ T.reclaims q
      → trail_of bases T' q ≡ trail_of bases T q
  other_trail a b c =
      λ n. record { first = slice_index bases q; actions = a n; pins = b n; reclaims = c n }

module _ {E : Type 0} (bases : List ℕ) (l : Line E) (p got word : ℕ) (T : Trails) where
  -- what a step in its tenure is as an action
  abbrev stepped : List Action
  stepped = step_action l.kind l.tenure got (l.chosen got word) (l.answer got word)

  -- after a turn in this situation
  abbrev turned : Situation E → Trails
  turned s = turn_trails s l p got word (l.answer got word) T

  -- all that its sender did by then
  own_turned : (s : Situation E)
      → trail_of bases (turned s) p ≡ with_sender_trail (trail_of bases T p) (adds_by s l got word)
  own_turned (Does z) =
      own_trail bases T (turned (Does z)) p stepped [] [] (actions_of_it p stepped T.actions p refl)
      (sym (append-nil (T.pins p))) (sym (append-nil (T.reclaims p)))
  own_turned (Scans r) = own_trail bases T (turned (Scans r)) p [] [] (entries (l.op word) got)
      (actions_of_it p [] T.actions p refl)
      (sym (append-nil (T.pins p))) (own_entered T.reclaims p (l.op word) got)
  own_turned (Clears r) = own_trail bases T (turned (Clears r)) p [] [] (entries (l.op word) got)
      (actions_of_it p [] T.actions p refl)
      (sym (append-nil (T.pins p))) (own_entered T.reclaims p (l.op word) got)
  own_turned (ReadsPassed t q) =
      own_trail bases T (turned (ReadsPassed t q)) p stepped [] []
      (actions_of_it p stepped T.actions p refl)
      (sym (append-nil (T.pins p))) (sym (append-nil (T.reclaims p)))
  own_turned s = own_trail bases T (turned s) p [] (entries (l.op word) got) []
      (actions_of_it p [] T.actions p refl)
      (own_entered T.pins p (l.op word) got) (sym (append-nil (T.reclaims p)))

  -- and what the others did
  other_turned : (s : Situation E) (q : ℕ) → q ≢ p
      → trail_of bases (turned s) q ≡ trail_of bases T q
  other_turned (Does z) q ne =
      other_trail bases T (turned (Does z)) q (actions_of_other p stepped T.actions q ne) refl refl
  other_turned (Scans r) q ne =
      other_trail bases T (turned (Scans r)) q (actions_of_other p [] T.actions q ne) refl
      (entered_beside T.reclaims p q (l.op word) got ne)
  other_turned (Clears r) q ne =
      other_trail bases T (turned (Clears r)) q (actions_of_other p [] T.actions q ne) refl
      (entered_beside T.reclaims p q (l.op word) got ne)
  other_turned (ReadsPassed t r) q ne =
      other_trail bases T (turned (ReadsPassed t r)) q
      (actions_of_other p stepped T.actions q ne) refl refl
  other_turned s q ne = other_trail bases T (turned s) q (actions_of_other p [] T.actions q ne)
      (entered_beside T.pins p q (l.op word) got ne) refl

-- a step that is due is on a word
pub on_word : {E : Type 0} (m : Machine E) (a : Option Op) (o : Op) → a ≡ Some o
    → register o < length m.words → IsOnWord m a
on_word m a o due low = subst (IsOnWord m) (sym due) low

-- ---- what leads on
module _ {E : Type 0} (X : Election E) (x : Layout) (reuse : Option ℕ) (bases : List ℕ)
    (z : MachineHistory E)
    (h : IsMachineHistory X x reuse bases z) (p : ℕ) (v : Sender E)
    (at : slice_get z.machine.senders p ≡ Some v) where
  abbrev m : Machine E
  m = z.machine

  abbrev T : Trails
  T = z.trails

  -- nobody has stopped
  goes : going m p ≡ Some v
  goes = all_go m h.running p ∙ at

  -- ---- what it accepts
  -- with these actions more
  abbrev did : List Action → Trails
  did ds = record T { actions = actions_with p ds T.actions }

  -- events lead to the machine with this sender in its place
  accepts : (w : Sender E) (ds : List Action) → Reached X (with_sender m p w) (did ds)
      → AcceptsIn (bus_of X x reuse bases) z p w ds
  accepts w ds reached = record {
    state = record { machine = with_sender m p w; trails = did ds };
    changes = record {
      reached = record {
        served = h.served;
        has_rows = h.has_rows;
        layout = h.layout;
        rows_are = h.rows_are;
        bases_are = h.bases_are;
        reached = reached;
        many = h.many;
        rest = h.rest;
        running = h.running;
      };
      passed = λ r. refl;
      here = get_set_same m.senders p w (slice_get_within m.senders p v at);
      others = λ q ne. get_set_other m.senders p w q ne;
      sender_trail =
          λ n. record (trail_of bases T p) { actions = actions_of_it p ds T.actions p refl n };
      nothing_else =
          λ q ne. other_trail bases T (did ds) q (actions_of_other p ds T.actions q ne) refl refl;
    };
    words = refl;
    home = refl;
    log = refl;
  }

  -- it takes a message
  pub takes_message : (bytes : List ℕ) → CanPut (queue_of v.core.queue v.reuse) (length bytes)
      → All (λ byte. byte < 256) bytes
      → AcceptsIn (bus_of X x reuse bases) z p (put_in v bytes)
      (HasPut (next_of (queue_of v.core.queue v.reuse)) bytes ∷ [])
  takes_message bytes can small =
      subst (λ k. AcceptsIn (bus_of X x reuse bases) z p (put_in v bytes) (HasPut k bytes ∷ []))
      (sym (next_is v.core.queue v.reuse))
      (accepts (put_in v bytes) (HasPut (next_of v.core.queue) bytes ∷ [])
      (Then m (with_sender m p (put_in v bytes)) T (Put p bytes)
      (answer.Number (next_of v.core.queue)) h.reached
      (record {
        sender = v;
        goes = goes;
        are_bytes = small;
        can = can;
        answered = refl;
        after = refl;
      })))

  -- it lets a mark wait
  pub takes_mark : (mark : Mark) → CanClose (queue_of v.core.queue v.reuse)
      → AcceptsIn (bus_of X x reuse bases) z p (mark_in v mark) (HasMarked mark ∷ [])
  takes_mark End can = accepts (mark_in v End) (HasMarked End ∷ [])
      (Then m (with_sender m p (mark_in v End)) T (Ask p End) answer.Closing h.reached
      (record { sender = v; goes = goes; can = can; answered = refl; after = refl }))
  takes_mark Leave can = accepts (mark_in v Leave) (HasMarked Leave ∷ [])
      (Then m (with_sender m p (mark_in v Leave)) T (Ask p Leave) answer.Leaving h.reached
      (record { sender = v; goes = goes; can = can; answered = refl; after = refl }))

  -- ---- its step
  module _ (word : ℕ) (o : Op) (due : (line_now X v).op word ≡ Some o)
      (low : register o < length m.words) where
    -- by the line of its situation
    abbrev l : Line E
    l = line_now X v

    -- answered so
    abbrev told : Answered
    told = turn_answer m l word

    -- all that has happened then
    abbrev grown : Trails
    grown = trails_grown X m (Turn p word) (answer.Turn told) T

    -- which is so by its situation
    grown_is : turn_trails (situation X v) l p (found m l word) word told T ≡ grown
    grown_is = ap (λ g. turn_grown X m p g word (answer.Turn told) T) (sym goes)

    -- all that was published grows by the frame that it publishes
    turned_log : (s : Situation E)
        → (turn_trails s l p (found m l word) word told T).log
        ≡ T.log ++ words_of_frame l.publishes
    turned_log (Does z) = refl
    turned_log (Scans r) = refl
    turned_log (Clears r) = refl
    turned_log (ReadsPassed t q) = refl
    turned_log (Announces t) = refl
    turned_log (Validates t) = refl
    turned_log (Unpins t) = refl
    turned_log (Withdraws t) = refl

    pub grows_by : grown.log ≡ T.log ++ words_of_frame l.publishes
    grows_by = ap (λ U. U.log) (sym grown_is) ∙ turned_log (situation X v)

    -- it finds the number of its word
    found_is : found m l word ≡ slice_index m.words (register o)
    found_is = ap (number_found (slice_index m.words)) due

    -- the turn happens
    pub takes_turn : Happens X m (Turn p word) (answer.Turn told) (machine_after m p l word)
    takes_turn = record {
      sender = v;
      goes = goes;
      within = on_word m (l.op word) o due low;
      answered = refl;
      after = refl;
    }

    -- and all that the sender did grows by it
    pub grown_trail : trail_of bases grown p
        ≡ with_sender_trail (trail_of bases T p)
        (adds_by (situation X v) l (slice_index m.words (register o)) word)
    grown_trail =
        ap (λ U. trail_of bases U p) (sym grown_is)
        ∙ own_turned bases l p (found m l word) word T (situation X v)
        ∙ ap (λ g. with_sender_trail (trail_of bases T p) (adds_by (situation X v) l g word))
        found_is

    -- the machine after it, with all that has happened
    abbrev pub next : MachineHistory E
    next = record { machine = machine_after m p l word; trails = grown }

    -- events lead to it
    pub next_reached : IsMachineHistory X x reuse bases next
    next_reached = record {
      served = h.served;
      has_rows = h.has_rows;
      layout = h.layout;
      rows_are = h.rows_are;
      bases_are = h.bases_are;
      reached =
          Then m (machine_after m p l word) T (Turn p word) (answer.Turn told) h.reached takes_turn;
      many = h.many;
      rest = h.rest;
      running = h.running;
    }

    -- so it is a step, if the log goes on with it
    pub takes_step : LogGrows (bus_of X x reuse bases) z next
        → StepsIn (process_of X) (bus_of X x reuse bases) z p v word o
    takes_step grows = record {
      state = next;
      changes = record {
        reached = next_reached;
        passed = λ r. refl;
        here = get_set_same m.senders p _ (slice_get_within m.senders p v at)
            ∙ ap (λ g. Some ((process_of X).after v m.home g word)) found_is;
        others = λ q ne. get_set_other m.senders p _ q ne;
        sender_trail = grown_trail;
        nothing_else = λ q ne. ap (λ U. trail_of bases U q) (sym grown_is)
            ∙ other_turned bases l p (found m l word) word T (situation X v) q ne;
      };
      words = ap (words_after m.words) due;
      home = refl;
      grows = grows;
    }

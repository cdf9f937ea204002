-- A receiver of a machine goes on to a place where a frame begins, and says so in its passed place:
-- by its turns alone, of which no other changes a word.
use Rattle.std.proofs.Common.{◌≡◌, ◌≢◌, ℕ, zero, suc, ◌+◌, ◌%◌, ◌<◌, ◌≤◌, Bool, true, false}
use Rattle.std.proofs.Common.{cond, ◌==◌, ◌&&◌, nat_lt, Option, Some, None, List, [], ◌∷◌, ◌++◌}
use Rattle.std.proofs.Common.{
  length,
  take,
  drop,
  ◌-◌,
  slice_get,
  slice_index,
  slice_set,
  inl,
  inr,
  arith,
}
use Rattle.std.proofs.Common.{refl, sym, ◌∙◌, ap, subst}
use Rattle.std.specs.Prelude.{All}
use Rattle.std.specs.List.{list_any}
use Rattle.std.proofs.lemmas.List.Elements.{All-take}
use Rattle.std.proofs.lemmas.Bool.{cases_eq, true≢false, ltb-true, ltb-false}
use Rattle.std.proofs.lemmas.Bool.Decides.{eqb_tells}
use Rattle.std.proofs.lemmas.List.{length-set, length-take, set-get_or, set-set, get_or-set_same}
use Rattle.std.proofs.lemmas.List.{get_or-take, take_at}
use Rattle.std.proofs.lemmas.List.Folds.{list_any_at}
use Rattle.std.proofs.lemmas.Nat.{mod_below}
use Rattle.std.proofs.lemmas.Option.{same_Some, slice_get_within, get_or_from_slice_get}
use Rattle.std.proofs.lemmas.Grind.{flat_map-append}
use Rattle.bus_register.specs.declared.registers.Op.{Op}
use Rattle.bus_register.specs.declared.registers.Op.TheVariants.{Load, Store}
use Rattle.bus_register.specs.Protocol.{Protocol}
use Rattle.bus_register.specs.Private.TableLaws.{get_set_same, get_set_other}
use Rattle.bus_batch.proofs.Feeding.{has_read, gives_piece, torn_in_body, torn_in_data}
use Rattle.bus_batch.proofs.FrameLaws.{same_log}
use Rattle.bus_batch.specs.declared.messages.Piece.{Piece}
use Rattle.bus_batch.specs.declared.readers.Place.{Place}
use Rattle.bus_batch.specs.declared.readers.Place.TheVariants as place
use Rattle.bus_batch.specs.Frames.{
  Frame,
  AreFrames,
  AreFramesFrom,
  IsLog,
  frame_words,
  log_words,
  log_pieces,
}
use Rattle.bus_batch.specs.Frames.{is_end}
use Rattle.bus_batch.specs.Reading.{Awaits, HasRead, is_between}
use Rattle.bus_deliverylog.proofs.ReceiveLaws.{due_at, good_word}
use Rattle.bus_deliverylog.specs.Receiving.{Receiving}
use Rattle.bus_deliverylog.specs.Receiving.{load_op, op_by, passing_due, reading_of, receiving_op}
use Rattle.bus_deliverylog.specs.Receiving.{turn_of}
use Rattle.bus_deliverylog.specs.declared.receiving.RecvTurn.{RecvTurn}
use Rattle.bus_deliverylog.specs.declared.receiving.RecvTurn.TheVariants.{Going}
use Rattle.bus_presence.proofs.ReclamationKept.{lt_tells}
use Rattle.bus_tenure.specs.Core.{Election}
use Rattle.bus_world.proofs.ReceivingLaws.{next_word}
use Rattle.bus_world.specs.Floors.{IsBoundary, IsPasser, passed_place}
use Rattle.bus_world.specs.Private.Receiving.{Receives}
use Rattle.bus_world.specs.Trails.{answers_with}
use Rattle.bus_world.specs.Turning.{words_after}
use Rattle.bus_world.specs.World.{Recv, RecvDoes, recv_found}
use Rattle.bus_world.specs.declared.events.Answer.TheVariants as answer
use Rattle.bus_world.proofs.CyclicProtocolKept.{HasKept}
use Rattle.bus_machine.proofs.Bases.CyclicTurns.{protocol_kept}
use Rattle.bus_machine.proofs.Frames.Framed.{IsFramed, framed, finds_words}
use Rattle.bus_machine.proofs.Bases.Leading.{Sits, two_rows, led_some}
use Rattle.bus_machine.specs.Private.Bridge.{IsLed}
use Rattle.bus_machine.specs.Machine.{Machine, Trails, Reached, Then, IsOnWord}
use Rattle.bus_automaton.proofs.Readings.{GoesOn, IsReady, goes_on, is_over}
use Rattle.bus_automaton.proofs.Leading.{on_word}

-- a load changes no word
load_leaves : (words : List ℕ) (v : Receiving) → words_after words (Some (load_op v)) ≡ words
load_leaves words v = by (v.place == v.known)
  where
    by : (b : Bool)
        → words_after words (Some (cond b (Load record { 0 = v.length_at })
        (Load record { 0 = v.log_at + v.place % v.log_words }))) ≡ words
    by true = set-get_or words v.length_at 0
    by false = set-get_or words (v.log_at + v.place % v.log_words) 0

-- of a receiver that has heard no end
op_is : (v : Receiving) (d : Option ℕ) → v.ended ≡ false → passing_due v ≡ d
    → receiving_op v ≡ Some (op_by d v)
op_is v d going due =
    ap (λ b. cond {A = Option Op} b None (Some (op_by (passing_due v) v))) going
    ∙ ap (λ o. Some (op_by o v)) due

-- no end is among the first pieces
no_end_at : (pieces : List (Option Piece)) (target n : ℕ) (found : Option Piece)
    → list_any is_end (take target pieces) ≡ false → n < target → slice_get pieces n ≡ Some found
    → is_end found ≡ false
no_end_at pieces target n found none low at = by (is_end found) refl
  where
    by : (b : Bool) → is_end found ≡ b → b ≡ false
    by false e = refl
    by true e =
        let within : n < length pieces = slice_get_within pieces n found at in
        let size = length-take target pieces in
        absurd (true≢false (sym (list_any_at is_end (take target pieces) n found (omega arith)
        (ap is_end (get_or-take target pieces n found low
        ∙ get_or_from_slice_get pieces n found found at) ∙ e)) ∙ none))

-- the first frames of a log are one
pub front_lawful : (n least : ℕ) (front back : List Frame) → AreFramesFrom n least (front ++ back)
    → AreFramesFrom n least front
front_lawful n least [] back h = tt
front_lawful n least (f ∷ front) back h = (
  h.0,
  h.1,
  (λ e. nil_front front back (h.2 e)),
  front_lawful n (f.tenure + 1) front back h.3,
  (λ e. subst (All (λ (g : Frame). g.owner ≢ f.owner)) (take_at front back (length front) refl)
      (All-take (λ (g : Frame). g.owner ≢ f.owner) (length front) (front ++ back) (h.4 e))),
) where
  nil_front : (xs ys : List Frame) → xs ++ ys ≡ [] → xs ≡ []
  nil_front [] ys e = refl
  nil_front (x ∷ xs) ys e = absurd cc

-- once it has passed a place no other store is due there
no_more_due : (v : Receiving) → passing_due (record v { passed = v.place }) ≡ None
no_more_due v = by (is_between v.frames.place) (nat_lt v.place v.place) refl
  where
    by : (b c : Bool) → nat_lt v.place v.place ≡ c
        → cond {A = Option ℕ} (b && c) v.passed_at None ≡ None
    by true true e = absurd (let low = ltb-true v.place v.place e in omega arith)
    by true false e = refl
    by false c e = refl

between_is : (p : Place) → is_between p ≡ true → p ≡ place.Between
between_is place.Between e = refl
between_is (place.Body owner left room) e = absurd (true≢false (sym e))
between_is (place.Data owner left room number len) e = absurd (true≢false (sym e))
between_is place.Ended e = absurd (true≢false (sym e))
between_is place.Bad e = absurd (true≢false (sym e))

module _ {E : Type 0} (X : Election E) (P : Protocol E (Unit {0}) ℕ) (old : Machine E)
    (T : Trails) (sits : Sits X P old) (rows : ℕ) (used : old.reuse ≡ Some rows) (r : ℕ)
    (low : r < old.layout.passers) where
  abbrev at : ℕ
  at = passed_place old.layout rows r

  -- with this number in its passed place, these receivers, and this that they heard
  abbrev pub passed_machine : ℕ → List Receiving → Machine E
  passed_machine k rs = record old { words = slice_set old.words at k; receivers = rs }

  abbrev pub heard_trails : (ℕ → List RecvTurn) → Trails
  heard_trails H = record T { heard = H }

  -- events lead to such a machine, in which the receiver stands at this place
  pub record IsAt (n : ℕ) : Type 0 where
    pub shown : ℕ
    pub receivers : List Receiving
    pub heard : ℕ → List RecvTurn
    pub receiver : Receiving
    pub reached : Reached X (passed_machine shown receivers) (heard_trails heard)
    pub there : slice_get receivers r ≡ Some receiver
    pub others : (q : ℕ) → q ≢ r → slice_get receivers q ≡ slice_get old.receivers q
    pub many : length receivers ≡ length old.receivers
    pub stays : receiver.gone ≡ false
    pub going : receiver.ended ≡ false
    pub place : receiver.place ≡ n
    pub ready : IsReady receiver.frames
    pub over : is_over receiver.frames.place ≡ false

  -- no store is due of it there
  record Settled (n : ℕ) : Type 0 where
    is_at : IsAt n
    none : passing_due is_at.receiver ≡ None

  -- and it knows a word more
  record Knows (n : ℕ) : Type 0 where
    is_at : IsAt n
    none : passing_due is_at.receiver ≡ None
    below : is_at.receiver.place < is_at.receiver.known

  -- ---- one turn of it
  module _ (frames : List Frame) (lawful : AreFrames old.layout.senders frames)
      (words_are : log_words frames ≡ T.log) (n : ℕ) (a : IsAt n) where
    abbrev m : Machine E
    m = passed_machine a.shown a.receivers

    abbrev U : Trails
    U = heard_trails a.heard

    abbrev v : Receiving
    v = a.receiver

    now_sits : Sits X P m
    now_sits = record { serves = sits.serves; ok = sits.ok; rows = sits.rows }

    two : 2 ≤ rows
    two = two_rows X P m now_sits rows used

    led : IsLed X rows m U
    led = led_some X P m U now_sits a.reached rows used

    kept : HasKept X P sits.serves.laws m.layout sits.ok sits.serves.width sits.serves.starts
        sits.serves.owner_is sits.serves.named sits.serves.announces sits.serves.apart rows two
        U.heard
        (Rattle.bus_machine.specs.Private.Bridge.protocol_of m led.reclaimer led.passing led.owners)
        U.pins U.actions U.log
    kept = protocol_kept X P rows m U sits.serves sits.ok two led

    framing : IsFramed P m U
    framing = framed X P m U now_sits a.reached

    passer : IsPasser m.layout rows (slice_index m.words) kept.kept.floor r v
    passer = kept.kept.floors.each r v a.there

    same_frames : framing.frames ≡ frames
    same_frames = same_log old.layout.senders 0 0 framing.frames frames
        framing.sending.log.lawful lawful (framing.log_is ∙ sym words_are)

    receives : Receives old.layout.senders frames (slice_index m.words 0) v.place v.known v.frames
    receives = subst
        (λ (y : List Frame × ℕ). Receives old.layout.senders y.0 y.1 v.place v.known v.frames)
        (λ i. (same_frames i, sym framing.length i)) (framing.reads r v a.there).1.receives

    long : length (log_words frames) ≡ slice_index m.words 0
    long = ap length words_are ∙ sym framing.stands.0

    senders_are : v.frames.senders ≡ old.layout.senders
    senders_are = (framing.reads r v a.there).1.senders

    -- each length is believed
    believed : slice_index m.words 0 ≤ v.log_words + v.passed
    believed =
        let few = kept.kept.stored.few in
        let less = kept.kept.stored.low in
        let first = kept.kept.laid.length in
        let behind = passer.behind a.stays in
        let size = (framing.reads r v a.there).1.log_words in omega arith

    -- its passed place is a word
    passed_is : v.passed_at ≡ Some at
    passed_is = elim (lt_tells r old.layout.passers) [
      | inl is ↦
          passer.at ∙ ap (λ b. cond {A = Option ℕ} b (Some at) None) is.0
      | inr past ↦ absurd (let over = past.1 in omega arith)
    ]

    at_low : at < length m.words
    at_low =
        let before = (framing.reads r v a.there).2 at passed_is in
        let size = framing.room in omega arith

    -- what it was answered with leads on
    module _ (told : RecvTurn) (next : Receiving) (does : RecvDoes
        (slice_index m.words) v told next)
        (on : IsOnWord m (receiving_op v)) (k : ℕ)
        (words : words_after m.words (receiving_op v) ≡ slice_set old.words at k) where
      abbrev receivers_now : List Receiving
      receivers_now = slice_set a.receivers r next

      abbrev heard_now : ℕ → List RecvTurn
      heard_now = answers_with r told a.heard

      heard_reached : Reached X (passed_machine k receivers_now) (heard_trails heard_now)
      heard_reached = subst
          (λ w. Reached X (record old { words = w; receivers = receivers_now })
          (heard_trails heard_now)) words
          (Then m
          (record m {
            words = words_after m.words (receiving_op v);
            receivers = receivers_now;
          }) U (Recv r) (answer.Recv told) a.reached (record {
            receiver = v;
            next = next;
            heard = told;
            there = a.there;
            stays = a.stays;
            within = on;
            does = does;
            answered = refl;
            after = refl;
          }))

      abbrev goes_to : next.gone ≡ false → next.ended ≡ false → (n' : ℕ) → next.place ≡ n'
          → IsReady next.frames → is_over next.frames.place ≡ false → IsAt n'
      goes_to stays going n' place ready over = record {
        shown = k;
        receivers = receivers_now;
        heard = heard_now;
        receiver = next;
        reached = heard_reached;
        there = get_set_same a.receivers r next (slice_get_within a.receivers r v a.there);
        others = λ q ne. get_set_other a.receivers r next q ne ∙ a.others q ne;
        many = length-set a.receivers r next ∙ a.many;
        stays = stays;
        going = going;
        place = place;
        ready = ready;
        over = over;
      }

    -- ---- a store of its place
    passes : (q : ℕ) → passing_due v ≡ Some q → Settled n
    passes q due = record {
      is_at = goes_to Going next does on v.place words a.stays a.going n a.place a.ready a.over;
      none = no_more_due v;
    } where
      next : Receiving
      next = record v { passed = v.place }

      same : q ≡ at
      same = same_Some q at (sym (due_at v q due) ∙ passed_is)

      op : receiving_op v ≡ Some (Store record { 0 = at } v.place)
      op = op_is v (Some q) a.going due ∙ ap (λ i. Some (Store record { 0 = i } v.place)) same

      on : IsOnWord m (receiving_op v)
      on = on_word m (receiving_op v) (Store record { 0 = at } v.place) op at_low

      words : words_after m.words (receiving_op v) ≡ slice_set old.words at v.place
      words = ap (words_after m.words) op ∙ set-set old.words at a.shown v.place

      due_now : passing_due v ≡ None → ⊥
      due_now none = absurd (let bad : None ≡ Some q = sym none ∙ due in cc)

      does : RecvDoes (slice_index m.words) v Going next
      does = record {
        ended = λ e. absurd (true≢false (sym e ∙ a.going));
        going = λ e. record {
          senders = refl;
          at_passed = λ i j. (refl, refl);
          at_length = λ none j. absurd (due_now none);
          at_word = λ none j. absurd (due_now none);
          registers = λ none. absurd (due_now none);
          keeps = (refl, refl, refl, refl, refl);
        };
      }

    settles : Settled n
    settles = by (passing_due v) refl
      where
        by : (d : Option ℕ) → passing_due v ≡ d → Settled n
        by None none = record { is_at = a; none = none }
        by (Some q) due = passes q due

    -- ---- a load
    module _ (none : passing_due v ≡ None) where
      op : receiving_op v ≡ Some (load_op v)
      op = op_is v None a.going none

      words : words_after m.words (receiving_op v) ≡ slice_set old.words at a.shown
      words = ap (words_after m.words) op ∙ load_leaves m.words v

      abbrev got : ℕ
      got = recv_found (slice_index m.words) v

      not_due : (q : ℕ) → passing_due v ≡ Some q → ⊥
      not_due q due = absurd (let bad : None ≡ Some q = sym none ∙ due in cc)

      -- the length that it knows lies behind
      learns : v.place ≡ v.known → n < length (log_words frames) → Knows n
      learns e more = record {
        is_at = goes_to Going next does on a.shown words a.stays a.going n a.place a.ready a.over;
        none = none;
        below = let i = got_is in let j = a.place in let k = long in omega arith;
      } where
        next : Receiving
        next = record v { known = got }

        first : v.length_at ≡ 0
        first = (framing.reads r v a.there).1.len_at

        on_length : load_op v ≡ Load record { 0 = v.length_at }
        on_length = elim (eqb_tells v.place v.known) [
          | inl y ↦ ap (λ b. cond {A = Op} b (Load record { 0 = v.length_at })
              (Load record { 0 = v.log_at + v.place % v.log_words })) y.0
          | inr y ↦ absurd (y.1 e)
        ]

        got_is : got ≡ slice_index m.words 0
        got_is = elim (eqb_tells v.place v.known) [
          | inl y ↦
              ap (λ b. cond b (slice_index m.words v.length_at)
              (slice_index m.words (v.log_at + v.place % v.log_words))) y.0
              ∙ ap (slice_index m.words) first
          | inr y ↦ absurd (y.1 e)
        ]

        rises : v.known < got
        rises = let i = got_is in let j = a.place in let k = long in omega arith

        on : IsOnWord m (receiving_op v)
        on = on_word m (receiving_op v) (Load record { 0 = v.length_at })
            (op ∙ ap (λ o. Some o) on_length)
            (let i = first in let l = at_low in omega arith)

        does : RecvDoes (slice_index m.words) v Going next
        does = record {
          ended = λ d. absurd (true≢false (sym d ∙ a.going));
          going = λ d. record {
            senders = refl;
            at_passed = λ q due. absurd (not_due q due);
            at_length = λ i j. record {
              same = λ k. absurd (let l = rises in omega arith);
              more = λ k l. (refl, refl);
              less = λ k. absurd (let l = rises in omega arith);
              beyond = λ k l. absurd (let b = believed in let i = got_is in omega arith);
            };
            at_word = λ i ne. absurd (ne e);
            registers = λ i. refl;
            keeps = (refl, refl, refl, refl, refl);
          };
        }

      -- it takes the next word
      module _ (below : v.place < v.known) (target : ℕ) (before : n < target)
          (no_end : list_any is_end (take target (log_pieces frames)) ≡ false) where
        apart : v.place ≢ v.known
        apart e = absurd (omega arith)

        abbrev cell : ℕ
        cell = v.log_at + v.place % v.log_words

        on_cell : load_op v ≡ Load record { 0 = cell }
        on_cell = elim (eqb_tells v.place v.known) [
          | inl y ↦ absurd (apart y.1)
          | inr y ↦ ap (λ b. cond {A = Op} b (Load record { 0 = v.length_at })
              (Load record { 0 = cell })) y.0
        ]

        in_log : v.place < length (log_words frames)
        in_log = let k = receives.known_below in let l = long in omega arith

        got_is : got ≡ slice_index (log_words frames) v.place
        got_is = elim (eqb_tells v.place v.known) [
          | inl y ↦ absurd (apart y.1)
          | inr y ↦
              ap (λ b. cond b (slice_index m.words v.length_at) (slice_index m.words cell)) y.0
              ∙ finds_words P m U framing r v a.there a.stays
              (let l = in_log in let w = ap length words_are in omega arith)
              ∙ ap (λ ws. slice_index ws v.place) (sym words_are)
        ]

        some_cells : 0 < v.log_words
        some_cells =
            let b = believed in let past = passer.past in
            let k = receives.known_below in omega arith

        on : IsOnWord m (receiving_op v)
        on = on_word m (receiving_op v) (Load record { 0 = cell }) (op ∙ ap (λ o. Some o) on_cell)
            (let first = (framing.reads r v a.there).0 in
            let size = (framing.reads r v a.there).1.log_words in
            let within = mod_below v.place v.log_words some_cells in
            let all = framing.room in omega arith)

        abbrev rest : List ℕ
        rest = drop (suc v.place) (log_words frames)

        split : log_words frames ≡ take v.place (log_words frames) ++ got ∷ rest
        split = sym (next_word (log_words frames) v.place got in_log (sym got_is))

        had : HasRead old.layout.senders (take v.place (log_words frames))
            (take v.place (log_pieces frames)) v.frames
        had = receives.has_read

        goes : GoesOn v.frames got
        goes =
            let c = had.covers frames (got ∷ rest) lawful split in
            goes_on v.frames got rest c.0 a.ready c.1

        abbrev next : Receiving
        next = record v {
          place = v.place + 1;
          frames = goes.new;
          ended = is_end goes.found;
        }

        going_on : is_end goes.found ≡ false
        going_on = no_end_at (log_pieces frames) target v.place goes.found no_end
            (let e = a.place in omega arith)
            (ap (slice_get (log_pieces frames)) (sym (length-take v.place (log_words frames)
            ∙ (let l = in_log in omega arith)))
            ∙ gives_piece _ old.layout.senders (take v.place (log_words frames))
            (take v.place (log_pieces frames)) got v.frames goes.new had goes.found goes.takes
            frames
            rest lawful split)

        does : RecvDoes (slice_index m.words) v (turn_of goes.found) next
        does = record {
          ended = λ d. absurd (true≢false (sym d ∙ a.going));
          going = λ d. record {
            senders = goes.senders;
            at_passed = λ q due. absurd (not_due q due);
            at_length = λ i e. absurd (apart e);
            at_word = λ i ne ws ps h. good_word (reading_of v) (reading_of v) refl goes.new got
                goes.found (is_end goes.found)
                (λ xs qs k.
                has_read _ v.frames.senders xs qs got v.frames goes.new k goes.found goes.takes
                goes.ready.sound)
                goes.senders refl (turn_of goes.found) ws ps h
                (λ xs qs k.
                gives_piece _ v.frames.senders xs qs got v.frames goes.new k goes.found goes.takes)
                refl;
            registers = λ i. refl;
            keeps = (refl, refl, refl, refl, refl);
          };
        }

        takes : IsAt (n + 1)
        takes = goes_to (turn_of goes.found) next does on a.shown words a.stays going_on (n + 1)
            (ap (λ i. i + 1) a.place) goes.ready (goes.over ∙ going_on)

    -- where a frame begins it stands between frames
    between : IsBoundary frames n → is_between v.frames.place ≡ true
    between b = by v.frames.place refl
      where
        had : HasRead old.layout.senders (take v.place (log_words frames))
            (take v.place (log_pieces frames)) v.frames
        had = receives.has_read

        front : take v.place (log_words frames) ≡ log_words b.front
        front =
            ap (take v.place) (ap log_words b.frames_are
            ∙ flat_map-append frame_words b.front b.rest)
            ∙ take_at (log_words b.front) (log_words b.rest) v.place
            (sym b.place_is ∙ sym a.place)

        is_log : IsLog old.layout.senders (take v.place (log_words frames))
        is_log = record {
          frames = b.front;
          lawful = front_lawful old.layout.senders 0 b.front b.rest
              (subst (AreFrames old.layout.senders) b.frames_are lawful);
          words_are = sym front;
        }

        by : (p : Place) → v.frames.place ≡ p → is_between p ≡ true
        by place.Between e = refl
        by (place.Body owner left room) e = absurd
            (torn_in_body _ old.layout.senders (take v.place (log_words frames))
            (take v.place (log_pieces frames)) v.frames.most v.frames.senders v.frames.least
            v.frames.left v.frames.place v.frames.bytes v.frames refl had owner left room e
            a.ready.sound is_log)
        by (place.Data owner left room number len) e = absurd
            (torn_in_data _ old.layout.senders (take v.place (log_words frames))
            (take v.place (log_pieces frames)) v.frames.most v.frames.senders v.frames.least
            v.frames.left v.frames.place v.frames.bytes v.frames refl had owner left room number
            len e is_log)
        by place.Ended e = absurd (true≢false (sym (ap is_over e) ∙ a.over))
        by place.Bad e =
            let c = had.begins in
            absurd (subst (λ q. Awaits (record v.frames { place = q }) c.0 c.1) e c.2)

    -- with no store due it has passed its place, and shows it
    arrived : IsBoundary frames n → passing_due v ≡ None → (v.passed ≡ n) × (a.shown ≡ n)
    arrived b none =
        let shows = passer.shows a.stays low in
        let shown : slice_index m.words at ≡ a.shown =
        get_or-set_same old.words at a.shown 0
        (let l = at_low in let e = length-set old.words at a.shown in omega arith) in
        let place = a.place in
        let passed : v.passed ≡ n = by (nat_lt v.passed v.place) refl in
        (passed, sym shown ∙ shows ∙ passed)
      where
        by : (c : Bool) → nat_lt v.passed v.place ≡ c → v.passed ≡ n
        by false e =
            let high = ltb-false v.passed v.place e in
            let past = passer.past in let i = a.place in omega arith
        by true e = absurd
            (let bad : None ≡ Some at =
            sym none
            ∙ ap (λ z. cond {A = Option ℕ} (z && nat_lt v.passed v.place) v.passed_at None)
            (between b)
            ∙ ap (λ z. cond {A = Option ℕ} z v.passed_at None) e ∙ passed_is in
            cc)

  -- ---- turn by turn
  module _ (frames : List Frame) (lawful : AreFrames old.layout.senders frames)
      (words_are : log_words frames ≡ T.log) (target : ℕ)
      (within : target ≤ length (log_words frames))
      (no_end : list_any is_end (take target (log_pieces frames)) ≡ false) where
    knows : (n : ℕ) → n < target → (s : Settled n) → Knows n
    knows n more s = elim (cases_eq s.is_at.receiver.place s.is_at.receiver.known) [
      | inl e ↦ learns frames lawful words_are n s.is_at s.none e (omega arith)
      | inr ne ↦ record {
        is_at = s.is_at;
        none = s.none;
        below =
            let known = (receives frames lawful words_are n s.is_at).place_below in
            omega (arith, ne);
      }
    ]

    one : (n : ℕ) → n < target → IsAt n → IsAt (n + 1)
    one n more a =
        let k = knows n more (settles frames lawful words_are n a) in
        takes frames lawful words_are n k.is_at k.none k.below target more no_end

    walks : (d n : ℕ) → n + d ≡ target → IsAt n → IsAt target
    walks zero n e a = subst IsAt (let i : n ≡ target = omega arith in i) a
    walks (suc d) n e a = walks d (n + 1) (omega arith) (one n (omega arith) a)

    -- it has come there, and has passed all before
    pub record Comes : Type 0 where
      pub is_at : IsAt target
      pub passed : is_at.receiver.passed ≡ target
      pub shown : is_at.shown ≡ target
      pub between : is_at.receiver.frames.place ≡ place.Between

    pub comes : IsBoundary frames target → (n : ℕ) → n ≤ target → IsAt n → Comes
    comes b n before a =
        let there = walks (target - n) n (omega arith) a in
        let s = settles frames lawful words_are target there in
        let is = arrived frames lawful words_are target s.is_at b s.none in
        record {
          is_at = s.is_at;
          passed = is.0;
          shown = is.1;
          between = between_is s.is_at.receiver.frames.place
              (between frames lawful words_are target s.is_at b);
        }

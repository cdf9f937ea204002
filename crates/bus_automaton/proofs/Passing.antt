-- What a receiver between threads goes by: it finds each word that it may ask for, its passed place
-- shows what it has passed, and it may pass more or leave for good.
use Rattle.std.proofs.Common.{◌≡◌, inl, inr, ℕ, ◌<◌, ◌≤◌, Bool, true, false, cond}
use Rattle.std.proofs.Common.{Option, Some, None, List, [], length, slice_get, slice_index}
use Rattle.std.proofs.Common.{slice_set, take, arith, refl, sym, ◌∙◌, ap, subst, eq-eqb}
use Rattle.std.specs.List.{list_any}
use Rattle.std.proofs.lemmas.Bool.{cases_eq, cases_Bool, true≢false}
use Rattle.std.proofs.lemmas.List.{length-append, length-set, set-get_or}
use Rattle.std.proofs.lemmas.Option.{same_Some, slice_get_within}
use Rattle.bus_register.specs.Protocol.{Protocol}
use Rattle.bus_register.specs.declared.limits.TheConstants.{MOST_MESSAGES, PASSED_ALL}
use Rattle.bus_register.specs.declared.registers.Op.{Op}
use Rattle.bus_register.specs.declared.registers.Op.TheVariants.{Store, Cas}
use Rattle.bus_register.specs.Private.TableLaws.{get_set_same, get_set_other, here_not}
use Rattle.bus_batch.specs.Frames.{AreFrames, frame_words, log_pieces, log_words, is_end}
use Rattle.std.proofs.lemmas.Grind.{flat_map-append}
use Rattle.bus_batch.proofs.Standing.{stands_between}
use Rattle.bus_batch.specs.Reading.{IsSound, is_between}
use Rattle.bus_deliverylog.specs.Receiving.{Receiving, leaving_by, leaving_op, with_leave}
use Rattle.bus_deliverylog.specs.Receiving.{joining_by, joining_op}
use Rattle.bus_presence.proofs.ReclamationKept.{lt_tells}
use Rattle.bus_core.specs.Senders.{Sender}
use Rattle.bus_tenure.specs.Core.{Election, Layout, log_at}
use Rattle.bus_world.proofs.Bounds.{words_low}
use Rattle.bus_world.proofs.FloorLaws.{place_begins}
use Rattle.bus_world.proofs.LogLaws.{index-read, length-logged}
use Rattle.bus_world.proofs.Serving.{Serves}
use Rattle.bus_world.specs.Floors.{IsPasser, passed_place}
use Rattle.bus_world.specs.Turning.{words_after}
use Rattle.bus_world.specs.World.{Gone}
use Rattle.bus_world.specs.declared.events.Answer.TheVariants as answer
use Rattle.bus_machine.proofs.Bases.AtNone.{flat_at_none, fork_stores, passes_by}
use Rattle.bus_machine.proofs.Bases.CyclicTurns.{protocol_kept}
use Rattle.bus_machine.proofs.Frames.Framed.{IsFramed}
use Rattle.bus_machine.proofs.Bases.Leading.{Sits, two_rows, led_some}
use Rattle.bus_machine.proofs.Tenures.Nobody.{some_nobody}
use Rattle.bus_machine.specs.Machine.{Machine, Trails, Reached, Then, Joins, passed_by, Forks}
use Rattle.bus_machine.specs.Machine.{fork_in, trails_joined}
use Rattle.bus_automaton.proofs.Leading.{on_word}
use Rattle.bus_automaton.proofs.Readings.{IsNamed, is_over}
use Rattle.bus_automaton.proofs.States.{sits, framing, sizes_are, long}
use Rattle.bus_automaton.proofs.Walking.{Comes, IsAt, comes, heard_trails}
use Rattle.bus_automaton.proofs.Walking.{passed_machine}
use Rattle.bus_automaton.specs.Lawful.{MayAsk, MayPass, PassesIn}
use Rattle.bus_automaton.specs.OneAutomaton.{MachineHistory, IsMachineHistory, IsResting, bus_of}
use Rattle.bus_automaton.specs.OneAutomaton.{passed_of}
use Rattle.bus_automaton.specs.OneProcess.{table_layout_by}
use Rattle.bus_automaton.specs.Processes.{Automaton, log_cell}
use Rattle.bus_automaton.specs.Processes.{passed_word}

-- one that is there and has passed nothing has left
has_left : (v : Receiving) (b : Bool) → v.gone ≡ b
    → cond {A = Option ℕ} b None (Some v.passed) ≡ None → v.gone ≡ true
has_left v true e none = e
has_left v false e none = absurd (let bad : Some v.passed ≡ None = none in cc)

-- who has passed something is there, and has not left
record IsThere (receivers : List Receiving) (r p : ℕ) : Type 0 where
  receiver : Receiving
  there : slice_get receivers r ≡ Some receiver
  stays : receiver.gone ≡ false
  passed : receiver.passed ≡ p

is_there : (receivers : List Receiving) (r p : ℕ) → passed_of (slice_get receivers r) ≡ Some p
    → IsThere receivers r p
is_there receivers r p is = by (slice_get receivers r) refl is
  where
    by_gone : (v : Receiving) (b : Bool) → slice_get receivers r ≡ Some v → v.gone ≡ b
        → cond {A = Option ℕ} b None (Some v.passed) ≡ Some p → IsThere receivers r p
    by_gone v true at e i = absurd cc
    by_gone v false at e i = record {
      receiver = v;
      there = at;
      stays = e;
      passed = same_Some v.passed p i;
    }

    by : (o : Option Receiving) → slice_get receivers r ≡ o → passed_of o ≡ Some p
        → IsThere receivers r p
    by None at i = absurd cc
    by (Some v) at i = by_gone v v.gone at refl i

module _ {E : Type 0} (X : Election E) (P : Protocol E (Unit {0}) ℕ) (x : Layout)
    (y : Serves X P x) (reuse : Option ℕ) (bases : List ℕ) (z : MachineHistory E)
    (h : IsMachineHistory X x reuse bases z) where
  abbrev m : Machine E
  m = z.machine

  abbrev T : Trails
  T = z.trails

  abbrev S : Sits X P m
  S = sits X P x y reuse bases z h

  abbrev f : IsFramed P m T
  f = framing X P x y reuse bases z h

  abbrev same : table_layout_by m.layout m.reuse ≡ table_layout_by x reuse
  same = sizes_are X P x y reuse bases z h

  -- from the floor on each cell has its word
  cell_has : (place : ℕ) → f.floor ≤ place → place < length T.log
      → slice_index m.words (log_cell (table_layout_by x reuse) place) ≡ slice_index T.log place
  cell_has place past below =
      let size = long X P x y reuse bases z h in
      let low : place < f.V 0 = let first = f.length in omega arith in
      subst (λ t. slice_index m.words (log_cell t place) ≡ slice_index T.log place) same
      (f.finds place past low
      ∙ sym (index-read f.V (log_at m.layout) (f.V 0) place low)
      ∙ ap (λ ws. slice_index ws place) (f.sending.log.words_are ∙ f.log_is))

  -- where one is, rows are used again
  record Rows : Type 0 where
    rows : ℕ
    used : m.reuse ≡ Some rows

  again_at : (r : ℕ) → r < m.layout.passers → Rows
  again_at r low = by m.reuse refl
    where
      by : (o : Option ℕ) → m.reuse ≡ o → Rows
      by None e = absurd (let none = flat_at_none X m T h.reached e in omega arith)
      by (Some rows) e = record { rows = rows; used = e }

  place_at : (r rows : ℕ) → m.reuse ≡ Some rows
      → passed_place m.layout rows r ≡ passed_word (table_layout_by x reuse) r
  place_at r rows used =
      ap (λ o. passed_word (table_layout_by m.layout o) r) (sym used)
      ∙ ap (λ t. passed_word t r) same

  -- what each receiver keeps
  record Shows (rows r : ℕ) (v : Receiving) : Type 0 where
    floor : ℕ
    passer : IsPasser m.layout rows (slice_index m.words) floor r v

  shows_at : (r rows : ℕ) (v : Receiving) → m.reuse ≡ Some rows → slice_get m.receivers r ≡ Some v
      → Shows rows r v
  shows_at r rows v used there =
      let led = led_some X P m T S h.reached rows used in
      let kept = protocol_kept X P rows m T S.serves S.ok (two_rows X P m S rows used) led in
      record { floor = kept.kept.floor; passer = kept.kept.floors.each r v there }

  -- ---- a receiver that has left
  pub left : (r : ℕ) → r < x.passers → passed_of (slice_get m.receivers r) ≡ None
      → slice_index m.words (passed_word (table_layout_by x reuse) r) ≡ PASSED_ALL
  left r below none = by (slice_get m.receivers r) refl none
    where
      low : r < m.layout.passers
      low = subst (λ (l : Layout). r < l.passers) (sym h.layout) below

      again : Rows
      again = again_at r low

      by : (o : Option Receiving) → slice_get m.receivers r ≡ o → passed_of o ≡ None
          → slice_index m.words (passed_word (table_layout_by x reuse) r) ≡ PASSED_ALL
      by None at is =
          absurd (here_not m.receivers r (let many = h.many in omega arith) at)
      by (Some v) at is =
          ap (slice_index m.words) (sym (place_at r again.rows again.used))
          ∙ (shows_at r again.rows v again.used at).passer.left (has_left v v.gone refl is) low

  -- ---- a receiver that has not left
  module _ (r p : ℕ) (is : passed_of (slice_get m.receivers r) ≡ Some p) where
    abbrev it : IsThere m.receivers r p
    it = is_there m.receivers r p is

    abbrev v : Receiving
    v = it.receiver

    below : r < x.passers
    below = let low = slice_get_within m.receivers r v it.there in let many = h.many in omega arith

    low : r < m.layout.passers
    low = subst (λ (l : Layout). r < l.passers) (sym h.layout) below

    again : Rows
    again = again_at r low

    passer : Shows again.rows r v
    passer = shows_at r again.rows v again.used it.there

    place_same : passed_place m.layout again.rows r ≡ passed_word (table_layout_by x reuse) r
    place_same = place_at r again.rows again.used

    place_shows : slice_index m.words (passed_word (table_layout_by x reuse) r) ≡ p
    place_shows =
        ap (slice_index m.words) (sym place_same) ∙ passer.passer.shows it.stays low ∙ it.passed

    no_further : p ≤ length T.log
    no_further =
        let past = passer.passer.past in
        let is_p = it.passed in
        let own = (f.reads r v it.there).1.receives in
        let known = own.place_below in
        let less = own.known_below in
        let size = long X P x y reuse bases z h in
        let first = f.length in omega arith

    pub shows : (r < x.passers) × (p ≤ length T.log)
        × (slice_index m.words (passed_word (table_layout_by x reuse) r) ≡ p)
    shows = (below, no_further, place_shows)

    abbrev bus : Automaton (Sender E)
    bus = bus_of X x reuse bases

    rests : IsResting v
    rests = h.rest r v it.there it.stays

    -- it has read whole frames, and no end
    pub passed_whole : MayPass bus z p
    passed_whole =
        let own = (f.reads r v it.there).1.receives in
        let read = stands_between m.layout.senders (take v.place (log_words f.frames))
        (take v.place (log_pieces f.frames)) v.frames own.has_read in
        subst (MayPass bus z) (sym rests.passed ∙ it.passed) record {
          frames = f.frames;
          lawful = subst (λ (l : Layout). AreFrames l.senders f.frames) h.layout
              f.sending.log.lawful;
          words_are = f.log_is;
          begins = place_begins m.layout.senders f.frames (f.V 0) v.place v.known v.frames own
              f.sending.log.lawful (length-logged f.sending.log) (ap is_between rests.between);
          no_end = (read.0 (ap is_between rests.between)).1;
        }

    -- ---- it goes on to a place where a frame begins

    starts : IsAt X P m T S again.rows again.used r low v.place
    starts = record {
      shown = slice_index m.words (passed_place m.layout again.rows r);
      receivers = m.receivers;
      heard = T.heard;
      receiver = v;
      reached = subst
          (λ w. Reached X (record m { words = w }) T)
          (sym (set-get_or m.words (passed_place m.layout again.rows r) 0)) h.reached;
      there = it.there;
      others = λ q ne. refl;
      many = refl;
      stays = it.stays;
      going = rests.going;
      place = refl;
      ready = record {
        sound = subst (λ q. IsSound v.frames.most q v.frames.bytes) (sym rests.between)
            rests.nothing;
        limit = subst (λ n. (1 ≤ n) × (n ≤ MOST_MESSAGES))
            (sym (f.reads r v it.there).1.receives.has_read.limit) (omega arith, omega arith);
        named = subst (λ q. IsNamed q v.frames.left)
            (sym rests.between) tt;
      };
      over = ap is_over rests.between;
    }

    module _ (target : ℕ) (before : p ≤ target) (may : MayPass bus z target) where
      lawful : AreFrames m.layout.senders may.frames
      lawful = subst (λ (l : Layout). AreFrames l.senders may.frames) (sym h.layout) may.lawful

      within : target ≤ length (log_words may.frames)
      within =
          let all = ap (λ fs. length (log_words fs)) may.begins.frames_are
          ∙ ap length (flat_map-append frame_words may.begins.front may.begins.rest)
          ∙ length-append (log_words may.begins.front) (log_words may.begins.rest) in
          let is = may.begins.place_is in omega arith

      no_end : list_any is_end (take target (log_pieces may.frames)) ≡ false
      no_end = may.no_end

      gone_to : Comes X P m T S again.rows again.used r low may.frames lawful may.words_are target
          within no_end
      gone_to = comes X P m T S again.rows again.used r low may.frames lawful may.words_are target
          within no_end may.begins v.place
          (let passed = rests.passed in let is_p = it.passed in omega arith) starts

      abbrev a : IsAt X P m T S again.rows again.used r low target
      a = gone_to.is_at

      now_rests : IsResting a.receiver
      now_rests = record {
        going = a.going;
        passed = gone_to.passed ∙ sym a.place;
        between = gone_to.between;
        nothing = subst (λ q. IsSound a.receiver.frames.most q a.receiver.frames.bytes)
            gone_to.between a.ready.sound;
      }

      pub passes : PassesIn bus z r target (Some target)
      passes = record {
        state = record {
          machine = passed_machine X P m T S again.rows again.used r low a.shown a.receivers;
          trails = heard_trails X P m T S again.rows again.used r low a.heard;
        };
        reached = record {
          served = h.served;
          has_rows = h.has_rows;
          layout = h.layout;
          rows_are = h.rows_are;
          bases_are = h.bases_are;
          reached = a.reached;
          many = a.many ∙ h.many;
          rest = λ q w at stays. elim (cases_eq q r) [
            | inl e ↦ subst IsResting
                (same_Some a.receiver w (sym a.there ∙ ap (slice_get a.receivers) (sym e) ∙ at))
                now_rests
            | inr ne ↦ h.rest q w (sym (a.others q ne) ∙ at) stays
          ];
          running = h.running;
        };
        words = λ i. slice_set m.words (place_same i) (gone_to.shown i);
        home = refl;
        senders = λ q. refl;
        trails = λ q. refl;
        log = refl;
        here =
            ap passed_of a.there
            ∙ ap (λ b. cond {A = Option ℕ} b None (Some a.receiver.passed)) a.stays
            ∙ ap Some gone_to.passed;
        others = λ q ne. ap passed_of (a.others q ne);
      }

    -- ---- it leaves for good
    pub leaves : PassesIn bus z r PASSED_ALL None
    leaves = record {
      state = record {
        machine = record m {
          words = words_after m.words (leaving_op v);
          receivers = slice_set m.receivers r (with_leave v);
        };
        trails = T;
      };
      reached = record {
        served = h.served;
        has_rows = h.has_rows;
        layout = h.layout;
        rows_are = h.rows_are;
        bases_are = h.bases_are;
        reached = Then m
            (record m {
              words = words_after m.words (leaving_op v);
              receivers = slice_set m.receivers r (with_leave v);
            }) T (Gone r) answer.Gone h.reached (record {
              receiver = v;
              there = it.there;
              stays = it.stays;
              within = on_word m (leaving_op v) op op_is at_low;
              answered = refl;
              after = refl;
            });
        many = length-set m.receivers r (with_leave v) ∙ h.many;
        rest = λ q w at stays. elim (cases_eq q r) [
          | inl e ↦ absurd (true≢false
              (ap (λ (u : Receiving). u.gone)
              (same_Some (with_leave v) w (sym left
              ∙ ap (slice_get (slice_set m.receivers r (with_leave v))) (sym e) ∙ at)) ∙ stays))
          | inr ne ↦ h.rest q w (sym (get_set_other m.receivers r (with_leave v) q ne) ∙ at) stays
        ];
        running = h.running;
      };
      words = ap (words_after m.words) op_is
          ∙ ap (λ i. slice_set m.words i PASSED_ALL) place_same;
      home = refl;
      senders = λ q. refl;
      trails = λ q. refl;
      log = refl;
      here = ap passed_of left;
      others = λ q ne. ap passed_of (get_set_other m.receivers r (with_leave v) q ne);
    } where
      left : slice_get (slice_set m.receivers r (with_leave v)) r ≡ Some (with_leave v)
      left = get_set_same m.receivers r (with_leave v)
          (slice_get_within m.receivers r v it.there)

      op : Op
      op = Store record { 0 = passed_place m.layout again.rows r } PASSED_ALL

      passed_at : v.passed_at ≡ Some (passed_place m.layout again.rows r)
      passed_at = elim (lt_tells r m.layout.passers) [
        | inl i ↦
            passer.passer.at
            ∙ ap (λ b. cond {A = Option ℕ} b (Some (passed_place m.layout again.rows r)) None) i.0
        | inr past ↦ absurd (let over = past.1 in let some = low in omega arith)
      ]

      op_is : leaving_op v ≡ Some op
      op_is = ap leaving_by passed_at

      at_low : passed_place m.layout again.rows r < length m.words
      at_low =
          let first = (f.reads r v it.there).2 (passed_place m.layout again.rows r) passed_at in
          let size = f.room in omega arith

    -- ---- it forks to a higher number, whose passed place shows that nobody waits there
    module _ (q : ℕ) (up : r < q) (room : q < x.passers)
        (free : slice_index m.words (passed_word (table_layout_by x reuse) q) ≡ PASSED_ALL) where
      -- its receiver has left: one that has not shows a place of the log
      record HasLast : Type 0 where
        last : Receiving
        was : slice_get m.receivers q ≡ Some last
        gone : last.gone ≡ true

      low_q : q < m.layout.passers
      low_q = subst (λ (l : Layout). q < l.passers) (sym h.layout) room

      stays_not : (w : Receiving) → slice_get m.receivers q ≡ Some w → w.gone ≡ false → ⊥
      stays_not w at stays =
          let s = (shows_at q again.rows w again.used at).passer in
          let shown = s.shows stays low_q in
          let all = ap (slice_index m.words) (place_at q again.rows again.used) ∙ free in
          let past = s.past in
          let own = (f.reads q w at).1.receives in
          let known = own.place_below in
          let less = own.known_below in
          let size = length-logged f.sending.log in
          let few = words_low m.layout.senders f.frames f.sending.log.lawful in omega arith

      has_last : HasLast
      has_last = by (slice_get m.receivers q) refl where
        by : (o : Option Receiving) → slice_get m.receivers q ≡ o → HasLast
        by None at = absurd (here_not m.receivers q (let many = h.many in omega arith) at)
        by (Some w) at = record {
          last = w;
          was = at;
          gone = elim (cases_Bool w.gone) [
            | inl left ↦ left
            | inr stays ↦ absurd (stays_not w at stays)
          ];
        }

      abbrev place_q : ℕ
      place_q = passed_place m.layout again.rows q

      at_q : passed_by m.layout m.reuse q ≡ Some place_q
      at_q = subst (λ o. passed_by m.layout o q ≡ Some place_q) (sym again.used)
          (elim (lt_tells q m.layout.passers) [
            | inl i ↦ ap (λ b. cond {A = Option ℕ} b (Some place_q) None) i.0
            | inr past ↦ absurd (let over = past.1 in let some = low_q in omega arith)
          ])

      last_at : has_last.last.passed_at ≡ Some place_q
      last_at =
          passes_by X m T h.reached q has_last.last has_last.was ∙ at_q

      low_place : place_q < length m.words
      low_place =
          let first = (f.reads q has_last.last has_last.was).2 place_q last_at in
          let size = f.room in omega arith

      shown_q : slice_index m.words place_q ≡ PASSED_ALL
      shown_q = ap (slice_index m.words) (place_at q again.rows again.used) ∙ free

      abbrev next : Receiving
      next = fork_in m q v

      abbrev receivers_now : List Receiving
      receivers_now = slice_set m.receivers q next

      there_now : slice_get receivers_now q ≡ Some next
      there_now = get_set_same m.receivers q next
          (slice_get_within m.receivers q has_last.last has_last.was)

      abbrev nobody : (n : ℕ) × (slice_get m.receivers n ≡ None) × (T.heard n ≡ [])
      nobody = some_nobody X m T h.reached

      abbrev now : Machine E
      now = record m {
        words = words_after m.words (joining_op next);
        receivers = receivers_now;
      }

      -- so that is done
      abbrev done : Forks m r q true now
      done = record {
        maker = v;
        there = it.there;
        stays = it.stays;
        up = up;
        last = has_last.last;
        was = has_last.was;
        free = sym has_last.gone;
        within = on_word m (joining_op next) (Cas record { 0 = place_q } PASSED_ALL v.passed)
            (ap (λ o. joining_by o v.passed) at_q) low_place;
        finds = λ place at. sym (eq-eqb (slice_index m.words place) PASSED_ALL
            (ap (slice_index m.words) (same_Some place place_q (sym at ∙ at_q)) ∙ shown_q));
        after = refl;
      }

      pub forks : PassesIn bus z q p (Some p)
      forks = record {
        state = record { machine = now; trails = trails_joined r q nobody.0 T };
        reached = record {
          served = h.served;
          has_rows = h.has_rows;
          layout = h.layout;
          rows_are = h.rows_are;
          bases_are = h.bases_are;
          reached = Joins m now T r q nobody.0 h.reached done nobody.1 nobody.2;
          many = length-set m.receivers q next ∙ h.many;
          rest = λ k w at stays. elim (cases_eq k q) [
            | inl e ↦ subst IsResting
                (same_Some next w (sym there_now ∙ ap (slice_get receivers_now) (sym e) ∙ at))
                (record {
                  going = rests.going;
                  passed = rests.passed;
                  between = rests.between;
                  nothing = rests.nothing;
                })
            | inr ne ↦ h.rest k w (sym (get_set_other m.receivers q next k ne) ∙ at) stays
          ];
          running = h.running;
        };
        words =
            fork_stores m now r q done place_q at_q
            ∙ ap (λ i. slice_set m.words i v.passed) (place_at q again.rows again.used)
            ∙ ap (slice_set m.words (passed_word (table_layout_by x reuse) q)) it.passed;
        home = refl;
        senders = λ k. refl;
        trails = λ k. refl;
        log = refl;
        here =
            ap passed_of there_now ∙ ap (λ b. cond {A = Option ℕ} b None (Some v.passed)) it.stays
            ∙ ap Some it.passed;
        others = λ k ne. ap passed_of (get_set_other m.receivers q next k ne);
      }

  -- what it may ask for it finds
  pub finds : (r place : ℕ) → MayAsk (bus_of X x reuse bases) z r place → place < length T.log
      → slice_index m.words (log_cell (table_layout_by x reuse) place) ≡ slice_index T.log place
  finds r place (inl flat) under =
      cell_has place (let first = f.flat (ap (λ (l : Layout). l.passers) h.layout ∙ flat) in
      omega arith) under
  finds r place (inr has) under =
      let past = f.passed r (low r has.0 has.1) in
      let shown = place_shows r has.0 has.1 in
      let same_place = ap (λ t. slice_index m.words (passed_word t r)) same in
      let more = has.2 in
      cell_has place (omega arith) under

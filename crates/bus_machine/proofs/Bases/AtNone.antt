-- With a row for each tenure what happens to the machine happens to the bus that it is, and what
-- leads to it leads to that bus.
use Rattle.std.proofs.Common.{◌≡◌, inl, inr, ℕ, ◌+◌, suc, List, [], ◌∷◌, ◌++◌, Option, Some, None}
use Rattle.std.proofs.Common.{Bool, ◌≤◌, nat_lt, arith, true, false, cond, map, slice_get}
use Rattle.std.proofs.Common.{slice_set, slice_index, refl, sym, ◌∙◌, ap, subst}
use Rattle.std.specs.Prelude.{replicate, length, ◌<◌, ◌==◌, option_map, ◌&&◌}
use Rattle.std.proofs.Math.Path.{fun_ext}
use Rattle.std.proofs.lemmas.List.{append-nil, map-set, get_or-set_other}
use Rattle.std.proofs.lemmas.Bool.{cases_eq}
use Rattle.std.proofs.lemmas.Option.{slice_get-map, same_Some, slice_get_within}
use Rattle.std.proofs.lemmas.Grind.{common_steps}
use Rattle.bus_register.specs.Private.TableLaws.{get_set_same, get_set_other}
use Rattle.bus_batch.specs.Batches.{Pending, CanPut, CanClose}
use Rattle.bus_batch.specs.declared.batches.Phase.TheVariants.{Marking}
use Rattle.bus_batch.specs.declared.messages.Mark.{Mark}
use Rattle.bus_core.proofs.Bridged.{at_none}
use Rattle.bus_core.specs.Keeping.{queue_of}
use Rattle.bus_core.specs.Senders.{Sender, situation}
use Rattle.bus_core.specs.Private.Bridge.{with_a_row_each}
use Rattle.bus_core.specs.Table.{line_now}
use Rattle.bus_deliverylog.specs.Receiving.{Receiving, with_leave, joining_by, joining_op}
use Rattle.bus_deliverylog.specs.Receiving.{forked_at}
use Rattle.bus_presence.proofs.ReclamationKept.{lt_tells}
use Rattle.bus_deliverylog.specs.declared.receiving.RecvTurn.{RecvTurn}
use Rattle.bus_tenure.specs.Core.{Core, Election, Layout, is_empty, log_at}
use Rattle.bus_tenure.specs.Situations.{situation_of, line_of, op_at, answer_at}
use Rattle.bus_tenure.specs.declared.turns.Turn.{Turn as Answered}
use Rattle.bus_world.proofs.EventTrails.{put_taken}
use Rattle.bus_world.proofs.ReceiverSteps.{leaves_only, reads_only}
use Rattle.bus_world.specs.Headline.{Action}
use Rattle.bus_world.specs.Log.{words_of_frame}
use Rattle.bus_world.specs.Private.Answers.{TurnAnswers, CloseGives, RecvAnswers, StopGives}
use Rattle.bus_world.specs.Private.Answers.{LeaveGives}
use Rattle.bus_world.specs.Private.Trails.{New, Then, Copied, turning_actions, turn_actions}
use Rattle.bus_world.specs.Private.Trails.{log_by}
use Rattle.bus_world.specs.Private.Trails.{heard_of, trails_grown as plain_grown}
use Rattle.bus_world.specs.Private.Trails.{Reached as PlainReached}
use Rattle.bus_world.specs.Private.Machines.{side_after, core_after, home_after, Bus, StopDoes}
use Rattle.bus_world.specs.Private.Machines.{can_close, is_open, new_core, going as plain_going}
use Rattle.bus_world.specs.Private.Machines.{with_sender as plain_with, put_in as plain_put}
use Rattle.bus_world.specs.Private.Machines.{mark_in as plain_mark}
use Rattle.bus_world.proofs.PlayingLaws.{owners_told as answer_tells}
use Rattle.bus_world.specs.Turning.{owners_by, words_after, number_found}
use Rattle.bus_world.specs.Starting.{IsNewReceiver}
use Rattle.bus_world.specs.World.{Event, Put, Ask, Turn, Recv, Stop, Gone, RecvDoes}
use Rattle.bus_world.specs.Trails.{actions_with}
use Rattle.bus_world.specs.declared.events.Answer.{Answer}
use Rattle.bus_world.specs.declared.events.Answer.TheVariants as answer
use Rattle.bus_machine.specs.Private.Bridge.{of_bus, plain_trails, IsPlainEvent, HappensAtNone}
use Rattle.bus_machine.specs.Private.Bridge.{IsPlain, NonePasses}
use Rattle.bus_machine.specs.Machine.{base_of, Machine, Trails, Reached, New as Start, Then as Next}
use Rattle.bus_machine.specs.Machine.{Joins, Forks, fork_in, trails_joined, TakesTurn, TakesPut}
use Rattle.bus_machine.specs.Machine.{TakesMark, StopsNow, Hears, LeavesForGood, Happens, IsNew}
use Rattle.bus_machine.specs.Machine.{no_machine_trails, trails_grown, turn_grown, turn_trails}
use Rattle.bus_machine.specs.Machine.{log_place, going, passed_by, passers_place, stage_of}
use Rattle.bus_machine.specs.Machine.{machine_after, found, turn_answer}

closed_by : {A : Type 0} (o b : Bool) (xs : List A) → o ≡ true → b ≡ false → xs ≡ []
    → o && ((cond b false true) && is_empty xs) ≡ true
closed_by o b xs i j k = cc

pub close_taken : (q : Pending) → CanClose q → can_close q ≡ true
close_taken q c = closed_by (is_open q.phase) q.busy q.messages (ap is_open c.is_open) c.idle c.none

-- ---- senders by what they are made of
module _ {A B : Type 0} (f : A → B) where
  -- who is there is made of one
  pub made_there : (o : Option A) (v : B) → option_map f o ≡ Some v
      → (u : A) × (o ≡ Some u) × (v ≡ f u)
  made_there None v e = absurd (let bad : None ≡ Some v = e in cc)
  made_there (Some u) v e = (u, refl, sym (same_Some _ _ e))

  -- and goes on where that does
  pub opened_at : (t : Bool) (xs : Option B) (o : Option A) (v : B) → xs ≡ option_map f o
      → cond t None xs ≡ Some v → (u : A) × (cond t None o ≡ Some u) × (v ≡ f u) × (o ≡ Some u)
  opened_at true xs o v e g = absurd (let bad : None ≡ Some v = g in cc)
  opened_at false xs o v e g = let u = made_there o v (sym e ∙ g) in (u.0, u.1, u.2, u.1)

  -- a list of them, made again of what is left of each
  pub rebuilt : (g : B → A) (l : List B) → ((p : ℕ) (v : B) → slice_get l p ≡ Some v → f (g v) ≡ v)
      → map f (map g l) ≡ l
  rebuilt g [] h = refl
  rebuilt g (v ∷ l) h =
      ap (λ y. y ∷ map f (map g l)) (h 0 v refl)
      ∙ ap (λ y. v ∷ y) (rebuilt g l (λ p w e. h (suc p) w e))

-- a sender that goes on
opened : {E : Type 0} (bases : List ℕ) (x : Layout) (b : Bus E) (s : ℕ) (v : Sender E)
    → going (of_bus bases x b) s ≡ Some v
    → (c : Core E) × (plain_going b s ≡ Some c) × (v ≡ with_a_row_each c)
    × (slice_get b.side.senders s ≡ Some c)
opened bases x b s v g = grind (arith, opened_at, with_a_row_each, slice_get, map, slice_get-map)

-- ---- one event
nothing_heard : (H : ℕ → List RecvTurn) → (λ (r : ℕ). H r ++ []) ≡ H
nothing_heard H = fun_ext (λ r. append-nil (H r))

nothing_done : (D : ℕ → List Action) → (λ (r : ℕ). D r ++ []) ≡ D
nothing_done D = fun_ext (λ r. append-nil (D r))

module _ {E : Type 0} (X : Election E) (bases : List ℕ) (x : Layout) (b : Bus E) where
  turn_is : (s : ℕ) (c : Core E) (word : ℕ)
      → machine_after (of_bus bases x b) s (line_now X (with_a_row_each c)) word
      ≡ of_bus bases x (record b { side = side_after X b.side s c (situation_of X c) word })
  turn_is s c word =
      let z = situation_of X c in
      let got = number_found (slice_index b.side.words) (op_at X c z word) in
      ap (λ l. machine_after (of_bus bases x b) s l word) (at_none X c)
      ∙ ap (λ g. record (of_bus bases x b) {
        words = words_after b.side.words (op_at X c z word);
        home = home_after X c z b.side.home;
        senders = g;
        owners = owners_by (answer_at X c z got word) s b.side.owners;
      })
      (sym (map-set with_a_row_each b.side.senders s (core_after X c z b.side.home got word)))
      ∙ ap (λ o. record (of_bus bases x b) {
        words = words_after b.side.words (op_at X c z word);
        home = home_after X c z b.side.home;
        senders = map with_a_row_each
            (slice_set b.side.senders s (core_after X c z b.side.home got word));
        owners = o;
      })
      (sym (answer_tells X c s b.side.owners z got word))

  answer_is : (c : Core E) (word : ℕ)
      → turn_answer (of_bus bases x b) (line_now X (with_a_row_each c)) word
      ≡ answer_at X c (situation_of X c)
      (number_found (slice_index b.side.words) (op_at X c (situation_of X c) word)) word
  answer_is c word = ap (λ l. turn_answer (of_bus bases x b) l word) (at_none X c)

  turn_adds : (s word : ℕ) (a : Answer) (t : Answered) (c : Core E) → a ≡ answer.Turn t
      → plain_going b s ≡ Some c → going (of_bus bases x b) s ≡ Some (with_a_row_each c)
      → (T : Trails)
      → plain_grown X b (Turn s word) a (plain_trails T)
      ≡ plain_trails (trails_grown X (of_bus bases x b) (Turn s word) a T)
  turn_adds s word a t c told g h T =
      let z = situation_of X c in
      let got = number_found (slice_index b.side.words) (op_at X c z word) in
      ap (λ w. plain_grown X b (Turn s word) w (plain_trails T)) told
      ∙ ap (λ o. record {
        actions = λ q.
            T.actions q ++ cond (q == s) (turning_actions X b.side.words o word (answer.Turn t)) [];
        heard = λ r. T.heard r ++ [];
        log = log_by X o T.log;
      }) g
      ∙ ap (λ k. record {
        actions = actions_with s (turn_actions X c z got word (answer.Turn t)) T.actions;
        heard = k;
        log = T.log ++ words_of_frame (line_of X c z).publishes;
      }) (nothing_heard T.heard)
      ∙ ap (λ l. plain_trails (turn_trails (situation X (with_a_row_each c)) l s
      (found (of_bus bases x b) l word) word t T)) (sym (at_none X c))
      ∙ ap (λ o. plain_trails (turn_grown X (of_bus bases x b) s o word (answer.Turn t) T)) (sym h)
      ∙ ap (λ w. plain_trails (trails_grown X (of_bus bases x b) (Turn s word) w T)) (sym told)

  turns : (s word : ℕ) (a : Answer) (m : Machine E) → TakesTurn X (of_bus bases x b) s word a m
      → IsPlainEvent X bases x b (Turn s word) a m
  turns s word a m h =
      let o = opened bases x b s h.sender h.goes in
      let c = o.0 in
      let z = situation_of X c in
      let told =
      h.answered ∙ ap (λ v. answer.Turn (turn_answer (of_bus bases x b) (line_now X v) word)) o.2
      ∙ ap answer.Turn (answer_is c word) in
      let new = record b { side = side_after X b.side s c z word } in
      record {
        bus = new;
        is = grind (arith, common_steps, of_bus, turn_is);
        event = tt;
        happens = grind (arith, common_steps, side_after);
        answers = subst (λ k. TurnAnswers X b.side.words k word a) (sym o.1) told;
        trails = turn_adds s word a _ c told o.1 (h.goes ∙ ap Some o.2);
      }

  puts : (s : ℕ) (bytes : List ℕ) (a : Answer) (m : Machine E)
      → TakesPut (of_bus bases x b) s bytes a m → IsPlainEvent X bases x b (Put s bytes) a m
  puts s bytes a m h =
      let o = opened bases x b s h.sender h.goes in
      let c = o.0 in
      let can =
      subst (λ (v : Sender E). CanPut (queue_of v.core.queue v.reuse) (length bytes)) o.2 h.can in
      let may = put_taken c.queue (length bytes) can in
      let put = record c { queue = record c.queue { messages = c.queue.messages ++ bytes ∷ [] } } in
      let new = record b { side = plain_with b.side s put } in
      record {
        bus = new;
        is = grind (arith, common_steps, of_bus, map-set, with_a_row_each);
        event = h.are_bytes;
        happens = grind (arith, common_steps, plain_with, plain_put);
        answers = grind (arith, common_steps);
        trails = λ T. grind (arith, common_steps, of_bus, nothing_heard);
      }

  marks : (s : ℕ) (asked : Mark) (a : Answer) (m : Machine E)
      → TakesMark (of_bus bases x b) s asked a m → IsPlainEvent X bases x b (Ask s asked) a m
  marks s asked a m h =
      let o = opened bases x b s h.sender h.goes in
      let c = o.0 in
      let can = subst (λ (v : Sender E). CanClose (queue_of v.core.queue v.reuse)) o.2 h.can in
      let may = close_taken c.queue can in
      let marked = record c { queue = record c.queue { phase = Marking asked } } in
      let new = record b { side = plain_with b.side s marked } in
      record {
        bus = new;
        is = grind (arith, common_steps, of_bus, map-set, with_a_row_each);
        event = tt;
        happens = grind (arith, common_steps, plain_with, plain_mark);
        answers = (subst CloseGives (sym o.1) can, h.answered);
        trails = λ T. grind (arith, common_steps, of_bus, nothing_heard);
      }

  stops : (s : ℕ) (a : Answer) (m : Machine E) → StopsNow (of_bus bases x b) s a m
      → IsPlainEvent X bases x b (Stop s) a m
  stops s a m h =
      let o = opened bases x b s h.sender h.goes in
      let new = record b { stopped = slice_set b.stopped s true } in
      record {
        bus = new;
        is = h.after;
        event = tt;
        happens = (refl, refl, subst (λ k. StopDoes b.stopped s k new.stopped) (sym o.1) refl);
        answers = (subst StopGives (sym o.1) tt, h.answered);
        trails = λ T. grind (arith, common_steps, nothing_done, nothing_heard);
      }

  leaves : (r : ℕ) (a : Answer) (m : Machine E) → NonePasses b.receivers
      → LeavesForGood (of_bus bases x b) r a m → IsPlainEvent X bases x b (Gone r) a m
  leaves r a m none h =
      let new = record b { receivers = slice_set b.receivers r (with_leave h.receiver) } in
      record {
        bus = new;
        is = grind (arith, common_steps, of_bus, leaves_only);
        event = tt;
        happens = grind (arith, common_steps);
        answers = (subst LeaveGives (sym h.there) tt, h.answered);
        trails = λ T. grind (arith, common_steps, nothing_done, nothing_heard);
      }

  hears : (r : ℕ) (a : Answer) (m : Machine E) → NonePasses b.receivers
      → Hears (of_bus bases x b) r a m → IsPlainEvent X bases x b (Recv r) a m
  hears r a m none h =
      let new = record b { receivers = slice_set b.receivers r h.next } in
      record {
        bus = new;
        is = grind (arith, of_bus, reads_only);
        event = tt;
        happens = grind (arith, common_steps);
        answers = subst (λ o. RecvAnswers b.side.words b.receivers r o a new.receivers)
            (sym h.there) (h.next, h.heard, h.does, refl, h.answered);
        trails = λ T.
            ap (λ k. record {
              actions = k;
              heard = λ q. T.heard q ++ heard_of (Recv r) a q;
              log = T.log;
            }) (nothing_done T.actions)
            ∙ ap (λ w. record {
              actions = T.actions;
              heard = λ q. T.heard q ++ heard_of (Recv r) w q;
              log = T.log;
            }) h.answered
            ∙ ap (λ w. plain_trails (trails_grown X (of_bus bases x b) (Recv r) w T))
            (sym h.answered);
      }

pub happens_at_none : {E : Type 0} (X : Election E) → HappensAtNone X
happens_at_none X bases x b (Put s bytes) a m none h = puts X bases x b s bytes a m h
happens_at_none X bases x b (Ask s asked) a m none h = marks X bases x b s asked a m h
happens_at_none X bases x b (Turn s word) a m none h = turns X bases x b s word a m h
happens_at_none X bases x b (Recv r) a m none h = hears X bases x b r a m none h
happens_at_none X bases x b (Stop s) a m none h = stops X bases x b s a m h
happens_at_none X bases x b (Gone r) a m none h = leaves X bases x b r a m none h

-- where no word of the log is used again there is no passed place
pub passed_first : (x : Layout) (o : Option ℕ) (r : ℕ) → x.passers ≡ 0 → passed_by x o r ≡ None
passed_first x o r flat = grind (arith, common_steps, lt_tells)

-- and each lies behind length and stage
passers_behind : (x : Layout) (o : Option ℕ) → 2 ≤ passers_place x o
passers_behind x None = omega arith
passers_behind x (Some rows) = omega arith

pub passed_past : (x : Layout) (o : Option ℕ) (r place : ℕ) → passed_by x o r ≡ Some place
    → 2 ≤ place
passed_past x o r place e = grind (arith, common_steps, nat_lt, same_Some, passers_behind)

-- ---- a fork that is done
module _ {E : Type 0} (m m' : Machine E) (i j : ℕ) (h : Forks m i j true m') where
  -- with the passed place that its number has, if it has one
  abbrev forked_by : Option ℕ → Machine E
  forked_by o = record m {
    words = words_after m.words (joining_by o h.maker.passed);
    receivers = slice_set m.receivers j (forked_at o h.maker);
  }

  -- its step found 2^64 - 1, so it is a store of what the maker has passed
  pub fork_stores : (place : ℕ) → passed_by m.layout m.reuse j ≡ Some place
      → words_after m.words (joining_op (fork_in m j h.maker))
      ≡ slice_set m.words place h.maker.passed
  fork_stores place at = grind (arith, common_steps, slice_set, slice_index)

  -- without a passed place no word changes
  pub fork_is : passed_by m.layout m.reuse j ≡ None
      → m' ≡ record m { receivers = slice_set m.receivers j (forked_at None h.maker) }
  fork_is none = h.after ∙ ap forked_by none

  -- it leaves the stage
  pub fork_rises : stage_of m ≤ stage_of m'
  fork_rises =
      grind (arith, common_steps, fork_is, passed_past, slice_index, fork_stores, get_or-set_other)

-- ---- what is reached
module _ {E : Type 0} (X : Election E) where
  new_plain : (w : Machine E) → IsNew w → w.reuse ≡ None → IsPlain X w no_machine_trails
  new_plain w new e = record {
    bus = b;
    is = grind (arith, common_steps, rebuilt, with_a_row_each, map, b);
    reached = New b record {
      bases_are = new.bases_are;
      words = new.words ∙ ap (λ r. replicate (log_place w.layout r + w.layout.capacity) 0) e;
      home = new.home;
      senders = core_new;
      owners = refl;
      stopped = new.stopped;
      receivers = λ r v at. subst
          (λ p. IsNewReceiver w.layout.senders (log_at w.layout) w.layout.capacity p v)
          (passed_first w.layout None r (new.apart e)) (subst
          (λ u. IsNewReceiver w.layout.senders (log_place w.layout u) w.layout.capacity
          (passed_by w.layout u r) v) e (new.receivers r v at));
    };
  } where
    b : Bus E
    b = record {
      side = record {
        words = w.words;
        home = w.home;
        senders = map (λ v. v.core) w.senders;
        owners = [];
      };
      receivers = w.receivers;
      stopped = w.stopped;
    }

    core_new : (p : ℕ) (c : Core E) → slice_get b.side.senders p ≡ Some c
        → (p < w.layout.senders) × (c ≡ new_core w.layout (base_of w p) p)
    core_new p c at = grind (arith, common_steps, made_there, slice_get, slice_get-map)

  pub next_plain : (w m : Machine E) (T : Trails) (e : Event) (a : Answer) → Happens X w e a m
      → NonePasses w.receivers → IsPlain X w T → IsPlain X m (trails_grown X w e a T)
  next_plain w m T e a h none i =
      let k = happens_at_none X w.bases w.layout i.bus e a m
      (subst (λ (y : Machine E). NonePasses y.receivers) i.is none)
      (subst (λ y. Happens X y e a m) i.is h) in
      record {
        bus = k.bus;
        is = cc;
        reached = subst
            (λ l. PlainReached X l m.layout k.bus (plain_trails (trails_grown X w e a T)))
            (sym (ap (λ (y : Machine E). y.bases) k.is))
            (subst (λ l. PlainReached X w.bases l k.bus (plain_trails (trails_grown X w e a T)))
            (sym (ap (λ (y : Machine E). y.layout) k.is))
            (subst
            (λ y. PlainReached X w.bases w.layout k.bus (plain_trails (trails_grown X y e a T)))
            (sym i.is)
            (subst (λ U. PlainReached X w.bases w.layout k.bus U) (k.trails T)
            (Then i.bus k.bus (plain_trails T) e a i.reached k.event k.happens k.answers))));
      }

  pub event_reuse : (w m : Machine E) (e : Event) (a : Answer) → Happens X w e a m
      → (m.layout ≡ w.layout) × (m.reuse ≡ w.reuse)
  event_reuse w m (Put s bytes) a h = grind (arith, common_steps)
  event_reuse w m (Ask s asked) a h = grind (arith, common_steps)
  event_reuse w m (Turn s word) a h = grind (arith, common_steps)
  event_reuse w m (Recv r) a h = grind (arith, common_steps)
  event_reuse w m (Stop s) a h = grind (arith, common_steps)
  event_reuse w m (Gone r) a h = grind (arith, common_steps)

  pub forks_reuse : (w m : Machine E) (i j : ℕ) → Forks w i j true m
      → (m.layout ≡ w.layout) × (m.reuse ≡ w.reuse)
  forks_reuse w m i j h = grind (arith, common_steps)

  -- ---- passed places
  -- where each tenure has a row there are none
  pub flat_at_none : (m : Machine E) (T : Trails) → Reached X m T → m.reuse ≡ None
      → m.layout.passers ≡ 0
  flat_at_none m T (Start w new) e = new.apart e
  flat_at_none m T (Next w v U f a before h) e =
      let i = event_reuse w v f a h in
      ap (λ (x : Layout). x.passers) i.0 ∙ flat_at_none w U before (sym i.1 ∙ e)
  flat_at_none m T (Joins w v U i j n before h nobody silent) e =
      let same = forks_reuse w v i j h in
      ap (λ (x : Layout). x.passers) same.0 ∙ flat_at_none w U before (sym same.1 ∙ e)

  -- what a receiver does leaves its passed place where it is
  read_there : (words : ℕ → ℕ) (v next : Receiving) (told : RecvTurn)
      → RecvDoes words v told next → next.passed_at ≡ v.passed_at
  read_there words v next told d = grind (arith, common_steps)

  -- those are of the machine's layout
  abbrev Passes : Machine E → Type 0
  Passes m = (r : ℕ) (v : Receiving) → slice_get m.receivers r ≡ Some v
      → v.passed_at ≡ passed_by m.layout m.reuse r

  same_passes : (w m : Machine E) → (m.layout ≡ w.layout) × (m.reuse ≡ w.reuse)
      → m.receivers ≡ w.receivers → Passes w → Passes m
  same_passes w m i is k r v at = grind (arith, common_steps, slice_get)

  one_passes : (w m : Machine E) (q : ℕ) (u next : Receiving)
      → (m.layout ≡ w.layout) × (m.reuse ≡ w.reuse) → slice_get w.receivers q ≡ Some u
      → next.passed_at ≡ u.passed_at → m.receivers ≡ slice_set w.receivers q next → Passes w
      → Passes m
  one_passes w m q u next i there same set k r v at =
      was ∙ ap (λ x. passed_by x w.reuse r) (sym i.0) ∙ ap (λ o. passed_by m.layout o r) (sym i.1)
    where
      here : slice_get (slice_set w.receivers q next) r ≡ Some v
      here = sym (ap (λ l. slice_get l r) set) ∙ at

      was : v.passed_at ≡ passed_by w.layout w.reuse r
      was = elim (cases_eq r q) [
        | inl e ↦
            grind (arith, same_Some, get_set_same, slice_get_within, slice_get, slice_set, here)
        | inr ne ↦ k r v (sym (get_set_other w.receivers q next r ne) ∙ here)
      ]

  event_passes : (w m : Machine E) (e : Event) (a : Answer) → Happens X w e a m → Passes w
      → Passes m
  event_passes w m (Put s bytes) a h = same_passes w m (event_reuse w m (Put s bytes) a h)
      (ap (λ (y : Machine E). y.receivers) h.after)
  event_passes w m (Ask s asked) a h = same_passes w m (event_reuse w m (Ask s asked) a h)
      (ap (λ (y : Machine E). y.receivers) h.after)
  event_passes w m (Turn s word) a h = same_passes w m (event_reuse w m (Turn s word) a h)
      (ap (λ (y : Machine E). y.receivers) h.after)
  event_passes w m (Recv r) a h =
      grind (arith, common_steps, one_passes, event_reuse, read_there, slice_index)
  event_passes w m (Stop s) a h = same_passes w m (event_reuse w m (Stop s) a h)
      (ap (λ (y : Machine E). y.receivers) h.after)
  event_passes w m (Gone r) a h = grind (arith, common_steps, one_passes, event_reuse)

  pub passes_by : (m : Machine E) (T : Trails) → Reached X m T → (r : ℕ) (v : Receiving)
      → slice_get m.receivers r ≡ Some v → v.passed_at ≡ passed_by m.layout m.reuse r
  passes_by m T (Start w new) r v at = (new.receivers r v at).passed_is
  passes_by m T (Next w v U f a before h) r u at =
      event_passes w v f a h (passes_by w U before) r u at
  passes_by m T (Joins w v U i j n before h nobody silent) r u at =
      one_passes w v j h.last (fork_in w j h.maker) (forks_reuse w v i j h) h.was
      (sym (passes_by w U before j h.last h.was))
      (ap (λ (y : Machine E). y.receivers) h.after) (passes_by w U before) r u at

  -- without passed places a fork is a copy
  forked_plain : (w m : Machine E) (T : Trails) (i j n : ℕ) → Forks w i j true m
      → w.layout.passers ≡ 0 → Passes w → slice_get w.receivers n ≡ None → T.heard n ≡ []
      → IsPlain X w T → IsPlain X m (trails_joined i j n T)
  forked_plain w m T i j n h flat passes nobody silent k = record {
    bus = new;
    is = is ∙ ap (λ x. of_bus w.bases x new) (sym same.0) ∙ ap (λ l. of_bus l m.layout new) bases;
    reached =
        subst (λ l. PlainReached X l m.layout new (plain_trails (trails_joined i j n T))) bases
        (subst (λ x. PlainReached X w.bases x new (plain_trails (trails_joined i j n T)))
        (sym same.0)
        (Copied k.bus (plain_trails T) i j n h.maker h.last k.reached (sym (at i) ∙ h.there)
        (sym (at j) ∙ h.was) (sym (at n) ∙ nobody) silent));
  } where
    same : (m.layout ≡ w.layout) × (m.reuse ≡ w.reuse)
    same = forks_reuse w m i j h

    bases : w.bases ≡ m.bases
    bases = sym (ap (λ (y : Machine E). y.bases) h.after)

    at : (q : ℕ) → slice_get w.receivers q ≡ slice_get k.bus.receivers q
    at q = ap (λ (y : Machine E). slice_get y.receivers q) k.is

    new : Bus E
    new = record k.bus { receivers = slice_set k.bus.receivers j h.maker }

    is : m ≡ of_bus w.bases w.layout new
    is = grind (arith, common_steps, fork_is, passed_first, slice_set)

  -- whatever leads to it, leads to the bus with a row for each tenure
  pub reached_at_none : (m : Machine E) (T : Trails) → Reached X m T → m.reuse ≡ None
      → IsPlain X m T
  reached_at_none m T (Start w new) e = new_plain w new e
  reached_at_none m T (Next w v U f a before h) e =
      let was = sym (event_reuse w v f a h).1 ∙ e in
      next_plain w v U f a h
      (λ r u at. passes_by w U before r u at ∙ passed_first w.layout w.reuse r
      (flat_at_none w U before was))
      (reached_at_none w U before was)
  reached_at_none m T (Joins w v U i j n before h nobody silent) e =
      let was = sym (forks_reuse w v i j h).1 ∙ e in
      forked_plain w v U i j n h (flat_at_none w U before was) (passes_by w U before) nobody silent
      (reached_at_none w U before was)

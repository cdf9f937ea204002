-- A stop is for good, and changes nothing else.
use Rattle.std.proofs.Common.{◌≡◌, ◌≢◌, ℕ, zero, suc, ◌<◌, ◌≤◌, Bool, true, false, cond, arith}
use Rattle.std.proofs.Common.{Option, Some, None, inl, inr, List, All, [], ◌∷◌, length, slice_get}
use Rattle.std.proofs.Common.{slice_set, refl, sym, ◌∙◌, ap, subst}
use Rattle.std.specs.Prelude.{◌⊎◌}
use Rattle.std.proofs.lemmas.Bool.{true≢false, cases_eq}
use Rattle.std.proofs.lemmas.List.{length-replicate, set-set, set_comm}
use Rattle.std.proofs.lemmas.List.Elements.{All-head, All-tail}
use Rattle.std.proofs.lemmas.Option.{slice_get_within}
use Rattle.std.proofs.Math.ListN.{length-set}
use Rattle.std.proofs.lemmas.Grind.{common_steps}
use Rattle.bus_register.specs.declared.limits.TheConstants.{MOST_SENDERS}
use Rattle.bus_register.specs.Private.TableLaws.{some_or_none, here_not, get_set_same}
use Rattle.bus_register.specs.Private.TableLaws.{get_set_other}
use Rattle.bus_register.specs.declared.registers.Op.{Op}
use Rattle.bus_core.specs.Senders.{Sender, Situation, Does, Announces, Validates, Unpins}
use Rattle.bus_core.specs.Senders.{Withdraws, Scans, Clears, ReadsPassed, situation}
use Rattle.bus_core.specs.Table.{Line, line_now}
use Rattle.bus_deliverylog.specs.Receiving.{Receiving}
use Rattle.bus_adoptcommit.specs.declared.verdicts.Verdict.{Verdict}
use Rattle.bus_register.specs.Protocol.{Protocol}
use Rattle.bus_tenure.specs.Core.{Election}
use Rattle.bus_tenure.specs.Elections.{Elector}
use Rattle.bus_tenure.specs.declared.turns.Turn.{Turn as Answered}
use Rattle.bus_world.specs.Playing.{RecvRefused}
use Rattle.bus_world.specs.World.{Event, Put, Ask, Turn, Recv, Stop, Gone, is_set}
use Rattle.bus_world.specs.declared.events.Answer.{Answer}
use Rattle.bus_world.specs.declared.events.Answer.TheVariants as answer
use Rattle.bus_world.specs.declared.events.StepFault.{StepFault}
use Rattle.bus_world.specs.declared.events.StepFault.TheVariants as fault
use Rattle.bus_machine.specs.Machine.{Machine, Trails, Reached, New as Start, Then as Next}
use Rattle.bus_machine.specs.Machine.{Joins}
use Rattle.bus_machine.specs.Machine.{Happens, IsOnWord, trails_grown, turn_grown, turn_trails}
use Rattle.bus_machine.specs.Machine.{going, has_stopped, found}
use Rattle.bus_machine.specs.Playing.{Refused, SenderRefused, PutRefused, CloseRefused}
use Rattle.bus_machine.specs.Playing.{AllAnswered, trails_after}
use Rattle.bus_machine.specs.Stopping.{IsOfOther, with_stop_of, JustStopped, StaysStopped}
use Rattle.bus_machine.specs.Stopping.{StopsAreForGood, StopRefuses}
use Rattle.bus_machine.proofs.Memory.EachSender.{actions_of_other, entered_beside}
use Rattle.bus_world.proofs.Stopping.{shown_there}

-- ---- of each machine that is reached
module _ {E : Type 0} (X : Election E) where
  stops_after : (w m : Machine E) (e : Event) (a : Answer) → Happens X w e a m
      → length m.stopped ≡ length w.stopped
  stops_after w m (Put s bytes) a h = ap (λ (y : Machine E). length y.stopped) h.after
  stops_after w m (Ask s asked) a h = ap (λ (y : Machine E). length y.stopped) h.after
  stops_after w m (Turn s word) a h = ap (λ (y : Machine E). length y.stopped) h.after
  stops_after w m (Recv r) a h = ap (λ (y : Machine E). length y.stopped) h.after
  stops_after w m (Stop s) a h =
      ap (λ (y : Machine E). length y.stopped) h.after ∙ length-set w.stopped s true
  stops_after w m (Gone r) a h = ap (λ (y : Machine E). length y.stopped) h.after

  -- it is told of each sender that there can be whether they have stopped
  reached_stops : (m : Machine E) (T : Trails) → Reached X m T → length m.stopped ≡ MOST_SENDERS
  reached_stops m T (Start w new) = ap length new.stopped ∙ length-replicate MOST_SENDERS false
  reached_stops m T (Next w v U e a before h) = stops_after w v e a h ∙ reached_stops w U before
  reached_stops m T (Joins w v U i j n before h nobody silent) =
      ap (λ (y : Machine E). length y.stopped) h.after ∙ reached_stops w U before

  -- the senders are as many, and the sizes the same
  many_after : (w m : Machine E) (e : Event) (a : Answer) → Happens X w e a m
      → (length m.senders ≡ length w.senders) × (m.layout ≡ w.layout)
  many_after w m (Put s bytes) a h = grind (arith, common_steps, length, length-set)
  many_after w m (Ask s asked) a h = grind (arith, common_steps, length, length-set)
  many_after w m (Turn s word) a h = grind (arith, common_steps, length, length-set)
  many_after w m (Recv r) a h = grind (arith, common_steps, length)
  many_after w m (Stop s) a h = grind (arith, common_steps, length)
  many_after w m (Gone r) a h = grind (arith, common_steps, length)

  -- who there is is one of its senders
  reached_below : (m : Machine E) (T : Trails) → Reached X m T → (p : ℕ) → p < length m.senders
      → p < m.layout.senders
  reached_below m T (Start w new) p l = elim (some_or_none (slice_get w.senders p)) [
    | inl none ↦ absurd (here_not w.senders p l none)
    | inr some ↦ (new.senders p some.0 some.1).0
  ]
  reached_below m T (Next w v U e a before h) p l = let i = many_after w v e a h in
      subst (λ x. p < x.senders) (sym i.1) (reached_below w U before p (subst (λ n. p < n) i.0 l))
  reached_below m T (Joins w v U i j n before h nobody silent) p l =
      subst (λ x. p < x.senders) (sym (ap (λ (y : Machine E). y.layout) h.after))
      (reached_below w U before p
      (subst (λ k. p < k) (ap (λ (y : Machine E). length y.senders) h.after) l))

-- ---- who has stopped
module _ {E : Type 0} where
  shown_free : (t : Bool) (o : Option (Sender E)) (v : Sender E) → cond t None o ≡ Some v
      → t ≡ false
  shown_free true o v e = absurd (let bad : None ≡ Some v = e in cc)
  shown_free false o v e = refl

  not_stopped : (m : Machine E) (s : ℕ) (v : Sender E) → going m s ≡ Some v
      → has_stopped m s ≡ false
  not_stopped m s v e = shown_free (has_stopped m s) (slice_get m.senders s) v e

  -- who has stopped does not go on
  late : (m : Machine E) (q s : ℕ) (v : Sender E) → has_stopped m s ≡ true → s ≡ q
      → going m q ≡ Some v → ⊥
  late m q s v stop e goes = true≢false (sym stop ∙ ap (has_stopped m) e ∙ not_stopped m q v goes)

-- ---- what the others do is alike, whatever is told of s
-- to tell of s what is so already changes nothing
telling_so : (l : List Bool) (s : ℕ) → slice_set l s (is_set (slice_get l s)) ≡ l
telling_so [] s = refl
telling_so (t ∷ l) zero = refl
telling_so (t ∷ l) (suc s) = ap (λ r. t ∷ r) (telling_so l s)

-- and so a stop of one that went on can be taken back
taken_back : (l : List Bool) (s : ℕ) → is_set (slice_get l s) ≡ false
    → slice_set (slice_set l s true) s false ≡ l
taken_back l s e = set-set l s true false ∙ ap (λ t. slice_set l s t) (sym e) ∙ telling_so l s

module _ {E : Type 0} (X : Election E) (m : Machine E) (s : ℕ) (t : Bool) where
  abbrev told : Machine E
  told = with_stop_of s t m

  beside : (q : ℕ) → q ≢ s → has_stopped told q ≡ has_stopped m q
  beside q ne = ap is_set (get_set_other m.stopped s t q ne)

  going_alike : (q : ℕ) → q ≢ s → going told q ≡ going m q
  going_alike q ne = ap (λ k. cond k None (slice_get m.senders q)) (beside q ne)

  on_word : (o : Option Op) → IsOnWord m o → IsOnWord told o
  on_word None h = h
  on_word (Some o) h = h

  happens_alike : (e : Event) (a : Answer) (next : Machine E) → IsOfOther s e → Happens X m e a next
      → Happens X told e a (with_stop_of s t next)
  happens_alike (Put q bytes) a next ne h = grind (arith, common_steps, going_alike)
  happens_alike (Ask q asked) a next ne h = grind (arith, common_steps, going_alike)
  happens_alike (Turn q word) a next ne h = grind (arith, common_steps, going_alike, on_word)
  happens_alike (Recv r) a next ne h = grind (arith, common_steps, on_word)
  happens_alike (Stop q) a next ne h = grind (arith, common_steps, going_alike, set_comm)
  happens_alike (Gone r) a next ne h = grind (arith, common_steps, on_word)

  trails_alike : (e : Event) (g : Answer) (T : Trails) → IsOfOther s e
      → trails_grown X told e g T ≡ trails_grown X m e g T
  trails_alike (Put q bytes) g T ne = refl
  trails_alike (Ask q asked) g T ne = refl
  trails_alike (Turn q word) g T ne = ap (λ o. turn_grown X m q o word g T) (going_alike q ne)
  trails_alike (Recv r) g T ne = refl
  trails_alike (Stop q) g T ne = refl
  trails_alike (Gone r) g T ne = refl

-- who has stopped is told otherwise, but the same of the others than s
module _ {E : Type 0} (m : Machine E) (s : ℕ) (l : List Bool)
    (same : (q : ℕ) → q ≢ s → has_stopped (record m { stopped = l }) q ≡ has_stopped m q) where
  refused_alike : (e : Event) (why : StepFault) → IsOfOther s e → Refused m e why
      → Refused (record m { stopped = l }) e why
  refused_alike (Put q bytes) why ne w = grind (arith, common_steps, slice_get, length)
  refused_alike (Ask q asked) why ne w = subst
      (λ t. SenderRefused (slice_get m.senders q) t why (CloseRefused why)) (sym (same q ne)) w
  refused_alike (Turn q word) why ne w =
      subst (λ t. SenderRefused (slice_get m.senders q) t why (λ v. ⊥)) (sym (same q ne)) w
  refused_alike (Recv r) why ne w = w
  refused_alike (Stop q) why ne w =
      subst (λ t. SenderRefused (slice_get m.senders q) t why (λ v. ⊥)) (sym (same q ne)) w
  refused_alike (Gone r) why ne w = w

-- ---- what an event of another adds
record AddsNothing (s : ℕ) (T T' : Trails) : Type 0 where
  actions : T'.actions s ≡ T.actions s
  pins : T'.pins s ≡ T.pins s
  reclaims : T'.reclaims s ≡ T.reclaims s

the_same : (s : ℕ) (T : Trails) → AddsNothing s T T
the_same s T = record { actions = refl; pins = refl; reclaims = refl }

module _ {E : Type 0} (X : Election E) (m : Machine E) (q s : ℕ) (ne : s ≢ q) where
  line_adds : (z : Situation E) (l : Line E) (got word : ℕ) (t : Answered) (T : Trails)
      → AddsNothing s T (turn_trails z l q got word t T)
  line_adds (Does z) l got word t T = grind (arith, common_steps, actions_of_other)
  line_adds (Announces u) l got word t T =
      grind (arith, common_steps, actions_of_other, entered_beside)
  line_adds (Validates u) l got word t T =
      grind (arith, common_steps, actions_of_other, entered_beside)
  line_adds (Unpins u) l got word t T =
      grind (arith, common_steps, actions_of_other, entered_beside)
  line_adds (Withdraws u) l got word t T =
      grind (arith, common_steps, actions_of_other, entered_beside)
  line_adds (Scans r) l got word t T = grind (arith, common_steps, actions_of_other, entered_beside)
  line_adds (Clears r) l got word t T =
      grind (arith, common_steps, actions_of_other, entered_beside)
  line_adds (ReadsPassed u p) l got word t T = grind (arith, common_steps, actions_of_other)

  turn_adds : (o : Option (Sender E)) (word : ℕ) (a : Answer) (T : Trails)
      → AddsNothing s T (turn_grown X m q o word a T)
  turn_adds None word a T = the_same s T
  turn_adds (Some v) word (answer.Number n) T = the_same s T
  turn_adds (Some v) word answer.Closing T = the_same s T
  turn_adds (Some v) word answer.Leaving T = the_same s T
  turn_adds (Some v) word (answer.Turn t) T =
      line_adds (situation X v) (line_now X v) (found m (line_now X v) word) word t T
  turn_adds (Some v) word (answer.Recv t) T = the_same s T
  turn_adds (Some v) word answer.Stopped T = the_same s T
  turn_adds (Some v) word answer.Gone T = the_same s T

-- ---- whatever happens next
module _ {E : Type 0} (X : Election E) where
  leaves : (m m' after : Machine E) (T T' : Trails) (s : ℕ) → m' ≡ after → has_stopped m s ≡ true
      → has_stopped after s ≡ has_stopped m s → slice_get after.senders s ≡ slice_get m.senders s
      → AddsNothing s T T' → StaysStopped m T s m' T'
  leaves m m' after T T' s is stop same state adds = grind (arith, common_steps, slice_get)

  event_leaves : (m m' : Machine E) (e : Event) (a : Answer) (T : Trails) (s : ℕ)
      → has_stopped m s ≡ true → Happens X m e a m' → StaysStopped m T s m' (trails_grown X m e a T)
  event_leaves m m' (Put q bytes) a T s stop h =
      grind (arith, common_steps, cases_eq, late, leaves, get_set_other, actions_of_other)
  event_leaves m m' (Ask q asked) a T s stop h =
      grind (arith, common_steps, cases_eq, late, leaves, get_set_other, actions_of_other)
  event_leaves m m' (Turn q word) a T s stop h =
      grind (arith, common_steps, cases_eq, late, leaves, get_set_other, turn_adds)
  event_leaves m m' (Recv r) a T s stop h = leaves m m' _ T _ s h.after stop refl refl
      record { actions = refl; pins = refl; reclaims = refl }
  event_leaves m m' (Stop q) a T s stop h =
      grind (arith, common_steps, cases_eq, late, leaves, get_set_other, the_same)
  event_leaves m m' (Gone r) a T s stop h =
      leaves m m' _ T _ s h.after stop refl refl (the_same s T)

  -- nobody stops but by a stop of its own
  event_tells : (m m' : Machine E) (e : Event) (a : Answer) (s : ℕ) → e ≢ Stop s
      → Happens X m e a m' → has_stopped m' s ≡ has_stopped m s
  event_tells m m' (Put q bytes) a s other h = ap (λ (y : Machine E). has_stopped y s) h.after
  event_tells m m' (Ask q asked) a s other h = ap (λ (y : Machine E). has_stopped y s) h.after
  event_tells m m' (Turn q word) a s other h = ap (λ (y : Machine E). has_stopped y s) h.after
  event_tells m m' (Recv r) a s other h = ap (λ (y : Machine E). has_stopped y s) h.after
  event_tells m m' (Stop q) a s other h = grind (arith, common_steps, cases_eq, get_set_other)
  event_tells m m' (Gone r) a s other h = ap (λ (y : Machine E). has_stopped y s) h.after

  -- ---- a stop
  happens_before : (m : Machine E) (s : ℕ) → has_stopped m s ≡ false
      → (e : Event) (g : Answer) (next : Machine E) → IsOfOther s e
      → Happens X (with_stop_of s true m) e g next → Happens X m e g (with_stop_of s false next)
  happens_before m s went_on e g next other h =
      subst (λ y. Happens X y e g (with_stop_of s false next))
      (ap (λ l. record m { stopped = l }) (taken_back m.stopped s went_on))
      (happens_alike X (with_stop_of s true m) s false e g next other h)

  stops : (old new : Machine E) (T : Trails) (s : ℕ) (a : Answer) → Reached X old T
      → old.layout.senders ≤ MOST_SENDERS → Happens X old (Stop s) a new → JustStopped X old s a new
  stops old new T s a r few h =
      let free = not_stopped old s h.sender h.goes in
      let below : s < old.layout.senders = reached_below X old T r s
      (slice_get_within old.senders s h.sender
      (shown_there (has_stopped old s) (slice_get old.senders s) h.sender h.goes)) in
      let many = reached_stops X old T r in
      let room : s < length old.stopped = omega arith in
      record {
        answered = h.answered;
        went_on = free;
        stopped = grind (arith, common_steps, get_set_same);
        others = λ q ne. grind (arith, common_steps, get_set_other);
        nothing_else = cc;
        trails = λ U. refl;
        trails_alike = λ e g U other.
            ap (λ y. trails_grown X y e g U) h.after ∙ trails_alike X old s true e g U other;
        happens_alike = λ e g next other w. subst (λ y. Happens X y e g (with_stop_of s true next))
            (sym h.after) (happens_alike X old s true e g next other w);
        happens_before = λ e g next other w.
            happens_before old s free e g next other (subst (λ y. Happens X y e g next) h.after w);
        refused_alike = λ e why other.
            grind (arith, common_steps, refused_alike, slice_set, beside);
      }

-- ---- whatever events follow
module _ {S : Type 0} (X : Election (Elector S)) (P : Protocol S Bool Verdict) where
  -- all leave it so
  stays : (events : List Event) (old new : Machine (Elector S))
      (run : AllAnswered X P old events new) (T : Trails) (s : ℕ) → has_stopped old s ≡ true
      → StaysStopped old T s new (trails_after X P old events new run T)
  stays [] old new run T s stop = grind (arith, common_steps, slice_get)
  stays (e ∷ events) old new run T s stop =
      let one = event_leaves X old run.0 e run.1 T s stop run.2.happens in
      let rest = stays events run.0 new run.3 (trails_grown X old e run.1 T) s one.stopped in
      grind (arith, common_steps)

  -- and so none does whose stop is not among them
  goes_on : (events : List Event) (old new : Machine (Elector S)) (s : ℕ)
      → AllAnswered X P old events new → All (λ e. e ≢ Stop s) events
      → has_stopped new s ≡ has_stopped old s
  goes_on [] old new s run others = ap (λ (y : Machine (Elector S)). has_stopped y s) run
  goes_on (e ∷ events) old new s run others =
      goes_on events run.0 new s run.3 (All-tail (λ f. f ≢ Stop s) e events others)
      ∙ event_tells X old run.0 e run.1 s (All-head (λ f. f ≢ Stop s) e events others) run.2.happens

-- ---- the fault of who has stopped, and of who has not
module _ {E : Type 0} where
  as_stopped :
      (o : Option (Sender E)) (t : Bool) (v : Sender E) (own : StepFault → Sender E → Type 0)
      → o ≡ Some v → t ≡ true → (why : StepFault)
      → (SenderRefused o t why (own why) → why ≡ fault.Stopped)
      × (why ≡ fault.Stopped → SenderRefused o t why (own why))
  as_stopped None t v own there is why = absurd (let bad : None ≡ Some v = there in cc)
  as_stopped (Some u) true v own there is why = (λ w. w, λ w. w)
  as_stopped (Some u) false v own there is why = absurd (true≢false (sym is))

  not_as_stopped : (o : Option (Sender E)) (t : Bool) (own : Sender E → Type 0)
      → (o ≡ None) ⊎ (t ≡ false) → ((v : Sender E) → own v → ⊥)
      → SenderRefused o t fault.Stopped own → ⊥
  not_as_stopped None t own free never w = let bad : fault.Stopped ≡ fault.NoSuchSender = w in cc
  not_as_stopped (Some v) true own (inl e) never w = absurd (let bad : Some v ≡ None = e in cc)
  not_as_stopped (Some v) true own (inr e) never w = absurd (true≢false e)
  not_as_stopped (Some v) false own free never w = never v w

  never_refused : (o : Option (Sender E)) (t : Bool) (v : Sender E) (why : StepFault) → o ≡ Some v
      → t ≡ false → SenderRefused o t why (λ u. ⊥) → ⊥
  never_refused None t v why there free w = absurd (let bad : None ≡ Some v = there in cc)
  never_refused (Some u) true v why there free w = absurd (true≢false free)
  never_refused (Some u) false v why there free w = w

  never_a_put : (len : ℕ) (v : Sender E) → PutRefused len fault.Stopped v → ⊥
  never_a_put len v e = let bad : fault.Stopped ≡ fault.Put e.0 = e.2 in cc

  never_a_mark : (v : Sender E) → CloseRefused fault.Stopped v → ⊥
  never_a_mark v e = let bad : fault.Stopped ≡ fault.Close e.0 = e.2 in cc

never_a_recv : (o : Option Receiving) → RecvRefused o fault.Stopped → ⊥
never_a_recv None e = cc
never_a_recv (Some v) e = let bad : fault.Stopped ≡ fault.Gone = e.1 in cc

pub refuses : {E : Type 0} (X : Election E) → StopRefuses X
refuses X = record {
  idle_stop = λ m T s a r few h.
      (let just = stops X m m T s a r few h in true≢false (sym just.stopped ∙ just.went_on));
  late_turn = λ old new s word a stop h. late old s s h.sender stop refl h.goes;
  late_put = λ old new s bytes a stop h. late old s s h.sender stop refl h.goes;
  late_mark = λ old new s asked a stop h. late old s s h.sender stop refl h.goes;
  second_stop = λ old new s a stop h. late old s s h.sender stop refl h.goes;
  put_untimely = λ m s bytes free w. not_as_stopped (slice_get m.senders s) (has_stopped m s) _ free
      (never_a_put (length bytes)) w;
  mark_untimely = λ m s asked free w.
      not_as_stopped (slice_get m.senders s) (has_stopped m s) _ free never_a_mark w;
  turn_untimely = λ m s word free w.
      not_as_stopped (slice_get m.senders s) (has_stopped m s) (λ v. ⊥) free (λ v e. e) w;
  stop_untimely = λ m s free w.
      not_as_stopped (slice_get m.senders s) (has_stopped m s) (λ v. ⊥) free (λ v e. e) w;
  recv_untimely = λ m r w. never_a_recv (slice_get m.receivers r) w;
  gone_untimely = λ m r w. never_a_recv (slice_get m.receivers r) w;
}

pub for_good : {S : Type 0} (X : Election (Elector S)) (P : Protocol S Bool Verdict)
    → StopsAreForGood X P
for_good X P = record {
  stops = λ old new T s a r few h. stops X old new T s a r few h;
  stays = λ old new events run T s stop. stays X P events old new run T s stop;
  put_refused = λ m s v bytes there stop.
      as_stopped (slice_get m.senders s) (has_stopped m s) v (PutRefused (length bytes)) there stop;
  mark_refused = λ m s v asked there stop.
      as_stopped (slice_get m.senders s) (has_stopped m s) v CloseRefused there stop;
  turn_refused = λ m s v word there stop.
      as_stopped (slice_get m.senders s) (has_stopped m s) v (λ why u. ⊥) there stop;
  stop_refused = λ m s v there stop.
      as_stopped (slice_get m.senders s) (has_stopped m s) v (λ why u. ⊥) there stop;
  may_stop = λ m s v there free. (
    λ why w. never_refused (slice_get m.senders s) (has_stopped m s) v why there free w,
    (
      record m { stopped = slice_set m.stopped s true },
      record {
        sender = v;
        goes = ap (λ t. cond t None (slice_get m.senders s)) free ∙ there;
        answered = refl;
        after = refl;
      },
    ),
  );
  goes_on = λ old new events s run others. goes_on X P events old new s run others;
}

-- A leave of a receiver is for good.
use Rattle.std.proofs.Common.{◌≡◌, ◌≢◌, ℕ, Bool, true, false, Option, Some, None, inl, inr, List}
use Rattle.std.proofs.Common.{All, [], ◌∷◌, slice_get, slice_index, slice_set, length, ◌+◌, ◌<◌}
use Rattle.std.proofs.Common.{nat_lt, arith, refl, sym, ◌∙◌, ap}
use Rattle.std.proofs.lemmas.Bool.{true≢false, cases_eq, cases_Bool, ltb-true}
use Rattle.std.proofs.lemmas.List.{append-nil, get_or-set_same, get_or-set_other}
use Rattle.std.proofs.lemmas.List.{length-replicate}
use Rattle.std.proofs.lemmas.List.Elements.{All-head, All-tail}
use Rattle.std.proofs.lemmas.Option.{same_Some, slice_get_within}
use Rattle.std.proofs.lemmas.Grind.{common_steps}
use Rattle.bus_register.specs.Private.TableLaws.{get_set_same, get_set_other}
use Rattle.bus_register.specs.Protocol.{Protocol}
use Rattle.bus_register.specs.declared.limits.TheConstants.{PASSED_ALL}
use Rattle.bus_core.specs.Senders.{Sender, Situation, Does, Announces, Validates, Unpins}
use Rattle.bus_core.specs.Senders.{Withdraws, Scans, Clears, ReadsPassed, situation}
use Rattle.bus_core.specs.Table.{Line, line_now}
use Rattle.bus_deliverylog.specs.Receiving.{Receiving, with_leave, leaving_by, leaving_op}
use Rattle.bus_deliverylog.specs.Receiving.{joining_op}
use Rattle.bus_adoptcommit.specs.declared.verdicts.Verdict.{Verdict}
use Rattle.bus_tenure.specs.Core.{Election, Layout}
use Rattle.bus_tenure.specs.Elections.{Elector}
use Rattle.bus_tenure.specs.declared.turns.Turn.{Turn as Answered}
use Rattle.bus_machine.proofs.Bases.AtNone.{event_reuse, forks_reuse, flat_at_none, passed_first}
use Rattle.bus_machine.proofs.Bases.AtNone.{passes_by}
use Rattle.bus_machine.proofs.Bases.CyclicTurns.{words_many}
use Rattle.bus_machine.proofs.Memory.EachSender.{cond_beside}
use Rattle.bus_world.specs.Playing.{RecvRefused}
use Rattle.bus_world.specs.Turning.{words_after}
use Rattle.bus_world.specs.World.{Event, Put, Ask, Turn, Recv, Stop, Gone, RecvDoes}
use Rattle.bus_world.specs.declared.events.Answer.{Answer}
use Rattle.bus_world.specs.declared.events.Answer.TheVariants as answer
use Rattle.bus_world.specs.declared.events.StepFault.{StepFault}
use Rattle.bus_world.specs.declared.events.StepFault.TheVariants as fault
use Rattle.bus_machine.specs.Machine.{Machine, Trails, Happens, IsOnWord, LeavesForGood}
use Rattle.bus_machine.specs.Machine.{trails_grown, turn_grown, turn_trails, going, found}
use Rattle.bus_machine.specs.Machine.{log_place, passed_by, Reached, New, Then, Joins, fork_in}
use Rattle.bus_machine.specs.Playing.{AllAnswered, trails_after}
use Rattle.bus_machine.specs.Leaves.{is_gone, has_left, JustLeft, StaysGone}
use Rattle.bus_machine.specs.Leaves.{LeavesAreForGood, LeaveRefuses}

-- ---- one event
module _ {E : Type 0} (X : Election E) (m m' : Machine E) where
  -- who goes on has not left
  late : (q : ℕ) (v : Receiving) → has_left m q ≡ true → slice_get m.receivers q ≡ Some v
      → v.gone ≡ false → ⊥
  late q v left there stays = true≢false (sym left ∙ ap is_gone there ∙ stays)

  -- a receiver that has left holds what it held
  event_leaves : (e : Event) (a : Answer) (r : ℕ) → has_left m r ≡ true → Happens X m e a m'
      → slice_get m'.receivers r ≡ slice_get m.receivers r
  event_leaves (Put s bytes) a r left h = ap (λ (y : Machine E). slice_get y.receivers r) h.after
  event_leaves (Ask s asked) a r left h = ap (λ (y : Machine E). slice_get y.receivers r) h.after
  event_leaves (Turn s word) a r left h = ap (λ (y : Machine E). slice_get y.receivers r) h.after
  event_leaves (Stop s) a r left h = ap (λ (y : Machine E). slice_get y.receivers r) h.after
  event_leaves (Recv q) a r left h =
      grind (arith, common_steps, cases_eq, late, slice_get, get_set_other)
  event_leaves (Gone q) a r left h =
      grind (arith, common_steps, cases_eq, late, slice_get, get_set_other)

  -- a turn of a receiver is no leave
  turn_keeps : (words : ℕ → ℕ) (v w : Receiving) (t : _) → RecvDoes words v t w → w.gone ≡ v.gone
  turn_keeps words v w t d = grind (arith, common_steps, cases_Bool)

  -- nobody leaves by an event that is no leave of its own
  event_tells : (e : Event) (a : Answer) (r : ℕ) → e ≢ Gone r → Happens X m e a m'
      → has_left m' r ≡ has_left m r
  event_tells (Put s bytes) a r other h = ap (λ (y : Machine E). has_left y r) h.after
  event_tells (Ask s asked) a r other h = ap (λ (y : Machine E). has_left y r) h.after
  event_tells (Turn s word) a r other h = ap (λ (y : Machine E). has_left y r) h.after
  event_tells (Stop s) a r other h = ap (λ (y : Machine E). has_left y r) h.after
  event_tells (Recv q) a r other h = elim (cases_eq r q) [
    | inl e ↦ grind (arith, common_steps, slice_get_within, get_set_same, turn_keeps, slice_index)
    | inr ne ↦ grind (arith, common_steps, get_set_other)
  ]
  event_tells (Gone q) a r other h = grind (arith, common_steps, cases_eq, get_set_other)

-- ---- what is answered
module _ {E : Type 0} (X : Election E) (m : Machine E) (T : Trails) (r : ℕ) where
  turn_heard : (z : Situation E) (l : Line E) (s got word : ℕ) (t : Answered)
      → (turn_trails z l s got word t T).heard r ≡ T.heard r
  turn_heard (Does z) l s got word t = refl
  turn_heard (Announces u) l s got word t = refl
  turn_heard (Validates u) l s got word t = refl
  turn_heard (Unpins u) l s got word t = refl
  turn_heard (Withdraws u) l s got word t = refl
  turn_heard (Scans u) l s got word t = refl
  turn_heard (Clears u) l s got word t = refl
  turn_heard (ReadsPassed u p) l s got word t = refl

  pub sender_heard : (s word : ℕ) (o : Option (Sender E)) (a : Answer)
      → (turn_grown X m s o word a T).heard r ≡ T.heard r
  sender_heard s word None a = refl
  sender_heard s word (Some v) (answer.Number n) = refl
  sender_heard s word (Some v) answer.Closing = refl
  sender_heard s word (Some v) answer.Leaving = refl
  sender_heard s word (Some v) (answer.Turn t) =
      turn_heard (situation X v) (line_now X v) s (found m (line_now X v) word) word t
  sender_heard s word (Some v) (answer.Recv t) = refl
  sender_heard s word (Some v) answer.Stopped = refl
  sender_heard s word (Some v) answer.Gone = refl

  -- a receiver that has left is answered nothing
  event_heard : (m' : Machine E) (e : Event) (a : Answer) → has_left m r ≡ true
      → Happens X m e a m' → (trails_grown X m e a T).heard r ≡ T.heard r
  event_heard m' (Put s bytes) a left h = refl
  event_heard m' (Ask s asked) a left h = refl
  event_heard m' (Turn s word) a left h = sender_heard s word (going m s) a
  event_heard m' (Stop s) a left h = refl
  event_heard m' (Gone q) a left h = refl
  event_heard m' (Recv q) a left h =
      grind (arith, common_steps, cases_eq, late, cond_beside, append-nil)

-- ---- a leave
module _ {E : Type 0} (old new : Machine E) (r : ℕ) (a : Answer) (h : LeavesForGood old r a new)
  where
    shown : (place : ℕ) (o : Option ℕ) → IsOnWord old (leaving_by o) → o ≡ Some place
        → slice_index (words_after old.words (leaving_by o)) place ≡ PASSED_ALL
    shown place None w e = absurd (let bad : None ≡ Some place = e in cc)
    shown place (Some q) w e = grind (arith, common_steps, slice_index, same_Some, get_or-set_same)

    beside : (place : ℕ) (o : Option ℕ) → o ≢ Some place
        → slice_index (words_after old.words (leaving_by o)) place ≡ slice_index old.words place
    beside place None ne = refl
    beside place (Some q) ne =
        get_or-set_other old.words q place PASSED_ALL 0 (λ e. ne (ap Some (sym e)))

    words_are : new.words ≡ words_after old.words (leaving_op h.receiver)
    words_are = ap (λ (y : Machine E). y.words) h.after

    just_left : JustLeft old r a new
    just_left = record {
      answered = h.answered;
      receiver = h.receiver;
      there = h.there;
      stayed = h.stays;
      left = grind (arith, common_steps, slice_get, get_set_same, slice_get_within);
      others = λ q ne. grind (arith, common_steps, slice_get, get_set_other);
      shows = λ place is. grind (arith, common_steps, slice_index, words_are, shown);
      words = λ place ne.
          ap (λ ws. slice_index ws place) words_are ∙ beside place h.receiver.passed_at ne;
      nothing_else = h.after ∙ ap (λ (y : Machine E).
          record old { words = y.words; receivers = y.receivers }) (sym h.after);
    }

-- ---- the fault of who has left, and of who has not
as_gone : (o : Option Receiving) → is_gone o ≡ true → (why : StepFault)
    → (RecvRefused o why → why ≡ fault.Gone) × (why ≡ fault.Gone → RecvRefused o why)
as_gone None left why = absurd (true≢false (sym left))
as_gone (Some v) left why = (λ w. w.1, λ e. (left, e))

not_as_gone : (o : Option Receiving) → is_gone o ≡ false → RecvRefused o fault.Gone → ⊥
not_as_gone None stays w = let bad : fault.Gone ≡ fault.NoSuchReceiver = w in cc
not_as_gone (Some v) stays w = true≢false (sym w.0 ∙ stays)

pub leave_refuses : {E : Type 0} (X : Election E) → LeaveRefuses X
leave_refuses {E} X = record {
  idle_leave = λ m r a h.
      let j = just_left m m r a h in
      let gone : (with_leave j.receiver).gone ≡ j.receiver.gone =
      ap is_gone (sym j.left ∙ j.there) in
      true≢false (gone ∙ j.stayed);
  unshown_leave = λ old new r place v a there is other h.
      grind (arith, common_steps, just_left, same_Some);
  late_turn = λ old new r a left h. late X old new r h.receiver left h.there h.stays;
  second_leave = λ old new r a left h. late X old new r h.receiver left h.there h.stays;
  recv_untimely = λ m r stays w. not_as_gone (slice_get m.receivers r) stays w;
  leave_untimely = λ m r stays w. not_as_gone (slice_get m.receivers r) stays w;
}

-- ---- who has not left may leave
module _ {E : Type 0} (X : Election E) where
  -- each machine has the words of its layout
  event_words : (m m' : Machine E) (e : Event) (a : Answer) → Happens X m e a m'
      → length m'.words ≡ length m.words
  event_words m m' (Put s bytes) a h = ap (λ (y : Machine E). length y.words) h.after
  event_words m m' (Ask s asked) a h = ap (λ (y : Machine E). length y.words) h.after
  event_words m m' (Turn s word) a h = grind (arith, common_steps, length, words_many)
  event_words m m' (Recv q) a h = grind (arith, common_steps, length, words_many)
  event_words m m' (Stop s) a h = ap (λ (y : Machine E). length y.words) h.after
  event_words m m' (Gone q) a h = grind (arith, common_steps, length, words_many)

  abbrev size_of : Machine E → ℕ
  size_of m = log_place m.layout m.reuse + m.layout.capacity

  many_words : (m : Machine E) (T : Trails) → Reached X m T → length m.words ≡ size_of m
  many_words m T (New w new) = ap length new.words ∙ length-replicate (size_of w) 0
  many_words m T (Then w v U e a before h) =
      let i = event_reuse X w v e a h in
      event_words w v e a h ∙ many_words w U before
      ∙ ap (λ (x : Layout). log_place x w.reuse + x.capacity) (sym i.0)
      ∙ ap (λ o. log_place v.layout o + v.layout.capacity) (sym i.1)
  many_words m T (Joins w v U i j n before h nobody silent) =
      let same = forks_reuse X w v i j h in
      ap (λ (y : Machine E). length y.words) h.after
      ∙ words_many w.words (joining_op (fork_in w j h.maker))
      ∙ many_words w U before ∙ ap (λ (x : Layout). log_place x w.reuse + x.capacity) (sym same.0)
      ∙ ap (λ o. log_place v.layout o + v.layout.capacity) (sym same.1)

  -- a passed place is one of them
  passed_low : (x : Layout) (o : Option ℕ) (r place : ℕ) → (o ≡ None → x.passers ≡ 0)
      → passed_by x o r ≡ Some place → place < log_place x o + x.capacity
  passed_low x None r place flat is =
      absurd (let bad : None ≡ Some place = sym (passed_first x None r (flat refl)) ∙ is in cc)
  passed_low x (Some rows) r place flat is =
      grind (arith, common_steps, nat_lt, ltb-true, same_Some)

  on_leave : (m : Machine E) (o : Option ℕ) → ((place : ℕ) → o ≡ Some place
      → place < length m.words) → IsOnWord m (leaving_by o)
  on_leave m None low = tt
  on_leave m (Some place) low = low place refl

  no_cause : (o : Option Receiving) (v : Receiving) (why : StepFault) → o ≡ Some v
      → v.gone ≡ false → RecvRefused o why → ⊥
  no_cause None v why there stays w = absurd (let bad = there in cc)
  no_cause (Some u) v why there stays w = cc

  may_leave : (m : Machine E) (T : Trails) (r : ℕ) (v : Receiving) → Reached X m T
      → slice_get m.receivers r ≡ Some v → v.gone ≡ false
      → ((why : StepFault) → RecvRefused (slice_get m.receivers r) why → ⊥)
      × ((new : Machine E) × LeavesForGood m r answer.Gone new)
  may_leave m T r v led there stays = (
    λ why w. no_cause (slice_get m.receivers r) v why there stays w,
    (
      record m {
        words = words_after m.words (leaving_op v);
        receivers = slice_set m.receivers r (with_leave v);
      },
      record {
        receiver = v;
        there = there;
        stays = stays;
        within =
            grind (arith, common_steps, on_leave, passed_low, flat_at_none, passes_by, many_words);
        answered = refl;
        after = refl;
      },
    ),
  )

-- ---- whatever events follow
module _ {S : Type 0} (X : Election (Elector S)) (P : Protocol S Bool Verdict) where
  stays : (events : List Event) (old new : Machine (Elector S))
      (run : AllAnswered X P old events new) (T : Trails) (r : ℕ) → has_left old r ≡ true
      → StaysGone old T r new (trails_after X P old events new run T)
  stays [] old new run T r left = grind (arith, common_steps, slice_get)
  stays (e ∷ events) old new run T r left =
      let one = event_leaves X old run.0 e run.1 r left run.2.happens in
      let heard = event_heard X old T r run.0 e run.1 left run.2.happens in
      let rest = stays events run.0 new run.3 (trails_grown X old e run.1 T) r
      (ap is_gone one ∙ left) in
      record { left = rest.left; state = rest.state ∙ one; heard = rest.heard ∙ heard }

  goes_on : (events : List Event) (old new : Machine (Elector S)) (r : ℕ)
      → AllAnswered X P old events new → All (λ e. e ≢ Gone r) events
      → has_left new r ≡ has_left old r
  goes_on [] old new r run others = ap (λ (y : Machine (Elector S)). has_left y r) run
  goes_on (e ∷ events) old new r run others =
      goes_on events run.0 new r run.3 (All-tail (λ f. f ≢ Gone r) e events others)
      ∙ event_tells X old run.0 e run.1 r (All-head (λ f. f ≢ Gone r) e events others) run.2.happens

  pub leaves_for_good : LeavesAreForGood X P
  leaves_for_good = record {
    leaves = λ old new r a h. just_left old new r a h;
    stays = λ old new events run T r left. stays events old new run T r left;
    recv_refused = λ m r left. as_gone (slice_get m.receivers r) left;
    leave_refused = λ m r left. as_gone (slice_get m.receivers r) left;
    may_leave = λ m T r v led there stays. may_leave X m T r v led there stays;
    goes_on = λ old new events r run others. goes_on events old new r run others;
  }

-- What a stop does, and that it is for good.
use Rattle.std.specs.Prelude.{◌≡◌, ◌≢◌, ◌⊎◌, ℕ, ◌≤◌, Bool, true, false, Some, None, List, All}
use Rattle.std.specs.Prelude.{slice_get, slice_set}
use Rattle.bus_batch.specs.declared.messages.Mark.{Mark}
use Rattle.bus_core.specs.Senders.{Sender}
use Rattle.bus_register.specs.declared.limits.TheConstants.{MOST_SENDERS}
use Rattle.bus_register.specs.Protocol.{Protocol}
use Rattle.bus_adoptcommit.specs.declared.verdicts.Verdict.{Verdict}
use Rattle.bus_tenure.specs.Core.{Election}
use Rattle.bus_tenure.specs.Elections.{Elector}
use Rattle.bus_world.specs.World.{Event, Put, Ask, Turn, Recv, Stop, Gone}
use Rattle.bus_world.specs.declared.events.Answer.{Answer}
use Rattle.bus_world.specs.declared.events.Answer.TheVariants as answer
use Rattle.bus_world.specs.declared.events.StepFault.{StepFault}
use Rattle.bus_world.specs.declared.events.StepFault.TheVariants as fault
use Rattle.bus_machine.specs.Machine.{Machine, Happens, Reached, Trails, trails_grown, has_stopped}
use Rattle.bus_machine.specs.Playing.{Refused, AllAnswered, trails_after}

-- an event of another sender than s, or of a receiver
abbrev pub IsOfOther : ℕ → Event → Type 0
IsOfOther s (Put q bytes) = q ≢ s
IsOfOther s (Ask q mark) = q ≢ s
IsOfOther s (Turn q word) = q ≢ s
IsOfOther s (Recv r) = Unit {0}
IsOfOther s (Stop q) = q ≢ s
IsOfOther s (Gone r) = Unit {0}

-- the same machine, where this is told of a sender: that it has stopped, or that it has not
abbrev pub with_stop_of : {E : Type 0} → ℕ → Bool → Machine E → Machine E
with_stop_of s stopped m = record m { stopped = slice_set m.stopped s stopped }

-- The stop of a sender that went on was answered: it has stopped now, and nothing else has changed,
-- and it adds nothing to what happened. A presence that the sender shows stays as it is with it.
-- Each event of the others does what it did before, and is answered and refused alike.
pub record JustStopped {E : Type 0} (X : Election E) (old : Machine E) (s : ℕ) (a : Answer)
    (new : Machine E) : Type 0 where
  pub answered : a ≡ answer.Stopped
  pub went_on : has_stopped old s ≡ false
  pub stopped : has_stopped new s ≡ true
  pub others : (q : ℕ) → q ≢ s → has_stopped new q ≡ has_stopped old q
  pub nothing_else : new ≡ record old { stopped = new.stopped }
  pub trails : (T : Trails) → trails_grown X old (Stop s) a T ≡ T
  pub trails_alike : (e : Event) (g : Answer) (T : Trails) → IsOfOther s e
      → trails_grown X new e g T ≡ trails_grown X old e g T
  pub happens_alike : (e : Event) (g : Answer) (next : Machine E) → IsOfOther s e
      → Happens X old e g next → Happens X new e g (with_stop_of s true next)
  pub happens_before : (e : Event) (g : Answer) (next : Machine E) → IsOfOther s e
      → Happens X new e g next → Happens X old e g (with_stop_of s false next)
  pub refused_alike : (e : Event) (why : StepFault) → IsOfOther s e
      → (Refused old e why → Refused new e why) × (Refused new e why → Refused old e why)

-- a sender is still stopped, it holds what it held, and it has taken no step and done nothing more
pub record StaysStopped {E : Type 0} (old : Machine E) (T : Trails) (s : ℕ) (new : Machine E)
    (T' : Trails) : Type 0 where
  pub stopped : has_stopped new s ≡ true
  pub state : slice_get new.senders s ≡ slice_get old.senders s
  pub actions : T'.actions s ≡ T.actions s
  pub pins : T'.pins s ≡ T.pins s
  pub reclaims : T'.reclaims s ≡ T.reclaims s

-- an event is refused as Stopped, and for nothing else
abbrev pub IsRefusedAsStopped : {E : Type 0} → Machine E → Event → Type 0
IsRefusedAsStopped m e =
    (why : StepFault)
    → (Refused m e why → why ≡ fault.Stopped) × (why ≡ fault.Stopped → Refused m e why)

-- there is no such sender, or it goes on
abbrev pub HasNotStopped : {E : Type 0} → Machine E → ℕ → Type 0
HasNotStopped m s = (slice_get m.senders s ≡ None) ⊎ (has_stopped m s ≡ false)

-- each stop is one, and whoever has stopped stays so, whatever events happen next
pub record StopsAreForGood {S : Type 0} (X : Election (Elector S)) (P : Protocol S Bool Verdict) :
    Type 0 where
  pub stops : (old new : Machine (Elector S)) (T : Trails) (s : ℕ) (a : Answer) → Reached X old T
      → old.layout.senders ≤ MOST_SENDERS → Happens X old (Stop s) a new → JustStopped X old s a new
  pub stays : (old new : Machine (Elector S)) (events : List Event)
      (run : AllAnswered X P old events new) (T : Trails) (s : ℕ) → has_stopped old s ≡ true
      → StaysStopped old T s new (trails_after X P old events new run T)
  -- whatever else is wrong with an event of one that has stopped
  pub put_refused : (m : Machine (Elector S)) (s : ℕ) (v : Sender (Elector S)) (bytes : List ℕ)
      → slice_get m.senders s ≡ Some v → has_stopped m s ≡ true → IsRefusedAsStopped m (Put s bytes)
  pub mark_refused : (m : Machine (Elector S)) (s : ℕ) (v : Sender (Elector S)) (mark : Mark)
      → slice_get m.senders s ≡ Some v
      → has_stopped m s ≡ true → IsRefusedAsStopped m (Ask s mark)
  pub turn_refused : (m : Machine (Elector S)) (s : ℕ) (v : Sender (Elector S)) (word : ℕ)
      → slice_get m.senders s ≡ Some v → has_stopped m s ≡ true → IsRefusedAsStopped m (Turn s word)
  pub stop_refused : (m : Machine (Elector S)) (s : ℕ) (v : Sender (Elector S))
      → slice_get m.senders s ≡ Some v → has_stopped m s ≡ true → IsRefusedAsStopped m (Stop s)
  -- a sender that goes on may stop: its stop is not refused, and there is what it does and is
  -- answered
  pub may_stop : (m : Machine (Elector S)) (s : ℕ) (v : Sender (Elector S))
      → slice_get m.senders s ≡ Some v → has_stopped m s ≡ false
      → ((why : StepFault) → ¬ Refused m (Stop s) why)
      × ((new : Machine (Elector S)) × Happens X m (Stop s) answer.Stopped new)
  -- nobody stops but by a stop of its own
  pub goes_on : (old new : Machine (Elector S)) (events : List Event) (s : ℕ)
      → AllAnswered X P old events new → All (λ e. e ≢ Stop s) events
      → has_stopped new s ≡ has_stopped old s

-- what is no such thing
pub record StopRefuses {E : Type 0} (X : Election E) : Type 0 where
  -- a stop that does nothing
  pub idle_stop : (m : Machine E) (T : Trails) (s : ℕ) (a : Answer) → Reached X m T
      → m.layout.senders ≤ MOST_SENDERS → ¬ Happens X m (Stop s) a m
  -- a turn, a put, a close, a leave or a second stop of a sender that has stopped
  pub late_turn : (old new : Machine E) (s word : ℕ) (a : Answer) → has_stopped old s ≡ true
      → ¬ Happens X old (Turn s word) a new
  pub late_put : (old new : Machine E) (s : ℕ) (bytes : List ℕ) (a : Answer)
      → has_stopped old s ≡ true → ¬ Happens X old (Put s bytes) a new
  pub late_mark : (old new : Machine E) (s : ℕ) (mark : Mark) (a : Answer)
      → has_stopped old s ≡ true → ¬ Happens X old (Ask s mark) a new
  pub second_stop : (old new : Machine E) (s : ℕ) (a : Answer) → has_stopped old s ≡ true
      → ¬ Happens X old (Stop s) a new
  -- the fault Stopped of a sender that goes on, or that there is not
  pub put_untimely : (m : Machine E) (s : ℕ) (bytes : List ℕ) → HasNotStopped m s
      → ¬ Refused m (Put s bytes) fault.Stopped
  pub mark_untimely : (m : Machine E) (s : ℕ) (mark : Mark) → HasNotStopped m s
      → ¬ Refused m (Ask s mark) fault.Stopped
  pub turn_untimely : (m : Machine E) (s word : ℕ) → HasNotStopped m s
      → ¬ Refused m (Turn s word) fault.Stopped
  pub stop_untimely : (m : Machine E) (s : ℕ) → HasNotStopped m s
      → ¬ Refused m (Stop s) fault.Stopped
  -- also of a receiver, whatever its number
  pub recv_untimely : (m : Machine E) (r : ℕ) → ¬ Refused m (Recv r) fault.Stopped
  pub gone_untimely : (m : Machine E) (r : ℕ) → ¬ Refused m (Gone r) fault.Stopped

-- The bus with a row for each tenure as a machine that plays events, with its words in a list.
use Rattle.std.specs.Prelude.{◌≡◌, ℕ, ◌<◌, Bool, true, false, ◌&&◌, Option, Some, None, List, []}
use Rattle.std.specs.Prelude.{◌∷◌, ◌++◌, length, replicate, nat_lt, nat_le, slice_get, slice_index}
use Rattle.std.specs.Prelude.{slice_set, All, if◌then◌else◌}
use Rattle.bus_register.specs.declared.limits.TheConstants.{MOST_BYTES}
use Rattle.bus_batch.specs.declared.batches.Phase.{Phase}
use Rattle.bus_batch.specs.declared.batches.Phase.TheVariants.{Open, Marking, Closed}
use Rattle.bus_batch.specs.declared.messages.Mark.{Mark}
use Rattle.bus_batch.specs.Batches.{Pending}
use Rattle.bus_deliverylog.specs.declared.receiving.RecvTurn.{RecvTurn}
use Rattle.bus_deliverylog.specs.Receiving.{Receiving, with_leave}
use Rattle.bus_tenure.specs.Core.{Core, Election, Layout, log_at, words_of, is_empty}
use Rattle.bus_tenure.specs.Situations.{situation_of, Situation, line_of, op_at, fed_at}
use Rattle.bus_tenure.specs.declared.phases.Phase.TheVariants as phase
use Rattle.bus_tenure.specs.declared.pages.Page.{Page}
use Rattle.bus_world.specs.Starting.{IsNewReceiver}
use Rattle.bus_world.specs.World.{Event, Put, Ask, Turn, Recv, Stop, Gone, is_set, RecvDoes}
use Rattle.bus_world.specs.World.{AreBases, first_page, no_stops}
use Rattle.bus_world.specs.Turning.{words_after, number_found, home_moved, core_moved, after_step}

-- what senders share, and the senders
pub record Side (E : Type 0) : Type 0 where
  pub words : List ℕ
  pub home : Option Page
  pub senders : List (Core E)
  -- who took the page, by tenure
  pub owners : List ℕ

-- the senders' side, the receivers, and of each sender whether it has stopped
pub record Bus (E : Type 0) : Type 0 where
  pub side : Side E
  pub receivers : List Receiving
  pub stopped : List Bool

-- the sender s has stopped
abbrev pub has_stopped : {E : Type 0} → Bus E → ℕ → Bool
has_stopped b s = is_set (slice_get b.stopped s)

-- the sender s, if there is one and it has not stopped
abbrev pub going : {E : Type 0} → Bus E → ℕ → Option (Core E)
going b s = if has_stopped b s then None else slice_get b.side.senders s

-- ---- after a turn in a situation
abbrev pub home_after : {E : Type 0} → Election E → Core E → Situation E → Option Page → Option Page
home_after X c z home = home_moved (line_of X c z).move home

-- the sender, with the page laid before it where it has taken it
abbrev pub core_after : {E : Type 0} → Election E → Core E → Situation E → Option Page → ℕ → ℕ
    → Core E
core_after X c z home got word =
    core_moved (after_step (line_of X c z).move) home (fed_at X c z got word)

abbrev pub owners_after : {E : Type 0} → Election E → Core E → Situation E → ℕ → List ℕ → List ℕ
owners_after X c z p owners = if (line_of X c z).takes then owners ++ p ∷ [] else owners

-- after a turn of sender p, which held c and was in this situation
abbrev pub side_after : {E : Type 0} → Election E → Side E → ℕ → Core E → Situation E → ℕ → Side E
side_after X side p c situation word =
    record {
      words = words_after side.words (op_at X c situation word);
      home = home_after X c situation side.home;
      senders = slice_set side.senders p (core_after X c situation side.home
          (number_found (slice_index side.words) (op_at X c situation word)) word);
      owners = owners_after X c situation p side.owners;
    }

-- ---- one event
-- bytes are bytes
abbrev pub IsEvent : Event → Type 0
IsEvent (Put s bytes) = All (λ byte. byte < 256) bytes
IsEvent (Ask s mark) = Unit {0}
IsEvent (Turn s word) = Unit {0}
IsEvent (Recv r) = Unit {0}
IsEvent (Stop s) = Unit {0}
IsEvent (Gone r) = Unit {0}

abbrev pub is_open : Phase → Bool
is_open Open = true
is_open (Marking mark) = false
is_open Closed = false

-- a message of so many bytes is accepted
abbrev pub can_put : Pending → ℕ → Bool
can_put q len =
    is_open q.phase
    && ((if q.busy then false else true)
    && (nat_le len MOST_BYTES && nat_lt (length q.messages) q.limit))

-- a close or a leave is accepted
abbrev pub can_close : Pending → Bool
can_close q = is_open q.phase && ((if q.busy then false else true) && is_empty q.messages)

abbrev pub put_in : {E : Type 0} → Core E → List ℕ → Core E
put_in c bytes =
    if can_put c.queue (length bytes)
    then record c { queue = record c.queue { messages = c.queue.messages ++ bytes ∷ [] } } else c

abbrev pub mark_in : {E : Type 0} → Core E → Mark → Core E
mark_in c mark =
    if can_close c.queue then record c { queue = record c.queue { phase = Marking mark } } else c

abbrev pub with_sender : {E : Type 0} → Side E → ℕ → Core E → Side E
with_sender side s c = record side { senders = slice_set side.senders s c }

-- of a sender that goes on: where there is none, or it has stopped, nothing happens
abbrev pub SenderDoes : {E : Type 0} → Side E → Option (Core E) → (Core E → Side E) → Side E
    → Type 0
SenderDoes old None f new = new ≡ old
SenderDoes old (Some c) f new = new ≡ f c

abbrev pub ReceiverDoes : List ℕ → List Receiving → ℕ → Option Receiving → List Receiving → Type 0
ReceiverDoes words old r None new = new ≡ old
ReceiverDoes words old r (Some v) new =
    (next : Receiving) × (answer : RecvTurn) × RecvDoes (slice_index words) v answer next
    × (new ≡ slice_set old r next)

-- whoever leaves for good is the same else: it has no passed place
abbrev pub LeaverDoes : List Receiving → ℕ → Option Receiving → List Receiving → Type 0
LeaverDoes old r None new = new ≡ old
LeaverDoes old r (Some v) new = new ≡ slice_set old r (with_leave v)

-- whoever stops is one more that has stopped
abbrev pub StopDoes : {E : Type 0} → List Bool → ℕ → Option (Core E) → List Bool → Type 0
StopDoes old s None new = new ≡ old
StopDoes old s (Some c) new = new ≡ slice_set old s true

-- A stop takes no step, and changes nothing but who has stopped; and no other event changes that. A
-- receiver leaves with no step either.
abbrev pub Happens : {E : Type 0} → Election E → Bus E → Event → Bus E → Type 0
Happens X old (Put s bytes) new =
    SenderDoes old.side (going old s) (λ c. with_sender old.side s (put_in c bytes)) new.side
    × (new.receivers ≡ old.receivers) × (new.stopped ≡ old.stopped)
Happens X old (Ask s mark) new =
    SenderDoes old.side (going old s) (λ c. with_sender old.side s (mark_in c mark)) new.side
    × (new.receivers ≡ old.receivers) × (new.stopped ≡ old.stopped)
Happens X old (Turn s word) new =
    SenderDoes old.side (going old s) (λ c. side_after X old.side s c (situation_of X c) word)
    new.side × (new.receivers ≡ old.receivers) × (new.stopped ≡ old.stopped)
Happens X old (Recv r) new =
    (new.side ≡ old.side)
    × ReceiverDoes old.side.words old.receivers r (slice_get old.receivers r) new.receivers
    × (new.stopped ≡ old.stopped)
Happens X old (Stop s) new =
    (new.side ≡ old.side) × (new.receivers ≡ old.receivers)
    × StopDoes old.stopped s (going old s) new.stopped
Happens X old (Gone r) new =
    (new.side ≡ old.side)
    × LeaverDoes old.receivers r (slice_get old.receivers r) new.receivers
    × (new.stopped ≡ old.stopped)

-- ---- a new bus
abbrev pub new_core : {E : Type 0} → Layout → ℕ → ℕ → Core E
new_core x first p = record {
  layout = x;
  me = p;
  queue = record {
    sender = record { 0 = p };
    limit = x.batch;
    first = first;
    messages = [];
    phase = Open;
    busy = false;
  };
  least = 0;
  phase = phase.Resting;
}

-- words of zero, the page at home, senders and receivers at their starts, none of which has stopped
pub record IsNew {E : Type 0} (bases : List ℕ) (x : Layout) (bus : Bus E) : Type 0 where
  pub bases_are : AreBases bases
  pub words : bus.side.words ≡ replicate (words_of x) 0
  pub home : bus.side.home ≡ Some (first_page bases)
  pub senders : (p : ℕ) (c : Core E) → slice_get bus.side.senders p ≡ Some c
      → (p < x.senders) × (c ≡ new_core x (slice_index bases p) p)
  pub owners : bus.side.owners ≡ []
  pub stopped : bus.stopped ≡ no_stops
  pub receivers : (r : ℕ) (v : Receiving) → slice_get bus.receivers r ≡ Some v
      → IsNewReceiver x.senders (log_at x) x.capacity None v

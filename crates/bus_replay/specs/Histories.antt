-- What a bus has published and given, as a program holds it.
use Rattle.std.specs.Prelude.{◌≡◌, ℕ, ◌+◌, ◌-◌, ◌<◌, ◌≤◌, Bool, true, false, Some, List, [], ◌++◌}
use Rattle.std.specs.Prelude.{length, slice_get, slice_index, slice_index_or, slice_set}
use Rattle.bus_register.specs.Protocol.{Protocol}
use Rattle.bus_adoptcommit.specs.declared.verdicts.Verdict.{Verdict}
use Rattle.bus_batch.specs.Frames.{items_in}
use Rattle.bus_deliverylog.specs.declared.receiving.RecvTurn.{RecvTurn}
use Rattle.bus_deliverylog.specs.declared.receiving.RecvTurn.TheVariants as recv
use Rattle.bus_world.specs.Headline.{order_given}
use Rattle.bus_world.specs.Log.{words_in_ring}
use Rattle.bus_world.specs.World.{Event, Put, Ask, Turn, Recv, Stop, Gone, IsLayout}
use Rattle.bus_world.specs.declared.events.Answer.{Answer}
use Rattle.bus_world.specs.declared.events.Answer.TheVariants as answer
use Rattle.bus_machine.specs.Machine.{Trails, Machine, Reached, log_place}
use Rattle.bus_machine.specs.Promise.{HasRows}
use Rattle.bus_tenure.specs.Core.{Election}
use Rattle.bus_tenure.specs.Elections.{Elector, layout_with}
use Rattle.bus_replay.specs.declared.histories.Given.{Given}

-- All words that were published, and of each seat whether it has or had a receiver and what the
-- last one was given.
pub record Kept : Type 0 where
  -- how many words the log of the bus has
  pub capacity : ℕ
  pub log : List ℕ
  pub given : List Given

-- what a receiver was given that has these answers, if its seat has or had one
abbrev pub given_of : (taken : Bool) → List RecvTurn → Given
given_of taken heard = record {
  taken = taken;
  items = length (items_in (order_given heard).entries);
  ended = (order_given heard).ended;
}

-- with one answer more
abbrev pub given_with : RecvTurn → Given → Given
given_with recv.Going g = g
given_with recv.Empty g = g
given_with (recv.Head tenure owner) g = g
given_with (recv.Item item) g = record g { items = g.items + 1 }
given_with (recv.Leave sender) g = g
given_with recv.End g = record g { ended = true }

-- a turn of a receiver is of one of so many
abbrev pub AsksOne : Event → ℕ → Type 0
AsksOne (Put s bytes) n = Unit {0}
AsksOne (Ask s mark) n = Unit {0}
AsksOne (Turn s word) n = Unit {0}
AsksOne (Recv r) n = r < n
AsksOne (Stop s) n = Unit {0}
AsksOne (Gone r) n = Unit {0}

abbrev pub no_given : Given
no_given = record { taken = false; items = 0; ended = false }

-- A receiver has forked to this number: what its maker was given counts as given to the new one.
abbrev pub kept_forked : (maker number : ℕ) → Kept → Kept
kept_forked i j h = record h {
  given = slice_set h.given j (record (slice_index_or h.given i no_given) { taken = true });
}

-- behind a fork that was done or not
abbrev pub kept_by_fork : (maker number : ℕ) → Bool → Kept → Kept
kept_by_fork i j true h = kept_forked i j h
kept_by_fork i j false h = h

-- behind an event with this answer, which has left these words: what was published since is copied
-- from its cells, and an answer to a receiver is counted
abbrev pub kept_after : List ℕ → Event → Answer → Kept → Kept
kept_after words (Put s bytes) a h = h
kept_after words (Ask s mark) a h = h
kept_after words (Turn s word) a h =
    record h {
      log =
          h.log
          ++ words_in_ring (slice_index words) (length words - h.capacity) h.capacity (length h.log)
          (slice_index words 0 - length h.log);
    }
kept_after words (Recv r) (answer.Number n) h = h
kept_after words (Recv r) answer.Closing h = h
kept_after words (Recv r) answer.Leaving h = h
kept_after words (Recv r) (answer.Turn t) h = h
kept_after words (Recv r) (answer.Recv t) h =
    record h { given = slice_set h.given r (given_with t (slice_index_or h.given r no_given)) }
kept_after words (Recv r) answer.Stopped h = h
kept_after words (Recv r) answer.Gone h = h
kept_after words (Stop s) a h = h
kept_after words (Gone r) a h = h

-- these are all words and answers of these trails, of so many seats, of which these have or had a
-- receiver
pub record HasAllOf (h : Kept) (receivers : ℕ) (T : Trails) (taken : ℕ → Bool) : Type 0 where
  pub log : h.log ≡ T.log
  pub many : length h.given ≡ receivers
  pub given : (r : ℕ) → r < receivers
      → slice_get h.given r ≡ Some (given_of (taken r) (T.heard r))

-- receivers with these numbers, so many from this one on, were answered nothing
abbrev pub AreNobodys : (first many : ℕ) → Trails → Type 0
AreNobodys first many T =
    (n : ℕ) → first ≤ n → n < first + many → T.heard n ≡ []

-- A machine such as a program makes: its sizes are served, and its senders and words are so many.
pub record HasSizes {S : Type 0} (P : Protocol S Bool Verdict) (m : Machine (Elector S)) : Type 0
  where
    pub senders : ℕ
    pub rounds : ℕ
    pub rows : ℕ
    pub capacity : ℕ
    pub passers : ℕ
    pub batch : ℕ
    pub layout : m.layout ≡ layout_with P senders rounds rows capacity passers batch
    pub served : IsLayout (layout_with P senders rounds rows capacity passers batch)
    pub some : 0 < m.layout.capacity
    pub reuse : HasRows m.reuse
    pub many : length m.senders ≡ m.layout.senders
    pub words : length m.words ≡ log_place m.layout m.reuse + m.layout.capacity

-- These trails lead to the machine, which has such sizes, and this history has all of them, with
-- the seats that have or had a receiver. It knows the size of the log.
pub record IsHistoryOf {S : Type 0} (X : Election (Elector S)) (P : Protocol S Bool Verdict)
    (m : Machine (Elector S)) (h : Kept) (T : Trails) (taken : ℕ → Bool) : Type 0 where
  pub reached : Reached X m T
  pub sizes : HasSizes P m
  pub capacity : h.capacity ≡ m.layout.capacity
  pub remembers : HasAllOf h (length m.receivers) T taken

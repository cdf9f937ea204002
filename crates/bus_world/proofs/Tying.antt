-- What ties the trails to the state of the bus.
use Rattle.std.specs.Prelude.{◌≡◌, ◌⊎◌, ℕ, ◌+◌, ◌*◌, ◌<◌, ◌≤◌, true, false, Option, Some, None}
use Rattle.std.specs.Prelude.{List, [], length, take, slice_get, slice_index}
use Rattle.bus_register.specs.Protocol.{Protocol, inputs, outputs}
use Rattle.bus_batch.specs.Frames.{Frame, log_words, log_pieces, owners_in}
use Rattle.bus_deliverylog.specs.declared.receiving.RecvTurn.{RecvTurn}
use Rattle.bus_deliverylog.specs.declared.receiving.RecvTurn.TheVariants as recv
use Rattle.bus_deliverylog.specs.Receiving.{Receiving}
use Rattle.bus_tenure.specs.Core.{Core, Layout}
use Rattle.bus_tenure.specs.declared.phases.Phase.{Phase}
use Rattle.bus_tenure.specs.declared.phases.Phase.TheVariants as phase
use Rattle.bus_world.specs.Headline.{Action, HasPut, puts, Announced, Elected, Took, order_given}
use Rattle.bus_world.specs.Headline.{heads}
use Rattle.bus_world.specs.Private.Trails.{Trails}
use Rattle.bus_world.specs.Private.Machines.{Bus}
use Rattle.bus_world.specs.Private.Invariants.{given_at}
use Rattle.bus_world.proofs.Waiting.{put_by}
use Rattle.bus_world.proofs.Asking.{Askings}

-- the first tenure in whose election a sender has no part
abbrev pub next_at : {E : Type 0} → Core E → Phase E → ℕ
next_at c phase.Resting = c.least
next_at c (phase.Electing t e) = t + 1
next_at c (phase.Taken t) = t + 1
next_at c (phase.Holding t page stored published) = t + 1
next_at c (phase.Giving t reason) = t + 1

abbrev pub next_tenure : {E : Type 0} → Core E → ℕ
next_tenure c = next_at c c.phase

-- one local state of each sender and tenure, also where it has left, with which the words keep what
-- the election keeps: and these are as the trails tell
pub record Tables {E : Type 0} (P : Protocol E (Unit {0}) ℕ) (x : Layout) (words : ℕ → ℕ)
    (senders : ℕ → Option (Core E)) (actions : ℕ → List Action) : Type 0 where
  pub elections : ℕ → ℕ → Option E
  pub kept : (t : ℕ) → t < x.rows
      → P.Keeps x.senders (2 + t * P.width x.senders) words (elections t)
  pub ahead : (p : ℕ) (c : Core E) (t : ℕ) → senders p ≡ Some c → next_tenure c ≤ t
      → elections t p ≡ None
  pub electing : (p : ℕ) (c : Core E) (t : ℕ) (e : E) → senders p ≡ Some c
      → c.phase ≡ phase.Electing t e → elections t p ≡ Some e
  pub announced : (t s : ℕ) → inputs P (elections t) s ≡ Some tt → Announced (actions s) t
  pub elected : (t s o : ℕ) → outputs P (elections t) s ≡ Some o → Elected (actions s) t o
  pub only_elected : (t s o : ℕ) → Elected (actions s) t o
      → (t < x.rows) × (outputs P (elections t) s ≡ Some o)

-- who took the pages, as the trails tell
pub record PageTies (owners : List ℕ) (actions : ℕ → List Action) : Type 0 where
  pub took : (t s : ℕ) → slice_get owners t ≡ Some s → (place : ℕ) × Took (actions s) t place
  pub elected : (t s : ℕ) → slice_get owners t ≡ Some s → Elected (actions s) t s
  pub only : (t s place : ℕ) → Took (actions s) t place → slice_get owners t ≡ Some s
  pub once : (t s place place' : ℕ) → Took (actions s) t place → Took (actions s) t place'
      → place ≡ place'

-- after the end there is the end alone
abbrev pub IsSilent : List RecvTurn → Type 0
IsSilent trail =
    (j k : ℕ) (answer : RecvTurn) → slice_get trail j ≡ Some recv.End → j < k
    → slice_get trail k ≡ Some answer → answer ≡ recv.End

-- a receiver has been told what stands below its place
pub record Hears (frames : List Frame) (v : Receiving) (trail : List RecvTurn) : Type 0 where
  pub given_is : order_given trail ≡ given_at frames v
  pub heads_are : heads trail ≡ owners_in (take v.place (log_pieces frames))
  pub ended : v.ended ≡ true → (order_given trail).ended ≡ true
  pub going : v.ended ≡ false → (order_given trail).ended ≡ false
  pub silent : IsSilent trail

-- answers of nobody: none, or those of a receiver whose number another has taken since
abbrev pub WasTold : List Frame → List RecvTurn → Type 0
WasTold frames trail =
    (trail ≡ [])
    ⊎ ((v : Receiving) × (v.place ≤ length (log_words frames)) × Hears frames v trail)

-- each accepted message was answered this number and how many were put before it
abbrev pub AreNumbered : ℕ → List Action → Type 0
AreNumbered first trail =
    (place number : ℕ) (bytes : List ℕ) → slice_get trail place ≡ Some (HasPut number bytes)
    → number ≡ first + length (puts (take place trail))

-- what trails keep with a bus
pub record Tied {E : Type 0} (bases : List ℕ) (P : Protocol E (Unit {0}) ℕ) (x : Layout) (b : Bus E)
    (frames : List Frame) (T : Trails) : Type 0 where
  pub tables : Tables P x (slice_index b.side.words) (slice_get b.side.senders) T.actions
  pub takers : PageTies b.side.owners T.actions
  pub puts : (s : ℕ) → puts (T.actions s) ≡ put_by b frames s
  pub counted : (s : ℕ) → AreNumbered (slice_index bases s) (T.actions s)
  pub heard : (r : ℕ) (v : Receiving) → slice_get b.receivers r ≡ Some v
      → Hears frames v (T.heard r)
  pub silent : (r : ℕ) → slice_get b.receivers r ≡ None → WasTold frames (T.heard r)
  pub askings : Askings (slice_get b.side.senders) frames T.actions

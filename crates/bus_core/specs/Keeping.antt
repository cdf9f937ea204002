-- What every sender keeps beside what it keeps in its tenures.
use Rattle.std.specs.Prelude.{◌≡◌, ℕ, Option, Some, None, [], false}
use Rattle.bus_register.specs.declared.registers.Op.{Op}
use Rattle.bus_presence.specs.Reclaimers.{Reclaiming, reclaim_op}
use Rattle.bus_tenure.specs.Core.{Core, Layout}
use Rattle.bus_core.specs.Reusing.Keeping.{ParticipantKeeps}
use Rattle.bus_tenure.specs.declared.turns.Turn.{Turn}
use Rattle.bus_tenure.specs.declared.turns.Turn.TheVariants as turn
use Rattle.bus_presence.specs.declared.pins.Pin.TheVariants.{Away, Pinned, Unpinning}
use Rattle.bus_batch.specs.Batches.{Pending}
use Rattle.bus_batch.specs.declared.batches.Phase.TheVariants.{Open}
use Rattle.bus_tenure.specs.Situations.{PageMove, Stays, Comes, Returns}
use Rattle.bus_tenure.specs.declared.pages.Page.{Page}
use Rattle.bus_tenure.specs.declared.phases.Phase.TheVariants as phase
use Rattle.bus_core.specs.Reusing.Passing.{passing_begun}
use Rattle.bus_core.specs.Reusing.Turns.{queue_seen}
use Rattle.bus_core.specs.Senders.{Sender, participant_of}
use Rattle.bus_core.specs.declared.reuses.Reuse.{Reuse}

abbrev pub ReuseKeeps : {E : Type 0} → ℕ → (ℕ → E → Type 0) → Core E → Option Reuse → Type 0
ReuseKeeps width Belongs c None = Unit {0}
ReuseKeeps width Belongs c (Some r) = ParticipantKeeps width Belongs (participant_of c r)

-- the step that is left of a reclamation
abbrev pub reclaimer_left : Option Reclaiming → Option Op
reclaimer_left None = None
reclaimer_left (Some s) = reclaim_op s

abbrev pub reclaimer_op_of : Option Reuse → Option Op
reclaimer_op_of None = None
reclaimer_op_of (Some r) = reclaimer_left r.reclaimer

abbrev pub sender : {E : Type 0} → Core E → Option Reuse → Sender E
sender c r = record { core = c; reuse = r }

abbrev pub reclaimer_in : Option Reuse → Option Reclaiming
reclaimer_in None = None
reclaimer_in (Some r) = r.reclaimer

-- what is left where the step of an election of this tenure is answered so by a sender with a row
-- for each tenure
abbrev pub reuse_by : Turn → ℕ → Reuse → Reuse
reuse_by (turn.Lost u o) t r = record r { pin = Unpinning t; lost = Some o }
reuse_by turn.Idle t r = record r { pin = Pinned t }
reuse_by turn.Waiting t r = record r { pin = Pinned t }
reuse_by turn.Going t r = record r { pin = Pinned t }
reuse_by (turn.Own u) t r = record r { pin = Pinned t }
reuse_by (turn.Delivered u a b) t r = record r { pin = Pinned t }
reuse_by (turn.Left u) t r = record r { pin = Pinned t }
reuse_by turn.Full t r = record r { pin = Pinned t }
reuse_by turn.Closed t r = record r { pin = Pinned t }
reuse_by turn.Spent t r = record r { pin = Pinned t }
reuse_by (turn.Behind u p) t r = record r { pin = Pinned t }

abbrev pub reuse_answered : Turn → ℕ → Option Reuse → Option Reuse
reuse_answered a t None = None
reuse_answered a t (Some r) = Some (reuse_by a t r)

abbrev pub turn_answered : Turn → Option Reuse → Turn
turn_answered a None = a
turn_answered a (Some r) = turn.Going

-- ---- puts, marks and the page
abbrev pub IsAway : Option Reuse → Type 0
IsAway None = Unit {0}
IsAway (Some r) = r.pin ≡ Away

-- its batch, which is on its way while it pins a tenure
abbrev pub queue_of : Pending → Option Reuse → Pending
queue_of q None = q
queue_of q (Some r) = queue_seen q r.pin

-- the page that goes out of its hands before the step
abbrev pub page_out : PageMove → Option Page
page_out Stays = None
page_out (Comes t) = None
page_out (Returns t reason page) = Some page

abbrev pub core_without : {E : Type 0} → PageMove → Core E → Core E
core_without Stays c = c
core_without (Comes t) c = c
core_without (Returns t reason page) c = record c { phase = phase.Giving t reason }

-- ---- a new sender, whose first message gets this number
abbrev pub new_reuse : Option ℕ → Option Reuse
new_reuse None = None
new_reuse (Some rows) = Some record {
  pin = Away;
  reclaimer = None;
  passed = passing_begun;
  lost = None;
  rows = rows;
}

abbrev pub new_sender : {E : Type 0} → Layout → ℕ → Option ℕ → ℕ → Sender E
new_sender x me rows first = record {
  core = record {
    layout = x;
    me = me;
    queue = record {
      sender = record { 0 = me };
      limit = x.batch;
      first = first;
      messages = [];
      phase = Open;
      busy = false;
    };
    least = 0;
    phase = phase.Resting;
  };
  reuse = new_reuse rows;
}

-- The table of a sender's turns: one line for each situation, for both kinds of rows.
use Rattle.std.specs.Prelude.{ℕ, ◌+◌, ◌-◌, ◌*◌, ◌/◌, Bool, true, false, Option, Some, None, ◌==◌}
use Rattle.std.specs.Prelude.{if◌then◌else◌, slice_index, unwrap_or}
use Rattle.bus_register.specs.declared.kinds.Kind.{Kind}
use Rattle.bus_register.specs.declared.kinds.Kind.TheVariants as kind
use Rattle.bus_register.specs.declared.registers.Op.{Op}
use Rattle.bus_register.specs.declared.registers.Op.TheVariants.{Load, Store}
use Rattle.bus_register.specs.declared.registers.SenderNo.{SenderNo}
use Rattle.bus_batch.specs.Batches.{frame_of}
use Rattle.bus_batch.specs.Frames.{Frame, frame_words}
use Rattle.bus_presence.specs.Reclamation.{presence_at, row_of, reclaimer_after}
use Rattle.bus_presence.specs.Reclaimers.{Reclaiming, reclaim_fed, behind_of}
use Rattle.bus_presence.specs.declared.pins.Pin.{Pin}
use Rattle.bus_presence.specs.declared.pins.Pin.TheVariants.{Away, Validating, Pinned, Unpinning}
use Rattle.bus_presence.specs.declared.pins.Pin.TheVariants.{Invalidated}
use Rattle.bus_tenure.specs.Core.{Core, Election, Layout, length_at, stage_at, row_at, frame_len}
use Rattle.bus_tenure.specs.Core.{cell_of, page_after}
use Rattle.bus_tenure.specs.Seen.{tenure_of}
use Rattle.bus_tenure.specs.Situations.{IsClosed, IsIdle, IsSpent, LooksAtStage, Elects, TakesPage}
use Rattle.bus_tenure.specs.Situations.{AwaitsPage, StoresWord, StoresLength, GivesBack, HasHanded}
use Rattle.bus_tenure.specs.Situations.{PageMove, Stays, Comes, Returns, core_begun}
use Rattle.bus_tenure.specs.Situations.{core_after_stage, answer_of_stage, core_elected}
use Rattle.bus_tenure.specs.Situations.{answer_of_election, core_at_rest, answer_of_return}
use Rattle.bus_tenure.specs.declared.phases.Phase.TheVariants.{Taken, Holding}
use Rattle.bus_tenure.specs.declared.turns.Turn.{Turn}
use Rattle.bus_tenure.specs.declared.turns.Turn.TheVariants as turn
use Rattle.bus_core.specs.Reusing.Participants.{sizes_with, core_seen, pin_seen, pin_elected}
use Rattle.bus_core.specs.Reusing.Participants.{lost_elected}
use Rattle.bus_core.specs.Reusing.Passing.{passing_begun, passing_fed, core_passed}
use Rattle.bus_core.specs.Reusing.Turns.{op_placed, answer_of_loss, answer_of_reclaim}
use Rattle.bus_core.specs.Senders.{Sender, Situation, Does, Announces, Validates, Unpins}
use Rattle.bus_core.specs.Senders.{Withdraws, Scans, Clears, ReadsPassed, passed_start, log_start}
use Rattle.bus_core.specs.Senders.{situation}
use Rattle.bus_core.specs.declared.limits.TheConstants.{PASSED_APART}
use Rattle.bus_core.specs.declared.reuses.Passing.{Passing}
use Rattle.bus_core.specs.declared.reuses.Reuse.{Reuse}

pub record Line (E : Type 0) : Type 0 where
  -- the tenure that is begun
  pub tenure : Option ℕ
  -- what the step is for: None where none is due
  pub kind : Option Kind
  -- the step, with this random word
  pub op : ℕ → Option Op
  -- the step asks for a random word
  pub wants_word : Bool
  -- what the sender holds after a step that found this number, with this random word
  pub fed : (got word : ℕ) → Sender E
  -- its answer to that step
  pub answer : (got word : ℕ) → Turn
  -- the owner with which that step ended its election
  pub chosen : (got word : ℕ) → Option ℕ
  -- its answer where it has begun no tenure and takes no step
  pub rest : Option Turn
  -- what becomes of the page
  pub move : PageMove
  -- the page is taken with the step: the sender is the owner of its tenure
  pub takes : Bool
  -- the frame that joins the log with the step
  pub publishes : Option Frame

-- ---- where the two kinds of rows differ
-- on which word of the bus lies the step of an election whose row would stand at row_at
abbrev pub in_row : Layout → Option Reuse → ℕ → Option Op → Option Op
in_row x None t o = o
in_row x (Some r) t o = op_placed (λ at. row_of (sizes_with x r.rows) t + (at - row_at x t)) o

-- after a first look at the stage
abbrev pub seen : {E : Type 0} → Election E → Core E → Option Reuse → ℕ → Sender E
seen X c None got = record { core = core_after_stage X c got; reuse = None }
seen X c (Some r) got = record {
  core = core_seen c got;
  reuse = Some record r { pin = pin_seen c got };
}

-- who lost a tenure remembers its owner, until its presence is cleared
abbrev pub reuse_elected : {E : Type 0} → Core E → Option Reuse → ℕ → Option ℕ → Option Reuse
reuse_elected c None t own = None
reuse_elected c (Some r) t own = Some record r {
  pin = pin_elected c t own;
  lost = lost_elected c r.lost own;
}

abbrev pub answer_elected : {E : Type 0} → Core E → Option Reuse → ℕ → Option ℕ → Turn
answer_elected c None t own = answer_of_election c t own
answer_elected c (Some r) t own = turn.Going

-- the reclamation begins with the page that is taken, of which no passed place is loaded
abbrev pub reuse_taken : Layout → Option Reuse → ℕ → Option Reuse
reuse_taken x None t = None
reuse_taken x (Some r) t = Some record r {
  pin = Unpinning t;
  reclaimer = reclaimer_after (sizes_with x r.rows) t;
  passed = passing_begun;
}

-- and is over with the page that is given back
abbrev pub reuse_given : Option Reuse → Option Reuse
reuse_given None = None
reuse_given (Some r) = Some record r { reclaimer = None }

-- ---- what only rows that are used again have
abbrev pub reuse_pinning : Option Reuse → Pin → Option Reuse
reuse_pinning None pin = None
reuse_pinning (Some r) pin = Some record r { pin = pin; lost = None }

abbrev pub reuse_reclaiming : Option Reuse → Reclaiming → Option Reuse
reuse_reclaiming None s = None
reuse_reclaiming (Some r) s = Some record r { reclaimer = Some s }

abbrev pub reuse_passed : Option Reuse → Passing → Option Reuse
reuse_passed None p = None
reuse_passed (Some r) p = Some record r { passed = p }

abbrev pub lost_of : Option Reuse → Option SenderNo
lost_of None = None
lost_of (Some r) = r.lost

abbrev pub presence_of : {E : Type 0} → Core E → ℕ
presence_of c = presence_at (sizes_with c.layout 0) c.me

-- ---- lines
-- nothing in it: no step is due, and the sender is this one, with this answer
abbrev pub blank : {E : Type 0} → Sender E → Turn → Line E
blank v answer = record {
  tenure = None;
  kind = None;
  op = λ word. None;
  wants_word = false;
  fed = λ got word. v;
  answer = λ got word. answer;
  chosen = λ got word. None;
  rest = None;
  move = Stays;
  takes = false;
  publishes = None;
}

abbrev pub rests : {E : Type 0} → Sender E → Turn → Line E
rests v answer = record (blank v answer) { rest = Some answer }

-- in this tenure this step is due, after which the sender is this one, with this answer, whatever
-- the step found
abbrev pub steps : {E : Type 0} → ℕ → Kind → Op → Sender E → Turn → Line E
steps t kind op after answer =
    record (blank after answer) { tenure = Some t; kind = Some kind; op = λ word. Some op }

-- ---- THE TABLE: one line for each situation
abbrev pub line : {E : Type 0} → Election E → Sender E → Situation E → Line E
line X v (Does IsClosed) = rests v turn.Closed
line X v (Does IsIdle) = rests v turn.Idle
line X v (Does IsSpent) = rests v turn.Spent
line X v (Does LooksAtStage) = record (blank v turn.Going) {
  kind = Some kind.LoadStage;
  op = λ word. Some (Load record { 0 = stage_at });
  fed = λ got word. seen X v.core v.reuse got;
  answer = λ got word. answer_of_stage v.core got;
}
line X v (Announces t) =
    steps t kind.Enter (Store record { 0 = presence_of v.core } (1 + t))
    (record v { reuse = reuse_pinning v.reuse (Validating t) }) turn.Going
line X v (Validates t) =
    record (steps t kind.LoadStageAgain (Load record { 0 = stage_at }) v turn.Going) {
      fed = λ got word. record {
        core = if got / 2 == t then core_begun X v.core t else v.core;
        reuse = reuse_pinning v.reuse (if got / 2 == t then Pinned t else Invalidated t);
      };
    }
line X v (Withdraws t) =
    steps t kind.Withdraw (Store record { 0 = presence_of v.core } 0)
    (record v { reuse = reuse_pinning v.reuse Away }) turn.Waiting
line X v (Does (Elects t e)) = record (blank v turn.Going) {
  tenure = Some t;
  kind = X.kind_of e;
  op = λ word. in_row v.core.layout v.reuse t (X.op e word);
  wants_word = X.wants_word e;
  fed = λ got word. record {
    core = core_elected v.core t (X.fed e got word) (X.owner (X.fed e got word));
    reuse = reuse_elected v.core v.reuse t (X.owner (X.fed e got word));
  };
  answer = λ got word. answer_elected v.core v.reuse t (X.owner (X.fed e got word));
  chosen = λ got word. X.owner (X.fed e got word);
}
line X v (Unpins t) =
    steps t kind.Withdraw (Store record { 0 = presence_of v.core } 0)
    (record v { reuse = reuse_pinning v.reuse Away })
    (answer_of_loss t (lost_of v.reuse))
line X v (Does (TakesPage t)) =
    record (steps t kind.TakePage (Store record { 0 = stage_at } (2 * t + 1))
    (record {
      core = record v.core { phase = Taken t };
      reuse = reuse_taken v.core.layout v.reuse t;
    }) (turn.Own t)) {
      move = Comes t;
      takes = true;
    }
line X v (Does (AwaitsPage t)) = record (blank v turn.Going) { tenure = Some t; move = Comes t }
line X v (Does (StoresWord t page stored)) =
    steps t kind.StoreLogWord
    (Store record {
      0 = log_start v.core.layout v.reuse + cell_of v.core.layout (page.words + stored);
    } (slice_index (frame_words (frame_of v.core.queue t)) stored))
    (record v { core = record v.core { phase = Holding t page (stored + 1) false } }) turn.Going
line X v (Does (StoresLength t page stored)) =
    record (steps t kind.StoreLength
    (Store record { 0 = length_at } (page.words + frame_len v.core))
    (record v { core = record v.core { phase = Holding t page stored true } }) turn.Going) {
      publishes = Some (frame_of v.core.queue t);
    }
line X v (Scans s) = record (blank v turn.Going) {
  tenure = tenure_of v.core.phase;
  kind = Some kind.ReadPresence;
  op = λ word. Some (Load record { 0 = s.presences + s.scanned });
  fed = λ got word. record v { reuse = reuse_reclaiming v.reuse (reclaim_fed s got) };
  answer = λ got word. answer_of_reclaim (behind_of s got);
}
line X v (Clears s) = record (blank v turn.Going) {
  tenure = tenure_of v.core.phase;
  kind = Some kind.ClearRow;
  op = λ word. Some (Store record { 0 = s.row + s.cleared } 0);
  fed = λ got word. record v { reuse = reuse_reclaiming v.reuse (reclaim_fed s got) };
  answer = λ got word. answer_of_reclaim (behind_of s got);
}
line X v (ReadsPassed t p) = record (blank v turn.Going) {
  tenure = Some t;
  kind = Some kind.ReadPassed;
  op = λ word.
      Some (Load record { 0 = passed_start v.core.layout v.reuse + PASSED_APART * p.loaded });
  fed = λ got word. record {
    core = core_passed v.core (passing_fed p got);
    reuse = reuse_passed v.reuse (passing_fed p got);
  };
}
line X v (Does (GivesBack t page reason)) =
    record (steps t kind.GivePageBack (Store record { 0 = stage_at } (2 * t + 2))
    (record { core = core_at_rest v.core reason t; reuse = reuse_given v.reuse })
    (answer_of_return v.core.queue t reason)) {
      move = Returns t reason (page_after v.core t page reason);
    }
line X v (Does (HasHanded t reason)) =
    steps t kind.GivePageBack (Store record { 0 = stage_at } (2 * t + 2))
    (record { core = core_at_rest v.core reason t; reuse = reuse_given v.reuse })
    (answer_of_return v.core.queue t reason)

-- the line of the situation that it is in
abbrev pub line_now : {E : Type 0} → Election E → Sender E → Line E
line_now X v = line X v (situation X v)

-- the answer where no step is due, and Going where one is
abbrev pub rest_at : {E : Type 0} → Line E → Turn
rest_at l = unwrap_or l.rest turn.Going

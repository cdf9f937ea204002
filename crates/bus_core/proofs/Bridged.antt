-- Both tables are the one.
use Rattle.std.proofs.Common.{◌≡◌, ℕ, ◌+◌, ◌-◌, Bool, true, false, cond, Option, Some, None}
use Rattle.std.proofs.Common.{nat_lt, slice_index, refl, sym, ap, arith}
use Rattle.bus_register.specs.declared.registers.Op.TheVariants.{Load, Store}
use Rattle.bus_presence.specs.Reclaimers.{Reclaiming}
use Rattle.bus_presence.specs.declared.pins.Pin.{Pin}
use Rattle.bus_presence.specs.declared.pins.Pin.TheVariants.{Away, Announcing, Validating, Pinned}
use Rattle.bus_presence.specs.declared.pins.Pin.TheVariants.{Unpinning, Invalidated}
use Rattle.bus_tenure.specs.Core.{Core, Election, log_at, stage_at, cell_of}
use Rattle.bus_tenure.specs.declared.pages.Page.{Page}
use Rattle.bus_tenure.specs.declared.phases.Reason.{Reason}
use Rattle.bus_tenure.specs.declared.phases.Reason.TheVariants.{Sent, FoundEnd, NoRoom}
use Rattle.bus_register.specs.declared.kinds.Kind.TheVariants as kind
use Rattle.bus_batch.specs.Batches.{frame_of}
use Rattle.bus_batch.specs.Frames.{frame_words}
use Rattle.bus_presence.specs.Reclamation.{presence_at}
use Rattle.bus_presence.specs.Pins.{step_at}
use Rattle.bus_tenure.specs.Situations.{Situation as Own, IsClosed, IsIdle, IsSpent, LooksAtStage}
use Rattle.bus_tenure.specs.Situations.{Elects, TakesPage, AwaitsPage, StoresWord, StoresLength}
use Rattle.bus_tenure.specs.Situations.{GivesBack, HasHanded, line_of}
use Rattle.bus_tenure.specs.Situations.{situation_of as own_situation}
use Rattle.bus_core.specs.Senders.{Does, Scans, Clears, ReadsPassed, reclaiming, passing, at_home}
use Rattle.bus_core.specs.Senders.{pinning}
use Rattle.bus_core.specs.Reusing.Participants.{log_from}
use Rattle.bus_core.specs.Private.ParticipantTable.{due_reclaimed, due_home, due_beside}
use Rattle.bus_core.specs.Private.ParticipantTable.{reclaim_due}
use Rattle.bus_core.specs.Private.ParticipantTable.{due_passed, passed_due, lacking, Reads}
use Rattle.bus_core.specs.Reusing.Passing.{passing_left}
use Rattle.bus_core.specs.declared.reuses.Passing.{Passing}
use Rattle.bus_core.specs.Reusing.Turns.{Participant, sizes_of}
use Rattle.bus_core.specs.Table.{line}
use Rattle.bus_core.specs.Private.Bridge.{line_with_a_row_each, AtNone, AtSome, IsLineOf}
use Rattle.bus_core.specs.Private.Bridge.{with_a_row_each, with_rows_again}

-- with a row for each tenure each line is that of the table of a sender in its tenures
line_at_none : {E : Type 0} (X : Election E) (c : Core E) (z : Own E)
    → line X (with_a_row_each c) (Does z) ≡ line_with_a_row_each (line_of X c z)
line_at_none X c IsClosed = refl
line_at_none X c IsIdle = refl
line_at_none X c IsSpent = refl
line_at_none X c LooksAtStage = refl
line_at_none X c (Elects t e) = refl
line_at_none X c (TakesPage t) = refl
line_at_none X c (AwaitsPage t) = refl
line_at_none X c (StoresWord t page stored) = refl
line_at_none X c (StoresLength t page stored) = refl
line_at_none X c (GivesBack t page reason) = refl
line_at_none X c (HasHanded t reason) = refl

-- and so is the line of the situation that it is in
pub at_none : {E : Type 0} (X : Election E) → AtNone X
at_none X c = line_at_none X c (own_situation X c)

-- a word of the log, from where the log begins
moved : (from at cell : ℕ) → from + cell ≡ from + (at + cell - at)
moved from at cell = omega arith

module _ {E : Type 0} (X : Election E) where
  -- with another reclamation
  abbrev with_reclaimer : Participant E → Option Reclaiming → Participant E
  with_reclaimer v s = record v { reclaimer = s }

  -- a holder's reclamation goes on, or is done
  reclaimed :
      (v : Participant E) (s : Reclaiming) (t : ℕ) (page : Page) (reason : Reason) (a b : Bool)
      → nat_lt s.scanned s.senders ≡ a
      → IsLineOf X (with_reclaimer v (Some s)) (due_reclaimed s
      (cond a (Some (Load record { 0 = s.presences + s.scanned }))
      (cond b (Some (Store record { 0 = s.row + s.cleared } 0)) None)) (GivesBack t page reason))
      (line X (with_rows_again (with_reclaimer v (Some s)))
      (cond a (Scans s) (cond b (Clears s) (Does (GivesBack t page reason)))))
  reclaimed v s t page reason true b p = record {
    kind = ap (λ c. Some (cond c kind.ReadPresence kind.ClearRow)) (sym p);
    op = λ word. refl;
    wants = refl;
    fed = λ got word. refl;
    answer = λ got word. refl;
    rest = refl;
    move = refl;
    publishes = refl;
  }
  reclaimed v s t page reason false true p = record {
    kind = ap (λ c. Some (cond c kind.ReadPresence kind.ClearRow)) (sym p);
    op = λ word. refl;
    wants = refl;
    fed = λ got word. refl;
    answer = λ got word. refl;
    rest = refl;
    move = refl;
    publishes = refl;
  }
  reclaimed v s t page reason false false p = record {
    kind = refl;
    op = λ word. refl;
    wants = refl;
    fed = λ got word. refl;
    answer = λ got word. refl;
    rest = refl;
    move = refl;
    publishes = refl;
  }

  -- a page that is given back, after what is left of its reclamation
  gives_back : (v : Participant E) (s : Option Reclaiming) (t : ℕ) (page : Page) (reason : Reason)
      → IsLineOf X (with_reclaimer v s) (due_home s (GivesBack t page reason))
      (line X (with_rows_again (with_reclaimer v s)) (reclaiming s (GivesBack t page reason)))
  gives_back v None t page reason = record {
    kind = refl;
    op = λ word. refl;
    wants = refl;
    fed = λ got word. refl;
    answer = λ got word. refl;
    rest = refl;
    move = refl;
    publishes = refl;
  }
  gives_back v (Some s) t page reason =
      reclaimed v s t page reason (nat_lt s.scanned s.senders) (nat_lt s.cleared s.width) refl

  -- a passed place is loaded
  reads : (v : Participant E) (t : ℕ) (p : Passing)
      → IsLineOf X v (Reads t p) (line X (with_rows_again v) (ReadsPassed t p))
  reads v t p = record {
    kind = refl;
    op = λ word. refl;
    wants = refl;
    fed = λ got word. refl;
    answer = λ got word. refl;
    rest = refl;
    move = refl;
    publishes = refl;
  }

  -- a page that is given back, after what is left of the passed places where the frame does not fit
  gives_home : (v : Participant E) (l : Option Passing) (t : ℕ) (page : Page) (reason : Reason)
      → IsLineOf X v
      (due_passed (lacking reason t l) (due_home v.reclaimer (GivesBack t page reason)))
      (line X (with_rows_again v)
      (passing l t reason (reclaiming v.reclaimer (GivesBack t page reason))))
  gives_home v l t page Sent = gives_back v v.reclaimer t page Sent
  gives_home v l t page FoundEnd = gives_back v v.reclaimer t page FoundEnd
  gives_home v None t page NoRoom = gives_back v v.reclaimer t page NoRoom
  gives_home v (Some p) t page NoRoom = reads v t p

  -- who takes no step of a pin has the line of what goes on
  at_home_is : (v : Participant E) (l : Option Passing) (z : Own E)
      → IsLineOf X v (due_passed (passed_due z l) (due_home (reclaim_due z v.reclaimer) z))
      (line X (with_rows_again v) (at_home l v.reclaimer z))
  at_home_is v l IsClosed = record {
    kind = refl;
    op = λ word. refl;
    wants = refl;
    fed = λ got word. refl;
    answer = λ got word. refl;
    rest = refl;
    move = refl;
    publishes = refl;
  }
  at_home_is v l IsIdle = record {
    kind = refl;
    op = λ word. refl;
    wants = refl;
    fed = λ got word. refl;
    answer = λ got word. refl;
    rest = refl;
    move = refl;
    publishes = refl;
  }
  at_home_is v l IsSpent = record {
    kind = refl;
    op = λ word. refl;
    wants = refl;
    fed = λ got word. refl;
    answer = λ got word. refl;
    rest = refl;
    move = refl;
    publishes = refl;
  }
  at_home_is v l LooksAtStage = record {
    kind = refl;
    op = λ word. refl;
    wants = refl;
    fed = λ got word. refl;
    answer = λ got word. refl;
    rest = refl;
    move = refl;
    publishes = refl;
  }
  at_home_is v l (Elects t e) = record {
    kind = refl;
    op = λ word. refl;
    wants = refl;
    fed = λ got word. refl;
    answer = λ got word. refl;
    rest = refl;
    move = refl;
    publishes = refl;
  }
  at_home_is v l (TakesPage t) = record {
    kind = refl;
    op = λ word. refl;
    wants = refl;
    fed = λ got word. refl;
    answer = λ got word. refl;
    rest = refl;
    move = refl;
    publishes = refl;
  }
  at_home_is v l (AwaitsPage t) = record {
    kind = refl;
    op = λ word. refl;
    wants = refl;
    fed = λ got word. refl;
    answer = λ got word. refl;
    rest = refl;
    move = refl;
    publishes = refl;
  }
  at_home_is v l (StoresWord t page stored) = record {
    kind = refl;
    op = λ word. ap (λ at.
        Some (Store record { 0 = at } (slice_index (frame_words (frame_of v.core.queue t)) stored)))
        (moved (log_from v.core.layout v.rows) (log_at v.core.layout)
        (cell_of v.core.layout (page.words + stored)));
    wants = refl;
    fed = λ got word. refl;
    answer = λ got word. refl;
    rest = refl;
    move = refl;
    publishes = refl;
  }
  at_home_is v l (StoresLength t page stored) = record {
    kind = refl;
    op = λ word. refl;
    wants = refl;
    fed = λ got word. refl;
    answer = λ got word. refl;
    rest = refl;
    move = refl;
    publishes = refl;
  }
  at_home_is v l (GivesBack t page reason) = gives_home v l t page reason
  at_home_is v l (HasHanded t reason) = record {
    kind = refl;
    op = λ word. refl;
    wants = refl;
    fed = λ got word. refl;
    answer = λ got word. refl;
    rest = refl;
    move = refl;
    publishes = refl;
  }

  -- a step of a pin comes first in both tables
  pins : (v : Participant E) (u : Pin) (l : Option Passing) (z : Own E)
      → IsLineOf X (record v { pin = u })
      (due_beside (step_at u (presence_at (sizes_of v) v.core.me) stage_at) l v.reclaimer z)
      (line X (with_rows_again (record v { pin = u })) (pinning u l v.reclaimer z))
  pins v Away l z = at_home_is (record v { pin = Away }) l z
  pins v (Announcing t) l z = record {
    kind = refl;
    op = λ word. refl;
    wants = refl;
    fed = λ got word. refl;
    answer = λ got word. refl;
    rest = refl;
    move = refl;
    publishes = refl;
  }
  pins v (Validating t) l z = record {
    kind = refl;
    op = λ word. refl;
    wants = refl;
    fed = λ got word. refl;
    answer = λ got word. refl;
    rest = refl;
    move = refl;
    publishes = refl;
  }
  pins v (Pinned t) l z = at_home_is (record v { pin = Pinned t }) l z
  pins v (Unpinning t) l z = record {
    kind = refl;
    op = λ word. refl;
    wants = refl;
    fed = λ got word. refl;
    answer = λ got word. refl;
    rest = refl;
    move = refl;
    publishes = refl;
  }
  pins v (Invalidated t) l z = record {
    kind = refl;
    op = λ word. refl;
    wants = refl;
    fed = λ got word. refl;
    answer = λ got word. refl;
    rest = refl;
    move = refl;
    publishes = refl;
  }

  -- with rows that are used again the line is that of what is due
  pub at_some : AtSome X
  at_some v =
      pins v v.pin (passing_left v.core.layout.passers v.passed) (own_situation X v.core)

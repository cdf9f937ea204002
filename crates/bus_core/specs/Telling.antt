-- What the answer of a turn tells, by what the sender held before it: of one with a step, and of
-- one without.
use Rattle.std.specs.Prelude.{◌≡◌, ◌≢◌, ◌⊎◌, ℕ, ◌+◌, ◌-◌, ◌/◌, ◌%◌, ◌<◌, ◌≤◌, false, true, Option}
use Rattle.std.specs.Prelude.{Some, None, [], IfSome, IsSome, IsSomeAnd}
use Rattle.bus_register.specs.declared.registers.Op.TheVariants.{Load}
use Rattle.bus_register.specs.declared.registers.SenderNo.{SenderNo}
use Rattle.bus_batch.specs.Batches.{next_of, HasSomething}
use Rattle.bus_batch.specs.declared.batches.Phase.TheVariants as batch
use Rattle.bus_presence.specs.Reclamation.{presence_at}
use Rattle.bus_presence.specs.declared.pins.Pin.TheVariants.{Announcing, Validating, Unpinning}
use Rattle.bus_presence.specs.declared.pins.Pin.TheVariants.{Invalidated}
use Rattle.bus_tenure.specs.Causes.{LooksForTenure}
use Rattle.bus_tenure.specs.Core.{Core, Election, is_marking, is_closing, is_leaving}
use Rattle.bus_tenure.specs.Seen.{HasElection, AwaitsItsPage}
use Rattle.bus_tenure.specs.Situations.{Elects, situation_of}
use Rattle.bus_tenure.specs.declared.phases.Phase.TheVariants.{Resting, Electing}
use Rattle.bus_tenure.specs.declared.turns.Turn.{Turn}
use Rattle.bus_tenure.specs.declared.turns.Turn.TheVariants.{Idle, Waiting, Going, Lost, Own}
use Rattle.bus_tenure.specs.declared.turns.Turn.TheVariants.{Delivered, Left, Full, Closed, Spent}
use Rattle.bus_tenure.specs.declared.turns.Turn.TheVariants.{Behind}
use Rattle.bus_core.specs.Keeping.{IsAway}
use Rattle.bus_core.specs.Places.{StandsIn}
use Rattle.bus_core.specs.Reusing.Participants.{sizes_with}
use Rattle.bus_core.specs.Reusing.Keeping.{IsRowReady, held_of}
use Rattle.bus_core.specs.Reusing.Telling.{Returns, HasPublished, LacksRoom, FindsEnd}
use Rattle.bus_core.specs.declared.reuses.Reuse.{Reuse}
use Rattle.bus_core.specs.Senders.{Sender, Does, situation}
use Rattle.bus_core.specs.Table.{line_now}

-- ---- a sender that has begun no tenure
-- its phase rests, and where rows are used again it pins none
pub record HasBegunNone {E : Type 0} (v : Sender E) : Type 0 where
  pub rests : v.core.phase ≡ Resting
  pub away : IsAway v.reuse

-- besides it has something to send, and a tenure left to enter: so it looks at the stage for the
-- first time
pub record LooksFirst {E : Type 0} (v : Sender E) : Type 0 where
  pub away : IsAway v.reuse
  pub looks : LooksForTenure v.core

-- where rows are used again its presence names this tenure, and it looks at the stage for the
-- second time
abbrev pub LooksSecond : {E : Type 0} → Sender E → ℕ → Type 0
LooksSecond v t = IsSomeAnd v.reuse (λ r. r.pin ≡ Validating t)

-- it looked at the stage for the first time, and that was of a held tenure, or of one that it may
-- not enter any more
pub record LooksInVain {E : Type 0} (v : Sender E) (got : ℕ) : Type 0 where
  pub looks : LooksFirst v
  pub vain : (got % 2 ≡ 1) ⊎ (got / 2 < v.core.least)

-- it looked at the stage for the first time, and that was of an open tenure past the last one
pub record FindsNoneLeft {E : Type 0} (v : Sender E) (got : ℕ) : Type 0 where
  pub looks : LooksFirst v
  pub opened : got % 2 ≡ 0
  pub may : v.core.least ≤ got / 2
  pub past : v.core.layout.rows ≤ got / 2

-- ---- the answer where no step is due
-- nothing waits
pub record RestsIdle {E : Type 0} (v : Sender E) : Type 0 where
  pub none : HasBegunNone v
  pub is_open : v.core.queue.phase ≡ batch.Open
  pub nothing : v.core.queue.messages ≡ []

-- its batch is closed: it has closed or left, or has found the order ended
pub record RestsClosed {E : Type 0} (v : Sender E) : Type 0 where
  pub none : HasBegunNone v
  pub closed : v.core.queue.phase ≡ batch.Closed

-- it has something to send, and no tenure left to enter
pub record RestsSpent {E : Type 0} (v : Sender E) : Type 0 where
  pub none : HasBegunNone v
  pub not_closed : v.core.queue.phase ≢ batch.Closed
  pub something : HasSomething v.core.queue
  pub past : v.core.layout.rows ≤ v.core.least

-- it has nothing to do, for the reason that it answers
abbrev pub RestTells : {E : Type 0} → Sender E → Turn → Type 0
RestTells v Idle = RestsIdle v
RestTells v Waiting = ⊥
RestTells v Going = ⊥
RestTells v (Lost t o) = ⊥
RestTells v (Own t) = ⊥
RestTells v (Delivered t first last) = ⊥
RestTells v (Left t) = ⊥
RestTells v Full = ⊥
RestTells v Closed = RestsClosed v
RestTells v Spent = RestsSpent v
RestTells v (Behind t p) = ⊥

-- it goes on: a step is due, its election runs or has chosen it, or the page that it took is to be
-- laid
abbrev pub GoesOn : {E : Type 0} → Election E → Sender E → Type 0
GoesOn X v = IsSome (line_now X v).kind ⊎ (HasElection v.core.phase ⊎ AwaitsItsPage v.core.phase)

-- whatever it is asked, without a step: Going where it goes on, and else that it has nothing to do
abbrev pub RestIsTold : {E : Type 0} → Election E → Sender E → Turn → Type 0
RestIsTold X v a = ((a ≡ Going) × GoesOn X v) ⊎ RestTells v a

-- ---- the answer of a step
-- it looked again, and the stage was another tenure's
pub record IsInvalidated (r : Reuse) : Type 0 where
  pub tenure : ℕ
  pub is : r.pin ≡ Invalidated tenure

-- the step ended its election of this tenure, in favour of this owner, another sender
pub record LosesElection {E : Type 0} (X : Election E) (v : Sender E) (got word t : ℕ)
    (o : SenderNo) : Type 0 where
  pub election : E
  pub elects : situation X v ≡ Does (Elects t election)
  pub chosen : X.owner (X.fed election got word) ≡ Some o.0
  pub other : o.0 ≢ v.core.me

-- it withdraws from this tenure, which it lost to this owner, another sender
pub record PartsAsLoser (me : ℕ) (r : Reuse) (t : ℕ) (o : SenderNo) : Type 0 where
  pub parts : r.pin ≡ Unpinning t
  pub lost : r.lost ≡ Some o
  pub other : o.0 ≢ me

-- it lost this tenure to this owner: with the step that ended its election, or where rows are used
-- again with the one that clears its presence
abbrev pub LosesBy : {E : Type 0} → Election E → Sender E → ℕ → ℕ → ℕ → SenderNo → Option Reuse
    → Type 0
LosesBy X v got word t o None = LosesElection X v got word t o
LosesBy X v got word t o (Some r) = PartsAsLoser v.core.me r t o

abbrev pub Loses : {E : Type 0} → Election E → Sender E → ℕ → ℕ → ℕ → SenderNo → Type 0
Loses X v got word t o = LosesBy X v got word t o v.reuse

-- its election of this tenure had ended and chosen it; where rows are used again it stood in that
-- tenure
pub record IsChosen {E : Type 0} (X : Election E) (v : Sender E) (t : ℕ) : Type 0 where
  pub pinned : StandsIn v.reuse t
  pub election : E
  pub elects : v.core.phase ≡ Electing t election
  pub chosen : X.owner election ≡ Some v.core.me

-- it gives the page of this tenure back, or has handed it on, and where rows are used again the row
-- of the next tenure was ready
pub record GivesReady {E : Type 0} (X : Election E) (v : Sender E) (t : ℕ) : Type 0 where
  pub does : situation X v ≡ Does (situation_of X v.core)
  pub returns : Returns t (situation_of X v.core)
  pub ready : IfSome v.reuse (λ r. IsRowReady (sizes_with v.core.layout r.rows) t r.reclaimer)

-- it gives the page of this tenure back with its messages in the log, and these are the first and
-- the last number of its batch
pub record Delivers {E : Type 0} (X : Election E) (v : Sender E) (t first last : ℕ) : Type 0 where
  pub gives : GivesReady X v t
  pub published : HasPublished t v.core.phase
  pub sends : is_marking v.core.queue.phase ≡ false
  pub first_is : first ≡ v.core.queue.first
  pub last_is : last ≡ next_of v.core.queue - 1

-- it gives the page of this tenure back with its leave mark in the log
pub record LeavesFor {E : Type 0} (X : Election E) (v : Sender E) (t : ℕ) : Type 0 where
  pub gives : GivesReady X v t
  pub published : HasPublished t v.core.phase
  pub leaves : is_leaving v.core.queue.phase ≡ true

-- of whatever tenure that was: its frame does not fit
pub record IsFull {E : Type 0} (X : Election E) (v : Sender E) : Type 0 where
  pub tenure : ℕ
  pub gives : GivesReady X v tenure
  pub lacks : LacksRoom v.core tenure v.core.phase

-- its end mark stands in the log, or the order had ended before
pub record Ends {E : Type 0} (X : Election E) (v : Sender E) : Type 0 where
  pub tenure : ℕ
  pub gives : GivesReady X v tenure
  pub why : ((is_closing v.core.queue.phase ≡ true) × HasPublished tenure v.core.phase)
      ⊎ FindsEnd tenure v.core.phase

-- it holds a page, and loaded the presence of sender p, which named tenure t, whose row the tenure
-- after its own uses
pub record IsBehind {E : Type 0} (X : Election E) (v : Sender E) (got word t p : ℕ) (r : Reuse) :
    Type 0 where
  pub loads : (line_now X v).op word
      ≡ Some (Load record { 0 = presence_at (sizes_with v.core.layout r.rows) p })
  pub found : got ≡ 1 + t
  pub below : p < v.core.layout.senders
  pub tenure : ℕ
  pub held : held_of v.core.phase ≡ Some tenure
  pub past : t + r.rows ≡ tenure + 1

-- its election of this tenure runs
abbrev pub RunsElection : {E : Type 0} → Core E → ℕ → Type 0
RunsElection {E} c t = (e : E) × (c.phase ≡ Electing t e)

-- it has begun this tenure: its election runs, or where rows are used again it is to store its
-- presence
abbrev pub BeginsBy : {E : Type 0} → Core E → Option Reuse → ℕ → Type 0
BeginsBy c None t = RunsElection c t
BeginsBy c (Some r) t = r.pin ≡ Announcing t

abbrev pub Begins : {E : Type 0} → Sender E → ℕ → Type 0
Begins v t = BeginsBy v.core v.reuse t

-- No other answer is due. It lost no tenure, and withdraws from none that it came too late for; so
-- where it withdraws, it has taken that tenure's page. It takes no page, and gives none back; where
-- it looked at the stage for the first time, that lets it begin the stage's tenure, and it does so;
-- where it looked for the second time, the election of its presence's tenure runs if that was of
-- this tenure, open or held, and else none does; and nobody is behind.
pub record TellsNoMore {E : Type 0} (X : Election E) (v : Sender E) (got word : ℕ) : Type 0 where
  pub loses : (t : ℕ) (o : SenderNo) → ¬ Loses X v got word t o
  pub holds : (t : ℕ) → IsSomeAnd v.reuse (λ r. r.pin ≡ Unpinning t) → held_of v.core.phase ≡ Some t
  pub invalidated : ¬ IsSomeAnd v.reuse (λ r. IsInvalidated r)
  pub takes : (t : ℕ) → ¬ IsChosen X v t
  pub gives : (t : ℕ) → ¬ GivesReady X v t
  pub waits : ¬ LooksInVain v got
  pub spent : ¬ FindsNoneLeft v got
  pub begins : LooksFirst v → Begins ((line_now X v).fed got word) (got / 2)
  pub enters : (t : ℕ) → LooksSecond v t → got / 2 ≡ t
      → RunsElection ((line_now X v).fed got word).core t
  pub enters_only : (t u : ℕ) → LooksSecond v t → RunsElection ((line_now X v).fed got word).core u
      → (u ≡ t) × (got / 2 ≡ t)
  pub behind : (t p : ℕ) → ¬ IsSomeAnd v.reuse (λ r. IsBehind X v got word t p r)

-- With a step that found this number, and this random word. No step is taken where nothing is
-- pending.
abbrev pub FeedTells : {E : Type 0} → Election E → Sender E → ℕ → ℕ → Turn → Type 0
FeedTells X v got word Idle = ⊥
FeedTells X v got word Waiting = LooksInVain v got ⊎ IsSomeAnd v.reuse (λ r. IsInvalidated r)
FeedTells X v got word Going = TellsNoMore X v got word
FeedTells X v got word (Lost t o) = Loses X v got word t o
FeedTells X v got word (Own t) = IsChosen X v t
FeedTells X v got word (Delivered t first last) = Delivers X v t first last
FeedTells X v got word (Left t) = LeavesFor X v t
FeedTells X v got word Full = IsFull X v
FeedTells X v got word Closed = Ends X v
FeedTells X v got word Spent = FindsNoneLeft v got
FeedTells X v got word (Behind t p) = IsSomeAnd v.reuse (λ r. IsBehind X v got word t p.0 r)

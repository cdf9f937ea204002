-- The machine as a program holds it: which shapes are served, what each call tells, and what is
-- said of events one after another.
use Rattle.std.specs.Prelude.{◌≡◌, ℕ, zero, suc, ◌^◌, ◌<◌, ◌≤◌, Bool, true, false, Option, Some}
use Rattle.std.specs.Prelude.{None, List}
use Rattle.std.specs.Prelude.{[], ◌∷◌, ◌++◌, length, take, slice_get, slice_index}
use Rattle.bus_register.specs.declared.limits.TheConstants.{MOST_SENDERS, MOST_RECEIVERS}
use Rattle.bus_register.specs.declared.limits.TheConstants.{MOST_ROUNDS, MOST_ROWS, MOST_MESSAGES}
use Rattle.bus_register.specs.declared.limits.TheConstants.{LOG_MESSAGES}
use Rattle.bus_register.specs.declared.limits.TheConstants.{LEAST_LOG_WORDS, MOST_LOG_WORDS}
use Rattle.bus_register.specs.declared.limits.TheConstants.{TENURES}
use Rattle.bus_register.specs.Protocol.{Protocol}
use Rattle.bus_adoptcommit.specs.declared.verdicts.Verdict.{Verdict}
use Rattle.bus_batch.specs.Batches.{IsPutFault, IsCloseFault}
use Rattle.bus_batch.specs.declared.batches.CloseFault.{CloseFault}
use Rattle.bus_batch.specs.declared.batches.PutFault.{PutFault}
use Rattle.bus_core.specs.Keeping.{queue_of}
use Rattle.bus_core.specs.Senders.{Sender}
use Rattle.bus_deliverylog.specs.Receiving.{Receiving}
use Rattle.bus_core.specs.declared.limits.TheConstants.{LEAST_ROWS_AGAIN, MOST_ROWS_AGAIN}
use Rattle.bus_tenure.specs.Core.{Election, Layout, words_of}
use Rattle.bus_tenure.specs.Elections.{Elector, layout_with}
use Rattle.bus_tenure.specs.declared.pages.Page.{Page}
use Rattle.bus_world.specs.Log.{first_numbers}
use Rattle.bus_world.specs.Playing.{Within, Beyond, RecvRefused}
use Rattle.bus_world.specs.World.{Event, Put, Ask, Turn, Recv, Stop, Gone, no_bases}
use Rattle.bus_world.specs.declared.events.Answer.{Answer}
use Rattle.bus_world.specs.declared.events.StepFault.{StepFault}
use Rattle.bus_world.specs.declared.events.StepFault.TheVariants as fault
use Rattle.bus_world.specs.declared.shapes.MakeFault.{MakeFault}
use Rattle.bus_world.specs.declared.shapes.MakeFault.TheVariants as make
use Rattle.bus_world.specs.declared.shapes.Shape.{Shape}
use Rattle.bus_machine.specs.Machine.{Machine, Trails, Happens, IsNew, Reached, trails_grown}
use Rattle.bus_machine.specs.Machine.{has_stopped, no_machine_trails, ShowsPublished}
use Rattle.bus_machine.specs.Promise.{Extends, Follows, words_joined}
use Rattle.bus_machine.specs.Telling.{Causes, Says, Tells, OpensOnly}

-- ---- shapes
-- the sizes of a bus of this shape with so many passed places, over such ratifiers: its rows are
-- its tenures, or are used again by up to 2^40 of them
abbrev pub layout_passed : {S : Type 0} → Protocol S Bool Verdict → Shape → Option ℕ → ℕ → Layout
layout_passed P shape None passers =
    layout_with P shape.senders shape.rounds shape.rows shape.log_words passers shape.batch
layout_passed P shape (Some rows) passers =
    layout_with P shape.senders shape.rounds TENURES shape.log_words passers shape.batch

-- without any, where no word of the log is used again
abbrev pub layout_of : {S : Type 0} → Protocol S Bool Verdict → Shape → Option ℕ → Layout
layout_of P shape reuse = layout_passed P shape reuse 0

abbrev pub least_rows : Option ℕ → ℕ
least_rows None = 1
least_rows (Some rows) = LEAST_ROWS_AGAIN

abbrev pub most_rows : Option ℕ → ℕ
most_rows None = MOST_ROWS
most_rows (Some rows) = MOST_ROWS_AGAIN

-- the rows that are used again are those of the shape
abbrev pub ShapeOf : Shape → Option ℕ → Type 0
ShapeOf shape None = Unit {0}
ShapeOf shape (Some rows) = rows ≡ shape.rows

-- the words can be numbered
abbrev pub RoomFor : {S : Type 0} → Protocol S Bool Verdict → Shape → Option ℕ → Type 0
RoomFor P shape None = words_of (layout_of P shape None) ≤ 2 ^ 63
RoomFor P shape (Some rows) = Unit {0}

-- where the first passed place stands here, if there are any
abbrev pub first_passed : ℕ → ℕ → Option ℕ
first_passed at zero = None
first_passed at (suc passers) = Some at

-- the bus of these parts
abbrev pub machine_of : {E S : Type 0} → Protocol S Bool Verdict → Shape → Option ℕ → ℕ → List ℕ
    → List ℕ → Option Page → List (Sender E) → List Receiving → List Bool → List ℕ → Machine E
machine_of P shape reuse passers bases words home senders receivers stopped owners = record {
  layout = layout_passed P shape reuse passers;
  reuse = reuse;
  bases = bases;
  words = words;
  home = home;
  senders = senders;
  receivers = receivers;
  stopped = stopped;
  owners = owners;
}

-- a bus of this shape is served
pub record IsServed (shape : Shape) (reuse : Option ℕ) : Type 0 where
  pub senders : Within 1 MOST_SENDERS shape.senders
  pub receivers : Within 1 MOST_RECEIVERS shape.receivers
  pub rounds : Within 1 MOST_ROUNDS shape.rounds
  pub rows : Within (least_rows reuse) (most_rows reuse) shape.rows
  pub log_words : Within LEAST_LOG_WORDS MOST_LOG_WORDS shape.log_words

-- so many messages a batch may have, where there are so many passed places: of a log that is no
-- ring, and so has none, one number alone
abbrev pub IsBatch : ℕ → ℕ → Type 0
IsBatch zero batch = batch ≡ LOG_MESSAGES
IsBatch (suc passers) batch = Within 1 MOST_MESSAGES batch

-- why no bus of these sizes is made, whatever its batches: each cause where it holds and no earlier
-- one
abbrev pub SizesRefused : Shape → Option ℕ → MakeFault → Type 0
SizesRefused shape reuse make.Senders = Beyond 1 MOST_SENDERS shape.senders
SizesRefused shape reuse make.Receivers =
    Within 1 MOST_SENDERS shape.senders × Beyond 1 MOST_RECEIVERS shape.receivers
SizesRefused shape reuse make.Rounds =
    Within 1 MOST_SENDERS shape.senders × Within 1 MOST_RECEIVERS shape.receivers
    × Beyond 1 MOST_ROUNDS shape.rounds
SizesRefused shape reuse make.Rows =
    Within 1 MOST_SENDERS shape.senders × Within 1 MOST_RECEIVERS shape.receivers
    × Within 1 MOST_ROUNDS shape.rounds × Beyond (least_rows reuse) (most_rows reuse) shape.rows
SizesRefused shape reuse make.LogWords =
    Within 1 MOST_SENDERS shape.senders × Within 1 MOST_RECEIVERS shape.receivers
    × Within 1 MOST_ROUNDS shape.rounds × Within (least_rows reuse) (most_rows reuse) shape.rows
    × Beyond LEAST_LOG_WORDS MOST_LOG_WORDS shape.log_words
-- of its batches, of a sitting before it and of memory these say nothing
SizesRefused shape reuse make.Batch = ⊥
SizesRefused shape reuse make.NotEnded = ⊥
SizesRefused shape reuse make.Numbers = ⊥
SizesRefused shape reuse make.NoMemory = ⊥

-- a bus of this shape with so many passed places is served, its batches as well
abbrev pub IsServedWith : ℕ → Shape → Option ℕ → Type 0
IsServedWith passers shape reuse = IsServed shape reuse × IsBatch passers shape.batch

-- why none is made of which no sitting was before
abbrev pub NewRefused : ℕ → Shape → Option ℕ → MakeFault → Type 0
NewRefused passers shape reuse make.Senders = SizesRefused shape reuse make.Senders
NewRefused passers shape reuse make.Receivers = SizesRefused shape reuse make.Receivers
NewRefused passers shape reuse make.Rounds = SizesRefused shape reuse make.Rounds
NewRefused passers shape reuse make.Rows = SizesRefused shape reuse make.Rows
NewRefused passers shape reuse make.LogWords = SizesRefused shape reuse make.LogWords
NewRefused passers shape reuse make.Batch = IsServed shape reuse × (¬ IsBatch passers shape.batch)
NewRefused passers shape reuse make.NotEnded = ⊥
NewRefused passers shape reuse make.Numbers = ⊥
NewRefused passers shape reuse make.NoMemory = IsServedWith passers shape reuse

-- the same of a bus whose log is no ring
abbrev pub MakeRefused : Shape → Option ℕ → MakeFault → Type 0
MakeRefused shape reuse why = NewRefused 0 shape reuse why

-- ---- a next sitting
-- the page of a sitting that a bus with so many passed places, and such batches, can go on with: it
-- has ended, and each next number leaves room for a whole log, or where words of the log are used
-- again for all tenures
pub record IsFollowedBy (passers batch : ℕ) (page : Page) : Type 0 where
  pub ended : page.ended ≡ true
  pub low : (s : ℕ) → slice_index page.next s < first_numbers passers batch

abbrev pub IsFollowed : Page → Type 0
IsFollowed page = IsFollowedBy 0 LOG_MESSAGES page

-- why no bus is made that is to go on with it: of all 64 senders the next number is looked at,
-- whatever the shape
abbrev pub RefusedAfter : ℕ → Shape → Option ℕ → Page → MakeFault → Type 0
RefusedAfter passers shape reuse page make.Senders = SizesRefused shape reuse make.Senders
RefusedAfter passers shape reuse page make.Receivers = SizesRefused shape reuse make.Receivers
RefusedAfter passers shape reuse page make.Rounds = SizesRefused shape reuse make.Rounds
RefusedAfter passers shape reuse page make.Rows = SizesRefused shape reuse make.Rows
RefusedAfter passers shape reuse page make.LogWords = SizesRefused shape reuse make.LogWords
RefusedAfter passers shape reuse page make.Batch = NewRefused passers shape reuse make.Batch
RefusedAfter passers shape reuse page make.NotEnded =
    IsServedWith passers shape reuse × (page.ended ≡ false)
RefusedAfter passers shape reuse page make.Numbers =
    IsServedWith passers shape reuse × (page.ended ≡ true) × (s : ℕ) × (s < MOST_SENDERS)
    × (first_numbers passers shape.batch ≤ slice_index page.next s)
RefusedAfter passers shape reuse page make.NoMemory =
    IsServedWith passers shape reuse × IsFollowedBy passers shape.batch page

abbrev pub AfterRefused : Shape → Option ℕ → Page → MakeFault → Type 0
AfterRefused shape reuse page why = RefusedAfter 0 shape reuse page why

-- why a sitting with such batches does not begin with this page, if with any
abbrev pub MayNotGoOn : ℕ → ℕ → Option Page → MakeFault → Type 0
MayNotGoOn passers batch page make.Senders = ⊥
MayNotGoOn passers batch page make.Receivers = ⊥
MayNotGoOn passers batch page make.Rounds = ⊥
MayNotGoOn passers batch page make.Rows = ⊥
MayNotGoOn passers batch page make.LogWords = ⊥
MayNotGoOn passers batch page make.Batch = ¬ IsBatch passers batch
MayNotGoOn passers batch None make.NotEnded = ⊥
MayNotGoOn passers batch (Some page) make.NotEnded =
    IsBatch passers batch × (page.ended ≡ false)
MayNotGoOn passers batch None make.Numbers = ⊥
MayNotGoOn passers batch (Some page) make.Numbers =
    IsBatch passers batch × (page.ended ≡ true) × (s : ℕ) × (s < MOST_SENDERS)
    × (first_numbers passers batch ≤ slice_index page.next s)
MayNotGoOn passers batch page make.NoMemory = ⊥

-- with this page, if with any
abbrev pub RefusedWith : ℕ → Shape → Option ℕ → Option Page → MakeFault → Type 0
RefusedWith passers shape reuse None why = NewRefused passers shape reuse why
RefusedWith passers shape reuse (Some page) why = RefusedAfter passers shape reuse page why

abbrev pub MakeRefusedAfter : Shape → Option ℕ → Option Page → MakeFault → Type 0
MakeRefusedAfter shape reuse page why = RefusedWith 0 shape reuse page why

-- and the numbers that the sitting begins with: nothing else of the page is carried over
abbrev pub bases_after : Option Page → List ℕ
bases_after None = no_bases
bases_after (Some page) = page.next

abbrev pub MayGoOn : ℕ → ℕ → Option Page → Type 0
MayGoOn passers batch None = Unit {0}
MayGoOn passers batch (Some page) = IsFollowedBy passers batch page

abbrev pub MayFollow : Option Page → Type 0
MayFollow page = MayGoOn 0 LOG_MESSAGES page

-- a new bus of this shape with so many passed places, over such ratifiers, of a sitting that begins
-- with these numbers
pub record IsMadeWith {E S : Type 0} (X : Election E) (P : Protocol S Bool Verdict) (shape : Shape)
    (reuse : Option ℕ) (passers : ℕ) (bases : List ℕ) (m : Machine E) : Type 0 where
  pub served : IsServed shape reuse
  pub batch : IsBatch passers shape.batch
  pub layout : m.layout ≡ layout_passed P shape reuse passers
  pub rows : m.reuse ≡ reuse
  pub bases_are : m.bases ≡ bases
  pub new : IsNew m
  pub senders : length m.senders ≡ shape.senders
  pub receivers : length m.receivers ≡ shape.receivers
  pub begins : Reached X m no_machine_trails

abbrev pub IsMade : {E S : Type 0} → Election E → Protocol S Bool Verdict → Shape → Option ℕ
    → List ℕ → Machine E → Type 0
IsMade X P shape reuse bases m = IsMadeWith X P shape reuse 0 bases m

-- ---- why an event is refused
-- there is no such sender; or it has stopped; or it has a cause of its own
abbrev pub SenderRefused : {E : Type 0} → Option (Sender E) → Bool → StepFault → (Sender E → Type 0)
    → Type 0
SenderRefused None stopped why own = why ≡ fault.NoSuchSender
SenderRefused (Some v) true why own = why ≡ fault.Stopped
SenderRefused (Some v) false why own = own v

abbrev pub PutRefused : {E : Type 0} → ℕ → StepFault → Sender E → Type 0
PutRefused len why v =
    (cause : PutFault) × IsPutFault (queue_of v.core.queue v.reuse) len cause
    × (why ≡ fault.Put cause)

abbrev pub CloseRefused : {E : Type 0} → StepFault → Sender E → Type 0
CloseRefused why v =
    (cause : CloseFault) × IsCloseFault (queue_of v.core.queue v.reuse) cause
    × (why ≡ fault.Close cause)

-- each fault where its cause holds and no earlier one; both marks have the same, and turns and
-- stops none of their own. A receiver that has left is refused all.
abbrev pub Refused : {E : Type 0} → Machine E → Event → StepFault → Type 0
Refused m (Put s bytes) why =
    SenderRefused (slice_get m.senders s) (has_stopped m s) why (PutRefused (length bytes) why)
Refused m (Ask s mark) why =
    SenderRefused (slice_get m.senders s) (has_stopped m s) why (CloseRefused why)
Refused m (Turn s word) why = SenderRefused (slice_get m.senders s) (has_stopped m s) why (λ v. ⊥)
Refused m (Recv r) why = RecvRefused (slice_get m.receivers r) why
Refused m (Stop s) why = SenderRefused (slice_get m.senders s) (has_stopped m s) why (λ v. ⊥)
Refused m (Gone r) why = RecvRefused (slice_get m.receivers r) why

-- ---- what a call tells
-- The event happened, and this was its answer. The sender whose turn it was had a cause for its
-- step; what the answer tells is so, of that sender and what its step found, and by whatever trails
-- led to the old machine; the stage leaves that of an open tenure only by who takes its page; the
-- new machine follows the old one; and what the event publishes stands in its cells just behind
-- what was published before, also where nobody is left to hear it.
pub record Answers {S : Type 0} (X : Election (Elector S)) (P : Protocol S Bool Verdict)
    (old : Machine (Elector S)) (e : Event) (a : Answer) (new : Machine (Elector S)) : Type 0 where
  pub happens : Happens X old e a new
  pub causes : Causes X P old e
  pub says : Says X old e a
  pub tells : Tells X old e a
  pub opens : OpensOnly X old e a new
  pub follows : Follows X old e a new
  pub publishes : (T : Trails) → Reached X old T
      → ShowsPublished new T.log (T.log ++ words_joined X old e)

-- the event is refused, and nothing has changed
pub record Refuses {E : Type 0} (old : Machine E) (e : Event) (why : StepFault) (new : Machine E) :
    Type 0 where
  pub refused : Refused old e why
  pub nothing : new ≡ old

-- ---- events one after another
-- each is answered
abbrev pub AllAnswered : {S : Type 0} → Election (Elector S) → Protocol S Bool Verdict
    → Machine (Elector S) → List Event → Machine (Elector S) → Type 0
AllAnswered X P old [] new = new ≡ old
AllAnswered {S} X P old (e ∷ events) new =
    (mid : Machine (Elector S)) × (a : Answer) × Answers X P old e a mid
    × AllAnswered X P mid events new

-- the trails after these events with their answers
abbrev pub trails_after : {S : Type 0} (X : Election (Elector S)) (P : Protocol S Bool Verdict)
    (old : Machine (Elector S)) (events : List Event) (new : Machine (Elector S))
    → AllAnswered X P old events new → Trails → Trails
trails_after X P old [] new run T = T
trails_after X P old (e ∷ events) new run T =
    trails_after X P run.0 events new run.3 (trails_grown X old e run.1 T)

-- the words that join the log with these events, one after another
abbrev pub words_after : {S : Type 0} (X : Election (Elector S)) (P : Protocol S Bool Verdict)
    (old : Machine (Elector S))
    (events : List Event)
    (new : Machine (Elector S)) → AllAnswered X P old events new → List ℕ
words_after X P old [] new run = []
words_after X P old (e ∷ events) new run =
    words_joined X old e ++ words_after X P run.0 events new run.3

-- all were answered, and what is left follows what there was
pub record Played {S : Type 0} (X : Election (Elector S)) (P : Protocol S Bool Verdict)
    (old : Machine (Elector S)) (events : List Event) (new : Machine (Elector S)) : Type 0 where
  pub answered : AllAnswered X P old events new
  pub extends : Extends X old new (words_after X P old events new answered)
      (trails_after X P old events new answered)

-- the event at a place is the first that is refused: those before it have happened, and no other
pub record Stops {S : Type 0} (X : Election (Elector S)) (P : Protocol S Bool Verdict)
    (old : Machine (Elector S)) (events : List Event) (place : ℕ) (why : StepFault)
    (new : Machine (Elector S)) : Type 0 where
  pub played : Played X P old (take place events) new
  pub event : Event
  pub at : slice_get events place ≡ Some event
  pub refused : Refused new event why

-- ---- what every machine that a program holds keeps: some trails lead to it
abbrev pub AreRows : Layout → Option ℕ → Type 0
AreRows x None = x.rows ≤ MOST_ROWS
AreRows x (Some rows) = Within LEAST_ROWS_AGAIN MOST_ROWS_AGAIN rows × (x.rows ≡ TENURES)

pub record IsHeld {E : Type 0} (X : Election E) (m : Machine E) : Type 0 where
  pub senders_few : m.layout.senders ≤ MOST_SENDERS
  pub rows : AreRows m.layout m.reuse
  pub capacity_some : 0 < m.layout.capacity
  pub capacity_few : m.layout.capacity ≤ MOST_LOG_WORDS
  pub passers_few : m.layout.passers ≤ MOST_RECEIVERS
  pub batch : IsBatch m.layout.passers m.layout.batch
  pub senders : length m.senders ≡ m.layout.senders
  pub trails : Trails
  pub reached : Reached X m trails

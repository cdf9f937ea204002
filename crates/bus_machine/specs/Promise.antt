-- What is promised of the machine, and how an event leaves the promise: of both kinds of rows.
use Rattle.std.specs.Prelude.{◌≡◌, ◌≢◌, ℕ, ◌+◌, ◌*◌, ◌/◌, ◌%◌, ◌<◌, ◌≤◌, Bool, false, Option, Some}
use Rattle.std.specs.Prelude.{None, List, [], ◌++◌, filter, length, map, slice_get, slice_index}
use Rattle.std.specs.Prelude.{◌==◌, ◌⊎◌, if◌then◌else◌, All}
use Rattle.bus_register.specs.declared.limits.TheConstants.{MOST_SENDERS}
use Rattle.bus_register.specs.declared.registers.Op.{Op}
use Rattle.bus_register.specs.declared.registers.SenderNo.{SenderNo}
use Rattle.bus_register.specs.Words.{register}
use Rattle.bus_batch.specs.Batches.{frame_of}
use Rattle.bus_batch.specs.Frames.{Frame, Order, Spells, frame_words, has_gone, items_of}
use Rattle.bus_core.specs.Keeping.{reclaimer_in}
use Rattle.bus_core.specs.Senders.{Sender, Does, Clears, ReadsPassed, situation}
use Rattle.bus_core.specs.Table.{line_now}
use Rattle.bus_core.specs.declared.reuses.Passing.{Passing}
use Rattle.bus_core.specs.declared.reuses.Reuse.{Reuse}
use Rattle.bus_deliverylog.specs.Orders.{of_sender, IsPrefixOfOrder}
use Rattle.bus_deliverylog.specs.Receiving.{Receiving}
use Rattle.bus_core.specs.Reusing.Participants.{sizes_with}
use Rattle.bus_core.specs.Reusing.Keeping.{held_of}
use Rattle.bus_core.specs.declared.limits.TheConstants.{LEAST_ROWS_AGAIN}
use Rattle.bus_presence.specs.Reclamation.{Reclamation, Reached as ReclamationReached, row_of}
use Rattle.bus_presence.specs.Standing.{IsSafe, Stands}
use Rattle.bus_presence.specs.Reclaimers.{Reclaiming}
use Rattle.bus_presence.specs.declared.pins.Pin.{Pin}
use Rattle.bus_presence.specs.declared.pins.Pin.TheVariants.{Away}
use Rattle.bus_tenure.specs.Core.{Election, Layout}
use Rattle.bus_tenure.specs.Situations.{Elects, TakesPage, StoresWord}
use Rattle.bus_tenure.specs.declared.pages.Page.{Page}
use Rattle.bus_tenure.specs.declared.phases.Phase.TheVariants.{Electing, Holding}
use Rattle.bus_world.specs.Headline.{Action, HasPut, HasMarked, Stepped, Took, puts, order_given}
use Rattle.bus_world.specs.Headline.{IsPrefix, Promises}
use Rattle.bus_world.specs.Log.{KeepsFloor}
use Rattle.bus_world.specs.Floors.{IsBoundary}
use Rattle.bus_world.specs.Trails.{Takers}
use Rattle.bus_world.specs.Waiting.{waiting_at}
use Rattle.bus_world.specs.World.{Event, Put, Ask, Turn, Recv, Stop, Gone}
use Rattle.bus_world.specs.declared.events.Answer.{Answer}
use Rattle.bus_machine.specs.Finding.{LoadsPassed, WasShown, places_found}
use Rattle.bus_machine.specs.Machine.{Machine, Trails, base_of, Reached, trails_grown, owners_told}
use Rattle.bus_machine.specs.Machine.{floor_of, log_place, ShowsLog, ShowsPassed, StandsBelow}
use Rattle.bus_machine.specs.Machine.{stage_of, going, passed_by}
use Rattle.bus_machine.specs.Machine.{words_of_frame}
use Rattle.bus_machine.specs.Remembering.{Remembers}

-- a row for each tenure, or two rows or more
abbrev pub HasRows : Option ℕ → Type 0
HasRows None = Unit {0}
HasRows (Some rows) = LEAST_ROWS_AGAIN ≤ rows

-- ---- who took the pages
-- all of them took the pages by these actions, by tenure; and these are those of them that are
-- still told
pub record TakersTold (reuse : Option ℕ) (owners : List ℕ) (actions : ℕ → List Action) :
    Type 0 where
  pub all : List ℕ
  pub takers : Takers all actions
  pub told : owners ≡ owners_told reuse all

-- ---- rows that are used again
abbrev pub pin_of : Option Reuse → Pin
pin_of None = Away
pin_of (Some r) = r.pin

abbrev pub pin_in : {E : Type 0} → Option (Sender E) → Pin
pin_in None = Away
pin_in (Some v) = pin_of v.reuse

-- the words, how far the pin of each sender has come, and the reclamation of who holds the page
abbrev pub reclamation_of : {E : Type 0} → Machine E → Option Reclaiming → Reclamation
reclamation_of m reclaimer = record {
  words = slice_index m.words;
  pins = λ p. pin_in (slice_get m.senders p);
  reclaimer = reclaimer;
}

-- over so many rows
pub record ReusesRows {E : Type 0} (X : Election E) (m : Machine E) (T : Trails) (rows : ℕ) :
    Type 0 where
  pub reclaimer : Option Reclaiming
  pub holder : (p : ℕ) (v : Sender E) (t : ℕ) → slice_get m.senders p ≡ Some v
      → held_of v.core.phase ≡ Some t → reclaimer_in v.reuse ≡ reclaimer
  -- its trails lead to its reclamation by moves of a reclamation: so no row is cleared while
  -- somebody stands in a tenure of it, ..
  pub reached : ReclamationReached (sizes_with m.layout rows) (reclamation_of m reclaimer) T.pins
  pub safe : IsSafe (sizes_with m.layout rows) (reclamation_of m reclaimer) T.pins
  -- .. and while a page is out, the row of the next tenure was never used, or it is reclaimed
  pub ready : (t : ℕ) → stage_of m ≡ 2 * t + 1 → reclaimer ≡ None → t + 1 < rows
  -- whose election runs stands in its tenure: it stored its presence, then loaded the stage of that
  -- tenure, and has not cleared it since
  pub stands : (p : ℕ) (v : Sender E) (t : ℕ) (e : E) → slice_get m.senders p ≡ Some v
      → v.core.phase ≡ Electing t e → Stands (sizes_with m.layout rows) p (T.pins p) t
  -- and its next step is on a word of the row that this tenure uses
  pub within : (p t word : ℕ) (v : Sender E) (e : E) (o : Op) → slice_get m.senders p ≡ Some v
      → situation X v ≡ Does (Elects t e)
      → (line_now X v).op word ≡ Some o
      → (row_of (sizes_with m.layout rows) t ≤ register o)
      × (register o < row_of (sizes_with m.layout rows) t + m.layout.width)
  -- no step clears a word of a row in which anybody stands
  pub spares : (p q t place word : ℕ) (v : Sender E) (s : Reclaiming) (o : Op)
      → slice_get m.senders p ≡ Some v → situation X v ≡ Clears s
      → (line_now X v).op word ≡ Some o → Stands (sizes_with m.layout rows) q (T.pins q) t
      → place < m.layout.width
      → register o ≢ row_of (sizes_with m.layout rows) t + place

abbrev pub ReusesSafely : {E : Type 0} → Election E → Machine E → Trails → Option ℕ → Type 0
ReusesSafely X m T None = Unit {0}
ReusesSafely X m T (Some rows) = ReusesRows X m T rows

-- ---- the page
-- The page is out while a tenure is held. At home it knows how many tenures have ended, how many
-- words the log has, and whether the order has ended.
abbrev pub IsPagedBy : (stage len : ℕ) → Bool → Option Page → Type 0
IsPagedBy stage len ended None = (t : ℕ) × (stage ≡ 2 * t + 1)
IsPagedBy stage len ended (Some page) =
    (stage ≡ 2 * page.tenures) × (page.words ≡ len) × (page.ended ≡ ended)

-- its floor is not past the words that it knows, and where no word of the log is used again it
-- stays at the first
pub record KeepsItsFloor (passers : ℕ) (page : Page) : Type 0 where
  pub low : page.floor ≤ page.words
  pub flat : passers ≡ 0 → KeepsFloor page

-- it knows the next number of each sender behind this order, and who has left by it; and its floor
-- is kept, where there are so many passed places
pub record KnowsOrder (base : ℕ → ℕ) (passers : ℕ) (page : Page) (order : Order) : Type 0 where
  pub entries : length page.next ≡ MOST_SENDERS
  pub next : (s : ℕ) → s < MOST_SENDERS
      → slice_index page.next s ≡ base s + length (of_sender s order)
  pub left : (s : ℕ) → s < MOST_SENDERS → slice_get page.left s ≡ Some (has_gone s order)
  pub floor : KeepsItsFloor passers page

-- A page that is out knows what the log was when it left home: how many words it had, the order
-- that these spell, and the tenures.
pub record KnowsFront (base : ℕ → ℕ) (x : Layout) (tenure : ℕ) (page : Page) (front : List ℕ) :
    Type 0 where
  pub order : Order
  pub owners : List (ℕ × SenderNo)
  pub spelled : Spells x.senders front order owners
  pub words : page.words ≡ length front
  pub knows : KnowsOrder base x.passers page order
  pub ended : page.ended ≡ order.ended
  pub tenures : page.tenures ≡ tenure

-- While it is out, who took it last of all has it: the owner of the tenure that is held. Behind the
-- words that it knows stands the owner's frame, once that is published, and nothing else.
pub record IsWithOwner {E : Type 0} (m : Machine E) (T : Trails) (owners : List ℕ) : Type 0 where
  pub tenure : ℕ
  pub stage : stage_of m ≡ 2 * tenure + 1
  pub owner : ℕ
  pub last : slice_get owners tenure ≡ Some owner
  pub many : length owners ≡ tenure + 1
  pub took : (place : ℕ) × Took (T.actions owner) tenure place
  pub sender : Sender E
  pub there : slice_get m.senders owner ≡ Some sender
  pub page : Page
  pub stored : ℕ
  pub published : Bool
  pub has : sender.core.phase ≡ Holding tenure page stored published
  pub front : List ℕ
  pub knows : KnowsFront (base_of m) m.layout tenure page front
  pub behind : T.log
      ≡ front ++ (if published then frame_words (frame_of sender.core.queue tenure) else [])

-- the page is at home, and the stage is that of this tenure
pub record FindsPage {E : Type 0} (m : Machine E) (t : ℕ) : Type 0 where
  pub page : Page
  pub home : m.home ≡ Some page
  pub stage : stage_of m ≡ 2 * t

-- the page is at home, or a sender holds it
abbrev pub IsPageOf : {E : Type 0} → Machine E → Page → Type 0
IsPageOf {E} m page =
    (m.home ≡ Some page)
    ⊎ ((s : ℕ) × (v : Sender E) × (t stored : ℕ) × (published : Bool)
    × (slice_get m.senders s ≡ Some v) × (v.core.phase ≡ Holding t page stored published))

-- the floor of the page only rises
abbrev pub FloorsRise : {E : Type 0} → Machine E → Machine E → Type 0
FloorsRise old new =
    (page next : Page) → IsPageOf old page → IsPageOf new next → page.floor ≤ next.floor

-- no passed place falls, be it one that no receiver has; a receiver that leaves stores 2^64 - 1 in
-- its own, so it rises with that as well
abbrev pub PassedRise : {E : Type 0} → Machine E → Machine E → Type 0
PassedRise old new =
    (r at : ℕ) → passed_by old.layout old.reuse r ≡ Some at
    → slice_index old.words at ≤ slice_index new.words at

-- ---- the log
-- a step is on the cell of the word that is so many past the length; and no word that stands has
-- that cell
pub record IsPastLength {E : Type 0} (m : Machine E) (stored : ℕ) (o : Op) : Type 0 where
  pub cell : register o
      ≡ log_place m.layout m.reuse + (slice_index m.words 0 + stored) % m.layout.capacity
  pub room : slice_index m.words 0 + stored < m.layout.capacity + floor_of m

-- each word that was published from this place on stands in its cell
abbrev pub StandsFrom : {E : Type 0} → Machine E → List ℕ → ℕ → Type 0
StandsFrom m log floor =
    (place : ℕ) → floor ≤ place → place < length log
    → slice_index m.words (log_place m.layout m.reuse + place % m.layout.capacity)
    ≡ slice_index log place

-- ---- the promise
-- of these trails, with the order and the owners of frames that all that was published spells; and
-- the cells of the log show that from its floor on, which is all of it where no word of the log is
-- used again
pub record IsPromisedBy {E : Type 0} (X : Election E) (m : Machine E) (T : Trails) (order : Order)
    (owners : List (ℕ × SenderNo)) : Type 0 where
  pub stands : ShowsLog m T.log
  pub below : StandsBelow m T.log
  pub spelled : Spells m.layout.senders T.log order owners
  -- none of whose frames has more messages than a batch may have
  pub few : All (λ f. length (items_of f) ≤ m.layout.batch) spelled.frames
  -- one of its frames begins at the floor: so what stands is the last frames, and spells by itself
  -- what they say
  pub edge : IsBoundary spelled.frames (floor_of m)
  -- and no receiver that has not left is still to hear a word before it
  pub comes : (r : ℕ) (v : Receiving) → slice_get m.receivers r ≡ Some v → v.gone ≡ false
      → floor_of m ≤ v.place
  -- a receiver's passed place, which is where the layout has it, shows the place that it has
  -- passed, and 2^64 - 1 once it has left
  pub passes : ShowsPassed m
  -- as long as it has not left it has heard all words before the place that is shown there, and one
  -- of those frames begins at that place, or the last ends
  pub passed : (r : ℕ) (v : Receiving) (at : ℕ) → slice_get m.receivers r ≡ Some v
      → passed_by m.layout m.reuse r ≡ Some at → v.gone ≡ false
      → (slice_index m.words at ≤ v.place) × IsBoundary spelled.frames (slice_index m.words at)
  pub takers : TakersTold m.reuse m.owners T.actions
  pub promises : Promises (base_of m) T.actions T.heard order owners
  pub paged : IsPagedBy (stage_of m) (slice_index m.words 0) order.ended m.home
  -- who takes the page of a tenure with its next step finds it at home, in that tenure; and who
  -- holds it, holds that of the tenure
  pub finds : (s : ℕ) (v : Sender E) (t : ℕ) → slice_get m.senders s ≡ Some v
      → situation X v ≡ Does (TakesPage t) → FindsPage m t
  pub holds : (s : ℕ) (v : Sender E) (t : ℕ) → slice_get m.senders s ≡ Some v
      → held_of v.core.phase ≡ Some t → stage_of m ≡ 2 * t + 1
  -- and it is who took that page: so nobody but the owner of the tenure that is held has one
  pub owns : (s : ℕ) (v : Sender E) (t : ℕ) → slice_get m.senders s ≡ Some v
      → held_of v.core.phase ≡ Some t → slice_get takers.all t ≡ Some s
  -- a page at home counts the pages that were taken
  pub counts : (page : Page) → m.home ≡ Some page → page.tenures ≡ length takers.all
  -- it knows the next number of each sender behind the order, and who has left in it; a page that
  -- is out is with the owner of the tenure that is held
  pub knows : (page : Page) → m.home ≡ Some page
      → KnowsOrder (base_of m) m.layout.passers page order
  pub out : m.home ≡ None → IsWithOwner m T takers.all
  -- the floor of a page, at home or held, is not past that of the log; and from it on all words
  -- stand, also those before the least passed place
  pub floors : (page : Page) → IsPageOf m page → page.floor ≤ floor_of m
  pub lasts : (page : Page) → IsPageOf m page → StandsFrom m T.log page.floor
  -- who loads a passed place with its next step loads that of the receiver whose number is how many
  -- it has found in the tenure; so what it has found in them, number by number, is what the places
  -- of receivers showed
  pub loads : (s : ℕ) (v : Sender E) (t word : ℕ) (p : Passing) → slice_get m.senders s ≡ Some v
      → situation X v ≡ ReadsPassed t p
      → LoadsPassed X m v word (length (places_found (T.actions s)))
  pub shown : (s : ℕ) (v : Sender E) (t : ℕ) (page : Page) (stored : ℕ) (published : Bool)
      (r n : ℕ) → slice_get m.senders s ≡ Some v → v.core.phase ≡ Holding t page stored published
      → slice_get (places_found (T.actions s)) r ≡ Some n → WasShown X m s (T.actions s) t r n
  -- a word of the log is stored past its length, behind those of the same frame that are stored
  pub past : (s : ℕ) (v : Sender E) (t : ℕ) (page : Page) (stored word : ℕ) (o : Op)
      → slice_get m.senders s ≡ Some v
      → situation X v ≡ Does (StoresWord t page stored) → (line_now X v).op word ≡ Some o
      → IsPastLength m stored o
  -- what a sender has put is what stands of it in the order, and then what waits
  pub sent : (s : ℕ) (v : Sender E) → slice_get m.senders s ≡ Some v
      → puts (T.actions s)
      ≡ map (λ i. i.message) (of_sender s order) ++ waiting_at v.core v.core.phase
  -- what each sender goes by is so
  pub remembers : (s : ℕ) (v : Sender E) → slice_get m.senders s ≡ Some v
      → Remembers m T.log s v (T.actions s)
  pub reuse : ReusesSafely X m T m.reuse

pub record IsPromised {E : Type 0} (X : Election E) (m : Machine E) (T : Trails) : Type 0 where
  pub order : Order
  pub owners : List (ℕ × SenderNo)
  pub by : IsPromisedBy X m T order owners

-- As it held before, so it holds after, of more trails: the order, the owners of frames and of
-- pages, and what each receiver was given are extended, and never otherwise changed.
pub record StaysPromised {E : Type 0} (X : Election E) (old : Machine E) (T : Trails)
    (new : Machine E) (T' : Trails) : Type 0 where
  pub before : IsPromised X old T
  pub after : IsPromised X new T'
  pub order : IsPrefixOfOrder before.order after.order
  pub owners : IsPrefix before.owners after.owners
  pub takers : IsPrefix before.by.takers.all after.by.takers.all
  pub given : (r : ℕ) → IsPrefixOfOrder (order_given (T.heard r)) (order_given (T'.heard r))

-- ---- what stays of a tenure
-- the row of this tenure is a later one's
abbrev pub HasGoneOn : {E : Type 0} → Machine E → Option ℕ → ℕ → Type 0
HasGoneOn m None t = ⊥
HasGoneOn m (Some rows) t = t + rows ≤ stage_of m / 2

-- the action is a step in this tenure: one of its election, the one that takes its page, or one of
-- who holds that page
abbrev pub is_in : ℕ → Action → Bool
is_in t (HasPut number bytes) = false
is_in t (HasMarked mark) = false
is_in t (Stepped None k found chose answer) = false
is_in t (Stepped (Some u) k found chose answer) = u == t

-- what a sender did in this tenure, in its order
abbrev pub actions_in : ℕ → List Action → List Action
actions_in t actions = filter (is_in t) actions

-- ---- what joins the log
-- the frame that joins it with the next turn of this sender, where that stores a length
abbrev pub frame_next : {E : Type 0} → Election E → Option (Sender E) → Option Frame
frame_next X None = None
frame_next X (Some v) = (line_now X v).publishes

-- with an event: that of a sender that goes on and whose turn stores a length; with all others none
abbrev pub frame_published : {E : Type 0} → Election E → Machine E → Event → Option Frame
frame_published X m (Put s bytes) = None
frame_published X m (Ask s mark) = None
frame_published X m (Turn s word) = frame_next X (going m s)
frame_published X m (Recv r) = None
frame_published X m (Stop s) = None
frame_published X m (Gone r) = None

-- the words that join the log with an event
abbrev pub words_joined : {E : Type 0} → Election E → Machine E → Event → List ℕ
words_joined X m e = words_of_frame (frame_published X m e)

-- ---- one machine follows another
-- Some trails led to the old machine. Whatever trails did, the length of the new one counts all
-- that was published by them, with these words behind it, and its cells show that from its floor
-- on, and no other: so what was published is extended and never otherwise changed. Where no word of
-- the log is used again it is just the words below the length. The stage never falls, nor does the
-- floor of the page, nor a passed place. With these ones those trails lead to the new machine, and
-- the promise stays; and of a tenure whose row had gone on before, no sender has an action more: no
-- step of its election, and none of who holds its page. So what was elected there stays as it is.
pub record Extends {E : Type 0} (X : Election E) (old new : Machine E) (joined : List ℕ)
    (grown : Trails → Trails) : Type 0 where
  pub led : (T : Trails) × Reached X old T
  pub stands : (T : Trails) → Reached X old T → ShowsLog new (T.log ++ joined)
  pub below : (T : Trails) → Reached X old T → StandsBelow new (T.log ++ joined)
  pub rises : stage_of old ≤ stage_of new
  pub floors : FloorsRise old new
  pub passed : PassedRise old new
  pub reached : (T : Trails) → Reached X old T → Reached X new (grown T)
  pub promised : (T : Trails) → Reached X old T → StaysPromised X old T new (grown T)
  pub stays : (T : Trails) → Reached X old T → (t s : ℕ) → HasGoneOn old old.reuse t
      → actions_in t ((grown T).actions s) ≡ actions_in t (T.actions s)

-- By an event with this answer: the frame of a sender whose turn stores a length joins the log with
-- that step, and with no other event does any word join it.
abbrev pub Follows : {E : Type 0} → Election E → Machine E → Event → Answer → Machine E → Type 0
Follows X old e a new = Extends X old new (words_joined X old e) (trails_grown X old e a)

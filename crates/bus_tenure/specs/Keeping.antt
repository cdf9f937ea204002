-- What every sender keeps.
use Rattle.std.specs.Prelude.{◌≡◌, ◌≢◌, ℕ, ◌+◌, ◌<◌, ◌≤◌, ◌^◌, Bool, true, false}
use Rattle.bus_register.specs.declared.limits.TheConstants.{MOST_SENDERS, MOST_ROUNDS, TENURES}
use Rattle.bus_register.specs.declared.limits.TheConstants.{MOST_RECEIVERS, MOST_MESSAGES}
use Rattle.bus_batch.specs.Batches.{Pending, HasSomething}
use Rattle.bus_batch.specs.declared.batches.Phase.TheVariants.{Closed}
use Rattle.bus_tenure.specs.declared.pages.Page.{Page}
use Rattle.bus_tenure.specs.declared.phases.Phase.{Phase}
use Rattle.bus_tenure.specs.declared.phases.Phase.TheVariants.{Resting, Electing, Taken, Holding}
use Rattle.bus_tenure.specs.declared.phases.Phase.TheVariants.{Giving}
use Rattle.bus_tenure.specs.Core.{Layout, Core, row_at, words_of, frame_len}
use Rattle.bus_tenure.specs.Paging.{PageKeeps}

-- the sizes of a bus, with so many words in each row
pub record AreSizes (x : Layout) (width : ℕ) : Type 0 where
  pub some : 1 ≤ x.senders
  pub few : x.senders ≤ MOST_SENDERS
  pub rounds_some : 1 ≤ x.rounds
  pub rounds_few : x.rounds ≤ MOST_ROUNDS
  pub rows_few : x.rows ≤ TENURES
  pub capacity_few : x.capacity ≤ 2 ^ 20
  pub passers_few : x.passers ≤ MOST_RECEIVERS
  pub batch_some : 1 ≤ x.batch
  pub batch_few : x.batch ≤ MOST_MESSAGES
  pub width_is : x.width ≡ width
  pub room : words_of x ≤ 2 ^ 63

-- the contents of a batch are on their way
pub record IsUnderWay (q : Pending) : Type 0 where
  pub busy : q.busy ≡ true
  pub not_closed : q.phase ≢ Closed
  pub something : HasSomething q

-- in a tenure that the bus has, with the batch under way
pub record IsInTenure {E : Type 0} (c : Core E) (tenure : ℕ) : Type 0 where
  pub below : tenure < c.layout.rows
  pub under_way : IsUnderWay c.queue

-- with the page before it: so many words of the frame are stored; where the length is, the frame
-- has its room
pub record IsHolding {E : Type 0} (c : Core E) (tenure : ℕ) (page : Page) (stored : ℕ)
    (published : Bool) : Type 0 where
  pub in_tenure : IsInTenure c tenure
  pub kept : PageKeeps page
  pub within : stored ≤ frame_len c
  pub room : published ≡ true → page.words + frame_len c ≤ c.layout.capacity + page.floor

-- in an election, whose local state belongs to the row of the tenure
pub record IsElecting {E : Type 0} (Belongs : ℕ → E → Type 0) (c : Core E) (tenure : ℕ)
    (election : E) : Type 0 where
  pub in_tenure : IsInTenure c tenure
  pub belongs : Belongs (row_at c.layout tenure) election

abbrev pub PhaseKeeps : {E : Type 0} → (ℕ → E → Type 0) → Core E → Phase E → Type 0
PhaseKeeps Belongs c Resting = c.queue.busy ≡ false
PhaseKeeps Belongs c (Electing t e) = IsElecting Belongs c t e
PhaseKeeps Belongs c (Taken t) = IsInTenure c t
PhaseKeeps Belongs c (Holding t page stored published) = IsHolding c t page stored published
PhaseKeeps Belongs c (Giving t reason) = IsInTenure c t

-- the batch is the sender's own, of as many messages as a batch of the bus, and as the phase has it
pub record SenderInvariant {E : Type 0} (width : ℕ) (Belongs : ℕ → E → Type 0) (c : Core E) :
    Type 0 where
  pub sizes : AreSizes c.layout width
  pub me_below : c.me < c.layout.senders
  pub sender_is : c.queue.sender.0 ≡ c.me
  pub limit_is : c.queue.limit ≡ c.layout.batch
  pub phase : PhaseKeeps Belongs c c.phase

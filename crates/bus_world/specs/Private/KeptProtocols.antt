-- What is promised of senders and receivers of a bus whose rows are used again.
use Rattle.std.specs.Prelude.{◌≡◌, ℕ, ◌+◌, ◌*◌, ◌<◌, ◌≤◌, Bool, false, Some, None, List}
use Rattle.std.specs.Prelude.{slice_index, length, All}
use Rattle.bus_register.specs.declared.registers.Op.{Op}
use Rattle.bus_register.specs.declared.registers.SenderNo.{SenderNo}
use Rattle.bus_register.specs.Words.{register}
use Rattle.bus_batch.specs.Frames.{Order, Spells, items_of}
use Rattle.bus_deliverylog.specs.Receiving.{Receiving}
use Rattle.bus_deliverylog.specs.declared.receiving.RecvTurn.{RecvTurn}
use Rattle.bus_presence.specs.Standing.{IsSafe, Stands}
use Rattle.bus_presence.specs.Reclamation.{Trails, row_of, Reached}
use Rattle.bus_tenure.specs.Core.{Core, Election, Layout, stage_at}
use Rattle.bus_tenure.specs.Situations.{Elects}
use Rattle.bus_tenure.specs.declared.pages.Page.{Page}
use Rattle.bus_tenure.specs.declared.phases.Phase.TheVariants.{Electing, Holding}
use Rattle.bus_core.specs.Reusing.Participants.{sizes_with, log_from}
use Rattle.bus_core.specs.Private.ParticipantTable.{place_for}
use Rattle.bus_world.specs.Headline.{Action, Promises}
use Rattle.bus_world.specs.Log.{words_read_from}
use Rattle.bus_world.specs.Trails.{Takers}
use Rattle.bus_world.specs.World.{FindsIn, recv_found}
use Rattle.bus_world.specs.Private.CyclicProtocols.{CyclicProtocol}
use Rattle.bus_world.specs.Floors.{ShowsRing, passed_place}

-- ---- what is promised of it
-- of its trails, actions, answers and published words, with one order and one list of tenures and
-- owners
pub record KeepsPromises {E : Type 0} (X : Election E) (x : Layout) (rows : ℕ)
    (y : CyclicProtocol E) (T : Trails) (D : ℕ → List Action) (H : ℕ → List RecvTurn)
    (L : List ℕ) (order : Order) (owners : List (ℕ × SenderNo)) (floor : ℕ) : Type 0 where
  -- its trails lead to its reclamation by moves of a reclamation: so no row is cleared while
  -- somebody stands in a tenure of it, ..
  pub reached : Reached (sizes_with x rows) y.reclamation T
  pub safe : IsSafe (sizes_with x rows) y.reclamation T
  -- .. and while a page is out, the row of the next tenure was never used, or it is reclaimed
  pub ready : (t : ℕ) → y.reclamation.words stage_at ≡ 2 * t + 1 → y.reclamation.reclaimer ≡ None
      → t + 1 < rows
  -- whose election runs stands in its tenure: it stored its presence, then loaded the stage of that
  -- tenure, and has not cleared it since
  pub stands : (p : ℕ) (c : Core E) (t : ℕ) (e : E) → y.senders p ≡ Some c → c.phase ≡ Electing t e
      → Stands (sizes_with x rows) p (T p) t
  -- and its next step is on a word of the row that this tenure uses
  pub within : (p : ℕ) (c : Core E) (t : ℕ) (e : E) (word : ℕ) (o : Op) → y.senders p ≡ Some c
      → c.phase ≡ Electing t e → X.op e word ≡ Some o
      → (row_of (sizes_with x rows) t ≤ place_for x rows (Elects t e) (register o))
      × (place_for x rows (Elects t e) (register o) < row_of (sizes_with x rows) t + x.width)
  -- who took the pages is who did so by its actions
  pub takers : Takers y.owners D
  -- what was published spells the order and the owners, ..
  pub spelled : Spells x.senders L order owners
  -- .. none of its frames has more messages than a batch may have, ..
  pub few : All (λ f. length (items_of f) ≤ x.batch) spelled.frames
  -- .. and stands in the log from a floor on
  pub ring : ShowsRing x rows y.reclamation.words spelled.frames L floor
  -- the page has that floor, at home and out
  pub floor_home : (page : Page) → y.home ≡ Some page → page.floor ≡ floor
  pub floor_held : (p t : ℕ) (page : Page) (stored : ℕ) (published : Bool) (c : Core E)
      → y.senders p ≡ Some c → c.phase ≡ Holding t page stored published → page.floor ≡ floor
  -- which is not past the place of a receiver that has not left
  pub waits : (r : ℕ) (v : Receiving) → y.receivers r ≡ Some v → v.gone ≡ false → floor ≤ v.place
  -- such a receiver finds with its load the word that was published at its place, or how many were
  pub finds : (r : ℕ) (v : Receiving) → y.receivers r ≡ Some v → v.gone ≡ false
      → FindsIn L v (recv_found y.reclamation.words v)
  -- and believes the length that it finds
  pub believes : (r : ℕ) (v : Receiving) → y.receivers r ≡ Some v → v.gone ≡ false
      → y.reclamation.words 0 ≤ v.log_words + v.passed
  -- and its passed place shows no place that it has not come to
  pub comes : (r : ℕ) (v : Receiving) → y.receivers r ≡ Some v → v.gone ≡ false → r < x.passers
      → y.reclamation.words (passed_place x rows r) ≤ v.place
  -- where no word of the log is used again, all of it stands in the words below the length
  pub shows : x.passers ≡ 0
      → words_read_from y.reclamation.words (log_from x rows) (y.reclamation.words 0) ≡ L
  -- the headline's promise, also of tenures whose rows have gone on to others
  pub promises : Promises (slice_index y.bases) D H order owners

pub record IsKeptProtocol {E : Type 0} (X : Election E) (x : Layout) (rows : ℕ)
    (y : CyclicProtocol E) (T : Trails) (D : ℕ → List Action) (H : ℕ → List RecvTurn)
    (L : List ℕ) : Type 0 where
  pub order : Order
  pub owners : List (ℕ × SenderNo)
  pub floor : ℕ
  pub by : KeepsPromises X x rows y T D H L order owners floor

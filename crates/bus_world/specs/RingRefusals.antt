-- Buses whose rows are used again to which nothing leads: their words have lost what somebody is
-- still to hear, or would lose it.
use Rattle.std.specs.Prelude.{◌≡◌, ◌≢◌, ℕ, ◌+◌, ◌%◌, ◌<◌, ◌≤◌, Bool, false, Some, List, ◌∷◌, ◌++◌}
use Rattle.std.specs.Prelude.{length, slice_index}
use Rattle.bus_batch.specs.Frames.{Frame, AreFrames, frame_words, log_words}
use Rattle.bus_deliverylog.specs.Receiving.{Receiving}
use Rattle.bus_deliverylog.specs.declared.receiving.RecvTurn.{RecvTurn}
use Rattle.bus_presence.specs.Reclamation.{Trails}
use Rattle.bus_tenure.specs.Core.{Core, Election, Layout}
use Rattle.bus_tenure.specs.declared.pages.Page.{Page}
use Rattle.bus_tenure.specs.declared.phases.Phase.TheVariants.{Holding}
use Rattle.bus_core.specs.Reusing.Participants.{log_from}
use Rattle.bus_world.specs.Headline.{Action}
use Rattle.bus_world.specs.Private.CyclicProtocols.{CyclicProtocol, Led}
use Rattle.bus_world.specs.Floors.{passed_place}
use Rattle.bus_world.specs.World.{recv_found}

pub record RingRefuses {E : Type 0} (X : Election E) (x : Layout) (rows : ℕ)
    (y : CyclicProtocol E) (T : Trails) (D : ℕ → List Action) (H : ℕ → List RecvTurn)
    (L : List ℕ) : Type 0 where
  -- a receiver that has not left loads another word than was published at its place, or one that
  -- was not published yet
  pub overwritten : (r : ℕ) (v : Receiving) → y.receivers r ≡ Some v → v.gone ≡ false
      → v.place ≢ v.known → recv_found y.reclamation.words v ≢ slice_index L v.place
      → ¬ Led X x rows y T D H L
  pub loaded_ahead : (r : ℕ) (v : Receiving) → y.receivers r ≡ Some v → v.gone ≡ false
      → v.place ≢ v.known → length L ≤ v.place → ¬ Led X x rows y T D H L
  -- or another length than that of what was published
  pub another_length : (r : ℕ) (v : Receiving) → y.receivers r ≡ Some v → v.gone ≡ false
      → v.place ≡ v.known → recv_found y.reclamation.words v ≢ length L
      → ¬ Led X x rows y T D H L
  -- behind it, what such a receiver has still to hear is lost: the cell of a word has another one
  pub lost_behind : (r : ℕ) (v : Receiving) (place : ℕ) → y.receivers r ≡ Some v
      → v.gone ≡ false → v.place ≤ place → place < length L
      → y.reclamation.words (log_from x rows + place % x.capacity) ≢ slice_index L place
      → ¬ Led X x rows y T D H L
  -- likewise from the floor of a page on, at home or out, whoever is to hear it
  pub lost_behind_the_floor : (page : Page) (place : ℕ) → y.home ≡ Some page
      → page.floor ≤ place → place < length L
      → y.reclamation.words (log_from x rows + place % x.capacity) ≢ slice_index L place
      → ¬ Led X x rows y T D H L
  pub lost_behind_a_held_floor : (p t : ℕ) (page : Page) (stored : ℕ) (published : Bool)
      (c : Core E) (place : ℕ) → y.senders p ≡ Some c
      → c.phase ≡ Holding t page stored published → page.floor ≤ place → place < length L
      → y.reclamation.words (log_from x rows + place % x.capacity) ≢ slice_index L place
      → ¬ Led X x rows y T D H L
  -- the floor of a page is past the place of a receiver that has not left, at home or out
  pub floor_past_a_receiver : (r : ℕ) (v : Receiving) (page : Page) → y.receivers r ≡ Some v
      → v.gone ≡ false → y.home ≡ Some page → v.place < page.floor → ¬ Led X x rows y T D H L
  pub held_floor_past_a_receiver : (r p t : ℕ) (v : Receiving) (page : Page) (stored : ℕ)
      (published : Bool) (c : Core E) → y.receivers r ≡ Some v → v.gone ≡ false
      → y.senders p ≡ Some c → c.phase ≡ Holding t page stored published
      → v.place < page.floor → ¬ Led X x rows y T D H L
  -- the length falls short of what was published
  pub length_short_of_the_log : y.reclamation.words 0 < length L → ¬ Led X x rows y T D H L
  -- the length is past what was published
  pub length_past_the_log : length L < y.reclamation.words 0 → ¬ Led X x rows y T D H L
  -- the floor of a page is past the length, at home or out
  pub floor_past_the_length : (page : Page) → y.home ≡ Some page
      → y.reclamation.words 0 < page.floor → ¬ Led X x rows y T D H L
  pub held_floor_past_the_length : (p t : ℕ) (page : Page) (stored : ℕ) (published : Bool)
      (c : Core E) → y.senders p ≡ Some c → c.phase ≡ Holding t page stored published
      → y.reclamation.words 0 < page.floor → ¬ Led X x rows y T D H L
  -- the passed place of a receiver that has not left shows a place that it has not come to
  pub passed_ahead : (r : ℕ) (v : Receiving) → y.receivers r ≡ Some v → v.gone ≡ false
      → r < x.passers → v.place < y.reclamation.words (passed_place x rows r)
      → ¬ Led X x rows y T D H L
  -- a passed place shows a place within a frame
  pub passed_within_a_frame : (front rest : List Frame) (f : Frame) (r : ℕ) → r < x.passers
      → AreFrames x.senders (front ++ f ∷ rest) → log_words (front ++ f ∷ rest) ≡ L
      → length (log_words front) < y.reclamation.words (passed_place x rows r)
      → y.reclamation.words (passed_place x rows r)
      < length (log_words front) + length (frame_words f)
      → ¬ Led X x rows y T D H L

-- What an event publishes stands in its cells just behind what was published before.
use Rattle.std.proofs.Common.{◌≡◌, ℕ, ◌+◌, ◌-◌, ◌%◌, ◌<◌, ◌≤◌, Bool, true, false, Some, List, ◌++◌}
use Rattle.std.proofs.Common.{length, take, drop, slice_get, slice_index, arith, refl, sym, ◌∙◌, ap}
use Rattle.std.proofs.Math.Seq.{drop-append_seam, take-length}
use Rattle.std.proofs.lemmas.List.{append-nil, length-append, length-drop}
use Rattle.std.proofs.lemmas.Option.{slice_get_within}
use Rattle.std.proofs.lemmas.Grind.{common_steps}
use Rattle.bus_batch.specs.Batches.{frame_of}
use Rattle.bus_batch.specs.Frames.{frame_words}
use Rattle.bus_core.proofs.Situated.{own_is}
use Rattle.bus_core.specs.Senders.{Sender, Situation, Does, situation}
use Rattle.bus_core.specs.Table.{line}
use Rattle.bus_register.specs.Protocol.{Protocol}
use Rattle.bus_register.specs.Private.TableLaws.{get_set_same}
use Rattle.bus_tenure.proofs.Situated.{tells}
use Rattle.bus_tenure.specs.Core.{Election}
use Rattle.bus_tenure.specs.Situations.{StoresLength, situation_at, situation_of}
use Rattle.bus_tenure.specs.declared.pages.Page.{Page}
use Rattle.bus_tenure.specs.declared.phases.Phase.TheVariants as phase
use Rattle.bus_world.proofs.LogLaws.{index-read}
use Rattle.bus_world.proofs.Stopping.{shown_there}
use Rattle.bus_world.specs.Log.{words_in_ring, words_of_frame}
use Rattle.bus_world.specs.Private.Sending.{IsWriting}
use Rattle.bus_world.specs.Turning.{after_step}
use Rattle.bus_world.specs.World.{Event, Put, Ask, Turn, Recv, Stop, Gone}
use Rattle.bus_world.specs.declared.events.Answer.{Answer}
use Rattle.bus_machine.proofs.Frames.Cells.{ring_read}
use Rattle.bus_machine.proofs.Frames.Framed.{IsFramed, framed}
use Rattle.bus_machine.proofs.Frames.Joining.{joins}
use Rattle.bus_machine.proofs.Frames.Knowing.{writes}
use Rattle.bus_machine.proofs.Bases.Leading.{Sits, sits_after}
use Rattle.bus_machine.specs.Machine.{base_of, Machine, Trails, Reached, Then, Happens, TakesTurn}
use Rattle.bus_machine.specs.Machine.{ShowsLog, ShowsPublished, found, has_stopped, log_place}
use Rattle.bus_machine.specs.Machine.{moved, trails_grown}

-- nothing was published
shows_same : {E : Type 0} (m : Machine E) (before after : List ℕ) → ShowsLog m after
    → after ≡ before → ShowsPublished m before after
shows_same m before after shows same = grind (arith, common_steps, length, slice_index, append-nil)

-- ---- a machine, by the frames of its log
module _ {E : Type 0} (P : Protocol E (Unit {0}) ℕ) (m : Machine E) (T : Trails)
    (f : IsFramed P m T) where
  -- from the floor of the page on each word stands in its cell
  stands : (place : ℕ) → f.floor ≤ place → place < length T.log
      → slice_index m.words (log_place m.layout m.reuse + place % m.layout.capacity)
      ≡ slice_index T.log place
  stands place past below = grind (arith, common_steps, index-read, slice_index)

  -- so the words up to the length are read from there on
  read_on : (place : ℕ) → f.floor ≤ place → place ≤ length T.log
      → words_in_ring (slice_index m.words) (log_place m.layout m.reuse) m.layout.capacity place
      (slice_index m.words 0 - place) ≡ drop place T.log
  read_on place past within =
      let long = f.stands.0 in
      let size = length-drop place T.log in
      let all : slice_index m.words 0 - place ≡ length (drop place T.log) = omega arith in
      ring_read (slice_index m.words) (log_place m.layout m.reuse) m.layout.capacity f.floor T.log
      stands place (slice_index m.words 0 - place) past (omega arith)
      ∙ ap (λ n. take n (drop place T.log)) all ∙ take-length (drop place T.log)

  -- and what was published since, where no page has a floor behind that
  shows_joined : (before joined : List ℕ) → T.log ≡ before ++ joined → f.floor ≤ length before
      → ShowsPublished m before T.log
  shows_joined before joined is past =
      grind (arith, common_steps, length, length-append, drop-append_seam, drop, read_on)

-- ---- a turn of sender s
module _ {E : Type 0} (X : Election E) (P : Protocol E (Unit {0}) ℕ) (m m' : Machine E) (T : Trails)
    (sits : Sits X P m) (reached : Reached X m T) (s word : ℕ) (a : Answer)
    (h : TakesTurn X m s word a m') where
  abbrev v : Sender E
  v = h.sender

  abbrev T' : Trails
  T' = trails_grown X m (Turn s word) a T

  at : slice_get m.senders s ≡ Some v
  at = shown_there (has_stopped m s) (slice_get m.senders s) v h.goes

  f : IsFramed P m T
  f = framed X P m T sits reached

  f' : IsFramed P m' T'
  f' = framed X P m' T' (sits_after X P m m' (Turn s word) a h sits)
      (Then m m' T (Turn s word) a reached h)

  abbrev sender_now : Situation E → Sender E
  sender_now z =
      moved (after_step (line X v z).move) m.home
      ((line X v z).fed (found m (line X v z) word) word)

  there_now : slice_get m'.senders s ≡ Some (sender_now (situation X v))
  there_now = grind (arith, common_steps, slice_get, get_set_same, slice_get_within, at)

  -- it stores the length: the floor of its page is not past the length that the page knows
  module _ (t : ℕ) (page : Page) (stored : ℕ)
      (i : situation X v ≡ Does (StoresLength t page stored)) where
    own : situation_of X v.core ≡ StoresLength t page stored
    own = own_is X v (StoresLength t page stored) i

    held : (published : Bool) × (v.core.phase ≡ phase.Holding t page stored published)
    held = tells X v.core (StoresLength t page stored) own

    unpublished : (b : Bool) → v.core.phase ≡ phase.Holding t page stored b → b ≡ false
    unpublished false ph = refl
    unpublished true ph = absurd (let bad = sym (ap (situation_at X v.core) ph) ∙ own in cc)

    writing : IsWriting (base_of m) f.V f.frames v.core t page stored
    writing = writes X P m T f s v at t page stored
        (held.1 ∙ ap (phase.Holding t page stored) (unpublished held.0 held.1))

    phase_now : (sender_now (situation X v)).core.phase ≡ phase.Holding t page stored true
    phase_now = ap (λ z. (sender_now z).core.phase) i

    floor_low : f'.floor ≤ length T.log
    floor_low = grind (arith, writing, f, f', there_now, phase_now)

  by_turn : (z : Situation E) → situation X v ≡ z
      → T'.log ≡ T.log ++ words_of_frame (line X v z).publishes → ShowsPublished m' T.log T'.log
  by_turn (Does (StoresLength t page stored)) i is =
      shows_joined P m' T' f' T.log (frame_words (frame_of v.core.queue t)) is
      (floor_low t page stored i)
  by_turn (Does z) i is = shows_same m' T.log T'.log f'.stands (is ∙ append-nil T.log)
  by_turn z i is = shows_same m' T.log T'.log f'.stands (is ∙ append-nil T.log)

  turn_stands : ShowsPublished m' T.log T'.log
  turn_stands = grind (arith, by_turn, joins)

-- ---- whatever happens
module _ {E : Type 0} (X : Election E) (P : Protocol E (Unit {0}) ℕ) (m m' : Machine E)
    (T : Trails) where
  -- it publishes nothing
  other_stands : (e : Event) (a : Answer) → Sits X P m → Reached X m T → Happens X m e a m'
      → (trails_grown X m e a T).log ≡ T.log
      → ShowsPublished m' T.log (trails_grown X m e a T).log
  other_stands e a sits r h same = shows_same m' T.log (trails_grown X m e a T).log
      (framed X P m' (trails_grown X m e a T) (sits_after X P m m' e a h sits)
      (Then m m' T e a r h)).stands same

  pub published_stands : (e : Event) (a : Answer) → Sits X P m → Reached X m T
      → Happens X m e a m' → ShowsPublished m' T.log (trails_grown X m e a T).log
  published_stands (Put s bytes) a sits r h = other_stands (Put s bytes) a sits r h refl
  published_stands (Ask s mark) a sits r h = other_stands (Ask s mark) a sits r h refl
  published_stands (Turn s word) a sits r h = turn_stands X P m m' T sits r s word a h
  published_stands (Recv q) a sits r h = other_stands (Recv q) a sits r h refl
  published_stands (Stop s) a sits r h = other_stands (Stop s) a sits r h refl
  published_stands (Gone q) a sits r h = other_stands (Gone q) a sits r h refl

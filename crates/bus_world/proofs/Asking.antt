-- Who asked for a mark: one that waits in a batch, and one that stands in the log, was asked for by
-- its sender.
use Rattle.std.proofs.Common.{◌≡◌, ℕ, zero, suc, ◌+◌, ◌/◌, Bool, true, false, cond, ◌==◌, nat_le}
use Rattle.std.proofs.Common.{Option, Some, None, inl, inr, List, [], ◌∷◌, ◌++◌, length, slice_get}
use Rattle.std.proofs.Common.{slice_set, refl, sym, ◌∙◌, ap, subst, arith}
use Rattle.std.proofs.lemmas.Bool.{cases_eq}
use Rattle.std.proofs.lemmas.Bool.Decides.{eqb_tells}
use Rattle.std.proofs.lemmas.Option.{same_Some, slice_get_within}
use Rattle.std.proofs.lemmas.Grind.{common_steps}
use Rattle.bus_register.specs.Tables.{Beside}
use Rattle.bus_register.specs.Private.TableLaws.{get_set_same, get_set_other}
use Rattle.bus_batch.specs.Batches.{Pending, body_of, frame_of, phase_sent}
use Rattle.bus_batch.specs.declared.batches.Phase.{Phase as BatchPhase}
use Rattle.bus_batch.specs.declared.batches.Phase.TheVariants.{Open, Marking, Closed as Shut}
use Rattle.bus_batch.specs.declared.messages.Mark.{Mark}
use Rattle.bus_batch.specs.Frames.{Frame, Marked}
use Rattle.bus_tenure.specs.Core.{Core, Election}
use Rattle.bus_tenure.specs.Situations.{Situation, LooksAtStage, Elects, TakesPage, AwaitsPage}
use Rattle.bus_tenure.specs.Situations.{StoresLength, GivesBack, HasHanded, core_begun}
use Rattle.bus_tenure.specs.Situations.{core_elected, waits, queue_after}
use Rattle.bus_tenure.specs.declared.pages.Page.{Page}
use Rattle.bus_tenure.specs.declared.phases.Reason.{Reason}
use Rattle.bus_tenure.specs.declared.phases.Reason.TheVariants.{Sent, FoundEnd, NoRoom}
use Rattle.bus_world.specs.Headline.{Action, HasMarked, Asked}
use Rattle.bus_world.specs.Private.Machines.{core_after}
use Rattle.bus_world.specs.Turning.{core_with_page}
use Rattle.bus_world.proofs.Waiting.{frames_after}
use Rattle.bus_world.proofs.Places.{got_before, got_after, got_split}

-- each mark that waits, and each that stands in the log
pub record Askings {E : Type 0} (senders : ℕ → Option (Core E)) (frames : List Frame)
    (actions : ℕ → List Action) : Type 0 where
  pub waiting : (s : ℕ) (c : Core E) (m : Mark) → senders s ≡ Some c → c.queue.phase ≡ Marking m
      → Asked m (actions s)
  pub logged : (i : ℕ) (f : Frame) (m : Mark) → slice_get frames i ≡ Some f → f.body ≡ Marked m
      → Asked m (actions f.owner.0)

-- it stays so in a longer trail
pub still_asked : (m : Mark) (xs ys : List Action) → Asked m xs → Asked m (xs ++ ys)
still_asked m xs ys h = (h.0, got_before xs ys h.0 (HasMarked m) h.1)

-- ---- a turn lets no mark wait
sent_apart : (m : Mark) (ph : BatchPhase) → phase_sent ph ≡ Marking m → ⊥
sent_apart m Open e = cc
sent_apart m (Marking k) e = cc
sent_apart m Shut e = cc

shut_apart : (m : Mark) → Shut ≡ Marking m → ⊥
shut_apart m e = cc

pub open_no_marking : (m : Mark) → Open ≡ Marking m → ⊥
open_no_marking m e = cc

left_waiting : (m : Mark) (reason : Reason) (q : Pending) → (queue_after reason q).phase ≡ Marking m
    → q.phase ≡ Marking m
left_waiting m Sent q e = absurd (sent_apart m q.phase e)
left_waiting m FoundEnd q e = absurd (shut_apart m e)
left_waiting m NoRoom q e = e

module _ {E : Type 0} (X : Election E) (c : Core E) (m : Mark) where
  laid_waiting : (t : ℕ) (home : Option Page) → (core_with_page c t home).queue.phase ≡ Marking m
      → c.queue.phase ≡ Marking m
  laid_waiting t None e = e
  laid_waiting t (Some page) e = e

  saw_waiting : (a b : Bool) (got : ℕ)
      → (cond a c (cond b (record c { least = got / 2 }) (core_begun X c (got / 2)))).queue.phase
      ≡ Marking m → c.queue.phase ≡ Marking m
  saw_waiting true b got e = e
  saw_waiting false true got e = e
  saw_waiting false false got e = e

  elected_waiting : (t : ℕ) (later : E) (o : Option ℕ)
      → (core_elected c t later o).queue.phase ≡ Marking m → c.queue.phase ≡ Marking m
  elected_waiting t later None e = e
  elected_waiting t later (Some o) e = grind (arith, common_steps)

  pub turn_waiting : (z : Situation E) (home : Option Page) (got word : ℕ)
      → (core_after X c z home got word).queue.phase ≡ Marking m → c.queue.phase ≡ Marking m
  turn_waiting LooksAtStage home got word e =
      saw_waiting (waits c got) (nat_le c.layout.rows (got / 2)) got e
  turn_waiting (Elects t u) home got word e =
      elected_waiting t (X.fed u got word) (X.owner (X.fed u got word)) e
  turn_waiting (TakesPage t) home got word e = laid_waiting t home e
  turn_waiting (AwaitsPage t) home got word e = laid_waiting t home e
  turn_waiting (GivesBack t page reason) home got word e = left_waiting m reason c.queue e
  turn_waiting (HasHanded t reason) home got word e = left_waiting m reason c.queue e
  turn_waiting z home got word e = e

-- ---- a frame with a mark is that of a batch in which it waited
same_mark : (k m : Mark) → Marked k ≡ Marked m → k ≡ m
same_mark k m e = cc

body_waits : (m : Mark) (ph : BatchPhase) (first : ℕ) (messages : List (List ℕ))
    → body_of ph first messages ≡ Marked m → ph ≡ Marking m
body_waits m Open first messages e = cc
body_waits m (Marking k) first messages e = ap Marking (same_mark k m e)
body_waits m Shut first messages e = cc

one_frame : (f : Frame) (i : ℕ) (g : Frame) → slice_get (f ∷ []) i ≡ Some g → f ≡ g
one_frame f zero g e = same_Some _ _ e
one_frame f (suc i) g e = cc

-- each frame of the log after a turn was there before, or it is that of the sender's batch
pub turn_frames : {E : Type 0} (X : Election E) (c : Core E) (z : Situation E) (frames : List Frame)
    (D : Mark → Frame → Type 0)
    → ((i : ℕ) (f : Frame) (m : Mark) → slice_get frames i ≡ Some f → f.body ≡ Marked m → D m f)
    → ((t : ℕ) (m : Mark) → c.queue.phase ≡ Marking m → D m (frame_of c.queue t))
    → (i : ℕ) (f : Frame) (m : Mark) → slice_get (frames_after X c z frames) i ≡ Some f
    → f.body ≡ Marked m → D m f
turn_frames X c (StoresLength t page stored) frames D old new =
    grind (arith, common_steps, got_split, one_frame, body_waits)
turn_frames X c z frames D old new = old

-- ---- the trails of all, of which that of one may have more
module _ {E : Type 0} (senders : ℕ → Option (Core E)) (frames : List Frame) (D : ℕ → List Action)
    (h : Askings senders frames D) (p : ℕ) (c : Core E) (old : senders p ≡ Some c)
    (ds : List Action) where
  abbrev now : ℕ → List Action
  now = λ q. D q ++ cond (q == p) ds []

  later : (m : Mark) (q : ℕ) → Asked m (D q) → Asked m (now q)
  later m q = still_asked m (D q) (cond (q == p) ds [])

  -- the sender goes on with another batch and maybe a frame more; a mark that waits in its batch
  -- did so before, or its action asks for it
  pub askings_on : (senders' : ℕ → Option (Core E)) → Beside p senders senders' → (c' : Core E)
      → senders' p ≡ Some c' → (frames' : List Frame)
      → ((m : Mark) → c'.queue.phase ≡ Marking m → Asked m (now p))
      → ((i : ℕ) (f : Frame) (m : Mark) → slice_get frames' i ≡ Some f → f.body ≡ Marked m
      → Asked m (now f.owner.0)) → Askings senders' frames' now
  askings_on senders' beside c' new frames' own says = record {
    waiting = λ q d m i waits. elim (cases_eq q p) [
      | inl e ↦ grind (arith, common_steps, same_Some)
      | inr ne ↦ later m q (h.waiting q d m (sym (beside q ne) ∙ i) waits)
    ];
    logged = says;
  }

  pub frames_later : (i : ℕ) (f : Frame) (m : Mark) → slice_get frames i ≡ Some f
      → f.body ≡ Marked m → Asked m (now f.owner.0)
  frames_later i f m at says = later m f.owner.0 (h.logged i f m at says)

  pub own_asked : (m : Mark) → c.queue.phase ≡ Marking m → Asked m (now p)
  own_asked m e = later m p (h.waiting p c m old e)

  pub own_asks : (m : Mark) → Asked m ds → Asked m (now p)
  own_asks m a = elim (eqb_tells p p) [
    | inl y ↦ subst (λ b. Asked m (D p ++ cond b ds [])) (sym y.0) (
      length (D p) + a.0,
      got_after (D p) ds a.0 (HasMarked m) a.1 (length (D p) + a.0) refl,
    )
    | inr n ↦ absurd (n.1 refl)
  ]

-- a batch in which a mark is let wait that its action asks for
pub one_waits : (k m : Mark) → Marking k ≡ Marking m → Asked m (HasMarked k ∷ [])
one_waits k m e = grind (arith, common_steps)

-- on lists
pub askings_after :
    {E : Type 0} (senders : List (Core E)) (frames : List Frame) (D : ℕ → List Action)
    → Askings (slice_get senders) frames D → (p : ℕ) (c : Core E) → slice_get senders p ≡ Some c
    → (ds : List Action) → (c' : Core E) (frames' : List Frame)
    → ((m : Mark) → c'.queue.phase ≡ Marking m → Asked m (D p ++ cond (p == p) ds []))
    → ((i : ℕ) (f : Frame) (m : Mark) → slice_get frames' i ≡ Some f → f.body ≡ Marked m
    → Asked m (D f.owner.0 ++ cond (f.owner.0 == p) ds []))
    → Askings (slice_get (slice_set senders p c')) frames' (λ q. D q ++ cond (q == p) ds [])
askings_after senders frames D h p c old ds c' frames' own says =
    askings_on (slice_get senders) frames D h p c old ds (slice_get (slice_set senders p c'))
    (get_set_other senders p c') c' (get_set_same senders p c' (slice_get_within senders p c old))
    frames' own says

-- What is kept of one sender beside the steps of others: its part, who has left, and who owns a
-- frame; and what it keeps that gives a page back without having published.
use Rattle.std.proofs.Common.{◌≡◌, ◌≢◌, ℕ, ◌+◌, Bool, true, false, Some, List, [], ◌∷◌, ◌++◌, cond}
use Rattle.std.proofs.Common.{slice_get, slice_set, arith, refl, sym, ◌∙◌, subst}
use Rattle.std.proofs.lemmas.Bool.{true≢false}
use Rattle.std.specs.Prelude.{All}
use Rattle.std.proofs.lemmas.List.Elements.{All-from_recursion}
use Rattle.bus_batch.specs.Messages.{IsMessage}
use Rattle.std.proofs.lemmas.Option.{slice_get_within}
use Rattle.std.proofs.lemmas.Grind.{common_steps}
use Rattle.bus_batch.specs.Batches.{Pending, IsKept, phase_sent}
use Rattle.bus_batch.specs.declared.batches.Phase.{Phase as BatchPhase}
use Rattle.bus_batch.specs.declared.batches.Phase.TheVariants.{Open, Marking, Closed}
use Rattle.bus_batch.specs.Frames.{Frame, order_of, has_gone}
use Rattle.bus_tenure.specs.Core.{Core, Layout, is_leaving, log_at, page_after}
use Rattle.bus_tenure.specs.Situations.{core_at_rest, queue_after}
use Rattle.bus_tenure.specs.declared.phases.Reason.{Reason}
use Rattle.bus_tenure.specs.declared.phases.Reason.TheVariants.{Sent, FoundEnd, NoRoom}
use Rattle.bus_tenure.specs.declared.pages.Page.{Page}
use Rattle.bus_tenure.specs.declared.phases.Phase.{Phase}
use Rattle.bus_tenure.specs.declared.phases.Phase.TheVariants as phase
use Rattle.bus_world.specs.Log.{AgreeFrom, Knows}
use Rattle.bus_world.specs.Private.Sending.{stands_at, GoesOn, IsWriting, Fits, Part, AreOwned}
use Rattle.bus_register.specs.Private.TableLaws.{push_beside, get_set_same, get_set_other}
use Rattle.bus_world.proofs.LogLaws.{read-agree, SaySame}
use Rattle.bus_world.specs.Private.Tenures.Standing.{Holds}

-- ---- who has left
-- a sender that is not closed has not left
pub still_here : (base : ℕ → ℕ) {E : Type 0} (frames : List Frame) (c : Core E)
    → GoesOn base frames c → (c.queue.phase ≡ Closed → ⊥) → has_gone c.me (order_of frames) ≡ false
still_here base frames c g is_open = grind (arith, common_steps)

-- whose leave mark is sent is closed
pub left_shut : (ph : BatchPhase) → is_leaving ph ≡ true → phase_sent ph ≡ Closed
left_shut Open e = absurd (true≢false (sym e))
left_shut (Marking m) e = refl
left_shut Closed e = refl

-- a page that notes that a sender has left, if it has
pub noted_own : (left : List Bool) (me : ℕ) (b : Bool) → slice_get left me ≡ Some false
    → slice_get (cond b (slice_set left me true) left) me ≡ Some b
noted_own left me true e = get_set_same left me true (slice_get_within left me false e)
noted_own left me false e = e

pub noted_other : (left : List Bool) (me : ℕ) (b : Bool) (s : ℕ) → s ≢ me
    → slice_get (cond b (slice_set left me true) left) s ≡ slice_get left s
noted_other left me true s ne = get_set_other left me true s ne
noted_other left me false s ne = refl

-- the other words are the same
pub Knows-len : {base : ℕ → ℕ} (page : Page) (frames : List Frame) (past len len' : ℕ) → len' ≡ len
    → Knows base page frames past len → Knows base page frames past len'
Knows-len {base} page frames past len len' e k =
    subst (λ z. Knows base page frames past z) (sym e) k

module _ (base : ℕ → ℕ) {E : Type 0} (x : Layout) (words words' : ℕ → ℕ) (frames : List Frame)
    (c : Core E) (layout : c.layout ≡ x)
    (agree : AgreeFrom (log_at x) words words') (len : words' 0 ≡ words 0) where
  writing_stays : (t : ℕ) (page : Page) (stored : ℕ) → IsWriting base words frames c t page stored
      → IsWriting base words' frames c t page stored
  writing_stays t page stored w = grind (arith, common_steps, Knows-len, read-agree)

  Fits-agree : (ph : Phase E) → Fits base words frames c ph → Fits base words' frames c ph
  Fits-agree phase.Resting f = f
  Fits-agree (phase.Electing t e) f = f
  Fits-agree (phase.Taken t) f = f
  Fits-agree (phase.Holding t page stored false) f = (f.0, writing_stays t page stored f.1)
  Fits-agree (phase.Holding t page stored true) f = grind (arith, common_steps)
  Fits-agree (phase.Giving t reason) f = f

pub Part-agree : {base : ℕ → ℕ} {E : Type 0} (x : Layout) (words words' : ℕ → ℕ)
    (frames : List Frame) (p : ℕ) (c : Core E) → AgreeFrom (log_at x) words words'
    → words' 0 ≡ words 0 → Part base x words frames p c → Part base x words' frames p c
Part-agree {base} x words words' frames p c agree len h = record {
  layout = h.layout;
  me = h.me;
  below = h.below;
  sender = h.sender;
  limit = h.limit;
  queue = h.queue;
  fits = Fits-agree base x words words' frames c h.layout agree len c.phase h.fits;
}

-- a sender that holds no page only counts its own items, and knows whether it has left
goes_on_same : (base : ℕ → ℕ) {E : Type 0} (frames frames' : List Frame) (c : Core E)
    → SaySame base c.me frames frames' → GoesOn base frames c → GoesOn base frames' c
goes_on_same base frames frames' c e g = (g.0 ∙ sym e.0, λ gone. g.1 (sym e.1 ∙ gone))

Fits-rests : (base : ℕ → ℕ) {E : Type 0} (words words' : ℕ → ℕ) (frames frames' : List Frame)
    (c : Core E) (ph : Phase E) → ((t : ℕ) → stands_at ph ≡ Holds t → ⊥)
    → SaySame base c.me frames frames' → Fits base words frames c ph → Fits base words' frames' c ph
Fits-rests base words words' frames frames' c phase.Resting free e f =
    (f.0, goes_on_same base frames frames' c e f.1)
Fits-rests base words words' frames frames' c (phase.Electing t u) free e f =
    (f.0, goes_on_same base frames frames' c e f.1)
Fits-rests base words words' frames frames' c (phase.Taken t) free e f = absurd (free t refl)
Fits-rests base words words' frames frames' c (phase.Holding t page stored published) free e f =
    absurd (free t refl)
Fits-rests base words words' frames frames' c (phase.Giving t reason) free e f =
    absurd (free t refl)

pub Part-rests : {base : ℕ → ℕ} {E : Type 0} (x : Layout) (words words' : ℕ → ℕ)
    (frames frames' : List Frame) (p : ℕ) (c : Core E) → ((t : ℕ) → stands_at c.phase ≡ Holds t → ⊥)
    → SaySame base p frames frames' → Part base x words frames p c → Part base x words' frames' p c
Part-rests {base} x words words' frames frames' p c free e h = record {
  layout = h.layout;
  me = h.me;
  below = h.below;
  sender = h.sender;
  limit = h.limit;
  queue = h.queue;
  fits = Fits-rests base words words' frames frames' c c.phase free
      (subst (λ z. SaySame base z frames frames') (sym h.me) e) h.fits;
}

pub part_of : {base : ℕ → ℕ} {E : Type 0} (x : Layout) (words words' : ℕ → ℕ)
    (frames frames' : List Frame) (p : ℕ) (c : Core E) (ph : Phase E) → Part base x words frames p c
    → Fits base words' frames' (record c { phase = ph }) ph
    → Part base x words' frames' p (record c { phase = ph })
part_of x words words' frames frames' p c ph h f = assumption

pub not_busy : (reason : Reason) (q : Pending) → (queue_after reason q).busy ≡ false
not_busy Sent q = refl
not_busy FoundEnd q = refl
not_busy NoRoom q = refl

pub sender_after : (reason : Reason) (q : Pending) → (queue_after reason q).sender ≡ q.sender
sender_after Sent q = refl
sender_after FoundEnd q = refl
sender_after NoRoom q = refl

pub limit_after : (reason : Reason) (q : Pending) → (queue_after reason q).limit ≡ q.limit
limit_after Sent q = refl
limit_after FoundEnd q = refl
limit_after NoRoom q = refl

pub none_short : All IsMessage []
none_short = All-from_recursion IsMessage [] tt

-- the frame was not published
abbrev pub IsUnsent : Reason → Type 0
IsUnsent Sent = ⊥
IsUnsent FoundEnd = Unit {0}
IsUnsent NoRoom = Unit {0}

pub unsent_goes_on : (base : ℕ → ℕ) {E : Type 0} (frames : List Frame) (reason : Reason)
    → IsUnsent reason → (c : Core E) (t : ℕ) → GoesOn base frames c
    → GoesOn base frames (core_at_rest c reason t)
unsent_goes_on base frames Sent u c t g = absurd u
unsent_goes_on base frames FoundEnd u c t g = (g.0, λ gone. (refl, (g.1 gone).1))
unsent_goes_on base frames NoRoom u c t g = g

pub unsent_queue : (reason : Reason) → IsUnsent reason → (q : Pending) → IsKept q
    → IsKept (queue_after reason q)
unsent_queue Sent u q is = absurd u
unsent_queue FoundEnd u q is = grind (arith, common_steps)
unsent_queue NoRoom u q is = assumption

pub unsent_knows : {base : ℕ → ℕ} {E : Type 0} (reason : Reason) → IsUnsent reason
    → (c : Core E) (t : ℕ) (page : Page) (frames : List Frame) (len : ℕ)
    → Knows base page frames t len → Knows base (page_after c t page reason) frames (t + 1) len
unsent_knows Sent u c t page frames len k = absurd u
unsent_knows FoundEnd u c t page frames len k = assumption
unsent_knows NoRoom u c t page frames len k = assumption

-- a page is handed on with the floor that it has
pub floor_after : {E : Type 0} (c : Core E) (t : ℕ) (page : Page) (reason : Reason)
    → (page_after c t page reason).floor ≡ page.floor
floor_after c t page Sent = refl
floor_after c t page FoundEnd = refl
floor_after c t page NoRoom = refl

pub AreOwned-push : (owners : List ℕ) (o : ℕ) (frames : List Frame) → AreOwned owners frames
    → AreOwned (owners ++ o ∷ []) frames
AreOwned-push owners o [] a = tt
AreOwned-push owners o (f ∷ frames) a = (
  push_beside owners o f.tenure
      (let l = slice_get_within owners f.tenure f.owner.0 a.0 in omega arith) ∙ a.0,
  AreOwned-push owners o frames a.1,
)

pub AreOwned-append : (owners : List ℕ) (frames : List Frame) (f : Frame) → AreOwned owners frames
    → slice_get owners f.tenure ≡ Some f.owner.0 → AreOwned owners (frames ++ f ∷ [])
AreOwned-append owners [] f a e = (e, tt)
AreOwned-append owners (g ∷ frames) f a e = (a.0, AreOwned-append owners frames f a.1 e)

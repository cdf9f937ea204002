-- What an event is answered is so.
use Rattle.std.proofs.Common.{◌≡◌, ◌⊎◌, inl, inr, ℕ, ◌-◌, ◌/◌, ◌<◌, ◌≤◌, ◌==◌, nat_le, Bool, true}
use Rattle.std.proofs.Common.{false, cond, Option, Some, None, IsSome, List, [], ◌∷◌, ◌++◌, length}
use Rattle.std.proofs.Common.{slice_get, arith, refl, sym, ◌∙◌, ap, subst}
use Rattle.std.proofs.lemmas.Bool.{leb-true, true≢false}
use Rattle.std.proofs.lemmas.Bool.Decides.{eqb_tells}
use Rattle.std.proofs.lemmas.Grind.{flat_map-append, common_steps}
use Rattle.std.proofs.lemmas.List.{length-append}
use Rattle.bus_batch.specs.Batches.{frame_of, next_of}
use Rattle.bus_batch.specs.Frames.{Frame, AreFrames, log_words}
use Rattle.bus_batch.specs.declared.batches.Phase.{Phase as BatchPhase}
use Rattle.bus_batch.specs.declared.batches.Phase.TheVariants as batch
use Rattle.bus_batch.specs.declared.messages.Mark.{Mark}
use Rattle.bus_batch.specs.declared.messages.Mark.TheVariants as mark
use Rattle.bus_core.proofs.Looking.{closed_at, spent_at}
use Rattle.bus_core.proofs.Reusing.Tells.{Shows, gives_shows}
use Rattle.bus_core.proofs.Situated.{own_is}
use Rattle.bus_core.specs.Reusing.Telling.{HasPublished, Published, HandsOnSent, LacksRoom}
use Rattle.bus_core.specs.Reusing.Telling.{FindsNoRoom, HandsOnFull}
use Rattle.bus_core.specs.Reusing.Turns.{answer_of_loss, answer_of_reclaim}
use Rattle.bus_core.specs.Senders.{Sender, Situation, Does, Announces, Validates, Unpins}
use Rattle.bus_core.specs.Senders.{Withdraws, Scans, Clears, ReadsPassed, pinning}
use Rattle.bus_core.specs.Senders.{situation_by, situation}
use Rattle.bus_core.specs.Reusing.Passing.{passing_left}
use Rattle.bus_core.specs.Table.{lost_of, line, answer_elected}
use Rattle.bus_core.specs.declared.reuses.Reuse.{Reuse}
use Rattle.bus_presence.specs.Reclaimers.{behind_of}
use Rattle.bus_presence.specs.declared.pins.Pin.TheVariants.{Unpinning}
use Rattle.bus_presence.specs.declared.reclaimers.Behind.{Behind}
use Rattle.bus_register.specs.Protocol.{Protocol}
use Rattle.bus_register.specs.Private.TableLaws.{push_here}
use Rattle.bus_register.specs.declared.kinds.Kind.TheVariants as kind
use Rattle.bus_register.specs.declared.registers.SenderNo.{SenderNo}
use Rattle.bus_tenure.proofs.Situated.{tells as tells_phase}
use Rattle.bus_tenure.specs.Core.{Core, Election, Layout, is_marking}
use Rattle.bus_tenure.specs.Situations.{Situation as Own, IsClosed, IsIdle, IsSpent, LooksAtStage}
use Rattle.bus_tenure.specs.Situations.{Elects, TakesPage, AwaitsPage, StoresWord, StoresLength}
use Rattle.bus_tenure.specs.Situations.{GivesBack, HasHanded, waits, answer_sent, answer_of_return}
use Rattle.bus_tenure.specs.Situations.{situation_of}
use Rattle.bus_tenure.specs.declared.pages.Page.{Page}
use Rattle.bus_tenure.specs.declared.phases.Phase.{Phase}
use Rattle.bus_tenure.specs.declared.phases.Phase.TheVariants as phase
use Rattle.bus_tenure.specs.declared.phases.Reason.{Reason}
use Rattle.bus_tenure.specs.declared.phases.Reason.TheVariants.{Sent, FoundEnd, NoRoom}
use Rattle.bus_tenure.specs.declared.turns.Turn.{Turn as Answered}
use Rattle.bus_tenure.specs.declared.turns.Turn.TheVariants as turn
use Rattle.bus_world.proofs.Bounds.{words_low}
use Rattle.bus_world.proofs.CyclicProtocolKept.{held_page_is}
use Rattle.bus_world.proofs.FrameOfBatch.{counted_frame, length-items}
use Rattle.bus_world.proofs.LogLaws.{length-logged}
use Rattle.bus_world.proofs.Stopping.{shown_there}
use Rattle.bus_world.specs.Private.Sending.{Part, Fits}
use Rattle.bus_world.specs.Headline.{Action, HasPut, Stepped, Elected, Took, IsPrefix}
use Rattle.bus_world.specs.Telling.{HasDelivered, HasLeft}
use Rattle.bus_world.specs.World.{Event, Put, Ask, Turn, Recv, Stop, Gone}
use Rattle.bus_world.specs.declared.events.Answer.{Answer}
use Rattle.bus_machine.proofs.Bases.AtNone.{flat_at_none}
use Rattle.bus_machine.proofs.Memory.EachSender.{actions_of_it, added}
use Rattle.bus_machine.proofs.Frames.Ending.{elected_more, ended_of, published_ends, found_ends}
use Rattle.bus_machine.proofs.Frames.Ending.{none_left}
use Rattle.bus_machine.proofs.Tenures.Entering.{phase_tells}
use Rattle.bus_machine.proofs.Frames.Framed.{IsFramed, framed}
use Rattle.bus_machine.proofs.Bases.Leading.{Sits, sits_after}
use Rattle.bus_machine.proofs.Ring.Loaded.{HasLoaded, all_are_found, found_on, gives_loaded}
use Rattle.bus_machine.proofs.Ring.Loaded.{has_loaded, is_least}
use Rattle.bus_machine.proofs.Memory.Losing.{losses}
use Rattle.bus_machine.proofs.Memory.Remembering.{all_recall, done, remembered, saw}
use Rattle.bus_machine.proofs.Onward.StageRises.{reused}
use Rattle.bus_machine.proofs.Frames.Staying.{grown_longer}
use Rattle.bus_machine.specs.Machine.{base_of, Machine, Trails, Reached, Then, Happens, TakesPut}
use Rattle.bus_machine.specs.Machine.{TakesTurn, found, has_stopped, stage_of}
use Rattle.bus_machine.specs.Machine.{trails_grown, turn_answer}
use Rattle.bus_machine.specs.Promise.{pin_of}
use Rattle.bus_machine.specs.Remembering.{NoneIsLeft, Remembers, rows_in}
use Rattle.bus_machine.specs.Telling.{TurnTells, ClosedTells, EventTells}
use Rattle.bus_machine.specs.Finding.{places_found}
use Rattle.bus_machine.specs.Telling.{IsLeast}

-- whose frame is no mark has messages to send
some_messages : (ph : BatchPhase) (n : ℕ) → (0 < n) ⊎ ((m : Mark) × (ph ≡ batch.Marking m))
    → is_marking ph ≡ false → 0 < n
some_messages ph n (inl some) e = some
some_messages ph n (inr marking) e = absurd (true≢false (sym (ap is_marking marking.1) ∙ e))

-- the presence of who parts from a tenure is that tenure's
unpins_it : {E : Type 0} (n : ℕ) (q : Option Reuse) (z : Own E) (t u : ℕ)
    → situation_by n q z ≡ Unpins t
    → pin_of q ≡ Unpinning u → u ≡ t
unpins_it n None z t u i e = absurd (let bad = i in cc)
unpins_it n (Some q) z t u i e =
    let same = sym (ap (λ p. pinning p (passing_left n q.passed) q.reclaimer z) e) ∙ i in cc

-- ---- a turn of sender s
module _ {E : Type 0} (X : Election E) (P : Protocol E (Unit {0}) ℕ) (m m' : Machine E) (T : Trails)
    (s word : ℕ) (a : Answer) (sits : Sits X P m)
    (r : Reached X m T) (h : TakesTurn X m s word a m') where
  abbrev v : Sender E
  v = h.sender

  abbrev c : Core E
  c = v.core

  abbrev U : Trails
  U = trails_grown X m (Turn s word) a T

  abbrev Told : Answered → Type 0
  Told t = TurnTells m T.log s v (U.actions s) t

  -- the sender is there
  at : slice_get m.senders s ≡ Some v
  at = shown_there (has_stopped m s) (slice_get m.senders s) v h.goes

  -- by the frames of the log
  f : IsFramed P m T
  f = framed X P m T sits r

  -- its part of them
  part : Part (base_of m) m.layout f.V f.frames s c
  part = f.sending.parts s c (f.core_of s v at)

  -- what it goes by
  k : Remembers m T.log s v (T.actions s)
  k = remembered X P m T sits r s v at

  -- it has done more
  more : IsPrefix (T.actions s) (U.actions s)
  more = (grown_longer X m T (Turn s word) a).actions s

  -- no tenure is left to whom none is left that it may enter
  spent : c.layout.rows ≤ c.least → NoneIsLeft m s (U.actions s)
  spent past = none_left m s (T.actions s) (U.actions s) more c.least k.past
      (subst (λ (x : Layout). x.rows ≤ c.least) part.layout past)

  -- after a look at the stage
  looked : (b d : Bool) → nat_le c.layout.rows (stage_of m / 2) ≡ d
      → Told (cond b turn.Waiting (cond d turn.Spent turn.Going))
  looked true d i = tt
  looked false true i = grind (arith, common_steps, leb-true, part)
  looked false false i = tt

  -- after a step of an election
  elected : (t : ℕ) (e : E) → situation X v ≡ Does (Elects t e) → (q : Option Reuse) (o : Option ℕ)
      → X.owner (X.fed e (found m (line X v (Does (Elects t e))) word) word) ≡ o
      → Told (answer_elected c q t o)
  elected t e i None None owned = tt
  elected t e i None (Some o) owned = by (o == c.me) (eqb_tells o c.me) where
    by : (b : Bool) → ((b ≡ true) × (o ≡ c.me)) ⊎ ((b ≡ false) × (o ≡ c.me → ⊥))
        → Told (cond b turn.Going (turn.Lost t record { 0 = o }))
    by true how = tt
    by false (inl how) = absurd (true≢false (sym how.0))
    by false (inr how) = (
      saw X P m m' T s word a sits r h (all_recall X P m T sits r) t e i o owned,
      λ same. how.1 (same ∙ sym part.me),
    )
  elected t e i (Some q) o owned = tt

  -- who takes the page was elected
  takes : (t : ℕ) → situation X v ≡ Does (TakesPage t) → Told (turn.Own t)
  takes t i =
      let told = turn_answer m (line X v (Does (TakesPage t))) word in
      let n = found m (line X v (Does (TakesPage t))) word in
      let d = Stepped (Some t) kind.TakePage n None told in
      let took : Took (U.actions s) t (length (T.actions s)) = record {
        found = n;
        chose = None;
        answer = told;
        at = grind (arith, common_steps, slice_get, length, done, all_recall, push_here);
      } in
      let after = framed X P m' U (sits_after X P m m' (Turn s word) a h sits)
      (Then m m' T (Turn s word) a r h) in
      (after.promises.took_own t s (length (T.actions s)) took, (length (T.actions s), took))

  -- its frame is the last
  module _ (t : ℕ) (front : List Frame) (last : f.frames ≡ front ++ frame_of c.queue t ∷ []) where
    its_words : log_words (front ++ frame_of c.queue t ∷ []) ≡ T.log
    its_words = ap log_words (sym last) ∙ f.log_is

    -- it delivers its messages
    delivers : 0 < length c.queue.messages
        → HasDelivered m.layout.senders T.log s t c.queue.first (next_of c.queue - 1)
    delivers some = record {
      earlier = front;
      frame = frame_of c.queue t;
      lawful = subst (AreFrames m.layout.senders) last f.sending.log.lawful;
      words_are = its_words;
      tenure = refl;
      owner = part.sender;
      some = (let size = length-items c.queue t part.queue in omega arith);
      numbers = counted_frame c.queue t;
      many = (let size = length-items c.queue t part.queue in omega arith);
    }

    -- or its leave mark
    leaves : c.queue.phase ≡ batch.Marking mark.Leave → HasLeft m.layout.senders T.log s t
    leaves leaving = grind (arith, common_steps, f, its_words, part)

  -- of whom the page goes back with its frame in the log
  sent : (t : ℕ) (ph : Phase E) → HasPublished t ph → Fits (base_of m) f.V f.frames c ph
      → (q : BatchPhase) → c.queue.phase ≡ q
      → (c.queue.phase ≡ batch.Marking mark.End → Told turn.Closed) → Told (answer_sent c.queue t q)
  sent t ph (Published page stored) fits batch.Open i end =
      delivers t fits.1.front fits.1.frames_are
      (some_messages c.queue.phase (length c.queue.messages) fits.0.something (ap is_marking i))
  sent t ph (Published page stored) fits (batch.Marking mark.End) i end = end i
  sent t ph (Published page stored) fits (batch.Marking mark.Leave) i end =
      leaves t fits.1.front fits.1.frames_are i
  sent t ph (Published page stored) fits batch.Closed i end =
      delivers t fits.1.front fits.1.frames_are
      (some_messages c.queue.phase (length c.queue.messages) fits.0.something (ap is_marking i))
  sent t ph HandsOnSent fits q i end = absurd fits

  -- or with no room for it
  module _ (t : ℕ) (page : Page) (i : situation X v ≡ Does (GivesBack t page NoRoom)) where
    -- a ring has rows that are used again
    ring_reuse : 0 < m.layout.passers → (o : Option Reuse) → v.reuse ≡ o
        → (q : Reuse) × (v.reuse ≡ Some q)
    ring_reuse some None is =
        let none = flat_at_none X m T r (sym (f.rows s v at) ∙ ap rows_in is) in
        absurd (omega arith)
    ring_reuse some (Some q) is = (q, is)

    abbrev handed : List Action
    handed =
        let z = Does (GivesBack t page NoRoom) in
        added z (line X v z) (found m (line X v z) word) word (turn_answer m (line X v z) word)

    has_found : (q : Reuse) → v.reuse ≡ Some q → (stored : ℕ) (published : Bool)
        → c.phase ≡ phase.Holding t page stored published
        → HasLoaded m.layout.passers page q.passed (places_found (U.actions s))
    has_found q is stored published held =
        subst (HasLoaded m.layout.passers page q.passed)
        (sym (found_on [] (T.actions s) handed)
        ∙ ap places_found
        (sym (done X P m m' T s word a sits r h (all_recall X P m T sits r)
        (Does (GivesBack t page NoRoom)) i)))
        (subst (λ (x : Layout). HasLoaded x.passers page q.passed (places_found (T.actions s)))
        part.layout (has_loaded X P m T sits r s v at t page stored published q held is))

    all_done : (q : Reuse) → v.reuse ≡ Some q → m.layout.passers ≤ q.passed.loaded
    all_done q is = subst (λ (x : Layout). x.passers ≤ q.passed.loaded) part.layout
        (gives_loaded X v t page i q is)

  full : (t : ℕ) (page : Page) → situation X v ≡ Does (GivesBack t page NoRoom)
      → (ph : Phase E) → c.phase ≡ ph → LacksRoom c t ph
      → Fits (base_of m) f.V f.frames c ph → Told turn.Full
  full t given i ph is (FindsNoRoom page stored past) fits = record {
    tenure = t;
    page = page;
    stored = stored;
    published = false;
    holds = is;
    flat = λ flat. fits.1.flat (ap (λ (x : Layout). x.passers) part.layout ∙ flat);
    lacks = grind (arith, common_steps, part, length, f, length-logged);
    loaded = λ some.
        let q = ring_reuse t page same some v.reuse refl in
        all_are_found m.layout.passers page q.0.passed (places_found (U.actions s))
        (has_found t page same q.0 q.1 stored false is) (all_done t page same q.0 q.1);
    least = λ some.
        let q = ring_reuse t page same some v.reuse refl in
        let few = words_low m.layout.senders f.frames f.sending.log.lawful in
        subst (λ n. IsLeast page.floor n (places_found (U.actions s))) words_are
        (is_least m.layout.passers page q.0.passed (places_found (U.actions s))
        (has_found t page same q.0 q.1 stored false is) some (all_done t page same q.0 q.1)
        (let e = words_are in let d = ap length f.log_is in omega arith));
  } where
    same : situation X v ≡ Does (GivesBack t page NoRoom)
    same = grind (arith, common_steps, phase_tells, held_page_is)

    words_are : page.words ≡ length T.log
    words_are = grind (arith, common_steps, length, f, length-logged)
  full t given i ph is HandsOnFull fits = absurd fits

  -- of whom the page goes back
  returned : (t : ℕ) (page : Page) (reason : Reason)
      → situation X v ≡ Does (GivesBack t page reason) → Shows c t c.phase reason
      → Told (answer_of_return c.queue t reason)
  returned t page Sent i w = sent t c.phase w part.fits c.queue.phase refl
      (λ i.
      inl (ended_of P m T f (published_ends (base_of m) f.V f.frames c t c.phase w i part.fits)))
  returned t page FoundEnd i w =
      inl (ended_of P m T f (found_ends (base_of m) f.V f.frames c t c.phase w part.fits))
  returned t page NoRoom i w = full t page i c.phase refl w part.fits

  -- whose batch is closed
  closed_told : c.queue.phase ≡ batch.Closed → ClosedTells m T.log s v
  closed_told shut = elim (k.closed shut) [ inl ended ↦ inl ended | inr left ↦ inr (shut, left) ]

  -- who withdraws has seen to whom it lost
  lost : (t : ℕ) → situation X v ≡ Unpins t → (o : Option SenderNo) → lost_of v.reuse ≡ o
      → Told (answer_of_loss t o)
  lost t i None is = tt
  lost t i (Some o) is =
      let w = losses X P m T sits r s v o at is in
      let same = unpins_it v.core.layout.passers v.reuse _ t w.tenure i w.parts in (
        elected_more (T.actions s) (U.actions s) t o.0 more
            (subst (λ u. Elected (T.actions s) u o.0) same w.elected),
        w.other,
      )

  -- only who uses rows again is behind
  behind : (z : Situation E) → situation X v ≡ z → ((y : Own E) → Does y ≡ z → ⊥)
      → (b : Option Behind) → Told (answer_of_reclaim b)
  behind z i other None = tt
  behind z i other (Some b) =
      let again = reused c.layout.passers v.reuse (situation_of X c) z i other in
      subst IsSome (sym (ap rows_in again.1) ∙ f.rows s v at) refl

  -- whatever the turn is
  by_turn : (z : Situation E) → situation X v ≡ z → Told (turn_answer m (line X v z) word)
  by_turn (Does IsClosed) i = closed_told (closed_at X v (own_is X v IsClosed i))
  by_turn (Does IsIdle) i = tt
  by_turn (Does IsSpent) i = spent (spent_at X v (own_is X v IsSpent i))
  by_turn (Does LooksAtStage) i =
      looked (waits c (stage_of m)) (nat_le c.layout.rows (stage_of m / 2)) refl
  by_turn (Does (Elects t e)) i = elected t e i v.reuse
      (X.owner (X.fed e (found m (line X v (Does (Elects t e))) word) word)) refl
  by_turn (Does (TakesPage t)) i = takes t i
  by_turn (Does (AwaitsPage t)) i = tt
  by_turn (Does (StoresWord t page stored)) i = tt
  by_turn (Does (StoresLength t page stored)) i = tt
  by_turn (Does (GivesBack t page reason)) i =
      returned t page reason i
      (gives_shows X c t page reason (own_is X v (GivesBack t page reason) i))
  by_turn (Does (HasHanded t reason)) i =
      absurd (subst (Fits (base_of m) f.V f.frames c)
      (tells_phase X c (HasHanded t reason) (own_is X v (HasHanded t reason) i)) part.fits)
  by_turn (Announces t) i = tt
  by_turn (Validates t) i = tt
  by_turn (Unpins t) i = lost t i (lost_of v.reuse) refl
  by_turn (Withdraws t) i = tt
  by_turn (Scans q) i =
      behind (Scans q) i (λ y e. cc) (behind_of q (found m (line X v (Scans q)) word))
  by_turn (Clears q) i =
      behind (Clears q) i (λ y e. cc) (behind_of q (found m (line X v (Clears q)) word))
  by_turn (ReadsPassed t p) i = tt

  -- so its answer tells what is so
  turn_told : EventTells m T.log (Turn s word) a U
  turn_told = grind (arith, common_steps, by_turn)

-- ---- a put
put_told : {E : Type 0} (X : Election E) (P : Protocol E (Unit {0}) ℕ) (m m' : Machine E)
    (T : Trails) (s : ℕ) (bytes : List ℕ) (a : Answer)
    → Sits X P m → Reached X m T → TakesPut m s bytes a m'
    → EventTells m T.log (Put s bytes) a (trails_grown X m (Put s bytes) a T)
put_told X P m m' T s bytes a sits r h =
    let v = h.sender in
    let n = next_of v.core.queue in
    let ds = HasPut n bytes ∷ [] in
    let at = shown_there (has_stopped m s) (slice_get m.senders s) v h.goes in
    let before = (remembered X P m T sits r s v at).numbers in
    grind (arith, common_steps, actions_of_it, length, flat_map-append, length-append)

-- ---- whatever happens
pub told : {E : Type 0} (X : Election E) (P : Protocol E (Unit {0}) ℕ) (m m' : Machine E)
    (T : Trails) (e : Event) (a : Answer) → Sits X P m
    → Reached X m T → Happens X m e a m' → EventTells m T.log e a (trails_grown X m e a T)
told X P m m' T (Put s bytes) a sits r h = put_told X P m m' T s bytes a sits r h
told X P m m' T (Ask s asked) a sits r h = tt
told X P m m' T (Turn s word) a sits r h = turn_told X P m m' T s word a sits r h
told X P m m' T (Recv q) a sits r h = tt
told X P m m' T (Stop s) a sits r h = tt
told X P m m' T (Gone q) a sits r h = tt

-- A turn of a sender changes what nobody has put: messages go from a batch into the order, and
-- nowhere else.
use Rattle.std.proofs.Common.{◌≡◌, ℕ, ◌+◌, Bool, true, false, cond, ◌==◌, nat_lt, nat_le, Option}
use Rattle.std.proofs.Common.{Some, None, inl, inr, List, [], ◌∷◌, ◌++◌, filter, map, is_some}
use Rattle.std.proofs.Common.{slice_get, slice_index, slice_set, refl, sym, ◌∙◌, ap, arith}
use Rattle.std.proofs.lemmas.Bool.{cases_eq}
use Rattle.std.proofs.lemmas.List.{append-nil, map-append}
use Rattle.std.proofs.lemmas.Option.{slice_get_within}
use Rattle.std.proofs.lemmas.Grind.{common_steps}
use Rattle.bus_register.specs.declared.registers.SenderNo.{SenderNo}
use Rattle.bus_register.specs.Tables.{Beside}
use Rattle.bus_register.specs.Private.TableLaws.{get_set_same, get_set_other}
use Rattle.bus_batch.specs.declared.batches.Phase.{Phase as BatchPhase}
use Rattle.bus_batch.specs.declared.batches.Phase.TheVariants.{Open, Marking, Closed}
use Rattle.bus_batch.specs.declared.messages.Item.{Item}
use Rattle.bus_batch.specs.Messages.{numbered_messages}
use Rattle.bus_batch.specs.Batches.{Pending, IsKept, frame_of, body_of}
use Rattle.bus_batch.specs.Frames.{Frame, order_of, has_gone, items_of, body_items, item_of}
use Rattle.bus_tenure.specs.Core.{Core, Election, Layout, frame_len, has_room}
use Rattle.bus_tenure.specs.Situations.{Situation, LooksAtStage, StoresWord, StoresLength}
use Rattle.bus_tenure.specs.Situations.{GivesBack, situation_at, situation_of, resting, electing}
use Rattle.bus_tenure.specs.Situations.{holding, core_elected, core_at_rest, op_at}
use Rattle.bus_tenure.specs.declared.pages.Page.{Page}
use Rattle.bus_tenure.specs.declared.phases.Reason.{Reason}
use Rattle.bus_tenure.specs.declared.phases.Reason.TheVariants.{Sent, FoundEnd, NoRoom}
use Rattle.bus_tenure.specs.declared.phases.Phase.{Phase}
use Rattle.bus_tenure.specs.declared.phases.Phase.TheVariants as phase
use Rattle.bus_deliverylog.specs.Orders.{of_sender}
use Rattle.bus_world.proofs.LogLaws.{of_sender-append, owned_items, others_items}
use Rattle.bus_world.specs.Private.Sending.{Part, Fits}
use Rattle.bus_world.specs.Private.Machines.{Side, core_after, side_after}
use Rattle.bus_world.specs.Turning.{number_found, core_with_page}
use Rattle.bus_world.proofs.Waiting.{frames_after, waiting_at, waiting_of}

-- the messages of a frame are those of the batch
messages_numbered : (owner : SenderNo) (base : ℕ) (ms : List (List ℕ))
    → map (λ (i : Item). i.message) (map (item_of owner) (numbered_messages base ms)) ≡ ms
messages_numbered owner base [] = refl
messages_numbered owner base (m ∷ ms) = ap (λ z. m ∷ z) (messages_numbered owner (base + 1) ms)

messages_at : (ph : BatchPhase) (q : Pending) → q.phase ≡ ph → IsKept q
    → map (λ (i : Item). i.message) (body_items q.sender (body_of ph q.first q.messages))
    ≡ q.messages
messages_at Open q e is = messages_numbered q.sender q.first q.messages
messages_at (Marking m) q e is = sym (is.alone m e)
messages_at Closed q e is = messages_numbered q.sender q.first q.messages

messages_of_frame : (q : Pending) (t : ℕ) → IsKept q
    → map (λ (i : Item). i.message) (items_of (frame_of q t)) ≡ q.messages
messages_of_frame q t is = messages_at q.phase q refl is

module _ {E : Type 0} where
  waits_same : (b : Bool) (c d : Core E) (ms : List (List ℕ)) → waiting_of (Some c) ≡ ms
      → waiting_of (Some d) ≡ ms → waiting_of (Some (cond b c d)) ≡ ms
  waits_same true c d ms e f = e
  waits_same false c d ms e f = f

  pub elected_waits : (c : Core E) (t : ℕ) (e : E) (o : Option ℕ)
      → waiting_of (Some (core_elected c t e o)) ≡ c.queue.messages
  elected_waits c t e None = refl
  elected_waits c t e (Some o) = grind (arith, common_steps, waits_same)

  pub laid_waits : (c : Core E) (t : ℕ) (home : Option Page)
      → waiting_of (Some (core_with_page c t home)) ≡ c.queue.messages
  laid_waits c t None = refl
  laid_waits c t (Some page) = refl

module _ {E : Type 0} (X : Election E) (senders senders' : ℕ → Option (Core E))
    (frames : List Frame) (p : ℕ) (beside : Beside p senders senders') (c : Core E)
    (old : senders p ≡ Some c) (kept : IsKept c.queue) (sender : c.queue.sender.0 ≡ p) where
  abbrev pub sent_of : List Frame → ℕ → List (List ℕ)
  sent_of fs q = map (λ (i : Item). i.message) (of_sender q (order_of fs))

  -- where the order stays and the batch keeps its messages
  pub stays : (c' : Core E) → senders' p ≡ Some c' → waiting_of (Some c') ≡ waiting_of (Some c)
      → (q : ℕ)
      → sent_of frames q ++ waiting_of (senders' q) ≡ sent_of frames q ++ waiting_of (senders q)
  stays c' new e q = grind (arith, common_steps, cases_eq, waiting_of)

  -- the frame goes into the order, and its messages out of what waits
  pub publish_puts : (t : ℕ) (page : Page) (stored : ℕ)
      → c.phase ≡ phase.Holding t page stored false
      → senders' p ≡ Some (record c { phase = phase.Holding t page stored true })
      → (q : ℕ)
      → sent_of (frames ++ frame_of c.queue t ∷ []) q ++ waiting_of (senders' q)
      ≡ sent_of frames q ++ waiting_of (senders q)
  publish_puts t page stored holds new q = elim (cases_eq q p) [
    | inl i ↦
        let now : waiting_of (senders' q) ≡ [] = ap waiting_of (ap senders' i ∙ new) in
        let before : waiting_of (senders q) ≡ c.queue.messages =
        ap waiting_of (ap senders i ∙ old) ∙ ap (waiting_at c) holds in
        let mine : of_sender q (order_of (frames ++ frame_of c.queue t ∷ []))
        ≡ of_sender q (order_of frames) ++ items_of (frame_of c.queue t) =
        of_sender-append q frames (frame_of c.queue t)
        ∙ ap (λ z.
        of_sender q (order_of frames)
        ++ filter (λ (x : Item). x.sender.0 == z) (items_of (frame_of c.queue t))) (i ∙ sym sender)
        ∙ ap (λ z. of_sender q (order_of frames) ++ z) (owned_items (frame_of c.queue t)) in
        ap (λ z. sent_of (frames ++ frame_of c.queue t ∷ []) q ++ z) now
        ∙ append-nil (sent_of (frames ++ frame_of c.queue t ∷ []) q)
        ∙ ap (map (λ (x : Item). x.message)) mine
        ∙ map-append (λ (x : Item). x.message) (of_sender q (order_of frames))
        (items_of (frame_of c.queue t))
        ∙ ap (λ z. sent_of frames q ++ z) (messages_of_frame c.queue t kept ∙ sym before)
    | inr ne ↦
        ap (λ z. sent_of (frames ++ frame_of c.queue t ∷ []) q ++ z) (ap waiting_of (beside q ne))
        ∙ ap (λ z. map (λ (x : Item). x.message) z ++ waiting_of (senders q))
        (of_sender-append q frames (frame_of c.queue t)
        ∙ ap (λ z. of_sender q (order_of frames) ++ z)
        (others_items q (frame_of c.queue t) (λ i. ne (i ∙ sender)))
        ∙ append-nil (of_sender q (order_of frames)))
  ]

  -- ---- a turn, whose step found this number
  module _ (home : Option Page) (got word : ℕ) where
    abbrev Puts : Situation E → Type 0
    Puts s =
        senders' p ≡ Some (core_after X c s home got word) → (q : ℕ)
        → sent_of (frames_after X c s frames) q ++ waiting_of (senders' q)
        ≡ sent_of frames q ++ waiting_of (senders q)

    -- one of two situations
    choose : (b : Bool) (s u : Situation E) → Puts s → Puts u → Puts (cond b s u)
    choose true s u e f = e
    choose false s u e f = f

    module _ (rests : c.phase ≡ phase.Resting) where
      resting_waits : waiting_of (Some c) ≡ c.queue.messages
      resting_waits = ap (waiting_at c) rests

      looks_puts : Puts LooksAtStage
      looks_puts new =
          grind (arith, common_steps, stays, waits_same, nat_le, resting_waits, waiting_at)

      rest_puts : Puts (resting c)
      rest_puts = grind (arith, common_steps, choose, stays, nat_le, looks_puts)

    module _ (t : ℕ) (e : E) (elects : c.phase ≡ phase.Electing t e) where
      electing_waits : waiting_of (Some c) ≡ c.queue.messages
      electing_waits = ap (waiting_at c) elects

      elect_puts : Puts (electing X t e)
      elect_puts =
          grind (arith, common_steps, is_some, stays, laid_waits, electing_waits, elected_waits)

    module _ (t : ℕ) (page : Page) (stored : ℕ) where
      hold_puts : (published : Bool) → c.phase ≡ phase.Holding t page stored published
          → Puts (holding c t page stored published)
      hold_puts true holds =
          λ new. stays (core_at_rest c Sent t) new (sym (ap (waiting_at c) holds))
      hold_puts false holds =
          let waits_now : waiting_of (Some c) ≡ c.queue.messages = ap (waiting_at c) holds in
          choose page.ended (GivesBack t page FoundEnd) _
          (λ new. stays (core_at_rest c FoundEnd t) new (sym waits_now))
          (choose (has_room c page) (cond (nat_lt stored (frame_len c)) (StoresWord t page stored)
          (StoresLength t page stored)) (GivesBack t page NoRoom)
          (choose (nat_lt stored (frame_len c)) (StoresWord t page stored)
          (StoresLength t page stored) (λ new.
          stays (record c { phase = phase.Holding t page (stored + 1) false }) new (sym waits_now))
          (publish_puts t page stored holds))
          (λ new. stays (core_at_rest c NoRoom t) new (sym waits_now)))

    -- between events no page is on its way home
    module _ (at_rest : (t : ℕ) (reason : Reason) → c.phase ≡ phase.Giving t reason → ⊥) where
      puts_at : (ph : Phase E) → c.phase ≡ ph → Puts (situation_at X c ph)
      puts_at phase.Resting e = rest_puts e
      puts_at (phase.Electing t u) e = elect_puts t u e
      puts_at (phase.Taken t) e = λ new.
          stays (core_with_page c t home) new (laid_waits c t home ∙ sym (ap (waiting_at c) e))
      puts_at (phase.Holding t page stored published) e = hold_puts t page stored published e
      puts_at (phase.Giving t reason) e = absurd (at_rest t reason e)

      pub puts_in_turn : Puts (situation_of X c)
      puts_in_turn = puts_at c.phase refl

-- ---- on lists
module _ {E : Type 0} (X : Election E) (side : Side E) (frames : List Frame) (p : ℕ) (c : Core E)
    (old : slice_get side.senders p ≡ Some c) (kept : IsKept c.queue)
    (sender : c.queue.sender.0 ≡ p) (word : ℕ)
    (at_rest : (t : ℕ) (reason : Reason) → c.phase ≡ phase.Giving t reason → ⊥) where
  abbrev core_now : Core E
  core_now = core_after X c (situation_of X c) side.home
      (number_found (slice_index side.words) (op_at X c (situation_of X c) word)) word

  pub turn_puts : (q : ℕ)
      → map (λ (i : Item). i.message)
      (of_sender q (order_of (frames_after X c (situation_of X c) frames)))
      ++ waiting_of (slice_get (side_after X side p c (situation_of X c) word).senders q)
      ≡ map (λ (i : Item). i.message) (of_sender q (order_of frames))
      ++ waiting_of (slice_get side.senders q)
  turn_puts = puts_in_turn X (slice_get side.senders)
      (slice_get (slice_set side.senders p core_now)) frames p
      (get_set_other side.senders p core_now) c old kept sender side.home
      (number_found (slice_index side.words) (op_at X c (situation_of X c) word)) word at_rest
      (get_set_same side.senders p core_now (slice_get_within side.senders p c old))

-- ---- who has left
module _ {base : ℕ → ℕ} {E : Type 0} (x : Layout) (words : ℕ → ℕ) (frames : List Frame) where
  -- has nothing that waits
  left_nothing : (s : ℕ) (c : Core E) → Part base x words frames s c
      → has_gone s (order_of frames) ≡ true → waiting_of (Some c) ≡ []
  left_nothing s c part gone = by_phase c.phase part.fits
    where
      gone_now : has_gone c.me (order_of frames) ≡ true
      gone_now = ap (λ z. has_gone z (order_of frames)) part.me ∙ gone

      by_phase : (ph : Phase E) → Fits base words frames c ph → waiting_at c ph ≡ []
      by_phase phase.Resting fits = (fits.1.1 gone_now).1
      by_phase (phase.Electing t e) fits = absurd (fits.0.is_open (fits.1.1 gone_now).0)
      by_phase (phase.Taken t) fits = absurd fits
      by_phase (phase.Holding t page stored true) fits = refl
      by_phase (phase.Holding t page stored false) fits =
          absurd (fits.0.is_open (fits.1.goes_on.1 gone_now).0)
      by_phase (phase.Giving t reason) fits = absurd fits

  pub nothing_left : (senders : ℕ → Option (Core E))
      → ((p : ℕ) (c : Core E) → senders p ≡ Some c → Part base x words frames p c) → (s : ℕ)
      → has_gone s (order_of frames) ≡ true → waiting_of (senders s) ≡ []
  nothing_left senders parts s gone = by_option (senders s) refl
    where
      by_option : (o : Option (Core E)) → senders s ≡ o → waiting_of o ≡ []
      by_option None e = refl
      by_option (Some c) e = left_nothing s c (parts s c e) gone

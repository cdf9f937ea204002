-- The end of the order and tenures that are past, by the frames of the log and by trails that have
-- grown.
use Rattle.std.specs.Prelude.{◌||◌}
use Rattle.std.proofs.Common.{◌≡◌, ◌⊎◌, inl, inr, ℕ, zero, suc, ◌<◌, ◌≤◌, true, false, List, []}
use Rattle.std.proofs.Common.{◌∷◌, ◌++◌, map, slice_get, arith, refl, sym, ◌∙◌, ap}
use Rattle.std.proofs.lemmas.Bool.{or_right}
use Rattle.std.proofs.lemmas.List.Folds.{list_any-append}
use Rattle.std.proofs.lemmas.Grind.{common_steps}
use Rattle.bus_batch.specs.Batches.{Pending, frame_of, body_of}
use Rattle.bus_batch.specs.Frames.{Frame, Marked, Order, Spells, ends, leaves, has_end, has_gone}
use Rattle.bus_batch.specs.Frames.{order_of, tenure_and_owner}
use Rattle.bus_batch.specs.declared.batches.Phase.{Phase as BatchPhase}
use Rattle.bus_batch.specs.declared.batches.Phase.TheVariants.{Open, Marking, Closed}
use Rattle.bus_batch.specs.declared.messages.Mark.TheVariants as mark
use Rattle.bus_core.specs.Reusing.Telling.{HasPublished, Published, HandsOnSent, FindsEnd, Ended}
use Rattle.bus_core.specs.Reusing.Telling.{HandsOnEnd}
use Rattle.bus_register.specs.Protocol.{Protocol}
use Rattle.bus_deliverylog.specs.Orders.{IsPrefixOfOrder}
use Rattle.bus_tenure.specs.Core.{Core, is_leaving}
use Rattle.bus_tenure.specs.declared.phases.Phase.{Phase}
use Rattle.bus_tenure.specs.declared.phases.Phase.TheVariants as phase
use Rattle.bus_world.proofs.LogLaws.{gone-append_owner}
use Rattle.bus_world.proofs.Places.{got_before}
use Rattle.bus_world.specs.Private.Sending.{Fits}
use Rattle.bus_world.specs.Headline.{Action, Elected, IsPrefix}
use Rattle.bus_machine.proofs.Frames.Framed.{IsFramed}
use Rattle.bus_machine.proofs.Frames.Staying.{spells_more}
use Rattle.bus_machine.specs.Machine.{Machine, Trails, stage_of}
use Rattle.bus_machine.specs.Remembering.{HasEnded, HasLeftIt, HasLost, IsPastFor, NoneIsLeft}

-- ---- an end mark
-- the last frame ends the order
has_end_last : (fs : List Frame) (f : Frame) → f.body ≡ Marked mark.End
    → has_end (fs ++ f ∷ []) ≡ true
has_end_last [] f e = ap (λ b. ends b || false) e
has_end_last (g ∷ fs) f e = or_right (ends g.body) (has_end (fs ++ f ∷ [])) (has_end_last fs f e)

-- ---- a leave mark
-- of the last frame
pub has_gone_last : (fs : List Frame) (f : Frame) → f.body ≡ Marked mark.Leave
    → has_gone f.owner.0 (order_of (fs ++ f ∷ [])) ≡ true
has_gone_last fs f e = grind (arith, common_steps, gone-append_owner, or_right)

-- of a frame by its batch
leaving_frame : (ph : BatchPhase) (first : ℕ) (messages : List (List ℕ))
    → leaves (body_of ph first messages) ≡ is_leaving ph
leaving_frame Open first messages = refl
leaving_frame (Marking mark.End) first messages = refl
leaving_frame (Marking mark.Leave) first messages = refl
leaving_frame Closed first messages = refl

-- whoever has left with the last frame did so before, or that frame is its leave mark
gone_before : (front : List Frame) (q : Pending) (t : ℕ)
    → has_gone q.sender.0 (order_of (front ++ frame_of q t ∷ [])) ≡ true
    → (has_gone q.sender.0 (order_of front) ≡ true) ⊎ (is_leaving q.phase ≡ true)
gone_before front q t e = grind (arith, common_steps, gone-append_owner, leaving_frame)

module _ (base : ℕ → ℕ) {E : Type 0} (V : ℕ → ℕ) (frames : List Frame) (c : Core E) (t : ℕ) where
  -- its frame is published, and is an end mark
  pub published_ends : (ph : Phase E) → HasPublished t ph → c.queue.phase ≡ Marking mark.End
      → Fits base V frames c ph
      → has_end frames ≡ true
  published_ends ph (Published page stored) closing fits = grind (arith, common_steps, has_end_last)
  published_ends ph HandsOnSent closing fits = absurd fits

  -- or its leave mark
  pub published_leaves : (ph : Phase E) → HasPublished t ph → c.queue.phase ≡ Marking mark.Leave
      → Fits base V frames c ph
      → has_gone c.queue.sender.0 (order_of frames) ≡ true
  published_leaves ph (Published page stored) leaving fits =
      grind (arith, common_steps, has_gone_last)
  published_leaves ph HandsOnSent leaving fits = absurd fits

  -- whoever has left is closed, or has its leave mark published
  pub left_by : (ph : Phase E) → Fits base V frames c ph → c.queue.sender.0 ≡ c.me
      → has_gone c.me (order_of frames) ≡ true
      → (c.queue.phase ≡ Closed) ⊎ ((u : ℕ) × HasPublished u ph × (is_leaving c.queue.phase ≡ true))
  left_by phase.Resting fits mine gone = inl (fits.1.1 gone).0
  left_by (phase.Electing u e) fits mine gone = inl (fits.1.1 gone).0
  left_by (phase.Taken u) fits mine gone = absurd fits
  left_by (phase.Holding u page stored false) fits mine gone = inl (fits.1.goes_on.1 gone).0
  left_by (phase.Holding u page stored true) fits mine gone =
      let w = fits.1 in
      let now : has_gone c.queue.sender.0 (order_of (w.front ++ frame_of c.queue u ∷ [])) ≡ true =
      ap (λ fs. has_gone c.queue.sender.0 (order_of fs)) (sym w.frames_are)
      ∙ ap (λ n. has_gone n (order_of frames)) mine ∙ gone in
      elim (gone_before w.front c.queue u now) [
        | inl before ↦
            inl (w.goes_on.1 (ap (λ n. has_gone n (order_of w.front)) (sym mine) ∙ before)).0
        | inr leaving ↦ inr (u, Published page stored, leaving)
      ]
  left_by (phase.Giving u reason) fits mine gone = absurd fits

  -- its page says that the order has ended
  pub found_ends : (ph : Phase E) → FindsEnd t ph → Fits base V frames c ph → has_end frames ≡ true
  found_ends ph (Ended page stored end) fits = sym fits.1.page_knows.ended ∙ end
  found_ends ph HandsOnEnd fits = absurd fits

-- what was published has ended where its frames have an end
pub ended_of :
    {E : Type 0} (P : Protocol E (Unit {0}) ℕ) (m : Machine E) (T : Trails) (f : IsFramed P m T)
    → has_end f.frames ≡ true
    → HasEnded m T.log
ended_of P m T f e = record {
  order = order_of f.frames;
  owners = map tenure_and_owner f.frames;
  spelled = grind (arith, common_steps);
  ended = e;
}

-- whoever has left by these frames has left in it
pub left_of : {E : Type 0} (P : Protocol E (Unit {0}) ℕ) (m : Machine E) (T : Trails)
    (f : IsFramed P m T) (s : ℕ)
    → has_gone s (order_of f.frames) ≡ true → HasLeftIt m T.log s
left_of P m T f s e = record {
  order = order_of f.frames;
  owners = map tenure_and_owner f.frames;
  spelled = grind (arith, common_steps);
  left = e;
}

-- what it spells once it is extended, of as many senders as before
spelled_now : {E : Type 0} (P : Protocol E (Unit {0}) ℕ) (m m' : Machine E) (T' : Trails)
    → m'.layout ≡ m.layout → (f : IsFramed P m' T')
    → Spells m.layout.senders T'.log (order_of f.frames) (map tenure_and_owner f.frames)
spelled_now P m m' T' layout f = grind (arith, common_steps)

-- an order that has ended stays so, where more is published
pub still_ended : {E : Type 0} (P : Protocol E (Unit {0}) ℕ) (m m' : Machine E) (T T' : Trails)
    → m'.layout ≡ m.layout → IsFramed P m' T'
    → IsPrefix T.log T'.log → HasEnded m T.log → HasEnded m' T'.log
still_ended P m m' T T' layout f grows h =
    let w = spells_more m.layout.senders T.log T'.log h.order (order_of f.frames) h.owners
    (map tenure_and_owner f.frames)
    h.spelled (spelled_now P m m' T' layout f) grows in
    ended_of P m' T' f (ap (λ (o : Order). o.ended) (sym (w.order_grows.ended h.ended)) ∙ h.ended)

-- whoever has left in an order has left in one that it begins
gone_more : (s : ℕ) (order order' : Order) → IsPrefixOfOrder order order' → has_gone s order ≡ true
    → has_gone s order' ≡ true
gone_more s order order' p e = grind (arith, common_steps, list_any-append)

-- so it has left where more is published
pub still_left : {E : Type 0} (P : Protocol E (Unit {0}) ℕ) (m m' : Machine E) (T T' : Trails)
    (s : ℕ) → m'.layout ≡ m.layout → IsFramed P m' T' → IsPrefix T.log T'.log
    → HasLeftIt m T.log s → HasLeftIt m' T'.log s
still_left P m m' T T' s layout f grows h =
    let w = spells_more m.layout.senders T.log T'.log h.order (order_of f.frames) h.owners
    (map tenure_and_owner f.frames)
    h.spelled (spelled_now P m m' T' layout f) grows in
    left_of P m' T' f s (gone_more s h.order (order_of f.frames) w.order_grows h.left)

-- ---- tenures that are past
-- who saw an election end has seen so by more actions
pub elected_more : (D D' : List Action) (t o : ℕ) → IsPrefix D D' → Elected D t o → Elected D' t o
elected_more D D' t o more e = grind (arith, common_steps, slice_get, got_before)

-- a tenure that is lost stays lost
pub lost_more : (stage stage' s : ℕ) (D D' : List Action) (t : ℕ) → stage ≤ stage' → IsPrefix D D'
    → HasLost stage s D t → HasLost stage' s D' t
lost_more stage stage' s D D' t rises more l =
    let low = l.opened in
    record {
      opened = omega arith;
      owner = l.owner;
      elected = elected_more D D' t l.owner more l.elected;
      other = l.other;
    }

-- a tenure that is past stays past
pub past_more : (stage stage' s : ℕ) (D D' : List Action) (t : ℕ) → stage ≤ stage' → IsPrefix D D'
    → IsPastFor stage s D t → IsPastFor stage' s D' t
past_more stage stage' s D D' t rises more (inl ended) = inl (omega arith)
past_more stage stage' s D D' t rises more (inr lost) =
    inr (lost_more stage stage' s D D' t rises more lost)

-- no tenure is left where all of the bus are past
pub none_left : {E : Type 0} (m : Machine E) (s : ℕ) (D D' : List Action) → IsPrefix D D'
    → (least : ℕ)
    → ((t : ℕ) → t < least → IsPastFor (stage_of m) s D t) → m.layout.rows ≤ least
    → NoneIsLeft m s D'
none_left m s D D' more least past few = by m.layout.rows refl where
  by : (n : ℕ) → m.layout.rows ≡ n → NoneIsLeft m s D'
  by zero e = inl (omega arith)
  by (suc n) e = elim (past n (omega arith)) [
    | inl ended ↦ inl (omega arith)
    | inr lost ↦ inr (
      n,
      omega arith,
      lost_more (stage_of m) (stage_of m) s D D' n (omega arith) more lost,
    )
  ]

-- What a receiver was answered is what the first pieces of the log say, and stays so.
use Rattle.std.proofs.Common.{◌≡◌, ℕ, zero, suc, ◌+◌, ◌≤◌, Bool, true, false, cond, ◌==◌, ◌||◌}
use Rattle.std.proofs.Common.{Option, Some, List, [], ◌∷◌, ◌++◌, length, map, take, drop}
use Rattle.std.proofs.Common.{slice_get, arith, refl, sym, ◌∙◌, ap, subst}
use Rattle.std.specs.List.{list_any}
use Rattle.std.proofs.Math.Bool.{or-false}
use Rattle.std.proofs.lemmas.Bool.{or_right}
use Rattle.std.proofs.lemmas.Grind.{flat_map-append, common_steps}
use Rattle.std.proofs.lemmas.List.{append-nil, length-append, take-append-drop}
use Rattle.std.proofs.lemmas.List.{take-append-le, take-take, take_more}
use Rattle.std.proofs.lemmas.Option.{same_Some, slice_get_within, get_or_from_slice_get}
use Rattle.bus_batch.specs.declared.messages.Piece.{Piece}
use Rattle.bus_batch.specs.Frames.{Frame, AreFrames, log_words, log_pieces, order_of}
use Rattle.bus_batch.specs.Frames.{tenure_and_owner, order_in, owners_in, piece_owners}
use Rattle.bus_batch.proofs.PieceLaws.{owners_in-log}
use Rattle.bus_deliverylog.specs.Orders.{IsPrefixOfOrder}
use Rattle.bus_deliverylog.specs.Receiving.{turn_of}
use Rattle.bus_deliverylog.specs.declared.receiving.RecvTurn.{RecvTurn}
use Rattle.bus_deliverylog.specs.declared.receiving.RecvTurn.TheVariants as turn
use Rattle.bus_deliverylog.proofs.PrefixLaws.{taken_begins}
use Rattle.bus_world.specs.Headline.{IsPrefix, entry_heard, end_heard, head_heard, order_given}
use Rattle.bus_world.specs.Headline.{heads}
use Rattle.bus_world.proofs.HearTrails.{more_order, given_more, heads_more, order_more}
use Rattle.bus_world.proofs.HearTrails.{owners_more, entry_told, end_told, head_told}
use Rattle.bus_world.proofs.Places.{got_split}
use Rattle.bus_world.proofs.ReceivingLaws.{length-log_pieces, given_is_prefix}
use Rattle.bus_pageslot.specs.ReceiverViews.{ReceiverView, new_receiver_view, passed_on}
use Rattle.bus_pageslot.specs.ReceiverViews.{left_for_good}
use Rattle.bus_pageslot.specs.ReceiverViews.{receiver_tried, receiver_view_after_load}
use Rattle.bus_pageslot.specs.ReceiverViews.{receiver_view_knowing}
use Rattle.bus_pageslot.specs.ReceiverViews.{heard_length, heard_word, length_turn, IsSilent}
use Rattle.bus_pageslot.specs.ReceiverViews.{HasHeard, Begins, Agree}

-- ---- after the end
end_given : (trail : List RecvTurn) (j : ℕ) → slice_get trail j ≡ Some turn.End
    → (order_given trail).ended ≡ true
end_given [] j e = absurd cc
end_given (x ∷ trail) zero e = ap (λ z. end_heard z || list_any end_heard trail) (same_Some _ _ e)
end_given (x ∷ trail) (suc j) e =
    or_right (end_heard x) (list_any end_heard trail) (end_given trail j e)

-- a trail without the end, and one answer more
silent_more : (trail : List RecvTurn) (answer : RecvTurn) → (order_given trail).ended ≡ false
    → IsSilent (trail ++ answer ∷ [])
silent_more trail answer goes j k a at l here =
    grind (arith, common_steps, got_split, end_given, slice_get_within, length-append)

-- ---- one receiver
module _ (frames : List Frame) where
  pub heard_new : (me : ℕ) → HasHeard frames (new_receiver_view me)
  heard_new me = grind (arith, common_steps)

  module _ (e : ReceiverView) (h : HasHeard frames e) where
    pub heard_loaded : (word : ℕ) → HasHeard frames (receiver_view_after_load e word)
    heard_loaded word = assumption

    pub heard_tried : (word found : ℕ) → HasHeard frames (receiver_tried e word found)
    heard_tried word found = assumption

    pub heard_learnt : (known : List ℕ) → HasHeard frames (receiver_view_knowing e known)
    heard_learnt known = assumption

    -- an answer that tells nothing
    quiet : (known : List ℕ) (answer : RecvTurn) → e.ended ≡ false → entry_heard answer ≡ []
        → end_heard answer ≡ false → head_heard answer ≡ []
        → HasHeard frames (heard_length e known answer)
    quiet known answer going entries ends head =
        grind (arith, given_more, more_order, append-nil, or-false, heads_more, silent_more)

    -- it has passed, which tells nothing
    pub heard_passed : (word : ℕ) → e.ended ≡ false → HasHeard frames (passed_on e word)
    heard_passed word going =
        let q = quiet e.known turn.Going going refl refl refl in
        assumption

    -- or has left
    pub heard_left : (word : ℕ) → HasHeard frames (left_for_good e word)
    heard_left word = assumption

    quiet_if : (b : Bool) (known : List ℕ) → e.ended ≡ false
        → HasHeard frames (heard_length e known (cond b turn.Empty turn.Going))
    quiet_if true known going = quiet known turn.Empty going refl refl refl
    quiet_if false known going = quiet known turn.Going going refl refl refl

    pub heard_quiet : (known : List ℕ) (got : ℕ) → e.ended ≡ false
        → HasHeard frames (heard_length e known (length_turn e.place got))
    heard_quiet known got going = quiet_if (got == e.place) known going

    -- it has the next piece
    pub heard_good : (word : ℕ) (found : Option Piece) → e.ended ≡ false
        → slice_get (log_pieces frames) e.place ≡ Some found
        → HasHeard frames (heard_word e word found (turn_of found))
    heard_good word found going at =
        let all = log_pieces frames in
        let pieces : take (e.place + 1) all ≡ take e.place all ++ found ∷ [] =
        take_more all e.place found (slice_get_within all e.place found at)
        ∙ ap (λ z. take e.place all ++ z ∷ []) (get_or_from_slice_get all e.place found found at) in
        let none : (order_given e.answers).ended ≡ false = sym h.ended_is ∙ going in
        let more = given_more e.answers (turn_of found) in
        record {
          given_is =
              grind (arith, common_steps, more_order, take, entry_told, end_told, order_more);
          heads_are = grind (arith, common_steps, heads_more, take, head_told, owners_more);
          ended_is = grind (arith, common_steps, end_told);
          silent = silent_more e.answers (turn_of found) none;
        }

    -- a log that has grown
    pub heard_later : (more : List Frame) → e.place ≤ length (log_words frames)
        → HasHeard (frames ++ more) e
    heard_later more l =
        grind (arith, common_steps, length-log_pieces, take, flat_map-append, take-append-le)

-- ---- a receiver and the whole order
module _ (n : ℕ) (frames : List Frame) (lawful : AreFrames n frames) where
  pub begins_order : (e : ReceiverView) → HasHeard frames e
      → IsPrefixOfOrder (order_given e.answers) (order_of frames)
  begins_order e h = subst (λ o. IsPrefixOfOrder o (order_of frames)) (sym h.given_is)
      (given_is_prefix n frames e.place lawful)

  pub begins_owners : (e : ReceiverView) → HasHeard frames e
      → IsPrefix (heads e.answers) (map tenure_and_owner frames)
  begins_owners e h =
      let all = log_pieces frames in
      record {
        rest = owners_in (drop e.place all);
        together =
            ap (λ z. z ++ owners_in (drop e.place all)) h.heads_are
            ∙ sym (flat_map-append piece_owners (take e.place all) (drop e.place all))
            ∙ ap owners_in (take-append-drop e.place all) ∙ owners_in-log frames;
      }

  -- ---- two receivers
  begins : (e f : ReceiverView) → HasHeard frames e → HasHeard frames f → e.place ≤ f.place
      → Begins e f
  begins e f h k le =
      let all = log_pieces frames in
      let p = e.place in
      let q = f.place in
      let rest = drop p (take q all) in
      let front : take q all ≡ take p all ++ rest =
      sym (ap (λ z. z ++ rest) (sym (take-take p q all le)) ∙ take-append-drop p (take q all)) in
      record {
        order = subst (λ o. IsPrefixOfOrder o (order_given f.answers)) (sym h.given_is)
            (subst (IsPrefixOfOrder (order_in (take p all))) (sym k.given_is)
            (taken_begins n frames lawful p q le));
        owners = grind (arith, common_steps, flat_map-append, take);
      }

  pub agree : (e f : ReceiverView) → HasHeard frames e → HasHeard frames f → Agree e f
  agree e f h k = record { behind = begins e f h k; ahead = begins f e k h }

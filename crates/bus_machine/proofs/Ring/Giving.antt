-- What the words say of what receivers were given, and what of it still stands.
use Rattle.std.proofs.Common.{◌≡◌, inl, inr, ℕ, ◌+◌, ◌-◌, ◌<◌, Option, Some, List, [], ◌∷◌}
use Rattle.std.proofs.Common.{length, take, drop, slice_get, arith, refl, sym, ◌∙◌, ap, subst}
use Rattle.std.proofs.Math.Seq.{drop-append_seam}
use Rattle.std.proofs.lemmas.Bool.{cases_lt}
use Rattle.std.proofs.lemmas.Grind.{flat_map-append, common_steps}
use Rattle.std.proofs.lemmas.List.{drop-take, length-drop, length-take}
use Rattle.bus_batch.specs.Frames.{Frame, Order, AreFrames, log_words, log_pieces, order_in}
use Rattle.bus_batch.specs.declared.messages.Piece.{Piece}
use Rattle.bus_deliverylog.proofs.PrefixLaws.{taken_begins}
use Rattle.bus_deliverylog.specs.Orders.{IsPrefixOfOrder}
use Rattle.bus_deliverylog.specs.Receiving.{Receiving}
use Rattle.bus_register.specs.Protocol.{Protocol}
use Rattle.bus_world.proofs.PlayingLaws.{one_there}
use Rattle.bus_world.proofs.ReceivingLaws.{length-log_pieces}
use Rattle.bus_world.proofs.Standing.{later_frames}
use Rattle.bus_world.specs.Floors.{IsBoundary}
use Rattle.bus_world.specs.Headline.{order_given}
use Rattle.bus_machine.proofs.Frames.Framed.{IsFramed}
use Rattle.bus_machine.specs.Giving.{AreGivenAlike, GivenRefuse, StillGiven}
use Rattle.bus_machine.specs.Machine.{Machine, Trails, floor_of, log_of}

-- pieces that are none
no_pieces : (pieces : List (Option Piece)) → length pieces ≡ 0 → pieces ≡ []
no_pieces [] none = refl
no_pieces (p ∷ pieces) none = absurd (omega arith)

-- ---- of frames, from where one of them begins
module _ (frames : List Frame) (floor : ℕ) (b : IsBoundary frames floor) where
  -- the words from there on
  rest_words : drop floor (log_words frames) ≡ log_words b.rest
  rest_words = grind (arith, common_steps, drop, flat_map-append, drop-append_seam)

  -- and their pieces
  rest_pieces : drop floor (log_pieces frames) ≡ log_pieces b.rest
  rest_pieces =
      grind (arith, common_steps, drop, flat_map-append, length-log_pieces, drop-append_seam)

  -- up to a place
  still_pieces : (place : ℕ)
      → drop floor (take place (log_pieces frames)) ≡ take (place - floor) (log_pieces b.rest)
  still_pieces place = elim (cases_lt place floor) [
    | inl before ↦ grind (arith, common_steps, length-take, length-drop, take, no_pieces, drop)
    | inr past ↦
        ap (λ k. drop floor (take k (log_pieces frames)))
        (let e : place ≡ floor + (place - floor) = omega arith in e)
        ∙ drop-take floor (place - floor) (log_pieces frames)
        ∙ ap (take (place - floor)) rest_pieces
  ]

-- ---- of a machine
-- what the words that stand say up to the place of a receiver
pub still_given : {E : Type 0} (P : Protocol E (Unit {0}) ℕ) (m : Machine E) (T : Trails)
    → IsFramed P m T → (r : ℕ) → r < length m.receivers → (order : Order)
    → ((v : Receiving) (rest : List Frame) → slice_get m.receivers r ≡ Some v
    → AreFrames m.layout.senders rest → log_of m ≡ log_words rest
    → (order.entries ≡ (order_in (take (v.place - floor_of m) (log_pieces rest))).entries)
    × (order.ended ≡ v.ended))
    → StillGiven m T r order
still_given P m T f r l order says =
    let there = one_there m.receivers r l in
    let b = f.edge in
    let its = says there.0 b.rest there.1
    (later_frames m.layout.senders 0 b.front b.rest
    (subst (AreFrames m.layout.senders) b.frames_are f.sending.log.lawful))
    (f.stands.1 ∙ ap (drop (floor_of m)) (sym f.log_is) ∙ rest_words f.frames (floor_of m) b) in
    grind (arith, still_pieces)

-- ---- of all receivers
pub given_alike : {E : Type 0} (P : Protocol E (Unit {0}) ℕ) (m : Machine E) (T : Trails)
    → IsFramed P m T → AreGivenAlike m T
given_alike P m T f = record {
  frames = f.frames;
  lawful = f.sending.log.lawful;
  words_are = f.log_is;
  given = f.given;
  alike = λ r q v w at there less.
      subst (λ o. IsPrefixOfOrder o (order_given (T.heard q))) (sym (f.given r v at))
      (subst (IsPrefixOfOrder (order_in (take v.place (log_pieces f.frames))))
      (sym (f.given q w there))
      (taken_begins m.layout.senders f.frames f.sending.log.lawful v.place w.place less));
}

pub given_refuse : {E : Type 0} (m : Machine E) (T : Trails) → GivenRefuse m T
given_refuse m T = record {
  unread = λ r v at first some a.
      some (ap (λ (o : Order). o.entries)
      (a.given r v at ∙ ap (λ n. order_in (take n (log_pieces a.frames))) first));
  apart = λ r q v w at there same other a.
      other (a.given r v at ∙ ap (λ n. order_in (take n (log_pieces a.frames))) same
      ∙ sym (a.given q w there));
}

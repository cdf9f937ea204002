-- What was read is a prefix of what the whole log says.
use Rattle.std.proofs.Common.{◌≡◌, ℕ, ◌+◌, ◌⊎◌, List, [], ◌∷◌, ◌++◌, true, false, Option, Some}
use Rattle.std.proofs.Common.{◌≤◌, length, take, drop, refl, sym, ap, ◌∙◌, subst, append-nil, inl}
use Rattle.std.proofs.Common.{inr, arith}
use Rattle.std.specs.Prelude.{◌||◌}
use Rattle.std.specs.List.{flat_map, list_any}
use Rattle.std.proofs.lemmas.Bool.{false≢true, or_parts}
use Rattle.std.proofs.lemmas.List.Concat.{flat_map-append}
use Rattle.std.proofs.lemmas.Grind.{common_steps}
use Rattle.std.proofs.lemmas.List.{length-drop, take-append-drop, take-take, take_all}
use Rattle.std.proofs.lemmas.List.Folds.{list_any-append}
use Rattle.bus_register.specs.declared.registers.SenderNo.{SenderNo}
use Rattle.bus_batch.specs.declared.messages.Mark.TheVariants as mark
use Rattle.bus_batch.specs.declared.messages.Piece.{Piece}
use Rattle.bus_batch.specs.declared.messages.Piece.TheVariants as piece
use Rattle.bus_batch.specs.Frames.{Frame, Body, Messages, Marked, ends, AreFrames, AreFramesFrom}
use Rattle.bus_batch.specs.Frames.{Order, order_of, Spells, order_in, owners_in, piece_entries}
use Rattle.bus_batch.specs.Frames.{piece_owners, is_end, body_pieces, log_pieces}
use Rattle.bus_batch.specs.Reading.{Reading, HasRead}
use Rattle.bus_batch.proofs.PieceLaws.{body_end, order_in-log, owners_in-log}
use Rattle.bus_deliverylog.specs.Orders.{IsPrefixOfOrder}

-- two ways to part a list
pub record Longer {A : Type 0} (xs ys p q : List A) : Type 0 where
  pub middle : List A
  pub first : p ≡ xs ++ middle
  pub second : ys ≡ middle ++ q

pub record Shorter {A : Type 0} (xs ys p q : List A) : Type 0 where
  pub middle : List A
  pub first : xs ≡ p ++ middle

parted : {A : Type 0} (xs ys p q : List A) → xs ++ ys ≡ p ++ q
    → Longer xs ys p q ⊎ Shorter xs ys p q
parted [] ys p q e = inl (record { middle = p; first = refl; second = e })
parted (x ∷ xs) ys [] q e = inr (record { middle = x ∷ xs; first = refl })
parted (x ∷ xs) ys (y ∷ p) q e =
    let first : x ≡ y = cc in
    let rest : xs ++ ys ≡ p ++ q = cc in
    elim (parted xs ys p q rest) [
      | inl l ↦
          inl (record { middle = l.middle; first = (let a = l.first in cc); second = l.second })
      | inr s ↦ inr (record { middle = s.middle; first = (let a = s.first in cc) })
    ]

tail_empty : {A : Type 0} (p q : List A) → [] ≡ p ++ q → (p ≡ []) × (q ≡ [])
tail_empty [] q e = (refl, sym e)
tail_empty (x ∷ p) q e = absurd (cc)

only_end : (p q : List (Option Piece)) → Some piece.End ∷ [] ≡ p ++ q → list_any is_end p ≡ true
    → q ≡ []
only_end [] q e later = absurd (false≢true later)
only_end (y ∷ p) q e later = (tail_empty p q (let t : [] ≡ p ++ q = cc in t)).1

-- behind a frame that is no end mark nothing follows an end, if nothing does in the frames after it
end_behind : (o : SenderNo) (b : Body) (fs : List Frame) (p q : List (Option Piece))
    → ((p' : List (Option Piece)) → log_pieces fs ≡ p' ++ q → list_any is_end p' ≡ true → q ≡ [])
    → ends b ≡ false → body_pieces o b ++ log_pieces fs ≡ p ++ q → list_any is_end p ≡ true → q ≡ []
end_behind o b fs p q others open_body rest later =
    let none : list_any is_end (body_pieces o b) ≡ false = body_end o b ∙ open_body in
    elim (parted (body_pieces o b) (log_pieces fs) p q rest) [
      | inl l ↦ others l.middle l.second
          (sym (ap (λ z. z || list_any is_end l.middle) none)
          ∙ sym (list_any-append is_end (body_pieces o b) l.middle)
          ∙ ap (list_any is_end) (sym l.first) ∙ later)
      | inr s ↦ absurd
          (false≢true
          (sym (or_parts (list_any is_end p) (list_any is_end s.middle)
          (sym (list_any-append is_end p s.middle) ∙ ap (list_any is_end) (sym s.first) ∙ none)).0
          ∙ later))
    ]

-- within a frame nothing follows an end, if nothing does in the frames after it
end_in_body : (o : SenderNo) (b : Body) (fs : List Frame) (p q : List (Option Piece))
    → ((p' : List (Option Piece)) → log_pieces fs ≡ p' ++ q → list_any is_end p' ≡ true → q ≡ [])
    → (b ≡ Marked mark.End → fs ≡ []) → body_pieces o b ++ log_pieces fs ≡ p ++ q
    → list_any is_end p ≡ true → q ≡ []
end_in_body o (Messages ms) fs p q others last rest later =
    end_behind o (Messages ms) fs p q others refl rest later
end_in_body o (Marked mark.Leave) fs p q others last rest later =
    end_behind o (Marked mark.Leave) fs p q others refl rest later
end_in_body o (Marked mark.End) fs p q others last rest later =
    only_end p q (ap (λ z. Some piece.End ∷ log_pieces z) (sym (last refl)) ∙ rest) later

-- nothing follows an end
pub end_last : (senders least : ℕ) (fs : List Frame) (p q : List (Option Piece))
    → AreFramesFrom senders least fs → log_pieces fs ≡ p ++ q → list_any is_end p ≡ true → q ≡ []
end_last senders least [] p q lawful e ended = (tail_empty p q e).1
end_last senders least (f ∷ fs) [] q lawful e ended = absurd (false≢true ended)
end_last senders least (f ∷ fs) (x ∷ p) q lawful e ended =
    let first : Some (piece.Head f.tenure f.owner) ≡ x = cc in
    let rest : body_pieces f.owner f.body ++ log_pieces fs ≡ p ++ q = cc in
    let later : list_any is_end p ≡ true =
    subst (λ z. (is_end z || list_any is_end p) ≡ true) (sym first) ended in
    end_in_body f.owner f.body fs p q
    (λ p' e' l'. end_last senders (f.tenure + 1) fs p' q lawful.3 e' l') lawful.2 rest later

-- the first pieces of a log give a prefix of its order
pub order_in-prefix : (senders : ℕ) (frames : List Frame) (p q : List (Option Piece))
    → AreFrames senders frames → log_pieces frames ≡ p ++ q
    → IsPrefixOfOrder (order_in p) (order_of frames)
order_in-prefix senders frames p q lawful e =
    let order_is : order_of frames ≡ order_in (p ++ q) =
    sym (order_in-log frames) ∙ ap order_in e in
    record {
      later = flat_map piece_entries q;
      entries = ap (λ (z : Order). z.entries) order_is ∙ flat_map-append piece_entries p q;
      ended = λ d.
          let nothing = end_last senders 0 frames p q lawful e d in
          sym (order_is ∙ ap order_in (ap (λ z. p ++ z) nothing ∙ append-nil p));
    }

pub reads_a_prefix : (senders : ℕ) (words rest : List ℕ) (pieces : List (Option Piece))
    (reader : Reading) (order : Order) (owners : List (ℕ × SenderNo))
    → HasRead senders words pieces reader → Spells senders (words ++ rest) order owners
    → IsPrefixOfOrder (order_in pieces) order
    × ((later : List (ℕ × SenderNo)) × (owners ≡ owners_in pieces ++ later))
reads_a_prefix senders words rest pieces reader order owners had s =
    let after = had.covers s.frames rest s.lawful s.words_are in
    let owners_are : owners ≡ owners_in (pieces ++ after.0) =
    sym s.owners_are ∙ sym (owners_in-log s.frames) ∙ ap owners_in after.2 in (
      subst (IsPrefixOfOrder (order_in pieces)) s.order_is
          (order_in-prefix senders s.frames pieces after.0 s.lawful after.2),
      (flat_map piece_owners after.0, owners_are ∙ flat_map-append piece_owners pieces after.0),
    )

-- fewer pieces say a beginning of what more say
pub taken_begins : (senders : ℕ) (frames : List Frame) → AreFrames senders frames → (p q : ℕ)
    → p ≤ q
    → IsPrefixOfOrder (order_in (take p (log_pieces frames)))
    (order_in (take q (log_pieces frames)))
taken_begins senders frames lawful p q less =
    let all = log_pieces frames in
    let rest = drop p (take q all) in
    let front : take q all ≡ take p all ++ rest =
    sym (ap (λ z. z ++ rest) (sym (take-take p q all less)) ∙ take-append-drop p (take q all)) in
    record {
      later = flat_map piece_entries rest;
      entries = grind (arith, common_steps, flat_map-append, take);
      ended = λ over.
          let none : drop p all ≡ [] = end_last senders 0 frames (take p all) (drop p all) lawful
          (sym (take-append-drop p all)) over in
          let size = length-drop p all in
          let nothing = ap length none in
          ap order_in (take_all p all (omega arith) ∙ sym (take_all q all (omega arith)));
    }

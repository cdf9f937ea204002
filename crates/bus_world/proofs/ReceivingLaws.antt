-- What receivers were given is a prefix of the order.
use Rattle.std.proofs.Common.{◌≡◌, ℕ, zero, suc, ◌+◌, ◌<◌, ◌≤◌, Option, List, [], ◌∷◌, ◌++◌}
use Rattle.std.proofs.Common.{length, flat_map, take, drop, slice_index, arith, refl, sym, ◌∙◌, ap}
use Rattle.std.proofs.Common.{subst, append_assoc}
use Rattle.std.proofs.lemmas.Grind.{flat_map-append, common_steps}
use Rattle.std.proofs.lemmas.List.{append-nil, length-append, length-take, take-append-drop}
use Rattle.std.proofs.lemmas.List.{take-append-le, take_at}
use Rattle.bus_register.specs.declared.registers.SenderNo.{SenderNo}
use Rattle.bus_batch.specs.declared.messages.Item.{Item}
use Rattle.bus_batch.specs.declared.messages.Piece.{Piece}
use Rattle.bus_batch.specs.Messages.{Numbered}
use Rattle.bus_batch.specs.declared.messages.Mark.TheVariants as mark
use Rattle.bus_batch.specs.Frames.{BeginsLog, Frame, Body, Messages, Marked, order_of, item_of}
use Rattle.bus_batch.specs.Frames.{AreFrames, log_words, frame_words, log_pieces, frame_pieces}
use Rattle.bus_batch.specs.Frames.{body_pieces, message_pieces, item_pieces, message_words}
use Rattle.bus_batch.specs.Frames.{body_words, data_len}
use Rattle.bus_batch.specs.Reading.{Reading, HasRead}
use Rattle.bus_batch.proofs.WordLaws.{length-words_of_bytes}
use Rattle.bus_deliverylog.specs.Orders.{IsPrefixOfOrder}
use Rattle.bus_deliverylog.proofs.PrefixLaws.{order_in-prefix}
use Rattle.bus_batch.specs.Frames.{order_in}
use Rattle.bus_world.proofs.LogLaws.{log_words-append}
use Rattle.bus_world.specs.Private.Receiving.{Receives}

pub length-item_pieces : (n : ℕ) (item : Item) → length (item_pieces n item) ≡ suc n
length-item_pieces zero item = refl
length-item_pieces (suc n) item = ap suc (length-item_pieces n item)

-- each word has its piece
pub pieces_of_messages : (owner : SenderNo) (ms : List Numbered)
    → length (flat_map (message_pieces owner) ms) ≡ length (flat_map message_words ms)
pieces_of_messages owner [] = refl
pieces_of_messages owner (m ∷ ms) =
    length-append (message_pieces owner m) (flat_map (message_pieces owner) ms)
    ∙ (let a = length-item_pieces (data_len (length m.message)) (item_of owner m) in
    let b = length-words_of_bytes (data_len (length m.message)) m.message in
    let c = pieces_of_messages owner ms in
    let d : length (message_pieces owner m) ≡ length (message_words m) = a ∙ sym (ap suc b) in
    omega arith)
    ∙ sym (length-append (message_words m) (flat_map message_words ms))

pub pieces_of_body : (owner : SenderNo) (b : Body)
    → length (body_pieces owner b) ≡ length (body_words b)
pieces_of_body owner (Messages ms) = pieces_of_messages owner ms
pieces_of_body owner (Marked mark.End) = refl
pieces_of_body owner (Marked mark.Leave) = refl

pub length-log_pieces : (frames : List Frame)
    → length (log_pieces frames) ≡ length (log_words frames)
length-log_pieces [] = refl
length-log_pieces (f ∷ frames) =
    length-append (frame_pieces f) (log_pieces frames)
    ∙ (let a = ap suc (pieces_of_body f.owner f.body) in
    let b = length-log_pieces frames in
    let d : length (frame_pieces f) ≡ length (frame_words f) = a in omega arith)
    ∙ sym (length-append (frame_words f) (log_words frames))

-- what the first pieces of a log gave is a prefix of its order
pub given_is_prefix : (n : ℕ) (frames : List Frame) (k : ℕ) → AreFrames n frames
    → IsPrefixOfOrder (order_in (take k (log_pieces frames))) (order_of frames)
given_is_prefix n frames k lawful = order_in-prefix n frames (take k (log_pieces frames))
    (drop k (log_pieces frames)) lawful (sym (take-append-drop k (log_pieces frames)))

-- frames that come later
log_pieces-append : (frames : List Frame) (f : Frame)
    → log_pieces (frames ++ f ∷ []) ≡ log_pieces frames ++ frame_pieces f
log_pieces-append frames f = grind (arith, common_steps, flat_map-append, append-nil)

pub Receives-append :
    (n : ℕ) (frames : List Frame) (f : Frame) (len len' place known : ℕ) (reading : Reading)
    → length (log_words frames) ≡ len → len ≤ len' → Receives n frames len place known reading
    → Receives n (frames ++ f ∷ []) len' place known reading
Receives-append n frames f len len' place known reading size more h = record {
  place_below = h.place_below;
  known_below = let a = h.known_below in omega arith;
  has_read =
      let within : place ≤ length (log_words frames) =
      let a = h.place_below in let b = h.known_below in omega arith in
      let words =
      ap (take place) (log_words-append frames f)
      ∙ take-append-le place (log_words frames) (frame_words f) within in
      let pieces =
      ap (take place) (log_pieces-append frames f)
      ∙ take-append-le place (log_pieces frames) (frame_pieces f)
      (let z = length-log_pieces frames in omega arith) in
      subst (λ z. HasRead n z (take place (log_pieces (frames ++ f ∷ []))) reading) (sym words)
      (subst (λ z. HasRead n (take place (log_words frames)) z reading) (sym pieces) h.has_read);
}

-- a receiver that has learnt the length
pub Receives-known : (n : ℕ) (frames : List Frame) (len place known : ℕ) (reading : Reading)
    → Receives n frames len place known reading → place ≤ len
    → Receives n frames len place len reading
Receives-known n frames len place known reading h l = grind (arith, common_steps)

-- the next word
pub next_word : (xs : List ℕ) (k w : ℕ) → k < length xs → slice_index xs k ≡ w
    → take k xs ++ w ∷ drop (suc k) xs ≡ xs
next_word [] k w l e = absurd (omega arith)
next_word (x ∷ xs) zero w l e = ap (λ z. z ∷ xs) (sym e)
next_word (x ∷ xs) (suc k) w l e = ap (λ z. x ∷ z) (next_word xs k w (omega arith) e)

module _ (n : ℕ) (frames : List Frame) (len place known : ℕ) (reading : Reading)
    (h : Receives n frames len place known reading) (lawful : AreFrames n frames)
    (size : length (log_words frames) ≡ len) (more : place < known)
    (word : ℕ) (is : slice_index (log_words frames) place ≡ word) where
  split : log_words frames
      ≡ take place (log_words frames) ++ word ∷ drop (suc place) (log_words frames)
  split = sym (next_word (log_words frames) place word (let a = h.known_below in omega arith) is)

  regroup : (xs ys : List ℕ) (w : ℕ) → xs ++ w ∷ ys ≡ (xs ++ w ∷ []) ++ ys
  regroup xs ys w = sym (append_assoc xs (w ∷ []) ys)

  -- the word is good
  pub goes_on : BeginsLog n (take place (log_words frames) ++ word ∷ [])
  goes_on = grind (arith, common_steps, drop, suc, split, regroup, take)

  module _ (found : Option Piece) (reading' : Reading)
      (read : HasRead n (take place (log_words frames) ++ word ∷ [])
      (take place (log_pieces frames) ++ found ∷ []) reading') where
    covered : (further : List (Option Piece))
        × (log_pieces frames ≡ (take place (log_pieces frames) ++ found ∷ []) ++ further)
    covered = grind (arith, common_steps, drop, suc, split, regroup, take)

    enough : place < length (log_pieces frames)
    enough = let a = h.known_below in let b = length-log_pieces frames in omega arith

    words_now : take (place + 1) (log_words frames) ≡ take place (log_words frames) ++ word ∷ []
    words_now = grind (arith, take, split, regroup, drop, suc, take_at, length-append, length-take)

    pieces_now : take (place + 1) (log_pieces frames) ≡ take place (log_pieces frames) ++ found ∷ []
    pieces_now =
        grind (arith, common_steps, take, covered, take_at, length-append, length-take, enough)

    -- what it gives is the piece of that word
    pub Receives-word : Receives n frames len (place + 1) known reading'
    Receives-word = grind (arith, common_steps, take, words_now, pieces_now)

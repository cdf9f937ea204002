-- Messages that fill so many words of a frame: one may be added in front or taken off, and any
-- words can be filled for which there is room.
use Rattle.std.proofs.Common.{◌≡◌, ℕ, zero, suc, ◌+◌, ◌-◌, ◌*◌, ◌/◌, ◌<◌, ◌≤◌, List, [], ◌∷◌, ◌++◌}
use Rattle.std.proofs.Common.{length, replicate, arith, refl, sym, ap, ◌∙◌, subst, append_assoc}
use Rattle.std.proofs.Common.{inl, inr}
use Rattle.std.specs.Prelude.{All, Bool, false, Option, Some, slice_get}
use Rattle.std.specs.List.{flat_map}
use Rattle.std.proofs.Math.ListN.{length-append, length-replicate}
use Rattle.std.proofs.lemmas.Bool.{cases_lt}
use Rattle.std.proofs.lemmas.List.Elements.{All-cons, All-head, All-tail, All-replicate, All-nil}
use Rattle.bus_register.specs.declared.registers.SenderNo.{SenderNo}
use Rattle.bus_batch.specs.declared.messages.Piece.{Piece}
use Rattle.bus_batch.specs.Messages.{Numbered, IsNumbered}
use Rattle.bus_batch.specs.Frames.{Frame, message_word, data_len, words_of_bytes, message_words}
use Rattle.bus_batch.specs.Frames.{message_pieces, log_words, log_pieces}
use Rattle.bus_batch.specs.Reading.{Fills, MayFollow}
use Rattle.bus_batch.proofs.WordLaws.{length-message_words}

-- a message of so many zero bytes
zeros : ℕ → Numbered
zeros n = record { number = 0; message = replicate n 0 }

zeros_numbered : (n : ℕ) → n ≤ 56 → IsNumbered (zeros n)
unfolding zeros
zeros_numbered n h = (
  omega arith,
  (omega (arith, length-replicate {A = ℕ} n 0), All-replicate (λ b. b < 256) n 0 (omega arith)),
)

zeros_words : (n : ℕ) → length (message_words (zeros n)) ≡ 1 + (n + 7) / 8
unfolding zeros
zeros_words n =
    length-message_words (record { number = 0; message = replicate n 0 })
    ∙ ap (λ z. 1 + (z + 7) / 8) (length-replicate {A = ℕ} n 0)

-- so many messages at most, of so many words
pub record Filling (room left : ℕ) : Type 0 where
  pub messages : List Numbered
  pub few : length messages ≤ room
  pub each : All IsNumbered messages
  pub long : length (flat_map message_words messages) ≡ left

none : (room : ℕ) → Filling room 0
none room = record { messages = []; few = omega arith; each = All-nil IsNumbered; long = refl }

one_more : (room left n : ℕ) → n ≤ 56 → Filling room left
    → Filling (suc room) (1 + (n + 7) / 8 + left)
one_more room left n h f = record {
  messages = zeros n ∷ f.messages;
  few = let e = f.few in omega arith;
  each = All-cons IsNumbered (zeros n) f.messages (zeros_numbered n h) f.each;
  long =
      length-append (message_words (zeros n)) (flat_map message_words f.messages)
      ∙ (let a = zeros_words n in let b = f.long in omega arith);
}

pub filling : (room left : ℕ) → left ≤ 8 * room → Filling room left
filling zero left h = let e : 0 ≡ left = omega arith in subst (Filling 0) e (none 0)
filling (suc room) left h = elim (cases_lt left 8) [
  | inl few ↦ elim (cases_lt 0 left) [
    | inl some ↦
        let e : 1 + (8 * (left - 1) + 7) / 8 + 0 ≡ left = omega arith in
        subst (Filling (suc room)) e (one_more room 0 (8 * (left - 1)) (omega arith) (none room))
    | inr nothing ↦ let e : 0 ≡ left = omega arith in subst (Filling (suc room)) e (none (suc room))
  ]
  | inr many ↦
      let e : 1 + (56 + 7) / 8 + (left - 8) ≡ left = omega arith in
      subst (Filling (suc room)) e
      (one_more room (left - 8) 56 (omega arith) (filling room (left - 8) (omega arith)))
]

-- something can follow
pub fills_some : (most senders least : ℕ) (gone : List Bool) (owner : SenderNo) (left room : ℕ)
    → left ≤ 8 * room
    → (rest : List ℕ) × (pieces : List (Option Piece))
    × Fills most senders least gone owner left room rest pieces
fills_some most senders least gone owner left room h =
    let f = filling room left h in (
      flat_map message_words f.messages ++ [],
      flat_map (message_pieces owner) f.messages ++ [],
      record {
        messages = f.messages;
        few = f.few;
        each = f.each;
        long = f.long;
        frames = [];
        lawful = (tt, All-nil (λ f. slice_get gone f.owner.0 ≡ Some false));
        words_are = refl;
        pieces_are = refl;
      },
    )

-- the first of the messages that fill words which begin with this one
pub record First (most senders least : ℕ) (gone : List Bool) (owner : SenderNo) (left room word : ℕ)
    (rest : List ℕ) (pieces : List (Option Piece)) : Type 0 where
  pub message : Numbered
  pub lawful : IsNumbered message
  pub word_is : word ≡ message_word (length message.message) message.number
  pub within : 1 + data_len (length message.message) ≤ left
  pub room_more : 1 ≤ room
  pub rest_after : List ℕ
  pub pieces_after : List (Option Piece)
  pub fills : Fills most senders least gone owner (left - (1 + data_len (length message.message)))
      (room - 1) rest_after pieces_after
  pub words_are : rest
      ≡ words_of_bytes (data_len (length message.message)) message.message ++ rest_after
  pub pieces_are : pieces ≡ message_pieces owner message ++ pieces_after

module _ (most senders least : ℕ) (gone : List Bool) (owner : SenderNo) (left room word : ℕ)
    (rest : List ℕ) (pieces : List (Option Piece)) where
  first_of : (ms : List Numbered) → 1 ≤ left → length ms ≤ room → All IsNumbered ms
      → length (flat_map message_words ms) ≡ left
      → (frames : List Frame) → (f : Fills most senders least gone owner left room
      (word ∷ rest) pieces)
      → f.messages ≡ ms → f.frames ≡ frames
      → First most senders least gone owner left room word rest pieces
  first_of [] some few each long frames f e e' = absurd (omega arith)
  first_of (m ∷ ms) some few each long frames f e e' =
      let words : word ∷ rest ≡ flat_map message_words (m ∷ ms) ++ log_words frames =
      f.words_are ∙ ap (λ z. flat_map message_words z ++ log_words f.frames) e
      ∙ ap (λ z. flat_map message_words (m ∷ ms) ++ log_words z) e' in
      let gives : pieces ≡ flat_map (message_pieces owner) (m ∷ ms) ++ log_pieces frames =
      f.pieces_are ∙ ap (λ z. flat_map (message_pieces owner) z ++ log_pieces f.frames) e
      ∙ ap (λ z. flat_map (message_pieces owner) (m ∷ ms) ++ log_pieces z) e' in
      let held = words_of_bytes (data_len (length m.message)) m.message in
      let shown : word ∷ rest
      ≡ message_word (length m.message) m.number
      ∷ (held ++ (flat_map message_words ms ++ log_words frames)) =
      words ∙ append_assoc (message_words m) (flat_map message_words ms) (log_words frames) in
      let sum : length (message_words m) + length (flat_map message_words ms) ≡ left =
      sym (length-append (message_words m) (flat_map message_words ms)) ∙ long in
      let size = length-message_words m in
      record {
        message = m;
        lawful = All-head IsNumbered m ms each;
        word_is = cc;
        within = omega arith;
        room_more = omega arith;
        rest_after = flat_map message_words ms ++ log_words frames;
        pieces_after = flat_map (message_pieces owner) ms ++ log_pieces frames;
        fills = record {
          messages = ms;
          few = omega arith;
          each = All-tail IsNumbered m ms each;
          long = omega arith;
          frames = frames;
          lawful = subst (λ z. MayFollow most senders least gone z) e' f.lawful;
          words_are = refl;
          pieces_are = refl;
        };
        words_are = cc;
        pieces_are =
            gives
            ∙ append_assoc (message_pieces owner m) (flat_map (message_pieces owner) ms)
            (log_pieces frames);
      }

  pub first : 1 ≤ left → Fills most senders least gone owner left room (word ∷ rest) pieces
      → First most senders least gone owner left room word rest pieces
  first some f = first_of f.messages some f.few f.each f.long f.frames f refl refl

-- one message more in front
pub fills_more : (most senders least : ℕ) (gone : List Bool) (owner : SenderNo) (left room : ℕ)
    (m : Numbered) (rest : List ℕ) (pieces : List (Option Piece))
    → IsNumbered m → 1 + data_len (length m.message) ≤ left → 1 ≤ room
    → Fills most senders least gone owner (left - (1 + data_len (length m.message))) (room - 1) rest
    pieces
    → Fills most senders least gone owner left room (message_words m ++ rest)
    (message_pieces owner m ++ pieces)
fills_more most senders least gone owner left room m rest pieces lawful within some f = record {
  messages = m ∷ f.messages;
  few = let e = f.few in omega arith;
  each = All-cons IsNumbered m f.messages lawful f.each;
  long =
      length-append (message_words m) (flat_map message_words f.messages)
      ∙ (let e = length-message_words m in let e' = f.long in omega arith);
  frames = f.frames;
  lawful = f.lawful;
  words_are =
      ap (λ z. message_words m ++ z) f.words_are
      ∙ sym
      (append_assoc (message_words m) (flat_map message_words f.messages) (log_words f.frames));
  pieces_are =
      ap (λ z. message_pieces owner m ++ z) f.pieces_are
      ∙ sym (append_assoc (message_pieces owner m) (flat_map (message_pieces owner) f.messages)
      (log_pieces f.frames));
}

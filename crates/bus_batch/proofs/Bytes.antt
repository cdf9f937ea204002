-- A word of a message's bytes.
use Rattle.std.proofs.Common.{◌≡◌, ℕ, zero, suc, ◌+◌, ◌-◌, ◌*◌, ◌/◌, ◌^◌, ◌<◌, ◌≤◌, min, List, ◌∷◌}
use Rattle.std.proofs.Common.{◌++◌, length, get_or, take, drop, replicate, arith, refl, sym, ap}
use Rattle.std.proofs.Common.{◌∙◌, subst, inl, inr, append_assoc}
use Rattle.std.specs.Prelude.{All, Bool, Option, Some, None}
use Rattle.std.specs.Int.{w64, to_be_bytes, from_be_bytes, bytes_high_first, byte_at}
use Rattle.std.proofs.lemmas.Nat.{mod_below, be_bytes_8, from_be_bytes-to_be_bytes_8}
use Rattle.std.proofs.lemmas.Bool.{cases_lt}
use Rattle.std.proofs.lemmas.List.{length-take, length-drop, length-append, length-replicate}
use Rattle.std.proofs.lemmas.List.{take-append-drop, take_all, take-take, take_at, drop_at}
use Rattle.std.proofs.lemmas.List.{take-append-le, get_or-take, get_or-drop, get_or-append-add}
use Rattle.std.proofs.lemmas.List.{get_or_append_left, get_or-replicate, ext_get_or}
use Rattle.std.proofs.lemmas.List.Elements.{All-nil, All-cons, All-append, All-take, All-drop}
use Rattle.std.proofs.lemmas.List.Elements.{All-replicate}
use Rattle.std.proofs.lemmas.Grind.{common_steps}
use Rattle.bus_register.specs.declared.registers.SenderNo.{SenderNo}
use Rattle.bus_batch.specs.declared.messages.Piece.{Piece}
use Rattle.bus_batch.specs.declared.messages.Piece.TheVariants as piece
use Rattle.bus_batch.specs.declared.readers.Place.{Place}
use Rattle.bus_batch.specs.declared.readers.Place.TheVariants as place
use Rattle.bus_batch.specs.Frames.{data_word, data_len, words_of_bytes, item_pieces}
use Rattle.bus_batch.specs.Reading.{Awaits, Fills, Completes}
use Rattle.bus_batch.specs.Steps.{IsAfter, Takes, Refuses}
use Rattle.bus_batch.proofs.Bodies.{after_leads, after_covers, after_begins, after_goes_on}
use Rattle.bus_batch.proofs.Bodies.{completes_some}

pub spread_len : (word : ℕ) → length (to_be_bytes w64 word) ≡ 8
spread_len word = refl

small_byte : (k n : ℕ) → byte_at k n < 256
small_byte zero n = omega arith
small_byte (suc k) n = mod_below (n / 256 ^ suc k) 256 (omega arith)

small_bytes : (k n : ℕ) → All (λ b. b < 256) (bytes_high_first k n)
small_bytes zero n = All-nil (λ b. b < 256)
small_bytes (suc k) n =
    All-cons (λ b. b < 256) (byte_at k n) (bytes_high_first k n) (small_byte k n) (small_bytes k n)

pub spread_small : (word : ℕ) → All (λ b. b < 256) (to_be_bytes w64 word)
spread_small word = small_bytes 8 word

pub padded_len : (more : List ℕ) → length (take 8 (more ++ replicate 8 0)) ≡ 8
padded_len more =
    length-take 8 (more ++ replicate 8 0)
    ∙ (let e = length-append more (replicate 8 0) in
    let e' = length-replicate {A = ℕ} 8 0 in omega arith)

padded_small : (more : List ℕ) → All (λ b. b < 256) more
    → All (λ b. b < 256) (take 8 (more ++ replicate 8 0))
padded_small more small = All-take (λ b. b < 256) 8 (more ++ replicate 8 0)
    (All-append (λ b. b < 256) more (replicate 8 0) small
    (All-replicate (λ b. b < 256) 8 0 (omega arith)))

-- the bytes of a data word
pub data_bytes : (more : List ℕ) (word : ℕ) → All (λ b. b < 256) more → word ≡ data_word more
    → to_be_bytes w64 word ≡ take 8 (more ++ replicate 8 0)
unfolding data_word
data_bytes more word small e =
    let few = padded_len more in
    be_bytes_8 (take 8 (more ++ replicate 8 0)) word few
    (λ i. elim (cases_lt i 8) [
      | inl below ↦ padded_small more small i 0 (omega arith)
      | inr above ↦
          let past : get_or (take 8 (more ++ replicate 8 0)) i 0 ≡ 0 =
          grind (arith, common_steps) in
          omega arith
    ]) e

pub data_is : (more : List ℕ) (word : ℕ) → word < 2 ^ 64
    → take 8 (more ++ replicate 8 0) ≡ to_be_bytes w64 word → word ≡ data_word more
unfolding data_word
data_is more word fits e = sym (ap (from_be_bytes w64) e ∙ from_be_bytes-to_be_bytes_8 word fits)

-- the message's own bytes of a data word, and the rest
pub taken : (more : List ℕ) (k : ℕ) → k ≡ min (length more) 8
    → take k (take 8 (more ++ replicate 8 0)) ≡ take 8 more
taken more k is =
    let few : k ≤ 8 = omega arith in
    let own : k ≤ length more = omega arith in
    take-take k 8 (more ++ replicate 8 0) few ∙ take-append-le k more (replicate 8 0) own
    ∙ (elim (cases_lt 8 (length more)) [
      | inl long ↦ let e : k ≡ 8 = omega arith in ap (λ z. take z more) e
      | inr short ↦ take_all k more (omega arith) ∙ sym (take_all 8 more short)
    ])

pub rest_zero : (more : List ℕ) (k : ℕ) → k ≡ min (length more) 8
    → All (λ b. b ≡ 0) (drop k (take 8 (more ++ replicate 8 0)))
rest_zero more k is i d below =
    let size : length (drop k (take 8 (more ++ replicate 8 0))) ≡ 8 - k =
    length-drop k (take 8 (more ++ replicate 8 0)) ∙ ap (λ z. z - k) (padded_len more) in
    let own : k ≡ length more = omega arith in
    let place : k + i < 8 = omega arith in
    get_or-drop k (take 8 (more ++ replicate 8 0)) i d
    ∙ get_or-take 8 (more ++ replicate 8 0) (k + i) d place
    ∙ ap (λ z. get_or (more ++ replicate 8 0) (z + i) d) own
    ∙ get_or-append-add more (replicate 8 0) i d ∙ get_or-replicate 8 i 0 d (omega arith)

-- bytes whose rest is zero, filled again
refilled : (word k : ℕ) → k ≤ 8 → All (λ b. b ≡ 0) (drop k (to_be_bytes w64 word))
    → take 8 (take k (to_be_bytes w64 word) ++ replicate 8 0) ≡ to_be_bytes w64 word
refilled word k few none = ext_get_or 0 (take 8 (take k (to_be_bytes w64 word) ++ replicate 8 0))
    (to_be_bytes w64 word) (padded_len (take k (to_be_bytes w64 word)))
    (λ i below.
    let size : length (take k (to_be_bytes w64 word)) ≡ k =
    length-take k (to_be_bytes w64 word) ∙ (let e = spread_len word in omega arith) in
    let short : i < 8 = let e = padded_len (take k (to_be_bytes w64 word)) in omega arith in
    get_or-take 8 (take k (to_be_bytes w64 word) ++ replicate 8 0) i 0 short
    ∙ (elim (cases_lt i k) [
      | inl own ↦
          get_or_append_left (take k (to_be_bytes w64 word)) (replicate 8 0) 0 i (omega arith)
          ∙ get_or-take k (to_be_bytes w64 word) i 0 own
      | inr past ↦
          ap (λ z. get_or (take k (to_be_bytes w64 word) ++ replicate 8 0) z 0)
          (let e : i ≡ length (take k (to_be_bytes w64 word)) + (i - k) = omega arith in e)
          ∙ get_or-append-add (take k (to_be_bytes w64 word)) (replicate 8 0) (i - k) 0
          ∙ get_or-replicate 8 (i - k) 0 0 (omega arith)
          ∙ sym (ap (λ z. get_or (to_be_bytes w64 word) z 0)
          (let e : i ≡ k + (i - k) = omega arith in e)
          ∙ sym (get_or-drop k (to_be_bytes w64 word) (i - k) 0)
          ∙ none (i - k) 0
          (let e = length-drop k (to_be_bytes w64 word) in let e' = spread_len word in omega arith))
    ]))

-- ---- what a word of bytes does

module _ (most senders least word : ℕ) (gone : List Bool) (owner : SenderNo)
    (left room number len k : ℕ)
    (bytes : List ℕ) (fits : word < 2 ^ 64)
    (unfinished : length bytes < len) (within : data_len (len - length bytes) ≤ left)
    (fillable : left ≤ data_len (len - length bytes) + 8 * room) (few : room < most)
    (k_is : k ≡ min (len - length bytes) 8) where
  -- what a word is that may come
  bytes_of : {rest : List ℕ} {pieces : List (Option Piece)}
      → (c : Completes most senders least gone owner left room number len bytes
      (word ∷ rest) pieces)
      → to_be_bytes w64 word ≡ take 8 (c.more ++ replicate 8 0)
  bytes_of {rest} c = data_bytes c.more word c.each
      (let e : word ∷ rest
      ≡ data_word c.more ∷ (words_of_bytes c.n (drop 8 c.more) ++ c.rest_after) = c.words_are in
      cc)

  more_len : {rest : List ℕ} {pieces : List (Option Piece)}
      → (c : Completes most senders least gone owner left room number len bytes rest pieces)
      → length c.more ≡ len - length bytes
  more_len c = let e = c.together in omega arith

  -- a byte is set that fills the last word
  pub refuses_padding : (All (λ b. b ≡ 0) (drop k (to_be_bytes w64 word)) → ⊥)
      → Refuses (record {
        senders = senders;
        most = most;
        least = least;
        left = gone;
        place = place.Data owner left room number len;
        bytes = bytes;
      }) word
  refuses_padding set rest pieces c = set (subst (λ z. All (λ b. b ≡ 0) (drop k z))
      (sym (bytes_of c)) (rest_zero c.more k (k_is ∙ ap (λ z. min z 8) (sym (more_len c)))))

  module _ (none : All (λ b. b ≡ 0) (drop k (to_be_bytes w64 word))) where
    took_len : length (take k (to_be_bytes w64 word)) ≡ k
    took_len = length-take k (to_be_bytes w64 word) ∙ (let e = spread_len word in omega arith)

    took_small : All (λ b. b < 256) (take k (to_be_bytes w64 word))
    took_small = All-take (λ b. b < 256) k (to_be_bytes w64 word) (spread_small word)

    took_is : {rest : List ℕ} {pieces : List (Option Piece)}
        → (c : Completes most senders least gone owner left room number len bytes
        (word ∷ rest) pieces)
        → take 8 c.more ≡ take k (to_be_bytes w64 word)
    took_is c = sym (ap (λ z. take k z) (bytes_of c)
        ∙ taken c.more k (k_is ∙ ap (λ z. min z 8) (sym (more_len c))))

    -- the message is whole
    module _ (p : Place) (bytes' : List ℕ) (whole : length bytes + k ≡ len)
        (after : IsAfter owner (left - 1) room p) where
      whole_leads : (rest : List ℕ) (pieces : List (Option Piece))
          → Awaits
          (record {
            senders = senders;
            most = most;
            least = least;
            left = gone;
            place = p;
            bytes =
                bytes';
          }) rest
          pieces
          → Completes most senders least gone owner left room number len bytes (word ∷ rest)
          (Some
          (piece.Item (record {
            sender = owner;
            number = number;
            message = bytes ++ take k (to_be_bytes w64 word);
          })) ∷ pieces)
      whole_leads rest pieces a =
          let f =
          after_leads most senders least gone owner (left - 1) room p bytes' after few rest pieces
          a in
          let size = took_len in
          record {
            more = take k (to_be_bytes w64 word);
            together = omega arith;
            each = took_small;
            n = 0;
            n_is = omega arith;
            rest_after = rest;
            pieces_after = pieces;
            fills = f;
            within = omega arith;
            words_are = ap (λ z. z ∷ rest) (data_is (take k (to_be_bytes w64 word)) word fits
                (refilled word k (omega arith) none));
            pieces_are = refl;
          }

      whole_covers : (rest : List ℕ) (pieces : List (Option Piece))
          → Completes most senders least gone owner left room number len bytes (word ∷ rest) pieces
          → (further : List (Option Piece))
          × (pieces
          ≡ Some
          (piece.Item (record {
            sender = owner;
            number = number;
            message = bytes ++ take k (to_be_bytes w64 word);
          })) ∷ further)
          × Awaits
          (record {
            senders = senders;
            most = most;
            least = least;
            left = gone;
            place = p;
            bytes =
                bytes';
          }) rest
          further
      whole_covers rest pieces c =
          let size = more_len c in
          let n_is = c.n_is in
          let n_zero : c.n ≡ 0 = omega arith in
          let more_is : c.more ≡ take k (to_be_bytes w64 word) =
          sym (take_all 8 c.more (omega arith)) ∙ took_is c in
          let words : word ∷ rest ≡ data_word c.more ∷ c.rest_after =
          c.words_are ∙ ap (λ z. words_of_bytes (suc z) c.more ++ c.rest_after) n_zero in
          let rest_is : rest ≡ c.rest_after = cc in
          let gives : pieces
          ≡ Some
          (piece.Item (record {
            sender = owner;
            number = number;
            message = bytes ++ take k (to_be_bytes w64 word);
          })) ∷ c.pieces_after =
          c.pieces_are
          ∙ ap (λ z.
          item_pieces z (record { sender = owner; number = number; message = bytes ++ c.more })
          ++ c.pieces_after) n_zero
          ∙ ap (λ z.
          Some (piece.Item (record { sender = owner; number = number; message = bytes ++ z }))
          ∷ c.pieces_after) more_is in
          let fills : Fills most senders least gone owner (left - 1) room c.rest_after
          c.pieces_after =
          subst
          (λ z. Fills most senders least gone owner (left - suc z) room c.rest_after c.pieces_after)
          n_zero c.fills in (
            c.pieces_after,
            gives,
            after_covers most senders least gone owner (left - 1) room p bytes' after rest
                c.pieces_after
                (subst (λ z. Fills most senders least gone owner (left - 1) room z c.pieces_after)
                (sym rest_is) fills),
          )

      pub takes_last : Takes (record {
        senders = senders;
        most = most;
        least = least;
        left = gone;
        place = place.Data owner left room number len;
        bytes = bytes;
      }) word
          (Some
          (piece.Item (record {
            sender = owner;
            number = number;
            message = bytes ++ take k (to_be_bytes w64 word);
          }))) (record {
            senders = senders;
            most = most;
            least = least;
            left = gone;
            place = p;
            bytes = bytes';
          })
      takes_last = record {
        limit = refl;
        leads = whole_leads;
        covers = whole_covers;
        begins = after_begins most senders least gone owner (left - 1) room p bytes' after
            (omega arith);
        ended = (
          (λ e. absurd (after_goes_on owner (left - 1) room p after e)),
          (λ e. absurd cc),
        );
      }

    -- more bytes are to come
    module _ (unwhole : length bytes + k < len) where
      eight : k ≡ 8
      eight = omega arith

      took_all : take k (to_be_bytes w64 word) ≡ to_be_bytes w64 word
      took_all = take_all k (to_be_bytes w64 word)
          (let e = spread_len word in let e' = eight in omega arith)

      part_leads : (rest : List ℕ) (pieces : List (Option Piece))
          → Completes most senders least gone owner (left - 1) room number len
          (bytes ++ take k (to_be_bytes w64 word)) rest pieces
          → Completes most senders least gone owner left room number len bytes (word ∷ rest)
          (None ∷ pieces)
      part_leads rest pieces c =
          let size = took_len in
          let is_eight = eight in
          let together = c.together in
          let n_is = c.n_is in
          let within = c.within in
          let had : length (bytes ++ take k (to_be_bytes w64 word))
          ≡ length bytes + length (take k (to_be_bytes w64 word)) =
          length-append bytes (take k (to_be_bytes w64 word)) in
          let grown : length (take k (to_be_bytes w64 word) ++ c.more)
          ≡ length (take k (to_be_bytes w64 word)) + length c.more =
          length-append (take k (to_be_bytes w64 word)) c.more in
          let behind : drop 8 (take k (to_be_bytes w64 word) ++ c.more) ≡ c.more =
          drop_at (take k (to_be_bytes w64 word)) c.more 8 (size ∙ is_eight) in
          let spelt : word ≡ data_word (take k (to_be_bytes w64 word) ++ c.more) =
          data_is (take k (to_be_bytes w64 word) ++ c.more) word fits
          (ap (λ z. take 8 z) (append_assoc (take k (to_be_bytes w64 word)) c.more (replicate 8 0))
          ∙ take_at (take k (to_be_bytes w64 word)) (c.more ++ replicate 8 0) 8 (size ∙ is_eight)
          ∙ took_all) in
          record {
            more = take k (to_be_bytes w64 word) ++ c.more;
            together = omega arith;
            each =
                All-append (λ b. b < 256) (take k (to_be_bytes w64 word)) c.more took_small c.each;
            n = suc c.n;
            n_is = omega arith;
            rest_after = c.rest_after;
            pieces_after = c.pieces_after;
            fills =
                let e : (left - 1) - suc c.n ≡ left - suc (suc c.n) = omega arith in
                subst (λ z. Fills most senders least gone owner z room c.rest_after c.pieces_after)
                e
                c.fills;
            within = omega arith;
            words_are =
                ap (λ z. word ∷ z) c.words_are
                ∙ ap (λ z. word ∷ (words_of_bytes (suc c.n) z ++ c.rest_after)) (sym behind)
                ∙ ap (λ z.
                z
                ∷ (words_of_bytes (suc c.n) (drop 8 (take k (to_be_bytes w64 word) ++ c.more))
                ++ c.rest_after)) spelt;
            pieces_are =
                ap (λ z. None ∷ z) c.pieces_are
                ∙ ap (λ z.
                None
                ∷ (item_pieces c.n (record { sender = owner; number = number; message = z })
                ++ c.pieces_after)) (append_assoc bytes (take k (to_be_bytes w64 word)) c.more);
          }

      part_covers : (rest : List ℕ) (pieces : List (Option Piece))
          → Completes most senders least gone owner left room number len bytes (word ∷ rest) pieces
          → (further : List (Option Piece)) × (pieces ≡ None ∷ further)
          × Completes most senders least gone owner (left - 1) room number len
          (bytes ++ take k (to_be_bytes w64 word)) rest further
      part_covers rest pieces c =
          let size = more_len c in
          let is_eight = eight in
          let n_is = c.n_is in
          let within = c.within in
          let n_more : c.n ≡ suc (c.n - 1) = omega arith in
          let took : take 8 c.more ≡ take k (to_be_bytes w64 word) = took_is c in
          let words : word ∷ rest
          ≡ data_word c.more ∷ (words_of_bytes c.n (drop 8 c.more) ++ c.rest_after) = c.words_are in
          let rest_is : rest ≡ words_of_bytes c.n (drop 8 c.more) ++ c.rest_after = cc in
          let item : Option Piece = None in
          let joined : bytes ++ c.more ≡ (bytes ++ take k (to_be_bytes w64 word)) ++ drop 8 c.more =
          ap (λ z. bytes ++ z) (sym (take-append-drop 8 c.more) ∙ ap (λ z. z ++ drop 8 c.more) took)
          ∙ sym (append_assoc bytes (take k (to_be_bytes w64 word)) (drop 8 c.more)) in
          let had : length (bytes ++ take k (to_be_bytes w64 word))
          ≡ length bytes + length (take k (to_be_bytes w64 word)) =
          length-append bytes (take k (to_be_bytes w64 word)) in
          let behind : length (drop 8 c.more) ≡ length c.more - 8 = length-drop 8 c.more in
          let took_size = took_len in
          let fewer : data_len (length (drop 8 c.more)) ≡ suc (c.n - 1) =
          ap data_len behind ∙ (omega arith) in (
            item_pieces (c.n - 1) (record {
              sender = owner;
              number = number;
              message = (bytes ++ take k (to_be_bytes w64 word)) ++ drop 8 c.more;
            }) ++ c.pieces_after,
            c.pieces_are
                ∙ ap (λ z.
                item_pieces z
                (record { sender = owner; number = number; message = bytes ++ c.more })
                ++ c.pieces_after) n_more
                ∙ ap (λ z.
                None
                ∷ (item_pieces (c.n - 1) (record { sender = owner; number = number; message = z })
                ++ c.pieces_after)) joined,
            record {
              more = drop 8 c.more;
              together = omega arith;
              each = All-drop (λ b. b < 256) 8 c.more c.each;
              n = c.n - 1;
              n_is = fewer;
              rest_after = c.rest_after;
              pieces_after = c.pieces_after;
              fills =
                  let e : left - suc c.n ≡ (left - 1) - suc (c.n - 1) = omega arith in
                  subst (λ z. Fills most senders least gone owner z room c.rest_after
                  c.pieces_after) e
                  c.fills;
              within = omega arith;
              words_are =
                  rest_is ∙ ap (λ z. words_of_bytes z (drop 8 c.more) ++ c.rest_after) n_more;
              pieces_are = refl;
            },
          )

      pub takes_part : Takes (record {
        senders = senders;
        most = most;
        least = least;
        left = gone;
        place = place.Data owner left room number len;
        bytes = bytes;
      }) word None (record {
        senders = senders;
        most = most;
        least = least;
        left = gone;
        place = place.Data owner (left - 1) room number len;
        bytes = bytes ++ take k (to_be_bytes w64 word);
      })
      takes_part = record {
        limit = refl;
        leads = part_leads;
        covers = part_covers;
        begins = let size = took_len in let is_eight = eight in
            let had : length (bytes ++ take k (to_be_bytes w64 word))
            ≡ length bytes + length (take k (to_be_bytes w64 word)) =
            length-append bytes (take k (to_be_bytes w64 word)) in
            completes_some most senders least gone owner (left - 1) room number len
            (bytes ++ take k (to_be_bytes w64 word)) (omega arith) (omega arith) (omega arith);
        ended = ((λ e. absurd cc), (λ e. absurd cc));
      }

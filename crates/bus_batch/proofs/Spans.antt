-- The words of one message, read together.
use Rattle.std.proofs.Common.{◌≡◌, ℕ, zero, suc, ◌+◌, ◌-◌, ◌*◌, ◌^◌, ◌<◌, ◌≤◌, min, List, [], ◌∷◌}
use Rattle.std.proofs.Common.{◌++◌, length, take, drop, replicate, arith, refl, sym, ap, ◌∙◌, subst}
use Rattle.std.proofs.Common.{Some, None, append-nil}
use Rattle.std.specs.Prelude.{All, Option}
use Rattle.std.specs.Int.{w64, to_be_bytes}
use Rattle.std.specs.List.{flat_map}
use Rattle.std.proofs.Math.Seq.{take-append-add, drop-append-add}
use Rattle.std.proofs.lemmas.Grind.{flat_map-append}
use Rattle.std.proofs.lemmas.List.{length-append, length-drop, length-take, take-append-drop}
use Rattle.std.proofs.lemmas.List.{drop-append-le, take-take}
use Rattle.std.proofs.lemmas.List.Elements.{All-append, All-replicate}
use Rattle.bus_register.specs.declared.registers.SenderNo.{SenderNo}
use Rattle.bus_batch.specs.declared.messages.Item.{Item}
use Rattle.bus_batch.specs.declared.messages.Piece.{Piece}
use Rattle.bus_batch.specs.declared.messages.Piece.TheVariants as piece
use Rattle.bus_batch.specs.declared.readers.Place.{Place}
use Rattle.bus_batch.specs.declared.readers.Place.TheVariants as place
use Rattle.bus_batch.specs.declared.readers.Span.{Span}
use Rattle.bus_batch.specs.Reading.{Reading, IsSound}
use Rattle.bus_batch.specs.Spans.{IsSpan, LeadsOn, Stops, GoesOnWithin, midway}
use Rattle.bus_batch.specs.Steps.{IsAfter, Takes}
use Rattle.bus_batch.proofs.Bytes.{spread_len, takes_last, refuses_padding}
use Rattle.bus_batch.proofs.Feeding.{gives_piece, has_read, is_bad}
use Rattle.bus_batch.proofs.Padding.{all_zeros}
use Rattle.bus_batch.proofs.Taking.{takes_eight}

-- ---- an item that is cut where its bytes end
pub cut_spared : (a len : ℕ) (xs : List ℕ) → len ≤ a → a ≤ 56 → length xs ≡ 56
    → drop a xs ≡ replicate (56 - a) 0 → All (λ b. b ≡ 0) (drop len (take a xs))
    → drop len xs ≡ replicate (56 - len) 0
cut_spared a len xs within few size spare none =
    let had : length (take a xs) ≡ a = length-take a xs ∙ (omega arith) in
    let split : drop len xs ≡ drop len (take a xs) ++ drop a xs =
    ap (drop len) (sym (take-append-drop a xs))
    ∙ drop-append-le len (take a xs) (drop a xs) (omega arith) in
    let zeros : All (λ b. b ≡ 0) (drop len xs) =
    subst (λ z. All (λ b. b ≡ 0) z) (sym split)
    (All-append (λ b. b ≡ 0) (drop len (take a xs)) (drop a xs) none
    (subst (λ z. All (λ b. b ≡ 0) z) (sym spare) (All-replicate (λ b. b ≡ 0) (56 - a) 0 refl))) in
    all_zeros (drop len xs) zeros
    ∙ ap (λ n. replicate n 0) (length-drop len xs ∙ ap (λ n. n - len) size)

pub cut_is : (a len : ℕ) (xs : List ℕ) → len ≤ a → take len xs ≡ take len (take a xs)
cut_is a len xs within = sym (take-take len a xs within)

-- ---- where a reader stands behind a message
pub after_sound : (most : ℕ) (owner : SenderNo) (left room : ℕ) (p : Place) (bytes : List ℕ)
    → IsAfter owner left room p → bytes ≡ [] → left ≤ 8 * room → room ≤ most
    → IsSound most p bytes
after_sound most owner zero room p bytes after none fillable few =
    subst (λ q. IsSound most q bytes) (sym (after.none refl)) none
after_sound most owner (suc left) room p bytes after none fillable few =
    subst (λ q. IsSound most q bytes) (sym (after.some (omega arith)))
    (none, omega arith, fillable, few)

-- ---- a step that leads on
pub leads_on : (old new : Reading) (word : ℕ) (found : Option Piece) → Takes old word found new
    → (IsSound old.most old.place old.bytes → IsSound new.most new.place new.bytes)
    → LeadsOn old word found new
leads_on old new word found takes sound most words pieces had = (
  gives_piece most old.senders words pieces word old new had found takes,
  has_read most old.senders words pieces word old new had found takes (sound had.sound),
)

pub bytes_long : (taken : List ℕ) → length (flat_map (to_be_bytes w64) taken) ≡ 8 * length taken
bytes_long [] = refl
bytes_long (w ∷ taken) =
    length-append (to_be_bytes w64 w) (flat_map (to_be_bytes w64) taken)
    ∙ (let e = spread_len w in let e' = bytes_long taken in omega arith)

bytes_more : (taken : List ℕ) (word : ℕ)
    → flat_map (to_be_bytes w64) (taken ++ word ∷ [])
    ≡ flat_map (to_be_bytes w64) taken ++ to_be_bytes w64 word
bytes_more taken word =
    flat_map-append (to_be_bytes w64) taken (word ∷ [])
    ∙ ap (λ z. flat_map (to_be_bytes w64) taken ++ z) (append-nil (to_be_bytes w64 word))

module _ (r : Reading) (span : Span) (is : IsSpan r span) where
  -- a word of the bytes that is not the last
  pub goes_on_within : GoesOnWithin r span
  goes_on_within taken word fits more most words pieces had =
      let bytes = flat_map (to_be_bytes w64) taken in
      let size = bytes_long taken in
      let many = is.words in
      let sound = had.sound in
      let here = span.left - (1 + length taken) in
      let left_is : here - 1 ≡ span.left - (1 + length (taken ++ word ∷ [])) =
      let e = length-append taken (word ∷ []) in omega arith in
      let steps = takes_eight r.most r.senders r.least word r.left span.owner here (span.room - 1)
      span.number span.len bytes fits sound.2 sound.3 sound.4 (omega arith) in
      let takes : Takes (midway r span taken) word None (midway r span (taken ++ word ∷ [])) =
      subst (λ z. Takes (midway r span taken) word None (record r {
        place = place.Data span.owner (span.left - (1 + length (taken ++ word ∷ [])))
            (span.room - 1) span.number span.len;
        bytes = z;
      })) (sym (bytes_more taken word))
      (subst (λ z. Takes (midway r span taken) word None (record r {
        place = place.Data span.owner z (span.room - 1) span.number span.len;
        bytes = bytes ++ to_be_bytes w64 word;
      })) left_is steps.good) in
      leads_on (midway r span taken) (midway r span (taken ++ word ∷ [])) word None takes
      (λ s.
      let long = bytes_long (taken ++ word ∷ []) in
      let e = length-append taken (word ∷ []) in (
        omega arith,
        s.1,
        omega arith,
        omega arith,
        s.4,
        omega arith,
      )) most words pieces had

  module _ (taken : List ℕ) (last : ℕ) (all : length taken + 1 ≡ span.words) where
    own : span.len - length (flat_map (to_be_bytes w64) taken)
        ≡ min (span.len - length (flat_map (to_be_bytes w64) taken)) 8
    own = let size = bytes_long taken in let many = is.words in omega arith

    -- what a reader looks at for padding
    pub missing : span.len - length (flat_map (to_be_bytes w64) taken)
        ≡ span.len + 8 - 8 * span.words
    missing = let size = bytes_long taken in let many = is.words in omega arith

    module _ (item : Item) (are : item.message
        ≡ flat_map (to_be_bytes w64) taken ++ to_be_bytes w64 last) where
      pub long_enough : span.len ≤ length item.message
      long_enough =
          let size = bytes_long taken in
          let e = ap (λ (z : List ℕ). length z) are in
          let e' = length-append (flat_map (to_be_bytes w64) taken) (to_be_bytes w64 last) in
          let e'' = spread_len last in
          let many = is.words in
          omega arith

      pub padding_is : drop span.len item.message
          ≡ drop (span.len - length (flat_map (to_be_bytes w64) taken)) (to_be_bytes w64 last)
      padding_is =
          let bytes = flat_map (to_be_bytes w64) taken in
          let size = bytes_long taken in
          let many = is.words in
          let some = is.some in
          ap (drop span.len) are
          ∙ ap (λ n. drop n (bytes ++ to_be_bytes w64 last))
          (let e : span.len ≡ length bytes + (span.len - length bytes) = omega arith in e)
          ∙ drop-append-add bytes (to_be_bytes w64 last) (span.len - length bytes)

    -- the last one
    pub leads_last : last < 2 ^ 64 → (p : Place) (bytes' : List ℕ)
        → All (λ b. b ≡ 0)
        (drop (span.len - length (flat_map (to_be_bytes w64) taken)) (to_be_bytes w64 last))
        → IsAfter span.owner (span.left - (1 + span.words)) (span.room - 1) p
        → IsSound r.most p bytes'
        → LeadsOn (midway r span taken) last
        (Some
        (piece.Item (record {
          sender = span.owner;
          number = span.number;
          message = take span.len (flat_map (to_be_bytes w64) taken ++ to_be_bytes w64 last);
        }))) (record r { place = p; bytes = bytes' })
    leads_last fits p bytes' none after sound most words pieces had =
        let bytes = flat_map (to_be_bytes w64) taken in
        let size = bytes_long taken in
        let s = had.sound in
        let k = span.len - length bytes in
        let message : take span.len (bytes ++ to_be_bytes w64 last)
        ≡ bytes ++ take k (to_be_bytes w64 last) =
        ap (λ n. take n (bytes ++ to_be_bytes w64 last))
        (let e : span.len ≡ length bytes + k = let l = s.0 in omega arith in e)
        ∙ take-append-add bytes (to_be_bytes w64 last) k in
        let takes = takes_last r.most r.senders r.least last r.left span.owner
        (span.left - (1 + length taken)) (span.room - 1) span.number span.len k bytes fits s.0 s.2
        s.3 s.4 own none p bytes' (let l = s.0 in omega arith)
        (subst (λ n. IsAfter span.owner n (span.room - 1) p)
        (let e : span.left - (1 + span.words) ≡ span.left - (1 + length taken) - 1 =
        omega arith in e)
        after) in
        leads_on (midway r span taken) (record r { place = p; bytes = bytes' }) last _
        (subst (λ m. Takes (midway r span taken) last
        (Some
        (piece.Item (record { sender = span.owner; number = span.number; message = m })))
        (record r { place = p; bytes = bytes' })) (sym message) takes)
        (λ _. sound) most words pieces had

    -- or it is padded with a byte
    pub stops_at : last < 2 ^ 64
        → (All (λ b. b ≡ 0)
        (drop (span.len - length (flat_map (to_be_bytes w64) taken)) (to_be_bytes w64 last)) → ⊥)
        → Stops (midway r span taken) last
    stops_at fits set most words pieces had =
        let s = had.sound in
        is_bad most r.senders words pieces last (midway r span taken) (midway r span taken) had
        (refuses_padding r.most r.senders r.least last r.left span.owner (span.left -
        (1 + length taken))
        (span.room - 1) span.number span.len (span.len - length (flat_map (to_be_bytes w64) taken))
        (flat_map (to_be_bytes w64) taken) fits s.0 s.2 s.3 s.4 own set)

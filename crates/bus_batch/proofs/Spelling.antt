-- The messages that words spell.
use Rattle.std.proofs.Common.{◌≡◌, ℕ, zero, suc, ◌+◌, ◌-◌, ◌*◌, ◌^◌, ◌<◌, ◌≤◌, List, [], ◌∷◌}
use Rattle.std.proofs.Common.{◌++◌, length, get_or, take, drop, replicate, arith, refl, sym, ap}
use Rattle.std.proofs.Common.{◌∙◌, inl, inr, subst}
use Rattle.std.specs.Prelude.{All}
use Rattle.std.specs.Int.{w64, to_be_bytes, from_be_bytes}
use Rattle.std.specs.List.{flat_map}
use Rattle.std.proofs.Math.Seq.{take-append-add, drop-append_seam, drop-cons}
use Rattle.std.proofs.lemmas.Bool.{cases_lt}
use Rattle.std.proofs.lemmas.List.{length-append, length-drop, take-append-drop, take-append-le}
use Rattle.std.proofs.lemmas.List.{take_all, take-take, take-replicate, length-take, append_assoc}
use Rattle.std.proofs.lemmas.List.Elements.{All-nil, All-cons, All-head, All-tail, All-append}
use Rattle.std.proofs.lemmas.List.Elements.{All-drop}
use Rattle.bus_batch.specs.Messages.{IsMessage, numbered_messages}
use Rattle.bus_batch.specs.Frames.{message_word, message_words, data_word, data_len, words_of_bytes}
use Rattle.bus_batch.specs.Batches.{Pending, IsKept, len_told, spelled}
use Rattle.bus_batch.proofs.WordLaws.{length-words_of_bytes}
use Rattle.bus_batch.proofs.Bytes.{spread_len, data_bytes, padded_len, taken}
use Rattle.bus_batch.proofs.Batching.{words_put, words_next}

-- the bytes that words spell, read back
bytes_back : (n : ℕ) (m rest : List ℕ) → All (λ b. b < 256) m → length m ≤ 8 * n
    → take (length m) (flat_map (to_be_bytes w64) (words_of_bytes n m ++ rest)) ≡ m
bytes_back zero [] rest small few = refl
bytes_back zero (x ∷ m) rest small few = absurd (omega arith)
bytes_back (suc n) m rest small few =
    let eight = take 8 (m ++ replicate 8 0) in
    let later = flat_map (to_be_bytes w64) (words_of_bytes n (drop 8 m) ++ rest) in
    let size : length eight ≡ 8 = padded_len m in
    let left : length (drop 8 m) ≡ length m - 8 = length-drop 8 m in
    ap (λ z. take (length m) (z ++ later)) (data_bytes m (data_word m) small refl)
    ∙ (elim (cases_lt 8 (length m)) [
      | inl long ↦
          ap (λ z. take z (eight ++ later))
          (let e : length m ≡ length eight + length (drop 8 m) = omega arith in e)
          ∙ take-append-add eight later (length (drop 8 m))
          ∙ ap (λ z. eight ++ z) (bytes_back n (drop 8 m) rest
          (All-drop (λ b. b < 256) 8 m small) (omega arith))
          ∙ ap (λ z. z ++ drop 8 m)
          (sym (take_all 8 eight (omega arith)) ∙ taken m 8 (omega arith))
          ∙ take-append-drop 8 m
      | inr short ↦
          take-append-le (length m) eight later (omega arith) ∙ taken m (length m) (omega arith)
          ∙ take_all 8 m short
    ])

-- some bytes of one word more
pub bytes_more : (i own : ℕ) (words : List ℕ) → i < length words → own ≤ 8
    → take (8 * i + own) (flat_map (to_be_bytes w64) words)
    ≡ take (8 * i) (flat_map (to_be_bytes w64) words)
    ++ take own (to_be_bytes w64 (get_or words i 0))
bytes_more i own [] below few = absurd (omega arith)
bytes_more zero own (w ∷ words) below few =
    ap (λ z. take z (to_be_bytes w64 w ++ flat_map (to_be_bytes w64) words))
    (let e : 8 * 0 + own ≡ own = omega arith in e)
    ∙ take-append-le own (to_be_bytes w64 w) (flat_map (to_be_bytes w64) words)
    (let e = spread_len w in omega arith)
bytes_more (suc i) own (w ∷ words) below few =
    let front = to_be_bytes w64 w in
    let later = flat_map (to_be_bytes w64) words in
    let size : length front ≡ 8 = spread_len w in
    ap (λ z. take z (front ++ later))
    (let e : 8 * suc i + own ≡ length front + (8 * i + own) = omega arith in e)
    ∙ take-append-add front later (8 * i + own)
    ∙ ap (λ z. front ++ z) (bytes_more i own words (omega arith) few)
    ∙ sym (append_assoc front (take (8 * i) later) (take own (to_be_bytes w64 (get_or words i 0))))
    ∙ ap (λ z. z ++ take own (to_be_bytes w64 (get_or words i 0)))
    (sym (take-append-add front later (8 * i))
    ∙ ap (λ z. take z (front ++ later))
    (let e : length front + 8 * i ≡ 8 * suc i = omega arith in e))

-- a message word, the bytes behind it, and what stands behind these
pub told : (len number : ℕ) → number < 2 ^ 48 → len_told (message_word len number) ≡ len
told len number below = omega arith

pub bytes_told : (m rest : List ℕ) → IsMessage m
    → take (length m) (flat_map (to_be_bytes w64)
    (words_of_bytes (data_len (length m)) m ++ rest)) ≡ m
bytes_told m rest is = bytes_back (data_len (length m)) m rest is.1 (omega arith)

pub past_told : (m rest : List ℕ)
    → drop (data_len (length m)) (words_of_bytes (data_len (length m)) m ++ rest) ≡ rest
past_told m rest =
    let words = words_of_bytes (data_len (length m)) m in
    ap (λ z. drop z (words ++ rest)) (sym (length-words_of_bytes (data_len (length m)) m))
    ∙ drop-append_seam words rest

-- the words of messages spell them
pub spelled_all : (first : ℕ) (ms : List (List ℕ)) → All IsMessage ms → first + length ms ≤ 2 ^ 48
    → spelled (length ms) (flat_map message_words (numbered_messages first ms)) ≡ ms
spelled_all first [] each fits = refl
spelled_all first (m ∷ ms) each fits =
    let rest = flat_map message_words (numbered_messages (first + 1) ms) in
    let words = words_of_bytes (data_len (length m)) m ++ rest in
    let len = told (length m) first (omega arith) in
    ap (λ z.
    take z (flat_map (to_be_bytes w64) words) ∷ spelled (length ms) (drop (data_len z) words)) len
    ∙ ap (λ z. z ∷ spelled (length ms) (drop (data_len (length m)) words))
    (bytes_told m rest (All-head IsMessage m ms each))
    ∙ ap (λ z. m ∷ spelled (length ms) z) (past_told m rest)
    ∙ ap (λ z. m ∷ z) (spelled_all (first + 1) ms (All-tail IsMessage m ms each) (omega arith))

-- what more words spell: one message more
pub spelled_put : (first count : ℕ) (body m : List ℕ) → All IsMessage (spelled count body)
    → length (spelled count body) ≡ count
    → body ≡ flat_map message_words (numbered_messages first (spelled count body))
    → first + count < 2 ^ 48 → IsMessage m
    → spelled (count + 1) (body ++ message_words (record { number = first + count; message = m }))
    ≡ spelled count body ++ m ∷ []
spelled_put first count body m each many is fits one =
    let ms = spelled count body in
    let long : length (ms ++ m ∷ []) ≡ length ms + 1 = length-append ms (m ∷ []) in
    let words : body ++ message_words (record { number = first + count; message = m })
    ≡ flat_map message_words (numbered_messages first (ms ++ m ∷ [])) =
    ap (λ z. z ++ message_words (record { number = first + count; message = m })) is
    ∙ ap (λ z.
    flat_map message_words (numbered_messages first ms)
    ++ message_words (record { number = first + z; message = m })) (sym many)
    ∙ sym (words_put first ms m) in
    ap (λ z. spelled (count + 1) z) words
    ∙ ap (λ z. spelled z (flat_map message_words (numbered_messages first (ms ++ m ∷ []))))
    (let e : count + 1 ≡ length (ms ++ m ∷ []) = omega arith in e)
    ∙ spelled_all first (ms ++ m ∷ [])
    (All-append IsMessage ms (m ∷ []) each (All-cons IsMessage m [] one (All-nil IsMessage)))
    (omega arith)

-- the words of a message, and then others
pub record Begins (words m : List ℕ) (number : ℕ) (rest : List ℕ) : Type 0 where
  pub first : get_or words 0 0 ≡ message_word (length m) number
  pub short : length m ≤ 56
  pub below : number < 2 ^ 48
  pub size : length words ≡ 1 + (data_len (length m) + length rest)
  pub bytes : take (length m) (flat_map (to_be_bytes w64) (drop 1 words)) ≡ m
  pub behind : drop (1 + data_len (length m)) words ≡ rest

-- those of a batch's message at i, and of the messages after it
pub begins : (v b : Pending) (count i : ℕ) (words : List ℕ) → v ≡ b → IsKept v
    → length v.messages ≡ count → i < count
    → words ≡ flat_map message_words (numbered_messages (b.first + i) (drop i b.messages))
    → Begins words (get_or b.messages i []) (b.first + i)
    (flat_map message_words (numbered_messages (b.first + (i + 1)) (drop (i + 1) b.messages)))
begins v b count i words is kept many below are =
    let ms = b.messages in
    let m = get_or ms i [] in
    let own = words_of_bytes (data_len (length m)) m in
    let all = subst IsKept is kept in
    let same = ap (λ (s : Pending). length s.messages) is in
    let within : i < length ms = omega arith in
    let one : IsMessage m = all.each i [] within in
    let rest =
    flat_map message_words (numbered_messages (b.first + (i + 1)) (drop (i + 1) ms)) in
    let parts : words ≡ message_word (length m) (b.first + i) ∷ (own ++ rest) =
    are
    ∙ ap (λ z. flat_map message_words (numbered_messages (b.first + i) z))
    (drop-cons ms i [] within)
    ∙ ap (λ z.
    message_word (length m) (b.first + i)
    ∷ (own ++ flat_map message_words (numbered_messages (b.first + i + 1) (drop z ms))))
    (let e : suc i ≡ i + 1 = omega arith in e)
    ∙ ap (λ z.
    message_word (length m) (b.first + i)
    ∷ (own ++ flat_map message_words (numbered_messages z (drop (i + 1) ms))))
    (let e : b.first + i + 1 ≡ b.first + (i + 1) = omega arith in e) in
    record {
      first = ap (λ z. get_or z 0 0) parts;
      short = one.0;
      below = let fits = all.numbers in omega arith;
      size = let long = ap (λ z. length z) parts in let e = length-append own rest in
          let e' = length-words_of_bytes (data_len (length m)) m in omega arith;
      bytes = ap (λ z. take (length m) (flat_map (to_be_bytes w64) (drop 1 z))) parts
          ∙ bytes_told m rest one;
      behind = ap (λ z. drop (1 + data_len (length m)) z) parts
          ∙ ap (λ z. drop z (message_word (length m) (b.first + i) ∷ (own ++ rest)))
          (let e : 1 + data_len (length m) ≡ suc (data_len (length m)) = omega arith in e)
          ∙ past_told m rest;
    }

-- ---- words of at most eight bytes

filled : (n m : ℕ) (bytes : List ℕ) → length bytes ≤ n → n ≤ m
    → bytes ++ drop (length bytes) (replicate n 0) ≡ take n (bytes ++ replicate m 0)
filled n m [] few more = sym (take-replicate n m 0 more)
filled zero m (x ∷ bytes) few more = absurd (omega arith)
filled (suc n) m (x ∷ bytes) few more =
    ap (λ z. x ∷ z) (filled n m bytes (omega arith) (omega arith))

-- at most eight bytes in the front of eight zero bytes
pub word_filled : (bytes : List ℕ) → length bytes ≤ 8
    → from_be_bytes w64 (bytes ++ drop (length bytes) (replicate 8 0)) ≡ data_word bytes
unfolding data_word
word_filled bytes few = ap (from_be_bytes w64) (filled 8 8 bytes few (omega arith))

-- the first eight bytes make the same word as all
pub first_eight : (bytes : List ℕ) → 8 ≤ length bytes → data_word (take 8 bytes) ≡ data_word bytes
unfolding data_word
first_eight bytes many =
    let size : length (take 8 bytes) ≡ 8 = length-take 8 bytes ∙ (omega arith) in
    ap (from_be_bytes w64) (take-append-le 8 (take 8 bytes) (replicate 8 0) (omega arith)
    ∙ take-take 8 8 bytes (omega arith) ∙ sym (take-append-le 8 bytes (replicate 8 0) many))

-- one data word more behind others
pub word_pushed : (begun bytes before after : List ℕ) (i word : ℕ)
    → before ≡ begun ++ words_of_bytes i bytes → after ≡ before ++ word ∷ []
    → word ≡ data_word (drop (8 * i) bytes) → after ≡ begun ++ words_of_bytes (i + 1) bytes
word_pushed begun bytes before after i word own pushed is =
    pushed ∙ ap (λ z. z ++ word ∷ []) own
    ∙ ap (λ z. (begun ++ words_of_bytes i bytes) ++ z ∷ []) is
    ∙ append_assoc begun (words_of_bytes i bytes) (data_word (drop (8 * i) bytes) ∷ [])
    ∙ ap (λ z. begun ++ z) (sym (words_next i bytes))
    ∙ ap (λ z. begun ++ words_of_bytes z bytes) (let e : suc i ≡ i + 1 = omega arith in e)

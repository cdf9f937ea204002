-- Words as bytes, and checksums.
use Rattle.std.proofs.Common.{◌≡◌, ◌≢◌, ℕ, zero, suc, ◌+◌, ◌*◌, ◌/◌, ◌^◌, ◌<◌, ◌≤◌, List, [], ◌∷◌}
use Rattle.std.proofs.Common.{◌++◌, length, get_or, take, All, refl, sym, ap, ◌∙◌, arith}
use Rattle.std.specs.Prelude.{replicate}
use Rattle.std.specs.Int.{w64, from_be_bytes}
use Rattle.std.proofs.Common.{inl, inr, drop}
use Rattle.std.proofs.lemmas.Nat.{be_bytes_8, from_be_bytes-to_be_bytes_8}
use Rattle.std.proofs.lemmas.Bool.{cases_lt}
use Rattle.std.proofs.lemmas.List.{length-append, length-take, get_or_push, get_or-take}
use Rattle.std.proofs.lemmas.List.{get_or_past, take-append-drop, append-nil, append_assoc}
use Rattle.std.proofs.lemmas.List.Elements.{All-head, All-tail}
use Rattle.sha2.specs.Sha256.{sha256, digest_bytes, final_hash, initial_hash_256}
use Rattle.bus_journal.specs.Format.{word_bytes, words_bytes, checksum}

-- two joined lists whose first parts are as long
pub same_parts : {A : Type 0} (xs ys us vs : List A) → length xs ≡ length ys → xs ++ us ≡ ys ++ vs
    → (xs ≡ ys) × (us ≡ vs)
same_parts [] [] us vs n e = (refl, e)
same_parts [] (y ∷ ys) us vs n e = absurd (omega arith)
same_parts (x ∷ xs) [] us vs n e = absurd (omega arith)
same_parts (x ∷ xs) (y ∷ ys) us vs n e =
    let first : x ≡ y = cc in
    let rest : xs ++ us ≡ ys ++ vs = cc in
    let s = same_parts xs ys us vs (omega arith) rest in
    ((let a = s.0 in cc), s.1)

-- ---- words

pub length-word : (word : ℕ) → length (word_bytes word) ≡ 8
unfolding word_bytes
length-word word = refl

pub same_word : (v w : ℕ) → v < 2 ^ 64 → w < 2 ^ 64 → word_bytes v ≡ word_bytes w → v ≡ w
unfolding word_bytes
same_word v w fits fits' e =
    sym (from_be_bytes-to_be_bytes_8 v fits) ∙ ap (from_be_bytes w64) e
    ∙ from_be_bytes-to_be_bytes_8 w fits'

pub length-words : (words : List ℕ) → length (words_bytes words) ≡ 8 * length words
length-words [] = refl
length-words (w ∷ words) =
    let one = length-word w in
    let later = length-words words in
    let both = length-append (word_bytes w) (words_bytes words) in
    omega arith

pub same_words : (vs ws : List ℕ) → length vs ≡ length ws → All (λ w. w < 2 ^ 64) vs
    → All (λ w. w < 2 ^ 64) ws → words_bytes vs ≡ words_bytes ws → vs ≡ ws
same_words [] [] n fit fit' e = refl
same_words [] (w ∷ ws) n fit fit' e = absurd (omega arith)
same_words (v ∷ vs) [] n fit fit' e = absurd (omega arith)
same_words (v ∷ vs) (w ∷ ws) n fit fit' e =
    let s = same_parts (word_bytes v) (word_bytes w) (words_bytes vs) (words_bytes ws)
    (length-word v ∙ sym (length-word w)) e in
    let first = same_word v w (All-head (λ w. w < 2 ^ 64) v vs fit)
    (All-head (λ w. w < 2 ^ 64) w ws fit') s.0 in
    let later = same_words vs ws (omega arith) (All-tail (λ w. w < 2 ^ 64) v vs fit)
    (All-tail (λ w. w < 2 ^ 64) w ws fit') s.1 in
    cc

-- zeros alone are as many zeros
all_zeros : (xs : List ℕ) (n : ℕ) → length xs ≡ n → All (λ b. b ≡ 0) xs → xs ≡ replicate n 0
all_zeros [] zero size each = refl
all_zeros [] (suc n) size each = absurd (omega arith)
all_zeros (x ∷ xs) zero size each = absurd (omega arith)
all_zeros (x ∷ xs) (suc n) size each =
    let first = All-head (λ b. b ≡ 0) x xs each in
    let later = all_zeros xs n (omega arith) (All-tail (λ b. b ≡ 0) x xs each) in
    cc

pub zero_word : (word : ℕ) → word < 2 ^ 64 → All (λ b. b ≡ 0) (word_bytes word) → word ≡ 0
unfolding word_bytes
zero_word word fits each =
    same_word word 0 fits (omega arith) (all_zeros (word_bytes word) 8 (length-word word) each)

-- the word that the first eight bytes are
pub word_there : (bytes : List ℕ) (word : ℕ) → 8 ≤ length bytes
    → ((i : ℕ) → get_or bytes i 0 < 256) → word ≡ from_be_bytes w64 (take 8 bytes)
    → bytes ≡ word_bytes word ++ drop 8 bytes
unfolding word_bytes
word_there bytes word long fits e =
    let size = length-take 8 bytes in
    let eight : length (take 8 bytes) ≡ 8 = omega arith in
    let each = λ (i : ℕ). (elim (cases_lt i 8) as (λ _. get_or (take 8 bytes) i 0 < 256) [
      | inl below ↦ rw (get_or-take 8 bytes i 0 below) (fits i)
      | inr past ↦ rw (get_or_past (take 8 bytes) i 0 (omega arith)) (omega arith)
    ]) in
    sym (ap (λ z. z ++ drop 8 bytes) (be_bytes_8 (take 8 bytes) word eight each e)
    ∙ take-append-drop 8 bytes)

-- bytes that begin with two words
pub one_word : (v w : ℕ) (r s : List ℕ) → v < 2 ^ 64 → w < 2 ^ 64
    → word_bytes v ++ r ≡ word_bytes w ++ s → (v ≡ w) × (r ≡ s)
one_word v w r s fits fits' e =
    let parts = same_parts (word_bytes v) (word_bytes w) r s
    (length-word v ∙ sym (length-word w)) e in
    (same_word v w fits fits' parts.0, parts.1)

pub word_first : (word : ℕ) (rest : List ℕ) → length (word_bytes word ++ rest) ≡ 8 + length rest
word_first word rest =
    let all = length-append (word_bytes word) rest in
    let one = length-word word in
    omega arith

-- words grown by one at the end
pub words-push : (words : List ℕ) (w : ℕ)
    → words_bytes (words ++ w ∷ []) ≡ words_bytes words ++ word_bytes w
words-push [] w = append-nil (word_bytes w)
words-push (v ∷ words) w =
    ap (λ z. word_bytes v ++ z) (words-push words w)
    ∙ sym (append_assoc (word_bytes v) (words_bytes words) (word_bytes w))

-- ---- checksums

length-digest : (h : List ℕ) → length (digest_bytes h 8) ≡ 32
unfolding digest_bytes
length-digest h = refl

length-sha256 : (bytes : List ℕ) → length (sha256 bytes) ≡ 32
unfolding sha256
length-sha256 bytes = length-digest (final_hash initial_hash_256 bytes)

length-seven : (bytes : List ℕ) → length (take 7 (sha256 bytes)) ≡ 7
length-seven bytes =
    let size = length-sha256 bytes in
    let front = length-take 7 (sha256 bytes) in
    omega arith

pub length-checksum : (bytes : List ℕ) → length (checksum bytes) ≡ 8
unfolding checksum
length-checksum bytes =
    let front = length-seven bytes in
    let both =
    length-append (take 7 (sha256 bytes)) ((get_or (sha256 bytes) 7 0 / 4 * 4 + 3) ∷ []) in
    omega arith

-- a checksum does not end with a zero byte
pub checksum_ends : (bytes : List ℕ) → get_or (checksum bytes) 7 0 ≢ 0
unfolding checksum
checksum_ends bytes e =
    let last = get_or_push (take 7 (sha256 bytes)) (get_or (sha256 bytes) 7 0 / 4 * 4 + 3) 0 7
    (length-seven bytes) in
    absurd (omega arith)

seven : (xs : List ℕ) → 7 ≤ length xs
    → get_or xs 0 0 ∷ get_or xs 1 0 ∷ get_or xs 2 0 ∷ get_or xs 3 0 ∷ get_or xs 4 0 ∷ get_or xs 5 0
    ∷ get_or xs 6 0 ∷ [] ≡ take 7 xs
seven [] long = absurd (omega arith)
seven (a ∷ []) long = absurd (omega arith)
seven (a ∷ b ∷ []) long = absurd (omega arith)
seven (a ∷ b ∷ c ∷ []) long = absurd (omega arith)
seven (a ∷ b ∷ c ∷ d ∷ []) long = absurd (omega arith)
seven (a ∷ b ∷ c ∷ d ∷ e ∷ []) long = absurd (omega arith)
seven (a ∷ b ∷ c ∷ d ∷ e ∷ f ∷ []) long = absurd (omega arith)
seven (a ∷ b ∷ c ∷ d ∷ e ∷ f ∷ g ∷ xs) long = refl

-- a digest, sealed byte by byte
pub sealed_is : (digest bytes : List ℕ) → digest ≡ sha256 bytes
    → get_or digest 0 0 ∷ get_or digest 1 0 ∷ get_or digest 2 0 ∷ get_or digest 3 0
    ∷ get_or digest 4 0 ∷ get_or digest 5 0 ∷ get_or digest 6 0
    ∷ (get_or digest 7 0 / 4 * 4 + 3) ∷ [] ≡ checksum bytes
unfolding checksum
sealed_is digest bytes e =
    let long = ap length e ∙ length-sha256 bytes in
    ap (λ z. z ++ (get_or digest 7 0 / 4 * 4 + 3) ∷ []) (seven digest (omega arith))
    ∙ ap (λ z. take 7 z ++ (get_or z 7 0 / 4 * 4 + 3) ∷ []) e

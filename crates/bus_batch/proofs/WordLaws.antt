-- Words of frames, taken apart.
use Rattle.std.proofs.Common.{◌≡◌, ℕ, zero, suc, ◌+◌, ◌*◌, ◌^◌, ◌<◌, ◌≤◌, List, [], ◌∷◌, length}
use Rattle.std.proofs.Common.{drop, arith, refl, ap}
use Rattle.std.specs.Prelude.{All}
use Rattle.std.specs.List.{flat_map}
use Rattle.std.proofs.Math.ListN.{length-append}
use Rattle.std.proofs.lemmas.List.Elements.{All-head, All-tail}
use Rattle.bus_batch.specs.declared.messages.Mark.{Mark}
use Rattle.bus_batch.specs.declared.messages.Mark.TheVariants as mark
use Rattle.bus_batch.specs.Messages.{Numbered, IsNumbered}
use Rattle.bus_batch.specs.Frames.{head_word, message_word, end_word, mark_word, data_len}
use Rattle.bus_batch.specs.Frames.{words_of_bytes, message_words}

-- the parts of a head and of a message word
pub head_parts : (o c t o' c' t' : ℕ) → o < 2 ^ 8 → c < 2 ^ 14 → t < 2 ^ 40 → o' < 2 ^ 8
    → c' < 2 ^ 14 → t' < 2 ^ 40
    → head_word o c t ≡ head_word o' c' t' → (o ≡ o') × (c ≡ c') × (t ≡ t')
head_parts o c t o' c' t' a b d a' b' d' e = (omega arith, omega arith, omega arith)

pub message_parts : (l n l' n' : ℕ) → n < 2 ^ 48 → n' < 2 ^ 48
    → message_word l n ≡ message_word l' n' → (l ≡ l') × (n ≡ n')
message_parts l n l' n' a b e = (omega arith, omega arith)

pub not_end : (l n : ℕ) → l ≤ 56 → n < 2 ^ 48 → message_word l n ≡ end_word → ⊥
not_end l n a b e = absurd (omega arith)

pub not_mark : (mark : Mark) (l n : ℕ) → l ≤ 56 → n < 2 ^ 48 → message_word l n ≡ mark_word mark → ⊥
not_mark mark.End l n a b e = absurd (omega arith)
not_mark mark.Leave l n a b e = absurd (omega arith)

-- the two marks have words of their own
pub other_marks : (word : ℕ) → word ≡ end_word → word ≡ mark_word mark.Leave → ⊥
other_marks word e e' = absurd (omega arith)

pub same_mark : (a b : Mark) → mark_word a ≡ mark_word b → a ≡ b
same_mark mark.End mark.End e = refl
same_mark mark.End mark.Leave e = absurd (omega arith)
same_mark mark.Leave mark.End e = absurd (omega arith)
same_mark mark.Leave mark.Leave e = refl

pub length-words_of_bytes : (n : ℕ) (bytes : List ℕ) → length (words_of_bytes n bytes) ≡ n
length-words_of_bytes zero bytes = refl
length-words_of_bytes (suc n) bytes = ap suc (length-words_of_bytes n (drop 8 bytes))

pub length-message_words : (m : Numbered)
    → length (message_words m) ≡ 1 + data_len (length m.message)
length-message_words m =
    let e = length-words_of_bytes (data_len (length m.message)) m.message in omega arith

-- messages have one to eight words each
pub words_most : (ms : List Numbered) → All IsNumbered ms
    → length (flat_map message_words ms) ≤ 8 * length ms
words_most [] each = omega arith
words_most (m ∷ ms) each =
    let here = All-head IsNumbered m ms each in
    let short : length m.message ≤ 56 = here.1.0 in
    let later = words_most ms (All-tail IsNumbered m ms each) in
    let e = length-message_words m in
    let s : length (flat_map message_words (m ∷ ms))
    ≡ length (message_words m) + length (flat_map message_words ms) =
    length-append (message_words m) (flat_map message_words ms) in
    omega arith

pub words_least : (ms : List Numbered) → length ms ≤ length (flat_map message_words ms)
words_least [] = omega arith
words_least (m ∷ ms) =
    let later = words_least ms in
    let e = length-message_words m in
    let s : length (flat_map message_words (m ∷ ms))
    ≡ length (message_words m) + length (flat_map message_words ms) =
    length-append (message_words m) (flat_map message_words ms) in
    omega arith

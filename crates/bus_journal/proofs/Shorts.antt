-- Tails that are less than a record.
use Rattle.std.proofs.Common.{◌≡◌, ◌≢◌, ℕ, ◌+◌, ◌-◌, ◌<◌, ◌≤◌, List, ◌++◌, length, get_or}
use Rattle.std.proofs.Common.{take, All, refl, sym, ap, ◌∙◌, arith, inl, inr}
use Rattle.std.proofs.lemmas.Bool.{cases_lt}
use Rattle.std.proofs.lemmas.List.{take-append-le, get_or-append_right}
use Rattle.std.proofs.lemmas.List.{get_or_past, length-take-le}
use Rattle.std.proofs.lemmas.List.Elements.{All-get_or}
use Rattle.std.proofs.Math.Seq.{take-append-add}
use Rattle.bus_journal.specs.Format.{word_bytes}
use Rattle.bus_journal.specs.Records.{IsShort, IsTornRest}
use Rattle.bus_journal.proofs.Words.{length-word}

-- zeros are zero, and so is what is read past them
pub zero_at : (zeros : List ℕ) (i : ℕ) → All (λ b. b ≡ 0) zeros → get_or zeros i 0 ≡ 0
zero_at zeros i each = elim (cases_lt i (length zeros)) [
  | inl below ↦ All-get_or (λ b. b ≡ 0) zeros i 0 below each
  | inr past ↦ get_or_past zeros i 0 past
]

-- a byte that is no zero stands before the zeros
pub stands_before : (written zeros rest : List ℕ) (i : ℕ) → rest ≡ written ++ zeros
    → All (λ b. b ≡ 0) zeros → get_or rest i 0 ≢ 0 → i < length written
stands_before written zeros rest i parts each some = elim (cases_lt i (length written)) [
  | inl below ↦ below
  | inr past ↦
      absurd (some (ap (λ z. get_or z i 0) parts
      ∙ get_or-append_right written zeros (length written) i 0 refl past
      ∙ zero_at zeros (i - length written) each))
]

-- fewer of the first bytes of a word and more begin with the word, or are fewer than eight
pub word_kept : (head : ℕ) (more : List ℕ) (n : ℕ) → 8 ≤ n
    → take n (word_bytes head ++ more) ≡ word_bytes head ++ take (n - 8) more
word_kept head more n long =
    let size = length-word head in
    let is : n ≡ length (word_bytes head) + (n - 8) = omega arith in
    ap (λ z. take z (word_bytes head ++ more)) is
    ∙ take-append-add (word_bytes head) more (n - 8)

-- what is less than a record stays so with fewer bytes
pub still_short : (senders most : ℕ) (a b : List ℕ) → a ≡ take (length a) b → length a ≤ length b
    → IsShort senders most b → IsShort senders most a
still_short senders most a b front fewer (inl few) = inl (omega arith)
still_short senders most a b front fewer (inr h) = elim (cases_lt (length a) 8) [
  | inl few ↦ inl few
  | inr long ↦ inr (
    h.0,
    take (length a - 8) h.1,
    front ∙ ap (λ z. take (length a) z) h.2 ∙ word_kept h.0 h.1 (length a) long,
    h.3,
    (let lt = h.4 in omega arith),
  )
]

-- where the last byte of what was written is no zero, it is the least that the rest may be taken as
pub torn_is_short : (senders most : ℕ) (rest : List ℕ) (n : ℕ) → n ≤ length rest
    → (0 < n → get_or rest (n - 1) 0 ≢ 0) → IsTornRest senders most rest
    → IsShort senders most (take n rest)
torn_is_short senders most rest n within last t =
    let size = length-take-le n rest within in
    let fewer : n ≤ length t.written = elim (cases_lt 0 n) [
      | inl some ↦
          let before = stands_before t.written t.zeros rest (n - 1) t.parts t.nothing (last some) in
          omega arith
      | inr none ↦ omega arith
    ] in
    let front : take n rest ≡ take n t.written =
    ap (λ z. take n z) t.parts ∙ take-append-le n t.written t.zeros fewer in
    still_short senders most (take n rest) t.written
    (front ∙ ap (λ z. take z t.written) (sym size)) (omega arith) t.short

-- The words of a batch.
use Rattle.std.proofs.Common.{◌≡◌, ℕ, zero, suc, ◌+◌, ◌*◌, ◌<◌, ◌≤◌, List, [], ◌∷◌, ◌++◌}
use Rattle.std.proofs.Common.{length, drop, arith, refl, sym, ap, ◌∙◌}
use Rattle.std.proofs.Common.{inl, inr}
use Rattle.std.specs.Prelude.{◌⊎◌}
use Rattle.std.specs.List.{flat_map}
use Rattle.std.proofs.lemmas.List.{append-nil, append_assoc}
use Rattle.std.proofs.lemmas.List.{drop-drop}
use Rattle.bus_batch.specs.declared.messages.Mark.{Mark}
use Rattle.bus_batch.specs.declared.batches.Phase.{Phase}
use Rattle.bus_batch.specs.declared.batches.Phase.TheVariants as phase
use Rattle.bus_batch.specs.Messages.{Numbered, numbered_messages}
use Rattle.bus_batch.specs.Frames.{body_words, data_word, words_of_bytes, message_words}
use Rattle.bus_batch.specs.Batches.{body_of}
use Rattle.bus_batch.proofs.WordLaws.{words_least}
use Rattle.bus_batch.proofs.BatchLaws.{length-numbered}

pub body_least : (p : Phase) (first : ℕ) (ms : List (List ℕ))
    → (0 < length ms) ⊎ ((mark : Mark) × (p ≡ phase.Marking mark))
    → 1 ≤ length (body_words (body_of p first ms))
body_least phase.Open first ms (inl some) =
    let a = words_least (numbered_messages first ms) in
    let b = length-numbered first ms in omega arith
body_least phase.Open first ms (inr e) = absurd (let x = e.1 in cc)
body_least (phase.Marking mark) first ms h = omega arith
body_least phase.Closed first ms (inl some) =
    let a = words_least (numbered_messages first ms) in
    let b = length-numbered first ms in omega arith
body_least phase.Closed first ms (inr e) = absurd (let x = e.1 in cc)

-- ---- data words

-- one word more of the bytes
pub words_next : (n : ℕ) (bytes : List ℕ)
    → words_of_bytes (suc n) bytes ≡ words_of_bytes n bytes ++ data_word (drop (8 * n) bytes) ∷ []
words_next zero bytes = refl
words_next (suc n) bytes = ap (λ z. data_word bytes ∷ z) (words_next n (drop 8 bytes)
    ∙ ap (λ z. words_of_bytes n (drop 8 bytes) ++ data_word z ∷ [])
    (drop-drop (8 * n) 8 bytes
    ∙ ap (λ z. drop z bytes) (let e : 8 + 8 * n ≡ 8 * suc n = omega arith in e)))

-- ---- along the messages

-- one message more
pub words_put : (first : ℕ) (ms : List (List ℕ)) (m : List ℕ)
    → flat_map message_words (numbered_messages first (ms ++ m ∷ []))
    ≡ flat_map message_words (numbered_messages first ms)
    ++ message_words (record { number = first + length ms; message = m })
words_put first [] m =
    append-nil (message_words (record { number = first; message = m }))
    ∙ ap (λ z. message_words (record { number = z; message = m }))
    (let e : first ≡ first + 0 = omega arith in e)
words_put first (x ∷ ms) m =
    let one : Numbered = record { number = first; message = x } in
    ap (λ z. message_words one ++ z) (words_put (first + 1) ms m)
    ∙ ap (λ z.
    message_words one
    ++ (flat_map message_words (numbered_messages (first + 1) ms)
    ++ message_words (record { number = z; message = m })))
    (let e : first + 1 + length ms ≡ first + suc (length ms) = omega arith in e)
    ∙ sym (append_assoc (message_words one)
    (flat_map message_words (numbered_messages (first + 1) ms))
    (message_words (record { number = first + suc (length ms); message = m })))

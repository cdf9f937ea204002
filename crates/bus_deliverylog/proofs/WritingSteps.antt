-- A writer's steps, one by one, and the log after them.
use Rattle.std.proofs.Common.{◌≡◌, ◌≢◌, ℕ, zero, suc, ◌+◌, ◌<◌, ◌⊎◌, List, [], ◌∷◌, ◌++◌, length}
use Rattle.std.proofs.Common.{get_or, Bool, true, false, Some, None, refl, sym, ap, ◌∙◌, subst}
use Rattle.std.proofs.Common.{arith, inl, inr}
use Rattle.std.specs.Prelude.{All, if◌then◌else◌, nat_lt, ◌==◌, slice_index}
use Rattle.std.proofs.lemmas.Bool.{cases_eq, eqb-true, false≢true}
use Rattle.bus_register.specs.declared.kinds.Kind.TheVariants.{StoreLogWord, StoreLength}
use Rattle.bus_register.specs.declared.registers.Op.{Op}
use Rattle.bus_register.specs.declared.registers.Op.TheVariants.{Store}
use Rattle.bus_register.specs.declared.registers.SenderNo.{SenderNo}
use Rattle.bus_register.specs.Words.{register, after}
use Rattle.bus_register.specs.Tables.{Beside}
use Rattle.bus_batch.specs.Frames.{Frame, IsFrame, frame_words, Spells, Order, entries_of}
use Rattle.bus_batch.specs.Frames.{has_gone, ends, tenure_and_owner}
use Rattle.bus_batch.proofs.FrameLaws.{spells_more}
use Rattle.bus_deliverylog.specs.Writing.{Writing, writing_kind, writing_op, writing_fed, words_at}
use Rattle.bus_deliverylog.specs.Writing.{HasStored, IsApart}

-- which of its steps a writer takes next
not_both : (b c : Bool)
    → (if b then Some StoreLogWord else if c then Some StoreLength else None) ≡ Some StoreLength
    → (b ≡ false) × (c ≡ true)
not_both true c e = absurd (cc)
not_both false true e = (refl, refl)
not_both false false e = absurd (cc)

op_length : {A : Type 0} (b c : Bool) (x y : A) → b ≡ false → c ≡ true
    → (if b then Some x else if c then Some y else None) ≡ Some y
op_length true c x y e e' = absurd (false≢true (sym e))
op_length false true x y e e' = refl
op_length false false x y e e' = absurd (false≢true e')

op_cases : {A : Type 0} (b c : Bool) (x y o : A)
    → (if b then Some x else if c then Some y else None) ≡ Some o
    → ((b ≡ true) × (o ≡ x)) ⊎ ((c ≡ true) × (o ≡ y))
op_cases true c x y o e = inl (refl, (let e' : Some x ≡ Some o = e in cc))
op_cases false true x y o e = inr (refl, (let e' : Some y ≡ Some o = e in cc))
op_cases false false x y o e = absurd (cc)

-- ---- words of a table

pub words_at-add : (table : ℕ → ℕ) (place n m : ℕ)
    → words_at table place (n + m) ≡ words_at table place n ++ words_at table (place + n) m
words_at-add table place zero m =
    ap (λ z. words_at table place z) (let e : 0 + m ≡ m = omega arith in e)
    ∙ ap (λ z. words_at table z m) (let e : place ≡ place + 0 = omega arith in e)
words_at-add table place (suc n) m =
    ap (λ z. words_at table place z) (let e : suc n + m ≡ suc (n + m) = omega arith in e)
    ∙ ap (λ z. table place ∷ z) (words_at-add table (place + 1) n m)
    ∙ ap (λ z. table place ∷ (words_at table (place + 1) n ++ words_at table z m))
    (let e : place + 1 + n ≡ place + suc n = omega arith in e)

pub words_at-is : (table : ℕ → ℕ) (place : ℕ) (xs : List ℕ)
    → ((k : ℕ) → k < length xs → table (place + k) ≡ get_or xs k 0)
    → words_at table place (length xs) ≡ xs
words_at-is table place [] same = refl
words_at-is table place (x ∷ xs) same =
    let first : table place ≡ x =
    ap table (let e : place ≡ place + 0 = omega arith in e) ∙ same 0 (omega arith) in
    let rest = words_at-is table (place + 1) xs (λ k below.
    ap table (let e : place + 1 + k ≡ place + suc k = omega arith in e)
    ∙ same (suc k) (omega arith)) in
    cc

-- ---- the law

pub stored_none : (table : ℕ → ℕ) (w : Writing) → w.stored ≡ 0 → HasStored table w
stored_none table w e k below short = absurd (omega arith)

pub stored_more : (table table' : ℕ → ℕ) (w : Writing) (o : Op) → HasStored table w → IsApart w
    → writing_op w ≡ Some o
    → table' (register o) ≡ after o (table (register o)) → Beside (register o) table table'
    → HasStored table' (writing_fed w)
stored_more table table' w o had apart is here beside k below short =
    elim (op_cases (nat_lt w.stored (length w.frame)) (w.stored == length w.frame) _ _ o is) [
      | inl s ↦ word s.1 (cases_eq k w.stored)
      | inr s ↦ length_step s.1 (eqb-true w.stored (length w.frame) s.0)
    ]
  where
    word : o ≡ Store (record { 0 = w.log_at + w.from + w.stored }) (slice_index w.frame w.stored)
        → (k ≡ w.stored) ⊎ (k ≢ w.stored) → table' (w.log_at + w.from + k) ≡ slice_index w.frame k
    word e (inl same) =
        ap (λ z. table' (w.log_at + w.from + z)) same ∙ ap table' (ap register (sym e)) ∙ here
        ∙ ap (λ z. after z (table (register o))) e ∙ ap (slice_index w.frame) (sym same)
    word e (inr other) =
        let at : register o ≡ w.log_at + w.from + w.stored = ap register e in
        beside (w.log_at + w.from + k) (λ same. other (omega arith)) ∙ had k (omega arith) short

    length_step : o ≡ Store (record { 0 = w.length_at }) (w.from + length w.frame)
        → w.stored ≡ length w.frame → table' (w.log_at + w.from + k) ≡ slice_index w.frame k
    length_step e all =
        let at : register o ≡ w.length_at = ap register e in
        beside (w.log_at + w.from + k) (λ same. apart k short (omega arith))
        ∙ had k (omega arith) short

-- when the length is stored, the frame stands in the log
pub raises : (table : ℕ → ℕ) (w : Writing) → HasStored table w → writing_kind w ≡ Some StoreLength
    → (writing_op w ≡ Some (Store (record { 0 = w.length_at }) (w.from + length w.frame)))
    × (words_at table (w.log_at + w.from) (length w.frame) ≡ w.frame)
raises table w had is =
    let tests = not_both (nat_lt w.stored (length w.frame)) (w.stored == length w.frame) is in
    let all : w.stored ≡ length w.frame = eqb-true w.stored (length w.frame) tests.1 in (
      op_length (nat_lt w.stored (length w.frame)) (w.stored == length w.frame) _ _ tests.0 tests.1,
      words_at-is table (w.log_at + w.from) w.frame (λ k below. had k (omega arith) below),
    )

-- so the words below the new length are whole frames
pub raises_whole : (table : ℕ → ℕ) (w : Writing) (senders : ℕ) (order : Order)
    (owners : List (ℕ × SenderNo)) (f : Frame) → HasStored table w
    → writing_kind w ≡ Some StoreLength
    → w.frame ≡ frame_words f → Spells senders (words_at table w.log_at w.from) order owners
    → order.ended ≡ false
    → has_gone f.owner.0 order ≡ false → IsFrame senders f → All (λ p. p.0 < f.tenure) owners
    → Spells senders (words_at table w.log_at (w.from + length w.frame))
    (record { entries = order.entries ++ entries_of f; ended = ends f.body })
    (owners ++ tenure_and_owner f ∷ [])
raises_whole table w senders order owners f had is frame spelt unended stays lawful above =
    let stands = (raises table w had is).1 in
    subst (λ z. Spells senders z
    (record { entries = order.entries ++ entries_of f; ended = ends f.body })
    (owners ++ tenure_and_owner f ∷ []))
    (sym (words_at-add table w.log_at w.from (length w.frame)
    ∙ ap (λ z. words_at table w.log_at w.from ++ z) (stands ∙ frame)))
    (spells_more senders (words_at table w.log_at w.from) order owners f spelt unended stays lawful
    above)

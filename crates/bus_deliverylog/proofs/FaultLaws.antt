-- What is no prefix of an order, and that words which are no log have one fault alone.
use Rattle.std.proofs.Common.{◌≡◌, ◌≢◌, ℕ, zero, suc, ◌<◌, ◌≤◌, List, [], ◌∷◌, ◌++◌, get_or, take}
use Rattle.std.proofs.Common.{true, false, refl, ap, subst, arith, inl, inr}
use Rattle.std.proofs.lemmas.Bool.{cases_lt}
use Rattle.std.proofs.lemmas.List.{length-take, get_or-take}
use Rattle.bus_register.specs.declared.registers.SenderNo.{SenderNo}
use Rattle.bus_batch.specs.declared.messages.Item.{Item}
use Rattle.bus_batch.specs.Frames.{Order, Says, Leaves, SpellsOf, BeginsLogOf}
use Rattle.bus_deliverylog.specs.Orders.{IsPrefixOfOrder}
use Rattle.bus_deliverylog.specs.Logs.{IsFirstBadOf, IsTornOf}
use Rattle.bus_deliverylog.proofs.ReadLaws.{spells_begin, front_begins}

-- ---- prefixes
pub none_skips : (a b : Item) → a ≢ b
    → IsPrefixOfOrder (record { entries = Says b ∷ []; ended = false })
    (record { entries = Says a ∷ Says b ∷ []; ended = false }) → ⊥
none_skips a b other h =
    let e : Says a ∷ Says b ∷ [] ≡ Says b ∷ h.later = h.entries in
    let same : Says a ≡ Says b = cc in other (cc)

pub none_repeats : (a b : Item) → a ≢ b
    → IsPrefixOfOrder (record { entries = Says a ∷ Says a ∷ []; ended = false })
    (record { entries = Says a ∷ Says b ∷ []; ended = false })
    → ⊥
none_repeats a b other h =
    let e : Says a ∷ Says b ∷ [] ≡ Says a ∷ Says a ∷ h.later = h.entries in
    let same : Says b ≡ Says a = cc in other (cc)

pub none_ended : (a : Item)
    → IsPrefixOfOrder (record { entries = []; ended = true })
    (record { entries = Says a ∷ []; ended = false }) → ⊥
none_ended a h = let e : true ≡ false = ap (λ (o : Order). o.ended) (h.ended refl) in absurd cc

pub none_skips_a_leave : (s : SenderNo) (a : Item)
    → IsPrefixOfOrder (record { entries = Says a ∷ []; ended = false })
    (record { entries = Leaves s ∷ Says a ∷ []; ended = false }) → ⊥
none_skips_a_leave s a h =
    let e : Leaves s ∷ Says a ∷ [] ≡ Says a ∷ h.later = h.entries in absurd cc

pub none_leaves_early : (s : SenderNo) (a : Item)
    → IsPrefixOfOrder (record { entries = Leaves s ∷ []; ended = false })
    (record { entries = Says a ∷ Leaves s ∷ []; ended = false }) → ⊥
none_leaves_early s a h =
    let e : Says a ∷ Leaves s ∷ [] ≡ Leaves s ∷ h.later = h.entries in absurd cc

-- ---- faults
pub whole_not_torn : (most senders : ℕ) (words : List ℕ) (order : Order)
    (owners : List (ℕ × SenderNo)) → SpellsOf most senders words order owners
    → IsTornOf most senders words → ⊥
whole_not_torn most senders words order owners s torn =
    torn.unfinished (record { frames = s.frames; lawful = s.lawful; words_are = s.words_are })

pub whole_not_bad :
    (most senders : ℕ) (words : List ℕ) (order : Order) (owners : List (ℕ × SenderNo)) (place : ℕ)
    → SpellsOf most senders words order owners → IsFirstBadOf most senders words place → ⊥
whole_not_bad most senders words order owners place s first =
    first.bad (spells_begin most senders place words order owners first.below s)

pub torn_not_bad : (most senders : ℕ) (words : List ℕ) (place : ℕ) → IsTornOf most senders words
    → IsFirstBadOf most senders words place → ⊥
torn_not_bad most senders words place torn first =
    first.bad (front_begins most senders place words first.below torn.good)

take_within : (p q : ℕ) (xs : List ℕ) → p ≤ q → take p (take q xs) ≡ take p xs
take_within zero q xs h = refl
take_within (suc p) zero xs h = absurd (omega arith)
take_within (suc p) (suc q) [] h = refl
take_within (suc p) (suc q) (x ∷ xs) h = ap (λ z. x ∷ z) (take_within p q xs (omega arith))

-- nothing behind a bad word is good
none_behind : (most senders : ℕ) (words : List ℕ) (p q : ℕ) → p < q
    → IsFirstBadOf most senders words p → IsFirstBadOf most senders words q → ⊥
none_behind most senders words p q before first second =
    let size = length-take q words in let below = second.below in
    let begins : BeginsLogOf most senders
    (take p (take q words) ++ get_or (take q words) p 0 ∷ []) =
    front_begins most senders p (take q words) (omega arith) second.good in
    first.bad (subst (λ z. BeginsLogOf most senders (take p words ++ z ∷ []))
    (get_or-take q words p 0 before)
    (subst (λ z. BeginsLogOf most senders (z ++ get_or (take q words) p 0 ∷ []))
    (take_within p q words (omega arith)) begins))

pub one_first : (most senders : ℕ) (words : List ℕ) (place other : ℕ)
    → IsFirstBadOf most senders words place → IsFirstBadOf most senders words other → place ≡ other
one_first most senders words place other h k = elim (cases_lt place other) [
  | inl before ↦ absurd (none_behind most senders words place other before h k)
  | inr from ↦ elim (cases_lt other place) [
    | inl behind ↦ absurd (none_behind most senders words other place behind k h)
    | inr there ↦ omega arith
  ]
]

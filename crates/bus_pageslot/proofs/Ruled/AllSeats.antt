-- Each sender shows in some seat, and each receiver of a ring, whatever the seats do.
use Rattle.std.proofs.Common.{◌≡◌, ◌≢◌, ◌⊎◌, inl, inr, ⊎_elim, ℕ, zero, suc, ◌<◌, List, []}
use Rattle.std.proofs.Common.{◌∷◌, ◌++◌, length, length-set, set, arith, sym, ◌∙◌, subst}
use mathlib.Core.Option.{some, some-injective, some-ne-none}
use lib.ListN.{get_elem?}
use Rattle.std.proofs.lemmas.Bool.{cases_eq}
use Rattle.atomic_table.proofs.Lists.{set_here, set_else, at_last, at_longer}
use Rattle.bus_pageslot.specs.declared.rule.View.{View}
use Rattle.bus_automaton.specs.Processes.{Process}
use Rattle.bus_pageslot.specs.Rule.{Seats, SeatsReceiver, SeatsStaying}

pub within : {A : Type 0} (l : List A) (j : ℕ) (a : A) → get_elem? l j ≡ some a → j < length l
within [] j a e = absurd (some-ne-none a (sym e))
within (x ∷ xs) zero a e = omega arith
within (x ∷ xs) (suc j) a e = let l = within xs j a e in omega arith

one_there : {A : Type 0} (l : List A) (j : ℕ) (a b : A) → get_elem? l j ≡ some a
    → get_elem? l j ≡ some b → a ≡ b
one_there l j a b e f = some-injective a b (sym e ∙ f)

-- what is so of the sender of this number, of the receiver of this number, or of one that has not
-- left
abbrev OfAny : ℕ ⊎ ℕ ⊎ ℕ → (sender receiver staying : ℕ → Type 0) → Type 0
OfAny (inl p) sender receiver staying = sender p
OfAny (inr (inl r)) sender receiver staying = receiver r
OfAny (inr (inr r)) sender receiver staying = staying r

-- this sender, this receiver of a ring, or this one that has not left shows in a view
abbrev pub SeatsAny : {C : Type 0} → Process C → ℕ ⊎ ℕ ⊎ ℕ → View C → Type 0
SeatsAny P who v =
    OfAny who (λ p. Seats P p v) (λ r. SeatsReceiver r v) (λ r. SeatsStaying r v)

-- of whoever shows in such views
module _ {C : Type 0} (Shows : View C → Type 0) where
  -- who shows in one of these
  abbrev pub IsSeen : List (View C) → Type 0
  IsSeen views = (j : ℕ) × (v : View C) × (get_elem? views j ≡ some v) × Shows v

  -- it is this one, or another that stands where this one is replaced
  here_or_still : (views : List (View C)) (id : ℕ) (old new : View C)
      → get_elem? views id ≡ some old → IsSeen views → Shows old ⊎ IsSeen (set views id new)
  here_or_still views id old new at h = elim (cases_eq h.0 id) [
    | inl e ↦ inl (subst Shows
        (one_there views id h.1 old (subst (λ j. get_elem? views j ≡ some h.1) e h.2) at) h.3)
    | inr n ↦ inr (h.0, h.1, set_else views id h.0 new n ∙ h.2, h.3)
  ]

  -- one view is replaced: by one that shows who showed in the old one
  pub still_seen : (views : List (View C)) (id : ℕ) (old new : View C)
      → get_elem? views id ≡ some old → (Shows old → Shows new) → IsSeen views
      → IsSeen (set views id new)
  still_seen views id old new at keeps h = ⊎_elim
      (λ (is : Shows old). (id, new, set_here views id new (within views id old at), keeps is))
      (λ (k : IsSeen (set views id new)). k)
      (here_or_still views id old new at h)

  -- and by one view and one more, of which either does
  pub seen_parted : (views : List (View C)) (id : ℕ) (old new more : View C)
      → get_elem? views id ≡ some old → (Shows old → Shows new ⊎ Shows more) → IsSeen views
      → IsSeen (set views id new ++ more ∷ [])
  seen_parted views id old new more at keeps h =
      let longer : IsSeen (set views id new) → IsSeen (set views id new ++ more ∷ []) =
      λ k. (k.0, k.1, at_longer (set views id new) (more ∷ []) k.0 k.1 k.2, k.3) in
      ⊎_elim
      (λ (is : Shows old). ⊎_elim
      (λ (k : Shows new).
      longer (id, new, set_here views id new (within views id old at), k))
      (λ (k : Shows more). (
        length views,
        more,
        at_last (set views id new) more (length views) (length-set views id new),
        k,
      ))
      (keeps is))
      longer
      (here_or_still views id old new at h)

  -- and another view goes into that: who showed in either shows in the new one
  pub seen_joined : (views : List (View C)) (id other : ℕ) (old new gone left : View C)
      → get_elem? views id ≡ some old → id ≢ other
      → get_elem? (set views id new) other ≡ some gone → (Shows old ⊎ Shows gone → Shows new)
      → IsSeen views → IsSeen (set (set views id new) other left)
  seen_joined views id other old new gone left at apart there keeps h =
      ⊎_elim
      (λ (is : Shows gone). (
        id,
        new,
        set_else (set views id new) other id left apart
            ∙ set_here views id new (within views id old at),
        keeps (inr is),
      ))
      (λ (k : IsSeen (set (set views id new) other left)). k)
      (here_or_still (set views id new) other gone left there
      (still_seen views id old new at (λ is. keeps (inl is)) h))

-- The numbers of senders, as they are noted one by one.
use Rattle.std.proofs.Common.{◌≡◌, ℕ, ◌+◌, ◌<◌, inl, inr, List, length, slice_get, slice_index}
use Rattle.std.proofs.Common.{slice_set, Some, Bool, true, false, not, nat_eq, sym, ap, subst, ◌∙◌}
use Rattle.std.proofs.Common.{arith}
use Rattle.std.proofs.lemmas.Bool.{cases_eq}
use Rattle.std.proofs.lemmas.List.{get_or-set_same, get_or-set_other}
use Rattle.std.proofs.lemmas.Option.{same_Some, slice_get_within}
use Rattle.bus_automaton.specs.Processes.{Process}
use Rattle.bus_pageslot.specs.Seats.{SenderSeat}
use Rattle.bus_handles.specs.Pages.{HasParted, AreNoted}

-- two numbers that are compared
pub differ : (a b : ℕ) (r : Bool) → r ≡ not (nat_eq a b) → r ≡ true → a ≡ b → ⊥
differ a b r is ne same = grind arith

pub equal : (a b : ℕ) (r : Bool) → r ≡ not (nat_eq a b) → r ≡ false → a ≡ b
equal a b r is eq = grind arith

-- a list that is not empty has a first one
pub some_there : (n : ℕ) (r : Bool) → r ≡ nat_eq n 0 → r ≡ false → 0 < n
some_there n r is some = grind arith

module _ {C : Type 0} (P : Process C) (senders : List (SenderSeat C)) where
  pub none_noted : (numbers : List ℕ) → AreNoted P senders 0 numbers
  none_noted numbers = record {
    parted = λ place s below at. absurd (let wrong : ⊥ = omega (arith, below) in wrong);
    number = λ place s below at. absurd (let wrong : ⊥ = omega (arith, below) in wrong);
  }

  -- one more
  pub one_noted : (n x : ℕ) (numbers : List ℕ) (s : SenderSeat C) → AreNoted P senders n numbers
      → n < length numbers → slice_get senders n ≡ Some s
      → HasParted P n s → x ≡ (P.queue s.core).first
      → AreNoted P senders (n + 1) (slice_set numbers n x)
  one_noted n x numbers s h inside here parted is = record {
    parted = λ place t below at. elim (cases_eq place n) [
      | inl same ↦ subst (λ z. HasParted P place z)
          (same_Some s t (sym here ∙ ap (slice_get senders) (sym same) ∙ at))
          (subst (λ k. HasParted P k s) (sym same) parted)
      | inr other ↦ h.parted place t (omega (arith, below, other)) at
    ];
    number = λ place t below at. elim (cases_eq place n) [
      | inl same ↦
          ap (slice_index (slice_set numbers n x)) same ∙ get_or-set_same numbers n x 0 inside ∙ is
          ∙ ap (λ (z : SenderSeat C). (P.queue z.core).first)
          (same_Some s t (sym here ∙ ap (slice_get senders) (sym same) ∙ at))
      | inr other ↦
          get_or-set_other numbers n place x 0 other
          ∙ h.number place t (omega (arith, below, other)) at
    ];
  }

  -- as many as there are, or as there can be, are all
  pub all_noted : (n most : ℕ) (numbers : List ℕ) → AreNoted P senders n numbers
      → ((k : ℕ) → k < most → k < length senders → k < n)
      → AreNoted P senders most numbers
  all_noted n most numbers h far = record {
    parted = λ place t below at.
        h.parted place t (far place below (slice_get_within senders place t at)) at;
    number = λ place t below at.
        h.number place t (far place below (slice_get_within senders place t at)) at;
  }

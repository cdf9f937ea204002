-- The branches of an election's steps, each with what it knows.
use Rattle.std.proofs.Common.{◌≡◌, ◌≢◌, ℕ, ◌+◌, ◌*◌, ◌/◌, ◌<◌, ◌≤◌, ◌^◌, nat_lt, Bool, false, cond}
use Rattle.std.proofs.Common.{Option, Some, None, inl, inr, ◌⊎◌, refl, sym, subst}
use Rattle.std.proofs.lemmas.Bool.Decides.{eqb_tells}
use Rattle.bus_ownerbits.specs.declared.stages.Stage.TheVariants.{Search, Alone}
use Rattle.bus_ownerbits.specs.Election.{Decisions, Electing, proposing, going, fits_bits, seeking}
use Rattle.bus_ownerbits.specs.Election.{with_bit, decided_by, search_after}
use Rattle.bus_ownerbits.proofs.NumberLaws.{tested}

module _ {S : Type 0} (D : Decisions S) (P : Electing S → Type 0) where
  pub going_case : (s : Electing S) → (s.left ≡ 0 → P (record s { stage = Alone }))
      → (s.left ≢ 0 → P (proposing D s)) → P (going D s)
  going_case s none some = elim (eqb_tells s.left 0) [
    | inl h ↦
        subst (λ z. P (cond z (record s { stage = Alone }) (proposing D s))) (sym h.0) (none h.1)
    | inr h ↦
        subst (λ z. P (cond z (record s { stage = Alone }) (proposing D s))) (sym h.0) (some h.1)
  ]

  pub seeking_case : (s : Electing S) → (s.candidate / 2 ^ s.left ≡ s.spelled → P (going D s))
      → (fits_bits s s.candidate ≡ false → s.spelled * 2 ^ s.left < s.n
      → P (record s { stage = Search (s.spelled * 2 ^ s.left) }))
      → (s.n ≤ s.spelled * 2 ^ s.left → P (going D s)) → P (seeking D s)
  seeking_case s fits searches over =
      let low : ℕ = s.spelled * 2 ^ s.left in
      elim (eqb_tells (s.candidate / 2 ^ s.left) s.spelled) [
        | inl h ↦ subst (λ z. P (cond z (going D s)
            (cond (nat_lt low s.n) (record s { stage = Search low }) (going D s)))) (sym h.0)
            (fits h.1)
        | inr h ↦ subst (λ z. P (cond z (going D s)
            (cond (nat_lt low s.n) (record s { stage = Search low }) (going D s)))) (sym h.0)
            (elim (tested low s.n) [
              | inl t ↦ subst (λ z. P (cond z (record s { stage = Search low }) (going D s)))
                  (sym t.0) (searches h.0 t.1)
              | inr t ↦ subst (λ z. P (cond z (record s { stage = Search low }) (going D s)))
                  (sym t.0) (over t.1)
            ])
      ]

  pub decided_case : (s : Electing S) (o : Option Bool) → (o ≡ None → P s)
      → ((bit : Bool) → o ≡ Some bit → s.left ≤ 1 → P s)
      → ((bit : Bool) → o ≡ Some bit → 1 < s.left → P (seeking D (with_bit s bit)))
      → P (decided_by D s o)
  decided_case s None stays last more = stays refl
  decided_case s (Some bit) stays last more = elim (tested 1 s.left) [
    | inl t ↦ subst (λ z. P (cond z (seeking D (with_bit s bit)) s)) (sym t.0) (more bit refl t.1)
    | inr t ↦ subst (λ z. P (cond z (seeking D (with_bit s bit)) s)) (sym t.0) (last bit refl t.1)
  ]

  pub searched_case : (s : Electing S) (i got : ℕ)
      → (got ≡ 0 → i + 1 < s.n → (i + 1) / 2 ^ s.left ≡ s.spelled
      → P (record s { stage = Search (i + 1) }))
      → ((got ≢ 0) ⊎ ((s.n ≤ i + 1) ⊎ ((i + 1) / 2 ^ s.left ≢ s.spelled))
      → P (going D (record s { candidate = i }))) → P (search_after D s i got)
  searched_case s i got on takes =
      let a : Electing S = record s { stage = Search (i + 1) } in
      let b : Electing S = going D (record s { candidate = i }) in
      elim (eqb_tells got 0) [
        | inr h ↦ subst
            (λ z. P (cond z (cond (nat_lt (i + 1) s.n) (cond (fits_bits s (i + 1)) a b) b) b))
            (sym h.0) (takes (inl h.1))
        | inl h ↦ subst
            (λ z. P (cond z (cond (nat_lt (i + 1) s.n) (cond (fits_bits s (i + 1)) a b) b) b))
            (sym h.0) (elim (tested (i + 1) s.n) [
              | inr t ↦ subst (λ z. P (cond z (cond (fits_bits s (i + 1)) a b) b)) (sym t.0)
                  (takes (inr (inl t.1)))
              | inl t ↦ subst (λ z. P (cond z (cond (fits_bits s (i + 1)) a b) b)) (sym t.0)
                  (elim (eqb_tells ((i + 1) / 2 ^ s.left) s.spelled) [
                    | inr f ↦ subst (λ z. P (cond z a b)) (sym f.0) (takes (inr (inr f.1)))
                    | inl f ↦ subst (λ z. P (cond z a b)) (sym f.0) (on h.1 t.1 f.1)
                  ])
            ])
      ]

-- Where an election runs, and what elections keep.
use Rattle.std.proofs.Common.{◌≡◌, ℕ, ◌+◌, ◌<◌, ◌≤◌, Some, sym, ◌∙◌, ap, subst}
use Rattle.bus_register.specs.declared.registers.Op.{Op}
use Rattle.bus_register.specs.Words.{register}
use Rattle.bus_presence.specs.declared.pins.Pin.{Pin}
use Rattle.bus_presence.specs.declared.pins.Pin.TheVariants.{Away, Announcing, Validating, Pinned}
use Rattle.bus_presence.specs.declared.pins.Pin.TheVariants.{Unpinning, Invalidated}
use Rattle.bus_tenure.specs.Core.{Core, Election, Layout, row_at}
use Rattle.bus_tenure.specs.declared.phases.Phase.TheVariants.{Electing}
use Rattle.bus_core.specs.Reusing.Keeping.{IsOutside, PinKeeps}

module _ {E : Type 0} (Belongs : ℕ → E → Type 0) where
  -- who goes through an election stands in its tenure
  pub runs_pinned : (c : Core E) (v : Pin) (t : ℕ) (e : E) → PinKeeps Belongs c v
      → c.phase ≡ Electing t e
      → (v ≡ Pinned t) × Belongs (row_at c.layout t) e × (t < c.layout.rows)
  runs_pinned c Away t e k i = absurd (let o : IsOutside (Electing t e) = subst IsOutside i k in cc)
  runs_pinned c (Announcing u) t e k i = absurd (let r = sym k.looks.rests ∙ i in cc)
  runs_pinned c (Validating u) t e k i = absurd (let r = sym k.looks.rests ∙ i in cc)
  runs_pinned c (Pinned u) t e k i =
      let r : Electing u k.election ≡ Electing t e = sym k.is ∙ i in
      let same : u ≡ t = cc in
      let part : k.election ≡ e = cc in (
        ap Pinned same,
        subst (λ z. Belongs (row_at c.layout t) z) part
            (subst (λ z. Belongs (row_at c.layout z) k.election) same k.belongs),
        subst (λ z. z < c.layout.rows) same k.below,
      )
  runs_pinned c (Unpinning u) t e k i =
      absurd (let o : IsOutside (Electing t e) = subst IsOutside i k in cc)
  runs_pinned c (Invalidated u) t e k i = absurd (let bad = sym k ∙ i in cc)

module _ {E : Type 0} (X : Election E) (W : Layout → ℕ) (B : Layout → ℕ → ℕ → E → Type 0) where
  -- what the elections keep
  pub record ElectionsKeep : Type 0 where
    pub starts : (x : Layout) (me at : ℕ) → me < x.senders → x.senders ≤ 64
        → B x me at (X.started x.senders me x.rounds at)
    pub above : (x : Layout) (me at : ℕ) (e : E) (word : ℕ) (o : Op) → B x me at e
        → X.op e word ≡ Some o → at ≤ register o
    pub below : (x : Layout) (me at : ℕ) (e : E) (word : ℕ) (o : Op) → B x me at e
        → X.op e word ≡ Some o → register o < at + W x
    pub goes : (x : Layout) (me at : ℕ) (e : E) (got word : ℕ) (o : Op) → B x me at e
        → X.op e word ≡ Some o → B x me at (X.fed e got word)

-- Each step of a holder has its cause, and each kind of a ratifier its time.
use Rattle.std.proofs.Common.{◌≡◌, ℕ, ◌+◌, ◌<◌, ◌≤◌, ◌⊎◌, inl, inr, Bool, true, false, cond}
use Rattle.std.proofs.Common.{Option, Some, None, is_some, arith, refl, sym, ◌∙◌, ap, subst}
use Rattle.std.proofs.lemmas.Bool.{leb-true, leb-false, ltb-true, ltb-false, true≢false}
use Rattle.bus_register.specs.declared.kinds.Kind.{Kind}
use Rattle.bus_register.specs.declared.kinds.Kind.TheVariants.{WriteFirst, ReadFirst, WriteSecond}
use Rattle.bus_register.specs.declared.kinds.Kind.TheVariants.{ReadSecond}
use Rattle.bus_register.specs.declared.registers.Op.{Op}
use Rattle.bus_register.specs.Protocol.{Protocol}
use Rattle.bus_adoptcommit.specs.declared.verdicts.Verdict.{Verdict}
use Rattle.bus_adoptcommit.specs.Kinds.{IsOfRatifier, IsNamedFor}
use Rattle.bus_tenure.specs.declared.pages.Page.{Page}
use Rattle.bus_tenure.specs.declared.phases.Reason.{Reason}
use Rattle.bus_tenure.specs.declared.phases.Reason.TheVariants.{Sent, FoundEnd, NoRoom}
use Rattle.bus_tenure.specs.declared.phases.Phase.TheVariants.{Holding}
use Rattle.bus_tenure.specs.Core.{Core, frame_len}
use Rattle.bus_tenure.specs.Situations.{Situation, GivesBack, StoresWord, StoresLength, holding}
use Rattle.bus_tenure.specs.Causes.{HasWordLeft, HasStoredAll, LeavesPage, HoldsUnfitting}
use Rattle.bus_tenure.specs.Keeping.{SenderInvariant, PhaseKeeps, IsHolding}

-- ---- a holder of the page
module _ {E : Type 0} (t : ℕ) (page : Page) (stored : ℕ) where
  abbrev told : Bool → Bool → Bool → Bool → Situation E
  told p e r l = cond p (GivesBack t page Sent) (cond e (GivesBack t page FoundEnd)
      (cond r (cond l (StoresWord t page stored) (StoresLength t page stored))
      (GivesBack t page NoRoom)))

  pub told_word : (p e r l : Bool) → told p e r l ≡ StoresWord t page stored
      → (p ≡ false) × (e ≡ false) × (r ≡ true) × (l ≡ true)
  told_word true e r l h = absurd cc
  told_word false true r l h = absurd cc
  told_word false false false l h = absurd cc
  told_word false false true false h = absurd cc
  told_word false false true true h = (refl, refl, refl, refl)

  told_length : (p e r l : Bool) → told p e r l ≡ StoresLength t page stored
      → (p ≡ false) × (e ≡ false) × (r ≡ true) × (l ≡ false)
  told_length true e r l h = absurd cc
  told_length false true r l h = absurd cc
  told_length false false false l h = absurd cc
  told_length false false true true h = absurd cc
  told_length false false true false h = (refl, refl, refl, refl)

  told_unfitting : (p e r l : Bool) → told p e r l ≡ GivesBack t page NoRoom
      → (p ≡ false) × (e ≡ false) × (r ≡ false)
  told_unfitting true e r l h = absurd cc
  told_unfitting false true r l h = absurd cc
  told_unfitting false false false l h = (refl, refl, refl)
  told_unfitting false false true true h = absurd cc
  told_unfitting false false true false h = absurd cc

  told_back : (p e r l : Bool) (reason : Reason) → told p e r l ≡ GivesBack t page reason
      → (p ≡ true) ⊎ ((e ≡ true) ⊎ (r ≡ false))
  told_back true e r l reason h = inl refl
  told_back false true r l reason h = inr (inl refl)
  told_back false false false l reason h = inr (inr refl)
  told_back false false true true reason h = absurd cc
  told_back false false true false reason h = absurd cc

module _ {E : Type 0} (c : Core E) (t : ℕ) (page : Page) (stored : ℕ) (published : Bool)
    (at : c.phase ≡ Holding t page stored published) where
  -- who stores a word of its frame has room for it, and that word left
  pub word_room : holding c t page stored published ≡ StoresWord t page stored
      → (page.words + frame_len c ≤ c.layout.capacity + page.floor) × (stored < frame_len c)
  word_room h =
      let q = told_word {E = E} t page stored published _ _ _ h in
      (leb-true _ _ q.2, ltb-true _ _ q.3)

  -- and so has who stores the length
  pub length_room : holding c t page stored published ≡ StoresLength t page stored
      → page.words + frame_len c ≤ c.layout.capacity + page.floor
  length_room h = leb-true _ _ (told_length {E = E} t page stored published _ _ _ h).2

  pub word_cause : holding c t page stored published ≡ StoresWord t page stored → HasWordLeft c
  word_cause h =
      let q = told_word {E = E} t page stored published _ _ _ h in
      record {
        stored = stored;
        holds = record {
          tenure = t;
          page = page;
          holds = at ∙ ap (Holding t page stored) q.0;
          not_ended = q.1;
          room = leb-true _ _ q.2;
        };
        word_left = ltb-true _ _ q.3;
      }

  pub length_cause : (Belongs : ℕ → E → Type 0) (width : ℕ) → SenderInvariant width Belongs c
      → holding c t page stored published ≡ StoresLength t page stored → HasStoredAll c
  length_cause Belongs width k h =
      let q = told_length {E = E} t page stored published _ _ _ h in
      let i : IsHolding c t page stored published = subst (PhaseKeeps Belongs c) at k.phase in
      let over : frame_len c ≤ stored = ltb-false _ _ q.3 in
      let within = i.within in
      let all : stored ≡ frame_len c = omega arith in
      record {
        holds = record {
          tenure = t;
          page = page;
          holds = at ∙ ap (Holding t page stored) q.0 ∙ ap (λ z. Holding t page z false) all;
          not_ended = q.1;
          room = leb-true _ _ q.2;
        };
      }

  pub back_cause : (reason : Reason) → holding c t page stored published ≡ GivesBack t page reason
      → LeavesPage c
  back_cause reason h = record {
    tenure = t;
    page = page;
    stored = stored;
    published = published;
    holds = at;
    why = elim (told_back {E = E} t page stored published _ _ _ reason h) [
      | inl x ↦ inl x
      | inr y ↦ elim y [ inl x ↦ inr (inl x) | inr x ↦ inr (inr (leb-false _ _ x)) ]
    ];
  }

  pub unfitting_cause : holding c t page stored published ≡ GivesBack t page NoRoom
      → HoldsUnfitting c
  unfitting_cause h =
      let q = told_unfitting {E = E} t page stored published _ _ _ h in
      record {
        tenure = t;
        page = page;
        stored = stored;
        holds = at ∙ ap (Holding t page stored) q.0;
        goes_on = q.1;
        full = leb-false _ _ q.2;
      }

-- ---- a ratifier
-- a kind of a ratifier that stands to what its local state has begun: only the first step stores a
-- proposal
abbrev pub IsTimely : {S : Type 0} → Protocol S Bool Verdict → S → Kind → Type 0
IsTimely P s k =
    ((k ≡ WriteFirst) × (P.has_begun s ≡ false))
    ⊎ (((k ≡ ReadFirst) ⊎ ((k ≡ WriteSecond) ⊎ (k ≡ ReadSecond))) × (P.has_begun s ≡ true))

-- a kind comes with a step
named_step : (kind : Option Kind) (op : Option Op) (k : Kind) → is_some kind ≡ is_some op
    → kind ≡ Some k → (o : Op) × (op ≡ Some o)
named_step kind (Some o) k e is = (o, refl)
named_step kind None k e is = absurd (true≢false (sym (ap is_some is) ∙ e))

later : (k : Kind) (begun : Bool) → (begun ≡ false → k ≡ WriteFirst) → (k ≡ WriteFirst → ⊥)
    → begun ≡ true
later k true first ne = refl
later k false first ne = absurd (ne (first refl))

module _ {S : Type 0} (P : Protocol S Bool Verdict) (kind : S → Option Kind)
    (op : S → ℕ → Option Op) (named : (s : S) (word : ℕ) → is_some (kind s) ≡ is_some (op s word))
    (own : (s : S) (k : Kind) → kind s ≡ Some k → IsOfRatifier k)
    (named_for : (s : S) (k : Kind) (word : ℕ) (o : Op) → kind s ≡ Some k → op s word ≡ Some o
    → IsNamedFor k o (P.has_begun s)) where
  timely_at : (s : S) (k : Kind) (o : Op) → IsNamedFor k o (P.has_begun s) → IsOfRatifier k
      → IsTimely P s k
  timely_at s k o f (inl x) = inl (x, f.proposes x)
  timely_at s k o f (inr (inl x)) = inr (
    inl x,
    later k (P.has_begun s) f.first (λ y. let z = sym x ∙ y in cc),
  )
  timely_at s k o f (inr (inr (inl x))) = inr (
    inr (inl x),
    later k (P.has_begun s) f.first (λ y. let z = sym x ∙ y in cc),
  )
  timely_at s k o f (inr (inr (inr x))) = inr (
    inr (inr x),
    later k (P.has_begun s) f.first (λ y. let z = sym x ∙ y in cc),
  )

  pub timely : (s : S) (k : Kind) → kind s ≡ Some k → IsTimely P s k
  timely s k is =
      let step = named_step (kind s) (op s 0) k (named s 0) is in
      timely_at s k step.0 (named_for s k 0 step.0 is step.1) (own s k is)

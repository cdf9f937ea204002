-- A situation, from what code sees of it.
use Rattle.std.proofs.Common.{◌≡◌, inl, inr, ℕ, Bool, true, false, cond, is_some, refl, ◌∙◌, ap}
use Rattle.std.proofs.Common.{subst}
use Rattle.bus_tenure.specs.Core.{Core, Election}
use Rattle.bus_tenure.specs.Situations.{Situation as Own, Elects, TakesPage, StoresWord}
use Rattle.bus_tenure.specs.Situations.{StoresLength, GivesBack, HasHanded, situation_of}
use Rattle.bus_tenure.specs.Situations.{situation_at}
use Rattle.bus_tenure.specs.declared.pages.Page.{Page}
use Rattle.bus_tenure.specs.declared.phases.Reason.{Reason}
use Rattle.bus_tenure.specs.declared.phases.Phase.TheVariants.{Electing, Holding, Giving}
use Rattle.bus_tenure.proofs.Situated.{tells}
use Rattle.bus_tenure.specs.Keeping.{SenderInvariant, PhaseKeeps, IsInTenure}
use Rattle.bus_tenure.specs.Doings.{doing_of, Ends}
use Rattle.bus_tenure.specs.declared.doings.Doing.TheVariants as doing

module _ {E : Type 0} where
  -- who is seen to store a word does so, on a page with so many words
  pub word_is : (z : Own E) (t words stored : ℕ) → doing_of z ≡ doing.Word t words stored
      → (page : Page) × (page.words ≡ words)
      × (z ≡ StoresWord t page stored)
  word_is (StoresWord u page at) t words stored i =
      let s : u ≡ t = cc in
      let w : page.words ≡ words = cc in
      let a : at ≡ stored = cc in
      (page, w, ap (λ y. StoresWord y page at) s ∙ ap (StoresWord t page) a)
  word_is z t words stored i = absurd cc

  -- who is seen to store the length does so, on a page with so many words
  pub length_is : (z : Own E) (t words : ℕ) → doing_of z ≡ doing.Length t words
      → (page : Page) × (stored : ℕ) × (page.words ≡ words)
      × (z ≡ StoresLength t page stored)
  length_is (StoresLength u page at) t words i =
      let s : u ≡ t = cc in
      let w : page.words ≡ words = cc in (page, at, w, ap (λ y. StoresLength y page at) s)
  length_is z t words i = absurd cc

  -- who is seen to give a page back has one
  pub back_is : (z : Own E) (t : ℕ) (reason : Reason) → doing_of z ≡ doing.Back t reason
      → (page : Page) × (z ≡ GivesBack t page reason)
  back_is (GivesBack u page r) t reason i =
      let s : u ≡ t = cc in
      let w : r ≡ reason = cc in (page, ap (λ y. GivesBack y page r) s ∙ ap (GivesBack t page) w)
  back_is z t reason i = absurd cc

  -- who is seen to have handed the page on has done so
  pub handed_is : (z : Own E) (t : ℕ) (reason : Reason) → doing_of z ≡ doing.Handed t reason
      → z ≡ HasHanded t reason
  handed_is (HasHanded u r) t reason i =
      let s : u ≡ t = cc in
      let w : r ≡ reason = cc in ap (λ y. HasHanded y r) s ∙ ap (HasHanded t) w
  handed_is z t reason i = absurd cc

module _ {E : Type 0} (X : Election E) where
  -- whose election goes on has no owner yet
  unowned_at : (t u : ℕ) (e : E) (b : Bool) → is_some (X.owner e) ≡ b
      → doing_of (cond b (TakesPage t) (Elects t e)) ≡ doing.Elects u
      → (is_some (X.owner e) ≡ false) × (t ≡ u)
  unowned_at t u e true i d = absurd cc
  unowned_at t u e false i d = (i, cc)

  -- the same of the phase that it is in
  pub unowned : (c : Core E) (t u : ℕ) (e : E) → c.phase ≡ Electing t e
      → doing_of (situation_of X c) ≡ doing.Elects u
      → (is_some (X.owner e) ≡ false) × (t ≡ u)
  unowned c t u e at d = unowned_at t u e (is_some (X.owner e)) refl
      (subst (λ p. doing_of (situation_at X c p) ≡ doing.Elects u) at d)

  -- the page of who gives one back
  pub back_at : (c : Core E) (t : ℕ) (reason : Reason)
      → doing_of (situation_of X c) ≡ doing.Back t reason
      → (page : Page) × (stored : ℕ) × (published : Bool)
      × (c.phase ≡ Holding t page stored published) × (situation_of X c ≡ GivesBack t page reason)
  back_at c t reason d =
      let z = back_is (situation_of X c) t reason d in
      let ph = tells X c (GivesBack t z.0 reason) z.1 in
      (z.0, ph.0, ph.1, ph.2, z.1)

  -- who ends a tenure is in it
  pub in_tenure : (width : ℕ) (Belongs : ℕ → E → Type 0) (c s : Core E) → c ≡ s
      → SenderInvariant width Belongs c → (t : ℕ) (reason : Reason)
      → Ends (doing_of (situation_of X s)) t reason → IsInTenure s t
  in_tenure width Belongs c s same k t reason (inl d) =
      let b = back_at s t reason d in
      let h : PhaseKeeps Belongs c (Holding t b.0 b.1 b.2) =
      subst (PhaseKeeps Belongs c) (ap (λ y. y.phase) same ∙ b.3) k.phase in
      subst (λ y. IsInTenure y t) same h.in_tenure
  in_tenure width Belongs c s same k t reason (inr d) =
      let ph = tells X s (HasHanded t reason) (handed_is (situation_of X s) t reason d) in
      let h : PhaseKeeps Belongs c (Giving t reason) =
      subst (PhaseKeeps Belongs c) (ap (λ y. y.phase) same ∙ ph) k.phase in
      subst (λ y. IsInTenure y t) same h

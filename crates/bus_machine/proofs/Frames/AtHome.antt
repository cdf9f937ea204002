-- Where the page is, and who takes and holds it, by what senders, words and page always keep.
use Rattle.std.proofs.Common.{◌≡◌, ℕ, ◌+◌, ◌*◌, true, is_some, Option, Some, None, List, refl, sym}
use Rattle.std.proofs.Common.{◌∙◌, ap, arith}
use Rattle.std.proofs.lemmas.Bool.{true≢false}
use Rattle.bus_batch.specs.Frames.{Frame, has_end}
use Rattle.bus_core.specs.Reusing.Keeping.{held_of}
use Rattle.bus_ownerbits.specs.OneOwner.{OneOwner}
use Rattle.bus_register.specs.Protocol.{Protocol, Laws}
use Rattle.bus_register.specs.Tables.{of_some}
use Rattle.bus_tenure.proofs.Situated.{tells}
use Rattle.bus_tenure.specs.Core.{Core, Election, Layout}
use Rattle.bus_tenure.specs.Situations.{TakesPage, situation_of}
use Rattle.bus_tenure.specs.declared.pages.Page.{Page}
use Rattle.bus_world.proofs.TenuresLaws as tenures
use Rattle.bus_world.proofs.TurningLaws.{at_home}
use Rattle.bus_world.specs.World.{IsLayout}
use Rattle.bus_world.specs.Private.Sending.{Sending, standing_of, stands_at, least_of}
use Rattle.bus_world.specs.Private.Tenures.Stage.{Open, Held}
use Rattle.bus_world.specs.Private.Tenures.Standing.{Runs, Holds}
use Rattle.bus_machine.specs.Promise.{IsPagedBy}
use Rattle.bus_tenure.specs.declared.phases.Phase.{Phase}
use Rattle.bus_tenure.specs.declared.phases.Phase.TheVariants as phase
use Rattle.std.proofs.lemmas.Option.{same_Some}
use Rattle.std.proofs.lemmas.Grind.{common_steps}

-- what there is
pub some_is : {A : Type 0} (o : Option A) → is_some o ≡ true → (a : A) × (o ≡ Some a)
some_is None e = absurd (true≢false (sym e))
some_is (Some a) e = (a, refl)

-- who has taken a page, and not given it back
pub held_stands : {E : Type 0} (ph : Phase E) (t : ℕ) → held_of ph ≡ Some t → stands_at ph ≡ Holds t
held_stands phase.Resting t e = absurd cc
held_stands (phase.Electing u f) t e = absurd cc
held_stands (phase.Taken u) t e = ap Holds (same_Some _ _ e)
held_stands (phase.Holding u page stored published) t e = ap Holds (same_Some _ _ e)
held_stands (phase.Giving u reason) t e = ap Holds (same_Some _ _ e)

-- ---- of any senders
module _ {base : ℕ → ℕ} {E : Type 0} (X : Election E) (P : Protocol E (Unit {0}) ℕ)
    (laws : Laws X.op X.fed P OneOwner) (x : Layout) (ok : IsLayout x)
    (width : x.width ≡ P.width x.senders)
    (starts : (n me at : ℕ) → X.started n me x.rounds at ≡ P.started n me tt at)
    (owner_is : (e : E) → X.owner e ≡ P.output e)
    (words : ℕ → ℕ) (home : Option Page) (senders : ℕ → Option (Core E)) (owners : List ℕ)
    (frames : List Frame) (h : Sending base P x words home senders owners frames) where
  -- stage and length tell where the page is
  pub paged : IsPagedBy (words 1) (words 0) (has_end frames) home
  paged = by home refl where
    by : (o : Option Page) → home ≡ o → IsPagedBy (words 1) (words 0) (has_end frames) o
    by None e = elim h.tenures.stage_is [
      | Open stage here many ↦ absurd (true≢false (sym here ∙ ap is_some e))
      | Held holder stage away many holds ↦ (h.tenures.ended, stage)
    ]
    by (Some page) e = elim h.tenures.stage_is [
      | Open stage here many ↦
          (let k = (h.page_knows page h.tenures.ended e stage).0 in
          (stage ∙ ap (λ n. 2 * n) (sym k.tenures), k.words, k.ended))
      | Held holder stage away many holds ↦ absurd (true≢false (sym (ap is_some e) ∙ away))
    ]

  module _ (p : ℕ) (c : Core E) (old : senders p ≡ Some c) (t : ℕ) where
    -- who takes it finds it
    pub finds_page : situation_of X c ≡ TakesPage t
        → (page : Page) × (home ≡ Some page) × (words 1 ≡ 2 * t)
    finds_page i =
        let k = tells X c (TakesPage t) i in
        let o = some_is (X.owner k.0) k.2 in
        let runs : of_some standing_of (senders p) ≡ Some (Runs t k.0) =
        ap (of_some standing_of) old ∙ ap (λ w. Some (stands_at w)) k.1 in
        let out : P.output k.0 ≡ Some o.0 = sym (owner_is k.0) ∙ o.1 in
        let own : P.output k.0 ≡ Some p = out ∙ ap Some (h.chosen p c t k.0 o.0 old k.1 out) in
        let f = tenures.finds_home X.op X.fed P laws x.senders x.rows 2 words (words 1)
        (is_some home) (λ q. of_some standing_of (senders q)) (λ q. least_of (senders q)) owners
        h.tenures p t k.0 runs own in
        grind (arith, common_steps, at_home)

    -- who holds it holds that of the tenure
    pub holds_page : held_of c.phase ≡ Some t → words 1 ≡ 2 * t + 1
    holds_page e =
        (h.tenures.holding p t (ap (of_some standing_of) old ∙ ap Some (held_stands c.phase t e))).1

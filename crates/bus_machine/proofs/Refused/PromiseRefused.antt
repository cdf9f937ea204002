-- Each of the wrong behaviours is refused.
use Rattle.std.proofs.Common.{◌≡◌, ℕ, ◌≤◌, Some, None, List, [], ◌∷◌, ◌++◌, All, length, slice_get}
use Rattle.std.proofs.Common.{arith, sym, ◌∙◌, ap, subst}
use Rattle.std.proofs.lemmas.List.Elements.{All-head, All-tail}
use Rattle.bus_batch.proofs.FrameLaws.{same_log}
use Rattle.bus_batch.specs.Frames.{Frame, items_of}
use Rattle.bus_tenure.specs.Core.{Election}
use Rattle.bus_machine.specs.Machine.{Machine, Trails}
use Rattle.bus_machine.specs.Promise.{IsPromised, ReusesRows, ReusesSafely}
use Rattle.bus_machine.specs.PromiseRefusals.{PromiseRefuses}

nothing_at : {A : Type 0} (i : ℕ) (x : A) (l : List A) → l ≡ [] → slice_get l i ≡ Some x → ⊥
nothing_at i x l none e =
    absurd (let bad : None ≡ Some x = sym (ap (λ w. slice_get w i) none) ∙ e in cc)

reuses : {E : Type 0} (X : Election E) (m : Machine E) (T : Trails) (rows : ℕ) → m.reuse ≡ Some rows
    → IsPromised X m T → ReusesRows X m T rows
reuses X m T rows some kept = subst (ReusesSafely X m T) some kept.by.reuse

-- what is so of all frames is so of one among them
few_within : (most : ℕ) (front rest : List Frame) (f : Frame)
    → All (λ g. length (items_of g) ≤ most) (front ++ f ∷ rest) → length (items_of f) ≤ most
few_within most [] rest f few = All-head (λ (g : Frame). length (items_of g) ≤ most) f rest few
few_within most (h ∷ front) rest f few = few_within most front rest f
    (All-tail (λ (g : Frame). length (items_of g) ≤ most) h (front ++ f ∷ rest) few)

pub refused : {E : Type 0} (X : Election E) (m : Machine E) (T : Trails) → PromiseRefuses X m T
refused {E} X m T = record {
  owners = record {
    two_owners = λ t s s' o o' e f apart kept. apart (kept.by.promises.one_owner t s s' o o' e f);
    owner_without_page = λ t s none owns untaken kept.
        let told = kept.by.takers in
        let all =
        sym (told.told ∙ ap (λ r. Rattle.bus_machine.specs.Machine.owners_told r told.all) none) in
        let took = told.takers.took t s (ap (λ l. slice_get l t) all ∙ owns) in
        untaken took.0 took.1;
  };
  rows = λ rows some. record {
    enters_without_presence = λ p v t e at elects none kept.
        let s = (reuses X m T rows some kept).stands p v t e at elects in
        nothing_at s.entered _ (T.pins p) none s.enters;
    two_tenures_of_a_row = λ p q v w t u e f at elects there runs row apart kept.
        let k = reuses X m T rows some kept in
        apart (k.safe.alone p q t u (k.stands p v t e at elects) (k.stands q w u f there runs) row);
    steps_past_the_row = λ p t word v e o at i next far kept.
        let w = ((reuses X m T rows some kept).within p t word v e o at i next).1 in omega arith;
    holds_without_reclaimer = λ p v t at held stage used none kept.
        let k = reuses X m T rows some kept in
        let l = k.ready t stage (sym (k.holder p v t at held) ∙ none) in omega arith;
  };
  long_frame = λ front rest f lawful are long kept.
      let s = kept.by.spelled in
      let same = same_log m.layout.senders 0 0 s.frames (front ++ f ∷ rest) s.lawful lawful
      (s.words_are ∙ sym are) in
      let low = few_within m.layout.batch front rest f
      (subst (All (λ (g : Frame). length (items_of g) ≤ m.layout.batch)) same kept.by.few) in
      omega arith;
}

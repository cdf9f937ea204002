-- The objects of a decision keep the law that a chain asks, and a decision keeps its law.
use Rattle.std.proofs.Common.{◌≡◌, ℕ, Bool, true, false, Option, Some, None, IsSome, refl, sym}
use Rattle.std.proofs.Common.{◌∙◌, ap}
use Rattle.std.proofs.lemmas.Option.{same_Some}
use Rattle.bus_register.specs.declared.registers.Op.{Op}
use Rattle.bus_register.specs.Protocol.{Protocol, Laws, IsStore}
use Rattle.bus_adoptcommit.specs.declared.verdicts.Verdict.{Verdict}
use Rattle.bus_adoptcommit.specs.declared.verdicts.Verdict.TheVariants.{Commit, Adopt}
use Rattle.bus_adoptcommit.specs.Agreement.{Legal, value_of}
use Rattle.bus_binconsensus.specs.declared.objects.Object.{Object}
use Rattle.bus_binconsensus.specs.declared.objects.Object.TheVariants.{Ratify, Concile, Fall}
use Rattle.bus_binconsensus.specs.Deciding.{Decides, IsChosen}
use Rattle.bus_binconsensus.specs.Fallback.{op_of, fed_of, fallback_protocol}
use Rattle.bus_binconsensus.proofs.FallbackLaws.{fallback_laws}
use Rattle.bus_binconsensus.proofs.ChainLaws.{chain_laws}
use Rattle.bus_binconsensus.specs.Lift.{lifted_option}
use Rattle.bus_binconsensus.proofs.LiftLaws.{Ends, lift_laws}
use Rattle.bus_binconsensus.specs.Objects.{Part, part_at, first_of, object_op, object_fed}
use Rattle.bus_binconsensus.specs.Objects.{object_output, object_begun, object_wants, reads_of}
use Rattle.bus_binconsensus.specs.Objects.{part_protocol, objects_of, decide_op, decide_fed}
use Rattle.bus_binconsensus.specs.Objects.{decide_protocol}
use Rattle.bus_binconsensus.specs.Objects.Part.{Ratifier, Conciliator, FallbackWord}
use Rattle.bus_binconsensus.proofs.ChainSteps.{HandsOn}

lifted_own : {A : Type 0} (o : Option A) → lifted_option (λ x. x) o ≡ o
lifted_own None = refl
lifted_own (Some x) = refl

lifted_is : {A B : Type 0} (f : A → B) (o : Option A) (y : B) → lifted_option f o ≡ Some y
    → (x : A) × (o ≡ Some x) × (f x ≡ y)
lifted_is f None y e = absurd cc
lifted_is f (Some x) y e = (x, refl, same_Some _ _ e)

lifted_none : {A B : Type 0} (f : A → B) (o : Option A) → o ≡ None → lifted_option f o ≡ None
lifted_none f o e = ap (lifted_option f) e

lifted_stands : {A B : Type 0} (f : A → B) (o : Option A) → IsSome o → IsSome (lifted_option f o)
lifted_stands f None s = absurd cc
lifted_stands f (Some x) s = refl

-- legal outputs
ratifier_tells : (ins ins' : ℕ → Option Bool) (outs outs' : ℕ → Option Verdict) → Legal ins outs
    → ((p : ℕ) → ins' p ≡ ins p) → ((p : ℕ) → outs' p ≡ lifted_option (λ x. x) (outs p))
    → HandsOn ins' outs'
ratifier_tells ins ins' outs outs' l same told =
    let own : (p : ℕ) → outs' p ≡ outs p = λ p. told p ∙ lifted_own (outs p) in
    record {
      valid = λ p d e. let a = l.valid p d (sym (own p) ∙ e) in (a.0, same a.0 ∙ a.1);
      coherent = λ p q v d e f. l.coherent p q v d (sym (own p) ∙ e) (sym (own q) ∙ f);
    }

-- outputs that are inputs, all adopted
adopts_tell : (ins ins' : ℕ → Option Bool) (outs : ℕ → Option Bool) (outs' : ℕ → Option Verdict)
    → IsChosen ins outs → ((p : ℕ) → ins' p ≡ ins p)
    → ((p : ℕ) → outs' p ≡ lifted_option Adopt (outs p)) → HandsOn ins' outs'
adopts_tell ins ins' outs outs' chosen same told = record {
  valid = λ p d e.
      let a = lifted_is Adopt (outs p) d (sym (told p) ∙ e) in
      let b = chosen p a.0 a.1 in
      (b.0, same b.0 ∙ b.1 ∙ ap (λ z. Some (value_of z)) a.2);
  coherent = λ p q v d e f.
      absurd (let a = lifted_is Adopt (outs p) (Commit v) (sym (told p) ∙ e) in let g = a.2 in cc);
}

-- equal outputs that are inputs, all committed
commits_tell : (ins ins' : ℕ → Option Bool) (outs : ℕ → Option Bool) (outs' : ℕ → Option Verdict)
    → Decides ins outs → ((p : ℕ) → ins' p ≡ ins p)
    → ((p : ℕ) → outs' p ≡ lifted_option Commit (outs p)) → HandsOn ins' outs'
commits_tell ins ins' outs outs' d same told = record {
  valid = λ p x e.
      let a = lifted_is Commit (outs p) x (sym (told p) ∙ e) in
      let b = d.chosen p a.0 a.1 in
      (b.0, same b.0 ∙ b.1 ∙ ap (λ z. Some (value_of z)) a.2);
  coherent = λ p q v x e f.
      let a = lifted_is Commit (outs p) (Commit v) (sym (told p) ∙ e) in
      let b = lifted_is Commit (outs q) x (sym (told q) ∙ f) in
      let c : a.0 ≡ v = ap value_of a.2 in
      let g : b.0 ≡ value_of x = ap value_of b.2 in
      sym g ∙ d.agrees q p b.0 a.0 b.1 a.1 ∙ c;
}

module _ {S T : Type 0} (op : S → ℕ → Option Op) (fed : S → ℕ → ℕ → S) (P : Protocol S Bool Verdict)
    (laws : Laws op fed P Legal)
    (opC : T → ℕ → Option Op) (fedC : T → ℕ → ℕ → T) (C : Protocol T Bool Bool)
    (OutC : (ℕ → Option Bool) → (ℕ → Option Bool) → Type 0) (lawsC : Laws opC fedC C OutC)
    (chosen : (ins outs : ℕ → Option Bool) → OutC ins outs → IsChosen ins outs) where
  objects_end : Ends (object_op op opC) (object_fed fed fedC) (reads_of P C)
  objects_end = record {
    ends = λ x word.
        elim x as (λ z.
        object_op op opC z word ≡ None
        → IsSome (object_output P C z) × (object_begun P C z ≡ true)) [
          | Ratify q ↦ λ e. laws.ends q word e
          | Concile c ↦
              λ e. let a = lawsC.ends c word e in (lifted_stands Adopt (C.output c) a.0, a.1)
          | Fall f ↦
              λ e. let a = fallback_laws.ends f word e in (lifted_stands Commit f.decided a.0, a.1)
        ];
    unended =
        λ x word o. elim x as (λ z. object_op op opC z word ≡ Some o → object_output P C z ≡ None) [
          | Ratify q ↦ λ e. laws.unended q word o e
          | Concile c ↦ λ e. lifted_none Adopt (C.output c) (lawsC.unended c word o e)
          | Fall f ↦ λ e. lifted_none Commit f.decided (fallback_laws.unended f word o e)
        ];
    unmoved = λ x got word word'.
        elim x as (λ z.
        object_wants P C z ≡ false
        → (object_op op opC z word ≡ object_op op opC z word')
        × (object_fed fed fedC z got word ≡ object_fed fed fedC z got word')) [
          | Ratify q ↦ λ e. let a = laws.unmoved q got word word' e in (a.0, ap Ratify a.1)
          | Concile c ↦ λ e. let a = lawsC.unmoved c got word word' e in (a.0, ap Concile a.1)
          | Fall f ↦ λ e. (refl, refl)
        ];
    blind = λ x got got' word o.
        elim x as (λ z.
        object_op op opC z word ≡ Some o → IsStore o
        → object_fed fed fedC z got word ≡ object_fed fed fedC z got' word) [
          | Ratify q ↦ λ e s. ap Ratify (laws.blind q got got' word o e s)
          | Concile c ↦ λ e s. ap Concile (lawsC.blind c got got' word o e s)
          | Fall f ↦ λ e s. ap Fall (fallback_laws.blind f got got' word o e s)
        ];
  }

  part_laws : (part : Part)
      → Laws (object_op op opC) (object_fed fed fedC) (part_protocol P C part) HandsOn
  part_laws Ratifier = lift_laws op fed P Legal laws (object_op op opC) (object_fed fed fedC)
      (reads_of P C) Ratify (λ x. x)
      record {
        op_is = λ s word. refl;
        fed_is = λ s got word. refl;
        input_is = λ s. refl;
        begun_is = λ s. refl;
        output_is = λ s. sym (lifted_own (P.output s));
        left_is = λ s. refl;
      } objects_end ratifier_tells
  part_laws Conciliator = lift_laws opC fedC C OutC lawsC (object_op op opC) (object_fed fed fedC)
      (reads_of P C) Concile Adopt
      record {
        op_is = λ s word. refl;
        fed_is = λ s got word. refl;
        input_is = λ s. refl;
        begun_is = λ s. refl;
        output_is = λ s. refl;
        left_is = λ s. refl;
      } objects_end
      (λ ins ins' outs outs' o. adopts_tell ins ins' outs outs' (chosen ins outs o))
  part_laws FallbackWord = lift_laws (λ s word. op_of s) (λ s got word. fed_of s got)
      fallback_protocol Decides fallback_laws (object_op op opC) (object_fed fed fedC)
      (reads_of P C) Fall Commit
      record {
        op_is = λ s word. refl;
        fed_is = λ s got word. refl;
        input_is = λ s. refl;
        begun_is = λ s. refl;
        output_is = λ s. refl;
        left_is = λ s. refl;
      } objects_end commits_tell

  pub objects_law : (k : ℕ)
      → Laws (object_op op opC) (object_fed fed fedC) (objects_of P C k) HandsOn
  objects_law k =
      let by : (part : Part)
      → Laws (object_op op opC) (object_fed fed fedC) (record (part_protocol P C part) {
        input = (reads_of P C).input;
        has_begun = (reads_of P C).has_begun;
        output = (reads_of P C).output;
        wants_word = (reads_of P C).wants_word;
        left = (reads_of P C).left;
      }) HandsOn =
      λ part.
      elim part as (λ z. Laws (object_op op opC) (object_fed fed fedC)
      (record (part_protocol P C z) {
        input = (reads_of P C).input;
        has_begun = (reads_of P C).has_begun;
        output = (reads_of P C).output;
        wants_word = (reads_of P C).wants_word;
        left = (reads_of P C).left;
      }) HandsOn) [
        | Ratifier ↦ part_laws Ratifier
        | Conciliator ↦ part_laws Conciliator
        | FallbackWord ↦ part_laws FallbackWord
      ] in
      by (part_at k)

  fallback_commits : (n me at : ℕ) (x : Object S T) (v : Bool)
      → (objects_of P C 0).Belongs n me at x → object_output P C x ≡ Some (Adopt v) → ⊥
  fallback_commits n me at x v b e =
      let f : lifted_option Commit b.inner.decided ≡ Some (Adopt v) =
      ap (object_output P C) (sym b.is) ∙ e in
      let a = lifted_is Commit b.inner.decided (Adopt v) f in
      let g = a.2 in
      absurd cc

  pub decide_laws : (rounds : ℕ)
      → Laws (decide_op op opC) (decide_fed P C fed fedC) (decide_protocol P C rounds) Decides
  decide_laws rounds = chain_laws (object_op op opC) (object_fed fed fedC) (objects_of P C)
      objects_law fallback_commits (first_of rounds)

-- A lifted protocol keeps the law of what it was lifted from.
use Rattle.std.proofs.Common.{◌≡◌, ℕ, ◌<◌, ◌≤◌, Bool, true, false, Option, Some, None, IsSome, inl}
use Rattle.std.proofs.Common.{inr, arith, refl, sym, ◌∙◌, ap}
use Rattle.std.proofs.lemmas.Bool.{cases_eq}
use Rattle.std.proofs.lemmas.Option.{same_Some}
use Rattle.bus_register.specs.declared.registers.Op.{Op}
use Rattle.bus_register.specs.Words.{register}
use Rattle.bus_register.specs.Tables.{of_some, Beside, Stepped, put}
use Rattle.bus_register.specs.Private.TableLaws.{put_here, put_beside}
use Rattle.bus_register.specs.Protocol.{Protocol, Laws, Goes, IsStore, counted_input, inputs}
use Rattle.bus_register.specs.Protocol.{outputs}
use Rattle.bus_adoptcommit.specs.declared.verdicts.Verdict.{Verdict}
use Rattle.bus_binconsensus.specs.Lift.{Reads, lifted_option, LiftBelongs, LiftKeeps, lift}
use Rattle.bus_binconsensus.proofs.ChainSteps.{HandsOn}

lifted_none : {A B : Type 0} (f : A → B) (o : Option A) → None ≡ lifted_option f o → o ≡ None
lifted_none f None e = refl
lifted_none f (Some x) e = absurd cc

lifted_some : {A B : Type 0} (f : A → B) (o : Option A) (y : B) → Some y ≡ lifted_option f o
    → (x : A) × (o ≡ Some x) × (y ≡ f x)
lifted_some f None y e = absurd cc
lifted_some f (Some x) y e = (x, refl, same_Some _ _ e)

-- the laws of a machine that do not speak of words
pub record Ends {X : Type 0} (op : X → ℕ → Option Op) (fed : X → ℕ → ℕ → X) (reads : Reads X) :
    Type 0 where
  pub ends : (x : X) (word : ℕ) → op x word ≡ None
      → IsSome (reads.output x) × (reads.has_begun x ≡ true)
  pub unended : (x : X) (word : ℕ) (o : Op) → op x word ≡ Some o → reads.output x ≡ None
  pub unmoved : (x : X) (got word word' : ℕ) → reads.wants_word x ≡ false
      → (op x word ≡ op x word') × (fed x got word ≡ fed x got word')
  pub blind : (x : X) (got got' word : ℕ) (o : Op) → op x word ≡ Some o → IsStore o
      → fed x got word ≡ fed x got' word

-- the steps and readings of local states of this kind are those of the protocol
pub record Embeds {S X M : Type 0} (op : S → ℕ → Option Op) (fed : S → ℕ → ℕ → S)
    (P : Protocol S Bool M) (opX : X → ℕ → Option Op) (fedX : X → ℕ → ℕ → X) (reads : Reads X)
    (into : S → X) (tell : M → Verdict) : Type 0 where
  pub op_is : (s : S) (word : ℕ) → opX (into s) word ≡ op s word
  pub fed_is : (s : S) (got word : ℕ) → fedX (into s) got word ≡ into (fed s got word)
  pub input_is : (s : S) → reads.input (into s) ≡ P.input s
  pub begun_is : (s : S) → reads.has_begun (into s) ≡ P.has_begun s
  pub output_is : (s : S) → reads.output (into s) ≡ lifted_option tell (P.output s)
  pub left_is : (s : S) → reads.left (into s) ≡ P.left s

module _ {S X M : Type 0} (op : S → ℕ → Option Op) (fed : S → ℕ → ℕ → S) (P : Protocol S Bool M)
    (Out : (ℕ → Option Bool) → (ℕ → Option M) → Type 0) (laws : Laws op fed P Out)
    (opX : X → ℕ → Option Op) (fedX : X → ℕ → ℕ → X) (reads : Reads X) (into : S → X)
    (tell : M → Verdict)
    (e : Embeds op fed P opX fedX reads into tell) (common : Ends opX fedX reads)
    (tells : (ins ins' : ℕ → Option Bool) (outs : ℕ → Option M) (outs' : ℕ → Option Verdict)
    → Out ins outs → ((p : ℕ) → ins' p ≡ ins p) → ((p : ℕ) → outs' p ≡ lifted_option tell (outs p))
    → HandsOn ins' outs') where
  -- the step inside
  op_inside : (x : X) (s : S) (word : ℕ) (o : Op) → x ≡ into s → opX x word ≡ Some o
      → op s word ≡ Some o
  op_inside x s word o i q = sym (e.op_is s word) ∙ ap (λ z. opX z word) (sym i) ∙ q

  fed_inside : (x : X) (s : S) (got word : ℕ) → x ≡ into s → fedX x got word ≡ into (fed s got word)
  fed_inside x s got word i = ap (λ z. fedX z got word) i ∙ e.fed_is s got word

  lift_goes : (n me at : ℕ) (x : X) (got word : ℕ) (o : Op) → LiftBelongs into P n me at x
      → opX x word ≡ Some o → Goes (lift reads into P) n me at o x (fedX x got word)
  lift_goes n me at x got word o b q =
      let g = laws.goes n me at b.inner got word o b.belongs (op_inside x b.inner word o b.is q) in
      let f = fed_inside x b.inner got word b.is in
      record {
        above = g.above;
        below = g.below;
        belongs = record { inner = fed b.inner got word; is = f; belongs = g.belongs };
        input =
            ap reads.input f ∙ e.input_is (fed b.inner got word) ∙ g.input
            ∙ sym (e.input_is b.inner) ∙ ap reads.input (sym b.is);
        begun = ap reads.has_begun f ∙ e.begun_is (fed b.inner got word) ∙ g.begun;
        falls =
            let a : reads.left (fedX x got word) ≡ P.left (fed b.inner got word) =
            ap reads.left f ∙ e.left_is (fed b.inner got word) in
            let c : reads.left x ≡ P.left b.inner = ap reads.left b.is ∙ e.left_is b.inner in
            let h = g.falls in
            omega arith;
      }

  lift_enters : (n at : ℕ) (words : ℕ → ℕ) (old new : ℕ → Option X) (p : ℕ) (v : Bool)
      → LiftKeeps into P n at words old → p < n → n ≤ 64 → old p ≡ None
      → new p ≡ Some (into (P.started n p v at)) → Beside p old new
      → LiftKeeps into P n at words new
  lift_enters n at words old new p v k below few none goes beside =
      let s : Option S = Some (P.started n p v at) in
      record {
        inner = put p s k.inner;
        is = λ q. elim (cases_eq q p) [
          | inl i ↦
              ap new i ∙ goes
              ∙ ap (lifted_option into) (sym (ap (put p s k.inner) i ∙ put_here p s k.inner))
          | inr ne ↦
              beside q ne ∙ k.is q ∙ ap (lifted_option into) (sym (put_beside p s k.inner q ne))
        ];
        keeps = laws.enters n at words k.inner (put p s k.inner) p v k.keeps below few
            (lifted_none into (k.inner p) (sym none ∙ k.is p)) (put_here p s k.inner)
            (put_beside p s k.inner);
      }

  lift_moves :
      (n at : ℕ) (words words' : ℕ → ℕ) (old new : ℕ → Option X) (p : ℕ) (x : X) (word : ℕ) (o : Op)
      → LiftKeeps into P n at words old → old p ≡ Some x → opX x word ≡ Some o
      → new p ≡ Some (fedX x (words (register o)) word) → Beside p old new
      → Stepped at (P.width n) o words words' → LiftKeeps into P n at words' new
  lift_moves n at words words' old new p x word o k here q goes beside step =
      let a = lifted_some into (k.inner p) x (sym here ∙ k.is p) in
      let s : Option S = Some (fed a.0 (words (register o)) word) in
      record {
        inner = put p s k.inner;
        is = λ r. elim (cases_eq r p) [
          | inl i ↦
              ap new i ∙ goes ∙ ap Some (fed_inside x a.0 (words (register o)) word a.2)
              ∙ ap (lifted_option into) (sym (ap (put p s k.inner) i ∙ put_here p s k.inner))
          | inr ne ↦
              beside r ne ∙ k.is r ∙ ap (lifted_option into) (sym (put_beside p s k.inner r ne))
        ];
        keeps = laws.moves n at words words' k.inner (put p s k.inner) p a.0 word o k.keeps a.1
            (op_inside x a.0 word o a.2 q) (put_here p s k.inner) (put_beside p s k.inner) step;
      }

  -- what is counted and told inside
  inputs_inside : (o : Option S)
      → of_some (counted_input (lift reads into P)) (lifted_option into o)
      ≡ of_some (counted_input P) o
  inputs_inside None = refl
  inputs_inside (Some s) = rw (e.begun_is s, e.input_is s)

  outputs_inside : (o : Option S)
      → of_some reads.output (lifted_option into o) ≡ lifted_option tell (of_some P.output o)
  outputs_inside None = refl
  outputs_inside (Some s) = e.output_is s

  pub lift_laws : Laws opX fedX (lift reads into P) HandsOn
  lift_laws = record {
    starts = λ n me at v below few.
        let a = laws.starts n me at v below few in
        record {
          belongs = record { inner = P.started n me v at; is = refl; belongs = a.belongs };
          input = e.input_is _ ∙ a.input;
          fresh = e.begun_is _ ∙ a.fresh;
          bounded = let b = a.bounded in let c = e.left_is (P.started n me v at) in omega arith;
        };
    goes = lift_goes;
    ends = common.ends;
    unended = common.unended;
    unmoved = common.unmoved;
    blind = common.blind;
    fresh = λ n at words agree. record {
      inner = λ p. None;
      is = λ p. refl;
      keeps = laws.fresh n at words agree;
    };
    enters = lift_enters;
    moves = lift_moves;
    fits = λ n at words locals p x word o k here q.
        let a = lifted_some into (k.inner p) x (sym here ∙ k.is p) in
        laws.fits n at words k.inner p a.0 word o k.keeps a.1 (op_inside x a.0 word o a.2 q);
    frame = λ n at words words' old new k agree same. record {
      inner = k.inner;
      is = λ p. same p ∙ k.is p;
      keeps = laws.frame n at words words' k.inner k.inner k.keeps agree (λ p. refl);
    };
    known = λ n at words locals p x k here.
        let a = lifted_some into (k.inner p) x (sym here ∙ k.is p) in
        let b = laws.known n at words k.inner p a.0 k.keeps a.1 in
        (b.0, record { inner = a.0; is = a.2; belongs = b.1 });
    outcome = λ n at words locals k.
        tells (inputs P k.inner) (inputs (lift reads into P) locals) (outputs P k.inner)
        (outputs (lift reads into P) locals) (laws.outcome n at words k.inner k.keeps)
        (λ p. ap (of_some (counted_input (lift reads into P))) (k.is p) ∙ inputs_inside (k.inner p))
        (λ p. ap (of_some reads.output) (k.is p) ∙ outputs_inside (k.inner p));
  }

-- All who come out of a chain have one value, and it is the input of one who has begun.
use Rattle.std.proofs.Common.{◌≡◌, ℕ, zero, suc, ◌+◌, ◌-◌, ◌<◌, ◌≤◌, Bool, true, cond, Option}
use Rattle.std.proofs.Common.{Some, None, inl, inr, ◌⊎◌, arith, refl, sym, ◌∙◌, ap, subst}
use Rattle.std.proofs.lemmas.Bool.{cases_eq, cases_lt}
use Rattle.std.proofs.lemmas.Option.{cond_some, same_Some}
use Rattle.bus_register.specs.declared.registers.Op.{Op}
use Rattle.bus_register.specs.Tables.{of_some}
use Rattle.bus_register.specs.Private.TableLaws.{some_of}
use Rattle.bus_register.specs.Protocol.{Protocol, Laws, counted_input, inputs, outputs}
use Rattle.bus_adoptcommit.specs.declared.verdicts.Verdict.{Verdict}
use Rattle.bus_adoptcommit.specs.declared.verdicts.Verdict.TheVariants.{Commit, Adopt}
use Rattle.bus_adoptcommit.specs.Agreement.{value_of}
use Rattle.bus_binconsensus.specs.Deciding.{Decides}
use Rattle.bus_binconsensus.specs.Chain.{Objects, Link, span, value_told, chain_protocol, Walk}
use Rattle.bus_binconsensus.specs.Chain.{ChainKeeps}
use Rattle.bus_binconsensus.proofs.ChainSteps.{HandsOn, span_within, begun_in, begun_past}

-- an input that counts is that of a local state that has begun
pub counted_is : {S I O : Type 0} (P : Protocol S I O) (s : S) (v : I) → counted_input P s ≡ Some v
    → (P.has_begun s ≡ true) × (P.input s ≡ v)
counted_is P s v e = cond_some (P.has_begun s) (P.input s) v e

pub is_counted : {S I O : Type 0} (P : Protocol S I O) (s : S) (v : I) → P.has_begun s ≡ true
    → P.input s ≡ v → counted_input P s ≡ Some v
is_counted P s v b e = ap (λ z. cond z (Some (P.input s)) None) b ∙ ap Some e

told_is : (x : Option Verdict) (v : Bool) → value_told x ≡ Some v
    → (d : Verdict) × (x ≡ Some d) × (value_of d ≡ v)
told_is None v e = absurd cc
told_is (Some d) v e = (d, refl, same_Some _ _ e)

module _ {X : Type 0} (op : X → ℕ → Option Op) (fed : X → ℕ → ℕ → X) (objects : Objects X)
    (laws : (k : ℕ) → Laws op fed (objects k) HandsOn)
    (last : (n me at : ℕ) (x : X) (v : Bool) → (objects 0).Belongs n me at x
    → (objects 0).output x ≡ Some (Adopt v) → ⊥)
    (top n at : ℕ) (words : ℕ → ℕ) (locals : ℕ → Option (Link X))
    (k : ChainKeeps objects top n at words locals) where
  hands_on : (i : ℕ) → i ≤ top
      → HandsOn (inputs (objects i) (k.visits i)) (outputs (objects i) (k.visits i))
  hands_on i h =
      let w = span_within objects n i top h in
      let r : ℕ = (at + span objects n top) - span objects n i in
      (laws i).outcome n r words (k.visits i) (k.kept i r h (omega arith))

  -- where a verdict stands, it is an output
  stands : (i p : ℕ) (x : X) (d : Verdict) → k.visits i p ≡ Some x → (objects i).output x ≡ Some d
      → outputs (objects i) (k.visits i) p ≡ Some d
  stands i p x d e f = ap (of_some (objects i).output) e ∙ f

  -- who was in an object is still in the chain
  record Present (i p : ℕ) (x : X) : Type 0 where
    local : Link X
    here : locals p ≡ Some local
    walk : Walk objects top n at k.visits p local
    reached : local.after ≤ i

  present : (i p : ℕ) (x : X) → k.visits i p ≡ Some x → Present i p x
  present i p x e =
      let by : (l : Option (Link X)) → locals p ≡ l → Present i p x =
      λ l. elim l as (λ z. locals p ≡ z → Present i p x) [
        | None ↦ λ f. absurd (let a = k.absent p i f in cc)
        | Some d ↦ λ f.
            let w = k.walks p d f in
            record {
              local = d;
              here = f;
              walk = w;
              reached = elim (cases_lt i d.after) [
                | inl h ↦ absurd (let a = w.ahead i h in cc)
                | inr h ↦ h
              ];
            }
      ] in
      by (locals p) refl

  -- a process that has begun in an object of the chain has that input from the object before, or as
  -- its own
  record Came (i p : ℕ) (v : Bool) : Type 0 where
    before : X
    is : k.visits i p ≡ Some before
    handed : (objects i).output before ≡ Some (Adopt v)

  source : (i q : ℕ) (v : Bool) → i ≤ top → inputs (objects i) (k.visits i) q ≡ Some v
      → ((i ≡ top) × (inputs (chain_protocol objects top) locals q ≡ Some v))
      ⊎ ((i < top) × Came (i + 1) q v)
  source i q v h e =
      let a = some_of (counted_input (objects i)) (k.visits i q) v e in
      let c = counted_is (objects i) a.0 v a.2 in
      let b = present i q a.0 a.1 in
      elim (cases_eq i top) [
        | inl i' ↦ inl (
          i',
          ap (of_some (counted_input (chain_protocol objects top))) b.here
              ∙ is_counted (chain_protocol objects top) b.local v
              (elim (cases_eq b.local.after top) [
                | inl j ↦
                    let x : a.0 ≡ b.local.object =
                    same_Some _ _ (sym a.1 ∙ ap (λ z. k.visits z q) (i' ∙ sym j) ∙ b.walk.here) in
                    begun_in op fed objects laws top b.local
                    (ap (λ z. (objects z).has_begun b.local.object) (j ∙ sym i')
                    ∙ ap (objects i).has_begun (sym x) ∙ c.0)
                | inr ne ↦ begun_past op fed objects laws top b.local ne
              ])
              (sym (b.walk.first a.0 (ap (λ z. k.visits z q) (sym i') ∙ a.1))
              ∙ ap (λ z. (objects z).input a.0) (sym i') ∙ c.1),
        )
        | inr ne ↦
            let less : b.local.after < i + 1 = let z = b.reached in omega arith in
            let w = b.walk.passed (i + 1) less (omega arith) in
            let back : i + 1 - 1 ≡ i = omega arith in
            let x : w.next ≡ a.0 =
            same_Some _ _ (sym w.next_is ∙ ap (λ z. k.visits z q) back ∙ a.1) in
            let y : (objects (i + 1 - 1)).input w.next ≡ v =
            ap (λ z. (objects z).input w.next) back ∙ ap (objects i).input x ∙ c.1 in
            inr (
              omega arith,
              record {
                before = w.before;
                is = w.before_is;
                handed = w.handed ∙ ap (λ z. Some (Adopt z)) y;
              },
            )
      ]

  -- whatever comes out of an object is the input of a process that has begun
  origin : (m i : ℕ) → i + m ≡ top → (p : ℕ) (x : X) (d : Verdict) → k.visits i p ≡ Some x
      → (objects i).output x ≡ Some d
      → (q : ℕ) × (inputs (chain_protocol objects top) locals q ≡ Some (value_of d))
  origin zero i e p x d f g =
      let a = (hands_on i (omega arith)).valid p d (stands i p x d f g) in
      elim (source i a.0 (value_of d) (omega arith) a.1) [
        | inl s ↦ (a.0, s.1)
        | inr s ↦ absurd (let l = s.0 in omega arith)
      ]
  origin (suc m) i e p x d f g =
      let a = (hands_on i (omega arith)).valid p d (stands i p x d f g) in
      elim (source i a.0 (value_of d) (omega arith) a.1) [
        | inl s ↦ (a.0, s.1)
        | inr s ↦
            let c = s.1 in
            origin m (i + 1) (omega arith) a.0 c.before (Adopt (value_of d)) c.is c.handed
      ]

  -- once a process has committed v, whatever comes out of that object and of those after it is v
  carried : (m i j : ℕ) → j + m ≡ i → i ≤ top → (p : ℕ) (x : X) (v : Bool) → k.visits i p ≡ Some x
      → (objects i).output x ≡ Some (Commit v)
      → (q : ℕ) (y : X) (d : Verdict) → k.visits j q ≡ Some y → (objects j).output y ≡ Some d
      → value_of d ≡ v
  carried zero i j e h p x v f g q y d f' g' =
      let same : i ≡ j = omega arith in
      (hands_on j (omega arith)).coherent p q v d (stands j p x (Commit v)
      (ap (λ z. k.visits z p) (sym same) ∙ f) (ap (λ z. (objects z).output x) (sym same) ∙ g))
      (stands j q y d f' g')
  carried (suc m) i j e h p x v f g q y d f' g' =
      let a = (hands_on j (omega arith)).valid q d (stands j q y d f' g') in
      elim (source j a.0 (value_of d) (omega arith) a.1) [
        | inl s ↦ absurd (let t = s.0 in omega arith)
        | inr s ↦
            let c = s.1 in
            carried m i (j + 1) (omega arith) h p x v f g a.0 c.before (Adopt (value_of d)) c.is
            c.handed
      ]

  -- a process whose output stands has committed it
  record Stopped (p : ℕ) (v : Bool) : Type 0 where
    local : Link X
    walk : Walk objects top n at k.visits p local
    commits : (objects local.after).output local.object ≡ Some (Commit v)

  stopped : (p : ℕ) (v : Bool) → outputs (chain_protocol objects top) locals p ≡ Some v
      → Stopped p v
  stopped p v e =
      let a = some_of (chain_protocol objects top).output (locals p) v e in
      let t = told_is ((objects a.0.after).output a.0.object) v a.2 in
      let w = k.walks p a.0 a.1 in
      let by : (d : Verdict) → t.0 ≡ d → Stopped p v = λ d. elim d as (λ z. t.0 ≡ z → Stopped p v) [
        | Commit u ↦ λ f. record {
          local = a.0;
          walk = w;
          commits =
              t.1 ∙ ap Some f
              ∙ ap (λ z. Some (Commit z))
              (let g : value_of (Commit u) ≡ v = ap value_of (sym f) ∙ t.2 in g);
        }
        | Adopt u ↦ λ f. absurd (
            let out : (objects a.0.after).output a.0.object ≡ Some (Adopt u) = t.1 ∙ ap Some f in
            let end : a.0.after ≡ 0 = k.rests p a.0 a.1 u out in
            last n p a.0.at a.0.object u
            (subst (λ z. (objects z).Belongs n p a.0.at a.0.object) end w.belongs.object)
            (ap (λ z. (objects z).output a.0.object) (sym end) ∙ out))
      ] in
      by t.0 refl

  agree_down : (p q : ℕ) (v w : Bool) (a : Stopped p v) (b : Stopped q w)
      → b.local.after ≤ a.local.after → v ≡ w
  agree_down p q v w a b h =
      sym (carried (a.local.after - b.local.after) a.local.after b.local.after (omega arith)
      a.walk.belongs.within p a.local.object v a.walk.here a.commits q b.local.object (Commit w)
      b.walk.here b.commits)

  pub chain_decides : Decides (inputs (chain_protocol objects top) locals)
      (outputs (chain_protocol objects top) locals)
  chain_decides = record {
    agrees = λ p q v w e f.
        let a = stopped p v e in
        let b = stopped q w f in
        elim (cases_lt a.local.after b.local.after) [
          | inl h ↦ sym (agree_down q p w v b a (omega arith))
          | inr h ↦ agree_down p q v w a b h
        ];
    chosen = λ p v e.
        let a = stopped p v e in
        origin (top - a.local.after) a.local.after (let w = a.walk.belongs.within in omega arith) p
        a.local.object (Commit v) a.walk.here a.commits;
  }

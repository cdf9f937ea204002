-- Each single step in a chain, whatever it found.
use Rattle.std.proofs.Common.{◌≡◌, ◌≢◌, ℕ, zero, suc, ◌+◌, ◌-◌, ◌<◌, ◌≤◌, Bool, true, cond, Option}
use Rattle.std.proofs.Common.{Some, None, inl, inr, arith, refl, sym, ◌∙◌, ap, subst}
use Rattle.std.proofs.lemmas.Bool.{cases_eq}
use Rattle.std.proofs.lemmas.Bool.Decides.{eqb_tells}
use Rattle.bus_register.specs.declared.registers.Op.{Op}
use Rattle.bus_register.specs.Words.{register}
use Rattle.bus_register.specs.Protocol.{Laws, Goes, Starts}
use Rattle.bus_adoptcommit.specs.declared.verdicts.Verdict.{Verdict}
use Rattle.bus_adoptcommit.specs.declared.verdicts.Verdict.TheVariants.{Commit, Adopt}
use Rattle.bus_adoptcommit.specs.Agreement.{IsValid, IsCoherent}
use Rattle.bus_binconsensus.specs.Chain.{Objects, Link, span, steps_from, steps_after}
use Rattle.bus_binconsensus.specs.Chain.{link_entered, handed_by, chain_fed, chain_protocol}
use Rattle.bus_binconsensus.specs.Chain.{ChainBelongs}

-- what an object of a chain must be: it hands on inputs alone, and where it commits a value it
-- hands on no other
pub record HandsOn (inputs : ℕ → Option Bool) (outputs : ℕ → Option Verdict) : Type 0 where
  pub valid : IsValid inputs outputs
  pub coherent : IsCoherent outputs

module _ {X : Type 0} (objects : Objects X) (n : ℕ) where
  pub span_own : (k : ℕ) → (objects k).width n ≤ span objects n k
  span_own zero = omega arith
  span_own (suc k) = omega arith

  pub span_next : (k : ℕ) → k ≢ 0 → span objects n k ≡ (objects k).width n + span objects n (k - 1)
  span_next zero ne = absurd (ne refl)
  span_next (suc k) ne =
      let e : k ≡ suc k - 1 = omega arith in
      ap (λ z. (objects (suc k)).width n + span objects n z) e

  pub span_below : (k j : ℕ) → k < j → (objects j).width n + span objects n k ≤ span objects n j
  span_below k zero h = absurd (omega arith)
  span_below k (suc j) h = elim (cases_eq k j) [
    | inl i ↦ let e : span objects n k ≡ span objects n j = ap (span objects n) i in omega arith
    | inr ne ↦ let b = span_below k j (omega arith) in omega arith
  ]

  pub span_within : (k j : ℕ) → k ≤ j → span objects n k ≤ span objects n j
  span_within k j h = elim (cases_eq k j) [
    | inl i ↦ let e : span objects n k ≡ span objects n j = ap (span objects n) i in omega arith
    | inr ne ↦ let b = span_below k j (omega arith) in omega arith
  ]

  pub steps_own : (k : ℕ) → steps_from objects n k ≡ (objects k).steps n + steps_after objects n k
  steps_own zero = omega arith
  steps_own (suc k) = refl

  pub steps_next : (k : ℕ) → k ≢ 0 → steps_after objects n k ≡ steps_from objects n (k - 1)
  steps_next zero ne = absurd (ne refl)
  steps_next (suc k) ne = let e : k ≡ suc k - 1 = omega arith in ap (steps_from objects n) e

module _ {X : Type 0} (op : X → ℕ → Option Op) (fed : X → ℕ → ℕ → X) (objects : Objects X)
    (laws : (k : ℕ) → Laws op fed (objects k) HandsOn) (top : ℕ) where
  pub begun_past : (d : Link X) → d.after ≢ top → (chain_protocol objects top).has_begun d ≡ true
  begun_past d ne = elim (eqb_tells d.after top) [
    | inl h ↦ absurd (ne h.1)
    | inr h ↦ ap (λ z. cond z ((objects d.after).has_begun d.object) true) h.0
  ]

  pub begun_in : (d : Link X) → (objects d.after).has_begun d.object ≡ true
      → (chain_protocol objects top).has_begun d ≡ true
  begun_in d e = elim (eqb_tells d.after top) [
    | inl h ↦ ap (λ z. cond z ((objects d.after).has_begun d.object) true) h.0 ∙ e
    | inr h ↦ begun_past d h.1
  ]

  pub chain_starts : (n me at : ℕ) (v : Bool) → me < n → n ≤ 64
      → Starts (chain_protocol objects top) n me at v
  chain_starts n me at v below few =
      let a = (laws top).starts n me at v below few in
      record {
        belongs = record {
          n_is = refl;
          me_is = refl;
          below = below;
          few = few;
          within = omega arith;
          place = refl;
          object = a.belongs;
        };
        input = refl;
        fresh = elim (eqb_tells top top) [
          | inl h ↦
              ap (λ z. cond z ((objects top).has_begun ((objects top).started n me v at)) true) h.0
              ∙ a.fresh
          | inr h ↦ absurd (h.1 refl)
        ];
        bounded = let b = a.bounded in let c = steps_own objects n top in omega arith;
      }

  module _ (n me at : ℕ) (d : Link X) (got word : ℕ) (o : Op)
      (b : ChainBelongs objects top n me at d) (q : op d.object word ≡ Some o) where
    own : Goes (objects d.after) n me d.at o d.object (fed d.object got word)
    own = (laws d.after).goes n me d.at d.object got word o b.object q

    same_width : (objects d.after).width d.n ≡ (objects d.after).width n
    same_width = ap (objects d.after).width b.n_is

    low : at ≤ register o
    low =
        let x = own.above in
        let y = b.place in let z = span_within objects n d.after top b.within in omega arith

    high : register o < at + span objects n top
    high = let x = own.below in let y = b.place in let z = span_own objects n d.after in omega arith

    stays : Goes (chain_protocol objects top) n me at o d
        (record d { object = fed d.object got word })
    stays = record {
      above = low;
      below = high;
      belongs = record {
        n_is = b.n_is;
        me_is = b.me_is;
        below = b.below;
        few = b.few;
        within = b.within;
        place = b.place;
        object = own.belongs;
      };
      input = refl;
      begun = begun_in (record d { object = fed d.object got word }) own.begun;
      falls = let f = own.falls in omega arith;
    }

    enters : (v : Bool) → d.after ≢ 0
        → Goes (chain_protocol objects top) n me at o d
        (link_entered objects (record d { object = fed d.object got word }) v)
    enters v ne =
        let r : ℕ = d.at + (objects d.after).width d.n in
        let start = (laws (d.after - 1)).starts n me r v b.below b.few in
        let n' = b.n_is in
        let me' = b.me_is in
        record {
          above = low;
          below = high;
          belongs = record {
            n_is = b.n_is;
            me_is = b.me_is;
            below = b.below;
            few = b.few;
            within = let w = b.within in omega arith;
            place =
                let w = same_width in
                let s = span_next objects n d.after ne in let p = b.place in omega arith;
            object = subst (λ z.
                (objects (d.after - 1)).Belongs n me r ((objects (d.after - 1)).started z d.me v r))
                (sym n')
                (subst (λ z.
                (objects (d.after - 1)).Belongs n me r ((objects (d.after - 1)).started n z v r))
                (sym me') start.belongs);
          };
          input = refl;
          begun = begun_past (link_entered objects (record d { object = fed d.object got word }) v)
              (let w = b.within in omega arith);
          falls =
              let f = own.falls in
              let s = steps_next objects d.n d.after ne in
              let t = steps_own objects d.n (d.after - 1) in
              let u : (objects (d.after - 1)).left ((objects (d.after - 1)).started d.n d.me v r)
              ≤ (objects (d.after - 1)).steps d.n =
              ((laws (d.after - 1)).starts d.n d.me r v (let x = b.below in omega arith)
              (let x = b.few in omega arith)).bounded in
              omega arith;
        }

    goes_by : (x : Option Verdict)
        → Goes (chain_protocol objects top) n me at o d
        (handed_by objects x (record d { object = fed d.object got word }))
    goes_by None = stays
    goes_by (Some (Commit v)) = stays
    goes_by (Some (Adopt v)) = elim (eqb_tells d.after 0) [
      | inl h ↦ subst (λ z. Goes (chain_protocol objects top) n me at o d
          (cond z (record d { object = fed d.object got word })
          (link_entered objects (record d { object = fed d.object got word }) v))) (sym h.0) stays
      | inr h ↦ subst (λ z. Goes (chain_protocol objects top) n me at o d
          (cond z (record d { object = fed d.object got word })
          (link_entered objects (record d { object = fed d.object got word }) v))) (sym h.0)
          (enters v h.1)
    ]

    pub chain_goes : Goes (chain_protocol objects top) n me at o d
        (chain_fed objects fed d got word)
    chain_goes = goes_by ((objects d.after).output (fed d.object got word))

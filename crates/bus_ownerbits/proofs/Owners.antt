-- What an election's calls give, from what its decision gave.
use Rattle.std.proofs.Common.{◌≡◌, ℕ, ◌+◌, ◌*◌, ◌-◌, ◌<◌, ◌≤◌, ◌^◌, Bool, true, false, cond}
use Rattle.std.proofs.Common.{Option, Some, None, inl, inr, arith, refl, sym, ◌∙◌, ap}
use Rattle.std.proofs.Math.Nat.{mul-le-mul_left}
use Rattle.std.proofs.lemmas.Nat.{pow_pos}
use mir.Val.{bool_byte}
use Rattle.bus_register.specs.Digits.{digit}
use Rattle.bus_ownerbits.specs.declared.stages.Stage.TheVariants.{Propose}
use Rattle.bus_ownerbits.proofs.NumberLaws.{tested}
use Rattle.bus_ownerbits.specs.Election.{Decisions, Electing, seeking, with_bit, decided_by}
use Rattle.bus_ownerbits.specs.Election.{fed_at, election_fed, bit_told, owner_at, owner_of}
use Rattle.bus_ownerbits.specs.ElectionNames.{sender}

pub byte_digit : (bit : Bool) → bool_byte bit ≡ digit bit
byte_digit true = refl
byte_digit false = refl

pub byte_small : (bit : Bool) → bool_byte bit ≤ 1
byte_small true = omega arith
byte_small false = omega arith

pub spelled_small : (spelled left : ℕ) → (spelled + 1) * 2 ^ left ≤ 64 → spelled < 64
spelled_small spelled left h = let m = mul-le-mul_left (spelled + 1) (pow_pos left) in omega arith

module _ {S : Type 0} (D : Decisions S) (t s : Electing S) (same : t ≡ s) (d : S)
    (at_bit : t.stage ≡ Propose d) where
  pub owner_some : (bit : Bool) (x : ℕ) → (D t.rounds).output d ≡ Some bit → x ≡ bool_byte bit
      → Some record { 0 = 2 * t.spelled + x } ≡ sender (owner_of D s)
  owner_some bit x out e =
      ap (λ z. Some record { 0 = 2 * t.spelled + z }) (e ∙ byte_digit bit)
      ∙ sym (ap (λ z. sender (owner_at D z t)) at_bit ∙ ap (λ z. sender (bit_told z t.spelled)) out)
      ∙ ap (λ z. sender (owner_of D z)) same

  pub owner_none : (D t.rounds).output d ≡ None → None ≡ sender (owner_of D s)
  owner_none out =
      sym (ap (λ z. sender (owner_at D z t)) at_bit ∙ ap (λ z. sender (bit_told z t.spelled)) out)
      ∙ ap (λ z. sender (owner_of D z)) same

  module _ (fed : S → ℕ → ℕ → S) (got word turns : ℕ) (d' : S) (fed_is : d' ≡ fed d got word)
      (turns_is : turns ≡ t.turns - 1) where
    -- the machine after the step of its decision
    abbrev here : Electing S
    here = record t { turns = turns; stage = Propose d' }

    here_is : here ≡ record t { turns = t.turns - 1; stage = Propose (fed d got word) }
    here_is =
        ap (λ z. record t { turns = z; stage = Propose d' }) turns_is
        ∙ ap (λ z. record t { turns = t.turns - 1; stage = Propose z }) fed_is

    fed_by : (o : Option Bool) → (D t.rounds).output d' ≡ o
        → decided_by D here o ≡ election_fed D fed s got word
    fed_by o out =
        ap (λ z. decided_by D z o) here_is
        ∙ ap (decided_by D (record t { turns = t.turns - 1; stage = Propose (fed d got word) }))
        (sym out ∙ ap (D t.rounds).output fed_is)
        ∙ ap (λ z. fed_at D fed z (record t { turns = t.turns - 1 }) got word) (sym at_bit)
        ∙ ap (λ z. election_fed D fed z got word) same

    pub fed_none : (D t.rounds).output d' ≡ None → here ≡ election_fed D fed s got word
    fed_none out = fed_by None out

    pub fed_more : (bit : Bool) (taken sought : Electing S) → (D t.rounds).output d' ≡ Some bit
        → 1 < t.left → taken ≡ with_bit here bit → sought ≡ seeking D taken
        → sought ≡ election_fed D fed s got word
    fed_more bit taken sought out more took found =
        found ∙ ap (seeking D) took
        ∙ elim (tested 1 t.left) [
          | inl h ↦ sym (ap (λ z. cond z (seeking D (with_bit here bit)) here) h.0)
          | inr h ↦ absurd (let x = h.1 in omega arith)
        ]
        ∙ fed_by (Some bit) out

-- Each single step of a conciliator as a protocol, and what follows of all that it keeps.
use Rattle.std.proofs.Common.{◌≡◌, ℕ, ◌+◌, ◌<◌, ◌≤◌, Bool, true, false, not, cond, Option, Some}
use Rattle.std.proofs.Common.{None, IsSome, ◌==◌, ◌⊎◌, inl, inr, arith, refl, sym, ◌∙◌, ap, subst}
use Rattle.std.proofs.lemmas.Option.{same_Some}
use Rattle.bus_register.specs.declared.registers.Op.{Op}
use Rattle.bus_register.specs.Words.{register, SumFits}
use Rattle.bus_register.specs.Tables.{of_some}
use Rattle.bus_register.specs.Private.TableLaws.{some_of}
use Rattle.bus_register.specs.Protocol.{Goes, IsStore}
use Rattle.bus_walkcoin.specs.Coin.{CoinState, coin_started, coin_op, coin_fed}
use Rattle.bus_walkcoin.proofs.CoinProtocolLaws.{coin_laws}
use Rattle.bus_register.specs.Digits.{digit}
use Rattle.bus_register.proofs.DigitLaws.{digit_le}
use Rattle.bus_coinconc.specs.declared.conciliators.Stage.{Stage}
use Rattle.bus_coinconc.specs.declared.conciliators.Stage.TheVariants.{SetMark, ReadOtherMark}
use Rattle.bus_coinconc.specs.declared.conciliators.Stage.TheVariants.{Alone, AskCoin}
use Rattle.bus_coinconc.specs.Conciliation.{IsInput, Conciles}
use Rattle.bus_coinconc.specs.Conciliator.{ConciliatorState, conciliator_op, conciliator_fed}
use Rattle.bus_coinconc.specs.Conciliator.{op_at, stage_after, output_at, output_of, wants_at}
use Rattle.bus_coinconc.specs.ConciliatorProtocol.{coin_steps, left_at, begun_at, StageBelongs}
use Rattle.bus_coinconc.specs.ConciliatorProtocol.{Belongs, input_once_begun, marked_input}
use Rattle.bus_coinconc.specs.ConciliatorProtocol.{StageSaw, Keeps, conciliator_protocol}

either : (v w : Bool) → (w ≡ v) ⊎ (w ≡ not v)
either true true = inl refl
either true false = inr refl
either false true = inr refl
either false false = inl refl

-- ---- single steps

pub ends_at : (st : Stage) (s : ConciliatorState) (word : ℕ) → op_at st s word ≡ None
    → IsSome (output_at st s.input) × (begun_at st ≡ true)
ends_at SetMark s word e = absurd cc
ends_at ReadOtherMark s word e = absurd cc
ends_at Alone s word e = (refl, refl)
ends_at (AskCoin c) s word e = ((coin_laws.ends c word e).0, refl)

pub unended_at : (st : Stage) (s : ConciliatorState) (word : ℕ) (o : Op) → op_at st s word ≡ Some o
    → output_at st s.input ≡ None
unended_at SetMark s word o e = refl
unended_at ReadOtherMark s word o e = refl
unended_at Alone s word o e = cc
unended_at (AskCoin c) s word o e = coin_laws.unended c word o e

pub unmoved_at : (st : Stage) (s : ConciliatorState) (got word word' : ℕ) → wants_at st ≡ false
    → (op_at st s word ≡ op_at st s word')
    × (stage_after st s got word ≡ stage_after st s got word')
unmoved_at SetMark s got word word' e = (refl, refl)
unmoved_at ReadOtherMark s got word word' e = (refl, refl)
unmoved_at Alone s got word word' e = (refl, refl)
unmoved_at (AskCoin c) s got word word' e =
    let u = coin_laws.unmoved c got word word' e in (u.0, ap AskCoin u.1)

pub blind_at : (st : Stage) (s : ConciliatorState) (got got' word : ℕ) (o : Op)
    → op_at st s word ≡ Some o → IsStore o → stage_after st s got word ≡ stage_after st s got' word
blind_at SetMark s got got' word o e st = refl
blind_at ReadOtherMark s got got' word o e st = absurd (let x = same_Some _ _ e ∙ st.2 in cc x)
blind_at Alone s got got' word o e st = refl
blind_at (AskCoin c) s got got' word o e st = ap AskCoin (coin_laws.blind c got got' word o e st)

pub fits_at : (st : Stage) (s : ConciliatorState) (word found : ℕ) (o : Op)
    → op_at st s word ≡ Some o
    → ((c : CoinState) → st ≡ AskCoin c → coin_op c word ≡ Some o → SumFits o found)
    → SumFits o found
fits_at SetMark s word found o e coin = subst (λ z. SumFits z found) (same_Some _ _ e) tt
fits_at ReadOtherMark s word found o e coin = subst (λ z. SumFits z found) (same_Some _ _ e) tt
fits_at Alone s word found o e coin = absurd cc
fits_at (AskCoin c) s word found o e coin = coin c refl e

-- a process whose mark is set, and what it may be next
record Begun (n me at most : ℕ) (st : Stage) : Type 0 where
  belongs : StageBelongs n me at st
  begun : begun_at st ≡ true
  less : left_at st < most

looks_if : (n me at : ℕ) (b : Bool) → me < n → n ≤ 64
    → Begun n me at (1 + coin_steps) (cond b Alone (AskCoin (coin_started n (at + 2))))
looks_if n me at true below few = record { belongs = tt; begun = refl; less = omega arith }
looks_if n me at false below few =
    let c = coin_laws.starts n me (at + 2) tt below few in
    record { belongs = c.belongs; begun = refl; less = let h = c.bounded in omega arith }

goes_on : (me : ℕ) (s : ConciliatorState) (st : Stage) (o : Op) → me < s.n → s.n ≤ 64
    → s.at ≤ register o → register o < s.at + 3 → Begun s.n me s.at (left_at s.stage) st
    → Goes conciliator_protocol s.n me s.at o s (record s { stage = st })
goes_on me s st o below few above under b = record {
  above = above;
  below = under;
  belongs = record { n_is = refl; at_is = refl; below = below; few = few; stage = b.belongs };
  input = refl;
  begun = b.begun;
  falls = b.less;
}

goes_at : (st : Stage) (me : ℕ) (s : ConciliatorState) (got word : ℕ) (o : Op) → s.stage ≡ st
    → me < s.n → s.n ≤ 64 → StageBelongs s.n me s.at st → op_at st s word ≡ Some o
    → Goes conciliator_protocol s.n me s.at o s (record s { stage = stage_after st s got word })
goes_at SetMark me s got word o e below few b q =
    let place : register o ≡ s.at + digit s.input = ap register (sym (same_Some _ _ q)) in
    let small = digit_le s.input in
    goes_on me s ReadOtherMark o below few (omega arith) (omega arith) record {
      belongs = tt;
      begun = refl;
      less = subst (λ z. 1 + coin_steps < left_at z) (sym e) (omega arith);
    }
goes_at ReadOtherMark me s got word o e below few b q =
    let place : register o ≡ s.at + digit (not s.input) = ap register (sym (same_Some _ _ q)) in
    let small = digit_le (not s.input) in
    goes_on me s _ o below few (omega arith) (omega arith)
    (subst (λ z. Begun s.n me s.at (left_at z) (stage_after ReadOtherMark s got word)) (sym e)
    (looks_if s.n me s.at (got == 0) below few))
goes_at Alone me s got word o e below few b q = absurd cc
goes_at (AskCoin c) me s got word o e below few b q =
    let g = coin_laws.goes s.n me (s.at + 2) c got word o b q in
    goes_on me s (AskCoin (coin_fed c got word)) o below few (let h = g.above in omega arith)
    (let h = g.below in omega arith)
    (subst (λ z. Begun s.n me s.at (left_at z) (AskCoin (coin_fed c got word))) (sym e)
    record { belongs = g.belongs; begun = refl; less = g.falls })

pub goes_of : (n me at : ℕ) (s : ConciliatorState) (got word : ℕ) (o : Op) → Belongs n me at s
    → conciliator_op s word ≡ Some o
    → Goes conciliator_protocol n me at o s (conciliator_fed s got word)
goes_of n me at s got word o b q =
    let stage = subst (λ z. StageBelongs z me s.at s.stage) (sym b.n_is)
    (subst (λ z. StageBelongs n me z s.stage) (sym b.at_is) b.stage) in
    let below : me < s.n = let x = b.n_is in let z = b.below in omega arith in
    let few : s.n ≤ 64 = let x = b.n_is in let z = b.few in omega arith in
    subst (λ z. Goes conciliator_protocol z me at o s (conciliator_fed s got word)) b.n_is
    (subst (λ z. Goes conciliator_protocol s.n me z o s (conciliator_fed s got word)) b.at_is
    (goes_at s.stage me s got word o refl below few stage q))

-- ---- what follows

module _ (n at : ℕ) (words : ℕ → ℕ) (locals : ℕ → Option ConciliatorState)
    (k : Keeps n at words locals) where
  own_input : (p : ℕ) (s : ConciliatorState) → locals p ≡ Some s → begun_at s.stage ≡ true
      → IsInput (marked_input locals) s.input
  own_input p s here b = (
    p,
    ap (of_some input_once_begun) here ∙ ap (λ z. cond z (Some s.input) None) b,
  )

  valid_at : (p : ℕ) (s : ConciliatorState) (v : Bool) (st : Stage) → s.stage ≡ st
      → locals p ≡ Some s → StageSaw (marked_input locals) st s.input
      → output_at st s.input ≡ Some v → IsInput (marked_input locals) v
  valid_at p s v SetMark at_stage here saw out = absurd cc
  valid_at p s v ReadOtherMark at_stage here saw out = absurd cc
  valid_at p s v Alone at_stage here saw out = subst (IsInput (marked_input locals))
      (same_Some _ _ out) (own_input p s here (ap begun_at at_stage))
  valid_at p s v (AskCoin c) at_stage here saw out = elim (either s.input v) [
    | inl e ↦
        subst (IsInput (marked_input locals)) (sym e) (own_input p s here (ap begun_at at_stage))
    | inr e ↦ subst (IsInput (marked_input locals)) (sym e) saw
  ]

  valid : (p : ℕ) (v : Bool) → of_some output_of (locals p) ≡ Some v
      → IsInput (marked_input locals) v
  valid p v e =
      let a = some_of output_of (locals p) v e in
      valid_at p a.0 v a.0.stage refl a.1 (k.saw p a.0 a.1) a.2

  pub keeps_conciles : Conciles (marked_input locals) (λ p. of_some output_of (locals p))
  keeps_conciles = record {
    valid = valid;
    unanimous = λ v all p w e. let i = valid p w e in all i.0 w i.1;
  }

-- The conciliator keeps the laws of a protocol, and conciles.
use Rattle.std.proofs.Common.{◌≡◌, ℕ, ◌+◌, ◌<◌, ◌≤◌, Bool, Option, Some, None, inl, inr, arith}
use Rattle.std.proofs.Common.{refl, sym, ◌∙◌, ap, subst}
use Rattle.std.proofs.lemmas.Bool.{cases_eq}
use Rattle.std.proofs.lemmas.Option.{same_Some}
use Rattle.bus_register.specs.Words.{register}
use Rattle.bus_register.specs.Tables.{of_some, Beside, Agree}
use Rattle.bus_register.specs.Protocol.{Laws}
use Rattle.bus_walkcoin.proofs.CoinProtocolLaws.{coin_laws}
use Rattle.bus_register.specs.Digits.{digit}
use Rattle.bus_register.proofs.DigitLaws.{digit_le}
use Rattle.bus_coinconc.specs.Conciliation.{Conciles}
use Rattle.bus_coinconc.specs.Conciliator.{ConciliatorState, conciliator_started, conciliator_op}
use Rattle.bus_coinconc.specs.Conciliator.{conciliator_fed}
use Rattle.bus_coinconc.specs.ConciliatorProtocol.{Belongs, coin_at, coins, input_once_begun}
use Rattle.bus_coinconc.specs.ConciliatorProtocol.{marked_input, StageSaw, Keeps}
use Rattle.bus_coinconc.specs.ConciliatorProtocol.{conciliator_protocol}
use Rattle.bus_coinconc.proofs.ConciliatorGoes.{ends_at, unended_at, unmoved_at, blind_at, fits_at}
use Rattle.bus_coinconc.proofs.ConciliatorGoes.{goes_of, keeps_conciles}
use Rattle.bus_coinconc.proofs.ConciliatorMoves.{saw_stays, moves_keep}

started_belongs : (n me at : ℕ) (v : Bool) → me < n → n ≤ 64
    → Belongs n me at (conciliator_started n v at)
started_belongs n me at v below few = record {
  n_is = refl;
  at_is = refl;
  below = below;
  few = few;
  stage = tt;
}

fresh_keep : (n at : ℕ) (words : ℕ → ℕ) → Agree at 3 (λ _. 0) words → Keeps n at words (λ _. None)
fresh_keep n at words zero = record {
  inside = λ p s e. absurd cc;
  set = λ p v e. absurd cc;
  unset = λ v. inl (zero (at + digit v) (omega arith) (let l = digit_le v in omega arith));
  saw = λ p s e. absurd cc;
  coin = coin_laws.fresh n (at + 2) words (λ r a b. zero r (omega arith) (omega arith));
}

module _ (n at : ℕ) (words words' : ℕ → ℕ) (old new : ℕ → Option ConciliatorState)
    (k : Keeps n at words old) (agree : Agree at 3 words words')
    (same : (q : ℕ) → new q ≡ old q) where
  frame_keep : Keeps n at words' new
  frame_keep = record {
    inside = λ p s e. k.inside p s (sym (same p) ∙ e);
    set = λ p v e.
        agree (at + digit v) (omega arith) (let l = digit_le v in omega arith)
        ∙ k.set p v (ap (of_some input_once_begun) (sym (same p)) ∙ e);
    unset = λ v. elim (k.unset v) [
      | inl z ↦ inl (agree (at + digit v) (omega arith) (let l = digit_le v in omega arith) ∙ z)
      | inr i ↦ inr (i.0, ap (of_some input_once_begun) (same i.0) ∙ i.1)
    ];
    saw = λ p s e. saw_stays (marked_input old) (marked_input new)
        (λ v i. (i.0, ap (of_some input_once_begun) (same i.0) ∙ i.1)) s.stage s.input
        (k.saw p s (sym (same p) ∙ e));
    coin = coin_laws.frame n (at + 2) words words' (coins old) (coins new) k.coin
        (λ r a b. agree r (omega arith) (omega arith))
        (λ q. ap (of_some (λ s. coin_at s.stage)) (same q));
  }

module _ (n at : ℕ) (words : ℕ → ℕ) (old new : ℕ → Option ConciliatorState) (p : ℕ) (v : Bool)
    (k : Keeps n at words old) (below : p < n) (few : n ≤ 64) (none : old p ≡ None)
    (start : new p ≡ Some (conciliator_started n v at)) (beside : Beside p old new) where
  -- whoever is not there counts as little as one that has not begun
  marked_same : (q : ℕ) → marked_input new q ≡ marked_input old q
  marked_same q = elim (cases_eq q p) [
    | inl i ↦
        ap (marked_input new) i ∙ ap (of_some input_once_begun) start
        ∙ sym (ap (of_some input_once_begun) none) ∙ ap (marked_input old) (sym i)
    | inr ne ↦ ap (of_some input_once_begun) (beside q ne)
  ]

  coins_same : (q : ℕ) → coins new q ≡ coins old q
  coins_same q = elim (cases_eq q p) [
    | inl i ↦
        ap (coins new) i ∙ ap (of_some (λ s. coin_at s.stage)) start
        ∙ sym (ap (of_some (λ s. coin_at s.stage)) none) ∙ ap (coins old) (sym i)
    | inr ne ↦ ap (of_some (λ s. coin_at s.stage)) (beside q ne)
  ]

  enters_keep : Keeps n at words new
  enters_keep = record {
    inside = λ q u e. elim (cases_eq q p) [
      | inl i ↦ subst (λ z. (z < n) × Belongs n z at u) (sym i) (
        below,
        subst (Belongs n p at) (same_Some _ _ (sym start ∙ ap new (sym i) ∙ e))
            (started_belongs n p at v below few),
      )
      | inr ne ↦ k.inside q u (sym (beside q ne) ∙ e)
    ];
    set = λ q w e. k.set q w (sym (marked_same q) ∙ e);
    unset = λ w. elim (k.unset w) [ inl z ↦ inl z | inr i ↦ inr (i.0, marked_same i.0 ∙ i.1) ];
    saw = λ q u e. elim (cases_eq q p) [
      | inl i ↦ subst (λ z. StageSaw (marked_input new) z.stage z.input)
          (same_Some _ _ (sym start ∙ ap new (sym i) ∙ e)) tt
      | inr ne ↦ saw_stays (marked_input old) (marked_input new)
          (λ w i. (i.0, marked_same i.0 ∙ i.1)) u.stage u.input (k.saw q u (sym (beside q ne) ∙ e))
    ];
    coin = coin_laws.frame n (at + 2) words words (coins old) (coins new) k.coin (λ r a b. refl)
        coins_same;
  }

pub conciliator_laws : Laws conciliator_op conciliator_fed conciliator_protocol Conciles
conciliator_laws = record {
  starts = λ n me at v below few. record {
    belongs = started_belongs n me at v below few;
    input = refl;
    fresh = refl;
    bounded = omega arith;
  };
  goes = goes_of;
  ends = λ s word e. ends_at s.stage s word e;
  unended = λ s word o e. unended_at s.stage s word o e;
  unmoved = λ s got word word' e.
      let u = unmoved_at s.stage s got word word' e in (u.0, ap (λ z. record s { stage = z }) u.1);
  blind = λ s got got' word o e st.
      ap (λ z. record s { stage = z }) (blind_at s.stage s got got' word o e st);
  fresh = fresh_keep;
  enters = enters_keep;
  moves = moves_keep;
  fits = λ n at words locals p s word o k here e. fits_at s.stage s word (words (register o)) o e
      (λ c at_coin next. coin_laws.fits n (at + 2) words (coins locals) p c word o k.coin
      (ap (of_some (λ s. coin_at s.stage)) here ∙ ap coin_at at_coin) next);
  frame = frame_keep;
  known = λ n at words locals p s k e. k.inside p s e;
  outcome = keeps_conciles;
}

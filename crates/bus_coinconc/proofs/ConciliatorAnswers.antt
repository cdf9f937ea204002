-- A conciliator that was fed a trail gives what the definition says.
use Rattle.std.proofs.Common.{◌≡◌, ℕ, ◌+◌, Bool, true, false, cond, ◌==◌, IsSome, Some, None, List}
use Rattle.std.proofs.Common.{[], ◌∷◌, refl, sym, ◌∙◌, ap, subst}
use Rattle.std.specs.Prelude.{◌↔◌}
use Rattle.bus_register.specs.declared.kinds.Kind.{Kind}
use Rattle.bus_register.specs.declared.registers.Op.{Op}
use Rattle.std.proofs.lemmas.Option.{same_Some}
use Rattle.bus_walkcoin.specs.Coin.{CoinState, coin_started, coin_op, coin_fed, answer_of}
use Rattle.bus_walkcoin.specs.CoinRule.{Entry, coin_answer}
use Rattle.bus_walkcoin.specs.CoinRule as coin
use Rattle.bus_walkcoin.specs.CoinAnswer.{Took}
use Rattle.bus_walkcoin.proofs.CoinAnswerLaws.{coin_answers, coin_goes_on, coin_step_is_due}
use Rattle.bus_walkcoin.proofs.CoinAnswerLaws.{coin_kind_is_due}
use Rattle.bus_coinconc.specs.declared.conciliators.Stage.TheVariants.{Alone, AskCoin}
use Rattle.bus_coinconc.specs.Conciliator.{ConciliatorState, kind_at, op_at, conciliator_started}
use Rattle.bus_coinconc.specs.Conciliator.{conciliator_kind, conciliator_op, conciliator_fed}
use Rattle.bus_coinconc.specs.Conciliator.{output_of}
use Rattle.bus_coinconc.specs.ConciliatorAnswer.{ConciliatorAnswer, conciliator_answer, step_due}
use Rattle.bus_coinconc.specs.ConciliatorAnswer.{kind_due}

-- a process that asks the coin takes the coin's steps
record Asks (rest : List Entry) (c : CoinState) (t : ConciliatorState) : Type 0 where
  coin : CoinState
  took : Took coin_op coin_fed c rest coin
  output : output_of t ≡ answer_of coin

asks : (n at : ℕ) (input : Bool) (rest : List Entry) (c : CoinState) (t : ConciliatorState)
    → Took conciliator_op conciliator_fed
    (record { n = n; at = at; input = input; stage = AskCoin c }) rest t → Asks rest c t
asks n at input [] c t took = record { coin = c; took = refl; output = ap output_of (sym took) }
asks n at input (e ∷ rest) c t took =
    let later = asks n at input rest (coin_fed c e.got e.word) t took.1 in
    record { coin = later.coin; took = (took.0, later.took); output = later.output }

-- after the look
looked : (b : Bool) (n at : ℕ) (input : Bool) (rest : List Entry) (t : ConciliatorState)
    → Took conciliator_op conciliator_fed (record {
      n = n;
      at = at;
      input = input;
      stage = cond b Alone (AskCoin (coin_started n (at + 2)));
    }) rest t
    → output_of t ≡ cond b (Some input) (coin_answer n (at + 2) rest)
looked true n at input [] t took = ap output_of (sym took)
looked true n at input (e ∷ rest) t took = let x = took.0 in absurd cc
looked false n at input rest t took =
    let a = asks n at input rest (coin_started n (at + 2)) t took in
    a.output ∙ (coin_answers n (at + 2) rest a.coin a.took).answer

pub conciliator_answers : (n at : ℕ) (input : Bool) (trail : List Entry) (s : ConciliatorState)
    → Took conciliator_op conciliator_fed (conciliator_started n input at) trail s
    → ConciliatorAnswer n at input trail s
conciliator_answers n at input [] s took = record { looks = tt; answer = ap output_of (sym took) }
conciliator_answers n at input (first ∷ []) s took = record {
  looks = sym (same_Some _ _ took.0);
  answer = ap output_of (sym took.1);
}
conciliator_answers n at input (first ∷ second ∷ trail) s took = record {
  looks = (sym (same_Some _ _ took.0), sym (same_Some _ _ took.1.0));
  answer = looked (second.got == 0) n at input trail s took.1.1;
}

-- ---- the next step

-- a process that asks the coin goes on as the coin does
record StandsInCoin (rest : List Entry) (c : CoinState) (t : ConciliatorState) : Type 0 where
  coin : CoinState
  took : Took coin_op coin_fed c rest coin
  stage : t.stage ≡ AskCoin coin

in_coin : (n at : ℕ) (input : Bool) (rest : List Entry) (c : CoinState) (t : ConciliatorState)
    → Took conciliator_op conciliator_fed
    (record { n = n; at = at; input = input; stage = AskCoin c }) rest t → StandsInCoin rest c t
in_coin n at input [] c t took = record {
  coin = c;
  took = refl;
  stage = ap (λ (z : ConciliatorState). z.stage) (sym took);
}
in_coin n at input (e ∷ rest) c t took =
    let later = in_coin n at input rest (coin_fed c e.got e.word) t took.1 in
    record { coin = later.coin; took = (took.0, later.took); stage = later.stage }

-- none is left where the output is the own input, and else it is the coin's
due_after : (b : Bool) (n at word : ℕ) (input : Bool) (rest : List Entry) (t : ConciliatorState)
    (o : Op)
    → Took conciliator_op conciliator_fed (record {
      n = n;
      at = at;
      input = input;
      stage = cond b Alone (AskCoin (coin_started n (at + 2)));
    }) rest t
    → conciliator_op t word ≡ Some o → o ≡ coin.step_due n (at + 2) rest word
due_after true n at word input [] t o took e =
    let f = ap (λ z. conciliator_op z word) took ∙ e in absurd cc
due_after true n at word input (x ∷ rest) t o took e = let f = took.0 in absurd cc
due_after false n at word input rest t o took e =
    let a = in_coin n at input rest (coin_started n (at + 2)) t took in
    coin_step_is_due n (at + 2) word rest a.coin o a.took
    (ap (λ z. op_at z t word) (sym a.stage) ∙ e)

named_after : (b : Bool) (n at : ℕ) (input : Bool) (rest : List Entry) (t : ConciliatorState)
    (k : Kind)
    → Took conciliator_op conciliator_fed (record {
      n = n;
      at = at;
      input = input;
      stage = cond b Alone (AskCoin (coin_started n (at + 2)));
    }) rest t
    → conciliator_kind t ≡ Some k → k ≡ coin.kind_due n (at + 2) rest
named_after true n at input [] t k took e = let f = ap conciliator_kind took ∙ e in absurd cc
named_after true n at input (x ∷ rest) t k took e = let f = took.0 in absurd cc
named_after false n at input rest t k took e =
    let a = in_coin n at input rest (coin_started n (at + 2)) t took in
    coin_kind_is_due n (at + 2) rest a.coin k a.took (ap kind_at (sym a.stage) ∙ e)

goes_after : (b : Bool) (n at word : ℕ) (input : Bool) (rest : List Entry) (t : ConciliatorState)
    → Took conciliator_op conciliator_fed (record {
      n = n;
      at = at;
      input = input;
      stage = cond b Alone (AskCoin (coin_started n (at + 2)));
    }) rest t
    → IsSome (conciliator_op t word) ↔ (cond b (Some input) (coin_answer n (at + 2) rest) ≡ None)
goes_after true n at word input [] t took = (
  (λ next. absurd (let f = subst (λ z. IsSome (conciliator_op z word)) (sym took) next in cc f)),
  (λ none. absurd cc),
)
goes_after true n at word input (x ∷ rest) t took = let f = took.0 in absurd cc
goes_after false n at word input rest t took =
    let a = in_coin n at input rest (coin_started n (at + 2)) t took in
    subst (λ z. IsSome (op_at z t word) ↔ (coin_answer n (at + 2) rest ≡ None)) (sym a.stage)
    (coin_goes_on n (at + 2) word rest a.coin a.took)

pub conciliator_step_is_due : (n at word : ℕ) (input : Bool) (trail : List Entry)
    (s : ConciliatorState) (o : Op)
    → Took conciliator_op conciliator_fed (conciliator_started n input at) trail s
    → conciliator_op s word ≡ Some o → o ≡ step_due n at input trail word
conciliator_step_is_due n at word input [] s o took e =
    sym (same_Some _ _ (ap (λ z. conciliator_op z word) took ∙ e))
conciliator_step_is_due n at word input (first ∷ []) s o took e =
    sym (same_Some _ _ (ap (λ z. conciliator_op z word) took.1 ∙ e))
conciliator_step_is_due n at word input (first ∷ second ∷ trail) s o took e =
    due_after (second.got == 0) n at word input trail s o took.1.1 e

pub conciliator_kind_is_due : (n at : ℕ) (input : Bool) (trail : List Entry) (s : ConciliatorState)
    (k : Kind)
    → Took conciliator_op conciliator_fed (conciliator_started n input at) trail s
    → conciliator_kind s ≡ Some k → k ≡ kind_due n at input trail
conciliator_kind_is_due n at input [] s k took e =
    sym (same_Some _ _ (ap conciliator_kind took ∙ e))
conciliator_kind_is_due n at input (first ∷ []) s k took e =
    sym (same_Some _ _ (ap conciliator_kind took.1 ∙ e))
conciliator_kind_is_due n at input (first ∷ second ∷ trail) s k took e =
    named_after (second.got == 0) n at input trail s k took.1.1 e

pub conciliator_goes_on : (n at word : ℕ) (input : Bool) (trail : List Entry) (s : ConciliatorState)
    → Took conciliator_op conciliator_fed (conciliator_started n input at) trail s
    → IsSome (conciliator_op s word) ↔ (conciliator_answer n at input trail ≡ None)
conciliator_goes_on n at word input [] s took = (
  (λ next. refl),
  (λ none. subst (λ z. IsSome (conciliator_op z word)) took refl),
)
conciliator_goes_on n at word input (first ∷ []) s took = (
  (λ next. refl),
  (λ none. subst (λ z. IsSome (conciliator_op z word)) took.1 refl),
)
conciliator_goes_on n at word input (first ∷ second ∷ trail) s took =
    goes_after (second.got == 0) n at word input trail s took.1.1

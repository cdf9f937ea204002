-- A step over the words keeps what a conciliator keeps.
use Rattle.std.proofs.Common.{◌≡◌, ◌≢◌, ℕ, ◌+◌, ◌<◌, ◌≤◌, Bool, true, false, not, cond, Option}
use Rattle.std.proofs.Common.{Some, None, ◌⊎◌, inl, inr, arith, refl, sym, ◌∙◌, ap, subst}
use Rattle.std.proofs.lemmas.Bool.{cases_eq}
use Rattle.std.proofs.lemmas.Bool.Decides.{eqb_tells}
use Rattle.std.proofs.lemmas.Option.{cond_some, same_Some}
use Rattle.bus_register.specs.declared.registers.Op.{Op}
use Rattle.bus_register.specs.Words.{register, after}
use Rattle.bus_register.specs.Tables.{of_some, Beside, Agree, Stepped}
use Rattle.bus_walkcoin.specs.Coin.{coin_started, coin_fed}
use Rattle.bus_walkcoin.specs.CoinProtocol.{coin_protocol}
use Rattle.bus_walkcoin.proofs.CoinProtocolLaws.{coin_laws}
use Rattle.bus_register.specs.Digits.{digit}
use Rattle.bus_register.proofs.DigitLaws.{digit_le, digit_same}
use Rattle.bus_coinconc.specs.declared.conciliators.Stage.{Stage}
use Rattle.bus_coinconc.specs.declared.conciliators.Stage.TheVariants.{SetMark, ReadOtherMark}
use Rattle.bus_coinconc.specs.declared.conciliators.Stage.TheVariants.{Alone, AskCoin}
use Rattle.bus_coinconc.specs.Conciliation.{IsInput}
use Rattle.bus_coinconc.specs.Conciliator.{ConciliatorState, conciliator_op, conciliator_fed}
use Rattle.bus_coinconc.specs.Conciliator.{op_at, stage_after}
use Rattle.bus_coinconc.specs.ConciliatorProtocol.{begun_at, Belongs, coin_at, coins}
use Rattle.bus_coinconc.specs.ConciliatorProtocol.{input_once_begun, marked_input, StageSaw, Keeps}
use Rattle.bus_coinconc.proofs.ConciliatorGoes.{goes_of}

cases_bool : (v w : Bool) → (v ≡ w) ⊎ (v ≢ w)
cases_bool true true = inl refl
cases_bool true false = inr (λ e. cc)
cases_bool false true = inr (λ e. cc)
cases_bool false false = inl refl

-- a process that saw a mark goes on to have seen it
pub saw_stays : (ins ins' : ℕ → Option Bool) → ((v : Bool) → IsInput ins v → IsInput ins' v)
    → (st : Stage) (input : Bool) → StageSaw ins st input → StageSaw ins' st input
saw_stays ins ins' more SetMark input h = tt
saw_stays ins ins' more ReadOtherMark input h = tt
saw_stays ins ins' more Alone input h = tt
saw_stays ins ins' more (AskCoin c) input h = more (not input) h

module _ (n at : ℕ) (words words' : ℕ → ℕ) (old new : ℕ → Option ConciliatorState) (p : ℕ)
    (s : ConciliatorState) (word : ℕ) (o : Op)
    (k : Keeps n at words old) (here : old p ≡ Some s) (next : conciliator_op s word ≡ Some o)
    (goes : new p ≡ Some (conciliator_fed s (words (register o)) word)) (beside : Beside p old new)
    (step : Stepped at 3 o words words') where
  mine : Belongs n p at s
  mine = (k.inside p s here).1

  begun_now : begun_at (stage_after s.stage s (words (register o)) word) ≡ true
  begun_now = (goes_of n p at s (words (register o)) word o mine next).begun

  inside : (q : ℕ) (u : ConciliatorState) → new q ≡ Some u → (q < n) × Belongs n q at u
  inside q u e = elim (cases_eq q p) [
    | inl i ↦ subst (λ z. (z < n) × Belongs n z at u) (sym i) (
      mine.below,
      subst (Belongs n p at) (same_Some _ _ (sym goes ∙ ap new (sym i) ∙ e))
          (goes_of n p at s (words (register o)) word o mine next).belongs,
    )
    | inr ne ↦ k.inside q u (sym (beside q ne) ∙ e)
  ]

  marked_now : marked_input new p ≡ Some s.input
  marked_now = ap (of_some input_once_begun) goes ∙ ap (λ z. cond z (Some s.input) None) begun_now

  marked_was : (v : Bool) → marked_input old p ≡ Some v → v ≡ s.input
  marked_was v e =
      sym (cond_some (begun_at s.stage) s.input v (ap (of_some input_once_begun) (sym here) ∙ e)).1

  -- an input that counts goes on to count
  marked_stays : (q : ℕ) (v : Bool) → marked_input old q ≡ Some v → marked_input new q ≡ Some v
  marked_stays q v e = elim (cases_eq q p) [
    | inl i ↦
        ap (marked_input new) i ∙ marked_now
        ∙ ap Some (sym (marked_was v (ap (marked_input old) (sym i) ∙ e)))
    | inr ne ↦ ap (of_some input_once_begun) (beside q ne) ∙ e
  ]

  input_stays : (v : Bool) → IsInput (marked_input old) v → IsInput (marked_input new) v
  input_stays v i = (i.0, marked_stays i.0 v i.1)

  -- the marks before the step, where it was not the step that sets the own mark
  record Marks : Type 0 where
    set : (q : ℕ) (v : Bool) → marked_input new q ≡ Some v → words' (at + digit v) ≡ 1
    unset : (v : Bool) → (words' (at + digit v) ≡ 0) ⊎ IsInput (marked_input new) v

  marks_stay : begun_at s.stage ≡ true → ((v : Bool) → words' (at + digit v) ≡ words (at + digit v))
      → Marks
  marks_stay b same = record {
    set = λ q v e. same v ∙ elim (cases_eq q p) [
      | inl i ↦ k.set p v (ap (of_some input_once_begun) here
          ∙ ap (λ z. cond z (Some s.input) None) b ∙ sym marked_now ∙ ap (marked_input new) (sym i)
          ∙ e)
      | inr ne ↦ k.set q v (ap (of_some input_once_begun) (sym (beside q ne)) ∙ e)
    ];
    unset = λ v. elim (k.unset v) [ inl z ↦ inl (same v ∙ z) | inr i ↦ inr (input_stays v i) ];
  }

  coins_beside : Beside p (coins old) (coins new)
  coins_beside q ne = ap (of_some (λ s. coin_at s.stage)) (beside q ne)

  coin_here : coins old p ≡ coin_at s.stage
  coin_here = ap (of_some (λ s. coin_at s.stage)) here

  coin_now : coins new p ≡ coin_at (stage_after s.stage s (words (register o)) word)
  coin_now = ap (of_some (λ s. coin_at s.stage)) goes

  -- all together
  whole : Marks
      → StageSaw (marked_input new) (stage_after s.stage s (words (register o)) word) s.input
      → coin_protocol.Keeps n (at + 2) words' (coins new) → Keeps n at words' new
  whole marks saw coin = record {
    inside = inside;
    set = marks.set;
    unset = marks.unset;
    saw = λ q u e. elim (cases_eq q p) [
      | inl i ↦ subst (λ z. StageSaw (marked_input new) z.stage z.input)
          (same_Some _ _ (sym goes ∙ ap new (sym i) ∙ e)) saw
      | inr ne ↦ saw_stays (marked_input old) (marked_input new) input_stays u.stage u.input
          (k.saw q u (sym (beside q ne) ∙ e))
    ];
    coin = coin;
  }

  -- the coin stays where the process neither comes to it nor is in it, and its counter is not
  -- written
  coin_stays : coin_at s.stage ≡ None
      → coin_at (stage_after s.stage s (words (register o)) word) ≡ None
      → Agree (at + 2) 1 words words' → coin_protocol.Keeps n (at + 2) words' (coins new)
  coin_stays was now agree = coin_laws.frame n (at + 2) words words' (coins old) (coins new) k.coin
      agree (λ q. elim (cases_eq q p) [
        | inl i ↦
            ap (coins new) i ∙ coin_now ∙ now ∙ sym was ∙ sym coin_here ∙ ap (coins old) (sym i)
        | inr ne ↦ coins_beside q ne
      ])

  -- a load changes no word
  loaded : ((found : ℕ) → after o found ≡ found) → (r : ℕ) → at ≤ r → r < at + 3
      → words' r ≡ words r
  loaded same r a b = elim (cases_eq r (register o)) [
    | inl e ↦ ap words' e ∙ step.here ∙ same _ ∙ ap words (sym e)
    | inr ne ↦ step.elsewhere r a b ne
  ]

  by_stage : (st : Stage) → s.stage ≡ st → op_at st s word ≡ Some o → Keeps n at words' new
  by_stage SetMark e q =
      let place : register o ≡ at + digit s.input =
      ap register (sym (same_Some _ _ q)) ∙ ap (λ z. z + digit s.input) mine.at_is in
      let small = digit_le s.input in
      let to : stage_after s.stage s (words (register o)) word ≡ ReadOtherMark =
      ap (λ z. stage_after z s (words (register o)) word) e in
      let written : words' (at + digit s.input) ≡ 1 =
      ap words' (sym place) ∙ step.here
      ∙ ap (λ z. after z (words (register o))) (sym (same_Some _ _ q)) in
      let beside_it : (v : Bool) → v ≢ s.input → words' (at + digit v) ≡ words (at + digit v) =
      λ v ne. step.elsewhere (at + digit v) (omega arith) (let l = digit_le v in omega arith)
      (λ same. ne (digit_same v s.input (omega arith))) in
      whole record {
        set = λ q' v m. elim (cases_bool v s.input) [
          | inl same ↦ ap (λ z. words' (at + digit z)) same ∙ written
          | inr ne ↦ beside_it v ne ∙ elim (cases_eq q' p) [
            | inl i ↦ absurd (ne (same_Some _ _ (sym m ∙ ap (marked_input new) i ∙ marked_now)))
            | inr other ↦ k.set q' v (ap (of_some input_once_begun) (sym (beside q' other)) ∙ m)
          ]
        ];
        unset = λ v. elim (cases_bool v s.input) [
          | inl same ↦ inr (p, marked_now ∙ ap Some (sym same))
          | inr ne ↦ elim (k.unset v) [
            | inl z ↦ inl (beside_it v ne ∙ z)
            | inr i ↦ inr (input_stays v i)
          ]
        ];
      }
      (subst (λ z. StageSaw (marked_input new) z s.input) (sym to) tt)
      (coin_stays (ap coin_at e) (ap coin_at to)
      (λ r a b. step.elsewhere r (omega arith) (omega arith) (omega arith)))
  by_stage ReadOtherMark e q =
      let place : register o ≡ at + digit (not s.input) =
      ap register (sym (same_Some _ _ q)) ∙ ap (λ z. z + digit (not s.input)) mine.at_is in
      let same = loaded (λ found. ap (λ z. after z found) (sym (same_Some _ _ q))) in
      let to : stage_after s.stage s (words (register o)) word
      ≡ stage_after ReadOtherMark s (words (register o)) word =
      ap (λ z. stage_after z s (words (register o)) word) e in
      let marks = marks_stay (ap begun_at e)
      (λ v. same (at + digit v) (omega arith) (let l = digit_le v in omega arith)) in
      elim (eqb_tells (words (register o)) 0) [
        | inl zero ↦
            let alone : stage_after s.stage s (words (register o)) word ≡ Alone =
            to ∙ ap (λ z. cond z Alone (AskCoin (coin_started s.n (s.at + 2)))) zero.0 in
            whole marks (subst (λ z. StageSaw (marked_input new) z s.input) (sym alone) tt)
            (coin_stays (ap coin_at e) (ap coin_at alone)
            (λ r a b. same r (omega arith) (omega arith)))
        | inr some ↦
            let asks : stage_after s.stage s (words (register o)) word
            ≡ AskCoin (coin_started s.n (s.at + 2)) =
            to ∙ ap (λ z. cond z Alone (AskCoin (coin_started s.n (s.at + 2)))) some.0 in
            let begins : coin_started s.n (s.at + 2) ≡ coin_started n (at + 2) =
            ap (λ z. coin_started z (s.at + 2)) mine.n_is
            ∙ ap (λ z. coin_started n (z + 2)) mine.at_is in
            whole marks
            (subst (λ z. StageSaw (marked_input new) z s.input) (sym asks)
            (elim (k.unset (not s.input)) [
              | inl z ↦ absurd (some.1 (ap words place ∙ z))
              | inr i ↦ input_stays (not s.input) i
            ]))
            (coin_laws.enters n (at + 2) words' (coins old) (coins new) p tt
            (coin_laws.frame n (at + 2) words words' (coins old) (coins old) k.coin
            (λ r a b. same r (omega arith) (omega arith)) (λ q'. refl))
            mine.below mine.few (coin_here ∙ ap coin_at e)
            (coin_now ∙ ap coin_at asks ∙ ap Some begins) coins_beside)
      ]
  by_stage Alone e q = absurd cc
  by_stage (AskCoin c) e q =
      let to : stage_after s.stage s (words (register o)) word
      ≡ AskCoin (coin_fed c (words (register o)) word) =
      ap (λ z. stage_after z s (words (register o)) word) e in
      let asked : coins old p ≡ Some c = coin_here ∙ ap coin_at e in
      let g = coin_laws.goes n p (at + 2) c (words (register o)) word o
      (coin_laws.known n (at + 2) words (coins old) p c k.coin asked).1 q in
      whole (marks_stay (ap begun_at e) (λ v. step.elsewhere (at + digit v) (omega arith)
      (let l = digit_le v in omega arith) (let l = digit_le v in let h = g.above in omega arith)))
      (subst (λ z. StageSaw (marked_input new) z s.input) (sym to)
      (input_stays (not s.input)
      (subst (λ z. StageSaw (marked_input old) z s.input) e (k.saw p s here))))
      (coin_laws.moves n (at + 2) words words' (coins old) (coins new) p c word o k.coin asked q
      (coin_now ∙ ap coin_at to) coins_beside record {
        here = step.here;
        elsewhere = λ r a b ne. step.elsewhere r (omega arith) (omega arith) ne;
      })

  pub moves_keep : Keeps n at words' new
  moves_keep = by_stage s.stage refl next

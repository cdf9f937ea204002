use Rattle.std.proofs.Common.{◌≡◌, ◌↔◌, ℕ, ◌+◌, ◌-◌, ◌^◌, ◌<◌, ◌≤◌, List, length, Option, Some}
use Rattle.std.proofs.Common.{sum, set, get_or, refl, sym, subst, ◌∙◌, arith}
use Rattle.std.proofs.lemmas.List.{length-set}
use Rattle.std.proofs.lemmas.List.Sums.{sum_by-set, get_or-le-sum_by}
use Rattle.std.proofs.lemmas.Option.{same_Some}
use Rattle.example_ledger.specs.Transfers.{message_of, CanBePaid, IsCovered}
use Rattle.example_ledger.specs.declared.Transfer.{Transfer}
use Rattle.example_ledger.proofs.apply.Goals as goal
use Rattle.example_ledger.proofs.apply.Goals.{then-from-ge4-via-then-from-ge4}
use Rattle.example_ledger.proofs.apply.Goals.{then-from-ge4-via-else-from-ge4+then-to-ge4}
use Rattle.example_ledger.proofs.apply.Goals.{then-from-ge4-via-else-from-ge4+else-to-ge4+then-balances-from}

-- what an account has once it is paid is part of all the money
fits : (balances : List ℕ) (from to amount : ℕ) → from < length balances → to < length balances
    → amount ≤ get_or balances from 0 → sum balances < 2 ^ 64
    → get_or (set balances from (get_or balances from 0 - amount)) to 0 + amount < 2 ^ 64
fits balances from to amount pays gets has small =
    let rest = set balances from (get_or balances from 0 - amount) in
    let part = get_or-le-sum_by (λ x. x) rest to 0
    (subst (λ n. to < n) (sym (length-set balances from (get_or balances from 0 - amount))) gets) in
    omega (arith, sum_by-set (λ x. x) balances from (get_or balances from 0 - amount) 0 pays, part)

-- what is decoded is the transfer of which the message is
decoded : (message : List ℕ) (found : Option Transfer) (here there : Transfer)
    → ((transfer : Transfer) → (found ≡ Some transfer) ↔ (message ≡ message_of transfer))
    → found ≡ Some here → message ≡ message_of there → there ≡ here
decoded message found here there says is same =
    same_Some there here (sym ((says there).1 same) ∙ is)

-- a message whose transfer is not covered cannot be paid
refuses : (message balances : List ℕ) (found : Option Transfer) (here : Transfer)
    → ((transfer : Transfer) → (found ≡ Some transfer) ↔ (message ≡ message_of transfer))
    → found ≡ Some here → ¬ IsCovered here balances → ¬ CanBePaid message balances
refuses message balances found here says is not can = not
    (subst (λ transfer. IsCovered transfer balances)
    (decoded message found here can.0 says is can.1) can.2)

pub returns-in_default-clause-exact : goal.returns-in_default-clause-exact
returns-in_default-clause-exact c = (
  λ is. absurd cc,
  λ can. absurd (c.in_default.not-Some can.0 ((c.decode.ensures can.0).1 can.1)),
)

pub returns-then-from-ge4-clause-exact : goal.returns-then-from-ge4-clause-exact
returns-then-from-ge4-clause-exact c =
    let not : ¬ IsCovered c.in-Some.transfer c.args.balances.now = λ covered.
    elim c.then-from-ge4.branch [
      | then-from-ge4-via-then-from-ge4 w ↦
          absurd (omega (arith, c.told-balances, covered.0, w.if-from-ge4))
      | then-from-ge4-via-else-from-ge4+then-to-ge4 w ↦
          absurd (omega (arith, c.told-balances, covered.1, w.if-to-ge4))
      | then-from-ge4-via-else-from-ge4+else-to-ge4+then-balances-from w ↦
          absurd (grind (arith, covered.2, w.if-balances-from))
    ] in (
      λ is. absurd cc,
      λ can. absurd (refuses c.args.message.now c.args.balances.now c.decode.result
          c.in-Some.transfer c.decode.ensures c.in-Some.is not can),
    )

pub overflow_add-balances : goal.overflow_add-balances
overflow_add-balances c = omega (arith, fits)

pub returns-clause-exact : goal.returns-clause-exact
returns-clause-exact c = (
  λ is. (
    c.in-Some.transfer,
    (c.decode.ensures c.in-Some.transfer).0 c.in-Some.is,
    (omega arith, omega arith, grind arith),
  ),
  λ can. refl,
)

pub returns-clause-applied : goal.returns-clause-applied
returns-clause-applied c = λ transfer is done. grind (
  arith,
  decoded c.args.message.now c.decode.result c.in-Some.transfer transfer c.decode.ensures
      c.in-Some.is is,
)

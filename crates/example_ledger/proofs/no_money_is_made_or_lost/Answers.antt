use Rattle.std.proofs.Common.{◌≡◌, List, ℕ, sum, ◌∙◌, refl, ap}
use Rattle.bus_batch.specs.declared.messages.Item.{Item}
use Rattle.bus_replica.specs.Replicas.{Folds, Begins, Then}
use Rattle.example_ledger.specs.Transfers.{Applies}
use Rattle.example_ledger.proofs.no_money_is_made_or_lost.Goals as goal

-- each operation keeps the sum
kept : (first : List ℕ) (items : List Item) (balances : List ℕ) → Folds Applies first items balances
    → sum balances ≡ sum first
kept first _ _ Begins = refl
kept first _ _ (Then items old item answer new before applied) =
    applied.conserved ∙ kept first items old before

pub returns : goal.returns
returns c = λ first balances items is folds. kept first items balances folds ∙ ap sum is

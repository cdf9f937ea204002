-- The transfers: their messages, and what they do.
use Rattle.std.specs.Prelude.{◌≡◌, ◌↔◌, ℕ, ◌+◌, ◌-◌, ◌<◌, ◌≤◌, List, [], ◌∷◌, length, slice_index}
use Rattle.std.specs.Prelude.{slice_set, sum, Bool, IsTrue}
use Rattle.std.specs.Bool.{OnFalse}
use Rattle.example_ledger.specs.declared.Transfer.{Transfer}

-- `>`, the account that pays, the account that is paid, and the amount
abbrev pub message_of : Transfer → List ℕ
message_of transfer = 62 ∷ transfer.from ∷ transfer.to ∷ transfer.amount ∷ []

-- both accounts are there, and the one that pays has the amount
abbrev pub IsCovered : Transfer → List ℕ → Type 0
IsCovered transfer balances =
    (transfer.from < length balances) × (transfer.to < length balances)
    × (transfer.amount ≤ slice_index balances transfer.from)

-- the message is of a transfer that is covered
abbrev pub CanBePaid : List ℕ → List ℕ → Type 0
CanBePaid message balances =
    (transfer : Transfer) × (message ≡ message_of transfer) × IsCovered transfer balances

-- the balances once the amount was taken from one account, and once it was given to the other,
-- which may be the same
abbrev pub after_taking : Transfer → List ℕ → List ℕ
after_taking transfer balances =
    slice_set balances transfer.from (slice_index balances transfer.from - transfer.amount)

abbrev pub after_giving : Transfer → List ℕ → List ℕ
after_giving transfer balances =
    slice_set balances transfer.to (slice_index balances transfer.to + transfer.amount)

-- the balances after a transfer that is covered
abbrev pub after_transfer : Transfer → List ℕ → List ℕ
after_transfer transfer balances = after_giving transfer (after_taking transfer balances)

-- all the money that there is: four accounts begin with 60 each
abbrev pub money : ℕ
money = 240

abbrev pub IsFirst : List ℕ → Type 0
IsFirst balances = balances ≡ 60 ∷ 60 ∷ 60 ∷ 60 ∷ []

-- What an operation does to the balances, whoever sent it, and whether it was carried out: as
-- `apply` promises.
pub record Applies (old : List ℕ) (from : ℕ) (message : List ℕ) (paid : Bool) (new : List ℕ) :
    Type 0 where
  pub conserved : sum new ≡ sum old
  pub exact : IsTrue paid ↔ CanBePaid message old
  pub applied : (transfer : Transfer) → message ≡ message_of transfer → IsTrue paid
      → new ≡ after_transfer transfer old
  pub refused : OnFalse paid (new ≡ old)

-- What holds of an election, in one record.
use Rattle.std.specs.Prelude.{◌≡◌, ℕ, ◌-◌, ◌<◌, ◌≤◌, Option, Some, false}
use Rattle.bus_register.specs.declared.registers.Op.{Op}
use Rattle.bus_register.specs.Protocol.{Laws, outputs}
use Rattle.bus_ownerbits.specs.declared.stages.Stage.TheVariants.{Propose, Search}
use Rattle.bus_ownerbits.specs.Election.{Decisions, Electing, fits_bits, election_op, election_fed}
use Rattle.bus_ownerbits.specs.Election.{owner_of}
use Rattle.bus_ownerbits.specs.Sizes.{bits_of, turns_of}
use Rattle.bus_ownerbits.specs.OneOwner.{OneOwner}
use Rattle.bus_ownerbits.specs.ElectionKeeps.{Fitting, election_protocol}

pub record ElectionLaw {S : Type 0} (op : S → ℕ → Option Op) (fed : S → ℕ → ℕ → S) (D : Decisions S)
    (cost : ℕ → ℕ → ℕ) : Type 0 where
  -- all owners are equal, and the owner has announced itself
  pub laws : (rounds : ℕ)
      → Laws (election_op op) (election_fed D fed) (election_protocol D cost rounds) OneOwner
  -- the owner is one of the processes
  pub below : (rounds n at : ℕ) (words : ℕ → ℕ) (locals : ℕ → Option (Electing S))
      → (election_protocol D cost rounds).Keeps n at words locals → (p v : ℕ)
      → outputs (election_protocol D cost rounds) locals p ≡ Some v → v < n
  -- a process that searches finds one: from where it searches on, an announced process fits all
  -- bits decided so far
  pub found : (rounds n at : ℕ) (words : ℕ → ℕ) (locals : ℕ → Option (Electing S))
      → (election_protocol D cost rounds).Keeps n at words locals → (p i : ℕ) (s : Electing S)
      → locals p ≡ Some s → s.stage ≡ Search i
      → (c : ℕ) × (i ≤ c) × Fitting n at words s.left s.spelled c
  -- a process that proposes has a candidate that has announced itself, and that fits all bits
  -- decided so far: itself, or where it searched the one that it found
  pub fits : (rounds n at : ℕ) (words : ℕ → ℕ) (locals : ℕ → Option (Electing S))
      → (election_protocol D cost rounds).Keeps n at words locals → (p : ℕ) (d : S) (s : Electing S)
      → locals p ≡ Some s → s.stage ≡ Propose d → Fitting n at words s.left s.spelled s.candidate
  -- a process searches only after a bit, not the last, that does not fit its candidate
  pub searches : (rounds n me at i : ℕ) (s : Electing S)
      → (election_protocol D cost rounds).Belongs n me at s → s.stage ≡ Search i
      → (fits_bits s s.candidate ≡ false) × (1 ≤ s.left) × (s.left < bits_of n)
  -- a process has an owner only at the last bit, or where there is none
  pub last_bit : (rounds n me at v : ℕ) (s : Electing S)
      → (election_protocol D cost rounds).Belongs n me at s → owner_of D s ≡ Some v → s.left ≤ 1
  -- the turns that are left are the bound at the start; each step takes one, there are two before
  -- it, and so one is left at the end
  pub turns_start : (rounds n me at : ℕ)
      → ((election_protocol D cost rounds).started n me tt at).turns ≡ turns_of cost rounds n
  pub turns_fall : (s : Electing S) (got word : ℕ)
      → (election_fed D fed s got word).turns ≡ s.turns - 1
  pub turns_last : (rounds n me at : ℕ) (s : Electing S)
      → (election_protocol D cost rounds).Belongs n me at s → 1 ≤ s.turns
  pub turns_enough : (rounds n me at : ℕ) (s : Electing S) (word : ℕ) (o : Op)
      → (election_protocol D cost rounds).Belongs n me at s → election_op op s word ≡ Some o
      → 2 ≤ s.turns

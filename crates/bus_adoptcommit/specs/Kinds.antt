-- The kinds of step that a ratifier may take.
use Rattle.std.specs.Prelude.{◌≡◌, ◌≢◌, ℕ, ◌⊎◌, Bool, false}
use Rattle.bus_register.specs.declared.kinds.Kind.{Kind}
use Rattle.bus_register.specs.declared.registers.Op.{Op}
use Rattle.bus_register.specs.declared.registers.Op.TheVariants.{Load}
use Rattle.bus_register.specs.Protocol.{IsStore}
use Rattle.bus_register.specs.declared.kinds.Kind.TheVariants.{WriteFirst, ReadFirst, WriteSecond}
use Rattle.bus_register.specs.declared.kinds.Kind.TheVariants.{ReadSecond}

-- one of the four
abbrev pub IsOfRatifier : Kind → Type 0
IsOfRatifier k = (k ≡ WriteFirst) ⊎ ((k ≡ ReadFirst) ⊎ ((k ≡ WriteSecond) ⊎ (k ≡ ReadSecond)))

-- the two that store
abbrev pub IsStoring : Kind → Type 0
IsStoring k = (k ≡ WriteFirst) ⊎ (k ≡ WriteSecond)

-- the two that read
abbrev pub IsReading : Kind → Type 0
IsReading k = (k ≡ ReadFirst) ⊎ (k ≡ ReadSecond)

-- a step that only reads its word
abbrev pub IsLoad : Op → Type 0
IsLoad o = (r : ℕ) × (o ≡ Load record { 0 = r })

-- a step is named for what it does: it stores exactly where its kind stores, it loads where its
-- kind reads, and the first step of a process is the one that stores a proposal
pub record IsNamedFor (k : Kind) (o : Op) (begun : Bool) : Type 0 where
  pub stores : IsStore o → IsStoring k
  pub storing : IsStoring k → IsStore o
  pub reading : IsReading k → IsLoad o
  pub proposes : k ≡ WriteFirst → begun ≡ false
  pub first : begun ≡ false → k ≡ WriteFirst

-- the kind of the next step, `next`, comes after k: proposals are read once one is stored, a
-- verdict is stored once proposals are read, and verdicts are read at the end
pub record ComesAfter (k next : Kind) : Type 0 where
  pub reads_first : next ≡ ReadFirst → (k ≡ WriteFirst) ⊎ (k ≡ ReadFirst)
  pub writes_second : next ≡ WriteSecond → k ≡ ReadFirst
  pub reads_second : next ≡ ReadSecond → k ≢ WriteFirst

-- A kind is named exactly where an election has a step.
use Rattle.std.specs.Prelude.{◌≡◌, ℕ, Option, is_some, refl}
use Rattle.bus_register.specs.declared.kinds.Kind.{Kind}
use Rattle.bus_register.specs.declared.registers.Op.{Op}
use Rattle.bus_ownerbits.specs.declared.stages.Stage.{Stage}
use Rattle.bus_ownerbits.specs.declared.stages.Stage.TheVariants.{Announce, Propose, Search, Alone}
use Rattle.bus_ownerbits.specs.Election.{Electing, kind_at, op_at, election_kind, election_op}

named_at : {S : Type 0} (kind : S → Option Kind) (op : S → ℕ → Option Op)
    (named : (s : S) (word : ℕ) → is_some (kind s) ≡ is_some (op s word)) (stage : Stage S)
    (s : Electing S) (word : ℕ) → is_some (kind_at kind stage) ≡ is_some (op_at op stage s word)
named_at kind op named Announce s word = refl
named_at kind op named (Propose d) s word = named d word
named_at kind op named (Search i) s word = refl
named_at kind op named Alone s word = refl

-- a kind is named exactly where there is a step
pub election_named : {S : Type 0} (kind : S → Option Kind) (op : S → ℕ → Option Op)
    (named : (s : S) (word : ℕ) → is_some (kind s) ≡ is_some (op s word)) (s : Electing S)
    (word : ℕ) → is_some (election_kind kind s) ≡ is_some (election_op op s word)
election_named kind op named s word = named_at kind op named s.stage s word

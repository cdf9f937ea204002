-- The law of every election, for a machine of either kind of rows.
use Rattle.std.proofs.Common.{◌≡◌, ℕ, Bool, Option, Some, None, is_some}
use Rattle.bus_adoptcommit.specs.declared.verdicts.Verdict.{Verdict}
use Rattle.bus_ownerbits.specs.OneOwner.{OneOwner}
use Rattle.bus_register.specs.Protocol.{Protocol, Laws}
use Rattle.bus_register.specs.declared.kinds.Kind.{Kind}
use Rattle.bus_register.specs.declared.registers.Op.{Op}
use Rattle.bus_register.specs.declared.limits.TheConstants.{TENURES}
use Rattle.bus_adoptcommit.specs.Kinds.{IsOfRatifier}
use Rattle.bus_tenure.specs.Elections.{elections, election_with}
use Rattle.bus_world.proofs.Serving.{Serves, serves}
use Rattle.bus_world.specs.declared.shapes.Shape.{Shape}
use Rattle.bus_machine.specs.Playing.{layout_passed}

module _ {S : Type 0} (kind_of : S → Option Kind) (op : S → ℕ → Option Op) (fed : S → ℕ → ℕ → S)
    (P : Protocol S Bool Verdict)
    (named : (s : S) (word : ℕ) → is_some (kind_of s) ≡ is_some (op s word))
    (own_kinds : (s : S) (k : Kind) → kind_of s ≡ Some k → IsOfRatifier k)
    (shape : Shape)
    (laws : Laws (election_with kind_of op fed P).op (election_with kind_of op fed P).fed
    (elections P shape.rounds) OneOwner) where
  pub served : (reuse : Option ℕ) (passers : ℕ)
      → Serves (election_with kind_of op fed P) (elections P shape.rounds)
      (layout_passed P shape reuse passers)
  served None passers = serves kind_of op fed P named own_kinds shape.senders shape.rounds
      shape.rows shape.log_words passers shape.batch laws
  served (Some rows) passers = serves kind_of op fed P named own_kinds shape.senders shape.rounds
      TENURES shape.log_words passers shape.batch laws

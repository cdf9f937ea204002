-- Ways through a binary decision that its rounds do not allow: one for any rounds, and some for two
-- rounds, where 3 is the first ratifier, 2 the conciliator, 1 the second ratifier, and 0 the
-- fallback word.
use Rattle.std.specs.Prelude.{◌≡◌, ◌≢◌, ℕ, ◌<◌, ◌≤◌, Bool, Option, Some, None}
use Rattle.bus_register.specs.Protocol.{Protocol}
use Rattle.bus_adoptcommit.specs.declared.verdicts.Verdict.{Verdict}
use Rattle.bus_adoptcommit.specs.declared.verdicts.Verdict.TheVariants.{Commit, Adopt}
use Rattle.bus_binconsensus.specs.declared.objects.Object.{Object}
use Rattle.bus_binconsensus.specs.Chain.{Walk}
use Rattle.bus_binconsensus.specs.Objects.{first_of, objects_of, object_output, object_input}
use Rattle.bus_binconsensus.specs.Objects.{Decider}

-- no process goes so through a decision
pub record RefusesShortcuts {S T : Type 0} (P : Protocol S Bool Verdict)
    (C : Protocol T Bool Bool) : Type 0 where
  -- of any rounds: it stands past an object that adopted no value for it
  pub past_an_object : (rounds n at p k : ℕ) (visits : ℕ → ℕ → Option (Object S T))
      (d : Decider S T)
      → d.after < k → k ≤ first_of rounds
      → ((x : Object S T) (v : Bool) → visits k p ≡ Some x → object_output P C x ≢ Some (Adopt v))
      → ¬ Walk (objects_of P C) (first_of rounds) n at visits p d
  -- of two rounds: it stands at the fallback word, and was not in the second ratifier
  pub early_fallback : (n at p : ℕ) (visits : ℕ → ℕ → Option (Object S T)) (d : Decider S T)
      → d.after ≡ 0 → visits 1 p ≡ None → ¬ Walk (objects_of P C) (first_of 2) n at visits p d
  -- of two rounds: it stands in the second ratifier, and was not in the conciliator
  pub no_conciliator : (n at p : ℕ) (visits : ℕ → ℕ → Option (Object S T)) (d : Decider S T)
      → d.after ≡ 1 → visits 2 p ≡ None → ¬ Walk (objects_of P C) (first_of 2) n at visits p d
  -- of two rounds: it stands in the conciliator, and the first ratifier gave it a commit
  pub past_a_commit : (n at p : ℕ) (visits : ℕ → ℕ → Option (Object S T)) (d : Decider S T)
      (x : Object S T) (v : Bool)
      → d.after ≡ 2 → visits 3 p ≡ Some x → object_output P C x ≡ Some (Commit v)
      → ¬ Walk (objects_of P C) (first_of 2) n at visits p d
  -- of two rounds: it stands in the conciliator with a value that the first ratifier did not give
  -- it
  pub other_value : (n at p : ℕ) (visits : ℕ → ℕ → Option (Object S T)) (d : Decider S T)
      (x : Object S T) (v : Bool)
      → d.after ≡ 2 → visits 3 p ≡ Some x → object_output P C x ≡ Some (Adopt v)
      → object_input P C d.object ≢ v → ¬ Walk (objects_of P C) (first_of 2) n at visits p d
  -- of two rounds: it stands in the first ratifier with a value that is not its own input
  pub other_input : (n at p : ℕ) (visits : ℕ → ℕ → Option (Object S T)) (d : Decider S T)
      → d.after ≡ 3 → object_input P C d.object ≢ d.input
      → ¬ Walk (objects_of P C) (first_of 2) n at visits p d

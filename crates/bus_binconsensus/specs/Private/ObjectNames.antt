-- A kind is named exactly where an object has a step.
use Rattle.std.specs.Prelude.{◌≡◌, ℕ, Bool, Option, Some, None, is_some, refl}
use Rattle.bus_register.specs.declared.kinds.Kind.{Kind}
use Rattle.bus_register.specs.declared.registers.Op.{Op}
use Rattle.bus_binconsensus.specs.declared.fallbacks.Fallback.{Fallback}
use Rattle.bus_binconsensus.specs.declared.objects.Object.{Object}
use Rattle.bus_binconsensus.specs.declared.objects.Object.TheVariants.{Ratify, Concile, Fall}
use Rattle.bus_binconsensus.specs.Fallback.{kind_from, op_from}
use Rattle.bus_binconsensus.specs.Objects.{object_kind, object_op}

fallback_named : (d : Option Bool) (f : Fallback) → is_some (kind_from d) ≡ is_some (op_from d f)
fallback_named None f = refl
fallback_named (Some v) f = refl

pub objects_named : {S T : Type 0} (kind : S → Option Kind) (op : S → ℕ → Option Op)
    (named : (s : S) (word : ℕ) → is_some (kind s) ≡ is_some (op s word))
    (kindC : T → Option Kind) (opC : T → ℕ → Option Op)
    (namedC : (s : T) (word : ℕ) → is_some (kindC s) ≡ is_some (opC s word))
    (x : Object S T) (word : ℕ)
    → is_some (object_kind kind kindC x) ≡ is_some (object_op op opC x word)
objects_named kind op named kindC opC namedC (Ratify q) word = named q word
objects_named kind op named kindC opC namedC (Concile c) word = namedC c word
objects_named kind op named kindC opC namedC (Fall f) word = fallback_named f.decided f

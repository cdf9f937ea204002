-- One process at a fallback word (Herlihy 1991: consensus by compare_exchange).
use Rattle.std.specs.Prelude.{◌≡◌, ℕ, ◌+◌, ◌<◌, Bool, true, false, Option, Some, None, is_some}
use Rattle.std.specs.Prelude.{◌==◌, if◌then◌else◌, ◌⊎◌}
use Rattle.bus_register.specs.declared.kinds.Kind.{Kind}
use Rattle.bus_register.specs.declared.kinds.Kind.TheVariants as kinds
use Rattle.bus_register.specs.declared.registers.Op.{Op}
use Rattle.bus_register.specs.declared.registers.Op.TheVariants.{Cas}
use Rattle.bus_register.specs.Protocol.{Protocol}
use Rattle.bus_register.specs.Digits.{digit}
use Rattle.bus_binconsensus.specs.declared.fallbacks.Fallback.{Fallback}

abbrev pub kind_from : Option Bool → Option Kind
kind_from None = Some kinds.Fallback
kind_from (Some v) = None

-- what the next step is for
abbrev pub kind_of : Fallback → Option Kind
kind_of s = kind_from s.decided

abbrev pub op_from : Option Bool → Fallback → Option Op
op_from None s = Some (Cas s.at 0 (1 + digit s.value))
op_from (Some v) s = None

-- the next step
abbrev pub op_of : Fallback → Option Op
op_of s = op_from s.decided s

-- the value that stands once a process with this value has found this number
abbrev pub won_value : ℕ → Bool → Bool
won_value got value = if got == 0 then value else (if got == 1 then false else true)

abbrev pub left_from : Option Bool → ℕ
left_from None = 1
left_from (Some v) = 0

-- what the process holds after a step that found this number
abbrev pub fed_of : Fallback → ℕ → Fallback
fed_of s got = record s { decided = Some (won_value got s.value) }

-- s is a local state of process me of n, at the word at
pub record Belongs (n me at : ℕ) (s : Fallback) : Type 0 where
  pub below : me < n
  pub at_is : s.at ≡ record { 0 = at }

-- the word has the value of a process that has taken its step
pub record Filled (word : ℕ) (locals : ℕ → Option Fallback) : Type 0 where
  pub by : ℕ
  pub local : Fallback
  pub here : locals by ≡ Some local
  pub took : is_some local.decided ≡ true
  pub is : word ≡ 1 + digit local.value

-- what the word and the local states always keep
pub record Keeps (n at : ℕ) (words : ℕ → ℕ) (locals : ℕ → Option Fallback) : Type 0 where
  pub inside : (p : ℕ) (s : Fallback) → locals p ≡ Some s → Belongs n p at s
  pub stands : (words at ≡ 0) ⊎ Filled (words at) locals
  pub decided : (p : ℕ) (s : Fallback) (v : Bool) → locals p ≡ Some s → s.decided ≡ Some v
      → words at ≡ 1 + digit v

-- a fallback word as a protocol
abbrev pub fallback_protocol : Protocol Fallback Bool Bool
fallback_protocol = record {
  width = λ n. 1;
  steps = λ n. 1;
  started = λ n me v at. record { at = record { 0 = at }; value = v; decided = None };
  input = λ s. s.value;
  has_begun = λ s. is_some s.decided;
  output = λ s. s.decided;
  wants_word = λ s. false;
  left = λ s. left_from s.decided;
  Belongs = Belongs;
  Keeps = Keeps;
}

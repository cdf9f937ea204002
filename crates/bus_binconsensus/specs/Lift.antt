-- A protocol whose local states are a part of other local states: a process of one kind of object
-- among several kinds.
use Rattle.std.specs.Prelude.{◌≡◌, ℕ, Bool, Option, Some}
use Rattle.bus_register.specs.Tables.{of_some}
use Rattle.bus_register.specs.Protocol.{Protocol}
use Rattle.bus_adoptcommit.specs.declared.verdicts.Verdict.{Verdict}

-- what is read off a local state of any kind
pub record Reads (X : Type 0) : Type 0 where
  pub input : X → Bool
  pub has_begun : X → Bool
  pub output : X → Option Verdict
  pub wants_word : X → Bool
  pub left : X → ℕ

abbrev pub lifted_option : {A B : Type 0} → (A → B) → Option A → Option B
lifted_option f o = of_some (λ x. Some (f x)) o

-- x is a local state of this kind, and belongs there
pub record LiftBelongs {S X M : Type 0} (into : S → X) (P : Protocol S Bool M) (n me at : ℕ)
    (x : X) : Type 0 where
  pub inner : S
  pub is : x ≡ into inner
  pub belongs : P.Belongs n me at inner

-- all local states are of this kind, and keep what the protocol keeps
pub record LiftKeeps {S X M : Type 0} (into : S → X) (P : Protocol S Bool M) (n at : ℕ)
    (words : ℕ → ℕ) (locals : ℕ → Option X) : Type 0 where
  pub inner : ℕ → Option S
  pub is : (p : ℕ) → locals p ≡ lifted_option into (inner p)
  pub keeps : P.Keeps n at words inner

-- the protocol over the local states of all kinds
abbrev pub lift : {S X M : Type 0} → Reads X → (S → X) → Protocol S Bool M → Protocol X Bool Verdict
lift reads into P = record {
  width = P.width;
  steps = P.steps;
  started = λ n me v at. into (P.started n me v at);
  input = reads.input;
  has_begun = reads.has_begun;
  output = reads.output;
  wants_word = reads.wants_word;
  left = reads.left;
  Belongs = LiftBelongs into P;
  Keeps = LiftKeeps into P;
}

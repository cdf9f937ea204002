-- What follows of adopt-commit.
use Rattle.std.proofs.Common.{◌≡◌, ℕ, Bool, Option, Some}
use Rattle.bus_adoptcommit.specs.declared.verdicts.Verdict.{Verdict}
use Rattle.bus_adoptcommit.specs.Agreement.{Legal}

-- fewer outputs are legal too
pub Legal-fewer : (inputs : ℕ → Option Bool) (outputs fewer : ℕ → Option Verdict)
    → ((p : ℕ) (d : Verdict) → fewer p ≡ Some d → outputs p ≡ Some d) → Legal inputs outputs
    → Legal inputs fewer
Legal-fewer inputs outputs fewer sub l = record {
  valid = λ p d e. l.valid p d (sub p d e);
  convergent = λ v all p d e. l.convergent v all p d (sub p d e);
  coherent = λ p q v d e f. l.coherent p q v d (sub p _ e) (sub q d f);
}

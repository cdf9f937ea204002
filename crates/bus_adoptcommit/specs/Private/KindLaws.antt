-- What a kind of a ratifier is not, and what comes after it.
use Rattle.std.proofs.Common.{◌≡◌, ◌≢◌, ◌⊎◌, inl, inr, sym, ◌∙◌}
use Rattle.bus_register.specs.declared.kinds.Kind.{Kind}
use Rattle.bus_register.specs.declared.kinds.Kind.TheVariants as kind
use Rattle.bus_adoptcommit.specs.Kinds.{IsStoring, IsReading, ComesAfter}

-- a kind that reads does not store
pub not_storing : (k : Kind) → (k ≡ kind.ReadFirst) ⊎ (k ≡ kind.ReadSecond) → IsStoring k → ⊥
not_storing k (inl e) (inl w) = let z = sym e ∙ w in cc
not_storing k (inl e) (inr w) = let z = sym e ∙ w in cc
not_storing k (inr e) (inl w) = let z = sym e ∙ w in cc
not_storing k (inr e) (inr w) = let z = sym e ∙ w in cc

pub not_reading : (k : Kind) → IsStoring k → IsReading k → ⊥
not_reading k w (inl e) = not_storing k (inl e) w
not_reading k w (inr e) = not_storing k (inr e) w

-- what comes after k
pub to_read_first : (k next : Kind) → (k ≡ kind.WriteFirst) ⊎ (k ≡ kind.ReadFirst)
    → kind.ReadFirst ≡ next → ComesAfter k next
to_read_first k next from is = record {
  reads_first = λ w. from;
  writes_second = λ w. absurd (let z = is ∙ w in cc);
  reads_second = λ w. absurd (let z = is ∙ w in cc);
}

pub to_write_second : (k next : Kind) → k ≡ kind.ReadFirst → kind.WriteSecond ≡ next
    → ComesAfter k next
to_write_second k next from is = record {
  reads_first = λ w. absurd (let z = is ∙ w in cc);
  writes_second = λ w. from;
  reads_second = λ w. absurd (let z = is ∙ w in cc);
}

pub to_read_second : (k next : Kind) → k ≢ kind.WriteFirst → kind.ReadSecond ≡ next
    → ComesAfter k next
to_read_second k next from is = record {
  reads_first = λ w. absurd (let z = is ∙ w in cc);
  writes_second = λ w. absurd (let z = is ∙ w in cc);
  reads_second = λ w. from;
}

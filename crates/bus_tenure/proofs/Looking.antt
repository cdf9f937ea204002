-- A sender that looks at the stage, by what it holds.
use Rattle.std.specs.Prelude.{◌⊎◌}
use Rattle.std.proofs.Common.{◌≡◌, inl, inr, ℕ, ◌<◌, Bool, true, false, cond, ◌&&◌, nat_le, List}
use Rattle.std.proofs.Common.{[], ◌∷◌, length, refl, sym, ◌∙◌, ap, arith}
use Rattle.std.proofs.lemmas.Bool.{leb-false, true≢false}
use Rattle.bus_batch.specs.declared.batches.Phase.{Phase as BatchPhase}
use Rattle.bus_batch.specs.declared.batches.Phase.TheVariants.{Open, Marking, Closed}
use Rattle.bus_batch.specs.declared.messages.Mark.{Mark}
use Rattle.bus_tenure.specs.Causes.{LooksForTenure}
use Rattle.bus_tenure.specs.Core.{Core, is_empty, is_marking, is_closed}
use Rattle.bus_tenure.specs.Situations.{Situation, IsClosed, IsIdle, IsSpent, LooksAtStage, resting}
use Rattle.bus_tenure.specs.declared.phases.Phase.TheVariants.{Resting}

looks_by : {E : Type 0} (a b d : Bool)
    → ◌≡◌ {A = Situation E} (cond a IsClosed (cond b IsIdle (cond d IsSpent LooksAtStage)))
    LooksAtStage
    → (a ≡ false) × (b ≡ false) × (d ≡ false)
looks_by true b d e = absurd cc
looks_by false true d e = absurd cc
looks_by false false true e = absurd cc
looks_by false false false e = (refl, refl, refl)

-- who has a mark shows it in its batch
marks_by : (p : BatchPhase) → cond (is_marking p) false true ≡ false → (m : Mark) × (p ≡ Marking m)
marks_by Open e = absurd cc
marks_by (Marking m) e = (m, refl)
marks_by Closed e = absurd cc

-- who is not idle has messages, or a mark
has_by : (ms : List (List ℕ)) (p : BatchPhase)
    → (is_empty ms && cond (is_marking p) false true) ≡ false
    → (0 < length ms) ⊎ ((m : Mark) × (p ≡ Marking m))
has_by [] p e = inr (marks_by p e)
has_by (m ∷ ms) p e = inl (omega arith)

-- it has something to send, and a tenure left to enter
pub looks_at_rest : {E : Type 0} (c : Core E) → c.phase ≡ Resting → resting c ≡ LooksAtStage
    → LooksForTenure c
looks_at_rest {E} c rests i =
    let b = looks_by {E = E} (is_closed c.queue.phase)
    (is_empty c.queue.messages && cond (is_marking c.queue.phase) false true)
    (nat_le c.layout.rows c.least) i in
    record {
      rests = rests;
      not_closed = λ e. true≢false (sym (ap is_closed e) ∙ b.0);
      something = has_by c.queue.messages c.queue.phase b.1;
      tenure_left = leb-false _ _ b.2;
    }

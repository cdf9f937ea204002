-- The lines of an event that is repeated while it goes on.
use Rattle.std.proofs.Common.{◌≡◌, ℕ, zero, suc, ◌-◌, ◌<◌, Bool, true, false, List, [], ◌∷◌, ◌++◌}
use Rattle.std.proofs.Common.{refl, sym, subst, ◌∙◌, append_assoc, ◌⊎◌, inl, inr, arith}
use Rattle.bus_register.specs.Protocol.{Protocol}
use Rattle.bus_adoptcommit.specs.declared.verdicts.Verdict.{Verdict}
use Rattle.bus_tenure.specs.Core.{Election}
use Rattle.bus_tenure.specs.Elections.{Elector}
use Rattle.bus_world.specs.World.{Event}
use Rattle.bus_world.specs.declared.events.Answer.{Answer}
use Rattle.bus_machine.specs.Machine.{Machine}
use Rattle.bus_machine.specs.Playing.{Answers}
use Rattle.bus_replay.specs.Answers.{Repeats}
use Rattle.bus_replay.specs.GoingOn.{goes_on}
use Rattle.bus_trace.specs.Rows.{row_text}
use Rattle.bus_trace.specs.Traces.{repeat_rows}
use Rattle.bus_trace.specs.Obeying.{Grows}
use Rattle.bus_trace.specs.Words.{TraceSizes}
use Rattle.bus_trace.proofs.RowLemmas.{grown_more}

module _ {S : Type 0} (X : Election (Elector S)) (P : Protocol S Bool Verdict) (p : TraceSizes)
    (line : ℕ) (e : Event)
    (old : Machine (Elector S)) (all : ℕ) (text : List ℕ) (many : ℕ) where
  -- the last answer so far, from the bus before it; the lines put so far, of which the last is that
  -- of this answer; and how what is behind it goes on from the first
  pub record Repeated (left : ℕ) (last : Answer) (new : Machine (Elector S)) (text' : List ℕ)
      (many' : ℕ) : Type 0 where
    pub before : Machine (Elector S)
    pub answered : Answers X P before e last new
    pub done : List (List ℕ)
    pub grown : Grows text many text' many' (done ++ row_text p X line before e last ∷ [])
    pub from_first : (final : Answer) (end : Machine (Elector S))
        (run : Repeats X P before e left final end)
        → (whole : Repeats X P old e all final end)
        × (repeat_rows X P p line old e all final end whole ≡ done ++ repeat_rows X P p line
        before e left final end run)

  pub once : (last : Answer) (new : Machine (Elector S)) (text' : List ℕ) (many' : ℕ)
      → Answers X P old e last new
      → Grows text many text' many' (row_text p X line old e last ∷ [])
      → Repeated all last new text' many'
  once last new text' many' answered grown = record {
    before = old;
    answered = answered;
    done = [];
    grown = grown;
    from_first = λ final end
        run. (run, refl);
  }

  pub once_more : (left : ℕ) (first last : Answer) (mid new : Machine (Elector S)) (text' : List ℕ)
      (many' : ℕ) (text'' : List ℕ)
      (many'' : ℕ)
      → Repeated left first mid text' many' → 0 < left → goes_on first ≡ true
      → Answers X P mid e last new → Grows text' many' text'' many''
      (row_text p X line mid e last ∷ []) → Repeated (left - 1) last new text'' many''
  once_more zero first last mid new text' many' text'' many'' h some goes answered grown =
      absurd (omega arith)
  once_more (suc left) first last mid new text' many' text'' many'' h some goes answered grown =
      let less : left ≡ suc left - 1 = omega arith in
      let first_row : List ℕ = row_text p X line h.before e first in
      subst (λ k. Repeated k last new text'' many'') less record {
        before = mid;
        answered = answered;
        done = h.done ++ first_row ∷ [];
        grown = grown_more text text' text'' many many' many'' (h.done ++ first_row ∷ [])
            (row_text p X line mid e last ∷ []) h.grown grown;
        from_first = λ final end run.
            let whole = h.from_first final end (inr (mid, first, h.answered, goes, run)) in (
              whole.0,
              whole.1
                  ∙ sym (append_assoc h.done (first_row ∷ [])
                  (repeat_rows X P p line mid e left final end run)),
            );
      }

  pub at_last : (left : ℕ) (last : Answer) (new : Machine (Elector S)) (text' : List ℕ) (many' : ℕ)
      → Repeated left last new text' many'
      → (left ≡ 0) ⊎ (goes_on last ≡ false)
      → (run : Repeats X P old e all last new) × Grows text many text' many'
      (repeat_rows X P p line old e all last new run)
  at_last zero last new text' many' h stops =
      let whole = h.from_first last new h.answered in
      (whole.0, subst (λ rows. Grows text many text' many' rows) (sym whole.1) h.grown)
  at_last (suc left) last new text' many' h (inl none) = absurd (omega arith)
  at_last (suc left) last new text' many' h (inr stops) =
      let whole = h.from_first last new (inl (h.answered, stops)) in
      (whole.0, subst (λ rows. Grows text many text' many' rows) (sym whole.1) h.grown)

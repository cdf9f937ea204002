-- One step of one process, over a list of words and a list of local states.
use Rattle.std.proofs.Common.{◌≡◌, ℕ, ◌<◌, Bool, List, length, slice_get, slice_index, slice_set}
use Rattle.std.proofs.Common.{Option, Some, None, refl, sym, ◌∙◌, ap, subst}
use Rattle.std.proofs.lemmas.List.{get_or-set_same, get_or-set_other}
use Rattle.std.proofs.lemmas.Option.{same_Some, slice_get_within}
use Rattle.std.proofs.Math.ListN.{length-set}
use Rattle.bus_register.specs.declared.registers.Op.{Op}
use Rattle.bus_register.specs.Protocol.{Protocol, Laws}
use Rattle.bus_register.specs.Private.TableLaws.{get_set_same, get_set_other, Stepped-list}
use Rattle.bus_register.specs.Words.{register, after}
use Rattle.bus_adoptcommit.specs.declared.verdicts.Verdict.{Verdict}
use Rattle.bus_adoptcommit.specs.Agreement.{Legal}
use Rattle.bus_adoptcommit.specs.Plays.{moment, IsStep, IsMove}

-- the move that a step is
pub step_moves : {S : Type 0} (op : S → ℕ → Option Op) (fed : S → ℕ → ℕ → S) (ws ws' : List ℕ)
    (processes : List S) (p : ℕ) (s t : S) (got : ℕ) (o : Op)
    → slice_get processes p ≡ Some s → op s 0 ≡ Some o → register o < length ws
    → got ≡ slice_index ws (register o) → ws' ≡ slice_set ws (register o) (after o got)
    → t ≡ fed s got 0
    → IsMove op fed p (moment ws processes) (moment ws' (slice_set processes p t))
step_moves op fed ws ws' processes p s t got o here next inside found words e =
    let within : p < length processes = slice_get_within processes p s here in
    record {
      from = s;
      here = here;
      moves = λ o' n. subst
          (λ z. IsStep fed p s z (moment ws processes) (moment ws' (slice_set processes p t)))
          (same_Some _ _ (sym next ∙ n)) record {
            word =
                ap (λ z. slice_index z (register o)) words
                ∙ get_or-set_same ws (register o) _ 0 inside ∙ ap (after o) found;
            other_words =
                λ r ne. ap (λ z. slice_index z r) words ∙ get_or-set_other ws (register o) r _ 0 ne;
            own = get_set_same processes p t within ∙ ap Some (e ∙ ap (λ z. fed s z 0) found);
            others = get_set_other processes p t;
          };
      rests = λ n. absurd (let z : Some o ≡ None = sym next ∙ n in cc);
    }

-- the move of a process that takes no further step
pub step_rests : {S : Type 0} (op : S → ℕ → Option Op) (fed : S → ℕ → ℕ → S) (ws : List ℕ)
    (processes : List S) (p : ℕ) (s : S) → slice_get processes p ≡ Some s → op s 0 ≡ None
    → IsMove op fed p (moment ws processes) (moment ws processes)
step_rests op fed ws processes p s here ended = record {
  from = s;
  here = here;
  moves = λ o n. absurd (let z : None ≡ Some o = sym ended ∙ n in cc);
  rests = λ n. refl;
}

module _ {S : Type 0} (op : S → ℕ → Option Op) (fed : S → ℕ → ℕ → S) (P : Protocol S Bool Verdict)
    (laws : Laws op fed P Legal) where
  -- the law holds after the step
  pub step_keeps : (at : ℕ) (ws ws' : List ℕ) (processes : List S) (p : ℕ) (s t : S) (got word : ℕ)
      (o : Op)
      → P.Keeps (length processes) at (slice_index ws) (slice_get processes)
      → slice_get processes p ≡ Some s → op s word ≡ Some o
      → register o < length ws → got ≡ slice_index ws (register o)
      → ws' ≡ slice_set ws (register o) (after o got) → t ≡ fed s got word
      → P.Keeps (length (slice_set processes p t)) at (slice_index ws')
      (slice_get (slice_set processes p t))
  step_keeps at ws ws' processes p s t got word o k here next inside found words e =
      let within : p < length processes = slice_get_within processes p s here in
      rw length-set (laws.moves _ at (slice_index ws) _ (slice_get processes) _ p s word o k here
      next (get_set_same processes p t within ∙ ap Some (e ∙ ap (λ z. fed s z word) found))
      (get_set_other processes p t) (Stepped-list at _ o ws ws' got inside found words))

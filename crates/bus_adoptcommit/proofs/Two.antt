-- What two processes have.
use Rattle.std.proofs.Common.{◌≡◌, ℕ, zero, suc, Bool, true, false, cond, List, [], ◌∷◌, slice_get}
use Rattle.std.proofs.Common.{nat_lt, Option, Some, None, refl, sym, ◌∙◌, ap}
use Rattle.std.proofs.lemmas.Bool.{true≢false}
use Rattle.std.proofs.lemmas.Option.{same_Some}
use Rattle.bus_register.specs.Tables.{put}
use Rattle.bus_adoptcommit.specs.declared.verdicts.Verdict.TheVariants.{Commit, Adopt}
use Rattle.bus_adoptcommit.specs.Agreement.{value_of, IsValid, IsConvergent, IsCoherent, Legal}
use Rattle.bus_adoptcommit.specs.Plays.{IsPlay}
use Rattle.bus_adoptcommit.specs.Refused.{of_two, taking_turns}
use Rattle.bus_adoptcommit.specs.Schedule.{entries, entered_input}
use Rattle.bus_adoptcommit.specs.TwoCollect.{op_of, fed_of}
use Rattle.bus_adoptcommit.specs.TwoCollectKeeps.{two_collect}
use Rattle.bus_adoptcommit.proofs.Moves.{outputs_are}

-- two that have the same
alike : {A : Type 0} (x y : A) (p : ℕ) → of_two x x p ≡ Some y → y ≡ x
alike x y zero e = sym (same_Some x y e)
alike x y (suc zero) e = sym (same_Some x y e)
alike x y (suc (suc p)) e = absurd cc

pub own_value_refused : ¬ IsCoherent (of_two (Commit false) (Adopt true))
own_value_refused h = true≢false (h 0 1 false (Adopt true) refl refl)

pub no_commit_refused : ¬ IsConvergent (of_two true true) (of_two (Commit true) (Adopt true))
no_commit_refused h = absurd (let e = h true (λ q w. alike true w q) 1 (Adopt true) refl in cc)

pub two_commits_refused : ¬ IsCoherent (of_two (Commit false) (Commit true))
two_commits_refused h = true≢false (h 0 1 false (Commit true) refl refl)

-- an input that counts was given
given_of : (b : Bool) (x : Option Bool) (w : Bool) → cond b x None ≡ Some w → x ≡ Some w
given_of true x w e = e
given_of false x w e = absurd cc

both_true : (q : ℕ) (w : Bool) → slice_get (true ∷ true ∷ []) q ≡ Some w → w ≡ true
both_true zero w e = sym (same_Some _ _ e)
both_true (suc zero) w e = sym (same_Some _ _ e)
both_true (suc (suc q)) w e = absurd cc

pub adopts_refused : (schedule : List ℕ)
    → ¬ IsConvergent (entered_input (true ∷ true ∷ []) schedule) (of_two (Adopt true) (Adopt true))
adopts_refused schedule h = absurd (let e = h true
    (λ q w f. both_true q w (given_of (nat_lt 0 (entries schedule q)) _ w f)) 1 (Adopt true) refl in
    cc)

pub unbrought_refused : ¬ IsValid (of_two true true) (of_two (Adopt false) (Adopt false))
unbrought_refused h =
    let by = h 0 (Adopt false) refl in true≢false (sym (alike true false by.0 by.1))

-- two commits of the first input
pub commits_legal : Legal (of_two false true) (of_two (Commit false) (Commit false))
commits_legal = record {
  valid = λ p d e. (0, ap (λ z. Some (value_of z)) (sym (alike (Commit false) d p e)));
  convergent = λ v all p d e. absurd (true≢false (all 1 true refl ∙ sym (all 0 false refl)));
  coherent = λ p q v d e f.
      ap value_of (alike (Commit false) d q f ∙ sym (alike (Commit false) (Commit v) p e));
}

pub commits_refused : ¬ IsPlay (λ s word. op_of s) (λ s got word. fed_of s got) two_collect
    (false ∷ true ∷ []) taking_turns (Some (Commit false) ∷ Some (Commit false) ∷ [])
unfolding put
commits_refused h =
    let e : Some (Some (Commit false)) ≡ Some (Some (Adopt false)) = outputs_are (λ s word. op_of s)
    (λ s got word. fed_of s got) two_collect (false ∷ true ∷ []) taking_turns
    (Some (Commit false) ∷ Some (Commit false) ∷ []) h 0 in
    absurd cc

-- Three words are an adopt-commit object, with coherence.
use Rattle.std.proofs.Common.{◌≡◌, ◌≢◌, ℕ, ◌+◌, ◌<◌, ◌≤◌, Bool, true, false, cond, Option, Some}
use Rattle.std.proofs.Common.{None, inl, inr, arith, refl, sym, ◌∙◌, ap, subst}
use Rattle.std.proofs.lemmas.Bool.{cases_eq, lt-ltb, true≢false}
use Rattle.std.proofs.lemmas.Option.{same_Some}
use Rattle.bus_register.specs.declared.limits.TheConstants.{MOST_PROCESSES}
use Rattle.bus_register.specs.Digits.{digit}
use Rattle.bus_register.proofs.DigitLaws.{digit_le}
use Rattle.bus_register.specs.Protocol.{Laws, counted_input, inputs, outputs}
use Rattle.bus_register.specs.Private.TableLaws.{some_of}
use Rattle.bus_register.specs.Tables.{of_some, Beside, Agree}
use Rattle.bus_adoptcommit.specs.declared.progress.Progress.{Progress}
use Rattle.bus_adoptcommit.specs.declared.progress.Progress.TheVariants.{Bring, ReadFirst, Propose}
use Rattle.bus_adoptcommit.specs.declared.progress.Progress.TheVariants.{ReadOther, Ended}
use Rattle.bus_adoptcommit.specs.declared.verdicts.Verdict.{Verdict}
use Rattle.bus_adoptcommit.specs.declared.verdicts.Verdict.TheVariants.{Commit}
use Rattle.bus_adoptcommit.specs.Agreement.{value_of, IsValid, IsConvergent, IsCoherent, Legal}
use Rattle.bus_adoptcommit.specs.ThreeWord.{Local, start_of, op_of, fed_of, behind, output_at}
use Rattle.bus_adoptcommit.specs.ThreeWord.{output_of, verdict_of}
use Rattle.bus_adoptcommit.specs.ThreeWordKeeps.{Belongs, HasBegun, HasLooked, HasProposed}
use Rattle.bus_adoptcommit.specs.ThreeWordKeeps.{HasEnded, HasCommitted, IsBrought, Keeps}
use Rattle.bus_adoptcommit.specs.ThreeWordKeeps.{three_word}
use Rattle.bus_adoptcommit.specs.Private.ThreeWordStepLaws.{goes_of, ends_at, unended_at, blind_at}
use Rattle.bus_adoptcommit.specs.Private.ThreeWordStepLaws.{fits_at}
use Rattle.bus_adoptcommit.specs.Private.ThreeWordMoveLaws.{moves_keep}

-- words of zero, and nobody
fresh_keep : (n at : ℕ) (words : ℕ → ℕ) → Agree at 3 (λ _. 0) words → Keeps n at words (λ _. None)
fresh_keep n at words zero = record {
  inside = λ p s e. absurd cc;
  set = λ p s e. absurd cc;
  brought = λ v h. absurd (let l = digit_le v in
      let z = zero (at + digit v) (omega arith) (omega arith) in omega arith);
  proposal = inl (zero (at + 2) (omega arith) (omega arith));
  proposed = λ p s e. absurd cc;
  preferred = λ p s e. absurd cc;
  opposed = λ p s e. absurd cc;
  alone = λ p s e. absurd cc;
  together = λ p q s t e. absurd cc;
}

module _ (n at : ℕ) (words : ℕ → ℕ) (old new : ℕ → Option Local) (p : ℕ) (v : Bool)
    (k : Keeps n at words old) (below : p < n) (none : old p ≡ None)
    (start : new p ≡ Some (start_of n p v at)) (beside : Beside p old new) where
  -- whoever has a local state now: p its start, and any other what it had
  each : (P : ℕ → Local → Type 0) → P p (start_of n p v at)
      → ((q : ℕ) (u : Local) → q ≢ p → old q ≡ Some u → P q u) → (q : ℕ) (u : Local)
      → new q ≡ Some u → P q u
  each P a b q u e = elim (cases_eq q p) [
    | inl i ↦
        subst (λ z. P z u) (sym i) (subst (P p) (same_Some _ _ (sym start ∙ ap new (sym i) ∙ e)) a)
    | inr ne ↦ b q u ne (sym (beside q ne) ∙ e)
  ]

  brought_stays : (w : Bool) → IsBrought old w → IsBrought new w
  brought_stays w b = record {
    by = b.by;
    local = b.local;
    here = beside b.by (λ i. let e = sym none ∙ ap old (sym i) ∙ b.here in cc) ∙ b.here;
    begun = b.begun;
    input = b.input;
  }

  -- one process more at its start
  enters_keep : Keeps n at words new
  enters_keep = record {
    inside = each (λ q u. (q < n) × Belongs n q at u)
        (below, record { at_is = refl; own = λ _. refl }) (λ q u ne e. k.inside q u e);
    set = each (λ q u. HasBegun u → 0 < words (at + digit u.input)) (λ l. absurd (omega arith))
        (λ q u ne e. k.set q u e);
    brought = λ w h. brought_stays w (k.brought w h);
    proposal = elim k.proposal [
      | inl z ↦ inl z
      | inr r ↦ inr record { value = r.value; is = r.is; brought = brought_stays r.value r.brought }
    ];
    proposed = each (λ q u. HasProposed u → 0 < words (at + 2)) (λ l. absurd (omega arith))
        (λ q u ne e. k.proposed q u e);
    preferred = each (λ q u. HasBegun u → IsBrought new u.preference) (λ l. absurd (omega arith))
        (λ q u ne e b. brought_stays u.preference (k.preferred q u e b));
    opposed = each (λ q u. HasEnded u → u.unopposed ≡ false → (w : Bool) → IsBrought new w)
        (λ l. absurd (omega arith)) (λ q u ne e l f w. brought_stays w (k.opposed q u e l f w));
    alone = each (λ q u. HasCommitted u → words (at + 2) ≡ 1 + digit u.preference)
        (λ c. absurd (let l = c.0 in omega arith)) (λ q u ne e. k.alone q u e);
    together = λ q r u w e f.
        each (λ q u. HasCommitted u → HasLooked w → w.preference ≡ u.preference)
        (λ c. absurd (let l = c.0 in omega arith))
        (λ q u ne e. each (λ r w. HasCommitted u → HasLooked w → w.preference ≡ u.preference)
        (λ c l. absurd (omega arith)) (λ r w nf f c l. k.together q r u w e f c l) r w f)
        q u e;
  }

-- other words do not matter, nor how the tables are written
module _ (n at : ℕ) (words words' : ℕ → ℕ) (old new : ℕ → Option Local) (k : Keeps n at words old)
    (agree : Agree at 3 words words') (same : (q : ℕ) → new q ≡ old q) where
  was : (q : ℕ) (u : Local) → new q ≡ Some u → old q ≡ Some u
  was q u e = sym (same q) ∙ e

  brought_here : (w : Bool) → IsBrought old w → IsBrought new w
  brought_here w b = record {
    by = b.by;
    local = b.local;
    here = same b.by ∙ b.here;
    begun = b.begun;
    input = b.input;
  }

  value_same : (v : Bool) → words' (at + digit v) ≡ words (at + digit v)
  value_same v = let l = digit_le v in agree (at + digit v) (omega arith) (omega arith)

  proposal_same : words' (at + 2) ≡ words (at + 2)
  proposal_same = agree (at + 2) (omega arith) (omega arith)

  frame_keeps : Keeps n at words' new
  frame_keeps = let kept = proposal_same in record {
    inside = λ p s e. k.inside p s (was p s e);
    set = λ p s e b. let h = k.set p s (was p s e) b in let z = value_same s.input in omega arith;
    brought = λ v h. brought_here v (k.brought v (let z = value_same v in omega arith));
    proposal = elim k.proposal [
      | inl z ↦ inl (kept ∙ z)
      | inr r ↦ inr record {
        value = r.value;
        is = kept ∙ r.is;
        brought = brought_here r.value r.brought;
      }
    ];
    proposed = λ p s e l. let h = k.proposed p s (was p s e) l in omega arith;
    preferred = λ p s e b. brought_here s.preference (k.preferred p s (was p s e) b);
    opposed = λ p s e l f v. brought_here v (k.opposed p s (was p s e) l f v);
    alone = λ p s e c. kept ∙ k.alone p s (was p s e) c;
    together = λ p q s t e f c l. k.together p q s t (was p s e) (was q t f) c l;
  }

-- ── what follows ──
output_ended : (pr : Progress) (s : Local) (d : Verdict) → output_at pr s ≡ Some d
    → (3 < behind pr) × (verdict_of s.unopposed s.preference ≡ d)
output_ended Bring s d e = absurd cc
output_ended ReadFirst s d e = absurd cc
output_ended Propose s d e = absurd cc
output_ended ReadOther s d e = absurd cc
output_ended Ended s d e = (omega arith, same_Some _ _ e)

-- a verdict has the value that is preferred
value_is : (unopposed v : Bool) → value_of (verdict_of unopposed v) ≡ v
value_is true v = refl
value_is false v = refl

-- it is a commit where the value is unopposed
commit_from : (unopposed preference v : Bool) → verdict_of unopposed preference ≡ Commit v
    → unopposed ≡ true
commit_from true preference v e = refl
commit_from false preference v e = absurd cc

module _ (n at : ℕ) (words : ℕ → ℕ) (locals : ℕ → Option Local) (k : Keeps n at words locals) where
  -- a process with an output
  record Done (p : ℕ) (d : Verdict) : Type 0 where
    s : Local
    here : locals p ≡ Some s
    ended : HasEnded s
    is : verdict_of s.unopposed s.preference ≡ d

  done : (p : ℕ) (d : Verdict) → outputs three_word locals p ≡ Some d → Done p d
  done p d e =
      let a = some_of output_of (locals p) d e in
      let b = output_ended a.0.progress a.0 d a.2 in
      record { s = a.0; here = a.1; ended = b.0; is = b.1 }

  -- its value is what it prefers
  value_done : (p : ℕ) (d : Verdict) (o : Done p d) → value_of d ≡ o.s.preference
  value_done p d o = ap value_of (sym o.is) ∙ value_is o.s.unopposed o.s.preference

  -- a value that was brought counts as an input
  counts : (v : Bool) (b : IsBrought locals v) → inputs three_word locals b.by ≡ Some v
  counts v b =
      ap (of_some (counted_input three_word)) b.here
      ∙ ap (λ z. cond z (Some b.local.input) None) (lt-ltb _ _ b.begun) ∙ ap Some b.input

  valid : IsValid (inputs three_word locals) (outputs three_word locals)
  valid p d e =
      let o = done p d e in
      let b = k.preferred p o.s o.here (let l = o.ended in omega arith) in
      (b.by, counts o.s.preference b ∙ ap Some (sym (value_done p d o)))

  coherent : IsCoherent (outputs three_word locals)
  coherent p q v d e f =
      let o = done p (Commit v) e in let u = done q d f in
      let c : HasCommitted o.s = (o.ended, commit_from o.s.unopposed o.s.preference v o.is) in
      value_done q d u ∙ k.together p q o.s u.s o.here u.here c (let l = u.ended in omega arith)
      ∙ sym (value_done p (Commit v) o)

  -- where all inputs are v, so is what is preferred, and nobody is opposed
  commits : (v : Bool) → ((q : ℕ) (w : Bool) → inputs three_word locals q ≡ Some w → w ≡ v)
      → (p : ℕ) (d : Verdict) (o : Done p d) (unopposed : Bool) → o.s.unopposed ≡ unopposed
      → d ≡ Commit v
  commits v all p d o true e =
      let b = k.preferred p o.s o.here (let l = o.ended in omega arith) in
      sym o.is ∙ ap (λ z. verdict_of z o.s.preference) e
      ∙ ap Commit (all b.by o.s.preference (counts o.s.preference b))
  commits v all p d o false e =
      let low = k.opposed p o.s o.here o.ended e false in
      let high = k.opposed p o.s o.here o.ended e true in
      absurd
      (true≢false (all high.by true (counts true high) ∙ sym (all low.by false (counts false low))))

  convergent : IsConvergent (inputs three_word locals) (outputs three_word locals)
  convergent v all p d e = let o = done p d e in commits v all p d o o.s.unopposed refl

  keeps_legal : Legal (inputs three_word locals) (outputs three_word locals)
  keeps_legal = record { valid = valid; convergent = convergent; coherent = coherent }

-- valid, convergent and coherent, over any order of the steps
pub three_word_legal : Laws (λ s word. op_of s) (λ s got word. fed_of s got) three_word Legal
three_word_legal = record {
  starts = λ n me at v below few. record {
    belongs = record { at_is = refl; own = λ _. refl };
    input = refl;
    fresh = refl;
    bounded = omega arith;
  };
  goes = λ n me at s got word o b e. goes_of n me at s got o b e;
  ends = λ s word e. ends_at s.progress s e;
  unended = λ s word o e. unended_at s.progress s o e;
  unmoved = λ s got word word' e. (refl, refl);
  blind = λ s got got' word o e w. blind_at s.progress s got got' o e w;
  fresh = fresh_keep;
  enters = λ n at words old new p v k below few none start beside.
      enters_keep n at words old new p v k below none start beside;
  moves = λ n at words words' old new p s word o k here next goes beside step.
      moves_keep n at words words' old new p s o k here next goes beside step;
  fits = λ n at words locals p s word o k here next. fits_at s.progress s o _ next;
  frame =
      λ n at words words' old new k agree same. frame_keeps n at words words' old new k agree same;
  known = λ n at words locals p s k e. k.inside p s e;
  outcome = keeps_legal;
}

-- it asks for no random word
pub wordless : (s : Local) → three_word.wants_word s ≡ false
wordless s = refl

-- bounds on its steps and its words
pub quick : (n : ℕ) → n ≤ MOST_PROCESSES → three_word.steps n ≤ 1024
quick n few = omega arith

pub narrow : (n : ℕ) → n ≤ MOST_PROCESSES → three_word.width n ≤ 1024
narrow n few = omega arith

-- Plays of two processes over three words.
use Rattle.std.proofs.Common.{◌≡◌, ℕ, zero, suc, Bool, true, false, List, [], ◌∷◌, length}
use Rattle.std.proofs.Common.{slice_get, slice_index, slice_set, nat_lt, map, Option, Some, None}
use Rattle.std.proofs.Common.{refl, sym, ap, subst}
use Rattle.std.specs.Prelude.{option_map}
use Rattle.std.proofs.lemmas.Bool.{ltb-true, true≢false}
use Rattle.bus_register.specs.declared.registers.Op.{Op}
use Rattle.bus_register.specs.Protocol.{Protocol}
use Rattle.bus_register.specs.Words.{register, after}
use Rattle.bus_adoptcommit.specs.declared.verdicts.Verdict.{Verdict}
use Rattle.bus_adoptcommit.specs.declared.verdicts.Verdict.TheVariants.{Commit, Adopt}
use Rattle.bus_adoptcommit.specs.Plays.{moment, IsMove, Plays, at_starts, IsPlay}
use Rattle.bus_adoptcommit.specs.Refused.{taking_turns, one_after_another, PlaysThreeWords}
use Rattle.bus_adoptcommit.specs.Refused.{PlaysIncoherently, PlaysUnconverged, keeping_own}
use Rattle.bus_adoptcommit.specs.Refused.{committing_in_spite, proposing_nothing, reading_own}
use Rattle.bus_adoptcommit.specs.Refused.{adopting}
use Rattle.bus_adoptcommit.specs.ThreeWord.{Local, op_of, fed_of, start_of}
use Rattle.bus_adoptcommit.specs.ThreeWordKeeps.{three_word}
use Rattle.bus_adoptcommit.proofs.Moves.{same_moment, play_of}
use Rattle.bus_adoptcommit.proofs.Steps.{step_moves, step_rests}
use Rattle.bus_adoptcommit.proofs.Two.{own_value_refused, two_commits_refused, adopts_refused}

-- the words and the local states, as lists
record Lists : Type 0 where
  words : List ℕ
  locals : List Local

module _ (op : Local → Option Op) (fed : Local → ℕ → Local) where
  -- the lists after the next step of process p, which is at s
  abbrev step_lists : ℕ → Local → Option Op → Lists → Lists
  step_lists p s None l = l
  step_lists p s (Some o) l = record {
    words = slice_set l.words (register o) (after o (slice_index l.words (register o)));
    locals = slice_set l.locals p (fed s (slice_index l.words (register o)));
  }

  abbrev move_lists : ℕ → Option Local → Lists → Lists
  move_lists p None l = l
  move_lists p (Some s) l = step_lists p s (op s) l

  -- after a schedule
  abbrev run_lists : List ℕ → Lists → Lists
  run_lists [] l = l
  run_lists (p ∷ schedule) l = run_lists schedule (move_lists p (slice_get l.locals p) l)

  -- the word of the next step is one of the list
  abbrev step_fits : Option Op → Lists → Bool
  step_fits None l = true
  step_fits (Some o) l = nat_lt (register o) (length l.words)

  abbrev move_fits : Option Local → Lists → Bool
  move_fits None l = false
  move_fits (Some s) l = step_fits (op s) l

  abbrev RunFits : List ℕ → Lists → Type 0
  RunFits [] l = Unit {0}
  RunFits (p ∷ schedule) l =
      (move_fits (slice_get l.locals p) l ≡ true)
      × RunFits schedule (move_lists p (slice_get l.locals p) l)

  step_made : (p : ℕ) (l : Lists) (s : Local) → slice_get l.locals p ≡ Some s → (y : Option Op)
      → op s ≡ y → step_fits y l ≡ true
      → IsMove (λ s word. op s) (λ s got word. fed s got) p (moment l.words l.locals)
      (moment (step_lists p s y l).words (step_lists p s y l).locals)
  step_made p l s here None e f = step_rests _ _ l.words l.locals p s here e
  step_made p l s here (Some o) e f =
      step_moves _ _ l.words _ l.locals p s _ _ o here e (ltb-true _ _ f) refl refl refl

  move_made : (p : ℕ) (l : Lists) (x : Option Local) → slice_get l.locals p ≡ x
      → move_fits x l ≡ true
      → IsMove (λ s word. op s) (λ s got word. fed s got) p (moment l.words l.locals)
      (moment (move_lists p x l).words (move_lists p x l).locals)
  move_made p l None here f = absurd (true≢false (sym f))
  move_made p l (Some s) here f = step_made p l s here (op s) refl f

  run_plays : (schedule : List ℕ) (l : Lists) → RunFits schedule l
      → Plays (λ s word. op s) (λ s got word. fed s got) (moment l.words l.locals) schedule
      (moment (run_lists schedule l).words (run_lists schedule l).locals)
  run_plays [] l f = refl
  run_plays (p ∷ schedule) l f = (
    _,
    move_made p l (slice_get l.locals p) refl f.0,
    run_plays schedule (move_lists p (slice_get l.locals p) l) f.1,
  )

  -- words of zero, and two processes at their starts
  abbrev two_starts : Bool → Bool → Lists
  two_starts v w = record {
    words = 0 ∷ 0 ∷ 0 ∷ [];
    locals = start_of 2 0 v 0 ∷ start_of 2 1 w 0 ∷ [];
  }

  module _ (P : Protocol Local Bool Verdict)
      (started : (n p : ℕ) (u : Bool) → P.started n p u 0 ≡ start_of n p u 0) (v w : Bool) where
    zeros : (r : ℕ) → slice_index (0 ∷ 0 ∷ 0 ∷ []) r ≡ 0
    zeros zero = refl
    zeros (suc zero) = refl
    zeros (suc (suc zero)) = refl
    zeros (suc (suc (suc r))) = refl

    locals_are : (p : ℕ)
        → slice_get (start_of 2 0 v 0 ∷ start_of 2 1 w 0 ∷ []) p
        ≡ option_map (λ u. P.started 2 p u 0) (slice_get (v ∷ w ∷ []) p)
    locals_are zero = ap Some (sym (started 2 0 v))
    locals_are (suc zero) = ap Some (sym (started 2 1 w))
    locals_are (suc (suc p)) = refl

    starts_are : moment (two_starts v w).words (two_starts v w).locals ≡ at_starts P (v ∷ w ∷ [])
    starts_are = same_moment _ _ zeros locals_are

    -- the play
    two_play : (schedule : List ℕ) (outs : List (Option Verdict))
        → RunFits schedule (two_starts v w)
        → outs ≡ map P.output (run_lists schedule (two_starts v w)).locals
        → IsPlay (λ s word. op s) (λ s got word. fed s got) P (v ∷ w ∷ []) schedule outs
    two_play schedule outs f e =
        let l = run_lists schedule (two_starts v w) in
        play_of _ _ P (v ∷ w ∷ []) schedule l.words l.locals outs
        (subst
        (λ z. Plays (λ s word. op s) (λ s got word. fed s got) z schedule (moment l.words l.locals))
        starts_are (run_plays schedule (two_starts v w) f)) e

-- ── two processes, one after another ──
pub late_adopts : PlaysThreeWords op_of fed_of three_word (false ∷ true ∷ []) one_after_another
    (Some (Commit false) ∷ Some (Adopt false) ∷ [])
late_adopts = two_play op_of fed_of three_word (λ n p u. refl) false true _ _
    (refl, (refl, (refl, (refl, (refl, (refl, (refl, tt))))))) refl

pub late_keeps_own : PlaysIncoherently op_of keeping_own three_word (false ∷ true ∷ [])
    one_after_another (Some (Commit false) ∷ Some (Adopt true) ∷ [])
late_keeps_own = record {
  plays = two_play op_of keeping_own three_word (λ n p u. refl) false true _ _
      (refl, (refl, (refl, (refl, (refl, (refl, (refl, tt))))))) refl;
  refused = own_value_refused;
}

pub late_finds_nothing : PlaysIncoherently op_of proposing_nothing three_word (false ∷ true ∷ [])
    one_after_another (Some (Commit false) ∷ Some (Adopt true) ∷ [])
late_finds_nothing = record {
  plays = two_play op_of proposing_nothing three_word (λ n p u. refl) false true _ _
      (refl, (refl, (refl, (refl, (refl, (refl, (refl, tt))))))) refl;
  refused = own_value_refused;
}

pub both_adopt : PlaysUnconverged op_of fed_of adopting (true ∷ true ∷ []) one_after_another
    (Some (Adopt true) ∷ Some (Adopt true) ∷ [])
both_adopt = record {
  plays = two_play op_of fed_of adopting (λ n p u. refl) true true _ _
      (refl, (refl, (refl, (refl, (refl, (refl, (refl, tt))))))) refl;
  refused = adopts_refused one_after_another;
}

pub both_read_own : PlaysUnconverged reading_own fed_of three_word (true ∷ true ∷ [])
    one_after_another (Some (Adopt true) ∷ Some (Adopt true) ∷ [])
both_read_own = record {
  plays = two_play reading_own fed_of three_word (λ n p u. refl) true true _ _
      (refl, (refl, (refl, (refl, (refl, (refl, (refl, tt))))))) refl;
  refused = adopts_refused one_after_another;
}

-- ── two processes that take turns ──
pub turns_adopt : PlaysThreeWords op_of fed_of three_word (false ∷ true ∷ []) taking_turns
    (Some (Adopt false) ∷ Some (Adopt true) ∷ [])
turns_adopt = two_play op_of fed_of three_word (λ n p u. refl) false true _ _ (
  refl,
  (refl, (refl, (refl, (refl, (refl, (refl, (refl, (refl, (refl, (refl, (refl, tt))))))))))),
) refl

pub turns_commit : PlaysIncoherently op_of committing_in_spite three_word (false ∷ true ∷ [])
    taking_turns (Some (Commit false) ∷ Some (Commit true) ∷ [])
turns_commit = record {
  plays = two_play op_of committing_in_spite three_word (λ n p u. refl) false true _ _ (
    refl,
    (refl, (refl, (refl, (refl, (refl, (refl, (refl, (refl, (refl, (refl, (refl, tt))))))))))),
  ) refl;
  refused = two_commits_refused;
}

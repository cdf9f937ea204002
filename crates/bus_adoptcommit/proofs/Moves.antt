-- The entries of a schedule, one after another: a move is the turn of one process, and a play goes
-- one way alone.
use mathlib.Core.Path.{fun_ext}
use Rattle.std.proofs.Common.{◌≡◌, ℕ, suc, Bool, List, [], ◌∷◌, ◌++◌, length, slice_get}
use Rattle.std.proofs.Common.{slice_index, replicate, map, Option, Some, None, ◌⊎◌, inl, inr}
use Rattle.std.proofs.Common.{arith, refl, sym, ◌∙◌, ap, subst}
use Rattle.std.specs.Prelude.{option_map}
use Rattle.std.proofs.lemmas.Bool.{cases_eq, cases_lt}
use Rattle.std.proofs.lemmas.List.{get_or-replicate, get_or_past, length-replicate}
use Rattle.std.proofs.lemmas.Option.{same_Some, slice_get_past, slice_get-map}
use Rattle.bus_register.specs.declared.registers.Op.{Op}
use Rattle.bus_register.specs.Protocol.{Protocol}
use Rattle.bus_register.specs.Tables.{Beside, put}
use Rattle.bus_register.specs.Private.TableLaws.{some_or_none, here_not, put_here, put_beside}
use Rattle.bus_register.specs.Words.{register, after}
use Rattle.bus_adoptcommit.specs.declared.verdicts.Verdict.{Verdict}
use Rattle.bus_adoptcommit.specs.Plays.{Moment, moment, IsStep, IsMove, Plays, at_starts, AtStarts}
use Rattle.bus_adoptcommit.specs.Plays.{IsPlay}

-- process p takes a step, if it has one, and no other process does
pub record Turn {S : Type 0} (op : S → ℕ → Option Op) (fed : S → ℕ → ℕ → S) (p : ℕ)
    (old new : ℕ → Option S) : Type 0 where
  pub others : Beside p old new
  pub own : (s : S) → old p ≡ Some s
      → ((op s 0 ≡ None) × (new p ≡ Some s))
      ⊎ ((o : Op) × (got : ℕ) × (op s 0 ≡ Some o) × (new p ≡ Some (fed s got 0)))

-- moments with the same words and local states
pub same_moment : {S : Type 0} (x y : Moment S) → ((r : ℕ) → x.words r ≡ y.words r)
    → ((p : ℕ) → x.locals p ≡ y.locals p) → x ≡ y
same_moment {S} x y words locals =
    let first : x ≡ (let m : Moment S = record { words = y.words; locals = x.locals } in m) =
    ap (λ w. let m : Moment S = record { words = w; locals = x.locals } in m) (fun_ext words) in
    first
    ∙ ap (λ l. let m : Moment S = record { words = y.words; locals = l } in m) (fun_ext locals)

module _ {S : Type 0} (op : S → ℕ → Option Op) (fed : S → ℕ → ℕ → S) where
  pub turn_of : (p : ℕ) (old new : Moment S) → IsMove op fed p old new
      → Turn op fed p old.locals new.locals
  turn_of p old new h = elim (some_or_none (op h.from 0)) [
    | inl none ↦
        let same = h.rests none in
        record {
          others = λ q ne. ap (λ (m : Moment S). m.locals q) same;
          own = λ s e.
              let is = same_Some _ _ (sym h.here ∙ e) in
              inl (ap (λ z. op z 0) (sym is) ∙ none, ap (λ (m : Moment S). m.locals p) same ∙ e);
        }
    | inr o ↦
        let step = h.moves o.0 o.1 in
        record {
          others = step.others;
          own = λ s e.
              let is = same_Some _ _ (sym h.here ∙ e) in
              inr (
                o.0,
                old.words (register o.0),
                ap (λ z. op z 0) (sym is) ∙ o.1,
                step.own ∙ ap (λ z. Some (fed z (old.words (register o.0)) 0)) is,
              );
        }
  ]

  -- one entry more
  pub plays_one : (old between new : Moment S) (schedule : List ℕ) (p : ℕ)
      → Plays op fed old schedule between → IsMove op fed p between new
      → Plays op fed old (schedule ++ p ∷ []) new
  plays_one old between new [] p h move = (new, subst (λ z. IsMove op fed p z new) h move, refl)
  plays_one old between new (q ∷ schedule) p h move =
      (h.0, h.1, plays_one h.0 between new schedule p h.2 move)

  -- ── where a play goes ──
  abbrev stepped : ℕ → S → Option Op → Moment S → Moment S
  stepped p s None old = old
  stepped p s (Some o) old = record {
    words = put (register o) (after o (old.words (register o))) old.words;
    locals = put p (Some (fed s (old.words (register o)) 0)) old.locals;
  }

  abbrev moved_from : ℕ → Option S → Moment S → Moment S
  moved_from p None old = old
  moved_from p (Some s) old = stepped p s (op s 0) old

  abbrev pub played : Moment S → List ℕ → Moment S
  played old [] = old
  played old (p ∷ schedule) = played (moved_from p (old.locals p) old) schedule

  step_is : (p : ℕ) (s : S) (o : Op) (old new : Moment S) → IsStep fed p s o old new
      → new ≡ stepped p s (Some o) old
  step_is p s o old new h = same_moment new (stepped p s (Some o) old)
      (λ r. elim (cases_eq r (register o)) [
        | inl e ↦
            ap new.words e ∙ h.word
            ∙ sym (ap (put (register o) (after o (old.words (register o))) old.words) e
            ∙ put_here (register o) _ old.words)
        | inr ne ↦ h.other_words r ne ∙ sym (put_beside (register o) _ old.words r ne)
      ])
      (λ q. elim (cases_eq q p) [
        | inl e ↦
            ap new.locals e ∙ h.own
            ∙ sym (ap (put p (Some (fed s (old.words (register o)) 0)) old.locals) e
            ∙ put_here p _ old.locals)
        | inr ne ↦ h.others q ne ∙ sym (put_beside p _ old.locals q ne)
      ])

  move_is : (p : ℕ) (old new : Moment S) → IsMove op fed p old new
      → new ≡ moved_from p (old.locals p) old
  move_is p old new h =
      let is : moved_from p (old.locals p) old ≡ stepped p h.from (op h.from 0) old =
      ap (λ z. moved_from p z old) h.here in
      elim (some_or_none (op h.from 0)) [
        | inl none ↦ h.rests none ∙ sym (is ∙ ap (λ z. stepped p h.from z old) none)
        | inr o ↦
            step_is p h.from o.0 old new (h.moves o.0 o.1)
            ∙ sym (is ∙ ap (λ z. stepped p h.from z old) o.1)
      ]

  plays_is : (old new : Moment S) (schedule : List ℕ) → Plays op fed old schedule new
      → new ≡ played old schedule
  plays_is old new [] h = h
  plays_is old new (p ∷ schedule) h =
      plays_is h.0 new schedule h.2 ∙ ap (λ z. played z schedule) (move_is p old h.0 h.1)

  module _ (P : Protocol S Bool Verdict) where
    -- a play's outputs, by process
    pub outputs_are : (given : List Bool) (schedule : List ℕ) (outs : List (Option Verdict))
        → IsPlay op fed P given schedule outs → (p : ℕ)
        → slice_get outs p ≡ option_map P.output ((played (at_starts P given) schedule).locals p)
    outputs_are given schedule outs h p =
        h.outputs p
        ∙ ap (λ (m : Moment S). option_map P.output (m.locals p))
        (plays_is (at_starts P given) h.last schedule h.plays)

    -- ── lists ──
    started_at : (n p : ℕ) (given : List Bool) (processes : List S) → AtStarts P n n given processes
        → n ≡ length given
        → slice_get processes p
        ≡ option_map (λ v. P.started (length given) p v 0) (slice_get given p)
    started_at n p given processes h e = elim (some_or_none (slice_get processes p)) [
      | inl none ↦
          none
          ∙ sym (ap (option_map (λ v. P.started (length given) p v 0))
          (slice_get_past given p (elim (cases_lt p (length processes)) [
            | inl l ↦ absurd (here_not processes p l none)
            | inr g ↦ (let size = h.size in omega arith)
          ])))
      | inr s ↦ let a = h.starts p s.0 s.1 in
          s.1 ∙ ap Some (a.2 ∙ ap (λ z. P.started z p a.0 0) e)
          ∙ sym (ap (option_map (λ v. P.started (length given) p v 0)) a.1)
    ]

    zero_at : (cells : List ℕ) (k r : ℕ) → cells ≡ replicate k 0 → slice_index cells r ≡ 0
    zero_at cells k r e = ap (λ z. slice_index z r) e ∙ elim (cases_lt r k) [
      | inl l ↦ get_or-replicate k r 0 0 l
      | inr g ↦ get_or_past (replicate k 0) r 0
          (let size : length (replicate {A = ℕ} k 0) ≡ k = length-replicate k 0 in omega arith)
    ]

    -- cells of zero and processes at their starts
    pub moment_is : (n k : ℕ) (given : List Bool) (cells : List ℕ) (processes : List S)
        → AtStarts P n n given processes → n ≡ length given → cells ≡ replicate k 0
        → moment cells processes ≡ at_starts P given
    moment_is n k given cells processes h e zeros = same_moment (moment cells processes)
        (at_starts P given) (λ r. zero_at cells k r zeros) (λ p. started_at n p given processes h e)

    -- the outputs at the end of a play
    pub play_of : (given : List Bool) (schedule : List ℕ) (cells : List ℕ) (processes : List S)
        (outs : List (Option Verdict))
        → Plays op fed (at_starts P given) schedule (moment cells processes)
        → outs ≡ map P.output processes → IsPlay op fed P given schedule outs
    play_of given schedule cells processes outs h e = record {
      last = moment cells processes;
      plays = h;
      outputs = λ p. ap (λ z. slice_get z p) e ∙ slice_get-map P.output processes p;
    }

-- two lists with the same elements by place
pub same_lists : {A : Type 0} (xs ys : List A) → ((p : ℕ) → slice_get xs p ≡ slice_get ys p)
    → xs ≡ ys
same_lists [] [] h = refl
same_lists [] (y ∷ ys) h = absurd (let e = h 0 in cc)
same_lists (x ∷ xs) [] h = absurd (let e = h 0 in cc)
same_lists (x ∷ xs) (y ∷ ys) h =
    ap (λ z. z ∷ xs) (same_Some x y (h 0))
    ∙ ap (λ (z : List _). y ∷ z) (same_lists xs ys (λ p. h (suc p)))

-- A play, from its starts on: after each entry the object keeps what it always keeps, so that what
-- stands is legal, whoever has stopped.
use mathlib.Core.Path.{fun_ext}
use Rattle.std.specs.Option.{option_map}
use Rattle.std.proofs.Common.{◌≡◌, ◌≢◌, ℕ, zero, suc, ◌+◌, ◌<◌, ◌≤◌, Bool, true, false, cond, List}
use Rattle.std.proofs.Common.{[], ◌∷◌, ◌++◌, length, get_or, slice_get, replicate, nat_lt, Option}
use Rattle.std.proofs.Common.{Some, None, inl, inr, ◌==◌, arith, refl, sym, ◌∙◌, ap, subst}
use Rattle.std.proofs.lemmas.Bool.{cases_eq, lt-ltb}
use Rattle.std.proofs.lemmas.Bool.Decides.{eqb_tells}
use Rattle.std.proofs.lemmas.List.Sums.{sum_by-cons}
use Rattle.std.proofs.lemmas.Option.{same_Some, slice_get_within, slice_get-get_or}
use Rattle.bus_register.specs.declared.registers.Op.{Op}
use Rattle.bus_register.specs.Protocol.{Protocol, Laws, counted_input, inputs, outputs}
use Rattle.bus_register.specs.Tables.{of_some}
use Rattle.bus_register.specs.Private.TableLaws.{some_or_none}
use Rattle.bus_register.specs.Words.{register}
use Rattle.bus_adoptcommit.specs.declared.verdicts.Verdict.{Verdict}
use Rattle.bus_adoptcommit.specs.Agreement.{Legal}
use Rattle.bus_adoptcommit.specs.Plays.{Moment, IsStep, IsMove, Plays, at_starts, AtStarts, IsPlay}
use Rattle.bus_adoptcommit.specs.Schedule.{table_of, entries, entered_input}
use Rattle.bus_adoptcommit.proofs.Moves.{moment_is}
use Rattle.bus_adoptcommit.proofs.Schedules.{zero_words, mapped, entered-none}
use Rattle.bus_adoptcommit.proofs.Starts.{starts_one}

-- an entry of p counts for p alone
counts_here : (p q count : ℕ) → q ≡ p → nat_lt 0 (cond (p == q) 1 0 + count) ≡ true
counts_here p q count e = elim (eqb_tells p q) [
  | inl h ↦ lt-ltb 0 (cond (p == q) 1 0 + count)
      (subst (λ b. 0 < cond b 1 0 + count) (sym h.0) (omega arith))
  | inr h ↦ absurd (h.1 (sym e))
]

counts_beside : (p q count : ℕ) → q ≢ p → cond (p == q) 1 0 + count ≡ count
counts_beside p q count ne = elim (eqb_tells p q) [
  | inl h ↦ absurd (ne (sym h.1))
  | inr h ↦
      (let more : cond (p == q) 1 0 + count ≡ 0 + count = ap (λ b. cond b 1 0 + count) h.0 in
      more ∙ omega arith)
]

module _ {S : Type 0} (op : S → ℕ → Option Op) (fed : S → ℕ → ℕ → S) (P : Protocol S Bool Verdict)
    (laws : Laws op fed P Legal) (given : List Bool) (few : length given ≤ 64) where
  -- a moment of a play, after so many entries of each process
  record Reached (count : ℕ → ℕ) (m : Moment S) : Type 0 where
    kept : P.Keeps (length given) 0 m.words m.locals
    brought : (p : ℕ) → option_map P.input (m.locals p) ≡ slice_get given p
    begun : (p : ℕ) (s : S) → m.locals p ≡ Some s → P.has_begun s ≡ nat_lt 0 (count p)

  -- ── at the starts ──
  abbrev starts : ℕ → List S
  starts zero = []
  starts (suc i) = starts i ++ P.started (length given) i (get_or given i false) 0 ∷ []

  starts_stand : (i : ℕ) → i ≤ length given → AtStarts P (length given) i given (starts i)
  starts_stand zero l = record {
    size = refl;
    starts = λ p s e. absurd (let z : None ≡ Some s = e in cc);
    kept = laws.frame (length given) 0 (λ _. 0) (λ _. 0) (λ _. None) (slice_get [])
        (laws.fresh (length given) 0 (λ _. 0) (λ r a b. refl)) (λ r a b. refl) (λ q. refl);
  }
  starts_stand (suc i) l =
      subst (λ z. AtStarts P (length given) z given (starts (suc i))) (omega arith)
      (starts_one op fed P laws (length given) i given (starts i) (starts (suc i))
      (get_or given i false) _ (starts_stand i (omega arith))
      (slice_get-get_or given i false (omega arith)) (omega arith) few refl refl)

  brought_at : (p : ℕ) (x : Option Bool) → slice_get given p ≡ x
      → option_map P.input (option_map (λ v. P.started (length given) p v 0) x) ≡ x
  brought_at p None e = refl
  brought_at p (Some v) e =
      ap Some (laws.starts (length given) p 0 v (slice_get_within given p v e) few).input

  unbegun_at : (p : ℕ) (x : Option Bool) → slice_get given p ≡ x → (s : S)
      → option_map (λ v. P.started (length given) p v 0) x ≡ Some s → P.has_begun s ≡ false
  unbegun_at p None e s h = absurd cc
  unbegun_at p (Some v) e s h =
      ap P.has_begun (sym (same_Some _ _ h))
      ∙ (laws.starts (length given) p 0 v (slice_get_within given p v e) few).fresh

  reached_start : Reached (λ _. 0) (at_starts P given)
  reached_start =
      let n = length given in
      let zeros : List ℕ = replicate (P.width n) 0 in
      let at = starts_stand n (omega arith) in
      record {
        kept = subst (λ (m : Moment S). P.Keeps n 0 m.words m.locals)
            (moment_is op fed P n (P.width n) given zeros (starts n) at refl refl)
            (zero_words op fed P laws n given (starts n) zeros at refl);
        brought = λ p. brought_at p (slice_get given p) refl;
        begun = λ p s e. unbegun_at p (slice_get given p) refl s e;
      }

  -- ── one entry ──
  module _ (count : ℕ → ℕ) (p : ℕ) (old new : Moment S) (h : IsMove op fed p old new)
      (r : Reached count old) where
    abbrev counted : ℕ → ℕ
    counted q = cond (p == q) 1 0 + count q

    -- a process that takes no further step
    rested : op h.from 0 ≡ None → Reached counted old
    rested none = record {
      kept = r.kept;
      brought = r.brought;
      begun = λ q s e. elim (cases_eq q p) [
        | inl j ↦
            let same : h.from ≡ s = same_Some _ _ (sym h.here ∙ ap old.locals (sym j) ∙ e) in
            ap P.has_begun (sym same) ∙ (laws.ends h.from 0 none).1
            ∙ sym (counts_here p q (count q) j)
        | inr ne ↦ r.begun q s e ∙ ap (nat_lt 0) (sym (counts_beside p q (count q) ne))
      ];
    }

    -- a step
    went : (o : Op) → op h.from 0 ≡ Some o → Reached counted new
    went o next =
        let step : IsStep fed p h.from o old new = h.moves o next in
        let goes = laws.goes (length given) p 0 h.from (old.words (register o)) 0 o
        (laws.known (length given) 0 old.words old.locals p h.from r.kept h.here).1 next in
        record {
          kept = laws.moves (length given) 0 old.words new.words old.locals new.locals p h.from 0 o
              r.kept h.here next step.own step.others
              record { here = step.word; elsewhere = λ q a b ne. step.other_words q ne };
          brought = λ q. elim (cases_eq q p) [
            | inl j ↦
                ap (λ z. option_map P.input (new.locals z)) j ∙ ap (option_map P.input) step.own
                ∙ ap Some goes.input ∙ ap (option_map P.input) (sym h.here) ∙ r.brought p
                ∙ ap (slice_get given) (sym j)
            | inr ne ↦ ap (option_map P.input) (step.others q ne) ∙ r.brought q
          ];
          begun = λ q s e. elim (cases_eq q p) [
            | inl j ↦
                let same : fed h.from (old.words (register o)) 0 ≡ s =
                same_Some _ _ (sym step.own ∙ ap new.locals (sym j) ∙ e) in
                ap P.has_begun (sym same) ∙ goes.begun ∙ sym (counts_here p q (count q) j)
            | inr ne ↦
                r.begun q s (sym (step.others q ne) ∙ e)
                ∙ ap (nat_lt 0) (sym (counts_beside p q (count q) ne))
          ];
        }

    reached_next : Reached counted new
    reached_next = elim (some_or_none (op h.from 0)) [
      | inl none ↦ subst (Reached counted) (sym (h.rests none)) (rested none)
      | inr o ↦ went o.0 o.1
    ]

  -- ── a schedule ──
  reached_after : (schedule : List ℕ) (count : ℕ → ℕ) (old new : Moment S)
      → Plays op fed old schedule new → Reached count old
      → Reached (λ q. entries schedule q + count q) new
  reached_after [] count old new h r =
      subst (λ c. Reached c new) (fun_ext (λ q. omega arith)) (subst (Reached count) (sym h) r)
  reached_after (p ∷ schedule) count old new h r =
      let rest = reached_after schedule (λ q. cond (p == q) 1 0 + count q) h.0 new h.2
      (reached_next count p old h.0 h.1 r) in
      subst (λ c. Reached c new)
      (fun_ext (λ q. let all = sum_by-cons (λ z. cond (z == q) 1 0) p schedule in omega arith)) rest

  -- the inputs that count are those of the processes with entries
  inputs_are : (schedule : List ℕ) (count : ℕ → ℕ) (m : Moment S) → Reached count m
      → ((p : ℕ) → count p ≡ entries schedule p) → (p : ℕ)
      → entered_input given schedule p ≡ inputs P m.locals p
  inputs_are schedule count m r same p = elim (some_or_none (m.locals p)) [
    | inl none ↦
        entered-none given schedule p (sym (r.brought p) ∙ ap (option_map P.input) none)
        ∙ sym (ap (of_some (counted_input P)) none)
    | inr s ↦
        ap (λ z. cond (nat_lt 0 (entries schedule p)) z None)
        (sym (r.brought p) ∙ ap (option_map P.input) s.1)
        ∙ ap (λ z. cond z (Some (P.input s.0)) None)
        (sym (r.begun p s.0 s.1 ∙ ap (nat_lt 0) (same p)))
        ∙ sym (ap (of_some (counted_input P)) s.1)
  ]

  pub plays_legal : (schedule : List ℕ) (outs : List (Option Verdict))
      → IsPlay op fed P given schedule outs → Legal (entered_input given schedule) (table_of outs)
  plays_legal schedule outs h =
      let r = reached_after schedule (λ _. 0) (at_starts P given) h.last h.plays reached_start in
      let in_are = fun_ext (inputs_are schedule _ h.last r (λ p. omega arith)) in
      let out_are : table_of outs ≡ outputs P h.last.locals =
      fun_ext (λ p. ap (of_some (λ o. o)) (h.outputs p) ∙ mapped P.output (h.last.locals p)) in
      let legal = laws.outcome (length given) 0 h.last.words h.last.locals r.kept in
      subst (λ z. Legal z (table_of outs)) (sym in_are)
      (subst (Legal (inputs P h.last.locals)) (sym out_are) legal)

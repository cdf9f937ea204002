-- A batch that takes messages, after one of them.
use Rattle.std.proofs.Common.{◌≡◌, ℕ, ◌+◌, ◌≤◌, true, List, length, Result, Ok, Err, OnOk}
use Rattle.std.proofs.Common.{IfErr, refl, sym, ◌∙◌, arith, inl, inr}
use Rattle.std.proofs.lemmas.List.{length-append}
use Rattle.std.proofs.lemmas.Bool.{true≢false}
use Rattle.std.proofs.lemmas.Grind.{common_steps}
use Rattle.bus_register.specs.declared.limits.TheConstants.{MOST_BYTES}
use Rattle.bus_batch.specs.Batches.{CanPut, IsPutFault, Pending}
use Rattle.bus_tenure.specs.Core.{is_closed}
use Rattle.bus_batch.specs.declared.batches.Phase.{Phase}
use Rattle.bus_batch.specs.declared.batches.Phase.TheVariants.{Open, Marking, Closed}
use Rattle.bus_batch.specs.declared.batches.PutFault.{PutFault}
use Rattle.bus_batch.specs.declared.batches.PutFault.TheVariants as put
use Rattle.bus_automaton.specs.Lawful.{ProcessLaws}
use Rattle.bus_automaton.specs.Processes.{Process}
use Rattle.bus_replica.specs.Causes.{RefusesPut}
use Rattle.bus_replica.specs.Replicas.{IsOpenWith}

-- it took one more
pub open_with : {C E : Type 0} (P : Process C) → ProcessLaws P → (result : Result ℕ E) (old new : C)
    (bytes : List ℕ) → OnOk result (CanPut (P.queue old) (length bytes))
    → OnOk result (new ≡ P.with_message old bytes)
    → OnOk result
    (IsOpenWith (P.queue new) (P.queue old).limit (length (P.queue old).messages + 1))
open_with P laws (Err e) old new bytes can taken = tt
open_with P laws (Ok number) old new bytes can taken =
    grind (arith, common_steps, length, length-append)

-- why it takes a short one not
pub refuses_short : (b : Pending) (many : ℕ) (why : PutFault) → many ≤ MOST_BYTES
    → IsPutFault b many why → RefusesPut b why
refuses_short b many put.Closed short cause = cause
refuses_short b many put.Busy short cause = tt
refuses_short b many put.TooLong short cause = grind (arith, common_steps)
refuses_short b many put.BatchFull short cause = tt

pub refused_short : {V : Type 0} (b : Pending) (many : ℕ) (result : Result V PutFault)
    → many ≤ MOST_BYTES → IfErr result (IsPutFault b many) → IfErr result (RefusesPut b)
refused_short b many (Ok x) short cause = tt
refused_short b many (Err why) short cause = refuses_short b many why short cause

-- one for which it has room it takes
pub never_refuses : (b : Pending) (many : ℕ) (why : PutFault) → CanPut b many
    → IsPutFault b many why → ⊥
never_refuses b many put.Closed can (inl marks) =
    let bad : Open ≡ Marking marks.0 = sym can.is_open ∙ marks.1 in cc
never_refuses b many put.Closed can (inr closed) =
    let bad : Open ≡ Closed = sym can.is_open ∙ closed in cc
never_refuses b many put.Busy can cause = true≢false (sym cause.1 ∙ can.idle)
never_refuses b many put.TooLong can cause = grind (arith, common_steps)
never_refuses b many put.BatchFull can cause = grind (arith, common_steps)

-- a batch that is closed is shut
pub closed_is : (phase : Phase) → is_closed phase ≡ true → phase ≡ Closed
closed_is Open is = absurd (true≢false (sym is))
closed_is (Marking mark) is = absurd (true≢false (sym is))
closed_is Closed is = refl

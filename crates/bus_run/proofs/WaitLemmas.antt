-- Of a sender of a run with nothing in its batch nothing waits, and a message that it takes waits
-- behind the others.
use Rattle.std.proofs.Common.{◌≡◌, ℕ, List, Result, Ok, Err, OnOk, [], ◌∷◌, ◌++◌, length, true}
use Rattle.std.proofs.Common.{false, refl, sym, ap, ◌∙◌}
use Rattle.std.specs.Result.{is_ok}
use Rattle.std.proofs.lemmas.Bool.{true≢false}
use Rattle.std.proofs.lemmas.List.{nil_from_length}
use Rattle.bus_batch.specs.Batches.{Pending}
use Rattle.bus_automaton.specs.Buses.{process_with}
use Rattle.bus_automaton.proofs.Turns.{messages_are, none_hidden}
use Rattle.bus_automaton.specs.ThreeWordBuses.{Held, process}

pub none_waits : (v : Held) → length (process.queue v).messages ≡ 0 → process.waiting v ≡ []
unfolding process_with
none_waits v none =
    none_hidden v.core v.core.phase
    (sym (messages_are v.core.queue v.reuse) ∙ nil_from_length (process.queue v).messages none)

one_waits : (v : Held) (bytes : List ℕ)
    → (process.queue (process.with_message v bytes)).messages
    ≡ (process.queue v).messages ++ bytes ∷ []
unfolding process_with
one_waits v bytes =
    let q : Pending = record v.core.queue { messages = v.core.queue.messages ++ bytes ∷ [] } in
    messages_are q v.reuse ∙ ap (λ z. z ++ bytes ∷ []) (sym (messages_are v.core.queue v.reuse))

pub taken_waits : {T F : Type 0} (r : Result T F) (old new : Held) (bytes : List ℕ)
    → OnOk r (new ≡ process.with_message old bytes) → is_ok r ≡ true
    → (process.queue new).messages ≡ (process.queue old).messages ++ bytes ∷ []
taken_waits (Ok x) old new bytes taken is =
    ap (λ (v : Held). (process.queue v).messages) taken ∙ one_waits old bytes
taken_waits (Err e) old new bytes taken is = absurd (true≢false (sym is))

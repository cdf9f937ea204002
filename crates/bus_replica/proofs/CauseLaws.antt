-- The cause of a fault, of a part of a call, is the cause of the whole.
use Rattle.std.proofs.Common.{◌≡◌, ℕ, Bool, true, false, inl, inr, refl, sym, subst, ap, ◌∙◌, arith}
use Rattle.std.specs.Prelude.{IfErr, Result, Ok, Err}
use Rattle.std.proofs.lemmas.Grind.{common_steps}
use Rattle.bus_tenure.specs.declared.turns.Turn.{Turn}
use Rattle.bus_tenure.specs.declared.turns.Turn.TheVariants as turn
use Rattle.bus_automaton.specs.Processes.{Process}
use Rattle.bus_pageslot.specs.Rule.{Sat}
use Rattle.bus_pageslot.specs.Seats.{SenderSeat}
use Rattle.bus_pageslot.specs.Turns.{Tellings}
use Rattle.bus_replica.specs.Causes.{WasAnswered, WasShut, HasEnded}
use Rattle.bus_replica.specs.Causes.{IsCause, IsEndCause, SaysOn, SaysStop, SaidYes}
use Rattle.bus_replica.specs.Causes.{Unasked}
use Rattle.bus_replica.specs.Replicas.{Replicated, GoesOn, Here, WorksOn, Rests, HaveAllLeft}
use Rattle.bus_replica.specs.Replicas.{PutsStayLeaving, has_heard_leave}
use Rattle.bus_replica.specs.declared.faults.Fault.{Fault}
use Rattle.bus_replica.specs.declared.faults.Fault.TheVariants as fault
use Rattle.bus_replica.proofs.GoingLaws.{ends_behind, ends_same}
use Rattle.bus_replica.proofs.SendingLaws.{works_trans, works_also}

-- ---- a function that is asked
pub says_trans : {F : Type 0} (Tells : F → Bool → F → Type 0) (a b c : F) → SaysOn Tells a b
    → SaysOn Tells b c → SaysOn Tells a c
says_trans Tells a b _ before Unasked = before
says_trans Tells a b _ before (SaidYes old new later told) =
    SaidYes old new (says_trans Tells a b old before later) told

pub says_yes : {F : Type 0} (Tells : F → Bool → F → Type 0) (a b c : F) (said : Bool)
    → SaysOn Tells a b → Tells b said c → said ≡ true → SaysOn Tells a c
says_yes Tells a b c said before told is =
    SaidYes b c before (subst (λ s. Tells b s c) is told)

pub says_stop : {F : Type 0} (Tells : F → Bool → F → Type 0) (a b c : F) (said : Bool)
    → SaysOn Tells a b → Tells b said c → said ≡ false → SaysStop Tells a
says_stop Tells a b c said before told is = grind (arith, common_steps)

pub stop_after : {F : Type 0} (Tells : F → Bool → F → Type 0) (a b : F) → SaysOn Tells a b
    → SaysStop Tells b → SaysStop Tells a
stop_after Tells a b before h = grind (arith, common_steps, says_trans)

-- ---- between more that the sender did
module _ {C : Type 0} (P : Process C) (T : Tellings C) (leaves : Bool) (a b c d : SenderSeat C)
    (before : WorksOn P T leaves a b) (behind : WorksOn P T leaves c d) where
  pub answered_within : (answer : Turn) → WasAnswered P T leaves b answer c
      → WasAnswered P T leaves a answer d
  answered_within answer h = record {
    at = h.at;
    word = h.word;
    after = h.after;
    before = works_trans P T leaves a b h.at before h.before;
    turned = h.turned;
    behind = works_trans P T leaves h.after c d h.behind behind;
  }

  pub shut_within : WasShut P T leaves b c → WasShut P T leaves a d
  shut_within h = record {
    at = h.at;
    before = works_trans P T leaves a b h.at before h.before;
    shut = h.shut;
    behind = works_trans P T leaves h.at c d h.behind behind;
  }

-- ---- of who does not leave, as of who does
module _ {C : Type 0} (P : Process C) (T : Tellings C) (a b : SenderSeat C) where
  pub answered_also : (answer : Turn) → WasAnswered P T false a answer b
      → WasAnswered P T true a answer b
  answered_also answer h = record {
    at = h.at;
    word = h.word;
    after = h.after;
    before = works_also P T true a h.at h.before;
    turned = h.turned;
    behind = works_also P T true h.after b h.behind;
  }

-- the cause of a part that sends, of the call that leaves
pub sending_ends : {C S : Type 0} (P : Process C) (T : Tellings C) (a b : Replicated C S)
    (Stops : Type 0) (workers : ℕ) (why : Fault) → IsCause P T ⊥ Stops a b why
    → IsEndCause P T Stops workers a b why
sending_ends P T a b Stops workers fault.TooLong h = h
sending_ends P T a b Stops workers fault.Ended h = h
sending_ends P T a b Stops workers fault.Spent h =
    answered_also P T a.sender b.sender turn.Spent h
sending_ends P T a b Stops workers fault.Stopped h = h
sending_ends P T a b Stops workers (fault.MissingWorker worker) h = absurd h

module _ {C S : Type 0} (P : Process C) (T : Tellings C) (leaves : Bool) (a b c d : Replicated C S)
    (before : WorksOn P T leaves a.sender b.sender) (heard : GoesOn a.me b.me)
    (behind : WorksOn P T leaves c.sender d.sender) (same : d.me ≡ c.me) where
  pub ended_within : HasEnded P T leaves b c → HasEnded P T leaves a d
  ended_within (inl end) =
      inl (ends_same a.me c.me d.me (ends_behind a.me b.me c.me heard end) same)
  ended_within (inr (inl closed)) = grind (arith, common_steps, answered_within)
  ended_within (inr (inr (inl left))) =
      inr (inr (inl (
        left.0,
        answered_within P T leaves a.sender b.sender c.sender d.sender before behind _ left.1,
      )))
  ended_within (inr (inr (inr shut))) = grind (arith, common_steps, shut_within)

module _ {C S : Type 0} (P : Process C) (T : Tellings C) (a b c d : Replicated C S)
    (heard : GoesOn a.me b.me) (same : d.me ≡ c.me) where
  pub cause_within : WorksOn P T false a.sender b.sender → WorksOn P T false c.sender d.sender
      → (Long Stops Long' Stops' : Type 0) → (Long → Long') → (Stops → Stops')
      → (why : Fault) → IsCause P T Long Stops b c why → IsCause P T Long' Stops' a d why
  cause_within before behind Long Stops Long' Stops' long stops fault.TooLong h = long h
  cause_within before behind Long Stops Long' Stops' long stops fault.Ended h =
      ended_within P T false a b c d before heard behind same h
  cause_within before behind Long Stops Long' Stops' long stops fault.Spent h =
      answered_within P T false a.sender b.sender c.sender d.sender before behind _ h
  cause_within before behind Long Stops Long' Stops' long stops fault.Stopped h = stops h
  cause_within before behind Long Stops Long' Stops' long stops (fault.MissingWorker worker) h = h

  pub end_within : WorksOn P T false a.sender b.sender → WorksOn P T false c.sender d.sender
      → (Stops Stops' : Type 0) → (Stops → Stops') → (workers : ℕ) (why : Fault)
      → IsEndCause P T Stops workers b c why → IsEndCause P T Stops' workers a d why
  end_within before behind Stops Stops' stops workers fault.TooLong h = h
  end_within before behind Stops Stops' stops workers fault.Ended h =
      ended_within P T false a b c d before heard behind same h
  end_within before behind Stops Stops' stops workers fault.Spent h =
      answered_within P T true a.sender b.sender c.sender d.sender
      (works_also P T true a.sender b.sender before) (works_also P T true c.sender d.sender behind)
      _ h
  end_within before behind Stops Stops' stops workers fault.Stopped h = stops h
  end_within before behind Stops Stops' stops workers (fault.MissingWorker worker) h = (
    stops h.0,
    record {
      some = h.1.some;
      missing = ap (λ (m : Sat C). has_heard_leave m.0 worker.0) same ∙ h.1.missing;
      first = subst (λ (m : Sat C). HaveAllLeft m.0 worker.0) (sym same) h.1.first;
    },
  )

-- ---- where nothing can tell to stop
pub never_stops : {F : Type 0} (Tells : F → Bool → F → Type 0) (first : F)
    → ((f : F) (told : Bool) (f' : F) → Tells f told f' → told ≡ true) → SaysStop Tells first → ⊥
never_stops Tells first always h =
    let bad : false ≡ true = always h.asked false h.left h.told in cc

pub cause_never : {C S V : Type 0} (P : Process C) (T : Tellings C) (old new : Replicated C S)
    (Long Stops : Type 0) → (Stops → ⊥) → (result : Result V Fault)
    → IfErr result (IsCause P T Long Stops old new) → IfErr result (IsCause P T Long ⊥ old new)
cause_never P T old new Long Stops never (Ok x) h = tt
cause_never P T old new Long Stops never (Err fault.TooLong) h = h
cause_never P T old new Long Stops never (Err fault.Ended) h = h
cause_never P T old new Long Stops never (Err fault.Spent) h = h
cause_never P T old new Long Stops never (Err fault.Stopped) h = never h
cause_never P T old new Long Stops never (Err (fault.MissingWorker worker)) h = h

pub end_never : {C S V : Type 0} (P : Process C) (T : Tellings C) (old new : Replicated C S)
    (Stops : Type 0) (workers : ℕ) → (Stops → ⊥) → (result : Result V Fault)
    → IfErr result (IsEndCause P T Stops workers old new)
    → IfErr result (IsEndCause P T ⊥ workers old new)
end_never P T old new Stops workers never (Ok x) h = tt
end_never P T old new Stops workers never (Err fault.TooLong) h = h
end_never P T old new Stops workers never (Err fault.Ended) h = h
end_never P T old new Stops workers never (Err fault.Spent) h = h
end_never P T old new Stops workers never (Err fault.Stopped) h = absurd (never h)
end_never P T old new Stops workers never (Err (fault.MissingWorker worker)) h =
    absurd (never h.0)

-- behind a result, more that changes nothing that was heard
pub cause_settled : {C S V : Type 0} (P : Process C) (T : Tellings C) (a c d : Replicated C S)
    (Long Stops : Type 0) (result : Result V Fault) → WorksOn P T false c.sender d.sender
    → d.me ≡ c.me → IfErr result (IsCause P T ⊥ Stops a c)
    → IfErr result (IsCause P T Long Stops a d)
cause_settled P T a c d Long Stops (Ok x) behind same h = tt
cause_settled P T a c d Long Stops (Err why) behind same h =
    cause_within P T a a c d Here same Rests behind ⊥ Stops Long Stops (λ long. absurd long)
    (λ s. s) why h

pub end_settled : {C S V : Type 0} (P : Process C) (T : Tellings C) (a c d : Replicated C S)
    (Stops : Type 0) (workers : ℕ) (result : Result V Fault)
    → WorksOn P T false c.sender d.sender → d.me ≡ c.me
    → IfErr result (IsEndCause P T Stops workers a c)
    → IfErr result (IsEndCause P T Stops workers a d)
end_settled P T a c d Stops workers (Ok x) behind same h = tt
end_settled P T a c d Stops workers (Err why) behind same h =
    end_within P T a a c d Here same Rests behind Stops Stops (λ s. s) workers why h

-- before it, more that sent and heard
pub cause_after : {C S V : Type 0} (P : Process C) (T : Tellings C) (a b c : Replicated C S)
    (Stops Stops' : Type 0) → (Stops → Stops') → (result : Result V Fault)
    → WorksOn P T false a.sender b.sender → GoesOn a.me b.me
    → IfErr result (IsCause P T ⊥ Stops b c) → IfErr result (IsCause P T ⊥ Stops' a c)
cause_after P T a b c Stops Stops' stops (Ok x) before heard h = tt
cause_after P T a b c Stops Stops' stops (Err why) before heard h =
    cause_within P T a b c c heard refl before Rests ⊥ Stops ⊥ Stops' (λ long. long) stops why h

pub end_yes : {C S V F : Type 0} (P : Process C) (T : Tellings C) (old new : Replicated C S)
    (workers : ℕ) (Tells : F → Bool → F → Type 0) (first : F) (result : Result V Fault)
    → IfErr result (IsEndCause P T (SaysStop Tells first) workers old new)
    → ((f : F) (told : Bool) (f' : F) → Tells f told f' → told ≡ true)
    → IfErr result (IsEndCause P T ⊥ workers old new)
end_yes P T old new workers Tells first result h always =
    end_never P T old new (SaysStop Tells first) workers (never_stops Tells first always) result h

-- of the call that takes the replica
pub finish_yes : {C S V F : Type 0} (P : Process C) (T : Tellings C) (old : Replicated C S)
    (workers : ℕ) (Tells : F → Bool → F → Type 0) (first : F) (result : Result V Fault)
    → IfErr result (λ why. (last : Replicated C S) × GoesOn old.me last.me
    × PutsStayLeaving P T old.sender last.sender
    × IsEndCause P T (SaysStop Tells first) workers old last why)
    → ((f : F) (told : Bool) (f' : F) → Tells f told f' → told ≡ true)
    → IfErr result (λ why. (last : Replicated C S) × GoesOn old.me last.me
    × PutsStayLeaving P T old.sender last.sender × IsEndCause P T ⊥ workers old last why)
finish_yes P T old workers Tells first (Ok x) h always = tt
finish_yes {C} {S} {V} P T old workers Tells first (Err why) h always = (
  h.0,
  h.1,
  h.2,
  end_yes {V = V} P T old h.0 workers Tells first (Err why) h.3 always,
)

-- An event that is repeated while it goes on: behind an answer with which it goes on it is not
-- refused.
use Rattle.std.proofs.Common.{◌≡◌, ℕ, zero, suc, ◌-◌, ◌<◌, ◌≤◌, Bool, true, false, cond, Option}
use Rattle.std.proofs.Common.{Some, None, length, slice_get, slice_index, refl, sym, ap, subst}
use Rattle.std.proofs.Common.{◌∙◌, ◌⊎◌, inl, inr, arith}
use Rattle.std.specs.Prelude.{Result, Ok, Err, IfOk, IfErr}
use Rattle.std.proofs.lemmas.Bool.{true≢false}
use Rattle.std.proofs.lemmas.Option.{slice_get_within}
use Rattle.bus_register.specs.Protocol.{Protocol}
use Rattle.bus_register.specs.Private.TableLaws.{get_set_same}
use Rattle.bus_adoptcommit.specs.declared.verdicts.Verdict.{Verdict}
use Rattle.bus_batch.specs.declared.messages.Mark.TheVariants as mark
use Rattle.bus_core.specs.Senders.{Sender}
use Rattle.bus_tenure.specs.Core.{Election}
use Rattle.bus_tenure.specs.Elections.{Elector}
use Rattle.bus_world.specs.Playing.{RecvRefused}
use Rattle.bus_world.proofs.WorldLaws.{words_stay}
use Rattle.bus_world.specs.World.{Event, Put, Ask, Turn, Recv, Stop, Gone, is_set}
use Rattle.bus_world.specs.declared.events.Answer.{Answer}
use Rattle.bus_world.specs.declared.events.Answer.TheVariants as answer
use Rattle.bus_world.specs.declared.events.StepFault.{StepFault}
use Rattle.bus_machine.specs.Machine.{Machine, Trails, Happens, has_stopped, trails_grown}
use Rattle.bus_machine.specs.Playing.{Answers, Refused, SenderRefused}
use Rattle.bus_replay.specs.GoingOn.{goes_on}
use Rattle.bus_replay.specs.Answers.{Repeats, repeat_trails}
use Rattle.bus_replay.specs.Histories.{Kept, IsHistoryOf}
use Rattle.bus_replay.specs.Told.{IsRepeated}
use Rattle.bus_replay.proofs.HistoryLemmas.{same_receivers, quiet_past}

-- ---- what a result says, where it is known
pub when_ok : {A E : Type 0} (Q : A → Type 0) (r : Result A E) (x : A) → r ≡ Ok x → IfOk r Q → Q x
when_ok Q r x is h = subst (λ y. IfOk y Q) is h

pub when_err : {A E : Type 0} (Q : E → Type 0) (r : Result A E) (why : E) → r ≡ Err why
    → IfErr r Q → Q why
when_err Q r why is h = subst (λ y. IfErr y Q) is h

-- ---- what is not refused
stops_so : (a b : Answer) → a ≡ b → goes_on b ≡ false → goes_on a ≡ true → ⊥
stops_so a b e stops goes = true≢false (sym goes ∙ ap goes_on e ∙ stops)

-- who goes on is there, and has not stopped
there : {E : Type 0} (stopped : Bool) (o : Option (Sender E)) (v : Sender E)
    → cond stopped None o ≡ Some v → (stopped ≡ false)
    × (o ≡ Some v)
there true o v e = absurd cc
there false o v e = (refl, e)

-- no turn of such a sender is refused
turns : {E : Type 0} (o : Option (Sender E)) (v : Sender E) (stopped : Bool) (why : StepFault)
    → o ≡ Some v → stopped ≡ false
    → SenderRefused o stopped why (λ v. ⊥) → ⊥
turns None v stopped why at goes refused = absurd cc
turns (Some w) v true why at goes refused = absurd cc
turns (Some w) v false why at goes refused = refused

pub not_refused :
    {E : Type 0} (X : Election E) (old new : Machine E) (e : Event) (a : Answer) (why : StepFault)
    → Happens X old e a new
    → goes_on a ≡ true → Refused new e why → ⊥
not_refused X old new (Put s bytes) a why h goes refused =
    stops_so a (answer.Number _) h.answered refl goes
not_refused X old new (Ask s mark.End) a why h goes refused =
    stops_so a answer.Closing h.answered refl goes
not_refused X old new (Ask s mark.Leave) a why h goes refused =
    stops_so a answer.Leaving h.answered refl goes
not_refused {E} X old new (Turn s word) a why h goes refused =
    let here = there (has_stopped old s) (slice_get old.senders s) h.sender h.goes in
    let unset : has_stopped new s ≡ false =
    ap (λ (y : Machine E). is_set (slice_get y.stopped s)) h.after ∙ here.0 in
    let at =
    ap (λ (y : Machine E). slice_get y.senders s) h.after
    ∙ get_set_same old.senders s _ (slice_get_within old.senders s h.sender
    here.1) in
    turns (slice_get new.senders s) _ (has_stopped new s) why at unset refused
not_refused {E} X old new (Recv r) a why h goes refused =
    let same = words_stay (slice_index old.words) h.receiver h.next h.heard h.does in
    let gone = (subst (λ o. RecvRefused o why)
    (ap (λ (y : Machine E). slice_get y.receivers r) h.after ∙ get_set_same old.receivers r h.next
    (slice_get_within old.receivers r h.receiver h.there)) refused).0 in
    true≢false (sym gone ∙ same.4 ∙ h.stays)
not_refused X old new (Stop s) a why h goes refused = stops_so a answer.Stopped h.answered refl goes
not_refused X old new (Gone r) a why h goes refused = stops_so a answer.Gone h.answered refl goes

-- ---- what stays, however often an event is repeated
module _ {S : Type 0} (X : Election (Elector S)) (P : Protocol S Bool Verdict) (e : Event) where
  pub repeat_many : (m : Machine (Elector S)) (more : ℕ) (last : Answer) (new : Machine (Elector S))
      → Repeats X P m e more last new → length new.receivers ≡ length m.receivers
  repeat_many m zero last new run = same_receivers X m new e last run.happens
  repeat_many m (suc more) last new (inl once) = same_receivers X m new e last once.0.happens
  repeat_many m (suc more) last new (inr run) =
      repeat_many run.0 more last new run.4 ∙ same_receivers X m run.0 e run.1 run.2.happens

  -- nobody past the receivers is answered anything
  pub repeat_quiet : (m : Machine (Elector S)) (more : ℕ) (last : Answer)
      (new : Machine (Elector S)) (run : Repeats X P m e more last new) (T : Trails) (q : ℕ)
      → length m.receivers ≤ q → (repeat_trails X P m e more last new run T).heard q ≡ T.heard q
  repeat_quiet m zero last new run T q past = quiet_past X m new e last T q run.happens past
  repeat_quiet m (suc more) last new (inl once) T q past =
      quiet_past X m new e last T q once.0.happens past
  repeat_quiet m (suc more) last new (inr run) T q past =
      let many = same_receivers X m run.0 e run.1 run.2.happens in
      repeat_quiet run.0 more last new run.4 (trails_grown X m e run.1 T) q (omega (arith, many))
      ∙ quiet_past X m run.0 e run.1 T q run.2.happens past

-- ---- an event again and again
module _ {S : Type 0} (X : Election (Elector S)) (P : Protocol S Bool Verdict) (e : Event)
    (old : Machine (Elector S)) (h : Kept) (all : ℕ) where
  -- The last answer so far, from the bus before it, and how what is behind it goes on from the
  -- first; what was added to trails before that answer; and the history has all of it.
  pub record Repeated (left : ℕ) (last : Answer) (new : Machine (Elector S)) (kept : Kept) :
      Type 0 where
    pub before : Machine (Elector S)
    pub answered : Answers X P before e last new
    pub grown : Trails → Trails
    pub from_first : (final : Answer) (end : Machine (Elector S))
        → (run : Repeats X P before e left final end)
        → (whole : Repeats X P old e all final end)
        × ((T : Trails) → repeat_trails X P old e all final end whole T
        ≡ repeat_trails X P before e left final end run (grown T))
    pub holds : (T : Trails) (taken : ℕ → Bool) → IsHistoryOf X P old h T taken
        → IsHistoryOf X P new kept (trails_grown X before e last (grown T)) taken

  pub once : (last : Answer) (new : Machine (Elector S)) (kept : Kept) → Answers X P old e last new
      → ((T : Trails) (taken : ℕ → Bool) → IsHistoryOf X P old h T taken
      → IsHistoryOf X P new kept (trails_grown X old e last T) taken)
      → Repeated all last new kept
  once last new kept answered noted = record {
    before = old;
    answered = answered;
    grown = λ T. T;
    from_first = λ final end r. (r, λ T. refl);
    holds = noted;
  }

  pub once_more : (left : ℕ) (first last : Answer) (mid new : Machine (Elector S))
      (kept kept' : Kept) → Repeated left first mid kept → 0 < left → goes_on first ≡ true
      → Answers X P mid e last new
      → ((T : Trails) (taken : ℕ → Bool) → IsHistoryOf X P mid kept T taken
      → IsHistoryOf X P new kept' (trails_grown X mid e last T) taken)
      → Repeated (left - 1) last new kept'
  once_more zero first last mid new kept kept' k some goes answered noted = absurd (omega arith)
  once_more (suc left) first last mid new kept kept' k some goes answered noted =
      let less : left ≡ suc left - 1 = omega arith in
      subst (λ n. Repeated n last new kept') less record {
        before = mid;
        answered = answered;
        grown = λ T. trails_grown X k.before e first (k.grown T);
        from_first = λ final end r.
            k.from_first final end (inr (mid, first, k.answered, goes, r));
        holds = λ T taken hold.
            noted (trails_grown X k.before e first (k.grown T)) taken (k.holds T taken hold);
      }

  -- the last one, from the bus before it
  ended : (left : ℕ) (last : Answer) (new : Machine (Elector S)) (kept : Kept)
      (k : Repeated left last new kept) (run : Repeats X P k.before e left last new)
      → ((T : Trails) → repeat_trails X P k.before e left last new run T
      ≡ trails_grown X k.before e last T)
      → IsRepeated X P old h e all last new kept
  ended left last new kept k run same =
      let whole = k.from_first last new run in (
        whole.0,
        λ T taken hold.
            subst (λ U. IsHistoryOf X P new kept U taken) (sym (whole.1 T ∙ same (k.grown T)))
            (k.holds T taken hold),
      )

  pub at_last : (left : ℕ) (last : Answer) (new : Machine (Elector S)) (kept : Kept)
      → Repeated left last new kept → (left ≡ 0) ⊎ (goes_on last ≡ false)
      → IsRepeated X P old h e all last new kept
  at_last zero last new kept k stops = ended zero last new kept k k.answered (λ T. refl)
  at_last (suc left) last new kept k (inl none) = absurd (omega arith)
  at_last (suc left) last new kept k (inr stops) =
      ended (suc left) last new kept k (inl (k.answered, stops)) (λ T. refl)

-- Who was told to have left, after a turn of a receiver.
use Rattle.std.proofs.Common.{zero, suc, replicate}
use Rattle.std.proofs.Common.{◌≡◌, ℕ, inl, inr, true, false, List, [], ◌∷◌}
use Rattle.std.proofs.Common.{refl, sym, ◌∙◌, ap, subst, arith, ◌+◌, ◌<◌, length, Bool}
use Rattle.std.proofs.lemmas.Bool.{or_right, eq-eqb, ne_eqb, cases_eq, cases_lt}
use Rattle.std.proofs.Math.Bool.{or-false}
use Rattle.std.proofs.lemmas.List.{get_or-set_same, get_or-set_other, length-set, length-replicate}
use Rattle.std.proofs.lemmas.List.Folds.{list_any-append}
use Rattle.std.specs.Prelude.{◌||◌, Result, Ok, Err, OnOk, slice_set, slice_index_or}
use Rattle.std.specs.List.{list_any}
use Rattle.std.proofs.lemmas.Grind.{common_steps}
use lib.ListN.{get_or}
use Rattle.bus_register.specs.declared.registers.SenderNo.{SenderNo}
use Rattle.bus_batch.specs.declared.messages.Item.{Item}
use Rattle.bus_batch.specs.Frames.{Entry, Says, Leaves, is_leave_of}
use Rattle.bus_deliverylog.specs.declared.receiving.RecvTurn.{RecvTurn}
use Rattle.bus_deliverylog.specs.declared.receiving.RecvTurn.TheVariants as turn
use Rattle.bus_world.specs.Headline.{entry_heard}
use Rattle.bus_pageslot.specs.Listening.{Hears, GoesOnTo, At, Onward, item_turn_of}
use Rattle.bus_pageslot.specs.Listening.{sign_after, Writes}
use Rattle.bus_pageslot.specs.declared.listening.ItemTurn.TheVariants as item_turn
use Rattle.bus_pageslot.specs.Rule.{Sat}
use Rattle.bus_pageslot.specs.Steps.{Learns}
use Rattle.bus_pageslot.specs.declared.rule.View.{View}
use Rattle.bus_replica.specs.Replicas.{Operations, has_heard_leave, HaveAllLeft, HasHeardAll}
use Rattle.bus_replica.specs.Replicas.{HasNobodyLeft}
use Rattle.bus_replica.specs.Replicas.{GoesOn, IsFold, Replicated, Sitting}
use Rattle.bus_replica.specs.Turns.{IsHearing}
use Rattle.bus_replica.specs.declared.hearers.TheConstants.{NUMBERS}
use Rattle.bus_replica.proofs.GoingLaws.{goes_same}
use Rattle.bus_replica.proofs.FoldLaws.{fold_more, fold_stays, fold_told}
use Rattle.bus_replica.proofs.HearingLaws.{HasGrown, entries_heard, hears_grows, learns_grows}

-- of whom it was answered that it has left
leaves_more : {C : Type 0} (old new : Sat C) (entries : List Entry) (worker : ℕ)
    → HasGrown old entries new
    → has_heard_leave new.0 worker
    ≡ (has_heard_leave old.0 worker || list_any (is_leave_of worker) entries)
leaves_more old new entries worker g = grind (arith, common_steps, list_any-append, entries_heard)

-- none of these entries is a leave mark of this worker
leaves_same : {C : Type 0} (old new : Sat C) (entries : List Entry) (worker : ℕ)
    → HasGrown old entries new → list_any (is_leave_of worker) entries ≡ false
    → has_heard_leave new.0 worker ≡ has_heard_leave old.0 worker
leaves_same old new entries worker g none = grind (arith, common_steps, leaves_more, or-false)

leave_heard : {C : Type 0} (old new : Sat C) (s : SenderNo) → HasGrown old (Leaves s ∷ []) new
    → has_heard_leave new.0 s.0 ≡ true
leave_heard old new s g = grind (arith, common_steps, leaves_more, or_right, eq-eqb)

-- of whom it is noted
abbrev AreNoted : {C : Type 0} → View C → List Bool → Type 0
AreNoted v left = (worker : ℕ) → worker < length left
    → slice_index_or left worker false ≡ has_heard_leave v worker

noted_same : {C : Type 0} (old new : Sat C) (entries : List Entry) (left : List Bool)
    → HasGrown old entries new → ((worker : ℕ) → list_any (is_leave_of worker) entries ≡ false)
    → AreNoted old.0 left → AreNoted new.0 left
noted_same old new entries left g none gone = λ worker low.
    gone worker low ∙ sym (leaves_same old new entries worker g (none worker))

-- a leave mark is noted
noted_more : {C : Type 0} (old new : Sat C) (s : SenderNo) (left : List Bool)
    → HasGrown old (Leaves s ∷ []) new → s.0 < length left → AreNoted old.0 left
    → AreNoted new.0 (slice_set left s.0 true)
noted_more old new s left g within gone = λ worker low. elim (cases_eq worker s.0) [
  | inl same ↦ grind (arith, common_steps, get_or, get_or-set_same, leave_heard)
  | inr other ↦ grind (arith, common_steps, get_or-set_other, length-set, leaves_same, ne_eqb)
]

-- where nobody has left, nobody is noted
none_noted : (n worker : ℕ) → slice_index_or (replicate n false) worker false ≡ false
none_noted zero zero = refl
none_noted zero (suc worker) = refl
none_noted (suc n) zero = refl
none_noted (suc n) (suc worker) = none_noted n worker

pub hearing_new : {C S A : Type 0} (IsFirst : S → Type 0) (Applies : Operations S A) (m : Sat C)
    (state : S) (left : List Bool) → IsFold IsFirst Applies m.0 state → HasNobodyLeft m.0
    → left ≡ replicate NUMBERS false → IsHearing IsFirst Applies m.0 state left
hearing_new IsFirst Applies m state left fold nobody is = record {
  fold = fold;
  long = ap length is ∙ length-replicate NUMBERS false;
  gone = λ worker low.
      ap (λ z. slice_index_or z worker false) is ∙ none_noted NUMBERS worker ∙ sym (nobody worker);
}

module _ {C S A : Type 0} (IsFirst : S → Type 0) (Applies : Operations S A) (old new : Sat C)
    (state : S) (left : List Bool) (h : IsHearing IsFirst Applies old.0 state left) where
  grown : (answer : RecvTurn) → Hears old answer new → HasGrown old (entry_heard answer) new
  grown answer hears = hears_grows old answer new h.fold.heard h.fold.within hears

  -- a turn that found an item, and the operation applied
  pub hearing_more : (now : S) (item : Item) (answer : A) → Hears old (turn.Item item) new
      → Applies state item.sender.0 item.message answer now
      → IsHearing IsFirst Applies new.0 now left
  hearing_more now item answer hears applied = record {
    fold = fold_more IsFirst Applies old new state now item answer h.fold hears applied;
    long = h.long;
    gone = noted_same old new (Says item ∷ []) left (grown (turn.Item item) hears) (λ worker. refl)
        h.gone;
  }

  -- a turn that found neither an item nor a leave mark
  pub hearing_stays : (answer : RecvTurn) → entry_heard answer ≡ [] → Hears old answer new
      → IsHearing IsFirst Applies new.0 state left
  hearing_stays answer none hears = grind (arith, common_steps, fold_stays, noted_same, grown)

  -- a load of the length, out of turn
  pub hearing_told : (got : ℕ) → Learns old got new → IsHearing IsFirst Applies new.0 state left
  hearing_told got learns = grind (arith, common_steps, fold_told, noted_same, learns_grows)

  -- a turn that found a leave mark, which is noted
  pub hearing_leaves : (s : SenderNo) (n : ℕ) → n ≡ s.0 → s.0 < length left
      → Hears old (turn.Leave s) new
      → IsHearing IsFirst Applies new.0 state (slice_set left n true)
  hearing_leaves s n same within hears = record {
    fold = fold_stays IsFirst Applies old new state (turn.Leave s) refl h.fold hears;
    long = length-set left n true ∙ h.long;
    gone = subst (λ k. AreNoted new.0 (slice_set left k true)) (sym same)
        (noted_more old new s left (grown (turn.Leave s) hears) within h.gone);
  }

-- turns that took words which say nothing by themselves
pub hearing_along : {C S A : Type 0} (IsFirst : S → Type 0) (Applies : Operations S A)
    (old new : Sat C) (state : S) (left : List Bool) → IsHearing IsFirst Applies old.0 state left
    → GoesOnTo old new → IsHearing IsFirst Applies new.0 state left
hearing_along IsFirst Applies old _ state left h At = h
hearing_along IsFirst Applies old _ state left h (Onward before new later undue below hears) =
    hearing_stays IsFirst Applies before new state left
    (hearing_along IsFirst Applies old before state left h later) turn.Going refl hears

-- ---- the answer of the last turn, by what it told
pub told_item : (answer : RecvTurn) (before after : Item)
    → Writes answer before item_turn.Item after → answer ≡ turn.Item after
told_item turn.Going before after w = absurd (cc)
told_item turn.Empty before after w = absurd (cc)
told_item (turn.Head tenure owner) before after w = absurd (cc)
told_item (turn.Item item) before after w = ap (λ z. turn.Item z) (sym w.after_is)
told_item (turn.Leave sender) before after w = absurd (cc)
told_item turn.End before after w = absurd (cc)

pub told_going : (answer signed : RecvTurn) → item_turn.Going ≡ item_turn_of answer
    → signed ≡ sign_after answer turn.Going → answer ≡ signed
told_going turn.Going signed told is = sym is
told_going turn.Empty signed told is = absurd (cc)
told_going (turn.Head tenure owner) signed told is = sym is
told_going (turn.Item item) signed told is = absurd (cc)
told_going (turn.Leave sender) signed told is = sym is
told_going turn.End signed told is = absurd (cc)

-- one that is no leave mark tells of no entry
pub told_plain : (answer signed : RecvTurn) → item_turn.Going ≡ item_turn_of answer
    → signed ≡ sign_after answer turn.Going → ((s : SenderNo) → signed ≡ turn.Leave s → ⊥)
    → entry_heard answer ≡ []
told_plain turn.Going signed told is plain = refl
told_plain turn.Empty signed told is plain = absurd (cc)
told_plain (turn.Head tenure owner) signed told is plain = refl
told_plain (turn.Item item) signed told is plain = absurd (cc)
told_plain (turn.Leave sender) signed told is plain = absurd (plain sender is)
told_plain turn.End signed told is plain = absurd (cc)

pub told_empty : (answer : RecvTurn) → item_turn.Empty ≡ item_turn_of answer
    → answer ≡ turn.Empty
told_empty turn.Going told = absurd (cc)
told_empty turn.Empty told = refl
told_empty (turn.Head tenure owner) told = absurd (cc)
told_empty (turn.Item item) told = absurd (cc)
told_empty (turn.Leave sender) told = absurd (cc)
told_empty turn.End told = absurd (cc)

pub told_end : (answer : RecvTurn) → item_turn.End ≡ item_turn_of answer → answer ≡ turn.End
told_end turn.Going told = absurd (cc)
told_end turn.Empty told = absurd (cc)
told_end (turn.Head tenure owner) told = absurd (cc)
told_end (turn.Item item) told = absurd (cc)
told_end (turn.Leave sender) told = absurd (cc)
told_end turn.End told = refl

-- one worker more
pub left_more : {C : Type 0} (v : View C) (n : ℕ) → HaveAllLeft v n → has_heard_leave v n ≡ true
    → HaveAllLeft v (n + 1)
left_more v n all one = λ worker low. elim (cases_lt worker n) [
  | inl l ↦ all worker l
  | inr l ↦
      (let same : n ≡ worker = omega (arith, l, low) in ap (has_heard_leave v) (sym same) ∙ one)
]

-- what a replica that is finished gives
pub heard_all : {C S A : Type 0} (IsFirst : S → Type 0) (Applies : Operations S A)
    (workers counted : ℕ) (old left last : Sat C) (state : S) → GoesOn old left → last ≡ left
    → IsFold IsFirst Applies last.0 state → HaveAllLeft left.0 counted → counted ≡ workers
    → HasHeardAll IsFirst Applies workers old state
heard_all {C} IsFirst Applies workers counted old left last state on same fold gone is = record {
  last = last;
  goes_on = goes_same old left last on same;
  fold = fold;
  left = subst (λ (z : Sat C). HaveAllLeft z.0 workers) (sym same)
      (subst (λ n. HaveAllLeft left.0 n) is gone);
}

-- who has left, behind what changes nothing that was heard
pub left_settled : {C S V E : Type 0} (old new : Replicated C S) (result : Result V E)
    → new.bus ≡ old.bus → new.me ≡ old.me
    → OnOk result (HaveAllLeft old.me.0 old.bus.plan.shape.senders)
    → OnOk result (HaveAllLeft new.me.0 new.bus.plan.shape.senders)
left_settled {C} old new (Ok x) bus me left =
    subst (λ (b : Sitting). HaveAllLeft new.me.0 b.plan.shape.senders) (sym bus)
    (subst (λ (m : Sat C). HaveAllLeft m.0 old.bus.plan.shape.senders) (sym me) left)
left_settled old new (Err e) bus me left = tt

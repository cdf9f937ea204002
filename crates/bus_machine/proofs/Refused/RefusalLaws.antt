-- Answers, memories and machines that the definitions refuse.
use Rattle.std.proofs.Common.{◌+◌, ◌≡◌, ◌⊎◌, inl, inr, ℕ, ◌<◌, ◌≤◌, Bool, true, false, cond, Option}
use Rattle.std.proofs.Common.{nat_lt, Some, None, IsSome, List, [], ◌∷◌, ◌++◌, drop, length, map}
use Rattle.std.proofs.Common.{slice_get, slice_index, arith, refl, sym, ◌∙◌, ap, subst}
use Rattle.std.proofs.Math.Nat.{mod-eq_of_lt}
use Rattle.std.proofs.lemmas.Bool.{cases_lt, true≢false}
use Rattle.std.proofs.lemmas.Option.{same_Some, slice_get_within}
use Rattle.std.proofs.lemmas.List.{append-nil, drop-append-le, get_or_append_left, length-append}
use Rattle.std.proofs.lemmas.List.{length-drop}
use Rattle.std.proofs.lemmas.Grind.{common_steps}
use Rattle.bus_batch.proofs.FrameLaws.{same_frame, same_log, spells_one}
use Rattle.bus_batch.specs.Frames.{Frame, Order, Spells, AreFrames, frame_words, items_of}
use Rattle.bus_batch.specs.Frames.{log_words, order_of, has_gone, tenure_and_owner}
use Rattle.bus_batch.specs.declared.batches.Phase.TheVariants as batch
use Rattle.bus_batch.specs.declared.messages.Mark.TheVariants as mark
use Rattle.bus_batch.specs.declared.messages.Item.{Item}
use Rattle.bus_core.specs.Senders.{Sender}
use Rattle.bus_register.specs.Words.{register}
use Rattle.bus_deliverylog.specs.Orders.{of_sender}
use Rattle.bus_core.specs.Reusing.Keeping.{held_of}
use Rattle.bus_presence.proofs.ReclamationKept.{one_of_row}
use Rattle.bus_presence.specs.declared.pins.Pin.TheVariants.{Unpinning}
use Rattle.bus_register.specs.declared.kinds.Kind.TheVariants as kind
use Rattle.bus_register.specs.declared.registers.SenderNo.{SenderNo}
use Rattle.bus_batch.specs.Batches.{frame_of}
use Rattle.bus_core.specs.Reusing.Telling.{HasPublished, Published, HandsOnSent}
use Rattle.bus_tenure.specs.Seen.{tenure_of}
use Rattle.bus_tenure.specs.Core.{Election, Layout}
use Rattle.bus_tenure.specs.declared.pages.Page.{Page}
use Rattle.bus_tenure.specs.declared.phases.Phase.{Phase}
use Rattle.bus_tenure.specs.declared.phases.Phase.TheVariants as phase
use Rattle.bus_tenure.specs.declared.turns.Turn.TheVariants as turn
use Rattle.bus_world.specs.Headline.{Action, Stepped, Elected, puts}
use Rattle.bus_world.specs.Log.{AreCounted}
use Rattle.bus_world.specs.Telling.{HasDelivered, HasLeft}
use Rattle.bus_world.specs.World.{Event}
use Rattle.bus_batch.specs.declared.messages.Mark.{Mark}
use Rattle.bus_world.specs.declared.events.Answer.{Answer}
use Rattle.bus_world.specs.declared.events.Answer.TheVariants as answer
use Rattle.bus_machine.proofs.Frames.Ending.{has_gone_last}
use Rattle.bus_machine.proofs.Frames.Framed.{floor_first}
use Rattle.bus_machine.proofs.Memory.SameActions.{says_no_more}
use Rattle.bus_register.specs.Private.TableLaws.{get_set_same}
use Rattle.bus_machine.specs.Bounding.{steps_towards, steps_of_pin}
use Rattle.bus_machine.specs.Machine.{base_of, Machine, Trails, TakesMark, mark_in}
use Rattle.bus_machine.specs.Finding.{places_found}
use Rattle.bus_machine.specs.Machine.{floor_of, passed_by, stage_of}
use Rattle.bus_machine.specs.Promise.{IsPagedBy, ReusesSafely}
use Rattle.bus_machine.specs.Machine.{words_of_frame}
use Rattle.bus_machine.specs.Refusals.{LossesRefuse, AnswersRefuse, SaysMore, NumbersRefuse}
use Rattle.bus_machine.specs.Refusals.{BoundsRefuse, FollowsRefuse, PagesRefuse, MemoriesRefuse}
use Rattle.bus_machine.specs.Refusals.{WordsRefuse, MarksRefuse}
use Rattle.bus_machine.specs.Remembering.{HasEnded, HasLeftIt, rows_in}
use Rattle.bus_machine.specs.Telling.{ClosedTells}
use Rattle.bus_world.proofs.CyclicProtocolKept.{held_page_is}
use Rattle.bus_world.proofs.Framing.{not_nil}
use Rattle.bus_world.proofs.LogLaws.{index-read}
use Rattle.bus_world.proofs.Stopping.{shown_there}

nothing_there : (i : ℕ) (d : Action) → slice_get [] i ≡ Some d → ⊥
nothing_there i d e = cc

pub none_spelled : (frames : List Frame) → log_words frames ≡ [] → frames ≡ []
none_spelled [] e = refl
none_spelled (f ∷ frames) e = absurd cc

-- a list of one has a first
one_there : (l : List ℕ) → length l ≡ 1 → (x : ℕ) × (slice_get l 0 ≡ Some x)
one_there [] e = absurd (omega arith)
one_there (x ∷ l) e = (x, refl)

-- one list has one last frame
last_one : (front back : List Frame) (w u : Frame) → front ++ w ∷ [] ≡ back ++ u ∷ [] → w ≡ u
last_one [] [] w u e = cc
last_one [] (g ∷ back) w u e = absurd (not_nil back u (sym (ap (drop 1) e)))
last_one (f ∷ front) [] w u e = absurd (not_nil front w (ap (drop 1) e))
last_one (f ∷ front) (g ∷ back) w u e = last_one front back w u (ap (drop 1) e)

-- what counts up from a first number begins with it
counts_from : (first : ℕ) (i : Item) (items rest : List Item) → AreCounted first items
    → items ≡ i ∷ rest → i.number ≡ first
counts_from first i items rest are e = (subst (AreCounted first) e are).0

unpinning_is : (t u : ℕ) → Unpinning t ≡ Unpinning u → t ≡ u
unpinning_is t u e = cc

-- a log whose order goes on has not ended
goes_on : {E : Type 0} (m : Machine E) (log : List ℕ) (order : Order) (owners : List (ℕ × SenderNo))
    → Spells m.layout.senders log order owners
    → order.ended ≡ false → HasEnded m log → ⊥
goes_on m log order owners spelled goes w =
    let one =
    spells_one m.layout.senders log w.order order w.owners owners w.spelled spelled in
    true≢false (sym w.ended ∙ ap (λ (o : Order). o.ended) one.0 ∙ goes)

-- nor has a sender left in one that has not its leave mark
stays_in : {E : Type 0} (m : Machine E) (log : List ℕ) (s : ℕ) (order : Order)
    (owners : List (ℕ × SenderNo))
    → Spells m.layout.senders log order owners → has_gone s order ≡ false → HasLeftIt m log s → ⊥
stays_in m log s order owners spelled stays w =
    let one =
    spells_one m.layout.senders log w.order order w.owners owners w.spelled spelled in
    true≢false (sym w.left ∙ ap (has_gone s) one.0 ∙ stays)

-- so its batch is not closed
not_closed : {E : Type 0} (m : Machine E) (log : List ℕ) (s : ℕ) (order : Order)
    (owners : List (ℕ × SenderNo))
    → Spells m.layout.senders log order owners → order.ended ≡ false
    → has_gone s order ≡ false → HasEnded m log ⊎ HasLeftIt m log s → ⊥
not_closed m log s order owners spelled goes stays (inl ended) =
    goes_on m log order owners spelled goes ended
not_closed m log s order owners spelled goes stays (inr left) =
    stays_in m log s order owners spelled stays left

closed_last : {E : Type 0} (m : Machine E) (log : List ℕ) (s : ℕ) (v : Sender E)
    → ClosedTells m log s v
    → HasEnded m log ⊎ HasLeftIt m log s
closed_last m log s v (inl ended) = inl ended
closed_last m log s v (inr left) = inr left.1

-- who is told to have left has its mark in the order
left_told : {E : Type 0} (m : Machine E) (log : List ℕ) (s t : ℕ) → HasLeft m.layout.senders log s t
    → HasLeftIt m log s
left_told m log s t w = record {
  order = order_of (w.earlier ++ w.frame ∷ []);
  owners = map tenure_and_owner (w.earlier ++ w.frame ∷ []);
  spelled = grind (arith, common_steps);
  left = subst (λ n. has_gone n (order_of (w.earlier ++ w.frame ∷ [])) ≡ true) w.owner
      (has_gone_last w.earlier w.frame w.says);
}

-- and its mark is the last frame of the log
left_last : {E : Type 0} (m : Machine E) (log : List ℕ) (s t : ℕ) (front : List Frame) (f : Frame)
    → AreFrames m.layout.senders (front ++ f ∷ [])
    → log_words (front ++ f ∷ []) ≡ log → (w : HasLeft m.layout.senders log s t)
    → w.frame ≡ f
left_last m log s t front f lawful are w = grind (arith, common_steps, last_one, same_log)

-- what is told delivered is the last frame of the log
delivered_last : {E : Type 0} (m : Machine E) (log : List ℕ) (s t first last : ℕ)
    (front : List Frame) (f : Frame)
    → AreFrames m.layout.senders (front ++ f ∷ []) → log_words (front ++ f ∷ []) ≡ log
    → (w : HasDelivered m.layout.senders log s t first last) → w.frame ≡ f
delivered_last m log s t first last front f lawful are w = grind (arith, last_one, same_log)

-- an empty log has not ended
none_ended : {E : Type 0} (m : Machine E) (log : List ℕ) → log ≡ [] → HasEnded m log → ⊥
none_ended m log empty w = grind (arith, common_steps, none_spelled, true≢false)

-- and nobody has left in it
none_left : {E : Type 0} (m : Machine E) (log : List ℕ) (s : ℕ) → log ≡ [] → HasLeftIt m log s → ⊥
none_left m log s empty w = grind (arith, common_steps, none_spelled, true≢false)

none_closed : {E : Type 0} (m : Machine E) (log : List ℕ) (s : ℕ) → log ≡ []
    → HasEnded m log ⊎ HasLeftIt m log s → ⊥
none_closed m log s empty (inl ended) = none_ended m log empty ended
none_closed m log s empty (inr left) = none_left m log s empty left

module _ {E : Type 0} (m : Machine E) where
  pub losses_refused : LossesRefuse m
  losses_refused = record {
    idle_loser = λ D p v o at lost none l.
        let w = l p v o at lost in
        nothing_there w.elected.place _
        (ap (λ d. slice_get d w.elected.place) (sym none) ∙ w.elected.at);
    own_loser = λ D p v o at lost same l. (l p v o at lost).other same;
    wrong_owner = λ D p v o t u at lost parts only apart l. let w = l p v o at lost in
        apart (only o.0 (subst (λ r. Elected (D p) r o.0)
        (unpinning_is w.tenure t (sym w.parts ∙ parts)) w.elected));
  }

  pub answers_refused : (log : List ℕ) (p : ℕ) (v : Sender E) (actions : List Action)
      → AnswersRefuse m log p v actions
  answers_refused log p v actions = record {
    lost_unseen = λ t o unseen told. unseen told.0;
    lost_to_itself = λ t o same told. told.1 same;
    own_untaken = λ t untaken told. untaken told.1.0 told.1.1;
    delivered_nothing = λ t first last empty told. grind (arith, not_nil, none_spelled);
    delivered_elsewhere = λ t first last front f lawful are other told.
        other (ap (λ (g : Frame). g.tenure)
        (sym (delivered_last m log p t first last front f lawful are told)) ∙ told.tenure);
    delivered_by_another = λ t first last front f lawful are other told.
        other (ap (λ (g : Frame). g.owner.0)
        (sym (delivered_last m log p t first last front f lawful are told)) ∙ told.owner);
    delivered_from_elsewhere = λ t first last front f i rest lawful are items other told.
        let same = delivered_last m log p t first last front f lawful are told in
        other
        (counts_from first i (items_of told.frame) rest told.numbers (ap items_of same ∙ items));
    full_with_room = λ room told. let lacks = told.lacks in omega arith;
    full_behind_the_floor = λ t page stored published held room told.
        grind (arith, common_steps, held_page_is);
    full_unloaded = λ some other told. other (told.loaded some);
    full_by_another_floor = λ t page stored published some held other told.
        grind (arith, common_steps, held_page_is, length);
    left_without_mark = λ t order owners spelled stays told.
        stays_in m log p order owners spelled stays (left_told m log p t told);
    left_elsewhere = λ t front f lawful are other told.
        other (ap (λ (g : Frame). g.tenure) (sym (left_last m log p t front f lawful are told))
        ∙ told.tenure);
    left_by_another = λ t front f lawful are other told.
        other (ap (λ (g : Frame). g.owner.0) (sym (left_last m log p t front f lawful are told))
        ∙ told.owner);
    closed_with_nothing = λ empty told. none_closed m log p empty (closed_last m log p v told);
    closed_too_soon = λ order owners spelled goes stays told.
        not_closed m log p order owners spelled goes stays (closed_last m log p v told);
    closed_by_leaving = λ order owners spelled goes apart told. elim told [
      | inl ended ↦ goes_on m log order owners spelled goes ended
      | inr left ↦ apart left.0
    ];
    spent_before_the_last = λ stage two told. grind (arith, common_steps);
    spent_unseen = λ stage one none told. grind (arith, common_steps, nothing_there, slice_get);
    behind_apart = λ t q none told. true≢false (sym (subst IsSome none told));
  }

-- ---- marks
-- what waits at a sender that was to close or to leave
waits_as : {E : Type 0} (old new : Machine E) (s : ℕ) (asked : Mark) (a : Answer) (v : Sender E)
    → TakesMark old s asked a new
    → slice_get new.senders s ≡ Some v → v ≡ mark_in v asked
waits_as {E} old new s asked a v h there =
    grind (arith, common_steps, shown_there, slice_get, get_set_same, slice_get_within, same_Some)

phase_as : {E : Type 0} (v : Sender E) (asked : Mark) → v ≡ mark_in v asked
    → v.core.queue.phase ≡ batch.Marking asked
phase_as {E} v asked e = ap (λ (u : Sender E). u.core.queue.phase) e

pub marks_refused : {E : Type 0} (X : Election E) (old new : Machine E) → MarksRefuse X old new
marks_refused X old new = record {
  leave_as_close = λ s h. let bad : answer.Closing ≡ answer.Leaving = h.answered in cc;
  close_as_leave = λ s h. let bad : answer.Leaving ≡ answer.Closing = h.answered in cc;
  leave_waits_as_end = λ s v a there ph h.
      let bad : batch.Marking mark.End ≡ batch.Marking mark.Leave = sym ph
      ∙ phase_as v mark.Leave (waits_as old new s mark.Leave a v h there) in cc;
  end_waits_as_leave = λ s v a there ph h.
      let bad : batch.Marking mark.Leave ≡ batch.Marking mark.End = sym ph
      ∙ phase_as v mark.End (waits_as old new s mark.End a v h there) in cc;
  leave_waits_not = λ s v a there ph h.
      let bad : batch.Open ≡ batch.Marking mark.Leave =
      sym ph ∙ phase_as v mark.Leave (waits_as old new s mark.Leave a v h there) in
      cc;
}

-- numbers of messages
pub numbers_refused : NumbersRefuse
numbers_refused = grind (arith, common_steps)

-- two steps towards the page of tenure 0
two_steps : (n k : ℕ) (rest : List Action)
    → 2
    ≤ steps_towards 0 (Stepped (Some 0) kind.Announce n None turn.Going
    ∷ Stepped (Some 0) kind.WriteFirst k None turn.Going ∷ rest)
two_steps n k rest = omega arith

-- steps towards a page
pub bounds_refused : {E : Type 0} (X : Election E) (bound : ℕ) (m : Machine E) (T : Trails)
    → BoundsRefuse X bound m T
bounds_refused X bound m T = record {
  too_many = λ s n k rest are b.
      let low = subst (λ l. steps_towards 0 l ≤ 1) are (b.most s 0) in
      let two = two_steps n k rest in omega arith;
  none_left = λ s v t e at ph none b. let some = (b.left s v t e at ph).0 in omega arith;
  too_many_of_pin = λ s a c are b.
      let low = subst (λ l. steps_of_pin 0 l ≤ 3) are (b.most s 0) in
      let four : 4 ≤ 3 = low in omega arith;
  unnamed = λ s e entries are none b. grind (arith, common_steps);
}

-- who did more in a tenure did not do the same
pub says_more : (t : ℕ) (before after : List Action) → SaysMore t before after
says_more t before after = record {
  elected_late = λ o never late same. never ((says_no_more t before after same).elected o late);
  taken_late = λ place never late same.
      let was = (says_no_more t before after same).took place late in never was.0 was.1;
}

-- a frame has a word
nothing_joins : (xs : List ℕ) (f : Frame) → length xs ≡ length (xs ++ frame_words f) → ⊥
nothing_joins xs f many = let more = length-append xs (frame_words f) in omega arith

-- what joins one front is the same
front_off : (xs ys zs : List ℕ) → xs ++ ys ≡ xs ++ zs → ys ≡ zs
front_off [] ys zs e = e
front_off (x ∷ xs) ys zs e = front_off xs ys zs (ap (drop 1) e)

-- so is what stands before one end
back_off : (xs ys zs : List ℕ) → xs ++ zs ≡ ys ++ zs → xs ≡ ys
back_off [] [] zs e = refl
back_off [] (y ∷ ys) zs e =
    let many = ap length e in let more = length-append ys zs in absurd (omega arith)
back_off (x ∷ xs) [] zs e =
    let many = ap length e in let more = length-append xs zs in absurd (omega arith)
back_off (x ∷ xs) (y ∷ ys) zs e =
    let first : x ≡ y = ap (λ l. slice_index l 0) e in
    ap (λ h. h ∷ xs) first ∙ ap (λ l. y ∷ l) (back_off xs ys zs (ap (drop 1) e))

-- what is behind more than a front is less than its end
too_short : (n : ℕ) (xs ys zs : List ℕ) → length xs < n → ys ++ zs ≡ drop n (xs ++ zs)
    → 0 < length zs → ⊥
too_short n xs ys zs past e some =
    let many = ap length e in
    grind (arith, common_steps, length-drop, length-append)

pub follows_refused :
    {E : Type 0} (X : Election E) (old : Machine E) (e : Event) (a : Answer) (new : Machine E)
    → FollowsRefuse X old e a new
follows_refused X old e a new = record {
  falls = λ n k rest rest' was now f. grind (arith, common_steps, slice_index);
  floor_falls = λ page next has has' falls f.
      let rises = f.floors page next has has' in omega arith;
  passed_falls = λ r at is falls f. let rises = f.passed r at is in omega arith;
  led_by_nothing = λ nothing f. nothing f.led.0 f.led.1;
  grows_unpublished = λ T led none other f. grind (arith, common_steps, append-nil);
  publishes_nothing = λ T g led some same f. nothing_joins T.log g
      (sym same.0 ∙ (f.stands T led).0 ∙ ap (λ o. length (T.log ++ words_of_frame o)) some);
  wraps = λ T place led flat low other f.
      grind (arith, length-append, slice_index, index-read, get_or_append_left);
  other_frame = λ T senders g k led some lawful lawful' apart low has f.
      let both = front_off (drop (floor_of new) T.log) (frame_words k) (frame_words g)
      (sym has ∙ (f.stands T led).1
      ∙ ap (λ o. drop (floor_of new) (T.log ++ words_of_frame o)) some
      ∙ drop-append-le (floor_of new) T.log (frame_words g) low) in
      apart (same_frame senders k g [] [] lawful' lawful (ap (λ w. w ++ []) both)).0;
  rewritten = λ T g log led some other has f.
      grind (arith, common_steps, drop, cases_lt, length, too_short, back_off, drop-append-le);
}

-- who holds a page holds one
held_so : {E : Type 0} (t u : ℕ) (page page' : Page) (stored stored' : ℕ)
    (published published' : Bool)
    → ◌≡◌ {A = Phase E} (phase.Holding t page stored published)
    (phase.Holding u page' stored' published')
    → (page ≡ page') × (published ≡ published')
held_so t u page page' stored stored' published published' e = (cc, cc)

pub pages_refused : {E : Type 0} (X : Election E) (m : Machine E) (T : Trails) → PagesRefuse X m T
pages_refused {E} X m T = record {
  home_while_held = λ page t home held p.
      let k = subst (IsPagedBy (stage_of m) _ _) home p.by.paged in let a = k.0 in omega arith;
  out_while_open = λ t home opened p.
      let k = subst (IsPagedBy (stage_of m) _ _) home p.by.paged in let a = k.1 in omega arith;
  other_tenure = λ page home apart p. apart (subst (IsPagedBy (stage_of m) _ _) home p.by.paged).0;
  other_words = λ page home apart p. apart (subst (IsPagedBy (stage_of m) _ _) home p.by.paged).1;
  floor_past_length = λ page home past p.
      let k = subst (IsPagedBy (stage_of m) _ _) home p.by.paged in
      let words_are = k.1 in
      let low = (p.by.knows page home).floor.low in omega arith;
  floor_past_receivers = λ page has past p. let low = p.by.floors page has in omega arith;
  other_items = λ page order owners s home spelled few apart p.
      let one =
      spells_one m.layout.senders T.log order p.order owners p.owners spelled p.by.spelled in
      apart ((p.by.knows page home).next s few
      ∙ ap (λ (o : Order). base_of m s + length (of_sender s o)) (sym one.0));
  other_leavers = λ page order owners s home spelled few apart p.
      let one =
      spells_one m.layout.senders T.log order p.order owners p.owners spelled p.by.spelled in
      apart
      ((p.by.knows page home).left s few ∙ ap (λ (o : Order). Some (has_gone s o)) (sym one.0));
  out_other_leavers = λ s v t page stored q order owners away at holds spelled few apart p.
      let w = p.by.out away in
      let held : held_of v.core.phase ≡ Some t = ap held_of holds in
      let stage = p.by.holds s v t at held in
      let opened = w.stage in
      let same : w.tenure ≡ t = omega arith in
      let owner_is : w.owner ≡ s =
      same_Some _ _ (sym w.last ∙ ap (slice_get p.by.takers.all) same ∙ p.by.owns s v t at held) in
      let sender_is : w.sender ≡ v =
      same_Some _ _ (sym w.there ∙ ap (slice_get m.senders) owner_is ∙ at) in
      let has = held_so t w.tenure page w.page stored w.stored false w.published
      (sym holds ∙ ap (λ (u : Sender E). u.core.phase) (sym sender_is) ∙ w.has) in
      let front_is : w.front ≡ T.log = sym (append-nil w.front)
      ∙ ap (λ b. w.front ++ cond b (frame_words (frame_of w.sender.core.queue w.tenure)) []) has.1
      ∙ sym w.behind in
      let known = subst (λ f. Spells m.layout.senders f w.knows.order w.knows.owners) front_is
      w.knows.spelled in
      let one =
      spells_one m.layout.senders T.log w.knows.order order w.knows.owners owners known spelled in
      apart (ap (λ (g : Page). slice_get g.left q) has.0 ∙ w.knows.knows.left q few
      ∙ ap (λ (o : Order). Some (has_gone q o)) one.0);
  counts_untaken = λ page home one idle p.
      grind (arith, common_steps, length, one_there, nothing_there, slice_get);
  two_holders = λ s q v w t u at there held holds apart p. grind (arith, same_Some, slice_get);
  holds_untaken = λ s v t at held untaken p.
      let took = p.by.takers.takers.took t s (p.by.owns s v t at held) in untaken took.0 took.1;
  out_of_hands = λ away nobody p.
      let w = p.by.out away in nobody w.owner w.sender w.tenure w.there (ap held_of w.has);
}

-- who has left by the order that the log spells has left in it
left_by_it : {E : Type 0} (m : Machine E) (log : List ℕ) (s : ℕ) (order : Order)
    (owners : List (ℕ × SenderNo))
    → Spells m.layout.senders log order owners → has_gone s order ≡ true → HasLeftIt m log s
left_by_it m log s order owners spelled gone = grind (arith, common_steps)

never_at_rest : {E : Type 0} (t : ℕ) (ph : Phase E) → HasPublished t ph → ph ≡ phase.Resting → ⊥
never_at_rest t ph (Published page stored) e = cc
never_at_rest t ph HandsOnSent e = cc

rows_same : (r rows : ℕ) → ◌≡◌ {A = Option ℕ} (Some r) (Some rows) → r ≡ rows
rows_same r rows e = same_Some r rows e

-- memories of what is not so
pub memories_refused : {E : Type 0} (X : Election E) (m : Machine E) (T : Trails)
    → MemoriesRefuse X m T
memories_refused X m T = record {
  closed_with_nothing =
      λ s v at closed empty p. none_closed m T.log s empty ((p.by.remembers s v at).closed closed);
  closed_too_soon = λ s v order owners at closed spelled goes stays p.
      not_closed m T.log s order owners spelled goes stays ((p.by.remembers s v at).closed closed);
  open_after_leaving = λ s v order owners at open_is spelled gone p.
      elim ((p.by.remembers s v at).gone (left_by_it m T.log s order owners spelled gone)) [
        | inl closed ↦ (let bad : batch.Open ≡ batch.Closed = sym open_is ∙ closed in cc)
        | inr now ↦ cc
      ];
  leaving_after_leaving = λ s v order owners at leaving ph spelled gone p.
      elim ((p.by.remembers s v at).gone (left_by_it m T.log s order owners spelled gone)) [
        | inl closed ↦
            (let bad : batch.Marking mark.Leave ≡ batch.Closed = sym leaving ∙ closed in cc)
        | inr now ↦ never_at_rest now.tenure v.core.phase now.published ph
      ];
  open_after_asking = λ s v asked at open_is did p. elim ((p.by.remembers s v at).asked asked did) [
    | inl marking ↦ (let bad : batch.Open ≡ batch.Marking marking.0 = sym open_is ∙ marking.1 in cc)
    | inr closed ↦ (let bad : batch.Open ≡ batch.Closed = sym open_is ∙ closed in cc)
  ];
  other_number = λ s v at other p. other (p.by.remembers s v at).is.me;
  other_layout = λ s v at other p. other (p.by.remembers s v at).is.layout;
  other_mark = λ s v at other p. other (p.by.remembers s v at).is.marks;
  other_rows = λ s v r rows at used again other p.
      other (rows_same r.rows rows (ap rows_in (sym again) ∙ (p.by.remembers s v at).rows ∙ used));
  first_as_one = λ s v at first idle p.
      let n = (p.by.remembers s v at).numbers in
      let none : length (puts (T.actions s)) ≡ 0 = ap (λ l. length (puts l)) idle in omega arith;
  past_at_first = λ s v at one stage idle p. elim ((p.by.remembers s v at).past 0 (omega arith)) [
    | inl ended ↦ omega arith
    | inr lost ↦ cc
  ];
  begins_ahead =
      λ s v t at begun stage p. let low = (p.by.remembers s v at).begun t begun in omega arith;
  runs_ahead = λ s v t e at ph stage p.
      let low = (p.by.remembers s v at).entered t (ap tenure_of ph) in omega arith;
  busy_at_rest = λ s v at rests busy p. true≢false (sym busy ∙ (p.by.remembers s v at).idle rests);
  idle_in_a_tenure =
      λ s v t at in_it idle p. true≢false (sym ((p.by.remembers s v at).busy t in_it) ∙ idle);
  puts_once_begun = λ s len v t at begun can p.
      true≢false (sym ((p.by.remembers s v at).seen_busy t begun) ∙ can.idle);
  closes_once_begun = λ s v t at begun can p.
      true≢false (sym ((p.by.remembers s v at).seen_busy t begun) ∙ can.idle);
  busy_with_none_begun =
      λ s len v at none busy p. true≢false (sym busy.1 ∙ (p.by.remembers s v at).seen_idle none);
  busy_to_close =
      λ s v at none busy p. true≢false (sym busy.1 ∙ (p.by.remembers s v at).seen_idle none);
}

-- words of the log stored below the length, and words cleared of rows in which somebody stands
-- no two receivers have one passed place
one_place : (x : Layout) (o : Option ℕ) (r q at : ℕ) → passed_by x o r ≡ Some at
    → passed_by x o q ≡ Some at → r ≡ q
one_place x o r q at one two = grind (arith, common_steps, nat_lt, same_Some)

pub words_refused : {E : Type 0} (X : Election E) (m : Machine E) (T : Trails) → WordsRefuse X m T
words_refused X m T = record {
  below_the_length = λ s v t page stored word o at i next flat below p.
      grind (arith, floor_first, slice_index, mod-eq_of_lt);
  over_a_word = λ s v t page stored word place o at i next low below here p.
      grind (arith, one_of_row, slice_index);
  loads_another_place = λ s v t word r p o at i next here other k.
      let l = k.by.loads s v t word p at i in
      let same = ap register (same_Some _ _ (sym l.is ∙ next)) in
      other (one_place m.layout m.reuse r (length (places_found (T.actions s))) (register o) here
      (l.place ∙ ap Some same));
  clears_under_a_stander = λ rows p q t place word v s o used at i next stands low same k.
      (subst (ReusesSafely X m T) used k.by.reuse).spares p q t place word v s o at i next stands
      low same;
}

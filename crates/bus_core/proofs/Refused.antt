-- Each of the wrong answers is refused.
use Rattle.std.proofs.Common.{◌≡◌, ◌≢◌, inl, inr, ℕ, ◌+◌, ◌/◌, ◌<◌, ◌≤◌, List, [], length, Bool}
use Rattle.std.proofs.Common.{true, false, Option, Some, None, IfSome, IsSome, IsSomeAnd, arith}
use Rattle.std.proofs.Common.{refl, sym, ◌∙◌, ap, subst}
use Rattle.std.proofs.lemmas.Bool.{true≢false}
use Rattle.std.proofs.lemmas.Option.{same_Some}
use Rattle.bus_register.specs.declared.registers.SenderNo.{SenderNo}
use Rattle.bus_presence.specs.declared.pins.Pin.TheVariants.{Away, Announcing, Pinned, Unpinning}
use Rattle.bus_tenure.specs.Causes.{LooksForTenure}
use Rattle.bus_tenure.specs.Core.{Core, Election, Layout, frame_len, log_at, is_marking}
use Rattle.bus_tenure.specs.Core.{is_closing, is_leaving}
use Rattle.bus_tenure.specs.Situations.{IsIdle, Elects}
use Rattle.bus_tenure.specs.declared.pages.Page.{Page}
use Rattle.bus_tenure.specs.declared.phases.Phase.{Phase}
use Rattle.bus_tenure.specs.declared.phases.Phase.TheVariants.{Electing, Holding}
use Rattle.bus_tenure.proofs.Situated.{tells}
use Rattle.bus_core.specs.Reusing.Keeping.{held_of}
use Rattle.bus_core.specs.Reusing.Telling.{HasPublished, Published, HandsOnSent, LacksRoom}
use Rattle.bus_core.specs.Reusing.Telling.{FindsNoRoom, HandsOnFull, FindsEnd, Ended, HandsOnEnd}
use Rattle.bus_core.specs.Refused.{AnswersRefuse, RestsRefuse, PlacesRefuse}
use Rattle.bus_core.specs.Keeping.{IsAway}
use Rattle.bus_core.specs.Places.{IsInRow}
use Rattle.bus_ownerbits.proofs.ElectionSteps.{row_within}
use Rattle.bus_batch.specs.declared.batches.Phase.{Phase as BatchPhase}
use Rattle.bus_batch.specs.declared.batches.Phase.TheVariants as batch
use Rattle.bus_batch.specs.declared.messages.Mark.{Mark}
use Rattle.bus_batch.specs.declared.messages.Mark.TheVariants as mark
use Rattle.std.specs.Prelude.{◌⊎◌}
use Rattle.bus_core.specs.Senders.{Sender, Does, situation}
use Rattle.bus_core.specs.Table.{line, line_now}
use Rattle.bus_core.specs.Telling.{HasBegunNone, LosesElection, PartsAsLoser, LosesBy, BeginsBy}
use Rattle.bus_core.specs.Telling.{RestTells, RestIsTold, IsInvalidated}
use Rattle.bus_tenure.specs.declared.turns.Turn.{Turn}
use Rattle.bus_tenure.specs.declared.turns.Turn.TheVariants as turn
use Rattle.bus_core.specs.declared.reuses.Reuse.{Reuse}
use Rattle.bus_core.proofs.Situated.{own_is}
use Rattle.bus_core.proofs.Told.{same_step}

-- one phase has one page
pub same_page : {E : Type 0} (t u : ℕ) (p q : Page) (a b : ℕ) (c d : Bool)
    → ◌≡◌ {A = Phase E} (Holding t p a c) (Holding u q b d) → (t ≡ u)
    × ((p ≡ q) × (c ≡ d))
same_page t u p q a b c d e = (cc, (cc, cc))

-- and one election
pub same_election : {E : Type 0} (t u : ℕ) (e f : E)
    → ◌≡◌ {A = Phase E} (Electing t e) (Electing u f) → (t ≡ u) × (e ≡ f)
same_election t u e f i = (cc, cc)

-- one pin is to one tenure
pub same_tenure : (t u : ℕ) → Announcing t ≡ Announcing u → t ≡ u
same_tenure t u e = cc

-- ---- a page that is held
published_is : {E : Type 0} (ph : Phase E) (t u : ℕ) (page : Page) (stored : ℕ) (published : Bool)
    → HasPublished u ph
    → ph ≡ Holding t page stored published → (t ≡ u) × (published ≡ true)
published_is ph t u page stored published (Published p n) e =
    let s = same_page u t p page n stored true published e in (sym s.0, sym s.1.1)
published_is ph t u page stored published HandsOnSent e = absurd cc

-- who lacks room has not stored the length
room_is :
    {E : Type 0} (c : Core E) (ph : Phase E) (t u : ℕ) (page : Page) (stored : ℕ) (published : Bool)
    → LacksRoom c u ph
    → ph ≡ Holding t page stored published
    → (published ≡ false) × (c.layout.capacity + page.floor < page.words + frame_len c)
room_is c ph t u page stored published (FindsNoRoom p n more) e =
    let s = same_page u t p page n stored false published e in
    (sym s.1.1, subst (λ q. c.layout.capacity + q.floor < q.words + frame_len c) s.1.0 more)
room_is c ph t u page stored published HandsOnFull e = absurd cc

-- who finds the end has a page that says so
end_is : {E : Type 0} (ph : Phase E) (t u : ℕ) (page : Page) (stored : ℕ) (published : Bool)
    → FindsEnd u ph
    → ph ≡ Holding t page stored published → page.ended ≡ true
end_is ph t u page stored published (Ended p n end) e =
    let s = same_page u t p page n stored false published e in subst (λ q. q.ended ≡ true) s.1.0 end
end_is ph t u page stored published HandsOnEnd e = absurd cc

-- who has published holds a page
published_held : {E : Type 0} (ph : Phase E) (t : ℕ) → HasPublished t ph → held_of ph ≡ Some t
published_held ph t (Published p n) = refl
published_held ph t HandsOnSent = refl

-- and so does who lacks room
room_held : {E : Type 0} (c : Core E) (ph : Phase E) (t : ℕ) → LacksRoom c t ph
    → held_of ph ≡ Some t
room_held c ph t (FindsNoRoom p n more) = refl
room_held c ph t HandsOnFull = refl

-- or has found the end
end_held : {E : Type 0} (ph : Phase E) (t : ℕ) → FindsEnd t ph → held_of ph ≡ Some t
end_held ph t (Ended p n end) = refl
end_held ph t HandsOnEnd = refl

-- ---- of a fact that only one kind of rows has
some_is : (reuse : Option Reuse) (r : Reuse) (Q : Reuse → Type 0) → reuse ≡ Some r
    → IsSomeAnd reuse Q → Q r
some_is reuse r Q e w = let h : IsSomeAnd (Some r) Q = subst (λ y. IsSomeAnd y Q) e w in h

-- of rows that are used again, with a row for each tenure
pub none_not : (reuse : Option Reuse) (Q : Reuse → Type 0) → reuse ≡ None → ¬ IsSomeAnd reuse Q
none_not reuse Q e w = let h : IsSomeAnd None Q = subst (λ y. IsSomeAnd y Q) e w in h

-- of whatever rows those are
of_some : (reuse : Option Reuse) (A : Type 0) (Q : Reuse → Type 0) → ((r : Reuse) → Q r → A)
    → IsSomeAnd reuse Q → A
of_some None A Q f w = absurd w
of_some (Some r) A Q f w = f r w

-- one tenure has begun
begun_once : {E : Type 0} (c : Core E) (reuse : Option Reuse) (t u : ℕ) → BeginsBy c reuse t
    → BeginsBy c reuse u → t ≡ u
begun_once c None t u e f = (same_election t u e.0 f.0 (sym e.1 ∙ f.1)).0
begun_once c (Some r) t u e f = same_tenure t u (sym e ∙ f)

-- who has nothing has not something
pub sends_nothing : (ms : List (List ℕ)) (p : BatchPhase) → ms ≡ [] → p ≡ batch.Open
    → (0 < length ms) ⊎ ((m : Mark) × (p ≡ batch.Marking m)) → ⊥
sends_nothing ms p nothing opened (inl some) = let none = ap length nothing in omega arith
sends_nothing ms p nothing opened (inr marked) = let bad = sym opened ∙ marked.1 in cc

-- ---- a mark that waits
-- an end mark is one
closes_marking : (p : BatchPhase) → is_closing p ≡ true → is_marking p ≡ true
closes_marking batch.Open e = e
closes_marking (batch.Marking m) e = refl
closes_marking batch.Closed e = e

-- a leave mark is one
leaves_marking : (p : BatchPhase) → is_leaving p ≡ true → is_marking p ≡ true
leaves_marking batch.Open e = e
leaves_marking (batch.Marking m) e = refl
leaves_marking batch.Closed e = e

-- none is both
leaves_open : (p : BatchPhase) → is_closing p ≡ true → is_leaving p ≡ true → ⊥
leaves_open batch.Open e f = absurd cc
leaves_open (batch.Marking mark.End) e f = absurd cc
leaves_open (batch.Marking mark.Leave) e f = absurd cc
leaves_open batch.Closed e f = absurd cc

-- who has published has found no end before
unfound : {E : Type 0} (ph : Phase E) (t u : ℕ) (page : Page) (stored : ℕ) → FindsEnd u ph
    → ph ≡ Holding t page stored true → ⊥
unfound ph t u page stored (Ended p n end) e =
    let s = same_page u t p page n stored false true e in true≢false (sym s.1.1)
unfound ph t u page stored HandsOnEnd e = cc

-- who pins none has a pin of none
away_by : (reuse : Option Reuse) (r : Reuse) → reuse ≡ Some r → IsAway reuse → r.pin ≡ Away
away_by reuse r some away = let h : IsAway (Some r) = subst IsAway some away in h

-- who pins none has not come too late for one
away_valid : (reuse : Option Reuse) → IsAway reuse → ¬ IsSomeAnd reuse (λ r. IsInvalidated r)
away_valid None away w = w
away_valid (Some r) away w = let bad = sym away ∙ w.is in cc

module _ {E : Type 0} (X : Election E) (v : Sender E) (got word : ℕ) where
  -- who goes through an election looks at no stage for the first time
  looks_not : (u : ℕ) (e : E) → v.core.phase ≡ Electing u e → LooksForTenure v.core → ⊥
  looks_not u e runs l = let bad = sym l.rests ∙ runs in cc

  -- with a row for each tenure it loses with its election
  lost_election : (t : ℕ) (o : SenderNo) → v.reuse ≡ None → LosesBy X v got word t o v.reuse
      → LosesElection X v got word t o
  lost_election t o e w =
      let h : LosesBy X v got word t o None = subst (LosesBy X v got word t o) e w in h

  -- with rows that are used again it parts from what it lost
  parts_as : (t : ℕ) (o : SenderNo) (r : Reuse) → v.reuse ≡ Some r
      → LosesBy X v got word t o v.reuse → PartsAsLoser v.core.me r t o
  parts_as t o r e w =
      let h : LosesBy X v got word t o (Some r) = subst (LosesBy X v got word t o) e w in h

  -- with both kinds of rows it loses to another sender
  lost_other : (t : ℕ) (o : SenderNo) (reuse : Option Reuse) → LosesBy X v got word t o reuse
      → o.0 ≢ v.core.me
  lost_other t o None w = w.other
  lost_other t o (Some r) w = w.other

  -- with rows that are used again it stands in the tenure
  stands_in : (t : ℕ) (r : Reuse) → v.reuse ≡ Some r → IfSome v.reuse (λ r. r.pin ≡ Pinned t)
      → r.pin ≡ Pinned t
  stands_in t r e w =
      let h : IfSome (Some r) (λ r. r.pin ≡ Pinned t) =
      subst (λ y. IfSome y (λ r. r.pin ≡ Pinned t)) e w in
      h

  -- who has nothing to do does not go on
  idle_stays : situation X v ≡ Does IsIdle → ¬ RestIsTold X v turn.Going
  idle_stays idle (inr w) = w
  idle_stays idle (inl (told, inl k)) =
      absurd (let bad : false ≡ true = subst (λ z. IsSome (line X v z).kind) idle k in cc)
  idle_stays idle (inl (told, inr (inl h))) =
      let bad = sym (tells X v.core IsIdle (own_is X v IsIdle idle)) ∙ h.is in cc
  idle_stays idle (inl (told, inr (inr a))) =
      let bad = sym (tells X v.core IsIdle (own_is X v IsIdle idle)) ∙ a.is in cc

  -- all of them
  pub refused : AnswersRefuse X v got word
  refused = record {
    idle_with_a_step = λ w. w;
    delivered_unpublished =
        λ t first last page stored held w.
        true≢false (sym (published_is v.core.phase t t page stored false w.published held).1);
    delivered_elsewhere =
        λ t u first last page stored published held apart w.
        apart (published_is v.core.phase t u page stored published w.published held).0;
    delivered_from_elsewhere = λ t first last apart w. apart w.first_is;
    delivered_up_to_elsewhere = λ t first last other w. other w.last_is;
    delivered_the_end =
        λ t first last ends w. true≢false (sym (closes_marking v.core.queue.phase ends) ∙ w.sends);
    delivered_the_leave = λ t first last leaves w.
        true≢false (sym (leaves_marking v.core.queue.phase leaves) ∙ w.sends);
    left_with_messages =
        λ t sends w. true≢false (sym (leaves_marking v.core.queue.phase w.leaves) ∙ sends);
    left_with_the_end = λ t ends w. leaves_open v.core.queue.phase ends w.leaves;
    left_unpublished = λ t page stored held w.
        true≢false (sym (published_is v.core.phase t t page stored false w.published held).1);
    left_elsewhere = λ t u page stored published held apart w.
        apart (published_is v.core.phase t u page stored published w.published held).0;
    full_with_room = λ t page stored published held room w.
        let l = (room_is v.core v.core.phase t w.tenure page stored published w.lacks held).1 in
        omega arith;
    full_published = λ t page stored held w.
        true≢false (room_is v.core v.core.phase t w.tenure page stored true w.lacks held).0;
    closed_too_soon = λ t page stored published held goes stays w. elim w.why [
      | inl a ↦ true≢false (sym a.0 ∙ stays)
      | inr a ↦
          true≢false (sym (end_is v.core.phase t w.tenure page stored published a held) ∙ goes)
    ];
    closed_unpublished = λ t page stored held goes w. elim w.why [
      | inl a ↦ true≢false (sym (published_is v.core.phase t w.tenure page stored false a.1 held).1)
      | inr a ↦ true≢false (sym (end_is v.core.phase t w.tenure page stored false a held) ∙ goes)
    ];
    closed_while_leaving = λ t page stored held leaves w. elim w.why [
      | inl a ↦ leaves_open v.core.queue.phase a.0 leaves
      | inr a ↦ unfound v.core.phase t w.tenure page stored a held
    ];
    delivered_without_a_page =
        λ t first last none w. let bad = sym none ∙ published_held v.core.phase t w.published in cc;
    left_without_a_page =
        λ t none w. let bad = sym none ∙ published_held v.core.phase t w.published in cc;
    full_without_a_page =
        λ none w. let bad = sym none ∙ room_held v.core v.core.phase w.tenure w.lacks in cc;
    closed_without_a_page = λ none w. elim w.why [
      | inl a ↦ (let bad = sym none ∙ published_held v.core.phase w.tenure a.1 in cc)
      | inr a ↦ (let bad = sym none ∙ end_held v.core.phase w.tenure a in cc)
    ];
    waits_with_nothing = λ away nothing opened w. elim w [
      | inl l ↦ sends_nothing _ _ nothing opened l.looks.looks.something
      | inr b ↦ away_valid v.reuse away b
    ];
    waits_before_an_open_tenure = λ t away here may w. elim w [
      | inl l ↦ elim l.vain [ inl odd ↦ omega arith | inr past ↦ omega arith ]
      | inr b ↦ away_valid v.reuse away b
    ];
    spent_while_held = λ t held w. let e = w.opened in omega arith;
    spent_with_a_page =
        λ t page stored published held w. let bad = sym w.looks.looks.rests ∙ held in cc;
    spent_too_soon = λ left w. let e = w.past in omega arith;
    lost_to_itself = λ t w. lost_other t record { 0 = v.core.me } v.reuse w refl;
    lost_undecided = λ t u o e none here undecided w.
        let l = lost_election t o none w in
        let same = same_step u t e l.election (sym here ∙ l.elects) in
        let bad = sym undecided ∙ ap (λ y. X.owner (X.fed y got word)) same ∙ l.chosen in cc;
    lost_at_rest = λ t o none rests w.
        let l = lost_election t o none w in
        let bad =
        sym rests
        ∙ (tells X v.core (Elects t l.election) (own_is X v (Elects t l.election) l.elects)).0 in
        cc;
    lost_to_another =
        λ t o r some none w. let l = parts_as t o r some w in let bad = sym none ∙ l.lost in cc;
    lost_to_one_not_remembered = λ t o p r some lost other w.
        let l = parts_as t o r some w in other (same_Some p o (sym lost ∙ l.lost));
    lost_away =
        λ t o r some away w. let l = parts_as t o r some w in let bad = sym away ∙ l.parts in cc;
    own_of_another = λ t u o e runs owned other w.
        let same = (same_election u t e w.election (sym runs ∙ w.elects)).1 in
        other (same_Some o v.core.me (sym owned ∙ ap X.owner same ∙ w.chosen));
    own_elsewhere =
        λ t u e runs apart w. apart (sym (same_election u t e w.election (sym runs ∙ w.elects)).0);
    own_away = λ t r some away w. let bad = sym away ∙ stands_in t r some w.pinned in cc;
    waits_apart = λ u e none runs w. elim w [
      | inl l ↦ looks_not u e runs l.looks.looks
      | inr b ↦ none_not v.reuse _ none b
    ];
    waits_pinned = λ t u e r some at runs w. elim w [
      | inl l ↦ looks_not u e runs l.looks.looks
      | inr b ↦ (let h = some_is v.reuse r _ some b in let bad = sym at ∙ h.is in cc)
    ];
    behind_apart = λ t p none w. none_not v.reuse _ none w;
    behind_unnamed = λ t p apart w. of_some v.reuse ⊥ _ (λ r b. apart b.found) w;
    behind_without_a_load = λ t p apart w. of_some v.reuse ⊥ _ (λ r b. apart b.loads) w;
    behind_without_a_page =
        λ t p none w. of_some v.reuse ⊥ _ (λ r b. let bad = sym none ∙ b.held in cc) w;
    loses_silently = λ t o loses w. w.loses t o loses;
    forgets_its_loss = λ t r some parts rests w.
        let bad =
        sym (ap held_of rests)
        ∙ w.holds t (subst (λ y. IsSomeAnd y (λ r. r.pin ≡ Unpinning t)) (sym some) parts) in
        cc;
    invalidated_silently =
        λ t r some invalidated w. w.invalidated (subst (λ y. IsSomeAnd y (λ r. IsInvalidated r))
        (sym some) record { tenure = t; is = invalidated });
    takes_silently = λ t takes w. w.takes t takes;
    gives_silently = λ t gives w. w.gives t gives;
    waits_silently = λ vain w. w.waits vain;
    spent_silently = λ past w. w.spent past;
    behind_silently = λ t p behind w. w.behind t p behind;
    goes_on_idly = λ idle w. idle_stays idle w;
    begins_elsewhere = λ t looks begins apart w.
        let after = (line_now X v).fed got word in
        apart (begun_once after.core after.reuse t (got / 2) begins (w.begins looks));
    enters_on_another_stage = λ t u looks runs apart w. apart (w.enters_only t u looks runs).1;
    enters_elsewhere = λ t u looks runs apart w. apart (w.enters_only t u looks runs).0;
    enters_none = λ t looks here stays w. stays (w.enters t looks here);
  }

-- who has nothing to do has begun no tenure
has_begun_none : {E : Type 0} (v : Sender E) (a : Turn) → RestTells v a → HasBegunNone v
has_begun_none v turn.Idle w = w.none
has_begun_none v turn.Closed w = w.none
has_begun_none v turn.Spent w = w.none
has_begun_none v a w = absurd w

-- where no step is due
pub rests_refused : {E : Type 0} (v : Sender E) → RestsRefuse v
rests_refused v = record {
  rests_in_an_election = λ a t e runs w. let bad = sym (has_begun_none v a w).rests ∙ runs in cc;
  rests_with_a_page =
      λ a t held w. let bad = sym (ap held_of (has_begun_none v a w).rests) ∙ held in cc;
  rests_while_it_pins =
      λ a r some pins w. pins (away_by v.reuse r some (has_begun_none v a w).away);
  idle_with_a_message = λ m rest some w. let bad = sym w.nothing ∙ some in cc;
  idle_with_a_mark = λ m marked w. let bad = sym w.is_open ∙ marked in cc;
  idle_once_closed = λ closed w. let bad = sym w.is_open ∙ closed in cc;
  closed_with_a_mark = λ m marked w. let bad = sym w.closed ∙ marked in cc;
  closed_while_open = λ opened w. let bad = sym w.closed ∙ opened in cc;
  spent_with_a_tenure_left = λ left w. let e = w.past in omega arith;
  spent_with_nothing = λ nothing opened w. sends_nothing _ _ nothing opened w.something;
}

-- with a row for each tenure no word of a row of the bus stands in the log
off_the_log : (x : Layout) (t r : ℕ) → t < x.rows → IsInRow x None t r → log_at x ≤ r → ⊥
off_the_log x t r below w from =
    let low = w.below in
    let is = w.is in
    let m = row_within t x.rows x.width below in omega arith

-- where no step lies
pub places_refused : {E : Type 0} (v : Sender E) → PlacesRefuse v
places_refused v = record {
  election_on_the_log = λ t r e none from w.
      off_the_log v.core.layout t r w.0 (subst (λ y. IsInRow v.core.layout y t r) none w.2) from;
  idle_on_a_word = λ r w. w;
  closed_on_a_word = λ r w. w;
  spent_on_a_word = λ r w. w;
}

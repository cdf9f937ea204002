-- Each of these is no cause.
use Rattle.std.proofs.Common.{◌≡◌, ◌≢◌, inl, inr, ℕ, ◌+◌, ◌<◌, ◌≤◌, Bool, true, false, Some, None}
use Rattle.std.proofs.Common.{arith, refl, sym, ◌∙◌, ap, subst}
use Rattle.std.proofs.lemmas.Bool.{true≢false}
use Rattle.std.proofs.lemmas.Option.{same_Some}
use Rattle.bus_register.specs.declared.kinds.Kind.{Kind}
use Rattle.bus_register.specs.declared.kinds.Kind.TheVariants as kind
use Rattle.bus_register.specs.Protocol.{Protocol}
use Rattle.bus_adoptcommit.specs.declared.verdicts.Verdict.{Verdict}
use Rattle.bus_adoptcommit.specs.Kinds.{IsOfRatifier}
use Rattle.bus_presence.specs.Reclaimers.{Reclaiming}
use Rattle.bus_presence.specs.Reclamation.{IsReady, row_of}
use Rattle.bus_presence.specs.declared.pins.Pin.TheVariants.{Away, Pinned, Validating, Unpinning}
use Rattle.bus_binconsensus.specs.Decisions.{decisions}
use Rattle.bus_binconsensus.specs.Objects.{Decider}
use Rattle.bus_ownerbits.specs.declared.stages.Stage.TheVariants.{Search}
use Rattle.bus_ownerbits.specs.Election.{fits_bits, owner_at}
use Rattle.bus_ownerbits.specs.Sizes.{bits_of}
use Rattle.bus_coinconc.specs.Conciliator.{ConciliatorState}
use Rattle.bus_coinconc.specs.ConciliatorKinds.{IsOfConciliator}
use Rattle.bus_coinconc.specs.declared.conciliators.Stage.{Stage}
use Rattle.bus_coinconc.specs.declared.conciliators.Stage.TheVariants.{SetMark, ReadOtherMark}
use Rattle.bus_coinconc.specs.declared.conciliators.Stage.TheVariants.{AskCoin}
use Rattle.bus_tenure.specs.Causes.{IsDeciding, IsInRatifier, IsInConciliator, IsAtFallback}
use Rattle.bus_tenure.specs.Causes.{SearchesCandidate, HoldsFitting, LeavesPage}
use Rattle.bus_tenure.specs.Core.{Core, frame_len}
use Rattle.bus_tenure.specs.declared.pages.Page.{Page}
use Rattle.bus_tenure.specs.declared.phases.Phase.{Phase}
use Rattle.bus_tenure.specs.Elections.{Elector, elections}
use Rattle.bus_tenure.specs.declared.phases.Phase.TheVariants.{Electing, Holding}
use Rattle.bus_core.specs.Causes.{HasCause, StandsInside, StandsInRow, LeavesTenure, AsLoser}
use Rattle.bus_core.specs.Causes.{AsHolder, AsLate}
use Rattle.bus_core.specs.CausesRefuse.{IsOfElection, RefusesOwn, RefusesApart, RefusesAgain}
use Rattle.bus_core.specs.CausesRefuse.{RefusesCauses}
use Rattle.bus_core.specs.Keeping.{sender}
use Rattle.bus_core.specs.Reusing.Keeping.{held_of}
use Rattle.bus_core.specs.Reusing.Participants.{sizes_with}
use Rattle.bus_core.specs.Reusing.Turns.{Participant}
use Rattle.bus_core.specs.Senders.{Sender, participant_of}
use Rattle.bus_core.specs.declared.reuses.Reuse.{Reuse}
use Rattle.bus_core.proofs.Refused.{same_election, same_page, same_tenure, none_not, sends_nothing}

-- one pin has one tenure, where it stands
same_pinned : (t u : ℕ) → Pinned t ≡ Pinned u → t ≡ u
same_pinned t u i = cc

-- or is looked at again
same_validating : (t u : ℕ) → Validating t ≡ Validating u → t ≡ u
same_validating t u i = cc

-- or is parted from
same_unpinning : (t u : ℕ) → Unpinning t ≡ Unpinning u → t ≡ u
same_unpinning t u i = cc

-- ---- a page that is held
-- one phase has so many words stored
same_stored : {E : Type 0} (t u : ℕ) (p q : Page) (a b : ℕ) (c d : Bool)
    → ◌≡◌ {A = Phase E} (Holding t p a c) (Holding u q b d) → a ≡ b
same_stored t u p q a b c d e = cc

-- who would go on with its frame does not leave the page
unsent_stays : {E : Type 0} (c : Core E) (t : ℕ) (page : Page) (stored : ℕ)
    → c.phase ≡ Holding t page stored false → page.ended ≡ false
    → page.words + frame_len c ≤ c.layout.capacity + page.floor → LeavesPage c → ⊥
unsent_stays c t page stored at goes fits l =
    let same =
    same_page t l.tenure page l.page stored l.stored false l.published (sym at ∙ l.holds) in
    elim l.why [
      | inl sent ↦ true≢false (sym sent ∙ sym same.1.1)
      | inr y ↦ elim y [
        | inl ended ↦ true≢false (sym ended ∙ sym (ap (λ (p : Page). p.ended) same.1.0) ∙ goes)
        | inr full ↦
            (let more =
            subst (λ (p : Page). c.layout.capacity + p.floor < p.words + frame_len c) (sym same.1.0)
            full in
            omega arith)
      ]
    ]

-- whose frame does not fit has none to store
without_room : {E : Type 0} (c : Core E) (t : ℕ) (page : Page) (stored : ℕ)
    → c.phase ≡ Holding t page stored false
    → c.layout.capacity + page.floor < page.words + frame_len c → (n : ℕ) → HoldsFitting c n → ⊥
without_room c t page stored at full n w =
    let same = (same_page t w.tenure page w.page stored n false false (sym at ∙ w.holds)).1.0 in
    let fits =
    subst (λ (p : Page). p.words + frame_len c ≤ c.layout.capacity + p.floor) (sym same) w.room in
    omega arith

-- ---- an election
-- it is at one decision
same_decision : {S : Type 0} (P : Protocol S Bool Verdict) (c : Core (Elector S))
    (a b : Decider S ConciliatorState)
    → IsDeciding P c a → IsDeciding P c b → a ≡ b
same_decision P c a b x y =
    let f = x.elects in
    let g = y.elects in
    let p = x.proposes in
    let q = y.proposes in
    cc

-- it is at one stage of one conciliator
same_stage : {S : Type 0} (P : Protocol S Bool Verdict) (c : Core (Elector S)) (a b : Stage)
    → IsInConciliator P c a → IsInConciliator P c b
    → a ≡ b
same_stage P c a b x y =
    let f = x.deciding.elects in
    let g = y.deciding.elects in
    let p = x.deciding.proposes in
    let q = y.deciding.proposes in
    let m = x.here in
    let n = y.here in
    let s = x.stands in
    let t = y.stands in
    cc

-- it is in one ratifier, where it has begun or has not
not_both : {S : Type 0} (P : Protocol S Bool Verdict) (c : Core (Elector S)) → IsInRatifier P c true
    → IsInRatifier P c false → ⊥
not_both P c x y =
    let f = x.deciding.elects in
    let g = y.deciding.elects in
    let p = x.deciding.proposes in
    let q = y.deciding.proposes in
    let m = x.here in
    let n = y.here in
    let same : x.ratifier ≡ y.ratifier = cc in
    true≢false (sym x.stands ∙ ap P.has_begun same ∙ y.stands)

-- a step of a ratifier is one of who is in a ratifier
in_ratifier : {S : Type 0} (P : Protocol S Bool Verdict) (v : Sender (Elector S)) (k : Kind)
    → IsOfRatifier k → HasCause P v k
    → (begun : Bool) × IsInRatifier P v.core begun
in_ratifier P v k (inl i) w =
    let h : HasCause P v kind.WriteFirst = subst (HasCause P v) i w in (false, h.1)
in_ratifier P v k (inr (inl i)) w =
    let h : HasCause P v kind.ReadFirst = subst (HasCause P v) i w in (true, h.1)
in_ratifier P v k (inr (inr (inl i))) w =
    let h : HasCause P v kind.WriteSecond = subst (HasCause P v) i w in (true, h.1)
in_ratifier P v k (inr (inr (inr i))) w =
    let h : HasCause P v kind.ReadSecond = subst (HasCause P v) i w in (true, h.1)

-- and one of a conciliator, or of its coin, of who is in a conciliator
in_conciliator : {S : Type 0} (P : Protocol S Bool Verdict) (v : Sender (Elector S)) (k : Kind)
    → IsOfConciliator k → HasCause P v k
    → (stage : Stage) × IsInConciliator P v.core stage
in_conciliator P v k (inl i) w =
    let h : HasCause P v kind.SetMark = subst (HasCause P v) i w in (SetMark, h.1)
in_conciliator P v k (inr (inl i)) w =
    let h : HasCause P v kind.ReadOtherMark = subst (HasCause P v) i w in (ReadOtherMark, h.1)
in_conciliator P v k (inr (inr (inl i))) w =
    let h : HasCause P v kind.Vote = subst (HasCause P v) i w in (AskCoin h.1.coin, h.1.asks)
in_conciliator P v k (inr (inr (inr i))) w =
    let h : HasCause P v kind.ReadVotes = subst (HasCause P v) i w in (AskCoin h.1.coin, h.1.asks)

-- it is in one object
module _ {S : Type 0} (P : Protocol S Bool Verdict) (c : Core (Elector S)) where
  same_object : (a b : Decider S ConciliatorState) → IsDeciding P c a → IsDeciding P c b
      → a.object ≡ b.object
  same_object a b x y =
      ap (λ (d : Decider S ConciliatorState). d.object) (same_decision P c a b x y)

  ratifier_alone : (begun : Bool) (stage : Stage) → IsInRatifier P c begun
      → IsInConciliator P c stage → ⊥
  ratifier_alone begun stage x y =
      let bad = sym x.here ∙ same_object x.decision y.decision x.deciding y.deciding ∙ y.here in cc

  no_ratifier_last : (begun : Bool) → IsInRatifier P c begun → IsAtFallback P c → ⊥
  no_ratifier_last begun x y =
      let bad = sym x.here ∙ same_object x.decision y.decision x.deciding y.deciding ∙ y.here in cc

  no_conciliator_last : (stage : Stage) → IsInConciliator P c stage → IsAtFallback P c → ⊥
  no_conciliator_last stage x y =
      let bad = sym x.here ∙ same_object x.decision y.decision x.deciding y.deciding ∙ y.here in cc

-- it searches one number
same_searched : {S : Type 0} (c : Core (Elector S)) (t i : ℕ) (e : Elector S)
    → c.phase ≡ Electing t e → e.stage ≡ Search i
    → (w : SearchesCandidate c) → i ≡ w.number
same_searched c t i e runs at w =
    let f = w.elects in
    let g = w.searches in
    cc

-- once its election has an owner, it has a cause only for the step that takes the page
module _ {S : Type 0} (P : Protocol S Bool Verdict) (v : Sender (Elector S)) (t o : ℕ)
    (e : Elector S) (at : v.core.phase ≡ Electing t e)
    (owner : (elections P v.core.layout.rounds).output e ≡ Some o) where
  not_open : (u : ℕ) (f : Elector S) → v.core.phase ≡ Electing u f
      → (elections P v.core.layout.rounds).output f ≡ None → ⊥
  not_open u f runs open_still =
      let same = (same_election t u e f (sym at ∙ runs)).1 in
      let bad = sym owner ∙ ap (elections P v.core.layout.rounds).output same ∙ open_still in cc

  not_deciding : (d : Decider S ConciliatorState) → IsDeciding P v.core d → ⊥
  not_deciding d w = not_open w.tenure w.election w.elects w.unended

  done_once_elected : (k : Kind) → IsOfElection k → k ≢ kind.TakePage → HasCause P v k → ⊥
  done_once_elected kind.Announce i ne w = not_open w.1.tenure _ w.1.starts refl
  done_once_elected kind.WriteFirst i ne w = not_deciding w.1.decision w.1.deciding
  done_once_elected kind.ReadFirst i ne w = not_deciding w.1.decision w.1.deciding
  done_once_elected kind.WriteSecond i ne w = not_deciding w.1.decision w.1.deciding
  done_once_elected kind.ReadSecond i ne w = not_deciding w.1.decision w.1.deciding
  done_once_elected kind.SetMark i ne w = not_deciding w.1.decision w.1.deciding
  done_once_elected kind.ReadOtherMark i ne w = not_deciding w.1.decision w.1.deciding
  done_once_elected kind.Vote i ne w = not_deciding w.1.asks.decision w.1.asks.deciding
  done_once_elected kind.ReadVotes i ne w = not_deciding w.1.asks.decision w.1.asks.deciding
  done_once_elected kind.Fallback i ne w = not_deciding w.1.decision w.1.deciding
  done_once_elected kind.ReadAnnouncement i ne w =
      let open_still = ap (λ z. owner_at (decisions P) z w.1.election) w.1.searches in
      not_open w.1.tenure w.1.election w.1.elects open_still
  done_once_elected kind.TakePage i ne w = ne refl
  done_once_elected k i ne w = absurd i

-- ---- a presence
module _ {E : Type 0} (v : Participant E) where
  -- who leaves a tenure does not stand in it
  leaves_pinned : LeavesTenure v → (t : ℕ) → v.pin ≡ Pinned t → ⊥
  leaves_pinned (AsLoser u o q l r) t e = let bad = sym e ∙ q in cc
  leaves_pinned (AsHolder u q h) t e = let bad = sym e ∙ q in cc
  leaves_pinned (AsLate u q rests) t e = let bad = sym e ∙ q in cc

  -- and has one
  leaves_away : LeavesTenure v → v.pin ≡ Away → ⊥
  leaves_away (AsLoser u o q l r) e = let bad = sym e ∙ q in cc
  leaves_away (AsHolder u q h) e = let bad = sym e ∙ q in cc
  leaves_away (AsLate u q rests) e = let bad = sym e ∙ q in cc

  -- and has lost it, or taken its page
  leaves_undone : LeavesTenure v → (t : ℕ) → v.pin ≡ Unpinning t → v.lost ≡ None
      → held_of v.core.phase ≢ Some t → ⊥
  leaves_undone (AsLoser u o q l r) t e none other = let bad = sym none ∙ l in cc
  leaves_undone (AsHolder u q h) t e none other =
      other (h ∙ ap Some (same_unpinning u t (sym q ∙ e)))
  leaves_undone (AsLate u q rests) t e none other = let bad = sym e ∙ q in cc

module _ {S : Type 0} (P : Protocol S Bool Verdict) where
  -- what no sender has a cause for in its tenures
  own_refused : (v : Sender (Elector S)) → RefusesOwn P v
  own_refused v = record {
    looks_with_nothing = λ nothing opened w. sends_nothing _ _ nothing opened w.looks.something;
    looks_once_closed = λ closed w. w.looks.not_closed closed;
    looks_past_the_last = λ past w. let left = w.looks.tenure_left in omega arith;
    looks_in_an_election = λ t e runs w. let bad = sym w.looks.rests ∙ runs in cc;
    resting_takes = λ rests w. let x = w.1.elects in absurd cc;
    resting_stores = λ rests w. let x = w.1.holds.holds in absurd cc;
    resting_publishes = λ rests w. let x = w.1.holds.holds in absurd cc;
    resting_gives_back = λ rests w. elim w.0 [
      | inl l ↦ (let bad = sym rests ∙ l.holds in cc)
      | inr h ↦ (let bad = sym rests ∙ h.gives in cc)
    ];
    resting_falls_back = λ rests w. let x = w.1.deciding.elects in absurd cc;
    ended_stores = λ tenure page stored at ended w.
        let x = w.1.holds.holds in let y = w.1.holds.not_ended in absurd cc;
    ended_publishes = λ tenure page stored at ended w.
        let x = w.1.holds.holds in let y = w.1.holds.not_ended in absurd cc;
    stores_without_room = λ tenure page stored at full w.
        without_room v.core tenure page stored at full w.1.stored w.1.holds;
    publishes_without_room =
        λ tenure page stored at full w. without_room v.core tenure page stored at full _ w.1.holds;
    unstored_publishes = λ tenure page stored at left w.
        let same = same_stored tenure _ page _ stored _ false false (sym at ∙ w.1.holds.holds) in
        omega arith;
    stores_past_the_frame = λ tenure page stored at past w.
        let same = same_stored tenure _ page _ stored _ false false (sym at ∙ w.1.holds.holds) in
        let left = w.1.word_left in
        omega arith;
    publishes_again = λ tenure page stored at w.
        true≢false (same_page tenure w.1.holds.tenure page w.1.holds.page stored _ true false
        (sym at ∙ w.1.holds.holds)).1.1;
    unsent_gives_back = λ tenure page stored at goes fits w. elim w.0 [
      | inl l ↦ unsent_stays v.core tenure page stored at goes fits l
      | inr h ↦ (let bad = sym at ∙ h.gives in cc)
    ];
    announces_again = λ t e runs begun w.
        let same = (same_election t w.1.tenure e _ (sym runs ∙ w.1.starts)).1 in
        true≢false (sym begun ∙ ap (elections P v.core.layout.rounds).has_begun same);
    unbrought_reads_first = λ is w. not_both P v.core w.1 is;
    unbrought_writes_second = λ is w. not_both P v.core w.1 is;
    unbrought_reads_second = λ is w. not_both P v.core w.1 is;
    brings_again = λ is w. not_both P v.core is w.1;
    ratifies_in_a_conciliator = λ k stage of is w.
        let x = in_ratifier P v k of w in ratifier_alone P v.core x.0 stage x.1 is;
    conciles_in_a_ratifier = λ k begun of is w.
        let x = in_conciliator P v k of w in ratifier_alone P v.core begun x.0 is x.1;
    ratifies_at_the_fallback =
        λ k of is w. let x = in_ratifier P v k of w in no_ratifier_last P v.core x.0 x.1 is;
    conciles_at_the_fallback =
        λ k of is w. let x = in_conciliator P v k of w in no_conciliator_last P v.core x.0 x.1 is;
    unmarked_reads = λ is w. let x = same_stage P v.core _ _ is w.1 in absurd cc;
    marks_again = λ stage is other w. other (same_stage P v.core stage _ is w.1);
    reads_mark_again =
        λ coin is w. let x = same_stage P v.core (AskCoin coin) _ is w.1 in absurd cc;
    unasking_votes = λ stage is other w. other w.1.coin (same_stage P v.core stage _ is w.1.asks);
    unasking_counts = λ stage is other w. other w.1.coin (same_stage P v.core stage _ is w.1.asks);
    counting_votes = λ is w.
        let x = same_stage P v.core _ _ is.asks w.1.asks in
        let y = is.stands in
        let z = w.1.stands in
        absurd cc;
    unvoted_counts = λ is w.
        let x = same_stage P v.core _ _ is.asks w.1.asks in
        let y = is.stands in
        let z = w.1.stands in
        absurd cc;
    falls_back_too_soon = λ d is left w.
        let none =
        ap (λ (x : Decider S ConciliatorState). x.after)
        (same_decision P v.core d w.1.decision is w.1.deciding) ∙ w.1.last in
        omega arith;
    steps_once_elected = λ k i ne t o e at owner w. done_once_elected P v t o e at owner k i ne w;
    fitting_searches = λ t e runs fits w.
        let same = (same_election t w.1.tenure e w.1.election (sym runs ∙ w.1.elects)).1 in
        true≢false (sym fits ∙ ap (λ z. fits_bits z z.candidate) same ∙ w.1.unfit);
    searches_before_a_bit = λ t e runs all w.
        let same = (same_election t w.1.tenure e w.1.election (sym runs ∙ w.1.elects)).1 in
        let few = subst (λ z. z.left < bits_of v.core.layout.senders) (sym same) w.1.some_decided in
        omega arith;
    searches_after_the_last = λ t o e runs owner w.
        done_once_elected P v t o e runs owner kind.ReadAnnouncement tt (λ i. absurd cc) w;
    searches_with_none_left = λ t e runs none w.
        let same = (same_election t w.1.tenure e w.1.election (sym runs ∙ w.1.elects)).1 in
        let some = subst (λ z. 1 ≤ z.left) (sym same) w.1.some_left in
        omega arith;
    searches_beyond = λ t i e runs at beyond w.
        let same = same_searched v.core t i e runs at w.1 in
        let below = w.1.below in omega arith;
    takes_undecided = λ t e runs open_still w.
        let same = (same_election t w.1.tenure e w.1.election (sym runs ∙ w.1.elects)).1 in
        let bad = sym open_still ∙ ap (elections P v.core.layout.rounds).output same ∙ w.1.spells in
        cc;
    takes_what_it_lost = λ t o e runs spells other w.
        let same = (same_election t w.1.tenure e w.1.election (sym runs ∙ w.1.elects)).1 in
        other (same_Some _ _
        (sym spells ∙ ap (elections P v.core.layout.rounds).output same ∙ w.1.spells));
  }

  -- what none has a cause for with a row for each tenure
  apart_refused : (v : Sender (Elector S)) → RefusesApart P v
  apart_refused v = record {
    enters = λ none w. none_not v.reuse _ none w;
    looks_again = λ none w. none_not v.reuse _ none w;
    withdraws = λ none w. none_not v.reuse _ none w;
    asks = λ none w. none_not v.reuse _ none w;
    clears = λ none w. none_not v.reuse _ none w;
    reads_passed = λ none w. none_not v.reuse _ none w;
  }

  -- a step of an election is one of who stands in its tenure
  stands : (v : Sender (Elector S)) (k : Kind) → IsOfElection k → HasCause P v k → StandsInside v
  stands v kind.Announce i w = w.0
  stands v kind.WriteFirst i w = w.0
  stands v kind.ReadFirst i w = w.0
  stands v kind.WriteSecond i w = w.0
  stands v kind.ReadSecond i w = w.0
  stands v kind.SetMark i w = w.0
  stands v kind.ReadOtherMark i w = w.0
  stands v kind.Vote i w = w.0
  stands v kind.ReadVotes i w = w.0
  stands v kind.Fallback i w = w.0
  stands v kind.ReadAnnouncement i w = w.0
  stands v kind.TakePage i w = w.0
  stands v k i w = absurd i

  -- where rows are used again, on the row of that tenure
  stands_again : (c : Core (Elector S)) (r : Reuse) (k : Kind) → IsOfElection k
      → HasCause P (sender c (Some r)) k
      → StandsInRow (participant_of c r)
  stands_again c r k i w = stands (sender c (Some r)) k i w

  -- what none has a cause for with rows that are used again
  again_refused : (c : Core (Elector S)) (r : Reuse) → RefusesAgain P (sender c (Some r)) r
  again_refused c r =
      let x = sizes_with c.layout r.rows in
      record {
        elects_away = λ k i e w. let s = stands_again c r k i w in let bad = sym e ∙ s.pin in cc;
        elects_unseen =
            λ k t i e w. let s = stands_again c r k i w in let bad = sym e ∙ s.pin in cc;
        elects_too_soon =
            λ k t i e w. let s = stands_again c r k i w in let bad = sym e ∙ s.pin in cc;
        elects_elsewhere = λ k t u e i at runs other w.
            let s = stands_again c r k i w in
            other (same_pinned t s.tenure (sym at ∙ s.pin)
            ∙ (same_election s.tenure u s.election e (sym s.elects ∙ runs)).0);
        elects_while_unpinning =
            λ k t i e w. let s = stands_again c r k i w in let bad = sym e ∙ s.pin in cc;
        elects_invalidated =
            λ k t i e w. let s = stands_again c r k i w in let bad = sym e ∙ s.pin in cc;
        enters_the_past = λ t e past w.
            let same = same_tenure t w.tenure (sym e ∙ w.pin) in
            let may = w.may.least in omega arith;
        looks_again_at_the_past = λ t e past w.
            let same = same_validating t w.tenure (sym e ∙ w.pin) in
            let may = w.may.least in omega arith;
        enters_with_nothing =
            λ nothing opened w. sends_nothing _ _ nothing opened w.may.looks.something;
        looks_again_with_nothing =
            λ nothing opened w. sends_nothing _ _ nothing opened w.may.looks.something;
        withdraws_away = λ e w. leaves_away (participant_of c r) w e;
        withdraws_pinned = λ t e w. leaves_pinned (participant_of c r) w t e;
        withdraws_undone = λ t e none other w. leaves_undone (participant_of c r) w t e none other;
        asks_at_rest = λ rests w. let bad = sym (ap held_of rests) ∙ w.makes.held in cc;
        asks_past_all = λ s at passed w.
            let same = same_Some _ _ (sym at ∙ w.makes.reclaims) in
            let left = subst (λ (r : Reclaiming). r.scanned < r.senders) (sym same) w.sender_left in
            omega arith;
        clears_before_it_scanned = λ s at left w.
            let same = same_Some _ _ (sym at ∙ w.makes.reclaims) in
            let scanned =
            subst (λ (r : Reclaiming). r.senders ≤ r.scanned) (sym same) w.clearing.passed in
            omega arith;
        clears_elsewhere = λ s t at held other w.
            let row = ap (λ (r : Reclaiming). r.row) (same_Some _ _ (sym at ∙ w.makes.reclaims)) in
            let same = same_Some w.makes.tenure t (sym w.makes.held ∙ held) in
            other (row ∙ w.makes.after.row ∙ ap (λ u. row_of x (u + 1)) same);
        clears_past_all = λ s at cleared w.
            let same = same_Some _ _ (sym at ∙ w.makes.reclaims) in
            let left = subst (λ (r : Reclaiming). r.cleared < r.width) (sym same) w.clearing.left in
            omega arith;
        asks_unsent = λ tenure page stored at goes fits w.
            unsent_stays c tenure page stored at goes fits w.makes.leaves;
        clears_unsent = λ tenure page stored at goes fits w.
            unsent_stays c tenure page stored at goes fits w.makes.leaves;
        reads_passed_at_rest = λ rests w. let bad = sym rests ∙ w.lacks.holds in cc;
        reads_passed_while_unpinning = λ t e w. let bad = sym e ∙ w.away in cc;
        reads_passed_past_the_end = λ tenure page stored published at ended w.
            let same = same_page tenure w.lacks.tenure page w.lacks.page stored w.lacks.stored
            published false (sym at ∙ w.lacks.holds) in
            true≢false (sym ended ∙ ap (λ (p : Page). p.ended) same.1.0 ∙ w.lacks.goes_on);
        reads_passed_once_sent = λ tenure page stored at w.
            true≢false (same_page tenure w.lacks.tenure page w.lacks.page stored w.lacks.stored
            true false (sym at ∙ w.lacks.holds)).1.1;
        reads_passed_with_room = λ tenure page stored published at fits w.
            let same = same_page tenure w.lacks.tenure page w.lacks.page stored w.lacks.stored
            published false (sym at ∙ w.lacks.holds) in
            let full =
            subst (λ (p : Page). c.layout.capacity + p.floor < p.words + frame_len c)
            (sym same.1.0) w.lacks.full in
            omega arith;
        reads_passed_past_all = λ past w. let left = w.left in omega arith;
        looks_while_unpinning = λ t e w. let bad = sym e ∙ w.away in cc;
        looks_invalidated = λ t e w. let bad = sym e ∙ w.away in cc;
        publishes_while_unpinning = λ t e w. let bad = sym e ∙ w.0 in cc;
        publishes_invalidated = λ t e w. let bad = sym e ∙ w.0 in cc;
        gives_back_unready = λ s at unreclaimed w.
            true≢false (sym (subst (IsReady x w.1.tenure) at w.1.ready.ready) ∙ unreclaimed);
        gives_back_reclaimed_elsewhere = λ s t at held other w.
            let same = same_Some w.1.tenure t (sym w.1.held ∙ held) in
            other ((w.1.ready.of s at).row ∙ ap (λ u. row_of x (u + 1)) same);
        gives_back_unreclaimed = λ t none held late w.
            let same = same_Some w.1.tenure t (sym w.1.held ∙ held) in
            let early : w.1.tenure + 1 < r.rows =
            subst (IsReady x w.1.tenure) none w.1.ready.ready in
            omega arith;
      }

  -- all of it
  pub refused : (v : Sender (Elector S)) → RefusesCauses P v
  refused v = record {
    own = own_refused v;
    apart = apart_refused v;
    again = λ r some.
        subst (λ y. RefusesAgain P (sender v.core y) r) (sym some) (again_refused v.core r);
  }

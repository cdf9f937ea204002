-- What the columns of an event show is what it adds to the trails.
use Rattle.std.proofs.Common.{◌≡◌, ◌≢◌, ℕ, ◌==◌, Bool, cond, Option, Some, None, List, [], ◌∷◌}
use Rattle.std.proofs.Common.{◌++◌, ◌<◌, codes, decimal, length, get_or, slice_index}
use Rattle.std.proofs.Common.{true, false, inl, inr, refl, sym, ap, subst, ◌∙◌}
use Rattle.std.proofs.lemmas.Bool.{cases_eq, eq-eqb, ne_eqb}
use Rattle.std.proofs.lemmas.List.{get_or-set_other}
use Rattle.std.proofs.lemmas.Option.{same_Some}
use Rattle.bus_register.specs.Protocol.{Protocol}
use Rattle.bus_adoptcommit.specs.declared.verdicts.Verdict.{Verdict}
use Rattle.bus_core.specs.Causes.{IsCaused}
use Rattle.bus_register.specs.declared.kinds.Kind.{Kind}
use Rattle.bus_register.specs.declared.kinds.Kind.TheVariants.{StorePassed}
use Rattle.bus_register.specs.declared.limits.TheConstants.{PASSED_ALL}
use Rattle.bus_batch.specs.declared.messages.Mark.TheVariants as mark
use Rattle.bus_register.specs.declared.registers.Op.{Op}
use Rattle.bus_register.specs.declared.registers.Op.TheVariants.{Store, Cas}
use Rattle.bus_register.specs.Names.{kind_name}
use Rattle.bus_register.specs.Words.{register, after as left_by}
use Rattle.bus_core.specs.Senders.{Sender, Situation, Does, Announces, Validates, Unpins}
use Rattle.bus_core.specs.Senders.{Withdraws, Scans, Clears, ReadsPassed, situation}
use Rattle.bus_core.specs.Table.{Line, line, line_now}
use Rattle.bus_deliverylog.specs.Receiving.{due_kind, due_op, receiving_op, leaving_by}
use Rattle.bus_deliverylog.specs.Receiving.{Receiving, leaving_op, joining_by}
use Rattle.bus_machine.specs.Machine.{Machine, Trails, no_machine_trails, entered, turn_trails}
use Rattle.bus_machine.specs.Machine.{turn_grown, turn_answer, going, IsOnWord}
use Rattle.bus_machine.specs.Machine.{TakesTurn, Hears, LeavesForGood, Forks, passed_by}
use Rattle.bus_machine.specs.Playing.{Answers}
use Rattle.bus_machine.specs.Telling.{SenderCauses}
use Rattle.bus_presence.specs.Reclamation.{Entry, no_trails}
use Rattle.bus_tenure.specs.Core.{Election}
use Rattle.bus_tenure.specs.Elections.{Elector}
use Rattle.bus_tenure.specs.declared.turns.Turn.{Turn as Answered}
use Rattle.bus_replay.specs.Text.{answer_text, behind, fork_text}
use Rattle.bus_world.specs.Headline.{Action, HasPut, HasMarked, Stepped}
use Rattle.bus_world.specs.Trails.{step_action, put_actions, mark_actions}
use Rattle.bus_world.specs.Turning.{number_found, words_after}
use Rattle.bus_world.specs.World.{Event, Put, Ask, Turn, Recv, Stop, Gone}
use Rattle.bus_world.specs.declared.events.Answer.{Answer}
use Rattle.bus_world.specs.declared.events.Answer.TheVariants as answer
use Rattle.bus_trace.specs.Rows.{action_text, actions_text, due_text, line_text, receiving_text}
use Rattle.bus_trace.specs.Rows.{sender_text, gone_text, leaving_text, step_text, tenure_text}
use Rattle.bus_trace.specs.Rows.{no_step, column, columns, fork_op, joining_text, fork_columns}
use Rattle.bus_trace.specs.Showing.{added, answer_of, entry_text, AddsOne, ShowsEvent, ShowsHeard}
use Rattle.bus_trace.specs.Showing.{ShowsFork, ShowsGone, ShowsNone, ShowsStep, ShowsTurn}
use Rattle.bus_trace.specs.Showing.{ShowsWord, Shows, ShowsWho}
use Rattle.bus_trace.specs.Words.{TraceSizes, word_name}
use Rattle.bus_trace.proofs.StepLemmas.{due_stays, tenure_is, stood}

own : {A : Type 0} (s : ℕ) (one other : A) → cond (s == s) one other ≡ one
own s one other = ap (λ b. cond b one other) (eq-eqb s s refl)

-- a trail to which something is added is that of its own seat
whose : {A : Type 0} (q s : ℕ) (ds : List A) → cond (q == s) ds [] ≢ [] → q ≡ s
whose q s ds some = elim (cases_eq q s) [
  | inl same ↦ same
  | inr other ↦ absurd (some (ap (λ b. cond b ds []) (ne_eqb q s other)))
]

named : (kind : List ℕ) (s q : ℕ) → q ≡ s → column (kind ++ behind s) ≡ column (kind ++ behind q)
named kind s q same = ap (λ n. column (kind ++ behind n)) (sym same)

-- ---- an action
step_shown : (p : TraceSizes) (words : ℕ → ℕ) (tenure : Option ℕ) (k : Option Kind) (o : Option Op)
    (chose : Option ℕ) (t : Answered)
    → due_text p words tenure k o
    ≡ actions_text p o (step_action k tenure (number_found words o) chose t)
step_shown p words tenure None o chose t = refl
step_shown p words tenure (Some k) None chose t = refl
step_shown p words tenure (Some k) (Some o) chose t = refl

-- ---- a step of a pin or of a reclamation
only : {A : Type 0} (x y : A) → x ∷ [] ≡ y ∷ [] → x ≡ y
only x y e = ap (λ l. get_or l 0 x) e

entry_due : (p : TraceSizes) (words : ℕ → ℕ) (tenure : Option ℕ) (k : Option Kind) (o : Op)
    → due_text p words tenure k
    (Some o) ≡ entry_text p tenure k record { op = o; got = words (register o) }
entry_due p words tenure None o = refl
entry_due p words tenure (Some k) o = refl

entry_shown : (p : TraceSizes) (words : ℕ → ℕ) (s : ℕ) (tenure : Option ℕ) (k : Option Kind)
    (o : Option Op) (entry : Entry)
    → entered no_trails s o (number_found words o) s ≡ entry ∷ []
    → due_text p words tenure k o ≡ entry_text p tenure k entry
entry_shown p words s tenure k None entry e = absurd cc
entry_shown p words s tenure k (Some o) entry e =
    entry_due p words tenure k o ∙ ap (entry_text p tenure k)
    (only _ entry (sym (own s (record { op = o; got = words (register o) } ∷ []) []) ∙ e))

-- ---- an answer
one_action : (x y : Action) → x ∷ [] ≡ y ∷ []
    → answer_text (answer_of x) ≡ answer_text (answer_of y)
one_action x y e = ap (λ z. answer_text (answer_of z)) (only x y e)

put_answered : (bytes : List ℕ) (a : Answer) (action : Action) → put_actions bytes a ≡ action ∷ []
    → answer_text a ≡ answer_text (answer_of action)
put_answered bytes (answer.Number n) action e = one_action (HasPut n bytes) action e
put_answered bytes answer.Closing action e = absurd cc
put_answered bytes answer.Leaving action e = absurd cc
put_answered bytes (answer.Turn t) action e = absurd cc
put_answered bytes (answer.Recv t) action e = absurd cc
put_answered bytes answer.Stopped action e = absurd cc
put_answered bytes answer.Gone action e = absurd cc

mark_answered : (a : Answer) (action : Action) → mark_actions a ≡ action ∷ []
    → answer_text a ≡ answer_text (answer_of action)
mark_answered (answer.Number n) action e = absurd cc
mark_answered answer.Closing action e = one_action (HasMarked mark.End) action e
mark_answered answer.Leaving action e = one_action (HasMarked mark.Leave) action e
mark_answered (answer.Turn t) action e = absurd cc
mark_answered (answer.Recv t) action e = absurd cc
mark_answered answer.Stopped action e = absurd cc
mark_answered answer.Gone action e = absurd cc

nothing_added : (s : ℕ) (action : Action) → cond (s == s) [] [] ≡ action ∷ [] → ⊥
nothing_added s action e = let bad : [] ≡ action ∷ [] = sym (own s [] []) ∙ e in cc

step_answered : (k : Option Kind) (tenure : Option ℕ) (got : ℕ) (chose : Option ℕ) (t : Answered)
    (action : Action)
    → step_action k tenure got chose t ≡ action ∷ []
    → answer_text (answer.Turn t) ≡ answer_text (answer_of action)
step_answered None tenure got chose t action e = absurd cc
step_answered (Some k) tenure got chose t action e =
    one_action (Stepped tenure k got chose t) action e

module _ {E : Type 0} (p : TraceSizes) (words : ℕ → ℕ) (l : Line E) (s word : ℕ)
    (t : Answered) where
  abbrev after : Situation E → Trails
  after i = turn_trails i l s (number_found words (l.op word)) word t no_machine_trails

  -- the one action that is added
  action_shown : (i : Situation E) (action : Action) → (after i).actions s ≡ action ∷ []
      → line_text p words l word ≡ action_text p (l.op word) action
  action_shown (Does z) action e = step_shown p words l.tenure l.kind (l.op word)
      (l.chosen (number_found words (l.op word)) word) t
      ∙ ap (actions_text p (l.op word)) (sym (own s _ []) ∙ e)
  action_shown (Announces u) action e = absurd (nothing_added s action e)
  action_shown (Validates u) action e = absurd (nothing_added s action e)
  action_shown (Unpins u) action e = absurd (nothing_added s action e)
  action_shown (Withdraws u) action e = absurd (nothing_added s action e)
  action_shown (Scans r) action e = absurd (nothing_added s action e)
  action_shown (Clears r) action e = absurd (nothing_added s action e)
  action_shown (ReadsPassed u q) action e = step_shown p words l.tenure l.kind (l.op word)
      (l.chosen (number_found words (l.op word)) word) t
      ∙ ap (actions_text p (l.op word)) (sym (own s _ []) ∙ e)

  pin_shown : (i : Situation E) (entry : Entry) → (after i).pins s ≡ entry ∷ []
      → line_text p words l word ≡ entry_text p l.tenure l.kind
      entry
  pin_shown (Does z) entry e = absurd cc
  pin_shown (Announces u) entry e = entry_shown p words s l.tenure l.kind (l.op word) entry e
  pin_shown (Validates u) entry e = entry_shown p words s l.tenure l.kind (l.op word) entry e
  pin_shown (Unpins u) entry e = entry_shown p words s l.tenure l.kind (l.op word) entry e
  pin_shown (Withdraws u) entry e = entry_shown p words s l.tenure l.kind (l.op word) entry e
  pin_shown (Scans r) entry e = absurd cc
  pin_shown (Clears r) entry e = absurd cc
  pin_shown (ReadsPassed u q) entry e = absurd cc

  reclaim_shown : (i : Situation E) (entry : Entry) → (after i).reclaims s ≡ entry ∷ []
      → line_text p words l word ≡ entry_text p l.tenure
      l.kind entry
  reclaim_shown (Does z) entry e = absurd cc
  reclaim_shown (Announces u) entry e = absurd cc
  reclaim_shown (Validates u) entry e = absurd cc
  reclaim_shown (Unpins u) entry e = absurd cc
  reclaim_shown (Withdraws u) entry e = absurd cc
  reclaim_shown (Scans r) entry e = entry_shown p words s l.tenure l.kind (l.op word) entry e
  reclaim_shown (Clears r) entry e = entry_shown p words s l.tenure l.kind (l.op word) entry e
  reclaim_shown (ReadsPassed u q) entry e = absurd cc

  -- the answer of the one action that is added
  answer_shown : (i : Situation E) (action : Action) → (after i).actions s ≡ action ∷ []
      → answer_text (answer.Turn t) ≡ answer_text (answer_of action)
  answer_shown (Does z) action e = step_answered l.kind l.tenure (number_found words (l.op word))
      (l.chosen (number_found words (l.op word)) word) t action
      (sym (own s _ []) ∙ e)
  answer_shown (Announces u) action e = absurd (nothing_added s action e)
  answer_shown (Validates u) action e = absurd (nothing_added s action e)
  answer_shown (Unpins u) action e = absurd (nothing_added s action e)
  answer_shown (Withdraws u) action e = absurd (nothing_added s action e)
  answer_shown (Scans r) action e = absurd (nothing_added s action e)
  answer_shown (Clears r) action e = absurd (nothing_added s action e)
  answer_shown (ReadsPassed u q) action e =
      step_answered l.kind l.tenure (number_found words (l.op word))
      (l.chosen (number_found words (l.op word)) word) t action
      (sym (own s _ []) ∙ e)

  -- it is its own
  adds_own : (i : Situation E) (q : ℕ) → (after i).actions q ≢ [] → q ≡ s
  adds_own (Does z) q some = whose q s _ some
  adds_own (Announces u) q some = whose q s [] some
  adds_own (Validates u) q some = whose q s [] some
  adds_own (Unpins u) q some = whose q s [] some
  adds_own (Withdraws u) q some = whose q s [] some
  adds_own (Scans r) q some = whose q s [] some
  adds_own (Clears r) q some = whose q s [] some
  adds_own (ReadsPassed u d) q some = whose q s _ some

  hears_none : (i : Situation E) (r : ℕ) → (after i).heard r ≡ []
  hears_none (Does z) r = refl
  hears_none (Announces u) r = refl
  hears_none (Validates u) r = refl
  hears_none (Unpins u) r = refl
  hears_none (Withdraws u) r = refl
  hears_none (Scans u) r = refl
  hears_none (Clears u) r = refl
  hears_none (ReadsPassed u q) r = refl

-- a turn with a step adds one of the three
one_added : {E : Type 0} (X : Election E) (v : Sender E) (words : ℕ → ℕ) (s word : ℕ) (t : Answered)
    (i : Situation E) (k : Kind) → (line X v i).kind ≡ Some k
    → AddsOne (turn_trails i (line X v i) s (number_found words ((line X v i).op word)) word t
    no_machine_trails) s
one_added X v words s word t (Does z) k is =
    let l = line X v (Does z) in
    let got = number_found words (l.op word) in inl (
      Stepped l.tenure k got (l.chosen got word) t,
      own s _ [] ∙ ap (λ o. step_action o l.tenure got (l.chosen got word) t) is,
      refl,
      refl,
    )
one_added X v words s word t (Announces u) k is = inr (inl (_, own s [] [], own s _ [], refl))
one_added X v words s word t (Validates u) k is = inr (inl (_, own s [] [], own s _ [], refl))
one_added X v words s word t (Unpins u) k is = inr (inl (_, own s [] [], own s _ [], refl))
one_added X v words s word t (Withdraws u) k is = inr (inl (_, own s [] [], own s _ [], refl))
one_added X v words s word t (Scans r) k is = inr (inr (_, own s [] [], refl, own s _ []))
one_added X v words s word t (Clears r) k is = inr (inr (_, own s [] [], refl, own s _ []))
one_added X v words s word t (ReadsPassed u q) k is = inl (_, own s _ [], refl, refl)

-- ---- a step on a word
due_some : (p : TraceSizes) (words : ℕ → ℕ) (tenure : Option ℕ) (ks : Option Kind) (os : Option Op)
    (k : Kind) (o : Op) → ks ≡ Some k → os ≡ Some o
    → due_text p words tenure ks os ≡ step_text p tenure k (words (register o)) (Some o)
due_some p words tenure ks os k o kind_is op_is =
    ap (λ z. due_text p words tenure z os) kind_is
    ∙ ap (λ z. due_text p words tenure (Some k) z) op_is

due_none : (p : TraceSizes) (words : ℕ → ℕ) (tenure : Option ℕ) (ks : Option Kind)
    → due_text p words tenure ks None ≡ no_step (codes "-")
due_none p words tenure None = refl
due_none p words tenure (Some k) = refl

module _ {E : Type 0} (p : TraceSizes) (old new : Machine E) (text : List ℕ) where
  -- what stood in its word and what stands there now are shown
  word_taken : (tenure kind : List ℕ) (o : Op) → register o < length old.words
      → new.words ≡ words_after old.words (Some o)
      → text
      ≡ column tenure ++ column kind ++ column (word_name p (register o))
      ++ column (decimal (slice_index old.words (register o)))
      ++ column (decimal (left_by o (slice_index old.words (register o))))
      → ShowsWord p old new tenure kind (register o) text
  word_taken tenure kind o within words is =
      let at : ℕ = register o in
      let found : ℕ = slice_index old.words at in
      let stands : slice_index new.words at ≡ left_by o found =
      ap (λ w. slice_index w at) words ∙ stood old.words o within in
      record {
        shown = is
            ∙ ap (λ n. column tenure ++ column kind ++ column (word_name p at)
            ++ column (decimal found) ++ column (decimal n)) (sym stands);
        others = λ place apart. ap (λ w. slice_index w place) words
            ∙ get_or-set_other old.words at place (left_by o found) 0 apart;
      }

  step_taken : (tenure : Option ℕ) (k : Kind) (o : Op) → register o < length old.words
      → new.words ≡ words_after old.words (Some o)
      → text ≡ step_text p tenure k (slice_index old.words (register o)) (Some o)
      → ShowsStep p old new tenure k (register o) text
  step_taken tenure k o within words is =
      word_taken (tenure_text tenure) (kind_name k) o within words is

  -- without a step no word has changed
  none_taken : (name : List ℕ) (o : Option Op) → o ≡ None → new.words ≡ words_after old.words o
      → text ≡ no_step name → ShowsNone old new name text
  none_taken name o none words is =
      record { shown = is; words = words ∙ ap (words_after old.words) none }

-- ---- a fork
fork_told : (did : Bool) → fork_text did ≡ cond did (codes "forked") (codes "no seat")
fork_told true = refl
fork_told false = refl

module _ {E : Type 0} (p : TraceSizes) (m : Machine E) (i j : ℕ) (did : Bool) (new : Machine E)
    (h : Forks m i j did new) where
  -- its step is by the passed place of the new number
  fork_text_is : (place : Option ℕ) → passed_by m.layout m.reuse j ≡ place
      → fork_columns p m i j
      ≡ joining_text p (slice_index m.words) (joining_by place h.maker.passed)
  fork_text_is place is =
      ap (λ v. joining_text p (slice_index m.words) (fork_op m j v)) h.there
      ∙ ap (λ q. joining_text p (slice_index m.words) (joining_by q h.maker.passed)) is

  fork_words : (place : Option ℕ) → passed_by m.layout m.reuse j ≡ place
      → new.words ≡ words_after m.words (joining_by place h.maker.passed)
  fork_words place is =
      ap (λ (y : Machine E). y.words) h.after
      ∙ ap (λ q. words_after m.words (joining_by q h.maker.passed)) is

  fork_within : (place : Option ℕ) → passed_by m.layout m.reuse j ≡ place
      → IsOnWord m (joining_by place h.maker.passed)
  fork_within place is = subst (λ q. IsOnWord m (joining_by q h.maker.passed)) is h.within

  pub fork_shown : ShowsFork p m i j did new
  fork_shown = record {
    row = λ line. ap (λ told. column (decimal line) ++ column (codes "receiver" ++ behind i)
        ++ fork_columns p m i j ++ told) (fork_told did);
    step = λ at is. word_taken p m new (fork_columns p m i j) (codes "-") (codes "Fork")
        (Cas (record { 0 = at }) PASSED_ALL h.maker.passed) (fork_within (Some at) is)
        (fork_words (Some at) is) (fork_text_is (Some at) is);
    done = λ v at there is. (
      h.finds at is,
      ap (λ w. slice_index w at) (fork_words (Some at) is)
          ∙ stood m.words (Cas (record { 0 = at }) PASSED_ALL h.maker.passed)
          (fork_within (Some at) is)
          ∙ ap (λ b. cond b h.maker.passed (slice_index m.words at)) (sym (h.finds at is))
          ∙ ap (λ (u : Receiving). cond did u.passed (slice_index m.words at))
          (same_Some h.maker v (sym h.there ∙ there)),
    );
    none = λ is. record {
      shown = fork_text_is None is;
      words = fork_words None is;
    };
  }

-- ---- an event
module _ {S : Type 0} (p : TraceSizes) (X : Election (Elector S)) (P : Protocol S Bool Verdict)
    (m : Machine (Elector S)) where
  turn_shown : (s word : ℕ) (a : Answer) (new : Machine (Elector S)) (t : Answered)
      → a ≡ answer.Turn t → TakesTurn X m s word a new
      → (v : Sender (Elector S)) → going m s ≡ Some v → IsCaused X P v
      → ShowsTurn p X m s word a new v
  turn_shown s word a new t told h v goes caused =
      let l = line_now X v in
      let words = slice_index m.words in
      let line_is : columns p X m (Turn s word) a ≡ line_text p words l word =
      ap (λ o. sender_text p X words o word) goes in
      let grown : added X m (Turn s word) a ≡ after p words l s word t (situation X v) =
      ap (λ (b : Answer). added X m (Turn s word) b) told
      ∙ ap (λ o. turn_grown X m s o word (answer.Turn t) no_machine_trails) goes in
      let same : h.sender ≡ v = same_Some h.sender v (sym h.goes ∙ goes) in
      let within : IsOnWord m (l.op word) =
      subst (λ u. IsOnWord m ((line_now X u).op word)) same h.within in
      let stand : new.words ≡ words_after m.words (l.op word) =
      ap (λ (y : Machine (Elector S)). y.words) h.after
      ∙ ap (λ u. words_after m.words ((line_now X u).op word)) same in
      let text = columns p X m (Turn s word) a in
      record {
        action = λ action e.
            line_is
            ∙ action_shown p words l s word t (situation X v) action
            (ap (λ (T : Trails). T.actions s) (sym grown) ∙ e);
        pin = λ entry e.
            line_is
            ∙ pin_shown p words l s word t (situation X v) entry
            (ap (λ (T : Trails). T.pins s) (sym grown) ∙ e);
        reclaim = λ entry e.
            line_is
            ∙ reclaim_shown p words l s word t (situation X v) entry
            (ap (λ (T : Trails). T.reclaims s) (sym grown)
            ∙ e);
        answers = λ action e. ap answer_text told
            ∙ answer_shown p words l s word t (situation X v) action
            (ap (λ (T : Trails). T.actions s) (sym grown) ∙ e);
        tenure = λ k is. sym (tenure_is X P v.core v.reuse k (caused k is));
        adds = λ k is. subst (λ (T : Trails). AddsOne T s) (sym grown)
            (one_added X v words s word t (situation X v) k is);
        idle = λ is. line_is ∙ ap (λ z. due_text p words l.tenure z (l.op word)) is;
        step = λ k o kind_is op_is. step_taken p m new text l.tenure k o
            (subst (IsOnWord m) op_is within) (stand ∙ ap (words_after m.words) op_is)
            (line_is ∙ due_some p words l.tenure l.kind (l.op word) k o kind_is op_is);
        none = λ op_is. none_taken p m new text (codes "-") (l.op word) op_is stand
            (line_is ∙ ap (due_text p words l.tenure l.kind) op_is
            ∙ due_none p words l.tenure l.kind);
      }

  heard_shown : (r : ℕ) (a : Answer) (new : Machine (Elector S)) → Hears m r a new
      → ShowsHeard p X m r a new
  heard_shown r a new h =
      let words = slice_index m.words in
      let text = columns p X m (Recv r) a in
      let stand : new.words ≡ words_after m.words (receiving_op h.receiver) =
      ap (λ (y : Machine (Elector S)). y.words) h.after in
      record {
        heard = h.heard;
        added_is =
            ap (λ (b : Answer). (added X m (Recv r) b).heard r) h.answered
            ∙ own r (h.heard ∷ []) [];
        answers = ap answer_text h.answered;
        step = λ v k o at kind_is op_is.
            let same : h.receiver ≡ v = same_Some h.receiver v (sym h.there ∙ at) in
            let within : IsOnWord m (receiving_op v) =
            subst (λ u. IsOnWord m (receiving_op u)) same h.within in
            let due : due_op v ≡ receiving_op v =
            due_stays v (ap (λ u. u.gone) (sym same) ∙ h.stays) in
            let own : receiving_op v ≡ Some o = sym due ∙ op_is in
            step_taken p m new text None k o (subst (IsOnWord m) own within)
            (stand ∙ ap (λ u. words_after m.words (receiving_op u)) same
            ∙ ap (words_after m.words) own)
            (ap (receiving_text p words) at
            ∙ due_some p words None (due_kind v) (due_op v) k o kind_is op_is);
        none = λ v at op_is.
            let same : h.receiver ≡ v = same_Some h.receiver v (sym h.there ∙ at) in
            let due : due_op v ≡ receiving_op v =
            due_stays v (ap (λ u. u.gone) (sym same) ∙ h.stays) in
            none_taken p m new text (codes "-") (due_op v) op_is
            (stand ∙ ap (λ u. words_after m.words (receiving_op u)) same
            ∙ ap (words_after m.words) (sym due))
            (ap (receiving_text p words) at ∙ ap (due_text p words None (due_kind v)) op_is
            ∙ due_none p words None (due_kind v));
      }

  gone_shown : (r : ℕ) (a : Answer) (new : Machine (Elector S)) → LeavesForGood m r a new
      → ShowsGone p X m r a new
  gone_shown r a new h =
      let words = slice_index m.words in
      let text = columns p X m (Gone r) a in
      let stand : new.words ≡ words_after m.words (leaving_op h.receiver) =
      ap (λ (y : Machine (Elector S)). y.words) h.after in
      record {
        who = refl;
        store = λ v at there passed.
            let same : h.receiver ≡ v = same_Some h.receiver v (sym h.there ∙ there) in
            let o : Op = Store (record { 0 = at }) PASSED_ALL in
            let op_is : leaving_op v ≡ Some o = ap leaving_by passed in
            let within : register o < length m.words =
            subst (IsOnWord m) op_is (subst (λ u. IsOnWord m (leaving_op u)) same h.within) in
            let now : new.words ≡ words_after m.words (Some o) =
            stand ∙ ap (λ u. words_after m.words (leaving_op u)) same
            ∙ ap (words_after m.words) op_is in (
              step_taken p m new text None StorePassed o within now
                  (ap (leaving_text p words) there ∙ ap (gone_text p words) op_is),
              ap (λ w. slice_index w at) now ∙ stood m.words o within,
            );
        none = λ v there passed.
            let same : h.receiver ≡ v = same_Some h.receiver v (sym h.there ∙ there) in
            let op_is : leaving_op v ≡ None = ap leaving_by passed in
            none_taken p m new text (codes "gone") (leaving_op v) op_is
            (stand ∙ ap (λ u. words_after m.words (leaving_op u)) same)
            (ap (leaving_text p words) there ∙ ap (gone_text p words) op_is);
        adds_nothing = refl;
      }

  event_shown : (e : Event) (a : Answer) (new : Machine (Elector S)) → Answers X P m e a new
      → ShowsEvent p X m e a new
  event_shown (Put s bytes) a new h = record {
    action = ap (actions_text p None) (sym (own s (put_actions bytes a) []));
    answers = λ action e. put_answered bytes a action (sym (own s (put_actions bytes a) []) ∙ e);
    words = ap (λ (y : Machine (Elector S)). y.words) h.happens.after;
  }
  event_shown (Ask s mark) a new h = record {
    action = ap (actions_text p None) (sym (own s (mark_actions a) []));
    answers = λ action e. mark_answered a action (sym (own s (mark_actions a) []) ∙ e);
    words = ap (λ (y : Machine (Elector S)). y.words) h.happens.after;
  }
  event_shown (Turn s word) a new h = λ v goes.
      turn_shown s word a new (turn_answer m (line_now X h.happens.sender) word)
      h.happens.answered h.happens v goes (subst (SenderCauses X P) goes h.causes)
  event_shown (Recv r) a new h = heard_shown r a new h.happens
  event_shown (Stop s) a new h = (
    refl,
    record {
      shown = refl;
      words = ap (λ (y : Machine (Elector S)). y.words) h.happens.after;
    },
  )
  event_shown (Gone r) a new h = gone_shown r a new h.happens

  -- a sender's turn adds no action to another trail, and no answer
  turn_adds : (s word : ℕ) (o : Option (Sender (Elector S))) (a : Answer) (q : ℕ)
      → (turn_grown X m s o word a no_machine_trails).actions q ≢ [] → q ≡ s
  turn_adds s word None a q some = absurd (some refl)
  turn_adds s word (Some v) (answer.Number n) q some = absurd (some refl)
  turn_adds s word (Some v) answer.Closing q some = absurd (some refl)
  turn_adds s word (Some v) answer.Leaving q some = absurd (some refl)
  turn_adds s word (Some v) (answer.Turn t) q some =
      adds_own p (slice_index m.words) (line_now X v) s word t (situation X v) q some
  turn_adds s word (Some v) (answer.Recv t) q some = absurd (some refl)
  turn_adds s word (Some v) answer.Stopped q some = absurd (some refl)
  turn_adds s word (Some v) answer.Gone q some = absurd (some refl)

  turn_hears : (s word : ℕ) (o : Option (Sender (Elector S))) (a : Answer) (r : ℕ)
      → (turn_grown X m s o word a no_machine_trails).heard r ≡ []
  turn_hears s word None a r = refl
  turn_hears s word (Some v) (answer.Number n) r = refl
  turn_hears s word (Some v) answer.Closing r = refl
  turn_hears s word (Some v) answer.Leaving r = refl
  turn_hears s word (Some v) (answer.Turn t) r =
      hears_none p (slice_index m.words) (line_now X v) s word t (situation X v) r
  turn_hears s word (Some v) (answer.Recv t) r = refl
  turn_hears s word (Some v) answer.Stopped r = refl
  turn_hears s word (Some v) answer.Gone r = refl

  recv_hears : (q : ℕ) (a : Answer) (r : ℕ) → (added X m (Recv q) a).heard r ≢ [] → r ≡ q
  recv_hears q (answer.Number n) r some = absurd (some refl)
  recv_hears q answer.Closing r some = absurd (some refl)
  recv_hears q answer.Leaving r some = absurd (some refl)
  recv_hears q (answer.Turn t) r some = absurd (some refl)
  recv_hears q (answer.Recv t) r some = whose r q (t ∷ []) some
  recv_hears q answer.Stopped r some = absurd (some refl)
  recv_hears q answer.Gone r some = absurd (some refl)

  who_shown : (e : Event) (a : Answer) → ShowsWho X m e a
  who_shown (Put s bytes) a = record {
    sender = λ q some. named (codes "sender") s q (whose q s (put_actions bytes a) some);
    receiver = λ r some. absurd (some refl);
  }
  who_shown (Ask s mark) a = record {
    sender = λ q some. named (codes "sender") s q (whose q s (mark_actions a) some);
    receiver = λ r some. absurd (some refl);
  }
  who_shown (Turn s word) a = record {
    sender = λ q some. named (codes "sender") s q (turn_adds s word (going m s) a q some);
    receiver = λ r some. absurd (some (turn_hears s word (going m s) a r));
  }
  who_shown (Recv q) a = record {
    sender = λ s some. absurd (some refl);
    receiver = λ r some. named (codes "receiver") q r (recv_hears q a r some);
  }
  who_shown (Stop s) a = record {
    sender = λ q some. absurd (some refl);
    receiver = λ r some. absurd (some refl);
  }
  who_shown (Gone q) a = record {
    sender = λ s some. absurd (some refl);
    receiver = λ r some. absurd (some refl);
  }

  pub shown : (e : Event) (a : Answer) (new : Machine (Elector S)) → Answers X P m e a new
      → Shows p X m e a new
  shown e a new h = record { who = who_shown e a; event = event_shown e a new h }

-- A sender of either kind of rows is a process: its laws, by the one table of its turns.
use Rattle.std.proofs.Common.{◌≡◌, ℕ, ◌+◌, ◌/◌, ◌<◌, ◌==◌, ◌&&◌, Bool, true, false, cond, nat_lt}
use Rattle.std.proofs.Common.{nat_le, Option, Some, None, List, [], ◌∷◌, ◌++◌, length, is_some}
use Rattle.std.proofs.Common.{arith, refl, sym, ◌∙◌, ap, inl, inr}
use Rattle.std.specs.Prelude.{◌⊎◌}
use Rattle.std.proofs.lemmas.Bool.{true≢false}
use Rattle.bus_batch.specs.Batches.{Pending}
use Rattle.bus_batch.specs.declared.batches.Phase.TheVariants.{Marking}
use Rattle.bus_core.proofs.Situated.{own_is}
use Rattle.bus_core.specs.Keeping.{queue_of, sender, page_out}
use Rattle.bus_core.specs.Reusing.Turns.{answer_of_loss, answer_of_reclaim}
use Rattle.bus_core.specs.Senders.{Sender, Situation, Does, Validates, Unpins, Scans, Clears}
use Rattle.bus_core.specs.Senders.{ReadsPassed, situation}
use Rattle.bus_core.specs.Reusing.Passing.{passing_fed}
use Rattle.bus_tenure.specs.Situations.{core_floored, phase_floored}
use Rattle.bus_core.specs.Table.{line, line_now, rest_at, in_row, seen, answer_elected}
use Rattle.bus_core.specs.Table.{reuse_elected, reuse_reclaiming, lost_of}
use Rattle.bus_core.specs.declared.reuses.Reuse.{Reuse}
use Rattle.bus_machine.proofs.Tenures.Clearing.{clearing}
use Rattle.bus_machine.proofs.Calls.TurnLaws.{handed_by}
use Rattle.bus_machine.proofs.Onward.StageRises.{log_behind}
use Rattle.bus_machine.specs.Machine.{moved}
use Rattle.bus_machine.specs.Remembering.{rows_in}
use Rattle.bus_ownerbits.specs.OneOwner.{OneOwner}
use Rattle.bus_presence.specs.Reclaimers.{Reclaiming, reclaim_op, reclaim_fed, behind_of}
use Rattle.bus_presence.specs.declared.pins.Pin.{Pin}
use Rattle.bus_presence.specs.declared.pins.Pin.TheVariants.{Away}
use Rattle.bus_presence.specs.declared.reclaimers.Behind.{Behind}
use Rattle.bus_register.specs.Protocol.{Protocol, Laws}
use Rattle.bus_register.specs.declared.kinds.Kind.{Kind}
use Rattle.bus_register.specs.declared.registers.Op.{Op}
use Rattle.bus_register.specs.declared.registers.Op.TheVariants.{Load, Store}
use Rattle.bus_register.specs.declared.registers.SenderNo.{SenderNo}
use Rattle.bus_tenure.proofs.Situated.{Tells, tells}
use Rattle.bus_tenure.specs.Core.{Core, Election, Layout, is_closed, is_empty, is_marking}
use Rattle.bus_tenure.specs.Seen.{is_holding}
use Rattle.bus_tenure.specs.Situations.{Situation as Own, IsClosed, IsIdle, IsSpent, LooksAtStage}
use Rattle.bus_tenure.specs.Situations.{Elects, TakesPage, AwaitsPage, StoresWord, StoresLength}
use Rattle.bus_tenure.specs.Situations.{GivesBack, HasHanded, Comes, situation_at, situation_of}
use Rattle.bus_tenure.specs.Situations.{waits, core_begun, core_elected, core_at_rest}
use Rattle.bus_tenure.specs.Situations.{answer_of_return}
use Rattle.bus_tenure.specs.declared.pages.Page.{Page}
use Rattle.bus_tenure.specs.declared.phases.Phase.{Phase}
use Rattle.bus_tenure.specs.declared.phases.Phase.TheVariants as phase
use Rattle.bus_tenure.specs.declared.phases.Reason.{Reason}
use Rattle.bus_tenure.specs.declared.phases.Reason.TheVariants.{Sent, FoundEnd, NoRoom}
use Rattle.bus_tenure.specs.declared.turns.Turn.{Turn}
use Rattle.bus_tenure.specs.declared.turns.Turn.TheVariants as turn
use Rattle.bus_world.specs.Trails.{step_action}
use Rattle.bus_world.specs.Turning.{core_with_page, before_step, after_step}
use Rattle.bus_world.specs.Waiting.{waiting_at}
use Rattle.bus_tenure.specs.Classes.{is_refusal, is_last}
use Rattle.bus_automaton.specs.Lawful.{ProcessLaws, IsOneStep}
use Rattle.bus_automaton.specs.OneProcess.{is_taken, table_layout_by, adds_by, process_of}
use Rattle.bus_automaton.specs.Processes.{EndsBy}

-- ---- its batch
-- whether it is on its way, as puts and closes find it
abbrev busy_pinned : Bool → Pin → Bool
busy_pinned b Away = b
busy_pinned b u = true

-- the same with either kind of rows
abbrev busy_by : Bool → Option Reuse → Bool
busy_by b None = b
busy_by b (Some r) = busy_pinned b r.pin

-- all else of it they find as it is
pub queue_is : (q : Pending) (r : Option Reuse)
    → queue_of q r ≡ record q { busy = busy_by q.busy r }
queue_is q None = refl
queue_is q (Some r) = by r.pin where
  by : (u : Pin) → queue_of q (Some record r { pin = u }) ≡ record q { busy = busy_pinned q.busy u }
  by Away = refl
  by u = refl

-- its messages among it
pub messages_are : (q : Pending) (r : Option Reuse) → (queue_of q r).messages ≡ q.messages
messages_are q r = ap (λ (k : Pending). k.messages) (queue_is q r)

-- of a sender with nothing in its batch nothing waits
pub none_hidden : {E : Type 0} (c : Core E) (ph : Phase E) → c.queue.messages ≡ []
    → waiting_at c ph ≡ []
none_hidden c (phase.Holding t page stored true) e = refl
none_hidden c (phase.Holding t page stored false) e = e
none_hidden c (phase.Giving t reason) e = refl
none_hidden c ph e = e

-- ---- steps
-- the step of an election is due where it lies as where it would lie
placed : (x : Layout) (r : Option Reuse) (t : ℕ) (o : Option Op)
    → is_some o ≡ is_some (in_row x r t o)
placed x None t o = refl
placed x (Some r) t None = refl
placed x (Some r) t (Some o) = refl

-- and is a store there if it is one here
stores : (x : Layout) (r : Option Reuse) (t : ℕ) (o : Option Op) (q n : ℕ)
    → in_row x r t o ≡ Some (Store record { 0 = q } n)
    → (a m : ℕ) × (o ≡ Some (Store record { 0 = a } m))
stores x None t o q n e = (q, n, e)
stores x (Some r) t (Some (Store at m)) q n e = (at.0, m, refl)
stores x (Some r) t (Some o) q n e = absurd cc
stores x (Some r) t None q n e = absurd cc

-- a reclamation that clears does not look at what it found
cleared_blind : (s : Reclaiming) (r n : ℕ) → reclaim_op s ≡ Some (Store record { 0 = r } n)
    → (got got' : ℕ)
    → (reclaim_fed s got ≡ reclaim_fed s got') × (behind_of s got ≡ behind_of s got')
cleared_blind s r n e got got' =
    let all = by (nat_lt s.scanned s.senders) e in (rw all refl, rw all refl)
  where
    by : (a : Bool) → cond a (Some (Load record { 0 = s.presences + s.scanned }))
        (cond (nat_lt s.cleared s.width) (Some (Store record { 0 = s.row + s.cleared } 0)) None)
        ≡ Some (Store record { 0 = r } n) → a ≡ false
    by true due = absurd cc
    by false due = refl

-- a step is one action at most
step_is_one : (k : Option Kind) (t : Option ℕ) (found : ℕ) (chose : Option ℕ) (a : Turn)
    → (step_action k t found chose a ≡ []) ⊎ IsOneStep k found a (step_action k t found chose a)
step_is_one None t found chose a = inl refl
step_is_one (Some k) t found chose a =
    inr (record { tenure = t; kind = k; chose = chose; is_for = refl; is = refl })

-- how many rows it uses again stays
rows_stay : {E : Type 0} (X : Election E) (c : Core E) (r : Option Reuse) (z : Situation E)
    (got word : ℕ)
    → rows_in ((line X (sender c r) z).fed got word).reuse ≡ rows_in r
rows_stay X c None (Does LooksAtStage) got word = refl
rows_stay X c None (Does z) got word = refl
rows_stay X c None z got word = refl
rows_stay X c (Some r) (Does LooksAtStage) got word = refl
rows_stay X c (Some r) (Does z) got word = refl
rows_stay X c (Some r) z got word = refl

-- a last answer after which messages wait is a refusal
abbrev Refused : Turn → List (List ℕ) → Type 0
Refused a left = is_last a ≡ true → 0 < length left → is_refusal a ≡ true

-- a look at the stage ends so
stage_refused : (a b : Bool) (left : List (List ℕ))
    → Refused (cond a turn.Waiting (cond b turn.Spent turn.Going)) left
stage_refused true b left last some = absurd (true≢false (sym last))
stage_refused false true left last some = refl
stage_refused false false left last some = absurd (true≢false (sym last))

-- who lost a tenure goes on
loss_goes : (t : ℕ) (l : Option SenderNo) → is_last (answer_of_loss t l) ≡ false
loss_goes t None = refl
loss_goes t (Some o) = refl

-- so does who reclaims a row
reclaim_goes : (b : Option Behind) → is_last (answer_of_reclaim b) ≡ false
reclaim_goes None = refl
reclaim_goes (Some b) = refl

-- who is idle has no message
idle_none : {E : Type 0} (a m s : Bool) (left : List (List ℕ))
    → cond {A = Own E} a IsClosed (cond (is_empty left && m) IsIdle (cond s IsSpent LooksAtStage))
    ≡ IsIdle → left ≡ []
idle_none a m s [] e = refl
idle_none true m s (x ∷ left) e = absurd cc
idle_none false m true (x ∷ left) e = absurd cc
idle_none false m false (x ∷ left) e = absurd cc

-- ---- a sender in a situation
module _ {E : Type 0} (X : Election E) (v : Sender E) where
  -- what a situation of its turns tells of its phase
  told : (z : Own E) → situation X v ≡ Does z → Tells X z v.core.phase
  told z i = tells X v.core z (own_is X v z i)

  -- what it holds after a turn by the line of this situation
  abbrev after : Situation E → Option Page → ℕ → ℕ → Sender E
  after z home got word = moved (after_step (line X v z).move) home ((line X v z).fed got word)

  -- and with the page out of its hands before that
  abbrev handed : Situation E → Sender E
  handed z = moved (before_step (line X v z).move) None v

  -- ---- what it may leave
  -- what holds of either holds of one of them
  of_either : (G : Core E → Type 0) (b : Bool) (s u : Core E) → G s → G u → G (cond b s u)
  of_either G true s u e f = e
  of_either G false s u e f = f

  -- after a first look at the stage it is as it was, or finds no tenure left, or begins one
  after_look : (G : Core E → Type 0) → G v.core → ((t : ℕ) → G (record v.core { least = t }))
      → ((t : ℕ) → G (core_begun X v.core t))
      → (r : Option Reuse) (got : ℕ) → G (seen X v.core r got).core
  after_look G same spent begun None got = of_either G (waits v.core got) v.core
      (cond (nat_le v.core.layout.rows (got / 2)) (record v.core { least = got / 2 })
      (core_begun X v.core (got / 2))) same
      (of_either G (nat_le v.core.layout.rows (got / 2)) (record v.core { least = got / 2 })
      (core_begun X v.core (got / 2))
      (spent (got / 2)) (begun (got / 2)))
  after_look G same spent begun (Some r) got = of_either G (waits v.core got) v.core
      (cond (nat_le v.core.layout.rows (got / 2)) (record v.core { least = got / 2 }) v.core) same
      (of_either G (nat_le v.core.layout.rows (got / 2)) (record v.core { least = got / 2 }) v.core
      (spent (got / 2)) same)

  -- with the tenure lost
  abbrev lost : ℕ → Core E
  lost t = record v.core {
    queue = record v.core.queue { busy = false };
    least = t + 1;
    phase = phase.Resting;
  }

  -- after a step of its election that goes on, or it has lost the tenure
  after_election : (G : Core E → Type 0) (t : ℕ) (e : E) (o : Option ℕ)
      → G (record v.core { phase = phase.Electing t e }) → G (lost t)
      → G (core_elected v.core t e o)
  after_election G t e None runs gone = runs
  after_election G t e (Some o) runs gone =
      of_either G (o == v.core.me) (record v.core { phase = phase.Electing t e }) (lost t) runs gone

  -- ---- what stays: its layout, and the messages that wait, unless none does any more
  abbrev Kept : Core E → Type 0
  Kept d =
      (d.layout ≡ v.core.layout)
      × ((d.queue.messages ≡ v.core.queue.messages) ⊎ (d.queue.messages ≡ []))

  -- with a page laid before it
  kept_laid : (t : ℕ) (home : Option Page) → Kept (core_with_page v.core t home)
  kept_laid t None = (refl, inl refl)
  kept_laid t (Some page) = (refl, inl refl)

  -- with the page given back
  kept_given : (t : ℕ) (reason : Reason) → Kept (core_at_rest v.core reason t)
  kept_given t Sent = (refl, inr refl)
  kept_given t FoundEnd = (refl, inl refl)
  kept_given t NoRoom = (refl, inl refl)

  -- by the line of any situation
  kept : (z : Situation E) (home : Option Page) (got word : ℕ) → Kept (after z home got word).core
  kept (Does LooksAtStage) home got word =
      after_look Kept (refl, inl refl) (λ t. (refl, inl refl)) (λ t. (refl, inl refl)) v.reuse got
  kept (Does (Elects t e)) home got word =
      after_election Kept t (X.fed e got word) (X.owner (X.fed e got word)) (refl, inl refl)
      (refl, inl refl)
  kept (Does (TakesPage t)) home got word = kept_laid t home
  kept (Does (AwaitsPage t)) home got word = kept_laid t home
  kept (Does (GivesBack t page reason)) home got word = kept_given t reason
  kept (Does (HasHanded t reason)) home got word = kept_given t reason
  kept (Does z) home got word = (refl, inl refl)
  kept (Validates t) home got word =
      of_either Kept (got / 2 == t) (core_begun X v.core t) v.core (refl, inl refl) (refl, inl refl)
  kept (ReadsPassed t p) home got word =
      of_either Kept ((passing_fed p got).loaded == v.core.layout.passers)
      (core_floored v.core (passing_fed p got).least) v.core (refl, inl refl) (refl, inl refl)
  kept z home got word = (refl, inl refl)

  -- the same of the batch as it is found
  leaves : (w : Sender E) → Kept w.core
      → ((queue_of w.core.queue w.reuse).messages ≡ (queue_of v.core.queue v.reuse).messages)
      ⊎ ((queue_of w.core.queue w.reuse).messages ≡ [])
  leaves w k = elim k.1 [
    | inl same ↦
        inl (messages_are w.core.queue w.reuse ∙ same ∙ sym (messages_are v.core.queue v.reuse))
    | inr none ↦ inr (messages_are w.core.queue w.reuse ∙ none)
  ]

  -- ---- a kind is named exactly where a step is due
  named : ((e : E) (word : ℕ) → is_some (X.kind_of e) ≡ is_some (X.op e word))
      → (z : Situation E) (word : ℕ)
      → is_some (line X v z).kind ≡ is_some ((line X v z).op word)
  named names (Does (Elects t e)) word = names e word ∙ placed v.core.layout v.reuse t (X.op e word)
  named names (Does z) word = refl
  named names z word = refl

  -- ---- a store does not look at what it found
  -- it leaves and answers the same, whatever it found
  abbrev IsBlind : Situation E → ℕ → ℕ → ℕ → Type 0
  IsBlind z word got got' =
      ((home : Option Page) → after z home got word ≡ after z home got' word)
      × ((line X v z).answer got word ≡ (line X v z).answer got' word)

  -- by the line of any situation
  blind : (P : Protocol E (Unit {0}) ℕ) → Laws X.op X.fed P OneOwner → (z : Situation E)
      → situation X v ≡ z → (word r n : ℕ)
      → (line X v z).op word ≡ Some (Store record { 0 = r } n) → (got got' : ℕ)
      → IsBlind z word got got'
  blind P laws (Does LooksAtStage) i word r n due got got' = absurd cc
  blind P laws (Does (Elects t e)) i word r n due got got' =
      let o = stores v.core.layout v.reuse t (X.op e word) r n due in
      let same = laws.blind e got got' word (Store record { 0 = o.0 } o.1) o.2 (o.0, o.1, refl) in (
        λ home. ap (λ (u : E). sender (core_elected v.core t u (X.owner u))
            (reuse_elected v.core v.reuse t (X.owner u))) same,
        ap (λ (u : E). answer_elected v.core v.reuse t (X.owner u)) same,
      )
  blind P laws (Does z) i word r n due got got' = (λ home. refl, refl)
  blind P laws (Validates t) i word r n due got got' = absurd cc
  blind P laws (Scans s) i word r n due got got' = absurd cc
  blind P laws (Clears s) i word r n due got got' =
      let same = cleared_blind s _ _ (clearing X v s i).step got got' in (
        λ home. ap (λ w. record v { reuse = reuse_reclaiming v.reuse w }) same.0,
        ap answer_of_reclaim same.1,
      )
  blind P laws (ReadsPassed t p) i word r n due got got' = absurd cc
  blind P laws z i word r n due got got' = (λ home. refl, refl)

  -- ---- last answers
  -- a step of its election is answered by no last answer
  elected_goes : (r : Option Reuse) (t : ℕ) (o : Option ℕ)
      → is_last (answer_elected v.core r t o) ≡ false
  elected_goes None t None = refl
  elected_goes None t (Some o) = by (o == v.core.me) where
    by : (b : Bool) → is_last (cond b turn.Going (turn.Lost t record { 0 = o })) ≡ false
    by true = refl
    by false = refl
  elected_goes (Some r) t o = refl

  -- with the page given back
  return_refused : (t : ℕ) (reason : Reason)
      → Refused (answer_of_return v.core.queue t reason)
      (core_at_rest v.core reason t).queue.messages
  return_refused t Sent last some = absurd (omega (arith, some))
  return_refused t FoundEnd last some = refl
  return_refused t NoRoom last some = refl

  -- by the line of any situation
  refused : (z : Situation E) (word : ℕ) (o : Op) → (line X v z).op word ≡ Some o
      → (home : Option Page) (got : ℕ)
      → Refused ((line X v z).answer got word) (after z home got word).core.queue.messages
  refused (Does LooksAtStage) word o due home got =
      stage_refused (waits v.core got) (nat_le v.core.layout.rows (got / 2)) _
  refused (Does (Elects t e)) word o due home got =
      λ last some.
      absurd (true≢false (sym last ∙ elected_goes v.reuse t (X.owner (X.fed e got word))))
  refused (Does (GivesBack t page reason)) word o due home got = return_refused t reason
  refused (Does (HasHanded t reason)) word o due home got = return_refused t reason
  refused (Does z) word o due home got = λ last some. absurd cc
  refused (Unpins t) word o due home got =
      λ last some. absurd (true≢false (sym last ∙ loss_goes t (lost_of v.reuse)))
  refused (Scans s) word o due home got =
      λ last some. absurd (true≢false (sym last ∙ reclaim_goes (behind_of s got)))
  refused (Clears s) word o due home got =
      λ last some. absurd (true≢false (sym last ∙ reclaim_goes (behind_of s got)))
  refused z word o due home got = λ last some. absurd cc

  -- who is idle has no message
  idle_has_none : situation_of X v.core ≡ IsIdle → v.core.queue.messages ≡ []
  idle_has_none own = idle_none {E = E} (is_closed v.core.queue.phase)
      (cond (is_marking v.core.queue.phase) false true)
      (nat_le v.core.layout.rows v.core.least) v.core.queue.messages
      (sym (ap (situation_at X v.core) (tells X v.core IsIdle own)) ∙ own)

  -- where no step is due
  rest_refused : (z : Situation E) → situation X v ≡ z
      → Refused (rest_at (line X v z)) v.core.queue.messages
  rest_refused (Does IsIdle) i = λ last some.
      absurd (let none = ap length (idle_has_none (own_is X v IsIdle i)) in omega arith)
  rest_refused (Does IsClosed) i = λ last some. refl
  rest_refused (Does IsSpent) i = λ last some. refl
  rest_refused (Does z) i = λ last some. absurd cc
  rest_refused z i = λ last some. absurd cc

  -- the same of the batch as it is found
  refused_found : (a : Turn) (w : Sender E) → Refused a w.core.queue.messages
      → Refused a (queue_of w.core.queue w.reuse).messages
  refused_found a w h last some =
      h last (let same = ap length (messages_are w.core.queue w.reuse) in omega arith)

  -- ---- what a step adds to its trail
  one_action : (z : Situation E) (got word : ℕ) → ((adds_by z (line X v z) got word).actions ≡ [])
      ⊎ IsOneStep (line X v z).kind got ((line X v z).answer got word)
      (adds_by z (line X v z) got word).actions
  one_action (Does z) got word = step_is_one (line X v (Does z)).kind (line X v (Does z)).tenure got
      ((line X v (Does z)).chosen got word)
      ((line X v (Does z)).answer got word)
  one_action (ReadsPassed t p) got word =
      let l = line X v (ReadsPassed t p) in
      step_is_one l.kind l.tenure got (l.chosen got word) (l.answer got word)
  one_action z got word = inl refl

  -- ---- the page
  -- with the page out of its hands it has the same line, with the rest of the move
  line_handed : (z : Situation E) → situation X v ≡ z
      → line_now X (handed z) ≡ record (line X v z) { move = after_step (line X v z).move }
  line_handed (Does (GivesBack t page reason)) i =
      ap (line X (handed (Does (GivesBack t page reason))))
      (handed_by v.core.layout.passers v.reuse (situation_of X v.core) (GivesBack t page reason) t
      reason i)
  line_handed (Does z) i = ap (line X v) i
  line_handed z i = ap (line X v) i

  -- a page that goes home stood before it
  gives_held : (z : Situation E) → situation X v ≡ z → (page : Page)
      → page_out (line X v z).move ≡ Some page
      → is_holding v.core.phase ≡ true
  gives_held (Does (GivesBack t other reason)) i page is =
      ap is_holding (told (GivesBack t other reason) i).2
  gives_held (Does z) i page is = absurd cc
  gives_held z i page is = absurd cc

  -- a step with which the page comes takes it
  pub comes : (z : Situation E) (word : ℕ) (o : Op) (t : ℕ) → (line X v z).op word ≡ Some o
      → (line X v z).move ≡ Comes t
      → z ≡ Does (TakesPage t)
  comes (Does (TakesPage u)) word o t due is = cc
  comes (Does z) word o t due is = absurd cc
  comes z word o t due is = absurd cc

  -- ---- how a turn ends, between two of which no page is under way, and where a sender rests that
  -- pins a tenure
  module _ (laid : is_taken v.core.phase ≡ false)
      (rests : (t : ℕ) → situation X v ≡ Validates t → v.core.phase ≡ phase.Resting) where
    -- no page has moved
    abbrev Plain : Core E → Type 0
    Plain d = (is_taken d.phase ≡ false) × (is_holding d.phase ≡ is_holding v.core.phase)

    -- nor has it with another floor
    floor_alike : (least : ℕ) (ph : Phase E)
        → (is_taken (phase_floored least ph) ≡ is_taken ph)
        × (is_holding (phase_floored least ph) ≡ is_holding ph)
    floor_alike least phase.Resting = (refl, refl)
    floor_alike least (phase.Electing t e) = (refl, refl)
    floor_alike least (phase.Taken t) = (refl, refl)
    floor_alike least (phase.Holding t page stored published) = (refl, refl)
    floor_alike least (phase.Giving t reason) = (refl, refl)

    -- a sender that rests begins a tenure
    plain_begun : (t : ℕ) → v.core.phase ≡ phase.Resting → Plain (core_begun X v.core t)
    plain_begun t e = (refl, sym (ap is_holding e))

    -- the parts of the turn are the whole turn
    pub ends : (z : Situation E) → situation X v ≡ z → (word : ℕ) (o : Op)
        → (line X v z).op word ≡ Some o → (home : Option Page) (got : ℕ)
        → EndsBy (process_of X) v ((line X v z).fed got word) (after z home got word) home
        (line X v z).move
    ends (Does LooksAtStage) i word o due home got =
        let begun = λ (t : ℕ). plain_begun t (told LooksAtStage i) in
        let h = after_look Plain (laid, refl) (λ t. (laid, refl)) begun v.reuse got in
        (refl, h.0, h.1)
    ends (Does (Elects t e)) i word o due home got =
        let away = ap is_holding (told (Elects t e) i).0 in
        let h = after_election Plain t (X.fed e got word) (X.owner (X.fed e got word))
        (refl, sym away) (refl, sym away) in
        (refl, h.0, h.1)
    ends (Does (TakesPage t)) i word o due home got = (
      refl,
      ap is_holding (told (TakesPage t) i).1,
      λ page at. (
        ap (λ (h : Option Page). record ((line X v (Does (TakesPage t))).fed got word) {
          core = core_with_page v.core t h;
        }) at,
        ap (λ (h : Option Page). is_holding (core_with_page v.core t h).phase) at,
      ),
    )
    ends (Does (AwaitsPage t)) i word o due home got = absurd cc
    ends (Does (StoresWord t page stored)) i word o due home got = (
      refl,
      refl,
      sym (ap is_holding (told (StoresWord t page stored) i).1),
    )
    ends (Does (StoresLength t page stored)) i word o due home got =
        (refl, refl, sym (ap is_holding (told (StoresLength t page stored) i).1))
    ends (Does (GivesBack t page reason)) i word o due home got = (
      refl,
      refl,
      ap is_holding (told (GivesBack t page reason) i).2,
      refl,
    )
    ends (Does (HasHanded t reason)) i word o due home got = (
      refl,
      refl,
      sym (ap is_holding (told (HasHanded t reason) i)),
    )
    ends (Does z) i word o due home got = (refl, laid, refl)
    ends (Validates t) i word o due home got =
        let h = of_either Plain (got / 2 == t) (core_begun X v.core t) v.core
        (plain_begun t (rests t i)) (laid, refl) in
        (refl, h.0, h.1)
    ends (ReadsPassed t p) i word o due home got =
        let n = (passing_fed p got).least in
        let same = floor_alike n v.core.phase in
        let h = of_either Plain ((passing_fed p got).loaded == v.core.layout.passers)
        (core_floored v.core n) v.core (same.0 ∙ laid, same.1) (laid, refl) in
        (refl, h.0, h.1)
    ends z i word o due home got = (refl, laid, refl)

-- what a sender of either kind of rows owes threads
pub process_laws : {E : Type 0} (X : Election E) (P : Protocol E (Unit {0}) ℕ)
    → Laws X.op X.fed P OneOwner
    → ((e : E) (word : ℕ) → is_some (X.kind_of e) ≡ is_some (X.op e word))
    → ProcessLaws (process_of X)
process_laws X P laws names = record {
  some_words = λ v. let two = log_behind v.core.layout (rows_in v.reuse) in omega arith;
  same_table_layout = λ v home got word.
      (λ n. table_layout_by ((kept X v (situation X v) home got word).0 n)
      (rows_stay X v.core v.reuse (situation X v) got word n));
  named = λ v word. named X v names (situation X v) word;
  blind = λ v word r n due got got' home.
      (blind X v P laws (situation X v) refl word r n due got got').0 home;
  mute = λ v word r n due got got'. (blind X v P laws (situation X v) refl word r n due got got').1;
  leaves = λ v home got word.
      leaves X v (after X v (situation X v) home got word) (kept X v (situation X v) home got word);
  refuses = λ v word o due home got.
      refused_found X v _ (after X v (situation X v) home got word)
      (refused X v (situation X v) word o due home got);
  refuses_at_rest = λ v. refused_found X v _ v (rest_refused X v (situation X v) refl);
  none_hidden =
      λ v none. none_hidden v.core v.core.phase (sym (messages_are v.core.queue v.reuse) ∙ none);
  one_action = λ v got word. one_action X v (situation X v) got word;
  message = λ v bytes. record { me = refl; table_layout = refl; holds = refl; awaits = refl };
  message_waits = λ v bytes.
      queue_is (record v.core.queue { messages = v.core.queue.messages ++ bytes ∷ [] }) v.reuse
      ∙ sym (ap (λ (k : Pending). record k { messages = k.messages ++ bytes ∷ [] })
      (queue_is v.core.queue v.reuse));
  marked = λ v mark. record { me = refl; table_layout = refl; holds = refl; awaits = refl };
  mark_waits = λ v mark. queue_is (record v.core.queue { phase = Marking mark }) v.reuse
      ∙ sym
      (ap (λ (k : Pending). record k { phase = Marking mark }) (queue_is v.core.queue v.reuse));
  handed_op = λ v word. ap (λ l. l.op word) (line_handed X v (situation X v) refl);
  handed_answer = λ v got word. ap (λ l. l.answer got word) (line_handed X v (situation X v) refl);
  handed_fed = λ v got word. ap (λ l. l.fed got word) (line_handed X v (situation X v) refl);
  gives_held = λ v page is. gives_held X v (situation X v) refl page is;
}

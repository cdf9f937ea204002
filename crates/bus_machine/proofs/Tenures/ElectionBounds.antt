-- A sender takes no more steps towards the page of a tenure than its election has, and one more.
-- Those that it took and those that it may take yet are never more: a step joins the ones and
-- leaves the others.
use Rattle.std.proofs.Common.{◌≡◌, ℕ, ◌+◌, ◌-◌, ◌*◌, ◌/◌, ◌<◌, ◌≤◌, Bool, true, false, cond, ◌==◌}
use Rattle.std.proofs.Common.{nat_le, Option, Some, None, is_some, List, [], ◌++◌, filter, length}
use Rattle.std.proofs.Common.{slice_get, arith, refl, sym, ◌∙◌, ap, subst}
use Rattle.std.proofs.lemmas.Bool.{true≢false}
use Rattle.std.proofs.lemmas.Bool.Decides.{nat_tests}
use Rattle.std.proofs.lemmas.List.{length-append}
use Rattle.std.proofs.lemmas.List.Elements.{filter-append}
use Rattle.std.proofs.lemmas.Grind.{common_steps}
use Rattle.bus_core.specs.Senders.{Sender, Situation, Does, Validates, situation, ReadsPassed}
use Rattle.bus_core.specs.Table.{line, line_now, seen}
use Rattle.bus_core.specs.declared.reuses.Reuse.{Reuse}
use Rattle.bus_presence.specs.Reclamation.{Entry}
use Rattle.bus_register.specs.Protocol.{Protocol}
use Rattle.bus_register.specs.Tables.{of_some}
use Rattle.bus_register.specs.declared.kinds.Kind.{Kind}
use Rattle.bus_register.specs.declared.registers.Op.{Op}
use Rattle.bus_tenure.specs.Core.{Core, Election, Layout, row_at}
use Rattle.bus_tenure.specs.Seen.{tenure_of}
use Rattle.bus_tenure.specs.Situations.{LooksAtStage, Elects, TakesPage, AwaitsPage, StoresWord}
use Rattle.bus_tenure.specs.Situations.{StoresLength, GivesBack, HasHanded, waits, core_begun}
use Rattle.bus_tenure.specs.Situations.{core_elected, core_floored, phase_floored}
use Rattle.bus_tenure.specs.declared.pages.Page.{Page}
use Rattle.bus_tenure.specs.declared.phases.Phase.{Phase}
use Rattle.bus_tenure.specs.declared.phases.Phase.TheVariants as phase
use Rattle.bus_tenure.specs.declared.turns.Turn.{Turn as Answered}
use Rattle.bus_world.specs.Private.Sending.{Part, standing_of, stands_at}
use Rattle.bus_world.specs.Private.Tenures.Standing.{Runs}
use Rattle.bus_world.specs.Headline.{Action}
use Rattle.bus_world.specs.Trails.{step_action, put_actions, mark_actions}
use Rattle.bus_world.specs.Turning.{after_step, core_moved, core_with_page}
use Rattle.bus_world.specs.declared.events.Answer.{Answer}
use Rattle.bus_world.specs.declared.events.Answer.TheVariants as answer
use Rattle.bus_machine.proofs.Frames.Knowing.{HasPage, passes_held}
use Rattle.bus_machine.proofs.Bases.AtNone.{event_reuse, forks_reuse}
use Rattle.bus_machine.proofs.Memory.EachSender.{added, OfEach, each}
use Rattle.bus_machine.proofs.Tenures.Entering.{entry, entry_from, entry_in, may_enter, phase_tells}
use Rattle.bus_machine.proofs.Tenures.Entering.{enters}
use Rattle.bus_machine.proofs.Frames.Framed.{IsFramed, framed}
use Rattle.bus_machine.proofs.Bases.Leading.{Sits}
use Rattle.bus_machine.specs.Bounding.{is_towards, steps_towards, AreBounded}
use Rattle.bus_machine.specs.Machine.{base_of, Machine, Trails, Reached, IsNew}
use Rattle.bus_machine.specs.Machine.{found, turn_answer, moved, put_in, mark_in}

-- ---- how many steps
-- those of more actions
towards_more : (t : ℕ) (xs ds : List Action)
    → steps_towards t (xs ++ ds) ≡ steps_towards t xs + steps_towards t ds
towards_more t xs ds = ap length (filter-append (is_towards t) xs ds)
    ∙ length-append (filter (is_towards t) xs) (filter (is_towards t) ds)

-- one action of this tenure is at most one step towards its page, and none towards another
step_adds : (s t : ℕ) (k : Option Kind) (got : ℕ) (chose : Option ℕ) (told : Answered)
    → steps_towards s (step_action k (Some t) got chose told) ≤ cond (t == s) 1 0
step_adds s t None got chose told = omega arith
step_adds s t (Some k) got chose told = grind (arith, common_steps, length)

-- puts and marks add none
put_adds : (t : ℕ) (bytes : List ℕ) (a : Answer) → steps_towards t (put_actions bytes a) ≡ 0
put_adds t bytes (answer.Number n) = refl
put_adds t bytes a = refl

mark_adds : (t : ℕ) (a : Answer) → steps_towards t (mark_actions a) ≡ 0
mark_adds t (answer.Number n) = refl
mark_adds t a = refl

-- ---- how many are left, in numbers: all in a tenure that may be entered yet, else these
left_later : (f g s b r k n : ℕ) → n ≡ 0 → k ≡ 0 → f ≤ g
    → n + cond (nat_le g s) b k ≤ cond (nat_le f s) b r
left_later f g s b r k n none ended more = grind (arith, nat_tests)

left_begun : (f t s b r : ℕ) → f ≤ t → r ≤ b
    → cond (nat_le (t + 1) s) b (cond (t == s) r 0) ≤ cond (nat_le f s) b 0
left_begun f t s b r low few = grind (arith, nat_tests)

left_on : (t s b l r n : ℕ) → n ≤ cond (t == s) 1 0 → r ≤ cond (t == s) l 0
    → n + cond (nat_le (t + 1) s) b r ≤ cond (nat_le (t + 1) s) b (cond (t == s) (l + 1) 0)
left_on t s b l r n one less = grind (arith, nat_tests)

left_running : (t b l : ℕ) → cond (nat_le (t + 1) t) b (cond (t == t) l 0) ≡ l
left_running t b l = grind (arith, nat_tests)

fewer : (b : Bool) (l k : ℕ) → k < l → cond b (k + 1) 0 ≤ cond b l 0
fewer true l k less = omega arith
fewer false l k less = omega arith

-- ---- the potential: how many steps it may take yet towards the page of tenure s
module _ {E : Type 0} (left : E → ℕ) (bound : ℕ) where
  -- of an election that runs in it, with the one that takes the page
  abbrev run : Phase E → ℕ → ℕ
  run (phase.Electing t e) s = cond (t == s) (left e + 1) 0
  run ph s = 0

  abbrev due : Phase E → ℕ → ℕ → ℕ
  due ph least s = cond (nat_le (entry_from (tenure_of ph) least) s) bound (run ph s)

  abbrev due_in : Option (Sender E) → ℕ → ℕ
  due_in None s = 0
  due_in (Some v) s = due v.core.phase v.core.least s

  -- the steps among these actions come off it
  record Falls (c c' : Core E) (ds : List Action) : Type 0 where
    less : (s : ℕ) → steps_towards s ds + due c'.phase c'.least s ≤ due c.phase c.least s

  -- what was taken and what is left is no more than the bound
  abbrev AreWithin : Option (Sender E) → List Action → Type 0
  AreWithin o D = (t : ℕ) → steps_towards t D + due_in o t ≤ bound

  falls_within : (v v' : Sender E) (D ds : List Action) → Falls v.core v'.core ds
      → AreWithin (Some v) D → AreWithin (Some v') (D ++ ds)
  falls_within v v' D ds falls k = grind (arith, common_steps, towards_more)

  -- with actions that are no steps
  falls_by : (c c' : Core E) (ds : List Action) → ((s : ℕ) → steps_towards s ds ≡ 0)
      → Falls c c' [] → Falls c c' ds
  falls_by c c' ds none k = record {
    less = λ s. let was = k.less s in let more = none s in omega arith;
  }

  same : (c : Core E) → Falls c c []
  same c = record { less = λ s. omega arith }

  -- in a tenure whose election is over
  over : (t : ℕ) (c c' : Core E) (ph : Phase E) (ds : List Action)
      → c.phase ≡ ph → tenure_of ph ≡ Some t → entry c' ≡ t + 1 → ((s : ℕ) → run c'.phase s ≡ 0)
      → ((s : ℕ) → steps_towards s ds ≡ 0) → Falls c c' ds
  over t c c' ph ds is its next ended none = record {
    less = λ s. let now = entry_in c ph t is its in left_later (entry c) (entry c') s bound
        (run c.phase s) (run c'.phase s) (steps_towards s ds) (none s) (ended s) (omega arith);
  }

  -- in one whose election runs
  going : (t : ℕ) (e : E) (c c' : Core E) (ds : List Action) → c.phase ≡ phase.Electing t e
      → ((s : ℕ) → steps_towards s ds ≤ cond (t == s) 1 0) → entry c' ≡ t + 1
      → ((s : ℕ) → run c'.phase s ≤ cond (t == s) (left e) 0) → Falls c c' ds
  going t e c c' ds runs one next fewer = grind (arith, common_steps, left_on)

-- ---- one turn of sender p
module _ {E : Type 0} (X : Election E) (P : Protocol E (Unit {0}) ℕ) (m : Machine E) (T : Trails)
    (sits : Sits X P m) (f : IsFramed P m T) (p : ℕ) (v : Sender E)
    (at : slice_get m.senders p ≡ Some v) where
  abbrev n : ℕ
  n = m.layout.senders

  abbrev bound : ℕ
  bound = P.steps n + 1

  part : Part (base_of m) m.layout f.V f.frames p v.core
  part = f.sending.parts p v.core (f.core_of p v at)

  -- the state of its election belongs to it
  pub belongs : (t : ℕ) (e : E) → v.core.phase ≡ phase.Electing t e
      → P.Belongs n p (2 + t * P.width n) e
  belongs t e ph =
      let runs : of_some standing_of (f.cores p) ≡ Some (Runs t e) =
      ap (of_some standing_of) (f.core_of p v at) ∙ ap (λ w. Some (stands_at w)) ph in
      grind (arith, common_steps)

  -- at its start an election has no more steps left than these
  start_few : (t : ℕ) → P.left (X.started v.core.layout.senders v.core.me v.core.layout.rounds
      (row_at v.core.layout t)) + 1 ≤ bound
  start_few t = grind (arith, common_steps, part)

  -- a step of an election has one fewer left
  falls : (t : ℕ) (e : E) (got word : ℕ) → v.core.phase ≡ phase.Electing t e
      → is_some (X.owner e) ≡ false → P.left (X.fed e got word) < P.left e
  falls t e got word ph none = by (X.op e word) refl where
    by : (o : Option Op) → X.op e word ≡ o → P.left (X.fed e got word) < P.left e
    by None due = absurd (true≢false (sym (ap is_some (sits.serves.owner_is e)
        ∙ (sits.serves.laws.ends e word due).0) ∙ none))
    by (Some o) due = (sits.serves.laws.goes n p (2 + t * P.width n) e got word o
        (belongs t e ph) due).falls

  abbrev To : Core E → List Action → Type 0
  To c' ds = Falls P.left bound v.core c' ds

  -- a tenure begins
  begins : (t : ℕ) → v.core.phase ≡ phase.Resting → v.core.least ≤ t → To (core_begun X v.core t) []
  begins t rests low = grind (arith, common_steps, left_begun, start_few)

  -- a first look at the stage
  module _ (got : ℕ) (rests : v.core.phase ≡ phase.Resting) where
    looked : (a b : Bool) (c' : Core E) → waits v.core got ≡ a
        → (waits v.core got ≡ false → To c' [])
        → To (cond a v.core (cond b (record v.core { least = got / 2 }) c')) []
    looked true b c' i k = same P.left bound v.core
    looked false true c' i k = grind (arith, common_steps, left_later, may_enter)
    looked false false c' i k = k i

    looks : (r : Option Reuse) → To (seen X v.core r got).core []
    looks None = looked (waits v.core got) (nat_le v.core.layout.rows (got / 2))
        (core_begun X v.core (got / 2)) refl (λ i. begins (got / 2) rests (may_enter v.core got i))
    looks (Some r) = looked (waits v.core got) (nat_le v.core.layout.rows (got / 2)) v.core refl
        (λ i. same P.left bound v.core)

  -- a second one
  validated : (t : ℕ) (b : Bool) → (v.core.phase ≡ phase.Resting) × (v.core.least ≤ t)
      → To (cond b (core_begun X v.core t) v.core) []
  validated t true may = begins t may.0 may.1
  validated t false may = same P.left bound v.core

  -- a step of its election
  module _ (t : ℕ) (e e' : E) (ds : List Action) (runs : v.core.phase ≡ phase.Electing t e)
      (one : (s : ℕ) → steps_towards s ds ≤ cond (t == s) 1 0) (less : P.left e' < P.left e) where
    goes : To (record v.core { phase = phase.Electing t e' }) ds
    goes = going P.left bound t e v.core (record v.core { phase = phase.Electing t e' }) ds runs one
        refl (λ s. fewer (t == s) (P.left e) (P.left e') less)

    elected : (own : Option ℕ) → To (core_elected v.core t e' own) ds
    elected None = goes
    elected (Some o) = grind (arith, common_steps, goes, going)

  -- the page is laid before who has taken it, or not
  laid : (t : ℕ) (c : Core E) (ds : List Action) → To (record c { phase = phase.Taken t }) ds
      → (home : Option Page) → To (core_with_page c t home) ds
  laid t c ds k None = k
  laid t c ds k (Some page) = record { less = k.less }

  -- its page gets its floor, or not
  floored : (t : ℕ) → HasPage t v.core.phase → (least : ℕ) (ds : List Action)
      → ((s : ℕ) → steps_towards s ds ≡ 0) → (b : Bool)
      → To (cond b (core_floored v.core least) v.core) ds
  floored t h least ds none true = over P.left bound t v.core (core_floored v.core least) _ ds h.has
      refl (ap (λ ph. entry_from (tenure_of (phase_floored least ph)) v.core.least) h.has)
      (λ s. ap (λ ph. run P.left bound (phase_floored least ph) s) h.has) none
  floored t h least ds none false = over P.left bound t v.core v.core _ ds h.has refl
      (ap (λ ph. entry_from (tenure_of ph) v.core.least) h.has)
      (λ s. ap (λ ph. run P.left bound ph s) h.has) none

  -- any turn
  module _ (reached : Reached X m T) (home : Option Page) (got word : ℕ) (told : Answered) where
    abbrev After : Situation E → Type 0
    After z = To (core_moved (after_step (line X v z).move) home ((line X v z).fed got word).core)
        (added z (line X v z) got word told)

    by_turn : (z : Situation E) → situation X v ≡ z → After z
    by_turn (Does LooksAtStage) i = falls_by P.left bound v.core _ _ (λ s. refl)
        (looks got (phase_tells X v LooksAtStage i) v.reuse)
    by_turn (Does (Elects t e)) i =
        let own = phase_tells X v (Elects t e) i in
        elected t e (X.fed e got word) _ own.0 (λ s. step_adds s t (X.kind_of e) got _ told)
        (falls t e got word own.0 own.1) (X.owner (X.fed e got word))
    by_turn (Does (TakesPage t)) i =
        let own = phase_tells X v (TakesPage t) i in
        grind (arith, common_steps, laid, going, step_adds)
    by_turn (Does (AwaitsPage t)) i = grind (arith, phase_tells, laid, over)
    by_turn (Does (StoresWord t page stored)) i = grind (arith, common_steps, phase_tells, over)
    by_turn (Does (StoresLength t page stored)) i = grind (arith, common_steps, phase_tells, over)
    by_turn (Does (GivesBack t page reason)) i = grind (arith, common_steps, phase_tells, over)
    by_turn (Does (HasHanded t reason)) i = grind (arith, common_steps, phase_tells, over)
    by_turn (Validates t) i =
        validated t (got / 2 == t) (enters X P m T sits reached p v at t i)
    by_turn (ReadsPassed t q) i = grind (arith, common_steps, floored, passes_held)
    by_turn z i = same P.left bound v.core

-- ---- of all senders
module _ {E : Type 0} (X : Election E) (P : Protocol E (Unit {0}) ℕ) where
  abbrev At : Layout → Option (Sender E) → List Action → Type 0
  At x o D = AreWithin P.left (P.steps x.senders + 1) o D

  abbrev K : Machine E → ℕ → Option (Sender E) → List Action → List Entry → Type 0
  K m q o D es = At m.layout o D

  no_more : (b : Bool) (x : ℕ) → cond b x 0 ≤ x
  no_more true x = omega arith
  no_more false x = omega arith

  starts : (m : Machine E) (q : ℕ) → IsNew m → K m q (slice_get m.senders q) [] []
  starts m q new = grind (arith, common_steps, slice_get, no_more, nat_le)

  counted : (m : Machine E) (T : Trails) → Sits X P m → Reached X m T → OfEach K m m.senders T
  counted = each X P K starts
      (λ m m' T e a t r h q o D es k. subst (λ x. At x o D) (sym (event_reuse X m m' e a h).0) k)
      (λ m m' i j h q o D es k. subst (λ x. At x o D) (sym (forks_reuse X m m' i j h).0) k)
      (λ m q v D es bytes a k. falls_within P.left (P.steps m.layout.senders + 1) v (put_in v bytes)
      D (put_actions bytes a)
      (record { less = λ s. let none = put_adds s bytes a in omega arith }) k)
      (λ m q v D es mark a k. falls_within P.left (P.steps m.layout.senders + 1) v (mark_in v mark)
      D (mark_actions a)
      (record { less = λ s. let none = mark_adds s a in omega arith }) k)
      (λ m m' T s word a t r h at k.
      let v = h.sender in
      let z = situation X v in
      let l = line_now X v in
      let got = found m l word in
      let told = turn_answer m l word in
      let v' = moved (after_step l.move) m.home (l.fed got word) in
      let did = added z l got word told in
      let layout : m'.layout ≡ m.layout = ap (λ (y : Machine E). y.layout) h.after in
      subst (λ x. At x (Some v') (T.actions s ++ did)) (sym layout)
      (falls_within P.left (P.steps m.layout.senders + 1) v v' (T.actions s) did
      (by_turn X P m T t (framed X P m T t r) s v at r m.home got word told z refl) k))

  -- whatever leads to a machine, no sender takes more steps; and while its election runs, the steps
  -- that are left are counted among them, where it tells of one turn more than steps are left
  pub bounded : (m : Machine E) (T : Trails) → Sits X P m → Reached X m T → (bound : ℕ)
      → P.steps m.layout.senders + 1 ≡ bound → ((e : E) → P.left e ≡ X.turns_left e - 1)
      → ((p at : ℕ) (e : E) → P.Belongs m.layout.senders p at e → 1 ≤ X.turns_left e)
      → AreBounded X bound m T
  bounded m T sits r bound many tells last = record {
    most = λ q t. let within = counted m T sits r q t in omega arith;
    left = λ q v t e at runs.
        let its = belongs X P m T sits (framed X P m T sits r) q v at t e runs in
        let low = last q (2 + t * P.width m.layout.senders) e its in
        let within = counted m T sits r q t in
        let least = v.core.least in
        let now : due_in P.left (P.steps m.layout.senders + 1) (slice_get m.senders q) t
        ≡ P.left e + 1 =
        ap (λ o. due_in P.left (P.steps m.layout.senders + 1) o t) at
        ∙ ap (λ ph. due P.left (P.steps m.layout.senders + 1) ph least t) runs
        ∙ left_running t (P.steps m.layout.senders + 1) (P.left e + 1) in
        let one_more = tells e in
        (low, omega arith);
  }

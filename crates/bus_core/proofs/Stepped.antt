-- What a step of a sender leaves, by what the calls gave.
use Rattle.std.proofs.Common.{◌≡◌, ℕ, ◌+◌, ◌%◌, ◌<◌, ◌==◌, nat_lt, arith, Bool, true, false, cond}
use Rattle.std.proofs.Common.{Option, Some, None, IfSome, refl, sym, ◌∙◌, ap, subst}
use Rattle.std.proofs.Math.Nat.{mod-lt}
use Rattle.std.proofs.lemmas.Bool.{ltb-true}
use Rattle.bus_register.specs.declared.registers.Op.{Op}
use Rattle.bus_register.specs.declared.registers.Op.TheVariants.{Load, Store}
use Rattle.bus_register.specs.Words.{register}
use Rattle.bus_ownerbits.proofs.ElectionSteps.{row_within}
use Rattle.bus_presence.specs.Reclaimers.{Reclaiming}
use Rattle.bus_presence.specs.declared.pins.Pin.TheVariants.{Pinned, Unpinning}
use Rattle.bus_tenure.specs.Core.{Core, Election}
use Rattle.bus_tenure.specs.Situations.{Situation as Own, IsClosed, IsIdle, IsSpent, LooksAtStage}
use Rattle.bus_tenure.specs.Situations.{Elects, TakesPage, AwaitsPage, StoresWord, StoresLength}
use Rattle.bus_tenure.specs.Situations.{GivesBack, HasHanded, situation_of as own_situation}
use Rattle.bus_tenure.specs.Situations.{answer_of_election, fed_at, answer_at, wants_at}
use Rattle.bus_tenure.specs.declared.pages.Page.{Page}
use Rattle.bus_tenure.specs.declared.phases.Reason.{Reason}
use Rattle.bus_tenure.specs.declared.phases.Phase.TheVariants.{Giving}
use Rattle.bus_tenure.specs.declared.turns.Turn.{Turn}
use Rattle.bus_tenure.specs.declared.turns.Turn.TheVariants as turn
use Rattle.bus_core.proofs.Situated.{situation_tells, does_by, goes_does, held_reclaimer}
use Rattle.bus_core.specs.Reusing.Keeping.{IsHeldReclaimer}
use Rattle.bus_core.specs.Reusing.Participants.{sizes_with}
use Rattle.bus_core.specs.Senders.{Sender, Situation, Does, Announces, Validates, Unpins}
use Rattle.bus_core.specs.Senders.{Withdraws, Scans, Clears, ReadsPassed, situation, words_all}
use Rattle.bus_core.specs.Table.{reuse_elected, line, rest_at}
use Rattle.bus_tenure.specs.Doings.{doing_of}
use Rattle.bus_core.specs.Doings.{step_of, ending_of, rest_of}
use Rattle.bus_core.specs.declared.steps.Ending.{Ending}
use Rattle.std.proofs.lemmas.Option.{same_Some}
use Rattle.bus_core.specs.Keeping.{ReuseKeeps, reclaimer_left, reclaimer_op_of, sender, page_out}
use Rattle.bus_core.specs.Keeping.{core_without, reuse_answered}
use Rattle.bus_tenure.specs.declared.doings.Doing.TheVariants as doing
use Rattle.bus_core.specs.declared.reuses.Reuse.{Reuse}
use Rattle.bus_core.specs.declared.steps.Step.TheVariants as step

module _ {E : Type 0} where
  -- the step of a reclamation lies on a word of the bus
  pub reclaimed_below : (width : ℕ) (Belongs : ℕ → E → Type 0) (c : Core E) (reuse : Option Reuse)
      → ReuseKeeps width Belongs c reuse
      → (o : Op) → reclaimer_op_of reuse ≡ Some o → register o < words_all (sender c reuse)
  reclaimed_below width Belongs c None k o i = absurd cc
  reclaimed_below width Belongs c (Some r) k o i = by r.reclaimer refl i where
    by : (l : Option Reclaiming) → r.reclaimer ≡ l → reclaimer_left l ≡ Some o
        → register o < words_all (sender c (Some r))
    by None e j = absurd cc
    by (Some s) e j = lies (nat_lt s.scanned s.senders) (nat_lt s.cleared s.width) refl refl j where
      h : IsHeldReclaimer (sizes_with c.layout r.rows) c.phase s
      h = held_reclaimer width Belongs c r k s e

      lies : (a b : Bool) → nat_lt s.scanned s.senders ≡ a → nat_lt s.cleared s.width ≡ b
          → cond a (Some (Load record { 0 = s.presences + s.scanned }))
          (cond b (Some (Store record { 0 = s.row + s.cleared } 0)) None)
          ≡ Some o
          → register o < words_all (sender c (Some r))
      lies true b p q j =
          let at : s.presences + s.scanned ≡ register o = ap register (same_Some _ _ j) in
          let from = h.after.presences in
          let many = h.after.senders in
          let below : s.scanned < s.senders = ltb-true _ _ p in
          omega arith
      lies false true p q j =
          let at : s.row + s.cleared ≡ register o = ap register (same_Some _ _ j) in
          let from = h.after.row in
          let wide = h.after.width in
          let below : s.cleared < s.width = ltb-true _ _ q in
          let some = k.rows_some in
          let row = row_within ((h.tenure + 1) % r.rows) r.rows c.layout.width
          (mod-lt (h.tenure + 1) (omega arith)) in
          omega arith
      lies false false p q j = absurd cc

  -- an election's step is answered
  pub elected_reuse : (c : Core E) (t : ℕ) (own : Option ℕ) (reuse : Option Reuse)
      → reuse_answered (answer_of_election c t own) t reuse ≡ reuse_elected c reuse t own
  elected_reuse c t own None = refl
  elected_reuse c t None (Some r) = refl
  elected_reuse c t (Some o) (Some r) = by (o == c.me) where
    by : (b : Bool)
        → reuse_answered (cond b turn.Going (turn.Lost t record { 0 = o })) t (Some r)
        ≡ Some record r {
          pin = cond b (Pinned t) (Unpinning t);
          lost = cond b r.lost (Some record { 0 = o });
        }
    by true = refl
    by false = refl

-- what a line leaves, by what the calls gave
module _ {E : Type 0} (X : Election E) (c : Core E) (r : Option Reuse) (got word : ℕ) where
  -- what a step of its election leaves
  pub fed_elects : (z : Own E) (t : ℕ) → doing_of z ≡ doing.Elects t
      → (c' : Core E) (a : Turn) (r' : Option Reuse)
      → c' ≡ fed_at X c z got word → a ≡ answer_at X c z got word → r' ≡ reuse_answered a t r
      → sender c' r' ≡ (line X (sender c r) (Does z)).fed got word
  fed_elects (Elects u e) t d c' a r' i j k =
      let s : u ≡ t = cc in
      ap (λ y. sender y r') i
      ∙ ap (sender _) (k ∙ ap (λ y. reuse_answered a y r) (sym s) ∙ ap (λ y. reuse_answered y u r) j
      ∙ elected_reuse c u (X.owner (X.fed e got word)) r)
  fed_elects z t d c' a r' i j k = absurd cc

  -- what a stored word leaves
  pub fed_word : (z : Own E) (t words at : ℕ) → doing_of z ≡ doing.Word t words at
      → sender (fed_at X c z got word) r ≡ (line X (sender c r) (Does z)).fed got word
  fed_word (StoresWord u page stored) t words at d = refl
  fed_word z t words at d = absurd cc

  -- what a stored length leaves
  pub fed_length : (z : Own E) (t words : ℕ) → doing_of z ≡ doing.Length t words
      → sender (fed_at X c z got word) r ≡ (line X (sender c r) (Does z)).fed got word
  fed_length (StoresLength u page stored) t words d = refl
  fed_length z t words d = absurd cc

-- a step that is told lies below what its telling lies below
some_below : (x y : Option Op) (most : ℕ) → x ≡ y → ((o : Op) → y ≡ Some o → register o < most)
    → IfSome x (λ o. register o < most)
some_below None y most e f = tt
some_below (Some o) y most e f = f o (sym e)

-- the step of a reclamation lies on a word of the bus
pub reclaimed_some : {E : Type 0} (width : ℕ) (Belongs : ℕ → E → Type 0) (v w : Sender E) → v ≡ w
    → (reuse : Option Reuse)
    → ReuseKeeps width Belongs v.core v.reuse → (x : Option Op) → x ≡ reclaimer_op_of v.reuse
    → IfSome x (λ o. register o < words_all w)
reclaimed_some width Belongs v w same reuse k x told =
    subst (λ y. IfSome x (λ o. register o < words_all y)) same
    (some_below x (reclaimer_op_of v.reuse) _ told
    (λ o i. reclaimed_below width Belongs v.core v.reuse k o i))

module _ {E : Type 0} (X : Election E) (v : Sender E) where
  -- it asks for a random word as its turns do
  pub wants_own : (z : Own E) → (line X v (Does z)).wants_word ≡ wants_at X v.core z
  wants_own IsClosed = refl
  wants_own IsIdle = refl
  wants_own IsSpent = refl
  wants_own LooksAtStage = refl
  wants_own (Elects t e) = refl
  wants_own (TakesPage t) = refl
  wants_own (AwaitsPage t) = refl
  wants_own (StoresWord t page stored) = refl
  wants_own (StoresLength t page stored) = refl
  wants_own (GivesBack t page reason) = refl
  wants_own (HasHanded t reason) = refl

  -- and it answers without a step as they do
  pub rests_own : (z : Own E) → rest_at (line X v (Does z)) ≡ rest_of (doing_of z)
  rests_own IsClosed = refl
  rests_own IsIdle = refl
  rests_own IsSpent = refl
  rests_own LooksAtStage = refl
  rests_own (Elects t e) = refl
  rests_own (TakesPage t) = refl
  rests_own (AwaitsPage t) = refl
  rests_own (StoresWord t page stored) = refl
  rests_own (StoresLength t page stored) = refl
  rests_own (GivesBack t page reason) = refl
  rests_own (HasHanded t reason) = refl

  -- no page goes out of its hands
  pub none_out : (z : Situation E) → ending_of (step_of z) ≡ None
      → (page_out (line X v z).move ≡ None)
      × (core_without (line X v z).move v.core ≡ v.core)
  none_out (Does IsClosed) i = (refl, refl)
  none_out (Does IsIdle) i = (refl, refl)
  none_out (Does IsSpent) i = (refl, refl)
  none_out (Does LooksAtStage) i = (refl, refl)
  none_out (Does (Elects t e)) i = (refl, refl)
  none_out (Does (TakesPage t)) i = (refl, refl)
  none_out (Does (AwaitsPage t)) i = (refl, refl)
  none_out (Does (StoresWord t page stored)) i = (refl, refl)
  none_out (Does (StoresLength t page stored)) i = (refl, refl)
  none_out (Does (GivesBack t page reason)) i = absurd cc
  none_out (Does (HasHanded t reason)) i = (refl, refl)
  none_out (Announces t) i = (refl, refl)
  none_out (Validates t) i = (refl, refl)
  none_out (Unpins t) i = (refl, refl)
  none_out (Withdraws t) i = (refl, refl)
  none_out (Scans s) i = (refl, refl)
  none_out (Clears s) i = (refl, refl)
  none_out (ReadsPassed t p) i = (refl, refl)

  -- or this one
  ends_with : (z : Situation E) (b : Ending) → ending_of (step_of z) ≡ Some b → (page : Page)
      × (z ≡ Does (GivesBack b.tenure page b.reason))
  ends_with (Does IsClosed) b i = absurd cc
  ends_with (Does IsIdle) b i = absurd cc
  ends_with (Does IsSpent) b i = absurd cc
  ends_with (Does LooksAtStage) b i = absurd cc
  ends_with (Does (Elects t e)) b i = absurd cc
  ends_with (Does (TakesPage t)) b i = absurd cc
  ends_with (Does (AwaitsPage t)) b i = absurd cc
  ends_with (Does (StoresWord t page stored)) b i = absurd cc
  ends_with (Does (StoresLength t page stored)) b i = absurd cc
  ends_with (Does (GivesBack t page reason)) b i = (
    page,
    ap (λ y. Does (GivesBack y.tenure page y.reason)) (same_Some _ _ i),
  )
  ends_with (Does (HasHanded t reason)) b i = absurd cc
  ends_with (Announces t) b i = absurd cc
  ends_with (Validates t) b i = absurd cc
  ends_with (Unpins t) b i = absurd cc
  ends_with (Withdraws t) b i = absurd cc
  ends_with (Scans s) b i = absurd cc
  ends_with (Clears s) b i = absurd cc
  ends_with (ReadsPassed t p) b i = absurd cc

  -- the page goes out of the hands of who gives it back
  pub some_out : (b : Ending) → ending_of (step_of (situation X v)) ≡ Some b → (page : Page)
      × (situation X v ≡ Does (GivesBack b.tenure page b.reason))
      × (own_situation X v.core ≡ GivesBack b.tenure page b.reason)
  some_out b i =
      let e = ends_with (situation X v) b i in
      let d = does_by v.core.layout.passers v.reuse (own_situation X v.core) _ (ap step_of e.1) in
      let same : Does (own_situation X v.core) ≡ Does (GivesBack b.tenure e.0 b.reason) =
      sym d ∙ e.1 in
      (e.0, e.1, cc)

-- ---- with the page handed on
-- who gave the page back says so next
pub handed_step : {E : Type 0} (X : Election E) (v : Sender E) (t : ℕ) (page : Page)
    (reason : Reason)
    → situation X v ≡ Does (GivesBack t page reason)
    → own_situation X v.core ≡ GivesBack t page reason
    → step_of
    (situation X (record { core = record v.core { phase = Giving t reason }; reuse = v.reuse }))
    ≡ step.Does (doing.Handed t reason)
handed_step {E} X v t page reason i own =
    ap (step_of {E = E})
    (goes_does v.core.layout.passers v.reuse (own_situation X v.core) (HasHanded t reason)
    (situation_tells X v (Does (GivesBack t page reason)) i).1 (λ l s. refl))

-- A turn in its three parts: the page comes home, the step is taken, the page is laid.
use Rattle.std.proofs.Common.{◌≡◌, inl, inr, ℕ, ◌/◌, ◌==◌, Bool, true, false, cond, nat_le, length}
use Rattle.std.proofs.Common.{Option, Some, None, List, refl, sym, ◌∙◌, ap, subst, slice_index}
use Rattle.std.proofs.Common.{arith}
use Rattle.std.specs.Prelude.{◌⊎◌, IsSome}
use Rattle.std.proofs.lemmas.Bool.{true≢false}
use Rattle.std.proofs.lemmas.Grind.{common_steps}
use Rattle.bus_core.specs.Keeping.{core_without}
use Rattle.bus_core.specs.Senders.{Sender, Situation, Does, Announces, Validates, Unpins}
use Rattle.bus_core.specs.Senders.{Withdraws, Scans, Clears, ReadsPassed, situation}
use Rattle.bus_core.specs.Senders.{situation_by, pinning}
use Rattle.bus_core.specs.Reusing.Passing.{passing_left, passing_fed}
use Rattle.bus_core.specs.declared.reuses.Passing.{Passing}
use Rattle.bus_core.specs.Table.{Line, line, line_now, rest_at, in_row, seen}
use Rattle.bus_core.specs.Telling.{FeedTells, RestTells}
use Rattle.bus_core.specs.declared.reuses.Reuse.{Reuse}
use Rattle.bus_presence.specs.Reclaimers.{Reclaiming}
use Rattle.bus_presence.specs.declared.pins.Pin.{Pin}
use Rattle.bus_presence.specs.declared.pins.Pin.TheVariants.{Away, Announcing, Validating, Pinned}
use Rattle.bus_presence.specs.declared.pins.Pin.TheVariants.{Unpinning, Invalidated}
use Rattle.bus_register.specs.Words.{register, SumFits}
use Rattle.bus_register.specs.declared.registers.Op.{Op}
use Rattle.bus_tenure.proofs.Situated.{tells}
use Rattle.bus_tenure.specs.Core.{Core, Election, Layout}
use Rattle.bus_tenure.specs.Seen.{AwaitsItsPage}
use Rattle.bus_tenure.specs.Situations.{Situation as Own, IsClosed, IsIdle, IsSpent, LooksAtStage}
use Rattle.bus_tenure.specs.Situations.{Elects, TakesPage, AwaitsPage, StoresWord, StoresLength}
use Rattle.bus_tenure.specs.Situations.{GivesBack, HasHanded, situation_of, PageMove, Stays, Comes}
use Rattle.bus_tenure.specs.Situations.{Returns, core_begun, core_elected, core_floored}
use Rattle.bus_tenure.specs.Situations.{phase_floored}
use Rattle.bus_tenure.specs.declared.pages.Page.{Page}
use Rattle.bus_tenure.specs.declared.phases.Phase.{Phase}
use Rattle.bus_tenure.specs.declared.phases.Phase.TheVariants as phase
use Rattle.bus_tenure.specs.declared.phases.Reason.{Reason}
use Rattle.bus_tenure.specs.declared.turns.Turn.{Turn as Answered}
use Rattle.bus_tenure.specs.declared.turns.Turn.TheVariants as turn
use Rattle.bus_world.specs.Turning.{home_moved, before_step, after_step, laying}
use Rattle.bus_machine.proofs.Tenures.Own.{own_of}
use Rattle.bus_machine.specs.Machine.{moved}
use Rattle.bus_machine.specs.Telling.{StepTells}
use Rattle.bus_machine.specs.Turning.{HasStepped, HasTurned}

-- ---- pages

module _ {E : Type 0} where
  -- ---- a sender that has handed the page on
  handed_at : (u : Pin) (l : Option Passing) (s : Option Reclaiming) (w z : Own E) (t : ℕ)
      (reason : Reason) → pinning u l s w ≡ Does z
      → pinning {E = E} u l s (HasHanded t reason) ≡ Does (HasHanded t reason)
  handed_at Away l s w z t reason i = refl
  handed_at (Announcing k) l s w z t reason i = absurd cc
  handed_at (Validating k) l s w z t reason i = absurd cc
  handed_at (Pinned k) l s w z t reason i = refl
  handed_at (Unpinning k) l s w z t reason i = absurd cc
  handed_at (Invalidated k) l s w z t reason i = absurd cc

  pub handed_by : (n : ℕ) (r : Option Reuse) (w z : Own E) (t : ℕ) (reason : Reason)
      → situation_by n r w ≡ Does z
      → situation_by {E = E} n r (HasHanded t reason) ≡ Does (HasHanded t reason)
  handed_by n None w z t reason i = refl
  handed_by n (Some r) w z t reason i =
      handed_at r.pin (passing_left n r.passed) r.reclaimer w z t reason i

  -- ---- phases in which no page is laid
  no_lay : (ph : Phase E) → (AwaitsItsPage ph → ⊥) → laying ph ≡ Stays
  no_lay phase.Resting none = refl
  no_lay (phase.Electing t e) none = refl
  no_lay (phase.Taken t) none = absurd (none record { tenure = t; is = refl })
  no_lay (phase.Holding t page stored published) none = refl
  no_lay (phase.Giving t reason) none = refl

  -- nor does a floor lay one
  floor_lays : (least : ℕ) (ph : Phase E) → laying ph ≡ Stays
      → laying (phase_floored least ph) ≡ Stays
  floor_lays least phase.Resting stays = stays
  floor_lays least (phase.Electing t e) stays = stays
  floor_lays least (phase.Taken t) stays = stays
  floor_lays least (phase.Holding t page stored published) stays = refl
  floor_lays least (phase.Giving t reason) stays = stays

module _ {E : Type 0} (X : Election E) (v : Sender E) where
  abbrev c : Core E
  c = v.core

  abbrev given : PageMove → Sender E
  given m = record v { core = core_without m v.core }

  -- out of whose hands the page has gone has the same line, with the rest of the move
  after_hand : (z : Situation E) → situation X v ≡ z
      → line_now X (given (line X v z).move)
      ≡ record (line X v z) { move = after_step (line X v z).move }
  after_hand (Does (GivesBack t page reason)) i = ap (line X (given (Returns t reason page)))
      (handed_by c.layout.passers v.reuse (situation_of X c) (GivesBack t page reason) t reason i)
  after_hand (Does IsClosed) i = ap (line X v) i
  after_hand (Does IsIdle) i = ap (line X v) i
  after_hand (Does IsSpent) i = ap (line X v) i
  after_hand (Does LooksAtStage) i = ap (line X v) i
  after_hand (Does (Elects t e)) i = ap (line X v) i
  after_hand (Does (TakesPage t)) i = ap (line X v) i
  after_hand (Does (AwaitsPage t)) i = ap (line X v) i
  after_hand (Does (StoresWord t page stored)) i = ap (line X v) i
  after_hand (Does (StoresLength t page stored)) i = ap (line X v) i
  after_hand (Does (HasHanded t reason)) i = ap (line X v) i
  after_hand (Announces t) i = ap (line X v) i
  after_hand (Validates t) i = ap (line X v) i
  after_hand (Unpins t) i = ap (line X v) i
  after_hand (Withdraws t) i = ap (line X v) i
  after_hand (Scans s) i = ap (line X v) i
  after_hand (Clears s) i = ap (line X v) i
  after_hand (ReadsPassed t p) i = ap (line X v) i

  -- ---- a turn without a step leaves the sender as it is, and answers that it rests
  module _ (word : ℕ)
      (goes : (t : ℕ) (e : E) → situation_of X c ≡ Elects t e → IsSome (X.op e word)) where
    placed : (x : Layout) (r : Option Reuse) (t : ℕ) (o : Option Op) → IsSome o
        → in_row x r t o ≡ None → ⊥
    placed x None t None some e = true≢false (sym some)
    placed x None t (Some o) some e = cc
    placed x (Some r) t None some e = true≢false (sym some)
    placed x (Some r) t (Some o) some e = cc

    pub idle : (z : Situation E) → situation X v ≡ z → (line X v z).op word ≡ None
        → ((got : ℕ) → (line X v z).fed got word ≡ v)
        × ((got : ℕ) → (line X v z).answer got word ≡ rest_at (line X v z))
    idle (Does IsClosed) i e = (λ got. refl, λ got. refl)
    idle (Does IsIdle) i e = (λ got. refl, λ got. refl)
    idle (Does IsSpent) i e = (λ got. refl, λ got. refl)
    idle (Does (AwaitsPage t)) i e = (λ got. refl, λ got. refl)
    idle (Does (Elects t k)) i e = absurd (placed c.layout v.reuse t (X.op k word)
        (goes t k (own_of c.layout.passers v.reuse (situation_of X c) (Elects t k) i)) e)
    idle (Does LooksAtStage) i e = absurd cc
    idle (Does (TakesPage t)) i e = absurd cc
    idle (Does (StoresWord t page stored)) i e = absurd cc
    idle (Does (StoresLength t page stored)) i e = absurd cc
    idle (Does (GivesBack t page reason)) i e = absurd cc
    idle (Does (HasHanded t reason)) i e = absurd cc
    idle (Announces t) i e = absurd cc
    idle (Validates t) i e = absurd cc
    idle (Unpins t) i e = absurd cc
    idle (Withdraws t) i e = absurd cc
    idle (Scans s) i e = absurd cc
    idle (Clears s) i e = absurd cc
    idle (ReadsPassed t p) i e = absurd cc

    pub idle_step : (cells : List ℕ) (told : Answered) → (line_now X v).op word ≡ None
        → told ≡ rest_at (line_now X v) → HasStepped (line_now X v) cells word told cells v
    idle_step cells told none rests = grind (arith, common_steps, idle, register, length)

    -- and for the reason that it answers it has nothing to do
    rest_tells : (AwaitsItsPage c.phase → ⊥) → (z : Situation E) → situation X v ≡ z
        → (line X v z).op word ≡ None
        → (rest_at (line X v z) ≡ turn.Going) ⊎ RestTells v (rest_at (line X v z))
        → RestTells v (rest_at (line X v z))
    rest_tells laid (Does IsClosed) i e w = elim w [ inl bad ↦ absurd cc | inr told ↦ told ]
    rest_tells laid (Does IsIdle) i e w = elim w [ inl bad ↦ absurd cc | inr told ↦ told ]
    rest_tells laid (Does IsSpent) i e w = elim w [ inl bad ↦ absurd cc | inr told ↦ told ]
    rest_tells laid (Does (AwaitsPage t)) i e w = grind (arith, common_steps, tells, own_of)
    rest_tells laid (Does (Elects t k)) i e w = absurd
        (placed c.layout v.reuse t (X.op k word)
        (goes t k (own_of c.layout.passers v.reuse (situation_of X c) (Elects t k) i)) e)
    rest_tells laid (Does LooksAtStage) i e w = absurd cc
    rest_tells laid (Does (TakesPage t)) i e w = absurd cc
    rest_tells laid (Does (StoresWord t page stored)) i e w = absurd cc
    rest_tells laid (Does (StoresLength t page stored)) i e w = absurd cc
    rest_tells laid (Does (GivesBack t page reason)) i e w = absurd cc
    rest_tells laid (Does (HasHanded t reason)) i e w = absurd cc
    rest_tells laid (Announces t) i e w = absurd cc
    rest_tells laid (Validates t) i e w = absurd cc
    rest_tells laid (Unpins t) i e w = absurd cc
    rest_tells laid (Withdraws t) i e w = absurd cc
    rest_tells laid (Scans s) i e w = absurd cc
    rest_tells laid (Clears s) i e w = absurd cc
    rest_tells laid (ReadsPassed t p) i e w = absurd cc

    pub idle_tells : (AwaitsItsPage c.phase → ⊥) → (cells : List ℕ) (told : Answered)
        → (line_now X v).op word ≡ None → told ≡ rest_at (line_now X v)
        → (told ≡ turn.Going) ⊎ RestTells v told
        → StepTells X cells v ((line_now X v).op word) word told
    idle_tells laid cells told none rests says = grind (arith, common_steps, rest_tells)

  -- a step that found this number tells of it what the sender tells
  pub step_tells : (word : ℕ) (cells : List ℕ) (o : Op) (got : ℕ) (told : Answered)
      → (line_now X v).op word ≡ Some o → got ≡ slice_index cells (register o)
      → FeedTells X v got word told → StepTells X cells v ((line_now X v).op word) word told
  step_tells word cells o got told e found w = subst (λ d. StepTells X cells v d word told) (sym e)
      (subst (λ n. FeedTells X v n word told) found w)

  -- ---- the phase that a step has left tells whether the page is laid
  module _ (laid : AwaitsItsPage c.phase → ⊥) where
    same_lays : laying c.phase ≡ Stays
    same_lays = no_lay c.phase laid

    stage_lays : (got : ℕ) (r : Option Reuse) → laying (seen X c r got).core.phase ≡ Stays
    stage_lays got None = grind (arith, common_steps, nat_le, same_lays)
    stage_lays got (Some r) = grind (arith, common_steps, nat_le, same_lays)

    valid_lays : (t : ℕ) (a : Bool) → laying (cond a (core_begun X c t) c).phase ≡ Stays
    valid_lays t true = refl
    valid_lays t false = same_lays

    elected_lays : (t : ℕ) (e : E) (o : Option ℕ) → laying (core_elected c t e o).phase ≡ Stays
    elected_lays t e None = refl
    elected_lays t e (Some o) = grind (arith, common_steps)

    passed_lays : (least : ℕ) (a : Bool)
        → laying (cond a (core_floored c least) c).phase ≡ Stays
    passed_lays least true = floor_lays least c.phase same_lays
    passed_lays least false = same_lays

    lays : (z : Situation E) → situation X v ≡ z → (got word : ℕ)
        → laying ((line X v z).fed got word).core.phase ≡ after_step (line X v z).move
    lays (Does IsClosed) i got word = same_lays
    lays (Does IsIdle) i got word = same_lays
    lays (Does IsSpent) i got word = same_lays
    lays (Does LooksAtStage) i got word = stage_lays got v.reuse
    lays (Does (Elects t e)) i got word =
        elected_lays t (X.fed e got word) (X.owner (X.fed e got word))
    lays (Does (TakesPage t)) i got word = refl
    lays (Does (AwaitsPage t)) i got word = grind (arith, common_steps, tells, own_of)
    lays (Does (StoresWord t page stored)) i got word = refl
    lays (Does (StoresLength t page stored)) i got word = refl
    lays (Does (GivesBack t page reason)) i got word = refl
    lays (Does (HasHanded t reason)) i got word = refl
    lays (Announces t) i got word = same_lays
    lays (Validates t) i got word = valid_lays t (got / 2 == t)
    lays (Unpins t) i got word = same_lays
    lays (Withdraws t) i got word = same_lays
    lays (Scans s) i got word = same_lays
    lays (Clears s) i got word = same_lays
    lays (ReadsPassed t p) i got word =
        passed_lays (passing_fed p got).least ((passing_fed p got).loaded == c.layout.passers)

    -- ---- the three parts together
    home_parts : (m : PageMove) (home : Option Page)
        → home_moved (after_step m) (home_moved (before_step m) home) ≡ home_moved m home
    home_parts Stays home = refl
    home_parts (Comes t) home = refl
    home_parts (Returns t reason page) home = refl

    sender_parts : (m : PageMove) (home : Option Page) (now : Sender E)
        → moved (after_step m) (home_moved (before_step m) home) now ≡ moved (after_step m) home now
    sender_parts Stays home now = refl
    sender_parts (Comes t) home now = refl
    sender_parts (Returns t reason page) home now = refl

    module _ (cells : List ℕ) (home : Option Page) (word : ℕ) (handed : Sender E)
        (taken : handed ≡ given (line_now X v).move) where
      abbrev l : Line E
      l = line_now X v

      left : line_now X handed ≡ record l { move = after_step l.move }
      left = ap (line_now X) taken ∙ after_hand (situation X v) refl

      pub sums_so : ((o : Op) → l.op word ≡ Some o → SumFits o (slice_index cells (register o)))
          → (o : Op) → (line_now X handed).op word ≡ Some o
          → SumFits o (slice_index cells (register o))
      sums_so fits o e = fits o (sym (ap (λ (k : Line E). k.op word) left) ∙ e)

      pub turned : (told : Answered) (cells' : List ℕ) (rest : Option Page) (now : Sender E)
          → rest ≡ home_moved (before_step l.move) home
          → HasStepped (line_now X handed) cells word told cells' now
          → HasTurned l cells home word told cells' (home_moved (laying now.core.phase) rest)
          (moved (laying now.core.phase) rest now)
      turned told cells' rest now at_home step' =
          grind (arith, common_steps, left, lays, home_parts, sender_parts)

      -- with what the page and the sender are then
      pub turned_as : (told : Answered) (cells' : List ℕ) (rest : Option Page) (now : Sender E)
          → rest ≡ home_moved (before_step l.move) home
          → HasStepped (line_now X handed) cells word told cells' now
          → (home' : Option Page) (last : Sender E)
          → home' ≡ home_moved (laying now.core.phase) rest
          → last ≡ moved (laying now.core.phase) rest now
          → HasTurned l cells home word told cells' home' last
      turned_as told cells' rest now at_home step home' last i j = subst
          (λ q. HasTurned l cells home word told cells' q last) (sym i)
          (subst (HasTurned l cells home word told cells' (home_moved (laying now.core.phase) rest))
          (sym j) (turned told cells' rest now at_home step))

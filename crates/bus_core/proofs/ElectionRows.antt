-- Steps of an election that follow one another: what each leaves and answers, and where it lies.
use Rattle.std.proofs.Common.{◌≡◌, ℕ, ◌+◌, ◌-◌, ◌%◌, ◌<◌, ◌≤◌, ◌==◌, cond, arith, Bool, true}
use Rattle.std.proofs.Common.{false, Option, Some, None, IfSome, refl, sym, ◌∙◌, ap, subst}
use Rattle.std.proofs.Math.Nat.{mod-lt}
use Rattle.bus_ownerbits.proofs.ElectionSteps.{row_within}
use Rattle.bus_presence.specs.declared.pins.Pin.TheVariants.{Pinned, Unpinning}
use Rattle.bus_register.specs.Words.{register}
use Rattle.bus_register.specs.declared.registers.Op.{Op}
use Rattle.bus_register.specs.declared.registers.Op.TheVariants.{Load, Store, Add, Cas}
use Rattle.bus_tenure.specs.Core.{Core, Election, Layout, row_at}
use Rattle.bus_tenure.specs.Doings.{doing_of}
use Rattle.bus_tenure.specs.Situations.{Situation as Own, Elects, situation_of as own_situation}
use Rattle.bus_tenure.specs.Situations.{core_elected, fed_at, answer_at, line_of}
use Rattle.bus_tenure.specs.Situations.{answer_of_election}
use Rattle.bus_tenure.specs.declared.doings.Doing.TheVariants as doing
use Rattle.bus_tenure.specs.declared.phases.Phase.TheVariants.{Resting, Electing}
use Rattle.bus_tenure.specs.declared.turns.Turn.{Turn}
use Rattle.bus_tenure.specs.declared.turns.Turn.TheVariants as turn
use Rattle.bus_tenure.proofs.Situated.{tells}
use Rattle.bus_core.specs.Doings.{step_of}
use Rattle.bus_core.specs.Keeping.{ReuseKeeps, sender, reuse_answered, turn_answered}
use Rattle.bus_core.specs.Places.{StandsIn, row_start}
use Rattle.bus_core.specs.TenureRows.{row_told}
use Rattle.bus_core.specs.Reusing.Turns.{on_place}
use Rattle.bus_core.specs.Senders.{Sender, Does, situation, log_start, words_all}
use Rattle.bus_core.specs.Table.{line, line_now, reuse_elected}
use Rattle.bus_core.specs.declared.reuses.Reuse.{Reuse}
use Rattle.bus_core.specs.declared.steps.Step.TheVariants as step
use Rattle.bus_core.specs.declared.tenure_rows.Row.{Row}
use Rattle.bus_core.proofs.Situated.{doing_by, does_by, stands_in}
use Rattle.bus_core.proofs.Stepped.{fed_elects}

-- who is seen to go on with an election does so
pub elects_is : {E : Type 0} (z : Own E) (t : ℕ) → doing_of z ≡ doing.Elects t
    → (e : E) × (z ≡ Elects t e)
elects_is (Elects u e) t d = let s : u ≡ t = cc in (e, ap (λ y. Elects y e) s)
elects_is z t d = absurd cc

-- and is in that situation
pub electing_now : {E : Type 0} (X : Election E) (v : Sender E) (t : ℕ)
    → step_of (situation X v) ≡ step.Does (doing.Elects t)
    → (e : E) × (situation X v ≡ Does (Elects t e))
electing_now X v t is =
    let own = own_situation X v.core in
    let w = elects_is own t
    (doing_by v.core.layout.passers v.reuse own (doing.Elects t) is) in
    (w.0, does_by v.core.layout.passers v.reuse own (doing.Elects t) is ∙ ap Does w.1)

-- while the election goes on the pin stays as it is
stays_pinned : (reuse : Option Reuse) (t : ℕ) → StandsIn reuse t
    → reuse ≡ reuse_answered turn.Going t reuse
stays_pinned None t stands = refl
stays_pinned (Some r) t stands = ap (λ p. Some record r { pin = p }) stands

going_answered : (reuse : Option Reuse) → turn_answered turn.Going reuse ≡ turn.Going
going_answered None = refl
going_answered (Some r) = refl

module _ {E : Type 0} (X : Election E) (c : Core E) (r : Option Reuse) (got word : ℕ) where
  -- what a step of an election is answered
  answered_by : (z : Own E) (t : ℕ) → doing_of z ≡ doing.Elects t → (a : Turn)
      → a ≡ answer_at X c z got word
      → turn_answered a r ≡ (line X (sender c r) (Does z)).answer got word
  answered_by (Elects u e) t d a is = ap (λ y. turn_answered y r) is ∙ by r where
    by : (reuse : Option Reuse)
        → turn_answered (answer_of_election c u (X.owner (X.fed e got word))) reuse
        ≡ (line X (sender c reuse) (Does (Elects u e))).answer got word
    by None = refl
    by (Some r) = refl
  answered_by z t d a is = absurd cc

  -- the owner with which it ends
  chosen_by : (z : Own E) (t : ℕ) → doing_of z ≡ doing.Elects t
      → (line_of X c z).chosen got word ≡ (line X (sender c r) (Does z)).chosen got word
  chosen_by (Elects u e) t d = refl
  chosen_by z t d = absurd cc

  -- the row of no tenure moves
  row_stays : (z : Own E) (t : ℕ) → doing_of z ≡ doing.Elects t → (w : Sender E)
      → w ≡ (line X (sender c r) (Does z)).fed got word
      → (u : ℕ) → row_told w.core.layout w.reuse u ≡ row_told c.layout r u
  row_stays (Elects s e) t d w is u =
      ap (λ y. row_told y.core.layout y.reuse u) is ∙ by r (X.owner (X.fed e got word))
    where
      by : (reuse : Option Reuse) (own : Option ℕ)
          → row_told (core_elected c s (X.fed e got word) own).layout
          (reuse_elected c reuse s own) u
          ≡ row_told c.layout reuse u
      by None None = refl
      by (Some y) None = refl
      by None (Some o) = on (o == c.me) where
        on : (b : Bool)
            → row_told
            (cond b (record c { phase = Electing s (X.fed e got word) }) (record c {
              queue = record c.queue { busy = false };
              least = s + 1;
              phase = Resting;
            })).layout
            None u
            ≡ row_told c.layout None u
        on true = refl
        on false = refl
      by (Some y) (Some o) = on (o == c.me) where
        on : (b : Bool)
            → row_told
            (cond b (record c { phase = Electing s (X.fed e got word) }) (record c {
              queue = record c.queue { busy = false };
              least = s + 1;
              phase = Resting;
            })).layout
            (Some record y {
              pin = cond b (Pinned s) (Unpinning s);
              lost = cond b y.lost (Some record { 0 = o });
            })
            u
            ≡ row_told c.layout (Some y) u
        on true = refl
        on false = refl
  row_stays z t d w is u = absurd cc

  -- ---- of a sender whose next step is one of its election
  module _ (t : ℕ) (v : Sender E) (same : sender c r ≡ v)
      (elects : step_of (situation X v) ≡ step.Does (doing.Elects t)) where
    here : step_of (situation X (sender c r)) ≡ step.Does (doing.Elects t)
    here = ap (λ y. step_of (situation X y)) same ∙ elects

    pub doing_is : doing_of (own_situation X c) ≡ doing.Elects t
    doing_is = doing_by c.layout.passers r (own_situation X c) (doing.Elects t) here

    line_is : line X (sender c r) (Does (own_situation X c)) ≡ line_now X v
    line_is =
        ap (line X (sender c r))
        (sym (does_by c.layout.passers r (own_situation X c) (doing.Elects t) here))
        ∙ ap (line_now X) same

    pub state_is : (c' : Core E) (a : Turn) (r' : Option Reuse)
        → c' ≡ fed_at X c (own_situation X c) got word
        → a ≡ answer_at X c (own_situation X c) got word → r' ≡ reuse_answered a t r
        → sender c' r' ≡ (line_now X v).fed got word
    state_is c' a r' fed answer kept =
        fed_elects X c r got word (own_situation X c) t doing_is c' a r' fed answer kept
        ∙ ap (λ l. l.fed got word) line_is

    pub answer_is : (a : Turn) → a ≡ answer_at X c (own_situation X c) got word
        → turn_answered a r ≡ (line_now X v).answer got word
    answer_is a is =
        answered_by (own_situation X c) t doing_is a is ∙ ap (λ l. l.answer got word) line_is

    pub chosen_is : (line_of X c (own_situation X c)).chosen got word
        ≡ (line_now X v).chosen got word
    chosen_is = chosen_by (own_situation X c) t doing_is ∙ ap (λ l. l.chosen got word) line_is

    pub row_is : (w : Sender E) → w ≡ (line_now X v).fed got word
        → (u : ℕ) → row_told w.core.layout w.reuse u ≡ row_told v.core.layout v.reuse u
    row_is w is u =
        row_stays (own_situation X c) t doing_is w (is ∙ sym (ap (λ l. l.fed got word) line_is)) u
        ∙ ap (λ y. row_told y.core.layout y.reuse u) same

    -- the election goes on
    module _ (answer : turn.Going ≡ answer_at X c (own_situation X c) got word) where
      pub goes_answer : turn.Going ≡ (line_now X v).answer got word
      goes_answer = sym (going_answered r) ∙ answer_is turn.Going answer

      pub goes_state : (width : ℕ) (Belongs : ℕ → E → Type 0) → ReuseKeeps width Belongs c r
          → (c' : Core E) → c' ≡ fed_at X c (own_situation X c) got word
          → sender c' r ≡ (line_now X v).fed got word
      goes_state width Belongs k c' fed =
          let w = elects_is (own_situation X c) t doing_is in
          let at = (tells X c (Elects t w.0) w.1).0 in
          state_is c' turn.Going r fed answer
          (stays_pinned r t (stands_in width Belongs c r k t w.0 at))

-- ---- where a step of an election lies
pub placed_at : (f : ℕ → ℕ) (o : Op) → register (on_place f o) ≡ f (register o)
placed_at f (Load y) = refl
placed_at f (Store y n) = refl
placed_at f (Add y n) = refl
placed_at f (Cas y n m) = refl

-- a word of it lies before the log
pub row_below : (x : Layout) (reuse : Option Reuse) (t at : ℕ) → t < x.rows
    → IfSome reuse (λ r. 0 < r.rows)
    → row_at x t ≤ at → at < row_at x t + x.width
    → row_start x reuse t + (at - row_at x t) < log_start x reuse
row_below x None t at early some above below =
    let row = row_within t x.rows x.width early in omega arith
row_below x (Some r) t at early some above below =
    let row = row_within (t % r.rows) r.rows x.width (mod-lt t some) in omega arith

-- a word of the row that is told is one of the bus
pub told_below : {E : Type 0} (width : ℕ) (Belongs : ℕ → E → Type 0) (v w : Sender E) → v ≡ w
    → ReuseKeeps width Belongs v.core v.reuse → (t : ℕ) (row : Row)
    → row ≡ row_told w.core.layout w.reuse t → (at : ℕ) → t < v.core.layout.rows
    → row_at v.core.layout t ≤ at → at < row_at v.core.layout t + v.core.layout.width
    → row.at + (at - row.apart) < words_all w
told_below {E} width Belongs v w same k t row is at early above below =
    let told : row ≡ row_told v.core.layout v.reuse t =
    is ∙ ap (λ y. row_told y.core.layout y.reuse t) (sym same) in
    let low = row_below v.core.layout v.reuse t at early (some v.reuse k) above below in
    let lies : row.at + (at - row.apart) < words_all v =
    subst (λ (y : Row). y.at + (at - y.apart) < words_all v) (sym told) (omega arith) in
    subst (λ y. row.at + (at - row.apart) < words_all y) same lies
  where
    some : (r : Option Reuse) → ReuseKeeps width Belongs v.core r → IfSome r (λ y. 0 < y.rows)
    some None k = tt
    some (Some r) k = let many = k.rows_some in omega arith

-- behind the length and the stage
pub told_behind : (x : Layout) (reuse : Option Reuse) (t : ℕ) (row : Row) → row ≡ row_told x reuse t
    → (at : ℕ) → 2 ≤ row.at + (at - row.apart)
told_behind x reuse t row is at =
    let far = start_behind reuse in
    let same : row.at ≡ row_start x reuse t = ap (λ (y : Row). y.at) is in
    omega arith
  where
    start_behind : (r : Option Reuse) → 2 ≤ row_start x r t
    start_behind None = omega arith
    start_behind (Some r) = omega arith

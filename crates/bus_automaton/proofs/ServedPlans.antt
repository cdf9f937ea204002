-- A bus of no plan is refused for two causes, and one that is served has sizes that an automaton
-- begins with.
use Rattle.std.proofs.Common.{
  ◌≡◌,
  ℕ,
  ◌<◌,
  ◌≤◌,
  Bool,
  true,
  false,
  Option,
  Some,
  None,
  refl,
  sym,
  ◌∙◌,
  subst,
  arith,
}
use Rattle.std.proofs.lemmas.Bool.{true≢false}
use Rattle.bus_tenure.specs.declared.pages.Page.{Page}
use Rattle.bus_adoptcommit.specs.declared.verdicts.Verdict.{Verdict}
use Rattle.bus_core.specs.declared.limits.TheConstants.{LEAST_ROWS_AGAIN}
use Rattle.bus_machine.proofs.Bases.NewSenders.{batch_within}
use Rattle.bus_machine.specs.Playing.{layout_passed, IsServed, ShapeOf, NewRefused, RefusedAfter}
use Rattle.bus_machine.specs.Playing.{RefusedWith, IsBatch}
use Rattle.bus_register.specs.declared.limits.TheConstants.{MOST_RECEIVERS}
use Rattle.bus_automaton.specs.Buses.{passers_in}
use Rattle.bus_machine.specs.Promise.{HasRows}
use Rattle.bus_register.specs.Protocol.{Protocol}
use Rattle.bus_world.specs.Log.{first_numbers}
use Rattle.bus_world.specs.World.{IsLayout}
use Rattle.bus_world.specs.declared.shapes.MakeFault.{MakeFault}
use Rattle.bus_world.specs.declared.shapes.MakeFault.TheVariants as make
use Rattle.bus_world.specs.declared.shapes.Shape.{Shape}

-- of two causes that differ, one says that a size is within its range, and the other that it is
-- beyond, or that a batch may have so many messages, and the other that it may not
one_cause : (n : ℕ) (shape : Shape) (reuse : Option ℕ) (why other : MakeFault)
    → NewRefused n shape reuse why → NewRefused n shape reuse other → why ≡ other
one_cause n shape reuse make.Senders make.Senders r s = refl
one_cause n shape reuse make.Receivers make.Receivers r s = refl
one_cause n shape reuse make.Rounds make.Rounds r s = refl
one_cause n shape reuse make.Rows make.Rows r s = refl
one_cause n shape reuse make.LogWords make.LogWords r s = refl
one_cause n shape reuse make.Batch make.Batch r s = refl
one_cause n shape reuse make.NoMemory make.NoMemory r s = refl
one_cause n shape reuse make.Batch make.NoMemory r s = absurd (r.1 s.1)
one_cause n shape reuse make.NoMemory make.Batch r s = absurd (s.1 r.1)
one_cause n shape reuse make.NotEnded other r s = absurd r
one_cause n shape reuse make.Numbers other r s = absurd r
one_cause n shape reuse why make.NotEnded r s = absurd s
one_cause n shape reuse why make.Numbers r s = absurd s
one_cause n shape reuse why other r s = absurd (omega arith)

one_after : (n : ℕ) (shape : Shape) (reuse : Option ℕ) (page : Page) (why other : MakeFault)
    → RefusedAfter n shape reuse page why
    → RefusedAfter n shape reuse page other → why ≡ other
one_after n shape reuse page make.Senders make.Senders r s = refl
one_after n shape reuse page make.Receivers make.Receivers r s = refl
one_after n shape reuse page make.Rounds make.Rounds r s = refl
one_after n shape reuse page make.Rows make.Rows r s = refl
one_after n shape reuse page make.LogWords make.LogWords r s = refl
one_after n shape reuse page make.Batch make.Batch r s = refl
one_after n shape reuse page make.NotEnded make.NotEnded r s = refl
one_after n shape reuse page make.Numbers make.Numbers r s = refl
one_after n shape reuse page make.NoMemory make.NoMemory r s = refl
one_after n shape reuse page make.Batch make.NotEnded r s = absurd (r.1 s.0.1)
one_after n shape reuse page make.Batch make.Numbers r s = absurd (r.1 s.0.1)
one_after n shape reuse page make.Batch make.NoMemory r s = absurd (r.1 s.0.1)
one_after n shape reuse page make.NotEnded make.Batch r s = absurd (s.1 r.0.1)
one_after n shape reuse page make.Numbers make.Batch r s = absurd (s.1 r.0.1)
one_after n shape reuse page make.NoMemory make.Batch r s = absurd (s.1 r.0.1)
one_after n shape reuse page make.NotEnded make.Numbers r s = absurd (true≢false (sym s.1 ∙ r.1))
one_after n shape reuse page make.NotEnded make.NoMemory r s =
    absurd (true≢false (sym s.1.ended ∙ r.1))
one_after n shape reuse page make.Numbers make.NotEnded r s = absurd (true≢false (sym r.1 ∙ s.1))
one_after n shape reuse page make.Numbers make.NoMemory r s =
    absurd (let low = s.1.low r.2 in let high = r.4 in omega arith)
one_after n shape reuse page make.NoMemory make.NotEnded r s =
    absurd (true≢false (sym r.1.ended ∙ s.1))
one_after n shape reuse page make.NoMemory make.Numbers r s =
    absurd (let low = r.1.low s.2 in let high = s.4 in omega arith)
one_after n shape reuse page why other r s = absurd (omega arith)

-- with a page, if with any
pub one_cause_after : (n : ℕ) (shape : Shape) (reuse : Option ℕ) (page : Option Page)
    (why other : MakeFault)
    → RefusedWith n shape reuse page why → RefusedWith n shape reuse page other → why ≡ other
one_cause_after n shape reuse None why other r s = one_cause n shape reuse why other r s
one_cause_after n shape reuse (Some page) why other r s = one_after n shape reuse page why other r s

pub is_layout : {S : Type 0} (P : Protocol S Bool Verdict) (shape : Shape) (reuse : Option ℕ)
    (passers : ℕ) → IsServed shape reuse → passers ≤ MOST_RECEIVERS → IsBatch passers shape.batch
    → IsLayout (layout_passed P shape reuse passers)
is_layout P shape None passers h few batch = record {
  senders = h.senders.1;
  rows = (let z = h.rows.1 in omega arith);
  capacity = (let z = h.log_words.1 in omega arith);
  passers = few;
  batch = batch_within passers shape.batch batch;
}
is_layout P shape (Some rows) passers h few batch = record {
  senders = h.senders.1;
  rows = omega arith;
  capacity = (let z = h.log_words.1 in omega arith);
  passers = few;
  batch = batch_within passers shape.batch batch;
}

-- ---- passed places
pub few_passers : (reuse : Option ℕ) (ring : Bool) (receivers : ℕ) → receivers ≤ MOST_RECEIVERS
    → passers_in reuse ring receivers ≤ MOST_RECEIVERS
few_passers None ring receivers few = omega arith
few_passers (Some rows) false receivers few = omega arith
few_passers (Some rows) true receivers few = few

-- a bus with a row for each tenure has none
pub none_apart : {S : Type 0} (P : Protocol S Bool Verdict) (shape : Shape) (reuse : Option ℕ)
    (ring : Bool) (receivers : ℕ) → reuse ≡ None
    → (layout_passed P shape reuse (passers_in reuse ring receivers)).passers ≡ 0
none_apart P shape None ring receivers e = refl
none_apart P shape (Some rows) ring receivers e = absurd (let bad : Some rows ≡ None = e in cc)

-- so many as the plan says
pub as_planned : {S : Type 0} (P : Protocol S Bool Verdict) (shape : Shape) (reuse : Option ℕ)
    (passers : ℕ) → (layout_passed P shape reuse passers).passers ≡ passers
as_planned P shape None passers = refl
as_planned P shape (Some rows) passers = refl

pub batch_planned : {S : Type 0} (P : Protocol S Bool Verdict) (shape : Shape) (reuse : Option ℕ)
    (passers : ℕ) → (layout_passed P shape reuse passers).batch ≡ shape.batch
batch_planned P shape None passers = refl
batch_planned P shape (Some rows) passers = refl

pub planned_low : {S : Type 0} (P : Protocol S Bool Verdict) (shape : Shape) (reuse : Option ℕ)
    (passers n : ℕ) → n < first_numbers passers shape.batch
    → n < first_numbers (layout_passed P shape reuse passers).passers
    (layout_passed P shape reuse passers).batch
planned_low P shape None passers n low = low
planned_low P shape (Some rows) passers n low = low

pub has_rows : (shape : Shape) (reuse : Option ℕ) → IsServed shape reuse → ShapeOf shape reuse
    → HasRows reuse
has_rows shape None h k = tt
has_rows shape (Some rows) h k = subst (λ n. LEAST_ROWS_AGAIN ≤ n) (sym k) h.rows.0

-- What is appended to senders at their starts, and a machine that has them.
use Rattle.std.proofs.Common.{slice_index, ◌≡◌, ◌⊎◌, inl, inr, ℕ, zero, suc, ◌+◌, ◌*◌, ◌<◌, ◌≤◌}
use Rattle.std.proofs.Common.{Bool, Option, Some, None, List, [], ◌∷◌, ◌++◌, length, slice_get}
use Rattle.std.proofs.Common.{arith, refl, sym, ◌∙◌, ap, subst}
use Rattle.std.specs.Prelude.{IfSome, replicate}
use Rattle.std.proofs.lemmas.Bool.{lt-ltb}
use Rattle.std.proofs.lemmas.List.{length-append}
use Rattle.std.proofs.lemmas.Option.{slice_get_within}
use Rattle.std.proofs.lemmas.Grind.{common_steps}
use Rattle.bus_adoptcommit.specs.declared.verdicts.Verdict.{Verdict}
use Rattle.bus_batch.specs.Reading.{HasRead}
use Rattle.bus_core.specs.declared.limits.TheConstants.{PASSED_APART}
use Rattle.bus_core.specs.Keeping.{new_sender}
use Rattle.bus_core.specs.Senders.{Sender}
use Rattle.bus_deliverylog.specs.Receiving.{Receiving}
use Rattle.bus_register.proofs.PushLaws.{each_more}
use Rattle.bus_register.specs.Protocol.{Protocol}
use Rattle.bus_tenure.specs.Core.{Election, Layout}
use Rattle.bus_tenure.specs.declared.pages.Page.{Page}
use Rattle.bus_world.specs.Log.{first_numbers, ring_numbers}
use Rattle.bus_world.specs.Starting.{AreNewReceivers, passed_behind}
use Rattle.bus_register.specs.declared.limits.TheConstants.{MOST_MESSAGES, MOST_SENDERS}
use Rattle.bus_world.proofs.Beginning.{zeros}
use Rattle.bus_world.specs.World.{no_bases, no_stops, AreBases, first_page}
use Rattle.bus_world.specs.declared.limits.TheConstants.{FIRST_NUMBERS}
use Rattle.bus_world.specs.declared.shapes.MakeFault.{MakeFault}
use Rattle.bus_world.specs.declared.shapes.MakeFault.TheVariants as make
use Rattle.bus_world.specs.declared.shapes.Shape.{Shape}
use Rattle.bus_machine.proofs.Bases.AtNone.{passed_first}
use Rattle.bus_machine.specs.Machine.{Machine, IsNew, New, log_place, no_machine_trails}
use Rattle.bus_machine.specs.Machine.{passed_by, passers_place}
use Rattle.bus_machine.specs.Playing.{layout_of, layout_passed, first_passed, machine_of, ShapeOf}
use Rattle.bus_world.specs.Playing.{Within}
use Rattle.bus_machine.specs.Playing.{IsServed, IsHeld, AreRows, MayGoOn, RefusedWith}
use Rattle.bus_machine.specs.Playing.{IsBatch, MayNotGoOn}
use Rattle.bus_machine.specs.Turning.{AreNewSenders}

pub no_senders :
    {E : Type 0} (x : Layout) (reuse : Option ℕ) (bases : List ℕ) (senders : List (Sender E))
    → senders ≡ [] → AreNewSenders x reuse bases 0 senders
no_senders {E} x reuse bases senders none = grind (arith, common_steps, length, slice_get)

pub one_more_sender : {E : Type 0} (x : Layout) (reuse : Option ℕ) (bases : List ℕ) (many : ℕ)
    (senders : List (Sender E)) (v : Sender E) → AreNewSenders x reuse bases many senders
    → v ≡ new_sender x many reuse (slice_index bases many)
    → AreNewSenders x reuse bases (many + 1) (senders ++ v ∷ [])
one_more_sender x reuse bases many senders v h e = record {
  many_are = length-append senders (v ∷ []) ∙ (let z = h.many_are in omega arith);
  each = each_more (λ p y. (p < many + 1) × (y ≡ new_sender x p reuse (slice_index bases p)))
      senders v (λ p y i. let k = h.each p y i in (let z = k.0 in omega arith, k.1)) (
        let z = h.many_are in omega arith,
        e ∙ ap (λ p. new_sender x p reuse (slice_index bases p)) (sym h.many_are),
      );
}

-- the sizes of a shape whose rows have so many words
abbrev pub with_width : Shape → ℕ → Layout
with_width shape width = record {
  senders = shape.senders;
  rounds = shape.rounds;
  rows = shape.rows;
  width = width;
  capacity = shape.log_words;
  passers = 0;
  batch = shape.batch;
}

pub capacity_of : {S : Type 0} (P : Protocol S Bool Verdict) (shape : Shape) (reuse : Option ℕ)
    (passers : ℕ) → (layout_passed P shape reuse passers).capacity ≡ shape.log_words
capacity_of P shape None passers = refl
capacity_of P shape (Some rows) passers = refl

pub passers_of : {S : Type 0} (P : Protocol S Bool Verdict) (shape : Shape) (reuse : Option ℕ)
    (passers : ℕ) → (layout_passed P shape reuse passers).passers ≡ passers
passers_of P shape None passers = refl
passers_of P shape (Some rows) passers = refl

pub batch_of : {S : Type 0} (P : Protocol S Bool Verdict) (shape : Shape) (reuse : Option ℕ)
    (passers : ℕ) → (layout_passed P shape reuse passers).batch ≡ shape.batch
batch_of P shape None passers = refl
batch_of P shape (Some rows) passers = refl

pub senders_are : {S : Type 0} (P : Protocol S Bool Verdict) (shape : Shape) (reuse : Option ℕ)
    (passers : ℕ) → (layout_passed P shape reuse passers).senders ≡ shape.senders
senders_are P shape None passers = refl
senders_are P shape (Some rows) passers = refl

-- below which numbers begin where there are passed places
numbers_some : (passers batch : ℕ) → 0 < passers
    → first_numbers passers batch ≡ ring_numbers batch
numbers_some zero batch some = absurd (omega arith)
numbers_some (suc n) batch some = refl

-- a batch may have one message or more, and no more than any frame
pub batch_within : (passers batch : ℕ) → IsBatch passers batch → Within 1 MOST_MESSAGES batch
batch_within zero batch is = (omega arith, omega arith)
batch_within (suc n) batch is = is

-- so some number is low enough, and each that is leaves room for a sitting
pub numbers_within : (passers batch : ℕ) → IsBatch passers batch
    → (0 < first_numbers passers batch) × (first_numbers passers batch ≤ FIRST_NUMBERS)
numbers_within zero batch is = (omega arith, omega arith)
numbers_within (suc n) batch is =
    let few = is.1 in let some = is.0 in (omega arith, omega arith)

-- the numbers of a first sitting are below it
pub no_bases_low : (passers batch s : ℕ) → IsBatch passers batch
    → slice_index no_bases s < first_numbers passers batch
no_bases_low passers batch s is =
    let none = zeros MOST_SENDERS s in
    let some = (numbers_within passers batch is).0 in omega arith

-- passed places lie behind the length and before the log
pub passed_apart : (shape : Shape) (passers first : ℕ) (o : Option ℕ)
    → o ≡ first_passed first passers → (passers ≡ 0) ⊎ (passers ≡ shape.receivers)
    → 2 ≤ first
    → IfSome o (λ at. (0 < at)
    × (at + PASSED_APART * shape.receivers ≤ first + PASSED_APART * passers))
passed_apart shape passers first o is each low = grind (arith, common_steps)

-- where there are so many passed places, the first of which stands behind the rows
module _ {S : Type 0} (P : Protocol S Bool Verdict) (shape : Shape) (passers w first : ℕ)
    (width : w ≡ (layout_of P shape None).width) where
  -- where the log begins
  log_there : (reuse : Option ℕ) → (reuse ≡ None → passers ≡ 0)
      → first ≡ log_place (with_width shape w) reuse
      → first + PASSED_APART * passers ≡ log_place (layout_passed P shape reuse passers) reuse
  log_there None apart at = grind (arith, common_steps)
  log_there (Some rows) apart at = grind (arith, common_steps)

  first_there : (reuse : Option ℕ) → (reuse ≡ None → passers ≡ 0)
      → first ≡ log_place (with_width shape w) reuse → 0 < passers
      → first ≡ passers_place (layout_passed P shape reuse passers) reuse
  first_there None apart at some = absurd (let none = apart refl in omega arith)
  first_there (Some rows) apart at some =
      at ∙ ap (λ n. 2 + shape.senders + rows * n + PASSED_APART * 0) width ∙ omega arith

  -- each receiver has its own
  passed_there : (reuse : Option ℕ) → (reuse ≡ None → passers ≡ 0)
      → first ≡ log_place (with_width shape w) reuse → (r : ℕ) → (passers ≡ 0) ⊎ (r < passers)
      → passed_behind (first_passed first passers) r
      ≡ passed_by (layout_passed P shape reuse passers) reuse r
  passed_there reuse apart at r many =
      grind (arith, common_steps, passed_first, passers_of, first_there, lt-ltb)

module _ {S : Type 0} (P : Protocol S Bool Verdict) (shape : Shape) (reuse : Option ℕ)
    (passers w first : ℕ)
    (width : w ≡ (layout_of P shape None).width)
    (apart : reuse ≡ None → passers ≡ 0)
    (each : (passers ≡ 0) ⊎ (passers ≡ shape.receivers))
    (at : first ≡ log_place (with_width shape w) reuse) where
  abbrev layout : Layout
  layout = layout_passed P shape reuse passers

  abbrev log : ℕ
  log = first + PASSED_APART * passers

  log_is : log ≡ log_place layout reuse
  log_is = log_there P shape passers w first width reuse apart at

  -- a receiver that there is has a passed place, if there are any
  has_place : (r : ℕ) → r < shape.receivers → (passers ≡ 0) ⊎ (r < passers)
  has_place r low = elim each [ inl none ↦ inl none | inr all ↦ inr (omega arith) ]

  pub made_new : {E : Type 0} (bases : List ℕ) → AreBases bases
      → ((s : ℕ) → slice_index bases s < first_numbers passers shape.batch) → (home : Option Page)
      → home ≡ Some (first_page bases) → (words : List ℕ)
      → words ≡ replicate (log + shape.log_words) 0 → (senders : List (Sender E))
      → AreNewSenders layout reuse bases shape.senders senders
      → (receivers : List Receiving)
      → AreNewReceivers shape.senders log shape.log_words (first_passed first passers)
      shape.receivers receivers → (stopped : List Bool)
      → stopped ≡ no_stops → (owners : List ℕ) → owners ≡ []
      → IsNew (machine_of P shape reuse passers bases words home senders receivers stopped owners)
  made_new bases are low home home_is words words_are senders new receivers readers stopped nobody
      owners none = record {
        bases_are = are;
        words = grind (arith, common_steps, log_is, capacity_of);
        home = home_is;
        senders = λ p v e. grind (arith, common_steps, senders_are);
        receivers = λ r v e.
            let i = readers.each r v e in
            record {
              senders_are = i.senders_are ∙ sym (senders_are P shape reuse passers);
              log_is = i.log_is ∙ log_is;
              length_is = i.length_is;
              words_are = i.words_are ∙ sym (capacity_of P shape reuse passers);
              known = i.known;
              place = i.place;
              going = i.going;
              read = subst (λ n. HasRead n [] [] v.frames)
                  (sym (senders_are P shape reuse passers)) i.read;
              passed_is = grind (arith, common_steps, passed_there, has_place, within);
              unpassed = i.unpassed;
              stays = i.stays;
            };
        apart = λ fresh. passers_of P shape reuse passers ∙ apart fresh;
        many = λ r v e. grind (arith, common_steps, has_place, within, passers_of);
        ring_bases = λ some s. grind (
          arith,
          common_steps,
          slice_index,
          numbers_some,
          passers_of,
          batch_of,
        );
        stopped = nobody;
        owners = none;
      }
    where
      within : (receivers : List Receiving)
          → AreNewReceivers shape.senders log shape.log_words (first_passed first passers)
          shape.receivers receivers → (r : ℕ) (v : Receiving) → slice_get receivers r ≡ Some v
          → r < shape.receivers
      within receivers readers r v e = grind (arith, common_steps, slice_get_within)

-- such a machine may be held
rows_served : {S : Type 0} (P : Protocol S Bool Verdict) (shape : Shape) (reuse : Option ℕ)
    (passers : ℕ) → IsServed shape reuse → ShapeOf shape reuse
    → AreRows (layout_passed P shape reuse passers) reuse
rows_served P shape None passers served same = served.rows.1
rows_served P shape (Some rows) passers served same = grind (arith, common_steps)

pub made_held :
    {E S : Type 0} (X : Election E) (P : Protocol S Bool Verdict) (shape : Shape) (reuse : Option ℕ)
    (passers : ℕ) → (passers ≡ 0) ⊎ (passers ≡ shape.receivers)
    → IsServed shape reuse → IsBatch passers shape.batch → ShapeOf shape reuse → (m : Machine E)
    → IsNew m
    → m.layout ≡ layout_passed P shape reuse passers → m.reuse ≡ reuse
    → length m.senders ≡ shape.senders → IsHeld X m
made_held X P shape reuse passers each served batch same m new layout_is reuse_is many = record {
  senders_few = grind (arith, common_steps, senders_are);
  rows = grind (arith, common_steps, rows_served);
  capacity_some = grind (arith, common_steps, capacity_of);
  capacity_few = grind (arith, common_steps, capacity_of);
  passers_few = grind (arith, common_steps, passers_of);
  batch = subst (λ n. IsBatch n m.layout.batch)
      (sym (ap (λ (x : Layout). x.passers) layout_is ∙ passers_of P shape reuse passers))
      (subst (IsBatch passers)
      (sym (ap (λ (x : Layout). x.batch) layout_is ∙ batch_of P shape reuse passers)) batch);
  senders =
      many ∙ sym (ap (λ (x : Layout). x.senders) layout_is ∙ senders_are P shape reuse passers);
  trails = no_machine_trails;
  reached = New m new;
}

-- ---- why none is made
-- where its sizes are served, and a sitting with such batches does not begin with this page
pub page_after : (shape : Shape) (reuse : Option ℕ) (passers : ℕ) (page : Option Page)
    (why : MakeFault) → IsServed shape reuse → MayNotGoOn passers shape.batch page why
    → RefusedWith passers shape reuse page why
page_after shape reuse passers page make.Senders served h = absurd h
page_after shape reuse passers page make.Receivers served h = absurd h
page_after shape reuse passers page make.Rounds served h = absurd h
page_after shape reuse passers page make.Rows served h = absurd h
page_after shape reuse passers page make.LogWords served h = absurd h
page_after shape reuse passers None make.Batch served h = (served, h)
page_after shape reuse passers (Some page) make.Batch served h = (served, h)
page_after shape reuse passers None make.NotEnded served h = absurd h
page_after shape reuse passers (Some page) make.NotEnded served h = ((served, h.0), h.1)
page_after shape reuse passers None make.Numbers served h = absurd h
page_after shape reuse passers (Some page) make.Numbers served h =
    ((served, h.0), h.1, h.2, h.3, h.4)
page_after shape reuse passers page make.NoMemory served h = absurd h

-- where memory is refused
pub no_memory_after : (shape : Shape) (reuse : Option ℕ) (passers : ℕ) (page : Option Page)
    → IsServed shape reuse → IsBatch passers shape.batch → MayGoOn passers shape.batch page
    → RefusedWith passers shape reuse page make.NoMemory
no_memory_after shape reuse passers None served batch follows = (served, batch)
no_memory_after shape reuse passers (Some page) served batch follows = ((served, batch), follows)

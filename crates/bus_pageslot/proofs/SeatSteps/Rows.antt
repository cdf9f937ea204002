-- Turns in a row, and the last of them.
use Rattle.std.proofs.Common.{◌≡◌, ℕ, ◌+◌, ◌<◌, arith, Bool, true, false, sym, ◌∙◌, subst}
use Rattle.std.proofs.lemmas.Bool.{true≢false}
use Rattle.std.proofs.lemmas.Grind.{common_steps}
use Rattle.bus_tenure.specs.Classes.{still_goes}
use Rattle.bus_tenure.specs.declared.turns.Turn.{Turn}
use Rattle.bus_tenure.specs.declared.turns.Turn.TheVariants.{Going}
use Rattle.bus_world.specs.Headline.{puts}
use Rattle.rand_core.specs.Stream.{Stream}
use Rattle.bus_automaton.specs.Lawful.{ProcessLaws}
use Rattle.bus_automaton.specs.Processes.{Process}
use Rattle.bus_pageslot.specs.Seats.{SenderSeat, actions_of}
use Rattle.bus_pageslot.specs.Turns.{Tellings, AsksOn, DrawsOn, TurnsDrawing, GoesPlainly, NoneYet}
use Rattle.bus_pageslot.specs.Turns.{Next, TakesPlainly, TakesSome, TakesOn, Again}
use Rattle.bus_pageslot.proofs.SeatSteps.Plain.{goes_asking, goes_drawing, goes_putting}
use Rattle.bus_pageslot.proofs.SeatSteps.Plain.{takes_plainly}

-- what led to the last turn of a row, and that turn
pub record LastOf {C F : Type 0} (P : Process C) (T : Tellings C) (Tells : F → Bool → F → Type 0)
    (first : SenderSeat C) (given f : F) (words : Stream) (at : SenderSeat C) (answer : Turn)
    (new : SenderSeat C) (left : Stream) : Type 0 where
  pub old : SenderSeat C
  pub before : Stream
  pub asks : AsksOn P T Tells first given old f
  pub draws : DrawsOn P T first words old before
  pub same : puts (actions_of P old) ≡ puts (actions_of P at)
  pub last : TurnsDrawing P T old before answer new left

-- nobody asks behind the others, which all answer Going and draw no word
pub last_of : {C F : Type 0} {P : Process C} {T : Tellings C} {Tells : F → Bool → F → Type 0}
    {first : SenderSeat C} {given f : F} {words : Stream} {at : SenderSeat C} {before : Stream}
    → ProcessLaws P → (answer : Turn) (new : SenderSeat C) (left : Stream)
    → AsksOn P T Tells first given at f → DrawsOn P T first words at before
    → TakesSome P T at before answer new left
    → LastOf P T Tells first given f words at answer new left
last_of {P = P} {T = T} {Tells = Tells} {first = first} {given = given} {f = f} {words = words}
    {at = at} {before = before} K answer new left asks draws some = record {
      old = some.old;
      before = before;
      asks = goes_asking P T Tells first given f at some.n some.old asks some.before;
      draws = goes_drawing P T first words before at some.n some.old draws some.before;
      same = goes_putting P T K at some.n some.old some.before;
      last = some.last;
    }

-- whatever was so before each
pub goes_any : {C : Type 0} {P : Process C} {T : Tellings C} {So : C → Type 0}
    {first : SenderSeat C} (n : ℕ) (new : SenderSeat C) → GoesPlainly P T So first n new
    → GoesPlainly P T (λ c. Unit {0}) first n new
goes_any _ _ NoneYet = NoneYet
goes_any _ _ (Next n old new goes one) = Next n old new (goes_any n old goes) (record {
  plain = tt;
  wordless = one.wordless;
  turned = one.turned;
})

pub takes_any : {C : Type 0} {P : Process C} {T : Tellings C} {So : C → Type 0}
    {first : SenderSeat C} (many : ℕ) (answer : Turn) (new : SenderSeat C)
    → TakesPlainly P T So first many answer new
    → TakesPlainly P T (λ c. Unit {0}) first many answer new
takes_any many answer new takes = record {
  n = takes.n;
  old = takes.old;
  before = goes_any takes.n takes.old takes.before;
  so = tt;
  wordless = takes.wordless;
  turned = takes.turned;
  all = takes.all;
}

-- one or more that all answered Going, of which the last did
pub goes_last : {C : Type 0} {P : Process C} {T : Tellings C} {So : C → Type 0}
    {first : SenderSeat C} (many : ℕ) (new : SenderSeat C) → GoesPlainly P T So first many new
    → 0 < many → TakesPlainly P T So first many Going new
goes_last _ _ NoneYet some = absurd (omega (arith, some))
goes_last _ _ (Next n old new goes one) some = record {
  n = n;
  old = old;
  before = goes;
  so = one.plain;
  wordless = one.wordless;
  turned = one.turned;
  all = omega arith;
}

-- up to one that asks for a word, where the first one does not
pub goes_some : {C : Type 0} {P : Process C} {T : Tellings C} {So : C → Type 0}
    {first : SenderSeat C} (many : ℕ) (new : SenderSeat C) → GoesPlainly P T So first many new
    → P.wants_word first.core ≡ false → P.wants_word new.core ≡ true → 0 < many
goes_some _ _ NoneYet wordless wants = absurd (true≢false (sym wants ∙ wordless))
goes_some _ _ (Next n old new goes one) wordless wants = omega arith

-- they draw no word
pub takes_some : {C : Type 0} {P : Process C} {T : Tellings C} {first : SenderSeat C}
    (many : ℕ) (answer : Turn) (new : SenderSeat C) (words : Stream)
    → TakesPlainly P T (λ c. Unit {0}) first many answer new
    → TakesSome P T first words answer new words
takes_some many answer new words takes = record {
  n = takes.n;
  old = takes.old;
  before = takes.before;
  last = grind (arith, common_steps);
}

-- so many more behind a turn that answered Going
pub takes_more : {C : Type 0} {P : Process C} {T : Tellings C} {So : C → Type 0}
    {first mid : SenderSeat C} {word n : ℕ} (before : Turn) (many : ℕ) (answer : Turn)
    (new : SenderSeat C) → TakesOn P T first word n before mid → still_goes before ≡ true
    → TakesPlainly P T So mid many answer new → TakesOn P T first word (n + many) answer new
takes_more {P = P} {T = T} {first = first} {word = word} {n = n} before many answer new on goes
    takes =
    let same : n + takes.n + 1 ≡ n + many = let all = takes.all in omega arith in
    subst (λ m. TakesOn P T first word m answer new) same
    (Again (n + takes.n) before takes.old 0 answer new
    (takes_plainly before takes.n takes.old on goes takes.before) goes takes.wordless takes.turned)

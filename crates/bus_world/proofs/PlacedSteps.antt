-- A step that is taken on another word, and the situation that is due.
use Rattle.std.proofs.Common.{◌≡◌, ℕ, Option, Some, None, refl, ap, arith}
use Rattle.std.proofs.lemmas.Option.{same_Some}
use Rattle.std.proofs.lemmas.Grind.{common_steps}
use Rattle.bus_register.specs.declared.registers.Op.{Op}
use Rattle.bus_register.specs.declared.registers.Op.TheVariants.{Load, Store, Add, Cas}
use Rattle.bus_register.specs.Words.{register}
use Rattle.bus_presence.specs.Reclaimers.{Reclaiming}
use Rattle.bus_core.specs.Private.ParticipantTable.{Goes, Reads, due_beside, passed_due}
use Rattle.bus_core.specs.declared.reuses.Passing.{Passing}
use Rattle.bus_core.specs.Reusing.Turns.{on_place, op_placed}
use Rattle.bus_tenure.specs.Situations.{Situation, IsClosed, IsIdle, IsSpent, LooksAtStage, Elects}
use Rattle.bus_tenure.specs.Situations.{TakesPage, AwaitsPage, StoresWord, StoresLength, GivesBack}
use Rattle.bus_tenure.specs.Situations.{HasHanded}
use Rattle.bus_tenure.specs.declared.pages.Page.{Page}
use Rattle.bus_tenure.specs.declared.phases.Reason.TheVariants.{Sent, FoundEnd, NoRoom}
use Rattle.bus_world.specs.Turning.{number_found}
use Rattle.bus_world.specs.Private.CyclicProtocols.{word_found}

pub same_register : (f : ℕ → ℕ) (o : Op) → register (on_place f o) ≡ f (register o)
same_register f (Load at) = refl
same_register f (Store at n) = refl
same_register f (Add at n) = refl
same_register f (Cas at n m) = refl

pub placed_found : (f : ℕ → ℕ) (w : ℕ → ℕ) (d : Option Op)
    → number_found w (op_placed f d) ≡ word_found f w d
placed_found f w None = refl
placed_found f w (Some o) = ap w (same_register f o)

-- who goes on as a sender is in its situation
pub due_goes : {E : Type 0} (v : Option Op) (l : Option Passing) (s : Option Reclaiming)
    (z w : Situation E) → due_beside v l s z ≡ Goes w → z ≡ w
due_goes (Some p) l s z w e = absurd cc
due_goes None l s z w e = grind (arith, common_steps)

-- a passed place is loaded only of who would give the page of that tenure back for want of room,
-- with these left to load
pub record IsPassing {E : Type 0} (z : Situation E) (l : Option Passing) (t : ℕ) (p : Passing) :
    Type 0 where
  pub page : Page
  pub is : z ≡ GivesBack t page NoRoom
  pub same : l ≡ Some p

pub passes : {E : Type 0} (z : Situation E) (l : Option Passing) (t : ℕ) (p : Passing)
    → passed_due z l ≡ Some (t, p) → IsPassing z l t p
passes (GivesBack u page Sent) l t p e = absurd cc
passes (GivesBack u page FoundEnd) l t p e = absurd cc
passes (GivesBack u page NoRoom) None t p e = absurd cc
passes (GivesBack u page NoRoom) (Some q) t p e = grind (arith, common_steps, same_Some)
passes IsClosed l t p e = absurd cc
passes IsIdle l t p e = absurd cc
passes IsSpent l t p e = absurd cc
passes LooksAtStage l t p e = absurd cc
passes (Elects u f) l t p e = absurd cc
passes (TakesPage u) l t p e = absurd cc
passes (AwaitsPage u) l t p e = absurd cc
passes (StoresWord u page stored) l t p e = absurd cc
passes (StoresLength u page stored) l t p e = absurd cc
passes (HasHanded u reason) l t p e = absurd cc

pub due_reads : {E : Type 0} (v : Option Op) (l : Option Passing) (s : Option Reclaiming)
    (z : Situation E) (t : ℕ) (p : Passing) → due_beside v l s z ≡ Reads t p → IsPassing z l t p
due_reads (Some o) l s z t p e = absurd cc
due_reads None l s z t p e = grind (arith, common_steps, passes)

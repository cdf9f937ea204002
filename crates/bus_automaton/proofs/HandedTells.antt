-- What the answer of a step tells once the page is out of a sender's hands, it tells of the sender
-- before that.
use Rattle.std.proofs.Common.{◌≡◌, ℕ, ◌+◌, ◌*◌, Some, None, List, [], ◌∷◌, refl, sym, ap, subst}
use Rattle.bus_core.specs.Senders.{Sender, Situation, Does, situation}
use Rattle.bus_core.specs.Table.{line, line_now}
use Rattle.bus_core.specs.Telling.{FeedTells}
use Rattle.bus_machine.proofs.Memory.HandTells.{tells_before}
use Rattle.bus_machine.proofs.Calls.TurnLaws.{handed_by}
use Rattle.bus_machine.specs.Machine.{moved}
use Rattle.bus_machine.specs.Telling.{StepTells}
use Rattle.bus_register.specs.declared.registers.Op.{Op}
use Rattle.bus_register.specs.declared.registers.Op.TheVariants.{Store}
use Rattle.bus_tenure.specs.Core.{Election, stage_at}
use Rattle.bus_tenure.specs.Situations.{GivesBack, situation_of}
use Rattle.bus_tenure.specs.declared.pages.Page.{Page}
use Rattle.bus_tenure.specs.declared.phases.Phase.TheVariants as phase
use Rattle.bus_tenure.specs.declared.phases.Reason.{Reason}
use Rattle.bus_tenure.specs.declared.turns.Turn.{Turn as Answered}
use Rattle.bus_world.specs.Turning.{before_step}

module _ {E : Type 0} (X : Election E) (v : Sender E) (got word : ℕ) (a : Answered) where
  -- words of which the stage is the number that was found
  abbrev cells : List ℕ
  cells = 0 ∷ got ∷ []

  -- of a sender that gives the page back
  given_tells : (t : ℕ) (page : Page) (reason : Reason)
      → situation X v ≡ Does (GivesBack t page reason)
      → FeedTells X (record v { core = record v.core { phase = phase.Giving t reason } }) got word a
      → FeedTells X v got word a
  given_tells t page reason i w =
      let g : Sender E = record v { core = record v.core { phase = phase.Giving t reason } } in
      let o : Op = Store record { 0 = stage_at } (2 * t + 2) in
      let now : (line_now X g).op word ≡ Some o =
      ap (λ z. (line X g z).op word)
      (handed_by v.core.layout.passers v.reuse (situation_of X v.core) (GivesBack t page reason) t
      reason i) in
      subst (λ p. StepTells X cells v p word a) (ap (λ z. (line X v z).op word) i)
      (tells_before X v word cells a (Does (GivesBack t page reason)) i
      (subst (λ p. StepTells X cells g p word a) (sym now) w))

  -- and so by the line of any situation
  handed_by_line : (z : Situation E) → situation X v ≡ z
      → FeedTells X (moved (before_step (line X v z).move) None v) got word a
      → FeedTells X v got word a
  handed_by_line (Does (GivesBack t page reason)) i w = given_tells t page reason i w
  handed_by_line (Does z) i w = w
  handed_by_line z i w = w

  -- by the line of its own situation
  pub handed_tells : FeedTells X (moved (before_step (line_now X v).move) None v) got word a
      → FeedTells X v got word a
  handed_tells w = handed_by_line (situation X v) refl w

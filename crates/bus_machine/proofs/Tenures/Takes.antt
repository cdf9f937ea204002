-- Who takes the page is told so by the answer of its turn, and nobody else.
use Rattle.std.proofs.Common.{◌≡◌, ℕ, List, [], ◌∷◌, ◌++◌, Option, Some, None, Bool, true, false}
use Rattle.std.proofs.Common.{cond, refl, sym, arith}
use Rattle.std.proofs.lemmas.Bool.{true≢false}
use Rattle.std.proofs.lemmas.Grind.{common_steps}
use Rattle.bus_core.specs.Senders.{Sender, Situation, Does, Announces, Validates, Unpins}
use Rattle.bus_core.specs.Senders.{Withdraws, Scans, Clears, ReadsPassed}
use Rattle.bus_core.specs.Table.{line, answer_elected, lost_of}
use Rattle.bus_core.specs.declared.reuses.Reuse.{Reuse}
use Rattle.bus_core.specs.Reusing.Turns.{answer_of_loss, answer_of_reclaim}
use Rattle.bus_presence.specs.Reclaimers.{behind_of}
use Rattle.bus_presence.specs.declared.reclaimers.Behind.{Behind}
use Rattle.bus_register.specs.declared.registers.SenderNo.{SenderNo}
use Rattle.bus_tenure.specs.Core.{Election}
use Rattle.bus_tenure.specs.Situations.{LooksAtStage, Elects, TakesPage, GivesBack, HasHanded}
use Rattle.bus_tenure.specs.declared.turns.Turn.TheVariants as turn
use Rattle.bus_world.proofs.PlayingLaws.{owners_told}
use Rattle.bus_world.specs.Turning.{owners_by}

module _ {E : Type 0} (X : Election E) (v : Sender E) where
  loss_told : (t s : ℕ) (owners : List ℕ) (l : Option SenderNo)
      → owners ≡ owners_by (answer_of_loss t l) s owners
  loss_told t s owners None = refl
  loss_told t s owners (Some o) = refl

  reclaimer_told : (s : ℕ) (owners : List ℕ) (b : Option Behind)
      → owners ≡ owners_by (answer_of_reclaim b) s owners
  reclaimer_told s owners None = refl
  reclaimer_told s owners (Some b) = refl

  elected_told : (t : ℕ) (e : E) (s : ℕ) (owners : List ℕ) (got word : ℕ) (r : Option Reuse)
      → owners ≡ owners_by (answer_elected v.core r t (X.owner (X.fed e got word))) s owners
  elected_told t e s owners got word None = owners_told X v.core s owners (Elects t e) got word
  elected_told t e s owners got word (Some r) = refl

  pub takes_told : (z : Situation E) (s : ℕ) (owners : List ℕ) (got word : ℕ)
      → cond (line X v z).takes (owners ++ s ∷ []) owners
      ≡ owners_by ((line X v z).answer got word) s owners
  takes_told (Does LooksAtStage) s owners got word =
      owners_told X v.core s owners LooksAtStage got word
  takes_told (Does (Elects t e)) s owners got word = elected_told t e s owners got word v.reuse
  takes_told (Does (GivesBack t page reason)) s owners got word =
      owners_told X v.core s owners (GivesBack t page reason) got word
  takes_told (Does (HasHanded t reason)) s owners got word =
      owners_told X v.core s owners (HasHanded t reason) got word
  takes_told (Does z) s owners got word = refl
  takes_told (Announces t) s owners got word = refl
  takes_told (Validates t) s owners got word = refl
  takes_told (Unpins t) s owners got word = loss_told t s owners (lost_of v.reuse)
  takes_told (Withdraws t) s owners got word = refl
  takes_told (Scans r) s owners got word = reclaimer_told s owners (behind_of r got)
  takes_told (Clears r) s owners got word = reclaimer_told s owners (behind_of r got)
  takes_told (ReadsPassed t p) s owners got word = refl

-- ---- who answers Own takes the page of that tenure
module _ {E : Type 0} (X : Election E) (v : Sender E) (t : ℕ) where
  -- the page is taken with one situation's step
  by_takes : (z : Situation E) → (line X v z).takes ≡ true → (u : ℕ) × (z ≡ Does (TakesPage u))
  by_takes (Does (TakesPage u)) e = (u, refl)
  by_takes (Does z) e = absurd (true≢false (sym e))
  by_takes (Announces u) e = absurd (true≢false (sym e))
  by_takes (Validates u) e = absurd (true≢false (sym e))
  by_takes (Unpins u) e = absurd (true≢false (sym e))
  by_takes (Withdraws u) e = absurd (true≢false (sym e))
  by_takes (Scans s) e = absurd (true≢false (sym e))
  by_takes (Clears s) e = absurd (true≢false (sym e))
  by_takes (ReadsPassed u p) e = absurd (true≢false (sym e))

  is_taken : (b : Bool) (p : ℕ) → cond b (p ∷ []) [] ≡ p ∷ [] → b ≡ true
  is_taken true p e = refl
  is_taken false p e = absurd (let bad : [] ≡ p ∷ [] = e in cc)

  same_own : (u : ℕ) → turn.Own u ≡ turn.Own t → u ≡ t
  same_own u e = cc

  pub owns_page : (z : Situation E) (got word : ℕ) → (line X v z).answer got word ≡ turn.Own t
      → z ≡ Does (TakesPage t)
  owns_page z got word own = grind (arith, common_steps, by_takes, is_taken, takes_told, same_own)

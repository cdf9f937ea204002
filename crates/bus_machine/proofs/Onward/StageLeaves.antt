-- The stage leaves that of an open tenure only by who takes its page.
use Rattle.std.proofs.Common.{◌≡◌, ◌≢◌, ℕ, ◌+◌, ◌*◌, Option, Some, None, length, slice_get}
use Rattle.std.proofs.Common.{slice_index, slice_set, arith, refl, ◌∙◌, ap}
use Rattle.std.proofs.lemmas.List.{get_or-set_same}
use Rattle.std.proofs.lemmas.Grind.{common_steps}
use Rattle.bus_core.specs.Senders.{Sender, Situation, Does, Announces, Validates, Unpins}
use Rattle.bus_core.specs.Senders.{Withdraws, Scans, Clears, ReadsPassed, situation}
use Rattle.bus_core.specs.Table.{line}
use Rattle.bus_core.specs.Reusing.Keeping.{held_of}
use Rattle.bus_machine.proofs.Tenures.Own.{own_of}
use Rattle.bus_machine.specs.Machine.{Machine, Trails, Happens, TakesTurn, has_stopped, stage_of}
use Rattle.bus_machine.specs.Promise.{IsPromised, IsPagedBy}
use Rattle.bus_machine.specs.Telling.{Tells, TakesStage, OpensOnly}
use Rattle.bus_tenure.proofs.Situated.{tells as phase_tells}
use Rattle.bus_tenure.specs.Core.{Election, stage_at}
use Rattle.bus_tenure.specs.Situations.{IsClosed, IsIdle, IsSpent, LooksAtStage, Elects, TakesPage}
use Rattle.bus_tenure.specs.Situations.{AwaitsPage, StoresWord, StoresLength, GivesBack, HasHanded}
use Rattle.bus_tenure.specs.declared.pages.Page.{Page}
use Rattle.bus_world.specs.Turning.{home_moved}
use Rattle.bus_world.specs.World.{Event, Put, Ask, Turn, Recv, Stop, Gone}
use Rattle.bus_world.specs.declared.events.Answer.{Answer}
use Rattle.bus_world.proofs.Stopping.{shown_there}

-- an even number is no odd one
even_odd : (n a b : ℕ) → n ≡ 2 * a → n ≡ 2 * b + 1 → ⊥
even_odd n a b e f = omega arith

same_half : (n a b : ℕ) → n ≡ 2 * a → n ≡ 2 * b → a ≡ b
same_half n a b e f = omega arith

module _ {E : Type 0} (X : Election E) (m m' : Machine E) (T T' : Trails) (e : Event) (a : Answer)
    (p : IsPromised X m T) (p' : IsPromised X m' T') (told : Tells X m e a) (t : ℕ)
    (opened : stage_of m ≡ 2 * t) (leaves : stage_of m' ≢ 2 * t) where
  same_words : m'.words ≡ m.words → TakesStage X m e a m' t
  same_words i = absurd (leaves (ap (λ l. slice_index l stage_at) i ∙ opened))

  at_home : (o : Option Page) → IsPagedBy (stage_of m) (slice_index m.words 0) p.order.ended o
      → (page : Page) × (o ≡ Some page) × (stage_of m ≡ 2 * page.tenures)
  at_home None k = absurd (even_odd (stage_of m) t k.0 opened k.1)
  at_home (Some page) k = (page, refl, k.0)

  here : (page : Page) × (m.home ≡ Some page) × (stage_of m ≡ 2 * page.tenures)
  here = at_home m.home p.by.paged

  -- where the page stays at home, so does the stage
  page_stays : m'.home ≡ m.home → TakesStage X m e a m' t
  page_stays i = grind (arith, common_steps, slice_index, here, same_half)

  module _ (s word : ℕ) (is : e ≡ Turn s word) (h : TakesTurn X m s word a m') where
    abbrev v : Sender E
    v = h.sender

    at : slice_get m.senders s ≡ Some v
    at = shown_there (has_stopped m s) (slice_get m.senders s) v h.goes

    held : (u : ℕ) → held_of v.core.phase ≡ Some u → TakesStage X m e a m' t
    held u k = absurd (even_odd (stage_of m) t u opened (p.by.holds s v u at k))

    takes : situation X v ≡ Does (TakesPage t) → TakesStage X m e a m' t
    takes i = grind (arith, common_steps, length, slice_set, slice_index, get_or-set_same)

    quiet : (z : Situation E) → situation X v ≡ z → home_moved (line X v z).move m.home ≡ m.home
        → TakesStage X m e a m' t
    quiet z i k = page_stays (ap (λ (y : Machine E). y.home) h.after
        ∙ ap (λ w. home_moved (line X v w).move m.home) i ∙ k)

    by_turn : (z : Situation E) → situation X v ≡ z → TakesStage X m e a m' t
    by_turn (Does (TakesPage u)) i = takes (i
        ∙ ap (λ n. Does (TakesPage n))
        (same_half (stage_of m) u t (p.by.finds s v u at i).stage opened))
    by_turn (Does (AwaitsPage u)) i = grind (arith, common_steps, held, phase_tells, own_of)
    by_turn (Does (GivesBack u page reason)) i = grind (arith, held, phase_tells, own_of)
    by_turn (Does IsClosed) i = quiet (Does IsClosed) i refl
    by_turn (Does IsIdle) i = quiet (Does IsIdle) i refl
    by_turn (Does IsSpent) i = quiet (Does IsSpent) i refl
    by_turn (Does LooksAtStage) i = quiet (Does LooksAtStage) i refl
    by_turn (Does (Elects u k)) i = quiet (Does (Elects u k)) i refl
    by_turn (Does (StoresWord u page stored)) i = quiet (Does (StoresWord u page stored)) i refl
    by_turn (Does (StoresLength u page stored)) i = quiet (Does (StoresLength u page stored)) i refl
    by_turn (Does (HasHanded u reason)) i = quiet (Does (HasHanded u reason)) i refl
    by_turn (Announces u) i = quiet (Announces u) i refl
    by_turn (Validates u) i = quiet (Validates u) i refl
    by_turn (Unpins u) i = quiet (Unpins u) i refl
    by_turn (Withdraws u) i = quiet (Withdraws u) i refl
    by_turn (Scans r) i = quiet (Scans r) i refl
    by_turn (Clears r) i = quiet (Clears r) i refl
    by_turn (ReadsPassed u p) i = quiet (ReadsPassed u p) i refl

pub opens_only :
    {E : Type 0} (X : Election E) (m m' : Machine E) (T T' : Trails) (e : Event) (a : Answer)
    → IsPromised X m T → IsPromised X m' T' → Tells X m e a → Happens X m e a m'
    → OpensOnly X m e a m'
opens_only {E} X m m' T T' (Put s bytes) a p p' told h t opened leaves = grind (arith, same_words)
opens_only {E} X m m' T T' (Ask s asked) a p p' told h t opened leaves = grind (arith, same_words)
opens_only {E} X m m' T T' (Turn s word) a p p' told h t opened leaves = by_turn X m m' T T'
    (Turn s word) a p p' told t opened leaves s word refl h (situation X h.sender) refl
opens_only {E} X m m' T T' (Recv r) a p p' told h t opened leaves = page_stays X m m' T T' (Recv r)
    a p p' told t opened leaves (ap (λ (y : Machine E). y.home) h.after)
opens_only {E} X m m' T T' (Stop s) a p p' told h t opened leaves = same_words X m m' T T' (Stop s)
    a p p' told t opened leaves (ap (λ (y : Machine E). y.words) h.after)
opens_only {E} X m m' T T' (Gone r) a p p' told h t opened leaves = page_stays X m m' T T' (Gone r)
    a p p' told t opened leaves (ap (λ (y : Machine E). y.home) h.after)

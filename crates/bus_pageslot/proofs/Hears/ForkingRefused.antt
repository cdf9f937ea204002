-- What is no fork of a receiver of a ring, nor a try to fork.
use Rattle.std.proofs.Common.{◌≡◌, ℕ, ◌<◌, Bool, List, [], ◌∷◌, arith, ap}
use Rattle.std.proofs.lemmas.List.{append_cancel_left}
use Rattle.std.proofs.lemmas.Grind.{common_steps}
use Rattle.bus_automaton.specs.Processes.{TableLayout, passed_word}
use Rattle.bus_pageslot.specs.Notes.{Look}
use Rattle.bus_pageslot.specs.ReceiverViews.{ReceiverView, forked_as, receiver_tried}
use Rattle.bus_pageslot.specs.Rule.{Sat, receiver_view_in}
use Rattle.bus_pageslot.specs.Steps.{ForkingRefuses, HasTriedAt, IsForkOf}
use Rattle.bus_pageslot.specs.declared.rule.View.TheVariants.{Tap}
use Rattle.bus_pageslot.proofs.Hears.ReaderLaws.{noted}

abbrev last_found : List Look → ℕ
last_found [] = 0
last_found (look ∷ more) = look.found

module _ {C : Type 0} (x : TableLayout) (e : ReceiverView) (number : ℕ) (some : 0 < x.passers) where
  -- a fork is what its maker was, with that number
  is_fork : (f : ReceiverView) → IsForkOf {C = C} (Tap x e, []) number (Tap x f, [])
      → f ≡ forked_as e number
  is_fork f fork = ap (λ (y : Sat C). receiver_view_in y.0) (fork.ring some)

  -- what the step found is what its seat shows last
  found_is : (found : ℕ) (made : Bool)
      → (step : HasTriedAt {C = C} (Tap x e, []) (passed_word x number) made
      (Tap x (receiver_tried e (passed_word x number) found), [])) → found ≡ step.0
  found_is found made step = grind (arith, common_steps, append_cancel_left)

  pub forks_refuse : ForkingRefuses C x e number
  forks_refuse = grind (arith, common_steps, is_fork, noted, found_is)

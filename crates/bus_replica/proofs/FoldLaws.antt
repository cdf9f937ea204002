-- A state after a turn is the fold of what was heard by then.
use Rattle.std.proofs.Common.{◌≡◌, ℕ, ◌≤◌, true, [], ◌∷◌, length, refl, sym, ◌∙◌}
use Rattle.std.proofs.Common.{subst, arith, List, ap, ◌++◌}
use Rattle.std.proofs.lemmas.List.{append-nil}
use Rattle.std.proofs.lemmas.Grind.{common_steps}
use Rattle.bus_batch.specs.declared.messages.Item.{Item}
use Rattle.bus_batch.specs.Frames.{Entry, Says, items_in}
use Rattle.bus_deliverylog.specs.declared.receiving.RecvTurn.{RecvTurn}
use Rattle.bus_deliverylog.specs.declared.receiving.RecvTurn.TheVariants as turn
use Rattle.bus_world.specs.Headline.{entry_heard}
use Rattle.bus_pageslot.specs.Listening.{Hears}
use Rattle.bus_pageslot.specs.Rule.{Sat}
use Rattle.bus_pageslot.specs.Rule.{receiver_view_in, known_in}
use Rattle.bus_pageslot.specs.Steps.{Learns}
use Rattle.bus_replica.specs.Replicas.{Operations, Folds, Then, IsFold, StandsLast, items_heard}
use Rattle.bus_replica.specs.Replicas.{GoesOn, HasCaughtUp, has_view}
use Rattle.bus_replica.proofs.HearingLaws.{HasGrown, items_grow, hears_grows, learns_grows}
use Rattle.bus_replica.proofs.HearingLaws.{learns_length}

module _ {S A : Type 0} (IsFirst : S → Type 0) (Applies : Operations S A) where
  -- nothing was heard
  stays : {C : Type 0} (old new : Sat C) (state : S) (entries : List Entry)
      → IsFold IsFirst Applies old.0 state → HasGrown old entries new → items_in entries ≡ []
      → IsFold IsFirst Applies new.0 state
  stays old new state entries f g none = record {
    first = f.first;
    begins = f.begins;
    folds = subst (λ z. Folds Applies f.first z state)
        (sym (items_grow old entries new g ∙ ap (λ z. items_heard old.0 ++ z) none
        ∙ append-nil (items_heard old.0)))
        f.folds;
    heard = g.heard;
    within = g.within;
  }

  -- an item was
  goes : {C : Type 0} (old new : Sat C) (state now : S) (item : Item) (answer : A)
      → IsFold IsFirst Applies old.0 state → HasGrown old (Says item ∷ []) new
      → Applies state item.sender.0 item.message answer now → IsFold IsFirst Applies new.0 now
  goes old new state now item answer f g applied = record {
    first = f.first;
    begins = f.begins;
    folds = subst (λ z. Folds Applies f.first z now)
        (sym (items_grow old (Says item ∷ []) new g))
        (Then (items_heard old.0) state item answer now f.folds applied);
    heard = g.heard;
    within = g.within;
  }

  -- a turn that found an item, and the operation applied
  pub fold_more : {C : Type 0} (old new : Sat C) (state now : S) (item : Item) (answer : A)
      → IsFold IsFirst Applies old.0 state → Hears old (turn.Item item) new
      → Applies state item.sender.0 item.message answer now → IsFold IsFirst Applies new.0 now
  fold_more old new state now item answer f h applied = grind (arith, goes, hears_grows)

  -- a load of the length, out of turn
  pub fold_told : {C : Type 0} (old new : Sat C) (state : S) (got : ℕ)
      → IsFold IsFirst Applies old.0 state → Learns old got new
      → IsFold IsFirst Applies new.0 state
  fold_told old new state got f learns =
      stays old new state [] f (learns_grows old got new f.heard f.within learns) refl

  -- a turn that found none
  pub fold_stays : {C : Type 0} (old new : Sat C) (state : S) (answer : RecvTurn)
      → items_in (entry_heard answer) ≡ [] → IsFold IsFirst Applies old.0 state
      → Hears old answer new → IsFold IsFirst Applies new.0 state
  fold_stays old new state answer none f h = grind (arith, common_steps, stays, hears_grows)

  -- so it stands last
  pub stands_last : {C : Type 0} (old new : Sat C) (state now : S) (item : Item) (answer : A)
      → IsFold IsFirst Applies old.0 state → Hears old (turn.Item item) new
      → Applies state item.sender.0 item.message answer now
      → StandsLast IsFirst Applies new.0 now item.sender.0 item.number answer
  stands_last old new state now item answer f h applied =
      grind (arith, common_steps, items_grow, hears_grows)

-- ---- catching up
pub caught_up : {C : Type 0} (old loaded new : Sat C) (got : ℕ) → has_view old.0 ≡ true
    → Learns old got loaded → GoesOn loaded new
    → length (known_in loaded.0) ≤ (receiver_view_in new.0).place → HasCaughtUp old new
caught_up old loaded new got has learns on far = grind (arith, common_steps, learns_length)

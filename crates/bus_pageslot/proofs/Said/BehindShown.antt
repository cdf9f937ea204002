-- A sender that answers Behind shows the load of the presence that it found.
use Rattle.std.proofs.Common.{◌≡◌, ℕ, ◌+◌, Option, Some, None, [], ◌∷◌, ◌++◌, ap, arith, ◌<◌}
use Rattle.std.specs.Prelude.{IsSomeAnd}
use Rattle.std.proofs.lemmas.Option.{same_Some}
use Rattle.std.proofs.lemmas.Grind.{common_steps}
use Rattle.bus_core.specs.Senders.{Sender, Situation, Does, Announces, Validates, Unpins}
use Rattle.bus_core.specs.Senders.{Withdraws, Scans, Clears, ReadsPassed, situation}
use Rattle.bus_core.proofs.Situated.{passed_behind}
use Rattle.bus_core.specs.Table.{line}
use Rattle.bus_core.specs.Telling.{FeedTells, IsBehind}
use Rattle.bus_core.specs.declared.reuses.Reuse.{Reuse}
use Rattle.bus_core.specs.Reusing.Participants.{sizes_with}
use Rattle.bus_core.specs.Reusing.Keeping.{held_of}
use Rattle.bus_machine.proofs.Tenures.Own.{own_of}
use Rattle.bus_presence.specs.Reclamation.{presence_at}
use Rattle.bus_register.specs.Words.{register}
use Rattle.bus_register.specs.declared.registers.Op.{Op}
use Rattle.bus_register.specs.declared.registers.Op.TheVariants.{Load, Store}
use Rattle.bus_register.specs.declared.registers.SenderNo.{SenderNo}
use Rattle.bus_tenure.proofs.Situated.{tells}
use Rattle.bus_tenure.specs.Core.{Election}
use Rattle.bus_tenure.specs.Situations.{IsClosed, IsIdle, IsSpent, LooksAtStage, Elects, TakesPage}
use Rattle.bus_tenure.specs.Situations.{AwaitsPage, StoresWord, StoresLength, GivesBack, HasHanded}
use Rattle.bus_tenure.specs.declared.turns.Turn.TheVariants as turn
use Rattle.bus_automaton.specs.OneProcess.{adds_by, process_of}
use Rattle.bus_pageslot.specs.Seats.{SenderSeat, TookAndTold, sender_trail_of}

module _ {E : Type 0} (X : Election E) (v : Sender E) (word : ℕ) (r : Reuse) (p : ℕ) (t : ℕ) where
  abbrev loading : Op
  loading = Load record { 0 = presence_at (sizes_with v.core.layout r.rows) p }

  -- what stores loads nothing
  store_not : (at : ℕ) (n : ℕ) → Store record { 0 = at } n ≡ loading → ⊥
  store_not at n e = cc

  -- the stage is no presence
  stage_not : Load record { 0 = 1 } ≡ loading → ⊥
  stage_not e = let same : 1 ≡ 2 + p = ap register e in omega arith

  no_step : None ≡ Some loading → ⊥
  no_step e = cc

  abbrev Shows : Situation E → Type 0
  Shows z =
      (got : ℕ) → got ≡ 1 + t
      → (adds_by z (line X v z) got word).reclaims ≡ record { op = loading; got = 1 + t } ∷ []

  shown : p < v.core.layout.senders → (held : ℕ) → held_of v.core.phase ≡ Some held
      → (z : Situation E) → situation X v ≡ z
      → (line X v z).op word ≡ Some loading → Shows z
  shown low held h (Does IsClosed) i e = absurd (no_step e)
  shown low held h (Does IsIdle) i e = absurd (no_step e)
  shown low held h (Does IsSpent) i e = absurd (no_step e)
  shown low held h (Does (AwaitsPage u)) i e = absurd (no_step e)
  shown low held h (Does LooksAtStage) i e = absurd (stage_not (same_Some _ _ e))
  shown low held h (Does (Elects u k)) i e = grind (arith, common_steps, tells, own_of)
  shown low held h (Does (TakesPage u)) i e = absurd (store_not _ _ (same_Some _ _ e))
  shown low held h (Does (StoresWord u page stored)) i e = absurd (store_not _ _ (same_Some _ _ e))
  shown low held h (Does (StoresLength u page stored)) i e =
      absurd (store_not _ _ (same_Some _ _ e))
  shown low held h (Does (GivesBack u page reason)) i e = absurd (store_not _ _ (same_Some _ _ e))
  shown low held h (Does (HasHanded u reason)) i e = absurd (store_not _ _ (same_Some _ _ e))
  shown low held h (Announces u) i e = absurd (store_not _ _ (same_Some _ _ e))
  shown low held h (Validates u) i e = absurd (stage_not (same_Some _ _ e))
  shown low held h (Unpins u) i e = absurd (store_not _ _ (same_Some _ _ e))
  shown low held h (Withdraws u) i e = absurd (store_not _ _ (same_Some _ _ e))
  shown low held h (Clears s) i e = absurd (store_not _ _ (same_Some _ _ e))
  shown low held h (ReadsPassed u q) i e =
      grind (arith, common_steps, passed_behind, register, same_Some)
  shown low held h (Scans s) i e = λ got is n. record { op = same_Some _ _ e n; got = is n } ∷ []

module _ {E : Type 0} (X : Election E) (old new : SenderSeat (Sender E)) (word t : ℕ) (p : SenderNo)
    (h : TookAndTold (process_of X) (FeedTells X) old word (turn.Behind t p) new) where
  -- its seat shows this load
  abbrev Loaded : Reuse → Type 0
  Loaded r =
      (sender_trail_of (process_of X) new).reclaims ≡ (sender_trail_of (process_of X) old).reclaims
      ++ record {
        op = Load record { 0 = presence_at (sizes_with old.core.core.layout r.rows) p.0 };
        got = 1 + t;
      } ∷ []

  loaded : (r : Reuse) → IsBehind X old.core h.took.got word t p.0 r → Loaded r
  loaded r behind = grind (arith, shown)

  by_reuse : (r : Option Reuse) → IsSomeAnd r (λ q. IsBehind X old.core h.took.got word t p.0 q)
      → IsSomeAnd r (λ q. Loaded q)
  by_reuse None behind = behind
  by_reuse (Some r) behind = loaded r behind

  pub behind_shown : IsSomeAnd old.core.reuse (λ r. Loaded r)
  behind_shown = by_reuse old.core.reuse h.tells

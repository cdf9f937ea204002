-- Lists as tables, protocols that are alike, and what is due of who holds a page or fills a batch.
use Rattle.std.proofs.Common.{◌≡◌, inl, inr, ℕ, ◌<◌, true, false, Bool, ◌&&◌, Option, Some, None}
use Rattle.std.proofs.Common.{List, length, slice_get, slice_index, slice_set, refl, sym, ◌∙◌}
use Rattle.std.proofs.Common.{arith}
use mathlib.Core.Path.{fun_ext}
use Rattle.std.proofs.lemmas.Bool.{cases_eq}
use Rattle.std.proofs.lemmas.List.{get_or-set_same, get_or-set_other}
use Rattle.std.proofs.lemmas.Grind.{common_steps}
use Rattle.bus_register.specs.declared.registers.Op.{Op}
use Rattle.bus_register.specs.declared.registers.Op.TheVariants.{Load, Store, Add, Cas}
use Rattle.bus_register.specs.Words.{register, after}
use Rattle.bus_register.specs.Tables.{put}
use Rattle.bus_register.specs.Private.TableLaws.{put_here, put_beside, get_set_same, get_set_other}
use Rattle.bus_batch.specs.Batches.{Pending}
use Rattle.bus_deliverylog.specs.Receiving.{Receiving}
use Rattle.bus_presence.specs.Reclaimers.{Reclaiming}
use Rattle.bus_presence.specs.declared.pins.Pin.{Pin}
use Rattle.bus_presence.specs.declared.pins.Pin.TheVariants.{Away, Announcing, Validating, Pinned}
use Rattle.bus_presence.specs.declared.pins.Pin.TheVariants.{Unpinning, Invalidated}
use Rattle.bus_core.specs.Private.ParticipantTable.{Reclaims, due_beside, due_passed, due_home}
use Rattle.bus_core.specs.Private.ParticipantTable.{due_reclaimed, passed_due, reclaim_due}
use Rattle.bus_core.specs.Reusing.Turns.{on_place, op_placed, queue_seen}
use Rattle.bus_core.specs.declared.reuses.Passing.{Passing}
use Rattle.bus_tenure.specs.Core.{Core}
use Rattle.bus_tenure.specs.Situations.{Situation, IsClosed, IsIdle, IsSpent, LooksAtStage, Elects}
use Rattle.bus_tenure.specs.Situations.{TakesPage, AwaitsPage, StoresWord, StoresLength, GivesBack}
use Rattle.bus_tenure.specs.Situations.{HasHanded}
use Rattle.bus_tenure.specs.declared.pages.Page.{Page}
use Rattle.bus_tenure.specs.declared.phases.Reason.{Reason}
use Rattle.bus_world.specs.Turning.{words_after}
use Rattle.bus_world.specs.Private.Machines.{is_open, can_put, can_close}
use Rattle.bus_world.specs.Private.CyclicProtocols.{CyclicProtocol, words_stepped}
use Rattle.bus_world.proofs.PlacedSteps.{same_register}

-- ---- lists as tables
pub list_put : {A B : Type 0} (f : Option A → B) (xs : List A) (s : ℕ) (a : A) → s < length xs
    → (λ p. f (slice_get (slice_set xs s a) p)) ≡ put s (f (Some a)) (λ p. f (slice_get xs p))
list_put f xs s a l =
    grind (arith, cases_eq, slice_get, slice_set, get_set_same, put_here, get_set_other, put_beside)

pub index_put : (xs : List ℕ) (r n : ℕ) → r < length xs
    → slice_index (slice_set xs r n) ≡ put r n (slice_index xs)
index_put xs r n l = fun_ext (λ q. elim (cases_eq q r) [
  | inl i ↦ grind (arith, common_steps, slice_index, slice_set, get_or-set_same, put_here)
  | inr ne ↦ get_or-set_other xs r q n 0 ne ∙ sym (put_beside r n (slice_index xs) q ne)
])

pub same_after : (f : ℕ → ℕ) (o : Op) (n : ℕ) → after (on_place f o) n ≡ after o n
same_after f (Load at) n = refl
same_after f (Store at m) n = refl
same_after f (Add at m) n = refl
same_after f (Cas at m k) n = refl

pub placed_words : (f : ℕ → ℕ) (xs : List ℕ) (d : Option Op)
    → ((o : Op) → op_placed f d ≡ Some o → register o < length xs)
    → slice_index (words_after xs (op_placed f d)) ≡ words_stepped f (slice_index xs) d
placed_words f xs None low = refl
placed_words f xs (Some o) low =
    grind (arith, common_steps, register, index_put, after, slice_index, same_register, same_after)

-- in its own place
pub stepped_words : (xs : List ℕ) (d : Option Op)
    → ((o : Op) → d ≡ Some o → register o < length xs)
    → slice_index (words_after xs d) ≡ words_stepped (λ q. q) (slice_index xs) d
stepped_words xs None low = refl
stepped_words xs (Some o) low =
    index_put xs (register o) (after o (slice_index xs (register o))) (low o refl)

-- ---- protocols alike
pub protocols_same : {E : Type 0} (bases : List ℕ) (w w' : ℕ → ℕ) (v v' : ℕ → Pin)
    (c c' : ℕ → Option (Core E)) (reclaimer : Option Reclaiming) (passing : Passing)
    (home : Option Page) (receivers : ℕ → Option Receiving) (owners : List ℕ) → w ≡ w' → v ≡ v'
    → c ≡ c'
    → ◌≡◌ {A = CyclicProtocol E} record {
      bases = bases;
      reclamation = record { words = w; pins = v; reclaimer = reclaimer };
      passing = passing;
      home = home;
      senders = c;
      receivers = receivers;
      owners = owners;
    } record {
      bases = bases;
      reclamation = record { words = w'; pins = v'; reclaimer = reclaimer };
      passing = passing;
      home = home;
      senders = c';
      receivers = receivers;
      owners = owners;
    }
protocols_same bases w w' v v' c c' reclaimer passing home receivers owners i j k = cc

-- ---- what is due
-- a step of a reclamation is due only of who would give the page back
pub record IsReclaiming {E : Type 0} (z : Situation E) (s : Option Reclaiming) (t : Reclaiming) :
    Type 0 where
  pub tenure : ℕ
  pub page : Page
  pub reason : Reason
  pub is : z ≡ GivesBack tenure page reason
  pub same : s ≡ Some t

reclaiming : {E : Type 0} (z : Situation E) (s : Option Reclaiming) (t : Reclaiming)
    → reclaim_due z s ≡ Some t → IsReclaiming z s t
reclaiming IsClosed s t e = absurd cc
reclaiming IsIdle s t e = absurd cc
reclaiming IsSpent s t e = absurd cc
reclaiming LooksAtStage s t e = absurd cc
reclaiming (Elects u f) s t e = absurd cc
reclaiming (TakesPage u) s t e = absurd cc
reclaiming (AwaitsPage u) s t e = absurd cc
reclaiming (StoresWord u page stored) s t e = absurd cc
reclaiming (StoresLength u page stored) s t e = absurd cc
reclaiming (GivesBack u page reason) s t e = grind (arith, common_steps)
reclaiming (HasHanded u reason) s t e = absurd cc

pub due_reclaims :
    {E : Type 0} (v : Option Op) (l : Option Passing) (s : Option Reclaiming) (z : Situation E)
    (t : Reclaiming) (o : Op) → due_beside v l s z ≡ Reclaims t o → IsReclaiming z s t
due_reclaims (Some p) l s z t o e = absurd cc
due_reclaims {E} None l s z t o e =
    grind (arith, passed_due, reclaim_due, due_reclaimed, reclaiming, due_home, due_passed)

-- ---- a batch that may be filled is not on its way
busy_puts : (p : Bool) → (p && false) ≡ true → ⊥
busy_puts true e = cc
busy_puts false e = cc

-- whose batch takes a message, or a close, pins no tenure
pub away_puts : (q : Pending) (v : Pin) (n : ℕ) → can_put (queue_seen q v) n ≡ true
    → (v ≡ Away) × (can_put q n ≡ true)
away_puts q Away n e = (refl, e)
away_puts q (Announcing t) n e = absurd (busy_puts (is_open q.phase) e)
away_puts q (Validating t) n e = absurd (busy_puts (is_open q.phase) e)
away_puts q (Pinned t) n e = absurd (busy_puts (is_open q.phase) e)
away_puts q (Unpinning t) n e = absurd (busy_puts (is_open q.phase) e)
away_puts q (Invalidated t) n e = absurd (busy_puts (is_open q.phase) e)

pub away_closes : (q : Pending) (v : Pin) → can_close (queue_seen q v) ≡ true
    → (v ≡ Away) × (can_close q ≡ true)
away_closes q Away e = (refl, e)
away_closes q (Announcing t) e = absurd (busy_puts (is_open q.phase) e)
away_closes q (Validating t) e = absurd (busy_puts (is_open q.phase) e)
away_closes q (Pinned t) e = absurd (busy_puts (is_open q.phase) e)
away_closes q (Unpinning t) e = absurd (busy_puts (is_open q.phase) e)
away_closes q (Invalidated t) e = absurd (busy_puts (is_open q.phase) e)

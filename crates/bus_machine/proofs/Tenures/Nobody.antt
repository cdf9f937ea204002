-- Of each machine that is reached there are numbers of nobody, from some number on: nobody was
-- answered anything there.
use Rattle.std.proofs.Common.{◌≡◌, ℕ, ◌+◌, ◌≤◌, None, [], length, slice_get, arith, refl, ◌∙◌, ap}
use Rattle.std.proofs.lemmas.List.{append-nil, length-set}
use Rattle.std.proofs.lemmas.Option.{slice_get_within, slice_get_past}
use Rattle.std.proofs.lemmas.Grind.{common_steps}
use Rattle.bus_tenure.specs.Core.{Election}
use Rattle.bus_world.specs.World.{Event, Put, Ask, Turn, Recv, Stop, Gone}
use Rattle.bus_world.specs.declared.events.Answer.{Answer}
use Rattle.bus_machine.proofs.Memory.EachSender.{cond_beside}
use Rattle.bus_machine.proofs.Stops.LeaveLaws.{sender_heard}
use Rattle.bus_machine.specs.Machine.{Machine, Trails, Reached, New, Then, Joins, Happens, fork_in}
use Rattle.bus_machine.specs.Machine.{trails_grown, going}

pub record HasNobody {E : Type 0} (m : Machine E) (T : Trails) : Type 0 where
  pub from : ℕ
  pub many : length m.receivers ≤ from
  pub silent : (n : ℕ) → from ≤ n → T.heard n ≡ []

module _ {E : Type 0} (X : Election E) where
  as_many : (m m' : Machine E) (e : Event) (a : Answer) → Happens X m e a m'
      → length m'.receivers ≡ length m.receivers
  as_many m m' (Put s bytes) a h = ap (λ (y : Machine E). length y.receivers) h.after
  as_many m m' (Ask s mark) a h = ap (λ (y : Machine E). length y.receivers) h.after
  as_many m m' (Turn s word) a h = ap (λ (y : Machine E). length y.receivers) h.after
  as_many m m' (Recv r) a h =
      ap (λ (y : Machine E). length y.receivers) h.after ∙ length-set m.receivers r h.next
  as_many m m' (Stop s) a h = ap (λ (y : Machine E). length y.receivers) h.after
  as_many m m' (Gone r) a h = grind (arith, common_steps, length, length-set)

  adds_nothing : (m m' : Machine E) (T : Trails) (e : Event) (a : Answer) → Happens X m e a m'
      → (n : ℕ) → length m.receivers ≤ n → (trails_grown X m e a T).heard n ≡ T.heard n
  adds_nothing m m' T (Put s bytes) a h n past = refl
  adds_nothing m m' T (Ask s mark) a h n past = refl
  adds_nothing m m' T (Turn s word) a h n past = sender_heard X m T n s word (going m s) a
  adds_nothing m m' T (Recv r) a h n past =
      grind (arith, common_steps, cond_beside, slice_get_within, append-nil)
  adds_nothing m m' T (Stop s) a h n past = refl
  adds_nothing m m' T (Gone r) a h n past = refl

  pub has_nobody : (m : Machine E) (T : Trails) → Reached X m T → HasNobody m T
  has_nobody m T (New w new) =
      record { from = length w.receivers; many = omega arith; silent = λ n l. refl }
  has_nobody m T (Then w v U e a before h) =
      let k = has_nobody w U before in record {
        from = k.from;
        many = (let same = as_many w v e a h in let low = k.many in omega arith);
        silent = λ n l.
            adds_nothing w v U e a h n (let low = k.many in omega arith) ∙ k.silent n l;
      }
  has_nobody m T (Joins w v U i j n before h nobody silent) =
      let k = has_nobody w U before in
      let same = ap (λ (y : Machine E). length y.receivers) h.after
      ∙ length-set w.receivers j (fork_in w j h.maker) in
      record {
        from = k.from + n + 1;
        many = (let low = k.many in omega arith);
        silent = λ q l. grind (arith, common_steps, slice_get_within, cond_beside);
      }

  -- so there is one
  pub some_nobody : (m : Machine E) (T : Trails) → Reached X m T
      → (n : ℕ) × (slice_get m.receivers n ≡ None) × (T.heard n ≡ [])
  some_nobody m T r = grind (arith, common_steps, has_nobody, slice_get_past)

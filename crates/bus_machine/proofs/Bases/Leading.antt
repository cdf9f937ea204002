-- What leads to a machine of sizes that are served, as each of the two kinds of rows has it.
use Rattle.std.proofs.Common.{◌≡◌, ℕ, ◌≤◌, true, Some, sym, ◌∙◌, subst, arith}
use Rattle.std.proofs.lemmas.Grind.{common_steps}
use Rattle.bus_register.specs.Protocol.{Protocol}
use Rattle.bus_tenure.specs.Core.{Election}
use Rattle.bus_world.proofs.Serving.{Serves}
use Rattle.bus_world.specs.World.{IsLayout, Event}
use Rattle.bus_world.specs.declared.events.Answer.{Answer}
use Rattle.bus_machine.proofs.Bases.AtNone.{event_reuse, forks_reuse}
use Rattle.bus_machine.proofs.Bases.AtSome.{event_led, forks, new_led}
use Rattle.bus_machine.specs.Private.Bridge.{IsLed}
use Rattle.bus_machine.specs.Machine.{Machine, Trails, Reached, New as Start, Then as Next, Happens}
use Rattle.bus_machine.specs.Machine.{Joins, Forks}
use Rattle.bus_machine.specs.Promise.{HasRows}

module _ {E : Type 0} (X : Election E) (P : Protocol E (Unit {0}) ℕ) where
  -- its sizes are served
  pub record Sits (m : Machine E) : Type 0 where
    pub serves : Serves X P m.layout
    pub ok : IsLayout m.layout
    pub rows : HasRows m.reuse

  pub sits_before : (w m : Machine E) (e : Event) (a : Answer) → Happens X w e a m → Sits m → Sits w
  sits_before w m e a h s = grind (arith, common_steps, event_reuse)

  pub sits_after : (w m : Machine E) (e : Event) (a : Answer) → Happens X w e a m → Sits w → Sits m
  sits_after w m e a h s = grind (arith, common_steps, event_reuse)

  pub sits_unforked : (w m : Machine E) (i j : ℕ) → Forks w i j true m → Sits m → Sits w
  sits_unforked w m i j h s = grind (arith, common_steps, forks_reuse)

  pub sits_forked : (w m : Machine E) (i j : ℕ) → Forks w i j true m → Sits w → Sits m
  sits_forked w m i j h s = grind (arith, common_steps, forks_reuse)

  -- ---- rows that are used again
  pub two_rows : (m : Machine E) → Sits m → (rows : ℕ) → m.reuse ≡ Some rows → 2 ≤ rows
  two_rows m s rows used = subst HasRows used s.rows

  -- the trails lead to its protocol
  pub led_some : (m : Machine E) (T : Trails) → Sits m → Reached X m T → (rows : ℕ)
      → m.reuse ≡ Some rows → IsLed X rows m T
  led_some m T s (Start w new) rows used = new_led X rows w new used
  led_some m T s (Next w v U f a before h) rows used =
      let t = sits_before w v f a h s in
      let was = sym (event_reuse X w v f a h).1 ∙ used in
      event_led X P rows w U t.serves t.ok (two_rows w t rows was) (led_some w U t before rows was)
      v f a h
  led_some m T s (Joins w v U i j n before h nobody silent) rows used =
      let t = sits_unforked w v i j h s in
      let was = sym (forks_reuse X w v i j h).1 ∙ used in
      forks X P rows w U t.serves t.ok (two_rows w t rows was) (led_some w U t before rows was)
      v i j n h nobody silent

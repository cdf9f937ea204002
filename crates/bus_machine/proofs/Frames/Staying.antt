-- Where the log is extended and the trails have grown, the promise stays.
use Rattle.std.proofs.Common.{◌≡◌, ℕ, suc, ◌+◌, Bool, true, false, cond, ◌==◌, Option, Some, None}
use Rattle.std.proofs.Common.{List, [], ◌∷◌, ◌++◌, flat_map, map, slice_get, refl, sym, ◌∙◌, ap}
use Rattle.std.proofs.Common.{subst, append_assoc, arith}
use Rattle.std.specs.Prelude.{◌||◌}
use Rattle.std.proofs.lemmas.Grind.{flat_map-append, common_steps}
use Rattle.std.proofs.lemmas.List.Folds.{list_any-append}
use Rattle.std.proofs.lemmas.Option.{same_Some}
use Rattle.bus_batch.proofs.FrameLaws.{same_frame}
use Rattle.bus_batch.specs.Frames.{Frame, Order, AreFramesFrom, frame_words, log_words, Spells}
use Rattle.bus_core.specs.Senders.{Sender, Situation, Does, Announces, Validates, Unpins}
use Rattle.bus_core.specs.Senders.{Withdraws, Scans, Clears, ReadsPassed, situation}
use Rattle.bus_core.specs.Table.{Line, line_now}
use Rattle.bus_deliverylog.specs.Orders.{IsPrefixOfOrder}
use Rattle.bus_deliverylog.specs.declared.receiving.RecvTurn.{RecvTurn}
use Rattle.bus_register.specs.declared.kinds.Kind.TheVariants as kind
use Rattle.bus_register.specs.declared.registers.SenderNo.{SenderNo}
use Rattle.bus_tenure.specs.Core.{Election}
use Rattle.bus_tenure.specs.declared.turns.Turn.{Turn as Answered}
use Rattle.bus_world.proofs.Framing.{order_grows, owners_grow}
use Rattle.bus_world.proofs.Growing.{nothing_more}
use Rattle.bus_world.proofs.Places.{got_before}
use Rattle.bus_world.specs.Headline.{Action, Stepped, order_given, IsPrefix}
use Rattle.bus_world.specs.Trails.{Takers, actions_with}
use Rattle.bus_world.specs.World.{Event, Put, Ask, Turn, Recv, Stop, Gone}
use Rattle.bus_world.specs.declared.events.Answer.{Answer}
use Rattle.bus_world.specs.declared.events.Answer.TheVariants as answer
use Rattle.bus_machine.specs.Machine.{Machine, Trails, trails_grown, turn_grown, turn_trails}
use Rattle.bus_machine.specs.Machine.{heard_grown, going, found}
use Rattle.bus_machine.specs.Promise.{IsPromised, StaysPromised}

-- ---- frames
-- a log that begins another has the first of its frames
frames_front : (senders least least' : ℕ) (fs gs : List Frame) (rest : List ℕ)
    → AreFramesFrom senders least fs → AreFramesFrom senders least' gs
    → log_words fs ++ rest ≡ log_words gs → (more : List Frame) × (fs ++ more ≡ gs)
frames_front senders least least' [] gs rest lawful lawful' e = (gs, refl)
frames_front senders least least' (f ∷ fs) [] rest lawful lawful' e = absurd (cc)
frames_front senders least least' (f ∷ fs) (g ∷ gs) rest lawful lawful' e =
    let s = same_frame senders f g (log_words fs ++ rest) (log_words gs) lawful.0 lawful'.0
    (sym (append_assoc (frame_words f) (log_words fs) rest) ∙ e) in
    let later =
    frames_front senders (f.tenure + 1) (g.tenure + 1) fs gs rest lawful.3 lawful'.3 s.1 in
    (later.0, ap (λ h. h ∷ (fs ++ later.0)) s.0 ∙ ap (λ k. g ∷ k) later.1)

pub record Further (order : Order) (owners : List (ℕ × SenderNo)) (order' : Order)
    (owners' : List (ℕ × SenderNo)) : Type 0 where
  pub order_grows : IsPrefixOfOrder order order'
  pub owners_grow : IsPrefix owners owners'

pub spells_more : (senders : ℕ) (words words' : List ℕ) (order order' : Order)
    (owners owners' : List (ℕ × SenderNo)) → Spells senders words order owners
    → Spells senders words' order' owners' → IsPrefix words words'
    → Further order owners order' owners'
spells_more senders words words' order order' owners owners' s t p =
    grind (arith, frames_front, order_grows, map, owners_grow)

-- ---- who took the pages
list_front : (a b : List ℕ) → ((t s : ℕ) → slice_get a t ≡ Some s → slice_get b t ≡ Some s)
    → IsPrefix a b
list_front [] b h = record { rest = b; together = refl }
list_front (x ∷ a) [] h = absurd (let q : None ≡ Some x = h 0 x refl in cc)
list_front (x ∷ a) (y ∷ b) h =
    let i = same_Some y x (h 0 x refl) in
    let later = list_front a b (λ t s e. h (suc t) s e) in
    grind (arith, common_steps)

takers_grow : (a b : List ℕ) (D D' : ℕ → List Action) → Takers a D → Takers b D'
    → ((s : ℕ) → IsPrefix (D s) (D' s)) → IsPrefix a b
takers_grow a b D D' h k more = list_front a b (λ t s e.
    let w = h.took t s e in
    let p = more s in
    let action = Stepped (Some t) kind.TakePage w.1.found w.1.chose w.1.answer in
    k.only t s w.0 record {
      found = w.1.found;
      chose = w.1.chose;
      answer = w.1.answer;
      at = subst (λ l. slice_get l w.0 ≡ Some action) p.together
          (got_before (D s) p.rest w.0 action w.1.at);
    })

-- ---- what was given
true_or : (a b : Bool) → a ≡ true → (a || b) ≡ true
true_or true b e = refl
true_or false b e = absurd (let z : false ≡ true = e in cc)

given_grows : (trail trail' : List RecvTurn) → IsPrefix trail trail' → (q q' : Order)
    → IsPrefixOfOrder (order_given trail) q → IsPrefixOfOrder (order_given trail') q'
    → IsPrefixOfOrder q q' → IsPrefixOfOrder (order_given trail) (order_given trail')
given_grows trail trail' more q q' front front' grown =
    grind (arith, common_steps, flat_map, flat_map-append, list_any-append, true_or)

-- ---- trails that have grown
pub record Longer (T T' : Trails) : Type 0 where
  pub actions : (q : ℕ) → IsPrefix (T.actions q) (T'.actions q)
  pub heard : (q : ℕ) → IsPrefix (T.heard q) (T'.heard q)

pub stays_long : (T : Trails) → Longer T T
stays_long T = grind (arith, common_steps, nothing_more)

longer_by : (s : ℕ) (ds : List Action) (D : ℕ → List Action) (q : ℕ)
    → IsPrefix (D q) (actions_with s ds D q)
longer_by s ds D q = record { rest = cond (q == s) ds []; together = refl }

module _ {E : Type 0} (X : Election E) (m : Machine E) (T : Trails) where
  turn_longer : (z : Situation E) (l : Line E) (s got word : ℕ) (t : Answered)
      → Longer T (turn_trails z l s got word t T)
  turn_longer (Does z) l s got word t = grind (arith, common_steps, longer_by, nothing_more)
  turn_longer (Announces u) l s got word t = grind (arith, common_steps, longer_by, nothing_more)
  turn_longer (Validates u) l s got word t = grind (arith, common_steps, longer_by, nothing_more)
  turn_longer (Unpins u) l s got word t = grind (arith, common_steps, longer_by, nothing_more)
  turn_longer (Withdraws u) l s got word t = grind (arith, common_steps, longer_by, nothing_more)
  turn_longer (Scans r) l s got word t = grind (arith, common_steps, longer_by, nothing_more)
  turn_longer (Clears r) l s got word t = grind (arith, common_steps, longer_by, nothing_more)
  turn_longer (ReadsPassed u p) l s got word t =
      grind (arith, common_steps, longer_by, nothing_more)

  sender_longer : (s word : ℕ) (o : Option (Sender E)) (a : Answer)
      → Longer T (turn_grown X m s o word a T)
  sender_longer s word None a = stays_long T
  sender_longer s word (Some v) (answer.Number n) = stays_long T
  sender_longer s word (Some v) answer.Closing = stays_long T
  sender_longer s word (Some v) answer.Leaving = stays_long T
  sender_longer s word (Some v) (answer.Turn t) =
      turn_longer (situation X v) (line_now X v) s (found m (line_now X v) word) word t
  sender_longer s word (Some v) (answer.Recv t) = stays_long T
  sender_longer s word (Some v) answer.Stopped = stays_long T
  sender_longer s word (Some v) answer.Gone = stays_long T

  heard_longer : (r : ℕ) (a : Answer) (q : ℕ) → IsPrefix (T.heard q) (heard_grown r a T.heard q)
  heard_longer r (answer.Number n) q = nothing_more (T.heard q)
  heard_longer r answer.Closing q = nothing_more (T.heard q)
  heard_longer r answer.Leaving q = nothing_more (T.heard q)
  heard_longer r (answer.Turn t) q = nothing_more (T.heard q)
  heard_longer r (answer.Recv t) q = record { rest = cond (q == r) (t ∷ []) []; together = refl }
  heard_longer r answer.Stopped q = nothing_more (T.heard q)
  heard_longer r answer.Gone q = nothing_more (T.heard q)

  pub grown_longer : (e : Event) (a : Answer) → Longer T (trails_grown X m e a T)
  grown_longer (Put s bytes) a = grind (arith, common_steps, longer_by, nothing_more)
  grown_longer (Ask s asked) a = grind (arith, common_steps, longer_by, nothing_more)
  grown_longer (Turn s word) a = sender_longer s word (going m s) a
  grown_longer (Recv r) a = grind (arith, common_steps, nothing_more, heard_longer)
  grown_longer (Stop s) a = stays_long T
  grown_longer (Gone r) a = stays_long T

-- ---- the promise
pub promise_stays : {E : Type 0} (X : Election E) (m m' : Machine E) (T T' : Trails)
    → m'.layout.senders ≡ m.layout.senders → IsPromised X m T → IsPromised X m' T'
    → IsPrefix T.log T'.log → Longer T T' → StaysPromised X m T m' T'
promise_stays X m m' T T' same p p' grows longer =
    let f = spells_more m.layout.senders T.log T'.log p.order p'.order p.owners p'.owners
    p.by.spelled (subst (λ n. Spells n T'.log p'.order p'.owners) same p'.by.spelled) grows in
    record {
      before = p;
      after = p';
      order = f.order_grows;
      owners = f.owners_grow;
      takers = takers_grow p.by.takers.all p'.by.takers.all T.actions T'.actions p.by.takers.takers
          p'.by.takers.takers longer.actions;
      given = λ r. given_grows (T.heard r) (T'.heard r) (longer.heard r) p.order p'.order
          (p.by.promises.delivered r) (p'.by.promises.delivered r) f.order_grows;
    }

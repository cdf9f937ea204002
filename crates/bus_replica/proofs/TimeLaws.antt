-- What was applied at one moment is applied by whoever has caught up since.
use Rattle.std.proofs.Common.{◌≡◌, ℕ, ◌+◌, ◌≤◌, true, false, List, [], ◌∷◌, ◌++◌, length}
use Rattle.std.proofs.Common.{Option, refl, sym, ◌∙◌, ap, subst, append_assoc, arith}
use Rattle.std.proofs.lemmas.List.{length-append}
use Rattle.std.proofs.lemmas.Grind.{common_steps}
use mathlib.Core.Option.{some}
use lib.ListN.{get_elem?}
use Rattle.atomic_table.specs.Table.{State}
use Rattle.bus_batch.specs.Frames.{Frame, AreFramesFrom, log_words, frame_words}
use Rattle.bus_batch.proofs.FrameLaws.{same_frame}
use Rattle.bus_tenure.specs.declared.pages.Page.{Page}
use Rattle.bus_world.specs.Headline.{IsPrefix}
use Rattle.bus_automaton.specs.Processes.{Process, Automaton, TableLayout, log_in}
use Rattle.bus_pageslot.specs.ReceiverViews.{HasHeard, Begins}
use Rattle.bus_pageslot.specs.Rule.{Ear, TableInvariant, IsTrueOf, KnowsLog, receiver_view_in}
use Rattle.bus_pageslot.specs.declared.rule.View.{View}
use Rattle.bus_pageslot.specs.declared.rule.View.TheVariants.{Maker, Sender, Tap, Meeting, Telling}
use Rattle.bus_pageslot.specs.declared.rule.View.TheVariants.{Spent}
use Rattle.bus_pageslot.proofs.Hears.Hearing.{heard_later, agree}
use Rattle.bus_replica.specs.Replicas.{items_heard, has_view}
use Rattle.bus_replica.specs.OneOrder.{IsLater}
use Rattle.bus_replica.proofs.OrderLaws.{items_given, items_begin}

-- the frames of a log that begins another begin the other's
pub front_frames : (senders least least' : ℕ) (fs gs : List Frame) (rest : List ℕ)
    → AreFramesFrom senders least fs → AreFramesFrom senders least' gs
    → log_words fs ++ rest ≡ log_words gs → (more : List Frame) × (gs ≡ fs ++ more)
front_frames senders least least' [] gs rest lawful lawful' e = (gs, refl)
front_frames senders least least' (f ∷ fs) [] rest lawful lawful' e = absurd (cc)
front_frames senders least least' (f ∷ fs) (g ∷ gs) rest lawful lawful' e =
    let s = same_frame senders f g (log_words fs ++ rest) (log_words gs) lawful.0 lawful'.0
    (sym (append_assoc (frame_words f) (log_words fs) rest) ∙ e) in
    let later = front_frames senders (f.tenure + 1) (g.tenure + 1) fs gs rest lawful.3 lawful'.3
    s.1 in
    (later.0, ap (λ z. z ∷ gs) (sym s.0) ∙ ap (λ z. f ∷ z) later.1)

-- what a seat of a receiver knows
pub knows : {C : Type 0} (P : Process C) (A : Automaton C) (z : A.State) (seat : ℕ → ℕ)
    (ear : ℕ → Ear) (j : ℕ) (v : View C) → has_view v ≡ true → IsTrueOf P A z seat ear j v
    → (x : TableLayout) × KnowsLog A z ear j x (receiver_view_in v)
knows P A z seat ear j (Maker x made) has h = absurd (let no : false ≡ true = has in cc)
knows P A z seat ear j (Sender c t notes) has h = absurd (let no : false ≡ true = has in cc)
knows P A z seat ear j (Tap x e) has h = (x, h)
knows P A z seat ear j (Meeting x e y f) has h = (x, h.0)
knows P A z seat ear j (Telling c t notes x e) has h = (x, h.1)
knows P A z seat ear j Spent has h = absurd (let no : false ≡ true = has in cc)

pub prefix_long : {A : Type 0} (xs ys : List A) → IsPrefix xs ys → length xs ≤ length ys
prefix_long xs ys h =
    let all = length-append xs h.rest in let same = ap length h.together in omega arith

module _ {C : Type 0} (P : Process C) (A : Automaton C) where
  -- Whoever has read as far as the log went at an earlier moment was given all that any receiver
  -- had been given by then.
  pub reads_on : (s t : State (Option Page) (View C)) (r : TableInvariant P A s)
      (q : TableInvariant P A t) → IsLater P A s r t q → (i j : ℕ) (v w : View C)
      → get_elem? s.views i ≡ some v → get_elem? t.views j ≡ some w → has_view v ≡ true
      → has_view w ≡ true → length (log_in A r.state) ≤ (receiver_view_in w).place
      → Begins (receiver_view_in v) (receiver_view_in w)
  reads_on s t r q later i j v w at at' has has' far =
      let e = receiver_view_in v in
      let f = receiver_view_in w in
      let h = (knows P A r.state r.seat r.ear i v has (r.views i v at)).1 in
      let k = (knows P A q.state q.seat q.ear j w has' (q.views j w at')).1 in
      let n = A.table_layout.senders in
      let split = front_frames n 0 0 h.frames k.frames later.rest h.lawful k.lawful
      (ap (λ z. z ++ later.rest) h.words_are ∙ later.together ∙ sym k.words_are) in
      let known = prefix_long e.known (log_in A r.state) h.front in
      let below = h.below in
      let size : length (log_words h.frames) ≡ length (log_in A r.state) = ap length h.words_are in
      let heard : HasHeard k.frames e = subst (λ z. HasHeard z e) (sym split.1)
      (heard_later h.frames e h.heard split.0 (omega arith)) in
      (agree n k.frames k.lawful e f heard k.heard).behind (omega arith)

  pub items_on : (s t : State (Option Page) (View C)) (r : TableInvariant P A s)
      (q : TableInvariant P A t) → IsLater P A s r t q → (i j : ℕ) (v w : View C)
      → get_elem? s.views i ≡ some v → get_elem? t.views j ≡ some w → has_view v ≡ true
      → has_view w ≡ true → length (log_in A r.state) ≤ (receiver_view_in w).place
      → IsPrefix (items_heard v) (items_heard w)
  items_on s t r q later i j v w at at' has has' far =
      grind (arith, common_steps, reads_on, items_begin, items_given)

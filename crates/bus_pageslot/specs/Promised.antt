-- What is promised of the seats of a table, whenever its rule holds.
use Rattle.std.specs.Prelude.{◌≡◌, ℕ, ◌<◌, ◌≤◌, ◌⊎◌, List, [], All, drop, length, Option}
use Rattle.std.specs.Prelude.{slice_index}
use Rattle.bus_automaton.specs.Lawful.{floor_in, log_from_floor}
use mathlib.Core.Option.{some}
use lib.ListN.{get_elem?}
use Rattle.atomic_table.specs.Table.{State}
use Rattle.bus_register.specs.declared.registers.SenderNo.{SenderNo}
use Rattle.bus_batch.specs.Frames.{Order, Spells, items_of}
use Rattle.bus_deliverylog.specs.declared.receiving.RecvTurn.{RecvTurn}
use Rattle.bus_tenure.specs.declared.pages.Page.{Page}
use Rattle.bus_world.specs.Headline.{Action, IsPrefix, Promises}
use Rattle.bus_automaton.specs.Processes.{TableLayout, Process, log_below}
use Rattle.bus_pageslot.specs.declared.rule.View.{View}
use Rattle.bus_pageslot.specs.declared.rule.View.TheVariants.{Maker, Sender, Tap, Meeting, Telling}
use Rattle.bus_pageslot.specs.declared.rule.View.TheVariants.{Spent}

-- a view is true of these actions of senders, and shows a beginning of this log of its receivers
abbrev pub Fits : {C : Type 0} → Process C → (ℕ → List Action) → List ℕ → View C → Type 0
Fits P actions log (Maker x made) = (p : ℕ) → made ≤ p → actions p ≡ []
Fits P actions log (Sender c sender_trail notes) = actions (P.me c) ≡ sender_trail.actions
Fits P actions log (Tap x e) = IsPrefix e.known log
Fits P actions log (Meeting x e y f) = IsPrefix e.known log × IsPrefix f.known log
Fits P actions log (Telling c sender_trail notes x e) =
    (actions (P.me c) ≡ sender_trail.actions) × IsPrefix e.known log
Fits P actions log Spent = Unit {0}

-- a view shows that the sender p did just these actions: those of its trail, or none while it has
-- no seat of its own
abbrev pub ShowsActions : {C : Type 0} → Process C → ℕ → List Action → View C → Type 0
ShowsActions P p actions (Maker x made) = (made ≤ p) × (actions ≡ [])
ShowsActions P p actions (Sender c sender_trail notes) =
    (P.me c ≡ p) × (actions ≡ sender_trail.actions)
ShowsActions P p actions (Tap x e) = ⊥
ShowsActions P p actions (Meeting x e y f) = ⊥
ShowsActions P p actions (Telling c sender_trail notes x e) =
    (P.me c ≡ p) × (actions ≡ sender_trail.actions)
ShowsActions P p actions Spent = ⊥

-- a view shows this trail of a receiver of its
abbrev pub ShowsTrail : {C : Type 0} → List RecvTurn → View C → Type 0
ShowsTrail trail (Maker x made) = ⊥
ShowsTrail trail (Sender c actions notes) = ⊥
ShowsTrail trail (Tap x e) = trail ≡ e.answers
ShowsTrail trail (Meeting x e y f) = (trail ≡ e.answers) ⊎ (trail ≡ f.answers)
ShowsTrail trail (Telling c actions notes x e) = trail ≡ e.answers
ShowsTrail trail Spent = ⊥

-- what a receiver was answered: nothing, or what some seat shows
abbrev pub IsShownTrail : {C : Type 0} → State (Option Page) (View C) → List RecvTurn → Type 0
IsShownTrail {C} s trail =
    (trail ≡ []) ⊎ ((j : ℕ) × (v : View C) × (get_elem? s.views j ≡ some v) × ShowsTrail trail v)

-- Of a sitting whose numbers begin with these, the page of promises holds of the actions that the
-- seats show, and of what they show that receivers were answered, however these are numbered, with
-- the order and the owners that all that was published spells; and what a receiver knows is a
-- beginning of that. There are no other actions than those that are shown: each sender shows all of
-- its own up to its last step, and nobody else has any.
pub record IsPromised {C : Type 0} (P : Process C) (x : TableLayout) (base : ℕ → ℕ) (log : List ℕ)
    (s : State (Option Page) (View C)) : Type 0 where
  pub actions : ℕ → List Action
  pub shown : (p : ℕ) → p < x.senders
      → (j : ℕ) × (v : View C) × (get_elem? s.views j ≡ some v) × ShowsActions P p (actions p) v
  pub nobody : (p : ℕ) → x.senders ≤ p → actions p ≡ []
  -- It is as long as the length says, and from the floor on each of its words stands in its cell.
  -- Where no word of the log is used again the floor is 0.
  pub long : length log ≡ slice_index s.words 0
  pub shows : log_from_floor x s.words ≡ drop (floor_in x s.words) log
  pub stands : x.passers ≡ 0 → log_below x s.words ≡ log
  pub order : Order
  pub owners : List (ℕ × SenderNo)
  pub spelled : Spells x.senders log order owners
  -- none of its frames has more messages than a batch may have
  pub few : All (λ f. length (items_of f) ≤ x.batch) spelled.frames
  pub promises : (heard : ℕ → List RecvTurn) → ((r : ℕ) → IsShownTrail s (heard r))
      → Promises base actions heard order owners
  pub views : (j : ℕ) (v : View C) → get_elem? s.views j ≡ some v
      → Fits P actions log v

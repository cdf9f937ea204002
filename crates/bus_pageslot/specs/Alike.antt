-- What receivers that seats show were answered, beside each other.
use Rattle.std.specs.Prelude.{◌≡◌, ◌≢◌, ℕ, Option, List, []}
use mathlib.Core.Option.{some}
use lib.ListN.{get_elem?}
use Rattle.atomic_table.specs.Table.{State}
use Rattle.bus_batch.specs.Frames.{Frame, AreFrames, log_words}
use Rattle.bus_tenure.specs.declared.pages.Page.{Page}
use Rattle.bus_world.specs.Headline.{order_given}
use Rattle.bus_automaton.specs.Processes.{TableLayout}
use Rattle.bus_pageslot.specs.ReceiverViews.{ReceiverView, HasHeard, Agree}
use Rattle.bus_pageslot.specs.Rings.{ShowsReceiver}
use Rattle.bus_pageslot.specs.declared.rule.View.{View}

-- by all that was published
pub record AreAlike {C : Type 0} (x : TableLayout) (log : List ℕ)
    (s : State (Option Page) (View C)) : Type 0 where
  pub frames : List Frame
  pub lawful : AreFrames x.senders frames
  pub words_are : log_words frames ≡ log
  -- each was answered just what the words say that stand before its place
  pub heard : (j : ℕ) (v : View C) (e : ReceiverView) → get_elem? s.views j ≡ some v
      → ShowsReceiver e v → HasHeard frames e
  -- so of two who has read less was answered a beginning of what the other was answered; and from a
  -- fork on its maker and the new one were answered the same, as far as both have read
  pub agree : (j k : ℕ) (v w : View C) (e f : ReceiverView) → get_elem? s.views j ≡ some v
      → get_elem? s.views k ≡ some w → ShowsReceiver e v → ShowsReceiver f w → Agree e f

-- and none are alike
pub record AlikeRefuses {C : Type 0} (x : TableLayout) (log : List ℕ)
    (s : State (Option Page) (View C)) : Type 0 where
  -- of which one was given something of the order, and has read no word
  pub unread : (j : ℕ) (v : View C) (e : ReceiverView) → get_elem? s.views j ≡ some v
      → ShowsReceiver e v → e.place ≡ 0 → (order_given e.answers).entries ≢ []
      → ¬ AreAlike x log s
  -- of which two have read as many words, and were given two orders
  pub apart : (j k : ℕ) (v w : View C) (e f : ReceiverView) → get_elem? s.views j ≡ some v
      → get_elem? s.views k ≡ some w → ShowsReceiver e v → ShowsReceiver f w
      → e.place ≡ f.place → order_given e.answers ≢ order_given f.answers → ¬ AreAlike x log s

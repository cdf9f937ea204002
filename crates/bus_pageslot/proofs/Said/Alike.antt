-- Any two receivers that seats show were answered the same, as far as both have read.
use Rattle.std.proofs.Common.{◌≡◌, ℕ, Option, List, take, arith}
use Rattle.std.proofs.lemmas.Grind.{common_steps}
use mathlib.Core.Option.{some}
use lib.ListN.{get_elem?}
use Rattle.atomic_table.specs.Table.{State}
use Rattle.bus_batch.proofs.FrameLaws.{same_log}
use Rattle.bus_tenure.specs.declared.pages.Page.{Page}
use Rattle.bus_automaton.specs.Lawful.{AutomatonLaws, HasLog}
use Rattle.bus_automaton.specs.Processes.{TableLayout, Process, Automaton, log_in}
use Rattle.bus_pageslot.proofs.Hears.Hearing.{agree}
use Rattle.bus_pageslot.proofs.Said.Rings.{known_of}
use Rattle.bus_pageslot.specs.Alike.{AreAlike, AlikeRefuses}
use Rattle.bus_pageslot.specs.ReceiverViews.{ReceiverView, HasHeard}
use Rattle.bus_pageslot.specs.Rings.{ShowsReceiver}
use Rattle.bus_pageslot.specs.Rule.{TableInvariant}
use Rattle.bus_pageslot.specs.declared.rule.View.{View}

module _ {C : Type 0} (P : Process C) (A : Automaton C) (L : AutomatonLaws P A)
    (s : State (Option Page) (View C)) (r : TableInvariant P A s) where
  log : HasLog A r.state
  log = L.log r.state r.reached

  heard : (j : ℕ) (v : View C) (e : ReceiverView) → get_elem? s.views j ≡ some v
      → ShowsReceiver e v → HasHeard log.frames e
  heard j v e at is =
      let k = (known_of P A L s r j e v (r.views j v at) is).1 in
      grind (arith, common_steps, same_log, log)

  pub are_alike : AreAlike A.table_layout (log_in A r.state) s
  are_alike = record {
    frames = log.frames;
    lawful = log.lawful;
    words_are = log.words_are;
    heard = heard;
    agree = λ j k v w e f at there is shown. agree A.table_layout.senders log.frames log.lawful e f
        (heard j v e at is) (heard k w f there shown);
  }

pub alike_refuses : {C : Type 0} (x : TableLayout) (all : List ℕ) (s : State (Option Page) (View C))
    → AlikeRefuses x all s
alike_refuses x all s = grind (arith, common_steps, take)

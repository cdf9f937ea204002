-- Histories of replicas, by tables that threads go by.
use Rattle.std.proofs.Common.{ℕ, List, subst, []}
use Rattle.bus_batch.specs.Frames.{items_in}
use Rattle.bus_world.specs.Headline.{IsPrefix}
use Rattle.bus_automaton.specs.Lawful.{ProcessLaws, AutomatonLaws}
use Rattle.bus_automaton.specs.Processes.{Process, Automaton, base_in}
use Rattle.bus_pageslot.specs.Lasting.{RuledTable, published}
use Rattle.bus_pageslot.specs.Turns.{Tellings}
use Rattle.bus_replica.specs.Replicas.{Operations}
use Rattle.bus_replica.specs.OneOrder.{AreFunctions}
use Rattle.bus_replica.specs.Linearized.{PageOf, IsLinearized, IsRead}
use Rattle.bus_replica.specs.Histories.{AreInTurn, Call, Did, Executed, IsDoneBetween}
use Rattle.bus_replica.specs.Histories.{IsLinearizable, Read}
use Rattle.bus_replica.specs.Moments.{AreDoneOnTables, IsDoneOnTable, IsLaterTable, TableMoment}
use Rattle.bus_replica.proofs.HistoryLaws.{linearizable}
use Rattle.bus_replica.proofs.LinearLaws.{executed, items_on}
use Rattle.bus_replica.proofs.ReadLaws.{read}

module _ {C S A : Type 0} (IsFirst : S → Type 0) (Applies : Operations S A) (P : Process C)
    (T : Tellings C) (Bus : Automaton C) (laws : ProcessLaws P) (lawful : AutomatonLaws P Bus)
    (page_of : (m : RuledTable P Bus) → PageOf m) where
  done_on : (s t : TableMoment P Bus) → IsLaterTable s t → (worker : ℕ) (did : Did S A)
      → IsDoneOnTable T IsFirst Applies s t worker did
      → IsDoneBetween IsFirst Applies s.page.order t.page.order worker did
  done_on s t on worker (Executed number bytes answer) h =
      let l = executed IsFirst Applies P T Bus laws lawful s.here t.here s.page t.page on h.old
      h.new number [] bytes answer h.seat h.sits h.sits_still h.at h.puts h.ends in (
        h.new.state,
        subst
            (λ w. IsLinearized IsFirst Applies s.page.order t.page.order w number bytes answer
            h.new.state)
            h.me l,
      )
  done_on s t on worker (Read shown) h =
      subst (IsRead IsFirst Applies s.page.order t.page.order) h.shown_is
      (read IsFirst Applies P Bus s.here h.between t.here (page_of h.between) s.page t.page h.behind
      h.before h.old h.new h.seat h.at h.caught h.found h.fold)

  orders_on : (s t : TableMoment P Bus) → IsLaterTable s t
      → IsPrefix (items_in s.page.order.entries) (items_in t.page.order.entries)
  orders_on s t on =
      items_on P Bus.table_layout (base_in Bus) (published s.here) (published t.here) s.here.table
      t.here.table s.page t.page on

  pub table_histories : (first : S) (moments : ℕ → TableMoment P Bus) (last : ℕ)
      (calls : List (Call S A)) → AreFunctions IsFirst Applies → IsFirst first
      → AreDoneOnTables T IsFirst Applies moments last calls → AreInTurn calls
      → IsLinearizable IsFirst Applies (items_in (moments last).page.order.entries) calls
  table_histories first moments last calls F is by turns =
      linearizable IsFirst Applies first (λ n. (moments n).page.order) last calls F is
      (λ m n up. orders_on (moments m) (moments n) (by.later m n up))
      (record {
        done = λ i c at.
            done_on (moments c.began) (moments c.returned)
            (by.later c.began c.returned (by.ordered i c at)) c.worker c.did (by.done i c at);
        returned = by.returned;
      })
      turns

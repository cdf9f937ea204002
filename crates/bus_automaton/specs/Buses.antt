-- A sender of any ratifier as a process, and a bus of any plan that has such senders as an
-- automaton. Neither unfolds of itself, so that what calls of senders and receivers do is said, and
-- proved, by their laws alone.
use Rattle.std.specs.Prelude.{ℕ, ◌<◌, Bool, true, false, Option, Some, None, slice_index}
use Rattle.bus_register.specs.declared.kinds.Kind.{Kind}
use Rattle.bus_register.specs.declared.registers.Op.{Op}
use Rattle.bus_register.specs.Protocol.{Protocol}
use Rattle.bus_adoptcommit.specs.declared.verdicts.Verdict.{Verdict}
use Rattle.bus_core.specs.Senders.{Sender}
use Rattle.bus_machine.specs.Playing.{layout_passed, IsServed, ShapeOf, RefusedWith, bases_after}
use Rattle.bus_machine.specs.Playing.{IsBatch}
use Rattle.bus_tenure.specs.Core.{Layout}
use Rattle.bus_tenure.specs.Elections.{Elector, Ratifying, election_with}
use Rattle.bus_tenure.specs.declared.pages.Page.{Page}
use Rattle.bus_world.specs.Log.{first_numbers}
use Rattle.bus_world.specs.World.{AreBases}
use Rattle.bus_world.specs.declared.shapes.MakeFault.{MakeFault}
use Rattle.bus_world.specs.declared.shapes.Shape.{Shape}
use Rattle.bus_automaton.specs.declared.plans.Plan.{Plan}
use Rattle.bus_automaton.specs.Processes.{Process, Automaton}
use Rattle.bus_automaton.specs.OneProcess.{process_of}
use Rattle.bus_automaton.specs.OneAutomaton.{bus_of}

-- how many passed places a plan has: one for each receiver where its log is a ring, for which rows
-- are used again, and else none
abbrev pub passers_in : Option ℕ → Bool → ℕ → ℕ
passers_in None ring receivers = 0
passers_in (Some rows) false receivers = 0
passers_in (Some rows) true receivers = receivers

abbrev pub plan_passers : Plan → ℕ
plan_passers plan = passers_in plan.reuse plan.ring plan.shape.receivers

-- and its sizes
abbrev pub layout_by : {S : Type 0} → Protocol S Bool Verdict → Plan → Layout
layout_by P plan = layout_passed P plan.shape plan.reuse (plan_passers plan)

-- a sender, made of a ratifier's members one by one
unfoldable pub process_with : {S : Type 0} → (S → Option Kind) → (S → ℕ → Option Op)
    → (S → ℕ → ℕ → S)
    → Protocol S Bool Verdict → Process (Sender (Elector S))
process_with kind op fed P = process_of (election_with kind op fed P)

-- and the bus of this plan
unfoldable pub automaton_with : {S : Type 0} → (S → Option Kind) → (S → ℕ → Option Op)
    → (S → ℕ → ℕ → S)
    → Protocol S Bool Verdict → Plan → Automaton (Sender (Elector S))
automaton_with kind op fed P plan =
    bus_of (election_with kind op fed P) (layout_by P plan) plan.reuse plan.bases

-- of all of them
abbrev pub process_by : {S : Type 0} → Ratifying S → Process (Sender (Elector S))
process_by q = process_with q.kind_of q.op q.fed q.protocol

abbrev pub automaton_by : {S : Type 0} → Ratifying S → Plan → Automaton (Sender (Elector S))
automaton_by q = automaton_with q.kind_of q.op q.fed q.protocol

-- the same plan after this page, if after any: nothing but its numbers is carried over
abbrev pub plan_after : Plan → Option Page → Plan
plan_after plan page = record plan { bases = bases_after page }

-- of a bus with a row for each tenure, or whose rows are used again, which goes on after this page,
-- if after any
abbrev pub new_plan : Shape → Option Page → Plan
new_plan shape page = record {
  shape = shape;
  reuse = None;
  ring = false;
  bases = bases_after page;
}

abbrev pub cyclic_plan : Shape → Option Page → Plan
cyclic_plan shape page = record {
  shape = shape;
  reuse = Some shape.rows;
  ring = false;
  bases = bases_after page;
}

-- of one whose log is a ring too
abbrev pub ring_plan : Shape → Option Page → Plan
ring_plan shape page = record {
  shape = shape;
  reuse = Some shape.rows;
  ring = true;
  bases = bases_after page;
}

-- its numbers have room: for a whole log, or where that is a ring for all tenures
abbrev pub AreBasesOf : Plan → Type 0
AreBasesOf plan =
    AreBases plan.bases
    × ((s : ℕ) → slice_index plan.bases s < first_numbers (plan_passers plan) plan.shape.batch)

-- a bus of this plan is served: its sizes are, rows that are used again are as many as its shape
-- has, its numbers have room, and a batch may have so many messages
pub record Serves (plan : Plan) : Type 0 where
  pub sizes : IsServed plan.shape plan.reuse
  pub shape : ShapeOf plan.shape plan.reuse
  pub bases : AreBasesOf plan
  pub batch : IsBatch (plan_passers plan) plan.shape.batch

-- why no bus of this plan is made that goes on after this page, if after any
abbrev pub Refuses : Plan → Option Page → MakeFault → Type 0
Refuses plan page why = RefusedWith (plan_passers plan) plan.shape plan.reuse page why

-- A bus whose senders go by the ratifier of three words: the one of runs, and of the archive for C
-- and Rust.
use Rattle.bus_adoptcommit.specs.ThreeWord.{Local, kind_at, op_of, fed_of}
use Rattle.bus_adoptcommit.specs.ThreeWordKeeps.{three_word}
use Rattle.bus_core.specs.Senders.{Sender}
use Rattle.bus_tenure.specs.Core.{Election}
use Rattle.bus_tenure.specs.Elections.{Elector, election_with}
use Rattle.bus_automaton.specs.Buses.{process_with, automaton_with}
use Rattle.bus_automaton.specs.Processes.{Process, Automaton}
use Rattle.bus_automaton.specs.declared.plans.Plan.{Plan}

-- what a sender holds
abbrev pub Held : Type 0
Held = Sender (Elector Local)

-- a sender by itself
abbrev pub process : Process Held
process = process_with (λ s. kind_at s.progress) (λ s word. op_of s) (λ s got word. fed_of s got)
    three_word

-- the bus of a plan
abbrev pub automaton : Plan → Automaton Held
automaton plan = automaton_with (λ s. kind_at s.progress) (λ s word. op_of s)
    (λ s got word. fed_of s got) three_word plan

-- what its elections go by
abbrev pub election : Election (Elector Local)
election = election_with (λ s. kind_at s.progress) (λ s word. op_of s) (λ s got word. fed_of s got)
    three_word

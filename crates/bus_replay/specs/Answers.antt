-- What `replay` answers to an input: a bus is made and moved by the script's lines, and the text is
-- what they print.
use Rattle.std.specs.Prelude.{◌≡◌, ◌≢◌, ◌+◌, ◌-◌, ◌==◌, ℕ, zero, suc, Bool, true, false, ◌⊎◌}
use Rattle.std.specs.Prelude.{Option, Some, None, List, [], ◌∷◌, ◌++◌, length, codes, nat_lt}
use Rattle.std.specs.Prelude.{slice_get, if◌then◌else◌}
use mathlib.Core.Logic.{inl, inr}
use Rattle.bus_register.specs.declared.limits.TheConstants.{MOST_RECEIVERS}
use Rattle.bus_register.specs.declared.registers.SenderNo.{SenderNo}
use Rattle.bus_register.specs.Protocol.{Protocol}
use Rattle.bus_adoptcommit.specs.declared.verdicts.Verdict.{Verdict}
use Rattle.bus_batch.specs.Frames.{Order, Spells}
use Rattle.bus_tenure.specs.Core.{Election}
use Rattle.bus_tenure.specs.Elections.{Elector}
use Rattle.bus_world.specs.Headline.{order_given}
use Rattle.bus_world.specs.Playing.{Within, Beyond, ForkRefused}
use Rattle.bus_world.specs.World.{Event, Gone, no_bases}
use Rattle.bus_world.specs.declared.events.Answer.{Answer}
use Rattle.bus_world.specs.declared.events.Answer.TheVariants as answer
use Rattle.bus_world.specs.declared.events.StepFault.{StepFault}
use Rattle.bus_world.specs.declared.shapes.MakeFault.{MakeFault}
use Rattle.bus_world.specs.declared.shapes.MakeFault.TheVariants as make
use Rattle.bus_machine.specs.Machine.{Machine, Trails, Reached as ReachedBy, ShowsLog}
use Rattle.bus_machine.specs.Machine.{Forks, no_machine_trails, trails_grown, trails_joined}
use Rattle.bus_machine.specs.Playing.{IsMadeWith, IsServed, NewRefused, Answers}
use Rattle.bus_machine.specs.Playing.{Refused as RefusedBy}
use Rattle.bus_machine.specs.Promise.{TakersTold}
use Rattle.bus_script.specs.declared.line_numbers.LineNumber.TheVariants.{AtLine, AtEnd}
use Rattle.bus_script.specs.declared.answers.Outcome.{Outcome}
use Rattle.bus_script.specs.declared.answers.Outcome.TheVariants.{Done, Refused}
use Rattle.bus_script.specs.Grammar.{script_lines}
use Rattle.bus_script.specs.LineNumbers.{refusal_line}
use Rattle.bus_replay.specs.GoingOn.{goes_on}
use Rattle.bus_replay.specs.declared.lines.FirstLine.{FirstLine}
use Rattle.bus_replay.specs.Lines.{Command, Plays, ForksTo, first_of, command_of, shape_in}
use Rattle.bus_replay.specs.Lines.{made_in, seats_in, reuse_in, passers_in}
use Rattle.bus_replay.specs.Text.{answer_line, fork_line, step_fault_name, make_fault_name}
use Rattle.bus_replay.specs.Text.{owners_line, order_text, given_text}

-- what lines end with: a bus that they leave, or the one line that names the first refusal
pub data End (E : Type 0) : Type 0 where
  Left : Machine E → End E
  Stopped : (refusal : List ℕ) → End E

-- ---- seats
-- there are as many seats as receivers at first, or more, and 64 at most
abbrev pub AreSeats : FirstLine → Type 0
AreSeats first = Within (shape_in first).receivers MOST_RECEIVERS (seats_in first)

-- there are fewer or more, and else nothing is wrong
abbrev pub SeatsRefused : FirstLine → Type 0
SeatsRefused first =
    IsServed (shape_in first) (reuse_in first)
    × Beyond (shape_in first).receivers MOST_RECEIVERS (seats_in first)

-- for this no bus is made; and where it is its batches, its seats are well
abbrev pub NoBus : FirstLine → MakeFault → Type 0
NoBus first why =
    NewRefused (passers_in first) (shape_in first) (reuse_in first) why
    × (why ≡ make.Batch → AreSeats first)

-- which seats have or had a receiver: those of the receivers at first, and each to which a receiver
-- has forked
abbrev pub seats_at_first : FirstLine → ℕ → Bool
seats_at_first first r = nat_lt r (shape_in first).receivers

abbrev pub seats_with : ℕ → (ℕ → Bool) → ℕ → Bool
seats_with j taken r = if r == j then true else taken r

-- by a fork to this seat, which was done or not
abbrev pub fork_seats : ℕ → Bool → (ℕ → Bool) → (ℕ → Bool)
fork_seats j true taken = seats_with j taken
fork_seats j false taken = taken

-- what a fork adds to trails, which was done or not; n is a number of nobody
abbrev pub fork_trails : (i j n : ℕ) → Bool → Trails → Trails
fork_trails i j n true T = trails_joined i j n T
fork_trails i j n false T = T

-- senders go by this election, made of ratifiers of this protocol
module _ {S : Type 0} (X : Election (Elector S)) (P : Protocol S Bool Verdict) where
  -- an event, once and then at most so many times more while it goes on, with the last answer
  abbrev pub Repeats : Machine (Elector S) → Event → ℕ → Answer → Machine (Elector S) → Type 0
  Repeats m e zero last new = Answers X P m e last new
  Repeats m e (suc more) last new =
      (Answers X P m e last new × (goes_on last ≡ false))
      ⊎ ((mid : Machine (Elector S)) × (first : Answer) × Answers X P m e first mid
      × (goes_on first ≡ true) × Repeats mid e more last new)

  -- What a line prints, and then what is behind it: its last answer, or whether it has forked; or
  -- where it is refused nothing, and no later line is looked at.
  abbrev pub Asked : Machine (Elector S) → ℕ → Option Command
      → (Machine (Elector S) → List ℕ → End (Elector S) → Type 0)
      → List ℕ → End (Elector S) → Type 0
  Asked m number None Behind text end =
      (text ≡ []) × (end ≡ Stopped (refusal_line (AtLine number) (codes "BadLine")))
  Asked m number (Some (Plays event times)) Behind text end =
      ((why : StepFault) × RefusedBy m event why × (text ≡ [])
      × (end ≡ Stopped (refusal_line (AtLine number) (step_fault_name why))))
      ⊎ ((mid : Machine (Elector S)) × (last : Answer) × (rest : List ℕ)
      × Repeats m event (times - 1) last mid × Behind mid rest end
      × (text ≡ answer_line event last ++ rest))
  Asked m number (Some (ForksTo i j)) Behind text end =
      ((why : StepFault)
      × ForkRefused (slice_get m.receivers i) (slice_get m.receivers j) i j why × (text ≡ [])
      × (end ≡ Stopped (refusal_line (AtLine number) (step_fault_name why))))
      ⊎ ((mid : Machine (Elector S)) × (did : Bool) × (rest : List ℕ) × Forks m i j did mid
      × Behind mid rest end × (text ≡ fork_line i j did ++ rest))

  -- What lines print: each prints its last answer, up to the first that is refused.
  abbrev pub Prints : Machine (Elector S) → List (ℕ × List ℕ) → List ℕ → End (Elector S) → Type 0
  Prints m [] text end = (text ≡ []) × (end ≡ Left m)
  Prints m (line ∷ lines) text end =
      Asked m line.0 (command_of line.1) (λ mid rest stop. Prints mid lines rest stop) text end

  -- ---- what the events of a run add to trails, one after another
  -- of an event that was repeated while it went on
  abbrev pub repeat_trails : (m : Machine (Elector S)) (e : Event) (more : ℕ) (last : Answer)
      (new : Machine (Elector S)) → Repeats m e more last new → Trails → Trails
  repeat_trails m e zero last new run T = trails_grown X m e last T
  repeat_trails m e (suc more) last new (inl once) T = trails_grown X m e last T
  repeat_trails m e (suc more) last new (inr run) T =
      repeat_trails run.0 e more last new run.4 (trails_grown X m e run.1 T)

  -- of a line of the script and of those behind it; a fork leaves what the last receiver of its
  -- number was given with a number of nobody, which is this one for that line
  abbrev pub asked_trails : (m : Machine (Elector S)) (number nobody : ℕ) (c : Option Command)
      (Behind : Machine (Elector S) → List ℕ → End (Elector S) → Type 0)
      → ((mid : Machine (Elector S)) (rest : List ℕ) (end : End (Elector S)) → Behind mid rest end
      → Trails → Trails)
      → (text : List ℕ) (end : End (Elector S)) → Asked m number c Behind text end
      → Trails → Trails
  asked_trails m number nobody None Behind behind text end run T = T
  asked_trails m number nobody (Some (Plays event times)) Behind behind text end (inl refused) T =
      T
  asked_trails m number nobody (Some (Plays event times)) Behind behind text end (inr run) T =
      behind run.0 run.2 end run.4 (repeat_trails m event (times - 1) run.1 run.0 run.3 T)
  asked_trails m number nobody (Some (ForksTo i j)) Behind behind text end (inl refused) T = T
  asked_trails m number nobody (Some (ForksTo i j)) Behind behind text end (inr run) T =
      behind run.0 run.2 end run.4 (fork_trails i j nobody run.1 T)

  -- Of all lines. No receiver has a number from that of receivers on, and each line has one of
  -- these for itself: that many past the first as lines are behind it.
  abbrev pub printed_trails : (m : Machine (Elector S)) (lines : List (ℕ × List ℕ))
      (text : List ℕ) (end : End (Elector S)) → Prints m lines text end → Trails → Trails
  printed_trails m [] text end run T = T
  printed_trails m (line ∷ lines) text end run T =
      asked_trails m line.0 (length m.receivers + length lines) (command_of line.1)
      (λ mid rest stop. Prints mid lines rest stop)
      (λ mid rest stop behind. printed_trails mid lines rest stop behind) text end run T

  -- ---- the seats that the lines of a run take, one after another
  -- of a line of the script, and of those behind it
  abbrev pub asked_seats : (m : Machine (Elector S)) (number : ℕ) (c : Option Command)
      (Behind : Machine (Elector S) → List ℕ → End (Elector S) → Type 0)
      → ((mid : Machine (Elector S)) (rest : List ℕ) (end : End (Elector S)) → Behind mid rest end
      → (ℕ → Bool) → (ℕ → Bool))
      → (text : List ℕ) (end : End (Elector S)) → Asked m number c Behind text end
      → (ℕ → Bool) → (ℕ → Bool)
  asked_seats m number None Behind behind text end run taken = taken
  asked_seats m number (Some (Plays event times)) Behind behind text end (inl refused) taken =
      taken
  asked_seats m number (Some (Plays event times)) Behind behind text end (inr run) taken =
      behind run.0 run.2 end run.4 taken
  asked_seats m number (Some (ForksTo i j)) Behind behind text end (inl refused) taken = taken
  asked_seats m number (Some (ForksTo i j)) Behind behind text end (inr run) taken =
      behind run.0 run.2 end run.4 (fork_seats j run.1 taken)

  -- of all lines
  abbrev pub printed_seats : (m : Machine (Elector S)) (lines : List (ℕ × List ℕ))
      (text : List ℕ) (end : End (Elector S)) → Prints m lines text end → (ℕ → Bool) → (ℕ → Bool)
  printed_seats m [] text end run taken = taken
  printed_seats m (line ∷ lines) text end run taken =
      asked_seats m line.0 (command_of line.1) (λ mid rest stop. Prints mid lines rest stop)
      (λ mid rest stop behind. printed_seats mid lines rest stop behind) text end run taken

  -- ---- the whole text
  -- receivers leave, so many from this number on, one after another
  abbrev pub Empties : Machine (Elector S) → (seat many : ℕ) → Machine (Elector S) → Type 0
  Empties m seat zero new = new ≡ m
  Empties m seat (suc many) new =
      (mid : Machine (Elector S)) × Answers X P m (Gone seat) answer.Gone mid
      × Empties mid (seat + 1) many new

  -- A new bus such as the first line asks for. It is made with a receiver in each seat, and those
  -- past the receivers at first have left before any line, which leaves their seats free.
  pub record IsOpened (first : FirstLine) (m : Machine (Elector S)) : Type 0 where
    pub served : IsServed (shape_in first) (reuse_in first)
    pub seats : AreSeats first
    pub made : Machine (Elector S)
    pub is_made : IsMadeWith X P (made_in first) (reuse_in first) (passers_in first) no_bases made
    pub emptied : Empties made (shape_in first).receivers
        (seats_in first - (shape_in first).receivers) m

  -- The closing lines, by the trails of the run, which led to the bus, and by the seats that have
  -- or had a receiver: who took the pages; the one order that all that was published spells, of
  -- which the cells of the log show what stands; and of the last receiver of each such seat what it
  -- was given.
  pub record Closes (m : Machine (Elector S)) (T : Trails) (taken : ℕ → Bool) (text : List ℕ) :
      Type 0 where
    pub order : Order
    pub owners : List (ℕ × SenderNo)
    pub happened : ReachedBy X m T
    pub stands : ShowsLog m T.log
    pub spelled : Spells m.layout.senders T.log order owners
    pub took : TakersTold m.reuse m.owners T.actions
    pub text_is : text
        ≡ owners_line m.owners ++ order_text order
        ++ given_text taken (λ r. order_given (T.heard r)) (length m.receivers)

  abbrev pub Ends : End (Elector S) → Trails → (taken : ℕ → Bool) → List ℕ → Outcome → List ℕ
      → Type 0
  Ends (Left m) T taken text outcome whole =
      (closing : List ℕ) × Closes m T taken closing × (outcome ≡ Done) × (whole ≡ text ++ closing)
  Ends (Stopped refusal) T taken text outcome whole =
      (outcome ≡ Refused) × (whole ≡ text ++ refusal)

  -- by what the first line asks for: such a new bus is made and moved by the lines behind it, or it
  -- is not made
  abbrev pub Begins : ℕ → Option FirstLine → List (ℕ × List ℕ) → Outcome → List ℕ → Type 0
  Begins number None lines outcome whole =
      (outcome ≡ Refused) × (whole ≡ refusal_line (AtLine number) (codes "BadLine"))
  Begins number (Some first) lines outcome whole =
      ((why : MakeFault) × NoBus first why × (why ≢ make.NoMemory) × (outcome ≡ Refused)
      × (whole ≡ refusal_line (AtLine number) (make_fault_name why)))
      ⊎ ((SeatsRefused first × (outcome ≡ Refused)
      × (whole ≡ refusal_line (AtLine number) (codes "Seats")))
      ⊎ ((m : Machine (Elector S)) × IsOpened first m
      × (text : List ℕ) × (end : End (Elector S)) × (run : Prints m lines text end)
      × Ends end (printed_trails m lines text end run no_machine_trails)
      (printed_seats m lines text end run (seats_at_first first)) text outcome whole))

  abbrev pub Replays : List (ℕ × List ℕ) → Outcome → List ℕ → Type 0
  Replays [] outcome whole = (outcome ≡ Refused) × (whole ≡ refusal_line AtEnd (codes "BadLine"))
  Replays (line ∷ lines) outcome whole = Begins line.0 (first_of line.1) lines outcome whole

  -- the text that answers an input
  abbrev pub IsReplay : List ℕ → Outcome → List ℕ → Type 0
  IsReplay input outcome whole = Replays (script_lines input) outcome whole

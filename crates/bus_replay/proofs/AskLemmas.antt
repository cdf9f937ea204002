-- A line that asks for an event asks for it once or more.
use Rattle.std.proofs.Common.{◌≡◌, ℕ, ◌^◌, ◌<◌, Bool, true, false, cond, Option, Some, None, List}
use Rattle.std.proofs.Common.{[], ◌∷◌, codes, nat_lt, nat_le, ◌&&◌, inl, inr, arith, refl, sym, ap}
use Rattle.std.proofs.Common.{subst, ◌∙◌}
use Rattle.std.specs.Prelude.{option_and_then}
use Rattle.std.proofs.lemmas.Bool.{true≢false}
use Rattle.std.proofs.lemmas.Bool.Decides.{leb_tells}
use Rattle.bus_world.specs.World.{Event}
use Rattle.bus_script.specs.Grammar.{number_of, arguments_of}
use Rattle.bus_replay.specs.Lines.{Command, Plays, ForksTo, or_else, are_times, hex_of, put_of}
use Rattle.bus_replay.specs.Lines.{put_from, close_from, turn_from, recv_from, stop_from}
use Rattle.bus_replay.specs.Lines.{leave_from, gone_from, fork_from, numbers_behind, command_of}
use Rattle.bus_replay.specs.declared.lines.TheConstants.{MOST_TURNS_A_LINE}

-- a command, if there is one, asks for its event once or more
abbrev AsksSome : Option Command → Type 0
AsksSome None = Unit {0}
AsksSome (Some (Plays event times)) = 0 < times
AsksSome (Some (ForksTo maker number)) = Unit {0}

either_asks : (first second : Option Command) → AsksSome first → AsksSome second
    → AsksSome (or_else first second)
either_asks (Some c) second one other = one
either_asks None second one other = other

-- where a test passes that wants it
asks_if : (b : Bool) (c : Command) → (b ≡ true → AsksSome (Some c))
    → AsksSome (cond b (Some c) None)
asks_if true c asks = asks refl
asks_if false c asks = tt

some_times : (k : ℕ) → are_times k ≡ true → 0 < k
some_times k is = elim (leb_tells 1 k) [
  | inl h ↦ (let low = h.1 in omega arith)
  | inr h ↦
      absurd (true≢false (sym is ∙ ap (λ (b : Bool). b && nat_le k MOST_TURNS_A_LINE) h.0))
]

second_true : (a b : Bool) → (a && b) ≡ true → b ≡ true
second_true true b is = is
second_true false b is = absurd (true≢false (sym is))

-- ---- each command
put_asks : (s : Option ℕ) (bytes : Option (List ℕ)) → AsksSome (put_of s bytes)
put_asks None bytes = tt
put_asks (Some s) None = tt
put_asks (Some s) (Some bytes) = omega arith

puts_ask : (words : Option (List (List ℕ))) → AsksSome (option_and_then put_from words)
puts_ask None = tt
puts_ask (Some []) = tt
puts_ask (Some (s ∷ [])) = tt
puts_ask (Some (s ∷ bytes ∷ [])) = put_asks (number_of s) (hex_of bytes)
puts_ask (Some (s ∷ bytes ∷ x ∷ more)) = tt

closes_ask : (numbers : Option (List ℕ)) → AsksSome (option_and_then close_from numbers)
closes_ask None = tt
closes_ask (Some []) = tt
closes_ask (Some (s ∷ [])) = omega arith
closes_ask (Some (s ∷ x ∷ more)) = tt

turns_ask : (numbers : Option (List ℕ)) → AsksSome (option_and_then turn_from numbers)
turns_ask None = tt
turns_ask (Some []) = tt
turns_ask (Some (s ∷ [])) = tt
turns_ask (Some (s ∷ w ∷ [])) = tt
turns_ask (Some (s ∷ w ∷ k ∷ [])) =
    asks_if (nat_lt w (2 ^ 32) && are_times k) _
    (λ is. some_times k (second_true (nat_lt w (2 ^ 32)) (are_times k) is))
turns_ask (Some (s ∷ w ∷ k ∷ x ∷ more)) = tt

recvs_ask : (numbers : Option (List ℕ)) → AsksSome (option_and_then recv_from numbers)
recvs_ask None = tt
recvs_ask (Some []) = tt
recvs_ask (Some (m ∷ [])) = tt
recvs_ask (Some (m ∷ k ∷ [])) = asks_if (are_times k) _ (λ is. some_times k is)
recvs_ask (Some (m ∷ k ∷ x ∷ more)) = tt

stops_ask : (numbers : Option (List ℕ)) → AsksSome (option_and_then stop_from numbers)
stops_ask None = tt
stops_ask (Some []) = tt
stops_ask (Some (s ∷ [])) = omega arith
stops_ask (Some (s ∷ x ∷ more)) = tt

leaves_ask : (numbers : Option (List ℕ)) → AsksSome (option_and_then leave_from numbers)
leaves_ask None = tt
leaves_ask (Some []) = tt
leaves_ask (Some (s ∷ [])) = omega arith
leaves_ask (Some (s ∷ x ∷ more)) = tt

gones_ask : (numbers : Option (List ℕ)) → AsksSome (option_and_then gone_from numbers)
gones_ask None = tt
gones_ask (Some []) = tt
gones_ask (Some (m ∷ [])) = omega arith
gones_ask (Some (m ∷ x ∷ more)) = tt

forks_ask : (numbers : Option (List ℕ)) → AsksSome (option_and_then fork_from numbers)
forks_ask None = tt
forks_ask (Some []) = tt
forks_ask (Some (i ∷ [])) = tt
forks_ask (Some (i ∷ j ∷ [])) = tt
forks_ask (Some (i ∷ j ∷ x ∷ more)) = tt

-- ---- a line
line_asks : (line : List ℕ) → AsksSome (command_of line)
line_asks line =
    either_asks _ _ (puts_ask (arguments_of (codes "put") line))
    (either_asks _ _ (closes_ask (numbers_behind (codes "close") line))
    (either_asks _ _ (turns_ask (numbers_behind (codes "turn") line))
    (either_asks _ _ (recvs_ask (numbers_behind (codes "recv") line))
    (either_asks _ _ (stops_ask (numbers_behind (codes "stop") line))
    (either_asks _ _ (leaves_ask (numbers_behind (codes "leave") line))
    (either_asks _ _ (gones_ask (numbers_behind (codes "gone") line))
    (forks_ask (numbers_behind (codes "fork") line))))))))

pub asks_some : (line : List ℕ) (event : Event) (times : ℕ)
    → command_of line ≡ Some (Plays event times) → 0 < times
asks_some line event times is = subst AsksSome is (line_asks line)

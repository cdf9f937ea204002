use Rattle.std.proofs.Common.{◌≡◌, length}
use Rattle.bus_script.specs.Grammar.{each_of}
use Rattle.bus_ratify.specs.Scripts.{bit_of}
use Rattle.bus_script.proofs.EachLaws.{behind}
use Rattle.bus_ratify.proofs.scripts.inputs_of.Given as goal

abbrev pub invariant-loop-word : goal.invariant-loop-word
invariant-loop-word l =
    behind l.inputs.items (each_of bit_of l.words) ≡ each_of bit_of l.initial.words

abbrev pub decreases-loop-word : goal.decreases-loop-word
decreases-loop-word l = length l.words

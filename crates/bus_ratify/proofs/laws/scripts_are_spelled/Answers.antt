use Rattle.bus_script.specs.Grammar.{script_lines}
use Rattle.bus_ratify.proofs.ScriptLemmas.{script_told, script_taken}
use Rattle.bus_ratify.proofs.laws.scripts_are_spelled.Goals as goal

pub returns : goal.returns
returns c = λ bytes script. (
  script_told (script_lines bytes) script,
  script_taken (script_lines bytes) script,
)

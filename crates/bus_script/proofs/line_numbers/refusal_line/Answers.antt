use Rattle.std.proofs.Common.{rules, append_assoc}
use Rattle.bus_script.proofs.line_numbers.refusal_line.Goals as goal

pub returns-in-AtLine : goal.returns-in-AtLine
returns-in-AtLine c = rw c.in-AtLine.is (search (rules, append_assoc))

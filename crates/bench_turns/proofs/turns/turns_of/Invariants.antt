use Rattle.bench_turns.proofs.turns.turns_of.Given as goal

abbrev pub ghosts-take_turns : goal.ghosts-take_turns
ghosts-take_turns g a = record { table = a.made.0.table }

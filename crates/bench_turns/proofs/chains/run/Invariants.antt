use Rattle.bench_turns.proofs.chains.run.Given as goal

abbrev pub ghosts-sit_on : goal.ghosts-sit_on
ghosts-sit_on g a = record { table = a.made.0.table }

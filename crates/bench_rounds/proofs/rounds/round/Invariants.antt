use Rattle.bench_rounds.proofs.rounds.round.Given as goal

abbrev pub ghosts-round_on : goal.ghosts-round_on
ghosts-round_on g a = record { table = a.made.0.table }

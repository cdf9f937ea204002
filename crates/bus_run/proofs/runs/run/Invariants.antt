use Rattle.bus_run.proofs.runs.run.Given as goal

-- the bus that was just made
abbrev pub ghosts-run_on : goal.ghosts-run_on
ghosts-run_on g a = record { table = a.made.0.table }

use Rattle.cdl_run_tests.proofs.trial.Trial.tick.Given as goal

abbrev pub ghosts-one_tick : goal.ghosts-one_tick
ghosts-one_tick a = record { name = a.blank.name; parts = a.blank.parts }

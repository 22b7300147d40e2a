use Rattle.cdl_block_tests.proofs.kinds.steps_need_a_ledger.Given as goal

abbrev pub ghosts-two_steps : goal.ghosts-two_steps
ghosts-two_steps a = record { name = a.blank.name; parts = a.blank.parts }

use Rattle.cdl_trace.proofs.writing.write_all.Given as goal

abbrev pub ghosts-write_rows : goal.ghosts-write_rows
ghosts-write_rows g a = record { name = a.blank.name; parts = a.blank.parts }

use Rattle.extent_file.proofs.format_tests.works_as_another_implementation.Given as goal

abbrev pub ghosts-works : goal.ghosts-works
ghosts-works g a = record { name = a.blank.name; parts = a.blank.parts }

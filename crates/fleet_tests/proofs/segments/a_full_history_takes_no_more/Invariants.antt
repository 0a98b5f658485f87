use Rattle.fleet_tests.proofs.segments.a_full_history_takes_no_more.Given as goal

abbrev pub ghosts-full_history : goal.ghosts-full_history
ghosts-full_history g a = record { name = a.blank.name; parts = a.blank.parts }

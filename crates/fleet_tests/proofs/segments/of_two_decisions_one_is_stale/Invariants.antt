use Rattle.fleet_tests.proofs.segments.of_two_decisions_one_is_stale.Given as goal

abbrev pub ghosts-two_decisions : goal.ghosts-two_decisions
ghosts-two_decisions g a = record { name = a.blank.name; parts = a.blank.parts }

use Rattle.fleet_tests.proofs.segments.edges.each_number_of_taps.Given as goal

abbrev pub ghosts-of_taps : goal.ghosts-of_taps
ghosts-of_taps g a = record { name = a.blank.name; parts = a.blank.parts }

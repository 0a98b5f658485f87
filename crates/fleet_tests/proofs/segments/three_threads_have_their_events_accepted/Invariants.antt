use Rattle.fleet_tests.proofs.segments.three_threads_have_their_events_accepted.Given as goal

abbrev pub ghosts-three_threads : goal.ghosts-three_threads
ghosts-three_threads g a = record { name = a.blank.name; parts = a.blank.parts }

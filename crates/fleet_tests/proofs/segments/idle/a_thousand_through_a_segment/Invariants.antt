use Rattle.fleet_tests.proofs.segments.idle.a_thousand_through_a_segment.Given as goal

abbrev pub ghosts-through_a_segment : goal.ghosts-through_a_segment
ghosts-through_a_segment g a = record { name = a.blank.name; parts = a.blank.parts }

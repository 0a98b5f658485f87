use Rattle.fleet_tests.proofs.segments.memory.refused_memory_in_a_segment.Given as goal

abbrev pub ghosts-refused_once : goal.ghosts-refused_once
ghosts-refused_once g a = record { name = a.blank.name; parts = a.blank.parts }

use Rattle.fleet_tests.proofs.segments.a_long_history_is_reported_in_order.Given as goal

abbrev pub ghosts-long_history : goal.ghosts-long_history
ghosts-long_history g a = record { name = a.blank.name; parts = a.blank.parts }

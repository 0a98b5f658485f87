-- The ledger is the blank's.
use Rattle.pb_fleet.proofs.fleets.run_fleet.Given as goal

abbrev pub ghosts-fleet : goal.ghosts-fleet
ghosts-fleet g a = record { name = a.blank.name; parts = a.blank.parts }

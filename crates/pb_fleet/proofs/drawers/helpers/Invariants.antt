use Rattle.std.proofs.Common.{◌≡◌, ◌+◌}
use Rattle.pb_fleet.specs.Seats.{IsOf, parts_of}
use Rattle.pb_fleet.proofs.drawers.helpers.Given as goal

abbrev pub invariant-loop-made : goal.invariant-loop-made
invariant-loop-made l = IsOf l.seat l.tickets × (parts_of l.seat + l.made ≡ l.crew + 1)

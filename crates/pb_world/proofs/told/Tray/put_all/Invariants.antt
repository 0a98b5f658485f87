use Rattle.std.proofs.Common.{◌≡◌, map}
use Rattle.std.specs.Prelude.{drop}
use Rattle.pb_station.specs.Indications.{fields_of}
use Rattle.pb_world.specs.Told.{with_more}
use Rattle.pb_world.proofs.told.Tray.put_all.Given as goal

-- the requests that are left bring the tray to what all of them make of it
abbrev pub invariant-loop-request : goal.invariant-loop-request
invariant-loop-request l = with_more (drop l.request-index (map fields_of l.requests)) l.self ≡ with_more (map fields_of l.requests) l.fn.self

-- Why a fleet returns no report.
use Rattle.std.specs.Prelude.{◌≡◌, ℕ, ◌≤◌, Result, IsOk, MatchResult}
use Rattle.law_model.specs.World as model
use Rattle.law_model.specs.World.{World}
use Rattle.pb_taps.specs.Faults.{new_fault}
use Rattle.pb_fleet.specs.declared.faults.FleetFault.{FleetFault}
use Rattle.pb_fleet.specs.declared.faults.FleetFault.TheVariants as fault

-- a valid number of workers
abbrev pub IsCrew : ℕ → Type 0
IsCrew workers = (1 ≤ workers) × (workers ≤ 64)

-- a fault of a fleet with a world to play on
abbrev pub IsOfPlay : FleetFault → Type 0
IsOfPlay fault.BadWorkers = ⊥
IsOfPlay (fault.Commit tap now why) = Unit {0}
IsOfPlay (fault.Drive now why) = Unit {0}
IsOfPlay (fault.GateClosed tap) = Unit {0}
IsOfPlay fault.NoThread = Unit {0}
IsOfPlay (fault.Closing why) = Unit {0}
IsOfPlay fault.NoMemory = Unit {0}
IsOfPlay (fault.New why) = ⊥

-- why a fleet of this many workers returns no report, given its new world: the number is not valid; or there is no such
-- world; or any other fault, if neither holds
abbrev pub RefusesFleet : ℕ → Result World model.NewFault → FleetFault → Type 0
RefusesFleet workers made fault.BadWorkers = IsCrew workers → ⊥
RefusesFleet workers made (fault.Commit tap now why) = IsCrew workers × IsOk made
RefusesFleet workers made (fault.Drive now why) = IsCrew workers × IsOk made
RefusesFleet workers made (fault.GateClosed tap) = IsCrew workers × IsOk made
RefusesFleet workers made fault.NoThread = IsCrew workers × IsOk made
RefusesFleet workers made (fault.Closing why) = IsCrew workers × IsOk made
RefusesFleet workers made fault.NoMemory = IsCrew workers × IsOk made
RefusesFleet workers made (fault.New why) = IsCrew workers × MatchResult made (λ _. ⊥) (λ reason. why ≡ new_fault reason)

-- The taps of a new world.
use Rattle.std.specs.Prelude.{◌≡◌, ◌≤◌, List, All, length}
use Rattle.law_model.specs.World.{tap_limit}
use Rattle.pb_taps.specs.declared.faults.NewFault.{NewFault}
use Rattle.pb_taps.specs.declared.faults.NewFault.TheVariants as new
use Rattle.pb_taps.specs.declared.taps.TapSpec.{TapSpec}

-- at most 127 taps, each with the address of a station
abbrev pub AreStations : List TapSpec → Type 0
AreStations specs = (length specs ≤ tap_limit) × All (λ s. s.address ≤ 126) specs

abbrev pub IsNoMemory : NewFault → Type 0
IsNoMemory fault = fault ≡ new.NoMemory

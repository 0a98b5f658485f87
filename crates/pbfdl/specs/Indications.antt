-- What C is told of a request that a station has executed.
use Rattle.std.specs.Prelude.{◌≡◌, ℕ, take, Option, Some, None}
use Rattle.pb_cycles.specs.declared.services.Service.{Service}
use Rattle.pb_cycles.specs.declared.services.Service.TheVariants.{Sda, Sdn, Srd}
use Rattle.pb_station.specs.Indications.{IndicationFields}
use Rattle.pbfdl.specs.declared.indications.FdlIndication.{FdlIndication}

-- the services by number
abbrev pub service_number : Service → ℕ
service_number Sda = 0
service_number Sdn = 1
service_number Srd = 2

abbrev pub TellsRequest : FdlIndication → IndicationFields → Type 0
TellsRequest told i = (told.source ≡ i.source) × (told.service ≡ service_number i.service) × (told.high ≡ i.high) × (take told.count told.data ≡ i.unit)

-- the code, and what is told of a request if there is one
abbrev pub TellsAt : ℕ → FdlIndication → Option IndicationFields → Type 0
TellsAt code told None = code ≡ 69
TellsAt code told (Some i) = (code ≡ 0) × TellsRequest told i

-- The requests that stations execute, kept at the taps that are asked for.
use Rattle.std.specs.Prelude.{ℕ, ◌==◌, if◌then◌else◌, List, [], ◌∷◌, ◌++◌, length, nat_lt, slice_get, Option, Some, None, Result, Ok, Err}
use Rattle.std.specs.Option.{option_map}
use Rattle.pb_timers.specs.Timers.{Params}
use Rattle.law_model.specs.Medium.{Tap}
use Rattle.law_model.specs.World.{World, Event, Turn, Pass, Damage, Start, Stop, Queue, Noise, Unheard, Reply, Fault}
use Rattle.law_model.specs.Step.{step}
use Rattle.pb_taps.specs.declared.taps.Tap as taps
use Rattle.pb_station.specs.Indications.{IndicationFields, indications_of}

-- of one tap: how many are kept, and the first that it has executed since it was asked for them, or they were forgotten
pub record Executed : Type 0 where
  pub room : ℕ
  pub requests : List IndicationFields

-- one more is kept if there is room
abbrev pub with_one : Executed → IndicationFields → Executed
with_one kept r = if nat_lt (length kept.requests) kept.room then record { room = kept.room; requests = kept.requests ++ r ∷ [] } else kept

-- and some more, in order
abbrev pub with_more : List IndicationFields → Executed → Executed
with_more [] kept = kept
with_more (r ∷ rs) kept = with_more rs (with_one kept r)

-- none of them any more
abbrev pub emptied : Executed → Executed
emptied kept = record { room = kept.room; requests = [] }

-- what is kept, by tap, and the requests of a turn that is being taken
pub record ToldView : Type 0 where
  pub trays : List (Option Executed)
  pub news : List IndicationFields

abbrev pub tray_in : Option (Option Executed) → Option Executed
tray_in None = None
tray_in (Some tray) = tray

-- what is kept of the tap with an index, if it was asked for
abbrev pub tray_at : ToldView → ℕ → Option Executed
tray_at told k = tray_in (slice_get told.trays k)

-- the requests that are kept of it
abbrev pub requests_in : Option Executed → Option (List IndicationFields)
requests_in tray = option_map (λ t. t.requests) tray

abbrev pub requests_at : ToldView → ℕ → Option (List IndicationFields)
requests_at told k = requests_in (tray_at told k)

-- what is kept of it after more requests
abbrev pub tray_with : List IndicationFields → Option Executed → Option Executed
tray_with more tray = option_map (with_more more) tray

-- ---- events

-- the requests that the station at a tap executes in its turn
abbrev pub executes : Params → Option Tap → List IndicationFields
executes p None = []
executes p (Some t) = indications_of p t.station t.marks

-- those that the tap with an index executes in an event
abbrev pub executed_in : World → Event → ℕ → List IndicationFields
executed_in w (Turn tap) k = if tap == k then executes w.params (slice_get w.taps tap) else []
executed_in w (Pass bits) k = []
executed_in w (Damage tap speaker place) k = []
executed_in w (Start tap) k = []
executed_in w (Stop tap) k = []
executed_in w (Queue tap request) k = []
executed_in w (Noise bits) k = []
executed_in w (Unheard tap speaker) k = []

abbrev pub left_by : World → Result (World × Reply) Fault → World
left_by w (Ok next) = next.0
left_by w (Err fault) = w

-- and in some events
abbrev pub executed_by : World → List Event → ℕ → List IndicationFields
executed_by w [] k = []
executed_by w (e ∷ es) k = executed_in w e k ++ executed_by (left_by w (step w e)) es k

-- those of a tap's station, by the parameters that it has
abbrev pub executed_by_tap : Option taps.Tap → List IndicationFields
executed_by_tap None = []
executed_by_tap (Some t) = indications_of t.station.params t.station.station t.marks

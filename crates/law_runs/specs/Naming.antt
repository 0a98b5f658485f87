-- The station that the trace of the bus names.
use Rattle.std.specs.Prelude.{ℕ, ◌+◌, if◌then◌else◌, ◌==◌, nat_lt, ◌&&◌, List, [], ◌∷◌, slice_get, Option, Some, None}
use Rattle.pb_timers.specs.Timers.{Params}
use Rattle.law_model.specs.Trace.{Heard, Record, Entry}
use Rattle.law_model.specs.Medium.{TapSpec}
use Rattle.law_runs.specs.Activity.{is_silent}
use Rattle.law_runs.specs.Initiators.{offered_to, last_initiator}
use Rattle.law_runs.specs.Legality.{is_whole}

-- the first of some taps with an address that received a telegram whole, the first of them at an index
abbrev pub first_that_heard : List Heard → ℕ → ℕ → List TapSpec → Option ℕ
first_that_heard heard to tap [] = None
first_that_heard heard to tap (spec ∷ specs) = if spec.address == to && is_whole (slice_get heard tap) then Some tap else first_that_heard heard to (tap + 1) specs

-- after a token to another station: within the slot the station that heard it, and after a slot in silence its speaker
-- again
abbrev pub named_after_token : Params → List TapSpec → List Entry → Record → ℕ → ℕ → Option ℕ
named_after_token p specs trace r to t =
    if nat_lt t (r.end + p.tsl) then first_that_heard r.heard to 0 specs
    else if is_silent p.ttd r.tap trace r.end (r.end + p.tsl) then Some r.tap
    else None

abbrev pub named_by_offer : Params → List TapSpec → List Entry → Record → Option ℕ → ℕ → Option ℕ
named_by_offer p specs trace r None t = Some r.tap
named_by_offer p specs trace r (Some to) t = if nat_lt t r.end then Some r.tap else named_after_token p specs trace r to t

abbrev pub named_by : Params → List TapSpec → List Entry → Option Record → ℕ → Option ℕ
named_by p specs trace None t = None
named_by p specs trace (Some r) t = named_by_offer p specs trace r (offered_to r) t

-- the tap that the trace names at a moment
abbrev pub named : Params → List TapSpec → List Entry → ℕ → Option ℕ
named p specs trace t = named_by p specs trace (last_initiator t trace) t

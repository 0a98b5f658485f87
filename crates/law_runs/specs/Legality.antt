-- Which initiator records are legal after the one before them.
use Rattle.std.specs.Prelude.{ℕ, ◌+◌, ◌-◌, Bool, true, false, if◌then◌else◌, ◌==◌, nat_lt, nat_le, ◌&&◌, ◌||◌, List, [], ◌∷◌, slice_get, Option, Some, None}
use Rattle.pb_timers.specs.Timers.{Params, tto}
use Rattle.law_model.specs.Trace.{Heard, Whole, Record, Entry, Sent, Noise}
use Rattle.law_model.specs.Medium.{TapSpec}
use Rattle.law_runs.specs.Activity.{is_silent}
use Rattle.law_runs.specs.Initiators.{telegram_of, is_initiator, offered_to, claims_for}

abbrev pub is_whole : Option Heard → Bool
is_whole (Some Whole) = true
is_whole heard = false

-- the address of a tap; if there is no such tap, an address that no telegram has
abbrev pub address_in : Option TapSpec → ℕ
address_in None = 255
address_in (Some spec) = spec.address

abbrev pub address_at : List TapSpec → ℕ → ℕ
address_at specs tap = address_in (slice_get specs tap)

-- a claim: a token of the speaker to itself, after its time-out without activity at it, its own telegrams included
abbrev pub is_claim : Params → List TapSpec → List Entry → Record → Bool
is_claim p specs trace r =
    let address = address_at specs r.tap in
    claims_for address (telegram_of r) && is_silent p.ttd r.tap trace (r.begin - tto p address) r.begin

-- after a token to an address: its speaker passes it again after a slot in silence, or the station with that address
-- that received it whole takes it within the slot
abbrev pub follows_token : Params → List TapSpec → List Entry → Record → ℕ → Record → Bool
follows_token p specs trace last to r =
    if last.tap == r.tap then nat_le (last.end + p.tsl) r.begin && is_silent p.ttd r.tap trace last.end (last.end + p.tsl)
    else to == address_at specs r.tap && is_whole (slice_get last.heard r.tap) && nat_lt r.begin (last.end + p.tsl)

-- after an initiator record that passes the token to a station, or to none
abbrev pub follows_by : Params → List TapSpec → List Entry → Record → Option ℕ → Record → Bool
follows_by p specs trace last None r = last.tap == r.tap
follows_by p specs trace last (Some to) r = follows_token p specs trace last to r

-- an initiator record is legal after the one before it, if that has ended and it follows it or is a claim; the first
-- one must be a claim
abbrev pub is_legal_after : Params → List TapSpec → List Entry → Option Record → Record → Bool
is_legal_after p specs trace None r = is_claim p specs trace r
is_legal_after p specs trace (Some last) r = nat_le last.end r.begin && (follows_by p specs trace last (offered_to last) r || is_claim p specs trace r)

-- the index of the first illegal initiator record of some entries of a trace, the first of them at an index, after an
-- initiator record
abbrev pub first_illegal_from : Params → List TapSpec → List Entry → Option Record → ℕ → List Entry → Option ℕ
first_illegal_from p specs trace last place [] = None
first_illegal_from p specs trace last place (Noise span ∷ es) = first_illegal_from p specs trace last (place + 1) es
first_illegal_from p specs trace last place (Sent r ∷ es) =
    if is_initiator r then (if is_legal_after p specs trace last r then first_illegal_from p specs trace (Some r) (place + 1) es else Some place)
    else first_illegal_from p specs trace last (place + 1) es

abbrev pub first_illegal : Params → List TapSpec → List Entry → Option ℕ
first_illegal p specs trace = first_illegal_from p specs trace None 0 trace

-- Initiator records: telegrams that only the station with the token may send.
use Rattle.std.specs.Prelude.{ℕ, Bool, true, false, ◌==◌, nat_le, if◌then◌else◌, ◌&&◌, List, [], ◌∷◌, map, Option, Some, None}
use Rattle.pb_telegram.specs.declared.chars.RxChar.TheVariants.{Good}
use Rattle.pb_cycles.specs.Messages.{has_bit}
use Rattle.law_turn.specs.Arrivals.{Arrival, Token, Framed, Acknowledgement, NoTelegram, arrival_of}
use Rattle.law_model.specs.Trace.{Record, Entry, Sent, Noise}

-- the telegram that was to be sent, also if it was cut
abbrev pub telegram_of : Record → Arrival
telegram_of r = arrival_of (map Good r.octets)

-- a token or a request
abbrev pub initiates : Arrival → Bool
initiates (Token da sa) = true
initiates (Framed f) = has_bit f.fc 6
initiates Acknowledgement = false
initiates NoTelegram = false

abbrev pub is_initiator : Record → Bool
is_initiator r = initiates (telegram_of r)

-- the station to which a token goes, if that is not its source
abbrev pub offered_by : Arrival → Option ℕ
offered_by (Token da sa) = if da == sa then None else Some da
offered_by (Framed f) = None
offered_by Acknowledgement = None
offered_by NoTelegram = None

abbrev pub offered_to : Record → Option ℕ
offered_to r = offered_by (telegram_of r)

-- a token from a station to itself
abbrev pub claims_for : ℕ → Arrival → Bool
claims_for address (Token da sa) = da == address && sa == address
claims_for address (Framed f) = false
claims_for address Acknowledgement = false
claims_for address NoTelegram = false

abbrev pub later_record : Option Record → Record → Option Record
later_record last r = if is_initiator r then Some r else last

-- the last initiator record that has begun by a moment, after a given one
abbrev pub last_from : Option Record → ℕ → List Entry → Option Record
last_from last t [] = last
last_from last t (Noise span ∷ es) = last_from last t es
last_from last t (Sent r ∷ es) = last_from (if nat_le r.begin t then later_record last r else last) t es

abbrev pub last_initiator : ℕ → List Entry → Option Record
last_initiator t trace = last_from None t trace

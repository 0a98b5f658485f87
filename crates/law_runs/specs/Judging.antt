-- The first illegal initiator record, in one pass over a trace in order of begin: each record is judged by the entries
-- before it.
use Rattle.std.specs.Prelude.{ℕ, ◌+◌, ◌-◌, ◌≤◌, ◌<◌, Bool, true, if◌then◌else◌, ◌==◌, nat_lt, nat_le, ◌&&◌, ◌||◌, not, max, List, [], ◌∷◌, ◌++◌, slice_get, Option, Some, None}
use Rattle.pb_timers.specs.Timers.{Params, tto}
use Rattle.law_model.specs.Trace.{Record, Entry, Sent, Noise, entry_begin, entry_end}
use Rattle.law_model.specs.Medium.{TapSpec, reaches_taps}
use Rattle.law_model.specs.World.{World}
use Rattle.law_runs.specs.Activity.{active_at, is_within, is_silent}
use Rattle.law_runs.specs.Initiators.{telegram_of, is_initiator, offered_to, claims_for}
use Rattle.law_runs.specs.Legality.{is_whole, address_at}

-- each entry has a duration, and begins no earlier than the one before it; the first one begins no earlier than a
-- moment
abbrev pub IsOrderedFrom : ℕ → List Entry → Type 0
IsOrderedFrom from [] = Unit {0}
IsOrderedFrom from (e ∷ es) = (from ≤ entry_begin e) × (entry_begin e < entry_end e) × IsOrderedFrom (entry_begin e) es

abbrev pub IsOrdered : List Entry → Type 0
IsOrdered trace = IsOrderedFrom 0 trace

-- entries are in order of begin, the first of them no earlier than a moment
abbrev pub StandsFrom : ℕ → List Entry → Type 0
StandsFrom from [] = Unit {0}
StandsFrom from (e ∷ es) = (from ≤ entry_begin e) × StandsFrom (entry_begin e) es

-- the trace of a world is in order of begin
abbrev pub Stands : World → Type 0
Stands w = StandsFrom 0 w.trace

-- the latest end of some entries at a tap
abbrev pub latest_end : (delay tap : ℕ) → List Entry → ℕ
latest_end delay tap [] = 0
latest_end delay tap (e ∷ es) = max (active_at delay tap e).end (latest_end delay tap es)

-- some entries have begun at all taps before a moment
abbrev pub AllReached : (delay moment : ℕ) → List Entry → Type 0
AllReached delay moment [] = Unit {0}
AllReached delay moment (e ∷ es) = ((reaches_taps delay e).begin < moment) × AllReached delay moment es

-- the last initiator record, and whether nothing was active at its speaker so far in the slot after it
pub record LastInitiator : Type 0 where
  pub telegram : Record
  pub silent : Bool

-- an entry is active at the speaker of a telegram in the slot after it
abbrev pub is_in_slot : (delay tsl : ℕ) → Record → Entry → Bool
is_in_slot delay tsl r e = is_within r.end (r.end + tsl) (active_at delay r.tap e)

-- the last initiator record after an entry that is none
abbrev pub slot_after : (delay tsl : ℕ) → Entry → Option LastInitiator → Option LastInitiator
slot_after delay tsl e None = None
slot_after delay tsl e (Some last) = Some (record last { silent = last.silent && not (is_in_slot delay tsl last.telegram e) })

-- the last initiator record after an entry that follows the earlier ones
abbrev pub last_after : (delay tsl : ℕ) → List Entry → Option LastInitiator → Entry → Option LastInitiator
last_after delay tsl earlier last (Noise span) = slot_after delay tsl (Noise span) last
last_after delay tsl earlier last (Sent r) =
    if is_initiator r then Some (record { telegram = r; silent = is_silent delay r.tap earlier r.end (r.end + tsl) }) else slot_after delay tsl (Sent r) last

-- a claim, by the entries before it
abbrev pub claims_after : Params → List TapSpec → List Entry → Record → Bool
claims_after p specs earlier r =
    let address = address_at specs r.tap in
    claims_for address (telegram_of r) && is_silent p.ttd r.tap earlier (r.begin - tto p address) r.begin

abbrev pub takes_after : Params → List TapSpec → LastInitiator → ℕ → Record → Bool
takes_after p specs last to r =
    if last.telegram.tap == r.tap then nat_le (last.telegram.end + p.tsl) r.begin && last.silent
    else to == address_at specs r.tap && is_whole (slice_get last.telegram.heard r.tap) && nat_lt r.begin (last.telegram.end + p.tsl)

abbrev pub goes_on_after : Params → List TapSpec → LastInitiator → Option ℕ → Record → Bool
goes_on_after p specs last None r = last.telegram.tap == r.tap
goes_on_after p specs last (Some to) r = takes_after p specs last to r

abbrev pub may_follow : Params → List TapSpec → List Entry → Option LastInitiator → Record → Bool
may_follow p specs earlier None r = claims_after p specs earlier r
may_follow p specs earlier (Some last) r =
    nat_le last.telegram.end r.begin && (goes_on_after p specs last (offered_to last.telegram) r || claims_after p specs earlier r)

-- whether an entry is not an illegal initiator record
abbrev pub may_come : Params → List TapSpec → List Entry → Option LastInitiator → Entry → Bool
may_come p specs earlier last (Noise span) = true
may_come p specs earlier last (Sent r) = not (is_initiator r) || may_follow p specs earlier last r

-- the index of the first entry that is illegal after some others, the first of them at an index
abbrev pub judged_from : Params → List TapSpec → List Entry → Option LastInitiator → ℕ → List Entry → Option ℕ
judged_from p specs earlier last place [] = None
judged_from p specs earlier last place (e ∷ es) =
    if may_come p specs earlier last e then judged_from p specs (earlier ++ e ∷ []) (last_after p.ttd p.tsl earlier last e) (place + 1) es
    else Some place

-- What a judge keeps of the entries that it has heard, and how it hears one more: it finds the first illegal initiator
-- record without the entries that have begun at all taps.
use Rattle.std.specs.Prelude.{ℕ, ◌+◌, ◌-◌, Bool, true, if◌then◌else◌, nat_lt, nat_le, ◌&&◌, ◌||◌, not, max, List, [], ◌∷◌, ◌++◌, map, get_or, Option, Some, None}
use Rattle.pb_timers.specs.Timers.{Params, tto}
use Rattle.law_model.specs.Trace.{Record, Entry, Sent, Noise, entry_begin}
use Rattle.law_model.specs.Medium.{TapSpec, reaches_taps}
use Rattle.law_runs.specs.Activity.{active_at, is_silent}
use Rattle.law_runs.specs.Initiators.{telegram_of, is_initiator, offered_to, claims_for}
use Rattle.law_runs.specs.Legality.{address_at}
use Rattle.law_runs.specs.Judging.{LastInitiator, slot_after, goes_on_after}

pub record Kept : Type 0 where
  -- how many entries were heard
  pub count : ℕ
  -- the latest end, by tap, of the first ones: those that had begun at all taps when the newest one began
  pub ends : List ℕ
  -- the others: whose they are, and when they are on the bus
  pub recent : List Entry
  -- the last initiator record
  pub last : Option LastInitiator
  -- the index of the first illegal one
  pub illegal : Option ℕ

-- before the first entry
abbrev pub nothing_kept : List TapSpec → Kept
nothing_kept specs = record { count = 0; ends = map (λ spec. 0) specs; recent = []; last = None; illegal = None }

-- ---- the entries on the bus

-- an entry without what was sent, and how that reached the taps
abbrev pub bare : Entry → Entry
bare (Noise span) = Noise span
bare (Sent r) = Sent (record r { octets = []; hits = []; heard = [] })

-- latest ends by tap, the first of them at an index, with those of one more entry
abbrev pub ends_with : (delay tap : ℕ) → Entry → List ℕ → List ℕ
ends_with delay tap e [] = []
ends_with delay tap e (end ∷ ends) = max end (active_at delay tap e).end ∷ ends_with delay (tap + 1) e ends

-- latest ends with those of the first of some entries: the ones that have begun at all taps before a moment
abbrev pub ends_by : (delay moment : ℕ) → List ℕ → List Entry → List ℕ
ends_by delay moment ends [] = ends
ends_by delay moment ends (e ∷ es) = if nat_lt (reaches_taps delay e).begin moment then ends_by delay moment (ends_with delay 0 e ends) es else ends

-- the others
abbrev pub recent_at : (delay moment : ℕ) → List Entry → List Entry
recent_at delay moment [] = []
recent_at delay moment (e ∷ es) = if nat_lt (reaches_taps delay e).begin moment then recent_at delay moment es else e ∷ es

-- what is kept when the next entry begins
abbrev pub kept_at : (delay moment : ℕ) → Kept → Kept
kept_at delay moment k = record k { ends = ends_by delay moment k.ends k.recent; recent = recent_at delay moment k.recent }

-- no activity at a tap between two moments, the second no earlier than the newest begin
abbrev pub was_silent : Kept → (delay tap from to : ℕ) → Bool
was_silent k delay tap from to = nat_le (get_or k.ends tap 0) from && is_silent delay tap k.recent from to

-- ---- the rules

-- a telegram is a claim
abbrev pub claims_by : Params → List TapSpec → Kept → Record → Bool
claims_by p specs k r =
    let address = address_at specs r.tap in
    claims_for address (telegram_of r) && was_silent k p.ttd r.tap (r.begin - tto p address) r.begin

abbrev pub follows_last : Params → List TapSpec → Kept → Option LastInitiator → Record → Bool
follows_last p specs k None r = claims_by p specs k r
follows_last p specs k (Some last) r = nat_le last.telegram.end r.begin && (goes_on_after p specs last (offered_to last.telegram) r || claims_by p specs k r)

-- an entry is not an illegal initiator record
abbrev pub is_legal : Params → List TapSpec → Kept → Entry → Bool
is_legal p specs k (Noise span) = true
is_legal p specs k (Sent r) = not (is_initiator r) || follows_last p specs k k.last r

-- the last initiator record with one more entry
abbrev pub last_with : Params → Kept → Entry → Option LastInitiator
last_with p k (Noise span) = slot_after p.ttd p.tsl (Noise span) k.last
last_with p k (Sent r) =
    if is_initiator r then Some (record { telegram = r; silent = was_silent k p.ttd r.tap r.end (r.end + p.tsl) }) else slot_after p.ttd p.tsl (Sent r) k.last

-- ---- hearing

-- the first index, if one was found, or that of this entry
abbrev pub first_found : Option ℕ → ℕ → Bool → Option ℕ
first_found (Some place) count legal = Some place
first_found None count legal = if legal then None else Some count

abbrev pub kept_with : Params → List TapSpec → Kept → Entry → Kept
kept_with p specs k e = record {
  count = k.count + 1;
  ends = k.ends;
  recent = k.recent ++ bare e ∷ [];
  last = last_with p k e;
  illegal = first_found k.illegal k.count (is_legal p specs k e);
}

-- one more entry is heard, which begins no earlier than those before it
abbrev pub hear : Params → List TapSpec → Kept → Entry → Kept
hear p specs k e = kept_with p specs (kept_at p.ttd (entry_begin e) k) e

abbrev pub hear_all : Params → List TapSpec → Kept → List Entry → Kept
hear_all p specs k [] = k
hear_all p specs k (e ∷ es) = hear_all p specs (hear p specs k e) es

-- what is kept of some entries
abbrev pub kept_of : Params → List TapSpec → List Entry → Kept
kept_of p specs entries = hear_all p specs (nothing_kept specs) entries

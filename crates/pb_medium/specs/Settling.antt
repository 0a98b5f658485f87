-- How a pass of time changes the entries of the trace.
use Rattle.std.specs.Prelude.{ℕ, Bool, not, ◌+◌, ◌==◌, max, nat_lt, nat_le, ◌&&◌, List, map, take, drop, slice_get, if◌then◌else◌, Option, Some, None}
use Rattle.std.specs.List.{fold, list_all, position_or_len}
use Rattle.law_model.specs.Trace.{Heard, Record, Entry, Sent, Noise}
use Rattle.law_model.specs.Medium.{Tap, reaches, reaches_taps, is_unheard, hears_from, entry_at, is_whole_at, heard_in_the_end}
use Rattle.pb_medium.specs.Senses.{is_undamaged}

-- a tap runs, has heard a telegram from its begin, and is not its speaker
abbrev pub hears_all : ℕ → ℕ → Tap → Record → Bool
hears_all delay tap t r = t.running && hears_from t (reaches delay r).begin && not (r.tap == tap)

-- a telegram has a duration, is not lost at a tap, and reaches it undamaged: a tap that hears it from its begin, with
-- nothing else, receives it whole
abbrev pub comes_whole : ℕ → Record → Bool
comes_whole tap r = nat_lt r.begin r.end && not (is_unheard (slice_get r.heard tap)) && is_undamaged tap r

-- how a telegram that has ended reached the tap at an index, if there is one
abbrev pub heard_with : ℕ → List Entry → Record → ℕ → Option Tap → Heard → Heard
heard_with delay trace r tap None h = h
heard_with delay trace r tap (Some t) h = heard_in_the_end (is_whole_at delay tap t trace r) h

-- an entry with this as how its telegram, if it is one, reached the taps
abbrev pub with_heard : List Heard → Entry → Entry
with_heard hs (Noise span) = Noise span
with_heard hs (Sent r) = Sent (record r { heard = hs })

-- an entry whose telegram is settled by now, or not yet
abbrev pub settled_as : Option (List Heard) → Entry → Entry
settled_as None e = e
settled_as (Some hs) e = with_heard hs e

-- entries after a pass from one moment to another
abbrev pub settled : ℕ → List Tap → ℕ → ℕ → List Entry → List Entry
settled delay taps from to entries = map (entry_at delay taps entries from to) entries

-- ---- what is over

-- how many of the first entries have ended at the taps by now
abbrev pub first_ended : ℕ → ℕ → List Entry → ℕ
first_ended delay now entries = position_or_len (λ e. nat_lt now (reaches_taps delay e).end) entries

-- when all of some entries have ended at the taps
abbrev pub latest_end : ℕ → List Entry → ℕ
latest_end delay entries = fold (λ m e. max m (reaches_taps delay e).end) 0 entries

-- no entry reaches the taps before a moment
abbrev pub none_before : ℕ → ℕ → List Entry → Bool
none_before delay m entries = list_all (λ e. nat_le m (reaches_taps delay e).begin) entries

-- how many of some entries are over: the first ones that have ended, if the others reach the taps no earlier
abbrev pub count_over : ℕ → ℕ → List Entry → ℕ
count_over delay now entries =
    let ended = first_ended delay now entries in
    if none_before delay (latest_end delay (take ended entries)) (drop ended entries) then ended else 0

abbrev pub over_after : ℕ → ℕ → ℕ → List Entry → ℕ
over_after delay now over entries = over + count_over delay now (drop over entries)

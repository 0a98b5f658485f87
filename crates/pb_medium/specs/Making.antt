-- A telegram that a user of the library makes, and why it is refused.
use Rattle.std.specs.Prelude.{◌≡◌, ℕ, ◌+◌, Bool, true, false, ◌==◌, nat_le, nat_lt, not, ◌&&◌, ◌||◌, if◌then◌else◌, List, [], ◌∷◌, length}
use Rattle.law_model.specs.Trace.{Heard, Own, Whole, Damaged, Unheard, Pending}
use Rattle.law_model.specs.World.{clock_limit, tap_limit}
use Rattle.pb_medium.specs.declared.making.RecordFault.{RecordFault}
use Rattle.pb_medium.specs.declared.making.RecordFault.TheVariants.{Ends, ClockFull, Hears}

abbrev pub is_own : Heard → Bool
is_own Own = true
is_own Whole = false
is_own Damaged = false
is_own Unheard = false
is_own Pending = false

-- how a telegram reached a tap at first, if this is how it reached it in the end: the speaker's own, or pending
abbrev pub own_or_pending : Heard → Heard
own_or_pending h = if is_own h then Own else Pending

-- of some taps, the first of them at an index, only the speaker has the telegram as its own
abbrev pub is_own_alone : ℕ → ℕ → List Heard → Bool
is_own_alone speaker tap [] = true
is_own_alone speaker tap (h ∷ hs) = (if tap == speaker then is_own h else not (is_own h)) && is_own_alone speaker (tap + 1) hs

-- a list has how a telegram reached each tap of a bus, its speaker included
abbrev pub fits_taps : ℕ → List Heard → Bool
fits_taps speaker heard = nat_le (length heard) tap_limit && (nat_lt speaker (length heard) && is_own_alone speaker 0 heard)

abbrev pub record_faults : (tap begin end : ℕ) → List Heard → List (Bool × RecordFault)
record_faults tap begin end heard =
    (nat_le end begin, Ends) ∷ (nat_lt clock_limit begin || nat_lt clock_limit end, ClockFull) ∷ (not (fits_taps tap heard), Hears) ∷ []

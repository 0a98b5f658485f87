-- The bus is never dead.
--
-- In every run that keeps the premises, for any master n that has run since m or earlier and is not offline: if no
-- noise is active from m to now, and
--
--     now > m + (ttr - 1) + C + C' + TTO(n) + lag + ttd,
--
-- then a token telegram is on the bus at some moment from m to now, both included, with any damage, starts, stops and
-- requests meanwhile. C is the longest cycle with its retries, and C' is one up to the end of its reply. A token
-- telegram counts while it is on the bus: also a claim, one that is damaged, and one that a stop cuts short. Two runs
-- in Examples.antt reach the bound.
use Rattle.std.specs.Prelude.{◌≡◌, ℕ, ◌+◌, ◌-◌, ◌*◌, ◌≤◌, ◌<◌, Bool, true, false, ◌&&◌, List, None}
use Rattle.std.specs.List.{list_any}
use Rattle.pb_timers.specs.Timers.{Params, bits, tto}
use Rattle.pb_timers.specs.ParamRules.{IsValid}
use Rattle.law_turn.specs.Arrivals.{Arrival, Token, Framed, Acknowledgement, NoTelegram}
use Rattle.law_model.specs.Trace.{Record, Entry, Sent, Noise}
use Rattle.law_model.specs.Medium.{TapSpec, Tap}
use Rattle.law_model.specs.World.{World, Event}
use Rattle.law_runs.specs.Activity.{is_within}
use Rattle.law_runs.specs.Initiators.{telegram_of}
use Rattle.law_runs.specs.Premises.{first_broken}
use Rattle.law_token.specs.Promises.{HasRun, IsMasterAt}

-- ---- the bound

-- the longest telegram, of 255 octets
abbrev pub longest : ℕ
longest = bits 255

-- one attempt of a cycle: the longest request, the slot without its last bit time, the longest reply, which begins
-- within the slot, the idle time after it and the lag of the next turn
abbrev pub attempt : Params → ℕ
attempt p = 2 * longest + (p.tsl - 1) + p.tid1 + p.lag

-- some attempts; unfolded only in few proofs, since a product of two variables stops `omega`
unfoldable pub tries : ℕ → ℕ → ℕ
tries n each = n * each

-- C: the longest cycle with all its retries, up to the turn that follows
abbrev pub cycle : Params → ℕ
cycle p = tries p.retries (attempt p) + attempt p

-- C': the same up to the end of its reply
abbrev pub cycle_to_reply : Params → ℕ
cycle_to_reply p = tries p.retries (attempt p) + 2 * longest + (p.tsl - 1)

-- How long the bus may be without a token, for a master with an address. Another station may hold the token for the
-- target rotation time and two cycles: one that starts in the last bit time within that time, and one of high priority
-- after it. If it stops as the last reply ends, the bus is silent for as long as the silence bound allows: that
-- master's time-out, the lag and the cable delay.
abbrev pub longest_without : Params → ℕ → ℕ
longest_without p address = (p.ttr - 1) + cycle p + cycle_to_reply p + tto p address + p.lag + p.ttd

-- ---- tokens and noise on the bus

abbrev pub is_token_telegram : Arrival → Bool
is_token_telegram (Token da sa) = true
is_token_telegram (Framed f) = false
is_token_telegram Acknowledgement = false
is_token_telegram NoTelegram = false

-- a record of a token telegram, by the octets that its sender began to send, whatever happened to them on the way
abbrev pub is_token_record : Record → Bool
is_token_record r = is_token_telegram (telegram_of r)

-- a token telegram is on the bus at some moment between two, the first included, the second not
abbrev pub is_token_within : (from to : ℕ) → Entry → Bool
is_token_within from to (Noise span) = false
is_token_within from to (Sent r) = is_token_record r && is_within from to (record { begin = r.begin; end = r.end })

abbrev pub is_noise_within : (from to : ℕ) → Entry → Bool
is_noise_within from to (Noise span) = is_within from to span
is_noise_within from to (Sent r) = false

-- a token telegram, or noise, is there at some moment from one to the clock, both included
abbrev pub has_token_since : ℕ → World → Bool
has_token_since m w = list_any (is_token_within m (w.now + 1)) w.trace

abbrev pub has_noise_since : ℕ → World → Bool
has_noise_since m w = list_any (is_noise_within m (w.now + 1)) w.trace

-- ---- the promise

-- a world whose bus is not dead: none of its masters has been for longer than its bound without a token and without
-- noise
abbrev pub HasAToken : World → Type 0
HasAToken w = (tap m : ℕ) (t : Tap) → IsMasterAt w tap t → t.since ≤ m → m + longest_without w.params t.spec.address < w.now
    → has_noise_since m w ≡ false → has_token_since m w ≡ true

-- Each list of events that keeps the premises leads to such a world. Every moment of a run is the end of a list.
abbrev pub NeverDead : Type 0
NeverDead = (p : Params) (specs : List TapSpec) (events : List Event) (new w : World) → IsValid p → HasRun p specs events new w
    → first_broken new events ≡ None → HasAToken w

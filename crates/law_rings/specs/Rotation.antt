-- Bounded rotation: how long a station of a ring waits for the token.
--
-- Let a run keep the premises of the token theorem. Let the ring be settled at some moment, and let only turns, time and
-- requests happen from then on, with any load. Then each station of the ring receives the token within
--
--     R = ttr + C + n * (C + 33 + ttd + tid1 + lag)
--
-- of that moment, and again and again within R of its last receipt. And the ring stays as it is.
--
-- n is the number of stations, and C the longest cycle with its retries. One station may use the token up to the target
-- rotation time, and a cycle that it starts just before may end C later; and each may start one cycle of high priority,
-- takes an idle time and the lag to begin, and passes the token on in 33 bit times and the cable delay.
use Rattle.std.specs.Prelude.{◌≡◌, Bool, false, ℕ, ◌+◌, ◌*◌, ◌<◌, true, max, List, ◌++◌, length, slice_get, Some, None}
use Rattle.std.specs.List.{list_all}
use Rattle.pb_timers.specs.Timers.{Params, bits}
use Rattle.pb_timers.specs.ParamRules.{IsValid}
use Rattle.pb_ring.specs.AddressSets.{is_member}
use Rattle.pb_rotation.specs.Rotation.{Receipt}
use Rattle.law_model.specs.Medium.{TapSpec, Tap}
use Rattle.law_model.specs.World.{World, Event, Turn, Pass, Damage, Start, Stop, Queue, Noise, Unheard}
use Rattle.law_model.specs.Step.{RunsTo}
use Rattle.law_model.specs.Laws.{AreEvents}
use Rattle.law_runs.specs.Premises.{first_broken}
use Rattle.law_token.specs.Promises.{HasRun}
use Rattle.law_token.specs.Views.{view}
use Rattle.law_live.specs.NeverDead.{cycle}
use Rattle.law_rings.specs.Settled.{is_active, ring_of, lists, is_settled}

-- nothing is disturbed: stations take turns, time passes, and requests are to wait
abbrev pub is_calm : Event → Bool
is_calm (Turn tap) = true
is_calm (Pass bits) = true
is_calm (Damage tap speaker place) = false
is_calm (Start tap) = false
is_calm (Stop tap) = false
is_calm (Queue tap request) = true
is_calm (Noise bits) = false
is_calm (Unheard tap speaker) = false

-- R, for a number of stations
abbrev pub rotation_time : Params → (stations : ℕ) → ℕ
rotation_time p stations = p.ttr + cycle p + stations * (cycle p + bits 3 + p.ttd + p.tid1 + p.lag)

-- a world of a settled ring, and the next one after calm events, in a run that keeps the premises
pub record CalmSince (w next : World) : Type 0 where
  pub p : Params
  pub specs : List TapSpec
  pub before : List Event
  pub events : List Event
  pub start : World
  pub valid : IsValid p
  pub run : HasRun p specs before start w
  pub settled : is_settled w ≡ true
  pub are : AreEvents events
  pub runs : RunsTo w events next
  pub calm : list_all is_calm events ≡ true
  pub kept : first_broken start (before ++ events) ≡ None

-- each station of the ring
abbrev pub EachStation : World → (Tap → Type 0) → Type 0
EachStation w P = (k : ℕ) (t : Tap) → slice_get w.taps k ≡ Some t → is_active w.params t ≡ true → P t

-- It has received the token, and less than a time has passed since then, or since a moment if it received it before: so
-- it receives it again within that time.
abbrev pub ReceivesWithin : World → (m time : ℕ) → Tap → Type 0
ReceivesWithin w m time t = (r : Receipt) × ((view w.params t).rotation.last ≡ Some r) × (w.now < max m r.at + time)

-- The next world has the ring of a world: its stations are the same ones, and each of them lists them.
abbrev pub HasRingOf : (w next : World) → Type 0
HasRingOf w next =
    ((a : ℕ) → is_member (ring_of next.params next.taps) a ≡ is_member (ring_of w.params w.taps) a)
    × EachStation next (λ t. lists (ring_of w.params w.taps) t.spec.address (view next.params t).las.stage ≡ true)

-- each station receives the token within the time for the ring of a world, of that world's clock or of its last receipt
abbrev pub RotatesFrom : (w next : World) → Type 0
RotatesFrom w next = EachStation next (ReceivesWithin next w.now (rotation_time next.params (length (ring_of w.params w.taps))))

-- a ring stays
abbrev pub RingStays : Type 0
RingStays = (w next : World) → CalmSince w next → HasRingOf w next

-- bounded rotation
abbrev pub BoundedRotation : Type 0
BoundedRotation = (w next : World) → CalmSince w next → RotatesFrom w next

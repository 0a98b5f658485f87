-- The longest stretch of a run in which a master was without a token and without noise.
use Rattle.std.specs.Prelude.{◌≡◌, ℕ, ◌+◌, ◌-◌, ◌≤◌, ◌<◌, Bool, true, false, ◌&&◌, not, nat_lt, max, if◌then◌else◌, List, take, get_or, slice_get, Option, Some, None, Ok, IfSome}
use Rattle.std.specs.List.{list_any}
use Rattle.pb_timers.specs.Timers.{Params}
use Rattle.law_turn.specs.Phases.{is_offline}
use Rattle.law_model.specs.Trace.{Entry, Sent, Noise, entry_begin, entry_end}
use Rattle.law_model.specs.Medium.{TapSpec, Tap}
use Rattle.law_model.specs.World.{World, Event, new_world}
use Rattle.law_model.specs.Step.{RunsTo}
use Rattle.law_runs.specs.Premises.{first_broken}
use Rattle.law_token.specs.Promises.{IsMasterAt}
use Rattle.law_live.specs.NeverDead.{has_noise_since, has_token_since, is_token_record, longest_without}
use Rattle.law_live.specs.Promises.{LeadTo}
use Rattle.pb_world.specs.Buses.{world_of, IsKept}
use Rattle.pb_world.specs.declared.buses.Bus.{Bus}
use Rattle.pb_world.specs.declared.stretches.Stretch.{Stretch}
use Rattle.pb_world.specs.declared.stretches.LongestSoFar.{LongestSoFar}
use Rattle.pb_world.specs.declared.longest.LongestStretches.{LongestStretches}

-- ---- stretches

-- At a tap, a master that is not offline has run from a moment to the later clock, and no token and no noise was on the bus, at both moments included.
pub record IsStretch (w : World) (tap begin : ℕ) : Type 0 where
  pub t : Tap
  pub master : IsMasterAt w tap t
  pub ran : t.since ≤ begin
  pub lasts : begin < w.now
  pub no_noise : has_noise_since begin w ≡ false
  pub no_token : has_token_since begin w ≡ false

-- one, of a length, at the end of some of the first events of a run
pub record HasStretch (start : World) (events : List Event) (tap begin length : ℕ) : Type 0 where
  pub count : ℕ
  pub w : World
  pub runs : RunsTo start (take count events) w
  pub is : IsStretch w tap begin
  pub ends : begin + length ≡ w.now

-- the longest one, and the first of several as long; with the bound of the master at that tap
pub record IsLongest (start : World) (events : List Event) (tap : ℕ) (s : Stretch) : Type 0 where
  pub is : HasStretch start events tap s.begin s.length
  pub longest : (begin length : ℕ) → HasStretch start events tap begin length → length ≤ s.length
  pub first : (begin : ℕ) → HasStretch start events tap begin s.length → s.begin ≤ begin
  pub bound : (t : Tap) → slice_get start.taps tap ≡ Some t → s.bound ≡ longest_without start.params t.spec.address

-- the longest one of a tap, if it had any
abbrev pub IsLongestOf : World → List Event → (tap : ℕ) → Option Stretch → Type 0
IsLongestOf start events tap None = (begin length : ℕ) → HasStretch start events tap begin length → ⊥
IsLongestOf start events tap (Some s) = IsLongest start events tap s

-- ---- the call

abbrev pub longest_at : LongestStretches → ℕ → Option Stretch
longest_at found tap = get_or found.longest tap None

-- the events lead from the new world, and each tap's longest stretch in them was found
abbrev pub FindsLongest : Params → List TapSpec → List Event → LongestStretches → Type 0
FindsLongest p specs events found = (new w : World) × (new_world p specs ≡ Ok new) × RunsTo new events w × ((tap : ℕ) → IsLongestOf new events tap (longest_at found tap))

-- where the events break no premise, no stretch is longer than its bound
abbrev pub KeepsBounds : Params → List TapSpec → List Event → LongestStretches → Type 0
KeepsBounds p specs events found = (new : World) → new_world p specs ≡ Ok new → first_broken new events ≡ None
    → (tap : ℕ) → IfSome (longest_at found tap) (λ s. s.length ≤ s.bound)

-- ---- a bus as it is followed

-- a token telegram, as it is meant, or noise
abbrev pub ends_stretch : Entry → Bool
ends_stretch (Noise span) = true
ends_stretch (Sent r) = is_token_record r

-- it is on the bus at a moment from one on, before another
abbrev pub ends_within : (from to : ℕ) → Entry → Bool
ends_within from to e = ends_stretch e && (nat_lt (entry_begin e) to && nat_lt from (entry_end e))

-- the moment since which no token and no noise has been on the bus before the clock
pub record IsCalm (w : World) (calm : ℕ) : Type 0 where
  pub past : calm ≤ w.now
  pub since : (m : ℕ) → m < w.now → list_any (ends_within m w.now) w.trace ≡ nat_lt m calm

-- after a pass in which a token or noise was on the bus, or none was
abbrev pub calm_after : (heard : Bool) → (to calm : ℕ) → ℕ
calm_after true to calm = to
calm_after false to calm = calm

-- the stretch that a tap is in at the clock, if it is in one
abbrev pub stretch_of : World → (calm : ℕ) → Option Tap → Option Stretch
stretch_of w calm None = None
stretch_of w calm (Some t) =
    let begin = max t.since calm in
    if t.running && t.spec.master && not (is_offline t.station.phase) && nat_lt begin w.now
    then Some (record { begin = begin; length = w.now - begin; bound = longest_without w.params t.spec.address }) else None

-- a longer stretch in place of one
abbrev pub longer : Option Stretch → Option Stretch → Option Stretch
longer old None = old
longer None (Some s) = Some s
longer (Some before) (Some s) = if nat_lt before.length s.length then Some s else Some before

-- each tap's longest stretch, with those at the clock
abbrev pub AreLonger : World → (calm : ℕ) → List (Option Stretch) → List (Option Stretch) → Type 0
AreLonger w calm before after = (tap : ℕ) → get_or after tap None ≡ longer (get_or before tap None) (stretch_of w calm (slice_get w.taps tap))

-- the stretches of a bus to which events have led
pub record AreStretches (s : LongestSoFar) (bus : Bus) (start : World) (events : List Event) : Type 0 where
  pub kept : IsKept bus
  pub lead : LeadTo start events (world_of bus)
  pub calm : IsCalm (world_of bus) s.calm
  pub longest : (tap : ℕ) → IsLongestOf start events tap (get_or s.longest tap None)

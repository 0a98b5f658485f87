-- When a ring is settled.
use Rattle.std.specs.Prelude.{ℕ, Bool, true, false, not, ◌+◌, ◌==◌, nat_lt, nat_le, ◌&&◌, ◌||◌, if◌then◌else◌, List, [], ◌∷◌, Option, Some, None, is_none, is_some}
use Rattle.std.specs.List.{list_any, list_all}
use Rattle.pb_timers.specs.Timers.{Params}
use Rattle.pb_ring.specs.AddressSets.{is_same, with_address}
use Rattle.pb_ring.specs.declared.stages.Place.{Place}
use Rattle.pb_ring.specs.declared.stages.Stage.{Stage}
use Rattle.pb_ring.specs.declared.stages.Stage.TheVariants.{Learning, Complete}
use Rattle.law_turn.specs.Phases.{Phase, Offline, PassiveIdle, Listening, Idle, Claim, Use, AwaitData, AwaitStatus, Pass, Checking, is_offline, may_initiate}
use Rattle.law_model.specs.Trace.{Entry, Sent, Noise}
use Rattle.law_model.specs.Medium.{Tap}
use Rattle.law_model.specs.World.{World}
use Rattle.law_token.specs.Views.{view}

-- ---- who belongs to the ring

-- a station of the ring: a running master that is not offline. Here and below, each station as it is once it has read
-- its unread marks.
abbrev pub is_active : Params → Tap → Bool
is_active p t = t.running && (t.spec.master && not (is_offline (view p t).phase))

-- the addresses of all of them
abbrev pub ring_of : Params → List Tap → List ℕ
ring_of p [] = []
ring_of p (t ∷ ts) = if is_active p t then with_address t.spec.address (ring_of p ts) else ring_of p ts

-- ---- each station

-- a station's list is complete and has these members; it is in the ring by it, at its address, and no token has skipped
-- it
abbrev pub lists_by : Option Place → ℕ → Bool
lists_by None address = false
lists_by (Some place) address = place.address == address && place.skipped == 0

abbrev pub lists : List ℕ → ℕ → Stage → Bool
lists members address (Learning rotation closed) = false
lists members address (Complete listed place) = is_same listed members && lists_by place address

-- the phase of a running station: offline; passive and no master; or a master in the ring that has had the token, and
-- neither listens nor claims it
abbrev pub is_in_place : Phase → (master in_ring : Bool) → Bool
is_in_place Offline master in_ring = true
is_in_place PassiveIdle master in_ring = not master
is_in_place (Listening doubled) master in_ring = false
is_in_place (Idle refused) master in_ring = master && in_ring
is_in_place (Claim sent ready) master in_ring = false
is_in_place (Use asked ready) master in_ring = master && in_ring
is_in_place (AwaitData asked retry slot) master in_ring = master && in_ring
is_in_place (AwaitStatus of slot) master in_ring = master && in_ring
is_in_place (Pass tries ready) master in_ring = false
is_in_place (Checking tries) master in_ring = master && in_ring

-- a running tap has started before, has no reply to send, and is in its place
abbrev pub is_well : Params → List ℕ → ℕ → Tap → Bool
is_well p members now t =
    let s = view p t in
    not t.running || (nat_lt t.since now && (is_none s.reply && is_in_place s.phase t.spec.master (lists members t.spec.address s.las.stage && is_some s.rotation.last)))

abbrev pub has_token : Params → Tap → Bool
has_token p t = t.running && may_initiate (view p t).phase

-- ---- the ring

-- an entry ended at least a cable delay ago: so nothing of it is on its way
abbrev pub is_over : (delay now : ℕ) → Entry → Bool
is_over delay now (Noise span) = nat_le (span.end + delay) now
is_over delay now (Sent r) = nat_le (r.end + delay) now

-- The ring is settled: all its stations agree on who belongs to it, and have had the token; one of them has it; no
-- station has a reply to send; and nothing is on its way.
abbrev pub is_settled : World → Bool
is_settled w =
    list_all (is_well w.params (ring_of w.params w.taps) w.now) w.taps && (list_any (has_token w.params) w.taps && list_all (is_over w.params.ttd w.now) w.trace)

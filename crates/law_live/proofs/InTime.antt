-- A station that speaks does so late by the lag at most.
use Rattle.std.proofs.Common.{◌≡◌, ℕ, ◌+◌, ◌≤◌, inl, ⊎_elim, Bool, true, false, if◌then◌else◌, List, [], ◌∷◌, refl, sym, subst, arith, Option, Some, None}
use Rattle.std.specs.Prelude.{nat_lt, nat_le, is_some, IfSome}
use Rattle.pb_timers.specs.Timers.{Params}
use Rattle.pb_cycles.specs.Initiating.{retry_of}
use Rattle.law_turn.specs.Laws.{IsSilentWhileBusy}
use Rattle.law_turn.specs.Marks.{Mark, seen_at}
use Rattle.law_turn.specs.Phases.{Phase, Offline, PassiveIdle, Listening, Idle, Claim, Use, AwaitData, AwaitStatus, Pass, Checking}
use Rattle.law_turn.specs.Stations.{Station, Reply, phase_timer, timer_of, reply_moment, phase_speaks, speaks_at, earlier}
use Rattle.law_turn.specs.Hearing.{not_answered, phase_timed_out, timed_out, after_timer, tries_limit}
use Rattle.law_turn.specs.Turns.{after_marks}
use Rattle.law_model.specs.Trace.{Record, Entry}
use Rattle.law_model.specs.Medium.{Tap}
use Rattle.law_model.proofs.Cases.{by_test}
use Rattle.law_token.specs.Places.{Place, Over}
use Rattle.law_token.specs.Views.{ViewOf, Senses, TapHolds, IsOn, place}
use Rattle.law_token.proofs.bus.Live.{InTime, first_in_time, second_in_time, on_or_off, view_on}
use Rattle.law_token.proofs.pass.Taps.{knows_on}

-- timer and speaking moment of a station are not longer ago than the lag
abbrev pub SpeaksInTime : Params → ℕ → Station → Type 0
SpeaksInTime p now s = InTime now p.lag (timer_of p s) × InTime now p.lag (speaks_at s)

-- a reply that is due after quiet
in_time-reply : (now lag quiet delay : ℕ) (o : Option Reply) → now ≤ quiet + lag → IfSome o (λ a. a.ready ≡ quiet + delay) → InTime now lag (reply_moment o)
in_time-reply now lag quiet delay None late h = tt
in_time-reply now lag quiet delay (Some a) late h = omega (arith, late, h)

-- a slot that runs from the own telegram
in_time-slot : (now lag end tsl : ℕ) (slot : Bool) → now ≤ end + lag → InTime now lag (if slot then Some (end + tsl) else None)
in_time-slot now lag end tsl true late = omega (arith, late)
in_time-slot now lag end tsl false late = tt

-- one that is not busy, by its phase
in_time-phase : (c : Place) (trace : List Entry) (last : Option Record) (s : Station) (ph : Phase) → c.now ≤ s.quiet + c.p.lag → ViewOf c trace last ph false s.quiet s.own s.reply
    → InTime c.now c.p.lag (phase_timer c.p s ph) × InTime c.now c.p.lag (phase_speaks s.reply ph)
in_time-phase c trace last s Offline late v = (tt, tt)
in_time-phase c trace last s PassiveIdle late v = (tt, in_time-reply c.now c.p.lag s.quiet c.p.tsdr s.reply late v)
in_time-phase c trace last s (Listening doubled) late v = (omega (arith, late), in_time-reply c.now c.p.lag s.quiet c.p.tsdr s.reply late v)
in_time-phase c trace last s (Idle refused) late v = (omega (arith, late), in_time-reply c.now c.p.lag s.quiet c.p.tsdr s.reply late v)
in_time-phase c trace last s (Claim sent ready) late v = (tt, omega (arith, late, v.1, v.2))
in_time-phase c trace last s (Use asked ready) late v = (tt, omega (arith, late, v.1))
in_time-phase c trace last s (AwaitData asked None slot) late v =
    let still = v.0.1.still in (in_time-slot c.now c.p.lag s.own.end c.p.tsl slot (omega (arith, late, still)), tt)
in_time-phase c trace last s (AwaitData asked (Some m) slot) late v =
    let off = v.0.0 in
    let at = v.0.1 in
    (subst (λ b. InTime c.now c.p.lag (if b then Some (s.own.end + c.p.tsl) else None)) (sym off) tt, omega (arith, late, at))
in_time-phase c trace last s (AwaitStatus of slot) late v =
    let still = v.0.1.still in (in_time-slot c.now c.p.lag s.own.end c.p.tsl slot (omega (arith, late, still)), tt)
in_time-phase c trace last s (Pass tries ready) late v = absurd v
in_time-phase c trace last s (Checking tries) late v = let still = v.1.still in (omega (arith, late, still), tt)

-- a station, by its phase and whether it is busy
in_time-by : (c : Place) (trace : List Entry) (last : Option Record) (s : Station) (busy : Bool) → s.busy ≡ busy → (busy ≡ false → c.now ≤ s.quiet + c.p.lag) → ViewOf c trace last s.phase busy s.quiet s.own s.reply → IsSilentWhileBusy s → SpeaksInTime c.p c.now s
in_time-by c trace last s true e late v i =
    (subst (λ b. InTime c.now c.p.lag (if b then None else phase_timer c.p s s.phase)) (sym e) tt, subst (InTime c.now c.p.lag) (sym (i.silent e)) tt)
in_time-by c trace last s false e late v i =
    let h = in_time-phase c trace last s s.phase (late refl) v in
    (subst (λ b. InTime c.now c.p.lag (if b then None else phase_timer c.p s s.phase)) (sym e) h.0, h.1)

-- one that is offline has no timer, and nothing to say
in_time-off : (p : Params) (now : ℕ) (s : Station) → s.phase ≡ Offline → SpeaksInTime p now s
in_time-off p now s off =
    (by_test (InTime now p.lag) s.busy None (phase_timer p s s.phase) (λ _. tt) (λ _. subst (λ ph. InTime now p.lag (phase_timer p s ph)) (sym off) tt), subst (λ ph. InTime now p.lag (phase_speaks s.reply ph)) (sym off) tt)

-- all is over where it is not busy
abbrev OverIf : Place → List Entry → Bool → ℕ → Type 0
OverIf c trace true quiet = Unit {0}
OverIf c trace false quiet = Over c trace quiet

-- so it is with what a station senses
over_if : (c : Place) (trace : List Entry) (busy : Bool) (quiet : ℕ) → Senses c trace busy quiet → OverIf c trace busy quiet
over_if c trace true quiet h = tt
over_if c trace false quiet h = h.0

-- the view of a tap
pub in_time-view : (p : Params) (now : ℕ) (trace : List Entry) (last : Option Record) (k : ℕ) (t : Tap) (marks : List Mark) → TapHolds p now trace last k (record t { marks = marks }) → SpeaksInTime p now (after_marks p t.station marks)
in_time-view p now trace last k t [] o =
    (first_in_time now p.lag (timer_of p t.station) (speaks_at t.station) o.in_time, second_in_time now p.lag (timer_of p t.station) (speaks_at t.station) o.in_time)
in_time-view p now trace last k t (m ∷ ms) o =
    let v = after_marks p t.station (m ∷ ms) in
    let h : now ≤ seen_at m + p.lag = first_in_time now p.lag (Some (seen_at m)) (earlier (timer_of p t.station) (speaks_at t.station)) o.in_time in
    ⊎_elim (λ (off : v.phase ≡ Offline). in_time-off p now v off)
    (λ (on : IsOn v.phase).
    let c = place p now k t in
    let kn = knows_on c trace v.phase v.busy v.quiet v.own on o.knows in
    in_time-by c trace last v v.busy refl
    (λ free. let senses = subst (λ b. OverIf c trace b v.quiet) free (over_if c trace v.busy v.quiet kn.senses) in
    let g : seen_at m ≤ v.quiet = o.seen (view_on p t.station (m ∷ ms) on) v.quiet (inl senses) in omega (arith, h, g))
    o.view_ok o.silent)
    (on_or_off v.phase)

-- ---- once its timer is read too

-- a request that was not answered is said again, or the token used on, from that moment
speaks-not_answered : (now lag : ℕ) (s : Station) (asked slot : Bool) (ready : ℕ) → now ≤ ready + lag → InTime now lag (speaks_at (not_answered s asked slot ready))
speaks-not_answered now lag s asked slot ready late = by_test (λ (x : Station). InTime now lag (speaks_at x)) (is_some (retry_of s.cycles.initiator.pending)) _ _ (λ _. late) (λ _. late)

-- a timer that ended by the lag at most lets its station speak as late at most
speaks-timed_out : (now lag : ℕ) (s : Station) (ph : Phase) (t : ℕ) → now ≤ t + lag → InTime now lag (phase_speaks s.reply ph) → InTime now lag (speaks_at (phase_timed_out (record s { phase = ph }) ph t))
speaks-timed_out now lag s Offline t late h = h
speaks-timed_out now lag s PassiveIdle t late h = h
speaks-timed_out now lag s (Listening doubled) t late h = late
speaks-timed_out now lag s (Idle refused) t late h = late
speaks-timed_out now lag s (Claim sent ready) t late h = h
speaks-timed_out now lag s (Use asked ready) t late h = h
speaks-timed_out now lag s (AwaitData asked retry slot) t late h = speaks-not_answered now lag (record s { phase = AwaitData asked retry slot }) asked false t late
speaks-timed_out now lag s (AwaitStatus of slot) t late h = late
speaks-timed_out now lag s (Pass tries ready) t late h = h
speaks-timed_out now lag s (Checking tries) t late h = by_test (λ (x : Station). InTime now lag (speaks_at x)) (nat_le tries_limit tries) _ _ (λ _. late) (λ _. late)

-- so with the timer that has ended by the clock
pub in_time-after_timer : (p : Params) (now limit : ℕ) (s : Station) → SpeaksInTime p now s → InTime now p.lag (speaks_at (after_timer p limit s))
in_time-after_timer p now limit s h = by (timer_of p s) h.0
  where
    by : (o : Option ℕ) → InTime now p.lag o → InTime now p.lag (speaks_at (timed_out s o limit))
    by None l = h.1
    by (Some t) l = by_test (λ (x : Station). InTime now p.lag (speaks_at x)) (nat_lt t limit) (phase_timed_out s s.phase t) s (λ _. speaks-timed_out now p.lag s s.phase t l h.1) (λ _. h.1)

-- Who holds the token, or checks, is due within a slot of the last activity.
use Rattle.std.proofs.Common.{◌≡◌, ℕ, ◌+◌, ◌≤◌, ◌⊎◌, inl, inr, ⊎_elim, Bool, true, false, if◌then◌else◌, List, [], ◌∷◌, refl, sym, subst, arith, Option, Some, None}
use Rattle.std.specs.Prelude.{IfSome}
use Rattle.pb_timers.specs.Timers.{Params}
use Rattle.law_turn.specs.Spans.{Span}
use Rattle.law_turn.specs.Marks.{Mark, seen_at}
use Rattle.law_turn.specs.Phases.{Phase, Offline, PassiveIdle, Listening, Idle, Claim, Use, AwaitData, AwaitStatus, Pass, Checking, may_initiate}
use Rattle.law_turn.specs.Stations.{Station, earlier, timer_of, phase_timer, phase_speaks, speaks_at, first_seen, due_of}
use Rattle.law_turn.specs.Turns.{after_marks}
use Rattle.law_model.specs.Trace.{Record, Entry}
use Rattle.law_model.specs.Medium.{Tap}
use Rattle.law_token.specs.Places.{LeavesTime, Place, Over}
use Rattle.law_token.specs.Tokens.{Held, Taken}
use Rattle.law_token.specs.Views.{Awaits, ViewOf, Senses, Knows, KnowsIn, Grip, view, place, TapHolds, IsOn}
use Rattle.law_token.proofs.bus.Pairs.{Lives, Holding, Keeps, Has}
use Rattle.law_token.proofs.pass.Marks.{at_state}

abbrev pub InTime : ℕ → ℕ → Option ℕ → Type 0
InTime now lag o = IfSome o (λ d. now ≤ d + lag)

pub first_in_time : (now lag : ℕ) (a b : Option ℕ) → InTime now lag (earlier a b) → InTime now lag a
first_in_time now lag None b h = tt
first_in_time now lag (Some a) None h = h
first_in_time now lag (Some a) (Some b) h = omega (arith, h)

pub second_in_time : (now lag : ℕ) (a b : Option ℕ) → InTime now lag (earlier a b) → InTime now lag b
second_in_time now lag None b h = h
second_in_time now lag (Some a) None h = tt
second_in_time now lag (Some a) (Some b) h = omega (arith, h)

-- a phase in which the token may be
abbrev pub IsLive : Phase → Type 0
IsLive Offline = ⊥
IsLive PassiveIdle = ⊥
IsLive (Listening doubled) = ⊥
IsLive (Idle refused) = ⊥
IsLive (Claim sent ready) = Unit {0}
IsLive (Use asked ready) = Unit {0}
IsLive (AwaitData asked retry slot) = Unit {0}
IsLive (AwaitStatus of slot) = Unit {0}
IsLive (Pass tries ready) = Unit {0}
IsLive (Checking tries) = Unit {0}

lives_awaiting : (c : Place) (trace : List Entry) (s : Station) (busy : Bool) (retry : Option ℕ) (slot : Bool) → LeavesTime c.p → InTime c.now c.p.lag (if busy then None else if slot then Some (s.own.end + c.p.tsl) else None)
    → InTime c.now c.p.lag retry → Senses c trace busy s.quiet → Awaits c trace busy s.quiet s.own retry slot → (q : ℕ) → Over c trace q → s.quiet ≤ q → c.now ≤ q + (c.p.tsl + c.p.lag)
lives_awaiting c trace s true retry slot fits timer speaks senses v q over recent = let h = senses q over in omega (arith, h)
lives_awaiting c trace s false None true fits timer speaks senses v q over recent = omega (arith, timer, v.1.still)
lives_awaiting c trace s false None false fits timer speaks senses v q over recent = absurd (let e = v.0 in cc)
lives_awaiting c trace s false (Some m) slot fits timer speaks senses v q over recent = omega (arith, speaks, v.1, fits.take, fits.idle_order)

lives_phase : (c : Place) (trace : List Entry) (last : Option Record) (s : Station) (ph : Phase) (busy : Bool) → LeavesTime c.p → InTime c.now c.p.lag (if busy then None else phase_timer c.p s ph)
    → InTime c.now c.p.lag (phase_speaks s.reply ph) → Senses c trace busy s.quiet → ViewOf c trace last ph busy s.quiet s.own s.reply → IsLive ph → Lives c trace
lives_phase c trace last s (Claim sent ready) busy fits timer speaks senses v live q over inits = let h = v.4 q (inl over) inits in omega (arith, h, v.1, v.2, speaks, fits.take, fits.idle_order)
lives_phase c trace last s (Use asked ready) busy fits timer speaks senses v live q over inits = let h = v.3 q (inl over) inits in omega (arith, h, v.2, speaks, fits.take)
lives_phase c trace last s (AwaitData asked retry slot) busy fits timer speaks senses v live q over inits =
    lives_awaiting c trace s busy retry slot fits timer speaks senses v.0 q over (v.2 q (inl over) inits)
lives_phase c trace last s (AwaitStatus of slot) busy fits timer speaks senses v live q over inits =
    lives_awaiting c trace s busy None slot fits timer tt senses v.0 q over (v.2 q (inl over) inits)
lives_phase c trace last s (Checking tries) true fits timer speaks senses v live q over inits = absurd (let e = v.0 in cc)
lives_phase c trace last s (Checking tries) false fits timer speaks senses v live q over inits = let h = v.2 q (inl over) inits in omega (arith, h, timer, v.1.still)
lives_phase c trace last s (Pass tries ready) busy fits timer speaks senses v live q over inits = absurd v
lives_phase c trace last s Offline busy fits timer speaks senses v live q over inits = absurd live
lives_phase c trace last s PassiveIdle busy fits timer speaks senses v live q over inits = absurd live
lives_phase c trace last s (Listening doubled) busy fits timer speaks senses v live q over inits = absurd live
lives_phase c trace last s (Idle refused) busy fits timer speaks senses v live q over inits = absurd live

knows_live : (c : Place) (trace : List Entry) (ph : Phase) (busy : Bool) (quiet : ℕ) (own : Span) → IsLive ph → KnowsIn c trace ph busy quiet own → Knows c trace busy quiet own
knows_live c trace Offline busy quiet own live k = absurd live
knows_live c trace PassiveIdle busy quiet own live k = absurd live
knows_live c trace (Listening doubled) busy quiet own live k = absurd live
knows_live c trace (Idle refused) busy quiet own live k = absurd live
knows_live c trace (Claim sent ready) busy quiet own live k = k
knows_live c trace (Use asked ready) busy quiet own live k = k
knows_live c trace (AwaitData asked retry slot) busy quiet own live k = k
knows_live c trace (AwaitStatus of slot) busy quiet own live k = k
knows_live c trace (Pass tries ready) busy quiet own live k = k
knows_live c trace (Checking tries) busy quiet own live k = k

pub offline_marks : (p : Params) (s : Station) (busy : Bool) (ms : List Mark) → after_marks p (record s { phase = Offline; busy = busy }) ms ≡ record s { phase = Offline; busy = busy }
offline_marks p s busy [] = refl
offline_marks p s true (m ∷ ms) = offline_marks p s true ms
offline_marks p s false (m ∷ ms) = offline_marks p s false ms

pub on_or_off : (ph : Phase) → (ph ≡ Offline) ⊎ IsOn ph
on_or_off Offline = inl refl
on_or_off PassiveIdle = inr tt
on_or_off (Listening doubled) = inr tt
on_or_off (Idle refused) = inr tt
on_or_off (Claim sent ready) = inr tt
on_or_off (Use asked ready) = inr tt
on_or_off (AwaitData asked retry slot) = inr tt
on_or_off (AwaitStatus of slot) = inr tt
on_or_off (Pass tries ready) = inr tt
on_or_off (Checking tries) = inr tt

-- a view that is not offline is that of a station that is not
pub view_on : (p : Params) (s : Station) (ms : List Mark) → IsOn (after_marks p s ms).phase → IsOn s.phase
view_on p s ms on =
    ⊎_elim (λ (e : s.phase ≡ Offline). absurd (at_state (λ z. IsOn (after_marks p z ms).phase → ⊥) s Offline s.busy e refl (subst (λ z. IsOn z.phase → ⊥) (sym (offline_marks p s s.busy ms)) (λ h. h)) on))
    (λ (h : IsOn s.phase). h) (on_or_off s.phase)

pub live_on : (ph : Phase) → IsLive ph → IsOn ph
live_on Offline l = l
live_on PassiveIdle l = tt
live_on (Listening doubled) l = tt
live_on (Idle refused) l = tt
live_on (Claim sent ready) l = tt
live_on (Use asked ready) l = tt
live_on (AwaitData asked retry slot) l = tt
live_on (AwaitStatus of slot) l = tt
live_on (Pass tries ready) l = tt
live_on (Checking tries) l = tt

-- a tap with unread marks, or one in which the token may be
pub lives : (p : Params) (now : ℕ) (trace : List Entry) (last : Option Record) (k : ℕ) (t : Tap) (marks : List Mark) → LeavesTime p → TapHolds p now trace last k (record t { marks = marks })
    → IsLive (view p (record t { marks = marks })).phase ⊎ IsLive t.station.phase → Lives (place p now k t) trace
lives p now trace last k t [] fits o live =
    let s = t.station in
    let l : IsLive s.phase = ⊎_elim (λ (x : IsLive s.phase). x) (λ (x : IsLive s.phase). x) live in
    let c = place p now k t in
    lives_phase c trace last s s.phase s.busy fits (first_in_time now p.lag (timer_of p s) (speaks_at s) o.in_time) (second_in_time now p.lag (timer_of p s) (speaks_at s) o.in_time)
    (knows_live c trace s.phase s.busy s.quiet s.own l o.knows).senses o.view_ok l
lives p now trace last k t (m ∷ ms) fits o live = λ q over inits.
    let h : now ≤ seen_at m + p.lag = first_in_time now p.lag (Some (seen_at m)) (earlier (timer_of p t.station) (speaks_at t.station)) o.in_time in
    let on : IsOn t.station.phase = ⊎_elim (λ (x : IsLive (view p (record t { marks = m ∷ ms })).phase). view_on p t.station (m ∷ ms) (live_on (view p (record t { marks = m ∷ ms })).phase x)) (λ (x : IsLive t.station.phase). live_on t.station.phase x) live in
    let g : seen_at m ≤ q = o.seen on q (inl over) in
    omega (arith, h, g)

-- ---- how a tap holds the token

holds_use : (c : Place) (last : Option Record) (ready : ℕ) (own : Span) → c.now ≤ ready + c.p.lag → Held last c.tap own ⊎ ((at : ℕ) × Taken c.p.ttd last c.tap c.address at × (ready ≡ at + c.p.tid1)) → Holding c last
holds_use c last ready own late g =
    ⊎_elim (λ (h : Held last c.tap own). Keeps own h)
    (λ (h : (at : ℕ) × Taken c.p.ttd last c.tap c.address at × (ready ≡ at + c.p.tid1)). Has h.0 h.1 (omega (arith, late, h.2))) g

holds_now : (c : Place) (last : Option Record) (s : Station) (ph : Phase) → InTime c.now c.p.lag (phase_speaks s.reply ph) → Grip c last ph s.own → may_initiate ph ≡ true → Holding c last
holds_now c last s (Claim sent ready) speaks g m = Keeps s.own g
holds_now c last s (Use asked ready) speaks g m = holds_use c last ready s.own speaks g
holds_now c last s (AwaitData asked retry slot) speaks g m = Keeps s.own g
holds_now c last s (AwaitStatus of slot) speaks g m = Keeps s.own g
holds_now c last s (Pass tries ready) speaks g m = Keeps s.own g
holds_now c last s Offline speaks g m = absurd cc
holds_now c last s PassiveIdle speaks g m = absurd cc
holds_now c last s (Listening doubled) speaks g m = absurd cc
holds_now c last s (Idle refused) speaks g m = absurd cc
holds_now c last s (Checking tries) speaks g m = absurd cc

-- by its view: where a mark is unread, that was seen before the receipt
holds_view : (c : Place) (trace : List Entry) (last : Option Record) (s : Station) (ph : Phase) (busy : Bool) → (Over c trace s.quiet → c.now ≤ s.quiet + c.p.lag) ⊎ InTime c.now c.p.lag (phase_speaks s.reply ph)
    → Senses c trace busy s.quiet → ViewOf c trace last ph busy s.quiet s.own s.reply → may_initiate ph ≡ true → Holding c last
holds_view c trace last s (Claim sent ready) busy late senses v m = Keeps s.own v.3
holds_view c trace last s (Use asked ready) true late senses v m = absurd (let e = v.0 in cc)
holds_view c trace last s (Use asked ready) false late senses v m =
    ⊎_elim (λ (h : Held last c.tap s.own). Keeps s.own h)
    (λ (h : Taken c.p.ttd last c.tap c.address s.quiet × (ready ≡ s.quiet + c.p.tid1)).
    ⊎_elim (λ (f : Over c trace s.quiet → c.now ≤ s.quiet + c.p.lag). let l = f senses.0 in Has s.quiet h.0 (omega (arith, l))) (λ (l : c.now ≤ ready + c.p.lag). Has s.quiet h.0 (omega (arith, l, h.1))) late) v.4
holds_view c trace last s (AwaitData asked retry slot) busy late senses v m = Keeps s.own v.1
holds_view c trace last s (AwaitStatus of slot) busy late senses v m = Keeps s.own v.1
holds_view c trace last s (Pass tries ready) busy late senses v m = absurd v
holds_view c trace last s Offline busy late senses v m = absurd cc
holds_view c trace last s PassiveIdle busy late senses v m = absurd cc
holds_view c trace last s (Listening doubled) busy late senses v m = absurd cc
holds_view c trace last s (Idle refused) busy late senses v m = absurd cc
holds_view c trace last s (Checking tries) busy late senses v m = absurd cc

pub initiates_live : (ph : Phase) → may_initiate ph ≡ true → IsLive ph
initiates_live (Claim sent ready) m = tt
initiates_live (Use asked ready) m = tt
initiates_live (AwaitData asked retry slot) m = tt
initiates_live (AwaitStatus of slot) m = tt
initiates_live (Pass tries ready) m = tt
initiates_live (Checking tries) m = tt
initiates_live Offline m = absurd cc
initiates_live PassiveIdle m = absurd cc
initiates_live (Listening doubled) m = absurd cc
initiates_live (Idle refused) m = absurd cc

speaks_late : (now lag : ℕ) (p : Params) (s : Station) (marks : List Mark) → InTime now lag (due_of p s marks) → InTime now lag (speaks_at s)
speaks_late now lag p s marks h = second_in_time now lag (timer_of p s) (speaks_at s) (second_in_time now lag (first_seen marks) (earlier (timer_of p s) (speaks_at s)) h)

-- whoever may initiate holds the token
pub holding : (p : Params) (now : ℕ) (trace : List Entry) (last : Option Record) (k : ℕ) (t : Tap) → TapHolds p now trace last k t → may_initiate t.station.phase ≡ true → Holding (place p now k t) last
holding p now trace last k t o m = holds_now (place p now k t) last t.station t.station.phase (speaks_late now p.lag p t.station t.marks o.in_time) o.grip m

pub holding_view : (p : Params) (now : ℕ) (trace : List Entry) (last : Option Record) (k : ℕ) (t : Tap) (marks : List Mark) → TapHolds p now trace last k (record t { marks = marks })
    → may_initiate (view p (record t { marks = marks })).phase ≡ true → Holding (place p now k t) last
holding_view p now trace last k t [] o m =
    let s = t.station in
    holds_view (place p now k t) trace last s s.phase s.busy (inr (second_in_time now p.lag (timer_of p s) (speaks_at s) o.in_time)) (knows_live (place p now k t) trace s.phase s.busy s.quiet s.own (initiates_live s.phase m) o.knows).senses o.view_ok m
holding_view p now trace last k t (x ∷ ms) o m =
    let v = view p (record t { marks = x ∷ ms }) in
    let h : now ≤ seen_at x + p.lag = first_in_time now p.lag (Some (seen_at x)) (earlier (timer_of p t.station) (speaks_at t.station)) o.in_time in
    holds_view (place p now k t) trace last v v.phase v.busy (inl (λ over. let g : seen_at x ≤ v.quiet = o.seen (view_on p t.station (x ∷ ms) (live_on v.phase (initiates_live v.phase m))) v.quiet (inl over) in omega (arith, h, g))) (knows_live (place p now k t) trace v.phase v.busy v.quiet v.own (initiates_live v.phase m) o.knows).senses o.view_ok m

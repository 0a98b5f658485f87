-- What each event keeps: a token is never long away.
use Rattle.std.proofs.Common.{◌≡◌, ℕ, zero, suc, ◌+◌, ◌*◌, ◌<◌, ◌≤◌, inl, ⊎_elim, Bool, true, false, not, ◌==◌, ◌&&◌, ◌||◌, List, [], ◌∷◌, ◌++◌, length, map, refl, sym, ap, ◌∙◌, subst, arith, Option, Some, None, Ok}
use Rattle.std.specs.Prelude.{slice_get, slice_set, nat_le, is_some, is_none, find, IfSome}
use Rattle.std.specs.List.{list_any}
use Rattle.std.proofs.lemmas.Bool.{eqb-false}
use Rattle.std.proofs.lemmas.Option.{none-some, same_Some}
use Rattle.pb_timers.specs.Timers.{Params}
use Rattle.pb_telegram.specs.Faults.{fault_of}
use Rattle.pb_telegram.specs.declared.chars.RxChar.TheVariants.{Good}
use Rattle.pb_cycles.specs.RequestFields.{RequestFields}
use Rattle.law_turn.specs.Stations.{Station, list_for, queued, pushed}
use Rattle.law_turn.specs.Turns.{turn_of}
use Rattle.law_turn.proofs.Initiating.{reply-after_marks}
use Rattle.law_turn.proofs.Retrying.{left-after_marks}
use Rattle.law_model.specs.Trace.{Hit, Record, Entry, Sent, with_entry, cut_at, is_noise_at, noisy_until, begins_from, unheard_at, entry_begin, entry_end}
use Rattle.law_model.specs.Trace as trace
use Rattle.law_model.specs.Medium.{TapSpec, Tap, new_marks, entry_at}
use Rattle.law_model.specs.World.{World, Event, Turn, Pass, Damage, Start, Stop, Queue, Noise, Unheard, NoSuchTap, Running, NotRunning, NothingInAir, ZeroTime, QueueFull, TraceFull, queue_limit, is_in_air_by, stopped_tap, IsNewWorld, new_faults, next_end_of}
use Rattle.law_model.specs.World as world
use Rattle.law_model.specs.Step.{sending, with_said, step_turn, told, pass_faults, with_hit, change_first, has_place, started_tap, step_start, halted, step_stop, step_queue, with_noise, is_noisy, step}
use Rattle.law_model.proofs.Worlds.{unless-Ok}
use Rattle.law_runs.specs.Premises.{Waited}
use Rattle.law_token.specs.Lists.{Each}
use Rattle.law_token.specs.Entries.{EntryHolds}
use Rattle.law_token.specs.Invariant.{Invariant}
use Rattle.law_token.specs.Views.{view}
use Rattle.law_token.proofs.bus.Lists.{each_map, each_with, each_without, at_set}
use Rattle.law_token.proofs.pass.Brings.{HasLength, solid_sensed}
use Rattle.law_token.proofs.pass.AllTaps.{told_at}
use Rattle.law_token.proofs.air.Waiting.{marks_queue}
use Rattle.law_live.specs.NeverDead.{attempt}
use Rattle.law_live.specs.Holding.{limit, Spends}
use Rattle.law_live.proofs.HoldersRead.{started-spends}
use Rattle.law_live.specs.Flow.{IsCalmBy, EndsBy, IsShort, BeganBefore, RepliesBy, RequestsBy, FlowTap, Flow}
use Rattle.law_live.proofs.Arriving.{sound_of}
use Rattle.law_live.proofs.Passes.{IsOrdered, calm_earlier, pass_flow}
use Rattle.law_live.proofs.DueReplies.{DueBy}
use Rattle.law_live.proofs.ChangedEntries.{Changes, EachChanges, NoneIsCut, calm_before, ends_before, short_after, replies_after, requests_after, tap_after, due_weaker, all_change, first_changes, hit_changes, noise_changes, cut_changes, pass_changes}
use Rattle.law_live.proofs.Turns.{turn_flow, tap_kept}
use Rattle.law_token.proofs.turn.Last.{asks_of}
use Rattle.law_token.proofs.whole.Stays.{runs_then}

-- ---- of entries that are in order

-- entries that are in order have begun by the clock
pub began_each : (p : Params) (now to : ℕ) (taps : List Tap) (tr : List Entry) (waited : List Waited) (last : Option Record) (es : List Entry) → now < to → Each (EntryHolds p now taps tr waited last) es → Each (BeganBefore to) es
began_each p now to taps tr waited last [] lt all = tt
began_each p now to taps tr waited last (trace.Noise span ∷ es) lt all = (let h = all.0.0 in omega (arith, h, lt), began_each p now to taps tr waited last es lt all.1)
began_each p now to taps tr waited last (Sent r ∷ es) lt all = (let h = all.0.begun in omega (arith, h, lt), began_each p now to taps tr waited last es lt all.1)

-- a reply that has begun began by then
reply_began : (to z : ℕ) (e : Entry) → to ≤ z + 1 → BeganBefore to e → RepliesBy z e
reply_began to z (trace.Noise span) le h = tt
reply_began to z (Sent r) le h = λ none. omega (arith, h, le)

-- a request that has begun by a moment leaves time behind it
request_began : (p : Params) (to q : ℕ) (e : Entry) → to ≤ q + 1 → BeganBefore to e → RequestsBy (attempt p) (limit p (q + p.ttd) (q + p.ttd) true) e
request_began p to q (trace.Noise span) le h = tt
request_began p to q (Sent r) le h = λ init none. omega (arith, h, le)

-- entries that are in order last for some time
long_each : (p : Params) (now : ℕ) (taps : List Tap) (tr : List Entry) (waited : List Waited) (last : Option Record) (es : List Entry) → Each (EntryHolds p now taps tr waited last) es → Each HasLength es
long_each p now taps tr waited last [] all = tt
long_each p now taps tr waited last (trace.Noise span ∷ es) all = (all.0.1, long_each p now taps tr waited last es all.1)
long_each p now taps tr waited last (Sent r ∷ es) all = (all.0.some, long_each p now taps tr waited last es all.1)

-- and stand in their order before the last initiator telegram
ordered_each : (p : Params) (now : ℕ) (taps : List Tap) (tr : List Entry) (waited : List Waited) (last : Option Record) (es : List Entry) → Each (EntryHolds p now taps tr waited last) es → Each (IsOrdered p.ttd last) es
ordered_each p now taps tr waited last [] all = tt
ordered_each p now taps tr waited last (trace.Noise span ∷ es) all = (tt, ordered_each p now taps tr waited last es all.1)
ordered_each p now taps tr waited last (Sent r ∷ es) all = (all.0.order, ordered_each p now taps tr waited last es all.1)

-- by the invariant, all has begun by the clock
pub began_now : (w : World) (waited : List Waited) → Invariant w waited → Each (BeganBefore (w.now + 1)) w.trace
began_now w waited i = began_each w.params w.now (w.now + 1) w.taps w.trace waited i.keeps.inv.last w.trace (omega arith) i.keeps.inv.entries

-- ---- a trace that is changed

-- a world whose entries change, and whose running taps keep within their times, keeps the rest
changed_flow : (IsCut : ℕ → Type 0) (w : World) (xs : List Entry) (taps : List Tap) → EachChanges IsCut w.now w.trace xs → Each (BeganBefore (w.now + 1)) w.trace
    → ((k : ℕ) (t : Tap) → slice_get taps k ≡ Some t → t.running ≡ true → FlowTap w.params w.now xs k t) → Flow w → Flow (record w { trace = xs; taps = taps })
changed_flow IsCut w xs taps s began each f = record {
  reply_in_time = f.reply_in_time;
  short = short_after IsCut w.now w.trace xs s f.short;
  replies = λ z ends. replies_after IsCut w.now (replied z) w.trace xs s
      (⊎_elim (λ (a : Each (EndsBy z) w.trace). f.replies z a)
      (λ (a : w.now < z). each_map (BeganBefore (w.now + 1)) (RepliesBy (replied z)) w.trace (λ e b. reply_began (w.now + 1) (replied z) e (omega (arith, a)) b) began)
      (ends_before IsCut w.now z w.trace xs s ends));
  requests = λ q calm. requests_after IsCut w.now (attempt p) (limit p (q + p.ttd) (q + p.ttd) true) w.trace xs s
      (⊎_elim (λ (a : Each (IsCalmBy q) w.trace). f.requests q a)
      (λ (a : w.now < q). each_map (BeganBefore (w.now + 1)) (RequestsBy (attempt p) (limit p (q + p.ttd) (q + p.ttd) true)) w.trace (λ e b. request_began p (w.now + 1) q e (omega (arith, a)) b) began)
      (calm_before IsCut w.now q w.trace xs s calm));
  taps = each;
}
  where
    p : Params
    p = w.params

    replied : ℕ → ℕ
    replied z = z + p.ttd + p.tsdr + p.lag

-- ---- the events

-- an event of a world that keeps it, with the invariant before and after
abbrev pub KeepsFlow : World → Event → Type 0
KeepsFlow w e = (waited all : List Waited) (next : World) (reply : world.Reply) → step w e ≡ Ok (next, reply) → Invariant w waited → Invariant next all → Flow w → Flow next

-- a new record is without a fault, as all are
said_sound : (p : Params) (now : ℕ) (taps : List Tap) (es tr : List Entry) (waited : List Waited) (last : Option Record) (k : ℕ) (said : Option (List ℕ)) {X : Type 0} (xs : List X) → Each (EntryHolds p now taps tr waited last) (with_said k said now xs es)
    → IfSome said (λ octets. fault_of (map Good octets) ≡ None)
said_sound p now taps es tr waited last k None xs all = tt
said_sound p now taps es tr waited last k (Some octets) xs all = (each_without (EntryHolds p now taps tr waited last) (Sent (sending k octets now xs)) es all).0.spelled

-- a turn: what it says leaves time
turn_kept : (w : World) (k : ℕ) → KeepsFlow w (Turn k)
turn_kept w k waited all next reply ok i j f = by (slice_get w.taps k) refl ok
  where
    by : (o : Option Tap) → slice_get w.taps k ≡ o → step_turn w k o ≡ Ok (next, reply) → Flow next
    by None at ok = absurd cc
    by (Some t) at ok =
        let turn = turn_of w.params t.station t.marks w.now in
        let made : World = record w { trace = with_said k turn.1 w.now w.taps w.trace; taps = slice_set w.taps k (record t { station = turn.0; marks = [] }) } in
        let both = unless-Ok ((not t.running, NotRunning) ∷ (is_some turn.1 && nat_le w.limit (length w.trace), TraceFull) ∷ []) (made, record { now = w.now; spoke = turn.1 }) (next, reply) ok in
        let same : made ≡ next = ap (λ (z : World × world.Reply). z.0) both.1 in
        let run = runs_then t.running both.0.0 in
        let stays = i.settled.stays k t at in
        let after : Invariant made all = subst (λ z. Invariant z all) (sym same) j in
        let inv = after.keeps.inv in
        let sound = said_sound made.params made.now made.taps w.trace made.trace all inv.last k turn.1 w.taps inv.entries in
        subst (λ z. Flow z) same
        (turn_flow w k t i.keeps.inv.last at run i.keeps.fits (i.keeps.inv.taps k t at run) stays.sayable stays.opened
        (asks_of (view w.params t).cycles.initiator.pending (reply-after_marks w.params t.station t.marks stays.sayable).1.pending) (left-after_marks w.params t.station t.marks stays.opened) sound f)

-- time that passes: what ends is read in time
pass_kept : (w : World) (d : ℕ) → KeepsFlow w (Pass d)
pass_kept w d waited all next reply ok i j f =
    let p = w.params in
    let to = w.now + d in
    let taps = told p.ttd w.trace w.now to 0 w.taps in
    let xs = map (entry_at p.ttd w.taps w.trace w.now to) w.trace in
    let moved : World = record w { now = to; taps = taps; trace = xs } in
    let both = unless-Ok (pass_faults w d taps) (moved, record { now = to; spoke = None }) (next, reply) ok in
    let same : moved ≡ next = ap (λ (z : World × world.Reply). z.0) both.1 in
    let some : d ≡ 0 → ⊥ = eqb-false d 0 both.0.0 in
    let lt : w.now < to = omega (arith, some) in
    let inv = i.keeps.inv in
    let last = inv.last in
    let s : EachChanges NoneIsCut to w.trace xs = all_change NoneIsCut to (entry_at p.ttd w.taps w.trace w.now to) w.trace (λ e. pass_changes to p.ttd w.taps w.trace w.now to e) in
    subst (λ z. Flow z) same
    (changed_flow NoneIsCut (record w { now = to }) xs taps s (began_each p w.now (to + 1) w.taps w.trace waited last w.trace (omega (arith, lt)) inv.entries)
    (λ k x at run.
    let b = told_at p.ttd w.trace w.now to 0 k w.taps k x (omega arith) at in
    let t = b.t in
    let running : t.running ≡ true = sym (ap (λ (z : Tap). z.running) b.is) ∙ run in
    let u : Tap = record t { marks = t.marks ++ new_marks p.ttd k t w.trace w.now to } in
    subst (λ (z : Tap). FlowTap p to xs k z) (sym b.is)
    (tap_after NoneIsCut p to w.trace xs k u (λ none. none) s
    (pass_flow p w.now to w.trace last k t f.reply_in_time lt running
    (solid_sensed p.ttd k t.since w.now to w.trace (long_each p w.now w.taps w.trace waited last w.trace inv.entries) both.0.1.0)
    (sound_of p w.now w.taps w.trace waited last w.trace inv.entries) (ordered_each p w.now w.taps w.trace waited last w.trace inv.entries) f.short f.replies (inv.taps k t b.here running) (f.taps k t b.here running))))
    (record { reply_in_time = f.reply_in_time; short = f.short; replies = f.replies; requests = f.requests; taps = λ k t at run. later_tap p w.now to w.trace k t lt (f.taps k t at run) }))
  where
    later_tap : (p : Params) (now to : ℕ) (tr : List Entry) (k : ℕ) (t : Tap) → now < to → FlowTap p now tr k t → FlowTap p to tr k t
    later_tap p now to tr k t lt g = record { spends = λ q calm. g.spends q (calm_earlier now to k q tr (omega (arith, lt)) calm); waits = due_weaker (view p t).reply (now + p.tsdr) (to + p.tsdr) (omega (arith, lt)) g.waits; prompt = g.prompt }

-- damage changes no moment
damage_kept : (w : World) (tap speaker : ℕ) (at : Option ℕ) → KeepsFlow w (Damage tap speaker at)
damage_kept w tap speaker at waited all next reply ok i j f =
    let in_air = is_in_air_by w.params.ttd w.now speaker in
    let hit : Hit = record { tap = tap; place = at } in
    let xs = change_first in_air (with_hit hit) w.trace in
    let made : World = record w { trace = xs } in
    let both = unless-Ok ((is_none (slice_get w.taps tap) || is_none (slice_get w.taps speaker), NoSuchTap) ∷ (tap == speaker || not (has_place (find in_air w.trace) at), NothingInAir) ∷ []) (made, record { now = w.now; spoke = None }) (next, reply) ok in
    let same : made ≡ next = ap (λ (z : World × world.Reply). z.0) both.1 in
    let s = first_changes NoneIsCut w.now in_air (with_hit hit) w.trace (λ e. hit_changes w.now hit e) in
    subst (λ z. Flow z) same
    (changed_flow NoneIsCut w xs w.taps s (began_now w waited i) (λ k t here run. tap_after NoneIsCut w.params w.now w.trace xs k t (λ none. none) s (f.taps k t here run)) f)

-- a loss neither: it may break a premise, but nothing that is kept here
loss_kept : (w : World) (tap speaker : ℕ) → KeepsFlow w (Unheard tap speaker)
loss_kept w tap speaker waited all next reply ok i j f =
    let begins = begins_from w.now speaker in
    let xs = change_first begins (unheard_at tap) w.trace in
    let made : World = record w { trace = xs } in
    let both = unless-Ok ((is_none (slice_get w.taps tap) || is_none (slice_get w.taps speaker), NoSuchTap) ∷ (tap == speaker || not (list_any begins w.trace), NothingInAir) ∷ []) (made, record { now = w.now; spoke = None }) (next, reply) ok in
    let same : made ≡ next = ap (λ (z : World × world.Reply). z.0) both.1 in
    let s = first_changes NoneIsCut w.now begins (unheard_at tap) w.trace (λ e. loss_changes e) in
    subst (λ z. Flow z) same
    (changed_flow NoneIsCut w xs w.taps s (began_now w waited i) (λ k t here run. tap_after NoneIsCut w.params w.now w.trace xs k t (λ none. none) s (f.taps k t here run)) f)
  where
    loss_changes : (e : Entry) → Changes NoneIsCut w.now e (unheard_at tap e)
    loss_changes (trace.Noise a) = omega arith
    loss_changes (Sent r) = (refl, refl, refl, omega arith, inl refl)

-- a start: the station has all its time
start_kept : (w : World) (tap : ℕ) → KeepsFlow w (Start tap)
start_kept w tap waited all next reply ok i j f = by (slice_get w.taps tap) refl ok
  where
    by : (o : Option Tap) → slice_get w.taps tap ≡ o → step_start w tap o ≡ Ok (next, reply) → Flow next
    by None at ok = absurd cc
    by (Some t) at ok =
        let y = started_tap w tap t in
        let made : World = record w { taps = slice_set w.taps tap y } in
        let both = unless-Ok ((t.running || list_any (is_in_air_by w.params.ttd w.now tap) w.trace, Running) ∷ []) (made, record { now = w.now; spoke = None }) (next, reply) ok in
        let same : made ≡ next = ap (λ (z : World × world.Reply). z.0) both.1 in
        subst (λ z. Flow z) same
        (record {
          reply_in_time = f.reply_in_time;
          short = f.short;
          replies = f.replies;
          requests = f.requests;
          taps = at_set (λ k u. u.running ≡ true → FlowTap w.params w.now w.trace k u) w.taps tap y
              (λ _. record { spends = λ q calm. started-spends w.params (q + w.params.ttd) (q + w.params.ttd) w.now t.station t.spec.master; waits = tt; prompt = λ z ends. tt })
              (λ k u ne here run. f.taps k u here run);
        })

-- a stop: what its tap has in the air ends later than the clock
stop_kept : (w : World) (tap : ℕ) → KeepsFlow w (Stop tap)
stop_kept w tap waited all next reply ok i j f = by (slice_get w.taps tap) refl ok
  where
    by : (o : Option Tap) → slice_get w.taps tap ≡ o → step_stop w tap o ≡ Ok (next, reply) → Flow next
    by None at ok = absurd cc
    by (Some t) at ok =
        let y = halted t in
        let xs = map (cut_at w.now tap) w.trace in
        let made : World = record w { trace = xs; taps = slice_set w.taps tap y } in
        let both = unless-Ok ((not t.running, NotRunning) ∷ []) (made, record { now = w.now; spoke = None }) (next, reply) ok in
        let same : made ≡ next = ap (λ (z : World × world.Reply). z.0) both.1 in
        let s = all_change (λ k. k ≡ tap) w.now (cut_at w.now tap) w.trace (λ e. cut_changes w.now tap e) in
        subst (λ z. Flow z) same
        (changed_flow (λ k. k ≡ tap) w xs (slice_set w.taps tap y) s (began_now w waited i)
        (at_set (λ k u. u.running ≡ true → FlowTap w.params w.now xs k u) w.taps tap y (λ run. absurd (let wrong : false ≡ true = run in cc))
        (λ k u ne here run. tap_after (λ k. k ≡ tap) w.params w.now w.trace xs k u (λ same. ne (sym same)) s (f.taps k u here run))) f)

-- a request that waits changes nothing of the time
tap_queue : (p : Params) (now : ℕ) (tr : List Entry) (k : ℕ) (t : Tap) (r : RequestFields) → FlowTap p now tr k t → FlowTap p now tr k (record t { station = pushed t.station r })
tap_queue p now tr k t r f =
    let same = marks_queue (queued t.station.cycles.queue r) p t.station t.marks in
    record {
      spends = λ q calm. let o = f.spends q calm in
          subst (λ (z : Station). Spends p (q + p.ttd) (q + p.ttd) z) (sym same) (record { target = o.target; received = o.received; retries = o.retries; short = o.short; spends = o.spends });
      waits = subst (λ (z : Station). DueBy (now + p.tsdr) z) (sym same) f.waits;
      prompt = λ y ends. subst (λ (z : Station). DueBy (y + p.ttd + p.tsdr) z) (sym same) (f.prompt y ends);
    }

-- so a request that is to wait
queue_kept : (w : World) (tap : ℕ) (r : RequestFields) → KeepsFlow w (Queue tap r)
queue_kept w tap r waited all next reply ok i j f = by (slice_get w.taps tap) refl ok
  where
    by : (o : Option Tap) → slice_get w.taps tap ≡ o → step_queue w tap r o ≡ Ok (next, reply) → Flow next
    by None at ok = absurd cc
    by (Some t) at ok =
        let y : Tap = record t { station = pushed t.station r } in
        let made : World = record w { taps = slice_set w.taps tap y } in
        let both = unless-Ok ((not (t.running && t.spec.master), NotRunning) ∷ (nat_le queue_limit (length (list_for t.station.cycles.queue r)), QueueFull) ∷ []) (made, record { now = w.now; spoke = None }) (next, reply) ok in
        let same : made ≡ next = ap (λ (z : World × world.Reply). z.0) both.1 in
        subst (λ z. Flow z) same
        (record {
          reply_in_time = f.reply_in_time;
          short = f.short;
          replies = f.replies;
          requests = f.requests;
          taps = at_set (λ k u. u.running ≡ true → FlowTap w.params w.now w.trace k u) w.taps tap y (λ run. tap_queue w.params w.now w.trace tap t r (f.taps tap t at run)) (λ k u ne here run. f.taps k u here run);
        })

-- noise that goes on lasts no shorter, and new noise is no telegram
noise_flow : (w : World) (waited : List Waited) (end : ℕ) (noisy : Bool) → Invariant w waited → Flow w → Flow (record w { trace = with_noise w.now end noisy w.trace })
noise_flow w waited end true i f =
    let xs = change_first (is_noise_at w.now) (noisy_until end) w.trace in
    let s = first_changes NoneIsCut w.now (is_noise_at w.now) (noisy_until end) w.trace (λ e. noise_changes w.now end e) in
    changed_flow NoneIsCut w xs w.taps s (began_now w waited i) (λ k t here run. tap_after NoneIsCut w.params w.now w.trace xs k t (λ none. none) s (f.taps k t here run)) f
noise_flow w waited end false i f =
    let x = trace.Noise (record { begin = w.now; end = end }) in
    let p = w.params in
    record {
      reply_in_time = f.reply_in_time;
      short = each_with IsShort x w.trace tt f.short;
      replies = λ z ends. each_with (RepliesBy (z + p.ttd + p.tsdr + p.lag)) x w.trace tt (f.replies z (each_without (EndsBy z) x w.trace ends).1);
      requests = λ q calm. each_with (RequestsBy (attempt p) (limit p (q + p.ttd) (q + p.ttd) true)) x w.trace tt (f.requests q (each_without (IsCalmBy q) x w.trace calm).1);
      taps = λ k t here run. tap_kept p w.now w.trace x k t (f.taps k t here run);
    }

-- noise
noise_kept : (w : World) (bits : ℕ) → KeepsFlow w (Noise bits)
noise_kept w bits waited all next reply ok i j f =
    let made : World = record w { trace = with_noise w.now (w.now + bits) (is_noisy w) w.trace } in
    let both = unless-Ok ((bits == 0, ZeroTime) ∷ (not (is_noisy w) && nat_le w.limit (length w.trace), TraceFull) ∷ []) (made, record { now = w.now; spoke = None }) (next, reply) ok in
    let same : made ≡ next = ap (λ (z : World × world.Reply). z.0) both.1 in
    subst (λ z. Flow z) same (noise_flow w waited (w.now + bits) (is_noisy w) i f)

-- each event
pub event_flow : (w : World) (e : Event) → KeepsFlow w e
event_flow w (Turn tap) = turn_kept w tap
event_flow w (Pass d) = pass_kept w d
event_flow w (Damage tap speaker at) = damage_kept w tap speaker at
event_flow w (Start tap) = start_kept w tap
event_flow w (Stop tap) = stop_kept w tap
event_flow w (Queue tap r) = queue_kept w tap r
event_flow w (Noise bits) = noise_kept w bits
event_flow w (Unheard tap speaker) = loss_kept w tap speaker

-- ---- a new world

-- in a new world no tap runs
pub new_stopped : (p : Params) (specs : List TapSpec) (k : ℕ) (t : Tap) → slice_get (map (stopped_tap p) specs) k ≡ Some t → t.running ≡ false
new_stopped p [] k t at = absurd (none-some t at)
new_stopped p (spec ∷ specs) zero t at = subst (λ (z : Tap). z.running ≡ false) (same_Some (stopped_tap p spec) t at) refl
new_stopped p (spec ∷ specs) (suc k) t at = new_stopped p specs k t at

-- so a new world has it
pub new_flow : (p : Params) (specs : List TapSpec) (w : World) → p.tsdr + p.lag + 2 * p.ttd < p.tsl → IsNewWorld p specs w → Flow w
new_flow p specs w fits new =
    let made : World = record { params = p; now = 0; trace = []; taps = map (stopped_tap p) specs; limit = new.0 } in
    let same = unless-Ok (new_faults p specs) made w new.1 in
    subst (λ z. Flow z) same.1 (record {
      reply_in_time = fits;
      short = tt;
      replies = λ z ends. tt;
      requests = λ q calm. tt;
      taps = λ k t at run. absurd (let wrong : true ≡ false = sym run ∙ new_stopped p specs k t at in cc);
    })

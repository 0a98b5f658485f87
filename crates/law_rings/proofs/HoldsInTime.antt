-- The station that had the token last keeps the next one waiting no longer than its time.
use Rattle.std.proofs.Common.{◌≡◌, ℕ, ◌+◌, ◌<◌, ◌≤◌, inl, inr, ⊎_elim, Bool, true, false, if◌then◌else◌, List, refl, arith, Option, Some, None}
use Rattle.std.specs.Prelude.{max, IfSome}
use Rattle.std.proofs.lemmas.Bool.{cases_lt}
use Rattle.pb_timers.specs.Timers.{Params, bits}
use Rattle.law_turn.specs.Spans.{Span}
use Rattle.law_turn.specs.Phases.{Phase, Offline, PassiveIdle, Listening, Idle, Claim, Use, AwaitData, AwaitStatus, Pass, Checking, may_initiate}
use Rattle.law_turn.specs.Stations.{Station, timer_of, phase_timer, phase_speaks, speaks_at}
use Rattle.law_model.specs.Trace.{Record}
use Rattle.law_model.specs.Medium.{Tap}
use Rattle.law_model.specs.World.{World}
use Rattle.law_token.specs.Places.{heard_span, IsOver, Place}
use Rattle.law_token.specs.Tokens.{Held}
use Rattle.law_token.specs.Views.{Senses, Awaits, ViewOf, view, place}
use Rattle.law_token.proofs.bus.Lists.{each_map}
use Rattle.law_token.proofs.pass.Taps.{knows_on}
use Rattle.law_live.specs.NeverDead.{attempt}
use Rattle.law_live.specs.Holding.{limit, has_used, left_of, SpendsBy, Spends}
use Rattle.law_live.proofs.InTime.{in_time-view}
use Rattle.law_rings.specs.Ring.{IsUndisturbed, TakesPart}
use Rattle.law_rings.specs.Receipts.{Tenure, Holding, Passing, Rotates}
use Rattle.law_rings.proofs.Calls.{HeldCall, held_call}
use Rattle.law_rings.proofs.Reaching.{Undisturbed, last_call}
use Rattle.law_rings.proofs.Taking.{part_on}
use Rattle.law_rings.proofs.TapsPass.{RunsAt, holds_at, ring_at}
use Rattle.law_rings.proofs.Tenures.{reply_end, heard_ends}
use Rattle.law_rings.proofs.NoTest.{no_}
use Rattle.law_live.proofs.HoldersSpeak.{limit-most}

-- one that hears the reply for which it waited does so in time
busy_in_time : (w : World) (base : ℕ) (members : List ℕ) (u : Undisturbed w base members) (k : ℕ) (t : Tap) → RunsAt w k t → HeldCall u.ring.call k (view w.params t).own → Senses (place w.params w.now k t) w.trace true (view w.params t).quiet
    → w.now ≤ reply_end w.params (view w.params t)
busy_in_time w base members u k t at mine senses =
    let end = reply_end w.params (view w.params t) in
    ⊎_elim
    (λ (late : end < w.now).
    let over = each_map (λ e. IsOver w.now (max w.now end) (heard_span w.params.ttd k t.since e)) (λ e. IsOver w.now w.now (heard_span w.params.ttd k t.since e)) w.trace (λ e h. earlier late (heard_span w.params.ttd k t.since e) h) (heard_ends w base members u k t w.now at mine) in
    absurd (let h = senses w.now over in omega (arith, h)))
    (λ (le : w.now ≤ end). le) (cases_lt (reply_end w.params (view w.params t)) w.now)
  where
    earlier : reply_end w.params (view w.params t) < w.now → (o : Option Span) → IsOver w.now (max w.now (reply_end w.params (view w.params t))) o → IsOver w.now w.now o
    earlier late None h = tt
    earlier late (Some y) h = ⊎_elim (λ (a : w.now ≤ y.begin). inl a) (λ (b : y.end ≤ max w.now (reply_end w.params (view w.params t))). inr (omega (arith, b, late))) h

-- a holder speaks by the end of its time
holder_in_time : (w : World) (base : ℕ) (members : List ℕ) (u : Undisturbed w base members) (k : ℕ) (t : Tap) (recent d : ℕ) → RunsAt w k t → TakesPart (view w.params t).phase → may_initiate (view w.params t).phase ≡ true → Spends w.params recent d (view w.params t)
    → w.now ≤ limit w.params recent d true
holder_in_time w base members u k t recent d at part may s =
    by v.phase v.busy refl refl (holds_at w base members u k t at).view_ok s.spends in_time.0 in_time.1 (ring_at w base members u k t at).undisturbed may senses
  where
    p : Params
    p = w.params

    v : Station
    v = view p t

    c : Place
    c = place p w.now k t

    last : Option Record
    last = u.invariant.keeps.inv.last

    in_time : IfSome (timer_of p v) (λ m. w.now ≤ m + p.lag) × IfSome (speaks_at v) (λ m. w.now ≤ m + p.lag)
    in_time = in_time-view p w.now w.trace last k t t.marks (holds_at w base members u k t at)

    senses : Senses c w.trace v.busy v.quiet
    senses = (knows_on c w.trace v.phase v.busy v.quiet v.own (part_on v.phase part) (holds_at w base members u k t at).knows).senses

    end : ℕ
    end = limit p recent d (has_used v.rotation.last)

    left : ℕ
    left = left_of v.cycles.initiator.pending

    most : end ≤ limit p recent d true
    most = limit-most p recent d (has_used v.rotation.last)

    -- a slot, or a reply, is within an attempt
    waits : (busy : Bool) (slot : Bool) → Held last k v.own → Awaits c w.trace busy v.quiet v.own None slot → v.own.begin + attempt p ≤ end → IfSome (if busy then None else if slot then Some (v.own.end + p.tsl) else None) (λ m. w.now ≤ m + p.lag)
        → Senses c w.trace busy v.quiet → w.now ≤ limit p recent d true
    waits true slot held a room timer sense =
        let h = busy_in_time w base members u k t at (held_call last u.ring.call k v.own (last_call w base members u) held) sense in omega (arith, h, room, most)
    waits false true held a room timer sense = let short = s.short in omega (arith, timer, short, room, most)
    waits false false held a room timer sense = no_ a.0

    by : (ph : Phase) (busy : Bool) → v.phase ≡ ph → v.busy ≡ busy → ViewOf c w.trace last ph busy v.quiet v.own v.reply → SpendsBy p end left v.own.begin ph → IfSome (if busy then None else phase_timer p v ph) (λ m. w.now ≤ m + p.lag)
        → IfSome (phase_speaks v.reply ph) (λ m. w.now ≤ m + p.lag) → IsUndisturbed ph → may_initiate ph ≡ true → Senses c w.trace busy v.quiet → w.now ≤ limit p recent d true
    by (Use asked ready) busy e f ok sp timer speaks un m sense = omega (arith, speaks, sp, most)
    by (AwaitData asked None slot) busy e f ok sp timer speaks un m sense = waits busy slot ok.1 ok.0 (let room = sp.0 in omega (arith, room)) timer sense
    by (AwaitData asked (Some x) slot) busy e f ok sp timer speaks un m sense = let room = sp.2 in omega (arith, speaks, room, most)
    by (AwaitStatus of slot) busy e f ok sp timer speaks un m sense = waits busy slot ok.1 ok.0 sp timer sense
    by (Claim sent ready) busy e f ok sp timer speaks un m sense = absurd un
    by (Pass tries ready) busy e f ok sp timer speaks un m sense = absurd un
    by (Listening doubled) busy e f ok sp timer speaks un m sense = absurd un
    by Offline busy e f ok sp timer speaks un m sense = no_ m
    by PassiveIdle busy e f ok sp timer speaks un m sense = no_ m
    by (Idle refused) busy e f ok sp timer speaks un m sense = no_ m
    by (Checking tries) busy e f ok sp timer speaks un m sense = no_ m

-- so the token is at the next station by then
pub last_in_time : (w : World) (base : ℕ) (members : List ℕ) (u : Undisturbed w base members) (r : Rotates w base members u.ring.call)
    → w.now ≤ limit w.params (r.log.at r.t.spec.address) (r.log.previous r.t.spec.address) true + bits 3 + w.params.ttd
last_in_time w base members u r = by r.tenure
  where
    by : Tenure w.params base w.now members u.ring.call r.log r.tap r.t → w.now ≤ limit w.params (r.log.at r.t.spec.address) (r.log.previous r.t.spec.address) true + bits 3 + w.params.ttd
    by (Holding may recent spends) =
        let h = holder_in_time w base members u r.tap r.t (r.log.at r.t.spec.address) (r.log.previous r.t.spec.address) (record { here = r.here; running = r.running }) r.part may spends in omega (arith, h)
    by (Passing mine apart offers air full recent time) = omega (arith, air, full, time)

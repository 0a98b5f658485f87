-- Each event that disturbs nothing keeps a ring undisturbed, and its receipts in order.
use Rattle.std.proofs.Common.{◌≡◌, ℕ, map, ◌+◌, true, false, not, ◌&&◌, List, [], ◌∷◌, length, refl, sym, ap, ◌∙◌, subst, arith, Option, Some, None, Ok}
use Rattle.std.specs.Prelude.{slice_get, slice_set, nat_le, is_some}
use Rattle.pb_timers.specs.Timers.{Params}
use Rattle.pb_cycles.specs.RequestFields.{RequestFields}
use Rattle.law_turn.specs.Stations.{Station, queued, pushed, list_for}
use Rattle.law_turn.specs.Turns.{turn_of}
use Rattle.law_turn.proofs.Initiating.{reply-after_marks}
use Rattle.law_turn.proofs.Retrying.{left-after_marks}
use Rattle.law_model.specs.Medium.{Tap, entry_at}
use Rattle.law_model.specs.World as world
use Rattle.law_model.specs.World.{World, Event, Turn, Pass, Queue, Reply, unless, queue_limit}
use Rattle.law_model.specs.Step.{sending, step, step_turn, step_queue, told, pass_faults}
use Rattle.law_model.proofs.Worlds.{unless-Ok}
use Rattle.law_runs.specs.Premises.{Waited}
use Rattle.law_token.specs.Invariant.{Invariant}
use Rattle.law_token.specs.Entries.{EntryHolds}
use Rattle.law_token.specs.Views.{view, place}
use Rattle.law_token.proofs.bus.Lists.{each_in}
use Rattle.law_token.proofs.turn.Trace.{in_new}
use Rattle.law_live.specs.Flow.{Flow}
use Rattle.law_live.specs.Holding.{Spends}
use Rattle.pb_telegram.specs.Faults.{fault_of}
use Rattle.pb_telegram.specs.declared.chars.RxChar.TheVariants.{Good}
use Rattle.law_model.specs.Trace.{Sent}
use Rattle.law_token.proofs.air.Waiting.{marks_queue}
use Rattle.law_token.proofs.turn.Kept.{turned}
use Rattle.law_rings.specs.Rotation.{is_calm}
use Rattle.law_rings.specs.Receipts.{Rotates, Rotating}
use Rattle.law_rings.proofs.ActInRing.{Does, DoesRest, DoesReply, DoesSpeak, DoesRepeat, DoesClaim, does}
use Rattle.law_rings.proofs.NotInRing.{never_repeats, never_claims}
use Rattle.law_rings.proofs.PassKeeps.{ring_passed, ring_passed_call}
use Rattle.law_rings.proofs.Reaching.{Undisturbed}
use Rattle.law_rings.proofs.SameLooks.{as_same, set_looks, ring_looks, ring_looks_call}
use Rattle.law_rings.proofs.SpeechKeeps.{SpeaksAt, speech_keeps, speech_keeps_call}
use Rattle.law_rings.proofs.RotatesPass.{rotates_pass}
use Rattle.law_rings.proofs.RotatesTurn.{SameTimes, rotates_set, rotates_speech}
use Rattle.law_rings.proofs.TapsPass.{Passes, RunsAt, holds_at, ring_at}
use Rattle.law_rings.proofs.TurnKeeps.{waits_not, rest_keeps, rest_keeps_call, RepliesAt, reply_keeps, reply_keeps_call}
use Rattle.law_rings.proofs.NoTest.{no_}
use Rattle.law_token.proofs.turn.Last.{asks_of}
use Rattle.law_token.proofs.whole.Stays.{runs_then}
use Rattle.law_token.proofs.pass.WholePass.{some_bits}

-- an event keeps a ring undisturbed and its receipts in order, if the world after it keeps what the token theorem and the
-- bound of silence keep
abbrev pub KeepsRotating : World → Event → Type 0
KeepsRotating w e = (base : ℕ) (members : List ℕ) (waited' : List Waited) (next : World) (reply : Reply) → step w e ≡ Ok (next, reply) → (u : Undisturbed w base members) → Rotates w base members u.ring.call → Invariant next waited' → Flow next
    → Rotating next base members

-- ---- a turn

-- what a tap does at its turn
pub tap_does : (w : World) (base : ℕ) (members : List ℕ) (u : Undisturbed w base members) (k : ℕ) (t : Tap) → RunsAt w k t → Does w.params w.now (view w.params t) (turn_of w.params t.station t.marks w.now)
tap_does w base members u k t at =
    let stays = u.invariant.settled.stays k t at.here in
    does (place w.params w.now k t) w.trace u.invariant.keeps.inv.last (view w.params t) (left-after_marks w.params t.station t.marks stays.opened)
    (asks_of (view w.params t).cycles.initiator.pending (reply-after_marks w.params t.station t.marks stays.sayable).1.pending)
    (ring_at w base members u k t at).undisturbed (holds_at w base members u k t at).view_ok

-- where the station after a turn is the view before it
rest_times : (p : Params) (t : Tap) (s' : Station) → s' ≡ view p t → SameTimes p t (record t { station = s'; marks = [] })
rest_times p t s' e = record {
  running = refl;
  address = refl;
  phase = ap (λ (z : Station). z.phase) e;
  rotation = ap (λ (z : Station). z.rotation) e;
  spends = λ _ recent d o. subst (Spends p recent d) (sym e) o;
}

-- by what the tap does
turn_rotating : (w : World) (base : ℕ) (members : List ℕ) (u : Undisturbed w base members) (k : ℕ) (t : Tap) (waited' : List Waited) → Rotates w base members u.ring.call → RunsAt w k t → (said : Option (List ℕ)) → (turn_of w.params t.station t.marks w.now).1 ≡ said
    → Invariant (turned w k t (turn_of w.params t.station t.marks w.now).0 said) waited' → Flow (turned w k t (turn_of w.params t.station t.marks w.now).0 said) → Rotating (turned w k t (turn_of w.params t.station t.marks w.now).0 said) base members
turn_rotating w base members u k t waited' r at said is i' f' = by (tap_does w base members u k t at)
  where
    turn : Station × Option (List ℕ)
    turn = turn_of w.params t.station t.marks w.now

    spelled : (octets : List ℕ) → Invariant (turned w k t turn.0 (Some octets)) waited' → fault_of (map Good octets) ≡ None
    spelled octets i =
        let x = sending k octets w.now w.taps in
        let next = turned w k t turn.0 (Some octets) in
        (each_in (EntryHolds w.params w.now next.taps next.trace waited' i.keeps.inv.last) (Sent x) next.trace i.keeps.inv.entries (in_new (Sent x) w.trace)).spelled

    by : Does w.params w.now (view w.params t) turn → Rotating (turned w k t turn.0 said) base members
    by (DoesRest e) =
        let same = ap (λ (z : Station × Option (List ℕ)). z.0) e in
        let x : Tap = record t { station = turn.0; marks = [] } in
        subst (λ o. Rotating (turned w k t turn.0 o) base members) (sym (ap (λ (z : Station × Option (List ℕ)). z.1) e) ∙ is)
        (record {
          ring = rest_keeps w base members u k t turn.0 at same;
          rotates = subst (Rotates (turned w k t turn.0 None) base members) (sym (rest_keeps_call w base members u k t turn.0 at same))
              (rotates_set w base u.ring.call.answered members u.ring.call k t x w.trace at.here (rest_times w.params t turn.0 same) r);
        })
    by (DoesReply a keeps waits says ready after) =
        let same : Some a.octets ≡ said = sym says ∙ is in
        let x : Tap = record t { station = turn.0; marks = [] } in
        let i = subst (λ o. Invariant (turned w k t turn.0 o) waited') (sym same) i' in
        let replies : RepliesAt w k t a turn.0 = record { at = at; keeps = keeps; waits = waits; ready = ready; after = after } in
        let times : SameTimes w.params t x = record {
          running = refl;
          address = refl;
          phase = after.phase;
          rotation = after.rotation;
          spends = λ may recent d o. absurd (let wrong : false ≡ true = sym (waits_not (view w.params t).phase waits) ∙ may in cc);
        } in
        subst (λ o. Rotating (turned w k t turn.0 o) base members) same
        (record {
          ring = reply_keeps w base members u k t a turn.0 waited' replies i;
          rotates = subst (Rotates (turned w k t turn.0 (Some a.octets)) base members) (sym (reply_keeps_call w base members u k t a turn.0 waited' replies i))
              (rotates_set w base w.now members u.ring.call k t x (turned w k t turn.0 (Some a.octets)).trace at.here times r);
        })
    by (DoesSpeak speaks may still past slot) =
        let same : Some speaks.0 ≡ said = sym speaks.1 ∙ is in
        let i = subst (λ o. Invariant (turned w k t turn.0 o) waited') (sym same) i' in
        let f = subst (λ o. Flow (turned w k t turn.0 o)) (sym same) f' in
        let says : SpeaksAt w k t speaks.0 turn.0 = record { may = record { at = at; may = may; still = still; past = past; slot = slot }; said = speaks.2 } in
        subst (λ o. Rotating (turned w k t turn.0 o) base members) same
        (record {
          ring = speech_keeps w base members u k t speaks.0 turn.0 waited' says i;
          rotates = subst (Rotates (turned w k t turn.0 (Some speaks.0)) base members) (sym (speech_keeps_call w base members u k t speaks.0 turn.0 waited' says i))
              (rotates_speech w base members u k t speaks.0 (record { speaks = says; says = speaks.1 }) (spelled speaks.0 i) f r);
        })
    by (DoesRepeat is_ still over) = absurd (never_repeats w base members u k t at is_ over)
    by (DoesClaim may still over) = absurd (never_claims w base members u k t at may still over)

-- a turn
turn_keeps_rotating : (w : World) (k : ℕ) → KeepsRotating w (Turn k)
turn_keeps_rotating w k base members waited' next reply ok u r i' f' = by (slice_get w.taps k) refl ok
  where
    by : (o : Option Tap) → slice_get w.taps k ≡ o → step_turn w k o ≡ Ok (next, reply) → Rotating next base members
    by None here ok = absurd cc
    by (Some t) here ok =
        let turn = turn_of w.params t.station t.marks w.now in
        let made : World = turned w k t turn.0 turn.1 in
        let done = unless-Ok ((not t.running, world.NotRunning) ∷ (is_some turn.1 && nat_le w.limit (length w.trace), world.TraceFull) ∷ []) (made, record { now = w.now; spoke = turn.1 }) (next, reply) ok in
        let same : made ≡ next = ap (λ (z : World × Reply). z.0) done.1 in
        subst (λ z. Rotating z base members) same
        (turn_rotating w base members u k t waited' r (record { here = here; running = runs_then t.running done.0.0 }) turn.1 refl (subst (λ z. Invariant z waited') (sym same) i') (subst Flow (sym same) f'))

-- ---- a pass

-- a pass
pass_keeps_rotating : (w : World) (bits : ℕ) → KeepsRotating w (Pass bits)
pass_keeps_rotating w bits base members waited' next reply ok u r i' f' =
    let to = w.now + bits in
    let taps' = told w.params.ttd w.trace w.now to 0 w.taps in
    let made : World = record w { now = to; taps = taps'; trace = map (entry_at w.params.ttd w.taps w.trace w.now to) w.trace } in
    let both = unless-Ok (pass_faults w bits taps') (made, record { now = to; spoke = None }) (next, reply) ok in
    let same : made ≡ next = ap (λ (z : World × Reply). z.0) both.1 in
    let some = some_bits bits both.0.0 in
    let q : Passes w base members to = record { u = u; later = omega (arith, some); past = both.0.1.0 } in
    subst (λ z. Rotating z base members) same
    (record {
      ring = ring_passed w base members to q;
      rotates = subst (Rotates made base members) (sym (ring_passed_call w base members to q)) (rotates_pass w base members to q waited' (subst (λ z. Invariant z waited') (sym same) i') (subst Flow (sym same) f') r);
    })

-- ---- a request that is to wait

-- it changes neither receipts nor the time of a holder
queue_times : (p : Params) (t : Tap) (r : RequestFields) → SameTimes p t (record t { station = pushed t.station r })
queue_times p t r =
    let e = marks_queue (queued t.station.cycles.queue r) p t.station t.marks in
    record {
      running = refl;
      address = refl;
      phase = ap (λ (z : Station). z.phase) e;
      rotation = ap (λ (z : Station). z.rotation) e;
      spends = λ _ recent d o. subst (Spends p recent d) (sym e) (record { target = o.target; received = o.received; retries = o.retries; short = o.short; spends = o.spends });
    }

-- a request that is to wait
queue_keeps_rotating : (w : World) (k : ℕ) (r : RequestFields) → KeepsRotating w (Queue k r)
queue_keeps_rotating w k r base members waited' next reply ok u rotates i' f' = by (slice_get w.taps k) refl ok
  where
    by : (o : Option Tap) → slice_get w.taps k ≡ o → step_queue w k r o ≡ Ok (next, reply) → Rotating next base members
    by None here ok = absurd cc
    by (Some t) here ok =
        let x : Tap = record t { station = pushed t.station r } in
        let made : World = record w { taps = slice_set w.taps k x } in
        let both = unless-Ok ((not (t.running && t.spec.master), world.NotRunning) ∷ (nat_le queue_limit (length (list_for t.station.cycles.queue r)), world.QueueFull) ∷ []) (made, record { now = w.now; spoke = None }) (next, reply) ok in
        let same : made ≡ next = ap (λ (z : World × Reply). z.0) both.1 in
        let e = marks_queue (queued t.station.cycles.queue r) w.params t.station t.marks in
        let looks = set_looks w.params w.taps k t x here
        (record { running = refl; address = refl; master = refl; since = refl; phase = ap (λ (z : Station). z.phase) e; busy = ap (λ (z : Station). z.busy) e; las = ap (λ (z : Station). z.las) e; reply = as_same (view w.params t).reply (view w.params x).reply (ap (λ (z : Station). z.reply) e) }) in
        subst (λ z. Rotating z base members) same
        (record {
          ring = ring_looks w base members (slice_set w.taps k x) looks u.ring;
          rotates = subst (Rotates made base members) (sym (ring_looks_call w base members (slice_set w.taps k x) looks u.ring))
              (rotates_set w base u.ring.call.answered members u.ring.call k t x w.trace here (queue_times w.params t r) rotates);
        })

-- ---- each

-- each calm event
pub calm_keeps_rotating : (w : World) (e : Event) → is_calm e ≡ true → KeepsRotating w e
calm_keeps_rotating w (Turn k) calm = turn_keeps_rotating w k
calm_keeps_rotating w (Pass bits) calm = pass_keeps_rotating w bits
calm_keeps_rotating w (Queue k r) calm = queue_keeps_rotating w k r
calm_keeps_rotating w (world.Damage tap speaker place) calm = no_ calm
calm_keeps_rotating w (world.Start tap) calm = no_ calm
calm_keeps_rotating w (world.Stop tap) calm = no_ calm
calm_keeps_rotating w (world.Noise bits) calm = no_ calm
calm_keeps_rotating w (world.Unheard tap speaker) calm = no_ calm

-- A settled ring is undisturbed, and its receipts are in order.
use Rattle.std.proofs.Common.{◌≡◌, ℕ, ◌+◌, ◌-◌, ◌<◌, ◌≤◌, inl, Bool, true, false, not, ◌==◌, ◌&&◌, ◌||◌, List, [], ◌∷◌, refl, sym, ap, ◌∙◌, subst, arith, Option, Some, None}
use Rattle.std.specs.Prelude.{slice_get, nat_lt, is_none, is_some, max, IfSome}
use Rattle.std.specs.List.{list_any, list_all}
use Rattle.std.proofs.lemmas.Bool.{and_parts, ltb-true, eqb-true}
use Rattle.pb_timers.specs.Timers.{Params}
use Rattle.pb_ring.specs.AddressSets.{is_member, is_same, from_behind}
use Rattle.pb_ring.specs.Las.{LasTable}
use Rattle.pb_ring.specs.declared.stages.Stage.{Stage}
use Rattle.pb_ring.specs.declared.stages.Stage.TheVariants.{Learning, Complete}
use Rattle.pb_ring.proofs.SetLemmas.{is_same-true}
use Rattle.pb_rotation.specs.Rotation.{Receipt}
use Rattle.law_turn.specs.Phases.{Phase, Offline, PassiveIdle, Listening, Idle, Claim, Use, AwaitData, AwaitStatus, Pass, Checking, is_offline, may_initiate}
use Rattle.law_turn.specs.Stations.{Station, Reply}
use Rattle.law_model.specs.Trace.{Record, Entry, Sent, Noise}
use Rattle.law_model.specs.Medium.{Tap, reaches_taps}
use Rattle.law_model.specs.World.{World}
use Rattle.law_runs.specs.Premises.{Waited}
use Rattle.law_token.specs.Lists.{Each, In}
use Rattle.law_token.specs.Views.{view, place}
use Rattle.law_token.specs.Entries.{EntryHolds}
use Rattle.law_token.specs.Invariant.{Invariant}
use Rattle.law_token.proofs.bus.Lists.{each_in, each_map, each_both}
use Rattle.law_token.proofs.bus.Live.{holding_view}
use Rattle.law_token.proofs.bus.Pairs.{Holding, Keeps, Has}
use Rattle.law_live.specs.Flow.{Flow}
use Rattle.law_live.specs.Holding.{ReceivedBy, Spends}
use Rattle.law_rings.specs.Ring.{Call, IsCall, InRing, IsPastReply, IsAwaited, IsUndisturbed, TakesPart, IsMember, IsDue, RingTap, Ring}
use Rattle.law_rings.specs.Receipts as receipts
use Rattle.law_rings.specs.Receipts.{Log, ChainFrom, Chain, Follows, InOrder, times, HasLog, Rotates, Rotating}
use Rattle.law_rings.specs.Settled.{is_active, ring_of, lists, is_in_place, is_well, has_token, is_over, is_settled}
use Rattle.law_rings.proofs.FromSettled.{ring_ascends, active_member, member_active, all_at, Found, any_found, each_over, each_calm, InPlace, in_place}
use Rattle.law_rings.proofs.NoTest.{no_}

-- ---- a tap

-- a running tap of a settled ring
record WellAt (w : World) (t : Tap) : Type 0 where
  since : t.since < w.now
  silent : (view w.params t).reply ≡ None
  place_is : InPlace (ring_of w.params w.taps) t.spec.address t.spec.master (view w.params t)

-- no reply
none_is : (o : Option Reply) → is_none o ≡ true → o ≡ None
none_is None e = refl
none_is (Some r) e = no_ e

-- as its test says
well_at : (w : World) (t : Tap) → is_well w.params (ring_of w.params w.taps) w.now t ≡ true → t.running ≡ true → WellAt w t
well_at w t e running =
    let p = w.params in
    let s = view p t in
    let members = ring_of p w.taps in
    let in_ring : Bool = lists members t.spec.address s.las.stage && is_some s.rotation.last in
    let h : (nat_lt t.since w.now && (is_none s.reply && is_in_place s.phase t.spec.master in_ring)) ≡ true =
    ap (λ b. not b || (nat_lt t.since w.now && (is_none s.reply && is_in_place s.phase t.spec.master in_ring))) (sym running) ∙ e in
    let a = and_parts (nat_lt t.since w.now) (is_none s.reply && is_in_place s.phase t.spec.master in_ring) h in
    let b = and_parts (is_none s.reply) (is_in_place s.phase t.spec.master in_ring) a.1 in
    record { since = ltb-true t.since w.now a.0; silent = none_is s.reply b.0; place_is = in_place members t.spec.address t.spec.master s b.1 }

-- a phase that takes part is not offline
pub part_active : (ph : Phase) → TakesPart ph → not (is_offline ph) ≡ true
part_active (Idle refused) x = refl
part_active (Use asked ready) x = refl
part_active (AwaitData asked retry slot) x = refl
part_active (AwaitStatus of slot) x = refl
part_active (Checking tries) x = refl
part_active Offline x = absurd x
part_active PassiveIdle x = absurd x
part_active (Listening doubled) x = absurd x
part_active (Claim sent ready) x = absurd x
part_active (Pass tries ready) x = absurd x

-- a master that is not offline, in its place, takes part
active_part : (members : List ℕ) (address : ℕ) (s : Station) → InPlace members address true s → not (is_offline s.phase) ≡ true → TakesPart s.phase
active_part members address s i on = by s.phase refl i.undisturbed on
  where
    by : (ph : Phase) → s.phase ≡ ph → IsUndisturbed ph → not (is_offline ph) ≡ true → TakesPart ph
    by (Idle refused) e u o = tt
    by (Use asked ready) e u o = tt
    by (AwaitData asked retry slot) e u o = tt
    by (AwaitStatus of slot) e u o = tt
    by (Checking tries) e u o = tt
    by Offline e u o = no_ o
    by PassiveIdle e u o = absurd (i.passive refl e)
    by (Listening doubled) e u o = absurd u
    by (Claim sent ready) e u o = absurd u
    by (Pass tries ready) e u o = absurd u

-- the list of a member
member_by : (members : List ℕ) (address : ℕ) (table : LasTable) → is_member members address ≡ true → lists members address table.stage ≡ true → IsMember members address table
member_by members address table m e = by table.stage refl e
  where
    by : (stage : Stage) → table.stage ≡ stage → lists members address stage ≡ true → IsMember members address table
    by (Learning rotation closed) q h = no_ h
    by (Complete listed None) q h = no_ (and_parts (is_same listed members) false h).1
    by (Complete listed (Some spot)) q h =
        let b = and_parts (is_same listed members) (spot.address == address && spot.skipped == 0) h in
        let c = and_parts (spot.address == address) (spot.skipped == 0) b.1 in
        record {
          place = spot;
          stage = q ∙ ap (λ xs. Complete xs (Some spot)) (is_same-true listed members b.0);
          own = eqb-true spot.address address c.0;
          not_skipped = eqb-true spot.skipped 0 c.1;
          member = m;
        }

-- an active tap runs
active_runs : (p : Params) (t : Tap) → is_active p t ≡ true → t.running ≡ true
active_runs p t a = (and_parts t.running (t.spec.master && not (is_offline (view p t).phase)) a).0

-- ---- the whole

-- a relation of all is one of neighbours
chain_all : (P : ℕ → ℕ → Type 0) (xs : List ℕ) → ((x y : ℕ) → P x y) → Chain P xs
chain_all P [] f = tt
chain_all P (x ∷ xs) f = from x xs
  where
    from : (x : ℕ) (xs : List ℕ) → ChainFrom P x xs
    from x [] = tt
    from x (y ∷ ys) = (f x y, from y ys)

-- a settled ring is undisturbed, and its receipts, none later than the clock, are in order
pub settled_rotating : (w : World) (waited : List Waited) → Invariant w waited → Flow w → is_settled w ≡ true → Rotating w w.now (ring_of w.params w.taps)
settled_rotating w waited inv flow settled = record { ring = ring; rotates = rotates }
  where
    p : Params
    p = w.params

    members : List ℕ
    members = ring_of p w.taps

    both : (list_all (is_well p members w.now) w.taps ≡ true) × ((list_any (has_token p) w.taps && list_all (is_over p.ttd w.now) w.trace) ≡ true)
    both = and_parts (list_all (is_well p members w.now) w.taps) (list_any (has_token p) w.taps && list_all (is_over p.ttd w.now) w.trace) settled

    rest : (list_any (has_token p) w.taps ≡ true) × (list_all (is_over p.ttd w.now) w.trace ≡ true)
    rest = and_parts (list_any (has_token p) w.taps) (list_all (is_over p.ttd w.now) w.trace) both.1

    well : (k : ℕ) (t : Tap) → slice_get w.taps k ≡ Some t → t.running ≡ true → WellAt w t
    well k t here running = well_at w t (all_at (is_well p members w.now) w.taps k t both.0 here) running

    over : Each (λ e. (reaches_taps p.ttd e).end ≤ w.now) w.trace
    over = each_over p.ttd w.now w.trace rest.1

    -- the holder
    h : Found (has_token p) w.taps
    h = any_found (has_token p) w.taps rest.0

    holds : (h.x.running ≡ true) × (may_initiate (view p h.x).phase ≡ true)
    holds = and_parts h.x.running (may_initiate (view p h.x).phase) h.passes

    holder_part : TakesPart (view p h.x).phase
    holder_part = by (view p h.x).phase (well h.k h.x h.here holds.0).place_is.undisturbed holds.1
      where
        by : (ph : Phase) → IsUndisturbed ph → may_initiate ph ≡ true → TakesPart ph
        by (Use asked ready) u m = tt
        by (AwaitData asked retry slot) u m = tt
        by (AwaitStatus of slot) u m = tt
        by (Claim sent ready) u m = absurd u
        by (Pass tries ready) u m = absurd u
        by Offline u m = no_ m
        by PassiveIdle u m = no_ m
        by (Listening doubled) u m = no_ m
        by (Idle refused) u m = no_ m
        by (Checking tries) u m = no_ m

    -- the last initiator telegram
    last_some : (r : Record) × (inv.keeps.inv.last ≡ Some r)
    last_some = by (holding_view p w.now w.trace inv.keeps.inv.last h.k h.x h.x.marks (inv.keeps.inv.taps h.k h.x h.here holds.0) holds.1)
      where
        by : Holding (place p w.now h.k h.x) inv.keeps.inv.last → (r : Record) × (inv.keeps.inv.last ≡ Some r)
        by (Keeps own z) = (z.r, z.is)
        by (Has at z late) = (z.r, z.is)

    r : Record
    r = last_some.0

    call : Call
    call = record { tap = r.tap; octets = r.octets; begin = r.begin; end = r.end; answered = 0 }

    r_in : In (Sent r) w.trace
    r_in = subst (λ o. IfSome o (λ r. In (Sent r) w.trace)) last_some.1 inv.keeps.inv.last_in

    call_over : call.end + p.ttd ≤ w.now
    call_over = each_in (λ e. (reaches_taps p.ttd e).end ≤ w.now) (Sent r) w.trace over r_in

    call_some : call.begin < call.end
    call_some = (each_in (EntryHolds p w.now w.taps w.trace waited inv.keeps.inv.last) (Sent r) w.trace inv.keeps.inv.entries r_in).some

    active_is : (k : ℕ) (t : Tap) → slice_get w.taps k ≡ Some t → t.running ≡ true → TakesPart (view p t).phase → is_active p t ≡ true
    active_is k t here running part =
        ap (λ b. b && (t.spec.master && not (is_offline (view p t).phase))) running ∙ ap (λ b. b && not (is_offline (view p t).phase)) ((well k t here running).place_is.master_is part) ∙ part_active (view p t).phase part

    tap : (k : ℕ) (t : Tap) → slice_get w.taps k ≡ Some t → t.running ≡ true → RingTap p w.now members w.taps w.trace call k t
    tap k t here running =
        let g = well k t here running in
        record {
          undisturbed = g.place_is.undisturbed;
          since = g.since;
          active = g.place_is.passive;
          master = g.place_is.master_is;
          member = λ part. member_by members t.spec.address (view p t).las (active_member p w.taps k t here (active_is k t here running part)) (g.place_is.member part).0;
          replies = subst (λ o. IfSome o (λ a. IsDue p w.now w.taps w.trace call k t a)) (sym g.silent) tt;
          asked = λ from mine. absurd (omega (arith, from, call_over, call_some));
        }

    ring : Ring w w.now members
    ring = record {
      call = call;
      is_call = subst (λ o. IsCall o call) (sym (inv.keeps.inv.is_last ∙ last_some.1)) (refl, refl, refl, refl);
      from = omega arith;
      ascends = ring_ascends p w.taps;
      all = λ a m. let x = member_active p w.taps a m in
          let running = active_runs p x.t x.active in
          let g = well x.tap x.t x.here running in
          let parts = and_parts x.t.running (x.t.spec.master && not (is_offline (view p x.t).phase)) x.active in
          let on = and_parts x.t.spec.master (not (is_offline (view p x.t).phase)) parts.1 in
          record {
            tap = x.tap;
            t = x.t;
            here = x.here;
            running = running;
            part = active_part members x.t.spec.address (view p x.t) (subst (λ b. InPlace members x.t.spec.address b (view p x.t)) on.0 g.place_is) on.1;
            address = x.address;
          };
      bearer = record { tap = h.k; t = h.x; here = h.here; running = holds.0; part = holder_part; bears = inl holds.1 };
      taps = tap;
      entries = each_map (λ e. (reaches_taps p.ttd e).end ≤ w.now) (InRing p w.now w.now members w.trace call) w.trace entry over;
      replies = each_map (λ e. (reaches_taps p.ttd e).end ≤ w.now) (IsPastReply p.ttd w.now call) w.trace past over;
      awaited = each_both (λ e. (reaches_taps p.ttd e).end ≤ w.now) (EntryHolds p w.now w.taps w.trace waited inv.keeps.inv.last) (IsAwaited p w.now w.taps call) w.trace awaits over inv.keeps.inv.entries;
      request = λ wants air. absurd (omega (arith, air, call_over));
    }
      where
        entry : (e : Entry) → (reaches_taps p.ttd e).end ≤ w.now → InRing p w.now w.now members w.trace call e
        entry (Noise span) o = o
        entry (Sent x) o = λ air. absurd (omega (arith, air, o))

        past : (e : Entry) → (reaches_taps p.ttd e).end ≤ w.now → IsPastReply p.ttd w.now call e
        past (Noise span) o = tt
        past (Sent x) o = λ air none. absurd (omega (arith, air, call_over))

        awaits : (e : Entry) → (reaches_taps p.ttd e).end ≤ w.now → EntryHolds p w.now w.taps w.trace waited inv.keeps.inv.last e → IsAwaited p w.now w.taps call e
        awaits (Noise span) o q = tt
        awaits (Sent x) o q = λ none late. absurd (let some = q.some in omega (arith, some, late, o))

    -- what a station keeps is by the clock
    spends : (k : ℕ) (t : Tap) → slice_get w.taps k ≡ Some t → t.running ≡ true → Spends p w.now w.now (view p t)
    spends k t here running =
        let same : w.now - p.ttd + p.ttd ≡ w.now = omega (arith, call_over) in
        subst (λ m. Spends p m m (view p t)) same ((flow.taps k t here running).spends (w.now - p.ttd) (inl (each_calm p.ttd w.now w.trace rest.1)))

    -- all receipts count as if they were at the clock
    times_are : (o : Option Receipt) → is_some o ≡ true → ReceivedBy w.now w.now o → times w.now o ≡ Some (w.now, w.now)
    times_are None e r = no_ e
    times_are (Some x) e r =
        let at : max w.now x.at ≡ w.now = let h = r.0 in omega (arith, h) in
        let before : max w.now x.previous ≡ w.now = let h = r.1 in omega (arith, h) in
        ap (λ n. Some (n, max w.now x.at)) before ∙ ap (λ n. Some (w.now, n)) at

    rotates : Rotates w w.now members call
    rotates = record {
      log = record { at = λ _. w.now; previous = λ _. w.now };
      has = λ k t here running part. times_are (view p t).rotation.last ((well k t here running).place_is.member part).1 (spends k t here running).received;
      tap = h.k;
      t = h.x;
      here = h.here;
      running = holds.0;
      part = holder_part;
      in_order = record {
        order = chain_all (Follows p (record { at = λ _. w.now; previous = λ _. w.now })) (from_behind h.x.spec.address members) (λ x y. (omega arith, omega arith));
        before = λ m i. omega arith;
      };
      tenure = receipts.Holding holds.1 (inl (omega arith)) (spends h.k h.x h.here holds.0);
    }

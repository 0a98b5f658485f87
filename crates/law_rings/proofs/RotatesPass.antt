-- A pass keeps the receipts of an undisturbed ring in order.
use Rattle.std.proofs.Common.{◌≡◌, ℕ, ◌+◌, ◌<◌, ◌≤◌, ◌⊎◌, inl, inr, ⊎_elim, true, false, List, sym, ap, ◌∙◌, subst, arith, Option, Some, None}
use Rattle.std.specs.Prelude.{slice_get, max, IfSome}
use Rattle.std.proofs.lemmas.Bool.{cases_lt, cases_eq}
use Rattle.std.proofs.lemmas.Option.{none-some, same_Some}
use Rattle.pb_timers.specs.Timers.{Params, bits}
use Rattle.pb_ring.specs.AddressSets.{is_member, next_address}
use Rattle.pb_ring.proofs.NeighbourLemmas.{next-is}
use Rattle.pb_rotation.specs.Rotation.{Rotation, Receipt, before, received}
use Rattle.law_turn.specs.Arrivals.{Token, NoTelegram}
use Rattle.law_turn.specs.Phases.{Use, may_initiate}
use Rattle.law_turn.specs.Stations.{Station}
use Rattle.law_model.specs.Trace.{Record}
use Rattle.law_model.specs.Medium.{Tap}
use Rattle.law_model.specs.World.{World}
use Rattle.law_model.specs.Step.{told}
use Rattle.law_runs.specs.Initiators.{initiates, offered_by}
use Rattle.law_runs.specs.Premises.{Waited}
use Rattle.law_token.specs.Tokens.{Held, Taken}
use Rattle.law_token.specs.Views.{ViewOf, view, place, TapHolds}
use Rattle.law_token.specs.Invariant.{Invariant}
use Rattle.law_token.proofs.bus.Claims.{one_address}
use Rattle.law_live.specs.Flow.{Flow}
use Rattle.law_live.specs.Holding.{limit, Spends, has_used, left_of, SpendsBy}
use Rattle.law_rings.specs.Ring.{IsCall, TakesPart, MemberAt, brought_by}
use Rattle.law_rings.specs.Receipts.{Log, InOrder, times, Tenure, Holding, Passing, HasLog, Rotates}
use Rattle.law_rings.proofs.Calls.{held_call, taken_call}
use Rattle.law_rings.proofs.NotInRing.{HoldsAs, HoldsOwn, HoldsTaken, holds_as}
use Rattle.law_rings.proofs.PassKeeps.{IsAt, is_at}
use Rattle.law_rings.proofs.Reaching.{Undisturbed, by_caller}
use Rattle.law_rings.proofs.RingPass.{then_trace, call_passed}
use Rattle.law_rings.proofs.Sums.{received_by, at_it, at_other, before_it, before_other, order_goes_on}
use Rattle.law_rings.proofs.Taking.{part_on, OnItsWayTo, pass_by_end, air_since, HasTaken, takes}
use Rattle.law_rings.proofs.TapPass.{TapAfter}
use Rattle.law_rings.proofs.TapsPass.{Passes, RunsAt, then_view, then_arrival, ring_at, tap_after, WasAt, was_at}
use Rattle.law_rings.proofs.Tenures.{Basics, basics, spends_pass}
use Rattle.law_rings.proofs.Whole.{ArrivesAs, ComesNothing, ComesAs, arrives}

-- the world after a pass
abbrev pub passed : World → ℕ → World
passed w to = record w { now = to; taps = told w.params.ttd w.trace w.now to 0 w.taps; trace = then_trace w to }

-- ---- who receives the token

-- the call gives the token to a tap as it ends there
pub record Receives (w : World) (base : ℕ) (members : List ℕ) (u : Undisturbed w base members) (k to : ℕ) (t : Tap) : Type 0 where
  pub another : u.ring.call.tap ≡ k → ⊥
  pub offers : offered_by (brought_by u.ring.call.octets) ≡ Some t.spec.address
  pub ends : to ≡ u.ring.call.end + w.params.ttd

-- a tap that takes the token in a pass receives it so
receives : (w : World) (base : ℕ) (members : List ℕ) (to : ℕ) (q : Passes w base members to) (waited' : List Waited) (i' : Invariant (passed w to) waited') (k : ℕ) (t : Tap) → RunsAt w k t
    → (da sa : ℕ) → then_arrival w k to t ≡ Token da sa → (then_view w k to t).phase ≡ Use false (to + w.params.tid1) → Receives w base members q.u k to t
receives w base members to q waited' i' k t at da sa token ph = by (subst (λ z. ViewOf (place w.params to k x.x) (then_trace w to) last' z (view w.params x.x).busy (view w.params x.x).quiet (view w.params x.x).own (view w.params x.x).reply) (ap (λ (z : Station). z.phase) x.view_is ∙ ph) o.view_ok)
  where
    x : IsAt w k to t
    x = is_at w k to t at

    last' : Option Record
    last' = i'.keeps.inv.last

    o : TapHolds w.params to (then_trace w to) last' k x.x
    o = i'.keeps.inv.taps k x.x x.here x.running

    is : IsCall last' q.u.ring.call
    is = subst (λ z. IsCall z q.u.ring.call) i'.keeps.inv.is_last (call_passed w base members q.u to q.later)

    -- the one that called hears no token
    not_caller : q.u.ring.call.tap ≡ k → ⊥
    not_caller mine = by_arrival (arrives w base members q.u k to t q.later)
      where
        by_arrival : ArrivesAs w base members q.u k to (then_arrival w k to t) → ⊥
        by_arrival (ComesNothing e) = let wrong : NoTelegram ≡ Token da sa = sym e ∙ token in cc
        by_arrival (ComesAs y h ends another way e) = another (by_caller w base members q.u y h (ap initiates (sym e ∙ token)) (let later = q.later in omega (arith, ends, later)) ∙ mine)

    by : ViewOf (place w.params to k x.x) (then_trace w to) last' (Use false (to + w.params.tid1)) (view w.params x.x).busy (view w.params x.x).quiet (view w.params x.x).own (view w.params x.x).reply → Receives w base members q.u k to t
    by ok = ⊎_elim
        (λ (h : Held last' k (view w.params x.x).own). absurd (not_caller (held_call last' q.u.ring.call k (view w.params x.x).own is h).by))
        (λ (h : Taken w.params.ttd last' k x.x.spec.address (view w.params x.x).quiet × (to + w.params.tid1 ≡ (view w.params x.x).quiet + w.params.tid1)).
        let c = taken_call w.params.ttd last' q.u.ring.call k x.x.spec.address (view w.params x.x).quiet is h.0 in
        record { another = c.another; offers = c.offers ∙ ap (λ n. Some n) x.address; ends = let a = c.heard_at in omega (arith, a, h.1) }) ok.4

-- a tap that does not receive it has its receipts as before
keeps_rotation : (w : World) (base : ℕ) (members : List ℕ) (to : ℕ) (q : Passes w base members to) (waited' : List Waited) (i' : Invariant (passed w to) waited') (k : ℕ) (t : Tap) → RunsAt w k t → (Receives w base members q.u k to t → ⊥)
    → (then_view w k to t).rotation ≡ (view w.params t).rotation
keeps_rotation w base members to q waited' i' k t at none =
    ⊎_elim (λ (same : (then_view w k to t).rotation ≡ (view w.params t).rotation). same)
    (λ (z : (da sa : ℕ) × (then_arrival w k to t ≡ Token da sa) × ((then_view w k to t).phase ≡ Use false (to + w.params.tid1))). absurd (none (receives w base members to q waited' i' k t at z.0 z.1 z.2 z.3)))
    (tap_after w base members to q k t at).rotation

-- ---- the log

-- where none receives it the log is as before
log_same : (w : World) (base : ℕ) (members : List ℕ) (to : ℕ) (q : Passes w base members to) (waited' : List Waited) (i' : Invariant (passed w to) waited') (log : Log) → HasLog w.params base w.taps log
    → ((k : ℕ) (t : Tap) → RunsAt w k t → Receives w base members q.u k to t → ⊥) → HasLog w.params base (told w.params.ttd w.trace w.now to 0 w.taps) log
log_same w base members to q waited' i' log has none k x here running part =
    let b = was_at w k to x here running in
    let p' = subst (λ (z : Station). TakesPart z.phase) b.view_is part in
    ap (λ (z : Station). times base z.rotation.last) b.view_is ∙ ap (λ (z : Rotation). times base z.last) (keeps_rotation w base members to q waited' i' k b.t b.at (none k b.t b.at))
    ∙ has k b.t b.at.here b.at.running ((tap_after w base members to q k b.t b.at).back p')
    ∙ ap (λ n. Some (log.previous n, log.at n)) (ap (λ s. s.address) (sym b.spec))

-- the receipts after one more
pub times_received : (base : ℕ) (r : Rotation) (at : ℕ) (previous last : ℕ) → base ≤ at → times base r.last ≡ Some (previous, last) → times base (received r at).last ≡ Some (last, at)
times_received base r at previous last since e = by r.last e
  where
    by : (o : Option Receipt) → times base o ≡ Some (previous, last) → times base (Some (record { previous = before o at; at = at; high = false })) ≡ Some (last, at)
    by None e = absurd (none-some (previous, last) e)
    by (Some x) e =
        let now_ : max base at ≡ at = omega (arith, since) in
        ap (λ n. Some (n, max base at)) (ap (λ (z : ℕ × ℕ). z.1) (same_Some (max base x.previous, max base x.at) (previous, last) e)) ∙ ap (λ m. Some (last, m)) now_

-- where the next station receives it
log_next : (w : World) (base : ℕ) (members : List ℕ) (to : ℕ) (q : Passes w base members to) (waited' : List Waited) (i' : Invariant (passed w to) waited') (log : Log) (n k : ℕ) (t : Tap) → HasLog w.params base w.taps log → RunsAt w k t
    → TakesPart (view w.params t).phase → t.spec.address ≡ n → offered_by (brought_by q.u.ring.call.octets) ≡ Some n → HasTaken w.params to (view w.params t) (then_view w k to t) → HasLog w.params base (told w.params.ttd w.trace w.now to 0 w.taps) (received_by log n to)
log_next w base members to q waited' i' log n k t has at part mine offers taken j x here running part' = ⊎_elim it other (cases_eq x.spec.address n)
  where
    log' : Log
    log' = received_by log n to

    b : WasAt w j to x
    b = was_at w j to x here running

    address : x.spec.address ≡ b.t.spec.address
    address = ap (λ s. s.address) b.spec

    it : x.spec.address ≡ n → times base (view w.params x).rotation.last ≡ Some (log'.previous x.spec.address, log'.at x.spec.address)
    it e =
        let same_index = one_address w.taps k j t b.t q.u.invariant.keeps.inv.distinct at.here b.at.here at.running b.at.running (mine ∙ sym e ∙ address) in
        let same : b.t ≡ t = same_Some b.t t (sym b.at.here ∙ subst (λ i. slice_get w.taps i ≡ Some t) same_index at.here) in
        let rot : (view w.params x).rotation ≡ received (view w.params t).rotation to =
        ap (λ (z : Station). z.rotation) b.view_is ∙ ap (λ (z : Tap). (then_view w j to z).rotation) same ∙ ap (λ i. (then_view w i to t).rotation) (sym same_index) ∙ taken.rotation in
        let old : times base (view w.params t).rotation.last ≡ Some (log.previous n, log.at n) = has k t at.here at.running part ∙ ap (λ m. Some (log.previous m, log.at m)) mine in
        ap (λ (z : Rotation). times base z.last) rot ∙ times_received base (view w.params t).rotation to (log.previous n) (log.at n) (let from = q.u.ring.from in let later = q.later in omega (arith, from, later)) old
        ∙ ap (λ m. Some (m, to)) (sym (before_it log n to)) ∙ ap (λ m. Some (log'.previous n, m)) (sym (at_it log n to)) ∙ ap (λ m. Some (log'.previous m, log'.at m)) (sym e)

    other : (x.spec.address ≡ n → ⊥) → times base (view w.params x).rotation.last ≡ Some (log'.previous x.spec.address, log'.at x.spec.address)
    other ne =
        let p' = subst (λ (z : Station). TakesPart z.phase) b.view_is part' in
        let not_ : Receives w base members q.u j to b.t → ⊥ = λ r. ne (address ∙ same_Some b.t.spec.address n (sym r.offers ∙ offers)) in
        ap (λ (z : Station). times base z.rotation.last) b.view_is ∙ ap (λ (z : Rotation). times base z.last) (keeps_rotation w base members to q waited' i' j b.t b.at not_)
        ∙ has j b.t b.at.here b.at.running ((tap_after w base members to q j b.t b.at).back p') ∙ ap (λ m. Some (log.previous m, log.at m)) (sym address)
        ∙ ap (λ m. Some (m, log.at x.spec.address)) (sym (before_other log n to x.spec.address ne)) ∙ ap (λ m. Some (log'.previous x.spec.address, m)) (sym (at_other log n to x.spec.address ne))

-- the next station of a member is a member
pub next_member : (w : World) (base : ℕ) (members : List ℕ) (u : Undisturbed w base members) (a : ℕ) → is_member members a ≡ true → is_member members (next_address a members) ≡ true
next_member w base members u a m = (next-is members a a u.ring.ascends m).member

-- ---- a pass

-- one that has just taken the token has all its time
pub fresh_spends : (p : Params) (base : ℕ) (v v' : Station) (to previous last : ℕ) → Basics p v' → HasTaken p to v v' → times base v.rotation.last ≡ Some (previous, last) → Spends p to last v'
fresh_spends p base v v' to previous last b taken e = record {
  target = b.target;
  received = subst (λ (r : Rotation). IfSome r.last (λ r. (r.at ≤ to) × (r.previous ≤ last))) (sym taken.rotation) (omega arith, older v.rotation.last e);
  retries = b.retries;
  short = b.short;
  spends = subst (SpendsBy p (limit p to last (has_used v'.rotation.last)) (left_of v'.cycles.initiator.pending) v'.own.begin) (sym taken.phase)
      (subst (λ (r : Rotation). to + p.tid1 + p.lag ≤ limit p to last (has_used r.last)) (sym taken.rotation) (omega arith));
}
  where
    older : (o : Option Receipt) → times base o ≡ Some (previous, last) → before o to ≤ last
    older None e = absurd (none-some (previous, last) e)
    older (Some x) e = let same = ap (λ (z : ℕ × ℕ). z.1) (same_Some (max base x.previous, max base x.at) (previous, last) e) in omega (arith, same)

-- a pass keeps the receipts in order: none comes, or the next station receives the token
pub rotates_pass : (w : World) (base : ℕ) (members : List ℕ) (to : ℕ) (q : Passes w base members to) (waited' : List Waited) → Invariant (passed w to) waited' → Flow (passed w to) → Rotates w base members q.u.ring.call → Rotates (passed w to) base members q.u.ring.call
rotates_pass w base members to q waited' i' f' r = by r.tenure
  where
    p : Params
    p = w.params

    at : RunsAt w r.tap r.t
    at = record { here = r.here; running = r.running }

    a : ℕ
    a = r.t.spec.address

    x : IsAt w r.tap to r.t
    x = is_at w r.tap to r.t at

    after : TapAfter p members a to (then_arrival w r.tap to r.t) (view p r.t) (then_view w r.tap to r.t)
    after = tap_after w base members to q r.tap r.t at

    part' : TakesPart (view p x.x).phase
    part' = subst (λ (z : Station). TakesPart z.phase) (sym x.view_is) (after.forth r.part)

    -- no other receives it
    stays : ((k : ℕ) (t : Tap) → RunsAt w k t → Receives w base members q.u k to t → ⊥) → Tenure p base to members q.u.ring.call r.log r.tap x.x → Rotates (passed w to) base members q.u.ring.call
    stays none tenure = record {
      log = r.log;
      has = log_same w base members to q waited' i' r.log r.has none;
      tap = r.tap;
      t = x.x;
      here = x.here;
      running = x.running;
      part = part';
      in_order = subst (λ n. InOrder p members n r.log) (sym x.address) r.in_order;
      tenure = tenure;
    }

    by : Tenure p base w.now members q.u.ring.call r.log r.tap r.t → Rotates (passed w to) base members q.u.ring.call
    by (Holding may recent spends) = stays none
        (Holding (subst (λ (z : Station). may_initiate z.phase ≡ true) (sym x.view_is) (after.initiates may))
        (subst (λ n. (r.log.at n ≤ max base to) ⊎ ((q.u.ring.call.tap ≡ r.tap) × (r.log.at n ≤ q.u.ring.call.end))) (sym x.address)
        (⊎_elim (λ (e : r.log.at a ≤ max base w.now). inl (let later = q.later in omega (arith, e, later))) (λ (e : (q.u.ring.call.tap ≡ r.tap) × (r.log.at a ≤ q.u.ring.call.end)). inr e) recent))
        (subst (λ n. Spends p (r.log.at n) (r.log.previous n) (view p x.x)) (sym x.address)
        (subst (Spends p (r.log.at a) (r.log.previous a)) (sym x.view_is) (spends_pass w base members to q r.tap r.t (r.log.at a) (r.log.previous a) at (part_on (view p r.t).phase r.part) may spends))))
      where
        none : (k : ℕ) (t : Tap) → RunsAt w k t → Receives w base members q.u k to t → ⊥
        none k t there z = held (holds_as w base members q.u r.tap r.t at may)
          where
            held : HoldsAs w base members q.u r.tap r.t → ⊥
            held (HoldsOwn own h hc) = none-some t.spec.address (sym hc.no_offer ∙ z.offers)
            held (HoldsTaken m h late old) = let e = h.heard_at in let f = z.ends in let later = q.later in omega (arith, e, f, later, old)
    by (Passing mine apart offers air full recent time) =
        ⊎_elim (λ (still : to < q.u.ring.call.end + p.ttd).
        stays (λ k t there z. let e = z.ends in omega (arith, e, still))
        (subst (λ n. (next_address n members ≡ n → ⊥) → offered_by (brought_by q.u.ring.call.octets) ≡ Some (next_address n members) → r.log.at n ≤ max base q.u.ring.call.begin
        → q.u.ring.call.begin ≤ limit p (r.log.at n) (r.log.previous n) true → Tenure p base to members q.u.ring.call r.log r.tap x.x) x.address
        (λ apart offers recent time. Passing mine apart offers still full recent time) apart offers recent time))
        (λ (over : q.u.ring.call.end + p.ttd ≤ to). comes over) (cases_lt to (q.u.ring.call.end + p.ttd))
      where
        n : ℕ
        n = next_address a members

        member : is_member members a ≡ true
        member = ((ring_at w base members q.u r.tap r.t at).member r.part).member

        comes : q.u.ring.call.end + p.ttd ≤ to → Rotates (passed w to) base members q.u.ring.call
        comes over = record {
          log = log';
          has = log_next w base members to q waited' i' r.log n m.tap m.t r.has there m.part m.address offers taken;
          tap = m.tap;
          t = y.x;
          here = y.here;
          running = y.running;
          part = subst (λ (z : Station). TakesPart z.phase) (sym y.view_is) ((tap_after w base members to q m.tap m.t there).forth m.part);
          in_order = subst (λ z. InOrder p members z log') (sym here_) (order_goes_on p members a r.log to (record { ascends = q.u.ring.ascends; member = member; in_order = r.in_order; later = later_; in_time = in_time }));
          tenure = Holding (subst (λ (z : Station). may_initiate z.phase ≡ true) (sym y.view_is) (ap may_initiate taken.phase))
              (inl (subst (λ z. log'.at z ≤ max base to) (sym here_) (let e = at_it r.log n to in omega (arith, e))))
              (subst (λ z. Spends p (log'.at z) (log'.previous z) (view p y.x)) (sym here_)
              (subst (λ z. Spends p z (log'.previous n) (view p y.x)) (sym (at_it r.log n to)) (subst (λ z. Spends p to z (view p y.x)) (sym (before_it r.log n to)) (subst (Spends p to (r.log.at n)) (sym y.view_is) fresh))));
        }
          where
            log' : Log
            log' = received_by r.log n to

            m : MemberAt p w.taps n
            m = q.u.ring.all n (next_member w base members q.u a member)

            there : RunsAt w m.tap m.t
            there = record { here = m.here; running = m.running }

            ne : q.u.ring.call.tap ≡ m.tap → ⊥
            ne e = apart (sym m.address ∙ ap (λ (z : Tap). z.spec.address) (same_Some m.t r.t (sym m.here ∙ subst (λ i. slice_get w.taps i ≡ Some r.t) (sym mine ∙ e) r.here)))

            o : OnItsWayTo w base members q.u m.tap m.t
            o = record { at = there; another = ne; air = air }

            ends : to ≡ q.u.ring.call.end + p.ttd
            ends = let le = pass_by_end w base members to q m.tap m.t o in omega (arith, le, over)

            taken : HasTaken p to (view p m.t) (then_view w m.tap to m.t)
            taken = takes w base members to q m.tap m.t o ends m.part (offers ∙ ap (λ z. Some z) (sym m.address))

            y : IsAt w m.tap to m.t
            y = is_at w m.tap to m.t there

            here_ : y.x.spec.address ≡ n
            here_ = y.address ∙ m.address

            begun : base ≤ q.u.ring.call.begin
            begun = air_since w base members q.u air

            later_ : r.log.at a ≤ to
            later_ = omega (arith, recent, begun, ends, full)

            in_time : to ≤ limit p (r.log.at a) (r.log.previous a) true + bits 3 + p.ttd
            in_time = omega (arith, time, ends, full)

            old : times base (view p m.t).rotation.last ≡ Some (r.log.previous n, r.log.at n)
            old = r.has m.tap m.t m.here m.running m.part ∙ ap (λ z. Some (r.log.previous z, r.log.at z)) m.address

            fresh : Spends p to (r.log.at n) (then_view w m.tap to m.t)
            fresh = fresh_spends p base (view p m.t) (then_view w m.tap to m.t) to (r.log.previous n) (r.log.at n) (subst (Basics p) y.view_is (basics (passed w to) m.tap y.x f' y.here y.running)) taken old

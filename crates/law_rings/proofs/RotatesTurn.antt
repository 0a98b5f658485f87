-- A turn keeps the receipts of an undisturbed ring in order.
use Rattle.std.proofs.Common.{◌≡◌, ℕ, ◌+◌, ◌<◌, ◌≤◌, ◌⊎◌, inl, inr, ⊎_elim, Bool, true, false, if◌then◌else◌, ◌==◌, List, [], length, map, refl, sym, ap, ◌∙◌, subst, arith, Option, Some, None}
use Rattle.std.specs.Option.{option_map}
use Rattle.std.specs.Prelude.{◌%◌, slice_get, slice_set, max, nat_lt, is_some, IfSome}
use Rattle.std.proofs.lemmas.Bool.{cases_eq, ne_eqb}
use Rattle.std.proofs.lemmas.Option.{none-some, same_Some}
use Rattle.pb_telegram.specs.Faults.{fault_of, is_token}
use Rattle.pb_telegram.specs.declared.chars.RxChar.TheVariants.{Good}
use Rattle.pb_timers.specs.Timers.{Params, bits}
use Rattle.pb_ring.specs.AddressSets.{next_address}
use Rattle.pb_ring.specs.Las.{members_of}
use Rattle.pb_rotation.specs.Rotation.{Rotation}
use Rattle.pb_cycles.specs.Fields.{Fields}
use Rattle.pb_cycles.specs.Messages.{frame_octets}
use Rattle.pb_cycles.specs.Initiating.{retry_of}
use Rattle.pb_cycles.specs.Requests.{asked_by}
use Rattle.law_turn.specs.Arrivals.{telegram_arrival}
use Rattle.law_turn.specs.Hearing.{after_timer, timed_out, phase_timed_out}
use Rattle.law_turn.specs.Phases.{Phase, Offline, PassiveIdle, Listening, Idle, Claim, Use, AwaitData, AwaitStatus, Pass, Checking, may_initiate}
use Rattle.law_turn.specs.Stations.{Station, timer_of, speaks_at, next_station}
use Rattle.law_turn.specs.Turns.{turn_of, settled, speech}
use Rattle.law_turn.proofs.Initiating.{fits-turn_of}
use Rattle.law_turn.proofs.Retrying.{left-settled}
use Rattle.law_model.specs.Trace.{Entry, Sent}
use Rattle.law_model.specs.Medium.{Tap}
use Rattle.law_model.specs.World.{World}
use Rattle.law_model.proofs.Cases.{by_test}
use Rattle.law_runs.specs.Initiators.{offered_by}
use Rattle.law_token.specs.Views.{view, place}
use Rattle.law_token.proofs.bus.Claims.{one_address}
use Rattle.law_token.proofs.bus.Lists.{each_in, get_set_other, at_set}
use Rattle.law_token.proofs.bus.Live.{live_on, initiates_live}
use Rattle.law_token.proofs.pass.Taps.{knows_on}
use Rattle.law_token.proofs.turn.Records.{OwnPast, own_past}
use Rattle.law_token.proofs.turn.Kept.{turned}
use Rattle.law_token.proofs.turn.Meaning.{arrival_spelled}
use Rattle.law_live.specs.Flow.{Flow}
use Rattle.law_live.specs.Holding.{limit, Spends, IsSaidBy, IsCycling}
use Rattle.law_live.proofs.HoldersRead.{spends-after_timer}
use Rattle.law_live.proofs.HoldersSpeak.{speech-spends, speaks-by}
use Rattle.law_live.proofs.InTime.{in_time-view, in_time-after_timer}
use Rattle.law_rings.specs.Ring.{Call, IsUndisturbed, TakesPart, IsMember, RingTap, IsArmed, is_answered_by, brought_by}
use Rattle.law_rings.specs.Receipts.{Log, InOrder, moments, not_before, times, Tenure, Holding, Passing, HasLog, Rotates}
use Rattle.law_rings.proofs.HoldersSay.{SaidBy, PassesOn, HasAgain, Requests}
use Rattle.law_rings.proofs.NotInRing.{MaySpeak, HoldsAs, HoldsOwn, HoldsTaken, holds_as}
use Rattle.law_rings.proofs.Reaching.{Undisturbed, call_stands}
use Rattle.law_rings.proofs.RotatesPass.{times_received, fresh_spends}
use Rattle.law_rings.proofs.SpeechKeeps.{SpeaksAt, initiates_part, armed_part}
use Rattle.law_rings.proofs.Sums.{received_by, at_it, at_other, before_it, before_other, order_goes_on}
use Rattle.law_rings.proofs.TapsPass.{RunsAt, holds_at, ring_at, view_address}
use Rattle.law_rings.proofs.Tenures.{basics}
use Rattle.law_token.proofs.turn.Last.{set_here}

-- ---- where a tap changes nothing of receipts

-- a tap that has its receipts as before, and its time if it holds the token
pub record SameTimes (p : Params) (t x : Tap) : Type 0 where
  pub running : x.running ≡ t.running
  pub address : x.spec.address ≡ t.spec.address
  pub phase : (view p x).phase ≡ (view p t).phase
  pub rotation : (view p x).rotation ≡ (view p t).rotation
  pub spends : may_initiate (view p t).phase ≡ true → (recent d : ℕ) → Spends p recent d (view p t) → Spends p recent d (view p x)

-- such a tap keeps the receipts in order
pub rotates_set : (w : World) (base answered : ℕ) (members : List ℕ) (call : Call) (k : ℕ) (t x : Tap) (trace' : List Entry) → slice_get w.taps k ≡ Some t → SameTimes w.params t x → Rotates w base members call
    → Rotates (record w { taps = slice_set w.taps k x; trace = trace' }) base members (record call { answered = answered })
rotates_set w base answered members call k t x trace' here s r = ⊎_elim mine other (cases_eq k r.tap)
  where
    p : Params
    p = w.params

    call' : Call
    call' = record call { answered = answered }

    has' : HasLog p base (slice_set w.taps k x) r.log
    has' = at_set (λ j y. y.running ≡ true → TakesPart (view p y).phase → times base (view p y).rotation.last ≡ Some (r.log.previous y.spec.address, r.log.at y.spec.address)) w.taps k x
        (λ run part. ap (λ (z : Rotation). times base z.last) s.rotation ∙ r.has k t here (sym s.running ∙ run) (subst TakesPart s.phase part) ∙ ap (λ n. Some (r.log.previous n, r.log.at n)) (sym s.address))
        (λ j y ne at. r.has j y at)

    tenure_moved : (u y : Tap) → SameTimes p u y → Tenure p base w.now members call r.log r.tap u → Tenure p base w.now members call' r.log r.tap y
    tenure_moved u y m (Holding may recent spends) =
        Holding (ap may_initiate m.phase ∙ may) (subst (λ n. (r.log.at n ≤ max base w.now) ⊎ ((call.tap ≡ r.tap) × (r.log.at n ≤ call.end))) (sym m.address) recent)
        (subst (λ n. Spends p (r.log.at n) (r.log.previous n) (view p y)) (sym m.address) (m.spends may (r.log.at u.spec.address) (r.log.previous u.spec.address) spends))
    tenure_moved u y m (Passing mine apart offers air full recent time) =
        subst (λ n. (next_address n members ≡ n → ⊥) → offered_by (brought_by call.octets) ≡ Some (next_address n members) → r.log.at n ≤ max base call.begin → call.begin ≤ limit p (r.log.at n) (r.log.previous n) true → Tenure p base w.now members call' r.log r.tap y)
        m.address (λ apart offers recent time. Passing mine apart offers air full recent time) apart offers recent time

    mine : k ≡ r.tap → Rotates (record w { taps = slice_set w.taps k x; trace = trace' }) base members call'
    mine e =
        let same : t ≡ r.t = same_Some t r.t (sym here ∙ subst (λ i. slice_get w.taps i ≡ Some r.t) (sym e) r.here) in
        let m : SameTimes p r.t x = subst (λ z. SameTimes p z x) same s in
        record {
          log = r.log;
          has = has';
          tap = r.tap;
          t = x;
          here = subst (λ i. slice_get (slice_set w.taps k x) i ≡ Some x) e (set_here w.taps k t x here);
          running = m.running ∙ r.running;
          part = subst TakesPart (sym m.phase) r.part;
          in_order = subst (λ n. InOrder p members n r.log) (sym m.address) r.in_order;
          tenure = tenure_moved r.t x m r.tenure;
        }

    other : (k ≡ r.tap → ⊥) → Rotates (record w { taps = slice_set w.taps k x; trace = trace' }) base members call'
    other ne = record {
      log = r.log;
      has = has';
      tap = r.tap;
      t = r.t;
      here = get_set_other w.taps k r.tap x ne ∙ r.here;
      running = r.running;
      part = r.part;
      in_order = r.in_order;
      tenure = tenure_moved r.t r.t (record { running = refl; address = refl; phase = refl; rotation = refl; spends = λ _ recent d o. o }) r.tenure;
    }

-- ---- who speaks had the token last

-- there is one holder
same_holder : (w : World) (base : ℕ) (members : List ℕ) (u : Undisturbed w base members) (k j : ℕ) (t y : Tap) → RunsAt w k t → RunsAt w j y → HoldsAs w base members u k t → HoldsAs w base members u j y → k ≡ j
same_holder w base members u k j t y a b (HoldsOwn own h hc) (HoldsOwn own' h' hc') = sym hc.by ∙ hc'.by
same_holder w base members u k j t y a b (HoldsOwn own h hc) (HoldsTaken m h' late old) = absurd (none-some y.spec.address (sym hc.no_offer ∙ h'.offers))
same_holder w base members u k j t y a b (HoldsTaken m h late old) (HoldsOwn own h' hc') = absurd (none-some t.spec.address (sym hc'.no_offer ∙ h.offers))
same_holder w base members u k j t y a b (HoldsTaken m h late old) (HoldsTaken m' h' late' old') =
    one_address w.taps k j t y u.invariant.keeps.inv.distinct a.here b.here a.running b.running (same_Some t.spec.address y.spec.address (sym h.offers ∙ h'.offers))

-- the one that speaks, and how it has held the token
pub record HadLast (w : World) (base : ℕ) (members : List ℕ) (u : Undisturbed w base members) (r : Rotates w base members u.ring.call) (k : ℕ) (t : Tap) : Type 0 where
  pub tap : k ≡ r.tap
  pub is : r.t ≡ t
  pub recent : (r.log.at t.spec.address ≤ max base w.now) ⊎ ((u.ring.call.tap ≡ k) × (r.log.at t.spec.address ≤ u.ring.call.end))
  pub spends : Spends w.params (r.log.at t.spec.address) (r.log.previous t.spec.address) (view w.params t)

-- a station that may initiate had the token last
had_last : (w : World) (base : ℕ) (members : List ℕ) (u : Undisturbed w base members) (r : Rotates w base members u.ring.call) (k : ℕ) (t : Tap) → MaySpeak w k t → HadLast w base members u r k t
had_last w base members u r k t s = by r.tenure
  where
    at : RunsAt w r.tap r.t
    at = record { here = r.here; running = r.running }

    k_holds : HoldsAs w base members u k t
    k_holds = holds_as w base members u k t s.at s.may

    by : Tenure w.params base w.now members u.ring.call r.log r.tap r.t → HadLast w base members u r k t
    by (Holding may recent spends) =
        let e = same_holder w base members u k r.tap t r.t s.at at k_holds (holds_as w base members u r.tap r.t at may) in
        let same : r.t ≡ t = same_Some r.t t (sym r.here ∙ subst (λ i. slice_get w.taps i ≡ Some t) e s.at.here) in
        record {
          tap = e;
          is = same;
          recent = subst (λ i. (r.log.at t.spec.address ≤ max base w.now) ⊎ ((u.ring.call.tap ≡ i) × (r.log.at t.spec.address ≤ u.ring.call.end))) (sym e)
              (subst (λ (z : Tap). (r.log.at z.spec.address ≤ max base w.now) ⊎ ((u.ring.call.tap ≡ r.tap) × (r.log.at z.spec.address ≤ u.ring.call.end))) same recent);
          spends = subst (λ (z : Tap). Spends w.params (r.log.at z.spec.address) (r.log.previous z.spec.address) (view w.params z)) same spends;
        }
    by (Passing mine apart offers air full recent time) = absurd (held k_holds)
      where
        held : HoldsAs w base members u k t → ⊥
        held (HoldsOwn own h hc) = none-some (next_address r.t.spec.address members) (sym hc.no_offer ∙ offers)
        held (HoldsTaken m h late old) = let e = h.heard_at in omega (arith, e, old, air)

-- ---- when it speaks

-- a phase that uses the token
cycles_of : (ph : Phase) → IsUndisturbed ph → may_initiate ph ≡ true → IsCycling ph
cycles_of (Use asked ready) u m = tt
cycles_of (AwaitData asked retry slot) u m = tt
cycles_of (AwaitStatus of slot) u m = tt
cycles_of (Claim sent ready) u m = absurd u
cycles_of (Pass tries ready) u m = absurd u
cycles_of (Listening doubled) u m = absurd u
cycles_of Offline u m = absurd (let w : false ≡ true = m in cc)
cycles_of PassiveIdle u m = absurd (let w : false ≡ true = m in cc)
cycles_of (Idle refused) u m = absurd (let w : false ≡ true = m in cc)
cycles_of (Checking tries) u m = absurd (let w : false ≡ true = m in cc)

-- does so after its timer too
cycles_timed : (s : Station) (ph : Phase) (t : ℕ) → IsCycling ph → IsCycling s.phase → IsCycling (phase_timed_out s ph t).phase
cycles_timed s (Use asked ready) t c d = d
cycles_timed s (AwaitData asked retry slot) t c d = by_test (λ (z : Station). IsCycling z.phase) (is_some (retry_of s.cycles.initiator.pending)) _ _ (λ _. tt) (λ _. tt)
cycles_timed s (AwaitStatus of slot) t c d = tt
cycles_timed s Offline t c d = absurd c
cycles_timed s PassiveIdle t c d = absurd c
cycles_timed s (Listening doubled) t c d = absurd c
cycles_timed s (Idle refused) t c d = absurd c
cycles_timed s (Claim sent ready) t c d = absurd c
cycles_timed s (Pass tries ready) t c d = absurd c
cycles_timed s (Checking tries) t c d = absurd c

-- by its timer
cycles_timer : (p : Params) (s : Station) (l : ℕ) → IsCycling s.phase → IsCycling (after_timer p l s).phase
cycles_timer p s l c = by (timer_of p s)
  where
    by : (o : Option ℕ) → IsCycling (timed_out s o l).phase
    by None = c
    by (Some m) = by_test (λ (z : Station). IsCycling z.phase) (nat_lt m l) (phase_timed_out s s.phase m) s (λ _. cycles_timed s s.phase m c c) (λ _. c)

-- it speaks by the end of its time
says_by : (p : Params) (recent d now : ℕ) (x : Station) (octets : List ℕ) → IsCycling x.phase → Spends p recent d x → IfSome (speaks_at x) (λ k. now ≤ k + p.lag) → (o : Option ℕ) → speaks_at x ≡ o → (speech p x o now).1 ≡ Some octets → now ≤ limit p recent d true
says_by p recent d now x octets c s late None e said = absurd (none-some octets said)
says_by p recent d now x octets c s late (Some m) e said =
    let h = subst (λ z. IfSome z (λ k. now ≤ k + p.lag)) e late in
    let g = speaks-by p recent d x x.phase m e c s in
    omega (arith, h, g)

-- ---- the turn

-- what a turn says
pub record SaysAt (w : World) (k : ℕ) (t : Tap) (octets : List ℕ) : Type 0 where
  pub speaks : SpeaksAt w k t octets (turn_of w.params t.station t.marks w.now).0
  pub says : (turn_of w.params t.station t.marks w.now).1 ≡ Some octets

-- a frame is no token
frame_no_token : (f : Fields) → is_token (frame_octets f) ≡ false
frame_no_token f =
    by_test (λ (xs : List ℕ). is_token xs ≡ false) (length f.unit == 0) _ _ (λ _. refl) (λ _. by_test (λ (xs : List ℕ). is_token xs ≡ false) (length f.unit == 8) _ _ (λ _. refl) (λ _. refl))

-- what a holder says keeps the receipts in order
pub rotates_speech : (w : World) (base : ℕ) (members : List ℕ) (u : Undisturbed w base members) (k : ℕ) (t : Tap) (octets : List ℕ) → SaysAt w k t octets → fault_of (map Good octets) ≡ None → Flow (turned w k t (turn_of w.params t.station t.marks w.now).0 (Some octets))
    → Rotates w base members u.ring.call
    → Rotates (turned w k t (turn_of w.params t.station t.marks w.now).0 (Some octets)) base members (record { tap = k; octets = octets; begin = w.now; end = w.now + bits (length octets); answered = 0 })
rotates_speech w base members u k t octets says good f' r = by says.speaks.said.by
  where
    p : Params
    p = w.params

    v : Station
    v = view p t

    x : Station
    x = settled p t.station t.marks w.now

    s' : Station
    s' = (turn_of p t.station t.marks w.now).0

    t' : Tap
    t' = record t { station = s'; marks = [] }

    a : ℕ
    a = t.spec.address

    at : RunsAt w k t
    at = says.speaks.may.at

    h : HadLast w base members u r k t
    h = had_last w base members u r k t says.speaks.may

    rt : RingTap p base members w.taps w.trace u.ring.call k t
    rt = ring_at w base members u k t at

    part : TakesPart v.phase
    part = initiates_part v.phase rt.undisturbed says.speaks.may.may

    member : IsMember members a v.las
    member = rt.member part

    late : IfSome (speaks_at x) (λ m. w.now ≤ m + p.lag)
    late = in_time-after_timer p w.now (w.now + 1) v (in_time-view p w.now w.trace u.invariant.keeps.inv.last k t t.marks (holds_at w base members u k t at))

    -- it speaks in its time
    in_time : w.now ≤ limit p (r.log.at a) (r.log.previous a) true
    in_time =
        says_by p (r.log.at a) (r.log.previous a) w.now x octets (cycles_timer p v (w.now + 1) (cycles_of v.phase rt.undisturbed says.speaks.may.may))
        (spends-after_timer p (r.log.at a) (r.log.previous a) (w.now + 1) v h.spends) late (speaks_at x) refl says.says

    -- its last receipt is not later than the clock
    recent : r.log.at a ≤ max base w.now
    recent = ⊎_elim (λ (e : r.log.at a ≤ max base w.now). e) (λ (e : (u.ring.call.tap ≡ k) × (r.log.at a ≤ u.ring.call.end)). let z = own_call_over e.0 in omega (arith, e.1, z)) h.recent
      where
        own_call_over : u.ring.call.tap ≡ k → u.ring.call.end ≤ w.now
        own_call_over mine =
            let c = call_stands w base members u in
            let knows = knows_on (place p w.now k t) w.trace v.phase v.busy v.quiet v.own (live_on v.phase (initiates_live v.phase says.speaks.may.may)) (holds_at w base members u k t at).knows in
            let past = own_past p w.now k v.own w.taps w.trace u.waited u.invariant.keeps.inv.last knows.order (let e = knows.ended in let q = says.speaks.may.past in omega (arith, e, q)) w.trace knows.owns u.invariant.keeps.inv.entries in
            let over = (each_in (OwnPast k w.now) (Sent c.r) w.trace past c.inside (c.tap ∙ mine)).1 in
            let e = c.end in omega (arith, over, e)

    in_order : InOrder p members a r.log
    in_order = subst (λ (z : Tap). InOrder p members z.spec.address r.log) h.is r.in_order

    -- the log as before
    has_same : moments s'.rotation.last ≡ moments v.rotation.last → HasLog p base (slice_set w.taps k t') r.log
    has_same same = at_set (λ j y. y.running ≡ true → TakesPart (view p y).phase → times base (view p y).rotation.last ≡ Some (r.log.previous y.spec.address, r.log.at y.spec.address)) w.taps k t'
        (λ run _. ap (option_map (not_before base)) same ∙ r.has k t at.here at.running part) (λ j y ne here. r.has j y here)

    call' : Call
    call' = record { tap = k; octets = octets; begin = w.now; end = w.now + bits (length octets); answered = 0 }

    made : (log : Log) → HasLog p base (slice_set w.taps k t') log → TakesPart s'.phase → InOrder p members a log → Tenure p base w.now members call' log k t' → Rotates (turned w k t s' (Some octets)) base members call'
    made log has part' order tenure = record { log = log; has = has; tap = k; t = t'; here = set_here w.taps k t t' at.here; running = at.running; part = part'; in_order = order; tenure = tenure }

    next : next_station v ≡ next_address a members
    next = ap (λ z. next_address v.address (members_of z)) member.stage ∙ ap (λ n. next_address n members) (view_address w base members u k t at)

    by : SaidBy p w.now v s' octets → Rotates (turned w k t s' (Some octets)) base members call'
    by (PassesOn tries os ne ph ts) =
        made r.log (has_same ts) (subst TakesPart (sym ph) tt) in_order
        (Passing refl (λ e. ne (next ∙ e ∙ sym (view_address w base members u k t at))) offers (let some : length octets ≡ 3 = ap length os in omega (arith, some)) (ap (λ os. w.now + bits (length os)) os) recent in_time)
      where
        offers : offered_by (brought_by octets) ≡ Some (next_address a members)
        offers = ap offered_by (arrival_spelled octets good ∙ ap telegram_arrival os) ∙ ap (λ b. if b then None else Some (next_station v)) (ne_eqb (next_station v) v.address ne) ∙ ap (λ n. Some n) next
    by (HasAgain os same ph rot) = made log' has' (subst TakesPart (sym ph) tt) order
        (Holding (ap may_initiate ph) (inr (refl, let e = at_here in let long : length octets ≡ 3 = ap length os in omega (arith, e, long)))
        (subst (λ z. Spends p z (log'.previous a) s') (sym at_here) (subst (λ z. Spends p to z s') (sym before_here) (fresh_spends p base v s' to (r.log.previous a) (r.log.at a) (basics (turned w k t s' (Some octets)) k t' f' (set_here w.taps k t t' at.here) at.running) (record { phase = ph; rotation = rot }) old))))
      where
        to : ℕ
        to = w.now + bits 3

        alone : next_address a members ≡ a
        alone = sym next ∙ same ∙ view_address w base members u k t at

        log' : Log
        log' = received_by r.log (next_address a members) to

        at_here : log'.at a ≡ to
        at_here = ap log'.at (sym alone) ∙ at_it r.log (next_address a members) to

        before_here : log'.previous a ≡ r.log.at a
        before_here = ap log'.previous (sym alone) ∙ before_it r.log (next_address a members) to ∙ ap r.log.at alone

        old : times base v.rotation.last ≡ Some (r.log.previous a, r.log.at a)
        old = r.has k t at.here at.running part

        order : InOrder p members a log'
        order = subst (λ n. InOrder p members n log') alone
            (order_goes_on p members a r.log to (record { ascends = u.ring.ascends; member = member.member; in_order = in_order; later = let from = u.ring.from in omega (arith, recent, from); in_time = omega (arith, in_time) }))

        has' : HasLog p base (slice_set w.taps k t') log'
        has' = at_set (λ j y. y.running ≡ true → TakesPart (view p y).phase → times base (view p y).rotation.last ≡ Some (log'.previous y.spec.address, log'.at y.spec.address)) w.taps k t'
            (λ run _. ap (λ (z : Rotation). times base z.last) rot ∙ times_received base v.rotation to (r.log.previous a) (r.log.at a) (let from = u.ring.from in omega (arith, from)) old ∙ ap (λ m. Some (m, to)) (sym before_here) ∙ ap (λ m. Some (log'.previous a, m)) (sym at_here))
            (λ j y ne here run part'. let other : y.spec.address ≡ next_address a members → ⊥ = λ e. ne (one_address w.taps k j t y u.invariant.keeps.inv.distinct at.here here at.running run (sym alone ∙ sym e)) in
            r.has j y here run part' ∙ ap (λ m. Some (m, r.log.at y.spec.address)) (sym (before_other r.log (next_address a members) to y.spec.address other))
            ∙ ap (λ m. Some (log'.previous y.spec.address, m)) (sym (at_other r.log (next_address a members) to y.spec.address other)))
    by (Requests f os bit armed question ts) = made r.log (has_same ts) holds.0 in_order (Holding holds.1 (inl recent) spends)
      where
        holds : TakesPart s'.phase × (may_initiate s'.phase ≡ true)
        holds = ⊎_elim (λ (z : IsArmed s'.phase v.busy). armed_part s'.phase v.busy z)
            (λ (z : (asked : Bool) × (ready : ℕ) × (s'.phase ≡ Use asked ready) × (is_answered_by (asked_by (f.fc % 16)) ≡ false)). (subst TakesPart (sym z.2) tt, ap may_initiate z.2)) armed

        spends : Spends p (r.log.at a) (r.log.previous a) s'
        spends =
            let stays = u.invariant.settled.stays k t at.here in
            let take = u.invariant.keeps.fits.take in
            let says_ = speech-spends p (r.log.at a) (r.log.previous a) x w.now (omega (arith, take)) late (left-settled p t.station t.marks w.now stays.opened) (spends-after_timer p (r.log.at a) (r.log.previous a) (w.now + 1) v h.spends) in
            let long = (subst (λ z. IfSome z (λ octets. (0 < length octets) × (length octets ≤ 255))) says.says (fits-turn_of p t.station t.marks w.now stays.sayable)).1 in
            (says_ (subst (IsSaidBy (r.log.at a) (r.log.previous a) w.now) (sym says.says)
            (omega (arith, long), λ token. absurd (let wrong : false ≡ true = sym (frame_no_token f) ∙ ap is_token (sym os) ∙ token in cc)))).0

-- A tap after its turn: what it knows then.
use Rattle.std.proofs.Common.{◌≡◌, ℕ, ◌+◌, ◌<◌, ◌≤◌, inl, inr, ⊎_elim, Bool, true, false, List, [], length, refl, sym, ap, ◌∙◌, subst, arith, Option, Some, None}
use Rattle.std.specs.Prelude.{max}
use Rattle.pb_timers.specs.Timers.{Params, bits}
use Rattle.law_turn.specs.Spans.{Span}
use Rattle.law_turn.specs.Phases.{Phase, Offline, PassiveIdle, Listening, Idle, Claim, Use, AwaitData, AwaitStatus, Pass, Checking}
use Rattle.law_turn.specs.Stations.{Station, Reply, due_of}
use Rattle.law_turn.specs.Laws.{IsDueLater}
use Rattle.law_turn.specs.Turns.{turn_of}
use Rattle.law_turn.proofs.Moments.{later-turn_of}
use Rattle.law_turn.proofs.Addresses.{turn-address}
use Rattle.law_turn.proofs.Busy.{silent-turn_of}
use Rattle.law_model.specs.Trace.{Record, Entry, Sent, with_entry}
use Rattle.law_model.specs.Medium.{Tap}
use Rattle.law_runs.specs.Initiators.{is_initiator}
use Rattle.law_token.specs.Places.{LeavesTime, Place}
use Rattle.law_token.specs.Tokens.{Held, Taken}
use Rattle.law_token.specs.Views.{ViewOf, Knows, KnowsIn, Grip, view, place, TapHolds, IsOn}
use Rattle.law_token.proofs.pass.Taps.{knows_on, knows_in, rewrite_state}
use Rattle.law_token.proofs.bus.Live.{live_on, initiates_live}
use Rattle.law_token.proofs.turn.Initiator.{Says, span_of, knows_said, later_in_time, tap_said, checking_live}
use Rattle.law_token.proofs.turn.Said.{Stands}
use Rattle.law_token.proofs.turn.Actions.{IsWaiting, MayClaim, Grounds, ByToken, BySlot, BySilence, Replied}

pub waiting_on : (ph : Phase) → IsWaiting ph → IsOn ph
waiting_on PassiveIdle w = tt
waiting_on (Listening doubled) w = tt
waiting_on (Idle refused) w = tt
waiting_on Offline w = absurd w
waiting_on (Claim sent ready) w = absurd w
waiting_on (Use asked ready) w = absurd w
waiting_on (AwaitData asked retry slot) w = absurd w
waiting_on (AwaitStatus of slot) w = absurd w
waiting_on (Pass tries ready) w = absurd w
waiting_on (Checking tries) w = absurd w

pub claiming_on : (ph : Phase) → MayClaim ph → IsOn ph
claiming_on PassiveIdle w = absurd w
claiming_on (Listening doubled) w = tt
claiming_on (Idle refused) w = tt
claiming_on Offline w = absurd w
claiming_on (Claim sent ready) w = absurd w
claiming_on (Use asked ready) w = absurd w
claiming_on (AwaitData asked retry slot) w = absurd w
claiming_on (AwaitStatus of slot) w = absurd w
claiming_on (Pass tries ready) w = absurd w
claiming_on (Checking tries) w = absurd w

pub grounds_on : (c : Place) (a quiet : ℕ) (own : Span) (ph : Phase) (octets : List ℕ) → Grounds c a quiet own ph octets → IsOn ph
grounds_on c a quiet own ph octets (ByToken may) = live_on ph (initiates_live ph may)
grounds_on c a quiet own ph octets (BySlot is still over) = live_on ph (checking_live ph is)
grounds_on c a quiet own ph octets (BySilence may over said) = claiming_on ph may

-- ---- one that rests

grip_view : (c : Place) (trace : List Entry) (last : Option Record) (ph : Phase) (busy : Bool) (quiet : ℕ) (own : Span) (reply : Option Reply) → ViewOf c trace last ph busy quiet own reply → Grip c last ph own
grip_view c trace last Offline busy quiet own reply v = tt
grip_view c trace last PassiveIdle busy quiet own reply v = tt
grip_view c trace last (Listening doubled) busy quiet own reply v = tt
grip_view c trace last (Idle refused) busy quiet own reply v = tt
grip_view c trace last (Claim sent ready) busy quiet own reply v = v.3
grip_view c trace last (Use asked ready) busy quiet own reply v =
    ⊎_elim (λ (h : Held last c.tap own). inl h) (λ (h : Taken c.p.ttd last c.tap c.address quiet × (ready ≡ quiet + c.p.tid1)). inr (quiet, h.0, h.1)) v.4
grip_view c trace last (AwaitData asked retry slot) busy quiet own reply v = v.1
grip_view c trace last (AwaitStatus of slot) busy quiet own reply v = v.1
grip_view c trace last (Pass tries ready) busy quiet own reply v = absurd v
grip_view c trace last (Checking tries) busy quiet own reply v = tt

pub tap_rests : (p : Params) (now : ℕ) (trace : List Entry) (last : Option Record) (k : ℕ) (t : Tap) → turn_of p t.station t.marks now ≡ (view p t, None) → TapHolds p now trace last k t
    → TapHolds p now trace last k (record t { station = (turn_of p t.station t.marks now).0; marks = [] })
tap_rests p now trace last k t e o =
    let v = view p t in
    let same : (turn_of p t.station t.marks now).0 ≡ v = ap (λ (z : Station × Option (List ℕ)). z.0) e in
    subst (λ z. TapHolds p now trace last k (record t { station = z; marks = [] })) (sym same) (record {
      began = o.began;
      address = ap (λ (z : Station). z.address) (sym same) ∙ turn-address p t.station t.marks now ∙ o.address;
      in_time = later_in_time now p.lag (due_of p v []) (subst (λ z. IsDueLater p z now) same (later-turn_of p t.station t.marks now));
      seen = λ on q over. tt;
      knows = o.knows;
      view_ok = o.view_ok;
      grip = grip_view (place p now k t) trace last v.phase v.busy v.quiet v.own v.reply o.view_ok;
      silent = o.silent;
    })

-- ---- one that speaks

-- a telegram that begins now at a tap, by its view
pub record Begins (p : Params) (now : ℕ) (k : ℕ) (t : Tap) (octets : List ℕ) (x : Record) : Type 0 where
  pub mine : x.tap ≡ k
  pub begin : x.begin ≡ now
  pub end : x.end ≡ now + bits (length octets)
  pub some : x.begin < x.end
  pub still : (view p t).busy ≡ false
  pub past : (view p t).quiet ≤ now
  pub on : IsOn (view p t).phase

pub says_of : (p : Params) (now : ℕ) (trace : List Entry) (last : Option Record) (k : ℕ) (t : Tap) (octets : List ℕ) (x : Record) → Begins p now k t octets x → TapHolds p now trace last k t
    → Says (place p now k t) trace x (view p t).quiet (view p t).own
says_of p now trace last k t octets x b o =
    let v = view p t in
    record {
      mine = b.mine;
      new = b.begin;
      some = b.some;
      past = b.past;
      knows = subst (λ z. Knows (place p now k t) trace z v.quiet v.own) b.still (knows_on (place p now k t) trace v.phase v.busy v.quiet v.own b.on o.knows);
    }

latest : (quiet now end : ℕ) → quiet ≤ now → now < end → max quiet end ≡ end
latest quiet now end a b = omega (arith, a, b)

pub tap_initiates : (p : Params) (now : ℕ) (trace : List Entry) (last : Option Record) (k : ℕ) (t : Tap) (octets : List ℕ) (x : Record) → LeavesTime p → Begins p now k t octets x → TapHolds p now trace last k t → is_initiator x ≡ true
    → Stands (place p now k t) x (view p t).address (view p t).busy (view p t).quiet (turn_of p t.station t.marks now).0
    → TapHolds p now (with_entry (Sent x) trace) (Some x) k (record t { station = (turn_of p t.station t.marks now).0; marks = [] })
tap_initiates p now trace last k t octets x fits b o init h =
    let v = view p t in
    tap_said p now trace x k t v.quiet v.own (turn_of p t.station t.marks now).0 fits o.began (says_of p now trace last k t octets x b o) init
    (h.busy_is ∙ b.still) (h.quiet_is ∙ latest v.quiet now x.end b.past (let z = b.some in let y = b.begin in omega (arith, z, y))) h.own_is h.phase_is (turn-address p t.station t.marks now ∙ o.address) (later-turn_of p t.station t.marks now)
    (silent-turn_of p v [] now v.busy refl o.silent)

-- ---- one that replies

view_replied : (c : Place) (trace : List Entry) (last : Option Record) (ph : Phase) (quiet : ℕ) (own : Span) → IsWaiting ph → ViewOf c trace last ph false quiet own None
view_replied c trace last PassiveIdle quiet own w = tt
view_replied c trace last (Listening doubled) quiet own w = tt
view_replied c trace last (Idle refused) quiet own w = tt
view_replied c trace last Offline quiet own w = absurd w
view_replied c trace last (Claim sent ready) quiet own w = absurd w
view_replied c trace last (Use asked ready) quiet own w = absurd w
view_replied c trace last (AwaitData asked retry slot) quiet own w = absurd w
view_replied c trace last (AwaitStatus of slot) quiet own w = absurd w
view_replied c trace last (Pass tries ready) quiet own w = absurd w
view_replied c trace last (Checking tries) quiet own w = absurd w

pub tap_replied : (p : Params) (now : ℕ) (trace : List Entry) (last : Option Record) (k : ℕ) (t : Tap) (octets : List ℕ) (x : Record) → LeavesTime p → Begins p now k t octets x → TapHolds p now trace last k t
    → Replied (place p now k t) (view p t).quiet octets (view p t) (turn_of p t.station t.marks now).0
    → TapHolds p now (with_entry (Sent x) trace) last k (record t { station = (turn_of p t.station t.marks now).0; marks = [] })
tap_replied p now trace last k t octets x fits b o h =
    let v = view p t in
    let c = place p now k t in
    let s' = (turn_of p t.station t.marks now).0 in
    let trace' = with_entry (Sent x) trace in
    let quiet : s'.quiet ≡ x.end = h.quiet_is ∙ ap (λ n. max v.quiet n) (sym b.end) ∙ latest v.quiet now x.end b.past (let z = b.some in let y = b.begin in omega (arith, z, y)) in
    let own : s'.own ≡ span_of x = h.own_is ∙ ap (λ m. record { begin = m; end = now + bits (length octets) }) (sym b.begin) ∙ ap (λ m. record { begin = x.begin; end = m }) (sym b.end) in
    record {
      began = o.began;
      address = turn-address p t.station t.marks now ∙ o.address;
      in_time = later_in_time now p.lag (due_of p s' []) (later-turn_of p t.station t.marks now);
      seen = λ on q over. tt;
      knows = rewrite_state (λ z q w. KnowsIn c trace' s'.phase z q w) false s'.busy x.end s'.quiet (span_of x) s'.own h.busy_is quiet own
          (knows_in c trace' s'.phase false x.end (span_of x) (knows_said c trace x v.quiet v.own (says_of p now trace last k t octets x b o)));
      view_ok = subst (λ r. ViewOf c trace' last s'.phase s'.busy s'.quiet s'.own r) (sym h.reply_is) (subst (λ z. ViewOf c trace' last s'.phase z s'.quiet s'.own None) (sym h.busy_is) (view_replied c trace' last s'.phase s'.quiet s'.own h.phase_is));
      grip = grip_waiting c last s'.phase s'.own h.phase_is;
      silent = silent-turn_of p v [] now v.busy refl o.silent;
    }
  where
    grip_waiting : (c : Place) (last : Option Record) (ph : Phase) (own : Span) → IsWaiting ph → Grip c last ph own
    grip_waiting c last PassiveIdle own w = tt
    grip_waiting c last (Listening doubled) own w = tt
    grip_waiting c last (Idle refused) own w = tt
    grip_waiting c last Offline own w = absurd w
    grip_waiting c last (Claim sent ready) own w = absurd w
    grip_waiting c last (Use asked ready) own w = absurd w
    grip_waiting c last (AwaitData asked retry slot) own w = absurd w
    grip_waiting c last (AwaitStatus of slot) own w = absurd w
    grip_waiting c last (Pass tries ready) own w = absurd w
    grip_waiting c last (Checking tries) own w = absurd w

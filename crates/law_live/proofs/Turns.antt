-- A turn: what it says leaves time for what follows.
use Rattle.std.proofs.Common.{◌≡◌, ℕ, ◌+◌, ◌<◌, ◌≤◌, inl, inr, ⊎_elim, Bool, true, false, if◌then◌else◌, ◌&&◌, ◌||◌, List, [], length, map, refl, sym, ap, ◌∙◌, subst, arith, Option, Some, None}
use Rattle.std.specs.Prelude.{slice_get, slice_set, slice_index, IfSome}
use Rattle.pb_telegram.specs.Faults.{fault_of, is_token, has_control}
use Rattle.pb_telegram.specs.declared.chars.RxChar.TheVariants.{Good}
use Rattle.pb_timers.specs.Timers.{Params, bits}
use Rattle.pb_cycles.specs.Messages.{has_bit}
use Rattle.law_turn.specs.Arrivals.{Token, Framed, Acknowledgement, fields_of, telegram_arrival}
use Rattle.law_turn.specs.Laws.{HasReply, HasCycles, HasOpenRequest, are_initiator}
use Rattle.law_turn.specs.Phases.{Phase, Offline, PassiveIdle, Listening, Idle, Claim, Use, AwaitData, AwaitStatus, Pass, Checking, may_initiate}
use Rattle.law_turn.specs.Stations.{Station, Reply, phase_speaks, reply_moment}
use Rattle.law_turn.specs.Turns.{settled, turn_of}
use Rattle.law_turn.proofs.Initiating.{holder-turn_of, fits-turn_of}
use Rattle.law_turn.proofs.Retrying.{left-settled}
use Rattle.law_model.specs.Trace.{Record, Entry, Sent, with_entry}
use Rattle.law_model.specs.Medium.{Tap}
use Rattle.law_model.specs.Step.{sending, with_said}
use Rattle.law_model.specs.World.{World}
use Rattle.law_runs.specs.Initiators.{initiates, is_initiator}
use Rattle.law_token.specs.Lists.{Each}
use Rattle.law_token.specs.Places.{LeavesTime}
use Rattle.law_token.specs.Views.{TapHolds, view, place}
use Rattle.law_token.proofs.bus.Lists.{each_with, each_without, at_set}
use Rattle.law_token.proofs.bus.Live.{InTime}
use Rattle.law_token.proofs.turn.Meaning.{means, arrival_spelled}
use Rattle.law_token.proofs.turn.Said.{Meant}
use Rattle.law_token.proofs.turn.Actions.{IsWaiting, Acts, Rests, Replies, Initiates, Asks, acts}
use Rattle.law_live.specs.NeverDead.{longest, attempt, is_token_telegram, is_token_record}
use Rattle.law_live.specs.Holding.{limit, Spends, IsSaidBy, LeavesTail, PhaseSays}
use Rattle.law_live.proofs.HoldersRead.{spends-after_timer}
use Rattle.law_live.proofs.HoldersSpeak.{speech-spends}
use Rattle.law_live.specs.Flow.{IsCalmBy, OwnTokensBy, IsCalmFor, EndsBy, IsShort, RepliesBy, RequestsBy, FlowTap, Flow}
use Rattle.law_live.proofs.InTime.{SpeaksInTime, in_time-view, in_time-after_timer}
use Rattle.law_live.proofs.DueReplies.{DueBy, due-after_timer, due-speech}
use Rattle.law_live.proofs.ChangedEntries.{calm_own}

-- ---- what octets mean

-- octets that mean an initiator telegram are those of one
arrival_initiates : (xs : List ℕ) → initiates (telegram_arrival xs) ≡ are_initiator xs
arrival_initiates xs = by (is_token xs) (has_control xs)
  where
    by : (a b : Bool) → initiates (if a then Token (slice_index xs 1) (slice_index xs 2) else if b then Framed (fields_of xs) else Acknowledgement) ≡ (a || (b && has_bit (fields_of xs).fc 6))
    by true b = refl
    by false true = refl
    by false false = refl

-- octets that mean a token are those of one
arrival_passes : (xs : List ℕ) → is_token_telegram (telegram_arrival xs) ≡ is_token xs
arrival_passes xs = by (is_token xs) (has_control xs)
  where
    by : (a b : Bool) → is_token_telegram (if a then Token (slice_index xs 1) (slice_index xs 2) else if b then Framed (fields_of xs) else Acknowledgement) ≡ a
    by true b = refl
    by false true = refl
    by false false = refl

-- a record of octets without a fault is one of an initiator telegram if they are
init_is : (x : Record) → fault_of (map Good x.octets) ≡ None → is_initiator x ≡ are_initiator x.octets
init_is x good = ap initiates (arrival_spelled x.octets good) ∙ arrival_initiates x.octets

-- and one of a token
pass_is : (x : Record) → fault_of (map Good x.octets) ≡ None → is_token_record x ≡ is_token x.octets
pass_is x good = ap is_token_telegram (arrival_spelled x.octets good) ∙ arrival_passes x.octets

-- ---- the world after a telegram

-- what is needed of what was said
pub record IsTimely (w : World) (k : ℕ) (octets : List ℕ) : Type 0 where
  pub short : bits (length octets) ≤ longest
  pub reply : (z : ℕ) → Each (EndsBy z) w.trace → is_initiator (sending k octets w.now w.taps) ≡ false → w.now ≤ z + w.params.ttd + w.params.tsdr + w.params.lag
  pub request : (q : ℕ) → Each (IsCalmBy q) w.trace → is_initiator (sending k octets w.now w.taps) ≡ true → is_token_record (sending k octets w.now w.taps) ≡ false
      → w.now + attempt w.params ≤ limit w.params (q + w.params.ttd) (q + w.params.ttd) true

-- with an entry more, that and the others are over by a moment
calm_with : (now k q : ℕ) (x : Entry) (trace : List Entry) → IsCalmFor now k q (with_entry x trace) → OwnTokensBy k q x × IsCalmFor now k q trace
calm_with now k q x trace calm =
    ⊎_elim
    (λ (all : Each (IsCalmBy q) (with_entry x trace)). let both = each_without (IsCalmBy q) x trace all in (calm_own k q x both.0, inl both.1))
    (λ (own : (now ≤ q) × Each (OwnTokensBy k q) (with_entry x trace)). let both = each_without (OwnTokensBy k q) x trace own.1 in (both.0, inr (own.0, both.1)))
    calm

-- a tap that hears of a new entry keeps within its time
pub tap_kept : (p : Params) (now : ℕ) (trace : List Entry) (x : Entry) (k : ℕ) (t : Tap) → FlowTap p now trace k t → FlowTap p now (with_entry x trace) k t
tap_kept p now trace x k t f = record {
  spends = λ q calm. f.spends q (calm_with now k q x trace calm).1;
  waits = f.waits;
  prompt = λ z ends. f.prompt z (each_without (EndsBy z) x trace ends).1;
}

-- a world after a turn that says something timely, or nothing
pub flow_said : (w : World) (k : ℕ) (t : Tap) (s' : Station) (said : Option (List ℕ)) → slice_get w.taps k ≡ Some t → Flow w → IfSome said (IsTimely w k)
    → ((q : ℕ) → IsCalmFor w.now k q (with_said k said w.now w.taps w.trace) → Spends w.params (q + w.params.ttd) (q + w.params.ttd) s') → DueBy (w.now + w.params.tsdr) s'
    → ((z : ℕ) → Each (EndsBy z) w.trace → DueBy (z + w.params.ttd + w.params.tsdr) s')
    → Flow (record w { trace = with_said k said w.now w.taps w.trace; taps = slice_set w.taps k (record t { station = s'; marks = [] }) })
flow_said w k t s' None here f told spends waits prompt = record {
  reply_in_time = f.reply_in_time;
  short = f.short;
  replies = f.replies;
  requests = f.requests;
  taps = at_set (λ j u. u.running ≡ true → FlowTap w.params w.now w.trace j u) w.taps k (record t { station = s'; marks = [] })
      (λ run. record { spends = spends; waits = waits; prompt = prompt }) (λ j u ne at run. f.taps j u at run);
}
flow_said w k t s' (Some octets) here f told spends waits prompt =
    let x = sending k octets w.now w.taps in
    let p = w.params in
    record {
      reply_in_time = f.reply_in_time;
      short = each_with IsShort (Sent x) w.trace (let h = told.short in omega (arith, h)) f.short;
      replies = λ z ends. let old = (each_without (EndsBy z) (Sent x) w.trace ends).1 in
          each_with (RepliesBy (z + p.ttd + p.tsdr + p.lag)) (Sent x) w.trace (λ none. told.reply z old none) (f.replies z old);
      requests = λ q calm. let old = (each_without (IsCalmBy q) (Sent x) w.trace calm).1 in
          each_with (RequestsBy (attempt p) (limit p (q + p.ttd) (q + p.ttd) true)) (Sent x) w.trace (λ init none. told.request q old init none) (f.requests q old);
      taps = at_set (λ j u. u.running ≡ true → FlowTap p w.now (with_entry (Sent x) w.trace) j u) w.taps k (record t { station = s'; marks = [] })
          (λ run. record { spends = spends; waits = waits; prompt = λ z ends. prompt z (each_without (EndsBy z) (Sent x) w.trace ends).1 })
          (λ j u ne at run. tap_kept p w.now w.trace (Sent x) j u (f.taps j u at run));
    }

-- ---- the turn

-- one that waits speaks when its reply is due
waiting-speaks : (ph : Phase) (o : Option Reply) → IsWaiting ph → phase_speaks o ph ≡ reply_moment o
waiting-speaks PassiveIdle o w = refl
waiting-speaks (Listening doubled) o w = refl
waiting-speaks (Idle refused) o w = refl
waiting-speaks Offline o w = absurd w
waiting-speaks (Claim sent ready) o w = absurd w
waiting-speaks (Use asked ready) o w = absurd w
waiting-speaks (AwaitData asked retry slot) o w = absurd w
waiting-speaks (AwaitStatus of slot) o w = absurd w
waiting-speaks (Pass tries ready) o w = absurd w
waiting-speaks (Checking tries) o w = absurd w

-- what is short, and a request that leaves time
pub record LeavesTimely (w : World) (k : ℕ) (t : Tap) (octets : List ℕ) : Type 0 where
  pub short : bits (length octets) ≤ longest
  pub request : (q : ℕ) → Each (IsCalmBy q) w.trace → is_initiator (sending k octets w.now w.taps) ≡ true → is_token_record (sending k octets w.now w.taps) ≡ false
      → w.now + attempt w.params ≤ limit w.params (q + w.params.ttd) (q + w.params.ttd) true

-- what is some is one thing
same_some : {X : Type 0} (a b : X) → Some a ≡ Some b → a ≡ b
same_some {X} a b e = cc

-- what a turn says, by its view
turn_timely : (w : World) (k : ℕ) (t : Tap) (last : Option Record) (said : Option (List ℕ)) → (turn_of w.params t.station t.marks w.now).1 ≡ said → LeavesTime w.params → TapHolds w.params w.now w.trace last k t → FlowTap w.params w.now w.trace k t
    → HasReply t.station × HasCycles t.station → HasOpenRequest t.station → Acts (place w.params w.now k t) (view w.params t) (turn_of w.params t.station t.marks w.now)
    → IfSome said (λ octets. fault_of (map Good octets) ≡ None) → IfSome said (λ octets. LeavesTimely w k t octets) → IfSome said (IsTimely w k)
turn_timely w k t last None e fits o f has open_ a good left = tt
turn_timely w k t last (Some octets) e fits o f has open_ a good left = record {
  short = left.short;
  reply = λ z ends none. replied a z ends none;
  request = left.request;
}
  where
    v : Station
    v = view w.params t

    x : Record
    x = sending k octets w.now w.taps

    late : SpeaksInTime w.params w.now v
    late = in_time-view w.params w.now w.trace last k t t.marks o

    reply_due : (r : Reply) (z : ℕ) → v.reply ≡ Some r → IsWaiting v.phase → DueBy (z + w.params.ttd + w.params.tsdr) v → w.now ≤ z + w.params.ttd + w.params.tsdr + w.params.lag
    reply_due r z is waits due =
        let a : r.ready ≤ z + w.params.ttd + w.params.tsdr = subst (λ q. IfSome q (λ (b : Reply). b.ready ≤ z + w.params.ttd + w.params.tsdr)) is due in
        let b : w.now ≤ r.ready + w.params.lag = subst (InTime w.now w.params.lag) (waiting-speaks v.phase v.reply waits ∙ ap reply_moment is) late.1 in
        omega (arith, a, b)

    replied : Acts (place w.params w.now k t) v (turn_of w.params t.station t.marks w.now) → (z : ℕ) → Each (EndsBy z) w.trace → is_initiator x ≡ false → w.now ≤ z + w.params.ttd + w.params.tsdr + w.params.lag
    replied (Rests same) z ends none = absurd (let n : None ≡ Some octets = sym (ap (λ (y : Station × Option (List ℕ)). y.1) same) ∙ e in cc)
    replied (Replies r is says free past waits after) z ends none = reply_due r z is waits (f.prompt z ends)
    replied (Initiates (os, says, u) free past grounds) z ends none =
        let same : os ≡ octets = same_some os octets (sym says ∙ e) in
        let m = means v.address u.offered x (subst (λ y. Meant v.address y u.offered) same u.meant) good in
        absurd (let n : true ≡ false = sym m.init ∙ none in cc)

-- what a turn leaves of its station's time
turn_spends : (w : World) (k : ℕ) (t : Tap) (last : Option Record) (q : ℕ) → LeavesTime w.params → TapHolds w.params w.now w.trace last k t → FlowTap w.params w.now w.trace k t → HasOpenRequest t.station → IsCalmFor w.now k q w.trace
    → PhaseSays w.params (q + w.params.ttd) (q + w.params.ttd) w.now (settled w.params t.station t.marks w.now).phase (turn_of w.params t.station t.marks w.now)
turn_spends w k t last q fits o f open_ calm =
    let p = w.params in
    let v = view p t in
    let x = settled p t.station t.marks w.now in
    speech-spends p (q + p.ttd) (q + p.ttd) x w.now (let h = fits.take in omega (arith, h)) (in_time-after_timer p w.now (w.now + 1) v (in_time-view p w.now w.trace last k t t.marks o))
    (left-settled p t.station t.marks w.now open_) (spends-after_timer p (q + p.ttd) (q + p.ttd) (w.now + 1) v (f.spends q calm))

-- what is said, by the moments of tokens
said_by : (k : ℕ) (w : World) (q : ℕ) (octets : List ℕ) → bits (length octets) ≤ longest → fault_of (map Good octets) ≡ None → OwnTokensBy k q (Sent (sending k octets w.now w.taps)) → IsSaidBy (q + w.params.ttd) (q + w.params.ttd) w.now (Some octets)
said_by k w q octets short good calm =
    let x = sending k octets w.now w.taps in
    (short, λ token. let h = calm refl (pass_is x good ∙ token) in omega (arith, h))

-- so a turn keeps it
pub turn_flow : (w : World) (k : ℕ) (t : Tap) (last : Option Record) → slice_get w.taps k ≡ Some t → t.running ≡ true → LeavesTime w.params → TapHolds w.params w.now w.trace last k t → HasReply t.station × HasCycles t.station → HasOpenRequest t.station
    → Asks (view w.params t).cycles.initiator.pending → HasOpenRequest (view w.params t)
    → IfSome (turn_of w.params t.station t.marks w.now).1 (λ octets. fault_of (map Good octets) ≡ None) → Flow w
    → let turn = turn_of w.params t.station t.marks w.now in Flow (record w { trace = with_said k turn.1 w.now w.taps w.trace; taps = slice_set w.taps k (record t { station = turn.0; marks = [] }) })
turn_flow w k t last here run fits o has open_ asks opened good f =
    flow_said w k t turn.0 turn.1 here f (turn_timely w k t last turn.1 refl fits o g has open_ (acts (place p w.now k t) w.trace last v fits opened asks o.view_ok) good (left turn.1 refl good fit))
    (λ q calm. spends q turn.1 refl good fit calm)
    (due-speech p (w.now + p.tsdr) x w.now (due-after_timer p (w.now + p.tsdr) (w.now + 1) v g.waits))
    (λ z ends. due-speech p (z + p.ttd + p.tsdr) x w.now (due-after_timer p (z + p.ttd + p.tsdr) (w.now + 1) v (g.prompt z ends)))
  where
    p : Params
    p = w.params

    v : Station
    v = view p t

    x : Station
    x = settled p t.station t.marks w.now

    turn : Station × Option (List ℕ)
    turn = turn_of p t.station t.marks w.now

    g : FlowTap p w.now w.trace k t
    g = f.taps k t here run

    fit : IfSome turn.1 (λ octets. (0 < length octets) × (length octets ≤ 255))
    fit = fits-turn_of p t.station t.marks w.now has

    spends : (q : ℕ) (said : Option (List ℕ)) → turn.1 ≡ said → IfSome said (λ octets. fault_of (map Good octets) ≡ None) → IfSome said (λ octets. (0 < length octets) × (length octets ≤ 255)) → IsCalmFor w.now k q (with_said k said w.now w.taps w.trace)
        → Spends p (q + p.ttd) (q + p.ttd) turn.0
    spends q None e good fit calm = (turn_spends w k t last q fits o g open_ calm (subst (IsSaidBy (q + p.ttd) (q + p.ttd) w.now) (sym e) tt)).0
    spends q (Some octets) e good fit calm =
        let both = calm_with w.now k q (Sent (sending k octets w.now w.taps)) w.trace calm in
        let n = fit.1 in
        (turn_spends w k t last q fits o g open_ both.1 (subst (IsSaidBy (q + p.ttd) (q + p.ttd) w.now) (sym e) (said_by k w q octets (omega (arith, n)) good both.0))).0

    left : (said : Option (List ℕ)) → turn.1 ≡ said → IfSome said (λ octets. fault_of (map Good octets) ≡ None) → IfSome said (λ octets. (0 < length octets) × (length octets ≤ 255)) → IfSome said (λ octets. LeavesTimely w k t octets)
    left None e good fit = tt
    left (Some octets) e good fit =
        let y = sending k octets w.now w.taps in
        let n = fit.1 in
        record {
          short = omega (arith, n);
          request = λ q calm init none.
              let holds : may_initiate x.phase ≡ true = subst (λ s. IfSome s (λ octets. are_initiator octets ≡ true → may_initiate x.phase ≡ true)) e (holder-turn_of p t.station t.marks w.now has) (sym (init_is y good) ∙ init) in
              let token : is_token octets ≡ false = sym (pass_is y good) ∙ none in
              let says = turn_spends w k t last q fits o g open_ (inl calm) (subst (IsSaidBy (q + p.ttd) (q + p.ttd) w.now) (sym e) (omega (arith, n), λ is. absurd (let c : true ≡ false = sym is ∙ token in cc))) in
              subst (LeavesTail p (q + p.ttd) (q + p.ttd) w.now) e (says.1 holds) token;
        }

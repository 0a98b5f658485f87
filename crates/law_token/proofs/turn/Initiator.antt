-- A tap speaks as an initiator.
use Rattle.std.proofs.Common.{◌≡◌, ℕ, ◌+◌, ◌<◌, ◌≤◌, inl, inr, ⊎_elim, Bool, true, false, if◌then◌else◌, ◌||◌, ◌&&◌, List, [], length, refl, sym, ap, ◌∙◌, subst, arith, Option, Some, None}
use Rattle.std.specs.Prelude.{slice_get, IfSome, max, min, nat_lt, ◌==◌}
use Rattle.std.specs.Option.{option_and_then}
use Rattle.std.proofs.lemmas.Bool.{ltb-false, eq-eqb}
use Rattle.pb_timers.specs.Timers.{Params, bits}
use Rattle.law_turn.specs.Spans.{Span}
use Rattle.law_turn.specs.Phases.{Phase, Offline, PassiveIdle, Listening, Idle, Claim, Use, AwaitData, AwaitStatus, Pass, Checking, may_initiate}
use Rattle.law_turn.specs.Stations.{Station, Reply, due_of}
use Rattle.law_turn.specs.Turns.{saying, token_sent, received_own}
use Rattle.law_turn.specs.Hearing.{tries_limit}
use Rattle.law_turn.specs.Laws.{IsDueLater, IsSilentWhileBusy}
use Rattle.law_model.specs.Trace.{Record, Entry, Sent, Noise, with_entry}
use Rattle.law_model.specs.Medium.{Tap, part_after, is_unheard, reaches, sends_during, overlaps}
use Rattle.law_model.proofs.Cases.{by_test}
use Rattle.law_runs.specs.Initiators.{is_initiator, offered_to}
use Rattle.law_runs.specs.Premises.{Waited}
use Rattle.law_token.specs.Lists.{Each}
use Rattle.law_token.specs.Places.{LeavesTime, heard_span, IsOver, Place, Over, InitEnds, IsSplit, Spares, IsOwn}
use Rattle.law_token.specs.Tokens.{Held, Doomed}
use Rattle.law_token.specs.Views.{IsRecent, Armed, ViewOf, Knows, KnowsIn, Grip, view, place, TapHolds}
use Rattle.law_token.proofs.bus.Lists.{each_with, each_without, each_map}
use Rattle.law_token.proofs.bus.Pairs.{HasOrigin, Speaks, none_holds, is_doomed, hears_other}
use Rattle.law_token.proofs.bus.Hearers.{any_old, IsChecking, yields, new_sent}
use Rattle.law_token.proofs.bus.Live.{IsLive, lives, holding, holding_view, initiates_live}
use Rattle.law_token.proofs.pass.Taps.{knows_in, rewrite_state}

-- ---- the other taps

false_unless : (b : Bool) → (b ≡ true → ⊥) → b ≡ false
false_unless true f = absurd (f refl)
false_unless false f = refl

pub checking_live : (ph : Phase) → IsChecking ph → IsLive ph
checking_live (Checking tries) c = tt
checking_live Offline c = absurd c
checking_live PassiveIdle c = absurd c
checking_live (Listening doubled) c = absurd c
checking_live (Idle refused) c = absurd c
checking_live (Claim sent ready) c = absurd c
checking_live (Use asked ready) c = absurd c
checking_live (AwaitData asked retry slot) c = absurd c
checking_live (AwaitStatus of slot) c = absurd c
checking_live (Pass tries ready) c = absurd c

-- what begins now at another tap dooms one that checks
dooms : (c : Place) (trace : List Entry) (x : Record) (own : Span) → (x.tap ≡ c.tap → ⊥) → is_unheard (slice_get x.heard c.tap) ≡ false → c.since ≤ c.now → x.begin ≡ c.now → x.begin < x.end
    → c.now + c.p.ttd < own.end + c.p.tsl → Doomed c (with_entry (Sent x) trace) own
dooms c trace x own ne reached began new some soon all =
    let spares = (each_without (λ e. Spares c.now (own.end + c.p.tsl) (heard_span c.p.ttd c.tap c.since e)) (Sent x) trace all).0 in
    let s = subst (λ (h : Option Span). Spares c.now (own.end + c.p.tsl) (option_and_then (part_after c.since) h)) (hears_other c.p.ttd c.tap x ne reached) spares in
    by_test (λ (o : Option Span). Spares c.now (own.end + c.p.tsl) o → ⊥) (nat_lt c.since (x.end + c.p.ttd)) (Some (record { begin = max (x.begin + c.p.ttd) c.since; end = x.end + c.p.ttd })) None
    (λ _ h. ⊎_elim (λ (a : max (x.begin + c.p.ttd) c.since < c.now). omega (arith, new)) (λ (b : own.end + c.p.tsl ≤ max (x.begin + c.p.ttd) c.since). omega (arith, new, began, soon)) h)
    (λ over. absurd (omega (arith, ltb-false c.since (x.end + c.p.ttd) over, new, began, some))) s

pub yields_to : (p : Params) (now k a s : ℕ) (trace : List Entry) (waited : List Waited) (x : Record) (last last' : Option Record) (m : ℕ) (t : Tap) → LeavesTime p → Each (HasOrigin p now trace waited) trace
    → (m ≡ k → ⊥) → (a ≡ t.spec.address → ⊥) → Speaks (record { p = p; now = now; tap = k; address = a; since = s }) trace waited last
    → x.begin ≡ now → x.begin < x.end → (x.tap ≡ m → ⊥) → is_unheard (slice_get x.heard m) ≡ false
    → TapHolds p now trace last m t → TapHolds p now (with_entry (Sent x) trace) last' m t
yields_to p now k a s trace waited x last last' m t fits origins ne da sp new some other reached o =
    let c = place p now m t in
    let v = view p t in
    yields p now trace (Sent x) last last' m t (new_sent c x (omega (arith, new))) (λ own mine. absurd (other mine))
    (false_unless (may_initiate t.station.phase) (λ h.
    none_holds p now k a s m t.spec.address t.since trace waited last fits origins ne da sp (lives p now trace last m t t.marks fits o (inr (initiates_live t.station.phase h))) (holding p now trace last m t o h)))
    (record {
      none = false_unless (may_initiate v.phase) (λ h. none_holds p now k a s m t.spec.address t.since trace waited last fits origins ne da sp (lives p now trace last m t t.marks fits o (inl (initiates_live v.phase h))) (holding_view p now trace last m t t.marks o h));
      checks = λ is offers. dooms c trace x v.own other reached o.began new some
          (is_doomed p now k a s m t.spec.address t.since trace waited last v.own fits origins ne sp (lives p now trace last m t t.marks fits o (inl (checking_live v.phase is))) offers);
    })
    o

-- ---- the tap that speaks

-- what a tap hears of its own telegram
own_span : (P : Option Span → Type 0) (delay tap since : ℕ) (x : Record) → x.tap ≡ tap → P None → P (heard_span delay tap since (Sent x))
own_span P delay tap since x mine none =
    by_test (λ (o : Option Span). P (option_and_then (part_after since) o)) (x.tap == tap || is_unheard (slice_get x.heard tap)) None (Some (reaches delay x))
    (λ _. none) (λ h. absurd (neither (x.tap == tap) (is_unheard (slice_get x.heard tap)) (eq-eqb x.tap tap mine) h))
  where
    neither : (a b : Bool) → a ≡ true → (a || b) ≡ false → ⊥
    neither true b e h = cc
    neither false b e h = cc

over_own : (c : Place) (trace : List Entry) (x : Record) (q : ℕ) → x.tap ≡ c.tap → Over c trace q → Over c (with_entry (Sent x) trace) q
over_own c trace x q mine over =
    each_with (λ e. IsOver c.now q (heard_span c.p.ttd c.tap c.since e)) (Sent x) trace (own_span (IsOver c.now q) c.p.ttd c.tap c.since x mine tt) over

later_one : (now q u : ℕ) (o : Option Span) → q ≤ u → IsOver now q o → IsOver now u o
later_one now q u None le h = tt
later_one now q u (Some s) le h = ⊎_elim (λ (a : now ≤ s.begin). inl a) (λ (b : s.end ≤ q). inr (omega arith)) h

pub over_later : (c : Place) (trace : List Entry) (q u : ℕ) → q ≤ u → Over c trace q → Over c trace u
over_later c trace q u le over =
    each_map (λ e. IsOver c.now q (heard_span c.p.ttd c.tap c.since e)) (λ e. IsOver c.now u (heard_span c.p.ttd c.tap c.since e)) trace
    (λ e h. later_one c.now q u (heard_span c.p.ttd c.tap c.since e) le h) over

split_one : (now q : ℕ) (o : Option Span) → q ≤ now → IsOver now q o → IsSplit now o
split_one now q None le h = tt
split_one now q (Some s) le h = ⊎_elim (λ (a : now ≤ s.begin). inl a) (λ (b : s.end ≤ q). inr (omega arith)) h

own_before : (tap now : ℕ) (own : Span) (own' : Span) → own.end ≤ now → own.begin ≤ own.end → own'.begin ≡ now → (e : Entry) → IsOwn tap own e → IsOwn tap own' e
own_before tap now own own' le order new (Noise span) h = tt
own_before tap now own own' le order new (Sent r) h =
    λ mine. inr (⊎_elim (λ (a : (r.begin ≡ own.begin) × (r.end ≡ own.end)). omega (arith, a.1, new)) (λ (b : r.end ≤ own.begin). omega (arith, new)) (h mine))

-- a telegram that a tap begins now, where it knows that all is quiet
pub record Says (c : Place) (trace : List Entry) (x : Record) (quiet : ℕ) (own : Span) : Type 0 where
  pub mine : x.tap ≡ c.tap
  pub new : x.begin ≡ c.now
  pub some : x.begin < x.end
  pub past : quiet ≤ c.now
  pub knows : Knows c trace false quiet own

abbrev pub span_of : Record → Span
span_of x = record { begin = x.begin; end = x.end }

pub knows_said : (c : Place) (trace : List Entry) (x : Record) (quiet : ℕ) (own : Span) → Says c trace x quiet own → Knows c (with_entry (Sent x) trace) false x.end (span_of x)
knows_said c trace x quiet own s =
    let k = s.knows in
    record {
      senses = (
        over_own c trace x x.end s.mine (over_later c trace quiet x.end (omega (arith, s.past, s.new, s.some)) k.senses.0),
        over_own c trace x c.now s.mine (over_later c trace quiet c.now s.past k.senses.0),
      );
      started = omega (arith, k.started, k.order, k.ended, s.past, s.new);
      begun = omega (arith, s.new);
      order = omega (arith, s.some);
      ended = omega arith;
      quiet_by = inr refl;
      split = subst (λ n. Each (λ e. IsSplit n (heard_span c.p.ttd c.tap c.since e)) (with_entry (Sent x) trace)) (sym s.new)
          (each_with (λ e. IsSplit c.now (heard_span c.p.ttd c.tap c.since e)) (Sent x) trace (own_span (IsSplit c.now) c.p.ttd c.tap c.since x s.mine tt)
          (each_map (λ e. IsOver c.now quiet (heard_span c.p.ttd c.tap c.since e)) (λ e. IsSplit c.now (heard_span c.p.ttd c.tap c.since e)) trace
          (λ e h. split_one c.now quiet (heard_span c.p.ttd c.tap c.since e) s.past h) k.senses.0));
      owns = each_with (IsOwn c.tap (span_of x)) (Sent x) trace (λ _. inl (refl, refl))
          (each_map (IsOwn c.tap own) (IsOwn c.tap (span_of x)) trace (own_before c.tap c.now own (span_of x) (omega (arith, k.ended, s.past)) k.order s.new) k.owns);
      sent = λ some span none. mine span (any_old (sends_during c.tap span) (Sent x) trace none).0;
    }
  where
    mine : (span : Span) → (x.tap == c.tap && overlaps (span_of x) span) ≡ false → overlaps (span_of x) span ≡ false
    mine span h = sym (ap (λ b. b && overlaps (span_of x) span) (eq-eqb x.tap c.tap s.mine)) ∙ h

recent_said : (c : Place) (trace : List Entry) (x : Record) (quiet : ℕ) (own : Span) → Says c trace x quiet own → is_initiator x ≡ true → IsRecent c (with_entry (Sent x) trace) x.end
recent_said c trace x quiet own s init q over inits = (each_without (InitEnds c.tap q) (Sent x) trace inits).0 s.mine init

armed_said : (c : Place) (trace : List Entry) (x : Record) (quiet : ℕ) (own : Span) → Says c trace x quiet own → Armed c (with_entry (Sent x) trace) x.end (span_of x)
armed_said c trace x quiet own s = record { still = refl; clean = over_own c trace x x.begin s.mine (over_later c trace quiet x.begin (omega (arith, s.past, s.new)) s.knows.senses.0) }

held_said : (c : Place) (x : Record) → x.tap ≡ c.tap → offered_to x ≡ None → Held (Some x) c.tap (span_of x)
held_said c x mine none = record { r = x; is = refl; by = mine; begin = refl; end = refl; no_offer = none }

-- the phase of one that has said an initiator telegram
pub data SaidPhase (c : Place) (x : Record) : Phase → Type 0 where
  SaidClaim : {sent : ℕ} → offered_to x ≡ None → SaidPhase c x (Claim sent (x.end + c.p.tid1))
  SaidOwn : {asked : Bool} → offered_to x ≡ None → SaidPhase c x (Use asked (x.end + c.p.tid1))
  SaidLast : {asked : Bool} → offered_to x ≡ None → SaidPhase c x (Use asked (x.end + c.p.tid2))
  SaidData : {asked : Bool} → offered_to x ≡ None → SaidPhase c x (AwaitData asked None true)
  SaidStatus : {of : ℕ} → offered_to x ≡ None → SaidPhase c x (AwaitStatus of true)
  SaidToken : {tries : ℕ} → (to : ℕ) → offered_to x ≡ Some to → SaidPhase c x (Checking tries)

pub view_said : (c : Place) (trace : List Entry) (x : Record) (quiet : ℕ) (own : Span) (reply : Option Reply) (ph : Phase) → LeavesTime c.p → Says c trace x quiet own → is_initiator x ≡ true
    → SaidPhase c x ph → ViewOf c (with_entry (Sent x) trace) (Some x) ph false x.end (span_of x) reply
view_said c trace x quiet own reply ph fits s init (SaidClaim none) = (refl, refl, refl, held_said c x s.mine none, recent_said c trace x quiet own s init)
view_said c trace x quiet own reply ph fits s init (SaidOwn none) =
    (refl, omega (arith, fits.idle), omega (arith, fits.idle_order), recent_said c trace x quiet own s init, inl (held_said c x s.mine none))
view_said c trace x quiet own reply ph fits s init (SaidLast none) =
    (refl, omega (arith, fits.idle, fits.idle_order), omega arith, recent_said c trace x quiet own s init, inl (held_said c x s.mine none))
view_said c trace x quiet own reply ph fits s init (SaidData none) = ((refl, armed_said c trace x quiet own s), held_said c x s.mine none, recent_said c trace x quiet own s init)
view_said c trace x quiet own reply ph fits s init (SaidStatus none) = ((refl, armed_said c trace x quiet own s), held_said c x s.mine none, recent_said c trace x quiet own s init)
view_said c trace x quiet own reply ph fits s init (SaidToken to offers) =
    (refl, armed_said c trace x quiet own s, recent_said c trace x quiet own s init, inl (record { r = x; to = to; is = refl; by = s.mine; begin = refl; end = refl; offers = offers }))

grip_said : (c : Place) (x : Record) (ph : Phase) → x.tap ≡ c.tap → SaidPhase c x ph → Grip c (Some x) ph (span_of x)
grip_said c x ph mine (SaidClaim none) = held_said c x mine none
grip_said c x ph mine (SaidOwn none) = inl (held_said c x mine none)
grip_said c x ph mine (SaidLast none) = inl (held_said c x mine none)
grip_said c x ph mine (SaidData none) = held_said c x mine none
grip_said c x ph mine (SaidStatus none) = held_said c x mine none
grip_said c x ph mine (SaidToken to offers) = tt

pub later_in_time : (now lag : ℕ) (o : Option ℕ) → IfSome o (λ d. now < d) → IfSome o (λ d. now ≤ d + lag)
later_in_time now lag None h = tt
later_in_time now lag (Some d) h = omega (arith, h)

-- the tap that has said an initiator telegram
pub tap_said : (p : Params) (now : ℕ) (trace : List Entry) (x : Record) (k : ℕ) (t : Tap) (quiet : ℕ) (own : Span) (s' : Station) → LeavesTime p → t.since ≤ now → Says (place p now k t) trace x quiet own → is_initiator x ≡ true
    → s'.busy ≡ false → s'.quiet ≡ x.end → s'.own ≡ span_of x → SaidPhase (place p now k t) x s'.phase → s'.address ≡ t.spec.address → IsDueLater p s' now → IsSilentWhileBusy s'
    → TapHolds p now (with_entry (Sent x) trace) (Some x) k (record t { station = s'; marks = [] })
tap_said p now trace x k t quiet own s' fits began says init eb eq eo ph address due silent =
    let c = place p now k t in
    let trace' = with_entry (Sent x) trace in
    record {
      began = began;
      address = address;
      in_time = later_in_time now p.lag (due_of p s' []) due;
      seen = λ on q over. tt;
      knows = rewrite_state (λ b q o. KnowsIn c trace' s'.phase b q o) false s'.busy x.end s'.quiet (span_of x) s'.own eb eq eo
          (knows_in c trace' s'.phase false x.end (span_of x) (knows_said c trace x quiet own says));
      view_ok = rewrite_state (λ b q o. ViewOf c trace' (Some x) s'.phase b q o s'.reply) false s'.busy x.end s'.quiet (span_of x) s'.own eb eq eo
          (view_said c trace x quiet own s'.reply s'.phase fits says init ph);
      grip = subst (λ o. Grip c (Some x) s'.phase o) (sym eo) (grip_said c x s'.phase says.mine ph);
      silent = silent;
    }

-- what a station is once it has said octets, and in which phase
pub record HasSaid (c : Place) (x : Record) (s s' : Station) : Type 0 where
  pub busy : s'.busy ≡ s.busy
  pub quiet : s'.quiet ≡ max s.quiet x.end
  pub own : s'.own ≡ span_of x
  pub phase : SaidPhase c x s'.phase
  pub address : s'.address ≡ s.address

-- a token is said
pub said_token : (c : Place) (x : Record) (s : Station) (tries ns : ℕ) (octets : List ℕ) → x.begin ≡ c.now → x.end ≡ c.now + bits (length octets)
    → offered_to x ≡ (if ns == s.address then None else Some ns) → HasSaid c x s (token_sent c.p (saying s c.now octets) tries ns)
said_token c x s tries ns octets begin end offers =
    by_choice (ns == s.address) refl
  where
    same : record { begin = c.now; end = c.now + bits (length octets) } ≡ span_of x
    same = ap (λ b. record { begin = b; end = c.now + bits (length octets) }) (sym begin) ∙ ap (λ e. record { begin = x.begin; end = e }) (sym end)

    by_choice : (b : Bool) → (ns == s.address) ≡ b → HasSaid c x s (if b then received_own c.p (saying s c.now octets) else record (saying s c.now octets) { phase = Checking (min tries_limit (tries + 1)) })
    by_choice true e = record {
      busy = refl;
      quiet = ap (λ n. max s.quiet n) (sym end);
      own = same;
      phase = subst (λ n. SaidPhase c x (Use false (n + c.p.tid1))) end (SaidOwn (offers ∙ ap (λ b. if b then None else Some ns) e));
      address = refl;
    }
    by_choice false e = record {
      busy = refl;
      quiet = ap (λ n. max s.quiet n) (sym end);
      own = same;
      phase = SaidToken ns (offers ∙ ap (λ b. if b then None else Some ns) e);
      address = refl;
    }

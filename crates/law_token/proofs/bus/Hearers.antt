-- What a new telegram leaves of what the other taps know.
use Rattle.std.proofs.Common.{◌≡◌, ℕ, ◌+◌, ◌≤◌, ◌⊎◌, inl, inr, ⊎_elim, Bool, true, false, ◌||◌, List, [], ◌∷◌, refl, sym, ap, ◌∙◌, subst, arith, Option, Some, None}
use Rattle.std.specs.Prelude.{slice_get, max, nat_lt, ◌==◌}
use Rattle.std.specs.List.{list_any}
use Rattle.std.specs.Option.{option_and_then}
use Rattle.pb_timers.specs.Timers.{Params}
use Rattle.law_turn.specs.Spans.{Span}
use Rattle.law_turn.specs.Phases.{Phase, Offline, PassiveIdle, Listening, Idle, Claim, Use, AwaitData, AwaitStatus, Pass, Checking, may_initiate}
use Rattle.law_turn.specs.Stations.{Reply}
use Rattle.law_model.specs.Trace.{Record, Entry, Sent, Noise, goes_before, with_entry}
use Rattle.law_model.specs.Medium.{Tap, part_after, is_unheard, reaches, sends_during}
use Rattle.law_model.proofs.Cases.{by_test}
use Rattle.law_token.specs.Places.{heard_span, IsOver, Place, Over, InitEnds, InitsBy, IsSplit, Spares, IsOwn}
use Rattle.law_token.specs.Tokens.{Offers, Doomed}
use Rattle.law_token.specs.Views.{Waits, IsRecent, Armed, Awaits, ViewOf, Senses, Knows, KnowsIn, Grip, view, place, TapHolds}
use Rattle.law_token.proofs.bus.Lists.{each_with, each_without}

-- what begins now is heard now at the earliest
pub new_span : (P : Option Span → Type 0) (delay tap since : ℕ) (x : Record) → P None → ((m : ℕ) → x.begin ≤ m → (e : ℕ) → P (Some (record { begin = m; end = e }))) → P (heard_span delay tap since (Sent x))
new_span P delay tap since x none some =
    by_test (λ (o : Option Span). P (option_and_then (part_after since) o)) (x.tap == tap || is_unheard (slice_get x.heard tap)) None (Some (reaches delay x))
    (λ _. none)
    (λ _. by_test P (nat_lt since (x.end + delay)) (Some (record { begin = max (x.begin + delay) since; end = x.end + delay })) None
    (λ _. some (max (x.begin + delay) since) (omega arith) (x.end + delay)) (λ _. none))

-- an entry that the tap hears now at the earliest, if at all
abbrev pub IsNew : ℕ → Option Span → Type 0
IsNew now None = Unit {0}
IsNew now (Some x) = now ≤ x.begin

abbrev pub NewAt : Place → Entry → Type 0
NewAt c x = IsNew c.now (heard_span c.p.ttd c.tap c.since x)

pub new_sent : (c : Place) (x : Record) → c.now ≤ x.begin → NewAt c (Sent x)
new_sent c x new = new_span (IsNew c.now) c.p.ttd c.tap c.since x tt (λ m le e. omega arith)

pub new_noise : (c : Place) (span : Span) → c.now ≤ span.begin → NewAt c (Noise span)
new_noise c span new = by_test (IsNew c.now) (nat_lt c.since span.end) (Some (record { begin = max span.begin c.since; end = span.end })) None (λ _. omega arith) (λ _. tt)

pub new_over : (now q : ℕ) (o : Option Span) → IsNew now o → IsOver now q o
new_over now q None n = tt
new_over now q (Some x) n = inl n

pub new_split : (now m : ℕ) (o : Option Span) → m ≤ now → IsNew now o → IsSplit m o
new_split now m None le n = tt
new_split now m (Some x) le n = inl (omega (arith, n))

pub over_new : (c : Place) (trace : List Entry) (x : Entry) (q : ℕ) → NewAt c x → Over c trace q → Over c (with_entry x trace) q
over_new c trace x q new over =
    each_with (λ e. IsOver c.now q (heard_span c.p.ttd c.tap c.since e)) x trace
    (new_over c.now q (heard_span c.p.ttd c.tap c.since x) new) over

pub over_old : (c : Place) (trace : List Entry) (x : Entry) (q : ℕ) → Over c (with_entry x trace) q → Over c trace q
over_old c trace x q over = (each_without (λ e. IsOver c.now q (heard_span c.p.ttd c.tap c.since e)) x trace over).1

pub inits_old : (tap q : ℕ) (trace : List Entry) (x : Entry) → InitsBy tap q (with_entry x trace) → InitsBy tap q trace
inits_old tap q trace x over = (each_without (InitEnds tap q) x trace over).1

pub recent_new : (c : Place) (trace : List Entry) (x : Entry) (quiet : ℕ) → IsRecent c trace quiet → IsRecent c (with_entry x trace) quiet
recent_new c trace x quiet r q over inits = r q (⊎_elim (λ (o : Over c (with_entry x trace) q). inl (over_old c trace x q o)) (λ (n : c.now ≤ q). inr n) over) (inits_old c.tap q trace x inits)

armed_new : (c : Place) (trace : List Entry) (x : Entry) (quiet : ℕ) (own : Span) → NewAt c x → Armed c trace quiet own → Armed c (with_entry x trace) quiet own
armed_new c trace x quiet own new a = record { still = a.still; clean = over_new c trace x own.begin new a.clean }

doomed_new : (c : Place) (trace : List Entry) (x : Entry) (own : Span) → Doomed c trace own → Doomed c (with_entry x trace) own
doomed_new c trace x own d all = d (each_without (λ e. Spares c.now (own.end + c.p.tsl) (heard_span c.p.ttd c.tap c.since e)) x trace all).1

awaits_new : (c : Place) (trace : List Entry) (x : Entry) (busy : Bool) (quiet : ℕ) (own : Span) (retry : Option ℕ) (slot : Bool) → NewAt c x
    → Awaits c trace busy quiet own retry slot → Awaits c (with_entry x trace) busy quiet own retry slot
awaits_new c trace x true quiet own retry slot new a = a
awaits_new c trace x false quiet own None slot new a = (a.0, armed_new c trace x quiet own new a.1)
awaits_new c trace x false quiet own (Some m) slot new a = a

checks_new : (c : Place) (trace : List Entry) (x : Entry) (last last' : Option Record) (own : Span) → (last' ≡ last) ⊎ ((Offers last c.tap own → Doomed c (with_entry x trace) own))
    → Offers last c.tap own ⊎ Doomed c trace own → Offers last' c.tap own ⊎ Doomed c (with_entry x trace) own
checks_new c trace x last last' own g h =
    ⊎_elim (λ (o : Offers last c.tap own).
    ⊎_elim (λ (e : last' ≡ last). inl (subst (λ l. Offers l c.tap own) (sym e) o)) (λ (d : Offers last c.tap own → Doomed c (with_entry x trace) own). inr (d o)) g)
    (λ (d : Doomed c trace own). inr (doomed_new c trace x own d)) h

abbrev pub IsChecking : Phase → Type 0
IsChecking (Checking tries) = Unit {0}
IsChecking _ = ⊥

-- a tap that has no part in the token, and what ends its check
pub record Yields (c : Place) (trace : List Entry) (x : Entry) (last : Option Record) (ph : Phase) (quiet : ℕ) (own : Span) : Type 0 where
  pub none : may_initiate ph ≡ false
  pub checks : IsChecking ph → Offers last c.tap own → Doomed c (with_entry x trace) own

view_stays : (c : Place) (trace : List Entry) (x : Entry) (last : Option Record) (ph : Phase) (busy : Bool) (quiet : ℕ) (own : Span) (reply : Option Reply) → NewAt c x
    → ViewOf c trace last ph busy quiet own reply → ViewOf c (with_entry x trace) last ph busy quiet own reply
view_stays c trace x last Offline busy quiet own reply new v = tt
view_stays c trace x last PassiveIdle busy quiet own reply new v = waits busy v
  where
    waits : (busy : Bool) → Waits c busy quiet reply → Waits c busy quiet reply
    waits b v = v
view_stays c trace x last (Listening doubled) busy quiet own reply new v = v
view_stays c trace x last (Idle refused) busy quiet own reply new v = v
view_stays c trace x last (Claim sent ready) busy quiet own reply new v = (v.0, v.1, v.2, v.3, recent_new c trace x quiet v.4)
view_stays c trace x last (Use asked ready) busy quiet own reply new v = (v.0, v.1, v.2, recent_new c trace x quiet v.3, v.4)
view_stays c trace x last (AwaitData asked retry slot) busy quiet own reply new v = (awaits_new c trace x busy quiet own retry slot new v.0, v.1, recent_new c trace x quiet v.2)
view_stays c trace x last (AwaitStatus of slot) busy quiet own reply new v = (awaits_new c trace x busy quiet own None slot new v.0, v.1, recent_new c trace x quiet v.2)
view_stays c trace x last (Pass tries ready) busy quiet own reply new v = v
view_stays c trace x last (Checking tries) busy quiet own reply new v = (v.0, armed_new c trace x quiet own new v.1, recent_new c trace x quiet v.2, checks_new c trace x last last own (inl refl) v.3)

view_yields : (c : Place) (trace : List Entry) (x : Entry) (last last' : Option Record) (ph : Phase) (busy : Bool) (quiet : ℕ) (own : Span) (reply : Option Reply) → NewAt c x
    → Yields c trace x last ph quiet own → ViewOf c trace last ph busy quiet own reply → ViewOf c (with_entry x trace) last' ph busy quiet own reply
view_yields c trace x last last' Offline busy quiet own reply new y v = tt
view_yields c trace x last last' PassiveIdle busy quiet own reply new y v = v
view_yields c trace x last last' (Listening doubled) busy quiet own reply new y v = v
view_yields c trace x last last' (Idle refused) busy quiet own reply new y v = v
view_yields c trace x last last' (Checking tries) busy quiet own reply new y v = (v.0, armed_new c trace x quiet own new v.1, recent_new c trace x quiet v.2, checks_new c trace x last last' own (inr (y.checks tt)) v.3)
view_yields c trace x last last' (Claim sent ready) busy quiet own reply new y v = absurd (let e = y.none in cc)
view_yields c trace x last last' (Use asked ready) busy quiet own reply new y v = absurd (let e = y.none in cc)
view_yields c trace x last last' (AwaitData asked retry slot) busy quiet own reply new y v = absurd (let e = y.none in cc)
view_yields c trace x last last' (AwaitStatus of slot) busy quiet own reply new y v = absurd (let e = y.none in cc)
view_yields c trace x last last' (Pass tries ready) busy quiet own reply new y v = v

senses_new : (c : Place) (trace : List Entry) (x : Entry) (busy : Bool) (quiet : ℕ) → NewAt c x → Senses c trace busy quiet → Senses c (with_entry x trace) busy quiet
senses_new c trace x true quiet new s = λ q over. s q (over_old c trace x q over)
senses_new c trace x false quiet new s = (over_new c trace x quiet new s.0, over_new c trace x c.now new s.1)

-- a test that no entry passes
pub any_old : (test : Entry → Bool) (e : Entry) (es : List Entry) → list_any test (with_entry e es) ≡ false → (test e ≡ false) × (list_any test es ≡ false)
any_old test e [] h = (first (test e) h, refl)
  where
    first : (b : Bool) → (b || false) ≡ false → b ≡ false
    first true h = h
    first false h = refl
any_old test e (x ∷ xs) h =
    by_test (λ (ys : List Entry). list_any test ys ≡ false → (test e ≡ false) × (list_any test (x ∷ xs) ≡ false)) (goes_before e x) (e ∷ x ∷ xs) (x ∷ with_entry e xs)
    (λ _ a. split (test e) (list_any test (x ∷ xs)) a)
    (λ _ a. let b = split (test x) (list_any test (with_entry e xs)) a in let d = any_old test e xs b.1 in (d.0, join (test x) (list_any test xs) b.0 d.1)) h
  where
    split : (a b : Bool) → (a || b) ≡ false → (a ≡ false) × (b ≡ false)
    split true b h = absurd cc
    split false b h = (refl, h)

    join : (a b : Bool) → a ≡ false → b ≡ false → (a || b) ≡ false
    join a b e f = ap (λ (z : Bool). z || b) e ∙ f

knows_new : (c : Place) (trace : List Entry) (x : Entry) (busy : Bool) (quiet : ℕ) (own : Span) → NewAt c x → IsOwn c.tap own x → Knows c trace busy quiet own → Knows c (with_entry x trace) busy quiet own
knows_new c trace x busy quiet own new ne k = record {
  senses = senses_new c trace x busy quiet new k.senses;
  started = k.started;
  begun = k.begun;
  order = k.order;
  ended = k.ended;
  quiet_by = k.quiet_by;
  split = each_with (λ e. IsSplit own.begin (heard_span c.p.ttd c.tap c.since e)) x trace (new_split c.now own.begin (heard_span c.p.ttd c.tap c.since x) k.begun new) k.split;
  owns = each_with (IsOwn c.tap own) x trace ne k.owns;
  sent = λ some span none. k.sent some span (any_old (sends_during c.tap span) x trace none).1;
}

knows_in_new : (c : Place) (trace : List Entry) (x : Entry) (ph : Phase) (busy : Bool) (quiet : ℕ) (own : Span) → NewAt c x → IsOwn c.tap own x → KnowsIn c trace ph busy quiet own → KnowsIn c (with_entry x trace) ph busy quiet own
knows_in_new c trace x Offline busy quiet own new ne k = tt
knows_in_new c trace x PassiveIdle busy quiet own new ne k = knows_new c trace x busy quiet own new ne k
knows_in_new c trace x (Listening doubled) busy quiet own new ne k = knows_new c trace x busy quiet own new ne k
knows_in_new c trace x (Idle refused) busy quiet own new ne k = knows_new c trace x busy quiet own new ne k
knows_in_new c trace x (Claim sent ready) busy quiet own new ne k = knows_new c trace x busy quiet own new ne k
knows_in_new c trace x (Use asked ready) busy quiet own new ne k = knows_new c trace x busy quiet own new ne k
knows_in_new c trace x (AwaitData asked retry slot) busy quiet own new ne k = knows_new c trace x busy quiet own new ne k
knows_in_new c trace x (AwaitStatus of slot) busy quiet own new ne k = knows_new c trace x busy quiet own new ne k
knows_in_new c trace x (Pass tries ready) busy quiet own new ne k = knows_new c trace x busy quiet own new ne k
knows_in_new c trace x (Checking tries) busy quiet own new ne k = knows_new c trace x busy quiet own new ne k

-- another tap where a reply begins
pub stays : (p : Params) (now : ℕ) (trace : List Entry) (x : Entry) (last : Option Record) (k : ℕ) (t : Tap) → NewAt (place p now k t) x → ((own : Span) → IsOwn k own x)
    → TapHolds p now trace last k t → TapHolds p now (with_entry x trace) last k t
stays p now trace x last k t new ne o =
    let c = place p now k t in
    let v = view p t in
    record {
      began = o.began;
      address = o.address;
      in_time = o.in_time;
      seen = λ on q over. o.seen on q (⊎_elim (λ (h : Over c (with_entry x trace) q). inl (over_old c trace x q h)) (λ (n : now ≤ q). inr n) over);
      knows = knows_in_new c trace x v.phase v.busy v.quiet v.own new (ne v.own) o.knows;
      view_ok = view_stays c trace x last v.phase v.busy v.quiet v.own v.reply new o.view_ok;
      grip = o.grip;
      silent = o.silent;
    }

grip_none : (c : Place) (last last' : Option Record) (ph : Phase) (own : Span) → may_initiate ph ≡ false → Grip c last ph own → Grip c last' ph own
grip_none c last last' Offline own e g = tt
grip_none c last last' PassiveIdle own e g = tt
grip_none c last last' (Listening doubled) own e g = tt
grip_none c last last' (Idle refused) own e g = tt
grip_none c last last' (Checking tries) own e g = tt
grip_none c last last' (Claim sent ready) own e g = absurd cc
grip_none c last last' (Use asked ready) own e g = absurd cc
grip_none c last last' (AwaitData asked retry slot) own e g = absurd cc
grip_none c last last' (AwaitStatus of slot) own e g = absurd cc
grip_none c last last' (Pass tries ready) own e g = absurd cc

-- another tap where an initiator record begins
pub yields : (p : Params) (now : ℕ) (trace : List Entry) (x : Entry) (last last' : Option Record) (k : ℕ) (t : Tap) → NewAt (place p now k t) x → ((own : Span) → IsOwn k own x)
    → may_initiate t.station.phase ≡ false → Yields (place p now k t) trace x last (view p t).phase (view p t).quiet (view p t).own
    → TapHolds p now trace last k t → TapHolds p now (with_entry x trace) last' k t
yields p now trace x last last' k t new ne idle y o =
    let c = place p now k t in
    let v = view p t in
    record {
      began = o.began;
      address = o.address;
      in_time = o.in_time;
      seen = λ on q over. o.seen on q (⊎_elim (λ (h : Over c (with_entry x trace) q). inl (over_old c trace x q h)) (λ (n : now ≤ q). inr n) over);
      knows = knows_in_new c trace x v.phase v.busy v.quiet v.own new (ne v.own) o.knows;
      view_ok = view_yields c trace x last last' v.phase v.busy v.quiet v.own v.reply new y o.view_ok;
      grip = grip_none c last last' t.station.phase t.station.own idle o.grip;
      silent = o.silent;
    }

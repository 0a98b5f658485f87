-- What a tap knows is the same by traces that differ in what is in the air.
use Rattle.std.proofs.Common.{◌≡◌, ℕ, ◌+◌, ◌<◌, ◌≤◌, ◌⊎◌, inl, inr, ⊎_elim, Bool, true, false, ◌||◌, List, [], ◌∷◌, refl, ap, ◌∙◌, arith, Option, Some, None}
use Rattle.std.specs.List.{list_any}
use Rattle.std.proofs.lemmas.Bool.{cases_lt}
use Rattle.pb_timers.specs.Timers.{Params}
use Rattle.law_turn.specs.Spans.{Span}
use Rattle.law_turn.specs.Phases.{Phase, Offline, PassiveIdle, Listening, Idle, Claim, Use, AwaitData, AwaitStatus, Pass, Checking}
use Rattle.law_turn.specs.Stations.{Reply}
use Rattle.law_model.specs.Trace.{Record, Entry}
use Rattle.law_model.specs.Medium.{Tap, sends_during}
use Rattle.law_token.specs.Places.{heard_span, IsOver, Place, Over, InitEnds, IsSplit, Spares, IsOwn}
use Rattle.law_token.specs.Tokens.{Offers, Doomed}
use Rattle.law_token.specs.Views.{IsRecent, Armed, Awaits, ViewOf, Senses, Knows, KnowsIn, view, place, TapHolds}
use Rattle.law_token.proofs.bus.Lists.{each_map}
use Rattle.law_token.proofs.pass.Alike.{SameLast, alike_self, tap_alike}
use Rattle.law_token.proofs.air.Near.{Near, AllNear, each_near, each_back, SpanNear, NearTo, near_to}

-- ---- one entry

is_over_near : (now q : ℕ) (o u : Option Span) → q ≤ now → SpanNear now o u → IsOver now q o → IsOver now q u
is_over_near now q None None le s h = tt
is_over_near now q None (Some y) le s h = absurd s
is_over_near now q (Some x) None le s h = absurd s
is_over_near now q (Some x) (Some y) le s h =
    ⊎_elim (λ (a : now ≤ x.begin). inl (omega (arith, s.0)))
    (λ (a : x.end ≤ q). inr (⊎_elim (λ (e : x.end ≡ y.end). omega (arith, e)) (λ (l : (now < x.end) × (now < y.end)). absurd (omega (arith, l.0, le, a))) s.1)) h

is_over_back : (now q : ℕ) (o u : Option Span) → q ≤ now → SpanNear now o u → IsOver now q u → IsOver now q o
is_over_back now q None None le s h = tt
is_over_back now q None (Some y) le s h = absurd s
is_over_back now q (Some x) None le s h = absurd s
is_over_back now q (Some x) (Some y) le s h =
    ⊎_elim (λ (a : now ≤ y.begin). inl (omega (arith, s.0)))
    (λ (a : y.end ≤ q). inr (⊎_elim (λ (e : x.end ≡ y.end). omega (arith, e)) (λ (l : (now < x.end) × (now < y.end)). absurd (omega (arith, l.1, le, a))) s.1)) h

is_over_later : (now m q : ℕ) (o : Option Span) → m ≤ q → IsOver now m o → IsOver now q o
is_over_later now m q None le h = tt
is_over_later now m q (Some x) le h = ⊎_elim (λ (a : now ≤ x.begin). inl a) (λ (a : x.end ≤ m). inr (omega (arith, le, a))) h

split_near : (now m : ℕ) (o u : Option Span) → m ≤ now → SpanNear now o u → IsSplit m o → IsSplit m u
split_near now m None None le s h = tt
split_near now m None (Some y) le s h = absurd s
split_near now m (Some x) None le s h = absurd s
split_near now m (Some x) (Some y) le s h =
    ⊎_elim (λ (a : m ≤ x.begin). inl (omega (arith, s.0)))
    (λ (a : x.end ≤ m). inr (⊎_elim (λ (e : x.end ≡ y.end). omega (arith, e)) (λ (l : (now < x.end) × (now < y.end)). absurd (omega (arith, l.0, le, a))) s.1)) h

spares_near : (now limit : ℕ) (o u : Option Span) → SpanNear now o u → Spares now limit u → Spares now limit o
spares_near now limit None None s h = tt
spares_near now limit None (Some y) s h = absurd s
spares_near now limit (Some x) None s h = absurd s
spares_near now limit (Some x) (Some y) s h = ⊎_elim (λ (a : y.begin < now). inl (omega (arith, s.0))) (λ (a : limit ≤ y.begin). inr (omega (arith, s.0))) h

-- ---- all of them

-- the entries of two traces to a tap that runs, and may not itself be cut
pub record Pair (c : Place) (S : ℕ → Type 0) (es xs : List Entry) : Type 0 where
  pub began : c.since ≤ c.now
  pub other : S c.tap → ⊥
  pub near : AllNear c.now S es xs

to : (c : Place) (S : ℕ → Type 0) (es xs : List Entry) → Pair c S es xs → (e x : Entry) → Near c.now S e x → NearTo c.now c.p.ttd c.tap c.since e x
to c S es xs a e x h = near_to c.now c.p.ttd c.tap c.since S e x a.began a.other h

over_near : (c : Place) (S : ℕ → Type 0) (es xs : List Entry) (q : ℕ) → Pair c S es xs → q ≤ c.now → Over c es q → Over c xs q
over_near c S es xs q a le = each_near (λ e. IsOver c.now q (heard_span c.p.ttd c.tap c.since e)) (λ e. IsOver c.now q (heard_span c.p.ttd c.tap c.since e)) c.now S es xs
    (λ e x n h. is_over_near c.now q (heard_span c.p.ttd c.tap c.since e) (heard_span c.p.ttd c.tap c.since x) le (to c S es xs a e x n).span h) a.near

over_back : (c : Place) (S : ℕ → Type 0) (es xs : List Entry) (q : ℕ) → Pair c S es xs → q ≤ c.now → Over c xs q → Over c es q
over_back c S es xs q a le = each_back (λ e. IsOver c.now q (heard_span c.p.ttd c.tap c.since e)) (λ e. IsOver c.now q (heard_span c.p.ttd c.tap c.since e)) c.now S es xs
    (λ e x n h. is_over_back c.now q (heard_span c.p.ttd c.tap c.since e) (heard_span c.p.ttd c.tap c.since x) le (to c S es xs a e x n).span h) a.near

over_later : (c : Place) (es : List Entry) (m q : ℕ) → m ≤ q → Over c es m → Over c es q
over_later c es m q le = each_map (λ e. IsOver c.now m (heard_span c.p.ttd c.tap c.since e)) (λ e. IsOver c.now q (heard_span c.p.ttd c.tap c.since e)) es (λ e h. is_over_later c.now m q (heard_span c.p.ttd c.tap c.since e) le h)

-- over by a moment, or that lies after now
over_or : (c : Place) (S : ℕ → Type 0) (es xs : List Entry) (q : ℕ) → Pair c S es xs → Over c xs q ⊎ (c.now ≤ q) → Over c es q ⊎ (c.now ≤ q)
over_or c S es xs q a h =
    ⊎_elim (λ (l : c.now < q). inr (omega (arith, l))) (λ (le : q ≤ c.now). ⊎_elim (λ (o : Over c xs q). inl (over_back c S es xs q a le o)) (λ (l : c.now ≤ q). inr l) h) (cases_lt c.now q)

recent_near : (c : Place) (S : ℕ → Type 0) (es xs : List Entry) (quiet : ℕ) → Pair c S es xs → IsRecent c es quiet → IsRecent c xs quiet
recent_near c S es xs quiet a r q over inits =
    r q (over_or c S es xs q a over) (each_back (InitEnds c.tap q) (InitEnds c.tap q) c.now S es xs (λ e x n h. (to c S es xs a e x n).init_back q h) a.near inits)

doomed_near : (c : Place) (S : ℕ → Type 0) (es xs : List Entry) (own : Span) → Pair c S es xs → Doomed c es own → Doomed c xs own
doomed_near c S es xs own a d spares =
    d (each_back (λ e. Spares c.now (own.end + c.p.tsl) (heard_span c.p.ttd c.tap c.since e)) (λ e. Spares c.now (own.end + c.p.tsl) (heard_span c.p.ttd c.tap c.since e)) c.now S es xs
    (λ e x n h. spares_near c.now (own.end + c.p.tsl) (heard_span c.p.ttd c.tap c.since e) (heard_span c.p.ttd c.tap c.since x) (to c S es xs a e x n).span h) a.near spares)

senses_near : (c : Place) (S : ℕ → Type 0) (es xs : List Entry) (busy : Bool) (quiet : ℕ) → Pair c S es xs → Senses c es busy quiet → Senses c xs busy quiet
senses_near c S es xs true quiet a s = λ q over. ⊎_elim (λ (l : c.now < q). l) (λ (le : q ≤ c.now). s q (over_back c S es xs q a le over)) (cases_lt c.now q)
senses_near c S es xs false quiet a s =
    let now = over_near c S es xs c.now a (omega arith) s.1 in
    (⊎_elim (λ (l : c.now < quiet). over_later c xs c.now quiet (omega (arith, l)) now) (λ (le : quiet ≤ c.now). over_near c S es xs quiet a le s.0) (cases_lt c.now quiet), now)

any_near : (c : Place) (S : ℕ → Type 0) (span : Span) (es xs : List Entry) → c.since ≤ c.now → (S c.tap → ⊥) → AllNear c.now S es xs → list_any (sends_during c.tap span) es ≡ list_any (sends_during c.tap span) xs
any_near c S span [] [] began other a = refl
any_near c S span [] (x ∷ xs) began other a = absurd a
any_near c S span (e ∷ es) [] began other a = absurd a
any_near c S span (e ∷ es) (x ∷ xs) began other a =
    ap (λ b. b || list_any (sends_during c.tap span) es) ((near_to c.now c.p.ttd c.tap c.since S e x began other a.0).sends span) ∙ ap (λ b. sends_during c.tap span x || b) (any_near c S span es xs began other a.1)

knows_near : (c : Place) (S : ℕ → Type 0) (es xs : List Entry) (busy : Bool) (quiet : ℕ) (own : Span) → Pair c S es xs → Knows c es busy quiet own → Knows c xs busy quiet own
knows_near c S es xs busy quiet own a k = record {
  senses = senses_near c S es xs busy quiet a k.senses;
  started = k.started;
  begun = k.begun;
  order = k.order;
  ended = k.ended;
  quiet_by = k.quiet_by;
  split = each_near (λ e. IsSplit own.begin (heard_span c.p.ttd c.tap c.since e)) (λ e. IsSplit own.begin (heard_span c.p.ttd c.tap c.since e)) c.now S es xs
      (λ e x n h. split_near c.now own.begin (heard_span c.p.ttd c.tap c.since e) (heard_span c.p.ttd c.tap c.since x) k.begun (to c S es xs a e x n).span h) a.near k.split;
  owns = each_near (IsOwn c.tap own) (IsOwn c.tap own) c.now S es xs (λ e x n h. (to c S es xs a e x n).own own h) a.near k.owns;
  sent = λ some span none. k.sent some span (any_near c S span es xs a.began a.other a.near ∙ none);
}

armed_near : (c : Place) (S : ℕ → Type 0) (es xs : List Entry) (quiet : ℕ) (own : Span) → Pair c S es xs → own.begin ≤ c.now → Armed c es quiet own → Armed c xs quiet own
armed_near c S es xs quiet own a begun r = record { still = r.still; clean = over_near c S es xs own.begin a begun r.clean }

awaits_near : (c : Place) (S : ℕ → Type 0) (es xs : List Entry) (busy : Bool) (quiet : ℕ) (own : Span) (retry : Option ℕ) (slot : Bool) → Pair c S es xs → own.begin ≤ c.now → Awaits c es busy quiet own retry slot → Awaits c xs busy quiet own retry slot
awaits_near c S es xs true quiet own retry slot a begun r = r
awaits_near c S es xs false quiet own None slot a begun r = (r.0, armed_near c S es xs quiet own a begun r.1)
awaits_near c S es xs false quiet own (Some m) slot a begun r = r

view_near : (c : Place) (S : ℕ → Type 0) (es xs : List Entry) (last : Option Record) (ph : Phase) (busy : Bool) (quiet : ℕ) (own : Span) (reply : Option Reply) → Pair c S es xs → KnowsIn c es ph busy quiet own
    → ViewOf c es last ph busy quiet own reply → ViewOf c xs last ph busy quiet own reply
view_near c S es xs last Offline busy quiet own reply a k v = tt
view_near c S es xs last PassiveIdle busy quiet own reply a k v = v
view_near c S es xs last (Listening doubled) busy quiet own reply a k v = v
view_near c S es xs last (Idle refused) busy quiet own reply a k v = v
view_near c S es xs last (Claim sent ready) busy quiet own reply a k v = (v.0, v.1, v.2, v.3, recent_near c S es xs quiet a v.4)
view_near c S es xs last (Use asked ready) busy quiet own reply a k v = (v.0, v.1, v.2, recent_near c S es xs quiet a v.3, v.4)
view_near c S es xs last (AwaitData asked retry slot) busy quiet own reply a k v = (awaits_near c S es xs busy quiet own retry slot a k.begun v.0, v.1, recent_near c S es xs quiet a v.2)
view_near c S es xs last (AwaitStatus of slot) busy quiet own reply a k v = (awaits_near c S es xs busy quiet own None slot a k.begun v.0, v.1, recent_near c S es xs quiet a v.2)
view_near c S es xs last (Pass tries ready) busy quiet own reply a k v = v
view_near c S es xs last (Checking tries) busy quiet own reply a k v = (
  v.0,
  armed_near c S es xs quiet own a k.begun v.1,
  recent_near c S es xs quiet a v.2,
  ⊎_elim (λ (o : Offers last c.tap own). inl o) (λ (d : Doomed c es own). inr (doomed_near c S es xs own a d)) v.3,
)

knows_in_near : (c : Place) (S : ℕ → Type 0) (es xs : List Entry) (ph : Phase) (busy : Bool) (quiet : ℕ) (own : Span) → Pair c S es xs → KnowsIn c es ph busy quiet own → KnowsIn c xs ph busy quiet own
knows_in_near c S es xs Offline busy quiet own a k = tt
knows_in_near c S es xs PassiveIdle busy quiet own a k = knows_near c S es xs busy quiet own a k
knows_in_near c S es xs (Listening doubled) busy quiet own a k = knows_near c S es xs busy quiet own a k
knows_in_near c S es xs (Idle refused) busy quiet own a k = knows_near c S es xs busy quiet own a k
knows_in_near c S es xs (Claim sent ready) busy quiet own a k = knows_near c S es xs busy quiet own a k
knows_in_near c S es xs (Use asked ready) busy quiet own a k = knows_near c S es xs busy quiet own a k
knows_in_near c S es xs (AwaitData asked retry slot) busy quiet own a k = knows_near c S es xs busy quiet own a k
knows_in_near c S es xs (AwaitStatus of slot) busy quiet own a k = knows_near c S es xs busy quiet own a k
knows_in_near c S es xs (Pass tries ready) busy quiet own a k = knows_near c S es xs busy quiet own a k
knows_in_near c S es xs (Checking tries) busy quiet own a k = knows_near c S es xs busy quiet own a k

same_last_near : (p : Params) (now : ℕ) (S : ℕ → Type 0) (es xs : List Entry) (last : Option Record) (k : ℕ) (t : Tap) → (S k → ⊥) → AllNear now S es xs → TapHolds p now es last k t → TapHolds p now xs last k t
same_last_near p now S es xs last k t other near o =
    let c = place p now k t in
    let v = view p t in
    let a : Pair c S es xs = record { began = o.began; other = other; near = near } in
    record {
      began = o.began;
      address = o.address;
      in_time = o.in_time;
      seen = λ on q over. o.seen on q (over_or c S es xs q a over);
      knows = knows_in_near c S es xs v.phase v.busy v.quiet v.own a o.knows;
      view_ok = view_near c S es xs last v.phase v.busy v.quiet v.own v.reply a o.knows o.view_ok;
      grip = o.grip;
      silent = o.silent;
    }

-- a running tap that may not itself be cut
pub tap_near : (p : Params) (now : ℕ) (S : ℕ → Type 0) (es xs : List Entry) (last last' : Option Record) (k : ℕ) (t : Tap) → (S k → ⊥) → AllNear now S es xs → SameLast p.ttd last last' k t.spec.address
    → TapHolds p now es last k t → TapHolds p now xs last' k t
tap_near p now S es xs last last' k t other near l o =
    same_last_near p now S es xs last' k t other near (tap_alike p now es es last last' k t (alike_self p.ttd k t.since es) l o)

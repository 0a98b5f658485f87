-- Traces that are alike to a tap: what it senses of each entry, and what it knows of its own, are the same.
use Rattle.std.proofs.Common.{◌≡◌, ℕ, ◌+◌, ◌≤◌, inl, inr, ⊎_elim, Bool, true, false, ◌||◌, List, [], ◌∷◌, map, refl, sym, ap, ◌∙◌, subst, Option, Some, None}
use Rattle.std.specs.List.{list_any}
use Rattle.pb_timers.specs.Timers.{Params}
use Rattle.law_turn.specs.Spans.{Span}
use Rattle.law_turn.specs.Phases.{Phase, Offline, PassiveIdle, Listening, Idle, Claim, Use, AwaitData, AwaitStatus, Pass, Checking}
use Rattle.law_turn.specs.Stations.{Reply}
use Rattle.law_model.specs.Trace.{Record, Entry}
use Rattle.law_model.specs.Medium.{Tap, sends_during}
use Rattle.law_token.specs.Lists.{Each}
use Rattle.law_token.specs.Places.{heard_span, IsOver, Place, Over, InitEnds, IsSplit, Spares, IsOwn}
use Rattle.law_token.specs.Tokens.{Held, Taken, Offers, Doomed}
use Rattle.law_token.specs.Views.{IsRecent, Armed, Awaits, ViewOf, Senses, Knows, KnowsIn, Grip, view, place, TapHolds}

-- an entry to a tap is as another
pub record SameTo (delay tap since : ℕ) (e x : Entry) : Type 0 where
  pub span : heard_span delay tap since e ≡ heard_span delay tap since x
  pub init : (q : ℕ) → InitEnds tap q e → InitEnds tap q x
  pub init_back : (q : ℕ) → InitEnds tap q x → InitEnds tap q e
  pub own : (own : Span) → IsOwn tap own e → IsOwn tap own x
  pub sends : (span : Span) → sends_during tap span e ≡ sends_during tap span x

abbrev pub Alike : (delay tap since : ℕ) → List Entry → List Entry → Type 0
Alike delay tap since [] [] = Unit {0}
Alike delay tap since [] (x ∷ xs) = ⊥
Alike delay tap since (e ∷ es) [] = ⊥
Alike delay tap since (e ∷ es) (x ∷ xs) = SameTo delay tap since e x × Alike delay tap since es xs

-- what holds of each entry of one holds of each of the other
carry : (P Q : Entry → Type 0) (delay tap since : ℕ) (es xs : List Entry) → ((e x : Entry) → SameTo delay tap since e x → P e → Q x) → Alike delay tap since es xs → Each P es → Each Q xs
carry P Q delay tap since [] [] f a all = tt
carry P Q delay tap since [] (x ∷ xs) f a all = absurd a
carry P Q delay tap since (e ∷ es) [] f a all = absurd a
carry P Q delay tap since (e ∷ es) (x ∷ xs) f a all = (f e x a.0 all.0, carry P Q delay tap since es xs f a.1 all.1)

carry_back : (P Q : Entry → Type 0) (delay tap since : ℕ) (es xs : List Entry) → ((e x : Entry) → SameTo delay tap since e x → Q x → P e) → Alike delay tap since es xs → Each Q xs → Each P es
carry_back P Q delay tap since [] [] f a all = tt
carry_back P Q delay tap since [] (x ∷ xs) f a all = absurd a
carry_back P Q delay tap since (e ∷ es) [] f a all = absurd a
carry_back P Q delay tap since (e ∷ es) (x ∷ xs) f a all = (f e x a.0 all.0, carry_back P Q delay tap since es xs f a.1 all.1)

pub same_to : (delay tap since : ℕ) (e : Entry) → SameTo delay tap since e e
same_to delay tap since e = record { span = refl; init = λ q h. h; init_back = λ q h. h; own = λ o h. h; sends = λ s. refl }

pub alike_self : (delay tap since : ℕ) (es : List Entry) → Alike delay tap since es es
alike_self delay tap since [] = tt
alike_self delay tap since (e ∷ es) = (same_to delay tap since e, alike_self delay tap since es)

pub alike_map : (delay tap since : ℕ) (f : Entry → Entry) (es : List Entry) → ((e : Entry) → SameTo delay tap since e (f e)) → Alike delay tap since es (map f es)
alike_map delay tap since f [] same = tt
alike_map delay tap since f (e ∷ es) same = (same e, alike_map delay tap since f es same)

-- ---- what a tap knows of them

over_alike : (c : Place) (es xs : List Entry) (q : ℕ) → Alike c.p.ttd c.tap c.since es xs → Over c es q → Over c xs q
over_alike c es xs q = carry (λ e. IsOver c.now q (heard_span c.p.ttd c.tap c.since e)) (λ e. IsOver c.now q (heard_span c.p.ttd c.tap c.since e)) c.p.ttd c.tap c.since es xs (λ e x s h. subst (IsOver c.now q) s.span h)

over_back : (c : Place) (es xs : List Entry) (q : ℕ) → Alike c.p.ttd c.tap c.since es xs → Over c xs q → Over c es q
over_back c es xs q = carry_back (λ e. IsOver c.now q (heard_span c.p.ttd c.tap c.since e)) (λ e. IsOver c.now q (heard_span c.p.ttd c.tap c.since e)) c.p.ttd c.tap c.since es xs (λ e x s h. subst (IsOver c.now q) (sym s.span) h)

recent_alike : (c : Place) (es xs : List Entry) (quiet : ℕ) → Alike c.p.ttd c.tap c.since es xs → IsRecent c es quiet → IsRecent c xs quiet
recent_alike c es xs quiet a r q over inits =
    r q (⊎_elim (λ (o : Over c xs q). inl (over_back c es xs q a o)) (λ (n : c.now ≤ q). inr n) over) (carry_back (InitEnds c.tap q) (InitEnds c.tap q) c.p.ttd c.tap c.since es xs (λ e x s h. s.init_back q h) a inits)

doomed_alike : (c : Place) (es xs : List Entry) (own : Span) → Alike c.p.ttd c.tap c.since es xs → Doomed c es own → Doomed c xs own
doomed_alike c es xs own a d spares =
    d (carry_back (λ e. Spares c.now (own.end + c.p.tsl) (heard_span c.p.ttd c.tap c.since e)) (λ e. Spares c.now (own.end + c.p.tsl) (heard_span c.p.ttd c.tap c.since e)) c.p.ttd c.tap c.since es xs
    (λ e x s h. subst (Spares c.now (own.end + c.p.tsl)) (sym s.span) h) a spares)

senses_alike : (c : Place) (es xs : List Entry) (busy : Bool) (quiet : ℕ) → Alike c.p.ttd c.tap c.since es xs → Senses c es busy quiet → Senses c xs busy quiet
senses_alike c es xs true quiet a s = λ q over. s q (over_back c es xs q a over)
senses_alike c es xs false quiet a s = (over_alike c es xs quiet a s.0, over_alike c es xs c.now a s.1)

any_alike : (delay tap since : ℕ) (span : Span) (es xs : List Entry) → Alike delay tap since es xs → list_any (sends_during tap span) es ≡ list_any (sends_during tap span) xs
any_alike delay tap since span [] [] a = refl
any_alike delay tap since span [] (x ∷ xs) a = absurd a
any_alike delay tap since span (e ∷ es) [] a = absurd a
any_alike delay tap since span (e ∷ es) (x ∷ xs) a =
    ap (λ b. b || list_any (sends_during tap span) es) (a.0.sends span) ∙ ap (λ b. sends_during tap span x || b) (any_alike delay tap since span es xs a.1)

knows_alike : (c : Place) (es xs : List Entry) (busy : Bool) (quiet : ℕ) (own : Span) → Alike c.p.ttd c.tap c.since es xs → Knows c es busy quiet own → Knows c xs busy quiet own
knows_alike c es xs busy quiet own a k = record {
  senses = senses_alike c es xs busy quiet a k.senses;
  started = k.started;
  begun = k.begun;
  order = k.order;
  ended = k.ended;
  quiet_by = k.quiet_by;
  split = carry (λ e. IsSplit own.begin (heard_span c.p.ttd c.tap c.since e)) (λ e. IsSplit own.begin (heard_span c.p.ttd c.tap c.since e)) c.p.ttd c.tap c.since es xs (λ e x s h. subst (IsSplit own.begin) s.span h) a k.split;
  owns = carry (IsOwn c.tap own) (IsOwn c.tap own) c.p.ttd c.tap c.since es xs (λ e x s h. s.own own h) a k.owns;
  sent = λ some span none. k.sent some span (any_alike c.p.ttd c.tap c.since span es xs a ∙ none);
}

-- who holds the token is the same by the other last record
pub record SameLast (delay : ℕ) (last last' : Option Record) (tap address : ℕ) : Type 0 where
  pub held : (own : Span) → Held last tap own → Held last' tap own
  pub taken : (at : ℕ) → Taken delay last tap address at → Taken delay last' tap address at
  pub offers : (own : Span) → Offers last tap own → Offers last' tap own

armed_alike : (c : Place) (es xs : List Entry) (quiet : ℕ) (own : Span) → Alike c.p.ttd c.tap c.since es xs → Armed c es quiet own → Armed c xs quiet own
armed_alike c es xs quiet own a r = record { still = r.still; clean = over_alike c es xs own.begin a r.clean }

awaits_alike : (c : Place) (es xs : List Entry) (busy : Bool) (quiet : ℕ) (own : Span) (retry : Option ℕ) (slot : Bool) → Alike c.p.ttd c.tap c.since es xs → Awaits c es busy quiet own retry slot → Awaits c xs busy quiet own retry slot
awaits_alike c es xs true quiet own retry slot a r = r
awaits_alike c es xs false quiet own None slot a r = (r.0, armed_alike c es xs quiet own a r.1)
awaits_alike c es xs false quiet own (Some m) slot a r = r

view_alike : (c : Place) (es xs : List Entry) (last last' : Option Record) (ph : Phase) (busy : Bool) (quiet : ℕ) (own : Span) (reply : Option Reply) → Alike c.p.ttd c.tap c.since es xs → SameLast c.p.ttd last last' c.tap c.address
    → ViewOf c es last ph busy quiet own reply → ViewOf c xs last' ph busy quiet own reply
view_alike c es xs last last' Offline busy quiet own reply a l v = tt
view_alike c es xs last last' PassiveIdle busy quiet own reply a l v = v
view_alike c es xs last last' (Listening doubled) busy quiet own reply a l v = v
view_alike c es xs last last' (Idle refused) busy quiet own reply a l v = v
view_alike c es xs last last' (Claim sent ready) busy quiet own reply a l v = (v.0, v.1, v.2, l.held own v.3, recent_alike c es xs quiet a v.4)
view_alike c es xs last last' (Use asked ready) busy quiet own reply a l v = (
  v.0,
  v.1,
  v.2,
  recent_alike c es xs quiet a v.3,
  ⊎_elim (λ (h : Held last c.tap own). inl (l.held own h)) (λ (h : Taken c.p.ttd last c.tap c.address quiet × (ready ≡ quiet + c.p.tid1)). inr (l.taken quiet h.0, h.1)) v.4,
)
view_alike c es xs last last' (AwaitData asked retry slot) busy quiet own reply a l v = (awaits_alike c es xs busy quiet own retry slot a v.0, l.held own v.1, recent_alike c es xs quiet a v.2)
view_alike c es xs last last' (AwaitStatus of slot) busy quiet own reply a l v = (awaits_alike c es xs busy quiet own None slot a v.0, l.held own v.1, recent_alike c es xs quiet a v.2)
view_alike c es xs last last' (Pass tries ready) busy quiet own reply a l v = v
view_alike c es xs last last' (Checking tries) busy quiet own reply a l v = (
  v.0,
  armed_alike c es xs quiet own a v.1,
  recent_alike c es xs quiet a v.2,
  ⊎_elim (λ (o : Offers last c.tap own). inl (l.offers own o)) (λ (d : Doomed c es own). inr (doomed_alike c es xs own a d)) v.3,
)

knows_in_alike : (c : Place) (es xs : List Entry) (ph : Phase) (busy : Bool) (quiet : ℕ) (own : Span) → Alike c.p.ttd c.tap c.since es xs → KnowsIn c es ph busy quiet own → KnowsIn c xs ph busy quiet own
knows_in_alike c es xs Offline busy quiet own a k = tt
knows_in_alike c es xs PassiveIdle busy quiet own a k = knows_alike c es xs busy quiet own a k
knows_in_alike c es xs (Listening doubled) busy quiet own a k = knows_alike c es xs busy quiet own a k
knows_in_alike c es xs (Idle refused) busy quiet own a k = knows_alike c es xs busy quiet own a k
knows_in_alike c es xs (Claim sent ready) busy quiet own a k = knows_alike c es xs busy quiet own a k
knows_in_alike c es xs (Use asked ready) busy quiet own a k = knows_alike c es xs busy quiet own a k
knows_in_alike c es xs (AwaitData asked retry slot) busy quiet own a k = knows_alike c es xs busy quiet own a k
knows_in_alike c es xs (AwaitStatus of slot) busy quiet own a k = knows_alike c es xs busy quiet own a k
knows_in_alike c es xs (Pass tries ready) busy quiet own a k = knows_alike c es xs busy quiet own a k
knows_in_alike c es xs (Checking tries) busy quiet own a k = knows_alike c es xs busy quiet own a k

grip_alike : (c : Place) (last last' : Option Record) (ph : Phase) (own : Span) → SameLast c.p.ttd last last' c.tap c.address → Grip c last ph own → Grip c last' ph own
grip_alike c last last' Offline own l g = tt
grip_alike c last last' PassiveIdle own l g = tt
grip_alike c last last' (Listening doubled) own l g = tt
grip_alike c last last' (Idle refused) own l g = tt
grip_alike c last last' (Checking tries) own l g = tt
grip_alike c last last' (Claim sent ready) own l g = l.held own g
grip_alike c last last' (Use asked ready) own l g =
    ⊎_elim (λ (h : Held last c.tap own). inl (l.held own h)) (λ (h : (at : ℕ) × Taken c.p.ttd last c.tap c.address at × (ready ≡ at + c.p.tid1)). inr (h.0, l.taken h.0 h.1, h.2)) g
grip_alike c last last' (AwaitData asked retry slot) own l g = l.held own g
grip_alike c last last' (AwaitStatus of slot) own l g = l.held own g
grip_alike c last last' (Pass tries ready) own l g = l.held own g

pub tap_alike : (p : Params) (now : ℕ) (es xs : List Entry) (last last' : Option Record) (k : ℕ) (t : Tap) → Alike p.ttd k t.since es xs → SameLast p.ttd last last' k t.spec.address
    → TapHolds p now es last k t → TapHolds p now xs last' k t
tap_alike p now es xs last last' k t a l o =
    let c = place p now k t in
    let v = view p t in
    record {
      began = o.began;
      address = o.address;
      in_time = o.in_time;
      seen = λ on q over. o.seen on q (⊎_elim (λ (h : Over c xs q). inl (over_back c es xs q a h)) (λ (n : now ≤ q). inr n) over);
      knows = knows_in_alike c es xs v.phase v.busy v.quiet v.own a o.knows;
      view_ok = view_alike c es xs last last' v.phase v.busy v.quiet v.own v.reply a l o.view_ok;
      grip = grip_alike c last last' t.station.phase t.station.own l o.grip;
      silent = o.silent;
    }

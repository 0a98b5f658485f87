-- While one tap may speak, no other holds the token.
use Rattle.std.proofs.Common.{◌≡◌, ℕ, zero, suc, ◌+◌, ◌*◌, ◌<◌, ◌≤◌, ◌⊎◌, inl, inr, ⊎_elim, Bool, true, false, if◌then◌else◌, ◌||◌, List, refl, sym, ap, ◌∙◌, subst, arith, Option, Some, None}
use Rattle.std.specs.Prelude.{slice_get, max, nat_lt, nat_le, ◌==◌, ◌&&◌}
use Rattle.std.specs.List.{list_any}
use Rattle.std.specs.Option.{option_and_then}
use Rattle.std.proofs.lemmas.Bool.{ltb-false, eqb-true, cases_eq, cases_lt}
use Rattle.std.proofs.lemmas.Option.{none-some, same_Some}
use Rattle.pb_timers.specs.Timers.{Params}
use Rattle.law_turn.specs.Spans.{Span}
use Rattle.law_model.specs.Trace.{Record, Entry, Sent, Noise}
use Rattle.law_model.specs.Medium.{part_after, is_unheard, reaches, at_tap}
use Rattle.law_model.proofs.Cases.{by_test}
use Rattle.law_runs.specs.Initiators.{is_initiator, offered_to}
use Rattle.law_runs.specs.Premises.{Waited}
use Rattle.law_token.specs.Lists.{Each}
use Rattle.law_token.specs.Places.{LeavesTime, heard_span, IsOver, Place, Over, InitEnds, InitsBy, IsOwn}
use Rattle.law_token.specs.Tokens.{Held, Taken, Offers}
use Rattle.law_token.specs.Entries.{EndedBefore, Origin}
use Rattle.law_token.proofs.bus.Lists.{each_map, each_both}

-- ---- what is public: all that has begun to be heard is over by a moment

abbrev pub Public : (delay tap now q : ℕ) → Entry → Type 0
Public delay tap now q (Noise span) = (now ≤ span.begin) ⊎ (span.end ≤ q)
Public delay tap now q (Sent r) = (r.tap ≡ tap → r.end ≤ q) × ((r.tap ≡ tap → ⊥) → (now ≤ r.begin + delay) ⊎ (r.end + delay ≤ q))

-- nobody is deaf to it
abbrev pub Reaches : ℕ → Entry → Type 0
Reaches tap (Noise span) = Unit {0}
Reaches tap (Sent r) = is_unheard (slice_get r.heard tap) ≡ false

clip : (now q since : ℕ) (span : Span) → since ≤ q → q < now → IsOver now q (part_after since span) → (now ≤ span.begin) ⊎ (span.end ≤ q)
clip now q since span from late =
    by_test (λ (o : Option Span). IsOver now q o → (now ≤ span.begin) ⊎ (span.end ≤ q)) (nat_lt since span.end) (Some (record { begin = max span.begin since; end = span.end })) None
    (λ _ h. ⊎_elim (λ (a : now ≤ max span.begin since). inl (omega arith)) (λ (b : span.end ≤ q). inr b) h)
    (λ over h. inr (omega (arith, ltb-false since span.end over)))

or_false : (a b : Bool) → a ≡ false → b ≡ false → (a || b) ≡ false
or_false true b e f = absurd cc
or_false false b e f = f

ne_eqb' : (a b : ℕ) → (a ≡ b → ⊥) → (a == b) ≡ false
ne_eqb' a b ne = by (a == b) refl
  where
    by : (t : Bool) → (a == b) ≡ t → t ≡ false
    by true e = absurd (ne (eqb-true a b e))
    by false e = refl

-- what a tap hears of another's telegram
pub hears_other : (delay tap : ℕ) (r : Record) → (r.tap ≡ tap → ⊥) → is_unheard (slice_get r.heard tap) ≡ false → at_tap delay tap (Sent r) ≡ Some (reaches delay r)
hears_other delay tap r ne reached =
    ap (λ (b : Bool). if b then None else Some (reaches delay r)) (or_false (r.tap == tap) (is_unheard (slice_get r.heard tap)) (ne_eqb' r.tap tap ne) reached)

pub public_one : (delay tap since now q : ℕ) (own : Span) → since ≤ q → q < now → own.begin ≤ own.end → own.end ≤ q → (e : Entry)
    → IsOver now q (heard_span delay tap since e) → IsOwn tap own e → Reaches tap e → Public delay tap now q e
public_one delay tap since now q own from late some ended (Noise span) over o reached = clip now q since span from late over
public_one delay tap since now q own from late some ended (Sent r) over o reached = (
  λ mine. ⊎_elim (λ (same : (r.begin ≡ own.begin) × (r.end ≡ own.end)). omega (arith, same.1)) (λ (before : r.end ≤ own.begin). omega arith) (o mine),
  λ ne. clip now q since (reaches delay r) from late (subst (λ (h : Option Span). IsOver now q (option_and_then (part_after since) h)) (hears_other delay tap r ne reached) over),
)

-- ---- silence

-- what a tap that claims knows
pub record Claims (c : Place) (trace : List Entry) (waited : List Waited) (q : ℕ) : Type 0 where
  pub timeout : q + 6 * c.p.tsl ≤ c.now
  pub public : Each (Public c.p.ttd c.tap c.now q) trace
  -- no other has waited out not longer ago than a cable delay
  pub alone : (m b : ℕ) → (m ≡ c.tap → ⊥) → c.now ≤ b + c.p.ttd → list_any (λ w. (w.tap == m) && nat_le b w.moment) waited ≡ true → ⊥

-- what is needed of entries
abbrev pub HasOrigin : Params → ℕ → List Entry → List Waited → Entry → Type 0
HasOrigin p now trace waited (Noise span) = Unit {0}
HasOrigin p now trace waited (Sent x) = (x.begin ≤ now) × (is_initiator x ≡ true → now ≤ x.begin + p.ttd → Origin p trace waited x)

-- no initiator record of another tap, begun before a limit, is still new
abbrev pub Old : (delay now m limit : ℕ) → Entry → Type 0
Old delay now m limit (Noise span) = Unit {0}
Old delay now m limit (Sent x) = x.tap ≡ m → is_initiator x ≡ true → x.begin < limit → now ≤ x.begin + delay → ⊥

-- what was there at another tap before a moment was over a delay after the silence began
ended_before : (c : Place) (m b q limit : ℕ) → (m ≡ c.tap → ⊥) → b ≤ c.now → b ≤ limit → (e : Entry) → Public c.p.ttd c.tap c.now q e → Old c.p.ttd c.now m limit e
    → EndedBefore c.p.ttd m b (q + c.p.ttd) e
ended_before c m b q limit ne begun le (Noise span) public old = ⊎_elim (λ (x : c.now ≤ span.begin). inl (omega arith)) (λ (y : span.end ≤ q). inr (omega arith)) public
ended_before c m b q limit ne begun le (Sent r) public old = (
  λ by init. ⊎_elim
      (λ (x : r.begin < b).
      ⊎_elim (λ (y : r.begin + c.p.ttd < c.now).
      ⊎_elim (λ (u : c.now ≤ r.begin + c.p.ttd). absurd (omega arith)) (λ (v : r.end + c.p.ttd ≤ q). inr (omega arith)) (public.1 (λ z. ne (sym by ∙ z))))
      (λ (y : c.now ≤ r.begin + c.p.ttd). absurd (old by init (omega arith) y))
      (cases_lt (r.begin + c.p.ttd) c.now))
      (λ (x : b ≤ r.begin). inl x)
      (cases_lt r.begin b),
  λ other. ⊎_elim (λ (z : r.tap ≡ c.tap). let h = public.0 z in inr (omega (arith, h)))
      (λ (z : r.tap ≡ c.tap → ⊥). ⊎_elim (λ (u : c.now ≤ r.begin + c.p.ttd). inl (omega arith)) (λ (v : r.end + c.p.ttd ≤ q). inr (omega arith)) (public.1 z))
      (cases_eq r.tap c.tap),
)

pub none_new : (c : Place) (trace : List Entry) (waited : List Waited) (q m : ℕ) → LeavesTime c.p → Claims c trace waited q → (m ≡ c.tap → ⊥) → Each (HasOrigin c.p c.now trace waited) trace
    → (limit : ℕ) → Each (Old c.p.ttd c.now m limit) trace
none_new c trace waited q m fits cl ne origins zero = each_map (HasOrigin c.p c.now trace waited) (Old c.p.ttd c.now m 0) trace (λ e _. nothing e) origins
  where
    nothing : (e : Entry) → Old c.p.ttd c.now m 0 e
    nothing (Noise span) = tt
    nothing (Sent x) = λ by init lt late. omega (arith, lt)
none_new c trace waited q m fits cl ne origins (suc limit) =
    each_map (HasOrigin c.p c.now trace waited) (Old c.p.ttd c.now m (suc limit)) trace (old (none_new c trace waited q m fits cl ne origins limit)) origins
  where
    old : Each (Old c.p.ttd c.now m limit) trace → (e : Entry) → HasOrigin c.p c.now trace waited e → Old c.p.ttd c.now m (suc limit) e
    old before (Noise span) o = tt
    old before (Sent x) o = λ by init lt late.
        ⊎_elim
        (λ (w : list_any (λ w. (w.tap == x.tap) && nat_le x.begin w.moment) waited ≡ true). cl.alone x.tap x.begin (λ z. ne (sym by ∙ z)) late w)
        (λ (f : (q : ℕ) → Each (EndedBefore c.p.ttd x.tap x.begin q) trace → x.begin ≤ q + (c.p.tsl + c.p.lag)).
        let all : Each (EndedBefore c.p.ttd x.tap x.begin (q + c.p.ttd)) trace =
        subst (λ n. Each (EndedBefore c.p.ttd n x.begin (q + c.p.ttd)) trace) (sym by)
        (each_both (Public c.p.ttd c.tap c.now q) (Old c.p.ttd c.now m limit) (EndedBefore c.p.ttd m x.begin (q + c.p.ttd)) trace
        (λ e a b. ended_before c m x.begin q limit ne o.0 (omega (arith, lt)) e a b) cl.public before) in
        let h = f (q + c.p.ttd) all in
        omega (arith, h, late, cl.timeout, fits.take))
        (o.1 init late)

-- a tap that holds the token, or checks, was not silent for two slots
abbrev pub Lives : Place → List Entry → Type 0
Lives c trace = (q : ℕ) → Over c trace q → InitsBy c.tap q trace → c.now ≤ q + (c.p.tsl + c.p.lag)

pub over_clip : (now q since : ℕ) (span : Span) → (now ≤ span.begin) ⊎ (span.end ≤ q) → IsOver now q (part_after since span)
over_clip now q since span h =
    by_test (λ (o : Option Span). IsOver now q o) (nat_lt since span.end) (Some (record { begin = max span.begin since; end = span.end })) None
    (λ _. ⊎_elim (λ (a : now ≤ span.begin). inl (omega arith)) (λ (b : span.end ≤ q). inr b) h)
    (λ _. tt)

-- what was over for one is over for the other
over_other : (c d : Place) (q : ℕ) → d.p ≡ c.p → d.now ≡ c.now → (e : Entry) → EndedBefore c.p.ttd d.tap c.now (q + c.p.ttd) e → IsOver c.now (q + c.p.ttd) (heard_span c.p.ttd d.tap d.since e)
over_other c d q ep en (Noise span) h = over_clip c.now (q + c.p.ttd) d.since span h
over_other c d q ep en (Sent r) h =
    by_test (λ (o : Option Span). IsOver c.now (q + c.p.ttd) (option_and_then (part_after d.since) o)) (r.tap == d.tap || is_unheard (slice_get r.heard d.tap)) None (Some (reaches c.p.ttd r))
    (λ _. tt)
    (λ b. over_clip c.now (q + c.p.ttd) d.since (reaches c.p.ttd r) (h.1 (λ same. neither same b)))
  where
    neither : r.tap ≡ d.tap → (r.tap == d.tap || is_unheard (slice_get r.heard d.tap)) ≡ false → ⊥
    neither same b = grind (arith, same, b)

inits_other : (c : Place) (m q : ℕ) (trace : List Entry) (waited : List Waited) → (e : Entry) → EndedBefore c.p.ttd m c.now (q + c.p.ttd) e
    → Old c.p.ttd c.now m (suc c.now) e × HasOrigin c.p c.now trace waited e → InitEnds m (q + c.p.ttd) e
inits_other c m q trace waited (Noise span) h old = tt
inits_other c m q trace waited (Sent r) h old =
    λ by init. ⊎_elim (λ (x : c.now ≤ r.begin). absurd (old.0 by init (omega (arith, old.1)) (omega arith))) (λ (x : r.end ≤ q + c.p.ttd). x) (h.0 by init)

-- nobody lives where a time-out has ended
pub claims_alone : (p : Params) (now k a s m b u : ℕ) (trace : List Entry) (waited : List Waited) (q : ℕ) → LeavesTime p
    → Claims (record { p = p; now = now; tap = k; address = a; since = s }) trace waited q → (m ≡ k → ⊥) → Each (HasOrigin p now trace waited) trace
    → Lives (record { p = p; now = now; tap = m; address = b; since = u }) trace → ⊥
claims_alone p now k a s m b u trace waited q fits cl ne origins lives =
    let c : Place = record { p = p; now = now; tap = k; address = a; since = s } in
    let d : Place = record { p = p; now = now; tap = m; address = b; since = u } in
    let old = none_new c trace waited q m fits cl ne origins (suc now) in
    let ended = each_both (Public p.ttd k now q) (Old p.ttd now m (suc now)) (EndedBefore p.ttd m now (q + p.ttd)) trace
    (λ e x y. ended_before c m now q (suc now) ne (omega arith) (omega arith) e x y) cl.public old in
    let over : Over d trace (q + p.ttd) = each_map (EndedBefore p.ttd m now (q + p.ttd)) (λ e. IsOver now (q + p.ttd) (heard_span p.ttd m u e)) trace (λ e h. over_other c d q refl refl e h) ended in
    let inits : InitsBy m (q + p.ttd) trace = each_both (EndedBefore p.ttd m now (q + p.ttd)) (λ e. Old p.ttd now m (suc now) e × HasOrigin p now trace waited e) (InitEnds m (q + p.ttd)) trace (λ e x y. inits_other c m q trace waited e x y) ended
    (each_both (Old p.ttd now m (suc now)) (HasOrigin p now trace waited) (λ e. Old p.ttd now m (suc now) e × HasOrigin p now trace waited e) trace (λ e x y. (x, y)) old origins) in
    let h = lives (q + p.ttd) over inits in
    omega (arith, h, cl.timeout, fits.take)

-- ---- two taps

-- why a tap may speak as an initiator now
pub data Speaks (c : Place) (trace : List Entry) (waited : List Waited) (last : Option Record) : Type 0 where
  Goes : (own : Span) → Held last c.tap own → Speaks c trace waited last
  Takes : (at : ℕ) → Taken c.p.ttd last c.tap c.address at → c.now ≤ at + c.p.tid1 + c.p.lag → Speaks c trace waited last
  Again : (own : Span) → Offers last c.tap own → own.end + c.p.tsl ≤ c.now → Speaks c trace waited last
  Begins : (q : ℕ) → Claims c trace waited q → Speaks c trace waited last

-- how a tap holds the token
pub data Holding (c : Place) (last : Option Record) : Type 0 where
  Keeps : (own : Span) → Held last c.tap own → Holding c last
  Has : (at : ℕ) → Taken c.p.ttd last c.tap c.address at → c.now ≤ at + c.p.tid1 + c.p.lag → Holding c last

pub held_held : (last : Option Record) (i j : ℕ) (x y : Span) → Held last i x → Held last j y → i ≡ j
held_held last i j x y a b = let e = same_Some a.r b.r (sym a.is ∙ b.is) in sym a.by ∙ ap (λ (r : Record). r.tap) e ∙ b.by

pub held_offer : (last : Option Record) (i : ℕ) (x : Span) (r : Record) (to : ℕ) → Held last i x → last ≡ Some r → offered_to r ≡ Some to → ⊥
held_offer last i x r to a b o = let e = same_Some a.r r (sym a.is ∙ b) in none-some to (sym a.no_offer ∙ ap offered_to e ∙ o)

pub taken_taken : (last : Option Record) (d i j a b x y : ℕ) → Taken d last i a x → Taken d last j b y → a ≡ b
taken_taken last d i j a b x y f g = let e = same_Some f.r g.r (sym f.is ∙ g.is) in same_Some a b (sym f.offers ∙ ap offered_to e ∙ g.offers)

-- a live token leaves none to another
pub none_holds : (p : Params) (now k a s m b u : ℕ) (trace : List Entry) (waited : List Waited) (last : Option Record) → LeavesTime p → Each (HasOrigin p now trace waited) trace
    → (m ≡ k → ⊥) → (a ≡ b → ⊥) → Speaks (record { p = p; now = now; tap = k; address = a; since = s }) trace waited last
    → Lives (record { p = p; now = now; tap = m; address = b; since = u }) trace → Holding (record { p = p; now = now; tap = m; address = b; since = u }) last → ⊥
none_holds p now k a s m b u trace waited last fits origins ne da (Goes own h) lives (Keeps own' g) = ne (held_held last m k own' own g h)
none_holds p now k a s m b u trace waited last fits origins ne da (Goes own h) lives (Has at g late) = held_offer last k own g.r b h g.is g.offers
none_holds p now k a s m b u trace waited last fits origins ne da (Takes at h late) lives (Keeps own' g) = held_offer last m own' h.r a g h.is h.offers
none_holds p now k a s m b u trace waited last fits origins ne da (Takes at h late) lives (Has at' g late') = da (taken_taken last p.ttd k m a b at at' h g)
none_holds p now k a s m b u trace waited last fits origins ne da (Again own h over) lives (Keeps own' g) = held_offer last m own' h.r h.to g h.is h.offers
none_holds p now k a s m b u trace waited last fits origins ne da (Again own h over) lives (Has at' g late') =
    let same : h.r.end ≡ g.r.end = ap (λ (r : Record). r.end) (same_Some h.r g.r (sym h.is ∙ g.is)) in
    omega (arith, same, h.end, g.heard_at, over, late', fits.take, fits.idle_order)
none_holds p now k a s m b u trace waited last fits origins ne da (Begins q cl) lives g = claims_alone p now k a s m b u trace waited q fits cl ne origins lives

-- one that checks is doomed by what another says now: that reaches it within its slot
pub is_doomed : (p : Params) (now k a s m b u : ℕ) (trace : List Entry) (waited : List Waited) (last : Option Record) (own' : Span) → LeavesTime p → Each (HasOrigin p now trace waited) trace
    → (m ≡ k → ⊥) → Speaks (record { p = p; now = now; tap = k; address = a; since = s }) trace waited last
    → Lives (record { p = p; now = now; tap = m; address = b; since = u }) trace → Offers last m own' → now + p.ttd < own'.end + p.tsl
is_doomed p now k a s m b u trace waited last own' fits origins ne (Goes own h) lives g = absurd (held_offer last k own g.r g.to h g.is g.offers)
is_doomed p now k a s m b u trace waited last own' fits origins ne (Takes at h late) lives g =
    let same : h.r.end ≡ g.r.end = ap (λ (r : Record). r.end) (same_Some h.r g.r (sym h.is ∙ g.is)) in
    omega (arith, same, h.heard_at, g.end, late, fits.take, fits.idle_order)
is_doomed p now k a s m b u trace waited last own' fits origins ne (Again own h over) lives g =
    absurd (ne (sym g.by ∙ sym (ap (λ (r : Record). r.tap) (same_Some h.r g.r (sym h.is ∙ g.is))) ∙ h.by))
is_doomed p now k a s m b u trace waited last own' fits origins ne (Begins q cl) lives g = absurd (claims_alone p now k a s m b u trace waited q fits cl ne origins lives)

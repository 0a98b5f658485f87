-- The records of the trace after a turn.
use Rattle.std.proofs.Common.{◌≡◌, ℕ, zero, suc, ◌+◌, ◌<◌, ◌≤◌, inl, inr, ⊎_elim, Bool, true, false, if◌then◌else◌, List, [], ◌∷◌, length, map, refl, sym, ap, ◌∙◌, subst, arith, Option, Some, None}
use Rattle.std.specs.Prelude.{slice_get, nat_le, IfSome}
use Rattle.std.proofs.lemmas.Bool.{cases_lt}
use Rattle.std.proofs.lemmas.Option.{none-some, same_Some}
use Rattle.pb_telegram.specs.Faults.{fault_of}
use Rattle.pb_telegram.specs.declared.chars.RxChar.TheVariants.{Good}
use Rattle.pb_timers.specs.Timers.{Params}
use Rattle.law_turn.specs.Spans.{Span}
use Rattle.law_turn.specs.Arrivals.{Token}
use Rattle.law_model.specs.Trace.{Record, Entry, Sent, Noise}
use Rattle.law_model.specs.Medium.{TapSpec, Tap}
use Rattle.law_model.specs.Step.{sending}
use Rattle.law_runs.specs.Initiators.{is_initiator, offered_to, telegram_of, later_record, last_from, last_initiator}
use Rattle.law_runs.specs.Legality.{is_whole, address_at}
use Rattle.law_runs.specs.Premises.{Waited, has_namesakes}
use Rattle.law_token.specs.Lists.{Each, In}
use Rattle.law_token.specs.Places.{LeavesTime, Place, IsOwn}
use Rattle.law_token.specs.Entries.{Origin, ComesBefore, RecordHolds, EntryHolds, AllOthers}
use Rattle.law_token.proofs.bus.Lists.{each_in, each_map, each_both}
use Rattle.law_token.proofs.bus.Pairs.{Reaches, HasOrigin, Speaks}
use Rattle.law_token.proofs.bus.Order.{IsPast, HasRecord, is_past}
use Rattle.law_token.proofs.bus.Legal.{Begun}
use Rattle.law_token.proofs.bus.Claims.{one_address}
use Rattle.law_token.proofs.turn.Trace.{InitBefore, WasTap, unheard_new, whole_new, pending_new}

-- ---- what entries are

pub reaches_each : (p : Params) (now k : ℕ) (taps : List Tap) (trace : List Entry) (waited : List Waited) (last : Option Record) (es : List Entry) → Each (EntryHolds p now taps trace waited last) es → Each (Reaches k) es
reaches_each p now k taps trace waited last [] all = tt
reaches_each p now k taps trace waited last (Noise span ∷ es) all = (tt, reaches_each p now k taps trace waited last es all.1)
reaches_each p now k taps trace waited last (Sent r ∷ es) all = (all.0.reaches_all k, reaches_each p now k taps trace waited last es all.1)

pub records_each : (p : Params) (now : ℕ) (taps : List Tap) (trace : List Entry) (waited : List Waited) (last : Option Record) (es : List Entry) → Each (EntryHolds p now taps trace waited last) es → Each (HasRecord p now trace waited last) es
records_each p now taps trace waited last [] all = tt
records_each p now taps trace waited last (Noise span ∷ es) all = (tt, records_each p now taps trace waited last es all.1)
records_each p now taps trace waited last (Sent r ∷ es) all = ((all.0.begun, all.0.some, all.0.order, all.0.origin), records_each p now taps trace waited last es all.1)

pub origins_each : (p : Params) (now : ℕ) (taps : List Tap) (trace : List Entry) (waited : List Waited) (last : Option Record) (es : List Entry) → Each (EntryHolds p now taps trace waited last) es → Each (HasOrigin p now trace waited) es
origins_each p now taps trace waited last [] all = tt
origins_each p now taps trace waited last (Noise span ∷ es) all = (tt, origins_each p now taps trace waited last es all.1)
origins_each p now taps trace waited last (Sent r ∷ es) all = ((all.0.begun, all.0.origin), origins_each p now taps trace waited last es all.1)

pub begun_each : (p : Params) (now : ℕ) (taps : List Tap) (trace : List Entry) (waited : List Waited) (last : Option Record) (es : List Entry) → Each (EntryHolds p now taps trace waited last) es → Each (Begun now) es
begun_each p now taps trace waited last [] all = tt
begun_each p now taps trace waited last (Noise span ∷ es) all = (all.0.0, begun_each p now taps trace waited last es all.1)
begun_each p now taps trace waited last (Sent r ∷ es) all = (all.0.begun, begun_each p now taps trace waited last es all.1)

-- the telegrams of a tap have ended
abbrev pub OwnPast : (tap now : ℕ) → Entry → Type 0
OwnPast tap now (Noise span) = Unit {0}
OwnPast tap now (Sent r) = r.tap ≡ tap → (r.begin < now) × (r.end ≤ now)

pub own_past : (p : Params) (now k : ℕ) (own : Span) (taps : List Tap) (trace : List Entry) (waited : List Waited) (last : Option Record) → own.begin ≤ own.end → own.end ≤ now
    → (es : List Entry) → Each (IsOwn k own) es → Each (EntryHolds p now taps trace waited last) es → Each (OwnPast k now) es
own_past p now k own taps trace waited last order ended [] owns all = tt
own_past p now k own taps trace waited last order ended (Noise span ∷ es) owns all = (tt, own_past p now k own taps trace waited last order ended es owns.1 all.1)
own_past p now k own taps trace waited last order ended (Sent r ∷ es) owns all = (
  λ mine. let s = all.0.some in ⊎_elim (λ (a : (r.begin ≡ own.begin) × (r.end ≡ own.end)). (omega (arith, s, a.1, ended), omega (arith, a.1, ended))) (λ (b : r.end ≤ own.begin). (omega (arith, s, b, order, ended), omega (arith, b, order, ended))) (owns.0 mine),
  own_past p now k own taps trace waited last order ended es owns.1 all.1,
)

-- ---- the last record is an initiator's

last_init : (t : ℕ) (es : List Entry) (l : Option Record) → IfSome l (λ r. is_initiator r ≡ true) → IfSome (last_from l t es) (λ r. is_initiator r ≡ true)
last_init t [] l h = h
last_init t (Noise span ∷ es) l h = last_init t es l h
last_init t (Sent r ∷ es) l h = last_init t es (if nat_le r.begin t then later_record l r else l) (step (nat_le r.begin t) (is_initiator r) refl)
  where
    step : (b c : Bool) → is_initiator r ≡ c → IfSome (if b then (if c then Some r else l) else l) (λ r. is_initiator r ≡ true)
    step true true e = e
    step true false e = h
    step false c e = h

pub last_initiates : (t : ℕ) (es : List Entry) (last : Option Record) → last_initiator t es ≡ last → IfSome last (λ r. is_initiator r ≡ true)
last_initiates t es last e = subst (λ o. IfSome o (λ r. is_initiator r ≡ true)) e (last_init t es None tt)

-- ---- all initiator records are past

abbrev pub PastInit : (delay now k : ℕ) → Entry → Type 0
PastInit delay now k (Noise span) = Unit {0}
PastInit delay now k (Sent y) = is_initiator y ≡ true → IsPast delay now k y

each_inside : (P : Entry → Type 0) (es : List Entry) → ((e : Entry) → In e es → P e) → Each P es
each_inside P [] f = tt
each_inside P (e ∷ es) f = (f e (inl refl), each_inside P es (λ x i. f x (inr i)))

pub past_each : (c : Place) (taps : List Tap) (trace : List Entry) (waited : List Waited) (last : Option Record) (t : Tap) → LeavesTime c.p → Each (EntryHolds c.p c.now taps trace waited last) trace → AllOthers trace
    → IfSome last (λ r. In (Sent r) trace) → IfSome last (λ r. is_initiator r ≡ true) → Each (OwnPast c.tap c.now) trace → slice_get taps c.tap ≡ Some t → Speaks c trace waited last → Each (PastInit c.p.ttd c.now c.tap) trace
past_each c taps trace waited None t fits all others inside init own here speaks = each_map (EntryHolds c.p c.now taps trace waited None) (PastInit c.p.ttd c.now c.tap) trace none all
  where
    none : (e : Entry) → EntryHolds c.p c.now taps trace waited None e → PastInit c.p.ttd c.now c.tap e
    none (Noise span) o = tt
    none (Sent y) o = λ is. absurd (o.order is)
past_each c taps trace waited (Some r) t fits all others inside init own here speaks = each_inside (PastInit c.p.ttd c.now c.tap) trace past
  where
    past : (e : Entry) → In e trace → PastInit c.p.ttd c.now c.tap e
    past (Noise span) i = tt
    past (Sent y) i = λ is.
        is_past c trace waited r y fits (records_each c.p c.now taps trace waited (Some r) trace all) others inside init i is
        (λ own' h. let e = same_Some r h.r h.is in let mine : r.tap ≡ c.tap = ap (λ (z : Record). z.tap) e ∙ h.by in let ends = ap (λ (z : Record). z.end) e in
        let over = (each_in (OwnPast c.tap c.now) (Sent r) trace own inside mine).1 in let last_end = h.end in omega (arith, ends, over, last_end))
        (λ at h. let e = same_Some r h.r h.is in let ends = ap (λ (z : Record). z.end) e in let ok = each_in (EntryHolds c.p c.now taps trace waited (Some r)) (Sent r) trace all inside in
        ⊎_elim (λ (new : c.now < r.end + c.p.ttd). absurd (let pend = ok.pending c.tap t here (λ z. h.another (sym (ap (λ (z : Record). z.tap) e) ∙ z)) new in
        let w : false ≡ true = sym (ap is_whole pend) ∙ ap (λ (z : Record). is_whole (slice_get z.heard c.tap)) e ∙ h.whole in cc))
        (λ (old : r.end + c.p.ttd ≤ c.now). let a = h.heard_at in omega (arith, a, old, ends)) (cases_lt c.now (r.end + c.p.ttd)))
        speaks

-- ---- an old record after a turn

abbrev pub OrderOk : ℕ → Option Record → Entry → Type 0
OrderOk delay last (Noise span) = Unit {0}
OrderOk delay last (Sent y) = is_initiator y ≡ true → ComesBefore delay last y

pub order_past : (delay now k : ℕ) (x : Record) → x.begin ≡ now → x.tap ≡ k → (e : Entry) → PastInit delay now k e → OrderOk delay (Some x) e
order_past delay now k x new mine (Noise span) h = tt
order_past delay now k x new mine (Sent y) h = λ is.
    inr (let a = (h is).0 in omega (arith, a, new), ⊎_elim (λ (a : y.end + delay ≤ now). inl (omega (arith, new))) (λ (b : (y.tap ≡ k) × (offered_to y ≡ None)). inr (b.0 ∙ sym mine, b.1)) (h is).1)

pub order_same : (p : Params) (now : ℕ) (taps : List Tap) (trace : List Entry) (waited : List Waited) (last : Option Record) (e : Entry) → EntryHolds p now taps trace waited last e → OrderOk p.ttd last e
order_same p now taps trace waited last (Noise span) o = tt
order_same p now taps trace waited last (Sent y) o = o.order

pub before_past : (delay now k : ℕ) (p : Params) (taps : List Tap) (trace : List Entry) (waited : List Waited) (last : Option Record) (e : Entry) → EntryHolds p now taps trace waited last e → PastInit delay now k e → InitBefore now e
before_past delay now k p taps trace waited last (Noise span) o h = tt
before_past delay now k p taps trace waited last (Sent y) o h = λ is. let a = (h is).0 in let s = o.some in omega (arith, a, s)

abbrev pub SameTaps : List Tap → List Tap → Type 0
SameTaps taps taps' = ((i : ℕ) (u : Tap) → slice_get taps' i ≡ Some u → WasTap taps i u) × (map (λ (t : Tap). t.spec) taps' ≡ map (λ (t : Tap). t.spec) taps)

entry_turned : (p : Params) (now : ℕ) (taps taps' : List Tap) (trace trace' : List Entry) (old all : List Waited) (last last' : Option Record) → SameTaps taps taps' → ((x : Record) → Origin p trace old x → Origin p trace' all x)
    → (e : Entry) → OrderOk p.ttd last' e → EntryHolds p now taps trace old last e → EntryHolds p now taps' trace' all last' e
entry_turned p now taps taps' trace trace' old all last last' same from (Noise span) order o = o
entry_turned p now taps taps' trace trace' old all last last' same from (Sent x) order o = record {
  begun = o.begun;
  some = o.some;
  fits = o.fits;
  spelled = o.spelled;
  order = order;
  source = λ da sa e. o.source da sa e ∙ ap (λ specs. address_at specs x.tap) (sym same.1);
  reaches_all = o.reaches_all;
  origin = λ init late. from x (o.origin init late);
  pending = λ k t at ne late. let w = same.0 k t at in o.pending k w.t w.here ne late;
  one_whole = λ i j t u a b f g e. let w = same.0 i t a in let v = same.0 j u b in o.one_whole i j w.t v.t w.here v.here f g (sym (ap (λ (z : TapSpec). z.address) w.spec_is) ∙ e ∙ ap (λ (z : TapSpec). z.address) v.spec_is);
  older = λ k t u a r b ne e. let w = same.0 k t a in let v = same.0 x.tap u b in
      let h = o.older k w.t v.t w.here (sym w.running_is ∙ r) v.here ne (sym (ap (λ (z : TapSpec). z.address) w.spec_is) ∙ e ∙ ap (λ (z : TapSpec). z.address) v.spec_is) in
      (let s = w.since_is in let a' = h.0 in omega (arith, s, a'), λ same_start. w.amid_is ∙ h.1 (sym w.since_is ∙ same_start));
}

pub entries_turned : (p : Params) (now : ℕ) (taps taps' : List Tap) (trace trace' : List Entry) (old all : List Waited) (last last' : Option Record) → SameTaps taps taps' → ((x : Record) → Origin p trace old x → Origin p trace' all x)
    → (es : List Entry) → Each (OrderOk p.ttd last') es → Each (EntryHolds p now taps trace old last) es → Each (EntryHolds p now taps' trace' all last') es
entries_turned p now taps taps' trace trace' old all last last' same from es order ok =
    each_both (OrderOk p.ttd last') (EntryHolds p now taps trace old last) (EntryHolds p now taps' trace' all last') es (λ e a b. entry_turned p now taps taps' trace trace' old all last last' same from e a b) order ok

-- ---- the new record

map_get : (ts : List Tap) (k : ℕ) (t : Tap) → slice_get ts k ≡ Some t → address_at (map (λ (z : Tap). z.spec) ts) k ≡ t.spec.address
map_get [] k t at = absurd (none-some t at)
map_get (x ∷ xs) zero t at = ap (λ (z : Tap). z.spec.address) (same_Some x t at)
map_get (x ∷ xs) (suc k) t at = map_get xs k t at

pub address_there : (ts : List Tap) (k : ℕ) (t : Tap) → slice_get ts k ≡ Some t → address_at (map (λ (z : Tap). z.spec) ts) k ≡ t.spec.address
address_there ts k t at = map_get ts k t at

pub record_new : (p : Params) (now k : ℕ) (t : Tap) (octets : List ℕ) (taps taps' : List Tap) (trace' : List Entry) (all : List Waited) (last' : Option Record) → slice_get taps k ≡ Some t → t.running ≡ true → SameTaps taps taps' → has_namesakes taps ≡ false
    → 0 < length octets → fault_of (map Good octets) ≡ None → (is_initiator (sending k octets now taps) ≡ true → ComesBefore p.ttd last' (sending k octets now taps))
    → ((da sa : ℕ) → telegram_of (sending k octets now taps) ≡ Token da sa → sa ≡ t.spec.address) → (is_initiator (sending k octets now taps) ≡ true → Origin p trace' all (sending k octets now taps))
    → RecordHolds p now taps' trace' all last' (sending k octets now taps)
record_new p now k t octets taps taps' trace' all last' here running same distinct some good order source origin = record {
  begun = omega arith;
  some = omega (arith, some);
  fits = omega arith;
  spelled = good;
  order = order;
  source = λ da sa e. source da sa e ∙ sym (map_get taps k t here) ∙ ap (λ specs. address_at specs k) (sym same.1);
  reaches_all = λ i. unheard_new k taps i;
  origin = λ init late. origin init;
  pending = λ i u at ne late. let w = same.0 i u at in pending_new k i taps w.t w.here ne;
  one_whole = λ i j u v a b f g e. absurd (let w : false ≡ true = sym (whole_new k taps i) ∙ f in cc);
  older = λ i u v a r b ne e. let w = same.0 i u a in let s = same.0 k v b in
      let speaker = same_Some s.t t (sym s.here ∙ here) in
      absurd (ne (one_address taps k i t w.t distinct here w.here running (sym w.running_is ∙ r)
      (ap (λ (z : Tap). z.spec.address) (sym speaker) ∙ sym (ap (λ (z : TapSpec). z.address) s.spec_is) ∙ sym e ∙ ap (λ (z : TapSpec). z.address) w.spec_is)));
}

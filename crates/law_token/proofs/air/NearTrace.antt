-- The last record, and what is known of each entry, by a trace that differs in what is in the air, and beside taps that differ.
use Rattle.std.proofs.Common.{◌≡◌, ℕ, ◌+◌, ◌<◌, ◌≤◌, ◌⊎◌, inl, inr, ⊎_elim, Bool, true, false, if◌then◌else◌, ◌==◌, ◌&&◌, ◌||◌, List, [], ◌∷◌, ◌++◌, map, refl, sym, ap, ◌∙◌, subst, arith, Option, Some, None}
use Rattle.std.specs.Prelude.{slice_get, nat_lt, nat_le, IfSome}
use Rattle.std.specs.List.{list_any}
use Rattle.std.proofs.lemmas.Bool.{cases_lt, eqb-true, le-leb, lt-ltb, or_right, or_left}
use Rattle.std.proofs.lemmas.Option.{none-some, same_Some}
use Rattle.pb_timers.specs.Timers.{Params}
use Rattle.law_turn.specs.Spans.{Span}
use Rattle.law_model.specs.Trace.{Hit, Record, Entry, Sent, Noise}
use Rattle.law_model.specs.Medium.{Tap, TapSpec, is_unheard, contains_moment}
use Rattle.law_model.specs.Step.{is_there, reaches_now}
use Rattle.law_model.proofs.Cases.{by_test}
use Rattle.law_runs.specs.Initiators.{is_initiator, offered_to, later_record, last_from, last_initiator}
use Rattle.law_runs.specs.Legality.{is_whole, address_at}
use Rattle.law_runs.specs.Premises.{Waited}
use Rattle.law_token.specs.Lists.{Each, In}
use Rattle.law_token.specs.Entries.{ComesBefore, EndedBefore, Origin, RecordHolds, EntryHolds, IsAnother, AllOthers}
use Rattle.law_token.proofs.bus.Lists.{each_map}
use Rattle.law_token.proofs.pass.Alike.{SameLast}
use Rattle.law_token.proofs.air.LastRecords.{TraceR, LastR, last_related}
use Rattle.law_token.proofs.air.NewNoise.{any_more}
use Rattle.law_token.proofs.air.Near.{NearRecord, Near, AllNear, record_ends, each_near, each_back}

-- ---- the last record

pub last_inside : (t : ℕ) (es : List Entry) (l : Option Record) → IfSome (last_from l t es) (λ r. (l ≡ Some r) ⊎ In (Sent r) es)
last_inside t [] None = tt
last_inside t [] (Some l) = inl refl
last_inside t (Noise span ∷ es) l = more (last_from l t es) (last_inside t es l)
  where
    more : (o : Option Record) → IfSome o (λ r. (l ≡ Some r) ⊎ In (Sent r) es) → IfSome o (λ r. (l ≡ Some r) ⊎ ((Noise span ≡ Sent r) ⊎ In (Sent r) es))
    more None h = tt
    more (Some r) h = ⊎_elim (λ (a : l ≡ Some r). inl a) (λ (b : In (Sent r) es). inr (inr b)) h
last_inside t (Sent x ∷ es) l =
    more (last_from (if nat_le x.begin t then later_record l x else l) t es) (last_inside t es (if nat_le x.begin t then later_record l x else l))
  where
    new : (r : Record) → (if nat_le x.begin t then later_record l x else l) ≡ Some r → (l ≡ Some r) ⊎ ((Sent x ≡ Sent r) ⊎ In (Sent r) es)
    new r = by_test (λ o. o ≡ Some r → (l ≡ Some r) ⊎ ((Sent x ≡ Sent r) ⊎ In (Sent r) es)) (nat_le x.begin t) (later_record l x) l
        (λ _. by_test (λ o. o ≡ Some r → (l ≡ Some r) ⊎ ((Sent x ≡ Sent r) ⊎ In (Sent r) es)) (is_initiator x) (Some x) l (λ _ e. inr (inl (ap Sent (same_Some x r e)))) (λ _ e. inl e)) (λ _ e. inl e)

    more : (o : Option Record) → IfSome o (λ r. ((if nat_le x.begin t then later_record l x else l) ≡ Some r) ⊎ In (Sent r) es) → IfSome o (λ r. (l ≡ Some r) ⊎ ((Sent x ≡ Sent r) ⊎ In (Sent r) es))
    more None h = tt
    more (Some r) h = ⊎_elim (λ (a : (if nat_le x.begin t then later_record l x else l) ≡ Some r). new r a) (λ (b : In (Sent r) es). inr (inr b)) h

-- the last initiator record is one of the trace
pub last_in_trace : (t : ℕ) (es : List Entry) → IfSome (last_initiator t es) (λ r. In (Sent r) es)
last_in_trace t es = only None refl (last_initiator t es) (last_inside t es None)
  where
    only : (l : Option Record) → l ≡ None → (o : Option Record) → IfSome o (λ r. (l ≡ Some r) ⊎ In (Sent r) es) → IfSome o (λ r. In (Sent r) es)
    only l none None h = tt
    only l none (Some r) h = ⊎_elim (λ (a : l ≡ Some r). absurd (none-some r (sym none ∙ a))) (λ (b : In (Sent r) es). b) h

trace_related : (now : ℕ) (S : ℕ → Type 0) (es xs : List Entry) → AllNear now S es xs → TraceR (NearRecord now S) es xs
trace_related now S [] [] a = tt
trace_related now S [] (x ∷ xs) a = absurd a
trace_related now S (e ∷ es) [] a = absurd a
trace_related now S (Noise a ∷ es) (Noise b ∷ xs) h = (tt, trace_related now S es xs h.1)
trace_related now S (Noise a ∷ es) (Sent x ∷ xs) h = absurd h.0
trace_related now S (Sent r ∷ es) (Noise b ∷ xs) h = absurd h.0
trace_related now S (Sent r ∷ es) (Sent x ∷ xs) h = (h.0, trace_related now S es xs h.1)

pub last_near : (now : ℕ) (S : ℕ → Type 0) (es xs : List Entry) → AllNear now S es xs → LastR (NearRecord now S) (last_initiator now es) (last_initiator now xs)
last_near now S es xs a =
    last_related (NearRecord now S) (λ r x h. (sym (ap (λ (z : Record). z.begin) h.is), sym (ap (λ (z : Record). z.octets) h.is))) now es xs None None (trace_related now S es xs a) tt

-- who holds the token is the same by it; what a tap heard whole is over
pub last_same : (delay now : ℕ) (S : ℕ → Type 0) (l l' : Option Record) (k a : ℕ) → (S k → ⊥) → ((r : Record) → l ≡ Some r → (r.tap ≡ k → ⊥) → is_whole (slice_get r.heard k) ≡ true → r.end ≤ now)
    → LastR (NearRecord now S) l l' → SameLast delay l l' k a
last_same delay now S None None k a other over h = record { held = λ own g. g; taken = λ at g. g; offers = λ own g. g }
last_same delay now S None (Some x) k a other over h = absurd h
last_same delay now S (Some r) None k a other over h = absurd h
last_same delay now S (Some r) (Some x) k a other over h = subst (λ z. SameLast delay (Some r) (Some z) k a) (sym h.is) (record {
  held = λ own g. let e = same_Some r g.r g.is in
      record { r = y; is = refl; by = ap (λ (z : Record). z.tap) e ∙ g.by; begin = ap (λ (z : Record). z.begin) e ∙ g.begin; end = mine (ap (λ (z : Record). z.tap) e ∙ g.by) ∙ ap (λ (z : Record). z.end) e ∙ g.end; no_offer = ap offered_to e ∙ g.no_offer };
  taken = λ at g. let e = same_Some r g.r g.is in
      record {
        r = y;
        is = refl;
        another = λ z. g.another (sym (ap (λ (z : Record). z.tap) e) ∙ z);
        offers = ap offered_to e ∙ g.offers;
        whole = ap (λ (z : Record). is_whole (slice_get z.heard k)) e ∙ g.whole;
        heard_at = g.heard_at ∙ ap (λ (z : Record). z.end + delay) (sym e) ∙ ap (λ n. n + delay) (sym (ended (over r refl (λ z. g.another (sym (ap (λ (z : Record). z.tap) e) ∙ z)) (ap (λ (z : Record). is_whole (slice_get z.heard k)) e ∙ g.whole))));
      };
  offers = λ own g. let e = same_Some r g.r g.is in
      record { r = y; to = g.to; is = refl; by = ap (λ (z : Record). z.tap) e ∙ g.by; begin = ap (λ (z : Record). z.begin) e ∙ g.begin; end = mine (ap (λ (z : Record). z.tap) e ∙ g.by) ∙ ap (λ (z : Record). z.end) e ∙ g.end; offers = ap offered_to e ∙ g.offers };
})
  where
    y : Record
    y = record r { hits = h.hits; end = h.end }

    mine : r.tap ≡ k → h.end ≡ r.end
    mine by = ⊎_elim (λ (e : h.end ≡ r.end). e) (λ (b : S r.tap × (now < h.end) × (h.end ≤ r.end)). absurd (other (subst S by b.0))) h.ends

    ended : r.end ≤ now → h.end ≡ r.end
    ended le = ⊎_elim (λ (e : h.end ≡ r.end). e) (λ (b : S r.tap × (now < h.end) × (h.end ≤ r.end)). absurd (omega (arith, le, b.1, b.2))) h.ends

-- ---- the taps beside it

-- what a tap was: it ran as it runs, or has started now
pub data Ran (delay now : ℕ) (trace : List Entry) (taps : List Tap) (k : ℕ) (u : Tap) : Type 0 where
  AsBefore : (t : Tap) → slice_get taps k ≡ Some t → t.running ≡ true → t.since ≡ u.since → t.amid ≡ u.amid → Ran delay now trace taps k u
  Started : u.since ≡ now → u.amid ≡ list_any (reaches_now delay k now) trace → Ran delay now trace taps k u

pub record WasTap (taps : List Tap) (k : ℕ) (u : Tap) : Type 0 where
  pub t : Tap
  pub here : slice_get taps k ≡ Some t
  pub spec : t.spec ≡ u.spec

pub record TapsWere (delay now : ℕ) (trace : List Entry) (taps taps' : List Tap) : Type 0 where
  pub specs : map (λ t. t.spec) taps' ≡ map (λ t. t.spec) taps
  pub was : (k : ℕ) (u : Tap) → slice_get taps' k ≡ Some u → WasTap taps k u
  pub ran : (k : ℕ) (u : Tap) → slice_get taps' k ≡ Some u → u.running ≡ true → Ran delay now trace taps k u

pub taps_same : (delay now : ℕ) (trace : List Entry) (taps : List Tap) → TapsWere delay now trace taps taps
taps_same delay now trace taps = record { specs = refl; was = λ k u h. record { t = u; here = h; spec = refl }; ran = λ k u h run. AsBefore u h run refl refl }

-- what a telegram in the air is at a tap that starts where it begins to reach it
pub reaches_it : (delay k now : ℕ) (x : Record) (es : List Entry) → In (Sent x) es → (x.tap ≡ k → ⊥) → is_unheard (slice_get x.heard k) ≡ false → x.begin + delay ≤ now → now < x.end + delay → list_any (reaches_now delay k now) es ≡ true
reaches_it delay k now x [] i ne heard b e = absurd i
reaches_it delay k now x (y ∷ es) i ne heard b e =
    ⊎_elim (λ (same : y ≡ Sent x). or_left (reaches_now delay k now y) (list_any (reaches_now delay k now) es) (subst (λ z. reaches_now delay k now z ≡ true) (sym same) here))
    (λ (j : In (Sent x) es). or_right (reaches_now delay k now y) (list_any (reaches_now delay k now) es) (reaches_it delay k now x es j ne heard b e)) i
  where
    span : Span
    span = record { begin = x.begin + delay; end = x.end + delay }

    there : contains_moment now span ≡ true
    there = ap (λ c. c && nat_lt now (x.end + delay)) (le-leb (x.begin + delay) now b) ∙ lt-ltb now (x.end + delay) e

    here : reaches_now delay k now (Sent x) ≡ true
    here = by_test (λ o. is_there now o ≡ true) (x.tap == k || is_unheard (slice_get x.heard k)) None (Some span) (λ f. absurd (none (x.tap == k) refl f)) (λ _. there)
      where
        none : (c : Bool) → (x.tap == k) ≡ c → (c || is_unheard (slice_get x.heard k)) ≡ true → ⊥
        none true e f = ne (eqb-true x.tap k e)
        none false e f = let w : true ≡ false = sym f ∙ heard in cc

-- ---- each record

comes_near : (delay now : ℕ) (S : ℕ → Type 0) (l l' : Option Record) (r : Record) (h : List Hit) (m : ℕ) → m ≤ r.end → LastR (NearRecord now S) l l' → ComesBefore delay l r → ComesBefore delay l' (record r { hits = h; end = m })
comes_near delay now S None None r h m le lr c = absurd c
comes_near delay now S None (Some x) r h m le lr c = absurd c
comes_near delay now S (Some y) None r h m le lr c = absurd lr
comes_near delay now S (Some y) (Some x) r h m le lr c =
    subst (λ z. ComesBefore delay (Some z) (record r { hits = h; end = m })) (sym lr.is)
    (⊎_elim (λ (same : (r.tap ≡ y.tap) × (r.begin ≡ y.begin)). inl same)
    (λ (before : (r.end ≤ y.begin) × ((r.end + delay ≤ y.begin) ⊎ ((r.tap ≡ y.tap) × (offered_to r ≡ None)))).
    inr (omega (arith, before.0, le), ⊎_elim (λ (a : r.end + delay ≤ y.begin). inl (omega (arith, a, le))) (λ (b : (r.tap ≡ y.tap) × (offered_to r ≡ None)). inr b) before.1)) c)

-- what had ended early is what had ended
ended_back : (delay now tap b q : ℕ) (S : ℕ → Type 0) (e x : Entry) → q < b → b ≤ now → Near now S e x → EndedBefore delay tap b q x → EndedBefore delay tap b q e
ended_back delay now tap b q S (Noise u) (Noise v) lt le h f = ⊎_elim (λ (a : b ≤ v.begin). inl (omega (arith, a, h.0))) (λ (a : v.end ≤ q). inr (omega (arith, a, h.1))) f
ended_back delay now tap b q S (Noise u) (Sent x) lt le h f = absurd h
ended_back delay now tap b q S (Sent r) (Noise v) lt le h f = absurd h
ended_back delay now tap b q S (Sent r) (Sent x) lt le h f =
    let g = subst (λ z. EndedBefore delay tap b q (Sent z)) h.is f in (
      λ mine ini. ⊎_elim (λ (a : b ≤ r.begin). inl a) (λ (a : h.end ≤ q). inr (let e = ended (omega (arith, a, lt, le)) in omega (arith, e, a))) (g.0 mine ini),
      λ other. ⊎_elim (λ (a : b ≤ r.begin + delay). inl a) (λ (a : h.end + delay ≤ q). inr (let e = ended (omega (arith, a, lt, le)) in omega (arith, e, a))) (g.1 other),
    )
  where
    ended : h.end ≤ now → h.end ≡ r.end
    ended le = ⊎_elim (λ (e : h.end ≡ r.end). e) (λ (b : S r.tap × (now < h.end) × (h.end ≤ r.end)). absurd (omega (arith, le, b.1))) h.ends

origin_near : (p : Params) (now : ℕ) (S : ℕ → Type 0) (es xs : List Entry) (new old : List Waited) (r : Record) (h : List Hit) (m : ℕ) → r.begin ≤ now → AllNear now S es xs → Origin p es old r → Origin p xs (new ++ old) (record r { hits = h; end = m })
origin_near p now S es xs new old r h m begun near o =
    ⊎_elim (λ (w : list_any (λ w. (w.tap == r.tap) && nat_le r.begin w.moment) old ≡ true). inl (any_more (λ w. (w.tap == r.tap) && nat_le r.begin w.moment) new old w))
    (λ (f : (q : ℕ) → Each (EndedBefore p.ttd r.tap r.begin q) es → r.begin ≤ q + (p.tsl + p.lag)). inr (λ q all.
    ⊎_elim (λ (lt : q < r.begin). f q (each_back (EndedBefore p.ttd r.tap r.begin q) (EndedBefore p.ttd r.tap r.begin q) now S es xs (λ e x n g. ended_back p.ttd now r.tap r.begin q S e x lt begun n g) near all))
    (λ (le : r.begin ≤ q). omega (arith, le)) (cases_lt q r.begin))) o

record_near : (p : Params) (now : ℕ) (S : ℕ → Type 0) (es xs : List Entry) (taps taps' : List Tap) (new old : List Waited) (l l' : Option Record) (r : Record) (h : List Hit) (m : ℕ)
    → TapsWere p.ttd now es taps taps' → AllNear now S es xs → LastR (NearRecord now S) l l' → (m ≡ r.end) ⊎ (S r.tap × (now < m) × (m ≤ r.end)) → In (Sent r) es
    → RecordHolds p now taps es old l r → RecordHolds p now taps' xs (new ++ old) l' (record r { hits = h; end = m })
record_near p now S es xs taps taps' new old l l' r h m were near lr ends inside o = record {
  begun = o.begun;
  some = ⊎_elim (λ (e : m ≡ r.end). omega (arith, e, o.some)) (λ (b : S r.tap × (now < m) × (m ≤ r.end)). omega (arith, b.1, o.begun)) ends;
  fits = omega (arith, o.fits, le);
  spelled = o.spelled;
  order = λ ini. comes_near p.ttd now S l l' r h m le lr (o.order ini);
  source = λ da sa e. subst (λ s. sa ≡ address_at s r.tap) (sym were.specs) (o.source da sa e);
  reaches_all = o.reaches_all;
  origin = λ ini late. origin_near p now S es xs new old r h m o.begun near (o.origin ini late);
  pending = λ k u at ne late. let b = were.was k u at in o.pending k b.t b.here ne (omega (arith, late, le));
  one_whole = λ i j u v hu hv wu wv e.
      let b = were.was i u hu in let d = were.was j v hv in
      o.one_whole i j b.t d.t b.here d.here wu wv (ap (λ (s : TapSpec). s.address) b.spec ∙ e ∙ sym (ap (λ (s : TapSpec). s.address) d.spec));
  older = λ k u v hu run hv ne e. older k u v hu (were.ran k u hu run) hv ne e;
}
  where
    le : m ≤ r.end
    le = (record_ends now S r m ends).1

    older : (k : ℕ) (u v : Tap) → slice_get taps' k ≡ Some u → Ran p.ttd now es taps k u → slice_get taps' r.tap ≡ Some v → (r.tap ≡ k → ⊥) → u.spec.address ≡ v.spec.address → (r.begin ≤ u.since) × (u.since ≡ r.begin + p.ttd → u.amid ≡ true)
    older k u v hu (AsBefore t at run since amid) hv ne e =
        let b = were.was k u hu in let d = were.was r.tap v hv in
        let same = same_Some b.t t (sym b.here ∙ at) in
        let g = o.older k t d.t at run d.here ne (ap (λ (z : Tap). z.spec.address) (sym same) ∙ ap (λ (s : TapSpec). s.address) b.spec ∙ e ∙ sym (ap (λ (s : TapSpec). s.address) d.spec)) in
        (omega (arith, g.0, since), λ z. sym amid ∙ g.1 (since ∙ z))
    older k u v hu (Started since amid) hv ne e =
        (omega (arith, o.begun, since), λ z. amid ∙ reaches_it p.ttd k now r es inside ne (o.reaches_all k) (omega (arith, z, since)) (omega (arith, z, since, o.some)))

each_inside : (P : Entry → Type 0) (es : List Entry) → Each P es → Each (λ e. P e × In e es) es
each_inside P [] all = tt
each_inside P (e ∷ es) all = ((all.0, inl refl), each_map (λ x. P x × In x es) (λ x. P x × In x (e ∷ es)) es (λ x h. (h.0, inr h.1)) (each_inside P es all.1))

entry_near : (p : Params) (now : ℕ) (S : ℕ → Type 0) (es xs : List Entry) (taps taps' : List Tap) (new old : List Waited) (l l' : Option Record) (e x : Entry)
    → TapsWere p.ttd now es taps taps' → AllNear now S es xs → LastR (NearRecord now S) l l' → Near now S e x → In e es → EntryHolds p now taps es old l e → EntryHolds p now taps' xs (new ++ old) l' x
entry_near p now S es xs taps taps' new old l l' (Noise a) (Noise b) were near lr n i o =
    (omega (arith, o.0, n.0), omega (arith, o.1, n.0, n.1))
entry_near p now S es xs taps taps' new old l l' (Noise a) (Sent x) were near lr n i o = absurd n
entry_near p now S es xs taps taps' new old l l' (Sent r) (Noise b) were near lr n i o = absurd n
entry_near p now S es xs taps taps' new old l l' (Sent r) (Sent x) were near lr n i o =
    subst (λ z. RecordHolds p now taps' xs (new ++ old) l' z) (sym n.is) (record_near p now S es xs taps taps' new old l l' r n.hits n.end were near lr n.ends i o)

pub entries_near : (p : Params) (now : ℕ) (S : ℕ → Type 0) (es xs : List Entry) (taps taps' : List Tap) (new old : List Waited) (l l' : Option Record) → TapsWere p.ttd now es taps taps' → AllNear now S es xs → LastR (NearRecord now S) l l'
    → Each (EntryHolds p now taps es old l) es → Each (EntryHolds p now taps' xs (new ++ old) l') xs
entries_near p now S es xs taps taps' new old l l' were near lr all =
    each_near (λ e. EntryHolds p now taps es old l e × In e es) (EntryHolds p now taps' xs (new ++ old) l') now S es xs (λ e x n h. entry_near p now S es xs taps taps' new old l l' e x were near lr n h.1 h.0) near
    (each_inside (EntryHolds p now taps es old l) es all)

-- ---- no two begin together

another_near : (now : ℕ) (S : ℕ → Type 0) (e x f y : Entry) → Near now S e x → Near now S f y → IsAnother e f → IsAnother x y
another_near now S (Noise a) (Noise b) f y h g i = tt
another_near now S (Noise a) (Sent x) f y h g i = absurd h
another_near now S (Sent r) (Noise b) f y h g i = absurd h
another_near now S (Sent r) (Sent x) (Noise a) (Noise b) h g i = tt
another_near now S (Sent r) (Sent x) (Noise a) (Sent y) h g i = absurd g
another_near now S (Sent r) (Sent x) (Sent s) (Noise b) h g i = absurd g
another_near now S (Sent r) (Sent x) (Sent s) (Sent y) h g i = λ same begin.
    i (sym (ap (λ (z : Record). z.tap) h.is) ∙ same ∙ ap (λ (z : Record). z.tap) g.is) (sym (ap (λ (z : Record). z.begin) h.is) ∙ begin ∙ ap (λ (z : Record). z.begin) g.is)

pub others_near : (now : ℕ) (S : ℕ → Type 0) (es xs : List Entry) → AllNear now S es xs → AllOthers es → AllOthers xs
others_near now S [] [] a o = tt
others_near now S [] (x ∷ xs) a o = absurd a
others_near now S (e ∷ es) [] a o = absurd a
others_near now S (e ∷ es) (x ∷ xs) a o = (each_near (IsAnother e) (IsAnother x) now S es xs (λ f y n i. another_near now S e x f y a.0 n i) a.1 o.0, others_near now S es xs a.1 o.1)

-- What the telegram that ends now brings to a tap.
use Rattle.std.proofs.Common.{◌≡◌, ℕ, zero, suc, ◌+◌, ◌<◌, ◌≤◌, ◌⊎◌, inl, inr, ⊎_elim, Bool, true, false, if◌then◌else◌, not, ◌==◌, ◌&&◌, ◌||◌, List, [], ◌∷◌, refl, sym, ap, ◌∙◌, subst, arith, Option, Some, None}
use Rattle.std.specs.Prelude.{slice_get, nat_lt, max, min, find, IfSome, count_by}
use Rattle.std.specs.List.{list_any}
use Rattle.std.specs.Option.{option_and_then, option_map}
use Rattle.std.proofs.lemmas.Bool.{ltb-true, ltb-false, lt-ltb, le-ltb, eqb-true, eq-eqb, le-leb, and_parts, cases_lt}
use Rattle.std.proofs.lemmas.Option.{none-some, same_Some}
use Rattle.pb_timers.specs.Timers.{Params}
use Rattle.law_turn.specs.Spans.{Span}
use Rattle.law_turn.specs.Phases.{Phase}
use Rattle.law_turn.specs.Stations.{earlier}
use Rattle.law_turn.specs.Arrivals.{Token, NoTelegram, arrival_of}
use Rattle.law_model.specs.Trace.{Heard, Pending, Record, Entry, Sent, Noise, entry_begin, entry_end, characters_at}
use Rattle.law_model.specs.Medium.{Tap, part_after, reaches, is_unheard, overlaps, sends_during, sensed, hears_from, fills_burst, fills_burst_to, entry_characters, burst_characters, is_whole_at, heard_in_the_end, heard_by, ends_between}
use Rattle.law_model.specs.World.{later_end, entry_next_end, next_end_of}
use Rattle.law_model.specs.Step.{is_past}
use Rattle.law_model.proofs.Cases.{by_test}
use Rattle.law_token.specs.Lists.{Each, In}
use Rattle.law_token.specs.Places.{heard_span, Place}
use Rattle.law_token.specs.Tokens.{Taken}
use Rattle.law_token.specs.Entries.{ComesBefore, IsAnother, AllOthers, TakesNone}
use Rattle.law_token.proofs.bus.Lists.{each_in}
use Rattle.law_runs.specs.Initiators.{telegram_of, initiates, is_initiator, offered_by, offered_to}
use Rattle.law_runs.specs.Legality.{is_whole}
use Rattle.law_token.proofs.pass.Marks.{Brings}
use Rattle.law_model.proofs.Window.{EachSpan, Solid, SolidO, not_false}
use Rattle.law_token.proofs.bus.Spans.{to_spans}

-- ---- no end is passed

pub is_past-earlier : (a b : Option ℕ) (u : ℕ) → is_past (earlier a b) u ≡ false → (is_past a u ≡ false) × (is_past b u ≡ false)
is_past-earlier None b u e = (refl, e)
is_past-earlier (Some a) None u e = (e, refl)
is_past-earlier (Some a) (Some b) u e = (le-ltb a u (omega (arith, ltb-false (min a b) u e)), le-ltb b u (omega (arith, ltb-false (min a b) u e)))

pub later_end-bound : (now m u : ℕ) → is_past (later_end now m) u ≡ false → now < m → u ≤ m
later_end-bound now m u =
    by_test (λ (o : Option ℕ). is_past o u ≡ false → now < m → u ≤ m) (nat_lt now m) (Some m) None
    (λ _ e later. ltb-false m u e)
    (λ passed e later. absurd (omega (arith, ltb-false now m passed)))

solid_part : (now to since : ℕ) (span : Span) → span.begin < span.end → (now < span.end → to ≤ span.end) → SolidO now to (part_after since span)
solid_part now to since span some ends =
    by_test (SolidO now to) (nat_lt since span.end) (Some (record { begin = max span.begin since; end = span.end })) None
    (λ after. (omega (arith, ltb-true since span.end after), ends)) (λ _. tt)

abbrev pub HasLength : Entry → Type 0
HasLength e = entry_begin e < entry_end e

solid_entries : (delay tap since now to : ℕ) (es : List Entry) → Each HasLength es → is_past (next_end_of delay now es) to ≡ false → Each (λ e. SolidO now to (heard_span delay tap since e)) es
solid_entries delay tap since now to [] some past = tt
solid_entries delay tap since now to (Noise span ∷ es) some past =
    let ends = is_past-earlier (later_end now span.end) (next_end_of delay now es) to past in
    (solid_part now to since span some.0 (later_end-bound now span.end to ends.0), solid_entries delay tap since now to es some.1 ends.1)
solid_entries delay tap since now to (Sent r ∷ es) some past =
    let ends = is_past-earlier (entry_next_end delay now (Sent r)) (next_end_of delay now es) to past in
    let own = is_past-earlier (later_end now r.end) (later_end now (reaches delay r).end) to ends.0 in (
      by_test (λ o. SolidO now to (option_and_then (part_after since) o)) (r.tap == tap || is_unheard (slice_get r.heard tap)) None (Some (reaches delay r))
          (λ _. tt) (λ _. solid_part now to since (reaches delay r) (omega (arith, some.0)) (later_end-bound now (reaches delay r).end to own.1)),
      solid_entries delay tap since now to es some.1 ends.1,
    )

pub solid_sensed : (delay tap since now to : ℕ) (es : List Entry) → Each HasLength es → is_past (next_end_of delay now es) to ≡ false → EachSpan (Solid now to) (sensed delay tap since es)
solid_sensed delay tap since now to es some past = to_spans (SolidO now to) delay tap since es (solid_entries delay tap since now to es some past)

-- ---- the telegram that fills the burst

pub record Filling (delay : ℕ) (tap : ℕ) (t : Tap) (trace : List Entry) (to : ℕ) (r : Record) : Type 0 where
  pub inside : In (Sent r) trace
  pub ends : (reaches delay r).end ≡ to
  pub fills : fills_burst delay tap t trace r ≡ true

-- what the search finds, or nothing
find_in : (test : Entry → Bool) (es : List Entry) (e : Entry) → find test es ≡ Some e → (test e ≡ true) × In e es
find_in test [] e f = absurd cc
find_in test (x ∷ xs) e f =
    by_test (λ (o : Option Entry). o ≡ Some e → (test e ≡ true) × In e (x ∷ xs)) (test x) (Some x) (find test xs)
    (λ passes g. let same : x ≡ e = cc in (subst (λ z. test z ≡ true) same passes, inl same)) (λ _ g. let h = find_in test xs e g in (h.0, inr h.1)) f

pub filling : (delay tap : ℕ) (t : Tap) (trace : List Entry) (to : ℕ) (r : Record) → find (fills_burst_to delay tap t trace to) trace ≡ Some (Sent r) → Filling delay tap t trace to r
filling delay tap t trace to r f =
    let h = find_in (fills_burst_to delay tap t trace to) trace (Sent r) f in
    let both = and_parts ((reaches delay r).end == to) (fills_burst delay tap t trace r) h.0 in
    record { inside = h.1; ends = eqb-true (reaches delay r).end to both.0; fills = both.1 }

-- the own telegram was over
over_before : (c : Place) (trace : List Entry) (now : ℕ) (own : Span) (t : Tap) (r : Record) → own.begin ≤ now → now < c.now → Filling c.p.ttd c.tap t trace c.now r → r.begin < r.end
    → (own.begin < own.end → (span : Span) → list_any (sends_during c.tap span) trace ≡ false → overlaps own span ≡ false) → own.end ≤ c.now
over_before c trace now own t r begun lt f some sent =
    let parts = and_parts (not (r.tap == c.tap || is_unheard (slice_get r.heard c.tap)) && hears_from t (reaches c.p.ttd r).begin && count_by (overlaps (reaches c.p.ttd r)) (sensed c.p.ttd c.tap t.since trace) == 1) (not (list_any (sends_during c.tap (reaches c.p.ttd r)) trace)) f.fills in
    let apart : own.begin < own.end → (nat_lt own.begin (r.end + c.p.ttd) && nat_lt (r.begin + c.p.ttd) own.end) ≡ false = λ long. sent long (reaches c.p.ttd r) (not_false (list_any (sends_during c.tap (reaches c.p.ttd r)) trace) parts.1) in
    ⊎_elim (λ (h : c.now < own.end). absurd (overlap (omega (arith, f.ends)) (omega (arith, f.ends, some)) (apart (omega arith)))) (λ (h : own.end ≤ c.now). h) (cases_lt c.now own.end)
  where
    overlap : own.begin < r.end + c.p.ttd → r.begin + c.p.ttd < own.end → (nat_lt own.begin (r.end + c.p.ttd) && nat_lt (r.begin + c.p.ttd) own.end) ≡ false → ⊥
    overlap a b e = let w : true ≡ false = sym (ap (λ x. x && nat_lt (r.begin + c.p.ttd) own.end) (lt-ltb own.begin (r.end + c.p.ttd) a) ∙ lt-ltb (r.begin + c.p.ttd) own.end b) ∙ e in cc

-- ---- the token that ends now is the last initiator record

-- what is needed of the telegram's octets: characters that bring a telegram are all its octets
pub record IsSpelled (delay tap : ℕ) (t : Tap) (trace : List Entry) (r : Record) : Type 0 where
  pub same : (da sa : ℕ) → arrival_of (characters_at tap r) ≡ Token da sa → telegram_of r ≡ Token da sa
  pub whole : (da sa : ℕ) → arrival_of (characters_at tap r) ≡ Token da sa → fills_burst delay tap t trace r ≡ true → is_whole_at delay tap t trace r ≡ true

another_begin : (e : Record) (es : List Entry) (x : Record) → Each (IsAnother (Sent e)) es → In (Sent x) es → e.tap ≡ x.tap → e.begin ≡ x.begin → ⊥
another_begin e es x all i et eb = each_in (IsAnother (Sent e)) (Sent x) es all i et eb

pub sent_same : (x y : Record) → Sent x ≡ Sent y → x ≡ y
sent_same x y e = cc

pub one_sending : (es : List Entry) (x y : Record) → AllOthers es → In (Sent x) es → In (Sent y) es → x.tap ≡ y.tap → x.begin ≡ y.begin → x ≡ y
one_sending [] x y others i j et eb = absurd i
one_sending (Noise span ∷ es) x y others i j et eb = one_sending es x y others.1 (inner x i) (inner y j) et eb
  where
    inner : (z : Record) → In (Sent z) (Noise span ∷ es) → In (Sent z) es
    inner z (inl e) = absurd (let w : Noise span ≡ Sent z = e in cc)
    inner z (inr h) = h
one_sending (Sent e ∷ es) x y others (inl a) (inl b) et eb = sym (sent_same e x a) ∙ sent_same e y b
one_sending (Sent e ∷ es) x y others (inl a) (inr b) et eb =
    let same = sent_same e x a in absurd (another_begin e es y others.0 b (ap (λ (r : Record). r.tap) same ∙ et) (ap (λ (r : Record). r.begin) same ∙ eb))
one_sending (Sent e ∷ es) x y others (inr a) (inl b) et eb =
    let same = sent_same e y b in absurd (another_begin e es x others.0 a (ap (λ (r : Record). r.tap) same ∙ sym et) (ap (λ (r : Record). r.begin) same ∙ sym eb))
one_sending (Sent e ∷ es) x y others (inr a) (inr b) et eb = one_sending es x y others.1 a b et eb

-- a token to another that ends now at a tap comes before nothing: it is the last
is_last : (delay now to : ℕ) (trace : List Entry) (last : Option Record) (r : Record) (da : ℕ) → AllOthers trace → In (Sent r) trace → IfSome last (λ l. In (Sent l) trace × (l.begin ≤ now)) → now < to → r.end + delay ≡ to
    → ComesBefore delay last r → offered_to r ≡ Some da → last ≡ Some r
is_last delay now to trace None r da others i j lt ends order offers = absurd order
is_last delay now to trace (Some l) r da others i j lt ends order offers =
    ⊎_elim (λ (same : (r.tap ≡ l.tap) × (r.begin ≡ l.begin)). ap (λ x. Some x) (sym (one_sending trace r l others i j.0 same.0 same.1)))
    (λ (before : (r.end ≤ l.begin) × ((r.end + delay ≤ l.begin) ⊎ ((r.tap ≡ l.tap) × (offered_to r ≡ None)))).
    absurd (⊎_elim (λ (a : r.end + delay ≤ l.begin). omega (arith, j.1)) (λ (b : (r.tap ≡ l.tap) × (offered_to r ≡ None)). none-some da (sym b.1 ∙ offers)) before.1)) order

-- ---- what becomes of what it was to the tap

heard_at : (delay : ℕ) (trace : List Entry) (r : Record) (k n i : ℕ) (ts : List Tap) (hs : List Heard) (t : Tap) (h : Heard) → n ≡ k + i → slice_get ts i ≡ Some t → slice_get hs i ≡ Some h
    → slice_get (heard_by delay trace r k ts hs) i ≡ Some (heard_in_the_end (is_whole_at delay n t trace r) h)
heard_at delay trace r k n i [] hs t h e a b = absurd (none-some t a)
heard_at delay trace r k n i (u ∷ us) [] t h e a b = absurd (none-some h b)
heard_at delay trace r k n zero (u ∷ us) (g ∷ gs) t h e a b =
    let su = same_Some u t a in let sg = same_Some g h b in let sn : k ≡ n = omega arith in
    ap (λ (z : ℕ). Some (heard_in_the_end (is_whole_at delay z u trace r) g)) sn ∙ ap (λ (z : Tap). Some (heard_in_the_end (is_whole_at delay n z trace r) g)) su ∙ ap (λ (z : Heard). Some (heard_in_the_end (is_whole_at delay n t trace r) z)) sg
heard_at delay trace r k n (suc i) (u ∷ us) (g ∷ gs) t h e a b = heard_at delay trace r (k + 1) n i us gs t h (omega (arith, e)) a b

-- the last record as a pass leaves it
abbrev pub relabelled : ℕ → List Tap → List Entry → Record → Record
relabelled delay taps trace r = record r { heard = heard_by delay trace r 0 taps r.heard }

taken_by : (c : Place) (trace : List Entry) (taps : List Tap) (t : Tap) (r : Record) → slice_get taps c.tap ≡ Some t → slice_get r.heard c.tap ≡ Some Pending → is_whole_at c.p.ttd c.tap t trace r ≡ true
    → (r.tap ≡ c.tap → ⊥) → offered_to r ≡ Some c.address → r.end + c.p.ttd ≡ c.now → Taken c.p.ttd (Some (relabelled c.p.ttd taps trace r)) c.tap c.address c.now
taken_by c trace taps t r here pending whole other offers ends = record {
  r = relabelled c.p.ttd taps trace r;
  is = refl;
  another = other;
  offers = offers;
  whole = ap is_whole (heard_at c.p.ttd trace r 0 c.tap c.tap taps r.heard t Pending (omega arith) here pending ∙ ap (λ b. Some (heard_in_the_end b Pending)) whole);
  heard_at = sym ends;
}

-- ---- the last record, and the entries, as a pass leaves them

abbrev pub relabel : ℕ → List Tap → List Entry → ℕ → ℕ → Record → Record
relabel delay taps trace now to r = if ends_between now to (reaches delay r) then relabelled delay taps trace r else r

-- what is needed of a record of the trace for what its end brings
pub record Telling (p : Params) (now : ℕ) (trace : List Entry) (last : Option Record) (k : ℕ) (t : Tap) (ph : Phase) (r : Record) : Type 0 where
  pub some : r.begin < r.end
  pub order : is_initiator r ≡ true → ComesBefore p.ttd last r
  pub pending : (r.tap ≡ k → ⊥) → now < r.end + p.ttd → slice_get r.heard k ≡ Some Pending
  pub spelled : IsSpelled p.ttd k t trace r
  pub namesake : (da sa : ℕ) → telegram_of r ≡ Token da sa → da ≡ t.spec.address → fills_burst p.ttd k t trace r ≡ true → now < r.end + p.ttd → sa ≡ da → TakesNone ph

abbrev pub Tells : Params → ℕ → List Entry → Option Record → ℕ → Tap → Phase → Entry → Type 0
Tells p now trace last k t ph (Noise span) = Unit {0}
Tells p now trace last k t ph (Sent r) = Telling p now trace last k t ph r

pub not_mine : (delay tap : ℕ) (t : Tap) (trace : List Entry) (r : Record) → fills_burst delay tap t trace r ≡ true → r.tap ≡ tap → ⊥
not_mine delay tap t trace r f mine =
    let a = and_parts (not (r.tap == tap || is_unheard (slice_get r.heard tap)) && hears_from t (reaches delay r).begin && count_by (overlaps (reaches delay r)) (sensed delay tap t.since trace) == 1) (not (list_any (sends_during tap (reaches delay r)) trace)) f in
    let b = and_parts (not (r.tap == tap || is_unheard (slice_get r.heard tap)) && hears_from t (reaches delay r).begin) (count_by (overlaps (reaches delay r)) (sensed delay tap t.since trace) == 1) a.0 in
    let d = and_parts (not (r.tap == tap || is_unheard (slice_get r.heard tap))) (hears_from t (reaches delay r).begin) b.0 in
    let e : (true || is_unheard (slice_get r.heard tap)) ≡ false = sym (ap (λ b. b || is_unheard (slice_get r.heard tap)) (eq-eqb r.tap tap mine)) ∙ not_false (r.tap == tap || is_unheard (slice_get r.heard tap)) d.0 in
    let w : true ≡ false = e in cc

offered_token : (r : Record) (da sa : ℕ) → telegram_of r ≡ Token da sa → (sa ≡ da → ⊥) → (offered_to r ≡ Some da) × (is_initiator r ≡ true)
offered_token r da sa e ne = (ap offered_by e ∙ other (da == sa) refl, ap initiates e)
  where
    other : (b : Bool) → (da == sa) ≡ b → (if b then None else Some da) ≡ Some da
    other true f = absurd (ne (sym (eqb-true da sa f)))
    other false f = refl

pub brings : (p : Params) (now to k a : ℕ) (trace : List Entry) (taps : List Tap) (last : Option Record) (t : Tap) (own : Span) (ph : Phase) → own.begin ≤ now → now < to → slice_get taps k ≡ Some t → a ≡ t.spec.address → AllOthers trace
    → Each (Tells p now trace last k t ph) trace → IfSome last (λ l. In (Sent l) trace × (l.begin ≤ now)) → (own.begin < own.end → (span : Span) → list_any (sends_during k span) trace ≡ false → overlaps own span ≡ false)
    → Brings (record { p = p; now = to; tap = k; address = t.spec.address; since = t.since }) (option_map (relabel p.ttd taps trace now to) last) a own ph (arrival_of (burst_characters p.ttd k t trace to))
brings p now to k a trace taps last t own ph begun lt here same others tells inside sent = by (find (fills_burst_to p.ttd k t trace to) trace) refl
  where
    c : Place
    c = record { p = p; now = to; tap = k; address = t.spec.address; since = t.since }

    taken : (r : Record) → Filling p.ttd k t trace to r → Telling p now trace last k t ph r → (TakesNone ph → ⊥) → (da sa : ℕ) → arrival_of (characters_at k r) ≡ Token da sa → da ≡ a → Taken p.ttd (option_map (relabel p.ttd taps trace now to) last) k t.spec.address to
    taken r f h old da sa e to_me =
        let token = h.spelled.same da sa e in
        let other = offered_token r da sa token (λ z. old (h.namesake da sa token (to_me ∙ same) f.fills (omega (arith, f.ends)) z)) in
        let me = other.0 ∙ ap (λ n. Some n) (to_me ∙ same) in
        let l = is_last p.ttd now to trace last r da others f.inside inside lt f.ends (h.order other.1) other.0 in
        let ended : ends_between now to (reaches p.ttd r) ≡ true = grind (arith, lt-ltb now (r.end + p.ttd) (omega (arith, f.ends)), le-leb (r.end + p.ttd) to (omega (arith, f.ends))) in
        subst (λ x. Taken p.ttd (option_map (relabel p.ttd taps trace now to) x) k t.spec.address to) (sym l)
        (subst (λ x. Taken p.ttd (Some x) k t.spec.address to) (sym (relabels r ended))
        (taken_by c trace taps t r here (h.pending (not_mine p.ttd k t trace r f.fills) (omega (arith, f.ends))) (h.spelled.whole da sa e f.fills) (not_mine p.ttd k t trace r f.fills) me f.ends))
      where
        relabels : (r : Record) → ends_between now to (reaches p.ttd r) ≡ true → relabel p.ttd taps trace now to r ≡ relabelled p.ttd taps trace r
        relabels r e = ap (λ b. if b then relabelled p.ttd taps trace r else r) e

    by : (o : Option Entry) → find (fills_burst_to p.ttd k t trace to) trace ≡ o → Brings c (option_map (relabel p.ttd taps trace now to) last) a own ph (arrival_of (entry_characters k o))
    by None f = record { over = λ some. absurd (some refl); token = λ old da sa e. absurd (let w : NoTelegram ≡ Token da sa = e in cc) }
    by (Some (Noise span)) f = record { over = λ some. absurd (some refl); token = λ old da sa e. absurd (let w : NoTelegram ≡ Token da sa = e in cc) }
    by (Some (Sent r)) f =
        let fl = filling p.ttd k t trace to r f in
        let h = each_in (Tells p now trace last k t ph) (Sent r) trace tells fl.inside in
        record {
          over = λ _. over_before c trace now own t r begun lt fl h.some sent;
          token = λ old da sa e me. taken r fl h old da sa e me;
        }

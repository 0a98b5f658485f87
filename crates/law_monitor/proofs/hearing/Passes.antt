-- What a pass of time tells a tap continues its tape.
use Rattle.std.proofs.Common.{◌≡◌, ℕ, ◌<◌, ◌≤◌, ◌⊎◌, inl, inr, ⊎_elim, true, false, List, [], ◌∷◌, ◌++◌, refl, sym, subst, arith, Option, Some, None}
use Rattle.std.specs.Prelude.{find}
use Rattle.std.proofs.lemmas.Bool.{cases_lt}
use Rattle.pb_telegram.specs.declared.chars.RxChar.{RxChar}
use Rattle.law_turn.specs.Spans.{Span}
use Rattle.law_model.specs.Trace.{Entry}
use Rattle.law_model.specs.Medium.{Tap, sensed, begins_in, ends_in, begin_mark, end_mark, burst_characters}
use Rattle.law_model.proofs.Window.{EachSpan, Solid, SolidO, NoBegin, Opened, ClosedAt, SensesS, found, begin_found, window}
use Rattle.law_token.specs.Lists.{Each}
use Rattle.law_token.specs.Places.{IsOver}
use Rattle.law_token.proofs.bus.Lists.{each_map, each_both}
use Rattle.law_token.proofs.bus.Spans.{to_spans, from_spans}
use Rattle.law_token.proofs.pass.Brings.{HasLength}
use Rattle.pb_monitor.specs.Captures.{Burst, Has}
use Rattle.law_monitor.specs.Taps.{Tape, noted_all}
use Rattle.law_monitor.proofs.hearing.Ears.{Ear, at_ear, IsClearAt, Clear, BeginsIn, Begins}
use Rattle.law_monitor.proofs.hearing.Filled.{filled}
use Rattle.law_monitor.proofs.hearing.Spelled.{SpellsOne}
use Rattle.law_monitor.proofs.hearing.Tapes.{Closed, Open, Hearing, chain_more}

-- ---- entries and what is heard of them

abbrev AllSolid : Ear → (from to : ℕ) → List Entry → Type 0
AllSolid x from to es = Each (λ e. SolidO from to (at_ear x e)) es

abbrev spans_of : Ear → List Entry → List Span
spans_of x es = sensed x.delay x.tap x.since es

to_clear : (x : Ear) (u v : ℕ) (es : List Entry) → Clear x u v es → EachSpan (λ s. (v ≤ s.begin) ⊎ (s.end ≤ u)) (spans_of x es)
to_clear x u v es all = to_spans (IsOver v u) x.delay x.tap x.since es all

from_clear : (x : Ear) (u v : ℕ) (es : List Entry) → EachSpan (λ s. (v ≤ s.begin) ⊎ (s.end ≤ u)) (spans_of x es) → Clear x u v es
from_clear x u v es all = from_spans (IsOver v u) x.delay x.tap x.since es tt all

-- what is clear for longer is clear
less_clear : (u v w : ℕ) (o : Option Span) → u ≤ w → w ≤ v → IsOver v u o → IsOver w w o
less_clear u v w None a b h = tt
less_clear u v w (Some s) a b h = ⊎_elim (λ (l : v ≤ s.begin). inl (omega (arith, l, b))) (λ (l : s.end ≤ u). inr (omega (arith, l, a))) h

pub each_less : (x : Ear) (u v w : ℕ) (es : List Entry) → u ≤ w → w ≤ v → Clear x u v es → Clear x w w es
each_less x u v w es a b all = each_map (IsClearAt x u v) (IsClearAt x w w) es (λ e h. less_clear u v w (at_ear x e) a b h) all

-- one of some entries, and each of them
pub has_each : (X Y : Entry → Type 0) (es : List Entry) → ((e : Entry) → X e → Y e → ⊥) → Has X es → Each Y es → ⊥
has_each X Y [] f h all = h
has_each X Y (e ∷ es) f h all = ⊎_elim (λ (a : X e). f e a all.0) (λ (b : Has X es). has_each X Y es f b all.1) h

-- ---- within a pass nothing ends

within_one : (from to m : ℕ) (o : Option Span) → from < m → m < to → SolidO from to o → IsOver m m o → IsOver from from o
within_one from to m None a b s h = tt
within_one from to m (Some y) a b s h =
    ⊎_elim (λ (l : m ≤ y.begin). inl (omega (arith, l, a)))
    (λ (l : y.end ≤ m). ⊎_elim (λ (e : from < y.end). absurd (let g = s.1 e in omega (arith, g, l, b))) (λ (e : y.end ≤ from). inr e) (cases_lt from y.end)) h

-- so what lasted at its begin lasts at each moment of it
within : (x : Ear) (from to m : ℕ) (es : List Entry) → from < m → m < to → AllSolid x from to es → Clear x m m es → Clear x from from es
within x from to m es a b solid all =
    each_both (λ e. SolidO from to (at_ear x e)) (IsClearAt x m m) (IsClearAt x from from) es (λ e s h. within_one from to m (at_ear x e) a b s h) solid all

lasts_on : (from to b m : ℕ) (o : Option Span) → from ≤ b → b < m → m < to → BeginsIn b o → SolidO from to o × IsOver m m o → ⊥
lasts_on from to b m None low after before begins h = begins
lasts_on from to b m (Some s) low after before begins h =
    let at = begins.0 in
    let some = begins.1 in
    let on = h.0.1 (omega (arith, low, at, some)) in
    ⊎_elim (λ (a : m ≤ s.begin). omega (arith, a, at, after)) (λ (a : s.end ≤ m). omega (arith, a, on, before)) h.1

-- and what begins in it lasts to its end
new_lasts : (x : Ear) (from to b m : ℕ) (es : List Entry) → from ≤ b → b < m → m < to → Has (Begins x b) es → AllSolid x from to es → Clear x m m es → ⊥
new_lasts x from to b m es low after before begins solid clear =
    has_each (Begins x b) (λ e. SolidO from to (at_ear x e) × IsClearAt x m m e) es (λ e h both. lasts_on from to b m (at_ear x e) low after before h both) begins
    (each_both (λ e. SolidO from to (at_ear x e)) (IsClearAt x m m) (λ e. SolidO from to (at_ear x e) × IsClearAt x m m e) es (λ e s h. (s, h)) solid clear)

-- ---- a burst begins in a pass

before_one : (from to q b : ℕ) (o : Option Span) → b < to → SolidO from to o → IsOver from q o → IsOver b b o → IsOver b q o
before_one from to q b None high s h g = tt
before_one from to q b (Some y) high s h g =
    ⊎_elim (λ (a : b ≤ y.begin). inl a)
    (λ (a : y.end ≤ b). ⊎_elim (λ (c : from ≤ y.begin). absurd (let some = s.0 in let on = s.1 (omega (arith, c, some)) in omega (arith, on, a, high))) (λ (c : y.end ≤ q). inr c) h) g

-- nothing was heard before it since the last end
before_begin : (x : Ear) (from to q b : ℕ) (es : List Entry) → b < to → AllSolid x from to es → Clear x q from es → Clear x b b es → Clear x q b es
before_begin x from to q b es high solid clear split =
    each_both (λ e. SolidO from to (at_ear x e) × IsClearAt x q from e) (IsClearAt x b b) (IsClearAt x q b) es (λ e s h. before_one from to q b (at_ear x e) high s.0 s.1 h)
    (each_both (λ e. SolidO from to (at_ear x e)) (IsClearAt x q from) (λ e. SolidO from to (at_ear x e) × IsClearAt x q from e) es (λ e s h. (s, h)) solid clear) split

-- what is heard begins with an entry
abbrev BeginsSome : Ear → List Entry → Option Span → Type 0
BeginsSome x all None = Unit {0}
BeginsSome x all (Some s) = Has (Begins x s.begin) all

begins_each : (x : Ear) (from to : ℕ) (all es : List Entry) → ((m : ℕ) → Has (Begins x m) es → Has (Begins x m) all) → AllSolid x from to es → Each (λ e. BeginsSome x all (at_ear x e)) es
begins_each x from to all [] f solid = tt
begins_each x from to all (e ∷ es) f solid = (head (at_ear x e) refl solid.0, begins_each x from to all es (λ m h. f m (inr h)) solid.1)
  where
    head : (o : Option Span) → at_ear x e ≡ o → SolidO from to o → BeginsSome x all o
    head None is s = tt
    head (Some y) is s = f y.begin (inl (subst (BeginsIn y.begin) (sym is) (refl, s.0)))

begins_found : (x : Ear) (from to : ℕ) (es : List Entry) (s : Span) → AllSolid x from to es → find (begins_in (spans_of x es) from to) (spans_of x es) ≡ Some s → Has (Begins x s.begin) es
begins_found x from to es s solid f =
    (found (λ y. Has (Begins x y.begin) es) (begins_in (spans_of x es) from to) (spans_of x es) s (to_spans (BeginsSome x es) x.delay x.tap x.since es (begins_each x from to es es (λ m h. h) solid)) f).1

-- ---- the tape after a pass

opened_at : (x : Ear) (to : ℕ) (es : List Entry) → Opened to (spans_of x es) → Clear x to to es → ⊥
opened_at x to es opened clear = let h = opened to (to_clear x to to es clear) in omega (arith, h)

-- whether a burst is open, as a pass counts it
senses_open : (x : Ear) (from q : ℕ) (es : List Entry) (b : ℕ) → Open x from es q (Some b) → SensesS true from (spans_of x es)
senses_open x from q es b o n over =
    ⊎_elim (λ (a : from < n). a) (λ (a : n ≤ from). absurd (let early = o.1 in o.4 from early (omega arith) (each_less x n from from es a (omega arith) (from_clear x n from es over)))) (cases_lt from n)

abbrev OutOf : (from to : ℕ) → Option Span → Type 0
OutOf from to None = Unit {0}
OutOf from to (Some y) = (y.begin < from) ⊎ (to ≤ y.begin)

still_one : (from to q : ℕ) (o : Option Span) → IsOver from q o → OutOf from to o → IsOver to q o
still_one from to q None h g = tt
still_one from to q (Some y) h g =
    ⊎_elim (λ (a : y.begin < from). ⊎_elim (λ (b : from ≤ y.begin). absurd (omega (arith, a, b))) (λ (b : y.end ≤ q). inr b) h) (λ (a : to ≤ y.begin). inl a) g

-- nothing begins: all is clear for longer
still_clear : (x : Ear) (from to q : ℕ) (es : List Entry) → Clear x q from es → NoBegin from to (spans_of x es) → Clear x q to es
still_clear x from to q es clear none =
    each_both (IsClearAt x q from) (λ e. OutOf from to (at_ear x e)) (IsClearAt x q to) es (λ e h g. still_one from to q (at_ear x e) h g) clear (from_spans (OutOf from to) x.delay x.tap x.since es tt none)

-- at each moment of a burst that was open something lasts
open_through : (x : Ear) (from to b q : ℕ) (es : List Entry) → AllSolid x from to es → Open x from es q (Some b) → (m : ℕ) → b < m → m < to → Clear x m m es → ⊥
open_through x from to b q es solid o m after before clear =
    ⊎_elim (λ (a : from < m). let early = o.1 in o.4 from early (omega arith) (within x from to m es a before solid clear)) (λ (a : m ≤ from). o.4 m after a clear) (cases_lt from m)

closing : (x : Ear) (t : Tap) (es : List Entry) (q b to : ℕ) (chars : List RxChar) → x.since ≡ t.since → q < to → Clear x q b es → Has (Begins x b) es → ((m : ℕ) → b < m → m < to → Clear x m m es → ⊥)
    → Each SpellsOne es → Each HasLength es → chars ≡ burst_characters x.delay x.tap t es to → Closed x es (record { begin = b; end = to; chars = chars })
closing x t es q b to chars same late clear begins through spelled long is = record {
  begins = begins;
  through = through;
  told = λ spells. filled x t es q b to chars same late clear through spelled long is spells;
}

pub pass_hearing : (x : Ear) (t : Tap) (es : List Entry) (from to : ℕ) (tape : Tape) → x.since ≡ t.since → from < to → EachSpan (Solid from to) (spans_of x es) → Each SpellsOne es → Each HasLength es
    → Hearing x from es tape → Hearing x to es (noted_all tape (begin_mark to (find (begins_in (spans_of x es) from to) (spans_of x es)) ++ end_mark x.delay x.tap t es to (find (ends_in (spans_of x es) from to) (spans_of x es))))
pass_hearing x t es from to tape same lt solid spelled long h = by tape.begun refl (find (begins_in xs from to) xs) refl (find (ends_in xs from to) xs) refl
  where
    xs : List Span
    xs = spans_of x es

    all_solid : AllSolid x from to es
    all_solid = from_spans (SolidO from to) x.delay x.tap x.since es tt solid

    Next : Option ℕ → List Burst → Type 0
    Next o bs = Hearing x to es (record { bursts = bs; begun = o })

    q_late : h.q < to
    q_late = let l = h.late in omega (arith, l, lt)

    began : x.since ≤ to
    began = let b = h.began in omega (arith, b, lt)

    -- a burst ends
    ends : (b : ℕ) (y : Span) → h.q ≤ b → b < to → y.end ≡ to → ClosedAt to xs → Clear x h.q b es → Has (Begins x b) es → ((m : ℕ) → b < m → m < to → Clear x m m es → ⊥)
        → Next None (tape.bursts ++ record { begin = b; end = y.end; chars = burst_characters x.delay x.tap t es y.end } ∷ [])
    ends b y after before at closed clear begins through = subst (λ n. Next None (tape.bursts ++ record { begin = b; end = n; chars = burst_characters x.delay x.tap t es n } ∷ [])) (sym at) (record {
      began = began;
      q = to;
      late = omega arith;
      chain = chain_more x es x.since h.q tape.bursts (record { begin = b; end = to; chars = burst_characters x.delay x.tap t es to }) h.chain after before clear
          (closing x t es h.q b to (burst_characters x.delay x.tap t es to) same q_late clear begins through spelled long refl);
      open_since = from_clear x to to es closed.0;
    })

    by : (o : Option ℕ) → tape.begun ≡ o → (b : Option Span) → find (begins_in xs from to) xs ≡ b → (e : Option Span) → find (ends_in xs from to) xs ≡ e
        → Hearing x to es (noted_all (record { bursts = tape.bursts; begun = o }) (begin_mark to b ++ end_mark x.delay x.tap t es to e))
    by None is None fb None fe =
        let o : Open x from es h.q None = subst (Open x from es h.q) is h.open_since in
        let w = window from to xs false None None lt solid (to_clear x from from es (each_less x h.q from from es h.late (omega arith) o)) fb fe in
        record { began = began; q = h.q; late = omega (arith, q_late); chain = h.chain; open_since = still_clear x from to h.q es o w }
    by None is None fb (Some y) fe =
        let o : Open x from es h.q None = subst (Open x from es h.q) is h.open_since in
        absurd (window from to xs false None (Some y) lt solid (to_clear x from from es (each_less x h.q from from es h.late (omega arith) o)) fb fe)
    by None is (Some s) fb None fe =
        let o : Open x from es h.q None = subst (Open x from es h.q) is h.open_since in
        let w = window from to xs false (Some s) None lt solid (to_clear x from from es (each_less x h.q from from es h.late (omega arith) o)) fb fe in
        let f = begin_found from to xs s solid fb in
        let begins = begins_found x from to es s all_solid fb in
        let low = f.low in
        let high = f.high in
        record {
          began = began;
          q = h.q;
          late = omega (arith, q_late);
          chain = h.chain;
          open_since = (
            let l = h.late in omega (arith, l, low),
            high,
            before_begin x from to h.q s.begin es high all_solid o (from_clear x s.begin s.begin es f.none),
            begins,
            λ m after at clear. ⊎_elim (λ (a : m < to). new_lasts x from to s.begin m es low after a begins all_solid clear)
                (λ (a : to ≤ m). opened_at x to es w.2 (subst (λ n. Clear x n n es) (let z : m ≡ to = omega (arith, a, at) in z) clear)) (cases_lt m to),
          );
        }
    by None is (Some s) fb (Some y) fe =
        let o : Open x from es h.q None = subst (Open x from es h.q) is h.open_since in
        let w = window from to xs false (Some s) (Some y) lt solid (to_clear x from from es (each_less x h.q from from es h.late (omega arith) o)) fb fe in
        let f = begin_found from to xs s solid fb in
        let begins = begins_found x from to es s all_solid fb in
        let low = f.low in
        let high = f.high in
        ends s.begin y (let l = h.late in omega (arith, l, low)) high w.2 w.3 (before_begin x from to h.q s.begin es high all_solid o (from_clear x s.begin s.begin es f.none)) begins
        (λ m after before clear. new_lasts x from to s.begin m es low after before begins all_solid clear)
    by (Some b) is None fb None fe =
        let o : Open x from es h.q (Some b) = subst (Open x from es h.q) is h.open_since in
        let w = window from to xs true None None lt solid (senses_open x from h.q es b o) fb fe in
        let early = o.1 in
        record {
          began = began;
          q = h.q;
          late = omega (arith, q_late);
          chain = h.chain;
          open_since = (
            o.0,
            omega (arith, early, lt),
            o.2,
            o.3,
            λ m after at clear. ⊎_elim (λ (a : m < to). open_through x from to b h.q es all_solid o m after a clear)
                (λ (a : to ≤ m). opened_at x to es w (subst (λ n. Clear x n n es) (let z : m ≡ to = omega (arith, a, at) in z) clear)) (cases_lt m to),
          );
        }
    by (Some b) is None fb (Some y) fe =
        let o : Open x from es h.q (Some b) = subst (Open x from es h.q) is h.open_since in
        let w = window from to xs true None (Some y) lt solid (senses_open x from h.q es b o) fb fe in
        let early = o.1 in
        ends b y o.0 (omega (arith, early, lt)) w.0 w.1 o.2 o.3 (λ m after before clear. open_through x from to b h.q es all_solid o m after before clear)
    by (Some b) is (Some s) fb e fe =
        let o : Open x from es h.q (Some b) = subst (Open x from es h.q) is h.open_since in
        absurd (window from to xs true (Some s) e lt solid (senses_open x from h.q es b o) fb fe)

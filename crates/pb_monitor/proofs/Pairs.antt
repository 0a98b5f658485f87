-- Each initiator telegram of a legal trace is legal after the one before it.
use Rattle.std.proofs.Common.{◌≡◌, ℕ, ◌+◌, ◌*◌, ◌<◌, ◌≤◌, Bool, true, false, if◌then◌else◌, ◌==◌, ◌&&◌, List, [], ◌∷◌, ◌++◌, refl, ap, ◌∙◌, arith, Option, Some, None}
use Rattle.std.proofs.lemmas.Bool.{lt-ltb}
use Rattle.std.specs.Prelude.{nat_lt}
use Rattle.pb_timers.specs.Timers.{Params}
use Rattle.law_model.specs.Trace.{Record, Entry, Sent, Noise}
use Rattle.law_model.specs.Medium.{TapSpec, reaches, reaches_taps}
use Rattle.law_turn.specs.Spans.{Span}
use Rattle.law_model.proofs.Cases.{by_test}
use Rattle.law_runs.specs.Activity.{active_at, is_within}
use Rattle.law_runs.specs.Initiators.{is_initiator, later_record}
use Rattle.law_runs.specs.Legality.{is_legal_after, first_illegal_from}

-- the last initiator record of some entries
abbrev pub last_of : Option Record → List Entry → Option Record
last_of last [] = last
last_of last (Noise span ∷ es) = last_of last es
last_of last (Sent r ∷ es) = last_of (later_record last r) es

pub legal_in : (p : Params) (specs : List TapSpec) (trace : List Entry) (last : Option Record) (n : ℕ) (es : List Entry) (r : Record) (fs : List Entry) → is_initiator r ≡ true
    → first_illegal_from p specs trace last n (es ++ Sent r ∷ fs) ≡ None → is_legal_after p specs trace (last_of last es) r ≡ true
legal_in p specs trace last n [] r fs init h = by (is_initiator r) (is_legal_after p specs trace last r) init h
  where
    by : (b c : Bool) → b ≡ true
        → (if b then (if c then first_illegal_from p specs trace (Some r) (n + 1) fs else Some n) else first_illegal_from p specs trace last (n + 1) fs) ≡ None → c ≡ true
    by true true i h = refl
    by true false i h = absurd cc
    by false c i h = absurd cc
legal_in p specs trace last n (Noise span ∷ es) r fs init h = legal_in p specs trace last (n + 1) es r fs init h
legal_in p specs trace last n (Sent x ∷ es) r fs init h =
    by (is_initiator x) (is_legal_after p specs trace last x) (λ l. legal_in p specs trace l (n + 1) es r fs init) h
  where
    by : (b c : Bool) → ((l : Option Record) → first_illegal_from p specs trace l (n + 1) (es ++ Sent r ∷ fs) ≡ None → is_legal_after p specs trace (last_of l es) r ≡ true)
        → (if b then (if c then first_illegal_from p specs trace (Some x) (n + 1) (es ++ Sent r ∷ fs) else Some n) else first_illegal_from p specs trace last (n + 1) (es ++ Sent r ∷ fs)) ≡ None
        → is_legal_after p specs trace (last_of (if b then Some x else last) es) r ≡ true
    by true true rec h = rec (Some x) h
    by true false rec h = absurd cc
    by false c rec h = rec last h

-- An entry that begins at a listener, where its speaker surely hears it, within the slot behind a telegram: the speaker has not had silence in that slot.
pub touches : (delay tsl : ℕ) (trace : List Entry) (x : Record) (e : Entry) (m : ℕ) → (reaches_taps delay e).begin ≡ m → x.end + delay ≤ m → m + 2 * delay < x.end + delay + tsl
    → (reaches_taps delay e).begin < (reaches_taps delay e).end → is_within x.end (x.end + tsl) (active_at delay x.tap e) ≡ true
touches delay tsl trace x (Noise span) m is after soon some = within span.begin span.end (omega (arith, is, soon, after)) (omega (arith, is, after, some))
  where
    within : (b e : ℕ) → b < x.end + tsl → x.end < e → (nat_lt b (x.end + tsl) && nat_lt x.end e) ≡ true
    within b e h i = ap (λ z. z && nat_lt x.end e) (lt-ltb b (x.end + tsl) h) ∙ lt-ltb x.end e i
touches delay tsl trace x (Sent r) m is after soon some =
    by_test (λ (s : Span). (nat_lt s.begin (x.end + tsl) && nat_lt x.end s.end) ≡ true) (r.tap == x.tap) (record { begin = r.begin; end = r.end }) (reaches delay r)
    (λ _. within r.begin r.end (omega (arith, is, soon, after)) (omega (arith, is, after, some))) (λ _. within (r.begin + delay) (r.end + delay) (omega (arith, is, soon, after)) (omega (arith, is, after, some)))
  where
    within : (b e : ℕ) → b < x.end + tsl → x.end < e → (nat_lt b (x.end + tsl) && nat_lt x.end e) ≡ true
    within b e h i = ap (λ z. z && nat_lt x.end e) (lt-ltb b (x.end + tsl) h) ∙ lt-ltb x.end e i

-- The marks of a tap stand in order of time.
use Rattle.std.proofs.Common.{◌≡◌, ℕ, ◌+◌, ◌<◌, List, [], ◌∷◌, ◌++◌, true, false, ◌&&◌, arith, Option, Some, None}
use Rattle.std.specs.Prelude.{nat_lt, nat_le, find, IfSome}
use Rattle.std.proofs.lemmas.Bool.{ltb-true, leb-true, and_parts}
use Rattle.law_turn.specs.Spans.{Span}
use Rattle.law_turn.specs.Marks.{Mark, moment_of}
use Rattle.law_model.specs.Trace.{Entry}
use Rattle.law_model.specs.Medium.{Tap, burst_begins, burst_ends, begins_in, ends_in, begin_mark, end_mark, marks_between, new_marks, sensed}
use Rattle.law_model.specs.World.{next_end_of}
use Rattle.law_model.specs.Step.{is_past, told}
use Rattle.law_model.specs.Laws.{InOrder, AllInOrder, AllBegun}
use Rattle.law_model.proofs.Cases.{by_test}
use Rattle.law_model.proofs.Window.{EachSpan, Solid}
use Rattle.law_model.proofs.Bursts.{found_solid}
use Rattle.law_model.proofs.Sensed.{solid-sensed}

in_order-marks : (delay : ℕ) (tap : ℕ) (t : Tap) (trace : List Entry) (from to : ℕ) (spans : List Span) (begun ended : Option Span) → from < to
    → IfSome begun (λ x. (begins_in spans from to x ≡ true) × Solid from to x) → IfSome ended (λ x. (ends_in spans from to x ≡ true) × Solid from to x)
    → InOrder from (begin_mark to begun ++ end_mark delay tap t trace to ended) to
in_order-marks delay tap t trace from to spans None None later b e = omega arith
in_order-marks delay tap t trace from to spans None (Some y) later b e =
    let both = and_parts (nat_lt from y.end && nat_le y.end to) (burst_ends spans y.end) e.0 in
    let window = and_parts (nat_lt from y.end) (nat_le y.end to) both.0 in
    (omega (arith, ltb-true from y.end window.0), leb-true y.end to window.1)
in_order-marks delay tap t trace from to spans (Some x) None later b e =
    let both = and_parts (nat_le from x.begin && nat_lt x.begin to) (burst_begins spans x.begin) b.0 in
    let window = and_parts (nat_le from x.begin) (nat_lt x.begin to) both.0 in
    (leb-true from x.begin window.0, omega (arith, ltb-true x.begin to window.1))
in_order-marks delay tap t trace from to spans (Some x) (Some y) later b e =
    let both = and_parts (nat_le from x.begin && nat_lt x.begin to) (burst_begins spans x.begin) b.0 in
    let window = and_parts (nat_le from x.begin) (nat_lt x.begin to) both.0 in
    let both' = and_parts (nat_lt from y.end && nat_le y.end to) (burst_ends spans y.end) e.0 in
    let window' = and_parts (nat_lt from y.end) (nat_le y.end to) both'.0 in
    (leb-true from x.begin window.0, (omega (arith, ltb-true x.begin to window.1, e.1.1 (ltb-true from y.end window'.0)), leb-true y.end to window'.1))

in_order-spans : (delay : ℕ) (tap : ℕ) (t : Tap) (trace : List Entry) (from to : ℕ) (spans : List Span) → from < to → EachSpan (Solid from to) spans
    → InOrder from (begin_mark to (find (begins_in spans from to) spans) ++ end_mark delay tap t trace to (find (ends_in spans from to) spans)) to
in_order-spans delay tap t trace from to spans later solid =
    in_order-marks delay tap t trace from to spans (find (begins_in spans from to) spans) (find (ends_in spans from to) spans) later
    (found_solid from to (begins_in spans from to) spans solid) (found_solid from to (ends_in spans from to) spans solid)

in_order-new_marks : (delay : ℕ) (tap : ℕ) (t : Tap) (trace : List Entry) (from to : ℕ) → from < to → AllBegun from trace
    → is_past (next_end_of delay from trace) to ≡ false → InOrder from (new_marks delay tap t trace from to) to
in_order-new_marks delay tap t trace from to later begun past =
    by_test (λ (ms : List Mark). InOrder from ms to) t.running (marks_between delay tap t trace from to) []
    (λ _. in_order-spans delay tap t trace from to (sensed delay tap t.since trace) later (solid-sensed delay tap from to t.since trace begun past))
    (λ _. omega arith)

in_order-append : (from mid to : ℕ) (ms ns : List Mark) → InOrder from ms mid → InOrder mid ns to → InOrder from (ms ++ ns) to
in_order-append from mid to [] [] a b = omega arith
in_order-append from mid to [] (n ∷ ns) a b = (omega (arith, a, b.0), b.1)
in_order-append from mid to (m ∷ ms) ns a b = (a.0, in_order-append (moment_of m) mid to ms ns a.1 b)

-- time passes, and the marks of each tap go on in order
pub in_order-told : (delay : ℕ) (trace : List Entry) (from to tap : ℕ) (ts : List Tap) → from < to → AllBegun from trace
    → is_past (next_end_of delay from trace) to ≡ false → AllInOrder from ts → AllInOrder to (told delay trace from to tap ts)
in_order-told delay trace from to tap [] later begun past ordered = tt
in_order-told delay trace from to tap (t ∷ ts) later begun past ordered = (
  omega (arith, ordered.0),
  in_order-append 0 from to t.marks (new_marks delay tap t trace from to) ordered.1 (in_order-new_marks delay tap t trace from to later begun past),
  in_order-told delay trace from to (tap + 1) ts later begun past ordered.2,
)

-- What a tap senses of entries that have begun.
use Rattle.std.proofs.Common.{◌≡◌, ℕ, ◌+◌, ◌-◌, ◌/◌, ◌<◌, ◌≤◌, List, [], ◌∷◌, map, Bool, true, false, if◌then◌else◌, ◌||◌, ◌&&◌, ◌==◌, refl, ap, sym, ◌∙◌, arith, Option, Some, None}
use Rattle.std.specs.Prelude.{nat_lt, max, min, slice_get, slice_set}
use Rattle.std.specs.List.{cons_option}
use Rattle.std.specs.Option.{option_and_then}
use Rattle.std.proofs.lemmas.Bool.{and_parts, ltb-true, ltb-false, lt-ltb, le-ltb, eq-eqb, eqb-true}
use Rattle.law_turn.specs.Spans.{Span}
use Rattle.law_turn.specs.Stations.{earlier}
use Rattle.pb_timers.specs.Timers.{bits}
use Rattle.law_model.specs.Trace.{Record, Entry, Sent, Noise, entry_begin, goes_before, with_entry, cut_end, cut_at, Unheard, is_noise_at, noisy_until, begins_from, unheard_at}
use Rattle.law_model.specs.Medium.{lasts_through, part_after, reaches, is_unheard, at_tap, sensed}
use Rattle.law_model.specs.World.{later_end, entry_next_end, next_end_of}
use Rattle.law_model.specs.Step.{is_past, change_first}
use Rattle.law_model.specs.Laws.{AllBegun, is_open}
use Rattle.law_model.proofs.Cases.{by_test}
use Rattle.law_model.proofs.Window.{EachSpan, Solid}

-- ---- the next end

pub is_past-earlier : (a b : Option ℕ) (u : ℕ) → is_past (earlier a b) u ≡ false → (is_past a u ≡ false) × (is_past b u ≡ false)
is_past-earlier None b u e = (refl, e)
is_past-earlier (Some a) None u e = (e, refl)
is_past-earlier (Some a) (Some b) u e =
    (le-ltb a u (omega (arith, ltb-false (min a b) u e)), le-ltb b u (omega (arith, ltb-false (min a b) u e)))

-- a pass to u that is not past an end reaches it at most
pub later_end-bound : (now m u : ℕ) → is_past (later_end now m) u ≡ false → now < m → u ≤ m
later_end-bound now m u =
    by_test (λ (o : Option ℕ). is_past o u ≡ false → now < m → u ≤ m) (nat_lt now m) (Some m) None
    (λ _ e later. ltb-false m u e)
    (λ passed e later. absurd (omega (arith, ltb-false now m passed)))

-- ---- spans

solid_part : (t u since : ℕ) (span : Span) (rest : List Span) → span.begin < span.end → (t < span.end → u ≤ span.end)
    → EachSpan (Solid t u) rest → EachSpan (Solid t u) (cons_option (part_after since span) rest)
solid_part t u since span rest some ends solid =
    by_test (λ (o : Option Span). EachSpan (Solid t u) (cons_option o rest)) (nat_lt since span.end) (Some (record { begin = max span.begin since; end = span.end })) None
    (λ after. ((omega (arith, ltb-true since span.end after), ends), solid))
    (λ _. solid)

-- what a tap senses lasts for some time, and a pass that goes past no end goes past none of it
pub solid-sensed : (delay tap t u since : ℕ) (trace : List Entry) → AllBegun t trace → is_past (next_end_of delay t trace) u ≡ false
    → EachSpan (Solid t u) (sensed delay tap since trace)
solid-sensed delay tap t u since [] begun past = tt
solid-sensed delay tap t u since (Noise span ∷ es) begun past =
    let ends = is_past-earlier (later_end t span.end) (next_end_of delay t es) u past in
    solid_part t u since span (sensed delay tap since es) begun.1 (later_end-bound t span.end u ends.0)
    (solid-sensed delay tap t u since es begun.2 ends.1)
solid-sensed delay tap t u since (Sent r ∷ es) begun past =
    let ends = is_past-earlier (entry_next_end delay t (Sent r)) (next_end_of delay t es) u past in
    let own = is_past-earlier (later_end t r.end) (later_end t (reaches delay r).end) u ends.0 in
    let rest : EachSpan (Solid t u) (sensed delay tap since es) = solid-sensed delay tap t u since es begun.2 ends.1 in
    by_test (λ (o : Option Span). EachSpan (Solid t u) (cons_option (option_and_then (part_after since) o) (sensed delay tap since es)))
    (r.tap == tap || is_unheard (slice_get r.heard tap)) None (Some (reaches delay r))
    (λ _. rest)
    (λ _. solid_part t u since (reaches delay r) (sensed delay tap since es) (omega (arith, begun.1)) (later_end-bound t (reaches delay r).end u own.1) rest)

soon_part : (by since : ℕ) (span : Span) (rest : List Span) → since ≤ by → span.begin ≤ by → EachSpan (λ x. x.begin ≤ by) rest → EachSpan (λ x. x.begin ≤ by) (cons_option (part_after since span) rest)
soon_part by since span rest started begun soon =
    by_test (λ (o : Option Span). EachSpan (λ x. x.begin ≤ by) (cons_option o rest)) (nat_lt since span.end) (Some (record { begin = max span.begin since; end = span.end })) None
    (λ _. (omega arith, soon)) (λ _. soon)

-- what has begun reaches a tap a cable delay later at the latest
pub soon-sensed : (delay tap t since : ℕ) (trace : List Entry) → since ≤ t → AllBegun t trace → EachSpan (λ x. x.begin ≤ t + delay) (sensed delay tap since trace)
soon-sensed delay tap t since [] started begun = tt
soon-sensed delay tap t since (Noise span ∷ es) started begun =
    soon_part (t + delay) since span (sensed delay tap since es) (omega arith) (omega (arith, begun.0)) (soon-sensed delay tap t since es started begun.2)
soon-sensed delay tap t since (Sent r ∷ es) started begun =
    let rest : EachSpan (λ x. x.begin ≤ t + delay) (sensed delay tap since es) = soon-sensed delay tap t since es started begun.2 in
    by_test (λ (o : Option Span). EachSpan (λ x. x.begin ≤ t + delay) (cons_option (option_and_then (part_after since) o) (sensed delay tap since es)))
    (r.tap == tap || is_unheard (slice_get r.heard tap)) None (Some (reaches delay r))
    (λ _. rest)
    (λ _. soon_part (t + delay) since (reaches delay r) (sensed delay tap since es) (omega arith) (omega (arith, begun.0)) rest)

-- ---- the own telegram

at_tap-own : (delay : ℕ) (tap : ℕ) (r : Record) → r.tap ≡ tap → at_tap delay tap (Sent r) ≡ None
at_tap-own delay tap r own = ap (λ (b : Bool). if b || is_unheard (slice_get r.heard tap) then None else Some (reaches delay r)) (eq-eqb r.tap tap own)

-- a tap does not sense what it sends
pub sensed-own : (delay : ℕ) (tap since : ℕ) (r : Record) (trace : List Entry) → r.tap ≡ tap → sensed delay tap since (with_entry (Sent r) trace) ≡ sensed delay tap since trace
sensed-own delay tap since r [] own = ap (λ (o : Option Span). cons_option (option_and_then (part_after since) o) []) (at_tap-own delay tap r own)
sensed-own delay tap since r (e ∷ es) own =
    by_test (λ (xs : List Entry). sensed delay tap since xs ≡ sensed delay tap since (e ∷ es)) (goes_before (Sent r) e) (Sent r ∷ e ∷ es) (e ∷ with_entry (Sent r) es)
    (λ _. ap (λ (o : Option Span). cons_option (option_and_then (part_after since) o) (sensed delay tap since (e ∷ es))) (at_tap-own delay tap r own))
    (λ _. ap (λ (xs : List Span). cons_option (option_and_then (part_after since) (at_tap delay tap e)) xs) (sensed-own delay tap since r es own))

-- ---- what is open

-- a stretch that is sensed from a moment on is not open at it
open-part_after : (now since : ℕ) (span : Span) (rest : List Span) → now ≤ max span.begin since → is_open (cons_option (part_after since span) rest) now ≡ is_open rest now
open-part_after now since span rest late =
    by_test (λ (o : Option Span). is_open (cons_option o rest) now ≡ is_open rest now) (nat_lt since span.end) (Some (record { begin = max span.begin since; end = span.end })) None
    (λ _. ap (λ (b : Bool). (b && nat_lt now span.end) || is_open rest now) (le-ltb (max span.begin since) now late))
    (λ _. refl)

-- an entry that begins now opens no burst yet
open-entry : (delay : ℕ) (tap since now : ℕ) (e : Entry) (rest : List Span) → entry_begin e ≡ now
    → is_open (cons_option (option_and_then (part_after since) (at_tap delay tap e)) rest) now ≡ is_open rest now
open-entry delay tap since now (Noise span) rest begun = open-part_after now since span rest (omega arith)
open-entry delay tap since now (Sent r) rest begun =
    by_test (λ (o : Option Span). is_open (cons_option (option_and_then (part_after since) o) rest) now ≡ is_open rest now)
    (r.tap == tap || is_unheard (slice_get r.heard tap)) None (Some (reaches delay r))
    (λ _. refl) (λ _. open-part_after now since (reaches delay r) rest (omega (arith, begun)))

open-behind : (now : ℕ) (o : Option Span) (xs ys : List Span) → is_open xs now ≡ is_open ys now → is_open (cons_option o xs) now ≡ is_open (cons_option o ys) now
open-behind now None xs ys same = same
open-behind now (Some span) xs ys same = ap (λ (b : Bool). lasts_through now span || b) same

pub open-with_entry : (delay : ℕ) (tap since now : ℕ) (e : Entry) (trace : List Entry) → entry_begin e ≡ now
    → is_open (sensed delay tap since (with_entry e trace)) now ≡ is_open (sensed delay tap since trace) now
open-with_entry delay tap since now e [] begun = open-entry delay tap since now e [] begun
open-with_entry delay tap since now e (x ∷ xs) begun =
    by_test (λ (es : List Entry). is_open (sensed delay tap since es) now ≡ is_open (sensed delay tap since (x ∷ xs)) now) (goes_before e x) (e ∷ x ∷ xs) (x ∷ with_entry e xs)
    (λ _. open-entry delay tap since now e (sensed delay tap since (x ∷ xs)) begun)
    (λ _. open-behind now (option_and_then (part_after since) (at_tap delay tap x)) (sensed delay tap since (with_entry e xs)) (sensed delay tap since xs)
    (open-with_entry delay tap since now e xs begun))

-- at its start nothing is open at a tap
pub open-started : (delay : ℕ) (tap now : ℕ) (trace : List Entry) → is_open (sensed delay tap now trace) now ≡ false
open-started delay tap now [] = refl
open-started delay tap now (Noise span ∷ es) = open-part_after now now span (sensed delay tap now es) (omega arith) ∙ open-started delay tap now es
open-started delay tap now (Sent r ∷ es) =
    by_test (λ (o : Option Span). is_open (cons_option (option_and_then (part_after now) o) (sensed delay tap now es)) now ≡ false)
    (r.tap == tap || is_unheard (slice_get r.heard tap)) None (Some (reaches delay r))
    (λ _. open-started delay tap now es) (λ _. open-part_after now now (reaches delay r) (sensed delay tap now es) (omega arith) ∙ open-started delay tap now es)

-- a test that passes, or fails
by_answer : (P : Bool → Type 0) (b : Bool) → (b ≡ true → P true) → (b ≡ false → P false) → P b
by_answer P true passes fails = passes refl
by_answer P false passes fails = fails refl

-- what is sensed of a stretch is open where the stretch and the tap have begun, and it has not ended
open-part : (now since : ℕ) (span : Span) (rest : List Span)
    → is_open (cons_option (part_after since span) rest) now ≡ ((nat_lt (max span.begin since) now && nat_lt now span.end) || is_open rest now)
open-part now since span rest =
    by_test (λ (o : Option Span). is_open (cons_option o rest) now ≡ ((nat_lt (max span.begin since) now && nat_lt now span.end) || is_open rest now)) (nat_lt since span.end)
    (Some (record { begin = max span.begin since; end = span.end })) None
    (λ _. refl)
    (λ over. ap (λ (b : Bool). b || is_open rest now) (sym (closed (ltb-false since span.end over))))
  where
    closed : span.end ≤ since → (nat_lt (max span.begin since) now && nat_lt now span.end) ≡ false
    closed over =
        by_answer (λ b. (b && nat_lt now span.end) ≡ false) (nat_lt (max span.begin since) now)
        (λ later. le-ltb now span.end (omega (arith, over, ltb-true (max span.begin since) now later)))
        (λ _. refl)

-- a telegram that is cut at a moment goes on after it exactly where it did before
cut-later : (delay now : ℕ) (r : Record) → nat_lt now (cut_end now r + delay) ≡ nat_lt now (r.end + delay)
cut-later delay now r =
    let next : now < r.begin + bits ((now - r.begin) / bits 1 + 1) = omega arith in
    by_answer (λ b. nat_lt now (cut_end now r + delay) ≡ b) (nat_lt now (r.end + delay))
    (λ later. lt-ltb now (cut_end now r + delay) (omega (arith, next, ltb-true now (r.end + delay) later)))
    (λ over. le-ltb now (cut_end now r + delay) (omega (arith, ltb-false now (r.end + delay) over)))

cut-part : (delay : ℕ) (since now : ℕ) (r : Record) (rest : List Span)
    → is_open (cons_option (part_after since (reaches delay (record r { end = cut_end now r }))) rest) now ≡ is_open (cons_option (part_after since (reaches delay r)) rest) now
cut-part delay since now r rest =
    open-part now since (reaches delay (record r { end = cut_end now r })) rest
    ∙ ap (λ (b : Bool). (nat_lt (max (r.begin + delay) since) now && b) || is_open rest now) (cut-later delay now r)
    ∙ sym (open-part now since (reaches delay r) rest)

-- a telegram whose speaker stops closes no burst yet
pub open-cut : (delay : ℕ) (tap since now speaker : ℕ) (trace : List Entry)
    → is_open (sensed delay tap since (map (cut_at now speaker) trace)) now ≡ is_open (sensed delay tap since trace) now
open-cut delay tap since now speaker [] = refl
open-cut delay tap since now speaker (Noise span ∷ es) =
    open-behind now (part_after since span) (sensed delay tap since (map (cut_at now speaker) es)) (sensed delay tap since es) (open-cut delay tap since now speaker es)
open-cut delay tap since now speaker (Sent r ∷ es) =
    let before = sensed delay tap since es in
    let after = sensed delay tap since (map (cut_at now speaker) es) in
    let seen : List Span → Record → List Span = λ rest x. cons_option (option_and_then (part_after since) (at_tap delay tap (Sent x))) rest in
    open-behind now (option_and_then (part_after since) (at_tap delay tap (Sent (if r.tap == speaker then record r { end = cut_end now r } else r)))) after before
    (open-cut delay tap since now speaker es)
    ∙ by_test (λ (x : Record). is_open (seen before x) now ≡ is_open (seen before r) now) (r.tap == speaker) (record r { end = cut_end now r }) r
    (λ _. by_answer (λ b. is_open (cons_option (option_and_then (part_after since) (if b then None else Some (reaches delay (record r { end = cut_end now r })))) before) now
    ≡ is_open (cons_option (option_and_then (part_after since) (if b then None else Some (reaches delay r))) before) now) (r.tap == tap || is_unheard (slice_get r.heard tap))
    (λ _. refl) (λ _. cut-part delay since now r before))
    (λ _. refl)

-- a change of the first entry that passes a test changes nothing that is open, where it changes nothing of such an entry
open-change_first : (delay : ℕ) (tap since now : ℕ) (test : Entry → Bool) (change : Entry → Entry) (trace : List Entry)
    → ((e : Entry) (rest : List Span) → test e ≡ true → is_open (cons_option (option_and_then (part_after since) (at_tap delay tap (change e))) rest) now
    ≡ is_open (cons_option (option_and_then (part_after since) (at_tap delay tap e)) rest) now)
    → is_open (sensed delay tap since (change_first test change trace)) now ≡ is_open (sensed delay tap since trace) now
open-change_first delay tap since now test change [] same = refl
open-change_first delay tap since now test change (e ∷ es) same =
    by_test (λ (xs : List Entry). is_open (sensed delay tap since xs) now ≡ is_open (sensed delay tap since (e ∷ es)) now) (test e) (change e ∷ es) (e ∷ change_first test change es)
    (λ passes. same e (sensed delay tap since es) passes)
    (λ _. open-behind now (option_and_then (part_after since) (at_tap delay tap e)) (sensed delay tap since (change_first test change es)) (sensed delay tap since es)
    (open-change_first delay tap since now test change es same))

-- noise that lasts longer is as open
pub open-longer : (delay : ℕ) (tap since now end : ℕ) (trace : List Entry) → now < end
    → is_open (sensed delay tap since (change_first (is_noise_at now) (noisy_until end) trace)) now ≡ is_open (sensed delay tap since trace) now
open-longer delay tap since now end trace later = open-change_first delay tap since now (is_noise_at now) (noisy_until end) trace same
  where
    same : (e : Entry) (rest : List Span) → is_noise_at now e ≡ true → is_open (cons_option (option_and_then (part_after since) (at_tap delay tap (noisy_until end e))) rest) now
        ≡ is_open (cons_option (option_and_then (part_after since) (at_tap delay tap e)) rest) now
    same (Sent r) rest noise = refl
    same (Noise span) rest noise =
        open-part now since (record span { end = max span.end end }) rest
        ∙ ap (λ (b : Bool). (nat_lt (max span.begin since) now && b) || is_open rest now) (lt-ltb now (max span.end end) (omega (arith, later)) ∙ sym noise)
        ∙ sym (open-part now since span rest)

-- what begins now is not open yet, whether it is lost at a tap or not
pub open-lost : (delay : ℕ) (tap since now at speaker : ℕ) (trace : List Entry)
    → is_open (sensed delay tap since (change_first (begins_from now speaker) (unheard_at at) trace)) now ≡ is_open (sensed delay tap since trace) now
open-lost delay tap since now at speaker trace = open-change_first delay tap since now (begins_from now speaker) (unheard_at at) trace same
  where
    unopened : (r : Record) (rest : List Span) → r.begin ≡ now → is_open (cons_option (option_and_then (part_after since) (at_tap delay tap (Sent r))) rest) now ≡ is_open rest now
    unopened r rest begun =
        by_test (λ (o : Option Span). is_open (cons_option (option_and_then (part_after since) o) rest) now ≡ is_open rest now)
        (r.tap == tap || is_unheard (slice_get r.heard tap)) None (Some (reaches delay r))
        (λ _. refl) (λ _. open-part_after now since (reaches delay r) rest (omega (arith, begun)))

    same : (e : Entry) (rest : List Span) → begins_from now speaker e ≡ true → is_open (cons_option (option_and_then (part_after since) (at_tap delay tap (unheard_at at e))) rest) now
        ≡ is_open (cons_option (option_and_then (part_after since) (at_tap delay tap e)) rest) now
    same (Noise span) rest begins = refl
    same (Sent r) rest begins =
        let begun : r.begin ≡ now = eqb-true r.begin now (and_parts (r.tap == speaker) (r.begin == now) begins).1 in
        unopened (record r { heard = slice_set r.heard at Unheard }) rest begun ∙ sym (unopened r rest begun)

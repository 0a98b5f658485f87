-- A tap stops: what it was sending ends early, and the other taps know what they knew.
use Rattle.std.proofs.Common.{◌≡◌, ℕ, ◌+◌, ◌-◌, ◌/◌, ◌<◌, ◌≤◌, ◌⊎◌, inl, inr, ⊎_elim, Bool, true, false, if◌then◌else◌, ◌==◌, ◌||◌, refl, ap, arith, Option, Some, None}
use Rattle.std.specs.Prelude.{slice_get, nat_lt, max}
use Rattle.std.specs.Option.{option_and_then}
use Rattle.std.proofs.lemmas.Bool.{ltb-true, ltb-false, cases_lt}
use Rattle.pb_timers.specs.Timers.{bits}
use Rattle.law_turn.specs.Spans.{Span}
use Rattle.law_model.specs.Trace.{Record, Entry, Sent, Noise, cut_end, cut_at}
use Rattle.law_model.specs.Medium.{part_after, is_unheard, reaches}
use Rattle.law_model.proofs.Cases.{by_test}
use Rattle.law_token.specs.Places.{heard_span, IsOver}

-- what is heard of an entry, and of one that ends early: where it does, it ends after now
abbrev pub CutSpan : ℕ → Option Span → Option Span → Type 0
CutSpan now None None = Unit {0}
CutSpan now None (Some y) = ⊥
CutSpan now (Some x) None = ⊥
CutSpan now (Some x) (Some y) = (y.begin ≡ x.begin) × (y.end ≤ x.end) × ((y.end ≡ x.end) ⊎ (now < y.end))

cut_self : (now : ℕ) (o : Option Span) → CutSpan now o o
cut_self now None = tt
cut_self now (Some x) = (refl, omega arith, inl refl)

cut_part : (now since b e e' : ℕ) → since ≤ now → e' ≤ e → (e' ≡ e) ⊎ (now < e') → CutSpan now (part_after since (record { begin = b; end = e })) (part_after since (record { begin = b; end = e' }))
cut_part now since b e e' began le h =
    by_test (λ o. CutSpan now o (part_after since (record { begin = b; end = e' }))) (nat_lt since e) (Some (record { begin = max b since; end = e })) None
    (λ a. by_test (λ o. CutSpan now (Some (record { begin = max b since; end = e })) o) (nat_lt since e') (Some (record { begin = max b since; end = e' })) None
    (λ _. (refl, le, h)) (λ f. absurd (⊎_elim (λ (s : e' ≡ e). omega (arith, ltb-true since e a, ltb-false since e' f, s)) (λ (l : now < e'). omega (arith, ltb-false since e' f, began)) h)))
    (λ a. by_test (λ o. CutSpan now None o) (nat_lt since e') (Some (record { begin = max b since; end = e' })) None
    (λ f. absurd (omega (arith, ltb-false since e a, ltb-true since e' f, le))) (λ _. tt))

pub cut_bound : (now : ℕ) (r : Record) → (cut_end now r ≡ r.end) ⊎ (now < cut_end now r)
cut_bound now r =
    let next : now < r.begin + bits ((now - r.begin) / bits 1 + 1) = omega arith in
    ⊎_elim (λ (a : now < r.end). inr (omega (arith, next))) (λ (a : r.end ≤ now). inl (omega (arith, next))) (cases_lt now r.end)

cut_record : (delay tap since now : ℕ) (r : Record) → since ≤ now → CutSpan now (heard_span delay tap since (Sent r)) (heard_span delay tap since (Sent (record r { end = cut_end now r })))
cut_record delay tap since now r began = by (r.tap == tap || is_unheard (slice_get r.heard tap))
  where
    by : (b : Bool) → CutSpan now (option_and_then (part_after since) (if b then None else Some (reaches delay r))) (option_and_then (part_after since) (if b then None else Some (reaches delay (record r { end = cut_end now r }))))
    by true = tt
    by false = cut_part now since (r.begin + delay) (r.end + delay) (cut_end now r + delay) began (omega arith)
        (⊎_elim (λ (a : cut_end now r ≡ r.end). inl (ap (λ n. n + delay) a)) (λ (a : now < cut_end now r). inr (omega arith)) (cut_bound now r))

pub cut_span : (delay tap since now speaker : ℕ) (e : Entry) → since ≤ now → CutSpan now (heard_span delay tap since e) (heard_span delay tap since (cut_at now speaker e))
cut_span delay tap since now speaker (Noise span) began = cut_self now (part_after since span)
cut_span delay tap since now speaker (Sent r) began =
    by_test (λ x. CutSpan now (heard_span delay tap since (Sent r)) (heard_span delay tap since (Sent x))) (r.tap == speaker) (record r { end = cut_end now r }) r
    (λ _. cut_record delay tap since now r began) (λ _. cut_self now (heard_span delay tap since (Sent r)))

-- and what was over, or had not begun, stays so
pub over_stays : (now q : ℕ) (o u : Option Span) → CutSpan now o u → IsOver now q o → IsOver now q u
over_stays now q None None c h = tt
over_stays now q None (Some y) c h = absurd c
over_stays now q (Some x) None c h = absurd c
over_stays now q (Some x) (Some y) c h = ⊎_elim (λ (a : now ≤ x.begin). inl (omega (arith, c.0))) (λ (a : x.end ≤ q). inr (omega (arith, c.1))) h

-- What is over is not in the air, reaches nobody, is not cut, and is not what began now.
use Rattle.std.proofs.Common.{◌≡◌, ◌∙◌, ap, refl, arith, ℕ, ◌+◌, ◌≤◌, ◌==◌, nat_lt, nat_le, List, [], ◌∷◌, ◌++◌, map, Bool, false, ◌&&◌, ◌||◌, cond, if◌then◌else◌, Option, Some, None}
use Rattle.std.specs.Prelude.{find, slice_get}
use Rattle.std.specs.List.{list_any}
use Rattle.std.proofs.Math.Bool.{and-false}
use Rattle.std.proofs.lemmas.Bool.{le-ltb, ne_eqb}
use Rattle.std.proofs.lemmas.List.{map-append}
use Rattle.law_turn.specs.Spans.{Span}
use Rattle.law_turn.specs.Stations.{earlier}
use Rattle.law_model.specs.Trace.{Record, Entry, Sent, Noise, cut_end, cut_at, is_noise_at, begins_from}
use Rattle.law_model.specs.Medium.{is_unheard, reaches}
use Rattle.law_model.specs.World.{is_in_air_by}
use Rattle.law_model.specs.Step.{change_first, is_there, reaches_now}
use Rattle.law_model.specs.Laws.{AllOver}
use Rattle.law_model.proofs.Cases.{by_test}
use Rattle.law_runs.specs.Bus.{next_known, is_in_air}

-- ---- a test that fails for all of some entries

abbrev pub AllFail : (Entry → Bool) → List Entry → Type 0
AllFail test [] = Unit {0}
AllFail test (e ∷ es) = (test e ≡ false) × AllFail test es

pub any-behind : (test : Entry → Bool) (old es : List Entry) → AllFail test old → list_any test (old ++ es) ≡ list_any test es
any-behind test [] es fail = refl
any-behind test (e ∷ old) es fail = ap (λ (b : Bool). b || list_any test (old ++ es)) fail.0 ∙ any-behind test old es fail.1

pub find-behind : (test : Entry → Bool) (old es : List Entry) → AllFail test old → find test (old ++ es) ≡ find test es
find-behind test [] es fail = refl
find-behind test (e ∷ old) es fail = ap (λ (b : Bool). cond b (Some e) (find test (old ++ es))) fail.0 ∙ find-behind test old es fail.1

pub changed-behind : (test : Entry → Bool) (change : Entry → Entry) (old es : List Entry) → AllFail test old
    → change_first test change (old ++ es) ≡ old ++ change_first test change es
changed-behind test change [] es fail = refl
changed-behind test change (e ∷ old) es fail =
    ap (λ (b : Bool). if b then change e ∷ (old ++ es) else e ∷ change_first test change (old ++ es)) fail.0
    ∙ ap (λ xs. e ∷ xs) (changed-behind test change old es fail.1)

-- ---- the tests of events

pub none-in-air : (delay m now speaker : ℕ) (old : List Entry) → AllOver delay m old → m ≤ now → AllFail (is_in_air_by delay now speaker) old
none-in-air delay m now speaker [] over later = tt
none-in-air delay m now speaker (Noise span ∷ es) over later = (refl, none-in-air delay m now speaker es over.2 later)
none-in-air delay m now speaker (Sent r ∷ es) over later = (
  ap (λ (b : Bool). r.tap == speaker && b) (le-ltb now (reaches delay r).end (omega (arith, over.1, later))) ∙ and-false (r.tap == speaker),
  none-in-air delay m now speaker es over.2 later,
)

not-there : (now : ℕ) (span : Span) → span.end ≤ now → is_there now (Some span) ≡ false
not-there now span over = ap (λ (b : Bool). nat_le span.begin now && b) (le-ltb now span.end over) ∙ and-false (nat_le span.begin now)

pub none-reaches : (delay m now tap : ℕ) (old : List Entry) → AllOver delay m old → m ≤ now → AllFail (reaches_now delay tap now) old
none-reaches delay m now tap [] over later = tt
none-reaches delay m now tap (Noise span ∷ es) over later = (not-there now span (omega (arith, over.1, later)), none-reaches delay m now tap es over.2 later)
none-reaches delay m now tap (Sent r ∷ es) over later = (
  by_test (λ (o : Option Span). is_there now o ≡ false) (r.tap == tap || is_unheard (slice_get r.heard tap)) None (Some (reaches delay r))
      (λ _. refl) (λ _. not-there now (reaches delay r) (omega (arith, over.1, later))),
  none-reaches delay m now tap es over.2 later,
)

pub none-noisy : (delay m now : ℕ) (old : List Entry) → AllOver delay m old → m ≤ now → AllFail (is_noise_at now) old
none-noisy delay m now [] over later = tt
none-noisy delay m now (Noise span ∷ es) over later = (le-ltb now span.end (omega (arith, over.1, later)), none-noisy delay m now es over.2 later)
none-noisy delay m now (Sent r ∷ es) over later = (refl, none-noisy delay m now es over.2 later)

pub none-begins : (delay m now speaker : ℕ) (old : List Entry) → AllOver delay m old → m ≤ now → AllFail (begins_from now speaker) old
none-begins delay m now speaker [] over later = tt
none-begins delay m now speaker (Noise span ∷ es) over later = (refl, none-begins delay m now speaker es over.2 later)
none-begins delay m now speaker (Sent r ∷ es) over later = (
  ap (λ (b : Bool). r.tap == speaker && b) (ne_eqb r.begin now (λ (same : r.begin ≡ now). omega (arith, over.0, over.1, later))) ∙ and-false (r.tap == speaker),
  none-begins delay m now speaker es over.2 later,
)

-- ---- what is over is not cut

uncut : (delay m now tap : ℕ) (old : List Entry) → AllOver delay m old → m ≤ now → map (cut_at now tap) old ≡ old
uncut delay m now tap [] over later = refl
uncut delay m now tap (Noise span ∷ es) over later = ap (λ xs. Noise span ∷ xs) (uncut delay m now tap es over.2 later)
uncut delay m now tap (Sent r ∷ es) over later =
    let whole : cut_end now r ≡ r.end = omega (arith, over.0, over.1, later) in
    let rest = ap (λ xs. Sent r ∷ xs) (uncut delay m now tap es over.2 later) in
    by_test (λ (x : Record). Sent x ∷ map (cut_at now tap) es ≡ Sent r ∷ es) (r.tap == tap) (record r { end = cut_end now r }) r
    (λ _. ap (λ end. Sent (record r { end = end }) ∷ map (cut_at now tap) es) whole ∙ rest) (λ _. rest)

pub cut-behind : (delay m now tap : ℕ) (old es : List Entry) → AllOver delay m old → m ≤ now → map (cut_at now tap) (old ++ es) ≡ old ++ map (cut_at now tap) es
cut-behind delay m now tap old es over later =
    map-append (cut_at now tap) old es ∙ ap (λ xs. xs ++ map (cut_at now tap) es) (uncut delay m now tap old over later)

-- ---- what changes next on the bus

pub known-behind : (delay m now : ℕ) (old es : List Entry) → AllOver delay m old → m ≤ now → next_known delay now (old ++ es) ≡ next_known delay now es
known-behind delay m now [] es over later = refl
known-behind delay m now (Noise span ∷ old) es over later =
    ap (λ (b : Bool). earlier (if b then Some (span.begin + 1) else None) (next_known delay now (old ++ es))) (le-ltb now (span.begin + 1) (omega (arith, over.0, over.1, later)))
    ∙ known-behind delay m now old es over.2 later
known-behind delay m now (Sent r ∷ old) es over later =
    ap (λ (b : Bool). earlier (if b then Some (r.begin + delay + 1) else None) (next_known delay now (old ++ es))) (le-ltb now (r.begin + delay + 1) (omega (arith, over.0, over.1, later)))
    ∙ known-behind delay m now old es over.2 later

pub none-still-in-air : (delay m now : ℕ) (old : List Entry) → AllOver delay m old → m ≤ now → AllFail (is_in_air delay now) old
none-still-in-air delay m now [] over later = tt
none-still-in-air delay m now (Noise span ∷ es) over later = (
  ap (λ (b : Bool). nat_lt span.begin now && b) (le-ltb now span.end (omega (arith, over.1, later))) ∙ and-false (nat_lt span.begin now),
  none-still-in-air delay m now es over.2 later,
)
none-still-in-air delay m now (Sent r ∷ es) over later = (
  ap (λ (b : Bool). nat_lt r.begin now && b) (le-ltb now (reaches delay r).end (omega (arith, over.1, later))) ∙ and-false (nat_lt r.begin now),
  none-still-in-air delay m now es over.2 later,
)

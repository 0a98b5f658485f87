-- A tap that becomes another with the same address: what is read of the addresses alone is the same.
use Rattle.std.proofs.Common.{◌≡◌, ℕ, zero, suc, ◌+◌, ◌-◌, if◌then◌else◌, ◌==◌, ◌&&◌, ◌||◌, List, [], ◌∷◌, map, refl, sym, ap, ◌∙◌, Option, Some, None}
use Rattle.std.specs.Prelude.{slice_get, slice_set, nat_lt, nat_le}
use Rattle.std.specs.List.{list_any}
use Rattle.std.proofs.lemmas.Option.{same_Some}
use Rattle.pb_timers.specs.Timers.{Params, tto}
use Rattle.law_model.specs.Trace.{Record, Entry, Sent, Noise}
use Rattle.law_model.specs.Medium.{TapSpec, Tap}
use Rattle.law_runs.specs.Activity.{is_silent}
use Rattle.law_runs.specs.Initiators.{telegram_of, is_initiator, offered_to, claims_for}
use Rattle.law_runs.specs.Legality.{is_whole, address_at, is_claim, follows_by, is_legal_after, first_illegal_from, first_illegal}
use Rattle.law_runs.specs.Premises.{runs_at, has_namesakes}

-- ---- the addresses

abbrev pub SameAddresses : List TapSpec → List TapSpec → Type 0
SameAddresses a b = (tap : ℕ) → address_at a tap ≡ address_at b tap

pub set_addresses : (taps : List Tap) (i : ℕ) (t y : Tap) → slice_get taps i ≡ Some t → y.spec.address ≡ t.spec.address
    → SameAddresses (map (λ z. z.spec) (slice_set taps i y)) (map (λ z. z.spec) taps)
set_addresses [] i t y at same tap = refl
set_addresses (x ∷ xs) zero t y at same zero = same ∙ sym (ap (λ (z : Tap). z.spec.address) (same_Some x t at))
set_addresses (x ∷ xs) zero t y at same (suc tap) = refl
set_addresses (x ∷ xs) (suc i) t y at same zero = refl
set_addresses (x ∷ xs) (suc i) t y at same (suc tap) = set_addresses xs i t y at same tap

-- ---- legal telegrams

pub claim_same : (p : Params) (a b : List TapSpec) (trace : List Entry) (r : Record) → SameAddresses a b → is_claim p a trace r ≡ is_claim p b trace r
claim_same p a b trace r same = ap (λ n. claims_for n (telegram_of r) && is_silent p.ttd r.tap trace (r.begin - tto p n) r.begin) (same r.tap)

follows_same : (p : Params) (a b : List TapSpec) (trace : List Entry) (last : Record) (to : Option ℕ) (r : Record) → SameAddresses a b → follows_by p a trace last to r ≡ follows_by p b trace last to r
follows_same p a b trace last None r same = refl
follows_same p a b trace last (Some to) r same =
    ap (λ n. if last.tap == r.tap then nat_le (last.end + p.tsl) r.begin && is_silent p.ttd r.tap trace last.end (last.end + p.tsl)
    else to == n && is_whole (slice_get last.heard r.tap) && nat_lt r.begin (last.end + p.tsl)) (same r.tap)

legal_same : (p : Params) (a b : List TapSpec) (trace : List Entry) (last : Option Record) (r : Record) → SameAddresses a b → is_legal_after p a trace last r ≡ is_legal_after p b trace last r
legal_same p a b trace None r same = claim_same p a b trace r same
legal_same p a b trace (Some last) r same =
    ap (λ x. nat_le last.end r.begin && (x || is_claim p a trace r)) (follows_same p a b trace last (offered_to last) r same)
    ∙ ap (λ x. nat_le last.end r.begin && (follows_by p b trace last (offered_to last) r || x)) (claim_same p a b trace r same)

illegal_from : (p : Params) (a b : List TapSpec) (trace : List Entry) (last : Option Record) (place : ℕ) (es : List Entry) → SameAddresses a b → first_illegal_from p a trace last place es ≡ first_illegal_from p b trace last place es
illegal_from p a b trace last place [] same = refl
illegal_from p a b trace last place (Noise span ∷ es) same = illegal_from p a b trace last (place + 1) es same
illegal_from p a b trace last place (Sent r ∷ es) same =
    ap (λ x. if is_initiator r then (if x then first_illegal_from p a trace (Some r) (place + 1) es else Some place) else first_illegal_from p a trace last (place + 1) es) (legal_same p a b trace last r same)
    ∙ ap (λ o. if is_initiator r then (if is_legal_after p b trace last r then o else Some place) else first_illegal_from p a trace last (place + 1) es) (illegal_from p a b trace (Some r) (place + 1) es same)
    ∙ ap (λ o. if is_initiator r then (if is_legal_after p b trace last r then first_illegal_from p b trace (Some r) (place + 1) es else Some place) else o) (illegal_from p a b trace last (place + 1) es same)

pub illegal_same : (p : Params) (a b : List TapSpec) (trace : List Entry) → SameAddresses a b → first_illegal p a trace ≡ first_illegal p b trace
illegal_same p a b trace same = illegal_from p a b trace None 0 trace same

-- ---- namesakes

abbrev RunsSame : Tap → Tap → Type 0
RunsSame y t = (y.running ≡ t.running) × (y.spec.address ≡ t.spec.address)

runs_same : (a : ℕ) (y t : Tap) → RunsSame y t → runs_at a y ≡ runs_at a t
runs_same a y t s = ap (λ r. r && y.spec.address == a) s.0 ∙ ap (λ n. t.running && n == a) s.1

any_runs : (a : ℕ) (taps : List Tap) (i : ℕ) (t y : Tap) → slice_get taps i ≡ Some t → RunsSame y t → list_any (runs_at a) (slice_set taps i y) ≡ list_any (runs_at a) taps
any_runs a [] i t y at s = refl
any_runs a (x ∷ xs) zero t y at s = ap (λ b. b || list_any (runs_at a) xs) (runs_same a y t s ∙ sym (ap (runs_at a) (same_Some x t at)))
any_runs a (x ∷ xs) (suc i) t y at s = ap (λ b. runs_at a x || b) (any_runs a xs i t y at s)

pub namesakes_same : (taps : List Tap) (i : ℕ) (t y : Tap) → slice_get taps i ≡ Some t → y.running ≡ t.running → y.spec.address ≡ t.spec.address → has_namesakes (slice_set taps i y) ≡ has_namesakes taps
namesakes_same [] i t y at run same = refl
namesakes_same (x ∷ xs) zero t y at run same =
    let e = sym (same_Some x t at) in
    ap (λ b. (b && list_any (runs_at y.spec.address) xs) || has_namesakes xs) (run ∙ ap (λ (z : Tap). z.running) e)
    ∙ ap (λ n. (x.running && list_any (runs_at n) xs) || has_namesakes xs) (same ∙ ap (λ (z : Tap). z.spec.address) e)
namesakes_same (x ∷ xs) (suc i) t y at run same =
    ap (λ b. (x.running && b) || has_namesakes (slice_set xs i y)) (any_runs x.spec.address xs i t y at (run, same))
    ∙ ap (λ b. (x.running && list_any (runs_at x.spec.address) xs) || b) (namesakes_same xs i t y at run same)

-- Telegrams that reach a listener one behind the other are heard as they were said.
use Rattle.std.proofs.Common.{◌≡◌, ℕ, ◌+◌, ◌<◌, ◌≤◌, inl, inr, ⊎_elim, Bool, true, false, ◌&&◌, List, [], ◌∷◌, ◌++◌, map, refl, ap, subst, arith}
use Rattle.std.specs.Prelude.{nat_lt, nat_le}
use Rattle.std.proofs.lemmas.Bool.{and_parts, leb-true, ltb-true}
use Rattle.pb_telegram.specs.declared.chars.RxChar.TheVariants.{Good}
use Rattle.law_model.specs.Trace.{Record, Entry, Sent, Noise}
use Rattle.law_model.specs.Medium.{reaches_taps}
use Rattle.pb_monitor.specs.Captures.{Burst, All, Has, Fills, IsClear, IsTold, BeginsAt, HearsFrom}

-- the burst of a telegram that nothing disturbs
abbrev burst_of : Record → Burst
burst_of r = record { begin = r.begin; end = r.end; chars = map Good r.octets }

abbrev pub bursts_of : List Entry → List Burst
bursts_of [] = []
bursts_of (Noise span ∷ es) = bursts_of es
bursts_of (Sent r ∷ es) = burst_of r ∷ bursts_of es

-- telegrams alone, each after the end of the one before it
abbrev OneByOne : ℕ → List Entry → Type 0
OneByOne m [] = Unit {0}
OneByOne m (Noise span ∷ es) = ⊥
OneByOne m (Sent r ∷ es) = (m ≤ r.begin) × (r.begin < r.end) × OneByOne r.end es

abbrev pub are_one_by_one : ℕ → List Entry → Bool
are_one_by_one m [] = true
are_one_by_one m (Noise span ∷ es) = false
are_one_by_one m (Sent r ∷ es) = nat_le m r.begin && (nat_lt r.begin r.end && are_one_by_one r.end es)

one_by_one : (m : ℕ) (es : List Entry) → are_one_by_one m es ≡ true → OneByOne m es
one_by_one m [] h = tt
one_by_one m (Noise span ∷ es) h = absurd (let w : false ≡ true = h in cc)
one_by_one m (Sent r ∷ es) h =
    let a = and_parts (nat_le m r.begin) (nat_lt r.begin r.end && are_one_by_one r.end es) h in
    let b = and_parts (nat_lt r.begin r.end) (are_one_by_one r.end es) a.1 in (leb-true m r.begin a.0, ltb-true r.begin r.end b.0, one_by_one r.end es b.1)

-- all that comes first, and what comes then
all_first : (X : Entry → Type 0) (before es : List Entry) → All X before → All X es → All X (before ++ es)
all_first X [] es a b = b
all_first X (e ∷ before) es a b = (a.0, all_first X before es a.1 b)

all_behind : (X : Entry → Type 0) (before es : List Entry) → All X (before ++ es) → All X es
all_behind X [] es a = a
all_behind X (e ∷ before) es a = all_behind X before es a.1

has_behind : (X : Entry → Type 0) (before es : List Entry) → Has X es → Has X (before ++ es)
has_behind X [] es h = h
has_behind X (e ∷ before) es h = inr (has_behind X before es h)

joined : (e : Entry) (before es : List Entry) → ((before ++ e ∷ []) ++ es) ≡ before ++ e ∷ es
joined e [] es = refl
joined e (y ∷ before) es = ap (λ z. y ∷ z) (joined e before es)

all_by : (X Y : Entry → Type 0) (es : List Entry) → ((e : Entry) → X e → Y e) → All X es → All Y es
all_by X Y [] f a = tt
all_by X Y (e ∷ es) f a = (f e a.0, all_by X Y es f a.1)

begin_later : (m : ℕ) (es : List Entry) → OneByOne m es → All (λ e. m ≤ (reaches_taps 0 e).begin) es
begin_later m [] o = tt
begin_later m (Noise span ∷ es) o = absurd o
begin_later m (Sent r ∷ es) o = let a = o.0 in let b = o.1 in (omega (arith, a), all_by _ _ es (λ e h. omega (arith, h, a, b)) (begin_later r.end es o.2))

heard_then : (since m : ℕ) (before es : List Entry) → All (λ e. (reaches_taps 0 e).end ≤ m) before → OneByOne m es → HearsFrom 0 since (before ++ es) m (bursts_of es)
heard_then since m before [] over o = tt
heard_then since m before (Noise span ∷ es) over o = absurd o
heard_then since m before (Sent r ∷ es) over o =
    let late = o.0 in
    let some = o.1 in
    let rest = begin_later r.end es o.2 in
    let fills : Fills 0 (burst_of r) (Sent r) = (omega arith, omega arith, refl) in (
      late,
      some,
      all_first (λ e. IsClear m r.begin (reaches_taps 0 e)) before (Sent r ∷ es) (all_by _ _ before (λ e h. inl h) over) (inr (omega arith), all_by _ _ es (λ e h. inr (omega (arith, h, some))) rest),
      record {
        begins = inr (has_behind (BeginsAt 0 r.begin) before (Sent r ∷ es) (inl (omega arith, omega (arith, some))));
        solid = λ u v a b c clear. ⊎_elim (λ (x : r.end + 0 ≤ u). absurd (omega (arith, x, b))) (λ (x : v ≤ r.begin + 0). absurd (omega (arith, x, c))) (all_behind (λ e. IsClear u v (reaches_taps 0 e)) before (Sent r ∷ es) clear).0;
        told = λ _. (
          has_behind (Fills 0 (burst_of r)) before (Sent r ∷ es) (inl fills),
          all_first (IsTold 0 (burst_of r)) before (Sent r ∷ es) (all_by _ _ before (λ e h. inr (inl (omega (arith, h, late)))) over) (inl fills, all_by _ _ es (λ e h. inr (inr h)) rest),
        );
      },
      subst (λ z. HearsFrom 0 since z r.end (bursts_of es)) (joined (Sent r) before es)
          (heard_then since r.end (before ++ Sent r ∷ []) es (all_first (λ e. (reaches_taps 0 e).end ≤ r.end) before (Sent r ∷ []) (all_by _ _ before (λ e h. omega (arith, h, late, some)) over) (omega arith, tt)) o.2),
    )

pub heard_as_said : (since : ℕ) (es : List Entry) → are_one_by_one since es ≡ true → HearsFrom 0 since es since (bursts_of es)
heard_as_said since es h = heard_then since since [] es tt (one_by_one since es h)

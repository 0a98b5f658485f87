-- A number below 2 ^ 127 is recovered from the set that its bits list.
use Rattle.std.specs.Prelude.{◌≡◌, ℕ, ◌+◌, ◌*◌, ◌/◌, ◌%◌, ◌^◌, ◌<◌, ◌==◌, filter, refl}
use Rattle.std.proofs.Common.{suc, zero, add-one, ap, ◌∙◌, subst, arith, inl, inr}
use Rattle.std.specs.Int.{bit_at}
use Rattle.std.specs.List.{range_with_len}
use Rattle.std.proofs.lemmas.Nat.{mod-pow-add, shr-shr, pow-add}
use Rattle.std.proofs.lemmas.Bool.{eqb-true, eqb-false, cases_Bool}
use Rattle.pb_ring.specs.AddressSets.{addresses}
use Rattle.pb_ring.specs.Words.{listed, bits_of}

-- ---- arithmetic

nothing_times : (m q : ℕ) → m ≡ 0 → 0 ≡ m * q
nothing_times m q e = rw e (omega arith)

one_more : (r q m : ℕ) → m ≡ r * 2 + 1 → q + r * (q * 2) ≡ m * q
one_more r q m e = rw e (omega arith)

no_more : (r q m : ℕ) → m ≡ r * 2 → r * (q * 2) ≡ m * q
no_more r q m e = rw e (omega arith)

-- ---- the bits of a number from an index on, as a number

bits_of-run : (n a k : ℕ) → bits_of (filter (λ x. bit_at n x == 1) (range_with_len a k)) ≡ (n / 2 ^ a % 2 ^ k) * 2 ^ a
bits_of-run n a zero = nothing_times (n / 2 ^ a % 1) (2 ^ a) (omega arith)
bits_of-run n a (suc k) =
    let m : ℕ = n / 2 ^ a in
    let r : ℕ = n / 2 ^ (a + 1) % 2 ^ k in
    let next : m / 2 ^ 1 ≡ n / 2 ^ (a + 1) = shr-shr n a 1 in
    let power : 2 ^ (a + 1) ≡ 2 ^ a * 2 = pow-add 2 a 1 in
    let split : m % 2 ^ (suc k) ≡ r * 2 + m % 2 =
    subst (λ (s : ℕ). m % 2 ^ s ≡ r * 2 + m % 2) (add-one k) (mod-pow-add m k 1 ∙ ap (λ (x : ℕ). (x % 2 ^ k) * 2 + m % 2) next) in
    let rest : bits_of (filter (λ x. bit_at n x == 1) (range_with_len (a + 1) k)) ≡ r * (2 ^ a * 2) =
    bits_of-run n (a + 1) k ∙ ap (λ (q : ℕ). r * q) power in
    elim (cases_Bool (bit_at n a == 1)) [
      | inl e ↦ rw e (ap (λ (x : ℕ). 2 ^ a + x) rest ∙ one_more r (2 ^ a) (m % 2 ^ (suc k)) (let one : m % 2 ≡ 1 = eqb-true (m % 2) 1 e in omega (arith, split, one)))
      | inr e ↦ rw e (rest ∙ no_more r (2 ^ a) (m % 2 ^ (suc k)) (let other : m % 2 ≡ 1 → ⊥ = eqb-false (m % 2) 1 e in let low : m % 2 < 2 = omega arith in omega (arith, split, other, low)))
    ]

bits_of-addresses : (n w : ℕ) → w ≡ 127 → addresses ≡ range_with_len 0 w → n < 2 ^ 127 → bits_of (listed n) ≡ n
bits_of-addresses n w width run fits =
    let all : bits_of (filter (λ x. bit_at n x == 1) (range_with_len 0 w)) ≡ (n / 1 % 2 ^ w) * 1 = bits_of-run n 0 w in
    let within : n % 2 ^ w ≡ n = rw width (omega arith) in
    let whole : n / 1 ≡ n = omega arith in
    rw run (all ∙ (rw whole (omega (arith, within))))

pub addresses-run : (n : ℕ) × (n ≡ 127) × (addresses ≡ range_with_len 0 n)
unfolding addresses
addresses-run = (127, refl, refl)

pub bits_of-listed : (n : ℕ) → n < 2 ^ 127 → bits_of (listed n) ≡ n
bits_of-listed n fits = bits_of-addresses n addresses-run.0 addresses-run.1 addresses-run.2 fits

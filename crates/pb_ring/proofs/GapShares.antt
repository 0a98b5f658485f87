-- How the GAPs of the members share out the other addresses.
use Rattle.std.proofs.Common.{◌≡◌, ℕ, ◌+◌, ◌<◌, ◌≤◌, List, true, false, ap, sym, ◌∙◌, arith}
use Rattle.std.specs.List.{range_with_len}
use Rattle.std.proofs.lemmas.Bool.{both_ways, and_parts, false_from_ne_true}
use Rattle.std.proofs.lemmas.Bool.Decides.{nat_tests}
use Rattle.pb_ring.specs.AddressSets.{is_member, is_between, next_address, previous_address, IsAscending}
use Rattle.pb_ring.specs.Gap.{gap_range}
use Rattle.pb_ring.proofs.SetLemmas.{is_member-within}
use Rattle.pb_ring.proofs.NeighbourLemmas.{IsNext, IsPrevious, next-is, previous-is, member-filter, member-run}

-- ---- what lies in a GAP

pub in_gap : (ts ns hsa a : ℕ) → a ≤ hsa → is_between ts ns a ≡ true → is_member (gap_range ts ns hsa) a ≡ true
in_gap ts ns hsa a fits between = is_member-within (λ x. is_between ts ns x) 0 (hsa + 1) a (omega arith) (omega arith) ∙ between

pub gap-highest : (ts ns hsa a : ℕ) → is_member (gap_range ts ns hsa) a ≡ true → a ≤ hsa
gap-highest ts ns hsa a e = let within : a < 0 + (hsa + 1) = member-run (λ x. is_between ts ns x) 0 (hsa + 1) a e in omega (arith, within)

pub gap-between : (ts ns hsa a : ℕ) → is_member (gap_range ts ns hsa) a ≡ true → is_between ts ns a ≡ true
gap-between ts ns hsa a e = (and_parts (is_member (range_with_len 0 (hsa + 1)) a) (is_between ts ns a) (sym (member-filter (λ x. is_between ts ns x) a (range_with_len 0 (hsa + 1))) ∙ e)).1

-- ---- arithmetic of the ring

-- what is no member lies between the member before it and the one behind that
lies_behind : (p n a : ℕ) → is_between p a n ≡ false → (a ≡ p → ⊥) → (a ≡ n → ⊥) → is_between p n a ≡ true
lies_behind p n a e f g = grind (arith, nat_tests)

one_owner : (m n a p q : ℕ) → is_between m p a ≡ true → is_between n q a ≡ true → is_between m p n ≡ false → is_between n q m ≡ false → m ≡ n
one_owner m n a p q e f g h = grind (arith, nat_tests)

-- ---- the laws

no_member : (members : List ℕ) (a m : ℕ) → is_member members a ≡ false → is_member members m ≡ true → a ≡ m → ⊥
no_member members a m out in_it same = both_ways (is_member members a) out (ap (is_member members) same ∙ in_it)

pub gap-each : (members : List ℕ) (m a hsa : ℕ) → IsAscending members → is_member members m ≡ true → is_member members a ≡ false → a ≤ hsa
    → is_member (gap_range (previous_address a members) (next_address (previous_address a members) members) hsa) a ≡ true
gap-each members m a hsa up in_it out fits =
    let p : ℕ = previous_address a members in
    let before : IsPrevious members a p = previous-is members a m up in_it in
    let next : IsNext members p (next_address p members) = next-is members p m up in_it in
    in_gap p (next_address p members) hsa a fits
    (lies_behind p (next_address p members) a (before.nearest (next_address p members) next.member)
    (no_member members a p out before.member) (no_member members a (next_address p members) out next.member))

pub gap-owner : (members : List ℕ) (m a : ℕ) → IsAscending members → is_member members m ≡ true → is_member members (previous_address a members) ≡ true
gap-owner members m a up in_it = (previous-is members a m up in_it).member

pub gap-once : (members : List ℕ) (m n a hsa : ℕ) → IsAscending members → is_member members m ≡ true → is_member members n ≡ true
    → is_member (gap_range m (next_address m members) hsa) a ≡ true → is_member (gap_range n (next_address n members) hsa) a ≡ true → m ≡ n
gap-once members m n a hsa up in_m in_n e f =
    one_owner m n a (next_address m members) (next_address n members) (gap-between m (next_address m members) hsa a e) (gap-between n (next_address n members) hsa a f)
    ((next-is members m m up in_m).nearest n in_n) ((next-is members n n up in_n).nearest m in_m)

pub gap-others : (members : List ℕ) (m a hsa : ℕ) → IsAscending members → is_member members m ≡ true
    → is_member (gap_range m (next_address m members) hsa) a ≡ true → is_member members a ≡ false
gap-others members m a hsa up in_it e =
    false_from_ne_true (is_member members a)
    (λ in_a. both_ways (is_between m (next_address m members) a) ((next-is members m m up in_it).nearest a in_a) (gap-between m (next_address m members) hsa a e))

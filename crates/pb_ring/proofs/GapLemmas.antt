-- What is left of a round.
use Rattle.std.proofs.Common.{Option, ◌≡◌, ℕ, ◌+◌, ◌<◌, List, Bool, ◌&&◌, ap, sym, ◌∙◌, arith}
use Rattle.std.specs.Prelude.{filter, nat_le, unwrap_or}
use Rattle.std.specs.List.{range_with_len}
use Rattle.pb_ring.specs.AddressSets.{addresses, is_member, is_between}
use Rattle.pb_ring.specs.Gap.{gap_range, left_to_ask}
use Rattle.pb_ring.proofs.SetLemmas.{filter-filter, filter-within, is_member-addresses, upto-highest}

-- what a GAP has in common with the addresses behind one
pub left-is : (ts ns hsa : ℕ) (asked : Option ℕ) (behind : List ℕ) → hsa < 127
    → behind ≡ filter (λ x. is_between (unwrap_or asked ts) ts x && nat_le x 126) addresses
    → filter (λ x. is_member behind x) (gap_range ts ns hsa) ≡ left_to_ask ts ns hsa asked
left-is ts ns hsa asked behind fits e =
    filter-filter (λ a. is_between ts ns a) (λ x. is_member behind x) (range_with_len 0 (hsa + 1))
    ∙ filter-within (λ x. is_between ts ns x && is_member behind x) (λ x. is_between ts ns x && is_between (unwrap_or asked ts) ts x) 0 (hsa + 1)
    (λ x low high. let in_range : x < 127 = omega arith in
    ap (λ (b : Bool). is_between ts ns x && b)
    (ap (λ (xs : List ℕ). is_member xs x) e ∙ is_member-addresses (λ x. is_between (unwrap_or asked ts) ts x && nat_le x 126) x in_range
    ∙ upto-highest (is_between (unwrap_or asked ts) ts x) x in_range))
    ∙ sym (filter-filter (λ a. is_between ts ns a) (λ a. is_between (unwrap_or asked ts) ts a) (range_with_len 0 (hsa + 1)))

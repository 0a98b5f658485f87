-- When telegrams are equal: by all that a user sees of them.
use Rattle.std.specs.Prelude.{ℕ, Bool, nat_eq, List}
use Rattle.std.specs.Cmp.{IsEquivalence}
use Rattle.std.specs.Cmp.Lexicographic.{pointwise}
use Rattle.std.proofs.lemmas.Cmp.{and_equiv, lists_equiv, nat_eq_equiv, nat_list_eq_equiv, on_equiv}
use Rattle.std.specs.Ordering.{on, eq_of_both}
use Rattle.law_model.specs.Trace.{Heard, Own, Whole, Damaged, Unheard, Pending}
use Rattle.pb_medium.specs.declared.entries.Record.{Record}

-- a number for each way in which a telegram may reach a tap
abbrev pub code_of : Heard → ℕ
code_of Own = 0
code_of Whole = 1
code_of Damaged = 2
code_of Unheard = 3
code_of Pending = 4

-- it reached each tap in the same way
abbrev pub is_heard_alike : List Heard → List Heard → Bool
is_heard_alike = pointwise (on code_of nat_eq)

-- speaker, octets, begin and end are the same, and it reached each tap in the same way
abbrev pub is_same_record : Record → Record → Bool
is_same_record =
    eq_of_both (on (λ r. r.tap) nat_eq)
    (eq_of_both (on (λ r. r.octets.items) (pointwise nat_eq))
    (eq_of_both (on (λ r. r.begin) nat_eq) (eq_of_both (on (λ r. r.end) nat_eq) (on (λ r. r.heard) is_heard_alike))))

-- that is an equivalence
pub same-record-equiv : IsEquivalence is_same_record
same-record-equiv =
    and_equiv (on_equiv (λ (r : Record). r.tap) nat_eq_equiv)
    (and_equiv (on_equiv (λ (r : Record). r.octets.items) nat_list_eq_equiv)
    (and_equiv (on_equiv (λ (r : Record). r.begin) nat_eq_equiv)
    (and_equiv (on_equiv (λ (r : Record). r.end) nat_eq_equiv) (on_equiv (λ (r : Record). r.heard) (lists_equiv (on_equiv code_of nat_eq_equiv))))))

-- The first key that is none of these is the first one of what the table stands for.
use Rattle.std.proofs.Common.{◌≡◌, ◌∙◌, ℕ, List, Option, Some, None, option_map, string_bytes, ap, sym, subst}
use Rattle.std.specs.Prelude.{option_copied}
use Rattle.pb_scenario.specs.Fields.{Tells, first_other, known, known_or}
use Rattle.pb_scenario.specs.Tables.{members}
use Rattle.pb_scenario.proofs.Looking.{first-other}
use Rattle.pb_scenario.proofs.fields.Fields.known.Goals as goal

pub returns-in-None : goal.returns-in-None
unfolding known
returns-in-None c =
    let self = c.args.self.now in
    let none : first_other c.args.keys.now (members self) ≡ None = first-other c.args.keys.now self.table.now.entries ∙ ap (option_map string_bytes) (sym c.other.ensures ∙ ap option_copied c.in-None.is) in
    ap (known_or self.section) none

pub returns-in-Some : goal.returns-in-Some
unfolding known
returns-in-Some c =
    let self = c.args.self.now in
    let some : first_other c.args.keys.now (members self) ≡ Some (string_bytes c.in-Some.key.now) = first-other c.args.keys.now self.table.now.entries ∙ ap (option_map string_bytes) (sym c.other.ensures ∙ ap option_copied c.in-Some.is) in
    subst (λ (o : Option (List ℕ)). Tells c.unknown.result (known_or self.section o)) (ap (λ k. Some k) c.as_str.ensures.value ∙ sym some) c.unknown.ensures

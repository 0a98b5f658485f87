-- A name among the names.
use Rattle.std.proofs.Common.{◌≡◌, ◌∙◌, true, false, Err, Ok, ap, sym, if◌then◌else◌}
use Rattle.std.specs.Prelude.{bytes_eq}
use Rattle.std.specs.List.{list_any}
use Rattle.pb_scenario.specs.Scenarios.{names_of}
use Rattle.pb_scenario.specs.Fields.{Twice, path_of}
use Rattle.pb_scenario.specs.declared.keys.Key.TheVariants.{Name}
use Rattle.pb_scenario.proofs.Chains.{then_ok}
use Rattle.pb_scenario.proofs.Looking.{any-names}
use Rattle.pb_scenario.proofs.taps.name_in.Goals as goal

pub returns-then-contains-clause-name : goal.returns-then-contains-clause-name
returns-then-contains-clause-name c =
    let name = c.in_ok-name.name.now in
    let names = c.args.names.now.keys in
    let at = path_of c.args.fields.section Name in
    let taken : list_any (bytes_eq name) (names_of names) ≡ true = any-names name names ∙ sym c.contains.ensures ∙ c.if-contains.true in
    then_ok _ name _ _ c.in_ok-name.ensures (ap (λ b. if b then Err (Twice at) else Ok name) taken) ∙ ap (λ p. Err (Twice p)) (sym c.path.ensures)

pub returns-else-contains : goal.returns-else-contains
returns-else-contains c =
    let name = c.in_ok-name.name.now in
    let names = c.args.names.now.keys in
    let at = path_of c.args.fields.section Name in
    let free : list_any (bytes_eq name) (names_of names) ≡ false = any-names name names ∙ sym c.contains.ensures ∙ c.if-contains.false in
    record {
      name = then_ok _ name _ _ c.in_ok-name.ensures (ap (λ b. if b then Err (Twice at) else Ok name) free);
      new = free;
    }

-- The position of a name among the names.
use Rattle.std.proofs.Common.{◌≡◌, ◌∙◌, Some, None, Err, ap, sym}
use Rattle.std.specs.Prelude.{bytes_eq, position}
use Rattle.std.specs.Option.{ok_or}
use Rattle.pb_scenario.specs.Scenarios.{names_of}
use Rattle.pb_scenario.specs.Fields.{NoSuchName, and_then, path_of}
use Rattle.pb_scenario.specs.Files.{tap_at}
use Rattle.pb_scenario.proofs.Looking.{position-names}
use Rattle.pb_scenario.proofs.steps.tap.Goals as goal

pub returns-in-Some : goal.returns-in-Some
unfolding tap_at
returns-in-Some c =
    let name = c.in_ok-text.field-0.now in
    let names = c.args.names.now.keys in
    let missing = NoSuchName (path_of c.args.fields.section c.args.key) in
    let found : position (bytes_eq name) (names_of names) ≡ Some c.in-Some.tap = position-names name names ∙ sym c.get_index_of.ensures.index ∙ c.in-Some.is in
    ap (λ o. and_then o (λ n. ok_or (position (bytes_eq n) (names_of names)) missing)) c.in_ok-text.ensures ∙ ap (λ o. ok_or o missing) found

pub returns-in-None : goal.returns-in-None
unfolding tap_at
returns-in-None c =
    let name = c.in_ok-text.field-0.now in
    let names = c.args.names.now.keys in
    let missing = NoSuchName (path_of c.args.fields.section c.args.key) in
    let found : position (bytes_eq name) (names_of names) ≡ None = position-names name names ∙ sym c.get_index_of.ensures.index ∙ c.in-None.is in
    ap (λ o. and_then o (λ n. ok_or (position (bytes_eq n) (names_of names)) missing)) c.in_ok-text.ensures ∙ ap (λ o. ok_or o missing) found
    ∙ ap (λ p. Err (NoSuchName p)) (sym c.path.ensures)

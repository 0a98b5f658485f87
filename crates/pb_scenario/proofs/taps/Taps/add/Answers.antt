-- A name that none of the names is goes behind them.
use Rattle.std.proofs.Common.{◌≡◌, ◌∙◌, ◌∷◌, [], ◌++◌, false, string_bytes, ap, sym}
use Rattle.std.specs.Prelude.{bytes_eq, if◌then◌else◌}
use Rattle.std.specs.List.{list_any}
use Rattle.std.proofs.lemmas.List.{map-append}
use Rattle.pb_scenario.specs.Scenarios.{names_of}
use Rattle.pb_scenario.proofs.Looking.{any-names}
use Rattle.pb_scenario.proofs.taps.Taps.add.Goals as goal

pub returns-clause-names : goal.returns-clause-names
returns-clause-names c =
    let keys = c.args.self.now.names.keys in
    let name = c.args.tap.name in
    let free : list_any (λ k. bytes_eq (string_bytes name) (string_bytes k)) keys ≡ false = sym (any-names (string_bytes name) keys) ∙ c.requires in
    ap names_of (c.in_ok-insert.ensures.keys ∙ ap (λ b. if b then keys else keys ++ name ∷ []) free) ∙ map-append string_bytes keys (name ∷ [])

-- What the table's map finds is what stands at the key.
use Rattle.std.proofs.Common.{◌∙◌, ap}
use Rattle.toml.specs.Data.{get_member}
use Rattle.toml.specs.View.{members_view}
use Rattle.toml.proofs.Views.{table_get}
use Rattle.pb_scenario.proofs.fields.Fields.find.Goals as goal

pub returns : goal.returns
returns c =
    let es = c.args.self.now.table.now.entries in
    table_get c.get.result c.name.result.now es c.get.ensures.value ∙ ap (λ k. get_member k (members_view es)) c.name.ensures

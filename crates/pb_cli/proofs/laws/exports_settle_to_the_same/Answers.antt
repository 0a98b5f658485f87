use Rattle.pb_cli.proofs.SameExports.{settles}
use Rattle.pb_cli.proofs.laws.exports_settle_to_the_same.Goals as goal

pub returns : goal.returns
returns c =
    let files = c.files_without_repeats_mean_the_same.ensures in
    settles files.read files.steps c.a_run_is_within_its_limit.ensures c.a_greater_limit_changes_nothing.ensures.trace c.a_stream_has_the_run.ensures

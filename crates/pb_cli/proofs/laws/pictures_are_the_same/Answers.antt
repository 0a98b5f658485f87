use Rattle.pb_cli.proofs.SameExports.{draws}
use Rattle.pb_cli.proofs.laws.pictures_are_the_same.Goals as goal

pub returns : goal.returns
returns c =
    let files = c.files_without_repeats_mean_the_same.ensures in
    draws files.read files.steps c.a_run_is_within_its_limit.ensures c.a_greater_limit_changes_nothing.ensures.trace c.a_stream_has_the_run.ensures

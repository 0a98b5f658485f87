use Rattle.law_monitor.proofs.words.Named.{named_by}
use Rattle.law_monitor.proofs.actions.the_holder_is_named_or_nobody_whatever_the_data.Goals as goal

pub returns : goal.returns
returns c = named_by

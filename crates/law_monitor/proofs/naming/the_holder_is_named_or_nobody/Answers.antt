use Rattle.law_monitor.proofs.words.Named.{named_or_nobody}
use Rattle.law_monitor.proofs.naming.the_holder_is_named_or_nobody.Goals as goal

pub returns : goal.returns
returns c = named_or_nobody

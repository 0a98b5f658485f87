use Rattle.pb_telegram.proofs.Beginnings.{no_rest}
use Rattle.pb_telegram.proofs.laws.no_spelling_begins_another.Goals as goal

pub returns : goal.returns
returns c = no_rest

use Rattle.law_live.proofs.HoldersSpeak.{speaks-by}
use Rattle.law_live.proofs.holding.a_holder_speaks_in_time.Goals as goal

pub returns : goal.returns
returns c p recent d moment s e cycling o = speaks-by p recent d s s.phase moment e cycling o

use Rattle.std.proofs.Common.{refl}
use Rattle.pb_telegram.proofs.Spelled.{no_token}
use Rattle.pb_telegram.proofs.reading.spelled_token.Goals as goal

pub returns-in-220-clause-none : goal.returns-in-220-clause-none
returns-in-220-clause-none c = no_token c.args.octets.now _ _ c.token_of.result refl refl c.token_of.ensures.none

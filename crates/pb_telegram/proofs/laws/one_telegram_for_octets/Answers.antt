use Rattle.pb_telegram.proofs.OneTelegram.{one_telegram}
use Rattle.pb_telegram.proofs.laws.one_telegram_for_octets.Goals as goal

pub returns-clause-telegram : goal.returns-clause-telegram
returns-clause-telegram c = one_telegram

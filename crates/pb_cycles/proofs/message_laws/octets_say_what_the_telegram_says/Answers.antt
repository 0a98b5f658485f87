use Rattle.pb_cycles.proofs.SaidOctets.{telegram-said, frame-said}
use Rattle.pb_cycles.proofs.message_laws.octets_say_what_the_telegram_says.Goals as goal

pub returns-clause-telegram : goal.returns-clause-telegram
returns-clause-telegram c = telegram-said

pub returns-clause-frame : goal.returns-clause-frame
returns-clause-frame c = frame-said

pub returns-clause-reply : goal.returns-clause-reply
returns-clause-reply c = frame-said

use Rattle.law_live.proofs.HoldersRead.{started-spends, spends-after_timer, spends-after_mark}
use Rattle.law_live.proofs.HoldersSpeak.{speech-spends}
use Rattle.law_live.proofs.holding.a_holder_keeps_within_its_time.Goals as goal

pub returns-clause-started : goal.returns-clause-started
returns-clause-started c p recent d now s master = started-spends p recent d now s master

pub returns-clause-timer : goal.returns-clause-timer
returns-clause-timer c p recent d bound s o = spends-after_timer p recent d bound s o

pub returns-clause-mark : goal.returns-clause-mark
returns-clause-mark c p recent d s m comes o = spends-after_mark p recent d s m comes o

pub returns-clause-speech : goal.returns-clause-speech
returns-clause-speech c p recent d s now take time has o = speech-spends p recent d s now take time has o

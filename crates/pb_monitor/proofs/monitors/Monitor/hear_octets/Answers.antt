use Rattle.std.proofs.Common.{◌≡◌, ◌++◌, OnOk, Result, length, subst}
use Rattle.pb_telegram.specs.declared.telegrams.Telegram.{Telegram}
use Rattle.pb_telegram.specs.declared.faults.TelegramFault.{TelegramFault}
use Rattle.pb_monitor.specs.Listening.{behind, burst_of, heard_of, setting_of, told}
use Rattle.pb_monitor.proofs.Listening.{read_so}
use Rattle.pb_monitor.proofs.monitors.Monitor.hear_octets.Goals as goal

pub returns-clause-text : goal.returns-clause-text
returns-clause-text c = λ r is every.
    let a = c.args in
    let read = c.read_octets in
    subst (λ (x : Result Telegram TelegramFault). OnOk c.hear_when.result (c.hear_when.new.text.items
    ≡ a.text.now.items ++ told (setting_of a.self.now) (heard_of a.self.now) a.when (burst_of a.when (length a.octets.now) x)))
    (read_so a.octets.now read.new.telegram r read.ensures.whole read.ensures.fault is) (c.hear_when.ensures.text every)

pub returns-clause-heard : goal.returns-clause-heard
returns-clause-heard c = λ r is.
    let a = c.args in
    let read = c.read_octets in
    subst (λ (x : Result Telegram TelegramFault). OnOk c.hear_when.result (heard_of c.hear_when.new.self
    ≡ behind (setting_of a.self.now) a.when (burst_of a.when (length a.octets.now) x) (heard_of a.self.now)))
    (read_so a.octets.now read.new.telegram r read.ensures.whole read.ensures.fault is) c.hear_when.ensures.heard

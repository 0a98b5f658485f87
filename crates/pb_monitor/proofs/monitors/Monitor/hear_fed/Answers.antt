use Rattle.std.proofs.Common.{rules, ◌≡◌, ℕ, ◌++◌, OnOk, Result, length, subst, ap, ◌∙◌}
use Rattle.pb_telegram.specs.declared.telegrams.Telegram.{Telegram}
use Rattle.pb_telegram.specs.declared.faults.TelegramFault.{TelegramFault}
use Rattle.pb_monitor.specs.Known.{plus}
use Rattle.pb_monitor.specs.Listening.{behind, burst_of, heard_of, setting_of, told}
use Rattle.pb_monitor.proofs.Listening.{answered_so}
use Rattle.pb_monitor.proofs.monitors.Monitor.hear_fed.Goals as goal

pub returns-clause-text : goal.returns-clause-text
returns-clause-text c = λ chars stands r is every.
    let a = c.args in
    let answer = c.answer-burst in
    let sum : c.saturating_add-count.result ≡ plus c.fed.result a.unfed = search rules in
    subst (λ (x : Result Telegram TelegramFault). OnOk c.hear_when.result (c.hear_when.new.text.items
    ≡ a.text.now.items ++ told (setting_of a.self.now) (heard_of a.self.now) a.when (burst_of a.when (plus (length chars) a.unfed) x)))
    (answered_so chars answer.result r (answer.ensures.telegram chars stands) (answer.ensures.fault chars stands) is)
    (subst (λ (n : ℕ). OnOk c.hear_when.result (c.hear_when.new.text.items
    ≡ a.text.now.items ++ told (setting_of a.self.now) (heard_of a.self.now) a.when (burst_of a.when n answer.result)))
    (sum ∙ ap (λ (n : ℕ). plus n a.unfed) (c.fed.ensures.stands chars stands)) (c.hear_when.ensures.text every))

pub returns-clause-heard : goal.returns-clause-heard
returns-clause-heard c = λ chars stands r is.
    let a = c.args in
    let answer = c.answer-burst in
    let sum : c.saturating_add-count.result ≡ plus c.fed.result a.unfed = search rules in
    subst (λ (x : Result Telegram TelegramFault). OnOk c.hear_when.result (heard_of c.hear_when.new.self
    ≡ behind (setting_of a.self.now) a.when (burst_of a.when (plus (length chars) a.unfed) x) (heard_of a.self.now)))
    (answered_so chars answer.result r (answer.ensures.telegram chars stands) (answer.ensures.fault chars stands) is)
    (subst (λ (n : ℕ). OnOk c.hear_when.result (heard_of c.hear_when.new.self
    ≡ behind (setting_of a.self.now) a.when (burst_of a.when n answer.result) (heard_of a.self.now)))
    (sum ∙ ap (λ (n : ℕ). plus n a.unfed) (c.fed.ensures.stands chars stands)) c.hear_when.ensures.heard)

use Rattle.std.proofs.Common.{rules, ◌≡◌, ℕ, ◌++◌, OnOk, Result, length, subst}
use Rattle.pb_telegram.specs.declared.telegrams.Telegram.{Telegram}
use Rattle.pb_telegram.specs.declared.faults.TelegramFault.{TelegramFault}
use Rattle.pb_monitor.specs.Known.{plus}
use Rattle.pb_monitor.specs.Listening.{behind_timed, burst_of, heard_of, setting_of, told_timed}
use Rattle.pb_monitor.specs.Times.{bits_of_characters}
use Rattle.pb_monitor.specs.declared.lines.When.TheVariants.{From}
use Rattle.pb_monitor.proofs.Listening.{read_so}
use Rattle.pb_monitor.proofs.monitors.Monitor.hear_octets_from.Goals as goal

pub returns-clause-text : goal.returns-clause-text
returns-clause-text c = λ r is every.
    let a = c.args in
    let read = c.read_octets in
    let end : c.saturating_add-burst.result ≡ plus a.begin (bits_of_characters (length a.octets.now)) = search rules in
    subst (λ (x : Result Telegram TelegramFault). OnOk c.hear_timed.result (c.hear_timed.new.text.items
    ≡ a.text.now.items ++ told_timed (setting_of a.self.now) (heard_of a.self.now) (burst_of (From a.begin) (length a.octets.now) x)))
    (read_so a.octets.now read.new.telegram r read.ensures.whole read.ensures.fault is)
    (subst (λ (e : ℕ). OnOk c.hear_timed.result (c.hear_timed.new.text.items
    ≡ a.text.now.items ++ told_timed (setting_of a.self.now) (heard_of a.self.now) (record { begin = a.begin; end = e; telegram = read.new.telegram })))
    end (c.hear_timed.ensures.text every))

pub returns-clause-heard : goal.returns-clause-heard
returns-clause-heard c = λ r is.
    let a = c.args in
    let read = c.read_octets in
    let end : c.saturating_add-burst.result ≡ plus a.begin (bits_of_characters (length a.octets.now)) = search rules in
    let at : OnOk c.hear_timed.result (heard_of c.hear_timed.new.self ≡ behind_timed (setting_of a.self.now)
    (record { begin = a.begin; end = c.saturating_add-burst.result; telegram = read.new.telegram }) (heard_of a.self.now)) = search rules in
    subst (λ (x : Result Telegram TelegramFault). OnOk c.hear_timed.result (heard_of c.hear_timed.new.self
    ≡ behind_timed (setting_of a.self.now) (burst_of (From a.begin) (length a.octets.now) x) (heard_of a.self.now)))
    (read_so a.octets.now read.new.telegram r read.ensures.whole read.ensures.fault is)
    (subst (λ (e : ℕ). OnOk c.hear_timed.result (heard_of c.hear_timed.new.self ≡ behind_timed (setting_of a.self.now)
    (record { begin = a.begin; end = e; telegram = read.new.telegram }) (heard_of a.self.now)))
    end at)

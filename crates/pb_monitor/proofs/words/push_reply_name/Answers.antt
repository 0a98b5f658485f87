use Rattle.std.proofs.Common.{rules, ◌≡◌, ◌∙◌, ◌++◌, ap, List, ℕ}
use Rattle.std.specs.Prelude.{codes, decimal}
use Rattle.pb_monitor.specs.TelegramWords.{reply_name}
use Rattle.pb_monitor.proofs.Appending.{joined}
use Rattle.pb_monitor.proofs.words.push_reply_name.Goals as goal

pub returns-in-None : goal.returns-in-None
returns-in-None c =
    let same : c.from.result ≡ c.args.code = search rules in
    let words : List ℕ = codes "reply: function code " in
    let named : words ++ decimal c.args.code ≡ reply_name c.args.code = c.in-None.ensures in
    let name : words ++ decimal c.from.result ≡ reply_name c.args.code = ap (λ (n : ℕ). words ++ decimal n) same ∙ named in
    joined c.push_counted.result c.args.text.now.items c.push_counted.new.text.items words (decimal c.from.result) (reply_name c.args.code) name c.push_counted.ensures

use Rattle.std.proofs.Common.{rules, ◌≡◌, ℕ, List, ◌++◌, ap, sym, ◌∙◌}
use Rattle.pb_telegram.specs.Grammar.{Spells}
use Rattle.pb_decode.specs.Decoding.{answer_text}
use Rattle.pb_decode.specs.Texts.{telegram_text}
use Rattle.pb_decode.proofs.lines.push_other_answer.Goals as goal

pub returns-in_ok-push_telegram-in-Ok-clause-text : goal.returns-in_ok-push_telegram-in-Ok-clause-text
returns-in_ok-push_telegram-in-Ok-clause-text c =
    let old = c.args.text.now.items in
    let pushed : c.push_telegram.new.text.items ≡ old ++ telegram_text c.in-Ok.telegram = search rules in
    λ chars stands.
    let spelled : Spells chars c.in-Ok.telegram = c.in-Ok.ensures.telegram chars stands in
    let law : answer_text chars ≡ telegram_text c.in-Ok.telegram =
    c.spelled_text_is_the_telegrams.ensures chars c.in-Ok.telegram spelled in
    pushed ∙ ap (λ (text : List ℕ). old ++ text) (sym law)

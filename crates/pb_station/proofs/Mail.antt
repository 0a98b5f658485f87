-- A mailbox with one mark more.
use Rattle.std.proofs.Common.{◌≡◌, ◌∙◌, ap, ℕ, ◌++◌, List, [], ◌∷◌}
use Rattle.law_turn.specs.Marks.{Mark}
use Rattle.pb_station.specs.Indications.{IndicationFields}
use Rattle.pb_station.specs.Mailboxes.{MailboxView, with_mark}

abbrev pub mail : ℕ → List Mark → List IndicationFields → MailboxView
mail room marks told = record { room = room; marks = marks; told = told }

pub mark-more : (room : ℕ) (marks more : List Mark) (told : List IndicationFields) (m : Mark) (view : MailboxView)
    → more ≡ marks ++ m ∷ [] → mail room marks told ≡ view → mail room more told ≡ with_mark view m
mark-more room marks more told m view longer is =
    ap (λ (ms : List Mark). mail room ms told) longer ∙ ap (λ (v : MailboxView). with_mark v m) is

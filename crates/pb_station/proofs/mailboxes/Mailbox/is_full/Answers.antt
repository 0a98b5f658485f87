use Rattle.std.proofs.Common.{rules, ◌≡◌, ◌∙◌, ap, sym, length, nat_le}
use Rattle.pb_station.specs.Mailboxes.{MailboxView}
use Rattle.pb_station.proofs.Noted.{as-many}
use Rattle.pb_station.proofs.mailboxes.Mailbox.is_full.Goals as goal

pub returns : goal.returns
returns c =
    let inside = c.self.inside in
    let many : length c.args.self.now.marks ≡ length inside.notes.items =
    sym (ap (λ (v : MailboxView). length v.marks) c.self.view_is) ∙ as-many inside.notes.items inside.chars.items inside.octets.items in
    let counted : c.len.result ≡ length inside.notes.items = search rules in
    ap (nat_le inside.room) (counted ∙ sym many) ∙ ap (λ (v : MailboxView). nat_le v.room (length c.args.self.now.marks)) c.self.view_is

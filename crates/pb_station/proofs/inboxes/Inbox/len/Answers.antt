use Rattle.std.proofs.Common.{rules, ◌≡◌, ◌∙◌, ap, sym, length}
use Rattle.pb_station.proofs.Noted.{as-many}
use Rattle.pb_station.proofs.inboxes.Inbox.len.Goals as goal

pub returns-clause-value : goal.returns-clause-value
returns-clause-value c =
    let inside = c.self.inside in
    let many : length c.args.self.now ≡ length inside.notes.items =
    sym (ap length c.self.view_is) ∙ as-many inside.notes.items inside.chars.items inside.octets.items in
    search rules

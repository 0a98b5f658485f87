use Rattle.std.proofs.Common.{rules, ◌∙◌, ◌<◌, ◌∷◌, [], ap, sym, length, map, arith, length-append}
use Rattle.std.proofs.lemmas.List.{append-nil}
use Rattle.pb_station.specs.Notes.{mark_with}
use Rattle.pb_station.specs.Indications.{fields_of}
use Rattle.pb_station.specs.Mailboxes.{MailboxView}
use Rattle.pb_station.proofs.Mail.{mark-more}
use Rattle.pb_station.proofs.Noted.{as-many, of-next, marks-next}
use Rattle.pb_station.proofs.mailboxes.Mailbox.push_note.Goals as goal

pub push_reserved-requires : goal.push_reserved-requires
push_reserved-requires c =
    let size = ap (λ (v : MailboxView). v.room) c.self.view_is in
    let many = sym (ap (λ (v : MailboxView). length v.marks) c.self.view_is) ∙ as-many c.self.inside.notes.items c.self.inside.chars.items c.self.inside.octets.items in
    let few : length c.self.inside.notes.items < c.self.inside.room = omega (arith, c.requires.room, size, many) in
    search rules

pub invariant_of-self : goal.invariant_of-self
invariant_of-self c =
    let chars = c.self.inside.chars.items in
    let octets = c.self.inside.octets.items in
    let size = ap (λ (v : MailboxView). v.room) c.self.view_is in
    let many = sym (ap (λ (v : MailboxView). length v.marks) c.self.view_is) ∙ as-many c.self.inside.notes.items c.self.inside.chars.items c.self.inside.octets.items in (
      search rules,
      omega (arith, c.requires.room, size, many, ap length c.push_reserved.ensures.items, length-append c.self.inside.notes.items (c.args.note ∷ [])),
      c.self.invariant.2,
      c.self.invariant.3,
      c.self.invariant.4,
      of-next c.self.inside.notes.items _ chars chars [] octets octets [] c.args.note c.push_reserved.ensures.items (sym (append-nil chars)) (sym (append-nil octets))
          c.self.invariant.5 c.requires.chars (omega arith) c.requires.octets (omega arith),
    )

pub returns : goal.returns
returns c =
    let chars = c.self.inside.chars.items in
    let octets = c.self.inside.octets.items in
    mark-more c.self.inside.room _ _ (map fields_of c.self.inside.told.items) (mark_with c.args.note [] []) c.args.self.now
    (marks-next c.self.inside.notes.items _ chars chars [] octets octets [] c.args.note c.push_reserved.ensures.items
    (sym (append-nil chars)) (sym (append-nil octets)) c.self.invariant.5 c.requires.chars c.requires.octets)
    c.self.view_is

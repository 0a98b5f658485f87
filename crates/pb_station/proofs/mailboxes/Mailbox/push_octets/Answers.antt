use Rattle.std.proofs.Common.{rules, refl, ◌∙◌, ◌<◌, ◌∷◌, [], ap, sym, length, map, arith, length-append}
use Rattle.std.proofs.lemmas.List.{append-nil}
use Rattle.pb_telegram.specs.declared.chars.RxChar.TheVariants.{Good}
use Rattle.law_turn.specs.Marks.{End}
use Rattle.pb_station.specs.declared.notes.Note.TheVariants as note
use Rattle.pb_station.specs.Indications.{fields_of}
use Rattle.pb_station.specs.Mailboxes.{MailboxView}
use Rattle.pb_station.proofs.Mail.{mark-more}
use Rattle.pb_station.proofs.Noted.{as-many, few-octets, of-next, marks-next}
use Rattle.pb_station.proofs.mailboxes.Mailbox.push_octets.Goals as goal

pub push_all-requires : goal.push_all-requires
push_all-requires c =
    let size = ap (λ (v : MailboxView). v.room) c.self.view_is in
    let many = sym (ap (λ (v : MailboxView). length v.marks) c.self.view_is) ∙ as-many c.self.inside.notes.items c.self.inside.chars.items c.self.inside.octets.items in
    omega (
      arith,
      c.requires.room,
      size,
      c.requires.fits,
      many,
      few-octets c.self.inside.notes.items c.self.inside.chars.items c.self.inside.octets.items c.self.invariant.5,
      c.self.invariant.3,
    )

pub push_reserved-requires : goal.push_reserved-requires
push_reserved-requires c =
    let size = ap (λ (v : MailboxView). v.room) c.self.view_is in
    let many = sym (ap (λ (v : MailboxView). length v.marks) c.self.view_is) ∙ as-many c.self.inside.notes.items c.self.inside.chars.items c.self.inside.octets.items in
    let few : length c.self.inside.notes.items < c.self.inside.room = omega (arith, c.requires.room, size, many) in
    search rules

pub invariant_of-self : goal.invariant_of-self
invariant_of-self c =
    let chars = c.self.inside.chars.items in
    let new = note.GoodEnd c.args.at c.args.seen (length c.args.octets.now) in
    let size = ap (λ (v : MailboxView). v.room) c.self.view_is in
    let many = sym (ap (λ (v : MailboxView). length v.marks) c.self.view_is) ∙ as-many c.self.inside.notes.items c.self.inside.chars.items c.self.inside.octets.items in (
      search rules,
      omega (arith, c.requires.room, size, many, ap length c.push_reserved.ensures.items, length-append c.self.inside.notes.items (new ∷ [])),
      c.self.invariant.2,
      omega (arith, c.self.invariant.3, c.push_all.ensures.room),
      c.self.invariant.4,
      of-next c.self.inside.notes.items _ chars chars [] c.self.inside.octets.items _ c.args.octets.now new c.push_reserved.ensures.items (sym (append-nil chars))
          c.push_all.ensures.items c.self.invariant.5 refl (omega arith) refl c.requires.fits,
    )

pub returns : goal.returns
returns c =
    let chars = c.self.inside.chars.items in
    let new = note.GoodEnd c.args.at c.args.seen (length c.args.octets.now) in
    mark-more c.self.inside.room _ _ (map fields_of c.self.inside.told.items) (End c.args.at c.args.seen (map Good c.args.octets.now)) c.args.self.now
    (marks-next c.self.inside.notes.items _ chars chars [] c.self.inside.octets.items _ c.args.octets.now new c.push_reserved.ensures.items (sym (append-nil chars))
    c.push_all.ensures.items c.self.invariant.5 refl refl)
    c.self.view_is

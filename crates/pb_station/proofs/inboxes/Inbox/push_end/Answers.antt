use Rattle.std.proofs.Common.{rules, refl, ◌∙◌, ◌<◌, ◌++◌, ◌∷◌, [], ap, sym, List, length, arith, length-append}
use Rattle.std.proofs.lemmas.List.{append-nil}
use Rattle.law_turn.specs.Marks.{Mark, End}
use Rattle.pb_station.specs.declared.notes.Note.TheVariants as note
use Rattle.pb_station.proofs.Noted.{as-many, few-chars, of-next, marks-next}
use Rattle.pb_station.proofs.inboxes.Inbox.push_end.Goals as goal

pub push_all-requires : goal.push_all-requires
push_all-requires c =
    let many = sym (ap length c.self.view_is) ∙ as-many c.self.inside.notes.items c.self.inside.chars.items c.self.inside.octets.items in
    omega (
      arith,
      c.requires.room,
      c.requires.fits,
      many,
      few-chars c.self.inside.notes.items c.self.inside.chars.items c.self.inside.octets.items c.self.invariant.4,
      c.self.invariant.2,
    )

pub push_reserved-requires : goal.push_reserved-requires
push_reserved-requires c =
    let many = sym (ap length c.self.view_is) ∙ as-many c.self.inside.notes.items c.self.inside.chars.items c.self.inside.octets.items in
    let few : length c.self.inside.notes.items < 64 = omega (arith, c.requires.room, many) in
    search rules

pub invariant_of-self : goal.invariant_of-self
invariant_of-self c =
    let octets = c.self.inside.octets.items in
    let new = note.End c.args.at c.args.seen (length c.args.chars.now) in
    let many = sym (ap length c.self.view_is) ∙ as-many c.self.inside.notes.items c.self.inside.chars.items c.self.inside.octets.items in (
      search rules,
      omega (arith, c.requires.room, many, ap length c.push_reserved.ensures.items, length-append c.self.inside.notes.items (new ∷ [])),
      omega (arith, c.self.invariant.2, c.push_all.ensures.room),
      c.self.invariant.3,
      of-next c.self.inside.notes.items _ c.self.inside.chars.items _ c.args.chars.now octets octets [] new c.push_reserved.ensures.items
          c.push_all.ensures.items (sym (append-nil octets)) c.self.invariant.4 refl c.requires.fits refl (omega arith),
    )

pub returns : goal.returns
returns c =
    let octets = c.self.inside.octets.items in
    let new = note.End c.args.at c.args.seen (length c.args.chars.now) in
    marks-next c.self.inside.notes.items _ c.self.inside.chars.items _ c.args.chars.now octets octets [] new c.push_reserved.ensures.items
    c.push_all.ensures.items (sym (append-nil octets)) c.self.invariant.4 refl refl
    ∙ ap (λ (ms : List Mark). ms ++ End c.args.at c.args.seen c.args.chars.now ∷ []) c.self.view_is

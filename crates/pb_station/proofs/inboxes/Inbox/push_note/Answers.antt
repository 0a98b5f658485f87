use Rattle.std.proofs.Common.{rules, ◌∙◌, ◌<◌, ◌++◌, ◌∷◌, [], ap, sym, List, length, arith, length-append}
use Rattle.std.proofs.lemmas.List.{append-nil}
use Rattle.law_turn.specs.Marks.{Mark}
use Rattle.pb_station.specs.Notes.{mark_with}
use Rattle.pb_station.proofs.Noted.{as-many, of-next, marks-next}
use Rattle.pb_station.proofs.inboxes.Inbox.push_note.Goals as goal

pub push_reserved-requires : goal.push_reserved-requires
push_reserved-requires c =
    let many = sym (ap length c.self.view_is) ∙ as-many c.self.inside.notes.items c.self.inside.chars.items c.self.inside.octets.items in
    let few : length c.self.inside.notes.items < 64 = omega (arith, c.requires.room, many) in
    search rules

pub invariant_of-self : goal.invariant_of-self
invariant_of-self c =
    let chars = c.self.inside.chars.items in
    let octets = c.self.inside.octets.items in
    let many = sym (ap length c.self.view_is) ∙ as-many c.self.inside.notes.items c.self.inside.chars.items c.self.inside.octets.items in (
      search rules,
      omega (arith, c.requires.room, many, ap length c.push_reserved.ensures.items, length-append c.self.inside.notes.items (c.args.note ∷ [])),
      c.self.invariant.2,
      c.self.invariant.3,
      of-next c.self.inside.notes.items _ chars chars [] octets octets [] c.args.note c.push_reserved.ensures.items (sym (append-nil chars)) (sym (append-nil octets))
          c.self.invariant.4 c.requires.chars (omega arith) c.requires.octets (omega arith),
    )

pub returns : goal.returns
returns c =
    let chars = c.self.inside.chars.items in
    let octets = c.self.inside.octets.items in
    marks-next c.self.inside.notes.items _ chars chars [] octets octets [] c.args.note c.push_reserved.ensures.items
    (sym (append-nil chars)) (sym (append-nil octets)) c.self.invariant.4 c.requires.chars c.requires.octets
    ∙ ap (λ (ms : List Mark). ms ++ mark_with c.args.note [] [] ∷ []) c.self.view_is

use Rattle.std.proofs.Common.{◌≡◌, ℕ, List, sym, subst}
use Rattle.std.specs.Prelude.{slice_index, min}
use mathlib.Core.Option.{some}
use lib.ListN.{get_elem?}
use Rattle.pb_fleet.proofs.Given.{all_of, found, once_of}
use Rattle.pb_fleet.proofs.tickets.Tickets.close.Goals as goal

pub returns-clause-once : goal.returns-clause-once
returns-clause-once c =
    let last = c.close_with-closed.ensures.values.2 in
    let s = last.0 in
    let key = c.args.self.table.shared.key in
    let word : slice_index s.words 0 ≡ c.word-word.result = found s.words c.word-word.result (subst (λ (ws : List ℕ). get_elem? ws 0 ≡ some c.word-word.result) (sym last.2) c.word-word.ensures) in
    let drawn : min (slice_index s.words 0) key.limit ≡ c.min.result = rw (word, c.args.self.known) (sym c.min.ensures) in
    λ x. rw (sym drawn) (once_of key s c.args.seat.seat.id c.args.seat.seat.me.0 x last.1.0 last.1.1)

pub returns-clause-all : goal.returns-clause-all
returns-clause-all c =
    let last = c.close_with-closed.ensures.values.2 in
    let s = last.0 in
    let key = c.args.self.table.shared.key in
    let word : slice_index s.words 0 ≡ c.word-word.result = found s.words c.word-word.result (subst (λ (ws : List ℕ). get_elem? ws 0 ≡ some c.word-word.result) (sym last.2) c.word-word.ensures) in
    let drawn : min (slice_index s.words 0) key.limit ≡ c.min.result = rw (word, c.args.self.known) (sym c.min.ensures) in
    λ whole x. rw (sym drawn) (all_of key s c.args.seat.seat.id c.args.seat.seat.me.0 x last.1.0 last.1.1 whole)

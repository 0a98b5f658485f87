use Rattle.std.proofs.Common.{rules, ◌∙◌, sym, ap, map, ◌&&◌, refl}
use Rattle.pb_medium.specs.Entries.{entry_of, record_of}
use Rattle.pb_medium.specs.Senses.{is_undamaged}
use Rattle.pb_taps.specs.Taps.{tap_of}
use Rattle.pb_medium.proofs.Sensing.{whole-filled}
use Rattle.pb_medium.proofs.senses.is_whole_at.Goals as goal
use borrow.Author.Tests.{tests}

pub returns-then-fills_burst : goal.returns-then-fills_burst
returns-then-fills_burst c =
    ap (λ b. b && c.is_undamaged_at.result) (sym c.if-fills_burst.true)
    ∙ whole-filled c.args.delay c.args.position (tap_of c.args.tap.now) (map entry_of c.args.entries.now) (record_of c.args.telegram.now) _ _ (search (rules, tests)) (c.fills_burst.ensures) c.is_undamaged_at.ensures

pub returns-else-fills_burst : goal.returns-else-fills_burst
returns-else-fills_burst c =
    let r = record_of c.args.telegram.now in
    c.if-fills_burst.false ∙ ap (λ b. b && is_undamaged c.args.position r) (sym c.if-fills_burst.false)
    ∙ whole-filled c.args.delay c.args.position (tap_of c.args.tap.now) (map entry_of c.args.entries.now) r _ _ (search (rules, tests)) (c.fills_burst.ensures) refl

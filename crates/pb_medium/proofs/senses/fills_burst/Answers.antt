use Rattle.std.proofs.Common.{◌∙◌, sym, ap, map, ◌&&◌, refl}
use Rattle.law_turn.specs.Spans.{Span}
use Rattle.law_model.specs.Medium.{hears_from}
use Rattle.pb_medium.specs.Senses.{is_alone}
use Rattle.pb_medium.specs.Entries.{entry_of, record_of}
use Rattle.pb_taps.specs.Taps.{tap_of}
use Rattle.pb_medium.proofs.Sensing.{burst-filled}
use Rattle.pb_medium.proofs.senses.fills_burst.Goals as goal

pub returns-then-hears_from : goal.returns-then-hears_from
returns-then-hears_from c =
    ap (λ b. b && c.is_alone.result) (sym c.if-hears_from.true)
    ∙ burst-filled c.args.delay c.args.position (tap_of c.args.tap.now) (map entry_of c.args.entries.now) (record_of c.args.telegram.now) _ _ (c.hears_from.ensures ∙ ap (hears_from (tap_of c.args.tap.now)) (c.begin.ensures ∙ ap (λ (span : Span). span.begin) c.reaches.ensures)) c.is_alone.ensures

pub returns-else-hears_from : goal.returns-else-hears_from
returns-else-hears_from c =
    let t = tap_of c.args.tap.now in
    let trace = map entry_of c.args.entries.now in
    let r = record_of c.args.telegram.now in
    c.if-hears_from.false ∙ ap (λ b. b && is_alone c.args.delay c.args.position t.since trace r) (sym c.if-hears_from.false)
    ∙ burst-filled c.args.delay c.args.position t trace r _ _ (c.hears_from.ensures ∙ ap (hears_from (tap_of c.args.tap.now)) (c.begin.ensures ∙ ap (λ (span : Span). span.begin) c.reaches.ensures)) refl

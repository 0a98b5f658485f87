use Rattle.std.proofs.Common.{◌∙◌, ◌≤◌, ap, subst, arith, map}
use Rattle.law_turn.specs.Spans.{Span}
use Rattle.pb_medium.specs.Entries.{entry_of}
use Rattle.pb_taps.proofs.Items.{item-at}
use Rattle.pb_export.proofs.Around.{gone_more}
use Rattle.pb_export.proofs.holders.first_not_over.Goals as goal

pub loop-place-preserved : goal.loop-place-preserved
loop-place-preserved c =
    let entries = c.args.before.now in
    let i = c.loop-place.place in
    let e = c.index-before-place.result in
    let here = item-at entry_of entries i e (omega (arith, c.loop-place-test.true)) c.index-before-place.is in
    gone_more c.args.delay c.args.moment i (map entry_of entries) (entry_of e) here
    (subst (λ n. n ≤ c.args.moment) (c.end.ensures ∙ ap (λ (s : Span). s.end) c.reaches_taps.ensures) c.if-moment-end.false) c.loop-place.invariant

-- The entries are cut one after another.
use Rattle.std.proofs.Common.{◌≡◌, ◌∙◌, ap, sym, map, length, arith}
use Rattle.std.proofs.Math.ListN.{get_or-map}
use Rattle.std.proofs.lemmas.List.{length-map}
use Rattle.law_model.specs.Trace as trace
use Rattle.law_model.specs.Trace.{cut_at}
use Rattle.pb_medium.specs.Entries.{entry_of}
use Rattle.pb_taps.proofs.Replacing.{changed-more, changed-at, changed-all}
use Rattle.pb_medium.proofs.cutting.cut_all.Goals as goal

pub loop-entry-preserved : goal.loop-entry-preserved
loop-entry-preserved c =
    let es = map entry_of c.args.entries.now in
    let change : trace.Entry → trace.Entry = cut_at c.args.now c.args.tap in
    let at = c.loop-entry.entry-index in
    let x = c.entry-item.result in
    let long : length (map change es) ≡ length c.args.entries.now = length-map es change ∙ length-map c.args.entries.now entry_of in
    changed-more entry_of (map change es) c.args.entries.now c.loop-entry.entries at c.cut.new.entry (change (entry_of x)) c.loop-entry.invariant long c.loop-entry-test.true
    (c.cut.ensures
    ∙ ap change (changed-at entry_of (map change es) c.args.entries.now c.loop-entry.entries at x c.loop-entry.invariant long c.loop-entry-test.true)
    ∙ sym (get_or-map change es at (entry_of x)))

pub returns-clause-cut : goal.returns-clause-cut
returns-clause-cut c =
    let es = map entry_of c.args.entries.now in
    let change : trace.Entry → trace.Entry = cut_at c.args.now c.args.tap in
    changed-all entry_of (map change es) c.args.entries.now c.loop-entry.entries c.loop-entry.entry-index c.loop-entry.invariant
    (length-map es change ∙ length-map c.args.entries.now entry_of) (omega arith)

-- The entries settle one after another; each looks the same to the taps before and after.
use Rattle.std.proofs.Common.{◌≡◌, ◌∙◌, ap, sym, map, length, get_or, arith}
use Rattle.std.proofs.Math.ListN.{get_or-map}
use Rattle.std.proofs.lemmas.List.{length-map, get_or_default}
use Rattle.law_model.specs.Trace as model
use Rattle.law_model.specs.Medium.{entry_at}
use Rattle.pb_medium.specs.declared.entries.Entry.{Entry}
use Rattle.pb_medium.specs.Entries.{entry_of}
use Rattle.pb_taps.specs.Taps.{tap_of}
use Rattle.pb_taps.proofs.Replacing.{changed-more, changed-at, changed-all}
use Rattle.pb_medium.proofs.Settled.{settled-partly}
use Rattle.pb_medium.proofs.settling.settle.Goals as goal

pub loop-place-preserved : goal.loop-place-preserved
loop-place-preserved c =
    let es = map entry_of c.args.entries.now in
    let taps = map tap_of c.args.taps.now in
    let change : model.Entry → model.Entry = entry_at c.args.delay taps es c.args.from c.args.to in
    let now = c.loop-place.entries in
    let at = c.loop-place.place in
    let x = c.index-known-place.result in
    let long : length (map change es) ≡ length c.args.entries.now = length-map es change ∙ length-map c.args.entries.now entry_of in
    let same : get_or now at c.index-entries-place.result ≡ x =
    get_or_default now at c.index-entries-place.result x (omega arith) ∙ sym c.index-known-place.is in
    let is : entry_of c.settle_entry.new.entry ≡ get_or (map change es) at (change (entry_of x)) =
    (rw same at c.settle_entry.ensures)
    ∙ c.outcome-heard.ensures
    ∙ settled-partly c.args.delay taps es (map entry_of now) c.args.from c.args.to at (entry_of x) (c.loop-place.invariant)
    ∙ ap (λ (e : Entry). change (entry_of e)) c.index-known-place.is
    ∙ ap change (changed-at entry_of (map change es) c.args.entries.now now at x (c.loop-place.invariant) long c.loop-place-test.true)
    ∙ sym (get_or-map change es at (entry_of x)) in
    changed-more entry_of (map change es) c.args.entries.now now at c.settle_entry.new.entry (change (entry_of x)) (c.loop-place.invariant) long c.loop-place-test.true is

pub returns-clause-settled : goal.returns-clause-settled
returns-clause-settled c =
    let es = map entry_of c.args.entries.now in
    let taps = map tap_of c.args.taps.now in
    let change : model.Entry → model.Entry = entry_at c.args.delay taps es c.args.from c.args.to in
    changed-all entry_of (map change es) c.args.entries.now c.loop-place.entries c.loop-place.place (c.loop-place.invariant)
    (length-map es change ∙ length-map c.args.entries.now entry_of) (omega arith)

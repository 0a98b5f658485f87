use Rattle.std.proofs.Common.{map, ap, sym, ◌∙◌, ◌<◌, length, arith}
use Rattle.law_model.specs.World.{is_in_air_by}
use Rattle.std.proofs.lemmas.List.{length-map}
use Rattle.pb_medium.specs.Entries.{entry_of}
use Rattle.pb_taps.proofs.Items.{left-at, passed-at}
use Rattle.pb_medium.proofs.Hitting.{first-here, none-more}
use Rattle.pb_medium.proofs.damaging.first_in_air.Goals as goal

pub returns-then-is_in_air_by-clause-place : goal.returns-then-is_in_air_by-clause-place
returns-then-is_in_air_by-clause-place c =
    let here = entry_of c.index-entries-place.result in
    let there : c.loop-place.place < length (map entry_of c.args.entries.now) = omega (arith, length-map c.args.entries.now entry_of, c.loop-place-test.true) in
    first-here (is_in_air_by c.args.delay c.args.now c.args.speaker) here (map entry_of c.args.entries.now) c.loop-place.place c.loop-place.invariant there
    (left-at entry_of c.args.entries.now c.loop-place.place c.index-entries-place.result c.loop-place-test.true c.index-entries-place.is)
    (ap (λ n. is_in_air_by c.args.delay n c.args.speaker here) (sym c.get.ensures.value) ∙ sym c.is_in_air_by.ensures ∙ c.if-is_in_air_by.true)

pub loop-place-preserved : goal.loop-place-preserved
loop-place-preserved c =
    let here = entry_of c.index-entries-place.result in
    none-more (is_in_air_by c.args.delay c.args.now c.args.speaker) here (map entry_of c.args.entries.now) c.loop-place.place c.loop-place.invariant
    (left-at entry_of c.args.entries.now c.loop-place.place c.index-entries-place.result c.loop-place-test.true c.index-entries-place.is)
    (passed-at entry_of c.args.entries.now c.loop-place.place c.index-entries-place.result c.loop-place-test.true c.index-entries-place.is)
    (ap (λ n. is_in_air_by c.args.delay n c.args.speaker here) (sym c.get.ensures.value) ∙ sym c.is_in_air_by.ensures ∙ c.if-is_in_air_by.false)

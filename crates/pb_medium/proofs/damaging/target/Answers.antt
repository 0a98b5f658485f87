use Rattle.std.proofs.Common.{ap, sym, ◌∙◌, ◌==◌, ◌||◌, not, Bool, false, ◌<◌, length, arith}
use Rattle.std.proofs.lemmas.Bool.{ne_eqb}
use Rattle.std.proofs.lemmas.List.{length-map}
use Rattle.law_model.specs.Step.{has_place}
use Rattle.law_model.specs.World.{is_in_air_by}
use Rattle.pb_medium.specs.Entries.{entry_of}
use Rattle.pb_medium.proofs.Hitting.{first-found}
use Rattle.pb_medium.proofs.damaging.target.Goals as goal
use Rattle.std.proofs.Math.Bool.{or-true}

pub returns-then-not-has_place-clause-none : goal.returns-then-not-has_place-clause-none
returns-then-not-has_place-clause-none c = λ _.
    let test = is_in_air_by c.args.delay c.args.now c.args.speaker in
    let first = c.in_ok-place.ensures.place in
    let there : c.in_ok-place.place < length c.args.entries.now = omega (arith, first.1, length-map c.args.entries.now entry_of) in
    let here = first-found test entry_of c.args.entries.now c.in_ok-place.place c.index-entries-place.result first there c.index-entries-place.is in
    ap (λ o. not (c.args.hit.tap == c.args.speaker || not (has_place o c.args.hit.place))) here.0
    ∙ ap (λ (b : Bool). not (c.args.hit.tap == c.args.speaker || not b)) (sym c.if-not-has_place.ensures) ∙ ap not (or-true (c.args.hit.tap == c.args.speaker))

pub returns-clause-some : goal.returns-clause-some
returns-clause-some c =
    let test = is_in_air_by c.args.delay c.args.now c.args.speaker in
    let first = c.in_ok-place.ensures.place in
    let there : c.in_ok-place.place < length c.args.entries.now = omega (arith, first.1, length-map c.args.entries.now entry_of) in
    let here = first-found test entry_of c.args.entries.now c.in_ok-place.place c.index-entries-place.result first there c.index-entries-place.is in
    ap (λ o. not (c.args.hit.tap == c.args.speaker || not (has_place o c.args.hit.place))) here.0
    ∙ ap (λ (b : Bool). not (c.args.hit.tap == c.args.speaker || not b)) (sym c.if-not-has_place.ensures)
    ∙ ap (λ (b : Bool). not (b || false)) (ne_eqb c.args.hit.tap c.args.speaker c.if-hit-speaker.false)

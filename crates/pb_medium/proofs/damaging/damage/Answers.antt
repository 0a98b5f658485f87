use Rattle.std.proofs.Common.{ap, sym, ◌∙◌, ◌<◌, ◌+◌, ◌++◌, ◌∷◌, length, arith, map}
use Rattle.std.specs.Prelude.{take, drop}
use Rattle.std.proofs.Math.Seq.{map-set_same}
use Rattle.std.proofs.lemmas.List.{length-map}
use Rattle.law_model.specs.Step.{with_hit}
use Rattle.law_model.specs.Trace as trace
use Rattle.law_model.specs.World.{is_in_air_by}
use Rattle.pb_medium.specs.Entries.{entry_of, hit_of}
use Rattle.pb_medium.proofs.Hitting.{first-found, set-at}
use Rattle.pb_taps.proofs.Items.{at-err}
use Rattle.pb_medium.proofs.damaging.damage.Goals as goal

pub returns-in_err-strike-in-Some-clause-err : goal.returns-in_err-strike-in-Some-clause-err
returns-in_err-strike-in-Some-clause-err c =
    at-err c.from_residual.result (map-set_same entry_of c.args.entries.now c.in-Some.place c.strike.new.entry c.index-entries-place.result c.in_err-strike-in-Some.ensures.err)

pub returns-in_ok-strike-in-Some-clause-ok : goal.returns-in_ok-strike-in-Some-clause-ok
returns-in_ok-strike-in-Some-clause-ok c =
    let xs = c.args.entries.now in
    let i = c.in-Some.place in
    let change = with_hit (hit_of c.args.hit) in
    let first = c.in-Some.ensures.place in
    let there : i < length xs = omega (arith, first.1, length-map xs entry_of) in
    let here = first-found (is_in_air_by c.args.delay c.args.now c.args.speaker) entry_of xs i c.index-entries-place.result first there c.index-entries-place.is in
    set-at entry_of xs i c.strike.new.entry there
    ∙ ap (λ (e : trace.Entry). take i (map entry_of xs) ++ e ∷ drop (i + 1) (map entry_of xs))
    (c.in_ok-strike-in-Some.ensures.ok ∙ ap (λ e. change (entry_of e)) (sym c.index-entries-place.is))
    ∙ sym (here.1 change)

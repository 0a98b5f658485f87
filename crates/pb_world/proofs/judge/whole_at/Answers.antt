use Rattle.std.proofs.Common.{◌∙◌, arith, ◌<◌, length}
use Rattle.std.specs.Prelude.{slice_get}
use Rattle.std.proofs.lemmas.List.{length-set}
use Rattle.law_runs.specs.Legality.{is_whole}
use Rattle.pb_medium.specs.Entries.{record_of}
use Rattle.pb_world.proofs.Hearing.{set-more}
use Rattle.pb_world.proofs.judge.whole_at.Goals as goal

pub loop-tap-preserved : goal.loop-tap-preserved
loop-tap-preserved c =
    let whole = c.loop-tap.whole in
    let tap = c.loop-tap.tap in
    let there : tap < length whole = omega (arith, c.loop-tap-test.true, c.loop-tap.invariant.size, c.min-tap-end.ensures) in
    record {
      size = length-set whole tap c.is_whole.result ∙ c.loop-tap.invariant.size;
      so_far = set-more (λ k. is_whole (slice_get (record_of c.args.telegram.now).heard k)) whole tap c.is_whole.result there c.is_whole.ensures c.loop-tap.invariant.so_far;
    }

pub returns-clause-size : goal.returns-clause-size
returns-clause-size c = c.loop-tap.invariant.size

pub returns-clause-whole : goal.returns-clause-whole
returns-clause-whole c = λ tap small few. c.loop-tap.invariant.so_far tap (omega (arith, small, few, c.loop-tap-test.false, c.min-tap-end.ensures))

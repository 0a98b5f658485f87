use Rattle.std.proofs.Common.{ap, arith, ℕ, ◌<◌, length, get_or, ◌∙◌}
use Rattle.std.specs.Prelude.{max}
use Rattle.std.proofs.lemmas.List.{length-set}
use Rattle.law_turn.specs.Spans.{Span}
use Rattle.law_runs.specs.Activity.{active_at}
use Rattle.pb_medium.specs.Entries.{entry_of}
use Rattle.pb_world.proofs.Premising.{renewed, not-yet, all-renewed}
use Rattle.pb_world.proofs.ends.take_on.Goals as goal

pub loop-tap-preserved : goal.loop-tap-preserved
loop-tap-preserved c =
    let before = c.args.latest.now in
    let with_it : ℕ → ℕ = λ k. max (get_or before k 0) (active_at c.args.delay k (entry_of c.args.entry.now)).end in
    let tap = c.loop-tap.tap in
    let there : tap < length c.loop-tap.latest = omega (arith, c.loop-tap-test.true, c.requires, c.loop-tap.invariant.count, c.told-latest) in
    record {
      count = length-set c.loop-tap.latest tap c.max.result ∙ c.loop-tap.invariant.count;
      so_far = renewed with_it c.loop-tap.latest before tap c.max.result there
          (c.max.ensures ∙ ap (λ n. max n c.end.result) (not-yet with_it c.loop-tap.latest before tap c.loop-tap.invariant.so_far)
          ∙ ap (λ n. max (get_or before tap 0) n) (c.end.ensures ∙ ap (λ (s : Span). s.end) c.active_at.ensures))
          c.loop-tap.invariant.so_far;
    }

pub returns-clause-size : goal.returns-clause-size
returns-clause-size c = c.loop-tap.invariant.count

pub returns-clause-more : goal.returns-clause-more
returns-clause-more c = λ tap small.
    let with_it : ℕ → ℕ = λ k. max (get_or c.args.latest.now k 0) (active_at c.args.delay k (entry_of c.args.entry.now)).end in
    all-renewed with_it c.loop-tap.latest c.args.latest.now c.loop-tap.tap c.loop-tap.invariant.so_far tap (omega (arith, small, c.loop-tap-test.false))

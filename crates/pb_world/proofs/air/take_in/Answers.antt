use Rattle.std.proofs.Common.{ap, arith, ℕ, ◌<◌, length, get_or, ◌∙◌, sym}
use Rattle.std.specs.Prelude.{max}
use Rattle.std.proofs.lemmas.List.{length-set}
use Rattle.law_runs.specs.Activity.{active_at}
use Rattle.law_streams.specs.Judgement.{ends_with}
use Rattle.law_streams.proofs.Judgement.{ends_with-at, ends_with-size}
use Rattle.pb_world.specs.Airtimes.{air_of}
use Rattle.pb_world.proofs.Hearing.{same-numbers}
use Rattle.pb_world.proofs.Premising.{renewed, not-yet, all-renewed}
use Rattle.pb_world.proofs.air.take_in.Goals as goal

pub loop-tap-preserved : goal.loop-tap-preserved
loop-tap-preserved c =
    let before = c.args.ends.now in
    let with_it : ℕ → ℕ = λ k. max (get_or before k 0) (active_at c.args.delay k (air_of c.args.airtime)).end in
    let tap = c.loop-tap.tap in
    let there : tap < length c.loop-tap.ends = omega (arith, c.loop-tap-test.true, c.loop-tap.invariant.count) in
    record {
      count = length-set c.loop-tap.ends tap c.max.result ∙ c.loop-tap.invariant.count;
      so_far = renewed with_it c.loop-tap.ends before tap c.max.result there
          (c.max.ensures ∙ ap (λ n. max n c.end_at.result) (not-yet with_it c.loop-tap.ends before tap c.loop-tap.invariant.so_far)
          ∙ ap (λ n. max (get_or before tap 0) n) c.end_at.ensures)
          c.loop-tap.invariant.so_far;
    }

pub returns : goal.returns
returns c =
    let before = c.args.ends.now in
    let delay = c.args.delay in
    let air = air_of c.args.airtime in
    let with_it : ℕ → ℕ = λ k. max (get_or before k 0) (active_at delay k air).end in
    let after = c.loop-tap.ends in
    same-numbers after (ends_with delay 0 air before) (c.loop-tap.invariant.count ∙ sym (ends_with-size delay 0 air before))
    (λ k there. all-renewed with_it after before c.loop-tap.tap c.loop-tap.invariant.so_far k (omega (arith, there, c.loop-tap-test.false, c.loop-tap.invariant.count))
    ∙ sym (ends_with-at delay 0 k k air before (omega arith) (omega (arith, there, c.loop-tap.invariant.count))))

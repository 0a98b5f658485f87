use Rattle.std.proofs.Common.{◌∙◌, ap, arith, ◌≤◌, ◌*◌}
use native.Mathlib.Nat.{mul-le-mul}
use Rattle.law_live.specs.NeverDead.{tries}
use Rattle.pb_world.proofs.stretches.retries.Goals as goal

pub returns-clause-value : goal.returns-clause-value
unfolding tries
returns-clause-value c =
    ap (λ n. n * c.attempt.result) (c.from.ensures ∙ c.retries.ensures.value) ∙ ap (λ n. c.args.params.now.retries * n) c.attempt.ensures.value

pub returns-clause-short : goal.returns-clause-short
returns-clause-short c =
    let p = c.retries.ensures.valid in
    let few : c.from.result ≤ 7 = omega (arith, c.from.ensures, c.retries.ensures.value, p.retries_bound) in
    let short : c.attempt.result ≤ 60000 = omega (arith, c.attempt.ensures.value, p.slot_short, p.idle_order, p.take_in_time) in
    mul-le-mul few short

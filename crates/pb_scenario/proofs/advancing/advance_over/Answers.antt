-- The steps are cut at the moment, and at the next.
use Rattle.std.proofs.Common.{arith, ◌^◌, ◌+◌}
use Rattle.std.specs.Prelude.{nat_lt}
use Rattle.std.proofs.lemmas.List.Sums.{prefix_len-le-length}
use Rattle.pb_scenario.specs.declared.deeds.Step.{Step}
use Rattle.pb_scenario.specs.Steps.{steps_of}
use Rattle.pb_scenario.proofs.Cuts.{advances, front-before, before-later}
use Rattle.pb_scenario.proofs.advancing.advance_over.Goals as goal

pub split_at-requires : goal.split_at-requires
split_at-requires c = omega (arith, c.count_before.ensures, prefix_len-le-length (λ (s : Step). nat_lt s.at c.args.at) c.args.later.now)

pub split_at-requires-2 : goal.split_at-requires-2
split_at-requires-2 c = omega (arith, c.count_before-2.ensures, prefix_len-le-length (λ (s : Step). nat_lt s.at (c.args.at + 1)) c.split_at.result.1.now)

pub hold-requires : goal.hold-requires
hold-requires c =
    before-later c.args.at (2 ^ 63) (steps_of c.split_at.result.0.now) (omega (arith, c.requires.moment))
    (front-before c.args.at c.count_before.result c.args.later.now c.split_at.result.0.now c.count_before.ensures c.split_at.ensures.front)

pub hold-requires-2 : goal.hold-requires-2
hold-requires-2 c =
    before-later (c.args.at + 1) (2 ^ 63) (steps_of c.split_at-2.result.0.now) (omega (arith, c.requires.moment))
    (front-before (c.args.at + 1) c.count_before-2.result c.split_at.result.1.now c.split_at-2.result.0.now c.count_before-2.ensures c.split_at-2.ensures.front)

pub returns : goal.returns
returns c =
    advances c.args.later.now c.split_at.result.0.now c.split_at.result.1.now c.split_at-2.result.0.now c.split_at-2.result.1.now
    c.args.at c.count_before.result c.count_before-2.result c.args.held.now c.hold.new.held c.hold-2.new.held
    c.requires.order c.count_before.ensures c.split_at.ensures.front c.split_at.ensures.back c.count_before-2.ensures c.split_at-2.ensures.front c.split_at-2.ensures.back c.hold.ensures c.hold-2.ensures

use Rattle.std.proofs.Common.{◌≡◌, take}
use Rattle.law_runs.specs.Headline.{specs_of}
use Rattle.pb_segment.proofs.origins.members_of.Given as goal

abbrev pub invariant-loop-tap : goal.invariant-loop-tap
invariant-loop-tap l = l.members.items ≡ take l.tap (specs_of l.world)

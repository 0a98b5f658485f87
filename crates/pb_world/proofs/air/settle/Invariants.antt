use Rattle.std.proofs.Common.{◌≡◌, map, drop}
use Rattle.law_streams.specs.Judgement.{ends_by, recent_at}
use Rattle.pb_world.specs.Airtimes.{air_of}
use Rattle.pb_world.proofs.air.settle.Given as goal

-- what is left of the entries decides
abbrev pub invariant-loop-place : goal.invariant-loop-place
invariant-loop-place l =
    record {
      ends : ends_by l.delay l.moment l.initial.ends (map air_of l.recent) ≡ ends_by l.delay l.moment l.ends (drop l.place (map air_of l.recent));
      others : recent_at l.delay l.moment (map air_of l.recent) ≡ recent_at l.delay l.moment (drop l.place (map air_of l.recent));
    }

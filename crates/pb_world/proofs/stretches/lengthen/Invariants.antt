use Rattle.std.proofs.Common.{◌≡◌, ℕ, length, nat_lt, if◌then◌else◌, None}
use Rattle.std.specs.Prelude.{get_or, slice_get}
use Rattle.pb_world.specs.Buses.{world_of}
use Rattle.pb_world.specs.Liveness.{longer, stretch_of}
use Rattle.pb_world.proofs.stretches.lengthen.Given as goal

-- the taps before the position have the longer ones
abbrev pub invariant-loop-place : goal.invariant-loop-place
invariant-loop-place l =
    record {
      count : length l.longest ≡ length l.initial.longest;
      so_far : (k : ℕ) → get_or l.longest k None
          ≡ (if nat_lt k l.place then longer (get_or l.initial.longest k None) (stretch_of (world_of l.bus) l.calm (slice_get (world_of l.bus).taps k)) else get_or l.initial.longest k None);
    }

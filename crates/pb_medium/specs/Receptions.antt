-- How a telegram reached the taps, in sets of taps.
use Rattle.std.specs.Prelude.{ℕ, zero, suc, ◌+◌, Bool, true, false, ◌==◌, List, [], ◌∷◌}
use Rattle.std.specs.Int.{bit_at}
use Rattle.law_model.specs.Trace.{Heard, Own, Whole, Damaged, Unheard, Pending}
use Rattle.pb_medium.specs.declared.tap_sets.TapSet.{TapSet}
use Rattle.pb_medium.specs.declared.receptions.Reception.TheInside.{Inside}

-- a tap is in the set
abbrev pub holds : TapSet → ℕ → Bool
holds s tap = bit_at s.bits tap == 1

-- how a telegram reached a tap at which it was lost, that sent it, or that received it whole or damaged; else it is
-- pending
abbrev pub heard_as : (unheard own whole damaged : Bool) → Heard
heard_as true own whole damaged = Unheard
heard_as false true whole damaged = Own
heard_as false false true damaged = Whole
heard_as false false false true = Damaged
heard_as false false false false = Pending

-- how it reached a tap
abbrev pub heard_by_tap : Inside → ℕ → Heard
heard_by_tap r tap = heard_as (holds r.unheard tap) (tap == r.speaker) (holds r.whole tap) (holds r.damaged tap)

-- how it reached each of this many taps, the first of them at an index
abbrev pub listed : (ℕ → Heard) → ℕ → ℕ → List Heard
listed heard tap zero = []
listed heard tap (suc more) = heard tap ∷ listed heard (tap + 1) more

-- how it reached each tap
abbrev pub heard_list : Inside → List Heard
heard_list r = listed (heard_by_tap r) 0 r.taps

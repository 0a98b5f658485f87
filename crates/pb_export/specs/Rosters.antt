-- Which taps have a lane in a picture.
use Rattle.std.specs.Prelude.{ℕ, ◌+◌, Bool, true, false, ◌==◌, ◌||◌, nat_le, List, [], ◌∷◌, ◌++◌, length, take}
use Rattle.std.specs.List.{list_any}
use Rattle.law_model.specs.Trace.{Entry, Sent, Noise}
use Rattle.law_model.specs.Medium.{TapSpec}

-- an entry is a telegram of a tap
abbrev pub is_from : (tap : ℕ) → Entry → Bool
is_from tap (Sent r) = r.tap == tap
is_from tap (Noise span) = false

-- on a bus of at most 16 each tap; else the masters and those that send something
abbrev pub has_lane : (taps : ℕ) → List Entry → (tap : ℕ) → TapSpec → Bool
has_lane taps es tap spec = nat_le taps 16 || spec.master || list_any (is_from tap) es

abbrev pub lane_if : Bool → (tap : ℕ) → List ℕ
lane_if true tap = tap ∷ []
lane_if false tap = []

-- those of some taps that have a lane, the first of them at an index
abbrev pub lanes_from : (taps : ℕ) → List Entry → (tap : ℕ) → List TapSpec → List ℕ
lanes_from taps es tap [] = []
lanes_from taps es tap (spec ∷ specs) = lane_if (has_lane taps es tap spec) tap ++ lanes_from taps es (tap + 1) specs

abbrev pub all_lanes : List TapSpec → List Entry → List ℕ
all_lanes specs es = lanes_from (length specs) es 0 specs

-- a bus has at most 127 taps
abbrev pub lanes_of : List TapSpec → List Entry → List ℕ
lanes_of specs es = take 127 (all_lanes specs es)

-- The latest ends of entries that have begun at all taps.
use Rattle.std.specs.Prelude.{◌≡◌, ℕ, ◌≤◌, ◌<◌, List, length, take, get_or, max}
use Rattle.law_model.specs.Trace.{Entry}
use Rattle.law_runs.specs.Activity.{active_at}
use Rattle.law_runs.specs.Judging.{latest_end, AllReached}
use Rattle.pb_world.specs.declared.ends.Ends.{Ends}

-- this many of some entries have begun at all taps before a moment, and these are their latest ends
pub record AreEnds (delay moment : ℕ) (earlier : List Entry) (ends : Ends) : Type 0 where
  pub size : length ends.latest ≡ 127
  pub few : ends.taps ≤ 127
  pub some : ends.begun ≤ length earlier
  pub reached : AllReached delay moment (take ends.begun earlier)
  pub latest : (tap : ℕ) → tap < ends.taps → get_or ends.latest tap 0 ≡ latest_end delay tap (take ends.begun earlier)

-- latest ends at each of this many taps, with those of one more entry
abbrev pub HaveMore : ℕ → ℕ → Entry → List ℕ → List ℕ → Type 0
HaveMore delay taps e before after = (tap : ℕ) → tap < taps → get_or after tap 0 ≡ max (get_or before tap 0) (active_at delay tap e).end

-- Who may initiate, as far as a listener can tell between two bursts: of the bus as it was a cable delay ago.
use Rattle.std.specs.Prelude.{ℕ, ◌+◌, if◌then◌else◌, nat_lt, ◌||◌, Option, Some, None}
use Rattle.pb_timers.specs.Timers.{Params}
use Rattle.pb_monitor.specs.declared.holders.Holder.{Holder}
use Rattle.pb_monitor.specs.declared.holders.Holder.TheVariants.{One, OfferedTo, Nobody, Unknown}
use Rattle.pb_monitor.specs.declared.states.LastHeard.{LastHeard}
use Rattle.pb_monitor.specs.declared.states.State.{State}
use Rattle.pb_monitor.specs.Judge.{live}

-- after the slot of a token its source passes it again, unless it has heard something
abbrev pub holder_after_offer : Params → (slack : ℕ) → LastHeard → (to m : ℕ) → Holder
holder_after_offer p slack l to m =
    if nat_lt (m + slack) (l.end + p.tsl) then OfferedTo to
    else if nat_lt m (l.end + (p.tsl + slack)) then Unknown
    else if l.touched then Nobody
    else One l.source

abbrev pub holder_by_offer : Params → (slack : ℕ) → LastHeard → Option ℕ → ℕ → Holder
holder_by_offer p slack l None m = One l.source
holder_by_offer p slack l (Some to) m = holder_after_offer p slack l to m

abbrev pub holder_by_last : Params → (slack : ℕ) → Option LastHeard → ℕ → Holder
holder_by_last p slack None m = Unknown
holder_by_last p slack (Some l) m = holder_by_offer p slack l l.offered m

-- at a moment since which no burst has begun
abbrev pub holder_of : Params → (slack : ℕ) → State → ℕ → Holder
holder_of p slack j m = if j.lost || nat_lt (j.quiet + live p slack) m then Unknown else holder_by_last p slack j.last m

-- What a call at a bus answers and leaves.
use Rattle.std.specs.Prelude.{◌≡◌, ℕ, Bool, not, nat_lt, ◌==◌, List, [], ◌∷◌, length, take, Option, Some, None, is_some, map, Result, Ok, Err, MatchOption, MatchResult, ◌⊎◌, if◌then◌else◌}
use Rattle.std.specs.List.{list_any}
use Rattle.std.specs.Option.{option_map}
use Rattle.pb_faults.specs.FirstFault.{first_fault}
use Rattle.pb_timers.specs.Timers.{Params}
use Rattle.law_model.specs.Medium.{TapSpec}
use Rattle.law_model.specs.World.{World, Event, NewFault, clock_limit, new_faults, new_world_within}
use Rattle.pb_taps.specs.Faults.{new_fault}
use Rattle.pb_taps.specs.declared.faults.WorldFault.{WorldFault}
use Rattle.pb_medium.specs.LettingGo.{past_of}
use Rattle.pb_world.specs.Driven.{Applies, LetsGo, SetsReply}
use Rattle.pb_world.specs.RunTo.{HasRun, HasStopped}
use Rattle.pb_world.specs.Acted.{IsDrivenBy}
use Rattle.pb_world.specs.Told.{tray_at}
use Rattle.pb_world.specs.Watched.{world_in}
use Rattle.pb_world.specs.declared.driven.Driven.{Driven}
use Rattle.pbfdl.specs.BusCodes.{new_fault_code, result_code}
use Rattle.pbfdl.specs.Calls.{is_bad_station, params_code}
use Rattle.pbfdl.specs.declared.taps.FdlTap.{FdlTap}

-- a call that finds no bus
abbrev pub FindsNoBus : ℕ → Option Driven → Type 0
FindsNoBus code new = (code ≡ 73) × (new ≡ None)

-- the definition of a tap that C gives
abbrev pub tap_spec_of : FdlTap → TapSpec
tap_spec_of t = record { address = t.address; master = t.master; reply = take t.count t.reply }

-- it replies with more octets than there may be
abbrev pub is_long : FdlTap → Bool
is_long t = nat_lt 246 t.count

-- its address is out of its range
abbrev pub is_bad_tap : Params → FdlTap → Bool
is_bad_tap p t = is_bad_station p t.master t.address

-- the code of the first fault of some taps
abbrev pub tap_fault : Params → List FdlTap → Option ℕ
tap_fault p taps = option_map (λ fault. new_fault_code (new_fault fault)) (first_fault (new_faults p (map tap_spec_of taps)))

-- why there is no new bus, whatever its taps: the codes in their order
abbrev pub bus_codes : Option Driven → Params → List FdlTap → List (Bool × ℕ)
bus_codes there p taps =
    (is_some there, 74)
    ∷ (not (params_code p == 0), params_code p)
    ∷ (list_any is_long taps, 66)
    ∷ []

-- the requests that stations execute are kept of no tap
abbrev pub KeepsNone : Driven → Type 0
KeepsNone b = (tap : ℕ) → tray_at b.watched.told tap ≡ None

-- a new bus is made, or memory is refused; or the code is that of the first fault of its taps
abbrev pub Makes : Result World NewFault → ℕ → Option Driven → Type 0
Makes (Ok w) code new = (code ≡ 63) ⊎ ((code ≡ 0) × ((b : Driven) × (new ≡ Some b) × (world_in b.watched ≡ w) × IsDrivenBy b [] w [] × KeepsNone b))
Makes (Err fault) code new = code ≡ new_fault_code (new_fault fault)

-- the code is that of the first fault; where there is none, a bus is made whose trace may have so many entries
abbrev pub MakesWithin : (limit : ℕ) → Params → List FdlTap → (old : Option Driven) → ℕ → (new : Option Driven) → Type 0
MakesWithin limit p taps old code new = MatchOption (first_fault (bus_codes old p taps))
    (Makes (new_world_within limit p (map tap_spec_of taps)) code new) (λ first. code ≡ first)

-- a call with an event: it happens, or is refused with the code of its fault, and nothing has happened
abbrev pub Meets : Driven → Event → ℕ → Option Driven → Type 0
Meets b e code new = (next : Driven) × (new ≡ Some next) × (next.judge ≡ b.judge)
    × (answer : Result (Unit {0}) WorldFault) × (code ≡ result_code answer) × Applies b.watched e answer next.watched

-- a call with other data of a tap: they change, or there is no such tap, and nothing has changed
abbrev pub SetsAt : Driven → ℕ → List ℕ → ℕ → Option Driven → Type 0
SetsAt b tap unit code new = (next : Driven) × (new ≡ Some next) × (next.judge ≡ b.judge)
    × (answer : Result (Unit {0}) WorldFault) × (code ≡ result_code answer) × SetsReply b.watched tap unit answer next.watched

-- the character that is damaged; a number over 255 means all
abbrev pub place_of : ℕ → Option ℕ
place_of n = if nat_lt n 256 then Some n else None

-- why a bus does not run to a moment: the codes in their order
abbrev pub run_codes : Driven → ℕ → List (Bool × ℕ)
run_codes b until = (nat_lt until (world_in b.watched).now, 42) ∷ (nat_lt clock_limit until, 87) ∷ []

-- it runs to the moment, or the code is that of the fault of a refused event, before which it has stopped
abbrev pub Runs : Driven → ℕ → ℕ → Option Driven → Type 0
Runs b until code new = (next : Driven) × (new ≡ Some next) × (next.judge ≡ b.judge)
    × (answer : Result (Unit {0}) WorldFault) × (code ≡ result_code answer)
    × MatchResult answer (λ _. HasRun until b.watched next.watched) (λ fault. HasStopped until fault b.watched next.watched)

-- what is over is let go, and counted; or memory is refused, and nothing changes
abbrev pub LetsGoAt : Driven → (code before count : ℕ) → Option Driven → Type 0
LetsGoAt b code before count new =
    ((code ≡ 0) × (next : Driven) × (new ≡ Some next) × LetsGo b next × (count ≡ length (past_of b.watched.bus.trace)))
    ⊎ ((code ≡ 63) × (new ≡ Some b) × (count ≡ before))

-- The faults of a world, as numbers and as those of the model.
use Rattle.std.specs.Prelude.{◌≡◌, ℕ, Bool, true, false, Result, Ok, Err, is_some, not}
use Rattle.law_model.specs.World as model
use Rattle.law_model.specs.Step.{is_noisy}
use Rattle.pb_taps.specs.declared.faults.NewFault.{NewFault}
use Rattle.pb_taps.specs.declared.faults.NewFault.TheVariants as new
use Rattle.pb_taps.specs.declared.faults.WorldFault.{WorldFault}
use Rattle.pb_taps.specs.declared.faults.WorldFault.TheVariants as fault

abbrev pub number_of_new : NewFault → ℕ
number_of_new new.NoTaps = 1
number_of_new new.TooManyTaps = 2
number_of_new (new.BadAddress tap) = 3
number_of_new new.NoMemory = 4

abbrev pub number_of : WorldFault → ℕ
number_of fault.NoSuchTap = 1
number_of fault.Running = 2
number_of fault.NotRunning = 3
number_of fault.NothingInAir = 4
number_of fault.ZeroTime = 5
number_of (fault.TooFar furthest) = 6
number_of fault.ClockFull = 7
number_of fault.QueueFull = 8
number_of (fault.InboxFull tap) = 9
number_of fault.TraceFull = 10
number_of fault.NoMemory = 11

abbrev pub new_fault : model.NewFault → NewFault
new_fault model.NoTaps = new.NoTaps
new_fault model.TooManyTaps = new.TooManyTaps
new_fault (model.BadAddress tap) = new.BadAddress tap

abbrev pub world_fault : model.Fault → WorldFault
world_fault model.NoSuchTap = fault.NoSuchTap
world_fault model.Running = fault.Running
world_fault model.NotRunning = fault.NotRunning
world_fault model.NothingInAir = fault.NothingInAir
world_fault model.ZeroTime = fault.ZeroTime
world_fault (model.TooFar furthest) = fault.TooFar furthest
world_fault model.ClockFull = fault.ClockFull
world_fault model.QueueFull = fault.QueueFull
world_fault (model.InboxFull tap) = fault.InboxFull tap
world_fault model.TraceFull = fault.TraceFull

-- whether an event needs memory, given its reply: what a turn sends, damage, and new noise are stored
abbrev pub takes_memory : model.World → model.Event → model.Reply → Bool
takes_memory w (model.Turn tap) reply = is_some reply.spoke
takes_memory w (model.Pass bits) reply = false
takes_memory w (model.Damage tap speaker place) reply = true
takes_memory w (model.Start tap) reply = false
takes_memory w (model.Stop tap) reply = false
takes_memory w (model.Queue tap request) reply = false
takes_memory w (model.Noise bits) reply = not (is_noisy w)
takes_memory w (model.Unheard tap speaker) reply = false

-- why an event is refused, by its step: its own fault, or if it has none, refused memory if it needs memory
abbrev pub Refuses : model.World → model.Event → Result (model.World × model.Reply) model.Fault → WorldFault → Type 0
Refuses w event (Err f) reason = reason ≡ world_fault f
Refuses w event (Ok next) reason = (takes_memory w event next.1 ≡ true) × (reason ≡ fault.NoMemory)

-- why a new world is refused
abbrev pub RefusesNew : {X : Type 0} → Result X model.NewFault → NewFault → Type 0
RefusesNew (Err f) reason = reason ≡ new_fault f
RefusesNew (Ok next) reason = reason ≡ new.NoMemory

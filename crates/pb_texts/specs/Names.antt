-- The names of faults, and the paths of keys in a file.
use Rattle.std.specs.Prelude.{ℕ, List, [], ◌++◌, codes, decimal}
use Rattle.pb_taps.specs.declared.faults.NewFault.{NewFault}
use Rattle.pb_taps.specs.declared.faults.NewFault.TheVariants as new
use Rattle.pb_taps.specs.declared.faults.WorldFault.{WorldFault}
use Rattle.pb_taps.specs.declared.faults.WorldFault.TheVariants as fault
use Rattle.pb_scenario.specs.declared.keys.Section.{Section}
use Rattle.pb_scenario.specs.declared.keys.Section.TheVariants.{Top, Bus, Tap, Step}
use Rattle.pb_scenario.specs.declared.keys.Path.{Path}
use Rattle.pb_scenario.specs.declared.keys.Path.TheVariants as path
use Rattle.pb_scenario.specs.Keys.{key_name}

abbrev pub new_name : NewFault → List ℕ
new_name new.NoTaps = codes "NoTaps"
new_name new.TooManyTaps = codes "TooManyTaps"
new_name (new.BadAddress tap) = codes "BadAddress"
new_name new.NoMemory = codes "NoMemory"

abbrev pub world_name : WorldFault → List ℕ
world_name fault.NoSuchTap = codes "NoSuchTap"
world_name fault.Running = codes "Running"
world_name fault.NotRunning = codes "NotRunning"
world_name fault.NothingInAir = codes "NothingInAir"
world_name fault.ZeroTime = codes "ZeroTime"
world_name (fault.TooFar furthest) = codes "TooFar"
world_name fault.ClockFull = codes "ClockFull"
world_name fault.QueueFull = codes "QueueFull"
world_name (fault.InboxFull tap) = codes "InboxFull"
world_name fault.TraceFull = codes "TraceFull"
world_name fault.NoMemory = codes "NoMemory"

-- an element of a list, given the list's name with the opening bracket
abbrev pub item_text : List ℕ → ℕ → List ℕ
item_text list item = list ++ decimal item ++ codes "]"

-- a table, as in bus and tap[0]; taps and steps have indices from 0
abbrev pub section_text : Section → List ℕ
section_text Top = []
section_text Bus = codes "bus"
section_text (Tap tap) = item_text (codes "tap[") tap
section_text (Step step) = item_text (codes "step[") step

-- a key of a table, as in until and bus.tsl
abbrev pub key_text : Section → List ℕ → List ℕ
key_text Top key = key
key_text Bus key = section_text Bus ++ codes "." ++ key
key_text (Tap tap) key = section_text (Tap tap) ++ codes "." ++ key
key_text (Step step) key = section_text (Step step) ++ codes "." ++ key

abbrev pub path_text : Path → List ℕ
path_text (path.Item section) = section_text section
path_text (path.Key section key) = key_text section (key_name key)

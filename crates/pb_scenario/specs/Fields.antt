-- The values of a table's keys, and their faults.
use Rattle.std.specs.Prelude.{◌≡◌, ℕ, ◌*◌, ℤ, pos, negsuc, nat_le, ◌&&◌, List, length, Option, Some, None, Result, Ok, Err, MatchResult, if◌then◌else◌}
use Rattle.std.specs.Option.{ok_or}
use Rattle.std.specs.Result.{result_ok}
use Rattle.std.specs.String.{string_bytes}
use Rattle.hex.specs.Hex.{decode_of}
use Rattle.toml.specs.Data.{Data, Members, no_members, member, get_member}
use Rattle.pb_timers.specs.declared.params.ParamFault.{ParamFault}
use Rattle.pb_scenario.specs.declared.keys.Key.{Key}
use Rattle.pb_scenario.specs.declared.keys.Section.{Section}
use Rattle.pb_scenario.specs.declared.keys.Path.{Path}
use Rattle.pb_scenario.specs.declared.keys.Path.TheVariants as path
use Rattle.pb_scenario.specs.declared.faults.ScenarioFault.{ScenarioFault}
use Rattle.pb_scenario.specs.declared.faults.ScenarioFault.TheVariants as fault
use Rattle.pb_scenario.specs.Keys.{key_name, is_named}
use Rattle.pb_scenario.specs.declared.versions.Version.{Version}
use Rattle.pb_scenario.specs.Words.{is_name_in}

abbrev pub number_of : ScenarioFault → ℕ
number_of fault.NotToml = 1
number_of fault.BadVersion = 2
number_of (fault.Missing p) = 3
number_of (fault.BadKind p) = 4
number_of (fault.BadValue p) = 5
number_of (fault.Unknown key) = 6
number_of (fault.Twice p) = 7
number_of (fault.NoSuchName p) = 8
number_of (fault.StepOrder p) = 9
number_of (fault.Params f) = 10
number_of fault.TooMany = 11
number_of fault.NoMemory = 12

-- why a table does not describe what it should
pub data Fault : Type 0 where
  BadVersion : Fault
  Missing : (path : Path) → Fault
  BadKind : (path : Path) → Fault
  BadValue : (path : Path) → Fault
  Unknown : (section : Section) (key : List ℕ) → Fault
  Twice : (path : Path) → Fault
  NoSuchName : (path : Path) → Fault
  StepOrder : (path : Path) → Fault
  Params : (fault : ParamFault) → Fault
  TooMany : Fault

-- a fault is that of an outcome, or memory was refused
abbrev pub Tells : {X : Type 0} → ScenarioFault → Result X Fault → Type 0
Tells fault.NotToml r = ⊥
Tells fault.BadVersion r = r ≡ Err BadVersion
Tells (fault.Missing p) r = r ≡ Err (Missing p)
Tells (fault.BadKind p) r = r ≡ Err (BadKind p)
Tells (fault.BadValue p) r = r ≡ Err (BadValue p)
Tells (fault.Unknown key) r = r ≡ Err (Unknown key.section (string_bytes key.key))
Tells (fault.Twice p) r = r ≡ Err (Twice p)
Tells (fault.NoSuchName p) r = r ≡ Err (NoSuchName p)
Tells (fault.StepOrder p) r = r ≡ Err (StepOrder p)
Tells (fault.Params f) r = r ≡ Err (Params f)
Tells fault.TooMany r = r ≡ Err TooMany
Tells fault.NoMemory r = Unit {0}

-- a result, as plain data, is that outcome, or memory was refused
abbrev pub Answers : {X Y : Type 0} → (X → Y) → Result X ScenarioFault → Result Y Fault → Type 0
Answers seen result r = MatchResult result (λ x. r ≡ Ok (seen x)) (λ f. Tells f r)

-- what follows from a value, or its fault
abbrev pub and_then : {X Y F : Type 0} → Result X F → (X → Result Y F) → Result Y F
and_then (Ok x) f = f x
and_then (Err fault) f = Err fault

-- ---- a key

abbrev pub path_of : Section → Key → Path
path_of section key = path.Key section key

-- the value of a key that must be there
unfoldable pub value_in : Section → Key → Members → Result Data Fault
value_in section key table = ok_or (get_member (key_name key) table) (Missing (path_of section key))

-- the value of a type
unfoldable pub typed : {X : Type 0} → (Data → Option X) → Section → Key → Members → Result X Fault
typed type section key table = and_then (value_in section key table) (λ d. ok_or (type d) (BadKind (path_of section key)))

-- its meaning
unfoldable pub meant : {X Y : Type 0} → (X → Option Y) → (Data → Option X) → Section → Key → Members → Result Y Fault
meant means type section key table = and_then (typed type section key table) (λ x. ok_or (means x) (BadValue (path_of section key)))

-- ---- the meaning of values

abbrev pub in_range : ℕ → ℕ → ℤ → Option ℕ
in_range least most (pos n) = if nat_le least n && nat_le n most then Some n else None
in_range least most (negsuc n) = None

-- octets in hex digits, at most as many as a unit has
abbrev pub octets_in : List ℕ → Option (List ℕ)
octets_in text = if nat_le (length text) (2 * 246) then result_ok (decode_of text) else None

abbrev pub as_name : Version → List ℕ → Option (List ℕ)
as_name version text = if is_name_in version text then Some text else None

-- ---- the keys that a table may have

-- the first key that is not one of these
abbrev pub first_other : List Key → Members → Option (List ℕ)
first_other keys no_members = None
first_other keys (member k d ms) = if is_named keys k then first_other keys ms else Some k

abbrev pub known_or : Section → Option (List ℕ) → Result (Unit {0}) Fault
known_or section None = Ok tt
known_or section (Some key) = Err (Unknown section key)

unfoldable pub known : List Key → Section → Members → Result (Unit {0}) Fault
known keys section table = known_or section (first_other keys table)

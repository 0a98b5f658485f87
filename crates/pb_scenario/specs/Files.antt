-- What the tables of a scenario file describe, key by key, or the first fault.
use Rattle.std.specs.Prelude.{◌≡◌, ℕ, ◌+◌, ℤ, pos, nat_lt, bytes_eq, List, [], ◌∷◌, ◌++◌, map, position, Option, Some, None, Result, Ok, Err, is_some, IsUtf8, if◌then◌else◌}
use Rattle.std.specs.List.{list_any}
use Rattle.std.specs.Option.{ok_or}
use Rattle.std.specs.Ordering.{int_eq}
use Rattle.toml.specs.Data.{Data, Items, no_items, item, Members, get_member, as_str, as_integer, as_bool, as_array, as_table}
use Rattle.toml.specs.Parse.{parse_document}
use Rattle.pb_faults.specs.FirstFault.{first_fault}
use Rattle.pb_timers.specs.Timers.{Params}
use Rattle.pb_timers.specs.declared.params.ParamFault.{ParamFault}
use Rattle.pb_timers.specs.ParamRules.{param_faults}
use Rattle.pb_cycles.specs.declared.services.Service.{Service}
use Rattle.pb_cycles.specs.declared.requests.RequestFault.{RequestFault}
use Rattle.pb_cycles.specs.Requests.{request_faults}
use Rattle.pb_cycles.specs.RequestFields.{RequestFields}
use Rattle.law_model.specs.Medium.{TapSpec}
use Rattle.law_model.specs.World as model
use Rattle.pb_taps.specs.Taps.{is_master}
use Rattle.law_runs.specs.Scenarios.{Deed, Happens, Withhold, Planned}
use Rattle.pb_scenario.specs.declared.keys.Key.{Key}
use Rattle.pb_scenario.specs.declared.keys.Key.TheVariants as key
use Rattle.pb_scenario.specs.declared.keys.Section.{Section}
use Rattle.pb_scenario.specs.declared.keys.Section.TheVariants.{Top, Bus, Tap, Step}
use Rattle.pb_scenario.specs.declared.keys.Path.{Path}
use Rattle.pb_scenario.specs.declared.keys.Path.TheVariants as path
use Rattle.pb_scenario.specs.declared.faults.ScenarioFault.{ScenarioFault}
use Rattle.pb_scenario.specs.declared.faults.ScenarioFault.TheVariants as fault
use Rattle.pb_scenario.specs.declared.versions.Version.{Version}
use Rattle.pb_scenario.specs.declared.versions.Version.TheVariants.{Undelayed, Delayed, Repeating}
use Rattle.pb_scenario.specs.declared.words.Word.{Word}
use Rattle.pb_scenario.specs.declared.words.Word.TheVariants as word
use Rattle.pb_scenario.specs.Keys.{key_name, top_keys, bus_keys, tap_keys, step_keys}
use Rattle.pb_scenario.specs.Words.{word_of, kind_of, service_of}
use Rattle.pb_scenario.specs.Scenarios.{ScenarioView, until_limit}
use Rattle.pb_scenario.specs.Fields.{Fault, BadVersion, BadKind, BadValue, Twice, NoSuchName, StepOrder, TooMany, Params as ParamsFault, Tells, and_then, path_of, typed, meant, known, in_range, octets_in, as_name}

-- ---- kinds of keys

abbrev pub number : ℕ → ℕ → Section → Key → Members → Result ℕ Fault
number least most = meant (in_range least most) as_integer

abbrev pub octet : Section → Key → Members → Result ℕ Fault
octet = number 0 255

abbrev pub word32 : Section → Key → Members → Result ℕ Fault
word32 = number 0 4294967295

abbrev pub octets : Section → Key → Members → Result (List ℕ) Fault
octets = meant octets_in as_str

-- a key that may be missing
abbrev pub if_there : {X : Type 0} → X → (Section → Key → Members → Result X Fault) → Section → Key → Members → Result X Fault
if_there without read at k table = if is_some (get_member (key_name k) table) then read at k table else Ok without

-- an element of a list as a table
abbrev pub item_in : Section → Data → Result Members Fault
item_in at d = ok_or (as_table d) (BadKind (path.Item at))

abbrev pub count : Items → ℕ
count no_items = 0
count (item d ds) = count ds + 1

-- ---- the bus

abbrev pub checked : Params → Option ParamFault → Result Params Fault
checked p None = Ok p
checked p (Some f) = Err (ParamsFault f)

-- how many bit times later telegrams reach the taps of others
abbrev pub delay_in : Version → Section → Members → Result ℕ Fault
delay_in Undelayed at bus = Ok 0
delay_in Delayed at bus = word32 at key.Ttd bus
delay_in Repeating at bus = word32 at key.Ttd bus

unfoldable pub params_in : Version → Section → Members → Result Params Fault
params_in version at bus =
    and_then (known (bus_keys version) at bus) (λ _.
    and_then (word32 at key.Tsl bus) (λ tsl.
    and_then (word32 at key.Tid1 bus) (λ tid1.
    and_then (word32 at key.Tid2 bus) (λ tid2.
    and_then (word32 at key.Tsdr bus) (λ tsdr.
    and_then (word32 at key.Lag bus) (λ lag.
    and_then (word32 at key.Ttr bus) (λ ttr.
    and_then (word32 at key.Gap bus) (λ gap.
    and_then (word32 at key.Hsa bus) (λ hsa.
    and_then (word32 at key.Retries bus) (λ retries.
    and_then (delay_in version at bus) (λ ttd.
    let p : Params = record { tsl = tsl; tid1 = tid1; tid2 = tid2; tsdr = tsdr; lag = lag; ttr = ttr; gap = gap; hsa = hsa; retries = retries; ttd = ttd } in
    checked p (first_fault (param_faults p)))))))))))))

-- ---- the taps

pub record NamedTap : Type 0 where
  pub name : List ℕ
  pub spec : TapSpec

abbrev pub unless_taken : List (List ℕ) → Path → List ℕ → Result (List ℕ) Fault
unless_taken names at name = if list_any (bytes_eq name) names then Err (Twice at) else Ok name

unfoldable pub tap_in : Version → List (List ℕ) → Section → Members → Result NamedTap Fault
tap_in version names at table =
    and_then (known tap_keys at table) (λ _.
    and_then (meant (as_name version) as_str at key.Name table) (λ text.
    and_then (unless_taken names (path_of at key.Name) text) (λ name.
    and_then (meant kind_of as_str at key.Kind table) (λ kind.
    and_then (octet at key.Address table) (λ address.
    and_then (if_there [] octets at key.Reply table) (λ reply.
    Ok (record { name = name; spec = record { address = address; master = is_master kind; reply = reply } })))))))

-- the taps of some list elements, the first of them at an index, after others with names
unfoldable pub taps_from : Version → List (List ℕ) → ℕ → Items → Result (List NamedTap) Fault
taps_from version names tap no_items = Ok []
taps_from version names tap (item d ds) =
    and_then (item_in (Tap tap) d) (λ table.
    and_then (tap_in version names (Tap tap) table) (λ t.
    and_then (taps_from version (names ++ t.name ∷ []) (tap + 1) ds) (λ ts.
    Ok (t ∷ ts))))

-- names and as many definitions of taps, paired
abbrev pub named : List (List ℕ) → List TapSpec → List NamedTap
named [] specs = []
named (name ∷ names) [] = []
named (name ∷ names) (spec ∷ specs) = record { name = name; spec = spec } ∷ named names specs

abbrev pub most_taps : Version → ℕ
most_taps Undelayed = 32
most_taps Delayed = 127
most_taps Repeating = 127

abbrev pub taps_in : Version → Items → Result (List NamedTap) Fault
taps_in version items = if nat_lt (most_taps version) (count items) then Err TooMany else taps_from version [] 0 items

-- ---- the steps

-- the tap whose name is the value of a key
unfoldable pub tap_at : List (List ℕ) → Section → Key → Members → Result ℕ Fault
tap_at names at k table = and_then (typed as_str at k table) (λ name. ok_or (position (bytes_eq name) names) (NoSuchName (path_of at k)))

-- the address of a request is checked against its service when it is read
abbrev pub addressed : Service → Section → Option RequestFault → ℕ → Result ℕ Fault
addressed service at None to = Ok to
addressed service at (Some f) to = Err (BadValue (path_of at key.To))

unfoldable pub request_in : Section → Members → Result RequestFields Fault
request_in at table =
    and_then (meant service_of as_str at key.Service table) (λ service.
    and_then (octet at key.To table) (λ n.
    and_then (addressed service at (first_fault (request_faults n service)) n) (λ to.
    and_then (typed as_bool at key.High table) (λ high.
    and_then (octets at key.Unit table) (λ unit.
    Ok (record { da = to; service = service; high = high; unit = unit }))))))

abbrev pub some_octet : Section → Key → Members → Result (Option ℕ) Fault
some_octet at k table = and_then (octet at k table) (λ n. Ok (Some n))

-- what a step with this word does
unfoldable pub deed_in : List (List ℕ) → Section → Members → Word → Result Deed Fault
deed_in names at table word.Start = and_then (tap_at names at key.Tap table) (λ tap. Ok (Happens (model.Start tap)))
deed_in names at table word.Stop = and_then (tap_at names at key.Tap table) (λ tap. Ok (Happens (model.Stop tap)))
deed_in names at table word.Queue =
    and_then (tap_at names at key.Tap table) (λ tap.
    and_then (request_in at table) (λ request.
    Ok (Happens (model.Queue tap request))))
deed_in names at table word.Damage =
    and_then (tap_at names at key.Tap table) (λ tap.
    and_then (tap_at names at key.Speaker table) (λ speaker.
    and_then (if_there None some_octet at key.Place table) (λ place.
    Ok (Happens (model.Damage tap speaker place)))))
deed_in names at table word.Noise = and_then (word32 at key.Bits table) (λ bits. Ok (Happens (model.Noise bits)))
deed_in names at table word.Unheard =
    and_then (tap_at names at key.Tap table) (λ tap.
    and_then (tap_at names at key.Speaker table) (λ speaker.
    Ok (Happens (model.Unheard tap speaker))))
deed_in names at table word.Withhold =
    and_then (tap_at names at key.Tap table) (λ tap.
    and_then (word32 at key.Bits table) (λ bits.
    Ok (Withhold tap bits)))

abbrev pub in_order : ℕ → Section → ℕ → Result ℕ Fault
in_order before at n = if nat_lt n before then Err (StepOrder (path_of at key.At)) else Ok n

-- a step with this word in a table with these keys; it must not be earlier than a moment
unfoldable pub step_by : List (List ℕ) → ℕ → Section → Members → Word → List Key → Result Planned Fault
step_by names before at table does keys =
    and_then (known keys at table) (λ _.
    and_then (number 0 18446744073709551615 at key.At table) (λ n.
    and_then (in_order before at n) (λ moment.
    and_then (deed_in names at table does) (λ deed.
    Ok (record { at = moment; deed = deed })))))

-- a step that must not be earlier than a moment
unfoldable pub step_in : List (List ℕ) → ℕ → Section → Members → Result Planned Fault
step_in names before at table = and_then (meant word_of as_str at key.Do table) (λ does. step_by names before at table does (step_keys does))

-- what list elements describe, one after another, the first of them at an index; none is earlier than the one before
unfoldable pub items_from : {X : Type 0} → (ℕ → Section → Members → Result X Fault) → (X → ℕ) → ℕ → ℕ → Items → Result (List X) Fault
items_from read at before place no_items = Ok []
items_from read at before place (item d ds) =
    and_then (item_in (Step place) d) (λ table.
    and_then (read before (Step place) table) (λ s.
    and_then (items_from read at (at s) (place + 1) ds) (λ ss.
    Ok (s ∷ ss))))

abbrev pub steps_from : List (List ℕ) → ℕ → ℕ → Items → Result (List Planned) Fault
steps_from names = items_from (step_in names) (λ (s : Planned). s.at)

abbrev pub steps_in : List (List ℕ) → Items → Result (List Planned) Fault
steps_in names items = if nat_lt 10000 (count items) then Err TooMany else steps_from names 0 0 items

abbrev pub listed_steps : List (List ℕ) → Section → Key → Members → Result (List Planned) Fault
listed_steps names at k table = and_then (typed as_array at k table) (steps_in names)

-- ---- the file

-- the version of a number
abbrev pub version_of : ℤ → Result Version Fault
version_of z = if int_eq z (pos 1) then Ok Undelayed else if int_eq z (pos 2) then Ok Delayed else Err BadVersion

abbrev pub version_in : Section → Members → Result Version Fault
version_in at top = and_then (typed as_integer at key.Version top) version_of

-- the scenario of some taps with the steps that the table of a file has
unfoldable pub with_steps : Members → ℕ → Params → List NamedTap → Result ScenarioView Fault
with_steps top until params taps =
    let names = map (λ (t : NamedTap). t.name) taps in
    and_then (if_there [] (listed_steps names) Top key.Step top) (λ steps.
    Ok (record { scenario = record { params = params; taps = map (λ (t : NamedTap). t.spec) taps; steps = steps; until = until }; names = names }))

-- the scenario that the table of a whole file describes
unfoldable pub scenario_in : Members → Result ScenarioView Fault
scenario_in top =
    and_then (version_in Top top) (λ version.
    and_then (known top_keys Top top) (λ _.
    and_then (number 1 until_limit Top key.Until top) (λ until.
    and_then (typed as_table Top key.Bus top) (λ bus.
    and_then (params_in version Bus bus) (λ params.
    and_then (typed as_array Top key.Tap top) (λ list.
    and_then (taps_in version list) (with_steps top until params)))))))

-- the same where steps may repeat
abbrev pub any_version_of : ℤ → Result Version Fault
any_version_of z = if int_eq z (pos 3) then Ok Repeating else version_of z

abbrev pub any_version_in : Section → Members → Result Version Fault
any_version_in at top = and_then (typed as_integer at key.Version top) any_version_of

-- the parameters of the bus alone
unfoldable pub bus_in : Members → Result Params Fault
bus_in top =
    and_then (any_version_in Top top) (λ version.
    and_then (typed as_table Top key.Bus top) (λ bus.
    params_in version Bus bus))

-- the file is text in UTF-8, and as TOML it is this table
pub record IsToml (file : List ℕ) (top : Members) : Type 0 where
  pub text : IsUtf8 file
  pub document : parse_document file ≡ Some top

-- the file describes this, by a reading of tables
abbrev pub DescribesBy : {X : Type 0} → (Members → Result X Fault) → List ℕ → X → Type 0
DescribesBy read file x = (top : Members) × IsToml file top × (read top ≡ Ok x)

-- why it describes nothing: it is not TOML, or its table has this fault; or memory was refused
abbrev pub RefusesBy : {X : Type 0} → (Members → Result X Fault) → List ℕ → ScenarioFault → Type 0
RefusesBy read file fault.NotToml = (top : Members) → IsToml file top → ⊥
RefusesBy read file fault.NoMemory = Unit {0}
RefusesBy read file f = (top : Members) × IsToml file top × Tells f (read top)

-- the file describes a scenario, or why not
abbrev pub Describes : List ℕ → ScenarioView → Type 0
Describes file s = DescribesBy scenario_in file s

abbrev pub RefusesFile : List ℕ → ScenarioFault → Type 0
RefusesFile file f = RefusesBy scenario_in file f

-- the file describes a bus, or why not
abbrev pub DescribesBus : List ℕ → Params → Type 0
DescribesBus file p = DescribesBy bus_in file p

abbrev pub RefusesBus : List ℕ → ScenarioFault → Type 0
RefusesBus file f = RefusesBy bus_in file f

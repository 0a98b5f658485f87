-- What the tables of a scenario file describe for a stream, key by key, or the first fault.
use Rattle.std.specs.Prelude.{ℕ, ℤ, pos, min, nat_lt, List, [], ◌∷◌, ◌++◌, map, Bool, Option, Some, None, Result, Ok, Err, is_some, if◌then◌else◌}
use Rattle.std.specs.Ordering.{int_eq}
use Rattle.toml.specs.Data.{Items, Members, get_member, as_str, as_integer, as_array, as_table}
use Rattle.pb_timers.specs.Timers.{Params}
use Rattle.law_runs.specs.Scenarios.{Planned}
use Rattle.pb_scenario.specs.declared.keys.Key.{Key}
use Rattle.pb_scenario.specs.declared.keys.Key.TheVariants as key
use Rattle.pb_scenario.specs.declared.keys.Section.{Section}
use Rattle.pb_scenario.specs.declared.keys.Section.TheVariants.{Top, Bus}
use Rattle.pb_scenario.specs.declared.faults.ScenarioFault.{ScenarioFault}
use Rattle.pb_scenario.specs.declared.repeats.Repeat.{Repeat}
use Rattle.pb_scenario.specs.declared.versions.Version.TheVariants.{Repeating}
use Rattle.pb_scenario.specs.declared.words.Word.{Word}
use Rattle.pb_scenario.specs.Keys.{key_name, top_keys, step_keys}
use Rattle.pb_scenario.specs.Words.{word_of}
use Rattle.pb_scenario.specs.Scenarios.{ScenarioView, until_limit}
use Rattle.pb_scenario.specs.Repeats.{StreamView, stream_until, unrepeated}
use Rattle.pb_scenario.specs.Fields.{Fault, TooMany, and_then, typed, meant, known}
use Rattle.pb_scenario.specs.Files.{DescribesBy, NamedTap, RefusesBy, count, if_there, items_from, number, params_in, taps_in, scenario_in, step_by}

-- ---- the steps

-- the longest time after which a step repeats, and the most often that it says it happens: any integer of TOML
abbrev pub most : ℕ
most = 9223372036854775807

-- the keys of a step that repeats, by what it does
abbrev pub repeated_keys : Word → List Key
repeated_keys does = step_keys does ++ key.Every ∷ key.Count ∷ []

abbrev pub keys_by : Bool → Word → List Key
keys_by repeats does = if repeats then repeated_keys does else step_keys does

-- the keys of a step: how often it repeats only where it says that it does
abbrev pub keys_in : Members → Word → List Key
keys_in table does = keys_by (is_some (get_member (key_name key.Every) table)) does

abbrev pub some_number : Section → Key → Members → Result (Option ℕ) Fault
some_number at k table = and_then (number 1 most at k table) (λ n. Ok (Some n))

abbrev pub count_in : Section → Members → Result (Option ℕ) Fault
count_in at table = if_there None some_number at key.Count table

abbrev pub repeat_of : Section → Key → Members → Result (Option Repeat) Fault
repeat_of at k table =
    and_then (number 1 most at k table) (λ every.
    and_then (count_in at table) (λ often.
    Ok (Some (record { every = every; count = often }))))

-- how a step repeats, if it does
unfoldable pub repeat_in : Section → Members → Result (Option Repeat) Fault
repeat_in at table = if_there None repeat_of at key.Every table

-- a step, and how it repeats
pub record RepeatedStep : Type 0 where
  pub step : Planned
  pub repeat : Option Repeat

-- a step that must not be earlier than a moment
unfoldable pub repeated_step_in : List (List ℕ) → ℕ → Section → Members → Result RepeatedStep Fault
repeated_step_in names before at table =
    and_then (meant word_of as_str at key.Do table) (λ does.
    and_then (step_by names before at table does (keys_in table does)) (λ step.
    and_then (repeat_in at table) (λ repeat.
    Ok (record { step = step; repeat = repeat }))))

abbrev pub repeated_from : List (List ℕ) → ℕ → ℕ → Items → Result (List RepeatedStep) Fault
repeated_from names = items_from (repeated_step_in names) (λ (s : RepeatedStep). s.step.at)

abbrev pub repeated_steps_in : List (List ℕ) → Items → Result (List RepeatedStep) Fault
repeated_steps_in names items = if nat_lt 10000 (count items) then Err TooMany else repeated_from names 0 0 items

abbrev pub listed_repeated : List (List ℕ) → Section → Key → Members → Result (List RepeatedStep) Fault
listed_repeated names at k table = and_then (typed as_array at k table) (repeated_steps_in names)

-- ---- the file

-- the scenario of some taps with these steps
abbrev pub repeated : ℕ → Params → List NamedTap → List RepeatedStep → StreamView
repeated until params taps steps = record {
  once = record {
    scenario = record { params = params; taps = map (λ (t : NamedTap). t.spec) taps; steps = map (λ (s : RepeatedStep). s.step) steps; until = min until until_limit };
    names = map (λ (t : NamedTap). t.name) taps;
  };
  repeats = map (λ (s : RepeatedStep). s.repeat) steps;
  until = until;
}

-- the scenario of some taps with the steps that the table of a file has
unfoldable pub with_repeated : Members → ℕ → Params → List NamedTap → Result StreamView Fault
with_repeated top until params taps =
    and_then (if_there [] (listed_repeated (map (λ (t : NamedTap). t.name) taps)) Top key.Step top) (λ steps.
    Ok (repeated until params taps steps))

-- the scenario that the table of a whole file of version 3 describes
unfoldable pub repeating_in : Members → Result StreamView Fault
repeating_in top =
    and_then (known top_keys Top top) (λ _.
    and_then (number 1 stream_until Top key.Until top) (λ until.
    and_then (typed as_table Top key.Bus top) (λ bus.
    and_then (params_in Repeating Bus bus) (λ params.
    and_then (typed as_array Top key.Tap top) (λ list.
    and_then (taps_in Repeating list) (with_repeated top until params))))))

-- of version 3, or as a file of another version whose steps happen once
abbrev pub by_version : Members → ℤ → Result StreamView Fault
by_version top z = if int_eq z (pos 3) then repeating_in top else and_then (scenario_in top) (λ s. Ok (unrepeated s))

-- the scenario that the table of a whole file describes
unfoldable pub stream_in : Members → Result StreamView Fault
stream_in top = and_then (typed as_integer Top key.Version top) (by_version top)

-- the file describes a scenario for a stream, or why not
abbrev pub Describes : List ℕ → StreamView → Type 0
Describes file s = DescribesBy stream_in file s

abbrev pub RefusesFile : List ℕ → ScenarioFault → Type 0
RefusesFile file f = RefusesBy stream_in file f

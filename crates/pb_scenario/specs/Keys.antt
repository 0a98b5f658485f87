-- The keys of a scenario file as text, and which of them each table may have.
use Rattle.std.specs.Prelude.{ℕ, Bool, List, [], ◌∷◌, codes, bytes_eq, Option, Some, None}
use Rattle.std.specs.List.{list_any}
use Rattle.pb_scenario.specs.declared.keys.Key.{Key}
use Rattle.pb_scenario.specs.declared.keys.Key.TheVariants as key
use Rattle.pb_scenario.specs.declared.versions.Version.{Version}
use Rattle.pb_scenario.specs.declared.versions.Version.TheVariants.{Undelayed, Delayed, Repeating}
use Rattle.pb_scenario.specs.declared.words.Word.{Word}
use Rattle.pb_scenario.specs.declared.words.Word.TheVariants as word

unfoldable pub key_name : Key → List ℕ
key_name key.Version = codes "version"
key_name key.Until = codes "until"
key_name key.Bus = codes "bus"
key_name key.Tap = codes "tap"
key_name key.Step = codes "step"
key_name key.Tsl = codes "tsl"
key_name key.Tid1 = codes "tid1"
key_name key.Tid2 = codes "tid2"
key_name key.Tsdr = codes "tsdr"
key_name key.Lag = codes "lag"
key_name key.Ttr = codes "ttr"
key_name key.Gap = codes "gap"
key_name key.Hsa = codes "hsa"
key_name key.Retries = codes "retries"
key_name key.Ttd = codes "ttd"
key_name key.Name = codes "name"
key_name key.Kind = codes "kind"
key_name key.Address = codes "address"
key_name key.Reply = codes "reply"
key_name key.At = codes "at"
key_name key.Do = codes "do"
key_name key.Service = codes "service"
key_name key.To = codes "to"
key_name key.High = codes "high"
key_name key.Unit = codes "unit"
key_name key.Speaker = codes "speaker"
key_name key.Place = codes "place"
key_name key.Bits = codes "bits"
key_name key.Every = codes "every"
key_name key.Count = codes "count"

-- a text is the name of one of some keys
abbrev pub is_named : List Key → List ℕ → Bool
is_named keys text = list_any (λ k. bytes_eq (key_name k) text) keys

abbrev pub top_keys : List Key
top_keys = key.Version ∷ key.Until ∷ key.Bus ∷ key.Tap ∷ key.Step ∷ []

-- a version with a cable delay has its key
abbrev pub bus_keys : Version → List Key
bus_keys Undelayed = key.Tsl ∷ key.Tid1 ∷ key.Tid2 ∷ key.Tsdr ∷ key.Lag ∷ key.Ttr ∷ key.Gap ∷ key.Hsa ∷ key.Retries ∷ []
bus_keys Delayed = key.Tsl ∷ key.Tid1 ∷ key.Tid2 ∷ key.Tsdr ∷ key.Lag ∷ key.Ttr ∷ key.Gap ∷ key.Hsa ∷ key.Retries ∷ key.Ttd ∷ []
bus_keys Repeating = key.Tsl ∷ key.Tid1 ∷ key.Tid2 ∷ key.Tsdr ∷ key.Lag ∷ key.Ttr ∷ key.Gap ∷ key.Hsa ∷ key.Retries ∷ key.Ttd ∷ []

abbrev pub tap_keys : List Key
tap_keys = key.Name ∷ key.Kind ∷ key.Address ∷ key.Reply ∷ []

-- the keys of a step, by what it does
abbrev pub step_keys : Word → List Key
step_keys word.Start = key.At ∷ key.Do ∷ key.Tap ∷ []
step_keys word.Stop = key.At ∷ key.Do ∷ key.Tap ∷ []
step_keys word.Queue = key.At ∷ key.Do ∷ key.Tap ∷ key.Service ∷ key.To ∷ key.High ∷ key.Unit ∷ []
step_keys word.Damage = key.At ∷ key.Do ∷ key.Tap ∷ key.Speaker ∷ key.Place ∷ []
step_keys word.Noise = key.At ∷ key.Do ∷ key.Bits ∷ []
step_keys word.Unheard = key.At ∷ key.Do ∷ key.Tap ∷ key.Speaker ∷ []
step_keys word.Withhold = key.At ∷ key.Do ∷ key.Tap ∷ key.Bits ∷ []

-- no keys if what it does is unknown
abbrev pub step_keys_of : Option Word → List Key
step_keys_of None = []
step_keys_of (Some w) = step_keys w

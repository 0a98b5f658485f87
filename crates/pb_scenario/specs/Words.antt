-- The meaning of the words of a scenario file.
use Rattle.std.specs.Prelude.{ℕ, Bool, ◌&&◌, ◌||◌, ◌==◌, nat_le, List, length, codes, bytes_eq, Option, Some, None, if◌then◌else◌}
use Rattle.std.specs.List.{list_all}
use Rattle.std.specs.Char.{is_ascii_alphanumeric}
use Rattle.pb_cycles.specs.declared.services.Service.{Service}
use Rattle.pb_cycles.specs.declared.services.Service.TheVariants.{Sda, Sdn, Srd}
use Rattle.pb_taps.specs.declared.taps.Kind.{Kind}
use Rattle.pb_taps.specs.declared.taps.Kind.TheVariants.{Master, Passive}
use Rattle.pb_scenario.specs.declared.versions.Version.{Version}
use Rattle.pb_scenario.specs.declared.versions.Version.TheVariants.{Undelayed, Delayed, Repeating}
use Rattle.pb_scenario.specs.declared.words.Word.{Word}
use Rattle.pb_scenario.specs.declared.words.Word.TheVariants as word

-- what a step does
unfoldable pub word_of : List ℕ → Option Word
word_of text =
    if bytes_eq text (codes "start") then Some word.Start
    else if bytes_eq text (codes "stop") then Some word.Stop
    else if bytes_eq text (codes "queue") then Some word.Queue
    else if bytes_eq text (codes "damage") then Some word.Damage
    else if bytes_eq text (codes "noise") then Some word.Noise
    else if bytes_eq text (codes "unheard") then Some word.Unheard
    else if bytes_eq text (codes "withhold") then Some word.Withhold
    else None

unfoldable pub kind_of : List ℕ → Option Kind
kind_of text =
    if bytes_eq text (codes "master") then Some Master
    else if bytes_eq text (codes "passive") then Some Passive
    else None

unfoldable pub service_of : List ℕ → Option Service
service_of text =
    if bytes_eq text (codes "sda") then Some Sda
    else if bytes_eq text (codes "sdn") then Some Sdn
    else if bytes_eq text (codes "srd") then Some Srd
    else None

-- 1 to 16 ASCII letters or digits
unfoldable pub is_name : List ℕ → Bool
is_name text = (nat_le 1 (length text) && nat_le (length text) 16) && list_all is_ascii_alphanumeric text

-- 1 to 32 ASCII letters, digits, '-' or '_'
abbrev pub is_of_long_names : ℕ → Bool
is_of_long_names octet = is_ascii_alphanumeric octet || (octet == 45 || octet == 95)

unfoldable pub is_long_name : List ℕ → Bool
is_long_name text = (nat_le 1 (length text) && nat_le (length text) 32) && list_all is_of_long_names text

-- the names of a version
abbrev pub is_name_in : Version → List ℕ → Bool
is_name_in Undelayed text = is_name text
is_name_in Delayed text = is_name text
is_name_in Repeating text = is_long_name text

-- A burst of a capture as a JSON object, a line.
use Rattle.std.specs.Prelude.{ℕ, List, [], ◌∷◌, ◌++◌, codes, decimal, Option, Some, None}
use Rattle.std.specs.List.{flat_map}
use Rattle.hex.specs.Hex.{encode_lower}
use Rattle.pb_telegram.specs.declared.chars.RxChar.{RxChar}
use Rattle.pb_telegram.specs.declared.chars.RxChar.TheVariants.{Good, Bad}
use Rattle.pb_timers.specs.Timers.{Params}
use Rattle.law_turn.specs.Arrivals.{arrival_of}
use Rattle.pb_monitor.specs.declared.alarms.Alarm.{Alarm}
use Rattle.pb_monitor.specs.declared.heard_bursts.HeardBurst.{HeardBurst}
use Rattle.pb_monitor.specs.declared.holders.Holder.{Holder}
use Rattle.pb_monitor.specs.declared.holders.Holder.TheVariants.{One, OfferedTo, Nobody, Unknown}
use Rattle.pb_monitor.specs.AlarmWords.{name_of}
use Rattle.pb_export.specs.Bursts.{is_damaged}
use Rattle.pb_export.specs.Json.{params_text, said_text, span_text}
use Rattle.pb_export.specs.Pieces.{all_of}
use Rattle.pb_export.specs.Words.{truth}

-- the bus of a capture
abbrev pub bus_line : Params → List ℕ
bus_line p = params_text p ++ codes "}\n"

-- two hex digits, or two hyphens for a damaged character
abbrev pub char_hex : RxChar → List ℕ
char_hex (Good octet) = encode_lower (octet ∷ [])
char_hex Bad = codes "--"

-- how many characters the burst has, whether they spell no telegram, and whether its moments are those of the capture
abbrev pub state_text : HeardBurst → List ℕ
state_text b =
    all_of (codes "\",\"characters\":" ∷ decimal b.count ∷ codes ",\"damaged\":" ∷ truth (is_damaged b)
    ∷ codes ",\"timed\":" ∷ truth b.is_timed ∷ [])

-- who may send tokens and requests behind it
abbrev pub holder_text : Option Holder → List ℕ
holder_text None = []
holder_text (Some (One address)) = codes ",\"holder\":\"station\",\"holder_address\":" ++ decimal address
holder_text (Some (OfferedTo address)) = codes ",\"holder\":\"offered\",\"holder_address\":" ++ decimal address
holder_text (Some Nobody) = codes ",\"holder\":\"nobody\""
holder_text (Some Unknown) = codes ",\"holder\":\"unknown\""

-- what is wrong with its telegram
abbrev pub alarm_text : Option Alarm → List ℕ
alarm_text None = []
alarm_text (Some alarm) = all_of (codes ",\"alarm\":\"" ∷ name_of alarm ∷ codes "\"" ∷ [])

abbrev pub burst_line : HeardBurst → List ℕ
burst_line b =
    span_text b.begin b.end
    ++ codes ",\"octets\":\""
    ++ flat_map char_hex b.chars.items
    ++ state_text b
    ++ said_text (arrival_of b.chars.items)
    ++ holder_text b.holder
    ++ alarm_text b.alarm
    ++ codes "}\n"

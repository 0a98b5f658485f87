-- A trace as JSON: an object a line.
use Rattle.std.specs.Prelude.{ℕ, ◌+◌, ◌/◌, ◌%◌, ◌==◌, nat_lt, nat_le, if◌then◌else◌, List, [], ◌∷◌, ◌++◌, length, map, codes, decimal}
use Rattle.hex.specs.Hex.{encode_lower}
use Rattle.pb_telegram.specs.declared.chars.RxChar.TheVariants.{Good}
use Rattle.pb_timers.specs.Timers.{Params}
use Rattle.law_turn.specs.Arrivals.{Arrival, Token, Framed, Acknowledgement, NoTelegram, arrival_of}
use Rattle.law_model.specs.Medium.{TapSpec}
use Rattle.law_model.specs.Trace as trace
use Rattle.law_model.specs.Trace.{Heard, Record, Entry, Sent}
use Rattle.pb_scenario.specs.Scenarios.{ScenarioView}
use Rattle.pb_export.specs.declared.options.Window.{Window}
use Rattle.pb_export.specs.Windows.{shown_in}
use Rattle.pb_export.specs.Pieces.{all_of}
use Rattle.pb_export.specs.Names.{name_at, address_at}
use Rattle.pb_export.specs.Words.{request_words, reply_words, station_words, heard_words, truth}
use Rattle.pb_export.specs.Saying.{is_request, sent_octets}

-- ---- the bus

abbrev pub params_text : Params → List ℕ
params_text p =
    all_of (codes "{\"bus\":{\"tsl\":" ∷ decimal p.tsl ∷ codes ",\"tid1\":" ∷ decimal p.tid1 ∷ codes ",\"tid2\":" ∷ decimal p.tid2
    ∷ codes ",\"tsdr\":" ∷ decimal p.tsdr ∷ codes ",\"lag\":" ∷ decimal p.lag ∷ codes ",\"ttr\":" ∷ decimal p.ttr
    ∷ codes ",\"gap\":" ∷ decimal p.gap ∷ codes ",\"hsa\":" ∷ decimal p.hsa ∷ codes ",\"retries\":" ∷ decimal p.retries
    ∷ codes ",\"ttd\":" ∷ decimal p.ttd ∷ codes "}" ∷ [])

-- behind so many others, if there are any
abbrev pub comma_after : ℕ → List ℕ
comma_after others = if nat_lt 0 others then codes "," else []

abbrev pub kind_words : TapSpec → List ℕ
kind_words spec = if spec.master then codes "master" else codes "passive"

abbrev pub station_text : ℕ → (name : List ℕ) → TapSpec → List ℕ
station_text tap name spec =
    all_of (comma_after tap ∷ codes "{\"name\":\"" ∷ name ∷ codes "\",\"address\":" ∷ decimal spec.address
    ∷ codes ",\"kind\":\"" ∷ kind_words spec ∷ codes "\"}" ∷ [])

-- the stations of some taps, the first of them at an index
abbrev pub stations_text : ℕ → List (List ℕ) → List TapSpec → List ℕ
stations_text tap [] specs = []
stations_text tap (name ∷ names) [] = []
stations_text tap (name ∷ names) (spec ∷ specs) = station_text tap name spec ++ stations_text (tap + 1) names specs

-- of a run up to a moment
abbrev pub bus_line : ScenarioView → (until : ℕ) → List ℕ
bus_line s until =
    params_text s.scenario.params
    ++ all_of (codes ",\"until\":" ∷ decimal until ∷ codes ",\"stations\":[" ∷ [])
    ++ stations_text 0 s.names s.scenario.taps
    ++ codes "]}\n"

-- ---- what a telegram says

abbrev pub token_text : (da sa : ℕ) → List ℕ
token_text da sa = all_of (codes ",\"kind\":\"token\",\"da\":" ∷ decimal da ∷ codes ",\"sa\":" ∷ decimal sa ∷ [])

-- the function of a request, its frame count bit, and whether that is valid
abbrev pub request_text : ℕ → List ℕ
request_text fc =
    all_of (codes ",\"kind\":\"request\",\"function\":\"" ∷ request_words (fc % 16)
    ∷ codes "\",\"fcb\":" ∷ truth (fc / 32 % 2 == 1) ∷ codes ",\"fcv\":" ∷ truth (fc / 16 % 2 == 1) ∷ [])

abbrev pub reply_text : ℕ → List ℕ
reply_text fc =
    all_of (codes ",\"kind\":\"reply\",\"function\":\"" ∷ reply_words (fc % 16)
    ∷ codes "\",\"station_type\":\"" ∷ station_words (fc / 16 % 4) ∷ codes "\"" ∷ [])

abbrev pub function_text : ℕ → List ℕ
function_text fc = if is_request fc then request_text fc else reply_text fc

-- bit 7 of an address octet announces an extension
abbrev pub fields_text : (da sa fc : ℕ) (unit : List ℕ) → List ℕ
fields_text da sa fc unit =
    all_of (codes ",\"da\":" ∷ decimal (da % 128) ∷ codes ",\"da_extension\":" ∷ truth (nat_le 128 da)
    ∷ codes ",\"sa\":" ∷ decimal (sa % 128) ∷ codes ",\"sa_extension\":" ∷ truth (nat_le 128 sa)
    ∷ codes ",\"fc\":" ∷ decimal fc ∷ codes ",\"unit\":\"" ∷ encode_lower unit ∷ codes "\"" ∷ [])

abbrev pub framed_text : (da sa fc : ℕ) (unit : List ℕ) → List ℕ
framed_text da sa fc unit = function_text fc ++ fields_text da sa fc unit

abbrev pub said_text : Arrival → List ℕ
said_text (Token da sa) = token_text da sa
said_text (Framed f) = framed_text f.da f.sa f.fc f.unit
said_text Acknowledgement = codes ",\"kind\":\"acknowledgement\""
said_text NoTelegram = codes ",\"kind\":\"other\""

-- ---- entries

abbrev pub span_text : (begin end : ℕ) → List ℕ
span_text begin end = codes "{\"begin\":" ++ decimal begin ++ codes ",\"end\":" ++ decimal end

abbrev pub speaker_text : ScenarioView → Record → List ℕ
speaker_text s r =
    all_of (codes ",\"station\":\"" ∷ name_at s r.tap ∷ codes "\",\"address\":" ∷ decimal (address_at s r.tap)
    ∷ codes ",\"octets\":\"" ∷ encode_lower r.octets ∷ codes "\",\"octets_sent\":" ∷ decimal (length (sent_octets r)) ∷ [])

-- how a telegram reached a tap
abbrev pub hearing_text : ScenarioView → ℕ → Heard → List ℕ
hearing_text s tap h = all_of (comma_after tap ∷ codes "\"" ∷ name_at s tap ∷ codes "\":\"" ∷ heard_words h ∷ codes "\"" ∷ [])

-- how it reached some taps, the first of them at an index
abbrev pub heard_text : ScenarioView → ℕ → List Heard → List ℕ
heard_text s tap [] = []
heard_text s tap (h ∷ heard) = hearing_text s tap h ++ heard_text s (tap + 1) heard

abbrev pub record_line : ScenarioView → Record → List ℕ
record_line s r =
    span_text r.begin r.end
    ++ speaker_text s r
    ++ said_text (arrival_of (map Good r.octets))
    ++ codes ",\"heard\":{"
    ++ heard_text s 0 r.heard
    ++ codes "}}\n"

abbrev pub entry_line : ScenarioView → Entry → List ℕ
entry_line s (Sent r) = record_line s r
entry_line s (trace.Noise span) = span_text span.begin span.end ++ codes ",\"kind\":\"noise\"}\n"

abbrev pub json_text : Window → ScenarioView → List Entry → List ℕ
json_text w s es = bus_line s s.scenario.until ++ shown_in w (entry_line s) es

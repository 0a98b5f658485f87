-- Who holds the token, as a trace names it, stretch by stretch.
use Rattle.std.specs.Prelude.{ℕ, ◌+◌, ◌^◌, ◌-◌, Bool, true, false, ◌==◌, not, min, nat_le, nat_lt, if◌then◌else◌, List, [], ◌∷◌, ◌++◌, map, Option, Some, None}
use Rattle.pb_telegram.specs.declared.chars.RxChar.TheVariants.{Good}
use Rattle.law_turn.specs.Arrivals.{Arrival, Token, Framed, Acknowledgement, NoTelegram, arrival_of}
use Rattle.law_model.specs.Trace.{Record, Entry, Sent, Noise}
use Rattle.law_runs.specs.Activity.{is_silent}
use Rattle.law_runs.specs.Naming.{first_that_heard}
use Rattle.pb_scenario.specs.Scenarios.{ScenarioView}
use Rattle.pb_export.specs.declared.holders.Tenure.{Tenure}
use Rattle.pb_export.specs.declared.holders.Part.{Part}
use Rattle.pb_export.specs.declared.holders.Role.{Role}
use Rattle.pb_export.specs.declared.holders.Role.TheVariants as role
use Rattle.pb_export.specs.Saying.{is_request}

-- ---- what a telegram says about it

abbrev pub token_role : (da sa : ℕ) → Role
token_role da sa = if da == sa then role.Keeps else role.Offers da

abbrev pub framed_role : (fc : ℕ) → Role
framed_role fc = if is_request fc then role.Keeps else role.Nothing

abbrev pub role_of : Arrival → Role
role_of (Token da sa) = token_role da sa
role_of (Framed f) = framed_role f.fc
role_of Acknowledgement = role.Nothing
role_of NoTelegram = role.Nothing

abbrev pub role_in : Record → Role
role_in r = role_of (arrival_of (map Good r.octets))

-- a token or a request
abbrev pub initiates : Role → Bool
initiates role.Nothing = false
initiates role.Keeps = true
initiates (role.Offers da) = true

abbrev pub is_initiator : Record → Bool
is_initiator r = initiates (role_in r)

-- the last one, after one more entry
abbrev pub later : Option Record → Entry → Option Record
later last (Noise span) = last
later last (Sent r) = if is_initiator r then Some r else last

-- ---- whom the trace names, in parts that each begin where the one before ends

abbrev pub one_part : Option ℕ → (until : ℕ) → List Part
one_part tap until = record { tap = tap; until = until } ∷ []

-- the end of the slot after a token, as far as a clock counts
abbrev pub slot_end : ScenarioView → Record → ℕ
slot_end s r = min (r.end + s.scenario.params.tsl) (2 ^ 64 - 1)

abbrev pub is_active : (delay tap : ℕ) → List Entry → (from to : ℕ) → Bool
is_active delay tap es from to = not (is_silent delay tap es from to)

-- after the slot its speaker again, if nothing was sent in it
abbrev pub parts_after_slot : ScenarioView → List Entry → Record → (over until : ℕ) → List Part
parts_after_slot s es r over until =
    if nat_le until over then []
    else if is_active s.scenario.params.ttd r.tap es r.end over then one_part None until
    else one_part (Some r.tap) until

-- until the end of a token its speaker, and in the slot after it the station that heard it
abbrev pub parts_after_token : ScenarioView → List Entry → Record → (to until : ℕ) → List Part
parts_after_token s es r to until =
    one_part (Some r.tap) (min until r.end)
    ++ one_part (first_that_heard r.heard to 0 s.scenario.taps) (min until (slot_end s r))
    ++ parts_after_slot s es r (slot_end s r) until

abbrev pub parts_by_role : ScenarioView → List Entry → Record → Role → (until : ℕ) → List Part
parts_by_role s es r role.Nothing until = one_part (Some r.tap) until
parts_by_role s es r role.Keeps until = one_part (Some r.tap) until
parts_by_role s es r (role.Offers to) until = parts_after_token s es r to until

-- after the last token or request, up to a moment
abbrev pub parts_after : ScenarioView → List Entry → Option Record → (until : ℕ) → List Part
parts_after s es None until = one_part None until
parts_after s es (Some r) until = parts_by_role s es r (role_in r) until

-- those that end where an entry begins, if it is a token or a request
abbrev pub parts_before : ScenarioView → List Entry → Option Record → (until : ℕ) → Entry → List Part
parts_before s es last until (Noise span) = []
parts_before s es last until (Sent r) = if is_initiator r then parts_after s es last (min r.begin until) else []

abbrev pub parts_from : ScenarioView → (trace : List Entry) → Option Record → (until : ℕ) → List Entry → List Part
parts_from s trace last until [] = parts_after s trace last until
parts_from s trace last until (e ∷ es) = parts_before s trace last until e ++ parts_from s trace (later last e) until es

abbrev pub parts_of : ScenarioView → List Entry → (until : ℕ) → List Part
parts_of s es until = parts_from s es None until es

-- ---- neighbours with the same tap are joined

abbrev pub is_same : Option ℕ → Option ℕ → Bool
is_same None None = true
is_same None (Some n) = false
is_same (Some m) None = false
is_same (Some m) (Some n) = m == n

abbrev pub unless_empty : Tenure → List Tenure
unless_empty x = if nat_lt x.begin x.end then x ∷ [] else []

-- what a part adds behind the last stretch, and the last stretch then
abbrev pub ended : Tenure → Part → List Tenure
ended x part = if nat_le part.until x.end then [] else if is_same x.tap part.tap then [] else unless_empty x

abbrev pub extended : Tenure → Part → Tenure
extended x part =
    if nat_le part.until x.end then x
    else if is_same x.tap part.tap then record { begin = x.begin; end = part.until; tap = x.tap }
    else record { begin = x.end; end = part.until; tap = part.tap }

abbrev pub joined : Tenure → List Part → List Tenure
joined x [] = unless_empty x
joined x (part ∷ parts) = ended x part ++ joined (extended x part) parts

abbrev pub begun : (from : ℕ) → Tenure
begun from = record { begin = from; end = from; tap = None }

abbrev pub tenures_of : ScenarioView → List Entry → (from until : ℕ) → List Tenure
tenures_of s es from until = joined (begun from) (parts_of s es until)

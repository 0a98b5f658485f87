-- Words for function codes, replies and receptions.
use Rattle.std.specs.Prelude.{ℕ, Bool, true, false, ◌==◌, if◌then◌else◌, List, codes}
use Rattle.law_model.specs.Trace.{Heard, Own, Whole, Damaged, Unheard, Pending}

-- what the function code of a request asks for
abbrev pub request_words : ℕ → List ℕ
request_words code =
    if code == 3 then codes "SDA low"
    else if code == 4 then codes "SDN low"
    else if code == 5 then codes "SDA high"
    else if code == 6 then codes "SDN high"
    else if code == 9 then codes "FDL status"
    else if code == 12 then codes "SRD low"
    else if code == 13 then codes "SRD high"
    else codes "other"

-- what the function code of a reply says
abbrev pub reply_words : ℕ → List ℕ
reply_words code =
    if code == 0 then codes "OK"
    else if code == 1 then codes "UE"
    else if code == 2 then codes "RR"
    else if code == 3 then codes "RS"
    else if code == 8 then codes "DL"
    else if code == 9 then codes "NR"
    else if code == 10 then codes "DH"
    else if code == 12 then codes "RDL"
    else if code == 13 then codes "RDH"
    else codes "other"

-- the station type of a reply, 0 to 3
abbrev pub station_words : ℕ → List ℕ
station_words station =
    if station == 0 then codes "passive"
    else if station == 1 then codes "master not ready"
    else if station == 2 then codes "master ready"
    else codes "master in ring"

-- how a telegram reached a tap
abbrev pub heard_words : Heard → List ℕ
heard_words Own = codes "own"
heard_words Whole = codes "whole"
heard_words Damaged = codes "damaged"
heard_words Unheard = codes "unheard"
heard_words Pending = codes "pending"

-- the letter for it, as in the text of a trace
abbrev pub heard_letter : Heard → List ℕ
heard_letter Own = codes "-"
heard_letter Whole = codes "w"
heard_letter Damaged = codes "d"
heard_letter Unheard = codes "u"
heard_letter Pending = codes "."

-- a truth value in JSON
abbrev pub truth : Bool → List ℕ
truth true = codes "true"
truth false = codes "false"

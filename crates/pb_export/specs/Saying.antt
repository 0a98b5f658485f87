-- What a telegram says, in a short word; and how much of it was sent.
use Rattle.std.specs.Prelude.{ℕ, ◌-◌, ◌/◌, ◌%◌, Bool, ◌==◌, nat_lt, if◌then◌else◌, List, ◌++◌, length, take, codes, decimal}
use Rattle.law_turn.specs.Arrivals.{Arrival, Token, Framed, Acknowledgement, NoTelegram}
use Rattle.law_model.specs.Trace.{Record}
use Rattle.pb_export.specs.declared.saying.Kind.{Kind}
use Rattle.pb_export.specs.declared.saying.Kind.TheVariants as kind
use Rattle.pb_export.specs.Words.{request_words, reply_words}

-- bit 6 of a control octet: a request
abbrev pub is_request : ℕ → Bool
is_request fc = fc / 64 % 2 == 1

abbrev pub framed_kind : ℕ → Kind
framed_kind fc = if is_request fc then kind.Request else kind.Reply

abbrev pub kind_of : Arrival → Kind
kind_of (Token da sa) = kind.Token
kind_of (Framed f) = framed_kind f.fc
kind_of Acknowledgement = kind.Acknowledgement
kind_of NoTelegram = kind.Other

abbrev pub kind_words : Kind → List ℕ
kind_words kind.Token = codes "token"
kind_words kind.Request = codes "request"
kind_words kind.Reply = codes "reply"
kind_words kind.Acknowledgement = codes "acknowledgement"
kind_words kind.Other = codes "other"

-- words, a space and a number
abbrev pub numbered : List ℕ → ℕ → List ℕ
numbered words n = words ++ codes " " ++ decimal n

abbrev pub request_word : ℕ → List ℕ
request_word code = if code == 9 then codes "status?" else request_words code

-- what a station is, for a reply to a status request
abbrev pub station_word : ℕ → List ℕ
station_word station =
    if station == 0 then codes "passive"
    else if station == 1 then codes "not ready"
    else if station == 2 then codes "ready"
    else codes "in ring"

-- of a reply without data
abbrev pub reply_word : ℕ → List ℕ
reply_word fc = if nat_lt 0 (fc % 16) then reply_words (fc % 16) else station_word (fc / 16 % 4)

-- of a telegram with a control octet and so many octets of data
abbrev pub framed_text : (da fc unit : ℕ) → List ℕ
framed_text da fc unit =
    if is_request fc then numbered (request_word (fc % 16)) (da % 128)
    else if nat_lt 0 unit then numbered (codes "data") unit
    else reply_word fc

abbrev pub word_text : Arrival → List ℕ
word_text (Token da sa) = numbered (codes "token to") da
word_text (Framed f) = framed_text f.da f.fc (length f.unit)
word_text Acknowledgement = codes "ack"
word_text NoTelegram = codes "other"

-- the octets of a telegram that were sent: 11 bits each, all unless its speaker stopped
abbrev pub sent_octets : Record → List ℕ
sent_octets r = take ((r.end - r.begin) / 11) r.octets

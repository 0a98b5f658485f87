-- What a telegram says, in words.
use Rattle.std.specs.Prelude.{ℕ, ◌%◌, ◌/◌, ◌==◌, ◌&&◌, Bool, true, false, if◌then◌else◌, List, [], ◌++◌, codes, decimal, Option, Some, None}
use Rattle.pb_cycles.specs.Messages.{has_bit}
use Rattle.pb_cycles.specs.Requests.{is_high, asked_by}
use Rattle.pb_cycles.specs.declared.services.Asked.{Asked}
use Rattle.pb_cycles.specs.declared.services.Asked.TheVariants.{Send, Status, Unknown}
use Rattle.pb_cycles.specs.declared.services.Service.{Service}
use Rattle.pb_cycles.specs.declared.services.Service.TheVariants.{Sda, Sdn, Srd}
use Rattle.pb_telegram.specs.declared.telegrams.Telegram.{Telegram}
use Rattle.pb_telegram.specs.declared.telegrams.Telegram.TheVariants as telegram
use Rattle.pb_monitor.specs.declared.words.Words.{Words}
use Rattle.pb_monitor.specs.declared.words.Words.TheVariants.{TokenTo, TokenToItself, Request, Reply, Acknowledgement}

abbrev pub service_words : Service → List ℕ
service_words Sda = codes "SDA"
service_words Sdn = codes "SDN"
service_words Srd = codes "SRD"

-- what a request asks for, by its function code
abbrev pub asked_words : Asked → (code : ℕ) → List ℕ
asked_words (Send service priority) code = service_words service ++ (if is_high priority then codes " high" else codes " low")
asked_words Status code = codes "FDL status request"
asked_words Unknown code = codes "request with function code " ++ decimal code

-- the frame count bit, if it is valid; one that is set but not valid begins the count
abbrev pub count_words : (valid bit : Bool) → List ℕ
count_words true bit = if bit then codes ", FCB 1" else codes ", FCB 0"
count_words false bit = if bit then codes ", first FCB" else []

abbrev pub request_words : (fc : ℕ) → List ℕ
request_words fc = asked_words (asked_by (fc % 16)) (fc % 16) ++ count_words (has_bit fc 4) (has_bit fc 5)

-- what the function code of a reply means
abbrev pub reply_name : ℕ → List ℕ
reply_name code =
    if code == 0 then codes "reply: OK"
    else if code == 1 then codes "reply: user error"
    else if code == 2 then codes "reply: no resource"
    else if code == 3 then codes "reply: service not activated"
    else if code == 8 then codes "reply: data low"
    else if code == 9 then codes "reply: no data"
    else if code == 10 then codes "reply: data high"
    else if code == 12 then codes "reply: data low, no resource"
    else if code == 13 then codes "reply: data high, no resource"
    else codes "reply: function code " ++ decimal code

-- a name, or the code where there is none
abbrev pub named_reply : Option (List ℕ) → (code : ℕ) → List ℕ
named_reply (Some name) code = name
named_reply None code = codes "reply: function code " ++ decimal code

abbrev pub type_words : ℕ → List ℕ
type_words n =
    if n == 0 then codes ", passive"
    else if n == 1 then codes ", master not ready"
    else if n == 2 then codes ", master ready"
    else codes ", master in ring"

-- a reply without data that all is well tells the type of its station
abbrev pub reply_words : (fc : ℕ) → (empty : Bool) → List ℕ
reply_words fc empty = if empty && fc % 16 == 0 then reply_name (fc % 16) ++ type_words (fc / 16 % 4) else reply_name (fc % 16)

-- a telegram with a control octet, with data or without
abbrev pub head_words : (fc : ℕ) → (empty : Bool) → List ℕ
head_words fc empty = if has_bit fc 6 then request_words fc else reply_words fc empty

abbrev pub token_words : (da sa : ℕ) → List ℕ
token_words da sa = if da == sa then codes "token to itself" else codes "token to " ++ decimal da

-- what a telegram says
abbrev pub words_of : Telegram → List ℕ
words_of (telegram.Short t) = head_words t.fc true
words_of (telegram.Var t) = head_words t.fc false
words_of (telegram.Fixed8 t) = head_words t.fc false
words_of (telegram.Token t) = token_words t.da t.sa
words_of telegram.Ack = codes "short acknowledgement"

-- the same, as it was read
abbrev pub words_text : Words → List ℕ
words_text (TokenTo address) = codes "token to " ++ decimal address
words_text TokenToItself = codes "token to itself"
words_text (Request fc) = request_words fc.0
words_text (Reply fc empty) = reply_words fc.0 empty
words_text Acknowledgement = codes "short acknowledgement"

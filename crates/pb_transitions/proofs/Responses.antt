-- What a station answers to a telegram with a control octet.
use Rattle.std.proofs.Common.{◌≡◌, ◌∙◌, ap, refl, sym, ℕ, ◌+◌, ◌==◌, ◌%◌, Bool, true, false, List, [], Option, Some, None}
use Rattle.std.specs.Prelude.{◌||◌, if◌then◌else◌}
use Rattle.std.specs.Option.{option_map, option_or}
use Rattle.pb_timers.specs.Timers.{Params}
use Rattle.pb_cycles.specs.declared.services.Priority.{Priority}
use Rattle.pb_cycles.specs.Fields.{Fields}
use Rattle.pb_cycles.specs.Messages.{message_of, reply_octets, has_bit, address_in}
use Rattle.pb_cycles.specs.Requests.{asked_by}
use Rattle.pb_cycles.specs.declared.messages.Message.{Message}
use Rattle.pb_cycles.specs.declared.messages.Reply.{Reply}
use Rattle.pb_cycles.specs.declared.services.Asked.{Asked}
use Rattle.pb_cycles.specs.declared.services.Asked.TheVariants.{Send, Status, Unknown}
use Rattle.pb_cycles.specs.declared.services.Service.{Service}
use Rattle.pb_cycles.specs.declared.services.Service.TheVariants.{Sda, Sdn, Srd}
use Rattle.pb_cycles.specs.Responding.{reply_to_message, after_message, reply_to_framed, after_framed, reply_to_asked, after_asked, reply_to_service, after_service, reply_frame, service_reply, once, reply_once, counted}
use Rattle.pb_cycles.specs.Tables.{ResponderTable}
use Rattle.pb_telegram.specs.declared.telegrams.Telegram.{Telegram}
use Rattle.pb_telegram.specs.declared.telegrams.Telegram.TheVariants.{Short, Var, Fixed8, Token, Ack}
use Rattle.law_turn.specs.Hearing.{in_ring, passive, answering, idle_hears, passive_hears}
use Rattle.law_turn.specs.Stations as turn
use Rattle.law_turn.specs.Stations.{Station}
use Rattle.pb_transitions.specs.Arrivals.{telegram_brings, is_framed}
use Rattle.pb_transitions.specs.Replies.{reply_to, answers, is_for, goes_to}

-- a reply by its octets
answered : (f : List ℕ → turn.Reply) (o : Option Reply) (xs : Option (List ℕ)) (r : Option turn.Reply) → r ≡ option_map f xs → xs ≡ option_map reply_octets o
    → r ≡ option_map (λ (a : Reply). f (reply_octets a)) o
answered f o xs r is same = is ∙ ap (λ (x : Option (List ℕ)). option_map f x) same ∙ twice o
  where
    twice : (o : Option Reply) → option_map f (option_map reply_octets o) ≡ option_map (λ (a : Reply). f (reply_octets a)) o
    twice None = refl
    twice (Some a) = refl

-- a station that answers, from the parts that are computed
pub answers_by : (p : Params) (s : Station) (at station_type : ℕ) (m : Message) (ready ts code : ℕ) (octets : Option (List ℕ)) (reply waits : Option turn.Reply) (responder : ResponderTable)
    → waits ≡ option_or reply s.reply → reply ≡ option_map (λ xs. record { ready = ready; octets = xs; joins = false }) octets → octets ≡ option_map reply_octets (reply_to_message s.cycles.responder ts code m)
    → responder ≡ after_message s.cycles.responder ts code m → ready ≡ at + p.tsdr → ts ≡ s.address → code ≡ station_type
    → record s { reply = waits; cycles = record s.cycles { responder = responder } } ≡ answers p s at station_type m
answers_by p s at station_type m ready ts code octets reply waits responder or is said after later own type =
    let t = s.cycles.responder in
    let made : reply ≡ option_map (λ (a : Reply). record { ready = ready; octets = reply_octets a; joins = false }) (reply_to_message t s.address station_type m)
    = answered (λ xs. record { ready = ready; octets = xs; joins = false }) (reply_to_message t s.address station_type m) octets reply is
    (said ∙ ap (λ (n : ℕ). option_map reply_octets (reply_to_message t n code m)) own ∙ ap (λ (n : ℕ). option_map reply_octets (reply_to_message t s.address n m)) type) in
    let sent : reply ≡ reply_to p s at station_type m
    = made ∙ ap (λ (n : ℕ). option_map (λ (a : Reply). record { ready = n; octets = reply_octets a; joins = false }) (reply_to_message t s.address station_type m)) later in
    let done : responder ≡ after_message t s.address station_type m
    = after ∙ ap (λ (n : ℕ). after_message t n code m) own ∙ ap (λ (n : ℕ). after_message t s.address n m) type in
    ap (λ (r : Option turn.Reply). record s { reply = r; cycles = record s.cycles { responder = responder } }) (or ∙ ap (λ (r : Option turn.Reply). option_or r s.reply) sent)
    ∙ ap (λ (x : ResponderTable). record s { reply = option_or (reply_to p s at station_type m) s.reply; cycles = record s.cycles { responder = x } }) done

pub in_idle : (p : Params) (s : Station) (refused : Option ℕ) (at : ℕ) (t : Telegram) → is_framed t ≡ true
    → answers p s at in_ring (message_of t) ≡ idle_hears p s refused at (telegram_brings t)
in_idle p s refused at (Short t) e = refl
in_idle p s refused at (Var t) e = refl
in_idle p s refused at (Fixed8 t) e = refl
in_idle p s refused at (Token t) e = absurd cc
in_idle p s refused at Ack e = absurd cc

pub in_passive : (p : Params) (s : Station) (at : ℕ) (t : Telegram) → is_framed t ≡ true → answers p s at passive (message_of t) ≡ passive_hears p s at (telegram_brings t)
in_passive p s at (Short t) e = refl
in_passive p s at (Var t) e = refl
in_passive p s at (Fixed8 t) e = refl
in_passive p s at (Token t) e = absurd cc
in_passive p s at Ack e = absurd cc

-- ---- a telegram that goes neither to the station nor to all

not_this : (a b : Bool) → (a || b) ≡ false → a ≡ false
not_this true b e = absurd cc
not_this false b e = refl

either : {X : Type 0} (b : Bool) (x y : X) → x ≡ y → (if b then x else y) ≡ y
either true x y e = e
either false x y e = refl

service-none : (t : ResponderTable) (ts code : ℕ) (f : Fields) (s : Service) (priority : Priority) → is_for ts f.da ≡ false → reply_to_service t ts code f s priority ≡ None
service-none t ts code f Sda priority e =
    ap (λ (b : Bool). if b then reply_once t f (service_reply ts code f Sda priority t.reply) else None) (not_this (address_in f.da == ts) (address_in f.da == 127) e)
service-none t ts code f Sdn priority e = refl
service-none t ts code f Srd priority e =
    ap (λ (b : Bool). if b then reply_once t f (service_reply ts code f Srd priority t.reply) else None) (not_this (address_in f.da == ts) (address_in f.da == 127) e)

service-same : (t : ResponderTable) (ts code : ℕ) (f : Fields) (s : Service) (priority : Priority) → is_for ts f.da ≡ false → after_service t ts code f s priority ≡ t
service-same t ts code f Sda priority e =
    ap (λ (b : Bool). if b then once t f (service_reply ts code f Sda priority t.reply) else t) (not_this (address_in f.da == ts) (address_in f.da == 127) e)
service-same t ts code f Sdn priority e = ap (λ (b : Bool). if b then counted t else t) e
service-same t ts code f Srd priority e =
    ap (λ (b : Bool). if b then once t f (service_reply ts code f Srd priority t.reply) else t) (not_this (address_in f.da == ts) (address_in f.da == 127) e)

asked-none : (t : ResponderTable) (ts code : ℕ) (f : Fields) (a : Asked) → is_for ts f.da ≡ false → reply_to_asked t ts code f a ≡ None
asked-none t ts code f (Send service priority) e = service-none t ts code f service priority e
asked-none t ts code f Status e =
    ap (λ (b : Bool). if b then Some (reply_frame ts code f 0 []) else None) (not_this (address_in f.da == ts) (address_in f.da == 127) e)
asked-none t ts code f Unknown e = refl

asked-same : (t : ResponderTable) (ts code : ℕ) (f : Fields) (a : Asked) → is_for ts f.da ≡ false → after_asked t ts code f a ≡ t
asked-same t ts code f (Send service priority) e = service-same t ts code f service priority e
asked-same t ts code f Status e = refl
asked-same t ts code f Unknown e = refl

framed-none : (t : ResponderTable) (ts code : ℕ) (f : Fields) → is_for ts f.da ≡ false → reply_to_framed t ts code f ≡ None
framed-none t ts code f e = either (has_bit f.fc 6) _ None (asked-none t ts code f (asked_by (f.fc % 16)) e)

framed-same : (t : ResponderTable) (ts code : ℕ) (f : Fields) → is_for ts f.da ≡ false → after_framed t ts code f ≡ t
framed-same t ts code f e = either (has_bit f.fc 6) _ t (asked-same t ts code f (asked_by (f.fc % 16)) e)

message-none : (t : ResponderTable) (ts code : ℕ) (m : Telegram) → goes_to ts m ≡ false → reply_to_message t ts code (message_of m) ≡ None
message-none t ts code (Short m) e = framed-none t ts code (record { da = m.da; sa = m.sa; fc = m.fc; unit = [] }) e
message-none t ts code (Var m) e = framed-none t ts code (record { da = m.da; sa = m.sa; fc = m.fc; unit = m.unit.items }) e
message-none t ts code (Fixed8 m) e = framed-none t ts code (record { da = m.da; sa = m.sa; fc = m.fc; unit = m.unit }) e
message-none t ts code (Token m) e = refl
message-none t ts code Ack e = refl

message-same : (t : ResponderTable) (ts code : ℕ) (m : Telegram) → goes_to ts m ≡ false → after_message t ts code (message_of m) ≡ t
message-same t ts code (Short m) e = framed-same t ts code (record { da = m.da; sa = m.sa; fc = m.fc; unit = [] }) e
message-same t ts code (Var m) e = framed-same t ts code (record { da = m.da; sa = m.sa; fc = m.fc; unit = m.unit.items }) e
message-same t ts code (Fixed8 m) e = framed-same t ts code (record { da = m.da; sa = m.sa; fc = m.fc; unit = m.unit }) e
message-same t ts code (Token m) e = refl
message-same t ts code Ack e = refl

-- nothing is answered, and nothing changes
pub not_asked : (p : Params) (s : Station) (at code : ℕ) (m : Telegram) → goes_to s.address m ≡ false → s ≡ answers p s at code (message_of m)
not_asked p s at code m e =
    let t = s.cycles.responder in
    sym
    (ap (λ (r : Option Reply). record s {
      reply = option_or (option_map (λ (a : Reply). record { ready = at + p.tsdr; octets = reply_octets a; joins = false }) r) s.reply;
      cycles = record s.cycles { responder = after_message t s.address code (message_of m) };
    }) (message-none t s.address code m e)
    ∙ ap (λ (x : ResponderTable). record s { reply = s.reply; cycles = record s.cycles { responder = x } }) (message-same t s.address code m e))

pub not_answered : (p : Params) (s : Station) (at code : ℕ) (f : Fields) → is_for s.address f.da ≡ false → answering p s at f code ≡ s
not_answered p s at code f e =
    let t = s.cycles.responder in
    ap (λ (r : Option Reply). record s {
      reply = option_or (option_map (λ (a : Reply). record { ready = at + p.tsdr; octets = reply_octets a; joins = false }) r) s.reply;
      cycles = record s.cycles { responder = after_framed t s.address code f };
    }) (framed-none t s.address code f e)
    ∙ ap (λ (x : ResponderTable). record s { reply = s.reply; cycles = record s.cycles { responder = x } }) (framed-same t s.address code f e)

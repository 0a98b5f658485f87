-- What is known of a bus after some bursts: what is counted for the bus and for each station. Each count is what it was
-- before the last burst, or one more.
use Rattle.std.specs.Cmp.Lexicographic.{pointwise}
use Rattle.std.specs.Prelude.{nat_eq, ℕ, ◌+◌, ◌-◌, ◌*◌, ◌/◌, ◌%◌, ◌^◌, ◌==◌, ◌&&◌, ◌||◌, not, Bool, true, false, if◌then◌else◌, min, max, nat_lt, List, [], map, Option, Some, None, option_map, replicate, slice_get, slice_set, Result, Ok, Err}
use Rattle.pb_cycles.specs.Requests.{asked_by, is_answered}
use Rattle.pb_cycles.specs.declared.services.Asked.{Asked}
use Rattle.pb_cycles.specs.declared.services.Asked.TheVariants.{Send, Status, Unknown}
use Rattle.pb_ring.specs.Las as las
use Rattle.pb_telegram.specs.Heads.{head_of}
use Rattle.pb_telegram.specs.Grammar.{spelling}
use Rattle.pb_telegram.specs.declared.heads.Head.{Head}
use Rattle.pb_telegram.specs.declared.telegrams.Telegram.{Telegram}
use Rattle.pb_telegram.specs.declared.telegrams.Telegram.TheVariants as telegram
use Rattle.pb_telegram.specs.declared.faults.TelegramFault.{TelegramFault}
use Rattle.pb_monitor.specs.declared.bursts.Burst.{Burst}
use Rattle.pb_monitor.specs.declared.meanings.InitiatorTelegram.{InitiatorTelegram}
use Rattle.pb_monitor.specs.declared.meanings.Meaning.{Meaning}
use Rattle.pb_monitor.specs.declared.meanings.Meaning.TheVariants as meaning
use Rattle.pb_monitor.specs.declared.spreads.Spread.{Spread}
use Rattle.pb_monitor.specs.declared.stations.Role.{Role}
use Rattle.pb_monitor.specs.declared.stations.Role.TheVariants as role
use Rattle.pb_monitor.specs.declared.stations.Station.{Station}
use Rattle.pb_monitor.specs.declared.statistics.Answer.{Answer}
use Rattle.pb_monitor.specs.declared.statistics.Answer.TheVariants.{Awaited, Good, Damaged}
use Rattle.pb_monitor.specs.declared.statistics.Limits.{Limits}
use Rattle.pb_monitor.specs.declared.statistics.Offer.{Offer}
use Rattle.pb_monitor.specs.declared.statistics.Open.{Open}
use Rattle.pb_monitor.specs.declared.traffic.Damaged as damaged
use Rattle.pb_monitor.specs.declared.traffic.Traffic.{Traffic}
use Rattle.pb_timers.specs.Timers.{Params}
use Rattle.pb_monitor.specs.Judge.{live}
use Rattle.pb_monitor.specs.Meanings.{arrival_in, meaning_of}

-- ---- counts

-- Counts and sums end at the greatest number of 64 bits.
abbrev pub plus : ℕ → ℕ → ℕ
plus a b = min (a + b) (2 ^ 64 - 1)

abbrev pub one_more : ℕ → ℕ
one_more n = plus n 1

-- one more where something is so
abbrev pub one_if : Bool → ℕ → ℕ
one_if so n = if so then one_more n else n

-- one duration more
abbrev pub spread_with : ℕ → Spread → Spread
spread_with bits s = record {
  count = one_more s.count;
  total = plus s.total bits;
  least = if s.count == 0 then bits else min s.least bits;
  greatest = max s.greatest bits;
}

-- a duration, if it is known
abbrev pub spread_some : Option ℕ → Spread → Spread
spread_some None s = s
spread_some (Some bits) s = spread_with bits s

-- ---- moments that may not be known

-- the moment of a burst, if the capture gives it
abbrev pub known_at : (timed : Bool) → ℕ → Option ℕ
known_at timed moment = if timed then Some moment else None

-- how long after the end of an earlier telegram a burst begins, if both moments are known
abbrev pub bits_since : (timed : Bool) → (end : Option ℕ) → (begin : ℕ) → Option ℕ
bits_since false end begin = None
bits_since true None begin = None
bits_since true (Some end) begin = Some (begin - end)

-- a duration is less than a limit, or it is not known
abbrev pub is_under : (unknown : Bool) → Option ℕ → (limit : ℕ) → Bool
is_under unknown None limit = unknown
is_under unknown (Some bits) limit = nat_lt bits limit

-- ---- what is counted for a station

abbrev pub heard_at : (timed : Bool) → (end : ℕ) → Option ℕ → Option ℕ
heard_at timed end before = if timed then Some end else before

-- a telegram of it ended at a moment
abbrev pub noted : (timed : Bool) → (end : ℕ) → Station → Station
noted timed end s = record s { telegrams = one_more s.telegrams; last_heard = heard_at timed end s.last_heard }

abbrev pub rotation_to : ℕ → Option ℕ → Spread → Spread
rotation_to moment None s = s
rotation_to moment (Some before) s = spread_with (moment - before) s

-- It received the token at a moment. Where that is not known, neither this rotation nor the next one has a duration.
abbrev pub received : Option ℕ → Station → Station
received None s = record s { receipt = None }
received (Some moment) s = record s { rotation = rotation_to moment s.receipt s.rotation; receipt = Some moment }

-- it received the token that ended at a moment, and spoke first some time later
abbrev pub took : (end bits : Option ℕ) → Station → Station
took end bits s = record (received end s) { taking = spread_some bits s.taking }

-- a token to it was sent again after its slot
abbrev pub not_taken : Station → Station
not_taken s = record s { tokens_not_taken = one_more s.tokens_not_taken }

-- it sent a token or a request, perhaps once more
abbrev pub initiated : (timed again : Bool) → (end : ℕ) → Station → Station
initiated timed again end s = record (noted timed end s) { repeats = one_if again s.repeats }

-- It sent a token: perhaps the first one of a claim; another token to itself is a receipt.
abbrev pub sent_token : (to_itself claims timed : Bool) → (end : ℕ) → Station → Station
sent_token to_itself claims timed end s =
    let sent = record s { tokens = one_more s.tokens; role = role.MasterInRing } in
    if claims then record sent { claims = one_more s.claims }
    else if to_itself then received (known_at timed end) sent
    else sent

-- it sent a request, perhaps for a status
abbrev pub asked : (poll : Bool) → Station → Station
asked poll s = record s { requests = one_more s.requests; polls = one_if poll s.polls }

-- it was asked for its status
abbrev pub was_polled : Station → Station
was_polled s = record s { polled = one_more s.polled }

-- what became of a request of it
abbrev pub unanswered : Station → Station
unanswered s = record s { unanswered = one_more s.unanswered }

abbrev pub answered_badly : Station → Station
answered_badly s = record s { damaged_answers = one_more s.damaged_answers }

abbrev pub role_of : ℕ → Role
role_of n = if n == 0 then role.Passive else if n == 1 then role.MasterNotReady else if n == 2 then role.MasterReady else role.MasterInRing

-- a reply with a control octet shows a role, if it has none in the ring yet
abbrev pub role_by : Option Head → Role → Role
role_by head role.MasterInRing = role.MasterInRing
role_by None r = r
role_by (Some h) r = role_of (h.fc / 16 % 4)

-- it replied, some time after the request
abbrev pub replied : (timed : Bool) → (end : ℕ) → (bits : Option ℕ) → Option Head → Station → Station
replied timed end bits head s = record (noted timed end s) { replying = spread_some bits s.replying; role = role_by head s.role }

abbrev pub without_receipt : Station → Station
without_receipt s = record s { receipt = None }

-- ---- all stations

-- the stations, with that at an address changed
abbrev pub with_changed : (address : ℕ) → (Station → Station) → List Station → Option Station → List Station
with_changed a f stations None = stations
with_changed a f stations (Some s) = slice_set stations a (f s)

abbrev pub changed_at : (address : ℕ) → (Station → Station) → List Station → List Station
changed_at a f stations = with_changed a f stations (slice_get stations a)

-- ---- what came before

-- What is known: the times of the bus, if its parameters are; the list of active stations; the octets of the last token
-- or request, if nothing was missed since; a token to another station that nobody has taken yet; a request that wants
-- an answer; the end of the last burst, if nothing was missed since; and whether it had moments, or nothing has come since
-- something was missed.
pub record Known : Type 0 where
  pub limits : Option Limits
  pub traffic : Traffic
  pub stations : List Station
  pub ring : las.LasTable
  pub last : List ℕ
  pub offer : Option Offer
  pub request : Option Open
  pub quiet : Option ℕ
  pub timed : Bool

-- the silence before a moment is longer than any that a token in use leaves
abbrev pub is_over : Option Limits → (before : Option ℕ) → (begin : ℕ) → Bool
is_over None before begin = false
is_over (Some l) None begin = false
is_over (Some l) (Some end) begin = nat_lt l.live (begin - end)

abbrev pub is_waiting : Answer → Bool
is_waiting Awaited = true
is_waiting Good = false
is_waiting Damaged = false

-- nothing has come yet after a request
abbrev pub is_awaited : Option Open → Bool
is_awaited None = false
is_awaited (Some o) = is_waiting o.answer

-- A burst is in the slot of a token that nobody has taken. Without moments each is.
abbrev pub is_in_slot : Option Limits → (timed : Bool) → Option Offer → (begin : ℕ) → Bool
is_in_slot None timed offer begin = false
is_in_slot (Some l) timed None begin = false
is_in_slot (Some l) timed (Some o) begin = is_under true (bits_since timed o.end begin) l.tsl

-- A token that is sent again from a moment on could still be taken: its slot is not over. Without moments nobody can tell.
abbrev pub is_early : Option Limits → (timed : Bool) → Option Offer → (begin : ℕ) → Bool
is_early None timed offer begin = false
is_early (Some l) timed None begin = false
is_early (Some l) timed (Some o) begin = is_under false (bits_since timed o.end begin) l.early

-- A token to itself that begins at a moment is the first of a claim: after a silence that no token in use leaves, or as
-- the first burst that has moments.
abbrev pub begins_claim : Option Limits → (timed : Bool) → (before : Option ℕ) → (begin : ℕ) → Bool
begins_claim None timed before begin = false
begins_claim (Some l) timed None begin = timed
begins_claim (Some l) timed (Some end) begin = nat_lt l.live (begin - end)

-- a request gets no more answer
abbrev pub closed_by : Answer → (source : ℕ) → List Station → List Station
closed_by Awaited source stations = changed_at source unanswered stations
closed_by Damaged source stations = changed_at source answered_badly stations
closed_by Good source stations = stations

abbrev pub closing : Option Open → List Station → List Station
closing None stations = stations
closing (Some o) stations = closed_by o.answer o.source stations

abbrev pub closed : Known → Known
closed k = record k { request = None; stations = closing k.request k.stations }

-- the last telegrams, and when stations received the token, are forgotten
abbrev pub without_telegrams : Known → Known
without_telegrams k = record k { request = None; offer = None; last = []; stations = map without_receipt k.stations }

-- what came before is forgotten: something was missed
abbrev pub forgotten : Known → Known
forgotten k = record (without_telegrams k) { quiet = None; timed = true }

-- ---- a burst without a telegram

-- one more, at the place in which it came
abbrev pub damaged_with : Known → (before : Option ℕ) → (begin : ℕ) → damaged.Damaged → damaged.Damaged
damaged_with k before begin d =
    if is_over k.limits before begin then record d { after_loss = one_more d.after_loss }
    else if is_awaited k.request then record d { replying = one_more d.replying }
    else if is_in_slot k.limits k.timed k.offer begin then record d { taking = one_more d.taking }
    else record d { other = one_more d.other }

abbrev pub damage : Answer → Answer
damage Awaited = Damaged
damage Good = Good
damage Damaged = Damaged

-- damage in place of the answer to a request: not once the silence before it is longer than a slot can be
abbrev pub damaged_open : (over : Bool) → Option Open → Option Open
damaged_open over None = None
damaged_open over (Some o) = Some (if over then o else record o { answer = damage o.answer })

abbrev pub heard_damage : (before : Option ℕ) → (begin : ℕ) → Known → Known
heard_damage before begin k =
    without_telegrams (closed (record k {
      traffic = record k.traffic { damaged = damaged_with k before begin k.traffic.damaged };
      request = damaged_open (is_over k.limits before begin) k.request;
    }))

-- ---- a token or a request

-- a token that was offered: the station takes it, if it is the next to speak; else it may be sent again after its slot
abbrev pub taken_by : Offer → (begin : ℕ) → InitiatorTelegram → (untaken timed : Bool) → List Station → List Station
taken_by o begin said untaken timed stations =
    if o.to == said.source then (if said.is_claim then stations else changed_at o.to (took o.end (bits_since timed o.end begin)) stations)
    else if untaken then changed_at o.to not_taken stations
    else stations

abbrev pub taken : Option Offer → (begin : ℕ) → InitiatorTelegram → (untaken timed : Bool) → List Station → List Station
taken None begin said untaken timed stations = stations
taken (Some o) begin said untaken timed stations = taken_by o begin said untaken timed stations

-- the last token was sent again, and not before its slot was over
abbrev pub is_untaken : Known → (begin : ℕ) → (again : Bool) → Bool
is_untaken k begin again = again && not (is_early k.limits k.timed k.offer begin)

abbrev pub offer_to : (end : Option ℕ) → Option ℕ → Option Offer
offer_to end to = option_map (λ (a : ℕ). record { to = a; end = end }) to

-- a first claim forgets when stations received the token
abbrev pub forgotten_by : (claims : Bool) → List Station → List Station
forgotten_by claims stations = if claims then map without_receipt stations else stations

-- what is asked for is answered
abbrev pub wants_answer : Asked → Bool
wants_answer (Send service priority) = is_answered service
wants_answer Status = true
wants_answer Unknown = false

abbrev pub is_poll : Asked → Bool
is_poll (Send service priority) = false
is_poll Status = true
is_poll Unknown = false

abbrev pub request_of : Head → (end : Option ℕ) → (poll : Bool) → Open
request_of h end poll = record { source = h.sa % 128; to = h.da % 128; end = end; is_poll = poll; answer = Awaited }

abbrev pub open_behind : Head → (end : Option ℕ) → Asked → Option Open → Option Open
open_behind h end a before = if wants_answer a then Some (request_of h end (is_poll a)) else before

abbrev pub polled_by : (poll : Bool) → (to : ℕ) → List Station → List Station
polled_by poll to stations = if poll then changed_at to was_polled stations else stations

abbrev pub heard_request : Head → (end : ℕ) → Asked → Known → Known
heard_request h end a k = record k {
  stations = polled_by (is_poll a) (h.da % 128) (changed_at (h.sa % 128) (asked (is_poll a)) k.stations);
  request = open_behind h (known_at k.timed end) a k.request;
}

abbrev pub heard_token : (sa da end : ℕ) → InitiatorTelegram → (claims : Bool) → Known → Known
heard_token sa da end said claims k = record k {
  ring = las.heard k.ring sa da;
  stations = changed_at said.source (sent_token said.is_claim claims k.timed end) (forgotten_by claims k.stations);
}

abbrev pub heard_head : Option Head → (end : ℕ) → Known → Known
heard_head None end k = k
heard_head (Some h) end k = heard_request h end (asked_by (h.fc % 16)) k

abbrev pub heard_content : Telegram → (end : ℕ) → InitiatorTelegram → (claims : Bool) → Known → Known
heard_content (telegram.Token t) end said claims k = heard_token t.sa t.da end said claims k
heard_content (telegram.Short t) end said claims k = heard_head (head_of (telegram.Short t)) end k
heard_content (telegram.Var t) end said claims k = heard_head (head_of (telegram.Var t)) end k
heard_content (telegram.Fixed8 t) end said claims k = heard_head (head_of (telegram.Fixed8 t)) end k
heard_content telegram.Ack end said claims k = k

-- it has the octets of the one directly before, if that is known, and is no token to itself
abbrev pub is_again : Known → Telegram → InitiatorTelegram → Bool
is_again k t said = pointwise nat_eq k.last (spelling t) && not said.is_claim

abbrev pub heard_sender : (begin end : ℕ) → Telegram → InitiatorTelegram → (again : Bool) → Known → Known
heard_sender begin end t said again k = record k {
  last = spelling t;
  offer = offer_to (known_at k.timed end) said.offered;
  stations = changed_at said.source (initiated k.timed again end) (taken k.offer begin said (is_untaken k begin again) k.timed k.stations);
}

abbrev pub heard_initiator : (begin end : ℕ) → Telegram → InitiatorTelegram → (claims : Bool) → Known → Known
heard_initiator begin end t said claims k =
    heard_content t end said claims (heard_sender begin end t said (is_again k t said) (closed k))

-- ---- a reply

-- A telegram answers a request: one for a status only by a reply that all is well, which tells it.
abbrev pub answers : Open → Option Head → Bool
answers o None = not o.is_poll
answers o (Some h) = h.sa % 128 == o.to && h.da % 128 == o.source && (not o.is_poll || h.fc % 16 == 0)

abbrev pub answered_by : (begin end : ℕ) → Option Head → Open → Known → Known
answered_by begin end head o k =
    if is_waiting o.answer && answers o head then record k {
      request = Some (record o { answer = Good });
      stations = changed_at o.to (replied k.timed end (bits_since k.timed o.end begin) head) k.stations;
    } else k

abbrev pub answered : (begin end : ℕ) → Option Head → Option Open → Known → Known
answered begin end head None k = k
answered begin end head (Some o) k = answered_by begin end head o k

-- ---- a burst

abbrev pub heard_meaning : (before : Option ℕ) → (begin end : ℕ) → Telegram → Meaning → Known → Known
heard_meaning before begin end t (meaning.Initiator said) k =
    heard_initiator begin end t said (said.is_claim && begins_claim k.limits k.timed before begin) k
heard_meaning before begin end t meaning.Reply k = answered begin end (head_of t) k.request k
heard_meaning before begin end t meaning.NoTelegram k = answered begin end (head_of t) k.request k

abbrev pub heard_telegram : (before : Option ℕ) → (begin end : ℕ) → Result Telegram TelegramFault → Known → Known
heard_telegram before begin end (Ok t) k = heard_meaning before begin end t (meaning_of (arrival_in (Ok t))) k
heard_telegram before begin end (Err fault) k = heard_damage before begin k

-- the longest silence, with one more
abbrev pub longest_with : (begin : ℕ) → Option ℕ → ℕ → ℕ
longest_with begin None longest = longest
longest_with begin (Some end) longest = max longest (begin - end)

abbrev pub first_with : ℕ → Option ℕ → Option ℕ
first_with begin None = Some begin
first_with begin (Some first) = Some first

-- from the end of the burst before, if it is known, to the end of this one
abbrev pub span_with : (before : Option ℕ) → (begin end : ℕ) → ℕ
span_with None begin end = end - begin
span_with (Some before) begin end = end - before

abbrev pub traffic_with : (before : Option ℕ) → (begin end : ℕ) → Traffic → Traffic
traffic_with before begin end t = record t {
  bursts = one_more t.bursts;
  busy = plus t.busy (end - begin);
  span = plus t.span (span_with before begin end);
  first = first_with begin t.first;
  last = Some end;
  longest_silence = longest_with begin before t.longest_silence;
}

-- before the first burst, with the parameters of the bus or without
abbrev pub new_spread : Spread
new_spread = record { count = 0; total = 0; least = 0; greatest = 0 }

abbrev pub new_station : Station
new_station = record {
  telegrams = 0;
  last_heard = None;
  role = role.Unknown;
  tokens = 0;
  claims = 0;
  requests = 0;
  polls = 0;
  repeats = 0;
  unanswered = 0;
  damaged_answers = 0;
  polled = 0;
  tokens_not_taken = 0;
  rotation = new_spread;
  taking = new_spread;
  replying = new_spread;
  receipt = None;
}

abbrev pub new_traffic : Traffic
new_traffic = record {
  first = None;
  last = None;
  busy = 0;
  span = 0;
  bursts = 0;
  damaged = record { after_loss = 0; taking = 0; replying = 0; other = 0 };
  longest_silence = 0;
  alarms = 0;
  refused = 0;
}

abbrev pub new_known : Option Params → (slack : ℕ) → Known
new_known params slack = record {
  limits = option_map (λ (p : Params). record { tsl = p.tsl; live = live p slack; early = p.tsl - slack }) params;
  traffic = new_traffic;
  stations = replicate 127 new_station;
  ring = las.listening;
  last = [];
  offer = None;
  request = None;
  quiet = None;
  timed = true;
}

-- how many bursts without a telegram there are in all places
abbrev pub damage_of : damaged.Damaged → ℕ
damage_of d = plus (plus (plus d.after_loss d.taking) d.replying) d.other

-- a burst had moments, or none has come yet
abbrev pub is_known : Option ℕ → Bool
is_known None = false
is_known (Some moment) = true

abbrev pub has_moments : Traffic → Bool
has_moments t = is_known t.first || t.bursts == 0

-- the load of the bus in tenths of a percent, of the stretches in which all moments are known
abbrev pub load_of : (busy span : ℕ) → ℕ
load_of busy span = if span == 0 then 0 else min (busy * 1000 / span) 1000

-- The end of the burst before one that begins at a moment, if nothing was missed. After a burst without moments no
-- silence is known: as if it had ended at that moment.
abbrev pub before_of : Known → (begin : ℕ) → Option ℕ
before_of k begin = if k.timed then k.quiet else Some begin

-- a burst with moments
abbrev pub heard_behind : (before : Option ℕ) → Burst → Known → Known
heard_behind before b k =
    record (heard_telegram before b.begin b.end b.telegram (record k { timed = true; traffic = traffic_with before b.begin b.end k.traffic })) { quiet = Some b.end }

abbrev pub heard : Burst → Known → Known
heard b k = heard_behind (before_of k b.begin) b k

-- a burst of which no moments are known
abbrev pub heard_untimed : Burst → Known → Known
heard_untimed b k =
    heard_telegram None b.begin b.end b.telegram (record k { timed = false; quiet = None; traffic = record k.traffic { bursts = one_more k.traffic.bursts } })

-- an alarm, and a refusal of input, after which nothing is known of what came before
abbrev pub alarmed : Known → Known
alarmed k = record k { traffic = record k.traffic { alarms = one_more k.traffic.alarms } }

abbrev pub alarmed_if : (raised : Bool) → Known → Known
alarmed_if raised k = if raised then alarmed k else k

abbrev pub refused : Known → Known
refused k = forgotten (record k { traffic = record k.traffic { refused = one_more k.traffic.refused } })

-- Stations that differ in what they reply to requests alone: timers and marks leave them so.
use Rattle.std.proofs.Common.{◌≡◌, ℕ, ◌+◌, ◌%◌, ◌⊎◌, inl, inr, Bool, true, false, if◌then◌else◌, ◌==◌, ◌&&◌, ◌||◌, List, [], ◌∷◌, refl, sym, ap, ◌∙◌, subst, Option, Some, None}
use Rattle.std.specs.Prelude.{nat_lt, nat_le, max, is_some}
use Rattle.std.specs.Option.{option_map, option_or}
use Rattle.pb_timers.specs.Timers.{Params}
use Rattle.pb_ring.specs.Las.{place_of, skips_of}
use Rattle.pb_cycles.specs.declared.services.Priority.{Priority}
use Rattle.pb_cycles.specs.Fields.{Fields}
use Rattle.pb_cycles.specs.Messages.{has_bit, address_in, reply_octets}
use Rattle.pb_cycles.specs.Requests.{asked_by}
use Rattle.pb_cycles.specs.Tables.{ResponderTable}
use Rattle.pb_cycles.specs.Responding.{same_bit, is_repeat, kept_reply, executed, once, reply_once, service_reply, after_service, reply_to_service, after_asked, reply_to_asked, after_framed, reply_to_framed}
use Rattle.pb_cycles.specs.declared.messages.Message.{Message}
use Rattle.pb_cycles.specs.declared.messages.Message.TheVariants as message
use Rattle.pb_cycles.specs.declared.messages.Reply as messages
use Rattle.pb_cycles.specs.declared.services.Asked.{Asked}
use Rattle.pb_cycles.specs.declared.services.Asked.TheVariants.{Send, Status, Unknown}
use Rattle.pb_cycles.specs.declared.services.Service.{Service}
use Rattle.pb_cycles.specs.declared.services.Service.TheVariants.{Sda, Sdn, Srd}
use Rattle.pb_cycles.specs.declared.responders.Kept.{Kept}
use Rattle.pb_cycles.specs.Initiating.{retry_of, outcome_of}
use Rattle.pb_cycles.specs.Outcomes.{status_reply}
use Rattle.pb_cycles.specs.declared.outcomes.Outcome.{Outcome}
use Rattle.law_turn.specs.Arrivals.{Arrival, Token, Framed, Acknowledgement, NoTelegram, arrival_of}
use Rattle.law_turn.specs.Marks.{Mark, Begin, End, moment_of}
use Rattle.law_turn.specs.Phases.{Phase, Offline, PassiveIdle, Listening, Idle, Claim, Use, AwaitData, AwaitStatus, Pass, Checking, answers_requests, is_offline}
use Rattle.law_turn.specs.Stations.{Station, Reply, timer_of, previous_station}
use Rattle.law_turn.specs.Hearing.{passive, in_ring, tries_limit, not_answered, phase_timed_out, timed_out, after_timer, reply_begun, answer_to, answering, listening_answer, holder_hears, idle_hears, own_token, is_taken_from, foreign_token, with_token, skips_limit, listening_hears, passive_hears, status_told, data_told, awaiting_data_hears, awaiting_status_hears, phase_ended, heard, after_mark}
use Rattle.law_turn.specs.Turns.{after_marks}
use Rattle.law_turn.proofs.Cases.{by_test, by_one_test}
use Rattle.law_turn.proofs.Paths.{at_end}

-- ---- alike

-- none, or both are sent at one moment by a station that joins the ring by both or by none
abbrev pub AlikeReplies : Option Reply → Option Reply → Type 0
AlikeReplies None None = Unit {0}
AlikeReplies None (Some b) = ⊥
AlikeReplies (Some a) None = ⊥
AlikeReplies (Some a) (Some b) = (a.ready ≡ b.ready) × (a.joins ≡ b.joins)

-- the octets of a reply to a service
pub record OfService (octets : List ℕ) : Type 0 where
  pub ts : ℕ
  pub station_type : ℕ
  pub f : Fields
  pub service : Service
  pub priority : Priority
  pub unit : List ℕ
  pub is : octets ≡ reply_octets (service_reply ts station_type f service priority unit)

-- the same octets, or the second ones are of a reply to a service
abbrev pub AlikeOctets : List ℕ → List ℕ → Type 0
AlikeOctets a b = (a ≡ b) ⊎ OfService b

abbrev pub HaveAlikeOctets : Option Reply → Option Reply → Type 0
HaveAlikeOctets None o = Unit {0}
HaveAlikeOctets (Some a) None = Unit {0}
HaveAlikeOctets (Some a) (Some b) = AlikeOctets a.octets b.octets

-- none is kept for repeats, or both are, of one request
abbrev pub AlikeKept : Option Kept → Option Kept → Type 0
AlikeKept None None = Unit {0}
AlikeKept None (Some b) = ⊥
AlikeKept (Some a) None = ⊥
AlikeKept (Some a) (Some b) = (a.requester ≡ b.requester) × (a.bit ≡ b.bit) × AlikeOctets (reply_octets a.reply) (reply_octets b.reply)

pub kept_self : (k : Option Kept) → AlikeKept k k
kept_self None = tt
kept_self (Some a) = (refl, refl, inl refl)

-- Two stations have the replies o and r to send, and keep k and l for repeats. The replies are alike; if K, their octets
-- are too, and what is kept. For any two tables K is ⊥.
pub record Differ (K : Type 0) (o r : Option Reply) (k l : Option Kept) : Type 0 where
  pub replies : AlikeReplies o r
  pub octets : K → HaveAlikeOctets o r
  pub kept : K → AlikeKept k l

-- a station with another table as a responder, and another reply that is not sent yet
abbrev pub with_replies : ResponderTable → Option Reply → Station → Station
with_replies t r s = record s { reply = r; cycles = record s.cycles { responder = t } }

abbrev pub DiffersBy : Type 0 → ResponderTable → Option Reply → Station → Type 0
DiffersBy K t r s = Differ K s.reply r s.cycles.responder.kept t.kept

pub record Alike (K : Type 0) (a b : Station) : Type 0 where
  pub table : ResponderTable
  pub reply : Option Reply
  pub is : b ≡ with_replies table reply a
  pub differ : DiffersBy K table reply a

pub alike_with : (K : Type 0) (t : ResponderTable) (r : Option Reply) (s : Station) → DiffersBy K t r s → Alike K s (with_replies t r s)
alike_with K t r s h = record { table = t; reply = r; is = refl; differ = h }

pub alike_self : (r : Option Reply) → AlikeReplies r r
alike_self None = tt
alike_self (Some a) = (refl, refl)

octets_self : (r : Option Reply) → HaveAlikeOctets r r
octets_self None = tt
octets_self (Some a) = inl refl

-- any tables
pub differ_by_table : (o r : Option Reply) (k l : Option Kept) → AlikeReplies o r → Differ ⊥ o r k l
differ_by_table o r k l h = record { replies = h; octets = λ no. absurd no; kept = λ no. absurd no }

-- tables that keep the same, with one reply
pub differ_by_data : (r : Option Reply) (k : Option Kept) → Differ (Unit {0}) r r k k
differ_by_data r k = record { replies = alike_self r; octets = λ _. octets_self r; kept = λ _. kept_self k }

dropped : (K : Type 0) (o r : Option Reply) (k l : Option Kept) → Differ K o r k l → Differ K None None k l
dropped K o r k l h = record { replies = tt; octets = λ _. tt; kept = h.kept }

-- ---- replies to requests: whether there is one does not depend on the table

abbrev AreBoth : Type 0 → Option messages.Reply → Option messages.Reply → Type 0
AreBoth K None None = Unit {0}
AreBoth K None (Some b) = ⊥
AreBoth K (Some a) None = ⊥
AreBoth K (Some a) (Some b) = K → AlikeOctets (reply_octets a) (reply_octets b)

of_service : (ts station_type : ℕ) (f : Fields) (service : Service) (priority : Priority) (unit : List ℕ) → OfService (reply_octets (service_reply ts station_type f service priority unit))
of_service ts station_type f service priority unit = record { ts = ts; station_type = station_type; f = f; service = service; priority = priority; unit = unit; is = refl }

same_repeat : (f : Fields) (k l : Option Kept) → AlikeKept k l → is_repeat k f ≡ is_repeat l f
same_repeat f None None h = refl
same_repeat f None (Some b) h = absurd h
same_repeat f (Some a) None h = absurd h
same_repeat f (Some a) (Some b) h =
    ap (λ n. has_bit f.fc 4 && (n == address_in f.sa && same_bit a.bit (has_bit f.fc 5))) h.0
    ∙ ap (λ c. has_bit f.fc 4 && (b.requester == address_in f.sa && same_bit c (has_bit f.fc 5))) h.1

apart : (a b : Bool) → a ≡ b → a ≡ true → b ≡ false → ⊥
apart a b same e f = let wrong : true ≡ false = sym e ∙ same ∙ f in cc

both_once : (K : Type 0) (f : Fields) (x y : messages.Reply) → OfService (reply_octets y) → (k l : Option Kept) → (K → AlikeKept k l)
    → AreBoth K (if is_repeat k f then kept_reply k else Some x) (if is_repeat l f then kept_reply l else Some y)
both_once K f x y service None None h = λ _. inr service
both_once K f x y service None (Some b) h =
    by_test (AreBoth K (Some x)) (is_repeat (Some b) f) (Some b.reply) (Some y) (λ _ k. absurd (h k)) (λ _ k. absurd (h k))
both_once K f x y service (Some a) None h =
    by_test (λ o. AreBoth K o (Some y)) (is_repeat (Some a) f) (Some a.reply) (Some x) (λ _ k. absurd (h k)) (λ _ k. absurd (h k))
both_once K f x y service (Some a) (Some b) h =
    by_test (λ o. AreBoth K o (if is_repeat (Some b) f then Some b.reply else Some y)) (is_repeat (Some a) f) (Some a.reply) (Some x)
    (λ e. by_test (AreBoth K (Some a.reply)) (is_repeat (Some b) f) (Some b.reply) (Some y) (λ _ k. (h k).2) (λ g k. absurd (apart (is_repeat (Some a) f) (is_repeat (Some b) f) (same_repeat f (Some a) (Some b) (h k)) e g)))
    (λ e. by_test (AreBoth K (Some x)) (is_repeat (Some b) f) (Some b.reply) (Some y)
    (λ g k. absurd (apart (is_repeat (Some b) f) (is_repeat (Some a) f) (sym (same_repeat f (Some a) (Some b) (h k))) g e)) (λ _ _. inr service))

both_service : (K : Type 0) (t u : ResponderTable) (ts station_type : ℕ) (f : Fields) (service : Service) (priority : Priority) → (K → AlikeKept t.kept u.kept)
    → AreBoth K (reply_to_service t ts station_type f service priority) (reply_to_service u ts station_type f service priority)
both_service K t u ts station_type f Sda priority h =
    by_one_test (AreBoth K) (address_in f.da == ts) (reply_once t f (service_reply ts station_type f Sda priority t.reply)) None (reply_once u f (service_reply ts station_type f Sda priority u.reply)) None
    (λ _. both_once K f (service_reply ts station_type f Sda priority t.reply) (service_reply ts station_type f Sda priority u.reply) (of_service ts station_type f Sda priority u.reply) t.kept u.kept h) (λ _. tt)
both_service K t u ts station_type f Sdn priority h = tt
both_service K t u ts station_type f Srd priority h =
    by_one_test (AreBoth K) (address_in f.da == ts) (reply_once t f (service_reply ts station_type f Srd priority t.reply)) None (reply_once u f (service_reply ts station_type f Srd priority u.reply)) None
    (λ _. both_once K f (service_reply ts station_type f Srd priority t.reply) (service_reply ts station_type f Srd priority u.reply) (of_service ts station_type f Srd priority u.reply) t.kept u.kept h) (λ _. tt)

both_self : (K : Type 0) (o : Option messages.Reply) → AreBoth K o o
both_self K None = tt
both_self K (Some a) = λ _. inl refl

both_asked : (K : Type 0) (t u : ResponderTable) (ts station_type : ℕ) (f : Fields) (what : Asked) → (K → AlikeKept t.kept u.kept)
    → AreBoth K (reply_to_asked t ts station_type f what) (reply_to_asked u ts station_type f what)
both_asked K t u ts station_type f (Send service priority) h = both_service K t u ts station_type f service priority h
both_asked K t u ts station_type f Status h = both_self K (reply_to_asked t ts station_type f Status)
both_asked K t u ts station_type f Unknown h = tt

both_framed : (K : Type 0) (t u : ResponderTable) (ts station_type : ℕ) (f : Fields) → (K → AlikeKept t.kept u.kept) → AreBoth K (reply_to_framed t ts station_type f) (reply_to_framed u ts station_type f)
both_framed K t u ts station_type f h =
    by_one_test (AreBoth K) (has_bit f.fc 6) (reply_to_asked t ts station_type f (asked_by (f.fc % 16))) None (reply_to_asked u ts station_type f (asked_by (f.fc % 16))) None
    (λ _. both_asked K t u ts station_type f (asked_by (f.fc % 16)) h) (λ _. tt)

-- an answer comes before a reply that is not sent yet
or_differ : (K : Type 0) (a b c d : Option Reply) (k l : Option Kept) → AlikeReplies a b → (K → HaveAlikeOctets a b) → Differ K c d k l → Differ K (option_or a c) (option_or b d) k l
or_differ K None None c d k l e g h = h
or_differ K None (Some b) c d k l e g h = absurd e
or_differ K (Some a) None c d k l e g h = absurd e
or_differ K (Some a) (Some b) c d k l e g h = record { replies = e; octets = g; kept = h.kept }

mapped : (K : Type 0) (ready : ℕ) (o q : Option messages.Reply) (c d : Option Reply) (k l : Option Kept) → AreBoth K o q → Differ K c d k l
    → Differ K (option_or (option_map (λ reply. record { ready = ready; octets = reply_octets reply; joins = false }) o) c)
    (option_or (option_map (λ reply. record { ready = ready; octets = reply_octets reply; joins = false }) q) d) k l
mapped K ready None None c d k l both h = h
mapped K ready None (Some b) c d k l both h = absurd both
mapped K ready (Some a) None c d k l both h = absurd both
mapped K ready (Some a) (Some b) c d k l both h = record { replies = (refl, refl); octets = both; kept = h.kept }

-- ---- what is kept after a request

abbrev KeepAlike : ResponderTable → ResponderTable → Type 0
KeepAlike t u = AlikeKept t.kept u.kept

kept_once : (t u : ResponderTable) (f : Fields) (x y : messages.Reply) → OfService (reply_octets y) → KeepAlike t u → KeepAlike (once t f x) (once u f y)
kept_once t u f x y service h =
    subst (λ b. KeepAlike (once t f x) (if b then u else executed u f y)) (same_repeat f t.kept u.kept h)
    (by_one_test KeepAlike (is_repeat t.kept f) t (executed t f x) u (executed u f y) (λ _. h) (λ _. (refl, refl, inr service)))

kept_service : (t u : ResponderTable) (ts station_type : ℕ) (f : Fields) (service : Service) (priority : Priority) → KeepAlike t u → KeepAlike (after_service t ts station_type f service priority) (after_service u ts station_type f service priority)
kept_service t u ts station_type f Sda priority h =
    by_one_test KeepAlike (address_in f.da == ts) _ t _ u
    (λ _. kept_once t u f (service_reply ts station_type f Sda priority t.reply) (service_reply ts station_type f Sda priority u.reply) (of_service ts station_type f Sda priority u.reply) h) (λ _. h)
kept_service t u ts station_type f Sdn priority h = by_one_test KeepAlike (address_in f.da == ts || address_in f.da == 127) _ t _ u (λ _. h) (λ _. h)
kept_service t u ts station_type f Srd priority h =
    by_one_test KeepAlike (address_in f.da == ts) _ t _ u
    (λ _. kept_once t u f (service_reply ts station_type f Srd priority t.reply) (service_reply ts station_type f Srd priority u.reply) (of_service ts station_type f Srd priority u.reply) h) (λ _. h)

kept_asked : (t u : ResponderTable) (ts station_type : ℕ) (f : Fields) (what : Asked) → KeepAlike t u → KeepAlike (after_asked t ts station_type f what) (after_asked u ts station_type f what)
kept_asked t u ts station_type f (Send service priority) h = kept_service t u ts station_type f service priority h
kept_asked t u ts station_type f Status h = h
kept_asked t u ts station_type f Unknown h = h

kept_framed : (t u : ResponderTable) (ts station_type : ℕ) (f : Fields) → KeepAlike t u → KeepAlike (after_framed t ts station_type f) (after_framed u ts station_type f)
kept_framed t u ts station_type f h = by_one_test KeepAlike (has_bit f.fc 6) _ t _ u (λ _. kept_asked t u ts station_type f (asked_by (f.fc % 16)) h) (λ _. h)

answering_alike : (K : Type 0) (t : ResponderTable) (r : Option Reply) (p : Params) (s : Station) (at : ℕ) (f : Fields) (station_type : ℕ) → DiffersBy K t r s
    → Alike K (answering p s at f station_type) (answering p (with_replies t r s) at f station_type)
answering_alike K t r p s at f station_type h =
    let d = mapped K (at + p.tsdr) (reply_to_framed s.cycles.responder s.address station_type f) (reply_to_framed t s.address station_type f) s.reply r s.cycles.responder.kept t.kept
    (both_framed K s.cycles.responder t s.address station_type f h.kept) h in
    record {
      table = after_framed t s.address station_type f;
      reply = option_or (answer_to p (with_replies t r s) at f station_type) r;
      is = refl;
      differ = record { replies = d.replies; octets = d.octets; kept = λ k. kept_framed s.cycles.responder t s.address station_type f (h.kept k) };
    }

-- ---- timers

unanswered : (K : Type 0) (t : ResponderTable) (r : Option Reply) (s : Station) (asked slot : Bool) (ready : ℕ) → DiffersBy K t r s → Alike K (not_answered s asked slot ready) (not_answered (with_replies t r s) asked slot ready)
unanswered K t r s asked slot ready h = by_one_test (Alike K) (is_some (retry_of s.cycles.initiator.pending)) _ _ _ _ (λ _. alike_with K t r _ h) (λ _. alike_with K t r _ h)

phase_timer : (K : Type 0) (t : ResponderTable) (r : Option Reply) (s : Station) (ph : Phase) (m : ℕ) → DiffersBy K t r s → Alike K (phase_timed_out s ph m) (phase_timed_out (with_replies t r s) ph m)
phase_timer K t r s Offline m h = alike_with K t r s h
phase_timer K t r s PassiveIdle m h = alike_with K t r s h
phase_timer K t r s (Listening doubled) m h = alike_with K t None _ (dropped K s.reply r s.cycles.responder.kept t.kept h)
phase_timer K t r s (Idle refused) m h = alike_with K t None _ (dropped K s.reply r s.cycles.responder.kept t.kept h)
phase_timer K t r s (Claim sent ready) m h = alike_with K t r s h
phase_timer K t r s (Use asked ready) m h = alike_with K t r s h
phase_timer K t r s (AwaitData asked retry slot) m h = unanswered K t r s asked false m h
phase_timer K t r s (AwaitStatus of slot) m h = alike_with K t r _ h
phase_timer K t r s (Pass tries ready) m h = alike_with K t r s h
phase_timer K t r s (Checking tries) m h = by_one_test (Alike K) (nat_le tries_limit tries) _ _ _ _ (λ _. alike_with K t r _ h) (λ _. alike_with K t r _ h)

pub timer_alike : (K : Type 0) (t : ResponderTable) (r : Option Reply) (p : Params) (limit : ℕ) (s : Station) → DiffersBy K t r s → Alike K (after_timer p limit s) (after_timer p limit (with_replies t r s))
timer_alike K t r p limit s h = by (timer_of p s)
  where
    by : (o : Option ℕ) → Alike K (timed_out s o limit) (timed_out (with_replies t r s) o limit)
    by None = alike_with K t r s h
    by (Some m) = by_one_test (Alike K) (nat_lt m limit) (phase_timed_out s s.phase m) s (phase_timed_out (with_replies t r s) s.phase m) (with_replies t r s) (λ _. phase_timer K t r s s.phase m h) (λ _. alike_with K t r s h)

-- ---- marks

holder : (K : Type 0) (t : ResponderTable) (r : Option Reply) (s : Station) (a : Arrival) → DiffersBy K t r s → Alike K (holder_hears s a) (holder_hears (with_replies t r s) a)
holder K t r s (Token da sa) h = alike_with K t r _ h
holder K t r s (Framed f) h = alike_with K t r s h
holder K t r s Acknowledgement h = alike_with K t r s h
holder K t r s NoTelegram h = alike_with K t r s h

idle : (K : Type 0) (t : ResponderTable) (r : Option Reply) (p : Params) (s : Station) (refused : Option ℕ) (at : ℕ) (a : Arrival) → DiffersBy K t r s → Alike K (idle_hears p s refused at a) (idle_hears p (with_replies t r s) refused at a)
idle K t r p s refused at (Token da sa) h =
    let x = with_token s da sa in
    by_one_test (Alike K) (da == s.address) (own_token p x (is_taken_from refused (previous_station s) sa) sa at) (foreign_token x) (own_token p (with_replies t r x) (is_taken_from refused (previous_station s) sa) sa at) (foreign_token (with_replies t r x))
    (λ _. by_one_test (Alike K) (is_taken_from refused (previous_station s) sa) _ _ _ _ (λ _. alike_with K t r _ h) (λ _. alike_with K t r _ h))
    (λ _. by_one_test (Alike K) (nat_le skips_limit (skips_of (place_of x.las.stage))) _ _ _ _ (λ _. alike_with K t None _ (dropped K s.reply r s.cycles.responder.kept t.kept h)) (λ _. alike_with K t r _ h))
idle K t r p s refused at (Framed f) h = answering_alike K t r p s at f in_ring h
idle K t r p s refused at Acknowledgement h = alike_with K t r s h
idle K t r p s refused at NoTelegram h = alike_with K t r s h

listens : (K : Type 0) (t : ResponderTable) (r : Option Reply) (p : Params) (s : Station) (doubled : Bool) (at : ℕ) (a : Arrival) → DiffersBy K t r s → Alike K (listening_hears p s doubled at a) (listening_hears p (with_replies t r s) doubled at a)
listens K t r p s doubled at (Token da sa) h = alike_with K t r _ h
listens K t r p s doubled at (Framed f) h =
    let answer = listening_answer p s at f in
    alike_with K t (option_or answer r) _ (or_differ K answer answer s.reply r s.cycles.responder.kept t.kept (alike_self answer) (λ _. octets_self answer) h)
listens K t r p s doubled at Acknowledgement h = alike_with K t r s h
listens K t r p s doubled at NoTelegram h = alike_with K t r s h

passes : (K : Type 0) (t : ResponderTable) (r : Option Reply) (p : Params) (s : Station) (at : ℕ) (a : Arrival) → DiffersBy K t r s → Alike K (passive_hears p s at a) (passive_hears p (with_replies t r s) at a)
passes K t r p s at (Token da sa) h = alike_with K t r s h
passes K t r p s at (Framed f) h = answering_alike K t r p s at f passive h
passes K t r p s at Acknowledgement h = alike_with K t r s h
passes K t r p s at NoTelegram h = alike_with K t r s h

told : (K : Type 0) (t : ResponderTable) (r : Option Reply) (p : Params) (s : Station) (of at : ℕ) (fc : Option ℕ) → DiffersBy K t r s → Alike K (status_told p s of at fc) (status_told p (with_replies t r s) of at fc)
told K t r p s of at None h = alike_with K t r _ h
told K t r p s of at (Some fc) h = alike_with K t r _ h

awaits : (K : Type 0) (t : ResponderTable) (r : Option Reply) (p : Params) (s : Station) (of at : ℕ) (a : Arrival) → DiffersBy K t r s → Alike K (awaiting_status_hears p s of at a) (awaiting_status_hears p (with_replies t r s) of at a)
awaits K t r p s of at (Token da sa) h = alike_with K t r _ h
awaits K t r p s of at (Framed f) h = by_one_test (Alike K) (has_bit f.fc 6) _ _ _ _ (λ _. alike_with K t r _ h) (λ _. told K t r p s of at (status_reply s.address of (message.Framed f)) h)
awaits K t r p s of at Acknowledgement h = told K t r p s of at None h
awaits K t r p s of at NoTelegram h = told K t r p s of at None h

closed : (K : Type 0) (t : ResponderTable) (r : Option Reply) (p : Params) (s : Station) (asked slot : Bool) (at : ℕ) (m : Message) (o : Option Outcome) → DiffersBy K t r s → Alike K (data_told p s asked slot at m o) (data_told p (with_replies t r s) asked slot at m o)
closed K t r p s asked slot at m None h = unanswered K t r s asked slot (max at s.own.end + p.tid1) h
closed K t r p s asked slot at m (Some outcome) h = alike_with K t r _ h

data_alike : (K : Type 0) (t : ResponderTable) (r : Option Reply) (p : Params) (s : Station) (asked slot : Bool) (at : ℕ) (a : Arrival) → DiffersBy K t r s
    → Alike K (awaiting_data_hears p s asked slot at a) (awaiting_data_hears p (with_replies t r s) asked slot at a)
data_alike K t r p s asked slot at (Token da sa) h = alike_with K t r _ h
data_alike K t r p s asked slot at (Framed f) h =
    by_one_test (Alike K) (has_bit f.fc 6) _ _ _ _ (λ _. alike_with K t r _ h) (λ _. closed K t r p s asked slot at (message.Framed f) (outcome_of s.cycles.initiator (Some (message.Framed f))) h)
data_alike K t r p s asked slot at Acknowledgement h = closed K t r p s asked slot at message.Acknowledgement (outcome_of s.cycles.initiator (Some message.Acknowledgement)) h
data_alike K t r p s asked slot at NoTelegram h = unanswered K t r s asked slot (max at s.own.end + p.tid1) h

ends : (K : Type 0) (t : ResponderTable) (r : Option Reply) (p : Params) (s : Station) (ph : Phase) (at : ℕ) (a : Arrival) → DiffersBy K t r s → Alike K (phase_ended p s ph at a) (phase_ended p (with_replies t r s) ph at a)
ends K t r p s Offline at a h = alike_with K t r s h
ends K t r p s PassiveIdle at a h = passes K t r p s at a h
ends K t r p s (Listening doubled) at a h = listens K t r p s doubled at a h
ends K t r p s (Idle refused) at a h = idle K t r p s refused at a h
ends K t r p s (Claim sent ready) at a h = holder K t r s a h
ends K t r p s (Use asked ready) at a h = holder K t r s a h
ends K t r p s (AwaitData asked retry slot) at a h = data_alike K t r p s asked slot at a h
ends K t r p s (AwaitStatus of slot) at a h = awaits K t r p s of at a h
ends K t r p s (Pass tries ready) at a h = holder K t r s a h
ends K t r p s (Checking tries) at a h = holder K t r s a h

hears : (K : Type 0) (t : ResponderTable) (r : Option Reply) (p : Params) (s : Station) (m : Mark) → DiffersBy K t r s → Alike K (heard p s m) (heard p (with_replies t r s) m)
hears K t r p s (Begin at seen) h =
    alike_with K t (reply_begun s.phase r) _ (by_one_test (λ o q. Differ K o q s.cycles.responder.kept t.kept) (answers_requests s.phase) None s.reply None r (λ _. dropped K s.reply r s.cycles.responder.kept t.kept h) (λ _. h))
hears K t r p s (End at seen chars) h = ends K t r p (at_end s at) s.phase at (arrival_of chars) h

mark_alike : (K : Type 0) (t : ResponderTable) (r : Option Reply) (p : Params) (s : Station) (m : Mark) → DiffersBy K t r s → Alike K (after_mark p s m) (after_mark p (with_replies t r s) m)
mark_alike K t r p s m h = by_one_test (Alike K) (is_offline s.phase) s (heard p s m) (with_replies t r s) (heard p (with_replies t r s) m) (λ _. alike_with K t r s h) (λ _. hears K t r p s m h)

pub marks_alike : (K : Type 0) (t : ResponderTable) (r : Option Reply) (p : Params) (s : Station) (ms : List Mark) → DiffersBy K t r s → Alike K (after_marks p s ms) (after_marks p (with_replies t r s) ms)
marks_alike K t r p s [] h = alike_with K t r s h
marks_alike K t r p s (m ∷ ms) h =
    let x = after_timer p (moment_of m) s in
    let a = timer_alike K t r p (moment_of m) s h in
    let b : Alike K (after_mark p x m) (after_mark p (after_timer p (moment_of m) (with_replies t r s)) m) =
    subst (λ z. Alike K (after_mark p x m) (after_mark p z m)) (sym a.is) (mark_alike K a.table a.reply p x m a.differ) in
    subst (λ z. Alike K (after_marks p (after_mark p x m) ms) (after_marks p z ms)) (sym b.is) (marks_alike K b.table b.reply p (after_mark p x m) ms b.differ)

-- What a station of an undisturbed ring becomes by what it hears.
use Rattle.std.proofs.Common.{◌≡◌, ℕ, ◌+◌, ◌⊎◌, inl, inr, ◌≤◌, Bool, true, false, if◌then◌else◌, ◌==◌, ◌&&◌, ◌||◌, List, [], refl, sym, ap, ◌∙◌, subst, Option, Some, None}
use Rattle.std.specs.Prelude.{◌%◌, ◌*◌, map, nat_le, max, min, is_some, IfSome}
use Rattle.std.specs.Option.{option_or, option_map}
use Rattle.std.proofs.lemmas.Bool.{le-ltb, eqb-true, eq-eqb}
use Rattle.pb_telegram.specs.declared.chars.RxChar.{RxChar}
use Rattle.pb_timers.specs.Timers.{Params}
use Rattle.pb_ring.specs.AddressSets.{IsAscending, is_member, is_between, next_address, previous_address}
use Rattle.pb_ring.specs.Las as las
use Rattle.pb_ring.specs.Las.{LasTable, is_retry, corrected, skips_after, stage_heard, place_of, skips_of, members_of}
use Rattle.pb_ring.specs.declared.stages.Stage.{Stage}
use Rattle.pb_ring.specs.declared.stages.Stage.TheVariants.{Complete}
use Rattle.pb_ring.proofs.NeighbourLemmas.{next-is, previous-next}
use Rattle.pb_rotation.specs.Rotation.{received}
use Rattle.pb_cycles.specs.Messages.{has_bit, address_in, reply_octets}
use Rattle.pb_cycles.specs.declared.messages.Message.{Message}
use Rattle.pb_cycles.specs.declared.messages.Message.TheVariants as message
use Rattle.pb_cycles.specs.Initiating.{retry_of, outcome_of}
use Rattle.pb_cycles.specs.Outcomes.{status_reply, is_reply_between, known_control, code_outcome}
use Rattle.pb_cycles.specs.declared.outcomes.Outcome.{Outcome}
use Rattle.pb_cycles.specs.declared.messages.Reply as messages
use Rattle.pb_cycles.specs.declared.services.Asked.{Asked}
use Rattle.pb_cycles.specs.declared.services.Asked.TheVariants.{Send, Status, Unknown}
use Rattle.pb_cycles.specs.declared.services.Service.TheVariants.{Sda, Sdn, Srd}
use Rattle.pb_cycles.specs.Fields.{Fields}
use Rattle.pb_cycles.specs.Requests.{asked_by}
use Rattle.pb_cycles.specs.Responding.{reply_frame, reply_once, service_reply, reply_to_asked}
use Rattle.pb_telegram.specs.Faults.{octets, fault_of}
use Rattle.pb_telegram.specs.declared.faults.TelegramFault.{TelegramFault}
use Rattle.pb_telegram.specs.declared.chars.RxChar.TheVariants.{Good}
use Rattle.law_runs.specs.Initiators.{initiates}
use Rattle.std.proofs.lemmas.Option.{same_Some}
use Rattle.law_turn.specs.Arrivals.{Arrival, Token, Framed, Acknowledgement, NoTelegram, arrival_of, arrival_unless}
use Rattle.law_turn.specs.Marks.{Begin, End}
use Rattle.law_turn.specs.Phases.{Phase, Offline, PassiveIdle, Listening, Idle, Claim, Use, AwaitData, AwaitStatus, Pass, Checking, is_offline, may_initiate}
use Rattle.law_turn.specs.Stations.{Station, Reply, timer_of, phase_timer, previous_station}
use Rattle.law_turn.specs.Hearing.{after_timer, timed_out, phase_timed_out, after_mark, begun, ended, phase_ended, with_token, own_token, is_taken_from, is_offered_again, foreign_token, skips_limit, idle_hears, passive_hears, awaiting_data_hears, awaiting_status_hears, status_told, data_told, not_answered, lost, answer_to, in_ring, passive, tells_ready, cycle_closed, is_status}
use Rattle.law_model.proofs.Cases.{by_test}
use Rattle.law_rings.specs.Ring.{is_answered_by, wants_reply, is_question, brought_by, TakesPart, TellsNotReady, HasAskedFor, IsMember}
use Rattle.law_rings.proofs.RingLists.{keeps-ring}
use Rattle.law_rings.proofs.NoTest.{no_}

-- ---- the list

-- a token that goes round the ring skips no member
not_skipped_by : (members : List ℕ) (ts sa : ℕ) → IsAscending members → is_member members sa ≡ true → is_member members ts ≡ true → skips_after ts 0 sa (next_address sa members) ≡ 0
not_skipped_by members ts sa up from me =
    let da = next_address sa members in
    by_test (λ n. n ≡ 0) (sa == ts || da == ts) 0 (if is_between sa da ts then min 255 1 else 0) (λ _. refl)
    (λ _. ap (λ b. if b then min 255 1 else 0) ((next-is members sa sa up from).nearest ts me))

-- and leaves the table of a member as it is
pub list_heard : (members : List ℕ) (address sa da : ℕ) (table : LasTable) → IsAscending members → is_member members sa ≡ true → da ≡ next_address sa members → IsMember members address table
    → IsMember members address (las.heard table sa da)
list_heard members address sa da table up from next l = record {
  place = record { address = l.place.address; skipped = 0 };
  stage = by_test (λ (z : Stage). z ≡ Complete members (Some (record { address = l.place.address; skipped = 0 }))) (is_retry table.last sa da) table.stage (stage_heard table.stage sa da) (λ _. l.stage ∙ as_before)
      (λ _. ap (λ z. stage_heard z sa da) (l.stage ∙ as_before)
      ∙ ap (λ xs. Complete xs (Some (record { address = l.place.address; skipped = skips_after l.place.address 0 sa da }))) (ap (λ z. corrected members (Some l.place.address) sa z) next ∙ keeps-ring members (Some l.place.address) sa up from)
      ∙ ap (λ n. Complete members (Some (record { address = l.place.address; skipped = n })))
      (ap (λ z. skips_after l.place.address 0 sa z) next ∙ not_skipped_by members l.place.address sa up from (subst (λ a. is_member members a ≡ true) (sym l.own) l.member)));
  own = l.own;
  not_skipped = refl;
  member = l.member;
}
  where
    as_before : Complete members (Some l.place) ≡ Complete members (Some (record { address = l.place.address; skipped = 0 }))
    as_before = ap (λ n. Complete members (Some (record { address = l.place.address; skipped = n }))) l.not_skipped

-- ---- timers

-- a timer that is not over by a moment is not read before it
pub no_timer : (p : Params) (s : Station) (m : ℕ) → IfSome (timer_of p s) (λ t. m ≤ t) → after_timer p m s ≡ s
no_timer p s m late = by (timer_of p s) late
  where
    by : (o : Option ℕ) → IfSome o (λ t. m ≤ t) → timed_out s o m ≡ s
    by None h = refl
    by (Some t) h = ap (λ b. if b then phase_timed_out s s.phase t else s) (le-ltb t m h)

-- ---- marks

-- a station that is not offline begins to hear
pub begin_mark : (p : Params) (s : Station) (m seen : ℕ) → is_offline s.phase ≡ false → IfSome (timer_of p s) (λ t. m ≤ t) → after_mark p (after_timer p m s) (Begin m seen) ≡ begun s m
begin_mark p s m seen on late = ap (λ z. after_mark p z (Begin m seen)) (no_timer p s m late) ∙ ap (λ b. if b then s else begun s m) on

-- a busy one hears the end
pub end_mark : (p : Params) (s : Station) (limit m seen : ℕ) (chars : List RxChar) → is_offline s.phase ≡ false → s.busy ≡ true → after_mark p (after_timer p limit s) (End m seen chars) ≡ ended p s m (arrival_of chars)
end_mark p s limit m seen chars on busy =
    ap (λ z. after_mark p (timed_out s z limit) (End m seen chars)) (ap (λ b. if b then None else phase_timer p s s.phase) busy) ∙ ap (λ b. if b then s else ended p s m (arrival_of chars)) on

-- ---- an answer

-- what a reply to a request is
pub record IsAnswer (p : Params) (address at : ℕ) (f : Fields) (r : Reply) : Type 0 where
  pub wanted : wants_reply (Framed f) ≡ true
  pub to_it : address_in f.da ≡ address
  pub ready : r.ready ≡ at + p.tsdr
  pub told : is_question (Framed f) ≡ true → TellsNotReady (brought_by r.octets)

-- a station that is not ready for the ring, but passive or in it
abbrev pub IsType : ℕ → Type 0
IsType station_type = (station_type ≡ passive) ⊎ (station_type ≡ in_ring)

-- the reply to a question for the status
status_tells : (station_type address : ℕ) (f : Fields) → IsType station_type → TellsNotReady (brought_by (reply_octets (reply_frame address station_type f 0 [])))
status_tells station_type address f is = by (fault_of (map Good xs)) is
  where
    xs : List ℕ
    xs = reply_octets (reply_frame address station_type f 0 [])

    by : (o : Option TelegramFault) → IsType station_type → TellsNotReady (arrival_unless o (octets (map Good xs)))
    by (Some fault) h = tt
    by None (inl e) = ap (λ n. tells_ready (16 * n + 0)) e
    by None (inr e) = ap (λ n. tells_ready (16 * n + 0)) e

-- a reply comes by the service that was asked for
pub answers : (p : Params) (s : Station) (at : ℕ) (f : Fields) (station_type : ℕ) (r : Reply) → IsType station_type → answer_to p s at f station_type ≡ Some r → IsAnswer p s.address at f r
answers p s at f station_type r is e = by_bit (has_bit f.fc 6) refl
  where
    made : messages.Reply → Reply
    made reply = record { ready = at + p.tsdr; octets = reply_octets reply; joins = false }

    none : option_map made None ≡ Some r → IsAnswer p s.address at f r
    none h = absurd cc

    -- a reply that was made
    some : (a : Asked) → asked_by (f.fc % 16) ≡ a → has_bit f.fc 6 ≡ true → is_answered_by a ≡ true → (o : Option messages.Reply) → (is_status a ≡ true → IfSome o (λ x. TellsNotReady (brought_by (reply_octets x))))
        → option_map made (if address_in f.da == s.address then o else None) ≡ Some r → IsAnswer p s.address at f r
    some a asked bit answered o told h = by_me (address_in f.da == s.address) refl o told h
      where
        by_me : (b : Bool) → (address_in f.da == s.address) ≡ b → (o : Option messages.Reply) → (is_status a ≡ true → IfSome o (λ x. TellsNotReady (brought_by (reply_octets x))))
            → option_map made (if b then o else None) ≡ Some r → IsAnswer p s.address at f r
        by_me false q o told h = none h
        by_me true q None told h = none h
        by_me true q (Some x) told h =
            let same : made x ≡ r = same_Some (made x) r h in
            record {
              wanted = ap (λ b. b && is_answered_by (asked_by (f.fc % 16))) bit ∙ ap is_answered_by asked ∙ answered;
              to_it = eqb-true (address_in f.da) s.address q;
              ready = ap (λ (z : Reply). z.ready) (sym same);
              told = λ question.
                  let status : is_status a ≡ true = ap is_status (sym asked) ∙ subst (λ b. (b && is_status (asked_by (f.fc % 16))) ≡ true) bit question in
                  subst (λ (z : Reply). TellsNotReady (brought_by z.octets)) same (told status);
            }

    by_asked : (a : Asked) → asked_by (f.fc % 16) ≡ a → has_bit f.fc 6 ≡ true → option_map made (reply_to_asked s.cycles.responder s.address station_type f a) ≡ Some r → IsAnswer p s.address at f r
    by_asked (Send Sda high) asked bit h = some (Send Sda high) asked bit refl (reply_once s.cycles.responder f (service_reply s.address station_type f Sda high s.cycles.responder.reply)) (λ q. no_ q) h
    by_asked (Send Sdn high) asked bit h = none h
    by_asked (Send Srd high) asked bit h = some (Send Srd high) asked bit refl (reply_once s.cycles.responder f (service_reply s.address station_type f Srd high s.cycles.responder.reply)) (λ q. no_ q) h
    by_asked Status asked bit h = some Status asked bit refl (Some (reply_frame s.address station_type f 0 [])) (λ _. status_tells station_type s.address f is) h
    by_asked Unknown asked bit h = none h

    by_bit : (b : Bool) → has_bit f.fc 6 ≡ b → IsAnswer p s.address at f r
    by_bit true bit = by_asked (asked_by (f.fc % 16)) refl bit (ap (λ b. option_map made (if b then reply_to_asked s.cycles.responder s.address station_type f (asked_by (f.fc % 16)) else None)) (sym bit) ∙ e)
    by_bit false bit = none (ap (λ b. option_map made (if b then reply_to_asked s.cycles.responder s.address station_type f (asked_by (f.fc % 16)) else None)) (sym bit) ∙ e)

-- ---- an End

-- what may end at a station of an undisturbed ring: a token goes round the ring; who waits for a reply hears no
-- initiator telegram, nor a status that tells that its sender is ready
pub record MayEnd (members : List ℕ) (ph : Phase) (a : Arrival) : Type 0 where
  pub token : (da sa : ℕ) → a ≡ Token da sa → (is_member members sa ≡ true) × (da ≡ next_address sa members)
  pub reply : may_initiate ph ≡ true → initiates a ≡ false
  pub status : (of : ℕ) (slot : Bool) → ph ≡ AwaitStatus of slot → TellsNotReady a

-- what a station becomes by an End: it takes a token to it; it stays as it is; it makes an answer; or it goes on as a
-- holder
pub data EndsAs (p : Params) (s : Station) (at : ℕ) (a : Arrival) (s' : Station) : Type 0 where
  Takes : (da sa : ℕ) → a ≡ Token da sa → da ≡ s.address → s'.phase ≡ Use false (at + p.tid1) → s'.rotation ≡ received s.rotation at → s'.reply ≡ s.reply → EndsAs p s at a s'
  Stays : s'.phase ≡ s.phase → s'.rotation ≡ s.rotation → s'.reply ≡ s.reply → (TakesPart s.phase → (da sa : ℕ) → a ≡ Token da sa → da ≡ s.address → ⊥) → may_initiate s.phase ≡ false → EndsAs p s at a s'
  Makes : (f : Fields) → a ≡ Framed f → (station_type : ℕ) → IsType station_type → s'.phase ≡ s.phase → s'.rotation ≡ s.rotation → s'.reply ≡ option_or (answer_to p s at f station_type) s.reply → may_initiate s.phase ≡ false → EndsAs p s at a s'
  GoesOn : may_initiate s.phase ≡ true → may_initiate s'.phase ≡ true → TakesPart s'.phase → ((q : Bool) → HasAskedFor s'.phase q) → s'.rotation ≡ s.rotation → s'.reply ≡ s.reply → EndsAs p s at a s'

-- an acknowledgement is no token
ack_no_token : (da sa : ℕ) → Acknowledgement ≡ Token da sa → ⊥
ack_no_token da sa e = cc

-- nor is what is no telegram
nothing_no_token : (da sa : ℕ) → NoTelegram ≡ Token da sa → ⊥
nothing_no_token da sa e = cc

-- a passive station
pub passive_ends : (p : Params) (s : Station) (at : ℕ) (a : Arrival) → s.phase ≡ PassiveIdle → EndsAs p s at a (passive_hears p (record s { busy = false; quiet = max s.quiet at }) at a)
passive_ends p s at (Token da sa) e = Stays refl refl refl (λ part. absurd (subst TakesPart e part)) (ap may_initiate e)
passive_ends p s at (Framed f) e = Makes f refl passive (inl refl) refl refl refl (ap may_initiate e)
passive_ends p s at Acknowledgement e = Stays refl refl refl (λ part. absurd (subst TakesPart e part)) (ap may_initiate e)
passive_ends p s at NoTelegram e = Stays refl refl refl (λ part. absurd (subst TakesPart e part)) (ap may_initiate e)

-- ---- a station without the token

-- it becomes something with the same members
pub record EndsWith (members : List ℕ) (p : Params) (s : Station) (at : ℕ) (a : Arrival) (s' : Station) : Type 0 where
  pub how : EndsAs p s at a s'
  pub lists : IsMember members s.address s'.las
  pub part : TakesPart s'.phase

-- the source of a token that goes round the ring to a station is the previous one
from_previous : (members : List ℕ) (s : Station) (refused : Option ℕ) (da sa : ℕ) → IsAscending members → is_member members sa ≡ true → da ≡ next_address sa members → da ≡ s.address → IsMember members s.address s.las
    → is_taken_from refused (previous_station s) sa ≡ true
from_previous members s refused da sa up from next mine l =
    let previous : previous_station s ≡ sa = ap (λ z. previous_address s.address (members_of z)) l.stage ∙ ap (λ z. previous_address z members) (sym mine ∙ next) ∙ previous-next members sa up from in
    ap (λ b. b || is_offered_again refused sa) (eq-eqb sa (previous_station s) (sym previous))

-- an idle station hears a telegram
idle_ends : (p : Params) (members : List ℕ) (s : Station) (refused : Option ℕ) (at : ℕ) (a : Arrival) → IsAscending members → s.phase ≡ Idle refused → MayEnd members s.phase a → IsMember members s.address s.las
    → EndsWith members p s at a (idle_hears p (record s { busy = false; quiet = max s.quiet at }) refused at a)
idle_ends p members s refused at (Token da sa) up e may l = by (da == s.address) refl
  where
    y : Station
    y = record s { busy = false; quiet = max s.quiet at }

    z : Station
    z = with_token y da sa

    round : (is_member members sa ≡ true) × (da ≡ next_address sa members)
    round = may.token da sa refl

    heard : IsMember members s.address z.las
    heard = list_heard members s.address sa da s.las up round.0 round.1 l

    by : (b : Bool) → (da == s.address) ≡ b → EndsWith members p s at (Token da sa) (if b then own_token p z (is_taken_from refused (previous_station y) sa) sa at else foreign_token z)
    by true mine = subst (λ b. EndsWith members p s at (Token da sa) (own_token p z b sa at)) (sym (from_previous members y refused da sa up round.0 round.1 (eqb-true da s.address mine) l))
        (record { how = Takes da sa refl (eqb-true da s.address mine) refl refl refl; lists = heard; part = tt })
    by false other =
        let none : nat_le skips_limit (skips_of (place_of z.las.stage)) ≡ false = ap (λ q. nat_le skips_limit (skips_of (place_of q))) heard.stage ∙ ap (nat_le skips_limit) heard.not_skipped in
        subst (λ b. EndsWith members p s at (Token da sa) (if b then record z { phase = Listening false; las = las.listening; reply = None } else z)) (sym none)
        (record {
          how = Stays refl refl refl (λ _ da' sa' same mine. let d : da ≡ da' = cc in let t : true ≡ false = sym (eq-eqb da s.address (d ∙ mine)) ∙ other in no_ (sym t)) (ap may_initiate e);
          lists = heard;
          part = subst TakesPart (sym e) tt;
        })
idle_ends p members s refused at (Framed f) up e may l = record { how = Makes f refl in_ring (inr refl) refl refl refl (ap may_initiate e); lists = l; part = subst TakesPart (sym e) tt }
idle_ends p members s refused at Acknowledgement up e may l = record { how = Stays refl refl refl (λ _ da sa same. absurd (ack_no_token da sa same)) (ap may_initiate e); lists = l; part = subst TakesPart (sym e) tt }
idle_ends p members s refused at NoTelegram up e may l = record { how = Stays refl refl refl (λ _ da sa same. absurd (nothing_no_token da sa same)) (ap may_initiate e); lists = l; part = subst TakesPart (sym e) tt }

-- ---- a station that waits for a reply

-- a holder that goes on
goes_on : (members : List ℕ) (p : Params) (s : Station) (at : ℕ) (a : Arrival) (s' : Station) → may_initiate s.phase ≡ true → may_initiate s'.phase ≡ true → TakesPart s'.phase → ((q : Bool) → HasAskedFor s'.phase q)
    → s'.rotation ≡ s.rotation → s'.reply ≡ s.reply → IsMember members s.address s'.las → EndsWith members p s at a s'
goes_on members p s at a s' may may' part asked rotation reply l = record { how = GoesOn may may' part asked rotation reply; lists = l; part = part }

-- a holder hears no answer
not_answered_ends : (members : List ℕ) (p : Params) (s y : Station) (asked slot : Bool) (ready at : ℕ) (a : Arrival) → may_initiate s.phase ≡ true → y.rotation ≡ s.rotation → y.reply ≡ s.reply → IsMember members s.address y.las
    → EndsWith members p s at a (not_answered y asked slot ready)
not_answered_ends members p s y asked slot ready at a may rotation reply l =
    by_test (EndsWith members p s at a) (is_some (retry_of y.cycles.initiator.pending)) (record y { phase = AwaitData asked (Some ready) slot }) (record y { phase = Use asked ready; cycles = cycle_closed y.cycles None })
    (λ _. goes_on members p s at a (record y { phase = AwaitData asked (Some ready) slot }) may refl tt (λ _. tt) rotation reply l)
    (λ _. goes_on members p s at a (record y { phase = Use asked ready; cycles = cycle_closed y.cycles None }) may refl tt (λ _. tt) rotation reply l)

-- it hears one
told_ends : (members : List ℕ) (p : Params) (s y : Station) (asked slot : Bool) (at : ℕ) (a : Arrival) (m : Message) (o : Option Outcome) → may_initiate s.phase ≡ true → y.rotation ≡ s.rotation → y.reply ≡ s.reply → IsMember members s.address y.las
    → EndsWith members p s at a (data_told p y asked slot at m o)
told_ends members p s y asked slot at a m (Some outcome) may rotation reply l = goes_on members p s at a (data_told p y asked slot at m (Some outcome)) may refl tt (λ _. tt) rotation reply l
told_ends members p s y asked slot at a m None may rotation reply l = not_answered_ends members p s y asked slot (max at y.own.end + p.tid1) at a may rotation reply l

-- one that waits for data
data_ends : (p : Params) (members : List ℕ) (s : Station) (asked : Bool) (retry : Option ℕ) (slot : Bool) (at : ℕ) (a : Arrival) → s.phase ≡ AwaitData asked retry slot → MayEnd members s.phase a → IsMember members s.address s.las
    → EndsWith members p s at a (awaiting_data_hears p (record s { busy = false; quiet = max s.quiet at }) asked slot at a)
data_ends p members s asked retry slot at a e may l = by a may
  where
    y : Station
    y = record s { busy = false; quiet = max s.quiet at }

    init : may_initiate s.phase ≡ true
    init = ap may_initiate e

    by : (a : Arrival) → MayEnd members s.phase a → EndsWith members p s at a (awaiting_data_hears p y asked slot at a)
    by (Token da sa) may = no_ (sym (may.reply init))
    by (Framed f) may = subst (λ b. EndsWith members p s at (Framed f) (if b then lost y else data_told p y asked slot at (message.Framed f) (outcome_of y.cycles.initiator (Some (message.Framed f))))) (sym (may.reply init))
        (told_ends members p s y asked slot at (Framed f) (message.Framed f) (outcome_of y.cycles.initiator (Some (message.Framed f))) init refl refl l)
    by Acknowledgement may = told_ends members p s y asked slot at Acknowledgement message.Acknowledgement (outcome_of y.cycles.initiator (Some message.Acknowledgement)) init refl refl l
    by NoTelegram may = not_answered_ends members p s y asked slot (max at y.own.end + p.tid1) at NoTelegram init refl refl l

-- one that waits for a status
status_ends : (p : Params) (members : List ℕ) (s : Station) (of : ℕ) (slot : Bool) (at : ℕ) (a : Arrival) → s.phase ≡ AwaitStatus of slot → MayEnd members s.phase a → IsMember members s.address s.las
    → EndsWith members p s at a (awaiting_status_hears p (record s { busy = false; quiet = max s.quiet at }) of at a)
status_ends p members s of slot at a e may l = by a may
  where
    y : Station
    y = record s { busy = false; quiet = max s.quiet at }

    init : may_initiate s.phase ≡ true
    init = ap may_initiate e

    told : (a : Arrival) (o : Option ℕ) → IfSome o (λ fc. tells_ready fc ≡ false) → EndsWith members p s at a (status_told p y of at o)
    told a None h = goes_on members p s at a (status_told p y of at None) init refl tt (λ _. tt) refl refl l
    told a (Some fc) h = goes_on members p s at a (status_told p y of at (Some fc)) init refl tt (λ _. tt) refl refl
        (subst (λ b. IsMember members s.address (if b then las.entered s.las of else s.las)) (sym h) l)

    control : (f : Fields) → tells_ready f.fc ≡ false → (o : Option Outcome) → IfSome (known_control f.fc o) (λ fc. tells_ready fc ≡ false)
    control f h None = tt
    control f h (Some outcome) = h

    by : (a : Arrival) → MayEnd members s.phase a → EndsWith members p s at a (awaiting_status_hears p y of at a)
    by (Token da sa) may = no_ (sym (may.reply init))
    by (Framed f) may = subst (λ b. EndsWith members p s at (Framed f) (if b then lost y else status_told p y of at (status_reply y.address of (message.Framed f)))) (sym (may.reply init))
        (told (Framed f) (status_reply y.address of (message.Framed f))
        (by_test (λ o. IfSome o (λ fc. tells_ready fc ≡ false)) (is_reply_between y.address of f) (known_control f.fc (code_outcome (f.fc % 16) f.unit)) None
        (λ _. control f (may.status of slot e) (code_outcome (f.fc % 16) f.unit)) (λ _. tt)))
    by Acknowledgement may = told Acknowledgement None tt
    by NoTelegram may = told NoTelegram None tt

-- ---- in each phase

-- a phase in which a station hears the end of something
abbrev pub IsHearing : Phase → Type 0
IsHearing Offline = ⊥
IsHearing PassiveIdle = ⊥
IsHearing (Listening doubled) = ⊥
IsHearing (Idle refused) = Unit {0}
IsHearing (Claim sent ready) = ⊥
IsHearing (Use asked ready) = ⊥
IsHearing (AwaitData asked retry slot) = Unit {0}
IsHearing (AwaitStatus of slot) = Unit {0}
IsHearing (Pass tries ready) = ⊥
IsHearing (Checking tries) = ⊥

-- each phase
pub ring_ends : (p : Params) (members : List ℕ) (s : Station) (at : ℕ) (a : Arrival) → IsAscending members → IsHearing s.phase → MayEnd members s.phase a → IsMember members s.address s.las → EndsWith members p s at a (ended p s at a)
ring_ends p members s at a up hears may l = by s.phase refl hears
  where
    y : Station
    y = record s { busy = false; quiet = max s.quiet at }

    by : (ph : Phase) → s.phase ≡ ph → IsHearing ph → EndsWith members p s at a (phase_ended p y ph at a)
    by Offline e h = absurd h
    by PassiveIdle e h = absurd h
    by (Listening doubled) e h = absurd h
    by (Idle refused) e h = idle_ends p members s refused at a up e may l
    by (Claim sent ready) e h = absurd h
    by (Use asked ready) e h = absurd h
    by (AwaitData asked retry slot) e h = data_ends p members s asked retry slot at a e may l
    by (AwaitStatus of slot) e h = status_ends p members s of slot at a e may l
    by (Pass tries ready) e h = absurd h
    by (Checking tries) e h = absurd h

-- A request that waits changes nothing of what a station makes of timers and marks.
use Rattle.std.proofs.Common.{◌≡◌, ℕ, ◌+◌, Bool, false, ◌==◌, List, [], ◌∷◌, refl, sym, ap, ◌∙◌, subst, Option, Some, None}
use Rattle.std.specs.Prelude.{nat_lt, nat_le, max, is_some}
use Rattle.pb_timers.specs.Timers.{Params}
use Rattle.pb_ring.specs.Las.{place_of, skips_of}
use Rattle.pb_cycles.specs.Messages.{has_bit}
use Rattle.pb_cycles.specs.Queued.{Queued}
use Rattle.pb_cycles.specs.RequestFields.{RequestFields}
use Rattle.pb_cycles.specs.declared.messages.Message.{Message}
use Rattle.pb_cycles.specs.declared.messages.Message.TheVariants as message
use Rattle.pb_cycles.specs.Initiating.{retry_of, outcome_of}
use Rattle.pb_cycles.specs.Outcomes.{status_reply}
use Rattle.pb_cycles.specs.declared.outcomes.Outcome.{Outcome}
use Rattle.law_turn.specs.Arrivals.{Arrival, Token, Framed, Acknowledgement, NoTelegram, arrival_of}
use Rattle.law_turn.specs.Laws.{IsSilentWhileBusy}
use Rattle.law_turn.specs.Marks.{Mark, Begin, End, moment_of}
use Rattle.law_turn.specs.Phases.{Phase, Offline, PassiveIdle, Listening, Idle, Claim, Use, AwaitData, AwaitStatus, Pass, Checking, is_offline}
use Rattle.law_turn.specs.Stations.{Station, timer_of, previous_station, queued, pushed}
use Rattle.law_turn.specs.Hearing.{tries_limit, not_answered, phase_timed_out, timed_out, after_timer, holder_hears, idle_hears, own_token, is_taken_from, foreign_token, with_token, skips_limit, listening_hears, passive_hears, status_told, data_told, awaiting_data_hears, awaiting_status_hears, phase_ended, heard, after_mark}
use Rattle.law_turn.specs.Turns.{after_marks}
use Rattle.law_turn.proofs.Cases.{by_one_test}
use Rattle.law_turn.proofs.Paths.{at_end}
use Rattle.law_model.specs.Trace.{Record, Entry}
use Rattle.law_model.specs.Medium.{Tap}
use Rattle.law_token.specs.Views.{KnowsIn, ViewOf, place, TapHolds}

-- a station with other waiting requests
abbrev with_queue : Queued → Station → Station
with_queue q s = record s { cycles = record s.cycles { queue = q } }

abbrev Alters : Queued → Station → Station → Type 0
Alters q a b = a ≡ with_queue q b

unanswered : (q : Queued) (s : Station) (asked slot : Bool) (ready : ℕ) → Alters q (not_answered (with_queue q s) asked slot ready) (not_answered s asked slot ready)
unanswered q s asked slot ready = by_one_test (Alters q) (is_some (retry_of s.cycles.initiator.pending)) _ _ _ _ (λ _. refl) (λ _. refl)

phase_timer_queue : (q : Queued) (s : Station) (ph : Phase) (t : ℕ) → Alters q (phase_timed_out (with_queue q s) ph t) (phase_timed_out s ph t)
phase_timer_queue q s Offline t = refl
phase_timer_queue q s PassiveIdle t = refl
phase_timer_queue q s (Listening doubled) t = refl
phase_timer_queue q s (Idle refused) t = refl
phase_timer_queue q s (Claim sent ready) t = refl
phase_timer_queue q s (Use asked ready) t = refl
phase_timer_queue q s (AwaitData asked retry slot) t = unanswered q s asked false t
phase_timer_queue q s (AwaitStatus of slot) t = refl
phase_timer_queue q s (Pass tries ready) t = refl
phase_timer_queue q s (Checking tries) t = by_one_test (Alters q) (nat_le tries_limit tries) _ _ _ _ (λ _. refl) (λ _. refl)

timed_queue : (q : Queued) (s : Station) (o : Option ℕ) (limit : ℕ) → Alters q (timed_out (with_queue q s) o limit) (timed_out s o limit)
timed_queue q s None limit = refl
timed_queue q s (Some t) limit = by_one_test (Alters q) (nat_lt t limit) (phase_timed_out (with_queue q s) s.phase t) (with_queue q s) (phase_timed_out s s.phase t) s (λ _. phase_timer_queue q s s.phase t) (λ _. refl)

holder_queue : (q : Queued) (s : Station) (a : Arrival) → Alters q (holder_hears (with_queue q s) a) (holder_hears s a)
holder_queue q s (Token da sa) = refl
holder_queue q s (Framed f) = refl
holder_queue q s Acknowledgement = refl
holder_queue q s NoTelegram = refl

idle_queue : (q : Queued) (p : Params) (s : Station) (refused : Option ℕ) (at : ℕ) (a : Arrival) → Alters q (idle_hears p (with_queue q s) refused at a) (idle_hears p s refused at a)
idle_queue q p s refused at (Token da sa) =
    let x = with_token s da sa in
    by_one_test (Alters q) (da == s.address) (own_token p (with_queue q x) (is_taken_from refused (previous_station s) sa) sa at) (foreign_token (with_queue q x)) (own_token p x (is_taken_from refused (previous_station s) sa) sa at) (foreign_token x)
    (λ _. by_one_test (Alters q) (is_taken_from refused (previous_station s) sa) _ _ _ _ (λ _. refl) (λ _. refl))
    (λ _. by_one_test (Alters q) (nat_le skips_limit (skips_of (place_of x.las.stage))) _ _ _ _ (λ _. refl) (λ _. refl))
idle_queue q p s refused at (Framed f) = refl
idle_queue q p s refused at Acknowledgement = refl
idle_queue q p s refused at NoTelegram = refl

listening_queue : (q : Queued) (p : Params) (s : Station) (doubled : Bool) (at : ℕ) (a : Arrival) → Alters q (listening_hears p (with_queue q s) doubled at a) (listening_hears p s doubled at a)
listening_queue q p s doubled at (Token da sa) = refl
listening_queue q p s doubled at (Framed f) = refl
listening_queue q p s doubled at Acknowledgement = refl
listening_queue q p s doubled at NoTelegram = refl

passive_queue : (q : Queued) (p : Params) (s : Station) (at : ℕ) (a : Arrival) → Alters q (passive_hears p (with_queue q s) at a) (passive_hears p s at a)
passive_queue q p s at (Token da sa) = refl
passive_queue q p s at (Framed f) = refl
passive_queue q p s at Acknowledgement = refl
passive_queue q p s at NoTelegram = refl

told_queue : (q : Queued) (p : Params) (s : Station) (of at : ℕ) (fc : Option ℕ) → Alters q (status_told p (with_queue q s) of at fc) (status_told p s of at fc)
told_queue q p s of at None = refl
told_queue q p s of at (Some fc) = refl

status_queue : (q : Queued) (p : Params) (s : Station) (of at : ℕ) (a : Arrival) → Alters q (awaiting_status_hears p (with_queue q s) of at a) (awaiting_status_hears p s of at a)
status_queue q p s of at (Token da sa) = refl
status_queue q p s of at (Framed f) = by_one_test (Alters q) (has_bit f.fc 6) _ _ _ _ (λ _. refl) (λ _. told_queue q p s of at (status_reply s.address of (message.Framed f)))
status_queue q p s of at Acknowledgement = refl
status_queue q p s of at NoTelegram = refl

outcome_queue : (q : Queued) (p : Params) (s : Station) (asked slot : Bool) (at : ℕ) (m : Message) (o : Option Outcome) → Alters q (data_told p (with_queue q s) asked slot at m o) (data_told p s asked slot at m o)
outcome_queue q p s asked slot at m None = unanswered q s asked slot (max at s.own.end + p.tid1)
outcome_queue q p s asked slot at m (Some outcome) = refl

data_queue : (q : Queued) (p : Params) (s : Station) (asked slot : Bool) (at : ℕ) (a : Arrival) → Alters q (awaiting_data_hears p (with_queue q s) asked slot at a) (awaiting_data_hears p s asked slot at a)
data_queue q p s asked slot at (Token da sa) = refl
data_queue q p s asked slot at (Framed f) = by_one_test (Alters q) (has_bit f.fc 6) _ _ _ _ (λ _. refl) (λ _. outcome_queue q p s asked slot at (message.Framed f) (outcome_of s.cycles.initiator (Some (message.Framed f))))
data_queue q p s asked slot at Acknowledgement = outcome_queue q p s asked slot at message.Acknowledgement (outcome_of s.cycles.initiator (Some message.Acknowledgement))
data_queue q p s asked slot at NoTelegram = unanswered q s asked slot (max at s.own.end + p.tid1)

ended_queue : (q : Queued) (p : Params) (s : Station) (ph : Phase) (at : ℕ) (a : Arrival) → Alters q (phase_ended p (with_queue q s) ph at a) (phase_ended p s ph at a)
ended_queue q p s Offline at a = refl
ended_queue q p s PassiveIdle at a = passive_queue q p s at a
ended_queue q p s (Listening doubled) at a = listening_queue q p s doubled at a
ended_queue q p s (Idle refused) at a = idle_queue q p s refused at a
ended_queue q p s (Claim sent ready) at a = holder_queue q s a
ended_queue q p s (Use asked ready) at a = holder_queue q s a
ended_queue q p s (AwaitData asked retry slot) at a = data_queue q p s asked slot at a
ended_queue q p s (AwaitStatus of slot) at a = status_queue q p s of at a
ended_queue q p s (Pass tries ready) at a = holder_queue q s a
ended_queue q p s (Checking tries) at a = holder_queue q s a

heard_queue : (q : Queued) (p : Params) (s : Station) (m : Mark) → Alters q (heard p (with_queue q s) m) (heard p s m)
heard_queue q p s (Begin at seen) = refl
heard_queue q p s (End at seen chars) = ended_queue q p (at_end s at) s.phase at (arrival_of chars)

mark_queue : (q : Queued) (p : Params) (s : Station) (m : Mark) → Alters q (after_mark p (with_queue q s) m) (after_mark p s m)
mark_queue q p s m = by_one_test (Alters q) (is_offline s.phase) (with_queue q s) (heard p (with_queue q s) m) s (heard p s m) (λ _. refl) (λ _. heard_queue q p s m)

pub marks_queue : (q : Queued) (p : Params) (s : Station) (ms : List Mark) → Alters q (after_marks p (with_queue q s) ms) (after_marks p s ms)
marks_queue q p s [] = refl
marks_queue q p s (m ∷ ms) =
    ap (λ z. after_marks p (after_mark p z m) ms) (timed_queue q s (timer_of p s) (moment_of m)) ∙ ap (λ z. after_marks p z ms) (mark_queue q p (after_timer p (moment_of m) s) m)
    ∙ marks_queue q p (after_mark p (after_timer p (moment_of m) s) m) ms

-- a request is taken by a running tap
pub queue_tap : (p : Params) (now : ℕ) (trace : List Entry) (last : Option Record) (k : ℕ) (t : Tap) (r : RequestFields) → TapHolds p now trace last k t → TapHolds p now trace last k (record t { station = pushed t.station r })
queue_tap p now trace last k t r o =
    let c = place p now k t in
    let q = queued t.station.cycles.queue r in
    let e = marks_queue q p t.station t.marks in
    record {
      began = o.began;
      address = o.address;
      in_time = o.in_time;
      seen = o.seen;
      knows = subst (λ z. KnowsIn c trace z.phase z.busy z.quiet z.own) (sym e) o.knows;
      view_ok = subst (λ z. ViewOf c trace last z.phase z.busy z.quiet z.own z.reply) (sym e) o.view_ok;
      grip = o.grip;
      silent = subst (λ z. IsSilentWhileBusy z) (sym e) (record { silent = o.silent.silent; in_place = o.silent.in_place });
    }

-- A station that is busy says nothing.
use Rattle.std.proofs.Common.{◌≡◌, ◌∙◌, ℕ, ◌+◌, ◌==◌, List, [], ◌∷◌, Bool, true, false, if◌then◌else◌, refl, ap, sym, subst, Option, Some, None}
use Rattle.std.specs.Prelude.{is_some, nat_le, nat_lt, max}
use Rattle.pb_telegram.specs.declared.chars.RxChar.{RxChar}
use Rattle.pb_timers.specs.Timers.{Params}
use Rattle.pb_ring.specs.Gap.{next_asked, last_asked, round_after}
use Rattle.pb_ring.specs.Las.{place_of, skips_of}
use Rattle.pb_cycles.specs.Messages.{has_bit}
use Rattle.pb_cycles.specs.Fields.{Fields}
use Rattle.pb_cycles.specs.RequestFields.{RequestFields}
use Rattle.pb_cycles.specs.Requests.{is_answered}
use Rattle.pb_cycles.specs.declared.messages.Message.{Message}
use Rattle.pb_cycles.specs.declared.messages.Message.TheVariants as message
use Rattle.pb_cycles.specs.Initiating.{retry_of, outcome_of}
use Rattle.pb_cycles.specs.Outcomes.{status_reply}
use Rattle.pb_cycles.specs.declared.outcomes.Outcome.{Outcome}
use Rattle.law_turn.specs.Arrivals.{Arrival, Token, Framed, Acknowledgement, NoTelegram, arrival_of}
use Rattle.law_turn.specs.Hearing.{not_answered, passive_hears, data_told, awaiting_data_hears, timed_out, after_timer, phase_timed_out, phase_begun, begun, ended, listening_hears, taking, is_taken_from, skips_limit, token_in_idle, idle_hears, holder_hears, status_told, awaiting_status_hears, with_token, lost, phase_ended, heard, after_mark}
use Rattle.law_turn.specs.Laws.{IsSilentWhileBusy}
use Rattle.law_turn.specs.Marks.{Mark, Begin, End, Alternates, moment_of}
use Rattle.law_turn.specs.Phases.{Phase, Offline, PassiveIdle, Listening, Idle, Claim, Use, AwaitData, AwaitStatus, Pass, Checking, is_offline}
use Rattle.law_turn.specs.Stations.{Station, Reply, phase_timer, timer_of, phase_speaks, speaks_at, next_station, previous_station, started, stopped, pushed}
use Rattle.law_turn.specs.Turns.{after_marks, settled, saying, received_own, says_token, looks_at_gap, says_look, says_no_request, high_request, low_request, high_taken, low_taken, says_request, says_low, says_high, says_again, replying, joining, says_reply, says_ready, phase_says, speech, turn_of, token_octets}
use Rattle.law_turn.proofs.Cases.{by_test}
use Rattle.law_turn.proofs.InPlace.{none_in_place, in_place-after_timer, none-begun, in_place-begun, none-busy, in_place-ended, in_place-speech}
use Rattle.law_turn.proofs.Moments.{after_marks-is_offline}
use Rattle.law_turn.proofs.Paths.{at_end}

abbrev Busy : Bool → Station → Type 0
Busy b s = s.busy ≡ b

-- ---- an end leaves the station as busy as it was when the phase hears it, and as long quiet

-- whether a station is busy, and since when it is quiet
abbrev state_of : Station → Bool × ℕ
state_of s = (s.busy, s.quiet)

abbrev Same : Station → Station → Type 0
Same s x = state_of x ≡ state_of s

same-token_in_idle : (p : Params) (s : Station) (refused : Option ℕ) (at da sa : ℕ) → Same s (token_in_idle p s refused at da sa)
same-token_in_idle p s refused at da sa =
    let x = with_token s da sa in
    by_test (Same s) (da == s.address) _ _
    (λ _. by_test (Same s) (is_taken_from refused (previous_station s) sa) (taking p x at) _ (λ _. refl) (λ _. refl))
    (λ _. by_test (Same s) (nat_le skips_limit (skips_of (place_of x.las.stage))) _ x (λ _. refl) (λ _. refl))

same-idle_hears : (p : Params) (s : Station) (refused : Option ℕ) (at : ℕ) (a : Arrival) → Same s (idle_hears p s refused at a)
same-idle_hears p s refused at (Token da sa) = same-token_in_idle p s refused at da sa
same-idle_hears p s refused at (Framed f) = refl
same-idle_hears p s refused at Acknowledgement = refl
same-idle_hears p s refused at NoTelegram = refl

same-listening_hears : (p : Params) (s : Station) (doubled : Bool) (at : ℕ) (a : Arrival) → Same s (listening_hears p s doubled at a)
same-listening_hears p s doubled at (Token da sa) = refl
same-listening_hears p s doubled at (Framed f) = refl
same-listening_hears p s doubled at Acknowledgement = refl
same-listening_hears p s doubled at NoTelegram = refl

same-holder_hears : (s : Station) (a : Arrival) → Same s (holder_hears s a)
same-holder_hears s (Token da sa) = refl
same-holder_hears s (Framed f) = refl
same-holder_hears s Acknowledgement = refl
same-holder_hears s NoTelegram = refl

same-status_told : (p : Params) (s : Station) (of at : ℕ) (fc : Option ℕ) → Same s (status_told p s of at fc)
same-status_told p s of at None = refl
same-status_told p s of at (Some fc) = refl

same-awaiting : (p : Params) (s : Station) (of at : ℕ) (a : Arrival) → Same s (awaiting_status_hears p s of at a)
same-awaiting p s of at (Token da sa) = refl
same-awaiting p s of at (Framed f) =
    by_test (Same s) (has_bit f.fc 6) (lost s) _ (λ _. refl) (λ _. same-status_told p s of at (status_reply s.address of (message.Framed f)))
same-awaiting p s of at Acknowledgement = refl
same-awaiting p s of at NoTelegram = refl

same-not_answered : (s : Station) (asked slot : Bool) (ready : ℕ) → Same s (not_answered s asked slot ready)
same-not_answered s asked slot ready = by_test (Same s) (is_some (retry_of s.cycles.initiator.pending)) _ _ (λ _. refl) (λ _. refl)

same-data_told : (p : Params) (s : Station) (asked slot : Bool) (at : ℕ) (m : Message) (outcome : Option Outcome) → Same s (data_told p s asked slot at m outcome)
same-data_told p s asked slot at m (Some outcome) = refl
same-data_told p s asked slot at m None = same-not_answered s asked slot (max at s.own.end + p.tid1)

same-awaiting_data : (p : Params) (s : Station) (asked slot : Bool) (at : ℕ) (a : Arrival) → Same s (awaiting_data_hears p s asked slot at a)
same-awaiting_data p s asked slot at (Token da sa) = refl
same-awaiting_data p s asked slot at (Framed f) =
    by_test (Same s) (has_bit f.fc 6) (lost s) _ (λ _. refl)
    (λ _. same-data_told p s asked slot at (message.Framed f) (outcome_of s.cycles.initiator (Some (message.Framed f))))
same-awaiting_data p s asked slot at Acknowledgement =
    same-data_told p s asked slot at message.Acknowledgement (outcome_of s.cycles.initiator (Some message.Acknowledgement))
same-awaiting_data p s asked slot at NoTelegram = same-not_answered s asked slot (max at s.own.end + p.tid1)

same-passive : (p : Params) (s : Station) (at : ℕ) (a : Arrival) → Same s (passive_hears p s at a)
same-passive p s at (Token da sa) = refl
same-passive p s at (Framed f) = refl
same-passive p s at Acknowledgement = refl
same-passive p s at NoTelegram = refl

pub same-ended : (p : Params) (s : Station) (ph : Phase) (at : ℕ) (a : Arrival) → Same s (phase_ended p s ph at a)
same-ended p s Offline at a = refl
same-ended p s PassiveIdle at a = same-passive p s at a
same-ended p s (Listening doubled) at a = same-listening_hears p s doubled at a
same-ended p s (Idle refused) at a = same-idle_hears p s refused at a
same-ended p s (Claim sent ready) at a = same-holder_hears s a
same-ended p s (Use asked ready) at a = same-holder_hears s a
same-ended p s (AwaitData asked retry slot) at a = same-awaiting_data p s asked slot at a
same-ended p s (AwaitStatus of slot) at a = same-awaiting p s of at a
same-ended p s (Pass tries ready) at a = same-holder_hears s a
same-ended p s (Checking tries) at a = same-holder_hears s a

-- ---- marks and timers

pub silent-begun : (ph : Phase) (own at : ℕ) → phase_speaks None (phase_begun ph own at) ≡ None
silent-begun Offline own at = refl
silent-begun PassiveIdle own at = refl
silent-begun (Listening doubled) own at = refl
silent-begun (Idle refused) own at = refl
silent-begun (Claim sent ready) own at = refl
silent-begun (Use asked ready) own at = refl
silent-begun (AwaitData asked retry slot) own at = refl
silent-begun (AwaitStatus of slot) own at = refl
silent-begun (Pass tries ready) own at = refl
silent-begun (Checking tries) own at = by_test (λ ph. phase_speaks None ph ≡ None) (nat_lt at own) (Checking tries) (Idle None) (λ _. refl) (λ _. refl)

-- no timer ends while the station is busy
timed_out-busy : (p : Params) (limit : ℕ) (s : Station) → s.busy ≡ true → after_timer p limit s ≡ s
timed_out-busy p limit s busy = ap (λ (b : Bool). timed_out s (if b then None else phase_timer p s s.phase) limit) busy

busy-phase_timed_out : (s : Station) (ph : Phase) (t : ℕ) → Busy s.busy (phase_timed_out s ph t)
busy-phase_timed_out s Offline t = refl
busy-phase_timed_out s PassiveIdle t = refl
busy-phase_timed_out s (Listening doubled) t = refl
busy-phase_timed_out s (Idle refused) t = refl
busy-phase_timed_out s (Claim sent ready) t = refl
busy-phase_timed_out s (Use asked ready) t = refl
busy-phase_timed_out s (AwaitData asked retry slot) t = ap (λ (q : Bool × ℕ). q.0) (same-not_answered s asked false t)
busy-phase_timed_out s (AwaitStatus of slot) t = refl
busy-phase_timed_out s (Pass tries ready) t = refl
busy-phase_timed_out s (Checking tries) t = by_test (Busy s.busy) _ _ _ (λ _. refl) (λ _. refl)

busy-after_timer : (p : Params) (limit : ℕ) (s : Station) → Busy s.busy (after_timer p limit s)
busy-after_timer p limit s = by_timer (timer_of p s)
  where
    by_timer : (o : Option ℕ) → Busy s.busy (timed_out s o limit)
    by_timer None = refl
    by_timer (Some t) = by_test (Busy s.busy) (nat_lt t limit) (phase_timed_out s s.phase t) s (λ _. busy-phase_timed_out s s.phase t) (λ _. refl)

silent-after_timer : (p : Params) (limit : ℕ) (s : Station) → IsSilentWhileBusy s → IsSilentWhileBusy (after_timer p limit s)
silent-after_timer p limit s keeps = record {
  silent =
      λ busy.
      let before : s.busy ≡ true = sym (busy-after_timer p limit s) ∙ busy in
      ap speaks_at (timed_out-busy p limit s before) ∙ keeps.silent before;
  in_place = in_place-after_timer p limit s keeps.in_place;
}

-- after a Begin a reply that was in place is gone, and so is what the phase had to say
silent-begun_station : (s : Station) (at : ℕ) → IsSilentWhileBusy s → IsSilentWhileBusy (begun s at)
silent-begun_station s at keeps = record {
  silent =
      λ busy.
      ap (λ (o : Option Reply). phase_speaks o (phase_begun s.phase s.own.begin at)) (none-begun s.phase s.reply keeps.in_place)
      ∙ silent-begun s.phase s.own.begin at;
  in_place = in_place-begun s at keeps.in_place;
}

busy-ended : (p : Params) (s : Station) (at : ℕ) (a : Arrival) → Busy false (ended p s at a)
busy-ended p s at a = ap (λ (q : Bool × ℕ). q.0) (same-ended p (at_end s at) s.phase at a)

-- and an End finds no reply
silent-ended : (p : Params) (s : Station) (at : ℕ) (a : Arrival) → s.busy ≡ true → IsSilentWhileBusy s → IsSilentWhileBusy (ended p s at a)
silent-ended p s at a busy keeps = record {
  silent = λ still. absurd (let wrong : false ≡ true = sym (busy-ended p s at a) ∙ still in cc);
  in_place = in_place-ended p (at_end s at) s.phase at a (none-busy s.phase s.reply keeps.in_place (keeps.silent busy));
}

alternate-begin : (before after : Bool) (at seen : ℕ) (marks : List Mark) → Alternates before (Begin at seen ∷ marks) after → Alternates true marks after
alternate-begin false after at seen marks turns = turns
alternate-begin true after at seen marks turns = absurd turns

alternate-end : (before after : Bool) (at seen : ℕ) (chars : List RxChar) (marks : List Mark) → Alternates before (End at seen chars ∷ marks) after
    → (before ≡ true) × Alternates false marks after
alternate-end true after at seen chars marks turns = (refl, turns)
alternate-end false after at seen chars marks turns = absurd turns

silent-offline : (p : Params) (s : Station) (marks : List Mark) → is_offline s.phase ≡ true → IsSilentWhileBusy s → IsSilentWhileBusy (after_marks p s marks)
silent-offline p s marks off keeps = subst IsSilentWhileBusy (sym (after_marks-is_offline p s marks off)) keeps

pub silent-after_marks : (p : Params) (s : Station) (marks : List Mark) (after : Bool) → Alternates s.busy marks after
    → IsSilentWhileBusy s → IsSilentWhileBusy (after_marks p s marks)
silent-after_marks p s [] after turns keeps = keeps
silent-after_marks p s (Begin at seen ∷ marks) after turns keeps =
    let x = after_timer p at s in
    let timed : IsSilentWhileBusy x = silent-after_timer p at s keeps in
    by_test (λ (y : Station). IsSilentWhileBusy (after_marks p y marks)) (is_offline x.phase) x (begun x at)
    (λ off. silent-offline p x marks off timed)
    (λ _. silent-after_marks p (begun x at) marks after (alternate-begin s.busy after at seen marks turns) (silent-begun_station x at timed))
silent-after_marks p s (End at seen chars ∷ marks) after turns keeps =
    let x = after_timer p at s in
    let timed : IsSilentWhileBusy x = silent-after_timer p at s keeps in
    let y = ended p x at (arrival_of chars) in
    let rest = alternate-end s.busy after at seen chars marks turns in
    by_test (λ (y : Station). IsSilentWhileBusy (after_marks p y marks)) (is_offline x.phase) x y
    (λ off. silent-offline p x marks off timed)
    (λ _.
    silent-after_marks p y marks after (subst (λ (b : Bool). Alternates b marks after) (sym (busy-ended p x at (arrival_of chars))) rest.1)
    (silent-ended p x at (arrival_of chars) (busy-after_timer p at s ∙ rest.0) timed))

silent-settled : (p : Params) (s : Station) (marks : List Mark) (now : ℕ) (after : Bool) → Alternates s.busy marks after
    → IsSilentWhileBusy s → IsSilentWhileBusy (settled p s marks now)
silent-settled p s marks now after turns keeps = silent-after_timer p (now + 1) (after_marks p s marks) (silent-after_marks p s marks after turns keeps)

-- ---- speech

busy-says_token : (p : Params) (s : Station) (tries now : ℕ) → Busy s.busy (says_token p s tries now).0
busy-says_token p s tries now =
    let x = saying s now (token_octets (next_station s) s.address) in
    by_test (Busy s.busy) (next_station s == s.address) (received_own p x) _ (λ _. refl) (λ _. refl)

busy-says_look : (p : Params) (s : Station) (next : Option ℕ) (now : ℕ) → Busy s.busy (says_look p s next now).0
busy-says_look p s None now = busy-says_token p (record s { gap = round_after None now }) 0 now
busy-says_look p s (Some a) now = refl

busy-says_no_request : (p : Params) (s : Station) (asked : Bool) (now : ℕ) → Busy s.busy (says_no_request p s asked now).0
busy-says_no_request p s asked now =
    by_test (λ (turn : Station × Option (List ℕ)). Busy s.busy turn.0) (looks_at_gap p s asked now) _ _
    (λ _. busy-says_look p s (next_asked s.address (next_station s) p.hsa (last_asked s.gap)) now) (λ _. busy-says_token p s 0 now)

busy-says_request : (p : Params) (s : Station) (asked : Bool) (r : RequestFields) (now : ℕ) → Busy s.busy (says_request p s asked r now).0
busy-says_request p s asked r now = by_test (Busy s.busy) (is_answered r.service) _ _ (λ _. refl) (λ _. refl)

busy-says_low : (p : Params) (s : Station) (asked : Bool) (r : Option RequestFields) (now : ℕ) → Busy s.busy (says_low p s asked r now).0
busy-says_low p s asked None now = busy-says_no_request p s asked now
busy-says_low p s asked (Some r) now = busy-says_request p (low_taken s) asked r now

busy-says_high : (p : Params) (s : Station) (asked : Bool) (r : Option RequestFields) (now : ℕ) → Busy s.busy (says_high p s asked r now).0
busy-says_high p s asked None now = busy-says_low p s asked (low_request s now) now
busy-says_high p s asked (Some r) now = busy-says_request p (high_taken s) asked r now

busy-says_again : (s : Station) (asked : Bool) (f : Option Fields) (now : ℕ) → Busy s.busy (says_again s asked f now).0
busy-says_again s asked None now = refl
busy-says_again s asked (Some f) now = refl

busy-says_reply : (s : Station) (o : Option Reply) (now : ℕ) → Busy s.busy (says_reply s o now).0
busy-says_reply s None now = refl
busy-says_reply s (Some r) now = refl

busy-says_ready : (s : Station) (o : Option Reply) (now : ℕ) → Busy s.busy (says_ready s o now).0
busy-says_ready s None now = refl
busy-says_ready s (Some r) now =
    let x = replying s now r in by_test (Busy s.busy) r.joins (joining x) x (λ _. refl) (λ _. refl)

busy-phase_says : (p : Params) (s : Station) (ph : Phase) (now : ℕ) → Busy s.busy (phase_says p s ph now).0
busy-phase_says p s Offline now = refl
busy-phase_says p s PassiveIdle now = busy-says_reply s s.reply now
busy-phase_says p s (Listening doubled) now = busy-says_ready s s.reply now
busy-phase_says p s (Idle refused) now = busy-says_reply s s.reply now
busy-phase_says p s (Claim sent ready) now =
    let x = saying s now (token_octets s.address s.address) in by_test (Busy s.busy) (sent == 0) _ (received_own p x) (λ _. refl) (λ _. refl)
busy-phase_says p s (Use asked ready) now = busy-says_high p s asked (high_request s now) now
busy-phase_says p s (AwaitData asked retry slot) now = busy-says_again s asked (retry_of s.cycles.initiator.pending) now
busy-phase_says p s (AwaitStatus of slot) now = refl
busy-phase_says p s (Pass tries ready) now = busy-says_token p s tries now
busy-phase_says p s (Checking tries) now = refl

busy-speech : (p : Params) (s : Station) (o : Option ℕ) (now : ℕ) → Busy s.busy (speech p s o now).0
busy-speech p s None now = refl
busy-speech p s (Some moment) now =
    by_test (λ (turn : Station × Option (List ℕ)). Busy s.busy turn.0) (nat_le moment now) (phase_says p s s.phase now) (s, None)
    (λ _. busy-phase_says p s s.phase now) (λ _. refl)

pub silent-busy : (p : Params) (s : Station) (marks : List Mark) (now : ℕ) (after : Bool) → Alternates s.busy marks after → IsSilentWhileBusy s
    → (settled p s marks now).busy ≡ true → turn_of p s marks now ≡ (settled p s marks now, None)
silent-busy p s marks now after turns keeps busy =
    let x = settled p s marks now in ap (λ (o : Option ℕ). speech p x o now) ((silent-settled p s marks now after turns keeps).silent busy)

pub silent-turn_of : (p : Params) (s : Station) (marks : List Mark) (now : ℕ) (after : Bool) → Alternates s.busy marks after
    → IsSilentWhileBusy s → IsSilentWhileBusy (turn_of p s marks now).0
silent-turn_of p s marks now after turns keeps =
    let x = settled p s marks now in
    let here : IsSilentWhileBusy x = silent-settled p s marks now after turns keeps in
    record {
      silent =
          λ busy.
          let before : x.busy ≡ true = sym (busy-speech p x (speaks_at x) now) ∙ busy in
          ap (λ (turn : Station × Option (List ℕ)). speaks_at turn.0) (silent-busy p s marks now after turns keeps before) ∙ here.silent before;
      in_place = in_place-speech p x (speaks_at x) now here.in_place;
    }

-- a turn leaves a station busy or not as its marks do
pub busy-turn_of : (p : Params) (s : Station) (marks : List Mark) (now : ℕ) → (turn_of p s marks now).0.busy ≡ (after_marks p s marks).busy
busy-turn_of p s marks now =
    let x = settled p s marks now in busy-speech p x (speaks_at x) now ∙ busy-after_timer p (now + 1) (after_marks p s marks)

pub silent-started : (p : Params) (s : Station) (master : Bool) (now : ℕ) → IsSilentWhileBusy (started p s master now)
silent-started p s master now = record {
  silent = λ busy. absurd (let wrong : false ≡ true = busy in cc);
  in_place = none_in_place (if master then Listening false else PassiveIdle);
}

pub silent-stopped : (s : Station) → IsSilentWhileBusy (stopped s)
silent-stopped s = record { silent = λ busy. refl; in_place = refl }

pub silent-pushed : (s : Station) (r : RequestFields) → IsSilentWhileBusy s → IsSilentWhileBusy (pushed s r)
silent-pushed s r keeps = record { silent = keeps.silent; in_place = keeps.in_place }

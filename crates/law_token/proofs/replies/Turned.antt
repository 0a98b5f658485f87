-- The turn of stations that differ in what they reply to requests alone: what else they know is the same after it.
use Rattle.std.proofs.Common.{◌≡◌, ℕ, ◌+◌, Bool, if◌then◌else◌, ◌==◌, List, [], refl, sym, ap, subst, Option, Some, None}
use Rattle.std.specs.Prelude.{nat_le}
use Rattle.pb_timers.specs.Timers.{Params}
use Rattle.pb_ring.specs.Gap.{last_asked, next_asked, round_after}
use Rattle.pb_cycles.specs.Fields.{Fields}
use Rattle.pb_cycles.specs.RequestFields.{RequestFields}
use Rattle.pb_cycles.specs.Requests.{is_answered}
use Rattle.pb_cycles.specs.Tables.{ResponderTable}
use Rattle.pb_cycles.specs.Initiating.{retry_of}
use Rattle.law_turn.specs.Marks.{Mark}
use Rattle.law_turn.specs.Phases.{Phase, Offline, PassiveIdle, Listening, Idle, Claim, Use, AwaitData, AwaitStatus, Pass, Checking}
use Rattle.law_turn.specs.Stations.{Station, Reply, next_station, reply_moment, phase_speaks, speaks_at}
use Rattle.law_turn.specs.Hearing.{after_timer}
use Rattle.law_turn.specs.Turns.{after_marks, settled, says_token, says_claim, looks_at_gap, says_look, says_no_request, high_request, low_request, high_taken, low_taken, says_request, says_low, says_high, says_again, replying, joining, says_reply, says_ready, phase_says, speech, turn_of}
use Rattle.law_turn.proofs.Cases.{by_one_test}
use Rattle.law_token.proofs.replies.Alike.{AlikeReplies, differ_by_table, with_replies, Alike, timer_alike, marks_alike}

-- ---- a station without what it replies, and without the moments that depend on how long that is

abbrev pub bare : Station → Station
bare s = record s { quiet = 0; own = record { begin = 0; end = 0 }; reply = None; cycles = record s.cycles { responder = record { reply = []; kept = None; executed = 0 } } }

abbrev pub KnowAlike : Station → Station → Type 0
KnowAlike a b = bare a ≡ bare b

-- ---- the station at the clock

pub settled_alike : (t : ResponderTable) (r : Option Reply) (p : Params) (s : Station) (ms : List Mark) (now : ℕ) → AlikeReplies s.reply r → Alike ⊥ (settled p s ms now) (settled p (with_replies t r s) ms now)
settled_alike t r p s ms now h =
    let x = after_marks p s ms in
    let a = marks_alike ⊥ t r p s ms (differ_by_table s.reply r s.cycles.responder.kept t.kept h) in
    subst (λ z. Alike ⊥ (after_timer p (now + 1) x) (after_timer p (now + 1) z)) (sym a.is) (timer_alike ⊥ a.table a.reply p (now + 1) x a.differ)

-- ---- speech

abbrev SayAlike : Station × Option (List ℕ) → Station × Option (List ℕ) → Type 0
SayAlike a b = KnowAlike a.0 b.0

token : (t : ResponderTable) (r : Option Reply) (p : Params) (s : Station) (tries now : ℕ) → SayAlike (says_token p s tries now) (says_token p (with_replies t r s) tries now)
token t r p s tries now = by_one_test KnowAlike (next_station s == s.address) _ _ _ _ (λ _. refl) (λ _. refl)

claim : (t : ResponderTable) (r : Option Reply) (p : Params) (s : Station) (sent now : ℕ) → SayAlike (says_claim p s sent now) (says_claim p (with_replies t r s) sent now)
claim t r p s sent now = by_one_test KnowAlike (sent == 0) _ _ _ _ (λ _. refl) (λ _. refl)

look : (t : ResponderTable) (r : Option Reply) (p : Params) (s : Station) (a : Option ℕ) (now : ℕ) → SayAlike (says_look p s a now) (says_look p (with_replies t r s) a now)
look t r p s None now = token t r p (record s { gap = round_after None now }) 0 now
look t r p s (Some a) now = refl

no_request : (t : ResponderTable) (r : Option Reply) (p : Params) (s : Station) (asked : Bool) (now : ℕ) → SayAlike (says_no_request p s asked now) (says_no_request p (with_replies t r s) asked now)
no_request t r p s asked now =
    by_one_test SayAlike (looks_at_gap p s asked now) _ _ _ _
    (λ _. look t r p s (next_asked s.address (next_station s) p.hsa (last_asked s.gap)) now) (λ _. token t r p s 0 now)

request : (t : ResponderTable) (r : Option Reply) (p : Params) (s : Station) (asked : Bool) (f : RequestFields) (now : ℕ) → SayAlike (says_request p s asked f now) (says_request p (with_replies t r s) asked f now)
request t r p s asked f now = by_one_test KnowAlike (is_answered f.service) _ _ _ _ (λ _. refl) (λ _. refl)

low : (t : ResponderTable) (r : Option Reply) (p : Params) (s : Station) (asked : Bool) (f : Option RequestFields) (now : ℕ) → SayAlike (says_low p s asked f now) (says_low p (with_replies t r s) asked f now)
low t r p s asked None now = no_request t r p s asked now
low t r p s asked (Some f) now = request t r p (low_taken s) asked f now

high : (t : ResponderTable) (r : Option Reply) (p : Params) (s : Station) (asked : Bool) (f : Option RequestFields) (now : ℕ) → SayAlike (says_high p s asked f now) (says_high p (with_replies t r s) asked f now)
high t r p s asked None now = low t r p s asked (low_request s now) now
high t r p s asked (Some f) now = request t r p (high_taken s) asked f now

again : (t : ResponderTable) (r : Option Reply) (s : Station) (asked : Bool) (f : Option Fields) (now : ℕ) → SayAlike (says_again s asked f now) (says_again (with_replies t r s) asked f now)
again t r s asked None now = refl
again t r s asked (Some f) now = refl

replied : (t : ResponderTable) (s b : Station) (o r : Option Reply) (now : ℕ) → KnowAlike s b → AlikeReplies o r → SayAlike (says_reply s o now) (says_reply b r now)
replied t s b None None now e h = e
replied t s b None (Some y) now e h = absurd h
replied t s b (Some x) None now e h = absurd h
replied t s b (Some x) (Some y) now e h = e

ready : (t : ResponderTable) (q : Option Reply) (s : Station) (o r : Option Reply) (now : ℕ) → AlikeReplies o r → SayAlike (says_ready s o now) (says_ready (with_replies t q s) r now)
ready t q s None None now h = refl
ready t q s None (Some y) now h = absurd h
ready t q s (Some x) None now h = absurd h
ready t q s (Some x) (Some y) now h =
    let b = with_replies t q s in
    subst (λ j. KnowAlike (if x.joins then joining (replying s now x) else replying s now x) (if j then joining (replying b now y) else replying b now y)) h.1
    (by_one_test KnowAlike x.joins _ _ _ _ (λ _. refl) (λ _. refl))

says : (t : ResponderTable) (r : Option Reply) (p : Params) (s : Station) (ph : Phase) (now : ℕ) → AlikeReplies s.reply r → SayAlike (phase_says p s ph now) (phase_says p (with_replies t r s) ph now)
says t r p s Offline now h = refl
says t r p s PassiveIdle now h = replied t s (with_replies t r s) s.reply r now refl h
says t r p s (Listening doubled) now h = ready t r s s.reply r now h
says t r p s (Idle refused) now h = replied t s (with_replies t r s) s.reply r now refl h
says t r p s (Claim sent moment) now h = claim t r p s sent now
says t r p s (Use asked moment) now h = high t r p s asked (high_request s now) now
says t r p s (AwaitData asked retry slot) now h = again t r s asked (retry_of s.cycles.initiator.pending) now
says t r p s (AwaitStatus of slot) now h = refl
says t r p s (Pass tries moment) now h = token t r p s tries now
says t r p s (Checking tries) now h = refl

moment_alike : (o r : Option Reply) → AlikeReplies o r → reply_moment o ≡ reply_moment r
moment_alike None None h = refl
moment_alike None (Some y) h = absurd h
moment_alike (Some x) None h = absurd h
moment_alike (Some x) (Some y) h = ap Some h.0

-- it speaks at the same moment
pub speaks_alike : (o r : Option Reply) (ph : Phase) → AlikeReplies o r → phase_speaks o ph ≡ phase_speaks r ph
speaks_alike o r Offline h = refl
speaks_alike o r PassiveIdle h = moment_alike o r h
speaks_alike o r (Listening doubled) h = moment_alike o r h
speaks_alike o r (Idle refused) h = moment_alike o r h
speaks_alike o r (Claim sent moment) h = refl
speaks_alike o r (Use asked moment) h = refl
speaks_alike o r (AwaitData asked retry slot) h = refl
speaks_alike o r (AwaitStatus of slot) h = refl
speaks_alike o r (Pass tries moment) h = refl
speaks_alike o r (Checking tries) h = refl

speech_alike : (t : ResponderTable) (r : Option Reply) (p : Params) (s : Station) (o : Option ℕ) (now : ℕ) → AlikeReplies s.reply r → SayAlike (speech p s o now) (speech p (with_replies t r s) o now)
speech_alike t r p s None now h = refl
speech_alike t r p s (Some moment) now h =
    by_one_test SayAlike (nat_le moment now) (phase_says p s s.phase now) (s, None) (phase_says p (with_replies t r s) s.phase now) (with_replies t r s, None) (λ _. says t r p s s.phase now h) (λ _. refl)

-- ---- a turn

pub turn_alike : (t : ResponderTable) (p : Params) (s : Station) (ms : List Mark) (now : ℕ) → (r : Option Reply) → AlikeReplies s.reply r → KnowAlike (turn_of p s ms now).0 (turn_of p (with_replies t r s) ms now).0
turn_alike t p s ms now r h =
    let x = settled p s ms now in
    let a = settled_alike t r p s ms now h in
    let said : KnowAlike (speech p x (speaks_at x) now).0 (speech p (with_replies a.table a.reply x) (speaks_at (with_replies a.table a.reply x)) now).0 =
    subst (λ o. KnowAlike (speech p x (speaks_at x) now).0 (speech p (with_replies a.table a.reply x) o now).0) (speaks_alike x.reply a.reply x.phase a.differ.replies)
    (speech_alike a.table a.reply p x (speaks_at x) now a.differ.replies) in
    subst (λ z. KnowAlike (speech p x (speaks_at x) now).0 (speech p z (speaks_at z) now).0) (sym a.is) said

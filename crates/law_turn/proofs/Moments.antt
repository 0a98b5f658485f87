-- What a turn does to the moments at which a station acts.
use Rattle.std.proofs.Common.{◌≡◌, ℕ, ◌+◌, ◌<◌, ◌≤◌, List, [], ◌∷◌, length, Bool, true, false, if◌then◌else◌, ◌==◌, ◌⊎◌, inl, inr, refl, ap, sym, ◌∙◌, subst, arith, Option, Some, None}
use Rattle.std.specs.Prelude.{IfSome, is_some, nat_lt, nat_le, max}
use Rattle.std.proofs.lemmas.Bool.{ltb-false, leb-false, leb-true, le-ltb, lt-ltb, lt-leb, le-leb}
use Rattle.pb_timers.specs.Timers.{Params, bits, tto}
use Rattle.pb_ring.specs.Gap.{next_asked, last_asked, round_after}
use Rattle.pb_ring.specs.Las as las
use Rattle.pb_cycles.specs.Fields.{Fields}
use Rattle.pb_cycles.specs.Messages.{frame_octets}
use Rattle.pb_cycles.specs.RequestFields.{RequestFields}
use Rattle.pb_cycles.specs.Requests.{is_answered}
use Rattle.pb_cycles.specs.Initiating.{first_sending, retry_of}
use Rattle.law_turn.specs.Hearing.{phase_timed_out, timed_out, after_timer, after_mark, tries_limit}
use Rattle.law_turn.specs.Laws.{IsDueLater}
use Rattle.law_turn.specs.Marks.{Mark, moment_of}
use Rattle.law_turn.specs.Phases.{Phase, Offline, PassiveIdle, Listening, Idle, Claim, Use, AwaitData, AwaitStatus, Pass, Checking, is_offline}
use Rattle.law_turn.specs.Stations.{Station, Reply, phase_timer, timer_of, phase_speaks, speaks_at, earlier, next_station}
use Rattle.law_turn.specs.Turns.{after_marks, settled, saying, received_own, token_sent, says_token, says_claim, looks_at_gap, says_look, says_no_request, high_request, low_request, high_taken, low_taken, says_request, says_low, says_high, says_in_use, says_again, joining, replying, says_reply, says_ready, phase_says, speech, turn_of, token_octets, status_request_octets}
use Rattle.law_turn.proofs.Cases.{by_test, earlier-later, later-earlier}
use Rattle.law_turn.proofs.Octets.{frame-some}

-- a moment that lies after the clock, if there is one
abbrev IsLater : ℕ → Option ℕ → Type 0
IsLater now o = IfSome o (λ t. now < t)

-- ---- timers

-- a timer that has ended leaves none
no_timer-timed_out : (p : Params) (s : Station) (ph : Phase) (t : ℕ)
    → phase_timer p (phase_timed_out (record s { phase = ph }) ph t) (phase_timed_out (record s { phase = ph }) ph t).phase ≡ None
no_timer-timed_out p s Offline t = refl
no_timer-timed_out p s PassiveIdle t = refl
no_timer-timed_out p s (Listening doubled) t = refl
no_timer-timed_out p s (Idle refused) t = refl
no_timer-timed_out p s (Claim sent ready) t = refl
no_timer-timed_out p s (Use asked ready) t = refl
no_timer-timed_out p s (AwaitData asked retry slot) t =
    by_test (λ (y : Station). phase_timer p y y.phase ≡ None) (is_some (retry_of s.cycles.initiator.pending)) _ _ (λ _. refl) (λ _. refl)
no_timer-timed_out p s (AwaitStatus of slot) t = refl
no_timer-timed_out p s (Pass tries ready) t = refl
no_timer-timed_out p s (Checking tries) t =
    let x = record s { phase = Checking tries } in
    by_test (λ (y : Station). phase_timer p y y.phase ≡ None) (nat_le tries_limit tries)
    (record x { phase = Pass 0 t; las = las.removed x.las (next_station x) }) (record x { phase = Pass tries t }) (λ _. refl) (λ _. refl)

later_unless_busy : (now : ℕ) (busy : Bool) (o : Option ℕ) → o ≡ None → IsLater now (if busy then None else o)
later_unless_busy now true o e = tt
later_unless_busy now false o e = subst (IsLater now) (sym e) tt

timer-timed_out : (p : Params) (now : ℕ) (s : Station) (o : Option ℕ) → timer_of p s ≡ o → IsLater now (timer_of p (timed_out s o (now + 1)))
timer-timed_out p now s None e = subst (IsLater now) (sym e) tt
timer-timed_out p now s (Some t) e =
    by_test (λ (x : Station). IsLater now (timer_of p x)) (nat_lt t (now + 1)) (phase_timed_out s s.phase t) s
    (λ ended. later_unless_busy now (phase_timed_out s s.phase t).busy _ (no_timer-timed_out p s s.phase t))
    (λ runs. subst (IsLater now) (sym e) (omega (arith, ltb-false t (now + 1) runs)))

pub timer-settled : (p : Params) (s : Station) (marks : List Mark) (now : ℕ) → IsLater now (timer_of p (settled p s marks now))
timer-settled p s marks now = timer-timed_out p now (after_marks p s marks) (timer_of p (after_marks p s marks)) refl

-- ---- speech

-- a holder that is ready later than the clock
later-ready : (p : Params) (now : ℕ) (busy : Bool) (ready : ℕ) → now < ready → IsLater now (earlier (if busy then None else None) (Some ready))
later-ready p now true ready h = h
later-ready p now false ready h = h

-- a timer that lies later than the clock, of a phase that speaks not
later-timer : (now : ℕ) (busy : Bool) (timer : ℕ) → now < timer → IsLater now (earlier (if busy then None else Some timer) None)
later-timer now true timer h = tt
later-timer now false timer h = h

later-received_own : (p : Params) (s : Station) (now : ℕ) → now < s.own.end → IsDueLater p (received_own p s) now
later-received_own p s now h = later-ready p now s.busy (s.own.end + p.tid1) (omega arith)

later-token_sent : (p : Params) (s : Station) (tries ns now : ℕ) → now < s.own.end → IsDueLater p (token_sent p s tries ns) now
later-token_sent p s tries ns now h =
    by_test (λ (x : Station). IsDueLater p x now) (ns == s.address) (received_own p s) _
    (λ _. later-received_own p s now h) (λ _. later-timer now s.busy (s.own.end + p.tsl) (omega arith))

later-says_token : (p : Params) (s : Station) (tries now : ℕ) → IsDueLater p (says_token p s tries now).0 now
later-says_token p s tries now = later-token_sent p (saying s now (token_octets (next_station s) s.address)) tries (next_station s) now (omega arith)

later-says_claim : (p : Params) (s : Station) (sent now : ℕ) → IsDueLater p (says_claim p s sent now).0 now
later-says_claim p s sent now =
    let x = saying s now (token_octets s.address s.address) in
    by_test (λ (y : Station). IsDueLater p y now) (sent == 0) _ (received_own p x)
    (λ _. later-ready p now x.busy (x.own.end + p.tid1) (omega arith)) (λ _. later-received_own p x now (omega arith))

later-says_look : (p : Params) (s : Station) (next : Option ℕ) (now : ℕ) → IsDueLater p (says_look p s next now).0 now
later-says_look p s None now = later-says_token p (record s { gap = round_after None now }) 0 now
later-says_look p s (Some a) now = later-timer now s.busy (now + bits (length (status_request_octets a s.address)) + p.tsl) (omega arith)

later-says_no_request : (p : Params) (s : Station) (asked : Bool) (now : ℕ) → IsDueLater p (says_no_request p s asked now).0 now
later-says_no_request p s asked now =
    by_test (λ (turn : Station × Option (List ℕ)). IsDueLater p turn.0 now) (looks_at_gap p s asked now) _ _
    (λ _. later-says_look p s (next_asked s.address (next_station s) p.hsa (last_asked s.gap)) now)
    (λ _. later-says_token p s 0 now)

later-says_request : (p : Params) (s : Station) (asked : Bool) (r : RequestFields) (now : ℕ) → IsDueLater p (says_request p s asked r now).0 now
later-says_request p s asked r now =
    let f = first_sending s.cycles.initiator s.address r in
    let some = frame-some f in
    by_test (λ (x : Station). IsDueLater p x now) (is_answered r.service) _ _
    (λ _. later-timer now s.busy (now + bits (length (frame_octets f)) + p.tsl) (omega (arith, some)))
    (λ _. later-ready p now s.busy (now + bits (length (frame_octets f)) + p.tid2) (omega (arith, some)))

later-says_low : (p : Params) (s : Station) (asked : Bool) (r : Option RequestFields) (now : ℕ) → IsDueLater p (says_low p s asked r now).0 now
later-says_low p s asked None now = later-says_no_request p s asked now
later-says_low p s asked (Some r) now = later-says_request p (low_taken s) asked r now

later-says_high : (p : Params) (s : Station) (asked : Bool) (r : Option RequestFields) (now : ℕ) → IsDueLater p (says_high p s asked r now).0 now
later-says_high p s asked None now = later-says_low p s asked (low_request s now) now
later-says_high p s asked (Some r) now = later-says_request p (high_taken s) asked r now

later-says_in_use : (p : Params) (s : Station) (asked : Bool) (now : ℕ) → IsDueLater p (says_in_use p s asked now).0 now
later-says_in_use p s asked now = later-says_high p s asked (high_request s now) now

later-says_again : (p : Params) (s : Station) (asked : Bool) (f : Option Fields) (now : ℕ) → IsDueLater p (says_again s asked f now).0 now
later-says_again p s asked None now = by_test (λ (o : Option ℕ). IsLater now (earlier o None)) s.busy None None (λ _. tt) (λ _. tt)
later-says_again p s asked (Some f) now =
    let some = frame-some f in later-timer now s.busy (now + bits (length (frame_octets f)) + p.tsl) (omega (arith, some))

-- silence that lasts from later on ends later
later-silence : (p : Params) (now quiet more address : ℕ) (busy : Bool) → IsLater now (if busy then None else Some (quiet + tto p address))
    → IsLater now (earlier (if busy then None else Some (max quiet more + tto p address)) None)
later-silence p now quiet more address true h = tt
later-silence p now quiet more address false h = omega (arith, h)

-- what a phase says leaves it due later, where its timer is later already
later-phase_says : (p : Params) (s : Station) (ph : Phase) (now : ℕ) → IsLater now (timer_of p (record s { phase = ph }))
    → IsLater now (phase_speaks s.reply ph) ⊎ IsDueLater p (phase_says p (record s { phase = ph }) ph now).0 now
later-phase_says p s Offline now h = inl tt
later-phase_says p s PassiveIdle now h = later-passive s.reply
  where
    later-passive : (o : Option Reply) → IsLater now (phase_speaks o PassiveIdle) ⊎ IsDueLater p (says_reply (record s { phase = PassiveIdle }) o now).0 now
    later-passive None = inl tt
    later-passive (Some r) = inr (by_test (λ (o : Option ℕ). IsLater now (earlier o None)) s.busy None None (λ _. tt) (λ _. tt))
later-phase_says p s (Listening doubled) now h = later-listening s.reply
  where
    later-listening : (o : Option Reply) → IsLater now (phase_speaks o (Listening doubled)) ⊎ IsDueLater p (says_ready (record s { phase = Listening doubled }) o now).0 now
    later-listening None = inl tt
    later-listening (Some r) =
        let silence = later-silence p now s.quiet (now + bits (length r.octets)) s.address s.busy h in
        let x = replying (record s { phase = Listening doubled }) now r in
        inr (by_test (λ (y : Station). IsDueLater p y now) r.joins (joining x) x (λ _. silence) (λ _. silence))
later-phase_says p s (Idle refused) now h = later-idle s.reply
  where
    later-idle : (o : Option Reply) → IsLater now (phase_speaks o (Idle refused)) ⊎ IsDueLater p (says_reply (record s { phase = Idle refused }) o now).0 now
    later-idle None = inl tt
    later-idle (Some r) = inr (later-silence p now s.quiet (now + bits (length r.octets)) s.address s.busy h)
later-phase_says p s (Claim sent ready) now h = inr (later-says_claim p (record s { phase = Claim sent ready }) sent now)
later-phase_says p s (Use asked ready) now h = inr (later-says_in_use p (record s { phase = Use asked ready }) asked now)
later-phase_says p s (AwaitData asked retry slot) now h = inr (later-says_again p (record s { phase = AwaitData asked retry slot }) asked (retry_of s.cycles.initiator.pending) now)
later-phase_says p s (AwaitStatus of slot) now h = inl tt
later-phase_says p s (Pass tries ready) now h = inr (later-says_token p (record s { phase = Pass tries ready }) tries now)
later-phase_says p s (Checking tries) now h = inl tt

later-speech : (p : Params) (s : Station) (now : ℕ) (o : Option ℕ) → speaks_at s ≡ o → IsLater now (timer_of p s) → IsDueLater p (speech p s o now).0 now
later-speech p s now None e timer = earlier-later now (timer_of p s) (speaks_at s) timer (subst (IsLater now) (sym e) tt)
later-speech p s now (Some moment) e timer =
    by_test (λ (turn : Station × Option (List ℕ)). IsDueLater p turn.0 now) (nat_le moment now) (phase_says p s s.phase now) (s, None)
    (λ speaks. elim (later-phase_says p s s.phase now timer) [
      | inl waits ↦ absurd (let first : now < moment = subst (IsLater now) e waits in let second : moment ≤ now = leb-true moment now speaks in omega (arith, first, second))
      | inr later ↦ later
    ])
    (λ waits. earlier-later now (timer_of p s) (speaks_at s) timer (subst (IsLater now) (sym e) (omega (arith, leb-false moment now waits))))

-- after a turn the station is due later than the clock, or not at all
pub later-turn_of : (p : Params) (s : Station) (marks : List Mark) (now : ℕ) → IsDueLater p (turn_of p s marks now).0 now
later-turn_of p s marks now =
    later-speech p (settled p s marks now) now (speaks_at (settled p s marks now)) refl (timer-settled p s marks now)

-- ---- a turn with nothing due

timed_out-later : (s : Station) (o : Option ℕ) (now : ℕ) → IsLater now o → timed_out s o (now + 1) ≡ s
timed_out-later s None now later = refl
timed_out-later s (Some t) now later = ap (λ (b : Bool). if b then phase_timed_out s s.phase t else s) (le-ltb t (now + 1) (omega arith))

speech-later : (p : Params) (s : Station) (o : Option ℕ) (now : ℕ) → IsLater now o → speech p s o now ≡ (s, None)
speech-later p s None now later = refl
speech-later p s (Some moment) now later = ap (λ (b : Bool). if b then phase_says p s s.phase now else (s, None)) (lt-leb moment now later)

pub turn_of-nothing_due : (p : Params) (s : Station) (now : ℕ) → IsDueLater p s now → turn_of p s [] now ≡ (s, None)
turn_of-nothing_due p s now later =
    let both = later-earlier now (timer_of p s) (speaks_at s) later in
    ap (λ (x : Station). speech p x (speaks_at x) now) (timed_out-later s (timer_of p s) now both.0) ∙ speech-later p s (speaks_at s) now both.1

pub turn_of-busy : (p : Params) (s : Station) (now : ℕ) → s.busy ≡ true → speaks_at s ≡ None → turn_of p s [] now ≡ (s, None)
turn_of-busy p s now busy silent =
    turn_of-nothing_due p s now
    (subst (λ (b : Bool). IsLater now (earlier (if b then None else phase_timer p s s.phase) (speaks_at s))) (sym busy)
    (subst (IsLater now) (sym silent) tt))

-- ---- marks and the timer

-- a timer that ends before the next mark's moment is read first, and one that ends with it or later is not
pub after_marks-timer : (p : Params) (s : Station) (t : ℕ) (m : Mark) (marks : List Mark) → timer_of p s ≡ Some t → t < moment_of m
    → after_marks p s (m ∷ marks) ≡ after_marks p (after_mark p (phase_timed_out s s.phase t) m) marks
after_marks-timer p s t m marks e first =
    ap (λ (x : Station). after_marks p (after_mark p x m) marks)
    (ap (λ (o : Option ℕ). timed_out s o (moment_of m)) e
    ∙ ap (λ (b : Bool). if b then phase_timed_out s s.phase t else s) (lt-ltb t (moment_of m) first))

timed_out-not_before : (s : Station) (o : Option ℕ) (limit : ℕ) → IfSome o (λ t. limit ≤ t) → timed_out s o limit ≡ s
timed_out-not_before s None limit late = refl
timed_out-not_before s (Some t) limit late = ap (λ (b : Bool). if b then phase_timed_out s s.phase t else s) (le-ltb t limit late)

pub after_marks-mark : (p : Params) (s : Station) (m : Mark) (marks : List Mark) → IfSome (timer_of p s) (λ t. moment_of m ≤ t)
    → after_marks p s (m ∷ marks) ≡ after_marks p (after_mark p s m) marks
after_marks-mark p s m marks late =
    ap (λ (x : Station). after_marks p (after_mark p x m) marks) (timed_out-not_before s (timer_of p s) (moment_of m) late)

-- ---- one that is offline

-- in a phase without a timer no timer ends
no_timer : (s : Station) (busy : Bool) (limit : ℕ) → timed_out s (if busy then None else None) limit ≡ s
no_timer s true limit = refl
no_timer s false limit = refl

after_marks-offline : (p : Params) (s : Station) (marks : List Mark) → after_marks p (record s { phase = Offline }) marks ≡ record s { phase = Offline }
after_marks-offline p s [] = refl
after_marks-offline p s (m ∷ marks) =
    ap (λ (x : Station). after_marks p (after_mark p x m) marks) (no_timer (record s { phase = Offline }) s.busy (moment_of m))
    ∙ after_marks-offline p s marks

is_offline-Offline : (ph : Phase) → is_offline ph ≡ true → ph ≡ Offline
is_offline-Offline Offline e = refl
is_offline-Offline PassiveIdle e = absurd (let wrong : false ≡ true = e in cc)
is_offline-Offline (Listening doubled) e = absurd (let wrong : false ≡ true = e in cc)
is_offline-Offline (Idle refused) e = absurd (let wrong : false ≡ true = e in cc)
is_offline-Offline (Claim sent ready) e = absurd (let wrong : false ≡ true = e in cc)
is_offline-Offline (Use asked ready) e = absurd (let wrong : false ≡ true = e in cc)
is_offline-Offline (AwaitData asked retry slot) e = absurd (let wrong : false ≡ true = e in cc)
is_offline-Offline (AwaitStatus of slot) e = absurd (let wrong : false ≡ true = e in cc)
is_offline-Offline (Pass tries ready) e = absurd (let wrong : false ≡ true = e in cc)
is_offline-Offline (Checking tries) e = absurd (let wrong : false ≡ true = e in cc)

-- one that is offline reads its marks and knows nothing of them
pub after_marks-is_offline : (p : Params) (s : Station) (marks : List Mark) → is_offline s.phase ≡ true → after_marks p s marks ≡ s
after_marks-is_offline p s marks off =
    subst (λ (ph : Phase). after_marks p (record s { phase = ph }) marks ≡ record s { phase = ph }) (sym (is_offline-Offline s.phase off)) (after_marks-offline p s marks)

turn_of-offline_phase : (p : Params) (s : Station) (ph : Phase) (marks : List Mark) (now : ℕ) → ph ≡ Offline
    → turn_of p (record s { phase = ph }) marks now ≡ (record s { phase = ph }, None)
turn_of-offline_phase p s ph marks now e =
    subst (λ (ph : Phase). turn_of p (record s { phase = ph }) marks now ≡ (record s { phase = ph }, None)) (sym e)
    (ap (λ (x : Station). speech p x (speaks_at x) now)
    (ap (after_timer p (now + 1)) (after_marks-offline p s marks) ∙ no_timer (record s { phase = Offline }) s.busy (now + 1)))

-- a station that is offline notices nothing and says nothing
pub turn_of-offline : (p : Params) (s : Station) (marks : List Mark) (now : ℕ) → s.phase ≡ Offline → turn_of p s marks now ≡ (s, None)
turn_of-offline p s marks now e = turn_of-offline_phase p s s.phase marks now e

-- ---- speech is not optional

pub turn_of-due : (p : Params) (s : Station) (marks : List Mark) (now moment : ℕ) → speaks_at (settled p s marks now) ≡ Some moment → moment ≤ now
    → turn_of p s marks now ≡ phase_says p (settled p s marks now) (settled p s marks now).phase now
turn_of-due p s marks now moment e due =
    let x = settled p s marks now in
    ap (λ (o : Option ℕ). speech p x o now) e ∙ ap (λ (b : Bool). if b then phase_says p x x.phase now else (x, None)) (le-leb moment now due)

pub turn_of-not_due : (p : Params) (s : Station) (marks : List Mark) (now : ℕ) → IsLater now (speaks_at (settled p s marks now))
    → (turn_of p s marks now).1 ≡ None
turn_of-not_due p s marks now later =
    let x = settled p s marks now in
    ap (λ (turn : Station × Option (List ℕ)). turn.1) (speech-later p x (speaks_at x) now later)

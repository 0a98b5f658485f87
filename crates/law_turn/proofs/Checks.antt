-- How the check of a token pass ends.
use Rattle.std.proofs.Common.{◌≡◌, ◌∙◌, ℕ, ◌+◌, ◌<◌, ◌≤◌, List, [], ◌∷◌, Bool, true, false, if◌then◌else◌, refl, ap, sym, subst, arith, Option, Some, None}
use Rattle.std.specs.Prelude.{IfSome, nat_lt}
use Rattle.std.proofs.lemmas.Bool.{le-ltb, lt-ltb, lt-leb, le-leb}
use Rattle.pb_telegram.specs.declared.chars.RxChar.{RxChar}
use Rattle.pb_timers.specs.Timers.{Params}
use Rattle.pb_ring.specs.Las as las
use Rattle.law_turn.specs.Arrivals.{Arrival, Token, Framed, Acknowledgement, NoTelegram, arrival_of}
use Rattle.law_turn.specs.Hearing.{holder_hears, not_taken, after_timer, after_mark}
use Rattle.law_turn.specs.Marks.{Mark, Begin, End}
use Rattle.law_turn.specs.Phases.{Phase, Idle, Pass, Checking, may_initiate}
use Rattle.law_turn.specs.Stations.{Station, phase_timer, timer_of, speaks_at, next_station, previous_station}
use Rattle.law_turn.specs.Turns.{after_marks, says_token, speech, turn_of, token_octets}
use Rattle.law_turn.proofs.Cases.{by_test}
use Rattle.law_turn.proofs.Moments.{after_marks-mark, turn_of-nothing_due}
use Rattle.law_turn.proofs.Paths.{at_end, idle-takes_first}
use Rattle.law_turn.proofs.Saying.{due_in_checking}

-- ---- activity

-- a begin leaves a station in Checking in a phase that its moment decides
begin-checking : (p : Params) (s : Station) (ph : Phase) (tries at seen : ℕ) → ph ≡ Checking tries
    → after_mark p (record s { phase = ph }) (Begin at seen) ≡ record s { phase = if nat_lt at s.own.begin then Checking tries else Idle None; busy = true }
begin-checking p s ph tries at seen e =
    subst (λ (ph : Phase). after_mark p (record s { phase = ph }) (Begin at seen)
    ≡ record s { phase = if nat_lt at s.own.begin then Checking tries else Idle None; busy = true }) (sym e) refl

-- from the beginning of the own token on it ends the check
pub check-ended : (p : Params) (s : Station) (tries at seen : ℕ) → s.phase ≡ Checking tries → s.own.begin ≤ at
    → after_mark p s (Begin at seen) ≡ record s { phase = Idle None; busy = true }
check-ended p s tries at seen e since =
    begin-checking p s s.phase tries at seen e
    ∙ ap (λ (b : Bool). record s { phase = if b then Checking tries else Idle None; busy = true }) (le-ltb at s.own.begin since)

-- before it, it leaves the check as it is
pub check-goes_on : (p : Params) (s : Station) (tries at seen : ℕ) → s.phase ≡ Checking tries → at < s.own.begin
    → after_mark p s (Begin at seen) ≡ record s { busy = true }
check-goes_on p s tries at seen e before =
    begin-checking p s s.phase tries at seen e
    ∙ ap (λ (b : Bool). record s { phase = if b then Checking tries else Idle None; busy = true }) (lt-ltb at s.own.begin before)
    ∙ ap (λ (ph : Phase). record s { phase = ph; busy = true }) (sym e)

-- the slot's timer ends with it or later, if it runs at all
slot-later : (p : Params) (s : Station) (tries at : ℕ) → s.phase ≡ Checking tries → at ≤ s.own.end + p.tsl → IfSome (timer_of p s) (λ t. at ≤ t)
slot-later p s tries at e early =
    by_test (λ (o : Option ℕ). IfSome o (λ t. at ≤ t)) s.busy None (phase_timer p s s.phase) (λ _. tt)
    (λ _. subst (λ (ph : Phase). IfSome (phase_timer p s ph) (λ t. at ≤ t)) (sym e) early)

-- a turn that begins with activity in the slot is a turn in Idle
pub check-ended_in_slot : (p : Params) (s : Station) (tries at seen now : ℕ) (marks : List Mark) → s.phase ≡ Checking tries → s.own.begin ≤ at → at ≤ s.own.end + p.tsl
    → turn_of p s (Begin at seen ∷ marks) now ≡ turn_of p (record s { phase = Idle None; busy = true }) marks now
check-ended_in_slot p s tries at seen now marks e since early =
    ap (λ (x : Station). let y = after_timer p (now + 1) x in speech p y (speaks_at y) now)
    (after_marks-mark p s (Begin at seen) marks (slot-later p s tries at e early)
    ∙ ap (λ (x : Station). after_marks p x marks) (check-ended p s tries at seen e since))

-- the token comes back from the previous station alone
pub check-taken : (p : Params) (s : Station) (tries at seen until delivered : ℕ) (chars : List RxChar) → s.phase ≡ Checking tries → s.own.begin ≤ at
    → may_initiate (after_mark p (after_mark p s (Begin at seen)) (End until delivered chars)).phase ≡ true → arrival_of chars ≡ Token s.address (previous_station s)
check-taken p s tries at seen until delivered chars e since holds =
    idle-takes_first p (record s { phase = Idle None; busy = true }) until delivered chars refl
    (subst (λ (x : Station). may_initiate (after_mark p x (End until delivered chars)).phase ≡ true) (check-ended p s tries at seen e since) holds)

-- what a station hears in the check gives it nothing to say
passes-holder_hears : (s : Station) (a : Arrival) → may_initiate s.phase ≡ false → may_initiate (holder_hears s a).phase ≡ false
passes-holder_hears s (Token da sa) e = e
passes-holder_hears s (Framed f) e = e
passes-holder_hears s Acknowledgement e = e
passes-holder_hears s NoTelegram e = e

passes-mark : (p : Params) (s : Station) (m : Mark) (tries : ℕ) → may_initiate (after_mark p (record s { phase = Checking tries }) m).phase ≡ false
passes-mark p s (Begin at seen) tries =
    by_test (λ (ph : Phase). may_initiate ph ≡ false) (nat_lt at s.own.begin) (Checking tries) (Idle None) (λ _. refl) (λ _. refl)
passes-mark p s (End at seen chars) tries = passes-holder_hears (at_end (record s { phase = Checking tries }) at) (arrival_of chars) refl

passes-phase : (p : Params) (s : Station) (ph : Phase) (m : Mark) (tries : ℕ) → ph ≡ Checking tries → may_initiate (after_mark p (record s { phase = ph }) m).phase ≡ false
passes-phase p s ph m tries e = subst (λ (ph : Phase). may_initiate (after_mark p (record s { phase = ph }) m).phase ≡ false) (sym e) (passes-mark p s m tries)

pub check-passes_nothing : (p : Params) (s : Station) (m : Mark) (tries : ℕ) → s.phase ≡ Checking tries → may_initiate (after_mark p s m).phase ≡ false
check-passes_nothing p s m tries e = passes-phase p s s.phase m tries e

-- ---- silence

abbrev checking : Station → ℕ → Station
checking s tries = record s { phase = Checking tries; busy = false }

pub check-waits : (p : Params) (s : Station) (tries now : ℕ) → now < s.own.end + p.tsl → turn_of p (checking s tries) [] now ≡ (checking s tries, None)
check-waits p s tries now early =
    turn_of-nothing_due p (checking s tries) now
    (subst (λ (o : Option ℕ). IfSome o (λ due. now < due)) (sym (due_in_checking p (checking s tries) tries refl refl)) early)

slot-ended : (p : Params) (s : Station) (tries now : ℕ) → s.own.end + p.tsl ≤ now
    → after_timer p (now + 1) (checking s tries) ≡ not_taken (checking s tries) tries (s.own.end + p.tsl)
slot-ended p s tries now late =
    ap (λ (b : Bool). if b then not_taken (checking s tries) tries (s.own.end + p.tsl) else checking s tries) (lt-ltb (s.own.end + p.tsl) (now + 1) (omega arith))

-- one in Pass that is late says the token
pass-says : (p : Params) (x : Station) (tries t now : ℕ) → x.phase ≡ Pass tries t → t ≤ now → (speech p x (speaks_at x) now).1 ≡ Some (token_octets (next_station x) x.address)
pass-says p x tries t now e late = by_phase x.phase e
  where
    by_phase : (ph : Phase) → ph ≡ Pass tries t
        → (speech p (record x { phase = ph }) (speaks_at (record x { phase = ph })) now).1 ≡ Some (token_octets (next_station x) x.address)
    by_phase ph e =
        subst (λ (ph : Phase). (speech p (record x { phase = ph }) (speaks_at (record x { phase = ph })) now).1 ≡ Some (token_octets (next_station x) x.address)) (sym e)
        (let y = record x { phase = Pass tries t } in ap (λ (b : Bool). (if b then says_token p y tries now else (y, None)).1) (le-leb t now late))

pub check-again : (p : Params) (s : Station) (tries now : ℕ) → s.own.end + p.tsl ≤ now → tries < 3
    → (turn_of p (checking s tries) [] now).1 ≡ Some (token_octets (next_station s) s.address)
check-again p s tries now late few =
    let x = checking s tries in
    let t = s.own.end + p.tsl in
    let y = record x { phase = Pass tries t } in
    ap (λ (z : Station). (speech p z (speaks_at z) now).1)
    (slot-ended p s tries now late
    ∙ ap (λ (b : Bool). if b then record x { phase = Pass 0 t; las = las.removed x.las (next_station x) } else y) (lt-leb 3 tries few))
    ∙ pass-says p y tries t now refl late

pub check-given_up : (p : Params) (s : Station) (now : ℕ) → s.own.end + p.tsl ≤ now
    → (turn_of p (checking s 3) [] now).1 ≡ Some (token_octets (next_station (record s { las = las.removed s.las (next_station s) })) s.address)
check-given_up p s now late =
    let x = checking s 3 in
    let t = s.own.end + p.tsl in
    ap (λ (z : Station). (speech p z (speaks_at z) now).1) (slot-ended p s 3 now late)
    ∙ pass-says p (record x { phase = Pass 0 t; las = las.removed x.las (next_station x) }) 0 t now refl late

-- Which phases lead to which.
use Rattle.std.proofs.Common.{◌≡◌, ℕ, ◌+◌, ◌==◌, ◌||◌, List, Bool, true, false, if◌then◌else◌, refl, ap, sym, ◌∙◌, subst, Option, Some, None}
use Rattle.std.specs.Prelude.{nat_le, max}
use Rattle.std.proofs.lemmas.Bool.{eqb-true}
use Rattle.pb_telegram.specs.declared.chars.RxChar.{RxChar}
use Rattle.pb_timers.specs.Timers.{Params}
use Rattle.pb_ring.specs.Las.{place_of, skips_of}
use Rattle.law_turn.specs.Arrivals.{Arrival, Token, Framed, Acknowledgement, NoTelegram, arrival_of}
use Rattle.law_turn.specs.Hearing.{doubled_by, listening_hears, taking, is_taken_from, skips_limit, token_in_idle, idle_hears, with_token, after_mark}
use Rattle.law_turn.specs.Marks.{Mark, Begin, End}
use Rattle.law_turn.specs.Phases.{Phase, Offline, Listening, Idle, Use, may_initiate}
use Rattle.law_turn.specs.Stations.{Station, previous_station}
use Rattle.law_turn.proofs.Cases.{by_test}

-- ---- what Idle and Listening lead to

-- a property of the phase after a token in Idle
token-in_idle : (Q : Phase → Type 0) (p : Params) (s : Station) (refused : Option ℕ) (at da sa : ℕ)
    → (da == s.address ≡ true → is_taken_from refused (previous_station s) sa ≡ true → Q (Use false (at + p.tid1)))
    → Q (Idle (Some sa)) → Q (Listening false) → Q s.phase → Q (token_in_idle p s refused at da sa).phase
token-in_idle Q p s refused at da sa taken refuses anew same =
    let x = with_token s da sa in
    by_test (λ (y : Station). Q y.phase) (da == s.address) _ _
    (λ own. by_test (λ (y : Station). Q y.phase) (is_taken_from refused (previous_station s) sa) (taking p x at) _
    (λ from. taken own from) (λ _. refuses))
    (λ _. by_test (λ (y : Station). Q y.phase) (nat_le skips_limit (skips_of (place_of x.las.stage))) _ x (λ _. anew) (λ _. same))

-- and of the phase after two tokens of a namesake, or one
pub phase-doubled : (Q : Phase → Type 0) (doubled : Bool) (sa ts : ℕ) → Q Offline → ((d : Bool) → Q (Listening d)) → Q (doubled_by doubled sa ts)
phase-doubled Q doubled sa ts gone listens =
    by_test Q (sa == ts) (if doubled then Offline else Listening true) (Listening doubled)
    (λ _. by_test Q doubled Offline (Listening true) (λ _. gone) (λ _. listens true)) (λ _. listens doubled)

phase-listening : (Q : Phase → Type 0) (p : Params) (s : Station) (doubled : Bool) (at : ℕ) (a : Arrival) → Q Offline → ((d : Bool) → Q (Listening d)) → Q s.phase
    → Q (listening_hears p s doubled at a).phase
phase-listening Q p s doubled at (Token da sa) gone listens same = phase-doubled Q doubled sa s.address gone listens
phase-listening Q p s doubled at (Framed f) gone listens same = same
phase-listening Q p s doubled at Acknowledgement gone listens same = same
phase-listening Q p s doubled at NoTelegram gone listens same = same

-- the station as an end finds it
abbrev pub at_end : Station → ℕ → Station
at_end s at = record s { busy = false; quiet = max s.quiet at }

-- ---- who takes the token

-- a station that listens takes none
listening-mark : (p : Params) (s : Station) (ph : Phase) (m : Mark) (doubled : Bool) → ph ≡ Listening doubled
    → may_initiate (after_mark p (record s { phase = ph }) m).phase ≡ false
listening-mark p s ph (Begin at seen) doubled e = subst (λ (ph : Phase). may_initiate (after_mark p (record s { phase = ph }) (Begin at seen)).phase ≡ false) (sym e) refl
listening-mark p s ph (End at seen chars) doubled e =
    subst (λ (ph : Phase). may_initiate (after_mark p (record s { phase = ph }) (End at seen chars)).phase ≡ false) (sym e)
    (phase-listening (λ ph. may_initiate ph ≡ false) p (at_end (record s { phase = Listening doubled }) at) doubled at (arrival_of chars) refl (λ _. refl) refl)

pub listening-takes_none : (p : Params) (s : Station) (m : Mark) (doubled : Bool) → s.phase ≡ Listening doubled → may_initiate (after_mark p s m).phase ≡ false
listening-takes_none p s m doubled e = listening-mark p s s.phase m doubled e

or_false : (b : Bool) → b || false ≡ true → b ≡ true
or_false true e = refl
or_false false e = e

-- a station in Idle that has refused nobody takes a token from its previous station alone
pub idle-takes : (p : Params) (s : Station) (at : ℕ) (a : Arrival) → s.phase ≡ Idle None
    → may_initiate (idle_hears p s None at a).phase ≡ true → a ≡ Token s.address (previous_station s)
idle-takes p s at (Token da sa) e holds =
    (token-in_idle (λ ph. may_initiate ph ≡ true → Token da sa ≡ Token s.address (previous_station s)) p s None at da sa
    (λ own from holds. ap (λ d. Token d sa) (eqb-true da s.address own) ∙ ap (λ x. Token s.address x) (eqb-true sa (previous_station s) (or_false (sa == previous_station s) from)))
    (λ holds. absurd (let wrong : false ≡ true = holds in cc))
    (λ holds. absurd (let wrong : false ≡ true = holds in cc))
    (λ holds. absurd (let wrong : false ≡ true = sym (ap may_initiate e) ∙ holds in cc))) holds
idle-takes p s at (Framed f) e holds = absurd (let wrong : false ≡ true = sym (ap may_initiate e) ∙ holds in cc)
idle-takes p s at Acknowledgement e holds = absurd (let wrong : false ≡ true = sym (ap may_initiate e) ∙ holds in cc)
idle-takes p s at NoTelegram e holds = absurd (let wrong : false ≡ true = sym (ap may_initiate e) ∙ holds in cc)

idle-mark : (p : Params) (s : Station) (ph : Phase) (at seen : ℕ) (chars : List RxChar) → ph ≡ Idle None
    → may_initiate (after_mark p (record s { phase = ph }) (End at seen chars)).phase ≡ true → arrival_of chars ≡ Token s.address (previous_station s)
idle-mark p s ph at seen chars e =
    subst (λ (ph : Phase). may_initiate (after_mark p (record s { phase = ph }) (End at seen chars)).phase ≡ true → arrival_of chars ≡ Token s.address (previous_station s)) (sym e)
    (idle-takes p (at_end (record s { phase = Idle None }) at) at (arrival_of chars) refl)

pub idle-takes_first : (p : Params) (s : Station) (at seen : ℕ) (chars : List RxChar) → s.phase ≡ Idle None
    → may_initiate (after_mark p s (End at seen chars)).phase ≡ true → arrival_of chars ≡ Token s.address (previous_station s)
idle-takes_first p s at seen chars e = idle-mark p s s.phase at seen chars e

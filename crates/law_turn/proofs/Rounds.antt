-- When a station looks for others, and who its neighbours are.
use Rattle.std.proofs.Common.{◌≡◌, ◌∙◌, ℕ, ◌+◌, ◌*◌, ◌<◌, ◌≤◌, ◌&&◌, List, Bool, true, false, not, if◌then◌else◌, refl, ap, Option, None}
use Rattle.std.proofs.lemmas.Bool.{le-leb, lt-leb}
use Rattle.pb_timers.specs.Timers.{Params}
use Rattle.pb_ring.specs.AddressSets.{next_address, previous_address}
use Rattle.pb_ring.specs.Gap.{is_due, next_asked, last_asked}
use Rattle.pb_ring.specs.Las.{members_of}
use Rattle.pb_ring.specs.declared.gaps.Round.{Round}
use Rattle.pb_ring.specs.declared.gaps.Round.TheVariants.{Open, Closed}
use Rattle.pb_rotation.specs.Rotation.{may_low}
use Rattle.pb_cycles.specs.RequestFields.{RequestFields}
use Rattle.law_turn.specs.Phases.{Use}
use Rattle.law_turn.specs.Stations.{Station, next_station, previous_station}
use Rattle.law_turn.specs.Turns.{looks_at_gap, high_request, low_request, says_token, says_look, says_no_request, says_low, says_high, phase_says}
use Rattle.law_turn.proofs.Cases.{and-false}

-- one that uses the token
abbrev using : Station → Bool → ℕ → Station
using s asked ready = record s { phase = Use asked ready }

-- where no request may be sent
no-request : (p : Params) (s : Station) (asked : Bool) (ready now : ℕ) → high_request s now ≡ None → low_request s now ≡ None
    → phase_says p (using s asked ready) (Use asked ready) now ≡ says_no_request p (using s asked ready) asked now
no-request p s asked ready now no_high no_low =
    ap (λ (o : Option RequestFields). says_high p (using s asked ready) asked o now) no_high
    ∙ ap (λ (o : Option RequestFields). says_low p (using s asked ready) asked o now) no_low

-- a look, or the token, by whether the station looks
by-look : (p : Params) (s : Station) (asked : Bool) (ready now : ℕ) (b : Bool) → high_request s now ≡ None → low_request s now ≡ None → looks_at_gap p s asked now ≡ b
    → phase_says p (using s asked ready) (Use asked ready) now
    ≡ (if b then says_look p (using s asked ready) (next_asked s.address (next_station s) p.hsa (last_asked s.gap)) now else says_token p (using s asked ready) 0 now)
by-look p s asked ready now b no_high no_low looks =
    no-request p s asked ready now no_high no_low
    ∙ ap (λ (b : Bool). if b then says_look p (using s asked ready) (next_asked s.address (next_station s) p.hsa (last_asked s.gap)) now else says_token p (using s asked ready) 0 now) looks

pub round-waits : (p : Params) (s : Station) (asked : Bool) (ready now closed : ℕ) → high_request s now ≡ None → low_request s now ≡ None
    → s.gap ≡ Closed closed → now < closed + p.gap * p.ttr
    → phase_says p (using s asked ready) (Use asked ready) now ≡ says_token p (using s asked ready) 0 now
round-waits p s asked ready now closed no_high no_low is early =
    by-look p s asked ready now false no_high no_low
    (ap (λ (g : Round). may_low s.rotation now && (not asked && is_due g now p.ttr p.gap)) is
    ∙ and-false (may_low s.rotation now) _
    (and-false (not asked) (is_due (Closed closed) now p.ttr p.gap) (lt-leb (closed + p.gap * p.ttr) now early)))

-- a look of one that has asked nobody, and has time
looks : (p : Params) (s : Station) (now : ℕ) (g : Round) → may_low s.rotation now ≡ true → s.gap ≡ g → is_due g now p.ttr p.gap ≡ true → looks_at_gap p s false now ≡ true
looks p s now g time is due =
    ap (λ (b : Bool). b && is_due s.gap now p.ttr p.gap) time ∙ ap (λ (x : Round). is_due x now p.ttr p.gap) is ∙ due

pub round-begins : (p : Params) (s : Station) (ready now closed : ℕ) → high_request s now ≡ None → low_request s now ≡ None → may_low s.rotation now ≡ true
    → s.gap ≡ Closed closed → closed + p.gap * p.ttr ≤ now
    → phase_says p (using s false ready) (Use false ready) now ≡ says_look p (using s false ready) (next_asked s.address (next_station s) p.hsa None) now
round-begins p s ready now closed no_high no_low time is due =
    by-look p s false ready now true no_high no_low (looks p s now (Closed closed) time is (le-leb (closed + p.gap * p.ttr) now due))
    ∙ ap (λ (g : Round). says_look p (using s false ready) (next_asked s.address (next_station s) p.hsa (last_asked g)) now) is

pub round-goes_on : (p : Params) (s : Station) (ready now : ℕ) (last : Option ℕ) → high_request s now ≡ None → low_request s now ≡ None → may_low s.rotation now ≡ true
    → s.gap ≡ Open last
    → phase_says p (using s false ready) (Use false ready) now ≡ says_look p (using s false ready) (next_asked s.address (next_station s) p.hsa last) now
round-goes_on p s ready now last no_high no_low time is =
    by-look p s false ready now true no_high no_low (looks p s now (Open last) time is refl)
    ∙ ap (λ (g : Round). says_look p (using s false ready) (next_asked s.address (next_station s) p.hsa (last_asked g)) now) is

-- ---- neighbours

pub next-of : (s : Station) (a : ℕ) (xs : List ℕ) → s.address ≡ a → members_of s.las.stage ≡ xs → next_station s ≡ next_address a xs
next-of s a xs own is = ap (λ (n : ℕ). next_address n (members_of s.las.stage)) own ∙ ap (next_address a) is

pub previous-of : (s : Station) (a : ℕ) (xs : List ℕ) → s.address ≡ a → members_of s.las.stage ≡ xs → previous_station s ≡ previous_address a xs
previous-of s a xs own is = ap (λ (n : ℕ). previous_address n (members_of s.las.stage)) own ∙ ap (previous_address a) is

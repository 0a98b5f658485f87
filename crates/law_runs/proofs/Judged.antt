-- What one pass over a trace says is what the whole trace says.
use Rattle.std.proofs.Common.{◌≡◌, ◌∙◌, ap, sym, refl, arith, ℕ, ◌+◌, ◌-◌, ◌<◌, ◌≤◌, ◌==◌, ◌||◌, ◌&&◌, nat_lt, nat_le, not, List, [], ◌∷◌, ◌++◌, append_assoc, Bool, true, false, if◌then◌else◌, Option, Some, None}
use Rattle.std.specs.Prelude.{slice_get, max}
use Rattle.std.specs.List.{list_any}
use Rattle.std.proofs.Math.Bool.{or-false, and-false}
use Rattle.std.proofs.lemmas.Bool.{ltb-true, ltb-false, lt-ltb, le-ltb, leb-true, lt-leb, le-leb, eq-eqb, eqb-true}
use Rattle.pb_timers.specs.Timers.{Params, tto}
use Rattle.law_turn.specs.Spans.{Span}
use Rattle.law_model.specs.Trace.{Record, Entry, Sent, Noise, entry_begin}
use Rattle.law_model.specs.Medium.{TapSpec, reaches, reaches_taps}
use Rattle.law_model.proofs.Cases.{by_test}
use Rattle.law_runs.specs.Activity.{active_at, is_within, is_silent}
use Rattle.law_runs.specs.Initiators.{telegram_of, is_initiator, offered_to, claims_for}
use Rattle.law_runs.specs.Legality.{is_whole, address_at, is_claim, follows_token, follows_by, is_legal_after, first_illegal_from, first_illegal}
use Rattle.law_runs.specs.Judging.{IsOrderedFrom, IsOrdered, latest_end, AllReached, LastInitiator, is_in_slot, slot_after, claims_after, takes_after, goes_on_after, may_follow, judged_from}

-- ---- what is active between two moments

abbrev any_active : (delay tap from to : ℕ) → List Entry → Bool
any_active delay tap from to es = list_any (λ e. is_within from to (active_at delay tap e)) es

or-assoc : (a b c : Bool) → ((a || b) || c) ≡ (a || (b || c))
or-assoc true b c = refl
or-assoc false b c = refl

pub any-append : (delay tap from to : ℕ) (xs ys : List Entry) → any_active delay tap from to (xs ++ ys) ≡ (any_active delay tap from to xs || any_active delay tap from to ys)
any-append delay tap from to [] ys = refl
any-append delay tap from to (x ∷ xs) ys =
    let one = is_within from to (active_at delay tap x) in
    ap (λ b. one || b) (any-append delay tap from to xs ys) ∙ sym (or-assoc one (any_active delay tap from to xs) (any_active delay tap from to ys))

-- an entry is active at a tap when it begins, or later, and before it ends at the taps of others, or when it does
pub active-late : (delay tap : ℕ) (e : Entry) → entry_begin e ≤ (active_at delay tap e).begin
active-late delay tap (Noise span) = omega arith
active-late delay tap (Sent r) =
    by_test (λ (s : Span). r.begin ≤ s.begin) (r.tap == tap) (record { begin = r.begin; end = r.end }) (reaches delay r) (λ _. omega arith) (λ _. omega arith)

pub active-soon : (delay tap : ℕ) (e : Entry) → (active_at delay tap e).begin ≤ (reaches_taps delay e).begin
active-soon delay tap (Noise span) = omega arith
active-soon delay tap (Sent r) =
    by_test (λ (s : Span). s.begin ≤ r.begin + delay) (r.tap == tap) (record { begin = r.begin; end = r.end }) (reaches delay r) (λ _. omega arith) (λ _. omega arith)

-- what begins too late is not active between
none-later : (delay tap from to late : ℕ) (es : List Entry) → to ≤ late → IsOrderedFrom late es → any_active delay tap from to es ≡ false
none-later delay tap from to late [] h ordered = refl
none-later delay tap from to late (e ∷ es) h (here, lasts, rest) =
    ap (λ b. (b && nat_lt from (active_at delay tap e).end) || any_active delay tap from to es) (le-ltb (active_at delay tap e).begin to (omega (arith, h, here, active-late delay tap e)))
    ∙ none-later delay tap from to (entry_begin e) es (omega (arith, h, here)) rest

up-to : (delay tap from to late : ℕ) (earlier es : List Entry) → to ≤ late → IsOrderedFrom late es → is_silent delay tap (earlier ++ es) from to ≡ is_silent delay tap earlier from to
up-to delay tap from to late earlier es h ordered =
    ap not (any-append delay tap from to earlier es ∙ ap (λ b. any_active delay tap from to earlier || b) (none-later delay tap from to late es h ordered) ∙ or-false (any_active delay tap from to earlier))

-- one entry more
any-snoc : (delay tap from to : ℕ) (xs : List Entry) (e : Entry) → any_active delay tap from to (xs ++ e ∷ []) ≡ (any_active delay tap from to xs || is_within from to (active_at delay tap e))
any-snoc delay tap from to xs e =
    any-append delay tap from to xs (e ∷ []) ∙ ap (λ b. any_active delay tap from to xs || b) (or-false (is_within from to (active_at delay tap e)))

-- ---- the latest end

not-or : (a b : Bool) → not (a || b) ≡ (not a && not b)
not-or true b = refl
not-or false b = refl

lt-max : (x a b : ℕ) → (nat_lt x a || nat_lt x b) ≡ nat_lt x (max a b)
lt-max x a b = by (nat_lt x a) (nat_lt x b) refl refl
  where
    by : (p q : Bool) → nat_lt x a ≡ p → nat_lt x b ≡ q → (p || q) ≡ nat_lt x (max a b)
    by true q one two = sym (lt-ltb x (max a b) (omega (arith, ltb-true x a one)))
    by false true one two = sym (lt-ltb x (max a b) (omega (arith, ltb-true x b two)))
    by false false one two = sym (le-ltb x (max a b) (omega (arith, ltb-false x a one, ltb-false x b two)))

not-lt : (a b : ℕ) → not (nat_lt a b) ≡ nat_le b a
not-lt a b = by (nat_lt a b) refl
  where
    by : (p : Bool) → nat_lt a b ≡ p → not p ≡ nat_le b a
    by true less = sym (lt-leb b a (omega (arith, ltb-true a b less)))
    by false least = sym (le-leb b a (omega (arith, ltb-false a b least)))

active-latest : (delay tap from to : ℕ) (es : List Entry) → AllReached delay to es → any_active delay tap from to es ≡ nat_lt from (latest_end delay tap es)
active-latest delay tap from to [] reached = sym (le-ltb from 0 (omega arith))
active-latest delay tap from to (e ∷ es) reached =
    ap (λ b. (b && nat_lt from (active_at delay tap e).end) || any_active delay tap from to es) (lt-ltb (active_at delay tap e).begin to (omega (arith, active-soon delay tap e, reached.0)))
    ∙ ap (λ b. nat_lt from (active_at delay tap e).end || b) (active-latest delay tap from to es reached.1)
    ∙ lt-max from (active_at delay tap e).end (latest_end delay tap es)

-- of entries of which the first have begun at all taps, the latest end of these and the others decide whether a tap was in silence
pub silent-by : (delay tap from to : ℕ) (reached fresh : List Entry) → AllReached delay to reached
    → is_silent delay tap (reached ++ fresh) from to ≡ (nat_le (latest_end delay tap reached) from && not (any_active delay tap from to fresh))
silent-by delay tap from to reached fresh all =
    ap not (any-append delay tap from to reached fresh) ∙ not-or (any_active delay tap from to reached) (any_active delay tap from to fresh)
    ∙ ap (λ b. not b && not (any_active delay tap from to fresh)) (active-latest delay tap from to reached all)
    ∙ ap (λ b. b && not (any_active delay tap from to fresh)) (not-lt from (latest_end delay tap reached))

pub latest-more : (delay tap : ℕ) (es : List Entry) (e : Entry) → latest_end delay tap (es ++ e ∷ []) ≡ max (latest_end delay tap es) (active_at delay tap e).end
latest-more delay tap [] e = omega arith
latest-more delay tap (x ∷ xs) e = omega (arith, latest-more delay tap xs e)

pub reached-more : (delay moment : ℕ) (es : List Entry) (e : Entry) → AllReached delay moment es → (reaches_taps delay e).begin < moment → AllReached delay moment (es ++ e ∷ [])
reached-more delay moment [] e all here = (here, tt)
reached-more delay moment (x ∷ xs) e all here = (all.0, reached-more delay moment xs e all.1 here)

pub reached-later : (delay m n : ℕ) (es : List Entry) → m ≤ n → AllReached delay m es → AllReached delay n es
reached-later delay m n [] le all = tt
reached-later delay m n (e ∷ es) le all = (omega (arith, all.0, le), reached-later delay m n es le all.1)

-- ---- the last initiator record

abbrev telegram_in : Option LastInitiator → Option Record
telegram_in None = None
telegram_in (Some last) = Some last.telegram

-- the slot behind it is known as far as the entries go
abbrev IsLast : (delay tsl : ℕ) → List Entry → Option LastInitiator → Type 0
IsLast delay tsl earlier None = Unit {0}
IsLast delay tsl earlier (Some last) = last.silent ≡ is_silent delay last.telegram.tap earlier last.telegram.end (last.telegram.end + tsl)

slot-goes-on : (delay tsl : ℕ) (earlier : List Entry) (e : Entry) (last : Option LastInitiator) → IsLast delay tsl earlier last → IsLast delay tsl (earlier ++ e ∷ []) (slot_after delay tsl e last)
slot-goes-on delay tsl earlier e None is = tt
slot-goes-on delay tsl earlier e (Some last) is =
    let from = last.telegram.end in
    let to = last.telegram.end + tsl in
    let tap = last.telegram.tap in
    ap (λ b. b && not (is_in_slot delay tsl last.telegram e)) is ∙ sym (not-or (any_active delay tap from to earlier) (is_in_slot delay tsl last.telegram e)) ∙ sym (ap not (any-snoc delay tap from to earlier e))

slot-telegram : (delay tsl : ℕ) (e : Entry) (last : Option LastInitiator) → telegram_in (slot_after delay tsl e last) ≡ telegram_in last
slot-telegram delay tsl e None = refl
slot-telegram delay tsl e (Some last) = refl

-- a telegram is not active in the slot behind it
own-slot : (delay tsl : ℕ) (r : Record) → is_in_slot delay tsl r (Sent r) ≡ false
own-slot delay tsl r =
    ap (λ (b : Bool). is_within r.end (r.end + tsl) (if b then record { begin = r.begin; end = r.end } else reaches delay r)) (eq-eqb r.tap r.tap refl)
    ∙ ap (λ b. nat_lt r.begin (r.end + tsl) && b) (le-ltb r.end r.end (omega arith)) ∙ and-false (nat_lt r.begin (r.end + tsl))

last-begins : (delay tsl : ℕ) (earlier : List Entry) (r : Record) → is_silent delay r.tap earlier r.end (r.end + tsl) ≡ is_silent delay r.tap (earlier ++ Sent r ∷ []) r.end (r.end + tsl)
last-begins delay tsl earlier r =
    sym (ap not (any-snoc delay r.tap r.end (r.end + tsl) earlier (Sent r) ∙ ap (λ b. any_active delay r.tap r.end (r.end + tsl) earlier || b) (own-slot delay tsl r) ∙ or-false (any_active delay r.tap r.end (r.end + tsl) earlier)))

-- ---- one record

claims-alike : (p : Params) (specs : List TapSpec) (earlier es : List Entry) (r : Record) → IsOrderedFrom r.begin es → claims_after p specs earlier r ≡ is_claim p specs (earlier ++ es) r
claims-alike p specs earlier es r ordered =
    let address = address_at specs r.tap in
    ap (λ b. claims_for address (telegram_of r) && b) (sym (up-to p.ttd r.tap (r.begin - tto p address) r.begin r.begin earlier es (omega arith) ordered))

takes-alike : (p : Params) (specs : List TapSpec) (earlier es : List Entry) (last : LastInitiator) (to : ℕ) (r : Record) → IsLast p.ttd p.tsl earlier (Some last)
    → IsOrderedFrom r.begin es → takes_after p specs last to r ≡ follows_token p specs (earlier ++ es) last.telegram to r
takes-alike p specs earlier es last to r is ordered = by (last.telegram.tap == r.tap) refl
  where
    end : ℕ
    end = last.telegram.end

    others : Bool
    others = to == address_at specs r.tap && is_whole (slice_get last.telegram.heard r.tap) && nat_lt r.begin (end + p.tsl)

    over : (b : Bool) → nat_le (end + p.tsl) r.begin ≡ b → last.telegram.tap ≡ r.tap
        → (b && last.silent) ≡ (b && is_silent p.ttd r.tap (earlier ++ es) end (end + p.tsl))
    over false late same = refl
    over true late same =
        is ∙ ap (λ (k : ℕ). is_silent p.ttd k earlier end (end + p.tsl)) same
        ∙ sym (up-to p.ttd r.tap end (end + p.tsl) r.begin earlier es (leb-true (end + p.tsl) r.begin late) ordered)

    by : (b : Bool) → (last.telegram.tap == r.tap) ≡ b
        → (if b then nat_le (end + p.tsl) r.begin && last.silent else others) ≡ (if b then nat_le (end + p.tsl) r.begin && is_silent p.ttd r.tap (earlier ++ es) end (end + p.tsl) else others)
    by false other = refl
    by true own = over (nat_le (end + p.tsl) r.begin) refl (eqb-true last.telegram.tap r.tap own)

follows-alike : (p : Params) (specs : List TapSpec) (earlier es : List Entry) (last : LastInitiator) (offer : Option ℕ) (r : Record) → IsLast p.ttd p.tsl earlier (Some last)
    → IsOrderedFrom r.begin es → goes_on_after p specs last offer r ≡ follows_by p specs (earlier ++ es) last.telegram offer r
follows-alike p specs earlier es last None r is ordered = refl
follows-alike p specs earlier es last (Some to) r is ordered = takes-alike p specs earlier es last to r is ordered

legal-alike : (p : Params) (specs : List TapSpec) (earlier es : List Entry) (last : Option LastInitiator) (r : Record)
    → IsLast p.ttd p.tsl earlier last → IsOrderedFrom r.begin es → may_follow p specs earlier last r ≡ is_legal_after p specs (earlier ++ es) (telegram_in last) r
legal-alike p specs earlier es None r is ordered = claims-alike p specs earlier es r ordered
legal-alike p specs earlier es (Some last) r is ordered =
    ap (λ b. nat_le last.telegram.end r.begin && (b || claims_after p specs earlier r)) (follows-alike p specs earlier es last (offered_to last.telegram) r is ordered)
    ∙ ap (λ b. nat_le last.telegram.end r.begin && (follows_by p specs (earlier ++ es) last.telegram (offered_to last.telegram) r || b))
    (claims-alike p specs earlier es r ordered)

-- ---- the pass

judged-alike : (p : Params) (specs : List TapSpec) (earlier es : List Entry) (last : Option LastInitiator) (from place : ℕ)
    → IsLast p.ttd p.tsl earlier last → IsOrderedFrom from es
    → judged_from p specs earlier last place es ≡ first_illegal_from p specs (earlier ++ es) (telegram_in last) place es
judged-alike p specs earlier [] last from place is ordered = refl
judged-alike p specs earlier (Noise span ∷ es) last from place is (here, lasts, rest) =
    judged-alike p specs (earlier ++ Noise span ∷ []) es (slot_after p.ttd p.tsl (Noise span) last) span.begin (place + 1)
    (slot-goes-on p.ttd p.tsl earlier (Noise span) last is) rest
    ∙ ap (λ es'. first_illegal_from p specs es' (telegram_in (slot_after p.ttd p.tsl (Noise span) last)) (place + 1) es) (append_assoc earlier (Noise span ∷ []) es)
    ∙ ap (λ l. first_illegal_from p specs (earlier ++ Noise span ∷ es) l (place + 1) es) (slot-telegram p.ttd p.tsl (Noise span) last)
judged-alike p specs earlier (Sent r ∷ es) last from place is (here, lasts, rest) =
    by (λ next place' known. judged-alike p specs (earlier ++ Sent r ∷ []) es next r.begin place' known rest) (is_initiator r) (may_follow p specs earlier last r) refl
    (sym (legal-alike p specs earlier (Sent r ∷ es) last r is (omega arith, lasts, rest)))
  where
    by : ((next : Option LastInitiator) (place' : ℕ) → IsLast p.ttd p.tsl (earlier ++ Sent r ∷ []) next
        → judged_from p specs (earlier ++ Sent r ∷ []) next place' es ≡ first_illegal_from p specs ((earlier ++ Sent r ∷ []) ++ es) (telegram_in next) place' es)
        → (initiator legal : Bool) → is_initiator r ≡ initiator → is_legal_after p specs (earlier ++ Sent r ∷ es) (telegram_in last) r ≡ legal
        → (if not initiator || legal then judged_from p specs (earlier ++ Sent r ∷ [])
        (if initiator then Some (record { telegram = r; silent = is_silent p.ttd r.tap earlier r.end (r.end + p.tsl) }) else slot_after p.ttd p.tsl (Sent r) last) (place + 1) es
        else Some place)
        ≡ (if initiator then (if is_legal_after p specs (earlier ++ Sent r ∷ es) (telegram_in last) r then first_illegal_from p specs (earlier ++ Sent r ∷ es) (Some r) (place + 1) es else Some place)
        else first_illegal_from p specs (earlier ++ Sent r ∷ es) (telegram_in last) (place + 1) es)
    by more false legal one two =
        let next = slot_after p.ttd p.tsl (Sent r) last in
        more next (place + 1) (slot-goes-on p.ttd p.tsl earlier (Sent r) last is)
        ∙ ap (λ es'. first_illegal_from p specs es' (telegram_in next) (place + 1) es) (append_assoc earlier (Sent r ∷ []) es)
        ∙ ap (λ l. first_illegal_from p specs (earlier ++ Sent r ∷ es) l (place + 1) es) (slot-telegram p.ttd p.tsl (Sent r) last)
    by more true true one two =
        let next : Option LastInitiator = Some (record { telegram = r; silent = is_silent p.ttd r.tap earlier r.end (r.end + p.tsl) }) in
        more next (place + 1) (last-begins p.ttd p.tsl earlier r)
        ∙ ap (λ es'. first_illegal_from p specs es' (Some r) (place + 1) es) (append_assoc earlier (Sent r ∷ []) es)
        ∙ sym (ap (λ b. if b then first_illegal_from p specs (earlier ++ Sent r ∷ es) (Some r) (place + 1) es else Some place) two)
    by more true false one two =
        sym (ap (λ b. if b then first_illegal_from p specs (earlier ++ Sent r ∷ es) (Some r) (place + 1) es else Some place) two)

-- one pass over a trace in order finds its first illegal record
pub judged : (p : Params) (specs : List TapSpec) (trace : List Entry) → IsOrdered trace → judged_from p specs [] None 0 trace ≡ first_illegal p specs trace
judged p specs trace ordered = judged-alike p specs [] trace None 0 0 tt ordered

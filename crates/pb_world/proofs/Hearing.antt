-- What a judge keeps of the entries on the bus.
use Rattle.std.proofs.Common.{◌≡◌, ◌∙◌, ap, sym, refl, arith, ℕ, zero, suc, ⊎_elim, ◌+◌, ◌-◌, ◌<◌, ◌≤◌, ◌==◌, ◌&&◌, ◌||◌, not, List, [], ◌∷◌, length, map, get_or, replicate, Bool, true, false, nat_lt, nat_le, if◌then◌else◌, Option, Some, None}
use Rattle.std.specs.Prelude.{slice_get, slice_set}
use Rattle.std.proofs.lemmas.Bool.{lt-ltb, le-ltb, le-leb, lt-leb, eqb-true, eqb-false, ne_eqb, cases_lt}
use Rattle.std.proofs.lemmas.List.{get_or-set_same, get_or-set_other}
use Rattle.pb_timers.specs.Timers.{Params, tto}
use Rattle.law_runs.specs.Activity.{is_silent}
use Rattle.law_runs.specs.Initiators.{telegram_of, offered_to, claims_for}
use Rattle.law_runs.specs.Judging.{LastInitiator, takes_after, goes_on_after}
use Rattle.law_runs.specs.Legality.{is_whole, address_at}
use Rattle.law_streams.specs.Judgement.{Kept, was_silent, claims_by, follows_last}
use Rattle.law_streams.proofs.Judgement.{no-address}
use Rattle.pb_world.specs.Judges.{IsLast, IsLastOf, addresses_in}
use Rattle.pb_world.specs.declared.last_heard.LastHeard.{LastHeard}
use Rattle.pb_taps.specs.Taps.{spec_of}
use Rattle.pb_taps.specs.declared.taps.TapSpec as declared
use Rattle.law_model.specs.Trace.{Record, Entry}
use Rattle.law_model.specs.Medium.{TapSpec, reaches_taps}
use Rattle.law_streams.specs.Judgement.{ends_with, ends_by, recent_at}

-- lists of the same length with the same numbers are the same
pub same-numbers : (xs ys : List ℕ) → length xs ≡ length ys → ((k : ℕ) → k < length xs → get_or xs k 0 ≡ get_or ys k 0) → xs ≡ ys
same-numbers [] [] long same = refl
same-numbers [] (y ∷ ys) long same = absurd (omega (arith, long))
same-numbers (x ∷ xs) [] long same = absurd (omega (arith, long))
same-numbers (x ∷ xs) (y ∷ ys) long same =
    ap (λ z. z ∷ xs) (same 0 (omega arith)) ∙ ap (λ zs. y ∷ zs) (same-numbers xs ys (omega (arith, long)) (λ k there. same (suc k) (omega (arith, there))))

-- the first of some entries has begun at all taps before a moment, or not
pub ends-go-on : (delay moment : ℕ) (ends : List ℕ) (e : Entry) (es : List Entry) → (reaches_taps delay e).begin < moment
    → ends_by delay moment ends (e ∷ es) ≡ ends_by delay moment (ends_with delay 0 e ends) es
ends-go-on delay moment ends e es before = ap (λ b. if b then ends_by delay moment (ends_with delay 0 e ends) es else ends) (lt-ltb (reaches_taps delay e).begin moment before)

pub recent-go-on : (delay moment : ℕ) (e : Entry) (es : List Entry) → (reaches_taps delay e).begin < moment → recent_at delay moment (e ∷ es) ≡ recent_at delay moment es
recent-go-on delay moment e es before = ap (λ b. if b then recent_at delay moment es else e ∷ es) (lt-ltb (reaches_taps delay e).begin moment before)

pub ends-stop : (delay moment : ℕ) (ends : List ℕ) (e : Entry) (es : List Entry) → moment ≤ (reaches_taps delay e).begin → ends_by delay moment ends (e ∷ es) ≡ ends
ends-stop delay moment ends e es late = ap (λ b. if b then ends_by delay moment (ends_with delay 0 e ends) es else ends) (le-ltb (reaches_taps delay e).begin moment late)

pub recent-stop : (delay moment : ℕ) (e : Entry) (es : List Entry) → moment ≤ (reaches_taps delay e).begin → recent_at delay moment (e ∷ es) ≡ e ∷ es
recent-stop delay moment e es late = ap (λ b. if b then recent_at delay moment es else e ∷ es) (le-ltb (reaches_taps delay e).begin moment late)

-- ---- the rules

-- one more of the first values is a function's
pub set-more : (f : ℕ → Bool) (xs : List Bool) (tap : ℕ) (v : Bool) → tap < length xs → v ≡ f tap → ((k : ℕ) → k < tap → get_or xs k false ≡ f k)
    → (k : ℕ) → k < tap + 1 → get_or (slice_set xs tap v) k false ≡ f k
set-more f xs tap v there is so_far k small = by (k == tap) refl
  where
    by : (b : Bool) → (k == tap) ≡ b → get_or (slice_set xs tap v) k false ≡ f k
    by true here =
        let same : k ≡ tap = eqb-true k tap here in
        ap (λ n. get_or (slice_set xs tap v) n false) same ∙ get_or-set_same xs tap v false there ∙ is ∙ ap f (sym same)
    by false other =
        let apart = eqb-false k tap other in
        get_or-set_other xs tap k v false apart ∙ so_far k (omega (arith, small, apart))

-- a tap takes a token that it received whole
pub takes-by : (specs : List TapSpec) (m : LastInitiator) (last : LastHeard) (address to tap : ℕ) → IsLast (length specs) m last → address ≡ address_at specs tap → to < 127
    → (to == address && get_or last.whole tap false) ≡ (to == address_at specs tap && is_whole (slice_get m.telegram.heard tap))
takes-by specs m last address to tap is at less =
    ap (λ n. to == n && get_or last.whole tap false) at ∙ ⊎_elim
    (λ (within : tap < length specs). ap (λ b. to == address_at specs tap && b) (is.whole tap within))
    (λ (past : length specs ≤ tap).
    let none : (to == address_at specs tap) ≡ false = ne_eqb to (address_at specs tap) (λ (e : to ≡ address_at specs tap). omega (arith, e, no-address specs tap past, less)) in
    ap (λ b. b && get_or last.whole tap false) none ∙ sym (ap (λ b. b && is_whole (slice_get m.telegram.heard tap)) none))
    (cases_lt tap (length specs))

not-late : (a b : ℕ) → not (nat_le a b) ≡ nat_lt b a
not-late a b = ⊎_elim (λ (less : b < a). ap not (lt-leb a b less) ∙ sym (lt-ltb b a less)) (λ (least : a ≤ b). ap not (le-leb a b least) ∙ sym (le-ltb b a least)) (cases_lt b a)

pub other-takes : (p : Params) (specs : List TapSpec) (m : LastInitiator) (to : ℕ) (r : Record) (took late : Bool) → (m.telegram.tap ≡ r.tap → ⊥)
    → took ≡ (to == address_at specs r.tap && is_whole (slice_get m.telegram.heard r.tap)) → late ≡ nat_le (m.telegram.end + p.tsl) r.begin
    → (took && not late) ≡ takes_after p specs m to r
other-takes p specs m to r took late apart takes is =
    let found : Bool = to == address_at specs r.tap && is_whole (slice_get m.telegram.heard r.tap) in
    ap (λ b. b && not late) takes ∙ ap (λ b. found && not b) is ∙ ap (λ b. found && b) (not-late (m.telegram.end + p.tsl) r.begin)
    ∙ sym (ap (λ b. if b then nat_le (m.telegram.end + p.tsl) r.begin && m.silent else found && nat_lt r.begin (m.telegram.end + p.tsl)) (ne_eqb m.telegram.tap r.tap apart))

-- a claim, by what is kept
pub claims-kept : (p : Params) (specs : List TapSpec) (k : Kept) (r : Record) (address from : ℕ) (claim silent : Bool) → address ≡ address_at specs r.tap
    → claim ≡ claims_for address (telegram_of r) → from ≡ r.begin - tto p address
    → silent ≡ (nat_le (get_or k.ends r.tap 0) from && is_silent p.ttd r.tap k.recent from r.begin) → (claim && silent) ≡ claims_by p specs k r
claims-kept p specs k r address from claim silent at claims since was =
    ap (λ b. b && silent) claims ∙ ap (λ b. claims_for address (telegram_of r) && b) was
    ∙ ap (λ n. claims_for address (telegram_of r) && (nat_le (get_or k.ends r.tap 0) n && is_silent p.ttd r.tap k.recent n r.begin)) since
    ∙ ap (λ n. claims_for n (telegram_of r) && was_silent k p.ttd r.tap (r.begin - tto p n) r.begin) at

pub claims-not : (p : Params) (specs : List TapSpec) (k : Kept) (r : Record) (address : ℕ) (claim : Bool) → address ≡ address_at specs r.tap
    → claim ≡ claims_for address (telegram_of r) → claim ≡ false → claim ≡ claims_by p specs k r
claims-not p specs k r address claim at claims none =
    let still : claims_for (address_at specs r.tap) (telegram_of r) ≡ false = sym (ap (λ n. claims_for n (telegram_of r)) at) ∙ sym claims ∙ none in
    none ∙ sym (ap (λ b. b && was_silent k p.ttd r.tap (r.begin - tto p (address_at specs r.tap)) r.begin) still)

pub goes-then : (p : Params) (specs : List TapSpec) (k : Kept) (r : Record) (last : LastHeard) (o : Option LastInitiator) (goes : Bool) → IsLastOf (length specs) o (Some last) → last.end ≤ r.begin
    → ((m : LastInitiator) → IsLast (length specs) m last → goes ≡ goes_on_after p specs m (offered_to m.telegram) r) → goes ≡ true → goes ≡ follows_last p specs k o r
goes-then p specs k r last None goes is ended by yes' = absurd is
goes-then p specs k r last (Some m) goes is ended by yes' =
    let went : goes_on_after p specs m (offered_to m.telegram) r ≡ true = sym (by m is) ∙ yes' in
    yes' ∙ sym (ap (λ b. b && (goes_on_after p specs m (offered_to m.telegram) r || claims_by p specs k r)) (le-leb m.telegram.end r.begin (omega (arith, ended, is.end)))
    ∙ ap (λ b. b || claims_by p specs k r) went)

pub claims-then : (p : Params) (specs : List TapSpec) (k : Kept) (r : Record) (last : LastHeard) (o : Option LastInitiator) (goes claims : Bool) → IsLastOf (length specs) o (Some last) → last.end ≤ r.begin
    → ((m : LastInitiator) → IsLast (length specs) m last → goes ≡ goes_on_after p specs m (offered_to m.telegram) r) → goes ≡ false → claims ≡ claims_by p specs k r
    → claims ≡ follows_last p specs k o r
claims-then p specs k r last None goes claims is ended by none claimed = absurd is
claims-then p specs k r last (Some m) goes claims is ended by none claimed =
    let stays : goes_on_after p specs m (offered_to m.telegram) r ≡ false = sym (by m is) ∙ none in
    claimed ∙ sym (ap (λ b. b && (goes_on_after p specs m (offered_to m.telegram) r || claims_by p specs k r)) (le-leb m.telegram.end r.begin (omega (arith, ended, is.end)))
    ∙ ap (λ b. b || claims_by p specs k r) stays)

pub addresses-of : (taps : List declared.TapSpec) → map (λ (t : declared.TapSpec). t.address) taps ≡ addresses_in (map spec_of taps)
addresses-of [] = refl
addresses-of (t ∷ ts) = ap (λ ns. t.address ∷ ns) (addresses-of ts)

-- the latest ends of no entries
pub no-ends-yet : {X : Type 0} (f : X → TapSpec) (xs : List X) → replicate (length xs) 0 ≡ map (λ (spec : TapSpec). zero) (map f xs)
no-ends-yet f [] = refl
no-ends-yet f (x ∷ xs) = ap (λ ns. 0 ∷ ns) (no-ends-yet f xs)

-- What a judge finds by what it keeps is what an audit finds in the trace.
use Rattle.std.proofs.Common.{◌≡◌, ◌∙◌, ap, sym, subst, refl, arith, ℕ, zero, suc, ◌⊎◌, inl, inr, ⊎_elim, ◌+◌, ◌-◌, ◌<◌, ◌≤◌, ◌==◌, ◌||◌, ◌&&◌, nat_lt, nat_le, not, List, [], ◌∷◌, ◌++◌, length, map, Bool, true, false, if◌then◌else◌, Option, Some, None}
use Rattle.std.specs.Prelude.{◌%◌, slice_get, slice_index, get_or, max}
use Rattle.std.specs.List.{list_any}
use Rattle.std.proofs.lemmas.Bool.{ltb-true, ltb-false, ne_eqb, eqb-true, and_parts, or_parts, cases_lt}
use Rattle.std.proofs.lemmas.List.{append_assoc, map-append, length-map}
use Rattle.std.proofs.lemmas.Option.{slice_get_past}
use Rattle.pb_faults.specs.FirstFault.{first_fault}
use Rattle.pb_telegram.specs.Faults.{octets, is_token, has_control, da_place, has_bad_address, faults, fault_of}
use Rattle.pb_telegram.specs.declared.chars.RxChar.{RxChar}
use Rattle.pb_telegram.specs.declared.chars.RxChar.TheVariants.{Good}
use Rattle.pb_telegram.specs.declared.faults.TelegramFault.{TelegramFault}
use Rattle.pb_telegram.specs.declared.faults.TelegramFault.TheVariants.{BadAddress}
use Rattle.pb_timers.specs.Timers.{Params, tto}
use Rattle.law_turn.specs.Arrivals.{Arrival, Token, Framed, Acknowledgement, NoTelegram, arrival_unless, arrival_of}
use Rattle.law_model.specs.Trace.{Record, Entry, Sent, Noise, entry_begin, entry_end}
use Rattle.law_model.specs.Medium.{TapSpec, reaches_taps}
use Rattle.law_model.proofs.Cases.{by_test}
use Rattle.law_runs.specs.Activity.{active_at, is_within, is_silent}
use Rattle.law_runs.specs.Initiators.{telegram_of, is_initiator, offered_by, offered_to, claims_for}
use Rattle.law_runs.specs.Legality.{is_whole, address_in, address_at, first_illegal}
use Rattle.law_runs.specs.Judging.{IsOrderedFrom, IsOrdered, latest_end, AllReached, LastInitiator, slot_after, last_after, claims_after, goes_on_after, may_follow, may_come, judged_from}
use Rattle.law_runs.proofs.Judged.{silent-by, latest-more, reached-more, reached-later, judged}
use Rattle.law_streams.specs.Judgement.{Kept, nothing_kept, bare, ends_with, ends_by, recent_at, kept_at, was_silent, claims_by, follows_last, is_legal, last_with, first_found, hear, hear_all, kept_of}
use Rattle.law_streams.specs.Laws.{AllSince}

-- ---- what is kept of an entry

bare-reaches : (delay : ℕ) (e : Entry) → reaches_taps delay (bare e) ≡ reaches_taps delay e
bare-reaches delay (Noise span) = refl
bare-reaches delay (Sent r) = refl

bare-active : (delay tap : ℕ) (e : Entry) → active_at delay tap (bare e) ≡ active_at delay tap e
bare-active delay tap (Noise span) = refl
bare-active delay tap (Sent r) = refl

bare-any : (delay tap from to : ℕ) (es : List Entry)
    → list_any (λ e. is_within from to (active_at delay tap e)) (map bare es) ≡ list_any (λ e. is_within from to (active_at delay tap e)) es
bare-any delay tap from to [] = refl
bare-any delay tap from to (e ∷ es) =
    ap (λ s. is_within from to s || list_any (λ e. is_within from to (active_at delay tap e)) (map bare es)) (bare-active delay tap e)
    ∙ ap (λ b. is_within from to (active_at delay tap e) || b) (bare-any delay tap from to es)

bare-silent : (delay tap from to : ℕ) (es : List Entry) → is_silent delay tap (map bare es) from to ≡ is_silent delay tap es from to
bare-silent delay tap from to es = ap not (bare-any delay tap from to es)

-- ---- the latest ends

pub ends_with-size : (delay tap : ℕ) (e : Entry) (ends : List ℕ) → length (ends_with delay tap e ends) ≡ length ends
ends_with-size delay tap e [] = refl
ends_with-size delay tap e (end ∷ ends) = omega (arith, ends_with-size delay (tap + 1) e ends)

pub ends_with-at : (delay first tap place : ℕ) (e : Entry) (ends : List ℕ) → tap ≡ first + place → place < length ends
    → get_or (ends_with delay first e ends) place 0 ≡ max (get_or ends place 0) (active_at delay tap e).end
ends_with-at delay first tap place e [] at within = absurd (omega arith)
ends_with-at delay first tap zero e (end ∷ ends) at within =
    let same : first ≡ tap = omega (arith, at) in ap (λ k. max end (active_at delay k e).end) same
ends_with-at delay first tap (suc place) e (end ∷ ends) at within =
    ends_with-at delay (first + 1) tap place e ends (omega (arith, at)) (omega (arith, within))

-- ---- the first of some entries have begun at all taps before a moment, and their latest ends and the others are kept

record IsSettled (delay moment size : ℕ) (earlier : List Entry) (ends : List ℕ) (recent : List Entry) : Type 0 where
  reached : List Entry
  fresh : List Entry
  parts : earlier ≡ reached ++ fresh
  begun : AllReached delay moment reached
  others : recent ≡ map bare fresh
  latest : (tap : ℕ) → tap < size → get_or ends tap 0 ≡ latest_end delay tap reached
  sized : length ends ≡ size

settles : (delay moment size : ℕ) (ends : List ℕ) (reached fresh : List Entry) → length ends ≡ size → AllReached delay moment reached
    → ((tap : ℕ) → tap < size → get_or ends tap 0 ≡ latest_end delay tap reached)
    → IsSettled delay moment size (reached ++ fresh) (ends_by delay moment ends (map bare fresh)) (recent_at delay moment (map bare fresh))
settles delay moment size ends reached [] sized begun latest =
    record { reached = reached; fresh = []; parts = refl; begun = begun; others = refl; latest = latest; sized = sized }
settles delay moment size ends reached (e ∷ es) sized begun latest =
    by (nat_lt (reaches_taps delay (bare e)).begin moment) refl
    (λ here. settles delay moment size (ends_with delay 0 (bare e) ends) (reached ++ e ∷ []) es (ends_with-size delay 0 (bare e) ends ∙ sized)
    (reached-more delay moment reached e begun here)
    (λ tap within. ends_with-at delay 0 tap tap (bare e) ends (omega arith) (omega (arith, within, sized))
    ∙ ap (λ s. max (get_or ends tap 0) s.end) (bare-active delay tap e) ∙ ap (λ n. max n (active_at delay tap e).end) (latest tap within)
    ∙ sym (latest-more delay tap reached e)))
  where
    by : (b : Bool) → nat_lt (reaches_taps delay (bare e)).begin moment ≡ b
        → ((reaches_taps delay e).begin < moment
        → IsSettled delay moment size ((reached ++ e ∷ []) ++ es) (ends_by delay moment (ends_with delay 0 (bare e) ends) (map bare es)) (recent_at delay moment (map bare es)))
        → IsSettled delay moment size (reached ++ e ∷ es)
        (if b then ends_by delay moment (ends_with delay 0 (bare e) ends) (map bare es) else ends)
        (if b then recent_at delay moment (map bare es) else bare e ∷ map bare es)
    by true less more =
        let here : (reaches_taps delay e).begin < moment =
        subst (λ s. s.begin < moment) (bare-reaches delay e) (ltb-true (reaches_taps delay (bare e)).begin moment less) in
        subst (λ es'. IsSettled delay moment size es' (ends_by delay moment (ends_with delay 0 (bare e) ends) (map bare es)) (recent_at delay moment (map bare es)))
        (append_assoc reached (e ∷ []) es) (more here)
    by false least more =
        record { reached = reached; fresh = e ∷ es; parts = refl; begun = begun; others = refl; latest = latest; sized = sized }

settles-on : (delay before moment size : ℕ) (earlier : List Entry) (ends : List ℕ) (recent : List Entry) → before ≤ moment → IsSettled delay before size earlier ends recent
    → IsSettled delay moment size earlier (ends_by delay moment ends recent) (recent_at delay moment recent)
settles-on delay before moment size earlier ends recent later s =
    subst (λ es. IsSettled delay moment size es (ends_by delay moment ends recent) (recent_at delay moment recent)) (sym s.parts)
    (subst (λ es. IsSettled delay moment size (s.reached ++ s.fresh) (ends_by delay moment ends es) (recent_at delay moment es)) (sym s.others)
    (settles delay moment size ends s.reached s.fresh s.sized (reached-later delay before moment s.reached later s.begun) s.latest))

settled-more : (delay moment size : ℕ) (earlier : List Entry) (ends : List ℕ) (recent : List Entry) (e : Entry) → IsSettled delay moment size earlier ends recent
    → IsSettled delay moment size (earlier ++ e ∷ []) ends (recent ++ bare e ∷ [])
settled-more delay moment size earlier ends recent e s = record {
  reached = s.reached;
  fresh = s.fresh ++ e ∷ [];
  parts = ap (λ es. es ++ e ∷ []) s.parts ∙ append_assoc s.reached s.fresh (e ∷ []);
  begun = s.begun;
  others = ap (λ es. es ++ bare e ∷ []) s.others ∙ sym (map-append bare s.fresh (e ∷ []));
  latest = s.latest;
  sized = s.sized;
}

silent-kept : (delay moment size tap from to : ℕ) (earlier : List Entry) (k : Kept) → IsSettled delay moment size earlier k.ends k.recent → tap < size → moment ≤ to
    → was_silent k delay tap from to ≡ is_silent delay tap earlier from to
silent-kept delay moment size tap from to earlier k s within later =
    ap (λ n. nat_le n from && is_silent delay tap k.recent from to) (s.latest tap within)
    ∙ ap (λ es. nat_le (latest_end delay tap s.reached) from && is_silent delay tap es from to) s.others
    ∙ ap (λ b. nat_le (latest_end delay tap s.reached) from && b) (bare-silent delay tap from to s.fresh)
    ∙ sym (silent-by delay tap from to s.reached s.fresh (reached-later delay moment to s.reached later s.begun))
    ∙ ap (λ es. is_silent delay tap es from to) (sym s.parts)

-- ---- no telegram is to or from the address 255

-- the addresses of a token are those of stations
abbrev pub IsAddressed : Arrival → Type 0
IsAddressed (Token da sa) = da < 127
IsAddressed (Framed f) = Unit {0}
IsAddressed Acknowledgement = Unit {0}
IsAddressed NoTelegram = Unit {0}

-- where there is no fault, no test holds
no-test : (tests : List (Bool × TelegramFault)) (place : ℕ) (test : Bool × TelegramFault) → first_fault tests ≡ None → slice_get tests place ≡ Some test → test.0 ≡ false
no-test [] place test none at = absurd cc
no-test ((true, fault) ∷ tests) place test none at = absurd cc
no-test ((false, fault) ∷ tests) zero test none at = let same : (false, fault) ≡ test = cc in sym (ap (λ t. t.0) same)
no-test ((false, fault) ∷ tests) (suc place) test none at = no-test tests place test none at

addressed-unless : (chars : List RxChar) (o : Option TelegramFault) → fault_of chars ≡ o → IsAddressed (arrival_unless o (octets chars))
addressed-unless chars (Some fault) is = tt
addressed-unless chars None is =
    by_test IsAddressed (is_token (octets chars)) _ _ (λ token. station token)
    (λ _. by_test IsAddressed (has_control (octets chars)) _ _ (λ _. tt) (λ _. tt))
  where
    xs : List ℕ
    xs = octets chars

    fair : has_bad_address xs ≡ false
    fair = no-test (faults chars) 7 (has_bad_address xs, BadAddress) is refl

    station : is_token xs ≡ true → slice_index xs 1 < 127
    station token =
        let far : Bool = nat_lt 126 (slice_index xs 1) || nat_lt 126 (slice_index xs 2) in
        let near : (is_token xs && far) ≡ false = (or_parts (is_token xs && far) (has_control xs && slice_index xs (da_place xs + 1) % 128 == 127) fair).0 in
        let both : far ≡ false = sym (ap (λ b. b && far) token) ∙ near in
        let least = ltb-false 126 (slice_index xs 1) (or_parts (nat_lt 126 (slice_index xs 1)) (nat_lt 126 (slice_index xs 2)) both).0 in
        omega (arith, least)

addressed : (chars : List RxChar) → IsAddressed (arrival_of chars)
addressed chars = addressed-unless chars (fault_of chars) refl

pub sent-addressed : (r : Record) → IsAddressed (telegram_of r)
sent-addressed r = addressed (map Good r.octets)

none-claims : (a : Arrival) → IsAddressed a → claims_for 255 a ≡ false
none-claims (Token da sa) to = ap (λ b. b && (sa == 255)) (ne_eqb da 255 (λ (e : da ≡ 255). omega (arith, to, e)))
none-claims (Framed f) to = refl
none-claims Acknowledgement to = refl
none-claims NoTelegram to = refl

pub none-offered : (a : Arrival) (to : ℕ) → IsAddressed a → offered_by a ≡ Some to → to < 127
none-offered (Token da sa) to here =
    by_test (λ (o : Option ℕ). o ≡ Some to → to < 127) (da == sa) None (Some da) (λ _ e. absurd cc) (λ _ e. let same : da ≡ to = cc in subst (λ k. k < 127) same here)
none-offered (Framed f) to here = λ e. absurd cc
none-offered Acknowledgement to here = λ e. absurd cc
none-offered NoTelegram to here = λ e. absurd cc

pub no-address : (specs : List TapSpec) (tap : ℕ) → length specs ≤ tap → address_at specs tap ≡ 255
no-address specs tap past = ap address_in (slice_get_past specs tap past)

-- ---- one entry

-- the last initiator record is of a tap of the bus
abbrev IsOfTap : List TapSpec → Option LastInitiator → Type 0
IsOfTap specs None = Unit {0}
IsOfTap specs (Some last) = last.telegram.tap < length specs

claims-kept : (p : Params) (specs : List TapSpec) (earlier : List Entry) (k : Kept) (r : Record) → IsSettled p.ttd r.begin (length specs) earlier k.ends k.recent
    → claims_by p specs k r ≡ claims_after p specs earlier r
claims-kept p specs earlier k r s =
    ⊎_elim
    (λ (within : r.tap < length specs). ap (λ b. claims_for address (telegram_of r) && b)
    (silent-kept p.ttd r.begin (length specs) r.tap (r.begin - tto p address) r.begin earlier k s within (omega arith)))
    (λ (past : length specs ≤ r.tap).
    let none : claims_for address (telegram_of r) ≡ false =
    ap (λ n. claims_for n (telegram_of r)) (no-address specs r.tap past) ∙ none-claims (telegram_of r) (sent-addressed r) in
    ap (λ b. b && was_silent k p.ttd r.tap (r.begin - tto p address) r.begin) none
    ∙ sym (ap (λ b. b && is_silent p.ttd r.tap earlier (r.begin - tto p address) r.begin) none))
    (cases_lt r.tap (length specs))
  where
    address : ℕ
    address = address_at specs r.tap

follows-kept : (p : Params) (specs : List TapSpec) (earlier : List Entry) (k : Kept) (last : Option LastInitiator) (r : Record) → IsSettled p.ttd r.begin (length specs) earlier k.ends k.recent
    → follows_last p specs k last r ≡ may_follow p specs earlier last r
follows-kept p specs earlier k None r s = claims-kept p specs earlier k r s
follows-kept p specs earlier k (Some last) r s =
    ap (λ b. nat_le last.telegram.end r.begin && (goes_on_after p specs last (offered_to last.telegram) r || b)) (claims-kept p specs earlier k r s)

legal-kept : (p : Params) (specs : List TapSpec) (earlier : List Entry) (k : Kept) (e : Entry) → IsSettled p.ttd (entry_begin e) (length specs) earlier k.ends k.recent
    → is_legal p specs k e ≡ may_come p specs earlier k.last e
legal-kept p specs earlier k (Noise span) s = refl
legal-kept p specs earlier k (Sent r) s = ap (λ b. not (is_initiator r) || b) (follows-kept p specs earlier k k.last r s)

-- ---- a record that may come is of a tap of the bus

claims-of-tap : (specs : List TapSpec) (tap : ℕ) (a : Arrival) → IsAddressed a → claims_for (address_at specs tap) a ≡ true → tap < length specs
claims-of-tap specs tap a to claims =
    ⊎_elim (λ (within : tap < length specs). within)
    (λ (past : length specs ≤ tap).
    let none : claims_for (address_at specs tap) a ≡ false = ap (λ n. claims_for n a) (no-address specs tap past) ∙ none-claims a to in
    let wrong : true ≡ false = sym claims ∙ none in absurd cc)
    (cases_lt tap (length specs))

takes-of-tap : (specs : List TapSpec) (tap to : ℕ) → to < 127 → (to == address_at specs tap) ≡ true → tap < length specs
takes-of-tap specs tap to less same =
    ⊎_elim (λ (within : tap < length specs). within)
    (λ (past : length specs ≤ tap).
    let is : to ≡ address_at specs tap = eqb-true to (address_at specs tap) same in
    let none : address_at specs tap ≡ 255 = no-address specs tap past in
    absurd (omega (arith, is, none, less)))
    (cases_lt tap (length specs))

goes-of-tap : (p : Params) (specs : List TapSpec) (last : LastInitiator) (offer : Option ℕ) (r : Record) → offered_to last.telegram ≡ offer → last.telegram.tap < length specs
    → goes_on_after p specs last offer r ≡ true → r.tap < length specs
goes-of-tap p specs last None r is own goes = let same : last.telegram.tap ≡ r.tap = eqb-true last.telegram.tap r.tap goes in omega (arith, same, own)
goes-of-tap p specs last (Some to) r is own goes = by (last.telegram.tap == r.tap) refl goes
  where
    late : Bool
    late = nat_le (last.telegram.end + p.tsl) r.begin && last.silent

    taken : Bool
    taken = to == address_at specs r.tap && is_whole (slice_get last.telegram.heard r.tap) && nat_lt r.begin (last.telegram.end + p.tsl)

    by : (b : Bool) → (last.telegram.tap == r.tap) ≡ b → (if b then late else taken) ≡ true → r.tap < length specs
    by true same goes = let e : last.telegram.tap ≡ r.tap = eqb-true last.telegram.tap r.tap same in omega (arith, e, own)
    by false other goes =
        let heard : Bool = is_whole (slice_get last.telegram.heard r.tap) in
        let soon : Bool = nat_lt r.begin (last.telegram.end + p.tsl) in
        takes-of-tap specs r.tap to (none-offered (telegram_of last.telegram) to (sent-addressed last.telegram) is)
        (and_parts (to == address_at specs r.tap) heard (and_parts (to == address_at specs r.tap && heard) soon goes).0).0

or-cases : (a b : Bool) → (a || b) ≡ true → (a ≡ true) ⊎ (b ≡ true)
or-cases true b or = inl refl
or-cases false b or = inr or

claim-of-tap : (p : Params) (specs : List TapSpec) (earlier : List Entry) (r : Record) → claims_after p specs earlier r ≡ true → r.tap < length specs
claim-of-tap p specs earlier r claims =
    let address = address_at specs r.tap in
    claims-of-tap specs r.tap (telegram_of r) (sent-addressed r)
    (and_parts (claims_for address (telegram_of r)) (is_silent p.ttd r.tap earlier (r.begin - tto p address) r.begin) claims).0

follower-of-tap : (p : Params) (specs : List TapSpec) (earlier : List Entry) (last : Option LastInitiator) (r : Record) → IsOfTap specs last
    → may_follow p specs earlier last r ≡ true → r.tap < length specs
follower-of-tap p specs earlier None r own follows = claim-of-tap p specs earlier r follows
follower-of-tap p specs earlier (Some last) r own follows =
    let goes : Bool = goes_on_after p specs last (offered_to last.telegram) r in
    let claims : Bool = claims_after p specs earlier r in
    ⊎_elim
    (λ (one : goes ≡ true). goes-of-tap p specs last (offered_to last.telegram) r refl own one)
    (λ (other : claims ≡ true). claim-of-tap p specs earlier r other)
    (or-cases goes claims (and_parts (nat_le last.telegram.end r.begin) (goes || claims) follows).1)

-- ---- the last initiator record

slot-of-tap : (delay tsl : ℕ) (specs : List TapSpec) (e : Entry) (last : Option LastInitiator) → IsOfTap specs last → IsOfTap specs (slot_after delay tsl e last)
slot-of-tap delay tsl specs e None own = tt
slot-of-tap delay tsl specs e (Some last) own = own

record IsLastKept (p : Params) (specs : List TapSpec) (earlier : List Entry) (k : Kept) (e : Entry) : Type 0 where
  same : last_with p k e ≡ last_after p.ttd p.tsl earlier k.last e
  own : IsOfTap specs (last_after p.ttd p.tsl earlier k.last e)

last-kept : (p : Params) (specs : List TapSpec) (earlier : List Entry) (k : Kept) (e : Entry) → IsSettled p.ttd (entry_begin e) (length specs) earlier k.ends k.recent
    → entry_begin e < entry_end e → IsOfTap specs k.last → may_come p specs earlier k.last e ≡ true → IsLastKept p specs earlier k e
last-kept p specs earlier k (Noise span) s lasts own may = record { same = refl; own = slot-of-tap p.ttd p.tsl specs (Noise span) k.last own }
last-kept p specs earlier k (Sent r) s lasts own may = by (is_initiator r) refl may
  where
    slot : Option LastInitiator
    slot = slot_after p.ttd p.tsl (Sent r) k.last

    now : Bool → Option LastInitiator
    now silent = Some (record { telegram = r; silent = silent })

    kept : Bool
    kept = was_silent k p.ttd r.tap r.end (r.end + p.tsl)

    whole : Bool
    whole = is_silent p.ttd r.tap earlier r.end (r.end + p.tsl)

    done : ((if is_initiator r then now kept else slot) ≡ (if is_initiator r then now whole else slot)) → IsOfTap specs (if is_initiator r then now whole else slot) → IsLastKept p specs earlier k (Sent r)
    done same own = record { same = same; own = own }

    by : (b : Bool) → is_initiator r ≡ b → (not b || may_follow p specs earlier k.last r) ≡ true → IsLastKept p specs earlier k (Sent r)
    by true is follows =
        let of-tap : r.tap < length specs = follower-of-tap p specs earlier k.last r own follows in
        done
        (ap (λ b. if is_initiator r then now b else slot) (silent-kept p.ttd r.begin (length specs) r.tap r.end (r.end + p.tsl) earlier k s of-tap (omega (arith, lasts))))
        (subst (λ b. IsOfTap specs (if b then now whole else slot)) (sym is) of-tap)
    by false is follows =
        done
        (ap (λ b. if b then now kept else slot) is ∙ sym (ap (λ b. if b then now whole else slot) is))
        (subst (λ b. IsOfTap specs (if b then now whole else slot)) (sym is) (slot-of-tap p.ttd p.tsl specs (Sent r) k.last own))

-- ---- all entries

-- what a judge keeps who has found none, and the next entry begins no earlier than a moment
record IsKept (p : Params) (specs : List TapSpec) (moment : ℕ) (earlier : List Entry) (k : Kept) : Type 0 where
  settled : IsSettled p.ttd moment (length specs) earlier k.ends k.recent
  own : IsOfTap specs k.last
  none : k.illegal ≡ None

stays-found : (p : Params) (specs : List TapSpec) (k : Kept) (place : ℕ) (es : List Entry) → k.illegal ≡ Some place → (hear_all p specs k es).illegal ≡ Some place
stays-found p specs k place [] found = found
stays-found p specs k place (e ∷ es) found =
    stays-found p specs (hear p specs k e) place es
    (ap (λ o. first_found o k.count (is_legal p specs (kept_at p.ttd (entry_begin e) k) e)) found)

heard : (p : Params) (specs : List TapSpec) (earlier : List Entry) (k : Kept) (from : ℕ) (es : List Entry) → IsKept p specs from earlier k → IsOrderedFrom from es
    → (hear_all p specs k es).illegal ≡ judged_from p specs earlier k.last k.count es
heard p specs earlier k from [] is ordered = is.none
heard p specs earlier k from (e ∷ es) is (here, lasts, rest) =
    by (may_come p specs earlier k.last e) refl (λ more. heard p specs (earlier ++ e ∷ []) next (entry_begin e) es more rest)
  where
    now : Kept
    now = kept_at p.ttd (entry_begin e) k

    next : Kept
    next = hear p specs k e

    settled : IsSettled p.ttd (entry_begin e) (length specs) earlier now.ends now.recent
    settled = settles-on p.ttd from (entry_begin e) (length specs) earlier k.ends k.recent here is.settled

    finds : (b : Bool) → may_come p specs earlier k.last e ≡ b → next.illegal ≡ first_found None k.count b
    finds b may =
        ap (λ o. first_found o k.count (is_legal p specs now e)) is.none ∙ ap (λ b'. first_found None k.count b') (legal-kept p specs earlier now e settled ∙ may)

    by : (b : Bool) → may_come p specs earlier k.last e ≡ b
        → (IsKept p specs (entry_begin e) (earlier ++ e ∷ []) next → (hear_all p specs next es).illegal ≡ judged_from p specs (earlier ++ e ∷ []) next.last next.count es)
        → (hear_all p specs next es).illegal
        ≡ (if b then judged_from p specs (earlier ++ e ∷ []) (last_after p.ttd p.tsl earlier k.last e) (k.count + 1) es else Some k.count)
    by true may more =
        let last = last-kept p specs earlier now e settled lasts is.own may in
        more (record {
          settled = settled-more p.ttd (entry_begin e) (length specs) earlier now.ends now.recent e settled;
          own = subst (IsOfTap specs) (sym last.same) last.own;
          none = finds true may;
        })
        ∙ ap (λ l. judged_from p specs (earlier ++ e ∷ []) l (k.count + 1) es) last.same
    by false may more = stays-found p specs next k.count es (finds false may)

zeros : (specs : List TapSpec) (tap : ℕ) → get_or (map (λ (spec : TapSpec). zero) specs) tap 0 ≡ zero
zeros [] tap = refl
zeros (spec ∷ specs) zero = refl
zeros (spec ∷ specs) (suc tap) = zeros specs tap

none-kept : (p : Params) (specs : List TapSpec) → IsKept p specs 0 [] (nothing_kept specs)
none-kept p specs = record {
  settled = record { reached = []; fresh = []; parts = refl; begun = tt; others = refl; latest = λ tap within. zeros specs tap; sized = length-map specs (λ spec. 0) };
  own = tt;
  none = refl;
}

pub judged-as-heard : (p : Params) (specs : List TapSpec) (entries : List Entry) → IsOrdered entries → (kept_of p specs entries).illegal ≡ first_illegal p specs entries
judged-as-heard p specs entries ordered = heard p specs [] (nothing_kept specs) 0 entries (none-kept p specs) ordered ∙ judged p specs entries ordered

pub hears-on : (p : Params) (specs : List TapSpec) (k : Kept) (old rest : List Entry) → hear_all p specs k (old ++ rest) ≡ hear_all p specs (hear_all p specs k old) rest
hears-on p specs k [] rest = refl
hears-on p specs k (e ∷ old) rest = hears-on p specs (hear p specs k e) old rest

pub judged-in-pieces : (p : Params) (specs : List TapSpec) (old rest : List Entry) → IsOrdered (old ++ rest)
    → (hear_all p specs (kept_of p specs old) rest).illegal ≡ first_illegal p specs (old ++ rest)
judged-in-pieces p specs old rest ordered =
    ap (λ k. k.illegal) (sym (hears-on p specs (nothing_kept specs) old rest)) ∙ judged-as-heard p specs (old ++ rest) ordered

-- ---- few are kept

-- entries in order of begin, the first of them no earlier than one moment, the last no later than another
abbrev StandsTo : ℕ → List Entry → ℕ → Type 0
StandsTo from [] to = from ≤ to
StandsTo from (e ∷ es) to = (from ≤ entry_begin e) × StandsTo (entry_begin e) es to

stands-lower : (low from to : ℕ) (es : List Entry) → low ≤ from → StandsTo from es to → StandsTo low es to
stands-lower low from to [] less stands = omega (arith, less, stands)
stands-lower low from to (e ∷ es) less stands = (omega (arith, less, stands.0), stands.1)

bare-begin : (e : Entry) → entry_begin (bare e) ≡ entry_begin e
bare-begin (Noise span) = refl
bare-begin (Sent r) = refl

-- with one more entry
stands-more : (from to : ℕ) (es : List Entry) (e : Entry) → StandsTo from es to → to ≤ entry_begin e → StandsTo from (es ++ bare e ∷ []) (entry_begin e)
stands-more from to [] e stands later = (omega (arith, stands, later, bare-begin e), omega (arith, bare-begin e))
stands-more from to (x ∷ xs) e stands later = (stands.0, stands-more (entry_begin x) to xs e stands.1 later)

stands-recent : (delay moment to : ℕ) (es : List Entry) → StandsTo 0 es to → StandsTo 0 (recent_at delay moment es) to
stands-recent delay moment to [] stands = stands
stands-recent delay moment to (e ∷ es) stands =
    by_test (λ (xs : List Entry). StandsTo 0 xs to) (nat_lt (reaches_taps delay e).begin moment) _ _
    (λ _. stands-recent delay moment to es (stands-lower 0 (entry_begin e) to es (omega arith) stands.1)) (λ _. stands)

reaches-soon : (delay : ℕ) (e : Entry) → (reaches_taps delay e).begin ≤ entry_begin e + delay
reaches-soon delay (Noise span) = omega arith
reaches-soon delay (Sent r) = omega arith

since-all : (low from to : ℕ) (es : List Entry) (e : Entry) → low ≤ from → StandsTo from es to → low ≤ entry_begin e → AllSince low (es ++ bare e ∷ [])
since-all low from to [] e less stands least = (omega (arith, least, bare-begin e), tt)
since-all low from to (x ∷ xs) e less stands least = (omega (arith, less, stands.0), since-all low (entry_begin x) to xs e (omega (arith, less, stands.0)) stands.1 least)

since-recent : (delay from to : ℕ) (es : List Entry) (e : Entry) → StandsTo from es to → AllSince (entry_begin e - delay) (recent_at delay (entry_begin e) es ++ bare e ∷ [])
since-recent delay from to [] e stands = (omega (arith, bare-begin e), tt)
since-recent delay from to (x ∷ xs) e stands =
    let moment = entry_begin e in
    by_test (λ (ys : List Entry). AllSince (moment - delay) (ys ++ bare e ∷ [])) (nat_lt (reaches_taps delay x).begin moment) _ _
    (λ _. since-recent delay (entry_begin x) to xs e stands.1)
    (λ late.
    let least : moment - delay ≤ entry_begin x = omega (arith, ltb-false (reaches_taps delay x).begin moment late, reaches-soon delay x) in
    (least, since-all (moment - delay) (entry_begin x) to xs e least stands.1 (omega arith)))

ends_by-size : (delay moment : ℕ) (ends : List ℕ) (es : List Entry) → length (ends_by delay moment ends es) ≡ length ends
ends_by-size delay moment ends [] = refl
ends_by-size delay moment ends (e ∷ es) =
    by_test (λ (ns : List ℕ). length ns ≡ length ends) (nat_lt (reaches_taps delay e).begin moment) _ _
    (λ _. ends_by-size delay moment (ends_with delay 0 e ends) es ∙ ends_with-size delay 0 e ends) (λ _. refl)

few-kept : (p : Params) (specs : List TapSpec) (k : Kept) (from : ℕ) (es : List Entry) (e : Entry) → StandsTo 0 k.recent from → length k.ends ≡ length specs
    → IsOrderedFrom from (es ++ e ∷ [])
    → AllSince (entry_begin e - p.ttd) (hear_all p specs k (es ++ e ∷ [])).recent × (length (hear_all p specs k (es ++ e ∷ [])).ends ≡ length specs)
few-kept p specs k from [] e stands sized (here, lasts, rest) =
    (since-recent p.ttd 0 from k.recent e stands, ends_by-size p.ttd (entry_begin e) k.ends k.recent ∙ sized)
few-kept p specs k from (x ∷ xs) e stands sized (here, lasts, rest) =
    few-kept p specs (hear p specs k x) (entry_begin x) xs e
    (stands-more 0 from (recent_at p.ttd (entry_begin x) k.recent) x (stands-recent p.ttd (entry_begin x) from k.recent stands) here)
    (ends_by-size p.ttd (entry_begin x) k.ends k.recent ∙ sized) rest

pub keeps-few : (p : Params) (specs : List TapSpec) (entries : List Entry) (e : Entry) → IsOrdered (entries ++ e ∷ [])
    → AllSince (entry_begin e - p.ttd) (kept_of p specs (entries ++ e ∷ [])).recent × (length (kept_of p specs (entries ++ e ∷ [])).ends ≡ length specs)
keeps-few p specs entries e ordered = few-kept p specs (nothing_kept specs) 0 entries e (omega arith) (length-map specs (λ spec. 0)) ordered

-- What became of telegrams leaves the trace legal, and the last initiator record the last.
use Rattle.std.proofs.Common.{◌≡◌, ℕ, ◌+◌, ◌-◌, ◌≤◌, Bool, true, false, if◌then◌else◌, not, ◌==◌, ◌&&◌, ◌||◌, List, [], ◌∷◌, map, refl, sym, ap, ◌∙◌, subst, arith, Option, Some, None}
use Rattle.std.specs.Prelude.{slice_get, nat_lt, nat_le}
use Rattle.std.specs.List.{list_any}
use Rattle.std.specs.Option.{option_map}
use Rattle.std.proofs.lemmas.Bool.{le-leb}
use Rattle.pb_telegram.specs.declared.chars.RxChar.TheVariants.{Good}
use Rattle.pb_timers.specs.Timers.{Params, tto}
use Rattle.law_turn.specs.Arrivals.{arrival_of}
use Rattle.law_model.specs.Trace.{Heard, Record, Entry, Sent, Noise}
use Rattle.law_model.specs.Medium.{TapSpec, Tap, reaches, ends_between, entry_at, heard_by}
use Rattle.law_model.proofs.Cases.{by_test}
use Rattle.law_runs.specs.Initiators.{telegram_of, initiates, is_initiator, offered_by, offered_to, claims_for, later_record, last_from}
use Rattle.law_runs.specs.Legality.{is_whole, address_at, is_claim, follows_token, follows_by, is_legal_after, first_illegal_from, first_illegal}
use Rattle.law_runs.specs.Activity.{active_at, is_within, is_silent}
use Rattle.law_token.specs.Lists.{Each}
use Rattle.law_token.proofs.pass.Brings.{relabel, relabelled}
use Rattle.law_token.proofs.pass.AllTaps.{whole_by}
use Rattle.law_token.proofs.pass.PassedRecords.{entry_is, SameSending, same_sending}
use Rattle.law_token.proofs.bus.Legal.{Begun}

-- ---- the last initiator record

later_pass : (g : Record → Record) (l : Option Record) (r : Record) → is_initiator (g r) ≡ is_initiator r → later_record (option_map g l) (g r) ≡ option_map g (later_record l r)
later_pass g l r same = ap (λ b. if b then Some (g r) else option_map g l) same ∙ by_test (λ o. (if is_initiator r then Some (g r) else option_map g l) ≡ option_map g o) (is_initiator r) (Some r) l
    (λ e. ap (λ b. if b then Some (g r) else option_map g l) e) (λ e. ap (λ b. if b then Some (g r) else option_map g l) e)

pub last_pass : (delay : ℕ) (taps : List Tap) (trace : List Entry) (now to : ℕ) (l : Option Record) (es : List Entry) → now ≤ to → Each (Begun now) es
    → last_from (option_map (relabel delay taps trace now to) l) to (map (entry_at delay taps trace now to) es) ≡ option_map (relabel delay taps trace now to) (last_from l now es)
last_pass delay taps trace now to l [] le begun = refl
last_pass delay taps trace now to l (Noise span ∷ es) le begun = last_pass delay taps trace now to l es le begun.1
last_pass delay taps trace now to l (Sent r ∷ es) le begun =
    let g = relabel delay taps trace now to in
    let xs = map (entry_at delay taps trace now to) es in
    let same = same_sending delay taps trace now to r in
    let le1 : nat_le (g r).begin to ≡ true = le-leb (g r).begin to (omega (arith, same.2, begun.0)) in
    let le2 : nat_le r.begin now ≡ true = le-leb r.begin now begun.0 in
    ap (λ e. last_from (option_map g l) to (e ∷ xs)) (entry_is delay taps trace now to r)
    ∙ ap (λ b. last_from (if b then later_record (option_map g l) (g r) else option_map g l) to xs) le1
    ∙ ap (λ o. last_from o to xs) (later_pass g l r (ap (λ o. initiates (arrival_of (map Good o))) same.1))
    ∙ ap (λ b. last_from (option_map g (if b then later_record l r else l)) to xs) (sym le2)
    ∙ last_pass delay taps trace now to (if nat_le r.begin now then later_record l r else l) es le begun.1

-- ---- silence

any_mapped : (test : Entry → Bool) (f : Entry → Entry) (es : List Entry) → ((e : Entry) → test (f e) ≡ test e) → list_any test (map f es) ≡ list_any test es
any_mapped test f [] same = refl
any_mapped test f (e ∷ es) same = ap (λ b. b || list_any test (map f es)) (same e) ∙ ap (λ b. test e || b) (any_mapped test f es same)

same_active : (delay tap : ℕ) (taps : List Tap) (trace : List Entry) (now to : ℕ) (e : Entry) → active_at delay tap (entry_at delay taps trace now to e) ≡ active_at delay tap e
same_active delay tap taps trace now to (Noise span) = refl
same_active delay tap taps trace now to (Sent r) = by_test (λ e. active_at delay tap e ≡ active_at delay tap (Sent r)) (ends_between now to (reaches delay r)) (Sent (relabelled delay taps trace r)) (Sent r) (λ _. refl) (λ _. refl)

silent_pass : (delay tap : ℕ) (taps : List Tap) (trace : List Entry) (now to : ℕ) (es : List Entry) (a b : ℕ) → is_silent delay tap (map (entry_at delay taps trace now to) es) a b ≡ is_silent delay tap es a b
silent_pass delay tap taps trace now to es a b =
    ap not (any_mapped (λ e. is_within a b (active_at delay tap e)) (entry_at delay taps trace now to) es (λ e. ap (is_within a b) (same_active delay tap taps trace now to e)))

-- ---- legality

and_then : (a b c d : Bool) → (a ≡ true → c ≡ true) → (b ≡ true → d ≡ true) → (a && b) ≡ true → (c && d) ≡ true
and_then true b c d f g e = ap (λ z. z && d) (f refl) ∙ g e
and_then false b c d f g e = absurd cc

or_then : (a b c d : Bool) → (a ≡ true → c ≡ true) → (b ≡ true → d ≡ true) → (a || b) ≡ true → (c || d) ≡ true
or_then true b c d f g e = ap (λ z. z || d) (f refl)
or_then false b true d f g e = refl
or_then false b false d f g e = g e

claim_pass : (p : Params) (specs : List TapSpec) (taps : List Tap) (trace : List Entry) (now to : ℕ) (es : List Entry) (r : Record) → is_claim p specs es r ≡ true → is_claim p specs (map (entry_at p.ttd taps trace now to) es) r ≡ true
claim_pass p specs taps trace now to es r h =
    let a = address_at specs r.tap in
    ap (λ b. claims_for a (telegram_of r) && b) (silent_pass p.ttd r.tap taps trace now to es (r.begin - tto p a) r.begin) ∙ h

token_pass : (p : Params) (specs : List TapSpec) (taps : List Tap) (trace : List Entry) (now to : ℕ) (es : List Entry) (l l' : Record) (n : ℕ) (r : Record) → l'.tap ≡ l.tap → l'.end ≡ l.end
    → (is_whole (slice_get l.heard r.tap) ≡ true → is_whole (slice_get l'.heard r.tap) ≡ true)
    → follows_token p specs es l n r ≡ true → follows_token p specs (map (entry_at p.ttd taps trace now to) es) l' n r ≡ true
token_pass p specs taps trace now to es l l' n r tap end more h =
    let xs = map (entry_at p.ttd taps trace now to) es in
    ap (λ (m : ℕ). if m == r.tap then nat_le (l'.end + p.tsl) r.begin && is_silent p.ttd r.tap xs l'.end (l'.end + p.tsl) else (n == address_at specs r.tap && is_whole (slice_get l'.heard r.tap)) && nat_lt r.begin (l'.end + p.tsl)) tap
    ∙ ap (λ (m : ℕ). if l.tap == r.tap then nat_le (m + p.tsl) r.begin && is_silent p.ttd r.tap xs m (m + p.tsl) else (n == address_at specs r.tap && is_whole (slice_get l'.heard r.tap)) && nat_lt r.begin (m + p.tsl)) end
    ∙ go (l.tap == r.tap) h
  where
    go : (b : Bool) → (if b then nat_le (l.end + p.tsl) r.begin && is_silent p.ttd r.tap es l.end (l.end + p.tsl) else (n == address_at specs r.tap && is_whole (slice_get l.heard r.tap)) && nat_lt r.begin (l.end + p.tsl)) ≡ true
        → (if b then nat_le (l.end + p.tsl) r.begin && is_silent p.ttd r.tap (map (entry_at p.ttd taps trace now to) es) l.end (l.end + p.tsl) else (n == address_at specs r.tap && is_whole (slice_get l'.heard r.tap)) && nat_lt r.begin (l.end + p.tsl)) ≡ true
    go true f = ap (λ b. nat_le (l.end + p.tsl) r.begin && b) (silent_pass p.ttd r.tap taps trace now to es l.end (l.end + p.tsl)) ∙ f
    go false f = and_then (n == address_at specs r.tap && is_whole (slice_get l.heard r.tap)) (nat_lt r.begin (l.end + p.tsl)) (n == address_at specs r.tap && is_whole (slice_get l'.heard r.tap)) (nat_lt r.begin (l.end + p.tsl))
        (and_then (n == address_at specs r.tap) (is_whole (slice_get l.heard r.tap)) (n == address_at specs r.tap) (is_whole (slice_get l'.heard r.tap)) (λ z. z) more) (λ z. z) f

follows_pass : (p : Params) (specs : List TapSpec) (taps : List Tap) (trace : List Entry) (now to : ℕ) (es : List Entry) (l l' : Record) (o : Option ℕ) (r : Record) → l'.tap ≡ l.tap → l'.end ≡ l.end
    → (is_whole (slice_get l.heard r.tap) ≡ true → is_whole (slice_get l'.heard r.tap) ≡ true)
    → follows_by p specs es l o r ≡ true → follows_by p specs (map (entry_at p.ttd taps trace now to) es) l' o r ≡ true
follows_pass p specs taps trace now to es l l' None r tap end more h = ap (λ (m : ℕ). m == r.tap) tap ∙ h
follows_pass p specs taps trace now to es l l' (Some n) r tap end more h = token_pass p specs taps trace now to es l l' n r tap end more h

-- legal after the record before, legal after it relabelled
after_pass_by : (p : Params) (specs : List TapSpec) (taps : List Tap) (trace : List Entry) (now to : ℕ) (es : List Entry) (l l' r : Record) → SameSending l' l
    → (is_whole (slice_get l.heard r.tap) ≡ true → is_whole (slice_get l'.heard r.tap) ≡ true)
    → is_legal_after p specs es (Some l) r ≡ true → is_legal_after p specs (map (entry_at p.ttd taps trace now to) es) (Some l') r ≡ true
after_pass_by p specs taps trace now to es l l' r same more h =
    let xs = map (entry_at p.ttd taps trace now to) es in
    let offers : offered_to l' ≡ offered_to l = ap (λ o. offered_by (arrival_of (map Good o))) same.1 in
    and_then (nat_le l.end r.begin) (follows_by p specs es l (offered_to l) r || is_claim p specs es r) (nat_le l'.end r.begin) (follows_by p specs xs l' (offered_to l') r || is_claim p specs xs r)
    (λ e. ap (λ (m : ℕ). nat_le m r.begin) same.3 ∙ e)
    (or_then (follows_by p specs es l (offered_to l) r) (is_claim p specs es r) (follows_by p specs xs l' (offered_to l') r) (is_claim p specs xs r)
    (λ e. ap (λ o. follows_by p specs xs l' o r) offers ∙ follows_pass p specs taps trace now to es l l' (offered_to l) r same.0 same.3 more e)
    (claim_pass p specs taps trace now to es r)) h

more_whole : (delay : ℕ) (taps : List Tap) (trace : List Entry) (now to : ℕ) (l : Record) (i : ℕ) → is_whole (slice_get l.heard i) ≡ true → is_whole (slice_get (relabel delay taps trace now to l).heard i) ≡ true
more_whole delay taps trace now to l i h =
    by_test (λ (z : Record). is_whole (slice_get z.heard i) ≡ true) (ends_between now to (reaches delay l)) (relabelled delay taps trace l) l (λ _. whole_by delay trace l 0 i taps l.heard h) (λ _. h)

follows_heard : (p : Params) (specs : List TapSpec) (es : List Entry) (l : Record) (o : Option ℕ) (r : Record) (hs : List Heard) → follows_by p specs es l o (record r { heard = hs }) ≡ follows_by p specs es l o r
follows_heard p specs es l None r hs = refl
follows_heard p specs es l (Some n) r hs = refl

legal_heard : (p : Params) (specs : List TapSpec) (es : List Entry) (l r : Record) (hs : List Heard) → is_legal_after p specs es (Some l) (record r { heard = hs }) ≡ is_legal_after p specs es (Some l) r
legal_heard p specs es l r hs = ap (λ b. nat_le l.end r.begin && (b || is_claim p specs es r)) (follows_heard p specs es l (offered_to l) r hs)

legal_pass : (p : Params) (specs : List TapSpec) (taps : List Tap) (trace : List Entry) (now to : ℕ) (es : List Entry) (last : Option Record) (r : Record) → is_legal_after p specs es last r ≡ true
    → is_legal_after p specs (map (entry_at p.ttd taps trace now to) es) (option_map (relabel p.ttd taps trace now to) last) (relabel p.ttd taps trace now to r) ≡ true
legal_pass p specs taps trace now to es None r h =
    by_test (λ (z : Record). is_claim p specs (map (entry_at p.ttd taps trace now to) es) z ≡ true) (ends_between now to (reaches p.ttd r)) (relabelled p.ttd taps trace r) r
    (λ _. claim_pass p specs taps trace now to es r h) (λ _. claim_pass p specs taps trace now to es r h)
legal_pass p specs taps trace now to es (Some l) r h =
    let l' = relabel p.ttd taps trace now to l in
    let done = after_pass_by p specs taps trace now to es l l' r (same_sending p.ttd taps trace now to l) (more_whole p.ttd taps trace now to l r.tap) h in
    by_test (λ (z : Record). is_legal_after p specs (map (entry_at p.ttd taps trace now to) es) (Some l') z ≡ true) (ends_between now to (reaches p.ttd r)) (relabelled p.ttd taps trace r) r
    (λ _. legal_heard p specs (map (entry_at p.ttd taps trace now to) es) l' r (heard_by p.ttd trace r 0 taps r.heard) ∙ done) (λ _. done)

illegal_pass : (p : Params) (specs : List TapSpec) (taps : List Tap) (trace : List Entry) (now to : ℕ) (tr : List Entry) (last : Option Record) (n : ℕ) (es : List Entry) → first_illegal_from p specs tr last n es ≡ None
    → first_illegal_from p specs (map (entry_at p.ttd taps trace now to) tr) (option_map (relabel p.ttd taps trace now to) last) n (map (entry_at p.ttd taps trace now to) es) ≡ None
illegal_pass p specs taps trace now to tr last n [] h = refl
illegal_pass p specs taps trace now to tr last n (Noise span ∷ es) h = illegal_pass p specs taps trace now to tr last (n + 1) es h
illegal_pass p specs taps trace now to tr last n (Sent r ∷ es) h =
    let g = relabel p.ttd taps trace now to in
    let tr' = map (entry_at p.ttd taps trace now to) tr in
    let xs = map (entry_at p.ttd taps trace now to) es in
    subst (λ e. first_illegal_from p specs tr' (option_map g last) n (e ∷ xs) ≡ None) (sym (entry_is p.ttd taps trace now to r))
    (ap (λ b. if b then (if is_legal_after p specs tr' (option_map g last) (g r) then first_illegal_from p specs tr' (Some (g r)) (n + 1) xs else Some n) else first_illegal_from p specs tr' (option_map g last) (n + 1) xs) (ap (λ o. initiates (arrival_of (map Good o))) (same_sending p.ttd taps trace now to r).1)
    ∙ go (is_initiator r) (is_legal_after p specs tr last r) refl h (illegal_pass p specs taps trace now to tr (Some r) (n + 1) es) (illegal_pass p specs taps trace now to tr last (n + 1) es))
  where
    go : (b c : Bool) → is_legal_after p specs tr last r ≡ c → (if b then (if c then first_illegal_from p specs tr (Some r) (n + 1) es else Some n) else first_illegal_from p specs tr last (n + 1) es) ≡ None
        → (first_illegal_from p specs tr (Some r) (n + 1) es ≡ None → first_illegal_from p specs (map (entry_at p.ttd taps trace now to) tr) (Some (relabel p.ttd taps trace now to r)) (n + 1) (map (entry_at p.ttd taps trace now to) es) ≡ None)
        → (first_illegal_from p specs tr last (n + 1) es ≡ None → first_illegal_from p specs (map (entry_at p.ttd taps trace now to) tr) (option_map (relabel p.ttd taps trace now to) last) (n + 1) (map (entry_at p.ttd taps trace now to) es) ≡ None)
        → (if b then (if is_legal_after p specs (map (entry_at p.ttd taps trace now to) tr) (option_map (relabel p.ttd taps trace now to) last) (relabel p.ttd taps trace now to r) then first_illegal_from p specs (map (entry_at p.ttd taps trace now to) tr) (Some (relabel p.ttd taps trace now to r)) (n + 1) (map (entry_at p.ttd taps trace now to) es) else Some n) else first_illegal_from p specs (map (entry_at p.ttd taps trace now to) tr) (option_map (relabel p.ttd taps trace now to) last) (n + 1) (map (entry_at p.ttd taps trace now to) es)) ≡ None
    go true true e f some none = ap (λ b. if b then first_illegal_from p specs (map (entry_at p.ttd taps trace now to) tr) (Some (relabel p.ttd taps trace now to r)) (n + 1) (map (entry_at p.ttd taps trace now to) es) else Some n) (legal_pass p specs taps trace now to tr last r e) ∙ some f
    go true false e f some none = absurd cc
    go false c e f some none = none f

-- the trace is legal still
pub still_legal_pass : (p : Params) (specs : List TapSpec) (taps : List Tap) (now to : ℕ) (trace : List Entry) → first_illegal p specs trace ≡ None → first_illegal p specs (map (entry_at p.ttd taps trace now to) trace) ≡ None
still_legal_pass p specs taps now to trace h = illegal_pass p specs taps trace now to trace None 0 trace h

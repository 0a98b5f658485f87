-- Why a tap that speaks as an initiator may: what it knows of the bus, and that its record is legal.
use Rattle.std.proofs.Common.{◌≡◌, ℕ, ◌+◌, ◌-◌, ◌<◌, ◌≤◌, ◌⊎◌, inl, inr, ⊎_elim, Bool, true, false, if◌then◌else◌, not, ◌==◌, ◌&&◌, ◌||◌, List, [], ◌∷◌, refl, sym, ap, ◌∙◌, subst, arith, Option, Some, None}
use Rattle.std.specs.Prelude.{slice_get, nat_lt, nat_le, IfSome}
use Rattle.std.specs.List.{list_any}
use Rattle.std.specs.Option.{option_and_then}
use Rattle.std.proofs.lemmas.Bool.{eqb-true, eq-eqb, lt-ltb, le-ltb, le-leb, cases_lt}
use Rattle.pb_timers.specs.Timers.{Params, tto}
use Rattle.law_turn.specs.Spans.{Span}
use Rattle.law_turn.specs.Phases.{Phase, Offline, PassiveIdle, Listening, Idle, Claim, Use, AwaitData, AwaitStatus, Pass, Checking}
use Rattle.law_turn.specs.Stations.{Reply}
use Rattle.law_turn.specs.Turns.{token_octets}
use Rattle.law_model.specs.Trace.{Record, Entry, Sent, Noise, with_entry}
use Rattle.law_model.specs.Medium.{TapSpec, Tap, part_after, is_unheard, reaches}
use Rattle.law_model.proofs.Cases.{by_test}
use Rattle.law_runs.specs.Activity.{active_at, is_within, is_silent}
use Rattle.law_runs.specs.Initiators.{offered_to, telegram_of, claims_for}
use Rattle.law_runs.specs.Legality.{is_whole, address_at, is_claim, follows_by, is_legal_after}
use Rattle.law_runs.specs.Premises.{Waited}
use Rattle.law_token.specs.Lists.{Each}
use Rattle.law_token.specs.Places.{LeavesTime, heard_span, IsOver, Place, Over, InitEnds, InitsBy, IsOwn, Spares}
use Rattle.law_token.specs.Tokens.{Held, Taken, Offers, Doomed}
use Rattle.law_token.specs.Views.{ViewOf, Knows, view, place, TapHolds}
use Rattle.law_token.specs.Entries.{EndedBefore, Origin}
use Rattle.law_token.proofs.bus.Lists.{each_map, each_all, each_both, each_without}
use Rattle.law_token.proofs.bus.Pairs.{Public, Reaches, public_one, Lives, Speaks, Goes, Takes, Again, Begins, Holding, Keeps, Has, over_clip}
use Rattle.law_token.proofs.bus.Hearers.{IsChecking}
use Rattle.law_token.proofs.bus.Live.{holding_view}
use Rattle.law_token.proofs.turn.Actions.{MayClaim, Grounds, ByToken, BySlot, BySilence}
use Rattle.law_model.proofs.Window.{or_right, both_true}

-- ---- what is over is public

public_of : (c : Place) (trace : List Entry) (q : ℕ) (own : Span) → c.since ≤ q → q < c.now → own.begin ≤ own.end → own.end ≤ q
    → (es : List Entry) → Each (λ e. IsOver c.now q (heard_span c.p.ttd c.tap c.since e)) es → Each (IsOwn c.tap own) es → Each (Reaches c.tap) es → Each (Public c.p.ttd c.tap c.now q) es
public_of c trace q own from late some ended [] over owns reached = tt
public_of c trace q own from late some ended (e ∷ es) over owns reached =
    (public_one c.p.ttd c.tap c.since c.now q own from late some ended e over.0 owns.0 reached.0, public_of c trace q own from late some ended es over.1 owns.1 reached.1)

pub public_known : (c : Place) (trace : List Entry) (quiet : ℕ) (own : Span) → quiet < c.now → Knows c trace false quiet own → Each (Reaches c.tap) trace → Each (Public c.p.ttd c.tap c.now quiet) trace
public_known c trace quiet own late k reached = public_of c trace quiet own (let a = k.started in let b = k.order in let d = k.ended in omega (arith, a, b, d)) late k.order k.ended trace k.senses.0 k.owns reached

-- ---- and makes silence

not_within : (now q from to : ℕ) (span : Span) → q ≤ from → to ≤ now → (now ≤ span.begin) ⊎ (span.end ≤ q) → is_within from to span ≡ false
not_within now q from to span a b h =
    ⊎_elim (λ (x : now ≤ span.begin). ap (λ z. z && nat_lt from span.end) (le-ltb span.begin to (omega arith)))
    (λ (x : span.end ≤ q). second (nat_lt span.begin to) (nat_lt from span.end) (le-ltb from span.end (omega arith))) h
  where
    second : (u v : Bool) → v ≡ false → (u && v) ≡ false
    second true v e = e
    second false v e = refl

silent_one : (delay tap now q from to : ℕ) → q ≤ from → to ≤ now → (e : Entry) → Public delay tap now q e → is_within from to (active_at delay tap e) ≡ false
silent_one delay tap now q from to a b (Noise span) h = not_within now q from to span a b h
silent_one delay tap now q from to a b (Sent r) h = by (r.tap == tap) refl
  where
    by : (t : Bool) → (r.tap == tap) ≡ t → is_within from to (if t then record { begin = r.begin; end = r.end } else reaches delay r) ≡ false
    by true e = not_within now q from to (record { begin = r.begin; end = r.end }) a b (inr (h.0 (eqb-true r.tap tap e)))
    by false e = not_within now q from to (reaches delay r) a b (h.1 (λ same. let w : true ≡ false = sym (eq-eqb r.tap tap same) ∙ e in cc))

none_active : (delay tap now q from to : ℕ) → q ≤ from → to ≤ now → (es : List Entry) → Each (Public delay tap now q) es → list_any (λ e. is_within from to (active_at delay tap e)) es ≡ false
none_active delay tap now q from to a b [] all = refl
none_active delay tap now q from to a b (e ∷ es) all =
    ap (λ z. z || list_any (λ e. is_within from to (active_at delay tap e)) es) (silent_one delay tap now q from to a b e all.0) ∙ none_active delay tap now q from to a b es all.1

pub silent_by : (delay tap now q from to : ℕ) (es : List Entry) → q ≤ from → to ≤ now → Each (Public delay tap now q) es → is_silent delay tap es from to ≡ true
silent_by delay tap now q from to es a b all = ap not (none_active delay tap now q from to a b es all)

-- ---- why the tap may speak

-- nobody else has waited out
abbrev pub Alone : Params → (now k : ℕ) → List Waited → Type 0
Alone p now k waited = (m b : ℕ) → (m ≡ k → ⊥) → now ≤ b + p.ttd → list_any (λ w. (w.tap == m) && nat_le b w.moment) waited ≡ true → ⊥

-- why it may speak, in the words of the trace
pub data Warrant (p : Params) (now k a s : ℕ) (master : Bool) (trace : List Entry) (last : Option Record) (octets : List ℕ) : Type 0 where
  Holds : (own : Span) → Held last k own → Warrant p now k a s master trace last octets
  HasTaken : (at : ℕ) → Taken p.ttd last k a at → now ≤ at + p.tid1 + p.lag → Warrant p now k a s master trace last octets
  Repeats : (own : Span) → Offers last k own → own.end + p.tsl ≤ now → Each (Public p.ttd k now own.end) trace → Warrant p now k a s master trace last octets
  Waits : (q : ℕ) → (s ≤ q) × (master ≡ true) → q + tto p a ≤ now → Each (Public p.ttd k now q) trace → octets ≡ token_octets a a → Warrant p now k a s master trace last octets

pub speaks_of : (p : Params) (now k a s : ℕ) (master : Bool) (trace : List Entry) (waited : List Waited) (last : Option Record) (octets : List ℕ) → Warrant p now k a s master trace last octets
    → ((q : ℕ) → (s ≤ q) × (master ≡ true) → q + tto p a ≤ now → Each (Public p.ttd k now q) trace → Alone p now k waited) → Speaks (record { p = p; now = now; tap = k; address = a; since = s }) trace waited last
speaks_of p now k a s master trace waited last octets (Holds own h) alone = Goes own h
speaks_of p now k a s master trace waited last octets (HasTaken at h late) alone = Takes at h late
speaks_of p now k a s master trace waited last octets (Repeats own h over public) alone = Again own h over
speaks_of p now k a s master trace waited last octets (Waits q from over public said) alone = Begins q (record { timeout = omega (arith, over); public = public; alone = alone q from over public })

-- a check that is over is not doomed
pub not_doomed : (c : Place) (trace : List Entry) (own : Span) → own.end + c.p.tsl ≤ c.now → Doomed c trace own → ⊥
not_doomed c trace own over d = d (each_all (λ e. Spares c.now (own.end + c.p.tsl) (heard_span c.p.ttd c.tap c.since e)) trace (λ e. spared (heard_span c.p.ttd c.tap c.since e)))
  where
    spared : (o : Option Span) → Spares c.now (own.end + c.p.tsl) o
    spared None = tt
    spared (Some x) = ⊎_elim (λ (a : x.begin < c.now). inl a) (λ (b : c.now ≤ x.begin). inr (omega arith)) (cases_lt x.begin c.now)

checking_view : (c : Place) (trace : List Entry) (last : Option Record) (ph : Phase) (busy : Bool) (quiet : ℕ) (own : Span) (reply : Option Reply) → IsChecking ph → ViewOf c trace last ph busy quiet own reply
    → Offers last c.tap own ⊎ Doomed c trace own
checking_view c trace last (Checking tries) busy quiet own reply is v = v.3
checking_view c trace last Offline busy quiet own reply is v = absurd is
checking_view c trace last PassiveIdle busy quiet own reply is v = absurd is
checking_view c trace last (Listening doubled) busy quiet own reply is v = absurd is
checking_view c trace last (Idle refused) busy quiet own reply is v = absurd is
checking_view c trace last (Claim sent ready) busy quiet own reply is v = absurd is
checking_view c trace last (Use asked ready) busy quiet own reply is v = absurd is
checking_view c trace last (AwaitData asked retry slot) busy quiet own reply is v = absurd is
checking_view c trace last (AwaitStatus of slot) busy quiet own reply is v = absurd is
checking_view c trace last (Pass tries ready) busy quiet own reply is v = absurd is

by_holding : (p : Params) (now k a s : ℕ) (master : Bool) (trace : List Entry) (last : Option Record) (octets : List ℕ) → Holding (record { p = p; now = now; tap = k; address = a; since = s }) last → Warrant p now k a s master trace last octets
by_holding p now k a s master trace last octets (Keeps own h) = Holds own h
by_holding p now k a s master trace last octets (Has at h late) = HasTaken at h late

pub warrant : (p : Params) (now : ℕ) (trace : List Entry) (last : Option Record) (k : ℕ) (t : Tap) (octets : List ℕ) → LeavesTime p → TapHolds p now trace last k t → Each (Reaches k) trace
    → Knows (place p now k t) trace false (view p t).quiet (view p t).own → (view p t).address ≡ t.spec.address → (MayClaim (view p t).phase → t.spec.master ≡ true)
    → Grounds (place p now k t) (view p t).address (view p t).quiet (view p t).own (view p t).phase octets → Warrant p now k t.spec.address t.since t.spec.master trace last octets
warrant p now trace last k t octets fits o reached knows same rank (ByToken may) = by_holding p now k t.spec.address t.since t.spec.master trace last octets (holding_view p now trace last k t t.marks o may)
warrant p now trace last k t octets fits o reached knows same rank (BySlot is still over) =
    let v = view p t in
    let c = place p now k t in
    let public = public_known c trace v.quiet v.own (let a = fits.slot in omega (arith, still, over, a)) knows reached in
    ⊎_elim (λ (h : Offers last k v.own). Repeats v.own h over (subst (λ n. Each (Public p.ttd k now n) trace) still public))
    (λ (d : Doomed c trace v.own). absurd (not_doomed c trace v.own over d))
    (checking_view c trace last v.phase v.busy v.quiet v.own v.reply is o.view_ok)
warrant p now trace last k t octets fits o reached knows same rank (BySilence may over said) =
    let v = view p t in
    Waits v.quiet (let a = knows.started in let b = knows.order in let d = knows.ended in omega (arith, a, b, d), rank may) (subst (λ n. v.quiet + tto p n ≤ now) same over) (public_known (place p now k t) trace v.quiet v.own (let a = fits.slot in omega (arith, over, a)) knows reached)
    (subst (λ n. octets ≡ token_octets n n) same said)

-- ---- where the record comes from

ended_over : (c : Place) (q : ℕ) (e : Entry) → EndedBefore c.p.ttd c.tap c.now q e → IsOver c.now q (heard_span c.p.ttd c.tap c.since e)
ended_over c q (Noise span) h = over_clip c.now q c.since span h
ended_over c q (Sent r) h =
    by_test (λ (o : Option Span). IsOver c.now q (option_and_then (part_after c.since) o)) (r.tap == c.tap || is_unheard (slice_get r.heard c.tap)) None (Some (reaches c.p.ttd r))
    (λ _. tt) (λ b. over_clip c.now q c.since (reaches c.p.ttd r) (h.1 (λ same. neither (r.tap == c.tap) (is_unheard (slice_get r.heard c.tap)) (eq-eqb r.tap c.tap same) b)))
  where
    neither : (a b : Bool) → a ≡ true → (a || b) ≡ false → ⊥
    neither true b e h = cc
    neither false b e h = cc

-- a telegram of the tap has ended
abbrev pub OwnOver : (tap now : ℕ) → Entry → Type 0
OwnOver tap now (Noise span) = Unit {0}
OwnOver tap now (Sent r) = r.tap ≡ tap → r.begin < now

ended_init : (c : Place) (q : ℕ) (e : Entry) → OwnOver c.tap c.now e → EndedBefore c.p.ttd c.tap c.now q e → InitEnds c.tap q e
ended_init c q (Noise span) own h = tt
ended_init c q (Sent r) own h = λ mine init. ⊎_elim (λ (a : c.now ≤ r.begin). absurd (let b = own mine in omega (arith, a, b))) (λ (b : r.end ≤ q). b) (h.0 mine init)

-- one that lives has an origin for what it says
pub origin_lives : (c : Place) (trace : List Entry) (waited : List Waited) (x : Record) → x.tap ≡ c.tap → x.begin ≡ c.now → Each (OwnOver c.tap c.now) trace → Lives c trace → Origin c.p (with_entry (Sent x) trace) waited x
origin_lives c trace waited x mine new own live =
    inr (λ q all.
    let here : Each (EndedBefore c.p.ttd c.tap c.now q) trace = subst (λ n. Each (EndedBefore c.p.ttd n c.now q) trace) mine (subst (λ n. Each (EndedBefore c.p.ttd x.tap n q) trace) new (each_without (EndedBefore c.p.ttd x.tap x.begin q) (Sent x) trace all).1) in
    let over : Over c trace q = each_map (EndedBefore c.p.ttd c.tap c.now q) (λ e. IsOver c.now q (heard_span c.p.ttd c.tap c.since e)) trace (λ e h. ended_over c q e h) here in
    let inits : InitsBy c.tap q trace = each_both (OwnOver c.tap c.now) (EndedBefore c.p.ttd c.tap c.now q) (InitEnds c.tap q) trace (λ e a b. ended_init c q e a b) own here in
    let h = live q over inits in
    omega (arith, h, new))

-- ---- the record is legal

or_left : (a b : Bool) → a ≡ true → (a || b) ≡ true
or_left true b e = refl
or_left false b e = absurd cc

-- the telegram that is said, by what it claims
abbrev pub SaysClaim : List ℕ → ℕ → Record → Type 0
SaysClaim octets a x = octets ≡ token_octets a a → claims_for a (telegram_of x) ≡ true

legal_claim : (p : Params) (specs : List TapSpec) (now k a q : ℕ) (trace : List Entry) (x : Record) → x.tap ≡ k → x.begin ≡ now → address_at specs k ≡ a → q + tto p a ≤ now → Each (Public p.ttd k now q) trace
    → claims_for a (telegram_of x) ≡ true → is_claim p specs trace x ≡ true
legal_claim p specs now k a q trace x mine new here over public claims =
    let at : address_at specs x.tap ≡ a = ap (λ n. address_at specs n) mine ∙ here in
    both_true (claims_for (address_at specs x.tap) (telegram_of x)) (is_silent p.ttd x.tap trace (x.begin - tto p (address_at specs x.tap)) x.begin)
    (subst (λ n. claims_for n (telegram_of x) ≡ true) (sym at) claims)
    (subst (λ n. is_silent p.ttd x.tap trace (x.begin - tto p n) x.begin ≡ true) (sym at)
    (subst (λ n. is_silent p.ttd n trace (x.begin - tto p a) x.begin ≡ true) (sym mine)
    (subst (λ n. is_silent p.ttd k trace (n - tto p a) n ≡ true) (sym new) (silent_by p.ttd k now q (now - tto p a) now trace (omega (arith, over)) (omega arith) public))))

legal_after : (p : Params) (specs : List TapSpec) (trace : List Entry) (r x : Record) → r.end ≤ x.begin → (follows_by p specs trace r (offered_to r) x ≡ true) ⊎ (is_claim p specs trace x ≡ true) → is_legal_after p specs trace (Some r) x ≡ true
legal_after p specs trace r x ended h =
    both_true (nat_le r.end x.begin) (follows_by p specs trace r (offered_to r) x || is_claim p specs trace x) (le-leb r.end x.begin ended)
    (⊎_elim (λ (a : follows_by p specs trace r (offered_to r) x ≡ true). or_left (follows_by p specs trace r (offered_to r) x) (is_claim p specs trace x) a)
    (λ (b : is_claim p specs trace x ≡ true). or_right (follows_by p specs trace r (offered_to r) x) (is_claim p specs trace x) b) h)

pub legal_said : (p : Params) (specs : List TapSpec) (now k a s : ℕ) (master : Bool) (trace : List Entry) (last : Option Record) (octets : List ℕ) (x : Record) → LeavesTime p → x.tap ≡ k → x.begin ≡ now → address_at specs k ≡ a
    → SaysClaim octets a x → IfSome last (λ r. r.end ≤ now) → Warrant p now k a s master trace last octets → is_legal_after p specs trace last x ≡ true
legal_said p specs now k a s master trace last octets x fits mine new here claims ended (Holds own h) =
    subst (λ l. is_legal_after p specs trace l x ≡ true) (sym h.is)
    (legal_after p specs trace h.r x (let e = subst (λ l. IfSome l (λ r. r.end ≤ now)) h.is ended in omega (arith, e, new))
    (inl (ap (λ o. follows_by p specs trace h.r o x) h.no_offer ∙ eq-eqb h.r.tap x.tap (h.by ∙ sym mine))))
legal_said p specs now k a s master trace last octets x fits mine new here claims ended (HasTaken at h late) =
    let e = subst (λ l. IfSome l (λ r. r.end ≤ now)) h.is ended in
    subst (λ l. is_legal_after p specs trace l x ≡ true) (sym h.is)
    (legal_after p specs trace h.r x (omega (arith, e, new))
    (inl (ap (λ o. follows_by p specs trace h.r o x) h.offers
    ∙ ap (λ b. if b then nat_le (h.r.end + p.tsl) x.begin && is_silent p.ttd x.tap trace h.r.end (h.r.end + p.tsl) else (a == address_at specs x.tap && is_whole (slice_get h.r.heard x.tap) && nat_lt x.begin (h.r.end + p.tsl))) (other (h.r.tap == x.tap) refl)
    ∙ both_true (a == address_at specs x.tap && is_whole (slice_get h.r.heard x.tap)) (nat_lt x.begin (h.r.end + p.tsl))
    (both_true (a == address_at specs x.tap) (is_whole (slice_get h.r.heard x.tap)) (eq-eqb a (address_at specs x.tap) (sym here ∙ ap (λ n. address_at specs n) (sym mine))) (subst (λ n. is_whole (slice_get h.r.heard n) ≡ true) (sym mine) h.whole))
    (lt-ltb x.begin (h.r.end + p.tsl) (let f = fits.take in let g = fits.idle_order in let i = h.heard_at in omega (arith, f, g, i, late, new))))))
  where
    other : (b : Bool) → (h.r.tap == x.tap) ≡ b → (h.r.tap == x.tap) ≡ false
    other true e = absurd (h.another (eqb-true h.r.tap x.tap e ∙ mine))
    other false e = e
legal_said p specs now k a s master trace last octets x fits mine new here claims ended (Repeats own h over public) =
    let e = subst (λ l. IfSome l (λ r. r.end ≤ now)) h.is ended in
    subst (λ l. is_legal_after p specs trace l x ≡ true) (sym h.is)
    (legal_after p specs trace h.r x (omega (arith, e, new))
    (inl (ap (λ o. follows_by p specs trace h.r o x) h.offers
    ∙ ap (λ b. if b then nat_le (h.r.end + p.tsl) x.begin && is_silent p.ttd x.tap trace h.r.end (h.r.end + p.tsl) else (h.to == address_at specs x.tap && is_whole (slice_get h.r.heard x.tap) && nat_lt x.begin (h.r.end + p.tsl))) (eq-eqb h.r.tap x.tap (h.by ∙ sym mine))
    ∙ both_true (nat_le (h.r.end + p.tsl) x.begin) (is_silent p.ttd x.tap trace h.r.end (h.r.end + p.tsl)) (le-leb (h.r.end + p.tsl) x.begin (let i = h.end in omega (arith, over, new, i)))
    (subst (λ n. is_silent p.ttd n trace h.r.end (h.r.end + p.tsl) ≡ true) (sym mine)
    (silent_by p.ttd k now own.end h.r.end (h.r.end + p.tsl) trace (let i = h.end in omega (arith, i)) (let i = h.end in omega (arith, i, over)) public)))))
legal_said p specs now k a s master trace None octets x fits mine new here claims ended (Waits q from over public said) = legal_claim p specs now k a q trace x mine new here over public (claims said)
legal_said p specs now k a s master trace (Some r) octets x fits mine new here claims ended (Waits q from over public said) =
    legal_after p specs trace r x (omega (arith, ended, new)) (inr (legal_claim p specs now k a q trace x mine new here over public (claims said)))

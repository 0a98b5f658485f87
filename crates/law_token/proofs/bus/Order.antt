-- What a new initiator record is to the records before it, and where it comes from.
use Rattle.std.proofs.Common.{◌≡◌, ℕ, suc, ◌+◌, ◌<◌, ◌≤◌, ◌⊎◌, inl, inr, ⊎_elim, true, List, [], ◌∷◌, refl, ap, ◌∙◌, arith, Option, Some, None}
use Rattle.std.proofs.lemmas.Bool.{cases_eq}
use Rattle.std.proofs.lemmas.Option.{same_Some}
use Rattle.pb_timers.specs.Timers.{Params}
use Rattle.law_turn.specs.Spans.{Span}
use Rattle.law_model.specs.Trace.{Record, Entry, Sent, Noise}
use Rattle.law_runs.specs.Initiators.{is_initiator, offered_to}
use Rattle.law_runs.specs.Premises.{Waited}
use Rattle.law_token.specs.Lists.{Each, In}
use Rattle.law_token.specs.Places.{LeavesTime, Place}
use Rattle.law_token.specs.Tokens.{Held, Taken}
use Rattle.law_token.specs.Entries.{Origin, ComesBefore, AllOthers}
use Rattle.law_token.proofs.bus.Lists.{each_in}
use Rattle.law_token.proofs.bus.Pairs.{Public, HasOrigin, Old, none_new, Speaks, Goes, Takes, Again, Begins}
use Rattle.law_token.proofs.pass.Brings.{one_sending}

-- it is over, and has reached all, but for the speaker's own that offer the token to nobody
abbrev pub IsPast : (delay now k : ℕ) → Record → Type 0
IsPast delay now k y = (y.end ≤ now) × ((y.end + delay ≤ now) ⊎ ((y.tap ≡ k) × (offered_to y ≡ None)))

-- where the last record is over for all, so is each before it
past_all : (delay now k : ℕ) (trace : List Entry) (r y : Record) → AllOthers trace → In (Sent r) trace → In (Sent y) trace → r.begin < r.end → r.end + delay ≤ now → ComesBefore delay (Some r) y → IsPast delay now k y
past_all delay now k trace r y others ir iy some over order =
    ⊎_elim (λ (same : (y.tap ≡ r.tap) × (y.begin ≡ r.begin)). let e = ap (λ (z : Record). z.end) (one_sending trace y r others iy ir same.0 same.1) in (omega (arith, e), inl (omega (arith, e))))
    (λ (before : (y.end ≤ r.begin) × ((y.end + delay ≤ r.begin) ⊎ ((y.tap ≡ r.tap) × (offered_to y ≡ None)))). (omega (arith, before.0), inl (omega (arith, before.0)))) order

-- what is needed of entries
abbrev pub HasRecord : Params → ℕ → List Entry → List Waited → Option Record → Entry → Type 0
HasRecord p now trace waited last (Noise span) = Unit {0}
HasRecord p now trace waited last (Sent x) = (x.begin ≤ now) × (x.begin < x.end) × (is_initiator x ≡ true → ComesBefore p.ttd last x) × (is_initiator x ≡ true → now ≤ x.begin + p.ttd → Origin p trace waited x)

origins_of : (p : Params) (now : ℕ) (trace : List Entry) (waited : List Waited) (last : Option Record) (es : List Entry) → Each (HasRecord p now trace waited last) es → Each (HasOrigin p now trace waited) es
origins_of p now trace waited last [] all = tt
origins_of p now trace waited last (Noise span ∷ es) all = (tt, origins_of p now trace waited last es all.1)
origins_of p now trace waited last (Sent x ∷ es) all = ((all.0.0, all.0.3), origins_of p now trace waited last es all.1)

-- where a tap speaks as an initiator, all before it is past
pub is_past : (c : Place) (trace : List Entry) (waited : List Waited) (r y : Record) → LeavesTime c.p → Each (HasRecord c.p c.now trace waited (Some r)) trace → AllOthers trace → In (Sent r) trace → is_initiator r ≡ true → In (Sent y) trace → is_initiator y ≡ true
    → ((own : Span) → Held (Some r) c.tap own → own.end ≤ c.now) → ((at : ℕ) → Taken c.p.ttd (Some r) c.tap c.address at → at ≤ c.now) → Speaks c trace waited (Some r) → IsPast c.p.ttd c.now c.tap y
is_past c trace waited r y fits all others ir init iy inity ended heard (Goes own h) =
    let e = same_Some r h.r h.is in
    let order = (each_in (HasRecord c.p c.now trace waited (Some r)) (Sent y) trace all iy).2 inity in
    let at = each_in (HasRecord c.p c.now trace waited (Some r)) (Sent r) trace all ir in
    let stop : r.end ≤ c.now = (let a = ended own h in let b = ap (λ (z : Record). z.end) e in omega (arith, a, b, h.end)) in
    let mine : r.tap ≡ c.tap = ap (λ (z : Record). z.tap) e ∙ h.by in
    let none : offered_to r ≡ None = ap offered_to e ∙ h.no_offer in
    ⊎_elim (λ (same : (y.tap ≡ r.tap) × (y.begin ≡ r.begin)). let s = one_sending trace y r others iy ir same.0 same.1 in
    (let b = ap (λ (z : Record). z.end) s in omega (arith, b, stop), inr (ap (λ (z : Record). z.tap) s ∙ mine, ap offered_to s ∙ none)))
    (λ (before : (y.end ≤ r.begin) × ((y.end + c.p.ttd ≤ r.begin) ⊎ ((y.tap ≡ r.tap) × (offered_to y ≡ None)))).
    (omega (arith, before.0, at.0), ⊎_elim (λ (a : y.end + c.p.ttd ≤ r.begin). inl (omega (arith, at.0))) (λ (b : (y.tap ≡ r.tap) × (offered_to y ≡ None)). inr (b.0 ∙ mine, b.1)) before.1)) order
is_past c trace waited r y fits all others ir init iy inity ended heard (Takes at h late) =
    let e = ap (λ (z : Record). z.end) (same_Some r h.r h.is) in
    let a = heard at h in
    past_all c.p.ttd c.now c.tap trace r y others ir iy (each_in (HasRecord c.p c.now trace waited (Some r)) (Sent r) trace all ir).1 (omega (arith, e, a, h.heard_at)) ((each_in (HasRecord c.p c.now trace waited (Some r)) (Sent y) trace all iy).2 inity)
is_past c trace waited r y fits all others ir init iy inity ended heard (Again own h over) =
    let e = ap (λ (z : Record). z.end) (same_Some r h.r h.is) in
    past_all c.p.ttd c.now c.tap trace r y others ir iy (each_in (HasRecord c.p c.now trace waited (Some r)) (Sent r) trace all ir).1 (omega (arith, e, over, h.end, fits.take)) ((each_in (HasRecord c.p c.now trace waited (Some r)) (Sent y) trace all iy).2 inity)
is_past c trace waited r y fits all others ir init iy inity ended heard (Begins q cl) =
    let h = each_in (HasRecord c.p c.now trace waited (Some r)) (Sent r) trace all ir in
    let public = each_in (Public c.p.ttd c.tap c.now q) (Sent r) trace cl.public ir in
    let over : r.end + c.p.ttd ≤ c.now = ⊎_elim
    (λ (mine : r.tap ≡ c.tap). let a = public.0 mine in omega (arith, a, cl.timeout, fits.take))
    (λ (other : r.tap ≡ c.tap → ⊥). ⊎_elim
    (λ (new : c.now ≤ r.begin + c.p.ttd). absurd (each_in (Old c.p.ttd c.now r.tap (suc c.now)) (Sent r) trace
    (none_new c trace waited q r.tap fits cl other (origins_of c.p c.now trace waited (Some r) trace all) (suc c.now)) ir refl init (omega (arith, h.0)) new))
    (λ (old : r.end + c.p.ttd ≤ q). omega (arith, cl.timeout)) (public.1 other))
    (cases_eq r.tap c.tap) in
    past_all c.p.ttd c.now c.tap trace r y others ir iy h.1 over ((each_in (HasRecord c.p c.now trace waited (Some r)) (Sent y) trace all iy).2 inity)

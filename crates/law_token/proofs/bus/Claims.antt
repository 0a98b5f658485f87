-- What the invariant says of one world: at most one tap may initiate, and the trace names it.
use Rattle.std.proofs.Common.{◌≡◌, ℕ, zero, suc, ◌+◌, ◌<◌, ◌≤◌, ⊎_elim, Bool, true, false, if◌then◌else◌, ◌==◌, ◌&&◌, List, [], ◌∷◌, map, refl, sym, ap, ◌∙◌, subst, arith, Option, Some, None}
use Rattle.std.specs.Prelude.{slice_get, IfSome}
use Rattle.std.specs.List.{list_any}
use Rattle.std.proofs.lemmas.Bool.{and_parts, eq-eqb, eqb-true, le-ltb, lt-ltb, cases_lt, or_parts}
use Rattle.std.proofs.lemmas.Option.{none-some, same_Some}
use Rattle.law_turn.specs.Phases.{may_initiate}
use Rattle.law_model.specs.Trace.{Heard, Record, Sent}
use Rattle.law_model.specs.Medium.{Tap}
use Rattle.law_model.specs.World.{World}
use Rattle.law_runs.specs.Activity.{is_silent}
use Rattle.law_runs.specs.Initiators.{offered_to}
use Rattle.law_runs.specs.Legality.{is_whole}
use Rattle.law_runs.specs.Naming.{first_that_heard, named_after_token, named_by_offer, named_by, named}
use Rattle.law_runs.specs.Premises.{Waited, runs_at, has_namesakes}
use Rattle.law_runs.specs.Headline.{MayInitiate, specs_of}
use Rattle.law_token.specs.Lists.{In}
use Rattle.law_token.specs.Places.{LeavesTime, Place}
use Rattle.law_token.specs.Views.{place}
use Rattle.law_token.specs.Entries.{EntryHolds}
use Rattle.law_token.specs.Invariant.{InvariantHolds}
use Rattle.law_token.proofs.bus.Lists.{each_in}
use Rattle.law_token.proofs.bus.Pairs.{Holding, Keeps, Has, held_held, held_offer}
use Rattle.law_token.proofs.bus.Live.{holding}

-- ---- two running taps of one address are one

none_at : (a : ℕ) (ts : List Tap) (j : ℕ) (u : Tap) → list_any (runs_at a) ts ≡ false → slice_get ts j ≡ Some u → u.running ≡ true → u.spec.address ≡ a → ⊥
none_at a [] j u n at run same = absurd (none-some u at)
none_at a (t ∷ ts) zero u n at run same =
    let e = same_Some t u at in
    let no_ : (u.running && u.spec.address == a) ≡ false = subst (λ z. (z.running && z.spec.address == a) ≡ false) e (or_parts (runs_at a t) (list_any (runs_at a) ts) n).0 in
    let yes_ : (u.running && u.spec.address == a) ≡ true = ap (λ b. b && u.spec.address == a) run ∙ eq-eqb u.spec.address a same in
    let w : true ≡ false = sym yes_ ∙ no_ in cc
none_at a (t ∷ ts) (suc j) u n at run same = none_at a ts j u (or_parts (runs_at a t) (list_any (runs_at a) ts) n).1 at run same

pub one_address : (ts : List Tap) (i j : ℕ) (t u : Tap) → has_namesakes ts ≡ false → slice_get ts i ≡ Some t → slice_get ts j ≡ Some u → t.running ≡ true → u.running ≡ true → t.spec.address ≡ u.spec.address → i ≡ j
one_address [] i j t u n a b r s same = absurd (none-some t a)
one_address (x ∷ xs) zero zero t u n a b r s same = refl
one_address (x ∷ xs) zero (suc j) t u n a b r s same =
    let e = same_Some x t a in
    let h : (t.running && list_any (runs_at t.spec.address) xs) ≡ false = subst (λ z. (z.running && list_any (runs_at z.spec.address) xs) ≡ false) e (or_parts (x.running && list_any (runs_at x.spec.address) xs) (has_namesakes xs) n).0 in
    absurd (none_at t.spec.address xs j u (sym (ap (λ b. b && list_any (runs_at t.spec.address) xs) r) ∙ h) b s (sym same))
one_address (x ∷ xs) (suc i) zero t u n a b r s same =
    let e = same_Some x u b in
    let h : (u.running && list_any (runs_at u.spec.address) xs) ≡ false = subst (λ z. (z.running && list_any (runs_at z.spec.address) xs) ≡ false) e (or_parts (x.running && list_any (runs_at x.spec.address) xs) (has_namesakes xs) n).0 in
    absurd (none_at u.spec.address xs i t (sym (ap (λ b. b && list_any (runs_at u.spec.address) xs) s) ∙ h) a r same)
one_address (x ∷ xs) (suc i) (suc j) t u n a b r s same = ap suc (one_address xs i j t u (or_parts (x.running && list_any (runs_at x.spec.address) xs) (has_namesakes xs) n).1 a b r s same)

-- ---- at most one

two_hold : (c d : Place) (last : Option Record) → (c.address ≡ d.address → c.tap ≡ d.tap) → c.p ≡ d.p → Holding c last → Holding d last → c.tap ≡ d.tap
two_hold c d last distinct same (Keeps own h) (Keeps own' g) = held_held last c.tap d.tap own own' h g
two_hold c d last distinct same (Keeps own h) (Has at g late) = absurd (held_offer last c.tap own g.r d.address h g.is g.offers)
two_hold c d last distinct same (Has at g late) (Keeps own h) = absurd (held_offer last d.tap own g.r c.address h g.is g.offers)
two_hold c d last distinct same (Has at g late) (Has at' h late') =
    distinct (let e = same_Some g.r h.r (sym g.is ∙ h.is) in same_Some c.address d.address (sym g.offers ∙ ap offered_to e ∙ h.offers))

-- a tap that may initiate
record Holder (w : World) (last : Option Record) (i : ℕ) : Type 0 where
  t : Tap
  here : slice_get w.taps i ≡ Some t
  running : t.running ≡ true
  holds : Holding (place w.params w.now i t) last

holder : (w : World) (waited : List Waited) (inv : InvariantHolds w waited) (i : ℕ) → MayInitiate w i → Holder w inv.last i
holder w waited inv i m =
    let b = and_parts m.0.running (may_initiate m.0.station.phase) m.2 in
    record { t = m.0; here = m.1; running = b.0; holds = holding w.params w.now w.trace inv.last i m.0 (inv.taps i m.0 m.1 b.0) b.1 }

pub at_most_one : (w : World) (waited : List Waited) → InvariantHolds w waited → (i j : ℕ) → MayInitiate w i → MayInitiate w j → i ≡ j
at_most_one w waited inv i j m n =
    let a = holder w waited inv i m in
    let b = holder w waited inv j n in
    two_hold (place w.params w.now i a.t) (place w.params w.now j b.t) inv.last (one_address w.taps i j a.t b.t inv.distinct a.here b.here a.running b.running) refl a.holds b.holds

-- ---- it is named

heard_first : (heard : List Heard) (to k i : ℕ) (ts : List Tap) (t : Tap) → slice_get ts i ≡ Some t → t.spec.address ≡ to → is_whole (slice_get heard (k + i)) ≡ true
    → ((j : ℕ) (u : Tap) → slice_get ts j ≡ Some u → is_whole (slice_get heard (k + j)) ≡ true → u.spec.address ≡ to → j ≡ i) → first_that_heard heard to k (map (λ z. z.spec) ts) ≡ Some (k + i)
heard_first heard to k i [] t at me whole only = absurd (none-some t at)
heard_first heard to k zero (x ∷ ts) t at me whole only =
    let e = same_Some x t at in
    let z : k ≡ k + 0 = omega arith in
    let h : (x.spec.address == to && is_whole (slice_get heard k)) ≡ true = ap (λ b. b && is_whole (slice_get heard k)) (eq-eqb x.spec.address to (ap (λ (y : Tap). y.spec.address) e ∙ me)) ∙ subst (λ n. is_whole (slice_get heard n) ≡ true) (sym z) whole in
    ap (λ b. if b then Some k else first_that_heard heard to (k + 1) (map (λ z. z.spec) ts)) h ∙ ap (λ n. Some n) z
heard_first heard to k (suc i) (x ∷ ts) t at me whole only =
    let rest = heard_first heard to (k + 1) i ts t at me (subst (λ n. is_whole (slice_get heard n) ≡ true) (let z : k + suc i ≡ (k + 1) + i = omega arith in z) whole)
    (λ j u h wh a. let s = only (suc j) u h (subst (λ n. is_whole (slice_get heard n) ≡ true) (let z : (k + 1) + j ≡ k + suc j = omega arith in z) wh) a in omega (arith, s)) in
    not_first (x.spec.address == to) (is_whole (slice_get heard k)) refl refl
    ∙ rest ∙ ap (λ n. Some n) (let z : (k + 1) + i ≡ k + suc i = omega arith in z)
  where
    not_first : (a b : Bool) → (x.spec.address == to) ≡ a → is_whole (slice_get heard k) ≡ b → (if a && b then Some k else first_that_heard heard to (k + 1) (map (λ z. z.spec) ts)) ≡ first_that_heard heard to (k + 1) (map (λ z. z.spec) ts)
    not_first true true e f = absurd (let s : zero ≡ suc i = only zero x refl (subst (λ n. is_whole (slice_get heard n) ≡ true) (let z : k ≡ k + 0 = omega arith in z) f) (eqb-true x.spec.address to e) in omega (arith, s))
    not_first true false e f = refl
    not_first false b e f = refl

heard_one : (heard : List Heard) (to i : ℕ) (ts : List Tap) (t : Tap) → slice_get ts i ≡ Some t → t.spec.address ≡ to → is_whole (slice_get heard i) ≡ true
    → ((j : ℕ) (u : Tap) → slice_get ts j ≡ Some u → is_whole (slice_get heard j) ≡ true → u.spec.address ≡ to → j ≡ i) → first_that_heard heard to 0 (map (λ z. z.spec) ts) ≡ Some i
heard_one heard to i ts t at me whole only =
    heard_first heard to 0 i ts t at me (subst (λ n. is_whole (slice_get heard n) ≡ true) (let z : i ≡ 0 + i = omega arith in z) whole)
    (λ j u h wh. only j u h (subst (λ n. is_whole (slice_get heard n) ≡ true) (let z : 0 + j ≡ j = omega arith in z) wh)) ∙ ap (λ n. Some n) (let z : 0 + i ≡ i = omega arith in z)

pub is_named : (w : World) (waited : List Waited) → LeavesTime w.params → InvariantHolds w waited → (i : ℕ) → MayInitiate w i → named w.params (specs_of w) w.trace w.now ≡ Some i
is_named w waited fits inv i m =
    ap (λ l. named_by w.params (specs_of w) w.trace l w.now) inv.is_last ∙ by (holder w waited inv i m).holds
  where
    t : Tap
    t = (holder w waited inv i m).t

    by : Holding (place w.params w.now i t) inv.last → named_by w.params (specs_of w) w.trace inv.last w.now ≡ Some i
    by (Keeps own h) =
        ap (λ l. named_by w.params (specs_of w) w.trace l w.now) h.is ∙ ap (λ o. named_by_offer w.params (specs_of w) w.trace h.r o w.now) h.no_offer ∙ ap (λ n. Some n) h.by
    by (Has at g late) =
        let ok = each_in (EntryHolds w.params w.now w.taps w.trace waited inv.last) (Sent g.r) w.trace inv.entries (subst (λ o. IfSome o (λ r. In (Sent r) w.trace)) g.is inv.last_in) in
        let here = (holder w waited inv i m).here in
        let reached : g.r.end + w.params.ttd ≤ w.now =
        ⊎_elim (λ (x : w.now < g.r.end + w.params.ttd). absurd (let wrong : false ≡ true = sym (ap is_whole (ok.pending i t here g.another x)) ∙ g.whole in cc)) (λ (x : g.r.end + w.params.ttd ≤ w.now). x) (cases_lt w.now (g.r.end + w.params.ttd)) in
        ap (λ l. named_by w.params (specs_of w) w.trace l w.now) g.is ∙ ap (λ o. named_by_offer w.params (specs_of w) w.trace g.r o w.now) g.offers
        ∙ ap (λ b. if b then Some g.r.tap else named_after_token w.params (specs_of w) w.trace g.r t.spec.address w.now) (le-ltb w.now g.r.end (omega (arith, reached)))
        ∙ ap (λ b. if b then first_that_heard g.r.heard t.spec.address 0 (specs_of w) else if is_silent w.params.ttd g.r.tap w.trace g.r.end (g.r.end + w.params.tsl) then Some g.r.tap else None)
        (lt-ltb w.now (g.r.end + w.params.tsl) (omega (arith, late, g.heard_at, fits.take, fits.idle_order)))
        ∙ heard_one g.r.heard t.spec.address i w.taps t here refl g.whole (λ j u at' wh me. sym (ok.one_whole i j t u here at' g.whole wh (sym me)))

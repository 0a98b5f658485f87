-- A settled ring is undisturbed, and its receipts are in order.
use Rattle.std.proofs.Common.{◌≡◌, ℕ, zero, suc, ◌+◌, ◌-◌, ◌≤◌, Bool, true, false, if◌then◌else◌, not, ◌==◌, ◌&&◌, ◌||◌, List, [], ◌∷◌, refl, sym, ap, ◌∙◌, subst, arith, Some}
use Rattle.std.specs.Prelude.{slice_get, nat_lt, is_some}
use Rattle.std.specs.List.{list_any, list_all}
use Rattle.std.proofs.lemmas.Bool.{and_parts, ltb-true, ltb-false, leb-true, eqb-true, eqb-false, eq-eqb}
use Rattle.std.proofs.lemmas.Option.{none-some, same_Some}
use Rattle.pb_timers.specs.Timers.{Params}
use Rattle.pb_ring.specs.AddressSets.{AscendsFrom, IsAscending, is_member, with_address}
use Rattle.law_turn.specs.Phases.{Phase, Offline, PassiveIdle, Listening, Idle, Claim, Use, AwaitData, AwaitStatus, Pass, Checking}
use Rattle.law_turn.specs.Stations.{Station}
use Rattle.law_model.specs.Trace.{Entry, Sent, Noise}
use Rattle.law_model.specs.Medium.{Tap, reaches_taps}
use Rattle.law_model.proofs.Cases.{by_test}
use Rattle.law_token.specs.Lists.{Each}
use Rattle.law_live.specs.Flow.{IsCalmBy}
use Rattle.law_rings.specs.Ring.{IsUndisturbed, TakesPart}
use Rattle.law_rings.specs.Settled.{is_active, ring_of, lists, is_in_place, is_over}
use Rattle.law_rings.proofs.NoTest.{no_}

-- ---- the members

-- a set with an address ascends
ascends_with : (low a : ℕ) (xs : List ℕ) → low ≤ a → AscendsFrom low xs → AscendsFrom low (with_address a xs)
ascends_with low a [] le up = (le, tt)
ascends_with low a (x ∷ xs) le up =
    by_test (AscendsFrom low) (nat_lt a x) (a ∷ x ∷ xs) (if a == x then x ∷ xs else x ∷ with_address a xs) (λ e. (le, ((let h = ltb-true a x e in omega (arith, h)), up.1)))
    (λ e. by_test (AscendsFrom low) (a == x) (x ∷ xs) (x ∷ with_address a xs) (λ _. up) (λ ne. (up.0, ascends_with (x + 1) a xs (let h = ltb-false a x e in let n = eqb-false a x ne in omega (arith, h, n)) up.1)))

-- and has that address, and those it had
in_with : (a m : ℕ) (xs : List ℕ) → is_member (with_address a xs) m ≡ (a == m || is_member xs m)
in_with a m [] = refl
in_with a m (x ∷ xs) =
    by_test (λ ys. is_member ys m ≡ (a == m || is_member (x ∷ xs) m)) (nat_lt a x) (a ∷ x ∷ xs) (if a == x then x ∷ xs else x ∷ with_address a xs) (λ _. refl)
    (λ _. by_test (λ ys. is_member ys m ≡ (a == m || is_member (x ∷ xs) m)) (a == x) (x ∷ xs) (x ∷ with_address a xs) (λ e. let same = eqb-true a x e in twice (x == m) (is_member xs m) (a == m) (ap (λ z. z == m) same))
    (λ _. ap (λ b. x == m || b) (in_with a m xs) ∙ swap (x == m) (a == m) (is_member xs m)))
  where
    twice : (b c d : Bool) → d ≡ b → (b || c) ≡ (d || (b || c))
    twice true c d e = ap (λ z. z || true) (sym e)
    twice false c d e = ap (λ z. z || (false || c)) (sym e)

    swap : (b c d : Bool) → (b || (c || d)) ≡ (c || (b || d))
    swap true true d = refl
    swap true false d = refl
    swap false c d = refl

-- the members ascend
pub ring_ascends : (p : Params) (ts : List Tap) → IsAscending (ring_of p ts)
ring_ascends p [] = tt
ring_ascends p (t ∷ ts) = by_test IsAscending (is_active p t) (with_address t.spec.address (ring_of p ts)) (ring_of p ts) (λ _. ascends_with 0 t.spec.address (ring_of p ts) (omega arith) (ring_ascends p ts)) (λ _. ring_ascends p ts)

-- each active tap's address is a member
pub active_member : (p : Params) (ts : List Tap) (k : ℕ) (t : Tap) → slice_get ts k ≡ Some t → is_active p t ≡ true → is_member (ring_of p ts) t.spec.address ≡ true
active_member p [] k t at a = absurd (none-some t at)
active_member p (x ∷ xs) zero t at a =
    let same = same_Some x t at in
    subst (λ (z : Tap). is_member (if is_active p z then with_address z.spec.address (ring_of p xs) else ring_of p xs) t.spec.address ≡ true) (sym same)
    (ap (λ b. is_member (if b then with_address t.spec.address (ring_of p xs) else ring_of p xs) t.spec.address) a
    ∙ in_with t.spec.address t.spec.address (ring_of p xs) ∙ ap (λ b. b || is_member (ring_of p xs) t.spec.address) (eq-eqb t.spec.address t.spec.address refl))
active_member p (x ∷ xs) (suc k) t at a =
    by_test (λ ys. is_member ys t.spec.address ≡ true) (is_active p x) (with_address x.spec.address (ring_of p xs)) (ring_of p xs)
    (λ _. in_with x.spec.address t.spec.address (ring_of p xs) ∙ later (x.spec.address == t.spec.address) (active_member p xs k t at a)) (λ _. active_member p xs k t at a)
  where
    later : (b : Bool) {c : Bool} → c ≡ true → (b || c) ≡ true
    later true e = refl
    later false e = e

-- and each member has an active tap
pub record ActiveAt (p : Params) (ts : List Tap) (a : ℕ) : Type 0 where
  pub tap : ℕ
  pub t : Tap
  pub here : slice_get ts tap ≡ Some t
  pub active : is_active p t ≡ true
  pub address : t.spec.address ≡ a

-- by the tap whose address it is
pub member_active : (p : Params) (ts : List Tap) (a : ℕ) → is_member (ring_of p ts) a ≡ true → ActiveAt p ts a
member_active p [] a m = no_ m
member_active p (x ∷ xs) a m = by (is_active p x) refl (λ i. later (member_active p xs a i))
  where
    later : ActiveAt p xs a → ActiveAt p (x ∷ xs) a
    later r = record { tap = suc r.tap; t = r.t; here = r.here; active = r.active; address = r.address }

    by : (b : Bool) → is_active p x ≡ b → (is_member (ring_of p xs) a ≡ true → ActiveAt p (x ∷ xs) a) → ActiveAt p (x ∷ xs) a
    by false e rest = rest (subst (λ b. is_member (if b then with_address x.spec.address (ring_of p xs) else ring_of p xs) a ≡ true) e m)
    by true e rest = here (x.spec.address == a) refl (sym (in_with x.spec.address a (ring_of p xs)) ∙ subst (λ b. is_member (if b then with_address x.spec.address (ring_of p xs) else ring_of p xs) a ≡ true) e m)
      where
        here : (b : Bool) → (x.spec.address == a) ≡ b → (x.spec.address == a || is_member (ring_of p xs) a) ≡ true → ActiveAt p (x ∷ xs) a
        here true q i = record { tap = 0; t = x; here = refl; active = e; address = eqb-true x.spec.address a q }
        here false q i = rest (subst (λ b. (b || is_member (ring_of p xs) a) ≡ true) q i)

-- ---- what the tests say

-- a test of all holds of each
pub all_at : {X : Type 0} (test : X → Bool) (xs : List X) (k : ℕ) (x : X) → list_all test xs ≡ true → slice_get xs k ≡ Some x → test x ≡ true
all_at {X} test [] k x e at = absurd (none-some x at)
all_at {X} test (y ∷ ys) zero x e at = subst (λ z. test z ≡ true) (same_Some y x at) (and_parts (test y) (list_all test ys) e).0
all_at {X} test (y ∷ ys) (suc k) x e at = all_at test ys k x (and_parts (test y) (list_all test ys) e).1 at

-- and one of some of one
pub record Found {X : Type 0} (test : X → Bool) (xs : List X) : Type 0 where
  pub k : ℕ
  pub x : X
  pub here : slice_get xs k ≡ Some x
  pub passes : test x ≡ true

-- the first one
pub any_found : {X : Type 0} (test : X → Bool) (xs : List X) → list_any test xs ≡ true → Found test xs
any_found {X} test [] e = no_ e
any_found {X} test (y ∷ ys) e = by (test y) refl (λ i. let r = any_found test ys i in record { k = suc r.k; x = r.x; here = r.here; passes = r.passes })
  where
    by : (b : Bool) → test y ≡ b → (list_any test ys ≡ true → Found test (y ∷ ys)) → Found test (y ∷ ys)
    by true q rest = record { k = 0; x = y; here = refl; passes = q }
    by false q rest = rest (subst (λ b. (b || list_any test ys) ≡ true) q e)

-- an entry that is over is at no tap any more
pub each_over : (delay now : ℕ) (es : List Entry) → list_all (is_over delay now) es ≡ true → Each (λ e. (reaches_taps delay e).end ≤ now) es
each_over delay now [] e = tt
each_over delay now (x ∷ xs) e = let b = and_parts (is_over delay now x) (list_all (is_over delay now) xs) e in (by x b.0, each_over delay now xs b.1)
  where
    by : (x : Entry) → is_over delay now x ≡ true → (reaches_taps delay x).end ≤ now
    by (Noise span) o = let h = leb-true (span.end + delay) now o in omega (arith, h)
    by (Sent r) o = leb-true (r.end + delay) now o

-- and keeps no station waiting
pub each_calm : (delay now : ℕ) (es : List Entry) → list_all (is_over delay now) es ≡ true → Each (IsCalmBy (now - delay)) es
each_calm delay now [] e = tt
each_calm delay now (x ∷ xs) e = let b = and_parts (is_over delay now x) (list_all (is_over delay now) xs) e in (by x b.0, each_calm delay now xs b.1)
  where
    by : (x : Entry) → is_over delay now x ≡ true → IsCalmBy (now - delay) x
    by (Noise span) o = let h = leb-true (span.end + delay) now o in omega (arith, h)
    by (Sent r) o = λ _. let h = leb-true (r.end + delay) now o in omega (arith, h)

-- what a station in its place is
pub record InPlace (members : List ℕ) (address : ℕ) (master : Bool) (s : Station) : Type 0 where
  pub undisturbed : IsUndisturbed s.phase
  pub passive : master ≡ true → s.phase ≡ PassiveIdle → ⊥
  pub member : TakesPart s.phase → (lists members address s.las.stage ≡ true) × (is_some s.rotation.last ≡ true)
  pub master_is : TakesPart s.phase → master ≡ true

-- by its phase
pub in_place : (members : List ℕ) (address : ℕ) (master : Bool) (s : Station) → is_in_place s.phase master (lists members address s.las.stage && is_some s.rotation.last) ≡ true → InPlace members address master s
in_place members address master s e = by s.phase refl e
  where
    in_ring : Bool
    in_ring = lists members address s.las.stage && is_some s.rotation.last

    made : (ph : Phase) → s.phase ≡ ph → IsUndisturbed ph → (ph ≡ PassiveIdle → ⊥) → (master && in_ring) ≡ true → InPlace members address master s
    made ph q u ne h =
        let b = and_parts master in_ring h in
        record {
          undisturbed = subst IsUndisturbed (sym q) u;
          passive = λ _ f. ne (sym q ∙ f);
          member = λ _. and_parts (lists members address s.las.stage) (is_some s.rotation.last) b.1;
          master_is = λ _. b.0;
        }

    by : (ph : Phase) → s.phase ≡ ph → is_in_place ph master in_ring ≡ true → InPlace members address master s
    by Offline q h = record { undisturbed = subst IsUndisturbed (sym q) tt; passive = λ _ f. let wrong : Offline ≡ PassiveIdle = sym q ∙ f in cc; member = λ x. absurd (subst TakesPart q x); master_is = λ x. absurd (subst TakesPart q x) }
    by PassiveIdle q h = record { undisturbed = subst IsUndisturbed (sym q) tt; passive = λ m _. let wrong : false ≡ true = ap not (sym m) ∙ h in cc; member = λ x. absurd (subst TakesPart q x); master_is = λ x. absurd (subst TakesPart q x) }
    by (Listening doubled) q h = no_ h
    by (Idle refused) q h = made (Idle refused) q tt (λ f. absurd cc) h
    by (Claim sent ready) q h = no_ h
    by (Use asked ready) q h = made (Use asked ready) q tt (λ f. absurd cc) h
    by (AwaitData asked retry slot) q h = made (AwaitData asked retry slot) q tt (λ f. absurd cc) h
    by (AwaitStatus of slot) q h = made (AwaitStatus of slot) q tt (λ f. absurd cc) h
    by (Pass tries ready) q h = no_ h
    by (Checking tries) q h = made (Checking tries) q tt (λ f. absurd cc) h

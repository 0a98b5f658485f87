-- The premise on time-outs: who waits out now is alone with that, for a cable delay.
use Rattle.std.proofs.Common.{◌≡◌, ℕ, zero, suc, ◌+◌, ◌-◌, ◌≤◌, Bool, true, false, if◌then◌else◌, not, ◌&&◌, ◌||◌, ◌==◌, List, [], ◌∷◌, ◌++◌, refl, sym, ap, ◌∙◌, subst, arith, Some}
use Rattle.std.specs.Prelude.{slice_get, nat_le}
use Rattle.std.specs.List.{list_any}
use Rattle.std.proofs.lemmas.Bool.{and_parts, eqb-true, leb-true, le-leb}
use Rattle.std.proofs.lemmas.Option.{none-some, same_Some}
use Rattle.law_model.specs.Medium.{Tap}
use Rattle.law_model.specs.World.{World}
use Rattle.law_model.proofs.Cases.{by_test}
use Rattle.law_runs.specs.Premises.{Waited, has_waited, waited_by, meets, two_have_waited}
use Rattle.law_token.proofs.air.NewNoise.{any_more}

implied : (f g : Waited → Bool) (xs : List Waited) → ((w : Waited) → f w ≡ true → g w ≡ true) → list_any f xs ≡ true → list_any g xs ≡ true
implied f g [] h e = e
implied f g (x ∷ xs) h e = go (f x) (g x) (list_any f xs) (list_any g xs) (h x) (λ k. implied f g xs h k) e
  where
    go : (a b c d : Bool) → (a ≡ true → b ≡ true) → (c ≡ true → d ≡ true) → (a || c) ≡ true → (b || d) ≡ true
    go a true c d i j e = refl
    go true false c d i j e = absurd (let w : false ≡ true = i refl in cc)
    go false false c d i j e = j e

-- one that has waited stands in the list
pub waits_in : (w : World) (test : Waited → Bool) (n i m : ℕ) (ts : List Tap) (t : Tap) → m ≡ n + i → slice_get ts i ≡ Some t → has_waited w m t ≡ true → test (record { tap = m; moment = w.now }) ≡ true → list_any test (waited_by w n ts) ≡ true
waits_in w test n i m [] t e at h yes_ = absurd (none-some t at)
waits_in w test n zero m (x ∷ ts) t e at h yes_ =
    let same = same_Some x t at in let place : m ≡ n = omega (arith, e) in
    let here : has_waited w n x ≡ true = subst (λ k. has_waited w k x ≡ true) place (subst (λ z. has_waited w m z ≡ true) (sym same) h) in
    subst (λ b. list_any test (if b then record { tap = n; moment = w.now } ∷ waited_by w (n + 1) ts else waited_by w (n + 1) ts) ≡ true) (sym here)
    (ap (λ b. b || list_any test (waited_by w (n + 1) ts)) (subst (λ k. test (record { tap = k; moment = w.now }) ≡ true) place yes_))
waits_in w test n (suc i) m (x ∷ ts) t e at h yes_ =
    let rest = waits_in w test (n + 1) i m ts t (omega (arith, e)) at h yes_ in
    by_test (λ ys. list_any test ys ≡ true) (has_waited w n x) (record { tap = n; moment = w.now } ∷ waited_by w (n + 1) ts) (waited_by w (n + 1) ts)
    (λ _. right (test (record { tap = n; moment = w.now })) (list_any test (waited_by w (n + 1) ts)) rest) (λ _. rest)
  where
    right : (a b : Bool) → b ≡ true → (a || b) ≡ true
    right true b h = refl
    right false b h = h

pub alone : (w : World) (waited : List Waited) (k : ℕ) (t : Tap) (delay : ℕ) → slice_get w.taps k ≡ Some t → has_waited w k t ≡ true → two_have_waited delay (waited_by w 0 w.taps) (waited_by w 0 w.taps ++ waited) ≡ false
    → (m b : ℕ) → (m ≡ k → ⊥) → w.now ≤ b + delay → list_any (λ x. (x.tap == m) && nat_le b x.moment) waited ≡ true → ⊥
alone w waited k t delay at waits kept m b ne late other =
    let new = waited_by w 0 w.taps in
    let meet : list_any (meets delay (record { tap = k; moment = w.now })) (new ++ waited) ≡ true =
    any_more (meets delay (record { tap = k; moment = w.now })) new waited (implied (λ x. (x.tap == m) && nat_le b x.moment) (meets delay (record { tap = k; moment = w.now })) waited met other) in
    let both : two_have_waited delay new (new ++ waited) ≡ true = waits_in w (λ one. list_any (meets delay one) (new ++ waited)) 0 k k w.taps t (omega arith) at waits meet in
    let wrong : true ≡ false = sym both ∙ kept in cc
  where
    met : (x : Waited) → ((x.tap == m) && nat_le b x.moment) ≡ true → meets delay (record { tap = k; moment = w.now }) x ≡ true
    met x h =
        let parts = and_parts (x.tap == m) (nat_le b x.moment) h in
        let tap = eqb-true x.tap m parts.0 in
        let moment = leb-true b x.moment parts.1 in
        apart (k == x.tap) refl (le-leb (w.now - x.moment) delay (omega (arith, moment, late)))
      where
        apart : (c : Bool) → (k == x.tap) ≡ c → nat_le (w.now - x.moment) delay ≡ true → (not (k == x.tap) && nat_le (w.now - x.moment) delay) ≡ true
        apart true e f = absurd (ne (sym (eqb-true x.tap m (and_parts (x.tap == m) (nat_le b x.moment) h).0) ∙ sym (eqb-true k x.tap e)))
        apart false e f = ap (λ z. not z && nat_le (w.now - x.moment) delay) e ∙ f

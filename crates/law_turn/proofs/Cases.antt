-- Tests, choices by them, and the earlier of two moments.
use Rattle.std.proofs.Common.{◌≡◌, ℕ, ◌<◌, ◌&&◌, ◌||◌, Bool, true, false, cond, refl, arith, Option, Some, None}
use Rattle.std.specs.Prelude.{IfSome}
use Rattle.law_turn.specs.Stations.{earlier}

-- a property of a choice, by its test
pub by_test : {A : Type 0} (P : A → Type 0) (b : Bool) (x y : A) → (b ≡ true → P x) → (b ≡ false → P y) → P (cond b x y)
by_test {A} P true x y f g = f refl
by_test {A} P false x y f g = g refl

pub and-false : (a b : Bool) → b ≡ false → (a && b) ≡ false
and-false true b e = e
and-false false b e = refl

pub or-true : (a b : Bool) → b ≡ true → (a || b) ≡ true
or-true true b e = refl
or-true false b e = e

-- where each of two moments is later than the clock, so is the earlier
pub earlier-later : (now : ℕ) (a b : Option ℕ) → IfSome a (λ t. now < t) → IfSome b (λ t. now < t) → IfSome (earlier a b) (λ t. now < t)
earlier-later now None b f g = g
earlier-later now (Some a) None f g = f
earlier-later now (Some a) (Some b) f g = omega arith

-- both are later than the clock where the earlier is
pub later-earlier : (now : ℕ) (a b : Option ℕ) → IfSome (earlier a b) (λ t. now < t) → IfSome a (λ t. now < t) × IfSome b (λ t. now < t)
later-earlier now None None f = (tt, tt)
later-earlier now None (Some b) f = (tt, f)
later-earlier now (Some a) None f = (f, tt)
later-earlier now (Some a) (Some b) f = (omega arith, omega arith)

-- a property of two choices by one test
pub by_one_test : {A B : Type 0} (P : A → B → Type 0) (b : Bool) (x y : A) (u v : B) → (b ≡ true → P x u) → (b ≡ false → P y v) → P (cond b x y) (cond b u v)
by_one_test {A} {B} P true x y u v f g = f refl
by_one_test {A} {B} P false x y u v f g = g refl

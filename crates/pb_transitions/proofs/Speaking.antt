-- A station speaks where its moment has come.
use Rattle.std.proofs.Common.{◌≡◌, ◌∙◌, ◌<◌, ◌≤◌, ap, sym, ℕ, Bool, if◌then◌else◌, Option, Some, None, List}
use Rattle.std.specs.Prelude.{nat_le}
use Rattle.std.proofs.lemmas.Bool.{le-leb, lt-leb}
use Rattle.pb_timers.specs.Timers.{Params}
use Rattle.law_turn.specs.Stations.{Station}
use Rattle.law_turn.specs.Turns.{phase_says, speech}

pub speaks : (p : Params) (s : Station) (o m : Option ℕ) (moment now : ℕ) (spoken : Station × Option (List ℕ)) → spoken ≡ phase_says p s s.phase now
    → o ≡ Some moment → o ≡ m → moment ≤ now → spoken ≡ speech p s m now
speaks p s o m moment now spoken says is same come =
    says ∙ sym (ap (λ (b : Bool). if b then phase_says p s s.phase now else (s, None)) (le-leb moment now come)) ∙ ap (λ (n : Option ℕ). speech p s n now) (sym is ∙ same)

pub waits : (p : Params) (s : Station) (o m : Option ℕ) (moment now : ℕ) → o ≡ Some moment → o ≡ m → now < moment → (s, None) ≡ speech p s m now
waits p s o m moment now is same early =
    sym (ap (λ (b : Bool). if b then phase_says p s s.phase now else (s, None)) (lt-leb moment now early)) ∙ ap (λ (n : Option ℕ). speech p s n now) (sym is ∙ same)

pub has_none : (p : Params) (s : Station) (o m : Option ℕ) (now : ℕ) → o ≡ None → o ≡ m → (s, None) ≡ speech p s m now
has_none p s o m now is same = ap (λ (n : Option ℕ). speech p s n now) (sym is ∙ same)

-- The keys of a table of the code, and of what it stands for.
use Rattle.std.proofs.Common.{◌≡◌, ◌∙◌, Bool, true, false, not, cond, nat_lt, ◌+◌, ◌||◌, List, [], ◌∷◌, map, length, ℕ, Some, None, option_map, String, Global, string_bytes, refl, ap}
use Rattle.std.specs.Prelude.{find, position, bytes_eq, if◌then◌else◌}
use Rattle.std.specs.List.{list_any, position_or_len}
use Rattle.std.proofs.lemmas.List.{length-map}
use Rattle.std.specs.Map.{keys_of}
use Rattle.toml.specs.View.{members_view}
use Rattle.toml.specs.declared.value.Value.{Value}
use Rattle.pb_scenario.specs.declared.keys.Key.{Key}
use Rattle.pb_scenario.specs.Keys.{is_named}
use Rattle.pb_scenario.specs.Scenarios.{names_of}
use Rattle.pb_scenario.specs.Fields.{first_other}

pub first-other : (keys : List Key) (es : List (String Global × Value)) → first_other keys (members_view es) ≡ option_map string_bytes (find (λ k. not (is_named keys (string_bytes k))) (keys_of es))
first-other keys [] = refl
first-other keys (e ∷ es) = by (is_named keys (string_bytes e.0)) (first-other keys es)
  where
    by : (b : Bool) → first_other keys (members_view es) ≡ option_map string_bytes (find (λ k. not (is_named keys (string_bytes k))) (keys_of es))
        → (if b then first_other keys (members_view es) else Some (string_bytes e.0))
        ≡ option_map string_bytes (if not b then Some e.0 else find (λ k. not (is_named keys (string_bytes k))) (keys_of es))
    by true more = more
    by false more = refl

place-names : {X : Type 0} (test : List ℕ → Bool) (f : X → List ℕ) (xs : List X) → position_or_len test (map f xs) ≡ position_or_len (λ x. test (f x)) xs
place-names test f [] = refl
place-names test f (x ∷ xs) = ap (λ n. cond (not (test (f x))) (1 + n) 0) (place-names test f xs)

-- where a name stands among names
pub position-names : {Z : Type 0} (name : List ℕ) (names : List (String Z)) → position (bytes_eq name) (names_of names) ≡ position (λ k. bytes_eq name (string_bytes k)) names
position-names name names =
    ap (λ n. cond (nat_lt n (length (map string_bytes names))) (Some n) None) (place-names (bytes_eq name) string_bytes names)
    ∙ ap (λ n. cond (nat_lt (position_or_len (λ k. bytes_eq name (string_bytes k)) names) n) (Some (position_or_len (λ k. bytes_eq name (string_bytes k)) names)) None) (length-map names string_bytes)

-- whether a name is among names
pub any-names : {Z : Type 0} (name : List ℕ) (names : List (String Z)) → list_any (bytes_eq name) (names_of names) ≡ list_any (λ k. bytes_eq name (string_bytes k)) names
any-names name [] = refl
any-names name (n ∷ ns) = ap (λ b. bytes_eq name (string_bytes n) || b) (any-names name ns)

-- What a station keeps stands for all that it did with the token.
use Rattle.std.proofs.Common.{◌≡◌, refl, ap, sym, ◌∙◌, ℕ, Bool, true, false, List, [], ◌∷◌, ◌++◌, reverse, is_none, Option, Some, None, IfSome, ◌||◌}
use Rattle.std.specs.Option.{option_map}
use Rattle.std.proofs.lemmas.List.{reverse-append}
use Rattle.std.proofs.lemmas.Option.{none-some}
use Rattle.pb_rotation.specs.Receipts.{Happening, Received, StartedHigh, receipts, has_started_high, newest, previous}
use Rattle.pb_rotation.specs.Rotation.{Rotation, Receipt, received, started_high, used, before, StandsFor}

receipts-received : (happenings : List Happening) (at : ℕ) → receipts (happenings ++ Received at ∷ []) ≡ receipts happenings ++ at ∷ []
receipts-received [] at = refl
receipts-received (Received a ∷ happenings) at = ap (λ xs. a ∷ xs) (receipts-received happenings at)
receipts-received (StartedHigh ∷ happenings) at = receipts-received happenings at

receipts-started : (happenings : List Happening) → receipts (happenings ++ StartedHigh ∷ []) ≡ receipts happenings
receipts-started [] = refl
receipts-started (Received a ∷ happenings) = ap (λ xs. a ∷ xs) (receipts-started happenings)
receipts-started (StartedHigh ∷ happenings) = receipts-started happenings

newest-behind : (xs : List ℕ) (x : ℕ) → is_none (newest (xs ++ x ∷ [])) ≡ false
newest-behind [] x = refl
newest-behind (y ∷ xs) x = refl

started-received : (happenings : List Happening) (at : ℕ) → has_started_high (happenings ++ Received at ∷ []) ≡ false
started-received [] at = refl
started-received (Received a ∷ happenings) at = started-received happenings at
started-received (StartedHigh ∷ happenings) at =
    ap (λ xs. is_none (newest xs) || has_started_high (happenings ++ Received at ∷ [])) (receipts-received happenings at)
    ∙ ap (λ b. b || has_started_high (happenings ++ Received at ∷ [])) (newest-behind (receipts happenings) at)
    ∙ started-received happenings at

or-true : (b c : Bool) → c ≡ true → b || c ≡ true
or-true true c is = refl
or-true false c is = is

started-started : (happenings : List Happening) → has_started_high (happenings ++ StartedHigh ∷ []) ≡ true
started-started [] = refl
started-started (Received a ∷ happenings) = started-started happenings
started-started (StartedHigh ∷ happenings) = or-true (is_none (newest (receipts (happenings ++ StartedHigh ∷ [])))) _ (started-started happenings)

-- receipts from the newest on, after one more
reverse-received : (happenings : List Happening) (at : ℕ) → reverse (receipts (happenings ++ Received at ∷ [])) ≡ at ∷ reverse (receipts happenings)
reverse-received happenings at = ap reverse (receipts-received happenings at) ∙ reverse-append (receipts happenings) (at ∷ [])

previous-before : (last : Option Receipt) (older : List ℕ) (at : ℕ) → option_map (λ r. r.at) last ≡ newest older → Some (before last at) ≡ previous (at ∷ older)
previous-before None [] at same = refl
previous-before None (x ∷ older) at same = absurd (none-some _ same)
previous-before (Some last) [] at same = absurd (none-some _ (sym same))
previous-before (Some last) (x ∷ older) at same = same

pub stands-received : (ttr : ℕ) (r : Rotation) (happenings : List Happening) (at : ℕ) → StandsFor ttr r happenings → StandsFor ttr (received r at) (happenings ++ Received at ∷ [])
stands-received ttr r happenings at stands = record {
  target = stands.target;
  measured = previous-before r.last (reverse (receipts happenings)) at stands.last ∙ ap previous (sym (reverse-received happenings at));
  last = ap newest (sym (reverse-received happenings at));
  high = sym (started-received happenings at);
}

previous-used : (last : Option Receipt) → option_map (λ r. r.previous) (option_map used last) ≡ option_map (λ r. r.previous) last
previous-used None = refl
previous-used (Some last) = refl

at-used : (last : Option Receipt) → option_map (λ r. r.at) (option_map used last) ≡ option_map (λ r. r.at) last
at-used None = refl
at-used (Some last) = refl

high-used : (last : Option Receipt) (happenings : List Happening) → IfSome (option_map used last) (λ r. r.high ≡ has_started_high (happenings ++ StartedHigh ∷ []))
high-used None happenings = tt
high-used (Some last) happenings = sym (started-started happenings)

pub stands-started_high : (ttr : ℕ) (r : Rotation) (happenings : List Happening) → StandsFor ttr r happenings → StandsFor ttr (started_high r) (happenings ++ StartedHigh ∷ [])
stands-started_high ttr r happenings stands = record {
  target = stands.target;
  measured = previous-used r.last ∙ stands.measured ∙ ap (λ xs. previous (reverse xs)) (sym (receipts-started happenings));
  last = at-used r.last ∙ stands.last ∙ ap (λ xs. newest (reverse xs)) (sym (receipts-started happenings));
  high = high-used r.last happenings;
}

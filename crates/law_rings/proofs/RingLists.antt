-- A token that goes round a ring leaves the list of each station as it is, and comes from the station that is previous by that list.
use Rattle.std.proofs.Common.{◌≡◌, ℕ, ◌+◌, Bool, true, false, not, if◌then◌else◌, ◌==◌, ◌&&◌, ◌||◌, List, [], ◌∷◌, filter, refl, sym, ap, ◌∙◌, subst, arith, Option}
use Rattle.std.proofs.lemmas.Bool.{eqb-true, eq-eqb, ne_eqb, le-ltb}
use Rattle.pb_ring.specs.AddressSets.{AscendsFrom, IsAscending, is_member, with_address, is_between, is_own, removes, next_address}
use Rattle.pb_ring.specs.Las.{corrected}
use Rattle.pb_ring.proofs.NeighbourLemmas.{member-from, next-is}

-- a member that enters a set is there already
with-member : (low a : ℕ) (xs : List ℕ) → AscendsFrom low xs → is_member xs a ≡ true → with_address a xs ≡ xs
with-member low a [] up m = absurd (let w : false ≡ true = m in cc)
with-member low a (x ∷ xs) up m = by (x == a) refl (λ i. with-member (x + 1) a xs up.1 i)
  where
    by : (b : Bool) → (x == a) ≡ b → (is_member xs a ≡ true → with_address a xs ≡ xs) → with_address a (x ∷ xs) ≡ x ∷ xs
    by true e rest =
        let same = eqb-true x a e in
        ap (λ b. if b then a ∷ x ∷ xs else if a == x then x ∷ xs else x ∷ with_address a xs) (le-ltb a x (omega (arith, same))) ∙ ap (λ b. if b then x ∷ xs else x ∷ with_address a xs) (eq-eqb a x (sym same))
    by false e rest =
        let inside : is_member xs a ≡ true = subst (λ b. (b || is_member xs a) ≡ true) e m in
        let above = member-from (x + 1) a xs up.1 inside in
        ap (λ b. if b then a ∷ x ∷ xs else if a == x then x ∷ xs else x ∷ with_address a xs) (le-ltb a x (omega (arith, above)))
        ∙ ap (λ b. if b then x ∷ xs else x ∷ with_address a xs) (ne_eqb a x (λ s. omega (arith, s, above)))
        ∙ ap (λ ys. x ∷ ys) (rest inside)

-- where no member goes, all stay
all-stay : (f : ℕ → Bool) (xs : List ℕ) → ((a : ℕ) → is_member xs a ≡ true → f a ≡ true) → filter f xs ≡ xs
all-stay f [] h = refl
all-stay f (x ∷ xs) h =
    ap (λ b. if b then x ∷ filter f xs else filter f xs) (h x (ap (λ b. b || is_member xs x) (eq-eqb x x refl)))
    ∙ ap (λ ys. x ∷ ys) (all-stay f xs (λ a m. h a (later (x == a) m)))
  where
    later : (b : Bool) {c : Bool} → c ≡ true → (b || c) ≡ true
    later true e = refl
    later false e = e

-- a token from a member to the next one leaves the members as they are
pub ring-stays : (members : List ℕ) (own : Option ℕ) (sa : ℕ) → IsAscending members → is_member members sa ≡ true → is_member members (next_address sa members) ≡ true
    → ((a : ℕ) → is_member members a ≡ true → is_between sa (next_address sa members) a ≡ false) → corrected members own sa (next_address sa members) ≡ members
ring-stays members own sa up m n nearest =
    let da = next_address sa members in
    ap (λ xs. with_address sa (with_address da xs)) (all-stay (λ a. not (removes own sa da a)) members (λ a i. ap (λ b. not (b && not (is_own own a))) (nearest a i)))
    ∙ ap (with_address sa) (with-member 0 da members up n)
    ∙ with-member 0 sa members up m

-- nobody is between a member and the next one
pub keeps-ring : (members : List ℕ) (own : Option ℕ) (sa : ℕ) → IsAscending members → is_member members sa ≡ true → corrected members own sa (next_address sa members) ≡ members
keeps-ring members own sa up m = ring-stays members own sa up m (next-is members sa sa up m).member (λ a i. (next-is members sa a up i).nearest a i)

-- A new world, and of what it is made.
use Rattle.std.proofs.Common.{◌≡◌, ℕ, ◌+◌, zero, suc, List, [], ◌∷◌, ◌++◌, map, take, Some, None, Ok, refl, ap, sym, subst, ◌∙◌, arith}
use Rattle.std.specs.Prelude.{slice_get}
use Rattle.std.proofs.lemmas.Option.{none-some, same_Some}
use Rattle.pb_timers.specs.Timers.{Params}
use Rattle.law_model.specs.Medium.{Tap, TapSpec}
use Rattle.law_model.specs.World.{World, stopped_tap, new_faults, new_world, new_world_within, IsNewWorld, trace_limit}
use Rattle.law_model.proofs.Worlds.{unless-Ok}
use Rattle.law_runs.specs.Headline.{specs_of}
use Rattle.pb_segment.specs.Origins.{Origin, IsMadeOf, IsMade, IsNew}

abbrev made : Params → List TapSpec → World
made p specs = record { params = p; now = 0; trace = []; taps = map (stopped_tap p) specs; limit = trace_limit }

pub new_is : (p : Params) (specs : List TapSpec) (w : World) → new_world p specs ≡ Ok w → made p specs ≡ w
new_is p specs w new = (unless-Ok (new_faults p specs) (made p specs) w new).1

specs_back : (p : Params) (specs : List TapSpec) → map (λ (t : Tap). t.spec) (map (stopped_tap p) specs) ≡ specs
specs_back p [] = refl
specs_back p (spec ∷ specs) = ap (λ l. spec ∷ l) (specs_back p specs)

-- the new world has what it is made of
pub made_specs : (o : Origin) (w : World) → IsMadeOf o w → specs_of w ≡ o.specs
made_specs o w new = ap (λ (z : World). specs_of z) (sym (new_is o.params o.specs w new)) ∙ specs_back o.params o.specs

made_new : (p : Params) (specs : List TapSpec) (w : World) → new_world p specs ≡ Ok w → IsMade w
made_new p specs w new =
    let is = new_is p specs w new in
    let params : w.params ≡ p = ap (λ (z : World). z.params) (sym is) in
    let same : specs_of w ≡ specs = made_specs (record { params = p; specs = specs }) w new in
    ap (λ (q : Params). new_world q (specs_of w)) params ∙ ap (λ l. new_world p l) same ∙ new

new_limit : (p : Params) (specs : List TapSpec) (w : World) → (new : IsNewWorld p specs w) → new.0 ≡ w.limit
new_limit p specs w new = ap (λ (z : World). z.limit) (unless-Ok (new_faults p specs) (record { params = p; now = 0; trace = []; taps = map (stopped_tap p) specs; limit = new.0 }) w new.1).1

-- a new world is made of its own origin
pub own_origin : (w : World) → IsNew w → IsMade w
own_origin w new =
    let run = new.0.run in
    let limit : run.made.0 ≡ trace_limit = new_limit new.0.p new.0.specs w run.made ∙ new.1 in
    made_new new.0.p new.0.specs w (subst (λ l. new_world_within l new.0.p new.0.specs ≡ Ok w) limit run.made.1)

some_tap : (p : Params) (specs : List TapSpec) → (new_world p specs ≡ Ok (made p specs)) → slice_get (map (stopped_tap p) specs) 0 ≡ None → ⊥
some_tap p [] new none = absurd cc
some_tap p (spec ∷ specs) new none = absurd cc

address_at : (p : Params) (specs : List TapSpec) (k : ℕ) (t : Tap) → slice_get (map (stopped_tap p) specs) k ≡ Some t → t.station.address ≡ t.spec.address
address_at p [] k t at = absurd (none-some t at)
address_at p (spec ∷ specs) zero t at = let same = same_Some (stopped_tap p spec) t at in ap (λ (z : Tap). z.station.address) (sym same) ∙ ap (λ (z : Tap). z.spec.address) same
address_at p (spec ∷ specs) (suc k) t at = address_at p specs k t at

-- a new world has a tap
pub new_has_tap : (w : World) → IsMade w → slice_get w.taps 0 ≡ None → ⊥
new_has_tap w new none =
    let is = new_is w.params (specs_of w) w new in
    some_tap w.params (specs_of w) (new ∙ ap (λ (z : World). Ok z) (sym is)) (ap (λ (z : World). slice_get z.taps 0) is ∙ none)

-- its stations have the addresses that their taps were given
pub new_address : (w : World) (k : ℕ) (t : Tap) → IsMade w → slice_get w.taps k ≡ Some t → t.station.address ≡ t.spec.address
new_address w k t new at =
    let is = new_is w.params (specs_of w) w new in
    address_at w.params (specs_of w) k t (ap (λ (z : World). slice_get z.taps k) is ∙ at)

spec_get : (ts : List Tap) (k : ℕ) (t : Tap) → slice_get ts k ≡ Some t → slice_get (map (λ (x : Tap). x.spec) ts) k ≡ Some t.spec
spec_get [] k t at = absurd (none-some t at)
spec_get (x ∷ ts) zero t at = ap (λ (z : Tap). Some z.spec) (same_Some x t at)
spec_get (x ∷ ts) (suc k) t at = spec_get ts k t at

pub spec_here : (w : World) (k : ℕ) (t : Tap) → slice_get w.taps k ≡ Some t → slice_get (specs_of w) k ≡ Some t.spec
spec_here w k t at = spec_get w.taps k t at

next_suc : (xs : List TapSpec) (i : ℕ) (x : TapSpec) → slice_get xs i ≡ Some x → take (suc i) xs ≡ take i xs ++ x ∷ []
next_suc [] i x at = absurd (none-some x at)
next_suc (y ∷ xs) zero x at = ap (λ (z : TapSpec). z ∷ []) (same_Some y x at)
next_suc (y ∷ xs) (suc i) x at = ap (λ (l : List TapSpec). y ∷ l) (next_suc xs i x at)

pub next_spec : (xs : List TapSpec) (i : ℕ) (x : TapSpec) → slice_get xs i ≡ Some x → take (i + 1) xs ≡ take i xs ++ x ∷ []
next_spec xs i x at = let one : i + 1 ≡ suc i = omega arith in ap (λ (n : ℕ). take n xs) one ∙ next_suc xs i x at

-- A new bus, as C asks for it.
use Rattle.std.proofs.Common.{◌≡◌, ◌≢◌, ◌∙◌, ℕ, ◌+◌, inl, inr, nat_lt, ◌||◌, Bool, true, false, if◌then◌else◌, List, [], ◌∷◌, length, map, ◌<◌, ◌≤◌, Option, Some, None, Result, Ok, Err, refl, ap, sym, subst, arith}
use Rattle.std.proofs.lemmas.Bool.{le-ltb, ne_eqb}
use Rattle.std.proofs.lemmas.List.{length-map}
use Rattle.std.specs.Prelude.{◌==◌, is_some, unwrap_or}
use Rattle.std.specs.List.{list_any}
use Rattle.std.specs.Option.{option_map}
use Rattle.pb_faults.specs.FirstFault.{first_fault}
use Rattle.pb_timers.specs.Timers.{Params}
use Rattle.law_model.specs.Medium.{TapSpec}
use Rattle.law_model.specs.World.{World, NewFault, NoTaps, TooManyTaps, BadAddress, first_bad_address, new_faults, new_world, new_world_within, stopped_tap, trace_limit, unless_fault}
use Rattle.pb_taps.specs.Faults.{new_fault, RefusesNew}
use Rattle.pb_taps.specs.declared.faults.NewFault as declared
use Rattle.pb_taps.specs.declared.faults.NewFault.TheVariants as new
use Rattle.pb_world.specs.Acted.{IsDrivenBy}
use Rattle.pb_world.specs.Watched.{world_in}
use Rattle.pb_world.specs.declared.driven.Driven.{Driven}
use Rattle.pbfdl.specs.BusCodes.{new_fault_code}
use Rattle.pbfdl.specs.Buses.{is_bad_tap, KeepsNone, Makes, tap_fault, tap_spec_of}
use Rattle.pbfdl.specs.declared.taps.FdlTap.{FdlTap}

-- some tap has a bad address, or none has
any-bad : (p : Params) (k : ℕ) (taps : List FdlTap) → list_any (is_bad_tap p) taps ≡ is_some (first_bad_address p k (map tap_spec_of taps))
any-bad p k [] = refl
any-bad p k (t ∷ taps) = by (any-bad p (k + 1) taps) (is_bad_tap p t)
  where
    by : list_any (is_bad_tap p) taps ≡ is_some (first_bad_address p (k + 1) (map tap_spec_of taps)) → (b : Bool)
        → (b || list_any (is_bad_tap p) taps) ≡ is_some (if b then Some k else first_bad_address p (k + 1) (map tap_spec_of taps))
    by rest true = refl
    by rest false = rest

-- the code of the first fault of taps, by its tests
abbrev coded : Bool → Bool → Bool → ℕ → Option ℕ
coded none many bad tap = option_map (λ (fault : NewFault). new_fault_code (new_fault fault)) (first_fault ((none, NoTaps) ∷ (many, TooManyTaps) ∷ (bad, BadAddress tap) ∷ []))

tap-fault-by : (p : Params) (taps : List FdlTap) (none many bad : Bool) → (length (map tap_spec_of taps) == 0) ≡ none → nat_lt 127 (length (map tap_spec_of taps)) ≡ many
    → list_any (is_bad_tap p) taps ≡ bad → tap_fault p taps ≡ (if none then Some 71 else if many then Some 72 else if bad then Some 64 else None)
tap-fault-by p taps none many bad isnone ismany isbad =
    let specs = map tap_spec_of taps in
    let tap = unwrap_or (first_bad_address p 0 specs) 0 in
    ap (λ (b : Bool). coded b (nat_lt 127 (length specs)) (is_some (first_bad_address p 0 specs)) tap) isnone
    ∙ ap (λ (b : Bool). coded none b (is_some (first_bad_address p 0 specs)) tap) ismany
    ∙ ap (λ (b : Bool). coded none many b tap) (sym (any-bad p 0 taps) ∙ isbad) ∙ by none many bad tap
  where
    by : (none many bad : Bool) (tap : ℕ) → coded none many bad tap ≡ (if none then Some 71 else if many then Some 72 else if bad then Some 64 else None)
    by true many bad tap = refl
    by false true bad tap = refl
    by false false true tap = refl
    by false false false tap = refl

-- of so many taps as there may be
pub tap-fault-few : (p : Params) (taps : List FdlTap) (bad : Bool) → 0 < length taps → length taps ≤ 127 → list_any (is_bad_tap p) taps ≡ bad → tap_fault p taps ≡ (if bad then Some 64 else None)
tap-fault-few p taps bad some few isbad =
    let count = length-map taps tap_spec_of in
    tap-fault-by p taps false false bad (ne_eqb (length (map tap_spec_of taps)) 0 (λ none. omega (arith, none, count, some))) (le-ltb 127 (length (map tap_spec_of taps)) (omega (arith, count, few))) isbad

-- memory is refused for a bus that nothing else refuses
pub makes-none : (limit : ℕ) (p : Params) (taps : List FdlTap) → tap_fault p taps ≡ None → Makes (new_world_within limit p (map tap_spec_of taps)) 63 None
makes-none limit p taps = by (first_fault (new_faults p (map tap_spec_of taps)))
  where
    by : (o : Option NewFault) → option_map (λ (fault : NewFault). new_fault_code (new_fault fault)) o ≡ None
        → Makes (unless_fault o (record { params = p; now = 0; trace = []; taps = map (stopped_tap p) (map tap_spec_of taps); limit = limit })) 63 None
    by None none = inl refl
    by (Some fault) none = absurd cc

-- what refuses a new bus, whatever number of entries its trace may have
pub makes-fault : (limit : ℕ) (p : Params) (specs : List TapSpec) (fault : declared.NewFault) → RefusesNew (new_world p specs) fault
    → Makes (new_world_within limit p specs) (new_fault_code fault) None
makes-fault limit p specs fault is = by (first_fault (new_faults p specs)) is
  where
    made : ℕ → World
    made n = record { params = p; now = 0; trace = []; taps = map (stopped_tap p) specs; limit = n }

    by : (o : Option NewFault) → RefusesNew (unless_fault o (made trace_limit)) fault → Makes (unless_fault o (made limit)) (new_fault_code fault) None
    by None is = inl (ap new_fault_code is)
    by (Some f) is = ap new_fault_code is

pub new-code-some : (fault : declared.NewFault) → new_fault_code fault ≢ 0
new-code-some new.NoTaps = λ zero. cc
new-code-some new.TooManyTaps = λ zero. cc
new-code-some (new.BadAddress tap) = λ zero. cc
new-code-some new.NoMemory = λ zero. cc

pub makes-bus : (r : Result World NewFault) (b : Driven) → r ≡ Ok (world_in b.watched) → IsDrivenBy b [] (world_in b.watched) [] → KeepsNone b → Makes r 0 (Some b)
makes-bus r b made came none = subst (λ (x : Result World NewFault). Makes x 0 (Some b)) (sym made) (inr (refl, (b, refl, refl, came, none)))

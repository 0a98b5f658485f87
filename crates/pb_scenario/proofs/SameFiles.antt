-- What files of version 1 and 2 mean for a stream.
use Rattle.std.proofs.Common.{◌≡◌, ◌≢◌, ◌∙◌, ap, refl, sym, arith, ℕ, zero, suc, ◌+◌, ◌*◌, ◌<◌, Bool, true, false, List, [], ◌∷◌, length, Some, None, Result, Ok, Err}
use Rattle.std.specs.Prelude.{if◌then◌else◌, slice_get, ℤ, pos}
use Rattle.std.proofs.lemmas.Bool.Decides.{Decides-int_eq}
use Rattle.std.specs.Ordering.{int_eq}
use Rattle.toml.specs.Data.{Members, as_integer}
use Rattle.law_runs.specs.Scenarios.{Deed, Planned}
use Rattle.pb_scenario.specs.declared.keys.Key.TheVariants as key
use Rattle.pb_scenario.specs.declared.keys.Section.TheVariants.{Top}
use Rattle.pb_scenario.specs.declared.versions.Version.{Version}
use Rattle.pb_scenario.specs.Fields.{Fault, BadVersion, and_then, typed}
use Rattle.pb_scenario.specs.Files.{scenario_in, version_of}
use Rattle.pb_scenario.specs.Repeats.{StreamView, happenings_from, series, unrepeated}
use Rattle.pb_scenario.specs.Scenarios.{ScenarioView}
use Rattle.pb_scenario.specs.StreamFiles.{repeating_in, stream_in}
use Rattle.pb_scenario.specs.StreamLaws.{HappensAfterEach, ReadsTheSame, RefusesTheSame, UnrollsTheSame}

-- 3 is no version of a file whose steps happen once
bad-three : (z : ℤ) → int_eq z (pos 3) ≡ true → version_of z ≡ Err BadVersion
bad-three z is = ap version_of ((Decides-int_eq z (pos 3)).0 is)

module _ (next : Version → Result ScenarioView Fault) (other : Result StreamView Fault) (whole : Result ScenarioView Fault) where
  -- by the version, or as ever
  abbrev chosen : ℤ → Bool → Result StreamView Fault
  chosen z b = if b then other else and_then whole (λ s. Ok (unrepeated s))

  reads : (r : Result ℤ Fault) (s : ScenarioView) → whole ≡ and_then (and_then r version_of) next → whole ≡ Ok s
      → and_then r (λ z. chosen z (int_eq z (pos 3))) ≡ Ok (unrepeated s)
  reads (Err f) s is ok = absurd (let wrong : Err f ≡ Ok s = sym is ∙ ok in cc)
  reads (Ok z) s is ok = by (int_eq z (pos 3)) refl
    where
      by : (b : Bool) → int_eq z (pos 3) ≡ b → chosen z b ≡ Ok (unrepeated s)
      by true three = absurd (let wrong : Err BadVersion ≡ Ok s = sym (ap (λ r. and_then r next) (bad-three z three)) ∙ sym is ∙ ok in cc)
      by false another = ap (λ r. and_then r (λ (s : ScenarioView). Ok (unrepeated s))) ok

  refuses : (r : Result ℤ Fault) (f : Fault) → whole ≡ and_then (and_then r version_of) next → whole ≡ Err f → f ≢ BadVersion
      → and_then r (λ z. chosen z (int_eq z (pos 3))) ≡ Err f
  refuses (Err g) f is err other_fault = let same : Err g ≡ Err f = sym is ∙ err in cc
  refuses (Ok z) f is err other_fault = by (int_eq z (pos 3)) refl
    where
      by : (b : Bool) → int_eq z (pos 3) ≡ b → chosen z b ≡ Err f
      by true three = absurd (other_fault (let same : Err f ≡ Err BadVersion = sym err ∙ is ∙ ap (λ r. and_then r next) (bad-three z three) in cc))
      by false another = ap (λ r. and_then r (λ (s : ScenarioView). Ok (unrepeated s))) err

pub reads-same : ReadsTheSame
unfolding scenario_in stream_in
reads-same top s is = reads _ (repeating_in top) _ (typed as_integer Top key.Version top) s refl is

pub refuses-same : RefusesTheSame
unfolding scenario_in stream_in
refuses-same top f is other = refuses _ (repeating_in top) _ (typed as_integer Top key.Version top) f refl is other

pub unrolls-same : UnrollsTheSame
unrolls-same s until = ap (λ (steps : List Planned). record s.scenario { steps = steps; until = until }) (by 0 s.scenario.steps)
  where
    by : (place : ℕ) (steps : List Planned) → happenings_from until [] place steps ≡ steps
    by place [] = refl
    by place (x ∷ steps) = ap (λ l. x ∷ l) (by (place + 1) steps)

pub happens-after-each : HappensAfterEach
happens-after-each at every times k deed less = (by at times k less, count at times)
  where
    by : (m n i : ℕ) → i < n → slice_get (series m every n deed) i ≡ Some (record { at = m + i * every; deed = deed })
    by m zero i less = absurd (omega (arith, less))
    by m (suc n) zero less = let same : m ≡ m + zero * every = omega arith in ap (λ j. Some (record { at = j; deed = deed })) same
    by m (suc n) (suc i) less =
        let same : (m + every) + i * every ≡ m + suc i * every = omega arith in
        by (m + every) n i (omega (arith, less)) ∙ ap (λ j. Some (record { at = j; deed = deed })) same

    count : (m n : ℕ) → length (series m every n deed) ≡ n
    count m zero = refl
    count m (suc n) = ap suc (count (m + every) n)

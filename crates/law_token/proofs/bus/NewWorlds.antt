-- A new world has the invariant.
use Rattle.std.proofs.Common.{◌≡◌, ℕ, zero, suc, true, false, List, [], ◌∷◌, map, refl, ap, ◌∙◌, subst, Some, None}
use Rattle.std.specs.Prelude.{slice_get}
use Rattle.std.proofs.lemmas.Option.{none-some, same_Some}
use Rattle.pb_timers.specs.Timers.{Params}
use Rattle.law_model.specs.Medium.{Tap, TapSpec}
use Rattle.law_model.specs.World.{World, stopped_tap, new_faults, IsNewWorld}
use Rattle.law_model.specs.Laws.{AllFit}
use Rattle.law_model.proofs.Worlds.{unless-Ok}
use Rattle.law_runs.specs.Premises.{has_namesakes}
use Rattle.law_token.specs.Places.{LeavesTime}
use Rattle.law_token.specs.Invariant.{Keeps}
use Rattle.law_token.specs.Invariant.{Invariant}
use Rattle.law_token.proofs.whole.Stays.{settled_new}

no_namesakes : (p : Params) (specs : List TapSpec) → has_namesakes (map (stopped_tap p) specs) ≡ false
no_namesakes p [] = refl
no_namesakes p (spec ∷ specs) = no_namesakes p specs

pub none_run : (p : Params) (specs : List TapSpec) (k : ℕ) (t : Tap) → slice_get (map (stopped_tap p) specs) k ≡ Some t → t.running ≡ true → ⊥
none_run p [] k t at run = none-some t at
none_run p (spec ∷ specs) zero t at run = let w : false ≡ true = ap (λ (z : Tap). z.running) (same_Some (stopped_tap p spec) t at) ∙ run in cc
none_run p (spec ∷ specs) (suc k) t at run = none_run p specs k t at run

pub new_keeps : (p : Params) (specs : List TapSpec) (w : World) → LeavesTime p → AllFit specs → IsNewWorld p specs w → Keeps w []
new_keeps p specs w fits fit new =
    let made : World = record { params = p; now = 0; trace = []; taps = map (stopped_tap p) specs; limit = new.0 } in
    subst (λ z. Keeps z []) (unless-Ok (new_faults p specs) made w new.1).1 (record {
      fits = fits;
      inv = record {
        last = None;
        is_last = refl;
        last_in = tt;
        entries = tt;
        others = tt;
        speakers = tt;
        distinct = no_namesakes p specs;
        taps = λ k t at run. absurd (none_run p specs k t at run);
      };
      legal = refl;
    })

pub new_invariant : (p : Params) (specs : List TapSpec) (w : World) → LeavesTime p → AllFit specs → IsNewWorld p specs w → Invariant w []
new_invariant p specs w fits fit made = record { settled = settled_new p specs w fits.highest fit made; keeps = new_keeps p specs w fits fit made }

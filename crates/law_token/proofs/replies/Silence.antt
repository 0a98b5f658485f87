-- Other data with which a tap replies leave no master in silence for longer: what a station waits for is the same.
use Rattle.std.proofs.Common.{◌≡◌, ℕ, List, refl, sym, subst, arith, Option, Some, None, Ok}
use Rattle.std.specs.Prelude.{slice_get, slice_set}
use Rattle.pb_timers.specs.Timers.{Params}
use Rattle.law_turn.specs.Laws.{Fits}
use Rattle.law_turn.specs.Stations.{Station}
use Rattle.law_model.specs.Trace.{Entry}
use Rattle.law_model.specs.Medium.{Tap}
use Rattle.law_model.specs.World.{World}
use Rattle.law_model.proofs.Worlds.{sayable-set, sayable-at}
use Rattle.law_token.specs.Data.{tap_with, set_data_at, set_data}
use Rattle.law_token.specs.Promises.{LeavesNoneInSilence}
use Rattle.law_token.specs.Views.{IsOn, place}
use Rattle.law_token.proofs.bus.Lists.{at_set}
use Rattle.law_token.proofs.quiet.Alert.{Minds, Alert}
use Rattle.law_token.proofs.quiet.Bound.{stretch_in}
use Rattle.law_token.proofs.quiet.Watched.{Watched, Watch}
use Rattle.law_token.proofs.replies.Kept.{viewed}

alert_data : (p : Params) (now : ℕ) (entries : List Entry) (k : ℕ) (t : Tap) (unit : List ℕ) → Alert p now entries k t → Alert p now entries k (tap_with t unit)
alert_data p now entries k t unit o = record {
  began = o.began;
  in_time = o.in_time;
  read = o.read;
  seen = o.seen;
  minds = subst (λ (z : Station). IsOn z.phase → Minds (place p now k t) entries z.busy z.quiet) (sym (viewed p t unit).is) o.minds;
  wakes = o.wakes;
  request = o.request;
  recalls = o.recalls;
}

pub data_watches : (p : Params) (w next : World) (tap : ℕ) (unit : List ℕ) → Fits unit → set_data w tap unit ≡ Ok next → Watch p w → Watch p next
data_watches p w next tap unit fits ok k = by (slice_get w.taps tap) refl ok
  where
    by : (o : Option Tap) → slice_get w.taps tap ≡ o → set_data_at w tap unit o ≡ Ok next → Watch p next
    by None at ok = absurd cc
    by (Some t) at ok =
        let y = tap_with t unit in
        let made : World = record w { taps = slice_set w.taps tap y } in
        let same : made ≡ next = cc in
        let has = sayable-at w.taps tap t k.sayable at in
        let c = has.1 in
        subst (λ z. Watch p z) same (record {
          params = k.params;
          fits = k.fits;
          begun = k.begun;
          sayable = sayable-set w.taps tap y (has.0, record { high = c.high; low = c.low; pending = c.pending; unit = fits; kept = c.kept }) k.sayable;
          addresses = at_set (λ j u. u.station.address ≡ u.spec.address) w.taps tap y (k.addresses tap t at) (λ j u ne h. k.addresses j u h);
          taps = at_set (λ j u. Watched made j u) w.taps tap y (λ run master. alert_data w.params w.now w.trace tap t unit (k.taps tap t at run master)) (λ j u ne h run master. k.taps j u h run master);
        })

-- no master of a watched world has been in silence for too long
pub watched_silence : (p : Params) (w : World) → Watch p w → LeavesNoneInSilence w
watched_silence p w k = record {
  at_the_tap = λ tap m u t is since lt le silent.
      let h = stretch_in w.params w tap m u w.params.ttd t own is (omega arith) since lt le silent in omega (arith, h);
  at_speakers = λ tap m u t is since lt le silent.
      let h = stretch_in w.params w tap m u 0 t own is (omega arith) since lt le silent in omega (arith, h);
}
  where
    own : Watch w.params w
    own = record { params = refl; fits = k.fits; begun = k.begun; sayable = k.sayable; addresses = k.addresses; taps = k.taps }

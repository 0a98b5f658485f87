-- The recent entries and the taps of a bus, as a world of the model.
use Rattle.std.proofs.Common.{◌≡◌, ◌∙◌, ap, ℕ, List, map}
use Rattle.std.specs.Prelude.{drop}
use Rattle.pb_timers.specs.Timers.{Params}
use Rattle.law_model.specs.Trace as trace
use Rattle.pb_medium.specs.Airs.{air}
use Rattle.pb_taps.specs.Taps.{tap_of}
use Rattle.pb_taps.specs.declared.taps.Tap.{Tap}
use Rattle.pb_world.proofs.Stepping.{recent_of}

pub air-recent : (p : Params) (delay now limit over : ℕ) (es : List trace.Entry) (ts taps : List Tap) → delay ≡ p.ttd → taps ≡ ts
    → air delay now (drop over es) taps ≡ recent_of over (record { params = p; now = now; trace = es; taps = map tap_of ts; limit = limit })
air-recent p delay now limit over es ts taps is same = ap (λ d. air d now (drop over es) taps) is ∙ ap (air p.ttd now (drop over es)) same

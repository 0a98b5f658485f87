-- What is over on a bus, and what its taps have in common.
use Rattle.std.proofs.Common.{◌≡◌, ◌∙◌, ap, sym, refl, arith, ℕ, ◌+◌, ◌≤◌, ◌&&◌, true, List, [], ◌∷◌, map, Bool}
use Rattle.std.specs.Prelude.{take, drop}
use Rattle.std.specs.List.{list_all}
use Rattle.std.proofs.lemmas.Bool.{le-leb}
use Rattle.std.proofs.lemmas.List.{take-append-drop}
use Rattle.std.proofs.lemmas.List.Folds.{list_all-append}
use Rattle.pb_timers.specs.Timers.{Params}
use Rattle.law_model.specs.Trace.{Entry, Noise, Sent}
use Rattle.law_model.specs.Medium.{reaches_taps}
use Rattle.law_model.specs.Laws.{AllOver}
use Rattle.law_rings.specs.Settled.{is_over}
use Rattle.pb_medium.specs.Airs.{IsCut}
use Rattle.pb_taps.specs.Taps.{AreSeated, seat_of}
use Rattle.pb_taps.specs.declared.taps.Tap.{Tap}
use Rattle.pb_world.specs.Settled.{ShareParams}

pub share_params : (p : Params) (k : ℕ) (ts : List Tap) → AreSeated p k (map seat_of ts) → ShareParams p ts
share_params p k [] seated = tt
share_params p k (t ∷ ts) seated = (ap (λ s. s.params) seated.0, share_params p (k + 1) ts seated.1)

over_now : (m now : ℕ) (e : Entry) → (reaches_taps 0 e).end ≤ m → m ≤ now → is_over 0 now e ≡ true
over_now m now (Noise span) over at = le-leb (span.end + 0) now (omega (arith, over, at))
over_now m now (Sent r) over at = le-leb (r.end + 0) now (omega (arith, over, at))

all_over_now : (m now : ℕ) (es : List Entry) → AllOver 0 m es → m ≤ now → list_all (is_over 0 now) es ≡ true
all_over_now m now [] over at = refl
all_over_now m now (e ∷ es) over at =
    ap (λ (b : Bool). b && list_all (is_over 0 now) es) (over_now m now e over.1 at) ∙ all_over_now m now es over.2 at

-- without a delay, the entries before the mark are over
pub recent_is_all : (now over : ℕ) (es : List Entry) → IsCut 0 now over es → list_all (is_over 0 now) (drop over es) ≡ list_all (is_over 0 now) es
recent_is_all now over es (m, at, some, old, recent) =
    sym (ap (list_all (is_over 0 now)) (sym (take-append-drop over es)) ∙ list_all-append (is_over 0 now) (take over es) (drop over es)
    ∙ ap (λ (b : Bool). b && list_all (is_over 0 now) (drop over es)) (all_over_now m now (take over es) old at))

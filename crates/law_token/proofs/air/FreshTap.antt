-- A tap that starts knows nothing yet.
use Rattle.std.proofs.Common.{◌≡◌, ℕ, ◌≤◌, inl, inr, true, false, ◌==◌, ◌||◌, refl, arith, Option, Some, None}
use Rattle.std.specs.Prelude.{slice_get, nat_lt, max}
use Rattle.std.specs.Option.{option_and_then}
use Rattle.law_turn.specs.Spans.{Span}
use Rattle.law_turn.specs.Phases.{PassiveIdle, Listening}
use Rattle.law_turn.specs.Stations.{started}
use Rattle.law_model.specs.Trace.{Record, Entry, Sent, Noise}
use Rattle.law_model.specs.Medium.{Tap, part_after, is_unheard, reaches}
use Rattle.law_model.specs.World.{World}
use Rattle.law_model.specs.Step.{started_tap}
use Rattle.law_model.proofs.Cases.{by_test}
use Rattle.law_token.specs.Lists.{Each}
use Rattle.law_token.specs.Places.{heard_span, IsOver, Place, Over, IsSplit, IsOwn}
use Rattle.law_token.specs.Views.{Knows, TapHolds}
use Rattle.law_token.proofs.bus.Lists.{each_map, each_all}
use Rattle.law_token.proofs.bus.Hearers.{IsNew, new_over, new_split}

-- of what was there before its start a tap hears what is there from its start on
part_new : (now : ℕ) (span : Span) → IsNew now (part_after now span)
part_new now span = by_test (IsNew now) (nat_lt now span.end) (Some (record { begin = max span.begin now; end = span.end })) None (λ _. omega arith) (λ _. tt)

pub span_new : (delay k now : ℕ) (e : Entry) → IsNew now (heard_span delay k now e)
span_new delay k now (Noise span) = part_new now span
span_new delay k now (Sent r) =
    by_test (λ o. IsNew now (option_and_then (part_after now) o)) (r.tap == k || is_unheard (slice_get r.heard k)) None (Some (reaches delay r)) (λ _. tt) (λ _. part_new now (reaches delay r))

-- what the tap has sent is over
abbrev pub OwnEnded : ℕ → ℕ → Entry → Type 0
OwnEnded k now (Noise span) = Unit {0}
OwnEnded k now (Sent r) = r.tap ≡ k → r.end ≤ now

owns_over : (k now : ℕ) (own : Span) → own.begin ≡ now → (e : Entry) → OwnEnded k now e → IsOwn k own e
owns_over k now own at (Noise span) h = tt
owns_over k now own at (Sent r) h = λ mine. inr (let a = h mine in omega (arith, a, at))

pub started_ok : (w : World) (last : Option Record) (k : ℕ) (t : Tap) → t.station.address ≡ t.spec.address → Each (OwnEnded k w.now) w.trace → TapHolds w.params w.now w.trace last k (started_tap w k t)
started_ok w last k t address ended =
    by_test (λ ph. TapHolds w.params w.now w.trace last k (record (started_tap w k t) { station = record (started w.params t.station t.spec.master w.now) { phase = ph } })) t.spec.master (Listening false) PassiveIdle
    (λ _. record { began = omega arith; address = address; in_time = omega arith; seen = λ on q over. tt; knows = knows; view_ok = tt; grip = tt; silent = record { silent = λ busy. absurd (let wrong : false ≡ true = busy in cc); in_place = tt } })
    (λ _. record { began = omega arith; address = address; in_time = tt; seen = λ on q over. tt; knows = knows; view_ok = tt; grip = tt; silent = record { silent = λ busy. absurd (let wrong : false ≡ true = busy in cc); in_place = tt } })
  where
    own : Span
    own = record { begin = w.now; end = w.now }

    c : Place
    c = record { p = w.params; now = w.now; tap = k; address = t.spec.address; since = w.now }

    over : Over c w.trace w.now
    over = each_all (λ e. IsOver w.now w.now (heard_span w.params.ttd k w.now e)) w.trace (λ e. new_over w.now w.now (heard_span w.params.ttd k w.now e) (span_new w.params.ttd k w.now e))

    knows : Knows c w.trace false w.now own
    knows = record {
      senses = (over, over);
      started = omega arith;
      begun = omega arith;
      order = omega arith;
      ended = omega arith;
      quiet_by = inl (omega arith);
      split = each_all (λ e. IsSplit w.now (heard_span w.params.ttd k w.now e)) w.trace (λ e. new_split w.now w.now (heard_span w.params.ttd k w.now e) (omega arith) (span_new w.params.ttd k w.now e));
      owns = each_map (OwnEnded k w.now) (IsOwn k own) w.trace (λ e h. owns_over k w.now own refl e h) ended;
      sent = λ some span none. absurd (omega (arith, some));
    }

-- A turn of a station, taken or decided before, as the step of the whole bus.
use Rattle.std.proofs.Common.{◌≡◌, ◌∙◌, ap, sym, subst, ℕ, List, length, map, Ok, Option, Some, true, [], arith}
use Rattle.std.specs.Prelude.{is_some, slice_get, slice_set}
use Rattle.std.specs.Global.{Vec}
use Rattle.std.proofs.lemmas.List.{length-set, map-set}
use Rattle.std.proofs.lemmas.Option.{same_Some}
use Rattle.pb_transitions.specs.declared.sending.SendBuffer.{SendBuffer}
use Rattle.law_model.specs.Step.{step, with_said}
use Rattle.law_model.specs.World.{Turn}
use Rattle.pb_station.specs.Decisions.{DecisionView, IsDecision}
use Rattle.pb_station.specs.declared.spares.Spares.{Spares}
use Rattle.pb_station.specs.MarkViews.{mark_of}
use Rattle.pb_station.specs.Stations.{StationView}
use Rattle.pb_taps.specs.Glancing.{FitsTap}
use Rattle.law_turn.specs.Marks.{Mark}
use Rattle.law_turn.specs.Turns.{turn_of}
use Rattle.pb_world.specs.Buses.{world_of, IsKept}
use Rattle.pb_world.specs.declared.buses.Bus.{Bus}
use Rattle.pb_medium.specs.Traces.{entries_of, limit_of, over_of, recent_of, HasRoom, RecentBecomes, StaysAs}
use Rattle.pb_medium.specs.declared.traces.Trace.{Trace}
use Rattle.pb_medium.proofs.Lending.{after-room}
use Rattle.pb_taps.specs.Taps.{tap_of, seat_of, AreSeated}
use Rattle.pb_taps.specs.Turning.{says, turned_tap, Runs, TakesTurn}
use Rattle.pb_taps.specs.declared.taps.Tap.{Tap}
use Rattle.pb_taps.proofs.Seats.{seat-of-tap, same-seats}
use Rattle.pb_taps.proofs.Turned.{turned-seat, turned-tap}
use Rattle.pb_world.proofs.Ending.{in-time}
use Rattle.pb_world.proofs.Judging.{tap-at}
use Rattle.pb_world.proofs.Stepping.{sound-after, cut-after, from-said, room-said, turn-done}

-- what a decision says that fits is what the station at its tap says
pub decided-says : (ts : List Tap) (now : ℕ) (d : DecisionView) (t : Tap) → FitsTap ts now d → IsDecision d → slice_get ts d.tap ≡ Some t → d.speak ≡ says t now
decided-says ts now d t (u, at, (before, marks, clock)) is there =
    ap (λ (x : StationView × Option (List ℕ)). x.1) is
    ∙ ap (λ (s : StationView). (turn_of s.params s.station (map mark_of d.marks) d.now).1) before
    ∙ ap (λ (ms : List Mark). (turn_of u.station.params u.station.station ms d.now).1) marks
    ∙ ap (λ n. (turn_of u.station.params u.station.station u.marks n).1) clock
    ∙ ap (λ (y : Tap). says y now) (same_Some u t (sym at ∙ there))

-- how the trace grows by what was said, once room has been made
pub record Grows (b : Bus) (i : ℕ) (said : Option (List ℕ)) (roomy after : Trace) : Type 0 where
  pub same : StaysAs b.trace roomy
  pub room : is_some said ≡ true → HasRoom roomy
  pub becomes : RecentBecomes (with_said i said b.now (world_of b).taps) roomy after

pub turn-follows : (b : Bus) (i : ℕ) (next taps : List Tap) (said : Option (List ℕ)) (roomy after : Trace) → IsKept b → Runs b.taps.items i
    → TakesTurn b.taps.items i b.now next said → taps ≡ next → Grows b i said roomy after
    → step (world_of b) (Turn i) ≡ Ok (record (world_of b) { trace = entries_of after; taps = map tap_of taps; limit = limit_of after }, record { now = b.now; spoke = said })
turn-follows b i next taps said roomy after kept (u, there, runs) (t, at, are, spoken) back grows =
    let w = world_of b in
    let items = b.taps.items in
    let over = over_of b.trace in
    let same = same_Some t u (sym at ∙ there) in
    let seat = seat-of-tap b.params items i t kept.seats at in
    let turn = turn_of t.station.params t.station.station t.marks b.now in
    let turns = ap (λ p. turn_of p t.station.station t.marks b.now) (ap (λ y. y.params) seat) in
    let turned = record (tap_of t) { station = turn.0; marks = [] } in
    let room = room-said said b.trace roomy grows.same grows.room in
    let becomes = after-room (with_said i said b.now w.taps) b.trace roomy after grows.same grows.becomes in
    let set = ap (map tap_of) (back ∙ are) ∙ map-set tap_of items i (turned_tap t b.now) ∙ ap (slice_set w.taps i) (turned-tap t b.now) in
    turn-done w over i (tap_of t) turn.0 said (tap-at b i t at) (ap (λ y. y.running) same ∙ runs) (ap (λ o. (turn.0, o)) spoken ∙ turns) kept.cut room
    ∙ ap (λ es. Ok (record w { trace = es; taps = slice_set w.taps i turned }, record { now = b.now; spoke = said })) (sym becomes.entries)
    ∙ ap (λ ts. Ok (record w { trace = entries_of after; taps = ts }, record { now = b.now; spoke = said })) (sym set)
    ∙ ap (λ l. Ok (record w { trace = entries_of after; taps = map tap_of taps; limit = l }, record { now = b.now; spoke = said })) (sym becomes.limit)

pub turn-kept : (b : Bus) (i : ℕ) (next : List Tap) (taps : Vec Tap) (said : Option (List ℕ)) (roomy after : Trace) (out : SendBuffer) (spares : Spares) → IsKept b → Runs b.taps.items i
    → TakesTurn b.taps.items i b.now next said → taps.items ≡ next → Grows b i said roomy after → IsKept (record b { trace = after; taps = taps; sent = out; spares = spares })
turn-kept b i next taps said roomy after out spares kept runs (t, at, are, spoken) back grows =
    let w = world_of b in
    let items = b.taps.items in
    let becomes = after-room (with_said i said b.now w.taps) b.trace roomy after grows.same grows.becomes in
    let follows = turn-follows b i next taps.items said roomy after kept runs (t, at, are, spoken) back grows in
    record {
      sound = sound-after w (Turn i) _ _ follows tt kept.sound;
      clock = kept.clock;
      room = omega (arith, ap length back, ap length are, length-set items i (turned_tap t b.now), kept.room);
      seats = subst (AreSeated b.params 0) (sym (ap (map seat_of) (back ∙ are) ∙ same-seats items i t (turned_tap t b.now) at (turned-seat t b.now))) kept.seats;
      cut = cut-after b.params.ttd b.now (with_said i said b.now w.taps) b.trace after becomes (λ m at from. from-said b.params.ttd m i b.now said w.taps (recent_of b.trace) at from) kept.cut;
      ends = in-time w (Turn i) _ _ follows tt kept.clock kept.sound kept.ends;
    }

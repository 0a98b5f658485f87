use Rattle.std.proofs.Common.{◌≡◌, ◌∙◌, ap, sym, subst, refl, true, ℕ, List, [], length, map, Ok, arith, None}
use Rattle.std.specs.Prelude.{slice_get, slice_set}
use Rattle.std.specs.List.{list_any}
use Rattle.std.specs.Option.{option_map}
use Rattle.std.proofs.lemmas.List.{length-set, map-set}
use Rattle.std.proofs.lemmas.Option.{slice_get-map}
use Rattle.law_turn.specs.Stations.{started}
use Rattle.law_model.specs.Step.{step_start, reaches_now}
use Rattle.law_model.specs.Trace as trace
use Rattle.law_model.specs.World.{Start}
use Rattle.pb_world.specs.Buses.{world_of, IsKept}
use Rattle.pb_medium.specs.Entries.{entry_of}
use Rattle.pb_medium.specs.Traces.{over_of, recent_of}
use Rattle.pb_world.specs.Starting.{fresh_tap, IsStarted, RefusesStart}
use Rattle.pb_taps.specs.Taps.{tap_of, seat_of, AreSeated}
use Rattle.pb_world.specs.declared.buses.Bus.{Bus}
use Rattle.pb_taps.specs.declared.taps.Tap.{Tap}
use Rattle.pb_taps.proofs.Behind.{written-back}
use Rattle.pb_taps.proofs.Seats.{seat-of-tap, same-seats}
use Rattle.pb_world.proofs.Ending.{in-time}
use Rattle.pb_world.proofs.Judging.{start-refused}
use Rattle.pb_world.proofs.Stepping.{in-err, sound-after, start-done}
use Rattle.pb_medium.proofs.Widening.{started_amid}
use Rattle.pb_world.proofs.buses.Bus.start.Goals as goal

done : (b : Bus) (i : ℕ) (next : List Tap) → IsKept b → IsStarted b.params.ttd b.now (recent_of b.trace) b.taps.items i next
    → step_start (world_of b) i (slice_get (world_of b).taps i) ≡ Ok (record (world_of b) { taps = map tap_of next }, record { now = b.now; spoke = None })
done b i next kept (t, at, up, are) =
    let w = world_of b in
    let items = b.taps.items in
    let amid = list_any (reaches_now b.params.ttd i b.now) (recent_of b.trace) in
    let there = slice_get-map tap_of items i ∙ ap (option_map tap_of) at in
    let same : started_amid (over_of b.trace) w i (tap_of t) ≡ tap_of (fresh_tap t amid b.now)
    = ap (λ p. record (tap_of t) { running = true; since = b.now; amid = amid; station = started p t.station.station t.station.master b.now; marks = [] })
    (sym (ap (λ x. x.params) (seat-of-tap b.params items i t kept.seats at))) in
    start-done w (over_of b.trace) i (tap_of t) kept.cut there up
    ∙ ap (λ ts. Ok (record w { taps = ts }, record { now = b.now; spoke = None }))
    (ap (slice_set w.taps i) same ∙ sym (map-set tap_of items i (fresh_tap t amid b.now)) ∙ ap (map tap_of) (sym are))

seated : (b : Bus) (i : ℕ) (next : List Tap) → IsKept b → IsStarted b.params.ttd b.now (recent_of b.trace) b.taps.items i next → AreSeated b.params 0 (map seat_of next)
seated b i next kept (t, at, up, are) =
    let amid = list_any (reaches_now b.params.ttd i b.now) (recent_of b.trace) in
    subst (AreSeated b.params 0) (sym (ap (map seat_of) are ∙ same-seats b.taps.items i t (fresh_tap t amid b.now) at refl)) kept.seats

size : (b : Bus) (i : ℕ) (next : List Tap) → IsStarted b.params.ttd b.now (recent_of b.trace) b.taps.items i next → length next ≡ length b.taps.items
size b i next (t, at, up, are) = ap length are ∙ length-set b.taps.items i _

pub returns-in_err-start-clause-follows : goal.returns-in_err-start-clause-follows
returns-in_err-start-clause-follows c =
    let bus = c.args.self.now in
    let w = world_of bus in
    let items = c.deref_mut.ensures.value in
    let kept = c.in_err-start.ensures.err in
    let back = written-back bus.taps.len bus.taps.items c.start.new.taps (ap length (sym items) ∙ c.deref_mut.ensures.len) (ap length (kept ∙ items)) in
    let entries = c.recent.ensures in
    let reason = c.in_err-start.field-0.0 in
    let why = subst (λ (es : List trace.Entry). RefusesStart bus.params.ttd bus.now es bus.taps.items c.args.tap reason) entries
    (subst (λ ts. RefusesStart bus.params.ttd bus.now (map entry_of c.recent.result.now) ts c.args.tap reason) items
    (subst (λ d. RefusesStart d bus.now (map entry_of c.recent.result.now) c.deref_mut.result.now c.args.tap reason) c.ttd.ensures c.in_err-start.ensures.fault)) in
    in-err _ _ c.from_residual.result reason c.from_residual.ensures.0 c.from_residual.ensures.1 (
      ap (λ ts. record w { taps = map tap_of ts }) (back ∙ kept ∙ items),
      start-refused bus c.args.tap reason c.requires why,
    )

pub returns-clause-follows : goal.returns-clause-follows
returns-clause-follows c =
    let bus = c.args.self.now in
    let w = world_of bus in
    let items = c.deref_mut.ensures.value in
    let entries = c.recent.ensures in
    let next = c.start.new.taps in
    let starts = subst (λ (es : List trace.Entry). IsStarted bus.params.ttd bus.now es bus.taps.items c.args.tap next) entries
    (subst (λ ts. IsStarted bus.params.ttd bus.now (map entry_of c.recent.result.now) ts c.args.tap next) items
    (subst (λ d. IsStarted d bus.now (map entry_of c.recent.result.now) c.deref_mut.result.now c.args.tap next) c.ttd.ensures c.in_ok-start.ensures.ok)) in
    let back = written-back bus.taps.len bus.taps.items next (ap length (sym items) ∙ c.deref_mut.ensures.len) (size bus c.args.tap next starts) in
    done bus c.args.tap next c.requires starts
    ∙ ap (λ o. Ok (record w { taps = map tap_of next }, record { now = bus.now; spoke = o })) (sym c.clear.ensures)
    ∙ ap (λ ts. Ok (record w { taps = map tap_of ts }, record { now = bus.now; spoke = c.clear.new.self })) (sym back)

pub returns-clause-kept : goal.returns-clause-kept
returns-clause-kept c =
    let bus = c.args.self.now in
    let items = c.deref_mut.ensures.value in
    let entries = c.recent.ensures in
    let next = c.start.new.taps in
    let starts = subst (λ (es : List trace.Entry). IsStarted bus.params.ttd bus.now es bus.taps.items c.args.tap next) entries
    (subst (λ ts. IsStarted bus.params.ttd bus.now (map entry_of c.recent.result.now) ts c.args.tap next) items
    (subst (λ d. IsStarted d bus.now (map entry_of c.recent.result.now) c.deref_mut.result.now c.args.tap next) c.ttd.ensures c.in_ok-start.ensures.ok)) in
    let back = written-back bus.taps.len bus.taps.items next (ap length (sym items) ∙ c.deref_mut.ensures.len) (size bus c.args.tap next starts) in
    record {
      sound = sound-after (world_of bus) (Start c.args.tap) _ _ (returns-clause-follows c) tt c.requires.sound;
      clock = c.requires.clock;
      room = omega (arith, ap length back, size bus c.args.tap next starts, c.requires.room);
      seats = subst (λ ts. AreSeated bus.params 0 (map seat_of ts)) (sym back) (seated bus c.args.tap next c.requires starts);
      cut = c.requires.cut;
      ends = in-time (world_of bus) (Start c.args.tap) _ _ (returns-clause-follows c) tt c.requires.clock c.requires.sound c.requires.ends;
    }

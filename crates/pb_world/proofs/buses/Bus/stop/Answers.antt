use Rattle.std.proofs.Common.{◌≡◌, ◌∙◌, ap, sym, subst, refl, ℕ, List, length, map, Ok, arith, None, ◌++◌}
use Rattle.std.specs.Prelude.{take, slice_get}
use Rattle.std.specs.Option.{option_map}
use Rattle.std.proofs.lemmas.List.{length-set, map-set}
use Rattle.std.proofs.lemmas.Option.{slice_get-map}
use Rattle.law_model.specs.Step.{step_stop}
use Rattle.law_model.specs.Trace as trace
use Rattle.law_model.specs.Trace.{cut_at}
use Rattle.law_model.specs.World.{Stop}
use Rattle.pb_world.specs.Buses.{world_of, IsKept}
use Rattle.pb_medium.specs.Traces.{entries_of, limit_of, over_of, recent_of}
use Rattle.pb_taps.specs.Turning.{RefusesStopped}
use Rattle.pb_world.specs.Stopping.{halted_tap, IsStopped}
use Rattle.pb_taps.specs.Taps.{tap_of, seat_of, AreSeated}
use Rattle.pb_world.specs.declared.buses.Bus.{Bus}
use Rattle.pb_taps.specs.declared.taps.Tap.{Tap}
use Rattle.pb_taps.proofs.Behind.{written-back}
use Rattle.pb_taps.proofs.Seats.{same-seats}
use Rattle.pb_world.proofs.Ending.{in-time}
use Rattle.pb_world.proofs.Judging.{stop-refused}
use Rattle.pb_world.proofs.Stepping.{in-err, sound-after, stop-done, cut-after, from-cut}
use Rattle.pb_world.proofs.buses.Bus.stop.Goals as goal

abbrev cut_trace : Bus → ℕ → List trace.Entry
cut_trace b i = take (over_of b.trace) (entries_of b.trace) ++ map (cut_at b.now i) (recent_of b.trace)

done : (b : Bus) (i : ℕ) (next : List Tap) → IsKept b → IsStopped b.taps.items i next
    → step_stop (world_of b) i (slice_get (world_of b).taps i) ≡ Ok (record (world_of b) { trace = cut_trace b i; taps = map tap_of next }, record { now = b.now; spoke = None })
done b i next kept (t, at, runs, are) =
    let w = world_of b in
    let items = b.taps.items in
    stop-done w (over_of b.trace) i (tap_of t) kept.cut (slice_get-map tap_of items i ∙ ap (option_map tap_of) at) runs
    ∙ ap (λ ts. Ok (record w { trace = cut_trace b i; taps = ts }, record { now = b.now; spoke = None }))
    (sym (map-set tap_of items i (halted_tap t)) ∙ ap (map tap_of) (sym are))

seated : (b : Bus) (i : ℕ) (next : List Tap) → IsKept b → IsStopped b.taps.items i next → AreSeated b.params 0 (map seat_of next)
seated b i next kept (t, at, runs, are) = subst (AreSeated b.params 0) (sym (ap (map seat_of) are ∙ same-seats b.taps.items i t (halted_tap t) at refl)) kept.seats

size : (b : Bus) (i : ℕ) (next : List Tap) → IsStopped b.taps.items i next → length next ≡ length b.taps.items
size b i next (t, at, runs, are) = ap length are ∙ length-set b.taps.items i _

pub returns-in_err-stop-clause-follows : goal.returns-in_err-stop-clause-follows
returns-in_err-stop-clause-follows c =
    let bus = c.args.self.now in
    let w = world_of bus in
    let items = c.deref_mut.ensures.value in
    let kept = c.in_err-stop.ensures.err in
    let back = written-back bus.taps.len bus.taps.items c.stop.new.taps (ap length (sym items) ∙ c.deref_mut.ensures.len) (ap length (kept ∙ items)) in
    let reason = c.in_err-stop.field-0.0 in
    in-err _ _ c.from_residual.result reason c.from_residual.ensures.0 c.from_residual.ensures.1 (
      ap (λ ts. record w { taps = map tap_of ts }) (back ∙ kept ∙ items),
      stop-refused bus c.args.tap reason (subst (λ ts. RefusesStopped ts c.args.tap reason) items c.in_err-stop.ensures.fault),
    )

pub returns-clause-follows : goal.returns-clause-follows
returns-clause-follows c =
    let bus = c.args.self.now in
    let w = world_of bus in
    let items = c.deref_mut.ensures.value in
    let next = c.stop.new.taps in
    let stops = subst (λ ts. IsStopped ts c.args.tap next) items c.in_ok-stop.ensures.ok in
    let back = written-back bus.taps.len bus.taps.items next (ap length (sym items) ∙ c.deref_mut.ensures.len) (size bus c.args.tap next stops) in
    done bus c.args.tap next c.requires stops
    ∙ ap (λ o. Ok (record w { trace = cut_trace bus c.args.tap; taps = map tap_of next }, record { now = bus.now; spoke = o })) (sym c.clear.ensures)
    ∙ ap (λ es. Ok (record w { trace = es; taps = map tap_of next }, record { now = bus.now; spoke = c.clear.new.self })) (sym c.cut.ensures.entries)
    ∙ ap (λ l. Ok (record w { trace = entries_of c.cut.new.self; taps = map tap_of next; limit = l }, record { now = bus.now; spoke = c.clear.new.self })) (sym c.cut.ensures.limit)
    ∙ ap (λ ts. Ok (record w { trace = entries_of c.cut.new.self; taps = map tap_of ts; limit = limit_of c.cut.new.self }, record { now = bus.now; spoke = c.clear.new.self })) (sym back)

pub returns-clause-kept : goal.returns-clause-kept
returns-clause-kept c =
    let bus = c.args.self.now in
    let items = c.deref_mut.ensures.value in
    let next = c.stop.new.taps in
    let stops = subst (λ ts. IsStopped ts c.args.tap next) items c.in_ok-stop.ensures.ok in
    let back = written-back bus.taps.len bus.taps.items next (ap length (sym items) ∙ c.deref_mut.ensures.len) (size bus c.args.tap next stops) in
    record {
      sound = sound-after (world_of bus) (Stop c.args.tap) _ _ (returns-clause-follows c) tt c.requires.sound;
      clock = c.requires.clock;
      room = omega (arith, ap length back, size bus c.args.tap next stops, c.requires.room);
      seats = subst (λ ts. AreSeated bus.params 0 (map seat_of ts)) (sym back) (seated bus c.args.tap next c.requires stops);
      cut = cut-after bus.params.ttd bus.now (map (cut_at bus.now c.args.tap)) bus.trace c.cut.new.self c.cut.ensures
          (λ m at from. from-cut bus.params.ttd m bus.now c.args.tap (recent_of bus.trace) from) c.requires.cut;
      ends = in-time (world_of bus) (Stop c.args.tap) _ _ (returns-clause-follows c) tt c.requires.clock c.requires.sound c.requires.ends;
    }

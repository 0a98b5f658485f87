use Rattle.std.proofs.Common.{◌≡◌, ◌∙◌, ap, sym, subst, refl, ℕ, List, length, map, Ok, arith, None}
use Rattle.std.specs.Prelude.{slice_get}
use Rattle.std.specs.Option.{option_map}
use Rattle.std.proofs.lemmas.List.{length-set, map-set}
use Rattle.std.proofs.lemmas.Option.{slice_get-map}
use Rattle.pb_cycles.specs.RequestFields.{RequestFields}
use Rattle.law_turn.specs.Laws.{IsRequest}
use Rattle.law_model.specs.Step.{step_queue}
use Rattle.law_model.specs.World.{Queue}
use Rattle.pb_world.specs.Buses.{world_of, IsKept}
use Rattle.pb_taps.specs.Queueing.{queued_tap, IsQueued, RefusesQueue}
use Rattle.pb_taps.specs.Taps.{tap_of, seat_of, AreSeated}
use Rattle.pb_world.specs.declared.buses.Bus.{Bus}
use Rattle.pb_taps.specs.declared.taps.Tap.{Tap}
use Rattle.pb_taps.proofs.Behind.{written-back}
use Rattle.pb_taps.proofs.Seats.{same-seats}
use Rattle.pb_world.proofs.Ending.{in-time}
use Rattle.pb_world.proofs.Judging.{queue-refused}
use Rattle.pb_world.proofs.Stepping.{in-err, sound-after, queue-done}
use Rattle.pb_world.proofs.buses.Bus.queue.Goals as goal

done : (b : Bus) (i : ℕ) (r : RequestFields) (next : List Tap) → IsQueued b.taps.items i r next
    → step_queue (world_of b) i r (slice_get (world_of b).taps i) ≡ Ok (record (world_of b) { taps = map tap_of next }, record { now = b.now; spoke = None })
done b i r next (t, at, takes, room, are) =
    let w = world_of b in
    let items = b.taps.items in
    queue-done w i r (tap_of t) (slice_get-map tap_of items i ∙ ap (option_map tap_of) at) takes room
    ∙ ap (λ ts. Ok (record w { taps = ts }, record { now = b.now; spoke = None })) (sym (map-set tap_of items i (queued_tap t r)) ∙ ap (map tap_of) (sym are))

seated : (b : Bus) (i : ℕ) (r : RequestFields) (next : List Tap) → IsKept b → IsQueued b.taps.items i r next → AreSeated b.params 0 (map seat_of next)
seated b i r next kept (t, at, takes, room, are) = subst (AreSeated b.params 0) (sym (ap (map seat_of) are ∙ same-seats b.taps.items i t (queued_tap t r) at refl)) kept.seats

size : (b : Bus) (i : ℕ) (r : RequestFields) (next : List Tap) → IsQueued b.taps.items i r next → length next ≡ length b.taps.items
size b i r next (t, at, takes, room, are) = ap length are ∙ length-set b.taps.items i _

pub returns-in_err-queue-clause-follows : goal.returns-in_err-queue-clause-follows
returns-in_err-queue-clause-follows c =
    let bus = c.args.self.now in
    let w = world_of bus in
    let items = c.deref_mut.ensures.value in
    let kept = c.in_err-queue.ensures.err in
    let back = written-back bus.taps.len bus.taps.items c.queue.new.taps (ap length (sym items) ∙ c.deref_mut.ensures.len) (ap length (kept ∙ items)) in
    let reason = c.in_err-queue.field-0.0 in
    let why = subst (λ r. RefusesQueue bus.taps.items c.args.tap r reason) c.copy.ensures (subst (λ ts. RefusesQueue ts c.args.tap c.copy.result reason) items c.in_err-queue.ensures.fault) in
    in-err _ _ c.from_residual.result reason c.from_residual.ensures.0 c.from_residual.ensures.1 (
      ap (λ ts. record w { taps = map tap_of ts }) (back ∙ kept ∙ items),
      queue-refused bus c.args.tap c.args.request.now reason why,
    )

pub returns-clause-follows : goal.returns-clause-follows
returns-clause-follows c =
    let bus = c.args.self.now in
    let w = world_of bus in
    let items = c.deref_mut.ensures.value in
    let next = c.queue.new.taps in
    let takes = subst (λ r. IsQueued bus.taps.items c.args.tap r next) c.copy.ensures (subst (λ ts. IsQueued ts c.args.tap c.copy.result next) items c.in_ok-queue.ensures.ok) in
    let back = written-back bus.taps.len bus.taps.items next (ap length (sym items) ∙ c.deref_mut.ensures.len) (size bus c.args.tap c.args.request.now next takes) in
    done bus c.args.tap c.args.request.now next takes
    ∙ ap (λ o. Ok (record w { taps = map tap_of next }, record { now = bus.now; spoke = o })) (sym c.clear.ensures)
    ∙ ap (λ ts. Ok (record w { taps = map tap_of ts }, record { now = bus.now; spoke = c.clear.new.self })) (sym back)

pub returns-clause-kept : goal.returns-clause-kept
returns-clause-kept c =
    let bus = c.args.self.now in
    let items = c.deref_mut.ensures.value in
    let next = c.queue.new.taps in
    let takes = subst (λ r. IsQueued bus.taps.items c.args.tap r next) c.copy.ensures (subst (λ ts. IsQueued ts c.args.tap c.copy.result next) items c.in_ok-queue.ensures.ok) in
    let back = written-back bus.taps.len bus.taps.items next (ap length (sym items) ∙ c.deref_mut.ensures.len) (size bus c.args.tap c.args.request.now next takes) in
    record {
      sound = sound-after (world_of bus) (Queue c.args.tap c.args.request.now) _ _ (returns-clause-follows c) (subst IsRequest c.copy.ensures c.queue.ensures.request) c.requires.sound;
      clock = c.requires.clock;
      room = omega (arith, ap length back, size bus c.args.tap c.args.request.now next takes, c.requires.room);
      seats = subst (λ ts. AreSeated bus.params 0 (map seat_of ts)) (sym back) (seated bus c.args.tap c.args.request.now next c.requires takes);
      cut = c.requires.cut;
      ends = in-time (world_of bus) (Queue c.args.tap c.args.request.now) _ _ (returns-clause-follows c) tt c.requires.clock c.requires.sound c.requires.ends;
    }

pub returns-in_err-queue-clause-request : goal.returns-in_err-queue-clause-request
returns-in_err-queue-clause-request c = subst IsRequest c.copy.ensures c.queue.ensures.request

pub returns-clause-request : goal.returns-clause-request
returns-clause-request c = subst IsRequest c.copy.ensures c.queue.ensures.request

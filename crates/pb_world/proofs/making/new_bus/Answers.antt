use Rattle.std.proofs.Common.{◌≡◌, ◌∙◌, ap, sym, subst, arith, [], map, List, ℕ, length, Ok}
use Rattle.std.proofs.lemmas.List.{length-map}
use Rattle.law_model.specs.Laws.{AllFrom}
use Rattle.law_model.specs.Medium as model
use Rattle.law_model.specs.Trace as trace
use Rattle.law_model.specs.World.{World, new_world, stopped_tap, trace_limit, unless_fault}
use Rattle.law_model.proofs.Worlds.{sound-new_world}
use Rattle.pb_medium.specs.Airs.{IsCut}
use Rattle.pb_medium.specs.Traces.{entries_of, limit_of}
use Rattle.pb_taps.specs.Taps.{spec_of, tap_of}
use Rattle.pb_world.specs.Ends.{AllBy, last_end}
use Rattle.pb_world.proofs.making.new_bus.Goals as goal

pub returns-clause-kept : goal.returns-clause-kept
returns-clause-kept c =
    let p = c.args.params in
    let specs = map spec_of c.args.specs.now in
    let taps = c.in_ok-taps.taps.items in
    let made : ℕ → List trace.Entry → List model.Tap → ℕ → World = λ now es ts limit. record { params = p; now = now; trace = es; taps = ts; limit = limit } in
    let none = c.new.ensures.empty in
    let there = c.in_ok-taps.ensures.taps in
    let new : new_world p specs ≡ Ok (made c.at.result (entries_of c.new.result) (map tap_of taps) (limit_of c.new.result))
    = ap (λ o. unless_fault o (made 0 [] (map (stopped_tap p) specs) trace_limit)) c.in_ok-check_taps.ensures.ok
    ∙ ap (λ n. Ok (made n [] (map (stopped_tap p) specs) trace_limit)) (sym c.at.ensures)
    ∙ ap (λ es. Ok (made c.at.result es (map (stopped_tap p) specs) trace_limit)) (sym none)
    ∙ ap (λ ts. Ok (made c.at.result (entries_of c.new.result) ts trace_limit)) (sym there)
    ∙ ap (λ l. Ok (made c.at.result (entries_of c.new.result) (map tap_of taps) l)) (sym c.new.ensures.limit) in
    record {
      sound = sound-new_world p specs _ c.in_ok-taps.ensures.fit (trace_limit, new);
      clock = omega (arith, c.at.ensures);
      room = omega (
        arith,
        ap length there,
        length-map taps tap_of,
        length-map specs (stopped_tap p),
        length-map c.args.specs.now spec_of,
        c.in_ok-check_taps.ensures.stations.0,
      );
      seats = c.in_ok-taps.ensures.seats;
      cut = subst (λ over. IsCut p.ttd c.at.result over (entries_of c.new.result)) (sym c.new.ensures.over) (0, omega arith, omega arith, tt, subst (AllFrom p.ttd 0) (sym none) tt);
      ends = subst (AllBy last_end) (sym none) tt;
    }

use Rattle.std.proofs.Common.{rules, ◌≡◌, ap, sym, subst, ◌∙◌, map, arith, None, Ok, List, [], ℕ}
use Rattle.std.proofs.lemmas.List.{nil_from_length, take-append-drop}
use Rattle.law_model.specs.Medium as model
use Rattle.law_model.specs.Medium.{entry_at}
use Rattle.law_model.specs.Step.{told, first_full, step_pass}
use Rattle.law_model.specs.Trace as trace
use Rattle.law_model.specs.World.{World}
use Rattle.pb_medium.specs.Airs.{air, plain}
use Rattle.pb_medium.specs.Settling.{settled}
use Rattle.pb_medium.specs.Entries.{entry_of}
use Rattle.pb_medium.specs.Traces.{entries_of, over_of, recent_of}
use Rattle.pb_world.specs.Clocks.{CanPass, IsFault}
use Rattle.pb_taps.specs.Taps.{tap_of}
use Rattle.pb_world.proofs.Elapsing.{if-ok, if-err, pass-by, silent-pass}
use Rattle.pb_world.proofs.clocks.pass.Goals as goal

pub returns-clause-ok : goal.returns-clause-ok
returns-clause-ok c =
    let w = air c.args.delay c.args.now (recent_of c.args.trace.now) c.args.taps.now in
    let to = c.in_ok-to.to in
    let can = subst (λ (es : List trace.Entry). CanPass (air c.args.delay c.args.now es c.args.taps.now) c.args.bits to) c.recent-2.ensures c.in_ok-to.ensures.ok in
    let taps = map tap_of c.args.taps.now in
    let full = ap (λ n. first_full 0 (told c.args.delay w.trace c.args.now n 0 taps)) (sym can.later) ∙ can.room in
    let after : ℕ → List model.Tap → World
    = λ n ts. record { params = plain c.args.delay; now = n; trace = map (entry_at c.args.delay ts w.trace c.args.now n) w.trace; taps = ts; limit = 0 } in
    let news = c.tell_all.ensures.told ∙ ap (λ es. told c.args.delay es c.args.now to 0 taps) c.recent-3.ensures in (
      settled c.args.delay (map tap_of c.tell_all.new.taps) c.args.now to w.trace,
      c.settle.ensures.entries,
      pass-by w c.args.bits None can.time full
          ∙ ap (λ n. Ok (after n (told c.args.delay w.trace c.args.now n 0 taps), record { now = n; spoke = None })) (sym can.later)
          ∙ ap (λ ts. Ok (after to ts, record { now = to; spoke = None })) (sym news),
    )

-- ---- where nothing is recent

pub returns-then-is_empty-clause-ok : goal.returns-then-is_empty-clause-ok
returns-then-is_empty-clause-ok c =
    let t = c.args.trace.now in
    let w = air c.args.delay c.args.now (recent_of t) c.args.taps.now in
    let taps = map tap_of c.args.taps.now in
    let none : c.recent.result.now ≡ [] = nil_from_length c.recent.result.now (search (rules, arith)) in
    let silent : recent_of t ≡ [] = sym c.recent.ensures ∙ ap (map entry_of) none in
    if-ok c.passes_to.result (λ to still.
    let can = subst (λ (es : List trace.Entry). CanPass (air c.args.delay c.args.now es c.args.taps.now) c.args.bits to) (sym silent) still in
    let full = ap (λ n. first_full 0 (told c.args.delay w.trace c.args.now n 0 taps)) (sym can.later) ∙ can.room in (
      recent_of t,
      sym (take-append-drop (over_of t) (entries_of t)),
      silent-pass w c.args.bits silent can.time full ∙ ap (λ n. Ok (record w { now = n }, record { now = n; spoke = None })) (sym can.later),
    )) c.passes_to.ensures.ok

pub returns-then-is_empty-clause-clock : goal.returns-then-is_empty-clause-clock
returns-then-is_empty-clause-clock c = if-ok c.passes_to.result (λ to can. (omega (arith, can.later), can.clock)) c.passes_to.ensures.ok

pub returns-then-is_empty-clause-fault : goal.returns-then-is_empty-clause-fault
returns-then-is_empty-clause-fault c =
    let none : c.recent.result.now ≡ [] = nil_from_length c.recent.result.now (search (rules, arith)) in
    let silent : [] ≡ recent_of c.args.trace.now = sym (ap (map entry_of) none) ∙ c.recent.ensures in
    if-err c.passes_to.result
    (λ fault is. subst (λ (es : List trace.Entry). IsFault (step_pass (air c.args.delay c.args.now es c.args.taps.now) c.args.bits) fault) silent is) c.passes_to.ensures.fault

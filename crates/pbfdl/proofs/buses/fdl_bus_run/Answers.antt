use Rattle.std.proofs.Common.{◌≡◌, Option, Some, subst, sym}
use Rattle.std.specs.Prelude.{IfSome, MatchOption}
use Rattle.pb_faults.specs.FirstFault.{first_fault}
use Rattle.pb_world.specs.declared.driven.Driven.{Driven}
use Rattle.pbfdl.specs.Buses.{run_codes, Runs}
use Rattle.pbfdl.proofs.Told.{run-kept}
use Rattle.pbfdl.proofs.buses.fdl_bus_run.Goals as goal

pub returns-clause-runs : goal.returns-clause-runs
returns-clause-runs c =
    let until = c.args.until in
    let code = c.run_to-code.result in
    let next = c.run_to-code.new.bus in
    let new = c.put.new.self.value in
    let b = c.in-Some.running.value in
    subst (λ (o : Option Driven). IfSome o (λ x. MatchOption (first_fault (run_codes x until)) (Runs x until code new) (λ n. (code ≡ n) × (new ≡ Some x)))) (sym c.in-Some.ensures.taken)
    (run-kept b next until code new c.put.ensures
    (subst (λ (x : Driven). MatchOption (first_fault (run_codes x until)) (Runs x until code (Some next)) (λ n. (code ≡ n) × (next ≡ x))) c.deref_mut.ensures.value c.run_to-code.ensures))

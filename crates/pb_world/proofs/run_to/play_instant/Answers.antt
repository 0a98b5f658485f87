-- What is played at a moment is an instant of the run.
use Rattle.std.proofs.Common.{◌≡◌, ◌∙◌, ap, subst}
use Rattle.law_runs.specs.Runs.{passing}
use Rattle.law_runs.specs.Bus.{bus}
use Rattle.pb_world.specs.RunTo.{alone_until, Happened, passes_to, Stopped}
use Rattle.pb_world.proofs.Alone.{goes-on, passes-so, stops-passing, stops-turns}
use Rattle.pb_world.proofs.Instants.{in-err}
use Rattle.pb_world.proofs.run_to.play_instant.Goals as goal

pub returns-in_err-play_turns : goal.returns-in_err-play_turns
returns-in_err-play_turns c =
    let fault = c.in_err-play_turns.field-0.0 in
    in-err _ _ c.from_residual.result fault c.from_residual.ensures.0 c.from_residual.ensures.1
    (stops-turns c.args.leg.until c.args.leg.now c.args.watched.now c.play_turns.new.watched fault c.in_err-play_turns.ensures)

pub returns-in_err-play_pass : goal.returns-in_err-play_pass
returns-in_err-play_pass c =
    let until = c.args.leg.until in
    let now = c.args.leg.now in
    let b = c.play_turns.new.watched in
    let new = c.play_pass.new.watched in
    let t = c.next_instant-next.result in
    let fault = c.in_err-play_pass.field-0.0 in
    let so : passes_to now c.unwrap_or.result ≡ passing bus (alone_until until) now t = ap (passes_to now) c.unwrap_or.ensures ∙ passes-so until now t c.next_instant-next.ensures.bounds in
    in-err _ _ c.from_residual-in_err-play_pass.result fault c.from_residual-in_err-play_pass.ensures.0 c.from_residual-in_err-play_pass.ensures.1
    (stops-passing until now c.args.watched.now b new t fault c.in_ok-play_turns.ensures c.next_instant-next.ensures.next
    (subst (λ es. Stopped now b es fault new) so c.in_err-play_pass.ensures))

pub returns : goal.returns
returns c =
    let until = c.args.leg.until in
    let now = c.args.leg.now in
    let b = c.play_turns.new.watched in
    let new = c.play_pass.new.watched in
    let t = c.next_instant-next.result in
    let so : passes_to now c.unwrap_or.result ≡ passing bus (alone_until until) now t = ap (passes_to now) c.unwrap_or.ensures ∙ passes-so until now t c.next_instant-next.ensures.bounds in
    goes-on until now c.args.watched.now b new t c.in_ok-play_turns.ensures c.next_instant-next.ensures.next c.next_instant-next.ensures.bounds
    (subst (λ es. Happened now b es new) so c.in_ok-play_pass.ensures)

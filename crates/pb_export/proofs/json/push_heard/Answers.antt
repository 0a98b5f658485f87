use Rattle.std.proofs.Common.{refl, arith}
use Rattle.pb_medium.specs.Entries.{heard_of}
use Rattle.pb_export.specs.Json.{heard_text, hearing_text}
use Rattle.pb_export.proofs.Loops.{item-step, item-end}
use Rattle.pb_export.proofs.json.push_heard.Goals as goal

pub loop-tap-preserved : goal.loop-tap-preserved
loop-tap-preserved c =
    item-step (heard_text c.args.scenario.now) (hearing_text c.args.scenario.now) c.args.heard.now c.loop-tap.tap (heard_of c.at.result) c.loop-tap.text.items c.push_hearing.new.text.items _
    (λ k y ys. refl) c.at.ensures (c.in_ok-push_hearing.ensures) c.loop-tap.invariant

pub returns : goal.returns
returns c =
    item-end (heard_text c.args.scenario.now) c.args.heard.now c.loop-tap.tap c.loop-tap.text.items _
    (λ k. refl) (omega (arith, c.loop-tap-test.false, c.len-tap-end.ensures)) c.loop-tap.invariant

use Rattle.std.proofs.Common.{◌≡◌, ◌∙◌, ap, ◌++◌, List, ℕ}
use Rattle.std.specs.Prelude.{codes}
use Rattle.pb_monitor.specs.BurstTexts.{had_last_text, measured_text}
use Rattle.pb_monitor.specs.Judge.{live}
use Rattle.pb_monitor.proofs.Appending.{front}
use Rattle.pb_monitor.proofs.reports.push_spoke.Goals as goal

pub returns : goal.returns
returns c =
    let text = c.args.text.now.items in
    let words : ℕ → List ℕ = λ longest. measured_text (codes "it spoke without claiming after a silence of ") c.args.silence (codes ", and a token in use leaves at most ") longest in
    let piece : List ℕ = words (live c.args.params.now c.args.slack) in
    let is : c.push_measured.new.text.items ≡ text ++ piece = c.in_ok-push_measured.ensures ∙ ap (λ (n : ℕ). text ++ words n) c.live.ensures in
    front c.push_had_last.result text c.push_measured.new.text.items c.push_had_last.new.text.items piece (had_last_text c.args.last) is c.push_had_last.ensures

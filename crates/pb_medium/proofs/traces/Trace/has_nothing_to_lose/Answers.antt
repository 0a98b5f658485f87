use Rattle.std.proofs.Common.{◌∙◌, ap, sym, ◌||◌, not, Bool}
use Rattle.std.specs.Prelude.{is_some}
use Rattle.std.specs.List.{list_any, position}
use Rattle.std.proofs.Math.Bool.{not-not}
use Rattle.std.proofs.lemmas.Bool.{ne_eqb}
use Rattle.law_model.specs.Trace.{begins_from}
use Rattle.pb_medium.specs.Traces.{recent_of}
use Rattle.pb_medium.proofs.Hitting.{some-placed}
use Rattle.pb_medium.proofs.traces.Trace.has_nothing_to_lose.Goals as goal

pub returns-else-tap-speaker : goal.returns-else-tap-speaker
returns-else-tap-speaker c =
    let test = begins_from c.args.now c.args.speaker in
    let recent = recent_of c.args.self.now in
    sym (not-not c.is_none.result)
    ∙ ap not (sym c.is_none.ensures ∙ ap is_some (c.begun_at_clock.ensures ∙ ap (position test) c.recent.ensures) ∙ some-placed test recent)
    ∙ ap (λ (b : Bool). b || not (list_any test recent)) (sym (ne_eqb c.args.tap c.args.speaker c.if-tap-speaker.false))

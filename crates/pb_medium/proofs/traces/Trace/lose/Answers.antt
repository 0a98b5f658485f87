use Rattle.std.proofs.Common.{◌≡◌, ◌∙◌, ap, sym, refl, Some, None, Bool, not, ◌||◌}
use Rattle.std.specs.List.{list_any, position}
use Rattle.std.proofs.lemmas.Bool.{ne_eqb}
use Rattle.law_model.specs.Trace.{begins_from, unheard_at}
use Rattle.pb_medium.specs.Entries.{entry_of}
use Rattle.pb_medium.specs.Traces.{recent_of}
use Rattle.pb_medium.proofs.Hitting.{placed, not-placed, set-behind}
use Rattle.pb_medium.proofs.traces.Trace.lose.Goals as goal

pub returns-in-Some-clause-ok : goal.returns-in-Some-clause-ok
returns-in-Some-clause-ok c =
    let t = c.args.self.now in
    let test = begins_from c.args.now c.args.speaker in
    let here : position test (recent_of t) ≡ Some c.in-Some.place = ap (position test) (sym c.recent.ensures) ∙ sym c.begun_at_clock.ensures ∙ c.in-Some.is in
    record {
      over = refl;
      limit = refl;
      entries = set-behind entry_of test (unheard_at c.args.tap) t.entries.items t.over c.in-Some.place c.lose_at.new.entry c.index_mut.result.now here t.within
          (c.lose_at.ensures ∙ ap (λ e. unheard_at c.args.tap (entry_of e)) c.index_mut.ensures.value);
    }

pub returns-in-Some-clause-found : goal.returns-in-Some-clause-found
returns-in-Some-clause-found c =
    let rest = recent_of c.args.self.now in
    let test = begins_from c.args.now c.args.speaker in
    let here : position test rest ≡ Some c.in-Some.place = ap (position test) (sym c.recent.ensures) ∙ sym c.begun_at_clock.ensures ∙ c.in-Some.is in
    ap (λ (b : Bool). b || not (list_any test rest)) (ne_eqb c.args.tap c.args.speaker c.if-tap-speaker.false) ∙ ap not (placed test rest c.in-Some.place here).1

pub returns-in-None-clause-nothing : goal.returns-in-None-clause-nothing
returns-in-None-clause-nothing c =
    let rest = recent_of c.args.self.now in
    let test = begins_from c.args.now c.args.speaker in
    let nowhere : position test rest ≡ None = ap (position test) (sym c.recent.ensures) ∙ sym c.begun_at_clock.ensures ∙ c.in-None.is in
    ap (λ (b : Bool). b || not (list_any test rest)) (ne_eqb c.args.tap c.args.speaker c.if-tap-speaker.false) ∙ ap not (not-placed test rest nowhere)

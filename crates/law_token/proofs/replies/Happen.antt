-- Events are actions, so what is promised of all actions is promised of events.
use Rattle.std.proofs.Common.{◌≡◌, List, [], ◌∷◌, map, refl, ap, ◌∙◌, None}
use Rattle.pb_timers.specs.Timers.{Params}
use Rattle.law_model.specs.Medium.{TapSpec}
use Rattle.law_model.specs.World.{World, Event}
use Rattle.law_model.specs.Step.{step, RunsTo}
use Rattle.law_model.specs.Laws.{AreEvents}
use Rattle.law_runs.specs.Premises.{Course, followed, course_of, first_broken}
use Rattle.law_token.specs.Actions.{Action, Happens, AreActions, LeadsTo, HasActed, course_by, first_broken_by}
use Rattle.law_token.specs.Promises.{HasRun}

abbrev pub happen : List Event → List Action
happen events = map Happens events

pub are_happen : (events : List Event) → AreEvents events → AreActions (happen events)
are_happen [] are = tt
are_happen (e ∷ es) are = (are.0, are_happen es are.1)

pub leads_happen : (events : List Event) (w next : World) → RunsTo w events next → LeadsTo w (happen events) next
leads_happen [] w next runs = runs
leads_happen (e ∷ es) w next runs = (runs.0, (runs.1, runs.2), leads_happen es runs.0 next runs.3)

pub acted_happen : (p : Params) (specs : List TapSpec) (events : List Event) (new w : World) → HasRun p specs events new w → HasActed p specs (happen events) new w
acted_happen p specs events new w run = record { fit = run.fit; are = are_happen events run.are; made = run.made; leads = leads_happen events new w run.runs }

-- they break the same premises
course_happen : (events : List Event) (c : Course) → course_by c (happen events) ≡ course_of c events
course_happen [] c = refl
course_happen (e ∷ es) c = course_happen es (followed c e (step c.world e))

pub broken_happen : (w : World) (events : List Event) → first_broken_by w (happen events) ≡ first_broken w events
broken_happen w events = ap (λ (c : Course). c.broken) (course_happen events (record { world = w; waited = []; broken = None }))

pub kept_happen : (w : World) (events : List Event) → first_broken w events ≡ None → first_broken_by w (happen events) ≡ None
kept_happen w events none = broken_happen w events ∙ none

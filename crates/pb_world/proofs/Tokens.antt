-- What the token theorem says of an audit.
use Rattle.std.proofs.Common.{◌∙◌, List, sym, ap}
use Rattle.std.specs.Option.{option_map}
use Rattle.pb_timers.specs.Timers.{Params}
use Rattle.law_model.specs.Medium.{TapSpec}
use Rattle.law_model.specs.World.{Event}
use Rattle.pb_world.specs.Auditing.{broken_at, Finds, IsLegalIfKept}
use Rattle.pb_world.specs.declared.findings.Audit.{Audit}

-- an audit that finds no premise broken finds a legal trace
pub legal-if-kept : (p : Params) (specs : List TapSpec) (events : List Event) (found : Audit) → Finds p specs events found → IsLegalIfKept found
legal-if-kept p specs events found finds none = finds.5 ∙ (finds.6.token (sym finds.4 ∙ ap (option_map broken_at) none)).legal

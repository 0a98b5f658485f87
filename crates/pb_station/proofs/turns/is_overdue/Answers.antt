use Rattle.std.proofs.Common.{◌∙◌, ap, sym, ℕ, ◌+◌, Bool, ◌||◌, Option}
use Rattle.law_turn.specs.Stations.{earlier, first_seen, timer_of, speaks_at}
use Rattle.pb_transitions.specs.Clocks.{is_past}
use Rattle.pb_transitions.specs.Cores.{station_of}
use Rattle.pb_station.proofs.Overdue.{past-earlier}
use Rattle.pb_station.proofs.turns.is_overdue.Goals as goal

pub returns-else-is_past : goal.returns-else-is_past
returns-else-is_past c =
    let s = station_of c.args.core.now in
    let to = c.args.now + c.args.bits in
    let acts = earlier (timer_of c.args.params.now s) (speaks_at s) in
    let seen = sym (ap (λ (o : Option ℕ). is_past c.args.lag to o) c.first_seen.ensures) ∙ sym c.is_past.ensures ∙ c.if-is_past.false in
    c.is_act_overdue.ensures ∙ sym (past-earlier c.args.lag to (first_seen c.args.inbox.now) acts ∙ ap (λ (b : Bool). b || is_past c.args.lag to acts) seen)

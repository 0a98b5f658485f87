-- The bus is never dead: events are actions.
use Rattle.law_token.proofs.replies.Happen.{happen, acted_happen, kept_happen}
use Rattle.law_live.specs.NeverDead.{NeverDead}
use Rattle.law_live.proofs.Acting.{never_dead_by_actions}

pub never_dead : NeverDead
never_dead p specs events new w valid run none = never_dead_by_actions p specs (happen events) new w valid (acted_happen p specs events new w run) (kept_happen new events none)

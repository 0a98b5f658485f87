use Rattle.std.proofs.Common.{subst, sym}
use Rattle.pb_world.specs.Settled.{ShareParams}
use Rattle.pb_world.specs.declared.buses.Bus.{Bus}
use Rattle.pb_world.specs.Buses.{IsKept}
use Rattle.pb_world.proofs.Settling.{share_params}
use Rattle.pb_world.proofs.buses.Bus.is_settled.Goals as goal

shared : (b : Bus) → IsKept b → ShareParams b.params b.taps.items
shared b kept = share_params b.params 0 b.taps.items kept.seats

pub ring_of-ring-requires-clause-params : goal.ring_of-ring-requires-clause-params
ring_of-ring-requires-clause-params c =
    subst (ShareParams c.args.self.now.params) (sym c.deref.ensures.value) (shared c.args.self.now c.requires)

pub are_well-requires-clause-params : goal.are_well-requires-clause-params
are_well-requires-clause-params c =
    subst (ShareParams c.args.self.now.params) (sym c.deref-2.ensures.value) (shared c.args.self.now c.requires)

pub some_has_token-requires-clause-params : goal.some_has_token-requires-clause-params
some_has_token-requires-clause-params c =
    subst (ShareParams c.args.self.now.params) (sym c.deref-then-are_well.ensures.value) (shared c.args.self.now c.requires)

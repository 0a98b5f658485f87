use Rattle.std.proofs.Common.{inl, refl}
use Rattle.pbfdl.proofs.bus_entries.let_go.Goals as goal

pub returns-in-Ok : goal.returns-in-Ok
returns-in-Ok c = inl (refl, c.let_go.new.self, refl, c.in-Ok.ensures.gone, c.in-Ok.ensures.count)

-- What keeps the token keeps the whole invariant.
use Rattle.law_model.specs.World.{World, Event}
use Rattle.law_token.specs.Invariant.{KeepsInvariant}
use Rattle.law_token.proofs.whole.Keeping.{Kept}
use Rattle.law_token.proofs.whole.Stays.{settled_step}

pub whole : (w : World) (e : Event) → Kept w e → KeepsInvariant w e
whole w e kept waited next reply ok is breaks i = record {
  settled = settled_step w next e reply i.keeps.fits.highest is ok i.settled;
  keeps = kept waited next reply ok is breaks i.settled i.keeps;
}

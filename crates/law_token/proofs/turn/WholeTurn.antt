-- A turn keeps the invariant.
use Rattle.std.proofs.Common.{ℕ}
use Rattle.law_model.specs.World.{World, Turn}
use Rattle.law_token.specs.Invariant.{KeepsInvariant}
use Rattle.law_token.proofs.whole.Keeping.{Kept}
use Rattle.law_token.proofs.bus.Kept.{reply-settled}
use Rattle.law_token.proofs.bus.Neighbours.{settled_below}
use Rattle.law_token.proofs.turn.SaidOctets.{says_spelled}
use Rattle.law_token.proofs.turn.Last.{turn_keeps_by}
use Rattle.law_token.proofs.whole.Joined.{whole}

turn_kept : (w : World) (k : ℕ) → Kept w (Turn k)
turn_kept w k waited next reply ok is breaks set kept =
    turn_keeps_by w k
    (λ t here run.
    let stays = set.stays k t here in
    let past = stays.past run in
    let below = settled_below w.params t.station t.marks w.now past.0 stays.sayable.0 stays.sayable.1 past.1 in
    let said = reply-settled w.params t.station t.marks w.now stays.spells in
    says_spelled w.params t.station t.marks w.now stays.sayable.0 stays.sayable.1 (record { address = below.0; next = below.1; pending = said.1.pending; reply = said.0 }))
    waited next reply ok is breaks set kept

pub turn_invariant : (w : World) (tap : ℕ) → KeepsInvariant w (Turn tap)
turn_invariant w tap = whole w (Turn tap) (turn_kept w tap)

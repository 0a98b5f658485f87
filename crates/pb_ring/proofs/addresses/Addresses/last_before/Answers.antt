use Rattle.std.proofs.Common.{◌≡◌, subst, List, ℕ, Some}
use Rattle.pb_ring.specs.AddressSets.{last_of, from_at}
use Rattle.pb_ring.proofs.WordLemmas.{before-below, before-wrapped}
use Rattle.pb_ring.proofs.addresses.Addresses.last_before.Goals as goal

pub returns-in-Some : goal.returns-in-Some
returns-in-Some c =
    subst (λ (xs : List ℕ). Some c.in-Some.below ≡ last_of (from_at c.args.address xs)) c.self.view_is
    (before-below c.self.inside.bits c.args.address c.in-Some.below c.in-Some.ensures)

pub returns-in-None : goal.returns-in-None
returns-in-None c =
    subst (λ (xs : List ℕ). c.highest_set-in-None.result ≡ last_of (from_at c.args.address xs)) c.self.view_is
    (before-wrapped c.self.inside.bits c.args.address c.highest_set-in-None.result c.in-None.ensures c.highest_set-in-None.ensures)

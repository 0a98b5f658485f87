use Rattle.std.proofs.Common.{◌≡◌, subst, List, ℕ, Some}
use Rattle.pb_ring.specs.AddressSets.{first_of, from_behind}
use Rattle.pb_ring.proofs.WordLemmas.{behind-above, behind-wrapped}
use Rattle.pb_ring.proofs.addresses.Addresses.first_behind.Goals as goal

pub returns-in-Some-clause-value : goal.returns-in-Some-clause-value
returns-in-Some-clause-value c =
    subst (λ (xs : List ℕ). Some c.in-Some.above ≡ first_of (from_behind c.args.address xs)) c.self.view_is
    (behind-above c.self.inside.bits c.args.address c.in-Some.above c.in-Some.ensures.value)

pub returns-in-None-clause-value : goal.returns-in-None-clause-value
returns-in-None-clause-value c =
    subst (λ (xs : List ℕ). c.lowest_set-in-None.result ≡ first_of (from_behind c.args.address xs)) c.self.view_is
    (behind-wrapped c.self.inside.bits c.args.address c.lowest_set-in-None.result c.in-None.ensures.value c.lowest_set-in-None.ensures.value)

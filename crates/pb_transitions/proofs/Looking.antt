-- A look into the GAP.
use Rattle.std.proofs.Common.{◌≡◌, ◌∙◌, ap, sym, ℕ, Option, Some, None, List, true}
use Rattle.pb_timers.specs.Timers.{Params}
use Rattle.pb_ring.specs.Gap.{round_after}
use Rattle.law_turn.specs.Phases.{AwaitStatus}
use Rattle.law_turn.specs.Stations.{Station}
use Rattle.law_turn.specs.Turns.{saying, status_request_octets, says_token, says_look}

-- it finds an address, which is asked
pub finds : (p : Params) (s after : Station) (now a : ℕ) (o m : Option ℕ) (spoken : Station × Option (List ℕ))
    → spoken ≡ (record (saying after now (status_request_octets a after.address)) { phase = AwaitStatus a true }, Some (status_request_octets a after.address))
    → after ≡ record s { gap = round_after o now } → o ≡ Some a → o ≡ m → spoken ≡ says_look p s m now
finds p s after now a o m spoken says looked found same =
    says
    ∙ ap (λ (x : Station). (record (saying x now (status_request_octets a x.address)) { phase = AwaitStatus a true }, Some (status_request_octets a x.address)))
    (looked ∙ ap (λ (n : Option ℕ). record s { gap = round_after n now }) found)
    ∙ ap (λ (n : Option ℕ). says_look p s n now) (sym found ∙ same)

-- it finds none, and the token goes on
pub finds_none : (p : Params) (s after : Station) (now tries : ℕ) (o m : Option ℕ) (spoken : Station × Option (List ℕ)) → spoken ≡ says_token p after tries now → tries ≡ 0
    → after ≡ record s { gap = round_after o now } → o ≡ None → o ≡ m → spoken ≡ says_look p s m now
finds_none p s after now tries o m spoken says first looked found same =
    says ∙ ap (λ (n : ℕ). says_token p after n now) first ∙ ap (λ (x : Station). says_token p x 0 now) (looked ∙ ap (λ (n : Option ℕ). record s { gap = round_after n now }) found)
    ∙ ap (λ (n : Option ℕ). says_look p s n now) (sym found ∙ same)

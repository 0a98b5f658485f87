-- A station that uses the token takes a request from its queue, or does without.
use Rattle.std.proofs.Common.{◌≡◌, ◌∙◌, ap, sym, subst, ℕ, Bool, List, Option, Some, None}
use Rattle.std.specs.Prelude.{IsSome}
use Rattle.pb_timers.specs.Timers.{Params}
use Rattle.pb_cycles.specs.RequestFields.{RequestFields}
use Rattle.law_turn.specs.Stations.{Station}
use Rattle.pb_transitions.specs.Speeches.{after_taking}
use Rattle.law_turn.specs.Turns.{says_in_use, says_high, says_low, says_no_request, says_request, high_request, low_request, high_taken, low_taken}

-- where there was none it has its receipt as before
pub received_still : (taken : Station → Station) (s after : Station) (o : Option RequestFields) → after ≡ after_taking taken s o → o ≡ None
    → IsSome s.rotation.last → IsSome after.rotation.last
received_still taken s after o is none h = subst (λ (x : Station). IsSome x.rotation.last) (sym (is ∙ ap (after_taking taken s) none)) h

pub high_said : (p : Params) (s after : Station) (asked : Bool) (now : ℕ) (o : Option RequestFields) (r : RequestFields) (spoken : Station × Option (List ℕ))
    → spoken ≡ says_request p after asked r now → after ≡ after_taking high_taken s o → o ≡ high_request s now → o ≡ Some r → spoken ≡ says_in_use p s asked now
high_said p s after asked now o r spoken says taken first is =
    says ∙ ap (λ (x : Station). says_request p x asked r now) (taken ∙ ap (after_taking high_taken s) is)
    ∙ ap (λ (x : Option RequestFields). says_high p s asked x now) (sym is ∙ first)

pub high_not_said : (p : Params) (s after : Station) (asked : Bool) (now : ℕ) (o : Option RequestFields) (spoken : Station × Option (List ℕ))
    → spoken ≡ says_low p after asked (low_request after now) now → after ≡ after_taking high_taken s o → o ≡ high_request s now → o ≡ None → spoken ≡ says_in_use p s asked now
high_not_said p s after asked now o spoken says taken first is =
    says ∙ ap (λ (x : Station). says_low p x asked (low_request x now) now) (taken ∙ ap (after_taking high_taken s) is)
    ∙ ap (λ (x : Option RequestFields). says_high p s asked x now) (sym is ∙ first)

pub low_said : (p : Params) (s after : Station) (asked : Bool) (now : ℕ) (o : Option RequestFields) (r : RequestFields) (spoken : Station × Option (List ℕ))
    → spoken ≡ says_request p after asked r now → after ≡ after_taking low_taken s o → o ≡ low_request s now → o ≡ Some r
    → spoken ≡ says_low p s asked (low_request s now) now
low_said p s after asked now o r spoken says taken first is =
    says ∙ ap (λ (x : Station). says_request p x asked r now) (taken ∙ ap (after_taking low_taken s) is)
    ∙ ap (λ (x : Option RequestFields). says_low p s asked x now) (sym is ∙ first)

pub low_not_said : (p : Params) (s after : Station) (asked : Bool) (now : ℕ) (o : Option RequestFields) (spoken : Station × Option (List ℕ))
    → spoken ≡ says_no_request p after asked now → after ≡ after_taking low_taken s o → o ≡ low_request s now → o ≡ None
    → spoken ≡ says_low p s asked (low_request s now) now
low_not_said p s after asked now o spoken says taken first is =
    says ∙ ap (λ (x : Station). says_no_request p x asked now) (taken ∙ ap (after_taking low_taken s) is)
    ∙ ap (λ (x : Option RequestFields). says_low p s asked x now) (sym is ∙ first)

-- What follows from a value, or its fault.
use Rattle.std.proofs.Common.{◌≡◌, ◌∙◌, List, [], ◌∷◌, ◌++◌, append_assoc, Result, Ok, Err, IfOk, refl, ap, sym, subst}
use Rattle.pb_scenario.specs.declared.faults.ScenarioFault.{ScenarioFault}
use Rattle.pb_scenario.specs.declared.faults.ScenarioFault.TheVariants as fault
use Rattle.pb_scenario.specs.Fields.{Fault, Tells, and_then}

pub then_ok : {X Y F : Type 0} (r : Result X F) (x : X) (f : X → Result Y F) (q : Result Y F) → r ≡ Ok x → f x ≡ q → and_then r f ≡ q
then_ok r x f q is next = ap (λ o. and_then o f) is ∙ next

pub then_tells : {X Y : Type 0} (f : ScenarioFault) (r : Result X Fault) (k : X → Result Y Fault) → Tells f r → Tells f (and_then r k)
then_tells fault.NotToml r k told = absurd told
then_tells fault.BadVersion r k told = ap (λ o. and_then o k) told
then_tells (fault.Missing p) r k told = ap (λ o. and_then o k) told
then_tells (fault.BadKind p) r k told = ap (λ o. and_then o k) told
then_tells (fault.BadValue p) r k told = ap (λ o. and_then o k) told
then_tells (fault.Unknown key) r k told = ap (λ o. and_then o k) told
then_tells (fault.Twice p) r k told = ap (λ o. and_then o k) told
then_tells (fault.NoSuchName p) r k told = ap (λ o. and_then o k) told
then_tells (fault.StepOrder p) r k told = ap (λ o. and_then o k) told
then_tells (fault.Params f) r k told = ap (λ o. and_then o k) told
then_tells fault.TooMany r k told = ap (λ o. and_then o k) told
then_tells fault.NoMemory r k told = tt

pub then_tells_next : {X Y : Type 0} (f : ScenarioFault) (r : Result X Fault) (x : X) (k : X → Result Y Fault) → r ≡ Ok x → Tells f (k x) → Tells f (and_then r k)
then_tells_next f r x k is told = subst (λ o. Tells f (and_then o k)) (let same : Ok x ≡ r = cc in same) told

-- what holds of what follows from each value
pub then-all : {X Y F : Type 0} (Q : X → Type 0) (P : Y → Type 0) (r : Result X F) (f : X → Result Y F) → IfOk r Q → ((x : X) → Q x → IfOk (f x) P) → IfOk (and_then r f) P
then-all Q P (Ok x) f q next = next x q
then-all Q P (Err fault) f q next = tt

pub then-each : {X Y F : Type 0} (P : Y → Type 0) (r : Result X F) (f : X → Result Y F) → ((x : X) → IfOk (f x) P) → IfOk (and_then r f) P
then-each P (Ok x) f next = next x
then-each P (Err fault) f next = tt

-- one more value behind others, and then the rest
pub one-more : {X F : Type 0} (before : List X) (x : X) (rest : Result (List X) F) → and_then (and_then rest (λ xs. Ok (x ∷ xs))) (λ xs. Ok (before ++ xs)) ≡ and_then rest (λ xs. Ok ((before ++ x ∷ []) ++ xs))
one-more before x (Ok xs) = ap (λ l. Ok l) (sym (append_assoc before (x ∷ []) xs))
one-more before x (Err fault) = refl

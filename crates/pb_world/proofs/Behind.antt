-- A bus whose past was let go, and the world in which that still stands.
use Rattle.std.proofs.Common.{◌≡◌, ◌∙◌, ap, sym, subst, refl, arith, length-append, ℕ, ◌+◌, ◌≤◌, ◌||◌, List, [], ◌∷◌, ◌++◌, length, get_or, Bool, if◌then◌else◌, Result, Ok}
use Rattle.law_model.specs.Trace.{Entry}
use Rattle.law_model.specs.World.{World, Event, Pass, Reply}
use Rattle.law_model.specs.Step.{step}
use Rattle.law_model.specs.Behind.{behind, all_behind, IsPast}
use Rattle.law_model.specs.Laws.{AllBegun, AllOver, AllFrom, IsSound}
use Rattle.law_model.proofs.Past.{ended-by}
use Rattle.law_runs.specs.Quiet.{is_active}
use Rattle.law_runs.proofs.Judged.{any-append}
use Rattle.law_streams.proofs.PastSteps.{step-behind}
use Rattle.pb_medium.specs.Airs.{IsCut}
use Rattle.pb_world.specs.Premises.{GoesOn, HaveHeard, IsQuiet, Knows, KnowsOf, Listens}
use Rattle.pb_world.proofs.Premising.{listens-pass, none-active, over-active}
use Rattle.std.specs.Prelude.{drop, max, OnOk}
use Rattle.std.proofs.lemmas.List.{append_assoc}
use Rattle.pb_taps.proofs.Behind.{on-ok}
use Rattle.pb_world.specs.Buses.{world_of, world_with}
use Rattle.pb_world.specs.declared.buses.Bus.{Bus}
use Rattle.pb_world.specs.declared.premises.Watch.{Watch}

-- with nothing in front it is the same
pub behind-none : (w : World) → behind [] w ≡ w
behind-none w = let same : 0 + w.limit ≡ w.limit = omega arith in ap (λ (n : ℕ). record w { limit = n }) same

pub past-none : (w : World) → IsPast [] w
past-none w = (0, omega arith, tt, from w.trace)
  where
    from : (es : List Entry) → AllFrom w.params.ttd 0 es
    from [] = tt
    from (e ∷ es) = (omega arith, from es)

begun-behind : (delay m now : ℕ) (old es : List Entry) → m ≤ now → AllOver delay m old → AllBegun now es → AllBegun now (old ++ es)
begun-behind delay m now [] es later over begun = begun
begun-behind delay m now (e ∷ old) es later over begun =
    (omega (arith, over.0, ended-by delay m e over.1, later), over.0, begun-behind delay m now old es later over.2 begun)

pub sound-behind : (old : List Entry) (w : World) → IsPast old w → IsSound w → IsSound (behind old w)
sound-behind old w (m, at, over, from) sound =
    record { begun = begun-behind w.params.ttd m w.now old w.trace at over sound.begun; in_order = sound.in_order; sayable = sound.sayable }

-- what was let go is active no more
pub active-behind : (old : List Entry) (w : World) (to tap : ℕ) → IsPast old w → is_active w.params.ttd w.now to (old ++ w.trace) tap ≡ is_active w.params.ttd w.now to w.trace tap
active-behind old w to tap (m, at, over, from) =
    any-append w.params.ttd tap w.now to old w.trace
    ∙ ap (λ (b : Bool). b || is_active w.params.ttd w.now to w.trace tap) (over-active w.params.ttd m w.now to tap old over at)

pub heard-behind : (old : List Entry) (w : World) (to : ℕ) (before after : List ℕ) → IsPast old w → HaveHeard w to before after → HaveHeard (behind old w) to before after
heard-behind old w to before after past have tap there =
    have tap there ∙ sym (ap (λ (b : Bool). if b then to else get_or before tap 0) (active-behind old w to tap past))

pub alone-behind : (old : List Entry) (w : World) (over bits : ℕ) (quiet : List ℕ) → IsPast old w → IsSound w → IsQuiet (behind old w) quiet
    → IsCut w.params.ttd w.now over w.trace → drop over w.trace ≡ [] → Listens (behind old w) (Pass bits) quiet
alone-behind old w over bits quiet past sound silent cut none =
    let to = w.now + bits in
    listens-pass (behind old w) bits to quiet quiet (sound-behind old w past sound) silent (λ ends. refl)
    (heard-behind old w to quiet quiet past (λ tap there. sym (ap (λ (b : Bool). if b then to else get_or quiet tap 0) (none-active w over to tap cut none))))

-- an event leads on behind what was let go
pub steps-behind : (old : List Entry) (w next : World) (e : Event) (reply : Reply) → IsPast old w → step w e ≡ Ok (next, reply) → step (behind old w) e ≡ Ok (behind old next, reply)
steps-behind old w next e reply past ok = step-behind old w e past ∙ ap (all_behind old) ok

-- ---- where nothing was let go

pub with-none : (bus : Bus) → world_with [] bus ≡ world_of bus
with-none bus = behind-none (world_of bus)

pub plain-known : (v : Watch) (bus : Bus) → Knows v (world_of bus) → KnowsOf v bus
plain-known v bus knows = ([], past-none (world_of bus), subst (Knows v) (sym (with-none bus)) knows)

pub plain-knows : {F : Type 0} (r : Result (Unit {0}) F) (v after : Watch) (bus next : Bus) → Knows v (world_of bus)
    → OnOk r ((old : List Entry) → IsPast old (world_of bus) → Knows v (world_with old bus) → Knows after (world_with old next)) → OnOk r (Knows after (world_of next))
plain-knows r v after bus next knows more =
    on-ok r (λ f. subst (Knows after) (with-none next) (f [] (past-none (world_of bus)) (subst (Knows v) (sym (with-none bus)) knows))) more

pub plain-stands : {F : Type 0} (r : Result (Unit {0}) F) (v after : Watch) (bus : Bus) (e : Event) → Knows v (world_of bus)
    → OnOk r ((old : List Entry) → IsPast old (world_of bus) → Knows v (world_with old bus) → GoesOn v (world_with old bus) e after) → OnOk r (GoesOn v (world_of bus) e after)
plain-stands r v after bus e knows more =
    on-ok r (λ f. subst (λ (w : World). GoesOn v w e after) (with-none bus) (f [] (past-none (world_of bus)) (subst (Knows v) (sym (with-none bus)) knows))) more

-- ---- more is let go

over-later : (delay m n : ℕ) (es : List Entry) → m ≤ n → AllOver delay m es → AllOver delay n es
over-later delay m n [] less over = tt
over-later delay m n (e ∷ es) less over = (over.0, omega (arith, less, over.1), over-later delay m n es less over.2)

over-both : (delay m : ℕ) (xs ys : List Entry) → AllOver delay m xs → AllOver delay m ys → AllOver delay m (xs ++ ys)
over-both delay m [] ys one two = two
over-both delay m (x ∷ xs) ys one two = (one.0, one.1, over-both delay m xs ys one.2 two)

from-rest : (delay m : ℕ) (xs ys : List Entry) → AllFrom delay m (xs ++ ys) → AllFrom delay m ys
from-rest delay m [] ys from = from
from-rest delay m (x ∷ xs) ys from = from-rest delay m xs ys from.1

from-both : (delay m n : ℕ) (es : List Entry) → AllFrom delay m es → AllFrom delay n es → AllFrom delay (max m n) es
from-both delay m n [] one two = tt
from-both delay m n (e ∷ es) one two = (omega (arith, one.0, two.0), from-both delay m n es one.1 two.1)

pub past-more : (old gone : List Entry) (w : World) → IsPast old (behind gone w) → IsPast gone w → IsPast (old ++ gone) w
past-more old gone w (m, at, over, from) (n, later, passed, rest) = (
  max m n,
  omega (arith, at, later),
  over-both w.params.ttd (max m n) old gone (over-later w.params.ttd m (max m n) old (omega arith) over) (over-later w.params.ttd n (max m n) gone (omega arith) passed),
  from-both w.params.ttd m n w.trace (from-rest w.params.ttd m gone w.trace from) rest,
)

pub behind-more : (old gone : List Entry) (w : World) → behind old (behind gone w) ≡ behind (old ++ gone) w
behind-more old gone w =
    let count : length old + (length gone + w.limit) ≡ length (old ++ gone) + w.limit = omega (arith, length-append old gone) in
    ap (λ es. record w { trace = es; limit = length old + (length gone + w.limit) }) (sym (append_assoc old gone w.trace))
    ∙ ap (λ n. record w { trace = (old ++ gone) ++ w.trace; limit = n }) count

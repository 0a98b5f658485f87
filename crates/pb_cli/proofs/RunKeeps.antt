-- What each event keeps of a bus, a run keeps: of the world at its end, or of the one in which it is refused an event.
use Rattle.std.proofs.Common.{◌≡◌, refl, subst, sym, ℕ, zero, suc, List, [], ◌∷◌, Option, Some, None, Result, Ok, Err}
use Rattle.law_model.specs.World.{World, Event, Reply, Fault}
use Rattle.law_model.specs.Step.{step}
use Rattle.law_runs.specs.Bus.{dues, next_change}
use Rattle.law_runs.specs.Runs.{Plan, all, and_then, ending, instant, next, on_ok, passing, run, turns, with_front}
use Rattle.law_streams.specs.Streams.{in_world, telling_bus}
use Rattle.law_streams.proofs.Following.{from-early, from_late, from_passing, from_turns}

-- an event that is accepted keeps it
abbrev pub Keeps : (World → Type 0) → Type 0
Keeps P = (w next : World) (e : Event) (reply : Reply) → P w → step w e ≡ Ok (next, reply) → P next

abbrev AtEnd : (World → Type 0) → Result World (ℕ × (World × Fault)) → Type 0
AtEnd P (Ok w) = P w
AtEnd P (Err stop) = P stop.1.0

-- it holds where a run ends
abbrev pub Ends : (World → Type 0) → Option (Result (World × List Event) (ℕ × (World × Fault))) → Type 0
Ends P None = Unit {0}
Ends P (Some (Ok end)) = P end.0
Ends P (Some (Err stop)) = P stop.1.0

all-keeps : (P : World → Type 0) → Keeps P → (now : ℕ) (es : List Event) (w : World) → P w → AtEnd P (all telling_bus now es w)
all-keeps P keeps now [] w is = is
all-keeps P keeps now (e ∷ es) w is = by (λ v is_v. all-keeps P keeps now es v is_v) (step w e) refl
  where
    by : ((v : World) → P v → AtEnd P (all telling_bus now es v)) → (o : Result (World × Reply) Fault) → step w e ≡ o
        → AtEnd P (and_then now (in_world w o) (all telling_bus now es))
    by rest (Ok after) ok = rest after.0 (keeps w after.0 e after.1 is ok)
    by rest (Err fault) ok = is

stage : (P : World → Type 0) (o : Result World (ℕ × (World × Fault))) (f : World → Option (Result (World × List Event) (ℕ × (World × Fault))))
    → AtEnd P o → ((a : World) → P a → Ends P (f a)) → Ends P (on_ok o f)
stage P (Ok a) f is rest = rest a is
stage P (Err stop) f is rest = is

front : (P : World → Type 0) (es : List Event) (o : Option (Result (World × List Event) (ℕ × (World × Fault)))) → Ends P o → Ends P (with_front es o)
front P es None is = tt
front P es (Some (Ok end)) is = is
front P es (Some (Err stop)) is = is

goes-on : (P : World → Type 0) (t : Option ℕ) (es : List Event) (d : World) (f : ℕ → World → Option (Result (World × List Event) (ℕ × (World × Fault))))
    → P d → ((at : ℕ) → Ends P (f at d)) → Ends P (ending t es d f)
goes-on P None es d f is rest = is
goes-on P (Some at) es d f is rest = front P es (f at d) (rest at)

none-left : (P : World → Type 0) (p : Plan Event) (now : ℕ) (w : World) → Ends P (run zero telling_bus p now w)
unfolding run
none-left P p now w = tt

pub run-keeps : (P : World → Type 0) → Keeps P → (k : ℕ) (p : Plan Event) (now : ℕ) (w : World) → P w → Ends P (run k telling_bus p now w)
run-keeps P keeps zero p now w is = none-left P p now w
run-keeps P keeps (suc k) p now w is =
    subst (Ends P) (sym (from-early telling_bus k p now w))
    (stage P (all telling_bus now (p.early now) w) (from_turns telling_bus k p now) (all-keeps P keeps now (p.early now) w is)
    (λ a is_a. stage P (all telling_bus now (turns telling_bus p now a) a) (from_late telling_bus k p now a) (all-keeps P keeps now (turns telling_bus p now a) a is_a)
    (λ b is_b. stage P (all telling_bus now (p.late now) b) (from_passing telling_bus k p now a) (all-keeps P keeps now (p.late now) b is_b)
    (λ c is_c.
    let t = next p now (dues c) (next_change c) in
    stage P (all telling_bus now (passing telling_bus p now t) c) (λ d. ending t (instant telling_bus p now a c) d (run k telling_bus p))
    (all-keeps P keeps now (passing telling_bus p now t) c is_c)
    (λ d is_d. goes-on P t (instant telling_bus p now a c) d (run k telling_bus p) is_d (λ at. run-keeps P keeps k p at d is_d))))))

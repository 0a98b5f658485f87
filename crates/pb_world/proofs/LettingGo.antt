-- What a bus lets go is past.
use Rattle.std.proofs.Common.{◌≡◌, ap, sym, subst, arith, ◌∙◌, ℕ, ◌+◌, ◌-◌, ◌≤◌, nat_le, List, [], ◌∷◌, ◌++◌, length, Bool, true, false, if◌then◌else◌}
use Rattle.std.specs.Prelude.{take, drop}
use Rattle.std.proofs.lemmas.Bool.{leb-true}
use Rattle.std.proofs.lemmas.List.{length-take-le, take-append-drop}
use Rattle.law_model.specs.Trace.{Entry}
use Rattle.law_model.specs.World.{World}
use Rattle.law_model.specs.Laws.{AllBegun, AllFrom}
use Rattle.law_model.specs.Behind.{behind, IsPast}
use Rattle.pb_medium.specs.Airs.{IsCut}
use Rattle.pb_medium.proofs.Closing.{begun-behind}
use Rattle.pb_world.specs.Ends.{AllBy}

-- a world without its first entries
abbrev pub without : ℕ → World → World
without gone w = record w { trace = drop gone w.trace; limit = w.limit - gone }

from-start : (delay : ℕ) (es : List Entry) → AllFrom delay 0 es
from-start delay [] = tt
from-start delay (e ∷ es) = (omega arith, from-start delay es)

whole-behind : (gone : ℕ) (w : World) → gone ≤ length w.trace → gone ≤ w.limit → w ≡ behind (take gone w.trace) (without gone w)
whole-behind gone w there room =
    let count : w.limit ≡ length (take gone w.trace) + (w.limit - gone) = omega (arith, length-take-le gone w.trace there, room) in
    ap (λ es. record w { trace = es }) (sym (take-append-drop gone w.trace)) ∙ ap (λ limit. record w { trace = take gone w.trace ++ drop gone w.trace; limit = limit }) count

-- all that are over, or none
pub lets-go : (w : World) (over : ℕ) (b : Bool) → nat_le over w.limit ≡ b → IsCut w.params.ttd w.now over w.trace
    → (w ≡ behind (take (if b then over else 0) w.trace) (without (if b then over else 0) w))
    × IsPast (take (if b then over else 0) w.trace) (without (if b then over else 0) w)
    × IsCut w.params.ttd w.now (over - (if b then over else 0)) (drop (if b then over else 0) w.trace)
lets-go w over true room (m, later, there, old, from) =
    let none : 0 ≡ over - over = omega arith in (
      whole-behind over w there (leb-true over w.limit room),
      (m, later, old, from),
      subst (λ n. IsCut w.params.ttd w.now n (drop over w.trace)) none (m, later, omega arith, tt, from),
    )
lets-go w over false room (m, later, there, old, from) =
    let all : over ≡ over - 0 = omega arith in (
      whole-behind 0 w (omega arith) (omega arith),
      (0, omega arith, tt, from-start w.params.ttd w.trace),
      subst (λ n. IsCut w.params.ttd w.now n w.trace) all (m, later, there, old, from),
    )

pub begun-rest : (now gone : ℕ) (es : List Entry) → AllBegun now es → AllBegun now (drop gone es)
begun-rest now gone es begun = begun-behind now (take gone es) (drop gone es) (subst (AllBegun now) (sym (take-append-drop gone es)) begun)

by-behind : (m : ℕ) (xs ys : List Entry) → AllBy m (xs ++ ys) → AllBy m ys
by-behind m [] ys all = all
by-behind m (x ∷ xs) ys all = by-behind m xs ys all.1

pub by-rest : (m gone : ℕ) (es : List Entry) → AllBy m es → AllBy m (drop gone es)
by-rest m gone es all = by-behind m (take gone es) (drop gone es) (subst (AllBy m) (sym (take-append-drop gone es)) all)

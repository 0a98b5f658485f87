-- What a pass tells each tap.
use Rattle.std.proofs.Common.{◌≡◌, ℕ, ◌+◌, ◌<◌, List, [], ◌∷◌, ◌++◌, map, Bool, true, if◌then◌else◌, ap, ◌∙◌, subst, arith, Some, None, Ok, zero, suc}
use Rattle.std.specs.Prelude.{slice_get}
use Rattle.std.proofs.lemmas.Bool.{eqb-false}
use Rattle.std.proofs.lemmas.Option.{none-some, same_Some}
use Rattle.law_turn.specs.Marks.{Mark, Alternates}
use Rattle.law_model.specs.Trace.{Entry}
use Rattle.law_model.specs.Medium.{Tap, sensed, marks_between, new_marks, entry_at}
use Rattle.law_model.specs.World.{World, Reply}
use Rattle.law_model.specs.Step.{told, pass_faults, step_pass}
use Rattle.law_model.specs.Laws.{is_open, IsSound, PassTells}
use Rattle.law_model.proofs.Bursts.{alternates-spans, marks_between-exact, begin_in, begins-in, one-begins, begins-none, ends-none}
use Rattle.law_model.proofs.Sensed.{solid-sensed, soon-sensed}
use Rattle.law_model.proofs.Worlds.{unless-Ok, started-at}

-- a tap that was there has its new marks behind those it had
told-at : (delay : ℕ) (trace : List Entry) (from to k : ℕ) (ts : List Tap) (i : ℕ) (t : Tap) → slice_get ts i ≡ Some t
    → slice_get (told delay trace from to k ts) i ≡ Some (record t { marks = t.marks ++ new_marks delay (k + i) t trace from to })
told-at delay trace from to k [] i t e = absurd (none-some t e)
told-at delay trace from to k (x ∷ ts) zero t e =
    let same : x ≡ t = same_Some x t e in
    let place : k ≡ k + 0 = omega arith in
    ap (λ (y : Tap). Some (record y { marks = y.marks ++ new_marks delay k y trace from to })) same
    ∙ ap (λ (n : ℕ). Some (record t { marks = t.marks ++ new_marks delay n t trace from to })) place
told-at delay trace from to k (x ∷ ts) (suc i) t e =
    let place : (k + 1) + i ≡ k + suc i = omega arith in
    told-at delay trace from to (k + 1) ts i t e ∙ ap (λ (n : ℕ). Some (record t { marks = t.marks ++ new_marks delay n t trace from to })) place

pub pass_tells : (w next : World) (reply : Reply) (d i : ℕ) (t : Tap) → IsSound w → step_pass w d ≡ Ok (next, reply) → slice_get w.taps i ≡ Some t → t.running ≡ true
    → PassTells w next i t
pass_tells w next reply d i t sound ok here running =
    let to = w.now + d in
    let taps = told w.params.ttd w.trace w.now to 0 w.taps in
    let moved : World = record w { now = to; taps = taps; trace = map (entry_at w.params.ttd w.taps w.trace w.now to) w.trace } in
    let answer : Reply = record { now = to; spoke = None } in
    let both = unless-Ok (pass_faults w d taps) (moved, answer) (next, reply) ok in
    let same : moved ≡ next = ap (λ (pair : World × Reply). pair.0) both.1 in
    let some : d ≡ 0 → ⊥ = eqb-false d 0 both.0.0 in
    let later : w.now < to = grind (arith, some) in
    let spans = sensed w.params.ttd i t.since w.trace in
    let solid = solid-sensed w.params.ttd i w.now to t.since w.trace sound.begun both.0.1.0 in
    let soon = soon-sensed w.params.ttd i w.now t.since w.trace (started-at w.now w.taps i t sound.in_order here) sound.begun in
    let runs : new_marks w.params.ttd i t w.trace w.now to ≡ marks_between w.params.ttd i t w.trace w.now to =
    ap (λ (b : Bool). if b then marks_between w.params.ttd i t w.trace w.now to else []) running in
    let exact = marks_between-exact w.params.ttd i t w.trace w.now to later solid in
    subst (λ (x : World). PassTells w x i t) same (record {
      begin = begin_in spans w.now to;
      begins = begins-in w.now to spans solid;
      no_other = one-begins w.now to spans solid;
      delivered = told-at w.params.ttd w.trace w.now to 0 w.taps i t here
          ∙ ap (λ (n : ℕ). Some (record t { marks = t.marks ++ new_marks w.params.ttd n t w.trace w.now to })) (let z : 0 + i ≡ i = omega arith in z)
          ∙ ap (λ (ms : List Mark). Some (record t { marks = t.marks ++ ms })) (runs ∙ exact);
      none_later = begins-none (w.now + w.params.ttd) spans soon;
      ends_none = ends-none w.now to spans solid;
      alternate = subst (λ (ms : List Mark). Alternates (is_open spans w.now) ms (is_open spans to)) exact (alternates-spans w.params.ttd i t w.trace w.now to spans later solid);
    })

use Rattle.std.proofs.Common.{◌≡◌, ◌∙◌, ap, sym, subst, arith, ℕ, ◌+◌, ◌-◌, ◌<◌, ◌&&◌, ◌||◌, Bool, List, ◌∷◌, map, length, false, true, refl, slice_set, replicate}
use Rattle.std.specs.Prelude.{drop, get_or}
use Rattle.std.proofs.lemmas.Bool.{and_left}
use Rattle.std.proofs.lemmas.List.{drop_all, length-map, length-set}
use Rattle.law_runs.specs.Premises.{has_namesakes}
use Rattle.pb_taps.specs.Taps.{tap_of}
use Rattle.pb_taps.specs.declared.taps.Tap.{Tap}
use Rattle.pb_taps.proofs.Items.{left-at}
use Rattle.pb_world.proofs.Premising.{RunAt, none-runs, noted-more, namesake-noted, no-namesake, namesakes-behind}
use Rattle.pb_world.proofs.premises.has_namesakes.Goals as goal
use Rattle.pb_world.proofs.premises.has_namesakes.Goals.{else-tap-via-then-tap+else-running_at-address, else-tap-via-else-tap}

-- the taps from the one before a place on
from-last : (taps : List Tap) (place : ℕ) (t : Tap) → 0 < place → place - 1 < length taps → t ≡ get_or taps (place - 1) t
    → drop (place - 1) (map tap_of taps) ≡ tap_of t ∷ drop place (map tap_of taps)
from-last taps place t some there is =
    let next : (place - 1) + 1 ≡ place = omega (arith, some) in
    left-at tap_of taps (place - 1) t there is ∙ ap (λ (n : ℕ). tap_of t ∷ drop n (map tap_of taps)) next

pub loop-place-init : goal.loop-place-init
loop-place-init c =
    let taps = c.args.taps.now in
    let none = drop_all (length taps) (map tap_of taps) (omega (arith, length-map taps tap_of)) in
    record { none = ap has_namesakes none; noted = subst (RunAt (replicate 127 false)) (sym none) none-runs; size = refl }

pub returns-then-running_at-address : goal.returns-then-running_at-address
returns-then-running_at-address c =
    let taps = c.args.taps.now in
    let place = c.loop-place.place in
    let t = c.index-taps-place.result in
    let table = c.loop-place.running_at in
    let address : c.from-address.result ≡ (tap_of t).spec.address = c.from-address.ensures ∙ c.address.ensures.value in
    let left = from-last taps place t c.loop-place-test.true (omega (arith, c.loop-place-test.true, c.loop-place.auto.place)) c.index-taps-place.is in
    let taken = ap (λ (n : ℕ). get_or table n false) (sym address) ∙ c.if-running_at-address.true in
    sym (namesakes-behind (map tap_of taps) (place - 1)
    (namesake-noted table _ (drop place (map tap_of taps)) (tap_of t) left (omega (arith, c.address.ensures.value, c.address.ensures.bound)) c.loop-place.invariant.noted c.if-tap.true taken))

untaken : (running taken : Bool) → running ≡ true → taken ≡ false → (running && taken) ≡ false
untaken running taken runs is = ap (λ (b : Bool). b && taken) runs ∙ is

pub loop-place-preserved : goal.loop-place-preserved
loop-place-preserved c =
    let taps = c.args.taps.now in
    let place = c.loop-place.place in
    let t = c.index-taps-place.result in
    let table = c.loop-place.running_at in
    let rest = drop place (map tap_of taps) in
    let address : c.from-address.result ≡ (tap_of t).spec.address = c.from-address.ensures ∙ c.address.ensures.value in
    let left = from-last taps place t c.loop-place-test.true (omega (arith, c.loop-place-test.true, c.loop-place.auto.place)) c.index-taps-place.is in
    let small : (tap_of t).spec.address < 127 = omega (arith, c.address.ensures.value, c.address.ensures.bound) in
    let free : (t.running && get_or table c.from-address.result false) ≡ false = elim c.else-tap.branch [
      | else-tap-via-then-tap+else-running_at-address w ↦ untaken t.running (get_or table c.from-address.result false) w.if-tap.true w.if-running_at-address.false
      | else-tap-via-else-tap w ↦ and_left t.running (get_or table c.from-address.result false) w.if-tap.false
    ] in
    record {
      none = no-namesake table _ rest (tap_of t) left small c.loop-place.invariant.noted
          (subst (λ (n : ℕ). (t.running && get_or table n false) ≡ false) address free) c.loop-place.invariant.none;
      noted = subst (λ (n : ℕ). RunAt (slice_set table n (get_or table n false || t.running)) (drop (place - 1) (map tap_of taps))) (sym address)
          (noted-more table _ rest (tap_of t) left (omega (arith, small, c.loop-place.invariant.size)) c.loop-place.invariant.noted);
      size = length-set table c.from-address.result _ ∙ c.loop-place.invariant.size;
    }

pub returns : goal.returns
returns c =
    let all : c.loop-place.place ≡ 0 = omega (arith, c.loop-place-test.false) in
    sym (subst (λ (n : ℕ). has_namesakes (drop n (map tap_of c.args.taps.now)) ≡ false) all c.loop-place.invariant.none)

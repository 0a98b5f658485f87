use Rattle.std.proofs.Common.{◌≡◌, ◌∙◌, ap, sym, subst, refl, arith, map, take, ◌++◌, ◌∷◌, [], ◌+◌}
use Rattle.std.proofs.lemmas.List.{length-map}
use Rattle.law_turn.specs.Spans.{Span}
use Rattle.pb_medium.specs.Entries.{entry_of}
use Rattle.pb_taps.proofs.Items.{passed-at}
use Rattle.pb_world.proofs.Legal.{ends-later, ends-more}
use Rattle.pb_world.proofs.ends.Ends.advance.Goals as goal

pub loop-place-init : goal.loop-place-init
loop-place-init c = record { here = refl; are = ends-later c.args.delay c.requires.0 c.args.moment (map entry_of c.args.earlier.now) c.args.self.now c.requires.1 c.requires.2 }

pub loop-place-preserved : goal.loop-place-preserved
loop-place-preserved c =
    let es = map entry_of c.args.earlier.now in
    let place = c.loop-place.place in
    let x = c.index-earlier-place.result in
    let here : c.loop-place.self.begun ≡ place = c.loop-place.invariant.here in
    let long = length-map c.args.earlier.now entry_of in
    let passed = passed-at entry_of c.args.earlier.now place x c.loop-place-test.true c.index-earlier-place.is in
    let more : take (c.loop-place.self.begun + 1) es ≡ take c.loop-place.self.begun es ++ entry_of x ∷ [] = subst (λ n. take (n + 1) es ≡ take n es ++ entry_of x ∷ []) (sym here) passed in
    record {
      here = refl;
      are = ends-more c.args.delay c.args.moment es (entry_of x) c.loop-place.self (record c.loop-place.self { begun = place + 1; latest = c.take_on.new.latest }) c.loop-place.invariant.are
          (ap (λ n. n + 1) (sym here)) refl (c.take_on.ensures.size ∙ c.loop-place.invariant.are.size) (omega (arith, here, long, c.loop-place-test.true)) more
          (omega (arith, c.if-begin-moment.false, c.begin.ensures, ap (λ (s : Span). s.begin) c.reaches_taps.ensures)) c.take_on.ensures.more;
    }

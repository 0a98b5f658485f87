use Rattle.std.proofs.Common.{◌≡◌, ap, sym, subst, arith, ℕ, ◌+◌, ◌<◌, List, Bool, length, get_or, nat_lt, if◌then◌else◌, ◌∙◌}
use Rattle.std.proofs.lemmas.List.{length-map}
use Rattle.law_runs.specs.Quiet.{is_active}
use Rattle.pb_world.specs.Buses.{world_of}
use Rattle.pb_taps.specs.Taps.{tap_of}
use Rattle.pb_world.specs.Premises.{IsOldest}
use Rattle.pb_world.proofs.Premising.{renewed, still-old, all-renewed, least-still, least-more}
use Rattle.pb_world.proofs.premises.listen_to.Goals as goal
use Rattle.pb_world.proofs.premises.listen_to.Goals.{then-is_heard, else-is_heard}

pub loop-tap-preserved : goal.loop-tap-preserved
loop-tap-preserved c =
    let w = world_of c.args.bus.now in
    let active = is_active w.params.ttd w.now c.args.to w.trace in
    let before = c.args.quiet.now in
    let heard : ℕ → ℕ = λ k. if active k then c.args.to else get_or before k 0 in
    let tap = c.loop-tap.tap in
    let room : tap < length c.loop-tap.quiet = omega (arith, c.loop-tap-test.true, c.len-tap-end.ensures, c.requires.room, c.loop-tap.invariant.count, c.told-quiet) in
    record {
      count = c.if-is_heard.array_long ∙ sym c.told-quiet;
      so_far = elim c.if-is_heard.branch [
        | then-is_heard v ↦ subst (λ (xs : List ℕ). (k : ℕ) → get_or xs k 0 ≡ (if nat_lt k (tap + 1) then heard k else get_or before k 0)) (sym v.quiet-is)
            (renewed heard c.loop-tap.quiet before tap c.args.to room (sym (ap (λ (b : Bool). if b then c.args.to else get_or before tap 0) (sym c.is_heard.ensures ∙ v.if-is_heard.true))) c.loop-tap.invariant.so_far)
        | else-is_heard v ↦ subst (λ (xs : List ℕ). (k : ℕ) → get_or xs k 0 ≡ (if nat_lt k (tap + 1) then heard k else get_or before k 0)) (sym v.quiet-is)
            (still-old heard c.loop-tap.quiet before tap (ap (λ (b : Bool). if b then c.args.to else get_or before tap 0) (sym c.is_heard.ensures ∙ v.if-is_heard.false)) c.loop-tap.invariant.so_far)
      ];
      oldest = least-more c.loop-tap.oldest c.min-oldest.result tap c.if-is_heard.quiet (omega (arith, c.min-oldest.ensures)) (omega (arith, c.min-oldest.ensures)) (elim c.if-is_heard.branch [
        | then-is_heard v ↦ subst (IsOldest c.loop-tap.oldest tap) (sym v.quiet-is) (least-still c.loop-tap.oldest tap c.args.to c.loop-tap.quiet c.loop-tap.invariant.oldest)
        | else-is_heard v ↦ subst (IsOldest c.loop-tap.oldest tap) (sym v.quiet-is) c.loop-tap.invariant.oldest
      ]);
    }

pub returns-clause-heard : goal.returns-clause-heard
returns-clause-heard c = λ tap there.
    let w = world_of c.args.bus.now in
    let heard : ℕ → ℕ = λ k. if is_active w.params.ttd w.now c.args.to w.trace k then c.args.to else get_or c.args.quiet.now k 0 in
    all-renewed heard c.loop-tap.quiet c.args.quiet.now c.loop-tap.tap c.loop-tap.invariant.so_far tap
    (omega (arith, there, c.loop-tap-test.false, c.len-tap-end.ensures, length-map c.args.bus.now.taps.items tap_of))

use Rattle.std.proofs.Common.{◌≡◌, ◌∙◌, ap, sym, subst, append_assoc, ◌+◌, List, [], ◌∷◌, ◌++◌, take, arith}
use Rattle.std.proofs.lemmas.List.{append-nil, take_all, take_more}
use Rattle.pb_monitor.specs.declared.heard_bursts.HeardBurst.{HeardBurst}
use Rattle.pb_cli.specs.Drawing.{IsOf}
use Rattle.pb_cli.proofs.Drawn.{one_more}
use Rattle.pb_cli.proofs.drawing.Drawing.add.Goals as goal

pub loop-burst-init : goal.loop-burst-init
loop-burst-init c = λ before is. subst (IsOf c.args.self.now) (sym (append-nil before)) is

pub loop-burst-preserved : goal.loop-burst-preserved
loop-burst-preserved c = λ before is.
    let xs = c.args.bursts.now in
    let i = c.loop-burst.burst-index in
    let x = c.burst-item.result in
    let front : take i xs ++ x ∷ [] ≡ take (i + 1) xs =
    sym (take_more xs i x (omega arith) ∙ ap (λ (y : HeardBurst). take i xs ++ y ∷ []) (sym c.burst-item.is)) in
    subst (IsOf c.add_one.new.self) (append_assoc before (take i xs) (x ∷ []) ∙ ap (λ (z : List HeardBurst). before ++ z) front)
    (one_more c.loop-burst.self c.add_one.new.self (before ++ take i xs) x c.in_ok-add_one.ensures.bursts c.in_ok-add_one.ensures.left_out (c.loop-burst.invariant before is))

pub returns : goal.returns
returns c = λ before is.
    subst (IsOf c.loop-burst.self) (ap (λ (z : List HeardBurst). before ++ z) (take_all c.loop-burst.burst-index c.args.bursts.now (omega arith))) (c.loop-burst.invariant before is)

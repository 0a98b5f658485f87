use Rattle.std.proofs.Common.{◌∙◌, ap, sym, ◌+◌, drop}
use Rattle.std.specs.Prelude.{nat_eq, ◌&&◌}
use Rattle.std.specs.Cmp.Lexicographic.{pointwise}
use Rattle.std.specs.Ordering.{on}
use Rattle.std.proofs.lemmas.Bool.{eq-eqb, ne_eqb}
use Rattle.pb_medium.specs.Comparing.{code_of}
use Rattle.pb_medium.specs.Entries.{heard_of}
use Rattle.pb_medium.proofs.Compared.{one-more}
use Rattle.pb_medium.proofs.comparing.is_heard_alike.Goals as goal

pub returns-then-code_of : goal.returns-then-code_of
returns-then-code_of c =
    let i = c.loop-tap.tap in
    let x = heard_of c.at.result in
    let y = heard_of c.at-in-loop-tap.result in
    sym (c.loop-tap.invariant
    ∙ one-more (on code_of nat_eq) c.args.one.now c.args.other.now i x y c.at.ensures c.at-in-loop-tap.ensures
    ∙ ap (λ b. b && pointwise (on code_of nat_eq) (drop (i + 1) c.args.one.now) (drop (i + 1) c.args.other.now))
    (ne_eqb (code_of x) (code_of y) (λ e. c.if-code_of.true (c.code_of.ensures ∙ e ∙ sym c.code_of-in-loop-tap.ensures))))

pub loop-tap-preserved : goal.loop-tap-preserved
loop-tap-preserved c =
    let i = c.loop-tap.tap in
    let x = heard_of c.at.result in
    let y = heard_of c.at-in-loop-tap.result in
    c.loop-tap.invariant
    ∙ one-more (on code_of nat_eq) c.args.one.now c.args.other.now i x y c.at.ensures c.at-in-loop-tap.ensures
    ∙ ap (λ b. b && pointwise (on code_of nat_eq) (drop (i + 1) c.args.one.now) (drop (i + 1) c.args.other.now))
    (eq-eqb (code_of x) (code_of y) (sym c.code_of.ensures ∙ c.if-code_of.false ∙ c.code_of-in-loop-tap.ensures))

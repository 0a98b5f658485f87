use Rattle.std.proofs.Common.{rules, arith, ◌≡◌, sym, ◌∙◌, None}
use Rattle.std.proofs.lemmas.Bool.Decides.{nat_tests}
use Rattle.pb_telegram.specs.Grammar.{sc}
use Rattle.pb_telegram.proofs.Ended.{acknowledged, one_acknowledgement}
use Rattle.pb_telegram.proofs.receiving.Receiver.is_acknowledgement.Goals as goal

pub returns-then-is_none : goal.returns-then-is_none
returns-then-is_none c =
    let r = c.args.self.now in
    let one : r.fed ≡ 1 = search rules in
    let good : r.bad ≡ None = search rules in
    let same : c.self.inside.start ≡ r.start = search rules in
    λ chars s. (
      (λ test. acknowledged r chars s one good (sym same ∙ grind (arith, nat_tests))),
      (λ spelled. let start : c.self.inside.start ≡ sc = same ∙ (one_acknowledgement r chars s spelled).2 in grind (arith, nat_tests)),
    )

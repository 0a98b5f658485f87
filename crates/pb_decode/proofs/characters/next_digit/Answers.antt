use Rattle.std.proofs.Common.{rules, ◌≡◌, ◌≤◌, ◌∙◌, ap, length, get_or, true, false, arith}
use Rattle.std.proofs.lemmas.List.{drop_all}
use Rattle.pb_decode.specs.Characters.{is_blank, digits_of}
use Rattle.pb_decode.proofs.Pairs.{digits-blank, digits-next}
use Rattle.pb_decode.proofs.characters.next_digit.Goals as goal

pub returns-then-not-is_blank-clause-next : goal.returns-then-not-is_blank-clause-next
returns-then-not-is_blank-clause-next c =
    let digit : is_blank (get_or c.args.line.now c.loop-place.place 0) ≡ false = search rules in
    c.loop-place.invariant.same ∙ digits-next c.args.line.now c.loop-place.place c.loop-place-test.true digit

pub loop-place-preserved : goal.loop-place-preserved
loop-place-preserved c =
    let blank : is_blank (get_or c.args.line.now c.loop-place.place 0) ≡ true = search rules in
    record {
      same = c.loop-place.invariant.same ∙ digits-blank c.args.line.now c.loop-place.place c.loop-place-test.true blank;
      behind = omega (arith, c.loop-place.invariant.behind);
      within = omega (arith, c.loop-place-test.true);
    }

pub returns-clause-next : goal.returns-clause-next
returns-clause-next c =
    let over : length c.args.line.now ≤ c.loop-place.place = search rules in
    c.loop-place.invariant.same ∙ ap digits_of (drop_all c.loop-place.place c.args.line.now over)

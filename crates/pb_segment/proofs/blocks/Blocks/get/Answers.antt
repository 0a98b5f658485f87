use Rattle.std.proofs.Common.{rules, arith, ◌≡◌, ◌≤◌, ◌+◌, ◌-◌, ◌*◌, ◌/◌, ◌%◌, length, sym, ap, ◌∙◌, ℕ, Some}
use Rattle.std.specs.Prelude.{slice_get}
use Rattle.std.proofs.lemmas.Grind.{elements}
use Rattle.pb_segment.specs.Blocks.{happened_in}
use Rattle.pb_segment.proofs.Placed.{at_block, at_last}
use Rattle.pb_segment.proofs.blocks.Blocks.get.Goals as goal

pub returns-in-Some : goal.returns-in-Some
returns-in-Some c =
    let b = c.args.self.now in
    let place = c.args.place in
    let block = c.in-Some.block.now in
    let here : slice_get b.full.items (place / 1024) ≡ Some block = grind (arith, elements) in
    let cut : 1024 * (place / 1024) + place % 1024 ≡ place = omega arith in
    let at : slice_get (happened_in b) place ≡ slice_get block.happened.items (place % 1024) =
    ap (λ (n : ℕ). slice_get (happened_in b) n) (sym cut) ∙ at_block b.full.items b.last.items (place / 1024) (place % 1024) block here (omega arith) in
    rw at c.at.ensures

pub returns-in-None : goal.returns-in-None
returns-in-None c =
    let b = c.args.self.now in
    let place = c.args.place in
    let n = length b.full.items in
    let over : n ≤ place / 1024 = search rules in
    let cut : 1024 * n + (place - c.len.result * 1024) ≡ place = omega (arith, c.len.ensures, over) in
    let at : slice_get (happened_in b) place ≡ slice_get b.last.items (place - c.len.result * 1024) =
    ap (λ (k : ℕ). slice_get (happened_in b) k) (sym cut) ∙ at_last b.full.items b.last.items (place - c.len.result * 1024) in
    rw at c.at-in-None.ensures

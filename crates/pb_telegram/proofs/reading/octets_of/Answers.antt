use Rattle.std.proofs.Common.{◌≡◌, ◌≤◌, ◌-◌, ◌∷◌, ◌++◌, [], length, map, get_or, take, drop, ℕ, List, arith, ap}
use Rattle.std.proofs.lemmas.Grind.{common_steps}
use Rattle.pb_telegram.specs.declared.chars.RxChar.TheVariants.{Good, Bad}
use Rattle.pb_telegram.specs.declared.chars.RxChar.{RxChar}
use Rattle.pb_telegram.proofs.reading.octets_of.Goals as goal

-- a list of which the first four are known
four_first : (left : List RxChar) (a b c d : RxChar) → 4 ≤ length left → get_or left 0 Bad ≡ a → get_or left 1 Bad ≡ b → get_or left 2 Bad ≡ c → get_or left 3 Bad ≡ d
    → left ≡ a ∷ b ∷ c ∷ d ∷ take (length left - 4) (drop 4 left)
four_first (s ∷ t ∷ u ∷ v ∷ left) a b c d whole first second third fourth = grind (arith, common_steps)
four_first left a b c d whole first second third fourth = absurd (omega arith)

-- four good characters more
four_more : (chars left more : List RxChar) (octets one two three four : List ℕ) (a b c d : ℕ) → chars ≡ map Good octets ++ left
    → left ≡ Good a ∷ Good b ∷ Good c ∷ Good d ∷ more → one ≡ octets ++ a ∷ [] → two ≡ one ++ b ∷ [] → three ≡ two ++ c ∷ [] → four ≡ three ++ d ∷ []
    → chars ≡ map Good four ++ more
four_more chars left more octets one two three four a b c d read next first second third fourth = grind (arith, common_steps)

pub loop-left-preserved : goal.loop-left-preserved
loop-left-preserved c =
    let left = c.loop-left.left.now in
    let first : get_or left 0 Bad ≡ Good c.in-Good.first = grind (arith, common_steps) in
    let second : get_or left 1 Bad ≡ Good c.in-Good.second = grind (arith, common_steps) in
    let third : get_or left 2 Bad ≡ Good c.in-Good.third = grind (arith, common_steps) in
    let fourth : get_or left 3 Bad ≡ Good c.in-Good.fourth = grind (arith, common_steps) in
    let next = four_first left _ _ _ _ c.in-Good.len_at_least first second third fourth in (
      four_more c.args.chars.now left _ c.loop-left.octets.items _ _ _ _ _ _ _ _ c.loop-left.invariant.0 next
          c.push.ensures.items c.push-in-Good.ensures.items c.push-in-Good-2.ensures.items c.push-in-Good-3.ensures.items,
      omega (arith, ap length next),
    )

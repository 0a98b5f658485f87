use Rattle.std.proofs.Common.{rules, ◌≡◌, ◌<◌, drop, Some, None, ap, sym, arith}
use Rattle.std.specs.Prelude.{is_some}
use Rattle.pb_decode.specs.Characters.{character_of, characters_of}
use Rattle.pb_decode.proofs.Pairs.{fed-start, fed-pair, fed-no_pair, fed-odd, fed-whole, fed-stands, count-more}
use Rattle.pb_decode.proofs.characters.feed_characters.Goals as goal

pub loop-high-init : goal.loop-high-init
loop-high-init c = record {
  so_far = fed-start c.args.receiver.now c.args.line.now c.requires;
  few = omega (arith, c.requires.octets.fed);
  within = omega arith;
}

no_second : (c : goal.In_default-next_digit) → characters_of c.args.line.now ≡ None
no_second c =
    let line = c.args.line.now in
    fed-odd c.loop-high.receiver c.in-Some.high line (drop c.loop-high.place line) (drop c.next_digit.new.place line)
    c.in-Some.ensures.next c.in_default-next_digit.ensures.next c.loop-high.invariant.so_far

pub returns-in_default-next_digit-clause-hex : goal.returns-in_default-next_digit-clause-hex
returns-in_default-next_digit-clause-hex c = ap is_some (sym (no_second c))

pub returns-in_default-next_digit-clause-fed : goal.returns-in_default-next_digit-clause-fed
returns-in_default-next_digit-clause-fed c = rw (no_second c) tt

pub loop-high-preserved : goal.loop-high-preserved
loop-high-preserved c =
    let line = c.args.line.now in
    let so_far = c.loop-high.invariant.so_far in
    let found : character_of c.in-Some.high c.in-Some-next_digit.low ≡ Some c.in-Some-character.char = search rules in
    let first : c.loop-high.place < c.next_digit.new.place = search rules in
    let second : c.next_digit.new.place < c.next_digit-in-Some.new.place = search rules in
    let counted = count-more c.loop-high.receiver c.feed.new.self so_far.chars c.in-Some-character.char so_far.stands
    (c.feed.ensures.stands so_far.chars so_far.stands) in
    record {
      so_far = fed-pair c.loop-high.receiver c.feed.new.self c.in-Some-character.char c.in-Some.high c.in-Some-next_digit.low line
          (drop c.loop-high.place line) (drop c.next_digit.new.place line) (drop c.next_digit-in-Some.new.place line)
          c.in-Some.ensures.next c.in-Some-next_digit.ensures.next found c.feed.ensures.stands so_far;
      few = omega (arith, c.loop-high.invariant.few, first, second, counted);
      within = c.next_digit-in-Some.ensures.within;
    }

no_character : (c : goal.In-None) → characters_of c.args.line.now ≡ None
no_character c =
    let line = c.args.line.now in
    let none : character_of c.in-Some.high c.in-Some-next_digit.low ≡ None = search rules in
    fed-no_pair c.loop-high.receiver c.in-Some.high c.in-Some-next_digit.low line
    (drop c.loop-high.place line) (drop c.next_digit.new.place line) (drop c.next_digit-in-Some.new.place line)
    c.in-Some.ensures.next c.in-Some-next_digit.ensures.next none c.loop-high.invariant.so_far

pub returns-in-None-clause-hex : goal.returns-in-None-clause-hex
returns-in-None-clause-hex c = ap is_some (sym (no_character c))

pub returns-in-None-clause-fed : goal.returns-in-None-clause-fed
returns-in-None-clause-fed c = rw (no_character c) tt

pub returns-clause-hex : goal.returns-clause-hex
returns-clause-hex c =
    ap is_some (sym (fed-whole c.loop-high.receiver c.args.line.now (drop c.loop-high.place c.args.line.now) c.in_default.ensures.next
    c.loop-high.invariant.so_far))

pub returns-clause-fed : goal.returns-clause-fed
returns-clause-fed c =
    fed-stands c.loop-high.receiver c.args.line.now (drop c.loop-high.place c.args.line.now) c.in_default.ensures.next
    c.loop-high.invariant.so_far

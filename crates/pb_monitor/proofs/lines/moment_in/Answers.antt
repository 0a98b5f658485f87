use Rattle.std.proofs.Common.{rules, ◌≡◌, ℕ, ◌+◌, ◌-◌, ◌*◌, ◌<◌, ◌≤◌, Option, None, length, get_or, sym, subst, arith}
use Rattle.std.proofs.lemmas.Int.Digits.{digits_more, digits_value_more}
use Rattle.std.proofs.lemmas.Str.{digit_value_digit}
use Rattle.std.proofs.lemmas.Str.Parse.{digit_at, digits_value-take-le}
use Rattle.pb_monitor.specs.Lines.{IsMoment}
use Rattle.pb_monitor.proofs.lines.moment_in.Goals.{then-bits-lt-MOST_BEFORE_A_DIGIT, else-bits-lt-MOST_BEFORE_A_DIGIT+in_ok-checked_mul+in_ok-bits}
use Rattle.pb_monitor.proofs.lines.moment_in.Goals as goal

pub returns-then-digit-gt9 : goal.returns-then-digit-gt9
returns-then-digit-gt9 c = λ p.
    let at = digit_at c.args.field.now c.loop-byte.byte-index p.0 (omega arith) in
    omega (arith, at.0, at.1)

pub returns-in_err-checked_mul : goal.returns-in_err-checked_mul
returns-in_err-checked_mul c =
    let f = c.args.field.now in
    let i = c.loop-byte.byte-index in
    let none : c.from_residual.result ≡ None = search rules in
    let over : 18446744073709551616 ≤ c.loop-byte.bits * 10 = search rules in
    let more = digits_value_more 10 f i (omega arith) in
    let least = digits_value-take-le 10 f (i + 1) (omega arith) in
    subst (λ (m : Option ℕ). IsMoment m f) (sym none) (λ p. omega (arith, p.1))

pub returns-in_err-bits : goal.returns-in_err-bits
returns-in_err-bits c =
    let f = c.args.field.now in
    let i = c.loop-byte.byte-index in
    let none : c.from_residual-in_err-bits.result ≡ None = search rules in
    let over : 18446744073709551616 ≤ c.loop-byte.bits * 10 + (get_or f i 0 - 48) = search rules in
    let digit = digit_value_digit (get_or f i 0) (omega arith, omega arith) in
    let more = digits_value_more 10 f i (omega arith) in
    let least = digits_value-take-le 10 f (i + 1) (omega arith) in
    subst (λ (m : Option ℕ). IsMoment m f) (sym none) (λ p. omega (arith, p.1))

pub loop-byte-preserved : goal.loop-byte-preserved
loop-byte-preserved c =
    let f = c.args.field.now in
    let i = c.loop-byte.byte-index in
    let within : i < length f = omega arith in
    let digit = digit_value_digit (get_or f i 0) (omega arith, omega arith) in
    let more = digits_value_more 10 f i within in
    let digits = digits_more 10 f i within c.loop-byte.invariant.digits (omega arith) in
    elim c.if-bits-lt-MOST_BEFORE_A_DIGIT.branch [
      | then-bits-lt-MOST_BEFORE_A_DIGIT w ↦ record { digits = digits; value = omega arith }
      | else-bits-lt-MOST_BEFORE_A_DIGIT+in_ok-checked_mul+in_ok-bits w ↦ record { digits = digits; value = omega arith }
    ]

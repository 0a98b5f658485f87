use Rattle.std.proofs.Common.{◌<◌, length, get_or, arith}
use Rattle.std.proofs.lemmas.Int.Digits.{digits_more, digits_value_more}
use Rattle.std.proofs.lemmas.Str.{digit_value_digit}
use Rattle.pb_monitor.proofs.lines.moment_before_space.Goals as goal

pub loop-place-preserved : goal.loop-place-preserved
loop-place-preserved c =
    let f = c.args.bytes.now in
    let i = c.loop-place.place in
    let within : i < length f = omega arith in
    let digit = digit_value_digit (get_or f i 0) (omega arith, omega arith) in
    let more = digits_value_more 10 f i within in
    record { digits = digits_more 10 f i within c.loop-place.invariant.digits (omega arith); value = omega arith }

use Rattle.std.proofs.Common.{rules, ◌≡◌, length, Some, arith}
use Rattle.pb_port.proofs.Copied.{sends-three}
use Rattle.pb_port.proofs.ports.copy_sent.Goals as goal

pub returns-in-Some-len3 : goal.returns-in-Some-len3
returns-in-Some-len3 c =
    let octets = c.in-Some-len3.field-0.now in
    let long : length octets ≡ 3 = omega (arith, c.in-Some-len3.len_at_least, c.in-Some-len3.len_below) in
    let sent : c.args.sent.now ≡ Some octets = search rules in
    sends-three c.args.sent.now c.args.out.now octets sent (omega (arith, c.requires)) long

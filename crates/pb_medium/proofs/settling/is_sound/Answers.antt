use Rattle.std.proofs.Common.{rules, ◌≡◌, ◌∙◌, ap, sym, ◌==◌, length, true}
use Rattle.pb_medium.specs.Entries.{record_of}
use Rattle.pb_medium.proofs.Alone.{sound-whole}
use Rattle.pb_medium.proofs.settling.is_sound.Goals as goal

pub returns-then-is_plain : goal.returns-then-is_plain
returns-then-is_plain c = λ is.
    let all : (c.sent_octets.result == length c.args.telegram.now.octets.items) ≡ true = ap (λ n. c.sent_octets.result == n) (sym c.len.ensures.value) ∙ is in
    sound-whole (record_of c.args.telegram.now) c.sent_octets.result (c.is_plain.ensures (search rules)) c.sent_octets.ensures.count c.sent_octets.ensures.bound all

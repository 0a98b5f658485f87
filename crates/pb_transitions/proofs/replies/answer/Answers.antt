use Rattle.std.proofs.Common.{rules, ◌≡◌, ◌∙◌, ap, sym, refl, false, Some, None}
use Rattle.std.specs.Option.{option_map}
use Rattle.pb_telegram.specs.Grammar.{spelling}
use Rattle.pb_cycles.specs.Messages.{message_of}
use Rattle.law_turn.specs.Stations as turn
use Rattle.pb_transitions.specs.Cores.{station_with}
use Rattle.pb_telegram.specs.Control.{type_bits}
use Rattle.pb_transitions.specs.Replies.{goes_to, reply_of}
use Rattle.pb_transitions.proofs.Responses.{answers_by, not_asked}
use Rattle.pb_transitions.proofs.replies.answer.Goals as goal

pub returns-then-not-goes_to : goal.returns-then-not-goes_to
returns-then-not-goes_to c phase queue =
    let away : goes_to c.args.kept.now.address c.args.telegram.now ≡ false = search rules in
    not_asked c.args.params.now (station_with c.args.kept.now queue phase) c.args.at (type_bits c.args.station_type) c.args.telegram.now away

pub returns-in-Some : goal.returns-in-Some
returns-in-Some c phase queue =
    let reply : turn.Reply = record { ready = c.reply_moment-ready.result; octets = c.write.result.items; joins = false } in
    answers_by c.args.params.now (station_with c.args.kept.now queue phase) c.args.at (type_bits c.args.station_type) (message_of c.args.telegram.now) c.reply_moment-ready.result c.get-ts.result c.bits-bits.result
    (Some c.write.result.items) (Some reply) (Some reply) c.answer.new.self
    refl refl (ap Some c.write.ensures ∙ ap (option_map spelling) (sym c.in-Some.is) ∙ c.answer.ensures.octets)
    c.answer.ensures.table c.reply_moment-ready.ensures c.get-ts.ensures.value c.bits-bits.ensures.value

pub returns-in_default : goal.returns-in_default
returns-in_default c phase queue =
    answers_by c.args.params.now (station_with c.args.kept.now queue phase) c.args.at (type_bits c.args.station_type) (message_of c.args.telegram.now) c.reply_moment-ready.result c.get-ts.result c.bits-bits.result
    None None (option_map reply_of c.args.kept.now.reply) c.answer.new.self
    refl refl c.in_default.ensures.octets
    c.answer.ensures.table c.reply_moment-ready.ensures c.get-ts.ensures.value c.bits-bits.ensures.value

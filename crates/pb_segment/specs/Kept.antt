-- What a seat keeps of a reply.
use Rattle.std.specs.Prelude.{None}
use Rattle.std.specs.Arc.{arc_value}
use Rattle.law_model.specs.World as model
use Rattle.pb_taps.specs.Events.{reply_of}
use Rattle.pb_segment.specs.declared.receipts.KeptReply.{KeptReply}
use Rattle.pb_segment.specs.declared.receipts.KeptReply.TheVariants as kept

-- the reply itself
abbrev pub reply_in : KeptReply → model.Reply
reply_in (kept.Silent now) = record { now = now; spoke = None }
reply_in (kept.Spoken reply) = reply_of (arc_value reply)

-- Requests that wait are equal where each of them is.
use Rattle.std.proofs.Common.{◌≡◌, Bool, Option, Some, None, List, refl, sym, ap, ◌∙◌}
use Rattle.std.specs.Bool.{Decides}
use Rattle.std.specs.Cmp.Lexicographic.{pointwise, pointwise_decides}
use Rattle.std.proofs.lemmas.Bool.Decides.{Decides-at}
use Rattle.pb_cycles.specs.RequestFields.{RequestFields}
use Rattle.std.specs.Option.{option_map}
use Rattle.pb_tokenfsm.proofs.Seen.{seen-alike}
use Rattle.law_turn.specs.Stations as turn
use Rattle.pb_transitions.specs.declared.replies.Reply.{Reply}
use Rattle.pb_transitions.specs.declared.cores.Core.{Core}
use Rattle.pb_transitions.specs.Cores.{station_of}
use Rattle.pb_transitions.specs.Replies.{reply_of}

pub requests_agree : {E : RequestFields → RequestFields → Bool} (xs ys : List RequestFields) (r : Bool) → r ≡ pointwise E xs ys
    → ((a b : RequestFields) → Decides (E a b) (a ≡ b)) → Decides r (xs ≡ ys)
requests_agree {E = E} xs ys r e decides = Decides-at r (pointwise E xs ys) e (pointwise_decides decides xs ys)

-- ---- a core is known by the station that it is

abbrev reply_from : Option turn.Reply → Option Reply
reply_from None = None
reply_from (Some r) = Some (record { ready = r.ready; octets = record { items = r.octets }; joins = r.joins })

reply_again : (r : Option Reply) → reply_from (option_map reply_of r) ≡ r
reply_again None = refl
reply_again (Some r) = refl

same_reply : (r s : Option Reply) → option_map reply_of r ≡ option_map reply_of s → r ≡ s
same_reply r s e = sym (reply_again r) ∙ ap reply_from e ∙ reply_again s

pub same_core : (c d : Core) → station_of c ≡ station_of d → c ≡ d
same_core c d e =
    let phases = seen-alike c.phase d.phase (ap (λ s. s.phase) e) in
    let replies = same_reply c.kept.reply d.kept.reply (ap (λ s. s.reply) e) in
    λ i. record {
      phase = phases i;
      kept = record {
        address = (e i).address;
        busy = (e i).busy;
        past = record { quiet = (e i).quiet; begin = (e i).own.begin; end = (e i).own.end };
        reply = replies i;
        las = (e i).las;
        gap = (e i).gap;
        rotation = (e i).rotation;
        cycles = record {
          initiator = (e i).cycles.initiator;
          responder = (e i).cycles.responder;
          last_outcome = (e i).cycles.last_outcome;
        };
      };
      waiting = (e i).cycles.queue;
    }

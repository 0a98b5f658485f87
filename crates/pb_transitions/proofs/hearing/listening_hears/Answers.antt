use Rattle.std.proofs.Common.{rules, ◌≡◌, ◌∙◌, ap, sym, ℕ, Bool, Some}
use Rattle.std.proofs.lemmas.Option.{none-some, same_Some}
use Rattle.pb_timers.specs.Timers.{Params}
use Rattle.pb_telegram.specs.Heads.{head_of}
use Rattle.pb_telegram.specs.declared.heads.Head.{Head}
use Rattle.pb_telegram.specs.declared.telegrams.Telegram.{Telegram}
use Rattle.pb_telegram.specs.declared.telegrams.Telegram.TheVariants as telegram
use Rattle.law_turn.specs.Arrivals.{Framed}
use Rattle.law_turn.specs.Hearing.{listening_hears}
use Rattle.law_turn.specs.Stations.{Station}
use Rattle.law_turn.specs.Phases as turn
use Rattle.pb_tokenfsm.specs.Phases.{is_doubled}
use Rattle.pb_transitions.specs.Arrivals.{brings, telegram_brings}
use Rattle.pb_transitions.specs.Cores.{station_with}
use Rattle.pb_transitions.specs.Replies.{fields_of}
use Rattle.pb_transitions.proofs.hearing.listening_hears.Goals as goal

-- one that listens takes of a telegram no more than its head
heard-head : (p : Params) (s : Station) (doubled : Bool) (at : ℕ) (t : Telegram) (h : Head) → head_of t ≡ Some h
    → listening_hears p s doubled at (telegram_brings t) ≡ listening_hears p s doubled at (Framed (fields_of h))
heard-head p s doubled at (telegram.Short t) h e = ap (λ x. listening_hears p s doubled at (Framed (fields_of x))) (same_Some _ h e)
heard-head p s doubled at (telegram.Var t) h e = ap (λ x. listening_hears p s doubled at (Framed (fields_of x))) (same_Some _ h e)
heard-head p s doubled at (telegram.Fixed8 t) h e = ap (λ x. listening_hears p s doubled at (Framed (fields_of x))) (same_Some _ h e)
heard-head p s doubled at (telegram.Token t) h e = absurd (none-some h e)
heard-head p s doubled at telegram.Ack h e = absurd (none-some h e)

pub returns-in-Some-Token : goal.returns-in-Some-Token
returns-in-Some-Token c queue = let h = c.listening_token.ensures queue in search rules

pub returns-in-Some-head : goal.returns-in-Some-head
returns-in-Some-head c queue =
    let p = c.args.params.now in
    let s = station_with c.args.kept.now queue (turn.Listening c.args.listening.doubled) in
    let doubled = is_doubled c.args.listening in
    let same = heard-head p s doubled c.args.at c.in-Some.telegram c.in-Some-head.head (sym c.head.ensures ∙ c.in-Some-head.is) in
    c.listening_asked.ensures queue ∙ sym (ap (λ o. listening_hears p s doubled c.args.at (brings o)) c.in-Some.is ∙ same)

-- What is appended are the next entries of the stream.
use Rattle.std.proofs.Common.{◌≡◌, ◌∙◌, length, map, ap, refl, subst, sym, ◌++◌}
use Rattle.law_model.specs.World.{World}
use Rattle.pb_medium.specs.Entries.{entry_of}
use Rattle.pb_scenario.specs.Scenarios.{ScenarioView}
use Rattle.pb_scenario.specs.Texts.{entries_text}
use Rattle.pb_world.specs.Buses.{world_of}
use Rattle.pb_stream.specs.Streams.{Appends, HasPlayed, StillHas, kept_of, names_of}
use Rattle.pb_stream.specs.declared.streams.Progress.{Progress}
use Rattle.pb_stream.specs.declared.streams.Progress.TheVariants as progress
use Rattle.pb_stream.proofs.Streaming.{let-go-rest, tells-rest}
use Rattle.pb_stream.proofs.streams.Stream.advance.Goals as goal

pub returns-in_ok-hand_on-in-Goes-clause-tells : goal.returns-in_ok-hand_on-in-Goes-clause-tells
returns-in_ok-hand_on-in-Goes-clause-tells c =
    let old = c.args.self.now in
    let mid = c.play.new.self in
    let new = c.hand_on.new.bus in
    let still : StillHas old mid = subst (λ (p : Progress). HasPlayed p old mid) c.in-Goes.is c.in_ok-end.ensures.plays in
    let (entries, text, lets) = c.in_ok-hand_on-in-Goes.ensures.handed in
    record {
      entries = entries;
      text = subst (λ names. Appends names entries c.args.text.now.items c.hand_on.new.text.items) (ap (λ (v : ScenarioView). v.names) c.once.ensures ∙ c.play.ensures.names) text;
      rest = still.rest ∙ let-go-rest mid.walk (world_of mid.bus) (world_of new) entries lets.whole lets.past;
      ready = record { kept = lets.kept; in_time = still.ready.in_time; taps = sym (ap (λ (w : World). length w.taps) lets.whole) ∙ still.ready.taps };
      names = c.play.ensures.names;
      until = still.until;
      later = still.later;
    }

pub returns-in_ok-push_trace-in_default : goal.returns-in_ok-push_trace-in_default
returns-in_ok-push_trace-in_default c =
    let old = c.args.self.now in
    let mid = c.play.new.self in
    let before = c.args.text.now.items in
    let lines = c.in_ok-push_trace-in_default.ensures
    ∙ ap (λ es. before ++ entries_text c.once-in_default.result.now.names es) c.entries.ensures
    ∙ ap (λ names. before ++ entries_text names (kept_of mid)) (ap (λ (v : ScenarioView). v.names) c.once-in_default.ensures ∙ c.play.ensures.names) in
    let both = tells-rest c.in_ok-end.end c.args.block old mid before c.push_trace.new.text.items c.in_default.not-Goes c.in_ok-end.ensures.plays lines in
    record { tells = both.0; few = both.1 }

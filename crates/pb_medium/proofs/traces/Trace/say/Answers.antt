use Rattle.std.proofs.Common.{◌∙◌, ap, refl, sym, ◌++◌}
use Rattle.std.specs.Prelude.{take}
use Rattle.law_model.specs.Step.{with_said}
use Rattle.law_model.specs.Trace.{with_entry}
use Rattle.pb_medium.specs.Entries.{entry_of}
use Rattle.pb_medium.specs.Traces.{entries_of, recent_of}
use Rattle.pb_medium.proofs.Entering.{spelt-behind}
use Rattle.pb_medium.proofs.traces.Trace.say.Goals as goal

pub returns-in-Some : goal.returns-in-Some
returns-in-Some c = λ ts taps.
    let t = c.args.self.now in
    let octets = c.in-Some.octets.now in
    record {
      over = c.put-place.ensures.becomes.over;
      limit = c.put-place.ensures.becomes.limit;
      entries = spelt-behind entry_of octets (entry_of c.sending.result) t.over (entries_of t) c.put-place.result c.put-place.new.self.entries.items c.index_mut.result.now c.spell.new.entry
          c.put-place.ensures.place c.put-place.ensures.bound c.put-place.ensures.entries c.index_mut.ensures.value c.spell.ensures
          ∙ ap (λ e. take t.over (entries_of t) ++ with_entry e (recent_of t)) (c.sending.ensures octets ts refl taps)
          ∙ ap (λ said. take t.over (entries_of t) ++ with_said c.args.speaker.tap said c.args.speaker.clock ts (recent_of t)) (sym c.in-Some.ensures.0);
    }

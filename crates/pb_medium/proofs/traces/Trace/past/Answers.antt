use Rattle.std.proofs.Common.{◌∙◌, ap, map, sym}
use Rattle.std.specs.Prelude.{take}
use Rattle.std.specs.List.{take-map}
use Rattle.pb_medium.specs.Entries.{entry_of}
use Rattle.pb_medium.specs.Traces.{entries_of}
use Rattle.pb_medium.proofs.traces.Trace.past.Goals as goal

pub returns : goal.returns
returns c =
    ap (λ xs. map entry_of (take c.gone.result xs)) c.deref.ensures.value
    ∙ sym (take-map entry_of c.gone.result c.args.self.now.entries.items)
    ∙ ap (λ n. take n (entries_of c.args.self.now)) c.gone.ensures.count

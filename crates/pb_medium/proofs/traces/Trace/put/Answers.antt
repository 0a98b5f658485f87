use Rattle.std.proofs.Common.{refl, ap, ◌∙◌, ◌+◌, map}
use Rattle.std.specs.List.{insert}
use Rattle.pb_medium.specs.Entries.{entry_of}
use Rattle.pb_medium.specs.Traces.{entries_of, place_of}
use Rattle.pb_medium.proofs.Entering.{inserted, stands-behind}
use Rattle.pb_medium.proofs.traces.Trace.put.Goals as goal

pub returns-clause-entries : goal.returns-clause-entries
returns-clause-entries c = ap (map entry_of) c.insert.ensures ∙ inserted entry_of c.args.self.now.entries.items (c.args.self.now.over + c.place_among.result) c.args.entry

pub returns-clause-becomes : goal.returns-clause-becomes
returns-clause-becomes c =
    let t = c.args.self.now in
    let e = entry_of c.args.entry in
    record {
      over = refl;
      limit = refl;
      entries = returns-clause-entries c
          ∙ ap (λ n. insert (entries_of t) (t.over + n) e) (c.place_among.ensures.place ∙ ap (place_of e) c.recent.ensures)
          ∙ stands-behind e t.over (entries_of t);
    }

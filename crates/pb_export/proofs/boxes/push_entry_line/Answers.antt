use Rattle.std.proofs.Common.{◌≡◌, ◌∙◌, ◌++◌, ap, subst, List, ℕ, map}
use Rattle.std.specs.Prelude.{OnOk}
use Rattle.std.proofs.lemmas.List.{append-nil}
use Rattle.pb_medium.specs.Entries.{entry_of}
use Rattle.pb_medium.specs.declared.entries.Entry.{Entry}
use Rattle.pb_scenario.specs.Texts.{entries_text, entry_text}
use Rattle.pb_export.proofs.boxes.push_entry_line.Goals as goal

pub returns : goal.returns
returns c =
    let names = c.args.scenario.now.names in
    let text = c.args.text.now.items in
    let is = ap (λ (es : List Entry). entries_text names (map entry_of es)) c.from_ref.ensures.value ∙ append-nil (entry_text names (entry_of c.args.entry.now)) in
    subst (λ (line : List ℕ). OnOk c.push_trace.result (c.push_trace.new.text.items ≡ text ++ line)) is c.push_trace.ensures

use Rattle.std.proofs.Common.{◌≡◌, ◌∙◌, ◌+◌, ◌++◌, ◌*◌, ℕ, List, ap, sym, map}
use Rattle.std.specs.Prelude.{codes, min, ◌/◌}
use Rattle.pb_medium.specs.Entries.{entry_of}
use Rattle.pb_export.specs.Sheets.{Sheet}
use Rattle.pb_export.specs.Times.{last_moment}
use Rattle.pb_export.specs.Marks.{happenings_in, marks_text}
use Rattle.pb_export.specs.Rosters.{lanes_of}
use Rattle.pb_export.specs.Svg.{sheet_of, traced, with_steps}
use Rattle.pb_texts.proofs.Pieces.{front, more, octets}
use Rattle.pb_export.proofs.svg.push_run.Goals as goal

pub returns : goal.returns
returns c =
    let w = c.args.window in
    let s = c.args.scenario.now in
    let es = map entry_of c.args.entries.now in
    let until = c.args.steps.until in
    let steps = happenings_in c.args.steps in
    let text = c.args.text.now.items in
    let lanes = lanes_of s.scenario.taps es in
    let sheet = sheet_of w until es lanes in
    let found : c.deref.result.now ≡ lanes = c.deref.ensures.value ∙ c.in_ok-lanes.ensures.lanes in
    let found-2 : c.deref-2.result.now ≡ lanes = c.deref-2.ensures.value ∙ c.in_ok-lanes.ensures.lanes in
    let count = c.len.ensures ∙ sym c.deref.ensures.len in
    let is : c.new-sheet.result ≡ sheet =
    c.new-sheet.ensures ∙ ap (λ (m : ℕ). record { zero = 0; from = w.from / 100 * 100; last = m; lanes = c.len.result }) c.last_moment.ensures.value
    ∙ ap (λ (n : ℕ). record { zero = 0; from = w.from / 100 * 100; last = last_moment w until es; lanes = n }) count
    ∙ ap (sheet_of w until es) found in
    let p0 : List ℕ = traced w s es sheet lanes in
    let marked : c.up_to-marked.result ≡ with_steps w until sheet =
    c.up_to-marked.ensures ∙ ap (λ (m : ℕ). record { zero = c.new-sheet.result.zero; from = c.new-sheet.result.from; last = min c.new-sheet.result.last (m + 1); lanes = c.new-sheet.result.lanes }) c.min.ensures
    ∙ ap (with_steps w until) is in
    let p1 : List ℕ = marks_text s (with_steps w until sheet) lanes steps in
    let p2 : List ℕ = codes "</svg>\n" in
    let s0 : c.push_trace.new.text.items ≡ text ++ p0 =
    c.in_ok-push_trace.ensures ∙ ap (λ (sh : Sheet). text ++ traced w s es sh c.deref.result.now) is ∙ ap (λ (ls : List ℕ). text ++ traced w s es sheet ls) found in
    let s1 : c.push_marks.new.text.items ≡ text ++ (p0 ++ p1) =
    more text c.push_trace.new.text.items c.push_marks.new.text.items p0 p1 s0
    (c.in_ok-push_marks.ensures ∙ ap (λ (sh : Sheet). c.push_trace.new.text.items ++ marks_text s sh c.deref-2.result.now steps) marked
    ∙ ap (λ (ls : List ℕ). c.push_trace.new.text.items ++ marks_text s (with_steps w until sheet) ls steps) found-2) in
    front c.extend_from_slice.result text c.push_marks.new.text.items c.extend_from_slice.new.self.items (p0 ++ p1) p2 s1
    (octets c.extend_from_slice.result c.push_marks.new.text.items c.extend_from_slice.new.self.items p2 c.extend_from_slice.ensures.items)

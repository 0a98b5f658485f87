use Rattle.std.proofs.Common.{◌≡◌, ◌∙◌, ◌-◌, ◌++◌, ap, arith, length, map, sym}
use Rattle.std.specs.Prelude.{drop, take}
use Rattle.std.specs.List.{drop-map}
use Rattle.std.proofs.lemmas.List.{length-drop}
use Rattle.std.proofs.Math.Seq.{take-append_seam}
use Rattle.pb_medium.specs.Entries.{entry_of}
use Rattle.pb_medium.specs.Traces.{entries_of}
use Rattle.pb_medium.proofs.traces.Trace.let_go.Goals as goal

pub returns : goal.returns
returns c =
    let t = c.args.self.now in
    let gone = c.gone-gone.result in
    let es = t.entries.items in
    let rest = drop gone es in
    let left : c.len.result - gone ≡ length rest = omega (arith, c.len.ensures, length-drop gone es) in
    record {
      over = ap (λ n. t.over - n) c.gone-gone.ensures.count;
      limit = ap (λ n. t.limit - n) c.gone-gone.ensures.count;
      entries =
          ap (map entry_of)
          (c.truncate.ensures.items ∙ ap (take (c.len.result - gone)) c.rotate_left.ensures.items
          ∙ ap (λ n. take n (rest ++ take gone es)) left ∙ take-append_seam rest (take gone es))
          ∙ sym (drop-map entry_of gone es) ∙ ap (λ n. drop n (entries_of t)) c.gone-gone.ensures.count;
    }

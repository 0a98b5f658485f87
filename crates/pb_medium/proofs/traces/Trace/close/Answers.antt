use Rattle.std.proofs.Common.{◌≡◌, ◌∙◌, ◌+◌, ℕ, ap, map, sym, subst}
use Rattle.std.specs.Prelude.{drop}
use Rattle.pb_medium.specs.Airs.{IsCut}
use Rattle.pb_medium.specs.Entries.{entry_of}
use Rattle.pb_medium.specs.Settling.{count_over}
use Rattle.pb_medium.specs.Traces.{entries_of}
use Rattle.pb_medium.proofs.Closing.{cut-anew}
use Rattle.pb_medium.proofs.traces.Trace.close.Goals as goal

pub returns-clause-cut : goal.returns-clause-cut
returns-clause-cut c = λ before le cut begun.
    let t = c.args.self.now in
    let delay = c.args.delay in
    let count : c.count_over.result ≡ count_over delay c.args.now (drop t.over (entries_of t)) =
    c.count_over.ensures.count ∙ ap (λ n. count_over delay n (map entry_of c.recent.result.now)) c.get.ensures.value ∙ ap (count_over delay c.args.now) c.recent.ensures in
    subst (λ (n : ℕ). IsCut delay c.args.now (t.over + n) (entries_of t)) (sym count)
    (cut-anew delay before c.args.now t.over (entries_of t) le cut begun)

use Rattle.std.proofs.Common.{◌≡◌, ◌∙◌, ap, sym, subst, ℕ, map}
use Rattle.std.specs.List.{list_all}
use Rattle.law_rings.specs.Settled.{is_over}
use Rattle.pb_medium.specs.Airs.{IsCut}
use Rattle.pb_medium.specs.Entries.{entry_of}
use Rattle.pb_medium.specs.Traces.{entries_of, over_of, recent_of}
use Rattle.pb_world.specs.Buses.{IsKept}
use Rattle.pb_world.specs.declared.buses.Bus.{Bus}
use Rattle.pb_world.proofs.Settling.{recent_is_all}
use Rattle.pb_world.proofs.buses.Bus.is_clear.Goals as goal

-- without a delay the recent entries stand for all
recent : (b : Bus) → IsKept b → b.params.ttd ≡ 0
    → list_all (is_over b.params.ttd b.now) (recent_of b.trace) ≡ list_all (is_over b.params.ttd b.now) (entries_of b.trace)
recent b kept none =
    subst (λ (d : ℕ). list_all (is_over d b.now) (recent_of b.trace) ≡ list_all (is_over d b.now) (entries_of b.trace)) (sym none)
    (recent_is_all b.now (over_of b.trace) (entries_of b.trace) (subst (λ (d : ℕ). IsCut d b.now (over_of b.trace) (entries_of b.trace)) none kept.cut))

pub returns-then-delay-eq0 : goal.returns-then-delay-eq0
returns-then-delay-eq0 c =
    let b = c.args.self.now in
    c.are_over.ensures
    ∙ ap (λ (d : ℕ). list_all (is_over d b.now) (map entry_of c.recent.result.now)) c.ttd-delay.ensures
    ∙ ap (list_all (is_over b.params.ttd b.now)) c.recent.ensures
    ∙ recent b c.requires (sym c.ttd-delay.ensures ∙ c.if-delay-eq0.true)

use Rattle.std.proofs.Common.{◌≡◌, ◌∙◌, ◌+◌, ◌-◌, ◌++◌, ℕ, List, None, Option, ap, sym, map}
use Rattle.std.specs.Prelude.{drop, take}
use Rattle.std.specs.List.{flat_map}
use Rattle.law_model.specs.Trace.{Entry}
use Rattle.pb_medium.specs.Entries.{entry_of}
use Rattle.pb_export.specs.declared.levels.Level.{Level}
use Rattle.pb_export.specs.declared.levels.Level.TheVariants.{High}
use Rattle.pb_export.specs.Levels.{bus_at, bus_from}
use Rattle.pb_export.specs.Vcd.{entry_change, level_change, name_change, named_at, named_from, stamped}
use Rattle.pb_export.proofs.Around.{part_of}
use Rattle.pb_export.proofs.Waving.{bus-seen, lines-seen, named-seen}
use Rattle.pb_export.proofs.waves.push_moment.Goals as goal

pub returns-clause-level : goal.returns-clause-level
returns-clause-level c =
    let entries = c.args.entries.now in
    let first = c.over_until-first.result in
    let next = c.begun_until-next.result in
    c.level_of-level.ensures ∙ ap (λ (z : List Entry). bus_from c.args.dump.window High z c.args.now) (part_of (next - first) first entries)
    ∙ sym (bus-seen c.args.dump.window c.args.now first next (map entry_of entries) c.over_until-first.ensures.bound c.over_until-first.ensures.over c.begun_until-next.ensures.to_come)

pub returns-clause-named : goal.returns-clause-named
returns-clause-named c =
    let entries = c.args.entries.now in
    let first = c.over_until-first.result in
    let next = c.begun_until-next.result in
    c.named_in-named.ensures ∙ ap (λ (z : List Entry). named_from c.args.dump.window c.args.now (c.args.batch.first + first) None z) (part_of (next - first) first entries)
    ∙ sym (named-seen c.args.dump.window c.args.now c.args.batch.first first next (map entry_of entries) c.over_until-first.ensures.bound c.over_until-first.ensures.over c.begun_until-next.ensures.to_come)

pub returns-clause-text : goal.returns-clause-text
returns-clause-text c =
    let entries = c.args.entries.now in
    let es = map entry_of entries in
    let w = c.args.dump.window in
    let t = c.args.now in
    let place = c.args.place in
    let first = c.over_until-first.result in
    let next = c.begun_until-next.result in
    let level = c.level_of-level.result in
    let named = c.named_in-named.result in
    let lines = flat_map (entry_change w t) es in
    let s0 : c.push_lines.new.changes.items ≡ lines =
    c.in_ok-push_lines.ensures ∙ ap (λ (z : List ℕ). z ++ flat_map (entry_change w t) (map entry_of (take (next - first) (drop first entries)))) c.new-changes.ensures.items
    ∙ ap (λ (z : List Entry). flat_map (entry_change w t) z) (part_of (next - first) first entries)
    ∙ sym (lines-seen w t first next es c.over_until-first.ensures.bound c.over_until-first.ensures.over c.begun_until-next.ensures.to_come) in
    let s1 : c.push_level.new.changes.items ≡ lines ++ level_change place.level (bus_at w es t) =
    c.in_ok-push_level.ensures ∙ ap (λ (z : List ℕ). z ++ level_change place.level level) s0
    ∙ ap (λ (l : Level). lines ++ level_change place.level l) (returns-clause-level c) in
    let strings = c.args.dump.strings in
    let base = c.args.batch.first in
    let s2 : c.push_named.new.changes.items ≡ lines ++ level_change place.level (bus_at w es t) ++ name_change strings base es place.named (named_at w base es t) =
    c.in_ok-push_named.ensures ∙ ap (λ (z : List ℕ). z ++ name_change strings base es place.named named) s1
    ∙ ap (λ (n : Option ℕ). lines ++ level_change place.level (bus_at w es t) ++ name_change strings base es place.named n) (returns-clause-named c) in
    c.in_ok-push_stamped.ensures ∙ ap (λ (z : List ℕ). c.args.text.now.items ++ stamped c.args.dump.baud t z) (c.deref.ensures.value ∙ s2)

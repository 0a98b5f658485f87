-- One tap more is read, or the first fault ends the reading.
use Rattle.std.proofs.Common.{arith, ◌≡◌, ◌∙◌, ◌+◌, ◌++◌, ◌∷◌, [], Ok, drop, length, map, ap, sym, subst, length-append}
use Rattle.std.proofs.lemmas.List.{length-map}
use Rattle.toml.specs.View.{items_view}
use Rattle.pb_taps.specs.Taps.{spec_of}
use Rattle.pb_scenario.specs.Scenarios.{names_of}
use Rattle.pb_scenario.specs.Fields.{Tells, and_then}
use Rattle.pb_scenario.specs.Tables.{members, tap_of, taps_of}
use Rattle.pb_scenario.specs.Files.{most_taps, tap_in, taps_from}
use Rattle.pb_scenario.proofs.Listing.{few-items, many-items, no-tap, bad-tap, tap-read, taps-read, tap-added, count-names, on-ok}
use Rattle.pb_scenario.proofs.Moving.{in-err}
use Rattle.pb_scenario.proofs.taps.taps_in.Goals as goal

pub returns-then-items-most_taps-clause-taps : goal.returns-then-items-most_taps-clause-taps
returns-then-items-most_taps-clause-taps c = many-items (most_taps c.args.version) c.args.items.now _ (omega (arith, c.if-items-most_taps.true, c.most_taps.ensures))

pub returns-in_err-fields-clause-taps : goal.returns-in_err-fields-clause-taps
returns-in_err-fields-clause-taps c =
    let vs = c.args.items.now in
    let l = c.loop-tap in
    let f = c.in_err-fields.field-0.0 in
    let whole = few-items (most_taps c.args.version) vs (taps_from c.args.version [] 0 (items_view vs)) (omega (arith, c.if-items-most_taps.false, c.most_taps.ensures)) ∙ l.invariant.taps in
    in-err _ _ c.from_residual.result f c.from_residual.ensures.0 c.from_residual.ensures.1
    (subst (λ r. Tells f r) (sym whole)
    (no-tap c.args.version (names_of l.taps.names.keys) l.tap vs c.index-items-tap.result c.loop-tap-test.true c.index-items-tap.is f (taps_of l.taps) c.in_err-fields.ensures.members))

pub returns-in_err-added-clause-taps : goal.returns-in_err-added-clause-taps
returns-in_err-added-clause-taps c =
    let vs = c.args.items.now in
    let l = c.loop-tap in
    let names = names_of l.taps.names.keys in
    let f = c.in_err-added.field-0.0 in
    let fields = c.in_ok-fields.fields in
    let whole = few-items (most_taps c.args.version) vs (taps_from c.args.version [] 0 (items_view vs)) (omega (arith, c.if-items-most_taps.false, c.most_taps.ensures)) ∙ l.invariant.taps in
    let told = subst (λ at. Tells f (tap_in c.args.version names at (members fields))) c.in_ok-fields.ensures.section c.in_err-added.ensures.tap in
    in-err _ _ c.from_residual-in_err-added.result f c.from_residual-in_err-added.ensures.0 c.from_residual-in_err-added.ensures.1
    (subst (λ r. Tells f r) (sym whole)
    (bad-tap c.args.version names l.tap vs c.index-items-tap.result c.loop-tap-test.true c.index-items-tap.is f (members fields) (taps_of l.taps) c.in_ok-fields.ensures.members told))

pub loop-tap-preserved : goal.loop-tap-preserved
loop-tap-preserved c =
    let vs = c.args.items.now in
    let l = c.loop-tap in
    let i = l.tap in
    let old = names_of l.taps.names.keys in
    let specs = map spec_of l.taps.specs.items in
    let new = c.add.new.self in
    let t = tap_of c.in_ok-added.added in
    let fields = c.in_ok-fields.fields in
    let read = subst (λ at. tap_in c.args.version old at (members fields) ≡ Ok t) c.in_ok-fields.ensures.section c.in_ok-added.ensures.tap in
    let names : names_of new.names.keys ≡ old ++ t.name ∷ [] = on-ok _ c.add.result c.add.ensures.names c.if-is_err.ensures.value in
    let known : map spec_of new.specs.items ≡ specs ++ t.spec ∷ [] = on-ok _ c.add.result c.add.ensures.specs c.if-is_err.ensures.value in
    let as_many : length old ≡ length specs = count-names l.taps.names.keys ∙ l.invariant.named ∙ sym (length-map l.taps.specs.items spec_of) in
    let added : taps_of new ≡ taps_of l.taps ++ t ∷ [] = tap-added old (names_of new.names.keys) specs (map spec_of new.specs.items) t as_many names known in
    record {
      taps = l.invariant.taps
          ∙ tap-read c.args.version old i vs c.index-items-tap.result c.loop-tap-test.true c.index-items-tap.is (members fields) t (taps_of l.taps) c.in_ok-fields.ensures.members read
          ∙ ap (λ ns. and_then (taps_from c.args.version ns (i + 1) (items_view (drop (i + 1) vs))) (λ ts. Ok ((taps_of l.taps ++ t ∷ []) ++ ts))) (sym names)
          ∙ ap (λ before. and_then (taps_from c.args.version (names_of new.names.keys) (i + 1) (items_view (drop (i + 1) vs))) (λ ts. Ok (before ++ ts))) (sym added);
      named = sym (count-names new.names.keys) ∙ ap length names ∙ length-append old (t.name ∷ []) ∙ ap (λ n. n + 1) as_many ∙ sym (length-append specs (t.spec ∷ []))
          ∙ ap length (sym known) ∙ length-map new.specs.items spec_of;
    }

pub returns-clause-taps : goal.returns-clause-taps
returns-clause-taps c =
    let vs = c.args.items.now in
    let l = c.loop-tap in
    few-items (most_taps c.args.version) vs (taps_from c.args.version [] 0 (items_view vs)) (omega (arith, c.if-items-most_taps.false, c.most_taps.ensures)) ∙ l.invariant.taps ∙ taps-read c.args.version (names_of l.taps.names.keys) l.tap vs (taps_of l.taps) c.loop-tap-test.false

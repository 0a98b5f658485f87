use Rattle.std.proofs.Common.{◌≡◌, ◌∙◌, ap, sym, arith, ℕ, ◌+◌, List, Some, Bool, drop}
use Rattle.std.specs.Prelude.{◌||◌, slice_get}
use Rattle.std.specs.List.{list_any}
use Rattle.std.proofs.lemmas.List.{drop_all}
use Rattle.law_model.specs.Trace.{Heard}
use Rattle.pb_medium.specs.Entries.{heard_of}
use Rattle.pb_export.specs.Boxes.{is_damaged}
use Rattle.pb_export.proofs.boxes.has_damage.Goals as goal
use Rattle.pb_texts.proofs.Taps.{dropped}

-- the test of those from one on
from_one : (hs : List Heard) (i : ℕ) (h : Heard) (b : Bool) → slice_get hs i ≡ Some h → b ≡ is_damaged h
    → list_any is_damaged (drop i hs) ≡ (b || list_any is_damaged (drop (i + 1) hs))
from_one hs i h b here is =
    ap (list_any is_damaged) (dropped hs i h here) ∙ ap (λ (t : Bool). t || list_any is_damaged (drop (i + 1) hs)) (sym is)

pub returns-then-is_damaged : goal.returns-then-is_damaged
returns-then-is_damaged c =
    let rest = list_any is_damaged (drop (c.loop-tap.tap + 1) c.args.heard.now) in
    sym (sym c.loop-tap.invariant ∙ from_one c.args.heard.now c.loop-tap.tap (heard_of c.at.result) c.is_damaged.result c.at.ensures c.is_damaged.ensures
    ∙ ap (λ (t : Bool). t || rest) c.if-is_damaged.true)

pub loop-tap-preserved : goal.loop-tap-preserved
loop-tap-preserved c =
    let rest = list_any is_damaged (drop (c.loop-tap.tap + 1) c.args.heard.now) in
    sym (from_one c.args.heard.now c.loop-tap.tap (heard_of c.at.result) c.is_damaged.result c.at.ensures c.is_damaged.ensures
    ∙ ap (λ (t : Bool). t || rest) c.if-is_damaged.false) ∙ c.loop-tap.invariant

pub returns : goal.returns
returns c =
    sym (ap (list_any is_damaged) (drop_all c.loop-tap.tap c.args.heard.now (omega (arith, c.loop-tap-test.false, c.len-tap-end.ensures)))) ∙ c.loop-tap.invariant

use Rattle.std.proofs.Common.{◌≡◌, ◌∙◌, ap, sym, subst, arith, ◌+◌, ◌++◌, List, ℕ, Bool, Some, Vec, Global}
use Rattle.std.specs.Prelude.{slice_get, drop}
use Rattle.law_model.specs.Medium.{TapSpec}
use Rattle.pb_timers.specs.Timers.{Params}
use Rattle.pb_taps.specs.Taps.{spec_of}
use Rattle.pb_taps.proofs.Items.{item-at}
use Rattle.pb_texts.specs.Texts.{master_object, master_objects}
use Rattle.pb_texts.proofs.Taps.{objects-master, objects-other}
use Rattle.pb_texts.proofs.json.push_objects.Goals as goal
use Rattle.pb_texts.proofs.json.push_objects.Goals.{then-is_master+in_ok-push_comma+in_ok-push_master, else-is_master}

pub loop-tap-preserved : goal.loop-tap-preserved
loop-tap-preserved c =
    let s = c.args.scenario.now in
    let baud = c.args.baud in
    let i = c.loop-tap.tap in
    let taps = c.taps-taps.result.now in
    let t = c.index-taps-tap.result in
    let name = c.name-name.result.now in
    let before = c.loop-tap.text.items in
    let at : slice_get s.scenario.taps i ≡ Some (spec_of t) =
    subst (λ (xs : List TapSpec). slice_get xs i ≡ Some (spec_of t)) c.taps-taps.ensures.specs (item-at spec_of taps i t (omega (arith, c.loop-tap-test.true)) c.index-taps-tap.is) in
    let rest : Bool → List ℕ = λ b. master_objects baud s.scenario.params b (drop (i + 1) s.names) (drop (i + 1) s.scenario.taps) in
    elim c.if-is_master.branch [
      | then-is_master+in_ok-push_comma+in_ok-push_master w ↦
          ap (λ (x : Vec ℕ Global). x.items ++ rest c.if-is_master.is_behind) w.text-is
          ∙ ap (λ (b : Bool). w.push_master.new.text.items ++ rest b) w.is_behind-is
          ∙ objects-master baud s.scenario.params c.loop-tap.is_behind s.names s.scenario.taps i name (spec_of t) before w.push_comma.new.text.items w.push_master.new.text.items _ c.name-name.ensures at
          (sym c.is_master.ensures ∙ w.if-is_master.true) w.in_ok-push_comma.ensures
          (w.in_ok-push_master.ensures ∙ ap (λ (p : Params). w.push_comma.new.text.items ++ master_object baud p name t.address) w.params.ensures) c.loop-tap.invariant
      | else-is_master w ↦
          ap (λ (x : Vec ℕ Global). x.items ++ rest c.if-is_master.is_behind) w.text-is
          ∙ ap (λ (b : Bool). before ++ rest b) w.is_behind-is
          ∙ objects-other baud s.scenario.params c.loop-tap.is_behind s.names s.scenario.taps i name (spec_of t) before _ c.name-name.ensures at
          (sym c.is_master.ensures ∙ w.if-is_master.false) c.loop-tap.invariant
    ]

use Rattle.std.proofs.Common.{◌≡◌, ◌∙◌, ap, sym, subst, ◌++◌, List, [], ℕ, Bool, if◌then◌else◌}
use Rattle.std.specs.Prelude.{codes, OnOk}
use Rattle.law_rings.specs.Rotation.{rotation_time}
use Rattle.pb_texts.proofs.Pieces.{front, last, not_zero}
use Rattle.pb_texts.specs.Bounds.{beyond_ttr}
use Rattle.pb_texts.specs.declared.numbers.Rounding.TheVariants.{Up}
use Rattle.pb_texts.specs.Texts.{number_line}
use Rattle.pb_texts.proofs.texts.push_rotation.Goals as goal

pub returns : goal.returns
returns c =
    let baud = c.args.baud in
    let text = c.args.text.now.items in
    let line : List ℕ → ℕ → List ℕ = λ title n. number_line Up baud title n (codes "a_rotation_is_bounded") in
    let p0 : List ℕ = line (codes "rotation bound ") (rotation_time c.args.params.now c.args.masters) in
    let p1 : List ℕ = line (codes "rotation bound beyond ttr ") (beyond_ttr c.args.params.now c.args.masters) in
    let s0 : c.push_line.new.text.items ≡ text ++ p0 =
    c.in_ok-push_line.ensures ∙ ap (λ (n : ℕ). text ++ line (codes "rotation bound ") n) c.rotation_bound.ensures in
    let both : OnOk c.push_line-2.result (c.push_line-2.new.text.items ≡ text ++ (p0 ++ p1)) =
    front c.push_line-2.result text c.push_line.new.text.items c.push_line-2.new.text.items p0 p1 s0
    (last c.push_line-2.result c.push_line.new.text.items c.push_line-2.new.text.items (line (codes "rotation bound beyond ttr ") c.beyond_ttr.result) p1
    (ap (λ (n : ℕ). line (codes "rotation bound beyond ttr ") n) c.beyond_ttr.ensures.value) c.push_line-2.ensures) in
    subst (λ (b : Bool). OnOk c.push_line-2.result (c.push_line-2.new.text.items ≡ text ++ (if b then [] else p0 ++ p1))) (sym (not_zero c.args.masters c.if-masters-eq0.false)) both

use Rattle.std.proofs.Common.{◌≡◌, ◌∙◌, ap, sym, subst, ◌++◌, List, [], ℕ, Bool, if◌then◌else◌}
use Rattle.std.specs.Prelude.{codes, OnOk}
use Rattle.law_rings.specs.Rotation.{rotation_time}
use Rattle.pb_texts.proofs.Pieces.{front, last, not_zero}
use Rattle.pb_texts.specs.Bounds.{beyond_ttr}
use Rattle.pb_texts.specs.declared.numbers.Rounding.TheVariants.{Up}
use Rattle.pb_texts.specs.Texts.{member}
use Rattle.pb_texts.proofs.json.push_rotation.Goals as goal

pub returns : goal.returns
returns c =
    let baud = c.args.baud in
    let text = c.args.text.now.items in
    let p0 : List ℕ = member Up baud (codes ",\"rotation_bound\":") (rotation_time c.args.params.now c.args.masters) in
    let p1 : List ℕ = member Up baud (codes ",\"rotation_bound_beyond_ttr\":") (beyond_ttr c.args.params.now c.args.masters) in
    let s0 : c.push_member.new.text.items ≡ text ++ p0 =
    c.in_ok-push_member.ensures ∙ ap (λ (n : ℕ). text ++ member Up baud (codes ",\"rotation_bound\":") n) c.rotation_bound-bound.ensures in
    let both : OnOk c.push_member-2.result (c.push_member-2.new.text.items ≡ text ++ (p0 ++ p1)) =
    front c.push_member-2.result text c.push_member.new.text.items c.push_member-2.new.text.items p0 p1 s0
    (last c.push_member-2.result c.push_member.new.text.items c.push_member-2.new.text.items (member Up baud (codes ",\"rotation_bound_beyond_ttr\":") c.beyond_ttr-beyond.result) p1
    (ap (λ (n : ℕ). member Up baud (codes ",\"rotation_bound_beyond_ttr\":") n) c.beyond_ttr-beyond.ensures.value) c.push_member-2.ensures) in
    subst (λ (b : Bool). OnOk c.push_member-2.result (c.push_member-2.new.text.items ≡ text ++ (if b then [] else p0 ++ p1))) (sym (not_zero c.args.masters c.if-masters-eq0.false)) both

use Rattle.std.proofs.Common.{◌∙◌, ap, sym, refl, ◌&&◌, not, map, drop, arith, get_or, ℕ}
use Rattle.std.proofs.lemmas.Bool.{le-leb, lt-leb}
use Rattle.law_runs.specs.Quiet.{is_active}
use Rattle.pb_medium.specs.Entries.{entry_of}
use Rattle.pb_taps.proofs.Behind.{rest-as}
use Rattle.pb_world.proofs.Legal.{ends-later, silent-some}
use Rattle.pb_world.proofs.ends.Ends.is_silent.Goals as goal

pub returns-then-self-tap : goal.returns-then-self-tap
returns-then-self-tap c =
    let ends = c.args.self.now in
    let earlier = map entry_of c.args.earlier.now in
    let are = ends-later c.args.delay c.requires.0 c.args.to earlier ends c.requires.1 c.requires.2 in
    let latest : ℕ = get_or ends.latest c.args.tap 0 in
    let active = c.is_active-then-self-tap.result in
    ap (λ b. b && not active) (sym (le-leb latest c.args.from c.if-self-tap.true))
    ∙ silent-some c.args.delay c.args.tap c.args.from c.args.to earlier ends latest active (omega (arith, c.if-tap-self.false)) refl are
    (c.is_active-then-self-tap.ensures ∙ ap (λ es. is_active c.args.delay c.args.from c.args.to es c.args.tap) (rest-as entry_of c.args.earlier.now ends.begun))

pub returns-else-self-tap : goal.returns-else-self-tap
returns-else-self-tap c =
    let ends = c.args.self.now in
    let earlier = map entry_of c.args.earlier.now in
    let are = ends-later c.args.delay c.requires.0 c.args.to earlier ends c.requires.1 c.requires.2 in
    let latest : ℕ = get_or ends.latest c.args.tap 0 in
    let active = is_active c.args.delay c.args.from c.args.to (drop ends.begun earlier) c.args.tap in
    let later = lt-leb latest c.args.from c.if-self-tap.false in
    later ∙ sym (ap (λ b. b && not active) later)
    ∙ silent-some c.args.delay c.args.tap c.args.from c.args.to earlier ends latest active (omega (arith, c.if-tap-self.false)) refl are refl

use Rattle.std.proofs.Common.{◌≡◌, ◌∙◌, ◌<◌, ap, sym, refl, arith, set, get_or, ◌==◌, true, false}
use Rattle.std.proofs.lemmas.List.{set-get_or}
use Rattle.law_model.specs.Trace.{Pending}
use Rattle.law_model.specs.Medium.{heard_in_the_end}
use Rattle.pb_medium.specs.Receptions.{holds, heard_as, heard_by_tap}
use Rattle.pb_medium.proofs.Receiving.{list-length, list-get_or, list-set, came-damaged, came-whole, stays-damaged}
use Rattle.pb_medium.proofs.receptions.Reception.settle.Goals as goal

pub insert-requires : goal.insert-requires
insert-requires c = omega (arith, c.requires, c.self.invariant, list-length c.self.inside c.args.self.now c.self.view_is)

pub contains-requires : goal.contains-requires
contains-requires c = omega (arith, c.requires, c.self.invariant, list-length c.self.inside c.args.self.now c.self.view_is)

pub insert-requires-then-not-contains : goal.insert-requires-then-not-contains
insert-requires-then-not-contains c = omega (arith, c.requires, c.self.invariant, list-length c.self.inside c.args.self.now c.self.view_is)

pub returns-then-not-whole : goal.returns-then-not-whole
returns-then-not-whole c =
    let r = c.self.inside in
    let hs = c.args.self.now in
    let tap = c.args.tap in
    let there : tap < r.taps = omega (arith, c.requires, list-length r hs c.self.view_is) in
    let s = record r { damaged = c.insert.new.self } in
    let was = heard_in_the_end false (heard_by_tap r tap) in
    list-set r s hs tap was c.self.view_is refl
    (ap (λ b. heard_as (holds r.unheard tap) (tap == r.speaker) (holds r.whole tap) b) c.insert.ensures.new
    ∙ came-damaged (holds r.unheard tap) (tap == r.speaker) (holds r.whole tap) (holds r.damaged tap))
    (λ other apart. ap (λ b. heard_as (holds r.unheard other) (other == r.speaker) (holds r.whole other) b) (c.insert.ensures.others other apart))
    ∙ ap (λ h. set hs tap (heard_in_the_end false h)) (sym (list-get_or r hs tap Pending c.self.view_is there))
    ∙ ap (λ b. set hs tap (heard_in_the_end b (get_or hs tap Pending))) (sym c.if-not-whole.true)

pub returns-then-not-contains : goal.returns-then-not-contains
returns-then-not-contains c =
    let r = c.self.inside in
    let hs = c.args.self.now in
    let tap = c.args.tap in
    let there : tap < r.taps = omega (arith, c.requires, list-length r hs c.self.view_is) in
    let s = record r { whole = c.insert-then-not-contains.new.self } in
    let was = heard_in_the_end true (heard_by_tap r tap) in
    let none : holds r.damaged tap ≡ false = sym c.if-not-contains.ensures in
    list-set r s hs tap was c.self.view_is refl
    (ap (λ b. heard_as (holds r.unheard tap) (tap == r.speaker) b (holds r.damaged tap)) c.insert-then-not-contains.ensures.new
    ∙ ap (λ b. heard_as (holds r.unheard tap) (tap == r.speaker) true b) none
    ∙ came-whole (holds r.unheard tap) (tap == r.speaker) (holds r.whole tap)
    ∙ ap (λ b. heard_in_the_end true (heard_as (holds r.unheard tap) (tap == r.speaker) (holds r.whole tap) b)) (sym none))
    (λ other apart. ap (λ b. heard_as (holds r.unheard other) (other == r.speaker) b (holds r.damaged other)) (c.insert-then-not-contains.ensures.others other apart))
    ∙ ap (λ h. set hs tap (heard_in_the_end true h)) (sym (list-get_or r hs tap Pending c.self.view_is there))
    ∙ ap (λ b. set hs tap (heard_in_the_end b (get_or hs tap Pending))) (sym c.if-not-whole.false)

pub returns-else-not-contains : goal.returns-else-not-contains
returns-else-not-contains c =
    let r = c.self.inside in
    let hs = c.args.self.now in
    let tap = c.args.tap in
    let there : tap < r.taps = omega (arith, c.requires, list-length r hs c.self.view_is) in
    let some : holds r.damaged tap ≡ true = sym c.if-not-contains.ensures in
    let own : get_or hs tap Pending ≡ heard_as (holds r.unheard tap) (tap == r.speaker) (holds r.whole tap) true =
    list-get_or r hs tap Pending c.self.view_is there ∙ ap (λ b. heard_as (holds r.unheard tap) (tap == r.speaker) (holds r.whole tap) b) some in
    let same : get_or hs tap Pending ≡ heard_in_the_end true (get_or hs tap Pending) =
    own ∙ stays-damaged (holds r.unheard tap) (tap == r.speaker) (holds r.whole tap) ∙ ap (λ h. heard_in_the_end true h) (sym own) in
    sym (set-get_or hs tap Pending) ∙ ap (λ h. set hs tap h) same
    ∙ ap (λ b. set hs tap (heard_in_the_end b (get_or hs tap Pending))) (sym c.if-not-whole.false)

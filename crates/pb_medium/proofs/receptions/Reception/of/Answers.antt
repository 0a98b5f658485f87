use Rattle.std.proofs.Common.{◌≡◌, ◌∙◌, ap, sym, refl, arith, List, map, length, get_or, set, Bool, true, false, ◌==◌, if◌then◌else◌}
use Rattle.std.proofs.lemmas.List.{length-map}
use Rattle.law_model.specs.Trace.{Heard, Own, Pending, heard_at_first}
use Rattle.pb_medium.specs.Receptions.{holds, heard_as, heard_by_tap}
use Rattle.pb_medium.specs.Entries.{heard_of}
use Rattle.pb_medium.specs.declared.entries.Heard.TheVariants as heard
use Rattle.pb_taps.proofs.Items.{any-default, item-at}
use Rattle.pb_medium.proofs.HeardLists.{first-at, first-length, mixed-all, mixed-at, mixed-length, mixed-more}
use Rattle.pb_medium.proofs.Receiving.{listed-first}
use Rattle.pb_medium.proofs.receptions.Reception.of.Goals as goal

at-first : (own : Bool) → heard_as false own false false ≡ (if own then Own else Pending)
at-first true = refl
at-first false = refl

pub loop-tap-init : goal.loop-tap-init
loop-tap-init c =
    let xs = c.args.heard.now in
    let speaker = c.args.speaker in
    let whole = c.none.result in
    let damaged = c.none-2.result in
    let unheard = c.none-3.result in
    listed-first (heard_by_tap (record { taps = length xs; speaker = speaker; whole = whole; damaged = damaged; unheard = unheard })) speaker 0 (length xs) (map heard_of xs) (length-map xs heard_of)
    (λ tap.
    ap (λ b. heard_as b (tap == speaker) (holds whole tap) (holds damaged tap)) (c.none-3.ensures tap)
    ∙ ap (λ b. heard_as false (tap == speaker) b (holds damaged tap)) (c.none.ensures tap)
    ∙ ap (λ b. heard_as false (tap == speaker) false b) (c.none-2.ensures tap)
    ∙ at-first (tap == speaker))

pub note-requires-clause-inside : goal.note-requires-clause-inside
note-requires-clause-inside c =
    let hs = map heard_of c.args.heard.now in
    let fs = heard_at_first c.args.speaker 0 hs in
    omega (
      arith,
      c.loop-tap-test.true,
      ap (λ (l : List Heard). length l) c.loop-tap.invariant,
      mixed-length hs fs c.loop-tap.tap (sym (first-length c.args.speaker 0 hs)),
      first-length c.args.speaker 0 hs,
      length-map c.args.heard.now heard_of,
    )

pub note-requires-clause-first : goal.note-requires-clause-first
note-requires-clause-first c =
    let xs = c.args.heard.now in
    let hs = map heard_of xs in
    let fs = heard_at_first c.args.speaker 0 hs in
    let i = c.loop-tap.tap in
    let x = get_or xs i heard.Own in
    let at = item-at heard_of xs i x c.loop-tap-test.true (any-default xs i heard.Own x c.loop-tap-test.true) in
    ap (λ (l : List Heard). get_or l i Pending) c.loop-tap.invariant
    ∙ mixed-at hs fs i Pending (omega (arith, c.loop-tap-test.true, first-length c.args.speaker 0 hs, length-map xs heard_of)) (sym (first-length c.args.speaker 0 hs))
    ∙ first-at c.args.speaker 0 i hs (heard_of x) c.requires.own at

pub loop-tap-preserved : goal.loop-tap-preserved
loop-tap-preserved c =
    let xs = c.args.heard.now in
    let hs = map heard_of xs in
    let fs = heard_at_first c.args.speaker 0 hs in
    let i = c.loop-tap.tap in
    let x = get_or xs i heard.Own in
    let at = item-at heard_of xs i x c.loop-tap-test.true (any-default xs i heard.Own x c.loop-tap-test.true) in
    c.note.ensures
    ∙ ap (λ (l : List Heard). set l i (heard_of x)) c.loop-tap.invariant
    ∙ mixed-more hs fs i (heard_of x) (sym (first-length c.args.speaker 0 hs)) at

pub returns : goal.returns
returns c =
    let hs = map heard_of c.args.heard.now in
    let fs = heard_at_first c.args.speaker 0 hs in
    c.loop-tap.invariant
    ∙ mixed-all hs fs c.loop-tap.tap (sym (first-length c.args.speaker 0 hs)) (omega (arith, c.loop-tap-test.false, length-map c.args.heard.now heard_of))

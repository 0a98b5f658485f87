-- One letter more.
use Rattle.std.proofs.Common.{◌≡◌, ◌∙◌, ◌++◌, ◌∷◌, [], ◌<◌, ap, sym, refl, arith, map, take, length, get_or, append_assoc, Some}
use Rattle.std.specs.Prelude.{slice_get}
use Rattle.std.proofs.lemmas.List.{get_or_default, map-append, take_more}
use Rattle.std.proofs.lemmas.Option.{slice_get_read}
use Rattle.law_model.specs.Trace.{Heard}
use Rattle.pb_medium.specs.Entries.{heard_of}
use Rattle.pb_scenario.specs.Texts.{letter_of}
use Rattle.pb_scenario.proofs.texts.push_letters.Goals as goal

pub loop-tap-preserved : goal.loop-tap-preserved
loop-tap-preserved c =
    let hs = c.args.heard.now in
    let tap = c.loop-tap.tap in
    let h : Heard = heard_of c.at.result in
    let before = c.args.text.now.items in
    let within : tap < length hs = omega (arith, c.loop-tap-test.true, c.len-tap-end.ensures) in
    let read : slice_get hs tap ≡ Some (get_or hs tap h) = slice_get_read hs (length hs) tap (get_or hs tap h) refl within (get_or_default hs tap h (get_or hs tap h) within) in
    let found : slice_get hs tap ≡ Some h = c.at.ensures in
    let is : get_or hs tap h ≡ h = cc in
    c.in_ok-push.ensures.items
    ∙ ap (λ xs. xs ++ c.letter.result ∷ []) c.loop-tap.invariant
    ∙ append_assoc before (map letter_of (take tap hs)) (c.letter.result ∷ [])
    ∙ ap (λ n. before ++ (map letter_of (take tap hs) ++ n ∷ [])) (c.letter.ensures ∙ ap letter_of (sym is))
    ∙ ap (λ xs. before ++ xs) (sym (map-append letter_of (take tap hs) (get_or hs tap h ∷ [])))
    ∙ ap (λ xs. before ++ map letter_of xs) (sym (take_more hs tap h within))

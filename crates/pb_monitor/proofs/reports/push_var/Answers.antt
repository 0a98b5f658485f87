use Rattle.std.proofs.Common.{rules, ◌≡◌, ◌∙◌, ◌++◌, ap, List, ℕ, [], ◌∷◌, false}
use Rattle.std.specs.Prelude.{codes}
use Rattle.hex.specs.Hex.{encode_lower}
use Rattle.pb_decode.specs.Texts.{address_text}
use Rattle.pb_monitor.specs.TelegramWords.{head_words}
use Rattle.pb_monitor.proofs.Appending.{flat, grown, same_text}
use Rattle.pb_monitor.proofs.HexDigits.{digits_are}
use Rattle.pb_monitor.proofs.reports.push_var.Goals as goal

pub returns-clause-text : goal.returns-clause-text
returns-clause-text c =
    let t = c.args.var.now in
    let text = c.args.text.now.items in
    let piece = c.args.piece.now.items in
    let hex : c.hex_of.result ≡ encode_lower (t.fc ∷ []) = digits_are c.hex_of.result t.fc c.hex_of.ensures.len c.hex_of.ensures.high c.hex_of.ensures.low in
    let da = grown _ _ _ _ c.put_address.ensures.text c.put.ensures.items in
    let sa = grown _ _ _ _ c.put_address-2.ensures.text (grown _ _ _ _ c.put-2.ensures.items da) in
    let fc = grown _ _ _ _ (c.put-4.ensures.items ∙ ap (λ z. c.put-3.new.piece.items ++ z) hex) (grown _ _ _ _ c.put-3.ensures.items sa) in
    let front = grown _ _ _ _ c.put-5.ensures.items fc in
    let whole : c.deref.result.now ≡ c.put-5.new.piece.items = search rules in
    let line = c.in_ok-extend_from_slice.ensures.items ∙ ap (λ z. text ++ z) (whole ∙ front) in
    let octets : c.deref-2.result.now ≡ t.unit.items = search rules in
    let unit = grown _ _ _ _ (c.in_ok-push_hex.ensures ∙ ap (λ z. c.extend_from_slice.new.self.items ++ encode_lower z) octets) line in
    let bar = grown _ _ _ _ c.in_ok-extend_from_slice-2.ensures.items unit in
    let words : List ℕ = head_words t.fc false in
    same_text c.push.result c.push.new.text.items _ _
    (ap (λ z. c.extend_from_slice-2.new.self.items ++ z) c.by.ensures ∙ ap (λ z. z ++ words) bar
    ∙ flat text piece (codes "var") (codes " da=") (address_text t.da) (codes " sa=") (address_text t.sa) (codes " fc=") (encode_lower (t.fc ∷ [])) (codes " unit=") (encode_lower t.unit.items) (codes " | ") words)
    c.push.ensures

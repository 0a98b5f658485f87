use Rattle.std.proofs.Common.{◌≡◌, ◌∙◌, ap, ◌++◌, ◌∷◌, [], ℕ, List}
use Rattle.std.specs.Prelude.{codes, decimal}
use Rattle.pb_export.specs.Pieces.{all_of}
use Rattle.pb_export.specs.Json.{params_text, stations_text}
use Rattle.pb_texts.proofs.Pieces.{front, more, octets}
use Rattle.pb_export.proofs.json.push_bus.Goals as goal

pub returns : goal.returns
returns c =
    let s = c.args.scenario.now in
    let text = c.args.text.now.items in
    let p0 : List ℕ = params_text s.scenario.params in
    let p1 : List ℕ = all_of (codes ",\"until\":" ∷ decimal c.args.until ∷ codes ",\"stations\":[" ∷ []) in
    let p2 : List ℕ = stations_text 0 s.names s.scenario.taps in
    let p3 : List ℕ = codes "]}\n" in
    let q0 : List ℕ = p0 in
    let q1 : List ℕ = q0 ++ p1 in
    let q2 : List ℕ = q1 ++ p2 in
    let q3 : List ℕ = q2 ++ p3 in
    let s0 : c.push_params.new.text.items ≡ text ++ q0 = c.in_ok-push_params.ensures ∙ ap (λ (z : List ℕ). text ++ z) (ap params_text c.params.ensures) in
    let s1 : c.push_pieces.new.text.items ≡ text ++ q1 = more text c.push_params.new.text.items c.push_pieces.new.text.items q0 p1 s0 c.in_ok-push_pieces.ensures in
    let s2 : c.push_stations.new.text.items ≡ text ++ q2 = more text c.push_pieces.new.text.items c.push_stations.new.text.items q1 p2 s1 (c.in_ok-push_stations.ensures) in
    front c.extend_from_slice.result text c.push_stations.new.text.items c.extend_from_slice.new.self.items q2 p3 s2 (octets c.extend_from_slice.result c.push_stations.new.text.items c.extend_from_slice.new.self.items p3 c.extend_from_slice.ensures.items)

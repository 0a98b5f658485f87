use Rattle.std.proofs.Common.{◌∙◌, ◌∷◌, [], ap, List, ℕ}
use Rattle.std.specs.Prelude.{codes, decimal}
use Rattle.law_turn.specs.Arrivals.{arrival_of}
use Rattle.pb_telegram.specs.declared.chars.RxChar.{RxChar}
use Rattle.pb_monitor.specs.Meanings.{is_none}
use Rattle.pb_export.specs.BurstJson.{state_text}
use Rattle.pb_export.specs.Bursts.{is_damaged}
use Rattle.pb_export.specs.Pieces.{all_of}
use Rattle.pb_export.specs.Words.{truth}
use Rattle.pb_texts.proofs.Pieces.{last}
use Rattle.pb_export.proofs.burst_json.push_state.Goals as goal

-- the text of parts
abbrev of_parts : (count : ℕ) (damaged timed : List ℕ) → List ℕ
of_parts count damaged timed =
    all_of (codes "\",\"characters\":" ∷ decimal count ∷ codes ",\"damaged\":" ∷ damaged ∷ codes ",\"timed\":" ∷ timed ∷ [])

pub returns : goal.returns
returns c =
    let b = c.args.burst.now in
    let timed = c.truth-2.result.now in
    last c.push_pieces.result c.args.text.now.items c.push_pieces.new.text.items (of_parts b.count c.truth.result.now timed) (state_text b)
    (ap (λ (v : List ℕ). of_parts b.count v timed) (c.truth.ensures ∙ ap truth (c.is_damaged.ensures ∙ ap (λ (xs : List RxChar). is_none (arrival_of xs)) c.deref.ensures.0))
    ∙ ap (λ (v : List ℕ). of_parts b.count (truth (is_damaged b)) v) c.truth-2.ensures)
    c.push_pieces.ensures

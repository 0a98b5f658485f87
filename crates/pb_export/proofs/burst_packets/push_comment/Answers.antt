use Rattle.std.proofs.Common.{◌≡◌, ◌++◌, ℕ, List, ◌∙◌, ap, ◌∷◌, []}
use Rattle.std.specs.Prelude.{codes, decimal}
use Rattle.law_turn.specs.Arrivals.{arrival_of}
use Rattle.pb_telegram.specs.declared.chars.RxChar.{RxChar}
use Rattle.pb_monitor.specs.Meanings.{is_none}
use Rattle.pb_export.specs.Bursts.{is_damaged}
use Rattle.pb_export.specs.BurstPackets.{alarm_words, damage_words, holder_words}
use Rattle.pb_export.specs.Pieces.{all_of}
use Rattle.pb_texts.proofs.Pieces.{front, more}
use Rattle.pb_export.proofs.burst_packets.push_comment.Goals as goal

pub returns : goal.returns
returns c =
    let b = c.args.burst.now in
    let text = c.args.text.now.items in
    let p0 : List ℕ = all_of (codes "begin " ∷ decimal b.begin ∷ damage_words (is_damaged b) ∷ []) in
    let p1 : List ℕ = holder_words b.holder in
    let p2 : List ℕ = alarm_words b.alarm in
    let q0 : List ℕ = p0 in
    let q1 : List ℕ = q0 ++ p1 in
    let q2 : List ℕ = q1 ++ p2 in
    let s0 : c.push_pieces.new.text.items ≡ text ++ q0 = (c.in_ok-push_pieces.ensures ∙ ap (λ (z : List ℕ). text ++ z) (ap (λ (v : List ℕ). all_of (codes "begin " ∷ decimal b.begin ∷ v ∷ [])) (c.damage_words.ensures ∙ ap damage_words (c.is_damaged.ensures ∙ ap (λ (xs : List RxChar). is_none (arrival_of xs)) c.deref.ensures.0)))) in
    let s1 : c.push_holder.new.text.items ≡ text ++ q1 = more text c.push_pieces.new.text.items c.push_holder.new.text.items q0 p1 s0 (c.in_ok-push_holder.ensures) in
    front c.push_alarm.result text c.push_holder.new.text.items c.push_alarm.new.text.items q1 p2 s1 (c.push_alarm.ensures)

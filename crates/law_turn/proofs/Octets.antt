-- The octets of telegrams that have a control octet.
use Rattle.std.proofs.Common.{◌≡◌, ℕ, ◌<◌, ◌≤◌, ◌==◌, List, length, false, arith}
use Rattle.std.proofs.lemmas.Grind.{common_steps}
use Rattle.pb_cycles.specs.Fields.{Fields}
use Rattle.pb_cycles.specs.Messages.{has_bit, frame_octets}
use Rattle.law_turn.specs.Laws.{are_initiator, IsReply}
use Rattle.law_turn.proofs.Cases.{by_test}

pub frame-some : (f : Fields) → 0 < length (frame_octets f)
frame-some f =
    by_test (λ (xs : List ℕ). 0 < length xs) (length f.unit == 0) _ _ (λ _. omega arith)
    (λ _. by_test (λ (xs : List ℕ). 0 < length xs) (length f.unit == 8) _ _ (λ _. omega arith) (λ _. omega arith))

pub frame-fits : (f : Fields) → length f.unit ≤ 246 → length (frame_octets f) ≤ 255
frame-fits f fits =
    by_test (λ (xs : List ℕ). length xs ≤ 255) (length f.unit == 0) _ _ (λ _. omega arith)
    (λ _. by_test (λ (xs : List ℕ). length xs ≤ 255) (length f.unit == 8) _ _
    (λ _. grind (arith, common_steps, fits)) (λ _. grind (arith, common_steps, fits)))

frame-no_initiator : (f : Fields) → has_bit f.fc 6 ≡ false → are_initiator (frame_octets f) ≡ false
frame-no_initiator f none =
    by_test (λ (xs : List ℕ). are_initiator xs ≡ false) (length f.unit == 0) _ _ (λ _. none)
    (λ _. by_test (λ (xs : List ℕ). are_initiator xs ≡ false) (length f.unit == 8) _ _ (λ _. none) (λ _. none))

-- one whose control octet is no request's is a reply
pub frame-reply : (f : Fields) → has_bit f.fc 6 ≡ false → length f.unit ≤ 246 → IsReply (frame_octets f)
frame-reply f none fits = record { no_initiator = frame-no_initiator f none; some = frame-some f; fits = frame-fits f fits }

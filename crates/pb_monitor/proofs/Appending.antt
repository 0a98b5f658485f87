-- A text that grows by pieces.
use Rattle.std.proofs.Common.{◌≡◌, ◌∙◌, refl, sym, ap, List, [], ℕ, ◌++◌, append_assoc}
use Rattle.std.specs.Prelude.{Result, Ok, Err, OnOk, is_ok, if◌then◌else◌}

-- a piece before what follows
pub front : {E : Type 0} (r : Result (Unit {0}) E) (w x y b c : List ℕ) → x ≡ w ++ b → OnOk r (y ≡ x ++ c) → OnOk r (y ≡ w ++ (b ++ c))
front (Ok done) w x y b c is end = end ∙ ap (λ z. z ++ c) is ∙ append_assoc w b c
front (Err fault) w x y b c is end = tt

-- two pieces that are one
pub joined : {E : Type 0} (r : Result (Unit {0}) E) (w y b c whole : List ℕ) → b ++ c ≡ whole → OnOk r (y ≡ (w ++ b) ++ c) → OnOk r (y ≡ w ++ whole)
joined (Ok done) w y b c whole is end = end ∙ append_assoc w b c ∙ ap (λ z. w ++ z) is
joined (Err fault) w y b c whole is end = tt

-- a text that a list was appended to
pub extended : {E : Type 0} (r : Result (Unit {0}) E) (w y b : List ℕ) → y ≡ (if is_ok r then w ++ b else w) → OnOk r (y ≡ w ++ b)
extended (Ok done) w y b is = is
extended (Err fault) w y b is = tt

-- the same last piece
pub same_end : {E : Type 0} (r : Result (Unit {0}) E) (w y b c : List ℕ) → b ≡ c → OnOk r (y ≡ w ++ b) → OnOk r (y ≡ w ++ c)
same_end (Ok done) w y b c is end = end ∙ ap (λ z. w ++ z) is
same_end (Err fault) w y b c is end = tt

-- the same text
pub same_text : {E : Type 0} (r : Result (Unit {0}) E) (y x whole : List ℕ) → x ≡ whole → OnOk r (y ≡ x) → OnOk r (y ≡ whole)
same_text (Ok done) y x whole is end = end ∙ is
same_text (Err fault) y x whole is end = tt

-- what had another piece behind it
pub grown : (x y a b : List ℕ) → y ≡ x ++ b → x ≡ a → y ≡ a ++ b
grown x y a b end is = end ∙ ap (λ z. z ++ b) is

-- ---- a line whose front is made before its content, and the rest behind it

step : (t x y z : List ℕ) → t ++ x ≡ z → t ++ (x ++ y) ≡ z ++ y
step t x y z is = sym (append_assoc t x y) ∙ ap (λ l. l ++ y) is

-- one piece behind the content
pub line_with_end : (before after front piece content end : List ℕ) → after ++ piece ≡ (before ++ front) ++ content
    → after ++ (piece ++ end) ≡ before ++ (front ++ content ++ end)
line_with_end before after front piece content end is =
    step after piece end ((before ++ front) ++ content) is
    ∙ sym (step before (front ++ content) end ((before ++ front) ++ content) (sym (append_assoc before front content)))

-- two pieces
pub line_with_more : (before after front piece content more end : List ℕ) → after ++ piece ≡ (before ++ front) ++ content
    → after ++ (piece ++ more ++ end) ≡ before ++ (front ++ content ++ more ++ end)
line_with_more before after front piece content more end is =
    step after (piece ++ more) end (((before ++ front) ++ content) ++ more) (step after piece more ((before ++ front) ++ content) is)
    ∙ sym (step before (front ++ content ++ more) end (((before ++ front) ++ content) ++ more)
    (step before (front ++ content) more ((before ++ front) ++ content) (sym (append_assoc before front content))))

-- a line that is its content
pub line_alone : {E : Type 0} (r : Result (Unit {0}) E) (before after last front piece line content end : List ℕ) → front ≡ []
    → after ++ piece ≡ (before ++ front) ++ content → line ≡ piece ++ end → OnOk r (last ≡ after ++ line) → OnOk r (last ≡ before ++ (content ++ end))
line_alone r before after last front piece line content end none is whole on =
    same_text r last (after ++ line) (before ++ (content ++ end))
    (ap (λ z. after ++ z) whole ∙ line_with_end before after [] piece content end (is ∙ ap (λ f. (before ++ f) ++ content) none)) on

-- the pieces of a telegram with data
pub flat : (text piece v d a s b f hex u enc bar words : List ℕ)
    → (text ++ (piece ++ (v ++ d) ++ a ++ s ++ b ++ f ++ hex ++ u)) ++ enc ++ bar ++ words
    ≡ (text ++ piece) ++ (v ++ ((d ++ a ++ s ++ b ++ f ++ hex) ++ u ++ enc) ++ bar ++ words)
flat text piece v d a s b f hex u enc bar words = simp append_assoc refl

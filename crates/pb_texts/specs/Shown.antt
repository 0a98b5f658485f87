-- What is written for a file.
use Rattle.std.specs.Prelude.{ℕ, Bool, true, List}
use Rattle.pb_texts.specs.declared.shown.Shown as code

-- its bytes, and whether they report a refusal or an illegal trace
pub record Shown : Type 0 where
  pub text : List ℕ
  pub is_refused : Bool

abbrev pub shown_of : code.Shown → Shown
shown_of s = record { text = s.text.items; is_refused = s.is_refused }

abbrev pub refusal : List ℕ → Shown
refusal text = record { text = text; is_refused = true }

-- The octets of the last token or request.
use Rattle.std.specs.Prelude.{ℕ, List, Option, Some, None}

-- those of a token, if that was the last one
abbrev pub last_octets : (token : Option (List ℕ)) → (other : List ℕ) → List ℕ
last_octets (Some token) other = token
last_octets None other = other

-- The bytes of pieces.
use Rattle.std.specs.Prelude.{ℕ, ◌%◌, List, [], ◌∷◌, ◌++◌, decimal}
use Rattle.std.specs.Int.{to_le_bytes, w16, w32}
use Rattle.hex.specs.Hex.{encode_lower}
use Rattle.pb_export.specs.declared.pieces.Piece.{Piece}
use Rattle.pb_export.specs.declared.pieces.Piece.TheVariants.{Text, Number, Hex, Half, Word}

-- the low 16 and 32 bits of a number, the low octet first
abbrev pub half : ℕ → List ℕ
half n = to_le_bytes w16 (n % 65536)

abbrev pub word : ℕ → List ℕ
word n = to_le_bytes w32 (n % 4294967296)

abbrev pub piece_bytes : Piece → List ℕ
piece_bytes (Text bytes) = bytes.now
piece_bytes (Number n) = decimal n
piece_bytes (Hex octets) = encode_lower octets.now
piece_bytes (Half n) = half n
piece_bytes (Word n) = word n

-- texts one behind the other
abbrev pub all_of : List (List ℕ) → List ℕ
all_of [] = []
all_of (x ∷ []) = x
all_of (x ∷ y ∷ xs) = x ++ all_of (y ∷ xs)

-- the bytes of all pieces
abbrev pub joined : List Piece → List ℕ
joined [] = []
joined (p ∷ []) = piece_bytes p
joined (p ∷ q ∷ ps) = piece_bytes p ++ joined (q ∷ ps)

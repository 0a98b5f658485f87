-- What was appended so far, and what follows.
use Rattle.std.proofs.Common.{◌≡◌, ◌++◌, drop}
use Rattle.pb_export.specs.Pieces.{joined}
use Rattle.pb_export.proofs.pieces.push_pieces.Given as goal

abbrev pub invariant-loop-piece : goal.invariant-loop-piece
invariant-loop-piece l =
    l.text.items ++ joined (drop l.piece-index l.pieces) ≡ l.initial.text.items ++ joined l.pieces

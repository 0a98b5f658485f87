-- What may be asked for in the run of a file.
use Rattle.std.specs.Prelude.{ℕ, Option, ◌≤◌, IfSome}

-- the most workers, and the most last lines, that may be asked for
abbrev pub worker_limit : ℕ
worker_limit = 64

abbrev pub line_limit : ℕ
line_limit = 10000

-- a number that is asked for is at least 1 and at most this
abbrev pub IsUpTo : ℕ → Option ℕ → Type 0
IsUpTo most asked = IfSome asked (λ n. (1 ≤ n) × (n ≤ most))
